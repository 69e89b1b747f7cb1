-- What is read of the words of a line is what they spell.
use Rattle.std.proofs.Common.{◌≡◌, ◌∙◌, refl, sym, ap, subst, ℕ, ◌+◌, ◌*◌, ◌≤◌, ◌-◌, ◌==◌, ◌↔◌, Bool, true, false, List, [], ◌∷◌, Option, Some, None, IfSome, IsSome, MatchOption, Bor, IfOk, Result, Ok, Err, decimal, drop, length, map, take, lit<, arith}
use Rattle.std.specs.Option.{unwrap_or}
use Rattle.std.proofs.lemmas.Bool.{false≢true}
use Rattle.std.proofs.lemmas.List.{drop-map, take_all}
use Rattle.std.proofs.lemmas.Grind.{common_steps}
use Rattle.std.proofs.lemmas.Str.Pattern.{IsSplitOnceResult, split_after}
use Rattle.ray_geom.specs.declared.frac.Frac.{Frac}
use Rattle.ray_geom.specs.Frac.{denominator, numerator}
use Rattle.ray_geom.specs.Fraction.{IsFraction, IsSameValue}
use Rattle.ray_cert.specs.declared.named.Named.{Named}
use Rattle.ray_cert.specs.declared.reading.ReadCert.{ReadCert}
use Rattle.ray_cert.specs.Certificates.{CertValue}
use Rattle.ray_cert.specs.Spelling.{IsSpelledSmall, digit_code, line_of}
use Rattle.ray_cert.specs.Words.{digits_of_word, distance_word, hit_words, line_words, string_word, texts}
use Rattle.ray_cert.proofs.Spaces.{cut, cut-line, decimal-lacks, none-at}

pub texts-from : (words : List (Bor (List ℕ))) (k : ℕ) → k ≤ length words → texts (take (length words - k) (drop k words)) ≡ drop k (texts words)
texts-from words k within =
    ap (λ (l : List (Bor (List ℕ))). texts l) (take_all (length words - k) (drop k words) (grind (arith, common_steps)))
    ∙ sym (drop-map (λ w. w.now) k words)

-- ---- a distance

pub fraction-is : (num den : ℕ) (r : Option Frac) (other t : Frac) → num ≡ numerator t → den ≡ denominator t → (IsSome r ↔ IsFraction num den)
    → IfSome r (λ f. (g : Frac) → IsSameValue (numerator g) (denominator g) num den → g ≡ f) → unwrap_or r other ≡ t
fraction-is num den None other t same below some only =
    let limits = t.limits in
    let there : IsFraction num den = record {
      den_positive = omega (arith, below, limits.den_positive);
      den_limit = omega (arith, below, limits.den_limit);
      num_limit = omega (arith, same, limits.num_limit);
    } in
    absurd (false≢true (some.1 there))
fraction-is num den (Some f) other t same below some only =
    sym (only t (ap (λ (d : ℕ). numerator t * d) below ∙ ap (λ (n : ℕ). n * denominator t) (sym same)))

abbrev IsCutAs : Frac → Option (Bor (List ℕ) × Bor (List ℕ)) → Type 0
IsCutAs t r = MatchOption r ⊥ (λ x. (x.0.now ≡ decimal (numerator t)) × (x.1.now ≡ decimal (denominator t)))

pub distance-cut : (t : Frac) (word : List ℕ) (r : Option (Bor (List ℕ) × Bor (List ℕ))) → IsSplitOnceResult 47 word r → word ≡ distance_word t
    → MatchOption r ⊥ (λ x. (x.0.now ≡ decimal (numerator t)) × (x.1.now ≡ decimal (denominator t)))
distance-cut t word r once is =
    split_after 47 word (decimal (numerator t)) (decimal (denominator t)) r once (lit< tt) is
    (none-at 47 (decimal (numerator t)) (decimal-lacks 47 (numerator t) (omega arith) (omega (arith, t.limits.num_limit))))

pub distance-uncut : (t : Frac) (word : List ℕ) (r : Option (Bor (List ℕ) × Bor (List ℕ))) → IsSplitOnceResult 47 word r → r ≡ None → word ≡ distance_word t → ⊥
distance-uncut t word r once none is = subst (λ o. IsCutAs t o) none (distance-cut t word r once is)

-- ---- strings

digits-back : (ds : List Bool) → map (λ b. b == 49) (map digit_code ds) ≡ ds
digits-back [] = refl
digits-back (false ∷ ds) = ap (λ (l : List Bool). false ∷ l) (digits-back ds)
digits-back (true ∷ ds) = ap (λ (l : List Bool). true ∷ l) (digits-back ds)

string-back : (ds : List Bool) → digits_of_word (string_word ds) ≡ ds
string-back [] = refl
string-back (false ∷ ds) = digits-back (false ∷ ds)
string-back (true ∷ ds) = digits-back (true ∷ ds)

strings-back : (ss : List (List Bool)) → map digits_of_word (map string_word ss) ≡ ss
strings-back [] = refl
strings-back (s ∷ ss) = λ i. string-back s i ∷ strings-back ss i

strings-behind : (command ray : ℕ) (named : Option Named) (ss : List (List Bool))
    → drop (4 + length (hit_words named)) (line_words command ray (record { named = named; strings = ss })) ≡ map string_word ss
strings-behind command ray None ss = refl
strings-behind command ray (Some n) ss = refl

-- ---- a line

pub words-made : (command ray : ℕ) (cert : CertValue) (words : List (List ℕ)) (r : ReadCert) (named : Option Named) (strings : List (List Bool))
    → words ≡ line_words command ray cert → r.command ≡ command → r.ray ≡ ray → r.cert ≡ record { named = named; strings = strings }
    → named ≡ cert.named → strings ≡ map digits_of_word (drop (4 + length (hit_words named)) words)
    → r ≡ record { command = command; ray = ray; cert = cert }
words-made command ray cert words r named strings e one two made hit behind =
    let read : strings ≡ cert.strings =
    behind ∙ ((λ i. map digits_of_word (drop (4 + length (hit_words (hit i))) (e i)))
    ∙ (ap (λ (l : List (List ℕ)). map digits_of_word l) (strings-behind command ray cert.named cert.strings) ∙ strings-back cert.strings)) in
    let whole : r.cert ≡ cert = made ∙ (λ i. record { named = hit i; strings = read i }) in
    λ i. record { command = one i; ray = two i; cert = whole i }

-- what a line of words is read as, so it is of the line that is cut into them
abbrev pub IsReadAs : ReadCert → (ℕ → ℕ → CertValue → Type 0) → Type 0
IsReadAs r spells =
    (command ray : ℕ) (cert : CertValue) → IsSpelledSmall command ray cert → spells command ray cert → r ≡ record { command = command; ray = ray; cert = cert }

pub line-read : {E : Type 0} (line : List ℕ) (words : List (List ℕ)) (o : Result ReadCert E) → words ≡ cut line
    → IfOk o (λ r. IsReadAs r (λ command ray cert. words ≡ line_words command ray cert))
    → IfOk o (λ r. IsReadAs r (λ command ray cert. line ≡ line_of command ray cert))
line-read line words (Ok r) is h = λ command ray cert small e. h command ray cert small (is ∙ (ap (λ (l : List ℕ). cut l) e ∙ cut-line command ray cert small))
line-read line words (Err x) is h = tt
