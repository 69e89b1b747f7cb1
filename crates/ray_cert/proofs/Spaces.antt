-- A line, cut at its spaces, gives its words.
use Rattle.std.proofs.Common.{◌≡◌, ◌≢◌, ◌∙◌, refl, sym, ap, ℕ, ◌<◌, ◌^◌, ◌==◌, Bool, true, false, List, [], ◌∷◌, ◌++◌, Option, Some, None, All, length, get_or, map, codes, decimal, arith}
use Rattle.std.specs.List.{flat_map, slice_split}
use Rattle.std.specs.Str.Parse.{AllDigits}
use Rattle.std.proofs.lemmas.Bool.{eq-eqb, false≢true, ne_eqb}
use Rattle.std.proofs.lemmas.Fmt.{decimal_is_IsNumeral}
use Rattle.std.proofs.lemmas.List.{append_assoc, append-nil}
use Rattle.std.proofs.lemmas.List.Concat.{flat_map-cons}
use Rattle.std.proofs.lemmas.List.Elements.{All-append, All-cons, All-nil}
use Rattle.std.proofs.lemmas.List.Splits.{slice_split_at, slice_split_none}
use Rattle.std.proofs.lemmas.Str.Parse.{digit_from_value}
use Rattle.ray_geom.specs.declared.frac.Frac.{Frac}
use Rattle.ray_geom.specs.Frac.{denominator, numerator}
use Rattle.ray_flags.specs.declared.kind.Kind.{Kind}
use Rattle.ray_flags.specs.declared.kind.Kind.TheVariants.{Triangle, Aabb}
use Rattle.ray_cert.specs.declared.named.Named.{Named}
use Rattle.ray_cert.specs.Certificates.{CertValue}
use Rattle.ray_cert.specs.Spelling.{IsHitSmall, IsNamedSmall, IsSpelledSmall, digit_code, head_text, hit_text, kind_word, line_of, string_text}
use Rattle.ray_cert.specs.Words.{distance_word, hit_words, line_words, named_words, string_word}

-- ---- words without a byte

abbrev pub IsOther : ℕ → ℕ → Type 0
IsOther c x = (x == c) ≡ false

digits-lack : (c : ℕ) → c < 48 → (xs : List ℕ) → AllDigits 10 xs → All (IsOther c) xs
digits-lack c low [] h = All-nil (IsOther c)
digits-lack c low (x ∷ xs) h =
    All-cons (IsOther c) x xs (ne_eqb x c (λ e. omega (arith, low, e, (digit_from_value x h.0).0))) (digits-lack c low xs h.1)

pub decimal-lacks : (c n : ℕ) → c < 48 → n < 2 ^ 64 → All (IsOther c) (decimal n)
decimal-lacks c n low fits = digits-lack c low (decimal n) (decimal_is_IsNumeral n fits).0.1

-- the same, place by place
pub none-at : (c : ℕ) (xs : List ℕ) → All (IsOther c) xs → (i : ℕ) → i < length xs → get_or xs i 0 ≢ c
none-at c xs h i within e = absurd (false≢true (sym (h i 0 within) ∙ eq-eqb (get_or xs i 0) c e))

three-lack : (a b c : ℕ) → IsOther 32 a → IsOther 32 b → IsOther 32 c → All (IsOther 32) (a ∷ b ∷ c ∷ [])
three-lack a b c p q r =
    All-cons (IsOther 32) a (b ∷ c ∷ []) p (All-cons (IsOther 32) b (c ∷ []) q (All-cons (IsOther 32) c [] r (All-nil (IsOther 32))))

kind-lacks : (kind : Kind) → All (IsOther 32) (kind_word kind)
kind-lacks Triangle = three-lack 116 114 105 refl refl refl
kind-lacks Aabb = three-lack 98 111 120 refl refl refl

none-lacks : All (IsOther 32) (codes "none")
none-lacks = All-cons (IsOther 32) 110 (111 ∷ 110 ∷ 101 ∷ []) refl (three-lack 111 110 101 refl refl refl)

cert-lacks : All (IsOther 32) (codes "cert")
cert-lacks = All-cons (IsOther 32) 99 (101 ∷ 114 ∷ 116 ∷ []) refl (three-lack 101 114 116 refl refl refl)

bar-lacks : All (IsOther 32) (codes "|")
bar-lacks = All-cons (IsOther 32) 124 [] refl (All-nil (IsOther 32))

distance-lacks : (t : Frac) → All (IsOther 32) (distance_word t)
distance-lacks t =
    let num = decimal-lacks 32 (numerator t) (omega arith) (omega (arith, t.limits.num_limit)) in
    let den = decimal-lacks 32 (denominator t) (omega arith) (omega (arith, t.limits.den_limit)) in
    All-append (IsOther 32) (decimal (numerator t)) (47 ∷ decimal (denominator t)) num (All-cons (IsOther 32) 47 (decimal (denominator t)) refl den)

digit-lacks : (d : Bool) → IsOther 32 (digit_code d)
digit-lacks false = refl
digit-lacks true = refl

digit_codes-lack : (ds : List Bool) → All (IsOther 32) (map digit_code ds)
digit_codes-lack [] = All-nil (IsOther 32)
digit_codes-lack (d ∷ ds) = All-cons (IsOther 32) (digit_code d) (map digit_code ds) (digit-lacks d) (digit_codes-lack ds)

string-lacks : (ds : List Bool) → All (IsOther 32) (string_word ds)
string-lacks [] = All-cons (IsOther 32) 45 [] refl (All-nil (IsOther 32))
string-lacks (d ∷ ds) = digit_codes-lack (d ∷ ds)

-- ---- a line, cut

abbrev pub cut : List ℕ → List (List ℕ)
cut bytes = slice_split (λ b. b == 32) bytes

cut-word : (word rest : List ℕ) → All (IsOther 32) word → cut (word ++ (32 ∷ rest)) ≡ word ∷ cut rest
cut-word word rest lacks = slice_split_at (λ b. b == 32) word 32 rest lacks refl

string-spaced : (ds : List Bool) → string_text ds ≡ 32 ∷ string_word ds
string-spaced [] = refl
string-spaced (d ∷ ds) = refl

strings-spaced : (s : List Bool) (ss : List (List Bool)) → flat_map string_text (s ∷ ss) ≡ 32 ∷ (string_word s ++ flat_map string_text ss)
strings-spaced s ss = flat_map-cons string_text s ss ∙ ap (λ (l : List ℕ). l ++ flat_map string_text ss) (string-spaced s)

cut-strings : (word : List ℕ) (ss : List (List Bool)) → All (IsOther 32) word → cut (word ++ flat_map string_text ss) ≡ word ∷ map string_word ss
cut-strings word [] lacks = ap (λ (l : List ℕ). cut l) (append-nil word) ∙ slice_split_none (λ b. b == 32) word lacks
cut-strings word (s ∷ ss) lacks =
    ap (λ (l : List ℕ). cut (word ++ l)) (strings-spaced s ss)
    ∙ (cut-word word (string_word s ++ flat_map string_text ss) lacks
    ∙ ap (λ (l : List (List ℕ)). word ∷ l) (cut-strings (string_word s) ss (string-lacks s)))

flat : (a b tail more : List ℕ) → b ++ tail ≡ more → (a ++ (32 ∷ b)) ++ tail ≡ a ++ (32 ∷ more)
flat a b tail more e = append_assoc a (32 ∷ b) tail ∙ ap (λ (l : List ℕ). a ++ (32 ∷ l)) e

head-flat : (command ray : ℕ) (named : Option Named) (tail : List ℕ)
    → head_text command ray named ++ tail
    ≡ codes "cert" ++ (32 ∷ (decimal command ++ (32 ∷ (decimal ray ++ (32 ∷ (hit_text named ++ (32 ∷ 124 ∷ tail)))))))
unfolding head_text
head-flat command ray named tail =
    ap (λ (l : List ℕ). codes "cert" ++ (32 ∷ l))
    (flat (decimal command) (decimal ray ++ (32 ∷ (hit_text named ++ codes " |"))) tail (decimal ray ++ (32 ∷ (hit_text named ++ (32 ∷ 124 ∷ tail))))
    (flat (decimal ray) (hit_text named ++ codes " |") tail (hit_text named ++ (32 ∷ 124 ∷ tail)) (append_assoc (hit_text named) (codes " |") tail)))

-- the same of a hit
abbrev spaced : Named → List ℕ → List ℕ
spaced n tail =
    kind_word n.kind ++ (32 ∷ (decimal n.instance ++ (32 ∷ (decimal n.geometry ++ (32 ∷ (decimal n.primitive ++ (32 ∷ (distance_word n.t ++ tail))))))))

hit-flat : (n : Named) (tail : List ℕ) → hit_text (Some n) ++ tail ≡ spaced n tail
unfolding hit_text
hit-flat n tail =
    let last = decimal n.primitive ++ (32 ∷ distance_word n.t) in
    let ended = decimal n.primitive ++ (32 ∷ (distance_word n.t ++ tail)) in
    flat (kind_word n.kind) (decimal n.instance ++ (32 ∷ (decimal n.geometry ++ (32 ∷ last)))) tail (decimal n.instance ++ (32 ∷ (decimal n.geometry ++ (32 ∷ ended))))
    (flat (decimal n.instance) (decimal n.geometry ++ (32 ∷ last)) tail (decimal n.geometry ++ (32 ∷ ended))
    (flat (decimal n.geometry) last tail ended
    (flat (decimal n.primitive) (distance_word n.t) tail (distance_word n.t ++ tail) refl)))

small-lacks : (n : ℕ) → n < 2 ^ 32 → All (IsOther 32) (decimal n)
small-lacks n fits = decimal-lacks 32 n (omega arith) (omega (arith, fits))

cut-named : (n : Named) (rest : List ℕ) → IsNamedSmall n → cut (spaced n (32 ∷ rest)) ≡ named_words n ++ cut rest
cut-named n rest small =
    cut-word (kind_word n.kind) _ (kind-lacks n.kind)
    ∙ ap (λ (l : List (List ℕ)). kind_word n.kind ∷ l)
    (cut-word (decimal n.instance) _ (small-lacks n.instance small.instance)
    ∙ ap (λ (l : List (List ℕ)). decimal n.instance ∷ l)
    (cut-word (decimal n.geometry) _ (small-lacks n.geometry small.geometry)
    ∙ ap (λ (l : List (List ℕ)). decimal n.geometry ∷ l)
    (cut-word (decimal n.primitive) _ (small-lacks n.primitive small.primitive)
    ∙ ap (λ (l : List (List ℕ)). decimal n.primitive ∷ l) (cut-word (distance_word n.t) rest (distance-lacks n.t)))))

none-flat : (tail : List ℕ) → hit_text None ++ tail ≡ codes "none" ++ tail
unfolding hit_text
none-flat tail = refl

cut-hit : (named : Option Named) (rest : List ℕ) → IsHitSmall named → cut (hit_text named ++ (32 ∷ rest)) ≡ hit_words named ++ cut rest
cut-hit None rest small = ap (λ (l : List ℕ). cut l) (none-flat (32 ∷ rest)) ∙ cut-word (codes "none") rest none-lacks
cut-hit (Some n) rest small = ap (λ (l : List ℕ). cut l) (hit-flat n (32 ∷ rest)) ∙ cut-named n rest small

pub cut-line : (command ray : ℕ) (cert : CertValue) → IsSpelledSmall command ray cert → cut (line_of command ray cert) ≡ line_words command ray cert
cut-line command ray cert small =
    let tail : List ℕ = flat_map string_text cert.strings in
    let third : List ℕ = hit_text cert.named ++ (32 ∷ 124 ∷ tail) in
    let second : List ℕ = decimal ray ++ (32 ∷ third) in
    let first : List ℕ = decimal command ++ (32 ∷ second) in
    ap (λ (l : List ℕ). cut l) (head-flat command ray cert.named tail)
    ∙ (cut-word (codes "cert") first cert-lacks
    ∙ ap (λ (l : List (List ℕ)). codes "cert" ∷ l)
    (cut-word (decimal command) second (small-lacks command small.command_small)
    ∙ ap (λ (l : List (List ℕ)). decimal command ∷ l)
    (cut-word (decimal ray) third (small-lacks ray small.ray_small)
    ∙ ap (λ (l : List (List ℕ)). decimal ray ∷ l)
    (cut-hit cert.named (124 ∷ tail) small.hit_small
    ∙ ap (λ (l : List (List ℕ)). hit_words cert.named ++ l) (cut-strings (codes "|") cert.strings bar-lacks)))))
