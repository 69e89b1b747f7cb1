-- Texts that are made record after record, and number after number.
use Rattle.std.proofs.Common.{ℕ, zero, suc, ◌≡◌, ◌+◌, ◌*◌, ◌/◌, ◌++◌, List, [], ◌∷◌, length, take, drop, map, refl, ap, sym, subst, ◌∙◌, arith}
use Rattle.std.specs.Prelude.{◌==◌, if◌then◌else◌, decimal, codes, Option, Some, None, Result, Ok, Err, IsSome, IfOk, unwrap_or}
use Rattle.std.specs.List.{flat_map, range_with_len}
use Rattle.std.proofs.lemmas.Bool.Decides.{nat_tests}
use Rattle.std.proofs.lemmas.Bool.{cond-false}
use Rattle.std.proofs.lemmas.List.{append_assoc, append-nil}
use Rattle.ray_bytes.specs.Hits.{hit_of_bytes}
use Rattle.ray_cmd.specs.declared.command.Command.{Command}
use Rattle.ray_cmd.specs.declared.command.Command.TheVariants as commands
use Rattle.ray_cmd.specs.declared.read_form.ReadForm.{ReadForm}
use Rattle.ray_rules.specs.declared.byte_range.ByteRange.{ByteRange}
use Rattle.ray_rules.specs.Ranges.{range}
use Rattle.ray_action.specs.Memory.{Memory, bytes_at}
use Rattle.ray_action.specs.Action.{ShowBytes}
use Rattle.ray_action.specs.Clients.{Meaning}
use Rattle.ray_action.specs.Outcomes.{bytes_outcome, outcome_of}
use Rattle.ray_action.specs.Pieces.{host_action}
use Rattle.ray_action.specs.Readiness.{IsReady}
use Rattle.ray_action.specs.Running.{text_with}
use Rattle.ray_action.specs.Text.{hit_line, line_at, hits_text, number_at, numbers_line, spaced, after_blank, bytes_text}

-- the numbers from n on, one more
range-suc : (n m : ℕ) → range_with_len n (suc m) ≡ range_with_len n m ++ (n + m) ∷ []
range-suc n zero = let same : n + 0 ≡ n = omega arith in ap (λ k. k ∷ []) (sym same)
range-suc n (suc m) =
    let same : (n + 1) + m ≡ n + suc m = omega arith in
    ap (λ ks. n ∷ ks) (range-suc (n + 1) m ∙ ap (λ k. range_with_len (n + 1) m ++ k ∷ []) same)

range-more : (n m : ℕ) → range_with_len n (m + 1) ≡ range_with_len n m ++ (n + m) ∷ []
range-more n m = let next : m + 1 ≡ suc m = omega arith in ap (range_with_len n) next ∙ range-suc n m

flat_map-more : {X : Type 0} (f : ℕ → List X) (xs : List ℕ) (x : ℕ) → flat_map f (xs ++ x ∷ []) ≡ flat_map f xs ++ f x
flat_map-more f [] x = append-nil (f x)
flat_map-more f (y ∷ ys) x = ap (λ zs. f y ++ zs) (flat_map-more f ys x) ∙ sym (append_assoc (f y) (flat_map f ys) (f x))

-- ---- hits

-- the lines of the first n records
unfoldable pub first_hits : List ℕ → ℕ → List ℕ
first_hits bytes n = flat_map (line_at bytes) (range_with_len 0 n)

pub hits_none : (bytes : List ℕ) → first_hits bytes 0 ≡ []
unfolding first_hits
hits_none bytes = refl

pub hits_more : (bytes : List ℕ) (n : ℕ) → first_hits bytes (n + 1) ≡ first_hits bytes n ++ hit_line n (hit_of_bytes (take 80 (drop (80 * n) bytes)))
unfolding first_hits
hits_more bytes n =
    let same : 0 + n ≡ n = omega arith in
    ap (flat_map (line_at bytes)) (range-more 0 n ∙ ap (λ k. range_with_len 0 n ++ k ∷ []) same)
    ∙ flat_map-more (line_at bytes) (range_with_len 0 n) n

pub hits_all : (bytes : List ℕ) → hits_text bytes ≡ first_hits bytes (length bytes / 80)
unfolding first_hits hits_text
hits_all bytes = refl

-- ---- numbers

map-more : (f : ℕ → ℕ) (xs : List ℕ) (x : ℕ) → map f (xs ++ x ∷ []) ≡ map f xs ++ f x ∷ []
map-more f [] x = refl
map-more f (y ∷ ys) x = ap (λ zs. f y ∷ zs) (map-more f ys x)

-- the text of one number more
spaced-more : (x : ℕ) (xs : List ℕ) (n : ℕ) → spaced ((x ∷ xs) ++ n ∷ []) ≡ spaced (x ∷ xs) ++ after_blank n
spaced-more x xs n = ap (λ zs. decimal x ++ zs) (flat_map-more after_blank xs n) ∙ sym (append_assoc (decimal x) (flat_map after_blank xs) (after_blank n))

-- the text of the first n numbers
unfoldable pub first_numbers : List ℕ → ℕ → List ℕ
first_numbers bytes n = spaced (map (number_at bytes) (range_with_len 0 n))

pub numbers_none : (bytes : List ℕ) → first_numbers bytes 0 ≡ []
unfolding first_numbers
numbers_none bytes = refl

step : (f : ℕ → ℕ) (n : ℕ) → spaced (map f (range_with_len 0 n) ++ f n ∷ []) ≡ spaced (map f (range_with_len 0 n)) ++ (if n == 0 then decimal (f n) else after_blank (f n))
step f zero = append-nil (decimal (f 0))
step f (suc n) =
    spaced-more (f 0) (map f (range_with_len 1 n)) (f (suc n))
    ∙ ap (λ t. spaced (map f (range_with_len 0 (suc n))) ++ t) (sym (cond-false (suc n == 0) _ _ (grind (arith, nat_tests))))

pub numbers_more : (bytes : List ℕ) (n : ℕ) → first_numbers bytes (n + 1) ≡ first_numbers bytes n ++ (if n == 0 then decimal (number_at bytes n) else after_blank (number_at bytes n))
unfolding first_numbers
numbers_more bytes n =
    let same : 0 + n ≡ n = omega arith in
    ap (λ ks. spaced (map (number_at bytes) ks)) (range-more 0 n ∙ ap (λ k. range_with_len 0 n ++ k ∷ []) same)
    ∙ (ap spaced (map-more (number_at bytes) (range_with_len 0 n) n) ∙ step (number_at bytes) n)

pub numbers_all : (bytes : List ℕ) → numbers_line bytes ≡ first_numbers bytes (length bytes / 8) ++ codes "\n"
unfolding first_numbers numbers_line
numbers_all bytes = refl

-- ---- what a `read` shows

pub read-ready : (command : Command) (buffer offset size : ℕ) (form : ReadForm) (m : Memory) → command ≡ commands.Read buffer offset size form
    → IsReady (host_action command) m → IsSome (bytes_at m (range buffer offset size))
unfolding host_action
read-ready command buffer offset size form m is ready = subst (λ c. IsReady (host_action c) m) is ready

shown : (form : ReadForm) (r : ByteRange) (bytes : Option (List ℕ)) → IsSome bytes → text_with (ShowBytes r form) (bytes_outcome bytes) ≡ bytes_text form (unwrap_or bytes [])
shown form r None there = absurd cc
shown form r (Some bytes) there = refl

pub read-text : (meaning : Meaning) (command : Command) (buffer offset size : ℕ) (form : ReadForm) (m : Memory) → command ≡ commands.Read buffer offset size form
    → IsReady (host_action command) m
    → text_with (host_action command) (outcome_of meaning (host_action command) m) ≡ bytes_text form (unwrap_or (bytes_at m (range buffer offset size)) [])
unfolding host_action
read-text meaning command buffer offset size form m is ready =
    ap (λ c. text_with (host_action c) (outcome_of meaning (host_action c) m)) is
    ∙ shown form (range buffer offset size) (bytes_at m (range buffer offset size)) (read-ready command buffer offset size form m is ready)

-- what follows of the value of an Ok
pub if-ok : {X E : Type 0} (r : Result X E) (P Q : X → Type 0) → ((x : X) → P x → Q x) → IfOk r P → IfOk r Q
if-ok (Ok x) P Q f p = f x p
if-ok (Err e) P Q f p = tt
