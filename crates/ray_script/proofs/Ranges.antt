-- The rules that aren't refused are those of a script.
use Rattle.std.proofs.Common.{◌≡◌, ◌∙◌, ◌≤◌, ◌+◌, ℕ, suc, Bool, true, false, not, List, [], ◌∷◌, Option, Some, None, length, refl, sym, subst, arith}
use Rattle.std.specs.Prelude.{All, cond, find, nat_lt, position}
use Rattle.std.specs.List.{position_or_len, prefix_len}
use Rattle.std.proofs.lemmas.Bool.Decides.{nat_tests}
use Rattle.std.proofs.lemmas.List.{take_all}
use Rattle.std.proofs.lemmas.List.Elements.{All-cons, All-nil, All-tail}
use Rattle.ray_script.specs.declared.raw_rule.RawRule.{RawRule}
use Rattle.ray_script.specs.Scripts.{IsScript, first_bad, is_in_range, or_too_many, refused_at}

-- a list of which the longest prefix that passes is the whole passes
prefix_whole : {X : Type 0} (p : X → Bool) (xs : List X) → length xs ≤ prefix_len p xs → All (λ x. p x ≡ true) xs
prefix_whole p [] whole = All-nil _
prefix_whole p (x ∷ xs) whole = by_first (p x) refl whole (prefix_whole p xs) where
  by_first : (b : Bool) → p x ≡ b → suc (length xs) ≤ cond b (1 + prefix_len p xs) 0
      → (length xs ≤ prefix_len p xs → All (λ y. p y ≡ true) xs) → All (λ y. p y ≡ true) (x ∷ xs)
  by_first true passes below rest = All-cons (λ y. p y ≡ true) x xs passes (rest (omega (arith, below)))
  by_first false fails below rest = absurd (omega (arith, below))

-- no place is found only where the search comes to the end
ends : (place count : ℕ) → cond (nat_lt place count) (Some place) None ≡ None → count ≤ place
ends place count none = by_test (nat_lt place count) refl none where
  by_test : (b : Bool) → nat_lt place count ≡ b → cond b (Some place) None ≡ None → count ≤ place
  by_test true below none = absurd cc
  by_test false above none = grind (arith, nat_tests)

double_not : (b : Bool) → not (not b) ≡ b
double_not true = refl
double_not false = refl

-- where no place is found, none passes
none_at : (test : RawRule → Bool) (rules : List RawRule) → position (λ rule. not (test rule)) rules ≡ None → All (λ rule. test rule ≡ true) rules
none_at test rules none =
    λ k d below. sym (double_not _)
    ∙ prefix_whole (λ rule. not (not (test rule))) rules (ends (position_or_len (λ rule. not (test rule)) rules) (length rules) none) k d below

-- what stands behind an answer that refuses nothing
nothing_bad : (count : ℕ) (bad : Option ℕ) → or_too_many count bad ≡ None → bad ≡ None
nothing_bad count None none = refl
nothing_bad count (Some k) none = absurd cc

not_many : (count : ℕ) (bad : Option ℕ) → or_too_many count bad ≡ None → count ≤ 4096
not_many count None none = by_test (nat_lt 4096 count) refl none where
  by_test : (b : Bool) → nat_lt 4096 count ≡ b → cond {A = Option ℕ} b (Some 4096) None ≡ None → count ≤ 4096
  by_test true below none = absurd cc
  by_test false above none = grind (arith, nat_tests)
not_many count (Some k) none = absurd cc

pub IsScript-from_refused : (rules : List RawRule) → refused_at rules ≡ None → IsScript rules
IsScript-from_refused rules none =
    let few : length rules ≤ 4096 = not_many (length rules) (first_bad rules) none in
    let all : first_bad rules ≡ None = nothing_bad (length rules) (first_bad rules) none in
    record {
      in_range = none_at is_in_range rules
          (subst (λ rs. position (λ rule. not (is_in_range rule)) rs ≡ None) (take_all 4096 rules few) all);
      few = few;
    }

-- what holds of all rules holds of the one that is found
pub find-holds : (P : RawRule → Type 0) (test : RawRule → Bool) (rules : List RawRule) (rule : RawRule) → All P rules → find test rules ≡ Some rule → P rule
find-holds P test [] rule all found = absurd cc
find-holds P test (first ∷ rest) rule all found = by_first (test first) found (find-holds P test rest rule (All-tail P first rest all)) where
  by_first : (b : Bool) → cond b (Some first) (find test rest) ≡ Some rule → (find test rest ≡ Some rule → P rule) → P rule
  by_first true same later = let is : first ≡ rule = cc in subst P is (all 0 first (omega arith))
  by_first false there later = later there
