-- Marks of the numbers so far, of which none stood twice.
use Rattle.std.proofs.Common.{◌≡◌, ◌≢◌, ◌∙◌, ◌+◌, ◌<◌, ◌≤◌, ◌++◌, inl, inr, ℕ, Bool, true, false, cond, List, [], ◌∷◌, length, take, get_or, set, sym, ap, subst, arith, zero-add, get_or-set_other, get_or-set_same, length-set}
use Rattle.std.specs.Prelude.{◌↔◌, IsTrue}
use Rattle.std.specs.List.{All}
use Rattle.std.proofs.lemmas.Bool.{cases_eq, ne_eqb, false≢true}
use Rattle.std.proofs.lemmas.Bool.Decides.{nat_tests}
use Rattle.std.proofs.lemmas.List.{take_more, take_all}
use Rattle.std.proofs.lemmas.List.Elements.{All-nil, All-push}
use Rattle.std.proofs.lemmas.List.Sums.{sum_by-take-le, sum_by_more}
use Rattle.ray_tree.specs.Trees.{times}
use Rattle.ray_tree.proofs.Counting.{one, either}
use Rattle.ray_stated.specs.Apart.{AreApart}
use Rattle.ray_stated.proofs.Numbers.{holds_of, times-append}

pub record IsMarked (limit : ℕ) (seen : List ℕ) (marks : List Bool) : Type 0 where
  pub long : length marks ≡ limit
  pub below : All (λ p. p < limit) seen
  pub counted : (q : ℕ) → q < limit → times q seen ≡ cond (get_or marks q false) 1 0

pub none_marked : (limit : ℕ) (marks : List Bool) → length marks ≡ limit → All (λ m. m ≡ false) marks → IsMarked limit [] marks
none_marked limit marks long none = record {
  long = long;
  below = All-nil (λ p. p < limit);
  counted = λ q lt. ap {B = ℕ} (λ b. cond b 1 0) (sym (none q false (omega (arith, long, lt))));
}

itself : (p : ℕ) → one p p ≡ 1
itself p = grind (arith, nat_tests)

different : (p q : ℕ) → (q ≡ p → ⊥) → one p q ≡ 0
different p q ne = ap {B = ℕ} (λ b. cond b 1 0) (ne_eqb q p ne)

times-last : (q p : ℕ) (seen : List ℕ) → times q (seen ++ (p ∷ [])) ≡ times q seen + one q p
times-last q p seen = times-append q seen (p ∷ []) ∙ ap (λ n. times q seen + n) (zero-add (one q p))

-- one number more, which was not marked
pub marked_more : (limit : ℕ) (numbers : List ℕ) (k p : ℕ) (marks : List Bool) → k < length numbers → get_or numbers k 0 ≡ p → p < limit
    → get_or marks p false ≡ false → IsMarked limit (take k numbers) marks → IsMarked limit (take (k + 1) numbers) (set marks p true)
marked_more limit numbers k p marks lt at low free m =
    let seen = take k numbers in
    let more : take (k + 1) numbers ≡ seen ++ (p ∷ []) = take_more numbers k 0 lt ∙ ap (λ n. seen ++ (n ∷ [])) at in
    let small : p < length marks = let l = m.long in omega arith in
    subst (λ l. IsMarked limit l (set marks p true)) (sym more)
    (record {
      long = length-set marks p true ∙ m.long;
      below = All-push (λ q. q < limit) seen p m.below low;
      counted = λ q within. elim (cases_eq q p) [
        | inl same ↦
            subst (λ n. times n (seen ++ (p ∷ [])) ≡ cond (get_or (set marks p true) n false) 1 0) (sym same)
            (omega (
              arith,
              times-last p p seen,
              itself p,
              m.counted p low,
              ap {B = ℕ} (λ b. cond b 1 0) free,
              ap {B = ℕ} (λ b. cond b 1 0) (get_or-set_same marks p true false small),
            ))
        | inr ne ↦ (let apart : q ≢ p = ne in
            omega (
              arith,
              times-last q p seen,
              different q p (λ e. ne (sym e)),
              m.counted q within,
              ap {B = ℕ} (λ b. cond b 1 0) (get_or-set_other marks p q true false apart),
            ))
      ];
    })

few_times : (b : Bool) → cond b 1 0 ≤ 1
few_times true = omega arith
few_times false = omega arith

-- all of them
pub marked_all : (limit : ℕ) (numbers : List ℕ) (k : ℕ) (marks : List Bool) → k ≡ length numbers → IsMarked limit (take k numbers) marks → AreApart limit numbers
marked_all limit numbers k marks all m =
    let whole : take k numbers ≡ numbers = take_all k numbers (omega (arith, all)) in
    record {
      below = subst (All (λ p. p < limit)) whole m.below;
      once = λ p. elim (either 0 (times p numbers)) [
        | inl some ↦ (let low : p < limit = holds_of (λ q. q < limit) p numbers (subst (All (λ q. q < limit)) whole m.below) some in
            omega (arith, ap (times p) whole, m.counted p low, few_times (get_or marks p false)))
        | inr none ↦ omega (arith, none)
      ];
    }

-- one that is marked already
pub seen_twice : (limit : ℕ) (numbers : List ℕ) (k p : ℕ) (marks : List Bool) → k < length numbers → get_or numbers k 0 ≡ p → p < limit
    → get_or marks p false ≡ true → IsMarked limit (take k numbers) marks → IsTrue false ↔ AreApart limit numbers
seen_twice limit numbers k p marks lt at low marked m =
    let seen = take k numbers in
    let twice : times p (take (k + 1) numbers) ≡ times p seen + one p (get_or numbers k 0) = sum_by_more (λ r. one p r) numbers k 0 lt in
    let here : one p (get_or numbers k 0) ≡ 1 = ap (one p) at ∙ itself p in
    let before : times p seen ≡ 1 = m.counted p low ∙ ap {B = ℕ} (λ b. cond b 1 0) marked in
    let part : times p (take (k + 1) numbers) ≤ times p numbers = sum_by-take-le (λ r. one p r) numbers (k + 1) in
    (λ h. absurd (false≢true h), λ a. absurd (let once = a.once p in omega (arith, twice, here, before, part, once)))
