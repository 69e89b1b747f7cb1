-- Keys that are the same from a bit up, and cuts of them.
use Rattle.std.proofs.Common.{◌≡◌, ◌∙◌, ◌+◌, ◌-◌, ◌/◌, ◌%◌, ◌^◌, ◌<◌, ◌≤◌, inl, inr, ◌++◌, ℕ, List, [], ◌∷◌, length, take, drop, sym, ap, subst, arith}
use Rattle.std.specs.List.{All}
use Rattle.std.proofs.Math.Nat.{div-div-eq-div-mul}
use Rattle.std.proofs.lemmas.Nat.{pow-add}
use Rattle.std.proofs.lemmas.List.Elements.{All-head, All-tail, All-append, All-weaker, All-take, All-drop}
use Rattle.ray_tree.proofs.Counting.{either}
use Rattle.ray_morton.specs.Cuts.{AreSame, AreAt, IsCut}

-- the bits from further up
pub further : (n k d : ℕ) → n / 2 ^ (k + d) ≡ n / 2 ^ k / 2 ^ d
further n k d = ap (λ m. n / m) (pow-add 2 k d) ∙ sym (div-div-eq-div-mul n (2 ^ k) (2 ^ d))

pub same_further : (bit more : ℕ) (keys : List ℕ) → bit ≤ more → AreSame bit keys → AreSame more keys
same_further bit more keys le same =
    let d = more - bit in
    let e : bit + d ≡ more = omega arith in
    record {
      part = same.part / 2 ^ d;
      each = All-weaker (λ key. key / 2 ^ bit ≡ same.part) (λ key. key / 2 ^ more ≡ same.part / 2 ^ d)
          (λ key is. sym (ap (λ k. key / 2 ^ k) e) ∙ further key bit d ∙ ap (λ q. q / 2 ^ d) is) keys same.each;
    }

pub same_take : (n bit : ℕ) (keys : List ℕ) → AreSame bit keys → AreSame bit (take n keys)
same_take n bit keys same = record { part = same.part; each = All-take (λ key. key / 2 ^ bit ≡ same.part) n keys same.each }

pub same_drop : (n bit : ℕ) (keys : List ℕ) → AreSame bit keys → AreSame bit (drop n keys)
same_drop n bit keys same = record { part = same.part; each = All-drop (λ key. key / 2 ^ bit ≡ same.part) n keys same.each }

right_of : (P : ℕ → Type 0) (ls rs : List ℕ) → All P (ls ++ rs) → All P rs
right_of P [] rs all = all
right_of P (l ∷ ls) rs all = right_of P ls rs (All-tail P l (ls ++ rs) all)

-- where the bit changes, the keys aren't the same from it up
pub not_same : (bit part : ℕ) (ls rs : List ℕ) → 0 < length ls → 0 < length rs → All (λ key. key / 2 ^ bit ≡ part) ls
    → All (λ key. key / 2 ^ bit ≡ part + 1) rs → AreSame bit (ls ++ rs) → ⊥
not_same bit part [] rs some rest lefts rights same = absurd (omega arith)
not_same bit part (l ∷ ls) [] some rest lefts rights same = absurd (omega arith)
not_same bit part (l ∷ ls) (r ∷ rs) some rest lefts rights same =
    let P : ℕ → Type 0 = λ key. key / 2 ^ bit ≡ same.part in
    let a = All-head (λ key. key / 2 ^ bit ≡ part) l ls lefts in
    let b = All-head (λ key. key / 2 ^ bit ≡ part + 1) r rs rights in
    let c = All-head P l (ls ++ (r ∷ rs)) same.each in
    let d = All-head P r rs (right_of P (l ∷ ls) (r ∷ rs) same.each) in
    absurd (omega (arith, a, b, c, d))

-- but they are from the next bit up, where it changes from 0 to 1
pub same_above : (bit part : ℕ) (ls rs : List ℕ) → part % 2 ≡ 0 → All (λ key. key / 2 ^ bit ≡ part) ls → All (λ key. key / 2 ^ bit ≡ part + 1) rs
    → AreSame (bit + 1) (ls ++ rs)
same_above bit part ls rs even lefts rights = record {
  part = part / 2;
  each = All-append (λ key. key / 2 ^ (bit + 1) ≡ part / 2) ls rs
      (All-weaker (λ key. key / 2 ^ bit ≡ part) (λ key. key / 2 ^ (bit + 1) ≡ part / 2) (λ key is. further key bit 1 ∙ ap (λ q. q / 2) is) ls lefts)
      (All-weaker (λ key. key / 2 ^ bit ≡ part + 1) (λ key. key / 2 ^ (bit + 1) ≡ part / 2)
      (λ key is. further key bit 1 ∙ ap (λ q. q / 2) is ∙ omega (arith, even)) rs rights);
}

at_bit : (bit part value : ℕ) (keys : List ℕ) → part % 2 ≡ value → All (λ key. key / 2 ^ bit ≡ part) keys → AreAt bit value keys
at_bit bit part value keys is all =
    All-weaker (λ key. key / 2 ^ bit ≡ part) (λ key. key / 2 ^ bit % 2 ≡ value) (λ key e. ap (λ q. q % 2) e ∙ is) keys all

-- it is the highest bit that differs
only : (bit other : ℕ) (keys : List ℕ) → AreSame (bit + 1) keys → (AreSame bit keys → ⊥) → AreSame (other + 1) keys → (AreSame other keys → ⊥) → bit ≡ other
only bit other keys above not above' not' = elim (either bit other) [
  | inl a ↦ absurd (not' (same_further (bit + 1) other keys (omega arith) above))
  | inr b ↦ elim (either other bit) [
    | inl c ↦ absurd (not (same_further (other + 1) bit keys (omega arith) above'))
    | inr d ↦ omega arith
  ]
]

pub cut_by_bit : (bit part : ℕ) (ls rs : List ℕ) → 4 < length ls + length rs → 0 < length ls → 0 < length rs → part % 2 ≡ 0
    → All (λ key. key / 2 ^ bit ≡ part) ls → All (λ key. key / 2 ^ bit ≡ part + 1) rs → IsCut ls rs
cut_by_bit bit part ls rs many some rest even lefts rights =
    let not : AreSame bit (ls ++ rs) → ⊥ = not_same bit part ls rs some rest lefts rights in
    let above = same_above bit part ls rs even lefts rights in
    record {
      many = many;
      halves = λ same. absurd (not (same_further 0 bit (ls ++ rs) (omega arith) same));
      changes = λ other above' not'.
          subst (λ k. AreAt k 0 ls × AreAt k 1 rs) (only bit other (ls ++ rs) above not above' not')
          (at_bit bit part 0 ls even lefts, at_bit bit (part + 1) 1 rs (omega (arith, even)) rights);
    }

-- equal keys in halves
pub cut_in_halves : (ls rs : List ℕ) → 4 < length ls + length rs → length ls ≡ (length ls + length rs + 1) / 2 → AreSame 0 (ls ++ rs) → IsCut ls rs
cut_in_halves ls rs many half same = record {
  many = many;
  halves = λ again. half;
  changes = λ bit above not. absurd (not (same_further 0 bit (ls ++ rs) (omega arith) same));
}
