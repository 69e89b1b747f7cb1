-- Numbers that don't fall: parts of them, and their quotients by powers of two.
use Rattle.std.proofs.Common.{◌≡◌, ◌+◌, ◌-◌, ◌/◌, ◌^◌, ◌<◌, ◌≤◌, inl, inr, ℕ, List, length, take, drop, get_or, ap, arith, length-take-le, length-drop, get_or-take, get_or-drop}
use Rattle.std.proofs.Math.Pow.{shr_mono}
use Rattle.std.proofs.lemmas.List.Elements.{All-from_get_or}
use Rattle.std.proofs.lemmas.List.{get_or_default}
use Rattle.ray_tree.proofs.Counting.{either}
use Rattle.ray_morton.specs.Cuts.{AreSame}
use Rattle.ray_morton.specs.Entries.{Rises}

pub rises_take : (n : ℕ) (xs : List ℕ) → n ≤ length xs → Rises xs → Rises (take n xs)
rises_take n xs le up = record {
  each = λ i j d before small.
      let below : j < n = omega (arith, small, length-take-le n xs le) in
      let a = get_or-take n xs i d (omega arith) in
      let b = get_or-take n xs j d below in
      let c = up.each i j d before (omega arith) in
      omega (arith, a, b, c);
}

pub rises_drop : (n : ℕ) (xs : List ℕ) → Rises xs → Rises (drop n xs)
rises_drop n xs up = record {
  each = λ i j d before small.
      let below : n + j < length xs = omega (arith, small, length-drop n xs) in
      let a = get_or-drop n xs i d in
      let b = get_or-drop n xs j d in
      let c = up.each (n + i) (n + j) d (omega arith) below in
      omega (arith, a, b, c);
}

-- the numbers between two whose upper bits are the same have those too
pub same_between : (keys : List ℕ) (bit first last : ℕ) → 0 < length keys → Rises keys → first ≡ get_or keys 0 0 → last ≡ get_or keys (length keys - 1) 0
    → first / 2 ^ bit ≡ last / 2 ^ bit → AreSame bit keys
same_between keys bit first last some up is_first is_last same = record {
  part = first / 2 ^ bit;
  each = All-from_get_or (λ key. key / 2 ^ bit ≡ first / 2 ^ bit) keys 0 (λ i small.
      let low = shr_mono bit (up.each 0 i 0 (omega arith) small) in
      let high = shr_mono bit (up.each i (length keys - 1) 0 (omega arith) (omega arith)) in
      let a = ap (λ x. x / 2 ^ bit) is_first in
      let b = ap (λ x. x / 2 ^ bit) is_last in
      omega (arith, low, high, a, b, same));
}

-- numbers that don't fall so far
pub record RisesTo (numbers : List ℕ) (n : ℕ) : Type 0 where
  pub each : (i j d : ℕ) → i ≤ j → j < n → j < length numbers → get_or numbers i d ≤ get_or numbers j d

pub rises_first : (numbers : List ℕ) → RisesTo numbers 1
rises_first numbers = record {
  each = λ i j d before small within. let same : i ≡ j = omega arith in omega (arith, ap (λ k. get_or numbers k d) same);
}

pub rises_more : (numbers : List ℕ) (n : ℕ) → 0 < n → n < length numbers → get_or numbers (n - 1) 0 ≤ get_or numbers n 0 → RisesTo numbers n → RisesTo numbers (n + 1)
rises_more numbers n some within next up = record {
  each = λ i j d before small inside. elim (either j n) [
    | inl a ↦ up.each i j d before a inside
    | inr b ↦ elim (either i n) [
      | inl c ↦ (let same : j ≡ n = omega arith in
          let a = up.each i (n - 1) 0 (omega arith) (omega arith) (omega arith) in
          omega (arith, a, next, ap (λ k. get_or numbers k d) same, get_or_default numbers n d 0 within, get_or_default numbers i d 0 (omega arith)))
      | inr e ↦ (let same : i ≡ j = omega arith in omega (arith, ap (λ k. get_or numbers k d) same))
    ]
  ];
}

pub rises_all : (numbers : List ℕ) (n : ℕ) → length numbers ≤ n → RisesTo numbers n → Rises numbers
rises_all numbers n le up = record { each = λ i j d before small. up.each i j d before (omega arith) small }
