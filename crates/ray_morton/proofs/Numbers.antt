-- The numbers and the keys in entries that are in order.
use Rattle.std.proofs.Common.{◌≡◌, ◌≢◌, ◌∙◌, ◌/◌, ◌^◌, ◌<◌, ◌≤◌, ◌⊎◌, inl, inr, ℕ, Option, Some, None, List, [], ◌∷◌, length, take, get_or, cond, refl, sym, ap, ap₂, subst, arith, get_or-take, length-take-le}
use Rattle.std.specs.Prelude.{◌==◌}
use Rattle.std.specs.List.{All}
use Rattle.std.proofs.lemmas.Bool.Decides.{nat_tests}
use Rattle.std.proofs.lemmas.List.{get_or-map, length-map}
use Rattle.std.proofs.lemmas.List.Elements.{All-head, All-tail, All-get_or, All-from_get_or}
use Rattle.std.proofs.lemmas.List.Sums.{get_or-le-sum_by, sum_by_more_le}
use Rattle.ray_geom.specs.Boxes.{BoxValue}
use Rattle.ray_tree.specs.Trees.{times, item_box}
use Rattle.ray_tree.proofs.Counting.{either, one, at_most_active}
use Rattle.ray_morton.specs.Keys.{middle_of}
use Rattle.ray_morton.specs.KeyOrder.{key_in, key_at, IsBefore, IsInKeyOrder}
use Rattle.ray_morton.specs.Cuts.{AreSame, keys_of}
use Rattle.ray_morton.specs.Entries.{key_part, item_part, key_parts, item_parts, Rises, IsInOrder}
use Rattle.ray_morton.proofs.Spread.{interleaved_small}

key_small : (o : Option BoxValue) → key_in o < 2 ^ 60
key_small None = omega arith
key_small (Some box) = interleaved_small (middle_of box.lo.x box.hi.x) (middle_of box.lo.y box.hi.y) (middle_of box.lo.z box.hi.z)

-- the key in an entry is that of its item
key_is : (items : List (Option BoxValue)) (e : ℕ) → e / 2 ^ 20 ≡ key_at items (item_part e) → key_part e ≡ key_at items (item_part e)
key_is items e is = omega (arith, is, key_small (item_box items (item_part e)))

pub keys_are : (items : List (Option BoxValue)) (es : List ℕ) → All (λ e. e / 2 ^ 20 ≡ key_at items (item_part e)) es → key_parts es ≡ keys_of items (item_parts es)
keys_are items [] all = refl
keys_are items (e ∷ es) all =
    ap₂ (λ k ks. k ∷ ks) (key_is items e (All-head (λ x. x / 2 ^ 20 ≡ key_at items (item_part x)) e es all))
    (keys_are items es (All-tail (λ x. x / 2 ^ 20 ≡ key_at items (item_part x)) e es all))

-- they rise, and have 60 bits
pub keys_rise : (items : List (Option BoxValue)) (es : List ℕ) → IsInOrder items es → Rises (key_parts es)
keys_rise items es sorted = record {
  each = λ i j d before small.
      let P : ℕ → Type 0 = λ x. x / 2 ^ 20 ≡ key_at items (item_part x) in
      let long : length (key_parts es) ≡ length es = length-map es key_part in
      let lt : j < length es = omega (arith, small, long) in
      let a = get_or-map key_part es i 0 d (omega arith) in
      let b = get_or-map key_part es j 0 d lt in
      let x = get_or es i 0 in
      let y = get_or es j 0 in
      let p = All-get_or P es i 0 (omega arith) sorted.has.keyed in
      let q = All-get_or P es j 0 lt sorted.has.keyed in
      let le = sorted.rising.each i j 0 before lt in
      omega (arith, a, b, le, p, q, key_small (item_box items (item_part x)), key_small (item_box items (item_part y)));
}

pub keys_same : (es : List ℕ) → AreSame 60 (key_parts es)
keys_same es = record {
  part = 0;
  each = All-from_get_or (λ key. key / 2 ^ 60 ≡ 0) (key_parts es) 0 (λ i small.
      let long : length (key_parts es) ≡ length es = length-map es key_part in
      let a = get_or-map key_part es i 0 0 (omega (arith, small, long)) in
      omega (arith, a));
}

-- a number that stands at two places stands twice
itself : (p : ℕ) → one p p ≡ 1
itself p = grind (arith, nat_tests)

twice : (xs : List ℕ) (i j : ℕ) → i < j → j < length xs → get_or xs i 0 ≡ get_or xs j 0 → 2 ≤ times (get_or xs j 0) xs
twice xs i j before small same =
    let p = get_or xs j 0 in
    let f : ℕ → ℕ = λ q. cond (q == p) 1 0 in
    let later = sum_by_more_le f xs j 0 small in
    let here : i < length (take j xs) = omega (arith, before, length-take-le j xs (omega arith)) in
    let earlier = get_or-le-sum_by f (take j xs) i 0 here in
    let first : f (get_or (take j xs) i 0) ≡ 1 = ap f (get_or-take j xs i 0 before ∙ same) ∙ itself p in
    omega (arith, later, earlier, first, itself p)

-- one entry before another, of other items
before_by : (e f : ℕ) → e ≤ f → item_part e ≢ item_part f → (e / 2 ^ 20 < f / 2 ^ 20) ⊎ ((e / 2 ^ 20 ≡ f / 2 ^ 20) × (item_part e < item_part f))
before_by e f le ne = elim (either (e / 2 ^ 20) (f / 2 ^ 20)) [
  | inl a ↦ inl a
  | inr b ↦ inr (omega (arith, le, b), omega (arith, le, b, ne))
]

moved_keys : (items : List (Option BoxValue)) (p q a b : ℕ) → a ≡ key_at items p → b ≡ key_at items q → (a < b) ⊎ ((a ≡ b) × (p < q)) → IsBefore items p q
moved_keys items p q a b x y (inl h) = inl (omega (arith, x, y, h))
moved_keys items p q a b x y (inr h) = let e = h.0 in inr (omega (arith, x, y, e), h.1)

pub in_key_order : (items : List (Option BoxValue)) (es numbers : List ℕ) → IsInOrder items es → numbers ≡ item_parts es → IsInKeyOrder items numbers
in_key_order items es numbers sorted is = subst (IsInKeyOrder items) (sym is) (record {
  once = sorted.has.once;
  rising = λ i j before small.
      let P : ℕ → Type 0 = λ x. x / 2 ^ 20 ≡ key_at items (item_part x) in
      let long : length (item_parts es) ≡ length es = length-map es item_part in
      let lt : j < length es = omega (arith, small, long) in
      let e = get_or es i 0 in
      let f = get_or es j 0 in
      let a : get_or (item_parts es) i 0 ≡ item_part e = get_or-map item_part es i 0 0 (omega arith) in
      let b : get_or (item_parts es) j 0 ≡ item_part f = get_or-map item_part es j 0 0 lt in
      let le = sorted.rising.each i j 0 (omega arith) lt in
      let ne : item_part e ≢ item_part f = λ same.
      let n = get_or (item_parts es) j 0 in
      let many = twice (item_parts es) i j before small (a ∙ same ∙ sym b) in
      absurd (omega (arith, many, sorted.has.once n, at_most_active items n)) in
      subst (λ p. IsBefore items p (get_or (item_parts es) j 0)) (sym a)
      (subst (λ q. IsBefore items (item_part e) q) (sym b)
      (moved_keys items (item_part e) (item_part f) (e / 2 ^ 20) (f / 2 ^ 20)
      (All-get_or P es i 0 (omega arith) sorted.has.keyed) (All-get_or P es j 0 lt sorted.has.keyed) (before_by e f le ne)));
})
