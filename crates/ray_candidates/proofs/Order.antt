-- Lists in rising order of keys: as KeysRise says it and by recursion, and what a sort by keys leaves.
use Rattle.std.proofs.Common.{◌≡◌, ◌≤◌, suc, false, List, [], ◌∷◌, AllPairs, sum_by, arith}
use Rattle.std.specs.List.Sorted.{IsPermutation, IsSortedByKey}
use Rattle.std.proofs.lemmas.List.Kept.{AllPairs-cons}
use Rattle.std.proofs.lemmas.List.MinMax.{ranks_by}
use Rattle.std.proofs.lemmas.List.Sorted.{sorted_far, Contains-permutation, IsPermutation-sym, sum_by-IsPermutation}
use Rattle.ray_query.specs.declared.found.Found.{Found}
use Rattle.ray_query.specs.Key.{KeysRise, found_key, key_cmp, key_lt}
use Rattle.ray_query.specs.KeyOrder.{AreApart, has_key, in_key_order}
use Rattle.ray_query.proofs.Members.{Member-from_Contains, Contains-from_Member, Each-member, Each-from_members, All-from_Each}
use Rattle.ray_query.proofs.Orders.{Each, Each-from_All}
use Rattle.ray_query.proofs.Rising.{AreApart-first, AreApart-rest, Differs, IsAbove, Rises, Rises-in_key_order, above_other, in_key_order-has, in_key_order-keeps, rising_same}
use Rattle.ray_query.proofs.Orders.{KeysRise-first, KeysRise-rest, key_cmp-total}

pub Rises-from_KeysRise : (fs : List Found) → KeysRise fs → Rises fs
Rises-from_KeysRise [] rise = tt
Rises-from_KeysRise (f ∷ fs) rise = (KeysRise-first f fs rise, Rises-from_KeysRise fs (KeysRise-rest f fs rise))

pub KeysRise-from_Rises : (fs : List Found) → Rises fs → KeysRise fs
KeysRise-from_Rises [] rise = λ i j d before below. absurd (omega (arith, below))
KeysRise-from_Rises (f ∷ fs) (first, rest) =
    AllPairs-cons IsAbove f fs (All-from_Each (IsAbove f) fs first) (KeysRise-from_Rises fs rest)

-- ---- by a sort

abbrev NotBelow : Found → Found → Type 0
NotBelow f g = key_lt (found_key g) (found_key f) ≡ false

pairs_first : (f : Found) (fs : List Found) → AllPairs NotBelow (f ∷ fs) → Each (NotBelow f) fs
pairs_first f fs pairs = Each-from_All (NotBelow f) fs (λ k d below. pairs 0 (suc k) d (omega arith) (omega (arith, below)))

pairs_rest : (f : Found) (fs : List Found) → AllPairs NotBelow (f ∷ fs) → AllPairs NotBelow fs
pairs_rest f fs pairs i j d before below = pairs (suc i) (suc j) d (omega (arith, before)) (omega (arith, below))

Rises-from_pairs : (fs : List Found) → AllPairs NotBelow fs → AreApart fs → Rises fs
Rises-from_pairs [] pairs apart = tt
Rises-from_pairs (f ∷ fs) pairs apart = (
  Each-from_members (IsAbove f) fs (λ y m. above_other f y
      (Each-member (Differs f) fs y (AreApart-first f fs apart) m)
      (Each-member (NotBelow f) fs y (pairs_first f fs pairs) m)),
  Rises-from_pairs fs (pairs_rest f fs pairs) (AreApart-rest f fs apart),
)

-- what a sort by keys leaves is the list by insertion
pub in_key_order-sorted : (fs gs : List Found) → AreApart fs → IsPermutation fs gs → IsSortedByKey found_key key_cmp gs → gs ≡ in_key_order fs
in_key_order-sorted fs gs apart moved up =
    let pairs : AllPairs NotBelow gs =
    λ i j d before below. sorted_far (λ f g. key_lt (found_key f) (found_key g)) (ranks_by key_cmp-total found_key) gs up i j d (omega (arith, before)) below in
    let still : AreApart gs = record {
      once = λ k.
          let same : sum_by (has_key k) gs ≡ sum_by (has_key k) fs = sum_by-IsPermutation (has_key k) fs gs moved in
          let most : sum_by (has_key k) fs ≤ 1 = apart.once k in
          omega (arith, same, most);
    } in
    rising_same gs (in_key_order fs) (Rises-from_pairs gs pairs still) (Rises-in_key_order fs apart)
    (λ x m. in_key_order-keeps fs x (Member-from_Contains fs x (Contains-permutation gs fs x (IsPermutation-sym fs gs moved) (Contains-from_Member gs x m))))
    (λ x m. Member-from_Contains gs x (Contains-permutation fs gs x moved (Contains-from_Member fs x (in_key_order-has fs x m))))
