-- Regions of one copy don't conflict.
use Rattle.std.proofs.Common.{◌≡◌, ◌<◌, ◌+◌, ◌++◌, ℕ, zero, suc, Bool, true, false, List, [], ◌∷◌, Some, sym, ◌∙◌, ap, subst, arith, map, length, take}
use Rattle.std.specs.Prelude.{if◌then◌else◌, slice_get, slice_index_or, option_map}
use Rattle.std.specs.List.{list_any, range_with_len}
use Rattle.std.proofs.lemmas.Bool.Decides.{nat_tests}
use Rattle.ray_cmd.specs.declared.region.Region.{Region}
use Rattle.ray_ranges.specs.declared.range.Range.{Range}
use Rattle.ray_ranges.specs.First.{meets_before}
use Rattle.ray_ranges.specs.Meeting.{meets}
use Rattle.ray_rules.specs.declared.byte_range.ByteRange.{ByteRange}
use Rattle.ray_rules.specs.Conflicts.{source_of, sources_in, target_of}
use Rattle.ray_rules.specs.Ranges.{range}
use Rattle.ray_action.specs.Action.{areas_read}
use Rattle.ray_action.specs.Areas.{cover, is_in_range}
use Rattle.ray_action.specs.Memory.{Location, ByteAt, BufferAt, StructureAt, ContentsAt}
use Rattle.ray_action.specs.Pieces.{region_action}
use Rattle.ray_rules.proofs.Kept.{Fail}
use Rattle.ray_permitted.proofs.Truth.{contradict, either, equal_is, in_front, never_none, none_at, same_some, within}
use Rattle.ray_permitted.proofs.Sharing.{bytes_meet, low_of}
use Rattle.ray_permitted.proofs.InfosApart.{Clash, BothWrite, ReadsLater, WritesLater}

-- ---- regions

fails_number : (test : ℕ → Bool) (n m k : ℕ) → Fail test (range_with_len n m) → k < m → test (n + k) ≡ false
fails_number test n zero k fail less = absurd (omega (arith, less))
fails_number test n (suc m) zero fail less = let plain : n ≡ n + 0 = omega arith in subst (λ q. test q ≡ false) plain fail.0
fails_number test n (suc m) (suc k) fail less =
    let plain : (n + 1) + k ≡ n + suc k = omega arith in
    subst (λ q. test q ≡ false) plain (fails_number test (n + 1) m k fail.1 (omega (arith, less)))

item_or : (xs : List Range) (k : ℕ) (x d : Range) → slice_get xs k ≡ Some x → slice_index_or xs k d ≡ x
item_or [] k x d there = never_none x there
item_or (y ∷ xs) zero x d there = same_some y x there
item_or (y ∷ xs) (suc k) x d there = item_or xs k x d there

in_taken : (xs : List Range) (j k : ℕ) (x : Range) → j < k → slice_get xs j ≡ Some x → slice_get (take k xs) j ≡ Some x
in_taken xs j zero x less there = absurd (omega (arith, less))
in_taken [] j (suc k) x less there = never_none x there
in_taken (y ∷ xs) zero (suc k) x less there = there
in_taken (y ∷ xs) (suc j) (suc k) x less there = in_taken xs j k x (omega (arith, less)) there

in_back : (xs ys : List Range) (k : ℕ) (x : Range) → slice_get ys k ≡ Some x → slice_get (xs ++ ys) (length xs + k) ≡ Some x
in_back [] ys k x there = let plain : k ≡ 0 + k = omega arith in subst (λ q. slice_get ys q ≡ Some x) plain there
in_back (y ∷ xs) ys k x there =
    let plain : suc (length xs + k) ≡ suc (length xs) + k = omega arith in
    subst (λ q. slice_get (y ∷ (xs ++ ys)) q ≡ Some x) plain (in_back xs ys k x there)

-- a range meets none of the others, and none before it
record MeetsNone (ts others : List Range) (m : ℕ) (t : Range) : Type 0 where
  before : (k : ℕ) (x : Range) → k < m → slice_get ts k ≡ Some x → meets t x ≡ false
  other : (k : ℕ) (x : Range) → slice_get others k ≡ Some x → meets t x ≡ false

meets_none : (ts others : List Range) (m : ℕ) (t : Range) → Fail (meets_before ts others) (range_with_len 0 (length ts)) → slice_get ts m ≡ Some t → MeetsNone ts others m t
meets_none ts others m t fail there =
    let plain : 0 + m ≡ m = omega arith in
    let number : meets_before ts others m ≡ false =
    subst (λ q. meets_before ts others q ≡ false) plain (fails_number (meets_before ts others) 0 (length ts) m fail (within ts m t there)) in
    let none : list_any (meets t) (others ++ take m ts) ≡ false =
    subst (λ r. list_any (meets r) (others ++ take m ts) ≡ false) (item_or ts m t (record { from = 0; end = 0 }) there) number in
    record {
      before = λ k x less at. none_at (meets t) (others ++ take m ts) (length others + k) x (in_back others (take m ts) k x (in_taken ts k m x less at)) none;
      other = λ k x at. none_at (meets t) (others ++ take m ts) k x (in_front others (take m ts) k x at) none;
    }

mapped : (f : Region → Range) (regions : List Region) (k : ℕ) (r : Region) → slice_get regions k ≡ Some r → slice_get (map f regions) k ≡ Some (f r)
mapped f [] k r there = never_none r there
mapped f (x ∷ regions) zero r there = ap (λ o. option_map f o) there
mapped f (x ∷ regions) (suc k) r there = mapped f regions k r there

-- a byte is in two ranges of one buffer
both_in : {X : Type 0} (r s : ByteRange) (b at : ℕ) → is_in_range r (ByteAt b at) ≡ true → is_in_range s (ByteAt b at) ≡ true
    → meets (record { from = r.from; end = r.from + r.size }) (record { from = s.from; end = s.from + s.size }) ≡ false → X
both_in r s b at p q e =
    let x = low_of r b at p in
    let y = low_of s b at q in
    contradict (meets (record { from = r.from; end = r.from + r.size }) (record { from = s.from; end = s.from + s.size }))
    (bytes_meet (record { from = r.from; end = r.from + r.size }) (record { from = s.from; end = s.from + s.size }) at x.1 x.2 y.1 y.2) e

never_both : {X : Type 0} (r s : ByteRange) (l : Location) → is_in_range r l ≡ true → is_in_range s l ≡ true
    → (r.buffer ≡ s.buffer → meets (record { from = r.from; end = r.from + r.size }) (record { from = s.from; end = s.from + s.size }) ≡ false) → X
never_both r s (ByteAt b at) p q e = both_in r s b at p q (e (sym (low_of r b at p).0 ∙ (low_of s b at q).0))
never_both r s (BufferAt id) p q e = absurd cc
never_both r s (StructureAt id) p q e = absurd cc
never_both r s (ContentsAt id) p q e = absurd cc

source_at : (src dst : ℕ) (regions : List Region) (k : ℕ) (r : Region) → src ≡ dst → slice_get regions k ≡ Some r → slice_get (sources_in src dst regions) k ≡ Some (source_of r)
source_at src dst regions k r same there =
    ap (λ b. slice_get (if b then map source_of regions else []) k) (equal_is src dst same) ∙ mapped source_of regions k r there

abbrev source_bytes : ℕ → Region → ByteRange
source_bytes src r = range src r.src_offset r.size

abbrev target_bytes : ℕ → Region → ByteRange
target_bytes dst r = range dst r.dst_offset r.size

read_of_region : (src dst : ℕ) (r : Region) (l : Location) → cover (areas_read (region_action src dst r)) l ≡ true → is_in_range (source_bytes src r) l ≡ true
read_of_region src dst r l e = either (is_in_range (source_bytes src r) l) false e (λ here. here) (λ none. absurd cc)

turned_meets : (r s : Range) → meets r s ≡ false → meets s r ≡ false
turned_meets r s e = grind (arith, nat_tests, e)

pub regions_apart : (src dst : ℕ) (regions : List Region) (k m : ℕ) (r s : Region) (l : Location) → Fail (meets_before (map target_of regions) (sources_in src dst regions)) (range_with_len 0 (length (map target_of regions)))
    → k < m → slice_get regions k ≡ Some r → slice_get regions m ≡ Some s → Clash (region_action src dst r) (region_action src dst s) l → ⊥
regions_apart src dst regions k m r s l fail less here there (BothWrite p q) =
    let none = meets_none (map target_of regions) (sources_in src dst regions) m (target_of s) fail (mapped target_of regions m s there) in
    never_both (target_bytes dst s) (target_bytes dst r) l q p (λ same. none.before k (target_of r) less (mapped target_of regions k r here))
regions_apart src dst regions k m r s l fail less here there (ReadsLater p q) =
    let none = meets_none (map target_of regions) (sources_in src dst regions) k (target_of r) fail (mapped target_of regions k r here) in
    never_both (target_bytes dst r) (source_bytes src s) l p (read_of_region src dst s l q)
    (λ same. none.other m (source_of s) (source_at src dst regions m s (sym same) there))
regions_apart src dst regions k m r s l fail less here there (WritesLater p q) =
    let none = meets_none (map target_of regions) (sources_in src dst regions) m (target_of s) fail (mapped target_of regions m s there) in
    never_both (target_bytes dst s) (source_bytes src r) l q (read_of_region src dst r l p)
    (λ same. none.other k (source_of r) (source_at src dst regions k r (sym same) here))
