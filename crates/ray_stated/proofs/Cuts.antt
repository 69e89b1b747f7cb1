-- When the first so many entries stand before all others along an axis.
use Rattle.std.proofs.Common.{◌≡◌, ◌∙◌, ◌+◌, ◌-◌, ◌<◌, ◌≤◌, ◌++◌, ℕ, List, length, take, drop, sym, ap, subst, arith}
use Rattle.std.proofs.lemmas.List.{take-append-le, drop-append-le}
use Rattle.std.specs.Prelude.{slice_index_or}
use Rattle.std.specs.List.{All}
use Rattle.std.specs.List.Sorted.{IsPermutation}
use Rattle.std.proofs.Math.Seq.{take-append-add, drop-append-add}
use Rattle.std.proofs.lemmas.List.Elements.{All-append, All-weaker, All-take, All-drop}
use Rattle.std.proofs.lemmas.List.Sorted.{All-permutation}
use Rattle.ray_stated.specs.declared.entry.Entry.{Entry}
use Rattle.ray_stated.specs.declared.reach.Reach.{Reach}
use Rattle.ray_stated.specs.Entries.{entry_key, IsCut}
use Rattle.ray_stated.specs.Reaches.{IsWithinReach, AreWithin}
use Rattle.ray_stated.specs.Partings.{IsParted}

-- none of the first list is behind one of the second
abbrev pub AreBefore : ℕ → List Entry → List Entry → Type 0
AreBefore axis xs ys = All (λ x. All (λ y. entry_key axis x ≤ entry_key axis y) ys) xs

abbrev pub AreLow : ℕ → ℕ → List Entry → Type 0
AreLow axis limit es = All (λ e. entry_key axis e < limit) es

abbrev pub AreHigh : ℕ → ℕ → List Entry → Type 0
AreHigh axis limit es = All (λ e. limit ≤ entry_key axis e) es

-- those below a limit stand before those that aren't
pub before_by : (axis limit : ℕ) (xs ys : List Entry) → AreLow axis limit xs → AreHigh axis limit ys → AreBefore axis xs ys
before_by axis limit xs ys low high =
    All-weaker (λ e. entry_key axis e < limit) (λ x. All (λ y. entry_key axis x ≤ entry_key axis y) ys)
    (λ x a. All-weaker (λ e. limit ≤ entry_key axis e) (λ y. entry_key axis x ≤ entry_key axis y) (λ y b. omega arith) ys high) xs low

pub cut_by : (axis many : ℕ) (es xs ys : List Entry) → take many es ≡ xs → drop many es ≡ ys → AreBefore axis xs ys → IsCut axis many es
cut_by axis many es xs ys t d before =
    subst (λ l. AreBefore axis l (drop many es)) (sym t) (subst (λ l. AreBefore axis xs l) (sym d) before)

-- the cut lies behind the front
pub cut_behind : (axis limit many cut : ℕ) (front back back1 : List Entry) → length front ≡ cut → cut < many → AreLow axis limit front
    → AreHigh axis limit back → IsPermutation back back1 → IsCut axis (many - cut) back1 → IsCut axis many (front ++ back1)
cut_behind axis limit many cut front back back1 long lt low high moved inner =
    let n = many - cut in
    let same : many ≡ length front + n = omega (arith, long) in
    let high1 = All-permutation (λ e. limit ≤ entry_key axis e) back back1 moved high in
    cut_by axis many (front ++ back1) (front ++ take n back1) (drop n back1)
    (ap (λ k. take k (front ++ back1)) same ∙ take-append-add front back1 n)
    (ap (λ k. drop k (front ++ back1)) same ∙ drop-append-add front back1 n)
    (All-append (λ x. All (λ y. entry_key axis x ≤ entry_key axis y) (drop n back1)) front (take n back1)
    (before_by axis limit front (drop n back1) low (All-drop (λ e. limit ≤ entry_key axis e) n back1 high1)) inner)

-- or within it
both_before : (axis : ℕ) (xs ys zs : List Entry) → AreBefore axis xs ys → AreBefore axis xs zs → AreBefore axis xs (ys ++ zs)
both_before axis xs ys zs a b = λ k d lt. All-append (λ y. entry_key axis (slice_index_or xs k d) ≤ entry_key axis y) ys zs (a k d lt) (b k d lt)

pub cut_within : (axis limit many cut : ℕ) (front front1 back : List Entry) → length front1 ≡ cut → many < cut → AreLow axis limit front
    → AreHigh axis limit back → IsPermutation front front1 → IsCut axis many front1 → IsCut axis many (front1 ++ back)
cut_within axis limit many cut front front1 back long lt low high moved inner =
    let within : many ≤ length front1 = omega (arith, long) in
    let low1 = All-permutation (λ e. entry_key axis e < limit) front front1 moved low in
    cut_by axis many (front1 ++ back) (take many front1) (drop many front1 ++ back)
    (take-append-le many front1 back within) (drop-append-le many front1 back within)
    (both_before axis (take many front1) (drop many front1) back inner
    (before_by axis limit (take many front1) back (All-take (λ e. entry_key axis e < limit) many front1 low1) high))

-- what is left of the reach holds all of a part
pub within_above : (reach above : Reach) (limit many : ℕ) (old new : List Entry) → IsParted reach.axis limit old new many → AreWithin reach old
    → above.axis ≡ reach.axis → above.lo ≡ limit → above.hi ≡ reach.hi → AreWithin above (drop many new)
within_above reach above limit many old new parted within axis lo hi =
    let all = All-drop (IsWithinReach reach) many new (All-permutation (IsWithinReach reach) old new parted.same within) in
    λ k d lt. let key = λ (a : ℕ). entry_key a (slice_index_or (drop many new) k d) in record {
      above = omega (arith, parted.back k d lt, lo, ap key axis);
      below = let b = (all k d lt).below in omega (arith, hi, ap key axis);
    }

pub within_below : (reach below : Reach) (limit many : ℕ) (old new : List Entry) → IsParted reach.axis limit old new many → AreWithin reach old
    → below.axis ≡ reach.axis → below.lo ≡ reach.lo → below.hi ≡ limit - 1 → AreWithin below (take many new)
within_below reach below limit many old new parted within axis lo hi =
    let all = All-take (IsWithinReach reach) many new (All-permutation (IsWithinReach reach) old new parted.same within) in
    λ k d lt. let key = λ (a : ℕ). entry_key a (slice_index_or (take many new) k d) in record {
      above = let b = (all k d lt).above in omega (arith, lo, ap key axis);
      below = omega (arith, parted.front k d lt, hi, ap key axis);
    }
