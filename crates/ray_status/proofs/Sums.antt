-- The sum of what stands under ids, once one is put there or taken away.
use Rattle.std.proofs.Common.{◌≡◌, ◌+◌, ◌-◌, ◌≤◌, ℕ, List, Some, None, arith, ap, sym}
use Rattle.std.specs.BTreeMap.{insert_entry, is_at}
use Rattle.std.specs.List.{sum_by}
use Rattle.std.specs.Map.{lookup, remove_entry, values_of, keys_of}
use Rattle.std.specs.Option.{option_map, unwrap_or}
use Rattle.std.specs.Ordering.{nat_cmp}
use Rattle.std.proofs.lemmas.Cmp.{nat_cmp_total}
use Rattle.std.proofs.lemmas.Map.Entries.{sum_by-insert_entry, sum_by-remove_entry}
use Rattle.std.specs.List.Sorted.{IsStrictlySortedBy}

-- one more name
pub sum-insert : {X : Type 0} (f : X → ℕ) (es : List (ℕ × X)) (id : ℕ) (x : X) → IsStrictlySortedBy nat_cmp (keys_of es)
    → lookup (is_at (nat_cmp id)) es ≡ None
    → sum_by f (values_of es) + f x ≡ sum_by f (values_of (insert_entry nat_cmp es id x))
sum-insert f es id x sorted absent =
    let inserted = sum_by-insert_entry f nat_cmp_total es id x sorted in
    let none = ap (λ o. unwrap_or (option_map f o) 0) absent in
    omega arith

-- one name less
pub sum-remove : {X : Type 0} (f : X → ℕ) (es : List (ℕ × X)) (id : ℕ) (x : X)
    → Some x ≡ lookup (is_at (nat_cmp id)) es
    → (f x ≤ sum_by f (values_of es)) × (sum_by f (values_of es) - f x ≡ sum_by f (values_of (remove_entry (is_at (nat_cmp id)) es)))
sum-remove f es id x there =
    let removed = sum_by-remove_entry f (is_at (nat_cmp id)) es in
    let some = ap (λ o. unwrap_or (option_map f o) 0) (sym there) in
    (omega arith, omega arith)
