-- Maps from ids: the entries in rising order of ids. (Own.)
use Rattle.std.specs.Prelude.{ℕ, List, Option, Bool}
use Rattle.std.specs.BTreeMap.{insert_entry, is_at}
use Rattle.std.specs.Map.{lookup, remove_entry}
use Rattle.std.specs.Option.{is_some}
use Rattle.std.specs.Ordering.{nat_cmp}

-- what stands under each id that is named
abbrev pub Ids : Type 0 → Type 0
Ids X = List (ℕ × X)

-- what stands under an id
abbrev pub look : {X : Type 0} → Ids X → ℕ → Option X
look names id = lookup (is_at (nat_cmp id)) names

-- the same names, and this one under an id
abbrev pub with_id : {X : Type 0} → ℕ → X → Ids X → Ids X
with_id id x names = insert_entry nat_cmp names id x

-- the same names without an id
abbrev pub without_id : {X : Type 0} → ℕ → Ids X → Ids X
without_id id names = remove_entry (is_at (nat_cmp id)) names

-- whether something stands under an id
abbrev pub is_live : {X : Type 0} → Ids X → ℕ → Bool
is_live names id = is_some (look names id)
