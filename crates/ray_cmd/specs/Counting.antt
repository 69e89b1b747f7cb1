-- How many members lists have. (Own: the limit on them.)
use Rattle.std.specs.Prelude.{ℕ, ◌+◌, ◌-◌, Option, Some, None, nat_le, if◌then◌else◌}
use Rattle.serde_json.specs.Data.{Data, null, boolean, number, string, array, object, Items, no_items, item, Members, no_members, member}

-- how many members the lists of a value have together, lists in lists among them
abbrev mutual
  pub listed_in : Data → ℕ
  listed_in null = 0
  listed_in (boolean b) = 0
  listed_in (number n) = 0
  listed_in (string s) = 0
  listed_in (array ds) = listed_in_items ds
  listed_in (object ms) = listed_in_members ms

  pub listed_in_items : Items → ℕ
  listed_in_items no_items = 0
  listed_in_items (item d ds) = (1 + listed_in d) + listed_in_items ds

  pub listed_in_members : Members → ℕ
  listed_in_members no_members = 0
  listed_in_members (member name d ms) = listed_in d + listed_in_members ms

-- what is left of a number once so many are taken off it, where there are so many
abbrev pub less : ℕ → ℕ → Option ℕ
less taken left = if nat_le taken left then Some (left - taken) else None
