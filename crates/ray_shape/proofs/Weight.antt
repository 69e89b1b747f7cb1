-- How much there is in a value: what the walk goes down by.
use Rattle.std.proofs.Common.{ℕ, zero, suc, ◌≡◌, ◌<◌, ◌≤◌, ◌+◌, ◌∙◌, List, [], ◌∷◌, length, get_or, Option, Some, None, sym, subst, ap, arith}
use Rattle.std.proofs.Common.{Ordering, Less, Equal, Greater}
use Rattle.std.specs.Ordering.{nat_cmp, match_ordering}
use Rattle.std.specs.Cmp.Lexicographic.{slice_cmp}
use Rattle.serde_json.specs.Data.{Data, null, boolean, number, string, array, object, Items, no_items, item, Members, no_members, member}
use Rattle.serde_json.specs.Find.{as_array, get, get_item, get_member}

abbrev mutual
  pub weight : Data → ℕ
  weight null = 0
  weight (boolean b) = 0
  weight (number n) = 0
  weight (string s) = 0
  weight (array ds) = suc (items_weight ds)
  weight (object ms) = suc (members_weight ms)

  pub items_weight : Items → ℕ
  items_weight no_items = 0
  items_weight (item d ds) = weight d + items_weight ds

  pub members_weight : Members → ℕ
  members_weight no_members = 0
  members_weight (member k d ms) = weight d + members_weight ms

pub array_weight : (d : Data) (ds : Items) → as_array d ≡ Some ds → items_weight ds < weight d
array_weight null ds e = absurd cc
array_weight (boolean b) ds e = absurd cc
array_weight (number n) ds e = absurd cc
array_weight (string s) ds e = absurd cc
array_weight (array es) ds e = let same : ds ≡ es = cc in let equal = ap items_weight same in omega (arith, equal)
array_weight (object ms) ds e = absurd cc

pub item_weight : (ds : Items) (k : ℕ) (d : Data) → get_item k ds ≡ Some d → weight d ≤ items_weight ds
item_weight no_items k d e = absurd cc
item_weight (item x ds) zero d e = let same : d ≡ x = cc in let equal = ap weight same in omega (arith, equal)
item_weight (item x ds) (suc k) d e = let below = item_weight ds k d e in omega (arith, below)

picked : (o : Ordering) (others : Option Data) (x d : Data) (n : ℕ) → match_ordering o others (Some x) others ≡ Some d →
    (others ≡ Some d → weight d ≤ n) → weight d ≤ weight x + n
picked Less others x d n e below = let least = below e in omega (arith, least)
picked Equal others x d n e below = let same : d ≡ x = cc in let equal = ap weight same in omega (arith, equal)
picked Greater others x d n e below = let least = below e in omega (arith, least)

found_weight : (k : List ℕ) (ms : Members) (d : Data) → get_member k ms ≡ Some d → weight d ≤ members_weight ms
found_weight k no_members d e = absurd cc
found_weight k (member l x ms) d e = picked (slice_cmp nat_cmp k l) (get_member k ms) x d (members_weight ms) e (found_weight k ms d)

pub member_weight : (k : List ℕ) (whole d : Data) → get k whole ≡ Some d → weight d < weight whole
member_weight k null d e = absurd cc
member_weight k (boolean b) d e = absurd cc
member_weight k (number n) d e = absurd cc
member_weight k (string s) d e = absurd cc
member_weight k (array ds) d e = absurd cc
member_weight k (object ms) d e = let least = found_weight k ms d e in omega (arith, least)
