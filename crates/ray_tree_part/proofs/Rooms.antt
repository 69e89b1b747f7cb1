-- What is there where bytes have the size that their counts say.
use Rattle.std.proofs.Common.{ℕ, ◌≡◌, ◌≤◌, ◌==◌, ◌&&◌, Bool, true, false, List, length, refl, arith}
use Rattle.std.specs.Prelude.{nat_le}
use Rattle.std.proofs.lemmas.Bool.Decides.{nat_tests}
use Rattle.ray_tree_part.specs.TreeParts.{node_count, item_count, part_size, is_part}

both : (a b : Bool) → (a && b) ≡ true → (a ≡ true) × (b ≡ true)
both true b e = (refl, e)
both false b e = absurd cc

at_most : (n : ℕ) → nat_le 8 n ≡ true → 8 ≤ n
at_most n e = grind (arith, nat_tests)

fills : (m n : ℕ) → (m == n) ≡ true → m ≤ n
fills m n e = grind (arith, nat_tests)

pub part_whole : (part : List ℕ) → is_part part ≡ true → 8 ≤ length part
unfolding is_part
part_whole part e = at_most (length part) (both (nat_le 8 (length part)) (part_size (node_count part) (item_count part) == length part) e).0

pub part_room : (part : List ℕ) → is_part part ≡ true → part_size (node_count part) (item_count part) ≤ length part
unfolding is_part
part_room part e =
    fills (part_size (node_count part) (item_count part)) (length part)
    (both (nat_le 8 (length part)) (part_size (node_count part) (item_count part) == length part) e).1

pub ruleset part_rooms = (part_whole, part_room)
