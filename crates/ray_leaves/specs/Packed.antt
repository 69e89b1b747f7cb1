-- A triangle at a leaf as it stands in a list, in 40 bytes; no clause of a public call speaks of its parts. (Own.)
use Rattle.std.specs.Prelude.{ℕ, ◌≡◌, ◌<◌, ◌+◌, ◌*◌, ◌/◌, ◌%◌, ◌&&◌, Bool, true, false, if◌then◌else◌, Option, Some, None, nat_lt, pos}
use Rattle.std.proofs.lemmas.Nat.{div-mul-add, mod-mul-add}
use Rattle.ray_geom.specs.declared.vec3.Vec3.{Vec3}
use Rattle.ray_geom.specs.Vector.{vec3}
use Rattle.ray_leaves.specs.declared.prim_place.PrimPlace.{PrimPlace}
use Rattle.ray_leaves.specs.declared.leaf_item.LeafItem.{LeafItem}
use Rattle.ray_leaves.specs.declared.leaf_item.ItemPoints.{ItemPoints}
use Rattle.ray_leaves.specs.declared.leaf_item.ItemPoints.TheVariants.{Triangle, Aabb, Nothing}
use Rattle.ray_leaves.specs.Places.{place_of}

-- the triangle of these vertices whose number stands in two parts
abbrev pub packed_item : Vec3 → Vec3 → Vec3 → ℕ → ℕ → ℕ → LeafItem
packed_item a b c low high geometry = record { place = place_of geometry (high * 65536 + low); points = Triangle a b c }

abbrev pub IsPacked : ℕ → Type 0
IsPacked low = low < 65536

-- whether an item is a triangle whose numbers fit
abbrev pub is_triangle : ItemPoints → Bool
is_triangle (Triangle a b c) = true
is_triangle (Aabb lo hi) = false
is_triangle Nothing = false

abbrev pub can_be_packed : LeafItem → Bool
can_be_packed item = is_triangle item.points && (nat_lt item.place.geometry 256 && nat_lt item.place.primitive 16777216)

-- the item of a place with points, where it can be packed
abbrev pub packed_at : PrimPlace → ItemPoints → Option LeafItem
packed_at place points =
    let item : LeafItem = record { place = place; points = points } in if can_be_packed item then Some item else None

-- the parts of an item
abbrev pub first_of : ItemPoints → Vec3
first_of (Triangle a b c) = a
first_of (Aabb lo hi) = lo
first_of Nothing = vec3 (pos 0) (pos 0) (pos 0)

abbrev pub second_of : ItemPoints → Vec3
second_of (Triangle a b c) = b
second_of (Aabb lo hi) = hi
second_of Nothing = vec3 (pos 0) (pos 0) (pos 0)

abbrev pub third_of : ItemPoints → Vec3
third_of (Triangle a b c) = c
third_of (Aabb lo hi) = lo
third_of Nothing = vec3 (pos 0) (pos 0) (pos 0)

abbrev pub low_of : ℕ → ℕ
low_of primitive = primitive % 65536

abbrev pub high_of : ℕ → ℕ
high_of primitive = primitive / 65536

-- a number gives its parts back
pub record HasParts (low high : ℕ) : Type 0 where
  pub low_is : low_of (high * 65536 + low) ≡ low
  pub high_is : high_of (high * 65536 + low) ≡ high

pub has-parts : (low high : ℕ) → IsPacked low → HasParts low high
has-parts low high small = record { low_is = mod-mul-add high 65536 low small; high_is = div-mul-add high 65536 low small }
