use Rattle.std.proofs.Common.{◌≡◌, drop}
use Rattle.ray_bottom.specs.Trees.{place_at}
use Rattle.ray_cert.proofs.Placed.{place_from}
use Rattle.ray_cert.proofs.places.place_of_item.Given as goal

-- the item's place is that of what is left among the geometries from this one on
abbrev pub invariant-loop-geometry : goal.invariant-loop-geometry
invariant-loop-geometry l = place_at l.bottom.geometries l.item ≡ place_from l.geometry (drop l.geometry l.bottom.geometries) l.left
