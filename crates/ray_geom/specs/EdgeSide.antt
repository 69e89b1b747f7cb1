-- On which side of an edge the ray passes.
--
-- It is a symbolic perturbation (simulation of simplicity): where the ray passes through the edge
-- itself, the tie is broken as if the ray were moved by amounts that are smaller than any number. The
-- side of (b, a) is always the opposite of the side of (a, b) (`side_of-swap` of proofs/Sides). That
-- makes the test watertight: a ray finds no gap between triangles that share an edge.
--
-- What it does not promise: which triangle a ray through a vertex hits, of those that meet there. The
-- law on a shared edge is that of `edge_owner`, in the words of specs/Crossing.
use Rattle.std.specs.Ordering.{ordering_then}
use Rattle.std.specs.declared.cmp.Ordering.{Ordering}
use Rattle.ray_geom.specs.declared.vec3.Vec3.{Vec3}
use Rattle.ray_geom.specs.Vector.{sign_of, point_cmp}
use Rattle.ray_geom.specs.Scene.{RayValue}
use Rattle.ray_geom.specs.EdgeVolume.{normal_of, volume_of}

-- the edge side, with n = (a - o) x (b - o): the sign of the first that isn't zero of d . n, n.x, n.y
-- and n.z; where all four are zero it is + if a is lexicographically below b, - if b is below a, and 0
-- if they are equal (own)
abbrev pub side_of : RayValue → Vec3 → Vec3 → Ordering
side_of ray a b =
    let n = normal_of ray a b in
    ordering_then (sign_of (volume_of ray a b))
    (ordering_then (sign_of n.x)
    (ordering_then (sign_of n.y)
    (ordering_then (sign_of n.z) (point_cmp b a))))
