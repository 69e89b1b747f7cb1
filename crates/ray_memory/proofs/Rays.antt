-- A ray of a record, where it is within the limits.
use Rattle.std.proofs.Common.{◌≡◌, Option, Some, None, refl, ap}
use Rattle.std.specs.Prelude.{SomeIff}
use Rattle.ray_geom.specs.Decided.{where_so, ray_decided}
use Rattle.ray_bytes.specs.declared.ray_record.RayRecord.{RayRecord}
use Rattle.ray_action.specs.Outcomes.{recorded_ray, ray_within}

-- an option that is Some exactly where the fact holds, and then of x
pub where_so-SomeIff : {P X : Type 0} (d : Dec P) (o : Option X) (x : X) → SomeIff o P x → o ≡ where_so d x
where_so-SomeIff (yes p) None x h = absurd (h p)
where_so-SomeIff (yes p) (Some y) x h = ap Some h.1
where_so-SomeIff (no n) None x h = refl
where_so-SomeIff (no n) (Some y) x h = absurd (n h.0)

pub within_is : (r : RayRecord) → where_so (ray_decided (recorded_ray r)) (recorded_ray r) ≡ ray_within r
unfolding ray_within
within_is r = refl
