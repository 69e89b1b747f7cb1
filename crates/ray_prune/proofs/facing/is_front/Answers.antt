use Rattle.std.proofs.Common.{◌≡◌, ◌≢◌, rules}
use Rattle.std.specs.Prelude.{pos}
use Rattle.std.proofs.lemmas.Int.{to_z-of_z}
use Rattle.ray_geom.specs.Transform.{det_of}
use Rattle.ray_prune.specs.Facing.{is_front}
use Rattle.ray_prune.proofs.Faces.{is_front-tells}
use Rattle.ray_prune.proofs.facing.is_front.Goals as goal

pub returns-clause-front : goal.returns-clause-front
returns-clause-front c =
    let is : c.is_opposite.result ≡ is_front c.args.hit.now.den_negative (det_of c.args.m.now) = search (rules, to_z-of_z) in
    let crosses : det_of c.args.m.now ≢ pos 0 = search rules in
    λ ray tri at tells. is_front-tells c.args.m.now c.args.hit.now c.is_opposite.result is crosses ray tri at tells
