use Rattle.std.proofs.Common.{rules}
use Rattle.std.proofs.lemmas.Int.{to_z-of_z}
use Rattle.ray_window.specs.Meets.{MeetsOn}
use Rattle.ray_walk.proofs.meeting.meets.Goals as goal

pub returns : goal.returns
returns c = (
  λ t. record { x = search (rules, to_z-of_z); y = search (rules, to_z-of_z); z = search (rules, to_z-of_z) },
  λ met.
      let last : MeetsOn c.args.window.now 2 c.args.lo.z c.args.hi.z = met.z in
      search (rules, to_z-of_z),
)
