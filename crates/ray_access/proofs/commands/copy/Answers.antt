use Rattle.std.proofs.Common.{arith}
use Rattle.std.proofs.lemmas.Bool.Decides.{nat_tests}
use Rattle.ray_rules.specs.Access.{region_accesses}
use Rattle.ray_access.proofs.Joining.{parts_done}
use Rattle.ray_access.proofs.commands.copy.Goals as goal

pub returns : goal.returns
returns c =
    let after = c.loop-region-test.false in
    let within = c.loop-region.auto.region-index-end in
    parts_done c.args.status.now (region_accesses c.args.src c.args.dst) c.args.regions.now c.loop-region.region-index _
    (grind (arith, nat_tests)) c.loop-region.invariant.0 c.loop-region.invariant.1
