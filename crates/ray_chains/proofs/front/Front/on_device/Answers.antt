use Rattle.std.proofs.Common.{suc, sym, subst}
use Rattle.ray_chains.specs.Keeping.{IsFront}
use Rattle.ray_chains.specs.Queues.{steps}
use Rattle.ray_chains.proofs.Tables.{front-wait, front-begin}
use Rattle.ray_chains.proofs.front.Front.on_device.Goals as goal

pub returns-clause-wait : goal.returns-clause-wait
returns-clause-wait c acts events source queue is on front =
    subst (IsFront acts (steps events source) queue (suc c.args.number)) (sym c.device.ensures)
    (front-wait acts events source queue c.args.number c.args.self is on front)

pub returns-clause-begin : goal.returns-clause-begin
returns-clause-begin c acts events source queue n waits is on number front =
    subst (IsFront acts (steps events source) queue (suc n)) (sym c.device.ensures)
    (front-begin acts events source queue n c.args.number c.args.self waits is on number front)
