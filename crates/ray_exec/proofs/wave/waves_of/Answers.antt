use Rattle.std.proofs.Common.{refl}
use Rattle.ray_exec.proofs.Filling.{one_more}
use Rattle.ray_exec.proofs.wave.waves_of.Goals as goal

pub loop-command-preserved : goal.loop-command-preserved
loop-command-preserved c =
    one_more c.args.ranks.now c.args.until c.loop-command.command _ c.loop-command.waves.items c.add.new.waves.items
    refl c.loop-command.invariant c.in_ok-add.ensures
