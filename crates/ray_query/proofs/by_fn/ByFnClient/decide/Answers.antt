use Rattle.std.proofs.Common.{refl}
use Rattle.ray_query.proofs.Meanings.{meaning_of-given}
use Rattle.ray_query.proofs.by_fn.ByFnClient.decide.Goals as goal

pub returns : goal.returns
returns g c =
    meaning_of-given c.args.self.now.decides c.args.c.now c.call.result c.fitting.ensures
    (c.args.c, refl, c.call.ensures)
