use Rattle.std.proofs.Common.{◌≡◌, Option, List, length}
use Rattle.std.specs.Prelude.{All}
use Rattle.ray_primitives.proofs.Results.{IfOk-Gives}
use Rattle.ray_top.specs.Instances.{InstanceValue}
use Rattle.ray_top.specs.Contents.{IsInstance}
use Rattle.ray_top.proofs.Limits.{AreRead-instances_read}
use Rattle.ray_top.proofs.reading.read_instances.Goals as goal

pub returns-clause-count : goal.returns-clause-count
returns-clause-count c =
    IfOk-Gives (λ (instances : List (Option InstanceValue)). length instances ≡ c.args.count) _ c.read.result c.read.ensures
    (λ instances e. (AreRead-instances_read c.args.used.now c.args.view.now _ c.args.count instances e).as_many)

pub returns-clause-limits : goal.returns-clause-limits
returns-clause-limits c =
    IfOk-Gives (λ (instances : List (Option InstanceValue)). All (IsInstance c.args.used.now) instances) _ c.read.result c.read.ensures
    (λ instances e. (AreRead-instances_read c.args.used.now c.args.view.now _ c.args.count instances e).each)
