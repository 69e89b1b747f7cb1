use Rattle.std.proofs.Common.{◌∙◌, ap, sym}
use Rattle.std.specs.Option.{option_and_then}
use Rattle.ray_cmd.specs.declared.command.Command.{Command}
use Rattle.ray_rules.specs.declared.byte_range.ByteRange.{ByteRange}
use Rattle.ray_action.specs.Memory.{ContentsAt, as_top, bytes_at}
use Rattle.ray_action.specs.Traceable.{bottoms_of}
use Rattle.ray_memory.specs.State.{memory_of}
use Rattle.ray_memory.specs.Tracing.{seen_from, seen_of}
use Rattle.ray_memory.proofs.state.State.inputs_of.Goals as goal

pub returns-in-Trace : goal.returns-in-Trace
returns-in-Trace c =
    let m = memory_of c.args.self.now in
    c.inputs.ensures
    ∙ (ap (λ (r : ByteRange). seen_from (bottoms_of m) (option_and_then as_top (m (ContentsAt c.in-Trace.top))) (bytes_at m r)) c.all_rays.ensures
    ∙ ap (λ (d : Command). seen_of m d) (sym c.in-Trace.is))
