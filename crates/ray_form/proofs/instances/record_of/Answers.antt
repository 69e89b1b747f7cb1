use Rattle.std.proofs.Common.{sym, ap, ◌∙◌, option_map}
use Rattle.ray_bytes.specs.Views.{Row}
use Rattle.ray_bytes.specs.Records.{instance_of}
use Rattle.ray_bytes.specs.Slices.{record_at}
use Rattle.ray_form.proofs.Bytes.{instance_whole}
use Rattle.ray_form.proofs.instances.record_of.Goals as goal

pub returns : goal.returns
returns c =
    let read = ap (λ (row : Row). option_map instance_of (record_at row.bytes row.start 64 64 0)) c.new.ensures in
    instance_whole c.args.bytes.now c.unwrap.result c.requires (sym read ∙ (sym c.get.ensures ∙ c.unwrap.ensures))
