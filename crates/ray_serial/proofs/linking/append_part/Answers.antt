use Rattle.std.proofs.Common.{ap, ◌∙◌, ◌++◌, take, append_assoc}
use Rattle.byteorder.specs.Endian.{little_bytes}
use Rattle.ray_bytes.specs.Records.{instance_of}
use Rattle.ray_serial.specs.TopMeaning.{put_reference, put_part}
use Rattle.ray_serial.proofs.linking.append_part.Goals as goal

pub returns : goal.returns
unfolding put_part
returns c =
    let reference = c.put_reference-reference.ensures ∙ ap (put_reference c.args.bytes.now) c.record_of.ensures in
    c.in_ok-extend_from_slice-2.ensures.items
    ∙ ((λ i. (c.in_ok-extend_from_slice.ensures.items ∙ ap (λ ys. c.args.buffer.now.items ++ ys) c.split_at.ensures.front) i
    ++ (c.to_le_bytes.ensures ∙ ap (little_bytes 8) reference) i)
    ∙ append_assoc c.args.buffer.now.items (take 56 c.args.part.now) (little_bytes 8 (put_reference c.args.bytes.now (instance_of c.args.part.now))))
