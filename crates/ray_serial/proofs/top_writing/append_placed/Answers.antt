use Rattle.std.proofs.Common.{ap, ◌∙◌, ◌++◌, append_assoc}
use Rattle.std.specs.List.{flat_map}
use Rattle.byteorder.specs.Endian.{little_bytes}
use Rattle.ray_serial.specs.TopWritten.{instance_words, placed_bytes}
use Rattle.ray_serial.proofs.top_writing.append_placed.Goals as goal

pub returns : goal.returns
unfolding placed_bytes
returns c =
    c.in_ok-extend_from_slice.ensures.items
    ∙ ((λ i. (c.in_ok-append_words.ensures ∙ ap (λ words. c.args.bytes.now.items ++ flat_map (little_bytes 4) words) c.instance_words.ensures) i
    ++ c.to_le_bytes.ensures i)
    ∙ append_assoc c.args.bytes.now.items (flat_map (little_bytes 4) (instance_words c.args.told)) (little_bytes 8 c.args.number))
