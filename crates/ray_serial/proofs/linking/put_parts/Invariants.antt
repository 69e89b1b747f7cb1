use Rattle.std.proofs.Common.{◌≡◌, take}
use Rattle.ray_serial.specs.TopMeaning.{put_parts}
use Rattle.ray_serial.proofs.linking.put_parts.Given as goal

abbrev pub invariant-loop-part : goal.invariant-loop-part
invariant-loop-part l = l.buffer.items ≡ put_parts l.bytes (take l.part-index l.parts)
