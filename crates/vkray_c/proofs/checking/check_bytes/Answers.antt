use Rattle.vkray_c.proofs.TooLong.{too_long_tells}
use Rattle.vkray_c.proofs.checking.check_bytes.Goals as goal

pub returns-then-bytes : goal.returns-then-bytes
returns-then-bytes c = too_long_tells c.args.bytes.now c.of_line.result c.if-bytes.true c.of_line.ensures.status c.of_line.ensures.text
