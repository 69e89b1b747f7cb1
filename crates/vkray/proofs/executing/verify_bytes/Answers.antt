use Rattle.std.proofs.Common.{subst, sym}
use Rattle.vkray.specs.declared.asked.Asked.TheVariants.{Verify}
use Rattle.vkray.specs.declared.request.Request.TheVariants.{Input}
use Rattle.vkray.specs.Endings.{StopsBy}
use Rattle.vkray.specs.Judged.{IsAnswerTo}
use Rattle.vkray.proofs.Judging.{read_ends, unread_ends}
use Rattle.vkray.proofs.executing.verify_bytes.Goals as goal

pub returns-in-Ok : goal.returns-in-Ok
returns-in-Ok g c = read_ends c.args.bytes.items c.in-Ok.certified c.verify_recording.result c.in-Ok.ensures c.verify_recording.ensures

pub returns-in-Err : goal.returns-in-Err
returns-in-Err g c =
    subst (λ stop. StopsBy (IsAnswerTo (Input Verify) c.args.bytes.items) stop) (sym c.from.ensures) (unread_ends c.args.bytes.items c.in-Err.fault c.in-Err.ensures)
