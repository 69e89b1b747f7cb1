use Rattle.std.proofs.Common.{subst, sym}
use Rattle.vkray.specs.declared.asked.Asked.TheVariants.{Certify}
use Rattle.vkray.specs.declared.request.Request.TheVariants.{Input}
use Rattle.vkray.specs.Endings.{StopsBy}
use Rattle.vkray.specs.Judged.{IsAnswerTo}
use Rattle.vkray.proofs.Judging.{recording_certified, uncertified_ends}
use Rattle.vkray.proofs.executing.certify_bytes.Goals as goal

pub returns-in-Ok : goal.returns-in-Ok
returns-in-Ok g c = recording_certified c.in-Ok.recording c.args.bytes.items c.certify_recording.result c.in-Ok.ensures c.certify_recording.ensures

pub returns-in-Err : goal.returns-in-Err
returns-in-Err g c =
    subst (λ stop. StopsBy (IsAnswerTo (Input Certify) c.args.bytes.items) stop) (sym c.from.ensures) (uncertified_ends c.args.bytes.items c.in-Err.fault c.in-Err.ensures)
