use Rattle.std.proofs.Common.{rules}
use Rattle.vkray.specs.Call.{IsRead, reading}
use Rattle.vkray.specs.declared.request.Request.TheVariants.{Input}
use Rattle.vkray.specs.Words.{Asks}
use Rattle.vkray.proofs.Telling.{ends_call}
use Rattle.vkray.proofs.top_call.read_and_run.Goals as goal

pub returns-in-Ok-clause-called : goal.returns-in-Ok-clause-called
returns-in-Ok-clause-called g c =
    let asks : Asks c.args.words.now c.in-Some-Input.asked = search rules in
    let read : IsRead (reading g.S.Source.left g.S.Source.faults c.args.source.now c.read_all.new.source) c.in-Ok.bytes.items = search rules in
    ends_call c.args.words.now _ (Input c.in-Some-Input.asked) asks c.in-Ok.bytes.items read c.execute.result c.execute.ensures
