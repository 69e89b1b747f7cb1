use Rattle.std.proofs.Common.{Ok, refl}
use Rattle.vkray.proofs.Telling.{reply_tells}
use Rattle.vkray.proofs.top_call.reply.Goals as goal

pub returns-in-Ok-clause-replies : goal.returns-in-Ok-clause-replies
returns-in-Ok-clause-replies g c = (Ok c.in-Ok.text.items, c.in-Ok.ensures.called, refl, refl)

pub returns-in-Err-clause-replies : goal.returns-in-Err-clause-replies
returns-in-Err-clause-replies g c =
    let told = c.of_stop.ensures in
    reply_tells c.args.words.now _ c.in-Err.stop c.of_stop.result c.in-Err.ensures.called told.status told.text told.told
