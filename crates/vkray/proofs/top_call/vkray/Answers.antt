use Rattle.std.proofs.Common.{inr}
use Rattle.vkray.proofs.Calls.{completed, headline, verified}
use Rattle.vkray.proofs.Telling.{told_of}
use Rattle.vkray.proofs.top_call.vkray.Goals as goal

pub returns-in-Ok-clause-answer : goal.returns-in-Ok-clause-answer
returns-in-Ok-clause-answer g c =
    inr (told_of c.args.words.now _ _ c.in-Ok.reply.status c.in-Ok.reply.text.items c.write_reply.result
    c.in-Ok.ensures.replies c.write_reply.ensures)

pub returns-in-Ok-clause-headline : goal.returns-in-Ok-clause-headline
returns-in-Ok-clause-headline g c request input run asks done told =
    headline c.args.words.now _ _ c.write_reply.result
    (inr (told_of c.args.words.now _ _ c.in-Ok.reply.status c.in-Ok.reply.text.items c.write_reply.result
    c.in-Ok.ensures.replies c.write_reply.ensures)) request input run asks done told

pub returns-in-Ok-clause-complete : goal.returns-in-Ok-clause-complete
returns-in-Ok-clause-complete g c request input text good valid =
    completed c.args.words.now _ _ request input text good valid c.write_reply.result
    (inr (told_of c.args.words.now _ _ c.in-Ok.reply.status c.in-Ok.reply.text.items c.write_reply.result
    c.in-Ok.ensures.replies c.write_reply.ensures))

pub returns-in-Ok-clause-verified : goal.returns-in-Ok-clause-verified
returns-in-Ok-clause-verified g c input rec asks done told read =
    verified c.args.words.now _ _ c.write_reply.result
    (inr (told_of c.args.words.now _ _ c.in-Ok.reply.status c.in-Ok.reply.text.items c.write_reply.result
    c.in-Ok.ensures.replies c.write_reply.ensures)) input rec asks done told read
