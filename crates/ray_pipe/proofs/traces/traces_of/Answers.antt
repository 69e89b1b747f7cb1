use Rattle.std.proofs.Common.{rules}
use Rattle.ray_pipe.proofs.Counting.{traces-more}
use Rattle.ray_pipe.proofs.traces.traces_of.Goals as goal

pub loop-i-preserved : goal.loop-i-preserved
loop-i-preserved c =
    let l = c.loop-i in
    traces-more c.args.rec.now l.i l.scripted.items c.add_trace.new.scripted.items l.counts.items c.push.new.self.items
    c.command.result.now c.command.ensures c.in_ok-add_trace.ensures (search rules) l.invariant
