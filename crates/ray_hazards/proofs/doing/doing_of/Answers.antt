use Rattle.std.proofs.Common.{◌∙◌, ap, None, sym}
use Rattle.std.specs.Option.{option_map_or}
use Rattle.ray_rules.specs.Access.{accesses_of, host_reads, stage_of}
use Rattle.ray_hazards.proofs.Tracing.{IsTrace, trace-doing}
use Rattle.ray_hazards.proofs.doing.doing_of.Goals as goal

pub returns-in_ok-touches-in-Trace-clause-doing : goal.returns-in_ok-touches-in-Trace-clause-doing
unfolding accesses_of
returns-in_ok-touches-in-Trace-clause-doing c = λ n there at are.
    let t = c.in-Trace in
    let is : IsTrace c.args.rec.now c.args.command.now t.top t.rays t.hits t.count = record {
      accesses = λ z. ap (accesses_of c.args.rec.now z) t.is;
      host = ap host_reads t.is;
    } in
    let told =
    trace-doing c.args.rec.now c.args.cells.now n c.args.status.now c.args.command.now t.top t.rays t.count t.hits
    c.in_ok-structures-in-Trace.structures.items c.in_ok-others-in-Trace.others c.in_ok-touches-in-Trace.touches there at
    is (c.in_ok-structures-in-Trace.ensures.reads are) c.in_ok-others-in-Trace.ensures c.in_ok-touches-in-Trace.ensures
    in
    record {
      at = c.stage_of-stage.ensures ∙ ap (λ o. option_map_or stage_of o None) (sym there);
      reads = told.reads;
      writes = told.writes;
      host = told.host c.new.result.items c.new.ensures.items;
    }
