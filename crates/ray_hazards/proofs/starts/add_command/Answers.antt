use Rattle.std.proofs.Common.{ap, List, map, subst}
use Rattle.ray_access.specs.declared.touched.Touched.{Touched}
use Rattle.ray_access.specs.Axis.{touched}
use Rattle.ray_access.specs.Lists.{structures_traced}
use Rattle.ray_rules.specs.Access.{accesses_of, host_reads}
use Rattle.ray_hazards.specs.Checks.{HasStarts}
use Rattle.ray_hazards.proofs.Starting.{further-started}
use Rattle.ray_hazards.proofs.Tracing.{IsTrace, other-placed, started-wider, trace-placed}
use Rattle.ray_hazards.proofs.starts.add_command.Goals as goal

pub returns-in_ok-add_touches-in-Trace-clause-placed : goal.returns-in_ok-add_touches-in-Trace-clause-placed
unfolding accesses_of
returns-in_ok-add_touches-in-Trace-clause-placed c = λ n there at tops.
    let rec = c.args.rec.now in
    let t = c.in-Trace in
    let is : IsTrace rec c.args.command.now t.top t.rays t.hits t.count = record {
      accesses = λ z. ap (accesses_of rec z) t.is;
      host = ap host_reads t.is;
    } in
    let put = c.in_ok-add_touches-in-Trace.ensures in
    trace-placed rec c.add_touches.new.set.keys n c.args.status.now c.args.command.now t.top t.rays t.count t.hits
    c.in_ok-touches-in-Trace.touches there at is c.in_ok-touches-in-Trace.ensures
    (further-started c.add_top.new.set.keys c.add_touches.new.set.keys
    (map (touched c.args.status.now) (structures_traced rec c.args.status.now t.top)) put.reads.kept
    (c.in_ok-add_top-in-Trace.ensures.started tops)) put.reads.added put.writes.added

pub returns-in_ok-add_touches-in-Trace-clause-tops : goal.returns-in_ok-add_touches-in-Trace-clause-tops
returns-in_ok-add_touches-in-Trace-clause-tops c = λ tops.
    started-wider c.args.rec.now c.args.status.now c.add_top.new.set.keys c.add_touches.new.set.keys c.add_top.new.known.keys
    c.in_ok-add_touches-in-Trace.ensures.reads.kept (c.in_ok-add_top-in-Trace.ensures.tops tops)

pub returns-in_ok-add_starts-in_default : goal.returns-in_ok-add_starts-in_default
returns-in_ok-add_starts-in_default c =
    let rec = c.args.rec.now in
    let z = c.args.status.now in
    let old = c.args.set.now.keys in
    let mid = c.add_touches-in_default.new.set.keys in
    let new = c.add_starts.new.set.keys in
    let put = c.in_ok-add_touches-in_default.ensures in
    let last : HasStarts c.in_ok-host-in_default.host.items mid new =
    subst (λ (ts : List Touched). HasStarts ts mid new) c.as_slice.ensures.value c.in_ok-add_starts-in_default.ensures
    in
    record {
      kept = λ p e. last.kept p (put.reads.kept p e);
      placed = λ n there at tops.
          other-placed rec new n z c.args.command.now c.in_ok-touches-in_default.touches c.in_ok-host-in_default.host.items there at
          c.in_ok-touches-in_default.ensures c.in_ok-host-in_default.ensures
          (further-started mid new c.in_ok-touches-in_default.touches.reads.items last.kept put.reads.added)
          (further-started mid new c.in_ok-touches-in_default.touches.writes.items last.kept put.writes.added) last.added;
      tops = λ tops. started-wider rec z old new c.args.known.now.keys (λ p e. last.kept p (put.reads.kept p e)) tops;
    }
