use Rattle.std.proofs.Common.{◌≡◌, Some, None, subst, arith}
use Rattle.ray_memory.specs.State.{memory_of}
use Rattle.ray_permitted.specs.Job.{on_one_queue}
use Rattle.ray_exec.specs.Waves.{AreRanked}
use Rattle.ray_exec.specs.Progress.{IsDone}
use Rattle.ray_exec.proofs.Ends.{begins, ends_in_memory, ends_in_text, ends_refused}
use Rattle.ray_exec.proofs.in_waves.run_in_waves.Goals as goal

pub loop-wave-init : goal.loop-wave-init
loop-wave-init g c =
    begins (on_one_queue c.args.rec.now (g.F.Fetcher.clients c.args.fetcher.now c.args.rec.now)) c.args.ranks.now c.args.until (memory_of c.args.state.now) c.new-text.result.items c.requires.new c.new-text.ensures.items

pub returns-in-Some-clause-run : goal.returns-in-Some-clause-run
returns-in-Some-clause-run g c =
    let job = on_one_queue c.args.rec.now (g.F.Fetcher.clients c.args.fetcher.now c.args.rec.now) in
    let ranks = c.args.ranks.now in
    let n = c.args.until in
    let run : AreRanked c.args.rec.now ranks n = c.requires.run in
    let last : c.loop-wave.wave ≡ n =
    (let f = c.loop-wave-test.false in let e = c.loop-wave.auto.wave-end in let s = c.len-wave-end.ensures in
    let many = c.in-Ok.ensures.many in let size = c.in-Ok.waves.ok.0 in omega (arith, f, e, s, many, size)) in
    ends_refused job ranks n (memory_of c.loop-wave.state) c.loop-wave.text.items c.in-Some.refusal run
    (subst (λ v. IsDone job ranks n v (memory_of c.loop-wave.state) c.loop-wave.text.items (Some c.in-Some.refusal)) last
    (subst (λ s. IsDone job ranks n c.loop-wave.wave (memory_of c.loop-wave.state) c.loop-wave.text.items s) c.in-Some.is c.loop-wave.invariant))

pub returns-clause-run : goal.returns-clause-run
returns-clause-run g c =
    let job = on_one_queue c.args.rec.now (g.F.Fetcher.clients c.args.fetcher.now c.args.rec.now) in
    let ranks = c.args.ranks.now in
    let n = c.args.until in
    let run : AreRanked c.args.rec.now ranks n = c.requires.run in
    let last : c.loop-wave.wave ≡ n =
    (let f = c.loop-wave-test.false in let e = c.loop-wave.auto.wave-end in let s = c.len-wave-end.ensures in
    let many = c.in-Ok.ensures.many in let size = c.in-Ok.waves.ok.0 in omega (arith, f, e, s, many, size)) in
    ends_in_text job ranks n (memory_of c.loop-wave.state) c.loop-wave.text.items run
    (subst (λ v. IsDone job ranks n v (memory_of c.loop-wave.state) c.loop-wave.text.items None) last
    (subst (λ s. IsDone job ranks n c.loop-wave.wave (memory_of c.loop-wave.state) c.loop-wave.text.items s) c.in-None.is c.loop-wave.invariant))

pub returns-clause-left : goal.returns-clause-left
returns-clause-left g c =
    let job = on_one_queue c.args.rec.now (g.F.Fetcher.clients c.args.fetcher.now c.args.rec.now) in
    let ranks = c.args.ranks.now in
    let n = c.args.until in
    let run : AreRanked c.args.rec.now ranks n = c.requires.run in
    let last : c.loop-wave.wave ≡ n =
    (let f = c.loop-wave-test.false in let e = c.loop-wave.auto.wave-end in let s = c.len-wave-end.ensures in
    let many = c.in-Ok.ensures.many in let size = c.in-Ok.waves.ok.0 in omega (arith, f, e, s, many, size)) in
    ends_in_memory job ranks n (memory_of c.loop-wave.state) c.loop-wave.text.items run
    (subst (λ v. IsDone job ranks n v (memory_of c.loop-wave.state) c.loop-wave.text.items None) last
    (subst (λ s. IsDone job ranks n c.loop-wave.wave (memory_of c.loop-wave.state) c.loop-wave.text.items s) c.in-None.is c.loop-wave.invariant))
