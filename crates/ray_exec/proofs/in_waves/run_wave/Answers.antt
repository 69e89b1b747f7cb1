use Rattle.std.proofs.Common.{◌+◌, subst, sym, ◌∙◌}
use Rattle.ray_memory.specs.State.{memory_of}
use Rattle.ray_permitted.specs.Job.{on_one_queue}
use Rattle.ray_exec.specs.Waves.{AreRun}
use Rattle.ray_exec.specs.Given.{AreReady}
use Rattle.ray_exec.specs.Progress.{IsDone}
use Rattle.ray_exec.specs.Settled.{AreApart, IsLeftBy, settled}
use Rattle.ray_exec.proofs.Filling.{commands_within}
use Rattle.ray_exec.proofs.GoingOn.{goes_on, pieces_are}
use Rattle.ray_exec.proofs.OneWave.{wave_apart, wave_ready}
use Rattle.ray_ready.specs.Accepted.{refused_from}
use Rattle.ray_exec.proofs.in_waves.run_wave.Goals as goal

pub pieces_below-requires : goal.pieces_below-requires
pieces_below-requires g c = record {
  within = commands_within c.args.plan.now.rec.now c.args.plan.now.ranks.now c.args.plan.now.until c.args.wave c.commands_of-commands.result.now c.commands_of-commands.ensures c.requires.run.run.within;
}

pub fetch_wave-requires-clause-ready : goal.fetch_wave-requires-clause-ready
fetch_wave-requires-clause-ready g c κs within =
    let rec = c.args.plan.now.rec.now in
    let job = on_one_queue rec (g.F.Fetcher.clients c.args.fetcher.now c.args.plan.now.rec.now) in
    let ranks = c.args.plan.now.ranks.now in
    let n = c.args.plan.now.until in
    let v = c.args.wave in
    let run : AreRun rec ranks n = c.requires.run.run in
    subst (AreReady (g.F.Fetcher.can_fetch c.args.fetcher.now) rec (memory_of c.args.state.now))
    (sym (c.as_slice.ensures.value ∙ pieces_are rec ranks n v c.bound_by.result c.args.stop c.commands_of-commands.result.now c.in_ok-pieces.pieces.items
    c.commands_of-commands.ensures c.bound_by.ensures c.in_ok-pieces.ensures))
    (wave_ready (g.F.Fetcher.can_fetch c.args.fetcher.now) job ranks n v (memory_of c.args.state.now) c.args.text.now.items c.args.stop c.requires.can run c.requires.done)

pub settle-requires-clause-ready : goal.settle-requires-clause-ready
settle-requires-clause-ready g c =
    let rec = c.args.plan.now.rec.now in
    let job = on_one_queue rec (g.F.Fetcher.clients c.args.fetcher.now c.args.plan.now.rec.now) in
    let ranks = c.args.plan.now.ranks.now in
    let n = c.args.plan.now.until in
    let v = c.args.wave in
    let run : AreRun rec ranks n = c.requires.run.run in
    subst (AreReady (g.F.Fetcher.can_fetch c.args.fetcher.now) rec (memory_of c.args.state.now))
    (sym (c.as_slice-2.ensures.value ∙ pieces_are rec ranks n v c.bound_by.result c.args.stop c.commands_of-commands.result.now c.in_ok-pieces.pieces.items
    c.commands_of-commands.ensures c.bound_by.ensures c.in_ok-pieces.ensures))
    (wave_ready (g.F.Fetcher.can_fetch c.args.fetcher.now) job ranks n v (memory_of c.args.state.now) c.args.text.now.items c.args.stop c.requires.can run c.requires.done)

pub settle-requires-clause-apart : goal.settle-requires-clause-apart
settle-requires-clause-apart g c =
    let rec = c.args.plan.now.rec.now in
    let job = on_one_queue rec (g.F.Fetcher.clients c.args.fetcher.now c.args.plan.now.rec.now) in
    let ranks = c.args.plan.now.ranks.now in
    let n = c.args.plan.now.until in
    let v = c.args.wave in
    let run : AreRun rec ranks n = c.requires.run.run in
    subst (AreApart rec)
    (sym (c.as_slice-2.ensures.value ∙ pieces_are rec ranks n v c.bound_by.result c.args.stop c.commands_of-commands.result.now c.in_ok-pieces.pieces.items
    c.commands_of-commands.ensures c.bound_by.ensures c.in_ok-pieces.ensures))
    (wave_apart job ranks n v (refused_from n c.args.stop) run)

pub returns : goal.returns
returns g c =
    let rec = c.args.plan.now.rec.now in
    let job = on_one_queue rec (g.F.Fetcher.clients c.args.fetcher.now c.args.plan.now.rec.now) in
    let ranks = c.args.plan.now.ranks.now in
    let n = c.args.plan.now.until in
    let v = c.args.wave in
    let m = memory_of c.args.state.now in
    let text = c.args.text.now.items in
    let run : AreRun rec ranks n = c.requires.run.run in
    subst (IsDone job ranks n (v + 1) (memory_of c.settle.new.state) c.settle.new.text.items) (sym c.least.ensures)
    (goes_on job ranks n v m (memory_of c.settle.new.state) text c.settle.new.text.items c.args.stop c.in_ok-met.met run c.requires.done
    (subst (λ pieces. IsLeftBy (settled rec (g.F.Fetcher.clients c.args.fetcher.now c.args.plan.now.rec.now) m pieces m text) (memory_of c.settle.new.state) c.settle.new.text.items c.in_ok-met.met)
    (c.as_slice-2.ensures.value ∙ pieces_are rec ranks n v c.bound_by.result c.args.stop c.commands_of-commands.result.now c.in_ok-pieces.pieces.items
    c.commands_of-commands.ensures c.bound_by.ensures c.in_ok-pieces.ensures)
    c.in_ok-met.ensures))
