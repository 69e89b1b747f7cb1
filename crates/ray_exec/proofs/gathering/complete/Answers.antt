use Rattle.std.proofs.Common.{arith}
use Rattle.ray_memory.specs.State.{memory_of}
use Rattle.ray_exec.specs.Waves.{part}
use Rattle.ray_exec.proofs.Lists.{among_get}
use Rattle.ray_exec.proofs.Places.{given_to_all, given_to_next, next_is}
use Rattle.ray_exec.proofs.gathering.complete.Goals as goal

pub filled-requires-clause-part : goal.filled-requires-clause-part
filled-requires-clause-part g c κs within =
    let next = next_is c.args.rec.now (g.F.Fetcher.clients c.args.fetcher.now c.args.rec.now) (memory_of c.args.state.now) c.args.pieces.now c.loop-place.outs.len (part 0 0) c.loop-place.outs.items
    c.loop-place.place-iterator.rest.items c.in-Some.place c.next.new.self.rest.items c.loop-place.invariant.0 c.in-Some.ensures.steps.0 in
    let less = next.within in
    let same = c.len.ensures in
    (c.requires.ready.each _ (among_get c.args.pieces.now c.len.result (part 0 0) (omega (arith, less, same)))).0

pub filled-requires-clause-ready : goal.filled-requires-clause-ready
filled-requires-clause-ready g c κs within =
    let next = next_is c.args.rec.now (g.F.Fetcher.clients c.args.fetcher.now c.args.rec.now) (memory_of c.args.state.now) c.args.pieces.now c.loop-place.outs.len (part 0 0) c.loop-place.outs.items
    c.loop-place.place-iterator.rest.items c.in-Some.place c.next.new.self.rest.items c.loop-place.invariant.0 c.in-Some.ensures.steps.0 in
    let less = next.within in
    let same = c.len.ensures in
    (c.requires.ready.each _ (among_get c.args.pieces.now c.len.result (part 0 0) (omega (arith, less, same)))).1

pub filled-requires-clause-can : goal.filled-requires-clause-can
filled-requires-clause-can g c κs within =
    let next = next_is c.args.rec.now (g.F.Fetcher.clients c.args.fetcher.now c.args.rec.now) (memory_of c.args.state.now) c.args.pieces.now c.loop-place.outs.len (part 0 0) c.loop-place.outs.items
    c.loop-place.place-iterator.rest.items c.in-Some.place c.next.new.self.rest.items c.loop-place.invariant.0 c.in-Some.ensures.steps.0 in
    let less = next.within in
    let same = c.len.ensures in
    c.requires.ready.can_each _ (among_get c.args.pieces.now c.len.result (part 0 0) (omega (arith, less, same)))

pub loop-place-preserved : goal.loop-place-preserved
loop-place-preserved g c = (
  given_to_next c.args.rec.now (g.F.Fetcher.clients c.args.fetcher.now c.args.rec.now) (memory_of c.args.state.now) c.args.pieces.now c.loop-place.outs.len c.len.result c.push.new.self.len (part 0 0)
      c.loop-place.outs.items c.push.new.self.items c.loop-place.place-iterator.rest.items c.in-Some.place c.next.new.self.rest.items c.in_ok-given.given
      c.loop-place.invariant.0 c.in-Some.ensures.steps.0 c.len.ensures c.in_ok-given.ensures c.in_ok-push.ensures.len c.in_ok-push.ensures.items,
  tt,
  tt,
)

pub returns : goal.returns
returns g c =
    given_to_all c.args.rec.now (g.F.Fetcher.clients c.args.fetcher.now c.args.rec.now) (memory_of c.args.state.now) c.args.pieces.now c.loop-place.outs.len c.loop-place.place-iterator.rest.len
    c.loop-place.outs.items c.loop-place.place-iterator.rest.items c.loop-place.invariant.0 c.in-None.ensures.steps.0 c.loop-place.place-iterator.rest.ok.0
