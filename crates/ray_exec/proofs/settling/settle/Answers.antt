use Rattle.std.proofs.Common.{subst}
use Rattle.ray_memory.specs.State.{memory_of}
use Rattle.ray_exec.specs.declared.given.Given.TheVariants.{Out, Broken, ByHost}
use Rattle.ray_exec.specs.Settled.{settled}
use Rattle.ray_exec.proofs.Places.{no_items}
use Rattle.ray_exec.proofs.UnderWay.{IsUnderWay, by_host, ends, first_is, is_piece, shown, stops, storable, stored}
use Rattle.ray_exec.proofs.settling.settle.Goals as goal

pub store-requires-clause-piece : goal.store-requires-clause-piece
store-requires-clause-piece g c =
    is_piece c.args.rec.now (g.F.Fetcher.clients c.args.fetcher.now c.args.rec.now) _ _ c.in-Out.out c.next.new.self.rest.items _ _
    (first_is _ _ _ _ _ c.in-Some.given (Out c.in-Out.out) c.next.new.self.rest.items _ _ c.loop-given.invariant.0 c.in-Some.ensures.steps.0 c.in-Out.is)

pub store-requires-clause-storable : goal.store-requires-clause-storable
store-requires-clause-storable g c =
    storable c.args.rec.now (g.F.Fetcher.clients c.args.fetcher.now c.args.rec.now) _ _ c.in-Out.out c.next.new.self.rest.items _ _
    (first_is _ _ _ _ _ c.in-Some.given (Out c.in-Out.out) c.next.new.self.rest.items _ _ c.loop-given.invariant.0 c.in-Some.ensures.steps.0 c.in-Out.is)

pub loop-given-preserved-in-Out : goal.loop-given-preserved-in-Out
loop-given-preserved-in-Out g c = (
  stored c.args.rec.now (g.F.Fetcher.clients c.args.fetcher.now c.args.rec.now) _ _ c.in-Out.out c.next.new.self.rest.items (memory_of c.loop-given.state) (memory_of c.store.new.state) c.loop-given.text.items
      (first_is _ _ _ _ _ c.in-Some.given (Out c.in-Out.out) c.next.new.self.rest.items _ _ c.loop-given.invariant.0 c.in-Some.ensures.steps.0 c.in-Out.is)
      c.store.ensures,
  tt,
  tt,
)

pub returns-in-Broken : goal.returns-in-Broken
returns-in-Broken g c =
    stops c.args.rec.now (g.F.Fetcher.clients c.args.fetcher.now c.args.rec.now) _ _ c.in-Broken.refusal c.next.new.self.rest.items _ _
    (first_is _ _ _ _ _ c.in-Some.given (Broken c.in-Broken.refusal) c.next.new.self.rest.items _ _ c.loop-given.invariant.0 c.in-Some.ensures.steps.0 c.in-Broken.is)

pub act-requires-clause-within : goal.act-requires-clause-within
act-requires-clause-within g c =
    (by_host c.args.rec.now (g.F.Fetcher.clients c.args.fetcher.now c.args.rec.now) _ _ c.in-ByHost.command c.next.new.self.rest.items (memory_of c.loop-given.state) c.loop-given.text.items
    (first_is _ _ _ _ _ c.in-Some.given (ByHost c.in-ByHost.command) c.next.new.self.rest.items _ _ c.loop-given.invariant.0 c.in-Some.ensures.steps.0 c.in-ByHost.is)).within

pub act-requires-clause-ready : goal.act-requires-clause-ready
act-requires-clause-ready g c =
    (by_host c.args.rec.now (g.F.Fetcher.clients c.args.fetcher.now c.args.rec.now) _ _ c.in-ByHost.command c.next.new.self.rest.items (memory_of c.loop-given.state) c.loop-given.text.items
    (first_is _ _ _ _ _ c.in-Some.given (ByHost c.in-ByHost.command) c.next.new.self.rest.items _ _ c.loop-given.invariant.0 c.in-Some.ensures.steps.0 c.in-ByHost.is)).ready

pub loop-given-preserved : goal.loop-given-preserved
loop-given-preserved g c = (
  shown c.args.rec.now (g.F.Fetcher.clients c.args.fetcher.now c.args.rec.now) _ _ c.in-ByHost.command c.next.new.self.rest.items (memory_of c.loop-given.state) (memory_of c.act.new.state) c.loop-given.text.items c.act.new.text.items
      (first_is _ _ _ _ _ c.in-Some.given (ByHost c.in-ByHost.command) c.next.new.self.rest.items _ _ c.loop-given.invariant.0 c.in-Some.ensures.steps.0 c.in-ByHost.is)
      c.in_ok-act-in-ByHost.ensures,
  tt,
  tt,
)

pub returns : goal.returns
returns g c =
    ends c.args.rec.now (g.F.Fetcher.clients c.args.fetcher.now c.args.rec.now) (memory_of c.args.state.now)
    (settled c.args.rec.now (g.F.Fetcher.clients c.args.fetcher.now c.args.rec.now) (memory_of c.args.state.now) c.args.pieces.now (memory_of c.args.state.now) c.args.text.now.items)
    (memory_of c.loop-given.state) c.loop-given.text.items
    (subst (λ outs. IsUnderWay c.args.rec.now (g.F.Fetcher.clients c.args.fetcher.now c.args.rec.now) (memory_of c.args.state.now)
    (settled c.args.rec.now (g.F.Fetcher.clients c.args.fetcher.now c.args.rec.now) (memory_of c.args.state.now) c.args.pieces.now (memory_of c.args.state.now) c.args.text.now.items)
    outs (memory_of c.loop-given.state) c.loop-given.text.items) (no_items c.loop-given.given-iterator.rest.items c.loop-given.given-iterator.rest.len c.in-None.ensures.steps.0 c.loop-given.given-iterator.rest.ok.0) c.loop-given.invariant.0)
