use Rattle.std.proofs.Common.{subst}
use Rattle.std.proofs.lemmas.Option.{get_or_from_slice_get}
use Rattle.ray_memory.specs.State.{memory_of}
use Rattle.ray_device.specs.declared.piece.Piece.{Piece}
use Rattle.ray_exec.specs.Given.{IsGivenBy}
use Rattle.ray_exec.specs.Waves.{part}
use Rattle.ray_exec.proofs.Lists.{among_get}
use Rattle.ray_exec.proofs.drawing.fetch_drawn.Goals as goal

pub given_now-requires-clause-part : goal.given_now-requires-clause-part
given_now-requires-clause-part g c κs within =
    (c.requires.ready.each _ (among_get c.args.pieces.now c.args.number (part 0 0) c.requires.within)).0

pub given_now-requires-clause-ready : goal.given_now-requires-clause-ready
given_now-requires-clause-ready g c κs within =
    (c.requires.ready.each _ (among_get c.args.pieces.now c.args.number (part 0 0) c.requires.within)).1

pub given_now-requires-clause-can : goal.given_now-requires-clause-can
given_now-requires-clause-can g c κs within =
    c.requires.ready.can_each _ (among_get c.args.pieces.now c.args.number (part 0 0) c.requires.within)

pub returns-in-Ok : goal.returns-in-Ok
returns-in-Ok g c = record {
  within = c.requires.within;
  given = λ (piece : Piece) there.
      subst (λ p. IsGivenBy c.args.rec.now (g.F.Fetcher.clients c.args.fetcher.now c.args.rec.now) (memory_of c.args.state.now) p c.in-Ok.given)
      (get_or_from_slice_get c.args.pieces.now c.args.number piece (part 0 0) there) c.in-Ok.ensures;
}
