use Rattle.std.proofs.Common.{◌≡◌, sym, subst, ◌∙◌}
use Rattle.ray_action.specs.Memory.{Location}
use Rattle.ray_action.specs.Outcomes.{Gives}
use Rattle.ray_action.specs.Storing.{put}
use Rattle.ray_memory.specs.State.{memory_of}
use Rattle.ray_device.specs.Fetched.{Fetched, given}
use Rattle.ray_device.specs.Pieces.{IsPiece, piece_action}
use Rattle.ray_device.specs.Storing.{IsStorable}
use Rattle.ray_device.proofs.Commands.{can_store, stores}
use Rattle.ray_device.proofs.storing.store.Goals as goal

pub returns : goal.returns
returns c =
    let rec = c.args.rec.now in
    let old = memory_of c.args.state.now in
    let inside : Fetched = record { piece = c.out.inside.piece; output = given c.out.inside.output } in
    let is : IsPiece rec inside.piece = subst (λ (o : Fetched). IsPiece rec o.piece) (sym c.out.view_is) c.requires.piece in
    let can : IsStorable (piece_action rec inside.piece) inside.output old =
    subst (λ (o : Fetched). IsStorable (piece_action rec o.piece) o.output old) (sym c.out.view_is) c.requires.storable in
    subst (λ (o : Fetched). (l : Location) → memory_of c.store_part.new.state l ≡ put (piece_action rec o.piece) (Gives o.output) old l) c.out.view_is
    (λ l. c.store_part.ensures l ∙ sym (stores rec inside.piece c.command-command.result.now inside.output old is c.command-command.ensures can l))

pub store_part-requires-clause-fits : goal.store_part-requires-clause-fits
store_part-requires-clause-fits c =
    let rec = c.args.rec.now in
    let old = memory_of c.args.state.now in
    let inside : Fetched = record { piece = c.out.inside.piece; output = given c.out.inside.output } in
    let is : IsPiece rec inside.piece = subst (λ (o : Fetched). IsPiece rec o.piece) (sym c.out.view_is) c.requires.piece in
    let can : IsStorable (piece_action rec inside.piece) inside.output old =
    subst (λ (o : Fetched). IsStorable (piece_action rec o.piece) o.output old) (sym c.out.view_is) c.requires.storable in
    can_store rec inside.piece c.command-command.result.now inside.output old is c.command-command.ensures can
