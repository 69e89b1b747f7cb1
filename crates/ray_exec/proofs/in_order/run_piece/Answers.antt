use Rattle.std.proofs.Common.{◌≡◌, subst}
use Rattle.ray_action.specs.Memory.{Location}
use Rattle.ray_action.specs.Outcomes.{Gives}
use Rattle.ray_action.specs.Storing.{put}
use Rattle.ray_device.specs.Pieces.{piece_action}
use Rattle.ray_memory.specs.State.{memory_of}
use Rattle.ray_exec.proofs.Hosting.{can_be_stored}
use Rattle.ray_exec.proofs.in_order.run_piece.Goals as goal

pub store-requires-clause-storable : goal.store-requires-clause-storable
store-requires-clause-storable g c =
    let given = c.in-Ok.ensures in
    can_be_stored (g.F.Fetcher.clients c.args.fetcher.now c.args.rec.now) c.args.rec.now c.args.piece c.in-Ok.out.piece c.in-Ok.out.output (memory_of c.args.state.now) given.0 c.requires.ready given.1

pub returns-in-Ok-clause-ok : goal.returns-in-Ok-clause-ok
returns-in-Ok-clause-ok g c =
    let given = c.in-Ok.ensures in
    record {
      output = c.in-Ok.out.output;
      gives = given.1;
      memory =
          subst (λ p. (l : Location) → memory_of c.store.new.state l ≡ put (piece_action c.args.rec.now p) (Gives c.in-Ok.out.output) (memory_of c.args.state.now) l)
          given.0 c.store.ensures;
    }
