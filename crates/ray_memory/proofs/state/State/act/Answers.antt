use Rattle.ray_memory.specs.State.{memory_of}
use Rattle.ray_memory.proofs.Changing.{made-where_none}
use Rattle.ray_memory.proofs.state.State.act.Goals as goal

pub make_structure-requires : goal.make_structure-requires
make_structure-requires c =
    made-where_none c.args.command.now c.in-Structure.id c.in-Structure.kind c.in-Structure.buffer c.in-Structure.offset c.in-Structure.size
    (memory_of c.args.self.now) c.in-Structure.is c.requires
