use Rattle.ray_memory.specs.contracts.state.State.{the_view}
use Rattle.ray_memory.proofs.Changing.{memory-empty}
use Rattle.ray_memory.proofs.state.State.new.Goals as goal

pub returns : goal.returns
returns c =
    memory-empty (the_view (record { alloc = c.args.alloc; buffers = c.new.result; structures = c.new-2.result; bottoms = c.new-3.result }))
    c.new.ensures.empty c.new-2.ensures.empty c.new-3.ensures
