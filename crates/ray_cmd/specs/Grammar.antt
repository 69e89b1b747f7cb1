-- The grammar of a command: which JSON values spell a command, and which. (Own.)
use Rattle.std.specs.Prelude.{[], ◌∷◌, Option, codes}
use Rattle.serde_json.specs.Data.{Data}
use Rattle.ray_json.specs.Fields.{◌>>=◌, at, word_of}
use Rattle.ray_cmd.specs.Host.{buffer_of, structure_of, destroy_of, sizes_of, begin_of, end_of, submit_of, wait_of, read_of}
use Rattle.ray_cmd.specs.Transfer.{update_of, fill_of, copy_of, barrier_of}
use Rattle.ray_cmd.specs.Building.{build_of}
use Rattle.ray_cmd.specs.Copies.{copy_structure_of, serialize_of, deserialize_of, property_of}
use Rattle.ray_cmd.specs.Tracing.{trace_of}
use Rattle.ray_cmd.specs.declared.command.Command.{Command}
use Rattle.ray_cmd.specs.declared.op.Op.{Op}
use Rattle.ray_cmd.specs.declared.op.Op.TheVariants as ops

-- the word of a command
abbrev pub op_of : Data → Option Op
op_of = word_of (
    (codes "buffer", ops.Buffer)
    ∷ (codes "structure", ops.Structure)
    ∷ (codes "destroy", ops.Destroy)
    ∷ (codes "sizes", ops.Sizes)
    ∷ (codes "begin", ops.Begin)
    ∷ (codes "end", ops.End)
    ∷ (codes "submit", ops.Submit)
    ∷ (codes "wait", ops.Wait)
    ∷ (codes "read", ops.Read)
    ∷ (codes "update", ops.Update)
    ∷ (codes "fill", ops.Fill)
    ∷ (codes "copy", ops.Copy)
    ∷ (codes "build", ops.Build)
    ∷ (codes "copy_structure", ops.CopyStructure)
    ∷ (codes "serialize", ops.Serialize)
    ∷ (codes "deserialize", ops.Deserialize)
    ∷ (codes "property", ops.Property)
    ∷ (codes "barrier", ops.Barrier)
    ∷ (codes "trace", ops.Trace)
    ∷ [])

-- a command of this word
abbrev pub command_by : Op → Data → Option Command
command_by ops.Buffer d = buffer_of d
command_by ops.Structure d = structure_of d
command_by ops.Destroy d = destroy_of d
command_by ops.Sizes d = sizes_of d
command_by ops.Begin d = begin_of d
command_by ops.End d = end_of d
command_by ops.Submit d = submit_of d
command_by ops.Wait d = wait_of d
command_by ops.Read d = read_of d
command_by ops.Update d = update_of d
command_by ops.Fill d = fill_of d
command_by ops.Copy d = copy_of d
command_by ops.Build d = build_of d
command_by ops.CopyStructure d = copy_structure_of d
command_by ops.Serialize d = serialize_of d
command_by ops.Deserialize d = deserialize_of d
command_by ops.Property d = property_of d
command_by ops.Barrier d = barrier_of d
command_by ops.Trace d = trace_of d

-- a command
abbrev pub command_of : Data → Option Command
command_of d = at op_of (codes "op") d >>= λ op. command_by op d
