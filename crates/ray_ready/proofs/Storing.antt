-- What the store of each action leaves of the invariant, but for those that fill a structure from bytes.
use Rattle.std.proofs.Common.{◌≡◌, ◌<◌, ◌≤◌, ◌+◌, ℕ, Bool, true, false, List, Option, Some, None, IsSome, refl, sym, ◌∙◌, ap, subst, arith}
use Rattle.std.specs.Prelude.{[], if◌then◌else◌, nat_lt, not, slice_get, unwrap_or}
use Rattle.std.proofs.lemmas.Bool.Decides.{nat_tests}
use Rattle.std.specs.Option.{option_map}
use Rattle.ray_flags.specs.declared.usage.Usage.{Usage}
use Rattle.ray_cmd.specs.declared.command.Command.{Command}
use Rattle.ray_cmd.specs.declared.structure_kind.StructureKind.{StructureKind}
use Rattle.ray_rules.specs.declared.built.Built.{Built}
use Rattle.ray_rules.specs.declared.live_buffer.LiveBuffer.{LiveBuffer}
use Rattle.ray_rules.specs.declared.live_structure.LiveStructure.{LiveStructure}
use Rattle.ray_rules.specs.Buffers.{is_alone}
use Rattle.ray_rules.specs.Ids.{look, with_id, without_id}
use Rattle.ray_rules.specs.Status.{Status, fill_in, structure_built, with_buffer, with_built, with_structure}
use Rattle.ray_action.specs.Areas.{is_contents_of, is_in_range}
use Rattle.ray_action.specs.Memory.{Contents, Memory, ByteAt, BufferAt, StructureAt, ContentsAt}
use Rattle.ray_action.specs.Action.{Action, MakeBuffer, MakeStructure, DestroyBuffer, DestroyStructure, ShowSizes, ShowBytes, UpdateBytes, FillBytes, CopyBytes, BuildBottom, UpdateBottom, BuildTop, UpdateTop, CopyStructure, SerializeStructure, DeserializeStructure, TellProperty, TraceRays, Rest, Impossible}
use Rattle.ray_action.specs.Outcomes.{Output, Nothing, Bytes, Holds, Gives}
use Rattle.ray_action.specs.Pieces.{content_of}
use Rattle.ray_action.specs.Storing.{bytes_left, filled, fresh_byte, holding, put, stored}
use Rattle.ray_ready.proofs.Ties.{IsBuilt, TiedBuffers, Ties, form_of}
use Rattle.ray_ready.proofs.Keeping.{Changes, bytes_kept, buffers_changed, comes, contents_unbuilt, forms_changed, forms_filled, goes}
use Rattle.ray_ready.proofs.Filling.{IsFree, IsNew, contents_filled, contents_later}

-- ---- bytes

mapped : {X Y : Type 0} (f : X → Y) (found : Option X) → IsSome found → IsSome (option_map f found)
mapped f None is = absurd cc
mapped f (Some x) is = refl

either : {X : Type 0} (b : Bool) (x y : Option X) → IsSome x → IsSome y → IsSome (if b then x else y)
either true x y h k = h
either false x y h k = k

left_there : (from : ℕ) (output : Output) (q at : ℕ) (old : Option ℕ) → IsSome old → IsSome (bytes_left from output (ByteAt q at) old)
left_there from Nothing q at old is = is
left_there from (Bytes bytes) q at old is = mapped _ old is
left_there from (Holds contents) q at old is = is

-- an action writes bytes of buffers, or nothing
abbrev pub WritesBytes : Action → Type 0
WritesBytes (ShowSizes kind counts) = Unit {0}
WritesBytes (ShowBytes from form) = Unit {0}
WritesBytes (UpdateBytes to content) = Unit {0}
WritesBytes (FillBytes to value) = Unit {0}
WritesBytes (CopyBytes from to) = Unit {0}
WritesBytes (SerializeStructure src to form) = Unit {0}
WritesBytes (TellProperty what structures to) = Unit {0}
WritesBytes (TraceRays trace) = Unit {0}
WritesBytes Rest = Unit {0}
WritesBytes _ = ⊥

-- what is left where bytes are kept and nothing else is written
with_bytes : (rec : List Command) (i k : ℕ) (z : Status) (m : Memory) (bytes : ℕ → ℕ → Option ℕ) → ((q at : ℕ) → IsSome (m (ByteAt q at)) → IsSome (bytes q at))
    → Ties rec i k z m → TiedBuffers z.buffers (λ id. m (BufferAt id)) bytes
with_bytes rec i k z m bytes all ties = bytes_kept z.buffers (λ id. m (BufferAt id)) (λ id at. m (ByteAt id at)) bytes all ties.buffers

pub ties_written : (rec : List Command) (i k : ℕ) (z : Status) (m : Memory) (a : Action) (output : Output) → WritesBytes a → Ties rec i k z m
    → Ties rec i k z (put a (Gives output) m)
ties_written rec i k z m (ShowSizes kind counts) output w ties = record { buffers = ties.buffers; forms = ties.forms; contents = ties.contents }
ties_written rec i k z m (ShowBytes from form) output w ties = record { buffers = ties.buffers; forms = ties.forms; contents = ties.contents }
ties_written rec i k z m (UpdateBytes to content) output w ties = record {
  buffers = with_bytes rec i k z m (λ q at. put (UpdateBytes to content) (Gives output) m (ByteAt q at))
      (λ q at is. either (is_in_range to (ByteAt q at)) (stored to.from content (ByteAt q at) (m (ByteAt q at))) (m (ByteAt q at)) (mapped _ (m (ByteAt q at)) is) is) ties;
  forms = ties.forms;
  contents = ties.contents;
}
ties_written rec i k z m (FillBytes to value) output w ties = record {
  buffers = with_bytes rec i k z m (λ q at. put (FillBytes to value) (Gives output) m (ByteAt q at))
      (λ q at is. either (is_in_range to (ByteAt q at)) (filled to.from value (ByteAt q at) (m (ByteAt q at))) (m (ByteAt q at)) (mapped _ (m (ByteAt q at)) is) is) ties;
  forms = ties.forms;
  contents = ties.contents;
}
ties_written rec i k z m (CopyBytes from to) output w ties = record {
  buffers = with_bytes rec i k z m (λ q at. put (CopyBytes from to) (Gives output) m (ByteAt q at))
      (λ q at is. either (is_in_range to (ByteAt q at)) (bytes_left to.from output (ByteAt q at) (m (ByteAt q at))) (m (ByteAt q at)) (left_there to.from output q at (m (ByteAt q at)) is) is) ties;
  forms = ties.forms;
  contents = ties.contents;
}
ties_written rec i k z m (SerializeStructure src to form) output w ties = record {
  buffers = with_bytes rec i k z m (λ q at. put (SerializeStructure src to form) (Gives output) m (ByteAt q at))
      (λ q at is. either (is_in_range to (ByteAt q at)) (bytes_left to.from output (ByteAt q at) (m (ByteAt q at))) (m (ByteAt q at)) (left_there to.from output q at (m (ByteAt q at)) is) is) ties;
  forms = ties.forms;
  contents = ties.contents;
}
ties_written rec i k z m (TellProperty what structures to) output w ties = record {
  buffers = with_bytes rec i k z m (λ q at. put (TellProperty what structures to) (Gives output) m (ByteAt q at))
      (λ q at is. either (is_in_range to (ByteAt q at)) (bytes_left to.from output (ByteAt q at) (m (ByteAt q at))) (m (ByteAt q at)) (left_there to.from output q at (m (ByteAt q at)) is) is) ties;
  forms = ties.forms;
  contents = ties.contents;
}
ties_written rec i k z m (TraceRays trace) output w ties = record {
  buffers = with_bytes rec i k z m (λ q at. put (TraceRays trace) (Gives output) m (ByteAt q at))
      (λ q at is. either (is_in_range trace.hits (ByteAt q at)) (bytes_left trace.hits.from output (ByteAt q at) (m (ByteAt q at))) (m (ByteAt q at)) (left_there trace.hits.from output q at (m (ByteAt q at)) is) is) ties;
  forms = ties.forms;
  contents = ties.contents;
}
ties_written rec i k z m Rest output w ties = record { buffers = ties.buffers; forms = ties.forms; contents = ties.contents }
ties_written rec i k z m (MakeBuffer id size content) output w ties = absurd w
ties_written rec i k z m (MakeStructure id form) output w ties = absurd w
ties_written rec i k z m (DestroyBuffer id) output w ties = absurd w
ties_written rec i k z m (DestroyStructure id) output w ties = absurd w
ties_written rec i k z m (BuildBottom build flags gs) output w ties = absurd w
ties_written rec i k z m (UpdateBottom build src gs) output w ties = absurd w
ties_written rec i k z m (BuildTop build flags uses instances) output w ties = absurd w
ties_written rec i k z m (UpdateTop build src uses instances) output w ties = absurd w
ties_written rec i k z m (CopyStructure mode src dst) output w ties = absurd w
ties_written rec i k z m (DeserializeStructure from dst uses) output w ties = absurd w
ties_written rec i k z m Impossible output w ties = absurd w

-- ---- buffers come and go

told_byte : (at size : ℕ) (told : List ℕ) → at < size → IsSome (fresh_byte size (Some told) at)
told_byte at size told below =
    let byte = unwrap_or (slice_get told at) 0 in
    let is : nat_lt at size ≡ true = grind (arith, nat_tests, below) in
    subst IsSome (sym (ap (λ b. if b then Some byte else None) is)) refl

new_byte : (at size : ℕ) (alone : Bool) (told : List ℕ) → not alone ≡ true → at < size → IsSome (fresh_byte size (if alone then None else Some told) at)
new_byte at size true told kept below = absurd cc
new_byte at size false told kept below = told_byte at size told below

pub ties_made : (rec : List Command) (i k : ℕ) (z : Status) (m : Memory) (id size : ℕ) (content : Option (List ℕ)) (usage : Usage) (output : Output) → Ties rec i k z m
    → Ties rec i k (with_buffer id (record { made = i; size = size; usage = usage }) z) (put (MakeBuffer id size (content_of usage content)) (Gives output) m)
ties_made rec i k z m id size content usage output ties =
    let new : LiveBuffer = record { made = i; size = size; usage = usage } in record {
      buffers = buffers_changed id (Some new) z.buffers (with_id id new z.buffers) (λ q. m (BufferAt q)) (λ q at. m (ByteAt q at))
          (λ q at. fresh_byte size (content_of usage content) at) (comes id new z.buffers ties.buffers.rise)
          (λ q at kept below. new_byte at size (is_alone usage) (unwrap_or content []) kept below) ties.buffers;
      forms = ties.forms;
      contents = ties.contents;
    }

pub ties_gone : (rec : List Command) (i k : ℕ) (z : Status) (m : Memory) (id : ℕ) (output : Output) → Ties rec i k z m
    → Ties rec i k (record z { buffers = without_id id z.buffers }) (put (DestroyBuffer id) (Gives output) m)
ties_gone rec i k z m id output ties = record {
  buffers = buffers_changed id None z.buffers (without_id id z.buffers) (λ q. m (BufferAt q)) (λ q at. m (ByteAt q at)) (λ q at. None)
      (goes id z.buffers ties.buffers.rise) (λ q at kept below. absurd (omega (arith, below))) ties.buffers;
  forms = ties.forms;
  contents = ties.contents;
}

-- ---- structures come and go

not_built : (s : LiveStructure) → s.built ≡ None → (kind : StructureKind) (b : Built) → IsBuilt (Some s) kind b → ⊥
not_built s none kind b built =
    let same : s ≡ built.structure = cc in
    let by : None ≡ Some b = sym none ∙ (ap (λ (x : LiveStructure). x.built) same ∙ built.built) in
    absurd cc

none_built : (kind : StructureKind) (b : Built) → IsBuilt None kind b → ⊥
none_built kind b built = let none : None ≡ Some built.structure = built.is_it in absurd cc

pub ties_created : (rec : List Command) (i k : ℕ) (z : Status) (m : Memory) (id : ℕ) (s : LiveStructure) (output : Output) → s.built ≡ None → Ties rec i k z m
    → Ties rec i k (with_structure id s z) (put (MakeStructure id (form_of s)) (Gives output) m)
ties_created rec i k z m id s output none ties =
    let change : Changes id (Some s) z.structures (with_id id s z.structures) = comes id s z.structures ties.forms.rise in record {
      buffers = ties.buffers;
      forms = forms_changed id (Some s) z.structures (with_id id s z.structures) (λ q. m (StructureAt q)) change ties.forms;
      contents = contents_unbuilt rec i k id (Some s) z.structures (with_id id s z.structures) (λ q. m (ContentsAt q)) change (not_built s none) ties.contents;
    }

pub ties_destroyed : (rec : List Command) (i k : ℕ) (z : Status) (m : Memory) (id : ℕ) (output : Output) → Ties rec i k z m
    → Ties rec i k (record z { structures = without_id id z.structures }) (put (DestroyStructure id) (Gives output) m)
ties_destroyed rec i k z m id output ties =
    let change : Changes id None z.structures (without_id id z.structures) = goes id z.structures ties.forms.rise in record {
      buffers = ties.buffers;
      forms = forms_changed id None z.structures (without_id id z.structures) (λ q. m (StructureAt q)) change ties.forms;
      contents = contents_unbuilt rec i k id None z.structures (without_id id z.structures) (λ q. m (ContentsAt q)) change none_built ties.contents;
    }

-- ---- a structure is filled

-- a memory in which a structure holds these contents
abbrev pub filled_memory : ℕ → Contents → Memory → Memory
filled_memory dst c m l = if is_contents_of dst l then holding c l (m l) else m l

pub ties_filled : (rec : List Command) (i k n : ℕ) (z : Status) (m : Memory) (dst : ℕ) (s : LiveStructure) (b : Built) (c : Contents)
    → look z.structures dst ≡ Some s → k ≤ n → IsFree rec i z.structures dst → IsNew rec i n z.structures (λ q. m (ContentsAt q)) s.kind b c → Ties rec i k z m
    → Ties rec i n (fill_in dst (Some b) z) (filled_memory dst c m)
ties_filled rec i k n z m dst s b c live more free new ties =
    let ties_after : Ties rec i n (with_structure dst (structure_built (Some b) s) z) (filled_memory dst c m) = record {
      buffers = ties.buffers;
      forms = forms_filled dst (Some b) s z.structures (λ q. m (StructureAt q)) live ties.forms;
      contents = contents_filled rec i k n dst s b c z.structures (λ q. m (ContentsAt q)) ties.forms.rise live more free new ties.contents;
    } in
    subst (λ w. Ties rec i n w (filled_memory dst c m)) (sym (ap (with_built dst (Some b) z) live)) ties_after

-- ---- the next command begins

pub ties_later : (rec : List Command) (i k : ℕ) (z : Status) (m : Memory) → Ties rec i k z m → Ties rec (i + 1) 0 z m
ties_later rec i k z m ties = record {
  buffers = ties.buffers;
  forms = ties.forms;
  contents = contents_later rec i k z.structures (λ q. m (ContentsAt q)) ties.contents;
}
