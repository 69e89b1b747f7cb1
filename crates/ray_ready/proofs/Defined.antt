-- What is ready has an outcome.
use Rattle.std.proofs.Common.{◌≡◌, ℕ, List, Option, Some, None, Result, Ok, Err, IsSome, refl}
use Rattle.std.specs.Option.{option_map_or, option_and_then}
use Rattle.ray_bytes.specs.declared.data_fault.DataFault.{DataFault}
use Rattle.ray_geometries.specs.Contents as bottoms
use Rattle.ray_bottom.specs.Builders.{BuilderValue}
use Rattle.ray_top.specs.Contents as tops
use Rattle.ray_top.specs.declared.used.Used.{Used}
use Rattle.ray_form.specs.Form.{broken_line}
use Rattle.ray_serial.specs.Meaning.{is_top_form, deserialized_in, bottom_in, lacks_its_tree}
use Rattle.ray_serial.specs.TopMeaning.{top_in}
use Rattle.ray_serial.proofs.BottomForms.{bottom_there}
use Rattle.ray_cmd.specs.Copies.{is_form_2}
use Rattle.ray_cmd.specs.declared.structure_kind.StructureKind.{StructureKind}
use Rattle.ray_cmd.specs.declared.structure_kind.StructureKind.TheVariants as kinds
use Rattle.ray_cmd.specs.declared.copy_mode.CopyMode.{CopyMode}
use Rattle.ray_cmd.specs.declared.copy_mode.CopyMode.TheVariants as copies
use Rattle.ray_action.specs.declared.form.Form.{Form}
use Rattle.ray_action.specs.Memory.{Contents, as_bottom}
use Rattle.ray_action.specs.Action.{Tracing, MakeBuffer, MakeStructure, DestroyBuffer, DestroyStructure, ShowSizes, ShowBytes, UpdateBytes, FillBytes, CopyBytes, BuildBottom, UpdateBottom, BuildTop, UpdateTop, CopyStructure, SerializeStructure, DeserializeStructure, TellProperty, TraceRays, Rest, Impossible}
use Rattle.ray_action.specs.Clients.{Meaning}
use Rattle.ray_action.specs.Outcomes.{Outcome, Fault, Undefined, bottom_outcome, bytes_outcome, compact_copy, compacted_of, copy_outcome, deserialize_outcome, fitting_in, hits_outcome, kept_outcome, linked_outcome, opened_outcome, serialized_into, size_of_serialized, structure_in, property_outcome, top_outcome, trace_outcome}
use Rattle.ray_action.specs.Readiness.{IsCopyReady, FitsMode}
use Rattle.ray_action.specs.Seeing.{SeenBytes, SeenStructures}
use Rattle.ray_ready.specs.Laws.{IsDefined, ReadyIsDefined}
use Rattle.std.specs.Prelude.{Bool, true, false, nat_lt, if◌then◌else◌}

bytes : (seen : SeenBytes) → IsSome seen → IsDefined (bytes_outcome seen)
bytes None is = absurd cc
bytes (Some found) is = tt

bottom : (info : ℕ) (built : Result BuilderValue DataFault) → IsDefined (bottom_outcome info built)
bottom info (Ok b) = tt
bottom info (Err fault) = tt

top : (info : ℕ) (built : Result tops.TopValue DataFault) → IsDefined (top_outcome info built)
top info (Ok t) = tt
top info (Err fault) = tt

-- what is made of something that is there
made : {X : Type 0} (found : Option X) (make : X → Outcome) → IsSome found → ((x : X) → IsDefined (make x)) → IsDefined (option_map_or make found Undefined)
made None make is each = absurd cc
made (Some x) make is each = each x

some : {X : Type 0} (found : Option X) (x : X) → found ≡ Some x → IsSome found
some None x is = absurd cc
some (Some y) x is = refl

either : (b : Bool) (x y : Outcome) → IsDefined x → IsDefined y → IsDefined (if b then x else y)
either true x y h k = h
either false x y h k = k

compact : (size : ℕ) (b : bottoms.ContentsValue) → IsDefined (compact_copy size b)
compact size b = either (nat_lt size (compacted_of b)) _ _ tt tt

copied : (mode : CopyMode) (contents : Option Contents) (dst : Option Form) → IsCopyReady contents dst → FitsMode mode contents → IsDefined (copy_outcome mode contents dst)
copied copies.Clone contents dst ready fits = made contents (λ c. _) (some contents ready.source ready.is_it) (λ c. tt)
copied copies.Compact contents None ready fits = let none : None ≡ Some ready.made.form = ready.made.is_it in absurd cc
copied copies.Compact contents (Some form) ready fits =
    made (option_and_then as_bottom contents) (compact_copy form.size) fits (compact form.size)

told : (numbers : Option (List ℕ)) → IsSome numbers → IsDefined (property_outcome numbers)
told None is = absurd cc
told (Some numbers) is = tt

hits : (found : Result (List (List ℕ)) Fault) → IsDefined (hits_outcome found)
hits (Ok found) = tt
hits (Err fault) = tt

-- what is written into so many bytes
written : (second : Bool) (size : ℕ) (c : Contents) → IsDefined (serialized_into second size c)
written second size c = either (nat_lt size (size_of_serialized second c)) _ _ tt tt

-- what bytes stand for that break no line
linked : (found : Result tops.TopValue DataFault) → IsDefined (linked_outcome found)
linked (Ok t) = tt
linked (Err fault) = tt

stands : (used : List Used) (bytes : List ℕ) (kind : StructureKind) → (kind ≡ kinds.Bottom → IsSome (bottom_in bytes)) → IsDefined (structure_in used bytes kind)
stands used bytes kinds.Bottom is = made (bottom_in bytes) _ (is refl) (λ b. tt)
stands used bytes kinds.Top is = linked (top_in used bytes)

fits : (size : ℕ) (used : List Used) (bytes : List ℕ) (kind : StructureKind) → (kind ≡ kinds.Bottom → IsSome (bottom_in bytes)) → IsDefined (fitting_in size used bytes kind)
fits size used bytes kind is = either (nat_lt size (deserialized_in bytes)) _ _ tt (stands used bytes kind is)

either_so : (b : Bool) (x y : Outcome) → IsDefined x → (b ≡ false → IsDefined y) → IsDefined (if b then x else y)
either_so true x y h k = h
either_so false x y h k = k refl

no_bottom : {X : Type 0} → kinds.Top ≡ kinds.Bottom → X
no_bottom e = absurd cc

kept : (kind : StructureKind) (size : ℕ) (used : List Used) (bytes : List ℕ) → broken_line bytes ≡ None → IsDefined (kept_outcome kind size used bytes)
kept kinds.Bottom size used bytes unbroken =
    either_so (is_top_form bytes) _ _ tt (λ bottom.
    either (lacks_its_tree bytes) _ _ tt (fits size used bytes kinds.Bottom (λ same. bottom_there bytes unbroken bottom)))
kept kinds.Top size used bytes unbroken =
    either (is_top_form bytes) _ _ (fits size used bytes kinds.Top (λ same. no_bottom same)) tt

opened : (form : Form) (used : List Used) (bytes : List ℕ) (line : Option ℕ) → broken_line bytes ≡ line → IsDefined (opened_outcome form used bytes line)
opened form used bytes (Some number) is = tt
opened form used bytes None is = kept form.kind form.size used bytes is

restored : (used : List Used) (bytes : SeenBytes) (form : Option Form) → IsSome bytes → IsSome form → IsDefined (deserialize_outcome used bytes form)
restored used None form is there = absurd cc
restored used (Some bytes) None is there = absurd cc
restored used (Some bytes) (Some form) is there = opened form used bytes (broken_line bytes) refl

traced : (meaning : Meaning) (trace : Tracing) (uses : SeenStructures) (rays : SeenBytes) (t : Option tops.TopValue) → IsSome rays → IsSome t → IsDefined (trace_outcome meaning trace uses rays t)
traced meaning trace uses None t is there = absurd cc
traced meaning trace uses (Some rays) None is there = absurd cc
traced meaning trace uses (Some rays) (Some t) is there = hits _

pub defined : ReadyIsDefined
defined meaning (MakeBuffer id size content) memory ready = tt
defined meaning (MakeStructure id form) memory ready = tt
defined meaning (DestroyBuffer id) memory ready = tt
defined meaning (DestroyStructure id) memory ready = tt
defined meaning (ShowSizes kind counts) memory ready = tt
defined meaning (ShowBytes from form) memory ready = bytes _ ready
defined meaning (UpdateBytes to content) memory ready = tt
defined meaning (FillBytes to value) memory ready = tt
defined meaning (CopyBytes from to) memory ready = bytes _ ready
defined meaning (BuildBottom build flags geometries) memory ready = bottom _ _
defined meaning (UpdateBottom build src geometries) memory ready = made _ _ ready.0 (λ old. bottom _ _)
defined meaning (BuildTop build flags uses instances) memory ready = top _ _
defined meaning (UpdateTop build src uses instances) memory ready = made _ _ (some _ ready.0.top ready.0.is_it) (λ old. top _ _)
defined meaning (CopyStructure mode src dst) memory ready = copied mode _ _ ready.0 ready.1
defined meaning (SerializeStructure src to form) memory ready = made _ (serialized_into (is_form_2 form) to.size) ready (written (is_form_2 form) to.size)
defined meaning (DeserializeStructure from dst uses) memory ready = restored _ _ _ ready.bytes ready.dst
defined meaning (TellProperty what structures to) memory ready = told _ ready
defined meaning (TraceRays trace) memory ready = traced meaning trace _ _ _ ready.rays (some _ ready.top ready.is_it)
defined meaning Rest memory ready = tt
defined meaning Impossible memory ready = ready
