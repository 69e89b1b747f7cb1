-- What an action gives, computed from what it sees. (Vulkan: the operations of each command; own: the data
-- rules, and exact numbers.)
use Rattle.std.specs.Prelude.{ℕ, ◌+◌, Bool, true, false, List, [], ◌∷◌, Option, Some, None, Result, Ok, Err, length, nat_lt, if◌then◌else◌, unwrap_or}
use Rattle.std.specs.List.{flat_map}
use Rattle.std.specs.Option.{option_map, option_map_or, option_and_then}
use Rattle.byteorder.specs.Endian.{little_bytes}
use Rattle.ray_geom.specs.Scene.{RayValue, ray_value}
use Rattle.ray_geom.specs.Vector.{point_of}
use Rattle.ray_geom.specs.Decided.{where_so, ray_decided}
use Rattle.ray_bytes.specs.declared.data_fault.DataFault.{DataFault}
use Rattle.ray_bytes.specs.declared.data_rule.DataRule.{DataRule}
use Rattle.ray_bytes.specs.declared.data_rule.DataRule.TheVariants.{X11, X12, X13}
use Rattle.ray_bytes.specs.declared.ray_record.RayRecord.{RayRecord}
use Rattle.ray_bytes.specs.Hits.{hit_bytes}
use Rattle.ray_bytes.specs.Records.{ray_of}
use Rattle.ray_bytes.specs.Slices.{record_at}
use Rattle.ray_bytes.specs.StructureSizes.{compacted_size}
use Rattle.ray_contents.specs.Gathering.{gathered}
use Rattle.ray_flags.specs.declared.ray_flags.RayFlags.{RayFlags}
use Rattle.ray_query.specs.Record.{record_of}
use Rattle.ray_geometries.specs.Contents as bottoms
use Rattle.ray_bottom.specs.Builders.{BuilderValue}
use Rattle.ray_top.specs.declared.used.Used.{Used}
use Rattle.ray_top.specs.Contents as tops
use Rattle.ray_form.specs.Form.{broken_line}
use Rattle.ray_serial.specs.Meaning.{is_top_form, deserialized_in, bottom_in, lacks_its_tree}
use Rattle.ray_serial.specs.TopMeaning.{top_in}
use Rattle.ray_serial.specs.TopWritten.{handles_of, top_form}
use Rattle.ray_serial.specs.Written.{bottom_form, bottom_form_2}
use Rattle.ray_cmd.specs.Copies.{is_form_2}
use Rattle.ray_candidates.specs.Candidates.{Structures, trace_answer}
use Rattle.ray_cmd.specs.declared.asked.Asked.{Asked}
use Rattle.ray_cmd.specs.declared.asked.Asked.TheVariants as asked
use Rattle.ray_cmd.specs.declared.copy_mode.CopyMode.{CopyMode}
use Rattle.ray_cmd.specs.declared.copy_mode.CopyMode.TheVariants as copies
use Rattle.ray_cmd.specs.declared.place.Place.{Place}
use Rattle.ray_cmd.specs.declared.place.Place.TheVariants.{Whole, Part, Geometry, Element}
use Rattle.ray_cmd.specs.declared.structure_kind.StructureKind.{StructureKind}
use Rattle.ray_cmd.specs.declared.structure_kind.StructureKind.TheVariants as kinds
use Rattle.ray_rules.specs.declared.byte_range.ByteRange.{ByteRange}
use Rattle.ray_action.specs.declared.form.Form.{Form}
use Rattle.ray_action.specs.Memory.{Contents, Bottom, Top, Memory, as_bottom, as_top, number_before}
use Rattle.ray_action.specs.Action.{Action, Tracing, MakeBuffer, MakeStructure, DestroyBuffer, DestroyStructure, ShowSizes, ShowBytes, UpdateBytes, FillBytes, CopyBytes, BuildBottom, UpdateBottom, BuildTop, UpdateTop, CopyStructure, SerializeStructure, DeserializeStructure, TellProperty, TraceRays, Rest, Impossible}
use Rattle.ray_action.specs.Clients.{Meaning}
use Rattle.ray_action.specs.Seeing.{Seen, SeenBytes, SeenStructures, SeenStructure, see}
use Rattle.ray_action.specs.Building.{add_all, new_builder, update_builder, all_used, top_of, top_again}

-- what an action gives: nothing besides what it is told, bytes, or the contents of a structure
pub data Output : Type 0 where
  Nothing : Output
  Bytes : (bytes : List ℕ) → Output
  Holds : (contents : Contents) → Output

-- a data rule that is broken, and where in the command
pub record Fault : Type 0 where
  pub rule : DataRule
  pub place : Place

-- what comes of an action: an output, or the first data rule that what it sees breaks. What sees less than
-- it needs is undefined, and so is an action without a meaning
pub data Outcome : Type 0 where
  Gives : (output : Output) → Outcome
  Breaks : (fault : Fault) → Outcome
  Undefined : Outcome

-- ---- builds

-- the place of a fault in info number k: a geometry, or one of its elements
abbrev pub place_in : ℕ → ℕ → Option ℕ → Place
place_in info geometry None = Geometry info geometry
place_in info geometry (Some element) = Element info geometry element

abbrev pub fault_in : ℕ → DataFault → Fault
fault_in info fault = record { rule = fault.rule; place = place_in info fault.geometry fault.element }

-- a bottom structure that is built, or the rule that its geometries break
abbrev pub bottom_outcome : ℕ → Result BuilderValue DataFault → Outcome
bottom_outcome info (Ok b) = Gives (Holds (Bottom b.contents))
bottom_outcome info (Err fault) = Breaks (fault_in info fault)

-- the same of a top structure
abbrev pub top_outcome : ℕ → Result tops.TopValue DataFault → Outcome
top_outcome info (Ok top) = Gives (Holds (Top top))
top_outcome info (Err fault) = Breaks (fault_in info fault)

-- what is made of the bottom structure that contents are, and of the top structure: undefined of another
abbrev pub of_bottom : Option Contents → (bottoms.ContentsValue → Outcome) → Outcome
of_bottom contents make = option_map_or make (option_and_then as_bottom contents) Undefined

abbrev pub of_top : Option Contents → (tops.TopValue → Outcome) → Outcome
of_top contents make = option_map_or make (option_and_then as_top contents) Undefined

-- ---- copies

-- the compacted size of a bottom structure
abbrev pub compacted_of : bottoms.ContentsValue → ℕ
compacted_of bottom =
    compacted_size (length bottom.geometries) (bottoms.total_of bottom.geometries) (bottoms.active_of bottom.geometries)

-- a compact copy into a structure of a size: X13 where that is below the compacted size
abbrev pub compact_copy : ℕ → bottoms.ContentsValue → Outcome
compact_copy size bottom =
    if nat_lt size (compacted_of bottom) then Breaks (record { rule = X13; place = Whole }) else Gives (Holds (Bottom bottom))

-- what a copy gives: what its source holds
abbrev pub copy_outcome : CopyMode → Option Contents → Option Form → Outcome
copy_outcome copies.Clone contents dst = option_map_or (λ c. Gives (Holds c)) contents Undefined
copy_outcome copies.Compact contents None = Undefined
copy_outcome copies.Compact contents (Some form) = of_bottom contents (compact_copy form.size)

-- ---- serialized copies

-- the bytes that contents are serialized as, in form 2 or in form 1; a top structure has form 1 alone
abbrev pub serialized_of : Bool → Contents → List ℕ
serialized_of second (Bottom bottom) = if second then bottom_form_2 bottom else bottom_form bottom
serialized_of second (Top top) = top_form top.contents

-- how many they are
abbrev pub size_of_serialized : Bool → Contents → ℕ
size_of_serialized second contents = length (serialized_of second contents)

-- how many handles they have: those of a bottom structure have none
abbrev pub handle_count_of : Contents → ℕ
handle_count_of (Bottom bottom) = 0
handle_count_of (Top top) = length (handles_of top.contents.instances)

-- contents that are serialized into so many bytes: X13 where they are too few
abbrev pub serialized_into : Bool → ℕ → Contents → Outcome
serialized_into second size contents =
    if nat_lt size (size_of_serialized second contents) then Breaks (record { rule = X13; place = Whole })
    else Gives (Bytes (serialized_of second contents))

-- what the serializing of a structure gives
abbrev pub serialize_outcome : Option ℕ → ByteRange → Option Contents → Outcome
serialize_outcome form to contents = option_map_or (serialized_into (is_form_2 form) to.size) contents Undefined

-- a top structure that serialized bytes stand for, or the rule that an instance breaks
abbrev pub linked_outcome : Result tops.TopValue DataFault → Outcome
linked_outcome (Ok top) = Gives (Holds (Top top))
linked_outcome (Err fault) = Breaks (record { rule = fault.rule; place = Part (unwrap_or fault.element 0) })

-- the structure that serialized bytes stand for, where instances may refer to these
abbrev pub structure_in : List Used → List ℕ → StructureKind → Outcome
structure_in used bytes kinds.Bottom = option_map_or (λ bottom. Gives (Holds (Bottom bottom))) (bottom_in bytes) Undefined
structure_in used bytes kinds.Top = linked_outcome (top_in used bytes)

-- the same in a structure of this size: X13 where it is too small
abbrev pub fitting_in : ℕ → List Used → List ℕ → StructureKind → Outcome
fitting_in size used bytes kind =
    if nat_lt size (deserialized_in bytes) then Breaks (record { rule = X13; place = Whole }) else structure_in used bytes kind

-- X12 with the number of a fault
abbrev pub bad_bytes : ℕ → Outcome
bad_bytes number = Breaks (record { rule = X12; place = Part number })

-- the form of a bottom structure, in one of this size: number 10 where it is a form 2 that carries no tree
abbrev pub carried_in : ℕ → List Used → List ℕ → Outcome
carried_in size used bytes = if lacks_its_tree bytes then bad_bytes 10 else fitting_in size used bytes kinds.Bottom

-- bytes that break no line of the serialized form, in a structure of a kind and a size: number 9 where they
-- are of the other kind
abbrev pub kept_outcome : StructureKind → ℕ → List Used → List ℕ → Outcome
kept_outcome kinds.Bottom size used bytes = if is_top_form bytes then bad_bytes 9 else carried_in size used bytes
kept_outcome kinds.Top size used bytes = if is_top_form bytes then fitting_in size used bytes kinds.Top else bad_bytes 9

-- the same of any bytes: X12 with the number of the first line that they break
abbrev pub opened_outcome : Form → List Used → List ℕ → Option ℕ → Outcome
opened_outcome form used bytes (Some number) = bad_bytes number
opened_outcome form used bytes None = kept_outcome form.kind form.size used bytes

-- what the making of a structure from serialized bytes gives
abbrev pub deserialize_outcome : List Used → SeenBytes → Option Form → Outcome
deserialize_outcome used (Some bytes) (Some form) = opened_outcome form used bytes (broken_line bytes)
deserialize_outcome used _ _ = Undefined

-- ---- properties

-- the number that is asked of a structure
abbrev pub number_of : Asked → SeenStructure → Option ℕ
number_of asked.Compacted seen = option_map compacted_of (option_and_then as_bottom seen.contents)
number_of asked.Size seen = option_map (λ (form : Form). form.size) seen.form
number_of asked.Serialized seen = option_map (size_of_serialized false) seen.contents
number_of asked.SerializedForm2 seen = option_map (size_of_serialized true) seen.contents
number_of asked.Handles seen = option_map handle_count_of seen.contents

-- the numbers of several structures: none where one is missing
abbrev pub numbers_of : Asked → List SeenStructure → Option (List ℕ)
numbers_of what [] = Some []
numbers_of what (seen ∷ rest) = number_before (number_of what seen) (numbers_of what rest)

-- what is told of them: the numbers, each of 64 bits, one after the other
abbrev pub property_outcome : Option (List ℕ) → Outcome
property_outcome None = Undefined
property_outcome (Some numbers) = Gives (Bytes (flat_map (little_bytes 8) numbers))

-- ---- rays

-- the ray of a record: its origin, its direction, and the ends of its interval in 1/65536
abbrev pub recorded_ray : RayRecord → RayValue
recorded_ray r = ray_value (point_of r.origin) (point_of r.dir) r.tmin r.tmax

-- the same where it is within the limits of rays
unfoldable pub ray_within : RayRecord → Option RayValue
ray_within r = where_so (ray_decided (recorded_ray r)) (recorded_ray r)

-- the bottom structures among those that are seen
abbrev pub bottoms_in : SeenStructures → Structures
bottoms_in seen id = option_and_then as_bottom (seen id)

-- ray k of those that stand in these bytes, where it is whole and within the limits
abbrev pub ray_in : List ℕ → ℕ → Option RayValue
ray_in rays k = option_and_then ray_within (option_map ray_of (record_at rays 0 40 40 k))

-- the bytes of the hit of a ray, whose number in its whole trace is given, by a client of this meaning; X11 where it is beyond
-- the limits
abbrev pub hit_by : Meaning → tops.TopValue → Structures → RayFlags → ℕ → ℕ → Option RayValue → Result (List ℕ) Fault
hit_by meaning top bottoms flags mask number None = Err (record { rule = X11; place = Part number })
hit_by meaning top bottoms flags mask number (Some ray) =
    Ok (hit_bytes (record_of (trace_answer meaning top.contents bottoms ray number flags mask)))

-- the same of ray k of those that are traced together. One that isn't whole, which no rule speaks of, is
-- beyond the limits
abbrev pub hit_at : Meaning → Tracing → tops.TopValue → SeenStructures → List ℕ → ℕ → Result (List ℕ) Fault
hit_at meaning trace top uses rays k =
    hit_by meaning top (bottoms_in uses) trace.flags trace.mask (trace.first + k) (ray_in rays k)

-- the bytes of all hits, or the fault of the first ray that has one
abbrev pub hits_outcome : Result (List (List ℕ)) Fault → Outcome
hits_outcome (Ok hits) = Gives (Bytes (flat_map (λ hit. hit) hits))
hits_outcome (Err fault) = Breaks fault

-- what a trace gives by a client of this meaning, where its rays and its top structure are there
abbrev pub trace_outcome : Meaning → Tracing → SeenStructures → SeenBytes → Option tops.TopValue → Outcome
trace_outcome meaning trace uses (Some rays) (Some top) = hits_outcome (gathered (hit_at meaning trace top uses rays) trace.count)
trace_outcome meaning trace uses _ _ = Undefined

-- ---- every action

-- the bytes that are seen
abbrev pub bytes_outcome : SeenBytes → Outcome
bytes_outcome None = Undefined
bytes_outcome (Some bytes) = Gives (Bytes bytes)

-- what an action gives of what it sees. A trace alone asks its client
abbrev pub computed : Meaning → (action : Action) → Seen action → Outcome
computed meaning (MakeBuffer id size content) seen = Gives Nothing
computed meaning (MakeStructure id form) seen = Gives Nothing
computed meaning (DestroyBuffer id) seen = Gives Nothing
computed meaning (DestroyStructure id) seen = Gives Nothing
computed meaning (ShowSizes kind counts) seen = Gives Nothing
computed meaning (ShowBytes from form) seen = bytes_outcome seen
computed meaning (UpdateBytes to content) seen = Gives Nothing
computed meaning (FillBytes to value) seen = Gives Nothing
computed meaning (CopyBytes from to) seen = bytes_outcome seen
computed meaning (BuildBottom build flags geometries) seen =
    bottom_outcome build.info (add_all geometries seen.geometries (new_builder flags))
computed meaning (UpdateBottom build src geometries) seen =
    of_bottom seen.0 (λ old. bottom_outcome build.info (add_all geometries seen.1.geometries (update_builder old)))
computed meaning (BuildTop build flags uses instances) seen =
    top_outcome build.info (top_of flags (all_used seen.uses uses) instances seen.instances)
computed meaning (UpdateTop build src uses instances) seen =
    of_top seen.0 (λ old. top_outcome build.info (top_again old (all_used seen.1.uses uses) instances seen.1.instances))
computed meaning (CopyStructure mode src dst) seen = copy_outcome mode seen.0 seen.1
computed meaning (SerializeStructure src to form) seen = serialize_outcome form to seen
computed meaning (DeserializeStructure from dst uses) seen = deserialize_outcome (all_used seen.uses uses) seen.bytes seen.dst
computed meaning (TellProperty what structures to) seen = property_outcome (numbers_of what seen)
computed meaning (TraceRays trace) seen = trace_outcome meaning trace seen.uses seen.rays (option_and_then as_top seen.top)
computed meaning Rest seen = Gives Nothing
computed meaning Impossible seen = Undefined

-- what an action gives in a memory, where a client of this meaning decides
abbrev pub outcome_of : Meaning → Action → Memory → Outcome
outcome_of meaning action memory = computed meaning action (see action memory)
