-- What an action may give: more than it does give, so that where it breaks a data rule it still might have
-- given something.
use Rattle.std.proofs.Common.{◌≡◌, ℕ, Bool, true, false, List, [], length, All, IfSome, Option, Some, None, Result, Ok, Err, IsSome, refl, sym, ap, subst, replicate}
use Rattle.std.specs.Prelude.{if◌then◌else◌, nat_lt, slice_get}
use Rattle.std.specs.Option.{option_map_or, option_and_then}
use Rattle.std.proofs.lemmas.List.{length-replicate}
use Rattle.std.proofs.lemmas.List.Elements.{All-nil, All-replicate}
use Rattle.ray_geom.specs.Boxes.{BoxValue}
use Rattle.ray_geom.specs.Transform.{MatrixValue}
use Rattle.ray_bytes.specs.References.{structure_of}
use Rattle.ray_bytes.specs.Views.{Row}
use Rattle.ray_bytes.specs.declared.data_fault.DataFault.{DataFault}
use Rattle.ray_bytes.specs.declared.data_rule.DataRule.TheVariants.{X7, X8}
use Rattle.ray_bytes.specs.declared.instance_record.InstanceRecord.{InstanceRecord}
use Rattle.ray_bytes.specs.declared.reference.Reference.{Reference}
use Rattle.ray_bytes.specs.declared.reference.Reference.TheVariants.{Inactive, Structure, Unknown}
use Rattle.ray_contents.specs.Gathering.{gathered}
use Rattle.ray_contents.specs.Limits.{matrix_within}
use Rattle.ray_contents.proofs.Gathered.{All-gathered}
use Rattle.ray_primitives.proofs.Results.{element_ok}
use Rattle.ray_flags.specs.declared.build_flags.BuildFlags.{BuildFlags}
use Rattle.ray_bottom.specs.Builders.{BuilderValue}
use Rattle.ray_geometries.specs.Contents as bottoms
use Rattle.ray_top.specs.Contents as tops
use Rattle.ray_top.specs.Contents.{IsInstance}
use Rattle.ray_top.specs.Instances.{InstanceValue, flags_in, forces_both, instance_from, matrix_from}
use Rattle.ray_top.specs.InstanceReading.{bounds_in, bounds_kept, forced, in_use, instances_read, limited}
use Rattle.ray_top.specs.declared.used.Used.{Used}
use Rattle.ray_top.proofs.Limits.{AreRead, AreRead-instances_read}
use Rattle.ray_form.specs.Form.{broken_line, flags_of_payload, payload_in}
use Rattle.ray_serial.specs.Meaning.{bottom_in, deserialized_in, is_top_form, lacks_its_tree}
use Rattle.ray_serial.specs.TopMeaning.{instance_linked, instances_in, linked, linked_at, top_in}
use Rattle.ray_cmd.specs.declared.structure_kind.StructureKind.{StructureKind}
use Rattle.ray_cmd.specs.declared.structure_kind.StructureKind.TheVariants as kinds
use Rattle.ray_cmd.specs.declared.copy_mode.CopyMode.{CopyMode}
use Rattle.ray_cmd.specs.declared.copy_mode.CopyMode.TheVariants as copies
use Rattle.ray_rules.specs.Ranges.{count_of}
use Rattle.ray_action.specs.declared.form.Form.{Form}
use Rattle.ray_action.specs.Memory.{Contents, Memory, Bottom, Top, ContentsAt, StructureAt, as_bottom, as_top, bytes_at}
use Rattle.ray_action.specs.Action.{Action, MakeBuffer, MakeStructure, DestroyBuffer, DestroyStructure, ShowSizes, ShowBytes, UpdateBytes, FillBytes, CopyBytes, BuildBottom, UpdateBottom, BuildTop, UpdateTop, CopyStructure, SerializeStructure, DeserializeStructure, TellProperty, TraceRays, Rest, Impossible}
use Rattle.ray_action.specs.Seeing.{SeenBytes, see_structures}
use Rattle.ray_action.specs.Building.{all_used}
use Rattle.ray_action.specs.Clients.{Meaning}
use Rattle.ray_action.specs.Outcomes.{Output, Outcome, Nothing, Holds, Gives, Breaks, Undefined, bad_bytes, bottom_outcome, carried_in, compact_copy, compacted_of, copy_outcome, deserialize_outcome, fitting_in, kept_outcome, linked_outcome, of_bottom, of_top, opened_outcome, structure_in, outcome_of, top_outcome}
use Rattle.ray_action.specs.Readiness.{IsReady}

-- ---- outcomes taken apart

bottom_gives : (info : ℕ) (r : Result BuilderValue DataFault) (o : Output) → bottom_outcome info r ≡ Gives o
    → (c : bottoms.ContentsValue) × (o ≡ Holds (Bottom c))
bottom_gives info (Ok b) o e = (b.contents, cc)
bottom_gives info (Err fault) o e = absurd cc

of_bottom_gives : (found : Option Contents) (make : bottoms.ContentsValue → Outcome) (o : Output) → of_bottom found make ≡ Gives o
    → (c : bottoms.ContentsValue) × ((found ≡ Some (Bottom c)) × (make c ≡ Gives o))
of_bottom_gives None make o e = absurd cc
of_bottom_gives (Some (Bottom c)) make o e = (c, (refl, e))
of_bottom_gives (Some (Top t)) make o e = absurd cc

top_gives : (info : ℕ) (r : Result tops.TopValue DataFault) (o : Output) → top_outcome info r ≡ Gives o
    → (t : tops.TopValue) × ((o ≡ Holds (Top t)) × (r ≡ Ok t))
top_gives info (Ok t) o e = (t, (cc, refl))
top_gives info (Err fault) o e = absurd cc

of_top_gives : (found : Option Contents) (make : tops.TopValue → Outcome) (o : Output) → of_top found make ≡ Gives o
    → (t : tops.TopValue) × ((found ≡ Some (Top t)) × (make t ≡ Gives o))
of_top_gives None make o e = absurd cc
of_top_gives (Some (Bottom c)) make o e = absurd cc
of_top_gives (Some (Top t)) make o e = (t, (refl, e))

-- a top that was read with these structures in use
pub record IsReadTop (used : List Used) (count : ℕ) (t : tops.TopValue) : Type 0 where
  pub same : t.used ≡ used
  pub read : AreRead used count t.contents.instances

read_top : (flags : BuildFlags) (used : List Used) (row : Row) (olds : Option (List (Option InstanceValue))) (count : ℕ) (r : Result (List (Option InstanceValue)) DataFault) (t : tops.TopValue)
    → instances_read used row olds count ≡ r → tops.top_with flags used r ≡ Ok t → IsReadTop used count t
read_top flags used row olds count (Ok instances) t is e =
    let same : tops.top_value flags used instances ≡ t = cc in
    subst (IsReadTop used count) same (record { same = refl; read = AreRead-instances_read used row olds count instances is })
read_top flags used row olds count (Err fault) t is e = absurd cc

compact_gives : (b : Bool) (x o : Output) (fault : Outcome) → (if b then fault else Gives x) ≡ Gives o → ((p : Output) → fault ≡ Gives p → ⊥) → x ≡ o
compact_gives true x o fault e never = absurd (never o e)
compact_gives false x o fault e never = cc

copy_gives : (mode : CopyMode) (found : Option Contents) (dst : Option Form) (o : Output) → copy_outcome mode found dst ≡ Gives o
    → (c : Contents) × ((found ≡ Some c) × (o ≡ Holds c))
copy_gives copies.Clone None dst o e = absurd cc
copy_gives copies.Clone (Some c) dst o e = (c, (refl, cc))
copy_gives copies.Compact found None o e = absurd cc
copy_gives copies.Compact found (Some form) o e =
    let is = of_bottom_gives found (compact_copy form.size) o e in
    (Bottom is.0, (is.1.0, sym (compact_gives (nat_lt form.size (compacted_of is.0)) (Holds (Bottom is.0)) o _ is.1.1 (λ p f. absurd cc))))

-- ---- what serialized bytes may give

-- a top whose active instances refer to structures in use
pub record IsLinkedTop (used : List Used) (t : tops.TopValue) : Type 0 where
  pub same : t.used ≡ used
  pub active : All (λ (i : Option InstanceValue). IfSome i (λ v. IsSome (bounds_in used v.id))) t.contents.instances

-- a structure of a kind, and of that of a destination
abbrev pub MayRestoreKind : StructureKind → List Used → Output → Type 0
MayRestoreKind kinds.Bottom used o = (c : bottoms.ContentsValue) × (o ≡ Holds (Bottom c))
MayRestoreKind kinds.Top used o = (t : tops.TopValue) × ((o ≡ Holds (Top t)) × IsLinkedTop used t)

abbrev pub MayRestore : Option Form → List Used → Output → Type 0
MayRestore None used o = ⊥
MayRestore (Some form) used o = MayRestoreKind form.kind used o

-- what is in use has bounds, and what is read of it has its id
one_there : (known : Option (Option BoxValue)) (x : Option BoxValue) → known ≡ Some x → IsSome known
one_there None x e = absurd cc
one_there (Some y) x e = refl

abbrev InUse : List Used → Option InstanceValue → Type 0
InUse used i = IfSome i (λ v. IsSome (bounds_in used v.id))

forced_in : (used : List Used) (from : InstanceRecord) (id : ℕ) (i : Option InstanceValue) (both : Bool) → IsSome (bounds_in used id)
    → (if both then Err X8 else Ok (Some (instance_from from id))) ≡ Ok i → InUse used i
forced_in used from id i true there e = absurd cc
forced_in used from id i false there e = let same : Some (instance_from from id) ≡ i = cc in subst (InUse used) same there

bounded_in : (used : List Used) (from : InstanceRecord) (id : ℕ) (i : Option InstanceValue) (kept : Bool) → IsSome (bounds_in used id)
    → (if kept then forced from id else Err X7) ≡ Ok i → InUse used i
bounded_in used from id i true there e = forced_in used from id i (forces_both (flags_in from)) there e
bounded_in used from id i false there e = absurd cc

limited_in : (used : List Used) (from : InstanceRecord) (id : ℕ) (bounds : Option BoxValue) (m : Option MatrixValue) (i : Option InstanceValue) → IsSome (bounds_in used id)
    → limited from id bounds m ≡ Ok i → InUse used i
limited_in used from id bounds None i there e = absurd cc
limited_in used from id bounds (Some m) i there e = bounded_in used from id i (bounds_kept m bounds) there e

known_in : (used : List Used) (from : InstanceRecord) (id : ℕ) (known : Option (Option BoxValue)) (i : Option InstanceValue) → bounds_in used id ≡ known
    → in_use from id known ≡ Ok i → InUse used i
known_in used from id None i is e = absurd cc
known_in used from id (Some bounds) i is e =
    limited_in used from id bounds (matrix_within (matrix_from from.rows)) i (one_there (bounds_in used id) bounds is) e

linked_in : (used : List Used) (from : InstanceRecord) (reference : Reference) (i : Option InstanceValue) → linked used from reference ≡ Ok i → InUse used i
linked_in used from Inactive i e = absurd cc
linked_in used from (Structure id) i e = known_in used from id (bounds_in used id) i refl e
linked_in used from Unknown i e = absurd cc

no_instance : (used : List Used) (i : Option InstanceValue) → None ≡ i → InUse used i
no_instance used None e = tt
no_instance used (Some v) e = absurd cc

ok_is : {X Y : Type 0} (x y : X) (r : Result X Y) → r ≡ Ok x → r ≡ Ok y → x ≡ y
ok_is x y r e f = cc

instance_in_use : (used : List Used) (from : Option InstanceRecord) (i : Option InstanceValue) → instance_linked used from ≡ Ok i → InUse used i
instance_in_use used None i e = no_instance used i (ok_is None i (instance_linked used None) refl e)
instance_in_use used (Some from) i e = linked_in used from (structure_of from.reference) i e

element_in_use : (used : List Used) (instances : List (Option InstanceRecord)) (k : ℕ) (i : Option InstanceValue) → linked_at used instances k ≡ Ok i → InUse used i
unfolding linked_at
element_in_use used instances k i e =
    let from : Option InstanceRecord = option_and_then (λ o. o) (slice_get instances k) in
    instance_in_use used from i (element_ok 0 k (instance_linked used from) i e)

linked_top : (flags : BuildFlags) (used : List Used) (instances : List (Option InstanceRecord)) (r : Result (List (Option InstanceValue)) DataFault) (t : tops.TopValue)
    → gathered (linked_at used instances) (length instances) ≡ r → tops.top_with flags used r ≡ Ok t → IsLinkedTop used t
linked_top flags used instances (Ok found) t is e =
    let same : tops.top_value flags used found ≡ t = cc in
    subst (IsLinkedTop used) same
    (record { same = refl; active = All-gathered (InUse used) (linked_at used instances) (element_in_use used instances) (length instances) found is })
linked_top flags used instances (Err fault) t is e = absurd cc

top_linked : (used : List Used) (bytes : List ℕ) (t : tops.TopValue) → top_in used bytes ≡ Ok t → IsLinkedTop used t
unfolding top_in
top_linked used bytes t e = linked_top (flags_of_payload (payload_in bytes)) used (instances_in bytes) _ t refl e

linked_gives : (used : List Used) (r : Result tops.TopValue DataFault) (o : Output) → ((t : tops.TopValue) → r ≡ Ok t → IsLinkedTop used t) → linked_outcome r ≡ Gives o
    → (t : tops.TopValue) × ((o ≡ Holds (Top t)) × IsLinkedTop used t)
linked_gives used (Ok t) o is e = (t, (cc, is t refl))
linked_gives used (Err fault) o is e = absurd cc

bottom_there_gives : (found : Option bottoms.ContentsValue) (o : Output) → option_map_or (λ bottom. Gives (Holds (Bottom bottom))) found Undefined ≡ Gives o
    → (c : bottoms.ContentsValue) × (o ≡ Holds (Bottom c))
bottom_there_gives None o e = absurd cc
bottom_there_gives (Some c) o e = (c, cc)

stands_gives : (used : List Used) (bytes : List ℕ) (kind : StructureKind) (o : Output) → structure_in used bytes kind ≡ Gives o → MayRestoreKind kind used o
stands_gives used bytes kinds.Bottom o e = bottom_there_gives (bottom_in bytes) o e
stands_gives used bytes kinds.Top o e = linked_gives used (top_in used bytes) o (top_linked used bytes) e

-- of two outcomes it is the one that gives something
second_gives : (b : Bool) (x y : Outcome) (o : Output) → (x ≡ Gives o → ⊥) → (if b then x else y) ≡ Gives o → y ≡ Gives o
second_gives true x y o never e = absurd (never e)
second_gives false x y o never e = e

first_gives : (b : Bool) (x y : Outcome) (o : Output) → (y ≡ Gives o → ⊥) → (if b then x else y) ≡ Gives o → x ≡ Gives o
first_gives true x y o never e = e
first_gives false x y o never e = absurd (never e)

fits_gives : (size : ℕ) (used : List Used) (bytes : List ℕ) (kind : StructureKind) (o : Output) → fitting_in size used bytes kind ≡ Gives o → MayRestoreKind kind used o
fits_gives size used bytes kind o e =
    stands_gives used bytes kind o (second_gives (nat_lt size (deserialized_in bytes)) _ (structure_in used bytes kind) o (λ f. absurd cc) e)

kept_gives : (kind : StructureKind) (size : ℕ) (used : List Used) (bytes : List ℕ) (o : Output) → kept_outcome kind size used bytes ≡ Gives o → MayRestoreKind kind used o
kept_gives kinds.Bottom size used bytes o e =
    fits_gives size used bytes kinds.Bottom o
    (second_gives (lacks_its_tree bytes) (bad_bytes 10) (fitting_in size used bytes kinds.Bottom) o (λ f. absurd cc)
    (second_gives (is_top_form bytes) (bad_bytes 9) (carried_in size used bytes) o (λ f. absurd cc) e))
kept_gives kinds.Top size used bytes o e =
    fits_gives size used bytes kinds.Top o (first_gives (is_top_form bytes) (fitting_in size used bytes kinds.Top) (bad_bytes 9) o (λ f. absurd cc) e)

opened_gives : (form : Form) (used : List Used) (bytes : List ℕ) (line : Option ℕ) (o : Output) → opened_outcome form used bytes line ≡ Gives o → MayRestoreKind form.kind used o
opened_gives form used bytes (Some number) o e = absurd cc
opened_gives form used bytes None o e = kept_gives form.kind form.size used bytes o e

restore_gives : (used : List Used) (bytes : SeenBytes) (form : Option Form) (o : Output) → deserialize_outcome used bytes form ≡ Gives o → MayRestore form used o
restore_gives used None form o e = absurd cc
restore_gives used (Some bytes) None o e = absurd cc
restore_gives used (Some bytes) (Some form) o e = opened_gives form used bytes (broken_line bytes) o e

-- ---- what an action may give

-- a build of a bottom any bottom, a build of a top one of as many instances as it has, with the structures
-- in use as they are, a copy what its source holds, serialized bytes a structure of the destination's kind whose
-- instances refer to structures in use, and any other action anything
abbrev pub MayGive : Action → Memory → Output → Type 0
MayGive (BuildBottom build flags gs) m o = (c : bottoms.ContentsValue) × (o ≡ Holds (Bottom c))
MayGive (UpdateBottom build src gs) m o = (c : bottoms.ContentsValue) × (o ≡ Holds (Bottom c))
MayGive (BuildTop build flags uses instances) m o =
    (t : tops.TopValue) × ((o ≡ Holds (Top t)) × IsReadTop (all_used (see_structures m uses) uses) (count_of instances) t)
MayGive (UpdateTop build src uses instances) m o =
    (t : tops.TopValue) × ((o ≡ Holds (Top t)) × IsReadTop (all_used (see_structures m uses) uses) (count_of instances) t)
MayGive (CopyStructure mode src dst) m o = (c : Contents) × ((m (ContentsAt src) ≡ Some c) × (o ≡ Holds c))
MayGive (DeserializeStructure from dst uses) m o = MayRestore (m (StructureAt dst)) (all_used (see_structures m uses) uses) o
MayGive _ m o = Unit {0}

-- what it gives it may give
pub gives_may : (meaning : Meaning) (a : Action) (m : Memory) (o : Output) → outcome_of meaning a m ≡ Gives o → MayGive a m o
gives_may meaning (MakeBuffer id size content) m o e = tt
gives_may meaning (MakeStructure id form) m o e = tt
gives_may meaning (DestroyBuffer id) m o e = tt
gives_may meaning (DestroyStructure id) m o e = tt
gives_may meaning (ShowSizes kind counts) m o e = tt
gives_may meaning (ShowBytes from form) m o e = tt
gives_may meaning (UpdateBytes to content) m o e = tt
gives_may meaning (FillBytes to value) m o e = tt
gives_may meaning (CopyBytes from to) m o e = tt
gives_may meaning (BuildBottom build flags gs) m o e = bottom_gives build.info _ o e
gives_may meaning (UpdateBottom build src gs) m o e =
    let source = of_bottom_gives (m (ContentsAt src)) _ o e in
    bottom_gives build.info _ o source.1.1
gives_may meaning (BuildTop build flags uses instances) m o e =
    let gives = top_gives build.info _ o e in
    (gives.0, (gives.1.0, read_top flags _ _ None (count_of instances) _ gives.0 refl gives.1.1))
gives_may meaning (UpdateTop build src uses instances) m o e =
    let source = of_top_gives (m (ContentsAt src)) _ o e in
    let gives = top_gives build.info _ o source.1.1 in
    (gives.0, (gives.1.0, read_top source.0.contents.flags _ _ (Some source.0.contents.instances) (count_of instances) _ gives.0 refl gives.1.1))
gives_may meaning (CopyStructure mode src dst) m o e = copy_gives mode (m (ContentsAt src)) (m (StructureAt dst)) o e
gives_may meaning (SerializeStructure src to form) m o e = tt
gives_may meaning (DeserializeStructure from dst uses) m o e = restore_gives (all_used (see_structures m uses) uses) (bytes_at m from) (m (StructureAt dst)) o e
gives_may meaning (TellProperty what structures to) m o e = tt
gives_may meaning (TraceRays trace) m o e = tt
gives_may meaning Rest m o e = tt
gives_may meaning Impossible m o e = tt

-- ---- what stands in for an output

-- a top whose instances are all inactive
abbrev idle_top : BuildFlags → List Used → ℕ → tops.TopValue
idle_top flags used count = tops.top_value flags used (replicate count None)

-- an empty structure of a kind, and of that of a destination
abbrev pub empty_of : StructureKind → List Used → Output
empty_of kinds.Bottom used = Holds (Bottom (record { flags = record { 0 = 0 }; geometries = [] }))
empty_of kinds.Top used = Holds (Top (idle_top (record { 0 = 0 }) used 0))

abbrev pub empty_in : Option Form → List Used → Output
empty_in None used = Nothing
empty_in (Some form) used = empty_of form.kind used

-- something that an action may give
abbrev pub stand_in : Action → Memory → Output
stand_in (BuildBottom build flags gs) m = Holds (Bottom (record { flags = flags; geometries = [] }))
stand_in (UpdateBottom build src gs) m = option_map_or (λ c. Holds (Bottom c)) (option_and_then as_bottom (m (ContentsAt src))) Nothing
stand_in (BuildTop build flags uses instances) m = Holds (Top (idle_top flags (all_used (see_structures m uses) uses) (count_of instances)))
stand_in (UpdateTop build src uses instances) m =
    option_map_or (λ (t : tops.TopValue). Holds (Top (idle_top t.contents.flags (all_used (see_structures m uses) uses) (count_of instances))))
    (option_and_then as_top (m (ContentsAt src))) Nothing
stand_in (CopyStructure mode src dst) m = option_map_or (λ c. Holds c) (m (ContentsAt src)) Nothing
stand_in (DeserializeStructure from dst uses) m = empty_in (m (StructureAt dst)) (all_used (see_structures m uses) uses)
stand_in _ m = Nothing

idle_read : (flags : BuildFlags) (used : List Used) (count : ℕ) → IsReadTop used count (idle_top flags used count)
idle_read flags used count = record {
  same = refl;
  read = record { as_many = length-replicate count None; each = All-replicate (IsInstance used) count None (record { limits = tt }) };
}

empty_kind : (kind : StructureKind) (used : List Used) → MayRestoreKind kind used (empty_of kind used)
empty_kind kinds.Bottom used = (record { flags = record { 0 = 0 }; geometries = [] }, refl)
empty_kind kinds.Top used = (idle_top (record { 0 = 0 }) used 0, (refl, record { same = refl; active = All-nil (InUse used) }))

empty_may : (found : Option Form) (used : List Used) → IsSome found → MayRestore found used (empty_in found used)
empty_may None used is = absurd cc
empty_may (Some form) used is = empty_kind form.kind used

some_bottom : (found : Option bottoms.ContentsValue) → IsSome found → (c : bottoms.ContentsValue) × (option_map_or (λ c. Holds (Bottom c)) found Nothing ≡ Holds (Bottom c))
some_bottom None is = absurd cc
some_bottom (Some c) is = (c, refl)

stand_may : (a : Action) (m : Memory) → IsReady a m → MayGive a m (stand_in a m)
stand_may (MakeBuffer id size content) m ready = tt
stand_may (MakeStructure id form) m ready = tt
stand_may (DestroyBuffer id) m ready = tt
stand_may (DestroyStructure id) m ready = tt
stand_may (ShowSizes kind counts) m ready = tt
stand_may (ShowBytes from form) m ready = tt
stand_may (UpdateBytes to content) m ready = tt
stand_may (FillBytes to value) m ready = tt
stand_may (CopyBytes from to) m ready = tt
stand_may (BuildBottom build flags gs) m ready = (record { flags = flags; geometries = [] }, refl)
stand_may (UpdateBottom build src gs) m ready = some_bottom (option_and_then as_bottom (m (ContentsAt src))) ready.0
stand_may (BuildTop build flags uses instances) m ready = (
  idle_top flags (all_used (see_structures m uses) uses) (count_of instances),
  (refl, idle_read flags (all_used (see_structures m uses) uses) (count_of instances)),
)
stand_may (UpdateTop build src uses instances) m ready =
    let used : List Used = all_used (see_structures m uses) uses in
    let flags : BuildFlags = ready.0.top.contents.flags in (
      idle_top flags used (count_of instances),
      (
        ap (λ found. option_map_or (λ (t : tops.TopValue). Holds (Top (idle_top t.contents.flags used (count_of instances)))) found Nothing) ready.0.is_it,
        idle_read flags used (count_of instances),
      ),
    )
stand_may (CopyStructure mode src dst) m ready =
    (ready.0.source, (ready.0.is_it, ap (λ found. option_map_or (λ c. Holds c) found Nothing) ready.0.is_it))
stand_may (SerializeStructure src to form) m ready = tt
stand_may (DeserializeStructure from dst uses) m ready = empty_may (m (StructureAt dst)) (all_used (see_structures m uses) uses) ready.dst
stand_may (TellProperty what structures to) m ready = tt
stand_may (TraceRays trace) m ready = tt
stand_may Rest m ready = tt
stand_may Impossible m ready = tt

-- an output, or what stands in for it
abbrev pub given_or : Outcome → Output → Output
given_or (Gives o) other = o
given_or (Breaks fault) other = other
given_or Undefined other = other

abbrev pub whole_output : Meaning → Action → Memory → Output
whole_output meaning a m = given_or (outcome_of meaning a m) (stand_in a m)

whole_by : (meaning : Meaning) (a : Action) (m : Memory) (x : Outcome) (other : Output) → outcome_of meaning a m ≡ x → MayGive a m other → MayGive a m (given_or x other)
whole_by meaning a m (Gives o) other e may = gives_may meaning a m o e
whole_by meaning a m (Breaks fault) other e may = may
whole_by meaning a m Undefined other e may = may

pub whole_may : (meaning : Meaning) (a : Action) (m : Memory) → IsReady a m → MayGive a m (whole_output meaning a m)
whole_may meaning a m ready = whole_by meaning a m (outcome_of meaning a m) (stand_in a m) refl (stand_may a m ready)
