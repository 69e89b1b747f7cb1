-- What is given where an action is ready can be stored; and a device command has as many pieces as actions.
use Rattle.std.proofs.Common.{ℕ, suc, ◌≡◌, ◌+◌, List, [], ◌∷◌, length, Option, Some, None, Result, Ok, Err, Bool, true, false, refl, ap, sym, subst}
use Rattle.std.specs.Prelude.{map, option_and_then, nat_lt, if◌then◌else◌}
use Rattle.std.specs.Option.{option_map_or}
use Rattle.std.proofs.lemmas.List.{length-map}
use Rattle.std.proofs.lemmas.List.FromFn.{length-map-range_with_len}
use Rattle.ray_bytes.specs.declared.data_rule.DataRule.TheVariants.{X13}
use Rattle.ray_cmd.specs.declared.place.Place.TheVariants.{Whole}
use Rattle.ray_bytes.specs.declared.data_fault.DataFault.{DataFault}
use Rattle.ray_geometries.specs.Contents as bottoms
use Rattle.ray_bottom.specs.Builders.{BuilderValue}
use Rattle.ray_top.specs.Contents as tops
use Rattle.ray_top.specs.declared.used.Used.{Used}
use Rattle.ray_form.specs.Form.{broken_line}
use Rattle.ray_serial.specs.Meaning.{bottom_in, deserialized_in, is_top_form, lacks_its_tree}
use Rattle.ray_serial.specs.TopMeaning.{top_in}
use Rattle.ray_cmd.specs.declared.command.Command.TheVariants as commands
use Rattle.ray_cmd.specs.declared.copy_mode.CopyMode.{CopyMode}
use Rattle.ray_cmd.specs.declared.copy_mode.CopyMode.TheVariants as copies
use Rattle.ray_cmd.specs.declared.info.Info.{Info}
use Rattle.ray_cmd.specs.declared.structure_kind.StructureKind.{StructureKind}
use Rattle.ray_cmd.specs.declared.structure_kind.StructureKind.TheVariants as kinds
use Rattle.ray_rules.specs.Status.{Status}
use Rattle.ray_action.specs.declared.form.Form.{Form}
use Rattle.ray_action.specs.Memory.{Memory, Contents, Bottom, Top, StructureAt, ContentsAt, kind_of, as_bottom, as_top, bytes_at}
use Rattle.ray_action.specs.Action.{MakeBuffer, MakeStructure, DestroyBuffer, DestroyStructure, ShowSizes, ShowBytes, UpdateBytes, FillBytes, CopyBytes, BuildBottom, UpdateBottom, BuildTop, UpdateTop, CopyStructure, SerializeStructure, DeserializeStructure, TellProperty, TraceRays, Rest, Impossible}
use Rattle.ray_action.specs.Building.{add_all, new_builder, update_builder, all_used, top_of, top_again}
use Rattle.ray_action.specs.Outcomes.{Output, Outcome, Fault, Holds, compacted_of, Gives, Breaks, Undefined, bad_bytes, bottom_outcome, carried_in, top_outcome, copy_outcome, deserialize_outcome, fitting_in, kept_outcome, linked_outcome, opened_outcome, structure_in}
use Rattle.ray_action.specs.Seeing.{SeenBytes, see_geometry, see_structures}
use Rattle.ray_action.specs.Pieces.{info_actions, region_action, rays_action, trace_pieces, actions_of}
use Rattle.ray_action.specs.Readiness.{IsMade}
use Rattle.ray_device.specs.Storing.{CanHold}
use Rattle.ray_device.specs.Laws.{OutputsAreStorable, PartsAreActions}
use Rattle.ray_rules.specs.Kinds.{kind_of as kind_of_command}

gives-one : (x y : Output) → Gives x ≡ Gives y → x ≡ y
gives-one x y e = cc

holds : (dst : ℕ) (contents : Contents) (output : Output) (m : Memory) → IsMade (kind_of contents) (m (StructureAt dst)) → Gives (Holds contents) ≡ Gives output → CanHold dst output m
holds dst contents output m made e = subst (λ (o : Output). CanHold dst o m) (gives-one (Holds contents) output e) made

bottom-holds : (dst info : ℕ) (r : Result BuilderValue DataFault) (output : Output) (m : Memory) → IsMade kinds.Bottom (m (StructureAt dst))
    → bottom_outcome info r ≡ Gives output → CanHold dst output m
bottom-holds dst info (Ok b) output m made e = holds dst (Bottom b.contents) output m made e
bottom-holds dst info (Err fault) output m made e = absurd cc

top-holds : (dst info : ℕ) (r : Result tops.TopValue DataFault) (output : Output) (m : Memory) → IsMade kinds.Top (m (StructureAt dst))
    → top_outcome info r ≡ Gives output → CanHold dst output m
top-holds dst info (Ok top) output m made e = holds dst (Top top) output m made e
top-holds dst info (Err fault) output m made e = absurd cc

update-bottom : (dst info : ℕ) (found : Option bottoms.ContentsValue) (make : bottoms.ContentsValue → Result BuilderValue DataFault) (output : Output) (m : Memory)
    → IsMade kinds.Bottom (m (StructureAt dst)) → option_map_or (λ old. bottom_outcome info (make old)) found Undefined ≡ Gives output → CanHold dst output m
update-bottom dst info None make output m made e = absurd cc
update-bottom dst info (Some old) make output m made e = bottom-holds dst info (make old) output m made e

update-top : (dst info : ℕ) (found : Option tops.TopValue) (make : tops.TopValue → Result tops.TopValue DataFault) (output : Output) (m : Memory)
    → IsMade kinds.Top (m (StructureAt dst)) → option_map_or (λ old. top_outcome info (make old)) found Undefined ≡ Gives output → CanHold dst output m
update-top dst info None make output m made e = absurd cc
update-top dst info (Some old) make output m made e = top-holds dst info (make old) output m made e

clone-holds : (dst : ℕ) (source : Contents) (found : Option Contents) (form : Option Form) (output : Output) (m : Memory) → found ≡ Some source
    → IsMade (kind_of source) (m (StructureAt dst)) → copy_outcome copies.Clone found form ≡ Gives output → CanHold dst output m
clone-holds dst source None form output m is made e = absurd cc
clone-holds dst source (Some x) form output m is made e =
    let same : x ≡ source = cc in
    holds dst x output m (subst (λ s. IsMade (kind_of s) (m (StructureAt dst))) (sym same) made) e

compact-by : (b : Bool) (dst : ℕ) (bottom : bottoms.ContentsValue) (fault : Fault) (output : Output) (m : Memory)
    → IsMade kinds.Bottom (m (StructureAt dst)) → (if b then Breaks fault else Gives (Holds (Bottom bottom))) ≡ Gives output → CanHold dst output m
compact-by true dst bottom fault output m made e = absurd cc
compact-by false dst bottom fault output m made e = holds dst (Bottom bottom) output m made e

compact-of : (dst : ℕ) (x : Contents) (form : Form) (output : Output) (m : Memory)
    → IsMade (kind_of x) (m (StructureAt dst)) → copy_outcome copies.Compact (Some x) (Some form) ≡ Gives output → CanHold dst output m
compact-of dst (Bottom b) form output m made e =
    compact-by (nat_lt form.size (compacted_of b)) dst b (record { rule = X13; place = Whole }) output m made e
compact-of dst (Top t) form output m made e = absurd cc

compact-holds : (dst : ℕ) (source : Contents) (found : Option Contents) (form : Option Form) (output : Output) (m : Memory) → found ≡ Some source
    → IsMade (kind_of source) (m (StructureAt dst)) → copy_outcome copies.Compact found form ≡ Gives output → CanHold dst output m
compact-holds dst source found None output m is made e = absurd cc
compact-holds dst source None (Some form) output m is made e = absurd cc
compact-holds dst source (Some x) (Some form) output m is made e =
    let same : x ≡ source = cc in
    compact-of dst x form output m (subst (λ s. IsMade (kind_of s) (m (StructureAt dst))) (sym same) made) e

copy-holds : (mode : CopyMode) (dst : ℕ) (source : Contents) (found : Option Contents) (form : Option Form) (output : Output) (m : Memory) → found ≡ Some source
    → IsMade (kind_of source) (m (StructureAt dst)) → copy_outcome mode found form ≡ Gives output → CanHold dst output m
copy-holds copies.Clone dst source found form output m is made e = clone-holds dst source found form output m is made e
copy-holds copies.Compact dst source found form output m is made e = compact-holds dst source found form output m is made e

-- a structure of serialized bytes is of the kind of what stands under its destination
linked-holds : (dst : ℕ) (r : Result tops.TopValue DataFault) (output : Output) (m : Memory) → IsMade kinds.Top (m (StructureAt dst)) → linked_outcome r ≡ Gives output → CanHold dst output m
linked-holds dst (Ok top) output m made e = holds dst (Top top) output m made e
linked-holds dst (Err fault) output m made e = absurd cc

bottom-there : (dst : ℕ) (found : Option bottoms.ContentsValue) (output : Output) (m : Memory) → IsMade kinds.Bottom (m (StructureAt dst))
    → option_map_or (λ bottom. Gives (Holds (Bottom bottom))) found Undefined ≡ Gives output → CanHold dst output m
bottom-there dst None output m made e = absurd cc
bottom-there dst (Some b) output m made e = holds dst (Bottom b) output m made e

structure-holds : (dst : ℕ) (used : List Used) (bytes : List ℕ) (kind : StructureKind) (output : Output) (m : Memory) → IsMade kind (m (StructureAt dst))
    → structure_in used bytes kind ≡ Gives output → CanHold dst output m
structure-holds dst used bytes kinds.Bottom output m made e = bottom-there dst (bottom_in bytes) output m made e
structure-holds dst used bytes kinds.Top output m made e = linked-holds dst (top_in used bytes) output m made e

second-gives : (b : Bool) (x y : Outcome) (output : Output) → (x ≡ Gives output → ⊥) → (if b then x else y) ≡ Gives output → y ≡ Gives output
second-gives true x y output never e = absurd (never e)
second-gives false x y output never e = e

first-gives : (b : Bool) (x y : Outcome) (output : Output) → (y ≡ Gives output → ⊥) → (if b then x else y) ≡ Gives output → x ≡ Gives output
first-gives true x y output never e = e
first-gives false x y output never e = absurd (never e)

fitting-holds : (dst size : ℕ) (used : List Used) (bytes : List ℕ) (kind : StructureKind) (output : Output) (m : Memory) → IsMade kind (m (StructureAt dst))
    → fitting_in size used bytes kind ≡ Gives output → CanHold dst output m
fitting-holds dst size used bytes kind output m made e =
    structure-holds dst used bytes kind output m made
    (second-gives (nat_lt size (deserialized_in bytes)) _ (structure_in used bytes kind) output (λ f. absurd cc) e)

kept-holds : (dst : ℕ) (kind : StructureKind) (size : ℕ) (used : List Used) (bytes : List ℕ) (output : Output) (m : Memory) → IsMade kind (m (StructureAt dst))
    → kept_outcome kind size used bytes ≡ Gives output → CanHold dst output m
kept-holds dst kinds.Bottom size used bytes output m made e =
    fitting-holds dst size used bytes kinds.Bottom output m made
    (second-gives (lacks_its_tree bytes) (bad_bytes 10) (fitting_in size used bytes kinds.Bottom) output (λ f. absurd cc)
    (second-gives (is_top_form bytes) (bad_bytes 9) (carried_in size used bytes) output (λ f. absurd cc) e))
kept-holds dst kinds.Top size used bytes output m made e =
    fitting-holds dst size used bytes kinds.Top output m made
    (first-gives (is_top_form bytes) (fitting_in size used bytes kinds.Top) (bad_bytes 9) output (λ f. absurd cc) e)

opened-holds : (dst : ℕ) (form : Form) (used : List Used) (bytes : List ℕ) (line : Option ℕ) (output : Output) (m : Memory) → m (StructureAt dst) ≡ Some form
    → opened_outcome form used bytes line ≡ Gives output → CanHold dst output m
opened-holds dst form used bytes (Some number) output m is e = absurd cc
opened-holds dst form used bytes None output m is e =
    kept-holds dst form.kind form.size used bytes output m (record { form = form; is_it = is; same_kind = refl }) e

restore-holds : (dst : ℕ) (used : List Used) (seen : SeenBytes) (found : Option Form) (output : Output) (m : Memory) → m (StructureAt dst) ≡ found
    → deserialize_outcome used seen found ≡ Gives output → CanHold dst output m
restore-holds dst used None found output m is e = absurd cc
restore-holds dst used (Some bytes) None output m is e = absurd cc
restore-holds dst used (Some bytes) (Some form) output m is e = opened-holds dst form used bytes (broken_line bytes) output m is e

pub outputs-are_storable : OutputsAreStorable
outputs-are_storable meaning (MakeBuffer id size content) m output ready e = tt
outputs-are_storable meaning (MakeStructure id form) m output ready e = tt
outputs-are_storable meaning (DestroyBuffer id) m output ready e = tt
outputs-are_storable meaning (DestroyStructure id) m output ready e = tt
outputs-are_storable meaning (ShowSizes kind counts) m output ready e = tt
outputs-are_storable meaning (ShowBytes from form) m output ready e = tt
outputs-are_storable meaning (UpdateBytes to content) m output ready e = tt
outputs-are_storable meaning (FillBytes to value) m output ready e = tt
outputs-are_storable meaning (CopyBytes from to) m output ready e = tt
outputs-are_storable meaning (BuildBottom build flags geometries) m output ready e =
    bottom-holds build.dst build.info (add_all geometries (map (see_geometry m build.buffers) geometries) (new_builder flags)) output m ready.0.dst e
outputs-are_storable meaning (UpdateBottom build src geometries) m output ready e =
    update-bottom build.dst build.info (option_and_then as_bottom (m (ContentsAt src)))
    (λ old. add_all geometries (map (see_geometry m build.buffers) geometries) (update_builder old)) output m ready.1.dst e
outputs-are_storable meaning (BuildTop build flags uses instances) m output ready e =
    top-holds build.dst build.info (top_of flags (all_used (see_structures m uses) uses) instances (see_geometry m build.buffers instances)) output m ready.0.dst e
outputs-are_storable meaning (UpdateTop build src uses instances) m output ready e =
    update-top build.dst build.info (option_and_then as_top (m (ContentsAt src)))
    (λ old. top_again old (all_used (see_structures m uses) uses) instances (see_geometry m build.buffers instances)) output m ready.1.dst e
outputs-are_storable meaning (CopyStructure mode src dst) m output ready e =
    copy-holds mode dst ready.0.source (m (ContentsAt src)) (m (StructureAt dst)) output m ready.0.is_it ready.0.made e
outputs-are_storable meaning (SerializeStructure src to form) m output ready e = tt
outputs-are_storable meaning (DeserializeStructure from dst uses) m output ready e =
    restore-holds dst (all_used (see_structures m uses) uses) (bytes_at m from) (m (StructureAt dst)) output m refl e
outputs-are_storable meaning (TellProperty what structures to) m output ready e = tt
outputs-are_storable meaning (TraceRays trace) m output ready e = tt
outputs-are_storable meaning Rest m output ready e = tt
outputs-are_storable meaning Impossible m output ready e = absurd ready

-- ---- how many there are

length-infos : (z : Status) (first : ℕ) (infos : List Info) → length (info_actions z first infos) ≡ length infos
length-infos z first [] = refl
length-infos z first (info ∷ infos) = ap suc (length-infos z (first + 1) infos)

pub parts-are_actions : PartsAreActions
unfolding actions_of kind_of_command
parts-are_actions rec z (commands.Buffer id size usage content) is = absurd cc
parts-are_actions rec z (commands.Structure id kind buffer offset size) is = absurd cc
parts-are_actions rec z (commands.Destroy what id) is = absurd cc
parts-are_actions rec z (commands.Sizes kind counts) is = absurd cc
parts-are_actions rec z commands.Begin is = absurd cc
parts-are_actions rec z commands.End is = absurd cc
parts-are_actions rec z commands.Submit is = absurd cc
parts-are_actions rec z commands.Wait is = absurd cc
parts-are_actions rec z (commands.Read buffer offset size form) is = absurd cc
parts-are_actions rec z (commands.Update buffer offset content) is = refl
parts-are_actions rec z (commands.Fill buffer offset size value) is = refl
parts-are_actions rec z (commands.Copy src dst regions) is = length-map regions (region_action src dst)
parts-are_actions rec z (commands.Build infos) is = length-infos z 0 infos
parts-are_actions rec z (commands.CopyStructure mode src dst) is = refl
parts-are_actions rec z (commands.Serialize src dst form) is = refl
parts-are_actions rec z (commands.Deserialize src dst uses) is = refl
parts-are_actions rec z (commands.Property what structures dst) is = refl
parts-are_actions rec z (commands.Barrier src_stages src_access dst_stages dst_access buffers) is = refl
parts-are_actions rec z (commands.Trace top rays count hits flags mask script) is =
    length-map-range_with_len (rays_action rec z top rays hits count flags mask) 0 (trace_pieces count)
