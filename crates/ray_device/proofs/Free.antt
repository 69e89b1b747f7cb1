-- What a part of a command gives where it is ready is told by the memory as it is: the kind of what is built
-- by what its destination is there, ranges by the sizes of buffers there, and structures by their ids.
use Rattle.std.proofs.Common.{ℕ, ◌≡◌, ◌<◌, ◌*◌, List, [], ◌∷◌, length, Option, Some, None, Err, Bool, true, false, refl, ap, sym, subst, ◌∙◌, arith}
use Rattle.std.specs.Prelude.{All, IfSome, IsSome, map, option_map, slice_get, slice_index_or, unwrap_or, ◌||◌}
use Rattle.std.specs.List.{list_all}
use Rattle.std.proofs.lemmas.List.Elements.{All-cons, All-nil}
use Rattle.std.proofs.lemmas.Option.{slice_get-get_or}
use Rattle.ray_flags.specs.declared.ray_flags.RayFlags.{RayFlags}
use Rattle.ray_script.specs.declared.raw_rule.RawRule.{RawRule}
use Rattle.ray_cmd.specs.declared.build_mode.BuildMode.{BuildMode}
use Rattle.ray_cmd.specs.declared.build_mode.BuildMode.TheVariants as modes
use Rattle.ray_cmd.specs.declared.command.Command.{Command}
use Rattle.ray_cmd.specs.declared.command.Command.TheVariants as commands
use Rattle.ray_cmd.specs.declared.copy_mode.CopyMode.{CopyMode}
use Rattle.ray_cmd.specs.declared.geometry.Geometry.{Geometry}
use Rattle.ray_cmd.specs.declared.info.Info.{Info}
use Rattle.ray_cmd.specs.declared.region.Region.{Region}
use Rattle.ray_cmd.specs.declared.spot.Spot.{Spot}
use Rattle.ray_cmd.specs.declared.stretch.Stretch.{Stretch}
use Rattle.ray_cmd.specs.declared.structure_kind.StructureKind.{StructureKind}
use Rattle.ray_cmd.specs.declared.structure_kind.StructureKind.TheVariants as kinds
use Rattle.ray_rules.specs.declared.live_buffer.LiveBuffer.{LiveBuffer}
use Rattle.ray_rules.specs.declared.live_structure.LiveStructure.{LiveStructure}
use Rattle.ray_rules.specs.Access.{rays_of_piece}
use Rattle.ray_rules.specs.Hazards.{status_at}
use Rattle.ray_rules.specs.Ids.{Ids, look}
use Rattle.ray_rules.specs.Ranges.{size_at, inputs_read, range}
use Rattle.ray_rules.specs.Shapes.{is_triangles, is_boxes}
use Rattle.ray_rules.specs.Status.{Status}
use Rattle.ray_rules.specs.Kinds.{kind_of}
use Rattle.ray_action.specs.Memory.{Memory, StructureAt, ContentsAt, BufferAt, bytes_at}
use Rattle.ray_action.specs.Action.{Action, Building, UpdateBytes, FillBytes, CopyStructure, SerializeStructure, DeserializeStructure, Rest, content_buffer}
use Rattle.ray_action.specs.Building.{add_all, new_builder, update_builder, top_of, top_again}
use Rattle.ray_action.specs.Clients.{Meaning}
use Rattle.ray_action.specs.Outcomes.{Outcome, bytes_outcome, copy_outcome, deserialize_outcome, outcome_of, serialize_outcome, bottom_outcome, top_outcome, of_bottom, of_top}
use Rattle.ray_action.specs.Pieces.{bottom_action, top_action_of, top_action, info_action_by, info_action_on, info_action, region_action, rays_action, property_action, command_at, actions_of, cull_mask, stretch_range}
use Rattle.ray_action.specs.Readiness.{IsReady, IsMade, IsThere, AreThere, AreOfBottom}
use Rattle.ray_action.specs.Seeing.{SeenBytes, see_geometry, see_range}
use Rattle.ray_device.specs.declared.fetch_fault.FetchFault.{FetchFault}
use Rattle.ray_device.specs.declared.fetch_fault.FetchFault.TheVariants.{Data, NoMemory}
use Rattle.ray_device.specs.declared.piece.Piece.{Piece}
use Rattle.ray_device.specs.Fetching.{IsFetched, IsPieceFetched}
use Rattle.ray_device.specs.Bottoms.{AreOneKind, OfTriangles, OfBoxes, CanAdd, IsThereNow, inputs_now, seen_now, size_now}
use Rattle.ray_device.specs.Infos.{CanBuild, CanBuildBottom, CanBuildForm, CanBuildKind, CanBuildTop, CanBuildOneTop, bottom_now, form_now, info_now, kind_now, one_top_now, top_now}
use Rattle.ray_memory.specs.State.{StateValue}
use Rattle.ray_device.specs.Bounds.{most_tested, most_traced}
use Rattle.ray_device.specs.Parts.{CanBuildInfo, CanFetch, CanReadRegion, info_given, part_given, region_given}
use Rattle.ray_action.specs.Pieces.{rays_range}
use Rattle.ray_device.specs.Pieces.{IsPiece, part_action, piece_action, piece_count}
use Rattle.ray_device.specs.Ranges.{ranges_with}
use Rattle.ray_device.specs.Tops.{used_now}
use Rattle.ray_device.specs.Tracing.{traced}
use Rattle.ray_device.proofs.Commands.{build-part, command_is, copy-part, trace-part, first-part}
use Rattle.ray_device.proofs.Inputs.{ranges_are}
use Rattle.ray_device.proofs.Standing.{traces-are_free}
use Rattle.ray_device.proofs.Used.{used_list}

-- ---- geometries

-- the size that cut a geometry's vertices is that of the buffer as it is
size-same : (m : Memory) (buffers : Ids LiveBuffer) (g : Geometry) → IsThere buffers g (see_geometry m buffers g) → size_now m g ≡ size_at buffers (content_buffer g)
size-same m buffers g there = ap (λ o. unwrap_or o 0) there.size

inputs-same : (m : Memory) (buffers : Ids LiveBuffer) (g : Geometry) → IsThere buffers g (see_geometry m buffers g) → map (see_range m) (inputs_read buffers g) ≡ inputs_now m g
inputs-same m buffers g there =
    ap (map (see_range m)) (sym (ap (λ n. ranges_with n g) (size-same m buffers g there) ∙ ranges_are buffers g))

-- so what is seen of it is what is there
seen-same : (m : Memory) (buffers : Ids LiveBuffer) (g : Geometry) → IsThere buffers g (see_geometry m buffers g) → see_geometry m buffers g ≡ seen_now m g
seen-same m buffers g there = ap (λ inputs. record { size = m (BufferAt (content_buffer g)); inputs = inputs }) (inputs-same m buffers g there)

there-now : (m : Memory) (buffers : Ids LiveBuffer) (g : Geometry) → IsThere buffers g (see_geometry m buffers g) → IsThereNow m g
there-now m buffers g there =
    record { inputs = subst (λ inputs. All (λ (input : Option SeenBytes). IfSome input IsSome) inputs) (inputs-same m buffers g there) there.inputs }

all-seen : (m : Memory) (buffers : Ids LiveBuffer) (gs : List Geometry) → AreThere buffers gs (map (see_geometry m buffers) gs) → map (see_geometry m buffers) gs ≡ map (seen_now m) gs
all-seen m buffers [] there = refl
all-seen m buffers (g ∷ gs) there = λ i. seen-same m buffers g there.0 i ∷ all-seen m buffers gs there.1 i

all-there : (m : Memory) (buffers : Ids LiveBuffer) (gs : List Geometry) → AreThere buffers gs (map (see_geometry m buffers) gs) → All (IsThereNow m) gs
all-there m buffers [] there = All-nil (IsThereNow m)
all-there m buffers (g ∷ gs) there = All-cons (IsThereNow m) g gs (there-now m buffers g there.0) (all-there m buffers gs there.1)

one-kind : (gs : List Geometry) (a b : Bool) → list_all is_triangles gs ≡ a → list_all is_boxes gs ≡ b → (a || b) ≡ true → AreOneKind gs []
one-kind gs true b t x e = OfTriangles t (All-nil _)
one-kind gs false true t x e = OfBoxes x (All-nil _)
one-kind gs false false t x e = absurd cc

can-add : (m : Memory) (buffers : Ids LiveBuffer) (gs : List Geometry) → AreOfBottom gs → AreThere buffers gs (map (see_geometry m buffers) gs) → CanAdd m gs []
can-add m buffers gs limits there = record {
  few = let few = limits.few in omega arith;
  few_primitives = let few = limits.few_primitives in omega arith;
  one_kind = one-kind gs (list_all is_triangles gs) (list_all is_boxes gs) refl refl limits.one_kind;
  there = all-there m buffers gs there;
}

-- ---- infos

module _ (meaning : Meaning) where
  -- an action can be fetched, and gives what is told
  abbrev IsFree : Action → Memory → Type 0 → Outcome → Type 0
  IsFree action m can outcome = can × (outcome_of meaning action m ≡ outcome)

  -- a structure is built by the kind of what stands under its destination
  by-form : (m : Memory) (k : ℕ) (info : Info) (kind : StructureKind) (action : Action) → IsMade kind (m (StructureAt info.dst))
      → IsFree action m (CanBuildKind m info kind) (kind_now m k info kind) → IsFree action m (CanBuild m info) (info_now m k info)
  by-form m k info kind action made free = (
    subst (CanBuildForm m info) (sym made.is_it) (subst (CanBuildKind m info) (sym made.same_kind) free.0),
    free.1 ∙ sym (ap (form_now m k info) made.is_it ∙ ap (kind_now m k info) made.same_kind),
  )

  bottom-made : (m : Memory) (build : Building) (info : Info) (mode : BuildMode) (src : Option ℕ) → IsReady (bottom_action build info mode src) m → IsMade kinds.Bottom (m (StructureAt build.dst))
  bottom-made m build info modes.Build src ready = ready.0.dst
  bottom-made m build info modes.Update (Some id) ready = ready.1.dst
  bottom-made m build info modes.Update None ready = absurd ready

  bottom-free : (m : Memory) (build : Building) (info : Info) (mode : BuildMode) (src : Option ℕ) → IsReady (bottom_action build info mode src) m
      → IsFree (bottom_action build info mode src) m (CanBuildBottom m info mode src) (bottom_now m build.info info mode src)
  bottom-free m build info modes.Build src ready = (
    (can-add m build.buffers info.geometries ready.0.limits ready.0.there, ready.1),
    λ i. bottom_outcome build.info (add_all info.geometries (all-seen m build.buffers info.geometries ready.0.there i) (new_builder info.flags)),
  )
  bottom-free m build info modes.Update (Some id) ready = (
    (can-add m build.buffers info.geometries ready.1.limits ready.1.there, ready.0),
    λ i. of_bottom (m (ContentsAt id)) (λ old. bottom_outcome build.info (add_all info.geometries (all-seen m build.buffers info.geometries ready.1.there i) (update_builder old))),
  )
  bottom-free m build info modes.Update None ready = absurd ready

  top-made : (m : Memory) (build : Building) (info : Info) (g : Geometry) (mode : BuildMode) (src : Option ℕ) → IsReady (top_action_of build info g mode src) m → IsMade kinds.Top (m (StructureAt build.dst))
  top-made m build info g modes.Build src ready = ready.0.dst
  top-made m build info g modes.Update (Some id) ready = ready.1.dst
  top-made m build info g modes.Update None ready = absurd ready

  top-free : (m : Memory) (build : Building) (info : Info) (g : Geometry) (mode : BuildMode) (src : Option ℕ) → IsReady (top_action_of build info g mode src) m
      → IsFree (top_action_of build info g mode src) m (CanBuildTop m info g mode src) (top_now m build.info info g mode src)
  top-free m build info g modes.Build src ready = (
    (ready.0.limits.few, ready.1),
    λ i. top_outcome build.info (top_of info.flags (used_list m info.uses i) g (seen-same m build.buffers g ready.0.there i)),
  )
  top-free m build info g modes.Update (Some id) ready = (
    ready.0,
    λ i. of_top (m (ContentsAt id)) (λ old. top_outcome build.info (top_again old (used_list m info.uses i) g (seen-same m build.buffers g ready.1.there i))),
  )
  top-free m build info g modes.Update None ready = absurd ready

  tops-free : (m : Memory) (k : ℕ) (buffers : Ids LiveBuffer) (info : Info) (gs : List Geometry) → info.geometries ≡ gs
      → IsReady (top_action (record { info = k; dst = info.dst; buffers = buffers }) info gs) m
      → IsFree (top_action (record { info = k; dst = info.dst; buffers = buffers }) info gs) m (CanBuild m info) (info_now m k info)
  tops-free m k buffers info [] e ready = absurd ready
  tops-free m k buffers info (g ∷ []) e ready =
      let build : Building = record { info = k; dst = info.dst; buffers = buffers } in
      let free = top-free m build info g info.mode info.src ready in
      by-form m k info kinds.Top (top_action build info (g ∷ [])) (top-made m build info g info.mode info.src ready)
      (subst (CanBuildOneTop m info) (sym e) free.0, free.1 ∙ sym (ap (one_top_now m k info) e))
  tops-free m k buffers info (g ∷ (h ∷ gs)) e ready = absurd ready

  kind-free : (m : Memory) (k : ℕ) (buffers : Ids LiveBuffer) (info : Info) (kind : StructureKind)
      → IsReady (info_action_by (record { info = k; dst = info.dst; buffers = buffers }) info kind) m
      → IsFree (info_action_by (record { info = k; dst = info.dst; buffers = buffers }) info kind) m (CanBuild m info) (info_now m k info)
  kind-free m k buffers info kinds.Bottom ready =
      let build : Building = record { info = k; dst = info.dst; buffers = buffers } in
      by-form m k info kinds.Bottom (bottom_action build info info.mode info.src) (bottom-made m build info info.mode info.src ready)
      (bottom-free m build info info.mode info.src ready)
  kind-free m k buffers info kinds.Top ready = tops-free m k buffers info info.geometries refl ready

  found-free : (m : Memory) (k : ℕ) (buffers : Ids LiveBuffer) (info : Info) (found : Option LiveStructure)
      → IsReady (info_action_on (record { info = k; dst = info.dst; buffers = buffers }) info found) m
      → IsFree (info_action_on (record { info = k; dst = info.dst; buffers = buffers }) info found) m (CanBuild m info) (info_now m k info)
  found-free m k buffers info None ready = absurd ready
  found-free m k buffers info (Some live) ready = kind-free m k buffers info live.kind ready

  -- ---- every command

  part-if : (m : Memory) (a b : Action) (can : Type 0) (outcome : Outcome) → a ≡ b → (IsReady b m → IsFree b m can outcome) → IsReady a m → IsFree a m can outcome
  part-if m a b can outcome e free ready =
      subst (λ x. IsFree x m can outcome) (sym e) (free (subst (λ x. IsReady x m) e ready))

  region-free : (m : Memory) (src dst : ℕ) (found : Option Region) → IsReady (unwrap_or (option_map (region_action src dst) found) Rest) m
      → IsFree (unwrap_or (option_map (region_action src dst) found) Rest) m (CanReadRegion m src found) (region_given m src found)
  region-free m src dst None ready = (tt, refl)
  region-free m src dst (Some region) ready = (ready, refl)

  info-free : (m : Memory) (z : Status) (k : ℕ) (found : Option Info) → IsReady (unwrap_or (option_map (info_action z k) found) Rest) m
      → IsFree (unwrap_or (option_map (info_action z k) found) Rest) m (CanBuildInfo m found) (info_given m k found)
  info-free m z k None ready = (tt, refl)
  info-free m z k (Some info) ready = found-free m k z.buffers info (look z.structures info.dst) ready

  deserialize-free : (m : Memory) (src : Stretch) (dst : ℕ) (uses : List ℕ) → IsReady (DeserializeStructure (stretch_range src) dst uses) m
      → IsFree (DeserializeStructure (stretch_range src) dst uses) m (IsSome (bytes_at m (stretch_range src)) × IsSome (m (StructureAt dst)))
      (deserialize_outcome (map (used_now m) uses) (bytes_at m (stretch_range src)) (m (StructureAt dst)))
  deserialize-free m src dst uses ready = (
    (ready.bytes, ready.dst),
    ap (λ used. deserialize_outcome used (bytes_at m (stretch_range src)) (m (StructureAt dst))) (used_list m uses),
  )

  pub part_free : (rec : List Command) (z : Status) (c : Command) (k : ℕ) (m : Memory) → k < piece_count c
      → IsReady (part_action rec z c k) m → IsFree (part_action rec z c k) m (CanFetch m c k) (part_given m meaning c k)
  unfolding kind_of actions_of part_given
  part_free rec z (commands.Buffer id size usage content) k m within ready = absurd (omega arith)
  part_free rec z (commands.Structure id kind buffer offset size) k m within ready = absurd (omega arith)
  part_free rec z (commands.Destroy what id) k m within ready = absurd (omega arith)
  part_free rec z (commands.Sizes kind counts) k m within ready = absurd (omega arith)
  part_free rec z commands.Begin k m within ready = absurd (omega arith)
  part_free rec z commands.End k m within ready = absurd (omega arith)
  part_free rec z commands.Submit k m within ready = absurd (omega arith)
  part_free rec z commands.Wait k m within ready = absurd (omega arith)
  part_free rec z (commands.Read buffer offset size form) k m within ready = absurd (omega arith)
  part_free rec z (commands.Update buffer offset content) k m within ready =
      part-if m _ (UpdateBytes (range buffer offset (length content)) content) _ _ (first-part _ k within) (λ r. (tt, refl)) ready
  part_free rec z (commands.Fill buffer offset size value) k m within ready =
      part-if m _ (FillBytes (range buffer offset size) value) _ _ (first-part _ k within) (λ r. (tt, refl)) ready
  part_free rec z (commands.Copy src dst regions) k m within ready =
      part-if m _ (unwrap_or (option_map (region_action src dst) (slice_get regions k)) Rest) _ _
      (copy-part rec z src dst regions k (slice_get regions k) refl) (region-free m src dst (slice_get regions k)) ready
  part_free rec z (commands.Build infos) k m within ready =
      part-if m _ (unwrap_or (option_map (info_action z k) (slice_get infos k)) Rest) _ _
      (build-part rec z infos k (slice_get infos k) refl) (info-free m z k (slice_get infos k)) ready
  part_free rec z (commands.CopyStructure mode src dst) k m within ready =
      part-if m _ (CopyStructure mode src dst) _ _ (first-part _ k within) (λ r. (r, refl)) ready
  part_free rec z (commands.Serialize src dst form) k m within ready =
      part-if m _ (SerializeStructure src (stretch_range dst) form) _ _ (first-part _ k within) (λ r. (r, refl)) ready
  part_free rec z (commands.Deserialize src dst uses) k m within ready =
      part-if m _ (DeserializeStructure (stretch_range src) dst uses) _ _ (first-part _ k within) (deserialize-free m src dst uses) ready
  part_free rec z (commands.Property what structures dst) k m within ready =
      part-if m _ (property_action what structures dst) _ _ (first-part _ k within) (λ r. (r, refl)) ready
  part_free rec z (commands.Barrier src_stages src_access dst_stages dst_access buffers) k m within ready =
      part-if m _ Rest _ _ (first-part _ k within) (λ r. (tt, refl)) ready
  part_free rec z (commands.Trace top rays count hits flags mask script) k m within ready =
      part-if m _ (rays_action rec z top rays hits count flags mask k) _ _ (trace-part rec z top rays count hits flags mask script k within)
      (λ r. let free = traces-are_free meaning _ m r in (free.can, free.same)) ready

  -- ---- what the fetch of a piece cites

  pub can_fetch : (rec : List Command) (piece : Piece) (command : Command) (m : Memory) → IsPiece rec piece → slice_get rec piece.command ≡ Some command
      → IsReady (piece_action rec piece) m → CanFetch m command piece.part
  can_fetch rec piece command m is e ready =
      subst (λ c. CanFetch m c piece.part) (command_is rec piece.command command e) (part_free rec (status_at rec piece.command) (command_at rec piece.command) piece.part m is.part ready).0

  pub is_given : (rec : List Command) (piece : Piece) (command : Command) (m : Memory) → IsPiece rec piece → slice_get rec piece.command ≡ Some command
      → IsReady (piece_action rec piece) m → outcome_of meaning (piece_action rec piece) m ≡ part_given m meaning command piece.part
  is_given rec piece command m is e ready =
      (part_free rec (status_at rec piece.command) (command_at rec piece.command) piece.part m is.part ready).1 ∙ ap (λ c. part_given m meaning c piece.part) (command_is rec piece.command command e)

  -- ---- what a part gives, by its place

  pub region_is : (m : Memory) (src dst : ℕ) (regions : List Region) (k : ℕ) (d : Region) → k < length regions
      → bytes_outcome (bytes_at m (range src (slice_index_or regions k d).src_offset (slice_index_or regions k d).size)) ≡ part_given m meaning (commands.Copy src dst regions) k
  unfolding part_given
  region_is m src dst regions k d below = ap (region_given m src) (sym (slice_get-get_or regions k d below))

  pub info_is : (m : Memory) (infos : List Info) (k : ℕ) (d : Info) → k < length infos → info_now m k (slice_index_or infos k d) ≡ part_given m meaning (commands.Build infos) k
  unfolding part_given
  info_is m infos k d below = ap (info_given m k) (sym (slice_get-get_or infos k d below))

  pub copy_is : (m : Memory) (mode : CopyMode) (src dst k : ℕ) → copy_outcome mode (m (ContentsAt src)) (m (StructureAt dst)) ≡ part_given m meaning (commands.CopyStructure mode src dst) k
  unfolding part_given
  copy_is m mode src dst k = refl

  pub serialize_is : (m : Memory) (src : ℕ) (dst : Stretch) (form : Option ℕ) (k : ℕ) → serialize_outcome form (stretch_range dst) (m (ContentsAt src)) ≡ part_given m meaning (commands.Serialize src dst form) k
  unfolding part_given
  serialize_is m src dst form k = refl

  pub deserialize_is : (m : Memory) (src : Stretch) (dst : ℕ) (uses : List ℕ) (k : ℕ)
      → deserialize_outcome (map (used_now m) uses) (bytes_at m (stretch_range src)) (m (StructureAt dst)) ≡ part_given m meaning (commands.Deserialize src dst uses) k
  unfolding part_given
  deserialize_is m src dst uses k = refl

  pub trace_is : (m : Memory) (top : ℕ) (rays : Spot) (count : ℕ) (hits : Spot) (flags : RayFlags) (mask : ℕ) (script : List RawRule) (k : ℕ)
      → traced m top (rays_range rays count k) (64 * k) (rays_of_piece count k) flags (cull_mask mask) meaning ≡ part_given m meaning (commands.Trace top rays count hits flags mask script) k
  unfolding part_given
  trace_is m top rays count hits flags mask script k = refl

  pub most_is : (s : StateValue) (top : ℕ) (rays : Spot) (count : ℕ) (hits : Spot) (flags : RayFlags) (mask : ℕ) (script : List RawRule) (k : ℕ)
      → most_traced s top (rays_range rays count k) (64 * k) (rays_of_piece count k) flags (cull_mask mask) meaning ≡ most_tested s meaning (commands.Trace top rays count hits flags mask script) k
  unfolding most_tested
  most_is s top rays count hits flags mask script k = refl

-- the fault of what a part gives is that of its piece
pub fails : (piece : Piece) (x y : Outcome) (fault : FetchFault) → x ≡ y → IsFetched y (Err fault) → IsPieceFetched piece x (Err fault)
fails piece x y (Data rule place) same is = same ∙ is
fails piece x y NoMemory same is = tt
