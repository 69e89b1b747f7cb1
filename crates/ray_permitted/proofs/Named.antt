-- What a piece of a device command reads and writes is live where its command stands.
use Rattle.std.proofs.Common.{◌≡◌, ◌<◌, ◌+◌, ◌*◌, ◌++◌, ℕ, zero, suc, true, false, List, [], ◌∷◌, Option, Some, None, IsSome, refl, sym, ap, subst, arith, map, length}
use Rattle.std.specs.Prelude.{◌||◌, slice_get, is_some}
use Rattle.std.specs.List.{flat_map, list_any}
use Rattle.std.specs.Option.{option_map_or, option_to_list}
use Rattle.ray_flags.specs.declared.ray_flags.RayFlags.{RayFlags}
use Rattle.ray_cmd.specs.declared.asked.Asked.{Asked}
use Rattle.ray_cmd.specs.declared.build_mode.BuildMode.{BuildMode}
use Rattle.ray_cmd.specs.declared.build_mode.BuildMode.TheVariants as modes
use Rattle.ray_cmd.specs.declared.command.Command.{Command}
use Rattle.ray_cmd.specs.declared.command.Command.TheVariants as commands
use Rattle.ray_cmd.specs.declared.copy_mode.CopyMode.{CopyMode}
use Rattle.ray_cmd.specs.declared.geometry.Geometry.{Geometry}
use Rattle.ray_cmd.specs.declared.info.Info.{Info}
use Rattle.ray_cmd.specs.declared.region.Region.{Region}
use Rattle.ray_cmd.specs.declared.spot.Spot.{Spot}
use Rattle.ray_cmd.specs.declared.structure_kind.StructureKind.{StructureKind}
use Rattle.ray_cmd.specs.declared.structure_kind.StructureKind.TheVariants as kinds
use Rattle.ray_rules.specs.declared.built.Built.{Built}
use Rattle.ray_rules.specs.declared.byte_range.ByteRange.{ByteRange}
use Rattle.ray_rules.specs.declared.live_buffer.LiveBuffer.{LiveBuffer}
use Rattle.ray_rules.specs.declared.live_structure.LiveStructure.{LiveStructure}
use Rattle.ray_rules.specs.declared.stage.Stage.{Stage}
use Rattle.ray_rules.specs.Access.{stage_of, uses_at}
use Rattle.ray_rules.specs.Ids.{look}
use Rattle.ray_rules.specs.Names.{lacks_buffer, lacks_structure, v1}
use Rattle.ray_rules.specs.Origins.{uses_of}
use Rattle.ray_rules.specs.Ranges.{inputs_read, range}
use Rattle.ray_rules.specs.Sources.{first_stale, is_stale, v21}
use Rattle.ray_rules.specs.Status.{Status, built_at}
use Rattle.ray_rules.specs.Kinds.{kind_of}
use Rattle.ray_action.specs.Action.{Action, Building, CopyStructure, DeserializeStructure, FillBytes, SerializeStructure, TellProperty, UpdateBytes, areas_read, content_buffer, geometry_areas, structure_areas}
use Rattle.ray_action.specs.Areas.{Area, Bytes, ContentsOf, ContentsOfEach, FormOf, cover, covers, has, is_contents_of, is_contents_of_any, is_form, is_in_range, is_size}
use Rattle.ray_action.specs.Memory.{Location, ByteAt, BufferAt, StructureAt, ContentsAt}
use Rattle.ray_action.specs.Pieces.{actions_of, bottom_action, building, info_action, info_action_by, info_action_on, info_actions, property_action, rays_action, region_action, stretch_range, top_action, top_action_of, trace_pieces, rays_range, hits_range}
use Rattle.ray_action.specs.Storing.{writes}
use Rattle.ray_ready.specs.Accepted.{MayRun}
use Rattle.ray_ready.proofs.Ties.{IsBuilt}
use Rattle.ray_rules.specs.Within.{AreInBuffers, IsInBuffer}
use Rattle.ray_ready.proofs.Allowed.{AreReadable, IsAllowed, IsLiveOf, IsReadable, MayBuildBottom, MayBuildTop}
use Rattle.ray_ready.proofs.Infos.{AreAllowedFrom}
use Rattle.ray_ready.proofs.InfoRules.{infos_allowed}
use Rattle.ray_rules.proofs.Kept.{Fail, no_part, none_any}
use Rattle.ray_ready.proofs.Kept.{fails_at, fresh_of, is_there, keeps}
use Rattle.ray_permitted.proofs.Truth.{either, is_equal, made_of_item, made_of_number, never_none, no_first, no_second, one_item, or_left, or_right, same_some}
use Rattle.ray_permitted.proofs.Sharing.{low_of}
use Rattle.ray_permitted.proofs.Waits.{not_broken}

-- the buffer or the structure that a location belongs to is live
abbrev pub IsThere : Status → Location → Type 0
IsThere z (ByteAt b at) = IsSome (look z.buffers b)
IsThere z (BufferAt id) = IsSome (look z.buffers id)
IsThere z (StructureAt id) = IsSome (look z.structures id)
IsThere z (ContentsAt id) = IsSome (look z.structures id)

-- so it is of all that an action reads and writes
pub record IsNamed (z : Status) (a : Action) : Type 0 where
  pub reads : (l : Location) → cover (areas_read a) l ≡ true → IsThere z l
  pub writes : (l : Location) → writes a l ≡ true → IsThere z l

-- ---- areas

buffer_is : (z : Status) (a b : ℕ) → IsSome (look z.buffers b) → a ≡ b → IsSome (look z.buffers a)
buffer_is z a b live same = subst (λ id. IsSome (look z.buffers id)) (sym same) live

structure_is : (z : Status) (a b : ℕ) → IsSome (look z.structures b) → a ≡ b → IsSome (look z.structures a)
structure_is z a b live same = subst (λ id. IsSome (look z.structures id)) (sym same) live

bytes_there : (z : Status) (r : ByteRange) (l : Location) → IsSome (look z.buffers r.buffer) → is_in_range r l ≡ true → IsThere z l
bytes_there z r (ByteAt b at) live e = buffer_is z b r.buffer live (low_of r b at e).0
bytes_there z r (BufferAt id) live e = absurd cc
bytes_there z r (StructureAt id) live e = absurd cc
bytes_there z r (ContentsAt id) live e = absurd cc

size_there : (z : Status) (buffer : ℕ) (l : Location) → IsSome (look z.buffers buffer) → is_size buffer l ≡ true → IsThere z l
size_there z buffer (ByteAt b at) live e = absurd cc
size_there z buffer (BufferAt id) live e = buffer_is z id buffer live (is_equal id buffer e)
size_there z buffer (StructureAt id) live e = absurd cc
size_there z buffer (ContentsAt id) live e = absurd cc

form_there : (z : Status) (s : ℕ) (l : Location) → IsSome (look z.structures s) → is_form s l ≡ true → IsThere z l
form_there z s (ByteAt b at) live e = absurd cc
form_there z s (BufferAt id) live e = absurd cc
form_there z s (StructureAt id) live e = structure_is z id s live (is_equal id s e)
form_there z s (ContentsAt id) live e = absurd cc

contents_there : (z : Status) (s : ℕ) (l : Location) → IsSome (look z.structures s) → is_contents_of s l ≡ true → IsThere z l
contents_there z s (ByteAt b at) live e = absurd cc
contents_there z s (BufferAt id) live e = absurd cc
contents_there z s (StructureAt id) live e = absurd cc
contents_there z s (ContentsAt id) live e = structure_is z id s live (is_equal id s e)

each_there : (z : Status) (ids : List ℕ) (l : Location) → ((u : ℕ) → has ids u ≡ true → IsSome (look z.structures u)) → is_contents_of_any ids l ≡ true → IsThere z l
each_there z ids (ByteAt b at) live e = absurd cc
each_there z ids (BufferAt id) live e = absurd cc
each_there z ids (StructureAt id) live e = absurd cc
each_there z ids (ContentsAt id) live e = live id e

-- a range of which each byte is in its buffer
has_size : (found : Option LiveBuffer) (at : ℕ) → at < option_map_or (λ (b : LiveBuffer). b.size) found 0 → IsSome found
has_size None at less = absurd (omega (arith, less))
has_size (Some b) at less = refl

within_there : (z : Status) (r : ByteRange) (l : Location) → IsInBuffer z.buffers r → is_in_range r l ≡ true → IsThere z l
within_there z r (ByteAt b at) inside e =
    let low = low_of r b at e in
    buffer_is z b r.buffer (has_size (look z.buffers r.buffer) at (inside at low.1 low.2)) low.0
within_there z r (BufferAt id) inside e = absurd cc
within_there z r (StructureAt id) inside e = absurd cc
within_there z r (ContentsAt id) inside e = absurd cc

ranges_there : (z : Status) (rs : List (Option ByteRange)) (l : Location) → AreInBuffers z.buffers rs → cover (map Bytes (flat_map option_to_list rs)) l ≡ true → IsThere z l
ranges_there z [] l inside e = absurd cc
ranges_there z (None ∷ rs) l inside e = ranges_there z rs l inside.1 e
ranges_there z (Some r ∷ rs) l inside e =
    either (is_in_range r l) (cover (map Bytes (flat_map option_to_list rs)) l) e
    (λ here. within_there z r l inside.0 here) (λ later. ranges_there z rs l inside.1 later)

geometry_there : (z : Status) (g : Geometry) (l : Location) → IsReadable z.buffers g → cover (geometry_areas z.buffers g) l ≡ true → IsThere z l
geometry_there z g l readable e =
    either (is_size (content_buffer g) l) (cover (map Bytes (flat_map option_to_list (inputs_read z.buffers g))) l) e
    (λ size. size_there z (content_buffer g) l readable.live size)
    (λ inputs. ranges_there z (inputs_read z.buffers g) l readable.within inputs)

pub cover_split : {X : Type 0} (some others : List Area) (l : Location) → cover (some ++ others) l ≡ true
    → (cover some l ≡ true → X) → (cover others l ≡ true → X) → X
cover_split [] others l e first second = second e
cover_split (area ∷ some) others l e first second =
    either (covers area l) (cover (some ++ others) l) e
    (λ here. first (or_left (covers area l) (cover some l) here))
    (λ later. cover_split some others l later (λ h. first (or_right (covers area l) (cover some l) h)) second)

geometries_there : (z : Status) (gs : List Geometry) (l : Location) → AreReadable z.buffers gs → cover (flat_map (geometry_areas z.buffers) gs) l ≡ true → IsThere z l
geometries_there z [] l readable e = absurd cc
geometries_there z (g ∷ gs) l readable e =
    cover_split (geometry_areas z.buffers g) (flat_map (geometry_areas z.buffers) gs) l e
    (λ here. geometry_there z g l readable.0 here) (λ later. geometries_there z gs l readable.1 later)

-- ---- builds

live_of : (kind : StructureKind) (found : Option LiveStructure) → IsLiveOf kind found → IsSome found
live_of kind found live = ap is_some live.is_it

built_of : (kind : StructureKind) (found : Option LiveStructure) (b : Built) → IsBuilt found kind b → IsSome found
built_of kind found b built = ap is_some built.is_it

bottom_inputs : (z : Status) (build : Building) (gs : List Geometry) (l : Location) → MayBuildBottom z build gs → cover (flat_map (geometry_areas build.buffers) gs) l ≡ true → IsThere z l
bottom_inputs z build gs l may e =
    geometries_there z gs l (subst (λ b. AreReadable b gs) (sym may.buffers) may.readable)
    (subst (λ b. cover (flat_map (geometry_areas b) gs) l ≡ true) (sym may.buffers) e)

top_inputs : (rec : List Command) (z : Status) (build : Building) (uses : List ℕ) (g : Geometry) (l : Location) → MayBuildTop rec z build uses g
    → cover (ContentsOfEach uses ∷ geometry_areas build.buffers g) l ≡ true → IsThere z l
top_inputs rec z build uses g l may e =
    either (is_contents_of_any uses l) (cover (geometry_areas build.buffers g) l) e
    (λ used. each_there z uses l (λ u named. let b = may.are_built u named in built_of kinds.Bottom (look z.structures u) b.by b.built) used)
    (λ inputs. geometry_there z g l (subst (λ b. IsReadable b g) (sym may.buffers) may.readable)
    (subst (λ b. cover (geometry_areas b g) l ≡ true) (sym may.buffers) inputs))

bottom_named : (rec : List Command) (z : Status) (build : Building) (info : Info) (mode : BuildMode) (src : Option ℕ) → IsAllowed rec z (bottom_action build info mode src)
    → IsNamed z (bottom_action build info mode src)
bottom_named rec z build info modes.Build src may =
    let live = live_of kinds.Bottom (look z.structures build.dst) may.0.dst in record {
      reads = λ l e.
          either (is_form build.dst l) (cover (flat_map (geometry_areas build.buffers) info.geometries) l) e
          (λ form. form_there z build.dst l live form) (λ inputs. bottom_inputs z build info.geometries l may.0 inputs);
      writes = λ l e. contents_there z build.dst l live e;
    }
bottom_named rec z build info modes.Update (Some src) may =
    let live = live_of kinds.Bottom (look z.structures build.dst) may.1.dst in record {
      reads = λ l e.
          either (is_form build.dst l) (cover (ContentsOf src ∷ flat_map (geometry_areas build.buffers) info.geometries) l) e
          (λ form. form_there z build.dst l live form)
          (λ rest. either (is_contents_of src l) (cover (flat_map (geometry_areas build.buffers) info.geometries) l) rest
          (λ source. contents_there z src l (built_of kinds.Bottom (look z.structures src) may.0.by may.0.built) source)
          (λ inputs. bottom_inputs z build info.geometries l may.1 inputs));
      writes = λ l e. contents_there z build.dst l live e;
    }
bottom_named rec z build info modes.Update None may = absurd may

top_named : (rec : List Command) (z : Status) (build : Building) (info : Info) (g : Geometry) (mode : BuildMode) (src : Option ℕ) → IsAllowed rec z (top_action_of build info g mode src)
    → IsNamed z (top_action_of build info g mode src)
top_named rec z build info g modes.Build src may =
    let live = live_of kinds.Top (look z.structures build.dst) may.0.dst in record {
      reads = λ l e.
          either (is_form build.dst l) (cover (ContentsOfEach info.uses ∷ geometry_areas build.buffers g) l) e
          (λ form. form_there z build.dst l live form) (λ rest. top_inputs rec z build info.uses g l may.0 rest);
      writes = λ l e. contents_there z build.dst l live e;
    }
top_named rec z build info g modes.Update (Some src) may =
    let live = live_of kinds.Top (look z.structures build.dst) may.1.dst in record {
      reads = λ l e.
          either (is_form build.dst l) (cover (ContentsOf src ∷ (ContentsOfEach info.uses ∷ geometry_areas build.buffers g)) l) e
          (λ form. form_there z build.dst l live form)
          (λ rest. either (is_contents_of src l) (cover (ContentsOfEach info.uses ∷ geometry_areas build.buffers g) l) rest
          (λ source. contents_there z src l (built_of kinds.Top (look z.structures src) may.0.by may.0.built) source)
          (λ later. top_inputs rec z build info.uses g l may.1 later));
      writes = λ l e. contents_there z build.dst l live e;
    }
top_named rec z build info g modes.Update None may = absurd may

tops_named : (rec : List Command) (z : Status) (build : Building) (info : Info) (gs : List Geometry) → IsAllowed rec z (top_action build info gs) → IsNamed z (top_action build info gs)
tops_named rec z build info [] may = absurd may
tops_named rec z build info (g ∷ []) may = top_named rec z build info g info.mode info.src may
tops_named rec z build info (g ∷ (h ∷ gs)) may = absurd may

kind_named : (rec : List Command) (z : Status) (build : Building) (info : Info) (kind : StructureKind) → IsAllowed rec z (info_action_by build info kind) → IsNamed z (info_action_by build info kind)
kind_named rec z build info kinds.Bottom may = bottom_named rec z build info info.mode info.src may
kind_named rec z build info kinds.Top may = tops_named rec z build info info.geometries may

found_named : (rec : List Command) (z : Status) (build : Building) (info : Info) (found : Option LiveStructure) → IsAllowed rec z (info_action_on build info found) → IsNamed z (info_action_on build info found)
found_named rec z build info None may = absurd may
found_named rec z build info (Some s) may = kind_named rec z build info s.kind may

infos_named : (rec : List Command) (z : Status) (j : ℕ) (infos : List Info) (k : ℕ) (a : Action) → AreAllowedFrom rec z z j infos → slice_get (info_actions z j infos) k ≡ Some a → IsNamed z a
infos_named rec z j [] k a may there = never_none a there
infos_named rec z j (info ∷ infos) zero a may there =
    subst (IsNamed z) (same_some (info_action z j info) a there) (found_named rec z (building z j info) info (look z.structures info.dst) may.0)
infos_named rec z j (info ∷ infos) (suc k) a may there = infos_named rec z (j + 1) infos k a may.1 there

-- ---- transfers

-- what writes bytes of a live buffer, and reads nothing
fill_named : (z : Status) (buffer from size value : ℕ) → IsSome (look z.buffers buffer) → IsNamed z (FillBytes (range buffer from size) value)
fill_named z buffer from size value live = record { reads = λ l e. absurd cc; writes = λ l e. bytes_there z (range buffer from size) l live e }

update_named : (z : Status) (buffer from size : ℕ) (content : List ℕ) → IsSome (look z.buffers buffer) → IsNamed z (UpdateBytes (range buffer from size) content)
update_named z buffer from size content live = record { reads = λ l e. absurd cc; writes = λ l e. bytes_there z (range buffer from size) l live e }

region_named : (z : Status) (src dst : ℕ) (region : Region) → IsSome (look z.buffers src) → IsSome (look z.buffers dst) → IsNamed z (region_action src dst region)
region_named z src dst region from to = record {
  reads = λ l e.
      either (is_in_range (range src region.src_offset region.size) l) false e
      (λ here. bytes_there z (range src region.src_offset region.size) l from here) (λ none. absurd cc);
  writes = λ l e. bytes_there z (range dst region.dst_offset region.size) l to e;
}

-- ---- structures

copy_named : (z : Status) (mode : CopyMode) (src dst : ℕ) → IsSome (look z.structures src) → IsSome (look z.structures dst) → IsNamed z (CopyStructure mode src dst)
copy_named z mode src dst from to = record {
  reads = λ l e.
      either (is_contents_of src l) (cover (FormOf dst ∷ []) l) e
      (λ source. contents_there z src l from source)
      (λ rest. either (is_form dst l) false rest (λ form. form_there z dst l to form) (λ none. absurd cc));
  writes = λ l e. contents_there z dst l to e;
}

asked_there : (z : Status) (ids : List ℕ) (l : Location) → Fail (lacks_structure z) ids → cover (flat_map structure_areas ids) l ≡ true → IsThere z l
asked_there z [] l live e = absurd cc
asked_there z (id ∷ ids) l live e =
    let there = is_there (look z.structures id) live.0 in
    either (is_form id l) (is_contents_of id l || cover (flat_map structure_areas ids) l) e
    (λ form. form_there z id l there form)
    (λ rest. either (is_contents_of id l) (cover (flat_map structure_areas ids) l) rest
    (λ contents. contents_there z id l there contents) (λ later. asked_there z ids l live.1 later))

serialize_named : (z : Status) (src : ℕ) (r : ByteRange) (form : Option ℕ) → IsSome (look z.structures src) → IsSome (look z.buffers r.buffer) → IsNamed z (SerializeStructure src r form)
serialize_named z src r form from to = record {
  reads = λ l e. either (is_contents_of src l) false e (λ source. contents_there z src l from source) (λ none. absurd cc);
  writes = λ l e. bytes_there z r l to e;
}

deserialize_named : (z : Status) (r : ByteRange) (dst : ℕ) (uses : List ℕ) → IsSome (look z.buffers r.buffer) → IsSome (look z.structures dst) → Fail (lacks_structure z) uses
    → IsNamed z (DeserializeStructure r dst uses)
deserialize_named z r dst uses from to live = record {
  reads = λ l e.
      either (is_in_range r l) (cover (FormOf dst ∷ (ContentsOfEach uses ∷ [])) l) e
      (λ here. bytes_there z r l from here)
      (λ rest. either (is_form dst l) (cover (ContentsOfEach uses ∷ []) l) rest
      (λ form. form_there z dst l to form)
      (λ later. either (is_contents_of_any uses l) false later
      (λ used. each_there z uses l (λ u named. is_there (look z.structures u) (fails_at (lacks_structure z) uses u live named)) used) (λ none. absurd cc)));
  writes = λ l e. contents_there z dst l to e;
}

tell_named : (z : Status) (what : Asked) (ids : List ℕ) (r : ByteRange) → Fail (lacks_structure z) ids → IsSome (look z.buffers r.buffer) → IsNamed z (TellProperty what ids r)
tell_named z what ids r live to = record { reads = λ l e. asked_there z ids l live e; writes = λ l e. bytes_there z r l to e }

property_named : (z : Status) (what : Asked) (ids : List ℕ) (dst : Spot) → Fail (lacks_structure z) ids → IsSome (look z.buffers dst.buffer) → IsNamed z (property_action what ids dst)
property_named z what ids dst live to = tell_named z what ids (range dst.buffer dst.offset (8 * length ids)) live to

-- ---- rays

-- the structures that a traced top may refer to
used_there : (rec : List Command) (z : Status) (found : Option Built) (u : ℕ) → first_stale rec z found ≡ None → has (option_map_or (uses_of rec) found []) u ≡ true
    → IsSome (look z.structures u)
used_there rec z None u fresh used = absurd cc
used_there rec z (Some b) u fresh used =
    let f = fresh_of b.stamp (look z.structures u) (fails_at (is_stale z b.stamp) (uses_of rec b) u (no_part (is_stale z b.stamp) (uses_of rec b) fresh) used) in
    built_of kinds.Bottom (look z.structures u) f.by f.built

rays_named : (rec : List Command) (z : Status) (top : ℕ) (rays hits : Spot) (count : ℕ) (flags : RayFlags) (mask : ℕ) (k : ℕ)
    → IsSome (look z.structures top) → IsSome (look z.buffers rays.buffer) → IsSome (look z.buffers hits.buffer) → first_stale rec z (built_at z top) ≡ None
    → IsNamed z (rays_action rec z top rays hits count flags mask k)
rays_named rec z top rays hits count flags mask k live from to fresh =
    let r = rays_range rays count k in
    let h = hits_range hits count k in
    let uses = uses_at rec z top in record {
      reads = λ l e.
          either (is_in_range r l) (cover (ContentsOf top ∷ (ContentsOfEach uses ∷ [])) l) e
          (λ here. bytes_there z r l from here)
          (λ rest. either (is_contents_of top l) (cover (ContentsOfEach uses ∷ []) l) rest
          (λ it. contents_there z top l live it)
          (λ later. either (is_contents_of_any uses l) false later
          (λ used. each_there z uses l (λ u named. used_there rec z (built_at z top) u fresh named) used) (λ none. absurd cc)));
      writes = λ l e. bytes_there z h l to e;
    }

-- ---- every device command

pub named : (rec : List Command) (z : Status) (c : Command) (s : Stage) (k : ℕ) (a : Action) → MayRun rec z c → stage_of c ≡ Some s
    → slice_get (actions_of rec z c) k ≡ Some a → IsNamed z a
unfolding actions_of stage_of kind_of v1 v21
named rec z (commands.Update buffer offset content) s k a may stage there =
    let keep = keeps rec z (commands.Update buffer offset content) may.rules in
    subst (IsNamed z) (one_item _ a k there).1
    (update_named z buffer offset (length content) content (is_there (look z.buffers buffer) (not_broken (lacks_buffer z buffer) keep.names)))
named rec z (commands.Fill buffer offset size value) s k a may stage there =
    let keep = keeps rec z (commands.Fill buffer offset size value) may.rules in
    subst (IsNamed z) (one_item _ a k there).1
    (fill_named z buffer offset size value (is_there (look z.buffers buffer) (not_broken (lacks_buffer z buffer) keep.names)))
named rec z (commands.Copy src dst regions) s k a may stage there =
    let keep = keeps rec z (commands.Copy src dst regions) may.rules in
    let live = not_broken (lacks_buffer z src || lacks_buffer z dst) keep.names in
    let r = made_of_item (region_action src dst) regions k a there in
    subst (IsNamed z) r.2
    (region_named z src dst r.0 (is_there (look z.buffers src) (no_first (lacks_buffer z src) (lacks_buffer z dst) live))
    (is_there (look z.buffers dst) (no_second (lacks_buffer z src) (lacks_buffer z dst) live)))
named rec z (commands.Build infos) s k a may stage there =
    infos_named rec z 0 infos k a (infos_allowed rec z infos (keeps rec z (commands.Build infos) may.rules) may.sources) there
named rec z (commands.CopyStructure mode src dst) s k a may stage there =
    let keep = keeps rec z (commands.CopyStructure mode src dst) may.rules in
    let live = not_broken (lacks_structure z src || lacks_structure z dst) keep.names in
    subst (IsNamed z) (one_item _ a k there).1
    (copy_named z mode src dst (is_there (look z.structures src) (no_first (lacks_structure z src) (lacks_structure z dst) live))
    (is_there (look z.structures dst) (no_second (lacks_structure z src) (lacks_structure z dst) live)))
named rec z (commands.Serialize src dst form) s k a may stage there =
    let keep = keeps rec z (commands.Serialize src dst form) may.rules in
    let live = not_broken (lacks_structure z src || lacks_buffer z dst.buffer) keep.names in
    subst (IsNamed z) (one_item _ a k there).1
    (serialize_named z src (stretch_range dst) form (is_there (look z.structures src) (no_first (lacks_structure z src) (lacks_buffer z dst.buffer) live))
    (is_there (look z.buffers dst.buffer) (no_second (lacks_structure z src) (lacks_buffer z dst.buffer) live)))
named rec z (commands.Deserialize src dst uses) s k a may stage there =
    let keep = keeps rec z (commands.Deserialize src dst uses) may.rules in
    let live = not_broken (lacks_buffer z src.buffer || (lacks_structure z dst || list_any (lacks_structure z) uses)) keep.names in
    let structures = no_second (lacks_buffer z src.buffer) (lacks_structure z dst || list_any (lacks_structure z) uses) live in
    subst (IsNamed z) (one_item _ a k there).1
    (deserialize_named z (stretch_range src) dst uses (is_there (look z.buffers src.buffer) (no_first (lacks_buffer z src.buffer) (lacks_structure z dst || list_any (lacks_structure z) uses) live))
    (is_there (look z.structures dst) (no_first (lacks_structure z dst) (list_any (lacks_structure z) uses) structures))
    (none_any (lacks_structure z) uses (no_second (lacks_structure z dst) (list_any (lacks_structure z) uses) structures)))
named rec z (commands.Property what structures dst) s k a may stage there =
    let keep = keeps rec z (commands.Property what structures dst) may.rules in
    let live = not_broken (list_any (lacks_structure z) structures || lacks_buffer z dst.buffer) keep.names in
    subst (IsNamed z) (one_item _ a k there).1
    (property_named z what structures dst (none_any (lacks_structure z) structures (no_first (list_any (lacks_structure z) structures) (lacks_buffer z dst.buffer) live))
    (is_there (look z.buffers dst.buffer) (no_second (list_any (lacks_structure z) structures) (lacks_buffer z dst.buffer) live)))
named rec z (commands.Trace top rays count hits flags mask script) s k a may stage there =
    let keep = keeps rec z (commands.Trace top rays count hits flags mask script) may.rules in
    let live = not_broken (lacks_structure z top || (lacks_buffer z rays.buffer || lacks_buffer z hits.buffer)) keep.names in
    let buffers = no_second (lacks_structure z top) (lacks_buffer z rays.buffer || lacks_buffer z hits.buffer) live in
    let r = made_of_number (rays_action rec z top rays hits count flags mask) 0 (trace_pieces count) k a there in
    subst (IsNamed z) r.1
    (rays_named rec z top rays hits count flags mask (0 + k)
    (is_there (look z.structures top) (no_first (lacks_structure z top) (lacks_buffer z rays.buffer || lacks_buffer z hits.buffer) live))
    (is_there (look z.buffers rays.buffer) (no_first (lacks_buffer z rays.buffer) (lacks_buffer z hits.buffer) buffers))
    (is_there (look z.buffers hits.buffer) (no_second (lacks_buffer z rays.buffer) (lacks_buffer z hits.buffer) buffers)) keep.fresh)
named rec z _ s k a may stage there = absurd cc
