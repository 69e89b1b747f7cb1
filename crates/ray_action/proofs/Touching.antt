-- An action touches what the rules say of its piece.
use Rattle.std.proofs.Common.{ℕ, zero, suc, ◌≡◌, ◌+◌, ◌*◌, ◌++◌, ◌∙◌, List, [], ◌∷◌, Option, Some, None, refl, ap, sym, subst, arith, length}
use Rattle.std.specs.Prelude.{Bool, true, false, ◌||◌, ◌==◌, map, slice_get}
use Rattle.std.proofs.lemmas.Bool.Decides.{nat_tests}
use Rattle.std.specs.List.{flat_map, range_with_len}
use Rattle.std.specs.Option.{option_to_list, option_map_or}
use Rattle.std.proofs.lemmas.List.Folds.{list_any-append}
use Rattle.ray_cmd.specs.declared.asked.Asked.{Asked}
use Rattle.ray_cmd.specs.declared.build_mode.BuildMode.{BuildMode}
use Rattle.ray_cmd.specs.declared.build_mode.BuildMode.TheVariants as modes
use Rattle.ray_cmd.specs.declared.copy_mode.CopyMode.{CopyMode}
use Rattle.ray_cmd.specs.declared.command.Command.{Command}
use Rattle.ray_cmd.specs.declared.command.Command.TheVariants as commands
use Rattle.ray_cmd.specs.declared.geometry.Geometry.{Geometry}
use Rattle.ray_cmd.specs.declared.info.Info.{Info}
use Rattle.ray_cmd.specs.declared.region.Region.{Region}
use Rattle.ray_cmd.specs.declared.spot.Spot.{Spot}
use Rattle.ray_flags.specs.declared.ray_flags.RayFlags.{RayFlags}
use Rattle.ray_cmd.specs.declared.stretch.Stretch.{Stretch}
use Rattle.ray_cmd.specs.declared.structure_kind.StructureKind.{StructureKind}
use Rattle.ray_cmd.specs.declared.structure_kind.StructureKind.TheVariants as kinds
use Rattle.ray_rules.specs.declared.access_type.AccessType.TheVariants.{ShaderRead, StructureRead}
use Rattle.ray_rules.specs.declared.byte_range.ByteRange.{ByteRange}
use Rattle.ray_rules.specs.declared.live_buffer.LiveBuffer.{LiveBuffer}
use Rattle.ray_rules.specs.declared.live_structure.LiveStructure.{LiveStructure}
use Rattle.ray_rules.specs.declared.reach.Reach.TheVariants as reaches
use Rattle.ray_rules.specs.declared.touch.Touch.{Touch}
use Rattle.ray_rules.specs.Access.{Accesses, no_access, stage_of, accesses_of, piece_accesses, region_accesses, info_accesses, input_reads, structure_reads, structure_copy_accesses, serialize_accesses, deserialize_accesses, property_accesses, write_accesses, ray_accesses, rays_of_piece, uses_at, at_bytes, at_scratch}
use Rattle.ray_rules.specs.Ids.{Ids, look}
use Rattle.ray_rules.specs.Ranges.{inputs_read, range, scratch_range}
use Rattle.ray_rules.specs.Status.{Status}
use Rattle.ray_rules.specs.Kinds.{kind_of}
use Rattle.ray_action.specs.Memory.{Location, ByteAt, BufferAt, StructureAt, ContentsAt}
use Rattle.ray_action.specs.Areas.{Area, Bytes, FormOf, ContentsOf, ContentsOfEach, covers, cover, has, is_in_range, is_contents_of}
use Rattle.ray_action.specs.Action.{Action, Building, geometry_areas, structure_areas, UpdateBytes, FillBytes, CopyStructure, SerializeStructure, DeserializeStructure, Impossible}
use Rattle.ray_action.specs.Storing.{writes}
use Rattle.ray_action.specs.Pieces.{actions_of, building, info_action, info_action_by, info_action_on, info_actions, region_action, bottom_action, top_action, top_action_of, property_action, stretch_range, rays_action, trace_pieces}
use Rattle.ray_action.specs.Touching.{is_reached, touched, holds_data, TouchesWithin, ActionsTouchWithin}

or_left : (a b : Bool) → a ≡ true → (a || b) ≡ true
or_left true b e = refl
or_left false b e = absurd cc

or_right : (a b : Bool) → b ≡ true → (a || b) ≡ true
or_right true b e = refl
or_right false b e = e

either : {X : Type 0} (a b : Bool) → (a || b) ≡ true → (a ≡ true → X) → (b ≡ true → X) → X
either true b e first second = first refl
either false b e first second = second e

-- ---- what is reached of several accesses

touched-front : (xs ys : List Touch) (l : Location) → touched xs l ≡ true → touched (xs ++ ys) l ≡ true
touched-front xs ys l e = list_any-append (λ (t : Touch). is_reached t.reach l) xs ys ∙ or_left (touched xs l) (touched ys l) e

touched-back : (xs ys : List Touch) (l : Location) → touched ys l ≡ true → touched (xs ++ ys) l ≡ true
touched-back xs ys l e = list_any-append (λ (t : Touch). is_reached t.reach l) xs ys ∙ or_right (touched xs l) (touched ys l) e

-- where areas cover, accesses reach
abbrev Within : List Area → List Touch → Type 0
Within areas touches = (l : Location) → holds_data l ≡ true → cover areas l ≡ true → touched touches l ≡ true

turned : (a b : ℕ) → (a == b) ≡ true → (b == a) ≡ true
turned a b e = grind (arith, nat_tests)

-- a structure that is read
structures-reached : (ids : List ℕ) (l : Location) → holds_data l ≡ true → covers (ContentsOfEach ids) l ≡ true → touched (structure_reads ids) l ≡ true
structures-reached [] (ByteAt buffer at) d e = absurd cc
structures-reached [] (BufferAt id) d e = absurd cc
structures-reached [] (StructureAt id) d e = absurd cc
structures-reached [] (ContentsAt id) d e = absurd cc
structures-reached (u ∷ ids) (ByteAt buffer at) d e = absurd cc
structures-reached (u ∷ ids) (BufferAt id) d e = absurd cc
structures-reached (u ∷ ids) (StructureAt id) d e = absurd cc
structures-reached (u ∷ ids) (ContentsAt id) d e =
    either (u == id) (has ids id) e
    (λ same. or_left (id == u) (touched (structure_reads ids) (ContentsAt id)) (turned u id same))
    (λ rest. or_right (id == u) (touched (structure_reads ids) (ContentsAt id)) (structures-reached ids (ContentsAt id) d rest))

asked-reached : (ids : List ℕ) → Within (flat_map structure_areas ids) (structure_reads ids)
asked-reached [] l d e = absurd cc
asked-reached (id ∷ ids) (BufferAt b) d e = absurd cc
asked-reached (id ∷ ids) (StructureAt b) d e = absurd cc
asked-reached (id ∷ ids) (ByteAt b at) d e =
    asked-reached ids (ByteAt b at) d e
asked-reached (id ∷ ids) (ContentsAt b) d e =
    either (b == id) (cover (flat_map structure_areas ids) (ContentsAt b)) e
    (λ same. or_left (b == id) (touched (structure_reads ids) (ContentsAt b)) same)
    (λ rest. or_right (b == id) (touched (structure_reads ids) (ContentsAt b)) (asked-reached ids (ContentsAt b) d rest))

-- the ranges of a geometry
ranges-reached : (ranges : List (Option ByteRange)) → Within (map Bytes (flat_map option_to_list ranges))
    (map (λ r. record { access = ShaderRead; reach = reaches.Bytes r }) (flat_map option_to_list ranges))
ranges-reached [] l d e = absurd cc
ranges-reached (None ∷ ranges) l d e = ranges-reached ranges l d e
ranges-reached (Some r ∷ ranges) l d e =
    let rest = map (λ s. record { access = ShaderRead; reach = reaches.Bytes s }) (flat_map option_to_list ranges) in
    either (is_in_range r l) (cover (map Bytes (flat_map option_to_list ranges)) l) e
    (λ here. or_left (is_in_range r l) (touched rest l) here)
    (λ later. or_right (is_in_range r l) (touched rest l) (ranges-reached ranges l d later))

geometry-reached : (buffers : Ids LiveBuffer) (g : Geometry) → Within (geometry_areas buffers g) (input_reads buffers g)
geometry-reached buffers g (BufferAt id) d e = absurd cc
geometry-reached buffers g (StructureAt id) d e = absurd cc
geometry-reached buffers g (ByteAt b at) d e = ranges-reached (inputs_read buffers g) (ByteAt b at) d e
geometry-reached buffers g (ContentsAt id) d e = ranges-reached (inputs_read buffers g) (ContentsAt id) d e

cover-split : {X : Type 0} (some others : List Area) (l : Location) → cover (some ++ others) l ≡ true
    → (cover some l ≡ true → X) → (cover others l ≡ true → X) → X
cover-split [] others l e first second = second e
cover-split (area ∷ some) others l e first second =
    either (covers area l) (cover (some ++ others) l) e
    (λ here. first (or_left (covers area l) (cover some l) here))
    (λ later. cover-split some others l later (λ h. first (or_right (covers area l) (cover some l) h)) second)

geometries-reached : (buffers : Ids LiveBuffer) (gs : List Geometry) → Within (flat_map (geometry_areas buffers) gs) (flat_map (input_reads buffers) gs)
geometries-reached buffers [] l d e = absurd cc
geometries-reached buffers (g ∷ gs) l d e =
    cover-split (geometry_areas buffers g) (flat_map (geometry_areas buffers) gs) l e
    (λ here. touched-front (input_reads buffers g) (flat_map (input_reads buffers) gs) l (geometry-reached buffers g l d here))
    (λ later. touched-back (input_reads buffers g) (flat_map (input_reads buffers) gs) l (geometries-reached buffers gs l d later))

-- a form is no data
no-form : {X : Type 0} (id : ℕ) (l : Location) → holds_data l ≡ true → covers (FormOf id) l ≡ true → X
no-form id (ByteAt b at) d e = absurd cc
no-form id (BufferAt b) d e = absurd cc
no-form id (StructureAt b) d e = absurd cc
no-form id (ContentsAt b) d e = absurd cc

-- ---- the parts of what an info reads

-- what an info reads: inputs, the structures in use, the source of an update, scratch memory
abbrev info_reads : Ids LiveBuffer → Info → List Touch
info_reads buffers info =
    flat_map (input_reads buffers) info.geometries
    ++ (structure_reads info.uses
    ++ (structure_reads (option_to_list info.src) ++ at_scratch StructureRead (scratch_range info) ∷ []))

inputs-part : (buffers : Ids LiveBuffer) (info : Info) (l : Location) → touched (flat_map (input_reads buffers) info.geometries) l ≡ true → touched (info_reads buffers info) l ≡ true
inputs-part buffers info l e =
    touched-front (flat_map (input_reads buffers) info.geometries)
    (structure_reads info.uses ++ (structure_reads (option_to_list info.src) ++ at_scratch StructureRead (scratch_range info) ∷ [])) l e

uses-part : (buffers : Ids LiveBuffer) (info : Info) (l : Location) → touched (structure_reads info.uses) l ≡ true → touched (info_reads buffers info) l ≡ true
uses-part buffers info l e =
    let source = structure_reads (option_to_list info.src) ++ at_scratch StructureRead (scratch_range info) ∷ [] in
    touched-back (flat_map (input_reads buffers) info.geometries) (structure_reads info.uses ++ source) l
    (touched-front (structure_reads info.uses) source l e)

source-part : (buffers : Ids LiveBuffer) (info : Info) (src : ℕ) (l : Location) → info.src ≡ Some src → covers (ContentsOf src) l ≡ true → touched (info_reads buffers info) l ≡ true
source-part buffers info src l is e =
    let scratch = at_scratch StructureRead (scratch_range info) ∷ [] in
    let source = structure_reads (option_to_list info.src) ++ scratch in
    let found : touched (structure_reads (option_to_list info.src)) l ≡ true =
    subst (λ o. touched (structure_reads (option_to_list o)) l ≡ true) (sym is) (or_left (is_contents_of src l) false e) in
    touched-back (flat_map (input_reads buffers) info.geometries) (structure_reads info.uses ++ source) l
    (touched-back (structure_reads info.uses) source l (touched-front (structure_reads (option_to_list info.src)) scratch l found))

-- ---- infos

-- what an info writes: its destination, and scratch memory
writes-within : (buffers : Ids LiveBuffer) (info : Info) (l : Location) → is_contents_of info.dst l ≡ true → touched (info_accesses buffers info).writes l ≡ true
writes-within buffers info l e = or_left (is_contents_of info.dst l) false e

impossible-within : (accesses : Accesses) → TouchesWithin Impossible accesses
impossible-within accesses = record { reads = λ l d e. absurd cc; writes = λ l e. absurd cc }

bottom-reads : (buffers : Ids LiveBuffer) (info : Info) (l : Location) → holds_data l ≡ true
    → cover (FormOf info.dst ∷ flat_map (geometry_areas buffers) info.geometries) l ≡ true → touched (info_reads buffers info) l ≡ true
bottom-reads buffers info l d e =
    either (covers (FormOf info.dst) l) (cover (flat_map (geometry_areas buffers) info.geometries) l) e
    (λ form. no-form info.dst l d form)
    (λ rest. inputs-part buffers info l (geometries-reached buffers info.geometries l d rest))

bottom-within : (build : Building) (info : Info) (mode : BuildMode) (src : Option ℕ) → build.dst ≡ info.dst → info.src ≡ src
    → TouchesWithin (bottom_action build info mode src) (info_accesses build.buffers info)
bottom-within build info modes.Build src dst is = record {
  reads = λ l d e. bottom-reads build.buffers info l d (subst (λ id. cover (FormOf id ∷ flat_map (geometry_areas build.buffers) info.geometries) l ≡ true) dst e);
  writes = λ l e. writes-within build.buffers info l (subst (λ id. is_contents_of id l ≡ true) dst e);
}
bottom-within build info modes.Update (Some src) dst is = record {
  reads = λ l d e.
      let geometries = flat_map (geometry_areas build.buffers) info.geometries in
      either (covers (FormOf build.dst) l) (cover (ContentsOf src ∷ geometries) l) e
      (λ form. no-form build.dst l d form)
      (λ rest. either (covers (ContentsOf src) l) (cover geometries l) rest
      (λ source. source-part build.buffers info src l is source)
      (λ inputs. inputs-part build.buffers info l (geometries-reached build.buffers info.geometries l d inputs)));
  writes = λ l e. writes-within build.buffers info l (subst (λ id. is_contents_of id l ≡ true) dst e);
}
bottom-within build info modes.Update None dst is = impossible-within (info_accesses build.buffers info)

-- the inputs of the one geometry of a top structure
instances-part : (buffers : Ids LiveBuffer) (info : Info) (instances : Geometry) (l : Location) → info.geometries ≡ instances ∷ [] → holds_data l ≡ true
    → cover (geometry_areas buffers instances) l ≡ true → touched (info_reads buffers info) l ≡ true
instances-part buffers info instances l is d e =
    let found : touched (input_reads buffers instances ++ []) l ≡ true = touched-front (input_reads buffers instances) [] l (geometry-reached buffers instances l d e) in
    inputs-part buffers info l (subst (λ gs. touched (flat_map (input_reads buffers) gs) l ≡ true) (sym is) found)

top-of-within : (build : Building) (info : Info) (instances : Geometry) (mode : BuildMode) (src : Option ℕ) → build.dst ≡ info.dst → info.geometries ≡ instances ∷ [] → info.src ≡ src
    → TouchesWithin (top_action_of build info instances mode src) (info_accesses build.buffers info)
top-of-within build info instances modes.Build src dst gs is = record {
  reads = λ l d e.
      let inputs = geometry_areas build.buffers instances in
      either (covers (FormOf build.dst) l) (cover (ContentsOfEach info.uses ∷ inputs) l) e
      (λ form. no-form build.dst l d form)
      (λ rest. either (covers (ContentsOfEach info.uses) l) (cover inputs l) rest
      (λ uses. uses-part build.buffers info l (structures-reached info.uses l d uses))
      (λ here. instances-part build.buffers info instances l gs d here));
  writes = λ l e. writes-within build.buffers info l (subst (λ id. is_contents_of id l ≡ true) dst e);
}
top-of-within build info instances modes.Update (Some src) dst gs is = record {
  reads = λ l d e.
      let inputs = geometry_areas build.buffers instances in
      either (covers (FormOf build.dst) l) (cover (ContentsOf src ∷ (ContentsOfEach info.uses ∷ inputs)) l) e
      (λ form. no-form build.dst l d form)
      (λ rest. either (covers (ContentsOf src) l) (cover (ContentsOfEach info.uses ∷ inputs) l) rest
      (λ source. source-part build.buffers info src l is source)
      (λ later. either (covers (ContentsOfEach info.uses) l) (cover inputs l) later
      (λ uses. uses-part build.buffers info l (structures-reached info.uses l d uses))
      (λ here. instances-part build.buffers info instances l gs d here)));
  writes = λ l e. writes-within build.buffers info l (subst (λ id. is_contents_of id l ≡ true) dst e);
}
top-of-within build info instances modes.Update None dst gs is = impossible-within (info_accesses build.buffers info)

top-within : (build : Building) (info : Info) (gs : List Geometry) → build.dst ≡ info.dst → info.geometries ≡ gs → TouchesWithin (top_action build info gs) (info_accesses build.buffers info)
top-within build info [] dst is = impossible-within (info_accesses build.buffers info)
top-within build info (instances ∷ []) dst is = top-of-within build info instances info.mode info.src dst is refl
top-within build info (g ∷ (h ∷ gs)) dst is = impossible-within (info_accesses build.buffers info)

kind-within : (build : Building) (info : Info) (kind : StructureKind) → build.dst ≡ info.dst → TouchesWithin (info_action_by build info kind) (info_accesses build.buffers info)
kind-within build info kinds.Bottom dst = bottom-within build info info.mode info.src dst refl
kind-within build info kinds.Top dst = top-within build info info.geometries dst refl

found-within : (build : Building) (info : Info) (found : Option LiveStructure) → build.dst ≡ info.dst → TouchesWithin (info_action_on build info found) (info_accesses build.buffers info)
found-within build info None dst = impossible-within (info_accesses build.buffers info)
found-within build info (Some s) dst = kind-within build info s.kind dst

infos-within : (z : Status) (j : ℕ) (infos : List Info) (k : ℕ) (action : Action) → slice_get (info_actions z j infos) k ≡ Some action
    → TouchesWithin action (option_map_or (info_accesses z.buffers) (slice_get infos k) no_access)
infos-within z j [] k action e = absurd cc
infos-within z j (info ∷ infos) zero action e =
    let same : info_action z j info ≡ action = cc in
    subst (λ a. TouchesWithin a (info_accesses z.buffers info)) same (found-within (building z j info) info (look z.structures info.dst) refl)
infos-within z j (info ∷ infos) (suc k) action e = infos-within z (j + 1) infos k action e

-- ---- regions, rays

regions-within : (src dst : ℕ) (regions : List Region) (k : ℕ) (action : Action) → slice_get (map (region_action src dst) regions) k ≡ Some action
    → TouchesWithin action (option_map_or (region_accesses src dst) (slice_get regions k) no_access)
regions-within src dst [] k action e = absurd cc
regions-within src dst (region ∷ regions) zero action e =
    let same : region_action src dst region ≡ action = cc in
    subst (λ a. TouchesWithin a (region_accesses src dst region)) same (record { reads = λ l d h. h; writes = λ l h. or_left (writes (region_action src dst region) l) false h })
regions-within src dst (region ∷ regions) (suc k) action e = regions-within src dst regions k action e

-- item k of what is made of the numbers from n on is made of n + k
made-of : {X : Type 0} (f : ℕ → X) (n m k : ℕ) (x : X) → slice_get (map f (range_with_len n m)) k ≡ Some x → f (n + k) ≡ x
made-of f n zero k x e = absurd cc
made-of f n (suc m) zero x e = let same : f n ≡ x = cc in let plain : n + 0 ≡ n = omega arith in ap f plain ∙ same
made-of f n (suc m) (suc k) x e = let plain : n + suc k ≡ (n + 1) + k = omega arith in ap f plain ∙ made-of f (n + 1) m k x e

-- the one action of a command
one-of : {X : Type 0} (x y : X) (k : ℕ) → slice_get (x ∷ []) k ≡ Some y → x ≡ y
one-of x y zero e = cc
one-of x y (suc k) e = absurd cc

copy-within : (mode : CopyMode) (src dst : ℕ) → TouchesWithin (CopyStructure mode src dst) (structure_copy_accesses src dst)
copy-within mode src dst = record {
  reads = λ l d e.
      either (covers (ContentsOf src) l) (cover (FormOf dst ∷ []) l) e
      (λ source. or_left (is_contents_of src l) false source)
      (λ rest. either (covers (FormOf dst) l) false rest (λ form. no-form dst l d form) (λ none. absurd cc));
  writes = λ l e. or_left (is_contents_of dst l) false e;
}

serialize-within : (src : ℕ) (dst : Stretch) (form : Option ℕ) → TouchesWithin (SerializeStructure src (stretch_range dst) form) (serialize_accesses src dst)
serialize-within src dst form = record {
  reads = λ l d e.
      either (covers (ContentsOf src) l) false e
      (λ source. or_left (is_contents_of src l) false source)
      (λ none. absurd cc);
  writes = λ l e. or_left (is_in_range (stretch_range dst) l) false e;
}

deserialize-within : (src : Stretch) (dst : ℕ) (uses : List ℕ) → TouchesWithin (DeserializeStructure (stretch_range src) dst uses) (deserialize_accesses src dst uses)
deserialize-within src dst uses = record {
  reads = λ l d e.
      let here : Bool = is_in_range (stretch_range src) l in
      either here (cover (FormOf dst ∷ (ContentsOfEach uses ∷ [])) l) e
      (λ bytes. or_left here (touched (structure_reads uses) l) bytes)
      (λ rest. either (covers (FormOf dst) l) (cover (ContentsOfEach uses ∷ []) l) rest
      (λ form. no-form dst l d form)
      (λ later. either (covers (ContentsOfEach uses) l) false later
      (λ used. or_right here (touched (structure_reads uses) l) (structures-reached uses l d used))
      (λ none. absurd cc)));
  writes = λ l e. or_left (is_contents_of dst l) false e;
}

property-within : (what : Asked) (structures : List ℕ) (dst : Spot) → TouchesWithin (property_action what structures dst) (property_accesses structures dst)
property-within what structures dst = record {
  reads = λ l d e. asked-reached structures l d e;
  writes = λ l e. or_left (is_in_range (range dst.buffer dst.offset (8 * length structures)) l) false e;
}

rays-within : (rec : List Command) (z : Status) (top : ℕ) (rays hits : Spot) (count : ℕ) (flags : RayFlags) (mask : ℕ) (k : ℕ)
    → TouchesWithin (rays_action rec z top rays hits count flags mask k) (ray_accesses rec z top rays hits (64 * k) (rays_of_piece count k))
rays-within rec z top rays hits count flags mask k =
    let at = range rays.buffer (rays.offset + 40 * (64 * k)) (40 * rays_of_piece count k) in
    let uses = uses_at rec z top in
    let bytes = at_bytes ShaderRead at.buffer at.from at.size ∷ [] in
    record {
      reads = λ l d e.
          either (is_in_range at l) (cover (ContentsOf top ∷ (ContentsOfEach uses ∷ [])) l) e
          (λ here. or_right (is_contents_of top l) (touched (structure_reads uses ++ bytes) l)
          (touched-back (structure_reads uses) bytes l (or_left (is_in_range at l) false here)))
          (λ rest. either (is_contents_of top l) (cover (ContentsOfEach uses ∷ []) l) rest
          (λ structure. or_left (is_contents_of top l) (touched (structure_reads uses ++ bytes) l) structure)
          (λ later. either (covers (ContentsOfEach uses) l) false later
          (λ used. or_right (is_contents_of top l) (touched (structure_reads uses ++ bytes) l)
          (touched-front (structure_reads uses) bytes l (structures-reached uses l d used)))
          (λ none. absurd cc)));
      writes = λ l e. or_left (is_in_range (range hits.buffer (hits.offset + 80 * (64 * k)) (80 * rays_of_piece count k)) l) false e;
    }

-- ---- every command

pub touch_within : ActionsTouchWithin
unfolding actions_of piece_accesses accesses_of stage_of kind_of
touch_within rec z (commands.Buffer id size usage content) stage k action s e = absurd cc
touch_within rec z (commands.Structure id kind buffer offset size) stage k action s e = absurd cc
touch_within rec z (commands.Destroy what id) stage k action s e = absurd cc
touch_within rec z (commands.Sizes kind counts) stage k action s e = absurd cc
touch_within rec z commands.Begin stage k action s e = absurd cc
touch_within rec z commands.End stage k action s e = absurd cc
touch_within rec z commands.Submit stage k action s e = absurd cc
touch_within rec z commands.Wait stage k action s e = absurd cc
touch_within rec z (commands.Read buffer offset size form) stage k action s e = absurd cc
touch_within rec z (commands.Update buffer offset content) stage k action s e =
    let r = range buffer offset (length content) in
    subst (λ a. TouchesWithin a (write_accesses buffer offset (length content))) (one-of (UpdateBytes r content) action k e)
    (record { reads = λ l d h. absurd cc; writes = λ l h. or_left (is_in_range r l) false h })
touch_within rec z (commands.Fill buffer offset size value) stage k action s e =
    let r = range buffer offset size in
    subst (λ a. TouchesWithin a (write_accesses buffer offset size)) (one-of (FillBytes r value) action k e)
    (record { reads = λ l d h. absurd cc; writes = λ l h. or_left (is_in_range r l) false h })
touch_within rec z (commands.Copy src dst regions) stage k action s e = regions-within src dst regions k action e
touch_within rec z (commands.Build infos) stage k action s e = infos-within z 0 infos k action e
touch_within rec z (commands.CopyStructure mode src dst) stage k action s e =
    subst (λ a. TouchesWithin a (structure_copy_accesses src dst)) (one-of (CopyStructure mode src dst) action k e) (copy-within mode src dst)
touch_within rec z (commands.Serialize src dst form) stage k action s e =
    subst (λ a. TouchesWithin a (serialize_accesses src dst)) (one-of (SerializeStructure src (stretch_range dst) form) action k e) (serialize-within src dst form)
touch_within rec z (commands.Deserialize src dst uses) stage k action s e =
    subst (λ a. TouchesWithin a (deserialize_accesses src dst uses)) (one-of (DeserializeStructure (stretch_range src) dst uses) action k e) (deserialize-within src dst uses)
touch_within rec z (commands.Property what structures dst) stage k action s e =
    subst (λ a. TouchesWithin a (property_accesses structures dst)) (one-of (property_action what structures dst) action k e) (property-within what structures dst)
touch_within rec z (commands.Barrier src_stages src_access dst_stages dst_access buffers) stage k action s e = absurd cc
touch_within rec z (commands.Trace top rays count hits flags mask script) stage k action s e =
    let same : rays_action rec z top rays hits count flags mask (0 + k) ≡ action =
    made-of (rays_action rec z top rays hits count flags mask) 0 (trace_pieces count) k action e in
    let plain : 0 + k ≡ k = omega arith in
    subst (λ a. TouchesWithin a (ray_accesses rec z top rays hits (64 * k) (rays_of_piece count k)))
    (ap (rays_action rec z top rays hits count flags mask) (sym plain) ∙ same) (rays-within rec z top rays hits count flags mask k)
