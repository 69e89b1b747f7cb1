-- What the rules say of the infos of a build.
use Rattle.std.proofs.Common.{◌≡◌, ◌+◌, ◌≤◌, ℕ, suc, Bool, true, false, List, [], ◌∷◌, Option, Some, None, IsSome, refl, sym, ◌∙◌, ap, subst, arith, length}
use Rattle.std.proofs.lemmas.Bool.Decides.{nat_tests}
use Rattle.std.specs.Prelude.{◌||◌, ◌&&◌, ◌==◌, not, nat_lt}
use Rattle.std.specs.List.{list_all, list_any, zip}
use Rattle.std.specs.Option.{option_map_or, option_and_then, option_or}
use Rattle.ray_cmd.specs.Infos.{source_fits}
use Rattle.ray_cmd.specs.declared.build_mode.BuildMode.{BuildMode}
use Rattle.ray_cmd.specs.declared.build_mode.BuildMode.TheVariants as modes
use Rattle.ray_cmd.specs.declared.command.Command.{Command}
use Rattle.ray_cmd.specs.declared.command.Command.TheVariants as commands
use Rattle.ray_cmd.specs.declared.geometry.Geometry.{Geometry}
use Rattle.ray_cmd.specs.declared.geometry.Geometry.TheVariants as geometries
use Rattle.ray_cmd.specs.declared.info.Info.{Info}
use Rattle.ray_cmd.specs.declared.place.Place.{Place}
use Rattle.ray_cmd.specs.declared.structure_kind.StructureKind.{StructureKind}
use Rattle.ray_cmd.specs.declared.structure_kind.StructureKind.TheVariants as kinds
use Rattle.ray_rules.specs.declared.built.Built.{Built}
use Rattle.ray_rules.specs.declared.live_structure.LiveStructure.{LiveStructure}
use Rattle.ray_flags.specs.Flags.{Scratch}
use Rattle.ray_rules.specs.Buffers.{lacks_info_usage, lacks_input_usage, lacks_usage, v3}
use Rattle.ray_rules.specs.Ids.{look}
use Rattle.ray_rules.specs.Names.{lacks_buffer, lacks_input, lacks_named, lacks_source, lacks_structure, v1}
use Rattle.ray_rules.specs.Origins.{info_of, is_deserialized}
use Rattle.ray_rules.specs.Places.{first_part, part_at}
use Rattle.ray_rules.specs.Ranges.{count_of, primitives}
use Rattle.ray_rules.specs.Shapes.{are_of_bottom, are_of_top, are_too_many, is_instances, is_misshapen, is_too_large, is_wrong_info, prefers_both, updates_wrongly, uses_wrongly, v7, v8, v9, v10}
use Rattle.ray_rules.specs.Sources.{are_same_geometries, differs_from, differs_from_source, info_at, is_no_source, is_same_geometry, is_same_pair, is_unbuilt, lacks_built_source, uses_unbuilt, v13, v15, v17}
use Rattle.ray_rules.specs.Spans.{info_reaches_out, input_reaches_out, v4}
use Rattle.ray_rules.specs.Status.{Status, built_at}
use Rattle.ray_rules.specs.Structures.{differ_in_kind, is_bottom_at, is_top_at}
use Rattle.ray_action.specs.Areas.{has}
use Rattle.ray_action.specs.Pieces.{bottom_action, building, info_action, info_action_by, info_action_on, top_action, top_action_of}
use Rattle.ray_cmd.specs.Sources.{has_its_source}
use Rattle.ray_ready.proofs.Ties.{IsBuilt}
use Rattle.ray_ready.proofs.Allowed.{AreReadable, IsAllowed, IsBuiltOf, IsLiveOf, MayBuildBottom, MayBuildTop}
use Rattle.ray_rules.proofs.Kept.{Fail, neither_first, neither_second, no_part, none_any}
use Rattle.ray_ready.proofs.Kept.{Keeps, both_first, both_second, bottom_of, built_of, fails_at, is_so, is_there, not_second, readable, says_bottom, says_top, top_of}
use Rattle.ray_ready.proofs.Infos.{AreAllowedFrom}

-- all that the rules say of one info
pub record InfoKeeps (rec : List Command) (z : Status) (info : Info) : Type 0 where
  pub names : lacks_named z info ≡ false
  pub usages : lacks_info_usage z info ≡ false
  pub spans : info_reaches_out z info ≡ false
  pub kinds : is_wrong_info z info ≡ false
  pub shapes : is_misshapen z info ≡ false
  pub fast : prefers_both info ≡ false
  pub counts : is_too_large z info ≡ false
  pub sources : lacks_built_source rec z info ≡ false
  pub updates : differs_from_source rec z info ≡ false
  pub built : uses_unbuilt z info ≡ false
  pub fits : has_its_source info ≡ true

-- ---- names

dst_named : (z : Status) (info : Info) → lacks_named z info ≡ false → IsSome (look z.structures info.dst)
dst_named z info e =
    is_there (look z.structures info.dst)
    (neither_first (lacks_structure z info.dst) (lacks_source z info.src || (list_any (lacks_input z) info.geometries || list_any (lacks_structure z) info.uses))
    (neither_second (lacks_buffer z info.scratch.buffer) _ e))

named_later : (z : Status) (info : Info) → lacks_named z info ≡ false
    → (lacks_source z info.src || (list_any (lacks_input z) info.geometries || list_any (lacks_structure z) info.uses)) ≡ false
named_later z info e =
    neither_second (lacks_structure z info.dst) (lacks_source z info.src || (list_any (lacks_input z) info.geometries || list_any (lacks_structure z) info.uses))
    (neither_second (lacks_buffer z info.scratch.buffer) (lacks_structure z info.dst || (lacks_source z info.src || (list_any (lacks_input z) info.geometries || list_any (lacks_structure z) info.uses))) e)

source_named : (z : Status) (info : Info) → lacks_named z info ≡ false → lacks_source z info.src ≡ false
source_named z info e = neither_first (lacks_source z info.src) (list_any (lacks_input z) info.geometries || list_any (lacks_structure z) info.uses) (named_later z info e)

inputs_named : (z : Status) (info : Info) → lacks_named z info ≡ false → Fail (lacks_input z) info.geometries
inputs_named z info e =
    none_any (lacks_input z) info.geometries
    (neither_first (list_any (lacks_input z) info.geometries) (list_any (lacks_structure z) info.uses)
    (neither_second (lacks_source z info.src) (list_any (lacks_input z) info.geometries || list_any (lacks_structure z) info.uses) (named_later z info e)))

uses_named : (z : Status) (info : Info) → lacks_named z info ≡ false → Fail (lacks_structure z) info.uses
uses_named z info e =
    none_any (lacks_structure z) info.uses
    (neither_second (list_any (lacks_input z) info.geometries) (list_any (lacks_structure z) info.uses)
    (neither_second (lacks_source z info.src) (list_any (lacks_input z) info.geometries || list_any (lacks_structure z) info.uses) (named_later z info e)))

inputs_readable : (rec : List Command) (z : Status) (info : Info) → InfoKeeps rec z info → AreReadable z.buffers info.geometries
inputs_readable rec z info k =
    readable z info.geometries (inputs_named z info k.names) (none_any (input_reaches_out z) info.geometries k.spans)
    (none_any (lacks_input_usage z) info.geometries (neither_second (lacks_usage z Scratch info.scratch.buffer) (list_any (lacks_input_usage z) info.geometries) k.usages))

-- ---- the limits

not_more : (most n : ℕ) → nat_lt most n ≡ false → n ≤ most
not_more most n e = grind (arith, nat_tests, e)

-- ---- sources

bottom_source : (rec : List Command) (z : Status) (dst src : ℕ) → IsLiveOf kinds.Bottom (look z.structures dst) → lacks_structure z src ≡ false
    → differ_in_kind z src dst ≡ false → is_no_source rec (built_at z src) ≡ false → IsBuiltOf kinds.Bottom (look z.structures src)
bottom_source rec z dst src live named kind source =
    let no_top : is_top_at z src ≡ false = flipped (is_top_at z src) (is_bottom_at z dst) (says_bottom (look z.structures dst) live).0
    (neither_second (is_bottom_at z src && is_top_at z dst) (is_top_at z src && is_bottom_at z dst) kind) in
    built_of kinds.Bottom (look z.structures src) (bottom_of (look z.structures src) (is_there (look z.structures src) named) no_top)
    (has_source (built_at z src) source)
  where
    flipped : (a b : Bool) → b ≡ true → (a && b) ≡ false → a ≡ false
    flipped true b is e = absurd cc
    flipped false b is e = refl

    has_source : (o : Option Built) → is_no_source rec o ≡ false → IsSome o
    has_source None e = absurd cc
    has_source (Some b) e = refl

top_source : (rec : List Command) (z : Status) (dst src : ℕ) → IsLiveOf kinds.Top (look z.structures dst) → lacks_structure z src ≡ false
    → differ_in_kind z src dst ≡ false → is_no_source rec (built_at z src) ≡ false → IsBuiltOf kinds.Top (look z.structures src)
top_source rec z dst src live named kind source =
    let no_bottom : is_bottom_at z src ≡ false = flipped (is_bottom_at z src) (is_top_at z dst) (says_top (look z.structures dst) live).0
    (neither_first (is_bottom_at z src && is_top_at z dst) (is_top_at z src && is_bottom_at z dst) kind) in
    built_of kinds.Top (look z.structures src) (top_of (look z.structures src) (is_there (look z.structures src) named) no_bottom)
    (has_source (built_at z src) source)
  where
    flipped : (a b : Bool) → b ≡ true → (a && b) ≡ false → a ≡ false
    flipped true b is e = absurd cc
    flipped false b is e = refl

    has_source : (o : Option Built) → is_no_source rec o ≡ false → IsSome o
    has_source None e = absurd cc
    has_source (Some b) e = refl

-- instances that agree in what an update may not change are as many
as_many : (g h : Geometry) → is_instances g ≡ true → is_same_geometry g h ≡ true → count_of g ≡ count_of h
unfolding is_same_geometry
as_many (geometries.Instances content count offset) (geometries.Instances content2 count2 offset2) is e = grind (arith, nat_tests, e)
as_many (geometries.Instances content count offset) (geometries.Triangles opaque format vertex stride max_vertex index transform number primitive_offset first_vertex transform_offset) is e = absurd cc
as_many (geometries.Instances content count offset) (geometries.Boxes opaque content2 stride number primitive_offset) is e = absurd cc
as_many (geometries.Triangles opaque format vertex stride max_vertex index transform number primitive_offset first_vertex transform_offset) h is e = absurd cc
as_many (geometries.Boxes opaque content stride number primitive_offset) h is e = absurd cc

same_one : (g : Geometry) (hs : List Geometry) → is_instances g ≡ true → are_same_geometries (g ∷ []) hs ≡ true → count_of g ≡ primitives hs
same_one g [] is e = absurd cc
same_one g (h ∷ []) is e =
    let agree : is_same_geometry g h ≡ true = both_first (is_same_geometry g h) true e in
    as_many g h is agree ∙ omega arith
same_one g (h ∷ (x ∷ hs)) is e =
    let alike : (length (g ∷ []) == length (h ∷ (x ∷ hs))) ≡ true =
    both_first (length (g ∷ []) == length (h ∷ (x ∷ hs))) (list_all is_same_pair (zip (g ∷ []) (h ∷ (x ∷ hs)))) e in
    absurd (too_long (length hs) alike)
  where
    too_long : (n : ℕ) → (1 == suc (suc n)) ≡ true → ⊥
    too_long n alike = let one : 1 ≡ suc (suc n) = grind (arith, nat_tests, alike) in absurd (omega (arith, one))

no_difference : (flags same : Bool) → not (flags && same) ≡ false → same ≡ true
no_difference flags same e = both_second flags same (is_so (flags && same) e)

updates_same : (rec : List Command) (z : Status) (info by_info : Info) (src : ℕ) (by : Built) (g : Geometry) → info.geometries ≡ g ∷ [] → is_instances g ≡ true
    → built_at z src ≡ Some by → info_of rec by ≡ Some by_info → option_map_or (differs_from info) (info_at rec z src) false ≡ false
    → count_of g ≡ primitives by_info.geometries
updates_same rec z info by_info src by g gs is built found e =
    let at : info_at rec z src ≡ Some by_info = ap (option_and_then (info_of rec)) built ∙ found in
    let none : differs_from info by_info ≡ false = sym (ap (λ o. option_map_or (differs_from info) o false) at) ∙ e in
    let same : are_same_geometries info.geometries by_info.geometries ≡ true =
    no_difference (info.flags.0 == by_info.flags.0) (are_same_geometries info.geometries by_info.geometries) none in
    same_one g by_info.geometries is (sym (ap (λ hs. are_same_geometries hs by_info.geometries) gs) ∙ same)

-- ---- a bottom

bottom_may : (rec : List Command) (z : Status) (k : ℕ) (info : Info) → IsLiveOf kinds.Bottom (look z.structures info.dst) → InfoKeeps rec z info
    → MayBuildBottom z (building z k info) info.geometries
bottom_may rec z k info live keeps =
    let says = says_bottom (look z.structures info.dst) live in
    let shape : are_of_bottom info.geometries ≡ true =
    is_so (are_of_bottom info.geometries) (not_second (is_bottom_at z info.dst) (not (are_of_bottom info.geometries)) says.0
    (neither_second (is_top_at z info.dst && not (are_of_top info.geometries)) (is_bottom_at z info.dst && not (are_of_bottom info.geometries)) keeps.shapes)) in
    let many : are_too_many (is_top_at z info.dst) (length info.geometries) (primitives info.geometries) ≡ false =
    neither_first (are_too_many (is_top_at z info.dst) (length info.geometries) (primitives info.geometries)) (nat_lt 4096 (length info.uses)) keeps.counts in
    let few : are_too_many false (length info.geometries) (primitives info.geometries) ≡ false =
    sym (ap (λ b. are_too_many b (length info.geometries) (primitives info.geometries)) says.1) ∙ many in record {
      dst = live;
      buffers = refl;
      limits = record {
        one_kind = shape;
        few = not_more 256 (length info.geometries) (neither_first (nat_lt 256 (length info.geometries)) (nat_lt 1048576 (primitives info.geometries)) few);
        few_primitives = not_more 1048576 (primitives info.geometries) (neither_second (nat_lt 256 (length info.geometries)) (nat_lt 1048576 (primitives info.geometries)) few);
      };
      readable = inputs_readable rec z info keeps;
    }

bottom_by : (rec : List Command) (z : Status) (k : ℕ) (info : Info) (mode : BuildMode) (src : Option ℕ) → IsLiveOf kinds.Bottom (look z.structures info.dst)
    → InfoKeeps rec z info → source_fits mode src ≡ true → lacks_source z src ≡ false → updates_wrongly z info.dst src ≡ false
    → option_map_or (λ id. is_no_source rec (built_at z id)) src false ≡ false
    → IsAllowed rec z (bottom_action (building z k info) info mode src)
bottom_by rec z k info modes.Build src live keeps fits named kind source = (bottom_may rec z k info live keeps, keeps.fast)
bottom_by rec z k info modes.Update None live keeps fits named kind source = absurd cc
bottom_by rec z k info modes.Update (Some src) live keeps fits named kind source =
    (bottom_source rec z info.dst src live named kind source, bottom_may rec z k info live keeps)

-- ---- a top

uses_built : (rec : List Command) (z : Status) (info : Info) → InfoKeeps rec z info → (u : ℕ) → has info.uses u ≡ true → IsBuiltOf kinds.Bottom (look z.structures u)
uses_built rec z info keeps u named =
    let wrong : uses_wrongly z info.dst info.uses ≡ false = neither_first (uses_wrongly z info.dst info.uses) (updates_wrongly z info.dst info.src) keeps.kinds in
    let kind = none_any (is_top_at z) info.uses (neither_first (list_any (is_top_at z) info.uses) (is_bottom_at z info.dst && not (length info.uses == 0)) wrong) in
    let built = none_any (is_unbuilt z) info.uses keeps.built in
    built_of kinds.Bottom (look z.structures u)
    (bottom_of (look z.structures u) (is_there (look z.structures u) (fails_at (lacks_structure z) info.uses u (uses_named z info keeps.names) named))
    (fails_at (is_top_at z) info.uses u kind named))
    (is_there (built_at z u) (fails_at (is_unbuilt z) info.uses u built named))

top_may : (rec : List Command) (z : Status) (k : ℕ) (info : Info) (g : Geometry) → info.geometries ≡ g ∷ [] → is_instances g ≡ true
    → IsLiveOf kinds.Top (look z.structures info.dst) → InfoKeeps rec z info → MayBuildTop rec z (building z k info) info.uses g
top_may rec z k info g gs is live keeps =
    let says = says_top (look z.structures info.dst) live in
    let many : are_too_many (is_top_at z info.dst) (length info.geometries) (primitives info.geometries) ≡ false =
    neither_first (are_too_many (is_top_at z info.dst) (length info.geometries) (primitives info.geometries)) (nat_lt 4096 (length info.uses)) keeps.counts in
    let few : are_too_many true (length info.geometries) (primitives info.geometries) ≡ false =
    sym (ap (λ b. are_too_many b (length info.geometries) (primitives info.geometries)) says.0) ∙ many in
    let total : primitives info.geometries ≤ 65536 =
    not_more 65536 (primitives info.geometries) (neither_second (nat_lt 256 (length info.geometries)) (nat_lt 65536 (primitives info.geometries)) few) in
    let one : primitives info.geometries ≡ count_of g = ap primitives gs ∙ omega arith in record {
      dst = live;
      buffers = refl;
      limits = record { kind = is; few = subst (λ n. n ≤ 65536) one total };
      are_built = uses_built rec z info keeps;
      readable = (subst (AreReadable z.buffers) gs (inputs_readable rec z info keeps)).0;
    }

built_is : (z : Status) (src : ℕ) (b : Built) → IsBuilt (look z.structures src) kinds.Top b → built_at z src ≡ Some b
built_is z src b is = ap (option_and_then (λ (s : LiveStructure). s.built)) is.is_it ∙ is.built

not_deserialized : (rec : List Command) (b : Built) (o : Option Built) → o ≡ Some b → is_no_source rec o ≡ false → is_deserialized rec b ≡ false
not_deserialized rec b None is e = absurd cc
not_deserialized rec b (Some p) is e = let same : p ≡ b = cc in subst (λ q. is_deserialized rec q ≡ false) same e

top_by : (rec : List Command) (z : Status) (k : ℕ) (info : Info) (g : Geometry) (mode : BuildMode) (src : Option ℕ) → info.geometries ≡ g ∷ [] → is_instances g ≡ true
    → IsLiveOf kinds.Top (look z.structures info.dst)
    → InfoKeeps rec z info → source_fits mode src ≡ true → lacks_source z src ≡ false → updates_wrongly z info.dst src ≡ false
    → option_map_or (λ id. is_no_source rec (built_at z id)) src false ≡ false → option_map_or (differs_from info) (option_and_then (info_at rec z) src) false ≡ false
    → IsAllowed rec z (top_action_of (building z k info) info g mode src)
top_by rec z k info g modes.Build src gs is live keeps fits named kind source same = (top_may rec z k info g gs is live keeps, keeps.fast)
top_by rec z k info g modes.Update None gs is live keeps fits named kind source same = absurd cc
top_by rec z k info g modes.Update (Some src) gs is live keeps fits named kind source same =
    let built = top_source rec z info.dst src live named kind source in (
      record {
        by = built.by;
        built = built.built;
        own = not_deserialized rec built.by (built_at z src) (built_is z src built.by built.built) source;
        as_many = λ by_info found.
            updates_same rec z info by_info src built.by g gs is (built_is z src built.by built.built) found same;
      },
      top_may rec z k info g gs is live keeps,
    )

not_of_none : are_of_top [] ≡ true → ⊥
not_of_none e = absurd cc

not_of_two : (g h : Geometry) (gs : List Geometry) → are_of_top (g ∷ (h ∷ gs)) ≡ true → ⊥
not_of_two g h gs e =
    too_long (length gs) (both_first (length (g ∷ (h ∷ gs)) == 1) (list_all is_instances (g ∷ (h ∷ gs))) e)
  where
    too_long : (n : ℕ) → (suc (suc n) == 1) ≡ true → ⊥
    too_long n alike = let one : suc (suc n) ≡ 1 = grind (arith, nat_tests, alike) in absurd (omega (arith, one))

tops_by : (rec : List Command) (z : Status) (k : ℕ) (info : Info) (gs : List Geometry) → info.geometries ≡ gs → are_of_top gs ≡ true
    → IsLiveOf kinds.Top (look z.structures info.dst) → InfoKeeps rec z info → IsAllowed rec z (top_action (building z k info) info gs)
tops_by rec z k info [] same shape live keeps = absurd (not_of_none shape)
tops_by rec z k info (g ∷ []) same shape live keeps =
    top_by rec z k info g info.mode info.src same (both_first (is_instances g) true shape) live keeps keeps.fits (source_named z info keeps.names)
    (neither_second (uses_wrongly z info.dst info.uses) (updates_wrongly z info.dst info.src) keeps.kinds) keeps.sources keeps.updates
tops_by rec z k info (g ∷ (h ∷ gs)) same shape live keeps = absurd (not_of_two g h gs shape)

-- ---- by kind

kind_by : (rec : List Command) (z : Status) (k : ℕ) (info : Info) (kind : StructureKind) → IsLiveOf kind (look z.structures info.dst) → InfoKeeps rec z info
    → IsAllowed rec z (info_action_by (building z k info) info kind)
kind_by rec z k info kinds.Bottom live keeps =
    bottom_by rec z k info info.mode info.src live keeps keeps.fits (source_named z info keeps.names)
    (neither_second (uses_wrongly z info.dst info.uses) (updates_wrongly z info.dst info.src) keeps.kinds) keeps.sources
kind_by rec z k info kinds.Top live keeps =
    let says = says_top (look z.structures info.dst) live in
    let shape : are_of_top info.geometries ≡ true =
    is_so (are_of_top info.geometries) (not_second (is_top_at z info.dst) (not (are_of_top info.geometries)) says.0
    (neither_first (is_top_at z info.dst && not (are_of_top info.geometries)) (is_bottom_at z info.dst && not (are_of_bottom info.geometries)) keeps.shapes)) in
    tops_by rec z k info info.geometries refl shape live keeps

found_by : (rec : List Command) (z : Status) (k : ℕ) (info : Info) (found : Option LiveStructure) → look z.structures info.dst ≡ found → IsSome found → InfoKeeps rec z info
    → IsAllowed rec z (info_action_on (building z k info) info found)
found_by rec z k info None is live keeps = absurd cc
found_by rec z k info (Some s) is live keeps = kind_by rec z k info s.kind (record { structure = s; is_it = is; same_kind = refl }) keeps

info_allowed : (rec : List Command) (z : Status) (k : ℕ) (info : Info) → InfoKeeps rec z info → IsAllowed rec z (info_action z k info)
info_allowed rec z k info keeps = found_by rec z k info (look z.structures info.dst) refl (dst_named z info keeps.names) keeps

-- ---- all infos

abbrev InfosKeep : List Command → Status → List Info → Type 0
InfosKeep rec z [] = Unit {0}
InfosKeep rec z (info ∷ infos) = InfoKeeps rec z info × InfosKeep rec z infos

all_fit : (infos : List Info) → list_all has_its_source infos ≡ true → Fail (λ info. not (has_its_source info)) infos
all_fit [] e = tt
all_fit (info ∷ infos) e = (
  ap not (both_first (has_its_source info) (list_all has_its_source infos) e),
  all_fit infos (both_second (has_its_source info) (list_all has_its_source infos) e),
)

put_together : (rec : List Command) (z : Status) (infos : List Info) → Fail (lacks_named z) infos → Fail (info_reaches_out z) infos → Fail (is_wrong_info z) infos
    → Fail (is_misshapen z) infos → Fail prefers_both infos → Fail (is_too_large z) infos → Fail (lacks_built_source rec z) infos
    → Fail (differs_from_source rec z) infos → Fail (uses_unbuilt z) infos → Fail (λ info. not (has_its_source info)) infos
    → Fail (lacks_info_usage z) infos → InfosKeep rec z infos
put_together rec z [] a b c d e f g h u w v = tt
put_together rec z (info ∷ infos) a b c d e f g h u w v = (
  record {
    names = a.0;
    usages = v.0;
    spans = b.0;
    kinds = c.0;
    shapes = d.0;
    fast = e.0;
    counts = f.0;
    sources = g.0;
    updates = h.0;
    built = u.0;
    fits = is_so (has_its_source info) w.0;
  },
  put_together rec z infos a.1 b.1 c.1 d.1 e.1 f.1 g.1 h.1 u.1 w.1 v.1,
)

all_allowed : (rec : List Command) (z : Status) (k : ℕ) (infos : List Info) → InfosKeep rec z infos → AreAllowedFrom rec z z k infos
all_allowed rec z k [] keep = tt
all_allowed rec z k (info ∷ infos) keep = (info_allowed rec z k info keep.0, all_allowed rec z (k + 1) infos keep.1)

first_none : (a b : Option Place) → option_or a b ≡ None → a ≡ None
first_none None b e = refl
first_none (Some p) b e = absurd cc

pub infos_allowed : (rec : List Command) (z : Status) (infos : List Info) → Keeps rec z (commands.Build infos) → list_all has_its_source infos ≡ true
    → AreAllowedFrom rec z z 0 infos
unfolding v1 v3 v4 v7 v8 v9 v10 v13 v15 v17
infos_allowed rec z infos keeps fit =
    all_allowed rec z 0 infos
    (put_together rec z infos (no_part (lacks_named z) infos keeps.names) (no_part (info_reaches_out z) infos keeps.spans)
    (no_part (is_wrong_info z) infos keeps.kinds) (no_part (is_misshapen z) infos keeps.shapes) (no_part prefers_both infos keeps.fast)
    (no_part (is_too_large z) infos (first_none (first_part (is_too_large z) infos) (part_at 4096 (nat_lt 4096 (length infos))) keeps.counts))
    (no_part (lacks_built_source rec z) infos keeps.sources) (no_part (differs_from_source rec z) infos keeps.updates)
    (no_part (uses_unbuilt z) infos keeps.built) (all_fit infos fit) (no_part (lacks_info_usage z) infos keeps.usages))
