-- The actions of each command that may be run are ready in their turn, and keep the invariant.
use Rattle.std.proofs.Common.{◌≡◌, ◌+◌, ◌*◌, ◌^◌, ◌-◌, ◌<◌, ◌≤◌, ℕ, Bool, true, false, List, [], ◌∷◌, Option, Some, None, IsSome, refl, sym, ◌∙◌, ap, subst, arith, length, map, min}
use Rattle.std.proofs.lemmas.Bool.Decides.{nat_tests}
use Rattle.std.specs.Prelude.{not, ◌||◌, ◌&&◌, ◌==◌, nat_lt, slice_get, sum}
use Rattle.std.specs.List.{list_any, range_with_len}
use Rattle.std.specs.Option.{option_map_or, option_and_then}
use Rattle.ray_flags.specs.Admission.{AsksBoth}
use Rattle.ray_flags.specs.Flags.{Storage, TransferDst, TransferSrc, ray_has, CullBackFacing, CullFrontFacing, CullNoOpaque, CullOpaque, NoOpaque, Opaque, SkipAabbs, SkipTriangles}
use Rattle.ray_flags.specs.declared.ray_flags.RayFlags.{RayFlags}
use Rattle.ray_flags.specs.declared.usage.Usage.{Usage}
use Rattle.ray_script.specs.declared.raw_rule.RawRule.{RawRule}
use Rattle.ray_cmd.specs.declared.asked.Asked.{Asked}
use Rattle.ray_cmd.specs.declared.asked.Asked.TheVariants as asked
use Rattle.ray_cmd.specs.declared.command.Command.{Command}
use Rattle.ray_cmd.specs.declared.command.Command.TheVariants as commands
use Rattle.ray_cmd.specs.declared.copy_mode.CopyMode.{CopyMode}
use Rattle.ray_cmd.specs.declared.copy_mode.CopyMode.TheVariants as copies
use Rattle.ray_cmd.specs.declared.region.Region.{Region}
use Rattle.ray_cmd.specs.declared.spot.Spot.{Spot}
use Rattle.ray_cmd.specs.declared.stretch.Stretch.{Stretch}
use Rattle.ray_cmd.specs.declared.structure_kind.StructureKind.{StructureKind}
use Rattle.ray_cmd.specs.declared.structure_kind.StructureKind.TheVariants as kinds
use Rattle.ray_cmd.specs.declared.thing.Thing.TheVariants as things
use Rattle.ray_rules.specs.declared.built.Built.{Built}
use Rattle.ray_rules.specs.declared.live_structure.LiveStructure.{LiveStructure}
use Rattle.ray_rules.specs.declared.phase.Phase.{Phase}
use Rattle.ray_rules.specs.declared.phase.Phase.TheVariants.{Idle, Recording, Ended}
use Rattle.ray_rules.specs.Access.{rays_of_piece, uses_at}
use Rattle.ray_rules.specs.Buffers.{is_private_at, lacks_usage, v3}
use Rattle.ray_rules.specs.Conflicts.{v16}
use Rattle.ray_rules.specs.FlagRules.{are_several, is_contradiction, v22}
use Rattle.ray_rules.specs.Ids.{is_live, look}
use Rattle.ray_rules.specs.Names.{lacks_buffer, lacks_structure, v1}
use Rattle.ray_rules.specs.Origins.{uses_of}
use Rattle.ray_rules.specs.Places.{first_part}
use Rattle.ray_rules.specs.Ranges.{range, size_at}
use Rattle.ray_rules.specs.Shapes.{are_too_many, asks_wrongly, compacts_wrongly, most_primitives, uses_wrongly, v7, v10}
use Rattle.ray_rules.specs.Sources.{first_stale, is_stale, is_unbuilt, v17, v20, v21}
use Rattle.ray_rules.specs.Spans.{reaches_out, region_reaches_out, v4}
use Rattle.ray_rules.specs.Status.{Status, after_infos, built_at, copied_by, fill_in}
use Rattle.ray_rules.specs.Status as status
use Rattle.ray_rules.specs.Structures.{differ_in_kind, is_bottom, is_bottom_at, is_top, is_top_at, v19}
use Rattle.ray_action.specs.Memory.{Memory}
use Rattle.ray_action.specs.Action.{Action, MakeBuffer, MakeStructure, DestroyBuffer, DestroyStructure, ShowSizes, ShowBytes, UpdateBytes, FillBytes, CopyStructure, SerializeStructure, DeserializeStructure, Rest}
use Rattle.ray_action.specs.Pieces.{actions_of, content_of, cull_mask, host_action, property_action, rays_action, region_action, stretch_range, trace_pieces}
use Rattle.ray_action.specs.Readiness.{AreCounts}
use Rattle.ray_ready.specs.Accepted.{MayRun}
use Rattle.ray_ready.proofs.Ties.{Ties, form_of, keeps_bytes_at}
use Rattle.ray_ready.proofs.Storing.{ties_created, ties_destroyed, ties_gone, ties_later, ties_made}
use Rattle.ray_ready.proofs.Allowed.{FitsKind, IsBuiltAny, IsBuiltOf, IsLiveOf, MayCopy, MayDeserialize, MayTellAll, MayTrace}
use Rattle.ray_ready.proofs.Ready.{allowed_ready}
use Rattle.ray_ready.proofs.Usages.{kept_by, kept_open}
use Rattle.ray_ready.proofs.Building.{structure_copied, structure_restored}
use Rattle.ray_ready.proofs.Leading.{AreOfBytes, Leads, bytes_lead, leads_to, one_leads}
use Rattle.ray_ready.proofs.Infos.{infos_apart, infos_lead}
use Rattle.ray_ready.proofs.InfoRules.{infos_allowed}
use Rattle.ray_rules.proofs.Kept.{Fail, neither_first, neither_second, no_part, none_any, not_broken, within}
use Rattle.ray_ready.proofs.Kept.{Keeps, bottom_of, built_of, fails_at, fresh_of, is_there, keeps, nothing, top_of}

-- what a command's actions lead to: the invariant where the next one begins
abbrev LeadsOn : List Command → ℕ → Status → Command → Memory → Type 0
LeadsOn rec i z c m = Leads (actions_of rec z c) m (Ties rec (i + 1) 0 (status.after i c z))

-- the same of actions that write bytes, and leave the status
bytes_on : (rec : List Command) (i : ℕ) (z : Status) (acts : List Action) (m : Memory) → AreOfBytes rec z acts → Ties rec i 0 z m
    → Leads acts m (Ties rec (i + 1) 0 z)
bytes_on rec i z acts m are ties = leads_to acts m (Ties rec i 0 z) (Ties rec (i + 1) 0 z) (λ w t. ties_later rec i 0 z w t) (bytes_lead rec i 0 z acts m are ties)

-- the same where the state of the command buffer changes, and no buffer or structure
phase_on : (rec : List Command) (i : ℕ) (z : Status) (m : Memory) (phase : Phase) (pending : Bool) → Ties rec i 0 z m
    → Leads (Rest ∷ []) m (Ties rec (i + 1) 0 (record { buffers = z.buffers; structures = z.structures; phase = phase; pending = pending }))
phase_on rec i z m phase pending ties =
    leads_to (Rest ∷ []) m (Ties rec (i + 1) 0 z) (Ties rec (i + 1) 0 (record { buffers = z.buffers; structures = z.structures; phase = phase; pending = pending }))
    (λ w t. record { buffers = t.buffers; forms = t.forms; contents = t.contents }) (bytes_on rec i z (Rest ∷ []) m ((tt, tt), tt) ties)

-- ---- regions

regions_allowed : (rec : List Command) (z : Status) (src dst : ℕ) (regions : List Region) → keeps_bytes_at z.buffers src ≡ true
    → Fail (region_reaches_out z src dst) regions → AreOfBytes rec z (map (region_action src dst) regions)
regions_allowed rec z src dst [] kept pass = tt
regions_allowed rec z src dst (r ∷ regions) kept pass = (
  (
    (
      within z.buffers (range src r.src_offset r.size)
          (neither_first (reaches_out z src r.src_offset r.size) (reaches_out z dst r.dst_offset r.size) pass.0),
      kept,
    ),
    tt,
  ),
  regions_allowed rec z src dst regions kept pass.1,
)

-- what may be copied from, restored from or traced keeps its bytes
source_keeps : (z : Status) (src dst : ℕ) → (lacks_usage z TransferSrc src || lacks_usage z TransferDst dst) ≡ false → keeps_bytes_at z.buffers src ≡ true
source_keeps z src dst e = kept_by z TransferSrc src refl refl (neither_first (lacks_usage z TransferSrc src) (lacks_usage z TransferDst dst) e)

rays_keep : (z : Status) (rays hits : ℕ) → (lacks_usage z Storage rays || lacks_usage z Storage hits) ≡ false → keeps_bytes_at z.buffers rays ≡ true
rays_keep z rays hits e = kept_by z Storage rays refl refl (neither_first (lacks_usage z Storage rays) (lacks_usage z Storage hits) e)

-- ---- copies of structures

kinds_agree : (k l : StructureKind) → ((is_bottom k && is_top l) || (is_top k && is_bottom l)) ≡ false → l ≡ k
kinds_agree kinds.Bottom kinds.Bottom e = refl
kinds_agree kinds.Bottom kinds.Top e = absurd cc
kinds_agree kinds.Top kinds.Bottom e = absurd cc
kinds_agree kinds.Top kinds.Top e = refl

-- two live structures that don't differ in kind are of one
record AreAlike (a b : Option LiveStructure) : Type 0 where
  kind : StructureKind
  first : IsLiveOf kind a
  second : IsLiveOf kind b

abbrev bottom_in : Option LiveStructure → Bool
bottom_in found = option_map_or (λ (s : LiveStructure). is_bottom s.kind) found false

abbrev top_in : Option LiveStructure → Bool
top_in found = option_map_or (λ (s : LiveStructure). is_top s.kind) found false

alike : (a b : Option LiveStructure) → IsSome a → IsSome b → ((bottom_in a && top_in b) || (top_in a && bottom_in b)) ≡ false → AreAlike a b
alike None b here there e = absurd cc
alike (Some s) None here there e = absurd cc
alike (Some s) (Some t) here there e = record {
  kind = s.kind;
  first = record { structure = s; is_it = refl; same_kind = refl };
  second = record { structure = t; is_it = refl; same_kind = kinds_agree s.kind t.kind e };
}

kind_is : (found : Option LiveStructure) (k : StructureKind) → IsLiveOf k found → top_in found ≡ false → k ≡ kinds.Bottom
kind_is found k live e = by_kind k (sym (ap is_top live.same_kind) ∙ (sym (ap top_in live.is_it) ∙ e))
  where
    by_kind : (k : StructureKind) → is_top k ≡ false → k ≡ kinds.Bottom
    by_kind kinds.Bottom e = refl
    by_kind kinds.Top e = absurd cc

copy_fits : (z : Status) (mode : CopyMode) (src : ℕ) (k : StructureKind) → IsLiveOf k (look z.structures src) → compacts_wrongly z mode src ≡ false → FitsKind mode k
copy_fits z copies.Clone src k live e = tt
copy_fits z copies.Compact src k live e = kind_is (look z.structures src) k live e

copy_allowed : (rec : List Command) (z : Status) (mode : CopyMode) (src dst : ℕ) → Keeps rec z (commands.CopyStructure mode src dst) → MayCopy z mode src dst
unfolding v1 v7 v17 v19
copy_allowed rec z mode src dst k =
    let named = not_broken (lacks_structure z src || lacks_structure z dst) k.names in
    let here = is_there (look z.structures src) (neither_first (lacks_structure z src) (lacks_structure z dst) named) in
    let there = is_there (look z.structures dst) (neither_second (lacks_structure z src) (lacks_structure z dst) named) in
    let same = neither_second (src == dst) (differ_in_kind z src dst) (not_broken (src == dst || differ_in_kind z src dst) k.copies) in
    let both = alike (look z.structures src) (look z.structures dst) here there same in record {
      kind = both.kind;
      source = built_of both.kind (look z.structures src) both.first (is_there (built_at z src) (not_broken (is_unbuilt z src) k.built));
      target = both.second;
      fits = copy_fits z mode src both.kind both.first (not_broken (compacts_wrongly z mode src) k.kinds);
    }

-- ---- properties

any_built : (found : Option LiveStructure) → IsSome found → IsSome (option_and_then (λ (s : LiveStructure). s.built) found) → IsBuiltAny found
any_built None live is = absurd cc
any_built (Some s) live is = record { kind = s.kind; built = built_of s.kind (Some s) (record { structure = s; is_it = refl; same_kind = refl }) is }

tell_all : (z : Status) (what : Asked) (ids : List ℕ) → Fail (lacks_structure z) ids → asks_wrongly z what ids ≡ false → Fail (is_unbuilt z) ids
    → MayTellAll z what ids
tell_all z what [] live kind built = tt
tell_all z asked.Compacted (id ∷ ids) live kind built = (
  built_of kinds.Bottom (look z.structures id)
      (bottom_of (look z.structures id) (is_there (look z.structures id) live.0) (neither_first (is_top_at z id) (list_any (is_top_at z) ids) kind))
      (is_there (built_at z id) built.0),
  tell_all z asked.Compacted ids live.1 (neither_second (is_top_at z id) (list_any (is_top_at z) ids) kind) built.1,
)
tell_all z asked.Size (id ∷ ids) live kind built = (is_there (look z.structures id) live.0, tell_all z asked.Size ids live.1 kind built.1)
tell_all z asked.Serialized (id ∷ ids) live kind built = (
  any_built (look z.structures id) (is_there (look z.structures id) live.0) (is_there (built_at z id) built.0),
  tell_all z asked.Serialized ids live.1 kind built.1,
)
tell_all z asked.SerializedForm2 (id ∷ ids) live kind built = (
  any_built (look z.structures id) (is_there (look z.structures id) live.0) (is_there (built_at z id) built.0),
  tell_all z asked.SerializedForm2 ids live.1 (neither_second (is_top_at z id) (list_any (is_top_at z) ids) kind) built.1,
)
tell_all z asked.Handles (id ∷ ids) live kind built = (
  any_built (look z.structures id) (is_there (look z.structures id) live.0) (is_there (built_at z id) built.0),
  tell_all z asked.Handles ids live.1 kind built.1,
)

property_allowed : (rec : List Command) (z : Status) (what : Asked) (ids : List ℕ) (dst : Spot) → Keeps rec z (commands.Property what ids dst) → MayTellAll z what ids
unfolding v1 v7 v17
property_allowed rec z what ids dst k =
    tell_all z what ids
    (none_any (lacks_structure z) ids (neither_first (list_any (lacks_structure z) ids) (lacks_buffer z dst.buffer) (not_broken (list_any (lacks_structure z) ids || lacks_buffer z dst.buffer) k.names)))
    (not_broken (asks_wrongly z what ids) k.kinds) (no_part (is_unbuilt z) ids k.built)

-- ---- serialized copies

serialize_allowed : (rec : List Command) (z : Status) (src : ℕ) (dst : Stretch) (form : Option ℕ) → Keeps rec z (commands.Serialize src dst form) → IsBuiltAny (look z.structures src)
unfolding v1 v17
serialize_allowed rec z src dst form k =
    any_built (look z.structures src)
    (is_there (look z.structures src) (neither_first (lacks_structure z src) (lacks_buffer z dst.buffer) (not_broken (lacks_structure z src || lacks_buffer z dst.buffer) k.names)))
    (is_there (built_at z src) (not_broken (is_unbuilt z src) k.built))

deserialize_allowed : (rec : List Command) (z : Status) (src : Stretch) (dst : ℕ) (uses : List ℕ) → Keeps rec z (commands.Deserialize src dst uses)
    → MayDeserialize z (stretch_range src) dst uses
unfolding v1 v3 v4 v7 v17
deserialize_allowed rec z src dst uses k =
    let named = neither_second (lacks_buffer z src.buffer) (lacks_structure z dst || list_any (lacks_structure z) uses)
    (not_broken (lacks_buffer z src.buffer || (lacks_structure z dst || list_any (lacks_structure z) uses)) k.names) in
    let used = none_any (lacks_structure z) uses (neither_second (lacks_structure z dst) (list_any (lacks_structure z) uses) named) in
    let tops = none_any (is_top_at z) uses
    (neither_first (list_any (is_top_at z) uses) (is_bottom_at z dst && not (length uses == 0)) (not_broken (uses_wrongly z dst uses) k.kinds)) in
    let built = none_any (is_unbuilt z) uses (not_broken (list_any (is_unbuilt z) uses) k.built) in record {
      within = (
        within z.buffers (stretch_range src) (not_broken (reaches_out z src.buffer src.offset src.size) k.spans),
        kept_by z TransferSrc src.buffer refl refl (not_broken (lacks_usage z TransferSrc src.buffer) k.usages),
      );
      live = is_there (look z.structures dst) (neither_first (lacks_structure z dst) (list_any (lacks_structure z) uses) named);
      are_built = λ u has_it.
          built_of kinds.Bottom (look z.structures u)
          (bottom_of (look z.structures u) (is_there (look z.structures u) (fails_at (lacks_structure z) uses u used has_it)) (fails_at (is_top_at z) uses u tops has_it))
          (is_there (built_at z u) (fails_at (is_unbuilt z) uses u built has_it));
    }

-- ---- traces

ray_within : (from count k size b : ℕ) → from + 40 * count ≤ size → from + 40 * (64 * k) ≤ b → b < from + 40 * (64 * k) + 40 * min 64 (count - 64 * k) → b < size
ray_within from count k size b fits low high = omega (arith, fits, low, high)

not_outside : (size end : ℕ) → nat_lt size end ≡ false → end ≤ size
not_outside size end e = grind (arith, nat_tests, e)

-- flags that contradict each other break a rule
several : (a b c d : Bool) → a ≡ true → b ≡ true → are_several (a ∷ b ∷ c ∷ d ∷ []) ≡ true
several true true true true e f = refl
several true true true false e f = refl
several true true false true e f = refl
several true true false false e f = refl
several false b c d e f = absurd cc
several true false c d e f = absurd cc

not_both : (flags : RayFlags) → AsksBoth flags → is_contradiction flags ≡ false → ⊥
not_both flags both e =
    let opaque = several (ray_has flags Opaque) (ray_has flags NoOpaque) (ray_has flags CullOpaque) (ray_has flags CullNoOpaque) both.0 both.1 in
    let none = neither_first
    (are_several (ray_has flags Opaque ∷ ray_has flags NoOpaque ∷ ray_has flags CullOpaque ∷ ray_has flags CullNoOpaque ∷ []))
    (are_several (ray_has flags SkipTriangles ∷ ray_has flags CullBackFacing ∷ ray_has flags CullFrontFacing ∷ [])
    || are_several (ray_has flags SkipTriangles ∷ ray_has flags SkipAabbs ∷ [])) e in
    absurd cc

-- the counts of `sizes` are those of a structure
most : (top : Bool) (total : ℕ) → nat_lt (most_primitives top) total ≡ false → total ≤ 2 ^ 20
most true total e = grind (arith, nat_tests)
most false total e = grind (arith, nat_tests)

counts_allowed : (z : Status) (kind : StructureKind) (counts : List ℕ) → v10 z (commands.Sizes kind counts) ≡ None → AreCounts counts
unfolding v10
counts_allowed z kind counts e =
    let few = not_broken (are_too_many (is_top kind) (length counts) (sum counts)) e in
    let first = neither_first (nat_lt 256 (length counts)) (nat_lt (most_primitives (is_top kind)) (sum counts)) few in
    let second = neither_second (nat_lt 256 (length counts)) (nat_lt (most_primitives (is_top kind)) (sum counts)) few in
    record { few = grind (arith, nat_tests); few_primitives = most (is_top kind) (sum counts) second }

trace_allowed : (rec : List Command) (z : Status) (top : ℕ) (rays : Spot) (count : ℕ) (hits : Spot) (flags : RayFlags) (mask : ℕ) (script : List RawRule)
    → Keeps rec z (commands.Trace top rays count hits flags mask script) → (n : ℕ)
    → MayTrace rec z (record {
      top = top;
      uses = uses_at rec z top;
      rays = range rays.buffer (rays.offset + 40 * (64 * n)) (40 * rays_of_piece count n);
      hits = range hits.buffer (hits.offset + 80 * (64 * n)) (80 * rays_of_piece count n);
      first = 64 * n;
      count = rays_of_piece count n;
      flags = flags;
      mask = cull_mask mask;
    })
unfolding v1 v3 v4 v7 v20 v21 v22
trace_allowed rec z top rays count hits flags mask script k n =
    let named = not_broken (lacks_structure z top || (lacks_buffer z rays.buffer || lacks_buffer z hits.buffer)) k.names in
    let live = is_there (look z.structures top) (neither_first (lacks_structure z top) (lacks_buffer z rays.buffer || lacks_buffer z hits.buffer) named) in
    let is : IsBuiltOf kinds.Top (look z.structures top) = built_of kinds.Top (look z.structures top) (top_of (look z.structures top) live (not_broken (is_bottom_at z top) k.kinds))
    (is_there (built_at z top) (not_broken (is_unbuilt z top) k.top)) in
    let by : Built = is.by in
    let built : built_at z top ≡ Some by = ap (option_and_then (λ (s : LiveStructure). s.built)) is.built.is_it ∙ is.built.built in
    let fresh : first_part (is_stale z by.stamp) (uses_of rec by) ≡ None = sym (ap (first_stale rec z) built) ∙ k.fresh in
    let inside : reaches_out z rays.buffer rays.offset (40 * count) ≡ false =
    neither_first (reaches_out z rays.buffer rays.offset (40 * count)) (reaches_out z hits.buffer hits.offset (80 * count))
    (not_broken (reaches_out z rays.buffer rays.offset (40 * count) || reaches_out z hits.buffer hits.offset (80 * count)) k.spans) in
    let fits : rays.offset + 40 * count ≤ size_at z.buffers rays.buffer = not_outside (size_at z.buffers rays.buffer) (rays.offset + 40 * count) inside in record {
      rays = (
        λ b low high. ray_within rays.offset count n (size_at z.buffers rays.buffer) b fits low high,
        rays_keep z rays.buffer hits.buffer (not_broken (lacks_usage z Storage rays.buffer || lacks_usage z Storage hits.buffer) k.usages),
      );
      by = by;
      top = is.built;
      uses = ap (λ o. option_map_or (uses_of rec) o []) built;
      fresh = λ u used. fresh_of by.stamp (look z.structures u) (fails_at (is_stale z by.stamp) (uses_of rec by) u (no_part (is_stale z by.stamp) (uses_of rec by) fresh) used);
      flags = λ both. not_both flags both (not_broken (is_contradiction flags) k.flags);
    }

pieces_allowed : (rec : List Command) (z : Status) (top : ℕ) (rays : Spot) (count : ℕ) (hits : Spot) (flags : RayFlags) (mask : ℕ) (script : List RawRule)
    → Keeps rec z (commands.Trace top rays count hits flags mask script) → (ns : List ℕ)
    → AreOfBytes rec z (map (rays_action rec z top rays hits count flags mask) ns)
pieces_allowed rec z top rays count hits flags mask script k [] = tt
pieces_allowed rec z top rays count hits flags mask script k (n ∷ ns) =
    ((trace_allowed rec z top rays count hits flags mask script k n, tt), pieces_allowed rec z top rays count hits flags mask script k ns)

-- ---- by command

buffer_new : (z : Status) (id size : ℕ) (usage : Usage) (content : Option (List ℕ)) → v1 z (commands.Buffer id size usage content) ≡ None → look z.buffers id ≡ None
unfolding v1
buffer_new z id size usage content e = nothing (look z.buffers id) (not_broken (is_live z.buffers id) e)

structure_new : (z : Status) (id : ℕ) (kind : StructureKind) (buffer offset size : ℕ) → v1 z (commands.Structure id kind buffer offset size) ≡ None → look z.structures id ≡ None
unfolding v1
structure_new z id kind buffer offset size e =
    nothing (look z.structures id) (neither_first (is_live z.structures id) (lacks_buffer z buffer) (not_broken (is_live z.structures id || lacks_buffer z buffer) e))

pub command_leads : (rec : List Command) (i : ℕ) (z : Status) (c : Command) (m : Memory) → slice_get rec i ≡ Some c → MayRun rec z c → Ties rec i 0 z m → LeadsOn rec i z c m
unfolding actions_of host_action status.after v3 v4 v16
command_leads rec i z (commands.Buffer id size usage content) m is may ties =
    let k = keeps rec z (commands.Buffer id size usage content) may.rules in
    let a : Action = MakeBuffer id size (content_of usage content) in
    one_leads a m (Ties rec (i + 1) 0 (status.after i (commands.Buffer id size usage content) z))
    (allowed_ready rec i 0 z m a ties (buffer_new z id size usage content k.names))
    (λ o e. ties_later rec i 0 _ _ (ties_made rec i 0 z m id size content usage o ties))
command_leads rec i z (commands.Structure id kind buffer offset size) m is may ties =
    let k = keeps rec z (commands.Structure id kind buffer offset size) may.rules in
    let s : LiveStructure = record { made = i; kind = kind; buffer = buffer; offset = offset; size = size; built = None } in
    let a : Action = MakeStructure id (form_of s) in
    one_leads a m (Ties rec (i + 1) 0 (status.after i (commands.Structure id kind buffer offset size) z))
    (allowed_ready rec i 0 z m a ties (structure_new z id kind buffer offset size k.names))
    (λ o e. ties_later rec i 0 _ _ (ties_created rec i 0 z m id s o refl ties))
command_leads rec i z (commands.Destroy things.Buffer id) m is may ties =
    one_leads (DestroyBuffer id) m (Ties rec (i + 1) 0 (status.after i (commands.Destroy things.Buffer id) z)) tt
    (λ o e. ties_later rec i 0 _ _ (ties_gone rec i 0 z m id o ties))
command_leads rec i z (commands.Destroy things.Structure id) m is may ties =
    one_leads (DestroyStructure id) m (Ties rec (i + 1) 0 (status.after i (commands.Destroy things.Structure id) z)) tt
    (λ o e. ties_later rec i 0 _ _ (ties_destroyed rec i 0 z m id o ties))
command_leads rec i z (commands.Sizes kind counts) m is may ties =
    let k = keeps rec z (commands.Sizes kind counts) may.rules in
    bytes_on rec i z (ShowSizes kind counts ∷ []) m ((counts_allowed z kind counts k.counts, tt), tt) ties
command_leads rec i z commands.Begin m is may ties = phase_on rec i z m Recording z.pending ties
command_leads rec i z commands.End m is may ties = phase_on rec i z m Ended z.pending ties
command_leads rec i z commands.Submit m is may ties = phase_on rec i z m Idle true ties
command_leads rec i z commands.Wait m is may ties = phase_on rec i z m z.phase false ties
command_leads rec i z (commands.Read buffer offset size form) m is may ties =
    let k = keeps rec z (commands.Read buffer offset size form) may.rules in
    let inside = within z.buffers (range buffer offset size) (not_broken (reaches_out z buffer offset size) k.spans) in
    let kept = kept_open z buffer (not_broken (is_private_at z buffer) k.usages) in
    bytes_on rec i z (ShowBytes (range buffer offset size) form ∷ []) m (((inside, kept), tt), tt) ties
command_leads rec i z (commands.Update buffer offset content) m is may ties = bytes_on rec i z (UpdateBytes (range buffer offset (length content)) content ∷ []) m ((tt, tt), tt) ties
command_leads rec i z (commands.Fill buffer offset size value) m is may ties = bytes_on rec i z (FillBytes (range buffer offset size) value ∷ []) m ((tt, tt), tt) ties
command_leads rec i z (commands.Copy src dst regions) m is may ties =
    let k = keeps rec z (commands.Copy src dst regions) may.rules in
    let kept = source_keeps z src dst (not_broken (lacks_usage z TransferSrc src || lacks_usage z TransferDst dst) k.usages) in
    bytes_on rec i z (map (region_action src dst) regions) m (regions_allowed rec z src dst regions kept (no_part (region_reaches_out z src dst) regions k.spans)) ties
command_leads rec i z (commands.Build infos) m is may ties =
    let k = keeps rec z (commands.Build infos) may.rules in
    infos_lead rec i 0 z z m infos infos is (λ n j x same there. subst (λ q. slice_get infos q ≡ Some x) (sym (same ∙ omega arith)) there)
    (infos_allowed rec z infos k may.sources) (infos_apart infos k.apart) (λ j x less there. absurd (omega (arith, less))) ties
command_leads rec i z (commands.CopyStructure mode src dst) m is may ties =
    let k = keeps rec z (commands.CopyStructure mode src dst) may.rules in
    let copy = copy_allowed rec z mode src dst k in
    one_leads (CopyStructure mode src dst) m (Ties rec (i + 1) 0 (status.after i (commands.CopyStructure mode src dst) z))
    (allowed_ready rec i 0 z m (CopyStructure mode src dst) ties copy)
    (λ o e. ties_later rec i 0 _ _ (structure_copied rec i z m mode src dst o copy e ties))
command_leads rec i z (commands.Serialize src dst form) m is may ties =
    let k = keeps rec z (commands.Serialize src dst form) may.rules in
    bytes_on rec i z (SerializeStructure src (stretch_range dst) form ∷ []) m ((serialize_allowed rec z src dst form k, tt), tt) ties
command_leads rec i z (commands.Deserialize src dst uses) m is may ties =
    let k = keeps rec z (commands.Deserialize src dst uses) may.rules in
    let a : Action = DeserializeStructure (stretch_range src) dst uses in
    let allowed = deserialize_allowed rec z src dst uses k in
    one_leads a m (Ties rec (i + 1) 0 (status.after i (commands.Deserialize src dst uses) z)) (allowed_ready rec i 0 z m a ties allowed)
    (λ o e. ties_later rec i 1 _ _ (structure_restored rec i z m src dst uses o is allowed e ties))
command_leads rec i z (commands.Property what structures dst) m is may ties =
    let k = keeps rec z (commands.Property what structures dst) may.rules in
    bytes_on rec i z (property_action what structures dst ∷ []) m
    ((property_allowed rec z what structures dst k, tt), tt) ties
command_leads rec i z (commands.Barrier src_stages src_access dst_stages dst_access buffers) m is may ties = bytes_on rec i z (Rest ∷ []) m ((tt, tt), tt) ties
command_leads rec i z (commands.Trace top rays count hits flags mask script) m is may ties =
    let k = keeps rec z (commands.Trace top rays count hits flags mask script) may.rules in
    bytes_on rec i z (map (rays_action rec z top rays hits count flags mask) (range_with_len 0 (trace_pieces count))) m
    (pieces_allowed rec z top rays count hits flags mask script k (range_with_len 0 (trace_pieces count))) ties
