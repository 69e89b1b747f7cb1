-- What follows from the rules that are kept, in relational words.
use Rattle.std.proofs.Common.{◌≡◌, ◌≤◌, ℕ, Bool, true, false, List, [], ◌∷◌, Option, Some, None, IsSome, refl, ◌∙◌, ap, subst, inl, inr, arith}
use Rattle.std.proofs.lemmas.Bool.{cases_eq}
use Rattle.std.proofs.lemmas.Bool.Decides.{nat_tests}
use Rattle.std.specs.Prelude.{◌||◌, ◌&&◌, ◌==◌, not, nat_lt, is_some}
use Rattle.std.specs.Option.{option_map_or, option_and_then}
use Rattle.ray_cmd.specs.declared.command.Command.{Command}
use Rattle.ray_cmd.specs.declared.geometry.Geometry.{Geometry}
use Rattle.ray_cmd.specs.declared.geometry.Geometry.TheVariants as geometries
use Rattle.ray_cmd.specs.declared.structure_kind.StructureKind.{StructureKind}
use Rattle.ray_cmd.specs.declared.structure_kind.StructureKind.TheVariants as kinds
use Rattle.ray_rules.specs.declared.built.Built.{Built}
use Rattle.ray_rules.specs.declared.live_structure.LiveStructure.{LiveStructure}
use Rattle.ray_rules.specs.Buffers.{lacks_input_usage, v3}
use Rattle.ray_rules.specs.Conflicts.{v16}
use Rattle.ray_rules.specs.FlagRules.{v22, v23}
use Rattle.ray_rules.specs.Ids.{look}
use Rattle.ray_rules.specs.Names.{lacks_buffer, lacks_index, lacks_input, lacks_transform, v1}
use Rattle.ray_rules.specs.Refusals.{AreKept, static_table}
use Rattle.ray_rules.specs.Shapes.{v7, v8, v9, v10}
use Rattle.ray_rules.specs.Sources.{is_later, is_stale_structure, v13, v15, v17, v20, v21}
use Rattle.ray_rules.specs.Spans.{input_reaches_out, v4}
use Rattle.ray_rules.specs.Status.{Status}
use Rattle.ray_rules.specs.Structures.{is_bottom, is_top, v19}
use Rattle.ray_rules.proofs.Kept.{Fail, neither_first, neither_second, read_within}
use Rattle.ray_action.specs.Areas.{has}
use Rattle.ray_action.specs.Action.{content_buffer}
use Rattle.ray_ready.proofs.Ties.{IsFresh}
use Rattle.ray_ready.proofs.Allowed.{AreReadable, IsBuiltOf, IsLiveOf}
use Rattle.ray_ready.proofs.Usages.{read_kept}

-- ---- the rows that are used

pub record Keeps (rec : List Command) (z : Status) (c : Command) : Type 0 where
  pub names : v1 z c ≡ None
  pub usages : v3 z c ≡ None
  pub spans : v4 z c ≡ None
  pub kinds : v7 z c ≡ None
  pub shapes : v8 z c ≡ None
  pub fast : v9 c ≡ None
  pub counts : v10 z c ≡ None
  pub sources : v13 rec z c ≡ None
  pub updates : v15 rec z c ≡ None
  pub apart : v16 c ≡ None
  pub built : v17 z c ≡ None
  pub copies : v19 z c ≡ None
  pub top : v20 z c ≡ None
  pub fresh : v21 rec z c ≡ None
  pub flags : v22 c ≡ None
  pub script : v23 c ≡ None

pub keeps : (rec : List Command) (z : Status) (c : Command) → AreKept (static_table rec z c) → Keeps rec z c
keeps rec z c (k1, (k2, (k3, (k4, (k5, (k6, (k7, (k8, (k9, (k10, (k11, (k12, (k13, (k14, (k15, (k16, (k17, (k18, (k19, (k20, (k21, (k22, (k23, more))))))))))))))))))))))) = record {
  names = k1;
  usages = k3;
  spans = k4;
  kinds = k7;
  shapes = k8;
  fast = k9;
  counts = k10;
  sources = k13;
  updates = k15;
  apart = k16;
  built = k17;
  copies = k19;
  top = k20;
  fresh = k21;
  flags = k22;
  script = k23;
}

-- ---- truth values

pub is_so : (b : Bool) → not b ≡ false → b ≡ true
is_so true e = refl
is_so false e = absurd cc

pub both_first : (a b : Bool) → (a && b) ≡ true → a ≡ true
both_first true b e = refl
both_first false b e = absurd cc

pub both_second : (a b : Bool) → (a && b) ≡ true → b ≡ true
both_second true b e = e
both_second false b e = absurd cc

-- where the first of two holds, and not both, the second doesn't
pub not_second : (a b : Bool) → a ≡ true → (a && b) ≡ false → b ≡ false
not_second true b is e = e
not_second false b is e = absurd cc

-- ---- lists

-- an id among others fails what all of them fail
pub fails_at : (test : ℕ → Bool) (ids : List ℕ) (u : ℕ) → Fail test ids → has ids u ≡ true → test u ≡ false
fails_at test [] u fail named = absurd cc
fails_at test (id ∷ ids) u fail named = elim (cases_eq id u) [
  | inl same ↦ subst (λ n. test n ≡ false) same fail.0
  | inr differs ↦ fails_at test ids u fail.1 (rest (id == u) (has ids u) (λ is. differs (grind (arith, nat_tests, is))) named)
]
  where
    rest : (a b : Bool) → (a ≡ true → ⊥) → (a || b) ≡ true → b ≡ true
    rest true b never e = absurd (never refl)
    rest false b never e = e

-- ---- structures

pub is_there : {X : Type 0} (found : Option X) → not (is_some found) ≡ false → IsSome found
is_there found e = is_so (is_some found) e

pub nothing : {X : Type 0} (found : Option X) → is_some found ≡ false → found ≡ None
nothing None e = refl
nothing (Some x) e = absurd cc

bottom_kind : (kind : StructureKind) → is_top kind ≡ false → kind ≡ kinds.Bottom
bottom_kind kinds.Bottom e = refl
bottom_kind kinds.Top e = absurd cc

top_kind : (kind : StructureKind) → is_bottom kind ≡ false → kind ≡ kinds.Top
top_kind kinds.Bottom e = absurd cc
top_kind kinds.Top e = refl

no_top_is_bottom : (kind : StructureKind) → is_bottom kind ≡ true → kind ≡ kinds.Bottom
no_top_is_bottom kinds.Bottom e = refl
no_top_is_bottom kinds.Top e = absurd cc

-- what is live and no top is a bottom, and what is live and no bottom is a top
pub bottom_of : (found : Option LiveStructure) → IsSome found → option_map_or (λ (s : LiveStructure). is_top s.kind) found false ≡ false
    → IsLiveOf kinds.Bottom found
bottom_of None live e = absurd cc
bottom_of (Some s) live e = record { structure = s; is_it = refl; same_kind = bottom_kind s.kind e }

pub top_of : (found : Option LiveStructure) → IsSome found → option_map_or (λ (s : LiveStructure). is_bottom s.kind) found false ≡ false
    → IsLiveOf kinds.Top found
top_of None live e = absurd cc
top_of (Some s) live e = record { structure = s; is_it = refl; same_kind = top_kind s.kind e }

-- what tests say of a bottom and of a top
pub says_bottom : (found : Option LiveStructure) → IsLiveOf kinds.Bottom found
    → (option_map_or (λ (s : LiveStructure). is_bottom s.kind) found false ≡ true) × (option_map_or (λ (s : LiveStructure). is_top s.kind) found false ≡ false)
says_bottom found live = (
  ap (λ f. option_map_or (λ (s : LiveStructure). is_bottom s.kind) f false) live.is_it ∙ ap is_bottom live.same_kind,
  ap (λ f. option_map_or (λ (s : LiveStructure). is_top s.kind) f false) live.is_it ∙ ap is_top live.same_kind,
)

pub says_top : (found : Option LiveStructure) → IsLiveOf kinds.Top found
    → (option_map_or (λ (s : LiveStructure). is_top s.kind) found false ≡ true) × (option_map_or (λ (s : LiveStructure). is_bottom s.kind) found false ≡ false)
says_top found live = (
  ap (λ f. option_map_or (λ (s : LiveStructure). is_top s.kind) f false) live.is_it ∙ ap is_top live.same_kind,
  ap (λ f. option_map_or (λ (s : LiveStructure). is_bottom s.kind) f false) live.is_it ∙ ap is_bottom live.same_kind,
)

-- what is live and built
some_built : (o : Option Built) → IsSome o → (b : Built) × (o ≡ Some b)
some_built None is = absurd cc
some_built (Some b) is = (b, refl)

pub built_of : (kind : StructureKind) (found : Option LiveStructure) → IsLiveOf kind found → IsSome (option_and_then (λ (s : LiveStructure). s.built) found)
    → IsBuiltOf kind found
built_of kind None live is = absurd cc
built_of kind (Some s) live is =
    let b = some_built s.built is in
    let same : s ≡ live.structure = cc in record {
      by = b.0;
      built = record { structure = s; is_it = refl; same_kind = ap (λ (x : LiveStructure). x.kind) same ∙ live.same_kind; built = b.1 };
    }

-- what isn't stale is fresh
fresh_by : (stamp : ℕ) (s : LiveStructure) (o : Option Built) → s.built ≡ o → is_bottom s.kind ≡ true → is_later stamp o ≡ false → IsFresh stamp (Some s)
fresh_by stamp s None is kind e = absurd cc
fresh_by stamp s (Some b) is kind e = record {
  by = b;
  built = record { structure = s; is_it = refl; same_kind = no_top_is_bottom s.kind kind; built = is };
  early = early b.written e;
}
  where
    early : (written : ℕ) → nat_lt stamp written ≡ false → written ≤ stamp
    early written h = grind (arith, nat_tests, h)

pub fresh_of : (stamp : ℕ) (found : Option LiveStructure) → is_stale_structure stamp found ≡ false → IsFresh stamp found
fresh_of stamp None e = absurd cc
fresh_of stamp (Some s) e =
    fresh_by stamp s s.built refl (is_so (is_bottom s.kind) (neither_first (not (is_bottom s.kind)) (is_later stamp s.built) e))
    (neither_second (not (is_bottom s.kind)) (is_later stamp s.built) e)

-- ---- what geometries read

content_live : (z : Status) (g : Geometry) → lacks_input z g ≡ false → IsSome (look z.buffers (content_buffer g))
content_live z (geometries.Triangles opaque format vertex stride max_vertex index transform count primitive_offset first_vertex transform_offset) is =
    is_there (look z.buffers vertex.buffer) (neither_first (lacks_buffer z vertex.buffer) (lacks_index z index || lacks_transform z transform) is)
content_live z (geometries.Boxes opaque content stride count primitive_offset) is = is_there (look z.buffers content.buffer) is
content_live z (geometries.Instances content count primitive_offset) is = is_there (look z.buffers content.buffer) is

pub readable : (z : Status) (gs : List Geometry) → Fail (lacks_input z) gs → Fail (input_reaches_out z) gs → Fail (lacks_input_usage z) gs → AreReadable z.buffers gs
readable z [] live inside usages = tt
readable z (g ∷ gs) live inside usages =
    (record { live = content_live z g live.0; within = read_within z.buffers g inside.0; kept = read_kept z g usages.0 }, readable z gs live.1 inside.1 usages.1)
