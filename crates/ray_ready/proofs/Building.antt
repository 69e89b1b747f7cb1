-- The stores of builds and copies of structures keep the invariant.
use Rattle.std.proofs.Common.{◌≡◌, ◌≤◌, ◌+◌, ℕ, Bool, true, false, List, [], ◌∷◌, Option, Some, None, IsSome, IfSome, IsSomeAnd, refl, sym, ◌∙◌, ap, subst, inl, inr, arith, fold}
use Rattle.std.specs.Prelude.{if◌then◌else◌, slice_get, ◌==◌, ◌||◌}
use Rattle.std.proofs.lemmas.Bool.{cases_eq, ne_eqb}
use Rattle.std.specs.Option.{option_map, option_map_or, option_and_then}
use Rattle.ray_geom.specs.Boxes.{BoxValue}
use Rattle.ray_contents.specs.Bounds.{KeepsBounds}
use Rattle.ray_flags.specs.declared.build_flags.BuildFlags.{BuildFlags}
use Rattle.ray_geometries.specs.Contents as bottoms
use Rattle.ray_top.specs.Contents as tops
use Rattle.ray_top.specs.Contents.{IsActive}
use Rattle.ray_top.specs.Instances.{InstanceValue}
use Rattle.ray_top.specs.InstanceReading.{bounds_in, noted}
use Rattle.ray_top.specs.declared.used.Used.{Used}
use Rattle.ray_cmd.specs.declared.command.Command.{Command}
use Rattle.ray_cmd.specs.declared.command.Command.TheVariants as commands
use Rattle.ray_cmd.specs.declared.copy_mode.CopyMode.{CopyMode}
use Rattle.ray_cmd.specs.declared.geometry.Geometry.{Geometry}
use Rattle.ray_cmd.specs.declared.info.Info.{Info}
use Rattle.ray_cmd.specs.declared.stretch.Stretch.{Stretch}
use Rattle.ray_cmd.specs.declared.structure_kind.StructureKind.{StructureKind}
use Rattle.ray_cmd.specs.declared.structure_kind.StructureKind.TheVariants as kinds
use Rattle.ray_rules.specs.declared.built.Built.{Built}
use Rattle.ray_rules.specs.declared.live_structure.LiveStructure.{LiveStructure}
use Rattle.ray_rules.specs.Ids.{look}
use Rattle.ray_rules.specs.Origins.{info_in, info_of, is_deserialize, is_deserialized, uses_in, uses_of}
use Rattle.ray_rules.specs.Ranges.{count_of, primitives}
use Rattle.ray_rules.specs.Status.{Status, built_at, built_by, copied_by, fill_in}
use Rattle.ray_action.specs.Areas.{has}
use Rattle.ray_action.specs.Memory.{Contents, Memory, Bottom, Top, ContentsAt, StructureAt, as_bottom, bounds_of}
use Rattle.ray_action.specs.Action.{Building, BuildBottom, UpdateBottom, BuildTop, UpdateTop, CopyStructure, DeserializeStructure}
use Rattle.ray_action.specs.Seeing.{SeenStructures, see_structures}
use Rattle.ray_action.specs.Building.{all_used, used_of}
use Rattle.ray_action.specs.Outcomes.{Output, Gives}
use Rattle.ray_action.specs.Pieces.{stretch_range}
use Rattle.ray_action.specs.Storing.{put}
use Rattle.ray_ready.proofs.Ties.{Fills, IsAsMany, IsBounded, IsBuilt, IsEarlier, IsTopBy, Ties, form_of}
use Rattle.ray_ready.proofs.Filling.{IsFree, none_yet}
use Rattle.ray_ready.proofs.Storing.{filled_memory, ties_filled}
use Rattle.ray_ready.proofs.Giving.{IsLinkedTop, IsReadTop, MayGive, MayRestore, MayRestoreKind}
use Rattle.ray_ready.proofs.Allowed.{IsBuiltOf, IsLiveOf, MayBuildBottom, MayBuildTop, MayCopy, MayDeserialize}

-- ---- the structures in use

noted_by : (here rest : Bool) (x y : Option (Option BoxValue)) → (if rest then x else (if here then x else y)) ≡ (if here || rest then x else y)
noted_by true true x y = refl
noted_by true false x y = refl
noted_by false true x y = refl
noted_by false false x y = refl

here_same : (seen : SeenStructures) (u id : ℕ) (y : Option (Option BoxValue))
    → (if id == u then Some (option_and_then bounds_of (seen id)) else y) ≡ (if id == u then Some (option_and_then bounds_of (seen u)) else y)
here_same seen u id y =
    elim (cases_eq id u) [
      | inl same ↦ ap (λ n. if id == u then Some (option_and_then bounds_of (seen n)) else y) same
      | inr differs ↦ ap (λ b. if b then Some (option_and_then bounds_of (seen id)) else y) (ne_eqb id u differs)
          ∙ sym (ap (λ b. if b then Some (option_and_then bounds_of (seen u)) else y) (ne_eqb id u differs))
    ]

fold_used : (seen : SeenStructures) (u : ℕ) (ids : List ℕ) (so_far : Option (Option BoxValue))
    → fold (noted u) so_far (all_used seen ids) ≡ (if has ids u then Some (option_and_then bounds_of (seen u)) else so_far)
fold_used seen u [] so_far = refl
fold_used seen u (id ∷ ids) so_far =
    fold_used seen u ids (noted u so_far (used_of seen id))
    ∙ (ap (λ y. if has ids u then Some (option_and_then bounds_of (seen u)) else y) (here_same seen u id so_far)
    ∙ noted_by (id == u) (has ids u) (Some (option_and_then bounds_of (seen u))) so_far)

used_bounds : (seen : SeenStructures) (u : ℕ) (ids : List ℕ) → bounds_in (all_used seen ids) u ≡ (if has ids u then Some (option_and_then bounds_of (seen u)) else None)
unfolding bounds_in
used_bounds seen u ids = fold_used seen u ids None

named_by : (b : Bool) (x y : Option BoxValue) → (if b then Some x else None) ≡ Some y → (b ≡ true) × (x ≡ y)
named_by true x y e = (refl, cc)
named_by false x y e = absurd cc

-- what stands beside an id: it is named, and these are its bounds
used_is : (seen : SeenStructures) (u : ℕ) (ids : List ℕ) (x : Option BoxValue) → bounds_in (all_used seen ids) u ≡ Some x
    → (has ids u ≡ true) × (option_and_then bounds_of (seen u) ≡ x)
used_is seen u ids x e = named_by (has ids u) (option_and_then bounds_of (seen u)) x (sym (used_bounds seen u ids) ∙ e)

-- ---- the info by which something is built

abbrev built_now : ℕ → ℕ → Built
built_now i k = record { stamp = i; info = k; written = i }

info_found : (rec : List Command) (i k : ℕ) (infos : List Info) (info : Info) → slice_get rec i ≡ Some (commands.Build infos) → slice_get infos k ≡ Some info
    → info_of rec (record { stamp = i; info = k; written = i }) ≡ Some info
info_found rec i k infos info c is = ap (option_and_then (info_in k)) c ∙ is

uses_found : (rec : List Command) (i k : ℕ) (infos : List Info) (info : Info) → slice_get rec i ≡ Some (commands.Build infos) → slice_get infos k ≡ Some info
    → uses_of rec (record { stamp = i; info = k; written = i }) ≡ info.uses
uses_found rec i k infos info c is =
    ap (λ found. option_map_or (uses_in k) found []) c ∙ ap (λ found. option_map_or (λ (x : Info). x.uses) found []) is

first_order : (i k : ℕ) → IsEarlier i (k + 1) (record { stamp = i; info = k; written = i })
first_order i k = record { written = omega arith; stamp = omega arith; info = λ same. omega arith }

-- ---- bottoms

no_top : (c : bottoms.ContentsValue) (t : tops.TopValue) → Bottom c ≡ Top t → ⊥
no_top c t e = absurd cc

pub bottom_stored : (rec : List Command) (i k : ℕ) (z : Status) (m : Memory) (dst : ℕ) (c : bottoms.ContentsValue) → IsLiveOf kinds.Bottom (look z.structures dst)
    → IsFree rec i z.structures dst → Ties rec i k z m → Ties rec i (k + 1) (fill_in dst (built_by i k) z) (filled_memory dst (Bottom c) m)
bottom_stored rec i k z m dst c live free ties =
    let b : Built = record { stamp = i; info = k; written = i } in
    let fills : Fills rec live.structure.kind b (Some (Bottom c)) = subst (λ kind. Fills rec kind b (Some (Bottom c))) (sym live.same_kind) refl in
    ties_filled rec i k (k + 1) z m dst live.structure b (Bottom c) live.is_it (omega arith) free (record {
      order = first_order i k;
      written = refl;
      fills = fills;
      bounds = λ t u x top is in_use fresh. absurd (no_top c t is);
    }) ties

-- ---- tops

-- a structure that is seen has the bounds that are seen
seen_bounds : (b : Bool) (found : Option Contents) (x : Option BoxValue) → b ≡ true → IsSome (option_and_then as_bottom found)
    → option_and_then bounds_of (if b then found else None) ≡ x → IsBounded x found
seen_bounds false found x named is e = absurd cc
seen_bounds true None x named is e = absurd cc
seen_bounds true (Some (Bottom c)) x named is e = record { bottom = c; is_it = refl; bounds = sym e }
seen_bounds true (Some (Top t)) x named is e = absurd cc

some_and : {X : Type 0} (found : Option X) (P : X → Type 0) → IsSomeAnd found P → IsSome found
some_and None P is = absurd is
some_and (Some x) P is = refl

active_in : (used : List Used) (i : Option InstanceValue) → IfSome i (IsActive used) → IfSome i (λ (v : InstanceValue). IsSome (bounds_in used v.id))
active_in used None is = tt
active_in used (Some v) is = some_and (bounds_in used v.id) (KeepsBounds v.matrix) is.kept

in_use_as : (used others : List Used) (i : Option InstanceValue) → used ≡ others → IfSome i (λ (v : InstanceValue). IsSome (bounds_in used v.id))
    → IfSome i (λ (v : InstanceValue). IsSome (bounds_in others v.id))
in_use_as used others i same is = subst (λ us. IfSome i (λ (v : InstanceValue). IsSome (bounds_in us v.id))) same is

-- a top whose active instances refer to structures in use, those that its command names
top_filled : (rec : List Command) (i k : ℕ) (z : Status) (m : Memory) (uses : List ℕ) (dst : ℕ) (t : tops.TopValue)
    → uses_of rec (built_now i k) ≡ uses → (is_deserialized rec (built_now i k) ≡ false → IsAsMany rec (built_now i k) t)
    → IsLiveOf kinds.Top (look z.structures dst) → ((u : ℕ) → has uses u ≡ true → IsBuiltOf kinds.Bottom (look z.structures u))
    → IsFree rec i z.structures dst → IsLinkedTop (all_used (see_structures m uses) uses) t → Ties rec i k z m
    → Ties rec i (k + 1) (fill_in dst (built_by i k) z) (filled_memory dst (Top t) m)
top_filled rec i k z m uses dst t named count live are_built free links ties =
    let seen : SeenStructures = see_structures m uses in
    let b : Built = record { stamp = i; info = k; written = i } in
    let by : IsTopBy rec b (Some (Top t)) = record {
      top = t;
      is_it = refl;
      in_use = λ u x there.
          ap (λ ids. has ids u) named ∙ (used_is seen u uses x (ap (λ us. bounds_in us u) (sym links.same) ∙ there)).0;
      active = λ n d less. in_use_as (all_used seen uses) t.used _ (sym links.same) (links.active n d less);
      count = count;
    } in
    let fills : Fills rec live.structure.kind b (Some (Top t)) = subst (λ kind. Fills rec kind b (Some (Top t))) (sym live.same_kind) by in
    ties_filled rec i k (k + 1) z m dst live.structure b (Top t) live.is_it (omega arith) free (record {
      order = first_order i k;
      written = refl;
      fills = fills;
      bounds = λ s u x top same in_use fresh.
          let equal : t ≡ s = cc in
          let found = used_is seen u uses x (ap (λ us. bounds_in us u) (sym links.same ∙ ap (λ (y : tops.TopValue). y.used) equal) ∙ in_use) in
          let bottom = are_built u found.0 in
          seen_bounds (has uses u) (m (ContentsAt u)) x found.0 (ties.contents.held u kinds.Bottom bottom.by bottom.built) found.1;
    }) ties

-- a top that an info builds
linked_of : (used : List Used) (count : ℕ) (t : tops.TopValue) → IsReadTop used count t → IsLinkedTop used t
linked_of used count t read = record { same = read.same; active = λ n d less. active_in used _ (read.read.each n d less).limits }

pub top_stored : (rec : List Command) (i k : ℕ) (z : Status) (m : Memory) (infos : List Info) (info : Info) (instances : Geometry) (t : tops.TopValue)
    → slice_get rec i ≡ Some (commands.Build infos) → slice_get infos k ≡ Some info → info.geometries ≡ instances ∷ []
    → IsLiveOf kinds.Top (look z.structures info.dst) → ((u : ℕ) → has info.uses u ≡ true → IsBuiltOf kinds.Bottom (look z.structures u))
    → IsFree rec i z.structures info.dst → IsReadTop (all_used (see_structures m info.uses) info.uses) (count_of instances) t → Ties rec i k z m
    → Ties rec i (k + 1) (fill_in info.dst (built_by i k) z) (filled_memory info.dst (Top t) m)
top_stored rec i k z m infos info instances t command is geometries live are_built free read ties =
    top_filled rec i k z m info.uses info.dst t (uses_found rec i k infos info command is)
    (λ own. record { by = info; info = info_found rec i k infos info command is; count = read.read.as_many ∙ (omega arith ∙ sym (ap primitives geometries)) })
    live are_built free (linked_of (all_used (see_structures m info.uses) info.uses) (count_of instances) t read) ties

-- ---- serialized copies

-- what a `deserialize` names
uses_named : (rec : List Command) (i : ℕ) (src : Stretch) (dst : ℕ) (uses : List ℕ) → slice_get rec i ≡ Some (commands.Deserialize src dst uses)
    → uses_of rec (built_now i 0) ≡ uses
uses_named rec i src dst uses c = ap (λ found. option_map_or (uses_in 0) found []) c

comes_so : (rec : List Command) (i : ℕ) (src : Stretch) (dst : ℕ) (uses : List ℕ) → slice_get rec i ≡ Some (commands.Deserialize src dst uses)
    → is_deserialized rec (built_now i 0) ≡ true
comes_so rec i src dst uses c = ap (λ found. option_map_or is_deserialize found false) c

never_own : {X : Type 0} (b : Bool) → b ≡ true → b ≡ false → X
never_own b e f = absurd cc

restored_stored : (rec : List Command) (i : ℕ) (z : Status) (m : Memory) (src : Stretch) (dst : ℕ) (uses : List ℕ) (kind : StructureKind) (o : Output)
    → slice_get rec i ≡ Some (commands.Deserialize src dst uses) → IsLiveOf kind (look z.structures dst)
    → ((u : ℕ) → has uses u ≡ true → IsBuiltOf kinds.Bottom (look z.structures u)) → MayRestoreKind kind (all_used (see_structures m uses) uses) o → Ties rec i 0 z m
    → Ties rec i 1 (fill_in dst (built_by i 0) z) (put (DeserializeStructure (stretch_range src) dst uses) (Gives o) m)
restored_stored rec i z m src dst uses kinds.Bottom o command live are_built gives ties =
    subst (λ p. Ties rec i 1 (fill_in dst (built_by i 0) z) (put (DeserializeStructure (stretch_range src) dst uses) (Gives p) m)) (sym gives.1)
    (bottom_stored rec i 0 z m dst gives.0 live (none_yet rec i dst z.structures (λ q. m (ContentsAt q)) ties.contents) ties)
restored_stored rec i z m src dst uses kinds.Top o command live are_built gives ties =
    subst (λ p. Ties rec i 1 (fill_in dst (built_by i 0) z) (put (DeserializeStructure (stretch_range src) dst uses) (Gives p) m)) (sym gives.1.0)
    (top_filled rec i 0 z m uses dst gives.0 (uses_named rec i src dst uses command)
    (λ own. never_own (is_deserialized rec (built_now i 0)) (comes_so rec i src dst uses command) own)
    live are_built (none_yet rec i dst z.structures (λ q. m (ContentsAt q)) ties.contents) gives.1.1 ties)

-- what stands under a live id
the_structure : (found : Option LiveStructure) → IsSome found → (s : LiveStructure) × (found ≡ Some s)
the_structure None is = absurd cc
the_structure (Some s) is = (s, refl)

pub structure_restored : (rec : List Command) (i : ℕ) (z : Status) (m : Memory) (src : Stretch) (dst : ℕ) (uses : List ℕ) (o : Output)
    → slice_get rec i ≡ Some (commands.Deserialize src dst uses) → MayDeserialize z (stretch_range src) dst uses
    → MayGive (DeserializeStructure (stretch_range src) dst uses) m o → Ties rec i 0 z m
    → Ties rec i 1 (fill_in dst (built_by i 0) z) (put (DeserializeStructure (stretch_range src) dst uses) (Gives o) m)
structure_restored rec i z m src dst uses o command may gives ties =
    let found = the_structure (look z.structures dst) may.live in
    let form : m (StructureAt dst) ≡ Some (form_of found.0) = ties.forms.form dst ∙ ap (option_map form_of) found.1 in
    restored_stored rec i z m src dst uses found.0.kind o command (record { structure = found.0; is_it = found.1; same_kind = refl }) may.are_built
    (subst (λ f. MayRestore f (all_used (see_structures m uses) uses) o) form gives) ties

-- ---- copies

copied_fills : (rec : List Command) (i : ℕ) (kind : StructureKind) (b : Built) (found : Option Contents) → Fills rec kind b found
    → Fills rec kind (record { stamp = b.stamp; info = b.info; written = i }) found
copied_fills rec i kinds.Bottom b found fills = fills
copied_fills rec i kinds.Top b found fills = record {
  top = fills.top;
  is_it = fills.is_it;
  in_use = fills.in_use;
  active = fills.active;
  count = λ own. let many = fills.count own in record { by = many.by; info = many.info; count = many.count };
}

source_by : (found : Option LiveStructure) (kind : StructureKind) (b : Built) → IsBuilt found kind b → option_and_then (λ (s : LiveStructure). s.built) found ≡ Some b
source_by found kind b is = ap (option_and_then (λ (s : LiveStructure). s.built)) is.is_it ∙ is.built

pub copy_stored : (rec : List Command) (i : ℕ) (z : Status) (m : Memory) (mode : CopyMode) (src dst : ℕ) (c : Contents) → MayCopy z mode src dst
    → m (ContentsAt src) ≡ Some c → Ties rec i 0 z m → Ties rec i 0 (fill_in dst (copied_by i (built_at z src)) z) (filled_memory dst c m)
copy_stored rec i z m mode src dst c may is ties =
    let b : Built = may.source.by in
    let p : Built = record { stamp = b.stamp; info = b.info; written = i } in
    let order = ties.contents.order src may.kind b may.source.built in
    let stamp : b.stamp ≤ b.written = order.stamp in
    let last : b.written ≤ i = order.written in
    let live = may.target in
    let held : Fills rec may.kind p (Some c) = subst (Fills rec may.kind p) is (copied_fills rec i may.kind b (m (ContentsAt src)) (ties.contents.held src may.kind b may.source.built)) in
    let filled : Ties rec i 0 (fill_in dst (Some p) z) (filled_memory dst c m) = ties_filled rec i 0 0 z m dst live.structure p c live.is_it (omega arith)
    (none_yet rec i dst z.structures (λ q. m (ContentsAt q)) ties.contents)
    (record {
      order = record { written = omega arith; stamp = omega (arith, stamp, last); info = order.info };
      written = refl;
      fills = subst (λ kind. Fills rec kind p (Some c)) (sym live.same_kind) held;
      bounds = λ t u x top same in_use fresh.
          ties.contents.bounds src b t u x (subst (λ kind. IsBuilt (look z.structures src) kind b) (sym live.same_kind ∙ top) may.source.built)
          (is ∙ ap Some same) in_use fresh;
    }) ties in
    subst (λ built. Ties rec i 0 (fill_in dst built z) (filled_memory dst c m)) (sym (ap (copied_by i) (source_by (look z.structures src) may.kind b may.source.built))) filled

-- ---- by action

pub bottom_built : (rec : List Command) (i k : ℕ) (z : Status) (m : Memory) (build : Building) (flags : BuildFlags) (gs : List Geometry) (o : Output)
    → MayBuildBottom z build gs → IsFree rec i z.structures build.dst → MayGive (BuildBottom build flags gs) m o → Ties rec i k z m
    → Ties rec i (k + 1) (fill_in build.dst (built_by i k) z) (put (BuildBottom build flags gs) (Gives o) m)
bottom_built rec i k z m build flags gs o may free gives ties =
    subst (λ p. Ties rec i (k + 1) (fill_in build.dst (built_by i k) z) (put (BuildBottom build flags gs) (Gives p) m)) (sym gives.1)
    (bottom_stored rec i k z m build.dst gives.0 may.dst free ties)

pub bottom_updated : (rec : List Command) (i k : ℕ) (z : Status) (m : Memory) (build : Building) (src : ℕ) (gs : List Geometry) (o : Output)
    → MayBuildBottom z build gs → IsFree rec i z.structures build.dst → MayGive (UpdateBottom build src gs) m o → Ties rec i k z m
    → Ties rec i (k + 1) (fill_in build.dst (built_by i k) z) (put (UpdateBottom build src gs) (Gives o) m)
bottom_updated rec i k z m build src gs o may free gives ties =
    subst (λ p. Ties rec i (k + 1) (fill_in build.dst (built_by i k) z) (put (UpdateBottom build src gs) (Gives p) m)) (sym gives.1)
    (bottom_stored rec i k z m build.dst gives.0 may.dst free ties)

pub top_built : (rec : List Command) (i k : ℕ) (z : Status) (m : Memory) (infos : List Info) (info : Info) (build : Building) (flags : BuildFlags) (instances : Geometry) (o : Output)
    → slice_get rec i ≡ Some (commands.Build infos) → slice_get infos k ≡ Some info → info.geometries ≡ instances ∷ [] → build.dst ≡ info.dst
    → MayBuildTop rec z build info.uses instances → IsFree rec i z.structures info.dst → MayGive (BuildTop build flags info.uses instances) m o → Ties rec i k z m
    → Ties rec i (k + 1) (fill_in info.dst (built_by i k) z) (put (BuildTop build flags info.uses instances) (Gives o) m)
top_built rec i k z m infos info build flags instances o command is geometries dst may free gives ties =
    subst (λ p. Ties rec i (k + 1) (fill_in info.dst (built_by i k) z) (put (BuildTop build flags info.uses instances) (Gives p) m)) (sym gives.1.0)
    (subst (λ d. Ties rec i (k + 1) (fill_in info.dst (built_by i k) z) (filled_memory d (Top gives.0) m)) (sym dst)
    (top_stored rec i k z m infos info instances gives.0 command is geometries (subst (λ d. IsLiveOf kinds.Top (look z.structures d)) dst may.dst) may.are_built free gives.1.1 ties))

pub top_updated : (rec : List Command) (i k : ℕ) (z : Status) (m : Memory) (infos : List Info) (info : Info) (build : Building) (src : ℕ) (instances : Geometry) (o : Output)
    → slice_get rec i ≡ Some (commands.Build infos) → slice_get infos k ≡ Some info → info.geometries ≡ instances ∷ [] → build.dst ≡ info.dst
    → MayBuildTop rec z build info.uses instances → IsFree rec i z.structures info.dst → MayGive (UpdateTop build src info.uses instances) m o → Ties rec i k z m
    → Ties rec i (k + 1) (fill_in info.dst (built_by i k) z) (put (UpdateTop build src info.uses instances) (Gives o) m)
top_updated rec i k z m infos info build src instances o command is geometries dst may free gives ties =
    subst (λ p. Ties rec i (k + 1) (fill_in info.dst (built_by i k) z) (put (UpdateTop build src info.uses instances) (Gives p) m)) (sym gives.1.0)
    (subst (λ d. Ties rec i (k + 1) (fill_in info.dst (built_by i k) z) (filled_memory d (Top gives.0) m)) (sym dst)
    (top_stored rec i k z m infos info instances gives.0 command is geometries (subst (λ d. IsLiveOf kinds.Top (look z.structures d)) dst may.dst) may.are_built free gives.1.1 ties))

pub structure_copied : (rec : List Command) (i : ℕ) (z : Status) (m : Memory) (mode : CopyMode) (src dst : ℕ) (o : Output) → MayCopy z mode src dst
    → MayGive (CopyStructure mode src dst) m o → Ties rec i 0 z m
    → Ties rec i 0 (fill_in dst (copied_by i (built_at z src)) z) (put (CopyStructure mode src dst) (Gives o) m)
structure_copied rec i z m mode src dst o may gives ties =
    subst (λ p. Ties rec i 0 (fill_in dst (copied_by i (built_at z src)) z) (put (CopyStructure mode src dst) (Gives p) m)) (sym gives.1.1)
    (copy_stored rec i z m mode src dst gives.0 may gives.1.0 ties)
