-- The infos of a build, which are apart, keep the invariant one after the other.
use Rattle.std.proofs.Common.{◌≡◌, ◌<◌, ◌+◌, ◌++◌, ℕ, suc, Bool, true, false, List, [], ◌∷◌, Option, Some, None, refl, sym, ◌∙◌, ap, subst, inl, inr, arith}
use Rattle.std.specs.Prelude.{if◌then◌else◌, slice_get, ◌==◌, ◌||◌}
use Rattle.std.specs.List.{list_any}
use Rattle.std.specs.Option.{option_map, option_map_or}
use Rattle.std.proofs.lemmas.Bool.{cases_eq, eq-eqb}
use Rattle.ray_cmd.specs.declared.build_mode.BuildMode.{BuildMode}
use Rattle.ray_cmd.specs.declared.build_mode.BuildMode.TheVariants as modes
use Rattle.ray_cmd.specs.declared.command.Command.{Command}
use Rattle.ray_cmd.specs.declared.command.Command.TheVariants as commands
use Rattle.ray_cmd.specs.declared.geometry.Geometry.{Geometry}
use Rattle.ray_cmd.specs.declared.info.Info.{Info}
use Rattle.ray_cmd.specs.declared.place.Place.TheVariants.{Part}
use Rattle.ray_cmd.specs.declared.structure_kind.StructureKind.{StructureKind}
use Rattle.ray_cmd.specs.declared.structure_kind.StructureKind.TheVariants as kinds
use Rattle.ray_rules.specs.declared.built.Built.{Built}
use Rattle.ray_rules.specs.declared.live_structure.LiveStructure.{LiveStructure}
use Rattle.ray_rules.specs.Conflicts.{conflict, first_conflict, is_source, reads_structure}
use Rattle.ray_rules.specs.Ids.{look}
use Rattle.ray_rules.specs.Origins.{uses_in, uses_of}
use Rattle.ray_rules.specs.Ranges.{meets, scratch_range}
use Rattle.ray_rules.specs.Status.{Status, after_infos, built_by, fill_in, structure_built, with_built}
use Rattle.ray_action.specs.Areas.{has}
use Rattle.ray_action.specs.Memory.{Memory}
use Rattle.ray_action.specs.Action.{Action, Building}
use Rattle.ray_action.specs.Outcomes.{Output, Gives}
use Rattle.ray_action.specs.Pieces.{bottom_action, building, info_action, info_action_by, info_action_on, info_actions, top_action, top_action_of}
use Rattle.ray_action.specs.Storing.{put}
use Rattle.ray_ready.proofs.Maps.{look_with, there}
use Rattle.ray_ready.proofs.Ties.{IsBuilt, Ties}
use Rattle.ray_ready.proofs.Filling.{IsFree}
use Rattle.ray_ready.proofs.Storing.{ties_later}
use Rattle.ray_ready.proofs.Allowed.{IsAllowed, IsBuiltOf, IsLiveOf, IsSource, MayBuildBottom, MayBuildTop}
use Rattle.ray_ready.proofs.Ready.{allowed_ready}
use Rattle.ray_ready.proofs.Giving.{MayGive}
use Rattle.ray_ready.proofs.Building.{bottom_built, bottom_updated, top_built, top_updated}
use Rattle.ray_ready.proofs.Leading.{Leads}

-- ---- apart

-- a later info neither writes what an earlier one writes or may refer to, nor reads what it writes
pub record IsApart (x y : Info) : Type 0 where
  pub dst : y.dst ≡ x.dst → ⊥
  pub source : is_source y.src x.dst ≡ false
  pub uses : has y.uses x.dst ≡ false
  pub back : has x.uses y.dst ≡ false

abbrev pub AreApartFrom : Info → List Info → Type 0
AreApartFrom x [] = Unit {0}
AreApartFrom x (y ∷ ys) = IsApart x y × AreApartFrom x ys

abbrev pub AreApart : List Info → Type 0
AreApart [] = Unit {0}
AreApart (x ∷ xs) = AreApartFrom x xs × AreApart xs

or_first : (a b : Bool) → (a || b) ≡ false → a ≡ false
or_first true b e = e
or_first false b e = refl

or_second : (a b : Bool) → (a || b) ≡ false → b ≡ false
or_second true b e = absurd cc
or_second false b e = e

differ : (a b : ℕ) → (a == b) ≡ false → a ≡ b → ⊥
differ a b e same = let is : (a == b) ≡ true = eq-eqb a b same in absurd cc

apart_by : (x y : Info) → conflict y x ≡ false → IsApart x y
apart_by x y e =
    let rest = or_second (y.dst == x.dst) (reads_structure y x.dst || (reads_structure x y.dst || meets (scratch_range y) (scratch_range x))) e in
    let reads = or_first (reads_structure y x.dst) (reads_structure x y.dst || meets (scratch_range y) (scratch_range x)) rest in
    let others = or_second (reads_structure y x.dst) (reads_structure x y.dst || meets (scratch_range y) (scratch_range x)) rest in
    let back = or_first (reads_structure x y.dst) (meets (scratch_range y) (scratch_range x)) others in record {
      dst = differ y.dst x.dst (or_first (y.dst == x.dst) (reads_structure y x.dst || (reads_structure x y.dst || meets (scratch_range y) (scratch_range x))) e);
      source = or_first (is_source y.src x.dst) (has y.uses x.dst) reads;
      uses = or_second (is_source y.src x.dst) (has y.uses x.dst) reads;
      back = or_second (is_source x.src y.dst) (has x.uses y.dst) back;
    }

-- none of those before conflicts with a later one
abbrev AreClear : List Info → List Info → Type 0
AreClear before [] = Unit {0}
AreClear before (y ∷ ys) = (list_any (conflict y) before ≡ false) × AreClear before ys

last_of : (test : Info → Bool) (before : List Info) (x : Info) → list_any test (before ++ x ∷ []) ≡ false → test x ≡ false
last_of test [] x e = or_first (test x) false e
last_of test (b ∷ before) x e = last_of test before x (or_second (test b) (list_any test (before ++ x ∷ [])) e)

front_of : (test : Info → Bool) (before : List Info) (x : Info) → list_any test (before ++ x ∷ []) ≡ false → list_any test before ≡ false
front_of test [] x e = refl
front_of test (b ∷ before) x e = front_by (test b) _ _ e (front_of test before x)
  where
    front_by : (a b c : Bool) → (a || b) ≡ false → (b ≡ false → c ≡ false) → (a || c) ≡ false
    front_by true b c h k = h
    front_by false b c h k = k h

apart_from : (before : List Info) (x : Info) (ys : List Info) → AreClear (before ++ x ∷ []) ys → AreApartFrom x ys
apart_from before x [] clear = tt
apart_from before x (y ∷ ys) clear = (apart_by x y (last_of (conflict y) before x clear.0), apart_from before x ys clear.1)

clear_front : (before : List Info) (x : Info) (ys : List Info) → AreClear (before ++ x ∷ []) ys → AreClear before ys
clear_front before x [] clear = tt
clear_front before x (y ∷ ys) clear = (front_of (conflict y) before x clear.0, clear_front before x ys clear.1)

no_conflict : (b : Bool) (k : ℕ) (rest : Option ℕ) → (if b then Some k else rest) ≡ None → (b ≡ false) × (rest ≡ None)
no_conflict true k rest e = absurd cc
no_conflict false k rest e = (refl, e)

clear_and_apart : (before : List Info) (k : ℕ) (infos : List Info) → first_conflict before k infos ≡ None → AreClear before infos × AreApart infos
clear_and_apart before k [] e = (tt, tt)
clear_and_apart before k (x ∷ xs) e =
    let here = no_conflict (list_any (conflict x) before) k (first_conflict (before ++ x ∷ []) (k + 1) xs) e in
    let rest = clear_and_apart (before ++ x ∷ []) (k + 1) xs here.1 in
    ((here.0, clear_front before x xs rest.0), (apart_from before x xs rest.0, rest.1))

unmapped : (found : Option ℕ) → option_map Part found ≡ None → found ≡ None
unmapped None e = refl
unmapped (Some k) e = absurd cc

pub infos_apart : (infos : List Info) → option_map Part (first_conflict [] 0 infos) ≡ None → AreApart infos
infos_apart infos e = (clear_and_apart [] 0 infos (unmapped (first_conflict [] 0 infos) e)).1

-- ---- what is allowed stays allowed while another structure is filled

record IsSameBut (d : ℕ) (z w : Status) : Type 0 where
  buffers : w.buffers ≡ z.buffers
  other : (q : ℕ) → (q ≡ d → ⊥) → look w.structures q ≡ look z.structures q

same_but : (d : ℕ) (b : Option Built) (z : Status) (found : Option LiveStructure) → IsSameBut d z (with_built d b z found)
same_but d b z None = record { buffers = refl; other = λ q differs. refl }
same_but d b z (Some s) = record {
  buffers = refl;
  other = λ q differs. look_with d (structure_built b s) z.structures q ∙ there q d _ _ differs;
}

not_used : (uses : List ℕ) (d u : ℕ) → has uses d ≡ false → has uses u ≡ true → u ≡ d → ⊥
not_used uses d u none some same = let is : has uses d ≡ true = ap (has uses) (sym same) ∙ some in absurd cc

bottom_still : (d : ℕ) (z w : Status) (build : Building) (gs : List Geometry) → IsSameBut d z w → (build.dst ≡ d → ⊥) → MayBuildBottom z build gs → MayBuildBottom w build gs
bottom_still d z w build gs same differs may = record {
  dst = subst (IsLiveOf kinds.Bottom) (sym (same.other build.dst differs)) may.dst;
  buffers = same.buffers ∙ may.buffers;
  limits = may.limits;
  readable = may.readable;
}

top_still : (rec : List Command) (d : ℕ) (z w : Status) (build : Building) (uses : List ℕ) (instances : Geometry) → IsSameBut d z w → (build.dst ≡ d → ⊥)
    → has uses d ≡ false → MayBuildTop rec z build uses instances → MayBuildTop rec w build uses instances
top_still rec d z w build uses instances same differs none may = record {
  dst = subst (IsLiveOf kinds.Top) (sym (same.other build.dst differs)) may.dst;
  buffers = same.buffers ∙ may.buffers;
  limits = may.limits;
  are_built = λ u named. subst (IsBuiltOf kinds.Bottom) (sym (same.other u (not_used uses d u none named))) (may.are_built u named);
  readable = may.readable;
}

source_still : (rec : List Command) (d : ℕ) (z w : Status) (src : ℕ) (instances : Geometry) → IsSameBut d z w → (src ≡ d → ⊥) → IsSource rec z src instances → IsSource rec w src instances
source_still rec d z w src instances same differs is = record {
  by = is.by;
  built = subst (λ found. IsBuilt found kinds.Top is.by) (sym (same.other src differs)) is.built;
  own = is.own;
  as_many = is.as_many;
}

bottom_action_still : (rec : List Command) (d : ℕ) (z w : Status) (build : Building) (info : Info) (mode : BuildMode) (src : Option ℕ) → IsSameBut d z w
    → (build.dst ≡ d → ⊥) → is_source src d ≡ false → IsAllowed rec z (bottom_action build info mode src) → IsAllowed rec w (bottom_action build info mode src)
bottom_action_still rec d z w build info modes.Build src same differs none may = (bottom_still d z w build info.geometries same differs may.0, may.1)
bottom_action_still rec d z w build info modes.Update (Some src) same differs none may = (
  subst (IsBuiltOf kinds.Bottom) (sym (same.other src (differ src d none))) may.0,
  bottom_still d z w build info.geometries same differs may.1,
)
bottom_action_still rec d z w build info modes.Update None same differs none may = absurd may

top_action_still : (rec : List Command) (d : ℕ) (z w : Status) (build : Building) (info : Info) (instances : Geometry) (mode : BuildMode) (src : Option ℕ) → IsSameBut d z w
    → (build.dst ≡ d → ⊥) → is_source src d ≡ false → has info.uses d ≡ false → IsAllowed rec z (top_action_of build info instances mode src)
    → IsAllowed rec w (top_action_of build info instances mode src)
top_action_still rec d z w build info instances modes.Build src same differs none uses may =
    (top_still rec d z w build info.uses instances same differs uses may.0, may.1)
top_action_still rec d z w build info instances modes.Update (Some src) same differs none uses may =
    (source_still rec d z w src instances same (differ src d none) may.0, top_still rec d z w build info.uses instances same differs uses may.1)
top_action_still rec d z w build info instances modes.Update None same differs none uses may = absurd may

tops_still : (rec : List Command) (d : ℕ) (z w : Status) (build : Building) (info : Info) (gs : List Geometry) → IsSameBut d z w
    → (build.dst ≡ d → ⊥) → is_source info.src d ≡ false → has info.uses d ≡ false → IsAllowed rec z (top_action build info gs) → IsAllowed rec w (top_action build info gs)
tops_still rec d z w build info [] same differs none uses may = absurd may
tops_still rec d z w build info (g ∷ []) same differs none uses may = top_action_still rec d z w build info g info.mode info.src same differs none uses may
tops_still rec d z w build info (g ∷ (h ∷ gs)) same differs none uses may = absurd may

kind_still : (rec : List Command) (d : ℕ) (z w : Status) (build : Building) (info : Info) (kind : StructureKind) → IsSameBut d z w
    → (build.dst ≡ d → ⊥) → is_source info.src d ≡ false → has info.uses d ≡ false → IsAllowed rec z (info_action_by build info kind) → IsAllowed rec w (info_action_by build info kind)
kind_still rec d z w build info kinds.Bottom same differs none uses may = bottom_action_still rec d z w build info info.mode info.src same differs none may
kind_still rec d z w build info kinds.Top same differs none uses may = tops_still rec d z w build info info.geometries same differs none uses may

action_still : (rec : List Command) (d : ℕ) (z w : Status) (build : Building) (info : Info) (found : Option LiveStructure) → IsSameBut d z w
    → (build.dst ≡ d → ⊥) → is_source info.src d ≡ false → has info.uses d ≡ false → IsAllowed rec z (info_action_on build info found) → IsAllowed rec w (info_action_on build info found)
action_still rec d z w build info None same differs none uses may = absurd may
action_still rec d z w build info (Some s) same differs none uses may = kind_still rec d z w build info s.kind same differs none uses may

-- ---- one info

bottom_action_stored : (rec : List Command) (i k : ℕ) (z : Status) (m : Memory) (build : Building) (info : Info) (mode : BuildMode) (src : Option ℕ) (o : Output)
    → IsAllowed rec z (bottom_action build info mode src) → IsFree rec i z.structures build.dst → MayGive (bottom_action build info mode src) m o → Ties rec i k z m
    → Ties rec i (k + 1) (fill_in build.dst (built_by i k) z) (put (bottom_action build info mode src) (Gives o) m)
bottom_action_stored rec i k z m build info modes.Build src o may free e ties = bottom_built rec i k z m build info.flags info.geometries o may.0 free e ties
bottom_action_stored rec i k z m build info modes.Update (Some src) o may free e ties = bottom_updated rec i k z m build src info.geometries o may.1 free e ties
bottom_action_stored rec i k z m build info modes.Update None o may free e ties = absurd may

-- where info number k of the command is this one
record IsInfo (rec : List Command) (i k : ℕ) (infos : List Info) (info : Info) : Type 0 where
  command : slice_get rec i ≡ Some (commands.Build infos)
  is_it : slice_get infos k ≡ Some info

top_action_stored : (rec : List Command) (i k : ℕ) (z z0 : Status) (m : Memory) (infos : List Info) (info : Info) (instances : Geometry) (mode : BuildMode) (src : Option ℕ) (o : Output)
    → IsInfo rec i k infos info → info.geometries ≡ instances ∷ [] → IsAllowed rec z (top_action_of (building z0 k info) info instances mode src)
    → IsFree rec i z.structures info.dst → MayGive (top_action_of (building z0 k info) info instances mode src) m o → Ties rec i k z m
    → Ties rec i (k + 1) (fill_in info.dst (built_by i k) z) (put (top_action_of (building z0 k info) info instances mode src) (Gives o) m)
top_action_stored rec i k z z0 m infos info instances modes.Build src o is gs may free e ties =
    top_built rec i k z m infos info (building z0 k info) info.flags instances o is.command is.is_it gs refl may.0 free e ties
top_action_stored rec i k z z0 m infos info instances modes.Update (Some src) o is gs may free e ties =
    top_updated rec i k z m infos info (building z0 k info) src instances o is.command is.is_it gs refl may.1 free e ties
top_action_stored rec i k z z0 m infos info instances modes.Update None o is gs may free e ties = absurd may

tops_stored : (rec : List Command) (i k : ℕ) (z z0 : Status) (m : Memory) (infos : List Info) (info : Info) (gs : List Geometry) (o : Output)
    → IsInfo rec i k infos info → info.geometries ≡ gs → IsAllowed rec z (top_action (building z0 k info) info gs)
    → IsFree rec i z.structures info.dst → MayGive (top_action (building z0 k info) info gs) m o → Ties rec i k z m
    → Ties rec i (k + 1) (fill_in info.dst (built_by i k) z) (put (top_action (building z0 k info) info gs) (Gives o) m)
tops_stored rec i k z z0 m infos info [] o is same may free e ties = absurd may
tops_stored rec i k z z0 m infos info (g ∷ []) o is same may free e ties =
    top_action_stored rec i k z z0 m infos info g info.mode info.src o is same may free e ties
tops_stored rec i k z z0 m infos info (g ∷ (h ∷ gs)) o is same may free e ties = absurd may

kind_stored : (rec : List Command) (i k : ℕ) (z z0 : Status) (m : Memory) (infos : List Info) (info : Info) (kind : StructureKind) (o : Output)
    → IsInfo rec i k infos info → IsAllowed rec z (info_action_by (building z0 k info) info kind)
    → IsFree rec i z.structures info.dst → MayGive (info_action_by (building z0 k info) info kind) m o → Ties rec i k z m
    → Ties rec i (k + 1) (fill_in info.dst (built_by i k) z) (put (info_action_by (building z0 k info) info kind) (Gives o) m)
kind_stored rec i k z z0 m infos info kinds.Bottom o is may free e ties =
    bottom_action_stored rec i k z m (building z0 k info) info info.mode info.src o may free e ties
kind_stored rec i k z z0 m infos info kinds.Top o is may free e ties =
    tops_stored rec i k z z0 m infos info info.geometries o is refl may free e ties

info_stored : (rec : List Command) (i k : ℕ) (z z0 : Status) (m : Memory) (infos : List Info) (info : Info) (found : Option LiveStructure) (o : Output)
    → IsInfo rec i k infos info → IsAllowed rec z (info_action_on (building z0 k info) info found)
    → IsFree rec i z.structures info.dst → MayGive (info_action_on (building z0 k info) info found) m o → Ties rec i k z m
    → Ties rec i (k + 1) (fill_in info.dst (built_by i k) z) (put (info_action_on (building z0 k info) info found) (Gives o) m)
info_stored rec i k z z0 m infos info None o is may free e ties = absurd may
info_stored rec i k z z0 m infos info (Some s) o is may free e ties = kind_stored rec i k z z0 m infos info s.kind o is may free e ties

-- ---- one after the other

abbrev pub AreAllowedFrom : List Command → Status → Status → ℕ → List Info → Type 0
AreAllowedFrom rec z z0 k [] = Unit {0}
AreAllowedFrom rec z z0 k (info ∷ infos) = IsAllowed rec z (info_action z0 k info) × AreAllowedFrom rec z z0 (k + 1) infos

all_still : (rec : List Command) (z w z0 : Status) (k : ℕ) (x : Info) (infos : List Info) → IsSameBut x.dst z w → AreApartFrom x infos
    → AreAllowedFrom rec z z0 k infos → AreAllowedFrom rec w z0 k infos
all_still rec z w z0 k x [] same apart are = tt
all_still rec z w z0 k x (y ∷ ys) same apart are = (
  action_still rec x.dst z w (building z0 k y) y (look z0.structures y.dst) same apart.0.dst apart.0.source apart.0.uses are.0,
  all_still rec z w z0 (k + 1) x ys same apart.1 are.1,
)

-- an info may refer to none of the structures that these write
abbrev pub RefersToNone : Info → List Info → Type 0
RefersToNone x [] = Unit {0}
RefersToNone x (y ∷ ys) = (has x.uses y.dst ≡ false) × RefersToNone x ys

backwards : (x : Info) (ys : List Info) → AreApartFrom x ys → RefersToNone x ys
backwards x [] apart = tt
backwards x (y ∷ ys) apart = (apart.0.back, backwards x ys apart.1)

free_by : (found : Option Info) (dst : ℕ) → ((x : Info) → found ≡ Some x → has x.uses dst ≡ false)
    → has (option_map_or (λ (x : Info). x.uses) found []) dst ≡ false
free_by None dst each = refl
free_by (Some x) dst each = each x refl

free_now : (rec : List Command) (i k : ℕ) (z : Status) (m : Memory) (infos : List Info) (dst : ℕ) → slice_get rec i ≡ Some (commands.Build infos)
    → ((j : ℕ) (x : Info) → j < k → slice_get infos j ≡ Some x → has x.uses dst ≡ false) → Ties rec i k z m → IsFree rec i z.structures dst
free_now rec i k z m infos dst command each ties id b built now =
    let less : b.info < k = (ties.contents.order id kinds.Top b built).info now in
    let uses : uses_of rec b ≡ option_map_or (λ (x : Info). x.uses) (slice_get infos b.info) [] =
    ap (λ found. option_map_or (uses_in b.info) found []) (ap (slice_get rec) now ∙ command) in
    ap (λ ids. has ids dst) uses ∙ free_by (slice_get infos b.info) dst (λ x is. each b.info x less is)

below_next : (j k : ℕ) → j < k + 1 → (j ≡ k → ⊥) → j < k
below_next j k less differs = omega (arith, less, differs)

pub infos_lead : (rec : List Command) (i k : ℕ) (z z0 : Status) (m : Memory) (all infos : List Info) → slice_get rec i ≡ Some (commands.Build all)
    → ((n j : ℕ) (x : Info) → n ≡ k + j → slice_get infos j ≡ Some x → slice_get all n ≡ Some x)
    → AreAllowedFrom rec z z0 k infos → AreApart infos → ((j : ℕ) (x : Info) → j < k → slice_get all j ≡ Some x → RefersToNone x infos)
    → Ties rec i k z m → Leads (info_actions z0 k infos) m (Ties rec (i + 1) 0 (after_infos i k infos z))
infos_lead rec i k z z0 m all [] command at are apart none ties = ties_later rec i k z m ties
infos_lead rec i k z z0 m all (info ∷ infos) command at are apart none ties =
    let a : Action = info_action z0 k info in
    let is : slice_get all k ≡ Some info = at k 0 info (omega arith) refl in
    let free : IsFree rec i z.structures info.dst = free_now rec i k z m all info.dst command (λ j x less is. (none j x less is).0) ties in
    let w : Status = fill_in info.dst (built_by i k) z in (
      allowed_ready rec i k z m a ties are.0,
      λ o e.
          infos_lead rec i (k + 1) w z0 (put a (Gives o) m) all infos command
          (λ n j x same is. at n (suc j) x (omega (arith, same)) is)
          (all_still rec z w z0 (k + 1) info infos (same_but info.dst (built_by i k) z (look z.structures info.dst)) apart.0 are.1) apart.1
          (λ j x less there. elim (cases_eq j k) [
            | inl same ↦
                let equal : info ≡ x = some_same info x (sym is ∙ (sym (ap (slice_get all) same) ∙ there)) in
                subst (λ y. RefersToNone y infos) equal (backwards info infos apart.0)
            | inr differs ↦ (none j x (below_next j k less differs) there).1
          ])
          (info_stored rec i k z z0 m all info (look z0.structures info.dst) o (record { command = command; is_it = is }) are.0 free e ties),
    )
  where
    some_same : (x y : Info) → Some x ≡ Some y → x ≡ y
    some_same x y e = cc
