-- Where a recording is refused by V8, its command breaks V8 at the place of the refusal.
use Rattle.std.proofs.Common.{◌≡◌, ◌==◌, ◌<◌, ℕ, suc, ◌+◌, List, [], ◌∷◌, Bool, true, false, slice_get, Option, Some, None, refl, sym, ◌∙◌, ap, arith, if◌then◌else◌, length, not}
use Rattle.std.specs.List.{position}
use Rattle.std.specs.Option.{option_map, option_or}
use Rattle.std.proofs.lemmas.Bool.{eq-eqb}
use Rattle.std.proofs.lemmas.Option.{none-some, same_Some, slice_get_within}
use Rattle.ray_cmd.specs.declared.command.Command.{Command}
use Rattle.ray_cmd.specs.declared.command.Command.TheVariants as commands
use Rattle.ray_cmd.specs.declared.info.Info.{Info}
use Rattle.ray_cmd.specs.declared.place.Place.{Place}
use Rattle.ray_cmd.specs.declared.place.Place.TheVariants.{Whole, Part}
use Rattle.ray_cmd.specs.declared.refusal.Refusal.{Refusal}
use Rattle.ray_cmd.specs.declared.rule.Rule.{Rule}
use Rattle.ray_cmd.specs.declared.rule.Rule.TheVariants.{V, X}
use Rattle.ray_cmd.specs.declared.structure_kind.StructureKind.TheVariants as kinds
use Rattle.ray_causes.proofs.Telling.{status_next}
use Rattle.ray_builds.proofs.Geometries.{found_at}
use Rattle.ray_builds.specs.Builds.{is_misbuilt_at}
use Rattle.ray_rules.specs.Hazards.{status_at}
use Rattle.ray_rules.specs.Order.{Ordering, barriers}
use Rattle.ray_rules.specs.Phases.{v28_at_end}
use Rattle.ray_rules.specs.Places.{whole}
use Rattle.ray_rules.specs.Refusals.{Row, least_broken, or_after, refused}
use Rattle.ray_rules.specs.Shapes.{is_misshapen, v8}
use Rattle.ray_rules.specs.Status.{Status, after, at_first}
use Rattle.ray_rules.specs.Verdict.{rule_refusal, rule_refusal_from, rule_refusal_of, rule_table}

-- ---- the row of a rule

-- the number of a rule, 0 for a data rule
abbrev number_of : Rule → ℕ
number_of (V number) = number
number_of (X rule) = 0

-- the place at the rows of a number
abbrev place_by : ℕ → List Row → Option Place
place_by n [] = None
place_by n ((m, place) ∷ rows) = if m == n then option_or place (place_by n rows) else place_by n rows

either_way : (b : Bool) (x y : Option Place) → x ≡ y → (if b then x else x) ≡ y
either_way true x y e = e
either_way false x y e = e

first_way : (b : Bool) (x y z : Option Place) → b ≡ true → x ≡ z → (if b then x else y) ≡ z
first_way true x y z b e = e
first_way false x y z b e = absurd cc

-- a refusal by a table is at the place of the row of its rule
by_row :
    (i n : ℕ) (rows : List Row) (r : Refusal) → least_broken i rows ≡ Some r → r.rule ≡ V n
    → place_by n rows ≡ Some r.place
by_row i n [] r e rule = absurd (none-some r e)
by_row i n ((m, None) ∷ rows) r e rule =
    either_way (m == n) (place_by n rows) (Some r.place) (by_row i n rows r e rule)
by_row i n ((m, Some place) ∷ rows) r e rule =
    let same : refused i m place ≡ r = same_Some (refused i m place) r e in
    let number : m ≡ n = ap number_of (ap (λ (q : Refusal). q.rule) same ∙ rule) in
    first_way (m == n) (Some place) (place_by n rows) (Some r.place) (eq-eqb m n number)
    (ap (λ (q : Refusal). Some q.place) same)

-- and of its command
of_rows : (i : ℕ) (rows : List Row) (r : Refusal) → least_broken i rows ≡ Some r → r.command ≡ i
of_rows i [] r e = absurd (none-some r e)
of_rows i ((number, None) ∷ rows) r e = of_rows i rows r e
of_rows i ((number, Some place) ∷ rows) r e =
    sym (ap (λ (q : Refusal). q.command) (same_Some (refused i number place) r e))

or_none : (x : Option Place) → option_or x None ≡ x
or_none None = refl
or_none (Some place) = refl

-- ---- the command

-- the command of a refusal by V8 is there, and breaks it at the place
pub record IsBroken (rec : List Command) (r : Refusal) : Type 0 where
  pub command : Command
  pub there : slice_get rec r.command ≡ Some command
  pub broken : v8 (status_at rec r.command) command ≡ Some r.place

broken_here :
    (order : Ordering) (rec : List Command) (i : ℕ) (z : Status) (c : Command) (r : Refusal)
    → slice_get rec i ≡ Some c → z ≡ status_at rec i → rule_refusal_of order rec i z c ≡ Some r → r.rule ≡ V 8
    → IsBroken rec r
unfolding rule_refusal_of
broken_here order rec i z c r at p e rule =
    let same : r.command ≡ i = of_rows i (rule_table order rec i z c) r e in
    let now : v8 z c ≡ Some r.place =
    sym (or_none (v8 z c)) ∙ by_row i 8 (rule_table order rec i z c) r e rule
    in
    record {
      command = c;
      there = ap (slice_get rec) same ∙ at;
      broken = ap (λ y. v8 y c) (ap (status_at rec) same ∙ sym p) ∙ now;
    }

no_end : (i : ℕ) (o : Option Place) (r : Refusal) → option_map (refused i 28) o ≡ Some r → r.rule ≡ V 8 → ⊥
no_end i None r e rule = none-some r e
no_end i (Some place) r e rule =
    let number : 28 ≡ 8 = ap number_of (ap (λ (q : Refusal). q.rule) (same_Some (refused i 28 place) r e) ∙ rule) in
    omega (arith, number)

broken_next :
    (order : Ordering) (rec : List Command) (i : ℕ) (z : Status) (c : Command) (r : Refusal)
    (one later : Option Refusal) → slice_get rec i ≡ Some c → z ≡ status_at rec i
    → rule_refusal_of order rec i z c ≡ one → or_after one later ≡ Some r → r.rule ≡ V 8
    → (later ≡ Some r → IsBroken rec r) → IsBroken rec r
broken_next order rec i z c r None later at p same e rule rest = rest e
broken_next order rec i z c r (Some q) later at p same e rule rest =
    broken_here order rec i z c r at p (same ∙ e) rule

broken_from :
    (order : Ordering) (rec cs : List Command) (i : ℕ) (z : Status) (r : Refusal)
    → ((k : ℕ) → slice_get rec (i + k) ≡ slice_get cs k) → z ≡ status_at rec i
    → rule_refusal_from order rec i z cs ≡ Some r → r.rule ≡ V 8 → IsBroken rec r
broken_from order rec [] i z r left p e rule = absurd (no_end i (v28_at_end z) r e rule)
broken_from order rec (c ∷ cs) i z r left p e rule =
    let first : i ≡ i + 0 = omega arith in
    let at : slice_get rec i ≡ Some c = ap (slice_get rec) first ∙ left 0 in
    broken_next order rec i z c r (rule_refusal_of order rec i z c)
    (rule_refusal_from order rec (i + 1) (after i c z) cs) at p refl e rule
    (λ later. broken_from order rec cs (i + 1) (after i c z) r
    (λ k. let more : (i + 1) + k ≡ i + suc k = omega arith in ap (slice_get rec) more ∙ left (suc k))
    (status_next rec i z (after i c z) c at p refl) later rule)

broken_by : (rec : List Command) (r : Refusal) → rule_refusal (barriers rec) rec ≡ Some r → r.rule ≡ V 8 → IsBroken rec r
unfolding rule_refusal
broken_by rec r e rule =
    broken_from (barriers rec) rec rec 0 at_first r
    (λ k. let none : 0 + k ≡ k = omega arith in ap (slice_get rec) none) refl e rule

-- ---- what it breaks it by

counts_break : (odd : Bool) (place : Place) → whole odd ≡ Some place → (Whole ≡ place) × (odd ≡ true)
counts_break true place e = (same_Some Whole place e, refl)
counts_break false place e = absurd (none-some place e)

sizes_break :
    (z : Status) (c : Command) (odd : Bool) (place : Place) → whole odd ≡ Some place
    → is_misbuilt_at z c Whole ≡ odd → is_misbuilt_at z c place ≡ true
sizes_break z c odd place e same =
    let found = counts_break odd place e in
    ap (is_misbuilt_at z c) (sym found.0) ∙ (same ∙ found.1)

part_breaks :
    (z : Status) (infos : List Info) (o : Option ℕ) (place : Place) → position (is_misshapen z) infos ≡ o
    → option_map Part o ≡ Some place → is_misbuilt_at z (commands.Build infos) place ≡ true
part_breaks z infos None place found e = absurd (none-some place e)
part_breaks z infos (Some k) place found e =
    ap (is_misbuilt_at z (commands.Build infos)) (sym (same_Some (Part k) place e))
    ∙ found_at (is_misshapen z) infos k found

breaks : (z : Status) (c : Command) (place : Place) → v8 z c ≡ Some place → is_misbuilt_at z c place ≡ true
unfolding v8
breaks z (commands.Buffer id size usage content) place e = absurd (none-some place e)
breaks z (commands.Structure id kind buffer offset size) place e = absurd (none-some place e)
breaks z (commands.Destroy what id) place e = absurd (none-some place e)
breaks z (commands.Sizes kinds.Bottom counts) place e = absurd (none-some place e)
breaks z (commands.Sizes kinds.Top counts) place e =
    sizes_break z (commands.Sizes kinds.Top counts) (not (length counts == 1)) place e refl
breaks z commands.Begin place e = absurd (none-some place e)
breaks z commands.End place e = absurd (none-some place e)
breaks z commands.Submit place e = absurd (none-some place e)
breaks z commands.Wait place e = absurd (none-some place e)
breaks z (commands.Read buffer offset size form) place e = absurd (none-some place e)
breaks z (commands.Update buffer offset content) place e = absurd (none-some place e)
breaks z (commands.Fill buffer offset size value) place e = absurd (none-some place e)
breaks z (commands.Copy src dst regions) place e = absurd (none-some place e)
breaks z (commands.Build infos) place e = part_breaks z infos (position (is_misshapen z) infos) place refl e
breaks z (commands.CopyStructure mode src dst) place e = absurd (none-some place e)
breaks z (commands.Serialize src dst form) place e = absurd (none-some place e)
breaks z (commands.Deserialize src dst uses) place e = absurd (none-some place e)
breaks z (commands.Property what structures dst) place e = absurd (none-some place e)
breaks z (commands.Barrier src_stages src_access dst_stages dst_access buffers) place e = absurd (none-some place e)
breaks z (commands.Trace top rays count hits flags mask script) place e = absurd (none-some place e)

-- ---- what the code asks

-- the recording has the command
pub has_command :
    (rec : List Command) (r : Refusal) → rule_refusal (barriers rec) rec ≡ Some r → r.rule ≡ V 8
    → r.command < length rec
has_command rec r e rule =
    let found = broken_by rec r e rule in slice_get_within rec r.command found.command found.there

-- the command breaks V8 at the place
pub is_broken :
    (rec : List Command) (r : Refusal) (z : Status) (c : Command) → rule_refusal (barriers rec) rec ≡ Some r
    → r.rule ≡ V 8 → z ≡ status_at rec r.command → slice_get rec r.command ≡ Some c
    → is_misbuilt_at z c r.place ≡ true
is_broken rec r z c e rule stands there =
    let found = broken_by rec r e rule in
    let same : found.command ≡ c = same_Some found.command c (sym found.there ∙ there) in
    breaks z c r.place
    (ap (λ y. v8 y c) stands ∙ (ap (v8 (status_at rec r.command)) (sym same) ∙ found.broken))
