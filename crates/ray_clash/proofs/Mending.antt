-- A barrier that is put in between two commands mends what was missing.
use Rattle.std.proofs.Common.{◌≡◌, ◌<◌, ◌≤◌, ◌+◌, ◌∷◌, [], ◌&&◌, ◌||◌, ℕ, zero, suc, Bool, true, false, List, Option, Some, None, length, slice_get, refl, sym, subst, arith, if◌then◌else◌, ◌-◌}
use Rattle.std.specs.Prelude.{Contains, nat_lt}
use Rattle.std.proofs.lemmas.Bool.Decides.{nat_tests}
use Rattle.ray_cmd.specs.declared.command.Command.{Command}
use Rattle.ray_cmd.specs.declared.command.Command.TheVariants as commands
use Rattle.ray_flags.specs.declared.access.Access.{Access}
use Rattle.ray_flags.specs.declared.stages.Stages.{Stages}
use Rattle.ray_rules.specs.declared.access_type.AccessType.{AccessType}
use Rattle.ray_rules.specs.declared.access_type.AccessType.TheVariants.{TransferRead, TransferWrite, ShaderRead, ShaderWrite, StructureRead, StructureWrite, HostRead, HostWrite}
use Rattle.ray_rules.specs.declared.stage.Stage.{Stage}
use Rattle.ray_rules.specs.declared.stage.Stage.TheVariants.{Transfer, Build, StructureCopy, Compute, Host}
use Rattle.ray_rules.specs.Status.{status_at}
use Rattle.std.specs.Option.{option_map_or}
use Rattle.ray_rules.specs.Order.{Handed, acts_at, acts_on, always, handed_after, handed_after_if, handed_at, holds_access, holds_stage, is_covered, is_ordered_to, takes_stage, takes_write}
use Rattle.ray_flags.specs.Words.{access_words, stage_words}
use Rattle.ray_clash.specs.declared.clash.Side.{Side}
use Rattle.ray_clash.specs.Telling.{WordsAreRead, access_word, stage_word}
use Rattle.ray_clash.specs.Barriers.{BarrierMends, barrier_between, only_access, only_stage, with_command}

-- a command that was put in stands where it was put
put_at : (rec : List Command) (p : ℕ) (c : Command) → p ≤ length rec → slice_get (with_command rec p c) p ≡ Some c
put_at rec zero c within = refl
put_at [] (suc p) c within = absurd (omega (arith, within))
put_at (x ∷ xs) (suc p) c within = put_at xs p c (omega (arith, within))

-- the set of one stage holds it, and that of one access
holds_only : (s : Stage) → holds_stage (only_stage s) s ≡ true
holds_only Transfer = refl
holds_only Build = refl
holds_only StructureCopy = refl
holds_only Compute = refl
holds_only Host = refl

has_only : (x : AccessType) → holds_access (only_access x) x ≡ true
has_only TransferRead = refl
has_only TransferWrite = refl
has_only ShaderRead = refl
has_only ShaderWrite = refl
has_only StructureRead = refl
has_only StructureWrite = refl
has_only HostRead = refl
has_only HostWrite = refl

-- what is so stays so beside something else
left_true : (a b : Bool) → a ≡ true → (a || b) ≡ true
left_true true b is = refl
left_true false b is = absurd (cc)

right_true : (a b : Bool) → b ≡ true → (a || b) ≡ true
right_true true b is = refl
right_true false b is = is

both_true : (a b : Bool) → a ≡ true → b ≡ true → (a && b) ≡ true
both_true true b is also = also
both_true false b is also = absurd (cc)

-- how far it was handed on stays so after one more command
module _ (takes : Stages → Access → Bool) where
  keeps_stage : (c : Command) (h : Handed) (to : Stage) → h.stages to ≡ true → (handed_after takes c h).stages to ≡ true
  keeps_stage (commands.Barrier a b c d e) h to is = left_true (h.stages to) _ is
  keeps_stage commands.Wait h to is = left_true (h.stages to) _ is
  keeps_stage _ h to is = is

  keeps_pair :
      (c : Command) (h : Handed) (to : Stage) (x : AccessType) → h.pairs to x ≡ true → (handed_after takes c h).pairs to x ≡ true
  keeps_pair (commands.Barrier a b c d e) h to x is = left_true (h.pairs to x) _ is
  keeps_pair commands.Wait h to x is = left_true (h.pairs to x) _ is
  keeps_pair _ h to x is = is

  keeps_stage_if :
      (o : Option Command) (h : Handed) (to : Stage) → h.stages to ≡ true → (handed_after_if takes o h).stages to ≡ true
  keeps_stage_if None h to is = is
  keeps_stage_if (Some c) h to is = keeps_stage c h to is

  keeps_pair_if :
      (o : Option Command) (h : Handed) (to : Stage) (x : AccessType) → h.pairs to x ≡ true
      → (handed_after_if takes o h).pairs to x ≡ true
  keeps_pair_if None h to x is = is
  keeps_pair_if (Some c) h to x is = keeps_pair c h to x is

-- so many after a number
abbrev past : ℕ → ℕ → ℕ
past n zero = n
past n (suc d) = suc (past n d)

past-is : (n d : ℕ) → past n d ≡ d + n
past-is n zero = omega arith
past-is n (suc d) = let so : past n d ≡ d + n = past-is n d in omega (arith, so)

-- a choice of three
chosen : (P : Handed → Type 0) (b c : Bool) (f g n : Handed) → b ≡ true → P f → P g → P (if b then (if c then f else g) else n)
chosen P true true f g n is first second = first
chosen P true false f g n is first second = second
chosen P false c f g n is first second = absurd (cc)

taken : (P : Handed → Type 0) (b c : Bool) (f g n : Handed) → b ≡ true → c ≡ true → P f → P (if b then (if c then f else g) else n)
taken P true true f g n is also first = first
taken P true false f g n is also first = absurd (cc)
taken P false c f g n is also first = absurd (cc)

below : (i n : ℕ) → i < n → nat_lt i n ≡ true
below i n less = grind (arith, nat_tests)

module _ (takes : Stages → Access → Bool) (acts : ℕ → Bool) (rec : List Command) (i : ℕ) where
  later_stage : (n d : ℕ) (to : Stage) → i < n → (handed_at takes acts rec i n).stages to ≡ true
      → (handed_at takes acts rec i (past n d)).stages to ≡ true
  later_stage n zero to less is = is
  later_stage n (suc d) to less is =
      let before = later_stage n d to less is in
      let h = handed_at takes acts rec i (past n d) in
      let far : past n d ≡ d + n = past-is n d in
      chosen (λ (h : Handed). h.stages to ≡ true) (nat_lt i (past n d)) (acts (past n d))
      _ h _ (below i (past n d) (omega (arith, less, far))) (keeps_stage_if takes (slice_get rec (past n d)) h to before) before

  later_pair : (n d : ℕ) (to : Stage) (x : AccessType) → i < n → (handed_at takes acts rec i n).pairs to x ≡ true
      → (handed_at takes acts rec i (past n d)).pairs to x ≡ true
  later_pair n zero to x less is = is
  later_pair n (suc d) to x less is =
      let before = later_pair n d to x less is in
      let h = handed_at takes acts rec i (past n d) in
      let far : past n d ≡ d + n = past-is n d in
      chosen (λ (h : Handed). h.pairs to x ≡ true) (nat_lt i (past n d)) (acts (past n d))
      _ h _ (below i (past n d) (omega (arith, less, far))) (keeps_pair_if takes (slice_get rec (past n d)) h to x before) before

-- a barrier of all memory acts on each thing
acts_there :
    (rec : List Command) (p : ℕ) (from to : Side) (thing : Option ℕ) → slice_get rec p ≡ Some (barrier_between from to)
    → acts_at rec thing p ≡ true
acts_there rec p from to thing there = subst (λ o. option_map_or (acts_on thing (status_at rec p)) o true ≡ true) (sym there) refl

-- right behind the barrier it is covered and ordered
covered_there :
    (rec : List Command) (i p : ℕ) (from to : Side) (thing : Option ℕ) → i < p
    → slice_get rec p ≡ Some (barrier_between from to)
    → (handed_at (takes_write from.stage from.access) (acts_at rec thing) rec i (suc p)).pairs to.stage to.access ≡ true
covered_there rec i p from to thing less there =
    let h = handed_at (takes_write from.stage from.access) (acts_at rec thing) rec i p in
    taken (λ (h : Handed). h.pairs to.stage to.access ≡ true) (nat_lt i p) (acts_at rec thing p) _ h _ (below i p less)
    (acts_there rec p from to thing there)
    (subst (λ o. (handed_after_if (takes_write from.stage from.access) o h).pairs to.stage to.access ≡ true) (sym there)
    (right_true (h.pairs to.stage to.access) _
    (both_true _ _
    (left_true _ _ (both_true _ _ (holds_only from.stage) (has_only from.access)))
    (both_true _ _ (holds_only to.stage) (has_only to.access)))))

ordered_there :
    (rec : List Command) (i p : ℕ) (from to : Side) → i < p → slice_get rec p ≡ Some (barrier_between from to)
    → (handed_at (takes_stage from.stage) always rec i (suc p)).stages to.stage ≡ true
ordered_there rec i p from to less there =
    let h = handed_at (takes_stage from.stage) always rec i p in
    taken (λ (h : Handed). h.stages to.stage ≡ true) (nat_lt i p) true _ h _ (below i p less) refl
    (subst (λ o. (handed_after_if (takes_stage from.stage) o h).stages to.stage ≡ true) (sym there)
    (right_true (h.stages to.stage) _
    (both_true _ _ (left_true _ _ (holds_only from.stage)) (holds_only to.stage))))

pub mends : BarrierMends
mends rec i j p from to thing less within long =
    let more = with_command rec p (barrier_between from to) in
    let there = put_at rec p (barrier_between from to) long in
    let so : past (suc p) (j - p) ≡ (j - p) + suc p = past-is (suc p) (j - p) in
    let far : past (suc p) (j - p) ≡ j + 1 = omega (arith, within, so) in (
      subst (λ n. is_covered more i from.stage from.access thing n to.stage to.access ≡ true) far
          (later_pair (takes_write from.stage from.access) (acts_at more thing) more i (suc p) (j - p) to.stage to.access
          (omega (arith, less)) (covered_there more i p from to thing less there)),
      subst (λ n. is_ordered_to more i from.stage n to.stage ≡ true) far
          (later_stage (takes_stage from.stage) always more i (suc p) (j - p) to.stage (omega (arith, less))
          (ordered_there more i p from to less there)),
    )

-- the words of one stage, and of one access, are read as its set
pub words_read : WordsAreRead
words_read = record { stages = of_stage; accesses = of_access }
  where
    of_stage : (s : Stage) → Contains stage_words (stage_word s, (only_stage s).0)
    of_stage Transfer = (0, omega arith, refl)
    of_stage Build = (1, omega arith, refl)
    of_stage StructureCopy = (2, omega arith, refl)
    of_stage Compute = (3, omega arith, refl)
    of_stage Host = (4, omega arith, refl)

    of_access : (x : AccessType) → Contains access_words (access_word x, (only_access x).0)
    of_access TransferRead = (0, omega arith, refl)
    of_access TransferWrite = (1, omega arith, refl)
    of_access ShaderRead = (2, omega arith, refl)
    of_access ShaderWrite = (3, omega arith, refl)
    of_access StructureRead = (4, omega arith, refl)
    of_access StructureWrite = (5, omega arith, refl)
    of_access HostRead = (6, omega arith, refl)
    of_access HostWrite = (7, omega arith, refl)
