-- What a wait between two commands orders, and where there is one.
use Rattle.std.proofs.Common.{◌≡◌, ◌<◌, ◌≤◌, ◌+◌, ℕ, zero, suc, Bool, true, false, List, [], ◌∷◌, Option, Some, None, ◌⊎◌, inl, inr, refl, sym, ◌∙◌, ap, subst, arith}
use Rattle.std.specs.Prelude.{◌||◌, not, nat_lt, if◌then◌else◌, slice_get}
use Rattle.std.proofs.lemmas.Bool.{cases_lt, cases_Bool}
use Rattle.ray_flags.specs.declared.access.Access.{Access}
use Rattle.ray_flags.specs.declared.stages.Stages.{Stages}
use Rattle.ray_cmd.specs.declared.command.Command.{Command}
use Rattle.ray_cmd.specs.declared.command.Command.TheVariants as commands
use Rattle.ray_cmd.specs.declared.info.Info.{Info}
use Rattle.ray_cmd.specs.declared.thing.Thing.TheVariants as things
use Rattle.ray_rules.specs.declared.built.Built.{Built}
use Rattle.ray_rules.specs.declared.live_structure.LiveStructure.{LiveStructure}
use Rattle.ray_rules.specs.declared.phase.Phase.{Phase}
use Rattle.ray_rules.specs.declared.phase.Phase.TheVariants.{Idle, Recording, Ended}
use Rattle.ray_rules.specs.declared.stage.Stage.{Stage}
use Rattle.ray_rules.specs.Access.{stage_of}
use Rattle.ray_rules.specs.Hazards.{after_if, status_at}
use Rattle.ray_rules.specs.Ids.{look}
use Rattle.ray_rules.specs.Order.{Handed, always, handed_after_if, handed_at, handed_to_device, is_device, is_wait, last_wait, not_handed}
use Rattle.ray_rules.specs.Phases.{is_same_phase, phase_needed, v28}
use Rattle.ray_rules.specs.Places.{whole}
use Rattle.ray_rules.specs.Status.{Status, after, after_infos, built_by, fill_in, with_built}
use Rattle.ray_rules.specs.Kinds.{kind_of}
use Rattle.ray_permitted.proofs.Truth.{less_is, not_false, or_left, or_right}

-- ---- the last wait

pub wait_below : (rec : List Command) (n : ℕ) → last_wait rec n ≤ n
wait_below rec zero = omega arith
wait_below rec (suc n) = choose (is_wait (slice_get rec n)) (last_wait rec n) (wait_below rec n)
  where
    choose : (b : Bool) (w : ℕ) → w ≤ n → (if b then n else w) ≤ suc n
    choose true w h = omega arith
    choose false w h = omega (arith, h)

wait_next : (rec : List Command) (n : ℕ) → last_wait rec n ≤ last_wait rec (suc n)
wait_next rec n = choose (is_wait (slice_get rec n)) (last_wait rec n) (wait_below rec n)
  where
    choose : (b : Bool) (w : ℕ) → w ≤ n → w ≤ (if b then n else w)
    choose true w h = h
    choose false w h = omega arith

pub wait_later : (rec : List Command) (k j : ℕ) → k ≤ j → last_wait rec k ≤ last_wait rec j
wait_later rec k zero upto = let same : zero ≡ k = omega (arith, upto) in subst (λ m. last_wait rec m ≤ last_wait rec zero) same (omega arith)
wait_later rec k (suc j) upto =
    elim (cases_lt k (suc j)) [
      | inl less ↦
          (let rest : last_wait rec k ≤ last_wait rec j = wait_later rec k j (omega (arith, less)) in
          let next : last_wait rec j ≤ last_wait rec (suc j) = wait_next rec j in omega (arith, rest, next))
      | inr more ↦ (let same : suc j ≡ k = omega (arith, upto, more) in subst (λ m. last_wait rec m ≤ last_wait rec (suc j)) same (omega arith))
    ]

-- ---- what a wait orders

-- what is handed on stays so
stays : (takes : Stages → Access → Bool) (found : Option Command) (z : Handed) (to : Stage) → z.stages to ≡ true → (handed_after_if takes found z).stages to ≡ true
stays takes None z to h = h
stays takes (Some (commands.Barrier src_stages src_access dst_stages dst_access buffers)) z to h = or_left (z.stages to) _ h
stays takes (Some commands.Wait) z to h = or_left (z.stages to) (is_device to) h
stays takes (Some _) z to h = h

at_number : (i n : ℕ) (z : Handed) (to : Stage) → i < n → z.stages to ≡ true → (if nat_lt i n then z else not_handed).stages to ≡ true
at_number i n z to less h = ap (λ b. (if b then z else not_handed).stages to) (less_is i n less) ∙ h

orders_next : (takes : Stages → Access → Bool) (found : Option Command) (i n w : ℕ) (z : Handed) (to : Stage) → is_device to ≡ true → w ≤ n
    → i < (if is_wait found then n else w) → (i < w → z.stages to ≡ true)
    → (if nat_lt i n then handed_after_if takes found z else not_handed).stages to ≡ true
orders_next takes None i n w z to device low less h = at_number i n z to (omega (arith, low, less)) (h less)
orders_next takes (Some commands.Wait) i n w z to device low less h =
    at_number i n (handed_to_device z) to less (or_right (z.stages to) (is_device to) device)
orders_next takes (Some c) i n w z to device low less h =
    at_number i n (handed_after_if takes (Some c) z) to (omega (arith, low, less)) (stays takes (Some c) z to (h less))

-- all that the device does after a wait is ordered after all that it did before
pub wait_orders : (takes : Stages → Access → Bool) (rec : List Command) (i j : ℕ) (to : Stage) → is_device to ≡ true → i < last_wait rec j
    → (handed_at takes always rec i j).stages to ≡ true
wait_orders takes rec i zero to device less = absurd (omega (arith, less))
wait_orders takes rec i (suc n) to device less =
    orders_next takes (slice_get rec n) i n (last_wait rec n) (handed_at takes always rec i n) to device (wait_below rec n) less
    (wait_orders takes rec i n to device)

-- ---- where there is a wait

-- whether the command buffer is in use, or work was submitted since the last wait
abbrev pub is_busy : Status → Bool
is_busy z = not (is_same_phase Idle z.phase) || z.pending

-- what structures are built changes nothing of it
record SamePhase (z w : Status) : Type 0 where
  phase : w.phase ≡ z.phase
  pending : w.pending ≡ z.pending

phase_built : (d : ℕ) (b : Option Built) (z : Status) (found : Option LiveStructure) → SamePhase z (with_built d b z found)
phase_built d b z None = record { phase = refl; pending = refl }
phase_built d b z (Some s) = record { phase = refl; pending = refl }

phase_infos : (i k : ℕ) (infos : List Info) (z : Status) → SamePhase z (after_infos i k infos z)
phase_infos i k [] z = record { phase = refl; pending = refl }
phase_infos i k (info ∷ infos) z =
    let here = phase_built info.dst (built_by i k) z (look z.structures info.dst) in
    let later = phase_infos i (k + 1) infos (fill_in info.dst (built_by i k) z) in
    record { phase = later.phase ∙ here.phase; pending = later.pending ∙ here.pending }

still_busy : (z w : Status) → SamePhase z w → is_busy z ≡ true → is_busy w ≡ true
still_busy z w same busy = (λ i. not (is_same_phase Idle (same.phase i)) || same.pending i) ∙ busy

busy_after : (i : ℕ) (c : Command) (z : Status) → is_wait (Some c) ≡ false → is_busy z ≡ true → is_busy (after i c z) ≡ true
unfolding after
busy_after i commands.Begin z wait busy = refl
busy_after i commands.End z wait busy = refl
busy_after i commands.Submit z wait busy = refl
busy_after i commands.Wait z wait busy = absurd cc
busy_after i (commands.Destroy things.Buffer id) z wait busy = busy
busy_after i (commands.Destroy things.Structure id) z wait busy = busy
busy_after i (commands.Build infos) z wait busy = still_busy z (after_infos i 0 infos z) (phase_infos i 0 infos z) busy
busy_after i (commands.CopyStructure mode src dst) z wait busy =
    still_busy z _ (phase_built dst _ z (look z.structures dst)) busy
busy_after i (commands.Deserialize src dst uses) z wait busy =
    still_busy z _ (phase_built dst (built_by i 0) z (look z.structures dst)) busy
busy_after i c z wait busy = busy

busy_next : (i : ℕ) (found : Option Command) (z : Status) → is_wait found ≡ false → is_busy z ≡ true → is_busy (after_if i found z) ≡ true
busy_next i None z wait busy = busy
busy_next i (Some c) z wait busy = busy_after i c z wait busy

-- it is busy until a wait
busy_until : (rec : List Command) (i : ℕ) → is_busy (status_at rec (suc i)) ≡ true → (j : ℕ) → i < j → (i < last_wait rec j) ⊎ (is_busy (status_at rec j) ≡ true)
busy_until rec i busy zero less = absurd (omega (arith, less))
busy_until rec i busy (suc j) less =
    elim (cases_lt i j) [
      | inl before ↦ step (busy_until rec i busy j before) before
      | inr at ↦ (let same : suc i ≡ suc j = omega (arith, less, at) in inr (subst (λ m. is_busy (status_at rec m) ≡ true) same busy))
    ]
  where
    step : (i < last_wait rec j) ⊎ (is_busy (status_at rec j) ≡ true) → i < j → (i < last_wait rec (suc j)) ⊎ (is_busy (status_at rec (suc j)) ≡ true)
    step (inl waited) before = let next : last_wait rec j ≤ last_wait rec (suc j) = wait_next rec j in inl (omega (arith, waited, next))
    step (inr b) before =
        elim (cases_Bool (is_wait (slice_get rec j))) [
          | inl wait ↦ inl (subst (λ m. i < m) (sym (ap (λ w. if w then j else last_wait rec j) wait)) before)
          | inr other ↦ inr (busy_next j (slice_get rec j) (status_at rec j) other b)
        ]

-- a device command stands where commands are recorded
recording_busy : (z : Status) (p : Phase) → z.phase ≡ p → is_same_phase Recording p ≡ true → is_busy z ≡ true
recording_busy z Idle at e = absurd cc
recording_busy z Recording at e = ap (λ q. not (is_same_phase Idle q) || z.pending) at
recording_busy z Ended at e = absurd cc

pub not_broken : (b : Bool) → whole b ≡ None → b ≡ false
not_broken true e = absurd cc
not_broken false e = refl

device_phase : (c : Command) (s : Stage) → stage_of c ≡ Some s → (phase_needed c ≡ Recording) × (is_wait (Some c) ≡ false)
unfolding stage_of kind_of phase_needed
device_phase (commands.Update buffer offset content) s e = (refl, refl)
device_phase (commands.Fill buffer offset size value) s e = (refl, refl)
device_phase (commands.Copy src dst regions) s e = (refl, refl)
device_phase (commands.Build infos) s e = (refl, refl)
device_phase (commands.CopyStructure mode src dst) s e = (refl, refl)
device_phase (commands.Serialize src dst form) s e = (refl, refl)
device_phase (commands.Deserialize src dst uses) s e = (refl, refl)
device_phase (commands.Property what structures dst) s e = (refl, refl)
device_phase (commands.Trace top rays count hits flags mask script) s e = (refl, refl)
device_phase _ s e = absurd cc

pub device_busy : (rec : List Command) (i : ℕ) (c : Command) (s : Stage) → slice_get rec i ≡ Some c → stage_of c ≡ Some s
    → v28 (status_at rec i) c ≡ None → is_busy (status_at rec (suc i)) ≡ true
device_busy rec i c s is stage kept =
    let z : Status = status_at rec i in
    let needs = device_phase c s stage in
    let right : is_same_phase (phase_needed c) z.phase ≡ true = not_false (is_same_phase (phase_needed c) z.phase) (not_broken (not (is_same_phase (phase_needed c) z.phase)) kept) in
    let recorded : is_same_phase Recording z.phase ≡ true = sym (ap (λ p. is_same_phase p z.phase) needs.0) ∙ right in
    let next : is_busy (after i c z) ≡ true = busy_after i c z needs.1 (recording_busy z z.phase refl recorded) in
    ap (λ found. is_busy (after_if i found z)) is ∙ next

-- so a wait stands between it and a place where nothing is busy
pub wait_between : (rec : List Command) (i j : ℕ) → is_busy (status_at rec (suc i)) ≡ true → i < j → is_busy (status_at rec j) ≡ false → i < last_wait rec j
wait_between rec i j busy less idle =
    elim (busy_until rec i busy j less) [ inl waited ↦ waited | inr still ↦ absurd (never (sym still ∙ idle)) ]
  where
    never : true ≡ false → ⊥
    never e = absurd cc
