-- Between a device command and a later command that touch one location there is a wait, or both touch
-- one thing.
use Rattle.std.proofs.Common.{◌≡◌, ◌<◌, ◌≤◌, ℕ, true, false, List, Option, Some, None, IsSome, ◌⊎◌, inl, inr, refl, sym, ◌∙◌, ap, subst, arith}
use Rattle.std.specs.Prelude.{◌||◌, not, slice_get, option_map, is_some}
use Rattle.std.specs.Option.{option_map_or}
use Rattle.std.proofs.lemmas.Bool.{cases_lt}
use Rattle.ray_cmd.specs.declared.command.Command.{Command}
use Rattle.ray_cmd.specs.declared.command.Command.TheVariants as commands
use Rattle.ray_cmd.specs.declared.thing.Thing.{Thing}
use Rattle.ray_cmd.specs.declared.thing.Thing.TheVariants as things
use Rattle.ray_rules.specs.declared.live_buffer.LiveBuffer.{LiveBuffer}
use Rattle.ray_rules.specs.declared.live_structure.LiveStructure.{LiveStructure}
use Rattle.ray_rules.specs.declared.phase.Phase.{Phase}
use Rattle.ray_rules.specs.declared.phase.Phase.TheVariants.{Idle, Recording, Ended}
use Rattle.ray_rules.specs.declared.stage.Stage.{Stage}
use Rattle.ray_rules.specs.Access.{stage_of}
use Rattle.ray_rules.specs.Buffers.{is_held, v30}
use Rattle.ray_rules.specs.Hazards.{is_one, maker_of_buffer, maker_of_structure, status_at}
use Rattle.ray_rules.specs.Ids.{is_live, look}
use Rattle.ray_rules.specs.Names.{v1}
use Rattle.ray_rules.specs.declared.kind.Kind.TheVariants.{HostCommand}
use Rattle.ray_rules.specs.Order.{kind_at, last_wait}
use Rattle.ray_rules.specs.Phases.{is_same_phase, phase_needed, v28, v29}
use Rattle.ray_rules.specs.Refusals.{AreKept, static_table}
use Rattle.ray_rules.specs.Status.{Status}
use Rattle.ray_rules.specs.Kinds.{kind_of}
use Rattle.ray_action.specs.Action.{Action, MakeBuffer, MakeStructure, Rest, ShowSizes}
use Rattle.ray_action.specs.Areas.{is_form, is_size}
use Rattle.ray_action.specs.Memory.{Location, ByteAt, BufferAt, StructureAt, ContentsAt}
use Rattle.ray_action.specs.Storing.{is_of_buffer, is_of_structure}
use Rattle.ray_ready.specs.Accepted.{IsAccepted}
use Rattle.ray_permitted.proofs.Truth.{either, equal_is, is_equal, no_first, not_false, same_some}
use Rattle.ray_permitted.proofs.Waits.{device_busy, is_busy, not_broken, wait_between, wait_later}
use Rattle.ray_permitted.proofs.Making.{AreNamed, Destroys, buffer_until, structure_until}
use Rattle.ray_permitted.proofs.Named.{IsNamed, IsThere}
use Rattle.ray_permitted.proofs.Sharing.{IsOneThing}
use Rattle.ray_permitted.proofs.InfosApart.{Clash, BothWrite, ReadsLater, WritesLater}

-- ---- the rules that are used

pub record KeepsState (z : Status) (c : Command) : Type 0 where
  pub names : v1 z c ≡ None
  pub phase : v28 z c ≡ None
  pub read : v29 z c ≡ None
  pub destroy : v30 z c ≡ None

pub keeps_state : (rec : List Command) (z : Status) (c : Command) → AreKept (static_table rec z c) → KeepsState z c
keeps_state rec z c (k1, (k2, (k3, (k4, (k5, (k6, (k7, (k8, (k9, (k10, (k11, (k12, (k13, (k14, (k15, (k16, (k17, (k18, (k19, (k20, (k21, (k22, (k23, (k24, (k28, (k29, (k30, more))))))))))))))))))))))))))) =
    record { names = k1; phase = k28; read = k29; destroy = k30 }

pub state_kept : (rec : List Command) (n i : ℕ) (c : Command) → IsAccepted rec n → i < n → slice_get rec i ≡ Some c → KeepsState (status_at rec i) c
state_kept rec n i c accepted less is = keeps_state rec (status_at rec i) c (accepted.each i c less is).rules

are_named : (rec : List Command) (n : ℕ) → IsAccepted rec n → AreNamed rec n
are_named rec n accepted i c less is = (state_kept rec n i c accepted less is).names

-- ---- where nothing is busy

idle_by : (z : Status) (p : Phase) → z.phase ≡ p → is_same_phase Idle p ≡ true → z.pending ≡ false → is_busy z ≡ false
idle_by z Idle at e pending = (λ i. not (is_same_phase Idle (at i)) || pending i)
idle_by z Recording at e pending = absurd cc
idle_by z Ended at e pending = absurd cc

idle_at : (z : Status) (c : Command) → phase_needed c ≡ Idle → v28 z c ≡ None → z.pending ≡ false → is_busy z ≡ false
idle_at z c needs kept pending =
    let right : is_same_phase (phase_needed c) z.phase ≡ true = not_false (is_same_phase (phase_needed c) z.phase) (not_broken (not (is_same_phase (phase_needed c) z.phase)) kept) in
    idle_by z z.phase refl (sym (ap (λ p. is_same_phase p z.phase) needs) ∙ right) pending

pub idle_at_read : (z : Status) (buffer offset size : ℕ) (form : _) → KeepsState z (commands.Read buffer offset size form) → is_busy z ≡ false
unfolding phase_needed v29
idle_at_read z buffer offset size form keeps = idle_at z (commands.Read buffer offset size form) refl keeps.phase (not_broken z.pending keeps.read)

pub idle_at_destroy : (z : Status) (what : Thing) (id : ℕ) → KeepsState z (commands.Destroy what id) → is_busy z ≡ false
unfolding phase_needed v30
idle_at_destroy z what id keeps =
    idle_at z (commands.Destroy what id) refl keeps.phase (no_first z.pending (is_held z what id) (not_broken (z.pending || is_held z what id) keeps.destroy))

-- ---- what goes after a device command goes behind a wait

no_stage : (what : Thing) (id : ℕ) (c : Command) (s : Stage) → c ≡ commands.Destroy what id → stage_of c ≡ Some s → ⊥
unfolding stage_of kind_of
no_stage what id c s same stage = none (sym (ap stage_of same) ∙ stage)
  where
    none : None ≡ Some s → ⊥
    none e = absurd cc

-- a wait stands between a device command and a later command of the host, which stands before a third
pub record IsBehindWait (rec : List Command) (i j : ℕ) : Type 0 where
  pub host : ℕ
  pub waited : i < last_wait rec host
  pub below : host < j
  pub is_host : kind_at rec host ≡ HostCommand

-- so it is where a thing of the first command is destroyed
behind_if_gone : (rec : List Command) (n i j : ℕ) (c : Command) (s : Stage) (what : Thing) (id : ℕ) → IsAccepted rec n → slice_get rec i ≡ Some c → stage_of c ≡ Some s → i < n → j ≤ n
    → Destroys rec what id i j → IsBehindWait rec i j
unfolding kind_of
behind_if_gone rec n i j c s what id accepted is stage within upto gone =
    let from : i ≤ gone.at = gone.from in
    let below : gone.at < j = gone.below in
    let busy = device_busy rec i c s is stage (state_kept rec n i c accepted within is).phase in
    elim (cases_lt i gone.at) [
      | inl less ↦
          (let idle = idle_at_destroy (status_at rec gone.at) what id (state_kept rec n gone.at (commands.Destroy what id) accepted (omega (arith, below, upto)) gone.is_it) in
          record {
            host = gone.at;
            waited = wait_between rec i gone.at busy less idle;
            below = below;
            is_host = ap (λ o. option_map_or kind_of o HostCommand) gone.is_it;
          })
      | inr more ↦
          (let same : i ≡ gone.at = omega (arith, from, more) in
          absurd (no_stage what id c s (same_some c (commands.Destroy what id) (sym is ∙ (ap (slice_get rec) same ∙ gone.is_it))) stage))
    ]

waited_if_gone : (rec : List Command) (n i j : ℕ) (c : Command) (s : Stage) (what : Thing) (id : ℕ) → IsAccepted rec n → slice_get rec i ≡ Some c → stage_of c ≡ Some s → i < n → j ≤ n
    → Destroys rec what id i j → i < last_wait rec j
waited_if_gone rec n i j c s what id accepted is stage within upto gone =
    let behind = behind_if_gone rec n i j c s what id accepted is stage within upto gone in
    let waited : i < last_wait rec behind.host = behind.waited in
    let below : behind.host < j = behind.below in
    let later : last_wait rec behind.host ≤ last_wait rec j = wait_later rec behind.host j (omega (arith, below)) in
    omega (arith, waited, later)

-- ---- one thing, or a wait

made_by : {X : Type 0} (f : X → ℕ) (found : Option X) → IsSome found → (m : ℕ) × (option_map f found ≡ Some m)
made_by f None live = absurd cc
made_by f (Some x) live = (f x, refl)

one_maker : (a b : Option ℕ) (m : ℕ) → a ≡ Some m → b ≡ Some m → is_one a b ≡ true
one_maker a b m p q = (λ i. is_one (p i) (q i)) ∙ equal_is m m refl

pub one_or_waited : (rec : List Command) (n i j : ℕ) (c : Command) (s : Stage) (l : Location) → IsAccepted rec n → slice_get rec i ≡ Some c → stage_of c ≡ Some s → i < j → j ≤ n
    → IsThere (status_at rec i) l → IsBehindWait rec i j ⊎ IsOneThing (status_at rec i) (status_at rec j) l
one_or_waited rec n i j c s (ByteAt b at) accepted is stage less upto live =
    let made = made_by (λ (x : LiveBuffer). x.made) (look (status_at rec i).buffers b) live in
    elim (buffer_until rec n b i made.0 (are_named rec n accepted) made.1 j (omega (arith, less)) upto) [
      | inl same ↦ inr (one_maker (maker_of_buffer (status_at rec i) b) (maker_of_buffer (status_at rec j) b) made.0 made.1 same)
      | inr gone ↦ inl (behind_if_gone rec n i j c s things.Buffer b accepted is stage (omega (arith, less, upto)) upto gone)
    ]
one_or_waited rec n i j c s (BufferAt id) accepted is stage less upto live = inr tt
one_or_waited rec n i j c s (StructureAt id) accepted is stage less upto live = inr tt
one_or_waited rec n i j c s (ContentsAt id) accepted is stage less upto live =
    let made = made_by (λ (x : LiveStructure). x.made) (look (status_at rec i).structures id) live in
    elim (structure_until rec n id i made.0 (are_named rec n accepted) made.1 j (omega (arith, less)) upto) [
      | inl same ↦ inr (one_maker (maker_of_structure (status_at rec i) id) (maker_of_structure (status_at rec j) id) made.0 made.1 same)
      | inr gone ↦ inl (behind_if_gone rec n i j c s things.Structure id accepted is stage (omega (arith, less, upto)) upto gone)
    ]

-- ---- a host command

-- what conflicts with something is there
pub clash_there : (z : Status) (a b : Action) (l : Location) → IsNamed z a → Clash a b l → IsThere z l
clash_there z a b l names (BothWrite p q) = names.writes l p
clash_there z a b l names (ReadsLater p q) = names.writes l p
clash_there z a b l names (WritesLater p q) = names.reads l p

no_live : {X : Type 0} (f : X → ℕ) (found : Option X) (m : ℕ) → is_some found ≡ false → option_map f found ≡ Some m → ⊥
no_live f None m e h = absurd cc
no_live f (Some x) m e h = absurd cc

-- a buffer that was there is gone where one is made under its id
pub waited_at_buffer : (rec : List Command) (n i j : ℕ) (c : Command) (s : Stage) (id : ℕ) → IsAccepted rec n → slice_get rec i ≡ Some c → stage_of c ≡ Some s → i < j → j < n
    → IsSome (look (status_at rec i).buffers id) → is_live (status_at rec j).buffers id ≡ false → i < last_wait rec j
waited_at_buffer rec n i j c s id accepted is stage less within live free =
    let made = made_by (λ (x : LiveBuffer). x.made) (look (status_at rec i).buffers id) live in
    elim (buffer_until rec n id i made.0 (are_named rec n accepted) made.1 j (omega (arith, less)) (omega (arith, within))) [
      | inl same ↦ absurd (no_live (λ (x : LiveBuffer). x.made) (look (status_at rec j).buffers id) made.0 free same)
      | inr gone ↦ waited_if_gone rec n i j c s things.Buffer id accepted is stage (omega (arith, less, within)) (omega (arith, within)) gone
    ]

pub waited_at_structure : (rec : List Command) (n i j : ℕ) (c : Command) (s : Stage) (id : ℕ) → IsAccepted rec n → slice_get rec i ≡ Some c → stage_of c ≡ Some s → i < j → j < n
    → IsSome (look (status_at rec i).structures id) → is_live (status_at rec j).structures id ≡ false → i < last_wait rec j
waited_at_structure rec n i j c s id accepted is stage less within live free =
    let made = made_by (λ (x : LiveStructure). x.made) (look (status_at rec i).structures id) live in
    elim (structure_until rec n id i made.0 (are_named rec n accepted) made.1 j (omega (arith, less)) (omega (arith, within))) [
      | inl same ↦ absurd (no_live (λ (x : LiveStructure). x.made) (look (status_at rec j).structures id) made.0 free same)
      | inr gone ↦ waited_if_gone rec n i j c s things.Structure id accepted is stage (omega (arith, less, within)) (omega (arith, within)) gone
    ]

pub of_buffer : (z : Status) (id : ℕ) (l : Location) → is_of_buffer id l ≡ true → IsThere z l → IsSome (look z.buffers id)
of_buffer z id (ByteAt b at) e live = subst (λ k. IsSome (look z.buffers k)) (is_equal b id e) live
of_buffer z id (BufferAt b) e live = subst (λ k. IsSome (look z.buffers k)) (is_equal b id e) live
of_buffer z id (StructureAt b) e live = absurd cc
of_buffer z id (ContentsAt b) e live = absurd cc

pub of_structure : (z : Status) (id : ℕ) (l : Location) → is_of_structure id l ≡ true → IsThere z l → IsSome (look z.structures id)
of_structure z id (ByteAt b at) e live = absurd cc
of_structure z id (BufferAt b) e live = absurd cc
of_structure z id (StructureAt b) e live = subst (λ k. IsSome (look z.structures k)) (is_equal b id e) live
of_structure z id (ContentsAt b) e live = subst (λ k. IsSome (look z.structures k)) (is_equal b id e) live

-- what the making of a buffer or a structure touches is of it
size_of_buffer : (id : ℕ) (l : Location) → is_size id l ≡ true → is_of_buffer id l ≡ true
size_of_buffer id (ByteAt b at) e = absurd cc
size_of_buffer id (BufferAt b) e = e
size_of_buffer id (StructureAt b) e = absurd cc
size_of_buffer id (ContentsAt b) e = absurd cc

form_of_structure : (id : ℕ) (l : Location) → is_form id l ≡ true → is_of_structure id l ≡ true
form_of_structure id (ByteAt b at) e = absurd cc
form_of_structure id (BufferAt b) e = absurd cc
form_of_structure id (StructureAt b) e = e
form_of_structure id (ContentsAt b) e = absurd cc

pub makes_buffer : (id size : ℕ) (content : Option (List ℕ)) (a : Action) (l : Location) → Clash a (MakeBuffer id size content) l → is_of_buffer id l ≡ true
makes_buffer id size content a l (BothWrite p q) = q
makes_buffer id size content a l (ReadsLater p q) = either (is_size id l) false q (λ size_read. size_of_buffer id l size_read) (λ none. absurd cc)
makes_buffer id size content a l (WritesLater p q) = q

pub makes_structure : (id : ℕ) (form : _) (a : Action) (l : Location) → Clash a (MakeStructure id form) l → is_of_structure id l ≡ true
makes_structure id form a l (BothWrite p q) = q
makes_structure id form a l (ReadsLater p q) = either (is_form id l) false q (λ form_read. form_of_structure id l form_read) (λ none. absurd cc)
makes_structure id form a l (WritesLater p q) = q

pub no_rest : {X : Type 0} (a : Action) (l : Location) → Clash a Rest l → X
no_rest a l (BothWrite p q) = absurd cc
no_rest a l (ReadsLater p q) = absurd cc
no_rest a l (WritesLater p q) = absurd cc

pub no_sizes : {X : Type 0} (kind : _) (counts : List ℕ) (a : Action) (l : Location) → Clash a (ShowSizes kind counts) l → X
no_sizes kind counts a l (BothWrite p q) = absurd cc
no_sizes kind counts a l (ReadsLater p q) = absurd cc
no_sizes kind counts a l (WritesLater p q) = absurd cc
