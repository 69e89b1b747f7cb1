-- Conflicting actions of accepted commands are ordered by an order that separates these.
use Rattle.std.proofs.Common.{◌≡◌, ◌<◌, ◌≤◌, ℕ, Bool, true, false, List, [], ◌∷◌, Some, inl, inr, refl, sym, ◌∙◌, ap, subst, arith}
use Rattle.std.specs.Prelude.{◌&&◌, ◌||◌, nat_lt, slice_get}
use Rattle.std.specs.Option.{option_map_or}
use Rattle.std.proofs.lemmas.Bool.{cases_eq, cases_lt}
use Rattle.ray_schedule.specs.Conflicts.{AreOrdered, Conflict, IsForward, ReadAfterWrite, WriteAfterRead, WriteAfterWrite}
use Rattle.ray_cmd.specs.declared.command.Command.{Command}
use Rattle.ray_cmd.specs.declared.command.Command.TheVariants as commands
use Rattle.ray_rules.specs.declared.stage.Stage.{Stage}
use Rattle.ray_rules.specs.declared.stage.Stage.TheVariants.{Transfer, Build, StructureCopy, Compute}
use Rattle.ray_rules.specs.Access.{accesses_of, no_access, stage_of}
use Rattle.ray_rules.specs.Hazards.{accesses_at, status_at}
use Rattle.ray_rules.specs.Ids.{is_live}
use Rattle.ray_rules.specs.Names.{lacks_buffer, v1}
use Rattle.ray_rules.specs.declared.kind.Kind.{Kind}
use Rattle.ray_rules.specs.declared.kind.Kind.TheVariants.{Device, Barrier, HostCommand}
use Rattle.ray_rules.specs.Kinds.{kind_of}
use Rattle.ray_rules.specs.Order.{kind_at, last_wait}
use Rattle.ray_rules.specs.Status.{Status}
use Rattle.ray_action.specs.Action.{Action, MakeBuffer, MakeStructure, Rest, areas_read}
use Rattle.ray_action.specs.Areas.{cover}
use Rattle.ray_action.specs.Memory.{Location}
use Rattle.ray_action.specs.Pieces.{Numbered, actions_of, content_of, host_action}
use Rattle.ray_action.specs.Running.{action_at, number_at}
use Rattle.ray_action.specs.Storing.{writes}
use Rattle.ray_action.specs.Touching.{holds_data, touched}
use Rattle.ray_ready.specs.Accepted.{IsAccepted, MayRun}
use Rattle.ray_ready.specs.Laws.{first_actions}
use Rattle.ray_ready.proofs.Kept.{keeps}
use Rattle.ray_permitted.specs.Job.{Job, comes_before}
use Rattle.ray_permitted.specs.Laws.{NumbersRise}
use Rattle.ray_permitted.specs.Separates.{GoesForward, NumbersSeparate, Separates, accesses_conflict}
use Rattle.ray_permitted.specs.Work.{device_of, work_of}
use Rattle.ray_permitted.proofs.Truth.{and_first, and_second, both, is_less, item_at, less_is, no_first, one_item, or_left, or_right, same_some}
use Rattle.ray_permitted.proofs.Waits.{device_busy, is_busy, not_broken, wait_below, wait_between}
use Rattle.ray_permitted.proofs.Units.{AreTwo, piece_at, two_at, unit_is}
use Rattle.ray_permitted.proofs.Named.{IsThere, named}
use Rattle.ray_permitted.proofs.Sharing.{IsOneThing, some_shared}
use Rattle.ray_permitted.proofs.InfosApart.{Clash, BothWrite, ReadsLater, WritesLater}
use Rattle.ray_permitted.proofs.Parts.{pieces_apart}
use Rattle.ray_permitted.proofs.Pieces.{piece_reads, piece_writes}
use Rattle.ray_permitted.proofs.Between.{clash_there, idle_at_destroy, idle_at_read, makes_buffer, makes_structure, no_rest, no_sizes, of_buffer, of_structure, one_or_waited, state_kept, waited_at_buffer, waited_at_structure}

-- ---- kinds of commands

-- a command of the device with a stage, a barrier, or a command of the host
data Sort (c : Command) : Type 0 where
  IsOfDevice : (s : Stage) → stage_of c ≡ Some s → kind_of c ≡ Device s → Sort c
  IsBarrier : kind_of c ≡ Barrier → Sort c
  IsOfHost : kind_of c ≡ HostCommand → Sort c

sort : (c : Command) → Sort c
unfolding stage_of kind_of
sort (commands.Buffer id size usage content) = IsOfHost refl
sort (commands.Structure id kind buffer offset size) = IsOfHost refl
sort (commands.Destroy what id) = IsOfHost refl
sort (commands.Sizes kind counts) = IsOfHost refl
sort commands.Begin = IsOfHost refl
sort commands.End = IsOfHost refl
sort commands.Submit = IsOfHost refl
sort commands.Wait = IsOfHost refl
sort (commands.Read buffer offset size form) = IsOfHost refl
sort (commands.Update buffer offset content) = IsOfDevice Transfer refl refl
sort (commands.Fill buffer offset size value) = IsOfDevice Transfer refl refl
sort (commands.Copy src dst regions) = IsOfDevice Transfer refl refl
sort (commands.Build infos) = IsOfDevice Build refl refl
sort (commands.CopyStructure mode src dst) = IsOfDevice StructureCopy refl refl
sort (commands.Serialize src dst form) = IsOfDevice StructureCopy refl refl
sort (commands.Deserialize src dst uses) = IsOfDevice StructureCopy refl refl
sort (commands.Property what structures dst) = IsOfDevice Build refl refl
sort (commands.Barrier src_stages src_access dst_stages dst_access buffers) = IsBarrier refl
sort (commands.Trace top rays count hits flags mask script) = IsOfDevice Compute refl refl

-- a barrier has one action, which does nothing
barrier_rests : (rec : List Command) (z : Status) (c : Command) (k : ℕ) (a : Action) → kind_of c ≡ Barrier → slice_get (actions_of rec z c) k ≡ Some a → (k ≡ 0) × (Rest ≡ a)
unfolding kind_of actions_of
barrier_rests rec z (commands.Barrier src_stages src_access dst_stages dst_access buffers) k a kind there = one_item Rest a k there
barrier_rests rec z _ k a kind there = absurd cc

-- a host command has one
host_one : (rec : List Command) (z : Status) (c : Command) (k : ℕ) (a : Action) → kind_of c ≡ HostCommand → slice_get (actions_of rec z c) k ≡ Some a → k ≡ 0
unfolding kind_of actions_of
host_one rec z (commands.Buffer id size usage content) k a kind there = (one_item _ a k there).0
host_one rec z (commands.Structure id of_kind buffer offset size) k a kind there = (one_item _ a k there).0
host_one rec z (commands.Destroy what id) k a kind there = (one_item _ a k there).0
host_one rec z (commands.Sizes of_kind counts) k a kind there = (one_item _ a k there).0
host_one rec z commands.Begin k a kind there = (one_item Rest a k there).0
host_one rec z commands.End k a kind there = (one_item Rest a k there).0
host_one rec z commands.Submit k a kind there = (one_item Rest a k there).0
host_one rec z commands.Wait k a kind there = (one_item Rest a k there).0
host_one rec z (commands.Read buffer offset size form) k a kind there = (one_item _ a k there).0
host_one rec z _ k a kind there = absurd cc

no_rest_first : {X : Type 0} (b : Action) (l : Location) → Clash Rest b l → X
no_rest_first b l (BothWrite p q) = absurd cc
no_rest_first b l (ReadsLater p q) = absurd cc
no_rest_first b l (WritesLater p q) = absurd cc

-- ---- a device command before a host command

-- what one command of the device and a later one of the host know of each other
record Pair (rec : List Command) (n i j : ℕ) (c d : Command) (a b : Action) (l : Location) (k m : ℕ) : Type 0 where
  accepted : IsAccepted rec n
  less : i < j
  within : j < n
  first : slice_get rec i ≡ Some c
  second : slice_get rec j ≡ Some d
  here : slice_get (actions_of rec (status_at rec i) c) k ≡ Some a
  there : slice_get (actions_of rec (status_at rec j) d) m ≡ Some b
  clash : Clash a b l

is_there : (rec : List Command) (n i j : ℕ) (c d : Command) (s : Stage) (a b : Action) (l : Location) (k m : ℕ) → Pair rec n i j c d a b l k m → stage_of c ≡ Some s → IsThere (status_at rec i) l
is_there rec n i j c d s a b l k m p stage =
    let less : i < j = p.less in
    let within : j < n = p.within in
    clash_there (status_at rec i) a b l (named rec (status_at rec i) c s k a (p.accepted.each i c (omega (arith, less, within)) p.first) stage p.here) p.clash

waits : (rec : List Command) (n i j : ℕ) (c d : Command) (s : Stage) (a b : Action) (l : Location) (k m : ℕ) → Pair rec n i j c d a b l k m → stage_of c ≡ Some s → is_busy (status_at rec j) ≡ false
    → i < last_wait rec j
waits rec n i j c d s a b l k m p stage idle =
    let less : i < j = p.less in
    let within : j < n = p.within in
    wait_between rec i j (device_busy rec i c s p.first stage (state_kept rec n i c p.accepted (omega (arith, less, within)) p.first).phase) less idle

makes_wait : (rec : List Command) (n i j : ℕ) (c : Command) (s : Stage) (a b : Action) (l : Location) (k m id size : ℕ) (usage : _) (content : _)
    → Pair rec n i j c (commands.Buffer id size usage content) a b l k m → stage_of c ≡ Some s → MakeBuffer id size (content_of usage content) ≡ b → i < last_wait rec j
unfolding v1
makes_wait rec n i j c s a b l k m id size usage content p stage same =
    let d : Command = commands.Buffer id size usage content in
    let names = (state_kept rec n j d p.accepted p.within p.second).names in
    let clash = subst (λ x. Clash a x l) (sym same) p.clash in
    waited_at_buffer rec n i j c s id p.accepted p.first stage p.less p.within
    (of_buffer (status_at rec i) id l (makes_buffer id size (content_of usage content) a l clash) (is_there rec n i j c d s a b l k m p stage))
    (not_broken (is_live (status_at rec j).buffers id) names)

structure_waits : (rec : List Command) (n i j : ℕ) (c : Command) (s : Stage) (a b : Action) (l : Location) (k m id : ℕ) (kind : _) (buffer offset size : ℕ)
    → Pair rec n i j c (commands.Structure id kind buffer offset size) a b l k m → stage_of c ≡ Some s → MakeStructure id (record { kind = kind; size = size }) ≡ b → i < last_wait rec j
unfolding v1
structure_waits rec n i j c s a b l k m id kind buffer offset size p stage same =
    let d : Command = commands.Structure id kind buffer offset size in
    let names = (state_kept rec n j d p.accepted p.within p.second).names in
    let clash = subst (λ x. Clash a x l) (sym same) p.clash in
    waited_at_structure rec n i j c s id p.accepted p.first stage p.less p.within
    (of_structure (status_at rec i) id l (makes_structure id (record { kind = kind; size = size }) a l clash) (is_there rec n i j c d s a b l k m p stage))
    (no_first (is_live (status_at rec j).structures id) (lacks_buffer (status_at rec j) buffer)
    (not_broken (is_live (status_at rec j).structures id || lacks_buffer (status_at rec j) buffer) names))

rest_waits : (rec : List Command) (i j : ℕ) (a b : Action) (l : Location) (m : ℕ) → Clash a b l → slice_get (Rest ∷ []) m ≡ Some b → i < last_wait rec j
rest_waits rec i j a b l m clash there = no_rest a l (subst (λ x. Clash a x l) (sym (one_item Rest b m there).1) clash)

host_waits : (rec : List Command) (n i j : ℕ) (c d : Command) (s : Stage) (a b : Action) (l : Location) (k m : ℕ) → Pair rec n i j c d a b l k m → stage_of c ≡ Some s → kind_of d ≡ HostCommand
    → i < last_wait rec j
unfolding kind_of actions_of host_action
host_waits rec n i j c (commands.Buffer id size usage content) s a b l k m p stage kind =
    makes_wait rec n i j c s a b l k m id size usage content p stage (one_item _ b m p.there).1
host_waits rec n i j c (commands.Structure id of_kind buffer offset size) s a b l k m p stage kind =
    structure_waits rec n i j c s a b l k m id of_kind buffer offset size p stage (one_item _ b m p.there).1
host_waits rec n i j c (commands.Destroy what id) s a b l k m p stage kind =
    waits rec n i j c (commands.Destroy what id) s a b l k m p stage
    (idle_at_destroy (status_at rec j) what id (state_kept rec n j (commands.Destroy what id) p.accepted p.within p.second))
host_waits rec n i j c (commands.Sizes of_kind counts) s a b l k m p stage kind =
    no_sizes of_kind counts a l (subst (λ x. Clash a x l) (sym (one_item _ b m p.there).1) p.clash)
host_waits rec n i j c commands.Begin s a b l k m p stage kind = rest_waits rec i j a b l m p.clash p.there
host_waits rec n i j c commands.End s a b l k m p stage kind = rest_waits rec i j a b l m p.clash p.there
host_waits rec n i j c commands.Submit s a b l k m p stage kind = rest_waits rec i j a b l m p.clash p.there
host_waits rec n i j c commands.Wait s a b l k m p stage kind = rest_waits rec i j a b l m p.clash p.there
host_waits rec n i j c (commands.Read buffer offset size form) s a b l k m p stage kind =
    waits rec n i j c (commands.Read buffer offset size form) s a b l k m p stage
    (idle_at_read (status_at rec j) buffer offset size form (state_kept rec n j (commands.Read buffer offset size form) p.accepted p.within p.second))
host_waits rec n i j c _ s a b l k m p stage kind = absurd cc

-- ---- a device command before another

accesses_are : (rec : List Command) (i : ℕ) (c : Command) → slice_get rec i ≡ Some c → accesses_at rec i ≡ accesses_of rec (status_at rec i) c
accesses_are rec i c is = ap (λ o. option_map_or (accesses_of rec (status_at rec i)) o no_access) is

-- what a command's piece writes or reads, as the rules on hazards say it
piece_wrote : (rec : List Command) (i : ℕ) (c : Command) (s : Stage) (k : ℕ) (a : Action) (l : Location) → slice_get rec i ≡ Some c → stage_of c ≡ Some s
    → slice_get (actions_of rec (status_at rec i) c) k ≡ Some a → writes a l ≡ true → touched (accesses_at rec i).writes l ≡ true
piece_wrote rec i c s k a l is stage there e =
    subst (λ x. touched x.writes l ≡ true) (sym (accesses_are rec i c is)) (piece_writes rec (status_at rec i) c s k a l stage there e).0

piece_read : (rec : List Command) (i : ℕ) (c : Command) (s : Stage) (k : ℕ) (a : Action) (l : Location) → slice_get rec i ≡ Some c → stage_of c ≡ Some s
    → slice_get (actions_of rec (status_at rec i) c) k ≡ Some a → holds_data l ≡ true → cover (areas_read a) l ≡ true → touched (accesses_at rec i).reads l ≡ true
piece_read rec i c s k a l is stage there holds e =
    subst (λ x. touched x.reads l ≡ true) (sym (accesses_are rec i c is)) (piece_reads rec (status_at rec i) c s k a l stage there holds e)

-- so the accesses of two commands conflict where their actions do, at a location of one thing
accesses_clash : (rec : List Command) (n i j : ℕ) (c d : Command) (s t : Stage) (a b : Action) (l : Location) (k m : ℕ) → Pair rec n i j c d a b l k m → stage_of c ≡ Some s → stage_of d ≡ Some t
    → IsOneThing (status_at rec i) (status_at rec j) l → Clash a b l → accesses_conflict rec i j ≡ true
accesses_clash rec n i j c d s t a b l k m p from to one (BothWrite x y) =
    or_right _ _ (or_left _ _
    (some_shared rec i j (accesses_at rec i).writes (accesses_at rec j).writes l one (piece_wrote rec i c s k a l p.first from p.here x) (piece_wrote rec j d t m b l p.second to p.there y)))
accesses_clash rec n i j c d s t a b l k m p from to one (ReadsLater x y) =
    or_left _ _
    (some_shared rec i j (accesses_at rec i).writes (accesses_at rec j).reads l one (piece_wrote rec i c s k a l p.first from p.here x)
    (piece_read rec j d t m b l p.second to p.there (piece_writes rec (status_at rec i) c s k a l from p.here x).1 y))
accesses_clash rec n i j c d s t a b l k m p from to one (WritesLater x y) =
    or_right _ _ (or_right _ _
    (some_shared rec i j (accesses_at rec i).reads (accesses_at rec j).writes l one
    (piece_read rec i c s k a l p.first from p.here (piece_writes rec (status_at rec j) d t m b l to p.there y).1 x)
    (piece_wrote rec j d t m b l p.second to p.there y)))

-- ---- the order

kind_is : (rec : List Command) (i : ℕ) (c : Command) (x : Kind) → slice_get rec i ≡ Some c → kind_of c ≡ x → kind_at rec i ≡ x
kind_is rec i c x is same = ap (λ o. option_map_or kind_of o HostCommand) is ∙ same

device_ordered : (rec : List Command) (order : ℕ → ℕ → Bool) (n i j : ℕ) (c d : Command) (s t : Stage) (a b : Action) (l : Location) (k m : ℕ) → Separates rec n order
    → Pair rec n i j c d a b l k m → stage_of c ≡ Some s → stage_of d ≡ Some t → kind_of c ≡ Device s → kind_of d ≡ Device t → order i j ≡ true
device_ordered rec order n i j c d s t a b l k m separates p from to x y =
    let within : j < n = p.within in
    let here = kind_is rec i c (Device s) p.first x in
    let there = kind_is rec j d (Device t) p.second y in
    elim (one_or_waited rec n i j c s l p.accepted p.first from p.less (omega (arith, within)) (is_there rec n i j c d s a b l k m p from)) [
      | inl behind ↦ separates.device_waits i behind.host j s t behind.waited behind.below p.within here behind.is_host there
      | inr one ↦ separates.conflicts i j s t p.less p.within here there (accesses_clash rec n i j c d s t a b l k m p from to one p.clash)
    ]

by_sorts : (rec : List Command) (order : ℕ → ℕ → Bool) (n i j : ℕ) (c d : Command) (a b : Action) (l : Location) (k m : ℕ) → Separates rec n order → Pair rec n i j c d a b l k m
    → Sort c → Sort d → order i j ≡ true
by_sorts rec order n i j c d a b l k m separates p (IsOfHost x) y =
    separates.host i j p.less p.within (kind_is rec i c HostCommand p.first x)
by_sorts rec order n i j c d a b l k m separates p (IsBarrier x) y =
    no_rest_first b l (subst (λ w. Clash w b l) (sym (barrier_rests rec (status_at rec i) c k a x p.here).1) p.clash)
by_sorts rec order n i j c d a b l k m separates p (IsOfDevice s from x) (IsBarrier y) =
    no_rest a l (subst (λ w. Clash a w l) (sym (barrier_rests rec (status_at rec j) d m b y p.there).1) p.clash)
by_sorts rec order n i j c d a b l k m separates p (IsOfDevice s from x) (IsOfDevice t to y) =
    device_ordered rec order n i j c d s t a b l k m separates p from to x y
by_sorts rec order n i j c d a b l k m separates p (IsOfDevice s from x) (IsOfHost y) =
    separates.host_waits i j s (host_waits rec n i j c d s a b l k m p from y) p.within
    (kind_is rec i c (Device s) p.first x) (kind_is rec j d HostCommand p.second y)

-- pieces of one command don't conflict
same_command : (rec : List Command) (z : Status) (c : Command) (k m : ℕ) (a b : Action) (l : Location) → MayRun rec z c → k < m → slice_get (actions_of rec z c) k ≡ Some a
    → slice_get (actions_of rec z c) m ≡ Some b → Clash a b l → Sort c → ⊥
same_command rec z c k m a b l may less here there clash (IsOfDevice s stage x) =
    pieces_apart rec z c s k m a b l (keeps rec z c may.rules).apart stage less here there clash
same_command rec z c k m a b l may less here there clash (IsBarrier x) =
    let none : m ≡ 0 = (barrier_rests rec z c m b x there).0 in omega (arith, less, none)
same_command rec z c k m a b l may less here there clash (IsOfHost x) =
    let none : m ≡ 0 = host_one rec z c m b x there in omega (arith, less, none)

-- two conflicting actions
two_ordered : (rec : List Command) (order : ℕ → ℕ → Bool) (n : ℕ) (u v : Numbered) (l : Location) → IsAccepted rec n → Separates rec n order → AreTwo rec n u v
    → Clash u.action v.action l → order u.command v.command ≡ true
two_ordered rec order n u v l accepted separates two clash =
    elim two.apart [
      | inl less ↦
          by_sorts rec order n u.command v.command two.first.command two.second.command u.action v.action l two.k two.m separates
          (record {
            accepted = accepted;
            less = less;
            within = two.second.below;
            first = two.first.is_it;
            second = two.second.is_it;
            here = two.first.piece;
            there = two.second.piece;
            clash = clash;
          }) (sort two.first.command) (sort two.second.command)
      | inr same ↦
          (let c : Command = two.first.command in
          let one : two.second.command ≡ c = same_some two.second.command c (sym two.second.is_it ∙ (ap (slice_get rec) (sym same.0) ∙ two.first.is_it)) in
          let there : slice_get (actions_of rec (status_at rec u.command) c) two.m ≡ Some v.action =
          (λ i. slice_get (actions_of rec (status_at rec (same.0 i)) (sym one i)) two.m) ∙ two.second.piece in
          absurd (same_command rec (status_at rec u.command) c two.k two.m u.action v.action l
          (accepted.each u.command c two.first.below two.first.is_it) same.1 two.first.piece there clash (sort c)))
    ]

-- a conflict of two units is one of their actions
clash_of : (job : Job) (units : List Numbered) (p q : ℕ) (u v : Numbered) (l : Location) → action_at units p ≡ u.action → action_at units q ≡ v.action
    → Conflict (device_of job units) p q l → Clash u.action v.action l
clash_of job units p q u v l here there (WriteAfterWrite x y) =
    BothWrite (subst (λ a. writes a l ≡ true) here x) (subst (λ a. writes a l ≡ true) there y)
clash_of job units p q u v l here there (ReadAfterWrite x y) =
    ReadsLater (subst (λ a. writes a l ≡ true) here x) (subst (λ a. cover (areas_read a) l ≡ true) there y)
clash_of job units p q u v l here there (WriteAfterRead x y) =
    WritesLater (subst (λ a. cover (areas_read a) l ≡ true) here x) (subst (λ a. writes a l ≡ true) there y)

-- an order that separates commands need not be that of the job
pub are_ordered : (job : Job) (order : ℕ → ℕ → Bool) (n : ℕ) → IsAccepted job.commands n → Separates job.commands n order
    → AreOrdered (work_of job n).device order (work_of job n).count
are_ordered job order n accepted separates p q l less below conflict =
    let rec : List Command = job.commands in
    let us : List Numbered = first_actions rec n in
    let u = item_at us p (omega (arith, less, below)) in
    let v = item_at us q below in
    let here = unit_is us p u.0 u.1 in
    let there = unit_is us q v.0 v.1 in
    (λ i. order (here.1 i) (there.1 i))
    ∙ two_ordered rec order n u.0 v.0 l accepted separates (two_at rec n p q u.0 v.0 less u.1 v.1) (clash_of job us p q u.0 v.0 l here.0 there.0 conflict)

-- ---- wave numbers

-- numbers that separate commands, as an order: a command comes before a later one with a greater number
abbrev by_number : (ℕ → ℕ) → ℕ → ℕ → Bool
by_number number i j = nat_lt i j && nat_lt (number i) (number j)

rises : (number : ℕ → ℕ) (i j : ℕ) → i < j → number i < number j → by_number number i j ≡ true
rises number i j less more = both (nat_lt i j) (nat_lt (number i) (number j)) (less_is i j less) (less_is (number i) (number j) more)

numbers_separate : (rec : List Command) (n : ℕ) (number : ℕ → ℕ) → NumbersSeparate rec n number → Separates rec n (by_number number)
numbers_separate rec n number separate = record {
  forward = λ i j here there e. is_less i j (and_first (nat_lt i j) (nat_lt (number i) (number j)) e);
  host = λ i j less within host. rises number i j less (separate.host i j less within host);
  host_waits = λ i j s waited within here there.
      let below : last_wait rec j ≤ j = wait_below rec j in
      rises number i j (omega (arith, waited, below)) (separate.host_waits i j s waited within here there);
  device_waits = λ i h j s t waited less within here host there.
      let below : last_wait rec h ≤ h = wait_below rec h in
      let first : number i < number h = separate.host_waits i h s waited (omega (arith, less, within)) here host in
      let second : number h < number j = separate.host h j less within host in
      rises number i j (omega (arith, waited, below, less)) (omega (arith, first, second));
  conflicts = λ i j s t less within here there conflict. rises number i j less (separate.conflicts i j s t less within here there conflict);
}

pub numbers_rise : NumbersRise
numbers_rise job n number accepted separate p q l less below conflict =
    let us : List Numbered = first_actions job.commands n in
    let i : ℕ = number_at us p in
    let j : ℕ = number_at us q in
    let e = are_ordered job (by_number number) n accepted (numbers_separate job.commands n number separate) p q l less below conflict in
    is_less (number i) (number j) (and_second (nat_lt i j) (nat_lt (number i) (number j)) e)

-- ---- the order goes forward

-- of two actions the later one belongs to no earlier command
no_earlier : (rec : List Command) (n : ℕ) (u v : Numbered) → AreTwo rec n v u → u.command < v.command → ⊥
no_earlier rec n u v two less =
    elim two.apart [
      | inl earlier ↦ omega (arith, less, earlier)
      | inr same ↦ (let one : v.command ≡ u.command = same.0 in omega (arith, less, one))
    ]

-- where the command of one action is ordered before that of another, the action stands before it
forward_by : (rec : List Command) (n p q : ℕ) (u v : Numbered) → u.command < v.command → (q < p → AreTwo rec n v u) → (p ≡ q → u.command ≡ v.command) → p < q
forward_by rec n p q u v less two same =
    elim (cases_lt p q) [
      | inl first ↦ first
      | inr more ↦ elim (cases_eq p q) [
        | inl equal ↦ (let one : u.command ≡ v.command = same equal in absurd (omega (arith, less, one)))
        | inr differs ↦ absurd (no_earlier rec n u v (two (beyond p q more differs)) less)
      ]
    ]
  where
    beyond : (p q : ℕ) → q ≤ p → (p ≡ q → ⊥) → q < p
    beyond p q more differs = elim (cases_lt q p) [ inl l ↦ l | inr g ↦ absurd (differs (omega (arith, more, g))) ]

pub is_forward : (job : Job) (n : ℕ) → GoesForward n (comes_before job) → IsForward (work_of job n).device (comes_before job) (work_of job n).count
is_forward job n forward p q less below e =
    let rec : List Command = job.commands in
    let us : List Numbered = first_actions rec n in
    let u = item_at us p less in
    let v = item_at us q below in
    let here = unit_is us p u.0 u.1 in
    let there = unit_is us q v.0 v.1 in
    let first = piece_at rec n p u.0 u.1 in
    let second = piece_at rec n q v.0 v.1 in
    forward_by rec n p q u.0 v.0
    (forward u.0.command v.0.command first.1.below second.1.below (sym (λ i. comes_before job (here.1 i) (there.1 i)) ∙ e))
    (λ later. two_at rec n q p v.0 u.0 later v.1 u.1) (λ same. sym here.1 ∙ (ap (number_at us) same ∙ there.1))
