-- An order in which what is covered is ordered separates commands that break no rule, as that of barriers and
-- waits does.
use Rattle.std.proofs.Common.{◌≡◌, ◌<◌, ◌≤◌, ℕ, true, List, Option, Some, None, refl, ◌∙◌, ap, arith}
use Rattle.std.specs.Prelude.{nat_lt, slice_get}
use Rattle.std.specs.Option.{option_map_or}
use Rattle.ray_cmd.specs.declared.command.Command.{Command}
use Rattle.ray_cmd.specs.declared.command.Command.TheVariants as commands
use Rattle.ray_rules.specs.declared.kind.Kind.{Kind}
use Rattle.ray_rules.specs.declared.kind.Kind.TheVariants.{Device, HostCommand}
use Rattle.ray_rules.specs.declared.stage.Stage.{Stage}
use Rattle.ray_rules.specs.Access.{stage_of}
use Rattle.ray_rules.specs.Hazards.{accesses_at, stage_at}
use Rattle.ray_rules.specs.Kinds.{kind_of, stage_in}
use Rattle.ray_rules.specs.Order.{Ordering, is_device, kind_at, kind_before, last_wait, takes_stage}
use Rattle.ray_rules.specs.Refusals.{AreKept}
use Rattle.ray_rules.specs.Verdict.{hazard_table}
use Rattle.ray_sync.proofs.Within.{covered-ordered}
use Rattle.ray_permitted.specs.Job.{Job, comes_before}
use Rattle.ray_permitted.specs.Laws.{BarriersCarryOrder, OrdersGoForward, OrdersSeparate}
use Rattle.ray_permitted.specs.Separates.{CarriesOrder, accesses_conflict, some_share}
use Rattle.ray_permitted.proofs.Sharing.{read_after_write, write_after_read, write_after_write}
use Rattle.ray_permitted.proofs.Truth.{and_first, both, either, is_less, less_is}
use Rattle.ray_permitted.proofs.Waits.{wait_below, wait_later, wait_orders}

-- ---- kinds and stages

stage_found : (found : Option Command) (s : Stage) → option_map_or kind_of found HostCommand ≡ Device s → option_map_or stage_of found None ≡ Some s
unfolding stage_of
stage_found None s e = absurd cc
stage_found (Some c) s e = ap stage_in e

stage_is : (rec : List Command) (i : ℕ) (s : Stage) → kind_at rec i ≡ Device s → stage_at rec i ≡ Some s
stage_is rec i s e = stage_found (slice_get rec i) s e

-- the stage of a device command isn't the host's
by_device : (c : Command) (s : Stage) → kind_of c ≡ Device s → is_device s ≡ true
unfolding kind_of
by_device (commands.Update buffer offset content) s e = cc
by_device (commands.Fill buffer offset size value) s e = cc
by_device (commands.Copy src dst regions) s e = cc
by_device (commands.Build infos) s e = cc
by_device (commands.CopyStructure mode src dst) s e = cc
by_device (commands.Serialize src dst form) s e = cc
by_device (commands.Deserialize src dst uses) s e = cc
by_device (commands.Property what structures dst) s e = cc
by_device (commands.Trace top rays count hits flags mask script) s e = cc
by_device _ s e = absurd cc

found_device : (found : Option Command) (s : Stage) → option_map_or kind_of found HostCommand ≡ Device s → is_device s ≡ true
found_device None s e = absurd cc
found_device (Some c) s e = by_device c s e

-- ---- any order

before_is : (job : Job) (i j : ℕ) (x y : Kind) → i < j → kind_at job.commands i ≡ x → kind_at job.commands j ≡ y → kind_before job.order job.commands i j x y ≡ true
    → comes_before job i j ≡ true
before_is job i j x y less here there e =
    both (nat_lt i j) (kind_before job.order job.commands i j (kind_at job.commands i) (kind_at job.commands j)) (less_is i j less)
    ((λ w. kind_before job.order job.commands i j (here w) (there w)) ∙ e)

pub orders_forward : OrdersGoForward
orders_forward job n i j here there e =
    is_less i j (and_first (nat_lt i j) (kind_before job.order job.commands i j (kind_at job.commands i) (kind_at job.commands j)) e)

-- a later command is ordered behind one with which it conflicts
by_hazards : (order : Ordering) (rec : List Command) → CarriesOrder rec order → (i j : ℕ) (s t : Stage) → i < j → is_device t ≡ true → stage_at rec i ≡ Some s → stage_at rec j ≡ Some t
    → AreKept (hazard_table order rec j) → accesses_conflict rec i j ≡ true → order.ordered i s j t ≡ true
by_hazards order rec carries i j s t less device from to (k25, (k26, (k27, more))) conflict =
    either (some_share rec i j (accesses_at rec i).writes (accesses_at rec j).reads) _ conflict
    (λ share. read_after_write order rec carries i j s t device from to less k25 share)
    (λ rest.
    either (some_share rec i j (accesses_at rec i).writes (accesses_at rec j).writes) (some_share rec i j (accesses_at rec i).reads (accesses_at rec j).writes) rest
    (λ share. write_after_write order rec carries i j s t device from to less k26 share)
    (λ share. write_after_read order rec i j s t from to less k27 share))

pub orders_separate : OrdersSeparate
orders_separate job n carries rules =
    let rec : List Command = job.commands in record {
      accepted = rules.accepted;
      separates = record {
        forward = orders_forward job n;
        host = λ i j less within here. before_is job i j HostCommand (kind_at rec j) less here refl refl;
        host_waits = λ i j s waited within here there.
            let below : last_wait rec j ≤ j = wait_below rec j in
            before_is job i j (Device s) HostCommand (omega (arith, waited, below)) here there (less_is i (last_wait rec j) waited);
        device_waits = λ i h j s t waited less within here host there.
            let below : last_wait rec h ≤ h = wait_below rec h in
            let later : last_wait rec h ≤ last_wait rec j = wait_later rec h j (omega (arith, less)) in
            before_is job i j (Device s) (Device t) (omega (arith, waited, below, less)) here there
            (carries.waits i j s t (found_device (slice_get rec j) t there) (omega (arith, waited, later)));
        conflicts = λ i j s t less within here there conflict.
            before_is job i j (Device s) (Device t) less here there
            (by_hazards job.order rec carries i j s t less (found_device (slice_get rec j) t there) (stage_is rec i s here) (stage_is rec j t there)
            (rules.hazards j within) conflict);
      };
    }

-- ---- the order of barriers

pub barriers_carry : BarriersCarryOrder
barriers_carry rec = record {
  covered = λ i s access thing j to x device e. covered-ordered rec i s access thing j to x e;
  waits = λ i j s to device waited. wait_orders (takes_stage s) rec i j to device waited;
}
