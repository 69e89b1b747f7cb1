-- Which commands are ordered before a command: those below the number of their kind.
use Rattle.std.proofs.Common.{◌≡◌, ◌≤◌, ℕ, suc, true, false, ◌&&◌, nat_lt, if◌then◌else◌, List, Option, Some, None, slice_get, refl, sym, ◌∙◌, ap, arith}
use Rattle.std.specs.Option.{option_map_or}
use Rattle.std.proofs.lemmas.Bool.Decides.{nat_tests}
use Rattle.ray_cmd.specs.declared.command.Command.{Command}
use Rattle.ray_cmd.specs.declared.command.Command.TheVariants as commands
use Rattle.ray_rules.specs.declared.stage.Stage.{Stage}
use Rattle.ray_rules.specs.declared.stage.Stage.TheVariants as stages
use Rattle.ray_rules.specs.Order.{barriers, before, is_wait, kind_at, kind_before, last_wait}
use Rattle.ray_rules.specs.Order as order
use Rattle.ray_rules.specs.declared.kind.Kind.TheVariants as rules
use Rattle.ray_rules.specs.Kinds.{kind_of}
use Rattle.ray_sync.specs.declared.front.Front.{Front}
use Rattle.ray_sync.specs.declared.fronts.Fronts.{Fronts}
use Rattle.ray_sync.specs.declared.kind.Kind.{Kind}
use Rattle.ray_sync.specs.declared.kind.Kind.TheVariants.{Transfer, Build, StructureCopy, Compute, Barrier, Host}
use Rattle.ray_sync.specs.Fronts.{front_at, IsFront}
use Rattle.ray_sync.specs.Kinds.{AreFronts, device_limits, fronts_after, kind_in, kind_number, limits_of, no_fronts, number_of, order_kind, waited_after}
use Rattle.ray_sync.proofs.Advance.{front-first, front-next}

-- the kind of a command is that of the order
pub kind-is : (c : Command) → kind_of c ≡ order_kind (kind_in c)
unfolding kind_of
kind-is (commands.Update buffer offset content) = refl
kind-is (commands.Fill buffer offset size value) = refl
kind-is (commands.Copy src dst regions) = refl
kind-is (commands.Build infos) = refl
kind-is (commands.CopyStructure mode src dst) = refl
kind-is (commands.Serialize src dst form) = refl
kind-is (commands.Deserialize src dst uses) = refl
kind-is (commands.Property what structures dst) = refl
kind-is (commands.Trace top rays count hits flags mask script) = refl
kind-is (commands.Barrier src_stages src_access dst_stages dst_access buffers) = refl
kind-is _ = refl

pub kind-is_if :
    (o : Option Command)
    → option_map_or kind_of o rules.HostCommand ≡ order_kind (option_map_or kind_in o Host)
kind-is_if None = refl
kind-is_if (Some c) = kind-is c

pub kind-is_at : (rec : List Command) (i : ℕ) → kind_at rec i ≡ order_kind (kind_number rec i)
kind-is_at rec i = kind-is_if (slice_get rec i)

-- what is below a number that is at most i is below i
pub lt-within : (a i f : ℕ) → f ≤ i → (nat_lt a i && nat_lt a f) ≡ nat_lt a f
lt-within a i f h = grind (arith, nat_tests)

pub lt-true : (a i : ℕ) → (nat_lt a i && true) ≡ nat_lt a i
lt-true a i = grind (arith, nat_tests)

pub lt-false : (a i : ℕ) → (nat_lt a i && false) ≡ nat_lt a 0
lt-false a i = grind (arith, nat_tests)

-- what a front says of the commands of its stage
pub lt-front :
    (stage : Stage) (rec : List Command) (i : ℕ) (front : Front) (a : ℕ) (to : Stage)
    → IsFront stage rec i front
    → (nat_lt a i && order.is_ordered_to rec a stage i to) ≡ nat_lt a (front_at front to)
lt-front stage rec i front a to p =
    ap (λ b. nat_lt a i && b) (p.exact a to) ∙ lt-within a i (front_at front to) (p.within to)

pub before-device :
    (rec : List Command) (i : ℕ) (fronts : Fronts) (a : ℕ) (to : Stage) (k : Kind) → AreFronts rec i fronts
    → (nat_lt a i && kind_before (barriers rec) rec a i (order_kind k) (rules.Device to))
    ≡ nat_lt a (number_of (device_limits fronts i to) k)
before-device rec i fronts a to Transfer p = lt-front stages.Transfer rec i fronts.transfer a to p.transfer
before-device rec i fronts a to Build p = lt-front stages.Build rec i fronts.build a to p.build
before-device rec i fronts a to StructureCopy p = lt-front stages.StructureCopy rec i fronts.structure_copy a to p.structure_copy
before-device rec i fronts a to Compute p = lt-front stages.Compute rec i fronts.compute a to p.compute
before-device rec i fronts a to Barrier p = lt-false a i
before-device rec i fronts a to Host p = lt-true a i

pub before-barrier :
    (rec : List Command) (i : ℕ) (fronts : Fronts) (a : ℕ) (k : Kind)
    → (nat_lt a i && kind_before (barriers rec) rec a i (order_kind k) rules.Barrier) ≡ nat_lt a (number_of (limits_of fronts i Barrier) k)
before-barrier rec i fronts a Transfer = lt-false a i
before-barrier rec i fronts a Build = lt-false a i
before-barrier rec i fronts a StructureCopy = lt-false a i
before-barrier rec i fronts a Compute = lt-false a i
before-barrier rec i fronts a Barrier = lt-false a i
before-barrier rec i fronts a Host = lt-true a i

pub lt-waited :
    (rec : List Command) (i : ℕ) (fronts : Fronts) (a : ℕ) → AreFronts rec i fronts
    → (nat_lt a i && nat_lt a (last_wait rec i)) ≡ nat_lt a fronts.waited
lt-waited rec i fronts a p =
    ap (λ w. nat_lt a i && nat_lt a w) p.waited ∙ lt-within a i fronts.waited p.within

pub before-host :
    (rec : List Command) (i : ℕ) (fronts : Fronts) (a : ℕ) (k : Kind) → AreFronts rec i fronts
    → (nat_lt a i && kind_before (barriers rec) rec a i (order_kind k) rules.HostCommand)
    ≡ nat_lt a (number_of (limits_of fronts i Host) k)
before-host rec i fronts a Transfer p = lt-waited rec i fronts a p
before-host rec i fronts a Build p = lt-waited rec i fronts a p
before-host rec i fronts a StructureCopy p = lt-waited rec i fronts a p
before-host rec i fronts a Compute p = lt-waited rec i fronts a p
before-host rec i fronts a Barrier p = lt-waited rec i fronts a p
before-host rec i fronts a Host p = lt-true a i

pub before-kinds :
    (rec : List Command) (i : ℕ) (fronts : Fronts) (a : ℕ) (k kind : Kind) → AreFronts rec i fronts
    → (nat_lt a i && kind_before (barriers rec) rec a i (order_kind k) (order_kind kind))
    ≡ nat_lt a (number_of (limits_of fronts i kind) k)
before-kinds rec i fronts a k Transfer p = before-device rec i fronts a stages.Transfer k p
before-kinds rec i fronts a k Build p = before-device rec i fronts a stages.Build k p
before-kinds rec i fronts a k StructureCopy p = before-device rec i fronts a stages.StructureCopy k p
before-kinds rec i fronts a k Compute p = before-device rec i fronts a stages.Compute k p
before-kinds rec i fronts a k Barrier p = before-barrier rec i fronts a k
before-kinds rec i fronts a k Host p = before-host rec i fronts a k p

-- the commands that are ordered before command number i are those below the number of their kind
pub before-limits :
    (rec : List Command) (i : ℕ) (fronts : Fronts) (kind : Kind) → kind ≡ kind_number rec i → AreFronts rec i fronts
    → (a : ℕ) → before (barriers rec) rec a i ≡ nat_lt a (number_of (limits_of fronts i kind) (kind_number rec a))
before-limits rec i fronts kind e p a =
    (λ j. nat_lt a i && kind_before (barriers rec) rec a i (kind-is_at rec a j) ((kind-is_at rec i ∙ ap order_kind (sym e)) j))
    ∙ before-kinds rec i fronts a (kind_number rec a) kind p

-- these numbers are at most i
pub device-within :
    (rec : List Command) (i : ℕ) (fronts : Fronts) (to : Stage) (k : Kind) → AreFronts rec i fronts
    → number_of (device_limits fronts i to) k ≤ i
device-within rec i fronts to Transfer p = p.transfer.within to
device-within rec i fronts to Build p = p.build.within to
device-within rec i fronts to StructureCopy p = p.structure_copy.within to
device-within rec i fronts to Compute p = p.compute.within to
device-within rec i fronts to Barrier p = omega arith
device-within rec i fronts to Host p = omega arith

pub barrier-within : (i : ℕ) (fronts : Fronts) (k : Kind) → number_of (limits_of fronts i Barrier) k ≤ i
barrier-within i fronts Transfer = omega arith
barrier-within i fronts Build = omega arith
barrier-within i fronts StructureCopy = omega arith
barrier-within i fronts Compute = omega arith
barrier-within i fronts Barrier = omega arith
barrier-within i fronts Host = omega arith

pub host-within : (i : ℕ) (fronts : Fronts) (k : Kind) → fronts.waited ≤ i → number_of (limits_of fronts i Host) k ≤ i
host-within i fronts Transfer w = w
host-within i fronts Build w = w
host-within i fronts StructureCopy w = w
host-within i fronts Compute w = w
host-within i fronts Barrier w = w
host-within i fronts Host w = omega arith

pub limits-within :
    (rec : List Command) (i : ℕ) (fronts : Fronts) (kind k : Kind) → AreFronts rec i fronts
    → number_of (limits_of fronts i kind) k ≤ i
limits-within rec i fronts Transfer k p = device-within rec i fronts stages.Transfer k p
limits-within rec i fronts Build k p = device-within rec i fronts stages.Build k p
limits-within rec i fronts StructureCopy k p = device-within rec i fronts stages.StructureCopy k p
limits-within rec i fronts Compute k p = device-within rec i fronts stages.Compute k p
limits-within rec i fronts Barrier k p = barrier-within i fronts k
limits-within rec i fronts Host k p = host-within i fronts k p.within

-- the last `wait`
pub waited-step : (c : Command) (n last : ℕ) → (if is_wait (Some c) then n else last) ≡ waited_after n c last
waited-step commands.Wait n last = refl
waited-step _ n last = refl

pub waited-within : (c : Command) (n waited : ℕ) → waited ≤ n → waited_after n c waited ≤ suc n
waited-within commands.Wait n waited w = omega arith
waited-within _ n waited w = omega arith

-- from a command to the next
pub fronts-next :
    (rec : List Command) (n : ℕ) (fronts : Fronts) (c : Command) → slice_get rec n ≡ Some c → AreFronts rec n fronts
    → AreFronts rec (suc n) (fronts_after n c fronts)
fronts-next rec n fronts c e p = record {
  transfer = front-next stages.Transfer rec n fronts.transfer c e p.transfer;
  build = front-next stages.Build rec n fronts.build c e p.build;
  structure_copy = front-next stages.StructureCopy rec n fronts.structure_copy c e p.structure_copy;
  compute = front-next stages.Compute rec n fronts.compute c e p.compute;
  waited =
      ap (λ o. if is_wait o then n else last_wait rec n) e
      ∙ (waited-step c n (last_wait rec n) ∙ ap (waited_after n c) p.waited);
  within = waited-within c n fronts.waited p.within;
}

-- where a recording begins
pub fronts-first : (rec : List Command) → AreFronts rec 0 no_fronts
fronts-first rec = record {
  transfer = front-first stages.Transfer rec;
  build = front-first stages.Build rec;
  structure_copy = front-first stages.StructureCopy rec;
  compute = front-first stages.Compute rec;
  waited = refl;
  within = omega arith;
}
