-- What is covered is ordered: a barrier that hands on a write hands on that its command is done.
use Rattle.std.proofs.Common.{◌≡◌, ℕ, zero, suc, Bool, true, false, ◌&&◌, ◌||◌, nat_lt, if◌then◌else◌, List, Option, Some, None, slice_get, refl, ◌∙◌, ap}
use Rattle.ray_cmd.specs.declared.command.Command.{Command}
use Rattle.ray_cmd.specs.declared.command.Command.TheVariants as commands
use Rattle.ray_flags.specs.declared.access.Access.{Access}
use Rattle.ray_flags.specs.declared.stages.Stages.{Stages}
use Rattle.ray_rules.specs.declared.access_type.AccessType.{AccessType}
use Rattle.ray_rules.specs.declared.stage.Stage.{Stage}
use Rattle.ray_rules.specs.declared.stage.Stage.TheVariants.{Transfer, Build, StructureCopy, Compute, Host}
use Rattle.ray_rules.specs.Order.{Handed, acts_at, always, handed_after, handed_after_if, handed_at, holds_access, holds_stage, is_device, meets_stages, not_handed, takes_stage, takes_write}
use Rattle.ray_sync.specs.Covering.{CoveredIsOrdered}
use Rattle.ray_sync.proofs.Advance.{or-true}

-- where one holds, the other does
abbrev pub Gives : Bool → Bool → Type 0
Gives a b = a ≡ true → b ≡ true

pub or-gives : (a b c d : Bool) → Gives a c → Gives b d → Gives (a || b) (c || d)
or-gives true b c d p q h = ap (λ x. x || d) (p refl)
or-gives false b c d p q h = ap (λ x. c || x) (q h) ∙ or-true c

pub and-gives : (a b c d : Bool) → Gives a c → Gives b d → Gives (a && b) (c && d)
and-gives true b c d p q h = ap (λ x. x && d) (p refl) ∙ q h
and-gives false b c d p q h = absurd cc

pub and-first : (a b : Bool) → Gives (a && b) a
and-first true b h = refl
and-first false b h = absurd cc

-- a barrier that takes up a write takes up its command
pub takes-gives :
    (stage : Stage) (access : AccessType) (src : Stages) (sa : Access)
    → Gives (takes_write stage access src sa) (takes_stage stage src sa)
takes-gives stage access src sa = and-first (holds_stage src stage) (holds_access sa access)

-- more stages that are reached are met too
pub meets-gives :
    (src : Stages) (some more : Stage → Bool) → ((s : Stage) → Gives (some s) (more s))
    → Gives (meets_stages src some) (meets_stages src more)
meets-gives src some more p =
    let at : (s : Stage) → Gives (holds_stage src s && some s) (holds_stage src s && more s) =
    λ s. and-gives (holds_stage src s) (some s) (holds_stage src s) (more s) (λ h. h) (p s)
    in
    or-gives (holds_stage src Transfer && some Transfer) _ (holds_stage src Transfer && more Transfer) _ (at Transfer)
    (or-gives (holds_stage src Build && some Build) _ (holds_stage src Build && more Build) _ (at Build)
    (or-gives (holds_stage src StructureCopy && some StructureCopy) _ (holds_stage src StructureCopy && more StructureCopy) _
    (at StructureCopy)
    (or-gives (holds_stage src Compute && some Compute) (holds_stage src Host && some Host)
    (holds_stage src Compute && more Compute) (holds_stage src Host && more Host) (at Compute) (at Host))))

-- how far a write is handed on is within how far its command is
pub record IsWithin (written done : Handed) : Type 0 where
  pub stages : (s : Stage) → Gives (written.stages s) (done.stages s)
  pub pairs : (s : Stage) (x : AccessType) → Gives (written.pairs s x) (done.stages s)

pub taken-gives :
    (stage : Stage) (access : AccessType) (src : Stages) (sa : Access) (written done : Handed) → IsWithin written done
    → Gives (takes_write stage access src sa || meets_stages src written.stages)
    (takes_stage stage src sa || meets_stages src done.stages)
taken-gives stage access src sa written done p =
    or-gives (takes_write stage access src sa) (meets_stages src written.stages) (takes_stage stage src sa)
    (meets_stages src done.stages) (takes-gives stage access src sa)
    (meets-gives src written.stages done.stages p.stages)

pub within-after :
    (stage : Stage) (access : AccessType) (c : Command) (written done : Handed) → IsWithin written done
    → IsWithin (handed_after (takes_write stage access) c written) (handed_after (takes_stage stage) c done)
within-after stage access (commands.Barrier src sa dst da ids) written done p =
    let w : Bool = takes_write stage access src sa || meets_stages src written.stages in
    let d : Bool = takes_stage stage src sa || meets_stages src done.stages in
    let taken : Gives w d = taken-gives stage access src sa written done p in
    record {
      stages = λ s.
          or-gives (written.stages s) (w && holds_stage dst s) (done.stages s) (d && holds_stage dst s) (p.stages s)
          (and-gives w (holds_stage dst s) d (holds_stage dst s) taken (λ h. h));
      pairs = λ s x.
          or-gives (written.pairs s x) (w && (holds_stage dst s && holds_access da x)) (done.stages s)
          (d && holds_stage dst s) (p.pairs s x)
          (and-gives w (holds_stage dst s && holds_access da x) d (holds_stage dst s) taken
          (and-first (holds_stage dst s) (holds_access da x)));
    }
within-after stage access commands.Wait written done p = record {
  stages = λ s. or-gives (written.stages s) (is_device s) (done.stages s) (is_device s) (p.stages s) (λ h. h);
  pairs = λ s x. or-gives (written.pairs s x) (is_device s) (done.stages s) (is_device s) (p.pairs s x) (λ h. h);
}
within-after stage access _ written done p = p

pub within-after_if :
    (stage : Stage) (access : AccessType) (o : Option Command) (written done : Handed) → IsWithin written done
    → IsWithin (handed_after_if (takes_write stage access) o written) (handed_after_if (takes_stage stage) o done)
within-after_if stage access None written done p = p
within-after_if stage access (Some c) written done p = within-after stage access c written done p

pub not-within : IsWithin not_handed not_handed
not-within = record { stages = λ s h. h; pairs = λ s x h. h }

pub choice-within_both :
    (b : Bool) (written done : Handed) → IsWithin written done
    → IsWithin (if b then written else not_handed) (if b then done else not_handed)
choice-within_both true written done p = p
choice-within_both false written done p = not-within

-- what is handed on further is within no less
or-left : (a b : Bool) → Gives a (a || b)
or-left true b h = refl
or-left false b h = absurd cc

pub within-later :
    (takes : Stages → Access → Bool) (c : Command) (written done : Handed) → IsWithin written done
    → IsWithin written (handed_after takes c done)
within-later takes (commands.Barrier src sa dst da ids) written done p =
    let d : Bool = takes src sa || meets_stages src done.stages in
    record {
      stages = λ s h. or-left (done.stages s) (d && holds_stage dst s) (p.stages s h);
      pairs = λ s x h. or-left (done.stages s) (d && holds_stage dst s) (p.pairs s x h);
    }
within-later takes commands.Wait written done p = record {
  stages = λ s h. or-left (done.stages s) (is_device s) (p.stages s h);
  pairs = λ s x h. or-left (done.stages s) (is_device s) (p.pairs s x h);
}
within-later takes _ written done p = p

pub within-later_if :
    (takes : Stages → Access → Bool) (o : Option Command) (written done : Handed) → IsWithin written done
    → IsWithin written (handed_after_if takes o done)
within-later_if takes None written done p = p
within-later_if takes (Some c) written done p = within-later takes c written done p

-- where the memory part of a command acts, and where it doesn't
pub within-acting :
    (b : Bool) (stage : Stage) (access : AccessType) (o : Option Command) (written done : Handed) → IsWithin written done
    → IsWithin (if b then handed_after_if (takes_write stage access) o written else written)
    (handed_after_if (takes_stage stage) o done)
within-acting true stage access o written done p = within-after_if stage access o written done p
within-acting false stage access o written done p = within-later_if (takes_stage stage) o written done p

pub within-at :
    (rec : List Command) (stage : Stage) (access : AccessType) (acts : ℕ → Bool) (i n : ℕ)
    → IsWithin (handed_at (takes_write stage access) acts rec i n) (handed_at (takes_stage stage) always rec i n)
within-at rec stage access acts i zero = not-within
within-at rec stage access acts i (suc n) =
    choice-within_both (nat_lt i n)
    (if acts n then handed_after_if (takes_write stage access) (slice_get rec n) (handed_at (takes_write stage access) acts rec i n)
    else handed_at (takes_write stage access) acts rec i n)
    (handed_after_if (takes_stage stage) (slice_get rec n) (handed_at (takes_stage stage) always rec i n))
    (within-acting (acts n) stage access (slice_get rec n) (handed_at (takes_write stage access) acts rec i n)
    (handed_at (takes_stage stage) always rec i n) (within-at rec stage access acts i n))

pub covered-ordered : CoveredIsOrdered
covered-ordered rec i stage access thing j to x = (within-at rec stage access (acts_at rec thing) i j).pairs to x
