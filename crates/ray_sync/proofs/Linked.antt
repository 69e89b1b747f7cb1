-- The sets of the rules are those of events of one queue, and so what is covered is below a front.
use Rattle.std.proofs.Common.{◌≡◌, ℕ, zero, suc, Bool, true, false, ◌&&◌, ◌||◌, nat_lt, if◌then◌else◌, List, Option, Some, None, slice_get, refl, sym, ◌∙◌}
use Rattle.std.specs.Option.{option_map_or}
use Rattle.ray_chains.specs.declared.access_type.AccessType.{AccessType as ChainAccess}
use Rattle.ray_chains.specs.declared.stage.Stage.{Stage as ChainStage}
use Rattle.ray_chains.specs.Fronts.{front}
use Rattle.ray_chains.specs.OneQueue.{is_alone}
use Rattle.ray_chains.specs.OneQueue as queue
use Rattle.ray_chains.specs.QueueLaws.{source_of}
use Rattle.ray_chains.specs.Queues.{Event, Node, Other, Visible, steps, takes_source}
use Rattle.ray_chains.specs.Queues as queues
use Rattle.ray_chains.specs.Tables.{has_access, has_stage}
use Rattle.ray_chains.proofs.Fronts.{fronts-are-exact}
use Rattle.ray_chains.proofs.OneQueue.{one-queue-has-sets}
use Rattle.ray_cmd.specs.declared.command.Command.{Command}
use Rattle.ray_cmd.specs.declared.command.Command.TheVariants as commands
use Rattle.ray_flags.specs.declared.access.Access.{Access}
use Rattle.ray_flags.specs.declared.stages.Stages.{Stages}
use Rattle.ray_rules.specs.declared.access_type.AccessType.{AccessType}
use Rattle.ray_rules.specs.declared.access_type.AccessType.TheVariants.{TransferRead, TransferWrite, ShaderRead, ShaderWrite, StructureRead, StructureWrite, HostRead, HostWrite}
use Rattle.ray_rules.specs.declared.stage.Stage.{Stage}
use Rattle.ray_rules.specs.declared.stage.Stage.TheVariants.{Transfer, Build, StructureCopy, Compute, Host}
use Rattle.ray_rules.specs.Order.{Handed, acts_at, handed_after, handed_after_if, handed_at, holds_access, holds_stage, is_covered, is_device, meets_stages, not_handed, takes_stage, takes_write}
use Rattle.ray_sync.specs.Events.{access_mask, chain_access, chain_stage, event_at, event_of, stage_mask, written_by}

-- the sets of a barrier have what they had
stage-in : (stages : Stages) (s : Stage) → has_stage (stage_mask stages) (chain_stage s) ≡ holds_stage stages s
stage-in stages Transfer = refl
stage-in stages Build = refl
stage-in stages StructureCopy = refl
stage-in stages Compute = refl
stage-in stages Host = refl

access-in : (access : Access) (x : AccessType) → has_access (access_mask access) (chain_access x) ≡ holds_access access x
access-in access TransferRead = refl
access-in access TransferWrite = refl
access-in access ShaderRead = refl
access-in access ShaderWrite = refl
access-in access StructureRead = refl
access-in access StructureWrite = refl
access-in access HostRead = refl
access-in access HostWrite = refl

device-in : (s : Stage) → is_device s ≡ queues.is_device (chain_stage s)
device-in Transfer = refl
device-in Build = refl
device-in StructureCopy = refl
device-in Compute = refl
device-in Host = refl

-- what has been handed on is the same
pub record AreSame (z : Handed) (w : queue.Handed) : Type 0 where
  pub stages : (s : Stage) → z.stages s ≡ w.stages (chain_stage s)
  pub pairs : (s : Stage) (x : AccessType) → z.pairs s x ≡ w.pairs (chain_stage s) (chain_access x)

none-same : AreSame not_handed queue.not_handed
none-same = record { stages = λ s. refl; pairs = λ s x. refl }

meets-same :
    (src : Stages) (z : Handed) (w : queue.Handed) → AreSame z w
    → meets_stages src z.stages ≡ queue.meets_stages (has_stage (stage_mask src)) w.stages
meets-same src z w same = λ i.
    (holds_stage src Transfer && same.stages Transfer i)
    || ((holds_stage src Build && same.stages Build i)
    || ((holds_stage src StructureCopy && same.stages StructureCopy i)
    || ((holds_stage src Compute && same.stages Compute i) || (holds_stage src Host && same.stages Host i))))

-- a barrier takes up directly by one test what it does by the other
abbrev pub AreAlike : (Stages → Access → Bool) → ((ChainStage → Bool) → (ChainAccess → Bool) → Bool) → Type 0
AreAlike takes others =
    (src : Stages) (sa : Access) → takes src sa ≡ others (has_stage (stage_mask src)) (has_access (access_mask sa))

pub alike-write :
    (stage : Stage) (access : AccessType) → AreAlike (takes_write stage access) (takes_source (written_by stage access))
alike-write stage access src sa = λ i. sym (stage-in src stage) i && sym (access-in sa access) i

pub alike-stage : (stage : Stage) → AreAlike (takes_stage stage) (takes_source (source_of 0 (chain_stage stage) None))
alike-stage stage src sa = sym (stage-in src stage)

same-after :
    (takes : Stages → Access → Bool) (others : (ChainStage → Bool) → (ChainAccess → Bool) → Bool) → AreAlike takes others
    → (c : Command) (z : Handed) (w : queue.Handed) → AreSame z w
    → AreSame (handed_after takes c z) (queue.handed_after others (event_of c) w)
same-after takes others alike (commands.Barrier src sa dst da ids) z w same =
    let taken :
    (takes src sa || meets_stages src z.stages)
    ≡ (others (has_stage (stage_mask src)) (has_access (access_mask sa))
    || queue.meets_stages (has_stage (stage_mask src)) w.stages) =
    λ i. alike src sa i || meets-same src z w same i
    in
    record {
      stages = λ s i. same.stages s i || (taken i && sym (stage-in dst s) i);
      pairs = λ s x i. same.pairs s x i || (taken i && (sym (stage-in dst s) i && sym (access-in da x) i));
    }
same-after takes others alike commands.Wait z w same = record {
  stages = λ s i. same.stages s i || device-in s i;
  pairs = λ s x i. same.pairs s x i || device-in s i;
}
same-after takes others alike _ z w same = same

same-if :
    (takes : Stages → Access → Bool) (others : (ChainStage → Bool) → (ChainAccess → Bool) → Bool) → AreAlike takes others
    → (o : Option Command) (z : Handed) (w : queue.Handed) → AreSame z w
    → AreSame (handed_after_if takes o z) (queue.handed_after others (option_map_or event_of o Other) w)
same-if takes others alike None z w same = same
same-if takes others alike (Some c) z w same = same-after takes others alike c z w same

same-acting :
    (b : Bool) (z y : Handed) (w v : queue.Handed) → AreSame z w → AreSame y v
    → AreSame (if b then z else y) (if b then w else v)
same-acting true z y w v one other = one
same-acting false z y w v one other = other

pub same-at :
    (takes : Stages → Access → Bool) (others : (ChainStage → Bool) → (ChainAccess → Bool) → Bool) → AreAlike takes others
    → (rec : List Command) (acts : ℕ → Bool) (i n : ℕ)
    → AreSame (handed_at takes acts rec i n) (queue.handed_at others acts (event_at rec) i n)
same-at takes others alike rec acts i zero = none-same
same-at takes others alike rec acts i (suc n) =
    let before = same-at takes others alike rec acts i n in
    same-acting (nat_lt i n) _ _ _ _
    (same-acting (acts n) _ _ _ _ (same-if takes others alike (slice_get rec n) _ _ before) before) none-same

-- there is one queue, and no submission waits
alone-if : (o : Option Command) → is_alone (option_map_or event_of o Other) ≡ true
alone-if None = refl
alone-if (Some (commands.Barrier src sa dst da ids)) = refl
alone-if (Some commands.Wait) = refl
alone-if (Some _) = refl

-- what commands of a stage wrote to a thing with an access is covered to an access where it is below the
-- thing's front
pub covered-below :
    (rec : List Command) (stage : Stage) (access : AccessType) (thing : Option ℕ) (n : ℕ) (to : Stage) (x : AccessType)
    (limit : ℕ)
    → front (acts_at rec thing) (steps (event_at rec) (written_by stage access)) n (Visible 0 (chain_stage to) (chain_access x))
    ≡ limit
    → (i : ℕ) → is_covered rec i stage access thing n to x ≡ nat_lt i limit
covered-below rec stage access thing n to x limit is i =
    let acts : ℕ → Bool = acts_at rec thing in
    let sets =
    one-queue-has-sets acts (event_at rec) (written_by stage access) i n refl (λ m. alone-if (slice_get rec m))
    in
    (same-at (takes_write stage access) (takes_source (written_by stage access)) (alike-write stage access) rec acts i n).pairs to x
    ∙ (sym (sets.1 (chain_stage to) (chain_access x))
    ∙ (fronts-are-exact Node acts (steps (event_at rec) (written_by stage access)) i n
    (Visible 0 (chain_stage to) (chain_access x))
    ∙ (λ j. nat_lt i (is j))))

-- the same where the stage and the access are told in the words of chains
pub covered-from :
    (rec : List Command) (stage : Stage) (access : AccessType) (thing : Option ℕ) (n : ℕ) (to : Stage) (x : AccessType)
    (limit : ℕ) (s : ChainStage) (y : ChainAccess) → s ≡ chain_stage to → y ≡ chain_access x
    → front (acts_at rec thing) (steps (event_at rec) (written_by stage access)) n (Visible 0 s y) ≡ limit
    → (i : ℕ) → is_covered rec i stage access thing n to x ≡ nat_lt i limit
covered-from rec stage access thing n to x limit s y e f is =
    covered-below rec stage access thing n to x limit
    ((λ j. front (acts_at rec thing) (steps (event_at rec) (written_by stage access)) n (Visible 0 (sym e j) (sym f j))) ∙ is)
