-- With which accesses the commands of each stage write.
use Rattle.std.proofs.Common.{◌≡◌, ◌++◌, Bool, true, false, ◌&&◌, List, [], ◌∷◌, map, refl}
use Rattle.std.specs.List.{list_all}
use Rattle.std.specs.Option.{option_map_or}
use Rattle.ray_cmd.specs.declared.command.Command.{Command}
use Rattle.ray_cmd.specs.declared.command.Command.TheVariants as commands
use Rattle.ray_rules.specs.declared.access_type.AccessType.{AccessType}
use Rattle.ray_rules.specs.declared.access_type.AccessType.TheVariants.{TransferWrite, StructureWrite, ShaderWrite}
use Rattle.ray_rules.specs.declared.stage.Stage.{Stage}
use Rattle.ray_rules.specs.declared.stage.Stage.TheVariants.{Transfer, Build, StructureCopy, Compute}
use Rattle.ray_rules.specs.declared.touch.Touch.{Touch}
use Rattle.ray_rules.specs.Access.{Accesses, accesses_of, all_accesses, info_accesses, region_accesses, stage_of}
use Rattle.ray_rules.specs.Order.{is_device}
use Rattle.ray_rules.specs.Status.{Status}
use Rattle.ray_rules.specs.Kinds.{kind_of}

-- whether commands of a stage write with an access
abbrev pub is_way : Stage → AccessType → Bool
is_way Transfer TransferWrite = true
is_way Build StructureWrite = true
is_way Build TransferWrite = true
is_way StructureCopy StructureWrite = true
is_way StructureCopy TransferWrite = true
is_way Compute ShaderWrite = true
is_way _ _ = false

-- touches that are all so
abbrev pub are_ways : Stage → List Touch → Bool
are_ways stage ts = list_all (λ (t : Touch). is_way stage t.access) ts

-- those of two lists
ways-both : (stage : Stage) (a b : List Touch) → are_ways stage a ≡ true → are_ways stage b ≡ true → are_ways stage (a ++ b) ≡ true
ways-both stage [] b e f = f
ways-both stage (t ∷ a) b e f = two (is_way stage t.access) (are_ways stage a) (are_ways stage (a ++ b)) e (λ g. ways-both stage a b g f)
  where
    two : (p q r : Bool) → (p && q) ≡ true → (q ≡ true → r ≡ true) → (p && r) ≡ true
    two true q r e h = h e
    two false q r e h = absurd cc

-- those of several parts
ways-parts :
    {X : Type 0} (stage : Stage) (f : X → Accesses) (xs : List X) → ((x : X) → are_ways stage (f x).writes ≡ true)
    → are_ways stage (all_accesses (map f xs)).writes ≡ true
ways-parts stage f [] each = refl
ways-parts stage f (x ∷ xs) each = ways-both stage (f x).writes (all_accesses (map f xs)).writes (each x) (ways-parts stage f xs each)

-- no command writes otherwise
pub ways :
    (rec : List Command) (z : Status) (c : Command)
    → option_map_or (λ stage. are_ways stage (accesses_of rec z c).writes) (stage_of c) true ≡ true
unfolding stage_of kind_of accesses_of
ways rec z (commands.Copy src dst regions) = ways-parts Transfer (region_accesses src dst) regions (λ region. refl)
ways rec z (commands.Build infos) = ways-parts Build (info_accesses z.buffers) infos (λ info. refl)
ways rec z _ = refl

-- each is at a stage of the device
pub devices : (c : Command) → option_map_or is_device (stage_of c) true ≡ true
unfolding stage_of kind_of
devices (commands.Copy src dst regions) = refl
devices _ = refl
