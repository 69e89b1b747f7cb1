-- Of which commands hazards are looked for, and by which order. (Own.)
use Rattle.std.specs.Prelude.{ℕ, Bool, true, false, ◌&&◌, not, List, Option, None, if◌then◌else◌}
use Rattle.std.specs.List.{list_any}
use Rattle.std.specs.Option.{option_map_or}
use Rattle.ray_cmd.specs.declared.command.Command.{Command}
use Rattle.ray_rules.specs.declared.stage.Stage.{Stage}
use Rattle.ray_rules.specs.declared.touch.Touch.{Touch}
use Rattle.ray_rules.specs.Hazards.{accesses_at, is_uncovered, stage_at, touches_share}
use Rattle.ray_rules.specs.Order.{Ordering}

-- the commands of a recording, which of them count, and an order of them
pub record Counted : Type 0 where
  pub commands : List Command
  pub counts : ℕ → Bool
  pub order : Ordering

-- all commands of a recording
abbrev pub all_counted : Ordering → List Command → Counted
all_counted order rec = record { commands = rec; counts = λ i. true; order = order }

-- the stage of command number i, where it counts
abbrev pub stage_in : Counted → ℕ → Option Stage
stage_in counted i = if counted.counts i then stage_at counted.commands i else None

-- whether command number i counts, and wrote what a touch at a stage by command number n meets, not
-- covered
abbrev pub wrote_in : Counted → ℕ → Stage → Touch → ℕ → Bool
wrote_in counted n to touch i =
    option_map_or (λ stage. list_any (is_uncovered counted.order counted.commands i stage n to touch) (accesses_at counted.commands i).writes)
    (stage_in counted i) false

-- whether it counts, and read what a write at a stage by command number n meets, not ordered
abbrev pub read_in : Counted → ℕ → Stage → Touch → ℕ → Bool
read_in counted n to touch i =
    option_map_or (λ stage. not (counted.order.ordered i stage n to) && list_any (λ r. touches_share counted.commands i n r touch) (accesses_at counted.commands i).reads)
    (stage_in counted i) false
