-- What the order over queues says of each command, and how long its chains are. (Own.)
use Rattle.std.specs.Prelude.{◌≡◌, ◌<◌, ◌≤◌, ◌⊎◌, ℕ, suc, max, Bool, List, length, slice_index_or}
use Rattle.ray_rules.specs.Order.{Chain, IsLongest, before}
use Rattle.ray_submits.specs.Submits.{QueueCommands}
use Rattle.ray_queues.specs.declared.limits.Limits.{Limits}
use Rattle.ray_queues.specs.declared.order.Row.{Row}
use Rattle.ray_queues.specs.declared.wave_kind.DeviceStage.TheVariants.{Transfer, Build, StructureCopy, Compute}
use Rattle.ray_queues.specs.declared.wave_kind.Queue.{Queue}
use Rattle.ray_queues.specs.declared.wave_kind.WaveKind.{WaveKind}
use Rattle.ray_queues.specs.declared.wave_kind.WaveKind.TheVariants.{Work, Barrier}
use Rattle.ray_queues.specs.Kinds.{IsLimits, no_limits, number_of, wave_kind}
use Rattle.ray_queues.specs.QueueOrder.{queue_order}

-- whether a command is before another
abbrev pub order_of : QueueCommands → ℕ → ℕ → Bool
order_of q = before (queue_order q) q.commands

-- what a row says is so of command number i: its kind, which commands are ordered before it, and how long
-- the longest chain is that ends there
pub record IsRow (q : QueueCommands) (i : ℕ) (row : Row) : Type 0 where
  pub kind : row.kind ≡ wave_kind q i
  pub limits : IsLimits q i row.limits
  pub wave : IsLongest (before (queue_order q) q.commands) i row.wave

-- what is said of a command of which nothing is known
abbrev pub no_row : Row
no_row = record { kind = Barrier; limits = no_limits; wave = 0 }

abbrev pub row_at : List Row → ℕ → Row
row_at rows i = slice_index_or rows i no_row

-- an order is that of the first commands
pub record IsQueueOrderOf (q : QueueCommands) (rows : List Row) : Type 0 where
  pub are : (i : ℕ) → i < length rows → IsRow q i (row_at rows i)

-- numbers that bound the chains that end below command number m: one of a kind is above all chains that
-- end at a command of that kind, and the least such
pub record IsBest (q : QueueCommands) (m : ℕ) (best : Limits) : Type 0 where
  pub most : (a j : ℕ) → a < m → Chain (order_of q) a j → j < number_of best (wave_kind q a)
  pub there :
      (k : WaveKind)
      → (number_of best k ≡ 0)
      ⊎ ((a : ℕ)
      × (j : ℕ)
      × (a < m)
      × (wave_kind q a ≡ k)
      × Chain (order_of q) a j
      × (suc j ≡ number_of best k))
  pub within : (k : WaveKind) → number_of best k ≤ m

abbrev pub best_at : List Limits → ℕ → Limits
best_at bests m = slice_index_or bests m no_limits

-- such numbers where each command up to command number n stands
pub record AreBests (q : QueueCommands) (n : ℕ) (bests : List Limits) : Type 0 where
  pub many : length bests ≡ suc n
  pub are : (m : ℕ) → m ≤ n → IsBest q m (best_at bests m)

-- there are such numbers where each command stands below which commands are ordered before another
pub record HaveBests (bests : List Limits) (limits : Limits) : Type 0 where
  pub each : (k : WaveKind) → number_of limits k < length bests

-- one more than the longest chain that ends at a command of a kind below its number
abbrev pub best_in : List Limits → Limits → WaveKind → ℕ
best_in bests limits k = number_of (best_at bests (number_of limits k)) k

-- the greatest of these for a queue, and a number
abbrev pub wave_in : List Limits → Limits → Queue → ℕ → ℕ
wave_in bests limits queue others =
    max (best_in bests limits (Work queue Transfer))
    (max (best_in bests limits (Work queue Build))
    (max (best_in bests limits (Work queue StructureCopy)) (max (best_in bests limits (Work queue Compute)) others)))
