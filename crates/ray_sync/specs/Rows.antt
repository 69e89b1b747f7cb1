-- What an order says of each command, and how long its chains are. (Own.)
use Rattle.std.specs.Prelude.{◌≡◌, ◌<◌, ◌≤◌, ◌⊎◌, ℕ, suc, max, nat_lt, List, length, slice_index_or}
use Rattle.ray_cmd.specs.declared.command.Command.{Command}
use Rattle.ray_rules.specs.Order.{barriers, before, Chain, IsLongest}
use Rattle.ray_sync.specs.declared.kind.Kind.{Kind}
use Rattle.ray_sync.specs.declared.kind.Kind.TheVariants.{Transfer, Build, StructureCopy, Compute, Barrier, Host}
use Rattle.ray_sync.specs.declared.order.Row.{Row}
use Rattle.ray_sync.specs.declared.per_kind.PerKind.{PerKind}
use Rattle.ray_sync.specs.Kinds.{kind_number, no_numbers, number_of}

-- what a row says is so of command number i: its kind, which commands are ordered before it, and how long
-- the longest chain is that ends there
pub record IsRow (rec : List Command) (i : ℕ) (row : Row) : Type 0 where
  pub kind : row.kind ≡ kind_number rec i
  pub ordered : (a : ℕ) → before (barriers rec) rec a i ≡ nat_lt a (number_of row.limits (kind_number rec a))
  pub wave : IsLongest (before (barriers rec) rec) i row.wave

-- what is said of a command of which nothing is known
abbrev pub no_row : Row
no_row = record { kind = Transfer; limits = no_numbers; wave = 0 }

-- what an order says of command number i
abbrev pub row_at : List Row → ℕ → Row
row_at rows i = slice_index_or rows i no_row

-- an order is that of the first commands of a recording
pub record IsOrderOf (rec : List Command) (rows : List Row) : Type 0 where
  pub are : (i : ℕ) → i < length rows → IsRow rec i (row_at rows i)

-- numbers that bound the chains that end below command number m: one of a kind is above all chains that
-- end at a command of that kind, and the least such
pub record IsBest (rec : List Command) (m : ℕ) (best : PerKind) : Type 0 where
  pub most : (a j : ℕ) → a < m → Chain (before (barriers rec) rec) a j → j < number_of best (kind_number rec a)
  pub there :
      (k : Kind)
      → (number_of best k ≡ 0)
      ⊎ ((a : ℕ)
      × (j : ℕ)
      × (a < m)
      × (kind_number rec a ≡ k)
      × Chain (before (barriers rec) rec) a j
      × (suc j ≡ number_of best k))
  pub within : (k : Kind) → number_of best k ≤ m

-- such numbers where each command up to command number n stands
pub record AreBests (rec : List Command) (n : ℕ) (bests : List PerKind) : Type 0 where
  pub many : length bests ≡ suc n
  pub are : (m : ℕ) → m ≤ n → IsBest rec m (slice_index_or bests m no_numbers)

-- there are such numbers where each command stands below which commands are ordered before another
pub record HaveNumbers (bests : List PerKind) (limits : PerKind) : Type 0 where
  pub transfer : limits.transfer < length bests
  pub build : limits.build < length bests
  pub structure_copy : limits.structure_copy < length bests
  pub compute : limits.compute < length bests
  pub barrier : limits.barrier < length bests
  pub host : limits.host < length bests

-- one more than the longest chain that ends at a command of a kind below its number
abbrev pub best_at : List PerKind → PerKind → Kind → ℕ
best_at bests limits k = number_of (slice_index_or bests (number_of limits k) no_numbers) k

-- the wave of a command
abbrev pub wave_of : List PerKind → PerKind → ℕ
wave_of bests limits =
    max (best_at bests limits Transfer)
    (max (best_at bests limits Build)
    (max (best_at bests limits StructureCopy)
    (max (best_at bests limits Compute) (max (best_at bests limits Barrier) (best_at bests limits Host)))))
