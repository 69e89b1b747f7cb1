-- Entries that are parted by a limit along an axis, which no clause of a public call speaks of. (Own.)
use Rattle.std.specs.Prelude.{◌≡◌, ◌<◌, ◌≤◌, ℕ, List, length, take, drop}
use Rattle.std.specs.List.{All}
use Rattle.std.specs.List.Sorted.{IsPermutation}
use Rattle.ray_stated.specs.declared.entry.Entry.{Entry}
use Rattle.ray_stated.specs.Entries.{entry_key}

-- the first so many are those below a limit along an axis
pub record IsParted (axis limit : ℕ) (old new : List Entry) (many : ℕ) : Type 0 where
  pub same : IsPermutation old new
  pub long : length new ≡ length old
  pub within : many ≤ length old
  pub front : All (λ e. entry_key axis e < limit) (take many new)
  pub back : All (λ e. limit ≤ entry_key axis e) (drop many new)
