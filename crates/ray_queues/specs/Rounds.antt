-- Rounds: which commands may be done beside each other where the host goes ahead of the device up to each
-- `wait`. (Vulkan: a queue submission returns before the device is done with it, and vkDeviceWaitIdle
-- doesn't; own: the form.)
use Rattle.std.specs.Prelude.{◌≡◌, ◌<◌, ℕ, zero, suc, ◌+◌, max, not, nat_lt, Bool, true, false, ◌&&◌, ◌||◌, List, length, slice_get, slice_index_or, if◌then◌else◌}
use Rattle.ray_cmd.specs.declared.command.Command.{Command}
use Rattle.ray_rules.specs.Kinds.{is_by_host}
use Rattle.ray_rules.specs.Order.{IsLongest, before, is_wait, kind_at, last_wait}
use Rattle.ray_submits.specs.Submits.{QueueCommands}
use Rattle.ray_queues.specs.declared.rounds.Ahead.{Ahead}
use Rattle.ray_queues.specs.declared.wave_kind.WaveKind.{WaveKind}
use Rattle.ray_queues.specs.declared.wave_kind.WaveKind.TheVariants.{Host}
use Rattle.ray_queues.specs.QueueOrder.{queue_order}

-- whether command number i is done by the host
abbrev pub is_hosts : List Command → ℕ → Bool
is_hosts rec i = is_by_host (kind_at rec i)

-- whether command number i is done before command number j, by whether the host does the one and the
-- other. It does its own in turn, and one of its own before one of the device unless it waits for that
-- one first; the device does before another command what a `wait` between them waits for, and what is
-- ordered before it
abbrev pub goes_before : QueueCommands → ℕ → ℕ → Bool → Bool → Bool
goes_before q i j true true = nat_lt i j
goes_before q i j true false = not (nat_lt j (last_wait q.commands i))
goes_before q i j false _ = nat_lt i (last_wait q.commands j) || before (queue_order q) q.commands i j

-- whether it is, of the first n commands
abbrev pub is_ahead : QueueCommands → ℕ → ℕ → ℕ → Bool
is_ahead q n i j = nat_lt i n && goes_before q i j (is_hosts q.commands i) (is_hosts q.commands j)

abbrev pub round_at : List ℕ → ℕ → ℕ
round_at rounds i = slice_index_or rounds i 0

-- the rounds of the first n commands: the round of each is how many commands at most are done before it
-- one after the other
pub record AreRounds (q : QueueCommands) (n : ℕ) (rounds : List ℕ) : Type 0 where
  pub many : length rounds ≡ n
  pub are : (i : ℕ) → i < n → IsLongest (is_ahead q n) i (round_at rounds i)

-- they rise along the order over queues
abbrev pub RoundsRise : QueueCommands → ℕ → List ℕ → Type 0
RoundsRise q n rounds =
    (i j : ℕ) → i < n → j < n → before (queue_order q) q.commands i j ≡ true → round_at rounds i < round_at rounds j

-- ---- how they are counted

-- how many of so many commands from number n on the host does up to its next `wait`, and with it
abbrev pub hosts_from : List Command → ℕ → ℕ → ℕ
hosts_from rec zero n = 0
hosts_from rec (suc m) n =
    if is_hosts rec n then (if is_wait (slice_get rec n) then 1 else suc (hosts_from rec m (suc n)))
    else hosts_from rec m (suc n)

-- the round of a command of a kind, where what is ordered before it leaves it this one at the least
abbrev pub round_of : Ahead → WaveKind → ℕ → ℕ
round_of ahead Host number = ahead.host
round_of ahead _ number = max ahead.device number

-- the next rounds behind a command of a kind that has a round, and behind a `wait` with so many of the
-- host's commands behind it
abbrev pub after_round : Ahead → WaveKind → ℕ → Ahead
after_round ahead Host round = record ahead { host = suc ahead.host; top = max ahead.top (suc round) }
after_round ahead _ round = record ahead { top = max ahead.top (suc round) }

abbrev pub behind_wait : Ahead → ℕ → Ahead
behind_wait ahead hosts = record ahead { host = ahead.top; device = ahead.top + hosts }
