-- A device of three cells, for the tests: units 0 and 1 write a number each into the cell of their
-- own number, and unit 2 the sum of these into the third. Above 100 the sum is a fault. The order puts
-- the commands 0 and 1 before command 2.
use Rattle.std.specs.Prelude.{ℕ, zero, suc, ◌+◌, ◌==◌, ◌&&◌, nat_lt, Bool, false, List, [], ◌∷◌}
use Rattle.ray_schedule.specs.Units.{Memory, Work}
use Rattle.ray_schedule.specs.Events.{Event, Fetch, Store}
use Rattle.ray_schedule.specs.Waves.{Wave}

-- what each cell holds
abbrev pub Cell : ℕ → Type 0
Cell l = ℕ

abbrev pub reads_cell : ℕ → ℕ → Bool
reads_cell zero l = false
reads_cell (suc zero) l = false
reads_cell (suc (suc p)) l = nat_lt l 2

abbrev pub number_of : ℕ → Memory Cell → ℕ
number_of zero cells = 5
number_of (suc zero) cells = 7
number_of (suc (suc p)) cells = cells 0 + cells 1

abbrev pub three_cells : Work Cell ℕ
three_cells = record {
  device = record {
    command = λ p. p;
    is_host = λ p. false;
    reads = reads_cell;
    writes = λ p l. l == p;
    outcome = number_of;
    is_fault = λ number. nat_lt 100 number;
    stored = λ p number l old. number;
  };
  count = 3;
  start = λ l. 0;
  before = λ a b. nat_lt a b && b == 2;
}

-- units 0 and 1 in one wave, and unit 2 in the next
abbrev pub wave_of : ℕ → ℕ
wave_of zero = 0
wave_of (suc zero) = 0
wave_of (suc (suc p)) = 1

abbrev pub two_waves : List Wave
two_waves =
    record { begun = 1 ∷ 0 ∷ []; stored = 0 ∷ 1 ∷ [] } ∷ record { begun = 2 ∷ []; stored = 2 ∷ [] } ∷ []

-- their events
abbrev pub in_two_waves : List Event
in_two_waves = Fetch 1 ∷ Fetch 0 ∷ Store 0 ∷ Store 1 ∷ Fetch 2 ∷ Store 2 ∷ []
