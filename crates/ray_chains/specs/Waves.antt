-- Chains of commands that an order puts after one another, and how long they are. (Own.)
use Rattle.std.specs.Prelude.{◌≡◌, ◌<◌, ◌≤◌, ℕ, ◌+◌, suc, max, Bool, true, List, if◌then◌else◌}
use Rattle.ray_chains.specs.Dependencies.{IsIn}
use Rattle.ray_chains.specs.Fronts.{greatest_of}

-- a chain of commands, each ordered before the next, of so many steps that ends at a command
pub data Chain (order : ℕ → ℕ → Bool) : ℕ → ℕ → Type 0 where
  alone : (i : ℕ) → Chain order i 0
  longer : (i j n : ℕ) → Chain order i n → order i j ≡ true → Chain order j (n + 1)

-- the longest chain that ends at a command has so many steps
pub record IsLongest (order : ℕ → ℕ → Bool) (i : ℕ) (wave : ℕ) : Type 0 where
  pub there : Chain order i wave
  pub most : (n : ℕ) → Chain order i n → n ≤ wave

module _ {K : Type 0} where
  -- an order goes by kinds: of each kind the commands below one number are ordered before a command, and no
  -- others are. `is k i` says that command i is of kind k, and `limit j k` is that number for command j
  pub record IsByKinds (order : ℕ → ℕ → Bool) (kinds : List K) (is : K → ℕ → Bool) (limit : ℕ → K → ℕ) : Type 0 where
    pub ordered :
        (i j : ℕ) (k : K) → IsIn k kinds → is k i ≡ true → i < limit j k → order i j ≡ true
    pub only :
        (i j : ℕ) → order i j ≡ true
        → (k : K) × IsIn k kinds × (is k i ≡ true) × (i < limit j k)
    pub within : (j : ℕ) (k : K) → limit j k ≤ j

  -- waves from one command to the next: `best n k` is one more than the greatest wave of a command of kind k
  -- below number n, 0 where there is none, and a command's wave is the greatest at its limits
  pub record AreWaves (kinds : List K) (is : K → ℕ → Bool) (limit best : ℕ → K → ℕ) (wave : ℕ → ℕ) : Type 0 where
    pub first : (k : K) → best 0 k ≡ 0
    pub next : (n : ℕ) (k : K) → best (suc n) k ≡ max (best n k) (if is k n then suc (wave n) else 0)
    pub waves : (n : ℕ) → wave n ≡ greatest_of (λ k. best (limit n k) k) kinds

-- the wave of a command is the length of the longest chain that ends there
abbrev pub WavesAreLongest : Type 0 → Type 0
WavesAreLongest K =
    (order : ℕ → ℕ → Bool) (kinds : List K) (is : K → ℕ → Bool) (limit best : ℕ → K → ℕ) (wave : ℕ → ℕ)
    → IsByKinds order kinds is limit → AreWaves kinds is limit best wave
    → (n : ℕ) → IsLongest order n (wave n)
