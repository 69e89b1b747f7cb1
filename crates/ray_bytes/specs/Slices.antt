-- Where a record stands: of a row of records, number i begins at start + i * stride. (Vulkan,
-- "Acceleration Structures": how vertices, boxes and instances stand in their buffers.)
use Rattle.std.specs.Prelude.{◌≡◌, ◌<◌, ◌≤◌, slice_index_or, ℕ, ◌+◌, ◌*◌, nat_le, if◌then◌else◌, List, [], ◌∷◌, length, take, drop, map, Option, Some, None}
use Rattle.std.specs.List.{range_with_len}

-- the bytes of record i, where all of them are there
abbrev pub record_at : List ℕ → ℕ → ℕ → ℕ → ℕ → Option (List ℕ)
record_at bytes start stride width i =
    let first = start + i * stride in
    if nat_le (first + width) (length bytes) then Some (take width (drop first bytes)) else None

-- the values before the first that is missing
abbrev pub before_missing : {X : Type 0} → List (Option X) → List X
before_missing [] = []
before_missing (None ∷ rest) = []
before_missing (Some x ∷ rest) = x ∷ before_missing rest

-- the bytes of each of the records from number i on, count at most, up to the first that isn't whole
abbrev pub records_from : List ℕ → ℕ → ℕ → ℕ → ℕ → ℕ → List (List ℕ)
records_from bytes start stride width i count =
    before_missing (map (record_at bytes start stride width) (range_with_len i count))

-- parts are what `at` gives of 0, 1 and so on: count of them, or those before the first that it gives none of
pub record AreFirst {X : Type 0} (at : ℕ → Option X) (count : ℕ) (parts : List X) : Type 0 where
  pub within : length parts ≤ count
  pub each : (k : ℕ) (d : X) → k < length parts → at k ≡ Some (slice_index_or parts k d)
  pub ends : length parts < count → at (length parts) ≡ None
