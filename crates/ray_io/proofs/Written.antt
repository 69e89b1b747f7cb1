-- What a sink has taken while a piece is written.
use Rattle.std.proofs.Common.{◌≡◌, ℕ, ◌+◌, List, ◌++◌, take, drop, Option, Some, None, IfSome, append_assoc}
use Rattle.std.proofs.Math.Seq.{take-add}
use Rattle.ray_io.specs.Sink.{TakesFirst}

-- so many bytes of the piece stand after what was taken at the start, where the sink tells
abbrev pub HasTaken : Option (List ℕ) → Option (List ℕ) → ℕ → List ℕ → Type 0
HasTaken start now count piece = IfSome start (λ before. now ≡ Some (before ++ take count piece))

pub HasTaken-more : (start now next : Option (List ℕ)) (count more : ℕ) (piece : List ℕ) → HasTaken start now count piece → IfSome now (λ bytes. TakesFirst bytes next more (drop count piece)) → HasTaken start next (count + more) piece
HasTaken-more None now next count more piece had one = tt
HasTaken-more (Some before) now next count more piece had one =
    let one' = rw had at one in rw (take-add, ← append_assoc) one'
