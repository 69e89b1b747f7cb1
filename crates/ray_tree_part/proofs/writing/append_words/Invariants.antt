use Rattle.std.proofs.Common.{ℕ, ◌≡◌, ◌<◌, ◌^◌, ◌++◌, take}
use Rattle.std.specs.Prelude.{All}
use Rattle.std.specs.List.{flat_map}
use Rattle.byteorder.specs.Endian.{little_bytes}
use Rattle.ray_tree_part.proofs.writing.append_words.Given as goal

-- the words so far
abbrev pub invariant-loop-word : goal.invariant-loop-word
invariant-loop-word l = record {
  bytes : l.bytes.items ≡ l.initial.bytes.items ++ flat_map (little_bytes 4) (take l.word-index l.words);
  all : All (λ (w : ℕ). w < 2 ^ 32) (take l.word-index l.words);
}
