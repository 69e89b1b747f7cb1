use Rattle.std.proofs.Common.{◌≡◌, ◌++◌, drop}
use Rattle.vkray_cases.specs.Cases.{bytes_of_pieces}
use Rattle.vkray_cases.proofs.piece.bytes_of_pieces.Given as goal

-- the bytes so far go on with those of the pieces that are left
abbrev pub invariant-loop-piece : goal.invariant-loop-piece
invariant-loop-piece l = l.bytes.items ++ bytes_of_pieces (drop l.piece-index l.pieces) ≡ bytes_of_pieces l.pieces
