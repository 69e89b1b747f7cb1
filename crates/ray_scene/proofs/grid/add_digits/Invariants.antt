use Rattle.std.proofs.Common.{◌≡◌, ◌++◌, take}
use Rattle.ray_scene.specs.Text.{digits_text}
use Rattle.ray_scene.proofs.grid.add_digits.Given as goal

abbrev pub invariant-loop-word : goal.invariant-loop-word
invariant-loop-word l = l.text.items ≡ l.fn.text.items ++ digits_text (take l.word-index l.words)
