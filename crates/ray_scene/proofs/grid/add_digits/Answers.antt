use Rattle.ray_scene.proofs.Words.{no_digits}
use Rattle.ray_scene.proofs.grid.add_digits.Goals as goal

pub loop-word-init : goal.loop-word-init
loop-word-init c = no_digits c.args.text.now.items
