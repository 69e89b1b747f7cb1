use Rattle.ray_serial.proofs.TopSteps.{FitsRow-entry}
use Rattle.ray_serial.proofs.top_writing.matrix_words.Goals as goal

pub row_words-requires-3 : goal.row_words-requires-3
row_words-requires-3 c = FitsRow-entry c.rows.result c.args.m.now c.rows.ensures.table c.rows.ensures.limits
