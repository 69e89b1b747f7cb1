use Rattle.ray_flags.proofs.Rows.{find_name-Contains}
use Rattle.ray_flags.proofs.words.Words.of_word.Goals as goal

pub returns-clause-row : goal.returns-clause-row
returns-clause-row g c bits =
    let law = g.met.Self.Words.own in
    rw (c.from_name.ensures law.0) (find_name-Contains g.Self.Flags.table law.1 c.args.word.now bits)
