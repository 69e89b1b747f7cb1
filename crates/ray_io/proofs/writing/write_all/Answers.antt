use Rattle.std.proofs.Common.{arith, ◌≤◌, ◌+◌, ◌∙◌, length, length-drop}
use Rattle.std.proofs.lemmas.List.{take_rest}
use Rattle.ray_io.proofs.Written.{HasTaken-more}
use Rattle.ray_io.proofs.writing.write_all.Goals as goal

pub loop-written-preserved : goal.loop-written-preserved
loop-written-preserved g c =
    let had = c.loop-written.invariant in
    let wrote = c.in_ok-count.ensures in
    let within : c.loop-written.written + c.in_ok-count.count ≤ length c.args.bytes.now = (let h = rw (take_rest, length-drop) at wrote.count in omega arith) in
    record {
      within = within;
      told = HasTaken-more _ _ _ _ _ _ had.told (rw take_rest at wrote.told);
      telling = wrote.telling ∙ had.telling;
      rising = omega (arith, wrote.rising);
      zero_kept = wrote.zero_some (omega arith) ∙ had.zero_kept;
      untouched = λ none. absurd (omega arith);
    }
