use Rattle.std.proofs.Common.{◌∙◌, subst, sym}
use Rattle.ray_exec.specs.Waves.{AreRanked}
use Rattle.ray_exec.proofs.Ranking.{ranked}
use Rattle.ray_exec.proofs.running.run_numbered.Goals as goal

pub run_in_waves-requires-clause-run : goal.run_in_waves-requires-clause-run
run_in_waves-requires-clause-run g c κs within =
    let rec = c.args.rec.now in
    let n = c.args.until in
    subst (λ ranks. AreRanked rec ranks n) (sym (c.as_slice.ensures.value ∙ c.in-Ok.ensures))
    (ranked rec c.args.waves.now n (record {
      accepted = c.kept_are_accepted.ensures n c.requires.rules;
      within = c.requires.within;
      ordered = c.requires.numbered;
      separate = c.requires.separate;
    }))
