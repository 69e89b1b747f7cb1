use Rattle.std.proofs.Common.{◌∙◌, map, ap}
use Rattle.std.specs.Prelude.{not}
use Rattle.std.specs.List.{position}
use Rattle.std.specs.Option.{option_map}
use Rattle.ray_cmd.specs.declared.place.Place.TheVariants.{Part}
use Rattle.ray_submits.specs.Seen.{is_met_in}
use Rattle.ray_submits.specs.Semaphores.{first_odd, signal_by}
use Rattle.ray_submits.proofs.Refusing.{refusal-is}
use Rattle.ray_submits.proofs.semaphores.Semaphores.pass.Goals as goal

pub returns-clause-refusal : goal.returns-clause-refusal
returns-clause-refusal c = λ earlier are.
    let s = c.args.submission.now in
    refusal-is c.args.n earlier c.args.self.now s c.unmet-unmet.result c.in_ok-odd.odd c.or_later.result c.or_later-2.result
    (c.unmet-unmet.ensures
    ∙ ap (λ ws. option_map (λ x. Part x) (position (λ wait. not (is_met_in c.args.self.now wait)) ws)) c.as_slice.ensures.items)
    (c.in_ok-odd.ensures.place earlier are
    ∙ ap (λ ps. option_map (λ x. Part x) (first_odd earlier 0 (map (signal_by s.queue) ps))) c.as_slice-2.ensures.items)
    c.or_later.ensures c.or_later-2.ensures are
