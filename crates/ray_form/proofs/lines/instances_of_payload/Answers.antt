use Rattle.std.proofs.Common.{drop, ap, ◌∙◌}
use Rattle.ray_form.specs.Form.{instances_of_payload}
use Rattle.std.proofs.lemmas.List.{drop_min}
use Rattle.ray_form.proofs.lines.instances_of_payload.Goals as goal

pub returns : goal.returns
unfolding instances_of_payload
returns c = c.split_at.ensures.back ∙ (ap (λ n. drop n c.args.payload.now) c.min.ensures ∙ drop_min 48 c.args.payload.now)
