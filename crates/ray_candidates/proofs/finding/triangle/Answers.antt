use Rattle.std.proofs.Common.{◌∙◌, sym, ap}
use Rattle.ray_flags.specs.Admission.{shows_front}
use Rattle.ray_flags.specs.declared.kind.Kind.TheVariants.{Triangle}
use Rattle.ray_candidates.proofs.Fractions.{fraction_back}
use Rattle.ray_candidates.proofs.finding.triangle.Goals as goal

pub returns : goal.returns
returns c = λ i. record {
  kind = Triangle;
  opaque = c.args.at.now.opaque;
  instance = c.args.at.now.number;
  geometry = c.args.at.now.geometry;
  primitive = c.args.primitive;
  custom = c.args.at.now.instance.now.custom;
  sbt = c.args.at.now.instance.now.sbt;
  front = (c.shows_front.ensures ∙ ap (λ b. shows_front b c.args.at.now.instance.now.flags) c.requires) i;
  t = sym (fraction_back c.args.hit.t) i;
  exit = sym (fraction_back c.args.hit.t) i;
  u = sym (fraction_back c.args.hit.u) i;
  v = sym (fraction_back c.args.hit.v) i;
}
