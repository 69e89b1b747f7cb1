use Rattle.std.proofs.Common.{sym, false}
use Rattle.ray_flags.specs.declared.kind.Kind.TheVariants.{Aabb}
use Rattle.ray_candidates.proofs.Fractions.{fraction_back, fraction_zero}
use Rattle.ray_candidates.proofs.finding.aabb.Goals as goal

pub returns : goal.returns
returns c = λ i. record {
  kind = Aabb;
  opaque = c.args.at.now.opaque;
  instance = c.args.at.now.number;
  geometry = c.args.at.now.geometry;
  primitive = c.args.primitive;
  custom = c.args.at.now.instance.now.custom;
  sbt = c.args.at.now.instance.now.sbt;
  front = false;
  t = sym (fraction_back c.args.entry) i;
  exit = sym (fraction_back c.args.exit) i;
  u = fraction_zero c.new.result c.new.ensures i;
  v = fraction_zero c.new-2.result c.new-2.ensures i;
}
