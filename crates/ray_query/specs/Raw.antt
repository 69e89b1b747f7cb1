-- What was found, of what was found with fractions that aren't in lowest terms yet. (Own.)
use Rattle.std.specs.Prelude.{Option, Some, None}
use Rattle.ray_geom.specs.declared.frac.Frac.{Frac}
use Rattle.ray_query.specs.declared.found.Found.{Found}
use Rattle.ray_query.specs.declared.raw_found.RawFound.{RawFound}

-- where the ray leaves
abbrev pub exit_or : Frac → Option Frac → Frac
exit_or t None = t
exit_or t (Some exit) = exit

abbrev pub reduced_found : RawFound → Found
reduced_found f = record {
  kind = f.kind;
  opaque = f.opaque;
  instance = f.instance;
  geometry = f.geometry;
  primitive = f.primitive;
  custom = f.custom;
  sbt = f.sbt;
  front = f.front;
  t = f.t;
  exit = exit_or f.t f.exit;
  u = f.u;
  v = f.v;
}
