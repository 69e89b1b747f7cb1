use Rattle.std.proofs.Common.{◌∙◌, sym}
use Rattle.ray_builds.proofs.Geometries.{found_at, found_where_any}
use Rattle.ray_builds.proofs.numbers.first_of.Goals as goal
use Rattle.ray_builds.specs.Geometries.{is_of}

pub returns-in-Some-clause-is : goal.returns-in-Some-clause-is
returns-in-Some-clause-is c = found_at _ _ _ (sym c.position_of.ensures.value ∙ c.in-Some.is)

pub returns-in-Some-clause-told : goal.returns-in-Some-clause-told
returns-in-Some-clause-told c =
    found_where_any (is_of c.args.kind) c.args.geometries.now _ _ c.position_of.ensures.value c.in-Some.is

pub returns-in-None-clause-told : goal.returns-in-None-clause-told
returns-in-None-clause-told c =
    found_where_any (is_of c.args.kind) c.args.geometries.now _ _ c.position_of.ensures.value c.in-None.is
