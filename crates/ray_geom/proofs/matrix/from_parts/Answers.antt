use Rattle.std.proofs.Common.{rules}
use Rattle.std.proofs.lemmas.Int.{to_z-of_z}
use Rattle.ray_geom.proofs.matrix.from_parts.Goals as goal

pub determinant-requires-clause-a_short : goal.determinant-requires-clause-a_short
determinant-requires-clause-a_short c = search (rules, to_z-of_z)

pub determinant-requires-clause-b_short : goal.determinant-requires-clause-b_short
determinant-requires-clause-b_short c = search (rules, to_z-of_z)

pub determinant-requires-clause-c_short : goal.determinant-requires-clause-c_short
determinant-requires-clause-c_short c = search (rules, to_z-of_z)

pub of_parts-requires : goal.of_parts-requires
of_parts-requires c = search (rules, to_z-of_z)

pub returns-then-determinant-ne0 : goal.returns-then-determinant-ne0
returns-then-determinant-ne0 c = search (rules, to_z-of_z)

pub returns-else-is_short : goal.returns-else-is_short
returns-else-is_short c = search (rules, to_z-of_z)
