use Rattle.ray_certify.proofs.AsMany.{as_many_lines}
use Rattle.ray_certify.proofs.laws.each_ray_has_its_line.Goals as goal

pub returns : goal.returns
returns c = as_many_lines
