use Rattle.std.proofs.Common.{rules}
use Rattle.ray_claim.proofs.Steps.{splits}
use Rattle.ray_claim.proofs.claims.Claims.split.Goals as goal

pub split_seat-seat-requires : goal.split_seat-seat-requires
split_seat-seat-requires c =
    (search rules, search rules, splits _ _ _ (search rules) (search rules))
