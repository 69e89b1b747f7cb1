use Rattle.std.proofs.Common.{rules}
use Rattle.std.proofs.lemmas.Fn.{always_returns_same}
use Rattle.ray_query.specs.Key.{found_key}
use Rattle.ray_candidates.proofs.Order.{in_key_order-sorted}
use Rattle.ray_cert.proofs.checking.put_in_order.Goals as goal

pub returns : goal.returns
returns c =
    in_key_order-sorted c.args.found.now.items c.sort_unstable_by_key.new.self.items c.requires
    c.sort_unstable_by_key.ensures.permutation
    (c.sort_unstable_by_key.ensures.sorted found_key (always_returns_same _ _ _ (λ a r q k. search rules)))
