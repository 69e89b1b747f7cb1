use Rattle.std.proofs.Common.{rules, ◌≡◌, ◌∙◌, ap}
use Rattle.std.specs.Ordering.{is_lt, nat_cmp, ordering_then}
use Rattle.ray_geom.specs.Ratio.{ratio_cmp, ratio_of}
use Rattle.ray_nearest.proofs.SameDistance.{same-left}
use Rattle.ray_nearest.proofs.nearest.is_nearer.Goals as goal

pub returns : goal.returns
returns c =
    let f = c.args.found.now in
    let k = c.args.commit.now in
    let numbers = ordering_then (nat_cmp f.instance k.found.instance)
    (ordering_then (nat_cmp f.geometry k.found.geometry) (nat_cmp f.primitive k.found.primitive)) in
    let told : c.is_lt.result ≡ is_lt (ordering_then (ratio_cmp c.ratio.result c.of.result) numbers) = search rules in
    told ∙ ap (λ r. is_lt (ordering_then r numbers))
    (same-left c.ratio.result (ratio_of f.t) c.of.result c.ratio.ensures ∙ ap (λ r. ratio_cmp (ratio_of f.t) r) c.of.ensures.value)
