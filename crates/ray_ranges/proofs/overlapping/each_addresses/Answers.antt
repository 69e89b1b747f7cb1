use Rattle.std.proofs.Common.{◌≤◌, ◌+◌, ◌^◌, arith}
use Rattle.std.proofs.lemmas.Grind.{common_steps}
use Rattle.std.proofs.lemmas.List.Elements.{All-more}
use Rattle.ray_ranges.proofs.overlapping.each_addresses.Goals as goal

pub loop-place-preserved : goal.loop-place-preserved
loop-place-preserved c = record {
  value = grind (arith, common_steps, c.in_ok-push.ensures.items, c.loop-place.invariant.value, c.addresses.ensures.value);
  fit = All-more (λ place. place.from + place.size ≤ 2 ^ 66) c.args.places.now c.loop-place.place-index _ (omega arith)
      c.loop-place.invariant.fit c.addresses.ensures.fits;
}
