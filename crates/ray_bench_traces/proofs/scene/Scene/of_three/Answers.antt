use Rattle.ray_bench_traces.proofs.scene.Scene.of_three.Goals as goal
use Rattle.ray_bench_traces.proofs.Here.{three_here}

-- src/scene.rt:92:9
pub standing_law-requires : goal.standing_law-requires
standing_law-requires g c =
    three_here _ _ _ _ _ c.in_ok-top.ensures
    (record { bottom = _; stands = c.in_ok-bottoms.ensures.first; bounds = c.bounds.ensures.value })
    (record { bottom = _; stands = c.in_ok-bottoms.ensures.second; bounds = c.bounds-2.ensures.value })
    (record { bottom = _; stands = c.in_ok-bottoms.ensures.third; bounds = c.bounds-3.ensures.value })
