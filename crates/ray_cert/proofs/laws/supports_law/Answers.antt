use Rattle.ray_top.specs.Trees.{without_tree}
use Rattle.ray_cert.proofs.AllFound.{IsGiven, named-answer}
use Rattle.ray_cert.proofs.laws.supports_law.Goals as goal

pub returns : goal.returns
returns c = λ meaning number cert s.
    let given : IsGiven (without_tree c.args.top.now) c.args.bottoms.now c.args.ray.now = record {
      limits = c.len-limits.ensures.limits;
      standing = c.requires;
      sound = c.sound.ensures;
      is_ray = c.tmax-most.ensures.limits;
    } in
    named-answer (without_tree c.args.top.now) c.args.bottoms.now c.args.ray.now c.args._flags c.args._mask given meaning number cert s
