use Rattle.std.proofs.Common.{rules, refl}
use Rattle.std.proofs.lemmas.Int.{to_z-of_z}
use Rattle.ray_geom.specs.Measures.{AreInside}
use Rattle.ray_geom.proofs.Hits.{IsFromTo, AreWeights-from, IsHit-from, IsHit-inside, IsHit-between, Tells-from, over_size-IsFrom}
use Rattle.ray_geom.proofs.hit.meet_between.Goals as goal
use Rattle.ray_geom.proofs.hit.meet_between.Goals.{else-are_inside-via-then-are_inside+else-is_from_to, else-are_inside-via-else-are_inside}

pub over-requires-clause-not_negative : goal.over-requires-clause-not_negative
over-requires-clause-not_negative c =
    let between : IsFromTo c.args.ray.now.tmin c.args.ray.now.tmax c.measure-m.result.num c.measure-m.result.den =
    search (rules, to_z-of_z) in
    let later = over_size-IsFrom _ _ _ between.0 in
    search (rules, to_z-of_z)

pub over-requires-then-is_from_to-clause-not_negative :
    goal.over-requires-then-is_from_to-clause-not_negative
over-requires-then-is_from_to-clause-not_negative c =
    let inside : AreInside c.measure-m.result = search rules in
    let weights = AreWeights-from _ _ _ c.measure-m.ensures.measured inside in
    search (rules, to_z-of_z)

pub over-requires-then-is_from_to-2-clause-not_negative :
    goal.over-requires-then-is_from_to-2-clause-not_negative
over-requires-then-is_from_to-2-clause-not_negative c =
    let inside : AreInside c.measure-m.result = search rules in
    let weights = AreWeights-from _ _ _ c.measure-m.ensures.measured inside in
    search (rules, to_z-of_z)

pub returns-then-is_from_to-clause-some : goal.returns-then-is_from_to-clause-some
returns-then-is_from_to-clause-some c =
    let inside : AreInside c.measure-m.result = search rules in
    let between : IsFromTo c.args.ray.now.tmin c.args.ray.now.tmax c.measure-m.result.num c.measure-m.result.den =
    search (rules, to_z-of_z) in
    (λ _. IsHit-from _ _ _ c.measure-m.ensures.measured inside between, λ _. refl)

pub returns-then-is_from_to-clause-value : goal.returns-then-is_from_to-clause-value
returns-then-is_from_to-clause-value c =
    Tells-from _ _ _ _ c.measure-m.ensures.measured (search (rules, to_z-of_z)) (search (rules, to_z-of_z))
    (search (rules, to_z-of_z)) (search (rules, to_z-of_z))

pub returns-else-are_inside-clause-some : goal.returns-else-are_inside-clause-some
returns-else-are_inside-clause-some c = (
  λ never. absurd (search rules),
  λ hit.
      let inside : AreInside c.measure-m.result = IsHit-inside _ _ _ c.measure-m.ensures.measured hit in
      let between : IsFromTo c.args.ray.now.tmin c.args.ray.now.tmax c.measure-m.result.num c.measure-m.result.den =
      IsHit-between _ _ _ c.measure-m.ensures.measured hit in
      elim c.else-are_inside.branch [
        | else-are_inside-via-then-are_inside+else-is_from_to w ↦ search (rules, to_z-of_z)
        | else-are_inside-via-else-are_inside w ↦ search (rules, to_z-of_z)
      ],
)
