use Rattle.std.proofs.Common.{◌≡◌, decimal, arith, rules}
use Rattle.ray_geom.specs.Frac.{denominator, numerator}
use Rattle.ray_cert.proofs.WordsRead.{distance-cut, distance-uncut}
use Rattle.ray_cert.proofs.words.read_distance.Goals as goal

pub returns-in-None : goal.returns-in-None
returns-in-None c = λ t is. absurd (distance-uncut t c.args.word.now c.split_once.result c.split_once.ensures.cases c.in-None.is is)

pub returns-in-Some : goal.returns-in-Some
returns-in-Some c = λ t is.
    let cut = distance-cut t c.args.word.now c.split_once.result c.split_once.ensures.cases is in
    let num : c.in-Some.num.now ≡ decimal (numerator t) = search rules in
    let den : c.in-Some.den.now ≡ decimal (denominator t) = search rules in
    c.fraction_of.ensures t (c.read_part.ensures (numerator t) (omega (arith, t.limits.num_limit)) num)
    (c.read_part-in-Some.ensures (denominator t) (omega (arith, t.limits.den_limit)) den)
