use Rattle.std.proofs.Common.{rules, ◌≡◌, ◌∙◌, ◌*◌, ◌^◌, ◌<◌, sym, subst, ap, arith, unsigned_abs, pos, ◌*ℤ◌, to_z, of_z, w64, to_z-of_z}
use Rattle.std.specs.Int.{w128}
use Rattle.std.proofs.lemmas.Bool.Decides.{nat_tests}
use Rattle.ray_slabs.specs.Slopes.{is_falling, way_of, back_of, IsFloor}
use Rattle.ray_slabs.proofs.Making.{slope_made}
use Rattle.ray_slabs.proofs.slope.slope_of.Goals as goal

pub returns-clause-slope : goal.returns-clause-slope
returns-clause-slope c =
    let a = c.args in
    let size : c.unsigned_abs-size.result ≡ unsigned_abs a.m = search (rules, to_z-of_z) in
    let det_size : c.unsigned_abs.result ≡ unsigned_abs a.det = search (rules, to_z-of_z) in
    let again : c.unsigned_abs-2.result ≡ unsigned_abs a.det = search (rules, to_z-of_z) in
    let moves : 0 < c.unsigned_abs-size.result = grind (arith, nat_tests) in
    let falling : c.is_falling-falling.result ≡ is_falling a.det a.m = search (rules, to_z-of_z) in
    let o_plain : to_z w64 (of_z w64 a.o) ≡ a.o = search (rules, to_z-of_z) in
    let m_plain : to_z w64 (of_z w64 a.m) ≡ a.m = search (rules, to_z-of_z) in
    let back_plain : to_z w64 (of_z w64 c.back_of.result) ≡ c.back_of.result = search (rules, to_z-of_z) in
    let way_plain : to_z w64 (of_z w64 c.way_of-way.result) ≡ c.way_of-way.result = search (rules, to_z-of_z) in
    let back : to_z w64 (of_z w64 c.back_of.result) ≡ back_of a.o a.m = back_plain ∙ (c.back_of.ensures.value ∙ (λ i. back_of (o_plain i) (m_plain i))) in
    let way : to_z w64 (of_z w64 c.way_of-way.result) ≡ way_of c.is_falling-falling.result c.unsigned_abs-2.result (to_z w64 (of_z w64 c.back_of.result)) = way_plain ∙ c.way_of-way.ensures.value in
    let speed : c.from.result * c.from-2.result ≡ unsigned_abs a.m * 2 ^ a.shift =
    (λ i. c.from.ensures i * c.from-2.ensures i) ∙ (λ i. size i * c.power.ensures.value i) in
    slope_made a.det a.o a.m a.shift c.is_falling-falling.result c.factor_of-factor.result (c.from.result * c.from-2.result) c.unsigned_abs.result
    (to_z w64 (of_z w64 c.way_of-way.result)) (to_z w64 (of_z w64 c.back_of.result)) (to_z w128 (of_z w128 c.offset_of.result)) c.made.result
    record {
      moves = subst (λ n. 0 < n) size moves;
      falling_is = falling;
      size_is = det_size;
      speed_is = speed;
      way_is = way ∙ ap (λ n. way_of c.is_falling-falling.result n (to_z w64 (of_z w64 c.back_of.result))) (again ∙ sym det_size);
      back_is = back;
      below = c.factor_of-factor.ensures.below;
      above = c.factor_of-factor.ensures.above;
      floor = subst (λ z. IsFloor (to_z w64 (of_z w64 c.way_of-way.result) *ℤ pos (2 ^ 38)) (c.from.result * c.from-2.result) z) (search (rules, to_z-of_z)) c.offset_of.ensures;
    }
    c.made.ensures
