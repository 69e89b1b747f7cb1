use Rattle.std.proofs.Common.{◌≡◌, ◌∙◌, ◌++◌, None, Some, ap, arith, length, subst, sym, take, [], ◌∷◌}
use Rattle.std.proofs.Math.Seq.{take-length}
use Rattle.std.proofs.lemmas.List.{append-nil}
use Rattle.ray_hazards.specs.Carrying.{makers_of}
use Rattle.ray_hazards.proofs.Carrying.{makers-more, not-some}
use Rattle.ray_hazards.proofs.coverage.makers_of.Goals.{in-Some+in_ok-push, in_default}
use Rattle.ray_hazards.proofs.coverage.makers_of.Goals as goal

pub loop-id-init : goal.loop-id-init
loop-id-init c = c.new-makers.ensures.items

pub loop-id-preserved : goal.loop-id-preserved
loop-id-preserved c =
    let z = c.args.status.now in
    let ids = c.args.ids.now in
    let k = c.loop-id.id-index in
    elim c.match-maker_of_buffer.branch [
      | in-Some+in_ok-push w ↦
          ap (λ v. v.items) w.makers-is
          ∙ (w.in_ok-push.ensures.items
          ∙ (ap (λ ms. ms ++ w.in-Some.made ∷ []) c.loop-id.invariant
          ∙ sym (makers-more z ids k 0 (Some w.in-Some.made) c.loop-id-test.true (sym c.maker_of_buffer.ensures ∙ w.in-Some.is))))
      | in_default w ↦
          ap (λ v. v.items) w.makers-is
          ∙ (c.loop-id.invariant
          ∙ (sym (append-nil (makers_of z (take k ids)))
          ∙ sym (makers-more z ids k 0 None c.loop-id-test.true
          (sym c.maker_of_buffer.ensures ∙ not-some c.maker_of_buffer.result w.in_default.not-Some))))
    ]

pub returns : goal.returns
returns c =
    let ids = c.args.ids.now in
    let after = c.loop-id-test.false in
    let within = c.loop-id.auto.id-index-end in
    let same : c.loop-id.id-index ≡ length ids = omega arith in
    c.loop-id.invariant
    ∙ ap (makers_of c.args.status.now) (subst (λ j. take j ids ≡ ids) (sym same) (take-length ids))
