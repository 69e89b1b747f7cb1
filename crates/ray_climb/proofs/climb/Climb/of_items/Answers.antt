use Rattle.std.proofs.Common.{◌≡◌, ◌∙◌, [], replicate, refl, ap, sym, subst}
use Rattle.ray_climb.specs.declared.rule.Hand.TheVariants.{Empty}
use Rattle.ray_climb.specs.Refits.{refit_value, frame_of}
use Rattle.ray_climb.specs.Rule.{words_of}
use Rattle.std.specs.List.{range_with_len}
use Rattle.ray_climb.specs.Seats.{AreLeaves}
use Rattle.ray_climb.proofs.Sums.{leaves_range}
use Rattle.ray_climb.proofs.Framed.{is_frame}
use Rattle.ray_climb.proofs.Opening.{opens}
use Rattle.ray_climb.proofs.climb.Climb.of_items.Goals as goal

pub of_words-requires : goal.of_words-requires
of_words-requires c =
    let r = refit_value c.args.tree c.args.items.items in
    opens (frame_of r) (is_frame r c.ready.ensures.shape c.ready.ensures.activity c.ready.ensures.boxes) c.as_slice.result.now
    (c.as_slice.ensures.value ∙ c.in-Ok-blank_words.ensures ∙ ap (λ n. replicate (words_of n) 0) c.nodes.ensures)

pub invariant_of-result-in-Ok-of_words : goal.invariant_of-result-in-Ok-of_words
invariant_of-result-in-Ok-of_words c =
    subst (λ m. (m.1 ≡ []) × (m.0.hand ≡ Empty) × AreLeaves c.leaves-leaves.result m.0.todo) (sym c.in-Ok-of_words.ensures.4)
    (refl, refl, subst (λ n. AreLeaves c.leaves-leaves.result (range_with_len 0 n)) c.leaves-leaves.ensures (leaves_range c.leaves-leaves.result))
