-- The lines of rays, one after the other.
use Rattle.std.proofs.Common.{ℕ, zero, suc, ◌≡◌, ◌+◌, ◌++◌, List, [], ◌∷◌, Option, Some, None, refl, ap, sym, subst, ◌∙◌, arith, append_assoc, append-nil}
use Rattle.std.specs.Prelude.{IfSome, OnOk, Result, Ok, Err, codes}
use Rattle.ray_candidates.specs.Candidates.{joined}
use Rattle.ray_action.specs.Clients.{Meaning}
use Rattle.ray_memory.specs.Tracing.{TraceSeen}
use Rattle.ray_certify.specs.declared.way.Way.{Way}
use Rattle.ray_certify.specs.Certified.{AreMade, CertifyThemselves, certificate_lines, line_for, lines_with, text_of_lines}
use Rattle.ray_certify.specs.Rays.{SeenRay, TracedRay, first_rays, traced_ray}
use Rattle.ray_certify.specs.Scenes.{Adds}
use Rattle.ray_certify.specs.Verified.{IsCertifiedBy}

-- ---- results

pub on_ok : {X E P : Type 0} (r : Result X E) → P → OnOk r P
on_ok (Ok x) p = p
on_ok (Err e) p = tt

pub on_ok_to : {X E P Q : Type 0} (r : Result X E) → (P → Q) → OnOk r P → OnOk r Q
on_ok_to (Ok x) next p = next p
on_ok_to (Err e) next p = tt

-- ---- lists that are joined

pub joined_none : {X : Type 0} (each : ℕ → List X) → joined each 0 ≡ []
unfolding joined
joined_none each = refl

pub joined_more : {X : Type 0} (each : ℕ → List X) (n : ℕ) → joined each (n + 1) ≡ joined each n ++ each n
unfolding joined
joined_more each n = let next : n + 1 ≡ suc n = omega arith in ap (joined each) next

-- ---- more lines

pub lines_both : (a b : List TracedRay) → certificate_lines (a ++ b) ≡ certificate_lines a ++ certificate_lines b
lines_both [] b = refl
lines_both (r ∷ a) b =
    ap (λ ls. lines_with r r.seen ++ ls) (lines_both a b) ∙ sym (append_assoc (lines_with r r.seen) (certificate_lines a) (certificate_lines b))

text_both : (a b : List (List ℕ)) → text_of_lines (a ++ b) ≡ text_of_lines a ++ text_of_lines b
text_both [] b = refl
text_both (l ∷ a) b = ap (λ t. (l ++ codes "\n") ++ t) (text_both a b) ∙ sym (append_assoc (l ++ codes "\n") (text_of_lines a) (text_of_lines b))

certify_both : (a b : List TracedRay) → CertifyThemselves a → CertifyThemselves b → CertifyThemselves (a ++ b)
certify_both [] b x y = y
certify_both (r ∷ a) b x y = (x.0, certify_both a b x.1 y)

-- a text with more behind it, which is that of more rays
pub adds : (more : List TracedRay) (before after : List ℕ) → after ≡ before ++ text_of_lines (certificate_lines more) → CertifyThemselves more → Adds more before after
adds more before after text certify rays made = record {
  lines =
      text
      ∙ (ap (λ t. t ++ text_of_lines (certificate_lines more)) made.lines
      ∙ (sym (text_both (certificate_lines rays) (certificate_lines more)) ∙ ap text_of_lines (sym (lines_both rays more))));
  certify = certify_both rays more made.certify certify;
}

-- no ray more
pub adds_nothing : (text : List ℕ) → Adds [] text text
adds_nothing text rays made = subst (λ (rs : List TracedRay). AreMade rs text) (sym (append-nil rays)) made

-- some, and then others
pub adds_both : (a b : List TracedRay) (x y z : List ℕ) → Adds a x y → Adds b y z → Adds (a ++ b) x z
adds_both a b x y z one two rays made = subst (λ (rs : List TracedRay). AreMade rs z) (append_assoc rays a b) (two (rays ++ a) (one rays made))

-- one ray that isn't there, and one that is
pub adds_none : (r : TracedRay) (text : List ℕ) → r.seen ≡ None → Adds (r ∷ []) text text
adds_none r text none =
    adds (r ∷ []) text text
    (sym (append-nil text) ∙ ap (λ t. text ++ t) (sym (ap (λ o. text_of_lines (lines_with r o ++ [])) none)))
    (subst (λ o. IfSome o (λ s. IsCertifiedBy r s (line_for r s))) (sym none) tt, tt)

pub adds_one : (r : TracedRay) (s : SeenRay) (before after : List ℕ) → r.seen ≡ Some s → after ≡ before ++ (line_for r s ++ codes "\n") → IsCertifiedBy r s (line_for r s)
    → Adds (r ∷ []) before after
adds_one r s before after some text certified =
    adds (r ∷ []) before after
    (text ∙ ap (λ t. before ++ t) (sym (append-nil (line_for r s ++ codes "\n")) ∙ ap (λ o. text_of_lines (lines_with r o ++ [])) (sym some)))
    (subst (λ o. IfSome o (λ x. IsCertifiedBy r x (line_for r x))) (sym some) certified, tt)

-- rays of which nothing is seen
pub adds_unseen : (way : Way) (meaning : Meaning) (n : ℕ) (text : List ℕ) → Adds (first_rays way meaning None n) text text
unfolding joined
adds_unseen way meaning zero text = adds_nothing text
adds_unseen way meaning (suc n) text =
    adds_both (first_rays way meaning None n) (traced_ray way meaning None n ∷ []) text text text (adds_unseen way meaning n text)
    (adds_none (traced_ray way meaning None n) text refl)

-- one of the first rays of a trace more
pub adds_next : (way : Way) (meaning : Meaning) (seen : Option TraceSeen) (n : ℕ) (x y z : List ℕ) → Adds (first_rays way meaning seen n) x y
    → Adds (traced_ray way meaning seen n ∷ []) y z → Adds (first_rays way meaning seen (n + 1)) x z
adds_next way meaning seen n x y z one two =
    subst (λ (rs : List TracedRay). Adds rs x z) (sym (joined_more (λ k. traced_ray way meaning seen k ∷ []) n))
    (adds_both (first_rays way meaning seen n) (traced_ray way meaning seen n ∷ []) x y z one two)

pub adds_first : (way : Way) (meaning : Meaning) (seen : Option TraceSeen) (text : List ℕ) → Adds (first_rays way meaning seen 0) text text
adds_first way meaning seen text = subst (λ (rs : List TracedRay). Adds rs text text) (sym (joined_none (λ k. traced_ray way meaning seen k ∷ []))) (adds_nothing text)
