-- A certificate that supports its hit names the answer, and the one that is made of the answer supports it: over any sound parts.
use Rattle.std.proofs.Common.{◌≡◌, ◌∙◌, refl, sym, ap, subst, ℕ, Bool, true, false, if◌then◌else◌, List, [], ◌∷◌, All, Option, Some, None, option_map, map}
use Rattle.std.proofs.lemmas.List.Elements.{All-append, All-cons, All-nil}
use Rattle.ray_geom.specs.declared.ratio.Ratio.{Ratio}
use Rattle.ray_flags.specs.declared.ray_flags.RayFlags.{RayFlags}
use Rattle.ray_tree.specs.Shapes.{Shape, Gone, Tip, Fork}
use Rattle.ray_tree.specs.Trees.{shape_at}
use Rattle.ray_query.specs.declared.candidate.Candidate.{Candidate}
use Rattle.ray_query.specs.declared.commit.Commit.{Commit}
use Rattle.ray_query.specs.declared.decision.Decision.{Decision}
use Rattle.ray_query.specs.declared.found.Found.{Found}
use Rattle.ray_query.specs.KeyOrder.{AreApart, in_key_order}
use Rattle.ray_query.specs.Limits.{IsInOrder}
use Rattle.ray_query.specs.Play.{play, start}
use Rattle.ray_query.proofs.Members.{All-from_Each, Contains-from_Member, Each-from_members, Member, Member-from_Contains}
use Rattle.ray_query.proofs.Orders.{Each}
use Rattle.ray_query.proofs.Rising.{Rises-in_key_order, in_key_order-has, in_key_order-keeps}
use Rattle.ray_candidates.proofs.Order.{KeysRise-from_Rises}
use Rattle.ray_cert.specs.Certificates.{AreCutsOf, CertValue, SupportsOver, digits_of, is_met, limit_of, name_of, tested_in}
use Rattle.ray_cert.specs.Cuttings.{Cutting, Fits, Shut, Split, Tested, cut_by, shut_of}
use Rattle.ray_cert.specs.Parts.{Part}
use Rattle.ray_cert.specs.PlayLaw.{AreUpTo, HaveSameUpTo, IsUpTo, committed_limit}
use Rattle.ray_cert.proofs.Commits.{plays-alike}
use Rattle.ray_cert.proofs.Marked.{IsFree}
use Rattle.ray_cert.proofs.TestedUpTo.{IsSoundPart, all_in, all_up_to, sound_in_order, sound_within, tested-all, tested-apart}

-- ---- the cutting that is made

module _ (met : ℕ → Bool) where
  Fits-cut_by : (s : Shape) → Fits s (cut_by met s)
  Fits-cut_by Gone = tt
  Fits-cut_by (Tip n first count) = by (met n)
    where
      by : (b : Bool) → Fits (Tip n first count) (if b then Tested else Shut)
      by true = tt
      by false = tt
  Fits-cut_by (Fork n l r) = by (met n) (Fits-cut_by l) (Fits-cut_by r)
    where
      by : (b : Bool) → Fits l (cut_by met l) → Fits r (cut_by met r) → Fits (Fork n l r) (if b then Split (cut_by met l) (cut_by met r) else Shut)
      by true left right = (left, right)
      by false left right = tt

  free-cut_by : (s : Shape) → All (IsFree met) (shut_of s (cut_by met s))
  free-cut_by Gone = All-nil (IsFree met)
  free-cut_by (Tip n first count) = by (met n) refl
    where
      by : (b : Bool) → met n ≡ b → All (IsFree met) (shut_of (Tip n first count) (if b then Tested else Shut))
      by true is = All-nil (IsFree met)
      by false is = All-cons (IsFree met) n [] is (All-nil (IsFree met))
  free-cut_by (Fork n l r) = by (met n) refl (free-cut_by l) (free-cut_by r)
    where
      by : (b : Bool) → met n ≡ b → All (IsFree met) (shut_of l (cut_by met l)) → All (IsFree met) (shut_of r (cut_by met r))
          → All (IsFree met) (shut_of (Fork n l r) (if b then Split (cut_by met l) (cut_by met r) else Shut))
      by true is left right = All-append (IsFree met) (shut_of l (cut_by met l)) (shut_of r (cut_by met r)) left right
      by false is left right = All-cons (IsFree met) n [] is (All-nil (IsFree met))

abbrev cuts_made : Ratio → List Part → List Cutting
cuts_made limit [] = []
cuts_made limit (p ∷ ps) = cut_by (is_met limit p) (shape_at p.tree 0) ∷ cuts_made limit ps

cuts-made : (limit : Ratio) (ps : List Part) → AreCutsOf limit ps (cuts_made limit ps) (map (digits_of limit) ps)
cuts-made limit [] = tt
cuts-made limit (p ∷ ps) = (
  record {
    fits = Fits-cut_by (is_met limit p) (shape_at p.tree 0);
    spelled = refl;
    far = free-cut_by (is_met limit p) (shape_at p.tree 0);
  },
  cuts-made limit ps,
)

-- ---- both lists are candidates up to the end

limit-committed : (end : Ratio) (o : Option Commit) → limit_of end (option_map name_of o) ≡ committed_limit end o
limit-committed end None = refl
limit-committed end (Some k) = refl

module _ (end : Ratio) (ps : List Part) (sound : Each (IsSoundPart end) ps) (apart : AreApart (all_in ps)) where
  up_to_end : (fs : List Found) → AreApart fs → ((f : Found) → Member f fs → Member f (all_in ps)) → AreUpTo end (in_key_order fs)
  up_to_end fs distinct among = record {
    rise = KeysRise-from_Rises (in_key_order fs) (Rises-in_key_order fs distinct);
    in_order = All-from_Each IsInOrder (in_key_order fs)
        (Each-from_members IsInOrder (in_key_order fs) (λ f m. sound_in_order end ps f sound (among f (in_key_order-has fs f m))));
    within = All-from_Each (λ (f : Found). IsUpTo end f.t) (in_key_order fs)
        (Each-from_members (λ (f : Found). IsUpTo end f.t) (in_key_order fs) (λ f m. sound_within end ps f sound (among f (in_key_order-has fs f m))));
  }

  all_listed : AreUpTo end (in_key_order (all_in ps))
  all_listed = up_to_end (all_in ps) apart (λ f m. m)

  tested_listed : (cs : List Cutting) → AreUpTo end (in_key_order (tested_in ps cs))
  tested_listed cs = up_to_end (tested_in ps cs) (tested-apart ps cs apart) (λ f m. tested-all ps cs f m)

  same_tested : (limit : Ratio) (cs : List Cutting) (ds : List (List Bool)) → AreCutsOf limit ps cs ds
      → HaveSameUpTo limit (in_key_order (tested_in ps cs)) (in_key_order (all_in ps))
  same_tested limit cs ds are =
      let few = tested_in ps cs in
      let many = all_in ps in
      record {
        forth = λ f near m.
            Contains-from_Member (in_key_order many) f (in_key_order-keeps many f
            (tested-all ps cs f (in_key_order-has few f (Member-from_Contains (in_key_order few) f m))));
        back = λ f near m.
            Contains-from_Member (in_key_order few) f (in_key_order-keeps few f
            (all_up_to limit end ps cs ds f sound are near (in_key_order-has many f (Member-from_Contains (in_key_order many) f m))));
      }

  module _ (meaning : Candidate → Decision) (number : ℕ) (flags : RayFlags) where
    -- what is named is the answer
    pub supported-answer : (cert : CertValue) → SupportsOver meaning number flags end ps cert
        → option_map name_of (play meaning number flags start (in_key_order (all_in ps))).committed ≡ cert.named
    supported-answer cert s =
        let few = in_key_order (tested_in ps s.cuts) in
        let o = (play meaning number flags start few).committed in
        let limits : limit_of end cert.named ≡ committed_limit end o = ap (limit_of end) (sym s.commits) ∙ limit-committed end o in
        let same : HaveSameUpTo (committed_limit end o) few (in_key_order (all_in ps)) =
        subst (λ c. HaveSameUpTo c few (in_key_order (all_in ps))) limits (same_tested (limit_of end cert.named) s.cuts cert.strings s.cut) in
        ap (option_map name_of) (sym (plays-alike meaning number flags end few (in_key_order (all_in ps)) (tested_listed s.cuts) all_listed same)) ∙ s.commits

    -- the certificate of the answer supports it
    pub answer-supported : (o : Option Commit) → o ≡ (play meaning number flags start (in_key_order (all_in ps))).committed
        → SupportsOver meaning number flags end ps
        (record { named = option_map name_of o; strings = map (digits_of (limit_of end (option_map name_of o))) ps })
    answer-supported o is =
        let many = in_key_order (all_in ps) in
        let limit = limit_of end (option_map name_of o) in
        let cs = cuts_made limit ps in
        let few = in_key_order (tested_in ps cs) in
        let limits : limit ≡ committed_limit end (play meaning number flags start many).committed = limit-committed end o ∙ ap (committed_limit end) is in
        let same : HaveSameUpTo limit few many = same_tested limit cs (map (digits_of limit) ps) (cuts-made limit ps) in
        let turned : HaveSameUpTo limit many few = record { forth = same.back; back = same.forth } in
        let alike = plays-alike meaning number flags end many few all_listed (tested_listed cs) (subst (λ c. HaveSameUpTo c many few) limits turned) in
        record {
          cuts = cs;
          cut = cuts-made limit ps;
          commits = ap (option_map name_of) (sym (is ∙ alike));
        }
