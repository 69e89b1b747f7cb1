-- What is committed depends on the candidates up to its distance alone.
use Rattle.std.proofs.Common.{◌≡◌, ◌∙◌, refl, sym, ap, subst, ℕ, Bool, true, false, ◌&&◌, if◌then◌else◌, List, [], ◌∷◌, ◌++◌, Option, Some, None, inl, inr}
use Rattle.std.specs.Prelude.{IfSome, Contains}
use Rattle.std.specs.Ordering.{is_le, is_lt, ordering_then}
use Rattle.std.specs.declared.cmp.Ordering.{Ordering}
use Rattle.std.specs.declared.cmp.Ordering.TheVariants.{Less, Equal, Greater}
use Rattle.std.proofs.lemmas.Cmp.{tied_itself}
use Rattle.ray_geom.specs.declared.frac.Frac.{Frac}
use Rattle.ray_geom.specs.declared.ratio.Ratio.{Ratio}
use Rattle.ray_geom.specs.Frac.{frac_cmp}
use Rattle.ray_geom.specs.Ratio.{ratio_cmp, ratio_of}
use Rattle.ray_geom.specs.RatioLaws.{ratio_cmp-total}
use Rattle.ray_flags.specs.declared.ray_flags.RayFlags.{RayFlags}
use Rattle.ray_query.specs.declared.candidate.Candidate.{Candidate}
use Rattle.ray_query.specs.declared.commit.Commit.{Commit}
use Rattle.ray_query.specs.declared.decision.Decision.{Decision}
use Rattle.ray_query.specs.declared.decision.Decision.TheVariants.{Ignore, Confirm, GenerateEntry, GenerateExit, GenerateAt, Terminate, ConfirmTerminate}
use Rattle.ray_query.specs.declared.found.Found.{Found}
use Rattle.ray_query.specs.Key.{KeysRise, found_key, is_below}
use Rattle.ray_query.specs.Limits.{IsInOrder, is_within}
use Rattle.ray_query.specs.Play.{QueryState, candidate_of, committed_at, commits_unasked, counts, decided, generated_at, is_in_span, is_triangle, offered, play, play_one, start}
use Rattle.ray_query.proofs.Members.{Member, Member-append, Member-append_left, Member-from_Contains, Contains-from_Member, Each-member, Each-from_members}
use Rattle.ray_query.proofs.Orders.{Each, Each-from_All, KeysRise-first, KeysRise-rest, beyond-farther, beyond-passed, never}
use Rattle.ray_query.proofs.Rising.{IsAbove, Rises, rising_same}
use Rattle.ray_cert.specs.PlayLaw.{AreUpTo, HaveSameUpTo, IsUpTo, PlaysAlike, committed_limit}

-- ---- what is beyond a limit commits nothing up to it

abbrev pub IsBeyond : Ratio → Frac → Type 0
IsBeyond c t = is_within (Some c) (ratio_of t) ≡ false

choose : (P : QueryState → Type 0) (b : Bool) (x y : QueryState) → (b ≡ true → P x) → P y → P (if b then x else y)
choose P true x y p q = p refl
choose P false x y p q = q

first_of : (a b : Bool) → (a && b) ≡ true → a ≡ true
first_of true b p = refl
first_of false b p = p

module _ (c : Ratio) (old : Option Commit) where
  -- a commit up to the limit is the old one
  abbrev IsKept : QueryState → Type 0
  IsKept st = IfSome st.committed (λ k. IsUpTo c k.t → old ≡ Some k)

  kept-committed_at : (flags : RayFlags) (f : Found) (t : Frac) (st : QueryState) → IsBeyond c t → IsKept st → IsKept (committed_at flags f t st)
  kept-committed_at flags f t st far kept =
      choose IsKept (counts f t st) _ st (λ counts_. λ near. never (is_within (Some c) (ratio_of t)) near far) kept

  kept-generated_at : (flags : RayFlags) (f : Found) (t : Frac) (st : QueryState) → IsBeyond c t → IsKept st → IsKept (generated_at flags f t st)
  kept-generated_at flags f t st far kept =
      choose IsKept (is_triangle f.kind) st (committed_at flags f t st) (λ yes_. kept) (kept-committed_at flags f t st far kept)

  kept-decided : (flags : RayFlags) (f : Found) (d : Decision) (st : QueryState) → IsBeyond c f.t → IsInOrder f → IsKept st → IsKept (decided flags f d st)
  kept-decided flags f Ignore st far order kept = kept
  kept-decided flags f Confirm st far order kept =
      choose IsKept (is_triangle f.kind) (committed_at flags f f.t st) st (λ yes_. kept-committed_at flags f f.t st far kept) kept
  kept-decided flags f GenerateEntry st far order kept = kept-generated_at flags f f.t st far kept
  kept-decided flags f GenerateExit st far order kept =
      kept-generated_at flags f f.exit st (beyond-farther (Some c) (ratio_of f.t) (ratio_of f.exit) order far) kept
  kept-decided flags f (GenerateAt t) st far order kept =
      choose IsKept (is_in_span f t) (generated_at flags f t st) st
      (λ in_. kept-generated_at flags f t st
      (beyond-farther (Some c) (ratio_of f.t) (ratio_of t) (first_of (is_le (frac_cmp f.t t)) (is_le (frac_cmp t f.exit)) in_) far) kept)
      kept
  kept-decided flags f Terminate st far order kept = kept
  kept-decided flags f ConfirmTerminate st far order kept =
      choose IsKept (is_triangle f.kind) _ st (λ yes_. kept-committed_at flags f f.t st far kept) kept

  kept-play_one : (meaning : Candidate → Decision) (number : ℕ) (flags : RayFlags) (st : QueryState) (f : Found)
      → IsBeyond c f.t → IsInOrder f → IsKept st → IsKept (play_one meaning number flags st f)
  kept-play_one meaning number flags st f far order kept =
      choose IsKept st.over st _ (λ yes_. kept)
      (choose IsKept (counts f f.t st) _ st
      (λ yes_. choose IsKept (commits_unasked f) (committed_at flags f f.t st) (decided flags f (meaning (candidate_of number st f)) (offered st))
      (λ unasked. kept-committed_at flags f f.t st far kept)
      (kept-decided flags f (meaning (candidate_of number st f)) (offered st) far order kept))
      kept)

  kept-play : (meaning : Candidate → Decision) (number : ℕ) (flags : RayFlags) (st : QueryState) (fs : List Found)
      → Each (λ f. IsBeyond c f.t) fs → Each IsInOrder fs → IsKept st → IsKept (play meaning number flags st fs)
  kept-play meaning number flags st [] far order kept = kept
  kept-play meaning number flags st (f ∷ fs) (far, farther) (order, orders) kept =
      kept-play meaning number flags (play_one meaning number flags st f) fs farther orders (kept-play_one meaning number flags st f far order kept)

-- ---- a rising list in two parts, up to a limit and beyond it

record Parted (c : Ratio) (fs : List Found) : Type 0 where
  pub front : List Found
  pub behind : List Found
  pub is : fs ≡ front ++ behind
  pub near : Each (λ f. IsUpTo c f.t) front
  pub far : Each (λ f. IsBeyond c f.t) behind

then_first : (r s : Ordering) → is_lt (ordering_then r s) ≡ true → is_le r ≡ true
then_first Less s p = refl
then_first Equal s p = refl
then_first Greater s p = absurd (cc)

later : (f g : Found) → IsAbove f g → is_le (ratio_cmp (ratio_of f.t) (ratio_of g.t)) ≡ true
later f g above = then_first (frac_cmp f.t g.t) _ above

parted : (c : Ratio) (fs : List Found) → Rises fs → Parted c fs
parted c [] rise = record { front = []; behind = []; is = refl; near = tt; far = tt }
parted c (f ∷ fs) (above, rise) = by (is_within (Some c) (ratio_of f.t)) refl (parted c fs rise)
  where
    by : (b : Bool) → is_within (Some c) (ratio_of f.t) ≡ b → Parted c fs → Parted c (f ∷ fs)
    by true up rest = record { front = f ∷ rest.front; behind = rest.behind; is = ap (λ zs. f ∷ zs) rest.is; near = (up, rest.near); far = rest.far }
    by false far rest = record {
      front = [];
      behind = f ∷ fs;
      is = refl;
      near = tt;
      far = (
        far,
        Each-from_members (λ (g : Found). IsBeyond c g.t) fs
            (λ g m. beyond-farther (Some c) (ratio_of f.t) (ratio_of g.t) (later f g (Each-member (IsAbove f) fs g above m)) far),
      );
    }

Each-front : {X : Type 0} (P : X → Type 0) (xs ys : List X) → Each P (xs ++ ys) → Each P xs
Each-front P [] ys each = tt
Each-front P (x ∷ xs) ys (first, rest) = (first, Each-front P xs ys rest)

Each-behind : {X : Type 0} (P : X → Type 0) (xs ys : List X) → Each P (xs ++ ys) → Each P ys
Each-behind P [] ys each = each
Each-behind P (x ∷ xs) ys (first, rest) = Each-behind P xs ys rest

Rises-front : (xs ys : List Found) → Rises (xs ++ ys) → Rises xs
Rises-front [] ys rise = tt
Rises-front (x ∷ xs) ys (above, rise) = (Each-front (IsAbove x) xs ys above, Rises-front xs ys rise)

in_front : (c : Ratio) (front behind : List Found) (f : Found) → Each (λ (g : Found). IsBeyond c g.t) behind → IsUpTo c f.t → Member f (front ++ behind) → Member f front
in_front c front behind f far near m = elim (Member-append front behind f m) [
  | inl here ↦ here
  | inr there ↦ never (is_within (Some c) (ratio_of f.t)) near (Each-member (λ (g : Found). IsBeyond c g.t) behind f far there)
]

-- ---- plays

play-both : (meaning : Candidate → Decision) (number : ℕ) (flags : RayFlags) (st : QueryState) (fs gs : List Found)
    → play meaning number flags st (fs ++ gs) ≡ play meaning number flags (play meaning number flags st fs) gs
play-both meaning number flags st [] gs = refl
play-both meaning number flags st (f ∷ fs) gs = play-both meaning number flags (play_one meaning number flags st f) fs gs

stays : (over beats : Bool) (st later : QueryState) → beats ≡ false → (if over then st else if beats then later else st) ≡ st
stays true beats st later p = refl
stays false true st later p = absurd (cc)
stays false false st later p = refl

-- what is beyond the committed distance is passed over
stays-behind : (meaning : Candidate → Decision) (number : ℕ) (flags : RayFlags) (st : QueryState) (k : Commit) (fs : List Found) → st.committed ≡ Some k
    → Each (λ (f : Found). IsBeyond (ratio_of k.t) f.t) fs → play meaning number flags st fs ≡ st
stays-behind meaning number flags st k [] at far = refl
stays-behind meaning number flags st k (f ∷ fs) at (far, farther) =
    let passed : play_one meaning number flags st f ≡ st =
    stays st.over (counts f f.t st) st _ (ap (is_below (found_key f)) at ∙ beyond-passed (Some k) f far) in
    ap (λ s. play meaning number flags s fs) passed ∙ stays-behind meaning number flags st k fs at farther

kept-itself : (c : Ratio) (o : Option Commit) → IfSome o (λ k. IsUpTo c k.t → o ≡ Some k)
kept-itself c None = tt
kept-itself c (Some k) = λ near. refl

up_to-itself : (t : Frac) → IsUpTo (ratio_of t) t
up_to-itself t = ap is_le (tied_itself ratio_cmp-total (ratio_of t))

-- two lists as they are used here: rising, in order, up to an end
record AreListed (end : Ratio) (fs : List Found) : Type 0 where
  pub rise : Rises fs
  pub in_order : Each IsInOrder fs
  pub within : Each (λ f. IsUpTo end f.t) fs

rises : (gs : List Found) → KeysRise gs → Rises gs
rises [] rise = tt
rises (g ∷ gs) rise = (KeysRise-first g gs rise, rises gs (KeysRise-rest g gs rise))

listed : (end : Ratio) (fs : List Found) → AreUpTo end fs → AreListed end fs
listed end fs are = record {
  rise = rises fs are.rise;
  in_order = Each-from_All IsInOrder fs are.in_order;
  within = Each-from_All (λ (f : Found). IsUpTo end f.t) fs are.within;
}

-- the parts up to the limit are the same
front_in : (c : Ratio) (fs gs : List Found) → (p : Parted c fs) → (q : Parted c gs) → ((f : Found) → IsUpTo c f.t → Contains fs f → Contains gs f)
    → (x : Found) → Member x p.front → Member x q.front
front_in c fs gs p q forth x m =
    let near : IsUpTo c x.t = Each-member (λ (f : Found). IsUpTo c f.t) p.front x p.near m in
    let here : Contains fs x = Contains-from_Member fs x (subst (Member x) (sym p.is) (Member-append_left p.front p.behind x m)) in
    in_front c q.front q.behind x q.far near (subst (Member x) q.is (Member-from_Contains gs x (forth x near here)))

fronts_same : (c : Ratio) (fs gs : List Found) → Rises fs → Rises gs → HaveSameUpTo c fs gs → (p : Parted c fs) → (q : Parted c gs) → p.front ≡ q.front
fronts_same c fs gs rise rises same p q =
    rising_same p.front q.front
    (Rises-front p.front p.behind (subst Rises p.is rise)) (Rises-front q.front q.behind (subst Rises q.is rises))
    (front_in c fs gs p q same.forth) (front_in c gs fs q p same.back)

module _ (meaning : Candidate → Decision) (number : ℕ) (flags : RayFlags) (end : Ratio) where
  all_same : (fs gs : List Found) → AreListed end fs → AreListed end gs → HaveSameUpTo end fs gs → fs ≡ gs
  all_same fs gs a b same =
      rising_same fs gs a.rise b.rise
      (λ x m. Member-from_Contains gs x (same.forth x (Each-member (λ (f : Found). IsUpTo end f.t) fs x a.within m) (Contains-from_Member fs x m)))
      (λ x m. Member-from_Contains fs x (same.back x (Each-member (λ (f : Found). IsUpTo end f.t) gs x b.within m) (Contains-from_Member gs x m)))

  -- where something is committed
  alike_at : (fs gs : List Found) (k : Commit) → AreListed end fs → AreListed end gs → (play meaning number flags start fs).committed ≡ Some k
      → HaveSameUpTo (ratio_of k.t) fs gs → (play meaning number flags start gs).committed ≡ Some k
  alike_at fs gs k a b at same =
      let c : Ratio = ratio_of k.t in
      let p : Parted c fs = parted c fs a.rise in
      let q : Parted c gs = parted c gs b.rise in
      let middle : QueryState = play meaning number flags start p.front in
      let whole : play meaning number flags start fs ≡ play meaning number flags middle p.behind =
      ap (play meaning number flags start) p.is ∙ play-both meaning number flags start p.front p.behind in
      let kept : IfSome (play meaning number flags middle p.behind).committed (λ l. IsUpTo c l.t → middle.committed ≡ Some l) =
      kept-play c middle.committed meaning number flags middle p.behind p.far (Each-behind IsInOrder p.front p.behind (subst (Each IsInOrder) p.is a.in_order))
      (kept-itself c middle.committed) in
      let there : (play meaning number flags middle p.behind).committed ≡ Some k = sym (ap (λ (s : QueryState). s.committed) whole) ∙ at in
      let some : IfSome (Some k) (λ l. IsUpTo c l.t → middle.committed ≡ Some l) =
      subst (λ o. IfSome o (λ l. IsUpTo c l.t → middle.committed ≡ Some l)) there kept in
      let before : middle.committed ≡ Some k = some (up_to-itself k.t) in
      let other : play meaning number flags start gs ≡ play meaning number flags (play meaning number flags start q.front) q.behind =
      ap (play meaning number flags start) q.is ∙ play-both meaning number flags start q.front q.behind in
      let fronts : play meaning number flags start q.front ≡ middle =
      ap (play meaning number flags start) (sym (fronts_same c fs gs a.rise b.rise same p q)) in
      let stay : play meaning number flags middle q.behind ≡ middle = stays-behind meaning number flags middle k q.behind before q.far in
      ap (λ (s : QueryState). s.committed) (other ∙ (ap (λ s. play meaning number flags s q.behind) fronts ∙ stay)) ∙ before

  alike : (fs gs : List Found) (o : Option Commit) → AreListed end fs → AreListed end gs → (play meaning number flags start fs).committed ≡ o
      → HaveSameUpTo (committed_limit end o) fs gs → (play meaning number flags start gs).committed ≡ o
  alike fs gs None a b at same = ap (λ hs. (play meaning number flags start hs).committed) (sym (all_same fs gs a b same)) ∙ at
  alike fs gs (Some k) a b at same = alike_at fs gs k a b at same

pub plays-alike : PlaysAlike
plays-alike meaning number flags end fs gs a b same =
    sym (alike meaning number flags end fs gs (play meaning number flags start fs).committed (listed end fs a) (listed end gs b) refl same)
