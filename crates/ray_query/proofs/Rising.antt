-- Lists in rising order of keys: two with the same members are the same; so it doesn't matter in which order what was found stood.
use Rattle.std.proofs.Common.{◌≡◌, ◌∙◌, ◌+◌, ◌≤◌, refl, sym, ap, subst, ℕ, Bool, true, false, if◌then◌else◌, cond, List, [], ◌∷◌, inl, inr, filter, sum_by, arith}
use Rattle.std.specs.Ordering.{is_lt, is_eq, ordering_reverse}
use Rattle.std.specs.declared.cmp.Ordering.{Ordering}
use Rattle.std.specs.declared.cmp.Ordering.TheVariants.{Less, Equal, Greater}
use Rattle.std.proofs.lemmas.Cmp.{tied_itself}
use Rattle.std.proofs.lemmas.List.Sums.{sum_by-cons}
use Rattle.ray_query.specs.declared.key.Key.{Key}
use Rattle.ray_query.specs.declared.found.Found.{Found}
use Rattle.ray_query.specs.Key.{found_key, key_cmp, key_lt}
use Rattle.ray_query.specs.KeyOrder.{AreApart, has_key, in_key_order, inserted}
use Rattle.ray_query.proofs.Orders.{key_cmp-total}
use Rattle.ray_query.proofs.Members.{Each-from_members, Each-member, Member}
use Rattle.ray_query.proofs.Orders.{Each, key_lt-itself, key_lt-not_both, never}

-- ---- rising, by recursion

abbrev pub IsAbove : Found → Found → Type 0
IsAbove f g = key_lt (found_key f) (found_key g) ≡ true

abbrev pub Rises : List Found → Type 0
Rises [] = Unit {0}
Rises (f ∷ fs) = Each (IsAbove f) fs × Rises fs

-- ---- two rising lists with the same members are the same

heads : (f g : Found) (fs gs : List Found) → Each (IsAbove f) fs → Each (IsAbove g) gs → Member f (g ∷ gs) → Member g (f ∷ fs) → f ≡ g
heads f g fs gs above_f above_g (inl same) back = sym same
heads f g fs gs above_f above_g (inr later) (inl same) = same
heads f g fs gs above_f above_g (inr later) (inr back) =
    never (key_lt (found_key g) (found_key f))
    (Each-member (IsAbove g) gs f above_g later)
    (key_lt-not_both (found_key f) (found_key g) (Each-member (IsAbove f) fs g above_f back))

-- a member of the rest is a member of the other rest
tails : (f g x : Found) (fs gs : List Found) → f ≡ g → Each (IsAbove f) fs → Member x fs → Member x (g ∷ gs) → Member x gs
tails f g x fs gs same above m (inr later) = later
tails f g x fs gs same above m (inl here) =
    never (key_lt (found_key f) (found_key x)) (Each-member (IsAbove f) fs x above m)
    (subst (λ y. key_lt (found_key f) (found_key y) ≡ false) (same ∙ here) (key_lt-itself (found_key f)))

pub rising_same : (fs gs : List Found) → Rises fs → Rises gs → ((x : Found) → Member x fs → Member x gs) → ((x : Found) → Member x gs → Member x fs) → fs ≡ gs
rising_same [] [] rise rises forth back = refl
rising_same [] (g ∷ gs) rise rises forth back = absurd (back g (inl refl))
rising_same (f ∷ fs) [] rise rises forth back = absurd (forth f (inl refl))
rising_same (f ∷ fs) (g ∷ gs) (above_f, rise) (above_g, rises) forth back =
    let same : f ≡ g = heads f g fs gs above_f above_g (forth f (inl refl)) (back g (inl refl)) in
    let rest : fs ≡ gs = rising_same fs gs rise rises
    (λ x m. tails f g x fs gs same above_f m (forth x (inr m)))
    (λ x m. tails g f x gs fs (sym same) above_g m (back x (inr m))) in
    λ i. same i ∷ rest i

-- ---- by insertion

inserted-has : (f : Found) (gs : List Found) (x : Found) → Member x (inserted f gs) → Member x (f ∷ gs)
inserted-has f [] x m = m
inserted-has f (g ∷ gs) x m = by (key_lt (found_key f) (found_key g)) (inserted-has f gs x) m
  where
    turned : Member x (f ∷ gs) → Member x (f ∷ (g ∷ gs))
    turned (inl same) = inl same
    turned (inr later) = inr (inr later)

    by : (b : Bool) → (Member x (inserted f gs) → Member x (f ∷ gs)) → Member x (if b then f ∷ (g ∷ gs) else g ∷ inserted f gs) → Member x (f ∷ (g ∷ gs))
    by true rest n = n
    by false rest (inl same) = inr (inl same)
    by false rest (inr n) = turned (rest n)

inserted-keeps : (f : Found) (gs : List Found) (x : Found) → Member x (f ∷ gs) → Member x (inserted f gs)
inserted-keeps f [] x m = m
inserted-keeps f (g ∷ gs) x m = by (key_lt (found_key f) (found_key g)) (inserted-keeps f gs x) m
  where
    by : (b : Bool) → (Member x (f ∷ gs) → Member x (inserted f gs)) → Member x (f ∷ (g ∷ gs)) → Member x (if b then f ∷ (g ∷ gs) else g ∷ inserted f gs)
    by true rest n = n
    by false rest (inl same) = inr (rest (inl same))
    by false rest (inr (inl same)) = inl same
    by false rest (inr (inr later)) = inr (rest (inr later))

-- of keys that differ, one that isn't below is above
above_else : (o : Ordering) → is_lt o ≡ false → (o ≡ Equal → ⊥) → is_lt (ordering_reverse o) ≡ true
above_else Less p q = absurd (cc)
above_else Equal p q = absurd (q refl)
above_else Greater p q = refl

less_is : (o : Ordering) → is_lt o ≡ true → o ≡ Less
less_is Less p = refl
less_is Equal p = absurd (cc)
less_is Greater p = absurd (cc)

chain : (k l m : Key) → key_lt k l ≡ true → key_lt l m ≡ true → key_lt k m ≡ true
chain k l m p q = ap is_lt (key_cmp-total.trans k l m (less_is (key_cmp k l) p) (less_is (key_cmp l m) q))

abbrev pub Differs : Found → Found → Type 0
Differs f g = key_cmp (found_key f) (found_key g) ≡ Equal → ⊥

-- of two that differ, what isn't below is above
pub above_other : (f g : Found) → Differs f g → key_lt (found_key g) (found_key f) ≡ false → IsAbove f g
above_other f g differs p =
    ap is_lt (key_cmp-total.antisymm (found_key f) (found_key g)) ∙
    above_else (key_cmp (found_key g) (found_key f)) p
    (λ same. differs (key_cmp-total.antisymm (found_key f) (found_key g) ∙ ap ordering_reverse same))

Rises-inserted : (f : Found) (gs : List Found) → Rises gs → Each (Differs f) gs → Rises (inserted f gs)
Rises-inserted f [] rise differ = (tt, tt)
Rises-inserted f (g ∷ gs) (first, rest) (differs, differ) =
    by (key_lt (found_key f) (found_key g)) refl (Rises-inserted f gs rest differ)
  where
    after : (y : Found) → IsAbove g f → Member y (f ∷ gs) → IsAbove g y
    after y p (inl same) = subst (IsAbove g) same p
    after y p (inr m) = Each-member (IsAbove g) gs y first m

    by : (b : Bool) → key_lt (found_key f) (found_key g) ≡ b → Rises (inserted f gs) → Rises (if b then f ∷ (g ∷ gs) else g ∷ inserted f gs)
    by true p risen = (
      (p, Each-from_members (IsAbove f) gs (λ y m. chain (found_key f) (found_key g) (found_key y) p (Each-member (IsAbove g) gs y first m))),
      (first, rest),
    )
    by false p risen =
        let above : IsAbove g f =
        ap is_lt (key_cmp-total.antisymm (found_key g) (found_key f)) ∙ above_else (key_cmp (found_key f) (found_key g)) p differs in
        (Each-from_members (IsAbove g) (inserted f gs) (λ y m. after y above (inserted-has f gs y m)), risen)

-- ---- where no key stands twice

one_key : (f : Found) → has_key (found_key f) f ≡ 1
one_key f = ap (λ (o : Ordering). cond {A = ℕ} (is_eq o) 1 0) (tied_itself key_cmp-total (found_key f))

counted : (k : Key) (f : Found) → key_cmp k (found_key f) ≡ Equal → has_key k f ≡ 1
counted k f p = ap (λ (o : Ordering). cond {A = ℕ} (is_eq o) 1 0) p

none_of : (k : Key) (fs : List Found) → sum_by (has_key k) fs ≡ 0 → Each (λ g. key_cmp k (found_key g) ≡ Equal → ⊥) fs
none_of k [] none = tt
none_of k (g ∷ gs) none =
    let sum : sum_by (has_key k) (g ∷ gs) ≡ has_key k g + sum_by (has_key k) gs = sum_by-cons (has_key k) g gs in
    let first : has_key k g ≡ 0 = omega (arith, sum, none) in (
      (λ same. let one : has_key k g ≡ 1 = counted k g same in absurd (omega (arith, one, first))),
      none_of k gs (omega (arith, sum, none)),
    )

pub AreApart-first : (f : Found) (fs : List Found) → AreApart (f ∷ fs) → Each (Differs f) fs
AreApart-first f fs apart =
    let sum : sum_by (has_key (found_key f)) (f ∷ fs) ≡ has_key (found_key f) f + sum_by (has_key (found_key f)) fs = sum_by-cons (has_key (found_key f)) f fs in
    let one : has_key (found_key f) f ≡ 1 = one_key f in
    let most : sum_by (has_key (found_key f)) (f ∷ fs) ≤ 1 = apart.once (found_key f) in
    none_of (found_key f) fs (omega (arith, sum, one, most))

pub AreApart-rest : (f : Found) (fs : List Found) → AreApart (f ∷ fs) → AreApart fs
AreApart-rest f fs apart = record {
  once = λ k.
      let sum : sum_by (has_key k) (f ∷ fs) ≡ has_key k f + sum_by (has_key k) fs = sum_by-cons (has_key k) f fs in
      let most : sum_by (has_key k) (f ∷ fs) ≤ 1 = apart.once k in
      omega (arith, sum, most);
}

pub in_key_order-has : (fs : List Found) (x : Found) → Member x (in_key_order fs) → Member x fs
unfolding in_key_order
in_key_order-has [] x m = m
in_key_order-has (f ∷ fs) x m = by (inserted-has f (in_key_order fs) x m) (in_key_order-has fs x)
  where
    by : Member x (f ∷ in_key_order fs) → (Member x (in_key_order fs) → Member x fs) → Member x (f ∷ fs)
    by (inl same) rest = inl same
    by (inr later) rest = inr (rest later)

pub in_key_order-keeps : (fs : List Found) (x : Found) → Member x fs → Member x (in_key_order fs)
unfolding in_key_order
in_key_order-keeps [] x m = m
in_key_order-keeps (f ∷ fs) x (inl same) = inserted-keeps f (in_key_order fs) x (inl same)
in_key_order-keeps (f ∷ fs) x (inr m) = inserted-keeps f (in_key_order fs) x (inr (in_key_order-keeps fs x m))

pub Rises-in_key_order : (fs : List Found) → AreApart fs → Rises (in_key_order fs)
unfolding in_key_order
Rises-in_key_order [] apart = tt
Rises-in_key_order (f ∷ fs) apart =
    Rises-inserted f (in_key_order fs) (Rises-in_key_order fs (AreApart-rest f fs apart))
    (Each-from_members (Differs f) (in_key_order fs) (λ y m. Each-member (Differs f) fs y (AreApart-first f fs apart) (in_key_order-has fs y m)))

-- two lists with the same members, in whatever order, are one list in order of keys
pub in_key_order-same : (fs gs : List Found) → AreApart fs → AreApart gs
    → ((x : Found) → Member x fs → Member x gs) → ((x : Found) → Member x gs → Member x fs) → in_key_order fs ≡ in_key_order gs
in_key_order-same fs gs apart_f apart_g forth back =
    rising_same (in_key_order fs) (in_key_order gs) (Rises-in_key_order fs apart_f) (Rises-in_key_order gs apart_g)
    (λ x m. in_key_order-keeps gs x (forth x (in_key_order-has fs x m)))
    (λ x m. in_key_order-keeps fs x (back x (in_key_order-has gs x m)))

-- ---- of which a test keeps some

module _ (keep : Found → Bool) where
  pub filter-has : (fs : List Found) (x : Found) → Member x (filter keep fs) → Member x fs × (keep x ≡ true)
  filter-has [] x m = absurd m
  filter-has (f ∷ fs) x m = by (keep f) refl (filter-has fs x) m
    where
      wider : Member x fs × (keep x ≡ true) → Member x (f ∷ fs) × (keep x ≡ true)
      wider (here, kept) = (inr here, kept)

      by : (b : Bool) → keep f ≡ b → (Member x (filter keep fs) → Member x fs × (keep x ≡ true)) → Member x (if b then f ∷ filter keep fs else filter keep fs)
          → Member x (f ∷ fs) × (keep x ≡ true)
      by true kept rest (inl same) = (inl same, subst (λ y. keep y ≡ true) same kept)
      by true kept rest (inr later) = wider (rest later)
      by false kept rest n = wider (rest n)

  pub filter-keeps : (fs : List Found) (x : Found) → keep x ≡ true → Member x fs → Member x (filter keep fs)
  filter-keeps [] x kept m = absurd m
  filter-keeps (f ∷ fs) x kept m = by (keep f) refl (filter-keeps fs x kept) m
    where
      by : (b : Bool) → keep f ≡ b → (Member x fs → Member x (filter keep fs)) → Member x (f ∷ fs) → Member x (if b then f ∷ filter keep fs else filter keep fs)
      by true p rest (inl same) = inl same
      by true p rest (inr later) = inr (rest later)
      by false p rest (inl same) = never (keep f) (ap keep same ∙ kept) p
      by false p rest (inr later) = rest later

  Rises-filter : (fs : List Found) → Rises fs → Rises (filter keep fs)
  Rises-filter [] rise = tt
  Rises-filter (f ∷ fs) (first, rest) = by (keep f) (Rises-filter fs rest)
    where
      by : (b : Bool) → Rises (filter keep fs) → Rises (if b then f ∷ filter keep fs else filter keep fs)
      by true risen = (Each-from_members (IsAbove f) (filter keep fs) (λ y m. Each-member (IsAbove f) fs y first (filter-has fs y m).0), risen)
      by false risen = risen

  -- two lists with the same kept members, in whatever order, keep one list in order of keys
  pub in_key_order-kept : (fs gs : List Found) → AreApart fs → AreApart gs
      → ((x : Found) → keep x ≡ true → Member x fs → Member x gs) → ((x : Found) → keep x ≡ true → Member x gs → Member x fs)
      → filter keep (in_key_order fs) ≡ filter keep (in_key_order gs)
  in_key_order-kept fs gs apart_f apart_g forth back =
      rising_same (filter keep (in_key_order fs)) (filter keep (in_key_order gs))
      (Rises-filter (in_key_order fs) (Rises-in_key_order fs apart_f)) (Rises-filter (in_key_order gs) (Rises-in_key_order gs apart_g))
      (λ x m. moved fs gs x (forth x) (filter-has (in_key_order fs) x m))
      (λ x m. moved gs fs x (back x) (filter-has (in_key_order gs) x m))
    where
      moved : (us vs : List Found) (x : Found) → (keep x ≡ true → Member x us → Member x vs) → Member x (in_key_order us) × (keep x ≡ true)
          → Member x (filter keep (in_key_order vs))
      moved us vs x h (m, kept) = filter-keeps (in_key_order vs) x kept (in_key_order-keeps vs x (h kept (in_key_order-has us x m)))

-- ---- a first one

put_first : (f : Found) (gs : List Found) → Each (IsAbove f) gs → inserted f gs ≡ f ∷ gs
put_first f [] above = refl
put_first f (g ∷ gs) (above, rest) = by (key_lt (found_key f) (found_key g)) above
  where
    by : (b : Bool) → b ≡ true → (if b then f ∷ (g ∷ gs) else g ∷ inserted f gs) ≡ f ∷ (g ∷ gs)
    by true p = refl
    by false p = absurd (cc)

-- what is below all others comes first
pub in_key_order-first : (f : Found) (fs : List Found) → ((g : Found) → Member g fs → IsAbove f g) → in_key_order (f ∷ fs) ≡ f ∷ in_key_order fs
unfolding in_key_order
in_key_order-first f fs above =
    put_first f (in_key_order fs) (Each-from_members (IsAbove f) (in_key_order fs) (λ g m. above g (in_key_order-has fs g m)))
