-- How coverage is kept goes on from a command to the next.
use Rattle.std.proofs.Common.{◌≡◌, ◌<◌, ℕ, zero, suc, Bool, true, false, ◌||◌, ◌&&◌, if◌then◌else◌, List, [], ◌∷◌, ◌++◌, Option, Some, None, All, get_or, length, map, nat_eq, take, ◌+◌, refl, sym, ◌∙◌, ap, subst, arith}
use Rattle.std.specs.Prelude.{◌==◌}
use Rattle.std.specs.BTreeMap.{is_at}
use Rattle.std.specs.List.{list_any}
use Rattle.std.specs.Option.{option_to_list}
use Rattle.std.specs.Ordering.{nat_cmp}
use Rattle.std.proofs.lemmas.Bool.Decides.{nat_tests}
use Rattle.std.proofs.lemmas.Grind.{flat_map-append}
use Rattle.std.proofs.lemmas.List.{append-nil, map-append, take_more}
use Rattle.std.proofs.lemmas.List.Elements.{All-push}
use Rattle.ray_chains.specs.declared.access_type.AccessType.{AccessType}
use Rattle.ray_chains.specs.declared.kept.Override.{Override}
use Rattle.ray_chains.specs.declared.masks.MemoryBarrier.{MemoryBarrier}
use Rattle.ray_chains.specs.declared.stage.Stage.{Stage}
use Rattle.ray_chains.specs.Keeping.{IsAll, IsKept, hands_to}
use Rattle.ray_chains.specs.QueueLaws.{source_of}
use Rattle.ray_chains.specs.Queues.{Barrier, Scopes, Source, acts_on_all, everywhere, takes}
use Rattle.ray_chains.specs.Tables.{scopes_of}
use Rattle.ray_chains.proofs.Keeping.{chains-stay, kept-stays, tables-stay}
use Rattle.ray_ranges.proofs.Ordered.{at_key}
use Rattle.ray_rules.specs.Makers.{is_one, maker_of_buffer}
use Rattle.ray_rules.specs.Order.{reaches}
use Rattle.ray_rules.specs.Status.{Status}
use Rattle.ray_hazards.specs.declared.carried.Carried.{Carried}
use Rattle.ray_hazards.specs.declared.carried.Limited.{Limited}
use Rattle.ray_hazards.specs.declared.coverage.Coverage.{Coverage}
use Rattle.ray_hazards.specs.Carrying.{Acting, AreActs, AreCarried, AreLimited, AreNamed, IsCarried, kept_at, kept_of, makers_of, put_all, takes_directly}

-- what is kept of a thing
pub kept-thing :
    (a : Acting) (source : Source) (queue n : ℕ) (z : Carried) (thing : Option ℕ) → AreActs a
    → IsCarried a source queue n z → IsKept (a.acts thing) a.events source queue n (kept_at z thing)
kept-thing a source queue n z None are is = λ m scopes buffers l e. are.structures m
kept-thing a source queue n z (Some made) are is = is.kept made

-- at an event that acts on everything it stays
pub kept-still :
    (a : Acting) (source : Source) (queue n made : ℕ) (kept : Option Override) → AreActs a
    → acts_on_all (a.events n) ≡ true
    → IsKept (a.acts (Some made)) a.events source queue n kept
    → IsKept (a.acts (Some made)) a.events source queue (suc n) kept
kept-still a source queue n made kept are all is =
    kept-stays (a.acts (Some made)) a.events source queue n kept
    (λ scopes buffers e. are.over (Some made) n all ∙ sym all) is

-- a queue is itself
same-queue : (queue : ℕ) → (queue == queue) ≡ true
same-queue queue = grind (arith, nat_tests)

-- what a barrier takes up directly of its own queue
pub takes-own :
    (queue : ℕ) (barrier : MemoryBarrier) (stage : Stage) (access : AccessType)
    → takes_directly barrier stage access ≡ takes (source_of queue stage (Some access)) queue (scopes_of barrier)
takes-own queue barrier stage access = λ i. sym (same-queue queue) i && takes_directly barrier stage access

no-two : (b : Bool) → b ≡ true → b ≡ false → ⊥
no-two true t f = absurd cc
no-two false t f = absurd cc

-- an event that hands nothing to a queue changes nothing
pub carried-still :
    (a : Acting) (source : Source) (queue n : ℕ) (z : Carried) → hands_to queue (a.events n) ≡ false
    → IsCarried a source queue n z → IsCarried a source queue (suc n) z
carried-still a source queue n z nothing is = record {
  all =
      tables-stay (everywhere a.events) a.events source queue n z.all
      (λ h. absurd (no-two (hands_to queue (a.events n)) h nothing)) is.all;
  kept = λ made.
      kept-stays (a.acts (Some made)) a.events source queue n (kept_of z made)
      (λ scopes buffers e.
      absurd (no-two (hands_to queue (a.events n)) (ap (hands_to queue) e ∙ same-queue queue) nothing)) (is.kept made);
}

pub coverage-still :
    (a : Acting) (queue n : ℕ) (z : Coverage) → hands_to queue (a.events n) ≡ false → AreCarried a queue n z
    → AreCarried a queue (suc n) z
coverage-still a queue n z nothing is = record {
  chains =
      chains-stay a.events queue n z.chains (λ h. absurd (no-two (hands_to queue (a.events n)) h nothing)) is.chains;
  transfers = carried-still a _ queue n z.transfers nothing is.transfers;
  builds = carried-still a _ queue n z.builds nothing is.builds;
  properties = carried-still a _ queue n z.properties nothing is.properties;
  copies = carried-still a _ queue n z.copies nothing is.copies;
  serialized = carried-still a _ queue n z.serialized nothing is.serialized;
  traces = carried-still a _ queue n z.traces nothing is.traces;
}

-- a buffer that a barrier names, and one that it doesn't
at-one : (a b : ℕ) → is_at (nat_cmp a) b ≡ true → a ≡ b
at-one a b e = let same : nat_eq b a ≡ true = sym (at_key a b) ∙ e in grind (arith, nat_tests)

-- what is put in its place for each buffer, and what was there
put-kept :
    (P : ℕ → Option Override → Type 0) (limits : List Limited) (kept : ℕ → Option Override) (made : ℕ)
    → All (λ (l : Limited). P l.made (Some l.over)) limits
    → (list_any (λ (l : Limited). is_at (nat_cmp l.made) made) limits ≡ false → P made (kept made))
    → P made (put_all limits kept made)
put-kept P [] kept made each old = old refl
put-kept P (l ∷ limits) kept made each old =
    put-kept P limits (λ m. if is_at (nat_cmp l.made) m then Some l.over else kept m) made
    (λ k d below. each (suc k) d (omega (arith, below)))
    (λ none. choose (is_at (nat_cmp l.made) made) refl none)
  where
    choose :
        (b : Bool) → is_at (nat_cmp l.made) made ≡ b
        → list_any (λ (x : Limited). is_at (nat_cmp x.made) made) limits ≡ false
        → P made (if is_at (nat_cmp l.made) made then Some l.over else kept made)
    choose true e none =
        subst (λ c. P made (if c then Some l.over else kept made)) (sym e)
        (subst (λ m. P m (Some l.over)) (at-one l.made made e) (each 0 l (omega arith)))
    choose false e none =
        subst (λ c. P made (if c then Some l.over else kept made)) (sym e) (old (λ i. e i || none i))

-- whether the makers of what is put have a number
any-made :
    (made : ℕ) (limits : List Limited)
    → list_any (λ m. is_at (nat_cmp m) made) (map (λ (l : Limited). l.made) limits)
    ≡ list_any (λ (l : Limited). is_at (nat_cmp l.made) made) limits
any-made made [] = refl
any-made made (l ∷ limits) = λ i. is_at (nat_cmp l.made) made || any-made made limits i

-- after a barrier that is limited
pub carried-limited :
    (a : Acting) (source : Source) (queue n : ℕ) (old new : Carried) (limits : List Limited) (makers ids : List ℕ)
    (scopes : Scopes) → a.events n ≡ Barrier queue scopes (Some ids) → AreNamed a n makers
    → map (λ (l : Limited). l.made) limits ≡ makers → AreLimited a source queue (suc n) limits → new.all ≡ old.all
    → ((made : ℕ) → kept_of new made ≡ put_all limits (kept_of old) made) → IsCarried a source queue n old
    → IsCarried a source queue (suc n) new
carried-limited a source queue n old new limits makers ids scopes event named same limited all put is = record {
  all =
      subst (IsAll a.events source queue (suc n)) (sym all)
      (tables-stay (everywhere a.events) a.events source queue n old.all (λ h. ap acts_on_all event) is.all);
  kept = λ made.
      subst (IsKept (a.acts (Some made)) a.events source queue (suc n)) (sym (put made))
      (put-kept (λ m o. IsKept (a.acts (Some m)) a.events source queue (suc n) o) limits (kept_of old) made limited
      (λ none. unnamed made (ap (list_any (λ m. is_at (nat_cmp m) made)) (sym same) ∙ (any-made made limits ∙ none))));
}
  where
    quiet : (b : Bool) → (b ≡ true → false ≡ true) → b ≡ false
    quiet true h = absurd (no (h refl))
      where
        no : false ≡ true → ⊥
        no e = absurd cc
    quiet false h = refl

    unnamed :
        (made : ℕ) → list_any (λ m. is_at (nat_cmp m) made) makers ≡ false
        → IsKept (a.acts (Some made)) a.events source queue (suc n) (kept_of old made)
    unnamed made none =
        kept-stays (a.acts (Some made)) a.events source queue n (kept_of old made)
        (λ s buffers e. quiet (a.acts (Some made) n) (λ t. sym none ∙ named.only made t) ∙ sym (ap acts_on_all event))
        (is.kept made)

-- the makers of what a barrier names
one-some : (o : Option ℕ) (made : ℕ) → is_one o (Some made) ≡ list_any (λ m. is_at (nat_cmp m) made) (option_to_list o)
one-some None made = refl
one-some (Some m) made = let e = at_key m made in grind (arith, nat_tests)

any-parts :
    (test : ℕ → Bool) (a b : List ℕ) → list_any test (a ++ b) ≡ (list_any test a || list_any test b)
any-parts test [] b = refl
any-parts test (x ∷ a) b =
    (λ i. test x || any-parts test a b i) ∙ assoc (test x) (list_any test a) (list_any test b)
  where
    assoc : (p q r : Bool) → (p || (q || r)) ≡ ((p || q) || r)
    assoc true q r = refl
    assoc false q r = refl

pub makers-are :
    (z : Status) (ids : List ℕ) (made : ℕ)
    → reaches z (Some ids) (Some made) ≡ list_any (λ m. is_at (nat_cmp m) made) (makers_of z ids)
makers-are z [] made = refl
makers-are z (id ∷ ids) made =
    (λ i. one-some (maker_of_buffer z id) made i || makers-are z ids made i)
    ∙ sym (any-parts (λ m. is_at (nat_cmp m) made) (option_to_list (maker_of_buffer z id)) (makers_of z ids))

-- each is one of them
at-itself : (m : ℕ) → is_at (nat_cmp m) m ≡ true
at-itself m = let e = at_key m m in grind (arith, nat_tests)

member-any :
    (xs : List ℕ) (k d : ℕ) → k < length xs → list_any (λ m. is_at (nat_cmp m) (get_or xs k d)) xs ≡ true
member-any [] k d below = absurd (omega (arith, below))
member-any (x ∷ xs) zero d below = first (is_at (nat_cmp x) x) (list_any (λ m. is_at (nat_cmp m) x) xs) (at-itself x)
  where
    first : (a b : Bool) → a ≡ true → (a || b) ≡ true
    first true b e = refl
    first false b e = absurd cc
member-any (x ∷ xs) (suc k) d below =
    later (is_at (nat_cmp x) (get_or xs k d)) (list_any (λ m. is_at (nat_cmp m) (get_or xs k d)) xs)
    (member-any xs k d (omega (arith, below)))
  where
    later : (a b : Bool) → b ≡ true → (a || b) ≡ true
    later true b e = refl
    later false b e = e

-- the makers of what a barrier names are those on which it acts
pub makers-named :
    (a : Acting) (n : ℕ) (z : Status) (ids makers : List ℕ)
    → ((thing : Option ℕ) → a.acts thing n ≡ reaches z (Some ids) thing) → makers ≡ makers_of z ids
    → AreNamed a n makers
makers-named a n z ids makers acts same =
    subst (AreNamed a n) (sym same) (record {
      each = λ k d below.
          acts (Some (get_or (makers_of z ids) k d))
          ∙ (makers-are z ids (get_or (makers_of z ids) k d) ∙ member-any (makers_of z ids) k d below);
      only = λ made t. sym (makers-are z ids made) ∙ (sym (acts (Some made)) ∙ t);
    })

-- one buffer more
abbrev pub made_of : Limited → ℕ
made_of l = l.made

pub limits-made :
    (limits new : List Limited) (l : Limited) (makers : List ℕ) (k d : ℕ) → k < length makers
    → l.made ≡ get_or makers k d → new ≡ limits ++ l ∷ [] → map made_of limits ≡ take k makers
    → map made_of new ≡ take (k + 1) makers
limits-made limits new l makers k d below same e made =
    ap (map made_of) e
    ∙ (map-append made_of limits (l ∷ [])
    ∙ ((λ i. made i ++ same i ∷ []) ∙ sym (take_more makers k d below)))

pub limits-more :
    (a : Acting) (source : Source) (queue n : ℕ) (limits new : List Limited) (l : Limited) → new ≡ limits ++ l ∷ []
    → AreLimited a source queue n limits
    → IsKept (a.acts (Some l.made)) a.events source queue n (Some l.over) → AreLimited a source queue n new
limits-more a source queue n limits new l e are is =
    subst (AreLimited a source queue n) (sym e)
    (All-push (λ (x : Limited). IsKept (a.acts (Some x.made)) a.events source queue n (Some x.over)) limits l are is)

pub put-more :
    (limits : List Limited) (l : Limited) (kept : ℕ → Option Override) (made : ℕ)
    → put_all (limits ++ l ∷ []) kept made
    ≡ (if is_at (nat_cmp l.made) made then Some l.over else put_all limits kept made)
put-more [] l kept made = refl
put-more (x ∷ limits) l kept made =
    put-more limits l (λ m. if is_at (nat_cmp x.made) m then Some x.over else kept m) made

pub put-next :
    (limits : List Limited) (k : ℕ) (d : Limited) (kept : ℕ → Option Override) (made : ℕ) (now new : Option Override)
    → new ≡ (if is_at (nat_cmp (get_or limits k d).made) made then Some (get_or limits k d).over else now)
    → k < length limits → now ≡ put_all (take k limits) kept made → new ≡ put_all (take (k + 1) limits) kept made
put-next limits k d kept made now new e below put =
    let l : Limited = get_or limits k d in
    e
    ∙ ((λ i. if is_at (nat_cmp l.made) made then Some l.over else put i)
    ∙ (sym (put-more (take k limits) l kept made) ∙ (λ i. put_all (sym (take_more limits k d below) i) kept made)))

pub makers-more :
    (z : Status) (ids : List ℕ) (k d : ℕ) (o : Option ℕ) → k < length ids → maker_of_buffer z (get_or ids k d) ≡ o
    → makers_of z (take (k + 1) ids) ≡ makers_of z (take k ids) ++ option_to_list o
makers-more z ids k d o below e =
    ap (makers_of z) (take_more ids k d below)
    ∙ (flat_map-append (λ id. option_to_list (maker_of_buffer z id)) (take k ids) (get_or ids k d ∷ [])
    ∙ (ap (λ ms. makers_of z (take k ids) ++ ms)
    (append-nil (option_to_list (maker_of_buffer z (get_or ids k d))) ∙ ap option_to_list e)))

-- what is none of all is none
pub not-some : (o : Option ℕ) → ((made : ℕ) → o ≡ Some made → ⊥) → o ≡ None
not-some None h = refl
not-some (Some made) h = absurd (h made refl)
