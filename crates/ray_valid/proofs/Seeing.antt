-- What is kept of infos answers whether one more conflicts with them.
use Rattle.std.proofs.Common.{◌≡◌, ◌+◌, ◌++◌, ◌||◌, ℕ, Bool, true, false, List, [], ◌∷◌, Option, Some, None, refl, sym, ◌∙◌, ap, ◌<◌, length, take, drop, get_or, add-one, suc}
use Rattle.std.specs.Prelude.{◌==◌, if◌then◌else◌}
use Rattle.std.proofs.lemmas.List.{take_more}
use Rattle.std.proofs.Math.Seq.{drop-cons}
use Rattle.std.specs.List.{list_any, AllByRecursion}
use Rattle.std.specs.BTreeSet.{insert_key}
use Rattle.std.specs.Option.{option_map_or}
use Rattle.std.specs.Ordering.{nat_cmp, MatchOrdering, match_ordering}
use Rattle.std.specs.declared.cmp.Ordering.{Ordering}
use Rattle.std.specs.declared.cmp.Ordering.TheVariants.{Less, Equal, Greater}
use Rattle.std.proofs.lemmas.Cmp.{ranked}
use Rattle.std.proofs.lemmas.List.Folds.{list_any_more}
use Rattle.std.proofs.lemmas.Bool.{eq-eqb, eqb-true}
use Rattle.ray_cmd.specs.declared.info.Info.{Info}
use Rattle.ray_ranges.proofs.Lines.{any-map, meets-overlaps, overlaps-meets}
use Rattle.ray_ranges.proofs.Shared.{same_Bool}
use Rattle.ray_ranges.specs.Apart.{HaveTheSame}
use Rattle.ray_ranges.specs.declared.range.Range.{Range}
use Rattle.ray_ranges.specs.Meeting as line
use Rattle.ray_rules.specs.Conflicts.{conflict, first_conflict, is_source, reads_structure}
use Rattle.ray_rules.specs.Ranges.{meets, place_of, scratch_range}
use Rattle.ray_valid.specs.Parts.{Fits, HasAdded, HasSeen, has_id, is_met, reads_any, reads_by, scratch_addresses}

mixed : (a b c d : Bool) → ((a || b) || (c || d)) ≡ ((a || c) || (b || d))
mixed true b c d = refl
mixed false true true d = refl
mixed false true false d = refl
mixed false false c d = refl

-- a test of two parts
any-or : {X : Type 0} (f g : X → Bool) (xs : List X) → list_any (λ x. f x || g x) xs ≡ (list_any f xs || list_any g xs)
any-or f g [] = refl
any-or f g (x ∷ xs) = ap (λ b. (f x || g x) || b) (any-or f g xs) ∙ mixed (f x) (g x) (list_any f xs) (list_any g xs)

-- a test that nothing passes
any-none : {X : Type 0} (xs : List X) → list_any (λ x. false) xs ≡ false
any-none [] = refl
any-none (x ∷ xs) = any-none xs

-- a test of pairs, from either side
any-swap : {X Y : Type 0} (f : X → Y → Bool) (xs : List X) (ys : List Y)
    → list_any (λ x. list_any (f x) ys) xs ≡ list_any (λ y. list_any (λ x. f x y) xs) ys
any-swap f [] ys = sym (any-none ys)
any-swap f (x ∷ xs) ys =
    ap (λ b. list_any (f x) ys || b) (any-swap f xs ys) ∙ sym (any-or (f x) (λ y. list_any (λ z. f z y) xs) ys)

-- tests that agree
pub any-same : {X : Type 0} (f g : X → Bool) (xs : List X) → ((x : X) → f x ≡ g x) → list_any f xs ≡ list_any g xs
any-same f g [] same = refl
any-same f g (x ∷ xs) same = ap (λ b. b || list_any f xs) (same x) ∙ ap (λ b. g x || b) (any-same f g xs same)

twice : (a b : Bool) → (a || b) ≡ (a || (a || b))
twice true b = refl
twice false b = refl

shifted : (a b c : Bool) → (a || (b || c)) ≡ ((b || a) || c)
shifted true true c = refl
shifted true false c = refl
shifted false true c = refl
shifted false false c = refl

turned : (a b c : Bool) → (a || (b || c)) ≡ (b || (a || c))
turned true true c = refl
turned true false c = refl
turned false b c = refl

-- one more at the end
any-last : {X : Type 0} (f : X → Bool) (xs : List X) (x : X) → list_any f (xs ++ x ∷ []) ≡ (f x || list_any f xs)
any-last f [] x = refl
any-last f (y ∷ ys) x = ap (λ b. f y || b) (any-last f ys x) ∙ turned (f y) (f x) (list_any f ys)

all-last : {X : Type 0} (P : X → Type 0) (xs : List X) (x : X) → AllByRecursion P xs → P x → AllByRecursion P (xs ++ x ∷ [])
all-last P [] x all here = (here, tt)
all-last P (y ∷ ys) x all here = (all.0, all-last P ys x all.1 here)

eq-back : (a b : ℕ) → (a == b) ≡ (b == a)
eq-back a b =
    same_Bool (a == b) (b == a) (λ h. eq-eqb b a (sym (eqb-true a b h))) (λ h. eq-eqb a b (sym (eqb-true b a h)))

-- the scratch memory of an info meets that of others where their addresses meet
any-addresses : (info : Info) (infos : List Info) → Fits info → AllByRecursion Fits infos
    → list_any (λ o. line.meets (scratch_addresses info) (scratch_addresses o)) infos
    ≡ list_any (λ o. meets (scratch_range info) (scratch_range o)) infos
any-addresses info [] fits all = refl
any-addresses info (o ∷ os) fits all =
    ap (λ b. b || list_any (λ x. line.meets (scratch_addresses info) (scratch_addresses x)) os)
    (same_Bool (line.meets (scratch_addresses info) (scratch_addresses o)) (meets (scratch_range info) (scratch_range o))
    (meets-overlaps (place_of (scratch_range info)) (place_of (scratch_range o)) fits all.0)
    (overlaps-meets (place_of (scratch_range info)) (place_of (scratch_range o)) fits all.0))
    ∙ ap (λ b. meets (scratch_range info) (scratch_range o) || b) (any-addresses info os fits all.1)

-- an id that is written
id-seen : (infos : List Info) (written : List ℕ)
    → ((test : ℕ → Bool) → list_any test written ≡ list_any (λ (o : Info). test o.dst) infos)
    → (id : ℕ) → has_id written id ≡ list_any (λ (o : Info). id == o.dst) infos
id-seen infos written seen id =
    seen (λ u. u == id) ∙ any-same (λ (o : Info). o.dst == id) (λ (o : Info). id == o.dst) infos (λ o. eq-back o.dst id)

source-seen : (infos : List Info) (written : List ℕ)
    → ((id : ℕ) → has_id written id ≡ list_any (λ (o : Info). id == o.dst) infos)
    → (src : Option ℕ) → option_map_or (has_id written) src false ≡ list_any (λ (o : Info). is_source src o.dst) infos
source-seen infos written seen None = sym (any-none infos)
source-seen infos written seen (Some id) = seen id

-- an info reads what is written
reads-seen : (infos : List Info) (written : List ℕ) (info : Info)
    → ((id : ℕ) → has_id written id ≡ list_any (λ (o : Info). id == o.dst) infos)
    → reads_any written info ≡ list_any (λ (o : Info). reads_structure info o.dst) infos
reads-seen infos written info seen =
    ap (λ b. b || list_any (has_id written) info.uses) (source-seen infos written seen info.src)
    ∙ (ap (λ b. list_any (λ (o : Info). is_source info.src o.dst) infos || b)
    (any-same (has_id written) (λ u. list_any (λ (o : Info). u == o.dst) infos) info.uses seen
    ∙ sym (any-swap (λ (o : Info) u. u == o.dst) infos info.uses))
    ∙ sym (any-or (λ (o : Info). is_source info.src o.dst) (λ (o : Info). list_any (λ u. u == o.dst) info.uses) infos))

-- what is kept of infos answers whether one more conflicts with them
pub met-seen : (infos : List Info) (written read : List ℕ) (scratch : List Range) (info : Info)
    → HasSeen infos written read scratch → Fits info
    → is_met written read scratch info ≡ list_any (conflict info) infos
met-seen infos written read scratch info seen fits =
    let id = id-seen infos written seen.writes in
    let dst = λ (o : Info). info.dst == o.dst in
    let reads = λ (o : Info). reads_structure info o.dst in
    let read_by = λ (o : Info). reads_structure o info.dst in
    let shares = λ (o : Info). meets (scratch_range info) (scratch_range o) in
    ap (λ b. b || (reads_any written info || (has_id read info.dst || line.meets_any scratch (scratch_addresses info))))
    (id info.dst)
    ∙ (ap (λ b. list_any dst infos || (b || (has_id read info.dst || line.meets_any scratch (scratch_addresses info))))
    (reads-seen infos written info id)
    ∙ (ap (λ b. list_any dst infos || (list_any reads infos || (b || line.meets_any scratch (scratch_addresses info))))
    (seen.reads (λ u. u == info.dst))
    ∙ (ap (λ b. list_any dst infos || (list_any reads infos || (list_any read_by infos || b)))
    (seen.takes (line.meets (scratch_addresses info))
    ∙ (any-map scratch_addresses (line.meets (scratch_addresses info)) infos ∙ any-addresses info infos fits seen.fits))
    ∙ (ap (λ b. list_any dst infos || (list_any reads infos || b)) (sym (any-or read_by shares infos))
    ∙ (ap (λ b. list_any dst infos || b) (sym (any-or reads (λ o. read_by o || shares o) infos))
    ∙ sym (any-or dst (λ o. reads o || (read_by o || shares o)) infos))))))

-- nothing is seen of no infos
pub seen-none : (written read : List ℕ) (scratch : List Range) → written ≡ [] → read ≡ [] → scratch ≡ []
    → HasSeen [] written read scratch
seen-none written read scratch w r s = record {
  writes = λ test. ap (list_any test) w;
  reads = λ test. ap (list_any test) r;
  takes = λ test. ap (list_any test) s;
  fits = tt;
}

-- one more info is seen
pub seen-more : (infos : List Info) (written read : List ℕ) (scratch : List Range) (info : Info)
    (written2 read2 : List ℕ) (scratch2 : List Range)
    → HasSeen infos written read scratch → Fits info
    → HasAdded (λ test. test info.dst) written written2 → HasAdded (λ test. reads_by test info) read read2
    → HaveTheSame scratch2 (scratch_addresses info ∷ scratch)
    → HasSeen (infos ++ info ∷ []) written2 read2 scratch2
seen-more infos written read scratch info written2 read2 scratch2 seen fits w r s = record {
  writes = λ test.
      w test ∙ (ap (λ b. test info.dst || b) (seen.writes test) ∙ sym (any-last (λ (o : Info). test o.dst) infos info));
  reads = λ test.
      r test ∙ (ap (λ b. reads_by test info || b) (seen.reads test) ∙ sym (any-last (reads_by test) infos info));
  takes = λ test.
      s test
      ∙ (ap (λ b. test (scratch_addresses info) || b) (seen.takes test ∙ any-map scratch_addresses test infos)
      ∙ (sym (any-last (λ o. test (scratch_addresses o)) infos info)
      ∙ sym (any-map scratch_addresses test (infos ++ info ∷ []))));
  fits = all-last Fits infos info seen.fits fits;
}

-- one more id in a set, by how it stands to the first
any_by : (test : ℕ → Bool) (order : Ordering) (x k : ℕ) (xs : List ℕ)
    → MatchOrdering order (k < x) (k ≡ x) (x < k)
    → list_any test (insert_key nat_cmp xs k) ≡ (test k || list_any test xs)
    → list_any test (match_ordering order (k ∷ x ∷ xs) (x ∷ xs) (x ∷ insert_key nat_cmp xs k))
    ≡ (test k || (test x || list_any test xs))
any_by test Less x k xs l next = refl
any_by test Equal x k xs same next = twice (test x) (list_any test xs) ∙ ap (λ y. test y || (test x || list_any test xs)) (sym same)
any_by test Greater x k xs g next = ap (λ b. test x || b) next ∙ turned (test x) (test k) (list_any test xs)

pub any-insert_key : (test : ℕ → Bool) (xs : List ℕ) (k : ℕ)
    → list_any test (insert_key nat_cmp xs k) ≡ (test k || list_any test xs)
any-insert_key test [] k = refl
any-insert_key test (x ∷ xs) k =
    any_by test (nat_cmp k x) x k xs (ranked k x (nat_cmp k x) refl) (any-insert_key test xs k)

-- one more of the ids that are put into a set
pub added-more : (test : ℕ → Bool) (uses : List ℕ) (i d : ℕ) (new now old : List ℕ) → i < length uses
    → list_any test new ≡ (test (get_or uses i d) || list_any test now)
    → list_any test now ≡ (list_any test (take i uses) || list_any test old)
    → list_any test new ≡ (list_any test (take (i + 1) uses) || list_any test old)
added-more test uses i d new now old within here before =
    here ∙ (ap (λ b. test (get_or uses i d) || b) before
    ∙ (shifted (test (get_or uses i d)) (list_any test (take i uses)) (list_any test old)
    ∙ ap (λ b. b || list_any test old) (sym (list_any_more test uses i d within))))

-- what is left begins with the info
next-info : (infos : List Info) (k : ℕ) (info : Info) → k < length infos → info ≡ get_or infos k info
    → drop k infos ≡ info ∷ drop (k + 1) infos
next-info infos k info within here =
    rw (drop-cons infos k info within, add-one) (ap (λ y. y ∷ drop (suc k) infos) (sym here))

-- an info that conflicts with one before it is the first
pub met-first : (infos : List Info) (k : ℕ) (info : Info) (written read : List ℕ) (scratch : List Range)
    → k < length infos → info ≡ get_or infos k info → HasSeen (take k infos) written read scratch → Fits info
    → is_met written read scratch info ≡ true
    → first_conflict (take k infos) k (drop k infos) ≡ Some k
met-first infos k info written read scratch within here seen fits met =
    ap (first_conflict (take k infos) k) (next-info infos k info within here)
    ∙ ap (λ b. if b then Some k else first_conflict (take k infos ++ info ∷ []) (k + 1) (drop (k + 1) infos))
    (sym (met-seen (take k infos) written read scratch info seen fits) ∙ met)

-- those so far, and one more
pub one-more : (infos : List Info) (k : ℕ) (info : Info) → k < length infos → info ≡ get_or infos k info
    → take (k + 1) infos ≡ take k infos ++ info ∷ []
one-more infos k info within here =
    take_more infos k info within ∙ ap (λ x. take k infos ++ x ∷ []) (sym here)

-- an info that conflicts with none before it leaves it to those after it
pub met-later : (infos : List Info) (k : ℕ) (info : Info) (written read : List ℕ) (scratch : List Range)
    → k < length infos → info ≡ get_or infos k info → HasSeen (take k infos) written read scratch → Fits info
    → is_met written read scratch info ≡ false
    → first_conflict (take k infos) k (drop k infos) ≡ first_conflict (take (k + 1) infos) (k + 1) (drop (k + 1) infos)
met-later infos k info written read scratch within here seen fits free =
    ap (first_conflict (take k infos) k) (next-info infos k info within here)
    ∙ (ap (λ b. if b then Some k else first_conflict (take k infos ++ info ∷ []) (k + 1) (drop (k + 1) infos))
    (sym (met-seen (take k infos) written read scratch info seen fits) ∙ free)
    ∙ ap (λ xs. first_conflict xs (k + 1) (drop (k + 1) infos)) (sym (one-more infos k info within here)))
