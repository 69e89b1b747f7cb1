-- The steps of the loop that restores geometries.
use Rattle.std.proofs.Common.{ℕ, suc, ◌≡◌, ◌<◌, ◌+◌, ◌-◌, ◌++◌, ◌==◌, true, List, [], ◌∷◌, length, Option, Some, None, option_map, refl, sym, ap, subst, ◌∙◌, arith, append_assoc, append-nil, length-append}
use Rattle.std.specs.Prelude.{All, IsSome}
use Rattle.std.proofs.lemmas.List.Sums.{sum_by-append, sum_by-cons}
use Rattle.ray_bytes.specs.Fields.{word_at}
use Rattle.ray_flags.specs.declared.kind.Kind.{Kind}
use Rattle.ray_geometries.specs.declared.geometry.Geometry.{Geometry}
use Rattle.ray_bottom.specs.Builders.{BuilderValue, builder_with}
use Rattle.ray_geometries.specs.Contents.{HasRoom, kind_of, count_of, total_of}
use Rattle.ray_geometries.proofs.Restoring.{AreStored-shapes}
use Rattle.std.proofs.lemmas.List.Elements.{All-cons, All-tail}
use Rattle.ray_form.specs.Heads.{kind_named, format_named, index_size_named, count_in, is_whole, elements_in, shapes_in, geometry_of, geometry_in}
use Rattle.ray_form.specs.Rows.{after_first, with_first, geometries_in}
use Rattle.ray_serial.specs.Meaning.{with_flags, CanRestore}
use Rattle.ray_primitives.proofs.Chosen.{if_some}
use Rattle.ray_geometries.proofs.Restoring.{mapped}

-- what is there, and what follows
abbrev pub append_to : List Geometry → List Geometry → List Geometry
append_to done left = done ++ left

-- after some geometries: the builder has them, and those that are left are the others
pub record IsRestoring (start now : BuilderValue) (left all : Option (List Geometry)) : Type 0 where
  pub anew : now.replaced ≡ None
  pub flags_is : now.contents.flags ≡ start.contents.flags
  pub same : option_map (append_to now.contents.geometries) left ≡ all

pub begins : (start : BuilderValue) (o : Option (List Geometry)) → start.replaced ≡ None → start.contents.geometries ≡ [] → IsRestoring start start o o
begins start o anew none = record { anew = anew; flags_is = refl; same = ap (λ gs. option_map (append_to gs) o) none ∙ as_it_is o }
  where
    as_it_is : (o : Option (List Geometry)) → option_map (append_to []) o ≡ o
    as_it_is None = refl
    as_it_is (Some gs) = refl

-- ---- the next geometry

fewer : (i n : ℕ) → i < n → n - i ≡ suc (n - (i + 1))
fewer i n below = omega arith

record IsNext (done : List Geometry) (first : Option Geometry) (others : Option (List Geometry)) (all : List Geometry) : Type 0 where
  head : Geometry
  tail : List Geometry
  first_is : first ≡ Some head
  others_are : others ≡ Some tail
  all_are : done ++ (head ∷ tail) ≡ all

taken : (done : List Geometry) (first : Option Geometry) (others : Option (List Geometry)) (all : List Geometry) →
    option_map (append_to done) (with_first first others) ≡ Some all → IsNext done first others all
taken done (Some g) (Some gs) all e =
    let same : done ++ (g ∷ gs) ≡ all = cc in record { head = g; tail = gs; first_is = refl; others_are = refl; all_are = same }
taken done (Some g) None all e = absurd cc
taken done None others all e = absurd cc

next : (i n : ℕ) (rest row : List ℕ) (start now : BuilderValue) → i < n → IsRestoring start now (geometries_in (n - i) rest) (geometries_in n row) →
    (can : CanRestore n row) → IsNext now.contents.geometries (geometry_in rest) (geometries_in (n - (i + 1)) (after_first rest)) can.all
next i n rest row start now below h can =
    taken now.contents.geometries (geometry_in rest) (geometries_in (n - (i + 1)) (after_first rest)) can.all
    (ap (λ m. option_map (append_to now.contents.geometries) (geometries_in m rest)) (sym (fewer i n below)) ∙ (h.same ∙ can.read))

-- ---- what is known of it

pub record IsSaid (rest : List ℕ) (g : Geometry) : Type 0 where
  pub whole : is_whole rest ≡ true
  pub kind_is : kind_of g ≡ kind_named (word_at rest 0)
  pub count_is : count_of g ≡ count_in rest

pub geometry_said : (rest : List ℕ) (g : Geometry) → geometry_in rest ≡ Some g → IsSaid rest g
unfolding geometry_in shapes_in
geometry_said rest g e =
    let h = if_some (is_whole rest) (option_map (geometry_of (word_at rest 4 == 1)) (shapes_in rest)) g e in
    let m = mapped (geometry_of (word_at rest 4 == 1)) (shapes_in rest) g h.1 in
    let are = AreStored-shapes (kind_named (word_at rest 0)) (format_named (word_at rest 8)) (index_size_named (word_at rest 12)) (count_in rest) (elements_in rest)
    m.value m.is_some in
    let P : Geometry → Type 0 = λ a. IsSaid rest a in
    subst P m.same (record { whole = h.0; kind_is = are.kind_is; count_is = are.count_is })

is_some_of : {X : Type 0} (o : Option X) (x : X) → o ≡ Some x → IsSome o
is_some_of (Some y) x e = refl
is_some_of None x e = absurd cc

pub sound_next : (i n : ℕ) (rest row : List ℕ) (start now : BuilderValue) → i < n → IsRestoring start now (geometries_in (n - i) rest) (geometries_in n row) →
    CanRestore n row → IsSome (geometry_in rest)
sound_next i n rest row start now below h can =
    let x = next i n rest row start now below h can in is_some_of (geometry_in rest) x.head x.first_is

front_kinds : (kind : Kind) (done others : List Geometry) → All (λ g. kind_of g ≡ kind) (done ++ others) → All (λ g. kind_of g ≡ kind) done
front_kinds kind [] others all = λ k d below. absurd (omega arith)
front_kinds kind (g ∷ gs) others all =
    let P : Geometry → Type 0 = λ h. kind_of h ≡ kind in
    All-cons P g gs (all 0 g (omega arith)) (front_kinds kind gs others (All-tail P g (gs ++ others) all))

kind_at : (kind : Kind) (done : List Geometry) (g : Geometry) (gs : List Geometry) → All (λ h. kind_of h ≡ kind) (done ++ (g ∷ gs)) → kind_of g ≡ kind
kind_at kind [] g gs all = all 0 g (omega arith)
kind_at kind (h ∷ hs) g gs all = kind_at kind hs g gs (λ k d below. all (suc k) d (omega arith))

pub room_next : (i n : ℕ) (rest row : List ℕ) (start now : BuilderValue) → i < n → IsRestoring start now (geometries_in (n - i) rest) (geometries_in n row) →
    CanRestore n row → HasRoom (kind_named (word_at rest 0)) (count_in rest) now.contents.geometries
room_next i n rest row start now below h can =
    let x = next i n rest row start now below h can in
    let said = geometry_said rest x.head x.first_is in
    let done = now.contents.geometries in
    let all = subst (λ gs. All (λ g. kind_of g ≡ can.kind) gs) (sym x.all_are) can.kinds in
    let long = ap length (sym x.all_are) ∙ length-append done (x.head ∷ x.tail) in
    let sum = ap total_of (sym x.all_are) ∙ (sum_by-append count_of done (x.head ∷ x.tail) ∙ ap (λ n. total_of done + n) (sum_by-cons count_of x.head x.tail)) in
    let count = said.count_is in
    let few = can.few in
    let primitives = can.primitives in
    let here : can.kind ≡ kind_named (word_at rest 0) = sym (kind_at can.kind done x.head x.tail all) ∙ said.kind_is in
    record {
      geometries_below = omega arith;
      primitives = omega arith;
      one_kind = subst (λ k. All (λ g. kind_of g ≡ k) done) here (front_kinds can.kind done (x.head ∷ x.tail) all);
    }

pub whole_next : (i n : ℕ) (rest row : List ℕ) (start now : BuilderValue) → i < n → IsRestoring start now (geometries_in (n - i) rest) (geometries_in n row) →
    CanRestore n row → is_whole rest ≡ true
whole_next i n rest row start now below h can =
    let x = next i n rest row start now below h can in (geometry_said rest x.head x.first_is).whole

-- ---- after it

some_builder : (a b : BuilderValue) → Some a ≡ Some b → a ≡ b
some_builder a b e = cc

pub goes_on : (i n : ℕ) (rest row : List ℕ) (start now then_ : BuilderValue) → i < n → IsRestoring start now (geometries_in (n - i) rest) (geometries_in n row) →
    CanRestore n row → option_map (builder_with now) (geometry_in rest) ≡ Some then_ →
    IsRestoring start then_ (geometries_in (n - (i + 1)) (after_first rest)) (geometries_in n row)
goes_on i n rest row start now then_ below h can e =
    let x = next i n rest row start now below h can in
    let built : builder_with now x.head ≡ then_ = some_builder (builder_with now x.head) then_ (sym (ap (option_map (builder_with now)) x.first_is) ∙ e) in
    let P : BuilderValue → Type 0 = λ b. IsRestoring start b (geometries_in (n - (i + 1)) (after_first rest)) (geometries_in n row) in
    subst P built
    (record {
      anew = h.anew;
      flags_is = h.flags_is;
      same = ap (option_map (append_to (now.contents.geometries ++ x.head ∷ []))) x.others_are
          ∙ (ap Some (append_assoc now.contents.geometries (x.head ∷ []) x.tail ∙ x.all_are) ∙ sym can.read);
    })

pub ends : (i n : ℕ) (rest row : List ℕ) (start now : BuilderValue) → i ≡ n → IsRestoring start now (geometries_in (n - i) rest) (geometries_in n row) →
    option_map (with_flags start.contents.flags) (geometries_in n row) ≡ Some now.contents
ends i n rest row start now done h =
    let none : 0 ≡ n - i = omega arith in
    let all : Some (now.contents.geometries ++ []) ≡ geometries_in n row =
    ap (λ m. option_map (append_to now.contents.geometries) (geometries_in m rest)) none ∙ h.same in
    let flags = sym h.flags_is in
    ap (option_map (with_flags start.contents.flags)) (sym all) ∙ (λ j. Some (with_flags (flags j) (append-nil now.contents.geometries j)))
