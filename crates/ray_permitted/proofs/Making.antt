-- What is live stays the same thing until it is destroyed.
use Rattle.std.proofs.Common.{◌≡◌, ◌<◌, ◌≤◌, ◌+◌, ℕ, zero, suc, false, List, [], ◌∷◌, Option, Some, None, ◌⊎◌, inl, inr, refl, sym, ◌∙◌, ap, subst, arith}
use Rattle.std.specs.Prelude.{◌==◌, ◌||◌, slice_get, option_map, is_some}
use Rattle.std.specs.BTreeMap.{is_at}
use Rattle.std.specs.Ordering.{nat_cmp}
use Rattle.std.proofs.lemmas.Bool.{cases_lt, cases_eq, cond-true, cond-false, eq-eqb, ne_eqb}
use Rattle.std.proofs.lemmas.Bool.Decides.{nat_tests}
use Rattle.ray_cmd.specs.declared.command.Command.{Command}
use Rattle.ray_cmd.specs.declared.command.Command.TheVariants as commands
use Rattle.ray_cmd.specs.declared.info.Info.{Info}
use Rattle.ray_cmd.specs.declared.thing.Thing.{Thing}
use Rattle.ray_cmd.specs.declared.thing.Thing.TheVariants as things
use Rattle.ray_rules.specs.declared.built.Built.{Built}
use Rattle.ray_rules.specs.declared.live_buffer.LiveBuffer.{LiveBuffer}
use Rattle.ray_rules.specs.declared.live_structure.LiveStructure.{LiveStructure}
use Rattle.ray_rules.specs.Hazards.{after_if, maker_of_buffer, maker_of_structure, status_at}
use Rattle.ray_rules.specs.Ids.{Ids, is_live, look, without_id}
use Rattle.ray_rules.specs.Names.{lacks_buffer, v1}
use Rattle.ray_rules.specs.Status.{Status, after, after_infos, built_at, built_by, copied_by, fill_in, structure_built, with_built}
use Rattle.ray_ready.proofs.Maps.{here, look_first, look_later, look_with, there}
use Rattle.ray_permitted.proofs.Truth.{no_first}
use Rattle.ray_permitted.proofs.Waits.{not_broken}

-- ---- one goes

at_key : (key other : ℕ) → is_at (nat_cmp key) other ≡ (other == key)
at_key key other = grind (arith, nat_tests)

-- another id keeps what stands under it
look_beside : {X : Type 0} (id : ℕ) (es : Ids X) (q : ℕ) → (q ≡ id → ⊥) → look (without_id id es) q ≡ look es q
look_beside id [] q differs = refl
look_beside id (e ∷ es) q differs =
    elim (cases_eq e.0 id) [
      | inl first ↦
          ap (λ names. look names q) (cond-true (is_at (nat_cmp id) e.0) es (e ∷ without_id id es) (at_key id e.0 ∙ eq-eqb e.0 id first))
          ∙ sym (look_later q e es (λ is. differs (sym is ∙ first)))
      | inr later ↦
          ap (λ names. look names q) (cond-false (is_at (nat_cmp id) e.0) es (e ∷ without_id id es) (at_key id e.0 ∙ ne_eqb e.0 id later))
          ∙ elim (cases_eq e.0 q) [
            | inl same ↦ look_first q e (without_id id es) same ∙ sym (look_first q e es same)
            | inr other ↦ look_later q e (without_id id es) other ∙ (look_beside id es q differs ∙ sym (look_later q e es other))
          ]
    ]

-- what is made anew stands under an id that was free
no_maker : {X : Type 0} (f : X → ℕ) (m : ℕ) (found : Option X) → is_some found ≡ false → option_map f found ≡ Some m → ⊥
no_maker f m None e h = absurd cc
no_maker f m (Some x) e h = absurd cc

free_differs : {X : Type 0} (names : Ids X) (id q : ℕ) (f : X → ℕ) (m : ℕ) → is_live names id ≡ false → option_map f (look names q) ≡ Some m → q ≡ id → ⊥
free_differs names id q f m free has same = no_maker f m (look names q) (ap (λ n. is_some (look names n)) same ∙ free) has

-- ---- buffers

buffers_filled : (d : ℕ) (b : Option Built) (z : Status) (found : Option LiveStructure) → (with_built d b z found).buffers ≡ z.buffers
buffers_filled d b z None = refl
buffers_filled d b z (Some s) = refl

buffers_built : (i k : ℕ) (infos : List Info) (z : Status) → (after_infos i k infos z).buffers ≡ z.buffers
buffers_built i k [] z = refl
buffers_built i k (info ∷ infos) z =
    buffers_built i (k + 1) infos (fill_in info.dst (built_by i k) z)
    ∙ buffers_filled info.dst (built_by i k) z (look z.structures info.dst)

-- the maker of a buffer is the same, or the buffer goes
abbrev KeepsMaker : (Status → ℕ → Option ℕ) → Thing → ℕ → Status → Command → Status → ℕ → Type 0
KeepsMaker maker thing id z c w m = (maker w id ≡ Some m) ⊎ (c ≡ commands.Destroy thing id)

buffer_same : (z w : Status) (id m : ℕ) → w.buffers ≡ z.buffers → maker_of_buffer z id ≡ Some m → maker_of_buffer w id ≡ Some m
buffer_same z w id m same has = ap (λ names. option_map (λ (b : LiveBuffer). b.made) (look names id)) same ∙ has

buffer_after : (k : ℕ) (c : Command) (z : Status) (id m : ℕ) → v1 z c ≡ None → maker_of_buffer z id ≡ Some m
    → KeepsMaker maker_of_buffer things.Buffer id z c (after k c z) m
unfolding after v1
buffer_after k (commands.Buffer new size usage content) z id m kept has =
    let b : LiveBuffer = record { made = k; size = size; usage = usage } in
    let differs = free_differs z.buffers new id (λ (x : LiveBuffer). x.made) m (not_broken (is_live z.buffers new) kept) has in
    inl (ap (option_map (λ (x : LiveBuffer). x.made)) (look_with new b z.buffers id ∙ there id new (Some b) (look z.buffers id) differs) ∙ has)
buffer_after k (commands.Destroy things.Buffer gone) z id m kept has =
    elim (cases_eq id gone) [
      | inl same ↦ inr (ap (λ n. commands.Destroy things.Buffer n) (sym same))
      | inr differs ↦ inl (ap (option_map (λ (x : LiveBuffer). x.made)) (look_beside gone z.buffers id differs) ∙ has)
    ]
buffer_after k (commands.Destroy things.Structure gone) z id m kept has = inl has
buffer_after k (commands.Build infos) z id m kept has = inl (buffer_same z (after_infos k 0 infos z) id m (buffers_built k 0 infos z) has)
buffer_after k (commands.CopyStructure mode src dst) z id m kept has =
    inl (buffer_same z (fill_in dst (copied_by k (built_at z src)) z) id m (buffers_filled dst (copied_by k (built_at z src)) z (look z.structures dst)) has)
buffer_after k (commands.Deserialize src dst uses) z id m kept has =
    inl (buffer_same z (fill_in dst (built_by k 0) z) id m (buffers_filled dst (built_by k 0) z (look z.structures dst)) has)
buffer_after k c z id m kept has = inl has

-- ---- structures

filled_by : (d : ℕ) (b : Option Built) (z : Status) (found : Option LiveStructure) (id m : ℕ) → look z.structures d ≡ found
    → maker_of_structure z id ≡ Some m → maker_of_structure (with_built d b z found) id ≡ Some m
filled_by d b z None id m is has = has
filled_by d b z (Some s) id m is has =
    elim (cases_eq id d) [
      | inl same ↦
          ap (option_map (λ (x : LiveStructure). x.made)) (look_with d (structure_built b s) z.structures id ∙ here id d (Some (structure_built b s)) (look z.structures id) same)
          ∙ (sym (ap (option_map (λ (x : LiveStructure). x.made)) (ap (look z.structures) same ∙ is)) ∙ has)
      | inr differs ↦
          ap (option_map (λ (x : LiveStructure). x.made)) (look_with d (structure_built b s) z.structures id ∙ there id d (Some (structure_built b s)) (look z.structures id) differs)
          ∙ has
    ]

structures_built : (i k : ℕ) (infos : List Info) (z : Status) (id m : ℕ) → maker_of_structure z id ≡ Some m → maker_of_structure (after_infos i k infos z) id ≡ Some m
structures_built i k [] z id m has = has
structures_built i k (info ∷ infos) z id m has =
    structures_built i (k + 1) infos (fill_in info.dst (built_by i k) z) id m
    (filled_by info.dst (built_by i k) z (look z.structures info.dst) id m refl has)

structure_after : (k : ℕ) (c : Command) (z : Status) (id m : ℕ) → v1 z c ≡ None → maker_of_structure z id ≡ Some m
    → KeepsMaker maker_of_structure things.Structure id z c (after k c z) m
unfolding after v1
structure_after k (commands.Structure new kind buffer offset size) z id m kept has =
    let s : LiveStructure = record { made = k; kind = kind; buffer = buffer; offset = offset; size = size; built = None } in
    let free = no_first (is_live z.structures new) (lacks_buffer z buffer) (not_broken (is_live z.structures new || lacks_buffer z buffer) kept) in
    let differs = free_differs z.structures new id (λ (x : LiveStructure). x.made) m free has in
    inl (ap (option_map (λ (x : LiveStructure). x.made)) (look_with new s z.structures id ∙ there id new (Some s) (look z.structures id) differs) ∙ has)
structure_after k (commands.Destroy things.Structure gone) z id m kept has =
    elim (cases_eq id gone) [
      | inl same ↦ inr (ap (λ n. commands.Destroy things.Structure n) (sym same))
      | inr differs ↦ inl (ap (option_map (λ (x : LiveStructure). x.made)) (look_beside gone z.structures id differs) ∙ has)
    ]
structure_after k (commands.Destroy things.Buffer gone) z id m kept has = inl has
structure_after k (commands.Build infos) z id m kept has = inl (structures_built k 0 infos z id m has)
structure_after k (commands.CopyStructure mode src dst) z id m kept has =
    inl (filled_by dst (copied_by k (built_at z src)) z (look z.structures dst) id m refl has)
structure_after k (commands.Deserialize src dst uses) z id m kept has =
    inl (filled_by dst (built_by k 0) z (look z.structures dst) id m refl has)
structure_after k c z id m kept has = inl has

-- ---- over commands

-- a command destroys a thing, from number i on and below number j
pub record Destroys (rec : List Command) (thing : Thing) (id i j : ℕ) : Type 0 where
  pub at : ℕ
  pub from : i ≤ at
  pub below : at < j
  pub is_it : slice_get rec at ≡ Some (commands.Destroy thing id)

-- each command below number n names what is live
abbrev pub AreNamed : List Command → ℕ → Type 0
AreNamed rec n = (i : ℕ) (c : Command) → i < n → slice_get rec i ≡ Some c → v1 (status_at rec i) c ≡ None

abbrev MakerAfter : (Status → ℕ → Option ℕ) → Thing → Type 0
MakerAfter maker thing =
    (k : ℕ) (c : Command) (z : Status) (id m : ℕ) → v1 z c ≡ None → maker z id ≡ Some m → KeepsMaker maker thing id z c (after k c z) m

maker_next : (maker : Status → ℕ → Option ℕ) (thing : Thing) → MakerAfter maker thing
    → (rec : List Command) (j : ℕ) (z : Status) (id m : ℕ) (found : Option Command) → slice_get rec j ≡ found
    → ((c : Command) → slice_get rec j ≡ Some c → v1 z c ≡ None) → maker z id ≡ Some m
    → (maker (after_if j found z) id ≡ Some m) ⊎ (slice_get rec j ≡ Some (commands.Destroy thing id))
maker_next maker thing step rec j z id m None is kept has = inl has
maker_next maker thing step rec j z id m (Some c) is kept has =
    elim (step j c z id m (kept c is) has) [ inl same ↦ inl same | inr gone ↦ inr (is ∙ ap Some gone) ]

maker_until : (maker : Status → ℕ → Option ℕ) (thing : Thing) → MakerAfter maker thing
    → (rec : List Command) (n id i m : ℕ) → AreNamed rec n → maker (status_at rec i) id ≡ Some m → (j : ℕ) → i ≤ j → j ≤ n
    → (maker (status_at rec j) id ≡ Some m) ⊎ Destroys rec thing id i j
maker_until maker thing step rec n id i m named has zero from upto =
    let same : i ≡ zero = omega (arith, from) in inl (subst (λ k. maker (status_at rec k) id ≡ Some m) same has)
maker_until maker thing step rec n id i m named has (suc j) from upto =
    elim (cases_lt i (suc j)) [
      | inl less ↦ next (maker_until maker thing step rec n id i m named has j (omega (arith, less)) (omega (arith, upto))) less
      | inr more ↦ (let same : i ≡ suc j = omega (arith, from, more) in inl (subst (λ k. maker (status_at rec k) id ≡ Some m) same has))
    ]
  where
    next : (maker (status_at rec j) id ≡ Some m) ⊎ Destroys rec thing id i j → i < suc j
        → (maker (status_at rec (suc j)) id ≡ Some m) ⊎ Destroys rec thing id i (suc j)
    next (inr d) less = let low : i ≤ d.at = d.from in let high : d.at < j = d.below in
        inr (record { at = d.at; from = low; below = omega (arith, high); is_it = d.is_it })
    next (inl same) less =
        elim (maker_next maker thing step rec j (status_at rec j) id m (slice_get rec j) refl (λ c is. named j c (omega (arith, upto)) is) same) [
          | inl kept ↦ inl kept
          | inr gone ↦ inr (record { at = j; from = omega (arith, less); below = omega arith; is_it = gone })
        ]

pub buffer_until : (rec : List Command) (n id i m : ℕ) → AreNamed rec n → maker_of_buffer (status_at rec i) id ≡ Some m → (j : ℕ) → i ≤ j → j ≤ n
    → (maker_of_buffer (status_at rec j) id ≡ Some m) ⊎ Destroys rec things.Buffer id i j
buffer_until = maker_until maker_of_buffer things.Buffer buffer_after

pub structure_until : (rec : List Command) (n id i m : ℕ) → AreNamed rec n → maker_of_structure (status_at rec i) id ≡ Some m → (j : ℕ) → i ≤ j → j ≤ n
    → (maker_of_structure (status_at rec j) id ≡ Some m) ⊎ Destroys rec things.Structure id i j
structure_until = maker_until maker_of_structure things.Structure structure_after
