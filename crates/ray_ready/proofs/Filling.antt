-- What leaves a status and a memory tied once a structure is filled.
use Rattle.std.proofs.Common.{◌≡◌, ◌<◌, ◌≤◌, ◌+◌, ℕ, true, false, List, Option, Some, sym, ◌∙◌, ap, subst, inl, inr, arith}
use Rattle.std.specs.Prelude.{◌==◌, if◌then◌else◌}
use Rattle.std.proofs.lemmas.Bool.{cases_eq}
use Rattle.ray_geom.specs.Boxes.{BoxValue}
use Rattle.ray_top.specs.Contents as tops
use Rattle.ray_top.specs.InstanceReading.{bounds_in}
use Rattle.ray_cmd.specs.declared.command.Command.{Command}
use Rattle.ray_cmd.specs.declared.structure_kind.StructureKind.{StructureKind}
use Rattle.ray_cmd.specs.declared.structure_kind.StructureKind.TheVariants as kinds
use Rattle.ray_rules.specs.declared.built.Built.{Built}
use Rattle.ray_rules.specs.declared.live_structure.LiveStructure.{LiveStructure}
use Rattle.ray_rules.specs.Ids.{Ids, look, with_id}
use Rattle.ray_rules.specs.Origins.{uses_of}
use Rattle.ray_rules.specs.Status.{structure_built}
use Rattle.ray_action.specs.Areas.{has}
use Rattle.ray_action.specs.Memory.{Contents, Top}
use Rattle.ray_ready.proofs.Maps.{Rise, here, there}
use Rattle.ray_ready.proofs.Ties.{IsBuilt, IsFresh, IsEarlier, IsTopBy, Fills, IsBounded, TiedContents}
use Rattle.ray_ready.proofs.Keeping.{Changes, comes}

-- contents that command number i gives to a structure of a kind, as info number k of it or as a copy. What
-- stands beside a top's uses is as they are, where they are fresh
pub record IsNew (rec : List Command) (i k : ℕ) (es : Ids LiveStructure) (contents : ℕ → Option Contents) (kind : StructureKind) (b : Built) (c : Contents) : Type 0 where
  pub order : IsEarlier i k b
  pub written : b.written ≡ i
  pub fills : Fills rec kind b (Some c)
  pub bounds : (t : tops.TopValue) (u : ℕ) (x : Option BoxValue) → kind ≡ kinds.Top → c ≡ Top t → bounds_in t.used u ≡ Some x
      → IsFresh b.stamp (look es u) → IsBounded x (contents u)

-- no top that this command built before may refer to a structure
abbrev pub IsFree : List Command → ℕ → Ids LiveStructure → ℕ → Type 0
IsFree rec i es dst = (id : ℕ) (b : Built) → IsBuilt (look es id) kinds.Top b → b.stamp ≡ i → has (uses_of rec b) dst ≡ false

-- what was in the structure's place before is of its kind
new_kind : (s : LiveStructure) (b p : Built) (kind : StructureKind) → IsBuilt (Some (structure_built (Some b) s)) kind p → (s.kind ≡ kind) × (b ≡ p)
new_kind s b p kind built =
    let same : structure_built (Some b) s ≡ built.structure = cc in
    let by : Some b ≡ Some p = ap (λ (x : LiveStructure). x.built) same ∙ built.built in
    (ap (λ (x : LiveStructure). x.kind) same ∙ built.same_kind, cc)

not_both : (kind : StructureKind) → kind ≡ kinds.Bottom → kind ≡ kinds.Top → ⊥
not_both kind e f = absurd cc

top_same : (found : Option Contents) (t s : tops.TopValue) → found ≡ Some (Top t) → found ≡ Some (Top s) → t ≡ s
top_same found t s e f = cc

given_same : (found : Option Contents) (c : Contents) (t : tops.TopValue) → found ≡ Some c → found ≡ Some (Top t) → c ≡ Top t
given_same found c t e f = cc

-- a top that refers to a structure which this command writes isn't fresh
stale : (rec : List Command) (i k dst id : ℕ) (es : Ids LiveStructure) (contents : ℕ → Option Contents) (b p : Built) (t : tops.TopValue) (x : Option BoxValue)
    → TiedContents rec i k es contents → IsFree rec i es dst → b.written ≡ i → IsBuilt (look es id) kinds.Top p → contents id ≡ Some (Top t)
    → bounds_in t.used dst ≡ Some x → b.written ≤ p.stamp → ⊥
stale rec i k dst id es contents b p t x tied free written built is in_use early =
    let order = tied.order id kinds.Top p built in
    let stamp : p.stamp ≤ p.written = order.stamp in
    let last : p.written ≤ i = order.written in
    let now : p.stamp ≡ i = omega (arith, written, early, stamp, last) in
    let by : IsTopBy rec p (contents id) = tied.held id kinds.Top p built in
    let same : t ≡ by.top = top_same (contents id) t by.top is by.is_it in
    let named : has (uses_of rec p) dst ≡ true = by.in_use dst x (subst (λ (y : tops.TopValue). bounds_in y.used dst ≡ Some x) same in_use) in
    let not_named : has (uses_of rec p) dst ≡ false = free id p built now in
    absurd cc

pub contents_filled : (rec : List Command) (i k n dst : ℕ) (s : LiveStructure) (b : Built) (c : Contents) (es : Ids LiveStructure) (contents : ℕ → Option Contents)
    → Rise es → look es dst ≡ Some s → k ≤ n → IsFree rec i es dst → IsNew rec i n es contents s.kind b c → TiedContents rec i k es contents
    → TiedContents rec i n (with_id dst (structure_built (Some b) s) es) (λ q. if q == dst then Some c else contents q)
contents_filled rec i k n dst s b c es contents rise live more free new tied =
    let change : Changes dst (Some (structure_built (Some b) s)) es (with_id dst (structure_built (Some b) s) es) = comes dst (structure_built (Some b) s) es rise in record {
      order = λ q kind p built. elim (cases_eq q dst) [
        | inl same ↦
            let is = new_kind s b p kind (subst (λ f. IsBuilt f kind p) (change.at q same) built) in
            subst (IsEarlier i n) is.1 new.order
        | inr differs ↦
            let old = tied.order q kind p (subst (λ f. IsBuilt f kind p) (change.other q differs) built) in
            record { written = old.written; stamp = old.stamp; info = λ now. let less : p.info < k = old.info now in omega (arith, less, more) }
      ];
      held = λ q kind p built. elim (cases_eq q dst) [
        | inl same ↦
            let is = new_kind s b p kind (subst (λ f. IsBuilt f kind p) (change.at q same) built) in
            subst (Fills rec kind p) (sym (here q dst (Some c) (contents q) same))
            (subst (λ w. Fills rec kind w (Some c)) is.1 (subst (λ w. Fills rec w b (Some c)) is.0 new.fills))
        | inr differs ↦
            subst (Fills rec kind p) (sym (there q dst (Some c) (contents q) differs))
            (tied.held q kind p (subst (λ f. IsBuilt f kind p) (change.other q differs) built))
      ];
      bounds = λ q p t u x built is in_use fresh. elim (cases_eq q dst) [
        | inl same ↦
            let now = new_kind s b p kinds.Top (subst (λ f. IsBuilt f kinds.Top p) (change.at q same) built) in
            let top : c ≡ Top t = given_same (if q == dst then Some c else contents q) c t (here q dst (Some c) (contents q) same) is in
            elim (cases_eq u dst) [
              | inl itself ↦
                  let f : IsFresh p.stamp (Some (structure_built (Some b) s)) = subst (IsFresh p.stamp) (change.at u itself) fresh in
                  absurd (not_both s.kind (new_kind s b f.by kinds.Bottom f.built).0 now.0)
              | inr apart ↦
                  let f : IsFresh b.stamp (look es u) =
                  subst (λ (w : Built). IsFresh w.stamp (look es u)) (sym now.1) (subst (IsFresh p.stamp) (change.other u apart) fresh) in
                  subst (IsBounded x) (sym (there u dst (Some c) (contents u) apart)) (new.bounds t u x now.0 top in_use f)
            ]
        | inr differs ↦
            let old : IsBuilt (look es q) kinds.Top p = subst (λ f. IsBuilt f kinds.Top p) (change.other q differs) built in
            let before : contents q ≡ Some (Top t) = sym (there q dst (Some c) (contents q) differs) ∙ is in
            elim (cases_eq u dst) [
              | inl itself ↦
                  let f : IsFresh p.stamp (Some (structure_built (Some b) s)) = subst (IsFresh p.stamp) (change.at u itself) fresh in
                  let by : b ≡ f.by = (new_kind s b f.by kinds.Bottom f.built).1 in
                  let early : b.written ≤ p.stamp = subst (λ (w : Built). w.written ≤ p.stamp) (sym by) f.early in
                  let used : bounds_in t.used dst ≡ Some x = sym (ap (bounds_in t.used) itself) ∙ in_use in
                  absurd (stale rec i k dst q es contents b p t x tied free new.written old before used early)
              | inr apart ↦
                  subst (IsBounded x) (sym (there u dst (Some c) (contents u) apart))
                  (tied.bounds q p t u x old before in_use (subst (IsFresh p.stamp) (change.other u apart) fresh))
            ]
      ];
    }

-- the next command begins
pub contents_later : (rec : List Command) (i k : ℕ) (es : Ids LiveStructure) (contents : ℕ → Option Contents)
    → TiedContents rec i k es contents → TiedContents rec (i + 1) 0 es contents
contents_later rec i k es contents tied = record {
  order = λ q kind b built.
      let old = tied.order q kind b built in
      let last : b.written ≤ i = old.written in
      let stamp : b.stamp ≤ b.written = old.stamp in
      record { written = omega (arith, last); stamp = stamp; info = λ now. absurd (omega (arith, last, stamp, now)) };
  held = tied.held;
  bounds = tied.bounds;
}

-- no top of a command that has done none of its infos refers to anything
pub none_yet : (rec : List Command) (i dst : ℕ) (es : Ids LiveStructure) (contents : ℕ → Option Contents) → TiedContents rec i 0 es contents → IsFree rec i es dst
none_yet rec i dst es contents tied id b built now =
    let less : b.info < 0 = (tied.order id kinds.Top b built).info now in absurd (omega (arith, less))
