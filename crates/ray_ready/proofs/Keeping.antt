-- What leaves a status and a memory tied.
use Rattle.std.proofs.Common.{◌≡◌, ◌<◌, ℕ, true, List, Option, Some, None, IsSome, sym, ◌∙◌, ap, subst, inl, inr}
use Rattle.std.specs.Prelude.{◌==◌, if◌then◌else◌}
use Rattle.std.specs.Option.{option_map, option_map_or}
use Rattle.std.proofs.lemmas.Bool.{cases_eq}
use Rattle.ray_cmd.specs.declared.command.Command.{Command}
use Rattle.ray_cmd.specs.declared.structure_kind.StructureKind.{StructureKind}
use Rattle.ray_cmd.specs.declared.structure_kind.StructureKind.TheVariants as kinds
use Rattle.ray_rules.specs.declared.built.Built.{Built}
use Rattle.ray_rules.specs.declared.live_buffer.LiveBuffer.{LiveBuffer}
use Rattle.ray_rules.specs.declared.live_structure.LiveStructure.{LiveStructure}
use Rattle.ray_rules.specs.Ids.{Ids, look, with_id, without_id}
use Rattle.ray_rules.specs.Status.{structure_built}
use Rattle.ray_action.specs.declared.form.Form.{Form}
use Rattle.ray_action.specs.Memory.{Contents}
use Rattle.ray_ready.proofs.Maps.{Rise, look_with, look_without, rise_with, rise_without, here, there}
use Rattle.ray_ready.proofs.Ties.{IsBuilt, IsFresh, Fills, IsBounded, size_of, form_of, TiedBuffers, TiedForms, TiedContents, keeps_bytes}

-- ---- one entry comes or goes

-- these are those entries, but for what stands under an id
pub record Changes {X : Type 0} (id : ℕ) (new : Option X) (es fs : Ids X) : Type 0 where
  pub at : (q : ℕ) → q ≡ id → look fs q ≡ new
  pub other : (q : ℕ) → (q ≡ id → ⊥) → look fs q ≡ look es q
  pub rise : Rise fs

pub comes : {X : Type 0} (id : ℕ) (x : X) (es : Ids X) → Rise es → Changes id (Some x) es (with_id id x es)
comes id x es rise = record {
  at = λ q same. look_with id x es q ∙ here q id _ _ same;
  other = λ q differs. look_with id x es q ∙ there q id _ _ differs;
  rise = rise_with id x es rise;
}

pub goes : {X : Type 0} (id : ℕ) (es : Ids X) → Rise es → Changes id None es (without_id id es)
goes id es rise = record {
  at = λ q same. look_without id es q rise ∙ here q id _ _ same;
  other = λ q differs. look_without id es q rise ∙ there q id _ _ differs;
  rise = rise_without id es rise;
}

-- ---- buffers

pub buffers_changed : (id : ℕ) (new : Option LiveBuffer) (es fs : Ids LiveBuffer) (sizes : ℕ → Option ℕ) (bytes fresh : ℕ → ℕ → Option ℕ)
    → Changes id new es fs → ((q at : ℕ) → option_map_or keeps_bytes new true ≡ true → at < option_map_or size_of new 0 → IsSome (fresh q at)) → TiedBuffers es sizes bytes
    → TiedBuffers fs (λ q. if q == id then option_map size_of new else sizes q) (λ q at. if q == id then fresh q at else bytes q at)
buffers_changed id new es fs sizes bytes fresh change all tied = record {
  rise = change.rise;
  size = λ q. elim (cases_eq q id) [
    | inl same ↦ here q id _ _ same ∙ sym (ap (option_map size_of) (change.at q same))
    | inr differs ↦ there q id _ _ differs ∙ (tied.size q ∙ sym (ap (option_map size_of) (change.other q differs)))
  ];
  there = λ q at kept below. elim (cases_eq q id) [
    | inl same ↦
        subst IsSome (sym (here q id (fresh q at) (bytes q at) same))
        (all q at (sym (ap (λ found. option_map_or keeps_bytes found true) (change.at q same)) ∙ kept)
        (subst (λ found. at < option_map_or size_of found 0) (change.at q same) below))
    | inr differs ↦
        subst IsSome (sym (there q id (fresh q at) (bytes q at) differs))
        (tied.there q at (sym (ap (λ found. option_map_or keeps_bytes found true) (change.other q differs)) ∙ kept)
        (subst (λ found. at < option_map_or size_of found 0) (change.other q differs) below))
  ];
}

pub bytes_kept : (es : Ids LiveBuffer) (sizes : ℕ → Option ℕ) (bytes others : ℕ → ℕ → Option ℕ)
    → ((q at : ℕ) → IsSome (bytes q at) → IsSome (others q at)) → TiedBuffers es sizes bytes → TiedBuffers es sizes others
bytes_kept es sizes bytes others all tied = record {
  rise = tied.rise;
  size = tied.size;
  there = λ q at kept below. all q at (tied.there q at kept below);
}

-- ---- forms

pub forms_changed : (id : ℕ) (new : Option LiveStructure) (es fs : Ids LiveStructure) (forms : ℕ → Option Form) → Changes id new es fs
    → TiedForms es forms → TiedForms fs (λ q. if q == id then option_map form_of new else forms q)
forms_changed id new es fs forms change tied = record {
  rise = change.rise;
  form = λ q. elim (cases_eq q id) [
    | inl same ↦ here q id _ _ same ∙ sym (ap (option_map form_of) (change.at q same))
    | inr differs ↦ there q id _ _ differs ∙ (tied.form q ∙ sym (ap (option_map form_of) (change.other q differs)))
  ];
}

pub forms_filled : (dst : ℕ) (b : Option Built) (s : LiveStructure) (es : Ids LiveStructure) (forms : ℕ → Option Form) → look es dst ≡ Some s
    → TiedForms es forms → TiedForms (with_id dst (structure_built b s) es) forms
forms_filled dst b s es forms live tied =
    let change = comes dst (structure_built b s) es tied.rise in record {
      rise = change.rise;
      form = λ q. elim (cases_eq q dst) [
        | inl same ↦
            tied.form q
            ∙ (ap (option_map form_of) (ap (look es) same ∙ live)
            ∙ sym (ap (option_map form_of) (change.at q same)))
        | inr differs ↦ tied.form q ∙ sym (ap (option_map form_of) (change.other q differs))
      ];
    }

-- ---- contents: a structure is made or destroyed

pub contents_unbuilt : (rec : List Command) (i k id : ℕ) (new : Option LiveStructure) (es fs : Ids LiveStructure) (contents : ℕ → Option Contents)
    → Changes id new es fs → ((kind : StructureKind) (b : Built) → IsBuilt new kind b → ⊥) → TiedContents rec i k es contents
    → TiedContents rec i k fs (λ q. if q == id then None else contents q)
contents_unbuilt rec i k id new es fs contents change unbuilt tied = record {
  order = λ q kind b built. elim (cases_eq q id) [
    | inl same ↦ absurd (unbuilt kind b (subst (λ f. IsBuilt f kind b) (change.at q same) built))
    | inr differs ↦ tied.order q kind b (subst (λ f. IsBuilt f kind b) (change.other q differs) built)
  ];
  held = λ q kind b built. elim (cases_eq q id) [
    | inl same ↦ absurd (unbuilt kind b (subst (λ f. IsBuilt f kind b) (change.at q same) built))
    | inr differs ↦
        subst (Fills rec kind b) (sym (there q id None (contents q) differs))
        (tied.held q kind b (subst (λ f. IsBuilt f kind b) (change.other q differs) built))
  ];
  bounds = λ q b t u x built is in_use fresh. elim (cases_eq q id) [
    | inl same ↦ absurd (unbuilt kinds.Top b (subst (λ f. IsBuilt f kinds.Top b) (change.at q same) built))
    | inr differs ↦ elim (cases_eq u id) [
      | inl same ↦
          let now : IsFresh b.stamp new = subst (IsFresh b.stamp) (change.at u same) fresh in
          absurd (unbuilt kinds.Bottom now.by now.built)
      | inr apart ↦
          subst (IsBounded x) (sym (there u id None (contents u) apart))
          (tied.bounds q b t u x (subst (λ f. IsBuilt f kinds.Top b) (change.other q differs) built)
          (sym (there q id None (contents q) differs) ∙ is) in_use (subst (IsFresh b.stamp) (change.other u apart) fresh))
    ]
  ];
}
