-- From a command to the next: what is kept of all commands so far.
use Rattle.std.proofs.Common.{◌≡◌, ◌<◌, ◌≤◌, ℕ, suc, ◌+◌, List, [], ◌∷◌, ◌++◌, length, get_or, Some, slice_get, refl, sym, ◌∙◌, ap, subst, inl, inr, arith, length-append}
use Rattle.std.specs.Option.{option_map_or}
use Rattle.std.proofs.lemmas.Bool.{cases_eq}
use Rattle.std.proofs.lemmas.List.{get_or_append_left, get_or_push}
use Rattle.ray_cmd.specs.declared.command.Command.{Command}
use Rattle.ray_rules.specs.Order.{barriers, before, IsLongest}
use Rattle.ray_sync.specs.declared.fronts.Fronts.{Fronts}
use Rattle.ray_sync.specs.declared.kind.Kind.{Kind}
use Rattle.ray_sync.specs.declared.kind.Kind.TheVariants.{Transfer, Build, StructureCopy, Compute, Barrier, Host}
use Rattle.ray_sync.specs.declared.order.Row.{Row}
use Rattle.ray_sync.specs.declared.per_kind.PerKind.{PerKind}
use Rattle.ray_sync.specs.Kinds.{AreFronts, kind_in, kind_number, limits_of, no_numbers, raised_at}
use Rattle.ray_sync.specs.Rows.{AreBests, HaveNumbers, IsBest, IsOrderOf, IsRow, no_row, wave_of}
use Rattle.ray_sync.proofs.Limits.{before-limits, limits-within}
use Rattle.ray_sync.proofs.Chains.{AreLimits, best-next, wave-longest, wave-within}

-- the kind of command number n
pub kind-number : (rec : List Command) (n : ℕ) (c : Command) (kind : Kind) → slice_get rec n ≡ Some c → kind ≡ kind_in c → kind ≡ kind_number rec n
kind-number rec n c kind e k = k ∙ sym (ap (λ o. option_map_or kind_in o Host) e)

pub limits-are :
    (rec : List Command) (n : ℕ) (fronts : Fronts) (kind : Kind) (limits : PerKind) → AreFronts rec n fronts
    → kind ≡ kind_number rec n → limits ≡ limits_of fronts n kind → AreLimits rec n limits
limits-are rec n fronts kind limits p k e =
    subst (AreLimits rec n) (sym e)
    (record {
      exact = before-limits rec n fronts kind k p;
      within = λ other. limits-within rec n fronts kind other p;
    })

pub have-numbers :
    (rec : List Command) (n : ℕ) (bests : List PerKind) (limits : PerKind) → AreBests rec n bests
    → AreLimits rec n limits → HaveNumbers bests limits
have-numbers rec n bests limits b l =
    let m = b.many in
    record {
      transfer = let w = l.within Transfer in omega arith;
      build = let w = l.within Build in omega arith;
      structure_copy = let w = l.within StructureCopy in omega arith;
      compute = let w = l.within Compute in omega arith;
      barrier = let w = l.within Barrier in omega arith;
      host = let w = l.within Host in omega arith;
    }

pub bests-next :
    (rec : List Command) (n : ℕ) (bests : List PerKind) (best : PerKind) → AreBests rec n bests
    → IsBest rec (suc n) best → AreBests rec (suc n) (bests ++ (best ∷ []))
bests-next rec n bests best b p = record {
  many = length-append bests (best ∷ []) ∙ (let m = b.many in omega arith);
  are = λ m le.
      elim (cases_eq m (suc n)) [
        | inl e ↦
            let at : m ≡ length bests = e ∙ sym b.many in
            subst (λ x. IsBest rec m x)
            (sym (ap (λ k. get_or (bests ++ (best ∷ [])) k no_numbers) at ∙ get_or_push bests best no_numbers (length bests) refl))
            (subst (λ k. IsBest rec k best) (sym e) p)
        | inr ne ↦
            let many = b.many in
            subst (λ x. IsBest rec m x) (sym (get_or_append_left bests (best ∷ []) no_numbers m (omega arith)))
            (b.are m (omega arith))
      ];
}

pub rows-next :
    (rec : List Command) (n : ℕ) (rows : List Row) (row : Row) → length rows ≡ n → IsOrderOf rec rows
    → IsRow rec n row → IsOrderOf rec (rows ++ (row ∷ []))
rows-next rec n rows row many p r = record {
  are = λ i l.
      let long = length-append rows (row ∷ []) in
      elim (cases_eq i n) [
        | inl e ↦
            let at : i ≡ length rows = e ∙ sym many in
            subst (λ x. IsRow rec i x)
            (sym (ap (λ k. get_or (rows ++ (row ∷ [])) k no_row) at ∙ get_or_push rows row no_row (length rows) refl))
            (subst (λ k. IsRow rec k row) (sym e) r)
        | inr ne ↦
            let below : i < length rows = omega arith in
            subst (λ x. IsRow rec i x) (sym (get_or_append_left rows (row ∷ []) no_row i below)) (p.are i below)
      ];
}

-- the wave of command number n
pub record IsWave (rec : List Command) (n : ℕ) (wave : ℕ) : Type 0 where
  pub longest : IsLongest (before (barriers rec) rec) n wave
  pub within : wave ≤ n

pub wave-next :
    (rec : List Command) (n : ℕ) (bests : List PerKind) (limits : PerKind) (wave : ℕ) → AreBests rec n bests
    → AreLimits rec n limits → wave ≡ wave_of bests limits → IsWave rec n wave
wave-next rec n bests limits wave b l e =
    subst (IsWave rec n) (sym e)
    (record { longest = wave-longest rec n bests limits b l; within = wave-within rec n bests limits b l })

-- the row of command number n
pub row-next :
    (rec : List Command) (n : ℕ) (kind : Kind) (limits : PerKind) (wave : ℕ) → kind ≡ kind_number rec n
    → AreLimits rec n limits → IsWave rec n wave → IsRow rec n (record { kind = kind; limits = limits; wave = wave })
row-next rec n kind limits wave k l w = record { kind = k; ordered = l.exact; wave = w.longest }

-- the numbers that bound the chains below the next command
pub best-after :
    (rec : List Command) (n : ℕ) (kind : Kind) (best raised : PerKind) (wave : ℕ) → kind ≡ kind_number rec n
    → IsBest rec n best → IsWave rec n wave → raised ≡ raised_at best kind (wave + 1) → IsBest rec (n + 1) raised
best-after rec n kind best raised wave k b w e =
    let more : n + 1 ≡ suc n = omega arith in
    let longer : wave + 1 ≡ suc wave = omega arith in
    subst (λ m. IsBest rec m raised) (sym more)
    (subst (IsBest rec (suc n)) (sym (e ∙ (λ i. raised_at best (k i) (longer i))))
    (best-next rec n best wave b w.longest w.within))
