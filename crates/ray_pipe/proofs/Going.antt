-- One table more of those that items spell.
use Rattle.std.proofs.Common.{ℕ, ◌+◌, ◌≤◌, ◌≡◌, ◌∙◌, List, [], ◌∷◌, ◌++◌, Bool, false, Result, Ok, Err, refl, append_assoc, ap, append-nil, sym, length, drop}
use Rattle.std.specs.Prelude.{slice_index_or}
use Rattle.std.proofs.lemmas.List.{drop_all}
use Rattle.serde_json.specs.Data.{Data, Items, item}
use Rattle.serde_json.specs.View.{items_view}
use Rattle.serde_json.specs.declared.value.Value.{Value}
use Rattle.ray_pipe.specs.declared.fault.TableFault.{TableFault}
use Rattle.ray_pipe.specs.HitGroup.{Table}
use Rattle.ray_pipe.specs.Reading.{◌>>=◌, entry_of, or_bad, tables_from}

-- a table at the end of those before is one before those that follow
regroup : (rest : Result (List Table) TableFault) (before : List Table) (t : Table) →
    ((rest >>= λ ts. Ok (t ∷ ts)) >>= λ ts. Ok (before ++ ts)) ≡ (rest >>= λ ts. Ok ((before ++ t ∷ []) ++ ts))
regroup (Ok ts) before t = ap Ok (sym (append_assoc before (t ∷ []) ts))
regroup (Err fault) before t = refl

-- the item that is next spells a table
pub goes_on : (traces : List Bool) (k : ℕ) (d : Data) (ds : Items) (before after : List Table) (t : Table) →
    or_bad k (entry_of (slice_index_or traces k false) d) ≡ Ok t → after ≡ before ++ t ∷ [] →
    (tables_from traces (k + 1) ds >>= λ ts. Ok (after ++ ts)) ≡ (tables_from traces k (item d ds) >>= λ ts. Ok (before ++ ts))
unfolding tables_from
goes_on traces k d ds before after t first pushed =
    rw (pushed, first) (sym (regroup (tables_from traces (k + 1) ds) before t))

-- nothing is left of the items
pub all_read : (traces : List Bool) (values : List Value) (k : ℕ) (tables : List Table) → length values ≤ k →
    (tables_from traces k (items_view (drop k values)) >>= λ ts. Ok (tables ++ ts)) ≡ tables_from traces 0 (items_view values) →
    tables_from traces 0 (items_view values) ≡ Ok tables
unfolding tables_from
all_read traces values k tables past is =
    sym is
    ∙ (ap (λ vs. tables_from traces k (items_view vs) >>= λ ts. Ok (tables ++ ts)) (drop_all k values past)
    ∙ ap Ok (append-nil tables))
