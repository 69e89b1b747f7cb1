-- One submission more of those that items spell.
use Rattle.std.proofs.Common.{ℕ, ◌+◌, ◌≤◌, ◌≡◌, ◌∙◌, List, [], ◌∷◌, ◌++◌, Result, Ok, Err, refl, append_assoc, ap, append-nil, sym, length, drop}
use Rattle.std.proofs.lemmas.List.{drop_all}
use Rattle.serde_json.specs.Data.{Data, Items, item}
use Rattle.serde_json.specs.View.{items_view}
use Rattle.serde_json.specs.declared.value.Value.{Value}
use Rattle.ray_submits.specs.declared.fault.QueueFault.{QueueFault}
use Rattle.ray_submits.specs.declared.submission.Submission.{Submission}
use Rattle.ray_submits.specs.Reading.{◌>>=◌, or_bad, submits_from}
use Rattle.ray_submits.specs.Shapes.{submission_of}

-- a submission at the end of those before is one before those that follow
regroup : (rest : Result (List Submission) QueueFault) (before : List Submission) (s : Submission) →
    ((rest >>= λ ss. Ok (s ∷ ss)) >>= λ ss. Ok (before ++ ss)) ≡ (rest >>= λ ss. Ok ((before ++ s ∷ []) ++ ss))
regroup (Ok ss) before s = ap Ok (sym (append_assoc before (s ∷ []) ss))
regroup (Err fault) before s = refl

-- the item that is next spells a submission
pub goes_on : (k : ℕ) (d : Data) (ds : Items) (before after : List Submission) (s : Submission) →
    or_bad k (submission_of d) ≡ Ok s → after ≡ before ++ s ∷ [] →
    (submits_from (k + 1) ds >>= λ ss. Ok (after ++ ss)) ≡ (submits_from k (item d ds) >>= λ ss. Ok (before ++ ss))
unfolding submits_from
goes_on k d ds before after s first pushed =
    rw (pushed, first) (sym (regroup (submits_from (k + 1) ds) before s))

-- nothing is left of the items
pub all_read : (values : List Value) (k : ℕ) (submits : List Submission) → length values ≤ k →
    (submits_from k (items_view (drop k values)) >>= λ ss. Ok (submits ++ ss)) ≡ submits_from 0 (items_view values) →
    submits_from 0 (items_view values) ≡ Ok submits
unfolding submits_from
all_read values k submits past is =
    sym is
    ∙ (ap (λ vs. submits_from k (items_view vs) >>= λ ss. Ok (submits ++ ss)) (drop_all k values past) ∙ ap Ok (append-nil submits))
