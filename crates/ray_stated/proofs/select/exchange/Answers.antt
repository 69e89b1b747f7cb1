use Rattle.std.proofs.Common.{[], ◌∙◌, ap₂, slice_set}
use Rattle.std.proofs.lemmas.List.Sorted.{IsPermutation-swap}
use Rattle.std.proofs.lemmas.List.Edits.{swap_is}
use Rattle.ray_stated.specs.declared.entry.Entry.{Entry}
use Rattle.ray_stated.proofs.select.exchange.Goals as goal

pub returns-clause-same : goal.returns-clause-same
returns-clause-same c =
    let entries = c.args.entries.now in
    let a = c.args.a in
    let b = c.args.b in
    IsPermutation-swap entries _ a b c.requires.a c.requires.b
    (ap₂ (λ (x y : Entry). slice_set (slice_set entries a y) b x) c.apart-x.ensures c.apart-y.ensures
    ∙ swap_is entries a b (record { sums = []; item = 0 }) c.requires.a c.requires.b)
