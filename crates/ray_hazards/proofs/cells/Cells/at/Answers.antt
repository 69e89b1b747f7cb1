use Rattle.std.proofs.Common.{◌∙◌, ap, arith, nat_lt, rules, subst, sym, ℕ, List}
use Rattle.std.specs.List.Sorted.{IsNonDecreasingBy}
use Rattle.std.proofs.lemmas.List.Sorted.{IsPartitionPoint-from_clause, IsPartitionedBy-ltb}
use Rattle.ray_hazards.specs.Cells.{cell_of}
use Rattle.ray_hazards.proofs.Cellular.{cell-parted}
use Rattle.ray_hazards.proofs.cells.Cells.at.Goals as goal

pub returns-clause-value : goal.returns-clause-value
returns-clause-value c =
    let list = c.deref.result.now in
    let same = c.deref.ensures.value in
    let sorted : IsNonDecreasingBy (λ (s : ℕ). s) list =
    subst (IsNonDecreasingBy (λ (s : ℕ). s)) (sym same) c.self.invariant
    in
    let parts =
    IsPartitionPoint-from_clause (λ y. nat_lt y c.args.number) list c.partition_point.result
    c.partition_point.ensures.partitioned (IsPartitionedBy-ltb (λ (s : ℕ). s) list c.args.number sorted)
    (λ x b f' k. search rules)
    in
    cell-parted list c.args.number c.partition_point.result c.partition_point.ensures.bound
    (λ k d below. parts.0 k d (omega arith) below) parts.1
    ∙ ap (λ (xs : List ℕ). cell_of xs c.args.number) (same ∙ c.self.view_is)
