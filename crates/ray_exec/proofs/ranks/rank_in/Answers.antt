use Rattle.std.proofs.Common.{◌∙◌, arith, nat_lt, rules, ℕ}
use Rattle.std.proofs.lemmas.List.Sorted.{IsPartitionPoint-from_clause, IsPartitionedBy-ltb}
use Rattle.ray_exec.proofs.Ranking.{rank_parted, rank_sorted}
use Rattle.ray_exec.proofs.ranks.rank_in.Goals as goal

pub returns : goal.returns
returns c =
    let sorted = c.args.sorted.now in
    let parts =
    IsPartitionPoint-from_clause (λ y. nat_lt y c.args.number) sorted c.partition_point.result
    c.partition_point.ensures.partitioned (IsPartitionedBy-ltb (λ (s : ℕ). s) sorted c.args.number c.requires.sorted)
    (λ x b f' k. search rules)
    in
    rank_parted sorted c.args.number c.partition_point.result c.partition_point.ensures.bound
    (λ k d below. parts.0 k d (omega arith) below) parts.1
    ∙ rank_sorted c.args.numbers.now sorted c.args.number c.requires.same
