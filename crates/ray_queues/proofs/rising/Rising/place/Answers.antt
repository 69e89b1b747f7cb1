use Rattle.std.proofs.Common.{◌≡◌, ◌∙◌, arith, nat_lt, rules, subst, sym, List}
use Rattle.std.specs.Prelude.{slice_get}
use Rattle.std.specs.List.{find}
use Rattle.std.specs.List.Sorted.{IsNonDecreasingBy}
use Rattle.std.proofs.lemmas.List.Sorted.{IsPartitionPoint-from_clause, IsPartitionedBy-ltb}
use Rattle.ray_queues.specs.declared.rising.Mark.{Mark}
use Rattle.ray_queues.specs.Marks.{reaches}
use Rattle.ray_queues.proofs.Reaching.{found-at}
use Rattle.ray_queues.proofs.rising.Rising.place.Goals as goal

pub returns : goal.returns
returns c =
    let list = c.deref.result.now in
    let value = c.args.value in
    let same = c.deref.ensures.value in
    let rising : IsNonDecreasingBy (λ (m : Mark). m.value) list =
    subst (IsNonDecreasingBy (λ (m : Mark). m.value)) (sym same) c.self.invariant
    in
    let parts =
    IsPartitionPoint-from_clause (λ (m : Mark). nat_lt m.value value) list c.partition_point.result
    c.partition_point.ensures.partitioned (IsPartitionedBy-ltb (λ (m : Mark). m.value) list value rising)
    (λ x b f' k. search rules)
    in
    subst (λ (ms : List Mark). slice_get ms c.partition_point.result ≡ find (reaches value) ms) (same ∙ c.self.view_is)
    (found-at list value c.partition_point.result c.partition_point.ensures.bound
    (λ k d below. parts.0 k d (omega arith) below) parts.1)
