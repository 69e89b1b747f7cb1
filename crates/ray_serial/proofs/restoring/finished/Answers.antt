use Rattle.std.proofs.Common.{◌∙◌, Err, subst}
use Rattle.ray_stated.specs.declared.tree_fault.TreeFault.{TreeFault}
use Rattle.ray_tree_part.specs.TreeParts.{IsSpelled}
use Rattle.ray_serial.proofs.Form2Restored.{ended_restored, none_restored}
use Rattle.ray_serial.proofs.restoring.finished.Goals as goal

pub returns-in-Ok-tree_in : goal.returns-in-Ok-tree_in
returns-in-Ok-tree_in c =
    ended_restored c.args.builder.contents c.deref.result.now c.args.part.now c.in-Ok-tree_in.tree c.ended.result (c.deref.ensures.value ∙ c.in-Ok.ensures.value)
    c.in-Ok-tree_in.ensures.tree c.ended.ensures.contents c.ended.ensures.tree c.ended.ensures.fault

pub returns-in-Err-NotTree : goal.returns-in-Err-NotTree
returns-in-Err-NotTree c =
    none_restored c.args.builder.contents c.deref.result.now c.args.part.now (c.deref.ensures.value ∙ c.in-Ok.ensures.value)
    (subst (λ (fault : TreeFault). IsSpelled c.deref.result.now c.args.part.now (Err fault)) c.in-Err-NotTree.field-0-is c.in-Err-NotTree.ensures.tree)
