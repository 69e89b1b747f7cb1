use Rattle.std.proofs.Common.{◌&&◌, ◌==◌, sym, ap, ◌∙◌}
use Rattle.ray_top.specs.declared.instance.Instance.{Instance}
use Rattle.ray_serial.proofs.Distinct.{any_more}
use Rattle.ray_serial.proofs.counting.is_referred.Goals as goal

pub returns-then-refers : goal.returns-then-refers
returns-then-refers c =
    sym (any_more c.args.id c.args.top.now.contents.instances c.loop-i.i c.args.count c.loop-i-test.true c.requires
    (ap (λ (told : Instance). told.active && (told.id == c.args.id)) (sym c.told.ensures.value) ∙ (sym c.refers.ensures ∙ c.if-refers.true)))
