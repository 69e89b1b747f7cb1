use Rattle.std.proofs.Common.{arith, []}
use Rattle.ray_cmd.specs.declared.info.Info.{Info}
use Rattle.std.proofs.lemmas.Bool.Decides.{nat_tests}
use Rattle.ray_rules.specs.Access.{info_accesses}
use Rattle.ray_access.proofs.Joining.{adds_item, parts_done}
use Rattle.ray_access.proofs.commands.build.Goals as goal

pub returns : goal.returns
returns c =
    let after = c.loop-info-test.false in
    let within = c.loop-info.auto.info-index-end in
    parts_done c.args.status.now (info_accesses c.args.status.now.buffers) c.args.infos.now c.loop-info.info-index _
    (grind (arith, nat_tests)) c.loop-info.invariant.0 c.loop-info.invariant.1

pub loop-info-preserved : goal.loop-info-preserved
loop-info-preserved c =
    let z = c.args.status.now in (
      adds_item z (λ (x : Info). (info_accesses z.buffers x).reads) c.args.infos.now c.loop-info.info-index
          c.info-item.result [] c.loop-info.reads.items c.add_info_reads.new.list.items c.loop-info-test.true
          c.info-item.is c.loop-info.invariant.0 c.in_ok-add_info_reads.ensures,
      adds_item z (λ (x : Info). (info_accesses z.buffers x).writes) c.args.infos.now c.loop-info.info-index
          c.info-item.result [] c.loop-info.writes.items c.add_info_writes.new.list.items c.loop-info-test.true
          c.info-item.is c.loop-info.invariant.1 c.in_ok-add_info_writes.ensures,
    )
