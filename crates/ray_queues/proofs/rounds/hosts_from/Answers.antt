use Rattle.std.proofs.Common.{arith}
use Rattle.ray_queues.proofs.Hosts.{counted-all, counted-device, counted-host, counted-wait, hosts-here, wait-here}
use Rattle.ray_queues.proofs.rounds.hosts_from.Goals.{then-is_by_host, else-is_by_host}
use Rattle.ray_queues.proofs.rounds.hosts_from.Goals as goal

pub returns-then-is_wait : goal.returns-then-is_wait
returns-then-is_wait c =
    let rec = c.args.rec.now in
    let l = c.loop-n in
    counted-wait rec c.args.from c.args.until l.hosts l.n l.invariant.count c.loop-n-test.true
    (wait-here rec l.n c.command-command.result.now c.is_wait.result _ c.command-command.ensures c.is_wait.ensures c.if-is_wait.true)

pub loop-n-preserved : goal.loop-n-preserved
loop-n-preserved c =
    let rec = c.args.rec.now in
    let l = c.loop-n in
    let command = c.command-command.result.now in
    let low = l.invariant.low in
    let goes_on = wait-here rec l.n command c.is_wait.result _ c.command-command.ensures c.is_wait.ensures c.if-is_wait.false in
    elim c.if-is_by_host.branch [
      | then-is_by_host w ↦
          (let more = w.hosts-is in
          let host = hosts-here rec l.n command c.is_by_host.result _ c.command-command.ensures c.is_by_host.ensures w.if-is_by_host.true in
          record {
            count =
                counted-host rec c.args.from c.args.until l.hosts l.n l.invariant.count c.if-is_by_host.hosts more goes_on host;
            low = omega arith;
          })
      | else-is_by_host w ↦
          (let more = w.hosts-is in
          let device = hosts-here rec l.n command c.is_by_host.result _ c.command-command.ensures c.is_by_host.ensures w.if-is_by_host.false in
          record {
            count = counted-device rec c.args.from c.args.until l.hosts l.n l.invariant.count c.if-is_by_host.hosts more device;
            low = omega arith;
          })
    ]

pub returns : goal.returns
returns c =
    let l = c.loop-n in
    let past = c.loop-n-test.false in
    let end = l.auto.n-end in
    counted-all c.args.rec.now c.args.from c.args.until l.hosts l.n l.invariant.count (omega arith)
