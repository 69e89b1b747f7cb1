use Rattle.std.proofs.Common.{rules}
use Rattle.vkray_cases.proofs.Asked.{told_by}
use Rattle.vkray_cases.proofs.asking.ask.Goals as goal

-- src/asking.rt:27:1
pub returns : goal.returns
returns g c =
    told_by c.args.words.now c.args.input.now (record { status = c.vkray-status.result; text = c.in_ok-to_vec-2.field-0 })
    c.new-source.result c.vkray-status.new.source c.in_ok-sink.sink c.vkray-status.new.sink
    (search rules) (search rules) (search rules) (search rules)
