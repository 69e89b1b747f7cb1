use Rattle.vkray_cases.proofs.AllJudged.{all_judged}
use Rattle.vkray_cases.proofs.judging.judge_all.Goals as goal

-- src/judging.rt:25:1
pub returns : goal.returns
returns g c =
    all_judged c.args.input.now c.args.answers.now c.loop-wanted.wanted-index c.loop-wanted.judged.items
    c.loop-wanted-test.false c.loop-wanted.invariant
