use Rattle.std.proofs.Common.{List, ◌++◌, drop}
use Rattle.vkray_cases.specs.declared.judging.Judged.{Judged}
use Rattle.vkray_cases.specs.Judged.{AreJudged}
use Rattle.vkray_cases.proofs.judging.judge_all.Given as goal

-- the answers so far go on with those that are left
abbrev pub invariant-loop-wanted : goal.invariant-loop-wanted
invariant-loop-wanted g l =
    (js : List Judged) → AreJudged l.input (drop l.wanted-index l.answers) js → AreJudged l.input l.answers (l.judged.items ++ js)
