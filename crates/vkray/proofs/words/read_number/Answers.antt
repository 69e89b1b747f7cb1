use Rattle.std.proofs.Common.{◌∙◌, ap, arith}
use Rattle.std.specs.Result.{result_ok}
use Rattle.std.proofs.lemmas.Fmt.{parse-decimal}
use Rattle.vkray.proofs.words.read_number.Goals as goal

pub returns : goal.returns
returns c = λ n fits is. c.ok.ensures.value ∙ ap result_ok (parse-decimal 32 n _ _ fits (omega (arith, fits)) is c.parse.ensures.value.0)
