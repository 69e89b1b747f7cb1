use Rattle.std.proofs.Common.{◌∙◌, ap, arith}
use Rattle.std.specs.Result.{result_unwrap_or}
use Rattle.std.proofs.lemmas.Fmt.{parse-decimal}
use Rattle.ray_cert.proofs.words.read_number.Goals as goal

pub returns : goal.returns
returns c = λ n fits is. c.unwrap_or.ensures ∙ ap (λ r. result_unwrap_or r 0) (parse-decimal 32 n _ _ fits (omega (arith, fits)) is c.parse.ensures.value.0)
