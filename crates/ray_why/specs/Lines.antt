-- The first line: that of `vkray check`. (Own.)
use Rattle.std.specs.Prelude.{ℕ, List, [], ◌++◌, codes, decimal}
use Rattle.ray_bytes.specs.declared.data_rule.DataRule.{DataRule}
use Rattle.ray_bytes.specs.declared.data_rule.DataRule.TheVariants.{X1, X2, X3, X4, X5, X6, X7, X8, X9, X10, X11, X12, X13}
use Rattle.ray_cmd.specs.declared.rule.Rule.{Rule}
use Rattle.ray_cmd.specs.declared.rule.Rule.TheVariants.{V, X}
use Rattle.ray_cmd.specs.declared.place.Place.{Place}
use Rattle.ray_cmd.specs.declared.place.Place.TheVariants.{Whole, Part, Geometry, Element, Earlier}
use Rattle.ray_cmd.specs.declared.refusal.Refusal.{Refusal}
use Rattle.ray_why.specs.declared.reasons.Why.{Why}
use Rattle.ray_why.specs.declared.reasons.Why.TheVariants as whys

-- the number of a data rule
abbrev pub number_of : DataRule → ℕ
number_of X1 = 1
number_of X2 = 2
number_of X3 = 3
number_of X4 = 4
number_of X5 = 5
number_of X6 = 6
number_of X7 = 7
number_of X8 = 8
number_of X9 = 9
number_of X10 = 10
number_of X11 = 11
number_of X12 = 12
number_of X13 = 13

-- a rule: `V` or `X` and its number
abbrev pub rule_text : Rule → List ℕ
rule_text (V number) = codes "V" ++ decimal number
rule_text (X rule) = codes "X" ++ decimal (number_of rule)

-- a place: nothing for the whole command, ` at a`, ` at a.b`, ` at a.b.c`, ` with j`
abbrev pub place_text : Place → List ℕ
place_text Whole = []
place_text (Part part) = codes " at " ++ decimal part
place_text (Geometry info geometry) = codes " at " ++ (decimal info ++ (codes "." ++ decimal geometry))
place_text (Element info geometry element) = codes " at " ++ (decimal info ++ (codes "." ++ (decimal geometry ++ (codes "." ++ decimal element))))
place_text (Earlier command) = codes " with " ++ decimal command

-- the line of a refusal: `refused I RULE` and its place
abbrev pub refusal_line : Refusal → List ℕ
refusal_line refusal =
    codes "refused " ++ (decimal refusal.command ++ (codes " " ++ (rule_text refusal.rule ++ (place_text refusal.place ++ codes "\n"))))

-- the line of the first command that has no shape of a command: `bad-shape I`
abbrev pub bad_shape_line : ℕ → List ℕ
bad_shape_line command = codes "bad-shape " ++ (decimal command ++ codes "\n")

-- the first line
abbrev pub line_of : Why → List ℕ
line_of whys.Kept = codes "ok\n"
line_of (whys.NotJson words) = codes "not-json\n"
line_of (whys.BadShape m) = bad_shape_line m.command
line_of (whys.Refused broken) = refusal_line broken.refusal
