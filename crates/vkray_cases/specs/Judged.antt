-- What the program's answers are judged to be. (Own.)
use Rattle.std.specs.Prelude.{◌≡◌, ◌↔◌, ℕ, List, [], ◌∷◌, map, IsTrue, String, string_bytes}
use Rattle.std.specs.declared.alloc.Global.{Global}
use Rattle.vkray_cases.specs.declared.judging.Judged.{Judged}
use Rattle.vkray_cases.specs.declared.wanted.Wanted.{Wanted}
use Rattle.vkray_cases.specs.Told.{IsToldOf, IsMet}

-- the program was asked by the words that are wanted, and whether its answer is the one that is wanted is told
pub record IsJudged (input : List ℕ) (wanted : Wanted) (judged : Judged) : Type 0 where
  pub words : List (String Global)
  pub spelled : map string_bytes words ≡ wanted.words
  pub told : IsToldOf words input judged.told
  pub met : IsTrue judged.is_met ↔ IsMet wanted judged.told

-- each answer that is wanted was asked for and judged, in order
abbrev pub AreJudged : List ℕ → List Wanted → List Judged → Type 0
AreJudged input [] [] = Unit {0}
AreJudged input (w ∷ ws) (j ∷ js) = IsJudged input w j × AreJudged input ws js
AreJudged input [] (j ∷ js) = ⊥
AreJudged input (w ∷ ws) [] = ⊥
