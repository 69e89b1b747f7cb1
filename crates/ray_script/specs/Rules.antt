-- The grammar of a script: which JSON values spell rules, and what they spell. (Own.)
use Rattle.std.specs.Prelude.{ℕ, ◌≡◌, List, [], ◌∷◌, Option, Some, None, Result, Ok, Err, codes, Vec}
use Rattle.std.specs.declared.alloc.Global.{Global}
use Rattle.serde_json.specs.Data.{Data}
use Rattle.ray_json.specs.Fields.{◌>>=◌, at, optional_at, only, u64_of, word_of, list_of}
use Rattle.ray_script.specs.declared.choice_word.ChoiceWord.{ChoiceWord}
use Rattle.ray_script.specs.declared.choice_word.ChoiceWord.TheVariants as words
use Rattle.ray_script.specs.declared.raw_choice.RawChoice.{RawChoice}
use Rattle.ray_script.specs.declared.raw_choice.RawChoice.TheVariants as choices
use Rattle.ray_script.specs.declared.raw_rule.RawRule.{RawRule}
use Rattle.ray_script.specs.declared.not_rules.NotRules.{NotRules}
use Rattle.ray_script.specs.declared.not_rules.NotRules.TheVariants.{Shape, NoMemory}

-- the word of a rule's member `do`
abbrev pub choice_word_of : Data → Option ChoiceWord
choice_word_of = at (word_of (
    (codes "ignore", words.Ignore)
    ∷ (codes "confirm", words.Confirm)
    ∷ (codes "entry", words.Entry)
    ∷ (codes "exit", words.Exit)
    ∷ (codes "at", words.At)
    ∷ (codes "terminate", words.Terminate)
    ∷ (codes "confirm_terminate", words.ConfirmTerminate)
    ∷ [])) (codes "do")

-- the members that a rule of this word may have: the distance stands with `at` alone
abbrev pub names_of : ChoiceWord → List (List ℕ)
names_of words.At = codes "ray" ∷ codes "instance" ∷ codes "geometry" ∷ codes "primitive" ∷ codes "nth" ∷ codes "do" ∷ codes "num" ∷ codes "den" ∷ []
names_of _ = codes "ray" ∷ codes "instance" ∷ codes "geometry" ∷ codes "primitive" ∷ codes "nth" ∷ codes "do" ∷ []

-- the decision at the distance `num` / `den`
abbrev pub at_distance_of : Data → Option RawChoice
at_distance_of d = at u64_of (codes "num") d >>= λ num. at u64_of (codes "den") d >>= λ den. Some (choices.At num den)

-- what a rule of this word decides
abbrev pub choice_of : ChoiceWord → Data → Option RawChoice
choice_of words.Ignore d = Some choices.Ignore
choice_of words.Confirm d = Some choices.Confirm
choice_of words.Entry d = Some choices.Entry
choice_of words.Exit d = Some choices.Exit
choice_of words.At d = at_distance_of d
choice_of words.Terminate d = Some choices.Terminate
choice_of words.ConfirmTerminate d = Some choices.ConfirmTerminate

-- a rule
unfoldable pub rule_of : Data → Option RawRule
rule_of d = do
  word ← choice_word_of d
  _ ← only (names_of word) d
  ray ← optional_at u64_of (codes "ray") d
  instance ← optional_at u64_of (codes "instance") d
  geometry ← optional_at u64_of (codes "geometry") d
  primitive ← optional_at u64_of (codes "primitive") d
  nth ← optional_at u64_of (codes "nth") d
  choice ← choice_of word d
  Some (record { ray = ray; instance = instance; geometry = geometry; primitive = primitive; nth = nth; choice = choice })

-- a script's rules
abbrev pub rules_of : Data → Option (List RawRule)
rules_of = list_of rule_of

-- the answer is the rules that are spelled, or the shape is at fault, exactly where none are
abbrev pub GivesRules : Result (Vec RawRule Global) NotRules → Data → Type 0
GivesRules (Ok rules) d = rules_of d ≡ Some rules.items
GivesRules (Err Shape) d = rules_of d ≡ None
GivesRules (Err NoMemory) d = Unit {0}
