-- A run that comes to a text, cut in two.
use Rattle.std.proofs.Common.{ℕ, ◌≡◌, ◌++◌, List, [], ◌∷◌, refl}
use Rattle.ray_action.specs.Clients.{Clients}
use Rattle.ray_action.specs.Memory.{Memory}
use Rattle.ray_action.specs.Outcomes.{Breaks, Gives, Outcome, Output, Undefined}
use Rattle.ray_action.specs.Pieces.{Numbered}
use Rattle.ray_action.specs.Running.{Refused, Run, Text, Unknown, run_from, then_run, unit_after, unit_outcome}
use Rattle.ray_action.specs.Text.{text_of}
use Rattle.ray_exec.proofs.Progress.{memory_after}

-- an outcome is an output, and a run comes to a text
pub record GivesBefore (outcome : Outcome) (later : Run) : Type 0 where
  pub output : Output
  pub gives : outcome ≡ Gives output
  pub text : List ℕ
  pub comes : later ≡ Text text

pub gives_before : (unit : Numbered) (outcome : Outcome) (later : Run) (text : List ℕ) → then_run unit outcome later ≡ Text text → GivesBefore outcome later
gives_before unit (Gives output) (Text t) text e = record { output = output; gives = refl; text = t; comes = refl }
gives_before unit (Gives output) (Refused refusal) text e = absurd cc
gives_before unit (Gives output) Unknown text e = absurd cc
gives_before unit (Breaks fault) later text e = absurd cc
gives_before unit Undefined later text e = absurd cc

-- some actions come to a text, and so do others after them
pub record ComeBoth (clients : Clients) (units others : List Numbered) (m : Memory) : Type 0 where
  pub text : List ℕ
  pub comes : run_from clients m units ≡ Text text
  pub rest : List ℕ
  pub comes_after : run_from clients (memory_after clients m units) others ≡ Text rest

pub run_cut : (clients : Clients) (units others : List Numbered) (m : Memory) (text : List ℕ) → run_from clients m (units ++ others) ≡ Text text → ComeBoth clients units others m
run_cut clients [] others m text e = record { text = []; comes = refl; rest = text; comes_after = e }
run_cut clients (unit ∷ units) others m text e =
    let here = gives_before unit (unit_outcome clients unit m) (run_from clients (unit_after clients unit m) (units ++ others)) text e in
    let both = run_cut clients units others (unit_after clients unit m) here.text here.comes in record {
      text = text_of unit.action here.output ++ both.text;
      comes = λ i. then_run unit (here.gives i) (both.comes i);
      rest = both.rest;
      comes_after = both.comes_after;
    }
