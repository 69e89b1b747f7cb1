-- The traces of a recording, counted one command after the other.
use Rattle.std.proofs.Common.{◌≡◌, ◌≤◌, ◌∙◌, ℕ, ◌+◌, List, [], ◌∷◌, ◌++◌, Some, Bool, length, length-append, map, slice_get, take, refl, sym, ap, subst, arith}
use Rattle.std.specs.List.{range_with_len}
use Rattle.std.proofs.lemmas.List.{take_more}
use Rattle.std.proofs.lemmas.List.Elements.{filter_map-append}
use Rattle.std.proofs.lemmas.List.FromFn.{map-range_with_len_more}
use Rattle.std.proofs.lemmas.Option.{get_or_from_slice_get, slice_get_within}
use Rattle.ray_cmd.specs.declared.command.Command.{Command}
use Rattle.ray_cmd.specs.declared.command.Command.TheVariants as commands
use Rattle.ray_pipe.specs.Tables.{trace_of, traces_of, count_before}

-- these are the traces among the first commands, and how many come before each of these commands
pub record AreTraces (cs : List Command) (i : ℕ) (scripted : List Bool) (counts : List ℕ) : Type 0 where
  pub each : scripted ≡ traces_of (take i cs)
  pub before : counts ≡ map (count_before cs) (range_with_len 0 i)
  pub few : length scripted ≤ i

pub traces-none : (cs : List Command) → AreTraces cs 0 [] []
traces-none cs = record { each = refl; before = refl; few = omega arith }

-- a command is one trace at most
at-most : (c : Command) → length (traces_of (c ∷ [])) ≤ 1
at-most (commands.Trace top rays count hits flags mask script) = omega arith
at-most _ = omega arith

more : (c : Command) (traces : List Bool) → length (traces ++ traces_of (c ∷ [])) ≤ length traces + 1
more c traces = let same = length-append traces (traces_of (c ∷ [])) in let most = at-most c in omega arith

-- one command more
pub traces-more : (cs : List Command) (i : ℕ) (scripted after : List Bool) (counts next : List ℕ) (c : Command)
    → slice_get cs i ≡ Some c → after ≡ scripted ++ traces_of (c ∷ []) → next ≡ counts ++ length scripted ∷ []
    → AreTraces cs i scripted counts → AreTraces cs (i + 1) after next
traces-more cs i scripted after counts next c there added pushed is = record {
  each =
      added
      ∙ (ap (λ traces. traces ++ traces_of (c ∷ [])) is.each
      ∙ (sym (filter_map-append trace_of (take i cs) (c ∷ [])) ∙ ap traces_of (sym taken)));
  before =
      pushed
      ∙ ((λ j. is.before j ++ length (is.each j) ∷ []) ∙ sym (map-range_with_len_more (count_before cs) 0 i i (omega arith)));
  few =
      let most = more c scripted in let few = is.few in
      subst (λ xs. length xs ≤ i + 1) (sym added) (omega arith);
}
  where
    taken : take (i + 1) cs ≡ take i cs ++ c ∷ []
    taken =
        take_more cs i c (slice_get_within cs i c there)
        ∙ ap (λ x. take i cs ++ x ∷ []) (get_or_from_slice_get cs i c c there)
