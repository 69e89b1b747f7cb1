-- One command more of those that items spell.
use Rattle.std.proofs.Common.{ℕ, ◌+◌, ◌<◌, ◌≤◌, ◌≡◌, ◌∙◌, List, [], ◌∷◌, ◌++◌, Ok, Err, false, nat_le, refl, arith, append_assoc, ap, append-nil, sym, suc, length, drop, get_or}
use Rattle.std.proofs.lemmas.Bool.Decides.{nat_tests}
use Rattle.std.proofs.Common.{add-one}
use Rattle.std.proofs.Math.Seq.{drop-cons}
use Rattle.std.proofs.lemmas.List.{drop_all}
use Rattle.serde_json.specs.Data.{Data, Items, item}
use Rattle.serde_json.specs.View.{view, items_view}
use Rattle.serde_json.specs.declared.value.Value.{Value}
use Rattle.ray_cmd.specs.declared.command.Command.{Command}
use Rattle.ray_cmd.specs.Counting.{listed_in, less}
use Rattle.ray_cmd.specs.Grammar.{command_of}
use Rattle.ray_cmd.specs.Recordings.{◌>>=◌, Reading, most_commands, most_members, or_bad, commands_from}

-- a command at the end of those before is one before those that follow
regroup : (rest : Reading) (before : List Command) (c : Command) →
    ((rest >>= λ commands. Ok (c ∷ commands)) >>= λ commands. Ok (before ++ commands)) ≡ (rest >>= λ commands. Ok ((before ++ c ∷ []) ++ commands))
regroup (Ok commands) before c = ap Ok (sym (append_assoc before (c ∷ []) commands))
regroup (Err fault) before c = refl

below : (i : ℕ) → i < most_commands → nat_le most_commands i ≡ false
below i h = grind (arith, nat_tests)

-- the item that is next spells a command
pub goes_on : (i left rest : ℕ) (d : Data) (ds : Items) (before after : List Command) (c : Command) → i < most_commands →
    or_bad i (command_of d) ≡ Ok c → or_bad i (less (listed_in d) left) ≡ Ok rest → after ≡ before ++ c ∷ [] →
    (commands_from (i + 1) rest ds >>= λ commands. Ok (after ++ commands)) ≡ (commands_from i left (item d ds) >>= λ commands. Ok (before ++ commands))
unfolding commands_from
goes_on i left rest d ds before after c few first second pushed =
    rw (pushed, below i few, second, first) (sym (regroup (commands_from (i + 1) rest ds) before c))

-- the items from a number on begin with the value that stands there
pub next_item : (values : List Value) (i : ℕ) (value : Value) → i < length values → value ≡ get_or values i value →
    items_view (drop i values) ≡ item (view value) (items_view (drop (i + 1) values))
next_item values i value inside here =
    rw (drop-cons values i value, add-one) (ap (λ v. item (view v) (items_view (drop (suc i) values))) (sym here))

-- nothing is left of the items
pub all_read : (values : List Value) (i left : ℕ) (commands : List Command) → length values ≤ i →
    (commands_from i left (items_view (drop i values)) >>= λ cs. Ok (commands ++ cs)) ≡ commands_from 0 most_members (items_view values) →
    commands_from 0 most_members (items_view values) ≡ Ok commands
unfolding commands_from
all_read values i left commands past is =
    sym is
    ∙ (ap (λ vs. commands_from i left (items_view vs) >>= λ cs. Ok (commands ++ cs)) (drop_all i values past) ∙ ap Ok (append-nil commands))
