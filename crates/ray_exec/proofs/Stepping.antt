-- One command of the host more, and one part of a device command more.
use Rattle.std.proofs.Common.{ℕ, ◌≡◌, ◌<◌, ◌≤◌, ◌+◌, ◌++◌, List, ◌∷◌, length, map, Err, Bool, true, false, refl, ap, sym, subst, ◌∙◌, append-nil, arith}
use Rattle.std.specs.Prelude.{not, Vec}
use Rattle.std.specs.declared.alloc.Global.{Global}
use Rattle.ray_cmd.specs.declared.command.Command.{Command}
use Rattle.ray_cmd.specs.declared.refusal.Refusal.{Refusal}
use Rattle.ray_rules.specs.Hazards.{status_at}
use Rattle.ray_action.specs.Memory.{Memory}
use Rattle.ray_action.specs.Clients.{Clients}
use Rattle.ray_action.specs.Outcomes.{Outcome, outcome_of}
use Rattle.ray_action.specs.Pieces.{Numbered, command_at, host_action, numbered}
use Rattle.ray_action.specs.Readiness.{IsReady}
use Rattle.ray_action.specs.Running as action
use Rattle.ray_action.specs.Running.{Run}
use Rattle.ray_device.specs.Pieces.{is_device, part_action, piece_count}
use Rattle.ray_memory.specs.State.{StateValue, memory_of}
use Rattle.ray_exec.specs.declared.run_fault.RunFault.{RunFault}
use Rattle.ray_exec.specs.declared.run_fault.RunFault.TheVariants.{Refused, NoMemory}
use Rattle.ray_exec.specs.Runs.{IsRun}
use Rattle.ray_exec.specs.Steps.{IsBroken, IsShown, IsStored, Stops}
use Rattle.ray_exec.proofs.Hosting.{host_parts}
use Rattle.ray_exec.proofs.Progress.{Course, IsLeft, commands_left, first_ready, left_stops, next_left, part_next, parts_close, parts_left, parts_open, pieces_are_parts}
use Rattle.ray_exec.proofs.Silent.{part_silent}

-- where a run stops
pub stops_run : (whole : Run) (i : ℕ) (outcome : Outcome) (fault : RunFault) → ((r : Refusal) → IsBroken i outcome r → whole ≡ action.Refused r)
    → Stops i outcome fault → IsRun whole (Err fault)
stops_run whole i outcome (Refused r) is stop = is r stop
stops_run whole i outcome NoMemory is stop = tt

-- ---- a command of the host

host-left : (clients : Clients) (rec : List Command) (n i : ℕ) (whole : Course) (m : Memory) (text : List ℕ) → i < n → n ≤ length rec → not (is_device (command_at rec i)) ≡ true
    → IsLeft clients n whole (commands_left rec n i) m text → IsLeft clients n whole (numbered i (host_action (command_at rec i)) ∷ commands_left rec n (i + 1)) m text
host-left clients rec n i whole m text below within host is =
    subst (λ left. IsLeft clients n whole left m text)
    (parts_open rec n i below within
    ∙ ap (λ acts. map (numbered i) acts ++ commands_left rec n (i + 1)) (host_parts rec (status_at rec i) (command_at rec i) host))
    is

pub host_ready : (clients : Clients) (rec : List Command) (n i : ℕ) (whole : Course) (m : Memory) (text : List ℕ) → i < n → n ≤ length rec → not (is_device (command_at rec i)) ≡ true
    → IsLeft clients n whole (commands_left rec n i) m text → IsReady (host_action (command_at rec i)) m
host_ready clients rec n i whole m text below within host is =
    first_ready clients n whole (numbered i (host_action (command_at rec i))) (commands_left rec n (i + 1)) m text (host-left clients rec n i whole m text below within host is) below

pub host_stops : (clients : Clients) (rec : List Command) (n i : ℕ) (whole : Course) (m : Memory) (text : List ℕ) (fault : RunFault) → i < n → n ≤ length rec → not (is_device (command_at rec i)) ≡ true
    → IsLeft clients n whole (commands_left rec n i) m text → Stops i (outcome_of (clients i) (host_action (command_at rec i)) m) fault → IsRun whole.run (Err fault)
host_stops clients rec n i whole m text fault below within host is stop =
    stops_run whole.run i (outcome_of (clients i) (host_action (command_at rec i)) m) fault
    (λ r broken. left_stops clients n whole (numbered i (host_action (command_at rec i))) (commands_left rec n (i + 1)) m text r (host-left clients rec n i whole m text below within host is) broken) stop

pub host_done : (clients : Clients) (rec : List Command) (n i : ℕ) (whole : Course) (old new : Memory) (text_old text_new : List ℕ) → i < n → n ≤ length rec → not (is_device (command_at rec i)) ≡ true
    → IsLeft clients n whole (commands_left rec n i) old text_old → IsShown (clients i) (host_action (command_at rec i)) old new text_old text_new
    → IsLeft clients n whole (commands_left rec n (i + 1)) new text_new
host_done clients rec n i whole old new text_old text_new below within host is done =
    next_left clients n whole (numbered i (host_action (command_at rec i))) (commands_left rec n (i + 1)) old new text_old text_new
    (host-left clients rec n i whole old text_old below within host is) done.output done.gives done.memory done.text

-- ---- a part of a device command

is-true : (b : Bool) → not b ≡ false → b ≡ true
is-true true e = refl
is-true false e = absurd cc

part-left : (clients : Clients) (rec : List Command) (n i k : ℕ) (whole : Course) (m : Memory) (text : List ℕ) → not (is_device (command_at rec i)) ≡ false → k < piece_count (command_at rec i)
    → IsLeft clients n whole (parts_left rec n i k) m text
    → IsLeft clients n whole (numbered i (part_action rec (status_at rec i) (command_at rec i) k) ∷ parts_left rec n i (k + 1)) m text
part-left clients rec n i k whole m text device below is =
    let many = pieces_are_parts rec (status_at rec i) (command_at rec i) device in
    subst (λ left. IsLeft clients n whole left m text) (part_next rec n i k (omega (arith, many, below))) is

pub part_ready : (clients : Clients) (rec : List Command) (n i k : ℕ) (whole : Course) (m : Memory) (text : List ℕ) → i < n → not (is_device (command_at rec i)) ≡ false → k < piece_count (command_at rec i)
    → IsLeft clients n whole (parts_left rec n i k) m text → IsReady (part_action rec (status_at rec i) (command_at rec i) k) m
part_ready clients rec n i k whole m text within device below is =
    first_ready clients n whole (numbered i (part_action rec (status_at rec i) (command_at rec i) k)) (parts_left rec n i (k + 1)) m text
    (part-left clients rec n i k whole m text device below is) within

pub part_stops : (clients : Clients) (rec : List Command) (n i k : ℕ) (whole : Course) (m : Memory) (text : List ℕ) (fault : RunFault) → not (is_device (command_at rec i)) ≡ false → k < piece_count (command_at rec i)
    → IsLeft clients n whole (parts_left rec n i k) m text → Stops i (outcome_of (clients i) (part_action rec (status_at rec i) (command_at rec i) k) m) fault → IsRun whole.run (Err fault)
part_stops clients rec n i k whole m text fault device below is stop =
    stops_run whole.run i (outcome_of (clients i) (part_action rec (status_at rec i) (command_at rec i) k) m) fault
    (λ r broken. left_stops clients n whole (numbered i (part_action rec (status_at rec i) (command_at rec i) k)) (parts_left rec n i (k + 1)) m text r
    (part-left clients rec n i k whole m text device below is) broken) stop

pub part_done : (clients : Clients) (rec : List Command) (n i k : ℕ) (whole : Course) (old new : Memory) (text : List ℕ) → not (is_device (command_at rec i)) ≡ false → k < piece_count (command_at rec i)
    → IsLeft clients n whole (parts_left rec n i k) old text → IsStored (clients i) (part_action rec (status_at rec i) (command_at rec i) k) old new
    → IsLeft clients n whole (parts_left rec n i (k + 1)) new text
part_done clients rec n i k whole old new text device below is done =
    next_left clients n whole (numbered i (part_action rec (status_at rec i) (command_at rec i) k)) (parts_left rec n i (k + 1)) old new text text
    (part-left clients rec n i k whole old text device below is) done.output done.gives done.memory
    (sym (append-nil text) ∙ ap (λ t. text ++ t) (sym (part_silent rec (status_at rec i) (command_at rec i) k done.output (is-true (is_device (command_at rec i)) device))))

-- before the first part, and after the last
pub parts_begin : (clients : Clients) (rec : List Command) (n i : ℕ) (whole : Course) (m : Memory) (text : List ℕ) → i < n → n ≤ length rec
    → IsLeft clients n whole (commands_left rec n i) m text → IsLeft clients n whole (parts_left rec n i 0) m text
parts_begin clients rec n i whole m text below within is = subst (λ left. IsLeft clients n whole left m text) (parts_open rec n i below within) is

pub parts_end : (clients : Clients) (rec : List Command) (n i k : ℕ) (whole : Course) (m : Memory) (text : List ℕ) → not (is_device (command_at rec i)) ≡ false → piece_count (command_at rec i) ≤ k
    → IsLeft clients n whole (parts_left rec n i k) m text → IsLeft clients n whole (commands_left rec n (i + 1)) m text
parts_end clients rec n i k whole m text device past is =
    let many = pieces_are_parts rec (status_at rec i) (command_at rec i) device in
    subst (λ left. IsLeft clients n whole left m text) (parts_close rec n i k (omega (arith, many, past))) is

-- the same of what a state and a text have become
pub moved : (clients : Clients) (n : ℕ) (whole : Course) (left : List Numbered) (old new : StateValue) (text_old text_new : Vec ℕ Global) → old ≡ new → text_old ≡ text_new
    → IsLeft clients n whole left (memory_of old) text_old.items → IsLeft clients n whole left (memory_of new) text_new.items
moved clients n whole left old new text_old text_new same text is =
    subst (λ (s : StateValue). IsLeft clients n whole left (memory_of s) text_new.items) same
    (subst (λ (t : Vec ℕ Global). IsLeft clients n whole left (memory_of old) t.items) text is)
