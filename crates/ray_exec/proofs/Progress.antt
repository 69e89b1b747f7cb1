-- What is left of a run, and one action more.
use Rattle.std.proofs.Common.{ℕ, zero, suc, ◌≡◌, ◌<◌, ◌≤◌, ◌+◌, ◌++◌, List, [], ◌∷◌, length, take, drop, get_or, map, Some, Bool, true, false, refl, ap, sym, subst, ◌∙◌, arith, append_assoc, append-nil}
use Rattle.std.specs.Prelude.{slice_get, unwrap_or, not}
use Rattle.std.proofs.Math.Seq.{drop-cons}
use Rattle.std.proofs.lemmas.Option.{slice_get-get_or, get_or_from_slice_get}
use Rattle.ray_cmd.specs.declared.command.Command.{Command}
use Rattle.ray_cmd.specs.declared.command.Command.TheVariants as commands
use Rattle.ray_cmd.specs.declared.refusal.Refusal.{Refusal}
use Rattle.ray_rules.specs.Hazards.{status_at}
use Rattle.ray_rules.specs.Status.{Status, at_first}
use Rattle.ray_action.specs.Memory.{Location, Memory, nothing_live}
use Rattle.ray_action.specs.Action.{Action, Rest}
use Rattle.ray_action.specs.Clients.{Clients}
use Rattle.ray_action.specs.Outcomes.{Output, Gives}
use Rattle.ray_action.specs.Pieces.{Numbered, actions_from, actions_of, command_at, numbered}
use Rattle.ray_action.specs.Readiness.{IsReady}
use Rattle.ray_action.specs.Running.{Run, Text, Refused, Unknown, run_from, then_run, unit_after, unit_outcome, with_text}
use Rattle.ray_action.specs.Storing.{put}
use Rattle.ray_action.specs.Text.{text_of}
use Rattle.ray_ready.specs.Accepted.{IsAccepted}
use Rattle.ray_ready.specs.Laws.{first_actions}
use Rattle.ray_ready.proofs.Giving.{gives_may}
use Rattle.ray_ready.proofs.Leading.{AreReadyBelow}
use Rattle.ray_ready.proofs.Recording.{all_ready, at_beginning, next_status}
use Rattle.ray_permitted.specs.Along.{memory_below, run_below}
use Rattle.ray_permitted.specs.Job.{Job}
use Rattle.ray_permitted.proofs.Runs.{from_nothing, memory_from, one_later}
use Rattle.ray_device.specs.Pieces.{is_device, part_action, piece_count}
use Rattle.ray_device.proofs.Storable.{parts-are_actions}
use Rattle.ray_exec.specs.Steps.{IsBroken}

-- ---- what is left

-- the memory that actions leave, one after the other
abbrev pub memory_after : Clients → Memory → List Numbered → Memory
memory_after clients memory [] = memory
memory_after clients memory (u ∷ us) = memory_after clients (unit_after clients u memory) us

all-from : (clients : Clients) (us : List Numbered) (m : Memory) → memory_from clients m us (length us) ≡ memory_after clients m us
all-from clients [] m = refl
all-from clients (u ∷ us) m = one_later clients m u us (length us) ∙ all-from clients us (unit_after clients u m)

pub memory-below : (job : Job) (n : ℕ) → memory_below job n ≡ memory_after job.clients nothing_live (first_actions job.commands n)
memory-below job n =
    let us : List Numbered = first_actions job.commands n in
    sym (from_nothing job.clients us (length us)) ∙ all-from job.clients us nothing_live

-- a whole run: what it comes to, and the memory that it leaves where it comes to a text
pub record Course : Type 0 where
  pub run : Run
  pub memory : Memory

abbrev pub course_below : Job → ℕ → Course
course_below job n = record { run = run_below job n; memory = memory_below job n }

-- the actions that are left are ready one after the other, with the text so far they come to the whole, and
-- they leave its memory
pub record IsLeft (clients : Clients) (n : ℕ) (whole : Course) (left : List Numbered) (memory : Memory) (text : List ℕ) : Type 0 where
  pub ready : AreReadyBelow n left memory
  pub run : whole.run ≡ with_text text (run_from clients memory left)
  pub leaves : whole.memory ≡ memory_after clients memory left

-- the actions of the commands from number i on, of those below number n
abbrev pub commands_left : List Command → ℕ → ℕ → List Numbered
commands_left rec n i = actions_from rec i (status_at rec i) (drop i (take n rec))

-- the actions of command number i from part k on, and those of the commands after it
abbrev pub parts_left : List Command → ℕ → ℕ → ℕ → List Numbered
parts_left rec n i k =
    map (numbered i) (drop k (actions_of rec (status_at rec i) (command_at rec i))) ++ commands_left rec n (i + 1)

-- ---- texts

pub no-text : (run : Run) → with_text [] run ≡ run
no-text (Text t) = refl
no-text (Refused r) = refl
no-text Unknown = refl

pub more-text : (a b : List ℕ) (run : Run) → with_text a (with_text b run) ≡ with_text (a ++ b) run
more-text a b (Text t) = ap Text (sym (append_assoc a b t))
more-text a b (Refused r) = refl
more-text a b Unknown = refl

-- ---- one action more

pub same-memory : (m n : Memory) → ((l : Location) → m l ≡ n l) → m ≡ n
same-memory m n h = λ i l. h l i

-- the first that is left is ready
pub first_ready : (clients : Clients) (n : ℕ) (whole : Course) (u : Numbered) (us : List Numbered) (m : Memory) (text : List ℕ) → IsLeft clients n whole (u ∷ us) m text → u.command < n → IsReady u.action m
first_ready clients n whole u us m text is below = is.ready.0 below

after-is : (clients : Clients) (u : Numbered) (m : Memory) (o : Output) → unit_outcome clients u m ≡ Gives o → unit_after clients u m ≡ put u.action (Gives o) m
after-is clients u m o e = ap (λ x. put u.action x m) e

-- once it is stored, the others are left
pub next_left : (clients : Clients) (n : ℕ) (whole : Course) (u : Numbered) (us : List Numbered) (old new : Memory) (text_old text_new : List ℕ) → IsLeft clients n whole (u ∷ us) old text_old
    → (o : Output) → unit_outcome clients u old ≡ Gives o → ((l : Location) → new l ≡ put u.action (Gives o) old l) → text_new ≡ text_old ++ text_of u.action o
    → IsLeft clients n whole us new text_new
next_left clients n whole u us old new text_old text_new is o gives stored text =
    let memory : new ≡ put u.action (Gives o) old = same-memory new (put u.action (Gives o) old) stored in
    record {
      ready = subst (AreReadyBelow n us) (sym memory) (is.ready.1 o (λ below. gives_may (clients u.command) u.action old o gives));
      run = is.run
          ∙ (ap (λ x. with_text text_old (then_run u x (run_from clients (unit_after clients u old) us))) gives
          ∙ (ap (λ m. with_text text_old (with_text (text_of u.action o) (run_from clients m us))) (after-is clients u old o gives ∙ sym memory)
          ∙ (more-text text_old (text_of u.action o) (run_from clients new us)
          ∙ ap (λ t. with_text t (run_from clients new us)) (sym text))));
      leaves = is.leaves ∙ ap (λ m. memory_after clients m us) (after-is clients u old o gives ∙ sym memory);
    }

-- where it breaks a data rule the whole is refused
pub left_stops : (clients : Clients) (n : ℕ) (whole : Course) (u : Numbered) (us : List Numbered) (m : Memory) (text : List ℕ) (refusal : Refusal) → IsLeft clients n whole (u ∷ us) m text
    → IsBroken u.command (unit_outcome clients u m) refusal → whole.run ≡ Refused refusal
left_stops clients n whole u us m text refusal is broken =
    is.run
    ∙ (ap (λ x. with_text text (then_run u x (run_from clients (unit_after clients u m) us))) broken.broken
    ∙ ap Refused (sym broken.named))

-- where none is left the whole is the text, and the memory is that of the whole
pub none_left : (clients : Clients) (n : ℕ) (whole : Course) (m : Memory) (text : List ℕ) → IsLeft clients n whole [] m text → whole.run ≡ Text text
none_left clients n whole m text is = is.run ∙ ap Text (append-nil text)

pub last_memory : (clients : Clients) (n : ℕ) (whole : Course) (m : Memory) (text : List ℕ) → IsLeft clients n whole [] m text → (l : Location) → m l ≡ whole.memory l
last_memory clients n whole m text is l = ap (λ (x : Memory). x l) (sym is.leaves)

-- ---- the commands of a recording

-- a command of the first n is one of all
taken : (n : ℕ) (rec : List Command) (k : ℕ) (c : Command) → slice_get (take n rec) k ≡ Some c → slice_get rec k ≡ Some c
taken zero rec k c is = absurd cc
taken (suc n) [] k c is = absurd cc
taken (suc n) (d ∷ rec) zero c is = is
taken (suc n) (d ∷ rec) (suc k) c is = taken n rec k c is

-- at the beginning all are left
pub all_left : (job : Job) (n : ℕ) (m : Memory) (text : List ℕ) → IsAccepted job.commands n → ((l : Location) → m l ≡ nothing_live l) → text ≡ []
    → IsLeft job.clients n (course_below job n) (commands_left job.commands n 0) m text
all_left job n m text accepted new empty =
    let rec : List Command = job.commands in
    let us : List Numbered = first_actions rec n in record {
      ready =
          subst (AreReadyBelow n us) (sym (same-memory m nothing_live new))
          (all_ready rec n 0 at_first (take n rec) nothing_live accepted
          (λ q k c same is. subst (λ p. slice_get rec p ≡ Some c) (sym (same ∙ omega arith)) (taken n rec k c is)) refl (at_beginning rec));
      run =
          sym (ap (λ t. with_text t (run_from job.clients m us)) empty ∙ (no-text (run_from job.clients m us)
          ∙ ap (λ x. run_from job.clients x us) (same-memory m nothing_live new)));
      leaves = memory-below job n ∙ sym (ap (λ x. memory_after job.clients x us) (same-memory m nothing_live new));
    }

-- a command of those below a number
slice-taken : (n : ℕ) (rec : List Command) (i : ℕ) → i < n → slice_get (take n rec) i ≡ slice_get rec i
slice-taken zero rec i below = absurd (omega arith)
slice-taken (suc n) [] i below = refl
slice-taken (suc n) (c ∷ rec) zero below = refl
slice-taken (suc n) (c ∷ rec) (suc i) below = slice-taken n rec i (omega arith)

length-taken : (n : ℕ) (rec : List Command) → n ≤ length rec → length (take n rec) ≡ n
length-taken zero rec within = refl
length-taken (suc n) [] within = absurd (omega arith)
length-taken (suc n) (c ∷ rec) within = ap suc (length-taken n rec (omega arith))

the-command : (rec : List Command) (i : ℕ) → i < length rec → slice_get rec i ≡ Some (command_at rec i)
the-command rec i below = slice_get-get_or rec i commands.Begin below

drop-next : {X : Type 0} (xs : List X) (k : ℕ) (d : X) → k < length xs → drop k xs ≡ get_or xs k d ∷ drop (k + 1) xs
drop-next xs k d below = let next : suc k ≡ k + 1 = omega arith in drop-cons xs k d below ∙ ap (λ j. get_or xs k d ∷ drop j xs) next

commands-next : (rec : List Command) (n i : ℕ) → i < n → n ≤ length rec → drop i (take n rec) ≡ command_at rec i ∷ drop (i + 1) (take n rec)
commands-next rec n i below within =
    let long : length (take n rec) ≡ n = length-taken n rec within in
    let there : slice_get (take n rec) i ≡ Some (command_at rec i) = slice-taken n rec i below ∙ the-command rec i (omega arith) in
    drop-next (take n rec) i commands.Begin (omega arith)
    ∙ ap (λ c. c ∷ drop (i + 1) (take n rec)) (get_or_from_slice_get (take n rec) i (command_at rec i) commands.Begin there)

-- the parts of the first that is left, and the others
pub parts_open : (rec : List Command) (n i : ℕ) → i < n → n ≤ length rec → commands_left rec n i ≡ parts_left rec n i 0
unfolding actions_from
parts_open rec n i below within =
    ap (actions_from rec i (status_at rec i)) (commands-next rec n i below within)
    ∙ ap (λ z. map (numbered i) (actions_of rec (status_at rec i) (command_at rec i)) ++ actions_from rec (i + 1) z (drop (i + 1) (take n rec)))
    (next_status rec i (status_at rec i) (command_at rec i) (the-command rec i (omega arith)) refl)

drop-all : {X : Type 0} (xs : List X) (k : ℕ) → length xs ≤ k → drop k xs ≡ []
drop-all [] zero past = refl
drop-all [] (suc k) past = refl
drop-all (x ∷ xs) zero past = absurd (omega arith)
drop-all (x ∷ xs) (suc k) past = drop-all xs k (omega arith)

-- a part, and those after it
pub part_next : (rec : List Command) (n i k : ℕ) → k < length (actions_of rec (status_at rec i) (command_at rec i))
    → parts_left rec n i k ≡ numbered i (part_action rec (status_at rec i) (command_at rec i) k) ∷ parts_left rec n i (k + 1)
part_next rec n i k below =
    let acts : List Action = actions_of rec (status_at rec i) (command_at rec i) in
    ap (λ left. map (numbered i) left ++ commands_left rec n (i + 1))
    (drop-next acts k Rest below
    ∙ ap (λ a. a ∷ drop (k + 1) acts) (sym (ap (λ o. unwrap_or o Rest) (slice_get-get_or acts k Rest below))))

-- after the last the next command is left
pub parts_close : (rec : List Command) (n i k : ℕ) → length (actions_of rec (status_at rec i) (command_at rec i)) ≤ k → parts_left rec n i k ≡ commands_left rec n (i + 1)
parts_close rec n i k past =
    ap (λ left. map (numbered i) left ++ commands_left rec n (i + 1)) (drop-all (actions_of rec (status_at rec i) (command_at rec i)) k past)

-- and after the last command nothing
pub commands_close : (rec : List Command) (n : ℕ) → n ≤ length rec → commands_left rec n n ≡ []
unfolding actions_from
commands_close rec n within =
    ap (actions_from rec n (status_at rec n)) (drop-all (take n rec) n (let long : length (take n rec) ≡ n = length-taken n rec within in omega arith))

-- as many parts as pieces
pub pieces_are_parts : (rec : List Command) (z : Status) (c : Command) → not (is_device c) ≡ false → length (actions_of rec z c) ≡ piece_count c
pieces_are_parts rec z c device = parts-are_actions rec z c (is-true (is_device c) device)
  where
    is-true : (b : Bool) → not b ≡ false → b ≡ true
    is-true true e = refl
    is-true false e = absurd cc
