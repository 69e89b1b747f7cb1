-- The stores of a wave, one after the other.
use Rattle.std.proofs.Common.{ℕ, ◌≡◌, ◌<◌, ◌++◌, inl, inr, Bool, true, false, List, [], ◌∷◌, length, Some, None, refl, ap, sym, subst, ◌∙◌, arith, append-nil}
use Rattle.std.specs.Prelude.{not, slice_get, unwrap_or}
use Rattle.std.proofs.lemmas.Bool.{cond-true, cond-false, false_from_ne_true}
use Rattle.ray_schedule.specs.Waves.{IsAmong}
use Rattle.ray_cmd.specs.declared.command.Command.{Command}
use Rattle.ray_cmd.specs.declared.refusal.Refusal.{Refusal}
use Rattle.ray_rules.specs.Hazards.{status_at}
use Rattle.ray_action.specs.Memory.{Location, Memory}
use Rattle.ray_action.specs.Areas.{AgreeOn, cover}
use Rattle.ray_action.specs.Action.{Action, Rest, areas_read}
use Rattle.ray_action.specs.Clients.{Clients, Meaning}
use Rattle.ray_action.specs.Outcomes.{Output, Gives}
use Rattle.ray_action.specs.Pieces.{command_at, host_action}
use Rattle.ray_action.specs.Readiness.{IsReady}
use Rattle.ray_action.specs.Running.{text_with}
use Rattle.ray_action.specs.Storing.{left, put, writes}
use Rattle.ray_action.specs.Text.{text_of}
use Rattle.ray_action.proofs.Local.{outcomes_local}
use Rattle.ray_ready.proofs.Local.{ready_local}
use Rattle.ray_device.specs.Fetched.{Fetched}
use Rattle.ray_device.specs.declared.piece.Piece.{Piece}
use Rattle.ray_device.specs.Pieces.{IsPiece, is_device, piece_action, piece_count}
use Rattle.ray_device.specs.Storing.{IsStorable}
use Rattle.ray_exec.specs.declared.given.Given.{Given}
use Rattle.ray_exec.specs.declared.given.Given.TheVariants.{Out, Broken, ByHost}
use Rattle.ray_exec.specs.Given.{AreGiven, AreReady, IsGivenBy}
use Rattle.ray_exec.specs.Settled.{AreApart, IsLeftBy, Settled, settled, then_settled}
use Rattle.ray_exec.specs.Steps.{IsBroken, IsShown, piece_outcome}
use Rattle.ray_exec.specs.Waves.{IsPart}
use Rattle.ray_exec.proofs.Hosting.{can_be_stored, host_parts}
use Rattle.ray_exec.proofs.Silent.{part_silent}

-- pieces are left whose outputs are these; what is left to store comes to the whole
pub record IsUnderWay (rec : List Command) (clients : Clients) (before : Memory) (whole : Settled) (outs : List Given) (memory : Memory) (text : List ℕ) : Type 0 where
  pub pieces : List Piece
  pub given : AreGiven rec clients before pieces outs
  pub ready : (piece : Piece) → IsAmong piece pieces → IsPart rec piece × IsReady (piece_action rec piece) before
  pub agree : (piece : Piece) → IsAmong piece pieces → AgreeOn (areas_read (piece_action rec piece)) memory before
  pub apart : AreApart rec pieces
  pub comes : settled rec clients before pieces memory text ≡ whole

-- the first of them, and the others
pub record IsFirst (rec : List Command) (clients : Clients) (before : Memory) (whole : Settled) (given : Given) (outs : List Given) (memory : Memory) (text : List ℕ) : Type 0 where
  pub piece : Piece
  pub pieces : List Piece
  pub is : IsGivenBy rec clients before piece given
  pub given_later : AreGiven rec clients before pieces outs
  pub part : IsPart rec piece
  pub ready : IsReady (piece_action rec piece) before
  pub ready_later : (other : Piece) → IsAmong other pieces → IsPart rec other × IsReady (piece_action rec other) before
  pub agree : AgreeOn (areas_read (piece_action rec piece)) memory before
  pub agree_later : (other : Piece) → IsAmong other pieces → AgreeOn (areas_read (piece_action rec other)) memory before
  pub apart : (other : Piece) → IsAmong other pieces → (l : Location) → writes (piece_action rec piece) l ≡ true → cover (areas_read (piece_action rec other)) l ≡ true → ⊥
  pub apart_later : AreApart rec pieces
  pub comes : settled rec clients before (piece ∷ pieces) memory text ≡ whole

first_of : (rec : List Command) (clients : Clients) (before : Memory) (whole : Settled) (g : Given) (outs : List Given) (memory : Memory) (text : List ℕ) (pieces : List Piece)
    → AreGiven rec clients before pieces (g ∷ outs)
    → ((piece : Piece) → IsAmong piece pieces → IsPart rec piece × IsReady (piece_action rec piece) before)
    → ((piece : Piece) → IsAmong piece pieces → AgreeOn (areas_read (piece_action rec piece)) memory before)
    → AreApart rec pieces → settled rec clients before pieces memory text ≡ whole → IsFirst rec clients before whole g outs memory text
first_of rec clients before whole g outs memory text [] given ready agree apart comes = absurd given
first_of rec clients before whole g outs memory text (piece ∷ pieces) given ready agree apart comes = record {
  piece = piece;
  pieces = pieces;
  is = given.0;
  given_later = given.1;
  part = (ready piece (inl refl)).0;
  ready = (ready piece (inl refl)).1;
  ready_later = λ other a. ready other (inr a);
  agree = agree piece (inl refl);
  agree_later = λ other a. agree other (inr a);
  apart = apart.0;
  apart_later = apart.1;
  comes = comes;
}

pub first : (rec : List Command) (clients : Clients) (before : Memory) (whole : Settled) (g : Given) (outs : List Given) (memory : Memory) (text : List ℕ)
    → IsUnderWay rec clients before whole (g ∷ outs) memory text → IsFirst rec clients before whole g outs memory text
first rec clients before whole g outs memory text is =
    first_of rec clients before whole g outs memory text is.pieces is.given is.ready is.agree is.apart is.comes

pub first_is : (rec : List Command) (clients : Clients) (before : Memory) (whole : Settled) (all : List Given) (g h : Given) (outs : List Given) (memory : Memory) (text : List ℕ)
    → IsUnderWay rec clients before whole all memory text → all ≡ g ∷ outs → g ≡ h → IsFirst rec clients before whole h outs memory text
first_is rec clients before whole all g h outs memory text is split same =
    first rec clients before whole h outs memory text
    (subst (λ gs. IsUnderWay rec clients before whole gs memory text) (split ∙ ap (λ x. x ∷ outs) same) is)

-- ---- the beginning and the end

pub starts : (can : Command → Type 0) (rec : List Command) (clients : Clients) (memory : Memory) (pieces : List Piece) (outs : List Given) (text : List ℕ) → AreReady can rec memory pieces → AreApart rec pieces
    → AreGiven rec clients memory pieces outs → IsUnderWay rec clients memory (settled rec clients memory pieces memory text) outs memory text
starts can rec clients memory pieces outs text ready apart given = record {
  pieces = pieces;
  given = given;
  ready = ready.each;
  agree = λ piece a l reads. refl;
  apart = apart;
  comes = refl;
}

none_left : (rec : List Command) (clients : Clients) (before : Memory) (whole : Settled) (memory : Memory) (text : List ℕ) (pieces : List Piece) → AreGiven rec clients before pieces []
    → settled rec clients before pieces memory text ≡ whole → IsLeftBy whole memory text None
none_left rec clients before whole memory text [] given comes =
    subst (λ w. IsLeftBy w memory text None) comes (record { same_memory = λ l. refl; same_text = refl; same_stop = refl })
none_left rec clients before whole memory text (piece ∷ pieces) given comes = absurd given

pub ends : (rec : List Command) (clients : Clients) (before : Memory) (whole : Settled) (memory : Memory) (text : List ℕ) → IsUnderWay rec clients before whole [] memory text → IsLeftBy whole memory text None
ends rec clients before whole memory text is = none_left rec clients before whole memory text is.pieces is.given is.comes

pub stops : (rec : List Command) (clients : Clients) (before : Memory) (whole : Settled) (refusal : Refusal) (outs : List Given) (memory : Memory) (text : List ℕ)
    → IsFirst rec clients before whole (Broken refusal) outs memory text → IsLeftBy whole memory text (Some refusal)
stops rec clients before whole refusal outs memory text f =
    let broken : IsBroken f.piece.command (piece_outcome rec clients f.piece before) refusal = f.is in
    let later : Settled = settled rec clients before f.pieces (put (piece_action rec f.piece) (piece_outcome rec clients f.piece before) memory)
    (text ++ text_with (piece_action rec f.piece) (piece_outcome rec clients f.piece before)) in
    subst (λ w. IsLeftBy w memory text (Some refusal)) (sym (ap (λ x. then_settled f.piece.command x memory text later) broken.broken) ∙ f.comes)
    (record { same_memory = λ l. refl; same_text = refl; same_stop = ap Some broken.named })

-- ---- one more is stored

put-unwritten : (a : Action) (o : Output) (m : Memory) (l : Location) → writes a l ≡ false → put a (Gives o) m l ≡ m l
put-unwritten a o m l none = cond-false (writes a l) (left a (Gives o) l (m l)) (m l) none

pub goes_on : (rec : List Command) (clients : Clients) (before : Memory) (whole : Settled) (g : Given) (outs : List Given) (old new : Memory) (text text_new : List ℕ) (output : Output)
    → (f : IsFirst rec clients before whole g outs old text) → piece_outcome rec clients f.piece before ≡ Gives output
    → ((l : Location) → new l ≡ put (piece_action rec f.piece) (Gives output) old l) → text_new ≡ text ++ text_of (piece_action rec f.piece) output
    → IsUnderWay rec clients before whole outs new text_new
goes_on rec clients before whole g outs old new text text_new output f gives stored told =
    let a : Action = piece_action rec f.piece in
    let memory : new ≡ put a (Gives output) old = λ i l. stored l i in
    record {
      pieces = f.pieces;
      given = f.given_later;
      ready = f.ready_later;
      agree = λ other among l reads.
          stored l
          ∙ (put-unwritten a output old l (false_from_ne_true (writes a l) (λ w. f.apart other among l w reads))
          ∙ f.agree_later other among l reads);
      apart = f.apart_later;
      comes =
          (λ i. settled rec clients before f.pieces (memory i) (told i))
          ∙ (sym (ap (λ x. then_settled f.piece.command x old text (settled rec clients before f.pieces (put a x old) (text ++ text_with a x))) gives)
          ∙ f.comes);
    }

-- ---- a piece of the device

here_given : (rec : List Command) (clients : Clients) (before : Memory) (whole : Settled) (g : Given) (outs : List Given) (memory : Memory) (text : List ℕ) (output : Output)
    → (f : IsFirst rec clients before whole g outs memory text) → piece_outcome rec clients f.piece before ≡ Gives output → piece_outcome rec clients f.piece memory ≡ Gives output
here_given rec clients before whole g outs memory text output f gives = outcomes_local (clients f.piece.command) (piece_action rec f.piece) memory before f.agree ∙ gives

here_ready : (rec : List Command) (clients : Clients) (before : Memory) (whole : Settled) (g : Given) (outs : List Given) (memory : Memory) (text : List ℕ)
    → (f : IsFirst rec clients before whole g outs memory text) → IsReady (piece_action rec f.piece) memory
here_ready rec clients before whole g outs memory text f =
    ready_local (piece_action rec f.piece) before memory (λ l reads. sym (f.agree l reads)) f.ready

pub is_piece : (rec : List Command) (clients : Clients) (before : Memory) (whole : Settled) (out : Fetched) (outs : List Given) (memory : Memory) (text : List ℕ)
    → IsFirst rec clients before whole (Out out) outs memory text → IsPiece rec out.piece
is_piece rec clients before whole out outs memory text f =
    let is = f.is in
    let c : Command = command_at rec f.piece.command in
    subst (IsPiece rec) (sym is.1)
    (record { command = f.part.command; part = subst (λ n. f.piece.part < n) (cond-true (is_device c) (piece_count c) 1 is.0) f.part.part })

pub storable : (rec : List Command) (clients : Clients) (before : Memory) (whole : Settled) (out : Fetched) (outs : List Given) (memory : Memory) (text : List ℕ)
    → IsFirst rec clients before whole (Out out) outs memory text → IsStorable (piece_action rec out.piece) out.output memory
storable rec clients before whole out outs memory text f =
    let is = f.is in
    can_be_stored clients rec f.piece out.piece out.output memory is.1 (here_ready rec clients before whole (Out out) outs memory text f)
    (here_given rec clients before whole (Out out) outs memory text out.output f is.2)

pub stored : (rec : List Command) (clients : Clients) (before : Memory) (whole : Settled) (out : Fetched) (outs : List Given) (old new : Memory) (text : List ℕ)
    → IsFirst rec clients before whole (Out out) outs old text → ((l : Location) → new l ≡ put (piece_action rec out.piece) (Gives out.output) old l)
    → IsUnderWay rec clients before whole outs new text
stored rec clients before whole out outs old new text f is_stored =
    let is = f.is in
    goes_on rec clients before whole (Out out) outs old new text text out.output f is.2
    (subst (λ p. (l : Location) → new l ≡ put (piece_action rec p) (Gives out.output) old l) is.1 is_stored)
    (sym (append-nil text) ∙ ap (λ t. text ++ t) (sym (part_silent rec (status_at rec f.piece.command) (command_at rec f.piece.command) f.piece.part out.output is.0)))

-- ---- a command of the host

host-is : (b : Bool) → b ≡ false → not b ≡ true
host-is true e = absurd cc
host-is false e = refl

host_piece : (rec : List Command) (piece : Piece) → IsPart rec piece → is_device (command_at rec piece.command) ≡ false
    → piece_action rec piece ≡ host_action (command_at rec piece.command)
host_piece rec piece is host =
    let c : Command = command_at rec piece.command in
    let one : piece.part < 1 = subst (λ n. piece.part < n) (cond-false (is_device c) (piece_count c) 1 host) is.part in
    let none : piece.part ≡ 0 = omega (arith, one) in
    ap (λ acts. unwrap_or (slice_get acts piece.part) Rest) (host_parts rec (status_at rec piece.command) c (host-is (is_device c) host))
    ∙ ap (λ k. unwrap_or (slice_get (host_action c ∷ []) k) Rest) none

-- the command that the host does
pub record IsHost (rec : List Command) (memory : Memory) (command : ℕ) : Type 0 where
  pub within : command < length rec
  pub ready : IsReady (host_action (command_at rec command)) memory

pub by_host : (rec : List Command) (clients : Clients) (before : Memory) (whole : Settled) (command : ℕ) (outs : List Given) (memory : Memory) (text : List ℕ)
    → IsFirst rec clients before whole (ByHost command) outs memory text → IsHost rec memory command
by_host rec clients before whole command outs memory text f =
    let is = f.is in
    subst (IsHost rec memory) (sym is.1) (record {
      within = f.part.command;
      ready = subst (λ a. IsReady a memory) (host_piece rec f.piece f.part is.0) (here_ready rec clients before whole (ByHost command) outs memory text f);
    })

pub shown : (rec : List Command) (clients : Clients) (before : Memory) (whole : Settled) (command : ℕ) (outs : List Given) (old new : Memory) (text text_new : List ℕ)
    → IsFirst rec clients before whole (ByHost command) outs old text
    → ((meaning : Meaning) → IsShown meaning (host_action (command_at rec command)) old new text text_new)
    → IsUnderWay rec clients before whole outs new text_new
shown rec clients before whole command outs old new text text_new f done =
    let is = f.is in
    let action : host_action (command_at rec command) ≡ piece_action rec f.piece =
    ap (λ i. host_action (command_at rec i)) is.1 ∙ sym (host_piece rec f.piece f.part is.0) in
    let meaning : Meaning = clients f.piece.command in
    let here : IsShown meaning (piece_action rec f.piece) old new text text_new =
    subst (λ a. IsShown meaning a old new text text_new) action (done meaning) in
    goes_on rec clients before whole (ByHost command) outs old new text text_new here.output f
    (sym (outcomes_local (clients f.piece.command) (piece_action rec f.piece) old before f.agree) ∙ here.gives) here.memory here.text
