-- Which command and which piece an action of a recording belongs to.
use Rattle.std.proofs.Common.{◌≡◌, ◌<◌, ◌≤◌, ◌+◌, ◌++◌, ℕ, zero, suc, List, [], ◌∷◌, Some, ◌⊎◌, inl, inr, refl, sym, ◌∙◌, ap, subst, arith, append_assoc, map, length, take}
use Rattle.std.specs.Prelude.{slice_get, unwrap_or}
use Rattle.ray_cmd.specs.declared.command.Command.{Command}
use Rattle.ray_rules.specs.Hazards.{status_at}
use Rattle.ray_rules.specs.Status.{Status, at_first}
use Rattle.ray_rules.specs.Status as status
use Rattle.ray_action.specs.Action.{Rest}
use Rattle.ray_action.specs.Pieces.{Numbered, actions, actions_from, actions_of, numbered}
use Rattle.ray_action.specs.Clients.{Clients}
use Rattle.ray_action.specs.Running.{action_at, memory_before, number_at, unit_after, unit_at}
use Rattle.ray_ready.specs.Laws.{first_actions}
use Rattle.ray_ready.proofs.Recording.{Follow, next_status}
use Rattle.ray_permitted.proofs.Truth.{Part, Front, Back, in_front, item_at, made_of_item, never_none, part_of, within}

-- ---- one action

-- an action is piece number k of its command, which is below number n
pub record IsPiece (rec : List Command) (n : ℕ) (u : Numbered) (k : ℕ) : Type 0 where
  pub command : Command
  pub is_it : slice_get rec u.command ≡ Some command
  pub below : u.command < n
  pub piece : slice_get (actions_of rec (status_at rec u.command) command) k ≡ Some u.action

-- the same, of a command from number i on
record IsPieceFrom (rec : List Command) (n i : ℕ) (u : Numbered) : Type 0 where
  k : ℕ
  is_it : IsPiece rec n u k
  from : i ≤ u.command

-- the pieces of one command
here_piece : (rec : List Command) (n i : ℕ) (z : Status) (c : Command) (p : ℕ) (u : Numbered) → slice_get rec i ≡ Some c → z ≡ status_at rec i → i < n
    → slice_get (map (numbered i) (actions_of rec z c)) p ≡ Some u → IsPiece rec n u p × (u.command ≡ i)
here_piece rec n i z c p u is same less there =
    let a = made_of_item (numbered i) (actions_of rec z c) p u there in
    subst (λ v. IsPiece rec n v p × (v.command ≡ i)) a.2
    (record { command = c; is_it = is; below = less; piece = subst (λ s. slice_get (actions_of rec s c) p ≡ Some a.0) same a.1 }, refl)

later_follow : (rec : List Command) (i : ℕ) (c : Command) (cs : List Command) → Follow rec i (c ∷ cs) → Follow rec (i + 1) cs
later_follow rec i c cs follow q k d at there = follow q (suc k) d (omega (arith, at)) there

-- an action is in front, or later
later_piece : (rec : List Command) (n i : ℕ) (z : Status) (c : Command) (rest : List Numbered) (p : ℕ) (u : Numbered) → slice_get rec i ≡ Some c → z ≡ status_at rec i → i < n
    → Part (map (numbered i) (actions_of rec z c)) rest p u → ((k : ℕ) → slice_get rest k ≡ Some u → IsPieceFrom rec n (i + 1) u) → IsPieceFrom rec n i u
later_piece rec n i z c rest p u is same less (Front t) later =
    let h = here_piece rec n i z c p u is same less t in
    let at : u.command ≡ i = h.1 in
    record { k = p; is_it = h.0; from = omega (arith, at) }
later_piece rec n i z c rest p u is same less (Back k at t) later =
    let l = later k t in
    let from : i + 1 ≤ u.command = l.from in
    record { k = l.k; is_it = l.is_it; from = omega (arith, from) }

one_piece : (rec : List Command) (n i : ℕ) (z : Status) (cs : List Command) → Follow rec i cs → z ≡ status_at rec i → i + length cs ≤ n
    → (p : ℕ) (u : Numbered) → slice_get (actions_from rec i z cs) p ≡ Some u → IsPieceFrom rec n i u
unfolding actions_from
one_piece rec n i z [] follow same few p u there = never_none u there
one_piece rec n i z (c ∷ cs) follow same few p u there =
    let is : slice_get rec i ≡ Some c = follow i 0 c (omega arith) refl in
    let rest : List Numbered = actions_from rec (i + 1) (status.after i c z) cs in
    later_piece rec n i z c rest p u is same (omega (arith, few)) (part_of (map (numbered i) (actions_of rec z c)) rest p u there)
    (λ k t. one_piece rec n (i + 1) (status.after i c z) cs (later_follow rec i c cs follow) (next_status rec i z c is same) (omega (arith, few)) k u t)

-- ---- two actions

-- the first belongs to an earlier command, or is an earlier piece of the same one
pub record AreTwo (rec : List Command) (n : ℕ) (u v : Numbered) : Type 0 where
  pub k : ℕ
  pub m : ℕ
  pub first : IsPiece rec n u k
  pub second : IsPiece rec n v m
  pub apart : (u.command < v.command) ⊎ ((u.command ≡ v.command) × (k < m))

two_by_part : (rec : List Command) (n i : ℕ) (z : Status) (c : Command) (rest : List Numbered) (p q : ℕ) (u v : Numbered) → slice_get rec i ≡ Some c → z ≡ status_at rec i → i < n
    → p < q → Part (map (numbered i) (actions_of rec z c)) rest p u → Part (map (numbered i) (actions_of rec z c)) rest q v
    → ((k : ℕ) → slice_get rest k ≡ Some v → IsPieceFrom rec n (i + 1) v)
    → ((j k : ℕ) → j < k → slice_get rest j ≡ Some u → slice_get rest k ≡ Some v → AreTwo rec n u v) → AreTwo rec n u v
two_by_part rec n i z c rest p q u v is same below less (Front s) (Front t) one two =
    let a = here_piece rec n i z c p u is same below s in
    let b = here_piece rec n i z c q v is same below t in
    record { k = p; m = q; first = a.0; second = b.0; apart = inr (a.1 ∙ sym b.1, less) }
two_by_part rec n i z c rest p q u v is same below less (Front s) (Back k at t) one two =
    let a = here_piece rec n i z c p u is same below s in
    let b = one k t in
    let here : u.command ≡ i = a.1 in
    let from : i + 1 ≤ v.command = b.from in
    record { k = p; m = b.k; first = a.0; second = b.is_it; apart = inl (omega (arith, here, from)) }
two_by_part rec n i z c rest p q u v is same below less (Back j at s) (Front t) one two =
    let inside : q < length (map (numbered i) (actions_of rec z c)) = within (map (numbered i) (actions_of rec z c)) q v t in
    absurd (omega (arith, at, inside, less))
two_by_part rec n i z c rest p q u v is same below less (Back j at s) (Back k to t) one two = two j k (omega (arith, at, to, less)) s t

two_pieces : (rec : List Command) (n i : ℕ) (z : Status) (cs : List Command) (u v : Numbered) → Follow rec i cs → z ≡ status_at rec i → i + length cs ≤ n
    → (p q : ℕ) → p < q → slice_get (actions_from rec i z cs) p ≡ Some u → slice_get (actions_from rec i z cs) q ≡ Some v → AreTwo rec n u v
unfolding actions_from
two_pieces rec n i z [] u v follow same few p q less here there = never_none u here
two_pieces rec n i z (c ∷ cs) u v follow same few p q less here there =
    let is : slice_get rec i ≡ Some c = follow i 0 c (omega arith) refl in
    let front : List Numbered = map (numbered i) (actions_of rec z c) in
    let rest : List Numbered = actions_from rec (i + 1) (status.after i c z) cs in
    let next = next_status rec i z c is same in
    two_by_part rec n i z c rest p q u v is same (omega (arith, few)) less (part_of front rest p u here) (part_of front rest q v there)
    (λ k t. one_piece rec n (i + 1) (status.after i c z) cs (later_follow rec i c cs follow) next (omega (arith, few)) k v t)
    (λ j k l s t. two_pieces rec n (i + 1) (status.after i c z) cs u v (later_follow rec i c cs follow) next (omega (arith, few)) j k l s t)

-- ---- the actions of the first commands

taken : (n : ℕ) (rec : List Command) (k : ℕ) (c : Command) → slice_get (take n rec) k ≡ Some c → slice_get rec k ≡ Some c
taken zero rec k c is = never_none c is
taken (suc n) [] k c is = never_none c is
taken (suc n) (d ∷ rec) zero c is = is
taken (suc n) (d ∷ rec) (suc k) c is = taken n rec k c is

at_most : (n : ℕ) (rec : List Command) → 0 + length (take n rec) ≤ n
at_most zero rec = omega arith
at_most (suc n) [] = omega arith
at_most (suc n) (d ∷ rec) = let rest : 0 + length (take n rec) ≤ n = at_most n rec in omega (arith, rest)

first_follow : (rec : List Command) (n : ℕ) → Follow rec 0 (take n rec)
first_follow rec n q k c same is = subst (λ p. slice_get rec p ≡ Some c) (sym (same ∙ omega arith)) (taken n rec k c is)

pub piece_at : (rec : List Command) (n p : ℕ) (u : Numbered) → slice_get (first_actions rec n) p ≡ Some u → (k : ℕ) × IsPiece rec n u k
piece_at rec n p u there =
    let f = one_piece rec n 0 at_first (take n rec) (first_follow rec n) refl (at_most n rec) p u there in (f.k, f.is_it)

pub two_at : (rec : List Command) (n p q : ℕ) (u v : Numbered) → p < q → slice_get (first_actions rec n) p ≡ Some u → slice_get (first_actions rec n) q ≡ Some v
    → AreTwo rec n u v
two_at rec n p q u v less here there =
    two_pieces rec n 0 at_first (take n rec) u v (first_follow rec n) refl (at_most n rec) p q less here there

-- they are the first of all actions
prefix : (rec : List Command) (i : ℕ) (z : Status) (cs : List Command) (m : ℕ) → (rest : List Numbered) × (actions_from rec i z cs ≡ actions_from rec i z (take m cs) ++ rest)
unfolding actions_from
prefix rec i z cs zero = (actions_from rec i z cs, refl)
prefix rec i z [] (suc m) = ([], refl)
prefix rec i z (c ∷ cs) (suc m) =
    let front : List Numbered = map (numbered i) (actions_of rec z c) in
    let later = prefix rec (i + 1) (status.after i c z) cs m in
    (later.0, ap (λ us. front ++ us) later.1 ∙ sym (append_assoc front (actions_from rec (i + 1) (status.after i c z) (take m cs)) later.0))

pub first_of_all : (rec : List Command) (n : ℕ) → (rest : List Numbered) × (actions rec ≡ first_actions rec n ++ rest)
first_of_all rec n = prefix rec 0 at_first rec n

-- ---- by number

pub whole_unit : (units : List Numbered) (p : ℕ) (u : Numbered) → slice_get units p ≡ Some u → unit_at units p ≡ u
whole_unit units p u is = ap (λ found. unwrap_or found (numbered 0 Rest)) is

pub unit_is : (units : List Numbered) (p : ℕ) (u : Numbered) → slice_get units p ≡ Some u → (action_at units p ≡ u.action) × (number_at units p ≡ u.command)
unit_is units p u is =
    let same = whole_unit units p u is in (ap (λ (v : Numbered). v.action) same, ap (λ (v : Numbered). v.command) same)

-- what holds of the first of a list holds in the whole list
pub unit_in_front : (us rest : List Numbered) (p : ℕ) → p < length us → unit_at (us ++ rest) p ≡ unit_at us p
unit_in_front us rest p less =
    let u = item_at us p less in
    whole_unit (us ++ rest) p u.0 (in_front us rest p u.0 u.1) ∙ sym (whole_unit us p u.0 u.1)

pub memory_in_front : (clients : Clients) (us rest : List Numbered) (p : ℕ) → p ≤ length us
    → memory_before clients (us ++ rest) p ≡ memory_before clients us p
memory_in_front clients us rest zero upto = refl
memory_in_front clients us rest (suc p) upto =
    let before = memory_in_front clients us rest p (omega (arith, upto)) in
    let same = unit_in_front us rest p (omega (arith, upto)) in
    λ i. unit_after clients (same i) (before i)
