-- The actions of the first commands by number, and the pieces that they are.
use Rattle.std.proofs.Common.{ℕ, zero, suc, ◌≡◌, ◌<◌, ◌≤◌, ◌+◌, ◌++◌, ◌⊎◌, inl, inr, Bool, true, false, List, [], ◌∷◌, length, map, filter, flat_map, get_or, Some, refl, ap, sym, subst, ◌∙◌, arith}
use Rattle.std.specs.Prelude.{◌==◌, ◌&&◌, not, nat_lt, slice_get, unwrap_or}
use Rattle.std.specs.List.{range_with_len}
use Rattle.std.proofs.lemmas.Bool.{cases_Bool, cond-true, cond-false, eq-eqb, eqb-true, ltb-true, lt-ltb, and_parts, and_from}
use Rattle.std.proofs.lemmas.List.FromFn.{fill_by_all}
use Rattle.std.proofs.lemmas.Option.{slice_get-get_or}
use Rattle.ray_schedule.specs.Waves.{IsAmong, EachLater}
use Rattle.ray_cmd.specs.declared.command.Command.{Command}
use Rattle.ray_rules.specs.Hazards.{status_at}
use Rattle.ray_action.specs.Action.{Action, Rest}
use Rattle.ray_action.specs.Pieces.{Numbered, actions_of, numbered}
use Rattle.ray_action.specs.Pieces as actions
use Rattle.ray_action.specs.Running.{action_at, number_at}
use Rattle.ray_ready.specs.Laws.{first_actions}
use Rattle.ray_permitted.proofs.Units.{AreTwo, two_at, unit_is}
use Rattle.ray_permitted.proofs.Truth.{item_at}
use Rattle.ray_device.specs.declared.piece.Piece.{Piece}
use Rattle.ray_device.specs.Pieces.{is_device, piece_action, piece_count}
use Rattle.ray_exec.specs.Waves.{IsPart, commands_of_wave, part, part_count, pieces_below, pieces_of, wave_at}
use Rattle.ray_exec.proofs.Hosting.{host_parts}
use Rattle.ray_exec.proofs.Lists.{among_get, among-filter, among-range, filter-among, filter-map, filter_blocks, filter_both, filter_same, later-filter, listed, map-among, range-among, range-rises}
use Rattle.ray_exec.proofs.Progress.{commands_close, commands_left, parts_open, pieces_are_parts}

-- the pieces of the first n commands
abbrev pub all_pieces : List Command → ℕ → List Piece
all_pieces rec n = flat_map (pieces_of rec) (range_with_len 0 n)

abbrev pub piece_at : List Command → ℕ → ℕ → Piece
piece_at rec n p = get_or (all_pieces rec n) p (part 0 0)

-- a piece as the action that it is
abbrev unit_of : List Command → Piece → Numbered
unit_of rec piece = numbered piece.command (piece_action rec piece)

-- ---- lists

map_twice : {X Y Z : Type 0} (g : Y → Z) (f : X → Y) (xs : List X) → map g (map f xs) ≡ map (λ x. g (f x)) xs
map_twice g f [] = refl
map_twice g f (x ∷ xs) = ap (λ zs. g (f x) ∷ zs) (map_twice g f xs)

map_append : {X Y : Type 0} (f : X → Y) (xs ys : List X) → map f (xs ++ ys) ≡ map f xs ++ map f ys
map_append f [] ys = refl
map_append f (x ∷ xs) ys = ap (λ zs. f x ∷ zs) (map_append f xs ys)

length_map : {X Y : Type 0} (f : X → Y) (xs : List X) → length (map f xs) ≡ length xs
length_map f [] = refl
length_map f (x ∷ xs) = ap suc (length_map f xs)

get_map : {X Y : Type 0} (f : X → Y) (xs : List X) (p : ℕ) (d : X) → p < length xs → slice_get (map f xs) p ≡ Some (f (get_or xs p d))
get_map f [] p d less = absurd (omega (arith, less))
get_map f (x ∷ xs) zero d less = refl
get_map f (x ∷ xs) (suc p) d less = get_map f xs p d (omega (arith, less))

among_append : {X : Type 0} (y : X) (xs ys : List X) → IsAmong y (xs ++ ys) → IsAmong y xs ⊎ IsAmong y ys
among_append y [] ys a = inr a
among_append y (x ∷ xs) ys (inl same) = inl (inl same)
among_append y (x ∷ xs) ys (inr later) = elim (among_append y xs ys later) [ inl b ↦ inl (inr b) | inr b ↦ inr b ]

among_blocks : {X Y : Type 0} (f : X → List Y) (y : Y) (xs : List X) → IsAmong y (flat_map f xs) → (x : X) × IsAmong x xs × IsAmong y (f x)
among_blocks f y [] a = absurd a
among_blocks f y (x ∷ xs) a = elim (among_append y (f x) (flat_map f xs) a) [
  | inl here ↦ (x, inl refl, here)
  | inr later ↦ (let r = among_blocks f y xs later in (r.0, inr r.1, r.2))
]

-- ---- the actions are the pieces

is-false : (b : Bool) → b ≡ true → not b ≡ false
is-false true e = refl
is-false false e = absurd cc

is-host : (b : Bool) → b ≡ false → not b ≡ true
is-host true e = absurd cc
is-host false e = refl

many_parts : (rec : List Command) (i : ℕ) (c : Command) → length (actions_of rec (status_at rec i) c) ≡ part_count c
many_parts rec i c = elim (cases_Bool (is_device c)) [
  | inl device ↦
      pieces_are_parts rec (status_at rec i) c (is-false (is_device c) device)
      ∙ sym (cond-true (is_device c) (piece_count c) 1 device)
  | inr host ↦
      ap length (host_parts rec (status_at rec i) c (is-host (is_device c) host))
      ∙ sym (cond-false (is_device c) (piece_count c) 1 host)
]

one_block : (rec : List Command) (i : ℕ) → map (numbered i) (actions_of rec (status_at rec i) (actions.command_at rec i)) ≡ map (unit_of rec) (pieces_of rec i)
one_block rec i =
    let c : Command = actions.command_at rec i in
    let acts : List Action = actions_of rec (status_at rec i) c in
    let by_number : acts ≡ map (λ k. unwrap_or (slice_get acts k) Rest) (range_with_len 0 (part_count c)) =
    fill_by_all (λ k. unwrap_or (slice_get acts k) Rest) acts (part_count c) Rest (many_parts rec i c)
    (λ k less. let many = many_parts rec i c in sym (ap (λ o. unwrap_or o Rest) (slice_get-get_or acts k Rest (omega (arith, many, less))))) in
    ap (map (numbered i)) by_number
    ∙ (map_twice (numbered i) (λ k. unwrap_or (slice_get acts k) Rest) (range_with_len 0 (part_count c))
    ∙ sym (map_twice (unit_of rec) (part i) (range_with_len 0 (part_count c))))

units_from : (rec : List Command) (n i j : ℕ) → n ≤ length rec → i + j ≡ n → commands_left rec n i ≡ map (unit_of rec) (flat_map (pieces_of rec) (range_with_len i j))
units_from rec n i zero within all =
    let last : i ≡ n = omega (arith, all) in ap (commands_left rec n) last ∙ commands_close rec n within
units_from rec n i (suc j) within all =
    parts_open rec n i (omega (arith, all)) within
    ∙ (ap (λ us. us ++ commands_left rec n (i + 1)) (one_block rec i)
    ∙ (ap (λ us. map (unit_of rec) (pieces_of rec i) ++ us) (units_from rec n (i + 1) j within (omega (arith, all)))
    ∙ sym (map_append (unit_of rec) (pieces_of rec i) (flat_map (pieces_of rec) (range_with_len (i + 1) j)))))

units_are : (rec : List Command) (n : ℕ) → n ≤ length rec → first_actions rec n ≡ map (unit_of rec) (all_pieces rec n)
units_are rec n within = units_from rec n 0 n within (omega arith)

pub as_many : (rec : List Command) (n : ℕ) → n ≤ length rec → length (first_actions rec n) ≡ length (all_pieces rec n)
as_many rec n within = ap length (units_are rec n within) ∙ length_map (unit_of rec) (all_pieces rec n)

unit_there : (rec : List Command) (n p : ℕ) → n ≤ length rec → p < length (first_actions rec n) → slice_get (first_actions rec n) p ≡ Some (unit_of rec (piece_at rec n p))
unit_there rec n p within less =
    let many = as_many rec n within in
    ap (λ us. slice_get us p) (units_are rec n within) ∙ get_map (unit_of rec) (all_pieces rec n) p (part 0 0) (omega (arith, many, less))

-- the action of a number is that of its piece, and belongs to its command
pub action_is : (rec : List Command) (n p : ℕ) → n ≤ length rec → p < length (first_actions rec n) → action_at (first_actions rec n) p ≡ piece_action rec (piece_at rec n p)
action_is rec n p within less = (unit_is (first_actions rec n) p (unit_of rec (piece_at rec n p)) (unit_there rec n p within less)).0

pub command_is : (rec : List Command) (n p : ℕ) → n ≤ length rec → p < length (first_actions rec n) → number_at (first_actions rec n) p ≡ (piece_at rec n p).command
command_is rec n p within less = (unit_is (first_actions rec n) p (unit_of rec (piece_at rec n p)) (unit_there rec n p within less)).1

-- it is a part of a command below n
pub is_part : (rec : List Command) (n p : ℕ) → n ≤ length rec → p < length (first_actions rec n) → IsPart rec (piece_at rec n p) × ((piece_at rec n p).command < n)
is_part rec n p within less =
    let many = as_many rec n within in
    let block = among_blocks (pieces_of rec) (piece_at rec n p) (range_with_len 0 n) (among_get (all_pieces rec n) p (part 0 0) (omega (arith, many, less))) in
    let there = map-among (part block.0) (piece_at rec n p) (range_with_len 0 (part_count (actions.command_at rec block.0))) block.2 in
    let number = among-range 0 n block.0 block.1 in
    let below : block.0 < n = (let u = number.1 in omega (arith, u)) in
    let inside = among-range 0 (part_count (actions.command_at rec block.0)) there.0 there.1 in
    let upto : there.0 < part_count (actions.command_at rec block.0) = (let u = inside.1 in omega (arith, u)) in
    subst (λ (piece : Piece). IsPart rec piece × (piece.command < n)) (sym there.2)
    (record { command = omega (arith, below, within); part = upto }, below)

-- commands rise with numbers
pub commands_rise : (rec : List Command) (n p q : ℕ) → n ≤ length rec → p < q → q < length (first_actions rec n)
    → number_at (first_actions rec n) p ≤ number_at (first_actions rec n) q
commands_rise rec n p q within less below =
    let us : List Numbered = first_actions rec n in
    let u = item_at us p (omega (arith, less, below)) in
    let v = item_at us q below in
    let two : AreTwo rec n u.0 v.0 = two_at rec n p q u.0 v.0 less u.1 v.1 in
    let first : number_at us p ≡ u.0.command = (unit_is us p u.0 u.1).1 in
    let second : number_at us q ≡ v.0.command = (unit_is us q v.0 v.1).1 in
    elim two.apart [
      | inl l ↦ omega (arith, l, first, second)
      | inr same ↦ (let s : u.0.command ≡ v.0.command = same.0 in omega (arith, s, first, second))
    ]

-- ---- a wave

-- the numbers of the actions of wave v whose commands are below a bound
abbrev pub numbers_in : List Command → List ℕ → ℕ → ℕ → ℕ → List ℕ
numbers_in rec numbers n v bound =
    filter (λ p. (wave_at numbers (piece_at rec n p).command == v) && nat_lt (piece_at rec n p).command bound) (range_with_len 0 (length (all_pieces rec n)))

pub wave_pieces : (rec : List Command) (numbers : List ℕ) (n v bound : ℕ) → pieces_below rec bound (commands_of_wave numbers n v) ≡ map (piece_at rec n) (numbers_in rec numbers n v bound)
wave_pieces rec numbers n v bound =
    let test : Piece → Bool = λ piece. (wave_at numbers piece.command == v) && nat_lt piece.command bound in
    let passes : ℕ → Bool = λ i. (wave_at numbers i == v) && nat_lt i bound in
    ap (flat_map (pieces_of rec)) (filter_both (λ i. nat_lt i bound) (λ i. wave_at numbers i == v) (range_with_len 0 n))
    ∙ (sym (filter_blocks test passes (pieces_of rec)
    (λ i. filter_same test (part i) (passes i) (λ k. refl) (range_with_len 0 (part_count (actions.command_at rec i)))) (range_with_len 0 n))
    ∙ (ap (filter test) (listed (all_pieces rec n) (part 0 0))
    ∙ filter-map test (piece_at rec n) (range_with_len 0 (length (all_pieces rec n)))))

pub numbers_rise : (rec : List Command) (numbers : List ℕ) (n v bound : ℕ) → EachLater (λ p q. p < q) (numbers_in rec numbers n v bound)
numbers_rise rec numbers n v bound =
    later-filter (λ p q. p < q) (λ p. (wave_at numbers (piece_at rec n p).command == v) && nat_lt (piece_at rec n p).command bound)
    (range_with_len 0 (length (all_pieces rec n))) (range-rises 0 (length (all_pieces rec n)))

-- which they are
pub record IsNumberIn (rec : List Command) (numbers : List ℕ) (n v bound p : ℕ) : Type 0 where
  pub below : p < length (first_actions rec n)
  pub wave : wave_at numbers (number_at (first_actions rec n) p) ≡ v
  pub command : number_at (first_actions rec n) p < bound

pub numbers_are : (rec : List Command) (numbers : List ℕ) (n v bound p : ℕ) → n ≤ length rec → IsAmong p (numbers_in rec numbers n v bound) → IsNumberIn rec numbers n v bound p
numbers_are rec numbers n v bound p within a =
    let many = as_many rec n within in
    let f = among-filter (λ q. (wave_at numbers (piece_at rec n q).command == v) && nat_lt (piece_at rec n q).command bound) p (range_with_len 0 (length (all_pieces rec n))) a in
    let upto = among-range 0 (length (all_pieces rec n)) p f.0 in
    let less : p < length (first_actions rec n) = (let u = upto.1 in omega (arith, u, many)) in
    let parts = and_parts (wave_at numbers (piece_at rec n p).command == v) (nat_lt (piece_at rec n p).command bound) f.1 in
    let at = command_is rec n p within less in
    record {
      below = less;
      wave = ap (wave_at numbers) at ∙ eqb-true (wave_at numbers (piece_at rec n p).command) v parts.0;
      command = subst (λ i. i < bound) (sym at) (ltb-true (piece_at rec n p).command bound parts.1);
    }

pub numbers_there : (rec : List Command) (numbers : List ℕ) (n v bound p : ℕ) → n ≤ length rec → IsNumberIn rec numbers n v bound p → IsAmong p (numbers_in rec numbers n v bound)
numbers_there rec numbers n v bound p within is =
    let many = as_many rec n within in
    let less : p < length (first_actions rec n) = is.below in
    let at = command_is rec n p within less in
    filter-among (λ q. (wave_at numbers (piece_at rec n q).command == v) && nat_lt (piece_at rec n q).command bound) p (range_with_len 0 (length (all_pieces rec n)))
    (range-among 0 (length (all_pieces rec n)) p (omega arith) (omega (arith, less, many)))
    (and_from (wave_at numbers (piece_at rec n p).command == v) (nat_lt (piece_at rec n p).command bound)
    (eq-eqb (wave_at numbers (piece_at rec n p).command) v (ap (wave_at numbers) (sym at) ∙ is.wave))
    (lt-ltb (piece_at rec n p).command bound (subst (λ i. i < bound) at is.command)))
