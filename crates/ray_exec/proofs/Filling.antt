-- The lists of commands and of pieces, one more at a time.
use Rattle.std.proofs.Common.{ℕ, zero, suc, ◌≡◌, ◌<◌, ◌≤◌, ◌+◌, ◌++◌, Bool, true, false, cond, List, [], ◌∷◌, length, map, filter, flat_map, take, get_or, Some, Vec, refl, ap, sym, subst, ◌∙◌, arith, inl, inr, append_assoc, append-nil}
use Rattle.std.specs.Prelude.{◌==◌, nat_lt, slice_get}
use Rattle.std.specs.declared.alloc.Global.{Global}
use Rattle.std.specs.List.{range_with_len}
use Rattle.std.proofs.lemmas.Bool.{cases_eq, cond-true, cond-false, eq-eqb, ne_eqb}
use Rattle.std.proofs.lemmas.Option.{slice_get_within}
use Rattle.std.proofs.lemmas.List.Elements.{filter_more}
use Rattle.ray_cmd.specs.declared.command.Command.{Command}
use Rattle.ray_schedule.specs.Waves.{IsAmong}
use Rattle.ray_permitted.proofs.Truth.{item_at}
use Rattle.ray_device.specs.declared.piece.Piece.{Piece}
use Rattle.ray_exec.specs.Waves.{AreEmpty, AreWavesOf, HasOneMore, commands_of_wave, part, pieces_below, pieces_of, wave_at}
use Rattle.ray_exec.proofs.Lists.{among-filter, among-range, among_get, filter_append}

-- ---- pieces

range_more : (a n : ℕ) → range_with_len a (suc n) ≡ range_with_len a n ++ (a + n) ∷ []
range_more a zero = ap (λ k. k ∷ []) (let e : a ≡ a + 0 = omega arith in e)
range_more a (suc n) = ap (λ ks. a ∷ ks) (range_more (a + 1) n ∙ ap (λ k. range_with_len (a + 1) n ++ k ∷ []) (let e : a + 1 + n ≡ a + suc n = omega arith in e))

range_next : (n : ℕ) → range_with_len 0 (n + 1) ≡ range_with_len 0 n ++ n ∷ []
range_next n =
    ap (range_with_len 0) (let e : n + 1 ≡ suc n = omega arith in e)
    ∙ (range_more 0 n ∙ ap (λ k. range_with_len 0 n ++ k ∷ []) (let e : 0 + n ≡ n = omega arith in e))

map_append : {X Y : Type 0} (f : X → Y) (xs ys : List X) → map f (xs ++ ys) ≡ map f xs ++ map f ys
map_append f [] ys = refl
map_append f (x ∷ xs) ys = ap (λ zs. f x ∷ zs) (map_append f xs ys)

pub one_part : (base old new : List Piece) (i k : ℕ) → old ≡ base ++ map (part i) (range_with_len 0 k) → new ≡ old ++ part i k ∷ []
    → new ≡ base ++ map (part i) (range_with_len 0 (k + 1))
one_part base old new i k before more =
    more ∙ (ap (λ ps. ps ++ part i k ∷ []) before
    ∙ (append_assoc base (map (part i) (range_with_len 0 k)) (part i k ∷ [])
    ∙ ap (λ ps. base ++ ps) (sym (ap (map (part i)) (range_next k) ∙ map_append (part i) (range_with_len 0 k) (k ∷ [])))))

blocks_if : {X Y : Type 0} (f : X → List Y) (b : Bool) (x : X) → flat_map f (cond b (x ∷ []) []) ≡ cond b (f x) []
blocks_if f true x = append-nil (f x)
blocks_if f false x = refl

blocks_append : {X Y : Type 0} (f : X → List Y) (xs ys : List X) → flat_map f (xs ++ ys) ≡ flat_map f xs ++ flat_map f ys
blocks_append f [] ys = refl
blocks_append f (x ∷ xs) ys = ap (λ zs. f x ++ zs) (blocks_append f xs ys) ∙ sym (append_assoc (f x) (flat_map f xs) (flat_map f ys))

pub one_command : (rec : List Command) (bound : ℕ) (commands : List ℕ) (i d : ℕ) (old new : List Piece) → i < length commands → old ≡ pieces_below rec bound (take i commands)
    → new ≡ old ++ cond (nat_lt (get_or commands i d) bound) (pieces_of rec (get_or commands i d)) [] → new ≡ pieces_below rec bound (take (i + 1) commands)
one_command rec bound commands i d old new less before more =
    let test : ℕ → Bool = λ j. nat_lt j bound in
    let c : ℕ = get_or commands i d in
    more ∙ (ap (λ ps. ps ++ cond (test c) (pieces_of rec c) []) before
    ∙ sym (ap (flat_map (pieces_of rec)) (filter_more test commands i d less)
    ∙ (blocks_append (pieces_of rec) (filter test (take i commands)) (cond (test c) (c ∷ []) [])
    ∙ ap (λ ps. pieces_below rec bound (take i commands) ++ ps) (blocks_if (pieces_of rec) (test c) c))))

-- ---- waves

pub none_yet : (numbers : List ℕ) (count : ℕ) (lists : List (Vec ℕ Global)) → AreEmpty count lists → AreWavesOf numbers count 0 lists
none_yet numbers count lists are = record { many = are.many; are = are.empty }

one_of : (test : ℕ → Bool) (n : ℕ) → filter test (range_with_len 0 (n + 1)) ≡ filter test (range_with_len 0 n) ++ cond (test n) (n ∷ []) []
one_of test n =
    ap (filter test) (range_next n)
    ∙ filter_append test (range_with_len 0 n) (n ∷ [])

pub one_more : (numbers : List ℕ) (count n v : ℕ) (old new : List (Vec ℕ Global)) → v ≡ wave_at numbers n → AreWavesOf numbers count n old → HasOneMore v n old new
    → AreWavesOf numbers count (n + 1) new
one_more numbers count n v old new at before more = record {
  many = more.many ∙ before.many;
  are = λ w list there. elim (cases_eq w v) [
    | inl same ↦
        (let less : w < length new = slice_get_within new w list there in
        let many = more.many in
        let was = item_at old v (omega (arith, less, many, same)) in
        more.here was.0 list was.1 (subst (λ k. slice_get new k ≡ Some list) same there)
        ∙ (ap (λ items. items ++ n ∷ []) (before.are v was.0 was.1)
        ∙ (ap (λ k. commands_of_wave numbers n k ++ n ∷ []) (sym same)
        ∙ sym (one_of (λ i. wave_at numbers i == w) n
        ∙ ap (λ ns. commands_of_wave numbers n w ++ ns) (cond-true (wave_at numbers n == w) (n ∷ []) [] (eq-eqb (wave_at numbers n) w (sym at ∙ sym same)))))))
    | inr differs ↦
        before.are w list (sym (more.others w differs) ∙ there)
        ∙ sym (one_of (λ i. wave_at numbers i == w) n
        ∙ (ap (λ ns. commands_of_wave numbers n w ++ ns) (cond-false (wave_at numbers n == w) (n ∷ []) [] (ne_eqb (wave_at numbers n) w (λ e. differs (sym e ∙ sym at))))
        ∙ append-nil (commands_of_wave numbers n w)))
  ];
}

-- the commands of a wave are of the recording
pub commands_within : (rec : List Command) (numbers : List ℕ) (n v : ℕ) (commands : List ℕ) → commands ≡ commands_of_wave numbers n v → n ≤ length rec
    → (k d : ℕ) → k < length commands → get_or commands k d < length rec
commands_within rec numbers n v commands are within k d less =
    let among = among-filter (λ i. wave_at numbers i == v) (get_or commands k d) (range_with_len 0 n) (subst (IsAmong (get_or commands k d)) are (among_get commands k d less)) in
    let below = (among-range 0 n (get_or commands k d) among.0).1 in
    omega (arith, below, within)
