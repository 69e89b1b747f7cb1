-- Where keys turn: a search between two places, and what is known of a cut.
use Rattle.std.proofs.Common.{◌≡◌, ◌≢◌, ◌∙◌, ◌+◌, ◌-◌, ◌*◌, ◌/◌, ◌%◌, ◌^◌, ◌<◌, ◌≤◌, ℕ, List, length, take, drop, get_or, sym, ap, subst, arith, take-append-drop, length-take-le, length-drop, get_or-take, get_or-drop}
use Rattle.std.proofs.Math.Pow.{shr_mono}
use Rattle.std.proofs.lemmas.List.Elements.{All-get_or, All-from_get_or}
use Rattle.ray_tree.proofs.Planting.{tall}
use Rattle.ray_morton.specs.declared.cutting.Cut.{Cut}
use Rattle.ray_morton.specs.Cuts.{AreSame}
use Rattle.ray_morton.specs.Entries.{Rises}
use Rattle.ray_morton.specs.Planted.{IsTurn, IsCutAt}
use Rattle.ray_morton.proofs.Bits.{further, same_take, same_drop, cut_by_bit, cut_in_halves}
use Rattle.ray_morton.proofs.Rising.{rises_take, rises_drop}

-- the turn is after one place and not after another
pub record IsBetween (keys : List ℕ) (bit part below from : ℕ) : Type 0 where
  pub apart : below < from
  pub within : from < length keys
  pub same : get_or keys below 0 / 2 ^ bit ≡ part
  pub other : get_or keys from 0 / 2 ^ bit ≢ part

-- two parts that are the same but for their lowest bit, the second one not being less
next_part : (a b : ℕ) → a / 2 ≡ b / 2 → a ≤ b → b ≢ a → (a % 2 ≡ 0) × (b ≡ a + 1)
next_part a b e le ne = (omega (arith, e, le, ne), omega (arith, e, le, ne))

module _ (keys : List ℕ) (bit part below from : ℕ) (some : 0 < length keys) (up : Rises keys) (above : AreSame (bit + 1) keys)
    (first : get_or keys 0 0 / 2 ^ bit ≡ part) (between : IsBetween keys bit part below from) where
  halved : (i : ℕ) → i < length keys → get_or keys i 0 / 2 ^ bit / 2 ≡ part / 2
  halved i small =
      let a = All-get_or (λ key. key / 2 ^ (bit + 1) ≡ above.part) keys i 0 small above.each in
      let b = All-get_or (λ key. key / 2 ^ (bit + 1) ≡ above.part) keys 0 0 some above.each in
      sym (further (get_or keys i 0) bit 1) ∙ a ∙ sym b ∙ further (get_or keys 0 0) bit 1 ∙ ap (λ q. q / 2) first

  next : (i : ℕ) → i < length keys → get_or keys i 0 / 2 ^ bit ≢ part → (part % 2 ≡ 0) × (get_or keys i 0 / 2 ^ bit ≡ part + 1)
  next i small ne =
      let up_to = shr_mono bit (up.each 0 i 0 (omega arith) small) in
      next_part part (get_or keys i 0 / 2 ^ bit) (sym (halved i small)) (omega (arith, up_to, first)) ne

  from_on : (i : ℕ) → from ≤ i → i < length keys → get_or keys i 0 / 2 ^ bit ≡ part + 1
  from_on i le small =
      let turn = next from between.within between.other in
      let more = shr_mono bit (up.each from i 0 le small) in
      let half = halved i small in
      let t = turn.1 in
      let e = turn.0 in
      omega (arith, more, half, t, e)

  up_to : (i : ℕ) → i ≤ below → get_or keys i 0 / 2 ^ bit ≡ part
  up_to i le =
      let a = between.apart in
      let b = between.within in
      let low = shr_mono bit (up.each 0 i 0 (omega arith) (omega arith)) in
      let high = shr_mono bit (up.each i below 0 le (omega arith)) in
      let s = between.same in
      omega (arith, low, high, s, first)

  pub turned : from ≤ below + 1 → IsTurn keys bit from
  turned near =
      let a = between.apart in
      let b = between.within in
      record {
        some = omega arith;
        rest = b;
        part = part;
        lefts = All-from_get_or (λ key. key / 2 ^ bit ≡ part) (take from keys) 0 (λ i small.
            let lt : i < from = omega (arith, small, length-take-le from keys (omega arith)) in
            ap (λ key. key / 2 ^ bit) (get_or-take from keys i 0 lt) ∙ up_to i (omega arith));
        rights = All-from_get_or (λ key. key / 2 ^ bit ≡ part + 1) (drop from keys) 0 (λ i small.
            let lt : from + i < length keys = omega (arith, small, length-drop from keys) in
            ap (λ key. key / 2 ^ bit) (get_or-drop from keys i 0) ∙ from_on (from + i) (omega arith) lt);
        even = (next from between.within between.other).0;
      }

-- a cut where a bit changes
pub cut_at_turn : (keys : List ℕ) (bits halvings bit : ℕ) (cut : Cut) → bits < 64 → 4 < length keys → length keys ≤ 4 * 2 ^ halvings → Rises keys
    → bit < bits → IsTurn keys bit cut.half → cut.bits ≡ bit → cut.halvings ≡ halvings → IsCutAt keys bits halvings cut
cut_at_turn keys bits halvings bit cut short many few up lt turn is_bits is_halvings =
    let some = turn.some in
    let rest = turn.rest in
    let half = cut.half in
    let left : length (take half keys) ≡ half = length-take-le half keys (omega arith) in
    let right : length (drop half keys) ≡ length keys - half = length-drop half keys in
    let power = ap (λ h. 2 ^ h) is_halvings in
    record {
      rest = rest;
      lefts = record {
        short = omega (arith, short, lt, is_bits);
        some = omega (arith, left, some);
        few = omega (arith, left, rest, few, power);
        rising = rises_take half keys (omega arith) up;
        same = subst (λ b. AreSame b (take half keys)) (sym is_bits) (record { part = turn.part; each = turn.lefts });
      };
      rights = record {
        short = omega (arith, short, lt, is_bits);
        some = omega (arith, right, rest);
        few = omega (arith, right, rest, few, power);
        rising = rises_drop half keys up;
        same = subst (λ b. AreSame b (drop half keys)) (sym is_bits) (record { part = turn.part + 1; each = turn.rights });
      };
      low = omega (arith, lt, is_bits, is_halvings);
      cut = cut_by_bit bit turn.part (take half keys) (drop half keys) (omega (arith, left, right, many, rest)) (omega (arith, left, some))
          (omega (arith, right, rest)) turn.even turn.lefts turn.rights;
    }

-- a cut of equal keys in halves
pub cut_equal : (keys : List ℕ) (bits halvings : ℕ) (cut : Cut) → 4 < length keys → length keys ≤ 4 * 2 ^ halvings → Rises keys → AreSame 0 keys
    → cut.half ≡ (length keys + 1) / 2 → cut.bits ≡ 0 → cut.halvings ≡ halvings - 1 → IsCutAt keys bits halvings cut
cut_equal keys bits halvings cut many few up same is_half is_bits is_halvings =
    let half = cut.half in
    let high = tall halvings (length keys) many few in
    let twice = high.twice in
    let some_high = high.some in
    let power = ap (λ h. 2 ^ h) is_halvings in
    let left : length (take half keys) ≡ half = length-take-le half keys (omega (arith, is_half, many)) in
    let right : length (drop half keys) ≡ length keys - half = length-drop half keys in
    record {
      rest = omega (arith, is_half, many);
      lefts = record {
        short = omega (arith, is_bits);
        some = omega (arith, left, is_half, many);
        few = omega (arith, left, is_half, few, power, twice);
        rising = rises_take half keys (omega (arith, is_half, many)) up;
        same = subst (λ b. AreSame b (take half keys)) (sym is_bits) (same_take half 0 keys same);
      };
      rights = record {
        short = omega (arith, is_bits);
        some = omega (arith, right, is_half, many);
        few = omega (arith, right, is_half, few, power, twice);
        rising = rises_drop half keys up;
        same = subst (λ b. AreSame b (drop half keys)) (sym is_bits) (same_drop half 0 keys same);
      };
      low = omega (arith, is_bits, is_halvings, some_high);
      cut = cut_in_halves (take half keys) (drop half keys) (omega (arith, left, right, is_half, many))
          (omega (arith, left, right, is_half, many)) (subst (AreSame 0) (sym (take-append-drop half keys)) same);
    }
