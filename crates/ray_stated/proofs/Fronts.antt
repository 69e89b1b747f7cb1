-- Entries of which those so far are parted by a limit along an axis.
use Rattle.std.proofs.Common.{◌≡◌, ◌≢◌, ◌∙◌, ◌+◌, ◌<◌, ◌≤◌, inl, inr, ℕ, Bool, true, false, List, length, get_or, refl, sym, subst, arith, length-take-le, length-drop}
use Rattle.std.specs.Prelude.{nat_lt, if◌then◌else◌}
use Rattle.std.specs.List.{AllWithin, SwappedAt}
use Rattle.std.specs.List.Sorted.{IsPermutation}
use Rattle.std.proofs.lemmas.Bool.{ltb-true, ltb-false}
use Rattle.std.proofs.lemmas.List.{get_or-take, get_or-drop}
use Rattle.std.proofs.lemmas.List.Sorted.{IsPermutation-refl, IsPermutation-trans}
use Rattle.ray_tree.proofs.Counting.{either}
use Rattle.ray_stated.specs.declared.entry.Entry.{Entry}
use Rattle.ray_stated.specs.Entries.{entry_key}
use Rattle.ray_stated.specs.Partings.{IsParted}

pub record IsFront (axis limit : ℕ) (old now : List Entry) (many i : ℕ) : Type 0 where
  pub same : IsPermutation old now
  pub long : length now ≡ length old
  pub behind : many ≤ i
  pub front : AllWithin (λ e. entry_key axis e < limit) now 0 many
  pub back : AllWithin (λ e. limit ≤ entry_key axis e) now many i

pub front_none : (axis limit : ℕ) (es : List Entry) → IsFront axis limit es es 0 0
front_none axis limit es = record {
  same = IsPermutation-refl es;
  long = refl;
  behind = omega arith;
  front = λ k d low high. absurd (omega arith);
  back = λ k d low high. absurd (omega arith);
}

module _ (axis limit : ℕ) (old now new : List Entry) (many i : ℕ) (f : IsFront axis limit old now many i)
    (swap : SwappedAt now new many i) (moved : IsPermutation now new) (long : length new ≡ length now) where
  low : Entry → Type 0
  low e = entry_key axis e < limit

  high : Entry → Type 0
  high e = limit ≤ entry_key axis e

  kept : (P : Entry → Type 0) (k : ℕ) (d : Entry) → k ≢ many → k ≢ i → P (get_or now k d) → P (get_or new k d)
  kept P k d a b h = subst P (sym (swap.2 k d a b)) h

  front_kept : (k : ℕ) (d : Entry) → k < many → entry_key axis (get_or new k d) < limit
  front_kept k d lt =
      let behind = f.behind in
      kept (λ e. entry_key axis e < limit) k d (omega arith) (omega arith) (f.front k d (omega arith) lt)

  -- the first entry of the back comes to the end of it
  back_last : (d : Entry) → many < i → limit ≤ entry_key axis (get_or new i d)
  back_last d lt = subst (λ e. limit ≤ entry_key axis e) (sym (swap.1 d)) (f.back many d (omega arith) lt)

  back_kept : (k : ℕ) (d : Entry) → many < k → k < i + 1 → limit ≤ entry_key axis (get_or new k d)
  back_kept k d above below = elim (either k i) [
    | inl a ↦ kept (λ e. limit ≤ entry_key axis e) k d (omega arith) (omega arith) (f.back k d (omega arith) a)
    | inr b ↦ (let same : i ≡ k = omega arith in subst (λ n. limit ≤ entry_key axis (get_or new n d)) same (back_last d (omega arith)))
  ]

  front_more : ((d : Entry) → entry_key axis (get_or now i d) < limit) → IsFront axis limit old new (many + 1) (i + 1)
  front_more goes = record {
    same = IsPermutation-trans old now new f.same moved;
    long = long ∙ f.long;
    behind = let b = f.behind in omega arith;
    front = λ k d a b. elim (either k many) [
      | inl c ↦ front_kept k d c
      | inr c ↦ (let same : many ≡ k = omega arith in
          subst (λ n. entry_key axis (get_or new n d) < limit) same (subst (λ e. entry_key axis e < limit) (sym (swap.0 d)) (goes d)))
    ];
    back = λ k d a b. back_kept k d (omega arith) b;
  }

  front_same : ((d : Entry) → limit ≤ entry_key axis (get_or now i d)) → IsFront axis limit old new many (i + 1)
  front_same stays = record {
    same = IsPermutation-trans old now new f.same moved;
    long = long ∙ f.long;
    behind = let b = f.behind in omega arith;
    front = λ k d a b. front_kept k d b;
    back = λ k d a b. elim (either many k) [
      | inl c ↦ back_kept k d c b
      | inr c ↦ (let same : many ≡ k = omega arith in
          subst (λ n. limit ≤ entry_key axis (get_or new n d)) same (subst (λ e. limit ≤ entry_key axis e) (sym (swap.0 d)) (stays d)))
    ];
  }

  pub front_next : (goes : Bool) (step many1 : ℕ) → ((d : Entry) → goes ≡ nat_lt (entry_key axis (get_or now i d)) limit)
      → step ≡ (if goes then 1 else 0) → many1 ≡ many + step → IsFront axis limit old new many1 (i + 1)
  front_next true step many1 says one sum =
      let same : many + 1 ≡ many1 = omega (arith, one, sum) in
      subst (λ m. IsFront axis limit old new m (i + 1)) same (front_more (λ d. ltb-true (entry_key axis (get_or now i d)) limit (sym (says d))))
  front_next false step many1 says one sum =
      let same : many ≡ many1 = omega (arith, one, sum) in
      subst (λ m. IsFront axis limit old new m (i + 1)) same (front_same (λ d. ltb-false (entry_key axis (get_or now i d)) limit (sym (says d))))

pub front_parts : (axis limit : ℕ) (old now : List Entry) (many i : ℕ) → IsFront axis limit old now many i → i ≡ length now → IsParted axis limit old now many
front_parts axis limit old now many i f all =
    let behind = f.behind in
    let within : many ≤ length now = omega (arith, all) in
    record {
      same = f.same;
      long = f.long;
      within = omega (arith, f.long, within);
      front = λ k d lt.
          let low : k < many = omega (arith, length-take-le many now within, lt) in
          subst (λ e. entry_key axis e < limit) (sym (get_or-take many now k d low)) (f.front k d (omega arith) low);
      back = λ k d lt.
          let low : many + k < i = omega (arith, length-drop many now, lt, all) in
          subst (λ e. limit ≤ entry_key axis e) (sym (get_or-drop many now k d)) (f.back (many + k) d (omega arith) low);
    }
