-- What the reading of items gives, item by item.
use Rattle.std.proofs.Common.{ℕ, zero, suc, ◌+◌, ◌<◌, ◌≤◌, ◌≡◌, ◌⊎◌, inl, inr, List, [], ◌∷◌, length, Bool, true, false, Option, Some, None, Ok, Err, nat_le, refl, arith, ap, ◌∙◌, sym, subst}
use Rattle.std.specs.Prelude.{slice_get, if◌then◌else◌, ◌-◌, IfOk}
use Rattle.std.proofs.lemmas.Bool.Decides.{nat_tests}
use Rattle.serde_json.specs.Data.{Data, null, boolean, number, string, array, object, Items, no_items, item}
use Rattle.serde_json.specs.Find.{get_item}
use Rattle.serde_json.specs.Events.{items_len}
use Rattle.ray_cmd.specs.declared.command.Command.{Command}
use Rattle.ray_cmd.specs.declared.fault.RecordingFault.TheVariants.{NotJson, BadShape, NoMemory}
use Rattle.ray_cmd.specs.Counting.{listed_in, less}
use Rattle.ray_cmd.specs.Grammar.{command_of}
use Rattle.ray_cmd.specs.Recordings.{◌>>=◌, Reading, most_commands, most_members, or_bad, commands_from, recording_if, Answers}
use Rattle.ray_cmd.specs.Recorded.{IsSpelled, listed_before, IsRecordingOf, IsFirstBad}

-- what is taken and what is left
less_some : (taken left rest : ℕ) → less taken left ≡ Some rest → taken + rest ≡ left
less_some taken left rest h = choose (nat_le taken left) refl h
  where
    choose : (b : Bool) → nat_le taken left ≡ b → (if b then Some (left - taken) else None) ≡ Some rest → taken + rest ≡ left
    choose true test got = let e : left - taken ≡ rest = cc in let t : taken ≤ left = grind (arith, nat_tests) in omega arith
    choose false test got = absurd (cc)

less_none : (taken left : ℕ) → less taken left ≡ None → left < taken
less_none taken left h = choose (nat_le taken left) refl h
  where
    choose : (b : Bool) → nat_le taken left ≡ b → (if b then Some (left - taken) else None) ≡ None → left < taken
    choose true test got = absurd (cc)
    choose false test got = grind (arith, nat_tests)

-- one item and those that follow
abbrev step : Bool → Option Command → Option ℕ → ℕ → (ℕ → Reading) → Reading
step full o q i next =
    if full then Err (BadShape most_commands)
    else or_bad i q >>= λ rest. or_bad i o >>= λ command. next rest >>= λ commands. Ok (command ∷ commands)

-- the first command and the rest of them
record Begins (full : Bool) (o : Option Command) (q : Option ℕ) (next : ℕ → Reading) (cs : List Command) : Type 0 where
  first : Command
  rest : ℕ
  others : List Command
  not_full : full ≡ false
  spelled : o ≡ Some first
  left : q ≡ Some rest
  read : next rest ≡ Ok others
  whole : cs ≡ first ∷ others

begun : (c : Command) (rest : ℕ) (next : ℕ → Reading) (r : Reading) (cs : List Command) → next rest ≡ r
    → (r >>= λ commands. Ok (c ∷ commands)) ≡ Ok cs → Begins false (Some c) (Some rest) next cs
begun c rest next (Ok others) cs e h = record { first = c; rest = rest; others = others; not_full = refl; spelled = refl; left = refl; read = e; whole = cc }
begun c rest next (Err fault) cs e h = absurd (cc)

begins : (full : Bool) (o : Option Command) (q : Option ℕ) (i : ℕ) (next : ℕ → Reading) (cs : List Command)
    → step full o q i next ≡ Ok cs → Begins full o q next cs
begins true o q i next cs h = absurd (cc)
begins false o None i next cs h = absurd (cc)
begins false None (Some rest) i next cs h = absurd (cc)
begins false (Some c) (Some rest) i next cs h = begun c rest next (next rest) cs refl h

-- what the commands are of the items from a number on
record IsRead (i left : ℕ) (ds : Items) (cs : List Command) : Type 0 where
  few : i + length cs ≤ most_commands
  all : items_len ds ≡ length cs
  each : (k : ℕ) (c : Command) → slice_get cs k ≡ Some c → IsSpelled ds k c
  members : listed_before (length cs) ds ≤ left

one_more : (i left : ℕ) (d : Data) (ds : Items) (cs : List Command) (b : Begins (nat_le most_commands i) (command_of d) (less (listed_in d) left) (λ rest. commands_from (i + 1) rest ds) cs)
    → IsRead (i + 1) b.rest ds b.others → IsRead i left (item d ds) (b.first ∷ b.others)
one_more i left d ds cs b r = record {
  few = let t = r.few in omega arith;
  all = ap suc r.all;
  each = at;
  members = let t = r.members in let u = less_some (listed_in d) left b.rest b.left in omega arith;
}
  where
    at : (k : ℕ) (c : Command) → slice_get (b.first ∷ b.others) k ≡ Some c → IsSpelled (item d ds) k c
    at zero c h = b.spelled ∙ h
    at (suc k) c h = r.each k c h

is_read : (i left : ℕ) (ds : Items) (cs : List Command) → i ≤ most_commands → commands_from i left ds ≡ Ok cs → IsRead i left ds cs
unfolding commands_from
is_read i left no_items [] within h = record { few = omega arith; all = refl; each = λ k c e. absurd (cc); members = omega arith }
is_read i left no_items (c ∷ cs) within h = absurd (cc)
is_read i left (item d ds) cs within h =
    let b = begins (nat_le most_commands i) (command_of d) (less (listed_in d) left) i (λ rest. commands_from (i + 1) rest ds) cs h in
    let full : nat_le most_commands i ≡ false = b.not_full in
    let room : i < most_commands = grind (arith, nat_tests) in
    subst (IsRead i left (item d ds)) (sym b.whole) (one_more i left d ds cs b (is_read (i + 1) b.rest ds b.others (omega arith) b.read))

-- how the reading of one item and those that follow ends in a bad one
record Fails (full : Bool) (o : Option Command) (q : Option ℕ) (next : ℕ → Reading) (k : ℕ) : Type 0 where
  first : Command
  rest : ℕ
  not_full : full ≡ false
  spelled : o ≡ Some first
  left : q ≡ Some rest
  read : next rest ≡ Err (BadShape k)

-- the item itself is bad, or one of those that follow
abbrev Ends : Bool → Option Command → Option ℕ → (ℕ → Reading) → ℕ → ℕ → Type 0
Ends full o q next i k =
    ((full ≡ true) × (k ≡ most_commands))
    ⊎ (((full ≡ false) × (k ≡ i) × ((o ≡ None) ⊎ (q ≡ None)))
    ⊎ Fails full o q next k)

failed : (c : Command) (rest : ℕ) (next : ℕ → Reading) (r : Reading) (i k : ℕ) → next rest ≡ r
    → (r >>= λ commands. Ok (c ∷ commands)) ≡ Err (BadShape k) → Ends false (Some c) (Some rest) next i k
failed c rest next (Ok others) i k e h = absurd (cc)
failed c rest next (Err fault) i k e h = inr (inr (record { first = c; rest = rest; not_full = refl; spelled = refl; left = refl; read = e ∙ cc }))

ends : (full : Bool) (o : Option Command) (q : Option ℕ) (i k : ℕ) (next : ℕ → Reading)
    → step full o q i next ≡ Err (BadShape k) → Ends full o q next i k
ends true o q i k next h = inl (refl, cc)
ends false o None i k next h = inr (inl (refl, cc, inr refl))
ends false None (Some rest) i k next h = inr (inl (refl, cc, inl refl))
ends false (Some c) (Some rest) i k next h = failed c rest next (next rest) i k refl h

-- item number j of items from a number on is the first that is bad
record IsBadFrom (i left : ℕ) (ds : Items) (j : ℕ) : Type 0 where
  below : (k : ℕ) → k < j → (c : Command) × IsSpelled ds k c
  members : listed_before j ds ≤ left
  here : (d : Data) × (get_item j ds ≡ Some d)
      × ((i + j ≡ most_commands) ⊎ ((i + j < most_commands) × ((command_of d ≡ None) ⊎ (left < listed_before (j + 1) ds))))

-- the first item is bad
none_below : (ds : Items) (k : ℕ) → k < 0 → (c : Command) × IsSpelled ds k c
none_below ds k h = absurd (omega arith)

listed_none : (ds : Items) → listed_before 0 ds ≡ 0
listed_none no_items = refl
listed_none (item d ds) = refl

too_many : (i left : ℕ) (d : Data) (ds : Items) → i ≡ most_commands → IsBadFrom i left (item d ds) 0
too_many i left d ds h = record { below = none_below (item d ds); members = omega arith; here = (d, refl, inl (omega arith)) }

bad_itself : (i left : ℕ) (d : Data) (ds : Items) → i < most_commands → (command_of d ≡ None) ⊎ (less (listed_in d) left ≡ None) → IsBadFrom i left (item d ds) 0
bad_itself i left d ds room (inl nothing) = record { below = none_below (item d ds); members = omega arith; here = (d, refl, inr (omega arith, inl nothing)) }
bad_itself i left d ds room (inr nothing) = record { below = none_below (item d ds); members = omega arith; here = (d, refl, inr (omega arith, inr (let t = less_none (listed_in d) left nothing in let u = listed_none ds in omega arith))) }

-- one item more
listed_next : (d : Data) (ds : Items) (j : ℕ) → listed_before (suc j + 1) (item d ds) ≡ listed_in d + listed_before (j + 1) ds
listed_next d ds j = let e : suc j + 1 ≡ suc (j + 1) = omega arith in ap (λ n. listed_before n (item d ds)) e

-- an item that follows is bad
bad_after : (i left : ℕ) (d : Data) (ds : Items) (c : Command) (rest j : ℕ) → command_of d ≡ Some c → less (listed_in d) left ≡ Some rest
    → IsBadFrom (i + 1) rest ds j → IsBadFrom i left (item d ds) (suc j)
bad_after i left d ds c rest j spelled taken r = record {
  below = at;
  members = let t = r.members in let u = less_some (listed_in d) left rest taken in omega arith;
  here = (r.here.0, r.here.1, moved r.here.2);
}
  where
    at : (k : ℕ) → k < suc j → (e : Command) × IsSpelled (item d ds) k e
    at zero h = (c, spelled)
    at (suc k) h = r.below k (omega arith)

    moved : ((i + 1 + j ≡ most_commands) ⊎ ((i + 1 + j < most_commands) × ((command_of r.here.0 ≡ None) ⊎ (rest < listed_before (j + 1) ds))))
        → ((i + suc j ≡ most_commands) ⊎ ((i + suc j < most_commands) × ((command_of r.here.0 ≡ None) ⊎ (left < listed_before (suc j + 1) (item d ds)))))
    moved (inl h) = inl (omega arith)
    moved (inr (h, inl nothing)) = inr (omega arith, inl nothing)
    moved (inr (h, inr more)) = inr (omega arith, inr (let u = less_some (listed_in d) left rest taken in let v = listed_next d ds j in omega arith))

-- the number of the bad one, counted from the first of the items
record Found (i left : ℕ) (ds : Items) (k : ℕ) : Type 0 where
  j : ℕ
  number : k ≡ i + j
  bad : IsBadFrom i left ds j

found_by : (i left : ℕ) (d : Data) (ds : Items) (k : ℕ) → i ≤ most_commands
    → ((rest : ℕ) → i + 1 ≤ most_commands → commands_from (i + 1) rest ds ≡ Err (BadShape k) → Found (i + 1) rest ds k)
    → Ends (nat_le most_commands i) (command_of d) (less (listed_in d) left) (λ rest. commands_from (i + 1) rest ds) i k → Found i left (item d ds) k
found_by i left d ds k within again (inl (full, is)) =
    let top : i ≡ most_commands = grind (arith, nat_tests) in
    record { j = 0; number = omega arith; bad = too_many i left d ds top }
found_by i left d ds k within again (inr (inl (full, is, why))) =
    let room : i < most_commands = grind (arith, nat_tests) in
    record { j = 0; number = omega arith; bad = bad_itself i left d ds room why }
found_by i left d ds k within again (inr (inr f)) =
    let full : nat_le most_commands i ≡ false = f.not_full in
    let room : i < most_commands = grind (arith, nat_tests) in
    let next = again f.rest (omega arith) f.read in
    record { j = suc next.j; number = let t = next.number in omega arith; bad = bad_after i left d ds f.first f.rest next.j f.spelled f.left next.bad }

found : (i left : ℕ) (ds : Items) (k : ℕ) → i ≤ most_commands → commands_from i left ds ≡ Err (BadShape k) → Found i left ds k
unfolding commands_from
found i left no_items k within h = absurd (cc)
found i left (item d ds) k within h =
    found_by i left d ds k within (λ rest room read. found (i + 1) rest ds k room read)
    (ends (nat_le most_commands i) (command_of d) (less (listed_in d) left) i k (λ rest. commands_from (i + 1) rest ds) h)

-- the whole array
pub recording_is : (ds : Items) (cs : List Command) → commands_from 0 most_members ds ≡ Ok cs → IsRecordingOf ds cs
recording_is ds cs h =
    let r = is_read 0 most_members ds cs (omega arith) h in
    record { few = let t = r.few in omega arith; all = r.all; each = r.each; members = r.members }

counted : (ds : Items) (j : ℕ) → IsBadFrom 0 most_members ds j → IsFirstBad ds j
counted ds j bad =
    let e : 0 + j ≡ j = omega arith in
    record {
      below = bad.below;
      members = bad.members;
      here = subst
          (λ n. (d : Data) × (get_item j ds ≡ Some d)
          × ((n ≡ most_commands) ⊎ ((n < most_commands) × ((command_of d ≡ None) ⊎ (most_members < listed_before (j + 1) ds)))))
          e bad.here;
    }

found_first : (ds : Items) (k : ℕ) → Found 0 most_members ds k → IsFirstBad ds k
found_first ds k f =
    let same : f.j ≡ k = let t = f.number in omega arith in
    subst (IsFirstBad ds) same (counted ds f.j f.bad)

first_bad_is : (ds : Items) (k : ℕ) → commands_from 0 most_members ds ≡ Err (BadShape k) → IsFirstBad ds k
first_bad_is ds k h = found_first ds k (found 0 most_members ds k (omega arith) h)

spelled : (o : Option Data) (cs : List Command) → recording_if o ≡ Ok cs → (ds : Items) × (o ≡ Some (array ds)) × IsRecordingOf ds cs
spelled None cs h = absurd (cc)
spelled (Some null) cs h = absurd (cc)
spelled (Some (boolean b)) cs h = absurd (cc)
spelled (Some (number n)) cs h = absurd (cc)
spelled (Some (string s)) cs h = absurd (cc)
spelled (Some (array ds)) cs h = (ds, refl, recording_is ds cs h)
spelled (Some (object ms)) cs h = absurd (cc)

-- what is said of a recording
pub recorded : (o : Option Data) (answer : Reading) → Answers answer (recording_if o)
    → IfOk answer (λ cs. (ds : Items) × (o ≡ Some (array ds)) × IsRecordingOf ds cs)
recorded o (Ok cs) h = spelled o cs h
recorded o (Err fault) h = tt

-- what is said of the number of a bad shape
pub refused : (o : Option Data) (answer : Reading) → Answers answer (recording_if o)
    → (i : ℕ) (ds : Items) → answer ≡ Err (BadShape i) → o ≡ Some (array ds) → IsFirstBad ds i
refused o (Ok cs) h i ds is read = absurd (cc)
refused o (Err NotJson) h i ds is read = absurd (cc)
refused o (Err NoMemory) h i ds is read = absurd (cc)
refused o (Err (BadShape k)) h i ds is read =
    let e : k ≡ i = cc in
    first_bad_is ds i (sym (ap recording_if read) ∙ h ∙ ap (λ n. Err (BadShape n)) e)

-- ---- a value is JSON

rest_is : (c : Command) (r : Reading) → (r ≡ Err NotJson → ⊥) → (r >>= λ commands. Ok (c ∷ commands)) ≡ Err NotJson → ⊥
rest_is c (Ok others) is h = absurd (cc)
rest_is c (Err fault) is h = is h

step_is : (full : Bool) (o : Option Command) (q : Option ℕ) (i : ℕ) (next : ℕ → Reading)
    → ((rest : ℕ) → next rest ≡ Err NotJson → ⊥) → step full o q i next ≡ Err NotJson → ⊥
step_is true o q i next is h = absurd (cc)
step_is false o None i next is h = absurd (cc)
step_is false None (Some rest) i next is h = absurd (cc)
step_is false (Some c) (Some rest) i next is h = rest_is c (next rest) (is rest) h

items_are : (i left : ℕ) (ds : Items) → commands_from i left ds ≡ Err NotJson → ⊥
unfolding commands_from
items_are i left no_items h = absurd (cc)
items_are i left (item d ds) h =
    step_is (nat_le most_commands i) (command_of d) (less (listed_in d) left) i (λ rest. commands_from (i + 1) rest ds)
    (λ rest. items_are (i + 1) rest ds) h

-- so what items are read as is never that they are none
pub is_json : (ds : Items) (answer : Reading) → Answers answer (commands_from 0 most_members ds) → answer ≡ Err NotJson → ⊥
is_json ds (Ok cs) h e = absurd (cc)
is_json ds (Err NotJson) h e = items_are 0 most_members ds h
is_json ds (Err (BadShape i)) h e = absurd (cc)
is_json ds (Err NoMemory) h e = absurd (cc)
