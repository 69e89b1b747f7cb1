-- What traces read of structures: it stays as long as structures do, and is told apart from rays and hits.
use Rattle.std.proofs.Common.{◌≡◌, ◌<◌, ◌++◌, ◌∷◌, [], ◌||◌, ℕ, Bool, true, false, List, Some, None, All, map, slice_get, refl, sym, ◌∙◌, ap, subst, arith}
use Rattle.std.specs.Prelude.{Vec, if◌then◌else◌, option_map}
use Rattle.std.specs.BTreeMap.{get, is_at}
use Rattle.std.specs.BTreeSet.{insert_key}
use Rattle.std.specs.List.{list_any}
use Rattle.std.specs.Option.{option_and_then, option_map_or}
use Rattle.std.specs.Ordering.{MatchOrdering, is_eq, nat_cmp}
use Rattle.std.specs.declared.alloc.Global.{Global}
use Rattle.std.specs.declared.cmp.Ordering.{Ordering}
use Rattle.std.specs.declared.cmp.Ordering.TheVariants.{Less, Equal, Greater}
use Rattle.std.proofs.lemmas.Cmp.{ranked}
use Rattle.std.proofs.lemmas.List.{map-append}
use Rattle.std.proofs.lemmas.List.Elements.{All-append, All-cons}
use Rattle.ray_access.specs.declared.axis.Memory.TheVariants as memories
use Rattle.ray_access.specs.declared.touched.Touched.{Touched}
use Rattle.ray_access.specs.declared.touches.Touches.{Touches}
use Rattle.ray_access.specs.Axis.{TouchFits, stretch, touched}
use Rattle.ray_access.specs.Lists.{AreOf, AreTouched, rays_traced, structures_traced}
use Rattle.ray_cmd.specs.declared.command.Command.{Command}
use Rattle.ray_cmd.specs.declared.spot.Spot.{Spot}
use Rattle.ray_rules.specs.declared.access_type.AccessType.TheVariants.{StructureRead}
use Rattle.ray_rules.specs.declared.live_structure.LiveStructure.{LiveStructure}
use Rattle.ray_rules.specs.declared.touch.Touch.{Touch}
use Rattle.ray_rules.specs.Access.{Accesses, accesses_of, host_reads, no_access, ray_accesses, structure_reads, uses_at}
use Rattle.ray_rules.specs.Hazards.{accesses_at, status_at}
use Rattle.ray_rules.specs.Ids.{Ids, look}
use Rattle.ray_rules.specs.Origins.{uses_of}
use Rattle.ray_rules.specs.Status.{Status}
use Rattle.ray_hazards.specs.declared.tops.Tops.{Tops}
use Rattle.ray_hazards.specs.Cells.{is_start}
use Rattle.ray_hazards.specs.Checks.{AreStarted, AreStartedTops, AreWithStructures, HasAll, IsPlacedAt}
use Rattle.ray_hazards.specs.Lasts.{ArePlaced, host_reads_at}
use Rattle.ray_hazards.specs.Reaching.{AreReached, AreTops, ReachSame}
use Rattle.ray_hazards.proofs.Reaching.{reach-append, reach-like}
use Rattle.ray_hazards.proofs.Starting.{any-insert, further-started, placed-now}

-- reads of structures fit, and are the same where structures are
structures-fit : (ids : List ℕ) → All TouchFits (structure_reads ids)
structures-fit [] = λ k d below. absurd (omega (arith, below))
structures-fit (id ∷ ids) = All-cons TouchFits _ (structure_reads ids) tt (structures-fit ids)

touched-same :
    (z w : Status) (ids : List ℕ) → w.structures ≡ z.structures
    → map (touched z) (structure_reads ids) ≡ map (touched w) (structure_reads ids)
touched-same z w [] e = refl
touched-same z w (id ∷ ids) e = λ i. of (sym e i) ∷ touched-same z w ids e i
  where
    of : Ids LiveStructure → Touched
    of structures = record {
      access = StructureRead;
      range = stretch memories.Structures (option_map (λ (s : LiveStructure). s.made) (look structures id)) 0 1;
      buffer = None;
    }

uses-same :
    (rec : List Command) (z w : Status) (top : ℕ) → w.structures ≡ z.structures → uses_at rec z top ≡ uses_at rec w top
uses-same rec z w top e = λ i.
    option_map_or (uses_of rec) (option_and_then (λ (s : LiveStructure). s.built) (look (sym e i) top)) []

traced-same :
    (rec : List Command) (z w : Status) (top : ℕ) → w.structures ≡ z.structures
    → map (touched z) (structures_traced rec z top) ≡ map (touched w) (structures_traced rec w top)
traced-same rec z w top e =
    touched-same z w (top ∷ uses_at rec z top) e
    ∙ ap (λ ids. map (touched w) (structure_reads (top ∷ ids))) (uses-same rec z w top e)

-- a comparison that finds one
at-is : (order : Ordering) (k x : ℕ) → MatchOrdering order (k < x) (k ≡ x) (x < k) → is_eq order ≡ true → k ≡ x
at-is Less k x m e = absurd cc
at-is Equal k x m e = m
at-is Greater k x m e = absurd cc

-- what is kept of tops stays
pub tops-kept :
    (rec : List Command) (starts : List ℕ) (z w : Status) (tops : Tops) → w.structures ≡ z.structures
    → AreTops rec starts z tops → AreTops rec starts w tops
tops-kept rec starts z w tops e are top list known =
    let r = are top list known in
    record {
      same = subst (λ us. ReachSame starts us list.items) (traced-same rec z w top e) r.same;
      fit = structures-fit (top ∷ uses_at rec w top);
    }

pub tops-more :
    (rec : List Command) (starts : List ℕ) (z : Status) (tops : Tops) (top : ℕ) (few : Vec Touched Global) (new : Tops)
    → ((t : ℕ) → get nat_cmp new.reads t ≡ (if is_at (nat_cmp top) t then Some few else get nat_cmp tops.reads t))
    → AreReached z starts (structures_traced rec z top) few.items → AreTops rec starts z tops → AreTops rec starts z new
tops-more rec starts z tops top few new put reached are t list e =
    by (is_at (nat_cmp top) t) refl (sym (put t) ∙ e)
  where
    by :
        (b : Bool) → is_at (nat_cmp top) t ≡ b → (if b then Some few else get nat_cmp tops.reads t) ≡ Some list
        → AreReached z starts (structures_traced rec z t) list.items
    by true at known =
        let one : top ≡ t = at-is (nat_cmp top t) top t (ranked top t (nat_cmp top t) refl) at in
        let same : few ≡ list = cc in
        subst (λ k. AreReached z starts (structures_traced rec z k) list.items) one
        (subst (λ (l : Vec Touched Global). AreReached z starts (structures_traced rec z top) l.items) same reached)
    by false at known = are t list known

-- a list that reaches what is listed
pub reached-few :
    (z : Status) (starts : List ℕ) (ts : List Touch) (list few : List Touched) → AreTouched z ts list
    → ReachSame starts list few → AreReached z starts ts few
reached-few z starts ts list few are same =
    record { same = subst (λ us. ReachSame starts us few) are.are same; fit = are.fit }

pub started-kept :
    (rec : List Command) (z w : Status) (keys known : List ℕ) → w.structures ≡ z.structures
    → AreStartedTops rec z keys known → AreStartedTops rec w keys known
started-kept rec z w keys known e tops top there =
    subst (AreStarted keys) (traced-same rec z w top e) (tops top there)

pub started-wider :
    (rec : List Command) (z : Status) (old new known : List ℕ) → HasAll old new → AreStartedTops rec z old known
    → AreStartedTops rec z new known
started-wider rec z old new known all tops top there =
    further-started old new (map (touched z) (structures_traced rec z top)) all (tops top there)

pub started-none : (rec : List Command) (z : Status) (keys : List ℕ) → AreStartedTops rec z keys []
started-none rec z keys top there = absurd cc

-- one top more
pub started-more :
    (rec : List Command) (z : Status) (keys known : List ℕ) (top : ℕ) → AreStartedTops rec z keys known
    → AreStarted keys (map (touched z) (structures_traced rec z top))
    → AreStartedTops rec z keys (insert_key nat_cmp known top)
started-more rec z keys known top tops one t there =
    choose (is_at (nat_cmp t) top) (list_any (is_at (nat_cmp t)) known)
    (sym (any-insert (is_at (nat_cmp t)) known top) ∙ there)
    (λ e. subst (λ k. AreStarted keys (map (touched z) (structures_traced rec z k)))
    (sym (at-is (nat_cmp t top) t top (ranked t top (nat_cmp t top) refl) e)) one) (tops t)
  where
    choose : {A : Type 0} (a b : Bool) → (a || b) ≡ true → (a ≡ true → A) → (b ≡ true → A) → A
    choose true b e g h = g refl
    choose false b e g h = h e

-- the accesses of a command that is there
accesses-there :
    (rec : List Command) (n : ℕ) (c : Command) → slice_get rec n ≡ Some c
    → accesses_at rec n ≡ accesses_of rec (status_at rec n) c
accesses-there rec n c there = ap (λ o. option_map_or (accesses_of rec (status_at rec n)) o no_access) there

hosts-there : (rec : List Command) (n : ℕ) (c : Command) → slice_get rec n ≡ Some c → host_reads_at rec n ≡ host_reads c
hosts-there rec n c there = ap (λ o. option_map_or host_reads o []) there

-- touches that are placed, and others
placed-then :
    (rec : List Command) (keys : List ℕ) (n : ℕ) (a b : List Touch) → ArePlaced rec keys n a → ArePlaced rec keys n b
    → ArePlaced rec keys n (a ++ b)
placed-then rec keys n a b first second = record {
  fit = All-append TouchFits a b first.fit second.fit;
  start =
      All-append (λ (t : Touch). is_start keys (touched (status_at rec n) t).range.from ≡ true) a b first.start second.start;
}

placed-none : (rec : List Command) (keys : List ℕ) (n : ℕ) → ArePlaced rec keys n []
placed-none rec keys n = record {
  fit = λ k d below. absurd (omega (arith, below));
  start = λ k d below. absurd (omega (arith, below));
}

-- a command is a trace
pub record IsTrace (rec : List Command) (c : Command) (top : ℕ) (rays hits : Spot) (count : ℕ) : Type 0 where
  pub accesses : (z : Status) → accesses_of rec z c ≡ ray_accesses rec z top rays hits 0 count
  pub host : host_reads c ≡ []

pub trace-placed :
    (rec : List Command) (keys : List ℕ) (n : ℕ) (z : Status) (c : Command) (top : ℕ) (rays : Spot) (count : ℕ) (hits : Spot)
    (touches : Touches) → slice_get rec n ≡ Some c → z ≡ status_at rec n → IsTrace rec c top rays hits count → AreOf z (rays_traced rays hits count) touches
    → AreStarted keys (map (touched z) (structures_traced rec z top)) → AreStarted keys touches.reads.items
    → AreStarted keys touches.writes.items → IsPlacedAt rec keys n
trace-placed rec keys n z c top rays count hits touches there at is of structures reads writes =
    let u = status_at rec n in
    let acc : accesses_at rec n ≡ ray_accesses rec u top rays hits 0 count =
    accesses-there rec n c there ∙ is.accesses u
    in
    let of-u : AreOf u (rays_traced rays hits count) touches = subst (λ s. AreOf s (rays_traced rays hits count) touches) at of in
    let started : AreStarted keys (map (touched u) (structures_traced rec u top)) =
    subst (λ s. AreStarted keys (map (touched s) (structures_traced rec s top))) at structures
    in
    let first : ArePlaced rec keys n (structures_traced rec u top) =
    placed-now rec keys n _ (map (touched u) (structures_traced rec u top))
    (record { are = refl; fit = structures-fit (top ∷ uses_at rec u top) }) started
    in
    record {
      reads =
          subst (λ (a : Accesses). ArePlaced rec keys n a.reads) (sym acc)
          (placed-then rec keys n (structures_traced rec u top) (rays_traced rays hits count).reads first
          (placed-now rec keys n _ _ of-u.reads reads));
      writes = subst (λ (a : Accesses). ArePlaced rec keys n a.writes) (sym acc) (placed-now rec keys n _ _ of-u.writes writes);
      host_reads =
          subst (ArePlaced rec keys n) (sym (hosts-there rec n c there ∙ is.host)) (placed-none rec keys n);
    }

pub other-placed :
    (rec : List Command) (keys : List ℕ) (n : ℕ) (z : Status) (c : Command) (touches : Touches) (host : List Touched)
    → slice_get rec n ≡ Some c → z ≡ status_at rec n → AreOf z (accesses_of rec z c) touches
    → AreTouched z (host_reads c) host → AreStarted keys touches.reads.items → AreStarted keys touches.writes.items
    → AreStarted keys host → IsPlacedAt rec keys n
other-placed rec keys n z c touches host there at of hosts reads writes shown =
    let of-u = subst (λ s. AreOf s (accesses_of rec s c) touches) at of in
    let hosts-u = subst (λ s. AreTouched s (host_reads c) host) at hosts in
    let acc = accesses-there rec n c there in
    record {
      reads = subst (λ (a : Accesses). ArePlaced rec keys n a.reads) (sym acc) (placed-now rec keys n _ _ of-u.reads reads);
      writes = subst (λ (a : Accesses). ArePlaced rec keys n a.writes) (sym acc) (placed-now rec keys n _ _ of-u.writes writes);
      host_reads =
          subst (ArePlaced rec keys n) (sym (hosts-there rec n c there)) (placed-now rec keys n _ host hosts-u shown);
    }

-- what a trace reads and writes, where a list reaches the structures
pub record IsTraced (rec : List Command) (starts : List ℕ) (n : ℕ) (touches : Touches) : Type 0 where
  pub reads : AreReached (status_at rec n) starts (accesses_at rec n).reads touches.reads.items
  pub writes : AreTouched (status_at rec n) (accesses_at rec n).writes touches.writes.items
  pub host : (list : List Touched) → list ≡ [] → AreTouched (status_at rec n) (host_reads_at rec n) list

pub trace-doing :
    (rec : List Command) (starts : List ℕ) (n : ℕ) (z : Status) (c : Command) (top : ℕ) (rays : Spot) (count : ℕ) (hits : Spot)
    (structures : List Touched) (others touches : Touches) → slice_get rec n ≡ Some c → z ≡ status_at rec n
    → IsTrace rec c top rays hits count
    → AreReached z starts (structures_traced rec z top) structures → AreOf z (rays_traced rays hits count) others
    → AreWithStructures structures others touches → IsTraced rec starts n touches
trace-doing rec starts n z c top rays count hits structures others touches there at is reached of with =
    let u = status_at rec n in
    let acc : accesses_at rec n ≡ ray_accesses rec u top rays hits 0 count =
    accesses-there rec n c there ∙ is.accesses u
    in
    let of-u = subst (λ s. AreOf s (rays_traced rays hits count) others) at of in
    let reached-u = subst (λ s. AreReached s starts (structures_traced rec s top) structures) at reached in
    let ss = structures_traced rec u top in
    let rs = (rays_traced rays hits count).reads in
    let same : ReachSame starts (map (touched u) (ss ++ rs)) touches.reads.items =
    subst (λ us. ReachSame starts us touches.reads.items) (sym (map-append (touched u) ss rs))
    (subst (ReachSame starts (map (touched u) ss ++ map (touched u) rs)) (sym with.reads)
    (reach-append starts (map (touched u) ss) (map (touched u) rs) structures others.reads.items reached-u.same
    (reach-like starts (map (touched u) rs) others.reads.items (sym of-u.reads.are))))
    in
    record {
      reads =
          subst (λ (a : Accesses). AreReached u starts a.reads touches.reads.items) (sym acc)
          (record { same = same; fit = All-append TouchFits ss rs reached-u.fit of-u.reads.fit });
      writes =
          subst (λ (a : Accesses). AreTouched u a.writes touches.writes.items) (sym acc)
          (subst (AreTouched u (rays_traced rays hits count).writes) (sym with.writes) of-u.writes);
      host = λ list e.
          subst (λ ts. AreTouched u ts list) (sym (hosts-there rec n c there ∙ is.host))
          (record { are = e; fit = λ k d below. absurd (omega (arith, below)) });
    }
