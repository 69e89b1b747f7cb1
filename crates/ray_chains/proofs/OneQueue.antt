-- With one queue, and no wait for semaphores, steps over nodes give the three sets of the rules.
use Rattle.std.proofs.Common.{◌≡◌, ℕ, zero, suc, Bool, true, false, ◌&&◌, ◌||◌, nat_lt, if◌then◌else◌, List, [], ◌∷◌, Option, refl, sym, subst, ◌∙◌, ap}
use Rattle.std.specs.List.{list_any}
use Rattle.std.proofs.lemmas.Bool.{eqb-true}
use Rattle.ray_chains.specs.declared.access_type.AccessType.{AccessType}
use Rattle.ray_chains.specs.declared.stage.Stage.{Stage}
use Rattle.ray_chains.specs.declared.stage.Stage.TheVariants.{Transfer, Build, StructureCopy, Compute, Host}
use Rattle.ray_chains.specs.Dependencies.{reached, reached_after}
use Rattle.ray_chains.specs.Queues.{Node, At, Visible, Scopes, Event, Barrier, Begin, Submit, Wait, Other, Source, is_device, with_if, nodes_at, takes_source, step_of, steps}
use Rattle.ray_chains.specs.OneQueue.{Handed, not_handed, meets_stages, handed_after, handed_at, is_alone, OneQueueHasSets}
use Rattle.ray_chains.proofs.Numbers.{or-false, and-false}
use Rattle.ray_chains.proofs.Nodes.{no}

-- a test on stages of a queue
any-with-if : (f : Node → Bool) (b : Bool) (x : Node) (xs : List Node) → list_any f (with_if b x xs) ≡ ((b && f x) || list_any f xs)
any-with-if f true x xs = refl
any-with-if f false x xs = refl

any-at :
    (f : Node → Bool) (queue : ℕ) (stages : Stage → Bool)
    → list_any f (nodes_at queue stages) ≡ meets_stages stages (λ s. f (At queue s))
any-at f queue stages =
    let hosts : List Node = with_if (stages Host) (At queue Host) [] in
    let computes : List Node = with_if (stages Compute) (At queue Compute) hosts in
    let copies : List Node = with_if (stages StructureCopy) (At queue StructureCopy) computes in
    let builds : List Node = with_if (stages Build) (At queue Build) copies in
    any-with-if f (stages Transfer) (At queue Transfer) builds
    ∙ ap (λ b. (stages Transfer && f (At queue Transfer)) || b)
    (any-with-if f (stages Build) (At queue Build) copies
    ∙ ap (λ b. (stages Build && f (At queue Build)) || b)
    (any-with-if f (stages StructureCopy) (At queue StructureCopy) computes
    ∙ ap (λ b. (stages StructureCopy && f (At queue StructureCopy)) || b)
    (any-with-if f (stages Compute) (At queue Compute) hosts
    ∙ ap (λ b. (stages Compute && f (At queue Compute)) || b)
    (any-with-if f (stages Host) (At queue Host) [] ∙ or-false (stages Host && f (At queue Host))))))

-- the nodes that something has reached are these sets
pub record AreSets (z : Handed) (nodes : Node → Bool) : Type 0 where
  pub stages : (s : Stage) → nodes (At 0 s) ≡ z.stages s
  pub pairs : (s : Stage) (x : AccessType) → nodes (Visible 0 s x) ≡ z.pairs s x

none-more : (a b : Bool) → (a || (b && false)) ≡ a
none-more a b = ap (λ c. a || c) (and-false b) ∙ or-false a

module _ (events : ℕ → Event) (stage : Stage) (access : Option AccessType) (n : ℕ) where
  abbrev alone_source : Source
  alone_source = record { queue = 0; stage = stage; access = access }

  -- a barrier of the one queue
  sets-barrier :
      (scopes : Scopes) (buffers : Option (List ℕ)) (z : Handed) (nodes : Node → Bool) → AreSets z nodes
      → AreSets (handed_after (takes_source alone_source) (Barrier 0 scopes buffers) z)
      (reached_after (step_of events alone_source n (Barrier 0 scopes buffers)) nodes)
  sets-barrier scopes buffers z nodes are =
      let taken : list_any nodes (nodes_at 0 scopes.src_stages) ≡ meets_stages scopes.src_stages z.stages =
      any-at nodes 0 scopes.src_stages ∙ (λ j. meets_stages scopes.src_stages (λ s. are.stages s j))
      in
      let direct : Bool = takes_source alone_source scopes.src_stages scopes.src_access in
      record {
        stages = λ s j. are.stages s j || ((direct || taken j) && scopes.dst_stages s);
        pairs = λ s x j. are.pairs s x j || ((direct || taken j) && (scopes.dst_stages s && scopes.dst_access x));
      }

  -- any event
  sets-after :
      (e : Event) (z : Handed) (nodes : Node → Bool) → is_alone e ≡ true → AreSets z nodes
      → AreSets (handed_after (takes_source alone_source) e z) (reached_after (step_of events alone_source n e) nodes)
  sets-after (Barrier queue scopes buffers) z nodes alone are =
      subst (λ k. AreSets (handed_after (takes_source alone_source) (Barrier k scopes buffers) z)
      (reached_after (step_of events alone_source n (Barrier k scopes buffers)) nodes))
      (sym (eqb-true queue 0 alone)) (sets-barrier scopes buffers z nodes are)
  sets-after (Begin queue []) z nodes alone are = record {
    stages = λ s. or-false (nodes (At 0 s)) ∙ are.stages s;
    pairs = λ s x. or-false (nodes (Visible 0 s x)) ∙ are.pairs s x;
  }
  sets-after (Begin queue (wait ∷ waits)) z nodes alone are = no alone
  sets-after (Submit queue signals) z nodes alone are =
      let s : Bool = (step_of events alone_source n (Submit queue signals)).takes_all || list_any nodes (step_of events alone_source n (Submit queue signals)).from in
      record {
        stages = λ k. none-more (nodes (At 0 k)) s ∙ are.stages k;
        pairs = λ k x. none-more (nodes (Visible 0 k x)) s ∙ are.pairs k x;
      }
  sets-after Wait z nodes alone are = record {
    stages = λ s j. are.stages s j || is_device s;
    pairs = λ s x j. are.pairs s x j || is_device s;
  }
  sets-after Other z nodes alone are = record {
    stages = λ s. or-false (nodes (At 0 s)) ∙ are.stages s;
    pairs = λ s x. or-false (nodes (Visible 0 s x)) ∙ are.pairs s x;
  }

  -- at one number, by the tests whether it comes later and whether it acts
  sets-at :
      (later act : Bool) (e : Event) (z : Handed) (nodes : Node → Bool) → is_alone e ≡ true → AreSets z nodes
      → AreSets
      (if later then (if act then handed_after (takes_source alone_source) e z else z) else not_handed)
      (λ v. if later then (if act then reached_after (step_of events alone_source n e) nodes v else nodes v) else false)
  sets-at true true e z nodes alone are = sets-after e z nodes alone are
  sets-at true false e z nodes alone are = are
  sets-at false act e z nodes alone are = record { stages = λ s. refl; pairs = λ s x. refl }

sets :
    (acts : ℕ → Bool) (events : ℕ → Event) (stage : Stage) (access : Option AccessType) (i n : ℕ)
    → ((m : ℕ) → is_alone (events m) ≡ true)
    → AreSets (handed_at (takes_source (alone_source events stage access 0)) acts events i n)
    (reached acts (steps events (alone_source events stage access 0)) i n)
sets acts events stage access i zero alone = record { stages = λ s. refl; pairs = λ s x. refl }
sets acts events stage access i (suc n) alone =
    sets-at events stage access n (nat_lt i n) (acts n) (events n)
    (handed_at (takes_source (alone_source events stage access 0)) acts events i n)
    (reached acts (steps events (alone_source events stage access 0)) i n) (alone n)
    (sets acts events stage access i n alone)

pub one-queue-has-sets : OneQueueHasSets
one-queue-has-sets acts events source i n zero_queue alone =
    let are =
    subst (λ q. AreSets (handed_at (takes_source source) acts events i n)
    (reached acts (steps events (record { queue = q; stage = source.stage; access = source.access })) i n))
    (sym zero_queue) (sets acts events source.stage source.access i n alone)
    in
    (are.stages, are.pairs)
