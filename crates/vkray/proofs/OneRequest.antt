-- Words ask for one thing alone.
use Rattle.std.proofs.Common.{◌≡◌, ◌⊎◌, [], ◌∷◌, refl, ℕ, ◌+◌, ◌≤◌, List, map, drop, get_or, ap, sym, ◌∙◌, inl, inr, arith, Global}
use Rattle.std.specs.Prelude.{String, codes, decimal, string_bytes}
use Rattle.std.proofs.lemmas.Fmt.{decimal_injective}
use Rattle.ray_scene.specs.Grid.{IsScene}
use Rattle.vkray.specs.declared.asked.Asked.TheVariants.{Run, Check, Queues, Groups, Certify, Verify}
use Rattle.vkray.specs.declared.request.Request.{Request}
use Rattle.vkray.specs.declared.request.Request.TheVariants.{Input, Generate, RunSelf}
use Rattle.vkray.specs.declared.request.Scene.{Scene}
use Rattle.vkray.specs.declared.request.SelfRun.{SelfRun}
use Rattle.vkray.specs.Words.{AskBy, AskWorkers, Requests}

-- ---- the first two letters

abbrev first : List (List ℕ) → ℕ
first words = get_or (get_or words 0 []) 0 0

abbrev second : List (List ℕ) → ℕ
second words = get_or (get_or words 0 []) 1 0

-- a number for each request: its first letter and three times its second one, added, of `run`, `check`, `queues`,
-- `groups`, `certify`, `verify`, `gen` and `selfrun`
abbrev letters : List (List ℕ) → ℕ
letters words = first words + (second words + (second words + second words))

abbrev number_of : Request → ℕ
number_of (Input (Run workers)) = 465
number_of (Input Check) = 411
number_of (Input (Queues workers)) = 464
number_of (Input Groups) = 445
number_of (Input Certify) = 402
number_of (Input Verify) = 421
number_of (Generate scene) = 406
number_of (RunSelf by) = 418

of_workers : (words : List (String Global)) (word : List ℕ) (workers : ℕ) → AskWorkers words word workers → (n : ℕ) → letters (word ∷ []) ≡ n
    → letters (map string_bytes words) ≡ n
of_workers words word workers (inl alone) n is = ap letters alone.0 ∙ is
of_workers words word workers (inr more) n is = ap letters more.1 ∙ is

of_self : (words : List (String Global)) (by : SelfRun) → AskBy words by → letters (map string_bytes words) ≡ 418
of_self words by (inl alone) = ap letters alone.0
of_self words by (inr more) = ap letters more.1

number_is : (words : List (String Global)) (request : Request) → Requests words request → letters (map string_bytes words) ≡ number_of request
number_is words (Input (Run workers)) asks = of_workers words (codes "run") workers asks 465 refl
number_is words (Input Check) asks = ap letters asks
number_is words (Input (Queues workers)) asks = of_workers words (codes "queues") workers asks 464 refl
number_is words (Input Groups) asks = ap letters asks
number_is words (Input Certify) asks = ap letters asks
number_is words (Input Verify) asks = ap letters asks
number_is words (Generate scene) asks = ap letters asks.are
number_is words (RunSelf by) asks = of_self words by asks.are

-- ---- how many workers

-- the last words say a number of workers: one where there are none
abbrev Says : List (List ℕ) → ℕ → Type 0
Says words workers = ((words ≡ []) × (workers ≡ 1)) ⊎ ((workers ≤ 64) × (words ≡ codes "--workers" ∷ decimal workers ∷ []))

says_number : (words : List (String Global)) (word : List ℕ) (workers : ℕ) → AskWorkers words word workers → Says (drop 1 (map string_bytes words)) workers
says_number words word workers (inl alone) = inl (ap (drop 1) alone.0, alone.1)
says_number words word workers (inr more) = inr (more.0.1, ap (drop 1) more.1)

says_self : (words : List (String Global)) (by : SelfRun) → AskBy words by → Says (drop 4 (map string_bytes words)) by.workers
says_self words by (inl alone) = inl (ap (drop 4) alone.0, alone.1)
says_self words by (inr more) = inr (more.0.1, ap (drop 4) more.1)

one_number : (words : List (List ℕ)) (a b : ℕ) → Says words a → Says words b → a ≡ b
one_number words a b (inl x) (inl y) = x.1 ∙ sym y.1
one_number words a b (inl x) (inr y) = absurd (let same : [] ≡ codes "--workers" ∷ decimal b ∷ [] = sym x.0 ∙ y.1 in cc)
one_number words a b (inr x) (inl y) = absurd (let same : [] ≡ codes "--workers" ∷ decimal a ∷ [] = sym y.0 ∙ x.1 in cc)
one_number words a b (inr x) (inr y) =
    let same : decimal a ∷ [] ≡ decimal b ∷ [] = ap (drop 1) (sym x.1 ∙ y.1) in
    decimal_injective a b (omega (arith, x.0)) (omega (arith, y.0)) cc

-- ---- which scene

-- three words spell a scene
abbrev spelled : Scene → List (List ℕ)
spelled scene = decimal scene.side ∷ decimal scene.layers ∷ decimal scene.rays ∷ []

one_scene : (a b : Scene) → IsScene a.side a.layers a.rays → IsScene b.side b.layers b.rays → spelled a ≡ spelled b → a ≡ b
one_scene a b mine its same =
    let x = decimal_injective a.side b.side (omega (arith, mine.side_ends)) (omega (arith, its.side_ends)) cc in
    let y = decimal_injective a.layers b.layers (omega (arith, mine.layers_end)) (omega (arith, its.layers_end)) cc in
    let z = decimal_injective a.rays b.rays (omega (arith, mine.rays_end)) (omega (arith, its.rays_end)) cc in
    λ i. record { side = x i; layers = y i; rays = z i }

abbrev three : List (List ℕ) → List (List ℕ)
three words = get_or words 1 [] ∷ get_or words 2 [] ∷ get_or words 3 [] ∷ []

scene_of_self : (words : List (String Global)) (by : SelfRun) → AskBy words by → three (map string_bytes words) ≡ spelled by.scene
scene_of_self words by (inl alone) = ap three alone.0
scene_of_self words by (inr more) = ap three more.1

-- ---- one request

pub one_request : (words : List (String Global)) (a b : Request) → Requests words a → Requests words b → a ≡ b
one_request words a b x y = by_both a b x y (sym (number_is words a x) ∙ number_is words b y)
  where
    same_workers : (word : List ℕ) (n m : ℕ) → AskWorkers words word n → AskWorkers words word m → n ≡ m
    same_workers word n m x y =
        one_number (drop 1 (map string_bytes words)) n m (says_number words word n x) (says_number words word m y)

    by_both : (a b : Request) → Requests words a → Requests words b → number_of a ≡ number_of b → a ≡ b
    by_both (Input (Run n)) (Input (Run m)) x y same = ap (λ w. Input (Run w)) (same_workers (codes "run") n m x y)
    by_both (Input Check) (Input Check) x y same = refl
    by_both (Input (Queues n)) (Input (Queues m)) x y same = ap (λ w. Input (Queues w)) (same_workers (codes "queues") n m x y)
    by_both (Input Groups) (Input Groups) x y same = refl
    by_both (Input Certify) (Input Certify) x y same = refl
    by_both (Input Verify) (Input Verify) x y same = refl
    by_both (Generate s) (Generate t) x y same = ap Generate (one_scene s t x.limits y.limits (ap three (sym x.are ∙ y.are)))
    by_both (RunSelf s) (RunSelf t) x y same =
        let scene = one_scene s.scene t.scene x.limits y.limits (sym (scene_of_self words s x.are) ∙ scene_of_self words t y.are) in
        let workers = one_number (drop 4 (map string_bytes words)) s.workers t.workers (says_self words s x.are) (says_self words t y.are) in
        λ i. RunSelf (record { scene = scene i; workers = workers i })
    by_both (Input (Run n)) (Input Check) x y same = absurd (omega (arith, same))
    by_both (Input (Run n)) (Input (Queues m)) x y same = absurd (omega (arith, same))
    by_both (Input (Run n)) (Input Groups) x y same = absurd (omega (arith, same))
    by_both (Input (Run n)) (Input Certify) x y same = absurd (omega (arith, same))
    by_both (Input (Run n)) (Input Verify) x y same = absurd (omega (arith, same))
    by_both (Input (Run n)) (Generate m) x y same = absurd (omega (arith, same))
    by_both (Input (Run n)) (RunSelf m) x y same = absurd (omega (arith, same))
    by_both (Input Check) (Input (Run m)) x y same = absurd (omega (arith, same))
    by_both (Input Check) (Input (Queues m)) x y same = absurd (omega (arith, same))
    by_both (Input Check) (Input Groups) x y same = absurd (omega (arith, same))
    by_both (Input Check) (Input Certify) x y same = absurd (omega (arith, same))
    by_both (Input Check) (Input Verify) x y same = absurd (omega (arith, same))
    by_both (Input Check) (Generate m) x y same = absurd (omega (arith, same))
    by_both (Input Check) (RunSelf m) x y same = absurd (omega (arith, same))
    by_both (Input (Queues n)) (Input (Run m)) x y same = absurd (omega (arith, same))
    by_both (Input (Queues n)) (Input Check) x y same = absurd (omega (arith, same))
    by_both (Input (Queues n)) (Input Groups) x y same = absurd (omega (arith, same))
    by_both (Input (Queues n)) (Input Certify) x y same = absurd (omega (arith, same))
    by_both (Input (Queues n)) (Input Verify) x y same = absurd (omega (arith, same))
    by_both (Input (Queues n)) (Generate m) x y same = absurd (omega (arith, same))
    by_both (Input (Queues n)) (RunSelf m) x y same = absurd (omega (arith, same))
    by_both (Input Groups) (Input (Run m)) x y same = absurd (omega (arith, same))
    by_both (Input Groups) (Input Check) x y same = absurd (omega (arith, same))
    by_both (Input Groups) (Input (Queues m)) x y same = absurd (omega (arith, same))
    by_both (Input Groups) (Input Certify) x y same = absurd (omega (arith, same))
    by_both (Input Groups) (Input Verify) x y same = absurd (omega (arith, same))
    by_both (Input Groups) (Generate m) x y same = absurd (omega (arith, same))
    by_both (Input Groups) (RunSelf m) x y same = absurd (omega (arith, same))
    by_both (Input Certify) (Input (Run m)) x y same = absurd (omega (arith, same))
    by_both (Input Certify) (Input Check) x y same = absurd (omega (arith, same))
    by_both (Input Certify) (Input (Queues m)) x y same = absurd (omega (arith, same))
    by_both (Input Certify) (Input Groups) x y same = absurd (omega (arith, same))
    by_both (Input Certify) (Input Verify) x y same = absurd (omega (arith, same))
    by_both (Input Certify) (Generate m) x y same = absurd (omega (arith, same))
    by_both (Input Certify) (RunSelf m) x y same = absurd (omega (arith, same))
    by_both (Input Verify) (Input (Run m)) x y same = absurd (omega (arith, same))
    by_both (Input Verify) (Input Check) x y same = absurd (omega (arith, same))
    by_both (Input Verify) (Input (Queues m)) x y same = absurd (omega (arith, same))
    by_both (Input Verify) (Input Groups) x y same = absurd (omega (arith, same))
    by_both (Input Verify) (Input Certify) x y same = absurd (omega (arith, same))
    by_both (Input Verify) (Generate m) x y same = absurd (omega (arith, same))
    by_both (Input Verify) (RunSelf m) x y same = absurd (omega (arith, same))
    by_both (Generate n) (Input (Run m)) x y same = absurd (omega (arith, same))
    by_both (Generate n) (Input Check) x y same = absurd (omega (arith, same))
    by_both (Generate n) (Input (Queues m)) x y same = absurd (omega (arith, same))
    by_both (Generate n) (Input Groups) x y same = absurd (omega (arith, same))
    by_both (Generate n) (Input Certify) x y same = absurd (omega (arith, same))
    by_both (Generate n) (Input Verify) x y same = absurd (omega (arith, same))
    by_both (Generate n) (RunSelf m) x y same = absurd (omega (arith, same))
    by_both (RunSelf n) (Input (Run m)) x y same = absurd (omega (arith, same))
    by_both (RunSelf n) (Input Check) x y same = absurd (omega (arith, same))
    by_both (RunSelf n) (Input (Queues m)) x y same = absurd (omega (arith, same))
    by_both (RunSelf n) (Input Groups) x y same = absurd (omega (arith, same))
    by_both (RunSelf n) (Input Certify) x y same = absurd (omega (arith, same))
    by_both (RunSelf n) (Input Verify) x y same = absurd (omega (arith, same))
    by_both (RunSelf n) (Generate m) x y same = absurd (omega (arith, same))
