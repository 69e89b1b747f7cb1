-- The words after the program's name. (Own.)
use Rattle.std.specs.Prelude.{◌≡◌, ◌≤◌, ◌⊎◌, ℕ, List, [], ◌∷◌, map, codes, decimal, String, string_bytes}
use Rattle.std.specs.declared.alloc.Global.{Global}
use Rattle.ray_scene.specs.Grid.{IsScene}
use Rattle.vkray.specs.declared.asked.Asked.{Asked}
use Rattle.vkray.specs.declared.asked.Asked.TheVariants.{Run, Check, Queues, Groups, Certify, Verify}
use Rattle.vkray.specs.declared.request.Request.{Request}
use Rattle.vkray.specs.declared.request.Request.TheVariants.{Input, Generate, RunSelf}
use Rattle.vkray.specs.declared.request.Scene.{Scene}
use Rattle.vkray.specs.declared.request.SelfRun.{SelfRun}

-- the words are one alone
abbrev pub IsWord : List (String Global) → List ℕ → Type 0
IsWord words word = map string_bytes words ≡ word ∷ []

-- the words are one, `--workers` and a number in decimal digits, without a sign and a leading zero
abbrev pub AreOfWorkers : List (String Global) → List ℕ → ℕ → Type 0
AreOfWorkers words word workers = map string_bytes words ≡ word ∷ codes "--workers" ∷ decimal workers ∷ []

-- the words ask for it by a number of workers, 1 to 64
abbrev pub HasWorkers : List (String Global) → List ℕ → ℕ → Type 0
HasWorkers words word workers = ((1 ≤ workers) × (workers ≤ 64)) × AreOfWorkers words word workers

-- the words ask for it by so many workers: one where none are said
abbrev pub AskWorkers : List (String Global) → List ℕ → ℕ → Type 0
AskWorkers words word workers = (IsWord words word × (workers ≡ 1)) ⊎ HasWorkers words word workers

-- the words ask an input for it
abbrev pub Asks : List (String Global) → Asked → Type 0
Asks words (Run workers) = AskWorkers words (codes "run") workers
Asks words Check = IsWord words (codes "check")
Asks words (Queues workers) = AskWorkers words (codes "queues") workers
Asks words Groups = IsWord words (codes "groups")
Asks words Certify = IsWord words (codes "certify")
Asks words Verify = IsWord words (codes "verify")

-- a word that asks an input for something by itself
abbrev pub IsPlain : List ℕ → Type 0
IsPlain word =
    (word ≡ codes "run") ⊎ ((word ≡ codes "check") ⊎ ((word ≡ codes "queues") ⊎ ((word ≡ codes "groups")
    ⊎ ((word ≡ codes "certify") ⊎ (word ≡ codes "verify")))))

-- the words ask an input for something
abbrev pub AskInput : List (String Global) → Type 0
AskInput words = (asked : Asked) × Asks words asked

-- the words are `gen` and three numbers, each in decimal digits without a sign and a leading zero
abbrev pub IsGenerating : List (String Global) → Scene → Type 0
IsGenerating words scene =
    map string_bytes words ≡ codes "gen" ∷ decimal scene.side ∷ decimal scene.layers ∷ decimal scene.rays ∷ []

-- the words ask for the recording of a scene within the limits
pub record AsksFor (words : List (String Global)) (scene : Scene) : Type 0 where
  pub limits : IsScene scene.side scene.layers scene.rays
  pub are : IsGenerating words scene

-- the words are `selfrun` and three numbers, alone, or with `--workers` and a number after them
abbrev pub AreOfSelfRun : List (String Global) → Scene → Type 0
AreOfSelfRun words scene =
    map string_bytes words ≡ codes "selfrun" ∷ decimal scene.side ∷ decimal scene.layers ∷ decimal scene.rays ∷ []

abbrev pub AreOfSelfRunBy : List (String Global) → Scene → ℕ → Type 0
AreOfSelfRunBy words scene workers =
    map string_bytes words
    ≡ codes "selfrun" ∷ decimal scene.side ∷ decimal scene.layers ∷ decimal scene.rays ∷ codes "--workers" ∷ decimal workers ∷ []

-- the words ask for a self run by so many workers, 1 to 64: one where none are said
abbrev pub AskBy : List (String Global) → SelfRun → Type 0
AskBy words asked =
    (AreOfSelfRun words asked.scene × (asked.workers ≡ 1))
    ⊎ (((1 ≤ asked.workers) × (asked.workers ≤ 64)) × AreOfSelfRunBy words asked.scene asked.workers)

-- the words ask for the self run of a scene within the limits
pub record AsksSelfRun (words : List (String Global)) (asked : SelfRun) : Type 0 where
  pub limits : IsScene asked.scene.side asked.scene.layers asked.scene.rays
  pub are : AskBy words asked

-- the words ask for it
abbrev pub Requests : List (String Global) → Request → Type 0
Requests words (Input asked) = Asks words asked
Requests words (Generate scene) = AsksFor words scene
Requests words (RunSelf asked) = AsksSelfRun words asked

-- the words ask for something
abbrev pub AreWords : List (String Global) → Type 0
AreWords words = (request : Request) × Requests words request
