-- How a check that a program in C asks for is answered. (Own.)
use Rattle.std.specs.Prelude.{◌≡◌, ◌≤◌, ◌<◌, ◌⊎◌, ℕ, List, ◌++◌, length, drop, Err}
use Rattle.vkray.specs.Answer.{Ending, answer_of}
use Rattle.vkray.specs.Call.{most_bytes}
use Rattle.vkray.specs.Codes.{code_of}
use Rattle.vkray.specs.Written.{status_of, text_of}
use Rattle.vkray.specs.declared.asked.Asked.TheVariants.{Check}
use Rattle.vkray.specs.declared.request.Request.TheVariants.{Input}
use Rattle.vkray.specs.declared.status.Status.TheVariants.{NoMemory}
use Rattle.vkray.specs.declared.stop.Stop.TheVariants.{TooLong}

-- what a check of bytes ends with: more than 2^26 are too many, and of others it is the answer to `check`
abbrev pub IsEndingOfCheck : List ℕ → Ending → Type 0
IsEndingOfCheck bytes ending =
    ((most_bytes < length bytes) × (ending ≡ Err TooLong)) ⊎ ((length bytes ≤ most_bytes) × (ending ≡ answer_of (Input Check) bytes))

-- the number that says that the text has no room in the buffer
abbrev pub no_room : ℕ
no_room = 8

-- a text is put at the beginning of a buffer, whose other bytes stay, and the number is its own; or the buffer is too
-- short and stays as it was. The length of the text is told either way
abbrev pub IsPlaced : ℕ → List ℕ → List ℕ → List ℕ → ℕ → ℕ → Type 0
IsPlaced code text before after told result =
    (told ≡ length text)
    × (((length text ≤ length before) × (result ≡ code) × (after ≡ text ++ drop (length text) before))
    ⊎ ((length before < length text) × (result ≡ no_room) × (after ≡ before)))

-- a check of bytes, whose text goes into a buffer: memory ran out, and the buffer stays as it was; or the check has an
-- ending, whose text is put there, with the number of its status
abbrev pub IsAnswered : List ℕ → List ℕ → List ℕ → ℕ → ℕ → Type 0
IsAnswered bytes before after told result =
    ((result ≡ code_of NoMemory) × (told ≡ 0) × (after ≡ before))
    ⊎ ((ending : Ending) × IsEndingOfCheck bytes ending
    × IsPlaced (code_of (status_of ending)) (text_of ending) before after told result)
