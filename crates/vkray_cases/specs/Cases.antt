-- What the JSON value of a case says. (Own.)
use Rattle.std.specs.Prelude.{◌≡◌, ◌≤◌, ℕ, zero, suc, List, [], ◌∷◌, ◌++◌, Option, Some, None, codes}
use Rattle.serde_json.specs.Data.{Data, depth}
use Rattle.serde_json.specs.Find.{get}
use Rattle.serde_json.specs.Read.{read, max_depth}
use Rattle.ray_json.specs.Fields.{◌>>=◌, only, at, text_of, hex_of, u32_of, list_of}
use Rattle.vkray_cases.specs.declared.case.Case.{Case}
use Rattle.vkray_cases.specs.declared.piece.Piece.{Piece}
use Rattle.vkray_cases.specs.declared.wanted.Wanted.{Wanted}

-- an answer that is wanted
unfoldable pub wanted_of : Data → Option Wanted
wanted_of d = do
  _ ← only (codes "words" ∷ codes "status" ∷ codes "text" ∷ []) d
  words ← at (list_of text_of) (codes "words") d
  status ← at u32_of (codes "status") d
  text ← at text_of (codes "text") d
  Some (record { words = words; status = status; text = text })

-- a case but for its input, which stands in one of the three members at the end
unfoldable pub case_of : Data → Option Case
case_of d = do
  _ ← only (codes "shows" ∷ codes "why" ∷ codes "answers" ∷ codes "recording" ∷ codes "pieces" ∷ codes "hex" ∷ []) d
  shows ← at text_of (codes "shows") d
  why ← at text_of (codes "why") d
  answers ← at (list_of wanted_of) (codes "answers") d
  Some (record { shows = shows; why = why; answers = answers })

-- a text that stands there so many times
unfoldable pub piece_of : Data → Option Piece
piece_of d = do
  _ ← only (codes "text" ∷ codes "times" ∷ []) d
  text ← at text_of (codes "text") d
  times ← at u32_of (codes "times") d
  Some (record { text = text; times = times })

-- a text so many times, one after another
abbrev pub repeated : List ℕ → ℕ → List ℕ
repeated text zero = []
repeated text (suc times) = repeated text times ++ text

-- the bytes of a piece
abbrev pub bytes_of_piece : Piece → List ℕ
bytes_of_piece piece = repeated piece.text piece.times

-- the bytes of pieces, one after another
abbrev pub bytes_of_pieces : List Piece → List ℕ
bytes_of_pieces [] = []
bytes_of_pieces (piece ∷ pieces) = bytes_of_piece piece ++ bytes_of_pieces pieces

-- bytes are described by the members `recording`, `pieces` and `hex`, of which exactly one is there: they are a text that
-- spells the recording, or the pieces one after another, or what the digits stand for
abbrev pub IsInputBy : Option Data → Option Data → Option Data → List ℕ → Type 0
IsInputBy (Some recording) None None bytes = depth recording ≤ max_depth → read bytes ≡ Some recording
IsInputBy None (Some pieces) None bytes = (ps : List Piece) × (list_of piece_of pieces ≡ Some ps) × (bytes ≡ bytes_of_pieces ps)
IsInputBy None None (Some digits) bytes = hex_of digits ≡ Some bytes
IsInputBy None None None bytes = ⊥
IsInputBy (Some r) (Some p) h bytes = ⊥
IsInputBy (Some r) None (Some h) bytes = ⊥
IsInputBy None (Some p) (Some h) bytes = ⊥

-- no bytes are described by them
abbrev pub IsNoInputBy : Option Data → Option Data → Option Data → Type 0
IsNoInputBy (Some recording) None None = ⊥
IsNoInputBy None (Some pieces) None = list_of piece_of pieces ≡ None
IsNoInputBy None None (Some digits) = hex_of digits ≡ None
IsNoInputBy None None None = Unit {0}
IsNoInputBy (Some r) (Some p) h = Unit {0}
IsNoInputBy (Some r) None (Some h) = Unit {0}
IsNoInputBy None (Some p) (Some h) = Unit {0}

-- bytes are the input of a case
abbrev pub IsInput : Data → List ℕ → Type 0
IsInput d bytes = IsInputBy (get (codes "recording") d) (get (codes "pieces") d) (get (codes "hex") d) bytes

-- a case describes no input
abbrev pub IsNoInput : Data → Type 0
IsNoInput d = IsNoInputBy (get (codes "recording") d) (get (codes "pieces") d) (get (codes "hex") d)
