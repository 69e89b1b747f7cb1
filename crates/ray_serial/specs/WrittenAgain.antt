-- That bytes are read and written again as they are. (Own: the form.)
use Rattle.std.specs.Prelude.{ℕ, ◌≡◌, List, Ok, Err}
use Rattle.ray_bottom.specs.Trees.{BottomWithTree, without_tree}
use Rattle.ray_serial.specs.declared.stored_fault.StoredFault.TheVariants.{BadTree}
use Rattle.ray_serial.specs.Meaning.{opened, IsToBottom}
use Rattle.ray_serial.specs.Written.{bottom_form_2}

-- bytes are opened; that they carry no tree is never found; and each structure that is made of them is written in form 2 as
-- these bytes
pub record IsWrittenAgain (bytes : List ℕ) : Type 0 where
  pub opens : opened bytes ≡ Ok bytes
  pub carries : IsToBottom bytes (Err BadTree) → ⊥
  pub same : (bottom : BottomWithTree) → IsToBottom bytes (Ok bottom) → bottom_form_2 (without_tree bottom) ≡ bytes
