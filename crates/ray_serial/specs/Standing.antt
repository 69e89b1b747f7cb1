-- That a form stands for the contents of a top structure. (Own: the form.)
use Rattle.std.specs.Prelude.{◌≡◌, true, List, ℕ}
use Rattle.ray_top.specs.Contents.{ContentsValue}
use Rattle.ray_form.specs.Form.{payload_in, flags_of_payload}
use Rattle.ray_serial.specs.Meaning.{is_top_form}
use Rattle.ray_serial.specs.TopMeaning.{instances_in}
use Rattle.ray_serial.specs.TopWritten.{records_of}

-- it is that of a top structure, with the flags and the instances of the contents, each with the reference of its structure
pub record StandsFor (c : ContentsValue) (bytes : List ℕ) : Type 0 where
  pub top : is_top_form bytes ≡ true
  pub flags : flags_of_payload (payload_in bytes) ≡ c.flags
  pub instances : instances_in bytes ≡ records_of c.instances
