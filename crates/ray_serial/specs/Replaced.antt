-- What a form with other handles stands for. (Own: the form; in Vulkan an application replaces the device addresses of bottom
-- structures in serialized data before it is read.)
use Rattle.std.specs.Prelude.{ℕ, ◌≡◌, List, slice_get}
use Rattle.ray_form.specs.Form.{payload_in}
use Rattle.ray_serial.specs.Meaning.{IsForm, deserialized_in, handle_in}
use Rattle.ray_serial.specs.Written.{form_bytes}

-- the form with these handles in place of its own
abbrev pub with_handles : List ℕ → List ℕ → List ℕ
with_handles bytes handles = form_bytes (deserialized_in bytes) handles (payload_in bytes)

-- a form has the payload of another, and so its instances, and these handles
pub record IsReplaced (bytes handles other : List ℕ) : Type 0 where
  pub form : IsForm other
  pub payload : payload_in other ≡ payload_in bytes
  pub each : (k : ℕ) → handle_in other k ≡ slice_get handles k
