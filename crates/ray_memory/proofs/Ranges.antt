-- The bytes of a range, as a part of the bytes of a buffer.
use Rattle.std.proofs.Common.{ℕ, zero, suc, ◌≡◌, ◌≢◌, ◌<◌, ◌≤◌, ◌+◌, List, [], ◌∷◌, length, take, drop, get_or, Option, Some, None, refl, ap, sym, ◌∙◌, inl, inr, arith}
use Rattle.std.specs.Prelude.{slice_get, nat_le}
use Rattle.std.proofs.Math.Seq.{drop-cons}
use Rattle.std.proofs.lemmas.Bool.Decides.{nat_tests}
use Rattle.std.proofs.lemmas.Bool.{cases_lt, cond-true, cond-false}
use Rattle.std.proofs.lemmas.Option.{slice_get_past, slice_get-get_or}
use Rattle.ray_action.specs.Memory.{Memory, ByteAt, bytes_from, number_before}
use Rattle.ray_memory.specs.Bytes.{BufferValue, part_at, part_in}
use Rattle.ray_memory.specs.State.{byte_in}

part-there : (bytes : List ℕ) (from n : ℕ) → from + n ≤ length bytes → part_at bytes from n ≡ Some (take n (drop from bytes))
part-there bytes from n fits = cond-true (nat_le (from + n) (length bytes)) _ _ (grind (arith, nat_tests))

part-missing : (bytes : List ℕ) (from n : ℕ) → length bytes < from + n → part_at bytes from n ≡ None
part-missing bytes from n past = cond-false (nat_le (from + n) (length bytes)) _ _ (grind (arith, nat_tests))

-- a byte, and the part after it
part-more : (bytes : List ℕ) (from n : ℕ) → from < length bytes → number_before (Some (get_or bytes from 0)) (part_at bytes (from + 1) n) ≡ part_at bytes from (suc n)
part-more bytes from n below =
    elim (cases_lt (length bytes) (from + suc n)) [
      | inl past ↦
          ap (number_before (Some (get_or bytes from 0))) (part-missing bytes (from + 1) n (omega arith)) ∙ sym (part-missing bytes from (suc n) past)
      | inr fits ↦
          let next : suc from ≡ from + 1 = omega arith in
          ap (number_before (Some (get_or bytes from 0))) (part-there bytes (from + 1) n (omega arith))
          ∙ sym (part-there bytes from (suc n) (omega arith)
          ∙ ap (λ xs. Some (take (suc n) xs)) (drop-cons bytes from 0 below ∙ ap (λ j. get_or bytes from 0 ∷ drop j bytes) next))
    ]

-- bytes of a buffer that is there, from a place within it or at its end
pub bytes-part : (m : Memory) (buffer : ℕ) (bytes : List ℕ) → ((at : ℕ) → m (ByteAt buffer at) ≡ slice_get bytes at)
    → (n from : ℕ) → from ≤ length bytes → bytes_from m buffer from n ≡ part_at bytes from n
unfolding bytes_from
bytes-part m buffer bytes each zero from within = sym (part-there bytes from 0 (omega arith))
bytes-part m buffer bytes each (suc n) from within =
    elim (cases_lt from (length bytes)) [
      | inl below ↦
          let first : m (ByteAt buffer from) ≡ Some (get_or bytes from 0) = each from ∙ slice_get-get_or bytes from 0 below in
          let rest = bytes-part m buffer bytes each n (from + 1) (omega arith) in
          (λ i. number_before (first i) (rest i)) ∙ part-more bytes from n below
      | inr past ↦
          let first : m (ByteAt buffer from) ≡ None = each from ∙ slice_get_past bytes from past in
          ap (λ o. number_before o (bytes_from m buffer (from + 1) n)) first ∙ sym (part-missing bytes from (suc n) (omega arith))
    ]

-- no byte is missing of none
pub bytes-none : (m : Memory) (buffer from n : ℕ) → n ≡ 0 → bytes_from m buffer from n ≡ Some []
unfolding bytes_from
bytes-none m buffer from zero e = refl
bytes-none m buffer from (suc n) e = absurd (omega arith)

-- where the first is missing, not all are there
pub bytes-missing : (m : Memory) (buffer from n : ℕ) → n ≢ 0 → m (ByteAt buffer from) ≡ None → bytes_from m buffer from n ≡ None
unfolding bytes_from
bytes-missing m buffer from zero some e = absurd (some refl)
bytes-missing m buffer from (suc n) some e = ap (λ o. number_before o (bytes_from m buffer (from + 1) n)) e

-- some bytes of a buffer that is there
pub bytes-some : (m : Memory) (buffer : ℕ) (bytes : List ℕ) → ((at : ℕ) → m (ByteAt buffer at) ≡ slice_get bytes at)
    → (from n : ℕ) → n ≢ 0 → bytes_from m buffer from n ≡ part_at bytes from n
bytes-some m buffer bytes each from n some =
    elim (cases_lt (length bytes) from) [
      | inl past ↦
          bytes-missing m buffer from n some (each from ∙ slice_get_past bytes from (omega arith)) ∙ sym (part-missing bytes from n (omega arith))
      | inr within ↦ bytes-part m buffer bytes each n from (omega arith)
    ]

-- the bytes of a buffer, be it live or not
pub bytes-in : (m : Memory) (buffer : ℕ) (found : Option BufferValue) → ((at : ℕ) → m (ByteAt buffer at) ≡ byte_in at found)
    → (from n : ℕ) → n ≢ 0 → bytes_from m buffer from n ≡ part_in found from n
bytes-in m buffer None each from n some = bytes-missing m buffer from n some (each from)
bytes-in m buffer (Some b) each from n some = bytes-some m buffer b.bytes each from n some
