-- That too many bytes are told so.
use Rattle.std.proofs.Common.{◌≡◌, ◌<◌, ℕ, List, Result, Ok, Err, inl, length, refl}
use Rattle.std.specs.Prelude.{IfOk, codes}
use Rattle.std.specs.declared.alloc.AllocError.{AllocError}
use Rattle.vkray.specs.Answer.{Ending}
use Rattle.vkray.specs.Call.{most_bytes}
use Rattle.vkray.specs.Written.{status_of, text_of}
use Rattle.vkray.specs.declared.status.Status.TheVariants as statuses
use Rattle.vkray.specs.declared.stop.Stop.TheVariants.{TooLong}
use Rattle.vkray_c.specs.declared.reply.Reply.{Reply}
use Rattle.vkray_c.specs.Checks.{IsEndingOfCheck}

pub too_long_tells : (bytes : List ℕ) (r : Result Reply AllocError) → most_bytes < length bytes
    → IfOk r (λ reply. reply.status ≡ statuses.TooLong) → IfOk r (λ reply. reply.text.items ≡ codes "too-long\n")
    → IfOk r (λ reply. (ending : Ending) × IsEndingOfCheck bytes ending × (reply.status ≡ status_of ending) × (reply.text.items ≡ text_of ending))
too_long_tells bytes (Ok reply) many status text = (Err TooLong, inl (many, refl), status, text)
too_long_tells bytes (Err e) many status text = tt
