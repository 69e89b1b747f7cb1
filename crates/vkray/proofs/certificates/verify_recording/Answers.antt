use Rattle.std.proofs.Common.{subst}
use Rattle.ray_inputs.specs.Inputs.{CertifiedCommands}
use Rattle.vkray.specs.Endings.{IsVerifiedTo}
use Rattle.vkray.proofs.certificates.verify_recording.Goals as goal

pub returns : goal.returns
returns g c =
    subst (λ (v : CertifiedCommands). IsVerifiedTo v c.verify_lines.result) (λ i. record { commands = c.recording.ensures i; certificates = c.certificates.ensures i }) c.verify_lines.ensures
