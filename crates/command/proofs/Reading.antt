-- What is read of a checked body is read of its bytes: the check can be computed.
use Rattle.std.proofs.Common.{◌≡◌, ℕ, List, Result, subst}
use Rattle.wire.specs.declared.checked.Frame as code
use Rattle.wire.specs.declared.faults.Fault as wire
use Rattle.wire.specs.Checking.{Checks, shown, checked_frame}
use Rattle.wire.proofs.Apart.{computed}
use Rattle.command.specs.declared.commands.Command.{Command}
use Rattle.command.specs.declared.faults.Fault.{Fault}
use Rattle.command.specs.Decoding.{Reads}

pub read_of : (bytes body : List ℕ) (r : Result code.Frame wire.Fault) (node : ℕ) (told : Result Command Fault) → bytes ≡ body → Checks bytes r
    → Reads node (shown r) told → Reads node (checked_frame body) told
read_of bytes body r node told e h k = subst (λ x. Reads node (checked_frame x) told) e (subst (λ x. Reads node x told) (computed bytes r h) k)
