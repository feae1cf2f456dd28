-- Heard frames carried out one after the other: the objects and the chain that they leave.
use Rattle.std.proofs.Common.{ℕ, List, [], ◌∷◌}
use Rattle.wire.specs.Frames.{Frame}
use Rattle.dictionary.specs.Objects.{Objects}
use Rattle.command.specs.Checks.{closed}
use Rattle.command.specs.Commands.{Outcome, carry}

-- these frames, the newest first, from opening with d0
unfoldable pub after : ℕ → Objects → List Frame → Outcome
after node d0 [] = record { data_back = []; chain = closed; objects = d0 }
after node d0 (f ∷ hs) = let o : Outcome = after node d0 hs in carry node o.objects o.chain f
