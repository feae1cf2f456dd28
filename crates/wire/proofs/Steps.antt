-- The receiver's steps over a whole stretch, one after the other.
use Rattle.std.proofs.Common.{ℕ, List, [], ◌∷◌}
use Rattle.wire.specs.declared.receiving.Phase.TheVariants.{Hunting}
use Rattle.wire.specs.Receiving.{Step, moves, step}

-- the last of the steps that the bytes bring
abbrev pub steps : Step → List ℕ → Step
steps s [] = s
steps s (b ∷ bytes) = steps (step s.phase s.gathered b) bytes

abbrev pub after : List ℕ → Step
after stretch = steps (moves Hunting []) stretch
