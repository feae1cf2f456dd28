use Rattle.std.proofs.Common.{◌≡◌, ◌+◌, ◌++◌, length, take}
use Rattle.wire.specs.Framing.{laid}
use Rattle.wire.specs.Line.{stuff}
use Rattle.wire.proofs.framing.put_all.Given as goal

abbrev pub invariant-loop-b : goal.invariant-loop-b
invariant-loop-b l =
    (l.at ≡ l.start + length (stuff (take l.b-index l.bytes)))
    × (l.memory ≡ laid (take l.start l.initial.memory ++ stuff (take l.b-index l.bytes)) l.initial.memory)
