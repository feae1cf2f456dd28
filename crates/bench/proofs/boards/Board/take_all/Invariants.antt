-- The bytes that are left lead to where all of them lead.
use Rattle.std.proofs.Common.{◌≡◌}
use Rattle.recording.specs.Reading.{left}
use Rattle.bench.specs.Boards.{state}
use Rattle.bench.specs.Serving.{all_taken}
use Rattle.bench.proofs.boards.Board.take_all.Given as goal

abbrev pub invariant-loop-byte : goal.invariant-loop-byte
invariant-loop-byte g l =
    all_taken (state g.D.Dictionary.meaning l.self) (left l.byte-iterator) ≡ all_taken (state g.D.Dictionary.meaning l.initial.self) (left l.initial.byte-iterator)
