-- The digits of the bytes so far are appended, and there is room for the others.
use Rattle.std.proofs.Common.{◌≡◌, ◌+◌, ◌-◌, ◌*◌, ◌≤◌, ◌++◌, length, take, string_bytes, string_len, string_capacity}
use Rattle.recording.specs.Spelling.{spelled_bytes}
use Rattle.recording.proofs.spelling.push_pairs.Given as goal

abbrev pub invariant-loop-b : goal.invariant-loop-b
invariant-loop-b l =
    (string_bytes l.text ≡ string_bytes l.initial.text ++ spelled_bytes (take l.b-index l.bytes))
    × (string_len l.text + 2 * (length l.bytes - l.b-index) ≤ string_capacity l.text)
