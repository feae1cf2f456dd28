-- What a board does with the bytes of a cable. Assumes nothing.
use Rattle.std.specs.Prelude.{ℕ, List, [], ◌∷◌, ◌++◌, take, Some, None, Ok, Err, Option, Result}
use Rattle.port.specs.declared.ports.Refusal.{Refusal}
use Rattle.port.specs.declared.ports.Reply.{Reply}
use Rattle.port.specs.Ports as ports
use Rattle.bench.specs.Printing.{answer_line}

-- the port's node, all that a byte call may change, and the text that is still to be printed
pub record State : Type 0 where
  pub node : ℕ
  pub board : ports.Board
  pub text : List ℕ

-- the line of an answer, which stands at the front of the answer memory; no other call prints one
abbrev pub printed : Result (Option Reply) Refusal → List ℕ → List ℕ
printed (Ok (Some reply)) answer = answer_line (take reply.length answer)
printed (Ok None) answer = []
printed (Err e) answer = []

-- a byte is given to the port
abbrev pub taken : State → ℕ → State
taken s byte =
    let called = ports.byte_of s.node s.board byte in
    record { node = s.node; board = called.after; text = s.text ++ printed called.result called.after.answer }

-- one byte after another
abbrev pub all_taken : State → List ℕ → State
all_taken s [] = s
all_taken s (byte ∷ more) = all_taken (taken s byte) more
