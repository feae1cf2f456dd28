-- What a board holds, and what it does with a line of a recording. Assumes nothing.
use Rattle.std.specs.Prelude.{◌≡◌, ℕ, [], ◌++◌, string_bytes}
use Rattle.dictionary.specs.Objects.{Objects}
use Rattle.port.specs.Ports as ports
use Rattle.port.specs.Runs.{SilenceKeepsLaw}
use Rattle.recording.specs.Meaning.{Meaning, bytes, silence, nothing, bad}
use Rattle.bench.specs.declared.boards.Board.{Board}
use Rattle.bench.specs.Printing.{bad_line}
use Rattle.bench.specs.Serving.{State, all_taken}

module _ {D : Type 0} (meaning : D → Objects) where
  -- a board, by what its dictionary means
  abbrev pub state : Board D → State
  state b = record { node = b.port.node; board = ports.board b.port (meaning b.dict) b.frame b.staging b.answer; text = string_bytes b.text }

  -- the port is told of a silence, and nothing else changes
  pub record Silences (s t : Board D) : Type 0 where
    pub law : SilenceKeepsLaw s.port t.port
    pub kept : t ≡ record s { port = t.port }

  -- what the board does with a line: a bad one is printed by its number, and gives no byte
  abbrev pub Serves : Board D → ℕ → Meaning → Board D → Type 0
  Serves s number (bytes xs) t = state t ≡ all_taken (state s) xs
  Serves s number silence t = Silences s t
  Serves s number nothing t = t ≡ s
  Serves s number bad t = state t ≡ (let old = state s in record { node = old.node; board = old.board; text = old.text ++ bad_line number })

  -- the text is printed
  abbrev pub Prints : Board D → Board D → Type 0
  Prints s t = state t ≡ (let old = state s in record { node = old.node; board = old.board; text = [] })
