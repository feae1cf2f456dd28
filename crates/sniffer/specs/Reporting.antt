-- What is counted, and the lines that are printed. Assumes nothing.
use Rattle.std.specs.Prelude.{ℕ, ◌+◌, ◌-◌, ◌^◌, min, cond, List, [], ◌∷◌, ◌++◌, length, take, drop, codes, decimal, nat_lt, slice_index}
use Rattle.recording.specs.Spelling.{spelled_byte, spelled_bytes}
use Rattle.sniffer.specs.declared.passing.Passed.{Passed}
use Rattle.sniffer.specs.declared.passing.Passed.TheVariants.{Heard, Damaged}
use Rattle.sniffer.specs.declared.reports.Tally.{Tally}

abbrev pub none_counted : Tally
none_counted = record { heard = 0; damaged = 0; bad = 0 }

-- a report: the text that is still to be printed, and the counts
pub record Reported : Type 0 where
  pub text : List ℕ
  pub tally : Tally

-- before the first byte
abbrev pub unreported : Reported
unreported = record { text = []; tally = none_counted }

-- a line more, and these counts
abbrev pub with_line : List ℕ → Tally → Reported → Reported
with_line line tally old = record { text = old.text ++ line; tally = tally }

-- a count stops at the greatest number of 64 bits
abbrev pub one_more : ℕ → ℕ
one_more n = min (n + 1) (2 ^ 64 - 1)

abbrev pub heard_counted : Tally → Tally
heard_counted t = record { heard = one_more t.heard; damaged = t.damaged; bad = t.bad }

abbrev pub damaged_counted : Tally → Tally
damaged_counted t = record { heard = t.heard; damaged = one_more t.damaged; bad = t.bad }

abbrev pub bad_counted : Tally → Tally
bad_counted t = record { heard = t.heard; damaged = t.damaged; bad = one_more t.bad }

-- a body that passed is counted
abbrev pub counted : Passed → Tally → Tally
counted Heard t = heard_counted t
counted Damaged t = damaged_counted t

-- a word, then OpCode, Len and data in digit pairs
abbrev pub parts_line : List ℕ → ℕ → ℕ → List ℕ → List ℕ
parts_line word opcode len content =
    word ++ ((codes " opcode=" ++ spelled_byte opcode) ++ ((codes " len=" ++ spelled_byte len) ++ ((codes " data=" ++ spelled_bytes content) ++ 0x0A ∷ [])))

-- the line of a body: its OpCode, its Len, and its data up to the checksum, which is its last two bytes; fewer than four bytes are no body
abbrev pub body_line_lem : List ℕ → List ℕ → List ℕ
body_line_lem word body = cond (nat_lt (length body) 4) [] (parts_line word (slice_index body 0) (slice_index body 1) (take (length body - 4) (drop 2 body)))

-- the word for how a body passed
abbrev pub word_of : Passed → List ℕ
word_of Heard = codes "heard"
word_of Damaged = codes "damaged"

-- the line of a body that passed
abbrev pub passed_line_lem : Passed → List ℕ → List ℕ
passed_line_lem passed body = body_line_lem (word_of passed) body

-- the line for a bad line of the recording
abbrev pub bad_line_lem : ℕ → List ℕ
bad_line_lem number = codes "?" ++ (decimal number ++ 0x0A ∷ [])

-- the last line
abbrev pub total_line_lem : Tally → ℕ → List ℕ
total_line_lem t lines =
    codes "total heard=" ++ (decimal t.heard ++ (codes " damaged=" ++ (decimal t.damaged
    ++ (codes " lines=" ++ (decimal lines ++ (codes " bad=" ++ (decimal t.bad ++ 0x0A ∷ [])))))))
