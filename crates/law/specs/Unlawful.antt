-- Runs that the law turns down: what wrong ports would bring, on the two objects of the worked facts.
-- Assumes nothing.
use Rattle.std.specs.Prelude.{◌≡◌, ℕ, List, [], ◌∷◌, ◌++◌, ◌≢◌}
use Rattle.dictionary.specs.Objects.{Bytes, Objects, value}
use Rattle.command.specs.Answers.{four}
use Rattle.law.specs.Calls.{Call, silence, Event, calls}
use Rattle.law.specs.Lawful.{Lawful}
use Rattle.law.specs.Worked.{board, number_at, then_lines, then_frames, output, read_line, write_line, write_number, read_run, write_run, segment, refused_by, done}

-- no lawful run of these calls has this output
abbrev pub Unlawful : List Call → List Bytes → Type 0
Unlawful made lines = (events : List Event) (d : Objects) → calls events ≡ made → Lawful 1 (board []) events d → output events ≢ lines

pub record WrongPorts : Type 0 where
  -- answers zero to a WriteObject without writing
  pub writes_nothing : (events : List Event) (d : Objects) → calls events ≡ then_frames [] (write_number 0x90 0 ∷ []) → Lawful 1 (board []) events d
      → value d number_at ≢ value (board []) number_at
  -- always refuses, by whatever code
  pub always_refuses : (code : ℕ) → Unlawful (then_lines [] (read_line ∷ [])) (refused_by code ∷ [])
  -- gives one fixed answer to all frames
  pub one_fixed_answer : (answer : Bytes) → Unlawful (then_lines [] (read_line ∷ write_line ∷ [])) (answer ∷ answer ∷ [])
  -- makes up the length of a value
  pub made_up_length : Unlawful (then_frames [] (read_run ∷ [])) (done (four 1 ++ (0 ∷ 0 ∷ [])) ∷ [])
  -- denies having a chain after a good initiate
  pub denies_chain : Unlawful (then_frames [] (write_run 2 0 ∷ segment 2 10 20 ∷ [])) (done [] ∷ refused_by 0x08000022 ∷ [])
  -- is deaf after its first frame
  pub deaf_after_first : (answer : Bytes) → Unlawful (then_lines [] (read_line ∷ read_line ∷ [])) (answer ∷ [])
  -- keeps an older chain open over a refused initiate
  pub keeps_older_chain : Unlawful (then_frames [] (write_run 2 0 ∷ write_run 1 4 ∷ segment 2 10 20 ∷ []))
      (done [] ∷ refused_by 0x06070012 ∷ done (2 ∷ 0 ∷ []) ∷ [])
  -- joins a repeated segment
  pub joins_repeated : Unlawful (then_frames [] (write_run 4 0 ∷ segment 0 10 20 ∷ segment 0 10 20 ∷ []))
      (done [] ∷ done (2 ∷ 0 ∷ []) ∷ done (2 ∷ 0 ∷ []) ∷ [])
  -- leaves a chain open after a segment that it refused
  pub refused_segment_kept : Unlawful (then_frames [] (write_run 2 0 ∷ segment 3 10 20 ∷ segment 2 10 20 ∷ []))
      (done [] ∷ refused_by 0x05030000 ∷ done (2 ∷ 0 ∷ []) ∷ [])
  -- closes the chain at a silence
  pub silence_closes : Unlawful (then_frames (silence ∷ then_frames [] (write_run 2 0 ∷ [])) (segment 2 10 20 ∷ [])) (done [] ∷ refused_by 0x08000022 ∷ [])
