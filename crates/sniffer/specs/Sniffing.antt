-- What a sniffer does with a line of a recording. Assumes nothing.
use Rattle.std.specs.Prelude.{◌≡◌, ℕ, List, [], ◌++◌, take}
use Rattle.recording.specs.Meaning.{Meaning, bytes, silence, nothing, bad}
use Rattle.wire.specs.Holding.{Holds}
use Rattle.sniffer.specs.declared.cable.Sniffer.{Sniffer}
use Rattle.sniffer.specs.Adding.{AddsEach}
use Rattle.sniffer.specs.Reporting.{Reported, with_line, bad_counted, bad_line_lem}

-- the stretch after a line of the recording
abbrev pub stretch_after : Meaning → List ℕ → List ℕ
stretch_after (bytes xs) stretch = stretch ++ xs
stretch_after silence stretch = []
stretch_after nothing stretch = stretch
stretch_after bad stretch = stretch

-- what such a line adds to a report
abbrev pub LineAdds : ℕ → Meaning → List ℕ → Reported → Reported → Type 0
LineAdds number (bytes xs) stretch old new = AddsEach stretch xs old new
LineAdds number silence stretch old new = new ≡ old
LineAdds number nothing stretch old new = new ≡ old
LineAdds number bad stretch old new = new ≡ with_line (bad_line_lem number) (bad_counted old.tally) old

-- a sniffer that took this stretch
abbrev pub Took : List ℕ → Sniffer → Type 0
Took stretch s = Holds stretch s.receiver.phase (take s.receiver.gathered s.memory)

-- what it does with a line
abbrev pub Sniffs : Sniffer → ℕ → Meaning → Sniffer → Type 0
Sniffs s number m t =
    (stretch : List ℕ) → Took stretch s → Took (stretch_after m stretch) t × LineAdds number m stretch s.report t.report

-- its report is printed, and its counts stay
pub record Prints (s t : Sniffer) : Type 0 where
  pub receiver : t.receiver ≡ s.receiver
  pub memory : t.memory ≡ s.memory
  pub text : t.report.text ≡ []
  pub tally : t.report.tally ≡ s.report.tally
