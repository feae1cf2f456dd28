-- Digits are a text.
use Rattle.std.proofs.Common.{rules}
use Rattle.recording.proofs.Spelled.{is_text}
use Rattle.recording.proofs.digits.write_part.Goals as goal

pub unwrap-requires : goal.unwrap-requires
unwrap-requires g c = is_text _ c.from_utf8.result _ c.args.bytes.now c.spell_all-count.ensures.digits (λ i. search rules) c.from_utf8.ensures.cases
