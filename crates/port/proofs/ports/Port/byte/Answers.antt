use Rattle.std.proofs.Common.{Err, sym, refl, ◌∙◌, rules}
use Rattle.std.proofs.lemmas.Bool.{lt-ltb, le-ltb}
use Rattle.port.specs.declared.ports.Refusal.TheVariants.{StagingMemory, AnswerMemory}
use Rattle.port.specs.Ports.{board, call_result}
use Rattle.port.proofs.Keeping.{in_frame, in_staging, in_answer, short_call, keeps}
use Rattle.port.proofs.Widening.{first_then, byte_front}
use Rattle.port.proofs.ports.Port.byte.Goals as goal

pub returns-in_default-clause-steps : goal.returns-in_default-clause-steps
returns-in_default-clause-steps g c = sym (short_call _ _ _ _ _ (in_frame (lt-ltb _ _ c.in_default.ensures.cases)))

pub returns-in_default-first_chunk_mut-clause-steps : goal.returns-in_default-first_chunk_mut-clause-steps
returns-in_default-first_chunk_mut-clause-steps g c =
    let first = c.in-Some.ensures.cases in
    (λ i. call_result (Err StagingMemory) (board c.args.self.now (g.D.Dictionary.meaning c.args.dict.now) (first_then _ _ _ first i) c.args.staging.now c.args.answer.now))
    ∙ sym (short_call _ _ _ _ _ (in_staging (le-ltb _ _ first.enough) (lt-ltb _ _ c.in_default-first_chunk_mut.ensures.cases)))

pub returns-in_default-first_chunk_mut-2-clause-steps : goal.returns-in_default-first_chunk_mut-2-clause-steps
returns-in_default-first_chunk_mut-2-clause-steps g c =
    let first = c.in-Some.ensures.cases in
    let second = c.in-Some-first_chunk_mut.ensures.cases in
    (λ i. call_result (Err AnswerMemory) (board c.args.self.now (g.D.Dictionary.meaning c.args.dict.now) (first_then _ _ _ first i) (first_then _ _ _ second i) c.args.answer.now))
    ∙ sym (short_call _ _ _ _ _ (in_answer (le-ltb _ _ first.enough) (le-ltb _ _ second.enough) (lt-ltb _ _ c.in_default-first_chunk_mut-2.ensures.cases)))

pub returns-clause-steps : goal.returns-clause-steps
returns-clause-steps g c =
    byte_front c.args.self.now c.take.new.self (g.D.Dictionary.meaning c.args.dict.now) (g.D.Dictionary.meaning c.take.new.dict) c.args.frame.now c.args.staging.now c.args.answer.now
    _ _ _ c.take.new.frame c.take.new.staging c.take.new.answer c.args.byte c.take.result
    c.in-Some.ensures.cases c.in-Some-first_chunk_mut.ensures.cases c.in-Some-first_chunk_mut-2.ensures.cases
    (search rules) (search rules) (search rules) c.take.ensures.steps

pub returns-in_default-clause-lawful : goal.returns-in_default-clause-lawful
returns-in_default-clause-lawful g c = keeps _ _ _ _ _ _ _ _ _ _ _ _ (returns-in_default-clause-steps g c) refl (λ e _. refl)

pub returns-in_default-first_chunk_mut-clause-lawful : goal.returns-in_default-first_chunk_mut-clause-lawful
returns-in_default-first_chunk_mut-clause-lawful g c = keeps _ _ _ _ _ _ _ _ _ _ _ _ (returns-in_default-first_chunk_mut-clause-steps g c) refl (λ e _. refl)

pub returns-in_default-first_chunk_mut-2-clause-lawful : goal.returns-in_default-first_chunk_mut-2-clause-lawful
returns-in_default-first_chunk_mut-2-clause-lawful g c = keeps _ _ _ _ _ _ _ _ _ _ _ _ (returns-in_default-first_chunk_mut-2-clause-steps g c) refl (λ e _. refl)

pub returns-clause-lawful : goal.returns-clause-lawful
returns-clause-lawful g c =
    keeps _ _ _ _ _ _ _ _ _ _ _ _ (returns-clause-steps g c) c.take.ensures.node (λ e h. cc)
