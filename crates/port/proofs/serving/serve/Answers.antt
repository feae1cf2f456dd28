use Rattle.std.proofs.Common.{◌≡◌, ℕ, not, Err, ap, ◌∙◌, rules}
use Rattle.command.specs.declared.faults.Fault.TheVariants.{Wire, Command}
use Rattle.command.specs.Decoding.{frame_of}
use Rattle.command.specs.Frames.{verb_of, of_chain}
use Rattle.port.proofs.ServedBodies.{kept_is, no_frame, no_command, finishes}
use Rattle.port.proofs.serving.serve.Goals as goal

pub returns-in_err-frame : goal.returns-in_err-frame
returns-in_err-frame g c =
    let e : Err (Wire c.in_err-frame.field-0.0) ≡ c.from_residual.result = search rules in
    no_frame c.args.node (g.D.Dictionary.meaning c.args.dict.now) c.args.chain.now c.args.staging.now c.args.body.now _ c.new.ensures
    c.in_err-frame.field-0.0 c.in_err-frame.ensures _ e

pub returns-in_err-command : goal.returns-in_err-command
returns-in_err-command g c =
    let f = c.in_ok-frame.frame in
    let e : Err (Command c.in_err-command.field-0.0) ≡ c.from_residual-in_err-command.result = search rules in
    no_command c.args.node (g.D.Dictionary.meaning c.args.dict.now) c.args.chain.now c.args.staging.now c.args.body.now _ c.new.ensures f c.in_ok-frame.ensures
    c.in_err-command.field-0.0 c.in_err-command.ensures _ e c.keeps.result _ (c.keeps.ensures ∙ ap (λ (x : ℕ). not (of_chain (verb_of x))) c.opcode.ensures) c.drop-guard.ensures

pub carry_out-requires : goal.carry_out-requires
carry_out-requires g c =
    let f = c.in_ok-frame.frame in
    (c.keeps.ensures ∙ (ap (λ (x : ℕ). not (of_chain (verb_of x))) c.opcode.ensures ∙ kept_is (frame_of f) c.in_ok-command.command c.in_ok-command.ensures.1))

pub returns : goal.returns
returns g c =
    let f = c.in_ok-frame.frame in
    finishes c.args.node (g.D.Dictionary.meaning c.args.dict.now) c.args.chain.now c.args.staging.now c.args.body.now _ c.new.ensures f c.in_ok-frame.ensures
    c.in_ok-command.command c.in_ok-command.ensures _ c.carry_out.new.guard.kept _ _ _ _ c.carry_out.ensures.leaves (search rules)
