-- A body carried out: the commands on one object, and what the guard leaves of the chain.
use Rattle.std.proofs.Common.{◌≡◌, ℕ, Bool, true, false, cond, not, ◌++◌, Some, None, Ok, Err, Option, Result, sym, refl, ap, ◌∙◌, subst}
use Rattle.wire.specs.declared.checked.Frame as code
use Rattle.wire.specs.declared.faults.Fault as wire
use Rattle.wire.specs.Checking.{Checks, checked_frame}
use Rattle.wire.specs.Frames.{Frame}
use Rattle.wire.specs.Framing.{laid}
use Rattle.wire.proofs.Apart.{computed}
use Rattle.dictionary.specs.declared.Address.{Address}
use Rattle.dictionary.specs.Objects.{Bytes, Objects, value}
use Rattle.command.specs.declared.commands.Command.{Command}
use Rattle.command.specs.declared.commands.Command.TheVariants.{ReadObject, InitiateSegmentedRead, WriteObject, InitiateSegmentedWrite, SegmentRead, SegmentWrite}
use Rattle.command.specs.declared.faults.CommandFault.{CommandFault}
use Rattle.command.specs.declared.faults.Fault.{Fault}
use Rattle.command.specs.declared.faults.Fault.TheVariants.{Wire, Command as OfCommand}
use Rattle.command.specs.Answers.{accepted_data}
use Rattle.command.specs.Checks.{Check, OpenChain, closed, fault, joined_of}
use Rattle.command.specs.Commands.{Write, by_fault, brings_back, chain_by, writes, write_of, apply}
use Rattle.command.specs.Decoding.{Is, Decodes, command_check, frame_of}
use Rattle.command.specs.Frames.{Verb, read_object, initiate_read, write_object, initiate_write, segment_read, segment_write, unknown}
use Rattle.command.specs.Frames.{verb_of, verb, of_chain, address, part}
use Rattle.command.proofs.Rows.{row_refuses}
use Rattle.port.specs.declared.chains.Chain.{Chain}
use Rattle.port.specs.Chains.{chain_of}
use Rattle.port.specs.Objects.{Answers, Writes}
use Rattle.port.specs.Serving.{Leaves, Carried, left, leaves_chain, body_done, frame_done, staged_by, segment_fault}
use Rattle.port.proofs.SegmentRows.{row_before}
use Rattle.port.proofs.Served.{answered, leaves_by, goes_on, found_one}

-- The commands on one object leave chain and staging memory.

no_write : (x : Option Check) → ◌≡◌ {A = Option Write} None (by_fault x (λ _. None) None)
no_write None = refl
no_write (Some k) = refl

module _ (d : Objects) (s : Option Chain) (m : Bytes) (at : Address) (answer : Result Bytes Fault) (kept : Bool) where
  pub read_leaves : (command : Command) → command ≡ ReadObject at → kept ≡ leaves_chain command
      → Answers (ReadObject at) d answer
      → Carried command d (chain_of s m) m answer (left kept s m) d m
  unfolding Carried Answers
  read_leaves command ce ye told =
      subst (λ x. Carried x d (chain_of s m) m answer (left kept s m) d m) (sym ce) (λ node f is passes.
      let c = chain_of s m in
      leaves_by node d c m f read_object (fault node d c f) is.0 refl _ _ _ _
      (told node c f is passes ∙ ap (λ w. answered (fault node d c f) (accepted_data (brings_back w d c f))) is.0)
      (goes_on kept s m (ye ∙ ap leaves_chain ce)) (ap (apply d) (no_write (fault node d c f))) refl)

  pub write_leaves : (command : Command) (n : ℕ) (d1 : Objects) → command ≡ WriteObject at n → kept ≡ leaves_chain command
      → Answers (WriteObject at n) d answer
      → Writes (WriteObject at n) d d1
      → Carried command d (chain_of s m) m answer (left kept s m) d1 m
  unfolding Carried Answers Writes write_of
  write_leaves command n d1 ce ye told after =
      subst (λ x. Carried x d (chain_of s m) m answer (left kept s m) d1 m) (sym ce) (λ node f is passes.
      let c = chain_of s m in
      leaves_by node d c m f write_object (fault node d c f) is.0 refl _ _ _ _
      (told node c f is passes ∙ ap (λ w. answered (fault node d c f) (accepted_data (brings_back w d c f))) is.0)
      (goes_on kept s m (ye ∙ ap leaves_chain ce))
      (after node c f is passes ∙ ap (λ w. apply d (by_fault (fault node d c f) (λ _. None) (writes w d c f))) is.0) refl)

-- The guard.

-- it keeps the chain at the OpCodes of the commands that leave it
pub kept_is : (f : Frame) (command : Command) → Is f command → not (of_chain (verb_of f.opcode)) ≡ leaves_chain command
unfolding verb
kept_is f (ReadObject at) is = ap (λ w. not (of_chain w)) is.0
kept_is f (InitiateSegmentedRead at) is = ap (λ w. not (of_chain w)) is.0
kept_is f (WriteObject at n) is = ap (λ w. not (of_chain w)) is.0
kept_is f (InitiateSegmentedWrite at n) is = ap (λ w. not (of_chain w)) is.0
kept_is f (SegmentRead toggle) is = ap (λ w. not (of_chain w)) is.0
kept_is f (SegmentWrite n toggle last p) is = ap (λ w. not (of_chain w)) is.0

dropped : (kept : Bool) (s : Option Chain) (m : Bytes) → chain_of (cond kept s None) m ≡ left kept s m
dropped true s m = refl
dropped false s m = refl

ends_chain : (w : Verb) (k : Check) (d : Objects) (c : OpenChain) (f : Frame) → cond (not (of_chain w)) c closed ≡ chain_by w (Some k) d c f
ends_chain read_object k d c f = refl
ends_chain initiate_read k d c f = refl
ends_chain write_object k d c f = refl
ends_chain initiate_write k d c f = refl
ends_chain segment_read k d c f = refl
ends_chain segment_write k d c f = refl
ends_chain unknown k d c f = refl

module _ (node : ℕ) (d : Objects) (s : Option Chain) (m bytes b : Bytes) (be : b ≡ bytes) where
  abbrev c : OpenChain
  c = chain_of s m

  pub no_frame : (e : wire.Fault) → Checks b (Err e) → (answer : Result Bytes Fault) → Err (Wire e) ≡ answer
      → Leaves (body_done node d c m (checked_frame bytes)) answer c d m
  no_frame e h answer ae =
      subst (λ x. Leaves (body_done node d c m x) answer c d m) (computed b (Err e) h ∙ ap checked_frame be)
      (record { answer_is = sym ae; chain_is = refl; objects_are = refl; staging_is = refl })

  module _ (f : code.Frame) (h : Checks b (Ok f)) where
    as_frame : (answer : Result Bytes Fault) (l : OpenChain) (d1 : Objects) (m1 : Bytes) → Leaves (frame_done node d c m (frame_of f)) answer l d1 m1
        → Leaves (body_done node d c m (checked_frame bytes)) answer l d1 m1
    as_frame answer l d1 m1 = subst (λ x. Leaves (body_done node d c m x) answer l d1 m1) (computed b (Ok f) h ∙ ap checked_frame be)

    unstaged : (w : Verb) (k : Check) → fault node d c (frame_of f) ≡ Some k → segment_fault node d c (frame_of f) ≡ Some k → m ≡ staged_by w node d c (frame_of f) m
    unstaged read_object k p q = refl
    unstaged initiate_read k p q = sym (ap (λ (x : Option Check). by_fault x (λ _. m) (laid (value d (address (frame_of f))) m)) p)
    unstaged write_object k p q = refl
    unstaged initiate_write k p q = refl
    unstaged segment_read k p q = refl
    unstaged segment_write k p q = sym (ap (λ (x : Option Check). by_fault x (λ _. m) (laid (joined_of c ++ part (frame_of f)) m)) q)
    unstaged unknown k p q = refl

    -- a frame that the command row turns away
    pub no_command : (e : CommandFault) → Decodes node (frame_of f) (Err e) → (answer : Result Bytes Fault) → Err (OfCommand e) ≡ answer
        → (kept : Bool) (s1 : Option Chain) → kept ≡ not (of_chain (verb_of f.opcode)) → s1 ≡ cond kept s None
        → Leaves (body_done node d c m (checked_frame bytes)) answer (chain_of s1 m) d m
    unfolding verb
    no_command e g answer ae kept s1 ye se =
        let k = found_one (command_check node (frame_of f)) (OfCommand e) g in
        let x = row_refuses node d c (frame_of f) k.0 k.1 in
        as_frame answer (chain_of s1 m) d m
        (leaves_by node d c m (frame_of f) (verb (frame_of f)) (Some k.0) refl x _ _ _ _ (sym ae ∙ ap Err k.2)
        (ap (λ z. chain_of z m) se ∙ (dropped kept s m ∙ (ap (λ (y : Bool). cond y c closed) ye ∙ ends_chain (verb (frame_of f)) k.0 d c (frame_of f))))
        refl (unstaged (verb (frame_of f)) k.0 x (row_before node d c (frame_of f) k.0 k.1)))

    -- a command that was carried out
    pub finishes : (command : Command) → Decodes node (frame_of f) (Ok command) → (answer : Result Bytes Fault) (kept : Bool) (s1 s2 : Option Chain) (d1 : Objects) (m1 : Bytes)
        → Carried command d c m answer (left kept s1 m1) d1 m1 → s2 ≡ cond kept s1 None
        → Leaves (body_done node d c m (checked_frame bytes)) answer (chain_of s2 m1) d1 m1
    unfolding Carried
    finishes command g answer kept s1 s2 d1 m1 carried se =
        as_frame answer (chain_of s2 m1) d1 m1
        (subst (λ l. Leaves (frame_done node d c m (frame_of f)) answer l d1 m1) (sym (ap (λ z. chain_of z m1) se ∙ dropped kept s1 m1)) (carried node (frame_of f) g.1 g.0))

-- what the check is given for each function

pub ruleset on_objects = (read_leaves, write_leaves)
