-- What a frame leaves, by its verb and by the fault that the table finds.
use Rattle.std.proofs.Common.{◌≡◌, ℕ, Bool, true, cond, Some, None, Ok, Err, Option, Result, sym, refl, ap, ◌∙◌}
use Rattle.wire.specs.Frames.{Frame}
use Rattle.dictionary.specs.Objects.{Bytes, Objects}
use Rattle.command.specs.declared.faults.Fault.{Fault}
use Rattle.command.specs.Answers.{accepted_data}
use Rattle.command.specs.Checks.{Check, OpenChain, closed, fault_of, fault, found}
use Rattle.command.specs.Commands.{by_fault, brings_back, chain_by, next_chain, writes, write_of, apply}
use Rattle.command.specs.Frames.{Verb, verb}
use Rattle.port.specs.declared.chains.Chain.{Chain}
use Rattle.port.specs.Chains.{chain_of}
use Rattle.port.specs.Serving.{staged_by, frame_done, Leaves, left}

-- what the table says to a fault
abbrev pub answered : {X : Type 0} → Option Check → X → Result X Fault
answered x a = by_fault x (λ k. Err (fault_of k)) (Ok a)

module _ (node : ℕ) (d : Objects) (c : OpenChain) (m : Bytes) (f : Frame) where
  pub leaves_by : (w : Verb) (x : Option Check) → verb f ≡ w → fault node d c f ≡ x
      → (answer : Result Bytes Fault) (chain : OpenChain) (objects : Objects) (staging : Bytes)
      → answer ≡ answered x (accepted_data (brings_back w d c f)) → chain ≡ chain_by w x d c f
      → objects ≡ apply d (by_fault x (λ _. None) (writes w d c f)) → staging ≡ staged_by w node d c f m
      → Leaves (frame_done node d c m f) answer chain objects staging
  unfolding frame_done next_chain write_of
  leaves_by w x we xe answer chain objects staging ae ce oe se =
      record {
        answer_is = ae ∙ sym (λ i. answered (xe i) (accepted_data (brings_back (we i) d c f)));
        chain_is = ce ∙ sym (λ i. chain_by (we i) (xe i) d c f);
        objects_are = oe ∙ sym (λ i. apply d (by_fault (xe i) (λ _. None) (writes (we i) d c f)));
        staging_is = se ∙ sym (λ i. staged_by (we i) node d c f m);
      }

-- a chain that is not kept ends, and one that is kept is that of its record

pub goes_on : (kept : Bool) (s : Option Chain) (m : Bytes) → kept ≡ true → left kept s m ≡ chain_of s m
goes_on kept s m e = ap (λ (b : Bool). cond b (chain_of s m) closed) e

-- what an answer by the table says of the fault

pub none_found : {X : Type 0} (x : Option Check) (a b : X) → Ok a ≡ answered x b → x ≡ None
none_found None a b e = refl
none_found (Some k) a b e = cc

pub one_found : {X : Type 0} (x : Option Check) (e : Fault) (b : X) → Err e ≡ answered x b → (k : Check) × (x ≡ Some k) × (e ≡ fault_of k)
one_found None e b h = cc
one_found (Some k) e b h = (k, refl, cc)

pub found_one : (x : Option Check) (e : Fault) → found x ≡ Some e → (k : Check) × (x ≡ Some k) × (e ≡ fault_of k)
found_one None e h = cc
found_one (Some k) e h = (k, refl, cc)

pub found_none : (x : Option Check) → found x ≡ None → x ≡ None
found_none None h = refl
found_none (Some k) h = cc
