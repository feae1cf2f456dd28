-- A segment of a read chain brings the next bytes of the value that was staged when the chain began.
use Rattle.std.proofs.Common.{◌≡◌, ℕ, ◌+◌, ◌<◌, ◌≤◌, Bool, true, false, cond, not, eqb, ltb, length, take, Some, None, Ok, Err, Option, Result, sym, refl, ap, ◌∙◌, subst, arith}
use Rattle.std.proofs.lemmas.List.{length-take-le}
use Rattle.std.proofs.lemmas.Bool.{cond-true, cond-false, lt-ltb, le-ltb}
use Rattle.wire.specs.Frames.{Frame}
use Rattle.dictionary.specs.Objects.{Bytes, Objects}
use Rattle.command.specs.declared.commands.Command.TheVariants.{SegmentRead}
use Rattle.command.specs.declared.faults.Fault.{Fault}
use Rattle.command.specs.declared.faults.Fault.TheVariants as fault-of
use Rattle.command.specs.declared.faults.ChainFault.{ChainFault}
use Rattle.command.specs.declared.faults.ChainFault as chain
use Rattle.command.specs.Answers.{most, bit, accepted_data, segment_back}
use Rattle.command.specs.Checks.{Check, NoChain, Toggle, OpenChain, closed, reading, no_chain, fault}
use Rattle.command.specs.Commands.{read_on}
use Rattle.command.specs.Decoding.{command_check}
use Rattle.command.specs.Frames.{segment_read, verb, read_toggle}
use Rattle.port.specs.declared.chains.Chain.{Chain}
use Rattle.port.specs.declared.chains.Direction.{Direction}
use Rattle.port.specs.declared.chains.Direction.TheVariants.{Read, Write}
use Rattle.port.specs.Chains.{open_chain, chain_of, in_turn_lem}
use Rattle.port.specs.Serving.{Carried}
use Rattle.port.proofs.SegmentRows.{same_turn, read_row, other_turn, bits_same, bit_flip}
use Rattle.port.proofs.Served.{leaves_by}

no_read_chain : (w : Direction) (n k : ℕ) (t : Bool) (m : Bytes) → (w ≡ Read → ⊥) → no_chain segment_read (open_chain w n k t m) ≡ true
no_read_chain Read n k t m h = absurd (h refl)
no_read_chain (Write a) n k t m h = refl

module _ (d : Objects) (s : Option Chain) (m : Bytes) (toggle : Bool) where
  pub without_chain : no_chain segment_read (chain_of s m) ≡ true → Carried (SegmentRead toggle) d (chain_of s m) m (Err (fault-of.Chain chain.TheVariants.NoChain)) closed d m
  unfolding Carried
  without_chain h node f is passes =
      leaves_by node d (chain_of s m) m f segment_read (Some NoChain) is.0 (read_row node d (chain_of s m) f passes is.0 ∙ cond-true _ _ _ h)
      _ _ _ _ refl refl refl refl

  pub closed_chain : s ≡ None → Carried (SegmentRead toggle) d (chain_of s m) m (Err (fault-of.Chain chain.TheVariants.NoChain)) closed d m
  closed_chain e = without_chain (ap (λ x. no_chain segment_read (chain_of x m)) e)

  pub write_chain : (x : Chain) → s ≡ Some x → (x.direction ≡ Read → ⊥) → Carried (SegmentRead toggle) d (chain_of s m) m (Err (fault-of.Chain chain.TheVariants.NoChain)) closed d m
  write_chain x e h = without_chain (ap (λ y. no_chain segment_read (chain_of y m)) e ∙ no_read_chain x.direction x.declared x.count x.toggle m h)

  module _ (x : Chain) (is-open : s ≡ Some x) (reads : x.direction ≡ Read) where
    abbrev declared : ℕ
    declared = x.declared

    abbrev count : ℕ
    count = x.count

    abbrev turn : Bool
    turn = x.toggle

    abbrev c : OpenChain
    c = reading (take declared m) count (bit turn)

    chain_is : chain_of s m ≡ c
    chain_is = ap (λ y. chain_of y m) is-open ∙ ap (λ w. open_chain w declared count turn m) reads

    at_state : (answer : Result Bytes Fault) (l : OpenChain) → Carried (SegmentRead toggle) d c m answer l d m → Carried (SegmentRead toggle) d (chain_of s m) m answer l d m
    at_state answer l h = subst (λ y. Carried (SegmentRead toggle) d y m answer l d m) (sym chain_is) h

    fault_is : (node : ℕ) (f : Frame) (b : Bool) → verb f ≡ segment_read → bit toggle ≡ read_toggle f → command_check node f ≡ None
        → not (eqb (bit toggle) (bit turn)) ≡ b → fault node d c f ≡ cond b (Some Toggle) None
    fault_is node f b v t passes e =
        read_row node d c f passes v ∙ ap (λ (x : Bool). cond {A = Option Check} x (Some Toggle) None) (ap (λ k. not (eqb k (bit turn))) (sym t) ∙ e)

    pub out_of_turn : (e : ChainFault) → Err e ≡ in_turn_lem turn toggle → Carried (SegmentRead toggle) d (chain_of s m) m (Err (fault-of.Chain e)) closed d m
    unfolding Carried
    out_of_turn e h =
        let o = other_turn turn toggle e h in
        at_state _ _ (λ node f is passes.
        leaves_by node d c m f segment_read (Some Toggle) is.0 (fault_is node f true is.0 is.1 passes o.0) _ _ _ _ (ap (λ x. Err (fault-of.Chain x)) o.1) refl refl refl)

    module _ (same : turn ≡ toggle) (fits : declared ≤ length m) (a : Bytes) (ae : a ≡ accepted_data (segment_back (take declared m) count (bit turn))) where
      long : length (take declared m) ≡ declared
      long = length-take-le declared m fits

      brings : (l : OpenChain) → l ≡ read_on c → Carried (SegmentRead toggle) d (chain_of s m) m (Ok a) l d m
      unfolding Carried
      brings l le =
          at_state _ _ (λ node f is passes.
          leaves_by node d c m f segment_read None is.0 (fault_is node f false is.0 is.1 passes (bits_same turn toggle same)) _ _ _ _
          (ap Ok ae) le refl refl)

      pub more_remain : count + most < declared → (l : OpenChain) → l ≡ reading (take declared m) (count + most) (bit (not turn)) → Carried (SegmentRead toggle) d (chain_of s m) m (Ok a) l d m
      more_remain more l le =
          brings l
          (le ∙ ap (λ t. reading (take declared m) (count + most) t) (bit_flip turn)
          ∙ sym (cond-true (ltb (count + most) (length (take declared m))) _ _ (lt-ltb _ _ (omega (arith, long, more)))))

      pub all_sent : declared ≤ count + most → Carried (SegmentRead toggle) d (chain_of s m) m (Ok a) closed d m
      all_sent none = brings closed (sym (cond-false (ltb (count + most) (length (take declared m))) _ _ (le-ltb _ _ (omega (arith, long, none)))))

-- what the check is given for each function

pub ruleset reads_on = (closed_chain, write_chain, out_of_turn, more_remain, all_sent, same_turn)
