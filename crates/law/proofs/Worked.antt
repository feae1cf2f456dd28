-- The worked facts: the model computes them, and the law leaves no other behaviour.
use Rattle.std.proofs.Common.{◌≡◌, List, [], ◌∷◌, replicate, sym, refl, ap, ◌∙◌}
use Rattle.wire.specs.Checking.{fits}
use Rattle.wire.specs.Checksum.{takes, register, words, checksum_of}
use Rattle.wire.proofs.Examples as wire
use Rattle.dictionary.specs.declared.Address.{Address}
use Rattle.dictionary.specs.Objects.{Bytes, Objects, value, look}
use Rattle.dictionary.specs.declared.Fault.TheVariants.{OverHigh}
use Rattle.dictionary.proofs.Words.{admitted, admitted_back}
use Rattle.command.specs.Answers.{four, answer_control}
use Rattle.command.specs.Checks.{first, fault}
use Rattle.command.specs.Commands.{answer, next_chain, write_of, carry}
use Rattle.command.specs.Frames.{verb, len, node_of, address, payload, declared, read_toggle, write_toggle, size, marked, part}
use Rattle.law.specs.Calls.{Call, Brought, Event, calls}
use Rattle.law.specs.Lawful.{Lawful, SameObjects}
use Rattle.law.specs.Worked.{board, number_at, output, Outputs, Leaves, brought, Brings, read_run, write_run, Worked}
use Rattle.law.proofs.After.{after}
use Rattle.law.proofs.Open.{open_now}
use Rattle.law.proofs.Model.{run, run_led, run_calls}
use Rattle.law.proofs.Determined.{determined}
use Rattle.law.proofs.Ports.{none_some}

module _ (bytes : Bytes) (made : List Call) where
  same : (events : List Event) (d : Objects) → calls events ≡ made → Lawful 1 (board bytes) events d
      → (events ≡ (run 1 (board bytes) made).events) × SameObjects d (run 1 (board bytes) made).objects
  same events d c l =
      determined 1 (board bytes) events (run 1 (board bytes) made).events d (run 1 (board bytes) made).objects
      (c ∙ sym (run_calls 1 (board bytes) made)) l (run_led 1 (board bytes) made).lawful

  pub outputs : (lines : List Bytes) → output (run 1 (board bytes) made).events ≡ lines → Outputs bytes made lines
  outputs lines e events d c l = ap output (same events d c l).0 ∙ e

  pub leaves : (a : Address) (v : Bytes) → value (run 1 (board bytes) made).objects a ≡ v → Leaves bytes made a v
  leaves a v e events d c l = (same events d c l).1.same_value a ∙ e

brings : (made : List Call) (given : List Brought) → brought (run 1 (board []) made).events ≡ given → Brings made given
brings made given e events d c l = ap brought (same [] made events d c l).0 ∙ e

pub worked : Worked
unfolding takes register words checksum_of fits verb len node_of address payload declared read_toggle write_toggle size marked part first fault four answer_control answer next_chain write_of carry run after
worked =
    record {
      checksum_one = refl;
      checksum_two = refl;
      five_lines = outputs [] _ _ refl;
      four_lines = outputs [] _ _ refl;
      fourth_unheard = (wire.worked).fourth_unheard;
      value_written = leaves [] _ _ _ refl;
      mark = (wire.worked).mark;
      no_mark = (wire.worked).no_mark;
      highest = admitted (look (board []) number_at) (0x88 ∷ 0x13 ∷ []) refl;
      over_highest = λ h. none_some OverHigh (sym (admitted_back (look (board []) number_at) (0x89 ∷ 0x13 ∷ []) h));
      highest_taken = outputs [] _ _ refl;
      highest_stands = leaves [] _ _ _ refl;
      over_high = outputs [] _ _ refl;
      over_high_stands = leaves [] _ _ _ refl;
      twice = outputs (7 ∷ []) _ _ refl;
      twice_stands = leaves (7 ∷ []) _ _ _ refl;
      once_written = leaves (7 ∷ []) _ _ _ refl;
      one_answer = open_now 1 (board (replicate 255 9)) (read_run ∷ []);
      one_answer_only = outputs _ _ _ refl;
      one_segment = open_now 1 (board (replicate 256 9)) (read_run ∷ []);
      one_segment_only = outputs _ _ _ refl;
      capacity = outputs [] _ _ refl;
      capacity_open = open_now 1 (board []) (write_run 0 4 ∷ []);
      over_capacity = outputs [] _ _ refl;
      over_capacity_closed = open_now 1 (board []) (write_run 1 4 ∷ []);
      damaged = outputs [] _ _ refl;
      refused_between = outputs [] _ _ refl;
      silence_between = outputs [] _ _ refl;
      silence_in_chain = outputs [] _ _ refl;
      too_small = brings _ _ refl;
    }
