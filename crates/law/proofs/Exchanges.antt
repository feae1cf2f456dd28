-- One heard frame more keeps the objects, the open chain, the answers and the read chains as the law has them.
use Rattle.std.proofs.Common.{ℕ, List, [], ◌∷◌, refl}
use Rattle.wire.specs.Frames.{Frame}
use Rattle.dictionary.specs.Objects.{Bytes, Objects}
use Rattle.command.specs.Checks.{OpenChain, closed}
use Rattle.command.specs.Commands.{carry}
use Rattle.law.specs.Histories.{InTurn}
use Rattle.law.specs.Held.{ObjectsHeld}
use Rattle.law.specs.ReadChains.{OpenAfter}
use Rattle.law.specs.Calls.{Exchange, frames}
use Rattle.law.specs.ReadAnswers.{ReadChainsBringFront}
use Rattle.law.specs.Lawful.{AnsweredByTable}
use Rattle.law.proofs.Values.{kept_opening}
use Rattle.law.proofs.Open.{open_none, objects_next, chain_next}
use Rattle.law.proofs.Brings.{brings}

-- what the law says of the exchanges, the objects d and the chain c that they leave
pub record ExchangesLaw (node : ℕ) (d0 : Objects) (exchanges : List Exchange) (d : Objects) (c : OpenChain) : Type 0 where
  pub objects : ObjectsHeld node d0 (frames exchanges) d
  pub chain : OpenAfter node d0 (frames exchanges) c
  pub answers : InTurn (AnsweredByTable node d0) exchanges
  pub read_chains : InTurn (ReadChainsBringFront node d0) exchanges

pub opening : (node : ℕ) (d0 : Objects) → ExchangesLaw node d0 [] d0 closed
opening node d0 =
    record {
      objects = let k = kept_opening node d0 in record { same_entry = k.same; held = k.held };
      chain = open_none node d0;
      answers = tt;
      read_chains = tt;
    }

abbrev pub exchange : Frame → Bytes → Exchange
exchange f x = record { heard = f; data_back = x }

pub one_more : (node : ℕ) (d0 : Objects) (exchanges : List Exchange) (d : Objects) (c : OpenChain) (f : Frame) → ExchangesLaw node d0 exchanges d c
    → ExchangesLaw node d0 (exchange f (carry node d c f).data_back ∷ exchanges) (carry node d c f).objects (carry node d c f).chain
unfolding carry
one_more node d0 exchanges d c f l =
    let given : InTurn (AnsweredByTable node d0) (exchange f (carry node d c f).data_back ∷ exchanges) =
    (record { objects = d; objects_held = l.objects; chain = c; chain_open = l.chain; given = refl }, l.answers) in
    record {
      objects = objects_next node d0 (frames exchanges) d c l.objects l.chain f;
      chain = chain_next node d0 (frames exchanges) d c l.objects l.chain f;
      answers = given;
      read_chains = (brings node d0 exchanges _ given, l.read_chains);
    }
