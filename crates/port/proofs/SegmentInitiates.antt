-- A chain begins: a read chain with the whole value staged, a write chain where the object takes the declared length.
use Rattle.std.proofs.Common.{◌≡◌, ℕ, ◌-◌, ◌<◌, ◌≤◌, ltb, [], length, take, Some, None, Ok, Err, Option, Result, sym, refl, ap, ◌∙◌, arith}
use Rattle.std.proofs.lemmas.List.{take_at}
use Rattle.std.proofs.lemmas.Bool.{cond-true, cond-false, lt-ltb, le-ltb}
use Rattle.wire.specs.Framing.{laid}
use Rattle.dictionary.specs.declared.Address.{Address}
use Rattle.dictionary.specs.declared.Fault as dictionary
use Rattle.dictionary.specs.Objects.{Bytes, Objects, value}
use Rattle.command.specs.declared.commands.Command.TheVariants.{InitiateSegmentedRead, InitiateSegmentedWrite}
use Rattle.command.specs.declared.faults.Fault.{Fault}
use Rattle.command.specs.declared.faults.Fault.TheVariants.{Dictionary}
use Rattle.command.specs.Answers.{most, accepted_data, first_segment_back}
use Rattle.command.specs.Checks.{Check, OpenChain, closed, reading, writing, fault}
use Rattle.command.specs.Commands.{by_fault, remains}
use Rattle.command.specs.Frames.{initiate_read, initiate_write, address}
use Rattle.port.specs.Objects.{Tells, Stages}
use Rattle.port.specs.Serving.{Carried}
use Rattle.port.proofs.Served.{answered, leaves_by, none_found, one_found}

module _ (d : Objects) (c : OpenChain) (m : Bytes) (at : Address) (declared : ℕ) where
  pub write_refused : (e : dictionary.Fault) → Tells {X = Unit {0}} (InitiateSegmentedWrite at declared) d (Err e) tt
      → Carried (InitiateSegmentedWrite at declared) d c m (Err (Dictionary e)) closed d m
  unfolding Carried Tells
  write_refused e told node f is passes =
      let k = one_found (fault node d c f) (Dictionary e) tt (told node c f is passes) in
      leaves_by node d c m f initiate_write (Some k.0) is.0 k.1 _ _ _ _ (ap Err k.2) refl refl refl

  pub write_begins : Tells {X = Unit {0}} (InitiateSegmentedWrite at declared) d (Ok tt) tt
      → (a : Bytes) → a ≡ accepted_data [] → Carried (InitiateSegmentedWrite at declared) d c m (Ok a) (writing at declared [] 0) d m
  unfolding Carried Tells
  write_begins told a ae node f is passes =
      leaves_by node d c m f initiate_write None is.0 (none_found (fault node d c f) tt tt (told node c f is passes)) _ _ _ _
      (ap Ok ae) (λ i. writing (is.1 i) (is.2 i) [] 0) refl refl

module _ (d : Objects) (c : OpenChain) (m m1 : Bytes) (at : Address)
    (staged : Stages (InitiateSegmentedRead at) d at m m1) where
  pub read_refused : (e : dictionary.Fault) → Tells (InitiateSegmentedRead at) d (Err e) (length (value d at))
      → Carried (InitiateSegmentedRead at) d c m (Err (Dictionary e)) closed d m1
  unfolding Carried Tells Stages
  read_refused e told node f is passes =
      let k = one_found (fault node d c f) (Dictionary e) (length (value d at)) (told node c f is passes) in
      leaves_by node d c m f initiate_read (Some k.0) is.0 k.1 _ _ _ _ (ap Err k.2) refl refl
      (staged node c f is passes ∙ ap (λ a. by_fault (fault node d c f) (λ _. m) (laid (value d a) m)) is.1)

  module _ (len : ℕ) (told : Tells (InitiateSegmentedRead at) d (Ok len) (length (value d at)))
      (a : Bytes) (ae : a ≡ accepted_data (first_segment_back (take (len - 0) m1))) where
    read_begins : (l : OpenChain) → ((w : Bytes) → len ≡ length w → take len m1 ≡ w → l ≡ remains w most 0) → Carried (InitiateSegmentedRead at) d c m (Ok a) l d m1
    unfolding Carried Tells Stages
    read_begins l le node f is passes =
        let same : len - 0 ≡ len = omega arith in
        let t = told node c f is passes in
        let none = none_found (fault node d c f) len (length (value d at)) t in
        let s = staged node c f is passes in
        let q : value d at ≡ value d (address f) = ap (value d) is.1 in
        let n : len ≡ length (value d (address f)) = ok_is (t ∙ ap (λ (x : Option Check). answered x (length (value d at))) none) ∙ ap length q in
        let whole : m1 ≡ laid (value d (address f)) m = s ∙ (ap (λ (x : Option Check). by_fault x (λ _. m) (laid (value d at) m)) none ∙ ap (λ w. laid w m) q) in
        let w : take len m1 ≡ value d (address f) = ap (take len) whole ∙ take_at (value d (address f)) _ len (sym n) in
        leaves_by node d c m f initiate_read None is.0 none _ _ _ _ (ap Ok (ae ∙ ap (λ x. accepted_data (first_segment_back x)) (ap (λ (i : ℕ). take i m1) same ∙ w))) (le (value d (address f)) n w) refl
        (s ∙ ap (λ a. by_fault (fault node d c f) (λ _. m) (laid (value d a) m)) is.1)
      where
        ok_is : {x y : ℕ} → ◌≡◌ {A = Result ℕ Fault} (Ok x) (Ok y) → x ≡ y
        ok_is e = cc

    pub more_remain : most < len → Carried (InitiateSegmentedRead at) d c m (Ok a) (reading (take len m1) most 0) d m1
    more_remain more =
        read_begins (reading (take len m1) most 0) (λ w n e. ap (λ x. reading x most 0) e ∙ sym (cond-true (ltb most (length w)) _ _ (lt-ltb _ _ (omega (arith, n, more)))))

    pub all_sent : len ≤ most → Carried (InitiateSegmentedRead at) d c m (Ok a) closed d m1
    all_sent none = read_begins closed (λ w n e. sym (cond-false (ltb most (length w)) _ _ (le-ltb _ _ (omega (arith, n, none)))))

-- what the check is given for each function

pub ruleset begins_read = (read_refused, more_remain, all_sent)

pub ruleset begins_write = (write_refused, write_begins)
