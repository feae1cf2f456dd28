-- Neighbours that never both apply: by what they concern, by the entry, or by the checks that come before them.
use Rattle.std.proofs.Common.{◌≡◌, ℕ, ◌+◌, ◌≤◌, Bool, true, false, cond, ◌&&◌, ltb, List, [], ◌∷◌, ◌++◌, length, get_or, take, drop, Some, Option, sym, refl, ap, ◌∙◌, inl, inr, arith, length-append, length-drop, length-take}
use native.Mathlib.Nat.{min-eq_left}
use Rattle.std.proofs.lemmas.Bool.{ltb-true, ltb-false, le-ltb, and_parts}
use Rattle.dictionary.specs.declared.Shape.TheVariants.{Number, Run}
use Rattle.dictionary.specs.Objects.{Bytes, Objects, Entry, no_index, no_subindex, present, look, TakesLength, Sound}
use Rattle.dictionary.specs.Checks.{index_absent, subindex_absent, write_only, is_run, over_length, under_length}
use Rattle.dictionary.proofs.Words.{takes_back}
use Rattle.wire.specs.Frames.{Frame}
use Rattle.command.specs.Frames.{Verb, read_object, initiate_read, write_object, initiate_write, segment_read, segment_write, unknown}
use Rattle.command.specs.Frames.{verb, len, address, payload, size, marked, part, room}
use Rattle.command.specs.Checks.{Check, OpCode, Len, Node, NoChain, Toggle, NAgainstLen, SumOver, LastShort, Index, Subindex, ReadOfWo, WriteOfRo, OnRun, OverLength, UnderLength, OverHigh}
use Rattle.command.specs.Checks.{OpenChain, closed, reading, writing, checks, entry_for, length_for, first_of, first, in_order, fault, low_bytes}
use Rattle.command.specs.Neighbours.{Taken, Neighbours}
use Rattle.command.proofs.Tables.{on_last, off, eq_from}

-- The first check to apply applies, and those before it do not.

holds_or : (p : Check → Bool) (b : Bool) (j k : Check) (r : Option Check) → p j ≡ b → cond b (Some j) r ≡ Some k → (r ≡ Some k → p k ≡ true) → p k ≡ true
holds_or p true j k r q h later = let same : k ≡ j = cc in ap p same ∙ q
holds_or p false j k r q h later = later h

holds : (p : Check → Bool) (ks : List Check) (k : Check) → first_of p ks ≡ Some k → p k ≡ true
holds p [] k e = cc
holds p (j ∷ ks) k e = holds_or p (p j) j k (first_of p ks) refl e (holds p ks k)

passed_over : (b : Bool) (j k : Check) (r : Option Check) → (j ≡ k → ⊥) → cond b (Some j) r ≡ Some k → (b ≡ false) × (r ≡ Some k)
passed_over true j k r n e = absurd (n (cc))
passed_over false j k r n e = (refl, e)

and_right : (m b : Bool) → b ≡ false → m && b ≡ false
and_right true b e = e
and_right false b e = refl

second : (m b : Bool) → m && b ≡ true → b ≡ true
second m b h = (and_parts m b h).1

-- By the entry.

absent_once : (m : Bool) (e : Entry) → m && index_absent e ≡ true → m && subindex_absent e ≡ false
absent_once m no_index h = and_right m false refl
absent_once m no_subindex h = off (sym (second m false h))
absent_once m (present a s) h = and_right m false refl

absent_read : (m : Bool) (e : Entry) → m && subindex_absent e ≡ true → m && write_only e ≡ false
absent_read m no_index h = and_right m false refl
absent_read m no_subindex h = and_right m false refl
absent_read m (present a s) h = off (sym (second m false h))

run_within : (e : Entry) (v : Bytes) → is_run e ≡ true → over_length e (length (low_bytes e v)) ≡ false
run_within no_index v h = refl
run_within no_subindex v h = refl
run_within (present a (Number w s low high)) v h = off (sym h)
run_within (present a (Run capacity)) v h = le-ltb capacity 0 (omega arith)

over_or_under : (m : Bool) (e : Entry) (n : ℕ) → m && over_length e n ≡ true → m && under_length e n ≡ false
over_or_under m no_index n h = and_right m false refl
over_or_under m no_subindex n h = and_right m false refl
over_or_under m (present a (Number w s low high)) n h = and_right m (ltb n w) (le-ltb n w (omega (arith, ltb-true w n (second m _ h))))
over_or_under m (present a (Run capacity)) n h = and_right m false refl

module _ (node : ℕ) (d : Objects) (c : OpenChain) (f : Frame) where
  abbrev turns : Verb → Check → Bool
  turns w k = checks w node d c f k

  at_fault : (k : Check) → fault node d c f ≡ Some k → turns (verb f) k ≡ true
  unfolding fault first
  at_fault k e = holds (turns (verb f)) in_order k e

  opcode_len : (w : Verb) → turns w OpCode ≡ true → turns w Len ≡ false
  opcode_len read_object h = off (sym h)
  opcode_len initiate_read h = off (sym h)
  opcode_len write_object h = off (sym h)
  opcode_len initiate_write h = off (sym h)
  opcode_len segment_read h = off (sym h)
  opcode_len segment_write h = off (sym h)
  opcode_len unknown h = refl

  node_no_chain : (w : Verb) → turns w Node ≡ true → turns w NoChain ≡ false
  node_no_chain read_object h = refl
  node_no_chain initiate_read h = refl
  node_no_chain write_object h = refl
  node_no_chain initiate_write h = refl
  node_no_chain segment_read h = off (sym h)
  node_no_chain segment_write h = off (sym h)
  node_no_chain unknown h = off (sym h)

  sum_over_last_short : (w : Verb) → turns w SumOver ≡ true → turns w LastShort ≡ false
  sum_over_last_short read_object h = off (sym h)
  sum_over_last_short initiate_read h = off (sym h)
  sum_over_last_short write_object h = off (sym h)
  sum_over_last_short initiate_write h = off (sym h)
  sum_over_last_short segment_read h = off (sym h)
  sum_over_last_short segment_write h = and_right (marked f) _ (le-ltb _ _ (omega (arith, ltb-true _ _ h)))
  sum_over_last_short unknown h = off (sym h)

  index_subindex : (w : Verb) → turns w Index ≡ true → turns w Subindex ≡ false
  index_subindex read_object h = absent_once true (look d (address f)) h
  index_subindex initiate_read h = absent_once true (look d (address f)) h
  index_subindex write_object h = absent_once true (look d (address f)) h
  index_subindex initiate_write h = absent_once true (look d (address f)) h
  index_subindex segment_read h = off (sym h)
  index_subindex segment_write h = absent_once (marked f) (entry_for segment_write d c f) h
  index_subindex unknown h = off (sym h)

  subindex_read_of_wo : (w : Verb) → turns w Subindex ≡ true → turns w ReadOfWo ≡ false
  subindex_read_of_wo read_object h = absent_read true (look d (address f)) h
  subindex_read_of_wo initiate_read h = absent_read true (look d (address f)) h
  subindex_read_of_wo write_object h = refl
  subindex_read_of_wo initiate_write h = refl
  subindex_read_of_wo segment_read h = refl
  subindex_read_of_wo segment_write h = refl
  subindex_read_of_wo unknown h = refl

  read_of_wo_write_of_ro : (w : Verb) → turns w ReadOfWo ≡ true → turns w WriteOfRo ≡ false
  read_of_wo_write_of_ro read_object h = refl
  read_of_wo_write_of_ro initiate_read h = refl
  read_of_wo_write_of_ro write_object h = off (sym h)
  read_of_wo_write_of_ro initiate_write h = off (sym h)
  read_of_wo_write_of_ro segment_read h = refl
  read_of_wo_write_of_ro segment_write h = off (sym h)
  read_of_wo_write_of_ro unknown h = refl

  on_run_over_length : (w : Verb) → turns w OnRun ≡ true → turns w OverLength ≡ false
  on_run_over_length read_object h = refl
  on_run_over_length initiate_read h = refl
  on_run_over_length write_object h = run_within (look d (address f)) (payload f) h
  on_run_over_length initiate_write h = off (sym h)
  on_run_over_length segment_read h = refl
  on_run_over_length segment_write h = off (sym h)
  on_run_over_length unknown h = refl

  over_length_under_length : (w : Verb) → turns w OverLength ≡ true → turns w UnderLength ≡ false
  over_length_under_length read_object h = refl
  over_length_under_length initiate_read h = refl
  over_length_under_length write_object h = over_or_under true (look d (address f)) (length_for write_object d c f) h
  over_length_under_length initiate_write h = over_or_under true (look d (address f)) (length_for initiate_write d c f) h
  over_length_under_length segment_read h = refl
  over_length_under_length segment_write h = over_or_under (marked f) (entry_for segment_write d c f) (length_for segment_write d c f) h
  over_length_under_length unknown h = refl

  -- By the checks before.

  last_short_index : (w : Verb) → Taken d c → turns w LastShort ≡ true → turns w Index ≡ false
  last_short_index read_object t h = off (sym h)
  last_short_index initiate_read t h = off (sym h)
  last_short_index write_object t h = off (sym h)
  last_short_index initiate_write t h = off (sym h)
  last_short_index segment_read t h = off (sym h)
  last_short_index segment_write t h = and_right (marked f) _ (by c t h)
    where
      by : (c : OpenChain) → Taken d c → checks segment_write node d c f LastShort ≡ true → index_absent (entry_for segment_write d c f) ≡ false
      by closed t k = absurd (omega (arith, ltb-true _ _ (second (marked f) _ k)))
      by (reading v sent u) t k = absurd (omega (arith, ltb-true _ _ (second (marked f) _ k)))
      by (writing a n joined u) t k = (takes_back (look d a) n t).0.0
  last_short_index unknown t h = off (sym h)

  -- what a frame found under its length has passed
  pub record BeforeLength : Type 0 where
    pub len_passed : turns (verb f) Len ≡ false
    pub chain_passed : turns (verb f) NoChain ≡ false
    pub n_passed : turns (verb f) NAgainstLen ≡ false
    pub sum_passed : turns (verb f) SumOver ≡ false
    pub last_passed : turns (verb f) LastShort ≡ false

  before_length : fault node d c f ≡ Some UnderLength → BeforeLength
  unfolding fault first
  before_length e =
      let opcode = passed_over _ OpCode UnderLength _ (λ z. cc) e in
      let length = passed_over _ Len UnderLength _ (λ z. cc) opcode.1 in
      let own = passed_over _ Node UnderLength _ (λ z. cc) length.1 in
      let chain = passed_over _ NoChain UnderLength _ (λ z. cc) own.1 in
      let turn = passed_over _ Toggle UnderLength _ (λ z. cc) chain.1 in
      let n = passed_over _ NAgainstLen UnderLength _ (λ z. cc) turn.1 in
      let sum = passed_over _ SumOver UnderLength _ (λ z. cc) n.1 in
      let last = passed_over _ LastShort UnderLength _ (λ z. cc) sum.1 in
      record { len_passed = length.0; chain_passed = chain.0; n_passed = n.0; sum_passed = sum.0; last_passed = last.0 }

  payload_length : len f ≡ 4 → length (payload f) ≡ 4
  unfolding len payload
  payload_length e = length-take 4 (drop 4 f.content) ∙ min-eq_left (omega (arith, e, length-drop 4 f.content))

  part_length : len f ≡ room (size f) → length (part f) ≡ size f
  unfolding len size part
  part_length e = length-take (get_or f.content 0 0) (drop 2 f.content) ∙ min-eq_left (omega (arith, e, length-drop 2 f.content))

  -- the low bytes of a WriteObject have the width
  whole_width : (e : Entry) → Sound d → look d (address f) ≡ e → length (payload f) ≡ 4 → under_length e (length (low_bytes e (payload f))) ≡ true → ⊥
  whole_width no_index s q l h = off (sym h)
  whole_width no_subindex s q l h = off (sym h)
  whole_width (present a (Number w g low high)) s q l h =
      let small : w ≤ 4 = elim (s.allowed (address f) a (Number w g low high) q).0 [ inl x ↦ omega arith | inr y ↦ elim y [ inl x ↦ omega arith | inr x ↦ omega arith ] ] in
      let width : length (take w (payload f)) ≡ w = length-take w (payload f) ∙ min-eq_left (omega arith) in
      omega (arith, ltb-true _ _ h)
  whole_width (present a (Run capacity)) s q l h = off (sym h)

  -- a chain that brings its declared length brings one that the object takes
  whole_chain : (e : Entry) (n m : ℕ) → TakesLength e n → m ≡ n → under_length e m ≡ true → ⊥
  whole_chain no_index n m t q h = absurd t
  whole_chain no_subindex n m t q h = absurd t
  whole_chain (present a (Number w g low high)) n m t q h = omega (arith, t.1, ltb-true _ _ h)
  whole_chain (present a (Run capacity)) n m t q h = off (sym h)

  last_segment : (c : OpenChain) → Taken d c → checks segment_write node d c f NoChain ≡ false → checks segment_write node d c f NAgainstLen ≡ false
      → checks segment_write node d c f SumOver ≡ false → checks segment_write node d c f LastShort ≡ false → checks segment_write node d c f UnderLength ≡ true → ⊥
  last_segment closed t chain n sum last h = off chain
  last_segment (reading v sent u) t chain n sum last h = off chain
  last_segment (writing a declared joined u) t chain n sum last h =
      let m : marked f ≡ true = (and_parts (marked f) _ h).0 in
      let fits : length (part f) ≡ size f = part_length (eq_from (len f) (room (size f)) n) in
      let within = ltb-false declared (length joined + size f) sum in
      let reached = ltb-false (length joined + size f) declared (on_last (marked f) _ m last) in
      whole_chain (look d a) declared (length (joined ++ part f)) t (omega (arith, length-append joined (part f))) (second (marked f) _ h)

  under_length_over_high : (w : Verb) → verb f ≡ w → Sound d → Taken d c → BeforeLength → turns w UnderLength ≡ true → turns w OverHigh ≡ false
  under_length_over_high read_object v s t b h = refl
  under_length_over_high initiate_read v s t b h = refl
  under_length_over_high write_object v s t b h =
      let four : len f ≡ 4 = eq_from (len f) 4 (ap (λ w. turns w Len) (sym v) ∙ b.len_passed) in
      absurd (whole_width (look d (address f)) s refl (payload_length four) h)
  under_length_over_high initiate_write v s t b h = refl
  under_length_over_high segment_read v s t b h = refl
  under_length_over_high segment_write v s t b h =
      absurd (
      last_segment c t
      (ap (λ w. turns w NoChain) (sym v) ∙ b.chain_passed)
      (ap (λ w. turns w NAgainstLen) (sym v) ∙ b.n_passed)
      (ap (λ w. turns w SumOver) (sym v) ∙ b.sum_passed)
      (ap (λ w. turns w LastShort) (sym v) ∙ b.last_passed)
      h
      )
  under_length_over_high unknown v s t b h = refl

pub neighbours : Neighbours
neighbours =
    record {
      opcode_len = λ node d c f s t e. opcode_len node d c f (verb f) (at_fault node d c f OpCode e);
      node_no_chain = λ node d c f s t e. node_no_chain node d c f (verb f) (at_fault node d c f Node e);
      sum_over_last_short = λ node d c f s t e. sum_over_last_short node d c f (verb f) (at_fault node d c f SumOver e);
      last_short_index = λ node d c f s t e. last_short_index node d c f (verb f) t (at_fault node d c f LastShort e);
      index_subindex = λ node d c f s t e. index_subindex node d c f (verb f) (at_fault node d c f Index e);
      subindex_read_of_wo = λ node d c f s t e. subindex_read_of_wo node d c f (verb f) (at_fault node d c f Subindex e);
      read_of_wo_write_of_ro = λ node d c f s t e. read_of_wo_write_of_ro node d c f (verb f) (at_fault node d c f ReadOfWo e);
      on_run_over_length = λ node d c f s t e. on_run_over_length node d c f (verb f) (at_fault node d c f OnRun e);
      over_length_under_length = λ node d c f s t e. over_length_under_length node d c f (verb f) (at_fault node d c f OverLength e);
      under_length_over_high = λ node d c f s t e. under_length_over_high node d c f (verb f) refl s t (before_length node d c f e) (at_fault node d c f UnderLength e);
    }
