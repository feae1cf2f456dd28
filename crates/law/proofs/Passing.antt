-- What passing the checks says of the frames of chains and of a WriteObject, and what makes them pass.
use Rattle.std.proofs.Common.{◌≡◌, ℕ, ◌<◌, true, false, List, ◌++◌, length, None, sym, refl, ap, ◌∙◌, subst}
use Rattle.std.proofs.lemmas.Bool.{true≢false}
use Rattle.wire.specs.Frames.{Frame}
use Rattle.dictionary.specs.declared.Address.{Address}
use Rattle.dictionary.specs.Objects.{Bytes, Objects, Entry, look, MayBeRead, TakesLength, Admits, IsNumber}
use Rattle.command.specs.Frames.{Verb, initiate_read, write_object, initiate_write, segment_read, segment_write}
use Rattle.command.specs.Frames.{verb, address, payload, declared, marked, part}
use Rattle.command.specs.Checks.{OpenChain, reading, writing, checks, first, fault, low_bytes}
use Rattle.command.proofs.Tables.{number_back}
use Rattle.command.proofs.Accepted.{passed, passing}
use Rattle.law.specs.Histories.{turn}
use Rattle.law.specs.WriteChains.{WriteInitiate, joined, WriteSegment, LastSegment}
use Rattle.law.specs.Held.{Held, WholeByObject}
use Rattle.law.specs.ReadChains.{ReadInitiate, sent_after, ReadSegment}

-- the entries of d are those of d0
abbrev pub Same : Objects → Objects → Type 0
Same d d0 = (a : Address) → look d a ≡ look d0 a

pub fault_at : (node : ℕ) (d : Objects) (c : OpenChain) (f : Frame) (w : Verb) → verb f ≡ w → fault node d c f ≡ first (checks w node d c f)
unfolding fault
fault_at node d c f w e = ap (λ (x : Verb). first (checks x node d c f)) e

module _ (node : ℕ) (d0 d : Objects) (same : Same d d0) (c : OpenChain) (f : Frame) where
  abbrev here : Entry
  here = look d (address f)

  abbrev low : Bytes
  low = low_bytes here (payload f)

  pub write_initiate_from : verb f ≡ initiate_write → first (checks initiate_write node d c f) ≡ None → WriteInitiate node d0 f (address f) (declared f)
  write_initiate_from w e =
      let h = passed node d f initiate_write c e in
      record { is = w; passes = (h.0, h.1, subst (λ x. TakesLength x (declared f)) (same (address f)) h.2); at = refl; says = refl }

  pub write_initiate_back : (a : Address) (n : ℕ) → WriteInitiate node d0 f a n → first (checks initiate_write node d c f) ≡ None
  write_initiate_back a n s =
      let p = s.passes in
      passing node d f initiate_write c (p.0, p.1, subst (λ x. TakesLength x (declared f)) (sym (same (address f))) p.2)

  pub read_initiate_from : (v : Bytes) (hs : List Frame) → verb f ≡ initiate_read → first (checks initiate_read node d c f) ≡ None
      → Held node d0 hs (address f) v → ReadInitiate node d0 v hs f
  read_initiate_from v hs w e k =
      let h = passed node d f initiate_read c e in
      record { is = w; passes = (h.0, h.1, subst MayBeRead (same (address f)) h.2); held = k }

  pub read_initiate_back : (v : Bytes) (hs : List Frame) → ReadInitiate node d0 v hs f → first (checks initiate_read node d c f) ≡ None
  read_initiate_back v hs s =
      let p = s.passes in
      passing node d f initiate_read c (p.0, p.1, subst MayBeRead (sym (same (address f))) p.2)

  pub object_from : verb f ≡ write_object → first (checks write_object node d c f) ≡ None → WholeByObject node d0 f (address f) low × Admits (look d0 (address f)) low
  object_from w e =
      let h = passed node d f write_object c e in (
        record {
          is = w;
          len_is = h.0;
          own = h.1;
          at = refl;
          width = h.2.0;
          of_number = subst (λ x. IsNumber x h.2.0) (same (address f)) h.2.1;
          low = sym (number_back here (payload f) h.2.0 h.2.1).0;
        },
        subst (λ x. Admits x low) (same (address f)) h.3,
      )

  pub object_back : (v : Bytes) → WholeByObject node d0 f (address f) v → Admits (look d0 (address f)) v
      → (v ≡ low) × (first (checks write_object node d c f) ≡ None)
  object_back v s ad =
      let n : IsNumber here s.width = subst (λ x. IsNumber x s.width) (sym (same (address f))) s.of_number in
      let e : v ≡ low = s.low ∙ (number_back here (payload f) s.width n).0 in
      let ad1 : Admits here v = subst (λ x. Admits x v) (sym (same (address f))) ad in
      let ad2 : Admits here low = subst (λ x. Admits here x) e ad1 in
      (e, passing node d f write_object c (s.len_is, s.own, (s.width, n), ad2))

-- segments of a write chain

module _ (node : ℕ) (d : Objects) (a : Address) (n : ℕ) (before : List Frame) (f : Frame) where
  abbrev chain : OpenChain
  chain = writing a n (joined before) (turn before)

  abbrev brought : Bytes
  brought = joined before ++ part f

  pub segment_from : verb f ≡ segment_write → first (checks segment_write node d chain f) ≡ None → WriteSegment n before f
  segment_from w e =
      let h = passed node d f segment_write chain e in record { is = w; len_is = h.0; in_turn = h.1.0; fits = h.1.1; within = h.1.2 }

  pub segment_back : WriteSegment n before f → marked f ≡ false → first (checks segment_write node d chain f) ≡ None
  segment_back j m = passing node d f segment_write chain (j.len_is, (j.in_turn, j.fits, j.within, λ t. absurd (true≢false (sym t ∙ m))))

  pub last_from : verb f ≡ segment_write → marked f ≡ true → first (checks segment_write node d chain f) ≡ None → LastSegment n before f × Admits (look d a) brought
  last_from w m e = let h = (passed node d f segment_write chain e).1.3 m in (record { next = segment_from w e; last = m; reached = h.0 }, h.1)

  pub last_back : LastSegment n before f → Admits (look d a) brought → first (checks segment_write node d chain f) ≡ None
  last_back l ad =
      let j = l.next in
      passing node d f segment_write chain (j.len_is, (j.in_turn, j.fits, j.within, λ _. (l.reached, ad)))

-- segments of a read chain

module _ (node : ℕ) (d : Objects) (v : Bytes) (before : List Frame) (f : Frame) where
  abbrev read_chain : OpenChain
  read_chain = reading v (sent_after (length before)) (turn before)

  pub read_segment_from : sent_after (length before) < length v → verb f ≡ segment_read → first (checks segment_read node d read_chain f) ≡ None → ReadSegment v before f
  read_segment_from r w e = let h = passed node d f segment_read read_chain e in record { is = w; len_is = h.0; in_turn = h.1; remained = r }

  pub read_segment_back : ReadSegment v before f → first (checks segment_read node d read_chain f) ≡ None
  read_segment_back j = passing node d f segment_read read_chain (j.len_is, j.in_turn)
