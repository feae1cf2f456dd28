-- A frame is accepted exactly where the words hold: each check that does not apply gives one of them.
use Rattle.std.proofs.Common.{◌≡◌, ℕ, ◌+◌, Bool, true, false, ◌&&◌, ltb, ◌++◌, length, None, refl, arith}
use Rattle.std.proofs.lemmas.Bool.{ltb-false, le-ltb}
use Rattle.dictionary.specs.declared.Shape.TheVariants.{Number, Run}
use Rattle.dictionary.specs.Objects.{Bytes, Objects, Entry, no_index, no_subindex, present, look, MayBeRead}
use Rattle.dictionary.specs.Checks.{is_run}
use Rattle.dictionary.proofs.Words.{reads_from, reads_back, takes_from, takes_back, admits_from, admits_back}
use Rattle.wire.specs.Frames.{Frame}
use Rattle.command.specs.Frames.{Verb, read_object, initiate_read, write_object, initiate_write, segment_read, segment_write, unknown}
use Rattle.command.specs.Frames.{verb, len, node_of, address, payload, declared, write_toggle, read_toggle, size, marked, part, room}
use Rattle.command.specs.Checks.{Check, OpCode, Len, Node, NoChain, Toggle, NAgainstLen, SumOver, LastShort, Index, Subindex, ReadOfWo, WriteOfRo, OnRun, OverLength, UnderLength, OverHigh, UnderLow}
use Rattle.command.specs.Checks.{OpenChain, closed, reading, writing, checks, first, fault, low_bytes}
use Rattle.command.specs.Accepted.{OfNumber, NextRead, NextWrite, Passes, Accepted}
use Rattle.command.proofs.Tables.{clear, clear_back, in_rows, on_last, off, eq_from, eq_back, between_from, between_back, number_from, number_back}

-- an entry that may be read and is no run is a number
number_of : (e : Entry) → MayBeRead e → is_run e ≡ false → OfNumber e
number_of no_index h k = absurd h
number_of no_subindex h k = absurd h
number_of (present a (Number w s low high)) h k = (w, refl)
number_of (present a (Run capacity)) h k = off k

if_marked : (m b : Bool) → (m ≡ true → b ≡ false) → m && b ≡ false
if_marked true b h = h refl
if_marked false b h = refl

module _ (node : ℕ) (d : Objects) (f : Frame) where
  abbrev here : Entry
  here = look d (address f)

  abbrev low : Bytes
  low = low_bytes here (payload f)

  -- what no check gives

  next_read_from : (c : OpenChain) → ((k : Check) → checks segment_read node d c f k ≡ false) → NextRead c (read_toggle f)
  next_read_from closed h = off (h NoChain)
  next_read_from (reading v sent t) h = eq_from (read_toggle f) t (h Toggle)
  next_read_from (writing a n bytes t) h = off (h NoChain)

  next_write_from : (c : OpenChain) → ((k : Check) → checks segment_write node d c f k ≡ false) → NextWrite d c f
  next_write_from closed h = off (h NoChain)
  next_write_from (reading v sent t) h = off (h NoChain)
  next_write_from (writing a n bytes t) h = (
    eq_from (write_toggle f) t (h Toggle),
    eq_from (len f) (room (size f)) (h NAgainstLen),
    ltb-false n (length bytes + size f) (h SumOver),
    λ m.
        let short : ltb (length bytes + size f) n ≡ false = on_last (marked f) _ m (h LastShort) in (
          omega (arith, ltb-false n (length bytes + size f) (h SumOver), ltb-false (length bytes + size f) n short),
          admits_from (look d a) (bytes ++ part f)
              (on_last (marked f) _ m (h Index), on_last (marked f) _ m (h Subindex), on_last (marked f) _ m (h WriteOfRo))
              (on_last (marked f) _ m (h OverLength), on_last (marked f) _ m (h UnderLength))
              (on_last (marked f) _ m (h OverHigh), on_last (marked f) _ m (h UnderLow)),
        ),
  )

  pass_from : (w : Verb) (c : OpenChain) → ((k : Check) → checks w node d c f k ≡ false) → Passes w node d c f
  pass_from read_object c h =
      let r = reads_from here (h Index, h Subindex, h ReadOfWo) in
      (eq_from (len f) 2 (h Len), eq_from (node_of f) node (h Node), r, number_of here r (h OnRun))
  pass_from initiate_read c h = (eq_from (len f) 2 (h Len), eq_from (node_of f) node (h Node), reads_from here (h Index, h Subindex, h ReadOfWo))
  pass_from write_object c h =
      let ad = admits_from here low (h Index, h Subindex, h WriteOfRo) (h OverLength, h UnderLength) (h OverHigh, h UnderLow) in
      let nu = number_from here (payload f) low ad (h OnRun) in
      (eq_from (len f) 4 (h Len), eq_from (node_of f) node (h Node), (nu.0, nu.1), ad)
  pass_from initiate_write c h =
      (eq_from (len f) 4 (h Len), eq_from (node_of f) node (h Node), takes_from here (declared f) (h Index, h Subindex, h WriteOfRo) (h OverLength, h UnderLength))
  pass_from segment_read c h = (eq_from (len f) 1 (h Len), next_read_from c h)
  pass_from segment_write c h = (between_from 1 (len f) (h Len), next_write_from c h)
  pass_from unknown c h = off (h OpCode)

  -- and what makes no check apply

  pass_back : (w : Verb) (c : OpenChain) → Passes w node d c f → (k : Check) → checks w node d c f k ≡ false
  pass_back read_object c p =
      in_rows (checks read_object node d c f)
      (refl, eq_back (len f) 2 p.0, eq_back (node_of f) node p.1)
      (refl, refl, refl, refl, refl)
      (let r = reads_back here p.2 in (r.0, r.1, r.2, refl))
      ((number_back here (payload f) p.3.0 p.3.1).1, refl, refl)
      (refl, refl)
  pass_back initiate_read c p =
      in_rows (checks initiate_read node d c f)
      (refl, eq_back (len f) 2 p.0, eq_back (node_of f) node p.1)
      (refl, refl, refl, refl, refl)
      (let r = reads_back here p.2 in (r.0, r.1, r.2, refl))
      (refl, refl, refl)
      (refl, refl)
  pass_back write_object c p =
      let t = admits_back here low p.3 in
      in_rows (checks write_object node d c f)
      (refl, eq_back (len f) 4 p.0, eq_back (node_of f) node p.1)
      (refl, refl, refl, refl, refl)
      (t.0.0, t.0.1, refl, t.0.2)
      ((number_back here (payload f) p.2.0 p.2.1).1, t.1.0, t.1.1)
      t.2
  pass_back initiate_write c p =
      let t = takes_back here (declared f) p.2 in
      in_rows (checks initiate_write node d c f)
      (refl, eq_back (len f) 4 p.0, eq_back (node_of f) node p.1)
      (refl, refl, refl, refl, refl)
      (t.0.0, t.0.1, refl, t.0.2)
      (refl, t.1.0, t.1.1)
      (refl, refl)
  pass_back segment_read closed p = absurd p.1
  pass_back segment_read (reading v sent t) p =
      in_rows (checks segment_read node d (reading v sent t) f)
      (refl, eq_back (len f) 1 p.0, refl)
      (refl, eq_back (read_toggle f) t p.1, refl, refl, refl)
      (refl, refl, refl, refl)
      (refl, refl, refl)
      (refl, refl)
  pass_back segment_read (writing a n bytes t) p = absurd p.1
  pass_back segment_write closed p = absurd p.1
  pass_back segment_write (reading v sent t) p = absurd p.1
  pass_back segment_write (writing a n bytes t) p =
      let last = λ (m : marked f ≡ true). admits_back (look d a) (bytes ++ part f) (p.1.3 m).1 in
      in_rows (checks segment_write node d (writing a n bytes t) f)
      (refl, between_back 1 (len f) p.0, refl)
      (refl, eq_back (write_toggle f) t p.1.0, eq_back (len f) (room (size f)) p.1.1, le-ltb n (length bytes + size f) p.1.2, if_marked (marked f) _ (λ m. le-ltb (length bytes + size f) n (omega (arith, (p.1.3 m).0))))
      (if_marked (marked f) _ (λ m. (last m).0.0), if_marked (marked f) _ (λ m. (last m).0.1), refl, if_marked (marked f) _ (λ m. (last m).0.2))
      (refl, if_marked (marked f) _ (λ m. (last m).1.0), if_marked (marked f) _ (λ m. (last m).1.1))
      (if_marked (marked f) _ (λ m. (last m).2.0), if_marked (marked f) _ (λ m. (last m).2.1))
  pass_back unknown c p = absurd p

  pub passed : (w : Verb) (c : OpenChain) → first (checks w node d c f) ≡ None → Passes w node d c f
  passed w c e = pass_from w c (clear (checks w node d c f) e)

  pub passing : (w : Verb) (c : OpenChain) → Passes w node d c f → first (checks w node d c f) ≡ None
  passing w c p = clear_back (checks w node d c f) (pass_back w c p)

pub accepted : Accepted
unfolding fault
accepted node d c f = (passed node d f (verb f) c, passing node d f (verb f) c)
