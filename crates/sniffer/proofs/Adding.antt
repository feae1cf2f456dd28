-- What passes is what a stretch adds to a report. Assumes nothing.
use Rattle.std.proofs.Common.{◌≡◌, ℕ, ◌-◌, ◌/◌, ◌≤◌, cond, ltb, List, [], ◌∷◌, ◌++◌, length, take, drop, is_ok, Ok, Err, codes, Result, sym, refl, ap, ◌∙◌, subst, append_assoc, append-nil, arith}
use Rattle.std.proofs.lemmas.Bool.{cond-false, le-ltb}
use Rattle.wire.specs.Framing.{body_of}
use Rattle.wire.specs.Line.{Completes}
use Rattle.wire.proofs.Frames.{body_length, frame_back, frame_laws_lem}
use Rattle.sniffer.specs.declared.passing.Passed.{Passed}
use Rattle.sniffer.specs.declared.passing.Passed.TheVariants.{Heard, Damaged}
use Rattle.sniffer.specs.Adding.{Adds, AddsEach, ByResult}
use Rattle.sniffer.specs.Passing.{Passes}
use Rattle.sniffer.specs.Reporting.{Reported, with_line, counted, heard_counted, damaged_counted, parts_line, body_line_lem, passed_line_lem}

-- the line of a frame's body is that of its OpCode and data
line_of_frame : (word : List ℕ) (op : ℕ) (content : List ℕ) → body_line_lem word (body_of op content) ≡ parts_line word op (length content / 2) content
line_of_frame word op content =
    let body = body_of op content in
    let long : 4 ≤ length (body_of op content) = omega (arith, body_length op content) in
    cond-false (ltb (length body) 4) [] (parts_line word op (length content / 2) (take (length body - 4) (drop 2 body))) (le-ltb (length body) 4 long)
    ∙ ap (λ f. parts_line word op (length content / 2) f.content) (frame_back (record { opcode = op; content = content }))

adds : (stretch : List ℕ) (p : Passed) (body : List ℕ) (old new : Reported) → Passes stretch p body
    → new ≡ with_line (passed_line_lem p body) (counted p old.tally) old → Adds stretch old new
adds stretch Heard body old new (op, content, is, h) e =
    record {
      heard = λ op' content' h'.
          let same = frame_laws_lem.one_frame stretch op op' content content' h h' in
          e ∙ ap (λ l. with_line l (heard_counted old.tally) old)
          (ap (body_line_lem (codes "heard")) is ∙ line_of_frame (codes "heard") op content
          ∙ (λ i. parts_line (codes "heard") (same.0 i) (length (same.1 i) / 2) (same.1 i)));
      damaged = λ damage. absurd ((frame_laws_lem.heard_or_damaged stretch).not_both op content h damage);
      nothing = λ none. absurd (none (body_of op content) h.0);
    }
adds stretch Damaged body old new (whole, d) e =
    record {
      heard = λ op content h. absurd ((frame_laws_lem.heard_or_damaged stretch).not_both op content h d);
      damaged = λ damage.
          e ∙ ap (λ b. with_line (body_line_lem (codes "damaged") b) (damaged_counted old.tally) old)
          (frame_laws_lem.one_body stretch body damage.0 whole damage.1);
      nothing = λ none. absurd (none body whole);
    }

-- a byte that completes no body adds nothing
pub adds_nothing : (stretch : List ℕ) (report : Reported) → ((body : List ℕ) → Completes stretch body → ⊥) → Adds stretch report report
adds_nothing stretch report none =
    record {
      heard = λ op content h. absurd (none (body_of op content) h.0);
      damaged = λ damage. absurd (none damage.0 damage.1);
      nothing = λ _. refl;
    }

-- a report that took what passed, or had no memory for it
pub adds_or_stays : {T E : Type 0} (r : Result T E) (stretch : List ℕ) (p : Passed) (body : List ℕ) (old new : Reported) → Passes stretch p body
    → new ≡ cond (is_ok r) (with_line (passed_line_lem p body) (counted p old.tally) old) old → ByResult r (Adds stretch old new) (new ≡ old)
adds_or_stays (Ok x) stretch p body old new passes e = adds stretch p body old new passes e
adds_or_stays (Err x) stretch p body old new passes e = e

-- one byte more
pub adds_push : (bytes stretch : List ℕ) (b : ℕ) (old mid new : Reported) → AddsEach stretch bytes old mid → Adds ((stretch ++ bytes) ++ b ∷ []) mid new
    → AddsEach stretch (bytes ++ b ∷ []) old new
adds_push [] stretch b old mid new e a =
    let P : List ℕ → Type 0 = λ s. Adds (s ++ b ∷ []) mid new in
    let Q : Reported → Type 0 = λ o. Adds (stretch ++ b ∷ []) o new in
    (new, subst Q e (subst P (append-nil stretch) a), refl)
adds_push (x ∷ bytes) stretch b old mid new (m, h, each) a =
    let P : List ℕ → Type 0 = λ s. Adds (s ++ b ∷ []) mid new in
    (m, h, adds_push bytes (stretch ++ x ∷ []) b m mid new each (subst P (sym (append_assoc stretch (x ∷ []) bytes)) a))
