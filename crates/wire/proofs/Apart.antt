-- A body taken apart by its ends, and when that gives a frame.
use Rattle.std.proofs.Common.{◌≡◌, ℕ, ◌+◌, ◌-◌, ◌*◌, ◌/◌, ◌<◌, subst, List, [], ◌∷◌, ◌++◌, length, get_or, take, drop, Ok, Err, Result, sym, refl, ap, ◌∙◌, arith, length-drop}
use Rattle.std.proofs.lemmas.Nat.{le_bytes_2}
use Rattle.std.proofs.lemmas.List.{take_at, drop_at, take-append-drop, get_or-drop, length-take-le}
use Rattle.std.proofs.lemmas.Bool.{cond-true, cond_both}
use Rattle.wire.specs.declared.faults.Fault.{Fault}
use Rattle.wire.specs.declared.faults.Fault.TheVariants.{Checksum}
use Rattle.wire.specs.Checking.{OfNoFrame, Split, frame_in, fits, checked_frame, Computed}
use Rattle.wire.specs.Checksum.{checksum_of}
use Rattle.wire.specs.Frames.{Frame, Even, body}
use Rattle.wire.specs.Framing.{low_high, header}
use Rattle.wire.proofs.Sums.{sum_small}
use Rattle.wire.proofs.Frames.{body_length, frame_back, fits_true, fits_even, fits_back}

pair : (xs : List ℕ) → length xs ≡ 2 → xs ≡ get_or xs 0 0 ∷ get_or xs 1 0 ∷ []
pair [] h = absurd (omega arith)
pair (a ∷ []) h = absurd (omega arith)
pair (a ∷ b ∷ []) h = refl
pair (a ∷ b ∷ c ∷ xs) h = absurd (omega arith)

-- The bytes before the last two, of them the first two and the data.
module _ (xs summed last head content : List ℕ) (sum : ℕ)
    (ends : (summed ≡ take (length xs - 2) xs) × (last ≡ drop (length xs - 2) xs) × (length summed + 2 ≡ length xs))
    (parts : (head ≡ take 2 summed) × (content ≡ drop 2 summed) × (length content + 2 ≡ length summed)) where
  module _ (f : Frame) (even : Even f.content) (e : xs ≡ body f) where
    long : length (header f.opcode f.content) ≡ length xs - 2
    long = omega (arith, ap length e, body_length f.opcode f.content)

    front_is : summed ≡ header f.opcode f.content
    front_is = ends.0 ∙ ap (take (length xs - 2)) e ∙ take_at (header f.opcode f.content) _ (length xs - 2) long

    back_is : last ≡ low_high (checksum_of (header f.opcode f.content))
    back_is = ends.1 ∙ ap (drop (length xs - 2)) e ∙ drop_at (header f.opcode f.content) _ (length xs - 2) long

  -- bytes with as many data as the second asks for are a frame's exactly where their own checksum is last
  pub split_is : ((i : ℕ) → get_or xs i 0 < 256) → length content ≡ 2 * get_or head 1 0 → sum ≡ get_or last 0 0 + get_or last 1 0 * 256
      → Split xs (get_or head 0 0) content summed sum
  split_is bytes full sum_is =
      let even : Even content = omega arith in
      let half : get_or head 1 0 ≡ length content / 2 = omega arith in
      let two : length head ≡ 2 = omega (arith, ap length parts.0, length-take-le 2 summed (omega arith)) in
      let top : summed ≡ header (get_or head 0 0) content
      = sym (take-append-drop 2 summed) ∙ ap (λ l. l ++ drop 2 summed) (sym parts.0 ∙ pair head two)
      ∙ ap (λ l. get_or head 0 0 ∷ get_or head 1 0 ∷ l) (sym parts.1) ∙ ap (λ n. get_or head 0 0 ∷ n ∷ content) half in
      let last_long : length last ≡ 2 = omega (arith, ap length ends.1, length-drop (length xs - 2) xs) in
      let last_bytes : (i : ℕ) → get_or last i 0 < 256
      = λ i. subst (λ n. n < 256) (sym (ap (λ l. get_or l i 0) ends.1 ∙ get_or-drop (length xs - 2) xs i 0)) (bytes (length xs - 2 + i)) in
      record {
        fitting =
            λ fits. (
              sym (take-append-drop (length xs - 2) xs) ∙ ap (λ l. l ++ drop (length xs - 2) xs) (sym ends.0 ∙ top)
                  ∙ ap (λ l. header (get_or head 0 0) content ++ l)
                  (sym ends.1 ∙ sym (le_bytes_2 last sum last_long last_bytes sum_is) ∙ ap low_high (sym fits ∙ ap checksum_of top)),
              even,
            );
        unfit =
            λ other f even e.
            let back = back_is f even e in
            let same : sum ≡ checksum_of (header f.opcode f.content)
            = omega (arith, sum_is, ap (λ l. get_or l 0 0) back, ap (λ l. get_or l 1 0) back, sum_small (header f.opcode f.content)) in
            other (ap checksum_of (front_is f even e) ∙ sym same);
      }

-- What the check answers, by computation.

taken_frame : (xs : List ℕ) (f : Frame) → Even f.content → xs ≡ body f → ◌≡◌ {A = Result Frame Fault} (Ok f) (checked_frame xs)
taken_frame xs f even e =
    sym (cond-true {A = Result Frame Fault} (fits xs) (Ok (frame_in xs)) (Err Checksum) (ap fits e ∙ fits_back f.opcode f.content even) ∙ ap Ok (ap frame_in e ∙ frame_back f))

refused_frame : (xs : List ℕ) → OfNoFrame xs → ◌≡◌ {A = Result Frame Fault} (Err Checksum) (checked_frame xs)
refused_frame xs none =
    cond_both (fits xs) (Ok (frame_in xs)) (Err Checksum) (λ r. Err Checksum ≡ r)
    (λ t.
    let e = fits_true xs t in
    let l = ap length e ∙ body_length (frame_in xs).opcode (frame_in xs).content in
    let even : Even (frame_in xs).content = omega (arith, fits_even xs t) in
    absurd (none (frame_in xs) even e))
    (λ _. refl)

pub computed : Computed
computed bytes (Ok f) h = taken_frame bytes (record { opcode = f.opcode; content = f.«data».now }) h.1 h.0
computed bytes (Err e) h = ap Err h.0 ∙ refused_frame bytes h.1
