-- No check of the table turns a frame away exactly where each alone does not.
use Rattle.std.proofs.Common.{◌≡◌, ℕ, ◌≤◌, Bool, true, false, cond, not, ◌&&◌, eqb, leb, List, [], ◌∷◌, take, Some, None, Option, sym, refl, ap, ◌∙◌}
use Rattle.std.proofs.lemmas.Bool.{true≢false, not-false, eqb-true, eq-eqb, leb-true, le-leb, and_parts}
use Rattle.dictionary.specs.declared.Shape.TheVariants.{Number, Run}
use Rattle.dictionary.specs.Objects.{Bytes, Entry, no_index, no_subindex, present, Admits, IsNumber}
use Rattle.dictionary.specs.Checks.{is_run}
use Rattle.command.specs.Checks.{Check, OpCode, Len, Node, NoChain, Toggle, NAgainstLen, SumOver, LastShort, Index, Subindex, ReadOfWo, WriteOfRo, OnRun, OverLength, UnderLength, OverHigh, UnderLow}
use Rattle.command.specs.Checks.{first, first_of, in_order, low_bytes}

-- none of these checks turns the frame away
abbrev Clear : (Check → Bool) → List Check → Type 0
Clear p [] = Unit {0}
Clear p (k ∷ ks) = (p k ≡ false) × Clear p ks

clear_first : (b : Bool) (k : Check) (r : Option Check) → cond b (Some k) r ≡ None → (b ≡ false) × (r ≡ None)
clear_first true k r e = cc
clear_first false k r e = (refl, e)

clear_of : (p : Check → Bool) (ks : List Check) → first_of p ks ≡ None → Clear p ks
clear_of p [] e = tt
clear_of p (k ∷ ks) e = let h = clear_first (p k) k (first_of p ks) e in (h.0, clear_of p ks h.1)

-- the table lists every check
listed : (p : Check → Bool) → Clear p in_order → (k : Check) → p k ≡ false
listed p h OpCode = h.0
listed p h Len = h.1.0
listed p h Node = h.1.1.0
listed p h NoChain = h.1.1.1.0
listed p h Toggle = h.1.1.1.1.0
listed p h NAgainstLen = h.1.1.1.1.1.0
listed p h SumOver = h.1.1.1.1.1.1.0
listed p h LastShort = h.1.1.1.1.1.1.1.0
listed p h Index = h.1.1.1.1.1.1.1.1.0
listed p h Subindex = h.1.1.1.1.1.1.1.1.1.0
listed p h ReadOfWo = h.1.1.1.1.1.1.1.1.1.1.0
listed p h WriteOfRo = h.1.1.1.1.1.1.1.1.1.1.1.0
listed p h OnRun = h.1.1.1.1.1.1.1.1.1.1.1.1.0
listed p h OverLength = h.1.1.1.1.1.1.1.1.1.1.1.1.1.0
listed p h UnderLength = h.1.1.1.1.1.1.1.1.1.1.1.1.1.1.0
listed p h OverHigh = h.1.1.1.1.1.1.1.1.1.1.1.1.1.1.1.0
listed p h UnderLow = h.1.1.1.1.1.1.1.1.1.1.1.1.1.1.1.1.0

-- a frame without a fault is one that no check turns away
pub clear : (p : Check → Bool) → first p ≡ None → (k : Check) → p k ≡ false
unfolding first
clear p e = listed p (clear_of p in_order e)

-- a check by its place in its row
pub in_rows : (p : Check → Bool) → (p OpCode ≡ false) × (p Len ≡ false) × (p Node ≡ false)
    → (p NoChain ≡ false) × (p Toggle ≡ false) × (p NAgainstLen ≡ false) × (p SumOver ≡ false) × (p LastShort ≡ false)
    → (p Index ≡ false) × (p Subindex ≡ false) × (p ReadOfWo ≡ false) × (p WriteOfRo ≡ false)
    → (p OnRun ≡ false) × (p OverLength ≡ false) × (p UnderLength ≡ false)
    → (p OverHigh ≡ false) × (p UnderLow ≡ false) → (k : Check) → p k ≡ false
in_rows p command segment object shape value OpCode = command.0
in_rows p command segment object shape value Len = command.1
in_rows p command segment object shape value Node = command.2
in_rows p command segment object shape value NoChain = segment.0
in_rows p command segment object shape value Toggle = segment.1
in_rows p command segment object shape value NAgainstLen = segment.2
in_rows p command segment object shape value SumOver = segment.3
in_rows p command segment object shape value LastShort = segment.4
in_rows p command segment object shape value Index = object.0
in_rows p command segment object shape value Subindex = object.1
in_rows p command segment object shape value ReadOfWo = object.2
in_rows p command segment object shape value WriteOfRo = object.3
in_rows p command segment object shape value OnRun = shape.0
in_rows p command segment object shape value OverLength = shape.1
in_rows p command segment object shape value UnderLength = shape.2
in_rows p command segment object shape value OverHigh = value.0
in_rows p command segment object shape value UnderLow = value.1

back_of : (p : Check → Bool) (ks : List Check) → ((k : Check) → p k ≡ false) → first_of p ks ≡ None
back_of p [] h = refl
back_of p (k ∷ ks) h = rw (h k) (back_of p ks h)

pub clear_back : (p : Check → Bool) → ((k : Check) → p k ≡ false) → first p ≡ None
unfolding first
clear_back p h = back_of p in_order h

pub on_last : (m b : Bool) → m ≡ true → m && b ≡ false → b ≡ false
on_last m b e h = ap (λ x. x && b) (sym e) ∙ h

pub off : {P : Type 0} → true ≡ false → P
off e = absurd (true≢false e)

pub eq_from : (m n : ℕ) → not (eqb m n) ≡ false → m ≡ n
eq_from m n e = eqb-true m n (not-false (eqb m n) e)

pub eq_back : (m n : ℕ) → m ≡ n → not (eqb m n) ≡ false
eq_back m n e = rw (eq-eqb m n e)

pub between_from : (m n : ℕ) → not (leb m n && leb n 129) ≡ false → (m ≤ n) × (n ≤ 129)
between_from m n e =
    let h = and_parts (leb m n) (leb n 129) (not-false (leb m n && leb n 129) e) in (leb-true m n h.0, leb-true n 129 h.1)

pub between_back : (m n : ℕ) → (m ≤ n) × (n ≤ 129) → not (leb m n && leb n 129) ≡ false
between_back m n h = rw (le-leb m n h.0, le-leb n 129 h.1)

-- an entry that admits a value and is no run is a number, and its low bytes are those up to its width
pub number_from : (e : Entry) (u v : Bytes) → Admits e v → is_run e ≡ false → (w : ℕ) × (IsNumber e w) × (low_bytes e u ≡ take w u)
number_from no_index u v h k = absurd h
number_from no_subindex u v h k = absurd h
number_from (present a (Number w s low high)) u v h k = (w, refl, refl)
number_from (present a (Run capacity)) u v h k = off k

pub number_back : (e : Entry) (u : Bytes) (w : ℕ) → IsNumber e w → (take w u ≡ low_bytes e u) × (is_run e ≡ false)
number_back no_index u w h = absurd h
number_back no_subindex u w h = absurd h
number_back (present a (Number n s low high)) u w h = (ap (λ k. take k u) h, refl)
number_back (present a (Run capacity)) u w h = absurd h
