-- What a write leaves: every entry, and every value but the one written.
use Rattle.std.proofs.Common.{◌≡◌, ℕ, Bool, true, false, cond, eqb, ◌⊎◌, Some, None, Option, sym, refl, ap, inl, inr}
use Rattle.std.proofs.lemmas.Bool.{cases_eq, eq-eqb, ne_eqb}
use Rattle.dictionary.specs.Objects.{Bytes, Object, Objects, look, value, put, put_under, with_value}
use Rattle.dictionary.specs.declared.Address.{Address}
use Rattle.dictionary.specs.Objects.{entry_of, entry_under, value_of, value_under, Admits}

entry_with : (b : Bool) (v : Bytes) (o : Option Object) → entry_of (cond b (with_value v o) o) ≡ entry_of o
entry_with true v None = refl
entry_with true v (Some o) = refl
entry_with false v o = refl

entry_put : (subs : Option (ℕ → Option Object)) (s : ℕ) (v : Bytes) (t : ℕ) → entry_under (put_under subs s v) t ≡ entry_under subs t
entry_put None s v t = refl
entry_put (Some subs) s v t = entry_with (eqb t s) v (subs t)

entry_cond : (b : Bool) (subs : Option (ℕ → Option Object)) (s : ℕ) (v : Bytes) (t : ℕ) → entry_under (cond b (put_under subs s v) subs) t ≡ entry_under subs t
entry_cond true subs s v t = entry_put subs s v t
entry_cond false subs s v t = refl

pub look_put : (d : Objects) (a : Address) (v : Bytes) (b : Address) → look (put d a v) b ≡ look d b
look_put d a v b = entry_cond (eqb b.index a.index) (d b.index) a.subindex v b.subindex

value_with : (v : Bytes) (o : Option Object) → Admits (entry_of o) v → value_of (with_value v o) ≡ v
value_with v None h = absurd h
value_with v (Some o) h = refl

value_put : (subs : Option (ℕ → Option Object)) (s : ℕ) (v : Bytes) → Admits (entry_under subs s) v → value_under (put_under subs s v) s ≡ v
value_put None s v h = absurd h
value_put (Some subs) s v h = rw (eq-eqb s s refl) (value_with v (subs s) h)

pub value_put_same : (d : Objects) (a : Address) (v : Bytes) → Admits (look d a) v → value (put d a v) a ≡ v
value_put_same d a v h = rw (eq-eqb a.index a.index refl) (value_put (d a.index) a.subindex v h)

value_apart : (subs : Option (ℕ → Option Object)) (s : ℕ) (v : Bytes) (t : ℕ) → (t ≡ s → ⊥) → value_under (put_under subs s v) t ≡ value_under subs t
value_apart None s v t h = refl
value_apart (Some subs) s v t h = rw (ne_eqb t s h)

pub same_address : (a b : Address) → (a ≡ b) ⊎ (a ≡ b → ⊥)
same_address a b =
    elim (cases_eq a.index b.index) [
      | inl p ↦ elim (cases_eq a.subindex b.subindex) [ inl q ↦ inl (λ i. record { index = p i; subindex = q i }) | inr q ↦ inr (λ e. q (ap (λ (x : Address). x.subindex) e)) ]
      | inr p ↦ inr (λ e. p (ap (λ (x : Address). x.index) e))
    ]

pub value_put_other : (d : Objects) (a : Address) (v : Bytes) (b : Address) → (a ≡ b → ⊥) → value (put d a v) b ≡ value d b
value_put_other d a v b h =
    elim (cases_eq b.index a.index) [
      | inl p ↦ rw (eq-eqb b.index a.index p) (value_apart (d b.index) a.subindex v b.subindex (λ q. h (λ i. record { index = sym p i; subindex = sym q i })))
      | inr p ↦ rw (ne_eqb b.index a.index p)
    ]
