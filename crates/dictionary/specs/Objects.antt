-- What a dictionary means: addresses, each with an access, a shape and a value; and what an object admits, in words.
-- Assumes nothing.
use Rattle.std.specs.Prelude.{◌≡◌, ℕ, ◌+◌, ◌*◌, ◌^◌, ◌≤◌, Bool, true, false, cond, ◌⊎◌, List, [], ◌∷◌, length, ℤ, pos, ◌-ℤ◌, ◌≤ℤ◌, Some, None, Option, ◌==◌, nat_lt}
use Rattle.dictionary.specs.declared.Access.{Access}
use Rattle.dictionary.specs.declared.Access.TheVariants.{Ro, Wo, Rw}
use Rattle.dictionary.specs.declared.Address.{Address}
use Rattle.dictionary.specs.declared.Shape.{Shape}
use Rattle.dictionary.specs.declared.Shape.TheVariants.{Number, Run}

abbrev pub Bytes : Type 0
Bytes = List ℕ

pub record Object : Type 0 where
  pub access : Access
  pub shape : Shape
  pub value : Bytes

-- What a dictionary means: by index, if it is known, then by subindex, if it is known, an object.
abbrev pub Objects : Type 0
Objects = ℕ → Option (ℕ → Option Object)

-- What stands at an address: its access and shape, which never change.
pub data Entry : Type 0 where
  no_index no_subindex : Entry
  present : Access → Shape → Entry

abbrev pub entry_of : Option Object → Entry
entry_of None = no_subindex
entry_of (Some o) = present o.access o.shape

abbrev pub entry_under : Option (ℕ → Option Object) → ℕ → Entry
entry_under None s = no_index
entry_under (Some subs) s = entry_of (subs s)

-- the entry at an address
abbrev pub look : Objects → Address → Entry
look d a = entry_under (d a.index) a.subindex

abbrev pub value_of : Option Object → Bytes
value_of None = []
value_of (Some o) = o.value

abbrev pub value_under : Option (ℕ → Option Object) → ℕ → Bytes
value_under None s = []
value_under (Some subs) s = value_of (subs s)

-- the value held at an address; where nothing stands, no bytes
abbrev pub value : Objects → Address → Bytes
value d a = value_under (d a.index) a.subindex

abbrev pub with_value : Bytes → Option Object → Option Object
with_value v None = None
with_value v (Some o) = Some (record { access = o.access; shape = o.shape; value = v })

abbrev pub put_under : Option (ℕ → Option Object) → ℕ → Bytes → Option (ℕ → Option Object)
put_under None s v = None
put_under (Some subs) s v = Some (λ t. cond (t == s) (with_value v (subs t)) (subs t))

-- d with v as the value at a, and as it was at every other address
abbrev pub put : Objects → Address → Bytes → Objects
put d a v i = cond (i == a.index) (put_under (d i) a.subindex v) (d i)

-- the number that bytes stand for, low byte first
abbrev pub unsigned_value : Bytes → ℕ
unsigned_value [] = 0
unsigned_value (b ∷ bs) = b + 256 * unsigned_value bs

-- the same in two's complement at a width of w bytes, if signed
abbrev pub number_value : Bool → ℕ → Bytes → ℤ
number_value false w v = pos (unsigned_value v)
number_value true w v = cond (nat_lt (2 * unsigned_value v) (256 ^ w)) (pos (unsigned_value v)) (pos (unsigned_value v) -ℤ pos (256 ^ w))

-- What an object admits, in words.

abbrev pub Readable : Access → Type 0
Readable Ro = Unit {0}
Readable Wo = ⊥
Readable Rw = Unit {0}

abbrev pub Writable : Access → Type 0
Writable Ro = ⊥
Writable Wo = Unit {0}
Writable Rw = Unit {0}

-- a number has exactly its width, a run at most its capacity
abbrev pub LengthAllowed : Shape → ℕ → Type 0
LengthAllowed (Number w s low high) n = n ≡ w
LengthAllowed (Run capacity) n = n ≤ capacity

-- a number lies from low to high
abbrev pub InRange : Shape → Bytes → Type 0
InRange (Number w s low high) v = (low ≤ℤ number_value s w v) × (number_value s w v ≤ℤ high)
InRange (Run capacity) v = Unit {0}

-- the entry is there and may be read
abbrev pub MayBeRead : Entry → Type 0
MayBeRead no_index = ⊥
MayBeRead no_subindex = ⊥
MayBeRead (present access shape) = Readable access

-- the entry is there, may be written, and takes a value of n bytes
abbrev pub TakesLength : Entry → ℕ → Type 0
TakesLength no_index n = ⊥
TakesLength no_subindex n = ⊥
TakesLength (present access shape) n = Writable access × LengthAllowed shape n

-- access, shape, low and high allow the value
abbrev pub Admits : Entry → Bytes → Type 0
Admits no_index v = ⊥
Admits no_subindex v = ⊥
Admits (present access shape) v = Writable access × LengthAllowed shape (length v) × InRange shape v

-- the entry is a number of w bytes
abbrev pub IsNumber : Entry → ℕ → Type 0
IsNumber no_index n = ⊥
IsNumber no_subindex n = ⊥
IsNumber (present access (Number w s low high)) n = n ≡ w
IsNumber (present access (Run capacity)) n = ⊥

-- What every dictionary owes.

-- a number is 1, 2 or 4 bytes wide, and a run holds at most 4,096
abbrev pub ShapeAllowed : Shape → Type 0
ShapeAllowed (Number w s low high) = (w ≡ 1) ⊎ ((w ≡ 2) ⊎ (w ≡ 4))
ShapeAllowed (Run capacity) = capacity ≤ 4096

pub record Sound (d : Objects) : Type 0 where
  -- shapes are allowed, and each value has a length that its shape allows
  pub allowed : (a : Address) (access : Access) (shape : Shape) → look d a ≡ present access shape → ShapeAllowed shape × LengthAllowed shape (length (value d a))
  -- a known index has at least one address
  pub addressed : (i : ℕ) (subs : ℕ → Option Object) → d i ≡ Some subs → (s : ℕ) × (o : Object) × (subs s ≡ Some o)
