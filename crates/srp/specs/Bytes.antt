-- Numbers and bits in bytes, and layouts: a message's fields are described once, and read and written by that description.
-- Document 01: "Fields are big-endian, bit 0 is the lowest. Reserved bytes and bits are written 0, not read."
use Rattle.std.specs.Prelude.{Bool, true, false, not, ◌&&◌, ◌||◌, List, [], ◌∷◌, ◌++◌, ℕ, zero, suc, ◌+◌, ◌*◌, ◌/◌, ◌%◌, ◌^◌, ◌<◌, ltb, leb, eqb, take, drop, get_or, set, replicate}
use Rattle.srp.specs.Lists.{All}

-- every number of a message or buffer is a byte
abbrev pub Bytes : List ℕ → Type 0
Bytes s = All (λ b. b < 256) s

-- a big-endian number, behind the digits read so far
abbrev pub number : ℕ → List ℕ → ℕ
number before [] = before
number before (b ∷ bs) = number (before * 256 + b) bs

-- a number's lowest k bytes, the highest of them first
abbrev pub bytes_of : ℕ → ℕ → List ℕ
bytes_of zero v = []
bytes_of (suc k) v = v / 256 ^ k % 256 ∷ bytes_of k v

abbrev pub bit : Bool → ℕ
bit true = 1
bit false = 0

-- the bytes from `at` on, `wide` of them; or of byte `at` the bits from `low` on, `count` of them
pub data Field : Type 0 where
  bytes : (at wide : ℕ) → Field
  bits : (at low count : ℕ) → Field

abbrev pub get : Field → List ℕ → ℕ
get (bytes at wide) s = number 0 (take wide (drop at s))
get (bits at low count) s = get_or s at 0 / 2 ^ low % 2 ^ count

-- the bytes of a field of whole bytes
abbrev pub part : Field → List ℕ → List ℕ
part (bytes at wide) s = take wide (drop at s)
part (bits at low count) s = []

-- byte b with other bits
abbrev pub replaced : ℕ → ℕ → ℕ → ℕ → ℕ
replaced low count v b = b / 2 ^ (low + count) * 2 ^ (low + count) + v * 2 ^ low + b % 2 ^ low

abbrev pub put : Field → ℕ → List ℕ → List ℕ
put (bytes at wide) v s = take at s ++ (bytes_of wide v ++ drop (at + wide) s)
put (bits at low count) v s = set s at (replaced low count v (get_or s at 0))

-- the field that stands n bytes further on: what it is in a part, it is behind n bytes in the whole
abbrev pub behind : ℕ → Field → Field
behind n (bytes at wide) = bytes (n + at) wide
behind n (bits at low count) = bits (n + at) low count

abbrev pub gets : List Field → List ℕ → List ℕ
gets [] s = []
gets (f ∷ fs) s = get f s ∷ gets fs s

abbrev pub puts : List Field → List ℕ → List ℕ → List ℕ
puts [] vs s = s
puts (f ∷ fs) [] s = s
puts (f ∷ fs) (v ∷ vs) s = put f v (puts fs vs s)

abbrev pub zeros : ℕ → List ℕ
zeros n = replicate n 0

-- what a message is made of: its type's code, the length of its fixed part, and that part's fields but for the type
pub record Layout : Type 0 where
  pub code : ℕ
  pub size : ℕ
  pub fields : List Field

-- byte 0, the message's type
abbrev pub kind : Field
kind = bytes 0 1

abbrev pub type_of : List ℕ → ℕ
type_of s = get kind s

-- a message's fixed part, from the values of its fields
abbrev pub write : Layout → List ℕ → List ℕ
write l vs = puts (kind ∷ l.fields) (l.code ∷ vs) (zeros l.size)

-- ── what makes a description sound

-- one above the values that a field takes
abbrev pub bound : Field → ℕ
bound (bytes at wide) = 256 ^ wide
bound (bits at low count) = 2 ^ count

-- each value is below its field's bound, and there are as many values as fields
abbrev pub InRange : List Field → List ℕ → Type 0
InRange [] [] = Unit {0}
InRange [] (v ∷ vs) = ⊥
InRange (f ∷ fs) [] = ⊥
InRange (f ∷ fs) (v ∷ vs) = (v < bound f) × InRange fs vs

abbrev pub inside : ℕ → Field → Bool
inside n (bytes at wide) = leb (at + wide) n
inside n (bits at low count) = ltb at n && leb (low + count) 8

-- two fields share no bit
abbrev pub apart : Field → Field → Bool
apart (bytes a m) (bytes b n) = leb (a + m) b || leb (b + n) a
apart (bytes a m) (bits b l c) = leb (a + m) b || ltb b a
apart (bits a l c) (bytes b n) = ltb a b || leb (b + n) a
apart (bits a l c) (bits b k d) = not (eqb a b) || (leb (l + c) k || leb (k + d) l)

abbrev pub apart_from : Field → List Field → Bool
apart_from f [] = true
apart_from f (g ∷ gs) = apart f g && apart_from f gs

abbrev pub sound : ℕ → List Field → Bool
sound n [] = true
sound n (f ∷ fs) = inside n f && (apart_from f fs && sound n fs)
