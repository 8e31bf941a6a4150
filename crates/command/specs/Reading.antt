-- What is known of a command that was read, and of its fields.
use Rattle.std.specs.Prelude.{◌≡◌, cond, ◌&&◌, List, ℕ, ◌+◌, ◌*◌, ◌≤◌, ◌<◌, ◌%◌, ◌^◌, eqb, length, Option, Some, None}
use Rattle.srp.specs.Limits.{longest_table, most_copies}
use Rattle.srp.specs.Messages.{cmd}
use Rattle.srp.specs.Descriptors.{Segment, Given, descriptor_size, bad_count, chosen, segments, sum_of, reachable, good_fields}
use Rattle.srp.specs.declared.Command.{Command}
use Rattle.srp.specs.declared.Descriptor.{Descriptor}
use Rattle.cut.specs.Walk.{Total}
use Rattle.command.specs.declared.shape.Shape.{Shape}

-- ── a descriptor

-- a descriptor with another total length
abbrev pub with_total_lem : ℕ → Descriptor → Descriptor
with_total_lem n d = record { format = d.format; count = d.count; at = d.at; len = d.len; total = n }

-- a descriptor, unless its count is bad
abbrev pub counted : Descriptor → Option Descriptor
counted d = cond (bad_count d) None (Some d)

-- a descriptor of format 0, 1 or 2 inside the message s, with at most 32 copies and no more than its table has
pub record LiesIn (s : List ℕ) (d : Descriptor) : Type 0 where
  pub format : d.format ≤ 2
  pub count : d.count ≤ most_copies
  pub inside : d.at + descriptor_size d.format d.count ≤ length s
  pub table : 16 * d.count ≤ d.len

-- a CDB of n bytes and the descriptors o and i lie inside the message s
pub record Inside (s : List ℕ) (n : ℕ) (o i : Descriptor) : Type 0 where
  pub cdb : cmd.size + n ≤ length s
  pub out : LiesIn s o
  pub inn : LiesIn s i

-- ── what look needs of a command

abbrev pub shape_of : Command → Shape
shape_of c = record { cdb = c.cdb; out = with_total_lem 0 c.out; inn = with_total_lem 0 c.inn }

-- a shape that was read lies inside its message
abbrev pub FitsShape : List ℕ → Shape → Type 0
FitsShape s x = Inside s x.cdb x.out x.inn

-- ── a command

-- a command that was read lies inside its message
abbrev pub FitsIn : List ℕ → Command → Type 0
FitsIn s c = Inside s c.cdb c.out c.inn

-- ── the fields of a direction

-- B of segments whose total length is stated
abbrev pub stated_of : ℕ → List Segment → Total
stated_of stated ss = cond (eqb stated (sum_of ss) && reachable ss) (Some (sum_of ss)) None

-- B of a direction, unless a field is bad
abbrev pub fields_of : Given → List ℕ → Total
fields_of g table = cond (good_fields g table) (Some (sum_of (segments g table))) None

-- a sum is of up to 32 whole segments, and of 32 bits
abbrev pub ListFits : List ℕ → Total → Type 0
ListFits list (Some n) = (length list ≤ longest_table) × (length list % 16 ≡ 0) × (n < 2 ^ 32)
ListFits list None = Unit {0}

abbrev pub FieldsRead : (g : Given) (table : List ℕ) → Total → Type 0
FieldsRead g table r = (r ≡ fields_of g table) × ListFits (chosen g table) r
