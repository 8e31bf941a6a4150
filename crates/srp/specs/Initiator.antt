-- An SRP_CMD as an initiator writes it, for every pair of formats, and what it is read back as. The laws are `command_read` of proofs/Commands.antt and
-- `command_received` of proofs/Received.antt.
use Rattle.std.specs.Prelude.{◌≡◌, List, [], ◌∷◌, ◌++◌, ℕ, ◌+◌, ◌*◌, ◌/◌, ◌%◌, ◌≤◌, length, take, drop}
use Rattle.srp.specs.Limits.{most_copies}
use Rattle.srp.specs.Bytes.{bit, get, behind, gets, puts, zeros, type_of, write, InRange}
use Rattle.srp.specs.Messages.{cmd, address, handle, memory_descriptor, table_descriptor}
use Rattle.srp.specs.Descriptors.{descriptor_of_lem, copies, given, segment_bytes, segments}
use Rattle.srp.specs.Requests.{cdb_length, exact_length, command_of_lem}
use Rattle.srp.specs.declared.Request.{Request}
use Rattle.srp.specs.declared.Descriptor.{Descriptor}
use Rattle.srp.specs.declared.Command.{Command}

-- a data buffer descriptor: no data, one segment, or a table with its total length and, as bytes, the copies of its first entries
pub data Buffer : Type 0 where
  no_data : Buffer
  direct : (address handle len : ℕ) → Buffer
  indirect : (address handle len total : ℕ) (copies : List ℕ) → Buffer

abbrev pub format_of : Buffer → ℕ
format_of no_data = 0
format_of (direct a h n) = 1
format_of (indirect a h n t copies) = 2

abbrev pub count_of : Buffer → ℕ
count_of no_data = 0
count_of (direct a h n) = 0
count_of (indirect a h n t copies) = length copies / 16

abbrev pub buffer_bytes : Buffer → List ℕ
buffer_bytes no_data = []
buffer_bytes (direct a h n) = puts memory_descriptor (a ∷ h ∷ n ∷ []) (zeros 16)
buffer_bytes (indirect a h n t copies) = puts table_descriptor (a ∷ h ∷ n ∷ t ∷ []) (zeros 20) ++ copies

-- the fields of a command; n words of CDB more than 16 bytes
pub record CommandFields : Type 0 where
  pub request : Request
  pub attribute : ℕ
  pub n : ℕ
  pub cdb : List ℕ
  pub out : Buffer
  pub inn : Buffer

abbrev pub values : CommandFields → List ℕ
values c =
    bit c.request.ucsolnt
    ∷ bit c.request.scsolnt
    ∷ format_of c.out
    ∷ format_of c.inn
    ∷ count_of c.out
    ∷ count_of c.inn
    ∷ c.request.tag
    ∷ c.request.lun
    ∷ c.attribute
    ∷ c.n
    ∷ []

abbrev pub command_bytes : CommandFields → List ℕ
command_bytes c = write cmd (values c) ++ (c.cdb ++ (buffer_bytes c.out ++ buffer_bytes c.inn))

-- ── what the port reads of it

-- a buffer that its descriptor has room for, with whole copies
abbrev pub Fit : Buffer → Type 0
Fit no_data = Unit {0}
Fit (direct a h n) = InRange memory_descriptor (a ∷ h ∷ n ∷ [])
Fit (indirect a h n t w) = InRange table_descriptor (a ∷ h ∷ n ∷ t ∷ []) × (length w % 16 ≡ 0)

-- copies of at most 32 entries, and no more than the table has
abbrev pub Copied : Buffer → Type 0
Copied no_data = Unit {0}
Copied (direct a h n) = Unit {0}
Copied (indirect a h n t w) = (length w ≤ 16 * most_copies) × (length w ≤ n)

-- what a table descriptor d of the message s says
pub record Table (a h n t : ℕ) (w : List ℕ) (d : Descriptor) (s : List ℕ) : Type 0 where
  pub address : get (behind d.at address) s ≡ a
  pub handle : get (behind d.at handle) s ≡ h
  pub len : d.len ≡ n
  pub total : d.total ≡ t
  pub copied : copies d s ≡ w

-- the descriptor d of the message s says the buffer
abbrev pub Says : Buffer → Descriptor → List ℕ → Type 0
Says no_data d s = (table : List ℕ) → segment_bytes d s table ≡ []
Says (direct a h n) d s = (table : List ℕ) → segments (given d s) table ≡ record { address = a; handle = h; len = n } ∷ []
Says (indirect a h n t w) d s = Table a h n t w d s

-- the command c, its descriptors in the message s
abbrev pub command_in : CommandFields → List ℕ → Command
command_in c s =
    record {
      request = c.request;
      cdb = 16 + 4 * c.n;
      out = descriptor_of_lem (format_of c.out) (count_of c.out) (48 + 4 * c.n) s;
      inn = descriptor_of_lem (format_of c.inn) (count_of c.inn) (48 + 4 * c.n + length (buffer_bytes c.out)) s;
    }

-- what the bytes s of the command c are read as
pub record Reads (c : CommandFields) (s : List ℕ) : Type 0 where
  pub code : type_of s ≡ cmd.code
  pub fields : gets cmd.fields s ≡ values c
  pub long : length s ≡ exact_length s
  pub cdb : take (cdb_length s) (drop cmd.size s) ≡ c.cdb
  pub command : command_of_lem s ≡ command_in c s
  pub out : Says c.out (command_of_lem s).out s
  pub inn : Says c.inn (command_of_lem s).inn s
