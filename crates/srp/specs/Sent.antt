-- Demand 2, "what the port writes follows them too": the messages that the port writes, and what it is to follow a layout. The laws are `every_write`,
-- `login_writes` and `sent_follows` of proofs/Sent.antt.
use Rattle.std.specs.Prelude.{◌≡◌, ◌⊎◌, true, ℕ, ◌+◌, ◌^◌, ◌≤◌, ◌<◌, length, take, drop}
use mathlib.Core.List.{List, [], ◌++◌, Memᴰ}
use Rattle.std.proofs.Math.Option.{Option, none, some}
use Rattle.srp.specs.Limits.{buffer_size, longest_sense}
use Rattle.srp.specs.Bytes.{Bytes, Field, get, gets, Layout, type_of, write, InRange, inside, apart_from}
use Rattle.srp.specs.Messages.{rsp, cred_req, t_logout, login_rsp, login_rej, port_layouts, response_length, sense_length}
use Rattle.srp.specs.ReadBack.{all_fields}
use Rattle.srp.specs.Lists.{All}
use Rattle.srp.specs.Credit.{Port}
use Rattle.srp.specs.Writing.{Response, response_bytes_lem, response_values, response}
use Rattle.srp.specs.Take.{Tables, take_def}
use Rattle.srp.specs.Tables.{tables_def}
use Rattle.srp.specs.Calls.{finish_def, grant_def, close_def}

-- what the bytes s of the response r are read as
pub record Responds (r : Response) (s : List ℕ) : Type 0 where
  pub code : type_of s ≡ rsp.code
  pub fields : gets rsp.fields s ≡ response_values r
  pub long : length s ≡ rsp.size + get response_length s + get sense_length s
  pub bytes : take (get response_length s) (drop rsp.size s) ≡ response_bytes_lem r.code
  pub sense : take (get sense_length s) (drop (rsp.size + get response_length s) s) ≡ r.sense

-- the message s follows a layout: written by it from values in the fields' ranges, it reads back as those values
pub record Follows (s : List ℕ) : Type 0 where
  -- one of the five that a port writes
  pub layout : Layout
  pub among : Memᴰ layout port_layouts
  pub values : List ℕ
  pub ranged : InRange layout.fields values
  -- what stands behind the fixed part: an SRP_RSP's response bytes and sense, nothing else's
  pub behind : List ℕ
  pub alone : (type_of s ≡ rsp.code) ⊎ (behind ≡ [])
  pub written : s ≡ write layout values ++ behind
  pub code : type_of s ≡ layout.code
  pub fields : gets layout.fields s ≡ values
  pub responds : type_of s ≡ rsp.code → (r : Response) × Responds r s
  -- every other byte and bit of the fixed part is 0
  pub elsewhere : (g : Field) → inside layout.size g ≡ true → apart_from g (all_fields layout) ≡ true → get g s ≡ 0
  -- it fits into a lent buffer
  pub fits : length s ≤ buffer_size

-- ── the five kinds

-- a response code that the port writes
abbrev pub Code : ℕ → Type 0
Code n = (n ≡ 0x00) ⊎ ((n ≡ 0x02) ⊎ (n ≡ 0x04))

-- behind a response's fixed part: sense of up to 96 bytes, or response bytes
abbrev pub Behind : Option ℕ → List ℕ → Type 0
Behind none sense = length sense ≤ longest_sense
Behind (some code) sense = Code code × (sense ≡ [])

-- the messages that the port writes, each by its layout with values in the fields' ranges
pub data Sent : List ℕ → Type 0 where
  a_response : (r : Response) → InRange rsp.fields (response_values r) → Behind r.code r.sense → Sent (response r)
  credit_request_lem : (vs : List ℕ) → InRange cred_req.fields vs → Sent (write cred_req vs)
  target_logout_lem : (vs : List ℕ) → InRange t_logout.fields vs → Sent (write t_logout vs)
  login_response_lem : (vs : List ℕ) → InRange login_rsp.fields vs → Sent (write login_rsp vs)
  login_rejection : (vs : List ℕ) → InRange login_rej.fields vs → Sent (write login_rej vs)

-- what the calls on the port p write; messages are bytes, a status has 8 bits, a reason 32
pub record Writes (p : Port) : Type 0 where
  pub taking : (room : ℕ) (s : List ℕ) → Bytes s → All Sent (take_def p room s).wrote
  pub bringing : (room tag : ℕ) (t : Tables) → All Sent (tables_def p room tag t).wrote
  pub finishing : (room tag status : ℕ) (sense : List ℕ) → status < 256 → All Sent (finish_def p room tag status sense).wrote
  pub granting : (room : ℕ) → All Sent (grant_def p room).wrote
  pub closing : (room reason : ℕ) → reason < 2 ^ 32 → All Sent (close_def p room reason).wrote
