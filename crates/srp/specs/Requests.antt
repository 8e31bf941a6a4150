-- Document 01, "Requests", and of "Descriptors" look: how a message is read, with the refusals 3 to 8 in take's order.
use Rattle.std.specs.Prelude.{◌≡◌, Bool, cond, not, ◌||◌, List, [], ◌∷◌, ◌++◌, ℕ, ◌+◌, ◌*◌, ◌%◌, ◌≤◌, ltb, eqb, length, take, drop, Result, Ok, Err}
use Rattle.std.proofs.Math.Option.{none, some}
use Rattle.srp.specs.Limits.{shortest_agreed, longest_agreed, shortest_message, shortest_command, both_formats}
use Rattle.srp.specs.Bytes.{get, type_of}
use Rattle.srp.specs.Messages.{tag, lun, ucsolnt, scsolnt, task_function, task_tag, out_format, in_format, out_count, in_count_lem, additional, tsk_mgmt, cmd, i_logout, cred_rsp}
use Rattle.srp.specs.Refusals.{Check, first_of_checks, unless_bad}
use Rattle.srp.specs.Descriptors.{descriptor_size, agrees, descriptor_of_lem, bad_count, fetch_of, segment_bytes}
use Rattle.srp.specs.declared.Direction.{Direction}
use Rattle.srp.specs.declared.Direction.TheVariants.{Out, In}
use Rattle.srp.specs.declared.Refusal.{Refusal}
use Rattle.srp.specs.declared.Refusal.TheVariants.{Setting, Length, OtherType, OutFormat, InFormat, OutCount, InCount}
use Rattle.srp.specs.declared.Descriptor.{Descriptor}
use Rattle.srp.specs.declared.Request.{Request}
use Rattle.srp.specs.declared.Command.{Command}
use Rattle.srp.specs.declared.TaskRequest.{TaskRequest}
use Rattle.srp.specs.declared.Message.{Message}
use Rattle.srp.specs.declared.Message.TheVariants.{Cmd, TskMgmt, CredRsp, ILogout}
use Rattle.srp.specs.declared.Look.{Look}

-- "A request is an SRP_CMD or SRP_TSK_MGMT", known by its type; an empty message is none
abbrev pub is_request_type : ℕ → Bool
is_request_type k = eqb k tsk_mgmt.code || eqb k cmd.code

abbrev pub is_request : List ℕ → Bool
is_request s = is_request_type (type_of s)

abbrev pub flag : ℕ → Bool
flag n = eqb n 1

abbrev pub request_of_lem : List ℕ → Request
request_of_lem s = record { tag = get tag s; lun = get lun s; ucsolnt = flag (get ucsolnt s); scsolnt = flag (get scsolnt s) }

-- ── SRP_CMD

-- "The whole CDB is handed back as the part of the message from byte 32 on, 16 + 4n long"
abbrev pub cdb_length : List ℕ → ℕ
cdb_length s = 16 + 4 * get additional s

-- where the descriptors start
abbrev pub out_at : List ℕ → ℕ
out_at s = cmd.size + cdb_length s

abbrev pub in_at : List ℕ → ℕ
in_at s = out_at s + descriptor_size (get out_format s) (get out_count s)

-- "Length is exactly 48 + 4n + both descriptors"
abbrev pub exact_length : List ℕ → ℕ
exact_length s = in_at s + descriptor_size (get in_format s) (get in_count_lem s)

abbrev pub out_descriptor : List ℕ → Descriptor
out_descriptor s = descriptor_of_lem (get out_format s) (get out_count s) (out_at s) s

abbrev pub in_descriptor : List ℕ → Descriptor
in_descriptor s = descriptor_of_lem (get in_format s) (get in_count_lem s) (in_at s) s

abbrev pub command_of_lem : List ℕ → Command
command_of_lem s = record { request = request_of_lem s; cdb = cdb_length s; out = out_descriptor s; inn = in_descriptor s }

-- "3 (48 for a command), 5, 6, 3 (exact), 7, 8"
abbrev pub command_checks : ℕ → List ℕ → List Check
command_checks formats s =
    (ltb (length s) shortest_command, Length)
    ∷ (not (agrees formats (get out_format s)), OutFormat)
    ∷ (not (agrees formats (get in_format s)), InFormat)
    ∷ (not (eqb (length s) (exact_length s)), Length)
    ∷ (bad_count (out_descriptor s), OutCount)
    ∷ (bad_count (in_descriptor s), InCount)
    ∷ []

-- of these "5/6 out/in format not agreed"
abbrev pub format_checks : ℕ → List ℕ → List Check
format_checks formats s = (not (agrees formats (get out_format s)), OutFormat) ∷ (not (agrees formats (get in_format s)), InFormat) ∷ []

-- of these "3 (exact), 7, 8"
abbrev pub size_checks : List ℕ → List Check
size_checks s = (not (eqb (length s) (exact_length s)), Length) ∷ (bad_count (out_descriptor s), OutCount) ∷ (bad_count (in_descriptor s), InCount) ∷ []

-- ── SRP_TSK_MGMT

abbrev pub task_of : List ℕ → TaskRequest
task_of s = record { request = request_of_lem s; function = get task_function s; managed = get task_tag s }

-- ── any message

-- what a message is read as: what it says, or the one of the refusals 3 to 8 that it draws
abbrev pub Reading : Type 0
Reading = Result Message Refusal

-- a message of its type's length
abbrev pub sized : ℕ → List ℕ → Reading → Reading
sized n s m = cond (eqb (length s) n) m (Err Length)

-- "3 (16 and agreed length)"
abbrev pub length_checks : ℕ → List ℕ → List Check
length_checks agreed s = (ltb (length s) shortest_message, Length) ∷ (ltb agreed (length s), Length) ∷ []

-- a message of type k
abbrev pub by_type : ℕ → ℕ → List ℕ → Reading
by_type k formats s =
    cond (eqb k cmd.code) (unless_bad (first_of_checks (command_checks formats s)) (Ok (Cmd (command_of_lem s))))
    (cond (eqb k tsk_mgmt.code) (sized tsk_mgmt.size s (Ok (TskMgmt (task_of s))))
    (cond (eqb k i_logout.code) (sized i_logout.size s (Ok ILogout))
    (cond (eqb k cred_rsp.code) (sized cred_rsp.size s (Ok (CredRsp (get tag s))))
    (Err OtherType))))

-- a message to a port with this agreed length and these agreed formats
unfoldable pub read_message_lem : ℕ → ℕ → List ℕ → Reading
read_message_lem agreed formats s = unless_bad (first_of_checks (length_checks agreed s)) (by_type (type_of s) formats s)

-- a message s of the type with code k, n bytes long, from 16 bytes to the agreed length
pub record OfType (agreed k n : ℕ) (s : List ℕ) : Type 0 where
  pub code : type_of s ≡ k
  pub long : length s ≡ n
  pub least : shortest_message ≤ length s
  pub most : length s ≤ agreed

-- what a message s is read as: the fields of its type's layout, as they stand in it. What a bad one draws is said by the checks
abbrev pub ReadAs : (agreed : ℕ) (s : List ℕ) → Reading → Type 0
ReadAs agreed s (Err r) = Unit {0}
ReadAs agreed s (Ok (Cmd c)) = OfType agreed cmd.code (exact_length s) s × (shortest_command ≤ length s) × (c ≡ command_of_lem s)
ReadAs agreed s (Ok (TskMgmt k)) = OfType agreed tsk_mgmt.code tsk_mgmt.size s × (k ≡ task_of s)
ReadAs agreed s (Ok (CredRsp g)) = OfType agreed cred_rsp.code cred_rsp.size s × (g ≡ get tag s)
ReadAs agreed s (Ok ILogout) = OfType agreed i_logout.code i_logout.size s

-- ── look

-- a bit that is neither 1 nor, where it is supported, 2: `supported` is 0006h or 0002h
abbrev pub other_formats_lem : ℕ → ℕ → Bool
other_formats_lem supported f = eqb (f % 2) 1 || ltb (supported + 1) f

-- "a length outside 64 to 1,364"
abbrev pub bad_length : ℕ → Bool
bad_length n = ltb n shortest_agreed || ltb longest_agreed n

abbrev pub look_checks : ℕ → ℕ → List ℕ → List Check
look_checks agreed formats s =
    (bad_length agreed || other_formats_lem both_formats formats, Setting)
    ∷ length_checks agreed s
    ++ ((not (eqb (type_of s) cmd.code), OtherType) ∷ command_checks formats s)

-- "Look reads a command without state and names the table fetch for each direction"
abbrev pub look_outcome : List ℕ → Look
look_outcome s = record { out = fetch_of (out_descriptor s) s; inn = fetch_of (in_descriptor s) s }

abbrev pub look_def : ℕ → ℕ → List ℕ → Result Look Refusal
look_def agreed formats s = unless_bad (first_of_checks (look_checks agreed formats s)) (Ok (look_outcome s))

-- the CDB's part of a message, empty where look refuses it
abbrev pub cdb_def : ℕ → ℕ → List ℕ → List ℕ
cdb_def agreed formats s = elim (first_of_checks (look_checks agreed formats s)) [ none ↦ take (cdb_length s) (drop cmd.size s) | some r ↦ [] ]

abbrev pub descriptor_for : Direction → List ℕ → Descriptor
descriptor_for Out s = out_descriptor s
descriptor_for In s = in_descriptor s

-- the segments' part of a message or of the table lent for it, empty where look refuses the message
abbrev pub segments_def : Direction → ℕ → ℕ → List ℕ → List ℕ → List ℕ
segments_def d agreed formats s table = elim (first_of_checks (look_checks agreed formats s)) [ none ↦ segment_bytes (descriptor_for d s) s table | some r ↦ [] ]
