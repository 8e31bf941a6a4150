-- Document 01: "Take checks 1, 21, 3 (16 and agreed length), 4, 3 (48 for a command), 5, 6, 3 (exact), 7, 8, 22, 23, 9, 10; 5 to 10 are for
-- commands alone, 22 and 23 for requests; SRP_CRED_RSP has 25 after its 3", as one list. Of a command with a fetch named, "Refusals 9 and 10 are made
-- there", in tables (document 02, job 7). That take refuses by the first of it that hits, and only so, is shown in proofs/Refusing.antt.
use Rattle.std.specs.Prelude.{Bool, cond, not, ◌&&◌, ◌||◌, List, [], ◌∷◌, ℕ, ltb, eqb, length}
use Rattle.srp.specs.Limits.{shortest_message, shortest_command, credit_tag}
use Rattle.srp.specs.Bytes.{get, type_of}
use Rattle.srp.specs.Messages.{tag, out_format, in_format, tsk_mgmt, cmd, i_logout, cred_rsp}
use Rattle.srp.specs.Refusals.{Check, short}
use Rattle.srp.specs.Descriptors.{agrees, bad_count}
use Rattle.srp.specs.Requests.{is_request_type, exact_length, out_descriptor, in_descriptor, command_of_lem}
use Rattle.srp.specs.Credit.{Port}
use Rattle.srp.specs.Take.{no_tables, closed, is_open_lem, given_in, waits, fields_fit}
use Rattle.srp.specs.declared.Refusal.TheVariants.{Length, OtherType, OutFormat, InFormat, OutCount, InCount, Fields, NoCredit, TagOpen, CreditResponse}

abbrev pub is_command : ℕ → Bool
is_command k = eqb k cmd.code

-- a type that the port takes
abbrev pub is_known : ℕ → Bool
is_known k = is_command k || (eqb k tsk_mgmt.code || (eqb k i_logout.code || eqb k cred_rsp.code))

-- the length of a message s of type k
abbrev pub type_length : ℕ → List ℕ → ℕ
type_length k s =
    cond (is_command k) (exact_length s)
    (cond (eqb k tsk_mgmt.code) tsk_mgmt.size
    (cond (eqb k i_logout.code) i_logout.size cred_rsp.size))

-- for a message s of type k
abbrev pub order_of : ℕ → Port → ℕ → List ℕ → List Check
order_of k p room s =
    short room
    ∷ closed p
    ∷ (ltb (length s) shortest_message, Length)
    ∷ (ltb p.terms.agreed (length s), Length)
    ∷ (not (is_known k), OtherType)
    ∷ (is_command k && ltb (length s) shortest_command, Length)
    ∷ (is_command k && not (agrees p.terms.formats (get out_format s)), OutFormat)
    ∷ (is_command k && not (agrees p.terms.formats (get in_format s)), InFormat)
    ∷ (not (eqb (length s) (type_length k s)), Length)
    ∷ (is_command k && bad_count (out_descriptor s), OutCount)
    ∷ (is_command k && bad_count (in_descriptor s), InCount)
    ∷ (is_request_type k && eqb p.announced 0, NoCredit)
    ∷ (is_request_type k && is_open_lem p (get tag s), TagOpen)
    ∷ (is_command k && (not (waits (command_of_lem s)) && not (fields_fit (given_in (command_of_lem s) s) no_tables)), Fields)
    ∷ (eqb k cred_rsp.code && not (p.unanswered && eqb (get tag s) credit_tag), CreditResponse)
    ∷ []

abbrev pub take_order : Port → ℕ → List ℕ → List Check
take_order p room s = order_of (type_of s) p room s
