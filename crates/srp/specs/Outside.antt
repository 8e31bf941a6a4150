-- Document 01, "Open commands, C calls, cutlist", and document 02, job 6: look and the cut as C calls them, and what cutlist prints.
use Rattle.std.specs.Prelude.{true, false, cond, not, List, [], ◌∷◌, ◌++◌, ℕ, zero, suc, ◌+◌, ◌/◌, ◌%◌, ◌^◌, ltb, Result, Ok, Err, Option, Some, None}
use Rattle.std.proofs.Math.Option.{none, some}
use Rattle.srp.specs.Limits.{answer_size, longest_agreed, both_formats}
use Rattle.srp.specs.Bytes.{bytes_of, puts, zeros}
use Rattle.srp.specs.Messages.{memory_descriptor}
use Rattle.srp.specs.Refusals.{number_of, first_of_checks}
use Rattle.srp.specs.Descriptors.{Segment, given, segments, sum_of}
use Rattle.srp.specs.Requests.{look_checks, look_def, command_of_lem}
use Rattle.srp.specs.Cutting.{up_to, cuts, cut_def}
use Rattle.srp.specs.Calls.{kind_of}
use Rattle.srp.specs.Take.{no_tables, given_in, waits, fields_fit}
use Rattle.srp.specs.declared.Refusal.{Refusal}
use Rattle.srp.specs.declared.Refusal.TheVariants.{ShortBuffer, Fields}
use Rattle.srp.specs.declared.Direction.TheVariants.{Out, In}
use Rattle.srp.specs.declared.Kind.{Kind}
use Rattle.srp.specs.declared.Kind.TheVariants.{Read, Write}
use Rattle.srp.specs.declared.Piece.{Piece}
use Rattle.srp.specs.declared.Fetch.{Fetch}
use Rattle.srp.specs.declared.Look.{Look}
use Rattle.srp.specs.declared.Command.{Command}

-- ── C

-- what a call from C returns, 0 or the refusal's number, and the 32 bytes that it writes where there is none
pub record CReturn : Type 0 where
  pub returns : ℕ
  pub wrote : List (List ℕ)

abbrev pub refusing_c : Refusal → CReturn
refusing_c r = record { returns = number_of r; wrote = [] }

abbrev pub giving_c : List ℕ → CReturn
giving_c bytes = record { returns = 0; wrote = bytes ∷ [] }

-- "In C the answer takes 32 bytes (a shorter buffer draws 1 first)"
abbrev pub in_buffer : ℕ → CReturn → CReturn
in_buffer room a = cond (ltb room answer_size) (refusing_c ShortBuffer) a

abbrev pub descriptor_bytes : ℕ → ℕ → ℕ → List ℕ
descriptor_bytes address handle len = puts memory_descriptor (address ∷ handle ∷ len ∷ []) (zeros 16)

abbrev pub fetch_bytes : Fetch → List ℕ
fetch_bytes f = descriptor_bytes f.address f.handle f.len

-- "look's two fetches, out then in"; "F = 0 and unused bytes are 0"
abbrev pub look_answer : Result Look Refusal → CReturn
look_answer (Err r) = refusing_c r
look_answer (Ok l) = giving_c (fetch_bytes l.out ++ fetch_bytes l.inn)

abbrev pub look_in_c : ℕ → ℕ → List ℕ → ℕ → CReturn
look_in_c agreed formats s room = in_buffer room (look_answer (look_def agreed formats s))

-- "the piece and then its offset (4 bytes)"; "done ... 0"
abbrev pub cut_answer : Result (Option Piece) Refusal → CReturn
cut_answer (Err r) = refusing_c r
cut_answer (Ok (Some p)) = giving_c (descriptor_bytes p.address p.handle p.len ++ (bytes_of 4 p.offset ++ zeros 12))
cut_answer (Ok None) = giving_c (zeros answer_size)

abbrev pub cut_in_c : (list : List ℕ) (M Q R handed room : ℕ) → CReturn
cut_in_c list M Q R handed room = in_buffer room (cut_answer (cut_def list M Q R handed))

-- ── cutlist

abbrev pub hex_digit_lem : ℕ → ℕ
hex_digit_lem n = cond (ltb n 10) (48 + n) (87 + n)

-- the lowest k hexadecimal digits, lowercase
abbrev pub hex : ℕ → ℕ → List ℕ
hex zero n = []
hex (suc k) n = hex_digit_lem (n / 16 ^ k % 16) ∷ hex k n

-- decimal digits, at most as many as the first argument says
abbrev pub digits : ℕ → ℕ → List ℕ
digits zero n = []
digits (suc k) n = elim (ltb n 10) [ true ↦ (48 + n) ∷ [] | false ↦ digits k (n / 10) ++ ((48 + n % 10) ∷ []) ]

-- a number of 64 bits
abbrev pub decimal : ℕ → List ℕ
decimal n = digits 20 n

-- 'R' or 'W'
abbrev pub letter : Kind → ℕ
letter Read = 0x52
letter Write = 0x57

-- "W or R, handle (8 lowercase hex digits), address (16), length (decimal)"
abbrev pub operation_line : Kind → Piece → List ℕ
operation_line k p = letter k ∷ 0x20 ∷ hex 8 p.handle ++ (0x20 ∷ hex 16 p.address ++ (0x20 ∷ decimal p.len ++ (0x0a ∷ [])))

abbrev pub operation_lines : Kind → List Piece → List ℕ
operation_lines k [] = []
operation_lines k (p ∷ ps) = operation_line k p ++ operation_lines k ps

-- "A refusal prints "refused", a space and the number"
abbrev pub refused_line : Refusal → List ℕ
refused_line r = 0x72 ∷ 0x65 ∷ 0x66 ∷ 0x75 ∷ 0x73 ∷ 0x65 ∷ 0x64 ∷ 0x20 ∷ decimal (number_of r) ++ (0x0a ∷ [])

abbrev pub fetch_line : List ℕ
fetch_line = 0x66 ∷ 0x65 ∷ 0x74 ∷ 0x63 ∷ 0x68 ∷ 0x0a ∷ []

-- "M = 512, R = B"; "one move each way, offset 0, count R"; of Q, "cutlist's is 0"
abbrev pub whole_cuts : List Segment → List Piece
whole_cuts ss = cuts (up_to 512 0) (sum_of ss) ss

-- a command that look takes: ""fetch" only, ahead of 10"
abbrev pub cutlist_of : Command → List ℕ → List ℕ
cutlist_of c s =
    cond (waits c) fetch_line
    (cond (not (fields_fit (given_in c s) no_tables)) (refused_line Fields)
    (operation_lines (kind_of Out) (whole_cuts (segments (given c.out s) [])) ++ operation_lines (kind_of In) (whole_cuts (segments (given c.inn s) []))))

-- what cutlist prints for the message s: "both formats agreed, X = 1,364"
abbrev pub cutlist : List ℕ → List ℕ
cutlist s = elim (first_of_checks (look_checks longest_agreed both_formats s)) [ none ↦ cutlist_of (command_of_lem s) s | some r ↦ refused_line r ]
