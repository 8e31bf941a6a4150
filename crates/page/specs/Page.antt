-- Document 02, job 2, "A trace page": a message as one line of exactly 80 columns. It has n bytes and begins with s (specs/Types.antt).
use Rattle.std.specs.Prelude.{Option, Some, None, ◌≡◌, cond, List, [], ◌∷◌, ◌++◌, ℕ, ◌+◌, ◌-◌, ◌%◌, ◌≤◌, ltb, eqb, length, take, drop, replicate, Result, Ok, Err}
use Rattle.std.proofs.Math.Option.{none, some}
use Prim.Native.Char.{code}
use Rattle.srp.specs.Lists.{All}
use Rattle.srp.specs.Bytes.{Field, bytes, get}
use Rattle.srp.specs.Messages.{tag, lun, delta, reason, rspvalid}
use Rattle.srp.specs.Requests.{flag}
use Rattle.srp.specs.Writing.{placed}
use Rattle.srp.specs.Refusals.{Check, first_of_checks}
use Rattle.srp.specs.Answers.{returned}
use Rattle.srp.specs.Outside.{CReturn, hex, decimal}
use Rattle.srp.specs.declared.Refusal.TheVariants.{ShortBuffer}
use Rattle.srp.specs.declared.Reply.{Reply}
use Rattle.srp.specs.declared.Reply.TheVariants.{Performed}
use Rattle.text.specs.Codes.{line_feed, codes}
use Rattle.page.specs.Types.{most_read, name_of}
use Rattle.page.specs.declared.Way.{Way}
use Rattle.page.specs.declared.Way.TheVariants.{Towards, From}
use Rattle.page.specs.declared.Name.{Name}
use Rattle.page.specs.declared.Name.TheVariants.{LoginReq, TskMgmt, Cmd, ILogout, CredRsp, LoginRsp, LoginRej, Rsp, CredReq, TLogout, Unknown}
use Rattle.page.specs.declared.Line.{Line}
use Rattle.srp.specs.declared.Refusal.{Refusal}

-- ── what the line says

-- the last of the four response bytes
abbrev pub rsp_code : Field
rsp_code = bytes 39 1

-- every type has a tag
abbrev pub tagged : Way → Name → List ℕ → (l d c : Option ℕ) → Line
tagged w n s l d c = record { way = w; name = n; tag = Some (get tag s); lun = l; number = d; code = c }

abbrev pub lun_of_lem : List ℕ → Option ℕ
lun_of_lem s = Some (get lun s)

-- "delta (a login's N too)"; a reason stands at the same place
abbrev pub delta_of_lem : List ℕ → Option ℕ
delta_of_lem s = Some (get delta s)

abbrev pub reason_of_lem : List ℕ → Option ℕ
reason_of_lem s = Some (get reason s)

-- RSP_CODE stands in an SRP_RSP with RSPVALID
abbrev pub code_of : List ℕ → Option ℕ
code_of s = cond (flag (get rspvalid s)) (Some (get rsp_code s)) None

-- the fields of each type: LUN, delta, reason or RSP_CODE; UNKNOWN prints "its length in 50-54 by the delta's rule, the rest but column 1 spaces"
abbrev pub line_of : Way → Name → ℕ → List ℕ → Line
line_of w LoginReq n s = tagged w LoginReq s None None None
line_of w TskMgmt n s = tagged w TskMgmt s (lun_of_lem s) None None
line_of w Cmd n s = tagged w Cmd s (lun_of_lem s) None None
line_of w ILogout n s = tagged w ILogout s None None None
line_of w CredRsp n s = tagged w CredRsp s None None None
line_of w LoginRsp n s = tagged w LoginRsp s None (delta_of_lem s) None
line_of w LoginRej n s = tagged w LoginRej s None None (reason_of_lem s)
line_of w Rsp n s = tagged w Rsp s None (delta_of_lem s) (code_of s)
line_of w CredReq n s = tagged w CredReq s None (delta_of_lem s) None
line_of w TLogout n s = tagged w TLogout s None None (reason_of_lem s)
line_of w Unknown n s = record { way = w; name = Unknown; tag = None; lun = None; number = Some n; code = None }

-- ── its texts

-- "> towards the port, < from it"
abbrev pub sign : Way → ℕ
sign Towards = code ">"
sign From = code "<"

-- "type name without its leading SRP_"
abbrev pub letters : Name → List ℕ
letters LoginReq = codes "LOGIN_REQ"
letters TskMgmt = codes "TSK_MGMT"
letters Cmd = codes "CMD"
letters ILogout = codes "I_LOGOUT"
letters CredRsp = codes "CRED_RSP"
letters LoginRsp = codes "LOGIN_RSP"
letters LoginRej = codes "LOGIN_REJ"
letters Rsp = codes "RSP"
letters CredReq = codes "CRED_REQ"
letters TLogout = codes "T_LOGOUT"
letters Unknown = codes "UNKNOWN"

abbrev pub spaces : ℕ → List ℕ
spaces n = replicate n 0x20

-- "padded with spaces"
abbrev pub padded : ℕ → List ℕ → List ℕ
padded width t = t ++ spaces (width - length t)

-- "right-aligned"
abbrev pub aligned : ℕ → List ℕ → List ℕ
aligned width t = spaces (width - length t) ++ t

-- "right-aligned decimal, ***** above 99,999"
abbrev pub count_text_lem : ℕ → List ℕ
count_text_lem n = cond (ltb 99999 n) (codes "*****") (aligned 5 (decimal n))

-- a text or nothing, which leaves its columns' spaces
abbrev pub hex_text : ℕ → Option ℕ → List ℕ
hex_text k None = []
hex_text k (Some n) = hex k n

abbrev pub number_text : Option ℕ → List ℕ
number_text None = []
number_text (Some n) = count_text_lem n

-- ── its columns

-- a text over what stood from byte `at` on
abbrev pub over : ℕ → List ℕ → List ℕ → List ℕ
over at t line = take at line ++ (t ++ drop (at + length t) line)

-- columns count from 1
abbrev pub column : ℕ → List ℕ → List ℕ → List ℕ
column k t line = over (k - 1) t line

abbrev pub line_width : ℕ
line_width = 80

abbrev pub blank : List ℕ
blank = spaces line_width

abbrev pub columns : Line → List ℕ
columns l =
    column 1 (sign l.way ∷ [])
    (column 3 (padded 12 (letters l.name))
    (column 16 (hex_text 16 l.tag)
    (column 33 (hex_text 16 l.lun)
    (column 50 (number_text l.number)
    (column 56 (hex_text 8 l.code)
    blank)))))

-- "line feed after 80"
abbrev pub line_text : Line → List ℕ
line_text l = columns l ++ (line_feed ∷ [])

-- the line of a message of n bytes that begins with s
abbrev pub line_from : Way → ℕ → List ℕ → List ℕ
line_from w n s = line_text (line_of w (name_of n s) n s)

-- the line of a message
abbrev pub trace_line : Way → List ℕ → List ℕ
trace_line w s = line_from w (length s) s

-- ── the call

abbrev pub line_length : ℕ
line_length = line_width + 1

-- "a lent buffer of at least 81 bytes (else 1; bytes past 81 stay)"
abbrev pub trace_checks : ℕ → List Check
trace_checks room = (ltb room line_length, ShortBuffer) ∷ []

abbrev pub trace_reply : ℕ → Result Reply Refusal
trace_reply room = elim (first_of_checks (trace_checks room)) [ none ↦ Ok Performed | some f ↦ Err f ]

abbrev pub trace_writes : Way → List ℕ → ℕ → List (List ℕ)
trace_writes w s room = elim (first_of_checks (trace_checks room)) [ none ↦ trace_line w s ∷ [] | some f ↦ [] ]

pub record Traced (w : Way) (s before after : List ℕ) (r : Result Reply Refusal) : Type 0 where
  pub reply : r ≡ trace_reply (length before)
  pub buffer : after ≡ placed (trace_writes w s (length before)) before

-- in C: 0 or the refusal's number
abbrev pub trace_in_c : Way → List ℕ → ℕ → CReturn
trace_in_c w s room = record { returns = returned (trace_reply room); wrote = trace_writes w s room }

-- ── what makes it one line

abbrev pub Printable : ℕ → Type 0
Printable b = (0x20 ≤ b) × (b ≤ 0x7e)

-- 80 printable columns and a line feed
pub record OneLine (t : List ℕ) : Type 0 where
  pub width : length t ≡ line_length
  pub columns : All Printable (take line_width t)
  pub feed : drop line_width t ≡ line_feed ∷ []

-- "The width holds for every message of every length, shown once over all types"
abbrev pub EveryLine : Type 0
EveryLine = (w : Way) (s : List ℕ) → OneLine (trace_line w s)

-- the line is the same whatever stands behind the first 40 bytes of a message
abbrev pub ReadsBeginning : Type 0
ReadsBeginning = (w : Way) (n : ℕ) (s : List ℕ) → line_from w n (take most_read s) ≡ line_from w n s

-- ── from left to right

-- "16 hex digits or spaces", "8 hex digits or spaces"
abbrev pub hex_columns : ℕ → Option ℕ → List ℕ
hex_columns k None = spaces k
hex_columns k (Some n) = hex k n

-- "or spaces (50-54, right-aligned decimal, ***** above 99,999)"
abbrev pub number_columns : Option ℕ → List ℕ
number_columns None = spaces 5
number_columns (Some n) = count_text_lem n

-- no text reaches into the columns of another
abbrev pub InColumns : Type 0
InColumns =
    (l : Line) → columns l ≡
    sign l.way ∷ 0x20
    ∷ (padded 12 (letters l.name) ++ (0x20
    ∷ (hex_columns 16 l.tag ++ (0x20
    ∷ (hex_columns 16 l.lun ++ (0x20
    ∷ (number_columns l.number ++ (0x20
    ∷ (hex_columns 8 l.code ++ spaces 17)))))))))

-- ── on the way

-- the last digit of what is left of a number, or a space where nothing is left
abbrev pub lead : ℕ → ℕ
lead rest = cond (eqb rest 0) 0x20 (48 + rest % 10)
