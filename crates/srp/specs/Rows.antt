-- How a row of the table is run: what is done, what is seen, and messages and answers built byte by byte from document 01's text and not by the
-- layouts. The rows are specs/Table.antt.
use Rattle.std.specs.Prelude.{Bool, true, false, cond, List, [], ◌∷◌, ◌++◌, map, ℕ, zero, suc, ℤ, length, replicate, Result, Ok, Err}
use Rattle.srp.specs.Bytes.{bytes_of}
use Rattle.srp.specs.Refusals.{number_of}
use Rattle.srp.specs.Requests.{cdb_def, segments_def}
use Rattle.srp.specs.Credit.{Port, closed_port}
use Rattle.srp.specs.Take.{Outcome, Tables, take_def}
use Rattle.srp.specs.Tables.{tables_def}
use Rattle.srp.specs.Calls.{plan_def, move_def, kind_of, step_def, turn_def, finish_def, add_def, withdraw_def, grant_def, close_def, counters_def, list_def, listing}
use Rattle.srp.specs.Login.{login_def}
use Rattle.srp.specs.declared.Settings.{Settings}
use Rattle.srp.specs.Outside.{CReturn, look_in_c, cut_in_c, cutlist}
use Rattle.srp.specs.declared.Direction.{Direction}
use Rattle.srp.specs.declared.Direction.TheVariants.{Out, In}
use Rattle.srp.specs.declared.Kind.{Kind}
use Rattle.srp.specs.declared.Kind.TheVariants.{Read, Write}
use Rattle.srp.specs.declared.Piece.{Piece}
use Rattle.srp.specs.declared.Record.{Record}
use Rattle.srp.specs.declared.Reply.{Reply}
use Rattle.srp.specs.declared.Reply.TheVariants.{Performed, NewCommand, TaskAnswered, CreditSettled, LoggedOut, Operation, Done, Served, Idle, Accepted, Rejected, Counts, Listed}
use Rattle.srp.specs.declared.Refusal.{Refusal}

-- ── what is done and seen

pub data Act : Type 0 where
  logs_in : Settings → ℕ → List ℕ → Act
  takes : ℕ → List ℕ → Act
  brings : ℕ → ℕ → Tables → Act
  plans : ℕ → ℕ → ℕ → Act
  names : ℕ → Direction → ℕ → ℕ → Act
  steps : ℕ → Direction → Act
  turns : Act
  finishes : ℕ → ℕ → ℕ → List ℕ → Act
  adds : ℕ → Act
  withdraws : ℕ → Act
  grants : ℕ → Act
  closes : ℕ → ℕ → Act
  counts : Act
  lists : ℕ → Act
  -- calls without a port: look and the cut in C, the CDB, the segments, cutlist
  looks : ℕ → ℕ → List ℕ → ℕ → Act
  cuts : (list : List ℕ) (M Q R handed room : ℕ) → Act
  cdbs : List ℕ → Act
  parts : Direction → List ℕ → List ℕ → Act
  prints : List ℕ → Act

-- what is seen of a reply; an operation is its kind, handle, address, length and offset, and the number so far
pub data Seen : Type 0 where
  refused : ℕ → Seen
  performed : Seen
  command : (tag lun cdb : ℕ) → Seen
  waiting : (tag lun cdb : ℕ) → Seen
  task : (tag lun : ℕ) → Seen
  settled : Seen
  logged_out_lem : Seen
  reads : (handle address len offset number : ℕ) → Seen
  writes : (handle address len offset number : ℕ) → Seen
  done : (number : ℕ) → Seen
  -- a turn's operation, with its command's tag; its kind tells the direction
  served : (tag : ℕ) → Seen → Seen
  idle : Seen
  accepted : Seen
  rejected : ℕ → Seen
  counters : (w a h : ℕ) → ℤ → Seen
  records : ℕ → List (List ℕ) → Seen
  message : List ℕ → Seen
  text : List ℕ → Seen

abbrev pub operation : Kind → Piece → ℕ → Seen
operation Read o n = reads o.handle o.address o.len o.offset n
operation Write o n = writes o.handle o.address o.len o.offset n

abbrev pub row : Record → List ℕ
row r = r.tag ∷ r.lun ∷ r.out ∷ r.inn ∷ []

abbrev pub seen_of : Port → Result Reply Refusal → Seen
seen_of p (Err r) = refused (number_of r)
seen_of p (Ok Performed) = performed
seen_of p (Ok (NewCommand tag lun cdb waits)) = cond waits (waiting tag lun cdb) (command tag lun cdb)
seen_of p (Ok (TaskAnswered tag lun)) = task tag lun
seen_of p (Ok CreditSettled) = settled
seen_of p (Ok LoggedOut) = logged_out_lem
seen_of p (Ok (Operation k o n)) = operation k o n
seen_of p (Ok (Done n)) = done n
seen_of p (Ok (Served tag d o n)) = served tag (operation (kind_of d) o n)
seen_of p (Ok Idle) = idle
seen_of p (Ok Accepted) = accepted
seen_of p (Ok (Rejected n)) = rejected n
seen_of p (Ok (Counts c)) = counters c.wanted c.announced c.held c.owed
seen_of p (Ok (Listed n)) = records n (map row (listing p))

abbrev pub returned_c : Port → CReturn → Outcome × Seen
returned_c p a = (record { reply = Ok Performed; port = p; wrote = a.wrote }, cond (is_zero a.returns) performed (refused a.returns))
  where
    is_zero : ℕ → Bool
    is_zero zero = true
    is_zero (suc n) = false

abbrev pub called : Outcome → Outcome × Seen
called o = (o, seen_of o.port o.reply)

abbrev pub asked : Port → Seen → Outcome × Seen
asked p s = (record { reply = Ok Performed; port = p; wrote = [] }, s)

-- the port's own identifier
abbrev pub own : List ℕ
own = replicate 15 7 ++ (8 ∷ [])

abbrev pub act : Port → Act → Outcome × Seen
act p (logs_in c room s) = called (login_def c own room s)
act p (takes room s) = called (take_def p room s)
act p (brings room tag t) = called (tables_def p room tag t)
act p (plans tag out inn) = called (plan_def p tag out inn)
act p (names tag d offset count) = called (move_def p tag d offset count)
act p (steps tag d) = called (step_def p tag d)
act p turns = called (turn_def p)
act p (finishes room tag status sense) = called (finish_def p room tag status sense)
act p (adds k) = called (add_def p k)
act p (withdraws k) = called (withdraw_def p k)
act p (grants room) = called (grant_def p room)
act p (closes room reason) = called (close_def p room reason)
act p counts = called (counters_def p)
act p (lists n) = called (list_def p n)
act p (looks agreed formats s room) = returned_c p (look_in_c agreed formats s room)
act p (cuts list M Q R handed room) = returned_c p (cut_in_c list M Q R handed room)
act p (cdbs s) = asked p (text (cdb_def 1364 6 s))
act p (parts d s table) = asked p (text (segments_def d 1364 6 s table))
act p (prints s) = asked p (text (cutlist s))

-- each act's reply, then its message
abbrev pub shows : Port → List Act → List Seen
shows p [] = []
shows p (a ∷ more) =
    let o : Outcome × Seen = act p a in
    o.1 ∷ map message o.0.wrote ++ shows o.0.port more

-- ── messages to the port

abbrev pub segment : ℕ → ℕ → ℕ → List ℕ
segment a h n = bytes_of 8 a ++ bytes_of 4 h ++ bytes_of 4 n

-- byte 1, byte 5, the counts, the tag, the LUN, byte 31, and what follows byte 47
abbrev pub cmd_bytes : ℕ → ℕ → ℕ → ℕ → ℕ → ℕ → ℕ → List ℕ → List ℕ
cmd_bytes solnt formats outs ins tag lun n rest =
    2 ∷ solnt ∷ 0 ∷ 0 ∷ 0 ∷ formats ∷ outs ∷ ins ∷ bytes_of 8 tag ++ (replicate 4 0 ++ (bytes_of 8 lun ++ (0 ∷ 0 ∷ 0 ∷ n ∷ replicate 16 0xcd ++ rest)))

abbrev pub no_data_lem : ℕ → List ℕ
no_data_lem tag = cmd_bytes 0 0 0 0 tag 0 0 []

-- byte 1, the tag, the LUN, the function, the tag of the command to abort
abbrev pub tsk_mgmt_lem : ℕ → ℕ → ℕ → ℕ → ℕ → List ℕ
tsk_mgmt_lem solnt tag lun function managed =
    1 ∷ solnt ∷ replicate 6 0 ++ (bytes_of 8 tag ++ (replicate 4 0 ++ (bytes_of 8 lun ++ (0 ∷ 0 ∷ function ∷ 0 ∷ bytes_of 8 managed ++ replicate 8 0))))

-- SRP_I_LOGOUT, SRP_CRED_RSP: the type and the tag
abbrev pub tag_only : ℕ → ℕ → List ℕ
tag_only type tag = type ∷ replicate 7 0 ++ bytes_of 8 tag

-- the requested length, the required formats, byte 26, the target identifier
abbrev pub login_req_lem : ℕ → ℕ → ℕ → List ℕ → List ℕ
login_req_lem n formats flags target =
    0 ∷ replicate 7 0 ++ (bytes_of 8 77 ++ (bytes_of 4 n ++ (replicate 4 0 ++ (bytes_of 2 formats ++ (flags ∷ replicate 5 0 ++ (replicate 16 5 ++ target))))))

abbrev pub settings : (n m q x : ℕ) (indirect solicited : Bool) → Settings
settings n m q x indirect solicited = record { buffers = n; maximum = m; boundary = q; longest = x; indirect = indirect; solicited = solicited }

-- a port with N buffers, M = 512 and no boundaries, both formats agreed, CRSOLNT and LOSOLNT as byte 26 says
abbrev pub logs_in_with : ℕ → ℕ → Act
logs_in_with n flags = logs_in (settings n 512 0 1364 true true) 132 (login_req_lem 1364 6 flags own)

-- ── messages from the port

-- byte 1, the delta, the tag, the flags, the status, both residuals, the lengths of sense and of response bytes, and what follows byte 35
abbrev pub rsp_bytes : ℕ → ℕ → ℕ → ℕ → ℕ → ℕ → ℕ → ℕ → ℕ → List ℕ → Seen
rsp_bytes solnt delta tag flags status out inn sense response rest =
    message
    (0xc1 ∷ solnt ∷ 0 ∷ 0 ∷ bytes_of 4 delta ++ (bytes_of 8 tag ++ (0 ∷ 0 ∷ flags ∷ status ∷ bytes_of 4 out ++ (bytes_of 4 inn ++ (bytes_of 4 sense ++ (bytes_of 4 response ++ rest))))))

-- a command's response with status 0, and one with an RSP_CODE
abbrev pub rsp_good : ℕ → ℕ → ℕ → ℕ → ℕ → Seen
rsp_good delta tag flags out inn = rsp_bytes 0 delta tag flags 0 out inn 0 0 []

abbrev pub rsp_code_lem : ℕ → ℕ → ℕ → ℕ → Seen
rsp_code_lem solnt delta tag n = rsp_bytes solnt delta tag 1 0 0 0 0 4 (0 ∷ 0 ∷ 0 ∷ n ∷ [])

abbrev pub t_logout_lem : ℕ → ℕ → Seen
t_logout_lem solnt reason = message (0x80 ∷ solnt ∷ 0 ∷ 0 ∷ bytes_of 4 reason ++ replicate 8 0)

abbrev pub cred_req_lem : ℕ → ℕ → Seen
cred_req_lem solnt delta = message (0x81 ∷ solnt ∷ 0 ∷ 0 ∷ bytes_of 4 delta ++ bytes_of 8 1)

abbrev pub login_rsp_lem : ℕ → Seen
login_rsp_lem n = message (0xc0 ∷ 0 ∷ 0 ∷ 0 ∷ bytes_of 4 n ++ (bytes_of 8 77 ++ (bytes_of 4 1364 ++ (bytes_of 4 132 ++ (0 ∷ 6 ∷ 0x10 ∷ replicate 25 0)))))

abbrev pub login_rej_lem : ℕ → ℕ → Seen
login_rej_lem reason supported = message (0xc2 ∷ 0 ∷ 0 ∷ 0 ∷ bytes_of 4 reason ++ (bytes_of 8 77 ++ (replicate 8 0 ++ (bytes_of 2 supported ++ replicate 6 0))))

-- ── acts

-- what a listing shows: how many records, and they
abbrev pub listed : List (List ℕ) → Seen
listed rs = records (length rs) rs

abbrev pub takes_in : List ℕ → Act
takes_in s = takes 132 s

-- the tables of command 9
abbrev pub brings_in : List ℕ → Act
brings_in table = brings 132 9 (record { out = []; inn = table })

abbrev pub finish : ℕ → Act
finish tag = finishes 132 tag 0 []

-- a plan of command 9 with data-in alone, and "one move each way, offset 0, count R"
abbrev pub plans_in : ℕ → List Act
plans_in r = plans 9 0 r ∷ names 9 Out 0 0 ∷ names 9 In 0 r ∷ []

abbrev pub steps_in : ℕ → List Act
steps_in zero = []
steps_in (suc k) = steps 9 In ∷ steps_in k

-- ── a row

pub record Row : Type 0 where
  pub acts : List Act
  pub seen : List Seen

abbrev pub found : Row → List Seen
found r = shows closed_port r.acts

abbrev pub expected : Row → List Seen
expected r = r.seen
