-- Document 01, "Bench rows": P1 to P10 of the definitions, and further rows that guard each definition, as one table. They hold jointly:
-- proofs/Bench.antt.
use Rattle.std.specs.Prelude.{true, List, [], ◌∷◌, ◌++◌, ℕ, pos, negsuc, take, replicate}
use Rattle.srp.specs.Bytes.{bytes_of}
use Rattle.srp.specs.declared.Direction.TheVariants.{Out, In}
use Rattle.srp.specs.Take.{no_tables}
use Rattle.srp.specs.Rows.{Act, Row, Seen, accepted, adds, brings, brings_in, cred_req_lem, tag_only, t_logout_lem, closes, cmd_bytes, rsp_code_lem, command, counters, counts, done, finish, finishes, rsp_good, grants, listed, lists, logged_out_lem, login_req_lem, logs_in, names, no_data_lem, logs_in_with, own, performed, plans, plans_in, reads, refused, rsp_bytes, segment, settings, settled, steps, steps_in, takes, takes_in, task, tsk_mgmt_lem, login_rsp_lem, waiting, withdraws, writes}

-- a row on a port that a login with 4 buffers opened
abbrev pub on_port : List Act → List Seen → Row
on_port acts ss = record { acts = logs_in_with 4 0 ∷ acts; seen = accepted ∷ login_rsp_lem 4 ∷ ss }

-- one message on such a port
abbrev pub on_message : List ℕ → List Seen → Row
on_message s ss = on_port (takes_in s ∷ []) ss

-- and a row without a port
abbrev pub from_closed : List Act → List Seen → Row
from_closed acts ss = record { acts = acts; seen = ss }

abbrev pub direct_in : List ℕ
direct_in = cmd_bytes 0 1 0 0 9 0 0 (segment 0x1000 7 1300)

abbrev pub entries : List ℕ
entries = segment 0x2000 7 0 ++ segment 0x3000 7 600 ++ segment 0x5000 7 100

-- an indirect data-in descriptor of a table with its length, its total and the copies in the message
abbrev pub table : ℕ → ℕ → ℕ → List ℕ → List ℕ
table c n total copied = cmd_bytes 0 2 0 c 9 0 0 (segment 0x9000 5 n ++ bytes_of 4 total ++ copied)

abbrev pub in700 : Act
in700 = takes_in (table 3 48 700 entries)

-- the first two pieces of that table
abbrev pub first_two : List Seen
first_two = writes 7 0x3000 512 0 1 ∷ writes 7 0x3200 88 512 2 ∷ []

-- a table of two entries
abbrev pub two_entries : List ℕ
two_entries = segment 0x2000 7 100 ++ segment 0x4000 7 200

abbrev pub bench : List Row
bench =
    -- P1
    on_port (takes_in direct_in ∷ plans_in 1300 ++ steps_in 4)
    (command 9 0 16 ∷ performed ∷ performed ∷ performed ∷ writes 7 0x1000 512 0 1 ∷ writes 7 0x1200 512 512 2 ∷ writes 7 0x1400 276 1024 3 ∷ done 3 ∷ [])
    -- P2
    ∷ on_port (in700 ∷ plans_in 700 ++ steps_in 4) (command 9 0 16 ∷ performed ∷ performed ∷ performed ∷ first_two ++ (writes 7 0x5000 100 600 3 ∷ done 3 ∷ []))
    -- P3
    ∷ on_port (in700 ∷ plans_in 650 ++ steps_in 4 ++ (finish 9 ∷ []))
    (command 9 0 16 ∷ performed ∷ performed ∷ performed ∷ first_two ++ (writes 7 0x5000 50 600 3 ∷ done 3 ∷ performed ∷ rsp_good 1 9 0x20 0 50 ∷ []))
    -- P4
    ∷ on_port (in700 ∷ plans_in 800 ++ steps_in 4 ++ (finish 9 ∷ []))
    (command 9 0 16 ∷ performed ∷ performed ∷ performed ∷ first_two ++ (writes 7 0x5000 100 600 3 ∷ done 3 ∷ performed ∷ rsp_good 1 9 0x10 0 100 ∷ []))
    -- P5
    ∷ on_message (no_data_lem 9) (command 9 0 16 ∷ [])
    ∷ on_message (take 47 (no_data_lem 9)) (refused 3 ∷ t_logout_lem 0 0 ∷ [])
    -- P6
    ∷ on_message (cmd_bytes 0 0 0 0 9 0 7 (replicate 4 0)) (command 9 0 20 ∷ [])
    ∷ on_message (cmd_bytes 0 0 0 0 9 0 7 []) (refused 3 ∷ t_logout_lem 0 0 ∷ [])
    -- P7
    ∷ on_port (takes_in (table 0 32 300 []) ∷ brings_in two_entries ∷ plans_in 300 ++ steps_in 3)
    (waiting 9 0 16 ∷ performed ∷ performed ∷ performed ∷ performed ∷ writes 7 0x2000 100 0 1 ∷ writes 7 0x4000 200 100 2 ∷ done 2 ∷ [])
    ∷ on_port (takes_in (table 2 32 300 two_entries) ∷ plans_in 300 ++ steps_in 3)
    (command 9 0 16 ∷ performed ∷ performed ∷ performed ∷ writes 7 0x2000 100 0 1 ∷ writes 7 0x4000 200 100 2 ∷ done 2 ∷ [])
    -- P8, P9, P10
    ∷ on_port (takes_in (no_data_lem 1) ∷ takes_in (no_data_lem 2) ∷ withdraws 3 ∷ counts ∷ finish 1 ∷ finish 2 ∷ counts
    ∷ takes_in (no_data_lem 3) ∷ finish 3 ∷ takes_in (no_data_lem 4) ∷ finish 4 ∷ [])
    (command 1 0 16 ∷ command 2 0 16 ∷ performed ∷ counters 1 2 2 (negsuc 2) ∷ performed ∷ rsp_good 0 1 0 0 0 ∷ performed ∷ rsp_good 0 2 0 0 0
    ∷ counters 1 2 0 (negsuc 0) ∷ command 3 0 16 ∷ performed ∷ rsp_good 0 3 0 0 0 ∷ command 4 0 16 ∷ performed ∷ rsp_good 1 4 0 0 0 ∷ [])
    ∷ []

-- ── task management

-- two commands of LUN 0 and one of LUN 5, all open
abbrev pub three_open : List Act
three_open = takes_in (no_data_lem 1) ∷ takes_in (no_data_lem 2) ∷ takes_in (cmd_bytes 0 0 0 0 3 5 0 []) ∷ []

abbrev pub three_taken : List Seen
three_taken = command 1 0 16 ∷ command 2 0 16 ∷ command 3 5 16 ∷ []

-- a task request on that port; its RSP_CODE and delta, and the commands left open
abbrev pub tasked : List ℕ → ℕ → ℕ → ℕ → ℕ → List (List ℕ) → Row
tasked s tag lun n delta left =
    on_port (three_open ++ (takes_in s ∷ lists 16 ∷ [])) (three_taken ++ (task tag lun ∷ rsp_code_lem 0 delta tag n ∷ listed left ∷ []))

-- a function that is none of document 01's: nothing is aborted
abbrev pub others : ℕ → Row
others function = tasked (tsk_mgmt_lem 0 9 0 function 1) 9 0 2 1 ((1 ∷ 0 ∷ 0 ∷ 0 ∷ []) ∷ (2 ∷ 0 ∷ 0 ∷ 0 ∷ []) ∷ (3 ∷ 5 ∷ 0 ∷ 0 ∷ []) ∷ [])

abbrev pub tasks : List Row
tasks =
    tasked (tsk_mgmt_lem 0 9 0 0x01 2) 9 0 0 2 ((1 ∷ 0 ∷ 0 ∷ 0 ∷ []) ∷ (3 ∷ 5 ∷ 0 ∷ 0 ∷ []) ∷ [])
    ∷ tasked (tsk_mgmt_lem 0 9 5 0x01 2) 9 5 0 1 ((1 ∷ 0 ∷ 0 ∷ 0 ∷ []) ∷ (2 ∷ 0 ∷ 0 ∷ 0 ∷ []) ∷ (3 ∷ 5 ∷ 0 ∷ 0 ∷ []) ∷ [])
    ∷ tasked (tsk_mgmt_lem 0 9 0 0x01 4) 9 0 0 1 ((1 ∷ 0 ∷ 0 ∷ 0 ∷ []) ∷ (2 ∷ 0 ∷ 0 ∷ 0 ∷ []) ∷ (3 ∷ 5 ∷ 0 ∷ 0 ∷ []) ∷ [])
    ∷ tasked (tsk_mgmt_lem 0 9 0 0x02 0) 9 0 0 3 ((3 ∷ 5 ∷ 0 ∷ 0 ∷ []) ∷ [])
    ∷ tasked (tsk_mgmt_lem 0 9 5 0x04 0) 9 5 0 2 ((1 ∷ 0 ∷ 0 ∷ 0 ∷ []) ∷ (2 ∷ 0 ∷ 0 ∷ 0 ∷ []) ∷ [])
    ∷ tasked (tsk_mgmt_lem 0 9 0 0x08 0) 9 0 0 3 ((3 ∷ 5 ∷ 0 ∷ 0 ∷ []) ∷ [])
    ∷ tasked (tsk_mgmt_lem 0 9 0 0x40 1) 9 0 4 1 ((1 ∷ 0 ∷ 0 ∷ 0 ∷ []) ∷ (2 ∷ 0 ∷ 0 ∷ 0 ∷ []) ∷ (3 ∷ 5 ∷ 0 ∷ 0 ∷ []) ∷ [])
    ∷ tasked (tsk_mgmt_lem 0 9 0 0x03 1) 9 0 2 1 ((1 ∷ 0 ∷ 0 ∷ 0 ∷ []) ∷ (2 ∷ 0 ∷ 0 ∷ 0 ∷ []) ∷ (3 ∷ 5 ∷ 0 ∷ 0 ∷ []) ∷ [])
    ∷ others 0x05
    ∷ others 0x10
    ∷ others 0x20
    ∷ others 0x41
    ∷ others 0xff
    ∷ tasked (tsk_mgmt_lem 0 9 0 0x00 1) 9 0 2 1 ((1 ∷ 0 ∷ 0 ∷ 0 ∷ []) ∷ (2 ∷ 0 ∷ 0 ∷ 0 ∷ []) ∷ (3 ∷ 5 ∷ 0 ∷ 0 ∷ []) ∷ [])
    -- SOLNT: SCSOLNT with RSP_CODE 00h, UCSOLNT with another
    ∷ on_message (tsk_mgmt_lem 2 9 0 0x02 0) (task 9 0 ∷ rsp_code_lem 1 1 9 0 ∷ [])
    ∷ on_message (tsk_mgmt_lem 4 9 0 0x02 0) (task 9 0 ∷ rsp_code_lem 0 1 9 0 ∷ [])
    ∷ on_message (tsk_mgmt_lem 4 9 0 0x40 0) (task 9 0 ∷ rsp_code_lem 1 1 9 4 ∷ [])
    ∷ on_message (tsk_mgmt_lem 2 9 0 0x40 0) (task 9 0 ∷ rsp_code_lem 0 1 9 4 ∷ [])
    -- its own tag is open
    ∷ on_port (three_open ++ (takes_in (tsk_mgmt_lem 0 2 0 0x01 2) ∷ counts ∷ [])) (three_taken ++ (refused 23 ∷ t_logout_lem 0 0 ∷ refused 21 ∷ []))
    ∷ []

-- ── descriptors and segments

-- a command that draws 10, and the port after it
abbrev pub bad_fields : List ℕ → Row
bad_fields s = on_port (takes_in s ∷ lists 16 ∷ counts ∷ []) (refused 10 ∷ rsp_code_lem 0 1 9 2 ∷ listed [] ∷ counters 4 4 0 (pos 0) ∷ [])

-- one that waits, and whose tables draw 10; it is held until then
abbrev pub bad_tables_lem : List ℕ → List ℕ → Row
bad_tables_lem s entries-in =
    on_port (takes_in s ∷ lists 16 ∷ counts ∷ brings_in entries-in ∷ lists 16 ∷ counts ∷ brings_in entries-in ∷ [])
    (waiting 9 0 16 ∷ listed ((9 ∷ 0 ∷ 0 ∷ 0 ∷ []) ∷ []) ∷ counters 4 3 1 (pos 0) ∷ refused 10 ∷ rsp_code_lem 0 1 9 2 ∷ listed [] ∷ counters 4 4 0 (pos 0) ∷ refused 24 ∷ [])

abbrev pub fields : List Row
fields =
    -- both directions: out direct, by RDMA Reads; in from the fetched table, by RDMA Writes
    on_port (takes_in (cmd_bytes 0 0x12 0 1 9 0 0 (segment 0x1000 7 700 ++ (segment 0x9000 5 32 ++ bytes_of 4 300 ++ take 16 two_entries)))
    ∷ brings_in two_entries ∷ plans 9 700 250 ∷ names 9 Out 0 700 ∷ names 9 In 0 250 ∷ steps 9 Out ∷ steps 9 In ∷ steps 9 Out ∷ steps 9 In
    ∷ steps 9 Out ∷ lists 16 ∷ finish 9 ∷ [])
    (waiting 9 0 16 ∷ performed ∷ performed ∷ performed ∷ performed ∷ reads 7 0x1000 512 0 1 ∷ writes 7 0x2000 100 0 1 ∷ reads 7 0x1200 188 512 2 ∷ writes 7 0x4000 150 100 2 ∷ done 2
    ∷ listed ((9 ∷ 0 ∷ 700 ∷ 250 ∷ []) ∷ []) ∷ performed ∷ rsp_good 1 9 0x20 0 50 ∷ [])
    -- a last piece of one byte
    ∷ on_port (takes_in (cmd_bytes 0 1 0 0 9 0 0 (segment 0x1000 7 513)) ∷ plans_in 513 ++ steps_in 3)
    (command 9 0 16 ∷ performed ∷ performed ∷ performed ∷ writes 7 0x1000 512 0 1 ∷ writes 7 0x1200 1 512 2 ∷ done 2 ∷ [])
    -- address + length = 2^64 is fine, one more is not
    ∷ on_message (cmd_bytes 0 1 0 0 9 0 0 (segment 0xffffffffffffff00 7 256)) (command 9 0 16 ∷ [])
    ∷ bad_fields (cmd_bytes 0 1 0 0 9 0 0 (segment 0xffffffffffffff00 7 257))
    -- the table's length; a copy unlike its entry; the total
    ∷ bad_fields (table 0 0 0 [])
    ∷ bad_fields (table 1 24 100 (take 16 two_entries))
    ∷ bad_fields (table 0 528 0 [])
    ∷ bad_tables_lem (table 1 32 300 (segment 0x2000 7 101)) two_entries
    ∷ bad_tables_lem (table 1 48 700 (segment 0x2000 8 0)) entries
    ∷ bad_tables_lem (table 2 48 700 (take 16 entries ++ segment 0x3001 7 600)) entries
    ∷ bad_fields (table 2 32 301 two_entries)
    ∷ bad_tables_lem (table 0 32 299 []) two_entries
    -- UCSOLNT of a command that draws 10
    ∷ on_message (cmd_bytes 4 1 0 0 9 0 0 (segment 0xffffffffffffff00 7 257)) (refused 10 ∷ rsp_code_lem 1 1 9 2 ∷ [])
    ∷ on_message (cmd_bytes 2 1 0 0 9 0 0 (segment 0xffffffffffffff00 7 257)) (refused 10 ∷ rsp_code_lem 0 1 9 2 ∷ [])
    ∷ []

-- ── take's refusals: hang_ups and their reasons

abbrev pub hang_ups : List Row
hang_ups =
    on_message [] (refused 3 ∷ t_logout_lem 0 0 ∷ [])
    ∷ on_message (take 15 (tag_only 0x03 1)) (refused 3 ∷ t_logout_lem 0 0 ∷ [])
    ∷ on_message (0xff ∷ replicate 1364 0) (refused 3 ∷ t_logout_lem 0 0 ∷ [])
    ∷ on_message (tag_only 0x42 1) (refused 4 ∷ t_logout_lem 0 0 ∷ [])
    ∷ on_message (login_req_lem 1364 6 0 own) (refused 4 ∷ t_logout_lem 0 0 ∷ [])
    ∷ on_message (cmd_bytes 0 0x30 0 0 9 0 0 []) (refused 5 ∷ t_logout_lem 0 6 ∷ [])
    ∷ on_message (cmd_bytes 0 0x03 0 0 9 0 0 []) (refused 6 ∷ t_logout_lem 0 7 ∷ [])
    ∷ on_message (cmd_bytes 0 0x33 0 0 9 0 0 []) (refused 5 ∷ t_logout_lem 0 6 ∷ [])
    ∷ on_message (cmd_bytes 0 0x20 33 0 9 0 0 (segment 0 0 512 ++ bytes_of 4 0 ++ replicate 528 0)) (refused 7 ∷ t_logout_lem 0 8 ∷ [])
    ∷ on_message (cmd_bytes 0 0x02 0 2 9 0 0 (segment 0 0 24 ++ bytes_of 4 0 ++ replicate 32 0)) (refused 8 ∷ t_logout_lem 0 9 ∷ [])
    ∷ on_message (cmd_bytes 0 0x20 33 0 9 0 0 (segment 0 0 528 ++ bytes_of 4 0 ++ replicate 528 0)) (refused 7 ∷ t_logout_lem 0 8 ∷ [])
    ∷ on_message (cmd_bytes 0 0x02 0 33 9 0 0 (segment 0 0 528 ++ bytes_of 4 0 ++ replicate 528 0)) (refused 8 ∷ t_logout_lem 0 9 ∷ [])
    ∷ on_message (tsk_mgmt_lem 0 9 0 1 0 ++ (0 ∷ [])) (refused 3 ∷ t_logout_lem 0 0 ∷ [])
    ∷ on_message (tag_only 0x03 1 ++ (0 ∷ [])) (refused 3 ∷ t_logout_lem 0 0 ∷ [])
    ∷ on_message (tag_only 0x41 1 ++ (0 ∷ [])) (refused 3 ∷ t_logout_lem 0 0 ∷ [])
    ∷ on_message (tag_only 0x41 1) (refused 25 ∷ t_logout_lem 0 0 ∷ [])
    -- 22, before 23; the task too
    ∷ from_closed (logs_in_with 1 0x10 ∷ takes_in (no_data_lem 1) ∷ takes_in (no_data_lem 1) ∷ []) (accepted ∷ login_rsp_lem 1 ∷ command 1 0 16 ∷ refused 22 ∷ t_logout_lem 1 0 ∷ [])
    ∷ from_closed (logs_in_with 1 0 ∷ takes_in (no_data_lem 1) ∷ takes_in (tsk_mgmt_lem 0 1 0 1 0) ∷ []) (accepted ∷ login_rsp_lem 1 ∷ command 1 0 16 ∷ refused 22 ∷ t_logout_lem 0 0 ∷ [])
    -- 23, before 10
    ∷ on_port (takes_in (no_data_lem 9) ∷ takes_in (table 0 0 0 []) ∷ lists 16 ∷ []) (command 9 0 16 ∷ refused 23 ∷ t_logout_lem 0 0 ∷ refused 21 ∷ [])
    -- formats that the login did not require
    ∷ from_closed (logs_in (settings 4 512 0 1364 true true) 132 (login_req_lem 1364 2 0 own) ∷ takes_in (table 0 32 300 []) ∷ [])
    (accepted ∷ login_rsp_lem 4 ∷ refused 6 ∷ t_logout_lem 0 7 ∷ [])
    -- the initiator's logout
    ∷ on_port (takes_in (no_data_lem 1) ∷ takes_in (tag_only 0x03 9) ∷ counts ∷ []) (command 1 0 16 ∷ logged_out_lem ∷ refused 21 ∷ [])
    -- 1 and 21 alter nothing
    ∷ on_port (takes 131 (no_data_lem 1) ∷ counts ∷ []) (refused 1 ∷ counters 4 4 0 (pos 0) ∷ [])
    ∷ from_closed (takes 131 (no_data_lem 1) ∷ takes_in (no_data_lem 1) ∷ []) (refused 1 ∷ refused 21 ∷ [])
    ∷ []

-- ── the other calls

abbrev pub calls : List Row
calls =
    -- grant: CRSOLNT, the delta, 26, 27, its answer, another tag
    from_closed (logs_in_with 4 0x20 ∷ grants 132 ∷ adds 3 ∷ grants 131 ∷ grants 132 ∷ counts ∷ adds 1 ∷ grants 132 ∷ takes_in (tag_only 0x41 1) ∷ counts ∷ grants 132 ∷ takes_in (tag_only 0x41 2) ∷ [])
    (accepted ∷ login_rsp_lem 4 ∷ refused 27 ∷ performed ∷ refused 1 ∷ performed ∷ cred_req_lem 1 3 ∷ counters 7 7 0 (pos 0) ∷ performed ∷ refused 26 ∷ settled ∷ counters 8 7 0 (pos 1)
    ∷ performed ∷ cred_req_lem 1 1 ∷ refused 25 ∷ t_logout_lem 0 0 ∷ [])
    -- add and withdraw
    ∷ on_port (adds 0 ∷ adds 13 ∷ adds 12 ∷ withdraws 0 ∷ withdraws 16 ∷ withdraws 15 ∷ counts ∷ [])
    (refused 11 ∷ refused 28 ∷ performed ∷ refused 11 ∷ refused 28 ∷ performed ∷ counters 1 4 0 (negsuc 2) ∷ [])
    -- plan, move and step; "Plan alone starts none: step says done"
    ∷ on_port (plans 9 0 0 ∷ names 9 In 1 0 ∷ steps 9 In ∷ takes_in direct_in ∷ names 9 In 1 0 ∷ steps 9 In ∷ plans 9 0 100 ∷ plans 9 0 100 ∷ steps 9 Out
    ∷ steps 9 In ∷ names 9 In 0 200 ∷ steps 9 In ∷ steps 9 In ∷ [])
    (refused 24 ∷ refused 24 ∷ refused 24 ∷ command 9 0 16 ∷ refused 29 ∷ refused 29 ∷ performed ∷ refused 30 ∷ done 0 ∷ done 0 ∷ performed
    ∷ writes 7 0x1000 100 0 1 ∷ done 1 ∷ [])
    -- the middle first, then the start; M counts from a move's own offset; the listing and the residual take h; 31 before 32, and 32 until the last piece
    ∷ on_port (in700 ∷ plans 9 0 650 ∷ names 9 In 651 0 ∷ names 9 In 300 310 ∷ steps 9 In ∷ lists 16 ∷ names 9 In 651 0 ∷ names 9 In 0 300
    ∷ names 9 Out 0 9 ∷ steps 9 Out ∷ steps 9 In ∷ lists 16
    ∷ names 9 In 0 300 ∷ steps 9 In ∷ steps 9 In ∷ lists 16 ∷ finish 9 ∷ [])
    (command 9 0 16 ∷ performed ∷ refused 31 ∷ performed ∷ writes 7 0x312c 300 300 1 ∷ listed ((9 ∷ 0 ∷ 0 ∷ 600 ∷ []) ∷ []) ∷ refused 31 ∷ refused 32
    ∷ performed ∷ done 0 ∷ writes 7 0x5000 10 600 2
    ∷ listed ((9 ∷ 0 ∷ 0 ∷ 610 ∷ []) ∷ []) ∷ performed ∷ writes 7 0x3000 300 0 1 ∷ done 1 ∷ listed ((9 ∷ 0 ∷ 0 ∷ 610 ∷ []) ∷ []) ∷ performed
    ∷ rsp_good 1 9 0x20 0 90 ∷ [])
    -- empty moves: count 0, and an offset of min(R, B); a move may repeat bytes
    ∷ on_port (in700 ∷ plans 9 0 650 ∷ names 9 In 7 0 ∷ steps 9 In ∷ names 9 In 650 9 ∷ steps 9 In ∷ lists 16 ∷ names 9 In 640 99 ∷ steps 9 In ∷ steps 9 In
    ∷ names 9 In 645 99 ∷ steps 9 In ∷ lists 16 ∷ [])
    (command 9 0 16 ∷ performed ∷ performed ∷ done 0 ∷ performed ∷ done 0 ∷ listed ((9 ∷ 0 ∷ 0 ∷ 0 ∷ []) ∷ []) ∷ performed ∷ writes 7 0x5028 10 640 1 ∷ done 1
    ∷ performed ∷ writes 7 0x502d 5 645 1
    ∷ listed ((9 ∷ 0 ∷ 0 ∷ 650 ∷ []) ∷ []) ∷ [])
    -- a sum of offset and count above 2^32 is trimmed, and does not wrap; an unfinished move of data-in stops none of data-out
    ∷ on_port (in700 ∷ plans 9 5 650 ∷ names 9 In 649 0xffffffff ∷ names 9 Out 0 5 ∷ names 9 Out 1 0 ∷ names 9 In 649 0 ∷ steps 9 In ∷ steps 9 In ∷ [])
    (command 9 0 16 ∷ performed ∷ performed ∷ performed ∷ refused 31 ∷ refused 32 ∷ writes 7 0x5031 1 649 1 ∷ done 1 ∷ [])
    -- finish: 1, 11, 24, then sense, UCSOLNT by the status, DOUNDER without a plan
    ∷ on_port (takes_in (cmd_bytes 4 0x10 0 0 9 0 0 (segment 0x1000 7 1300)) ∷ finishes 131 9 0 [] ∷ finishes 132 9 0 (1 ∷ []) ∷ finishes 132 9 2 (replicate 97 1) ∷ finish 8
    ∷ finishes 132 9 2 (0x70 ∷ 0x71 ∷ []) ∷ finish 9 ∷ [])
    (command 9 0 16 ∷ refused 1 ∷ refused 11 ∷ refused 11 ∷ refused 24 ∷ performed ∷ rsp_bytes 1 1 9 0x0a 2 1300 0 2 0 (0x70 ∷ 0x71 ∷ []) ∷ refused 24 ∷ [])
    -- SCSOLNT with status 0; DOOVER has R - B
    ∷ on_port (takes_in (cmd_bytes 2 0x10 0 0 9 0 0 (segment 0x1000 7 1300)) ∷ plans 9 1400 0 ∷ names 9 Out 0 1400 ∷ steps 9 Out ∷ finish 9 ∷ [])
    (command 9 0 16 ∷ performed ∷ performed ∷ reads 7 0x1000 512 0 1 ∷ performed ∷ rsp_bytes 1 1 9 0x04 0 100 0 0 0 [] ∷ [])
    -- a status other than 02h, with no sense; UCSOLNT not set
    ∷ on_port (takes_in (cmd_bytes 2 0 0 0 9 0 0 []) ∷ finishes 132 9 8 [] ∷ []) (command 9 0 16 ∷ performed ∷ rsp_bytes 0 1 9 0 8 0 0 0 0 [] ∷ [])
    -- the longest sense
    ∷ on_port (takes_in (no_data_lem 9) ∷ finishes 132 9 2 (replicate 96 0x55) ∷ []) (command 9 0 16 ∷ performed ∷ rsp_bytes 0 1 9 0x02 2 0 0 96 0 (replicate 96 0x55) ∷ [])
    -- 1 before 21
    ∷ from_closed (finishes 131 1 0 [] ∷ grants 131 ∷ closes 131 0 ∷ []) (refused 1 ∷ refused 1 ∷ refused 1 ∷ [])
    -- close, and every call on a closed port
    ∷ from_closed (logs_in_with 4 0x10 ∷ closes 131 5 ∷ closes 132 0x01020304 ∷ takes_in (no_data_lem 1) ∷ brings 132 1 no_tables ∷ plans 1 0 0 ∷ names 1 In 0 0
    ∷ steps 1 In ∷ finish 1 ∷ adds 0 ∷ withdraws 0 ∷ grants 132 ∷ closes 132 0 ∷ counts ∷ lists 0 ∷ [])
    (accepted ∷ login_rsp_lem 4 ∷ refused 1 ∷ performed ∷ t_logout_lem 1 0x01020304 ∷ refused 21 ∷ refused 21 ∷ refused 21 ∷ refused 21 ∷ refused 21 ∷ refused 21
    ∷ refused 21 ∷ refused 21 ∷ refused 21 ∷ refused 21 ∷ refused 21 ∷ refused 21 ∷ [])
    -- listing
    -- the oldest first, by age and not by tag; one in the middle ends and the others keep their order; "A tag used again counts as taken anew"
    ∷ on_port (takes_in (no_data_lem 3) ∷ takes_in (no_data_lem 1) ∷ takes_in (no_data_lem 2) ∷ lists 16 ∷ finish 1 ∷ lists 16 ∷ finish 3 ∷ takes_in (no_data_lem 1)
    ∷ takes_in (no_data_lem 3) ∷ lists 16 ∷ [])
    (command 3 0 16 ∷ command 1 0 16 ∷ command 2 0 16 ∷ listed ((3 ∷ 0 ∷ 0 ∷ 0 ∷ []) ∷ (1 ∷ 0 ∷ 0 ∷ 0 ∷ []) ∷ (2 ∷ 0 ∷ 0 ∷ 0 ∷ []) ∷ [])
    ∷ performed ∷ rsp_good 1 1 0 0 0 ∷ listed ((3 ∷ 0 ∷ 0 ∷ 0 ∷ []) ∷ (2 ∷ 0 ∷ 0 ∷ 0 ∷ []) ∷ []) ∷ performed ∷ rsp_good 1 3 0 0 0
    ∷ command 1 0 16 ∷ command 3 0 16 ∷ listed ((2 ∷ 0 ∷ 0 ∷ 0 ∷ []) ∷ (1 ∷ 0 ∷ 0 ∷ 0 ∷ []) ∷ (3 ∷ 0 ∷ 0 ∷ 0 ∷ []) ∷ []) ∷ [])
    ∷ on_port (takes_in direct_in ∷ takes_in (no_data_lem 2) ∷ plans 9 0 1300 ∷ names 9 In 0 1300 ∷ steps 9 In ∷ lists 15 ∷ lists 16 ∷ [])
    (command 9 0 16 ∷ command 2 0 16 ∷ performed ∷ performed ∷ writes 7 0x1000 512 0 1 ∷ refused 11 ∷ listed ((9 ∷ 0 ∷ 0 ∷ 512 ∷ []) ∷ (2 ∷ 0 ∷ 0 ∷ 0 ∷ [])
    ∷ []) ∷ [])
    ∷ []
