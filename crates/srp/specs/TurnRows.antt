-- Document 02, job 8, worked out by hand: turns, beside moves, steps and endings. The rows hold: proofs/TurnRows.antt.
use Rattle.std.specs.Prelude.{List, [], ◌∷◌, ◌++◌, ℕ}
use Rattle.srp.specs.declared.Direction.TheVariants.{Out, In}
use Rattle.srp.specs.Rows.{Act, Row, Seen, accepted, brings_in, cmd_bytes, command, done, finish, idle, logged_out_lem, login_rsp_lem, logs_in_with, names, performed, plans, reads, refused, rsp_code_lem, rsp_good, segment, served, steps, t_logout_lem, tag_only, takes_in, task, tsk_mgmt_lem, turns, waiting, writes}
use Rattle.srp.specs.Table.{from_closed, on_port, direct_in, table, two_entries}

-- commands with 600 bytes of data-in: 8 of LUN 0, 5 of LUN 1; and 9 with 600 bytes each way
abbrev pub eight : List ℕ
eight = cmd_bytes 0 1 0 0 8 0 0 (segment 0x8000 6 600)

abbrev pub five : List ℕ
five = cmd_bytes 0 1 0 0 5 1 0 (segment 0x5000 4 600)

abbrev pub two_way : List ℕ
two_way = cmd_bytes 0 0x11 0 0 9 0 0 (segment 0x1000 7 600 ++ segment 0x2000 7 600)

-- 8 and 5 planned and moved, and their first and last pieces
abbrev pub moves : ℕ → List Act
moves tag = plans tag 0 600 ∷ names tag In 0 600 ∷ []

abbrev pub eight_first : Seen
eight_first = served 8 (writes 6 0x8000 512 0 1)

abbrev pub eight_last : Seen
eight_last = served 8 (writes 6 0x8200 88 512 2)

abbrev pub five_first : Seen
five_first = served 5 (writes 4 0x5000 512 0 1)

abbrev pub five_last : Seen
five_last = served 5 (writes 4 0x5200 88 512 2)

abbrev pub rows : List Row
rows =
    -- idle before any move, and with planned commands; each in its turn, the one named first first, back at the end while pieces remain
    on_port (turns ∷ takes_in direct_in ∷ takes_in eight ∷ plans 9 0 1300 ∷ turns ∷ names 9 In 0 1300 ∷ moves 8 ++ turns ∷ turns ∷ turns ∷ turns ∷ turns ∷ turns ∷ [])
    (idle ∷ command 9 0 16 ∷ command 8 0 16 ∷ performed ∷ idle ∷ performed ∷ performed ∷ performed ∷ served 9 (writes 7 0x1000 512 0 1) ∷ eight_first
    ∷ served 9 (writes 7 0x1200 512 512 2) ∷ eight_last ∷ served 9 (writes 7 0x1400 276 1024 3) ∷ idle ∷ [])
    -- a move named later joins behind one that was put back
    ∷ on_port (takes_in eight ∷ takes_in five ∷ moves 8 ++ turns ∷ moves 5 ++ turns ∷ turns ∷ turns ∷ turns ∷ [])
    (command 8 0 16 ∷ command 5 1 16 ∷ performed ∷ performed ∷ eight_first ∷ performed ∷ performed ∷ eight_last ∷ five_first ∷ five_last ∷ idle ∷ [])
    -- a command's directions are two moves; a single step keeps the place, its last piece gives it up; an empty move has none
    ∷ on_port (takes_in two_way ∷ plans 9 600 600 ∷ names 9 Out 0 600 ∷ names 9 In 0 600 ∷ steps 9 Out ∷ turns ∷ turns ∷ steps 9 In ∷ turns ∷ names 9 In 7 0
    ∷ names 9 Out 600 9 ∷ turns ∷ steps 9 In ∷ takes_in eight ∷ moves 8 ++ turns ∷ [])
    (command 9 0 16 ∷ performed ∷ performed ∷ performed ∷ reads 7 0x1000 512 0 1 ∷ served 9 (reads 7 0x1200 88 512 2) ∷ served 9 (writes 7 0x2000 512 0 1)
    ∷ writes 7 0x2200 88 512 2 ∷ idle ∷ performed ∷ performed ∷ idle ∷ done 0 ∷ command 8 0 16 ∷ performed ∷ performed ∷ eight_first ∷ [])
    -- a step that serves one behind the first; its last piece leaves the others in order
    ∷ on_port (takes_in eight ∷ takes_in two_way ∷ takes_in five ∷ moves 8 ++ plans 9 0 600 ∷ names 9 In 0 600 ∷ moves 5 ++ steps 9 In ∷ steps 9 In ∷ turns ∷ turns ∷ turns ∷ turns ∷ turns ∷ [])
    (command 8 0 16 ∷ command 9 0 16 ∷ command 5 1 16 ∷ performed ∷ performed ∷ performed ∷ performed ∷ performed ∷ performed ∷ writes 7 0x2000 512 0 1
    ∷ writes 7 0x2200 88 512 2 ∷ eight_first ∷ five_first ∷ eight_last ∷ five_last ∷ idle ∷ [])
    -- job 4's number counts turns and steps together, and anew for the next move; 32 lets none in twice
    ∷ on_port (takes_in direct_in ∷ plans 9 0 1300 ∷ names 9 In 0 1300 ∷ names 9 In 0 9 ∷ steps 9 In ∷ turns ∷ steps 9 In ∷ turns ∷ steps 9 In ∷ names 9 In 5 600
    ∷ turns ∷ steps 9 In ∷ turns ∷ steps 9 In ∷ [])
    (command 9 0 16 ∷ performed ∷ performed ∷ refused 32 ∷ writes 7 0x1000 512 0 1 ∷ served 9 (writes 7 0x1200 512 512 2) ∷ writes 7 0x1400 276 1024 3 ∷ idle
    ∷ done 3 ∷ performed ∷ served 9 (writes 7 0x1005 512 5 1) ∷ writes 7 0x1205 88 517 2 ∷ idle ∷ done 2 ∷ [])
    -- an ending takes both moves of its command out, and an abort: 01h, of its own LUN alone; a tag used again has none; 21
    ∷ on_port (takes_in two_way ∷ takes_in eight ∷ plans 9 600 600 ∷ names 9 Out 0 600 ∷ moves 8 ++ names 9 In 0 600 ∷ finish 9 ∷ turns ∷ takes_in (tsk_mgmt_lem 0 7 1 0x01 8) ∷ turns
    ∷ names 8 In 0 600 ∷ takes_in (tsk_mgmt_lem 0 7 0 0x01 8) ∷ turns ∷ takes_in eight ∷ turns ∷ takes_in (tag_only 0x03 9) ∷ turns ∷ [])
    (command 9 0 16 ∷ command 8 0 16 ∷ performed ∷ performed ∷ performed ∷ performed ∷ performed ∷ performed ∷ rsp_good 1 9 0x28 600 600 ∷ eight_first
    ∷ task 7 1 ∷ rsp_code_lem 0 1 7 0 ∷ eight_last ∷ performed ∷ task 7 0 ∷ rsp_code_lem 0 2 7 0 ∷ idle ∷ command 8 0 16 ∷ idle ∷ logged_out_lem ∷ refused 21 ∷ [])
    -- the end of one in the middle, and a reset of LUN 0: the others in order
    ∷ on_port (takes_in two_way ∷ takes_in eight ∷ takes_in five ∷ plans 9 0 600 ∷ names 9 In 0 600 ∷ moves 8 ++ moves 5 ++ finish 8 ∷ turns ∷ turns ∷ turns ∷ turns ∷ turns ∷ [])
    (command 9 0 16 ∷ command 8 0 16 ∷ command 5 1 16 ∷ performed ∷ performed ∷ performed ∷ performed ∷ performed ∷ performed ∷ performed ∷ rsp_good 1 8 0x20 0 600
    ∷ served 9 (writes 7 0x2000 512 0 1) ∷ five_first ∷ served 9 (writes 7 0x2200 88 512 2) ∷ five_last ∷ idle ∷ [])
    ∷ on_port (takes_in two_way ∷ takes_in eight ∷ takes_in five ∷ plans 9 0 600 ∷ names 9 In 0 600 ∷ moves 5 ++ moves 8 ++ turns ∷ takes_in (tsk_mgmt_lem 0 7 0 0x08 0) ∷ turns ∷ turns ∷ turns ∷ [])
    (command 9 0 16 ∷ command 8 0 16 ∷ command 5 1 16 ∷ performed ∷ performed ∷ performed ∷ performed ∷ performed ∷ performed ∷ served 9 (writes 7 0x2000 512 0 1)
    ∷ task 7 0 ∷ rsp_code_lem 0 3 7 0 ∷ five_first ∷ five_last ∷ idle ∷ [])
    -- refusal 10 of tables: a waiting command has no move, and the others stay in order
    ∷ on_port (takes_in eight ∷ takes_in (table 0 32 299 []) ∷ takes_in five ∷ moves 8 ++ moves 5 ++ turns ∷ brings_in two_entries ∷ turns ∷ turns ∷ turns ∷ turns ∷ [])
    (command 8 0 16 ∷ waiting 9 0 16 ∷ command 5 1 16 ∷ performed ∷ performed ∷ performed ∷ performed ∷ eight_first ∷ refused 10 ∷ rsp_code_lem 0 1 9 2 ∷ five_first
    ∷ eight_last ∷ five_last ∷ idle ∷ [])
    -- a hang-up takes all out; 21
    ∷ from_closed (turns ∷ logs_in_with 4 0 ∷ takes_in eight ∷ moves 8 ++ takes_in eight ∷ turns ∷ logs_in_with 4 0 ∷ takes_in eight ∷ plans 8 0 600 ∷ turns ∷ [])
    (refused 21 ∷ accepted ∷ login_rsp_lem 4 ∷ command 8 0 16 ∷ performed ∷ performed ∷ refused 23 ∷ t_logout_lem 0 0 ∷ refused 21 ∷ accepted ∷ login_rsp_lem 4 ∷ command 8 0 16
    ∷ performed ∷ idle ∷ [])
    ∷ []
