-- Document 02, job 7, worked out by hand: commands that wait for their tables. They are a part of the table of specs/FurtherRows.antt, and hold:
-- proofs/Bench.antt.
use Rattle.std.specs.Prelude.{List, [], ◌∷◌, ◌++◌, ℕ, pos, take}
use Rattle.srp.specs.Bytes.{bytes_of}
use Rattle.srp.specs.Take.{Tables, no_tables}
use Rattle.srp.specs.declared.Direction.TheVariants.{Out, In}
use Rattle.srp.specs.Rows.{Act, Row, brings, brings_in, cmd_bytes, command, counters, counts, done, finish, finishes, listed, lists, logged_out_lem, names, no_data_lem, performed, plans, reads, refused, rsp_code_lem, rsp_good, segment, steps, t_logout_lem, tag_only, takes_in, task, tsk_mgmt_lem, waiting, writes}
use Rattle.srp.specs.Table.{on_port, direct_in, table, two_entries}

-- tables for data-out and data-in
abbrev pub both_tables : List ℕ → List ℕ → Tables
both_tables out inn = record { out = out; inn = inn }

-- a command of data-in alone that waits for two_entries, and its tag's record
abbrev pub one_waits : Act
one_waits = takes_in (table 0 32 300 [])

abbrev pub nine : List (List ℕ)
nine = (9 ∷ 0 ∷ 0 ∷ 0 ∷ []) ∷ []

-- a table descriptor of n bytes with a total and no copies
abbrev pub tabled : ℕ → ℕ → List ℕ
tabled n total = segment 0x9000 5 n ++ bytes_of 4 total

abbrev pub waitings : List Row
waitings =
    -- tables: 1, 24, 33, then 9 for tables not of F bytes, in either direction, ahead of 10, as often as they come, and the command waits on; its tag is open
    on_port (brings 131 9 no_tables ∷ brings 132 9 no_tables ∷ takes_in direct_in ∷ brings 132 9 no_tables ∷ finish 9 ∷ takes_in (table 0 32 299 [])
    ∷ brings 131 9 no_tables ∷ brings 132 9 no_tables ∷ brings_in (take 16 two_entries) ∷ brings 132 9 (both_tables two_entries two_entries) ∷ counts
    ∷ lists 16 ∷ takes_in (no_data_lem 9) ∷ [])
    (refused 1 ∷ refused 24 ∷ command 9 0 16 ∷ refused 33 ∷ performed ∷ rsp_good 1 9 0x20 0 1300 ∷ waiting 9 0 16
    ∷ refused 1 ∷ refused 9 ∷ refused 9 ∷ refused 9 ∷ counters 4 3 1 (pos 0) ∷ listed nine ∷ refused 23 ∷ t_logout_lem 0 0 ∷ [])
    -- brought twice: 33, before their length; a planned one likewise
    ∷ on_port (one_waits ∷ brings_in two_entries ∷ brings_in [] ∷ plans 9 0 300 ∷ brings_in two_entries ∷ lists 16 ∷ [])
    (waiting 9 0 16 ∷ performed ∷ refused 33 ∷ performed ∷ refused 33 ∷ listed nine ∷ [])
    -- 33 directly after 24: ahead of 29 to 32, in finish behind 11 and 24; it alters nothing
    ∷ on_port (one_waits ∷ plans 9 0 300 ∷ names 9 In 0 300 ∷ steps 9 In ∷ finishes 132 9 0 (1 ∷ []) ∷ finish 8 ∷ finish 9 ∷ brings_in two_entries
    ∷ steps 9 In ∷ finish 9 ∷ [])
    (waiting 9 0 16 ∷ refused 33 ∷ refused 33 ∷ refused 33 ∷ refused 11 ∷ refused 24 ∷ refused 33 ∷ performed ∷ refused 29 ∷ performed
    ∷ rsp_good 1 9 0x20 0 300 ∷ [])
    -- with a fetch named in one direction the other's bad fields too are drawn by tables: a direct descriptor past 2^64, a table's length; SOLNT by UCSOLNT
    ∷ on_port (takes_in (cmd_bytes 4 0x12 0 0 9 0 0 (segment 0xffffffffffffff00 7 257 ++ tabled 32 300)) ∷ brings_in two_entries ∷ [])
    (waiting 9 0 16 ∷ refused 10 ∷ rsp_code_lem 1 1 9 2 ∷ [])
    ∷ on_port (takes_in (cmd_bytes 2 0x22 0 0 9 0 0 (tabled 24 0 ++ tabled 32 300)) ∷ brings_in two_entries ∷ []) (waiting 9 0 16 ∷ refused 10 ∷ rsp_code_lem 0 1 9 2 ∷ [])
    -- a fetch each way: the one's table for the other's is seen by its length, and else by its total; out alone
    ∷ on_port (takes_in (cmd_bytes 0 0x22 0 0 9 0 0 (tabled 16 100 ++ tabled 32 300)) ∷ brings 132 9 (both_tables two_entries (take 16 two_entries))
    ∷ brings 132 9 (both_tables (take 16 two_entries) two_entries) ∷ plans 9 100 300 ∷ names 9 Out 0 100 ∷ steps 9 Out ∷ names 9 In 0 300 ∷ steps 9 In ∷ [])
    (waiting 9 0 16 ∷ refused 9 ∷ performed ∷ performed ∷ performed ∷ reads 7 0x2000 100 0 1 ∷ performed ∷ writes 7 0x2000 100 0 1 ∷ [])
    ∷ on_port (takes_in (cmd_bytes 0 0x22 0 0 9 0 0 (tabled 32 300 ++ tabled 32 40)) ∷ brings 132 9 (both_tables (segment 0 1 40 ++ segment 0 1 0) two_entries) ∷ [])
    (waiting 9 0 16 ∷ refused 10 ∷ rsp_code_lem 0 1 9 2 ∷ [])
    ∷ on_port (takes_in (cmd_bytes 0 0x20 0 0 9 0 0 (tabled 32 300)) ∷ brings_in two_entries ∷ brings 132 9 (both_tables two_entries []) ∷ plans 9 300 0 ∷ names 9 Out 0 300 ∷ steps 9 Out ∷ [])
    (waiting 9 0 16 ∷ refused 9 ∷ performed ∷ performed ∷ performed ∷ reads 7 0x2000 100 0 1 ∷ [])
    -- later messages need not stand still; each command gets its own tables, in any order, and keeps its age
    ∷ on_port (one_waits ∷ takes_in (no_data_lem 2) ∷ takes_in (cmd_bytes 0 0x02 0 0 3 0 0 (tabled 16 100)) ∷ lists 16 ∷ brings 132 3 (both_tables [] (take 16 two_entries))
    ∷ brings 132 2 no_tables ∷ brings_in two_entries ∷ plans 3 0 100 ∷ names 3 In 0 100 ∷ steps 3 In ∷ steps 3 In ∷ lists 16 ∷ [])
    (waiting 9 0 16 ∷ command 2 0 16 ∷ waiting 3 0 16 ∷ listed ((9 ∷ 0 ∷ 0 ∷ 0 ∷ []) ∷ (2 ∷ 0 ∷ 0 ∷ 0 ∷ []) ∷ (3 ∷ 0 ∷ 0 ∷ 0 ∷ []) ∷ []) ∷ performed
    ∷ refused 33 ∷ performed ∷ performed ∷ performed ∷ writes 7 0x2000 100 0 1 ∷ done 1
    ∷ listed ((9 ∷ 0 ∷ 0 ∷ 0 ∷ []) ∷ (2 ∷ 0 ∷ 0 ∷ 0 ∷ []) ∷ (3 ∷ 0 ∷ 0 ∷ 100 ∷ []) ∷ []) ∷ [])
    -- a waiting command can be aborted; its tag used again waits for its own tables
    ∷ on_port (one_waits ∷ takes_in (tsk_mgmt_lem 0 7 0 0x01 9) ∷ brings_in two_entries ∷ counts ∷ takes_in (cmd_bytes 0 0x02 0 0 9 0 0 (tabled 16 100)) ∷ brings_in two_entries
    ∷ brings_in (take 16 two_entries) ∷ [])
    (waiting 9 0 16 ∷ task 7 0 ∷ rsp_code_lem 0 2 7 0 ∷ refused 24 ∷ counters 4 4 0 (pos 0) ∷ waiting 9 0 16 ∷ refused 9 ∷ performed ∷ [])
    -- and the initiator's logout drops it
    ∷ on_port (one_waits ∷ takes_in (tag_only 0x03 1) ∷ brings_in two_entries ∷ []) (waiting 9 0 16 ∷ logged_out_lem ∷ refused 21 ∷ [])
    ∷ []
