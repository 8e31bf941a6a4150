-- The rest of the table of rows: logins, look, the cut, the CDB and cutlist; and the table whole, with the rows of specs/BoundaryRows.antt.
use Rattle.std.specs.Prelude.{true, false, List, [], ◌∷◌, ◌++◌, ℕ, pos, take, replicate}
use Rattle.srp.specs.Bytes.{bytes_of}
use Rattle.srp.specs.declared.Settings.{Settings}
use Rattle.srp.specs.declared.Direction.TheVariants.{Out, In}
use Rattle.srp.specs.Rows.{parts, Row, Seen, accepted, t_logout_lem, cdbs, cmd_bytes, command, counters, counts, cuts, listed, lists, login_req_lem, logs_in, looks, message, no_data_lem, logs_in_with, own, performed, prints, refused, rejected, login_rej_lem, segment, settings, takes_in, text, tsk_mgmt_lem, login_rsp_lem}
use Rattle.srp.specs.BoundaryRows.{boundaries}
use Rattle.srp.specs.WaitingRows.{waitings}
use Rattle.srp.specs.Table.{on_port, from_closed, direct_in, entries, table, two_entries, bench, tasks, fields, hang_ups, calls}

-- ── logins

abbrev pub logged : Settings → List ℕ → List Seen → Row
logged c s ss = from_closed (logs_in c 132 s ∷ counts ∷ []) (ss ++ (refused 21 ∷ []))

abbrev pub usual : Settings
usual = settings 4 512 0 1000 true true

abbrev pub logins : List Row
logins =
    from_closed (logs_in usual 131 (login_req_lem 64 6 0 own) ∷ logs_in (settings 0 512 0 1000 true true) 131 [] ∷ counts ∷ []) (refused 1 ∷ refused 1 ∷ refused 21 ∷ [])
    ∷ logged (settings 0 512 0 1000 true true) [] (refused 2 ∷ [])
    ∷ logged (settings 17 512 0 1000 true true) (login_req_lem 64 6 0 own) (refused 2 ∷ [])
    ∷ logged (settings 4 0 0 1000 true true) (login_req_lem 64 6 0 own) (refused 2 ∷ [])
    ∷ logged (settings 4 1048577 0 1000 true true) (login_req_lem 64 6 0 own) (refused 2 ∷ [])
    ∷ logged (settings 4 512 511 1000 true true) [] (refused 2 ∷ [])
    ∷ logged (settings 4 512 768 1000 true true) (login_req_lem 64 6 0 own) (refused 2 ∷ [])
    ∷ logged (settings 4 512 0x200000000 1000 true true) (login_req_lem 64 6 0 own) (refused 2 ∷ [])
    ∷ logged (settings 4 512 0 63 true true) (login_req_lem 64 6 0 own) (refused 2 ∷ [])
    ∷ logged (settings 4 512 0 1365 true true) (login_req_lem 64 6 0 own) (refused 2 ∷ [])
    ∷ logged usual (0xff ∷ replicate 64 0) (refused 3 ∷ [])
    ∷ logged usual (1 ∷ replicate 63 0) (refused 4 ∷ [])
    -- each rejection with those behind it
    ∷ logged usual (login_req_lem 63 1 1 [] ++ replicate 16 0) (rejected 0x10000 ∷ login_rej_lem 0x10000 6 ∷ [])
    ∷ logged usual (login_req_lem 1001 1 1 (replicate 16 0)) (rejected 0x10002 ∷ login_rej_lem 0x10002 6 ∷ [])
    ∷ logged usual (login_req_lem 1000 0x0a 1 (replicate 16 0)) (rejected 0x10004 ∷ login_rej_lem 0x10004 6 ∷ [])
    ∷ logged usual (login_req_lem 1000 1 1 (replicate 16 0)) (rejected 0x10004 ∷ login_rej_lem 0x10004 6 ∷ [])
    ∷ logged (settings 4 512 0 1000 false true) (login_req_lem 1000 4 1 (replicate 16 0)) (rejected 0x10004 ∷ login_rej_lem 0x10004 2 ∷ [])
    ∷ logged usual (login_req_lem 1000 6 1 (replicate 16 0)) (rejected 0x10005 ∷ login_rej_lem 0x10005 6 ∷ [])
    ∷ logged usual (login_req_lem 1000 6 2 (replicate 16 0)) (rejected 0x10000 ∷ login_rej_lem 0x10000 6 ∷ [])
    ∷ logged usual (login_req_lem 1000 6 3 (replicate 16 0)) (rejected 0x10000 ∷ login_rej_lem 0x10000 6 ∷ [])
    ∷ logged usual (login_req_lem 1000 6 0 (replicate 16 7)) (rejected 0x10003 ∷ login_rej_lem 0x10003 6 ∷ [])
    ∷ logged usual (login_req_lem 1000 6 0 (6 ∷ replicate 14 7 ++ (8 ∷ []))) (rejected 0x10003 ∷ login_rej_lem 0x10003 6 ∷ [])
    -- accepted: the requested length, SOLNTSUP, the supported formats
    ∷ from_closed (logs_in (settings 16 1048576 0 1364 false false) 132 (login_req_lem 64 0 0xcc own) ∷ counts ∷ takes_in (replicate 65 2) ∷ [])
    (accepted ∷ message (0xc0 ∷ 0 ∷ 0 ∷ 0 ∷ bytes_of 4 16 ++ (bytes_of 8 77 ++ (bytes_of 4 64 ++ (bytes_of 4 132 ++ (0 ∷ 2 ∷ replicate 26 0))))) ∷ counters 16 16 0 (pos 0)
    ∷ refused 3 ∷ t_logout_lem 0 0 ∷ [])
    ∷ from_closed (logs_in (settings 1 1 0 64 true true) 132 (login_req_lem 64 2 0 own) ∷ counts ∷ []) (accepted
    ∷ message (0xc0 ∷ 0 ∷ 0 ∷ 0 ∷ bytes_of 4 1 ++ (bytes_of 8 77 ++ (bytes_of 4 64 ++ (bytes_of 4 132 ++ (0 ∷ 6 ∷ 0x10 ∷ replicate 25 0))))) ∷ counters 1 1 0 (pos 0) ∷ [])
    -- a login uses no earlier port
    ∷ on_port (takes_in (no_data_lem 1) ∷ logs_in_with 2 0 ∷ lists 16 ∷ counts ∷ logs_in usual 132 [] ∷ counts ∷ [])
    (command 1 0 16 ∷ accepted ∷ login_rsp_lem 2 ∷ listed [] ∷ counters 2 2 0 (pos 0) ∷ refused 3 ∷ refused 21 ∷ [])
    ∷ []

-- ── look, the cut, the CDB and cutlist

abbrev pub looked : List ℕ → List Seen → Row
looked s ss = from_closed (looks 1364 6 s 32 ∷ []) ss

-- 1,364 bytes: 63 words more of CDB, and 32 copies each way, all of zero-length segments
abbrev pub longest : List ℕ
longest = cmd_bytes 0 0x22 32 32 9 0 252 (replicate 252 0 ++ (segment 0 0 512 ++ (bytes_of 4 0 ++ (replicate 512 0 ++ (segment 0 0 512 ++ (bytes_of 4 0 ++ replicate 512 0))))))

abbrev pub outside : List Row
outside =
    from_closed (looks 63 6 [] 31 ∷ looks 63 6 [] 32 ∷ looks 1365 6 [] 32 ∷ looks 64 1 [] 32 ∷ looks 64 8 [] 32 ∷ looks 64 6 [] 32 ∷ [])
    (refused 1 ∷ refused 2 ∷ refused 2 ∷ refused 2 ∷ refused 2 ∷ refused 3 ∷ [])
    ∷ looked (tsk_mgmt_lem 0 1 0 1 0) (refused 4 ∷ [])
    ∷ looked (take 47 (no_data_lem 1)) (refused 3 ∷ [])
    ∷ from_closed (looks 64 2 direct_in 32 ∷ looks 64 4 direct_in 32 ∷ looks 64 4 (cmd_bytes 0 0x10 0 0 9 0 0 []) 32 ∷ []) (performed ∷ message (replicate 32 0) ∷ refused 6 ∷ refused 5 ∷ [])
    ∷ looked (cmd_bytes 0 0x02 0 2 9 0 0 (segment 0 0 24 ++ bytes_of 4 0 ++ replicate 32 0)) (refused 8 ∷ [])
    ∷ looked (cmd_bytes 0 0x20 2 0 9 0 0 (segment 0 0 24 ++ bytes_of 4 0 ++ replicate 32 0)) (refused 7 ∷ [])
    -- the whole table is fetched where the copies are not all of it; a bad length names no fetch
    ∷ looked (table 1 48 700 (take 16 entries)) (performed ∷ message (replicate 16 0 ++ segment 0x9000 5 48) ∷ [])
    ∷ looked (cmd_bytes 0 0x20 0 0 9 0 0 (segment 0x9000 5 512 ++ bytes_of 4 0)) (performed ∷ message (segment 0x9000 5 512 ++ replicate 16 0) ∷ [])
    ∷ looked (table 0 16 100 []) (performed ∷ message (replicate 16 0 ++ segment 0x9000 5 16) ∷ [])
    ∷ looked (table 3 48 700 entries) (performed ∷ message (replicate 32 0) ∷ [])
    ∷ looked (table 0 24 700 []) (performed ∷ message (replicate 32 0) ∷ [])
    -- the cut: 1, 2, 11, 10, 11, a piece, done
    ∷ from_closed (cuts [] 0 0 0 0 31 ∷ cuts (0 ∷ []) 0 0 0 0 32 ∷ cuts (0 ∷ []) 1048577 0 0 0 32 ∷ cuts (0 ∷ []) 512 0 0 1 32 ∷ cuts (replicate 528 0) 512 0 0 1 32
    ∷ cuts (segment 0xffffffffffffff00 7 257) 512 0 0 1 32 ∷ cuts (segment 0 7 0xffffffff ++ segment 0 7 1) 512 0 0 1 32 ∷ cuts entries 512 0 650 651 32
    ∷ cuts entries 512 0 800 701 32 ∷ cuts entries 512 0 650 600 33 ∷ cuts entries 512 0 650 650 32 ∷ cuts [] 512 0 9 0 32 ∷ cuts (replicate 512 0) 512 0 9 0 32 ∷ [])
    (refused 1 ∷ refused 2 ∷ refused 2 ∷ refused 11 ∷ refused 11 ∷ refused 10 ∷ refused 10 ∷ refused 11 ∷ refused 11
    ∷ performed ∷ message (segment 0x5000 7 50 ++ bytes_of 4 600 ++ replicate 12 0) ∷ performed ∷ message (replicate 32 0) ∷ performed ∷ message (replicate 32 0) ∷ performed ∷ message (replicate 32 0) ∷ [])
    -- the CDB, with the additional bytes; none where look refuses
    ∷ from_closed (cdbs (cmd_bytes 0 0 0 0 9 0 7 (1 ∷ 2 ∷ 3 ∷ 4 ∷ [])) ∷ cdbs (take 47 (no_data_lem 1)) ∷ []) (text (replicate 16 0xcd ++ (1 ∷ 2 ∷ 3 ∷ 4 ∷ [])) ∷ text [] ∷ [])
    -- the segments: the copies where they are the whole table, else the table; a direct descriptor; none where look refuses
    ∷ from_closed (parts In (table 2 32 300 two_entries) entries ∷ parts In (table 1 32 300 (take 16 two_entries)) two_entries ∷ parts Out (table 2 32 300 two_entries) entries
    ∷ parts In direct_in entries ∷ parts Out (cmd_bytes 0 0x10 0 0 9 0 0 (segment 0x1000 7 5)) entries ∷ parts In (take 47 (no_data_lem 1)) entries ∷ [])
    (text two_entries ∷ text two_entries ∷ text [] ∷ text (segment 0x1000 7 1300) ∷ text (segment 0x1000 7 5) ∷ text [] ∷ [])
    -- cutlist: out before in; the longest command, and one byte more
    ∷ from_closed (prints (cmd_bytes 0 0x11 0 0 9 0 0 (segment 0x1000 7 10 ++ segment 0x2000 8 2)) ∷ prints longest ∷ prints (longest ++ (0 ∷ [])) ∷ [])
    (text
    (0x52 ∷ 0x20 ∷ replicate 7 0x30 ++ (0x37 ∷ 0x20 ∷ replicate 12 0x30 ++ (0x31 ∷ 0x30 ∷ 0x30 ∷ 0x30 ∷ 0x20 ∷ 0x31 ∷ 0x30 ∷ 0x0a
    ∷ 0x57 ∷ 0x20 ∷ replicate 7 0x30 ++ (0x38 ∷ 0x20 ∷ replicate 12 0x30 ++ (0x32 ∷ 0x30 ∷ 0x30 ∷ 0x30 ∷ 0x20 ∷ 0x32 ∷ 0x0a ∷ [])))))
    ∷ text [] ∷ text (0x72 ∷ 0x65 ∷ 0x66 ∷ 0x75 ∷ 0x73 ∷ 0x65 ∷ 0x64 ∷ 0x20 ∷ 0x33 ∷ 0x0a ∷ []) ∷ [])
    -- cutlist has no boundaries: 1100h to 1300h, which crosses 1200h, and behind it 1 byte
    ∷ from_closed (prints (cmd_bytes 0 0x10 0 0 9 0 0 (segment 0x1100 7 513)) ∷ [])
    (text
    (0x52 ∷ 0x20 ∷ replicate 7 0x30 ++ (0x37 ∷ 0x20 ∷ replicate 12 0x30 ++ (0x31 ∷ 0x31 ∷ 0x30 ∷ 0x30 ∷ 0x20 ∷ 0x35 ∷ 0x31 ∷ 0x32 ∷ 0x0a
    ∷ 0x52 ∷ 0x20 ∷ replicate 7 0x30 ++ (0x37 ∷ 0x20 ∷ replicate 12 0x30 ++ (0x31 ∷ 0x33 ∷ 0x30 ∷ 0x30 ∷ 0x20 ∷ 0x31 ∷ 0x0a ∷ [])))))
    ∷ [])
    -- cutlist: document 01's example, no data, a refusal, a fetch ahead of 10, 10, and every hexadecimal digit
    ∷ from_closed (prints direct_in ∷ prints (no_data_lem 1) ∷ prints [] ∷ prints (table 0 32 1 []) ∷ prints (cmd_bytes 0 0x20 0 0 9 0 0 (segment 0x9000 5 32 ++ bytes_of 4 1)) ∷ prints (table 2 32 301 two_entries)
    ∷ prints (cmd_bytes 0 0x10 0 0 9 0 0 (segment 0x0123456789abcdef 0xfedcba98 10)) ∷ [])
    (text
    (0x57 ∷ 0x20 ∷ 0x30 ∷ 0x30 ∷ 0x30 ∷ 0x30 ∷ 0x30 ∷ 0x30 ∷ 0x30 ∷ 0x37 ∷ 0x20 ∷ replicate 12 0x30 ++ (0x31 ∷ 0x30 ∷ 0x30 ∷ 0x30 ∷ 0x20 ∷ 0x35 ∷ 0x31 ∷ 0x32 ∷ 0x0a
    ∷ 0x57 ∷ 0x20 ∷ 0x30 ∷ 0x30 ∷ 0x30 ∷ 0x30 ∷ 0x30 ∷ 0x30 ∷ 0x30 ∷ 0x37 ∷ 0x20 ∷ replicate 12 0x30 ++ (0x31 ∷ 0x32 ∷ 0x30 ∷ 0x30 ∷ 0x20 ∷ 0x35 ∷ 0x31 ∷ 0x32 ∷ 0x0a
    ∷ 0x57 ∷ 0x20 ∷ 0x30 ∷ 0x30 ∷ 0x30 ∷ 0x30 ∷ 0x30 ∷ 0x30 ∷ 0x30 ∷ 0x37 ∷ 0x20 ∷ replicate 12 0x30 ++ (0x31 ∷ 0x34 ∷ 0x30 ∷ 0x30 ∷ 0x20 ∷ 0x32 ∷ 0x37 ∷ 0x36 ∷ 0x0a ∷ []))))
    ∷ text [] ∷ text (0x72 ∷ 0x65 ∷ 0x66 ∷ 0x75 ∷ 0x73 ∷ 0x65 ∷ 0x64 ∷ 0x20 ∷ 0x33 ∷ 0x0a ∷ []) ∷ text (0x66 ∷ 0x65 ∷ 0x74 ∷ 0x63 ∷ 0x68 ∷ 0x0a ∷ [])
    ∷ text (0x66 ∷ 0x65 ∷ 0x74 ∷ 0x63 ∷ 0x68 ∷ 0x0a ∷ [])
    ∷ text (0x72 ∷ 0x65 ∷ 0x66 ∷ 0x75 ∷ 0x73 ∷ 0x65 ∷ 0x64 ∷ 0x20 ∷ 0x31 ∷ 0x30 ∷ 0x0a ∷ [])
    ∷ text (0x52 ∷ 0x20 ∷ 0x66 ∷ 0x65 ∷ 0x64 ∷ 0x63 ∷ 0x62 ∷ 0x61 ∷ 0x39 ∷ 0x38 ∷ 0x20 ∷ 0x30 ∷ 0x31 ∷ 0x32 ∷ 0x33 ∷ 0x34 ∷ 0x35 ∷ 0x36 ∷ 0x37 ∷ 0x38 ∷ 0x39 ∷ 0x61 ∷ 0x62
    ∷ 0x63 ∷ 0x64 ∷ 0x65 ∷ 0x66 ∷ 0x20 ∷ 0x31 ∷ 0x30 ∷ 0x0a ∷ []) ∷ [])
    ∷ []

-- ── the table

abbrev pub rows : List Row
rows = bench ++ tasks ++ fields ++ hang_ups ++ calls ++ logins ++ outside ++ boundaries ++ waitings
