-- Document 02, job 6, worked out by hand: which Q is bad, how long a piece may be at an address, and the pieces of a port and of the cut around multiples of Q.
-- They hold: proofs/BoundaryRows.antt, and of `boundaries`, a part of the table of specs/FurtherRows.antt, proofs/Bench.antt.
use Rattle.std.specs.Prelude.{true, List, [], ◌∷◌, ◌++◌, ℕ, replicate}
use Rattle.srp.specs.Bytes.{bytes_of}
use Rattle.srp.specs.declared.Direction.TheVariants.{Out, In}
use Rattle.srp.specs.Rows.{Act, Row, Seen, accepted, cmd_bytes, command, cuts, done, login_req_lem, logs_in, login_rsp_lem, message, names, own, performed, plans, plans_in, refused, reads, segment, settings, steps, steps_in, takes_in, writes}
use Rattle.srp.specs.Table.{from_closed}

-- ── Q

-- every good one, and those beside them
abbrev pub powers : List ℕ
powers =
    512 ∷ 1024 ∷ 2048 ∷ 4096 ∷ 8192 ∷ 16384 ∷ 32768 ∷ 65536 ∷ 131072 ∷ 262144 ∷ 524288 ∷ 1048576 ∷ 2097152 ∷ 4194304 ∷ 8388608 ∷ 16777216
    ∷ 33554432 ∷ 67108864 ∷ 134217728 ∷ 268435456 ∷ 536870912 ∷ 1073741824 ∷ 2147483648 ∷ 4294967296 ∷ []

abbrev pub bad : List ℕ
bad =
    1 ∷ 2 ∷ 255 ∷ 256 ∷ 257 ∷ 511 ∷ 513 ∷ 768 ∷ 1023 ∷ 1025 ∷ 1536 ∷ 0x7fffffff ∷ 0x80000001 ∷ 0x80000200 ∷ 0xffffffff ∷ 0x100000001 ∷ 0x180000000
    ∷ 0x200000000 ∷ 0x8000000000000000 ∷ 0xffffffffffffffff ∷ []

-- ── how long a piece may be

-- M, Q and an address
pub record Place : Type 0 where
  pub maximum : ℕ
  pub boundary : ℕ
  pub address : ℕ

abbrev pub at : (M Q address : ℕ) → Place
at M Q address = record { maximum = M; boundary = Q; address = address }

abbrev pub lengths : List (Place × ℕ)
lengths =
    -- no boundaries
    (at 1000 0 5, 1000)
    -- before a multiple, at it and behind it: the next is strictly above
    ∷ (at 1000 512 510, 2)
    ∷ (at 1000 512 511, 1)
    ∷ (at 1000 512 512, 512)
    ∷ (at 1000 512 513, 511)
    ∷ (at 1000 512 0, 512)
    -- M is nearer, or as near
    ∷ (at 100 512 411, 100)
    ∷ (at 100 512 412, 100)
    ∷ (at 100 512 413, 99)
    ∷ (at 512 512 1024, 512)
    ∷ (at 1 512 7, 1)
    -- 2^64 is a multiple of every Q
    ∷ (at 1048576 512 0xffffffffffffffff, 1)
    ∷ (at 1048576 4294967296 0xfffffffffff00000, 1048576)
    ∷ (at 1048576 4294967296 0xfffffffffff00001, 1048575)
    ∷ []

-- ── rows of the table

-- a login with M and Q, and a command for data-in with these descriptors
abbrev pub logs_in_at : (m q : ℕ) → List ℕ → List Act
logs_in_at m q direct = logs_in (settings 4 m q 1364 true true) 132 (login_req_lem 1364 6 0 own) ∷ takes_in (cmd_bytes 0 1 0 0 9 0 0 direct) ∷ []

abbrev pub logged_at : List Seen
logged_at = accepted ∷ login_rsp_lem 4 ∷ command 9 0 16 ∷ []

abbrev pub boundaries : List Row
boundaries =
    -- a move from byte 100 on of a segment that starts between two multiples
    from_closed (logs_in_at 1000 512 (segment 0x1100 7 1300) ++ (plans 9 0 1300 ∷ names 9 In 100 1200 ∷ steps_in 5))
    (logged_at ++ (performed ∷ performed ∷ writes 7 0x1164 156 100 1 ∷ writes 7 0x1200 512 256 2 ∷ writes 7 0x1400 512 768 3 ∷ writes 7 0x1600 20 1280 4 ∷ done 4 ∷ []))
    -- M ends a piece between two multiples, and the next one ends at the multiple
    ∷ from_closed (logs_in_at 400 512 (segment 0x1000 7 600) ++ plans_in 600 ++ steps_in 4)
    (logged_at ++ (performed ∷ performed ∷ performed ∷ writes 7 0x1000 400 0 1 ∷ writes 7 0x1190 112 400 2 ∷ writes 7 0x1200 88 512 3 ∷ done 3 ∷ []))
    -- data-out is cut by it too
    ∷ from_closed (logs_in (settings 4 1000 1024 1364 true true) 132 (login_req_lem 1364 6 0 own) ∷ takes_in (cmd_bytes 0 0x10 0 0 9 0 0 (segment 0x13ff 7 2)) ∷ plans 9 2 0 ∷ names 9 Out 0 2
    ∷ steps 9 Out ∷ steps 9 Out ∷ steps 9 Out ∷ [])
    (logged_at ++ (performed ∷ performed ∷ reads 7 0x13ff 1 0 1 ∷ reads 7 0x1400 1 1 2 ∷ done 2 ∷ []))
    -- the largest Q, at the end of memory
    ∷ from_closed (logs_in_at 512 0x100000000 (segment 0xffffffffffffff00 7 256) ++ plans_in 256 ++ steps_in 2)
    (logged_at ++ (performed ∷ performed ∷ performed ∷ writes 7 0xffffffffffffff00 256 0 1 ∷ done 1 ∷ []))
    -- the cut: 1 ahead of 2, 2 ahead of 11 for a bad Q
    ∷ from_closed (cuts (0 ∷ []) 512 511 0 0 31 ∷ cuts (0 ∷ []) 512 511 0 0 32 ∷ cuts (0 ∷ []) 512 1024 0 0 32 ∷ [])
    (refused 1 ∷ refused 2 ∷ refused 11 ∷ [])
    -- up to the next multiple, a whole Q from a multiple on, M where it is nearer, the last bytes
    ∷ from_closed (cuts (segment 0x1100 7 1300) 512 512 1300 0 32 ∷ cuts (segment 0x1100 7 1300) 512 512 1300 256 32 ∷ cuts (segment 0x1100 7 1300) 100 512 1300 0 32
    ∷ cuts (segment 0x1100 7 1300) 512 512 1300 1280 32 ∷ cuts (segment 0xffffffffffffffff 7 1) 512 512 1 0 32 ∷ [])
    (performed ∷ message (segment 0x1100 7 256 ++ bytes_of 4 0 ++ replicate 12 0) ∷ performed ∷ message (segment 0x1200 7 512 ++ bytes_of 4 256 ++ replicate 12 0)
    ∷ performed ∷ message (segment 0x1100 7 100 ++ bytes_of 4 0 ++ replicate 12 0) ∷ performed ∷ message (segment 0x1600 7 20 ++ bytes_of 4 1280 ++ replicate 12 0)
    ∷ performed ∷ message (segment 0xffffffffffffffff 7 1 ++ bytes_of 4 0 ++ replicate 12 0) ∷ [])
    ∷ []
