-- Document 02, jobs 4 and 6, worked out by hand: moves with the segments that have a byte in them, the multiples of Q inside, their operations and the bound; and
-- lists of operations for a move, of which one is a `Rival` (specs/Fewest.antt), and that one only without boundaries. The rows hold: proofs/MoveRows.antt.
use Rattle.std.specs.Prelude.{false, List, [], ◌∷◌, map, ℕ, ◌+◌, ◌-◌, ◌/◌, length, replicate}
use Rattle.srp.specs.Descriptors.{Segment}
use Rattle.srp.specs.Cutting.{up_to, piece, cuts_of}
use Rattle.srp.specs.Fewest.{touched, crossed}
use Rattle.srp.specs.declared.Terms.{Terms}
use Rattle.srp.specs.declared.Piece.{Piece}

-- a move in segments of so many bytes, each at the same address; M and Q
pub record Moving : Type 0 where
  pub address : ℕ
  pub lengths : List ℕ
  pub from : ℕ
  pub to : ℕ
  pub maximum : ℕ
  pub boundary : ℕ

-- the segments with a byte in it, the multiples of Q inside, its operations, and the bound
pub record Counts : Type 0 where
  pub segments : ℕ
  pub multiples : ℕ
  pub operations : ℕ
  pub most : ℕ

abbrev pub segments_of : Moving → List Segment
segments_of m = map (λ n. record { address = m.address; handle = 7; len = n }) m.lengths

abbrev pub counts_of_lem : Moving → Counts
counts_of_lem m =
    let t : ℕ = touched 0 m.from m.to (segments_of m) in
    let k : ℕ = crossed m.boundary 0 m.from m.to (segments_of m) in
    record {
      segments = t;
      multiples = k;
      operations = length (cuts_of (up_to m.maximum m.boundary) m.from m.to (segments_of m));
      most = t + (m.to - m.from) / m.maximum + k;
    }

abbrev pub bounded : (address : ℕ) (lengths : List ℕ) (from to maximum boundary : ℕ) → Moving
bounded address lengths from to maximum boundary = record { address = address; lengths = lengths; from = from; to = to; maximum = maximum; boundary = boundary }

-- without boundaries
abbrev pub moved : (lengths : List ℕ) (from to maximum : ℕ) → Moving
moved lengths from to maximum = bounded 0x1000 lengths from to maximum 0

abbrev pub crosses : (segments multiples operations most : ℕ) → Counts
crosses segments multiples operations most = record { segments = segments; multiples = multiples; operations = operations; most = most }

abbrev pub counts : (segments operations most : ℕ) → Counts
counts segments operations most = crosses segments 0 operations most

abbrev pub rows : List (Moving × Counts)
rows =
    -- one segment: the bound is met unless the bytes are a multiple of M
    (moved (1300 ∷ []) 0 1300 512, counts 1 3 3)
    ∷ (moved (1024 ∷ []) 0 1024 512, counts 1 2 3)
    ∷ (moved (3 ∷ []) 0 3 1, counts 1 3 4)
    ∷ (moved (1300 ∷ []) 500 520 512, counts 1 1 1)
    -- more: a piece ends where its segment does
    ∷ (moved (600 ∷ 100 ∷ []) 0 700 512, counts 2 3 3)
    ∷ (moved (512 ∷ 512 ∷ []) 0 1024 512, counts 2 2 4)
    ∷ (moved (1 ∷ 1 ∷ 1 ∷ []) 0 3 512, counts 3 3 3)
    ∷ (moved (513 ∷ 513 ∷ 513 ∷ []) 0 1539 512, counts 3 6 6)
    -- segments before the move, behind it, and without a byte
    ∷ (moved (600 ∷ 100 ∷ []) 600 700 512, counts 1 1 1)
    ∷ (moved (600 ∷ 100 ∷ []) 0 600 512, counts 1 2 2)
    ∷ (moved (0 ∷ 600 ∷ 0 ∷ 100 ∷ 0 ∷ []) 599 601 512, counts 2 2 2)
    ∷ (moved (0 ∷ 600 ∷ 0 ∷ 100 ∷ 0 ∷ []) 0 700 512, counts 2 3 3)
    -- no bytes
    ∷ (moved (600 ∷ 100 ∷ []) 300 300 512, counts 0 0 0)
    ∷ (moved (600 ∷ 100 ∷ []) 700 700 512, counts 0 0 0)
    -- the most bytes and segments that a direction can have, with the largest M: the most operations
    ∷ (moved (4294967264 ∷ replicate 31 1) 0 4294967295 1048576, counts 32 4127 4127)
    -- boundaries: a multiple where a part starts or ends is not inside it
    ∷ (bounded 0x1000 (1300 ∷ []) 0 512 1048576 512, crosses 1 0 1 1)
    ∷ (bounded 0x1000 (1300 ∷ []) 0 513 1048576 512, crosses 1 1 2 2)
    ∷ (bounded 0x1000 (1300 ∷ []) 511 513 1048576 512, crosses 1 1 2 2)
    ∷ (bounded 0x1000 (1300 ∷ []) 512 1024 1048576 512, crosses 1 0 1 1)
    ∷ (bounded 0x1000 (1300 ∷ []) 0 1300 1048576 512, crosses 1 2 3 3)
    -- M ends pieces too: the bound is met, or not where M ends one at a multiple
    ∷ (bounded 0x1000 (1300 ∷ []) 100 1300 1000 512, crosses 1 2 3 4)
    ∷ (bounded 0x1000 (600 ∷ []) 0 600 400 512, crosses 1 1 3 3)
    ∷ (bounded 0x1000 (1024 ∷ []) 0 1024 512 512, crosses 1 1 2 4)
    -- by the addresses, not by the offsets: 1200h is inside, 1400h and 1600h too
    ∷ (bounded 0x11ff (2 ∷ []) 0 2 1048576 512, crosses 1 1 2 2)
    ∷ (bounded 0x1200 (2 ∷ []) 0 2 1048576 512, crosses 1 0 1 1)
    ∷ (bounded 0x1100 (1300 ∷ []) 0 1300 1048576 512, crosses 1 3 4 4)
    -- each segment's part by its own addresses; a segment without a byte has none
    ∷ (bounded 0x1100 (300 ∷ 300 ∷ []) 100 600 1048576 512, crosses 2 2 4 4)
    ∷ (bounded 0x1000 (600 ∷ 0 ∷ 700 ∷ []) 0 1300 1048576 512, crosses 2 2 4 4)
    ∷ (bounded 0x1000 (600 ∷ 0 ∷ 700 ∷ []) 600 1300 1048576 512, crosses 1 1 2 2)
    ∷ (bounded 0x1000 (600 ∷ 700 ∷ []) 300 300 512 512, crosses 0 0 0 0)
    -- and the largest Q
    ∷ (bounded 0x1000 (4294967264 ∷ replicate 31 1) 0 4294967295 1048576 4294967296, crosses 32 1 4128 4128)
    ∷ []

-- ── lists for the 700 bytes of two segments that adjoin in memory, with M = 512

abbrev pub terms : Terms
terms = record { maximum = 512; boundary = 0; agreed = 64; formats = 0; crsolnt = false; losolnt = false }

-- with boundaries
abbrev pub bounded_terms : Terms
bounded_terms = record { maximum = 512; boundary = 512; agreed = 64; formats = 0; crsolnt = false; losolnt = false }

abbrev pub two : List Segment
two = record { address = 0x3000; handle = 7; len = 600 } ∷ record { address = 0x3258; handle = 7; len = 100 } ∷ []

-- the 600 bytes in halves; the second crosses 3200h
abbrev pub halves : List Piece
halves = piece 0x3000 7 300 0 ∷ piece 0x312c 7 300 300 ∷ piece 0x3258 7 100 600 ∷ []

-- two operations would do if the second might go on from one segment into the other
abbrev pub crossing : List Piece
crossing = piece 0x3000 7 512 0 ∷ piece 0x3200 7 188 512 ∷ []

-- or if one might be longer than M
abbrev pub too_long : List Piece
too_long = piece 0x3000 7 600 0 ∷ piece 0x3258 7 100 600 ∷ []

-- or if the last bytes might be left out
abbrev pub unfinished : List Piece
unfinished = piece 0x3000 7 512 0 ∷ piece 0x3200 7 88 512 ∷ []
