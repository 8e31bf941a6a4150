-- Document 01, "Cutting", and document 02, jobs 1 and 6: the pieces of a move in one direction, and the next of them.
use Rattle.std.specs.Prelude.{◌≡◌, ◌⊎◌, ◌↔◌, Bool, false, cond, not, ◌||◌, List, [], ◌∷◌, ◌++◌, ℕ, zero, suc, ◌+◌, ◌-◌, ◌*◌, ◌/◌, ◌%◌, ◌^◌, ◌≤◌, min, max, ltb, leb, eqb, length, Result, Ok}
use Rattle.std.proofs.Math.Option.{Option, none, some}
use Rattle.std.specs.Prelude.{Option as Answered, Some, None}
use Rattle.srp.specs.Limits.{largest_piece, least_exponent, greatest_exponent, longest_table}
use Rattle.srp.specs.Refusals.{Check, first_of_checks, unless_bad}
use Rattle.srp.specs.Descriptors.{Segment, segments_of, sum_of, reachable}
use Rattle.srp.specs.declared.Piece.{Piece}
use Rattle.srp.specs.declared.Refusal.{Refusal}
use Rattle.srp.specs.declared.Refusal.TheVariants.{Setting, Fields, Argument}

abbrev pub piece : ℕ → ℕ → ℕ → ℕ → Piece
piece address handle len offset = record { address = address; handle = handle; len = len; offset = offset }

abbrev pub bytes_in : List Piece → ℕ
bytes_in [] = 0
bytes_in (p ∷ ps) = p.len + bytes_in ps

-- h, "the highest offset handed out + 1, 0 where nothing was"
abbrev pub highest : List Piece → ℕ
highest [] = 0
highest (p ∷ ps) = max (p.offset + p.len) (highest ps)

-- ── how long a piece is

-- so long is the piece that starts at an address, where so many bytes are left
abbrev pub Rule : Type 0
Rule = (address left : ℕ) → ℕ

-- "the next multiple of Q above its first address", where Q is not 0
abbrev pub next_multiple : (Q address : ℕ) → ℕ
next_multiple Q address = (address / Q + 1) * Q

-- the longest piece at an address: M bytes, or up to the next multiple of Q
unfoldable pub longest_at_lem : (M Q address : ℕ) → ℕ
longest_at_lem M Q address = cond (eqb Q 0) M (min M (next_multiple Q address - address))

-- "each piece as long as possible up to M (a login setting)": "A piece now ends at the nearest of M, the segment's end, the move's end and the next
-- multiple of Q above its first address"
abbrev pub up_to : (M Q : ℕ) → Rule
up_to M Q address left = min (longest_at_lem M Q address) left

-- ── the pieces

-- n bytes of one segment; the first argument bounds the number of pieces
abbrev pub cut_segment : ℕ → Rule → ℕ → ℕ → ℕ → ℕ → List Piece
cut_segment zero rule address handle offset n = []
cut_segment (suc f) rule address handle offset zero = []
cut_segment (suc f) rule address handle offset (suc n) =
    let long : ℕ = rule address (suc n) in
    piece address handle long offset ∷ cut_segment f rule (address + long) handle (offset + long) (suc n - long)

-- the bytes from `from` up to `to`, "cut segment by segment, zero-length segments skipped"; `offset` bytes came before
abbrev pub cuts_from : Rule → ℕ → ℕ → ℕ → List Segment → List Piece
cuts_from rule offset from to [] = []
cuts_from rule offset from to (s ∷ ss) =
    let n : ℕ = min s.len to in
    cut_segment (n - from) rule (s.address + from) s.handle (offset + from) (n - from)
    ++ cuts_from rule (offset + n) (from - n) (to - n) ss

-- the cuts of a move, the bytes from `from` up to `to`: the first piece starts at `from`
abbrev pub cuts_of : Rule → ℕ → ℕ → List Segment → List Piece
cuts_of rule from to ss = cuts_from rule 0 from to ss

-- "The first min(R, B) bytes": the move of them all
abbrev pub cuts : Rule → ℕ → List Segment → List Piece
cuts rule R ss = cuts_of rule 0 (min R (sum_of ss)) ss

-- where a move ends: "A move is trimmed at min(R, B)", here `most`
abbrev pub trimmed : (offset count most : ℕ) → ℕ
trimmed offset count most = min (offset + count) most

-- the piece at `from` of the bytes up to `to`: what is left there ends at the nearer of the segment's end and `to`
abbrev pub next_from : Rule → ℕ → ℕ → ℕ → List Segment → Option Piece
next_from rule offset from to [] = none
next_from rule offset from to (s ∷ ss) =
    let n : ℕ = min s.len to in
    cond (ltb from n)
    (some (piece (s.address + from) s.handle (rule (s.address + from) (n - from)) (offset + from)))
    (next_from rule (offset + n) (from - n) (to - n) ss)

abbrev pub next : Rule → ℕ → ℕ → List Segment → Option Piece
next rule from to ss = next_from rule 0 from to ss

-- the pieces one after the other, from `from` on, at most f of them
abbrev pub pieces : ℕ → Rule → ℕ → ℕ → List Segment → List Piece
pieces zero rule from to ss = []
pieces (suc f) rule from to ss = elim (next rule from to ss) [ none ↦ [] | some p ↦ p ∷ pieces f rule (from + p.len) to ss ]

-- ── M and Q

-- "M 1 to 1,048,576"
abbrev pub bad_maximum : ℕ → Bool
bad_maximum M = eqb M 0 || ltb largest_piece M

-- x is 2^k for one of the n numbers k from the first argument on
abbrev pub is_power : (k n x : ℕ) → Bool
is_power k zero x = false
is_power k (suc n) x = eqb x (2 ^ k) || is_power (suc k) n x

-- "0 for none, or a power of two from 512 to 2^32"
unfoldable pub bad_boundary : ℕ → Bool
bad_boundary Q = not (eqb Q 0 || is_power least_exponent (suc greatest_exponent - least_exponent) Q)

-- such a power
abbrev pub Power : ℕ → Type 0
Power Q = (k : ℕ) × (least_exponent ≤ k) × (k ≤ greatest_exponent) × (Q ≡ 2 ^ k)

-- so a Q that is not bad is 0 or such a power, and each of these is not bad: proofs/Boundaries.antt
abbrev pub GoodBoundaries : Type 0
GoodBoundaries = (Q : ℕ) → (bad_boundary Q ≡ false) ↔ ((Q ≡ 0) ⊎ Power Q)

-- ── the cut as C calls it

-- "2 for M out of range; 11 for a list not a multiple of 16 up to 512 bytes, or more handed out than min(R, B); 10 for a segment
-- past 2^64 or a sum above 2^32 - 1; the list's 11 before 10, the other after"; "A bad Q draws refusal 2"
abbrev pub cut_checks : (list : List ℕ) (M Q R handed : ℕ) → List Check
cut_checks list M Q R handed =
    (bad_maximum M || bad_boundary Q, Setting)
    ∷ (not (eqb (length list % 16) 0) || ltb longest_table (length list), Argument)
    ∷ (not (reachable (segments_of list)) || leb (2 ^ 32) (sum_of (segments_of list)), Fields)
    ∷ (ltb (min R (sum_of (segments_of list))) handed, Argument)
    ∷ []

-- as the code answers it: none where it is done
abbrev pub cut_next : Option Piece → Answered Piece
cut_next none = None
cut_next (some p) = Some p

-- "gives the next piece or done"
abbrev pub cut_outcome : (list : List ℕ) (M Q R handed : ℕ) → Answered Piece
cut_outcome list M Q R handed = cut_next (next (up_to M Q) handed (min R (sum_of (segments_of list))) (segments_of list))

abbrev pub cut_def : (list : List ℕ) (M Q R handed : ℕ) → Result (Answered Piece) Refusal
cut_def list M Q R handed = unless_bad (first_of_checks (cut_checks list M Q R handed)) (Ok (cut_outcome list M Q R handed))
