-- Memory descriptors as bytes: the segment at byte `at` of a list and those behind it, and the one with an index.
-- Assumes nothing.
use Rattle.std.proofs.Common.{◌≡◌, ℕ, zero, suc, ◌+◌, ◌-◌, ◌*◌, ◌/◌, ◌<◌, List, ◌∷◌, length, drop, refl, ap, ◌∙◌, arith, drop-drop}
use mathlib.Core.Option.{some}
use lib.ListN.{get_elem?}
use Rattle.srp.specs.Bytes.{bytes, get}
use Rattle.srp.specs.Messages.{address, handle, segment_length}
use Rattle.srp.specs.Descriptors.{Segment, segment_at, segments_in, segments_of}
use Rattle.srp.proofs.Commands.{get_behind}

abbrev pub segment : ℕ → ℕ → ℕ → Segment
segment a h n = record { address = a; handle = h; len = n }

-- the three fields of the memory descriptor at byte `at`, where they stand in the whole list
abbrev pub segment_from : List ℕ → ℕ → Segment
segment_from list at = segment (get (bytes (at + 0) 8) list) (get (bytes (at + 8) 4) list) (get (bytes (at + 12) 4) list)

read_there : (list : List ℕ) (at : ℕ) → segment_at (drop at list) ≡ segment_from list at
read_there list at = rw (get_behind address at list, get_behind handle at list, get_behind segment_length at list)

-- the first of those from there on
pub turn : (list : List ℕ) (at rest : ℕ) → 0 < rest → segments_in rest (drop at list) ≡ segment_from list at ∷ segments_in (rest - 1) (drop (at + 16) list)
turn list at rest more =
    let e : rest ≡ suc (rest - 1) = omega arith in
    ap (λ (n : ℕ). segments_in n (drop at list)) e
    ∙ rw (read_there list at, drop-drop 16 at list)

-- ── by index

at_index : (k i : ℕ) (list : List ℕ) → i < k → get_elem? (segments_in k list) i ≡ some (segment_at (drop (i * 16) list))
at_index zero i list h = absurd (omega arith)
at_index (suc k) zero list h = refl
at_index (suc k) (suc i) list h =
    let e : 16 + i * 16 ≡ suc i * 16 = omega arith in
    at_index k i (drop 16 list) (omega arith) ∙ ap (λ (l : List ℕ). some (segment_at l)) (drop-drop (i * 16) 16 list ∙ ap (λ (n : ℕ). drop n list) e)

-- the segment with index i, where its fields stand in the list
pub segment_in : (list : List ℕ) (i : ℕ) → i < length list / 16 → get_elem? (segments_of list) i ≡ some (segment_from list (i * 16))
segment_in list i h = at_index (length list / 16) i list h ∙ ap some (read_there list (i * 16))
