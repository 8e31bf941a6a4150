-- Document 01, "Descriptors": memory descriptors, formats, the table to fetch, the segments, bad fields.
use Rattle.std.specs.Prelude.{Bool, true, false, cond, not, ◌&&◌, ◌||◌, List, [], ◌∷◌, ℕ, zero, suc, ◌+◌, ◌*◌, ◌/◌, ◌%◌, ◌^◌, ltb, leb, eqb, length, take, drop}
use Rattle.srp.specs.Limits.{longest_table, most_copies}
use Rattle.srp.specs.Bytes.{get, behind}
use Rattle.srp.specs.Messages.{address, handle, segment_length, total_length_lem}
use Rattle.srp.specs.declared.Descriptor.{Descriptor}
use Rattle.srp.specs.declared.Fetch.{Fetch}

-- "Memory descriptor: address 0-7, handle 8-11, length 12-15": a segment of the initiator's memory
pub record Segment : Type 0 where
  pub address : ℕ
  pub handle : ℕ
  pub len : ℕ

abbrev pub segment_at : List ℕ → Segment
segment_at s = record { address = get address s; handle = get handle s; len = get segment_length s }

-- the first k memory descriptors of s
abbrev pub segments_in : ℕ → List ℕ → List Segment
segments_in zero s = []
segments_in (suc k) s = segment_at s ∷ segments_in k (drop 16 s)

abbrev pub segments_of : List ℕ → List Segment
segments_of s = segments_in (length s / 16) s

-- "B is the sum of lengths, 0 for format 0"
abbrev pub sum_of : List Segment → ℕ
sum_of [] = 0
sum_of (s ∷ ss) = s.len + sum_of ss

-- "Format 0: no bytes. 1: one memory descriptor, its only segment. 2: table descriptor, total length (4 bytes), then count c copies; 20 + 16c
-- bytes"
abbrev pub descriptor_size : ℕ → ℕ → ℕ
descriptor_size format count = cond (eqb format 1) 16 (cond (eqb format 2) (20 + 16 * count) 0)

-- "A format needs its bit in the login's required formats (1: bit 1; 2: bit 2)"
abbrev pub agrees : ℕ → ℕ → Bool
agrees formats f = eqb f 0 || ((eqb f 1 || eqb f 2) && eqb (formats / 2 ^ f % 2) 1)

-- the descriptor that starts at byte `at` of the message s; "The count is unread for 0 and 1"
abbrev pub descriptor_of_lem : ℕ → ℕ → ℕ → List ℕ → Descriptor
descriptor_of_lem format count at s =
    record {
      format = format;
      count = cond (eqb format 2) count 0;
      at = at;
      len = cond (eqb format 2) (get (behind at segment_length) s) 0;
      total = cond (eqb format 2) (get (behind at total_length_lem) s) 0;
    }

-- refusals 7 and 8: "count above 32 or 16c above the table's length"
abbrev pub bad_count : Descriptor → Bool
bad_count d = eqb d.format 2 && (ltb most_copies d.count || ltb d.len (16 * d.count))

-- "a multiple of 16 from 16 to 512"
abbrev pub good_table_lem : ℕ → Bool
good_table_lem n = leb 16 n && (leb n longest_table && eqb (n % 16) 0)

-- the message's copies are the whole table
abbrev pub whole : Descriptor → Bool
whole d = eqb d.len (16 * d.count)

-- F: "the table's length if that is a multiple of 16 from 16 to 512 and not 16c; otherwise 0"
abbrev pub fetched : Descriptor → ℕ
fetched d = cond (eqb d.format 2 && (good_table_lem d.len && not (whole d))) d.len 0

abbrev pub fetch_of : Descriptor → List ℕ → Fetch
fetch_of d s =
    cond (eqb (fetched d) 0) (record { address = 0; handle = 0; len = 0 })
    (record { address = get (behind d.at address) s; handle = get (behind d.at handle) s; len = fetched d })

abbrev pub copies : Descriptor → List ℕ → List ℕ
copies d s = take (16 * d.count) (drop (d.at + 20) s)

-- ── a direction as the message gives it

-- the memory descriptors that stand in the message: a direct descriptor, or the copies
abbrev pub standing : Descriptor → List ℕ → List ℕ
standing d s = cond (eqb d.format 1) (take 16 (drop d.at s)) (cond (eqb d.format 2) (copies d s) [])

-- so many they are, where the message has its exact length
abbrev pub standing_size_lem : Descriptor → ℕ
standing_size_lem d = cond (eqb d.format 1) 16 (cond (eqb d.format 2) (16 * d.count) 0)

-- a descriptor, wherever it stood, and those bytes: all that its table is judged by
pub record Given : Type 0 where
  pub descriptor : Descriptor
  pub bytes : List ℕ

abbrev pub placeless : Descriptor → Descriptor
placeless d = record { format = d.format; count = d.count; at = 0; len = d.len; total = d.total }

abbrev pub giving : Descriptor → List ℕ → Given
giving d bytes = record { descriptor = placeless d; bytes = bytes }

abbrev pub given : Descriptor → List ℕ → Given
given d s = giving d (standing d s)

-- "The segments are the message's copies when they are the whole table, and otherwise the fetched table": as bytes,
-- a part of the message or of the table
abbrev pub chosen : Given → List ℕ → List ℕ
chosen g table = cond (eqb g.descriptor.format 2) (cond (whole g.descriptor) g.bytes table) g.bytes

abbrev pub segment_bytes : Descriptor → List ℕ → List ℕ → List ℕ
segment_bytes d s table = chosen (given d s) table

abbrev pub segments : Given → List ℕ → List Segment
segments g table = segments_of (chosen g table)

abbrev pub same_bytes : List ℕ → List ℕ → Bool
same_bytes [] [] = true
same_bytes [] (y ∷ ys) = false
same_bytes (x ∷ xs) [] = false
same_bytes (x ∷ xs) (y ∷ ys) = eqb x y && same_bytes xs ys

abbrev pub copies_agree_lem : Given → List ℕ → Bool
copies_agree_lem g table = whole g.descriptor || same_bytes g.bytes (take (16 * g.descriptor.count) table)

-- no segment has address + length above 2^64 (equal is fine)
abbrev pub reachable : List Segment → Bool
reachable [] = true
reachable (s ∷ ss) = leb (s.address + s.len) (2 ^ 64) && reachable ss

-- a table's length, the copies in the message, and the total
abbrev pub good_indirect : Given → List ℕ → Bool
good_indirect g table = good_table_lem g.descriptor.len && (copies_agree_lem g table && eqb g.descriptor.total (sum_of (segments g table)))

abbrev pub good_format : Given → List ℕ → Bool
good_format g table = not (eqb g.descriptor.format 2) || good_indirect g table

-- no bad field (refusal 10)
abbrev pub good_fields : Given → List ℕ → Bool
good_fields g table = good_format g table && reachable (segments g table)
