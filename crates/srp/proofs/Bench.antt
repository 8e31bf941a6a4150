-- The rows of specs/Table.antt hold, jointly, of the definitions.
-- Assumes nothing.
use mathlib.Core.Path.{◌≡◌, refl}
use mathlib.Core.List.{List, [], ◌∷◌, map}
use Prim.Native.Nat.{ℕ, ◌+◌, ◌^◌}
use lib.ListN.{length, replicate}
use Rattle.std.specs.Prelude.{Result}
use Rattle.srp.specs.Bytes.{number, bytes_of, Layout}
use Rattle.srp.specs.Messages.{layouts}
use Rattle.srp.specs.Requests.{read_message_lem}
use Rattle.srp.specs.Cutting.{piece, longest_at_lem, bad_boundary}
use Rattle.srp.specs.Writing.{placed}
use lib.IntN.{pos}
use Rattle.srp.specs.Credit.{closed_port}
use Rattle.srp.specs.Calls.{wrapped, counters_of}
use Rattle.srp.specs.Answers.{returned, values_of}
use Rattle.srp.specs.declared.Reply.{Reply}
use Rattle.srp.specs.ReadBack.{all_fields}
use Rattle.srp.proofs.Layouts.{bits_of}
use Rattle.srp.specs.Rows.{found, expected, no_data_lem, cmd_bytes}
use Rattle.srp.specs.Table.{table, two_entries}
use Rattle.srp.specs.FurtherRows.{rows}
use Rattle.srp.specs.Written.{written_by_layout, written_by_hand, answers, answer_values}
use Rattle.srp.specs.declared.Refusal.{Refusal}

pub rows_hold : map found rows ≡ map expected rows
unfolding read_message_lem longest_at_lem bad_boundary
rows_hold = refl

-- the lengths that P5 to P7 name
pub lengths : map {A = List ℕ} length (no_data_lem 9 ∷ cmd_bytes 0 0 0 0 9 0 7 (replicate 4 0) ∷ table 0 32 300 [] ∷ table 2 32 300 two_entries ∷ []) ≡ 48 ∷ 52 ∷ 68 ∷ 100 ∷ []
lengths = refl

-- the initiator's messages, as the layouts and as document 01's text have them
pub layouts_hold : written_by_layout ≡ written_by_hand
layouts_hold = refl

-- the bits that each of the ten layouts names
pub named_bits : map (λ (l : Layout). bits_of (all_fields l)) layouts ≡ 380 ∷ 210 ∷ 176 ∷ 72 ∷ 72 ∷ 185 ∷ 120 ∷ 247 ∷ 105 ∷ 105 ∷ []
named_bits = refl

-- numbers stand with their highest byte first
pub big_endian : (number 0 (1 ∷ 2 ∷ 3 ∷ 4 ∷ []) ≡ 0x01020304) × (bytes_of 4 0x01020304 ≡ 1 ∷ 2 ∷ 3 ∷ 4 ∷ [])
big_endian = (refl, refl)

-- a message in its buffer, and none
pub places : (placed ((1 ∷ 2 ∷ []) ∷ []) (7 ∷ 8 ∷ 9 ∷ []) ≡ 1 ∷ 2 ∷ 9 ∷ []) × (placed [] (7 ∷ 8 ∷ 9 ∷ []) ≡ 7 ∷ 8 ∷ 9 ∷ [])
places = (refl, refl)

-- W, A, H and D of a closed channel
pub closed_zero : counters_of closed_port ≡ record { wanted = 0; announced = 0; held = 0; owed = pos 0 }
closed_zero = refl

-- an address in 64 bits
pub wraps : wrapped (piece (2 ^ 64 + 5) 7 512 1024) ≡ piece 5 7 512 1024
wraps = refl

-- each answer's number and values
pub answers_hold : map (λ (r : Result Reply Refusal). (returned r, values_of r)) answers ≡ answer_values
answers_hold = refl
