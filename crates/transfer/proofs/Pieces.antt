-- One direction of a command's slot under move and step, and the piece that step hands out.
-- Assumes nothing.
use mathlib.Core.Path.{◌≡◌, refl, sym, ◌∙◌}
use mathlib.Core.List.{List}
use mathlib.Core.Option.{Option, none, some}
use Prim.Native.Nat.{ℕ, ◌+◌, ◌-◌, ◌*◌, ◌^◌, ◌≤◌, ◌<◌, min}
use native.Mathlib.Omega.{arith}
use lib.ListN.{take, drop}
use Rattle.srp.specs.Descriptors.{segments_of}
use Rattle.srp.specs.Cutting.{next, trimmed}
use Rattle.srp.specs.Both.{of}
use Rattle.srp.specs.Credit.{Side, on_side, rule_of}
use Rattle.srp.specs.Calls.{moving, next_in, wrapped}
use Rattle.srp.specs.declared.Direction.{Direction}
use Rattle.srp.specs.declared.Direction.TheVariants.{Out, In}
use Rattle.srp.specs.declared.Terms.{Terms}
use Rattle.srp.specs.declared.Piece.{Piece}
use Rattle.std.specs.Prelude.{Option as Answered, Some, None}
use Rattle.srp.proofs.CutLaws.{up_to_lem}
use Rattle.srp.proofs.Pieces.{piece_fits}
use Rattle.cut.specs.Walk.{next_wrapped}
use Rattle.words.specs.Slots.{PartFits, part_for, place_at_lem, place_for_lem, moved_slot}
use Rattle.words.specs.Head.{head_of}
use Rattle.words.specs.View.{side_of, open_of}
use Rattle.words.specs.declared.Part.{Part}
use Rattle.words.specs.declared.Slot.{Slot}
use Rattle.words.proofs.Ports.{head_fits}

-- ── a direction of the slot

module _ (st : List ℕ) (c : Slot) (d : Direction) {p : Part} (e : p ≡ part_for d c) where
  -- it is the command's, by what was read of the slot
  pub side_read : {place : ℕ} → place ≡ c.place → of d (open_of st c).sides ≡ side_of st (place_at_lem d place) p
  side_read f = rw (e, f) (by d)
    where
      by : (d : Direction) → of d (open_of st c).sides ≡ side_of st (place_for_lem d c) (part_for d c)
      by Out = refl
      by In = refl

  -- with a move named it is the command with that move
  pub named_open : (offset count : ℕ) {to : ℕ} → to ≡ trimmed offset count (min p.transfer.required p.total)
      → open_of st (moved_slot d p.transfer.highest offset to 0 c) ≡ on_side d (moving offset count) (open_of st c)
  named_open offset count f = rw (f, e) (by d)
    where
      by : (d : Direction)
          → open_of st (moved_slot d (part_for d c).transfer.highest offset (trimmed offset count (min (part_for d c).transfer.required (part_for d c).total)) 0 c)
          ≡ on_side d (moving offset count) (open_of st c)
      by Out = refl
      by In = refl

-- ── the next piece

-- from the part of the slot and the store
pub next_part : (T : Terms) (st : List ℕ) (place : ℕ) (d : Direction) (p : Part) {at : ℕ} → at ≡ place_at_lem d place
    → next (rule_of T) p.transfer.at p.transfer.end (segments_of (take (at + p.segments * 16 - at) (drop at st))) ≡ next_in T (side_of st (place_at_lem d place) p)
next_part T st place d p {at} f = let h : at + p.segments * 16 - at ≡ 16 * p.segments = omega arith in rw (h, f) refl

-- it has a byte, and ends by the move's end
ends_by : (T : Terms) → 1 ≤ T.maximum → (s : Side) (o : Piece) → next_in T s ≡ some o → (1 ≤ o.len) × (s.transfer.at + o.len ≤ s.transfer.end)
ends_by T some_byte s o e =
    let f = piece_fits (rule_of T) 0 s.transfer.at s.transfer.end s.extent.segs o (up_to_lem T.maximum T.boundary some_byte) e in
    (f.some, f.upto)

-- ── the next piece as the walk over the memory descriptors answers it

module _ (n : Option Piece) {r : Answered Piece} (is : r ≡ next_wrapped n) where
  -- done
  pub no_piece : r ≡ None → n ≡ none
  no_piece e = go n (sym is ∙ e)
    where
      go : (n : Option Piece) → next_wrapped n ≡ None → n ≡ none
      go none q = refl
      go (some o) q = let z : ◌≡◌ {A = ℕ} 0 1 = cc in let y : ⊥ = omega arith in absurd y

  -- a piece, its address in 64 bits
  pub a_piece : {m : Piece} → r ≡ Some m → (o : Piece) × (n ≡ some o) × (m ≡ wrapped o)
  a_piece {m} e = go n (sym is ∙ e)
    where
      go : (n : Option Piece) → next_wrapped n ≡ Some m → (o : Piece) × (n ≡ some o) × (m ≡ wrapped o)
      go none q = let z : ◌≡◌ {A = ℕ} 0 1 = cc in let y : ⊥ = omega arith in absurd y
      go (some o) q = (o, refl, (cc))

-- ── the move's next byte

-- behind the next piece it stays in 32 bits, and is at or behind as many bytes as there are operations then
pub next_fits : (l st : List ℕ) (at : ℕ) (p : Part) {r : Answered Piece} (m : Piece) → PartFits p → p.transfer.end < 2 ^ 32
    → r ≡ next_wrapped (next_in (head_of l).terms (side_of st at p)) → r ≡ Some m → (p.transfer.at + m.len < 2 ^ 32) × (p.transfer.number + 1 ≤ p.transfer.at + m.len)
next_fits l st at p m fits small is f =
    let T : Terms = (head_of l).terms in
    let o = a_piece (next_in T (side_of st at p)) is f in
    let e = ends_by T (head_fits l).terms.smallest (side_of st at p) o.0 o.1 in
    rw o.2 (omega (arith, e, small), omega (arith, e, fits.counted))
