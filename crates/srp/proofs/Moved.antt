-- Move, step and turn on a port that has the ranges of specs/Ranges.antt leave them.
-- Assumes nothing.
use mathlib.Core.Path.{◌≡◌, refl, ◌∙◌, subst}
use mathlib.Core.Logic.{inr}
use mathlib.Core.Bool.{true}
use mathlib.Core.List.{List, [], ◌∷◌}
use mathlib.Core.Option.{Option, none, some, none-ne-some}
use Prim.Native.Nat.{ℕ}
use native.Mathlib.Omega.{arith}
use borrow.Author.Tests.{lt-ltb, ltb-false}
use Rattle.srp.specs.Lists.{find, change}
use Rattle.srp.specs.Refusals.{first_of_checks}
use Rattle.srp.specs.Both.{of}
use Rattle.srp.specs.Credit.{Side, movable, on_side, Open, has_tag, place, rule_of, Port, with_moves}
use Rattle.srp.specs.Line.{in_line, more_in, Lined}
use Rattle.srp.specs.Calls.{moving, has_pieces, move_checks, move_def, handing, next_in, next_of, number_in, hand_out_lem, step_checks, step_def, serve, serve_first, turn_checks, turn_def}
use Rattle.srp.specs.Ranges.{SideRanges, OpenRanges, Ranges, Ranged}
use Rattle.srp.specs.declared.Direction.{Direction}
use Rattle.srp.specs.declared.Piece.{Piece}
use Rattle.srp.specs.declared.Place.{Place}
use Rattle.srp.proofs.BothLaws.{each_of, each_altered}
use Rattle.srp.proofs.Checks.{passes}
use Rattle.srp.proofs.Pieces.{piece_fits}
use Rattle.srp.proofs.Lines.{lined_step, lined_turn}
use Rattle.srp.proofs.LineLength.{lined_join}
use Rattle.srp.proofs.Kept.{cutting, unless_kept, changed}

module _ {p : Port} (v : Ranges p) where
  -- nothing is required
  abbrev Nothing : Side → Type 0
  Nothing s = s.transfer.required ≡ 0

  -- one direction of an open command changes, and its R does not
  side_kept : (d : Direction) (f : Side → Side) (c : Open) → OpenRanges c → (SideRanges (of d c.sides) → SideRanges (f (of d c.sides)))
      → ((f (of d c.sides)).transfer.required ≡ (of d c.sides).transfer.required) → OpenRanges (on_side d f c)
  side_kept d f c r h e =
      record {
        tag = r.tag;
        sides = each_altered SideRanges d c.sides f r.sides (h (each_of SideRanges d c.sides r.sides));
        awaited = r.awaited;
        unplanned = λ u. each_altered Nothing d c.sides f (r.unplanned u) (e ∙ each_of Nothing d c.sides (r.unplanned u));
      }

  pub move_kept : (tag : ℕ) (d : Direction) (offset count : ℕ) → Ranged (move_def p tag d offset count).port
  move_kept tag d offset count =
      unless_kept v (first_of_checks (move_checks p tag d offset)) _ λ e.
      let q = passes (move_checks p tag d offset) e in
      changed v tag (on_side d (moving offset count)) _ (λ c. refl) (λ c f r.
      let low = ltb-false (movable (of d c.sides)) offset (rw f at q.1.1.1.1.0) in
      side_kept d (moving offset count) c r
      (λ x. record { extent = x.extent; highest = x.highest; at = omega arith; end = omega arith; number = omega arith; required = x.required })
      refl)
      (lined_join has_pieces tag d (moving offset count) p.held (omega (arith, v.room)) p.line v.line (v.line.each tag d ∙ q.1.1.1.1.1.0))

  module _ (tag : ℕ) (d : Direction) where
    hands : (s : Side) (o : Piece) → SideRanges s → next_in p.terms s ≡ some o → SideRanges (handing o.len s)
    hands s o r e =
        let f = piece_fits (rule_of p.terms) 0 s.transfer.at s.transfer.end s.extent.segs o (cutting v) e in
        record {
          extent = r.extent;
          highest = omega (arith, f.upto, r.highest, r.end);
          at = f.upto;
          end = r.end;
          number = omega (arith, r.number, f.some);
          required = r.required;
        }

    abbrev offered : Option Piece
    offered = next_of p.terms d (find (has_tag tag) p.held)

    -- the next piece is handed out, and the line is l
    handed : (o : Piece) → offered ≡ some o → (l : List Place) → Lined has_pieces (change (has_tag tag) (on_side d (handing o.len)) p.held) l
        → Ranged (with_moves p p.announced (change (has_tag tag) (on_side d (handing o.len)) p.held) l)
    handed o e l n =
        changed v tag (on_side d (handing o.len)) l (λ c. refl) (λ c f r. side_kept d (handing o.len) c r (λ x. hands (of d c.sides) o x (rw f at e)) refl) n

    -- a move with a piece is in the line
    has_place : (o : Piece) → offered ≡ some o → in_line (place tag d) p.line ≡ true
    has_place o e = v.line.each tag d ∙ go (find (has_tag tag) p.held) e
      where
        go : (x : Option Open) → next_of p.terms d x ≡ some o → more_in has_pieces d x ≡ true
        go none q = absurd (none-ne-some o q)
        go (some c) q =
            let s = of d c.sides in
            let f = piece_fits (rule_of p.terms) 0 s.transfer.at s.transfer.end s.extent.segs o (cutting v) q in
            lt-ltb s.transfer.at s.transfer.end (omega (arith, f.some, f.upto))

  pub step_kept : (tag : ℕ) (d : Direction) → Ranged (step_def p tag d).port
  step_kept tag d = unless_kept v (first_of_checks (step_checks p tag)) _ λ _. go (offered tag d) refl
    where
      go : (o : Option Piece) → offered tag d ≡ o → Ranged (hand_out_lem p tag d (number_in d (find (has_tag tag) p.held)) o).port
      go none e = inr v
      go (some o) e = handed tag d o e _ (lined_step has_pieces tag d (handing o.len) p.held p.line v.line (has_place tag d o e))

  pub turn_kept : Ranged (turn_def p).port
  turn_kept = unless_kept v (first_of_checks (turn_checks p)) _ λ _. first p.line refl
    where
      serves : (x : Place) (others : List Place) → p.line ≡ x ∷ others → (n : ℕ) (o : Option Piece) → offered x.tag x.direction ≡ o → Ranged (serve p x others n o).port
      serves x others q n none e = inr v
      serves x others q n (some o) e =
          handed x.tag x.direction o e _
          (lined_turn has_pieces x.tag x.direction (handing o.len) p.held others (subst (Lined has_pieces p.held) q v.line))

      first : (l : List Place) → p.line ≡ l → Ranged (serve_first p l).port
      first [] q = inr v
      first (x ∷ others) q = serves x others q (number_in x.direction (find (has_tag x.tag) p.held)) (offered x.tag x.direction) refl
