-- Document 02, job 8: what the line of a port with the ranges says of a turn. It has at most 32 moves, its first one has a piece, and a turn says idle just
-- where no move has pieces.
-- Assumes nothing.
use mathlib.Core.Path.{◌≡◌, refl, sym, ◌∙◌, subst}
use mathlib.Core.Bool.{true, false, true≢false}
use mathlib.Core.List.{List, [], ◌∷◌}
use mathlib.Core.Option.{Option, none, some}
use Prim.Native.Nat.{ℕ}
use native.Mathlib.Omega.{arith}
use Rattle.std.specs.Prelude.{Ok}
use Rattle.srp.specs.Lists.{find, is_some}
use Rattle.srp.specs.Refusals.{first_of_checks}
use Rattle.srp.specs.Both.{of}
use Rattle.srp.specs.Credit.{Open, has_tag}
use Rattle.srp.specs.Line.{more_in}
use Rattle.srp.specs.Calls.{unless, has_pieces, unfinished, next_of, number_in, serve, serve_first, turn_checks}
use Rattle.srp.specs.Ranges.{SideRanges, OpenRanges, ShortLine, FirstHasPiece, IdleTurns}
use Rattle.srp.specs.declared.Direction.{Direction}
use Rattle.srp.specs.declared.Piece.{Piece}
use Rattle.srp.specs.declared.Place.{Place}
use Rattle.srp.specs.declared.Refusal.{Refusal}
use Rattle.srp.specs.declared.Reply.TheVariants.{Idle}
use Rattle.srp.proofs.ListLaws.{all_find}
use Rattle.srp.proofs.BothLaws.{each_of}
use Rattle.srp.proofs.Moves.{has_pieces_lem}
use Rattle.srp.proofs.Places.{place_self}
use Rattle.srp.proofs.LineLength.{lined_short}

pub short_line : ShortLine
short_line p v = omega (arith, v.room, lined_short has_pieces p.held p.line v.line)

pub first_has_piece : FirstHasPiece
first_has_piece p v x others e = go (find (has_tag x.tag) p.held) refl (sym (v.line.each x.tag x.direction) ∙ rw (e, place_self x))
  where
    go : (o : Option Open) → find (has_tag x.tag) p.held ≡ o → more_in has_pieces x.direction o ≡ true → is_some (next_of p.terms x.direction o) ≡ true
    go none f q = absurd (true≢false (sym q))
    go (some c) f q =
        let r = each_of SideRanges x.direction c.sides (all_find OpenRanges (has_tag x.tag) p.held c v.commands f).sides in
        sym (has_pieces_lem p.terms (of x.direction c.sides) v.smallest r) ∙ q

pub idle_turns : IdleTurns
idle_turns p v =
    record {
      says = (λ e. first p.line refl (subst SaysIdle passed e), λ e. subst SaysIdle (sym passed) (rw e));
      means = (λ e tag d. sym (v.line.each tag d) ∙ rw e, empty p.line refl);
    }
  where
    -- one that has a piece is served
    served : (x : Place) (others : List Place) (n : ℕ) (o : Option Piece) → is_some o ≡ true → (serve p x others n o).reply ≡ Ok Idle → p.line ≡ []
    served x others n none h e = absurd (true≢false (sym h))
    served x others n (some o) h e = let z : ◌≡◌ {A = ℕ} 0 1 = cc in absurd (omega arith)

    first : (l : List Place) → p.line ≡ l → (serve_first p l).reply ≡ Ok Idle → p.line ≡ []
    first [] q e = q
    first (x ∷ others) q e =
        let c = find (has_tag x.tag) p.held in
        served x others (number_in x.direction c) (next_of p.terms x.direction c) (first_has_piece p v x others q) e

    passed : first_of_checks (turn_checks p) ≡ none
    passed = rw v.live

    SaysIdle : Option Refusal → Type 0
    SaysIdle r = (unless r p (serve_first p p.line)).reply ≡ Ok Idle

    empty : (l : List Place) → p.line ≡ l → ((tag : ℕ) (d : Direction) → unfinished d (find (has_tag tag) p.held) ≡ false) → p.line ≡ []
    empty [] q h = q
    empty (x ∷ others) q h =
        absurd (true≢false (sym (rw (q, place_self x)) ∙ v.line.each x.tag x.direction ∙ h x.tag x.direction))
