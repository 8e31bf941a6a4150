-- What a step answers is what demand 3 says: the next of a command's own cuts with the number handed out so far for its move, and of a finished move the least number.
-- Assumes nothing.
use mathlib.Core.Path.{◌≡◌, refl, ap, sym, ◌∙◌, subst}
use mathlib.Core.Bool.{true, false}
use mathlib.Core.List.{List, [], ◌∷◌, ◌++◌, append-nil}
use mathlib.Core.Option.{Option, none, some}
use Prim.Native.Nat.{ℕ, ◌+◌}
use native.Mathlib.Omega.{arith}
use lib.ListN.{length, drop, length-append, length-take, length-drop}
use lib.Seq.{take_all}
use borrow.Author.Tests.{lt-ltb, le-ltb, ltb-false}
use Rattle.std.specs.Prelude.{Result, Ok}
use Rattle.srp.specs.Cutting.{cuts_of}
use Rattle.srp.specs.Credit.{rule_of}
use Rattle.srp.specs.Calls.{kind_of}
use Rattle.srp.specs.declared.Terms.{Terms}
use Rattle.srp.specs.declared.Direction.{Direction}
use Rattle.srp.specs.declared.Piece.{Piece}
use Rattle.srp.specs.declared.Refusal.{Refusal}
use Rattle.srp.specs.declared.Reply.{Reply}
use Rattle.srp.specs.declared.Reply.TheVariants.{Operation, Done}
use Rattle.machine.specs.Machine.{Move, Progress, so_far, with_operation}
use Rattle.machine.specs.Operations.{cuts_of_all, whole_of, pieces_left, said_of, Finished, CurrentFinished, HandedOut, Right}
use Rattle.srp.proofs.CutLaws.{Lawful, some_maximum, stops, some_below, none_above}
use Rattle.srp.proofs.Moves.{next_crosses_none}
use Rattle.srp.proofs.Segments.{slots_enough}
use Rattle.srp.proofs.Fewest.{fewest}
use Rattle.machine.proofs.Moves.{to_of, end_of, at_of, left_of, Steady, ends_by, coming, turn, step_steady}

-- ── no move

-- where none was named there are no cuts
no_cuts : (T : Terms) (g : Progress) → g.moves ≡ [] → length (whole_of T g) ≡ 0
no_cuts T g e = ap (λ (ms : List Move). length (cuts_of_all (rule_of T) g.segs ms)) e

pub no_pieces : (T : Terms) (g : Progress) → g.moves ≡ [] → pieces_left T g ≡ false
no_pieces T g e = le-ltb (length g.operations) (length (whole_of T g)) (omega (arith, no_cuts T g e))

-- ── pieces left

module _ (T : Terms) (cut : Lawful (rule_of T)) (g : Progress) (s : Steady T g) where
  pub some_left : (o : Piece) → coming T cut g s ≡ some o → pieces_left T g ≡ true
  some_left o e = lt-ltb (length g.operations) (length (whole_of T g)) (some_below (whole_of T g) (length g.operations) o (turn T cut g s ∙ e))

  pub none_left : coming T cut g s ≡ none → pieces_left T g ≡ false
  none_left e = le-ltb (length g.operations) (length (whole_of T g)) (none_above (whole_of T g) (length g.operations) (turn T cut g s ∙ e))

-- ── a finished move

-- where all were handed out, those of the current move are its cuts
all_counted : (T : Terms) (cut : Lawful (rule_of T)) (g : Progress) (s : Steady T g) → coming T cut g s ≡ none → CurrentFinished T g (so_far g)
all_counted T cut g s e m f =
    let c = s.current m f in
    let cuts = cuts_of (rule_of T) m.from m.to g.segs in
    let handed = drop g.earlier g.operations in
    let left : left_of T g ≡ [] = s.left ∙ stops (rule_of T) 0 (at_of T g) (end_of g.moves) g.segs e in
    let parts : handed ≡ cuts = sym (append-nil handed) ∙ (rw left at c.parts) in
    let n : length cuts ≡ so_far g = sym (ap {B = ℕ} length parts) ∙ length-drop g.earlier g.operations in
    let least = fewest T m.from m.to g.segs (some_maximum T.maximum T.boundary cut) c.forward (omega (arith, ap to_of f, ends_by T cut g s)) in
    let slots = slots_enough T.maximum T.boundary m.from m.to g.segs s.few in
    subst (Finished T g.segs m) n (record { fewest = least; slots = omega (arith, least.bound, slots) })

-- and where a step hands out the last piece, they are its cuts with it
last_counted : (T : Terms) (cut : Lawful (rule_of T)) (g : Progress) (s : Steady T g) (o : Piece) → coming T cut g s ≡ some o
    → pieces_left T (with_operation o g) ≡ false → CurrentFinished T g (so_far g + 1)
last_counted T cut g s o e h m f =
    let n : so_far (with_operation o g) ≡ so_far g + 1 = omega (arith, length-append g.operations (o ∷ []), s.early) in
    subst (Finished T g.segs m) n (all_counted T cut (with_operation o g) s' (ended (coming T cut (with_operation o g) s') refl) m f)
  where
    s' : Steady T (with_operation o g)
    s' = step_steady T cut g s o e

    ended : (v : Option Piece) → coming T cut (with_operation o g) s' ≡ v → coming T cut (with_operation o g) s' ≡ none
    ended none q = q
    ended (some p) q =
        let k = length (g.operations ++ (o ∷ [])) in
        absurd (omega (arith, ltb-false k (length (whole_of T g)) h, some_below (whole_of T g) k p (turn T cut (with_operation o g) s' ∙ q)))

-- ── what is said of a piece, and a step's answer

-- the next piece
pub handed_out : (T : Terms) (cut : Lawful (rule_of T)) (g : Progress) (s : Steady T g) (o : Piece) → coming T cut g s ≡ some o → HandedOut T g o (so_far g + 1)
handed_out T cut g s o e =
    record {
      next = turn T cut g s ∙ e;
      number = refl;
      uncrossed =
          (next_crosses_none T.maximum T.boundary (at_of T g) (end_of g.moves) g.segs o (some_maximum T.maximum T.boundary cut) e).0;
      last = last_counted T cut g s o e;
    }

module _ (T : Terms) (cut : Lawful (rule_of T)) (g : Progress) (s : Steady T g) (d : Direction) where
  -- a piece is left
  pub next_right : (o : Piece) → coming T cut g s ≡ some o → Right T d g (Ok (Operation (kind_of d) o (so_far g + 1)))
  next_right o e =
      let t = turn T cut g s ∙ e in
      record {
        in_turn = sym (ap (said_of d (so_far g)) t);
        before = λ f. absurd (omega (arith, no_cuts T g f, some_below (whole_of T g) (length g.operations) o t));
        done_iff = ((λ f. absurd (no_done f.0 f.1)), λ f. absurd (omega (arith, ap length f, some_below (whole_of T g) (length g.operations) o t)));
        finished = λ n f. absurd (no_done n f);
        handed = λ k o' n f.
            let same : o ≡ o' = cc in
            let number : so_far g + 1 ≡ n = cc in
            subst (λ (x : Piece). HandedOut T g x n) same (subst (HandedOut T g o) number (handed_out T cut g s o e));
      }
    where
      no_done : (n : ℕ) → ◌≡◌ {A = Result Reply Refusal} (Ok (Operation (kind_of d) o (so_far g + 1))) (Ok (Done n)) → ⊥
      no_done n f = let z : ◌≡◌ {A = ℕ} 0 1 = cc in omega arith

  -- none is
  pub last_right : coming T cut g s ≡ none → Right T d g (Ok (Done (so_far g)))
  last_right e =
      let t = turn T cut g s ∙ e in
      record {
        in_turn = sym (ap (said_of d (so_far g)) t);
        before = λ f.
            let none : so_far g ≡ 0 = omega (arith, no_cuts T g f, ap {B = ℕ} length s.order, length-take (length g.operations) (whole_of T g)) in
            ap {B = Result Reply Refusal} (λ k. Ok (Done k)) none;
        done_iff = (λ f. s.order ∙ take_all (length g.operations) (whole_of T g) (none_above (whole_of T g) (length g.operations) t), λ f. (so_far g, refl));
        finished = λ n f. let number : so_far g ≡ n = cc in subst (CurrentFinished T g) number (all_counted T cut g s e);
        handed = λ k o n f. let z : ◌≡◌ {A = ℕ} 0 1 = cc in absurd (omega arith);
      }
