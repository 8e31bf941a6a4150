-- Move and step do what demand 3 says of them: steps hand out the cuts of a command's own moves in order.
-- Assumes nothing.
use mathlib.Core.Path.{◌≡◌, refl, ap, sym, ◌∙◌, subst}
use mathlib.Core.Bool.{Bool, true, false, true≢false}
use mathlib.Core.List.{List, map}
use mathlib.Core.Option
use mathlib.Core.Option.{Option, none, some}
use Prim.Native.Nat.{ℕ, ◌+◌, ◌≤◌}
use native.Mathlib.Omega.{arith}
use lib.Dec.{ltb}
use lib.ListN.{length}
use borrow.Author.Tests.{ltb-false, not-false}
use Rattle.std.specs.Prelude.{Ok}
use Rattle.srp.specs.Limits.{most_buffers}
use Rattle.srp.specs.Lists.{find, change, is_some, All}
use Rattle.srp.specs.Refusals.{first_of_checks}
use Rattle.srp.specs.Both.{of}
use Rattle.srp.specs.Credit.{Side, movable, with_sides, on_side, Open, rule_of, Port, has_tag, place}
use Rattle.srp.specs.Line.{in_line, Lined, joins, put_back, keeps_place}
use Rattle.srp.specs.Take.{is_open_lem}
use Rattle.srp.specs.declared.Terms.{Terms}
use Rattle.srp.specs.Calls.{is_planned, moving, beyond, has_pieces, unfinished, altered, move_checks, move_def, kind_of, handing, next_in, next_of, number_in, wrapped, hand_out_lem, step_checks, step_def}
use Rattle.srp.specs.Answers.{refusal_in}
use Rattle.machine.specs.Machine.{Progress, so_far, movable_in, Track, with_move, with_operation, Machine, tracked, with_moving, Login}
use Rattle.machine.specs.Actions.{by_owner}
use Rattle.machine.specs.Operations.{whole_of, is_beyond, pieces_left, is_unfinished, Right}
use Rattle.machine.specs.Transfers.{naming, stepping}
use Rattle.srp.specs.declared.Direction.{Direction}
use Rattle.srp.specs.declared.Piece.{Piece}
use Rattle.srp.specs.declared.Place.{Place}
use Rattle.srp.specs.declared.Reply.TheVariants.{Performed, Operation, Done}
use Rattle.srp.proofs.Checks.{passes}
use Rattle.srp.proofs.ListLaws.{find_map, all_find}
use Rattle.srp.proofs.Lines.{lined_end, lined_step}
use Rattle.srp.proofs.LineLength.{joins_end}
use Rattle.srp.proofs.BothLaws.{of_each, alter_each, each_of, each_altered}
use Rattle.srp.proofs.CutLaws.{Lawful}
use Rattle.srp.proofs.Pieces.{wrapped_same}
use Rattle.machine.proofs.Moves.{side_in, at_of, end_of, Steady, coming, same_left, step_steady, step_side, move_steady, move_side}
use Rattle.machine.proofs.Answers.{some_left, next_right, last_right}
use Rattle.machine.proofs.Invariant.{open_in, Sound, InStep, held, find_same, open_same, Obeys, quiet}
use Rattle.machine.proofs.Owners.{Unrefused, owned, commands', sound', lines, found, awaited_same, plan_same}

-- a direction's move has pieces in the port just where it has in the machine
more_same : (T : Terms) → Lawful (rule_of T) → (tag : ℕ) (d : Direction) (ts : List Track) → All (Sound T) ts
    → unfinished d (find (has_tag tag) (map (open_in T) ts)) ≡ is_unfinished T d (find (has_tag tag) ts)
more_same T cut tag d ts s = ap (unfinished d) (find_map (open_in T) (has_tag tag) ts) ∙ go (find (has_tag tag) ts) refl
  where
    go : (o : Option Track) → find (has_tag tag) ts ≡ o → unfinished d (Option.map (open_in T) o) ≡ is_unfinished T d o
    go none e = refl
    go (some t) e =
        ap has_pieces (of_each d (side_in T) t.sides)
        ∙ same_left T cut (of d t.sides) (each_of (Steady T) d t.sides (all_find (Sound T) (has_tag tag) ts t s e).steady)

-- ── one direction of an open command

module _ {L : Login} {m : Machine} {p : Port} (h : InStep L m p) (cut : Lawful (rule_of L.terms)) (tag : ℕ) (d : Direction) where
  abbrev pub T : Terms
  T = L.terms

  module _ (t : Track) (f : tracked m tag ≡ some t) where
    abbrev pub here : Progress
    here = of d t.sides

    pub steady_of : Steady T here
    steady_of = each_of (Steady T) d t.sides (all_find (Sound T) (has_tag tag) m.work.tracks t h.work.sound f).steady

    -- it stands in the port as in the machine
    side_of_lem : of d (open_in T t).sides ≡ side_in T here
    side_of_lem = of_each d (side_in T) t.sides

  module _ (g : Progress → Progress) where
    -- the machine's commands when it changes by g, and whether its move has pieces then
    abbrev pub moved_tracks : List Track
    moved_tracks = change (has_tag tag) (on_side d g) m.work.tracks

    abbrev pub still_moves : Bool
    still_moves = is_unfinished T d (find (has_tag tag) moved_tracks)

  -- it changes, in the port by f and in the machine by g, and the lines by F and G of whether it has pieces then
  alters : (f : Side → Side) (g : Progress → Progress) → is_planned (find (has_tag tag) p.held) ≡ true
      → ((t : Track) → tracked m tag ≡ some t → f (side_in T (of d t.sides)) ≡ side_in T (g (of d t.sides)))
      → ((t : Track) → tracked m tag ≡ some t → Steady T (g (of d t.sides)))
      → (F G : Bool → List Place) → F (still_moves g) ≡ G (still_moves g) → Lined (pieces_left T) (moved_tracks g) (G (still_moves g))
      → InStep L (with_moving m (moved_tracks g) (G (still_moves g))) (altered p tag d f F)
  alters f g z same steady F G e r =
      lines h tag (on_side d f) (on_side d g) (λ t. refl) agree keep (F (unfinished d (find (has_tag tag) cs))) (G (still_moves g)) (ap F now_same ∙ e) r
    where
      cs : List Open
      cs = change (has_tag tag) (on_side d f) p.held

      agree : (t : Track) → tracked m tag ≡ some t → on_side d f (open_in T t) ≡ open_in T (on_side d g t)
      agree t e = ap (with_sides t t.planned) (alter_each d (side_in T) t.sides f g (same t e))

      planned_now : (t : Track) → tracked m tag ≡ some t → t.planned ≡ true
      planned_now t e = sym (ap is_planned (found h tag t e)) ∙ z

      keep : (t : Track) → tracked m tag ≡ some t → Sound T t → Sound T (on_side d g t)
      keep t e s =
          record {
            waits = λ w. absurd (true≢false (sym (planned_now t e) ∙ s.waits w));
            unplanned = λ u. absurd (true≢false (sym (planned_now t e) ∙ u));
            steady = each_altered (Steady T) d t.sides g s.steady (steady t e);
            awaited = s.awaited;
          }

      now_same : unfinished d (find (has_tag tag) cs) ≡ still_moves g
      now_same =
          ap (λ (x : List Open). unfinished d (find (has_tag tag) x)) (commands' h tag (on_side d f) (on_side d g) (λ t. refl) agree keep)
          ∙ more_same T cut tag d (moved_tracks g) (sound' h tag (on_side d f) (on_side d g) (λ t. refl) agree keep)

  -- ── a move

  beyond_same : (offset : ℕ) → beyond d offset (find (has_tag tag) p.held) ≡ is_beyond d offset (tracked m tag)
  beyond_same offset = by_case (tracked m tag) refl
    where
      by_case : (o : Option Track) → tracked m tag ≡ o → beyond d offset (find (has_tag tag) p.held) ≡ is_beyond d offset o
      by_case none e = ap (beyond d offset) (find_same h tag ∙ ap (Option.map (open_in T)) e)
      by_case (some t) e = ap (beyond d offset) (found h tag t e) ∙ ap (λ (s : Side). ltb (movable s) offset) (side_of_lem t e)

  unfinished_same : unfinished d (find (has_tag tag) p.held) ≡ is_unfinished T d (tracked m tag)
  unfinished_same = ap (λ (cs : List Open). unfinished d (find (has_tag tag) cs)) h.work.commands ∙ more_same T cut tag d m.work.tracks h.work.sound

  module _ (t : Track) (f : tracked m tag ≡ some t) where
    within : (offset : ℕ) → beyond d offset (find (has_tag tag) p.held) ≡ false → offset ≤ movable_in (here t f)
    within offset e = ltb-false (movable_in (here t f)) offset (sym (ap (is_beyond d offset) f) ∙ sym (beyond_same offset) ∙ e)

    through : unfinished d (find (has_tag tag) p.held) ≡ false → length (whole_of T (here t f)) ≤ length (here t f).operations
    through e = ltb-false (length (here t f).operations) (length (whole_of T (here t f))) (sym (ap (is_unfinished T d) f) ∙ sym unfinished_same ∙ e)

  -- a move that may be named is not in the line, and of 16 commands the line is not full
  absent : unfinished d (find (has_tag tag) p.held) ≡ false → in_line (place tag d) m.work.line ≡ false
  absent e = h.work.lined.each tag d ∙ sym unfinished_same ∙ e

  some_room : length m.work.tracks ≤ most_buffers
  some_room = omega (arith, held h, h.room)

  pub move_obeys : (offset count : ℕ) → Obeys L m (by_owner (naming L tag d offset count)) (move_def p tag d offset count)
  move_obeys offset count =
      owned h (naming L tag d offset count) (first_of_checks (move_checks p tag d offset)) _
      (rw (h.live, open_same h tag, awaited_same h tag, plan_same h tag, beyond_same offset, unfinished_same)) refl λ z.
      let c = passes (move_checks p tag d offset) z in
      let low = c.1.1.1.1.0 in
      let done = c.1.1.1.1.1.0 in
      record {
        fine =
            quiet
            (alters (moving offset count) (with_move offset count) (not-false _ c.1.1.1.0)
            (λ t f. move_side T cut (here t f) (steady_of t f) offset count (within t f offset low) (through t f done))
            (λ t f. move_steady T cut (here t f) (steady_of t f) offset count (within t f offset low) (through t f done))
            (λ more. joins more (place tag d) p.line) (λ more. put_back more (place tag d) m.work.line)
            (ap (joins (still_moves (with_move offset count)) (place tag d)) h.work.line ∙ joins_end (pieces_left T) tag d (with_move offset count) m.work.tracks some_room m.work.line h.work.lined (absent done))
            (lined_end (pieces_left T) tag d (with_move offset count) m.work.tracks m.work.line h.work.lined (absent done)))
            (Ok Performed);
        wrote = refl;
        answer = tt;
      }

  -- ── a step

  abbrev pub offered : Option Piece
  offered = next_of p.terms d (find (has_tag tag) p.held)

  abbrev pub number : ℕ
  number = number_in d (find (has_tag tag) p.held)

  module _ (t : Track) (f : tracked m tag ≡ some t) where
    -- the number handed out for its current move, in the machine and in the port
    pub number_of : so_far (here t f) ≡ number
    number_of = sym (ap (number_in d) (found h tag t f) ∙ ap (λ (s : Side). s.transfer.number) (side_of_lem t f))

    -- a command's next piece, in the port and in the machine
    pub next_of_lem : (v : Option Piece) → offered ≡ v → coming T cut (here t f) (steady_of t f) ≡ v
    next_of_lem v e = sym (ap (next_in T) (side_of_lem t f)) ∙ sym (ap (next_of T d) (found h tag t f)) ∙ rw h.terms at e

    -- its address is the segment's, and wraps nowhere
    pub unwrapped : (o : Piece) → offered ≡ some o → wrapped o ≡ o
    unwrapped o e =
        wrapped_same (rule_of T) (at_of T (here t f)) (end_of (here t f).moves) (here t f).segs o (steady_of t f).reach cut (next_of_lem (some o) e)

    -- a step hands out the next of the command's own cuts, or says done when there is none
    right : (v : Option Piece) → offered ≡ v → Right T d (here t f) (hand_out_lem p tag d number v).reply
    right none e = subst (λ (k : ℕ). Right T d (here t f) (Ok (Done k))) number_of (last_right T cut (here t f) (steady_of t f) d (next_of_lem none e))
    right (some o) e =
        subst (λ (k : ℕ). Right T d (here t f) (Ok (Operation (kind_of d) (wrapped o) (k + 1)))) number_of
        (subst (λ (x : Piece). Right T d (here t f) (Ok (Operation (kind_of d) x (so_far (here t f) + 1)))) (sym (unwrapped o e))
        (next_right T cut (here t f) (steady_of t f) d o (next_of_lem (some o) e)))

  -- the piece goes to the command's operations, in the port and in the machine, and the lines change by F and G
  pub hands_on : (o : Piece) → offered ≡ some o → is_planned (find (has_tag tag) p.held) ≡ true
      → (F G : Bool → List Place) → let g = with_operation (wrapped o) in F (still_moves g) ≡ G (still_moves g) → Lined (pieces_left T) (moved_tracks g) (G (still_moves g))
      → InStep L (with_moving m (moved_tracks g) (G (still_moves g))) (altered p tag d (handing o.len) F)
  hands_on o e z F G q r =
      alters (handing o.len) (with_operation (wrapped o)) z
      (λ t f.
      subst (λ (x : Piece). handing o.len (side_in T (here t f)) ≡ side_in T (with_operation x (here t f))) (sym (unwrapped t f o e))
      (step_side T cut (here t f) (steady_of t f) o (next_of_lem t f (some o) e)))
      (λ t f.
      subst (λ (x : Piece). Steady T (with_operation x (here t f))) (sym (unwrapped t f o e))
      (step_steady T cut (here t f) (steady_of t f) o (next_of_lem t f (some o) e)))
      F G q r

  -- a move with a piece is in the line
  has_place : (o : Piece) → offered ≡ some o → is_open_lem p tag ≡ true → in_line (place tag d) m.work.line ≡ true
  has_place o e z = h.work.lined.each tag d ∙ go (tracked m tag) refl (sym (open_same h tag) ∙ z)
    where
      go : (x : Option Track) → tracked m tag ≡ x → is_some x ≡ true → is_unfinished T d x ≡ true
      go none f q = absurd (true≢false (sym q))
      go (some t) f q = some_left T cut (here t f) (steady_of t f) o (next_of_lem t f (some o) e)

  hand_unrefused : (v : Option Piece) → refusal_in (hand_out_lem p tag d number v).reply ≡ none
  hand_unrefused none = refl
  hand_unrefused (some o) = refl

  pub step_obeys : Obeys L m (by_owner (stepping L tag d)) (step_def p tag d)
  step_obeys =
      owned h (stepping L tag d) (first_of_checks (step_checks p tag)) (hand_out_lem p tag d number offered) (rw (h.live, open_same h tag, awaited_same h tag, plan_same h tag)) (hand_unrefused offered) λ z.
      hands (passes (step_checks p tag) z) offered refl
    where
      hands : All (λ c. c.0 ≡ false) (step_checks p tag) → (v : Option Piece) → offered ≡ v → Unrefused h (stepping L tag d) (hand_out_lem p tag d number v)
      hands c none e = record { fine = quiet h (Ok (Done number)); wrote = refl; answer = λ t f. right t f none e }
      hands c (some o) e =
          record {
            fine =
                quiet
                (hands_on o e (not-false _ c.1.1.1.0) (λ more. keeps_place more (place tag d) p.line) (λ more. keeps_place more (place tag d) m.work.line)
                (ap (keeps_place (still_moves (with_operation (wrapped o))) (place tag d)) h.work.line)
                (lined_step (pieces_left T) tag d (with_operation (wrapped o)) m.work.tracks m.work.line h.work.lined (has_place o e (not-false _ c.1.0))))
                (Ok (Operation (kind_of d) (wrapped o) (number + 1)));
            wrote = refl;
            answer = λ t f. right t f (some o) e;
          }
