-- Document 01, "Calls and refusals", and document 02, jobs 1, 4, 7 and 8: the events of demand 3 that move a command's data: plan, the naming of a move, step and
-- turn. What an event is, is specs/Actions.antt; what a step and a turn must say, specs/Operations.antt.
use Rattle.std.specs.Prelude.{◌≡◌, Bool, not, List, [], ◌∷◌, ◌++◌, ℕ}
use Rattle.std.proofs.Math.Option.{Option, none, some}
use Rattle.srp.specs.Refusals.{Check}
use Rattle.srp.specs.Lists.{find, change, is_some}
use Rattle.srp.specs.Both.{of}
use Rattle.srp.specs.Credit.{on_side, has_tag, place}
use Rattle.srp.specs.Line.{put_back, keeps_place}
use Rattle.srp.specs.Tables.{is_waiting}
use Rattle.srp.specs.Calls.{is_planned, plan_def, move_def, step_def, turn_def}
use Rattle.srp.specs.Answers.{operation_in}
use Rattle.machine.specs.Actions.{anything, Owners}
use Rattle.machine.specs.Operations.{is_beyond, is_unfinished, Right, TurnRight}
use Rattle.machine.specs.Machine.{Progress, Track, planned_for, with_move, with_operation, Machine, tracked, with_tracks, with_moving, Login}
use Rattle.srp.specs.declared.Refusal.TheVariants.{TagNotOpen, Unplanned, Planned, Offset, Unfinished, Waiting}
use Rattle.srp.specs.declared.Terms.{Terms}
use Rattle.srp.specs.declared.Direction.{Direction}
use Rattle.srp.specs.declared.Piece.{Piece}
use Rattle.srp.specs.declared.Place.{Place}

-- "33 plan, move, step or finish on a waiting command .. directly after 24"
abbrev pub open_tests : Machine → ℕ → List Check
open_tests m tag = (not (is_some (tracked m tag)), TagNotOpen) ∷ (is_waiting (tracked m tag), Waiting) ∷ []

abbrev pub planning : ℕ → ℕ → ℕ → Owners
planning tag out inn =
    record {
      call = λ p. plan_def p tag out inn;
      checks = λ m. open_tests m tag ++ ((is_planned (tracked m tag), Planned) ∷ []);
      effect = λ m r. with_tracks m (change (has_tag tag) (planned_for out inn) m.work.tracks);
      writes = [];
      answer = anything;
    }

-- one direction of the command with the tag changes by f, and the line by whether its move has pieces then
abbrev pub moved_by : Terms → Machine → ℕ → Direction → (Progress → Progress) → (line : Bool → List Place) → Machine
moved_by T m tag d f line =
    let ts : List Track = change (has_tag tag) (on_side d f) m.work.tracks in
    with_moving m ts (line (is_unfinished T d (find (has_tag tag) ts)))

-- "with the naming of a move as one more event"; "Each named move with pieces joins a line at its end", however long it is
abbrev pub naming : Login → ℕ → Direction → ℕ → ℕ → Owners
naming L tag d offset count =
    record {
      call = λ p. move_def p tag d offset count;
      checks = λ m.
          open_tests m tag
          ++ ((not (is_planned (tracked m tag)), Unplanned)
          ∷ (is_beyond d offset (tracked m tag), Offset)
          ∷ (is_unfinished L.terms d (tracked m tag), Unfinished)
          ∷ []);
      effect = λ m r. moved_by L.terms m tag d (with_move offset count) (λ more. put_back more (place tag d) m.work.line);
      writes = [];
      answer = anything;
    }

-- "a single step's last piece" removes its move from the line
abbrev pub after_step : Terms → Machine → ℕ → Direction → Option Piece → Machine
after_step T m tag d none = m
after_step T m tag d (some o) = moved_by T m tag d (with_operation o) (λ more. keeps_place more (place tag d) m.work.line)

abbrev pub stepping : Login → ℕ → Direction → Owners
stepping L tag d =
    record {
      call = λ p. step_def p tag d;
      checks = λ m. open_tests m tag ++ ((not (is_planned (tracked m tag)), Unplanned) ∷ []);
      effect = λ m r. after_step L.terms m tag d (operation_in r);
      writes = [];
      answer = λ m r ss. (t : Track) → tracked m tag ≡ some t → Right L.terms d (of d t.sides) r;
    }

-- "serves the first and puts it back at the end if pieces remain"
abbrev pub after_turn : Terms → Machine → (line : List Place) → Option Piece → Machine
after_turn T m [] o = m
after_turn T m (x ∷ others) none = m
after_turn T m (x ∷ others) (some o) = moved_by T m x.tag x.direction (with_operation o) (λ more. put_back more x others)

-- "Turns are events of demand 3 too"; of the refusals a turn draws 21 alone
abbrev pub turning : Login → Owners
turning L =
    record {
      call = turn_def;
      checks = λ m. [];
      effect = λ m r. after_turn L.terms m m.work.line (operation_in r);
      writes = [];
      answer = λ m r ss. TurnRight L.terms m r;
    }
