-- Move and step behind their checks: a move named, the next piece of the command found handed out, or none left.
-- Assumes nothing.
use mathlib.Core.Path.{◌≡◌, refl, sym, ◌∙◌, ap}
use mathlib.Core.Bool.{Bool, true, false}
use mathlib.Core.List.{List}
use mathlib.Core.Option.{Option, some, map}
use Prim.Native.Nat.{ℕ, ◌≤◌, ◌<◌, min}
use native.Mathlib.Omega.{arith}
use lib.Dec.{ltb}
use lib.ListN.{get_or}
use borrow.Author.Tests.{lt-ltb, le-ltb}
use Rattle.std.specs.Prelude.{Ok, Err}
use Rattle.srp.specs.Lists.{find, change, without}
use Rattle.srp.specs.Both.{of}
use Rattle.srp.specs.Credit.{Side, movable, on_side, Open, Port, has_tag, place, with_moves}
use Rattle.srp.specs.Line.{more_in, same_place_lem, joins, keeps_place}
use Rattle.srp.specs.Tables.{is_waiting}
use Rattle.srp.specs.Calls.{moving, has_pieces, unfinished, altered, kind_of, handing, next_of, number_in, hand_out_lem, step_outcome}
use Rattle.srp.specs.declared.Direction.{Direction}
use Rattle.srp.specs.declared.Direction.TheVariants.{Out, In}
use Rattle.srp.specs.declared.Terms.{Terms}
use Rattle.srp.specs.declared.Kind.{Kind}
use Rattle.srp.specs.declared.Piece.{Piece}
use Rattle.srp.specs.declared.Place.{Place}
use Rattle.srp.specs.declared.Refusal.TheVariants.{Offset, Unfinished}
use Rattle.srp.specs.declared.Reply.TheVariants.{Performed, Operation, Done}
use Rattle.srp.proofs.Tags.{find_changed}
use Rattle.words.specs.Slots.{slots, no_slot, PartIs, place_at_lem, moved_slot}
use Rattle.words.specs.Line.{line}
use Rattle.words.specs.Head.{head_of, SlotChanged}
use Rattle.words.specs.View.{side_of, open_of, open_port_lem, view}
use Rattle.words.specs.declared.Head.{Head}
use Rattle.words.specs.declared.Part.{Part}
use Rattle.words.specs.declared.Slot.{Slot}
use Rattle.words.proofs.Ports.{while_open, view_live}
use Rattle.line.specs.Changes.{LineChanged}
use Rattle.state.specs.Changes.{FoundAt}
use Rattle.state.specs.Leaving.{Leaves}
use Rattle.state.specs.declared.Leaving.TheVariants.{Handed}
use Rattle.state.proofs.Promises.{refused, replies_by, performed, changed_view, found_first}
use Rattle.state.proofs.Waiting.{waits_as}
use Rattle.transfer.specs.Stepping.{Names, command_at, side_at, HandsNone, HandsOne, StepsPlanned}
use Rattle.transfer.proofs.Checks.{move_beyond, move_unfinished, move_passed}
use Rattle.transfer.proofs.Pieces.{side_read}

-- words with another line alone are the port with that line
relined_view : (l l' st : List ℕ) → (head_of l).live ≡ true → slots l' ≡ slots l → head_of l' ≡ head_of l
    → view l' st ≡ with_moves (view l st) (view l st).announced (view l st).held (line l')
relined_view l l' st live s h =
    while_open l' st (ap (λ (x : Head). x.live) h ∙ live)
    ∙ (λ j. open_port_lem (h j) (s j) (line l') st)
    ∙ ap (λ (p : Port). with_moves p p.announced p.held (line l')) (sym (while_open l st live))

-- the line of the open port that words are
pub view_line : (l st : List ℕ) → (head_of l).live ≡ true → (view l st).line ≡ line l
view_line l st live = ap (λ (p : Port). p.line) (while_open l st live)

module _ {l : List ℕ} {tag i : ℕ} (F : FoundAt l tag i) (live : (head_of l).live ≡ true) where
  -- the command found
  abbrev here : List ℕ → Open
  here st = command_at l st i

  open_view : (st : List ℕ) → (view l st).live ≡ true
  open_view st = view_live l st ∙ live

  -- ── one direction of it changed, and the line

  module _ (st : List ℕ) (d : Direction) (k : Side → Side) where
    -- whether its move has pieces then
    still : unfinished d (find (has_tag tag) (change (has_tag tag) (on_side d k) (view l st).held)) ≡ has_pieces (k (side_at l st i d))
    still =
        ap (more_in has_pieces d) (find_changed tag (on_side d k) (λ c. refl) (view l st).held ∙ ap (map (on_side d k)) (found_first F live st)) ∙ by d
      where
        by : (d : Direction) → more_in has_pieces d (some (on_side d k (here st))) ≡ has_pieces (k (of d (here st).sides))
        by Out = refl
        by In = refl

    -- the words l' have the command in its slot, and l'' another line too
    pub altered_view : {l' : List ℕ} (l'' : List ℕ) {slot : Slot} (more : Bool) (f : Bool → List Place) → SlotChanged l l' i (λ _. slot) → open_of st slot ≡ on_side d k (here st)
        → more ≡ has_pieces (k (side_at l st i d)) → slots l'' ≡ slots l' → head_of l'' ≡ head_of l' → line l'' ≡ f more → view l'' st ≡ altered (view l st) tag d k f
    altered_view {l'} l'' {slot} more f C a m s h e =
        relined_view l' l'' st (ap (λ (x : Head). x.live) C.head ∙ live) s h
        ∙ ap (λ (p : Port). with_moves p p.announced p.held (line l'')) (changed_view l l' st live F C (on_side d k) a)
        ∙ ap (with_moves (view l st) (view l st).announced (change (has_tag tag) (on_side d k) (view l st).held)) (e ∙ ap f (m ∙ sym still))

  -- ── a move

  module _ (d : Direction) (offset count : ℕ) {p : Part} (P : PartIs l i d p)
      (ready : (get_or (slots l) i no_slot).awaits.waiting ≡ false) (planned : (get_or (slots l) i no_slot).planned ≡ true) where
    -- its direction, by what was read
    read_side : (st : List ℕ) → of d (here st).sides ≡ side_of st (place_at_lem d (get_or (slots l) i no_slot).place) p
    read_side st = side_read st (get_or (slots l) i no_slot) d P.whole refl

    -- it does not wait
    unwaiting : (st : List ℕ) → is_waiting (some (here st)) ≡ false
    unwaiting st = waits_as st (get_or (slots l) i no_slot) ∙ ready

    same_bound : (st : List ℕ) {b : Bool} → ltb (min p.transfer.required p.total) offset ≡ b → ltb (movable (of d (here st).sides)) offset ≡ b
    same_bound st e = ap (λ (s : Side). ltb (movable s) offset) (read_side st) ∙ e

    same_pieces : (st : List ℕ) {b : Bool} → ltb p.transfer.at p.transfer.end ≡ b → has_pieces (of d (here st).sides) ≡ b
    same_pieces st e = ap (λ (s : Side). has_pieces s) (read_side st) ∙ e

    -- 31
    pub too_far : min p.transfer.required p.total < offset → Names l l tag d offset count (Err Offset)
    too_far e st =
        replies_by (move_beyond (view l st) tag d offset count (open_view st) (here st) (found_first F live st) (unwaiting st) planned (same_bound st (lt-ltb (min p.transfer.required p.total) offset e)))
        (refused l st Offset)

    module _ (low : offset ≤ min p.transfer.required p.total) where
      within : (st : List ℕ) → ltb (movable (of d (here st).sides)) offset ≡ false
      within st = same_bound st (le-ltb (min p.transfer.required p.total) offset low)

      -- 32
      pub under_way : p.transfer.at < p.transfer.end → Names l l tag d offset count (Err Unfinished)
      under_way e st =
          replies_by (move_unfinished (view l st) tag d offset count (open_view st) (here st) (found_first F live st) (unwaiting st) planned (within st) (same_pieces st (lt-ltb p.transfer.at p.transfer.end e)))
          (refused l st Unfinished)

      -- none of them: the move is named
      module _ {l' : List ℕ} (to : ℕ) (idle : p.transfer.end ≤ p.transfer.at) (C : SlotChanged l l' i (moved_slot d p.transfer.highest offset to 0))
          (a : (st : List ℕ) → open_of st (moved_slot d p.transfer.highest offset to 0 (get_or (slots l) i no_slot)) ≡ on_side d (moving offset count) (here st)) where
        abbrev slot : Slot
        slot = moved_slot d p.transfer.highest offset to 0 (get_or (slots l) i no_slot)

        to_slot : SlotChanged l l' i (λ _. slot)
        to_slot = record { slots = C.slots; head = C.head; line = C.line }

        -- whether it has pieces
        has_pieces_lem : (st : List ℕ) {b : Bool} → ltb offset to ≡ b → b ≡ has_pieces (moving offset count (side_at l st i d))
        has_pieces_lem st e = sym e ∙ sym (said d) ∙ ap has_pieces (ap (λ (c : Open). of d c.sides) (a st)) ∙ by d
          where
            said : (d : Direction) → has_pieces (of d (open_of st (moved_slot d p.transfer.highest offset to 0 (get_or (slots l) i no_slot))).sides) ≡ ltb offset to
            said Out = refl
            said In = refl

            by : (d : Direction) → has_pieces (of d (on_side d (moving offset count) (here st)).sides) ≡ has_pieces (moving offset count (of d (here st).sides))
            by Out = refl
            by In = refl

        named : (l'' : List ℕ) (b : Bool) → ltb offset to ≡ b → slots l'' ≡ slots l' → head_of l'' ≡ head_of l' → line l'' ≡ joins b (place tag d) (line l) → Names l l'' tag d offset count (Ok Performed)
        named l'' b e s h f st =
            replies_by (move_passed (view l st) tag d offset count (open_view st) (here st) (found_first F live st) (unwaiting st) planned (within st) (same_pieces st (le-ltb p.transfer.at p.transfer.end idle)))
            (performed refl
            (altered_view st d (moving offset count) l'' b (λ more. joins more (place tag d) (view l st).line) to_slot (a st) (has_pieces_lem st e) s h (f ∙ ap (joins b (place tag d)) (sym (view_line l st live)))) refl refl)

        -- without pieces it does not join the line
        pub begun_empty : to ≤ offset → Names l l' tag d offset count (Ok Performed)
        begun_empty e = named l' false (le-ltb offset to e) refl refl C.line

        -- with pieces it does
        pub begun : {l'' : List ℕ} → offset < to → LineChanged l' l'' (joins true (place tag d)) → Names l l'' tag d offset count (Ok Performed)
        begun {l''} e D = named l'' true (lt-ltb offset to e) D.slots D.head (D.line ∙ ap (joins true (place tag d)) C.line)

  -- ── a step

  module _ (st : List ℕ) (d : Direction) where
    -- what is read of the command with the tag is that of its slot
    pub found_next : next_of (view l st).terms d (find (has_tag tag) (view l st).held) ≡ next_of (head_of l).terms d (some (here st))
    found_next =
        ap (next_of (view l st).terms d) (found_first F live st)
        ∙ ap (λ (t : Terms). next_of t d (some (here st))) (ap (λ (q : Port). q.terms) (while_open l st live))

    pub found_number : number_in d (find (has_tag tag) (view l st).held) ≡ (side_at l st i d).transfer.number
    found_number = ap (number_in d) (found_first F live st)

    -- what step comes to
    hand_by : {n : ℕ} {o : Option Piece} → n ≡ (side_at l st i d).transfer.number → next_of (head_of l).terms d (some (here st)) ≡ o
        → step_outcome (view l st) tag d ≡ hand_out_lem (view l st) tag d n o
    hand_by e f = λ k. hand_out_lem (view l st) tag d ((found_number ∙ sym e) k) ((found_next ∙ f) k)

    -- no piece is left
    pub none_left : {l' : List ℕ} {n : ℕ} → HandsNone l l' st i d n → StepsPlanned l l' st tag d (Ok (Done n))
    none_left H =
        record { replies = replies_by (hand_by H.number H.next) (performed refl (ap (λ (q : List ℕ). view q st) H.same) refl refl); done = λ n q. H.same }

    module _ {l' : List ℕ} {o : Piece} {n : ℕ} {more : Bool} (H : HandsOne l l' st i d o n more) where
      handed : (l'' : List ℕ) {k : Kind} → k ≡ kind_of d → slots l'' ≡ slots l' → head_of l'' ≡ head_of l' → line l'' ≡ keeps_place more (place tag d) (line l)
          → StepsPlanned l l'' st tag d (Ok (Operation k o n))
      handed l'' {k} q s h f =
          record {
            replies =
                replies_by (hand_by refl H.next)
                (performed (λ j. Ok (Operation (q j) (H.said j) (H.number j)))
                (altered_view st d (handing H.piece.len) l'' more (λ more. keeps_place more (place tag d) (view l st).line) H.changed H.moved H.left s h (f ∙ ap (keeps_place more (place tag d)) (sym (view_line l st live))))
                refl refl);
            done = λ n f. let z : ◌≡◌ {A = ℕ} 0 1 = cc in let y : ⊥ = omega arith in absurd y;
          }

      -- a piece is handed out, and more are left
      pub more_left : {k : Kind} → more ≡ true → k ≡ kind_of d → StepsPlanned l l' st tag d (Ok (Operation k o n))
      more_left e q = handed l' q refl refl (rw e H.changed.line)

      -- it was the last
      pub last_handed : {l'' : List ℕ} {k : Kind} → more ≡ false → Leaves (Handed (place tag d)) l' l'' → k ≡ kind_of d → StepsPlanned l l'' st tag d (Ok (Operation k o n))
      last_handed {l''} e L q = handed l'' q L.slots L.head (rw e (L.line st ∙ ap (without (same_place_lem (place tag d))) H.changed.line))
