-- Moves that leave the line, taken out of the ring of places.
-- Assumes nothing.
use mathlib.Core.Path.{◌≡◌, refl, sym, ◌∙◌, ap}
use mathlib.Core.Bool.{Bool, true, false, not}
use mathlib.Core.List.{List, [], ◌∷◌, ◌++◌, map, append_assoc, append-nil}
use Prim.Native.Nat.{ℕ, ◌+◌, ◌≤◌, ◌<◌}
use native.Mathlib.Omega.{arith}
use native.Mathlib.Numerals.{add-one}
use borrow.Author.Tests.{eqb-true}
use lib.Dec.{eqb}
use lib.ListN.{length, get_or, take, drop, set, drop_of_length-le}
use lib.Seq.{get_or-take, take-suc-set, drop-set-lt, set-get_or}
use Rattle.srp.specs.Limits.{most_moves}
use Rattle.srp.specs.Lists.{find, without}
use Rattle.srp.specs.Credit.{Open, has_tag}
use Rattle.srp.specs.Line.{is_ended}
use Rattle.srp.specs.declared.Place.{Place}
use Rattle.words.specs.Slots.{slots}
use Rattle.words.specs.Head.{head_of}
use Rattle.words.specs.Line.{first_in, behind, count, ring, line}
use Rattle.words.specs.View.{open_of, open_port_lem, shown}
use Rattle.line.specs.Changes.{no_place, PlaceChanged, LengthChanged}
use Rattle.line.proofs.Ring.{ring_long, line_long}
use Rattle.state.specs.Changes.{ending, without_slots, without_ended, Alters}
use Rattle.state.specs.Leaving.{other_tag_lem, CommandEnds, leaves, MoveLeaves, Leaves}
use Rattle.state.specs.declared.Ending.{Ending}
use Rattle.state.specs.declared.Ending.TheVariants.{Finished, Aborted}
use Rattle.state.specs.declared.Leaving.{Leaving}
use Rattle.state.specs.declared.Leaving.TheVariants.{Ended}
use Rattle.state.proofs.Held.{tail_same, head_same, stays, goes}

-- ── whether a command ends

-- the end of a command with another tag is not that of the one with this tag
not_this : (e : Ending) (tag : ℕ) (cs : List Open) → other_tag_lem e tag ≡ true → is_ended (ending e) (find (has_tag tag) cs) ≡ false
not_this (Aborted k) tag cs o = cc
not_this (Finished t) tag [] o = refl
not_this (Finished t) tag (c ∷ cs) o = go (eqb tag c.request.tag) refl (not_this (Finished t) tag cs o)
  where
    off : (b : Bool) → not b ≡ true → b ≡ false
    off true x = cc
    off false x = refl

    go : (b : Bool) → eqb tag c.request.tag ≡ b → is_ended (ending (Finished t)) (find (has_tag tag) cs) ≡ false → is_ended (ending (Finished t)) (find (has_tag tag) (c ∷ cs)) ≡ false
    go false q r = rw q r
    go true q r = rw q (ap (eqb t) (sym (eqb-true tag c.request.tag q)) ∙ off (eqb t tag) o)

pub other_ends : (l : List ℕ) (e : Ending) (tag : ℕ) → other_tag_lem e tag ≡ true → CommandEnds l e tag false
other_ends l e tag o st = sym (not_this e tag (shown l st).held o)

-- ── the line without moves

-- of the words p, with n moves in line, the words q are made: the first i moves are looked at, `kept` of them stay
pub record Parting (which : Leaving) (n : ℕ) (p q : List ℕ) (i kept : ℕ) : Type 0 where
  pub counted : n ≡ count p
  pub slots : slots q ≡ slots p
  pub head : head_of q ≡ head_of p
  pub in_count : i ≤ n
  pub small : n ≤ most_moves
  pub behind : kept ≤ i
  pub ahead : drop i (ring q) ≡ drop i (ring p)
  pub done : (st : List ℕ) → take kept (ring q) ++ without (leaves which (shown p st).held) (drop i (line p)) ≡ without (leaves which (shown p st).held) (line p)

-- words with the same head and slots have the same commands
same_held : (p q : List ℕ) → slots q ≡ slots p → head_of q ≡ head_of p → (st : List ℕ) → (shown q st).held ≡ (shown p st).held
same_held p q s h st = λ j. map (open_of st) (take (h j).held (s j))

module _ (which : Leaving) (n : ℕ) (p q : List ℕ) (i kept : ℕ) (D : Parting which n p q i kept) (h : i < n) where
  this : get_or (ring q) i no_place ≡ get_or (line p) i no_place
  this =
      let g : i < count p = omega (arith, D.counted) in
      head_same (ring q) (ring p) i no_place D.ahead ∙ sym (get_or-take (count p) (ring p) i no_place g)

  -- whether it leaves, by the place that was read
  test : {b : Bool} (x : Place) → x ≡ get_or (ring q) i no_place → MoveLeaves q which x b → (st : List ℕ) → leaves which (shown p st).held (get_or (line p) i no_place) ≡ b
  test x is t st = ap (leaves which (shown p st).held) (sym (is ∙ this)) ∙ ap (λ (cs : List Open). leaves which cs x) (sym (same_held p q D.slots D.head st)) ∙ sym (t st)

  inside : i < length (line p)
  inside = omega (arith, line_long p, D.counted)

  -- this one leaves
  pub part_left : (x : Place) → x ≡ get_or (ring q) i no_place → MoveLeaves q which x true → Parting which n p q (i + 1) kept
  part_left x is t =
      record {
        counted = D.counted;
        slots = D.slots;
        head = D.head;
        in_count = omega arith;
        small = D.small;
        behind = omega (arith, D.behind);
        ahead = tail_same (ring q) (ring p) i D.ahead;
        done = λ st. rw (← goes (leaves which (shown p st).held) (line p) i no_place inside (test x is t st)) (D.done st);
      }

  -- this one stays, moved up
  pub part_kept : (x : Place) → x ≡ get_or (ring q) i no_place → MoveLeaves q which x false → (q' : List ℕ) → PlaceChanged q q' kept x
      → Parting which n p q' (i + 1) (kept + 1)
  part_kept x is t q' M =
      let k : kept < length (ring q) = omega (arith, ring_long most_moves (first_in (behind q)) (behind q), D.behind, D.small) in
      let up : take (kept + 1) (ring q') ≡ take kept (ring q) ++ (x ∷ []) =
      ap (take (kept + 1)) M.ring ∙ ap (λ (m : ℕ). take m (set (ring q) kept x)) (add-one kept) ∙ take-suc-set (ring q) kept x k in
      record {
        counted = D.counted;
        slots = M.slots ∙ D.slots;
        head = M.head ∙ D.head;
        in_count = omega arith;
        small = D.small;
        behind = omega (arith, D.behind);
        ahead = ap (drop (i + 1)) M.ring ∙ drop-set-lt (i + 1) (ring q) kept x (omega (arith, D.behind)) ∙ tail_same (ring q) (ring p) i D.ahead;
        done = λ st.
            let f = leaves which (shown p st).held in
            let s : without f (drop i (line p)) ≡ x ∷ without f (drop (i + 1) (line p)) = stays f (line p) i no_place inside (test x is t st) ∙ ap (λ (y : Place). y ∷ without f (drop (i + 1) (line p))) (sym (is ∙ this)) in
            ap (λ (y : List Place). y ++ without f (drop (i + 1) (line p))) up ∙ append_assoc (take kept (ring q)) (x ∷ []) (without f (drop (i + 1) (line p))) ∙ ap (λ (y : List Place). take kept (ring q) ++ y) (sym s) ∙ D.done st;
      }

  -- this one stays where it is
  pub part_unmoved : (x : Place) → x ≡ get_or (ring q) i no_place → MoveLeaves q which x false → i ≤ kept → Parting which n p q (i + 1) (kept + 1)
  part_unmoved x is t g =
      let k : kept ≡ i = omega (arith, D.behind) in
      part_kept x is t q (record { slots = refl; head = refl; count = refl; ring = rw (k, is) (sym (set-get_or (ring q) i no_place)) })

-- those that stay are the line
pub parted : (which : Leaving) (n : ℕ) (p q : List ℕ) (i kept : ℕ) → Parting which n p q i kept → n ≤ i → (q' : List ℕ) → LengthChanged q q' kept → Leaves which p q'
parted which n p q i kept D end q' L =
    record {
      slots = L.slots ∙ D.slots;
      head = L.head ∙ D.head;
      line = λ st.
          let o : length (line p) ≤ i = omega (arith, line_long p, D.counted) in
          ap (λ (k : ℕ). take k (ring q')) L.count ∙ ap (take kept) L.ring ∙ rw (drop_of_length-le (line p) o, append-nil) at (D.done st);
    }

-- ── commands that end, and their moves

-- their moves left the line, and they their slots
pub all_left : (e : Ending) (p q r : List ℕ) → Leaves (Ended e) p q → Alters q r (without_slots e) → Alters p r (without_ended e)
all_left e p q r L A =
    record {
      live = A.live ∙ ap (λ x. x.live) L.head;
      port = λ st. A.port st ∙ (λ j. without_slots e (open_port_lem (L.head j) (L.slots j) (L.line st j) st));
    }
