-- The ring of places: read, written, and from another place on.
-- Assumes nothing.
use mathlib.Core.Path.{◌≡◌, refl, sym, ◌∙◌, ap, subst}
use mathlib.Core.Bool.{true}
use mathlib.Core.List.{List, [], ◌∷◌, ◌++◌}
use Prim.Native.Nat.{ℕ, zero, suc, min, ◌+◌, ◌-◌, ◌*◌, ◌%◌, ◌≤◌, ◌<◌}
use native.Mathlib.Omega.{arith}
use native.Mathlib.Nat.{add-zero}
use native.Mathlib.Numerals.{add-one}
use borrow.Author.Tests.{lt-ltb, le-ltb}
use lib.ListN.{length, get_or, take, drop, set, length-set, length-drop}
use lib.Seq.{get_or-set_same, get_or-set_other, get_or-drop, drop-set-add, take-suc-set}
use Rattle.srp.specs.Limits.{most_moves}
use Rattle.srp.specs.Credit.{place}
use Rattle.srp.specs.Line.{joins}
use Rattle.srp.specs.declared.Direction.{Direction}
use Rattle.srp.specs.declared.Direction.TheVariants.{Out, In}
use Rattle.srp.specs.declared.Place.{Place}
use Rattle.words.specs.Sizes.{port_words, line_at, ring_at}
use Rattle.words.specs.Line.{first_in, count_in, direction_in, place_in, ring_from, behind, count, ring, line}
use Rattle.words.proofs.Words.{line_word_slots, line_word_head}
use Rattle.line.specs.Changes.{no_place, direction_word, PlaceChanged, LengthChanged, LineChanged}

-- ── the ring as a list

pub ring_long : (n k : ℕ) (r : List ℕ) → length (ring_from n k r) ≡ n
unfolding ring_from
ring_long zero k r = refl
ring_long (suc n) k r = ap suc (ring_long n (k + 1) r)

-- each of its places
ring_at_lem : (n k : ℕ) (r : List ℕ) (j : ℕ) → j < n → get_or (ring_from n k r) j no_place ≡ place_in r ((k + j) % most_moves)
unfolding ring_from
ring_at_lem zero k r j h = let z : ⊥ = omega arith in absurd z
ring_at_lem (suc n) k r zero h = rw add-zero refl
ring_at_lem (suc n) k r (suc j) h = let e : k + 1 + j ≡ k + suc j = omega arith in rw (ring_at_lem n (k + 1) r j (omega arith), e) refl

-- its first places are a shorter one
ring_front : (m n k : ℕ) (r : List ℕ) → m ≤ n → take m (ring_from n k r) ≡ ring_from m k r
unfolding ring_from
ring_front zero n k r h = refl
ring_front (suc m) zero k r h = let z : ⊥ = omega arith in absurd z
ring_front (suc m) (suc n) k r h = ap (λ (q : List Place). place_in r (k % most_moves) ∷ q) (ring_front m n (k + 1) r (omega arith))

-- behind its first place stand the others
ring_tail : (n k : ℕ) (r : List ℕ) → drop 1 (ring_from (suc n) k r) ≡ ring_from n (k + 1) r
unfolding ring_from
ring_tail n k r = refl

-- words whose places agree have the same ring, from the same place on
ring_same : (n k k' : ℕ) (r r' : List ℕ) → k' % most_moves ≡ k % most_moves → ((i : ℕ) → i < n → place_in r' ((k + i) % most_moves) ≡ place_in r ((k + i) % most_moves))
    → ring_from n k' r' ≡ ring_from n k r
unfolding ring_from
ring_same zero k k' r r' e p = refl
ring_same (suc n) k k' r r' e p =
    rw (e, rw add-zero at (p 0 (omega arith)), ring_same n (k + 1) (k' + 1) r r' (omega arith) (λ i h. let q : k + suc i ≡ k + 1 + i = omega arith in rw q at (p (suc i) (omega arith)))) refl

-- words whose places agree but for one have the same ring but for that one
ring_set : (n k : ℕ) (r r' : List ℕ) (j : ℕ) (x : Place) → j < n → n ≤ most_moves → place_in r' ((k + j) % most_moves) ≡ x
    → ((i : ℕ) → (i ≡ (k + j) % most_moves → ⊥) → place_in r' i ≡ place_in r i) → ring_from n k r' ≡ set (ring_from n k r) j x
unfolding ring_from
ring_set zero k r r' j x h b e p = let z : ⊥ = omega arith in absurd z
ring_set (suc n) k r r' zero x h b e p =
    rw (rw add-zero at e, ring_same n (k + 1) (k + 1) r r' refl (λ i g. p ((k + 1 + i) % most_moves) (λ q. omega arith))) refl
ring_set (suc n) k r r' (suc j) x h b e p =
    let q : k + suc j ≡ k + 1 + j = omega arith in
    rw (p (k % most_moves) (λ y. omega arith), ring_set n (k + 1) r r' j x (omega arith) (omega arith) (rw q at e) (λ i ne. p i (λ y. ne (rw q at y)))) refl

-- ── the line

-- a place of the line, by the words
pub place_read : (l : List ℕ) (j : ℕ) → j < most_moves → get_or (ring l) j no_place ≡ place_in (behind l) ((first_in (behind l) + j) % most_moves)
place_read l j h = ring_at_lem most_moves (first_in (behind l)) (behind l) j h

-- the line is a part of the ring
line_front : (l : List ℕ) → line l ≡ ring_from (count l) (first_in (behind l)) (behind l)
line_front l = ring_front (count l) most_moves (first_in (behind l)) (behind l) (omega arith)

pub line_long : (l : List ℕ) → length (line l) ≡ count l
line_long l = ap length (line_front l) ∙ ring_long (count l) (first_in (behind l)) (behind l)

-- read from its two words
pub place_there : (l : List ℕ) (j : ℕ) → j < most_moves
    → let k : ℕ = line_at + (ring_at + 2 * ((first_in (behind l) + j) % most_moves)) in
    (d : Direction) → d ≡ direction_in (get_or l (k + 1) 0) → place (get_or l k 0) d ≡ get_or (ring l) j no_place
place_there l j h d e =
    let m : ℕ = (first_in (behind l) + j) % most_moves in
    let more : line_at + (ring_at + 2 * m) + 1 ≡ line_at + (ring_at + 2 * m + 1) = omega arith in
    let t : get_or l (line_at + (ring_at + 2 * m)) 0 ≡ get_or (behind l) (ring_at + 2 * m) 0 = sym (get_or-drop line_at l (ring_at + 2 * m) 0) in
    let w : get_or l (line_at + (ring_at + 2 * m) + 1) 0 ≡ get_or (behind l) (ring_at + 2 * m + 1) 0 = ap (λ (k : ℕ). get_or l k 0) more ∙ sym (get_or-drop line_at l (ring_at + 2 * m + 1) 0) in
    (λ i. record { tag = t i; direction = (e ∙ ap direction_in w) i }) ∙ sym (place_read l j h)

-- the number, by the words
pub count_read : (l : List ℕ) → count l ≡ min (get_or l (line_at + 1) 0) most_moves
count_read l = ap (λ (n : ℕ). min n most_moves) (get_or-drop line_at l 1 0)

-- ── words written

read_direction : (d : Direction) → direction_in (direction_word d) ≡ d
read_direction Out = refl
read_direction In = refl

-- the words of place m written, in the line's words
module _ (r : List ℕ) (m : ℕ) (x : Place) where
  abbrev placed : List ℕ
  placed = set (set r (ring_at + 2 * m) x.tag) (ring_at + 2 * m + 1) (direction_word x.direction)

  other_word : (k : ℕ) → (k ≡ ring_at + 2 * m → ⊥) → (k ≡ ring_at + 2 * m + 1 → ⊥) → get_or placed k 0 ≡ get_or r k 0
  other_word k a b = get_or-set_other (set r (ring_at + 2 * m) x.tag) (ring_at + 2 * m + 1) k (direction_word x.direction) 0 b ∙ get_or-set_other r (ring_at + 2 * m) k x.tag 0 a

  placed_here : ring_at + 2 * m + 1 < length r → place_in placed m ≡ x
  placed_here h =
      let t : get_or placed (ring_at + 2 * m) 0 ≡ x.tag =
      get_or-set_other (set r (ring_at + 2 * m) x.tag) (ring_at + 2 * m + 1) (ring_at + 2 * m) (direction_word x.direction) 0 (λ q. omega arith)
      ∙ get_or-set_same r (ring_at + 2 * m) x.tag 0 (omega arith) in
      let d : get_or placed (ring_at + 2 * m + 1) 0 ≡ direction_word x.direction =
      get_or-set_same (set r (ring_at + 2 * m) x.tag) (ring_at + 2 * m + 1) (direction_word x.direction) 0 (omega (arith, length-set r (ring_at + 2 * m) x.tag)) in
      λ j. record { tag = t j; direction = (ap direction_in d ∙ read_direction x.direction) j }

  placed_elsewhere : (i : ℕ) → (i ≡ m → ⊥) → place_in placed i ≡ place_in r i
  placed_elsewhere i ne =
      let t = other_word (ring_at + 2 * i) (λ q. ne (omega arith)) (λ q. omega arith) in
      let d = other_word (ring_at + 2 * i + 1) (λ q. omega arith) (λ q. ne (omega arith)) in
      λ j. record { tag = t j; direction = direction_in (d j) }

module _ (l : List ℕ) (long : length l ≡ port_words) where
  -- the line's words are 66
  behind_long : length (behind l) ≡ port_words - line_at
  behind_long = rw length-drop (omega arith)

  -- a place written
  pub place_put : (j : ℕ) (x : Place) → j < most_moves
      → let k : ℕ = line_at + (ring_at + 2 * ((first_in (behind l) + j) % most_moves)) in
      PlaceChanged l (set (set l k x.tag) (k + 1) (direction_word x.direction)) j x
  place_put j x h =
      subst (λ (k : ℕ). PlaceChanged l (set one k w) j x) later
      (record {
        slots = line_word_slots one (ring_at + 2 * m + 1) w ∙ line_word_slots l (ring_at + 2 * m) x.tag;
        head = line_word_head one (ring_at + 2 * m + 1) w ∙ line_word_head l (ring_at + 2 * m) x.tag;
        count = ap count_in e ∙ ap (λ (n : ℕ). min n most_moves) (other_word r m x 1 (λ q. omega arith) (λ q. omega arith));
        ring =
            ap (λ (q : List ℕ). ring_from most_moves (first_in q) q) e
            ∙ ap (λ (n : ℕ). ring_from most_moves (n % most_moves) (placed r m x)) (other_word r m x 0 (λ q. omega arith) (λ q. omega arith))
            ∙ ring_set most_moves (first_in r) r (placed r m x) j x h (omega arith) (placed_here r m x (omega (arith, behind_long))) (placed_elsewhere r m x);
      })
    where
      r : List ℕ
      r = behind l

      m : ℕ
      m = (first_in r + j) % most_moves

      w : ℕ
      w = direction_word x.direction

      one : List ℕ
      one = set l (line_at + (ring_at + 2 * m)) x.tag

      later : line_at + (ring_at + 2 * m + 1) ≡ line_at + (ring_at + 2 * m) + 1
      later = omega arith

      e : behind (set one (line_at + (ring_at + 2 * m + 1)) w) ≡ placed r m x
      e = drop-set-add line_at one (ring_at + 2 * m + 1) w ∙ ap (λ (q : List ℕ). set q (ring_at + 2 * m + 1) w) (drop-set-add line_at l (ring_at + 2 * m) x.tag)

  -- another number of moves
  pub length_put : (n : ℕ) → n ≤ most_moves → LengthChanged l (set l (line_at + 1) n) n
  length_put n h =
      let r : List ℕ = behind l in
      let e : behind (set l (line_at + 1) n) ≡ set r 1 n = drop-set-add line_at l 1 n in
      let other : (k : ℕ) → (k ≡ 1 → ⊥) → get_or (set r 1 n) k 0 ≡ get_or r k 0 = λ k ne. get_or-set_other r 1 k n 0 ne in
      record {
        slots = line_word_slots l 1 n;
        head = line_word_head l 1 n;
        count = ap count_in e ∙ ap (λ (q : ℕ). min q most_moves) (get_or-set_same r 1 n 0 (omega (arith, behind_long))) ∙ omega arith;
        ring =
            ap (λ (q : List ℕ). ring_from most_moves (first_in q) q) e
            ∙ ring_same most_moves (first_in r) (first_in (set r 1 n)) r (set r 1 n) (ap (λ (q : ℕ). q % most_moves % most_moves) (other 0 (λ q. omega arith)))
            (λ i g. places r n ((first_in r + i) % most_moves) other);
      }
    where
      places : (r : List ℕ) (n i : ℕ) → ((k : ℕ) → (k ≡ 1 → ⊥) → get_or (set r 1 n) k 0 ≡ get_or r k 0) → place_in (set r 1 n) i ≡ place_in r i
      places r n i other =
          let t = other (ring_at + 2 * i) (λ q. omega arith) in
          let d = other (ring_at + 2 * i + 1) (λ q. omega arith) in
          λ j. record { tag = t j; direction = direction_in (d j) }

-- ── moves that join, and the first that leaves

-- a place written behind the last, and one move more
pub joined : (l l₁ l₂ : List ℕ) (n : ℕ) (x : Place) → n ≡ count l → n < most_moves → PlaceChanged l l₁ n x → LengthChanged l₁ l₂ (n + 1)
    → LineChanged l l₂ (λ q. q ++ (x ∷ []))
joined l l₁ l₂ n x e h P L =
    record {
      slots = L.slots ∙ P.slots;
      head = L.head ∙ P.head;
      line =
          ap (λ (q : ℕ). take q (ring l₂)) (L.count ∙ add-one n)
          ∙ ap (take (suc n)) (L.ring ∙ P.ring)
          ∙ take-suc-set (ring l) n x (omega (arith, ring_long most_moves (first_in (behind l)) (behind l)))
          ∙ ap (λ (q : ℕ). take q (ring l) ++ (x ∷ [])) e;
    }

module _ (l : List ℕ) (long : length l ≡ port_words) where
  -- the words of the first place and of the number written
  abbrev advanced : ℕ → ℕ → List ℕ
  advanced f n = set (set l line_at f) (line_at + 1) n

  pub first_dropped : (n : ℕ) → n ≡ count l → 1 ≤ n
      → LineChanged l (advanced ((get_or l line_at 0 % most_moves + 1) % most_moves) (n - 1)) (drop 1)
  first_dropped n c h =
      let r : List ℕ = behind l in
      let f : ℕ = (get_or l line_at 0 % most_moves + 1) % most_moves in
      let one : List ℕ = set l line_at f in
      let r' : List ℕ = set (set r 0 f) 1 (n - 1) in
      let e : behind (advanced f (n - 1)) ≡ r' =
      drop-set-add line_at one 1 (n - 1) ∙ ap (λ (q : List ℕ). set q 1 (n - 1)) (drop-set-add line_at l 0 f) in
      let other : (k : ℕ) → (k ≡ 0 → ⊥) → (k ≡ 1 → ⊥) → get_or r' k 0 ≡ get_or r k 0 =
      λ k a b. get_or-set_other (set r 0 f) 1 k (n - 1) 0 b ∙ get_or-set_other r 0 k f 0 a in
      let zero_is : get_or r' 0 0 ≡ f = get_or-set_other (set r 0 f) 1 0 (n - 1) 0 (λ q. omega arith) ∙ get_or-set_same r 0 f 0 (omega (arith, behind_long l long)) in
      let one-is : get_or r' 1 0 ≡ n - 1 = get_or-set_same (set r 0 f) 1 (n - 1) 0 (omega (arith, behind_long l long, length-set r 0 f)) in
      let few : count (advanced f (n - 1)) ≡ n - 1 = ap count_in e ∙ ap (λ (q : ℕ). min q most_moves) one-is ∙ omega arith in
      let start : first_in r' % most_moves ≡ (first_in r + 1) % most_moves = ap (λ (q : ℕ). q % most_moves % most_moves) zero_is ∙ ap (λ (q : ℕ). (q % most_moves + 1) % most_moves % most_moves % most_moves) (sym (get_or-drop line_at l 0 0)) ∙ omega arith in
      record {
        slots = line_word_slots one 1 (n - 1) ∙ line_word_slots l 0 f;
        head = line_word_head one 1 (n - 1) ∙ line_word_head l 0 f;
        line =
            line_front (advanced f (n - 1))
            ∙ ap (λ (q : ℕ). ring_from q (first_in (behind (advanced f (n - 1)))) (behind (advanced f (n - 1)))) few
            ∙ ap (λ (q : List ℕ). ring_from (n - 1) (first_in q) q) e
            ∙ ring_same (n - 1) (first_in r + 1) (first_in r') r r' start (λ i g. places r r' ((first_in r + 1 + i) % most_moves) other)
            ∙ sym (ap (drop 1) (line_front l ∙ ap (λ (q : ℕ). ring_from q (first_in r) r) (sym c ∙ more)) ∙ ring_tail (n - 1) (first_in r) r);
      }
    where
      more : n ≡ suc (n - 1)
      more = omega arith

      places : (r r' : List ℕ) (i : ℕ) → ((k : ℕ) → (k ≡ 0 → ⊥) → (k ≡ 1 → ⊥) → get_or r' k 0 ≡ get_or r k 0) → place_in r' i ≡ place_in r i
      places r r' i other =
          let t = other (ring_at + 2 * i) (λ q. omega arith) (λ q. omega arith) in
          let d = other (ring_at + 2 * i + 1) (λ q. omega arith) (λ q. omega arith) in
          λ j. record { tag = t j; direction = direction_in (d j) }

-- ── a move that joins, and one that was served

-- a line that is full stays
pub full_stays : (l : List ℕ) (x : Place) {n : ℕ} → n ≡ count l → n ≡ most_moves → LineChanged l l (joins true x)
full_stays l x e f = record { slots = refl; head = refl; line = rw (le-ltb (length (line l)) most_moves (omega (arith, line_long l, e, f))) refl }

-- one that is not has the move at its end
pub room_joins : (l l' : List ℕ) (x : Place) {n : ℕ} → n ≡ count l → (n ≡ most_moves → ⊥) → LineChanged l l' (λ q. q ++ (x ∷ [])) → LineChanged l l' (joins true x)
room_joins l l' x e ne C =
    record { slots = C.slots; head = C.head; line = rw (lt-ltb (length (line l)) most_moves (omega (arith, line_long l, e, ne))) C.line }

-- once the first left, there is room
pub room_behind : (l l₁ : List ℕ) → LineChanged l l₁ (drop 1) → 1 ≤ count l → count l₁ < most_moves
room_behind l l₁ C h =
    let e : length (line l₁) ≡ length (line l) - 1 = ap length C.line ∙ length-drop 1 (line l) in
    omega (arith, e, line_long l, line_long l₁)
