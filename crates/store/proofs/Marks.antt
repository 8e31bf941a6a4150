-- The places of the store: which are used, and that one is free while fewer than 16 commands are open.
-- Assumes nothing.
use mathlib.Core.Path.{◌≡◌, refl, sym, ◌∙◌}
use mathlib.Core.Bool.{Bool, true, false, not}
use mathlib.Core.List.{List, [], ◌∷◌}
use mathlib.Core.Logic.{⊎_elim}
use Prim.Native.Nat.{ℕ, zero, suc, ◌+◌, ◌≤◌, ◌<◌}
use native.Mathlib.Omega.{arith}
use borrow.Author.Count.{below_more}
use borrow.Author.Tests.{lt-ltb}
use Rattle.std.specs.List.{position, position_or_len}
use Rattle.std.specs.Option.{unwrap_or}
use Rattle.std.proofs.lemmas.List.Sums.{passes_at_first}
use lib.ListN.{length, get_or, set, length-set}
use lib.Seq.{get_or-take, get_or-set_same}
use Rattle.words.specs.Sizes.{most_slots}
use Rattle.words.specs.Slots.{slots, no_slot}
use Rattle.words.specs.Head.{head_of}
use Rattle.words.specs.View.{opens}
use Rattle.words.proofs.Slots.{either}
use Rattle.words.proofs.Ports.{opens_long}
use Rattle.store.specs.Places.{trues, Marked}

-- ── marking

-- a mark more is at most one true more
trues_set : (f : List Bool) (k : ℕ) → trues (set f k true) ≤ trues f + 1
unfolding trues
trues_set [] k = omega arith
trues_set (b ∷ bs) zero = omega arith
trues_set (b ∷ bs) (suc k) = omega (arith, trues_set bs k)

-- a mark takes none away
true_stays : (f : List Bool) (k j : ℕ) → get_or f j false ≡ true → get_or (set f k true) j false ≡ true
true_stays [] k j h = h
true_stays (b ∷ bs) zero zero h = refl
true_stays (b ∷ bs) zero (suc j) h = h
true_stays (b ∷ bs) (suc k) zero h = h
true_stays (b ∷ bs) (suc k) (suc j) h = true_stays bs k j h

-- the places of the first i commands are marked, but for that of one
pub record Marking (but : ℕ) (l : List ℕ) (n : ℕ) (f : List Bool) (i : ℕ) : Type 0 where
  pub count : n ≡ (head_of l).held
  pub in_count : i ≤ n
  pub long : length f ≡ most_slots
  pub few : trues f ≤ i
  pub fewer : but < i → trues f < i
  pub marks : (j : ℕ) → j < i → (j ≡ but → ⊥) → get_or f (get_or (slots l) j no_slot).place false ≡ true

module _ (but : ℕ) (l : List ℕ) (n : ℕ) (f : List Bool) (i : ℕ) (K : Marking but l n f i) where
  -- one command more
  pub mark_more : i < n → (i ≡ but → ⊥) → (k : ℕ) → k ≡ (get_or (slots l) i no_slot).place → k < most_slots → Marking but l n (set f k true) (i + 1)
  mark_more h ne k e small =
      record {
        count = K.count;
        in_count = omega arith;
        long = length-set f k true ∙ K.long;
        few = omega (arith, trues_set f k, K.few);
        fewer = λ q. ⊎_elim (λ g. omega (arith, trues_set f k, K.fewer g)) (λ g. let z : ⊥ = omega arith in absurd z) (either but i (λ x. ne (sym x)));
        marks = below_more (λ (j : ℕ). (j ≡ but → ⊥) → get_or (set f k true) (get_or (slots l) j no_slot).place false ≡ true) i
            (λ j g q. true_stays f k _ (K.marks j g q)) (λ _. rw (← e) (get_or-set_same f k true false (omega (arith, K.long))));
      }

  -- the one that is left out
  pub mark_skip : i < n → i ≡ but → Marking but l n f (i + 1)
  mark_skip h e =
      record {
        count = K.count;
        in_count = omega arith;
        long = K.long;
        few = omega (arith, K.few);
        fewer = λ q. omega (arith, K.few);
        marks = below_more (λ (j : ℕ). (j ≡ but → ⊥) → get_or f (get_or (slots l) j no_slot).place false ≡ true) i K.marks (λ ne. absurd (ne e));
      }

  -- all of them
  pub mark_end : n ≤ i → Marked but (opens l) f
  mark_end h =
      let e : length (opens l) ≡ (head_of l).held = opens_long l in
      let same : i ≡ (head_of l).held = omega (arith, K.count, K.in_count) in
      record {
        marks = λ j q ne. let g : j < (head_of l).held = omega arith in rw get_or-take (K.marks j (omega (arith, K.count)) ne);
        few = omega (arith, K.few);
        fewer = λ q. omega (arith, K.fewer (omega arith));
        long = K.long;
      }

-- ── the search

-- where fewer are true than there are, there is a first that is not
some_free : (f : List Bool) → trues f < length f → position_or_len not f < length f
unfolding trues
some_free [] h = let z : ⊥ = omega arith in absurd z
some_free (true ∷ bs) h = let q = some_free bs (omega arith) in omega (arith, q)
some_free (false ∷ bs) h = omega arith

unmarked : (b : Bool) → not b ≡ true → b ≡ false
unmarked true h = sym h
unmarked false h = refl

-- it is found, and is not marked
pub first_free_lem : (f : List Bool) → length f ≡ most_slots → trues f < most_slots → (k last : ℕ) → k ≡ unwrap_or (position not f) last
    → (k < most_slots) × (get_or f k false ≡ false)
first_free_lem f long few k last e =
    let h : position_or_len not f < length f = some_free f (omega arith) in
    let is : k ≡ position_or_len not f = e ∙ rw (lt-ltb _ _ h) refl in
    (omega arith, rw is (unmarked _ (passes_at_first not f false h)))
