-- The open commands: the search for a tag, and those that end dropped from their slots.
-- Assumes nothing.
use mathlib.Core.Path.{◌≡◌, refl, sym, ◌∙◌, ap}
use mathlib.Core.Bool.{Bool, true, false}
use mathlib.Core.List.{List, [], ◌∷◌, ◌++◌, map, append_assoc, append-nil}
use mathlib.Core.Option.{none, some}
use Prim.Native.Nat.{ℕ, zero, suc, ◌+◌, ◌≤◌, ◌<◌}
use native.Mathlib.Omega.{arith}
use native.Mathlib.Nat.{add-zero}
use native.Mathlib.Numerals.{add-one}
use borrow.Author.Count.{below_more}
use borrow.Author.Tests.{eq-eqb, ne_eqb}
use lib.Dec.{eqb}
use lib.ListN.{length, get_or, take, drop, set, drop_of_length-le}
use lib.Seq.{drop-cons, get_or-take, get_or-drop, drop-drop, take-suc-set, take-take, drop-set-lt, take-set-lt, set-get_or}
use Rattle.srp.specs.Lists.{find, change, without}
use Rattle.srp.specs.Credit.{Open, with_held, has_tag}
use Rattle.srp.proofs.ListLaws.{map_same, without_map}
use Rattle.words.specs.declared.Slot.{Slot}
use Rattle.words.specs.declared.Head.{Head}
use Rattle.srp.specs.declared.Request.{Request}
use Rattle.words.specs.Sizes.{most_slots}
use Rattle.words.specs.Slots.{slot_at, slots, no_slot}
use Rattle.words.specs.Line.{line}
use Rattle.words.specs.Head.{head_of, counted_of, SlotChanged, HeadChanged}
use Rattle.words.specs.View.{opens, open_of, open_port_lem, shown}
use Rattle.words.proofs.Slots.{slots_long, slot_tag}
use Rattle.words.proofs.Ports.{opens_long, tag_at}
use Rattle.state.specs.Changes.{FoundAt, FoundIs, Alters, ends, over, NoneEnds, ending, without_slots}
use Rattle.std.specs.Prelude.{None}
use Rattle.state.specs.declared.Ending.{Ending}

-- ── the first that passes, in a list of images

module _ {A B : Type 0} (p : B → Bool) (f : A → B) (d : A) where
  -- none of the first i passes
  abbrev pub NoneOf : List A → ℕ → Type 0
  NoneOf l i = (j : ℕ) → j < i → p (f (get_or l j d)) ≡ false

  -- then the one at i is the first that passes
  pub first_there : (l : List A) (i : ℕ) → i < length l → NoneOf l i → p (f (get_or l i d)) ≡ true → find p (map f l) ≡ some (f (get_or l i d))
  first_there [] i h N e = let z : ⊥ = omega arith in absurd z
  first_there (x ∷ xs) zero h N e = rw e refl
  first_there (x ∷ xs) (suc i) h N e = rw (N 0 (omega arith)) (first_there xs i (omega arith) (λ j k. N (suc j) (omega arith)) e)

  -- where those are all, none is found
  pub none_there : (l : List A) (i : ℕ) → length l ≤ i → NoneOf l i → find p (map f l) ≡ none
  none_there [] i h N = refl
  none_there (x ∷ xs) zero h N = let z : ⊥ = omega arith in absurd z
  none_there (x ∷ xs) (suc i) h N = rw (N 0 (omega arith)) (none_there xs i (omega arith) (λ j k. N (suc j) (omega arith)))

  -- a change of the first that passes is one at i, also where all images are of another function, which agrees on the others
  pub change_there : (f' : A → B) (l : List A) (i : ℕ) → i < length l → NoneOf l i → p (f (get_or l i d)) ≡ true → (g : B → B) (c : A) → f' c ≡ g (f (get_or l i d))
      → ((j : ℕ) → j < length l → (j ≡ i → ⊥) → f' (get_or l j d) ≡ f (get_or l j d)) → change p g (map f l) ≡ map f' (set l i c)
  change_there f' [] i h N e g c q s = let z : ⊥ = omega arith in absurd z
  change_there f' (x ∷ xs) zero h N e g c q s = rw (e, q, map_same f' f xs d (λ j k. s (suc j) (omega arith) (λ z. omega arith))) refl
  change_there f' (x ∷ xs) (suc i) h N e g c q s =
      rw (N 0 (omega arith), s 0 (omega arith) (λ z. omega arith))
      (ap (λ (r : List B). f x ∷ r) (change_there f' xs i (omega arith) (λ j k. N (suc j) (omega arith)) e g c q (λ j k ne. s (suc j) (omega arith) (λ z. ne (omega arith)))))

-- ── the search for a tag

-- the first i open commands do not have the tag
pub record Searching (l : List ℕ) (tag held i : ℕ) : Type 0 where
  pub count : held ≡ (head_of l).held
  pub in_count : i ≤ held
  pub small : held ≤ most_slots
  pub others : (j : ℕ) → j < i → eqb tag (get_or (opens l) j no_slot).request.tag ≡ false

module _ (l : List ℕ) (tag held i : ℕ) (S : Searching l tag held i) where
  -- not this one
  pub search_more : i < held → (get_or l (slot_at i) 0 ≡ tag → ⊥) → Searching l tag held (i + 1)
  search_more h ne =
      record {
        count = S.count;
        in_count = omega arith;
        small = S.small;
        others = below_more (λ (j : ℕ). eqb tag (get_or (opens l) j no_slot).request.tag ≡ false) i S.others
            (ne_eqb tag (get_or (opens l) i no_slot).request.tag (λ q. ne (sym (tag_at l i (omega (arith, S.count))) ∙ sym q)));
      }

  -- this one
  pub search_here : i < held → get_or l (slot_at i) 0 ≡ tag → FoundAt l tag i
  search_here h eq =
      let n : i < (head_of l).held = omega (arith, S.count) in
      let long : i < length (opens l) = omega (arith, opens_long l) in
      let this : eqb tag (get_or (opens l) i no_slot).request.tag ≡ true = eq-eqb tag (get_or (opens l) i no_slot).request.tag (sym eq ∙ sym (tag_at l i n)) in
      let slot : get_or (opens l) i no_slot ≡ get_or (slots l) i no_slot = get_or-take (head_of l).held (slots l) i no_slot n in
      record {
        inside = n;
        small = omega (arith, S.small);
        tagged = slot_tag l i (omega (arith, S.small)) ∙ eq;
        others = S.others;
        first = λ st. first_there (has_tag tag) (open_of st) no_slot (opens l) i long S.others this ∙ ap (λ (c : Slot). some (open_of st c)) slot;
        changes = λ st g c e.
            change_there (has_tag tag) (open_of st) no_slot (open_of st) (opens l) i long S.others this g c (e ∙ ap (λ (x : Slot). g (open_of st x)) (sym slot)) (λ j k ne. refl)
            ∙ ap (map (open_of st)) (sym (take-set-lt (head_of l).held (slots l) i c n));
      }

  -- none
  pub search_end : held ≤ i → FoundIs l tag None
  search_end h st = none_there (has_tag tag) (open_of st) no_slot (opens l) i (omega (arith, opens_long l, S.count)) S.others

-- ── commands dropped

module _ {A : Type 0} where
  -- lists that agree from i on agree behind it, and at it
  pub tail_same : (l m : List A) (i : ℕ) → drop i l ≡ drop i m → drop (i + 1) l ≡ drop (i + 1) m
  tail_same l m i e = sym (drop-drop 1 i l) ∙ ap (drop 1) e ∙ drop-drop 1 i m

  pub head_same : (l m : List A) (i : ℕ) (d : A) → drop i l ≡ drop i m → get_or l i d ≡ get_or m i d
  head_same l m i d e = rw (get_or-drop i l, get_or-drop i m, add-zero) at (ap (λ (x : List A). get_or x 0 d) e)

  -- the first i stay where none of them ends
  stay_first : (p : A → Bool) (d : A) (l : List A) (i : ℕ) → i ≤ length l → ((j : ℕ) → j < i → p (get_or l j d) ≡ false)
      → take i l ++ without p (drop i l) ≡ without p l
  stay_first p d l zero h N = refl
  stay_first p d [] (suc i) h N = let z : ⊥ = omega arith in absurd z
  stay_first p d (x ∷ xs) (suc i) h N =
      rw (N 0 (omega arith)) (ap (λ (r : List A). x ∷ r) (stay_first p d xs i (omega arith) (λ j k. N (suc j) (omega arith))))

  module _ (p : A → Bool) (l : List A) (i : ℕ) (d : A) (h : i < length l) where
    -- one that stays
    pub stays : p (get_or l i d) ≡ false → without p (drop i l) ≡ get_or l i d ∷ without p (drop (i + 1) l)
    stays e = rw (drop-cons l i d, e, add-one) refl

    -- one that ends
    pub goes : p (get_or l i d) ≡ true → without p (drop i l) ≡ without p (drop (i + 1) l)
    goes e = rw (drop-cons l i d, e, add-one) refl

-- of the words p, with `held` open commands, the words q are made: the first i commands are looked at, `kept` of them stay
pub record Dropping (e : Ending) (held : ℕ) (p q : List ℕ) (i kept : ℕ) : Type 0 where
  pub count : held ≡ (head_of p).held
  pub head : head_of q ≡ head_of p
  pub line : line q ≡ line p
  pub in_count : i ≤ held
  pub small : held ≤ most_slots
  pub behind : kept ≤ i
  pub ahead : drop i (slots q) ≡ drop i (slots p)
  pub done : take kept (slots q) ++ without (over e) (drop i (opens p)) ≡ without (over e) (opens p)

-- before the first that may end
pub drop_start : (e : Ending) (held : ℕ) (p : List ℕ) (i : ℕ) → held ≡ (head_of p).held → i ≤ (head_of p).held → NoneEnds e p i
    → Dropping e held p p i i
drop_start e held p i n h N =
    record {
      count = n;
      head = refl;
      line = refl;
      in_count = omega arith;
      small = omega arith;
      behind = omega arith;
      ahead = refl;
      done = rw (← take-take i (head_of p).held (slots p) h) (stay_first (over e) no_slot (opens p) i (omega (arith, opens_long p)) N);
    }

module _ (e : Ending) (held : ℕ) (p q : List ℕ) (i kept : ℕ) (D : Dropping e held p q i kept) (h : i < held) where
  this : get_or (slots q) i no_slot ≡ get_or (opens p) i no_slot
  this =
      let g : i < (head_of p).held = omega (arith, D.count) in
      head_same (slots q) (slots p) i no_slot D.ahead ∙ sym (get_or-take (head_of p).held (slots p) i no_slot g)

  -- whether it ends, by the request that was read
  test : {b : Bool} (r : Request) → r ≡ (get_or (slots q) i no_slot).request → ends e r ≡ b → over e (get_or (opens p) i no_slot) ≡ b
  test r is t = ap (over e) (sym this) ∙ ap (ends e) (sym is) ∙ t

  inside : i < length (opens p)
  inside = omega (arith, opens_long p, D.count)

  -- this one ends
  pub drop_ended : (r : Request) → r ≡ (get_or (slots q) i no_slot).request → ends e r ≡ true → Dropping e held p q (i + 1) kept
  drop_ended r is t =
      record {
        count = D.count;
        head = D.head;
        line = D.line;
        in_count = omega arith;
        small = D.small;
        behind = omega (arith, D.behind);
        ahead = tail_same (slots q) (slots p) i D.ahead;
        done = rw (← goes (over e) (opens p) i no_slot inside (test r is t)) D.done;
      }

  -- this one stays, moved up
  pub drop_kept : (r : Request) → r ≡ (get_or (slots q) i no_slot).request → ends e r ≡ false → (q' : List ℕ)
      → SlotChanged q q' kept (λ _. get_or (slots q) i no_slot) → Dropping e held p q' (i + 1) (kept + 1)
  drop_kept r is t q' M =
      let k : kept < length (slots q) = omega (arith, slots_long most_slots 0 q, D.behind, D.small) in
      record {
        count = D.count;
        head = M.head ∙ D.head;
        line = M.line ∙ D.line;
        in_count = omega arith;
        small = D.small;
        behind = omega (arith, D.behind);
        ahead = rw M.slots (drop-set-lt (i + 1) (slots q) kept (get_or (slots q) i no_slot) (omega (arith, D.behind)) ∙ tail_same (slots q) (slots p) i D.ahead);
        done = rw (M.slots, add-one kept, take-suc-set (slots q) kept (get_or (slots q) i no_slot) k, append_assoc, this, ← stays (over e) (opens p) i no_slot inside (test r is t)) D.done;
      }

  -- this one stays where it is
  pub drop_unmoved : (r : Request) → r ≡ (get_or (slots q) i no_slot).request → ends e r ≡ false → i ≤ kept → Dropping e held p q (i + 1) (kept + 1)
  drop_unmoved r is t g =
      let k : kept ≡ i = omega (arith, D.behind) in
      drop_kept r is t q (record { slots = rw k (sym (set-get_or (slots q) i no_slot)); head = refl; line = refl })

module _ (e : Ending) (held : ℕ) (p q : List ℕ) (i kept : ℕ) (D : Dropping e held p q i kept) (end : held ≤ i) where
  stay : take kept (slots q) ≡ without (over e) (opens p)
  stay =
      let o : length (opens p) ≤ i = omega (arith, opens_long p, D.count) in
      rw (drop_of_length-le (opens p) o, append-nil) at D.done

  -- the port without those that ended, its other counts those of the head that was read
  pub dropped : (h : Head) → h ≡ head_of p → (q' : List ℕ) → HeadChanged q q' (counted_of kept h.wanted h.announced h.unanswered) → Alters p q' (without_slots e)
  dropped h is q' H =
      let hp : head_of q' ≡ counted_of kept (head_of p).wanted (head_of p).announced (head_of p).unanswered (head_of p) =
      H.head
      ∙ ap (counted_of kept h.wanted h.announced h.unanswered) D.head
      ∙ ap (λ (x : Head). counted_of kept x.wanted x.announced x.unanswered (head_of p)) is in
      record {
        live = ap (λ (x : Head). x.live) hp;
        port = λ st.
            (λ i. open_port_lem (hp i) (slots q') ((H.line ∙ D.line) i) st)
            ∙ ap (λ (cs : List Open). with_held (shown p st) (head_of p).announced cs)
            (ap (λ (cs : List Slot). map (open_of st) (take kept cs)) H.slots
            ∙ ap (map (open_of st)) stay
            ∙ sym (without_map (open_of st) (ending e) (opens p)));
      }
