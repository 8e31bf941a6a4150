-- Single words of a port written: what the head says then, and what a slot says; and a slot's words shifted to another.
-- Assumes nothing.
use mathlib.Core.Path.{◌≡◌, refl, sym, ◌∙◌, ap}
use mathlib.Core.Bool.{Bool}
use mathlib.Core.List.{List, ◌++◌}
use mathlib.Core.Logic.{◌⊎◌, inl, inr, ⊎_elim}
use Prim.Native.Nat.{ℕ, min, ◌+◌, ◌-◌, ◌*◌, ◌%◌, ◌^◌, ◌≤◌, ◌<◌}
use native.Mathlib.Omega.{arith}
use native.Mathlib.Nat.{mod-eq_of_lt}
use lib.ListN.{length, get_or, take, drop, set, length-take, length-drop}
use lib.Seq.{paste, take-paste, length-take-le, drop_at, drop-set-lt, drop-set-add, take-set-lt, take-set-le}
use Rattle.std.proofs.lemmas.List.{take-take, drop-take}
use Rattle.srp.specs.Bytes.{bit}
use Rattle.srp.specs.declared.Direction.{Direction}
use Rattle.srp.specs.declared.Direction.TheVariants.{Out, In}
use Rattle.words.specs.declared.Slot.{Slot}
use Rattle.words.specs.Sizes.{port_words, most_slots, head_size, slot_words, part_words, used_words, line_at}
use Rattle.words.specs.Slots.{slot_of_lem, slot_at, region, slots, no_slot, part_at_lem, planned_slot, moved_slot}
use Rattle.words.specs.Line.{behind, line}
use Rattle.words.specs.Head.{head_of, counted_of, CountsFit, SlotChanged, HeadChanged}
use Rattle.words.proofs.Slots.{slots_same, slot_at_lem, words_at, words_front, spread, on_bit, head_same, line_same, apart, stays_behind, either, OnlySlot, put_slot}

-- ── words of the head

-- a word of the head written leaves the slots
pub head_word : (l : List ℕ) (k x : ℕ) → k < head_size → slots (set l k x) ≡ slots l
head_word l k x h = slots_same most_slots 0 l (set l k x) (λ j g b. ap (take slot_words) (drop-set-lt (slot_at j) l k x (omega arith)))

-- and the line
head_word_line : (l : List ℕ) (k x : ℕ) → k < head_size → behind (set l k x) ≡ behind l
head_word_line l k x h = drop-set-lt line_at l k x (omega arith)

module _ (l : List ℕ) (n w a : ℕ) (u : Bool) where
  -- the words with other counts
  abbrev recounted : List ℕ
  recounted = set (set (set (set l 1 n) 2 (w - 1)) 3 a) 4 (bit u)

  -- they leave the slots
  recounted_slots : slots recounted ≡ slots l
  recounted_slots =
      head_word (set (set (set l 1 n) 2 (w - 1)) 3 a) 4 (bit u) (omega arith)
      ∙ head_word (set (set l 1 n) 2 (w - 1)) 3 a (omega arith)
      ∙ head_word (set l 1 n) 2 (w - 1) (omega arith)
      ∙ head_word l 1 n (omega arith)

  -- and the line
  recounted_line : line recounted ≡ line l
  recounted_line =
      line_same l recounted
      (head_word_line (set (set (set l 1 n) 2 (w - 1)) 3 a) 4 (bit u) (omega arith)
      ∙ head_word_line (set (set l 1 n) 2 (w - 1)) 3 a (omega arith)
      ∙ head_word_line (set l 1 n) 2 (w - 1) (omega arith)
      ∙ head_word_line l 1 n (omega arith))

  -- the head has them
  recounted_head : length l ≡ port_words → CountsFit n w a → head_of recounted ≡ counted_of n w a u (head_of l)
  unfolding words_at
  recounted_head long F =
      let e1 : min n 16 ≡ n = omega (arith, F.room) in
      let e2 : (w - 1) % 16 + 1 ≡ w = omega (arith, F.least, F.most) in
      let e3 : min a (16 - n) ≡ a = omega (arith, F.room) in
      ap (λ (x : List ℕ). head_of (set (set (set (set x 1 n) 2 (w - 1)) 3 a) 4 (bit u))) (spread 11 0 l (omega arith)) ∙ simp (e1, e2, e3, on_bit)

  -- other counts written
  pub recounted_put : length l ≡ port_words → CountsFit n w a → HeadChanged l recounted (counted_of n w a u)
  recounted_put long F = record { slots = recounted_slots; head = recounted_head long F; line = recounted_line }

-- ── words of the line

-- a word of the line written leaves the slots, and the head
pub line_word_slots : (l : List ℕ) (k x : ℕ) → slots (set l (line_at + k) x) ≡ slots l
line_word_slots l k x =
    slots_same most_slots 0 l (set l (line_at + k) x)
    (λ j g b.
    let e : slot_at j + (line_at + k - slot_at j) ≡ line_at + k = omega arith in
    rw (← e)
    (ap (take slot_words) (drop-set-add (slot_at j) l (line_at + k - slot_at j) x)
    ∙ take-set-le slot_words (drop (slot_at j) l) (line_at + k - slot_at j) x (omega arith)))

pub line_word_head : (l : List ℕ) (k x : ℕ) → head_of (set l (line_at + k) x) ≡ head_of l
line_word_head l k x = head_same l (set l (line_at + k) x) (take-set-le head_size l (line_at + k) x (omega arith))

-- ── words of a slot

-- no word written
unwritten : (l : List ℕ) (i : ℕ) → OnlySlot l l i (region l i)
unwritten l i = record { this = refl; others = λ j ne. refl; head = refl; rest = refl }

-- a word of a slot written leaves the others
other_slot : (l : List ℕ) (i k x : ℕ) → k < slot_words → (j : ℕ) → (j ≡ i → ⊥) → region (set l (slot_at i + k) x) j ≡ region l j
other_slot l i k x h j ne =
    ⊎_elim
    (λ (q : j < i).
    let e : slot_at j + (slot_words * i + k - slot_words * j) ≡ slot_at i + k = omega arith in
    rw (← e)
    (ap (take slot_words) (drop-set-add (slot_at j) l (slot_words * i + k - slot_words * j) x)
    ∙ take-set-le slot_words (drop (slot_at j) l) (slot_words * i + k - slot_words * j) x (omega arith)))
    (λ (q : i < j). ap (take slot_words) (drop-set-lt (slot_at j) l (slot_at i + k) x (omega arith)))
    (either j i ne)

-- one word more of a slot written
slot_word : {l l' : List ℕ} (i : ℕ) {r : List ℕ} → i < most_slots → OnlySlot l l' i r → (k x : ℕ) → k < slot_words → OnlySlot l (set l' (slot_at i + k) x) i (set r k x)
slot_word {l} {l'} i small O k x h =
    record {
      this =
          ap (take slot_words) (drop-set-add (slot_at i) l' k x)
          ∙ take-set-lt slot_words (drop (slot_at i) l') k x h
          ∙ ap (λ (q : List ℕ). set q k x) O.this;
      others = λ j ne. other_slot l' i k x h j ne ∙ O.others j ne;
      head = head_same l' (set l' (slot_at i + k) x) (take-set-le head_size l' (slot_at i + k) x (omega arith)) ∙ O.head;
      rest = drop-set-lt line_at l' (slot_at i + k) x (omega arith) ∙ O.rest;
    }

-- a change of a slot's words is a change of the slot
changed : {l l' : List ℕ} (i : ℕ) {r : List ℕ} → OnlySlot l l' i r → i < most_slots → (f : Slot → Slot) → slot_of_lem r ≡ f (slot_of_lem (region l i)) → SlotChanged l l' i f
changed {l} i O h f e = put_slot O h f (e ∙ ap f (sym (slot_at_lem l i h)))

module _ (l : List ℕ) (long : length l ≡ port_words) (i : ℕ) (h : i < most_slots) where
  -- a slot has its words
  slot_long : length (region l i) ≡ slot_words
  slot_long = rw length-take (rw length-drop (omega arith))

  -- they are its words in use and the others
  whole : region l i ≡ words_at used_words 0 (region l i) ++ drop used_words (region l i)
  whole = spread used_words 0 (region l i) (omega (arith, slot_long))

  -- a plan stated
  pub plan_put : (out inn : ℕ) → out < 2 ^ 32 → inn < 2 ^ 32
      → SlotChanged l (set (set (set l (slot_at i + 4) 1) (slot_at i + (part_at_lem Out + 2)) out) (slot_at i + (part_at_lem In + 2)) inn) i (planned_slot out inn)
  unfolding words_at
  plan_put out inn o n =
      changed i (slot_word i h (slot_word i h (slot_word i h (unwritten l i) 4 1 (omega arith)) (part_at_lem Out + 2) out (omega arith)) (part_at_lem In + 2) inn (omega arith)) h (planned_slot out inn)
      (ap (λ (r : List ℕ). slot_of_lem (set (set (set r 4 1) (part_at_lem Out + 2) out) (part_at_lem In + 2) inn)) whole ∙ simp (mod-eq_of_lt o, mod-eq_of_lt n))

  -- a move named or handed out
  pub moved_put : (d : Direction) (high at end number : ℕ) → high < 2 ^ 32 → at < 2 ^ 32 → end < 2 ^ 32 → number ≤ at
      → SlotChanged l (set (set (set (set l (slot_at i + (part_at_lem d + 3)) high) (slot_at i + (part_at_lem d + 4)) at) (slot_at i + (part_at_lem d + 5)) end) (slot_at i + (part_at_lem d + 6)) number) i
      (moved_slot d high at end number)
  unfolding words_at
  moved_put d high at end number bh ba be few =
      let three = slot_word i h (slot_word i h (slot_word i h (unwritten l i) (part_at_lem d + 3) high (small d 3 (omega arith))) (part_at_lem d + 4) at (small d 4 (omega arith))) (part_at_lem d + 5) end (small d 5 (omega arith)) in
      changed i (slot_word i h three (part_at_lem d + 6) number (small d 6 (omega arith))) h (moved_slot d high at end number) (said d)
    where
      counted : min number at ≡ number
      counted = omega arith

      written : Direction → List ℕ → List ℕ
      written d r = set (set (set (set r (part_at_lem d + 3) high) (part_at_lem d + 4) at) (part_at_lem d + 5) end) (part_at_lem d + 6) number

      small : (d : Direction) (k : ℕ) → k < part_words → part_at_lem d + k < slot_words
      small Out k q = omega arith
      small In k q = omega arith

      said : (d : Direction) → slot_of_lem (written d (region l i)) ≡ moved_slot d high at end number (slot_of_lem (region l i))
      said Out = ap (λ (r : List ℕ). slot_of_lem (written Out r)) whole ∙ simp (mod-eq_of_lt bh, mod-eq_of_lt ba, mod-eq_of_lt be, counted)
      said In = ap (λ (r : List ℕ). slot_of_lem (written In r)) whole ∙ simp (mod-eq_of_lt bh, mod-eq_of_lt ba, mod-eq_of_lt be, counted)

-- ── a slot's words shifted to another

-- lists that agree in their first used_words words say the same command
slot_same : (r r' : List ℕ) → take used_words r' ≡ take used_words r → slot_of_lem r' ≡ slot_of_lem r
unfolding words_at
slot_same r r' e = ap slot_of_lem (sym (words_front used_words 0 used_words r' (omega arith)) ∙ ap (words_at used_words 0) e ∙ words_front used_words 0 used_words r (omega arith))

-- the words of slot k that are used, written over those of slot i
module _ (l : List ℕ) (long : length l ≡ port_words) (k i : ℕ) (h : k < most_slots) (g : i < k) where
  abbrev from : List ℕ
  from = drop (slot_at k) l

  abbrev over : List ℕ
  over = paste l (slot_at i) from used_words

  enough : used_words ≤ length from
  enough = rw length-drop (omega arith)

  stays : (at n : ℕ) → (at + n ≤ slot_at i) ⊎ (slot_at i + used_words ≤ at) → take n (drop at over) ≡ take n (drop at l)
  stays = apart l (slot_at i) from used_words (omega arith) enough

  -- they stand there
  same : take used_words (region over i) ≡ take used_words (region l k)
  same =
      take-take used_words slot_words (drop (slot_at i) over) (omega arith)
      ∙ sym (drop-take (slot_at i) used_words over)
      ∙ ap (drop (slot_at i)) (take-paste l (slot_at i) from used_words (omega arith) enough)
      ∙ drop_at (take (slot_at i) l) (take used_words from) (slot_at i) (length-take-le (slot_at i) l (omega arith))
      ∙ sym (take-take used_words slot_words from (omega arith))

  -- the slot has the command
  pub shifted : (n : ℕ) → n ≡ used_words → SlotChanged l (paste l (slot_at i) from n) i (λ _. get_or (slots l) k no_slot)
  shifted n e =
      rw e
      (put_slot
      (record {
        this = refl;
        others = λ j ne. stays (slot_at j) slot_words (⊎_elim (λ q. inl (omega arith)) (λ q. inr (omega arith)) (either j i ne));
        head = head_same l over (stays 0 head_size (inl (omega arith)));
        rest = stays_behind l (slot_at i) from used_words (omega arith) enough line_at (omega arith);
      })
      (omega arith) (λ _. get_or (slots l) k no_slot) (slot_same (region l k) (region over i) same ∙ sym (slot_at_lem l k h)))
