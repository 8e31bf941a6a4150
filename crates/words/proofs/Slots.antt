-- The words of a port: its slots and its head, read and written.
-- Assumes nothing.
use mathlib.Core.Path.{◌≡◌, refl, sym, ◌∙◌, ap}
use mathlib.Core.Bool.{Bool, true, false}
use mathlib.Core.List.{List, [], ◌∷◌, ◌++◌, append_assoc}
use mathlib.Core.Logic.{◌⊎◌, inl, inr, ⊎_elim}
use Prim.Native.Nat.{ℕ, zero, suc, min, ◌+◌, ◌-◌, ◌*◌, ◌/◌, ◌%◌, ◌^◌, ◌≤◌, ◌<◌}
use native.Mathlib.Omega.{arith}
use native.Mathlib.Nat.{add-zero, zero-add, mod-eq_of_lt}
use lib.ListN.{length, get_or, take, drop, set, length-append, take-append-drop}
use lib.Seq.{paste, take-paste, drop-paste, drop-cons, drop-drop, drop_at, take_at, length-take-le, take-length, get_or-take, get_or-drop}
use mir.Val.{Val}
use denote.Laws.{Is}
use Rattle.srp.specs.Bytes.{bit}
use Rattle.srp.specs.declared.Direction.{Direction}
use Rattle.srp.specs.declared.Direction.TheVariants.{Out, In}
use Rattle.srp.proofs.FieldLaws.{front}
use Rattle.srp.specs.contracts.Descriptor as descriptor
use Rattle.words.specs.contracts.Part as part
use Rattle.words.specs.contracts.Slot.{the_row}
use Rattle.srp.specs.Limits.{most_copies, most_moves}
use Rattle.srp.specs.Descriptors.{placeless}
use Rattle.srp.specs.declared.Descriptor.{Descriptor}
use Rattle.words.specs.declared.Part.{Part}
use Rattle.words.specs.declared.Slot.{Slot}
use Rattle.words.specs.declared.Head.{Head}
use Rattle.words.specs.Sizes.{port_words, most_slots, head_size, slot_words, first_words, used_words, line_at}
use Rattle.words.specs.Slots.{on, part_at_lem, part_in, slot_of_lem, first_words_of, awaited_words_of, words_of, PartFits, TableFits, SlotFits, slot_at, region, slots_from, slots, no_slot, part_for}
use Rattle.words.specs.Line.{count_in, first_in, ring_from, behind, line}
use Rattle.words.specs.Head.{head_of, head_words_lem, HeadFits, SlotChanged, HeadChanged}

-- ── a list with a part written

module _ {A : Type 0} where
  module _ (d : List A) (pos : ℕ) (s : List A) (n : ℕ) (room : pos + n ≤ length d) (fits : n ≤ length s) where
    -- what is behind what is written stays
    pub stays_behind : (at : ℕ) → pos + n ≤ at → drop at (paste d pos s n) ≡ drop at d
    stays_behind at h =
        let e : pos + n + (at - (pos + n)) ≡ at = omega arith in
        rw e at (sym (drop-drop (at - (pos + n)) (pos + n) (paste d pos s n)) ∙ ap (drop (at - (pos + n))) (drop-paste d pos s n (omega arith) fits) ∙ drop-drop (at - (pos + n)) (pos + n) d)

    -- a part before or behind what is written keeps its content
    pub apart : (at k : ℕ) → (at + k ≤ pos) ⊎ (pos + n ≤ at) → take k (drop at (paste d pos s n)) ≡ take k (drop at d)
    apart at k =
        ⊎_elim
        (λ h.
        let t : length (take pos d) ≡ pos = length-take-le pos d (omega arith) in
        rw append_assoc
        (front (take pos d) (take n s ++ drop (pos + n) d) at k (omega arith)
        ∙ sym (front (take pos d) (drop pos d) at k (omega arith))
        ∙ ap (λ (x : List A). take k (drop at x)) (take-append-drop pos d)))
        (λ h. ap (take k) (stays_behind at h))

  module _ (d : List A) (pos : ℕ) (s : List A) (h : pos + length s ≤ length d) where
    -- from where it is written on, a list is what is written and what was behind it
    pub from_written : drop pos (paste d pos s (length s)) ≡ s ++ drop (pos + length s) d
    from_written =
        rw (append_assoc, drop_at (take pos d) (take (length s) s ++ drop (pos + length s) d) pos (length-take-le pos d (omega arith)), take-length s) refl

    -- what is written is there
    pub written : take (length s) (drop pos (paste d pos s (length s))) ≡ s
    written = rw from_written (take_at s (drop (pos + length s) d) (length s) refl)

    -- a second write right behind the first is one write of both
    pub written_on : (t : List A) → pos + length s + length t ≤ length d
        → paste (paste d pos s (length s)) (pos + length s) t (length t) ≡ paste d pos (s ++ t) (length (s ++ t))
    written_on t room =
        let n : ℕ = length s in
        let behind : drop (pos + n + length t) (paste d pos s n) ≡ drop (pos + n + length t) d =
        sym (drop-drop (length t) (pos + n) (paste d pos s n)) ∙ ap (drop (length t)) (drop-paste d pos s n (omega arith) (omega arith)) ∙ drop-drop (length t) (pos + n) d in
        let size : pos + length (s ++ t) ≡ pos + n + length t = omega (arith, length-append s t) in
        rw (behind, take-paste d pos s n (omega arith) (omega arith), take-length s, take-length t, take-length (s ++ t), size)
        (ap (λ (x : List A). x ++ drop (pos + n + length t) d) (append_assoc (take pos d) s t))

-- ── the slots as a list

-- of the slots from one on, each is what its words say
pub slots_at : (n i : ℕ) (l : List ℕ) (j : ℕ) → j < n → get_or (slots_from n i l) j no_slot ≡ slot_of_lem (region l (i + j))
unfolding slots_from
slots_at zero i l j h = let z : ⊥ = omega arith in absurd z
slots_at (suc n) i l zero h = rw add-zero refl
slots_at (suc n) i l (suc j) h = let e : i + 1 + j ≡ i + suc j = omega arith in rw (slots_at n (i + 1) l j (omega arith), e) refl

-- each of the 16 slots is what its words say
pub slot_at_lem : (l : List ℕ) (i : ℕ) → i < most_slots → get_or (slots l) i no_slot ≡ slot_of_lem (region l i)
slot_at_lem l i h = rw zero-add at (slots_at most_slots 0 l i h)

-- a slot's words stand from its start on
pub word_at : (l : List ℕ) (i k : ℕ) → k < slot_words → get_or (region l i) k 0 ≡ get_or l (slot_at i + k) 0
word_at l i k h = get_or-take slot_words (drop (slot_at i) l) k 0 h ∙ get_or-drop (slot_at i) l k 0

-- the first of all is its tag
pub slot_tag : (l : List ℕ) (i : ℕ) → i < most_slots → (get_or (slots l) i no_slot).request.tag ≡ get_or l (slot_at i) 0
slot_tag l i h =
    ap (λ (c : Slot). c.request.tag) (slot_at_lem l i h) ∙ word_at l i 0 (omega arith) ∙ ap (λ (k : ℕ). get_or l k 0) (add-zero (slot_at i))

-- each direction, in its words
pub slot_part : (l : List ℕ) (i : ℕ) → i < most_slots → (d : Direction) → part_for d (get_or (slots l) i no_slot) ≡ part_in (region l i) (part_at_lem d)
slot_part l i h Out = ap (part_for Out) (slot_at_lem l i h)
slot_part l i h In = ap (part_for In) (slot_at_lem l i h)

-- there are as many slots as are asked for
pub slots_long : (n i : ℕ) (l : List ℕ) → length (slots_from n i l) ≡ n
unfolding slots_from
slots_long zero i l = refl
slots_long (suc n) i l = ap suc (slots_long n (i + 1) l)

-- words whose regions agree have the same slots
pub slots_same : (n i : ℕ) (l l' : List ℕ) → ((j : ℕ) → i ≤ j → j < i + n → region l' j ≡ region l j) → slots_from n i l' ≡ slots_from n i l
unfolding slots_from
slots_same zero i l l' r = refl
slots_same (suc n) i l l' r = rw (r i (omega arith) (omega arith), slots_same n (i + 1) l l' (λ j h k. r j (omega arith) (omega arith))) refl

-- words whose regions agree but for one have the same slots but for that one
pub slots_set : (n i : ℕ) (l l' : List ℕ) (k : ℕ) (c : Slot) → k < n → slot_of_lem (region l' (i + k)) ≡ c
    → ((j : ℕ) → (j ≡ i + k → ⊥) → region l' j ≡ region l j) → slots_from n i l' ≡ set (slots_from n i l) k c
unfolding slots_from
slots_set zero i l l' k c h e r = let z : ⊥ = omega arith in absurd z
slots_set (suc n) i l l' zero c h e r = rw (rw add-zero at e, slots_same n (i + 1) l l' (λ j g k. r j (λ q. omega arith))) refl
slots_set (suc n) i l l' (suc k) c h e r =
    let x : i + suc k ≡ i + 1 + k = omega arith in
    rw (r i (λ q. omega arith), slots_set n (i + 1) l l' k c (omega arith) (rw x at e) (λ j ne. r j (λ q. ne (q ∙ x)))) refl

-- ── the first words of a list

-- n words from word k on
unfoldable pub words_at : ℕ → ℕ → List ℕ → List ℕ
words_at zero k l = []
words_at (suc n) k l = get_or l k 0 ∷ words_at n (suc k) l

-- a list from word k on is n words and those behind them
pub spread : (n k : ℕ) (l : List ℕ) → k + n ≤ length l → drop k l ≡ words_at n k l ++ drop (k + n) l
unfolding words_at
spread zero k l h = rw add-zero refl
spread (suc n) k l h =
    let e : suc k + n ≡ k + suc n = omega arith in
    drop-cons l k 0 (omega arith) ∙ ap (λ (r : List ℕ). get_or l k 0 ∷ r) (rw e at (spread n (suc k) l (omega arith)))

-- the first m words of a list have the same
pub words_front : (n k m : ℕ) (l : List ℕ) → k + n ≤ m → words_at n k (take m l) ≡ words_at n k l
unfolding words_at
words_front zero k m l h = refl
words_front (suc n) k m l h = rw (get_or-take m l k 0 (omega arith), words_front n (suc k) m l (omega arith)) refl

-- lists that agree in their first 16 words say the same head
pub head_same : (l l' : List ℕ) → take head_size l' ≡ take head_size l → head_of l' ≡ head_of l
unfolding words_at
head_same l l' e = ap head_of (sym (words_front 11 0 head_size l' (omega arith)) ∙ ap (words_at 11 0) e ∙ words_front 11 0 head_size l (omega arith))

-- words that agree behind the slots say the same line
pub line_same : (l l' : List ℕ) → behind l' ≡ behind l → line l' ≡ line l
line_same l l' e = ap (λ (r : List ℕ). take (count_in r) (ring_from most_moves (first_in r) r)) e

-- ── what is written says what was meant

-- a bit that is written is read
pub on_bit : (b : Bool) → on (bit b) ≡ b
on_bit true = refl
on_bit false = refl

-- the numbers of a direction are in their ranges
part_kept : (p : Part) (vs : List Val) → Is part.the_row p vs → PartFits p
    → (min p.segments most_copies ≡ p.segments)
    × (p.total % 2 ^ 32 ≡ p.total)
    × (p.transfer.required % 2 ^ 32 ≡ p.transfer.required)
    × (p.transfer.highest % 2 ^ 32 ≡ p.transfer.highest)
    × (p.transfer.at % 2 ^ 32 ≡ p.transfer.at)
    × (p.transfer.end % 2 ^ 32 ≡ p.transfer.end)
    × (min p.transfer.number p.transfer.at ≡ p.transfer.number)
part_kept p vs g h =
    let t = g.1.1.1.1.0 in (
      omega (arith, h.few),
      mod-eq_of_lt g.1.1.1.0.1,
      mod-eq_of_lt t.1.1.0.1,
      mod-eq_of_lt t.1.1.1.0.1,
      mod-eq_of_lt t.1.1.1.1.0.1,
      mod-eq_of_lt t.1.1.1.1.1.0.1,
      omega (arith, h.counted),
    )

-- so are those of a descriptor
table_kept : (d : Descriptor) (vs : List Val) → Is descriptor.the_row d vs → TableFits d
    → (d.format % 3 ≡ d.format) × (min d.count most_copies ≡ d.count) × (d.len % 2 ^ 32 ≡ d.len) × (d.total % 2 ^ 32 ≡ d.total)
table_kept d vs g h = (omega (arith, h.format), omega (arith, h.few), mod-eq_of_lt g.1.1.1.1.1.0.1, mod-eq_of_lt g.1.1.1.1.1.1.0.1)

unplaced : (d : Descriptor) → d.at ≡ 0 → placeless d ≡ d
unplaced d e = λ j. record { format = d.format; count = d.count; at = sym e j; len = d.len; total = d.total }

-- a slot's words say the slot, whatever stands behind them
decoded : (c : Slot) (vs : List Val) → Is the_row c vs → SlotFits c → (rest : List ℕ) → slot_of_lem (take slot_words (words_of c ++ rest)) ≡ c
decoded c vs g F rest =
    let o = part_kept c.out _ g.1.1.1.1.1.0 F.out in
    let n = part_kept c.inn _ g.1.1.1.1.1.1.0 F.inn in
    let a = g.1.1.1.1.1.1.1.0 in
    let p = table_kept c.awaits.out _ a.1.1.1.0 F.awaits.out in
    let q = table_kept c.awaits.inn _ a.1.1.1.1.0 F.awaits.inn in
    simp (o.0, o.1, o.2, o.3, o.4, o.5, o.6, n.0, n.1, n.2, n.3, n.4, n.5, n.6, mod-eq_of_lt F.place, p.0, p.1, p.2, p.3, q.0, q.1, q.2, q.3, on_bit)
    (λ j.
    record {
      request = c.request;
      planned = c.planned;
      place = c.place;
      out = c.out;
      inn = c.inn;
      awaits =
          record {
            waiting = c.awaits.waiting;
            out = unplaced c.awaits.out F.awaits.out.unplaced j;
            inn = unplaced c.awaits.inn F.awaits.inn.unplaced j;
          };
    })

-- a head's words say the head
head_put : (l : List ℕ) (h : Head) → HeadFits h → head_of (paste l 0 (head_words_lem h) (length (head_words_lem h))) ≡ h
head_put l h F =
    let C = F.counts in
    let T = F.terms in
    let n : min h.held 16 ≡ h.held = omega (arith, C.room) in
    let w : (h.wanted - 1) % 16 + 1 ≡ h.wanted = omega (arith, C.least, C.most) in
    let a : min h.announced (16 - h.held) ≡ h.announced = omega (arith, C.room) in
    let m : (h.terms.maximum - 1) % 1048576 + 1 ≡ h.terms.maximum = omega (arith, T.smallest, T.largest) in
    let x : (h.terms.agreed - 64) % 1301 + 64 ≡ h.terms.agreed = omega (arith, T.shortest, T.longest) in
    let f : h.terms.formats / 2 % 4 * 2 ≡ h.terms.formats = omega (arith, T.formats, T.even) in
    simp (n, w, a, m, x, f, T.boundary, on_bit)

-- words written in the head leave the slots
head_slots : (l : List ℕ) (ws : List ℕ) → length l ≡ port_words → length ws ≤ head_size → slots (paste l 0 ws (length ws)) ≡ slots l
head_slots l ws long e =
    slots_same most_slots 0 l (paste l 0 ws (length ws))
    (λ j g k. apart l 0 ws (length ws) (omega arith) (omega arith) (slot_at j) slot_words (inr (omega arith)))

-- a head written
pub head_written : (l : List ℕ) → length l ≡ port_words → (h : Head) → HeadFits h
    → HeadChanged l (paste l 0 (head_words_lem h) (length (head_words_lem h))) (λ _. h)
head_written l long h F =
    record {
      slots = head_slots l (head_words_lem h) long (omega arith);
      head = head_put l h F;
      line = line_same l (paste l 0 (head_words_lem h) (length (head_words_lem h))) (stays_behind l 0 (head_words_lem h) (length (head_words_lem h)) (omega arith) (omega arith) line_at (omega arith));
    }

-- ── a slot written

-- unlike numbers are in one order or the other
pub either : (j k : ℕ) → (j ≡ k → ⊥) → (j < k) ⊎ (k < j)
either zero zero ne = absurd (ne refl)
either zero (suc k) ne = inl (omega arith)
either (suc j) zero ne = inr (omega arith)
either (suc j) (suc k) ne = ⊎_elim (λ h. inl (omega arith)) (λ h. inr (omega arith)) (either j k (λ e. ne (ap suc e)))

-- the words l' are l but for slot i, whose words are r
pub record OnlySlot (l l' : List ℕ) (i : ℕ) (r : List ℕ) : Type 0 where
  pub this : region l' i ≡ r
  pub others : (j : ℕ) → (j ≡ i → ⊥) → region l' j ≡ region l j
  pub head : head_of l' ≡ head_of l
  pub rest : behind l' ≡ behind l

-- that slot is another, the other slots, the head and the line stay
pub put_slot : {l l' : List ℕ} {i : ℕ} {r : List ℕ} → OnlySlot l l' i r → i < most_slots → (f : Slot → Slot) → slot_of_lem r ≡ f (get_or (slots l) i no_slot) → SlotChanged l l' i f
put_slot {l} {l'} {i} O h f e =
    record {
      slots =
          slots_set most_slots 0 l l' i (f (get_or (slots l) i no_slot)) h (rw zero-add (ap slot_of_lem O.this ∙ e))
          (λ j ne. O.others j (λ q. ne (q ∙ sym (zero-add i))));
      head = O.head;
      line = line_same l l' O.rest;
    }

-- words written from a slot's start on
slot_put : (l : List ℕ) → length l ≡ port_words → (i : ℕ) → i < most_slots → (ws : List ℕ) → length ws ≤ slot_words
    → OnlySlot l (paste l (slot_at i) ws (length ws)) i (take slot_words (ws ++ drop (slot_at i + length ws) l))
slot_put l long i h ws wl =
    let stays = apart l (slot_at i) ws (length ws) (omega arith) (omega arith) in
    record {
      this = ap (take slot_words) (from_written l (slot_at i) ws (omega arith));
      others = λ j ne. stays (slot_at j) slot_words (⊎_elim (λ q. inl (omega arith)) (λ q. inr (omega arith)) (either j i ne));
      head = head_same l (paste l (slot_at i) ws (length ws)) (stays 0 head_size (inl (omega arith)));
      rest = stays_behind l (slot_at i) ws (length ws) (omega arith) (omega arith) line_at (omega arith);
    }

-- the words of a command written there: the slot has the command
pub saved : (l : List ℕ) → length l ≡ port_words → (i : ℕ) → i < most_slots → (c : Slot) (vs : List Val) → Is the_row c vs → SlotFits c
    → SlotChanged l (paste (paste l (slot_at i) (first_words_of c) first_words) (slot_at i + first_words) (awaited_words_of c.awaits) (used_words - first_words)) i (λ _. c)
saved l long i h c vs g F =
    rw (written_on l (slot_at i) (first_words_of c) (omega arith) (awaited_words_of c.awaits) (omega arith))
    (put_slot (slot_put l long i h (words_of c) (omega arith)) h (λ _. c) (decoded c vs g F (drop (slot_at i + used_words) l)))
