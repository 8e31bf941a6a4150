-- The cuts of a move: 1 to M long, crossing no multiple of Q, each inside one segment, consecutive, and together the move's bytes, once; document 01's own list; and h.
-- Assumes nothing.
use mathlib.Core.Path.{◌≡◌, refl, ap, sym, ◌∙◌}
use mathlib.Core.Logic.{◌⊎◌, inl, inr, ⊎_elim}
use mathlib.Core.Bool.{Bool, true, false}
use mathlib.Core.List.{List, [], ◌∷◌, ◌++◌, append_assoc, append-nil}
use mathlib.Core.Option.{Option, none, some}
use Prim.Native.Nat.{ℕ, zero, suc, ◌+◌, ◌-◌, ◌≤◌, min, max}
use native.Mathlib.Nat.{suc-add, zero-add, add-zero, sub-zero, zero-sub, add_assoc, not-suc-le-zero}
use native.Mathlib.Omega.{arith}
use lib.Dec.{ltb}
use lib.ListN.{length, take, drop, get_elem?}
use lib.Seq.{take-append-add, take_at, take-nil, drop-append-add, drop-append-le, drop-nil}
use borrow.Author.Tests.{lt-ltb, le-ltb, ltb-true, ltb-false}
use Rattle.srp.specs.Lists.{All, is_some}
use Rattle.srp.specs.Descriptors.{Segment, sum_of}
use Rattle.srp.specs.Cutting.{Rule, up_to, bytes_in, highest, trimmed, cut_segment, cuts_from, cuts_of, cuts}
use Rattle.srp.specs.Moves.{InSegments, CrossesNone, Consecutive, run, bytes_of_segments, bytes_of_pieces, MovesCut, NextCrossesNone, OwnList, EndsAt, HighestIs, HighestOfOwn}
use Rattle.srp.specs.Credit.{rule_of}
use Rattle.srp.specs.Calls.{has_pieces, next_in, wrapped}
use Rattle.srp.specs.Ranges.{HasPieces}
use Rattle.srp.specs.declared.Piece.{Piece}
use Rattle.srp.proofs.ListLaws.{all_weaken}
use Rattle.srp.proofs.Boundaries.{longest_most, longest_crosses_none, longest_wraps}
use Rattle.srp.proofs.CutLaws.{Lawful, up_to_lem, done_iff, cut_segment_bytes, next_at_lem, cuts_from_bytes}
use Rattle.srp.proofs.Pieces.{piece_fits, as_long}

-- ── all the pieces

all_at : {A : Type 0} (P : A → Type 0) (l : List A) → ((k : ℕ) (x : A) → get_elem? l k ≡ some x → P x) → All P l
all_at P [] f = tt
all_at P (x ∷ l) f = (f 0 x refl, all_at P l (λ k y e. f (suc k) y e))

-- every piece of a move has a byte, is as long as the rule says and lies inside one segment, where its offset says
pub move_fits : (rule : Rule) (from to : ℕ) (ss : List Segment) → Lawful rule → All (λ p. (1 ≤ p.len) × ((n : ℕ) × (p.len ≡ rule p.address n)) × InSegments 0 p ss) (cuts_of rule from to ss)
move_fits rule from to ss m =
    all_at _ (cuts_of rule from to ss) λ k p e.
    let f = piece_fits rule 0 (from + bytes_in (take k (cuts_of rule from to ss))) to ss p m (sym (next_at_lem rule 0 from to ss k m) ∙ e) in
    (f.some, f.ruled, f.within)

consecutive_append : (o : ℕ) (p q : List Piece) → Consecutive o p → Consecutive (o + bytes_in p) q → Consecutive o (p ++ q)
consecutive_append o [] q a b = rw add-zero at b
consecutive_append o (x ∷ p) q a b = (a.0, consecutive_append (o + x.len) p q a.1 (rw add_assoc b))

segment_consecutive : (f : ℕ) (rule : Rule) (a h o n : ℕ) → Consecutive o (cut_segment f rule a h o n)
segment_consecutive zero rule a h o n = tt
segment_consecutive (suc f) rule a h o zero = tt
segment_consecutive (suc f) rule a h o (suc n) = (refl, segment_consecutive f rule (a + rule a (suc n)) h (o + rule a (suc n)) (suc n - rule a (suc n)))

cuts_from_consecutive : (rule : Rule) (o from to : ℕ) (ss : List Segment) → Lawful rule → Consecutive (o + from) (cuts_from rule o from to ss)
cuts_from_consecutive rule o from to [] m = tt
cuts_from_consecutive rule o from to (s ∷ ss) m =
    let n = min s.len to in
    let e : o + from + (n - from) ≡ o + n + (from - n) = omega arith in
    consecutive_append (o + from) (cut_segment (n - from) rule (s.address + from) s.handle (o + from) (n - from)) (cuts_from rule (o + n) (from - n) (to - n) ss)
    (segment_consecutive (n - from) rule (s.address + from) s.handle (o + from) (n - from))
    (rw (cut_segment_bytes (n - from) rule (s.address + from) s.handle (o + from) (n - from) m (omega arith), e) (cuts_from_consecutive rule (o + n) (from - n) (to - n) ss m))

-- a move's pieces follow each other from its offset on
pub move_consecutive : (rule : Rule) (from to : ℕ) (ss : List Segment) → Lawful rule → Consecutive from (cuts_of rule from to ss)
move_consecutive rule from to ss m = rw zero-add at (cuts_from_consecutive rule 0 from to ss m)

-- and have as many bytes as the move, where that ends by B
pub move_bytes : (rule : Rule) (from to : ℕ) (ss : List Segment) → Lawful rule → to ≤ sum_of ss → bytes_in (cuts_of rule from to ss) ≡ to - from
move_bytes rule from to ss m h = cuts_from_bytes rule 0 from to ss m h

-- those of the first min(R, B) bytes have as many
pub cuts_bytes : (rule : Rule) (R : ℕ) (ss : List Segment) → Lawful rule → bytes_in (cuts rule R ss) ≡ min R (sum_of ss)
cuts_bytes rule R ss m = move_bytes rule 0 (min R (sum_of ss)) ss m (omega arith) ∙ omega arith

-- ── byte by byte

pub length_run : (h a n : ℕ) → length (run h a n) ≡ n
length_run h a zero = refl
length_run h a (suc n) = ap suc (length_run h (a + 1) n)

pub run_add : (h a m n : ℕ) → run h a (m + n) ≡ run h a m ++ run h (a + m) n
run_add h a zero n = rw (zero-add n, add-zero a)
run_add h a (suc m) n =
    let e : a + 1 + m ≡ a + suc m = omega arith in
    rw (suc-add m n, run_add h (a + 1) m n, e)

pieces_append : (p q : List Piece) → bytes_of_pieces (p ++ q) ≡ bytes_of_pieces p ++ bytes_of_pieces q
pieces_append [] q = refl
pieces_append (x ∷ p) q = rw (pieces_append p q, append_assoc)

segment_covered : (f : ℕ) (rule : Rule) (a h o n : ℕ) → Lawful rule → n ≤ f → bytes_of_pieces (cut_segment f rule a h o n) ≡ run h a n
segment_covered zero rule a h o zero m le = refl
segment_covered zero rule a h o (suc n) m le = absurd (not-suc-le-zero le)
segment_covered (suc f) rule a h o zero m le = refl
segment_covered (suc f) rule a h o (suc n) m le =
    let k = rule a (suc n) in
    let c = m a (suc n) (omega arith) in
    let e : k + (suc n - k) ≡ suc n = omega (arith, c) in
    rw (segment_covered f rule (a + k) h (o + k) (suc n - k) m (omega (arith, c))) (sym (run_add h a k (suc n - k)) ∙ ap (run h a) e)

-- n bytes of memory without the first k
drop_run : (h a n k : ℕ) → drop k (run h a n) ≡ run h (a + k) (n - k)
drop_run h a n zero = rw (add-zero a, sub-zero n)
drop_run h a zero (suc k) = rw (zero-sub (suc k))
drop_run h a (suc n) (suc k) =
    let e : a + 1 + k ≡ a + suc k = omega arith in
    let d : suc n - suc k ≡ n - k = omega arith in
    rw (drop_run h (a + 1) n k, e, d)

module _ (s : Segment) (ss : List Segment) (to : ℕ) where
  abbrev shared : ℕ
  shared = min s.len to

  abbrev r : ℕ → List (ℕ × ℕ)
  r k = run s.handle s.address k

  abbrev rest : List (ℕ × ℕ)
  rest = bytes_of_segments ss

  -- the first bytes, segment by segment
  take_segments : r shared ++ take (to - shared) rest ≡ take to (r s.len ++ rest)
  take_segments = go (ltb to s.len) refl
    where
      go : (b : Bool) → ltb to s.len ≡ b → r shared ++ take (to - shared) rest ≡ take to (r s.len ++ rest)
      go true e =
          let lt = ltb-true to s.len e in
          let d = s.len - to in
          let short : shared ≡ to = omega arith in
          let zero : to - to ≡ 0 = omega arith in
          let split : s.len ≡ to + d = omega arith in
          rw (short, zero, split, run_add s.handle s.address to d, append_assoc, take_at (r to) (run s.handle (s.address + to) d ++ rest) to (length_run s.handle s.address to))
          (append-nil (r to))
      go false e =
          let all : shared ≡ s.len = omega (arith, ltb-false to s.len e) in
          let split : to ≡ length (r s.len) + (to - s.len) = omega (arith, ltb-false to s.len e, length_run s.handle s.address s.len) in
          rw all (sym (ap (λ (k : ℕ). take k (r s.len ++ rest)) split ∙ take-append-add (r s.len) rest (to - s.len)))

-- n bytes and more, without the first k
pub drop_across : (h a n k : ℕ) (l : List (ℕ × ℕ)) → run h (a + k) (n - k) ++ drop (k - n) l ≡ drop k (run h a n ++ l)
drop_across h a n k l = go (ltb n k) refl
  where
    go : (b : Bool) → ltb n k ≡ b → run h (a + k) (n - k) ++ drop (k - n) l ≡ drop k (run h a n ++ l)
    go true e =
        let none : n - k ≡ 0 = omega (arith, ltb-true n k e) in
        let split : k ≡ length (run h a n) + (k - n) = omega (arith, ltb-true n k e, length_run h a n) in
        rw none (sym (ap (λ (j : ℕ). drop j (run h a n ++ l)) split ∙ drop-append-add (run h a n) l (k - n)))
    go false e =
        let none : k - n ≡ 0 = omega (arith, ltb-false n k e) in
        rw (none, drop-append-le k (run h a n) l (omega (arith, ltb-false n k e, length_run h a n)), drop_run h a n k)

covered_from : (rule : Rule) (o from to : ℕ) (ss : List Segment) → Lawful rule → bytes_of_pieces (cuts_from rule o from to ss) ≡ drop from (take to (bytes_of_segments ss))
covered_from rule o from to [] m = sym (ap (drop from) (take-nil to) ∙ drop-nil from)
covered_from rule o from to (s ∷ ss) m =
    let n = min s.len to in
    rw (pieces_append (cut_segment (n - from) rule (s.address + from) s.handle (o + from) (n - from)) (cuts_from rule (o + n) (from - n) (to - n) ss), segment_covered (n - from) rule (s.address + from) s.handle (o + from) (n - from) m (omega arith), covered_from rule (o + n) (from - n) (to - n) ss m)
    (drop_across s.handle s.address n from (take (to - n) (bytes_of_segments ss)) ∙ ap (drop from) (take_segments s ss to))

-- the bytes of a move's pieces are the bytes of the segments from its offset up to its end, in order, once
pub move_covered : (rule : Rule) (from to : ℕ) (ss : List Segment) → Lawful rule → bytes_of_pieces (cuts_of rule from to ss) ≡ drop from (take to (bytes_of_segments ss))
move_covered rule from to ss m = covered_from rule 0 from to ss m

-- so the cuts of a move are what specs/Moves.antt says
pub moves_cut : MovesCut
moves_cut M Q from to ss m h =
    let rule = up_to M Q in
    let cut = up_to_lem M Q m in
    let fit = move_fits rule from to ss cut in
    record {
      sizes = all_weaken _ _ (λ p x. (x.0, omega (arith, x.1.1, longest_most M Q p.address))) (cuts_of rule from to ss) fit;
      boundaries = all_weaken _ (CrossesNone Q) (λ p x. longest_crosses_none M Q p (omega (arith, x.1.1))) (cuts_of rule from to ss) fit;
      longest = all_at _ (cuts_of rule from to ss) λ k p e. as_long M Q 0 (from + bytes_in (take k (cuts_of rule from to ss))) to ss p m (sym (next_at_lem rule 0 from to ss k cut) ∙ e);
      inside = all_weaken _ _ (λ p x. x.2) (cuts_of rule from to ss) fit;
      consecutive = move_consecutive rule from to ss cut;
      bytes = move_bytes rule from to ss cut h;
      covered = move_covered rule from to ss cut;
    }

pub next_crosses_none : NextCrossesNone
next_crosses_none M Q from to ss p m e =
    let r = (piece_fits (up_to M Q) 0 from to ss p (up_to_lem M Q m) e).ruled in (
      longest_crosses_none M Q p (omega (arith, r.1)),
      λ good. longest_crosses_none M Q (wrapped p) (omega (arith, r.1, longest_wraps M Q p.address good)),
    )

pub own_list : OwnList
own_list rule R ss =
    let e : min R (sum_of ss) ≡ trimmed 0 R (min R (sum_of ss)) = omega arith in
    ap (λ (to : ℕ). cuts_of rule 0 to ss) e

-- ── h

-- of pieces that follow each other from offset 0 on h is their bytes: with one move from 0 the residual and the listing are document 01's
high_consecutive : (o : ℕ) (ps : List Piece) → Consecutive o ps → max o (highest ps) ≡ o + bytes_in ps
high_consecutive o [] c = omega arith
high_consecutive o (p ∷ ps) c = omega (arith, c.0, high_consecutive (o + p.len) ps c.1)

pub high_bytes : HighestOfOwn
high_bytes ps c = omega (arith, high_consecutive 0 ps c)

pub highest_is : HighestIs
highest_is ps = record { above = below ps (highest ps) (omega arith); met = ends ps }
  where
    below : (ps : List Piece) (h : ℕ) → highest ps ≤ h → All (λ p. p.offset + p.len ≤ h) ps
    below [] h e = tt
    below (p ∷ ps) h e = (omega arith, below ps h (omega arith))

    ends : (ps : List Piece) → ((ps ≡ []) × (highest ps ≡ 0)) ⊎ EndsAt ps (highest ps)
    ends [] = inl (refl, refl)
    ends (p ∷ ps) = ⊎_elim (λ (e : (ps ≡ []) × (highest ps ≡ 0)). inr (0, p, refl, omega (arith, e.1))) (λ (e : EndsAt ps (highest ps)). later e (ltb (p.offset + p.len) (highest ps)) refl) (ends ps)
      where
        later : EndsAt ps (highest ps) → (b : Bool) → ltb (p.offset + p.len) (highest ps) ≡ b → (((p ∷ ps) ≡ []) × (highest (p ∷ ps) ≡ 0)) ⊎ EndsAt (p ∷ ps) (highest (p ∷ ps))
        later e true q = inr (suc e.0, e.1, e.2, omega (arith, e.3, ltb-true (p.offset + p.len) (highest ps) q))
        later e false q = inr (0, p, refl, omega (arith, ltb-false (p.offset + p.len) (highest ps) q))

-- ── 32

-- a direction's move has pieces left just where step has one to hand out
pub has_pieces_lem : HasPieces
has_pieces_lem T s m r = go (next_in T s) refl
  where
    ends : s.transfer.end ≤ sum_of s.extent.segs
    ends = omega (arith, r.end, r.extent.sum)

    go : (v : Option Piece) → next_in T s ≡ v → has_pieces s ≡ is_some v
    go none e = le-ltb s.transfer.at s.transfer.end ((done_iff (rule_of T) s.transfer.at s.transfer.end s.extent.segs ends).0 e)
    go (some o) e =
        let f = piece_fits (rule_of T) 0 s.transfer.at s.transfer.end s.extent.segs o (up_to_lem T.maximum T.boundary m) e in
        lt-ltb s.transfer.at s.transfer.end (omega (arith, f.some, f.upto))
