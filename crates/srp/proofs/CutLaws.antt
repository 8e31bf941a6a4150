-- Cutting: a move's cuts are the next piece and the cuts of what it leaves of the move, so that iterating the next piece gives the list.
-- Assumes nothing.
use mathlib.Core.Path.{◌≡◌, refl, ap, sym, ◌∙◌, subst}
use mathlib.Core.Logic.{◌↔◌}
use mathlib.Core.Bool.{Bool, true, false, cond}
use mathlib.Core.List.{List, [], ◌∷◌, ◌++◌}
use mathlib.Core.Option.{Option, none, some, none-ne-some, some-ne-none, some-injective}
use Prim.Native.Nat.{ℕ, zero, suc, ◌+◌, ◌-◌, ◌≤◌, ◌<◌, min}
use native.Mathlib.Nat.{zero-add, add-zero, add_assoc, not-suc-le-zero}
use native.Mathlib.Omega.{arith}
use lib.Dec.{ltb}
use lib.ListN.{length, take, drop, get_elem?}
use borrow.Author.Tests.{ltb-true, ltb-false}
use Rattle.srp.specs.Descriptors.{Segment, sum_of}
use Rattle.srp.specs.Cutting.{Rule, up_to, pieces, piece, bytes_in, cut_segment, cuts_from, cuts_of, cuts, next_from, next}
use Rattle.srp.specs.declared.Piece.{Piece}
use Rattle.srp.proofs.Boundaries.{longest_some, longest_most}

-- the bytes of two lists
pub bytes_in_append : (p q : List Piece) → bytes_in (p ++ q) ≡ bytes_in p + bytes_in q
bytes_in_append [] q = sym (zero-add (bytes_in q))
bytes_in_append (x ∷ p) q = rw (bytes_in_append p q) (sym (add_assoc x.len (bytes_in p) (bytes_in q)))

-- ── a rule

-- a piece by the rule has a byte, and no more than are left: all that the laws ask of it
abbrev pub Lawful : Rule → Type 0
Lawful rule = (a n : ℕ) → 1 ≤ n → (1 ≤ rule a n) × (rule a n ≤ n)

pub up_to_lem : (M Q : ℕ) → 1 ≤ M → Lawful (up_to M Q)
up_to_lem M Q m a n h = omega (arith, longest_some M Q a m)

-- and for no other M
pub some_maximum : (M Q : ℕ) → Lawful (up_to M Q) → 1 ≤ M
some_maximum M Q cut = omega (arith, (cut 0 1 (omega arith)).0, longest_most M Q 0)

-- ── one segment

-- the pieces of n bytes of a segment have n bytes
pub cut_segment_bytes : (f : ℕ) (rule : Rule) (a h o n : ℕ) → Lawful rule → n ≤ f → bytes_in (cut_segment f rule a h o n) ≡ n
cut_segment_bytes zero rule a h o n m le = omega arith
cut_segment_bytes (suc f) rule a h o zero m le = refl
cut_segment_bytes (suc f) rule a h o (suc n) m le =
    let k = rule a (suc n) in
    let c = m a (suc n) (omega arith) in
    rw (cut_segment_bytes f rule (a + k) h (o + k) (suc n - k) m (omega (arith, c))) (omega (arith, c))

-- any bound on the number of pieces serves that is not below the bytes
segment_bound : (f g : ℕ) (rule : Rule) (a h o n : ℕ) → Lawful rule → n ≤ f → n ≤ g → cut_segment f rule a h o n ≡ cut_segment g rule a h o n
segment_bound zero zero rule a h o n m x y = refl
segment_bound zero (suc g) rule a h o zero m x y = refl
segment_bound zero (suc g) rule a h o (suc n) m x y = absurd (not-suc-le-zero x)
segment_bound (suc f) zero rule a h o zero m x y = refl
segment_bound (suc f) zero rule a h o (suc n) m x y = absurd (not-suc-le-zero y)
segment_bound (suc f) (suc g) rule a h o zero m x y = refl
segment_bound (suc f) (suc g) rule a h o (suc n) m x y =
    let k = rule a (suc n) in
    let c = m a (suc n) (omega arith) in
    rw (segment_bound f g rule (a + k) h (o + k) (suc n - k) m (omega (arith, c)) (omega (arith, c)))

-- the pieces of a segment's bytes are the first, and those of the bytes behind it
segment_unrolls : (rule : Rule) (a h o n : ℕ) → Lawful rule → 1 ≤ n
    → let k = rule a n in
    cut_segment n rule a h o n ≡ piece a h k o ∷ cut_segment (n - k) rule (a + k) h (o + k) (n - k)
segment_unrolls rule a h o zero m le = absurd (not-suc-le-zero le)
segment_unrolls rule a h o (suc n) m le =
    let k = rule a (suc n) in
    let c = m a (suc n) (omega arith) in
    rw (segment_bound n (suc n - k) rule (a + k) h (o + k) (suc n - k) m (omega (arith, c)) (omega arith))

-- ── the next piece, and those behind it

sub_more : (n from k : ℕ) → n - from - k ≡ n - (from + k)
sub_more n from k = omega arith

still_inside : (from n k : ℕ) → from < n → k ≤ n - from → from - n ≡ from + k - n
still_inside from n k h c = omega arith

pub unrolls : (rule : Rule) (o from to : ℕ) (ss : List Segment) (p : Piece) → Lawful rule → next_from rule o from to ss ≡ some p
    → cuts_from rule o from to ss ≡ p ∷ cuts_from rule o (from + p.len) to ss
unrolls rule o from to [] p m e = absurd (none-ne-some p e)
unrolls rule o from to (s ∷ ss) p m e = go (ltb from n) refl e (λ f. unrolls rule (o + n) (from - n) (to - n) ss p m f)
  where
    n : ℕ
    n = min s.len to

    k : ℕ
    k = rule (s.address + from) (n - from)

    now : from < n → cuts_from rule o from to (s ∷ ss) ≡ piece (s.address + from) s.handle k (o + from) ∷ cuts_from rule o (from + k) to (s ∷ ss)
    now h =
        let l : 1 ≤ n - from = omega arith in
        let a : s.address + from + k ≡ s.address + (from + k) = omega arith in
        let b : o + from + k ≡ o + (from + k) = omega arith in
        let c : n - from - k ≡ n - (from + k) = sub_more n from k in
        let d : from - n ≡ from + k - n = still_inside from n k h (m (s.address + from) (n - from) l).1 in
        rw (segment_unrolls rule (s.address + from) s.handle (o + from) (n - from) m l, a, b, c, d)

    later : n ≤ from → cuts_from rule (o + n) (from - n) (to - n) ss ≡ p ∷ cuts_from rule (o + n) (from - n + p.len) (to - n) ss
        → cuts_from rule o from to (s ∷ ss) ≡ p ∷ cuts_from rule o (from + p.len) to (s ∷ ss)
    later h ih =
        let a : n - from ≡ 0 = omega arith in
        let b : n - (from + p.len) ≡ 0 = omega arith in
        let c : from - n + p.len ≡ from + p.len - n = omega arith in
        rw (a, b, ih, c)

    go : (b : Bool) → ltb from n ≡ b
        → cond b (some (piece (s.address + from) s.handle k (o + from))) (next_from rule (o + n) (from - n) (to - n) ss) ≡ some p
        → (next_from rule (o + n) (from - n) (to - n) ss ≡ some p
        → cuts_from rule (o + n) (from - n) (to - n) ss ≡ p ∷ cuts_from rule (o + n) (from - n + p.len) (to - n) ss)
        → cuts_from rule o from to (s ∷ ss) ≡ p ∷ cuts_from rule o (from + p.len) to (s ∷ ss)
    go true q f ih =
        subst (λ (x : Piece). cuts_from rule o from to (s ∷ ss) ≡ x ∷ cuts_from rule o (from + x.len) to (s ∷ ss)) (some-injective _ p f) (now (ltb-true from n q))
    go false q f ih = later (ltb-false from n q) (ih f)

-- without a next piece there is none
pub stops : (rule : Rule) (o from to : ℕ) (ss : List Segment) → next_from rule o from to ss ≡ none → cuts_from rule o from to ss ≡ []
stops rule o from to [] e = refl
stops rule o from to (s ∷ ss) e = go (ltb from n) refl e (λ f. stops rule (o + n) (from - n) (to - n) ss f)
  where
    n : ℕ
    n = min s.len to

    p : Piece
    p = piece (s.address + from) s.handle (rule (s.address + from) (n - from)) (o + from)

    go : (b : Bool) → ltb from n ≡ b → cond b (some p) (next_from rule (o + n) (from - n) (to - n) ss) ≡ none
        → (next_from rule (o + n) (from - n) (to - n) ss ≡ none → cuts_from rule (o + n) (from - n) (to - n) ss ≡ []) → cuts_from rule o from to (s ∷ ss) ≡ []
    go true q f ih = absurd (some-ne-none p f)
    go false q f ih = let a : n - from ≡ 0 = omega (arith, ltb-false from n q) in rw a (ih f)

-- the k-th of the pieces is the next one after the bytes of the first k
pub next_at_lem : (rule : Rule) (o from to : ℕ) (ss : List Segment) (k : ℕ) → Lawful rule
    → get_elem? (cuts_from rule o from to ss) k ≡ next_from rule o (from + bytes_in (take k (cuts_from rule o from to ss))) to ss
next_at_lem rule o from to ss zero m = go (next_from rule o from to ss) refl
  where
    go : (v : Option Piece) → next_from rule o from to ss ≡ v → get_elem? (cuts_from rule o from to ss) 0 ≡ next_from rule o (from + 0) to ss
    go none e = rw (stops rule o from to ss e, add-zero from, e)
    go (some p) e = rw (unrolls rule o from to ss p m e, add-zero from, e)
next_at_lem rule o from to ss (suc k) m = go (next_from rule o from to ss) refl (λ from'. next_at_lem rule o from' to ss k m)
  where
    go : (v : Option Piece) → next_from rule o from to ss ≡ v
        → ((from' : ℕ) → get_elem? (cuts_from rule o from' to ss) k ≡ next_from rule o (from' + bytes_in (take k (cuts_from rule o from' to ss))) to ss)
        → get_elem? (cuts_from rule o from to ss) (suc k) ≡ next_from rule o (from + bytes_in (take (suc k) (cuts_from rule o from to ss))) to ss
    go none e ih = rw (stops rule o from to ss e, add-zero from, e)
    go (some p) e ih = rw (unrolls rule o from to ss p m e) (rw add_assoc at (ih (from + p.len)))

-- the pieces have as many bytes as are to be cut
pub cuts_from_bytes : (rule : Rule) (o from to : ℕ) (ss : List Segment) → Lawful rule → to ≤ sum_of ss → bytes_in (cuts_from rule o from to ss) ≡ to - from
cuts_from_bytes rule o from to [] m le = omega arith
cuts_from_bytes rule o from to (s ∷ ss) m le =
    let n = min s.len to in
    rw (bytes_in_append (cut_segment (n - from) rule (s.address + from) s.handle (o + from) (n - from)) (cuts_from rule (o + n) (from - n) (to - n) ss), cut_segment_bytes (n - from) rule (s.address + from) s.handle (o + from) (n - from) m (omega arith), cuts_from_bytes rule (o + n) (from - n) (to - n) ss m (omega arith))
    (omega arith)

-- ── a list by its elements

module _ {A : Type 0} where
  -- the first k + 1 are the first k and the k-th
  pub take_more : (l : List A) (k : ℕ) (x : A) → get_elem? l k ≡ some x → take (suc k) l ≡ take k l ++ (x ∷ [])
  take_more [] k x e = absurd (none-ne-some x e)
  take_more (y ∷ l) zero x e = rw (some-injective y x e)
  take_more (y ∷ l) (suc k) x e = rw (take_more l k x e)

  -- from the k-th on
  pub drop_more : (l : List A) (k : ℕ) (x : A) → get_elem? l k ≡ some x → drop k l ≡ x ∷ drop (suc k) l
  drop_more [] k x e = absurd (none-ne-some x e)
  drop_more (y ∷ l) zero x e = rw (some-injective y x e)
  drop_more (y ∷ l) (suc k) x e = drop_more l k x e

  -- the k-th is the first of those from it on
  pub first_left : (l : List A) (k : ℕ) → get_elem? l k ≡ get_elem? (drop k l) 0
  first_left [] zero = refl
  first_left [] (suc k) = refl
  first_left (y ∷ l) zero = refl
  first_left (y ∷ l) (suc k) = first_left l k

  -- where there is a k-th, there are more than k
  pub some_below : (l : List A) (k : ℕ) (x : A) → get_elem? l k ≡ some x → k < length l
  some_below [] k x e = absurd (none-ne-some x e)
  some_below (y ∷ l) zero x e = omega arith
  some_below (y ∷ l) (suc k) x e = omega (arith, some_below l k x e)

  -- where there is no k-th, there are at most k
  pub none_above : (l : List A) (k : ℕ) → get_elem? l k ≡ none → length l ≤ k
  none_above [] k e = omega arith
  none_above (y ∷ l) zero e = absurd (some-ne-none y e)
  none_above (y ∷ l) (suc k) e = omega (arith, none_above l k e)

-- ── the pieces one after the other

pieces_from : (f : ℕ) (rule : Rule) (from to : ℕ) (ss : List Segment) → Lawful rule → length (cuts_of rule from to ss) ≤ f → pieces f rule from to ss ≡ cuts_of rule from to ss
pieces_from zero rule from to ss m le = go (next rule from to ss) refl
  where
    go : (v : Option Piece) → next rule from to ss ≡ v → ◌≡◌ {A = List Piece} [] (cuts_of rule from to ss)
    go none e = sym (stops rule 0 from to ss e)
    go (some p) e = absurd (omega (arith, ap {B = ℕ} length (unrolls rule 0 from to ss p m e)))
pieces_from (suc f) rule from to ss m le = go (next rule from to ss) refl (λ from' h. pieces_from f rule from' to ss m h)
  where
    go : (v : Option Piece) → next rule from to ss ≡ v → ((from' : ℕ) → length (cuts_of rule from' to ss) ≤ f → pieces f rule from' to ss ≡ cuts_of rule from' to ss)
        → elim v as (λ _. List Piece) [ none ↦ [] | some p ↦ p ∷ pieces f rule (from + p.len) to ss ] ≡ cuts_of rule from to ss
    go none e ih = sym (stops rule 0 from to ss e)
    go (some p) e ih =
        let u = unrolls rule 0 from to ss p m e in
        ap (λ (l : List Piece). p ∷ l) (ih (from + p.len) (omega (arith, ap {B = ℕ} length u))) ∙ sym u

-- one after the other from a move's offset on they are the move's cuts
pub pieces_move : (rule : Rule) (from to : ℕ) (ss : List Segment) → Lawful rule → pieces (length (cuts_of rule from to ss)) rule from to ss ≡ cuts_of rule from to ss
pieces_move rule from to ss m = pieces_from (length (cuts_of rule from to ss)) rule from to ss m (omega arith)

-- one after the other from 0 on they are the pieces that document 01 cuts
pub pieces_all : (rule : Rule) (R : ℕ) (ss : List Segment) → Lawful rule → pieces (length (cuts rule R ss)) rule 0 (min R (sum_of ss)) ss ≡ cuts rule R ss
pieces_all rule R ss m = pieces_move rule 0 (min R (sum_of ss)) ss m

-- ── done, and a piece, at any offset

-- no piece is left just where all that is to be cut came before
pub none_iff : (rule : Rule) (o from to : ℕ) (ss : List Segment) → to ≤ sum_of ss → (next_from rule o from to ss ≡ none) ↔ (to ≤ from)
none_iff rule o from to [] h = (λ _. omega arith, λ _. refl)
none_iff rule o from to (s ∷ ss) h = go (ltb from n) refl (none_iff rule (o + n) (from - n) (to - n) ss (omega arith))
  where
    n : ℕ
    n = min s.len to

    p : Piece
    p = piece (s.address + from) s.handle (rule (s.address + from) (n - from)) (o + from)

    go : (b : Bool) → ltb from n ≡ b → (next_from rule (o + n) (from - n) (to - n) ss ≡ none) ↔ (to - n ≤ from - n)
        → (cond b (some p) (next_from rule (o + n) (from - n) (to - n) ss) ≡ none) ↔ (to ≤ from)
    go true e ih = (λ f. absurd (some-ne-none p f), λ f. absurd (omega (arith, ltb-true from n e)))
    go false e ih = (λ f. omega (arith, ih.0 f, ltb-false from n e), λ f. ih.1 (omega arith))

-- step says done just when all bytes of its move have been handed out
pub done_iff : (rule : Rule) (from to : ℕ) (ss : List Segment) → to ≤ sum_of ss → (next rule from to ss ≡ none) ↔ (to ≤ from)
done_iff rule from to ss h = none_iff rule 0 from to ss h
