-- Document 02, jobs 4 and 6: no list of operations that covers a move's bytes in order, each inside one segment, at most M long and crossing no multiple of Q,
-- has fewer than the move's cuts.
-- Assumes nothing.
use mathlib.Core.Path.{◌≡◌, refl, sym, subst}
use mathlib.Core.Logic.{inl, inr, ⊎_elim}
use mathlib.Core.Bool.{Bool, true, false, cond}
use mathlib.Core.List.{List, [], ◌∷◌}
use mathlib.Core.Option.{Option, none, some, some-injective}
use Prim.Native.Nat.{ℕ, suc, ◌+◌, ◌-◌, ◌≤◌, ◌<◌, min}
use native.Mathlib.Omega.{arith}
use lib.Dec.{ltb}
use lib.ListN.{length}
use borrow.Author.Tests.{ltb-true, ltb-false}
use Rattle.srp.specs.Descriptors.{Segment, sum_of}
use Rattle.srp.specs.Cutting.{piece, cuts_of, next_from, next}
use Rattle.srp.specs.Moves.{Inside, InSegments}
use Rattle.srp.specs.Credit.{rule_of}
use Rattle.srp.specs.Fewest.{Allowed, Rival, MovesFewest}
use Rattle.srp.specs.declared.Terms.{Terms}
use Rattle.srp.specs.declared.Piece.{Piece}
use Rattle.srp.proofs.ListLaws.{all_weaken}
use Rattle.srp.proofs.Boundaries.{longest_most, longest_crosses_none, crosses_none_longest}
use Rattle.srp.proofs.CutLaws.{Lawful, up_to_lem, unrolls, stops, done_iff}
use Rattle.srp.proofs.Pieces.{piece_fits}
use Rattle.srp.proofs.Moves.{move_fits, move_consecutive, move_bytes}
use Rattle.srp.proofs.Rivals.{starts_after, rest_of}
use Rattle.srp.proofs.Bound.{cuts_bound}

-- ── the rule has the longest piece that is allowed

-- no piece that is allowed is longer, where it ends by what is left
bounded : (T : Terms) (p : Piece) (n : ℕ) → Allowed T p → p.len ≤ n → p.len ≤ rule_of T p.address n
bounded T p n a h = omega (arith, crosses_none_longest T.maximum T.boundary p a.0 a.1)

-- a piece by the rule is allowed
ruled_allowed : (T : Terms) (p : Piece) (n : ℕ) → p.len ≡ rule_of T p.address n → Allowed T p
ruled_allowed T p n e =
    (omega (arith, e, longest_most T.maximum T.boundary p.address), longest_crosses_none T.maximum T.boundary p (omega (arith, e)))

-- what is left of a piece behind its first k bytes
abbrev tail_of : ℕ → Piece → Piece
tail_of k p = piece (p.address + k) p.handle (p.len - k) (p.offset + k)

tail_allowed : (T : Terms) (k : ℕ) (p : Piece) → k ≤ p.len → Allowed T p → Allowed T (tail_of k p)
tail_allowed T k p h a = (omega (arith, a.0), λ j f. omega (arith, a.1 j (omega arith)))

tail_inside : (o k : ℕ) (p : Piece) (ss : List Segment) → k ≤ p.len → InSegments o p ss → InSegments o (tail_of k p) ss
tail_inside o k p [] h w = w
tail_inside o k p (s ∷ ss) h w =
    ⊎_elim
    (λ (i : Inside o p s). inl (record { after = omega (arith, i.after); place = omega (arith, i.after, i.place); ends = omega (arith, i.ends); handle = i.handle }))
    (λ (v : InSegments (o + s.len) p ss). inr (tail_inside (o + s.len) k p ss h v))
    w

-- ── the next piece is the longest

-- a piece at `from`, of 1 byte at least, up to `to` at most, inside one of the segments
record Stands (o from to : ℕ) (ss : List Segment) (p : Piece) : Type 0 where
  some : 1 ≤ p.len
  upto : from + p.len ≤ to
  offset : p.offset ≡ o + from
  within : InSegments o p ss

-- none that stands there and is allowed is longer than the next
longest : (T : Terms) (o from to : ℕ) (ss : List Segment) (p q : Piece) → Allowed T p → Stands o from to ss p → next_from (rule_of T) o from to ss ≡ some q → p.len ≤ q.len
longest T o from to [] p q l f e = absurd f.within
longest T o from to (s ∷ ss) p q l f e = go (ltb from n) refl e (λ g h. longest T (o + n) (from - n) (to - n) ss p q l g h)
  where
    n : ℕ
    n = min s.len to

    x : Piece
    x = piece (s.address + from) s.handle (rule_of T (s.address + from) (n - from)) (o + from)

    here : from < n → p.len ≤ x.len
    here h =
        ⊎_elim
        (λ (i : Inside o p s).
        let a : p.address ≡ s.address + from = omega (arith, i.place, f.offset) in
        let short : p.len ≤ n - from = omega (arith, i.ends, f.upto, f.offset) in
        subst (λ (k : ℕ). p.len ≤ rule_of T k (n - from)) a (bounded T p (n - from) l short))
        (λ (v : InSegments (o + s.len) p ss). absurd (omega (arith, starts_after (o + s.len) p ss v, f.offset)))
        f.within

    later : n ≤ from → Stands (o + n) (from - n) (to - n) ss p
    later h =
        let whole : n ≡ s.len = omega (arith, f.some, f.upto) in
        ⊎_elim
        (λ (i : Inside o p s). absurd (omega (arith, i.ends, f.some, f.upto, f.offset)))
        (λ (v : InSegments (o + s.len) p ss).
        record { some = f.some; upto = omega (arith, f.upto); offset = omega (arith, f.offset); within = rw whole v })
        f.within

    go : (b : Bool) → ltb from n ≡ b → cond b (some x) (next_from (rule_of T) (o + n) (from - n) (to - n) ss) ≡ some q
        → (Stands (o + n) (from - n) (to - n) ss p → next_from (rule_of T) (o + n) (from - n) (to - n) ss ≡ some q → p.len ≤ q.len) → p.len ≤ q.len
    go true t g ih = rw (sym (some-injective x q g)) (here (ltb-true from n t))
    go false t g ih = ih (later (ltb-false from n t)) g

-- ── after as many operations the cuts are at least as far as any other list

module _ (T : Terms) (to : ℕ) (ss : List Segment) (cut : Lawful (rule_of T)) (short : to ≤ sum_of ss) where
  -- operations from x on up to `to` are at least as many as the cuts from y on, which is not before x
  ahead : (ps : List Piece) (x y : ℕ) → x ≤ y → y ≤ to → Rival T x to ss ps → length (cuts_of (rule_of T) y to ss) ≤ length ps
  ahead [] x y h k r =
      let e : cuts_of (rule_of T) y to ss ≡ [] = stops (rule_of T) 0 y to ss ((done_iff (rule_of T) y to ss short).1 (omega (arith, r.covers))) in
      rw e (omega arith)
  ahead (p ∷ ps) x y h k r = go (ltb y (x + p.len)) refl (next (rule_of T) y to ss) refl (λ y' u v. ahead ps (x + p.len) y' u v (rest_of r))
    where
      -- what is left of p from y on
      tail_stands : y < x + p.len → Stands 0 y to ss (tail_of (y - x) p)
      tail_stands lt =
          record {
            some = omega arith;
            upto = omega (arith, r.covers);
            offset = omega (arith, r.in_order.0);
            within = tail_inside 0 (y - x) p ss (omega arith) r.inside.0;
          }

      go : (b : Bool) → ltb y (x + p.len) ≡ b → (v : Option Piece) → next (rule_of T) y to ss ≡ v
          → ((y' : ℕ) → x + p.len ≤ y' → y' ≤ to → length (cuts_of (rule_of T) y' to ss) ≤ length ps) → length (cuts_of (rule_of T) y to ss) ≤ suc (length ps)
      go false b v e ih = omega (arith, ih y (ltb-false y (x + p.len) b) k)
      go true b none e ih = absurd (omega (arith, ltb-true y (x + p.len) b, (done_iff (rule_of T) y to ss short).0 e, r.covers))
      go true b (some q) e ih =
          let l = longest T 0 y to ss (tail_of (y - x) p) q (tail_allowed T (y - x) p (omega (arith, ltb-true y (x + p.len) b)) r.allowed.0) (tail_stands (ltb-true y (x + p.len) b)) e in
          let f = piece_fits (rule_of T) 0 y to ss q cut e in
          rw (unrolls (rule_of T) 0 y to ss q cut e) (omega (arith, ih (y + q.len) (omega arith) f.upto))

-- the cuts of a move are one such list
cuts_rival : (T : Terms) (from to : ℕ) (ss : List Segment) → Lawful (rule_of T) → from ≤ to → to ≤ sum_of ss → Rival T from to ss (cuts_of (rule_of T) from to ss)
cuts_rival T from to ss m h k =
    let fit = move_fits (rule_of T) from to ss m in
    record {
      covers = omega (arith, move_bytes (rule_of T) from to ss m k);
      in_order = move_consecutive (rule_of T) from to ss m;
      inside = all_weaken _ _ (λ p f. f.2) (cuts_of (rule_of T) from to ss) fit;
      allowed = all_weaken _ (Allowed T) (λ p f. ruled_allowed T p f.1.0 f.1.1) (cuts_of (rule_of T) from to ss) fit;
    }

-- ── so the number of a move's cuts is what specs/Fewest.antt says

pub fewest : MovesFewest
fewest T from to ss m h k =
    let cut = up_to_lem T.maximum T.boundary m in
    record {
      counted = refl;
      attained = cuts_rival T from to ss cut h k;
      least = λ ps r. ahead T to ss cut k ps from from (omega arith) h r;
      bound = cuts_bound T.maximum T.boundary from to ss m;
    }
