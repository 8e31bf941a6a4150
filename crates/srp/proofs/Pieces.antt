-- The next piece of a move: it lies inside one segment, where its offset says, is as long as the rule says, and its address fits 64 bits.
-- Assumes nothing.
use mathlib.Core.Path.{◌≡◌, refl, ap, ◌∙◌, subst}
use mathlib.Core.Logic.{◌⊎◌, inl, inr, ⊎_elim}
use mathlib.Core.Bool.{Bool, true, false, cond}
use mathlib.Core.List.{List, [], ◌∷◌}
use mathlib.Core.Option.{some, none-ne-some, some-injective}
use Prim.Native.Nat.{ℕ, ◌+◌, ◌-◌, ◌/◌, ◌^◌, ◌≤◌, ◌<◌, min}
use native.Mathlib.Nat.{mod-eq_of_lt}
use native.Mathlib.Omega.{arith}
use lib.Dec.{ltb, leb}
use borrow.Author.Tests.{ltb-true, ltb-false, leb-true, leb-false}
use Rattle.srp.specs.Descriptors.{Segment, reachable}
use Rattle.srp.specs.Cutting.{Rule, next_multiple, longest_at_lem, up_to, piece, next_from, next}
use Rattle.srp.specs.Moves.{Inside, InSegments, EndsSegment, EndsAtMultiple, AsLong}
use Rattle.srp.specs.Calls.{wrapped}
use Rattle.srp.specs.declared.Piece.{Piece}
use Rattle.srp.proofs.FieldLaws.{both}
use Rattle.srp.proofs.Boundaries.{longest_ends}
use Rattle.srp.proofs.CutLaws.{Lawful, up_to_lem}

-- so it has only bytes of that segment
pub inside_bounds : {o : ℕ} {p : Piece} {s : Segment} → Inside o p s → (s.address ≤ p.address) × (p.address + p.len ≤ s.address + s.len)
inside_bounds i = omega arith

-- a piece by the rule at `from`, of 1 byte at least, up to `to` at most, inside one of the segments
pub record Fits (rule : Rule) (o from to : ℕ) (ss : List Segment) (p : Piece) : Type 0 where
  pub some : 1 ≤ p.len
  pub ruled : (n : ℕ) × (p.len ≡ rule p.address n)
  pub upto : from + p.len ≤ to
  pub offset : p.offset ≡ o + from
  pub within : InSegments o p ss

-- every piece fits
pub piece_fits : (rule : Rule) (o from to : ℕ) (ss : List Segment) (p : Piece) → Lawful rule → next_from rule o from to ss ≡ some p → Fits rule o from to ss p
piece_fits rule o from to [] p m e = absurd (none-ne-some p e)
piece_fits rule o from to (s ∷ ss) p m e = go (ltb from n) refl e (λ f. piece_fits rule (o + n) (from - n) (to - n) ss p m f)
  where
    n : ℕ
    n = min s.len to

    first : from < n → Fits rule o from to (s ∷ ss) (piece (s.address + from) s.handle (rule (s.address + from) (n - from)) (o + from))
    first h =
        let c = m (s.address + from) (n - from) (omega arith) in
        record {
          some = c.0;
          ruled = (n - from, refl);
          upto = omega (arith, c);
          offset = refl;
          within = inl (record { after = omega arith; place = omega arith; ends = omega (arith, c); handle = refl });
        }

    later : n ≤ from → Fits rule (o + n) (from - n) (to - n) ss p → Fits rule o from to (s ∷ ss) p
    later h ih =
        let whole : o + n ≡ o + s.len = omega (arith, ih.some, ih.upto) in
        record {
          some = ih.some;
          ruled = ih.ruled;
          upto = omega (arith, ih.upto);
          offset = omega (arith, ih.offset);
          within = inr (subst (λ (k : ℕ). InSegments k p ss) whole ih.within);
        }

    go : (b : Bool) → ltb from n ≡ b
        → cond b (some (piece (s.address + from) s.handle (rule (s.address + from) (n - from)) (o + from))) (next_from rule (o + n) (from - n) (to - n) ss) ≡ some p
        → (next_from rule (o + n) (from - n) (to - n) ss ≡ some p → Fits rule (o + n) (from - n) (to - n) ss p)
        → Fits rule o from to (s ∷ ss) p
    go true q f ih = subst (Fits rule o from to (s ∷ ss)) (some-injective _ p f) (first (ltb-true from n q))
    go false q f ih = later (ltb-false from n q) (ih f)

-- by the papers' rule every piece is M long, or ends at a multiple of Q, or where the bytes or its segment do
pub as_long : (M Q o from to : ℕ) (ss : List Segment) (p : Piece) → 1 ≤ M → next_from (up_to M Q) o from to ss ≡ some p
    → AsLong M Q o to ss p
as_long M Q o from to [] p m e = absurd (none-ne-some p e)
as_long M Q o from to (s ∷ ss) p m e = go (ltb from n) refl e (λ f. as_long M Q (o + n) (from - n) (to - n) ss p m f)
  where
    n : ℕ
    n = min s.len to

    a : ℕ
    a = s.address + from

    longest : ℕ
    longest = longest_at_lem M Q a

    this : from < n → AsLong M Q o to (s ∷ ss) (piece a s.handle (min longest (n - from)) (o + from))
    this h = short (leb longest (n - from)) refl (leb s.len to) refl
      where
        short : (b : Bool) → leb longest (n - from) ≡ b → (c : Bool) → leb s.len to ≡ c
            → AsLong M Q o to (s ∷ ss) (piece a s.handle (min longest (n - from)) (o + from))
        short true x c y =
            let is : min longest (n - from) ≡ longest = omega (arith, leb-true longest (n - from) x) in
            ⊎_elim (λ (z : longest ≡ M). inl (is ∙ z))
            (λ (z : (1 ≤ Q) × (a + longest ≡ next_multiple Q a)). inr (inl (a / Q + 1, ap (λ (k : ℕ). a + k) is ∙ z.1)))
            (longest_ends M Q a)
        short false x true y = inr (inr (inr (inl (omega (arith, leb-false longest (n - from) x, leb-true s.len to y)))))
        short false x false y = inr (inr (inl (omega (arith, leb-false longest (n - from) x, leb-false s.len to y))))

    later : n ≤ from → next_from (up_to M Q) (o + n) (from - n) (to - n) ss ≡ some p → AsLong M Q (o + n) (to - n) ss p → AsLong M Q o to (s ∷ ss) p
    later h f ih =
        let fits = piece_fits (up_to M Q) (o + n) (from - n) (to - n) ss p (up_to_lem M Q m) f in
        let whole : o + n ≡ o + s.len = omega (arith, fits.some, fits.upto) in
        ⊎_elim (λ (x : p.len ≡ M). inl x)
        (λ (x : EndsAtMultiple Q p ⊎ (p.offset + p.len ≡ o + n + (to - n)) ⊎ EndsSegment (o + n) p ss).
        inr (⊎_elim (λ (y : EndsAtMultiple Q p). inl y)
        (λ (y : (p.offset + p.len ≡ o + n + (to - n)) ⊎ EndsSegment (o + n) p ss).
        inr (⊎_elim (λ (z : p.offset + p.len ≡ o + n + (to - n)). inl (omega (arith, fits.some, fits.upto)))
        (λ (z : EndsSegment (o + n) p ss). inr (inr (subst (λ (k : ℕ). EndsSegment k p ss) whole z))) y)) x))
        ih

    go : (b : Bool) → ltb from n ≡ b
        → cond b (some (piece a s.handle (min longest (n - from)) (o + from))) (next_from (up_to M Q) (o + n) (from - n) (to - n) ss) ≡ some p
        → (next_from (up_to M Q) (o + n) (from - n) (to - n) ss ≡ some p → AsLong M Q (o + n) (to - n) ss p)
        → AsLong M Q o to (s ∷ ss) p
    go true w f ih = subst (AsLong M Q o to (s ∷ ss)) (some-injective _ p f) (this (ltb-true from n w))
    go false w f ih = later (ltb-false from n w) f (ih f)

-- ── where the segments end by 2^64

within_reach : (o : ℕ) (p : Piece) (ss : List Segment) → reachable ss ≡ true → InSegments o p ss → p.address + p.len ≤ 2 ^ 64
within_reach o p [] e w = absurd w
within_reach o p (s ∷ ss) e w =
    let a = both (leb (s.address + s.len) (2 ^ 64)) (reachable ss) e in
    ⊎_elim
    (λ (i : Inside o p s). omega (arith, leb-true (s.address + s.len) (2 ^ 64) a.0, inside_bounds i))
    (λ (v : InSegments (o + s.len) p ss). within_reach (o + s.len) p ss a.1 v)
    w

-- a piece of segments that end by 2^64 ends by 2^64
pub reach : (rule : Rule) (o from to : ℕ) (ss : List Segment) (p : Piece) → reachable ss ≡ true → Lawful rule → next_from rule o from to ss ≡ some p
    → p.address + p.len ≤ 2 ^ 64
reach rule o from to ss p r m e = within_reach o p ss r (piece_fits rule o from to ss p m e).within

-- so its address is the same in 64 bits
pub wrapped_same : (rule : Rule) (from to : ℕ) (ss : List Segment) (p : Piece) → reachable ss ≡ true → Lawful rule → next rule from to ss ≡ some p → wrapped p ≡ p
wrapped_same rule from to ss p r m e =
    ap (λ (a : ℕ). piece a p.handle p.len p.offset)
    (mod-eq_of_lt (omega (arith, reach rule 0 from to ss p r m e, (piece_fits rule 0 from to ss p m e).some)))
