-- Document 02, jobs 4 and 6: the cuts of a move are at most the segments with a byte in it, its bytes divided by M, and the multiples of Q inside.
-- Assumes nothing.
use mathlib.Core.Path.{◌≡◌, refl, ap, ◌∙◌}
use mathlib.Core.Logic.{⊎_elim}
use mathlib.Core.Bool.{Bool, true, false, cond}
use mathlib.Core.List.{List, [], ◌∷◌}
use Prim.Native.Nat.{ℕ, zero, suc, ◌+◌, ◌-◌, ◌*◌, ◌/◌, ◌%◌, ◌≤◌, ◌<◌, min}
use native.Mathlib.Nat.{add-mul, suc-mul, one-mul, mul-le-mul_right, not-suc-le-zero, le-div_iff_mul-le, div-add-mod', div-zero, mod-lt, mul-div_cancel}
use native.Mathlib.Omega.{arith}
use lib.Arith.{digits_div, digits_mod}
use lib.Dec.{ltb, eqb}
use lib.ListN.{length, length-append}
use borrow.Author.Tests.{lt-ltb, ltb-true, ltb-false, eqb-true, ne_eqb}
use Rattle.srp.specs.Descriptors.{Segment}
use Rattle.srp.specs.Cutting.{Rule, up_to, next_multiple, longest_at_lem, cut_segment, cuts_from, cuts_of}
use Rattle.srp.specs.Fewest.{part_address, part_length_lem, over_parts, touches, touched, multiples, multiples_inside, crossed, CountsMultiples, FewTouched, FewCrossed}
use Rattle.srp.specs.declared.Piece.{Piece}
use Rattle.srp.proofs.Boundaries.{some_boundary, longest_some, longest_ends}
use Rattle.srp.proofs.Parts.{in_parts, whole_parts, Within, parts_most}

-- ── the multiples of Q

-- up to a later address there are no fewer multiples of Q
pub quotient_grows : (Q a n : ℕ) → a / Q ≤ (a + n) / Q
quotient_grows zero a n = rw (div-zero a) (omega arith)
quotient_grows (suc Q) a n = (le-div_iff_mul-le {k = suc Q} {x = a / suc Q} {y = a + n} (omega arith)).1 (omega (arith, div-add-mod' a (suc Q)))

-- none is inside a part of no bytes
none_inside : (Q a : ℕ) → multiples_inside Q a 0 ≡ 0
none_inside Q a = let e : a + (0 - 1) ≡ a = omega arith in rw e (omega arith)

-- among n addresses there is at most one for each Q of them, and one more
multiples_few : (Q a n : ℕ) → 1 ≤ Q → multiples Q a n * Q ≤ Q + n
multiples_few Q a n q =
    let d = multiples Q a n in
    let e : (a + n) / Q ≡ d + a / Q = omega (arith, quotient_grows Q a n) in
    omega (arith, ap (λ (k : ℕ). k * Q) e, add-mul d (a / Q) Q, div-add-mod' a Q, div-add-mod' (a + n) Q, mod-lt a {m = Q} q)

pub counts_multiples : CountsMultiples
counts_multiples Q a n q = go (ltb (suc r) Q) refl
  where
    x : ℕ
    x = a + n

    d : ℕ
    d = x / Q

    r : ℕ
    r = x % Q

    -- the next address, by a quotient and a remainder
    next : (k j : ℕ) → a + suc n ≡ k * Q + j → j < Q → ((a + suc n) / Q ≡ k) × ((a + suc n) % Q ≡ j)
    next k j e l = (ap (λ (y : ℕ). y / Q) e ∙ digits_div k l, ap (λ (y : ℕ). y % Q) e ∙ digits_mod k l)

    go : (b : Bool) → ltb (suc r) Q ≡ b → multiples Q a (suc n) ≡ multiples Q a n + cond (eqb ((a + suc n) % Q) 0) 1 0
    go true e =
        let m = next d (suc r) (omega (arith, div-add-mod' x Q)) (ltb-true (suc r) Q e) in
        rw (m.0, ne_eqb ((a + suc n) % Q) 0 (λ z. omega (arith, m.1))) (omega arith)
    go false e =
        let l = mod-lt x {m = Q} q in
        let m = next (suc d) 0 (omega (arith, div-add-mod' x Q, suc-mul d Q, ltb-false (suc r) Q e)) q in
        rw (m.0, m.1) (omega (arith, quotient_grows Q a n))

-- ── the cuts of one segment's part

no_bytes : (f : ℕ) (rule : Rule) (a h o : ℕ) → cut_segment f rule a h o 0 ≡ []
no_bytes zero rule a h o = refl
no_bytes (suc f) rule a h o = refl

-- how many they are, by address and length alone
abbrev pieces_of : Rule → (address n : ℕ) → ℕ
pieces_of rule a n = length (cut_segment n rule a 0 0 n)

same_length : (f : ℕ) (rule : Rule) (a h h' o o' n : ℕ) → length (cut_segment f rule a h o n) ≡ length (cut_segment f rule a h' o' n)
same_length zero rule a h h' o o' n = refl
same_length (suc f) rule a h h' o o' zero = refl
same_length (suc f) rule a h h' o o' (suc n) =
    let k = rule a (suc n) in
    ap suc (same_length f rule (a + k) h h' (o + k) (o' + k) (suc n - k))

pieces_in : (rule : Rule) (o from to : ℕ) (ss : List Segment) → length (cuts_from rule o from to ss) ≡ in_parts (pieces_of rule) from to ss
pieces_in rule o from to [] = refl
pieces_in rule o from to (s ∷ ss) =
    let n = min s.len to in
    let k = n - from in
    length-append (cut_segment k rule (s.address + from) s.handle (o + from) k) (cuts_from rule (o + n) (from - n) (to - n) ss)
    ∙ (λ i. same_length k rule (s.address + from) s.handle 0 (o + from) 0 k i + pieces_in rule (o + n) (from - n) (to - n) ss i)

-- a part with a byte counts one
one_touched : (a n : ℕ) → 1 ≤ n → touches a n ≡ 1
one_touched a n h = rw (lt-ltb 0 n h)

-- one piece, and one more for each multiple of Q inside
abbrev segment_most : (Q address n : ℕ) → ℕ
segment_most Q a n = touches a n + multiples_inside Q a n

-- n bytes of a segment: that many, and at most one more for each M bytes
segment_many : (f M Q a h o n : ℕ) → 1 ≤ M → n ≤ f → 1 ≤ n → length (cut_segment f (up_to M Q) a h o n) * M ≤ (1 + multiples Q a (n - 1)) * M + n
segment_many zero M Q a h o n m le pos = absurd (omega arith)
segment_many (suc f) M Q a h o zero m le pos = absurd (not-suc-le-zero pos)
segment_many (suc f) M Q a h o (suc n) m le pos = go (ltb l (suc n)) refl (λ x y. segment_many f M Q (a + k) h (o + k) (suc n - k) m x y)
  where
    l : ℕ
    l = longest_at_lem M Q a

    k : ℕ
    k = up_to M Q a (suc n)

    rest : List Piece
    rest = cut_segment f (up_to M Q) (a + k) h (o + k) (suc n - k)

    -- the multiples inside, and those inside behind the first piece
    x : ℕ
    x = multiples Q a (suc n - 1)

    y : ℕ
    y = multiples Q (a + k) (suc n - k - 1)

    -- behind the first piece there are no more multiples, and one fewer where the piece ends at one
    fewer : k ≤ n → y ≤ x
    fewer h =
        let last : a + k + (suc n - k - 1) ≡ a + (suc n - 1) = omega arith in
        omega (arith, ap (λ (j : ℕ). j / Q) last, quotient_grows Q a k)

    one_fewer : k ≤ n → 1 ≤ Q → a + k ≡ next_multiple Q a → 1 + y ≤ x
    one_fewer h q e =
        let last : a + k + (suc n - k - 1) ≡ a + (suc n - 1) = omega arith in
        let at : (a + k) / Q ≡ a / Q + 1 = ap (λ (j : ℕ). j / Q) e ∙ mul-div_cancel (a / Q + 1) q in
        omega (arith, ap (λ (j : ℕ). j / Q) last, at, quotient_grows Q (a + k) (suc n - k - 1))

    go : (b : Bool) → ltb l (suc n) ≡ b → (suc n - k ≤ f → 1 ≤ suc n - k → length rest * M ≤ (1 + y) * M + (suc n - k)) → suc (length rest) * M ≤ (1 + x) * M + suc n
    go true b ih =
        let lt = ltb-true l (suc n) b in
        let one = longest_some M Q a m in
        let is : k ≡ l = omega arith in
        let r = ih (omega arith) (omega arith) in
        ⊎_elim
        (λ (e : l ≡ M). omega (arith, suc-mul (length rest) M, r, mul-le-mul_right {m = 1 + y} {n = 1 + x} M (omega (arith, fewer (omega arith)))))
        (λ (e : (1 ≤ Q) × (a + l ≡ next_multiple Q a)).
        omega (arith, suc-mul (length rest) M, r, add-mul 1 x M, one-mul M, mul-le-mul_right M (one_fewer (omega arith) e.0 (ap (λ (j : ℕ). a + j) is ∙ e.1))))
        (longest_ends M Q a)
    go false b ih =
        let all : suc n - k ≡ 0 = omega (arith, ltb-false l (suc n) b) in
        rw (all, no_bytes f (up_to M Q) (a + k) h (o + k)) (omega (arith, add-mul 1 x M, one-mul M))

pieces_many : (M Q : ℕ) → 1 ≤ M → Within M (pieces_of (up_to M Q)) (segment_most Q)
pieces_many M Q m a n h =
    rw (one_touched a n h) (segment_many n M Q a 0 0 n m (omega arith) h)

-- ── the cuts of a move

-- two sums as one
both_sums : (f g : ℕ → ℕ → ℕ) (o from to : ℕ) (ss : List Segment) → over_parts (λ a n. f a n + g a n) o from to ss ≡ over_parts f o from to ss + over_parts g o from to ss
both_sums f g o from to [] = refl
both_sums f g o from to (s ∷ ss) = omega (arith, both_sums f g (o + s.len) from to ss)

pub cuts_bound : (M Q from to : ℕ) (ss : List Segment) → 1 ≤ M → length (cuts_of (up_to M Q) from to ss) ≤ touched 0 from to ss + (to - from) / M + crossed Q 0 from to ss
cuts_bound M Q from to ss m =
    let f = pieces_of (up_to M Q) in
    let all : length (cuts_of (up_to M Q) from to ss) ≡ over_parts f 0 from to ss = pieces_in (up_to M Q) 0 from to ss ∙ whole_parts f (λ a. refl) from to ss in
    omega (arith, all, parts_most M f (segment_most Q) (λ a. refl) (pieces_many M Q m) from to ss m (λ a. omega (arith, none_inside Q a)), both_sums touches (multiples_inside Q) 0 from to ss)

-- ── how many segments and multiples there are at most

pub few_touched : FewTouched
few_touched o from to [] = omega arith
few_touched o from to (s ∷ ss) = go (ltb 0 (part_length_lem o from to s)) (few_touched (o + s.len) from to ss)
  where
    go : (b : Bool) → touched (o + s.len) from to ss ≤ length ss → cond b 1 0 + touched (o + s.len) from to ss ≤ suc (length ss)
    go true e = omega arith
    go false e = omega arith

none_crossed : (o from to : ℕ) (ss : List Segment) → crossed 0 o from to ss ≡ 0
none_crossed o from to [] = refl
none_crossed o from to (s ∷ ss) =
    let a = part_address o from s in
    rw (div-zero (a + (part_length_lem o from to s - 1)), div-zero a, none_crossed (o + s.len) from to ss)

pub few_crossed : FewCrossed
few_crossed Q from to ss = go (eqb Q 0) refl
  where
    go : (b : Bool) → eqb Q 0 ≡ b → crossed Q 0 from to ss ≤ cond b 0 (touched 0 from to ss + (to - from) / Q)
    go true e = rw (eqb-true Q 0 e) (omega (arith, none_crossed 0 from to ss))
    go false e =
        let q = some_boundary Q e in
        parts_most Q (multiples_inside Q) touches (none_inside Q) (within q) from to ss q (λ a. refl)
      where
        within : 1 ≤ Q → Within Q (multiples_inside Q) touches
        within q a n h =
            rw (one_touched a n h) (omega (arith, one-mul Q, multiples_few Q a (n - 1) q))
