-- The lines of one direction, piece by piece: those that were written and those that are left are all.
-- Assumes nothing.
use mathlib.Core.Path.{◌≡◌, refl, sym, ap, ◌∙◌}
use mathlib.Core.Bool.{true}
use mathlib.Core.List.{List, [], ◌∷◌, ◌++◌, append_assoc}
use mathlib.Core.Option.{Option, none, some}
use Prim.Native.Nat.{ℕ, zero, suc, ◌+◌, ◌-◌, ◌≤◌, ◌<◌, min}
use native.Mathlib.Omega.{arith}
use lib.ListN.{length, take}
use Rattle.srp.specs.Descriptors.{Segment, sum_of, reachable}
use Rattle.srp.specs.Cutting.{Rule, bytes_in, next, pieces}
use Rattle.srp.specs.Outside.{operation_line, operation_lines, whole_cuts}
use Rattle.srp.specs.declared.Kind.{Kind}
use Rattle.srp.specs.declared.Piece.{Piece}
use Rattle.std.specs.declared.option.Option.{Option as Answered}
use Rattle.std.specs.declared.option.Option.TheVariants.{Some}
use Rattle.srp.proofs.Boundaries.{longest_most}
use Rattle.srp.proofs.CutLaws.{Lawful, up_to_lem, done_iff, pieces_all}
use Rattle.srp.proofs.Pieces.{Fits, piece_fits, wrapped_same}
use Rattle.srp.proofs.Moves.{cuts_bytes}
use Rattle.cut.specs.Walk.{next_wrapped}
use Rattle.text.specs.Appending.{Appends}
use Rattle.cutlist.specs.Lines.{maximum, rule, lines_from, Fills}

-- ── as many pieces as bytes are enough

-- where there is a piece, it is the first
pub pieces_first : (f : ℕ) (q : Rule) (from to : ℕ) (ss : List Segment) (v : Option Piece) → next q from to ss ≡ v
    → pieces (suc f) q from to ss ≡ elim v as (λ _. List Piece) [ none ↦ [] | some p ↦ p ∷ pieces f q (from + p.len) to ss ]
pieces_first f q from to ss v e = ap (λ (w : Option Piece). elim w as (λ _. List Piece) [ none ↦ [] | some p ↦ p ∷ pieces f q (from + p.len) to ss ]) e

-- at the end there is none
pub pieces_none : (f : ℕ) (q : Rule) (from to : ℕ) (ss : List Segment) → to ≤ sum_of ss → to ≤ from → pieces f q from to ss ≡ []
pieces_none zero q from to ss h e = refl
pieces_none (suc f) q from to ss h e = pieces_first f q from to ss none ((done_iff q from to ss h).1 e)

pub enough : (f g : ℕ) (q : Rule) (from to : ℕ) (ss : List Segment) → Lawful q → to ≤ sum_of ss → to - from ≤ f → to - from ≤ g → pieces f q from to ss ≡ pieces g q from to ss
enough zero g q from to ss m h a b = sym (pieces_none g q from to ss h (omega arith))
enough (suc f) zero q from to ss m h a b = pieces_none (suc f) q from to ss h (omega arith)
enough (suc f) (suc g) q from to ss m h a b = go (next q from to ss) refl (λ n l. enough f g q (from + n) to ss m h (omega arith) (omega arith))
  where
    go : (v : Option Piece) → next q from to ss ≡ v → ((n : ℕ) → 1 ≤ n → pieces f q (from + n) to ss ≡ pieces g q (from + n) to ss)
        → pieces (suc f) q from to ss ≡ pieces (suc g) q from to ss
    go none e same = pieces_first f q from to ss none e ∙ sym (pieces_first g q from to ss none e)
    go (some p) e same =
        pieces_first f q from to ss (some p) e
        ∙ ap (λ (l : List Piece). p ∷ l) (same p.len (piece_fits q 0 from to ss p m e).some)
        ∙ sym (pieces_first g q from to ss (some p) e)

-- the first piece, and those behind it
pub first_piece : (q : Rule) (from to : ℕ) (ss : List Segment) → Lawful q → to ≤ sum_of ss → from < to → (p : Piece) → next q from to ss ≡ some p
    → p ∷ pieces (to - (from + p.len)) q (from + p.len) to ss ≡ pieces (to - from) q from to ss
first_piece q from to ss m h l p e =
    let fits = piece_fits q 0 from to ss p m e in
    let f = to - from - 1 in
    let one : suc f ≡ to - from = omega arith in
    ap (λ (r : List Piece). p ∷ r) (enough (to - (from + p.len)) f q (from + p.len) to ss m h (omega arith) (omega (arith, fits.some)))
    ∙ sym (pieces_first f q from to ss (some p) e)
    ∙ ap (λ (n : ℕ). pieces n q from to ss) one

-- pieces that reach the end are all
pub all_taken : (f : ℕ) (q : Rule) (from to : ℕ) (ss : List Segment) → Lawful q → to ≤ sum_of ss → from + bytes_in (pieces f q from to ss) ≡ to
    → pieces f q from to ss ≡ pieces (to - from) q from to ss
all_taken zero q from to ss m h e = sym (pieces_none (to - from) q from to ss h (omega arith))
all_taken (suc f) q from to ss m h e = go (next q from to ss) refl (λ n. all_taken f q (from + n) to ss m h)
  where
    go : (v : Option Piece) → next q from to ss ≡ v
        → ((n : ℕ) → from + n + bytes_in (pieces f q (from + n) to ss) ≡ to → pieces f q (from + n) to ss ≡ pieces (to - (from + n)) q (from + n) to ss)
        → pieces (suc f) q from to ss ≡ pieces (to - from) q from to ss
    go none z same = pieces_first f q from to ss none z ∙ sym (pieces_none (to - from) q from to ss h ((done_iff q from to ss h).0 z))
    go (some p) z same =
        let first = pieces_first f q from to ss (some p) z in
        let sum : from + p.len + bytes_in (pieces f q (from + p.len) to ss) ≡ to = omega (arith, e, ap bytes_in first) in
        first ∙ ap (λ (r : List Piece). p ∷ r) (same p.len sum) ∙ first_piece q from to ss m h (omega (arith, (piece_fits q 0 from to ss p m z).some)) p z

-- ── the lines of all the pieces

lawful : Lawful rule
lawful = up_to_lem maximum 0 (omega arith)

pub whole_lines : (k : Kind) (ss : List Segment) → operation_lines k (whole_cuts ss) ≡ lines_from k 0 (sum_of ss) ss
whole_lines k ss =
    let b = min (sum_of ss) (sum_of ss) in
    let all = pieces_all rule (sum_of ss) ss lawful in
    let n = length (whole_cuts ss) in
    let sum : 0 + bytes_in (pieces n rule 0 b ss) ≡ b = omega (arith, ap bytes_in all, cuts_bytes rule (sum_of ss) ss lawful) in
    let same : b ≡ sum_of ss = omega arith in
    ap (operation_lines k) (sym all ∙ all_taken n rule 0 b ss lawful (omega arith) sum) ∙ ap (λ (t : ℕ). lines_from k 0 t ss) same

-- the first line, and those behind it
first_line : (k : Kind) (from to : ℕ) (ss : List Segment) → to ≤ sum_of ss → from < to → (p : Piece) → next rule from to ss ≡ some p
    → operation_line k p ++ lines_from k (from + p.len) to ss ≡ lines_from k from to ss
first_line k from to ss h l p e = ap (operation_lines k) (first_piece rule from to ss lawful h l p e)

-- ── the walk

pub record Filling (k : Kind) (from to : ℕ) (ss : List Segment) (before text : List ℕ) (end next : ℕ) : Type 0 where
  pub reach : reachable ss ≡ true
  pub inside : to ≤ sum_of ss
  pub kept : length text ≡ length before
  pub room : end ≤ length text
  pub past : from ≤ next
  pub begun : 0 < end → from < next
  pub upto : next ≤ to
  pub same : take end text ++ lines_from k next to ss ≡ lines_from k from to ss

pub start : (k : Kind) (from to : ℕ) (ss : List Segment) (text : List ℕ) → reachable ss ≡ true → to ≤ sum_of ss → from < to
    → Filling k from to ss text text 0 from
start k from to ss text r h l =
    record { reach = r; inside = h; kept = refl; room = omega arith; past = omega arith; begun = λ z. omega arith; upto = omega arith; same = refl }

module _ {k : Kind} {from to : ℕ} {ss : List Segment} {before text : List ℕ} {end at : ℕ} (w : Filling k from to ss before text end at) where
  pub filled : from < at → Fills k from to ss text (record { len = end; from = at })
  filled h = record { room = w.room; more = h; upto = w.upto; lines = w.same }

  module _ (more : at < to) {r : Answered Piece} (is : r ≡ next_wrapped (next rule at to ss)) where
    -- there is a piece, and its address has 64 bits
    pub there : (p : Piece) × (r ≡ Some p) × (next rule at to ss ≡ some p)
    there = go (next rule at to ss) refl
      where
        go : (v : Option Piece) → next rule at to ss ≡ v → (p : Piece) × (r ≡ Some p) × (next rule at to ss ≡ some p)
        go none e = absurd (let h : to ≤ at = (done_iff rule at to ss w.inside).0 e in omega arith)
        go (some p) e = (p, is ∙ ap next_wrapped e ∙ ap Some (wrapped_same rule at to ss p w.reach lawful e), e)

    module _ {p : Piece} (e : r ≡ Some p) where
      found : next rule at to ss ≡ some p
      found = let q : there.0 ≡ p = cc there.1 in there.2 ∙ ap some q

      pub fits : Fits rule 0 at to ss p
      fits = piece_fits rule 0 at to ss p lawful found

      pub short : p.len ≤ maximum
      short = omega (arith, fits.ruled.1, longest_most maximum 0 p.address)

      pub on : {text' : List ℕ} {end' : ℕ} → length text' ≡ length text → Appends text end (operation_line k p) text' end'
          → Filling k from to ss before text' end' (at + p.len)
      on kept a =
          record {
            reach = w.reach;
            inside = w.inside;
            kept = kept ∙ w.kept;
            room = a.room;
            past = omega (arith, w.past);
            begun = λ z. omega (arith, fits.some, w.past);
            upto = fits.upto;
            same =
                ap (λ (t : List ℕ). t ++ lines_from k (at + p.len) to ss) a.text
                ∙ append_assoc (take end text) (operation_line k p) (lines_from k (at + p.len) to ss)
                ∙ ap (λ (t : List ℕ). take end text ++ t) (first_line k at to ss w.inside more p found)
                ∙ w.same;
          }
