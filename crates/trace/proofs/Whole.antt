-- What is printed character by character is what `trace_page` says of the whole input.
-- Assumes nothing.
use Rattle.std.proofs.Common.{◌≡◌, ℕ, suc, ◌+◌, ◌%◌, ◌^◌, ◌<◌, ◌≤◌, Bool, true, false, cond, eqb, List, [], ◌∷◌, ◌++◌, length, sym, ap, ◌∙◌, subst, mod-eq_of_lt, arith, length-append}
use Rattle.text.specs.Codes.{line_feed}
use Rattle.trace.specs.Input.{is_space_lem, unspaced, printed, page_of}
use Rattle.trace.specs.Reading.{fresh, followed, turned, kept, line_end, page_from, Prints}
use Rattle.trace.specs.declared.reader.Reader.{Reader}
use Rattle.trace.proofs.Characters.{unspaced_more}
use Rattle.trace.proofs.States.{At, at_start, ends, turns}

unspaced_short : (t : List ℕ) → length (unspaced t) ≤ length t
unspaced_short [] = omega arith
unspaced_short (c ∷ t) = go (is_space_lem c) (unspaced_short t)
  where
    go : (b : Bool) → length (unspaced t) ≤ length t → length (cond b (unspaced t) (c ∷ unspaced t)) ≤ suc (length t)
    go true h = omega (arith, h)
    go false h = omega (arith, h)

-- the next line
follows : (k : ℕ) (u : List ℕ) (r : Reader) (st : List ℕ) → At k u r st → k + 1 < 2 ^ 64 → At (suc k) [] (followed r) st
follows k u r st A h =
    let n : (r.number + 1) % 2 ^ 64 ≡ suc k = ap (λ (x : ℕ). (x + 1) % 2 ^ 64) A.number ∙ mod-eq_of_lt h ∙ omega arith in
    subst (λ (x : ℕ). At (suc k) [] (fresh x) st) (sym n) (at_start (suc k) st A.wide)

pages : (cs : List ℕ) (k : ℕ) (t : List ℕ) (r : Reader) (st : List ℕ) → At k (unspaced t) r st → k + length cs < 2 ^ 64 → length t + length cs < 2 ^ 64
    → page_from r st cs ≡ page_of k t cs
pages [] k t r st A h i = ends k (unspaced t) r st A
pages (c ∷ cs) k t r st A h i =
    go (eqb c line_feed)
    (pages cs (suc k) [] (followed r) st (follows k (unspaced t) r st A (omega (arith, h))) (omega (arith, h)) (omega (arith, i)))
    (pages cs k (t ++ (c ∷ [])) (turned r c) (kept (turned r c) st) more (omega (arith, h)) (rw (length-append t (c ∷ [])) (omega (arith, i))))
  where
    more : At k (unspaced (t ++ (c ∷ []))) (turned r c) (kept (turned r c) st)
    more =
        subst (λ (u : List ℕ). At k u (turned r c) (kept (turned r c) st)) (sym (unspaced_more t c))
        (turns k (unspaced t) c r st A (omega (arith, unspaced_short t, i)))

    go : (b : Bool) → page_from (followed r) st cs ≡ page_of (suc k) [] cs → page_from (turned r c) (kept (turned r c) st) cs ≡ page_of k (t ++ (c ∷ [])) cs
        → cond b (line_end r st ++ page_from (followed r) st cs) (page_from (turned r c) (kept (turned r c) st) cs)
        ≡ cond b (printed k (unspaced t) ++ page_of (suc k) [] cs) (page_of k (t ++ (c ∷ [])) cs)
    go true p q = ap (λ (x : List ℕ). x ++ page_from (followed r) st cs) (ends k (unspaced t) r st A) ∙ ap (λ (x : List ℕ). printed k (unspaced t) ++ x) p
    go false p q = q

pub prints : Prints
prints input st wide h = pages input 1 [] (fresh 1) st (at_start 1 st wide) (omega (arith, h)) (omega (arith, h))
