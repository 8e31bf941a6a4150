-- D as document 01 has it: W - A - H changes as its rules for D say, and a message's delta is the larger of D and 0.
-- Assumes nothing.
use mathlib.Core.Path.{◌≡◌, refl, ap, sym, ◌∙◌}
use mathlib.Core.Bool.{Bool, true, false, cond}
use mathlib.Core.List.{List, [], ◌∷◌, ◌++◌}
use Prim.Native.Nat.{ℕ, suc, ◌+◌, ◌-◌, ◌≤◌}
use native.Mathlib.Omega.{arith}
use lib.Dec.{ltb}
use lib.IntN.{ℤ, pos, negsuc, sub_ℕ, ◌+ℤ◌, ◌-ℤ◌, +ℤ-neg_ℤ_cancel}
use lib.ListN.{length, length-append}
use borrow.Author.Tests.{lt-ltb, le-ltb, ltb-true, ltb-false}
use Rattle.srp.specs.Credit.{Port, Open, owed, due, with_held, with_wanted}

-- equal differences
pub sub_same : (a b c d : ℕ) → a + d ≡ c + b → sub_ℕ a b ≡ sub_ℕ c d
sub_same a b c d e = go (ltb a b) refl
  where
    go : (t : Bool) → ltb a b ≡ t → cond t (negsuc (b - suc a)) (pos (a - b)) ≡ sub_ℕ c d
    go true f = rw (lt-ltb c d (omega (arith, ltb-true a b f))) (ap negsuc (omega (arith, ltb-true a b f)))
    go false f = rw (le-ltb c d (omega (arith, ltb-false a b f))) (ap pos (omega (arith, ltb-false a b f)))

-- a difference and a number more
pub sub_plus : (a b k : ℕ) → sub_ℕ a b +ℤ pos k ≡ sub_ℕ (a + k) b
sub_plus a b k = go (ltb a b) refl
  where
    go : (t : Bool) → ltb a b ≡ t → cond t (negsuc (b - suc a)) (pos (a - b)) +ℤ pos k ≡ sub_ℕ (a + k) b
    go true f = sub_same k (suc (b - suc a)) (a + k) b (omega (arith, ltb-true a b f))
    go false f = rw (le-ltb (a + k) b (omega (arith, ltb-false a b f))) (ap pos (omega (arith, ltb-false a b f)))

-- a difference and a number less
pub sub_minus : (a b c d k : ℕ) → a + k + d ≡ c + b → sub_ℕ a b ≡ sub_ℕ c d -ℤ pos k
sub_minus a b c d k e = sym (+ℤ-neg_ℤ_cancel (sub_ℕ a b) (pos k)) ∙ ap (λ z. z -ℤ pos k) (sub_plus a b k ∙ sub_same (a + k) b c d e)

module _ (p : Port) where
  -- A + H
  abbrev taken : ℕ
  taken = p.announced + length p.held

  -- taking a request, A - 1 and H + 1, leaves D
  pub owed_taken : (c : Open) → 1 ≤ p.announced → owed (with_held p (p.announced - 1) (p.held ++ (c ∷ []))) ≡ owed p
  owed_taken c h =
      sub_same p.wanted (p.announced - 1 + length (p.held ++ (c ∷ []))) p.wanted taken (omega (arith, length-append p.held (c ∷ [])))

  -- each of k endings adds 1
  pub owed_ended : (k : ℕ) (cs : List Open) → length p.held ≡ k + length cs → owed (with_held p p.announced cs) ≡ owed p +ℤ pos k
  owed_ended k cs h =
      sub_same p.wanted (p.announced + length cs) (p.wanted + k) taken (omega arith) ∙ sym (sub_plus p.wanted taken k)

  -- add k adds k
  pub owed_added : (k : ℕ) → owed (with_wanted p (p.wanted + k)) ≡ owed p +ℤ pos k
  owed_added k = sym (sub_plus p.wanted taken k)

  -- withdraw k takes k off
  pub owed_withdrawn : (k : ℕ) → k ≤ p.wanted → owed (with_wanted p (p.wanted - k)) ≡ owed p -ℤ pos k
  owed_withdrawn k h = sub_minus (p.wanted - k) taken p.wanted taken k (omega arith)

  -- a message takes its delta off
  pub owed_paid : owed (with_held p (p.announced + due p) p.held) ≡ owed p -ℤ pos (due p)
  owed_paid = sub_minus p.wanted (p.announced + due p + length p.held) p.wanted taken (due p) (omega arith)

abbrev pub positive : ℤ → ℕ
positive (pos n) = n
positive (negsuc n) = 0

-- the delta is the larger of D and 0
pub due_is : (p : Port) → due p ≡ positive (owed p)
due_is p = go (ltb p.wanted (taken p)) refl
  where
    go : (t : Bool) → ltb p.wanted (taken p) ≡ t → due p ≡ positive (cond t (negsuc (taken p - suc p.wanted)) (pos (due p)))
    go true f = omega (arith, ltb-true p.wanted (taken p) f)
    go false f = refl
