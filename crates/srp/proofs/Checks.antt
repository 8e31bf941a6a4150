-- The first check that hits: what none of them, or the one that does, tells.
-- Assumes nothing.
use mathlib.Core.Path.{◌≡◌, refl, ap, subst}
use mathlib.Core.Bool.{Bool, true, false, cond, ◌||◌, true≢false}
use mathlib.Core.List.{List, [], ◌∷◌}
use mathlib.Core.Option.{Option, none, some, none-ne-some, some-ne-none, some-injective}
use Rattle.srp.specs.declared.Refusal.{Refusal}
use Rattle.srp.specs.Lists.{All}
use Rattle.std.specs.declared.result.Result.TheVariants.{Ok, Err}
use Rattle.srp.specs.Refusals.{unless_bad, first_of_checks}

module _ {A : Type 0} where
  -- where none hits, every test is false
  pub passes : (cs : List (Bool × A)) → first_of_checks cs ≡ none → All (λ c. c.0 ≡ false) cs
  passes [] e = tt
  passes (c ∷ cs) e = go c.0 refl e (λ f. passes cs f)
    where
      go : (b : Bool) → c.0 ≡ b → cond b (some c.1) (first_of_checks cs) ≡ none → (first_of_checks cs ≡ none → All (λ c. c.0 ≡ false) cs) → All (λ c. c.0 ≡ false) (c ∷ cs)
      go true q f ih = absurd (some-ne-none c.1 f)
      go false q f ih = (q, ih f)

  -- where every test is false, none hits
  pub clear : (cs : List (Bool × A)) → All (λ c. c.0 ≡ false) cs → first_of_checks cs ≡ none
  clear [] a = refl
  clear (c ∷ cs) a = rw a.0 (clear cs a.1)

  -- the first that hits has what each has whose test is true
  pub hit : (P : A → Type 0) (cs : List (Bool × A)) → All (λ c. c.0 ≡ true → P c.1) cs → (r : A) → first_of_checks cs ≡ some r → P r
  hit P [] a r e = absurd (none-ne-some r e)
  hit P (c ∷ cs) a r e = go c.0 refl e (λ f. hit P cs a.1 r f)
    where
      go : (b : Bool) → c.0 ≡ b → cond b (some c.1) (first_of_checks cs) ≡ some r → (first_of_checks cs ≡ some r → P r) → P r
      go true q f ih = subst P (some-injective c.1 r f) (a.0 q)
      go false q f ih = ih f

-- ── one test or another

-- where one or the other fails, both do
pub both_false : (a b : Bool) → (a || b) ≡ false → (a ≡ false) × (b ≡ false)
both_false true b e = absurd (true≢false e)
both_false false b e = (refl, e)

module _ (a b : Bool) where
  pub first_hits : a ≡ true → (a || b) ≡ true
  first_hits e = rw e

  pub second_hits : a ≡ false → b ≡ true → (a || b) ≡ true
  second_hits e f = rw (e, f)

  pub neither : a ≡ false → b ≡ false → (a || b) ≡ false
  neither e f = rw (e, f)

-- ── an answer that no check refused, and a refused one

module _ {A : Type 0} where
  pub unhit : (o : Option Refusal) (m : A) {c : A} → unless_bad o (Ok m) ≡ Ok c → (o ≡ none) × (c ≡ m)
  unhit none m e = (refl, cc)
  unhit (some r) m e = cc

  pub hit_by : (o : Option Refusal) (m : A) {r : Refusal} → unless_bad o (Ok m) ≡ Err r → o ≡ some r
  hit_by none m e = cc
  hit_by (some r) m e = cc

-- what comes where none hits, or one
module _ {B : Type 0} (x : B) (f : Refusal → B) where
  pub none_hit : (o : Option Refusal) → o ≡ none → x ≡ elim o [ none ↦ x | some r ↦ f r ]
  none_hit none e = refl
  none_hit (some r) e = cc

  pub some_hit : (o : Option Refusal) {r : Refusal} → o ≡ some r → f r ≡ elim o [ none ↦ x | some r ↦ f r ]
  some_hit none e = cc
  some_hit (some r) e = ap f (cc)
