-- Lists by a test, as the port and the machine both use them; and a list written over another.
use Rattle.std.specs.Prelude.{Bool, true, false, cond, List, [], ◌∷◌, ◌++◌, length, drop}
use Rattle.std.proofs.Math.Option.{Option, none, some}

module _ {A : Type 0} where
  -- the first that passes
  abbrev pub find : (A → Bool) → List A → Option A
  find p [] = none
  find p (x ∷ xs) = cond (p x) (some x) (find p xs)

  -- the first that passes is changed by g
  abbrev pub change : (A → Bool) → (A → A) → List A → List A
  change p g [] = []
  change p g (x ∷ xs) = cond (p x) (g x ∷ xs) (x ∷ change p g xs)

  -- without those that pass
  abbrev pub without : (A → Bool) → List A → List A
  without p [] = []
  without p (x ∷ xs) = cond (p x) (without p xs) (x ∷ without p xs)

  -- each of them has the property
  abbrev pub All : (A → Type 0) → List A → Type 0
  All P [] = Unit {0}
  All P (x ∷ xs) = P x × All P xs

  -- the first of `before` give way to these, "the rest of the list untouched"
  abbrev pub over : List A → List A → List A
  over xs before = xs ++ drop (length xs) before

abbrev pub is_some : {A : Type 0} → Option A → Bool
is_some none = false
is_some (some x) = true
