-- A thing for each direction: what holds of each holds of the one that is asked for, and stays where one is changed.
-- Assumes nothing.
use mathlib.Core.Path.{◌≡◌, refl}
use Rattle.srp.specs.Both.{Both, of, alter, Each, each}
use Rattle.srp.specs.declared.Direction.{Direction}
use Rattle.srp.specs.declared.Direction.TheVariants.{Out, In}

module _ {A B : Type 0} (d : Direction) (f : A → B) (b : Both A) where
  pub of_each : of d (each f b) ≡ f (of d b)
  of_each = elim d as (λ k. of k (each f b) ≡ f (of k b)) [ Out ↦ refl | In ↦ refl ]

  -- a change g of one of the images is a change h of one, where they agree there
  pub alter_each : (g : B → B) (h : A → A) → g (f (of d b)) ≡ f (h (of d b)) → alter d g (each f b) ≡ each f (alter d h b)
  alter_each g h =
      elim d as (λ k. g (f (of k b)) ≡ f (h (of k b)) → alter k g (each f b) ≡ each f (alter k h b)) [ Out ↦ λ e. rw e | In ↦ λ e. rw e ]

module _ {A : Type 0} (P : A → Type 0) (d : Direction) (b : Both A) where
  pub each_of : Each P b → P (of d b)
  each_of e = elim d as (λ k. P (of k b)) [ Out ↦ e.0 | In ↦ e.1 ]

  pub each_altered : (g : A → A) → Each P b → P (g (of d b)) → Each P (alter d g b)
  each_altered g e = elim d as (λ k. P (g (of k b)) → Each P (alter k g b)) [ Out ↦ λ h. (h, e.1) | In ↦ λ h. (e.0, h) ]
