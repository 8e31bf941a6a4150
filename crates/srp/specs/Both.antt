-- One thing for each direction: data-out's and data-in's.
use Rattle.srp.specs.declared.Direction.{Direction}
use Rattle.srp.specs.declared.Direction.TheVariants.{Out, In}

pub record Both (A : Type 0) : Type 0 where
  pub out : A
  pub inn : A

module _ {A : Type 0} where
  abbrev pub of : Direction → Both A → A
  of Out b = b.out
  of In b = b.inn

  -- one direction's is changed by g
  abbrev pub alter : Direction → (A → A) → Both A → Both A
  alter Out g b = record { out = g b.out; inn = b.inn }
  alter In g b = record { out = b.out; inn = g b.inn }

  -- each has the property
  abbrev pub Each : (A → Type 0) → Both A → Type 0
  Each P b = P b.out × P b.inn

-- f of each
abbrev pub each : {A B : Type 0} → (A → B) → Both A → Both B
each f b = record { out = f b.out; inn = f b.inn }

-- f of each, with its direction's of another pair
abbrev pub along : {A B C : Type 0} → (A → B → C) → Both A → Both B → Both C
along f a b = record { out = f a.out b.out; inn = f a.inn b.inn }
