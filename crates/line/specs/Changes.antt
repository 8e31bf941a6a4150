-- What changes of the line's words do: the slots and the head stay.
use Rattle.std.specs.Prelude.{◌≡◌, List, ℕ, set}
use Rattle.srp.specs.Credit.{place}
use Rattle.srp.specs.declared.Direction.{Direction}
use Rattle.srp.specs.declared.Direction.TheVariants.{Out, In}
use Rattle.srp.specs.declared.Place.{Place}
use Rattle.words.specs.Slots.{slots}
use Rattle.words.specs.Head.{head_of}
use Rattle.words.specs.Line.{count, ring, line}

-- read where there is none
abbrev pub no_place : Place
no_place = place 0 Out

abbrev pub direction_word : Direction → ℕ
direction_word Out = 0
direction_word In = 1

-- the place that is j behind the first is x
pub record PlaceChanged (l l' : List ℕ) (j : ℕ) (x : Place) : Type 0 where
  pub slots : slots l' ≡ slots l
  pub head : head_of l' ≡ head_of l
  pub count : count l' ≡ count l
  pub ring : ring l' ≡ set (ring l) j x

-- the line has n moves
pub record LengthChanged (l l' : List ℕ) (n : ℕ) : Type 0 where
  pub slots : slots l' ≡ slots l
  pub head : head_of l' ≡ head_of l
  pub count : count l' ≡ n
  pub ring : ring l' ≡ ring l

-- the line is changed by f
pub record LineChanged (l l' : List ℕ) (f : List Place → List Place) : Type 0 where
  pub slots : slots l' ≡ slots l
  pub head : head_of l' ≡ head_of l
  pub line : line l' ≡ f (line l)
