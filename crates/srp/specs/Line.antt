-- Document 02, job 8: "Each named move with pieces joins a line at its end". The port and the machine both keep one.
use Rattle.std.specs.Prelude.{◌≡◌, Bool, true, false, cond, ◌&&◌, ◌||◌, List, [], ◌∷◌, ◌++◌, ℕ, eqb, ltb, length}
use Rattle.std.proofs.Math.Option.{Option, none, some}
use Rattle.srp.specs.Limits.{most_moves}
use Rattle.srp.specs.Lists.{find, without}
use Rattle.srp.specs.Both.{of}
use Rattle.srp.specs.Credit.{Held, has_tag, place}
use Rattle.srp.specs.declared.Direction.{Direction}
use Rattle.srp.specs.declared.Direction.TheVariants.{Out, In}
use Rattle.srp.specs.declared.Place.{Place}

-- ── moves in it

abbrev pub same_direction_lem : Direction → Direction → Bool
same_direction_lem Out Out = true
same_direction_lem Out In = false
same_direction_lem In Out = false
same_direction_lem In In = true

abbrev pub same_place_lem : Place → Place → Bool
same_place_lem x y = eqb x.tag y.tag && same_direction_lem x.direction y.direction

abbrev pub in_line : Place → List Place → Bool
in_line x [] = false
in_line x (y ∷ l) = same_place_lem x y || in_line x l

-- no move stands in it twice
abbrev pub Once : List Place → Type 0
Once [] = Unit {0}
Once (x ∷ l) = (in_line x l ≡ false) × Once l

-- whether a direction's move has pieces, where `more` says so of one direction
abbrev pub more_in : {S : Type 0} → (S → Bool) → Direction → Option (Held S) → Bool
more_in more d none = false
more_in more d (some c) = more (of d c.sides)

-- the line is each move with pieces of the commands cs, once
pub record Lined {S : Type 0} (more : S → Bool) (cs : List (Held S)) (l : List Place) : Type 0 where
  pub each : (tag : ℕ) (d : Direction) → in_line (place tag d) l ≡ more_in more d (find (has_tag tag) cs)
  pub once : Once l

-- ── what changes it

-- "Each named move with pieces joins a line at its end". "The line has at most 32 moves": a full one takes none, which in no port that a login made is
-- asked of it
abbrev pub joins : (more : Bool) → Place → List Place → List Place
joins more x l = cond (more && ltb (length l) most_moves) (l ++ (x ∷ [])) l

-- "puts it back at the end if pieces remain"; l stood behind it
abbrev pub put_back : (more : Bool) → Place → List Place → List Place
put_back more x l = cond more (l ++ (x ∷ [])) l

-- "a single step's last piece" removes it; else it keeps its place
abbrev pub keeps_place : (more : Bool) → Place → List Place → List Place
keeps_place more x l = cond more l (without (same_place_lem x) l)

-- "Aborts, endings": a move leaves with its command, where `ends` tells which commands end
abbrev pub is_ended : {S : Type 0} → (Held S → Bool) → Option (Held S) → Bool
is_ended ends none = false
is_ended ends (some c) = ends c

abbrev pub left_by : {S : Type 0} → (Held S → Bool) → List (Held S) → List Place → List Place
left_by ends cs l = without (λ x. is_ended ends (find (has_tag x.tag) cs)) l
