-- What turn promises.
use Rattle.std.specs.Prelude.{◌≡◌, List, ◌∷◌, ℕ, ◌≤◌, drop, Result, Ok}
use Rattle.srp.specs.Calls.{serve_first, turn_def}
use Rattle.srp.specs.declared.Place.{Place}
use Rattle.srp.specs.declared.Reply.{Reply}
use Rattle.srp.specs.declared.Reply.TheVariants.{Idle}
use Rattle.words.specs.Line.{count, line}
use Rattle.words.specs.View.{view}
use Rattle.state.specs.Promises.{RepliesAs}
use Rattle.srp.specs.declared.Refusal.{Refusal}

-- l and l' are the port's words before and after the call, st is the store, which stays. A turn that says idle alters no word
pub record Turns (l l' st : List ℕ) (r : Result Reply Refusal) : Type 0 where
  pub replies : RepliesAs l st l' st r (turn_def (view l st))
  pub idle : r ≡ Ok Idle → l' ≡ l

-- x is the first of the line
pub record FirstIs (l : List ℕ) (x : Place) : Type 0 where
  pub some : 1 ≤ count l
  pub first : line l ≡ x ∷ drop 1 (line l)

-- of an open port whose line is not empty
pub record Serves (l l' st : List ℕ) (r : Result Reply Refusal) : Type 0 where
  pub replies : RepliesAs l st l' st r (serve_first (view l st) (view l st).line)
  pub idle : r ≡ Ok Idle → l' ≡ l
