-- The checks of add, withdraw and grant, of an open channel by the head that was read.
-- Assumes nothing.
use mathlib.Core.Path.{◌≡◌, refl, sym, ◌∙◌, ap}
use mathlib.Core.List.{List, [], ◌∷◌}
use Prim.Native.Nat.{ℕ, ◌+◌, ◌-◌, ◌≤◌}
use lib.Dec.{ltb, leb, eqb}
use borrow.Author.Tests.{ne_eqb, le-ltb}
use Rattle.srp.specs.Limits.{buffer_size, most_buffers}
use Rattle.srp.specs.Credit.{Port}
use Rattle.srp.specs.Refusals.{first_of_checks}
use Rattle.srp.specs.Calls.{add_checks, withdraw_checks, grant_checks}
use Rattle.srp.specs.declared.Refusal.TheVariants.{Unanswered, NotOwed, Wanted}
use Rattle.words.specs.View.{view}
use Rattle.words.specs.declared.Head.{Head}
use Rattle.words.proofs.Ports.{while_open, view_live}
use Rattle.state.specs.Opening.{OpenHead}
use Rattle.state.proofs.Opened.{wanted_is, announced_is, held_is, unanswered_is}
use Rattle.credit.specs.Buffers.{Changeable}

-- W of the port that the words are
pub wants : {l : List ℕ} {k w : ℕ} → Changeable l k w → (st : List ℕ) → (view l st).wanted ≡ w
wants {l} C st = ap (λ (p : Port). p.wanted) (while_open l st C.live) ∙ sym C.wanted

module _ {l : List ℕ} {k w : ℕ} (C : Changeable l k w) (st : List ℕ) where
  -- 28 or none
  pub adding : first_of_checks (add_checks (view l st) k) ≡ first_of_checks ((ltb most_buffers (w + k), Wanted) ∷ [])
  adding = rw (view_live l st ∙ C.live, ne_eqb k 0 C.some, wants C st) refl

  pub withdrawing : first_of_checks (withdraw_checks (view l st) k) ≡ first_of_checks ((leb w k, Wanted) ∷ [])
  withdrawing = rw (view_live l st ∙ C.live, ne_eqb k 0 C.some, wants C st) refl

-- 26, 27 or none
pub granting : {l : List ℕ} {h : Head} → OpenHead l h → (room : ℕ) → buffer_size ≤ room → (st : List ℕ)
    → first_of_checks (grant_checks (view l st) room) ≡ first_of_checks ((h.unanswered, Unanswered) ∷ (eqb (h.wanted - (h.announced + h.held)) 0, NotOwed) ∷ [])
granting {l} {h} O room enough st =
    rw
    (le-ltb room buffer_size enough, view_live l st ∙ O.live, unanswered_is O.head st O.live, wanted_is O.head st O.live, announced_is O.head st O.live, held_is O.head st O.live)
    refl
