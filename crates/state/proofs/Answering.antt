-- A call whose endings are done writes a message with what is due.
-- Assumes nothing.
use mathlib.Core.Path.{◌≡◌, ◌∙◌, ap}
use mathlib.Core.Bool.{true}
use mathlib.Core.List.{List, [], ◌∷◌}
use Prim.Native.Nat.{ℕ, ◌+◌, ◌-◌, ◌<◌}
use native.Mathlib.Omega.{arith}
use lib.ListN.{length}
use Rattle.std.specs.Prelude.{Result}
use Rattle.srp.specs.Credit.{Port, due, with_held}
use Rattle.srp.specs.Writing.{placed}
use Rattle.srp.specs.Take.{answering}
use Rattle.srp.specs.declared.Reply.{Reply}
use Rattle.srp.specs.declared.Answer.{Answer}
use Rattle.words.specs.Head.{head_of}
use Rattle.words.specs.View.{view}
use Rattle.state.specs.Changes.{Settled, after_use}
use Rattle.state.specs.Promises.{AnswersAs}
use Rattle.state.proofs.Promises.{wrote, settled_view}
use Rattle.srp.specs.declared.Refusal.{Refusal}

-- no announced buffer is used
pub unused : (p : Port) → after_use 0 p ≡ p
unused p =
    let e : p.announced - 0 ≡ p.announced = omega arith in
    ap (λ (n : ℕ). with_held p n p.held) e

-- l are the words before the call, l₁ those in which its endings are done, l₂ those after it; q is the port after the endings and the use,
-- open or closed as before the call
module _ {l l₁ l₂ st b b' : List ℕ} {p q : Port} {used delta : ℕ} {r : Answer} (y : Result Reply Refusal) (message : ℕ → List ℕ) where
  pub answered : view l₁ st ≡ p → after_use used p ≡ q → q.live ≡ (view l st).live → (head_of l₁).live ≡ true → Settled used delta l₁ l₂ → b' ≡ placed (message delta ∷ []) b
      → r ≡ record { reply = y; wrote = length (message (due q)) } → 0 < length (message (due q))
      → AnswersAs l st b l₂ st b' r (answering q y message)
  answered e f k live S w a n =
      let v = settled_view l₁ l₂ st live S in
      let d : delta ≡ due q = v.0 ∙ ap (λ (x : Port). due (after_use used x)) e ∙ ap due f in
      wrote a
      (v.1
      ∙ ap (λ (x : Port). with_held x (x.announced - used + delta) x.held) e
      ∙ ap (λ (x : Port). with_held x (x.announced + delta) x.held) f
      ∙ ap (λ (m : ℕ). with_held q (q.announced + m) q.held) d)
      (w ∙ ap (λ (m : ℕ). placed (message m ∷ []) b) d) n k
