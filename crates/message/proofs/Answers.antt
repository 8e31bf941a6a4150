-- How long the answer to a task request is, and to a command that draws 10.
-- Assumes nothing.
use mathlib.Core.Path.{◌≡◌, refl, ◌∙◌, ap}
use mathlib.Core.Bool.{Bool}
use mathlib.Core.List.{[], ◌∷◌}
use mathlib.Core.Option.{some}
use Prim.Native.Nat.{ℕ, ◌+◌}
use lib.ListN.{length, length-append}
use Rattle.srp.specs.Bytes.{write}
use Rattle.srp.specs.Messages.{rsp}
use Rattle.srp.specs.Writing.{response_values, answer}
use Rattle.srp.specs.declared.Residual.TheVariants.{Even}
use Rattle.message.specs.Header.{answer_size}
use Rattle.message.proofs.Laying.{long}

pub answer_long : (x : Bool) (tag code d : ℕ) → length (answer x tag code d) ≡ answer_size
answer_long x tag code d =
    let vs = response_values (record { solnt = x; delta = d; tag = tag; status = 0; out = Even; inn = Even; code = some code; sense = [] }) in
    length-append (write rsp vs) (0 ∷ 0 ∷ 0 ∷ code ∷ []) ∙ ap (λ (n : ℕ). n + 4) (long rsp vs refl)
