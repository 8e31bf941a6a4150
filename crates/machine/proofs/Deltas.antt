-- What the initiator reads of the messages that the port writes: their type and their delta.
-- Assumes nothing.
use mathlib.Core.Path.{◌≡◌, refl}
use mathlib.Core.Bool.{Bool, true, false}
use mathlib.Core.List.{List}
use Prim.Native.Nat.{ℕ, ◌^◌, ◌<◌}
use Rattle.srp.specs.Writing.{Response, response, answer, credit_request, target_logout}
use Rattle.machine.specs.Machine.{delta_of_lem, is_credit_request, is_target_logout}
use Rattle.srp.proofs.Numbers.{number_read}

-- a message that carries the delta d, and is a credit request or not as b says
pub record Carries (d : ℕ) (b : Bool) (s : List ℕ) : Type 0 where
  pub delta : delta_of_lem s ≡ d
  pub credit : is_credit_request s ≡ b
  pub stays : is_target_logout s ≡ false

pub response_carries : (r : Response) → r.delta < 256 ^ 4 → Carries r.delta false (response r)
response_carries r h = record { delta = number_read 4 r.delta h; credit = refl; stays = refl }

pub answer_carries : (solnt : Bool) (tag code d : ℕ) → d < 256 ^ 4 → Carries d false (answer solnt tag code d)
answer_carries solnt tag code d h = record { delta = number_read 4 d h; credit = refl; stays = refl }

pub request_carries : (solnt : Bool) (d : ℕ) → d < 256 ^ 4 → Carries d true (credit_request solnt d)
request_carries solnt d h = record { delta = number_read 4 d h; credit = refl; stays = refl }

-- a target's logout carries none
pub logout_carries : (solnt : Bool) (n : ℕ) → delta_of_lem (target_logout solnt n) ≡ 0
logout_carries solnt n = refl
