-- What the definition of finish comes to, test by test, and the response of the command that ends.
-- Assumes nothing.
use mathlib.Core.Path.{◌≡◌, refl, ◌∙◌, ap}
use mathlib.Core.Bool.{Bool}
use mathlib.Core.List.{List, ◌++◌}
use mathlib.Core.Option.{Option, none, some}
use Prim.Native.Nat.{ℕ, ◌+◌}
use lib.ListN.{length, length-append}
use Rattle.srp.specs.Bytes.{write}
use Rattle.srp.specs.Messages.{rsp}
use Rattle.srp.specs.Credit.{Open}
use Rattle.srp.specs.Writing.{residual_of, Response, response_bytes_lem, response_values, response, solicited}
use Rattle.srp.specs.Calls.{final_of, final_response}
use Rattle.srp.specs.declared.Residual.{Residual}
use Rattle.words.specs.View.{open_of}
use Rattle.words.specs.declared.Slot.{Slot}
use Rattle.message.specs.Header.{response_of}
use Rattle.message.specs.declared.Header.{Header}
use Rattle.message.proofs.Laying.{long}
use Rattle.finish.specs.Finishing.{HeaderIs}

-- ── the response

-- without response bytes it is the fixed fields and the sense
without_code : (r : Response) → r.code ≡ none → length (response r) ≡ rsp.size + length r.sense
without_code r e =
    length-append (write rsp (response_values r)) (response_bytes_lem r.code ++ r.sense)
    ∙ ap (λ (n : ℕ). n + length (response_bytes_lem r.code ++ r.sense)) (long rsp (response_values r) refl)
    ∙ ap (λ (o : Option ℕ). rsp.size + length (response_bytes_lem o ++ r.sense)) e

-- of a command: its length
pub response_long : (c : Open) (status : ℕ) (sense : List ℕ) (delta : ℕ) → length (final_response (some c) status sense delta) ≡ rsp.size + length sense
response_long c status sense delta = without_code (final_of c status sense delta) refl

-- by its parts
pub final_by_lem : (c : Open) (status delta : ℕ) (sense : List ℕ) {s : Bool} {o i : Residual}
    → s ≡ solicited c.request status → o ≡ residual_of c.sides.out → i ≡ residual_of c.sides.inn
    → response_of (record { solnt = s; delta = delta; tag = c.request.tag; status = status; out = o; inn = i }) sense ≡ final_of c status sense delta
final_by_lem c status delta sense e f g = rw (e, f, g) refl

-- it is the one that the header says
pub response_is : (c : Slot) (status delta : ℕ) (sense st : List ℕ) (h : Header) → HeaderIs c status delta h
    → response (response_of h sense) ≡ final_response (some (open_of st c)) status sense delta
response_is c status delta sense st h H = ap response (H st sense)
