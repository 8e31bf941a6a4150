-- Document 01, "What the port writes": the messages, byte for byte.
use Rattle.std.specs.Prelude.{Bool, true, false, cond, not, List, [], ◌∷◌, ◌++◌, ℕ, ◌-◌, ltb, eqb, length}
use Rattle.std.proofs.Math.Option.{Option, none, some}
use Rattle.srp.specs.Limits.{credit_tag}
use Rattle.srp.specs.Bytes.{bit, write}
use Rattle.srp.specs.Messages.{rsp, cred_req, t_logout}
use Rattle.srp.specs.Lists.{is_some, over}
use Rattle.srp.specs.Credit.{Side}
use Rattle.srp.specs.declared.Request.{Request}
use Rattle.srp.specs.declared.Residual.{Residual}
use Rattle.srp.specs.declared.Residual.TheVariants.{Even, Over, Under}

-- "Residual per direction: R > B: over, R - B. Else moved < B: under, B - moved, moved being the bytes handed out (unplanned: R = 0). Else no flag,
-- count 0", and h for the bytes handed out
abbrev pub residual : (R B moved : ℕ) → Residual
residual R B moved = cond (ltb B R) (Over (R - B)) (cond (ltb moved B) (Under (B - moved)) Even)

abbrev pub residual_of : Side → Residual
residual_of s = residual s.transfer.required s.extent.total s.transfer.highest

abbrev pub is_over : Residual → Bool
is_over Even = false
is_over (Over n) = true
is_over (Under n) = false

abbrev pub is_under_lem : Residual → Bool
is_under_lem Even = false
is_under_lem (Over n) = false
is_under_lem (Under n) = true

abbrev pub amount : Residual → ℕ
amount Even = 0
amount (Over n) = n
amount (Under n) = n

-- what an SRP_RSP says; `code` is the RSP_CODE, where there are response bytes
pub record Response : Type 0 where
  pub solnt : Bool
  pub delta : ℕ
  pub tag : ℕ
  pub status : ℕ
  pub out : Residual
  pub inn : Residual
  pub code : Option ℕ
  pub sense : List ℕ

abbrev pub response_bytes_lem : Option ℕ → List ℕ
response_bytes_lem none = []
response_bytes_lem (some code) = 0 ∷ 0 ∷ 0 ∷ code ∷ []

abbrev pub response_values : Response → List ℕ
response_values r =
    bit r.solnt
    ∷ r.delta
    ∷ r.tag
    ∷ bit (is_some r.code)
    ∷ bit (not (eqb (length r.sense) 0))
    ∷ bit (is_over r.out)
    ∷ bit (is_under_lem r.out)
    ∷ bit (is_over r.inn)
    ∷ bit (is_under_lem r.inn)
    ∷ r.status
    ∷ amount r.out
    ∷ amount r.inn
    ∷ length r.sense
    ∷ length (response_bytes_lem r.code)
    ∷ []

-- 36 fixed bytes, "four response bytes if any (last is RSP_CODE), then sense"
abbrev pub response : Response → List ℕ
response r = write rsp (response_values r) ++ (response_bytes_lem r.code ++ r.sense)

-- "Response bytes stand in task answers and refusal 10 (code 02h), status 0, residuals 0"
abbrev pub answer : Bool → ℕ → ℕ → ℕ → List ℕ
answer solnt tag code delta =
    response (record { solnt = solnt; delta = delta; tag = tag; status = 0; out = Even; inn = Even; code = some code; sense = [] })

-- "Grant writes an SRP_CRED_REQ with tag 1"
abbrev pub credit_request : Bool → ℕ → List ℕ
credit_request crsolnt delta = write cred_req (bit crsolnt ∷ delta ∷ credit_tag ∷ [])

-- SRP_T_LOGOUT: "4-7 reason, tag 0"
abbrev pub target_logout : Bool → ℕ → List ℕ
target_logout losolnt reason = write t_logout (bit losolnt ∷ reason ∷ 0 ∷ [])

-- "SOLNT is UCSOLNT if status or RSP_CODE is non-zero, else SCSOLNT"
abbrev pub solicited : Request → ℕ → Bool
solicited r code = cond (eqb code 0) r.scsolnt r.ucsolnt

-- "Messages go to a lent buffer of at least 132 bytes; bytes past the message keep their content"
abbrev pub placed : List (List ℕ) → List ℕ → List ℕ
placed [] buffer = buffer
placed (s ∷ ss) buffer = over s buffer
