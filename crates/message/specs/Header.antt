-- The messages as the code puts them together.
use Rattle.std.specs.Prelude.{Bool, not, List, [], ◌∷◌, ℕ, ◌+◌, eqb}
use Rattle.std.proofs.Math.Option.{none}
use Rattle.srp.specs.Bytes.{Field, bit, kind, write}
use Rattle.srp.specs.Messages.{solnt, delta, tag, rspvalid, snsvalid, doover, dounder, diover, diunder, out_residual, in_residual, sense_length, response_length, rsp, cred_req}
use Rattle.srp.specs.Writing.{is_over, is_under_lem, amount, Response}
use Rattle.srp.specs.declared.Residual.{Residual}
use Rattle.message.specs.declared.Header.{Header}

-- "four response bytes", and an SRP_RSP with them
abbrev pub response_size : ℕ
response_size = 4

abbrev pub answer_size : ℕ
answer_size = rsp.size + response_size

-- an SRP_CRED_REQ, and an SRP_T_LOGOUT
abbrev pub short_size : ℕ
short_size = cred_req.size

-- the fields of an SRP_RSP in three groups; its status stands between the second and the third
abbrev pub start_fields : List Field
start_fields = kind ∷ solnt ∷ delta ∷ tag ∷ []

abbrev pub flag_fields : List Field
flag_fields = rspvalid ∷ snsvalid ∷ doover ∷ dounder ∷ diover ∷ diunder ∷ []

abbrev pub flag_values : Bool → Bool → Residual → Residual → List ℕ
flag_values answered sensed out inn =
    bit answered ∷ bit sensed ∷ bit (is_over out) ∷ bit (is_under_lem out) ∷ bit (is_over inn) ∷ bit (is_under_lem inn) ∷ []

abbrev pub count_fields : List Field
count_fields = out_residual ∷ in_residual ∷ sense_length ∷ response_length ∷ []

-- the values of an SRP_RSP with so many response bytes and so much sense, and its fixed bytes
abbrev pub header_values : Header → ℕ → ℕ → List ℕ
header_values h responseLen senseLen =
    bit h.solnt
    ∷ h.delta
    ∷ h.tag
    ∷ bit (not (eqb responseLen 0))
    ∷ bit (not (eqb senseLen 0))
    ∷ bit (is_over h.out)
    ∷ bit (is_under_lem h.out)
    ∷ bit (is_over h.inn)
    ∷ bit (is_under_lem h.inn)
    ∷ h.status
    ∷ amount h.out
    ∷ amount h.inn
    ∷ senseLen
    ∷ responseLen
    ∷ []

abbrev pub header_bytes : Header → ℕ → ℕ → List ℕ
header_bytes h responseLen senseLen = write rsp (header_values h responseLen senseLen)

-- the response of a command, without response bytes
abbrev pub response_of : Header → List ℕ → Response
response_of h sense =
    record { solnt = h.solnt; delta = h.delta; tag = h.tag; status = h.status; out = h.out; inn = h.inn; code = none; sense = sense }

-- a short message: its type, SOLNT, a delta or a reason, a tag
abbrev pub short_bytes : ℕ → Bool → ℕ → ℕ → List ℕ
short_bytes code on number t = write (record { code = code; size = short_size; fields = solnt ∷ delta ∷ tag ∷ [] }) (bit on ∷ number ∷ t ∷ [])
