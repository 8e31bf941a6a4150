-- what a message is, by its bytes
use Rattle.std.specs.Prelude.{ℕ, List, [], ◌∷◌, take, length, get_or, Bool, false, cond, ◌||◌, nat_eq, nat_lt}
use Rattle.srp.specs.Bytes.{Field, get}
use Rattle.host.specs.declared.message.Message.{Message}

-- the bytes that are sent
abbrev pub sent : Message → List ℕ
sent m = take m.len m.bytes

-- an SRP_CMD or SRP_TSK_MGMT takes one off the request limit
abbrev pub is_request_type : ℕ → Bool
is_request_type kind = nat_eq kind 2 || nat_eq kind 1

abbrev pub costs : List ℕ → Bool
costs [] = false
costs (kind ∷ _) = is_request_type kind

-- an SRP_LOGIN_RSP, SRP_RSP or SRP_CRED_REQ adds its bytes 4 to 7
abbrev pub has_delta : ℕ → Bool
has_delta kind = nat_eq kind 192 || nat_eq kind 193 || nat_eq kind 129

abbrev pub raises : List ℕ → ℕ
raises bs = cond (nat_lt (length bs) 16) 0 (cond (has_delta (get_or bs 0 0)) (get (Field.bytes 4 4) bs) 0)
