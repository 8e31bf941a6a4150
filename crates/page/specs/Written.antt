-- "fields written by the layouts read back as those fields": a message that was written by its layout prints the values that were written.
use Rattle.std.specs.Prelude.{Option, Some, None, ◌≡◌, cond, List, [], ◌∷◌, ◌++◌, ℕ, ◌+◌, ◌*◌, length}
use Rattle.srp.specs.Bytes.{bytes, get, write, InRange}
use Rattle.srp.specs.Messages.{login_req, tsk_mgmt, cmd, i_logout, cred_rsp, login_rsp, login_rej, rsp, cred_req, t_logout}
use Rattle.srp.specs.Requests.{flag}
use Rattle.srp.specs.Initiator.{CommandFields, values, command_bytes, Fit}
use Rattle.page.specs.Page.{line_text, trace_line}
use Rattle.page.specs.declared.Way.{Way}
use Rattle.page.specs.declared.Name.{Name}
use Rattle.page.specs.declared.Name.TheVariants.{LoginReq, TskMgmt, Cmd, ILogout, CredRsp, LoginRsp, LoginRej, Rsp, CredReq, TLogout}

-- the line of s says this type, this tag, this LUN, this delta, this reason or RSP_CODE
abbrev pub Shows : Way → List ℕ → Name → ℕ → Option ℕ → Option ℕ → Option ℕ → Type 0
Shows w s m t l d c = trace_line w s ≡ line_text (record { way = w; name = m; tag = Some t; lun = l; number = d; code = c })

-- an SRP_RSP up to byte 35 and what follows it: response bytes with RSPVALID, v, and sense with SNSVALID, n
abbrev pub Follow : (v n sense : ℕ) → List ℕ → Type 0
Follow v n sense rest = length rest ≡ cond (flag v) 4 0 + cond (flag n) sense 0

-- whatever was written, each type its values
pub record PrintsWritten (w : Way) (s : List ℕ) : Type 0 where
  pub login_request : (t n f c l a i g : ℕ) → InRange login_req.fields (t ∷ n ∷ f ∷ c ∷ l ∷ a ∷ i ∷ g ∷ [])
      → s ≡ write login_req (t ∷ n ∷ f ∷ c ∷ l ∷ a ∷ i ∷ g ∷ [])
      → Shows w s LoginReq t None None None
  pub task : (u c t l f k : ℕ) → InRange tsk_mgmt.fields (u ∷ c ∷ t ∷ l ∷ f ∷ k ∷ []) → s ≡ write tsk_mgmt (u ∷ c ∷ t ∷ l ∷ f ∷ k ∷ [])
      → Shows w s TskMgmt t (Some l) None None
  pub command : (c : CommandFields) → InRange cmd.fields (values c) → length c.cdb ≡ 16 + 4 * c.n → Fit c.out → Fit c.inn → s ≡ command_bytes c
      → Shows w s Cmd c.request.tag (Some c.request.lun) None None
  pub initiator_logout : (t : ℕ) → InRange i_logout.fields (t ∷ []) → s ≡ write i_logout (t ∷ []) → Shows w s ILogout t None None None
  pub credit_response : (t : ℕ) → InRange cred_rsp.fields (t ∷ []) → s ≡ write cred_rsp (t ∷ []) → Shows w s CredRsp t None None None
  pub login_response_lem : (d t a b f k : ℕ) → InRange login_rsp.fields (d ∷ t ∷ a ∷ b ∷ f ∷ k ∷ []) → s ≡ write login_rsp (d ∷ t ∷ a ∷ b ∷ f ∷ k ∷ [])
      → Shows w s LoginRsp t None (Some d) None
  pub login_rejection : (r t f : ℕ) → InRange login_rej.fields (r ∷ t ∷ f ∷ []) → s ≡ write login_rej (r ∷ t ∷ f ∷ [])
      → Shows w s LoginRej t None None (Some r)
  pub response : (o d t v n a b x y z p q sense k : ℕ) (rest : List ℕ)
      → InRange rsp.fields (o ∷ d ∷ t ∷ v ∷ n ∷ a ∷ b ∷ x ∷ y ∷ z ∷ p ∷ q ∷ sense ∷ k ∷ [])
      → Follow v n sense rest
      → s ≡ write rsp (o ∷ d ∷ t ∷ v ∷ n ∷ a ∷ b ∷ x ∷ y ∷ z ∷ p ∷ q ∷ sense ∷ k ∷ []) ++ rest
      → Shows w s Rsp t None (Some d) (cond (flag v) (Some (get (bytes 3 1) rest)) None)
  pub credit_request_lem : (o d t : ℕ) → InRange cred_req.fields (o ∷ d ∷ t ∷ []) → s ≡ write cred_req (o ∷ d ∷ t ∷ [])
      → Shows w s CredReq t None (Some d) None
  pub target_logout_lem : (o r t : ℕ) → InRange t_logout.fields (o ∷ r ∷ t ∷ []) → s ≡ write t_logout (o ∷ r ∷ t ∷ [])
      → Shows w s TLogout t None None (Some r)
