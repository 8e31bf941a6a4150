-- Document 02, job 2: which of document 01's types a message is, by its type byte, its length and its descriptor formats. The message has n bytes and
-- begins with s: of its bytes no more than the first 40 are read, its length apart.
use Rattle.std.specs.Prelude.{Bool, true, cond, not, ◌&&◌, ◌||◌, List, ℕ, ◌+◌, ◌≤◌, min, ltb, eqb, length}
use Rattle.srp.specs.Bytes.{get, type_of}
use Rattle.srp.specs.Messages.{login_req, tsk_mgmt, cmd, i_logout, cred_rsp, login_rsp, login_rej, rsp, cred_req, t_logout, out_format, in_format, rspvalid, snsvalid, sense_length}
use Rattle.srp.specs.Requests.{flag, exact_length}
use Rattle.page.specs.declared.Name.{Name}
use Rattle.page.specs.declared.Name.TheVariants.{LoginReq, TskMgmt, Cmd, ILogout, CredRsp, LoginRsp, LoginRej, Rsp, CredReq, TLogout, Unknown}

-- how many bytes of a message are read
abbrev pub most_read : ℕ
most_read = 40

-- of a message of n bytes s has the part that is read
abbrev pub Begins : ℕ → List ℕ → Type 0
Begins n s = min n most_read ≤ length s

-- the types of document 01, by their codes
unfoldable pub type_named_lem : ℕ → Name
type_named_lem k =
    cond (eqb k login_req.code) LoginReq
    (cond (eqb k tsk_mgmt.code) TskMgmt
    (cond (eqb k cmd.code) Cmd
    (cond (eqb k i_logout.code) ILogout
    (cond (eqb k cred_rsp.code) CredRsp
    (cond (eqb k login_rsp.code) LoginRsp
    (cond (eqb k login_rej.code) LoginRej
    (cond (eqb k rsp.code) Rsp
    (cond (eqb k cred_req.code) CredReq
    (cond (eqb k t_logout.code) TLogout
    Unknown)))))))))

-- "SRP_RSP has 36 bytes + 4 if RSPVALID + sense length if SNSVALID"
abbrev pub response_bytes_lem : List ℕ → ℕ
response_bytes_lem s = cond (flag (get rspvalid s)) 4 0

abbrev pub sense_bytes_lem : List ℕ → ℕ
sense_bytes_lem s = cond (flag (get snsvalid s)) (get sense_length s) 0

abbrev pub response_size : List ℕ → ℕ
response_size s = rsp.size + response_bytes_lem s + sense_bytes_lem s

-- a type's length; what has no type may have any
abbrev pub size_of : Name → ℕ → List ℕ → ℕ
size_of LoginReq n s = login_req.size
size_of TskMgmt n s = tsk_mgmt.size
size_of Cmd n s = exact_length s
size_of ILogout n s = i_logout.size
size_of CredRsp n s = cred_rsp.size
size_of LoginRsp n s = login_rsp.size
size_of LoginRej n s = login_rej.size
size_of Rsp n s = response_size s
size_of CredReq n s = cred_req.size
size_of TLogout n s = t_logout.size
size_of Unknown n s = n

-- "a descriptor format above 2"
abbrev pub strange_format : List ℕ → Bool
strange_format s = ltb 2 (get out_format s) || ltb 2 (get in_format s)

abbrev pub fits_command_lem : ℕ → List ℕ → Bool
fits_command_lem n s = eqb n (exact_length s) && not (strange_format s)

-- a message of its type's length, and without such a format
abbrev pub fits : Name → ℕ → List ℕ → Bool
fits LoginReq n s = eqb n (size_of LoginReq n s)
fits TskMgmt n s = eqb n (size_of TskMgmt n s)
fits Cmd n s = fits_command_lem n s
fits ILogout n s = eqb n (size_of ILogout n s)
fits CredRsp n s = eqb n (size_of CredRsp n s)
fits LoginRsp n s = eqb n (size_of LoginRsp n s)
fits LoginRej n s = eqb n (size_of LoginRej n s)
fits Rsp n s = eqb n (size_of Rsp n s)
fits CredReq n s = eqb n (size_of CredReq n s)
fits TLogout n s = eqb n (size_of TLogout n s)
fits Unknown n s = true

-- "A message of a type not in document 01, of a length not its type's, or with a descriptor format above 2 prints UNKNOWN"
abbrev pub name_of : ℕ → List ℕ → Name
name_of n s = cond (fits (type_named_lem (type_of s)) n s) (type_named_lem (type_of s)) Unknown
