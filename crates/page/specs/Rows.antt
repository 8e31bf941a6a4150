-- Worked lines: for each type, and for each way to be none.
use Rattle.std.specs.Prelude.{◌≡◌, List, [], ◌∷◌, ◌++◌, ℕ, ◌+◌, ◌*◌, ◌/◌, ◌%◌, length, take}
use Prim.Native.String.{String}
use Rattle.srp.specs.Lists.{All}
use Rattle.srp.specs.Bytes.{zeros, write}
use Rattle.srp.specs.Messages.{login_req, tsk_mgmt, cmd, i_logout, cred_rsp, login_rsp, login_rej, rsp, cred_req, t_logout}
use Rattle.text.specs.Codes.{line_feed, codes}
use Rattle.page.specs.Page.{line_from}
use Rattle.page.specs.declared.Way.{Way}
use Rattle.page.specs.declared.Way.TheVariants.{Towards, From}

-- a message of n bytes that begins with s
pub record Row : Type 0 where
  pub way : Way
  pub long : ℕ
  pub message : List ℕ
  pub line : String

abbrev pub row : Way → List ℕ → String → Row
row w s l = record { way = w; long = length s; message = s; line = l }

-- an SRP_CMD with a CDB of 16 bytes, up to its end: formats, counts, and n
abbrev pub plain : ℕ → ℕ → ℕ → ℕ → List ℕ
plain formats out inn n = write cmd (0 ∷ 0 ∷ formats / 16 ∷ formats % 16 ∷ out ∷ inn ∷ 0x10 ∷ 0x4001000000000000 ∷ 0 ∷ n ∷ []) ++ zeros 16

-- an SRP_RSP up to byte 35: delta, RSPVALID and SNSVALID, sense length; its response length, which is not read, is 9
abbrev pub answer : ℕ → ℕ → ℕ → List ℕ
answer delta valid sense = write rsp (0 ∷ delta ∷ 0x10 ∷ valid % 2 ∷ valid / 2 ∷ 0 ∷ 0 ∷ 0 ∷ 0 ∷ 2 ∷ 0 ∷ 0 ∷ sense ∷ 9 ∷ [])

abbrev pub rows : List Row
rows =
    -- SRP_LOGIN_REQ; the identifier in its last byte
    row Towards (write login_req (0x123456789abcdef0 ∷ 1364 ∷ 6 ∷ 1 ∷ 1 ∷ 1 ∷ 7 ∷ 9 ∷ []))
    "> LOGIN_REQ    123456789abcdef0                                                 "
    -- SRP_TSK_MGMT
    ∷ row Towards (write tsk_mgmt (0 ∷ 0 ∷ 0x16 ∷ 0x4001000000000000 ∷ 1 ∷ 0x15 ∷ []))
    "> TSK_MGMT     0000000000000016 4001000000000000                                "
    -- SRP_CMD without data
    ∷ row Towards (plain 0 0 0 0)
    "> CMD          0000000000000010 4001000000000000                                "
    -- an additional CDB, data out direct and data in indirect with a count above 32
    ∷ row Towards (plain 0x12 0 33 2 ++ zeros (4 * 2 + 16 + 20 + 16 * 33))
    "> CMD          0000000000000010 4001000000000000                                "
    -- SRP_I_LOGOUT, which still prints where it cannot go
    ∷ row From (write i_logout (2 ∷ []))
    "< I_LOGOUT     0000000000000002                                                 "
    -- SRP_CRED_RSP
    ∷ row Towards (write cred_rsp (0xffffffffffffffff ∷ []))
    "> CRED_RSP     ffffffffffffffff                                                 "
    -- SRP_LOGIN_RSP: N
    ∷ row From (write login_rsp (4 ∷ 1 ∷ 1364 ∷ 1364 ∷ 6 ∷ 0 ∷ []))
    "< LOGIN_RSP    0000000000000001                      4                          "
    -- SRP_LOGIN_REJ: the reason
    ∷ row From (write login_rej (0x00010001 ∷ 1 ∷ 6 ∷ []))
    "< LOGIN_REJ    0000000000000001                        00010001                 "
    -- SRP_RSP: its delta
    ∷ row From (answer 1 0 0)
    "< RSP          0000000000000010                      1                          "
    -- with RSPVALID: RSP_CODE, the last of four bytes, and the largest number of five columns
    ∷ row From (answer 99999 1 0 ++ (1 ∷ 2 ∷ 3 ∷ 5 ∷ []))
    "< RSP          0000000000000010                  99999 00000005                 "
    -- with SNSVALID: sense; a larger delta
    ∷ row From (answer 100000 2 18 ++ zeros 18)
    "< RSP          0000000000000010                  *****                          "
    -- with both
    ∷ row From (answer 0 3 2 ++ (0 ∷ 0 ∷ 0 ∷ 0xab ∷ 0 ∷ 0 ∷ []))
    "< RSP          0000000000000010                      0 000000ab                 "
    -- SRP_CRED_REQ
    ∷ row From (write cred_req (0 ∷ 0xffffffff ∷ 1 ∷ []))
    "< CRED_REQ     0000000000000001                  *****                          "
    -- SRP_T_LOGOUT
    ∷ row From (write t_logout (1 ∷ 0x00000002 ∷ 0x8000000000000000 ∷ []))
    "< T_LOGOUT     8000000000000000                        00000002                 "
    -- UNKNOWN: no message at all; types that document 01 has not
    ∷ row Towards []
    "> UNKNOWN                                            0                          "
    ∷ row Towards (0x42 ∷ zeros 15)
    "> UNKNOWN                                           16                          "
    ∷ row From (0x82 ∷ zeros 999)
    "< UNKNOWN                                         1000                          "
    -- a length that is not its type's, of each type
    ∷ row Towards (write login_req (1 ∷ 1364 ∷ 6 ∷ 0 ∷ 0 ∷ 1 ∷ 7 ∷ 9 ∷ []) ++ zeros 1)
    "> UNKNOWN                                           65                          "
    ∷ row Towards (write tsk_mgmt (0 ∷ 0 ∷ 0x16 ∷ 0 ∷ 1 ∷ 0x15 ∷ []) ++ zeros 1)
    "> UNKNOWN                                           49                          "
    ∷ row Towards (take 47 (plain 0 0 0 0))
    "> UNKNOWN                                           47                          "
    ∷ row Towards (plain 0x01 0 0 0 ++ zeros 17)
    "> UNKNOWN                                           65                          "
    ∷ row Towards (write i_logout (2 ∷ []) ++ zeros 1)
    "> UNKNOWN                                           17                          "
    ∷ row Towards (write cred_rsp (1 ∷ []) ++ zeros 1)
    "> UNKNOWN                                           17                          "
    ∷ row From (write login_rsp (4 ∷ 1 ∷ 1364 ∷ 1364 ∷ 6 ∷ 0 ∷ []) ++ zeros 1)
    "< UNKNOWN                                           53                          "
    ∷ row From (write login_rej (0x00010001 ∷ 1 ∷ 6 ∷ []) ++ zeros 1)
    "< UNKNOWN                                           33                          "
    ∷ row From (write t_logout (1 ∷ 2 ∷ 0 ∷ []) ++ zeros 1)
    "< UNKNOWN                                           17                          "
    ∷ row From (0x81 ∷ zeros 14)
    "< UNKNOWN                                           15                          "
    -- and a sense length that would wrap 32 bits
    ∷ row From (answer 1 3 0xfffffffc)
    "< UNKNOWN                                           36                          "
    -- more bytes than five columns hold
    ∷ record { way = Towards; long = 100000; message = 0x02 ∷ zeros 39; line = "> UNKNOWN                                        *****                          " }
    -- a format above 2, each way
    ∷ row Towards (plain 0x30 0 0 0)
    "> UNKNOWN                                           48                          "
    ∷ row Towards (plain 0x03 0 0 0)
    "> UNKNOWN                                           48                          "
    ∷ []

abbrev pub Holds : Row → Type 0
Holds r = line_from r.way r.long r.message ≡ codes r.line ++ (line_feed ∷ [])

abbrev pub EachRow : Type 0
EachRow = All Holds rows
