-- The layouts of the ten messages: document 01's "Requests", "What the port writes" and "Login", from source document 000.
-- Each field has one name wherever it stands at one place. What is not named here is reserved.
use Rattle.std.specs.Prelude.{List, [], ◌∷◌, ◌++◌}
use Rattle.srp.specs.Bytes.{Field, bytes, bits, Layout}

-- ── fields of several messages

abbrev pub tag : Field
tag = bytes 8 8

abbrev pub lun : Field
lun = bytes 20 8

abbrev pub ucsolnt : Field
ucsolnt = bits 1 2 1

abbrev pub scsolnt : Field
scsolnt = bits 1 1 1

-- SOLNT of a response, CRSOLNT of a credit request, LOSOLNT of a logout
abbrev pub solnt : Field
solnt = bits 1 0 1

-- the request limit delta; in SRP_LOGIN_RSP it is N
abbrev pub delta : Field
delta = bytes 4 4

-- why a login is rejected, or the channel closed
abbrev pub reason : Field
reason = bytes 4 4

-- the formats that a login requires, or that a port supports
abbrev pub format_bits : Field
format_bits = bytes 24 2

-- ── from the initiator

-- SRP_LOGIN_REQ
abbrev pub requested_length : Field
requested_length = bytes 16 4

abbrev pub login_crsolnt : Field
login_crsolnt = bits 26 5 1

abbrev pub login_losolnt : Field
login_losolnt = bits 26 4 1

abbrev pub channel_action : Field
channel_action = bits 26 0 2

abbrev pub initiator_identifier : Field
initiator_identifier = bytes 32 16

abbrev pub target_identifier : Field
target_identifier = bytes 48 16

abbrev pub login_req : Layout
login_req =
    record {
      code = 0x00;
      size = 64;
      fields = tag ∷ requested_length ∷ format_bits ∷ login_crsolnt ∷ login_losolnt ∷ channel_action ∷ initiator_identifier ∷ target_identifier ∷ [];
    }

-- SRP_TSK_MGMT
abbrev pub task_function : Field
task_function = bytes 30 1

abbrev pub task_tag : Field
task_tag = bytes 32 8

abbrev pub tsk_mgmt : Layout
tsk_mgmt = record { code = 0x01; size = 48; fields = ucsolnt ∷ scsolnt ∷ tag ∷ lun ∷ task_function ∷ task_tag ∷ [] }

-- SRP_CMD, up to byte 31. From byte 32 the CDB follows, 16 + 4n bytes with n the additional CDB length, then the two descriptors
abbrev pub out_format : Field
out_format = bits 5 4 4

abbrev pub in_format : Field
in_format = bits 5 0 4

abbrev pub out_count : Field
out_count = bytes 6 1

abbrev pub in_count_lem : Field
in_count_lem = bytes 7 1

-- the task attribute, which the port does not read
abbrev pub attribute : Field
attribute = bytes 29 1

-- n
abbrev pub additional : Field
additional = bits 31 2 6

abbrev pub cmd : Layout
cmd =
    record {
      code = 0x02;
      size = 32;
      fields = ucsolnt ∷ scsolnt ∷ out_format ∷ in_format ∷ out_count ∷ in_count_lem ∷ tag ∷ lun ∷ attribute ∷ additional ∷ [];
    }

-- SRP_I_LOGOUT, SRP_CRED_RSP
abbrev pub i_logout : Layout
i_logout = record { code = 0x03; size = 16; fields = tag ∷ [] }

abbrev pub cred_rsp : Layout
cred_rsp = record { code = 0x41; size = 16; fields = tag ∷ [] }

-- ── from the port

-- SRP_LOGIN_RSP: the longest message each way
abbrev pub longest_taken : Field
longest_taken = bytes 16 4

abbrev pub longest_written : Field
longest_written = bytes 20 4

abbrev pub solntsup : Field
solntsup = bits 26 4 1

abbrev pub login_rsp : Layout
login_rsp = record { code = 0xc0; size = 52; fields = delta ∷ tag ∷ longest_taken ∷ longest_written ∷ format_bits ∷ solntsup ∷ [] }

-- SRP_LOGIN_REJ
abbrev pub login_rej : Layout
login_rej = record { code = 0xc2; size = 32; fields = reason ∷ tag ∷ format_bits ∷ [] }

-- SRP_RSP, up to byte 35; response bytes and sense follow
abbrev pub rspvalid : Field
rspvalid = bits 18 0 1

abbrev pub snsvalid : Field
snsvalid = bits 18 1 1

abbrev pub doover : Field
doover = bits 18 2 1

abbrev pub dounder : Field
dounder = bits 18 3 1

abbrev pub diover : Field
diover = bits 18 4 1

abbrev pub diunder : Field
diunder = bits 18 5 1

abbrev pub status : Field
status = bytes 19 1

abbrev pub out_residual : Field
out_residual = bytes 20 4

abbrev pub in_residual : Field
in_residual = bytes 24 4

abbrev pub sense_length : Field
sense_length = bytes 28 4

abbrev pub response_length : Field
response_length = bytes 32 4

abbrev pub rsp : Layout
rsp =
    record {
      code = 0xc1;
      size = 36;
      fields =
          solnt ∷ delta ∷ tag ∷ rspvalid ∷ snsvalid ∷ doover ∷ dounder ∷ diover ∷ diunder ∷ status ∷ out_residual ∷ in_residual ∷ sense_length
          ∷ response_length ∷ [];
    }

-- SRP_CRED_REQ, SRP_T_LOGOUT
abbrev pub cred_req : Layout
cred_req = record { code = 0x81; size = 16; fields = solnt ∷ delta ∷ tag ∷ [] }

abbrev pub t_logout : Layout
t_logout = record { code = 0x80; size = 16; fields = solnt ∷ reason ∷ tag ∷ [] }

-- ── all of them

abbrev pub initiator_layouts : List Layout
initiator_layouts = login_req ∷ tsk_mgmt ∷ cmd ∷ i_logout ∷ cred_rsp ∷ []

abbrev pub port_layouts : List Layout
port_layouts = login_rsp ∷ login_rej ∷ rsp ∷ cred_req ∷ t_logout ∷ []

abbrev pub layouts : List Layout
layouts = initiator_layouts ++ port_layouts

-- ── a memory descriptor, and what follows it in a table descriptor

abbrev pub address : Field
address = bytes 0 8

abbrev pub handle : Field
handle = bytes 8 4

-- a segment's length, or that of a table
abbrev pub segment_length : Field
segment_length = bytes 12 4

abbrev pub total_length_lem : Field
total_length_lem = bytes 16 4

abbrev pub memory_descriptor : List Field
memory_descriptor = address ∷ handle ∷ segment_length ∷ []

-- a table descriptor and the total length, before the copies
abbrev pub table_descriptor : List Field
table_descriptor = address ∷ handle ∷ segment_length ∷ total_length_lem ∷ []
