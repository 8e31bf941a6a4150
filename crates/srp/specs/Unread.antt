-- Document 01: "Reserved bytes and bits are written 0, not read", and what else it leaves unread, type by type.
-- That these positions change no outcome is shown in proofs/Unread.antt.
use Rattle.std.specs.Prelude.{◌≡◌, Bool, true, cond, not, ℕ, ◌<◌, eqb}
use mathlib.Core.List.{List, [], ◌∷◌, Memᴰ}
use Rattle.srp.specs.Bytes.{Field, bytes, bits, get, put, type_of, bound, inside}
use Rattle.srp.specs.Messages.{out_format, in_format, out_count, in_count_lem, task_function, task_tag, tsk_mgmt, cmd, i_logout, cred_rsp}

-- of an SRP_CMD; its CDB's first bytes are handed back and not judged
abbrev pub unread_command : List Field
unread_command = bits 1 0 1 ∷ bits 1 3 5 ∷ bytes 2 3 ∷ bytes 16 4 ∷ bytes 28 3 ∷ bits 31 0 2 ∷ bytes 32 16 ∷ []

-- of an SRP_TSK_MGMT
abbrev pub unread_task : List Field
unread_task = bits 1 0 1 ∷ bits 1 3 5 ∷ bytes 2 6 ∷ bytes 16 4 ∷ bytes 28 2 ∷ bytes 31 1 ∷ bytes 40 8 ∷ []

-- of an SRP_I_LOGOUT, an SRP_CRED_RSP
abbrev pub unread_logout : List Field
unread_logout = bytes 1 15 ∷ []

abbrev pub unread_credit : List Field
unread_credit = bytes 1 7 ∷ []

-- of an SRP_LOGIN_REQ
abbrev pub unread_login : List Field
unread_login = bytes 1 7 ∷ bytes 20 4 ∷ bits 26 2 2 ∷ bits 26 6 2 ∷ bytes 27 5 ∷ bytes 32 16 ∷ []

-- ── what depends on the message

-- one field more where the test holds
abbrev pub also : Bool → Field → List Field → List Field
also b f fs = cond b (f ∷ fs) fs

-- of an SRP_CMD, by whether each format is 2: "The count is unread for 0 and 1"
abbrev pub unread_command_by : Bool → Bool → List Field
unread_command_by out inn = also (not out) out_count (also (not inn) in_count_lem unread_command)

abbrev pub unread_command_in : List ℕ → List Field
unread_command_in s = unread_command_by (eqb (get out_format s) 2) (eqb (get in_format s) 2)

-- of an SRP_TSK_MGMT, by whether its function is 01h, which alone reads the tag of the task to manage
abbrev pub unread_task_by : Bool → List Field
unread_task_by one = also (not one) task_tag unread_task

-- what the message s leaves unread
abbrev pub unread_in : List ℕ → List Field
unread_in s =
    cond (eqb (type_of s) cmd.code) (unread_command_in s)
    (cond (eqb (type_of s) tsk_mgmt.code) (unread_task_by (eqb (get task_function s) 1))
    (cond (eqb (type_of s) i_logout.code) unread_logout
    (cond (eqb (type_of s) cred_rsp.code) unread_credit [])))

-- ── changes: fields with new values

-- s with all of them, the last one made first
abbrev pub changed : List (Field × ℕ) → List ℕ → List ℕ
changed [] s = s
changed (c ∷ cs) s = put c.0 c.1 (changed cs s)

-- a change of one of the fields us, inside n bytes and below the field's bound
abbrev pub ChangeOf : List Field → ℕ → Field × ℕ → Type 0
ChangeOf us n c = Memᴰ c.0 us × (inside n c.0 ≡ true) × (c.1 < bound c.0)
