-- Messages of an initiator as the layouts and as document 01's text have them, and the answers with their numbers and values.
use Rattle.std.specs.Prelude.{true, List, [], ◌∷◌, ℕ, ℤ, pos, negsuc, replicate, Result, Ok, Err}
use Rattle.srp.specs.Cutting.{piece}
use Rattle.srp.specs.declared.Direction.TheVariants.{Out, In}
use Rattle.srp.specs.declared.Kind.TheVariants.{Read, Write}
use Rattle.srp.specs.declared.Refusal.TheVariants.{TagOpen}
use Rattle.srp.specs.declared.Reply.{Reply}
use Rattle.srp.specs.declared.Reply.TheVariants.{Performed, NewCommand, TaskAnswered, CreditSettled, LoggedOut, Operation, Done, Served, Idle, Accepted, Rejected, Counts, Listed}
use Rattle.srp.specs.Bytes.{number, write}
use Rattle.srp.specs.Messages
use Rattle.srp.specs.Messages.{login_req, tsk_mgmt, i_logout, cred_rsp}
use Rattle.srp.specs.Rows.{tag_only, login_req_lem, own, tsk_mgmt_lem}
use Rattle.srp.specs.declared.Refusal.{Refusal}

-- ── the initiator's layouts

-- each written by its layout, and byte by byte
abbrev pub written_by_layout : List (List ℕ)
written_by_layout =
    write login_req (77 ∷ 1364 ∷ 6 ∷ 1 ∷ 0 ∷ 2 ∷ number 0 (replicate 16 5) ∷ number 0 own ∷ [])
    ∷ write tsk_mgmt (1 ∷ 0 ∷ 0x0102030405060708 ∷ 0x1112131415161718 ∷ 0x21 ∷ 0x3132333435363738 ∷ [])
    ∷ write Messages.cmd (0 ∷ 1 ∷ 2 ∷ 1 ∷ 3 ∷ 4 ∷ 0x0102030405060708 ∷ 0x1112131415161718 ∷ 5 ∷ 1 ∷ [])
    ∷ write i_logout (0x0102030405060708 ∷ [])
    ∷ write cred_rsp (0x0102030405060708 ∷ [])
    ∷ []

abbrev pub written_by_hand : List (List ℕ)
written_by_hand =
    login_req_lem 1364 6 0x22 own
    ∷ tsk_mgmt_lem 4 0x0102030405060708 0x1112131415161718 0x21 0x3132333435363738
    ∷ (0x02 ∷ 0x02 ∷ 0 ∷ 0 ∷ 0 ∷ 0x21 ∷ 3 ∷ 4 ∷ 1 ∷ 2 ∷ 3 ∷ 4 ∷ 5 ∷ 6 ∷ 7 ∷ 8 ∷ 0 ∷ 0 ∷ 0 ∷ 0 ∷ 0x11 ∷ 0x12 ∷ 0x13 ∷ 0x14 ∷ 0x15 ∷ 0x16 ∷ 0x17 ∷ 0x18 ∷ 0 ∷ 5 ∷ 0 ∷ 4 ∷ [])
    ∷ tag_only 0x03 0x0102030405060708
    ∷ tag_only 0x41 0x0102030405060708
    ∷ []

-- ── the answers' numbers and values

abbrev pub answers : List (Result Reply Refusal)
answers =
    Err TagOpen
    ∷ Ok Performed
    ∷ Ok (NewCommand 9 5 20 true)
    ∷ Ok (TaskAnswered 9 5)
    ∷ Ok CreditSettled
    ∷ Ok LoggedOut
    ∷ Ok (Operation Read (piece 0x1000 7 512 1024) 3)
    ∷ Ok (Operation Write (piece 0x1000 7 512 1024) 3)
    ∷ Ok (Done 4)
    ∷ Ok (Served 9 Out (piece 0x1000 7 512 1024) 3)
    ∷ Ok (Served 9 In (piece 0x1000 7 512 1024) 4)
    ∷ Ok Idle
    ∷ Ok Accepted
    ∷ Ok (Rejected 0x10003)
    ∷ Ok (Counts (record { wanted = 1; announced = 2; held = 2; owed = negsuc 2 }))
    ∷ Ok (Listed 3)
    ∷ []

abbrev pub answer_values : List (ℕ × List ℤ)
answer_values =
    (23, [])
    ∷ (0, [])
    ∷ (0, pos 9 ∷ pos 5 ∷ pos 32 ∷ pos 20 ∷ pos 1 ∷ [])
    ∷ (0, pos 9 ∷ pos 5 ∷ [])
    ∷ (0, [])
    ∷ (0, [])
    ∷ (0, pos 1 ∷ pos 7 ∷ pos 0x1000 ∷ pos 512 ∷ pos 1024 ∷ pos 3 ∷ [])
    ∷ (0, pos 2 ∷ pos 7 ∷ pos 0x1000 ∷ pos 512 ∷ pos 1024 ∷ pos 3 ∷ [])
    ∷ (0, pos 4 ∷ [])
    ∷ (0, pos 1 ∷ pos 7 ∷ pos 0x1000 ∷ pos 512 ∷ pos 1024 ∷ pos 3 ∷ pos 9 ∷ [])
    ∷ (0, pos 2 ∷ pos 7 ∷ pos 0x1000 ∷ pos 512 ∷ pos 1024 ∷ pos 4 ∷ pos 9 ∷ [])
    ∷ (0, [])
    ∷ (0, [])
    ∷ (0, pos 0x10003 ∷ [])
    ∷ (0, pos 1 ∷ pos 2 ∷ pos 2 ∷ negsuc 2 ∷ [])
    ∷ (0, pos 3 ∷ [])
    ∷ []
