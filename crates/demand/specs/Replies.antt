-- What a call from C says: the reply that the number returned and the eight words of the answer stand for, and the message in the lent buffer.
use Rattle.std.specs.Prelude.{cond, List, [], ◌∷◌, ℕ, zero, suc, eqb, get_or, take, Result, Ok, Err}
use Rattle.std.proofs.Math.Option.{Option, none, some}
use Rattle.srp.specs.Refusals.{refusal_numbered}
use Rattle.srp.specs.Cutting.{piece}
use Rattle.srp.specs.declared.Direction.TheVariants.{Out, In}
use Rattle.srp.specs.declared.Refusal.{Refusal}
use Rattle.srp.specs.declared.Kind.TheVariants.{Read, Write}
use Rattle.srp.specs.declared.Reply.{Reply}
use Rattle.srp.specs.declared.Reply.TheVariants.{Performed, NewCommand, TaskAnswered, CreditSettled, LoggedOut, Operation, Done, Served, Idle, Accepted, Rejected}

abbrev pub refused_or : Option Refusal → Reply → Result Reply Refusal
refused_or none r = Ok r
refused_or (some f) r = Err f

-- where n is a refusal's number, that refusal; else what the words w say, as `said` reads them
abbrev pub reply_by : (said : List ℕ → Reply) (n : ℕ) (w : List ℕ) → Result Reply Refusal
reply_by said n w = refused_or (refusal_numbered n) (said w)

-- ── the words of each call

-- tables, plan, move, finish, add, withdraw, grant, close: none but the length of the message
abbrev pub performed : List ℕ → Reply
performed w = Performed

-- take: behind that length 1 for a command, with tag, LUN, the place of its CDB and its length, and 1 where it waits for its tables; 2 for a task request,
-- with tag and LUN; 3 for a credit response, 4 for a logout
abbrev pub taken : List ℕ → Reply
taken w =
    cond (eqb (get_or w 1 0) 1) (NewCommand (get_or w 2 0) (get_or w 3 0) (get_or w 5 0) (eqb (get_or w 6 0) 1))
    (cond (eqb (get_or w 1 0) 2) (TaskAnswered (get_or w 2 0) (get_or w 3 0))
    (cond (eqb (get_or w 1 0) 3) CreditSettled LoggedOut))

-- step: 1 for an operation, with its kind (1 RDMA Read, 2 RDMA Write), handle, address, length and offset; 0 for done; with either the number handed out
-- for the current move
abbrev pub stepped : List ℕ → Reply
stepped w =
    cond (eqb (get_or w 0 0) 1)
    (Operation (cond (eqb (get_or w 1 0) 1) Read Write) (piece (get_or w 3 0) (get_or w 2 0) (get_or w 4 0) (get_or w 5 0)) (get_or w 6 0))
    (Done (get_or w 6 0))

-- turn: 1 for an operation, with the words of step's, whose kind tells the direction, and behind its number the tag; 0 for idle
abbrev pub turned : List ℕ → Reply
turned w =
    cond (eqb (get_or w 0 0) 1)
    (Served (get_or w 7 0) (cond (eqb (get_or w 1 0) 1) Out In) (piece (get_or w 3 0) (get_or w 2 0) (get_or w 4 0) (get_or w 5 0)) (get_or w 6 0))
    Idle

-- login: behind the message's length the reason of a rejection, 0 where it is accepted
abbrev pub logged_in : List ℕ → Reply
logged_in w = cond (eqb (get_or w 1 0) 0) Accepted (Rejected (get_or w 1 0))

-- ── the message

-- the first n bytes of the buffer that the call left; none where n is 0
abbrev pub written : ℕ → List ℕ → List (List ℕ)
written zero b = []
written (suc n) b = take (suc n) b ∷ []

-- with the length in the answer's first word
abbrev pub message_in : (w b : List ℕ) → List (List ℕ)
message_in w b = written (get_or w 0 0) b
