-- Document 01: "For each case of an enum answer, a definition gives this paper's number and values". Those of look and the cut are the 32 bytes of
-- specs/Outside.antt.
use Rattle.std.specs.Prelude.{List, [], ◌∷◌, ℕ, ℤ, pos, length, Result, Ok, Err}
use Rattle.std.proofs.Math.Option.{Option, none, some}
use Rattle.srp.specs.Bytes.{bit}
use Rattle.srp.specs.Messages.{cmd}
use Rattle.srp.specs.Refusals.{number_of}
use Rattle.srp.specs.Take.{Outcome}
use Rattle.srp.specs.Calls.{kind_of}
use Rattle.srp.specs.declared.Refusal.{Refusal}
use Rattle.srp.specs.declared.Kind.{Kind}
use Rattle.srp.specs.declared.Kind.TheVariants.{Read, Write}
use Rattle.srp.specs.declared.Piece.{Piece}
use Rattle.srp.specs.declared.Reply.{Reply}
use Rattle.srp.specs.declared.Reply.TheVariants.{Performed, NewCommand, TaskAnswered, CreditSettled, LoggedOut, Operation, Done, Served, Idle, Accepted, Rejected, Counts, Listed}
use Rattle.srp.specs.declared.Answer.{Answer}

-- an RDMA Read is 1, an RDMA Write 2
abbrev pub kind_number_lem : Kind → ℕ
kind_number_lem Read = 1
kind_number_lem Write = 2

-- what a reply says: the operation that a step or a turn hands out; and its values, in document 01's order
pub record Said : Type 0 where
  pub operation : Option Piece
  pub values : List ℤ

abbrev pub saying : List ℤ → Said
saying vs = record { operation = none; values = vs }

abbrev pub said_by : Reply → Said
said_by Performed = saying []
-- tag, LUN, the CDB's place in the message and its length, 1 where it waits for its tables
said_by (NewCommand tag lun cdb waits) = saying (pos tag ∷ pos lun ∷ pos cmd.size ∷ pos cdb ∷ pos (bit waits) ∷ [])
said_by (TaskAnswered tag lun) = saying (pos tag ∷ pos lun ∷ [])
said_by CreditSettled = saying []
said_by LoggedOut = saying []
-- kind, handle, address, length, offset in the buffer, and the number handed out so far for the move
said_by (Operation k o n) =
    record {
      operation = some o;
      values = pos (kind_number_lem k) ∷ pos o.handle ∷ pos o.address ∷ pos o.len ∷ pos o.offset ∷ pos n ∷ [];
    }
said_by (Done n) = saying (pos n ∷ [])
-- the same, and its command's tag; the kind tells the direction
said_by (Served tag d o n) =
    record {
      operation = some o;
      values = pos (kind_number_lem (kind_of d)) ∷ pos o.handle ∷ pos o.address ∷ pos o.len ∷ pos o.offset ∷ pos n ∷ pos tag ∷ [];
    }
said_by Idle = saying []
said_by Accepted = saying []
said_by (Rejected reason) = saying (pos reason ∷ [])
-- W, A, H, D
said_by (Counts c) = saying (pos c.wanted ∷ pos c.announced ∷ pos c.held ∷ c.owed ∷ [])
-- the number of records
said_by (Listed n) = saying (pos n ∷ [])

-- the refusal, if a call answers one; the operation and the values of a reply, none of a refusal
abbrev pub refusal_in : Result Reply Refusal → Option Refusal
refusal_in (Ok r) = none
refusal_in (Err f) = some f

abbrev pub operation_in : Result Reply Refusal → Option Piece
operation_in (Ok r) = (said_by r).operation
operation_in (Err f) = none

abbrev pub values_of : Result Reply Refusal → List ℤ
values_of (Ok r) = (said_by r).values
values_of (Err f) = []

-- the number that a call returns: the refusal's, 0 where there is none
abbrev pub returned : Result Reply Refusal → ℕ
returned r = elim (refusal_in r) [ none ↦ 0 | some f ↦ number_of f ]

-- the length of the message written
abbrev pub size_of : List (List ℕ) → ℕ
size_of [] = 0
size_of (s ∷ ss) = length s

-- what a call with a lent buffer answers
abbrev pub answer_of : Outcome → Answer
answer_of o = record { reply = o.reply; wrote = size_of o.wrote }

-- a refusal without a message
abbrev pub refusing : Refusal → Answer
refusing f = record { reply = Err f; wrote = 0 }
