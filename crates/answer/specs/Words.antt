-- What the calls from C answer in words: eight for each answer, 0 where a word is not used.
use Rattle.std.specs.Prelude.{List, [], ◌∷◌, ◌++◌, map, ℕ, ◌-◌, ℤ, pos, negsuc, length, replicate, Result, Ok, Err}
use Rattle.srp.specs.Answers.{values_of}
use Rattle.srp.specs.declared.Reply.{Reply}
use Rattle.srp.specs.declared.Reply.TheVariants.{Performed, NewCommand, TaskAnswered, CreditSettled, LoggedOut, Operation, Done, Served, Idle, Accepted, Rejected, Counts, Listed}
use Rattle.srp.specs.declared.Answer.{Answer}
use Rattle.srp.specs.declared.Refusal.{Refusal}

-- what stands before a reply's values: the length of the message written, then of a take the kind of message taken; of a step or a turn 1 for an operation,
-- and for done the words of an operation, all 0, so that the number of either stands in the same word
abbrev pub leading : ℕ → Result Reply Refusal → List ℤ
leading wrote (Err f) = pos wrote ∷ []
leading wrote (Ok Performed) = pos wrote ∷ []
leading wrote (Ok (NewCommand tag lun cdb waits)) = pos wrote ∷ pos 1 ∷ []
leading wrote (Ok (TaskAnswered tag lun)) = pos wrote ∷ pos 2 ∷ []
leading wrote (Ok CreditSettled) = pos wrote ∷ pos 3 ∷ []
leading wrote (Ok LoggedOut) = pos wrote ∷ pos 4 ∷ []
leading wrote (Ok (Operation k p n)) = pos 1 ∷ []
leading wrote (Ok (Done n)) = replicate 6 (pos 0)
leading wrote (Ok (Served tag d p n)) = pos 1 ∷ []
leading wrote (Ok Idle) = []
leading wrote (Ok Accepted) = pos wrote ∷ []
leading wrote (Ok (Rejected reason)) = pos wrote ∷ []
leading wrote (Ok (Counts c)) = []
leading wrote (Ok (Listed n)) = []

-- a number as 64 bits, a negative one in two's complement
abbrev pub word : ℤ → ℕ
word (pos n) = n
word (negsuc n) = 18446744073709551615 - n

-- filled up with 0
abbrev pub eight : List ℤ → List ℕ
eight vs = map word vs ++ replicate (8 - length vs) 0

abbrev pub answer_words : Answer → List ℕ
answer_words a = eight (leading a.wrote a.reply ++ values_of a.reply)
