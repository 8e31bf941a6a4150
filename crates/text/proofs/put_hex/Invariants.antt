-- `text::put_hex` meets its contract: the loop's invariant is `Spelling`.
use Rattle.text.proofs.Digits.{Spelling}
use Rattle.text.proofs.put_hex.Given as goal

abbrev pub invariant-loop-i : goal.invariant-loop-i
invariant-loop-i l = Spelling l.initial.text l.at l.n l.count l.text l.i
