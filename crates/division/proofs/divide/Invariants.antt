-- `division::divide` meets its contract: the loop's invariant is `Counting`.
use Rattle.division.proofs.Counting.{Counting}
use Rattle.division.proofs.divide.Given as goal

abbrev pub invariant-loop-byte : goal.invariant-loop-byte
invariant-loop-byte l =
    Counting l.formats l.d l.byte
