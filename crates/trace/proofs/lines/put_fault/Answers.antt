-- `trace::lines::put_fault` meets its contract: its four parts, one behind the other.
use Rattle.std.proofs.Common.{arith}
use Rattle.text.proofs.Digits.{decimal_few}
use Rattle.text.proofs.Texts.{then}
use Rattle.trace.proofs.Ends.{words_short}
use Rattle.trace.proofs.lines.put_fault.Goals as goal

pub put_byte-requires : goal.put_byte-requires
put_byte-requires c =
    omega (arith, c.put_bytes-number_at.ensures.long, c.put_decimal-words_at.ensures.long, c.put_words-end.ensures.long, decimal_few c.args.number, words_short c.args.fault)

pub returns : goal.returns
returns c =
    then c.put_bytes-number_at.ensures (then c.put_decimal-words_at.ensures (then c.put_words-end.ensures c.put_byte.ensures))
