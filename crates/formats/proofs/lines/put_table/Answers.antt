-- `formats::lines::put_table` meets its contract: the head, and a line for each agreement.
use mathlib.Core.Path.{◌≡◌, ◌∙◌, ap}
use native.Mathlib.Omega.{arith}
use Rattle.text.proofs.Texts.{then, spelt}
use Rattle.formats.proofs.Columns.{upto, upto_none, upto_more, upto_all}
use Rattle.formats.proofs.lines.put_table.Goals as goal

pub loop-formats-init : goal.loop-formats-init
loop-formats-init c =
    record { put = spelt upto_none c.put_bytes-at.ensures; lines = omega (arith, c.put_bytes-at.ensures.long) }

pub loop-formats-preserved : goal.loop-formats-preserved
loop-formats-preserved c =
    record {
      put = spelt (upto_more c.loop-formats.formats-index c.loop-formats-test.true) (then c.loop-formats.invariant.put c.put_agreement-at.ensures.0);
      lines = omega (arith, c.loop-formats.invariant.lines, c.put_agreement-at.ensures.1);
    }

pub returns : goal.returns
returns c =
    let all : c.loop-formats.formats-index ≡ 4 = omega arith in
    spelt (ap upto all ∙ upto_all) c.loop-formats.invariant.put
