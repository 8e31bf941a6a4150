-- `cut::locate::find_segment` meets its contract: the turns of proofs/Searching.
use Rattle.cut.proofs.Searching.{Searching}
use Rattle.cut.proofs.locate.find_segment.Given as goal

abbrev pub invariant-loop-index : goal.invariant-loop-index
invariant-loop-index l =
    Searching l.list l.offset l.index l.earlier
