-- The worked inputs hold, by computing. Assumes nothing.
use Rattle.std.proofs.Common.{refl}
use Rattle.page.specs.Types.{type_named_lem}
use Rattle.trace.specs.Rows.{EachRow}

pub each_row : EachRow
unfolding type_named_lem
each_row = (refl, (refl, (refl, (refl, (refl, tt)))))
