-- The worked lines hold, by computing. Assumes nothing.
use mathlib.Core.Path.{refl}
use Rattle.page.specs.Types.{type_named_lem}
use Rattle.page.specs.Rows.{EachRow}

pub each_row : EachRow
unfolding type_named_lem
each_row = (refl, (refl, (refl, (refl, (refl, (refl, (refl, (refl, (refl, (refl, (refl, (refl, (refl, (refl, (refl, (refl, (refl, (refl, (refl, (refl, (refl, (refl, (refl, (refl, (refl, (refl, (refl, (refl, (refl, (refl, (refl, tt)))))))))))))))))))))))))))))))
