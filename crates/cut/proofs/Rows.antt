-- The worked searches hold, by computing. Assumes nothing.
use Rattle.std.proofs.Common.{refl}
use Rattle.cut.specs.Rows.{EachSearch}

pub each_search : EachSearch
each_search = (refl, (refl, (refl, (refl, (refl, (refl, (refl, (refl, (refl, (refl, (refl, (refl, (refl, tt)))))))))))))
