-- `finish::header` meets its contract.
use Rattle.srp.specs.declared.Direction.TheVariants.{Out, In}
use Rattle.words.specs.Slots.{place_for_lem}
use Rattle.words.specs.View.{open_of}
use Rattle.finish.proofs.Endings.{final_by_lem}
use Rattle.finish.proofs.header.Goals as goal

pub returns : goal.returns
returns c =
    let a = c.args in
    λ st sense. final_by_lem (open_of st a.c) a.status a.delta sense c.solicited.ensures (c.residual.ensures st (place_for_lem Out a.c)) (c.residual-2.ensures st (place_for_lem In a.c))
