-- `transfer::hand_out` meets its contract.
use native.Mathlib.Omega.{arith}
use Rattle.words.specs.Slots.{place_at_lem}
use Rattle.transfer.proofs.Pieces.{next_fits}
use borrow.Author.Rules.{rules}
use Rattle.transfer.proofs.hand_out.Goals as goal

pub overflow_add-next : goal.overflow_add-next
overflow_add-next c =
    let a = c.args in
    let f = next_fits a.s.now a.store.now (place_at_lem a.d c.load_place-place.result) c.load_part-p.result c.in-Some.piece c.load_part-p.ensures.fits (search rules) c.next_for.ensures c.in-Some.is in
    record { fits = f.0 }

pub overflow_add-number : goal.overflow_add-number
overflow_add-number c =
    let a = c.args in
    let f = next_fits a.s.now a.store.now (place_at_lem a.d c.load_place-place.result) c.load_part-p.result c.in-Some.piece c.load_part-p.ensures.fits (search rules) c.next_for.ensures c.in-Some.is in
    record { fits = omega (arith, f) }

pub set_move-requires-clause-number_le_next : goal.set_move-requires-clause-number_le_next
set_move-requires-clause-number_le_next c =
    let a = c.args in
    let f = next_fits a.s.now a.store.now (place_at_lem a.d c.load_place-place.result) c.load_part-p.result c.in-Some.piece c.load_part-p.ensures.fits (search rules) c.next_for.ensures c.in-Some.is in
    f.1
