-- `transfer::begin` meets its contract.
use mathlib.Core.Path.{◌∙◌, ap}
use Prim.Native.Nat.{ℕ, ◌+◌, min}
use lib.ListN.{get_or}
use Rattle.words.specs.Slots.{slots, no_slot}
use Rattle.transfer.proofs.Pieces.{named_open}
use Rattle.transfer.proofs.Handing.{begun_empty, begun}
use Rattle.transfer.proofs.begin.Goals as goal

pub returns-then-end-offset : goal.returns-then-end-offset
returns-then-end-offset c =
    let a = c.args in
    let P = c.load_part-p.ensures in
    let to = c.min-end.result in
    begun_empty c.requires.found_at c.requires.s_value a.d a.offset a.count P c.requires.no_slot_value c.requires.no_slot_value_2 (rw c.min-movable.ensures at c.if-movable-offset.false) to c.if-t.false c.set_move.ensures
    (λ st. named_open st (get_or (slots a.s.now) a.i no_slot) a.d P.whole a.offset a.count (c.min-end.ensures ∙ ap (λ (k : ℕ). min (a.offset + a.count) k) c.min-movable.ensures)) c.if-end-offset.true

pub returns : goal.returns
returns c =
    let a = c.args in
    let P = c.load_part-p.ensures in
    let to = c.min-end.result in
    begun c.requires.found_at c.requires.s_value a.d a.offset a.count P c.requires.no_slot_value c.requires.no_slot_value_2 (rw c.min-movable.ensures at c.if-movable-offset.false) to c.if-t.false c.set_move.ensures
    (λ st. named_open st (get_or (slots a.s.now) a.i no_slot) a.d P.whole a.offset a.count (c.min-end.ensures ∙ ap (λ (k : ℕ). min (a.offset + a.count) k) c.min-movable.ensures)) c.if-end-offset.false c.join.ensures
