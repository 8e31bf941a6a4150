-- `close::log_out` meets its contract: the words are cleared, and the logout is written with the head's LOSOLNT.
use mathlib.Core.Path.{refl, sym, ◌∙◌, ap}
use mathlib.Core.Bool.{Bool}
use mathlib.Core.List.{[], ◌∷◌}
use native.Mathlib.Omega.{arith}
use Rattle.srp.specs.Writing.{target_logout, placed}
use Rattle.words.specs.View.{view}
use Rattle.words.proofs.Ports.{closed_view}
use Rattle.state.proofs.Promises.{wrote_closed}
use Rattle.state.proofs.Opened.{losolnt_is}
use Rattle.close.specs.Closing.{logged_out}
use Rattle.close.proofs.log_out.Goals as goal

pub returns : goal.returns
returns c =
    let a = c.args in
    λ st.
    wrote_closed {o = logged_out a.reply a.reason (view a.s.now st)} refl (closed_view c.clear.new.s st c.clear.ensures)
    (c.put_logout.ensures ∙ ap (λ (x : Bool). placed (target_logout x a.reason ∷ []) a.buf.now) (sym (losolnt_is c.get_head.ensures st c.requires.s_value)))
    (omega arith) c.clear.ensures
