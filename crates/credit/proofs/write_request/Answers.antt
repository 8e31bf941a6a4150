-- `credit::write_request` meets its contract.
use mathlib.Core.Path.{◌≡◌, refl, sym, ◌∙◌, ap}
use mathlib.Core.Bool.{Bool, true}
use mathlib.Core.List.{[], ◌∷◌}
use native.Mathlib.Omega.{arith}
use Rattle.std.specs.Prelude.{Ok}
use Rattle.srp.specs.Credit.{Port, with_unanswered}
use Rattle.srp.specs.Writing.{credit_request, placed}
use Rattle.srp.specs.declared.Reply.TheVariants.{Performed}
use Rattle.words.specs.Head.{head_of}
use Rattle.words.specs.View.{view}
use Rattle.words.proofs.Ports.{while_open}
use Rattle.state.specs.Changes.{Alters}
use Rattle.state.proofs.Promises.{altered_view}
use Rattle.state.proofs.Answering.{unused, answered}
use Rattle.credit.proofs.write_request.Goals as goal

pub returns : goal.returns
returns c =
    λ st.
    let a = c.args in
    let l = a.s.now in
    let live : (head_of l).live ≡ true = c.requires.s_value in
    let A : Alters l c.set_unanswered.new.s (λ p. with_unanswered p true) = c.set_unanswered.ensures in
    let x : a.crsolnt ≡ (view l st).terms.crsolnt = c.requires.crsolnt_value ∙ ap (λ (p : Port). p.terms.crsolnt) (sym (while_open l st live)) in
    answered {p = with_unanswered (view l st) true} (Ok Performed) (credit_request (view l st).terms.crsolnt)
    (altered_view l c.set_unanswered.new.s st live A) (unused (with_unanswered (view l st) true)) refl (A.live ∙ live) c.settle-delta.ensures
    (c.put_credit_request.ensures ∙ ap (λ (b : Bool). placed (credit_request b c.settle-delta.result ∷ []) a.buf.now) x) refl (omega arith)
