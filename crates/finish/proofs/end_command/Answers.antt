-- `finish::end_command` meets its contract.
use mathlib.Core.Path.{◌≡◌, refl, sym, ◌∙◌, ap}
use mathlib.Core.Bool.{true}
use mathlib.Core.List.{List, [], ◌∷◌}
use mathlib.Core.Option.{Option, some}
use Prim.Native.Nat.{ℕ}
use native.Mathlib.Omega.{arith}
use Rattle.std.specs.Prelude.{Ok}
use Rattle.srp.specs.Lists.{find}
use Rattle.srp.specs.Credit.{Open, Port, due, has_tag}
use Rattle.srp.specs.Writing.{placed}
use Rattle.srp.specs.Take.{answering}
use Rattle.srp.specs.Calls.{final_response}
use Rattle.srp.specs.declared.Reply.TheVariants.{Performed}
use Rattle.words.specs.Head.{head_of}
use Rattle.words.specs.View.{open_of, view}
use Rattle.state.specs.Changes.{Alters, without_ended}
use Rattle.state.specs.declared.Ending.TheVariants.{Finished}
use Rattle.state.proofs.Promises.{answers_by, altered_view, found_slot}
use Rattle.state.proofs.Answering.{unused, answered}
use Rattle.finish.proofs.Endings.{response_is, response_long}
use Rattle.finish.proofs.end_command.Goals as goal

pub returns : goal.returns
returns c =
    λ st.
    let a = c.args in
    let l = a.s.now in
    let x = open_of st c.load-c.result in
    let p : Port = without_ended (Finished a.tag) (view l st) in
    let live : (head_of l).live ≡ true = c.requires.s_value in
    let A : Alters l c.drop_commands.new.s (without_ended (Finished a.tag)) = c.drop_commands.ensures in
    let f : find (has_tag a.tag) (view l st).held ≡ some x =
    found_slot c.requires.found_at live st c.load-c.ensures in
    answers_by (ap (λ (o : Option Open). answering p (Ok Performed) (final_response o a.status a.sense.now)) f)
    (answered {p = p} (Ok Performed) (final_response (some x) a.status a.sense.now) (altered_view l c.drop_commands.new.s st live A) (unused p) refl (A.live ∙ live) c.settle-delta.ensures
    (c.put_response.ensures ∙ ap (λ (m : List ℕ). placed (m ∷ []) a.buf.now) (response_is c.load-c.result a.status c.settle-delta.result a.sense.now st c.header-h.result c.header-h.ensures))
    (ap (λ (n : ℕ). record { reply = Ok Performed; wrote = n }) (sym (response_long x a.status a.sense.now (due p))))
    (rw (response_long x a.status a.sense.now (due p)) (omega arith)))
