-- `tables::end_bad` meets its contract.
use mathlib.Core.Path.{refl, sym, ◌∙◌, ap}
use mathlib.Core.List.{[], ◌∷◌}
use mathlib.Core.Option.{Option}
use Prim.Native.Nat.{ℕ}
use native.Mathlib.Omega.{arith}
use lib.ListN.{get_or}
use Rattle.std.specs.Prelude.{Err}
use Rattle.srp.specs.Credit.{Open, Port, due}
use Rattle.srp.specs.Writing.{answer, placed}
use Rattle.srp.specs.Take.{answering}
use Rattle.srp.specs.Tables.{bad_response}
use Rattle.srp.specs.declared.Refusal.TheVariants.{Fields}
use Rattle.srp.specs.declared.Request.{Request}
use Rattle.words.specs.Slots.{slots, no_slot}
use Rattle.words.specs.View.{open_of, view}
use Rattle.message.proofs.Answers.{answer_long}
use Rattle.state.specs.Changes.{without_ended}
use Rattle.state.specs.declared.Ending.TheVariants.{Finished}
use Rattle.state.proofs.Promises.{answers_by, altered_view, found_first}
use Rattle.state.proofs.Answering.{unused, answered}
use Rattle.tables.proofs.end_bad.Goals as goal

pub returns : goal.returns
returns c =
    λ st.
    let a = c.args in
    let l = a.s.now in
    let x = (open_of st (get_or (slots l) a.i no_slot)).request in
    let p : Port = without_ended (Finished a.q.tag) (view l st) in
    let live = c.requires.s_value in
    let A = c.drop_commands.ensures in
    let n = answer_long x.ucsolnt x.tag 2 (due p) in
    answers_by (ap (λ (o : Option Open). answering p (Err Fields) (bad_response o)) (found_first c.requires.found_at live st))
    (answered {p = p} (Err Fields) (answer x.ucsolnt x.tag 2) (altered_view l c.drop_commands.new.s st live A) (unused p) refl (A.live ∙ live) c.settle-delta.ensures
    (c.put_answer.ensures ∙ ap (λ (r : Request). placed (answer r.ucsolnt r.tag 2 c.settle-delta.result ∷ []) a.buf.now) c.requires.q_value)
    (ap (λ (k : ℕ). record { reply = Err Fields; wrote = k }) (sym n)) (omega arith))
