-- A task request's aborts and its answer.
-- Assumes nothing.
use mathlib.Core.Path.{◌≡◌, ◌∙◌, ap, subst}
use mathlib.Core.List.{List}
use Prim.Native.Nat.{ℕ}
use native.Mathlib.Omega.{arith}
use Rattle.std.specs.Prelude.{Ok}
use Rattle.srp.specs.Credit.{Port, due}
use Rattle.srp.specs.Writing.{answer, solicited}
use Rattle.srp.specs.Take.{answering, task_code}
use Rattle.srp.specs.declared.TaskRequest.{TaskRequest}
use Rattle.srp.specs.declared.Reply.TheVariants.{TaskAnswered}
use Rattle.srp.specs.declared.Answer.{Answer}
use Rattle.message.proofs.Answers.{answer_long}
use Rattle.words.specs.Head.{head_of}
use Rattle.words.specs.View.{view}
use Rattle.state.specs.Changes.{Alters, without_ended, after_use}
use Rattle.state.specs.Promises.{AnswersAs}
use Rattle.state.specs.declared.Ending.TheVariants.{Aborted}
use Rattle.state.proofs.Promises.{altered_view}
use Rattle.take.specs.Taking.{Answers, EndsTask}
use mathlib.Core.Bool.{true}

-- l₁ are the words in which its aborts are done
pub task_ends : {l l₁ l₂ b b' : List ℕ} (t : TaskRequest) {code : ℕ} {r : Answer} → (head_of l).live ≡ true → Alters l l₁ (without_ended (Aborted t)) → code ≡ task_code t.function
    → Answers l₁ b l₂ b' t.request code (Ok (TaskAnswered t.request.tag t.request.lun)) r
    → EndsTask l b l₂ b' t r
task_ends {l} {l₁} {l₂} {b} {b'} t {code} {r} live D n A st s =
    let k = t.request in
    let v = altered_view l l₁ st live D in
    let B = A st in
    let long = answer_long (solicited k code) k.tag code (due (after_use 1 (view l₁ st))) in
    let w = ap (λ (a : Answer). a.wrote) B.answer ∙ long in
    let C : AnswersAs l st b l₂ st b' r (answering (after_use 1 (view l₁ st)) (Ok (TaskAnswered k.tag k.lun)) (answer (solicited k code) k.tag code)) =
    record {
      answer = B.answer;
      port = B.port;
      buffer = B.buffer;
      raw = λ x y. let z : ⊥ = omega (arith, w, y) in absurd z;
      closed = λ o f. B.closed (ap (λ (p : Port). p.live) v ∙ o) f;
    }
    in
    subst (λ (c : ℕ). AnswersAs l st b l₂ st b' r (answering (after_use 1 (without_ended (Aborted t) (view l st))) (Ok (TaskAnswered k.tag k.lun)) (answer (solicited k c) k.tag c))) n
    (subst (λ (p : Port). AnswersAs l st b l₂ st b' r (answering (after_use 1 p) (Ok (TaskAnswered k.tag k.lun)) (answer (solicited k code) k.tag code))) v C)
