-- Demand 1 of `srp_target_login`: its refusals, and behind them its rejections.
-- Assumes nothing.
use mathlib.Core.Path.{◌≡◌, refl, sym, ◌∙◌, ap}
use mathlib.Core.Logic.{◌↔◌}
use mathlib.Core.List.{List}
use mathlib.Core.Option.{Option, none, some}
use Prim.Native.Nat.{ℕ}
use native.Mathlib.Omega.{arith}
use lib.ListN.{length}
use Rattle.std.specs.Prelude.{Ok}
use Rattle.srp.specs.Refusals.{first_of_checks}
use Rattle.srp.specs.Writing.{placed}
use Rattle.srp.specs.Take.{Outcome}
use Rattle.srp.specs.Login.{login_checks, rejections, judged, login_by, login_def}
use Rattle.srp.specs.Answers.{returned, answer_of}
use Rattle.srp.specs.declared.Refusal.{Refusal}
use Rattle.srp.specs.declared.Settings.{Settings}
use Rattle.srp.specs.declared.Reply.TheVariants.{Accepted, Rejected}
use Rattle.answer.specs.Words.{answer_words}
use Rattle.exports.specs.Arguments.{settings_in}
use Rattle.exports.specs.Calls.{LoginInC, LogsInC}
use Rattle.demand.specs.Replies.{reply_by, logged_in}
use Rattle.demand.specs.Judgement.{LoginRefused, LoginJudged, JudgesLogin}
use Rattle.demand.proofs.Told.{login_told, logs_in}
use Rattle.demand.proofs.Judging.{number_for, judge, comes}

module _ (c : Settings) (own s : List ℕ) where
  judged_number : (y : Option ℕ) → returned (judged y c s).reply ≡ 0
  judged_number none = refl
  judged_number (some reason) = refl

  login_number : (x : Option Refusal) → returned (login_by x c own s).reply ≡ number_for x
  login_number none = judged_number (first_of_checks (rejections c own s))
  login_number (some f) = refl

  -- a login that is judged is rejected for the first reason that fits, and else accepted
  rejected_iff : (y : Option ℕ) (reason : ℕ) → ((judged y c s).reply ≡ Ok (Rejected reason)) ↔ (y ≡ some reason)
  rejected_iff none reason = ((λ q. let z : ◌≡◌ {A = ℕ} 0 1 = cc in absurd (omega arith)), (λ q. let z : ◌≡◌ {A = ℕ} 0 1 = cc in absurd (omega arith)))
  rejected_iff (some r) reason = ((λ q. cc), (λ q. cc))

  accepted_iff : (y : Option ℕ) → ((judged y c s).reply ≡ Ok Accepted) ↔ (y ≡ none)
  accepted_iff none = ((λ q. refl), (λ q. refl))
  accepted_iff (some r) = ((λ q. let z : ◌≡◌ {A = ℕ} 0 1 = cc in absurd (omega arith)), (λ q. let z : ◌≡◌ {A = ℕ} 0 1 = cc in absurd (omega arith)))

  module _ {st l' b b' : List ℕ} {n : ℕ} {w : List ℕ} (A : LogsInC st l' b b' n w (login_def c own (length b) s)) where
    unrefused : first_of_checks (login_checks c (length b) s) ≡ none → LoginJudged c own s l' st b b' n w
    unrefused e =
        let y : Option ℕ = first_of_checks (rejections c own s) in
        let is : login_def c own (length b) s ≡ judged y c s = ap (λ (x : Option Refusal). login_by x c own s) e in
        let r : (judged y c s).reply ≡ reply_by logged_in n w =
        ap (λ (o : Outcome). o.reply) (sym is ∙ logs_in A (login_told c own (length b) s)) in
        record {
          rejects = λ reason. ((λ q. (rejected_iff y reason).0 (r ∙ q)), (λ q. sym r ∙ (rejected_iff y reason).1 q));
          accepts = ((λ q. (accepted_iff y).0 (r ∙ q)), (λ q. sym r ∙ (accepted_iff y).1 q));
          comes = comes A.numbers A.call.port A.call.buffer is;
          closed = λ reason q. A.call.closed λ a.
              let z : (judged y c s).reply ≡ Ok Accepted = sym (ap (λ (o : Outcome). o.reply) is) ∙ a in
              let k : some reason ≡ none = sym q ∙ (accepted_iff y).0 z in
              let i : ◌≡◌ {A = ℕ} 0 1 = cc in omega arith;
        }

    refused : (f : Refusal) → first_of_checks (login_checks c (length b) s) ≡ some f → LoginRefused b l' b' w
    refused f e =
        let is : login_def c own (length b) s ≡ login_by (some f) c own s = ap (λ (x : Option Refusal). login_by x c own s) e in
        record {
          words = A.numbers.words ∙ ap (λ (o : Outcome). answer_words (answer_of o)) is;
          port = A.call.closed λ a.
              let z : (login_by (some f) c own s).reply ≡ Ok Accepted = sym (ap (λ (o : Outcome). o.reply) is) ∙ a in
              let i : ◌≡◌ {A = ℕ} 0 1 = cc in omega arith;
          buffer = A.call.buffer ∙ ap (λ (o : Outcome). placed o.wrote b) is;
        }

pub judges_login : (b l' b' settings : List ℕ) (Q : ℕ) (own s : List ℕ) (n : ℕ) (w : List ℕ) → LoginInC b l' b' settings Q own s n w → JudgesLogin b l' b' settings Q own s n w
judges_login b l' b' settings Q own s n w P st =
    let c : Settings = settings_in settings Q in
    judge (login_checks c (length b) s) n _ _ ((P st).numbers.number ∙ login_number c own s (first_of_checks (login_checks c (length b) s))) (unrefused c own s (P st)) (refused c own s (P st))
