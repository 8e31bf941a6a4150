-- Demand 1, of each C function's promise: take and login are in JudgesTake and JudgesLogin.
-- Assumes nothing.
use mathlib.Core.Path.{◌≡◌, refl, ◌∙◌, ap}
use mathlib.Core.Bool.{true}
use mathlib.Core.List.{List, [], ◌∷◌}
use mathlib.Core.Option.{Option, none, some, some-ne-none}
use Prim.Native.Nat.{ℕ, ◌/◌, min}
use borrow.Author.Tests.{not-false}
use lib.ListN.{length}
use Rattle.std.specs.Prelude.{Result, Ok, Err}
use Rattle.srp.specs.Lists.{find, over}
use Rattle.srp.specs.Refusals.{first_of_checks, unless_bad}
use Rattle.srp.specs.Descriptors.{segments_of, sum_of}
use Rattle.srp.specs.Requests.{look_checks, look_outcome}
use Rattle.srp.specs.Cutting.{up_to, next, cut_next, cut_checks, cut_outcome}
use Rattle.srp.specs.Credit.{Open, Port, has_tag}
use Rattle.srp.specs.Calls.{hand_out_lem, next_of, number_in, serve, serve_first, turn_checks, plan_checks, plan_outcome, move_checks, move_outcome, step_checks, step_outcome, finish_checks, finish_outcome, add_checks, add_outcome, withdraw_checks, withdraw_outcome, grant_checks, grant_outcome, close_checks, close_outcome, counters_checks, counters_outcome, list_checks, list_outcome, records_by, records_for}
use Rattle.srp.specs.Outside.{look_in_c, look_answer, cut_in_c, cut_answer}
use Rattle.srp.specs.Answers.{returned, operation_in}
use Rattle.srp.specs.Writing.{placed}
use Rattle.srp.specs.Take.{Outcome}
use Rattle.srp.specs.declared.Refusal.{Refusal}
use Rattle.srp.specs.declared.Reply.{Reply}
use Rattle.srp.specs.declared.Reply.TheVariants.{Performed, Done, Idle}
use Rattle.srp.specs.declared.Direction.{Direction}
use Rattle.srp.specs.declared.Piece.{Piece}
use Rattle.srp.specs.declared.Place.{Place}
use Rattle.srp.proofs.Checks.{passes}
use Rattle.words.specs.View.{view}
use Rattle.page.specs.Page.{trace_line, trace_checks, trace_in_c}
use Rattle.division.specs.Dividing.{division, divide_checks, division_words, divided_number, divided_words}
use Rattle.page.specs.declared.Way.{Way}
use Rattle.exports.specs.Arguments.{record_size, all_words, direction_in}
use Rattle.exports.specs.Answered.{Answered}
use Rattle.exports.specs.Calls.{PlanInC, MoveInC, StepInC, TurnInC, FinishInC, AddInC, WithdrawInC, GrantInC, CloseInC, CountersInC, ListInC, FormatCountsInC}
use Rattle.demand.specs.Judgement.{no_words, JudgesPlan, JudgesMove, JudgesStep, JudgesTurn, JudgesFinish, JudgesAdd, JudgesWithdraw, JudgesGrant, JudgesClose, JudgesCounters, JudgesList, JudgesLook, JudgesCut, JudgesTrace, JudgesFormatCounts}
use Rattle.demand.proofs.Judging.{number_for, judge, judge_answers, judge_replies, judge_numbers, judge_steps, judge_bytes}

-- ── plan, move, add, withdraw

module _ (l l' : List ℕ) (n : ℕ) where
  pub judges_plan : (tag out inn : ℕ) → PlanInC l l' tag out inn n → JudgesPlan l l' tag out inn n
  judges_plan tag out inn P st = judge_replies (view l st) (plan_outcome (view l st) tag out inn) refl (plan_checks (view l st) tag) l st l' n (P st)

  pub judges_move : (tag direction offset count : ℕ) → MoveInC l l' tag direction offset count n → JudgesMove l l' tag direction offset count n
  judges_move tag direction offset count P st =
      let d = direction_in direction in
      judge_replies (view l st) (move_outcome (view l st) tag d offset count) refl (move_checks (view l st) tag d offset) l st l' n (P st)

  pub judges_add : (k : ℕ) → AddInC l l' k n → JudgesAdd l l' k n
  judges_add k P st = judge_replies (view l st) (add_outcome (view l st) k) refl (add_checks (view l st) k) l st l' n (P st)

  pub judges_withdraw : (k : ℕ) → WithdrawInC l l' k n → JudgesWithdraw l l' k n
  judges_withdraw k P st = judge_replies (view l st) (withdraw_outcome (view l st) k) refl (withdraw_checks (view l st) k) l st l' n (P st)

-- ── finish, grant, close

module _ (l b l' b' : List ℕ) (n : ℕ) (w : List ℕ) where
  pub judges_finish : (tag status : ℕ) (sense : List ℕ) → FinishInC l b l' b' tag status sense n w → JudgesFinish l b l' b' tag status sense n w
  judges_finish tag status sense P st =
      judge_answers (view l st) (finish_outcome (view l st) tag status sense) refl (finish_checks (view l st) (length b) tag status sense) l st b l' st b' n w (P st)

  pub judges_grant : GrantInC l b l' b' n w → JudgesGrant l b l' b' n w
  judges_grant P st = judge_answers (view l st) (grant_outcome (view l st)) refl (grant_checks (view l st) (length b)) l st b l' st b' n w (P st)

  pub judges_close : (reason : ℕ) → CloseInC l b l' b' reason n w → JudgesClose l b l' b' reason n w
  judges_close reason P st =
      let J = judge_answers (view l st) (close_outcome (view l st) reason) refl (close_checks (view l st) (length b)) l st b l' st b' n w (P st) in
      record {
        refuses = J.refuses;
        unrefused = J.unrefused;
        performs = λ e. (J.performs e, (P st).call.closed (was_open (view l st) e) (ap (λ (x : Port). x.live) (J.performs e).port));
        leaves = J.leaves;
      }
    where
      -- a channel that no check of close finds closed is open
      was_open : (p : Port) → first_of_checks (close_checks p (length b)) ≡ none → p.live ≡ true
      was_open p e = not-false p.live (passes (close_checks p (length b)) e).1.0

-- ── step and turn

pub judges_step : (l l' st : List ℕ) (tag direction n : ℕ) (w : List ℕ) → StepInC l l' st tag direction n w → JudgesStep l l' st tag direction n w
judges_step l l' st tag direction n w P =
    judge_steps (view l st) (step_outcome (view l st) tag d) (unrefused (number_in d c) (next_of (view l st).terms d c)) (step_checks (view l st) tag) l st l' n w P.steps
    (λ is h. P.done (number_in d c) (ap (λ (o : Outcome). o.reply) is ∙ done (number_in d c) (next_of (view l st).terms d c) h))
  where
    d : Direction
    d = direction_in direction

    c : Option Open
    c = find (has_tag tag) (view l st).held

    unrefused : (k : ℕ) (x : Option Piece) → returned (hand_out_lem (view l st) tag d k x).reply ≡ 0
    unrefused k none = refl
    unrefused k (some o) = refl

    -- without an operation it says done
    done : (k : ℕ) (x : Option Piece) → operation_in (hand_out_lem (view l st) tag d k x).reply ≡ none → (hand_out_lem (view l st) tag d k x).reply ≡ Ok (Done k)
    done k none h = refl
    done k (some o) h = absurd (some-ne-none _ h)

pub judges_turn : (l l' st : List ℕ) (n : ℕ) (w : List ℕ) → TurnInC l l' st n w → JudgesTurn l l' st n w
judges_turn l l' st n w P =
    judge_steps p (serve_first p p.line) (unrefused p.line) (turn_checks p) l st l' n w P.turns
    (λ is h. P.idle (ap (λ (o : Outcome). o.reply) is ∙ idle p.line h))
  where
    p : Port
    p = view l st

    one_unrefused : (x : Place) (others : List Place) (k : ℕ) (y : Option Piece) → returned (serve p x others k y).reply ≡ 0
    one_unrefused x others k none = refl
    one_unrefused x others k (some o) = refl

    unrefused : (line : List Place) → returned (serve_first p line).reply ≡ 0
    unrefused [] = refl
    unrefused (x ∷ others) = one_unrefused x others _ (next_of p.terms x.direction (find (has_tag x.tag) p.held))

    -- without an operation it says idle
    one_idle : (x : Place) (others : List Place) (k : ℕ) (y : Option Piece) → operation_in (serve p x others k y).reply ≡ none → (serve p x others k y).reply ≡ Ok Idle
    one_idle x others k none h = refl
    one_idle x others k (some o) h = absurd (some-ne-none _ h)

    idle : (line : List Place) → operation_in (serve_first p line).reply ≡ none → (serve_first p line).reply ≡ Ok Idle
    idle [] h = refl
    idle (x ∷ others) h = one_idle x others _ (next_of p.terms x.direction (find (has_tag x.tag) p.held)) h

-- ── counters and listing

pub judges_counters : (l : List ℕ) (n : ℕ) (w : List ℕ) → CountersInC l n w → JudgesCounters l n w
judges_counters l n w P st = judge_numbers (view l st) (counters_outcome (view l st)) refl (counters_checks (view l st)) n w (P st)

pub judges_list : (l before after : List ℕ) (n : ℕ) (w : List ℕ) → ListInC l before after n w → JudgesList l before after n w
judges_list l before after n w P st =
    let J = judge_numbers (view l st) (list_outcome (view l st)) refl (list_checks (view l st) (length before / record_size)) n w (P st).numbers in
    record {
      refuses = J.refuses;
      unrefused = J.unrefused;
      performs = λ e. (J.performs e, (P st).records ∙ by_check e);
      leaves = λ f e. (J.leaves f e, (P st).records ∙ by_check e);
    }
  where
    by_check : {x : Option Refusal} → first_of_checks (list_checks (view l st) (length before / record_size)) ≡ x
        → over (all_words (records_for (view l st) (length before / record_size))) before ≡ over (all_words (records_by x (view l st))) before
    by_check e = ap (λ (y : Option Refusal). over (all_words (records_by y (view l st))) before) e

-- ── look and the cut

module _ (b b' : List ℕ) (n : ℕ) where
  pub judges_look : (agreed formats : ℕ) (s : List ℕ) → Answered n b b' (look_in_c agreed formats s (length b)) → JudgesLook agreed formats s b b' n
  judges_look agreed formats s A =
      judge_bytes (λ x. look_answer (unless_bad x (Ok (look_outcome s)))) (λ f. refl) refl
      (look_checks agreed formats s) (length b) n b b' A

  pub judges_cut : (list : List ℕ) (M Q R handed : ℕ) → Answered n b b' (cut_in_c list M Q R handed (length b)) → JudgesCut list M Q R handed b b' n
  judges_cut list M Q R handed A =
      judge_bytes (λ x. cut_answer (unless_bad x (Ok (cut_outcome list M Q R handed)))) (λ f. refl)
      (unrefused (next (up_to M Q) handed (min R (sum_of (segments_of list))) (segments_of list))) (cut_checks list M Q R handed) (length b) n b b' A
    where
      unrefused : (x : Option Piece) → (cut_answer (Ok (cut_next x))).returns ≡ 0
      unrefused none = refl
      unrefused (some o) = refl

-- ── trace

module _ (b b' : List ℕ) (n : ℕ) where
  pub judges_trace : (w : Way) (s : List ℕ) → Answered n b b' (trace_in_c w s (length b)) → JudgesTrace w s b b' n
  judges_trace w s A =
      judge (trace_checks (length b)) n (b' ≡ placed (trace_line w s ∷ []) b) (λ f. b' ≡ b) (A.number ∙ number (first_of_checks (trace_checks (length b))))
      (λ e. A.buffer ∙ ap wrote e)
      (λ f e. A.buffer ∙ ap wrote e)
    where
      wrote : Option Refusal → List ℕ
      wrote x = placed (elim x as (λ _. List (List ℕ)) [ none ↦ trace_line w s ∷ [] | some f ↦ [] ]) b

      number : (x : Option Refusal) → returned (elim x as (λ _. Result Reply Refusal) [ none ↦ Ok Performed | some f ↦ Err f ]) ≡ number_for x
      number none = refl
      number (some f) = refl

-- ── how format bytes divide

pub judges_format_counts : (formats n : ℕ) (w : List ℕ) → FormatCountsInC formats n w → JudgesFormatCounts formats n w
judges_format_counts formats n w C =
    judge (divide_checks formats) n (w ≡ division_words (division formats)) (λ f. w ≡ no_words) (C.number ∙ number (first_of_checks (divide_checks formats)))
    (λ e. C.words ∙ ap words e)
    (λ f e. C.words ∙ ap words e)
  where
    words : Option Refusal → List ℕ
    words x = divided_words (unless_bad x (Ok (division formats)))

    number : (x : Option Refusal) → divided_number (unless_bad x (Ok (division formats))) ≡ number_for x
    number none = refl
    number (some f) = refl
