-- Document 01: "For each case of an enum answer, a definition gives this paper's number and values. The promises use that definition". The definition is
-- `returned` and `values_of` (crate srp, specs/Answers.antt), of look and the cut `look_answer` and `cut_answer` (specs/Outside.antt), of trace `trace_in_c` (crate page, specs/Page.antt),
-- of format counts `divided_number` and `divided_words` (crate division, specs/Dividing.antt).
use Rattle.std.specs.Prelude.{◌≡◌, List, ◌++◌, ℕ, ◌/◌, length, Result}
use Rattle.srp.specs.Take.{Outcome, take_def}
use Rattle.srp.specs.Answers.{returned, values_of, size_of}
use Rattle.srp.specs.declared.Reply.{Reply}
use Rattle.answer.specs.Words.{leading, eight}
use contract.Lifetimes.{Lfts}
use Rattle.srp.specs.Limits.{most_buffers}
use Rattle.srp.specs.Tables.{tables_def}
use Rattle.srp.specs.Calls.{plan_def, move_def, step_def, turn_def, finish_def, add_def, withdraw_def, grant_def, close_def, counters_def, list_def}
use Rattle.srp.specs.Login.{login_def}
use Rattle.srp.specs.Requests.{look_def}
use Rattle.srp.specs.Cutting.{cut_def}
use Rattle.srp.specs.Outside.{in_buffer, look_answer, cut_answer}
use Rattle.srp.specs.declared.Answer.{Answer}
use Rattle.srp.specs.declared.Direction.{Direction}
use Rattle.srp.specs.declared.Record.{Record}
use Rattle.srp.specs.declared.Settings.{Settings}
use Rattle.words.specs.View.{view}
use Rattle.tables.specs.Bringing.{tables as tables_of}
use Rattle.report.specs.Reports.{WritesListing}
use Rattle.report.specs.declared.Listing.{Listing}
use Rattle.page.specs.Page.{trace_in_c}
use Rattle.exports.specs.Arguments.{record_size, settings_in, direction_in, way_in}
use Rattle.exports.specs.Answered.{Answered}
use Rattle.exports.specs.Calls.{FormatCountsInC}
use Rattle.login.proofs.login.Reads as login_call
use Rattle.take.proofs.take.Reads as take_call
use Rattle.tables.proofs.bring.Reads as tables_call
use Rattle.transfer.proofs.plan.Reads as plan_call
use Rattle.transfer.proofs.name_move.Reads as move_call
use Rattle.transfer.proofs.step.Reads as step_call
use Rattle.transfer.proofs.turn.Reads as turn_call
use Rattle.finish.proofs.finish.Reads as finish_call
use Rattle.credit.proofs.add.Reads as add_call
use Rattle.credit.proofs.withdraw.Reads as withdraw_call
use Rattle.credit.proofs.grant.Reads as grant_call
use Rattle.close.proofs.close.Reads as close_call
use Rattle.report.proofs.counters.Reads as counters_call
use Rattle.report.proofs.list.Reads as list_call
use Rattle.demand.specs.Posts.{Slice, MutSlice, LoginPost, TakePost, TablesPost, PlanPost, MovePost, StepPost, TurnPost, FinishPost, AddPost, WithdrawPost, GrantPost, ClosePost, CountersPost, ListPost, LookPost, CutPost, TracePost, FormatCountsPost}
use Rattle.srp.specs.declared.Refusal.{Refusal}

-- of a call by value: the reply r has the number and the values of the outcome
pub record SaysAs (r : Result Reply Refusal) (o : Outcome) : Type 0 where
  pub number : returned r ≡ returned o.reply
  pub values : values_of r ≡ values_of o.reply

-- of a call from C: n is the number; the eight words are what `leading` says, then the values, then 0
pub record CountsAs (n : ℕ) (w : List ℕ) (o : Outcome) : Type 0 where
  pub number : n ≡ returned o.reply
  pub values : w ≡ eight (leading (size_of o.wrote) o.reply ++ values_of o.reply)

-- ── each call by value, whatever the store holds where it is not lent it

pub record EachSays : Type 0 where
  pub login : (p q : MutSlice) (κs : Lfts 4) (c : Settings) (id m : Slice) (b d : MutSlice) (a : Answer)
      → login_call.Post κs (p, (c, (id, (m, (b, tt))))) a (q, (c, (id, (m, (d, tt)))))
      → SaysAs a.reply (login_def c id.now (length b.now) m.now)
  pub take : (p q : MutSlice) (κs : Lfts 4) (s s' : MutSlice) (m : Slice) (b d : MutSlice) (a : Answer)
      → take_call.Post κs (p, (s, (m, (b, tt)))) a (q, (s', (m, (d, tt))))
      → SaysAs a.reply (take_def (view p.now s.now) (length b.now) m.now)
  pub tables : (p q : MutSlice) (κs : Lfts 5) (s s' : MutSlice) (tag : ℕ) (out inn : Slice) (b d : MutSlice) (a : Answer)
      → tables_call.Post κs (p, (s, (tag, (out, (inn, (b, tt)))))) a (q, (s', (tag, (out, (inn, (d, tt))))))
      → SaysAs a.reply (tables_def (view p.now s.now) (length b.now) tag (tables_of out.now inn.now))
  pub plan : (st : List ℕ) (p q : MutSlice) (κs : Lfts 1) (tag out inn : ℕ) (r : Result Reply Refusal)
      → plan_call.Post κs (p, (tag, (out, (inn, tt)))) r (q, (tag, (out, (inn, tt))))
      → SaysAs r (plan_def (view p.now st) tag out inn)
  pub move : (st : List ℕ) (p q : MutSlice) (κs : Lfts 1) (tag : ℕ) (d : Direction) (offset count : ℕ) (r : Result Reply Refusal)
      → move_call.Post κs (p, (tag, (d, (offset, (count, tt))))) r (q, (tag, (d, (offset, (count, tt)))))
      → SaysAs r (move_def (view p.now st) tag d offset count)
  pub step : (p q : MutSlice) (κs : Lfts 2) (s : Slice) (tag : ℕ) (d : Direction) (r : Result Reply Refusal)
      → step_call.Post κs (p, (s, (tag, (d, tt)))) r (q, (s, (tag, (d, tt))))
      → SaysAs r (step_def (view p.now s.now) tag d)
  pub turn : (p q : MutSlice) (κs : Lfts 2) (s : Slice) (r : Result Reply Refusal)
      → turn_call.Post κs (p, (s, tt)) r (q, (s, tt))
      → SaysAs r (turn_def (view p.now s.now))
  pub finish : (st : List ℕ) (p q : MutSlice) (κs : Lfts 3) (tag status : ℕ) (e : Slice) (b d : MutSlice) (a : Answer)
      → finish_call.Post κs (p, (tag, (status, (e, (b, tt))))) a (q, (tag, (status, (e, (d, tt)))))
      → SaysAs a.reply (finish_def (view p.now st) (length b.now) tag status e.now)
  pub add : (st : List ℕ) (p q : MutSlice) (κs : Lfts 1) (k : ℕ) (r : Result Reply Refusal)
      → add_call.Post κs (p, (k, tt)) r (q, (k, tt))
      → SaysAs r (add_def (view p.now st) k)
  pub withdraw : (st : List ℕ) (p q : MutSlice) (κs : Lfts 1) (k : ℕ) (r : Result Reply Refusal)
      → withdraw_call.Post κs (p, (k, tt)) r (q, (k, tt))
      → SaysAs r (withdraw_def (view p.now st) k)
  pub grant : (st : List ℕ) (p q : MutSlice) (κs : Lfts 2) (b d : MutSlice) (a : Answer)
      → grant_call.Post κs (p, (b, tt)) a (q, (d, tt))
      → SaysAs a.reply (grant_def (view p.now st) (length b.now))
  pub close : (st : List ℕ) (p q : MutSlice) (κs : Lfts 2) (reason : ℕ) (b d : MutSlice) (a : Answer)
      → close_call.Post κs (p, (reason, (b, tt))) a (q, (reason, (d, tt)))
      → SaysAs a.reply (close_def (view p.now st) (length b.now) reason)
  pub counters : (st : List ℕ) (p : Slice) (κs : Lfts 1) (r : Result Reply Refusal)
      → counters_call.Post κs (p, tt) r (p, tt)
      → SaysAs r (counters_def (view p.now st))
  pub list : (st : List ℕ) (p : Slice) (κs : Lfts 1) (g : Listing)
      → list_call.Post κs (p, tt) g (p, tt)
      → SaysAs g.reply (list_def (view p.now st) most_buffers)
  -- `WritesListing` is what the contracts of `list_into` and `lend` cite
  pub list_into_lem : (st : List ℕ) (p : Slice) (before after : List Record) (r : Result Reply Refusal)
      → WritesListing p.now before after r
      → SaysAs r (list_def (view p.now st) (length before))

-- ── each C function: plan, move, add and withdraw have a number and no values; look's and the cut's values are their 32 bytes, trace's its line

pub record EachCounts : Type 0 where
  pub login : (p q : MutSlice) (c : Slice) (Q : ℕ) (id m : Slice) (b d w v : MutSlice) (n : ℕ) → LoginPost p q c Q id m b d w v n
      → CountsAs n v.now (login_def (settings_in c.now Q) id.now (length b.now) m.now)
  pub take : (p q st st' : MutSlice) (m : Slice) (b d w v : MutSlice) (n : ℕ) → TakePost p q st st' m b d w v n
      → CountsAs n v.now (take_def (view p.now st.now) (length b.now) m.now)
  pub tables : (p q st st' : MutSlice) (out inn : Slice) (b d w v : MutSlice) (tag n : ℕ) → TablesPost p q st st' out inn b d w v tag n
      → CountsAs n v.now (tables_def (view p.now st.now) (length b.now) tag (tables_of out.now inn.now))
  pub plan : (st : List ℕ) (p q : MutSlice) (tag out inn n : ℕ) → PlanPost p q tag out inn n → n ≡ returned (plan_def (view p.now st) tag out inn).reply
  pub move : (st : List ℕ) (p q : MutSlice) (tag direction offset count n : ℕ) → MovePost p q tag direction offset count n
      → n ≡ returned (move_def (view p.now st) tag (direction_in direction) offset count).reply
  pub step : (p q : MutSlice) (st : Slice) (w v : MutSlice) (tag direction n : ℕ) → StepPost p q st w v tag direction n
      → CountsAs n v.now (step_def (view p.now st.now) tag (direction_in direction))
  pub turn : (p q : MutSlice) (st : Slice) (w v : MutSlice) (n : ℕ) → TurnPost p q st w v n → CountsAs n v.now (turn_def (view p.now st.now))
  pub finish : (st : List ℕ) (p q : MutSlice) (e : Slice) (b d w v : MutSlice) (tag status n : ℕ) → FinishPost p q e b d w v tag status n
      → CountsAs n v.now (finish_def (view p.now st) (length b.now) tag status e.now)
  pub add : (st : List ℕ) (p q : MutSlice) (k n : ℕ) → AddPost p q k n → n ≡ returned (add_def (view p.now st) k).reply
  pub withdraw : (st : List ℕ) (p q : MutSlice) (k n : ℕ) → WithdrawPost p q k n → n ≡ returned (withdraw_def (view p.now st) k).reply
  pub grant : (st : List ℕ) (p q b d w v : MutSlice) (n : ℕ) → GrantPost p q b d w v n → CountsAs n v.now (grant_def (view p.now st) (length b.now))
  pub close : (st : List ℕ) (p q b d w v : MutSlice) (reason n : ℕ) → ClosePost p q b d w v reason n → CountsAs n v.now (close_def (view p.now st) (length b.now) reason)
  pub counters : (st : List ℕ) (p : Slice) (w v : MutSlice) (n : ℕ) → CountersPost p w v n → CountsAs n v.now (counters_def (view p.now st))
  pub list : (st : List ℕ) (p : Slice) (before after w v : MutSlice) (n : ℕ) → ListPost p before after w v n
      → CountsAs n v.now (list_def (view p.now st) (length before.now / record_size))
  pub look : (m : Slice) (b d : MutSlice) (agreed formats n : ℕ) → LookPost m b d agreed formats n → Answered n b.now d.now (in_buffer (length b.now) (look_answer (look_def agreed formats m.now)))
  pub cut : (l : Slice) (b d : MutSlice) (M Q R handed n : ℕ) → CutPost l b d M Q R handed n
      → Answered n b.now d.now (in_buffer (length b.now) (cut_answer (cut_def l.now M Q R handed)))
  pub trace : (m : Slice) (b d : MutSlice) (direction n : ℕ) → TracePost m b d direction n → Answered n b.now d.now (trace_in_c (way_in direction) m.now (length b.now))
  pub format_counts : (w v : MutSlice) (formats n : ℕ) → FormatCountsPost w v formats n → FormatCountsInC formats n v.now
