-- Demand 1, whole: of each C function that makes checks, of every call that was made of it by its own contract.
use Rattle.std.specs.Prelude.{ℕ}
use Rattle.tables.specs.Bringing.{tables as tables_of}
use Rattle.exports.specs.Arguments.{way_in}
use Rattle.demand.specs.Posts.{Slice, MutSlice, LoginPost, TakePost, TablesPost, PlanPost, MovePost, StepPost, TurnPost, FinishPost, AddPost, WithdrawPost, GrantPost, ClosePost, CountersPost, ListPost, LookPost, CutPost, TracePost, FormatCountsPost}
use Rattle.demand.specs.Judgement.{JudgesTake, JudgesTables, JudgesLogin, JudgesPlan, JudgesMove, JudgesStep, JudgesTurn, JudgesFinish, JudgesAdd, JudgesWithdraw, JudgesGrant, JudgesClose, JudgesCounters, JudgesList, JudgesLook, JudgesCut, JudgesTrace, JudgesFormatCounts}

pub record Demand1InC : Type 0 where
  pub login : (p q : MutSlice) (c : Slice) (Q : ℕ) (id m : Slice) (b d w v : MutSlice) (n : ℕ) → LoginPost p q c Q id m b d w v n
      → JudgesLogin b.now q.now d.now c.now Q id.now m.now n v.now
  pub take : (p q st st' : MutSlice) (m : Slice) (b d w v : MutSlice) (n : ℕ) → TakePost p q st st' m b d w v n
      → JudgesTake p.now st.now b.now q.now st'.now d.now m.now n v.now
  pub tables : (p q st st' : MutSlice) (out inn : Slice) (b d w v : MutSlice) (tag n : ℕ) → TablesPost p q st st' out inn b d w v tag n
      → JudgesTables p.now st.now b.now q.now st'.now d.now tag (tables_of out.now inn.now) n v.now
  pub plan : (p q : MutSlice) (tag out inn n : ℕ) → PlanPost p q tag out inn n → JudgesPlan p.now q.now tag out inn n
  pub move : (p q : MutSlice) (tag direction offset count n : ℕ) → MovePost p q tag direction offset count n → JudgesMove p.now q.now tag direction offset count n
  pub step : (p q : MutSlice) (st : Slice) (w v : MutSlice) (tag direction n : ℕ) → StepPost p q st w v tag direction n → JudgesStep p.now q.now st.now tag direction n v.now
  pub turn : (p q : MutSlice) (st : Slice) (w v : MutSlice) (n : ℕ) → TurnPost p q st w v n → JudgesTurn p.now q.now st.now n v.now
  pub finish : (p q : MutSlice) (e : Slice) (b d w v : MutSlice) (tag status n : ℕ) → FinishPost p q e b d w v tag status n
      → JudgesFinish p.now b.now q.now d.now tag status e.now n v.now
  pub add : (p q : MutSlice) (k n : ℕ) → AddPost p q k n → JudgesAdd p.now q.now k n
  pub withdraw : (p q : MutSlice) (k n : ℕ) → WithdrawPost p q k n → JudgesWithdraw p.now q.now k n
  pub grant : (p q b d w v : MutSlice) (n : ℕ) → GrantPost p q b d w v n → JudgesGrant p.now b.now q.now d.now n v.now
  pub close : (p q b d w v : MutSlice) (reason n : ℕ) → ClosePost p q b d w v reason n → JudgesClose p.now b.now q.now d.now reason n v.now
  pub counters : (p : Slice) (w v : MutSlice) (n : ℕ) → CountersPost p w v n → JudgesCounters p.now n v.now
  pub list : (p : Slice) (before after w v : MutSlice) (n : ℕ) → ListPost p before after w v n → JudgesList p.now before.now after.now n v.now
  pub look : (m : Slice) (b d : MutSlice) (agreed formats n : ℕ) → LookPost m b d agreed formats n → JudgesLook agreed formats m.now b.now d.now n
  pub cut : (l : Slice) (b d : MutSlice) (M Q R handed n : ℕ) → CutPost l b d M Q R handed n → JudgesCut l.now M Q R handed b.now d.now n
  pub trace : (m : Slice) (b d : MutSlice) (direction n : ℕ) → TracePost m b d direction n → JudgesTrace (way_in direction) m.now b.now d.now n
  pub format_counts : (w v : MutSlice) (formats n : ℕ) → FormatCountsPost w v formats n → JudgesFormatCounts formats n v.now
