-- Demand 1 of the C functions.
-- Assumes nothing.
use Rattle.tables.specs.Bringing.{tables}
use Rattle.exports.specs.Arguments.{way_in}
use Rattle.demand.specs.Demand1.{Demand1InC}
use Rattle.demand.proofs.Judges.{judges_plan, judges_move, judges_add, judges_withdraw, judges_finish, judges_grant, judges_close, judges_step, judges_turn, judges_counters, judges_list, judges_look, judges_cut, judges_trace, judges_format_counts}
use Rattle.demand.proofs.JudgesTake.{judges_take}
use Rattle.demand.proofs.JudgesTables.{judges_tables}
use Rattle.demand.proofs.JudgesLogin.{judges_login}

pub demand_1_in_c : Demand1InC
demand_1_in_c =
    record {
      login = λ p q c Q id m b d w v n post. judges_login b.now q.now d.now c.now Q id.now m.now n v.now post.1;
      take = λ p q st st' m b d w v n post. judges_take p.now st.now b.now q.now st'.now d.now m.now n v.now post.1;
      tables = λ p q st st' out inn b d w v tag n post.
          judges_tables p.now st.now b.now q.now st'.now d.now tag (tables out.now inn.now) n v.now post.1;
      plan = λ p q tag out inn n post. judges_plan p.now q.now n tag out inn post.1;
      move = λ p q tag direction offset count n post. judges_move p.now q.now n tag direction offset count post.1;
      step = λ p q st w v tag direction n post. judges_step p.now q.now st.now tag direction n v.now post.1;
      turn = λ p q st w v n post. judges_turn p.now q.now st.now n v.now post.1;
      finish = λ p q e b d w v tag status n post. judges_finish p.now b.now q.now d.now n v.now tag status e.now post.1;
      add = λ p q k n post. judges_add p.now q.now n k post.1;
      withdraw = λ p q k n post. judges_withdraw p.now q.now n k post.1;
      grant = λ p q b d w v n post. judges_grant p.now b.now q.now d.now n v.now post.1;
      close = λ p q b d w v reason n post. judges_close p.now b.now q.now d.now n v.now reason post.1;
      counters = λ p w v n post. judges_counters p.now n v.now post.1;
      list = λ p before after w v n post. judges_list p.now before.now after.now n v.now post.1;
      look = λ m b d agreed formats n post. judges_look b.now d.now n agreed formats m.now post.1;
      cut = λ l b d M Q R handed n post. judges_cut b.now d.now n l.now M Q R handed post.1;
      trace = λ m b d direction n post. judges_trace b.now d.now n (way_in direction) m.now post.1;
      format_counts = λ w v formats n post. judges_format_counts formats n v.now post.1;
    }
