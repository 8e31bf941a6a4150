-- Each call's number and values, from its own contract: by value, and from C.
-- Assumes nothing.
use mathlib.Core.Path.{◌≡◌, ap}
use mathlib.Core.List.{List, []}
use Prim.Native.Nat.{ℕ}
use Rattle.std.specs.Prelude.{Result}
use Rattle.srp.specs.Take.{Outcome}
use Rattle.srp.specs.Answers.{returned, values_of, answer_of}
use Rattle.srp.specs.declared.Answer.{Answer}
use Rattle.srp.specs.declared.Reply.{Reply}
use Rattle.exports.specs.Calls.{InC}
use Rattle.demand.specs.Numbered.{SaysAs, CountsAs, EachSays, EachCounts}
use Rattle.srp.specs.declared.Refusal.{Refusal}

-- a reply that is the outcome's
says : {r : Result Reply Refusal} {o : Outcome} → r ≡ o.reply → SaysAs r o
says e = record { number = ap (λ (x : Result Reply Refusal). returned x) e; values = ap (λ (x : Result Reply Refusal). values_of x) e }

answers : {a : Answer} {o : Outcome} → a ≡ answer_of o → SaysAs a.reply o
answers e = says (ap (λ (x : Answer). x.reply) e)

counts : {n : ℕ} {w : List ℕ} {o : Outcome} → InC n w o → CountsAs n w o
counts N = record { number = N.number; values = N.words }

pub each_says : EachSays
each_says =
    record {
      login = λ p q κs c id m b d a post. answers (post []).answer;
      take = λ p q κs s s' m b d a post. answers post.answers.answer;
      tables = λ p q κs s s' tag out inn b d a post. answers post.answers.answer;
      plan = λ st p q κs tag out inn r post. says (post st).reply;
      move = λ st p q κs tag d offset count r post. says (post st).reply;
      step = λ p q κs s tag d r post. says post.replies.reply;
      turn = λ p q κs s r post. says post.replies.reply;
      finish = λ st p q κs tag status e b d a post. answers (post st).answer;
      add = λ st p q κs k r post. says (post st).reply;
      withdraw = λ st p q κs k r post. says (post st).reply;
      grant = λ st p q κs b d a post. answers (post st).answer;
      close = λ st p q κs reason b d a post. answers (post st).answer;
      counters = λ st p κs r post. says (post st);
      list = λ st p κs g post. says (post st).reply;
      list_into_lem = λ st p before after r post. says (post st).reply;
    }

pub each_counts : EachCounts
each_counts =
    record {
      login = λ p q c Q id m b d w v n post. counts (post.1 []).numbers;
      take = λ p q st st' m b d w v n post. counts post.1.answers.numbers;
      tables = λ p q st st' out inn b d w v tag n post. counts post.1.answers.numbers;
      plan = λ st p q tag out inn n post. (post.1 st).number;
      move = λ st p q tag direction offset count n post. (post.1 st).number;
      step = λ p q st w v tag direction n post. counts post.1.steps.numbers;
      turn = λ p q st w v n post. counts post.1.turns.numbers;
      finish = λ st p q e b d w v tag status n post. counts (post.1 st).numbers;
      add = λ st p q k n post. (post.1 st).number;
      withdraw = λ st p q k n post. (post.1 st).number;
      grant = λ st p q b d w v n post. counts (post.1 st).numbers;
      close = λ st p q b d w v reason n post. counts (post.1 st).numbers;
      counters = λ st p w v n post. counts (post.1 st);
      list = λ st p before after w v n post. counts (post.1 st).numbers;
      look = λ m b d agreed formats n post. post.1;
      cut = λ l b d M Q R handed n post. post.1;
      trace = λ m b d direction n post. post.1;
      format_counts = λ w v formats n post. post.1;
    }
