-- A call was made: the contract of the C function (specs/Posts.antt) holds of what it was given, what it returned and what it left. The reply is what the
-- number and the words say, the message stands in the lent buffer. p and q are the lent words before and after, st and st' the store, b and d the message
-- buffer, w and v the answer.
use Rattle.std.specs.Prelude.{◌≡◌, List, [], ◌∷◌, ℕ, length, Result, Ok}
use Rattle.srp.specs.Credit.{Port}
use Rattle.srp.specs.Take.{Tables}
use Rattle.srp.specs.declared.Direction.{Direction}
use Rattle.srp.specs.declared.Reply.{Reply}
use Rattle.srp.specs.declared.Reply.TheVariants.{Performed}
use Rattle.machine.specs.Machine.{Machine}
use Rattle.machine.specs.Events.{Event, sends, delivers, takes, brings, plans, names, steps, turns, finishes, adds, withdraws, grants}
use Rattle.words.specs.View.{view}
use Rattle.tables.specs.Bringing.{tables}
use Rattle.exports.specs.Arguments.{direction_in}
use Rattle.demand.specs.Posts.{Slice, MutSlice, LoginPost, TakePost, TablesPost, PlanPost, MovePost, StepPost, TurnPost, FinishPost, AddPost, WithdrawPost, GrantPost, ClosePost}
use Rattle.demand.specs.Replies.{reply_by, performed, taken, stepped, turned, logged_in, message_in}
use Rattle.srp.specs.declared.Refusal.{Refusal}

-- what the owner keeps of a port: its words and its store
pub record Memory : Type 0 where
  pub words : List ℕ
  pub store : List ℕ

abbrev pub seen : Memory → Port
seen s = view s.words s.store

-- a lent buffer of `room` bytes, b before the call and d after it, the words v and the number n: the reply r that they say, as `said` reads it, and the
-- messages ss in the buffer
pub record Gave (said : List ℕ → Reply) (room : ℕ) (b d v : List ℕ) (n : ℕ) (r : Result Reply Refusal) (ss : List (List ℕ)) : Type 0 where
  pub room_is : length b ≡ room
  pub reply : reply_by said n v ≡ r
  pub wrote : message_in v d ≡ ss

-- ── login, with the five settings as numbers, and Q; p are the words that it left, r its reply, ss what it wrote

pub record LoggedIn (settings : List ℕ) (Q : ℕ) (own msg : List ℕ) (room : ℕ) (r : Result Reply Refusal) (ss : List (List ℕ)) (p : List ℕ) : Type 0 where
  pub before : MutSlice
  pub after : MutSlice
  pub c : Slice
  pub id : Slice
  pub m : Slice
  pub b : MutSlice
  pub d : MutSlice
  pub w : MutSlice
  pub v : MutSlice
  pub n : ℕ
  pub settings_are : c.now ≡ settings
  pub own_is : id.now ≡ own
  pub message : m.now ≡ msg
  pub post : LoginPost before after c Q id m b d w v n
  pub gave : Gave logged_in room b.now d.now v.now n r ss
  pub words : after.now ≡ p

-- ── the calls with a lent message buffer

pub record Took (s : Memory) (room : ℕ) (msg : List ℕ) (r : Result Reply Refusal) (ss : List (List ℕ)) (s' : Memory) : Type 0 where
  pub p : MutSlice
  pub q : MutSlice
  pub st : MutSlice
  pub st' : MutSlice
  pub m : Slice
  pub b : MutSlice
  pub d : MutSlice
  pub w : MutSlice
  pub v : MutSlice
  pub n : ℕ
  pub words : p.now ≡ s.words
  pub store : st.now ≡ s.store
  pub message : m.now ≡ msg
  pub post : TakePost p q st st' m b d w v n
  pub gave : Gave taken room b.now d.now v.now n r ss
  pub words' : q.now ≡ s'.words
  pub store' : st'.now ≡ s'.store

-- the tables t for the command with the tag
pub record Brought (s : Memory) (room tag : ℕ) (t : Tables) (r : Result Reply Refusal) (ss : List (List ℕ)) (s' : Memory) : Type 0 where
  pub p : MutSlice
  pub q : MutSlice
  pub st : MutSlice
  pub st' : MutSlice
  pub out : Slice
  pub inn : Slice
  pub b : MutSlice
  pub d : MutSlice
  pub w : MutSlice
  pub v : MutSlice
  pub n : ℕ
  pub words : p.now ≡ s.words
  pub store : st.now ≡ s.store
  pub lent : tables out.now inn.now ≡ t
  pub post : TablesPost p q st st' out inn b d w v tag n
  pub gave : Gave performed room b.now d.now v.now n r ss
  pub words' : q.now ≡ s'.words
  pub store' : st'.now ≡ s'.store

-- finish, grant, close: Post is the function's contract
pub record WithMessage (s : Memory) (room : ℕ) (Post : (p q b d w v : MutSlice) (n : ℕ) → Type 0) (r : Result Reply Refusal) (ss : List (List ℕ)) (s' : Memory) : Type 0 where
  pub p : MutSlice
  pub q : MutSlice
  pub b : MutSlice
  pub d : MutSlice
  pub w : MutSlice
  pub v : MutSlice
  pub n : ℕ
  pub words : p.now ≡ s.words
  pub post : Post p q b d w v n
  pub gave : Gave performed room b.now d.now v.now n r ss
  pub words' : q.now ≡ s'.words
  pub store' : s.store ≡ s'.store

abbrev pub Finished : Memory → (room tag status : ℕ) → List ℕ → Result Reply Refusal → List (List ℕ) → Memory → Type 0
Finished s room tag status sense = WithMessage s room λ p q b d w v n. (e : Slice) × (e.now ≡ sense) × FinishPost p q e b d w v tag status n

abbrev pub Granted : Memory → (room : ℕ) → Result Reply Refusal → List (List ℕ) → Memory → Type 0
Granted s room = WithMessage s room GrantPost

abbrev pub Ended : Memory → (room reason : ℕ) → Result Reply Refusal → List (List ℕ) → Memory → Type 0
Ended s room reason = WithMessage s room λ p q b d w v n. ClosePost p q b d w v reason n

-- ── the calls without one

-- plan, move, add, withdraw: there are no words either
pub record WithoutMessage (s : Memory) (Post : (p q : MutSlice) (n : ℕ) → Type 0) (r : Result Reply Refusal) (ss : List (List ℕ)) (s' : Memory) : Type 0 where
  pub p : MutSlice
  pub q : MutSlice
  pub n : ℕ
  pub words : p.now ≡ s.words
  pub post : Post p q n
  pub reply : reply_by performed n [] ≡ r
  pub wrote : [] ≡ ss
  pub words' : q.now ≡ s'.words
  pub store' : s.store ≡ s'.store

abbrev pub Planned : Memory → (tag out inn : ℕ) → Result Reply Refusal → List (List ℕ) → Memory → Type 0
Planned s tag out inn = WithoutMessage s λ p q n. PlanPost p q tag out inn n

-- the direction as a number
abbrev pub Named : Memory → (tag : ℕ) → Direction → (offset count : ℕ) → Result Reply Refusal → List (List ℕ) → Memory → Type 0
Named s tag d offset count = WithoutMessage s λ p q n. (k : ℕ) × (direction_in k ≡ d) × MovePost p q tag k offset count n

abbrev pub Added : Memory → (k : ℕ) → Result Reply Refusal → List (List ℕ) → Memory → Type 0
Added s k = WithoutMessage s λ p q n. AddPost p q k n

abbrev pub Withdrew : Memory → (k : ℕ) → Result Reply Refusal → List (List ℕ) → Memory → Type 0
Withdrew s k = WithoutMessage s λ p q n. WithdrawPost p q k n

pub record Stepped (s : Memory) (tag : ℕ) (direction : Direction) (r : Result Reply Refusal) (ss : List (List ℕ)) (s' : Memory) : Type 0 where
  pub p : MutSlice
  pub q : MutSlice
  pub st : Slice
  pub w : MutSlice
  pub v : MutSlice
  pub k : ℕ
  pub n : ℕ
  pub words : p.now ≡ s.words
  pub store : st.now ≡ s.store
  pub direction_is : direction_in k ≡ direction
  pub post : StepPost p q st w v tag k n
  pub reply : reply_by stepped n v.now ≡ r
  pub wrote : [] ≡ ss
  pub words' : q.now ≡ s'.words
  pub store' : s.store ≡ s'.store

pub record Turned (s : Memory) (r : Result Reply Refusal) (ss : List (List ℕ)) (s' : Memory) : Type 0 where
  pub p : MutSlice
  pub q : MutSlice
  pub st : Slice
  pub w : MutSlice
  pub v : MutSlice
  pub n : ℕ
  pub words : p.now ≡ s.words
  pub store : st.now ≡ s.store
  pub post : TurnPost p q st w v n
  pub reply : reply_by turned n v.now ≡ r
  pub wrote : [] ≡ ss
  pub words' : q.now ≡ s'.words
  pub store' : s.store ≡ s'.store

-- no call is made: sending and delivering do not touch the port, and with an empty queue no take happens
pub record Untouched (s : Memory) (r : Result Reply Refusal) (ss : List (List ℕ)) (s' : Memory) : Type 0 where
  pub reply : Ok Performed ≡ r
  pub wrote : [] ≡ ss
  pub same : s ≡ s'

-- ── the call that an event makes

abbrev pub TookFront : Memory → ℕ → List (List ℕ) → Result Reply Refusal → List (List ℕ) → Memory → Type 0
TookFront s room [] r ss s' = Untouched s r ss s'
TookFront s room (msg ∷ rest) r ss s' = Took s room msg r ss s'

-- on s with the machine m it replied r, wrote ss and left s'
abbrev pub Call : Memory → Machine → Event → Result Reply Refusal → List (List ℕ) → Memory → Type 0
Call s m (sends x) r ss s' = Untouched s r ss s'
Call s m delivers r ss s' = Untouched s r ss s'
Call s m (takes room) r ss s' = TookFront s room m.wire.to_port r ss s'
Call s m (brings room tag t) r ss s' = Brought s room tag t r ss s'
Call s m (plans tag out inn) r ss s' = Planned s tag out inn r ss s'
Call s m (names tag d offset count) r ss s' = Named s tag d offset count r ss s'
Call s m (steps tag d) r ss s' = Stepped s tag d r ss s'
Call s m turns r ss s' = Turned s r ss s'
Call s m (finishes room tag status sense) r ss s' = Finished s room tag status sense r ss s'
Call s m (adds k) r ss s' = Added s k r ss s'
Call s m (withdraws k) r ss s' = Withdrew s k r ss s'
Call s m (grants room) r ss s' = Granted s room r ss s'
