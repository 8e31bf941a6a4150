-- Demand 3, of the C functions: of every list of events that follows an accepted login, and what the owner then reads.
use Rattle.std.specs.Prelude.{◌≡◌, List, ◌∷◌, map, ℕ, ◌/◌, ◌≤◌, length, replicate, Ok}
use Rattle.srp.specs.Limits.{most_buffers}
use Rattle.srp.specs.Lists.{over}
use Rattle.srp.specs.Credit.{owed}
use Rattle.srp.specs.declared.Settings.{Settings}
use Rattle.srp.specs.declared.Reply.TheVariants.{Accepted, Counts}
use Rattle.machine.specs.Machine.{shown_as, Machine, start, requests_held, Login, login_of}
use Rattle.machine.specs.Events.{Event}
use Rattle.machine.specs.Demand.{counted, Now, Run, Fair, Demand}
use Rattle.answer.specs.Words.{answer_words}
use Rattle.exports.specs.Arguments.{record_size, all_words, settings_in}
use Rattle.demand.specs.Posts.{Slice, MutSlice, CountersPost, ListPost}
use Rattle.demand.specs.Calls.{Memory, seen, LoggedIn, Call}

-- what is claimed of every run: the login with these settings, Q and this message was accepted and left the words p, and each call is made on the words and
-- the store that the last one left; `store` is whatever the owner lent
abbrev pub OfRuns : (Claim : (L : Login) (s : Memory) (m : Machine) (es : List Event) → Run L seen Call s m es → Type 0)
    → (settings : List ℕ) (Q : ℕ) (own msg : List ℕ) (room : ℕ) (ss : List (List ℕ)) (p store : List ℕ) → Type 0
OfRuns Claim settings Q own msg room ss p store =
    LoggedIn settings Q own msg room (Ok Accepted) ss p
    → let c : Settings = settings_in settings Q in
    let L : Login = login_of c msg in
    let s : Memory = record { words = p; store = store } in
    (es : List Event) (run : Run L seen Call s (start c.buffers) es) → Fair L seen Call s (start c.buffers) es run → Claim L s (start c.buffers) es run

abbrev pub Holds : (settings : List ℕ) (Q : ℕ) (own msg : List ℕ) (room : ℕ) (ss : List (List ℕ)) (p store : List ℕ) → Type 0
Holds settings Q own msg room ss p store = OfRuns (λ L s m es run. Demand L seen Call s m es run) settings Q own msg room ss p store

-- what the counters answer, the number n and the words w: "W, A, H and D", the first three as the machine has counted them
abbrev pub Reports : (L : Login) (m : Machine) (s : Memory) (n : ℕ) (w : List ℕ) → Type 0
Reports L m s n w = (n ≡ 0) × (w ≡ answer_words (record { reply = Ok (Counts (counted L m (owed (seen s)))); wrote = 0 }))

-- what the listing answers and leaves of the lent words, where they have room for 16 records: "each command once", as many as the machine holds, as its own list
-- has them, "the rest of the list untouched"
abbrev pub Lists : (m : Machine) (before after : List ℕ) (n : ℕ) (w : List ℕ) → Type 0
Lists m before after n w =
    most_buffers ≤ length before / record_size
    → (n ≡ 0) × (w ≡ requests_held m ∷ replicate 7 0) × (after ≡ over (all_words (map shown_as m.work.tracks)) before)

-- ── demand 3, whole; of the listing and the counters, wherever `Now` holds of the machine and the words p

pub record Demand3InC : Type 0 where
  pub holds : (settings : List ℕ) (Q : ℕ) (own msg : List ℕ) (room : ℕ) (ss : List (List ℕ)) (p store : List ℕ) → Holds settings Q own msg room ss p store
  pub reports : (L : Login) (m : Machine) (s : Memory) → Now L m (seen s) → (p : Slice) (w v : MutSlice) (n : ℕ) → p.now ≡ s.words → CountersPost p w v n → Reports L m s n v.now
  pub lists : (L : Login) (m : Machine) (s : Memory) → Now L m (seen s) → (p : Slice) (before after w v : MutSlice) (n : ℕ) → p.now ≡ s.words → ListPost p before after w v n
      → Lists m before.now after.now n v.now
