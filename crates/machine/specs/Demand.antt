-- Demand 3, of lists of events: what holds at the start and after every event, and of each event with its call's reply and message. The customer's
-- words stand beside each part. The theorem is proofs/Demand.antt.
use Rattle.std.specs.Prelude.{◌≡◌, ◌↔◌, ◌⊎◌, Bool, true, false, ◌||◌, List, [], ◌∷◌, map, ℕ, zero, suc, ◌+◌, ◌-◌, ◌≤◌, ℤ, pos, ◌+ℤ◌, length, take, Result, Ok, Err}
use Rattle.std.proofs.Math.Option.{some}
use Rattle.std.proofs.Math.IntN.{sub_ℕ}
use Rattle.std.proofs.Math.ListN.{get_elem?}
use Rattle.srp.specs.Limits.{most_buffers, most_moves}
use Rattle.srp.specs.Bytes.{type_of}
use Rattle.srp.specs.Refusals.{first_of_checks}
use Rattle.srp.specs.Lists.{All, is_some}
use Rattle.srp.specs.Both.{Each}
use Rattle.srp.specs.Cutting.{cuts_of}
use Rattle.srp.specs.Moves.{CutAsMove}
use Rattle.srp.specs.Credit.{Distinct, Port, rule_of, owed}
use Rattle.srp.specs.Line.{in_line, Lined}
use Rattle.srp.specs.declared.Terms.{Terms}
use Rattle.srp.specs.Calls.{listing, list_def, counters_def}
use Rattle.srp.specs.declared.Refusal.{Refusal}
use Rattle.srp.specs.declared.Reply.{Reply}
use Rattle.srp.specs.declared.Reply.TheVariants.{Counts, Listed}
use Rattle.srp.specs.declared.Counters.{Counters}
use Rattle.srp.specs.declared.Place.{Place}
use Rattle.machine.specs.Machine.{is_response, is_credit_request, delta_of_lem, deltas, Progress, Track, shown_as, Machine, requests_held, four, lack, unused, wanted_by, tracked, oldest_first, join, Login}
use Rattle.machine.specs.Actions.{Action}
use Rattle.machine.specs.Operations.{whole_of, pieces_left, Serves}
use Rattle.machine.specs.Events.{Event, is_turn, action_of, after, closes}

-- what holds until the channel closes: "Closing ends the list"
abbrev pub Until : Bool → Type 0 → Type 0
Until true X = Unit {0}
Until false X = X

-- what an event brings for a move that n turns for others may come before: a turn serves it or, where n is not 0, another; any other event lets it leave the line
-- or wait on
abbrev pub AtTurn : (is_turn : Bool) → (n : ℕ) → (served left : Type 0) → (waits : ℕ → Type 0) → Type 0
AtTurn true zero served left waits = served
AtTurn true (suc n) served left waits = served ⊎ waits n
AtTurn false n served left waits = left ⊎ waits n

-- ── of a track

-- "Each command's operations in a direction are, in order, the first of those"
abbrev pub Prefix : Terms → Progress → Type 0
Prefix T g = g.operations ≡ take (length g.operations) (whole_of T g)

abbrev pub InOrder : Terms → Track → Type 0
InOrder T t = Each (Prefix T) t.sides

-- the cuts of each move that was named: 1 to M long, crossing no multiple of Q, as long as possible, inside one segment, consecutive, the move's bytes, once
abbrev pub EachCut : Terms → Progress → Type 0
EachCut T g = All (λ m. CutAsMove T.maximum T.boundary m.from m.to g.segs (cuts_of (rule_of T) m.from m.to g.segs)) g.moves

abbrev pub CutAsNamed : Terms → Track → Type 0
CutAsNamed T t = Each (EachCut T) t.sides

module _ (L : Login) where
  -- "limit + requests on the way + requests held + deltas on the way + owed = N + added - withdrawn", in the integers
  abbrev pub Sum : Machine → ℤ → Type 0
  Sum m d = pos (four m) +ℤ d ≡ sub_ℕ (L.buffers + m.added) m.withdrawn

  -- "Each response or credit request that is written lifts the first four together by exactly what they lack of the right side, by 0 if
  -- nothing"; m is the machine after the call's endings, ss what the call wrote
  abbrev pub ByLack : Machine → List ℕ → Type 0
  ByLack m s = (is_response s || is_credit_request s) ≡ true → delta_of_lem s ≡ lack L.buffers m

  -- `by_lack` asks it of the port; `rises` says that the four do rise by the deltas written
  pub record Lift (m : Machine) (ss : List (List ℕ)) : Type 0 where
    pub by_lack : All (ByLack m) ss
    pub rises : four (join m ss) ≡ four m + deltas ss

  -- what the owner reads: W, A and H as the machine has counted them, and D
  abbrev pub counted : Machine → ℤ → Counters
  counted m d = record { wanted = wanted_by L.buffers m; announced = unused m; held = requests_held m; owed = d }

  -- what holds at the start and after every event, while the channel is open. "Owed is the D that the port reports"; "Requests held = taken -
  -- ended = commands open; H says so, and as many are listed after each call"; the listing's records are those of the machine's own list, waiting or not,
  -- with its own h, and stand as their commands were taken
  pub record Now (m : Machine) (p : Port) : Type 0 where
    pub sum : Sum m (owed p)
    pub reports : (counters_def p).reply ≡ Ok (Counts (counted m (owed p)))
    pub commands : m.work.taken ≡ m.work.ended + length m.work.tracks
    pub lists : (list_def p most_buffers).reply ≡ Ok (Listed (requests_held m))
    pub listed : listing p ≡ map shown_as m.work.tracks
    pub oldest_first_lem : map (λ r. r.tag) (listing p) ≡ oldest_first (λ tag. is_some (tracked m tag)) m.work.tags
    pub distinct : Distinct m.work.tracks
    -- the line is each move with pieces, once; "The line has at most 32 moves"
    pub lined : Lined (pieces_left L.terms) m.work.tracks m.work.line
    pub line_short : length m.work.line ≤ most_moves
    pub in_order : All (InOrder L.terms) m.work.tracks
    pub moves : All (CutAsNamed L.terms) m.work.tracks

  -- what holds of an event whose call gave the reply r and wrote ss
  pub record Then (m : Machine) (a : Action) (r : Result Reply Refusal) (ss : List (List ℕ)) : Type 0 where
    pub lift : Lift (a.effect m r) ss
    -- so a finished command, a task and refusal 10 have their response, a grant its request, and the channel closes just where document 01 has it
    pub wrote : map type_of ss ≡ a.writes m r
    -- "Calls are refused just where document 01 has it"
    pub refuses : (f : Refusal) → (r ≡ Err f) ↔ (first_of_checks (a.checks m) ≡ some f)
    pub answer : a.answer m r ss

  -- S is what the code keeps of a port, and Call s m e r ss s' says that the event's call, made on s, gave r, wrote ss and left s'
  module _ {S : Type 0} (view : S → Port) (Call : S → Machine → Event → Result Reply Refusal → List (List ℕ) → S → Type 0) where
    -- an event's call on s: its reply, what it wrote and what it left, and how the list goes on from there
    pub record Going (s : S) (m : Machine) (e : Event) (Rest : S → Machine → Type 0) : Type 0 where
      pub reply : Result Reply Refusal
      pub wrote : List (List ℕ)
      pub left : S
      pub made : Call s m e reply wrote left
      pub rest : Rest left (after L m e reply wrote)

    -- "Each call gets the port that the last one returned, refused or not"
    abbrev pub Run : S → Machine → List Event → Type 0
    Run s m [] = Unit {0}
    Run s m (e ∷ es) = Going s m e (λ s' m'. Run s' m' es)

    abbrev pub Fair : (s : S) (m : Machine) (es : List Event) → Run s m es → Type 0
    Fair s m [] run = Unit {0}
    Fair s m (e ∷ es) run =
        (action_of L e).allowed m
        × Until (closes L m e run.reply run.wrote) (Fair run.left (after L m e run.reply run.wrote) es run.rest)

    -- demand 3, "claimed once, of the whole list"
    abbrev pub Demand : (s : S) (m : Machine) (es : List Event) → Run s m es → Type 0
    Demand s m [] run = Now m (view s)
    Demand s m (e ∷ es) run =
        Now m (view s)
        × Then m (action_of L e) run.reply run.wrote
        × Until (closes L m e run.reply run.wrote) (Demand run.left (after L m e run.reply run.wrote) es run.rest)

    -- each call is equal to its definition
    abbrev pub Meets : Type 0
    Meets = (s : S) (m : Machine) (e : Event) (r : Result Reply Refusal) (ss : List (List ℕ)) (s' : S)
        → Call s m e r ss s' → (action_of L e).call (view s) m ≡ record { reply = r; port = view s'; wrote = ss }

    -- ── "a move in it is served within 32 of these calls unless it has left the line before, for every list of other calls between"

    -- the move x is served after at most n turns for others, unless it leaves the line before or the list ends
    abbrev pub ServedWithin : (x : Place) (n : ℕ) (s : S) (m : Machine) (es : List Event) → Run s m es → Type 0
    ServedWithin x n s m [] run = Unit {0}
    ServedWithin x n s m (e ∷ es) run =
        let m' : Machine = after L m e run.reply run.wrote in
        Until (closes L m e run.reply run.wrote)
        (AtTurn (is_turn e) n (Serves L.terms m x run.reply) (in_line x m'.work.line ≡ false) (λ k. ServedWithin x k run.left m' es run.rest))

    -- of the moves in the line at one moment: each after as many turns as stand before it, so within 32
    pub record Attends (s : S) (m : Machine) (es : List Event) (run : Run s m es) : Type 0 where
      pub in_place : (x : Place) (k : ℕ) → get_elem? m.work.line k ≡ some x → ServedWithin x k s m es run
      pub within_32 : (x : Place) → in_line x m.work.line ≡ true → ServedWithin x (most_moves - 1) s m es run

    -- at the start and after every event
    abbrev pub Attended : (s : S) (m : Machine) (es : List Event) → Run s m es → Type 0
    Attended s m [] run = Attends s m [] run
    Attended s m (e ∷ es) run =
        Attends s m (e ∷ es) run
        × Until (closes L m e run.reply run.wrote) (Attended run.left (after L m e run.reply run.wrote) es run.rest)
