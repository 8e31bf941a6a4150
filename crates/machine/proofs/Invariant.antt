-- What ties the port to the machine's counts while the channel is open, and what a call that writes a message does to it.
-- Assumes nothing.
use mathlib.Core.Path.{◌≡◌, refl, ap, sym, ◌∙◌}
use mathlib.Core.Logic.{◌↔◌}
use mathlib.Core.Bool.{Bool, true, false, cond, ◌||◌, or-false}
use mathlib.Core.List.{List, [], ◌∷◌, ◌++◌, map}
use mathlib.Core.Option
use mathlib.Core.Option.{Option, none, some}
use Prim.Native.Nat.{ℕ, suc, ◌+◌, ◌-◌, ◌≤◌, ◌<◌, ◌^◌}
use native.Mathlib.Omega.{arith}
use lib.Dec.{ltb}
use lib.IntN.{pos, negsuc, sub_ℕ, ◌+ℤ◌}
use lib.ListN.{length, length-map}
use borrow.Author.Tests.{le-ltb, ltb-true, ltb-false}
use Rattle.std.specs.Prelude.{Result, Err}
use Rattle.srp.specs.Bytes.{type_of}
use Rattle.srp.specs.Refusals.{first_of_checks}
use Rattle.srp.specs.Lists.{find, All, is_some}
use Rattle.srp.specs.Descriptors.{Given, standing_size_lem}
use Rattle.srp.specs.Both.{Both, Each, each}
use Rattle.srp.specs.Credit.{with_sides, rule_of, Open, Port, owed, due, with_credit, with_moves, with_wanted, with_unanswered, has_tag, Distinct}
use Rattle.srp.specs.Line.{Lined, is_ended, left_by}
use Rattle.srp.specs.Limits.{most_buffers}
use Rattle.srp.specs.declared.Terms.{Terms}
use Rattle.srp.specs.Writing.{answer}
use Rattle.srp.specs.Take.{Outcome, silent, answering, is_open_lem}
use Rattle.srp.specs.Calls.{record_of_lem, listing}
use Rattle.machine.specs.Machine.{delta_of_lem, deltas, requests, Track, shown_as, Wire, Work, Machine, four, lack, unused, wanted_by, tracked, requests_held, with_wire, with_work, with_buffers, with_queue, joined, join, says_logout, Login}
use Rattle.machine.specs.Actions.{Action}
use Rattle.machine.specs.Operations.{pieces_left}
use Rattle.machine.specs.Demand.{Until, InOrder, CutAsNamed, Sum, ByLack, Lift, Now, Then}
use Rattle.srp.specs.declared.Refusal.{Refusal}
use Rattle.srp.specs.declared.Record.{Record}
use Rattle.srp.specs.declared.Place.{Place}
use Rattle.srp.specs.declared.Reply.{Reply}
use Rattle.machine.proofs.Order.{tags_of, Ordered, by_tracks}
use Rattle.machine.proofs.Moves.{side_in, Steady, each_cut}
use Rattle.srp.proofs.CutLaws.{Lawful}
use Rattle.srp.proofs.ListLaws.{find_map, without_same, all_weaken}
use Rattle.srp.proofs.LineLength.{lined_short}
use Rattle.machine.proofs.Deltas.{Carries, answer_carries}

-- ── numbers

sub_add : (f w : ℕ) → pos f +ℤ sub_ℕ w f ≡ pos w
sub_add f w = go (ltb w f) refl
  where
    go : (b : Bool) → ltb w f ≡ b → pos f +ℤ cond b (negsuc (f - suc w)) (pos (w - f)) ≡ pos w
    go true e = rw (le-ltb f (suc (f - suc w)) (omega (arith, ltb-true w f e))) (ap pos (omega (arith, ltb-true w f e)))
    go false e = ap pos (omega (arith, ltb-false w f e))

sub_back : (a b : ℕ) → sub_ℕ (a + b) b ≡ pos a
sub_back a b = rw (le-ltb (a + b) b (omega arith)) (ap pos (omega arith))

-- ── the port's command as the machine follows it

abbrev pub open_in : Terms → Track → Open
open_in T t = with_sides t t.planned (each (side_in T) t.sides)

-- of a waiting command, no more stood in its message than its descriptors say
abbrev pub Short : Option (Both Given) → Type 0
Short none = Unit {0}
Short (some g) = Each (λ g. length g.bytes ≤ standing_size_lem g.descriptor) g

-- no plan is made while it waits, no move is named before the plan, each direction is followed, and tables to come leave at most 32 segments
pub record Sound (T : Terms) (t : Track) : Type 0 where
  pub waits : is_some t.awaits ≡ true → t.planned ≡ false
  pub unplanned : t.planned ≡ false → Each (λ g. g.moves ≡ []) t.sides
  pub steady : Each (Steady T) t.sides
  pub awaited : Short t.awaits

-- ── the invariant

-- the port's commands cs are those that the machine follows, and its line l is the machine's
pub record Follows (T : Terms) (w : Work) (cs : List Open) (l : List Place) : Type 0 where
  pub counts : w.taken ≡ w.ended + length w.tracks
  pub commands : cs ≡ map (open_in T) w.tracks
  pub sound : All (Sound T) w.tracks
  pub distinct : Distinct w.tracks
  pub order : Ordered (tags_of w.tracks) w.tags
  pub line : l ≡ w.line
  pub lined : Lined (pieces_left T) w.tracks w.line

-- the port is in step with the machine
pub record InStep (L : Login) (m : Machine) (p : Port) : Type 0 where
  pub live : p.live ≡ true
  pub terms : p.terms ≡ L.terms
  pub small : p.wanted ≤ 16
  pub credit : p.announced ≡ unused m
  pub wanted : p.wanted + m.withdrawn ≡ L.buffers + m.added
  pub room : p.announced + length p.held ≤ most_buffers
  pub work : Follows L.terms m.work p.held p.line
  pub unanswered : p.unanswered ≡ m.wire.waiting

some_map : {A B : Type 0} (f : A → B) (o : Option A) → is_some (Option.map f o) ≡ is_some o
some_map f none = refl
some_map f (some x) = refl

shown_map : (T : Terms) (ts : List Track) → map record_of_lem (map (open_in T) ts) ≡ map shown_as ts
shown_map T [] = refl
shown_map T (t ∷ ts) = rw (shown_map T ts)

listed_tags : (ts : List Track) → map (λ (r : Record). r.tag) (map shown_as ts) ≡ tags_of ts
listed_tags [] = refl
listed_tags (t ∷ ts) = rw (listed_tags ts)

module _ {L : Login} {m : Machine} {p : Port} (h : InStep L m p) where
  pub held : length p.held ≡ length m.work.tracks
  held = ap length h.work.commands ∙ length-map m.work.tracks (open_in L.terms)

  sum : Sum L m (owed p)
  sum =
      let f : four m ≡ p.announced + length p.held = omega (arith, held, h.credit, h.work.counts) in
      rw (f, sub_add, ← h.wanted, sub_back)

  pub find_same : (tag : ℕ) → find (has_tag tag) p.held ≡ Option.map (open_in L.terms) (find (has_tag tag) m.work.tracks)
  find_same tag = ap (find (has_tag tag)) h.work.commands ∙ find_map (open_in L.terms) (has_tag tag) m.work.tracks

  pub open_same : (tag : ℕ) → is_open_lem p tag ≡ is_some (tracked m tag)
  open_same tag = ap is_some (find_same tag) ∙ some_map (open_in L.terms) (find (has_tag tag) m.work.tracks)

  pub lacks : due p ≡ lack L.buffers m
  lacks = omega (arith, held, h.credit, h.wanted, h.work.counts)

  open_held : length p.held ≡ requests_held m
  open_held = omega (arith, held, h.work.counts)

  pub wanted_same : p.wanted ≡ wanted_by L.buffers m
  wanted_same = omega (arith, h.wanted)

  listed : listing p ≡ map shown_as m.work.tracks
  listed = ap (map record_of_lem) h.work.commands ∙ shown_map L.terms m.work.tracks

  -- the line without the moves of commands that end, in the port and in the machine
  pub left_same : (f : Open → Bool) (g : Track → Bool) → ((t : Track) → f (open_in L.terms t) ≡ g t)
      → left_by f p.held p.line ≡ left_by g m.work.tracks m.work.line
  left_same f g e =
      ap (left_by f p.held) h.work.line ∙ without_same _ _ (λ x. ap (is_ended f) (find_same x.tag) ∙ by_case (tracked m x.tag)) m.work.line
    where
      by_case : (o : Option Track) → is_ended f (Option.map (open_in L.terms) o) ≡ is_ended g o
      by_case none = refl
      by_case (some t) = e t

  -- what demand 3 says of the moments between events
  pub now : Lawful (rule_of L.terms) → Now L m p
  now cut =
      record {
        sum = sum;
        reports = rw (h.live, wanted_same, h.credit, open_held);
        commands = h.work.counts;
        lists = rw (h.live, open_held);
        listed = listed;
        oldest_first_lem = ap (map (λ r. r.tag)) listed ∙ listed_tags m.work.tracks ∙ by_tracks m.work.tracks m.work.tags h.work.order;
        distinct = h.work.distinct;
        lined = h.work.lined;
        line_short = omega (arith, held, h.room, lined_short (pieces_left L.terms) m.work.tracks m.work.line h.work.lined);
        in_order = all_weaken (Sound L.terms) (InOrder L.terms) (λ t s. (s.steady.0.order, s.steady.1.order)) m.work.tracks h.work.sound;
        moves = all_weaken (Sound L.terms) (CutAsNamed L.terms) (λ t s. (each_cut L.terms cut t.sides.out s.steady.0, each_cut L.terms cut t.sides.inn s.steady.1)) m.work.tracks h.work.sound;
      }

-- ── what a call writes

deltas_snoc : (ss : List (List ℕ)) (s : List ℕ) → deltas (ss ++ (s ∷ [])) ≡ deltas ss + delta_of_lem s
deltas_snoc [] s = omega arith
deltas_snoc (x ∷ ss) s = omega (arith, deltas_snoc ss s)

pub four_join : (m : Machine) (ss : List (List ℕ)) → four (join m ss) ≡ four m + deltas ss
four_join m [] = omega arith
four_join m (s ∷ ss) = omega (arith, four_join (joined m s) ss, deltas_snoc m.wire.to_initiator s)

-- m is the machine after the endings of a call with the outcome o; `closing`: the initiator's logout was taken
pub record Fine (L : Login) (m : Machine) (closing : Bool) (o : Outcome) : Type 0 where
  pub lift : Lift L m o.wrote
  pub keep : Until (closing || says_logout o.wrote) (InStep L (join m o.wrote) o.port)

-- an event's action a on the machine m, with the outcome o of its call: what demand 3 says of it, and the invariant until the channel closes
pub record Obeys (L : Login) (m : Machine) (a : Action) (o : Outcome) : Type 0 where
  pub then : Then L m a o.reply o.wrote
  pub keep : Until (a.closes m o.reply || says_logout o.wrote) (InStep L (join (a.effect m o.reply) o.wrote) o.port)

pub obeying : {L : Login} (m : Machine) (a : Action) (o : Outcome) → Fine L (a.effect m o.reply) (a.closes m o.reply) o → map type_of o.wrote ≡ a.writes m o.reply
    → ((f : Refusal) → (o.reply ≡ Err f) ↔ (first_of_checks (a.checks m) ≡ some f)) → a.answer m o.reply o.wrote → Obeys L m a o
obeying m a o f w r s = record { then = record { lift = f.lift; wrote = w; refuses = r; answer = s }; keep = f.keep }

pub nothing_lifts : {L : Login} (m : Machine) → Lift L m []
nothing_lifts m = record { by_lack = tt; rises = four_join m [] }

pub lifts : {L : Login} (m : Machine) (s : List ℕ) → ByLack L m s → Lift L m (s ∷ [])
lifts m s l = record { by_lack = (l, tt); rises = four_join m (s ∷ []) }

-- ── the invariant when a part moves

module _ {L : Login} {m : Machine} {p : Port} (h : InStep L m p) where
  -- other commands and counts of requests, another line, and another queue to the port
  pub with_work_lem : (a : ℕ) (cs : List Open) (l : List Place) (queue : List (List ℕ)) (w : Work) → a ≡ m.wire.limit + requests queue + deltas m.wire.to_initiator
      → a + length cs ≤ most_buffers → Follows L.terms w cs l → InStep L (with_work (with_queue m queue) w) (with_moves p a cs l)
  with_work_lem a cs l queue w e r f =
      record { live = h.live; terms = h.terms; small = h.small; credit = e; wanted = h.wanted; room = r; work = f; unanswered = h.unanswered }

  -- another limit and other queues, and whether a credit request is unanswered
  pub with_wire_lem : (w : Wire) (a : ℕ) (u : Bool) → a ≡ w.limit + requests w.to_port + deltas w.to_initiator → a + length p.held ≤ most_buffers
      → u ≡ w.waiting → InStep L (with_wire m w) (with_credit p p.wanted a p.held u p.line)
  with_wire_lem w a u e r f =
      record { live = h.live; terms = h.terms; small = h.small; credit = e; wanted = h.wanted; room = r; work = h.work; unanswered = f }

  -- another number of wanted buffers
  pub with_wanted_lem : (w a k : ℕ) → w ≤ 16 → w + k ≡ L.buffers + a → InStep L (with_buffers m a k) (with_wanted p w)
  with_wanted_lem w a k small e =
      record { live = h.live; terms = h.terms; small = small; credit = h.credit; wanted = e; room = h.room; work = h.work; unanswered = h.unanswered }

module _ {L : Login} {m : Machine} {p : Port} (h : InStep L m p) where
  -- a call that writes nothing and leaves the invariant
  pub quiet : (r : Result Reply Refusal) → Fine L m false (silent p r)
  quiet r = record { lift = nothing_lifts m; keep = h }

  pub few : due p < 256 ^ 4
  few = omega (arith, h.small)

  -- a message that carries what is due lifts by it, and leaves the invariant; b says whether a credit request is then unanswered
  pub pays : (b c : Bool) (r : Result Reply Refusal) (message : ℕ → List ℕ) → Carries (due p) c (message (due p)) → b ≡ (m.wire.waiting || c)
      → Fine L m false (answering (with_unanswered p b) r message)
  pays b c r message k w =
      record {
        lift = lifts m (message (due p)) (λ _. k.delta ∙ lacks h);
        keep =
            rw k.stays
            (with_wire_lem h (joined m (message (due p))).wire (p.announced + due p) b
            (omega (arith, h.credit, deltas_snoc m.wire.to_initiator (message (due p)), k.delta))
            (omega (arith, h.room, h.small))
            (w ∙ ap (λ (x : Bool). m.wire.waiting || x) (sym k.credit)));
      }

  -- a response
  pub responds : (r : Result Reply Refusal) (message : ℕ → List ℕ) → Carries (due p) false (message (due p)) → Fine L m false (answering p r message)
  responds r message k = pays p.unanswered false r message k (h.unanswered ∙ sym (or-false m.wire.waiting))

  -- a response with an RSP_CODE
  pub codes : (r : Result Reply Refusal) (solnt : Bool) (tag code : ℕ) → Fine L m false (answering p r (answer solnt tag code))
  codes r solnt tag code = responds r (answer solnt tag code) (answer_carries solnt tag code (due p) few)
