-- Demand 3, of whatever makes the calls as the definitions have them: a theorem over lists of events, and of the same lists, that turns serve each move in time.
-- They are stated in specs/Demand.antt (Demand, Attended). Their premises are an accepted login, a run whose calls meet their definitions (Meets), and an
-- initiator that sends requests only with a limit of at least 1 (Fair). That the initiator answers each
-- credit request at most once, which demand 3 allows to assume, is not needed.
-- Assumes nothing.
use mathlib.Core.Path.{◌≡◌, refl, sym, ◌∙◌, subst}
use mathlib.Core.Logic.{inl, inr, ⊎_elim}
use mathlib.Core.Bool.{Bool, true, false}
use mathlib.Core.List.{List, [], ◌∷◌}
use mathlib.Core.Option.{some}
use Prim.Native.Nat.{ℕ, zero, suc, ◌≤◌}
use native.Mathlib.Omega.{arith}
use lib.ListN.{get_elem?}
use Rattle.std.specs.Prelude.{Result, Ok}
use Rattle.srp.specs.Credit.{rule_of, Port}
use Rattle.srp.specs.Line.{in_line}
use Rattle.srp.specs.Login.{terms_of_lem, opened, login_def}
use Rattle.srp.specs.declared.Settings.{Settings}
use Rattle.srp.specs.Take.{Outcome}
use Rattle.machine.specs.Machine.{Machine, start, Login, login_of}
use Rattle.machine.specs.Operations.{Serves}
use Rattle.machine.specs.Events.{is_turn, Event, sends, delivers, takes, brings, plans, names, steps, turns, finishes, adds, withdraws, grants, action_of, after, closes}
use Rattle.machine.specs.Demand.{Until, AtTurn, Run, Fair, Then, Demand, ServedWithin, Attends, Attended, Meets}
use Rattle.srp.specs.declared.Place.{Place}
use Rattle.srp.specs.declared.Reply.{Reply}
use Rattle.srp.specs.declared.Reply.TheVariants.{Accepted}
use Rattle.srp.specs.Ranges.{Reached, logged_in_lem}
use Rattle.srp.proofs.Opened.{opens}
use Rattle.srp.proofs.Kept.{cutting}
use Rattle.srp.proofs.Ranges.{open_ranges}
use Rattle.srp.proofs.CutLaws.{Lawful, some_below}
use Rattle.machine.proofs.Invariant.{InStep, now, Obeys}
use Rattle.machine.proofs.Taking.{take_obeys}
use Rattle.machine.proofs.Owners.{send_obeys, deliver_obeys, add_obeys, withdraw_obeys, grant_obeys, finish_obeys, plan_obeys}
use Rattle.machine.proofs.Bringing.{bring_obeys}
use Rattle.machine.proofs.Steps.{move_obeys, step_obeys}
use Rattle.machine.proofs.Serving.{turn_obeys}
use Rattle.machine.proofs.Turns.{some_place, others_keep, Comes, at_turn}
use Rattle.srp.specs.declared.Refusal.{Refusal}

-- every event does what demand 3 says of it, and obeying the invariant until the channel closes
module _ (L : Login) (cut : Lawful (rule_of L.terms)) (m : Machine) (p : Port) (h : InStep L m p) where
  obeys : (e : Event) → (action_of L e).allowed m → Obeys L m (action_of L e) ((action_of L e).call p m)
  obeys (sends s) a = send_obeys h s a
  obeys delivers a = deliver_obeys h
  obeys (takes room) a = take_obeys h room
  obeys (brings room tag t) a = bring_obeys h room tag t
  obeys (plans tag out inn) a = plan_obeys h tag out inn
  obeys (names tag d offset count) a = move_obeys h cut tag d offset count
  obeys (steps tag d) a = step_obeys h cut tag d
  obeys turns a = turn_obeys h cut
  obeys (finishes room tag status sense) a = finish_obeys h room tag status sense
  obeys (adds k) a = add_obeys h k
  obeys (withdraws k) a = withdraw_obeys h k
  obeys (grants room) a = grant_obeys h room

-- ── the theorem

meanwhile : {A B C : Type 0} (b : Bool) → Until b A → Until b B → (A → B → C) → Until b C
meanwhile true a b f = tt
meanwhile false a b f = f a b

until_map : {A B : Type 0} (b : Bool) → (A → B) → Until b A → Until b B
until_map true f a = tt
until_map false f a = f a

-- more turns may come before
later : (A B : Type 0) (R : ℕ → Type 0) (t : Bool) (k n : ℕ) → k ≤ n → ((i j : ℕ) → i ≤ j → R i → R j) → AtTurn t k A B R → AtTurn t n A B R
later A B R true zero zero h f w = w
later A B R true zero (suc n) h f w = inl w
later A B R true (suc k) zero h f w = absurd (omega arith)
later A B R true (suc k) (suc n) h f w = ⊎_elim inl (λ (r : R k). inr (f k n (omega arith) r)) w
later A B R false k n h f w = ⊎_elim inl (λ (r : R k). inr (f k n h r)) w

module _ (L : Login) {S : Type 0} (view : S → Port) (Call : S → Machine → Event → Result Reply Refusal → List (List ℕ) → S → Type 0) (meets : Meets L view Call) (cut : Lawful (rule_of L.terms)) where
  -- an event of a run does what demand 3 says of it
  one_event : (e : Event) (es : List Event) (s : S) (m : Machine) (run : Run L view Call s m (e ∷ es)) → InStep L m (view s) → (action_of L e).allowed m
      → Obeys L m (action_of L e) (record { reply = run.reply; port = view run.left; wrote = run.wrote })
  one_event e es s m run h a =
      subst (λ (o : Outcome). Obeys L m (action_of L e) o) (meets s m e run.reply run.wrote run.left run.made) (obeys L cut m (view s) h e a)

  from : (es : List Event) (s : S) (m : Machine) (run : Run L view Call s m es) → InStep L m (view s) → Fair L view Call s m es run → Demand L view Call s m es run
  from [] s m run h f = now h cut
  from (e ∷ es) s m run h f =
      let k = one_event e es s m run h f.0 in (
        now h cut,
        k.then,
        meanwhile (closes L m e run.reply run.wrote) k.keep f.1 (λ a b. from es run.left (after L m e run.reply run.wrote) run.rest a b),
      )

  -- ── turns

  -- a move that is served sooner is served in time
  sooner : (es : List Event) (s : S) (m : Machine) (run : Run L view Call s m es) (x : Place) (k n : ℕ) → k ≤ n → ServedWithin L view Call x k s m es run
      → ServedWithin L view Call x n s m es run
  sooner [] s m run x k n h w = tt
  sooner (e ∷ es) s m run x k n h w =
      until_map (closes L m e run.reply run.wrote)
      (later (Serves L.terms m x run.reply) (in_line x (after L m e run.reply run.wrote).work.line ≡ false)
      (λ j. ServedWithin L view Call x j run.left (after L m e run.reply run.wrote) es run.rest) (is_turn e) k n h (λ i j g v. sooner es run.left (after L m e run.reply run.wrote) run.rest x i j g v)) w

  served_from : (es : List Event) (s : S) (m : Machine) (run : Run L view Call s m es) → InStep L m (view s) → Fair L view Call s m es run → (x : Place) (k : ℕ)
      → get_elem? m.work.line k ≡ some x → ServedWithin L view Call x k s m es run
  served_from [] s m run h f x k p = tt
  served_from (e ∷ es) s m run h f x k p =
      let o = one_event e es s m run h f.0 in
      meanwhile (closes L m e run.reply run.wrote) o.keep f.1 λ a b.
      comes (is_turn e) refl o.then (λ j q. served_from es run.left (after L m e run.reply run.wrote) run.rest a b x j q)
    where
      m' : Machine
      m' = after L m e run.reply run.wrote

      served : (k : ℕ) → Comes L m x k run.reply m'.work.line → ((j : ℕ) → get_elem? m'.work.line j ≡ some x → ServedWithin L view Call x j run.left m' es run.rest)
          → AtTurn true k (Serves L.terms m x run.reply) (in_line x m'.work.line ≡ false) (λ j. ServedWithin L view Call x j run.left m' es run.rest)
      served zero c ih = c
      served (suc j) c ih = inr (ih j c)

      comes : (b : Bool) → is_turn e ≡ b → Then L m (action_of L e) run.reply run.wrote
          → ((j : ℕ) → get_elem? m'.work.line j ≡ some x → ServedWithin L view Call x j run.left m' es run.rest)
          → AtTurn b k (Serves L.terms m x run.reply) (in_line x m'.work.line ≡ false) (λ j. ServedWithin L view Call x j run.left m' es run.rest)
      comes true t n ih = served k (at_turn L m e t run.reply run.wrote n.refuses n.answer x k p) ih
      comes false t n ih =
          ⊎_elim inl (λ r. inr (sooner es run.left m' run.rest x r.0 k r.1 (ih r.0 r.2)))
          (others_keep L m e t run.reply run.wrote x k p)

  attends : (es : List Event) (s : S) (m : Machine) (run : Run L view Call s m es) → InStep L m (view s) → Fair L view Call s m es run → Attends L view Call s m es run
  attends es s m run h f =
      record {
        in_place = served_from es s m run h f;
        within_32 = λ x e.
            let r = some_place x m.work.line e in
            sooner es s m run x r.0 31 (omega (arith, some_below m.work.line r.0 x r.1, (now h cut).line_short)) (served_from es s m run h f x r.0 r.1);
      }

  attended : (es : List Event) (s : S) (m : Machine) (run : Run L view Call s m es) → InStep L m (view s) → Fair L view Call s m es run → Attended L view Call s m es run
  attended [] s m run h f = attends [] s m run h f
  attended (e ∷ es) s m run h f =
      (attends (e ∷ es) s m run h f, meanwhile (closes L m e run.reply run.wrote) (one_event e es s m run h f.0).keep f.1 (λ a b. attended es run.left (after L m e run.reply run.wrote) run.rest a b))

module _ (c : Settings) (own : List ℕ) (room : ℕ) (l : List ℕ) (agreed : (login_def c own room l).reply ≡ Ok Accepted) where
  -- the invariant as the login returned the port
  begins : InStep (login_of c l) (start c.buffers) (opened c l) × Lawful (rule_of (terms_of_lem c l))
  begins =
      let v = open_ranges (subst Reached (opens c own room l agreed) (logged_in_lem c own room l)) refl in (
        record {
          live = refl;
          terms = refl;
          small = v.most;
          credit = omega arith;
          wanted = refl;
          room = v.room;
          work =
              record {
                counts = refl;
                commands = refl;
                sound = tt;
                distinct = tt;
                order = refl;
                line = refl;
                lined = record { each = λ tag d. refl; once = tt };
              };
          unanswered = refl;
        },
        cutting v,
      )

  -- demand 3: of every list of events that follows an accepted login, whatever makes the calls, if each call is equal to its definition
  pub demand_3 : {S : Type 0} (view : S → Port) (Call : S → Machine → Event → Result Reply Refusal → List (List ℕ) → S → Type 0) → Meets (login_of c l) view Call
      → (s : S) → view s ≡ (login_def c own room l).port → (es : List Event) (run : Run (login_of c l) view Call s (start c.buffers) es)
      → Fair (login_of c l) view Call s (start c.buffers) es run → Demand (login_of c l) view Call s (start c.buffers) es run
  demand_3 view Call meets s e es run f =
      from (login_of c l) view Call meets begins.1 es s (start c.buffers) run
      (subst (λ (p : Port). InStep (login_of c l) (start c.buffers) p) (sym (e ∙ opens c own room l agreed)) begins.0) f

  -- "a move in it is served within 32 of these calls unless it has left the line before, for every list of other calls between": of the same runs
  pub turns_served : {S : Type 0} (view : S → Port) (Call : S → Machine → Event → Result Reply Refusal → List (List ℕ) → S → Type 0) → Meets (login_of c l) view Call
      → (s : S) → view s ≡ (login_def c own room l).port → (es : List Event) (run : Run (login_of c l) view Call s (start c.buffers) es)
      → Fair (login_of c l) view Call s (start c.buffers) es run → Attended (login_of c l) view Call s (start c.buffers) es run
  turns_served view Call meets s e es run f =
      attended (login_of c l) view Call meets begins.1 es s (start c.buffers) run
      (subst (λ (p : Port). InStep (login_of c l) (start c.buffers) p) (sym (e ∙ opens c own room l agreed)) begins.0) f
