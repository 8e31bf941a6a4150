-- Plan, finish, add, withdraw and grant, sending and delivery do what demand 3 says of them.
-- Assumes nothing.
use mathlib.Core.Path.{◌≡◌, refl, ap, sym, ◌∙◌, subst}
use mathlib.Core.Bool.{Bool, true, false, cond, true≢false, or-true}
use mathlib.Core.List.{List, [], ◌∷◌, ◌++◌, map}
use mathlib.Core.Option
use mathlib.Core.Option.{Option, none, some, none-ne-some, some-injective}
use Prim.Native.Nat.{ℕ, ◌+◌, ◌-◌, ◌≤◌}
use native.Mathlib.Omega.{arith}
use borrow.Author.Tests.{ltb-false, leb-false, not-false}
use Rattle.std.specs.Prelude.{Ok, Err}
use Rattle.srp.specs.Bytes.{type_of}
use lib.ListN.{length}
use Rattle.srp.specs.Lists.{find, change, without, is_some, All}
use Rattle.srp.specs.Refusals.{first_of_checks}
use Rattle.srp.specs.Requests.{is_request}
use Rattle.srp.specs.Both.{of}
use Rattle.srp.specs.Credit.{Open, Port, due, with_moves, with_held, has_tag}
use Rattle.srp.specs.Line.{Lined, left_by}
use Rattle.srp.specs.declared.Terms.{Terms}
use Rattle.srp.specs.Writing.{response, credit_request}
use Rattle.srp.specs.Take.{Outcome, silent, answering, is_open_lem, leaving}
use Rattle.srp.specs.Tables.{awaited_by, is_waiting}
use Rattle.srp.specs.Calls.{unless, is_planned, planned, plan_checks, plan_def, final_of, final_response, finish_checks, finish_def, add_checks, add_def, withdraw_checks, withdraw_def, grant_checks, grant_def}
use Rattle.srp.specs.Answers.{refusal_in}
use Rattle.machine.specs.Machine.{deltas, requests, Track, planned_for, Work, Machine, tracked, with_work, with_moving, with_tracks, ended_by, Login}
use Rattle.machine.specs.Actions.{Owners, by_owner, at_front, between}
use Rattle.machine.specs.Operations.{pieces_left}
use Rattle.machine.specs.Transfers.{planning}
use Rattle.machine.specs.Events.{sending, delivered, delivering, finishing, adding, withdrawing, granting}
use Rattle.srp.specs.declared.Refusal.{Refusal}
use Rattle.srp.specs.declared.Direction.{Direction}
use Rattle.srp.specs.declared.Direction.TheVariants.{Out, In}
use Rattle.srp.specs.declared.Place.{Place}
use Rattle.srp.specs.declared.Reply.TheVariants.{Performed}
use Rattle.srp.proofs.Checks.{passes}
use Rattle.srp.proofs.ListLaws.{length_change, length_without, without_map, change_map, all_without, all_change}
use Rattle.srp.proofs.Lines.{lined_change, lined_endings}
use Rattle.srp.proofs.Tags.{distinct_without, distinct_change, one_goes}
use Rattle.machine.proofs.Order.{Ordered, ordered_without, tags_change}
use Rattle.machine.proofs.Deltas.{response_carries, request_carries}
use Rattle.srp.proofs.Refusing.{unrefused, unless_iff}
use Rattle.machine.proofs.Moves.{plan_steady}
use Rattle.machine.proofs.Invariant.{open_in, Sound, Follows, InStep, find_same, open_same, left_same, lacks, wanted_same, with_work_lem, with_wire_lem, with_wanted_lem, Fine, Obeys, obeying, quiet, few, pays, responds}

-- ── a plan

-- before the plan no move was named, so that the plan may state any lengths
sound_plan : (T : Terms) (a b : ℕ) (t : Track) → Sound T t → is_some t.awaits ≡ false → t.planned ≡ false → Sound T (planned_for a b t)
sound_plan T a b t s w e =
    let u = s.unplanned e in
    record {
      waits = λ z. absurd (true≢false (sym z ∙ w));
      unplanned = λ q. absurd (true≢false q);
      steady = (plan_steady T a t.sides.out s.steady.0 u.0, plan_steady T b t.sides.inn s.steady.1 u.1);
      awaited = s.awaited;
    }

-- ── sending and delivery

requests_snoc : (ss : List (List ℕ)) (s : List ℕ) → requests (ss ++ (s ∷ [])) ≡ requests ss + cond (is_request s) 1 0
requests_snoc [] s = omega arith
requests_snoc (x ∷ ss) s = omega (arith, requests_snoc ss s)

affordable : (b : Bool) (l : ℕ) → (b ≡ true → 1 ≤ l) → cond b 1 0 ≤ l
affordable true l a = a refl
affordable false l a = omega arith

-- an event without a call leaves the port, and what it does to the machine obeying the invariant
without_call : {L : Login} {p : Port} (m : Machine) (A : Machine → Type 0) (f : Machine → Machine) → InStep L (f m) p → Obeys L m (between A f) (silent p (Ok Performed))
without_call m A f o =
    obeying m (between A f) (silent _ (Ok Performed)) (quiet o (Ok Performed)) refl
    (λ r. ((λ g. absurd (unrefused (Ok Performed) r refl g)), λ g. absurd (none-ne-some r g))) tt

module _ {L : Login} {m : Machine} {p : Port} (h : InStep L m p) where
  pub send_obeys : (s : List ℕ) → (sending s).allowed m → Obeys L m (sending s) (silent p (Ok Performed))
  send_obeys s a =
      without_call m _ _
      (with_wire_lem h ((sending s).effect m (Ok Performed)).wire p.announced p.unanswered
      (omega (arith, h.credit, requests_snoc m.wire.to_port s, affordable (is_request s) m.wire.limit a)) h.room h.unanswered)

  pub deliver_obeys : Obeys L m delivering (silent p (Ok Performed))
  deliver_obeys = without_call m _ _ (go m.wire.to_initiator refl)
    where
      go : (q : List (List ℕ)) → m.wire.to_initiator ≡ q → InStep L (at_front q m (delivered m)) p
      go [] e = h
      go (s ∷ ss) e = with_wire_lem h (delivered m s ss).wire p.announced p.unanswered (omega (arith, h.credit, ap deltas e)) h.room h.unanswered

  -- ── the owner's calls

  -- what an owner's call c does that is not refused
  pub record Unrefused (c : Owners) (x : Outcome) : Type 0 where
    pub fine : Fine L (c.effect m x.reply) false x
    pub wrote : map type_of x.wrote ≡ c.writes
    pub answer : c.answer m x.reply x.wrote

  -- a call that its first check v refuses, and that otherwise comes to x
  pub owned : (c : Owners) (v : Option Refusal) (x : Outcome) → v ≡ first_of_checks (c.checks m) → refusal_in x.reply ≡ none
      → (v ≡ none → Unrefused c x) → Obeys L m (by_owner c) (unless v p x)
  owned c none x e u f =
      let g = f refl in
      obeying m (by_owner c) x (rw u g.fine) (rw u g.wrote) (unless_iff p none _ x e u) (λ _. g.answer)
  owned c (some r) x e u f =
      obeying m (by_owner c) (silent p (Err r)) (quiet h (Err r)) refl (unless_iff p (some r) _ x e u) (λ z. absurd (none-ne-some r (sym z)))

  -- the invariant at other commands and another line, with other counts of requests
  recast : (cs : List Open) (l : List Place) (w : Work) → length cs ≤ length p.held → Follows L.terms w cs l
      → InStep L (with_work m w) (with_moves p p.announced cs l)
  recast cs l w r f = with_work_lem h p.announced cs l m.wire.to_port w h.credit (omega (arith, h.room)) f

  -- the first command with the tag changes as g in the port and as g' in the machine
  module _ (tag : ℕ) (g : Open → Open) (g' : Track → Track) (same : (t : Track) → (g' t).request ≡ t.request)
      (agree : (t : Track) → find (has_tag tag) m.work.tracks ≡ some t → g (open_in L.terms t) ≡ open_in L.terms (g' t))
      (keep : (t : Track) → find (has_tag tag) m.work.tracks ≡ some t → Sound L.terms t → Sound L.terms (g' t)) where
    abbrev cs' : List Open
    cs' = change (has_tag tag) g p.held

    abbrev ts' : List Track
    ts' = change (has_tag tag) g' m.work.tracks

    pub commands' : cs' ≡ map (open_in L.terms) ts'
    commands' = rw h.work.commands (change_map (open_in L.terms) (has_tag tag) g g' m.work.tracks agree)

    pub sound' : All (Sound L.terms) ts'
    sound' = all_change (Sound L.terms) (has_tag tag) g' m.work.tracks h.work.sound keep

    -- with the lines l and l'
    pub lines : (l l' : List Place) → l ≡ l' → Lined (pieces_left L.terms) ts' l' → InStep L (with_moving m ts' l') (with_moves p p.announced cs' l)
    lines l l' e r =
        recast cs' l (with_moving m ts' l').work (omega (arith, length_change (has_tag tag) g p.held))
        (record {
          counts = omega (arith, h.work.counts, length_change (has_tag tag) g' m.work.tracks);
          commands = commands';
          sound = sound';
          distinct = distinct_change (has_tag tag) g' same m.work.tracks h.work.distinct;
          order = subst (λ (tags : List ℕ). Ordered tags m.work.tags) (sym (tags_change (has_tag tag) g' same m.work.tracks)) h.work.order;
          line = e;
          lined = r;
        })

    -- the line stays where no pieces come or go
    pub changes : ((t : Track) → find (has_tag tag) m.work.tracks ≡ some t → (d : Direction) → pieces_left L.terms (of d (g' t).sides) ≡ pieces_left L.terms (of d t.sides))
        → InStep L (with_tracks m ts') (with_held p p.announced cs')
    changes k =
        lines p.line m.work.line h.work.line
        (lined_change (pieces_left L.terms) tag g' same m.work.tracks m.work.line k h.work.lined)

  pub add_obeys : (k : ℕ) → Obeys L m (by_owner (adding L k)) (add_def p k)
  add_obeys k =
      owned (adding L k) (first_of_checks (add_checks p k)) _ (rw (h.live, wanted_same h)) refl λ z.
      let c = passes (add_checks p k) z in
      record {
        fine = quiet (with_wanted_lem h (p.wanted + k) (m.added + k) m.withdrawn (ltb-false 16 (p.wanted + k) c.1.1.0) (omega (arith, h.wanted))) (Ok Performed);
        wrote = refl;
        answer = tt;
      }

  pub withdraw_obeys : (k : ℕ) → Obeys L m (by_owner (withdrawing L k)) (withdraw_def p k)
  withdraw_obeys k =
      owned (withdrawing L k) (first_of_checks (withdraw_checks p k)) _ (rw (h.live, wanted_same h)) refl λ z.
      let c = passes (withdraw_checks p k) z in
      let e : p.wanted - k + (m.withdrawn + k) ≡ L.buffers + m.added = omega (arith, h.wanted, leb-false p.wanted k c.1.1.0) in
      record { fine = quiet (with_wanted_lem h (p.wanted - k) m.added (m.withdrawn + k) (omega (arith, h.small)) e) (Ok Performed); wrote = refl; answer = tt }

  pub grant_obeys : (room : ℕ) → Obeys L m (by_owner (granting L room)) (grant_def p room)
  grant_obeys room =
      owned (granting L room) (first_of_checks (grant_checks p room)) _ (rw (h.live, h.unanswered, lacks h)) refl λ z.
      let solnt = p.terms.crsolnt in
      record {
        fine = pays h true true (Ok Performed) (credit_request solnt) (request_carries solnt (due p) (few h)) (sym (or-true m.wire.waiting));
        wrote = refl;
        answer = tt;
      }

  -- the port's command is the machine's
  pub found : (tag : ℕ) (t : Track) → tracked m tag ≡ some t → find (has_tag tag) p.held ≡ some (open_in L.terms t)
  found tag t f = find_same h tag ∙ ap (Option.map (open_in L.terms)) f

  -- the command with the tag ends
  pub ends : (tag : ℕ) → is_open_lem p tag ≡ true → InStep L (ended_by m tag) (leaving p p.announced (has_tag tag))
  ends tag e =
      recast (without (has_tag tag) p.held) (left_by (has_tag tag) p.held p.line) (ended_by m tag).work (length_without (has_tag tag) p.held)
      (record {
        counts = omega (arith, h.work.counts, one_goes tag m.work.tracks h.work.distinct (sym (open_same h tag) ∙ e));
        commands = rw h.work.commands (without_map (open_in L.terms) (has_tag tag) m.work.tracks);
        sound = all_without (Sound L.terms) (has_tag tag) m.work.tracks h.work.sound;
        distinct = distinct_without (has_tag tag) m.work.tracks h.work.distinct;
        order = ordered_without (has_tag tag) m.work.tracks m.work.tags h.work.distinct h.work.order;
        line = left_same h (has_tag tag) (has_tag tag) (λ t. refl);
        lined = lined_endings (pieces_left L.terms) (has_tag tag) m.work.tracks m.work.line h.work.distinct h.work.lined;
      })

  -- the port's command waits as the machine's does
  pub awaited_same : (tag : ℕ) → awaited_by (find (has_tag tag) p.held) ≡ awaited_by (tracked m tag)
  awaited_same tag = ap awaited_by (find_same h tag) ∙ by_case (tracked m tag)
    where
      by_case : (o : Option Track) → awaited_by (Option.map (open_in L.terms) o) ≡ awaited_by o
      by_case none = refl
      by_case (some t) = refl

  pub finish_obeys : (room tag st : ℕ) (se : List ℕ) → Obeys L m (by_owner (finishing room tag st se)) (finish_def p room tag st se)
  finish_obeys room tag st se =
      owned (finishing room tag st se) (first_of_checks (finish_checks p room tag st se)) _ (rw (h.live, open_same h tag, awaited_same tag)) refl λ z.
      let is_open = not-false (is_open_lem p tag) (passes (finish_checks p room tag st se) z).1.1.1.0 in
      responding (find (has_tag tag) p.held) refl is_open (ends tag is_open)
    where
      p' : Port
      p' = leaving p p.announced (has_tag tag)

      responding : (c : Option Open) → find (has_tag tag) p.held ≡ c → is_some c ≡ true → InStep L (ended_by m tag) p' → Unrefused (finishing room tag st se) (answering p' (Ok Performed) (final_response c st se))
      responding none f e o = absurd (true≢false (sym e))
      responding (some c) f e o =
          record {
            fine = responds o (Ok Performed) (final_response (some c) st se) (response_carries (final_of c st se (due p')) (few o));
            wrote = refl;
            answer = λ t g. (due p', ap (λ (x : Open). response (final_of x st se (due p')) ∷ []) (some-injective c (open_in L.terms t) (sym f ∙ found tag t g)));
          }

  pub plan_same : (tag : ℕ) → is_planned (find (has_tag tag) p.held) ≡ is_planned (tracked m tag)
  plan_same tag = ap is_planned (find_same h tag) ∙ by_case (tracked m tag)
    where
      by_case : (o : Option Track) → is_planned (Option.map (open_in L.terms) o) ≡ is_planned o
      by_case none = refl
      by_case (some t) = refl

  pub plan_obeys : (tag a b : ℕ) → Obeys L m (by_owner (planning tag a b)) (plan_def p tag a b)
  plan_obeys tag a b =
      owned (planning tag a b) (first_of_checks (plan_checks p tag)) _ (rw (h.live, open_same h tag, awaited_same tag, plan_same tag)) refl λ z.
      let c = passes (plan_checks p tag) z in
      record {
        fine =
            quiet
            (changes tag (planned a b) (planned_for a b) (λ t. refl) (λ t f. refl)
            (λ t f s. sound_plan L.terms a b t s (sym (ap is_waiting (found tag t f)) ∙ c.1.1.0) (sym (ap is_planned (found tag t f)) ∙ c.1.1.1.0))
            (λ t f d. plan_keeps t d))
            (Ok Performed);
        wrote = refl;
        answer = tt;
      }
    where
      plan_keeps : (t : Track) (d : Direction) → pieces_left L.terms (of d (planned_for a b t).sides) ≡ pieces_left L.terms (of d t.sides)
      plan_keeps t Out = refl
      plan_keeps t In = refl
