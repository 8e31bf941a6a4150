-- Each call on a port that has the ranges of specs/Ranges.antt leaves them, or the closed port.
-- Assumes nothing.
use mathlib.Core.Path.{◌≡◌, refl, sym, ◌∙◌}
use mathlib.Core.Logic.{inl, inr}
use mathlib.Core.Bool.{Bool, true, false, cond, true≢false}
use mathlib.Core.List.{List, [], ◌∷◌, ◌++◌}
use mathlib.Core.Option.{Option, none, some, none-ne-some}
use Prim.Native.Nat.{ℕ, ◌+◌, ◌-◌, ◌^◌, ◌≤◌, ◌<◌}
use native.Mathlib.Omega.{arith}
use lib.ListN.{length, length-append}
use borrow.Author.Tests.{le-ltb, ltb-false, leb-false, eqb-false, not-false}
use Rattle.srp.specs.Bytes.{Bytes}
use Rattle.srp.specs.Lists.{find, change, without, is_some, All}
use Rattle.srp.specs.Refusals.{Conduct, hangs_up, answered, stays, alters_nothing, conduct_of, first_of_checks}
use Rattle.srp.specs.Descriptors.{Given}
use Rattle.srp.specs.Requests.{Reading, read_message_lem}
use Rattle.srp.specs.Both.{Both, of}
use Rattle.srp.specs.Credit.{Side, Open, has_tag, Distinct, rule_of, Port, due, with_moves, with_held, with_wanted, with_unanswered}
use Rattle.srp.specs.Line.{Lined, left_by}
use Rattle.srp.specs.Take.{Outcome, leaving, conducted, Tables, no_tables, given_in, tables_fit, fields_fit, waits, ready, waiting, new_side, new_open, aborted, take_checks, accepted, take_by, take_def}
use Rattle.srp.specs.Tables.{bad_lengths, bad_tables, tables_checks, brought_to, brought as withTables, tables_refused, tables_by, tables_def}
use Rattle.srp.specs.Calls.{unless, planned as with_plan, plan_checks, plan_def, has_pieces, requiring, finish_checks, finish_def, add_checks, add_def, withdraw_checks, withdraw_def, grant_checks, grant_def, close_def, close_checks}
use Rattle.srp.specs.Ranges.{SideRanges, OpenRanges, Ranges, Ranged}
use Rattle.srp.specs.declared.Refusal.{Refusal}
use Rattle.srp.specs.declared.Command.{Command}
use Rattle.srp.specs.declared.Message.TheVariants.{Cmd, TskMgmt, CredRsp, ILogout}
use Rattle.std.specs.declared.result.Result.TheVariants.{Ok, Err}
use Rattle.srp.specs.declared.Direction.{Direction}
use Rattle.srp.specs.declared.Direction.TheVariants.{Out, In}
use Rattle.srp.specs.declared.Place.{Place}
use Rattle.srp.proofs.ListLaws.{all_snoc, all_without, all_find, all_change, length_change, length_without}
use Rattle.srp.proofs.Checks.{passes}
use Rattle.srp.proofs.Given.{ready_ranges, Sane, read_sane}
use Rattle.srp.proofs.Refusing.{passed}
use Rattle.srp.proofs.CutLaws.{Lawful, up_to_lem}
use Rattle.srp.proofs.Tags.{distinct_snoc, distinct_without, distinct_change}
use Rattle.srp.proofs.Lines.{lined_change, lined_snoc, lined_endings}

-- its pieces have bytes, and no more than are left
pub cutting : {p : Port} → Ranges p → Lawful (rule_of p.terms)
cutting {p} v = up_to_lem p.terms.maximum p.terms.boundary v.smallest

module _ {p : Port} (v : Ranges p) where
  fewer : (a : ℕ) (cs : List Open) (l : List Place) → a + length cs ≤ 16 → All OpenRanges cs → Distinct cs → Lined has_pieces cs l → Ranges (with_moves p a cs l)
  fewer a cs l h r d n =
      record {
        live = v.live;
        least = v.least;
        most = v.most;
        room = h;
        smallest = v.smallest;
        largest = v.largest;
        boundary = v.boundary;
        commands = r;
        distinct = d;
        line = n;
      }

  wanting : (w : ℕ) → 1 ≤ w → w ≤ 16 → Ranges (with_wanted p w)
  wanting w a b =
      record { live = v.live; least = a; most = b; room = v.room; smallest = v.smallest; largest = v.largest; boundary = v.boundary; commands = v.commands; distinct = v.distinct; line = v.line }

  asking : (b : Bool) → Ranges (with_unanswered p b)
  asking b =
      record { live = v.live; least = v.least; most = v.most; room = v.room; smallest = v.smallest; largest = v.largest; boundary = v.boundary; commands = v.commands; distinct = v.distinct; line = v.line }

  pub unless_kept : (r : Option Refusal) (o : Outcome) → (r ≡ none → Ranged o.port) → Ranged (unless r p o).port
  unless_kept none o f = f refl
  unless_kept (some r) o f = inr v

  -- the first command with the tag changes, and the line is l
  pub changed : (tag : ℕ) (g : Open → Open) (l : List Place) → ((c : Open) → (g c).request ≡ c.request)
      → ((c : Open) → find (has_tag tag) p.held ≡ some c → OpenRanges c → OpenRanges (g c))
      → Lined has_pieces (change (has_tag tag) g p.held) l
      → Ranged (with_moves p p.announced (change (has_tag tag) g p.held) l)
  changed tag g l same h n =
      inr
      (fewer p.announced (change (has_tag tag) g p.held) l (omega (arith, v.room, length_change (has_tag tag) g p.held))
      (all_change OpenRanges (has_tag tag) g p.held v.commands h) (distinct_change (has_tag tag) g same p.held v.distinct) n)

  -- the line stays
  same_line : (tag : ℕ) (g : Open → Open) → ((c : Open) → (g c).request ≡ c.request)
      → ((c : Open) → find (has_tag tag) p.held ≡ some c → (d : Direction) → has_pieces (of d (g c).sides) ≡ has_pieces (of d c.sides))
      → Lined has_pieces (change (has_tag tag) g p.held) p.line
  same_line tag g same k = lined_change has_pieces tag g same p.held p.line k v.line

module _ {p : Port} (v : Ranges p) where
  -- a message that pays what is due
  paid : Ranges (with_held p (p.announced + due p) p.held)
  paid = fewer v (p.announced + due p) p.held p.line (omega (arith, v.room, v.most)) v.commands v.distinct v.line

  -- commands left out
  shorter : (a : ℕ) (f : Open → Bool) → a ≤ p.announced → Ranges (leaving p a f)
  shorter a f h =
      fewer v a (without f p.held) (left_by f p.held p.line) (omega (arith, v.room, length_without f p.held))
      (all_without OpenRanges f p.held v.commands) (distinct_without f p.held v.distinct) (lined_endings has_pieces f p.held p.line v.distinct v.line)

-- ── a new command

-- where nothing is required, no move has pieces
nothing_left : (s : Side) → SideRanges s → s.transfer.required ≡ 0 → has_pieces s ≡ false
nothing_left s r z = le-ltb s.transfer.at s.transfer.end (omega (arith, r.end))

new_request : (c : Command) (s : List ℕ) → (new_open c s).request ≡ c.request
new_request c s = go (waits c)
  where
    go : (b : Bool) → (cond b (waiting new_side c.request (given_in c s)) (ready new_side c.request (given_in c s) no_tables)).request ≡ c.request
    go true = refl
    go false = refl

new_none : (c : Command) (s : List ℕ) (d : Direction) → has_pieces (of d (new_open c s).sides) ≡ false
new_none c s d = go (waits c) d
  where
    go : (b : Bool) (d : Direction) → has_pieces (of d (cond b (waiting new_side c.request (given_in c s)) (ready new_side c.request (given_in c s) no_tables)).sides) ≡ false
    go true Out = refl
    go true In = refl
    go false Out = refl
    go false In = refl

-- ── each call

module _ {p : Port} (v : Ranges p) where
  pub take_kept : (room : ℕ) (s : List ℕ) → Bytes s → Ranged (take_def p room s).port
  take_kept room s b = go (read_message_lem p.terms.agreed p.terms.formats s) (read_sane s b p.terms.agreed p.terms.formats)
    where
      by : (c : Conduct) (m : Reading) (r : Refusal) → Ranged (conducted c p m r).port
      by (hangs_up reason) m r = inl refl
      by answered m r = inr (paid (fewer v (p.announced - 1) p.held p.line (omega (arith, v.room)) v.commands v.distinct v.line))
      by stays m r = inr v
      by alters_nothing m r = inr v

      accept : (m : Reading) → Sane s m → first_of_checks (take_checks p room s m) ≡ none → Ranged (accepted p s m).port
      accept (Err r) k e = by (conduct_of r) (Err r) r
      accept (Ok (Cmd c)) k e =
          let q = passed p room s c e in
          inr
          (fewer v (p.announced - 1) (p.held ++ (new_open c s ∷ [])) p.line
          (omega (arith, v.room, length-append p.held (new_open c s ∷ []), eqb-false p.announced 0 q.credit))
          (all_snoc OpenRanges p.held (new_open c s) v.commands (k q.fields))
          (distinct_snoc p.held (new_open c s) v.distinct (rw (new_request c s) q.fresh))
          (lined_snoc has_pieces (new_open c s) p.held p.line (new_none c s) v.line))
      accept (Ok (TskMgmt k)) a e = inr (paid (shorter v (p.announced - 1) (aborted k) (omega arith)))
      accept (Ok (CredRsp g)) k e = inr (asking v false)
      accept (Ok ILogout) k e = inl refl

      end : (r : Option Refusal) (m : Reading) → Sane s m → first_of_checks (take_checks p room s m) ≡ r → Ranged (take_by r p s m).port
      end none m k e = accept m k e
      end (some r) m k e = by (conduct_of r) m r

      go : (m : Reading) → Sane s m → Ranged (take_by (first_of_checks (take_checks p room s m)) p s m).port
      go m k = end (first_of_checks (take_checks p room s m)) m k refl

  pub tables_kept : (room tag : ℕ) (t : Tables) → Ranged (tables_def p room tag t).port
  tables_kept room tag t = go (first_of_checks (tables_checks p room tag t)) refl
    where
      by : (c : Conduct) (r : Refusal) → Ranged (tables_refused c p tag r).port
      by (hangs_up reason) r = inr v
      by answered r = inr (paid (shorter v p.announced (has_tag tag) (omega arith)))
      by stays r = inr v
      by alters_nothing r = inr v

      ready_now : (c : Open) → OpenRanges c → bad_lengths c.awaits t ≡ false → bad_tables c.awaits t ≡ false
          → (x : Option (Both Given)) → c.awaits ≡ x → OpenRanges (brought_to x new_side t c)
      ready_now c r l e none f = r
      ready_now c r l e (some g) f =
          ready_ranges c.request g t r.tag (r.awaited g f).0 (not-false (tables_fit g t) (rw f at l)) (not-false (fields_fit g t) (rw f at e))

      same : (c : Open) (x : Option (Both Given)) → (brought_to x new_side t c).request ≡ c.request
      same c none = refl
      same c (some g) = refl

      -- a command that waits has no move
      none_comes : (c : Open) → OpenRanges c → (d : Direction) (x : Option (Both Given)) → c.awaits ≡ x
          → has_pieces (of d (brought_to x new_side t c).sides) ≡ has_pieces (of d c.sides)
      none_comes c r d none f = refl
      none_comes c r Out (some g) f = sym (nothing_left c.sides.out r.sides.0 (r.unplanned (r.awaited g f).1).0)
      none_comes c r In (some g) f = sym (nothing_left c.sides.inn r.sides.1 (r.unplanned (r.awaited g f).1).1)

      go : (r : Option Refusal) → first_of_checks (tables_checks p room tag t) ≡ r → Ranged (tables_by r p tag t).port
      go none e =
          let q = (passes (tables_checks p room tag t) e).1.1.1.1 in
          changed v tag (withTables new_side t) p.line (λ c. same c c.awaits)
          (λ c f r. ready_now c r (rw f at q.0) (rw f at q.1.0) c.awaits refl)
          (same_line v tag (withTables new_side t) (λ c. same c c.awaits) (λ c f d. none_comes c (all_find OpenRanges (has_tag tag) p.held c v.commands f) d c.awaits refl))
      go (some r) e = by (conduct_of r) r

  pub plan_kept : (tag out inn : ℕ) → out < 2 ^ 32 → inn < 2 ^ 32 → Ranged (plan_def p tag out inn).port
  plan_kept tag out inn ho hi =
      unless_kept v (first_of_checks (plan_checks p tag)) _ λ e.
      changed v tag (with_plan out inn) p.line (λ c. refl) (λ c f r.
      let u = r.unplanned (rw f at (passes (plan_checks p tag) e).1.1.1.0) in
      record {
        tag = r.tag;
        awaited = λ g z. absurd (none-ne-some g (sym (waits_none c.awaits (rw f at (passes (plan_checks p tag) e).1.1.0)) ∙ z));
        sides = (requires c.sides.out out r.sides.0 u.0 ho, requires c.sides.inn inn r.sides.1 u.1 hi);
        unplanned = λ z. absurd (true≢false z);
      })
      (same_line v tag (with_plan out inn) (λ c. refl) (λ c f d. keeps c d))
    where
      keeps : (c : Open) (d : Direction) → has_pieces (of d (with_plan out inn c).sides) ≡ has_pieces (of d c.sides)
      keeps c Out = refl
      keeps c In = refl

      waits_none : (x : Option (Both Given)) → is_some x ≡ false → x ≡ none
      waits_none none h = refl
      waits_none (some g) h = absurd (true≢false h)

      requires : (s : Side) (n : ℕ) → SideRanges s → s.transfer.required ≡ 0 → n < 2 ^ 32 → SideRanges (requiring n s)
      requires s n r z h = record { extent = r.extent; highest = omega (arith, r.highest); at = r.at; end = omega (arith, r.end); number = r.number; required = h }

  pub add_kept : (k : ℕ) → Ranged (add_def p k).port
  add_kept k =
      unless_kept v (first_of_checks (add_checks p k)) _ λ e.
      inr (wanting v (p.wanted + k) (omega (arith, v.least)) (ltb-false 16 (p.wanted + k) (passes (add_checks p k) e).1.1.0))

  pub withdraw_kept : (k : ℕ) → Ranged (withdraw_def p k).port
  withdraw_kept k =
      unless_kept v (first_of_checks (withdraw_checks p k)) _ λ e.
      inr (wanting v (p.wanted - k) (omega (arith, leb-false p.wanted k (passes (withdraw_checks p k) e).1.1.0)) (omega (arith, v.most)))

  pub finish_kept : (room tag status : ℕ) (sense : List ℕ) → Ranged (finish_def p room tag status sense).port
  finish_kept room tag status sense =
      unless_kept v (first_of_checks (finish_checks p room tag status sense)) _ λ _. inr (paid (shorter v p.announced (has_tag tag) (omega arith)))

  pub grant_kept : (room : ℕ) → Ranged (grant_def p room).port
  grant_kept room = unless_kept v (first_of_checks (grant_checks p room)) _ λ _. inr (paid (asking v true))

  pub close_kept : (room reason : ℕ) → Ranged (close_def p room reason).port
  close_kept room reason = unless_kept v (first_of_checks (close_checks p room)) _ λ _. inl refl
