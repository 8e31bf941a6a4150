-- Demand 2, of the C functions: by their contracts, along every run.
-- Assumes nothing.
use mathlib.Core.Path.{◌≡◌, refl, sym, ◌∙◌, ap, subst}
use mathlib.Core.Logic.{⊎_elim}
use mathlib.Core.Bool.{Bool, true, false, true≢false}
use mathlib.Core.List.{List, [], ◌∷◌, ◌++◌}
use mathlib.Core.Option.{Option, none, some}
use Prim.Native.Nat.{ℕ, ◌≤◌}
use native.Mathlib.Omega.{arith}
use borrow.Author.Tests.{le-ltb, ltb-false}
use lib.Dec.{ltb}
use lib.ListN.{length}
use Rattle.std.specs.Prelude.{Result, Ok}
use Rattle.srp.specs.Limits.{buffer_size, answer_size, shortest_agreed}
use Rattle.srp.specs.Bytes.{Bytes, get, part, type_of}
use Rattle.srp.specs.Messages.{tag, format_bits, requested_length, login_crsolnt, login_losolnt, channel_action, target_identifier, login_req}
use Rattle.srp.specs.Lists.{All}
use Rattle.srp.specs.Refusals.{first_of_checks, unless_bad}
use Rattle.srp.specs.Credit.{Port, closed_port}
use Rattle.srp.specs.Requests.{Reading, read_message_lem, command_of_lem, look_checks}
use Rattle.srp.specs.Descriptors.{fetch_of}
use Rattle.srp.specs.Outside.{fetch_bytes}
use Rattle.srp.specs.Writing.{placed}
use Rattle.srp.specs.Take.{Outcome, take_read, take_def}
use Rattle.srp.specs.Tables.{tables_def}
use Rattle.srp.specs.Calls.{unless, finish_def, grant_def, close_def}
use Rattle.srp.specs.Login.{login_by_values, setting_checks, rejections, judged, login_checks, login_def}
use Rattle.srp.specs.Ranges as def
use Rattle.srp.specs.Sent.{Sent}
use Rattle.srp.specs.Initiator.{CommandFields, command_bytes, command_in, Reads}
use Rattle.srp.specs.declared.Command.{Command}
use Rattle.srp.specs.declared.Message.TheVariants.{Cmd}
use Rattle.srp.specs.declared.Refusal.{Refusal}
use Rattle.srp.specs.declared.Reply.{Reply}
use Rattle.srp.specs.declared.Settings.{Settings}
use Rattle.srp.proofs.Reading.{read_as}
use Rattle.srp.proofs.Commands.{command_read}
use Rattle.srp.proofs.Ranges.{reached}
use Rattle.srp.proofs.Received.{look_as_take, task_received, logout_received, credit_received, command_received, login_received}
use Rattle.srp.proofs.Sent.{every_write, login_writes, sent_follows, sent_fits}
use Rattle.words.specs.View.{view}
use Rattle.words.proofs.Ports.{any_words}
use Rattle.page.specs.Page.{trace_checks, line_length}
use Rattle.page.specs.declared.Way.{Way}
use Rattle.page.proofs.Lines.{every_line}
use Rattle.page.proofs.Written.{prints_written}
use Rattle.exports.specs.Arguments.{settings_in, way_in}
use Rattle.demand.specs.Calls.{Memory, seen, LoggedIn}
use Rattle.demand.specs.Judgement.{read_on, short_answer, JudgesLook, JudgesTrace}
use Rattle.demand.specs.Following.{PortCall, take_call, tables_call, plan_call, move_call, step_call, turn_call, finish_call, add_call, withdraw_call, grant_call, close_call, Sendable, Receives, calling_of, Led, begins, goes_on, InRoom, ByLayouts, LoginByLayouts, LookByLayouts, TraceByLayouts, Demand2InC}
use Rattle.demand.proofs.Judges.{judges_look, judges_trace}
use Rattle.demand.proofs.Holds.{took, brought, planned_is, named, step_is, turn_is, finished, added, withdrew, granted, ended, logged_in_lem}

-- ── every message written follows its layout and fits

-- with a buffer under 132 bytes none is written, so that each fits the one that was lent
in_room : (room : ℕ) (ss : List (List ℕ)) → All Sent ss → (ltb room buffer_size ≡ true → ss ≡ []) → All (InRoom room) ss
in_room room ss a h = go (ltb room buffer_size) refl
  where
    each : buffer_size ≤ room → (ms : List (List ℕ)) → All Sent ms → All (InRoom room) ms
    each k [] b = tt
    each k (m ∷ ms) b = ((sent_follows b.0, let f : length m ≤ buffer_size = sent_fits b.0 in omega arith), each k ms b.1)

    go : (b : Bool) → ltb room buffer_size ≡ b → All (InRoom room) ss
    go true e = rw (h e) tt
    go false e = each (ltb-false room buffer_size e) ss a

-- ── every message put to take is read by its layout

-- an open port has agreed on 64 bytes at least
agreed_least : (s : Memory) → (seen s).live ≡ true → shortest_agreed ≤ (seen s).terms.agreed
agreed_least s h =
    ⊎_elim (λ e. let z : true ≡ false = sym h ∙ ap (λ (p : Port). p.live) e in absurd (true≢false z)) (λ R. R.terms.shortest) (any_words s.words s.store)

-- a command written by the layouts is read as its values
command_read_as : (agreed formats : ℕ) (msg : List ℕ) (c : CommandFields) → Sendable agreed formats c → msg ≡ command_bytes c
    → Reads c msg × (read_message_lem agreed formats msg ≡ Ok (Cmd (command_in c msg)))
command_read_as agreed formats msg c k e = (
  subst (λ (x : List ℕ). Reads c x) (sym e) (command_read c k.ranged k.cdb k.out_fits.0 k.in_fits.0),
  subst (λ (x : List ℕ). read_message_lem agreed formats x ≡ Ok (Cmd (command_in c x))) (sym e)
      (command_received agreed formats c k.ranged k.cdb k.out_fits.0 k.in_fits.0 k.out_fits.1 k.in_fits.1 k.out_fits.2 k.in_fits.2 k.fits),
)

receives : (s : Memory) (room : ℕ) (msg : List ℕ) → Receives s room msg (take_def (seen s) room msg)
receives s room msg =
    record {
      layout = read_as agreed formats msg;
      outcome = refl;
      reader = λ κs m e x post. post.0 ∙ ap (λ (l : List ℕ). read_on p l) e;
      task = λ h u c g l f k r e. by_read _ (again e ∙ task_received agreed formats u c g l f k r (let n = agreed_least s h in omega arith));
      credit = λ h g r e. by_read _ (again e ∙ credit_received agreed formats g r (let n = agreed_least s h in omega arith));
      logout = λ h vs r e. by_read _ (again e ∙ logout_received agreed formats vs r (let n = agreed_least s h in omega arith));
      command = λ c k e. let C = command_read_as agreed formats msg c k e in (C.0, by_read _ C.1);
    }
  where
    p : Port
    p = seen s

    agreed : ℕ
    agreed = p.terms.agreed

    formats : ℕ
    formats = p.terms.formats

    again : {x : List ℕ} → msg ≡ x → read_on p msg ≡ read_on p x
    again e = ap (λ (l : List ℕ). read_on p l) e

    -- the outcome, by what the message is read as
    by_read : (x : Reading) → read_on p msg ≡ x → take_def p room msg ≡ take_read p room msg x
    by_read x e = ap (λ (y : Reading). take_read p room msg y) e

-- ── the theorem

module _ (s : Memory) (r : Result Reply Refusal) (ss : List (List ℕ)) (s' : Memory) (R : def.Reached (seen s)) where
  -- what the definition's outcome has, the call's has
  gives : (c : PortCall) (o : Outcome) → o ≡ record { reply = r; port = seen s'; wrote = ss } → def.Reached o.port → All (InRoom (calling_of c).room) o.wrote
      → (calling_of c).received s o
      → ByLayouts s c r ss s'
  gives c o is n w x =
      record {
        reached = R;
        ranged = reached R;
        reached' = subst (λ (o : Outcome). def.Reached o.port) is n;
        ranged' = subst (λ (o : Outcome). def.Ranged o.port) is (reached n);
        writes = subst (λ (o : Outcome). All (InRoom (calling_of c).room) o.wrote) is w;
        received = subst (λ (o : Outcome). (calling_of c).received s o) is x;
      }

  -- a call that writes nothing
  unwritten : (o : Outcome) → o ≡ record { reply = r; port = seen s'; wrote = ss } → [] ≡ ss → All (InRoom 0) o.wrote
  unwritten o is e = subst (λ (ms : List (List ℕ)). All (InRoom 0) ms) (e ∙ sym (ap (λ (x : Outcome). x.wrote) is)) tt

  follows : (c : PortCall) → (calling_of c).typed → (calling_of c).made s r ss s' → ByLayouts s c r ss s'
  follows (take_call room msg) y m =
      gives (take_call room msg) _ (took room msg m) (def.took R room msg y) (in_room room (take_def (seen s) room msg).wrote ((every_write R).taking room msg y) (λ e. rw e)) (receives s room msg)
  follows (tables_call room tag t) y m =
      gives (tables_call room tag t) _ (brought room tag t m) (def.brought R room tag t) (in_room room (tables_def (seen s) room tag t).wrote ((every_write R).bringing room tag t) (λ e. rw e)) tt
  follows (plan_call tag out inn) y m =
      let is = planned_is tag out inn m in
      gives (plan_call tag out inn) _ is (def.planned R tag out inn y.0 y.1) (unwritten _ is m.wrote) tt
  follows (move_call tag d offset count) y m =
      let is = named tag d offset count m in
      gives (move_call tag d offset count) _ is (def.moved R tag d offset count) (unwritten _ is m.wrote) tt
  follows (step_call tag d) y m = let is = step_is tag d m in gives (step_call tag d) _ is (def.stepped R tag d) (unwritten _ is m.wrote) tt
  follows turn_call y m = let is = turn_is m in gives turn_call _ is (def.turned R) (unwritten _ is m.wrote) tt
  follows (finish_call room tag status sense) y m =
      gives (finish_call room tag status sense) _ (finished room tag status sense m) (def.finished R room tag status sense)
      (in_room room (finish_def (seen s) room tag status sense).wrote ((every_write R).finishing room tag status sense y) (λ e. rw e)) tt
  follows (add_call k) y m = let is = added k m in gives (add_call k) _ is (def.added R k) (unwritten _ is m.wrote) tt
  follows (withdraw_call k) y m = let is = withdrew k m in gives (withdraw_call k) _ is (def.withdrew R k) (unwritten _ is m.wrote) tt
  follows (grant_call room) y m = gives (grant_call room) _ (granted room m) (def.granted R room) (in_room room (grant_def (seen s) room).wrote ((every_write R).granting room) (λ e. rw e)) tt
  follows (close_call room reason) y m =
      gives (close_call room reason) _ (ended room reason m) (def.hung_up R room reason) (in_room room (close_def (seen s) room reason).wrote ((every_write R).closing room reason y) (λ e. rw e)) tt

-- every port of a run is one that a login made and calls changed
pub led_reached : (s : Memory) → Led s → def.Reached (seen s)
led_reached s (begins settings Q own msg room ss p store l) =
    subst (λ (o : Outcome). def.Reached o.port) (logged_in_lem l store) (def.logged_in_lem (settings_in settings Q) own room msg)
led_reached s (goes_on s₀ s₁ c r ss L y m) = (follows s₀ r ss s₁ (led_reached s₀ L) c y m).reached'

-- a message of a login request's length and type draws neither 3 nor 4
login_fields : (c : Settings) (own : List ℕ) (room : ℕ) (s : List ℕ) → length s ≡ login_req.size → type_of s ≡ login_req.code
    → login_def c own room s
    ≡ login_by_values c own room (get tag s) (get requested_length s) (get format_bits s) (get login_crsolnt s) (get login_losolnt s) (get channel_action s) (part target_identifier s)
login_fields c own room s l k =
    let e : first_of_checks (login_checks c room s) ≡ first_of_checks (setting_checks c room) = rw (l, k) in
    ap (λ (x : Option Refusal). unless x closed_port (judged (first_of_checks (rejections c own s)) c s)) e

-- a message that is read as a command draws none of look's checks
none_hits : (x : Option Refusal) (c d : Command) → unless_bad x (Ok (Cmd c)) ≡ Ok (Cmd d) → (x ≡ none) × (c ≡ d)
none_hits none c d e = (refl, cc)
none_hits (some r) c d e = let z : ◌≡◌ {A = ℕ} 0 1 = cc in absurd (omega arith)

look_by_layouts : (agreed formats : ℕ) (msg b b' : List ℕ) (n : ℕ) → JudgesLook agreed formats msg b b' n → LookByLayouts agreed formats msg b b' n
look_by_layouts agreed formats msg b b' n J c k e good room =
    let C = command_read_as agreed formats msg c k e in
    let look = none_hits (first_of_checks (look_checks agreed formats msg)) (command_of_lem msg) (command_in c msg) (sym (look_as_take agreed formats msg C.0.code good) ∙ C.1) in
    let hits : first_of_checks (short_answer (length b) ∷ look_checks agreed formats msg) ≡ none = rw (le-ltb (length b) answer_size room) look.0 in (
      C.0,
      J.unrefused.1 hits,
      J.performs hits
          ∙ ap (λ (x : Command). placed ((fetch_bytes (fetch_of x.out msg) ++ fetch_bytes (fetch_of x.inn msg)) ∷ []) b) look.1,
    )

-- of a login, accepted or not, and any store
login_by_layouts : (settings : List ℕ) (Q : ℕ) (own msg : List ℕ) (room : ℕ) (r : Result Reply Refusal) (ss : List (List ℕ)) (p store : List ℕ) → Bytes msg → LoggedIn settings Q own msg room r ss p
    → LoginByLayouts settings Q own msg room (record { reply = r; port = view p store; wrote = ss })
login_by_layouts settings Q own msg room r ss p store b l =
    let C : Settings = settings_in settings Q in
    let is = logged_in_lem l store in
    record {
      writes = subst (λ (o : Outcome). All (InRoom room) o.wrote) is (in_room room (login_def C own room msg).wrote (login_writes C own room msg b) (λ e. rw e));
      reads = λ n k. sym is ∙ login_fields C own room msg n k;
      request = λ t n f c o a i g h e. sym is ∙ ap (λ (s : List ℕ). login_def C own room s) e ∙ login_received C own room t n f c o a i g h;
    }

trace_by_layouts : (w : Way) (msg b b' : List ℕ) (n : ℕ) → JudgesTrace w msg b b' n → line_length ≤ length b → TraceByLayouts w msg b b' n
trace_by_layouts w msg b b' n J room =
    let hits : first_of_checks (trace_checks (length b)) ≡ none = rw (le-ltb (length b) line_length room) in
    record { number = J.unrefused.1 hits; buffer = J.performs hits; line = every_line w msg; values = prints_written w msg }

pub demand_2_in_c : Demand2InC
demand_2_in_c =
    record {
      calls = λ s s' c r ss L y m. follows s r ss s' (led_reached s L) c y m;
      login = λ settings Q own msg room r ss p store b l. login_by_layouts settings Q own msg room r ss p store b l;
      look = λ m b d agreed formats n post. look_by_layouts agreed formats m.now b.now d.now n (judges_look b.now d.now n agreed formats m.now post.1);
      trace = λ m b d direction n post. trace_by_layouts (way_in direction) m.now b.now d.now n (judges_trace b.now d.now n (way_in direction) m.now post.1);
    }
