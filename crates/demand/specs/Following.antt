-- Demand 2, of the C functions: "messages are read by the layouts of SRP-2, and what the port writes follows them too: fields written by the layouts read
-- back as those fields, on either side". It is said along every run from an accepted login; its premises are C's types: messages are bytes, and
-- numbers have the widths that the header gives them.
use Rattle.std.specs.Prelude.{◌≡◌, true, false, ◌||◌, List, [], ◌∷◌, ◌++◌, ℕ, ◌+◌, ◌*◌, ◌^◌, ◌<◌, ◌≤◌, length, Result, Ok}
use contract.Lifetimes.{Lfts}
use Rattle.srp.specs.Limits.{answer_size, both_formats}
use Rattle.srp.specs.Bytes.{Bytes, bytes_of, get, part, type_of, write, InRange}
use Rattle.srp.specs.Messages.{tag, format_bits, requested_length, login_crsolnt, login_losolnt, channel_action, target_identifier, login_req, tsk_mgmt, cmd, i_logout, cred_rsp}
use Rattle.srp.specs.Initiator.{CommandFields, values, command_bytes, format_of, Fit, Copied, command_in, Reads}
use Rattle.srp.specs.Descriptors.{agrees, fetch_of}
use Rattle.srp.specs.Lists.{All}
use Rattle.srp.specs.Requests.{Reading, flag, ReadAs, bad_length, other_formats_lem}
use Rattle.srp.specs.Writing.{placed}
use Rattle.srp.specs.Outside.{fetch_bytes}
use Rattle.srp.specs.Take.{Outcome, Tables, take_read}
use Rattle.srp.specs.Login.{login_by_values}
use Rattle.srp.specs.Ranges.{Reached, Ranged}
use Rattle.srp.specs.Sent.{Follows}
use Rattle.srp.specs.declared.Descriptor.{Descriptor}
use Rattle.srp.specs.declared.Direction.{Direction}
use Rattle.srp.specs.declared.Message.TheVariants.{Cmd, TskMgmt, CredRsp, ILogout}
use Rattle.srp.specs.declared.Terms.{Terms}
use Rattle.srp.specs.declared.Reply.{Reply}
use Rattle.srp.specs.declared.Reply.TheVariants.{Accepted}
use Rattle.request.proofs.read_message.Reads as read-message
use Rattle.words.specs.View.{view}
use Rattle.page.specs.Page.{trace_line, line_length, OneLine}
use Rattle.page.specs.Written.{PrintsWritten}
use Rattle.page.specs.declared.Way.{Way}
use Rattle.exports.specs.Arguments.{settings_in, way_in}
use Rattle.demand.specs.Posts.{Slice, MutSlice, LookPost, TracePost}
use Rattle.demand.specs.Judgement.{read_on}
use Rattle.demand.specs.Calls.{Memory, seen, LoggedIn, Took, Brought, Finished, Granted, Ended, Planned, Named, Stepped, Turned, Added, Withdrew}
use Rattle.srp.specs.declared.Refusal.{Refusal}

-- ── the calls

-- a call that may change a port, with its arguments; `room` is the length of the lent buffer
pub data PortCall : Type 0 where
  take_call : (room : ℕ) (msg : List ℕ) → PortCall
  tables_call : (room tag : ℕ) → Tables → PortCall
  plan_call : (tag out inn : ℕ) → PortCall
  move_call : (tag : ℕ) → Direction → (offset count : ℕ) → PortCall
  step_call : (tag : ℕ) → Direction → PortCall
  turn_call : PortCall
  finish_call : (room tag status : ℕ) (sense : List ℕ) → PortCall
  add_call : ℕ → PortCall
  withdraw_call : ℕ → PortCall
  grant_call : (room : ℕ) → PortCall
  close_call : (room reason : ℕ) → PortCall

-- ── a message put to take

-- a command that an initiator may write where this length and these formats are agreed: its values are in their ranges, its CDB has the length that n
-- says, its formats are agreed, its copies fit, and it is not too long
pub record Sendable (agreed formats : ℕ) (c : CommandFields) : Type 0 where
  pub ranged : InRange cmd.fields (values c)
  pub cdb : length c.cdb ≡ 16 + 4 * c.n
  pub out_fits : Fit c.out × Copied c.out × (agrees formats (format_of c.out) ≡ true)
  pub in_fits : Fit c.inn × Copied c.inn × (agrees formats (format_of c.inn) ≡ true)
  pub fits : length (command_bytes c) ≤ agreed

-- a message msg put to take on s, whose reply, port and messages are the outcome o
pub record Receives (s : Memory) (room : ℕ) (msg : List ℕ) (o : Outcome) : Type 0 where
  -- it is read as the fields of its layout, and the outcome is that of what was read
  pub layout : ReadAs (seen s).terms.agreed msg (read_on (seen s) msg)
  pub outcome : o ≡ take_read (seen s) room msg (read_on (seen s) msg)
  -- `read_message` reads it so, by its own contract
  pub reader : (κs : Lfts 1) (m : Slice) → m.now ≡ msg → (x : Reading)
      → let T : Terms = (seen s).terms in
      read-message.Post κs (m, (T.agreed, (T.formats, tt))) x (m, (T.agreed, (T.formats, tt))) → x ≡ read_on (seen s) msg
  -- written by the layouts while the channel is open, it is read as the values that were written
  pub task : (seen s).live ≡ true → (u c g l f k : ℕ) → InRange tsk_mgmt.fields (u ∷ c ∷ g ∷ l ∷ f ∷ k ∷ []) → msg ≡ write tsk_mgmt (u ∷ c ∷ g ∷ l ∷ f ∷ k ∷ [])
      → o ≡ take_read (seen s) room msg (Ok (TskMgmt (record { request = record { tag = g; lun = l; ucsolnt = flag u; scsolnt = flag c }; function = f; managed = k })))
  pub credit : (seen s).live ≡ true → (g : ℕ) → InRange cred_rsp.fields (g ∷ []) → msg ≡ write cred_rsp (g ∷ []) → o ≡ take_read (seen s) room msg (Ok (CredRsp g))
  pub logout : (seen s).live ≡ true → (vs : List ℕ) → InRange i_logout.fields vs → msg ≡ write i_logout vs → o ≡ take_read (seen s) room msg (Ok ILogout)
  -- of a command also the CDB and both buffers, with their addresses, handles and lengths (`Reads`)
  pub command : (c : CommandFields) → Sendable (seen s).terms.agreed (seen s).terms.formats c → msg ≡ command_bytes c
      → Reads c msg × (o ≡ take_read (seen s) room msg (Ok (Cmd (command_in c msg))))

-- ── what each call is

-- what a call is: that it was made, with its reply, what it wrote and what it left; C's types of its arguments, as far as a message can carry them; the
-- length of its lent buffer; and what is said of a message put to it, whose outcome is o
pub record Calling : Type 1 where
  pub made : (s : Memory) (r : Result Reply Refusal) (ss : List (List ℕ)) (s' : Memory) → Type 0
  pub typed : Type 0
  pub room : ℕ
  pub received : (s : Memory) (o : Outcome) → Type 0

-- a call that gets no message: with a lent buffer, and without
abbrev pub writing : ℕ → (Memory → Result Reply Refusal → List (List ℕ) → Memory → Type 0) → Type 0 → Calling
writing room made typed = record { made = made; typed = typed; room = room; received = λ s o. Unit {0} }

abbrev pub quiet : (Memory → Result Reply Refusal → List (List ℕ) → Memory → Type 0) → Type 0 → Calling
quiet made typed = writing 0 made typed

abbrev pub calling_of : PortCall → Calling
calling_of (take_call room msg) = record { made = λ s. Took s room msg; typed = Bytes msg; room = room; received = λ s o. Receives s room msg o }
calling_of (tables_call room tag t) = writing room (λ s. Brought s room tag t) (Unit {0})
calling_of (plan_call tag out inn) = quiet (λ s. Planned s tag out inn) ((out < 2 ^ 32) × (inn < 2 ^ 32))
calling_of (move_call tag d offset count) = quiet (λ s. Named s tag d offset count) (Unit {0})
calling_of (step_call tag d) = quiet (λ s. Stepped s tag d) (Unit {0})
calling_of turn_call = quiet Turned (Unit {0})
calling_of (finish_call room tag status sense) = writing room (λ s. Finished s room tag status sense) (status < 2 ^ 8)
calling_of (add_call k) = quiet (λ s. Added s k) (Unit {0})
calling_of (withdraw_call k) = quiet (λ s. Withdrew s k) (Unit {0})
calling_of (grant_call room) = writing room (λ s. Granted s room) (Unit {0})
calling_of (close_call room reason) = writing room (λ s. Ended s room reason) (reason < 2 ^ 32)

-- ── a run

-- what an accepted login left, with any store, and what calls made of it one after the other
pub data Led : Memory → Type 0 where
  begins : (settings : List ℕ) (Q : ℕ) (own msg : List ℕ) (room : ℕ) (ss : List (List ℕ)) (p store : List ℕ) → LoggedIn settings Q own msg room (Ok Accepted) ss p
      → Led (record { words = p; store = store })
  goes_on : (s s' : Memory) (c : PortCall) (r : Result Reply Refusal) (ss : List (List ℕ)) → Led s → (calling_of c).typed → (calling_of c).made s r ss s' → Led s'

-- ── what is said of each call of it

-- a message written follows its layout, and fits the lent buffer
abbrev pub InRoom : ℕ → List ℕ → Type 0
InRoom room m = Follows m × (length m ≤ room)

pub record ByLayouts (s : Memory) (c : PortCall) (r : Result Reply Refusal) (ss : List (List ℕ)) (s' : Memory) : Type 0 where
  -- the ports before and after it are ones that a login made and calls changed, and in the ranges of such ports
  pub reached : Reached (seen s)
  pub ranged : Ranged (seen s)
  pub reached' : Reached (seen s')
  pub ranged' : Ranged (seen s')
  pub writes : All (InRoom (calling_of c).room) ss
  pub received : (calling_of c).received s (record { reply = r; port = seen s'; wrote = ss })

-- ── and of a login, accepted or not

-- o is the outcome: the reply, the port, the message
pub record LoginByLayouts (settings : List ℕ) (Q : ℕ) (own msg : List ℕ) (room : ℕ) (o : Outcome) : Type 0 where
  pub writes : All (InRoom room) o.wrote
  -- a message of its length and type is read as the fields of its layout: the outcome is made of them
  pub reads : length msg ≡ login_req.size → type_of msg ≡ login_req.code
      → o ≡ login_by_values (settings_in settings Q) own room (get tag msg) (get requested_length msg) (get format_bits msg) (get login_crsolnt msg) (get login_losolnt msg) (get channel_action msg) (part target_identifier msg)
  -- and one that was written by the layout, as the values that were written
  pub request : (t n f c l a i g : ℕ) → InRange login_req.fields (t ∷ n ∷ f ∷ c ∷ l ∷ a ∷ i ∷ g ∷ []) → msg ≡ write login_req (t ∷ n ∷ f ∷ c ∷ l ∷ a ∷ i ∷ g ∷ [])
      → o ≡ login_by_values (settings_in settings Q) own room t n f c l a (bytes_of 16 g)

-- ── and of look

-- a command that was written by the layouts is read as its values, and look names the tables of its two buffers
abbrev pub LookByLayouts : (agreed formats : ℕ) (msg b b' : List ℕ) (n : ℕ) → Type 0
LookByLayouts agreed formats msg b b' n =
    (c : CommandFields) → Sendable agreed formats c → msg ≡ command_bytes c → (bad_length agreed || other_formats_lem both_formats formats) ≡ false → answer_size ≤ length b
    → let f : Descriptor → List ℕ = λ d. fetch_bytes (fetch_of d msg) in
    Reads c msg × (n ≡ 0) × (b' ≡ placed ((f (command_in c msg).out ++ f (command_in c msg).inn) ∷ []) b)

-- ── and of trace

-- a message that was written by its layout prints the values that were written, in one line
pub record TraceByLayouts (w : Way) (msg b b' : List ℕ) (n : ℕ) : Type 0 where
  pub number : n ≡ 0
  pub buffer : b' ≡ placed (trace_line w msg ∷ []) b
  pub line : OneLine (trace_line w msg)
  pub values : PrintsWritten w msg

-- ── demand 2, whole

pub record Demand2InC : Type 0 where
  pub calls : (s s' : Memory) (c : PortCall) (r : Result Reply Refusal) (ss : List (List ℕ)) → Led s → (calling_of c).typed → (calling_of c).made s r ss s' → ByLayouts s c r ss s'
  pub login : (settings : List ℕ) (Q : ℕ) (own msg : List ℕ) (room : ℕ) (r : Result Reply Refusal) (ss : List (List ℕ)) (p store : List ℕ) → Bytes msg → LoggedIn settings Q own msg room r ss p
      → LoginByLayouts settings Q own msg room (record { reply = r; port = view p store; wrote = ss })
  pub look : (m : Slice) (b d : MutSlice) (agreed formats n : ℕ) → LookPost m b d agreed formats n → LookByLayouts agreed formats m.now b.now d.now n
  pub trace : (m : Slice) (b d : MutSlice) (direction n : ℕ) → TracePost m b d direction n → line_length ≤ length b.now
      → TraceByLayouts (way_in direction) m.now b.now d.now n
