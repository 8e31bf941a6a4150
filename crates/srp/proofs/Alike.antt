-- Messages that are alike in what take, look and login read have the same outcome.
-- Assumes nothing.
use mathlib.Core.Path.{◌≡◌, refl, sym, ap, fun_ext, ◌∙◌}
use mathlib.Core.Bool.{Bool, true, false, cond, ◌&&◌}
use mathlib.Core.List.{List, [], ◌∷◌, Memᴰ}
use mathlib.Core.Option.{Option, none, some}
use Prim.Native.Nat.{ℕ, ◌+◌, ◌-◌, ◌*◌, ◌≤◌}
use native.Mathlib.Omega.{arith}
use lib.Dec.{leb, eqb}
use lib.ListN.{length, drop}
use lib.Seq.{drop-drop}
use borrow.Author.Tests.{leb-true}
use Rattle.std.specs.Prelude.{Ok}
use Rattle.srp.specs.Bytes.{Field, get, put, gets, kind, type_of, inside, apart_from}
use Rattle.srp.specs.Messages.{tag, lun, ucsolnt, scsolnt, out_format, in_format, out_count, in_count_lem, additional, task_function, task_tag, format_bits, requested_length, login_crsolnt, login_losolnt, channel_action, tsk_mgmt, cmd, i_logout, cred_rsp}
use Rattle.srp.specs.Lists.{All}
use Rattle.srp.specs.Refusals.{Conduct, hangs_up, answered, stays, alters_nothing, conduct_of, Check, first_of_checks, unless_bad}
use Rattle.srp.specs.Descriptors.{descriptor_size, descriptor_of_lem, fetch_of, given}
use Rattle.srp.specs.Requests.{Reading, request_of_lem, out_at, in_at, out_descriptor, in_descriptor, command_of_lem, command_checks, task_of, sized, length_checks, read_message_lem, look_def}
use Rattle.srp.specs.Credit.{Open, Port}
use Rattle.srp.specs.Take.{answering, leaving, given_in, task_code, aborted, later_checks, accepted, request_in, conducted, take_by, take_checks, take_read, take_def}
use Rattle.srp.specs.Writing.{answer, solicited}
use Rattle.srp.specs.Login.{login_def}
use Rattle.srp.specs.declared.Settings.{Settings}
use Rattle.srp.specs.Unread.{also, changed, ChangeOf}
use Rattle.srp.specs.declared.Refusal.{Refusal}
use Rattle.srp.specs.declared.Refusal.TheVariants.{Length, OtherType}
use Rattle.srp.specs.declared.Descriptor.{Descriptor}
use Rattle.srp.specs.declared.Command.{Command}
use Rattle.srp.specs.declared.Message.TheVariants.{Cmd, TskMgmt, CredRsp, ILogout}
use Rattle.std.specs.declared.result.Result.TheVariants.{Err}
use Rattle.srp.specs.declared.Reply.TheVariants.{TaskAnswered}
use Rattle.srp.proofs.FieldLaws.{both, ends, length_put, drop_put}
use Rattle.srp.proofs.Layouts.{gets_apart}

-- ── what is read before byte 48, but for the type

-- of a command, by the tests of the two formats for 2
abbrev pub command_reads : Bool → Bool → List Field
command_reads o i = also o out_count (also i in_count_lem (out_format ∷ in_format ∷ additional ∷ tag ∷ lun ∷ ucsolnt ∷ scsolnt ∷ []))

abbrev pub command_reads_in : List ℕ → List Field
command_reads_in s = command_reads (eqb (get out_format s) 2) (eqb (get in_format s) 2)

-- of a task management, by the test of the function for 01h
abbrev pub task_reads : Bool → List Field
task_reads m = also m task_tag (task_function ∷ tag ∷ lun ∷ ucsolnt ∷ scsolnt ∷ [])

abbrev pub login_reads : List Field
login_reads = tag ∷ requested_length ∷ format_bits ∷ login_crsolnt ∷ login_losolnt ∷ channel_action ∷ []

-- by the tests for the four types of a message to a port, and by its type
abbrev pub pick : {A : Type 0} → Bool → Bool → Bool → Bool → A → A → A → A → A → A
pick b₁ b₂ b₃ b₄ command task logout credit other = cond b₁ command (cond b₂ task (cond b₃ logout (cond b₄ credit other)))

abbrev pub of_type : {P : Bool → Bool → Bool → Bool → Type 0} → ((b₁ b₂ b₃ b₄ : Bool) → P b₁ b₂ b₃ b₄) → (k : ℕ)
    → P (eqb k cmd.code) (eqb k tsk_mgmt.code) (eqb k i_logout.code) (eqb k cred_rsp.code)
of_type f k = f (eqb k cmd.code) (eqb k tsk_mgmt.code) (eqb k i_logout.code) (eqb k cred_rsp.code)

abbrev pub reads_as : Bool → Bool → Bool → Bool → Bool → Bool → Bool → List Field
reads_as b₁ b₂ b₃ b₄ o i m = pick b₁ b₂ b₃ b₄ (command_reads o i) (task_reads m) [] (tag ∷ []) []

abbrev pub reads_in : List ℕ → List Field
reads_in s = of_type reads_as (type_of s) (eqb (get out_format s) 2) (eqb (get in_format s) 2) (eqb (get task_function s) 1)

-- ── alike

-- two messages of one length and type that differ neither in the fields fs nor from byte n on
pub record Alike (fs : List Field) (n : ℕ) (s s' : List ℕ) : Type 0 where
  pub long : length s ≡ length s'
  pub code : type_of s ≡ type_of s'
  pub same : gets fs s ≡ gets fs s'
  pub far : drop n s ≡ drop n s'

-- u lies before byte 48, apart from the type and from fs
abbrev clear : List Field → Field → Bool
clear fs u = apart_from u (kind ∷ fs) && leb (ends u) 48

abbrev pub all_clear : List Field → List Field → Bool
all_clear fs [] = true
all_clear fs (u ∷ us) = clear fs u && all_clear fs us

clear_at : (fs us : List Field) {u : Field} → all_clear fs us ≡ true → Memᴰ u us → clear fs u ≡ true
clear_at fs [] e m = elim m [ ]
clear_at fs (x ∷ us) e (Memᴰ.head q) = ap (clear fs) q ∙ (both (clear fs x) (all_clear fs us) e).0
clear_at fs (x ∷ us) e (Memᴰ.tail m) = clear_at fs us (both (clear fs x) (all_clear fs us) e).1 m

-- a message with changes in fields that are clear of fs is alike
pub alike : (fs us : List Field) (n : ℕ) (s : List ℕ) → all_clear fs us ≡ true → 48 ≤ n → (cs : List (Field × ℕ)) → All (ChangeOf us (length s)) cs → Alike fs n (changed cs s) s
alike fs us n s e k [] w = record { long = refl; code = refl; same = refl; far = refl }
alike fs us n s e k (c ∷ cs) w =
    let u : Field = c.0 in
    let x : List ℕ = changed cs s in
    let a : Alike fs n x s = alike fs us n s e k cs w.1 in
    let i : inside (length x) u ≡ true = rw a.long w.0.1 in
    let q = both (apart_from u (kind ∷ fs)) (leb (ends u) 48) (clear_at fs us e w.0.0) in
    let g : gets (kind ∷ fs) (put u c.1 x) ≡ gets (kind ∷ fs) x = gets_apart u (kind ∷ fs) c.1 x i w.0.2 q.0 in
    let l = leb-true (ends u) 48 q.1 in
    record { long = length_put u c.1 x i ∙ a.long; code = cc; same = cc; far = drop_put u c.1 x i n (omega arith) ∙ a.far }

-- a field that is read where the test holds
also_same : (b : Bool) (f : Field) (fs : List Field) (s s' : List ℕ) → gets (also b f fs) s ≡ gets (also b f fs) s'
    → (cond b (get f s) 0 ≡ cond b (get f s') 0) × (gets fs s ≡ gets fs s')
also_same true f fs s s' e = (cc, cc)
also_same false f fs s s' e = (refl, e)

-- ── two messages that do not differ where the descriptors stand

module _ (s s' : List ℕ) (far : drop (out_at s') s ≡ drop (out_at s') s') where
  farther : (at : ℕ) → out_at s' ≤ at → drop at s ≡ drop at s'
  farther at h =
      let n : ℕ = out_at s' in
      let e : n + (at - n) ≡ at = omega arith in
      rw e at (sym (drop-drop (at - n) n s) ∙ ap (drop (at - n)) far ∙ drop-drop (at - n) n s')

  -- the count matters for format 2 alone
  direction_same : (format count count' at : ℕ) → out_at s' ≤ at → cond (eqb format 2) count 0 ≡ cond (eqb format 2) count' 0
      → (descriptor_of_lem format count at s ≡ descriptor_of_lem format count' at s') × (descriptor_size format count ≡ descriptor_size format count')
  direction_same format count count' at h e = (cc (farther (at + 12) (omega arith), farther (at + 16) (omega arith)), size (eqb format 2) e)
    where
      size : (b : Bool) → cond b count 0 ≡ cond b count' 0 → cond (eqb format 1) 16 (cond b (20 + 16 * count) 0) ≡ cond (eqb format 1) 16 (cond b (20 + 16 * count') 0)
      size true e = cc
      size false e = refl

  module _ (d : Descriptor) (h : out_at s' ≤ d.at) where
    given_same : given d s ≡ given d s'
    given_same = rw (farther d.at h, farther (d.at + 20) (omega arith))

    fetch_same : fetch_of d s ≡ fetch_of d s'
    fetch_same = rw (farther (d.at + 0) (omega arith), farther (d.at + 8) (omega arith))

-- ── two commands that are alike

record Commands (s s' : List ℕ) : Type 0 where
  out : out_descriptor s ≡ out_descriptor s'
  inn : in_descriptor s ≡ in_descriptor s'
  command : command_of_lem s ≡ command_of_lem s'
  checks : (formats : ℕ) → command_checks formats s ≡ command_checks formats s'

module _ (s s' : List ℕ) (a : Alike (command_reads_in s') (out_at s') s s') where
  commands : Commands s s'
  commands =
      let o = also_same (eqb (get out_format s') 2) out_count (command_reads false (eqb (get in_format s') 2)) s s' a.same in
      let i = also_same (eqb (get in_format s') 2) in_count_lem (command_reads false false) s s' o.1 in
      let d = direction_same s s' a.far (get out_format s') (get out_count s) (get out_count s') (out_at s') (omega arith) o.0 in
      let e = direction_same s s' a.far (get in_format s') (get in_count_lem s) (get in_count_lem s') (in_at s') (omega arith) i.0 in
      record { out = cc; inn = cc; command = cc; checks = λ formats. cc }

  -- look's outcome is the same
  pub look_alike : (agreed formats : ℕ) → look_def agreed formats s ≡ look_def agreed formats s'
  look_alike agreed formats =
      let c = commands in
      let e = c.checks formats in
      let o = fetch_same s s' a.far (out_descriptor s') (omega arith) in
      let i = fetch_same s s' a.far (in_descriptor s') (omega arith) in
      cc

-- ── take

-- by_type, by the tests
abbrev read_as_lem : Bool → Bool → Bool → Bool → ℕ → List ℕ → Reading
read_as_lem b₁ b₂ b₃ b₄ formats s =
    pick b₁ b₂ b₃ b₄ (unless_bad (first_of_checks (command_checks formats s)) (Ok (Cmd (command_of_lem s)))) (sized 48 s (Ok (TskMgmt (task_of s)))) (sized 16 s (Ok ILogout))
    (sized 16 s (Ok (CredRsp (get tag s)))) (Err OtherType)

module _ (p : Port) (s s' : List ℕ) where
  -- what is read of s and what is read of s' are treated alike
  record Same (m m' : Reading) : Type 0 where
    checks : later_checks p s m ≡ later_checks p s' m'
    done : accepted p s m ≡ accepted p s' m'
    request : request_in m ≡ request_in m'

  same_bad : (r : Refusal) → Same (Err r) (Err r)
  same_bad r = record { checks = refl; done = refl; request = refl }

  same_unless : (cs cs' : List Check) {m m' : Reading} → cs ≡ cs' → Same m m' → Same (unless_bad (first_of_checks cs) m) (unless_bad (first_of_checks cs') m')
  same_unless cs cs' {m} {m'} e h = rw e (go (first_of_checks cs'))
    where
      go : (o : Option Refusal) → Same (unless_bad o m) (unless_bad o m')
      go none = h
      go (some r) = same_bad r

  same_sized : (b : Bool) {m m' : Reading} → Same m m' → Same (cond b m (Err Length)) (cond b m' (Err Length))
  same_sized true h = h
  same_sized false h = same_bad Length

  same_command : Alike (command_reads_in s') (out_at s') s s' → Same (Ok (Cmd (command_of_lem s))) (Ok (Cmd (command_of_lem s')))
  same_command a =
      let o = given_same s s' a.far (out_descriptor s') (omega arith) in
      let i = given_same s s' a.far (in_descriptor s') (omega arith) in
      let e = (commands s s' a).command in
      let g : given_in (command_of_lem s) s ≡ given_in (command_of_lem s') s' = ap (λ (c : Command). given_in c s) e ∙ (λ j. record { out = o j; inn = i j }) in
      record { checks = cc; done = cc; request = cc }

  same_task : gets (task_reads (eqb (get task_function s') 1)) s ≡ gets (task_reads (eqb (get task_function s') 1)) s' → Same (Ok (TskMgmt (task_of s))) (Ok (TskMgmt (task_of s')))
  same_task e =
      let a = also_same (eqb (get task_function s') 1) task_tag (task_reads false) s s' e in
      let r : gets (task_reads false) s ≡ gets (task_reads false) s' = a.1 in
      let b : (c : Open) → aborted (task_of s) c ≡ aborted (task_of s') c =
      λ c. cc (managed (eqb (get task_function s') 1) c.request.tag a.0) in
      let w = ap (λ (f : Open → Bool). leaving p (p.announced - 1) f) (fun_ext b) in
      let q : request_of_lem s ≡ request_of_lem s' = cc in
      let f : get task_function s ≡ get task_function s' = cc in
      let done : accepted p s (Ok (TskMgmt (task_of s))) ≡ accepted p s' (Ok (TskMgmt (task_of s'))) =
      λ j. answering (w j) (Ok (TaskAnswered (q j).tag (q j).lun)) (answer (solicited (q j) (task_code (f j))) (q j).tag (task_code (f j))) in
      record { checks = cc; done = done; request = q }
    where
      managed : (b : Bool) (g : ℕ) → cond b (get task_tag s) 0 ≡ cond b (get task_tag s') 0 → (b && eqb (get task_tag s) g) ≡ (b && eqb (get task_tag s') g)
      managed true g e = cc
      managed false g e = refl

  same_as : (b₁ b₂ b₃ b₄ : Bool) (formats : ℕ) → Alike (reads_as b₁ b₂ b₃ b₄ (eqb (get out_format s') 2) (eqb (get in_format s') 2) (eqb (get task_function s') 1)) (out_at s') s s'
      → Same (read_as_lem b₁ b₂ b₃ b₄ formats s) (read_as_lem b₁ b₂ b₃ b₄ formats s')
  same_as true b₂ b₃ b₄ formats a = same_unless (command_checks formats s) (command_checks formats s') ((commands s s' a).checks formats) (same_command a)
  same_as false true b₃ b₄ formats a = rw a.long (same_sized (eqb (length s') 48) (same_task a.same))
  same_as false false true b₄ formats a = rw a.long (same_sized (eqb (length s') 16) (record { checks = refl; done = refl; request = refl }))
  same_as false false false true formats a = rw a.long (same_sized (eqb (length s') 16) (record { checks = cc; done = refl; request = refl }))
  same_as false false false false formats a = same_bad OtherType

  same_take : (room : ℕ) (m m' : Reading) → Same m m' → take_read p room s m ≡ take_read p room s' m'
  same_take room m m' h = cc (by (first_of_checks (take_checks p room s' m')))
    where
      refused : (c : Conduct) (r : Refusal) → conducted c p m r ≡ conducted c p m' r
      refused (hangs_up reason) r = refl
      refused answered r = rw h.request
      refused stays r = refl
      refused alters_nothing r = refl

      by : (o : Option Refusal) → take_by o p s m ≡ take_by o p s' m'
      by none = h.done
      by (some r) = refused (conduct_of r) r

  -- take's outcome is the same for two messages alike in what is read of their type
  pub take_alike : (room : ℕ) → Alike (reads_in s') (out_at s') s s' → take_def p room s ≡ take_def p room s'
  unfolding read_message_lem
  take_alike room a = same_take room (read_message_lem p.terms.agreed p.terms.formats s) (read_message_lem p.terms.agreed p.terms.formats s')
      (same_unless (length_checks p.terms.agreed s) (length_checks p.terms.agreed s') (cc) (rw a.code (of_type same_as (type_of s') p.terms.formats a)))

-- ── login

-- login's outcome is the same for two messages alike in what a login reads
pub login_alike : (c : Settings) (own : List ℕ) (room : ℕ) (s s' : List ℕ) → Alike login_reads 48 s s' → login_def c own room s ≡ login_def c own room s'
login_alike c own room s s' a = cc
