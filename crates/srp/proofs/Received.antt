-- The initiator's messages, written by the layouts, are read by the port as those fields; and look refuses of a command just what take does.
-- Assumes nothing.
use mathlib.Core.Path.{◌≡◌, refl, ap, ◌∙◌}
use mathlib.Core.Logic.{◌↔◌}
use mathlib.Core.Bool.{Bool, true, false, cond, not, ◌||◌}
use mathlib.Core.List.{List, [], ◌∷◌, ◌++◌}
use mathlib.Core.Option.{Option, none, some}
use Prim.Native.Nat.{ℕ, ◌+◌, ◌*◌, ◌/◌, ◌≤◌}
use native.Mathlib.Omega.{arith}
use lib.Dec.{eqb}
use lib.ListN.{length}
use borrow.Author.Tests.{le-ltb, eq-eqb}
use Rattle.srp.specs.Limits.{both_formats}
use Rattle.srp.specs.Bytes.{bytes_of, get, part, put, gets, zeros, kind, type_of, write, InRange}
use Rattle.srp.specs.Messages.{tag, format_bits, requested_length, login_crsolnt, login_losolnt, channel_action, initiator_identifier, target_identifier, out_format, in_format, login_req, tsk_mgmt, cmd, i_logout, cred_rsp}
use Rattle.srp.specs.Refusals.{Check, first_of_checks, unless_bad}
use Rattle.srp.specs.Descriptors.{agrees, descriptor_of_lem, bad_count}
use Rattle.srp.specs.Requests.{Reading, flag, exact_length, out_descriptor, in_descriptor, command_of_lem, command_checks, task_of, length_checks, by_type, read_message_lem, other_formats_lem, look_checks, look_outcome, look_def, bad_length}
use Rattle.srp.specs.Initiator.{Buffer, no_data, direct, indirect, format_of, count_of, CommandFields, values, command_bytes, Fit, Copied, Says, command_in, Reads}
use Rattle.srp.specs.Login.{login_by_values, setting_checks, login_checks, login_def}
use Rattle.srp.specs.declared.Settings.{Settings}
use Rattle.srp.specs.declared.Refusal.{Refusal}
use Rattle.srp.specs.declared.Refusal.TheVariants.{OtherType}
use Rattle.srp.specs.declared.Descriptor.{Descriptor}
use Rattle.srp.specs.declared.Message.TheVariants.{Cmd, TskMgmt, CredRsp, ILogout}
use Rattle.std.specs.declared.result.Result.TheVariants.{Ok, Err}
use Rattle.srp.proofs.Checks.{clear}
use Rattle.srp.specs.ReadBack.{Written}
use Rattle.srp.proofs.FieldLaws.{part_put}
use Rattle.srp.proofs.Layouts.{part_reserved, written}
use Rattle.srp.proofs.Commands.{command_read}

-- ── requests, credit responses and logouts

module _ (agreed formats : ℕ) where
  -- from 16 bytes to the agreed length, a message is read by its type
  by_length : (s : List ℕ) → 16 ≤ length s → length s ≤ agreed → read_message_lem agreed formats s ≡ by_type (type_of s) formats s
  unfolding read_message_lem
  by_length s h k = rw (clear (length_checks agreed s) (le-ltb (length s) 16 h, (le-ltb agreed (length s) k, tt)))

  task_read : (s : List ℕ) (u c t l f m : ℕ) → length s ≡ 48 → type_of s ≡ 0x01 → gets tsk_mgmt.fields s ≡ u ∷ c ∷ t ∷ l ∷ f ∷ m ∷ [] → 48 ≤ agreed
      → read_message_lem agreed formats s ≡ Ok (TskMgmt (record { request = record { tag = t; lun = l; ucsolnt = flag u; scsolnt = flag c }; function = f; managed = m }))
  task_read s u c t l f m n k v h =
      let e : task_of s ≡ record { request = record { tag = t; lun = l; ucsolnt = flag u; scsolnt = flag c }; function = f; managed = m } = cc in
      by_length s (omega arith) (omega arith) ∙ rw (k, n, e)

  -- a task management request is read as it was written
  pub task_received : (u c t l f m : ℕ) → InRange tsk_mgmt.fields (u ∷ c ∷ t ∷ l ∷ f ∷ m ∷ []) → 48 ≤ agreed
      → read_message_lem agreed formats (write tsk_mgmt (u ∷ c ∷ t ∷ l ∷ f ∷ m ∷ [])) ≡ Ok (TskMgmt (record { request = record { tag = t; lun = l; ucsolnt = flag u; scsolnt = flag c }; function = f; managed = m }))
  task_received u c t l f m r h =
      let w : Written tsk_mgmt (u ∷ c ∷ t ∷ l ∷ f ∷ m ∷ []) = written tsk_mgmt refl _ r in
      task_read _ u c t l f m w.long w.code w.values h

  logout_read : (s : List ℕ) → length s ≡ 16 → type_of s ≡ 0x03 → 16 ≤ agreed → read_message_lem agreed formats s ≡ Ok ILogout
  logout_read s n k h = by_length s (omega arith) (omega arith) ∙ rw (k, n)

  -- an initiator's logout is read as one
  pub logout_received : (vs : List ℕ) → InRange i_logout.fields vs → 16 ≤ agreed → read_message_lem agreed formats (write i_logout vs) ≡ Ok ILogout
  logout_received vs r h = let w : Written i_logout vs = written i_logout refl vs r in logout_read _ w.long w.code h

  credit_read : (s : List ℕ) (t : ℕ) → length s ≡ 16 → type_of s ≡ 0x41 → gets cred_rsp.fields s ≡ t ∷ [] → 16 ≤ agreed → read_message_lem agreed formats s ≡ Ok (CredRsp t)
  credit_read s t n k v h = by_length s (omega arith) (omega arith) ∙ rw (k, n) cc

  -- a credit response is read with its tag
  pub credit_received : (t : ℕ) → InRange cred_rsp.fields (t ∷ []) → 16 ≤ agreed → read_message_lem agreed formats (write cred_rsp (t ∷ [])) ≡ Ok (CredRsp t)
  credit_received t r h = let w : Written cred_rsp (t ∷ []) = written cred_rsp refl _ r in credit_read _ t w.long w.code w.values h

-- ── commands

good_count : (b : Buffer) (at : ℕ) (d : Descriptor) (s : List ℕ) → Copied b → d ≡ descriptor_of_lem (format_of b) (count_of b) at s → Says b d s → bad_count d ≡ false
good_count no_data at d s k e y = ap bad_count e
good_count (direct a h n) at d s k e y = ap bad_count e
good_count (indirect a h n t w) at d s k e y =
    let f : d.format ≡ 2 = ap (λ (x : Descriptor). x.format) e in
    let c : d.count ≡ length w / 16 = ap (λ (x : Descriptor). x.count) e in
    rw (f, c, y.len, le-ltb 32 (length w / 16) (omega (arith, k.0)), le-ltb n (16 * (length w / 16)) (omega (arith, k.1)))

-- a command whose formats are agreed, whose copies fit and that is not too long is read as it was written
pub command_received : (agreed formats : ℕ) (c : CommandFields) → InRange cmd.fields (values c) → length c.cdb ≡ 16 + 4 * c.n → Fit c.out → Fit c.inn
    → Copied c.out → Copied c.inn → agrees formats (format_of c.out) ≡ true → agrees formats (format_of c.inn) ≡ true → length (command_bytes c) ≤ agreed
    → read_message_lem agreed formats (command_bytes c) ≡ Ok (Cmd (command_in c (command_bytes c)))
command_received agreed formats c h l fo fi ko ki ao ai n = go (command_bytes c) (command_read c h l fo fi) n
  where
    go : (s : List ℕ) → Reads c s → length s ≤ agreed → read_message_lem agreed formats s ≡ Ok (Cmd (command_in c s))
    go s r n =
        let v = r.fields in
        let e = r.command in
        let f : get out_format s ≡ format_of c.out = cc in
        let g : get in_format s ≡ format_of c.inn = cc in
        let o : out_descriptor s ≡ (command_in c s).out = cc in
        let i : in_descriptor s ≡ (command_in c s).inn = cc in
        let m : 48 ≤ length s = omega (arith, r.long) in
        let x : eqb (length s) (exact_length s) ≡ true = eq-eqb (length s) (exact_length s) r.long in
        let y = good_count c.out _ (out_descriptor s) s ko o r.out in
        let y' = good_count c.inn _ (in_descriptor s) s ki i r.inn in
        let z = clear (command_checks formats s) (le-ltb (length s) 48 m, (rw (f, ao), (rw (g, ai), (rw x, (y, (y', tt)))))) in
        by_length agreed formats s (omega arith) n ∙ rw (r.code, z, e)

-- ── login

login_read : (c : Settings) (own : List ℕ) (room : ℕ) (s : List ℕ) (t n f r o a i g : ℕ) → length s ≡ 64 → type_of s ≡ 0x00
    → gets login_req.fields s ≡ t ∷ n ∷ f ∷ r ∷ o ∷ a ∷ i ∷ g ∷ [] → part target_identifier s ≡ bytes_of 16 g
    → login_def c own room s ≡ login_by_values c own room t n f r o a (bytes_of 16 g)
login_read c own room s t n f r o a i g l k v b =
    let e : first_of_checks (login_checks c room s) ≡ first_of_checks (setting_checks c room) = rw (l, k) in
    cc

-- the target identifier's bytes are those of the number that was written
target_read : (t n f r o a i g : ℕ) → InRange login_req.fields (t ∷ n ∷ f ∷ r ∷ o ∷ a ∷ i ∷ g ∷ [])
    → part target_identifier (write login_req (t ∷ n ∷ f ∷ r ∷ o ∷ a ∷ i ∷ g ∷ [])) ≡ bytes_of 16 g
target_read t n f r o a i g h =
    part_reserved 64 target_identifier (kind ∷ tag ∷ requested_length ∷ format_bits ∷ login_crsolnt ∷ login_losolnt ∷ channel_action ∷ initiator_identifier ∷ [])
    (0x00 ∷ t ∷ n ∷ f ∷ r ∷ o ∷ a ∷ i ∷ []) (put target_identifier g (zeros 64)) refl refl
    (omega arith, (h.0, (h.1.0, (h.1.1.0, (h.1.1.1.0, (h.1.1.1.1.0, (h.1.1.1.1.1.0, (h.1.1.1.1.1.1.0, tt)))))))) refl
    ∙ part_put 48 16 g (zeros 64) refl

-- what a login request draws, from the values that were written into it: 1 or 2, the first rejection that fits, or the port with its terms
pub login_received : (c : Settings) (own : List ℕ) (room t n f r o a i g : ℕ) → InRange login_req.fields (t ∷ n ∷ f ∷ r ∷ o ∷ a ∷ i ∷ g ∷ [])
    → login_def c own room (write login_req (t ∷ n ∷ f ∷ r ∷ o ∷ a ∷ i ∷ g ∷ [])) ≡ login_by_values c own room t n f r o a (bytes_of 16 g)
login_received c own room t n f r o a i g h =
    let vs : List ℕ = t ∷ n ∷ f ∷ r ∷ o ∷ a ∷ i ∷ g ∷ [] in
    let w : Written login_req vs = written login_req refl vs h in
    login_read c own room (write login_req vs) t n f r o a i g w.long w.code w.values (target_read t n f r o a i g h)

-- ── look

unless_both : (a b : List Check) (m : Reading) → unless_bad (first_of_checks (a ++ b)) m ≡ unless_bad (first_of_checks a) (unless_bad (first_of_checks b) m)
unless_both [] b m = refl
unless_both (c ∷ a) b m = go c.0 (unless_both a b m)
  where
    go : (x : Bool) → unless_bad (first_of_checks (a ++ b)) m ≡ unless_bad (first_of_checks a) (unless_bad (first_of_checks b) m)
        → unless_bad (cond x (some c.1) (first_of_checks (a ++ b))) m ≡ unless_bad (cond x (some c.1) (first_of_checks a)) (unless_bad (first_of_checks b) m)
    go true e = refl
    go false e = e

-- a message of type 02h, and settings in range
module _ (agreed formats : ℕ) (s : List ℕ) (k : type_of s ≡ cmd.code) (e : (bad_length agreed || other_formats_lem both_formats formats) ≡ false) where
  -- take reads it as a command unless one of look's checks hits, and then as bad by that check's refusal
  pub look_as_take : read_message_lem agreed formats s ≡ unless_bad (first_of_checks (look_checks agreed formats s)) (Ok (Cmd (command_of_lem s)))
  unfolding read_message_lem
  look_as_take =
      rw (e, unless_both (length_checks agreed s) ((not (eqb (type_of s) cmd.code), OtherType) ∷ command_checks formats s) (Ok (Cmd (command_of_lem s))), k)

  -- so look refuses just what take would refuse of the message alone, with the same number
  pub look_refuses : (r : Refusal) → (look_def agreed formats s ≡ Err r) ↔ (read_message_lem agreed formats s ≡ Err r)
  look_refuses r = rw look_as_take (go (first_of_checks (look_checks agreed formats s)))
    where
      go : (o : Option Refusal) → (unless_bad o (Ok (look_outcome s)) ≡ Err r) ↔ (unless_bad o (Ok (Cmd (command_of_lem s))) ≡ Err r)
      go none = ((λ q. let z : ◌≡◌ {A = ℕ} 0 1 = cc in absurd (omega arith)), (λ q. let z : ◌≡◌ {A = ℕ} 0 1 = cc in absurd (omega arith)))
      go (some x) = ((λ q. cc), (λ q. cc))
