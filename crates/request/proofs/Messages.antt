-- A message that is read and refused hangs up; and one of a length in range is read by its type.
-- Assumes nothing.
use Rattle.std.proofs.Common.{◌≡◌, ℕ, ◌≤◌, List, length, sym, ap, subst, ◌∙◌, le-ltb}
use borrow.Author.Tests.{eq-eqb}
use Rattle.std.specs.declared.result.Result.TheVariants.{Ok, Err}
use Rattle.srp.specs.Bytes.{type_of}
use Rattle.srp.specs.Refusals.{Conduct, hangs_up, conduct_of, reason_in, first_of_checks, unless_bad}
use Rattle.srp.specs.Requests.{is_request, by_type, command_checks, command_of_lem, read_message_lem}
use Rattle.srp.specs.declared.Command.{Command}
use Rattle.srp.specs.declared.Message.TheVariants.{Cmd}
use Rattle.srp.specs.declared.Refusal.{Refusal}
use Rattle.srp.proofs.Checks.{unhit, hit_by}
use Rattle.srp.proofs.Reading.{Wrong, ByType, read_by_type}

module _ (agreed formats : ℕ) (s : List ℕ) where
  -- a message refused hangs up
  pub hangs : {r : Refusal} → Err r ≡ read_message_lem agreed formats s → conduct_of r ≡ hangs_up (reason_in (conduct_of r))
  hangs {r} e =
      let w : Wrong r = subst (ByType (is_request s)) (sym e) (read_by_type agreed formats s) in
      w.hangs ∙ ap (λ (c : Conduct). hangs_up (reason_in c)) (sym w.hangs)

  module _ (h : 16 ≤ length s) (l : length s ≤ agreed) {k : ℕ} (e : k ≡ type_of s) where
    pub other_read : by_type k formats s ≡ read_message_lem agreed formats s
    unfolding read_message_lem
    other_read = rw (le-ltb (length s) 16 h, le-ltb agreed (length s) l, e)

    -- a command's reading, with its message around it
    module _ (is : k ≡ 2) where
      pub command_read : {c : Command} → unless_bad (first_of_checks (command_checks formats s)) (Ok (command_of_lem s)) ≡ Ok c → Ok (Cmd c) ≡ read_message_lem agreed formats s
      command_read {c} r =
          let u = unhit (first_of_checks (command_checks formats s)) (command_of_lem s) r in
          rw u.1 (rw (eq-eqb k 2 is, u.0) at other_read)

      pub command_refused : {r : Refusal} → unless_bad (first_of_checks (command_checks formats s)) (Ok (command_of_lem s)) ≡ Err r → Err r ≡ read_message_lem agreed formats s
      command_refused {r} b = rw (eq-eqb k 2 is, hit_by (first_of_checks (command_checks formats s)) (command_of_lem s) b) at other_read
