-- What a message is read as: one of five, with the fields of its type's layout; it goes with its type byte, and what is wrong with it hangs up.
-- Assumes nothing.
use mathlib.Core.Path.{◌≡◌, refl}
use mathlib.Core.Bool.{Bool, true, false, cond, or-true}
use mathlib.Core.List.{List}
use mathlib.Core.Option.{Option, none, some}
use Prim.Native.Nat.{ℕ, ◌^◌, ◌≤◌, ◌<◌}
use native.Mathlib.Omega.{arith}
use lib.Dec.{eqb}
use lib.ListN.{length}
use borrow.Author.Tests.{ltb-false, eqb-true, not-false}
use Rattle.srp.specs.Limits.{shortest_message}
use Rattle.srp.specs.Bytes.{get, type_of}
use Rattle.srp.specs.Messages.{tag}
use Rattle.srp.specs.Refusals.{hangs_up, number_of, conduct_of, first_of_checks, unless_bad}
use Rattle.srp.specs.Requests.{Reading, is_request, exact_length, command_of_lem, command_checks, task_of, sized, length_checks, by_type, read_message_lem, OfType, ReadAs}
use Rattle.srp.specs.declared.Refusal.{Refusal}
use Rattle.srp.specs.declared.Refusal.TheVariants.{Length, OtherType}
use Rattle.srp.specs.declared.Message.TheVariants.{Cmd, TskMgmt, CredRsp, ILogout}
use Rattle.std.specs.declared.result.Result.TheVariants.{Ok, Err}
use Rattle.srp.proofs.Checks.{passes, hit}

-- ── a test or a check, by both its outcomes

module _ (P : Reading → Type 0) where
  either : (c : Bool) (x y : Reading) → (c ≡ true → P x) → (c ≡ false → P y) → P (cond c x y)
  either true x y f g = f refl
  either false x y f g = g refl

  unless_bad_lem : (o : Option Refusal) (m : Reading) → ((r : Refusal) → o ≡ some r → P (Err r)) → (o ≡ none → P m) → P (unless_bad o m)
  unless_bad_lem none m f g = g refl
  unless_bad_lem (some r) m f g = f r refl

-- ── by its layout

module _ (agreed formats : ℕ) (s : List ℕ) where
  abbrev As : Reading → Type 0
  As = ReadAs agreed s

  layout_read : shortest_message ≤ length s → length s ≤ agreed → As (by_type (type_of s) formats s)
  layout_read least most =
      either As (eqb (type_of s) 0x02) _ _
      (λ k.
      unless_bad_lem As (first_of_checks (command_checks formats s)) (Ok (Cmd (command_of_lem s))) (λ _ _. tt) λ e.
      let q = passes (command_checks formats s) e in
      let l = eqb-true (length s) (exact_length s) (not-false (eqb (length s) (exact_length s)) q.1.1.1.0) in
      (of 0x02 (exact_length s) k l, ltb-false (length s) 48 q.0, refl)) λ _.
      either As (eqb (type_of s) 0x01) _ _ (λ k. sizes 48 (Ok (TskMgmt (task_of s))) λ l. (of 0x01 48 k l, refl)) λ _.
      either As (eqb (type_of s) 0x03) _ _ (λ k. sizes 16 (Ok ILogout) λ l. of 0x03 16 k l) λ _.
      either As (eqb (type_of s) 0x41) _ _ (λ k. sizes 16 (Ok (CredRsp (get tag s))) λ l. (of 0x41 16 k l, refl)) (λ _. tt)
    where
      of : (k n : ℕ) → eqb (type_of s) k ≡ true → length s ≡ n → OfType agreed k n s
      of k n e l = record { code = eqb-true (type_of s) k e; long = l; least = least; most = most }

      sizes : (n : ℕ) (m : Reading) → (length s ≡ n → As m) → As (sized n s m)
      sizes n m f = either As (eqb (length s) n) m _ (λ e. f (eqb-true (length s) n e)) (λ _. tt)

  -- a message is read as the fields of its type's layout
  pub read_as : ReadAs agreed s (read_message_lem agreed formats s)
  unfolding read_message_lem
  read_as =
      unless_bad_lem As (first_of_checks (length_checks agreed s)) (by_type (type_of s) formats s) (λ _ _. tt) λ e.
      let q = passes (length_checks agreed s) e in
      layout_read (ltb-false (length s) 16 q.0) (ltb-false agreed (length s) q.1.0)

-- so it is one of five, and has what each of them has
module _ (P : Reading → Type 0) (bad : (r : Refusal) → P (Err r)) (s : List ℕ) where
  sizes_has : (n : ℕ) (m : Reading) → P m → P (sized n s m)
  sizes_has n m a = either P (eqb (length s) n) m _ (λ _. a) (λ _. bad Length)

  -- a command where it passes its checks
  pub read_checked : (agreed formats : ℕ) → (first_of_checks (command_checks formats s) ≡ none → P (Ok (Cmd (command_of_lem s)))) → P (Ok (TskMgmt (task_of s))) → P (Ok ILogout)
      → P (Ok (CredRsp (get tag s))) → P (read_message_lem agreed formats s)
  unfolding read_message_lem
  read_checked agreed formats command task logout credit =
      unless_bad_lem P (first_of_checks (length_checks agreed s)) (by_type (type_of s) formats s) (λ r _. bad r) λ _.
      either P (eqb (type_of s) 0x02) _ _ (λ _. unless_bad_lem P (first_of_checks (command_checks formats s)) (Ok (Cmd (command_of_lem s))) (λ r _. bad r) command) λ _.
      either P (eqb (type_of s) 0x01) _ _ (λ _. sizes_has 48 (Ok (TskMgmt (task_of s))) task) λ _.
      either P (eqb (type_of s) 0x03) _ _ (λ _. sizes_has 16 (Ok ILogout) logout) λ _.
      either P (eqb (type_of s) 0x41) _ _ (λ _. sizes_has 16 (Ok (CredRsp (get tag s))) credit) (λ _. bad OtherType)

  pub read_has : P (Ok (Cmd (command_of_lem s))) → P (Ok (TskMgmt (task_of s))) → P (Ok ILogout) → P (Ok (CredRsp (get tag s))) → (agreed formats : ℕ) → P (read_message_lem agreed formats s)
  read_has command task logout credit agreed formats = read_checked agreed formats (λ _. command) task logout credit

-- ── by its type

-- what is wrong with a message itself: take hangs up, and not for credit
pub record Wrong (r : Refusal) : Type 0 where
  pub reason : ℕ
  pub hangs : conduct_of r ≡ hangs_up reason
  pub small : reason < 2 ^ 32
  pub not_credit : number_of r ≡ 22 → ⊥

wrong : (r : Refusal) (n : ℕ) → conduct_of r ≡ hangs_up n → n < 2 ^ 32 → (number_of r ≡ 22 → ⊥) → Wrong r
wrong r n e h f = record { reason = n; hangs = e; small = h; not_credit = f }

-- b says whether the type byte is a request's
abbrev pub ByType : Bool → Reading → Type 0
ByType b (Err r) = Wrong r
ByType b (Ok (Cmd c)) = b ≡ true
ByType b (Ok (TskMgmt k)) = b ≡ true
ByType b (Ok (CredRsp g)) = b ≡ false
ByType b (Ok ILogout) = b ≡ false

module _ (agreed formats : ℕ) (s : List ℕ) where
  abbrev By : Reading → Type 0
  By = ByType (is_request s)

  short_or_long : (r : Refusal) → first_of_checks (length_checks agreed s) ≡ some r → Wrong r
  short_or_long = hit Wrong (length_checks agreed s) ((λ _. wrong _ _ refl (omega arith) (λ z. omega arith)), ((λ _. wrong _ _ refl (omega arith) (λ z. omega arith)), tt))

  of_command : (r : Refusal) → first_of_checks (command_checks formats s) ≡ some r → Wrong r
  of_command =
      hit Wrong (command_checks formats s)
      ((λ _. wrong _ _ refl (omega arith) (λ z. omega arith)), ((λ _. wrong _ _ refl (omega arith) (λ z. omega arith)), ((λ _. wrong _ _ refl (omega arith) (λ z. omega arith)), ((λ _. wrong _ _ refl (omega arith) (λ z. omega arith)), ((λ _. wrong _ _ refl (omega arith) (λ z. omega arith)), ((λ _. wrong _ _ refl (omega arith) (λ z. omega arith)), tt))))))

  neither : eqb (type_of s) 0x02 ≡ false → eqb (type_of s) 0x01 ≡ false → is_request s ≡ false
  neither e f = rw (e, f)

  of_size : (n : ℕ) (m : Reading) → By m → By (sized n s m)
  of_size n m k = either By (eqb (length s) n) m _ (λ _. k) (λ _. wrong _ _ refl (omega arith) (λ z. omega arith))

  by_type_lem : By (by_type (type_of s) formats s)
  by_type_lem =
      either By (eqb (type_of s) 0x02) _ _
      (λ e. unless_bad_lem By (first_of_checks (command_checks formats s)) (Ok (Cmd (command_of_lem s))) of_command (λ _. rw e (or-true (eqb (type_of s) 0x01)))) λ e₂.
      either By (eqb (type_of s) 0x01) _ _ (λ e. of_size 48 (Ok (TskMgmt (task_of s))) (rw e)) λ e₁.
      either By (eqb (type_of s) 0x03) _ _ (λ _. of_size 16 (Ok ILogout) (neither e₂ e₁)) λ _.
      either By (eqb (type_of s) 0x41) _ _ (λ _. of_size 16 (Ok (CredRsp _)) (neither e₂ e₁)) (λ _. wrong _ _ refl (omega arith) (λ z. omega arith))

  -- a message is read as its type byte says
  pub read_by_type : ByType (is_request s) (read_message_lem agreed formats s)
  unfolding read_message_lem
  read_by_type = unless_bad_lem By (first_of_checks (length_checks agreed s)) (by_type (type_of s) formats s) short_or_long (λ _. by_type_lem)
