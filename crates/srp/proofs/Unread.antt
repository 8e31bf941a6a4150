-- What document 01 leaves unread changes nothing: take, look and login answer alike when only such bytes or bits differ.
-- Assumes nothing.
use mathlib.Core.Path.{◌≡◌, refl, sym, ap, ◌∙◌}
use mathlib.Core.Bool.{Bool, true, false}
use mathlib.Core.Logic.{◌⊎◌, inl, inr, ⊎_elim}
use mathlib.Core.List.{List, [], ◌∷◌, ◌++◌}
use Prim.Native.Nat.{ℕ, ◌*◌, ◌≤◌}
use native.Mathlib.Omega.{arith}
use lib.Dec.{ltb, eqb}
use lib.ListN.{length, take, drop, take-append-drop}
use lib.Seq.{length-take-le, take_all}
use borrow.Author.Tests.{ltb-true, ltb-false}
use Rattle.srp.specs.Bytes.{Field, get, gets, kind, type_of, sound}
use Rattle.srp.specs.Messages.{tag, target_identifier, out_format, in_format, task_function, cmd}
use Rattle.srp.specs.Lists.{All}
use Rattle.srp.specs.Requests.{out_at, look_def}
use Rattle.srp.specs.Credit.{Port}
use Rattle.srp.specs.Take.{take_def}
use Rattle.srp.specs.Login.{login_def}
use Rattle.srp.specs.declared.Settings.{Settings}
use Rattle.srp.specs.Unread.{unread_command, unread_task, unread_logout, unread_credit, unread_login, unread_command_by, unread_command_in, unread_task_by, unread_in, changed, ChangeOf}
use Rattle.srp.proofs.Layouts.{bits_of, gets_append}
use Rattle.srp.proofs.Alike.{command_reads, command_reads_in, task_reads, login_reads, pick, of_type, reads_as, reads_in, Alike, all_clear, alike, look_alike, take_alike, login_alike}

-- ── what is not read is apart from what is

abbrev unread_as : Bool → Bool → Bool → Bool → Bool → Bool → Bool → List Field
unread_as b₁ b₂ b₃ b₄ o i m = pick b₁ b₂ b₃ b₄ (unread_command_by o i) (unread_task_by m) unread_logout unread_credit []

command_clear : (o i : Bool) → all_clear (command_reads o i) (unread_command_by o i) ≡ true
command_clear true true = refl
command_clear true false = refl
command_clear false true = refl
command_clear false false = refl

all_clear_lem : (b₁ b₂ b₃ b₄ o i m : Bool) → all_clear (reads_as b₁ b₂ b₃ b₄ o i m) (unread_as b₁ b₂ b₃ b₄ o i m) ≡ true
all_clear_lem true b₂ b₃ b₄ o i m = command_clear o i
all_clear_lem false true b₃ b₄ o i true = refl
all_clear_lem false true b₃ b₄ o i false = refl
all_clear_lem false false true b₄ o i m = refl
all_clear_lem false false false true o i m = refl
all_clear_lem false false false false o i m = refl

-- ── what is not read is all the rest

-- fields that share no bit and together are n bytes
abbrev Covers : ℕ → List Field → Type 0
Covers n fs = (sound n fs ≡ true) × (bits_of fs ≡ 8 * n)

-- every bit of a message before the descriptors is read or stands in its type's list (the counts and the task tag are read here)
pub nothing_else :
    Covers 48 (kind ∷ command_reads true true ++ unread_command)
    × Covers 48 (kind ∷ task_reads true ++ unread_task)
    × Covers 16 (kind ∷ unread_logout)
    × Covers 16 (kind ∷ tag ∷ unread_credit)
    × Covers 64 (kind ∷ target_identifier ∷ login_reads ++ unread_login)
nothing_else = ((refl, refl), (refl, refl), (refl, refl), (refl, refl), (refl, refl))

-- ── any changes where nothing is read

-- take's outcome, the same with any changes where the message leaves it unread
pub take_unread : (p : Port) (room : ℕ) (s : List ℕ) (cs : List (Field × ℕ)) → All (ChangeOf (unread_in s) (length s)) cs
    → take_def p room (changed cs s) ≡ take_def p room s
take_unread p room s cs w =
    let e = of_type all_clear_lem (type_of s) (eqb (get out_format s) 2) (eqb (get in_format s) 2) (eqb (get task_function s) 1) in
    take_alike p (changed cs s) s room (alike (reads_in s) (unread_in s) (out_at s) s e (omega arith) cs w)

-- look's outcome, the same with any changes where a command leaves it unread
pub look_unread : (agreed formats : ℕ) (s : List ℕ) (cs : List (Field × ℕ)) → All (ChangeOf (unread_command_in s) (length s)) cs
    → look_def agreed formats (changed cs s) ≡ look_def agreed formats s
look_unread agreed formats s cs w =
    let e = command_clear (eqb (get out_format s) 2) (eqb (get in_format s) 2) in
    look_alike (changed cs s) s (alike (command_reads_in s) (unread_command_in s) (out_at s) s e (omega arith) cs w) agreed formats

-- login's outcome, the same with any changes where a login request leaves it unread
pub login_unread : (c : Settings) (own : List ℕ) (room : ℕ) (s : List ℕ) (cs : List (Field × ℕ)) → All (ChangeOf unread_login (length s)) cs
    → login_def c own room (changed cs s) ≡ login_def c own room s
login_unread c own room s cs w = login_alike c own room (changed cs s) s (alike login_reads unread_login 48 s refl (omega arith) cs w)

-- ── a command's whole CDB

-- fields in the first 32 bytes
gets_head : (fs : List Field) (s : List ℕ) → sound 32 fs ≡ true → 32 ≤ length s → gets fs s ≡ gets fs (take 32 s)
gets_head fs s e h =
    ap (gets fs) (sym (take-append-drop 32 s))
    ∙ gets_append fs (take 32 s) (drop 32 s) (ap (λ (k : ℕ). sound k fs) (length-take-le 32 s h) ∙ e)

command_sound : (o i : Bool) → sound 32 (kind ∷ command_reads o i) ≡ true
command_sound true true = refl
command_sound true false = refl
command_sound false true = refl
command_sound false false = refl

-- messages of one length that differ neither before byte 32 nor where the descriptors stand: in the CDB alone
module _ (s s' : List ℕ) (l : length s ≡ length s') (e : take 32 s ≡ take 32 s') (f : drop (out_at s') s ≡ drop (out_at s') s') where
  cdb_alike : (s ≡ s') ⊎ Alike (command_reads_in s') (out_at s') s s'
  cdb_alike = go (ltb (length s) 32) refl
    where
      go : (b : Bool) → ltb (length s) 32 ≡ b → (s ≡ s') ⊎ Alike (command_reads_in s') (out_at s') s s'
      go true q =
          let h = ltb-true (length s) 32 q in
          inl (sym (take_all 32 s (omega arith)) ∙ e ∙ take_all 32 s' (omega arith))
      go false q =
          let h = ltb-false (length s) 32 q in
          let fs : List Field = kind ∷ command_reads_in s' in
          let d = command_sound (eqb (get out_format s') 2) (eqb (get in_format s') 2) in
          let g : gets fs s ≡ gets fs s' = gets_head fs s d h ∙ ap (gets fs) e ∙ sym (gets_head fs s' d (omega arith)) in
          inr (record { long = l; code = cc; same = cc; far = f })

  -- take's outcome is the same for two commands that differ in the CDB alone
  pub take_cdb : (p : Port) (room : ℕ) → type_of s' ≡ cmd.code → take_def p room s ≡ take_def p room s'
  take_cdb p room k = ⊎_elim
      (λ q. ap (λ (x : List ℕ). take_def p room x) q)
      (λ a. take_alike p s s' room (rw k a))
      cdb_alike

  -- and so is look's
  pub look_cdb : (agreed formats : ℕ) → look_def agreed formats s ≡ look_def agreed formats s'
  look_cdb agreed formats = ⊎_elim (λ q. ap (look_def agreed formats) q) (λ a. look_alike s s' a agreed formats) cdb_alike
