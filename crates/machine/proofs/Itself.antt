-- Demand 3 is not empty: the definitions themselves make the calls, every list of events has its run of them, and P8's sum is read off the theorem.
-- Assumes nothing.
use mathlib.Core.Path.{◌≡◌, refl, ap}
use mathlib.Core.Bool.{Bool, true, false, cond}
use mathlib.Core.List.{List, [], ◌∷◌}
use Prim.Native.Nat.{ℕ, suc, ◌+◌, ◌-◌}
use native.Mathlib.Omega.{arith}
use lib.Dec.{lit≤, ltb}
use borrow.Author.Tests.{ltb-false}
use lib.IntN.{ℤ, pos, negsuc, ◌+ℤ◌}
use Rattle.std.specs.Prelude.{Result, Ok}
use Rattle.srp.specs.Requests.{read_message_lem}
use Rattle.srp.specs.Cutting.{bad_boundary}
use Rattle.srp.specs.Credit.{Port, owed}
use Rattle.srp.specs.Take.{Outcome}
use Rattle.srp.specs.Login.{login_def}
use Rattle.srp.specs.declared.Settings.{Settings}
use Rattle.machine.specs.Machine.{Machine, start, Login, login_of}
use Rattle.machine.specs.Events.{Event, sends, takes, withdraws, action_of, after}
use Rattle.machine.specs.Demand.{Now, Run, Fair, Demand, Attended, Meets}
use Rattle.srp.specs.Rows.{login_req_lem, own, settings, no_data_lem}
use Rattle.srp.specs.declared.Reply.{Reply}
use Rattle.srp.specs.declared.Reply.TheVariants.{Accepted}
use Rattle.machine.proofs.Demand.{demand_3, turns_served}
use Rattle.srp.specs.declared.Refusal.{Refusal}

module _ (L : Login) where
  abbrev pub Call : Port → Machine → Event → Result Reply Refusal → List (List ℕ) → Port → Type 0
  Call p m e r ss q = (action_of L e).call p m ≡ record { reply = r; port = q; wrote = ss }

  -- the definitions are equal to themselves
  pub meets : Meets L (λ p. p) Call
  meets p m e r ss q c = c

  -- every list of events has a run
  abbrev pub run : (es : List Event) (p : Port) (m : Machine) → Run L (λ p. p) Call p m es
  run [] p m = tt
  run (e ∷ es) p m =
      let o : Outcome = (action_of L e).call p m in
      record { reply = o.reply; wrote = o.wrote; left = o.port; made = refl; rest = run es o.port (after L m e o.reply o.wrote) }

module _ (c : Settings) (own : List ℕ) (room : ℕ) (l : List ℕ) (agreed : (login_def c own room l).reply ≡ Ok Accepted) where
  abbrev pub itself : (es : List Event) → Run (login_of c l) (λ p. p) (Call (login_of c l)) (login_def c own room l).port (start c.buffers) es
  itself es = run (login_of c l) es (login_def c own room l).port (start c.buffers)

  -- demand 3 of the definitions
  pub demand : (es : List Event) → Fair (login_of c l) (λ p. p) (Call (login_of c l)) (login_def c own room l).port (start c.buffers) es (itself es)
      → Demand (login_of c l) (λ p. p) (Call (login_of c l)) (login_def c own room l).port (start c.buffers) es (itself es)
  demand es f = demand_3 c own room l agreed (λ p. p) (Call (login_of c l)) (meets (login_of c l)) (login_def c own room l).port refl es (itself es) f

  -- and of the same runs, that turns serve each move in time
  pub attended : (es : List Event) → Fair (login_of c l) (λ p. p) (Call (login_of c l)) (login_def c own room l).port (start c.buffers) es (itself es)
      → Attended (login_of c l) (λ p. p) (Call (login_of c l)) (login_def c own room l).port (start c.buffers) es (itself es)
  attended es f = turns_served c own room l agreed (λ p. p) (Call (login_of c l)) (meets (login_of c l)) (login_def c own room l).port refl es (itself es) f

-- ── P8, drawn from the theorem

abbrev pub c4 : Settings
c4 = settings 4 512 0 1364 true true

abbrev pub l4 : List ℕ
l4 = login_req_lem 1364 6 0 own

abbrev pub p8 : List Event
p8 = sends (no_data_lem 1) ∷ takes 132 ∷ sends (no_data_lem 2) ∷ takes 132 ∷ withdraws 3 ∷ []

-- the login is accepted
agreed4 : (login_def c4 own 132 l4).reply ≡ Ok Accepted
unfolding bad_boundary
agreed4 = refl

fair : Fair (login_of c4 l4) (λ p. p) (Call (login_of c4 l4)) (login_def c4 own 132 l4).port (start 4) p8 (itself c4 own 132 l4 agreed4 p8)
unfolding read_message_lem bad_boundary
fair = ((λ _. lit≤ tt), (tt, ((λ _. lit≤ tt), (tt, (tt, tt)))))

-- the port and the machine after a list of events
abbrev pub ends : Login → List Event → Port → Machine → Port × Machine
ends L [] p m = (p, m)
ends L (e ∷ es) p m =
    let o : Outcome = (action_of L e).call p m in
    ends L es o.port (after L m e o.reply o.wrote)

abbrev pub end8 : Port × Machine
end8 = ends (login_of c4 l4) p8 (login_def c4 own 132 l4).port (start 4)

-- what the theorem says of the end of P8
last : Now (login_of c4 l4) end8.1 end8.0
unfolding read_message_lem bad_boundary
last = (demand c4 own 132 l4 agreed4 p8 fair).2.2.2.2.2

abbrev size : ℤ → ℕ
size (pos k) = k
size (negsuc k) = 0

-- with 2 announced and unused, 2 held and W = 1, D can only be -3
only : (d : ℤ) → pos 4 +ℤ d ≡ pos 1 → d ≡ negsuc 2
only (pos n) e = let z : 4 + n ≡ 1 = ap size e in absurd (omega arith)
only (negsuc n) e = go (ltb 4 (suc n)) refl e
  where
    go : (b : Bool) → ltb 4 (suc n) ≡ b → cond b (negsuc (suc n - 5)) (pos (4 - suc n)) ≡ pos 1 → negsuc n ≡ negsuc 2
    go true t f = let z : ◌≡◌ {A = ℕ} 0 1 = cc in absurd (omega arith)
    go false t f = let z : 4 - suc n ≡ 1 = ap size f in ap negsuc (omega (arith, ltb-false 4 (suc n) t))

-- P8's claim, drawn from demand 3
pub p8_owes : owed end8.0 ≡ negsuc 2
unfolding read_message_lem bad_boundary
p8_owes = only (owed end8.0) last.sum
