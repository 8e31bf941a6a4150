-- What a command comes to, check by check, and what is then known of its buffers.
-- Assumes nothing.
use mathlib.Core.Path.{◌≡◌, refl, sym, ap, ◌∙◌}
use mathlib.Core.Bool.{Bool, true, false, cond, not, ◌&&◌}
use mathlib.Core.List.{List, []}
use mathlib.Core.Option.{Option, none, some}
use Prim.Native.Nat.{ℕ}
use native.Mathlib.Omega.{arith}
use Rattle.srp.specs.Descriptors.{standing, Given, giving, given, segments, sum_of, reachable, good_format, good_fields}
use Rattle.srp.specs.Take.{waits}
use Rattle.srp.specs.declared.Refusal.{Refusal}
use Rattle.srp.specs.declared.Refusal.TheVariants.{Fields}
use Rattle.srp.specs.declared.Command.{Command}
use Rattle.srp.specs.declared.Descriptor.{Descriptor}
use Rattle.std.specs.declared.result.Result.TheVariants.{Ok, Err}
use Rattle.std.specs.declared.option.Option.TheVariants.{Some, None}
use Rattle.srp.proofs.FieldLaws.{both}
use Rattle.cut.specs.Walk.{Total}
use Rattle.cut.proofs.Refusing.{no_sum, is_sum}
use Rattle.command.specs.Reading.{LiesIn, fields_of}
use Rattle.cutlist.specs.Outputs.{Outcome, operations_of, Ready}
use Rattle.cutlist.specs.declared.output.Buffer.{Buffer}
use Rattle.cutlist.specs.declared.output.Output.{Output}
use Rattle.cutlist.specs.declared.output.Output.TheVariants.{Fetch, Operations}

-- ── a command

-- its tests: a table to fetch; good fields, out and in
abbrev by_tests_lem : Bool → Bool → Bool → Buffer → Buffer → Outcome
by_tests_lem f x y out inn = cond f (Ok Fetch) (cond (not (x && y)) (Err Fields) (Ok (Operations out inn)))

-- what was summed is what the message gives
pub summed : (d : Descriptor) (s : List ℕ) {b : List ℕ} {r t : Total} → b ≡ standing d s → r ≡ fields_of (giving d b) [] → r ≡ t → fields_of (given d s) [] ≡ t
summed d s e f g = sym (f ∙ ap (λ (l : List ℕ). fields_of (giving d l) []) e) ∙ g

module _ (g : Given) where
  good : {n : ℕ} → fields_of g [] ≡ Some n → (good_fields g [] ≡ true) × (n ≡ sum_of (segments g []))
  good {n} e = is_sum (good_fields g []) (sum_of (segments g [])) n e

  bad : fields_of g [] ≡ None → good_fields g [] ≡ false
  bad e = no_sum (good_fields g []) (sum_of (segments g [])) e

abbrev pub buffer : Descriptor → ℕ → Buffer
buffer d n = record { descriptor = d; total = n }

-- a sum tells that the segments end by 2^64
pub ready : {d : Descriptor} {s : List ℕ} {n : ℕ} → LiesIn s d → fields_of (given d s) [] ≡ Some n → Ready s (buffer d n)
ready {d} {s} {n} w e =
    let g = good (given d s) e in
    record { within = w; reach = (both (good_format (given d s) []) (reachable (segments (given d s) [])) g.0).1; total = g.1 }

module _ (c : Command) (s : List ℕ) where
  abbrev out : Given
  out = given c.out s

  abbrev inn : Given
  inn = given c.inn s

  abbrev outcome_by : Bool → Bool → Bool → Outcome
  outcome_by f x y = by_tests_lem f x y (buffer c.out (sum_of (segments out []))) (buffer c.inn (sum_of (segments inn [])))

  is : {f x y : Bool} → waits c ≡ f → good_fields out [] ≡ x → good_fields inn [] ≡ y → outcome_by f x y ≡ operations_of c s
  is p r t = sym λ i. outcome_by (p i) (r i) (t i)

  pub to_fetch : waits c ≡ true → Ok Fetch ≡ operations_of c s
  to_fetch e = is {f = true} e refl refl

  module _ (no : waits c ≡ false) where
    pub bad_out : fields_of out [] ≡ None → Err Fields ≡ operations_of c s
    bad_out e = is {f = false} {x = false} no (bad out e) refl

    pub bad_in : {n : ℕ} → fields_of out [] ≡ Some n → fields_of inn [] ≡ None → Err Fields ≡ operations_of c s
    bad_in e f = is {f = false} {x = true} {y = false} no (good out e).0 (bad inn f)

    pub all_good : {n m : ℕ} → fields_of out [] ≡ Some n → fields_of inn [] ≡ Some m → Ok (Operations (buffer c.out n) (buffer c.inn m)) ≡ operations_of c s
    all_good e f =
        let g = good out e in
        let h = good inn f in
        (λ i. Ok (Operations (buffer c.out (g.1 i)) (buffer c.inn (h.1 i)))) ∙ is {f = false} {x = true} {y = true} no g.0 h.0
