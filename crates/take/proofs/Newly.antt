-- A command by 10, and that what is entered of it is its own.
-- Assumes nothing.
use mathlib.Core.Path.{◌≡◌, refl, sym, ap}
use mathlib.Core.Bool.{Bool, cond, true, false, not, ◌&&◌}
use mathlib.Core.List.{List, [], ◌∷◌}
use mathlib.Core.Option.{Option, none}
use Prim.Native.Nat.{ℕ, ◌+◌, ◌*◌, ◌/◌, ◌≤◌}
use native.Mathlib.Omega.{arith}
use lib.Dec.{eqb}
use lib.ListN.{length, take, drop, length-take, length-drop}
use lib.Seq.{take_all, take-length}
use Rattle.std.specs.Prelude.{Ok, Err}
use Rattle.srp.specs.Descriptors.{copies, standing, standing_size_lem, placeless, given, good_fields}
use Rattle.srp.specs.Credit.{Port}
use Rattle.srp.specs.Writing.{answer, solicited}
use Rattle.srp.specs.Refusals.{first_of_checks}
use Rattle.srp.specs.Take.{waits, answering, accepted, no_tables, given_in, fields_fit, take_by}
use Rattle.srp.specs.declared.Message.TheVariants.{Cmd}
use Rattle.srp.specs.declared.Command.{Command}
use Rattle.srp.specs.declared.Descriptor.{Descriptor}
use Rattle.srp.specs.declared.Refusal.{Refusal}
use Rattle.srp.specs.declared.Refusal.TheVariants.{Fields}
use Rattle.srp.specs.declared.Answer.{Answer}
use Rattle.srp.proofs.Segments.{standing_short, given_short}
use Rattle.command.specs.Reading.{LiesIn, FitsIn}
use Rattle.words.specs.declared.Part.{Part}
use Rattle.words.specs.View.{view}
use Rattle.words.specs.Slots.{TableFits, no_table, not_waiting_lem}
use Rattle.state.specs.Changes.{after_use}
use Rattle.state.proofs.Promises.{answers_by}
use Rattle.store.specs.Places.{Holds, new_part_lem}
use Rattle.take.specs.Taking.{fields_def, Answers, Kept, NewlyRead, Enters, DecidesFields}
use Rattle.take.proofs.Deciding.{not_taken}

module _ (p : Port) (m : List ℕ) (c : Command) where
  -- with a fetch named no check hits
  fields_wait : waits c ≡ true → fields_def p m c ≡ accepted p m (Ok (Cmd c))
  fields_wait w =
      let n : first_of_checks ((not (waits c) && not (fields_fit (given_in c m) no_tables), Fields) ∷ []) ≡ none = rw w refl in
      ap (λ (k : Option Refusal). take_by k p m (Ok (Cmd c))) n

  module _ (w : waits c ≡ false) where
    -- both directions' fields are good
    fields_on : good_fields (given c.out m) [] ≡ true → good_fields (given c.inn m) [] ≡ true → fields_def p m c ≡ accepted p m (Ok (Cmd c))
    fields_on e f =
        let n : first_of_checks ((not (waits c) && not (fields_fit (given_in c m) no_tables), Fields) ∷ []) ≡ none = rw (w, e, f) refl in
        ap (λ (k : Option Refusal). take_by k p m (Ok (Cmd c))) n

    -- a bad field of data-out, or of data-in
    out_10 : good_fields (given c.out m) [] ≡ false → fields_def p m c ≡ answering (after_use 1 p) (Err Fields) (answer (solicited c.request 2) c.request.tag 2)
    out_10 e = rw (w, e) refl

    in_10 : good_fields (given c.out m) [] ≡ true → good_fields (given c.inn m) [] ≡ false
        → fields_def p m c ≡ answering (after_use 1 p) (Err Fields) (answer (solicited c.request 2) c.request.tag 2)
    in_10 e f = rw (w, e, f) refl

-- ── what take does of it

module _ {l st l' st' m : List ℕ} {c : Command} {r : Answer} (b : List ℕ) where
  pub waited : waits c ≡ true → Enters l st l' st' m c r → DecidesFields l st b l' st' b m c r
  waited w E = record { answers = answers_by (fields_wait (view l st) m c w) (E.answers b); store = E.store }

  pub entered : waits c ≡ false → {o n : Part} → Kept m c.out o → Kept m c.inn n → Enters l st l' st' m c r → DecidesFields l st b l' st' b m c r
  entered w Ko Kn E = record { answers = answers_by (fields_on (view l st) m c w Ko.good Kn.good) (E.answers b); store = E.store }

module _ {l st b l' b' m : List ℕ} {c : Command} {r : Answer} (w : waits c ≡ false) where
  pub bad_out : good_fields (given c.out m) [] ≡ false → Answers l b l' b' c.request 2 (Err Fields) r → DecidesFields l st b l' st b' m c r
  bad_out e A = record { answers = answers_by (out_10 (view l st) m c w e) (A st); store = not_taken (A st) refl }

  pub bad_in : {o : Part} → Kept m c.out o → good_fields (given c.inn m) [] ≡ false → Answers l b l' b' c.request 2 (Err Fields) r → DecidesFields l st b l' st b' m c r
  bad_in K e A = record { answers = answers_by (in_10 (view l st) m c w K.good e) (A st); store = not_taken (A st) refl }

-- ── what is entered

-- what stands in a message that has its exact length
standing_long : (m : List ℕ) (d : Descriptor) → LiesIn m d → length (standing d m) ≡ standing_size_lem d
standing_long m d L = go (eqb d.format 1) (eqb d.format 2) L.inside
  where
    go : (x y : Bool) → d.at + cond x 16 (cond y (20 + 16 * d.count) 0) ≤ length m
        → length (cond x (take 16 (drop d.at m)) (cond y (copies d m) [])) ≡ cond x 16 (cond y (16 * d.count) 0)
    go true y h = omega (arith, length-take 16 (drop d.at m), length-drop d.at m)
    go false true h = omega (arith, length-take (16 * d.count) (drop (d.at + 20) m), length-drop (d.at + 20) m)
    go false false h = refl

-- a direction as it stands in the message
holds_standing : (m : List ℕ) (d : Descriptor) → LiesIn m d → Holds (standing d m) (new_part_lem 0 0) (placeless d)
holds_standing m d L =
    let e = standing_long m d L in
    let T : TableFits (placeless d) = record { format = L.format; few = L.count; unplaced = refl } in
    record { short = omega (arith, e, standing_short d L.count); segments = omega arith; standing = omega (arith, e); counted = omega arith; table = T }

pub reads_waiting : {m : List ℕ} {c : Command} → FitsIn m c → waits c ≡ true → NewlyRead m c (new_part_lem 0 0) (new_part_lem 0 0) (record { waiting = true; out = placeless c.out; inn = placeless c.inn })
reads_waiting {m} {c} F w =
    let eo = standing_long m c.out F.out in
    let ei = standing_long m c.inn F.inn in
    record {
      waits = sym w;
      out = holds_standing m c.out F.out;
      inn = holds_standing m c.inn F.inn;
      opens = rw (w, take_all (standing_size_lem c.out) (standing c.out m) (omega (arith, eo)), take_all (standing_size_lem c.inn) (standing c.inn m) (omega (arith, ei))) refl;
    }

-- or its segments
holds_segments : (m : List ℕ) (d : Descriptor) (p : Part) → LiesIn m d → Kept m d p → Holds (standing d m) p no_table
holds_segments m d p L K =
    rw K.part
    (record {
      short = omega (arith, given_short d m, standing_short d L.count);
      segments = omega arith;
      standing = omega arith;
      counted = omega arith;
      table = record { format = omega arith; few = omega arith; unplaced = refl };
    })

pub reads_ready : {m : List ℕ} {c : Command} {o n : Part} → FitsIn m c → waits c ≡ false → Kept m c.out o → Kept m c.inn n → NewlyRead m c o n not_waiting_lem
reads_ready {m} {c} {o} {n} F w Ko Kn =
    let ho : 16 * (length (standing c.out m) / 16) ≡ length (standing c.out m) = omega (arith, Ko.whole) in
    let hi : 16 * (length (standing c.inn m) / 16) ≡ length (standing c.inn m) = omega (arith, Kn.whole) in
    record {
      waits = sym w;
      out = holds_segments m c.out o F.out Ko;
      inn = holds_segments m c.inn n F.inn Kn;
      opens = rw (w, Ko.part, Kn.part, Ko.stands, Kn.stands, ho, hi, take-length (standing c.out m), take-length (standing c.inn m)) refl;
    }
