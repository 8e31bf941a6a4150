-- What srp_format_counts counts is what srp_look returns, and the formula. Assumes nothing.
use mathlib.Core.Path.{◌≡◌, refl, sym, ap, ◌∙◌}
use mathlib.Core.Bool.{Bool, true, false, cond, ◌&&◌, ◌||◌}
use mathlib.Core.List.{List, ◌∷◌, ◌++◌}
use mathlib.Core.Option.{Option, none, some}
use Prim.Native.Nat.{ℕ, zero, suc, ◌+◌, ◌*◌, ◌/◌, ◌%◌, ◌^◌, ◌≤◌, ◌<◌}
use native.Mathlib.Omega.{arith}
use borrow.Author.Tests.{eq-eqb, ne_eqb, le-ltb, eqb-true, not-false}
use lib.Dec.{eqb, ltb}
use lib.ListN.{length, length-replicate}
use Rattle.srp.specs.Limits.{answer_size, longest_agreed, shortest_command, most_copies, both_formats}
use Rattle.srp.specs.Bytes.{Bytes, get, behind, zeros}
use Rattle.srp.specs.Messages.{segment_length}
use Rattle.srp.specs.Refusals.{number_of, first_of_checks, Check}
use Rattle.srp.specs.Descriptors.{descriptor_size, descriptor_of_lem, bad_count}
use Rattle.srp.specs.Requests.{out_at, in_at, exact_length, other_formats_lem, bad_length, size_checks, look_checks}
use Rattle.srp.specs.declared.Refusal.{Refusal}
use Rattle.srp.specs.declared.Refusal.TheVariants.{OutFormat, InFormat}
use Rattle.srp.proofs.Checks.{passes as all-false}
use Rattle.srp.proofs.ListLaws.{all_append}
use Rattle.division.specs.Dividing.{drawn, passes, draws, values, count, division, divide_checks, Divided, divide_def, divided_number, division_words, divided_words}
use Rattle.division.specs.Formula.{otherwise}
use Rattle.division.proofs.Counting.{same}
use Rattle.division.proofs.Counts.{count_same}
use Rattle.division.proofs.Formula.{by_formula, in_message}
use Rattle.division.proofs.Rows.{each_agreement}
use Rattle.demand.specs.Judgement.{Judgement, short_answer, JudgesFormatCounts}
use Rattle.demand.specs.Posts.{MutSlice, FormatCountsPost}
use Rattle.demand.specs.Formats.{LengthNeverDecides, CountsLooks, FormatsInC}
use Rattle.demand.proofs.Judging.{number_for, not_zero}
use Rattle.demand.proofs.Judges.{judges_look, judges_format_counts}

-- ── what look returns

-- a message of its exact length has 48 bytes
at_least : (s : List ℕ) → first_of_checks (size_checks s) ≡ none → shortest_command ≤ length s
at_least s e = omega (arith, eqb-true (length s) (exact_length s) (not-false (eqb (length s) (exact_length s)) (all-false (size_checks s) e).0))

-- no other check hits, so it is what byte 5 draws
looked_first : (agreed formats b room : ℕ) (s : List ℕ) → bad_length agreed ≡ false → other_formats_lem both_formats formats ≡ false → answer_size ≤ room → LengthNeverDecides agreed b s
    → first_of_checks (short_answer room ∷ look_checks agreed formats s) ≡ drawn formats b
looked_first agreed formats b room s good known enough U =
    let long = at_least s U.size in
    rw
    (le-ltb room answer_size enough, good, known, le-ltb (length s) 16 (omega (arith, long)), le-ltb agreed (length s) U.most, U.type_is)
    (in_message formats s long ∙ rw (U.size, U.byte_5) (nothing_else (drawn formats b)))
  where
    nothing_else : (x : Option Refusal) → otherwise x none ≡ x
    nothing_else none = refl
    nothing_else (some r) = refl

-- a number by what was drawn, and so each test on it
numbered : {checks : List Check} {n : ℕ} {P : Type 0} {L : Refusal → Type 0} (x : Option Refusal) → Judgement checks n P L → first_of_checks checks ≡ x → n ≡ number_for x
numbered none J e = J.unrefused.1 e
numbered (some f) J e = (J.refuses f).1 e

returns_0 : (x : Option Refusal) → eqb (number_for x) 0 ≡ passes x
returns_0 none = refl
returns_0 (some f) = ne_eqb (number_of f) 0 (not_zero f)

returns_of : (f : Refusal) (x : Option Refusal) → eqb (number_for x) (number_of f) ≡ draws f x
returns_of f none = ne_eqb 0 (number_of f) (λ e. not_zero f (sym e))
returns_of f (some r) = refl

-- ── what is counted

unrefused : (w v : MutSlice) (formats : ℕ) → FormatCountsPost w v formats 0 → (other_formats_lem both_formats formats ≡ false) × (v.now ≡ division_words (division formats))
unrefused w v formats post =
    let J : JudgesFormatCounts formats 0 v.now = judges_format_counts formats 0 v.now post.1 in
    let none_hits = J.unrefused.0 refl in
    ((all-false (divide_checks formats) none_hits).0, J.performs none_hits)

looks : CountsLooks
looks agreed formats returns good asked w v post =
    let D = unrefused w v formats post in
    D.1
    ∙ ap division_words
    (same (counted (λ n. eqb n 0) passes returns_0 D.0) (counted (λ n. eqb n (number_of OutFormat)) (draws OutFormat) (returns_of OutFormat) D.0)
    (counted (λ n. eqb n (number_of InFormat)) (draws InFormat) (returns_of InFormat) D.0))
  where
    returned : other_formats_lem both_formats formats ≡ false → (b : ℕ) → b < values → returns b ≡ number_for (drawn formats b)
    returned known b h =
        let A = asked b h in
        numbered (drawn formats b) (judges_look A.before.now A.after.now (returns b) agreed formats A.m.now A.post.1)
        (looked_first agreed formats b (length A.before.now) A.m.now good known A.room A.message)

    counted : (p : ℕ → Bool) (q : Option Refusal → Bool) → ((x : Option Refusal) → p (number_for x) ≡ q x) → other_formats_lem both_formats formats ≡ false
        → count (λ b. q (drawn formats b)) values ≡ count (λ b. p (returns b)) values
    counted p q e known =
        count_same (λ b. q (drawn formats b)) (λ b. p (returns b)) values (λ b h. sym (ap p (returned known b h) ∙ e (drawn formats b)))

-- ── a message for each value: all else is 0, and the length is what the formats ask for

sizes : ℕ → ℕ
sizes b = descriptor_size (b / 2 ^ 4 % 2 ^ 4) 0 + descriptor_size (b / 2 ^ 0 % 2 ^ 4) 0

small : (f : ℕ) → descriptor_size f 0 ≤ 20
small f = go (eqb f 1) (eqb f 2)
  where
    go : (one two : Bool) → cond one 16 (cond two 20 0) ≤ 20
    go true two = omega arith
    go false true = omega arith
    go false false = omega arith

message : ℕ → List ℕ
message b = (2 ∷ 0 ∷ 0 ∷ 0 ∷ 0 ∷ b ∷ zeros 42) ++ zeros (sizes b)

all_zeros : (n : ℕ) → Bytes (zeros n)
all_zeros zero = tt
all_zeros (suc n) = (omega arith, all_zeros n)

bytes : (b : ℕ) → b < values → Bytes (message b)
unfolding message
bytes b h =
    all_append (λ x. x < 256) (2 ∷ 0 ∷ 0 ∷ 0 ∷ 0 ∷ b ∷ zeros 42) (zeros (sizes b))
    (omega arith, (omega arith, (omega arith, (omega arith, (omega arith, (h, all_zeros 42)))))) (all_zeros (sizes b))

few_copies : (f at : ℕ) (s : List ℕ) → bad_count (descriptor_of_lem f 0 at s) ≡ false
few_copies f at s = go (eqb f 2) (get (behind at segment_length) s)
  where
    go : (two : Bool) (len : ℕ) → (two && (ltb most_copies (cond two 0 0) || ltb (cond two len 0) (16 * cond two 0 0))) ≡ false
    go true len = rw (le-ltb len 0 (omega arith))
    go false len = refl

module _ (b : ℕ) where
  long : length (message b) ≡ 48 + sizes b
  unfolding message
  long = rw (length-replicate {A = ℕ} (sizes b) 0) (omega arith)

  short : sizes b ≤ 40
  unfolding sizes
  short = omega (arith, small (b / 2 ^ 4 % 2 ^ 4), small (b / 2 ^ 0 % 2 ^ 4))

  exact : length (message b) ≡ exact_length (message b)
  unfolding message sizes
  exact = long ∙ omega arith

  undecided : LengthNeverDecides longest_agreed b (message b)
  unfolding message
  undecided =
      record {
        type_is = refl;
        byte_5 = refl;
        most = omega (arith, long, short);
        size = rw (eq-eqb (length (message b)) (exact_length (message b)) exact, few_copies (b / 2 ^ 4 % 2 ^ 4) (out_at (message b)) (message b), few_copies (b / 2 ^ 0 % 2 ^ 4) (in_at (message b)) (message b));
      }

-- ── an agreement, by its answer

agreed : {formats : ℕ} {r : Divided} → divide_def formats ≡ r → (w v : MutSlice) (n : ℕ) → FormatCountsPost w v formats n → (n ≡ divided_number r) × (v.now ≡ divided_words r)
agreed e w v n post = (post.1.number ∙ ap divided_number e, post.1.words ∙ ap divided_words e)

pub formats_in_c : FormatsInC
formats_in_c =
    record {
      looks = looks;
      messages = λ b h. (message b, bytes b h, undecided b);
      numbers = (agreed each_agreement.0.1, (agreed each_agreement.1.0.1, (agreed each_agreement.1.1.0.1, (agreed each_agreement.1.1.1.0.1, tt))));
      by_formula = λ w v formats post. (unrefused w v formats post).1 ∙ ap division_words (by_formula formats);
    }
