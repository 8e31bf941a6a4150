-- The listing in words, and what a call without a message writes. Assumes nothing.
use mathlib.Core.Path.{◌≡◌, refl, sym, ◌∙◌, ap}
use mathlib.Core.List.{List, [], ◌∷◌, ◌++◌}
use mathlib.Core.Option.{Option, none, some}
use Prim.Native.Nat.{ℕ, ◌+◌, ◌*◌, ◌/◌, ◌<◌, ◌≤◌}
use native.Mathlib.Omega.{arith}
use native.Mathlib.Numerals.{add-one}
use lib.ListN.{length, take, drop, get_or, length-append, replicate}
use lib.Seq.{paste, take-suc, take-length, take-append_seam, length-take-le, length-paste, drop-append-add, drop-drop}
use Rattle.srp.specs.Refusals.{first_of_checks}
use Rattle.srp.specs.Lists.{over}
use Rattle.srp.specs.Credit.{Port}
use Rattle.srp.specs.Take.{Outcome}
use Rattle.srp.specs.Calls.{unless, records_for, counters_def, list_def, counters_checks, counters_outcome, list_checks, list_outcome}
use Rattle.std.specs.Prelude.{Result, Ok}
use Rattle.srp.specs.declared.Refusal.{Refusal}
use Rattle.srp.specs.declared.Reply.{Reply}
use Rattle.srp.specs.declared.Reply.TheVariants.{Listed}
use Rattle.srp.proofs.Listing.{refused_none}
use Rattle.srp.specs.declared.Record.{Record}
use Rattle.words.specs.View.{view}
use Rattle.report.specs.Reports.{slot_records, Room}
use Rattle.report.proofs.Listed.{none_drawn, replies, records_are}
use Rattle.exports.specs.Arguments.{record_size, record_words, all_words}
use Rattle.exports.specs.Calls.{Gives, ListsInC, ListInC}
use Rattle.exports.proofs.InC.{in_numbers, silently}

-- a call that writes no message where none of its checks hits writes none
unwritten : (x : Option Refusal) (p : Port) (o : Outcome) → o.wrote ≡ [] → (unless x p o).wrote ≡ []
unwritten none p o e = e
unwritten (some f) p o e = refl

pub counters_unwritten : (p : Port) → (counters_def p).wrote ≡ []
counters_unwritten p = unwritten (first_of_checks (counters_checks p)) p (counters_outcome p) refl

pub list_unwritten : (p : Port) (room : ℕ) → (list_def p room).wrote ≡ []
list_unwritten p room = unwritten (first_of_checks (list_checks p room)) p (list_outcome p) refl

-- ── records in words

all_append : (xs ys : List Record) → all_words (xs ++ ys) ≡ all_words xs ++ all_words ys
all_append [] ys = refl
all_append (x ∷ xs) ys = ap (λ (l : List ℕ). record_words x ++ l) (all_append xs ys)

pub all_length : (xs : List Record) → length (all_words xs) ≡ record_size * length xs
all_length [] = refl
all_length (x ∷ xs) = omega (arith, all_length xs)

-- words put behind those that are there
behind : (a x d : List ℕ) → length a + length x ≤ length d
    → paste (over a d) (length a) x (length x) ≡ over (a ++ x) d
behind a x d h =
    ap (λ (l : List ℕ). l ++ take (length x) x ++ drop (length a + length x) (a ++ drop (length a) d)) (take-append_seam a (drop (length a) d))
    ∙ ap (λ (l : List ℕ). a ++ l ++ drop (length a + length x) (a ++ drop (length a) d)) (take-length x)
    ∙ ap (λ (l : List ℕ). a ++ x ++ l) (drop-append-add a (drop (length a) d) (length x) ∙ drop-drop (length x) (length a) d)
    ∙ ap (λ (k : ℕ). (a ++ x) ++ drop k d) (sym (length-append a x))

-- the first i of the records are written
pub record Filled (records : List Record) (before after : List ℕ) (i : ℕ) : Type 0 where
  pub filled : after ≡ over (all_words (take i records)) before
  pub size : length after ≡ length before

-- and one more
module _ {records : List Record} {before after : List ℕ} {i : ℕ} (F : Filled records before after i) (less : i < length records)
    (room : record_size * i + record_size ≤ length before) (z : Record) where
  done : length (all_words (take i records)) ≡ record_size * i
  done = all_length (take i records) ∙ ap (λ (k : ℕ). record_size * k) (length-take-le i records (omega arith))

  one_more : all_words (take i records) ++ record_words (get_or records i z) ≡ all_words (take (i + 1) records)
  one_more =
      sym (all_append (take i records) (get_or records i z ∷ []))
      ∙ ap (λ (l : List Record). all_words l) (sym (take-suc records i z less))
      ∙ ap (λ (k : ℕ). all_words (take k records)) (sym (add-one i))

  pub fill_more : Filled records before (paste after (record_size * i) (record_words (get_or records i z)) record_size) (i + 1)
  fill_more =
      record {
        filled =
            ap (λ (l : List ℕ). paste l (record_size * i) (record_words (get_or records i z)) record_size) F.filled
            ∙ ap (λ (k : ℕ). paste (over (all_words (take i records)) before) k (record_words (get_or records i z)) record_size) (sym done)
            ∙ behind (all_words (take i records)) (record_words (get_or records i z)) before (omega (arith, done))
            ∙ ap (λ (l : List ℕ). over l before) one_more;
        size = length-paste after (record_size * i) (record_words (get_or records i z)) record_size (omega (arith, F.size)) (omega arith) ∙ F.size;
      }

-- ── what the call from C promises of a listing that has room for n records

pub listed_in_c : {l before after : List ℕ} {n : ℕ} → Room l (length before / record_size) n → after ≡ over (all_words (take n (slot_records l))) before
    → ListInC l before after 0 (n ∷ replicate 7 0)
listed_in_c {l} {before} R e st =
    let p = view l st in
    let room = length before / record_size in
    let d = none_drawn R st in
    record {
      numbers = in_numbers (silently (list_def p room) (replies R st) (list_unwritten p room)) (refl, refl);
      records = rw d (e ∙ ap (λ (rs : List Record). over (all_words rs) before) (sym (records_are R st)));
    }

-- a listing that is refused writes no record
pub list_refused : (p : Port) (before : List ℕ) {r : Result Reply Refusal} → r ≡ (list_def p (length before / record_size)).reply
    → {n : ℕ} {w : List ℕ} → Gives n w (record { reply = r; wrote = 0 }) → ((n : ℕ) → r ≡ Ok (Listed n) → ⊥) → ListsInC p before before n w
list_refused p before {r} e g k =
    let d : records_for p (length before / record_size) ≡ [] = refused_none p (length before / record_size) r e k in
    record {
      numbers = in_numbers (silently (list_def p (length before / record_size)) e (list_unwritten p (length before / record_size))) g;
      records = ap (λ (rs : List Record). over (all_words rs) before) (sym d);
    }
