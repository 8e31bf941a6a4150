-- Replies that have no values, and so no words but a message's length; and what a step says that hands out nothing. Assumes nothing.
use mathlib.Core.Path.{◌≡◌, refl, sym, ap, subst}
use mathlib.Core.Logic.{inl, inr, ⊎_elim}
use mathlib.Core.List.{List, [], ◌∷◌, ◌++◌}
use mathlib.Core.Option.{Option, none, some}
use Prim.Native.Nat.{ℕ}
use Rattle.std.specs.Prelude.{Result, Ok, Err}
use Rattle.srp.specs.Refusals.{first_of_checks}
use Rattle.srp.specs.Lists.{find}
use Rattle.srp.specs.Credit.{Port, has_tag}
use Rattle.srp.specs.Take.{Outcome, Tables}
use Rattle.srp.specs.Tables.{tables_checks, tables_by, tables_def}
use Rattle.srp.proofs.Refusing.{tables_as}
use Rattle.srp.specs.Calls.{unless, next_of, number_in, hand_out_lem, step_checks, step_def, serve, serve_first, turn_checks, turn_def, finish_checks, finish_def, grant_checks, grant_def, close_def, counters_def, finish_outcome, grant_outcome, close_checks, close_outcome, counters_checks, counters_outcome}
use Rattle.srp.specs.Answers.{values_of, answer_of}
use Rattle.srp.specs.declared.Refusal.{Refusal}
use Rattle.srp.specs.declared.Direction.{Direction}
use Rattle.srp.specs.declared.Piece.{Piece}
use Rattle.srp.specs.declared.Place.{Place}
use Rattle.srp.specs.declared.Kind.{Kind}
use Rattle.srp.specs.declared.Counters.{Counters}
use Rattle.srp.specs.declared.Answer.{Answer}
use Rattle.srp.specs.declared.Reply.{Reply}
use Rattle.srp.specs.declared.Reply.TheVariants.{Performed, Operation, Done, Served, Counts}
use Rattle.answer.specs.Words.{leading}
use Rattle.exports.specs.Calls.{Plain, Wordless, Ends}

pub plain_answer : (r : Answer) (o : Outcome) → r ≡ answer_of o → Plain o.reply → Plain r.reply
plain_answer r o e P = subst (λ (a : Answer). Plain a.reply) (sym e) P

-- a call that is refused or performed
plain_unless : (x : Option Refusal) (p : Port) (o : Outcome) → o.reply ≡ Ok Performed → Plain (unless x p o).reply
plain_unless none p o e = λ wrote. ap (λ (r : Result Reply Refusal). leading wrote r ++ values_of r) e
plain_unless (some f) p o e = λ wrote. refl

pub finish_plain : (p : Port) (room tag status : ℕ) (sense : List ℕ) → Plain (finish_def p room tag status sense).reply
finish_plain p room tag status sense =
    plain_unless (first_of_checks (finish_checks p room tag status sense)) p (finish_outcome p tag status sense) refl

pub tables_plain : (p : Port) (room tag : ℕ) (t : Tables) → Plain (tables_def p room tag t).reply
tables_plain p room tag t = go (first_of_checks (tables_checks p room tag t))
  where
    go : (x : Option Refusal) → Plain (tables_by x p tag t).reply
    go none = λ wrote. refl
    go (some f) = λ wrote. ap (λ (r : Result Reply Refusal). leading wrote r ++ values_of r) (tables_as p tag f)

pub grant_plain : (p : Port) (room : ℕ) → Plain (grant_def p room).reply
grant_plain p room = plain_unless (first_of_checks (grant_checks p room)) p (grant_outcome p) refl

pub close_plain : (p : Port) (room reason : ℕ) → Plain (close_def p room reason).reply
close_plain p room reason =
    plain_unless (first_of_checks (close_checks p room)) p (close_outcome p reason) refl

-- a step that gives no operation says done, or refuses
pub step_ends : (p : Port) (tag : ℕ) (d : Direction) (r : Result Reply Refusal) → r ≡ (step_def p tag d).reply → ((k : Kind) (o : Piece) (n : ℕ) → r ≡ Ok (Operation k o n) → ⊥) → Ends r
step_ends p tag d r e k = go (first_of_checks (step_checks p tag)) (next_of p.terms d (find (has_tag tag) p.held)) e
  where
    number : ℕ
    number = number_in d (find (has_tag tag) p.held)

    go : (x : Option Refusal) (y : Option Piece) → r ≡ (unless x p (hand_out_lem p tag d number y)).reply → Ends r
    go (some f) y q = inr (f, q)
    go none none q = inl (number, q)
    go none (some o) q = absurd (k _ _ _ q)

-- a refusal among these has no word
pub end_wordless : (r : Result Reply Refusal) → Ends r → ((n : ℕ) → r ≡ Ok (Done n) → ⊥) → Wordless r
end_wordless r e k =
    ⊎_elim (λ (d : (n : ℕ) × (r ≡ Ok (Done n))). absurd (k d.0 d.1)) (λ (f : (f : Refusal) × (r ≡ Err f)). subst Wordless (sym f.1) refl) e

-- a turn that serves no move
pub turn_wordless : (p : Port) (r : Result Reply Refusal) → r ≡ (turn_def p).reply → ((tag : ℕ) (d : Direction) (o : Piece) (n : ℕ) → r ≡ Ok (Served tag d o n) → ⊥) → Wordless r
turn_wordless p r e k = go (first_of_checks (turn_checks p)) p.line e
  where
    piece : (x : Place) (others : List Place) (n : ℕ) (y : Option Piece) → r ≡ (serve p x others n y).reply → Wordless r
    piece x others n none q = subst Wordless (sym q) refl
    piece x others n (some o) q = absurd (k _ _ _ _ q)

    go : (x : Option Refusal) (line : List Place) → r ≡ (unless x p (serve_first p line)).reply → Wordless r
    go (some f) line q = subst Wordless (sym q) refl
    go none [] q = subst Wordless (sym q) refl
    go none (x ∷ others) q =
        let c = find (has_tag x.tag) p.held in
        piece x others (number_in x.direction c) (next_of p.terms x.direction c) q

-- counters that are refused
pub counters_wordless : (p : Port) (r : Result Reply Refusal) → r ≡ (counters_def p).reply → ((c : Counters) → r ≡ Ok (Counts c) → ⊥) → Wordless r
counters_wordless p r e k = go (first_of_checks (counters_checks p)) e
  where
    go : (x : Option Refusal) → r ≡ (unless x p (counters_outcome p)).reply → Wordless r
    go (some f) q = subst Wordless (sym q) refl
    go none q = absurd (k _ q)
