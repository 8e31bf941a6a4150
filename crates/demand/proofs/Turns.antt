-- Turns, of the C functions: by their contracts alone.
-- Assumes nothing.
use mathlib.Core.Path.{◌≡◌, refl, sym, ◌∙◌, ap, subst}
use mathlib.Core.Logic.{⊎_elim}
use mathlib.Core.Bool.{true, true≢false}
use mathlib.Core.List.{List, [], ◌∷◌}
use mathlib.Core.Option.{Option, none, some}
use Prim.Native.Nat.{ℕ, ◌+◌}
use native.Mathlib.Omega.{arith}
use lib.ListN.{get_or}
use Rattle.std.specs.Prelude.{Result, Ok}
use Rattle.srp.specs.Lists.{find, is_some}
use Rattle.srp.specs.Refusals.{first_of_checks}
use Rattle.srp.specs.Both.{of}
use Rattle.srp.specs.Credit.{Open, Port, has_tag, closed_port}
use Rattle.srp.specs.Take.{Outcome}
use Rattle.srp.specs.Calls.{unless, kind_of, next_of, number_in, serve, serve_first, turn_checks, turn_def}
use Rattle.srp.specs.Ranges.{Ranges, Ranged}
use Rattle.srp.specs.Answers.{kind_number_lem, returned, size_of}
use Rattle.srp.specs.declared.Direction.{Direction}
use Rattle.srp.specs.declared.Piece.{Piece}
use Rattle.srp.specs.declared.Place.{Place}
use Rattle.srp.specs.declared.Refusal.{Refusal}
use Rattle.srp.specs.declared.Reply.{Reply}
use Rattle.srp.specs.declared.Reply.TheVariants.{Idle}
use Rattle.srp.specs.declared.Settings.{Settings}
use Rattle.srp.proofs.Ranges.{reached, step_same}
use Rattle.srp.proofs.Turns.{short_line, first_has_piece, idle_turns}
use Rattle.machine.specs.Machine.{login_of}
use Rattle.machine.proofs.Demand.{turns_served}
use Rattle.answer.specs.Words.{answer_words}
use Rattle.words.specs.View.{view}
use Rattle.exports.specs.Arguments.{settings_in}
use Rattle.exports.specs.Calls.{InC}
use Rattle.demand.specs.Calls.{seen, Call}
use Rattle.demand.specs.Turns.{ServedInTime, InLine, ServesInC, TurnSays, TurnsInC}
use Rattle.demand.proofs.Holds.{meets, logged_in_lem}
use Rattle.demand.proofs.Following.{led_reached}

-- ── how soon a move is served

served : (settings : List ℕ) (Q : ℕ) (own msg : List ℕ) (room : ℕ) (ss : List (List ℕ)) (p store : List ℕ) → ServedInTime settings Q own msg room ss p store
served settings Q own msg room ss p store l es run f =
    let c : Settings = settings_in settings Q in
    let e = logged_in_lem l store in
    turns_served c own room msg (ap (λ (o : Outcome). o.reply) e) seen Call (meets (login_of c msg)) (record { words = p; store = store }) (sym (ap (λ (o : Outcome). o.port) e)) es run f

-- ── the line; a closed port has none

in_line_lem : (p : Port) → Ranged p → InLine p
in_line_lem p r = ⊎_elim (λ e. subst InLine (sym e) closed) (λ v. record { lined = v.line; short = short_line p v }) r
  where
    closed : InLine closed_port
    closed = record { lined = record { each = λ tag d. refl; once = tt }; short = omega arith }

-- ── what a turn says

module _ (n : ℕ) (w : List ℕ) where
  closed_says : InC n w (turn_def closed_port) → TurnSays closed_port n w
  closed_says N =
      record {
        first = λ x others e. let z : ◌≡◌ {A = ℕ} 0 1 = cc in absurd (omega arith);
        idle = ((λ h. absurd (omega (arith, N.number, h.0))), (λ h. absurd (true≢false (sym h.0))));
      }

  module _ (p : Port) (v : Ranges p) (N : InC n w (turn_def p)) where
    passed : turn_def p ≡ serve_first p p.line
    passed =
        let e : first_of_checks (turn_checks p) ≡ none = rw v.live in
        ap (λ (x : Option Refusal). unless x p (serve_first p p.line)) e

    serves : (x : Place) (others : List Place) → p.line ≡ x ∷ others → ServesInC p x n w
    serves x others q =
        go (find (has_tag x.tag) p.held) refl (next_of p.terms x.direction (find (has_tag x.tag) p.held)) refl (first_has_piece p v x others q)
        (subst (λ (o : Outcome). InC n w o) (passed ∙ ap (λ (l : List Place). serve_first p l) q) N)
      where
        d : Direction
        d = x.direction

        go : (c : Option Open) → find (has_tag x.tag) p.held ≡ c → (y : Option Piece) → next_of p.terms d c ≡ y → is_some y ≡ true
            → InC n w (serve p x others (number_in d c) y) → ServesInC p x n w
        go c f none e h M = absurd (true≢false (sym h))
        go none f (some o) e h M = let z : ◌≡◌ {A = ℕ} 0 1 = cc in absurd (omega arith)
        go (some c) f (some o) e h M =
            record {
              command = c;
              is_open = f;
              piece = o;
              next = e;
              number = M.number;
              words = M.words
                  ∙ ap (λ (z : Piece). 1 ∷ kind_number_lem (kind_of d) ∷ z.handle ∷ z.address ∷ z.len ∷ z.offset ∷ ((of d c.sides).transfer.number + 1) ∷ x.tag ∷ [])
                  (step_same v x.tag d o (ap (λ (y : Option Open). next_of p.terms d y) f ∙ e));
            }

    -- with a first word of 0 no move was served
    none_stands : get_or w 0 0 ≡ 0 → (l : List Place) → p.line ≡ l → p.line ≡ []
    none_stands z [] q = q
    none_stands z (x ∷ others) q =
        let e : get_or w 0 0 ≡ 1 = ap (λ (l : List ℕ). get_or l 0 0) (serves x others q).words in
        absurd (omega (arith, z, e))

    says_idle : (turn_def p).reply ≡ Ok Idle → (n ≡ 0) × (get_or w 0 0 ≡ 0)
    says_idle e = (
      N.number ∙ ap returned e,
      ap (λ (l : List ℕ). get_or l 0 0) (N.words ∙ ap (λ (r : Result Reply Refusal). answer_words (record { reply = r; wrote = size_of (turn_def p).wrote })) e),
    )

    open_says : TurnSays p n w
    open_says =
        let I = idle_turns p v in
        record {
          first = serves;
          idle = ((λ h. (v.live, I.means.0 (none_stands h.1 p.line refl))), (λ h. says_idle (I.says.1 (I.means.1 h.1))));
        }

  turn_says : (p : Port) → Ranged p → InC n w (turn_def p) → TurnSays p n w
  turn_says p r N =
      ⊎_elim (λ e. subst (λ (q : Port). InC n w (turn_def q) → TurnSays q n w) (sym e) closed_says N) (λ v. open_says p v N) r

pub turns_in_c : TurnsInC
turns_in_c =
    record {
      served = served;
      line = λ s L. in_line_lem (seen s) (reached (led_reached s L));
      says = λ s L p q st w v n e f post.
          turn_says n v.now (seen s) (reached (led_reached s L))
          (subst (λ (l : List ℕ). InC n v.now (turn_def (view l s.store))) e
          (subst (λ (l : List ℕ). InC n v.now (turn_def (view p.now l))) f post.1.turns.numbers));
    }
