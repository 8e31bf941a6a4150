-- A turn does what demand 3 says of it: it serves the first of the line, and says idle just where no move has pieces.
-- Assumes nothing.
use mathlib.Core.Path.{◌≡◌, refl, ap, sym, ◌∙◌, subst}
use mathlib.Core.Logic.{◌↔◌}
use mathlib.Core.Bool.{Bool, true, false, true≢false}
use mathlib.Core.List.{List, [], ◌∷◌}
use mathlib.Core.Option.{Option, none, some}
use Prim.Native.Nat.{ℕ, ◌+◌}
use native.Mathlib.Omega.{arith}
use Rattle.std.specs.Prelude.{Result, Ok}
use Rattle.srp.specs.Lists.{find}
use Rattle.srp.specs.Refusals.{first_of_checks}
use Rattle.srp.specs.Both.{of}
use Rattle.srp.specs.Credit.{rule_of, Port, has_tag, place}
use Rattle.srp.specs.Line.{in_line, Lined, put_back}
use Rattle.srp.specs.Take.{silent}
use Rattle.srp.specs.Calls.{is_planned, next_of, number_in, wrapped, serve, serve_first, turn_checks, turn_def}
use Rattle.srp.specs.Answers.{refusal_in}
use Rattle.machine.specs.Machine.{Progress, so_far, Track, with_operation, Machine, tracked, Login}
use Rattle.machine.specs.Actions.{by_owner}
use Rattle.machine.specs.Operations.{pieces_left, is_unfinished, HandedOut, ByLine, TurnRight}
use Rattle.machine.specs.Transfers.{after_turn, turning}
use Rattle.srp.specs.declared.Terms.{Terms}
use Rattle.srp.specs.declared.Direction.{Direction}
use Rattle.srp.specs.declared.Piece.{Piece}
use Rattle.srp.specs.declared.Place.{Place}
use Rattle.srp.specs.declared.Reply.{Reply}
use Rattle.srp.specs.declared.Reply.TheVariants.{Served, Idle}
use Rattle.srp.proofs.ListLaws.{all_find}
use Rattle.srp.proofs.BothLaws.{each_of}
use Rattle.srp.proofs.CutLaws.{Lawful}
use Rattle.srp.proofs.Places.{place_self}
use Rattle.srp.proofs.Lines.{lined_turn}
use Rattle.machine.proofs.Moves.{Steady}
use Rattle.machine.proofs.Answers.{no_pieces, none_left, handed_out}
use Rattle.machine.proofs.Invariant.{Sound, InStep, Fine, Obeys, quiet}
use Rattle.machine.proofs.Owners.{Unrefused, owned, found}
use Rattle.machine.proofs.Steps.{here, steady_of, offered, number, number_of, next_of_lem, unwrapped, hands_on}
use Rattle.srp.specs.declared.Refusal.{Refusal}

-- a command with pieces left was planned
has_plan : (T : Terms) (d : Direction) (t : Track) → Sound T t → pieces_left T (of d t.sides) ≡ true → t.planned ≡ true
has_plan T d t s e = go t.planned refl
  where
    go : (b : Bool) → t.planned ≡ b → t.planned ≡ true
    go true f = f
    go false f = absurd (true≢false (sym e ∙ no_pieces T (of d t.sides) (each_of (λ g. g.moves ≡ []) d t.sides (s.unplanned f))))

-- where the first of the line is served, or idle said, the rest follows of a line that is each move with pieces
right : (T : Terms) (m : Machine) → Lined (pieces_left T) m.work.tracks m.work.line → (r : Result Reply Refusal) → ByLine T m m.work.line r → TurnRight T m r
right T m r said b = record { first = b; idle = idles m.work.line b; no_pieces = pieces m.work.line refl b }
  where
    idles : (l : List Place) → ByLine T m l said → (said ≡ Ok Idle) ↔ (l ≡ [])
    idles [] b = ((λ _. refl), λ _. b)
    idles (x ∷ others) b = ((λ e. let z : ◌≡◌ {A = ℕ} 0 1 = cc b.says in absurd (omega arith)), λ e. let z : ◌≡◌ {A = ℕ} 0 1 = cc in absurd (omega arith))

    pieces : (l : List Place) → m.work.line ≡ l → ByLine T m l said → (said ≡ Ok Idle) ↔ ((tag : ℕ) (d : Direction) → is_unfinished T d (tracked m tag) ≡ false)
    pieces [] q b = ((λ _ tag d. sym (r.each tag d) ∙ rw q), λ _. b)
    pieces (x ∷ others) q b = (
      (λ e. let z : ◌≡◌ {A = ℕ} 0 1 = cc b.says in absurd (omega arith)),
      λ f. absurd (true≢false (sym (rw (q, place_self x)) ∙ r.each x.tag x.direction ∙ f x.tag x.direction)),
    )

module _ {L : Login} {m : Machine} {p : Port} (h : InStep L m p) (cut : Lawful (rule_of L.terms)) where
  abbrev T : Terms
  T = L.terms

  turned : (r : Result Reply Refusal) → ByLine T m m.work.line r → TurnRight T m r
  turned r b = right T m h.work.lined r b

  -- the first of the line, (tag, d), has a piece, and is served
  serves : (tag : ℕ) (d : Direction) (others : List Place) → m.work.line ≡ place tag d ∷ others
      → let c = find (has_tag tag) p.held in
      Unrefused h (turning L) (serve p (place tag d) others (number_in d c) (next_of p.terms d c))
  serves tag d others e = go (tracked m tag) refl (sym (h.work.lined.each tag d) ∙ in_front)
    where
      in_front : in_line (place tag d) m.work.line ≡ true
      in_front = rw (e, place_self (place tag d))

      go : (x : Option Track) → tracked m tag ≡ x → is_unfinished T d x ≡ true
          → Unrefused h (turning L) (serve p (place tag d) others (number h cut tag d) (offered h cut tag d))
      go none f q = absurd (true≢false (sym q))
      go (some t) f q = by (offered h cut tag d) refl
        where
          g : Progress
          g = here h cut tag d t f

          s : Steady T g
          s = steady_of h cut tag d t f

          planned_now : t.planned ≡ true
          planned_now = has_plan T d t (all_find (Sound T) (has_tag tag) m.work.tracks t h.work.sound f) q

          by : (v : Option Piece) → offered h cut tag d ≡ v → Unrefused h (turning L) (serve p (place tag d) others (number h cut tag d) v)
          by none z = absurd (true≢false (sym q ∙ none_left T cut g s (next_of_lem h cut tag d t f none z)))
          by (some o) z =
              let o' = wrapped o in
              let n = number h cut tag d + 1 in
              let ok = hands_on h cut tag d o z (ap is_planned (found h tag t f) ∙ planned_now) (λ more. put_back more (place tag d) others) (λ more. put_back more (place tag d) others) refl
              (lined_turn (pieces_left T) tag d (with_operation o') m.work.tracks others (subst (Lined (pieces_left T) m.work.tracks) e h.work.lined)) in
              let out : HandedOut T g o' n =
              subst (λ (k : ℕ). HandedOut T g o' (k + 1)) (number_of h cut tag d t f)
              (subst (λ (y : Piece). HandedOut T g y (so_far g + 1)) (sym (unwrapped h cut tag d t f o z)) (handed_out T cut g s o (next_of_lem h cut tag d t f (some o) z))) in
              record {
                fine =
                    subst (λ (l : List Place). Fine L (after_turn T m l (some o')) false (serve p (place tag d) others (number h cut tag d) (some o))) (sym e)
                    (quiet ok (Ok (Served tag d o' n)));
                wrote = refl;
                answer =
                    turned (Ok (Served tag d o' n))
                    (subst (λ (l : List Place). ByLine T m l (Ok (Served tag d o' n))) (sym e) (record { track = t; is_open = f; piece = o'; number = n; says = refl; handed = out }));
              }

  serve_unrefused : (x : Place) (others : List Place) (n : ℕ) (v : Option Piece) → refusal_in (serve p x others n v).reply ≡ none
  serve_unrefused x others n none = refl
  serve_unrefused x others n (some o) = refl

  first_unrefused : (l : List Place) → refusal_in (serve_first p l).reply ≡ none
  first_unrefused [] = refl
  first_unrefused (x ∷ others) =
      let c = find (has_tag x.tag) p.held in
      serve_unrefused x others (number_in x.direction c) (next_of p.terms x.direction c)

  pub turn_obeys : Obeys L m (by_owner (turning L)) (turn_def p)
  turn_obeys =
      owned h (turning L) (first_of_checks (turn_checks p)) (serve_first p p.line) (rw h.live) (first_unrefused p.line) λ z.
      subst (λ (l : List Place). Unrefused h (turning L) (serve_first p l)) (sym h.work.line) (go m.work.line refl)
    where
      go : (l : List Place) → m.work.line ≡ l → Unrefused h (turning L) (serve_first p l)
      go [] e =
          record {
            fine = subst (λ (l : List Place). Fine L (after_turn T m l none) false (silent p (Ok Idle))) (sym e) (quiet h (Ok Idle));
            wrote = refl;
            answer = turned (Ok Idle) (subst (λ (l : List Place). ByLine T m l (Ok Idle)) (sym e) refl);
          }
      go (x ∷ others) e = serves x.tag x.direction others e
