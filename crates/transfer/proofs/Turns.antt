-- Turn: the first move of the line served, or none to serve.
-- Assumes nothing.
use mathlib.Core.Path.{◌≡◌, refl, sym, ◌∙◌, ap}
use mathlib.Core.Bool.{Bool, true}
use mathlib.Core.List.{List, ◌∷◌}
use mathlib.Core.Option.{Option, some}
use Prim.Native.Nat.{ℕ, ◌≤◌}
use native.Mathlib.Omega.{arith}
use lib.ListN.{get_or, drop}
use lib.Seq.{drop-cons, get_or-take}
use Rattle.std.specs.Prelude.{Result, Ok, None}
use Rattle.srp.specs.Credit.{Open, Port}
use Rattle.srp.specs.Line.{put_back}
use Rattle.srp.specs.Calls.{handing, next_of, number_in, serve, serve_first, turn_def}
use Rattle.srp.specs.declared.Direction.{Direction}
use Rattle.srp.specs.declared.Piece.{Piece}
use Rattle.srp.specs.declared.Place.{Place}
use Rattle.srp.specs.declared.Reply.{Reply}
use Rattle.srp.specs.declared.Reply.TheVariants.{Served, Idle}
use Rattle.words.specs.Line.{count, ring, line}
use Rattle.words.specs.Head.{head_of}
use Rattle.words.specs.View.{view}
use Rattle.words.proofs.Ports.{view_live}
use Rattle.line.specs.Changes.{no_place, LineChanged}
use Rattle.line.proofs.Ring.{line_long}
use Rattle.state.specs.Changes.{FoundAt, FoundIs}
use Rattle.state.proofs.Promises.{replies_by, performed, found_none}
use Rattle.transfer.specs.Stepping.{command_at, side_at, HandsOne}
use Rattle.transfer.specs.Turning.{Turns, FirstIs, Serves}
use Rattle.transfer.proofs.Handing.{view_line, altered_view, found_next, found_number}
use Rattle.srp.specs.declared.Refusal.{Refusal}

-- the first of a line that is not empty
pub first_is : (l : List ℕ) {n : ℕ} (x : Place) → n ≡ count l → (n ≡ 0 → ⊥) → x ≡ get_or (ring l) 0 no_place → FirstIs l x
first_is l {n} x c ne e =
    let some : 1 ≤ count l = omega (arith, c, ne) in
    record {
      some = some;
      first = drop-cons (line l) 0 no_place (omega (arith, line_long l, some)) ∙ ap (λ (y : Place). y ∷ drop 1 (line l)) (get_or-take (count l) (ring l) 0 no_place some ∙ sym e);
    }

-- an open port's turn
turn_open : (p : Port) → p.live ≡ true → turn_def p ≡ serve_first p p.line
turn_open p e = rw e refl

-- ── the call

module _ (l st : List ℕ) where
  module _ (live : (head_of l).live ≡ true) where
    -- what it comes to by the line
    by_line : {x : List Place} → line l ≡ x → turn_def (view l st) ≡ serve_first (view l st) x
    by_line e = turn_open (view l st) (view_live l st ∙ live) ∙ ap (serve_first (view l st)) (view_line l st live ∙ e)

    -- a place whose command is not open
    pub turns_unknown : {x : Place} → FirstIs l x → FoundIs l x.tag None → Turns l l st (Ok Idle)
    turns_unknown {x} I F =
        record {
          replies =
              replies_by
              (by_line I.first
              ∙ ap (λ (c : Option Open). serve (view l st) x (drop 1 (line l)) (number_in x.direction c) (next_of (view l st).terms x.direction c)) (found_none l x.tag F live st))
              (performed refl refl refl refl);
          idle = λ q. refl;
        }

    -- else as it is served
    pub turns_served : {l' : List ℕ} {r : Result Reply Refusal} → Serves l l' st r → Turns l l' st r
    turns_served S = record { replies = replies_by (turn_open (view l st) (view_live l st ∙ live)) S.replies; idle = S.idle }

-- ── the first served

module _ {l : List ℕ} {x : Place} {i : ℕ} (F : FoundAt l x.tag i) (live : (head_of l).live ≡ true) (I : FirstIs l x) (st : List ℕ) where
  abbrev d : Direction
  d = x.direction

  serve_by : {n : ℕ} {o : Option Piece} → n ≡ (side_at l st i d).transfer.number → next_of (head_of l).terms d (some (command_at l st i)) ≡ o
      → serve_first (view l st) (view l st).line ≡ serve (view l st) x (drop 1 (line l)) n o
  serve_by e f =
      ap (serve_first (view l st)) (view_line l st live ∙ I.first)
      ∙ (λ k. serve (view l st) x (drop 1 (line l)) ((found_number F live st d ∙ sym e) k) ((found_next F live st d ∙ f) k))

  -- its piece
  pub serves_one : {l' l'' : List ℕ} {o : Piece} {n : ℕ} {more : Bool} → HandsOne l l' st i d o n more → LineChanged l' l'' (λ q. put_back more x (drop 1 q))
      → Serves l l'' st (Ok (Served x.tag d o n))
  serves_one {l'} {l''} {o} {n} {more} H D =
      record {
        replies =
            replies_by (serve_by refl H.next)
            (performed (λ j. Ok (Served x.tag d (H.said j) (H.number j)))
            (altered_view F live st d (handing H.piece.len) l'' more (λ more. put_back more x (drop 1 (line l))) H.changed H.moved H.left D.slots D.head
            (D.line ∙ ap (λ (q : List Place). put_back more x (drop 1 q)) H.changed.line))
            refl refl);
        idle = λ q. let z : ◌≡◌ {A = ℕ} 0 1 = cc in let y : ⊥ = omega arith in absurd y;
      }
