-- What every port that a login made and calls changed has: the ranges of specs/Ranges.antt. And a closed port is one value.
-- Assumes nothing.
use mathlib.Core.Path.{◌≡◌, refl, ap, sym, ◌∙◌}
use mathlib.Core.Logic.{inl, ⊎_elim}
use mathlib.Core.Bool.{Bool, true, false, cond, true≢false}
use mathlib.Core.List.{List}
use mathlib.Core.Option.{Option, none, some, none-ne-some}
use Prim.Native.Nat.{ℕ}
use lib.Dec.{ltb}
use Rattle.srp.specs.Lists.{find}
use Rattle.srp.specs.Limits.{buffer_size}
use Rattle.srp.specs.Both.{of}
use Rattle.srp.specs.Credit.{Open, has_tag, rule_of, Port, closed_port}
use Rattle.srp.specs.Take.{Outcome, Tables, take_by, take_def}
use Rattle.srp.specs.Tables.{tables_by, tables_def}
use Rattle.srp.specs.Calls.{unless, plan_def, move_def, next_of, wrapped, step_def, turn_def, finish_def, add_def, withdraw_def, grant_def, close_def}
use Rattle.srp.specs.Ranges.{SideRanges, OpenRanges, Ranges, Reached, logged_in_lem, took, brought, planned, moved, stepped, turned, finished, added, withdrew, granted, hung_up, Ranged}
use Rattle.srp.specs.declared.Refusal.TheVariants.{ShortBuffer, Closed}
use Rattle.srp.specs.Requests.{Reading}
use Rattle.srp.specs.declared.Direction.{Direction}
use Rattle.srp.specs.declared.Piece.{Piece}
use Rattle.srp.proofs.ListLaws.{all_find}
use Rattle.srp.proofs.BothLaws.{each_of}
use Rattle.srp.proofs.Opened.{login_kept}
use Rattle.srp.proofs.Kept.{cutting, take_kept, tables_kept, plan_kept, add_kept, withdraw_kept, finish_kept, grant_kept, close_kept}
use Rattle.srp.proofs.Moved.{move_kept, step_kept, turn_kept}
use Rattle.srp.proofs.Pieces.{wrapped_same}

-- a call that leaves the closed port as it is, and whose other results are fine
carry : {p : Port} (f : Port → Port) → f closed_port ≡ closed_port → (Ranges p → Ranged (f p)) → Ranged p → Ranged (f p)
carry f z g k = ⊎_elim (λ e. inl (ap f e ∙ z)) g k

-- the closed port stays, whatever the room
take_shut : (b : Bool) (s : List ℕ) (m : Reading) → (take_by (cond b (some ShortBuffer) (some Closed)) closed_port s m).port ≡ closed_port
take_shut true s m = refl
take_shut false s m = refl

tables_shut : (b : Bool) (tag : ℕ) (t : Tables) → (tables_by (cond b (some ShortBuffer) (some Closed)) closed_port tag t).port ≡ closed_port
tables_shut true tag t = refl
tables_shut false tag t = refl

unless_shut : (b : Bool) (o : Outcome) → (unless (cond b (some ShortBuffer) (some Closed)) closed_port o).port ≡ closed_port
unless_shut true o = refl
unless_shut false o = refl

-- every port that a login made and calls changed is closed, as the one value closed_port, or has the ranges
pub reached : {p : Port} → Reached p → Ranged p
reached (logged_in_lem c own room s) = login_kept c own room s
reached (took r room s b) = carry (λ p. (take_def p room s).port) (take_shut (ltb room buffer_size) s _) (λ v. take_kept v room s b) (reached r)
reached (brought r room tag t) = carry (λ p. (tables_def p room tag t).port) (tables_shut (ltb room buffer_size) tag t) (λ v. tables_kept v room tag t) (reached r)
reached (planned r tag out inn ho hi) = carry (λ p. (plan_def p tag out inn).port) refl (λ v. plan_kept v tag out inn ho hi) (reached r)
reached (moved r tag d offset count) = carry (λ p. (move_def p tag d offset count).port) refl (λ v. move_kept v tag d offset count) (reached r)
reached (stepped r tag d) = carry (λ p. (step_def p tag d).port) refl (λ v. step_kept v tag d) (reached r)
reached (turned r) = carry (λ p. (turn_def p).port) refl turn_kept (reached r)
reached (finished r room tag status sense) =
    carry (λ p. (finish_def p room tag status sense).port) (unless_shut (ltb room buffer_size) _) (λ v. finish_kept v room tag status sense) (reached r)
reached (added r k) = carry (λ p. (add_def p k).port) refl (λ v. add_kept v k) (reached r)
reached (withdrew r k) = carry (λ p. (withdraw_def p k).port) refl (λ v. withdraw_kept v k) (reached r)
reached (granted r room) = carry (λ p. (grant_def p room).port) (unless_shut (ltb room buffer_size) _) (λ v. grant_kept v room) (reached r)
reached (hung_up r room reason) =
    carry (λ p. (close_def p room reason).port) (unless_shut (ltb room buffer_size) _) (λ v. close_kept v room reason) (reached r)

-- so a port that is open has the ranges
pub open_ranges : {p : Port} → Reached p → p.live ≡ true → Ranges p
open_ranges r e = ⊎_elim (λ z. absurd (true≢false (sym e ∙ ap (λ (q : Port). q.live) z))) (λ v. v) (reached r)

-- and one that is closed is that value
pub closed_one : {p : Port} → Reached p → p.live ≡ false → p ≡ closed_port
closed_one r e = ⊎_elim (λ z. z) (λ v. absurd (true≢false (sym v.live ∙ e))) (reached r)

-- and of a port with the ranges the address of a piece that a step hands out is the same in 64 bits
pub step_same : {p : Port} → Ranges p → (tag : ℕ) (d : Direction) (o : Piece)
    → next_of p.terms d (find (has_tag tag) p.held) ≡ some o → wrapped o ≡ o
step_same {p} v tag d o = go (find (has_tag tag) p.held) refl
  where
    go : (x : Option Open) → find (has_tag tag) p.held ≡ x → next_of p.terms d x ≡ some o → wrapped o ≡ o
    go none f e = absurd (none-ne-some o e)
    go (some c) f e =
        let s = of d c.sides in
        let r = each_of SideRanges d c.sides (all_find OpenRanges (has_tag tag) p.held c v.commands f).sides in
        wrapped_same (rule_of p.terms) s.transfer.at s.transfer.end s.extent.segs o r.extent.reach (cutting v) e
