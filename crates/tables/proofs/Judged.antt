-- What the tables of the command in slot i, which waits, come to, by their lengths and by both directions' fields.
-- Assumes nothing.
use mathlib.Core.Path.{◌≡◌, refl, ◌∙◌, ap}
use mathlib.Core.Bool.{true, false}
use mathlib.Core.List.{List, [], ◌∷◌}
use Prim.Native.Nat.{ℕ, ◌≤◌}
use lib.ListN.{length, get_or, drop}
use Rattle.std.specs.Prelude.{Result, Ok, Err, IsErrAnd}
use Rattle.srp.specs.Limits.{buffer_size}
use Rattle.srp.specs.Both.{Both}
use Rattle.srp.specs.Descriptors.{fetched, Given, segments, reachable, good_format, good_fields}
use Rattle.srp.specs.Take.{Tables, silent, closed, new_side}
use Rattle.srp.specs.Answers.{refusing}
use Rattle.srp.specs.Tables.{brought, tables_checks, tables_outcome, tables_by, tables_def}
use Rattle.srp.specs.declared.Answer.{Answer}
use Rattle.srp.specs.declared.Direction.TheVariants.{Out, In}
use Rattle.srp.specs.declared.Refusal.{Refusal}
use Rattle.srp.specs.declared.Refusal.TheVariants.{TableLength}
use Rattle.srp.specs.declared.Reply.TheVariants.{Performed}
use Rattle.srp.proofs.FieldLaws.{both}
use Rattle.words.specs.declared.Part.{Part}
use Rattle.words.specs.declared.Slot.{Slot}
use Rattle.words.specs.Slots.{slots, no_slot, SlotIs, place_for_lem}
use Rattle.words.specs.Head.{head_of}
use Rattle.words.specs.View.{given_of, view}
use Rattle.words.proofs.Ports.{view_live}
use Rattle.state.specs.Changes.{FoundAt}
use Rattle.state.specs.Opening.{Draws}
use Rattle.state.proofs.Promises.{unaltered, answers_by, accepted, found_slot}
use Rattle.state.proofs.Drawn.{answers_closed, handed}
use Rattle.store.specs.Places.{Supplied}
use Rattle.tables.specs.Bringing.{tables, judged_def, bad_def, answered_by, Kept, EndsBad, Brings}
use Rattle.tables.proofs.Judging.{tables_judged, out_9, in_9, out_10, in_10, tables_on}
use Rattle.tables.proofs.Brought.{kept, placed, new_side_lem, brought_as, supplied_view}

-- ── how a call ends without the tables

module _ {l st b : List ℕ} {tag : ℕ} {t : Tables} where
  -- a refusal alters nothing
  pub refuses : {f : Refusal} → tables_def (view l st) (length b) tag t ≡ silent (view l st) (Err f) → Brings l st b l st b tag t (refusing f)
  refuses {f} e = record { answers = answers_by e (unaltered l st b f (refusing f) refl); store = kept (λ q. cc) }

  -- 21
  pub refuses_closed : {f : Refusal} → buffer_size ≤ length b → Draws l (λ p. closed p ∷ []) f → (r : Result Answer Refusal) → IsErrAnd r (λ g. g ≡ f)
      → Brings l st b l st b tag t (answered_by r)
  refuses_closed {f} h e r on =
      handed (λ x. Brings l st b l st b tag t (answered_by x)) r on
      (record {
        answers = answers_closed l st b {r = refusing f} refl (λ k. tables_by k (view l st) tag t) refl h e (drop 2 (tables_checks (view l st) (length b) tag t));
        store = kept (λ q. cc);
      })

  -- refusal 10 answers the command
  pub answers_bad : {l' b' : List ℕ} {r : Answer} → tables_def (view l st) (length b) tag t ≡ bad_def tag (view l st) → EndsBad l b l' b' tag r
      → Brings l st b l' st b' tag t r
  answers_bad e A =
      record { answers = answers_by e (A st); store = kept (λ q. let a = ap (λ (x : Answer). x.reply) (A st).answer in cc) }

-- ── the command

-- what its tables are judged by
abbrev awaited : List ℕ → Slot → Both Given
awaited st c = record { out = given_of st (place_for_lem Out c) c.awaits.out; inn = given_of st (place_for_lem In c) c.awaits.inn }

module _ (st b out inn : List ℕ) {l : List ℕ} {tag i : ℕ} {c : Slot} (live : (head_of l).live ≡ true) (F : FoundAt l tag i) (S : SlotIs l i c)
    (w : (get_or (slots l) i no_slot).awaits.waiting ≡ true) (enough : buffer_size ≤ length b) where
  waits : c.awaits.waiting ≡ true
  waits = ap (λ (x : Slot). x.awaits.waiting) S.whole ∙ w

  judged : tables_def (view l st) (length b) tag (tables out inn) ≡ judged_def (view l st) tag (tables out inn) (awaited st c)
  judged =
      tables_judged (view l st) (length b) tag (tables out inn) enough (view_live l st ∙ live) (found_slot F live st S)
      (awaited st c) (rw waits refl)

  pub unfit_out : (length out ≡ fetched c.awaits.out → ⊥) → Brings l st b l st b tag (tables out inn) (refusing TableLength)
  unfit_out ne = refuses (judged ∙ out_9 (view l st) tag (tables out inn) (awaited st c) ne)

  module _ (lo : length out ≡ fetched c.awaits.out) where
    pub unfit_in : (length inn ≡ fetched c.awaits.inn → ⊥) → Brings l st b l st b tag (tables out inn) (refusing TableLength)
    unfit_in ne = refuses (judged ∙ in_9 (view l st) tag (tables out inn) (awaited st c) lo ne)

    module _ (li : length inn ≡ fetched c.awaits.inn) where
      pub bad_out : {l' b' : List ℕ} {r : Answer} → good_fields (awaited st c).out out ≡ false → EndsBad l b l' b' tag r → Brings l st b l' st b' tag (tables out inn) r
      bad_out e A = answers_bad (judged ∙ out_10 (view l st) tag (tables out inn) (awaited st c) lo li e) A

      module _ {o : Part} (Ko : Kept (awaited st c).out out o) where
        pub bad_in : {l' b' : List ℕ} {r : Answer} → good_fields (awaited st c).inn inn ≡ false → EndsBad l b l' b' tag r → Brings l st b l' st b' tag (tables out inn) r
        bad_in e A = answers_bad (judged ∙ in_10 (view l st) tag (tables out inn) (awaited st c) lo li Ko.good e) A

        module _ {n : Part} (Kn : Kept (awaited st c).inn inn n) where
          -- the port with the command's segments
          port_after : (l' st' : List ℕ) → Supplied i l st l' st' o n out inn → view l' st' ≡ (tables_outcome (view l st) tag (tables out inn)).port
          port_after l' st' X =
              let fo = (both (good_format (awaited st c).out out) (reachable (segments (awaited st c).out out)) Ko.good).0 in
              let fi = (both (good_format (awaited st c).inn inn) (reachable (segments (awaited st c).inn inn)) Kn.good).0 in
              supplied_view l st l' st' tag i live F o n out inn X (brought new_side (tables out inn))
              (rw (← S.whole)
              (brought_as st c waits o n out inn (rw Ko.part (new_side_lem st (place_for_lem Out c) c.awaits.out out lo fo _ Ko.whole refl))
              (rw Kn.part (new_side_lem st (place_for_lem In c) c.awaits.inn inn li fi _ Kn.whole refl))))

          -- both directions have their segments
          pub supplies : {l' st' : List ℕ} → Supplied i l st l' st' o n out inn → Brings l st b l' st' b tag (tables out inn) (record { reply = Ok Performed; wrote = 0 })
          supplies {l'} {st'} X =
              record {
                answers = answers_by (judged ∙ tables_on (view l st) tag (tables out inn) (awaited st c) lo li Ko.good Kn.good) (accepted refl (port_after l' st' X) refl refl refl);
                store = placed F X.place;
              }
