-- Tables do what demand 3 says of them: their command is ready, or 10 answers and ends it, and any other refusal alters nothing.
-- Assumes nothing.
use mathlib.Core.Path.{◌≡◌, refl, ap, sym, ◌∙◌}
use mathlib.Core.Bool.{true, false, true≢false}
use mathlib.Core.List.{[], ◌∷◌, map}
use mathlib.Core.Option.{Option, none, some}
use Prim.Native.Nat.{ℕ}
use Rattle.std.specs.Prelude.{Ok, Err}
use Rattle.srp.specs.Bytes.{type_of}
use Rattle.srp.specs.Messages.{rsp}
use Rattle.srp.specs.Lists.{find, is_some}
use Rattle.srp.specs.Refusals.{Conduct, hangs_up, answered, stays, alters_nothing, conduct_of, first_of_checks}
use Rattle.srp.specs.Credit.{Open, Port, due, has_tag}
use Rattle.srp.specs.Writing.{answer}
use Rattle.srp.specs.Take.{is_open_lem, leaving, Tables, new_side}
use Rattle.srp.specs.Tables.{tables_checks, brought, bad_response, tables_refused, tables_by, tables_def}
use Rattle.machine.specs.Machine.{Track, fresh, Machine, tracked, ended_by, Login}
use Rattle.machine.specs.Actions.{if_answered}
use Rattle.machine.specs.Events.{bringing}
use Rattle.srp.specs.declared.Refusal.{Refusal}
use Rattle.srp.specs.declared.Refusal.TheVariants.{Fields}
use Rattle.srp.specs.declared.Reply.TheVariants.{Performed}
use Rattle.srp.proofs.Checks.{passes}
use Rattle.srp.proofs.ListLaws.{all_find}
use Rattle.srp.proofs.Refusing.{unrefused, tables_as, tables_iff, answered_open}
use Rattle.machine.proofs.Invariant.{Sound, InStep, open_same, Fine, Obeys, obeying, quiet, codes}
use Rattle.machine.proofs.Waiting.{brought_request, brought_same, brought_sound, brought_none}
use Rattle.machine.proofs.Owners.{changes, found, ends, awaited_same}

module _ {L : Login} {m : Machine} {p : Port} (h : InStep L m p) (room tag : ℕ) (t : Tables) where
  -- a refusal
  record Bad (k : Conduct) (r : Refusal) : Type 0 where
    fine : Fine L (if_answered k (ended_by m tag) m) false (tables_refused k p tag r)
    wrote : map type_of (tables_refused k p tag r).wrote ≡ if_answered k (rsp.code ∷ []) []

  bad : (k : Conduct) (r : Refusal) → (k ≡ answered → is_open_lem p tag ≡ true) → Bad k r
  bad (hangs_up reason) r e = record { fine = quiet h (Err r); wrote = refl }
  bad answered r e = responding (find (has_tag tag) p.held) refl (e refl)
    where
      responding : (c : Option Open) → find (has_tag tag) p.held ≡ c → is_some c ≡ true → Bad answered r
      responding none f g = absurd (true≢false (sym g))
      responding (some c) f g =
          record {
            fine = rw f (codes (ends h tag (e refl)) (Err r) c.request.ucsolnt c.request.tag 0x02);
            wrote = rw f;
          }
  bad stays r e = record { fine = quiet h (Err r); wrote = refl }
  bad alters_nothing r e = record { fine = quiet h (Err r); wrote = refl }

  -- the response to 10 is the command's, with code 02h
  answers : (k : Conduct) (r : Refusal) → k ≡ answered → (c : Track) → tracked m tag ≡ some c
      → (delta : ℕ) × ((tables_refused k p tag r).wrote ≡ answer c.request.ucsolnt c.request.tag 0x02 delta ∷ [])
  answers k r e c f =
      let delta = due (leaving p p.announced (has_tag tag)) in
      (delta, ap (λ (x : Conduct). (tables_refused x p tag r).wrote) e ∙ ap (λ (o : Option Open). bad_response o delta ∷ []) (found h tag c f))

  -- the checks, by the port's state and by the machine's own tracks
  checks_same : first_of_checks (tables_checks p room tag t) ≡ first_of_checks ((bringing room tag t).checks m)
  checks_same = rw (h.live, open_same h tag, awaited_same h tag)

  pub bring_obeys : Obeys L m (bringing room tag t) (tables_def p room tag t)
  bring_obeys = go (first_of_checks (tables_checks p room tag t)) refl
    where
      go : (v : Option Refusal) → first_of_checks (tables_checks p room tag t) ≡ v → Obeys L m (bringing room tag t) (tables_by v p tag t)
      go none e =
          let c = (passes (tables_checks p room tag t) e).1.1.1.1 in
          obeying m (bringing room tag t) (tables_by none p tag t)
          (quiet
          (changes h tag (brought new_side t) (brought fresh t) (brought_request L.terms t) (λ x f. brought_same L.terms t x)
          (λ x f s. brought_sound L.terms t x s (rw (found h tag x f) at c.0) (rw (found h tag x f) at c.1.0))
          (λ x f. brought_none L.terms t x (all_find (Sound L.terms) (has_tag tag) m.work.tracks x h.work.sound f)))
          (Ok Performed))
          refl (tables_iff p tag t none _ (sym e ∙ checks_same)) (λ g. absurd (unrefused (Ok Performed) Fields refl g))
      go (some r) e =
          let b = bad (conduct_of r) r (answered_open p tag room t r e) in
          obeying m (bringing room tag t) (tables_by (some r) p tag t) (rw (tables_as p tag r) b.fine) (rw (tables_as p tag r) b.wrote)
          (tables_iff p tag t (some r) _ (sym e ∙ checks_same))
          (λ g. answers (conduct_of r) r (ap conduct_of (let q : r ≡ Fields = cc (tables_as p tag r) in q)))
