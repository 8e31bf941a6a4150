-- A command that is taken, waiting for its tables or not, and one that gets them: the machine's is the port's, and is followed.
-- Assumes nothing.
use mathlib.Core.Path.{◌≡◌, refl, ap, sym, ◌∙◌}
use mathlib.Core.Bool.{Bool, true, false, cond}
use mathlib.Core.List.{List, []}
use mathlib.Core.Option.{Option, none, some}
use Prim.Native.Nat.{ℕ, ◌≤◌}
use native.Mathlib.Omega.{arith}
use lib.Dec.{eqb}
use lib.ListN.{length}
use borrow.Author.Tests.{eqb-true, not-false}
use Rattle.srp.specs.Lists.{is_some}
use Rattle.srp.specs.Descriptors.{Segment, standing_size_lem, Given, segments, fetched, reachable, good_format, good_fields}
use Rattle.srp.specs.Both.{Both, of}
use Rattle.srp.specs.Credit.{Open}
use Rattle.srp.specs.declared.Terms.{Terms}
use Rattle.srp.specs.declared.Request.{Request}
use Rattle.srp.specs.declared.Command.{Command}
use Rattle.srp.specs.Take.{Tables, no_tables, given_in, tables_fit, fields_fit, waits, ready, waiting, new_side, new_open}
use Rattle.srp.specs.Tables.{bad_lengths, bad_tables, brought_to, brought}
use Rattle.machine.specs.Machine.{Track, fresh, new_track}
use Rattle.machine.specs.Operations.{pieces_left}
use Rattle.srp.specs.declared.Direction.{Direction}
use Rattle.srp.specs.declared.Direction.TheVariants.{Out, In}
use Rattle.srp.proofs.BothLaws.{each_of}
use Rattle.srp.proofs.FieldLaws.{both}
use Rattle.srp.proofs.Segments.{given_short, few_segments}
use Rattle.srp.proofs.Given.{none_fit}
use Rattle.machine.proofs.Moves.{Steady, new_steady}
use Rattle.machine.proofs.Answers.{no_pieces}
use Rattle.machine.proofs.Invariant.{open_in, Short, Sound}

module _ (T : Terms) where
  ready_sound : (r : Request) (g : Both Given) (t : Tables) → Short (some g) → tables_fit g t ≡ true → fields_fit g t ≡ true → Sound T (ready fresh r g t)
  ready_sound r g t w l f =
      let e = both (eqb (length t.out) (fetched g.out.descriptor)) (eqb (length t.inn) (fetched g.inn.descriptor)) l in
      let a = both (good_fields g.out t.out) (good_fields g.inn t.inn) f in
      record {
        waits = λ _. refl;
        unplanned = λ _. (refl, refl);
        steady = (steady g.out t.out w.0 e.0 a.0, steady g.inn t.inn w.1 e.1 a.1);
        awaited = tt;
      }
    where
      steady : (g : Given) (table : List ℕ) → length g.bytes ≤ standing_size_lem g.descriptor → eqb (length table) (fetched g.descriptor) ≡ true
          → good_fields g table ≡ true → Steady T (fresh (segments g table))
      steady g table w e f =
          let q = both (good_format g table) (reachable (segments g table)) f in
          new_steady T _ (few_segments g table w q.0 (eqb-true (length table) (fetched g.descriptor) e)) q.1

  -- no segment is known
  waiting_sound : (r : Request) (g : Both Given) → Short (some g) → Sound T (waiting fresh r g)
  waiting_sound r g w =
      let none_yet = new_steady T [] (omega arith) refl in
      record { waits = λ _. refl; unplanned = λ _. (refl, refl); steady = (none_yet, none_yet); awaited = w }

  -- no move of new directions has pieces
  none_of : (a b : List Segment) (d : Direction) → pieces_left T (of d (record { out = fresh a; inn = fresh b })) ≡ false
  none_of a b Out = refl
  none_of a b In = refl

  -- ── it is taken

  pub record New (r : Request) (t : Track) (c : Open) : Type 0 where
    pub request : t.request ≡ r
    pub same : open_in T t ≡ c
    pub sound : Sound T t
    pub no_pieces : (d : Direction) → pieces_left T (of d t.sides) ≡ false

  pub new_track_lem : (c : Command) (s : List ℕ) → (waits c ≡ false → fields_fit (given_in c s) no_tables ≡ true) → New c.request (new_track c s) (new_open c s)
  new_track_lem c s f = go (waits c) refl f
    where
      g : Both Given
      g = given_in c s

      w : Short (some g)
      w = (given_short c.out s, given_short c.inn s)

      go : (b : Bool) → waits c ≡ b → (b ≡ false → fields_fit g no_tables ≡ true)
          → New c.request (cond b (waiting fresh c.request g) (ready fresh c.request g no_tables)) (cond b (waiting new_side c.request g) (ready new_side c.request g no_tables))
      go true z f = record { request = refl; same = refl; sound = waiting_sound c.request g w; no_pieces = none_of [] [] }
      go false z f =
          record {
            request = refl;
            same = refl;
            sound = ready_sound c.request g no_tables w (none_fit (fetched c.out) (fetched c.inn) z) (f refl);
            no_pieces = none_of (segments g.out []) (segments g.inn []);
          }

  -- ── it gets its tables

  module _ (t : Tables) (x : Track) where
    pub brought_request : (brought fresh t x).request ≡ x.request
    brought_request = go x.awaits
      where
        go : (o : Option (Both Given)) → (brought_to o fresh t x).request ≡ x.request
        go none = refl
        go (some g) = refl

    pub brought_same : brought new_side t (open_in T x) ≡ open_in T (brought fresh t x)
    brought_same = go x.awaits
      where
        go : (o : Option (Both Given)) → brought_to o new_side t (open_in T x) ≡ open_in T (brought_to o fresh t x)
        go none = refl
        go (some g) = refl

    pub brought_sound : Sound T x → bad_lengths x.awaits t ≡ false → bad_tables x.awaits t ≡ false → Sound T (brought fresh t x)
    brought_sound s l e = go x.awaits s.awaited l e
      where
        go : (o : Option (Both Given)) → Short o → bad_lengths o t ≡ false → bad_tables o t ≡ false → Sound T (brought_to o fresh t x)
        go none w l e = s
        go (some g) w l e = ready_sound x.request g t w (not-false (tables_fit g t) l) (not-false (fields_fit g t) e)

    -- no piece comes with the tables, and a command that waited for them had none
    pub brought_none : Sound T x → (d : Direction) → pieces_left T (of d (brought fresh t x).sides) ≡ pieces_left T (of d x.sides)
    brought_none s d = go x.awaits refl
      where
        go : (o : Option (Both Given)) → x.awaits ≡ o → pieces_left T (of d (brought_to o fresh t x).sides) ≡ pieces_left T (of d x.sides)
        go none e = refl
        go (some g) e =
            none_of (segments g.out t.out) (segments g.inn t.inn) d
            ∙ sym (no_pieces T (of d x.sides) (each_of (λ g. g.moves ≡ []) d x.sides (s.unplanned (s.waits (ap is_some e)))))
