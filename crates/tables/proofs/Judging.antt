-- What the definition of tables comes to, test by test, in the order of the checks.
-- Assumes nothing.
use mathlib.Core.Path.{◌≡◌, refl, ap}
use mathlib.Core.Bool.{true, false, not}
use mathlib.Core.List.{[], ◌∷◌}
use mathlib.Core.Option.{Option, some}
use Prim.Native.Nat.{ℕ, ◌≤◌, ◌<◌}
use lib.ListN.{length}
use borrow.Author.Tests.{eq-eqb, ne_eqb, lt-ltb, le-ltb}
use Rattle.std.specs.Prelude.{Err}
use Rattle.srp.specs.Limits.{buffer_size}
use Rattle.srp.specs.Lists.{find}
use Rattle.srp.specs.Both.{Both}
use Rattle.srp.specs.Refusals.{first_of_checks}
use Rattle.srp.specs.Descriptors.{Given, fetched, good_fields}
use Rattle.srp.specs.Credit.{Open, Port, has_tag}
use Rattle.srp.specs.Take.{silent, is_open_lem, Tables, tables_fit, fields_fit}
use Rattle.srp.specs.Tables.{tables_checks, tables_outcome, tables_by, tables_def}
use Rattle.srp.specs.declared.Refusal.{Refusal}
use Rattle.srp.specs.declared.Refusal.TheVariants.{ShortBuffer, TableLength, Fields, TagNotOpen}
use Rattle.tables.specs.Bringing.{judged_def, bad_def}

-- ── 1 and 24

module _ (p : Port) (room tag : ℕ) (t : Tables) where
  -- a short buffer
  pub tables_1 : room < buffer_size → tables_def p room tag t ≡ silent p (Err ShortBuffer)
  tables_1 h = rw (lt-ltb room buffer_size h) refl

  module _ (enough : buffer_size ≤ room) (o : p.live ≡ true) where
    -- no open command has the tag
    pub tables_24 : is_open_lem p tag ≡ false → tables_def p room tag t ≡ silent p (Err TagNotOpen)
    tables_24 e = rw (le-ltb room buffer_size enough, o, e) refl

    -- one that waits has it: 9 and 10 follow
    pub tables_judged : {c : Open} → find (has_tag tag) p.held ≡ some c → (g : Both Given) → c.awaits ≡ some g → tables_def p room tag t ≡ judged_def p tag t g
    tables_judged f g e =
        ap (λ (x : Option Refusal). tables_by x p tag t)
        (let q : first_of_checks (tables_checks p room tag t) ≡ first_of_checks ((not (tables_fit g t), TableLength) ∷ (not (fields_fit g t), Fields) ∷ []) = rw (le-ltb room buffer_size enough, o, f, e) refl in q)

-- ── 9 and 10

module _ (p : Port) (tag : ℕ) (t : Tables) (g : Both Given) where
  -- the table of data-out has another length
  pub out_9 : (length t.out ≡ fetched g.out.descriptor → ⊥) → judged_def p tag t g ≡ silent p (Err TableLength)
  out_9 ne = rw (ne_eqb (length t.out) (fetched g.out.descriptor) ne) refl

  module _ (lo : length t.out ≡ fetched g.out.descriptor) where
    -- the table of data-in has another length
    pub in_9 : (length t.inn ≡ fetched g.inn.descriptor → ⊥) → judged_def p tag t g ≡ silent p (Err TableLength)
    in_9 ne = rw (eq-eqb (length t.out) (fetched g.out.descriptor) lo, ne_eqb (length t.inn) (fetched g.inn.descriptor) ne) refl

    module _ (li : length t.inn ≡ fetched g.inn.descriptor) where
      -- a bad field of data-out
      pub out_10 : good_fields g.out t.out ≡ false → judged_def p tag t g ≡ bad_def tag p
      out_10 e = rw (eq-eqb (length t.out) (fetched g.out.descriptor) lo, eq-eqb (length t.inn) (fetched g.inn.descriptor) li, e) refl

      module _ (good : good_fields g.out t.out ≡ true) where
        -- a bad field of data-in
        pub in_10 : good_fields g.inn t.inn ≡ false → judged_def p tag t g ≡ bad_def tag p
        in_10 e = rw (eq-eqb (length t.out) (fetched g.out.descriptor) lo, eq-eqb (length t.inn) (fetched g.inn.descriptor) li, good, e) refl

        -- no check hits
        pub tables_on : good_fields g.inn t.inn ≡ true → judged_def p tag t g ≡ tables_outcome p tag t
        tables_on e = rw (eq-eqb (length t.out) (fetched g.out.descriptor) lo, eq-eqb (length t.inn) (fetched g.inn.descriptor) li, good, e) refl
