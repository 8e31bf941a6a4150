-- Numbers and words for what the calls take and give: settings, a direction, records.
use Rattle.std.specs.Prelude.{cond, not, List, [], ◌∷◌, ◌++◌, ℕ, eqb, get_or}
use Rattle.srp.specs.declared.Direction.{Direction}
use Rattle.srp.specs.declared.Direction.TheVariants.{Out, In}
use Rattle.srp.specs.declared.Record.{Record}
use Rattle.srp.specs.declared.Settings.{Settings}
use Rattle.page.specs.declared.Way.{Way}
use Rattle.page.specs.declared.Way.TheVariants.{Towards, From}

-- N, M, X, indirect (0 no, else yes), solicited (0 no, else yes); Q is an argument by itself, in 64 bits
abbrev pub settings_in : (n : List ℕ) (Q : ℕ) → Settings
settings_in n Q =
    record {
      buffers = get_or n 0 0;
      maximum = get_or n 1 0;
      boundary = Q;
      longest = get_or n 2 0;
      indirect = not (eqb (get_or n 3 0) 0);
      solicited = not (eqb (get_or n 4 0) 0);
    }

-- 0 out, else in
abbrev pub direction_in : ℕ → Direction
direction_in n = cond (eqb n 0) Out In

-- a message's: 0 towards the port, else from it
abbrev pub way_in : ℕ → Way
way_in n = cond (eqb n 0) Towards From

-- a record in words: tag, LUN, h of data-out, h of data-in
abbrev pub record_size : ℕ
record_size = 4

abbrev pub record_words : Record → List ℕ
record_words r = r.tag ∷ r.lun ∷ r.out ∷ r.inn ∷ []

abbrev pub all_words : List Record → List ℕ
all_words [] = []
all_words (r ∷ rs) = record_words r ++ all_words rs
