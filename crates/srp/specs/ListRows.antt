-- Document 01, and document 02, job 5, worked out by hand: the lent list after a listing. The rows hold: proofs/ListRows.antt.
use Rattle.std.specs.Prelude.{true, false, List, [], ◌∷◌, ℕ, replicate}
use Rattle.std.proofs.Math.Option.{none}
use Rattle.srp.specs.Credit.{Side, Open, Port, closed_port, no_terms}
use Rattle.srp.specs.Calls.{listed_into}
use Rattle.srp.specs.declared.Record.{Record}

-- a direction of which h is so much, and an open command with such directions
abbrev pub reached : ℕ → Side
reached h =
    record { extent = record { segs = []; total = 0 }; transfer = record { required = 0; highest = h; at = 0; end = 0; number = 0 } }

abbrev pub opened : ℕ → ℕ → ℕ → ℕ → Open
opened tag lun out inn =
    record {
      request = record { tag = tag; lun = lun; ucsolnt = false; scsolnt = false };
      awaits = none;
      planned = true;
      sides = record { out = reached out; inn = reached inn };
    }

abbrev pub holding : List Open → Port
holding cs = record { live = true; wanted = 4; announced = 2; held = cs; unanswered = false; terms = no_terms; line = [] }

abbrev pub listed_as : ℕ → ℕ → ℕ → ℕ → Record
listed_as tag lun out inn = record { tag = tag; lun = lun; out = out; inn = inn }

-- so many records of the owner's, each as before the call
abbrev pub kept : ℕ → List Record
kept n = replicate n (listed_as 7 7 7 7)

-- a port, the list before, and after
abbrev pub rows : List (Port × (List Record × List Record))
rows =
    -- the oldest first, though its tag is the larger; the rest untouched
    (holding (opened 9 1 600 512 ∷ opened 2 3 0 4 ∷ []), (kept 18, listed_as 9 1 600 512 ∷ listed_as 2 3 0 4 ∷ kept 16))
    ∷ (holding (opened 2 3 0 4 ∷ opened 9 1 600 512 ∷ []), (kept 16, listed_as 2 3 0 4 ∷ listed_as 9 1 600 512 ∷ kept 14))
    -- none open
    ∷ (holding [], (kept 16, kept 16))
    -- a short list, and a closed port: untouched
    ∷ (holding (opened 9 1 600 512 ∷ []), (kept 15, kept 15))
    ∷ (holding (opened 9 1 600 512 ∷ []), ([], []))
    ∷ (closed_port, (kept 16, kept 16))
    ∷ []

abbrev pub after : Port × (List Record × List Record) → List Record
after r = listed_into r.0 r.1.0
