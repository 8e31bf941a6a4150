-- Document 02, job 5, worked out by hand: tags in the order of taking, those that are open, and these oldest first. The rows hold: proofs/OrderRows.antt.
use Rattle.std.specs.Prelude.{List, [], ◌∷◌, ℕ}
use Rattle.machine.specs.Machine.{is_among, oldest_first}

pub record Row : Type 0 where
  pub taken : List ℕ
  pub held : List ℕ
  pub listed : List ℕ

abbrev pub row : List ℕ → List ℕ → List ℕ → Row
row taken held listed = record { taken = taken; held = held; listed = listed }

abbrev pub rows : List Row
rows =
    row [] [] []
    -- as they were taken, by no other order
    ∷ row (3 ∷ 1 ∷ 2 ∷ []) (1 ∷ 2 ∷ 3 ∷ []) (3 ∷ 1 ∷ 2 ∷ [])
    -- the first, one in the middle, the last, all have ended
    ∷ row (3 ∷ 1 ∷ 2 ∷ []) (1 ∷ 2 ∷ []) (1 ∷ 2 ∷ [])
    ∷ row (3 ∷ 1 ∷ 2 ∷ []) (2 ∷ 3 ∷ []) (3 ∷ 2 ∷ [])
    ∷ row (3 ∷ 1 ∷ 2 ∷ []) (1 ∷ 3 ∷ []) (3 ∷ 1 ∷ [])
    ∷ row (3 ∷ 1 ∷ 2 ∷ []) [] []
    -- "A tag used again counts as taken anew"
    ∷ row (3 ∷ 1 ∷ 2 ∷ 3 ∷ []) (1 ∷ 2 ∷ 3 ∷ []) (1 ∷ 2 ∷ 3 ∷ [])
    ∷ row (3 ∷ 1 ∷ 3 ∷ 2 ∷ 3 ∷ 1 ∷ []) (1 ∷ 2 ∷ 3 ∷ []) (2 ∷ 3 ∷ 1 ∷ [])
    ∷ row (3 ∷ 1 ∷ 3 ∷ []) (1 ∷ []) (1 ∷ [])
    ∷ row (3 ∷ 3 ∷ 3 ∷ []) (3 ∷ []) (3 ∷ [])
    ∷ []

abbrev pub listed_by : Row → List ℕ
listed_by r = oldest_first (λ tag. is_among tag r.held) r.taken
