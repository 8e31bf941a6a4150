-- Demand 2, "fields written by the layouts read back as those fields": what holds of a message written by its layout. The law for each of the ten is
-- `every_message` of proofs/Layouts.antt.
use Rattle.std.specs.Prelude.{◌≡◌, true, List, ◌∷◌, ◌++◌, ℕ, length}
use Rattle.srp.specs.Bytes.{Field, get, gets, Layout, kind, type_of, write, apart_from}

-- a message's fields, its type among them
abbrev pub all_fields : Layout → List Field
all_fields l = kind ∷ l.fields

-- of the fixed part written by layout l from the values vs
pub record Written (l : Layout) (vs : List ℕ) : Type 0 where
  pub long : length (write l vs) ≡ l.size
  -- what is written is read back, whatever follows
  pub code : type_of (write l vs) ≡ l.code
  pub values : gets l.fields (write l vs) ≡ vs
  pub code_before : (t : List ℕ) → type_of (write l vs ++ t) ≡ l.code
  pub values_before : (t : List ℕ) → gets l.fields (write l vs ++ t) ≡ vs
  -- and any other bytes or bits are 0
  pub zero_elsewhere : (g : Field) → apart_from g (all_fields l) ≡ true → get g (write l vs) ≡ 0
