-- Digits in pairs, one digit more.
-- Assumes nothing.
use Rattle.std.proofs.Common.{◌≡◌, ℕ, ◌+◌, ◌*◌, ◌/◌, ◌%◌, List, [], ◌∷◌, ◌++◌, length, refl, ap, arith}
use Rattle.trace.specs.Input.{pairs}

-- the last of them, or d
abbrev pub last_of : ℕ → List ℕ → ℕ
last_of d [] = d
last_of d (v ∷ vs) = last_of v vs

pub last_more : (d : ℕ) (vs : List ℕ) (v : ℕ) → last_of d (vs ++ (v ∷ [])) ≡ v
last_more d [] v = refl
last_more d (x ∷ vs) v = last_more x vs v

-- behind whole pairs it stands alone
pub pairs_even : (vs : List ℕ) (v : ℕ) → length vs % 2 ≡ 0 → pairs (vs ++ (v ∷ [])) ≡ pairs vs
pairs_even [] v e = refl
pairs_even (h ∷ []) v e = absurd (let z : 1 ≡ 0 = e in omega (arith, z))
pairs_even (h ∷ l ∷ vs) v e = ap (λ (t : List ℕ). (h * 16 + l) ∷ t) (pairs_even vs v (omega (arith, e)))

-- behind one alone it makes a byte
pub pairs_odd : (vs : List ℕ) (v : ℕ) → length vs % 2 ≡ 1 → pairs (vs ++ (v ∷ [])) ≡ pairs vs ++ ((last_of 0 vs * 16 + v) ∷ [])
pairs_odd [] v e = absurd (let z : 0 ≡ 1 = e in omega (arith, z))
pairs_odd (h ∷ []) v e = refl
pairs_odd (h ∷ l ∷ []) v e = absurd (let z : 0 ≡ 1 = e in omega (arith, z))
pairs_odd (h ∷ l ∷ y ∷ vs) v e = ap (λ (t : List ℕ). (h * 16 + l) ∷ t) (pairs_odd (y ∷ vs) v (omega (arith, e)))

pub length_pairs : (vs : List ℕ) → length (pairs vs) ≡ length vs / 2
length_pairs [] = refl
length_pairs (h ∷ []) = refl
length_pairs (h ∷ l ∷ vs) = let e = length_pairs vs in omega (arith, e)
