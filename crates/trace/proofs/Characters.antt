-- One character more: what a line has without its spaces, and the values of its digits.
-- Assumes nothing.
use Rattle.std.specs.Prelude.{Option, Some, None}
use Rattle.std.proofs.Common.{◌≡◌, ℕ, ◌+◌, ◌-◌, ◌<◌, ◌≤◌, Bool, true, false, cond, eqb, leb, List, [], ◌∷◌, ◌++◌, sym, refl, ap, ◌∙◌, arith, leb-true}
use Prim.Native.Char.{code}
use Rattle.srp.proofs.ListLaws.{cond_out}
use Rattle.srp.proofs.FieldLaws.{both}
use Rattle.page.specs.declared.Way.TheVariants.{Towards, From}
use Rattle.trace.specs.Input.{is_space_lem, unspaced, among, digit_of_lem, content_by, valued, values_of}
use Rattle.trace.specs.declared.reader.Fault.TheVariants.{NoSign}
use Rattle.trace.specs.declared.reader.Content.TheVariants.{Nothing, Comment, Message, Wrong}

pub unspaced_more : (t : List ℕ) (c : ℕ) → unspaced (t ++ (c ∷ [])) ≡ cond (is_space_lem c) (unspaced t) (unspaced t ++ (c ∷ []))
unspaced_more [] c = refl
unspaced_more (x ∷ t) c = go (is_space_lem x) (is_space_lem c) (unspaced_more t c)
  where
    go : (b s : Bool) → unspaced (t ++ (c ∷ [])) ≡ cond s (unspaced t) (unspaced t ++ (c ∷ []))
        → cond b (unspaced (t ++ (c ∷ []))) (x ∷ unspaced (t ++ (c ∷ [])))
        ≡ cond s (cond b (unspaced t) (x ∷ unspaced t)) (cond b (unspaced t) (x ∷ unspaced t) ++ (c ∷ []))
    go true s e = e
    go false s e = ap (λ (l : List ℕ). x ∷ l) e ∙ sym (cond_out (λ (l : List ℕ). x ∷ l) s (unspaced t) (unspaced t ++ (c ∷ [])))

-- the values with one digit more
abbrev pub further : Option (List ℕ) → Option ℕ → Option (List ℕ)
further None d = None
further (Some vs) None = None
further (Some vs) (Some v) = Some (vs ++ (v ∷ []))

pub values_more : (cs : List ℕ) (c : ℕ) → values_of (cs ++ (c ∷ [])) ≡ further (values_of cs) (digit_of_lem c)
values_more [] c = go (digit_of_lem c)
  where
    go : (d : Option ℕ) → valued d (Some []) ≡ further (Some []) d
    go None = refl
    go (Some v) = refl
values_more (x ∷ cs) c = ap (valued (digit_of_lem x)) (values_more cs c) ∙ go (digit_of_lem x) (values_of cs) (digit_of_lem c)
  where
    go : (d : Option ℕ) (vs : Option (List ℕ)) (e : Option ℕ) → valued d (further vs e) ≡ further (valued d vs) e
    go None vs e = refl
    go (Some v) None e = refl
    go (Some v) (Some vs) None = refl
    go (Some v) (Some vs) (Some y) = refl

-- a digit is below 16
pub digit_small : (c v : ℕ) → digit_of_lem c ≡ Some v → v < 16
digit_small c v e = go (among (code "0") (code "9") c) (among (code "A") (code "F") c) (among (code "a") (code "f") c) refl refl refl e
  where
    upto : (a b : ℕ) → among a b c ≡ true → (a ≤ c) × (c ≤ b)
    upto a b t = let f = both (leb a c) (leb c b) t in (leb-true a c f.0, leb-true c b f.1)

    go : (p q r : Bool) → among (code "0") (code "9") c ≡ p → among (code "A") (code "F") c ≡ q → among (code "a") (code "f") c ≡ r
        → cond p (Some (c - code "0")) (cond q (Some (10 + (c - code "A"))) (cond r (Some (10 + (c - code "a"))) None)) ≡ Some v
        → v < 16
    go true q r h i j f = let k : c - code "0" ≡ v = cc f in let u = upto (code "0") (code "9") h in omega (arith, k, u.0, u.1)
    go false true r h i j f = let k : 10 + (c - code "A") ≡ v = cc f in let u = upto (code "A") (code "F") i in omega (arith, k, u.0, u.1)
    go false false true h i j f = let k : 10 + (c - code "a") ≡ v = cc f in let u = upto (code "a") (code "f") j in omega (arith, k, u.0, u.1)
    go false false false h i j f = absurd (let z : ◌≡◌ {A = ℕ} 0 1 = cc f in omega arith)

-- a first character says something
pub says_something : (c : ℕ) → content_by c ≡ Nothing → ⊥
says_something c e = go (eqb c (code "#")) (eqb c (code ">")) (eqb c (code "<")) e
  where
    go : (p q r : Bool) → cond p Comment (cond q (Message Towards) (cond r (Message From) (Wrong NoSign))) ≡ Nothing → ⊥
    go true q r f = let z : ◌≡◌ {A = ℕ} 0 1 = cc f in omega arith
    go false true r f = let z : ◌≡◌ {A = ℕ} 0 1 = cc f in omega arith
    go false false true f = let z : ◌≡◌ {A = ℕ} 0 1 = cc f in omega arith
    go false false false f = let z : ◌≡◌ {A = ℕ} 0 1 = cc f in omega arith
