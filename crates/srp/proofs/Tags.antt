-- Commands that are open have distinct tags: what each call does to that, and to the command with a tag.
-- Assumes nothing.
use mathlib.Core.Path.{◌≡◌, refl, ap, sym, ◌∙◌, subst}
use mathlib.Core.Bool.{Bool, true, false, cond, true≢false}
use mathlib.Core.List.{List, [], ◌∷◌, ◌++◌}
use mathlib.Core.Option.{Option, none, some, map}
use Prim.Native.Nat.{ℕ, suc}
use lib.ListN.{length}
use lib.Dec.{eqb}
use borrow.Author.Tests.{eqb-true, eqb-false, ne_eqb}
use Rattle.srp.specs.Lists.{find, without, change, is_some}
use Rattle.srp.specs.Credit.{Held, has_tag, Absent, Distinct}
use Rattle.srp.specs.declared.Request.{Request}

pub other_way : (a b : ℕ) → eqb a b ≡ false → eqb b a ≡ false
other_way a b e = ne_eqb b a (λ q. eqb-false a b e (sym q))

module _ {S : Type 0} where
  -- the first has another tag, and none of the rest has this one
  apart : (n : ℕ) (t : Held S) (ts : List (Held S)) → Absent n (t ∷ ts) → (eqb n t.request.tag ≡ false) × Absent n ts
  apart n t ts a = go (eqb n t.request.tag) refl a
    where
      go : (b : Bool) → eqb n t.request.tag ≡ b → is_some (cond b (some t) (find (has_tag n) ts)) ≡ false → (eqb n t.request.tag ≡ false) × Absent n ts
      go true e f = absurd (true≢false f)
      go false e f = (e, f)

  join : (n : ℕ) (t : Held S) (ts : List (Held S)) → eqb n t.request.tag ≡ false → Absent n ts → Absent n (t ∷ ts)
  join n t ts e a = rw e a

  absent_snoc : (n : ℕ) (ts : List (Held S)) (x : Held S) → Absent n ts → eqb n x.request.tag ≡ false → Absent n (ts ++ (x ∷ []))
  absent_snoc n [] x a e = join n x [] e refl
  absent_snoc n (t ∷ ts) x a e = let q = apart n t ts a in join n t (ts ++ (x ∷ [])) q.0 (absent_snoc n ts x q.1 e)

  -- one more with a tag that none has
  pub distinct_snoc : (ts : List (Held S)) (x : Held S) → Distinct ts → Absent x.request.tag ts → Distinct (ts ++ (x ∷ []))
  distinct_snoc [] x d a = (refl, tt)
  distinct_snoc (t ∷ ts) x d a =
      let q = apart x.request.tag t ts a in
      (absent_snoc t.request.tag ts x d.0 (other_way x.request.tag t.request.tag q.0), distinct_snoc ts x d.1 q.1)

  pub absent_without : (n : ℕ) (f : Held S → Bool) (ts : List (Held S)) → Absent n ts → Absent n (without f ts)
  absent_without n f [] a = refl
  absent_without n f (t ∷ ts) a = let q = apart n t ts a in go (f t) q.0 (absent_without n f ts q.1)
    where
      go : (b : Bool) → eqb n t.request.tag ≡ false → Absent n (without f ts) → Absent n (cond b (without f ts) (t ∷ without f ts))
      go true e r = r
      go false e r = join n t (without f ts) e r

  -- without some
  pub distinct_without : (f : Held S → Bool) (ts : List (Held S)) → Distinct ts → Distinct (without f ts)
  distinct_without f [] d = tt
  distinct_without f (t ∷ ts) d = go (f t) (absent_without t.request.tag f ts d.0) (distinct_without f ts d.1)
    where
      go : (b : Bool) → Absent t.request.tag (without f ts) → Distinct (without f ts) → Distinct (cond b (without f ts) (t ∷ without f ts))
      go true a r = r
      go false a r = (a, r)

  module _ (f : Held S → Bool) (g : Held S → Held S) (same : (t : Held S) → (g t).request ≡ t.request) where
    absent_change : (n : ℕ) (ts : List (Held S)) → Absent n ts → Absent n (change f g ts)
    absent_change n [] a = refl
    absent_change n (t ∷ ts) a = let q = apart n t ts a in go (f t) q.0 q.1 (absent_change n ts q.1)
      where
        go : (b : Bool) → eqb n t.request.tag ≡ false → Absent n ts → Absent n (change f g ts) → Absent n (cond b (g t ∷ ts) (t ∷ change f g ts))
        go true e r s = join n (g t) ts (rw (ap (λ (r : Request). r.tag) (same t)) e) r
        go false e r s = join n t (change f g ts) e s

    -- a change that keeps the tag
    pub distinct_change : (ts : List (Held S)) → Distinct ts → Distinct (change f g ts)
    distinct_change [] d = tt
    distinct_change (t ∷ ts) d = go (f t) (absent_change t.request.tag ts d.0) (distinct_change ts d.1)
      where
        go : (b : Bool) → Absent t.request.tag (change f g ts) → Distinct (change f g ts) → Distinct (cond b (g t ∷ ts) (t ∷ change f g ts))
        go true a r = (rw (ap (λ (r : Request). r.tag) (same t)) d.0, d.1)
        go false a r = (a, r)

  -- a tag that none has is taken from nothing
  none_goes : (n : ℕ) (ts : List (Held S)) → Absent n ts → length (without (has_tag n) ts) ≡ length ts
  none_goes n [] a = refl
  none_goes n (t ∷ ts) a = let q = apart n t ts a in rw q.0 (ap suc (none_goes n ts q.1))

  -- with distinct tags, leaving out the commands with a tag that is open leaves out one
  pub one_goes : (n : ℕ) (ts : List (Held S)) → Distinct ts → is_some (find (has_tag n) ts) ≡ true → length ts ≡ suc (length (without (has_tag n) ts))
  one_goes n [] d e = absurd (true≢false (sym e))
  one_goes n (t ∷ ts) d e = go (eqb n t.request.tag) refl e (λ f. one_goes n ts d.1 f)
    where
      go : (b : Bool) → eqb n t.request.tag ≡ b → is_some (cond b (some t) (find (has_tag n) ts)) ≡ true
          → (is_some (find (has_tag n) ts) ≡ true → length ts ≡ suc (length (without (has_tag n) ts)))
          → suc (length ts) ≡ suc (length (cond b (without (has_tag n) ts) (t ∷ without (has_tag n) ts)))
      go true q f r = ap suc (sym (none_goes n ts (subst (λ (k : ℕ). Absent k ts) (sym (eqb-true n t.request.tag q)) d.0)))
      go false q f r = ap suc (r f)

-- ── the command with a tag

module _ {S : Type 0} where
  module _ (tag : ℕ) (g : Held S → Held S) (same : (c : Held S) → (g c).request ≡ c.request) where
    pub find_changed : (ts : List (Held S)) → find (has_tag tag) (change (has_tag tag) g ts) ≡ map g (find (has_tag tag) ts)
    find_changed [] = refl
    find_changed (c ∷ ts) = go (eqb tag c.request.tag) refl (find_changed ts)
      where
        go : (b : Bool) → eqb tag c.request.tag ≡ b → find (has_tag tag) (change (has_tag tag) g ts) ≡ map g (find (has_tag tag) ts)
            → find (has_tag tag) (cond b (g c ∷ ts) (c ∷ change (has_tag tag) g ts)) ≡ map g (cond b (some c) (find (has_tag tag) ts))
        go true e ih = rw (same c, e)
        go false e ih = rw e ih

    pub find_other : (n : ℕ) (ts : List (Held S)) → eqb n tag ≡ false → find (has_tag n) (change (has_tag tag) g ts) ≡ find (has_tag n) ts
    find_other n [] h = refl
    find_other n (c ∷ ts) h = go (eqb tag c.request.tag) refl (find_other n ts h)
      where
        go : (b : Bool) → eqb tag c.request.tag ≡ b → find (has_tag n) (change (has_tag tag) g ts) ≡ find (has_tag n) ts
            → find (has_tag n) (cond b (g c ∷ ts) (c ∷ change (has_tag tag) g ts)) ≡ find (has_tag n) (c ∷ ts)
        go true e ih = let q : eqb n c.request.tag ≡ false = ap (eqb n) (sym (eqb-true tag c.request.tag e)) ∙ h in rw (same c, q)
        go false e ih = rw ih

  -- with distinct tags, the command found is found still, unless it passes
  abbrev pub unless_passes : (Held S → Bool) → Option (Held S) → Option (Held S)
  unless_passes f none = none
  unless_passes f (some c) = cond (f c) none (some c)

  none_left : (o : Option (Held S)) → is_some o ≡ false → o ≡ none
  none_left none e = refl
  none_left (some c) e = absurd (true≢false e)

  pub find_without : (n : ℕ) (f : Held S → Bool) (ts : List (Held S)) → Distinct ts → find (has_tag n) (without f ts) ≡ unless_passes f (find (has_tag n) ts)
  find_without n f [] d = refl
  find_without n f (t ∷ ts) d = go (eqb n t.request.tag) refl (f t) refl (find_without n f ts d.1)
    where
      go : (b : Bool) → eqb n t.request.tag ≡ b → (a : Bool) → f t ≡ a → find (has_tag n) (without f ts) ≡ unless_passes f (find (has_tag n) ts)
          → find (has_tag n) (cond a (without f ts) (t ∷ without f ts)) ≡ unless_passes f (cond b (some t) (find (has_tag n) ts))
      go true e true h ih =
          none_left (find (has_tag n) (without f ts)) (absent_without n f ts (subst (λ (k : ℕ). Absent k ts) (sym (eqb-true n t.request.tag e)) d.0)) ∙ rw h
      go true e false h ih = rw (e, h)
      go false e true h ih = ih
      go false e false h ih = rw e ih
