-- The open commands stand as they were taken, oldest first: what each event does to that.
-- Assumes nothing.
use mathlib.Core.Path.{◌≡◌, refl, ap, sym, ◌∙◌, subst}
use mathlib.Core.Bool.{Bool, true, false, cond, not, ◌&&◌, ◌||◌, or-false, true≢false}
use mathlib.Core.List.{List, [], ◌∷◌, ◌++◌, map}
use mathlib.Core.Option.{some}
use Prim.Native.Nat.{ℕ}
use lib.Dec.{eqb}
use borrow.Author.Tests.{eqb-true, eq-eqb}
use Rattle.srp.specs.Lists.{find, without, change, is_some}
use Rattle.srp.specs.Credit.{has_tag, Absent, Distinct}
use Rattle.machine.specs.Machine.{Track, is_among, oldest_first}
use Rattle.srp.specs.declared.Request.{Request}
use Rattle.srp.proofs.ListLaws.{cond_out, map_snoc}
use Rattle.srp.proofs.Tags.{other_way, absent_without}

abbrev pub tags_of : List Track → List ℕ
tags_of ts = map (λ t. t.request.tag) ts

-- these tags stand as they were taken
abbrev pub Ordered : List ℕ → List ℕ → Type 0
Ordered tags taken = tags ≡ oldest_first (λ a. is_among a tags) taken

-- ── one more is taken

among_snoc : (a n : ℕ) (l : List ℕ) → is_among a (l ++ (n ∷ [])) ≡ (is_among a l || eqb a n)
among_snoc a n [] = or-false (eqb a n)
among_snoc a n (x ∷ l) = go (eqb a x) (among_snoc a n l)
  where
    go : (b : Bool) → is_among a (l ++ (n ∷ [])) ≡ (is_among a l || eqb a n) → (b || is_among a (l ++ (n ∷ []))) ≡ ((b || is_among a l) || eqb a n)
    go true e = refl
    go false e = e

-- a tag keeps its place, or loses it to the new one, which was not open
same_test : (o x b : Bool) → (b ≡ true → o ≡ false) → ((o || b) && not (x || b)) ≡ (o && not x)
same_test true x true h = absurd (true≢false (h refl))
same_test false true true h = refl
same_test false false true h = refl
same_test true true false h = refl
same_test true false false h = refl
same_test false true false h = refl
same_test false false false h = refl

module _ (n : ℕ) (is_open_lem : ℕ → Bool) (fresh : is_open_lem n ≡ false) where
  -- its tag comes last
  taken_last : (l : List ℕ) → oldest_first (λ a. is_open_lem a || eqb a n) (l ++ (n ∷ [])) ≡ oldest_first is_open_lem l ++ (n ∷ [])
  taken_last [] = rw (fresh, eq-eqb n n refl)
  taken_last (a ∷ l) =
      rw (among_snoc a n l, same_test (is_open_lem a) (is_among a l) (eqb a n) (λ e. ap is_open_lem (eqb-true a n e) ∙ fresh), taken_last l)
      (cond_out (λ (x : List ℕ). x ++ (n ∷ [])) (is_open_lem a && not (is_among a l)) (a ∷ oldest_first is_open_lem l) (oldest_first is_open_lem l))

ordered_new : (n : ℕ) (tags l : List ℕ) → is_among n tags ≡ false → Ordered tags l → Ordered (tags ++ (n ∷ [])) (l ++ (n ∷ []))
ordered_new n tags l f o =
    ap (λ (x : List ℕ). x ++ (n ∷ [])) o
    ∙ sym (taken_last n (λ a. is_among a tags) f l)
    ∙ (λ i. oldest_first (λ a. sym (among_snoc a n tags) i) (l ++ (n ∷ [])))

-- ── some end

-- of the tags that were open, those that still are keep their order
module _ (before after : ℕ → Bool) (fewer : (a : ℕ) → after a ≡ true → before a ≡ true) where
  still_ordered : (l : List ℕ) → oldest_first after l ≡ without (λ a. not (after a)) (oldest_first before l)
  still_ordered [] = refl
  still_ordered (a ∷ l) = go (before a) (after a) (is_among a l) (fewer a) refl (still_ordered l)
    where
      go : (b c x : Bool) → (c ≡ true → b ≡ true) → after a ≡ c → oldest_first after l ≡ without (λ a. not (after a)) (oldest_first before l)
          → cond (c && not x) (a ∷ oldest_first after l) (oldest_first after l)
          ≡ without (λ a. not (after a)) (cond (b && not x) (a ∷ oldest_first before l) (oldest_first before l))
      go true true true h e r = r
      go true true false h e r = rw (e, r)
      go true false true h e r = r
      go true false false h e r = rw (e, r)
      go false true x h e r = absurd (true≢false (sym (h refl)))
      go false false x h e r = r

among : (a : ℕ) (ts : List Track) → is_some (find (has_tag a) ts) ≡ is_among a (tags_of ts)
among a [] = refl
among a (t ∷ ts) = go (eqb a t.request.tag) (among a ts)
  where
    go : (b : Bool) → is_some (find (has_tag a) ts) ≡ is_among a (tags_of ts) → is_some (cond b (some t) (find (has_tag a) ts)) ≡ (b || is_among a (tags_of ts))
    go true e = refl
    go false e = e

-- one tag more makes no difference where it does not occur
not_there : (n : ℕ) (is_open_lem : ℕ → Bool) (l : List ℕ) → is_among n l ≡ false → without (λ a. not (eqb a n || is_open_lem a)) l ≡ without (λ a. not (is_open_lem a)) l
not_there n is_open_lem [] f = refl
not_there n is_open_lem (a ∷ l) f = go (eqb n a) refl f (λ g. not_there n is_open_lem l g)
  where
    go : (b : Bool) → eqb n a ≡ b → (b || is_among n l) ≡ false
        → (is_among n l ≡ false → without (λ a. not (eqb a n || is_open_lem a)) l ≡ without (λ a. not (is_open_lem a)) l)
        → without (λ a. not (eqb a n || is_open_lem a)) (a ∷ l) ≡ without (λ a. not (is_open_lem a)) (a ∷ l)
    go true e g r = absurd (true≢false g)
    go false e g r = rw (other_way n a e, r g)

module _ (f : Track → Bool) where
  -- the tags of the commands left, where no two have one tag
  left : (ts : List Track) → Distinct ts → without (λ a. not (is_among a (tags_of (without f ts)))) (tags_of ts) ≡ tags_of (without f ts)
  left [] d = refl
  left (t ∷ ts) d = go (f t) (left ts d.1)
    where
      gone : is_among t.request.tag (tags_of (without f ts)) ≡ false
      gone = sym (among t.request.tag (without f ts)) ∙ absent_without t.request.tag f ts d.0

      go : (b : Bool) → without (λ a. not (is_among a (tags_of (without f ts)))) (tags_of ts) ≡ tags_of (without f ts)
          → without (λ a. not (is_among a (tags_of (cond b (without f ts) (t ∷ without f ts))))) (tags_of (t ∷ ts))
          ≡ tags_of (cond b (without f ts) (t ∷ without f ts))
      go true r = rw gone r
      go false r =
          rw (eq-eqb t.request.tag t.request.tag refl)
          (ap (λ (l : List ℕ). t.request.tag ∷ l)
          (not_there t.request.tag (λ a. is_among a (tags_of (without f ts))) (tags_of ts) (sym (among t.request.tag ts) ∙ d.0) ∙ r))

  fewer_left : (ts : List Track) (a : ℕ) → is_among a (tags_of (without f ts)) ≡ true → is_among a (tags_of ts) ≡ true
  fewer_left ts a e = go (is_among a (tags_of ts)) refl
    where
      go : (b : Bool) → is_among a (tags_of ts) ≡ b → b ≡ true
      go true g = refl
      go false g =
          absurd (true≢false (sym e ∙ sym (among a (without f ts)) ∙ absent_without a f ts (among a ts ∙ g)))

  pub ordered_without : (ts : List Track) (l : List ℕ) → Distinct ts → Ordered (tags_of ts) l → Ordered (tags_of (without f ts)) l
  ordered_without ts l d o =
      sym (left ts d)
      ∙ ap (without (λ a. not (is_among a (tags_of (without f ts))))) o
      ∙ sym (still_ordered (λ a. is_among a (tags_of ts)) (λ a. is_among a (tags_of (without f ts))) (fewer_left ts) l)

-- ── the commands

pub ordered_snoc : (ts : List Track) (x : Track) (l : List ℕ) → Absent x.request.tag ts → Ordered (tags_of ts) l
    → Ordered (tags_of (ts ++ (x ∷ []))) (l ++ (x.request.tag ∷ []))
ordered_snoc ts x l a o =
    subst (λ (tags : List ℕ). Ordered tags (l ++ (x.request.tag ∷ []))) (sym (map_snoc (λ t. t.request.tag) ts x))
    (ordered_new x.request.tag (tags_of ts) l (sym (among x.request.tag ts) ∙ a) o)

-- a change that keeps the tag keeps the place
pub tags_change : (f : Track → Bool) (g : Track → Track) → ((t : Track) → (g t).request ≡ t.request) → (ts : List Track) → tags_of (change f g ts) ≡ tags_of ts
tags_change f g same [] = refl
tags_change f g same (t ∷ ts) = go (f t) (tags_change f g same ts)
  where
    go : (b : Bool) → tags_of (change f g ts) ≡ tags_of ts → tags_of (cond b (g t ∷ ts) (t ∷ change f g ts)) ≡ tags_of (t ∷ ts)
    go true e = ap (λ (r : Request). r.tag ∷ tags_of ts) (same t)
    go false e = ap (λ (l : List ℕ). t.request.tag ∷ l) e

-- the tags listed, by the commands that the machine follows
pub by_tracks : (ts : List Track) (l : List ℕ) → Ordered (tags_of ts) l → tags_of ts ≡ oldest_first (λ tag. is_some (find (has_tag tag) ts)) l
by_tracks ts l o = o ∙ (λ i. oldest_first (λ a. sym (among a ts) i) l)
