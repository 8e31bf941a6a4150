-- Lists by a test: finding, changing and leaving out go through a map, keep a property of all elements, and what they do to the length.
-- Assumes nothing.
use mathlib.Core.Path.{◌≡◌, refl, ap, subst}
use mathlib.Core.Bool.{Bool, true, false, cond}
use mathlib.Core.List.{List, [], ◌∷◌, ◌++◌, map}
use mathlib.Core.Option
use mathlib.Core.Option.{some, none-ne-some, some-injective}
use Prim.Native.Nat.{ℕ, zero, suc, ◌≤◌, ◌<◌}
use native.Mathlib.Omega.{arith}
use lib.ListN.{length, get_or, take, drop}
use Rattle.srp.specs.Lists.{find, change, without, All}

-- a function goes out of a choice
pub cond_out : {X Y : Type 0} (g : X → Y) (b : Bool) (x y : X) → cond b (g x) (g y) ≡ g (cond b x y)
cond_out g true x y = refl
cond_out g false x y = refl

-- maps that agree on the elements of a list
pub map_same : {A B : Type 0} (f g : A → B) (l : List A) (d : A) → ((j : ℕ) → j < length l → f (get_or l j d) ≡ g (get_or l j d)) → map f l ≡ map g l
map_same f g [] d h = refl
map_same f g (x ∷ xs) d h = rw (h 0 (omega arith), map_same f g xs d (λ j q. h (suc j) (omega arith))) refl

module _ {A B : Type 0} (f : A → B) where
  -- the first that passes of the images is the image of the first
  pub find_map : (p : B → Bool) (l : List A) → find p (map f l) ≡ Option.map f (find (λ x. p (f x)) l)
  find_map p [] = refl
  find_map p (x ∷ xs) = rw (find_map p xs) (cond_out (Option.map f) (p (f x)) (some x) (find (λ x. p (f x)) xs))

  -- the images without those that pass
  pub without_map : (p : B → Bool) (l : List A) → without p (map f l) ≡ map f (without (λ x. p (f x)) l)
  without_map p [] = refl
  without_map p (x ∷ xs) = rw (without_map p xs) (cond_out (map f) (p (f x)) (without (λ x. p (f x)) xs) (x ∷ without (λ x. p (f x)) xs))

  -- a change of the images by g is one of the list by h, where g and h agree at the element that is changed
  pub change_map : (p : B → Bool) (g : B → B) (h : A → A) (l : List A)
      → ((x : A) → find (λ x. p (f x)) l ≡ some x → g (f x) ≡ f (h x))
      → change p g (map f l) ≡ map f (change (λ x. p (f x)) h l)
  change_map p g h [] e = refl
  change_map p g h (x ∷ xs) e = go (p (f x)) e (λ e'. change_map p g h xs e')
    where
      go : (b : Bool) → ((y : A) → cond b (some x) (find (λ x. p (f x)) xs) ≡ some y → g (f y) ≡ f (h y))
          → (((y : A) → find (λ x. p (f x)) xs ≡ some y → g (f y) ≡ f (h y)) → change p g (map f xs) ≡ map f (change (λ x. p (f x)) h xs))
          → cond b (g (f x) ∷ map f xs) (f x ∷ change p g (map f xs)) ≡ map f (cond b (h x ∷ xs) (x ∷ change (λ x. p (f x)) h xs))
      go true e' ih = rw (e' x refl)
      go false e' ih = rw (ih e')

  -- the image of one more
  pub map_snoc : (l : List A) (x : A) → map f (l ++ (x ∷ [])) ≡ map f l ++ (f x ∷ [])
  map_snoc [] x = refl
  map_snoc (y ∷ l) x = rw (map_snoc l x)

module _ {A : Type 0} (P : A → Type 0) where
  -- all of the first n, and of those behind them
  pub all_take : (n : ℕ) (l : List A) → All P l → All P (take n l)
  all_take zero l a = tt
  all_take (suc n) [] a = tt
  all_take (suc n) (x ∷ l) a = (a.0, all_take n l a.1)

  pub all_drop : (n : ℕ) (l : List A) → All P l → All P (drop n l)
  all_drop zero l a = a
  all_drop (suc n) [] a = tt
  all_drop (suc n) (x ∷ l) a = all_drop n l a.1

  -- all of two lists
  pub all_append : (l m : List A) → All P l → All P m → All P (l ++ m)
  all_append [] m a h = h
  all_append (y ∷ l) m a h = (a.0, all_append l m a.1 h)

  -- all, with one more
  pub all_snoc : (l : List A) (x : A) → All P l → P x → All P (l ++ (x ∷ []))
  all_snoc l x a h = all_append l (x ∷ []) a (h, tt)

  -- all, without some
  pub all_without : (p : A → Bool) (l : List A) → All P l → All P (without p l)
  all_without p [] a = tt
  all_without p (x ∷ xs) a = go (p x) (all_without p xs a.1)
    where
      go : (b : Bool) → All P (without p xs) → All P (cond b (without p xs) (x ∷ without p xs))
      go true r = r
      go false r = (a.0, r)

  -- the one that is found has what all have
  pub all_find : (p : A → Bool) (l : List A) (x : A) → All P l → find p l ≡ some x → P x
  all_find p [] x a e = absurd (none-ne-some x e)
  all_find p (y ∷ ys) x a e = go (p y) e (λ e'. all_find p ys x a.1 e')
    where
      go : (b : Bool) → cond b (some y) (find p ys) ≡ some x → (find p ys ≡ some x → P x) → P x
      go true e' r = subst P (some-injective y x e') a.0
      go false e' r = r e'

  -- all still, where the change keeps it of the one that is found
  pub all_change : (p : A → Bool) (g : A → A) (l : List A) → All P l → ((x : A) → find p l ≡ some x → P x → P (g x)) → All P (change p g l)
  all_change p g [] a e = tt
  all_change p g (x ∷ xs) a e = go (p x) e (λ e'. all_change p g xs a.1 e')
    where
      go : (b : Bool) → ((y : A) → cond b (some x) (find p xs) ≡ some y → P y → P (g y))
          → (((y : A) → find p xs ≡ some y → P y → P (g y)) → All P (change p g xs)) → All P (cond b (g x ∷ xs) (x ∷ change p g xs))
      go true e' r = (e' x refl a.0, a.1)
      go false e' r = (a.0, r e')

-- without those that pass, by tests that agree
pub without_same : {A : Type 0} (P Q : A → Bool) → ((x : A) → P x ≡ Q x) → (l : List A) → without P l ≡ without Q l
without_same P Q e [] = refl
without_same P Q e (x ∷ l) = rw (e x, without_same P Q e l)

-- all have one property where all have another that gives it
pub all_weaken : {A : Type 0} (P Q : A → Type 0) → ((x : A) → P x → Q x) → (l : List A) → All P l → All Q l
all_weaken P Q f [] a = tt
all_weaken P Q f (x ∷ l) a = (f x a.0, all_weaken P Q f l a.1)

module _ {A : Type 0} (p : A → Bool) where
  -- a change keeps the length
  pub length_change : (g : A → A) (l : List A) → length (change p g l) ≡ length l
  length_change g [] = refl
  length_change g (x ∷ xs) = go (p x) (length_change g xs)
    where
      go : (b : Bool) → length (change p g xs) ≡ length xs → length (cond b (g x ∷ xs) (x ∷ change p g xs)) ≡ suc (length xs)
      go true e = refl
      go false e = ap suc e

  -- leaving out makes no longer
  pub length_without : (l : List A) → length (without p l) ≤ length l
  length_without [] = omega arith
  length_without (x ∷ xs) = go (p x) (length_without xs)
    where
      go : (b : Bool) → length (without p xs) ≤ length xs → length (cond b (without p xs) (x ∷ without p xs)) ≤ suc (length xs)
      go true h = omega arith
      go false h = omega arith
