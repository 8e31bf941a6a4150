-- Document 02, job 8: the line is each move with pieces, once, whatever S follows a direction and whatever says that it has pieces.
-- Assumes nothing.
use mathlib.Core.Path.{◌≡◌, refl, ap, sym, ◌∙◌, subst}
use mathlib.Core.Bool.{Bool, true, false, cond, not, ◌&&◌, true≢false, or-false}
use mathlib.Core.List.{List, [], ◌∷◌, ◌++◌}
use mathlib.Core.Option.{Option, none, some, map, none-ne-some, some-injective}
use Prim.Native.Nat.{ℕ}
use lib.Dec.{eqb}
use borrow.Author.Tests.{eqb-true}
use Rattle.srp.specs.Lists.{find, change, without, is_some}
use Rattle.srp.specs.Both.{Both, of, alter}
use Rattle.srp.specs.Credit.{Held, on_side, has_tag, Distinct, place}
use Rattle.srp.specs.Line.{same_direction_lem, same_place_lem, in_line, Once, Lined, more_in, is_ended, put_back, keeps_place, left_by}
use Rattle.srp.specs.declared.Direction.{Direction}
use Rattle.srp.specs.declared.Direction.TheVariants.{Out, In}
use Rattle.srp.specs.declared.Place.{Place}
use Rattle.srp.proofs.ListLaws.{without_same}
use Rattle.srp.proofs.Tags.{find_changed, find_other, unless_passes, find_without}
use Rattle.srp.proofs.Places.{same_place, place_self, place_other, in_snoc, in_without, once_snoc, once_without}

-- ── what an ending takes out

module _ {S : Type 0} where
  found_tag : (tag : ℕ) (cs : List (Held S)) (c : Held S) → find (has_tag tag) cs ≡ some c → tag ≡ c.request.tag
  found_tag tag [] c e = absurd (none-ne-some c e)
  found_tag tag (x ∷ cs) c e = go (eqb tag x.request.tag) refl e (λ f. found_tag tag cs c f)
    where
      go : (b : Bool) → eqb tag x.request.tag ≡ b → cond b (some x) (find (has_tag tag) cs) ≡ some c → (find (has_tag tag) cs ≡ some c → tag ≡ c.request.tag)
          → tag ≡ c.request.tag
      go true q f ih = eqb-true tag x.request.tag q ∙ ap (λ (y : Held S). y.request.tag) (some-injective x c f)
      go false q f ih = ih f

  -- where the command with the tag ends, and it is open, all moves with that tag leave
  pub left_by_tag : (tag : ℕ) (cs : List (Held S)) (l : List Place) → is_some (find (has_tag tag) cs) ≡ true
      → left_by (has_tag tag) cs l ≡ without (λ x. eqb tag x.tag) l
  left_by_tag tag cs l e = without_same _ _ (λ x. go x (find (has_tag x.tag) cs) refl) l
    where
      absent : (x : Place) → find (has_tag x.tag) cs ≡ none → (b : Bool) → eqb tag x.tag ≡ b → false ≡ b
      absent x f true q = absurd (true≢false (sym e ∙ ap (λ (n : ℕ). is_some (find (has_tag n) cs)) (eqb-true tag x.tag q) ∙ ap is_some f))
      absent x f false q = refl

      go : (x : Place) (o : Option (Held S)) → find (has_tag x.tag) cs ≡ o → is_ended (has_tag tag) o ≡ eqb tag x.tag
      go x none f = absent x f (eqb tag x.tag) refl
      go x (some c) f = ap (eqb tag) (sym (found_tag x.tag cs c f))

-- ── the line of commands

module _ {S : Type 0} (more : S → Bool) where
  of_alter : (d : Direction) (g : S → S) (b : Both S) → of d (alter d g b) ≡ g (of d b)
  of_alter Out g b = refl
  of_alter In g b = refl

  of_other : (d e : Direction) (g : S → S) (b : Both S) → same_direction_lem e d ≡ false → of e (alter d g b) ≡ of e b
  of_other Out Out g b h = absurd (true≢false h)
  of_other Out In g b h = refl
  of_other In Out g b h = refl
  of_other In In g b h = absurd (true≢false h)

  -- no piece is left or comes of any command
  pub lined_same : {ts ts' : List (Held S)} {l : List Place} → Lined more ts l → ((tag : ℕ) (d : Direction) → more_in more d (find (has_tag tag) ts') ≡ more_in more d (find (has_tag tag) ts)) → Lined more ts' l
  lined_same r e = record { each = λ tag d. r.each tag d ∙ sym (e tag d); once = r.once }

  -- a change of one command that keeps what is left each way
  pub lined_change : (tag : ℕ) (g : Held S → Held S) → ((c : Held S) → (g c).request ≡ c.request) → (ts : List (Held S)) (l : List Place)
      → ((c : Held S) → find (has_tag tag) ts ≡ some c → (d : Direction) → more (of d (g c).sides) ≡ more (of d c.sides))
      → Lined more ts l → Lined more (change (has_tag tag) g ts) l
  lined_change tag g same ts l keep r = lined_same r by
    where
      here : (d : Direction) (o : Option (Held S)) → find (has_tag tag) ts ≡ o → more_in more d (map g o) ≡ more_in more d o
      here d none f = refl
      here d (some c) f = keep c f d

      by : (n : ℕ) (d : Direction) → more_in more d (find (has_tag n) (change (has_tag tag) g ts)) ≡ more_in more d (find (has_tag n) ts)
      by n d = go (eqb n tag) refl
        where
          go : (c : Bool) → eqb n tag ≡ c → more_in more d (find (has_tag n) (change (has_tag tag) g ts)) ≡ more_in more d (find (has_tag n) ts)
          go true e =
              subst (λ (k : ℕ). more_in more d (find (has_tag k) (change (has_tag tag) g ts)) ≡ more_in more d (find (has_tag k) ts)) (sym (eqb-true n tag e))
              (ap (more_in more d) (find_changed tag g same ts) ∙ here d (find (has_tag tag) ts) refl)
          go false e = ap (more_in more d) (find_other tag g same n ts e)

  -- one more command, of which nothing is left
  pub lined_snoc : (c : Held S) (ts : List (Held S)) (l : List Place) → ((d : Direction) → more (of d c.sides) ≡ false) → Lined more ts l → Lined more (ts ++ (c ∷ [])) l
  lined_snoc c ts l none_left r = lined_same r (λ n d. go n d ts)
    where
      first : (n : ℕ) (d : Direction) (b : Bool) → more_in more d (cond b (some c) none) ≡ false
      first n d true = none_left d
      first n d false = refl

      then : (d : Direction) (b : Bool) (t : Held S) (o o' : Option (Held S)) → more_in more d o ≡ more_in more d o' → more_in more d (cond b (some t) o) ≡ more_in more d (cond b (some t) o')
      then d true t o o' e = refl
      then d false t o o' e = e

      go : (n : ℕ) (d : Direction) (us : List (Held S)) → more_in more d (find (has_tag n) (us ++ (c ∷ []))) ≡ more_in more d (find (has_tag n) us)
      go n d [] = first n d (eqb n c.request.tag)
      go n d (t ∷ us) = then d (eqb n t.request.tag) t _ _ (go n d us)

  -- commands end
  pub lined_endings : (f : Held S → Bool) (ts : List (Held S)) (l : List Place) → Distinct ts → Lined more ts l → Lined more (without f ts) (left_by f ts l)
  lined_endings f ts l u r =
      record {
        each = λ n d. in_without _ (place n d) l ∙ go n d (find (has_tag n) ts) (r.each n d) ∙ ap (more_in more d) (sym (find_without n f ts u));
        once = once_without _ l r.once;
      }
    where
      go : (n : ℕ) (d : Direction) (o : Option (Held S)) → in_line (place n d) l ≡ more_in more d o
          → (not (is_ended f o) && in_line (place n d) l) ≡ more_in more d (unless_passes f o)
      go n d none e = e
      go n d (some c) e = by (f c)
        where
          by : (b : Bool) → (not b && in_line (place n d) l) ≡ more_in more d (cond b none (some c))
          by true = refl
          by false = e

  -- ── one direction changes

  module _ (tag : ℕ) (d : Direction) (g : S → S) (ts : List (Held S)) where
    abbrev x : Place
    x = place tag d

    abbrev ts' : List (Held S)
    ts' = change (has_tag tag) (on_side d g) ts

    abbrev left : Bool
    left = more_in more d (find (has_tag tag) ts')

    elsewhere : (n : ℕ) (e : Direction) → same_place_lem (place n e) x ≡ false → more_in more e (find (has_tag n) ts') ≡ more_in more e (find (has_tag n) ts)
    elsewhere n e h = go (eqb n tag) refl h
      where
        aside : same_direction_lem e d ≡ false → (o : Option (Held S)) → more_in more e (map (on_side d g) o) ≡ more_in more e o
        aside q none = refl
        aside q (some c) = ap more (of_other d e g c.sides q)

        go : (b : Bool) → eqb n tag ≡ b → (b && same_direction_lem e d) ≡ false → more_in more e (find (has_tag n) ts') ≡ more_in more e (find (has_tag n) ts)
        go true q z =
            subst (λ (k : ℕ). more_in more e (find (has_tag k) ts') ≡ more_in more e (find (has_tag k) ts)) (sym (eqb-true n tag q))
            (ap (more_in more e) (find_changed tag (on_side d g) (λ c. refl) ts) ∙ aside z (find (has_tag tag) ts))
        go false q z = ap (more_in more e) (find_other tag (on_side d g) (λ c. refl) n ts q)

    -- another line that has the move just where pieces are left, and the others as before
    lined_by : (l l' : List Place) → Lined more ts l → Once l' → in_line x l' ≡ left → ((y : Place) → same_place_lem y x ≡ false → in_line y l' ≡ in_line y l) → Lined more ts' l'
    lined_by l l' r o h k = record { each = λ n e. go n e (same_place_lem (place n e) x) refl; once = o }
      where
        go : (n : ℕ) (e : Direction) (b : Bool) → same_place_lem (place n e) x ≡ b → in_line (place n e) l' ≡ more_in more e (find (has_tag n) ts')
        go n e true q = subst (λ (y : Place). in_line y l' ≡ more_in more y.direction (find (has_tag y.tag) ts')) (sym (same_place (place n e) x q)) h
        go n e false q = k (place n e) q ∙ r.each n e ∙ sym (elsewhere n e q)

    back_here : (b : Bool) (l : List Place) → in_line x l ≡ false → in_line x (put_back b x l) ≡ b
    back_here true l e = in_snoc x x l ∙ rw (e, place_self x)
    back_here false l e = e

    back_other : (b : Bool) (l : List Place) (y : Place) → same_place_lem y x ≡ false → in_line y (put_back b x l) ≡ in_line y l
    back_other true l y q = in_snoc y x l ∙ rw q (or-false (in_line y l))
    back_other false l y q = refl

    back_once : (b : Bool) (l : List Place) → Once l → in_line x l ≡ false → Once (put_back b x l)
    back_once true l o e = once_snoc x l o e
    back_once false l o e = o

    -- a move that is not in the line is put at its end where it has pieces
    pub lined_end : (l : List Place) → Lined more ts l → in_line x l ≡ false → Lined more ts' (put_back left x l)
    lined_end l r e = lined_by l (put_back left x l) r (back_once left l r.once e) (back_here left l e) (back_other left l)

    -- the first of the line is served
    pub lined_turn : (rest : List Place) → Lined more ts (x ∷ rest) → Lined more ts' (put_back left x rest)
    lined_turn rest r =
        let o = r.once in
        lined_by (x ∷ rest) (put_back left x rest) r (back_once left rest o.1 o.0) (back_here left rest o.0) λ y q. back_other left rest y q ∙ rw q

    -- any in the line is served by a single step
    pub lined_step : (l : List Place) → Lined more ts l → in_line x l ≡ true → Lined more ts' (keeps_place left x l)
    lined_step l r e = lined_by l (keeps_place left x l) r (kept left) (here left) (other left)
      where
        kept : (b : Bool) → Once (keeps_place b x l)
        kept true = r.once
        kept false = once_without (same_place_lem x) l r.once

        here : (b : Bool) → in_line x (keeps_place b x l) ≡ b
        here true = e
        here false = in_without (same_place_lem x) x l ∙ rw (place_self x)

        other : (b : Bool) (y : Place) → same_place_lem y x ≡ false → in_line y (keeps_place b x l) ≡ in_line y l
        other true y q = refl
        other false y q = in_without (same_place_lem x) y l ∙ rw (place_other y x q)
