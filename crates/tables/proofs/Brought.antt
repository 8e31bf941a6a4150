-- How tables ends: the command answered, or with its segments.
-- Assumes nothing.
use mathlib.Core.Path.{◌≡◌, refl, sym, ◌∙◌, ap}
use mathlib.Core.Logic.{◌⊎◌, inl, inr, ⊎_elim}
use mathlib.Core.Bool.{Bool, true, false, cond, not, ◌&&◌, ◌||◌, true≢false}
use mathlib.Core.List.{List, [], ◌∷◌, map}
use Prim.Native.Nat.{ℕ, ◌*◌, ◌/◌, ◌%◌, ◌<◌}
use native.Mathlib.Omega.{arith}
use borrow.Author.Tests.{eq-eqb, ne_eqb, leb-true}
use lib.Dec.{eqb, leb}
use lib.ListN.{length, get_or, take, drop, set}
use lib.Seq.{take_at, get_or-take, take-set-lt}
use Rattle.std.specs.Prelude.{Result, Ok}
use Rattle.srp.specs.Lists.{change, over}
use Rattle.srp.specs.Descriptors.{whole, good_table_lem, fetched, standing_size_lem, Given, chosen, segments, sum_of, copies_agree_lem, good_format}
use Rattle.srp.specs.Credit.{Open, Port, with_held, has_tag}
use Rattle.srp.specs.Take.{new_side}
use Rattle.srp.specs.Tables.{brought}
use Rattle.srp.specs.declared.Descriptor.{Descriptor}
use Rattle.srp.specs.declared.Direction.TheVariants.{Out, In}
use Rattle.srp.proofs.FieldLaws.{both}
use Rattle.srp.specs.declared.Refusal.{Refusal}
use Rattle.srp.specs.declared.Reply.{Reply}
use Rattle.srp.specs.declared.Reply.TheVariants.{Performed}
use Rattle.words.specs.declared.Head.{Head}
use Rattle.words.specs.declared.Part.{Part}
use Rattle.words.specs.declared.Slot.{Slot}
use Rattle.words.specs.Slots.{slots, no_slot, place_for_lem}
use Rattle.words.specs.Head.{head_of}
use Rattle.words.specs.View.{side_of, given_of, opens, open_of, open_port_lem, shown, view}
use Rattle.words.proofs.Ports.{while_open, opens_long}
use Rattle.state.specs.Changes.{FoundAt}
use Rattle.state.proofs.Held.{change_there}
use Rattle.store.specs.Places.{new_part_lem, under, supplied, Supplied, OwnPlace}
use Rattle.tables.specs.Bringing.{segments_in, tables, Stores}

-- ── a direction's segments

-- a list of no bytes
empty : (l : List ℕ) → length l ≡ 0 → l ≡ []
empty [] e = refl
empty (x ∷ xs) e = let z : ⊥ = omega arith in absurd z

-- what stands in a message is whole memory descriptors
standing_whole : (d : Descriptor) → 16 * (standing_size_lem d / 16) ≡ standing_size_lem d
standing_whole d = go (eqb d.format 1) (eqb d.format 2)
  where
    go : (x y : Bool) → 16 * (cond x 16 (cond y (16 * d.count) 0) / 16) ≡ cond x 16 (cond y (16 * d.count) 0)
    go true y = refl
    go false true = omega arith
    go false false = refl

-- where a direction passes 9 and 10, what stands at its place under its table begins with its segments
module _ (st : List ℕ) (at : ℕ) (d : Descriptor) (table : List ℕ) (e : length table ≡ fetched d) (good : good_format (given_of st at d) table ≡ true) where
  abbrev g : Given
  g = given_of st at d

  -- a table was fetched, or the segments stood in the message
  which : ((length table ≡ 0) × (chosen g table ≡ g.bytes)) ⊎ ((length table ≡ 0 → ⊥) × (chosen g table ≡ table))
  which = pick (eqb d.format 2) (good_table_lem d.len) refl (whole d) e good
    where
      pick : (f b : Bool) → good_table_lem d.len ≡ b → (w : Bool) → length table ≡ cond (f && (b && not w)) d.len 0
          → (not f || (b && (copies_agree_lem g table && eqb d.total (sum_of (segments g table))))) ≡ true
          → ((length table ≡ 0) × (cond f (cond w g.bytes table) g.bytes ≡ g.bytes)) ⊎ ((length table ≡ 0 → ⊥) × (cond f (cond w g.bytes table) g.bytes ≡ table))
      pick false b q w l h = inl (l, refl)
      pick true true q true l h = inl (l, refl)
      pick true true q false l h = inr ((λ z. omega (arith, leb-true 16 d.len (both (leb 16 d.len) _ q).0, l, z)), refl)
      pick true false q w l h = absurd (true≢false (sym h))

  pub segments_there : length (chosen g table) % 16 ≡ 0 → take (16 * segments_in table d) (over table (drop at st)) ≡ chosen g table
  segments_there w =
      ⊎_elim
      (λ q.
      let k : 16 * segments_in table d ≡ standing_size_lem d = rw (eq-eqb (length table) 0 q.0) (standing_whole d) in
      let o : over table (drop at st) ≡ drop at st = ap (λ (x : List ℕ). over x (drop at st)) (empty table q.0) in
      rw (k, o) (sym q.1))
      (λ q.
      let n : length table % 16 ≡ 0 = rw q.1 at w in
      let k : 16 * segments_in table d ≡ length table = rw (ne_eqb (length table) 0 q.0) (omega arith) in
      rw k (take_at table (drop (length table) (drop at st)) (length table) refl ∙ sym q.1))
      which

  -- so the direction is new with its segments
  pub new_side_lem : (b : ℕ) → length (chosen g table) % 16 ≡ 0 → b ≡ sum_of (segments g table)
      → side_of (over table (drop at st)) 0 (new_part_lem (segments_in table d) b) ≡ new_side (segments g table)
  new_side_lem b w f = rw (segments_there w, f) refl

-- ── the command with its tables

-- what is supplied is what the definition brings
pub brought_as : (st : List ℕ) (c : Slot) → c.awaits.waiting ≡ true → (o n : Part) (out inn : List ℕ)
    → side_of (under Out st c out) 0 o ≡ new_side (segments (given_of st (place_for_lem Out c) c.awaits.out) out)
    → side_of (under In st c inn) 0 n ≡ new_side (segments (given_of st (place_for_lem In c) c.awaits.inn) inn)
    → supplied st c o n out inn ≡ brought new_side (tables out inn) (open_of st c)
brought_as st c w o n out inn eo ei = rw (w, eo, ei) refl

-- the port after it
module _ (l st l' st' : List ℕ) (tag i : ℕ) (live : (head_of l).live ≡ true) (F : FoundAt l tag i) (o n : Part) (out inn : List ℕ) (S : Supplied i l st l' st' o n out inn) where
  held_changed : (g : Open → Open) → supplied st (get_or (slots l) i no_slot) o n out inn ≡ g (open_of st (get_or (slots l) i no_slot))
      → change (has_tag tag) g (shown l st).held ≡ map (open_of st') (take (head_of l).held (set (slots l) i S.slot))
  held_changed g q =
      let slot : get_or (opens l) i no_slot ≡ get_or (slots l) i no_slot = get_or-take (head_of l).held (slots l) i no_slot F.inside in
      let this : eqb tag (get_or (opens l) i no_slot).request.tag ≡ true =
      eq-eqb tag (get_or (opens l) i no_slot).request.tag (sym F.tagged ∙ ap (λ (c : Slot). c.request.tag) (sym slot)) in
      change_there (has_tag tag) (open_of st) no_slot (open_of st') (opens l) i (omega (arith, opens_long l, F.inside)) F.others this g S.slot
      (S.this ∙ q ∙ ap (λ (x : Slot). g (open_of st x)) (sym slot))
      (λ j h ne.
      let k : j < (head_of l).held = omega (arith, opens_long l) in
      let same : get_or (opens l) j no_slot ≡ get_or (slots l) j no_slot = get_or-take (head_of l).held (slots l) j no_slot k in
      rw same (S.others j k ne))
      ∙ ap (map (open_of st')) (sym (take-set-lt (head_of l).held (slots l) i S.slot F.inside))

  pub supplied_view : (g : Open → Open) → supplied st (get_or (slots l) i no_slot) o n out inn ≡ g (open_of st (get_or (slots l) i no_slot))
      → view l' st' ≡ with_held (view l st) (view l st).announced (change (has_tag tag) g (view l st).held)
  supplied_view g q =
      while_open l' st' (ap (λ (h : Head). h.live) S.head ∙ live)
      ∙ (λ j. open_port_lem (S.head j) (S.changed j) (S.line j) st')
      ∙ ap (λ (cs : List Open). with_held (shown l st) (head_of l).announced cs) (sym (held_changed g q))
      ∙ ap (λ (p : Port). with_held p p.announced (change (has_tag tag) g p.held)) (sym (while_open l st live))

-- ── the store

-- tables that are not accepted leave it
pub kept : {l st l' : List ℕ} {tag : ℕ} {r : Result Reply Refusal} → (r ≡ Ok Performed → ⊥) → Stores l st l' st tag r
kept ne = record { kept = λ _. refl; brought = λ e. absurd (ne e) }

-- accepted, they stand at their command's place
pub placed : {l st l' st' : List ℕ} {tag i : ℕ} → FoundAt l tag i → OwnPlace i l st l' st' → Stores l st l' st' tag (Ok Performed)
placed {l} {st} {l'} {st'} {tag} {i} F P =
    record { kept = λ ne. absurd (ne refl); brought = λ _. record { slot = i; inside = F.inside; tagged = F.tagged; place = P } }
