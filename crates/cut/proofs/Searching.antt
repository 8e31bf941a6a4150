-- The search over memory descriptors as bytes: at each turn its variable has the sum of the earlier lengths.
-- Assumes nothing.
use Rattle.std.proofs.Common.{◌≡◌, ℕ, suc, ◌+◌, ◌-◌, ◌*◌, ◌/◌, ◌<◌, ◌≤◌, cond, ltb, List, length, sym, refl, ap, ◌∙◌, arith, le-ltb, lt-ltb}
use Rattle.srp.specs.Bytes.{bytes, get}
use Rattle.srp.specs.Descriptors.{Segment, segments_of}
use Rattle.cut.specs.Locating.{earlier_of, length_at, location, located_from, located}
use Rattle.std.specs.declared.option.Option.TheVariants.{Some}
use Rattle.srp.proofs.Segments.{segments_count}
use Rattle.cut.proofs.Segments.{segment_from, segment_in}
use Rattle.cut.proofs.Locating.{earlier_next, length_at_lem}

-- what is left to be searched gives what the whole gives
pub record Searching (list : List ℕ) (offset index earlier : ℕ) : Type 0 where
  pub room : index ≤ length list / 16
  pub sum : earlier ≡ earlier_of index (segments_of list)
  pub low : earlier ≤ offset
  pub same : located_from (length list / 16 - index) index offset (segments_of list) ≡ located offset (segments_of list)

pub start : (list : List ℕ) (offset : ℕ) → Searching list offset 0 0
start list offset =
    let all : length list / 16 - 0 ≡ length (segments_of list) = omega (arith, segments_count (length list / 16) list) in
    record { room = omega arith; sum = refl; low = omega arith; same = ap (λ (n : ℕ). located_from n 0 offset (segments_of list)) all }

module _ {list : List ℕ} {offset index earlier : ℕ} (w : Searching list offset index earlier) where
  abbrev ss : List Segment
  ss = segments_of list

  module _ (more : index < length list / 16) {n : ℕ} (en : n ≡ get (bytes (index * 16 + 12) 4) list) where
    long : length_at index ss ≡ n
    long = length_at_lem index ss (segment_from list (index * 16)) (segment_in list index more) ∙ sym en

    -- the sum with this length decides: this segment, or those behind it
    module _ {t : ℕ} (et : t ≡ earlier + n) where
      through : earlier_of index ss + length_at index ss ≡ t
      through = omega (arith, w.sum, long, et)

      seen : cond (ltb offset t) (Some (location index ss)) (located_from (length list / 16 - suc index) (suc index) offset ss) ≡ located offset ss
      seen =
          let e : length list / 16 - index ≡ suc (length list / 16 - suc index) = omega arith in
          rw (← through) (sym (ap (λ (k : ℕ). located_from k index offset ss) e)) ∙ w.same

    pub here : {t : ℕ} → offset < t → t ≡ earlier + n → Some (record { index = index; len = n; earlier = earlier }) ≡ located offset ss
    here {t} lt et = rw (w.sum, ← long) (rw (lt-ltb offset t lt) at (seen et))

    pub on : {t : ℕ} → t ≤ offset → t ≡ earlier + n → Searching list offset (index + 1) t
    on {t} le et =
        let e : index + 1 ≡ suc index = omega arith in
        let s : t ≡ earlier_of (suc index) ss = omega (arith, through et, earlier_next index ss) in
        rw e
        (record { room = omega arith; sum = s; low = le; same = rw (le-ltb offset t le) at (seen et) })
