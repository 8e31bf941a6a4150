-- The listing of a port by its words: how many records, and which.
-- Assumes nothing.
use mathlib.Core.Path.{◌≡◌, refl, sym, ◌∙◌, ap}
use mathlib.Core.List.{List, [], ◌∷◌, ◌++◌, map}
use mathlib.Core.Option.{none}
use Prim.Native.Nat.{ℕ, ◌+◌, ◌≤◌, ◌<◌}
use native.Mathlib.Omega.{arith}
use native.Mathlib.Numerals.{add-one}
use borrow.Author.Tests.{le-ltb}
use lib.ListN.{length, get_or, take, drop, set, replicate, length-map, get_or-map}
use lib.Seq.{take-suc, take-suc-set, take_at, length-take-le}
use Rattle.std.proofs.lemmas.List.{take-map}
use Rattle.std.specs.Prelude.{Result, Ok, Err}
use Rattle.std.specs.Result.{MatchResult, IsOkAnd, result_unwrap_or}
use Rattle.srp.specs.Limits.{most_buffers}
use Rattle.srp.specs.Refusals.{first_of_checks}
use Rattle.srp.specs.Calls as calls
use Rattle.srp.specs.Credit.{Port}
use Rattle.srp.specs.declared.Record.{Record}
use Rattle.srp.specs.declared.Refusal.{Refusal}
use Rattle.srp.specs.declared.Reply.{Reply}
use Rattle.srp.specs.declared.Reply.TheVariants.{Listed}
use Rattle.srp.proofs.Listing.{open_all, as_many}
use Rattle.words.specs.Sizes.{most_slots}
use Rattle.words.specs.Slots.{slots, no_slot}
use Rattle.words.specs.Head.{head_of}
use Rattle.words.specs.View.{opens, open_of, view}
use Rattle.words.specs.declared.Slot.{Slot}
use Rattle.words.proofs.Slots.{slots_long}
use Rattle.words.proofs.Ports.{while_open, view_live}
use Rattle.report.specs.declared.Listing.{Listing}
use Rattle.report.specs.Reports.{slot_record, slot_records, no_record_lem, no_records, Room, HasRoom, CountFor, ListingIs, ListingFor}

-- ── the records, written one by one

pub write_more : (l : List ℕ) (rs : List Record) (i : ℕ) (x : Record) → i < length rs → length rs ≤ most_slots
    → take i rs ≡ take i (slot_records l) → x ≡ slot_record (get_or (slots l) i no_slot) → take (i + 1) (set rs i x) ≡ take (i + 1) (slot_records l)
write_more l rs i x h k e q =
    let long : length (slot_records l) ≡ most_slots = length-map (slots l) slot_record ∙ slots_long most_slots 0 l in
    let y : get_or (slot_records l) i (slot_record no_slot) ≡ x = get_or-map slot_record (slots l) i no_slot ∙ sym q in
    rw (add-one, take-suc-set rs i x h, take-suc (slot_records l) i (slot_record no_slot) (omega (arith, long)), e, y) refl

-- ── of an open port

-- the record of a command is its slot's, whatever the store
slot_records_lem : (st : List ℕ) (cs : List Slot) → map calls.record_of_lem (map (open_of st) cs) ≡ map slot_record cs
slot_records_lem st [] = refl
slot_records_lem st (c ∷ cs) = ap (λ (x : List Record). slot_record c ∷ x) (slot_records_lem st cs)

module _ {l : List ℕ} {room n : ℕ} (R : Room l room n) (st : List ℕ) where
  -- it is not refused
  pub none_drawn : first_of_checks (calls.list_checks (view l st) room) ≡ none
  none_drawn = rw (view_live l st ∙ R.live, le-ltb room most_buffers R.fits) refl

  -- and has the records of the first slots
  pub records_are : calls.listing (view l st) ≡ take n (slot_records l)
  records_are =
      ap (λ (p : Port). calls.listing p) (while_open l st R.live)
      ∙ slot_records_lem st (opens l)
      ∙ sym (take-map slot_record (head_of l).held (slots l))
      ∙ ap (λ (k : ℕ). take k (slot_records l)) (sym R.held)

  -- as many as are open
  pub number_is : length (view l st).held ≡ n
  number_is =
      sym (as_many (view l st)) ∙ ap length records_are
      ∙ length-take-le n (slot_records l) (omega (arith, R.small, length-map (slots l) slot_record, slots_long most_slots 0 l))

  pub replies : Ok (Listed n) ≡ (calls.list_def (view l st) room).reply
  replies = let d = none_drawn in rw d (ap (λ k. Ok (Listed k)) (sym number_is))

pub count_open : {l : List ℕ} {room n : ℕ} → Room l room n → CountFor l room (Ok (Listed n))
count_open {l} {room} {n} R =
    record {
      reply = replies R;
      fits = λ m f. let k : m ≡ n = cc in (omega (arith, R.small, R.fits), omega (arith, R.small));
      records = λ m f st. let k : m ≡ n = cc in rw k (records_are R st);
    }

-- ── the listing in a list with `room`: its reply r, and how many records it writes, n

pub record Lists (l : List ℕ) (room : ℕ) (r : Result Reply Refusal) (n : ℕ) (p : Port) : Type 0 where
  pub reply : r ≡ (calls.list_def p room).reply
  pub fits : n ≤ room
  pub small : n ≤ most_buffers
  pub which : calls.records_for p room ≡ take n (slot_records l)
  pub written : take n (calls.listed_into p no_records) ≡ calls.records_for p room

-- both come from whether the list has room
pub lists : {l : List ℕ} {room : ℕ} (h : Result ℕ Refusal) (r : Result Reply Refusal) → HasRoom l room h
    → MatchResult h (λ n. IsOkAnd r (λ x. x ≡ Listed n)) (λ f. r ≡ Err f) → (st : List ℕ) → Lists l room r (result_unwrap_or h 0) (view l st)
lists {l} {room} (Ok n) (Ok x) R e st =
    let d = none_drawn R st in
    let which : calls.records_for (view l st) room ≡ calls.listing (view l st) = rw d refl in
    let all = open_all (view l st) (view_live l st ∙ R.live) in
    let long : length (calls.listing (view l st)) ≡ n = as_many (view l st) ∙ number_is R st in
    record {
      reply = ap Ok e ∙ replies R st;
      fits = omega (arith, R.small, R.fits);
      small = R.small;
      which = which ∙ records_are R st;
      written = rw (all, which) (take_at (calls.listing (view l st)) _ n long);
    }
lists (Ok n) (Err f) R e st = absurd e
lists (Err f) r R e st =
    let d = R st in
    record { reply = rw (d, e) refl; fits = omega arith; small = omega arith; which = rw d refl; written = rw d refl }

-- by value: all of those are written to an array of 16 blank records
pub by_value : {l : List ℕ} {r : Result Reply Refusal} {n : ℕ} (st : List ℕ) (x : Record) → (x.tag ≡ 0) × ((x.lun ≡ 0) × ((x.out ≡ 0) × (x.inn ≡ 0)))
    → (L : Lists l most_buffers r n (view l st)) (rs : List Record) → rs ≡ take n (slot_records l)
    → ListingIs (view l st) (record { reply = r; count = n; records = rs ++ drop n (replicate most_buffers x) })
by_value {l} {r} {n} st x e L rs q =
    let b : x ≡ no_record_lem = λ j. record { tag = e.0 j; lun = e.1.0 j; out = e.1.1.0 j; inn = e.1.1.1 j } in
    let long : length (calls.records_for (view l st) most_buffers) ≡ n =
    ap length L.which ∙ length-take-le n (slot_records l) (omega (arith, L.small, length-map (slots l) slot_record, slots_long most_slots 0 l)) in
    record { reply = L.reply; count = sym long; records = rw (q, b, long, L.which) refl }

-- to a lent list: those that the array by value begins with
pub lent : {l : List ℕ} {room : ℕ} {r : Result Reply Refusal} {n : ℕ} (st : List ℕ) → Lists l room r n (view l st) → (v : Listing) → ListingIs (view l st) v
    → ListingFor (view l st) room (record { reply = r; count = n; records = v.records })
lent {l} {room} {r} {n} st L v V =
    let long : n ≡ length (calls.records_for (view l st) room) =
    sym (length-take-le n (slot_records l) (omega (arith, L.small, length-map (slots l) slot_record, slots_long most_slots 0 l))) ∙ sym (ap length L.which) in
    record { reply = L.reply; fits = L.fits; small = L.small; count = long; written = rw V.records L.written; records = V.records }
