-- What the owner reads of a port: the counters, the listing by value, and the listing in a lent list. Document 01: "the open commands listed into
-- a lent list of records (tag, LUN, bytes handed out each way), each command once; .. the rest of the list untouched". Document 02, job 5: "Records now come
-- as the commands were taken, oldest first"; job 1: the listing takes h, "the highest offset handed out + 1, 0 where nothing was", for the bytes handed out.
use Rattle.std.specs.Prelude.{◌≡◌, true, List, map, ℕ, ◌≤◌, length, take, replicate, Result, Ok, Err}
use Rattle.srp.specs.Limits.{most_buffers}
use Rattle.srp.specs.Credit.{Port}
use Rattle.srp.specs.Calls.{counters_def, listing, list_checks, list_def, records_for, listed_into}
use Rattle.srp.specs.declared.Record.{Record}
use Rattle.srp.specs.declared.Reply.{Reply}
use Rattle.srp.specs.declared.Reply.TheVariants.{Listed}
use Rattle.words.specs.Slots.{slots}
use Rattle.words.specs.Head.{head_of}
use Rattle.words.specs.View.{view}
use Rattle.words.specs.declared.Slot.{Slot}
use Rattle.state.specs.Opening.{Draws}
use Rattle.report.specs.declared.Listing.{Listing}
use Rattle.srp.specs.declared.Refusal.{Refusal}

-- the record of a command in its slot, those of all slots, one that stands for no command, and 16 of these
abbrev pub slot_record : Slot → Record
slot_record c = record { tag = c.request.tag; lun = c.request.lun; out = c.out.transfer.highest; inn = c.inn.transfer.highest }

abbrev pub slot_records : List ℕ → List Record
slot_records l = map slot_record (slots l)

abbrev pub no_record_lem : Record
no_record_lem = record { tag = 0; lun = 0; out = 0; inn = 0 }

abbrev pub no_records : List Record
no_records = replicate most_buffers no_record_lem

-- the listing of a port by value: how many, and 16 records, blank behind those of the open commands
pub record ListingIs (p : Port) (r : Listing) : Type 0 where
  pub reply : r.reply ≡ (list_def p most_buffers).reply
  pub count : r.count ≡ length (records_for p most_buffers)
  pub records : r.records ≡ listed_into p no_records

-- the same, with what is written to a lent list of `room` records: the first `count` of them
pub record ListingFor (p : Port) (room : ℕ) (r : Listing) : Type 0 where
  pub reply : r.reply ≡ (list_def p room).reply
  pub fits : r.count ≤ room
  pub small : r.count ≤ most_buffers
  pub count : r.count ≡ length (records_for p room)
  pub written : take r.count r.records ≡ records_for p room
  pub records : r.records ≡ listed_into p no_records

-- the lent list before and after the call
pub record ListsInto (p : Port) (before after : List Record) (r : Result Reply Refusal) : Type 0 where
  pub reply : r ≡ (list_def p (length before)).reply
  pub records : after ≡ listed_into p before

-- how many records a listing of the words l has in a lent list of `room`
pub record Room (l : List ℕ) (room n : ℕ) : Type 0 where
  pub live : (head_of l).live ≡ true
  pub held : n ≡ (head_of l).held
  pub small : n ≤ most_buffers
  pub fits : most_buffers ≤ room

abbrev pub HasRoom : (l : List ℕ) (room : ℕ) → Result ℕ Refusal → Type 0
HasRoom l room (Ok n) = Room l room n
HasRoom l room (Err f) = Draws l (λ p. list_checks p room) f

-- the same as a reply, and which records
pub record CountFor (l : List ℕ) (room : ℕ) (r : Result Reply Refusal) : Type 0 where
  pub reply : (st : List ℕ) → r ≡ (list_def (view l st) room).reply
  pub fits : (n : ℕ) → r ≡ Ok (Listed n) → (n ≤ room) × (n ≤ most_buffers)
  pub records : (n : ℕ) → r ≡ Ok (Listed n) → (st : List ℕ) → listing (view l st) ≡ take n (slot_records l)

-- ── what each call promises of the port's words l, whatever the store holds

abbrev pub TellsCounters : (l : List ℕ) → Result Reply Refusal → Type 0
TellsCounters l r = (st : List ℕ) → r ≡ (counters_def (view l st)).reply

abbrev pub TellsListing : (l : List ℕ) → Listing → Type 0
TellsListing l r = (st : List ℕ) → ListingIs (view l st) r

abbrev pub TellsListingFor : (l : List ℕ) (room : ℕ) → Listing → Type 0
TellsListingFor l room r = (st : List ℕ) → ListingFor (view l st) room r

abbrev pub WritesListing : (l : List ℕ) (before after : List Record) → Result Reply Refusal → Type 0
WritesListing l before after r = (st : List ℕ) → ListsInto (view l st) before after r
