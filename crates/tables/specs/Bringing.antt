-- Tables, cut where the code is cut, and what each part promises. l, st and b are the port's words, its store and the lent buffer before the call, l', st'
-- and b' after it; t are the tables.
use Rattle.std.specs.Prelude.{◌≡◌, true, false, cond, not, List, [], ◌∷◌, ℕ, ◌/◌, ◌%◌, ◌<◌, eqb, length, get_or, Option, Some, None, Result, Ok, Err}
use Rattle.srp.specs.Lists.{find}
use Rattle.srp.specs.Both.{Both}
use Rattle.srp.specs.Refusals.{first_of_checks}
use Rattle.srp.specs.Descriptors.{standing_size_lem, Given, chosen, segments, sum_of, good_fields}
use Rattle.srp.specs.Credit.{Port, has_tag}
use Rattle.srp.specs.Take.{Outcome, answering, leaving, Tables, tables_fit, fields_fit}
use Rattle.srp.specs.Answers.{refusing}
use Rattle.srp.specs.Tables.{bad_response, tables_by, tables_def}
use Rattle.srp.specs.declared.Refusal.TheVariants.{TableLength, Fields}
use Rattle.srp.specs.declared.Descriptor.{Descriptor}
use Rattle.srp.specs.declared.Reply.{Reply}
use Rattle.srp.specs.declared.Reply.TheVariants.{Performed}
use Rattle.srp.specs.declared.Answer.{Answer}
use Rattle.words.specs.declared.Part.{Part}
use Rattle.words.specs.Slots.{slots, no_slot}
use Rattle.words.specs.Head.{head_of}
use Rattle.words.specs.View.{view}
use Rattle.state.specs.Promises.{AnswersAs, AnswersWith}
use Rattle.store.specs.Places.{Holding, OwnPlace, new_part_lem}
use Rattle.srp.specs.declared.Refusal.{Refusal}

abbrev pub tables : List ℕ → List ℕ → Tables
tables out inn = record { out = out; inn = inn }

-- how many segments a direction has, by its table, of no bytes where none was fetched
abbrev pub segments_in : List ℕ → Descriptor → ℕ
segments_in table d = cond (eqb (length table) 0) (standing_size_lem d / 16) (length table / 16)

-- ── the definition's parts

-- behind 1, 21, 24 and 33: the tables of a command that waits are judged by g
abbrev pub judged_def : Port → ℕ → Tables → Both Given → Outcome
judged_def p tag t g = tables_by (first_of_checks ((not (tables_fit g t), TableLength) ∷ (not (fields_fit g t), Fields) ∷ [])) p tag t

-- refusal 10: the command is answered, and ends
abbrev pub bad_def : ℕ → Port → Outcome
bad_def tag p = answering (leaving p p.announced (has_tag tag)) (Err Fields) (bad_response (find (has_tag tag) p.held))

-- ── the store

-- the store is lent memory: unless the tables are accepted every byte of it is as it was; accepted, they change the bytes of their command's own place, the
-- command in slot i with the tag, and no other
pub record Accepted (l st l' st' : List ℕ) (tag : ℕ) : Type 0 where
  pub slot : ℕ
  pub inside : slot < (head_of l).held
  pub tagged : (get_or (slots l) slot no_slot).request.tag ≡ tag
  pub place : OwnPlace slot l st l' st'

pub record Stores (l st l' st' : List ℕ) (tag : ℕ) (r : Result Reply Refusal) : Type 0 where
  pub kept : (r ≡ Ok Performed → ⊥) → st' ≡ st
  pub brought : r ≡ Ok Performed → Accepted l st l' st' tag

-- ── what the parts promise

-- what the port keeps of a direction by its table: its segments and their sum, unless a field is bad
pub record Kept (g : Given) (table : List ℕ) (p : Part) : Type 0 where
  pub good : good_fields g table ≡ true
  pub part : p ≡ new_part_lem (segments_in table g.descriptor) (sum_of (segments g table))
  pub whole : length (chosen g table) % 16 ≡ 0
  pub holding : Holding table p

abbrev pub PartRead : Given → List ℕ → Option Part → Type 0
PartRead g table (Some p) = Kept g table p
PartRead g table None = good_fields g table ≡ false

-- the answer that is handed back, or that of a refusal without a message
abbrev pub answered_by : Result Answer Refusal → Answer
answered_by (Ok a) = a
answered_by (Err f) = refusing f

abbrev pub EndsBad : (l b l' b' : List ℕ) (tag : ℕ) → Answer → Type 0
EndsBad l b l' b' tag r = AnswersWith l b l' b' r (bad_def tag)

-- the call, and from 9 on
pub record Brings (l st b l' st' b' : List ℕ) (tag : ℕ) (t : Tables) (r : Answer) : Type 0 where
  pub answers : AnswersAs l st b l' st' b' r (tables_def (view l st) (length b) tag t)
  pub store : Stores l st l' st' tag r.reply
