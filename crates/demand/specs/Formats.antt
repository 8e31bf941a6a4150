-- Document 02, job 14, how format bytes divide, of the C functions: what srp_format_counts counts is what srp_look returns.
use Rattle.std.specs.Prelude.{◌≡◌, false, List, ◌∷◌, ℕ, ◌≤◌, ◌<◌, eqb, length, get_or, replicate}
use Rattle.std.proofs.Math.Option.{none}
use Rattle.srp.specs.Limits.{answer_size, longest_agreed}
use Rattle.srp.specs.Lists.{All}
use Rattle.srp.specs.Bytes.{Bytes, type_of}
use Rattle.srp.specs.Messages.{cmd}
use Rattle.srp.specs.Refusals.{first_of_checks, number_of}
use Rattle.srp.specs.Requests.{size_checks, bad_length}
use Rattle.srp.specs.declared.Refusal.TheVariants.{OutFormat, InFormat}
use Rattle.division.specs.Dividing.{values, count, divided_number, division_words, divided_words, allowed, formula}
use Rattle.division.specs.Rows.{agreements}
use Rattle.demand.specs.Posts.{Slice, MutSlice, LookPost, FormatCountsPost}

-- "a message whose length never decides": an SRP_CMD with the value b as its byte 5, no longer than agreed, that draws neither 3 for its exact length nor 7 or 8
pub record LengthNeverDecides (agreed b : ℕ) (s : List ℕ) : Type 0 where
  pub type_is : type_of s ≡ cmd.code
  pub byte_5 : get_or s 5 0 ≡ b
  pub most : length s ≤ agreed
  pub size : first_of_checks (size_checks s) ≡ none

-- such a message was put to look, with room for its answer: n is returned
pub record LookedAt (agreed formats b n : ℕ) : Type 0 where
  pub m : Slice
  pub before : MutSlice
  pub after : MutSlice
  pub message : LengthNeverDecides agreed b m.now
  pub room : answer_size ≤ length before.now
  pub post : LookPost m before after agreed formats n

-- a message for each value was put to look, which returned `returns b` for the value b: the words are how often 0, 5 and 6 were returned
abbrev pub CountsLooks : Type 0
CountsLooks = (agreed formats : ℕ) (returns : ℕ → ℕ) → bad_length agreed ≡ false → ((b : ℕ) → b < values → LookedAt agreed formats b (returns b))
    → (w v : MutSlice) → FormatCountsPost w v formats 0
    → v.now
    ≡ count (λ b. eqb (returns b) 0) values
    ∷ count (λ b. eqb (returns b) (number_of OutFormat)) values
    ∷ count (λ b. eqb (returns b) (number_of InFormat)) values
    ∷ replicate 5 0

pub record FormatsInC : Type 0 where
  pub looks : CountsLooks
  -- for each value there is such a message
  pub messages : (b : ℕ) → b < values → (s : List ℕ) × Bytes s × LengthNeverDecides longest_agreed b s
  -- "9, 208, 39 with both agreed, 4, 224, 28 with one, 1, 240, 15 with none": n is returned
  pub numbers : All (λ a. (w v : MutSlice) (n : ℕ) → FormatCountsPost w v a.formats n → (n ≡ divided_number a.answer) × (v.now ≡ divided_words a.answer)) agreements
  -- "With f formats allowed .., f times f pass, 16 times (16 - f) draw 5, and f times (16 - f) draw 6"
  pub by_formula : (w v : MutSlice) (formats : ℕ) → FormatCountsPost w v formats 0 → v.now ≡ division_words (formula (allowed formats))
