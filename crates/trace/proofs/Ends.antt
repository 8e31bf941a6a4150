-- What is printed at the end of a line.
-- Assumes nothing.
use Rattle.std.proofs.Common.{◌≡◌, ℕ, ◌/◌, ◌%◌, ◌≤◌, min, Bool, cond, List, [], ◌∷◌, length, take, drop, sym, ap, ◌∙◌, arith, take_at, ne_eqb}
use Rattle.srp.specs.Writing.{placed}
use Rattle.page.specs.Types.{most_read}
use Rattle.page.specs.Page.{line_from}
use Rattle.page.specs.declared.Way.{Way}
use Rattle.page.proofs.Lines.{line_from_long}
use Rattle.trace.specs.Input.{fault_words, fault_line}
use Rattle.trace.specs.Reading.{longest_words, longest, message_end}
use Rattle.trace.specs.declared.reader.Fault.{Fault}
use Rattle.trace.specs.declared.reader.Fault.TheVariants.{NoSign, NoDigit, Odd}
use Rattle.trace.specs.declared.reader.Reader.{Reader}

pub words_short : (f : Fault) → length (fault_words f) ≤ longest_words
words_short NoSign = omega arith
words_short NoDigit = omega arith
words_short Odd = omega arith

-- a message's line in front
pub in_front : (w : Way) (n : ℕ) (s before : List ℕ) {after : List ℕ} → after ≡ placed (line_from w n s ∷ []) before → take 81 after ≡ line_from w n s
in_front w n s before e = ap (take 81) e ∙ take_at (line_from w n s) (drop (length (line_from w n s)) before) 81 (line_from_long w n s)

-- ── a message's end

module _ (r : Reader) (w : Way) (st : List ℕ) where
  abbrev by : Bool → List ℕ
  by b = cond b (fault_line r.number Odd) (line_from w (r.digits / 2) (take (min (r.digits / 2) most_read) st))

  pub even_end : (before : List ℕ) → (r.digits % 2 ≡ 1 → ⊥) → {k : ℕ} → k ≡ min (r.digits / 2) most_read → {after : List ℕ}
      → after ≡ placed (line_from w (r.digits / 2) (take k st) ∷ []) before → (81 ≤ longest) × (take 81 after ≡ message_end r w st)
  even_end before n {k} e f = (
    omega arith,
    in_front w (r.digits / 2) (take k st) before f
        ∙ ap (λ (j : ℕ). line_from w (r.digits / 2) (take j st)) e
        ∙ ap by (sym (ne_eqb (r.digits % 2) 1 n)),
  )
