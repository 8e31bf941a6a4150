-- A line: what is laid over some of its columns keeps its width, and every column printable; and so the whole line is one line, whatever it says.
-- Assumes nothing.
use mathlib.Core.Path.{◌≡◌, refl, sym, ap, subst, ◌∙◌}
use mathlib.Core.Bool.{Bool, true, false, cond, ◌&&◌}
use mathlib.Core.List.{List, [], ◌∷◌, ◌++◌, append_assoc}
use Prim.Native.Nat.{ℕ, zero, suc, ◌+◌, ◌/◌, ◌%◌, ◌^◌, ◌≤◌, ◌<◌}
use native.Mathlib.Nat.{mod-lt}
use native.Mathlib.Omega.{arith}
use borrow.Author.Tests.{ltb-true, ltb-false, leb-true}
use lib.Dec.{ltb, leb, eqb}
use lib.ListN.{length, take, drop, get_or, set, replicate, length-append, length-drop, take-append-drop}
use lib.Seq.{length-take-le, take-append-le, drop-append-le, take_at, drop_at, drop-cons, set_at}
use Rattle.std.specs.Prelude.{Option, Some, None}
use Rattle.srp.specs.Lists.{All}
use Rattle.srp.specs.Writing.{placed}
use Rattle.srp.specs.Outside.{hex_digit_lem, hex}
use Rattle.srp.proofs.ListLaws.{all_take, all_drop, all_append}
use Rattle.srp.proofs.FieldLaws.{both}
use Rattle.text.proofs.Digits.{length_hex}
use Rattle.page.specs.Types.{name_of}
use Rattle.page.specs.Page.{line_of, sign, letters, padded, count_text_lem, hex_text, number_text, over, blank, columns, line_text, line_from, line_length, Printable, OneLine, EveryLine, lead}
use Rattle.page.specs.declared.Way.{Way}
use Rattle.page.specs.declared.Way.TheVariants.{Towards, From}
use Rattle.page.specs.declared.Name.{Name}
use Rattle.page.specs.declared.Name.TheVariants.{LoginReq, TskMgmt, Cmd, ILogout, CredRsp, LoginRsp, LoginRej, Rsp, CredReq, TLogout, Unknown}
use Rattle.page.specs.declared.Line.{Line}
use Rattle.page.proofs.Counts.{five}
use Rattle.srp.specs.declared.Refusal.{Refusal}

-- ── a text over some columns

-- nothing changes nothing
pub over_nothing : (at : ℕ) (l : List ℕ) → l ≡ over at [] l
over_nothing at l = let e : at + 0 ≡ at = omega arith in sym (rw e (take-append-drop at l))

module _ (at : ℕ) (t l : List ℕ) (fits : at + length t ≤ length l) where
  pub over_long : length (over at t l) ≡ length l
  over_long = simp (length-append, length-drop, length-take-le at l (omega arith)) (omega arith)

  -- what stands behind the line stays
  pub over_front : (m : List ℕ) → over at t (l ++ m) ≡ over at t l ++ m
  over_front m =
      rw (take-append-le at l m (omega arith), drop-append-le (at + length t) l m fits)
      (ap (λ (x : List ℕ). take at l ++ x) (sym (append_assoc t (drop (at + length t) l) m)) ∙ sym (append_assoc (take at l) (t ++ drop (at + length t) l) m))

  pub over_all : (P : ℕ → Type 0) → All P t → All P l → All P (over at t l)
  over_all P p q =
      all_append P (take at l) (t ++ drop (at + length t) l) (all_take P at l q) (all_append P t (drop (at + length t) l) p (all_drop P (at + length t) l q))

-- ── printable texts

abbrev printableb : List ℕ → Bool
printableb [] = true
printableb (b ∷ bs) = (leb 0x20 b && leb b 0x7e) && printableb bs

-- a text that is known is tried out
tried : (t : List ℕ) → printableb t ≡ true → All Printable t
tried [] e = tt
tried (b ∷ bs) e =
    let f = both (leb 0x20 b && leb b 0x7e) (printableb bs) e in
    let g = both (leb 0x20 b) (leb b 0x7e) f.0 in
    ((leb-true 0x20 b g.0, leb-true b 0x7e g.1), tried bs f.1)

sign_printable : (w : Way) → All Printable (sign w ∷ [])
sign_printable Towards = tried (sign Towards ∷ []) refl
sign_printable From = tried (sign From ∷ []) refl

letters_printable : (n : Name) → All Printable (padded 12 (letters n))
letters_printable LoginReq = tried (padded 12 (letters LoginReq)) refl
letters_printable TskMgmt = tried (padded 12 (letters TskMgmt)) refl
letters_printable Cmd = tried (padded 12 (letters Cmd)) refl
letters_printable ILogout = tried (padded 12 (letters ILogout)) refl
letters_printable CredRsp = tried (padded 12 (letters CredRsp)) refl
letters_printable LoginRsp = tried (padded 12 (letters LoginRsp)) refl
letters_printable LoginRej = tried (padded 12 (letters LoginRej)) refl
letters_printable Rsp = tried (padded 12 (letters Rsp)) refl
letters_printable CredReq = tried (padded 12 (letters CredReq)) refl
letters_printable TLogout = tried (padded 12 (letters TLogout)) refl
letters_printable Unknown = tried (padded 12 (letters Unknown)) refl

pub letters_long : (n : Name) → length (padded 12 (letters n)) ≡ 12
letters_long LoginReq = refl
letters_long TskMgmt = refl
letters_long Cmd = refl
letters_long ILogout = refl
letters_long CredRsp = refl
letters_long LoginRsp = refl
letters_long LoginRej = refl
letters_long Rsp = refl
letters_long CredReq = refl
letters_long TLogout = refl
letters_long Unknown = refl

hex_digit_printable : (n : ℕ) → n < 16 → Printable (hex_digit_lem n)
hex_digit_printable n h = go (ltb n 10) refl
  where
    go : (b : Bool) → ltb n 10 ≡ b → Printable (cond b (48 + n) (87 + n))
    go true e = (omega arith, omega (arith, ltb-true n 10 e))
    go false e = (omega arith, omega arith)

hex_printable : (k n : ℕ) → All Printable (hex k n)
hex_printable zero n = tt
hex_printable (suc k) n = (hex_digit_printable (n / 16 ^ k % 16) (mod-lt (n / 16 ^ k) (omega arith)), hex_printable k n)

lead_printable : (rest : ℕ) → Printable (lead rest)
lead_printable rest = go (eqb rest 0)
  where
    go : (b : Bool) → Printable (cond b 0x20 (48 + rest % 10))
    go true = (omega arith, omega arith)
    go false = (omega arith, omega arith)

-- a number has five columns, whatever it is
count_good : (n : ℕ) → (length (count_text_lem n) ≡ 5) × All Printable (count_text_lem n)
count_good n = go (ltb 99999 n) refl
  where
    go : (b : Bool) → ltb 99999 n ≡ b → (length (count_text_lem n) ≡ 5) × All Printable (count_text_lem n)
    go true e = rw e (refl, tried (replicate 5 0x2a) refl)
    go false e =
        rw (← five n (ltb-false 99999 n e))
        (refl, (lead_printable (n / 10000), (lead_printable (n / 1000), (lead_printable (n / 100), (lead_printable (n / 10), ((omega arith, omega arith), tt))))))

pub count_long : (n : ℕ) → length (count_text_lem n) ≡ 5
count_long n = (count_good n).0

-- ── an entry: no wider than its columns

pub hex_fits : (k : ℕ) (e : Option ℕ) → length (hex_text k e) ≤ k
hex_fits k None = omega arith
hex_fits k (Some n) = omega (arith, length_hex k n)

pub number_fits : (e : Option ℕ) → length (number_text e) ≤ 5
number_fits None = omega arith
number_fits (Some n) = omega (arith, (count_good n).0)

hex_entry_printable : (k : ℕ) (e : Option ℕ) → All Printable (hex_text k e)
hex_entry_printable k None = tt
hex_entry_printable k (Some n) = hex_printable k n

number_printable : (e : Option ℕ) → All Printable (number_text e)
number_printable None = tt
number_printable (Some n) = (count_good n).1

-- ── the line

-- 80 printable columns
pub record Wide (l : List ℕ) : Type 0 where
  pub long : length l ≡ 80
  pub clean : All Printable l

pub blank_wide : Wide blank
blank_wide = record { long = refl; clean = tried blank refl }

pub laid : (at : ℕ) (t l : List ℕ) → at + length t ≤ 80 → All Printable t → Wide l → Wide (over at t l)
laid at t l h p w =
    record { long = over_long at t l (omega (arith, w.long)) ∙ w.long; clean = over_all at t l (omega (arith, w.long)) Printable p w.clean }

-- with each of its texts in turn
module _ (l : Line) where
  abbrev pub with_code : List ℕ
  with_code = over 55 (hex_text 8 l.code) blank

  abbrev pub with_number : List ℕ
  with_number = over 49 (number_text l.number) with_code

  abbrev pub with_lun : List ℕ
  with_lun = over 32 (hex_text 16 l.lun) with_number

  abbrev pub with_tag : List ℕ
  with_tag = over 15 (hex_text 16 l.tag) with_lun

  abbrev pub with_letters : List ℕ
  with_letters = over 2 (padded 12 (letters l.name)) with_tag

  code_wide : Wide with_code
  code_wide = laid 55 (hex_text 8 l.code) blank (omega (arith, hex_fits 8 l.code)) (hex_entry_printable 8 l.code) blank_wide

  number_wide : Wide with_number
  number_wide = laid 49 (number_text l.number) with_code (omega (arith, number_fits l.number)) (number_printable l.number) code_wide

  lun_wide : Wide with_lun
  lun_wide = laid 32 (hex_text 16 l.lun) with_number (omega (arith, hex_fits 16 l.lun)) (hex_entry_printable 16 l.lun) number_wide

  tag_wide : Wide with_tag
  tag_wide = laid 15 (hex_text 16 l.tag) with_lun (omega (arith, hex_fits 16 l.tag)) (hex_entry_printable 16 l.tag) lun_wide

  letters_wide : Wide with_letters
  letters_wide = laid 2 (padded 12 (letters l.name)) with_tag (omega (arith, letters_long l.name)) (letters_printable l.name) tag_wide

  -- whatever a line says, it has 80 printable columns
  pub columns_wide : Wide (columns l)
  columns_wide = laid 0 (sign l.way ∷ []) with_letters (omega arith) (sign_printable l.way) letters_wide

  -- and a line feed behind them
  pub line_long : length (line_text l) ≡ 81
  line_long = rw (length-append (columns l) (0x0a ∷ [])) (omega (arith, columns_wide.long))

  pub one_line : OneLine (line_text l)
  one_line =
      record {
        width = line_long;
        columns = subst (All Printable) (sym (take_at (columns l) (0x0a ∷ []) 80 columns_wide.long)) columns_wide.clean;
        feed = drop_at (columns l) (0x0a ∷ []) 80 columns_wide.long;
      }

pub line_from_long : (w : Way) (n : ℕ) (s : List ℕ) → length (line_from w n s) ≡ line_length
line_from_long w n s = line_long (line_of w (name_of n s) n s)

-- every message of every length, either way
pub every_line : EveryLine
every_line w s = one_line (line_of w (name_of (length s) s) (length s) s)

-- ── the line in a lent buffer

-- spaces were written from the front; the line feed comes behind them
pub fed : (b before : List ℕ) → 81 ≤ length before → b ≡ replicate 80 0x20 ++ drop 80 before → set b 80 0x0a ≡ blank ++ (0x0a ∷ drop 81 before)
fed b before h e =
    ap (λ (x : List ℕ). set x 80 0x0a) (e ∙ ap (λ (x : List ℕ). blank ++ x) (drop-cons before 80 0 (omega arith)))
    ∙ set_at blank (get_or before 80 0) (drop 81 before) 0x0a 80 refl

-- one text more
further : (at : ℕ) (t m : List ℕ) {l b b' : List ℕ} → Wide l → at + length t ≤ 80 → b ≡ l ++ m → b' ≡ over at t b → b' ≡ over at t l ++ m
further at t m {l} {b} {b'} w h e f = f ∙ ap (over at t) e ∙ over_front at t l (omega (arith, w.long)) m

-- all of them
pub placed_line : (l : Line) (before : List ℕ) {b₀ b₁ b₂ b₃ b₄ b₅ b₆ : List ℕ}
    → b₀ ≡ blank ++ (0x0a ∷ drop 81 before)
    → b₁ ≡ over 55 (hex_text 8 l.code) b₀
    → b₂ ≡ over 49 (number_text l.number) b₁
    → b₃ ≡ over 32 (hex_text 16 l.lun) b₂
    → b₄ ≡ over 15 (hex_text 16 l.tag) b₃
    → b₅ ≡ over 2 (padded 12 (letters l.name)) b₄
    → b₆ ≡ over 0 (sign l.way ∷ []) b₅
    → b₆ ≡ placed (line_text l ∷ []) before
placed_line l before e₀ e₁ e₂ e₃ e₄ e₅ e₆ =
    let m : List ℕ = 0x0a ∷ drop 81 before in
    further 0 (sign l.way ∷ []) m (letters_wide l) (omega arith)
    (further 2 (padded 12 (letters l.name)) m (tag_wide l) (omega (arith, letters_long l.name))
    (further 15 (hex_text 16 l.tag) m (lun_wide l) (omega (arith, hex_fits 16 l.tag))
    (further 32 (hex_text 16 l.lun) m (number_wide l) (omega (arith, hex_fits 16 l.lun))
    (further 49 (number_text l.number) m (code_wide l) (omega (arith, number_fits l.number))
    (further 55 (hex_text 8 l.code) m blank_wide (omega (arith, hex_fits 8 l.code)) e₀ e₁) e₂) e₃) e₄) e₅) e₆
    ∙ sym (append_assoc (columns l) (0x0a ∷ []) (drop 81 before))
    ∙ ap (λ (n : ℕ). line_text l ++ drop n before) (sym (line_long l))

-- ── the call

module _ (w : Way) (n : ℕ) (s before : List ℕ) where
  -- the line of the name m, which is the message's
  pub named : {m : Name} → m ≡ name_of n s → {l : Line} → l ≡ line_of w m n s → {after : List ℕ} → after ≡ placed (line_text l ∷ []) before
      → after ≡ placed (line_from w n s ∷ []) before
  named {m} em {l} el e = e ∙ ap (λ (k : Line). placed (line_text k ∷ []) before) (el ∙ ap (λ (x : Name). line_of w x n s) em)
