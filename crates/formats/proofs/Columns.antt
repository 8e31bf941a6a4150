-- A number's columns, the counts of an agreement, and that the table is its page. Assumes nothing.
use mathlib.Core.Path.{◌≡◌, sym, ap, ◌∙◌}
use mathlib.Core.Bool.{false}
use mathlib.Core.List.{List, [], ◌∷◌, ◌++◌, append-nil}
use Prim.Native.Nat.{ℕ, ◌+◌, ◌/◌, ◌≤◌, ◌<◌}
use native.Mathlib.Omega.{arith}
use borrow.Author.Tests.{lt-ltb, le-ltb}
use lib.ListN.{length, take, get_or}
use Rattle.srp.specs.Limits.{both_formats}
use Rattle.srp.specs.Outside.{decimal}
use Rattle.srp.specs.Requests.{other_formats_lem}
use Rattle.text.specs.Codes.{codes}
use Rattle.text.proofs.Digits.{length_one, length_more}
use Rattle.division.specs.Dividing.{Divided, values, division, divide_def, formula}
use Rattle.division.specs.declared.Division.{Division}
use Rattle.std.specs.declared.result.Result.TheVariants.{Ok}
use Rattle.division.proofs.Rows.{each_agreement}
use Rattle.std.specs.Prelude.{flat_map}
use Rattle.std.proofs.lemmas.List.{flat_map_more, take_more}
use Rattle.formats.specs.Table.{aligned, line, agreement, head, table, IsPage}

-- ── a number

length_two : (n : ℕ) → 10 ≤ n → n < 100 → length (decimal n) ≡ 2
length_two n h k = length_more n h (omega arith) ∙ ap (λ (x : ℕ). x + 1) (length_one (n / 10) (omega arith))

pub tens : (n : ℕ) → 10 ≤ n → n < 100 → (aligned n ≡ codes " " ++ decimal n) × (length (decimal n) ≡ 2)
tens n h k = (rw (le-ltb n 10 h, lt-ltb n 100 k), length_two n h k)

-- ── an agreement

-- formats of which none is another are counted
module _ (formats : ℕ) (known : other_formats_lem both_formats formats ≡ false) {r : Divided} (e : r ≡ divide_def formats) where
  pub counted : r ≡ Ok (division formats)
  counted = e ∙ rw known

  pub the_counts : {d : Division} → r ≡ Ok d → d ≡ division formats
  the_counts {d} q = let c : ◌≡◌ {A = Divided} (Ok d) (Ok (division formats)) = sym q ∙ counted in cc

-- ── the table

-- the agreements, none to both
abbrev pub agreements : List ℕ
agreements = 0x0000 ∷ 0x0002 ∷ 0x0004 ∷ 0x0006 ∷ []

-- the head, and the lines of the first k
pub upto : ℕ → List ℕ
upto k = head ++ flat_map agreement (take k agreements)

pub upto_none : head ≡ upto 0
unfolding upto
upto_none = sym (append-nil head)

pub upto_more : (k : ℕ) → k < 4 → upto k ++ agreement (get_or agreements k 0) ≡ upto (k + 1)
unfolding upto
upto_more k h =
    flat_map_more agreement head (take k agreements) (get_or agreements k 0)
    ∙ ap (λ (l : List ℕ). head ++ flat_map agreement l) (sym (take_more agreements k 0 h))

pub upto_all : upto 4 ≡ table
unfolding upto
upto_all = ap (λ (l : List ℕ). head ++ (agreement 0x0000 ++ (agreement 0x0002 ++ (agreement 0x0004 ++ l)))) (append-nil (agreement 0x0006))

-- with these counts
abbrev table_of : (none direct indirect both : Division) → List ℕ
table_of none direct indirect both = head ++ (line 0x0000 none ++ (line 0x0002 direct ++ (line 0x0004 indirect ++ line 0x0006 both)))

counts_of : {d d' : Division} → ◌≡◌ {A = Divided} (Ok d) (Ok d') → d ≡ d'
counts_of q = cc

pub is_page : IsPage
is_page =
    let both = counts_of each_agreement.0.1 in
    let direct = counts_of each_agreement.1.0.1 in
    let indirect = counts_of each_agreement.1.1.0.1 in
    let none = counts_of each_agreement.1.1.1.0.1 in
    ap (λ (d : Division). table_of d (division 0x0002) (division 0x0004) (division 0x0006)) none
    ∙ ap (λ (d : Division). table_of (formula 1) d (division 0x0004) (division 0x0006)) direct
    ∙ ap (λ (d : Division). table_of (formula 1) (formula 2) d (division 0x0006)) indirect
    ∙ ap (λ (d : Division). table_of (formula 1) (formula 2) (formula 2) d) both
