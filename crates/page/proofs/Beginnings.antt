-- The line is that of the first 40 bytes and the length: no field that is read lies behind them.
-- Assumes nothing.
use mathlib.Core.Path.{◌≡◌, refl, sym, ap, ◌∙◌}
use mathlib.Core.Bool.{Bool, true, false, cond}
use mathlib.Core.List.{List}
use Prim.Native.Nat.{ℕ, ◌≤◌}
use native.Mathlib.Omega.{arith}
use borrow.Author.Tests.{leb-true, leb-false}
use lib.Dec.{leb}
use lib.ListN.{length, take, drop, take-append-drop}
use lib.Seq.{length-take-le, take_all}
use Rattle.srp.specs.Bytes.{Field, kind, get, inside, type_of}
use Rattle.srp.specs.Messages.{tag, lun, delta, reason, out_format, in_format, out_count, in_count_lem, additional, rspvalid, snsvalid, sense_length}
use Rattle.srp.proofs.FieldLaws.{get_append}
use Rattle.page.specs.Types.{most_read, type_named_lem, fits, name_of}
use Rattle.page.specs.Page.{rsp_code, line_of, line_text, line_from, ReadsBeginning}
use Rattle.page.specs.declared.Way.{Way}
use Rattle.page.specs.declared.Name.{Name}
use Rattle.page.specs.declared.Name.TheVariants.{LoginReq, TskMgmt, Cmd, ILogout, CredRsp, LoginRsp, LoginRej, Rsp, CredReq, TLogout, Unknown}

module _ (s : List ℕ) (long : most_read ≤ length s) where
  field : (f : Field) → inside most_read f ≡ true → get f (take most_read s) ≡ get f s
  field f i =
      let l : length (take most_read s) ≡ most_read = length-take-le most_read s long in
      sym (get_append f (take most_read s) (drop most_read s) (ap (λ (n : ℕ). inside n f) l ∙ i)) ∙ ap (get f) (take-append-drop most_read s)

  same_fit : (n : ℕ) (m : Name) → fits m n (take most_read s) ≡ fits m n s
  same_fit n LoginReq = refl
  same_fit n TskMgmt = refl
  same_fit n Cmd = rw (field out_format refl, field in_format refl, field out_count refl, field in_count_lem refl, field additional refl)
  same_fit n ILogout = refl
  same_fit n CredRsp = refl
  same_fit n LoginRsp = refl
  same_fit n LoginRej = refl
  same_fit n Rsp = rw (field rspvalid refl, field snsvalid refl, field sense_length refl)
  same_fit n CredReq = refl
  same_fit n TLogout = refl
  same_fit n Unknown = refl

  same_line : (w : Way) (n : ℕ) (m : Name) → line_of w m n (take most_read s) ≡ line_of w m n s
  same_line w n LoginReq = rw (field tag refl)
  same_line w n TskMgmt = rw (field tag refl, field lun refl)
  same_line w n Cmd = rw (field tag refl, field lun refl)
  same_line w n ILogout = rw (field tag refl)
  same_line w n CredRsp = rw (field tag refl)
  same_line w n LoginRsp = rw (field tag refl, field delta refl)
  same_line w n LoginRej = rw (field tag refl, field reason refl)
  same_line w n Rsp = rw (field tag refl, field delta refl, field rspvalid refl, field rsp_code refl)
  same_line w n CredReq = rw (field tag refl, field delta refl)
  same_line w n TLogout = rw (field tag refl, field reason refl)
  same_line w n Unknown = refl

  same_name : (n : ℕ) → name_of n (take most_read s) ≡ name_of n s
  same_name n =
      ap (λ (k : ℕ). cond (fits (type_named_lem k) n (take most_read s)) (type_named_lem k) Unknown) (field kind refl)
      ∙ ap (λ (b : Bool). cond b (type_named_lem (type_of s)) Unknown) (same_fit n (type_named_lem (type_of s)))

  fields : (w : Way) (n : ℕ) → line_from w n (take most_read s) ≡ line_from w n s
  fields w n = ap (λ (m : Name). line_text (line_of w m n (take most_read s))) (same_name n) ∙ ap line_text (same_line w n (name_of n s))

pub reads_beginning : ReadsBeginning
reads_beginning w n s = go (leb most_read (length s)) refl
  where
    go : (b : Bool) → leb most_read (length s) ≡ b → line_from w n (take most_read s) ≡ line_from w n s
    go true e = fields s (leb-true most_read (length s) e) w n
    go false e = ap (line_from w n) (take_all most_read s (omega (arith, leb-false most_read (length s) e)))
