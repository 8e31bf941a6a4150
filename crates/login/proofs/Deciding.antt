-- What a login that nothing rejects settles is in its ranges.
-- Assumes nothing.
use mathlib.Core.Path.{◌≡◌}
use mathlib.Core.Bool.{Bool, true, false, cond}
use mathlib.Core.List.{List}
use mathlib.Core.Option.{none}
use Prim.Native.Nat.{ℕ, ◌+◌, ◌%◌, ◌≤◌}
use native.Mathlib.Omega.{arith}
use borrow.Author.Tests.{ltb-false, eqb-false}
use lib.Dec.{ltb, eqb}
use Rattle.srp.specs.Limits.{direct_only, both_formats}
use Rattle.srp.specs.Bytes.{get}
use Rattle.srp.specs.Messages.{requested_length, format_bits}
use Rattle.srp.specs.Refusals.{first_of_checks}
use Rattle.srp.specs.Requests.{other_formats_lem}
use Rattle.srp.specs.Login.{supported, rejections, terms_of_lem}
use Rattle.srp.specs.declared.Settings.{Settings}
use Rattle.srp.proofs.Checks.{passes, both_false}
use Rattle.words.specs.Head.{TermsFit}
use Rattle.login.specs.LoggingIn.{GoodSettings}

-- the formats supported are at most 6
pub supported_low : (c : Settings) → supported c ≤ both_formats
supported_low c = go c.indirect
  where
    go : (b : Bool) → cond b both_formats direct_only ≤ both_formats
    go true = omega arith
    go false = omega arith

-- those that are supported are even and at most 6
formats_fit : (n f : ℕ) → n ≤ 6 → other_formats_lem n f ≡ false → (f % 2 ≡ 0) × (f ≤ 6)
formats_fit n f h e =
    let p = both_false (eqb (f % 2) 1) (ltb (n + 1) f) e in
    let even : f % 2 ≡ 0 = omega (arith, eqb-false (f % 2) 1 p.0) in
    let low : f ≤ n + 1 = ltb-false (n + 1) f p.1 in
    (even, omega (arith, even, low, h))

pub accepts : (c : Settings) (own s : List ℕ) → GoodSettings c → first_of_checks (rejections c own s) ≡ none → TermsFit (terms_of_lem c s)
accepts c own s G e =
    let a = passes (rejections c own s) e in
    let f = formats_fit (supported c) (get format_bits s) (supported_low c) a.1.1.0 in
    record {
      smallest = G.smallest;
      largest = G.largest;
      boundary = G.boundary;
      shortest = ltb-false (get requested_length s) 64 a.0;
      longest = omega (arith, ltb-false c.longest (get requested_length s) a.1.0, G.longest);
      even = f.0;
      formats = f.1;
    }
