-- What stands in a message of a direction is in its ranges, and so are the segments that a command gets from it and from its tables.
-- Assumes nothing.
use mathlib.Core.Path.{◌≡◌, refl, sym, ◌∙◌}
use mathlib.Core.Bool.{Bool, true, false, cond, not, ◌&&◌, ◌||◌, true≢false}
use mathlib.Core.List.{List, []}
use mathlib.Core.Option.{none, none-ne-some, some-injective}
use Prim.Native.Nat.{ℕ, zero, suc, ◌+◌, ◌*◌, ◌/◌, ◌%◌, ◌^◌, ◌≤◌, ◌<◌}
use native.Mathlib.Omega.{arith}
use lib.Dec.{ltb, eqb}
use lib.ListN.{length, take, drop, length-take, length-drop}
use borrow.Author.Tests.{ltb-false, eqb-true, not-false}
use Rattle.srp.specs.Bytes.{Bytes, bytes, number, get, behind}
use Rattle.srp.specs.Messages.{tag, out_format, in_format, out_count, in_count_lem, segment_length}
use Rattle.srp.specs.Refusals.{first_of_checks}
use Rattle.srp.specs.Descriptors.{descriptor_size, agrees, bad_count, segments_in, fetched, Given, given, segments, sum_of, reachable, descriptor_of_lem, good_table_lem, copies_agree_lem, good_indirect, good_format, good_fields}
use Rattle.srp.specs.Requests.{Reading, request_of_lem, out_at, in_at, exact_length, command_checks, command_of_lem, read_message_lem}
use Rattle.srp.specs.Both.{Both, Each}
use Rattle.srp.specs.Take.{Tables, no_tables, given_in, tables_fit, fields_fit, waits, ready, waiting, new_side, new_open}
use Rattle.srp.specs.Ranges.{SideRanges, GivenRanges, OpenRanges}
use Rattle.srp.specs.declared.Request.{Request}
use Rattle.srp.specs.declared.Message.TheVariants.{Cmd, TskMgmt, CredRsp, ILogout}
use Rattle.std.specs.declared.result.Result.TheVariants.{Ok, Err}
use Rattle.srp.proofs.FieldLaws.{both, get_below}
use Rattle.srp.proofs.ListLaws.{all_take, all_drop}
use Rattle.srp.proofs.Checks.{passes}
use Rattle.srp.proofs.Reading.{read_checked}
use Rattle.srp.proofs.Segments.{few_segments}

-- neither of two
pub neither : (a b : Bool) → (a || b) ≡ false → (a ≡ false) × (b ≡ false)
neither true b e = absurd (true≢false e)
neither false b e = (refl, e)

-- ── the segments

one_segment : (k : ℕ) (l : List ℕ) → k ≤ 1 → Bytes l → sum_of (segments_in k l) < 2 ^ 32
one_segment zero l h a = omega arith
one_segment (suc zero) l h a = omega (arith, get_below segment_length l a)
one_segment (suc (suc k)) l h a = absurd (omega arith)

module _ (g : Given) (table : List ℕ) (r : GivenRanges g) where
  abbrev B : ℕ
  B = sum_of (segments g table)

  -- below 2^32: the length field of the one segment, or equal to the field total length
  small : good_format g table ≡ true → B < 2 ^ 32
  small h = go (eqb g.descriptor.format 2) refl h
    where
      at_most : (x : Bool) → length g.bytes ≡ cond x 16 0 → length g.bytes ≤ 16
      at_most true e = omega arith
      at_most false e = omega arith

      go : (y : Bool) → eqb g.descriptor.format 2 ≡ y → (not y || good_indirect g table) ≡ true → B < 2 ^ 32
      go true e h =
          let sums = (both (copies_agree_lem g table) (eqb g.descriptor.total B) (both (good_table_lem g.descriptor.len) _ h).1).1 in
          omega (arith, eqb-true g.descriptor.total B sums, r.total)
      go false e h =
          rw e
          (one_segment (length g.bytes / 16) g.bytes (omega (arith, at_most (eqb g.descriptor.format 1) (r.size ∙ rw e))) r.bytes)

  new_ranges : length table ≡ fetched g.descriptor → good_fields g table ≡ true → SideRanges (new_side (segments g table))
  new_ranges e good =
      let q = both (good_format g table) (reachable (segments g table)) good in
      record { extent = record { few = few_segments g table (omega (arith, r.size)) q.0 e; reach = q.1; sum = refl; small = small q.0 }; highest = omega arith; at = omega arith; end = omega arith; number = omega arith; required = omega arith }

none_ranges : SideRanges (new_side [])
none_ranges =
    record { extent = record { few = omega arith; reach = refl; sum = refl; small = omega arith }; highest = omega arith; at = omega arith; end = omega arith; number = omega arith; required = omega arith }

-- a command that is ready has such segments, where its tables fit and its fields are good
pub ready_ranges : (r : Request) (g : Both Given) (t : Tables) → r.tag < 2 ^ 64 → Each GivenRanges g → tables_fit g t ≡ true → fields_fit g t ≡ true
    → OpenRanges (ready new_side r g t)
ready_ranges r g t h w l e =
    let f = both (eqb (length t.out) (fetched g.out.descriptor)) (eqb (length t.inn) (fetched g.inn.descriptor)) l in
    let q = both (good_fields g.out t.out) (good_fields g.inn t.inn) e in
    record {
      tag = h;
      awaited = λ x z. absurd (none-ne-some x z);
      sides = (new_ranges g.out t.out w.0 (eqb-true _ _ f.0) q.0, new_ranges g.inn t.inn w.1 (eqb-true _ _ f.1) q.1);
      unplanned = λ _. (refl, refl);
    }

waiting_ranges : (r : Request) (g : Both Given) → r.tag < 2 ^ 64 → Each GivenRanges g → OpenRanges (waiting new_side r g)
waiting_ranges r g h w =
    record {
      tag = h;
      awaited = λ x z. (rw (← some-injective g x z) w, refl);
      sides = (none_ranges, none_ranges);
      unplanned = λ _. (refl, refl);
    }

-- ── what a message of bytes gives

-- a descriptor of an agreed format, with no bad count and room for it
module _ (formats f count at : ℕ) (s : List ℕ) (b : Bytes s) where
  parts : (k n : ℕ) → Bytes (take k (drop n s))
  parts k n = all_take (λ b. b < 256) k (drop n s) (all_drop (λ b. b < 256) n s b)

  given_ranges : agrees formats f ≡ true → bad_count (descriptor_of_lem f count at s) ≡ false → at + descriptor_size f count ≤ length s
      → GivenRanges (given (descriptor_of_lem f count at s) s)
  given_ranges a k l =
      record {
        format = known (eqb f 0) refl (eqb f 1) refl (eqb f 2) refl a;
        count = few (eqb f 2) k;
        len = field_small (eqb f 2) (at + 12);
        total = field_small (eqb f 2) (at + 16);
        bytes = stands (eqb f 1) (eqb f 2);
        size = sized (eqb f 1) (eqb f 2) l;
      }
    where
      known : (x : Bool) → eqb f 0 ≡ x → (y : Bool) → eqb f 1 ≡ y → (z : Bool) → eqb f 2 ≡ z → (x || ((y || z) && eqb (formats / 2 ^ f % 2) 1)) ≡ true → f ≤ 2
      known true e y e' z e'' h = omega (arith, eqb-true f 0 e)
      known false e true e' z e'' h = omega (arith, eqb-true f 1 e')
      known false e false e' true e'' h = omega (arith, eqb-true f 2 e'')
      known false e false e' false e'' h = absurd (true≢false (sym h))

      few : (y : Bool) → (y && (ltb 32 (cond y count 0) || ltb (cond y (get (behind at segment_length) s) 0) (16 * cond y count 0))) ≡ false → cond y count 0 ≤ 32
      few true h = ltb-false 32 count (neither (ltb 32 count) _ h).0
      few false h = omega arith

      field_small : (y : Bool) (n : ℕ) → cond y (number 0 (take 4 (drop n s))) 0 < 2 ^ 32
      field_small true n = get_below (bytes n 4) s b
      field_small false n = omega arith

      stands : (x y : Bool) → Bytes (cond x (take 16 (drop at s)) (cond y (take (16 * cond (eqb f 2) count 0) (drop (at + 20) s)) []))
      stands true y = parts 16 at
      stands false true = parts (16 * cond (eqb f 2) count 0) (at + 20)
      stands false false = tt

      sized : (x y : Bool) → at + cond x 16 (cond y (20 + 16 * count) 0) ≤ length s
          → length (cond x (take 16 (drop at s)) (cond y (take (16 * cond y count 0) (drop (at + 20) s)) [])) ≡ cond x 16 (cond y (16 * cond y count 0) 0)
      sized true y h = omega (arith, length-take 16 (drop at s), length-drop at s)
      sized false true h = omega (arith, length-take (16 * count) (drop (at + 20) s), length-drop (at + 20) s)
      sized false false h = refl

-- a command that is read from it and passes take's checks
abbrev pub Sane : List ℕ → Reading → Type 0
Sane s (Err r) = Unit {0}
Sane s (Ok (Cmd c)) = (waits c ≡ false → fields_fit (given_in c s) no_tables ≡ true) → OpenRanges (new_open c s)
Sane s (Ok (TskMgmt k)) = Unit {0}
Sane s (Ok (CredRsp g)) = Unit {0}
Sane s (Ok ILogout) = Unit {0}

-- no table is lent where none is to be fetched
pub none_fit : (m n : ℕ) → not (eqb m 0 && eqb n 0) ≡ false → (eqb 0 m && eqb 0 n) ≡ true
none_fit m n e =
    let q = both (eqb m 0) (eqb n 0) (not-false _ e) in
    rw (eqb-true m 0 q.0, eqb-true n 0 q.1) refl

module _ (s : List ℕ) (b : Bytes s) where
  command_sane : (formats : ℕ) → first_of_checks (command_checks formats s) ≡ none → Sane s (Ok (Cmd (command_of_lem s)))
  command_sane formats e = go (waits (command_of_lem s)) refl
    where
      g : Both Given
      g = given_in (command_of_lem s) s

      w : Each GivenRanges g
      w =
          let c = passes (command_checks formats s) e in
          let l = eqb-true (length s) (exact_length s) (not-false _ c.1.1.1.0) in (
            given_ranges formats (get out_format s) (get out_count s) (out_at s) s b (not-false _ c.1.0) c.1.1.1.1.0 (omega (arith, l)),
            given_ranges formats (get in_format s) (get in_count_lem s) (in_at s) s b (not-false _ c.1.1.0) c.1.1.1.1.1.0 (omega (arith, l)),
          )

      go : (y : Bool) → waits (command_of_lem s) ≡ y → (y ≡ false → fields_fit g no_tables ≡ true)
          → OpenRanges (cond y (waiting new_side (request_of_lem s) g) (ready new_side (request_of_lem s) g no_tables))
      go true z f = waiting_ranges (request_of_lem s) g (get_below tag s b) w
      go false z f = ready_ranges (request_of_lem s) g no_tables (get_below tag s b) w (none_fit (fetched g.out.descriptor) (fetched g.inn.descriptor) z) (f refl)

  pub read_sane : (agreed formats : ℕ) → Sane s (read_message_lem agreed formats s)
  read_sane agreed formats = read_checked (Sane s) (λ _. tt) s agreed formats (command_sane formats) tt tt tt
