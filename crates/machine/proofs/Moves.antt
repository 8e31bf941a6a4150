-- One direction of a command as the machine follows it: the port keeps what is left of the move named last, and the pieces left are its cuts.
-- Assumes nothing.
use mathlib.Core.Path.{◌≡◌, refl, ap, sym, ◌∙◌, subst}
use mathlib.Core.Bool.{true}
use mathlib.Core.List.{List, [], ◌∷◌, ◌++◌, append-nil, append_assoc}
use mathlib.Core.Option.{Option, none, some, none-ne-some, some-injective}
use Prim.Native.Nat.{ℕ, suc, ◌+◌, ◌-◌, ◌≤◌, min, max}
use native.Mathlib.Nat.{add-zero}
use native.Mathlib.Omega.{arith}
use lib.Dec.{ltb}
use lib.ListN.{length, take, drop, get_elem?, length-append, length-take}
use lib.Seq.{take-append-le, drop_at, drop-length, drop-append-le}
use borrow.Author.Tests.{lt-ltb, le-ltb}
use Rattle.srp.specs.Limits.{most_copies}
use Rattle.srp.specs.Lists.{All}
use Rattle.srp.specs.Descriptors.{Segment, sum_of, reachable}
use Rattle.srp.specs.Cutting.{bytes_in, trimmed, highest, cuts_of, cuts, next}
use Rattle.srp.specs.Credit.{Side, rule_of}
use Rattle.srp.specs.declared.Terms.{Terms}
use Rattle.srp.specs.Calls.{moving, handing, has_pieces, next_in}
use Rattle.machine.specs.Machine.{Move, Progress, last_of, so_far, movable_in, fresh, needing, with_move, with_operation}
use Rattle.machine.specs.Operations.{cuts_of_all, whole_of, pieces_left}
use Rattle.machine.specs.Demand.{Prefix, EachCut}
use Rattle.srp.specs.declared.Piece.{Piece}
use Rattle.srp.proofs.CutLaws.{Lawful, some_maximum, unrolls, stops, next_at_lem, take_more, drop_more, first_left, some_below, none_above, done_iff}
use Rattle.srp.proofs.Pieces.{piece_fits, Fits}
use Rattle.srp.proofs.Moves.{move_bytes, moves_cut}
use Rattle.srp.proofs.ListLaws.{all_snoc, all_weaken}

-- the end of the move named last, 0 where none was
abbrev pub to_of : Option Move → ℕ
to_of none = 0
to_of (some m) = m.to

abbrev pub end_of : List Move → ℕ
end_of ms = to_of (last_of ms)

-- the cuts of its moves that were not handed out
abbrev pub left_of : Terms → Progress → List Piece
left_of T g = drop (length g.operations) (whole_of T g)

-- where they start, in the move named last
abbrev pub at_of : Terms → Progress → ℕ
at_of T g = end_of g.moves - bytes_in (left_of T g)

-- the port's side
abbrev pub side_in : Terms → Progress → Side
side_in T g =
    record {
      extent = record { segs = g.segs; total = sum_of g.segs };
      transfer = record { required = g.required; highest = highest g.operations; at = at_of T g; end = end_of g.moves; number = so_far g };
    }

-- of the move m named last, the pieces handed out and those left are its cuts
pub record Current (T : Terms) (g : Progress) (m : Move) : Type 0 where
  pub forward : m.from ≤ m.to
  pub parts : drop g.earlier g.operations ++ left_of T g ≡ cuts_of (rule_of T) m.from m.to g.segs

-- the operations are the first of the moves' cuts; those left are the cuts of what is left of the move named last, which ends by min(R, B); of that
-- move those handed out and those left are its cuts; there are at most 32 segments, and none passes 2^64; every move ends by B
pub record Steady (T : Terms) (g : Progress) : Type 0 where
  pub order : Prefix T g
  pub left : left_of T g ≡ cuts_of (rule_of T) (at_of T g) (end_of g.moves) g.segs
  pub ends : end_of g.moves ≤ movable_in g
  pub early : g.earlier ≤ length g.operations
  pub current : (m : Move) → last_of g.moves ≡ some m → Current T g m
  pub few : length g.segs ≤ most_copies
  pub reach : reachable g.segs ≡ true
  pub bounded : All (λ m. m.to ≤ sum_of g.segs) g.moves

-- ── lists

last_snoc : (ms : List Move) (m : Move) → last_of (ms ++ (m ∷ [])) ≡ some m
last_snoc [] m = refl
last_snoc (x ∷ []) m = refl
last_snoc (x ∷ y ∷ ms) m = last_snoc (y ∷ ms) m

whole_snoc : (T : Terms) (ss : List Segment) (ms : List Move) (m : Move) → cuts_of_all (rule_of T) ss (ms ++ (m ∷ [])) ≡ cuts_of_all (rule_of T) ss ms ++ cuts_of (rule_of T) m.from m.to ss
whole_snoc T ss [] m = append-nil (cuts_of (rule_of T) m.from m.to ss)
whole_snoc T ss (x ∷ ms) m = rw (whole_snoc T ss ms m, append_assoc)

highest_snoc : (ps : List Piece) (p : Piece) → highest (ps ++ (p ∷ [])) ≡ max (highest ps) (p.offset + p.len)
highest_snoc [] p = omega arith
highest_snoc (x ∷ ps) p = omega (arith, highest_snoc ps p)

-- the cuts of each move
pub each_cut : (T : Terms) → Lawful (rule_of T) → (g : Progress) → Steady T g → EachCut T g
each_cut T cut g s = all_weaken _ _ (λ m e. moves_cut T.maximum T.boundary m.from m.to g.segs (some_maximum T.maximum T.boundary cut) e) g.moves s.bounded

-- one move, "offset 0, count R", has the cuts of document 01
pub one_move : (T : Terms) (R : ℕ) (ss : List Segment) → whole_of T (with_move 0 R (needing R (fresh ss))) ≡ cuts (rule_of T) R ss
one_move T R ss =
    let e : min (0 + R) (min R (sum_of ss)) ≡ min R (sum_of ss) = omega arith in
    append-nil (cuts_of (rule_of T) 0 (min (0 + R) (min R (sum_of ss))) ss) ∙ ap (λ (to : ℕ). cuts_of (rule_of T) 0 to ss) e

-- ── a command that is new, and its plan

pub new_steady : (T : Terms) (ss : List Segment) → length ss ≤ most_copies → reachable ss ≡ true → Steady T (fresh ss)
new_steady T ss n r =
    record {
      order = refl;
      left = sym (stops (rule_of T) 0 0 0 ss ((done_iff (rule_of T) 0 0 ss (omega arith)).1 (omega arith)));
      ends = omega arith;
      early = omega arith;
      current = λ m e. absurd (none-ne-some m e);
      few = n;
      reach = r;
      bounded = tt;
    }

pub plan_steady : (T : Terms) (r : ℕ) (g : Progress) → Steady T g → g.moves ≡ [] → Steady T (needing r g)
plan_steady T r g s e =
    record {
      order = s.order;
      left = s.left;
      ends = rw e (omega arith);
      early = s.early;
      current = λ m f. record { forward = (s.current m f).forward; parts = (s.current m f).parts };
      few = s.few;
      reach = s.reach;
      bounded = s.bounded;
    }

module _ (T : Terms) (cut : Lawful (rule_of T)) (g : Progress) (s : Steady T g) where
  pub ends_by : end_of g.moves ≤ sum_of g.segs
  ends_by = omega (arith, s.ends)

  bytes_left : bytes_in (left_of T g) ≡ end_of g.moves - at_of T g
  bytes_left = ap bytes_in s.left ∙ move_bytes (rule_of T) (at_of T g) (end_of g.moves) g.segs cut ends_by

  -- ── the next piece

  abbrev pub coming : Option Piece
  coming = next_in T (side_in T g)

  -- what the port hands out next is the next of the command's own list
  pub turn : get_elem? (whole_of T g) (length g.operations) ≡ coming
  turn =
      first_left (whole_of T g) (length g.operations)
      ∙ ap (λ (l : List Piece). get_elem? l 0) s.left
      ∙ next_at_lem (rule_of T) 0 (at_of T g) (end_of g.moves) g.segs 0 cut
      ∙ ap (λ (k : ℕ). next (rule_of T) k (end_of g.moves) g.segs) (add-zero (at_of T g))

  -- a move has pieces left in the port just where it has in the machine
  pub same_left : has_pieces (side_in T g) ≡ pieces_left T g
  same_left = go coming refl
    where
      go : (v : Option Piece) → coming ≡ v → ltb (at_of T g) (end_of g.moves) ≡ ltb (length g.operations) (length (whole_of T g))
      go none e =
          le-ltb (at_of T g) (end_of g.moves) ((done_iff (rule_of T) (at_of T g) (end_of g.moves) g.segs ends_by).0 e)
          ∙ sym (le-ltb (length g.operations) (length (whole_of T g)) (none_above (whole_of T g) (length g.operations) (turn ∙ e)))
      go (some o) e =
          let f = piece_fits (rule_of T) 0 (at_of T g) (end_of g.moves) g.segs o cut e in
          lt-ltb (at_of T g) (end_of g.moves) (omega (arith, f.some, f.upto))
          ∙ sym (lt-ltb (length g.operations) (length (whole_of T g)) (some_below (whole_of T g) (length g.operations) o (turn ∙ e)))

  module _ (o : Piece) (e : coming ≡ some o) where
    fits : Fits (rule_of T) 0 (at_of T g) (end_of g.moves) g.segs o
    fits = piece_fits (rule_of T) 0 (at_of T g) (end_of g.moves) g.segs o cut e

    one_longer : length (g.operations ++ (o ∷ [])) ≡ suc (length g.operations)
    one_longer = omega (arith, length-append g.operations (o ∷ []))

    left_next : left_of T g ≡ o ∷ left_of T (with_operation o g)
    left_next = rw one_longer (drop_more (whole_of T g) (length g.operations) o (turn ∙ e))

    at_next : at_of T (with_operation o g) ≡ at_of T g + o.len
    at_next = place (end_of g.moves) (bytes_in (left_of T g)) (bytes_in (left_of T (with_operation o g))) (ap bytes_in left_next) bytes_left fits.upto
      where
        place : (end b b' : ℕ) → b ≡ o.len + b' → b ≡ end - (end - b) → end - b + o.len ≤ end → end - b' ≡ end - b + o.len
        place end b b' x y z = omega arith

    next_prefix : Prefix T (with_operation o g)
    next_prefix =
        rw one_longer
        (sym (take_more (whole_of T g) (length g.operations) o (turn ∙ e) ∙ ap (λ (l : List Piece). l ++ (o ∷ [])) (sym s.order)))

    -- the piece goes from those left to those handed out
    split : drop g.earlier g.operations ++ left_of T g ≡ drop g.earlier (g.operations ++ (o ∷ [])) ++ left_of T (with_operation o g)
    split =
        let handed = drop g.earlier g.operations in
        let left = left_of T (with_operation o g) in
        ap (λ (l : List Piece). handed ++ l) left_next
        ∙ sym (ap (λ (l : List Piece). l ++ left) (drop-append-le g.earlier g.operations (o ∷ []) s.early) ∙ append_assoc handed (o ∷ []) left)

    -- the command with the piece handed out is followed as it was
    pub step_steady : Steady T (with_operation o g)
    step_steady =
        let u : o ∷ left_of T (with_operation o g) ≡ o ∷ cuts_of (rule_of T) (at_of T g + o.len) (end_of g.moves) g.segs =
        sym left_next ∙ s.left ∙ unrolls (rule_of T) 0 (at_of T g) (end_of g.moves) g.segs o cut e in
        let t : left_of T (with_operation o g) ≡ cuts_of (rule_of T) (at_of T g + o.len) (end_of g.moves) g.segs = cc in
        record {
          order = next_prefix;
          left = t ∙ ap (λ (k : ℕ). cuts_of (rule_of T) k (end_of g.moves) g.segs) (sym at_next);
          ends = s.ends;
          early = omega (arith, one_longer, s.early);
          current = λ m f. record { forward = (s.current m f).forward; parts = sym split ∙ (s.current m f).parts };
          few = s.few;
          reach = s.reach;
          bounded = s.bounded;
        }

    -- and the port moves on with it
    pub step_side : handing o.len (side_in T g) ≡ side_in T (with_operation o g)
    step_side =
        let h : max (highest g.operations) (at_of T g + o.len) ≡ highest (g.operations ++ (o ∷ [])) = high (highest g.operations) (at_of T g) o.offset fits.offset ∙ sym (highest_snoc g.operations o) in
        let n : so_far g + 1 ≡ so_far (with_operation o g) = omega (arith, one_longer, s.early) in
        λ i. record { extent = (side_in T g).extent; transfer = record { required = g.required; highest = h i; at = sym at_next i; end = end_of g.moves; number = n i } }
      where
        high : (a b c : ℕ) → c ≡ 0 + b → max a (b + o.len) ≡ max a (c + o.len)
        high a b c q = ap (λ (k : ℕ). max a (k + o.len)) (omega arith)

  -- ── a move is named

  module _ (offset count : ℕ) (low : offset ≤ movable_in g) (through : length (whole_of T g) ≤ length g.operations) where
    abbrev new : Progress
    new = with_move offset count g

    abbrev to : ℕ
    to = trimmed offset count (movable_in g)

    abbrev theirs : List Piece
    theirs = cuts_of (rule_of T) offset to g.segs

    as_long : length (whole_of T g) ≡ length g.operations
    as_long = omega (arith, ap {B = ℕ} length s.order, length-take (length g.operations) (whole_of T g))

    whole_new : whole_of T new ≡ whole_of T g ++ theirs
    whole_new = whole_snoc T g.segs g.moves (record { from = offset; to = to })

    left_new : left_of T new ≡ theirs
    left_new = ap (drop (length g.operations)) whole_new ∙ drop_at (whole_of T g) theirs (length g.operations) as_long

    last_new : last_of new.moves ≡ some (record { from = offset; to = to })
    last_new = last_snoc g.moves (record { from = offset; to = to })

    end_new : end_of new.moves ≡ to
    end_new = ap to_of last_new

    at_new : at_of T new ≡ offset
    at_new =
        ap (λ (k : ℕ). k - bytes_in (left_of T new)) end_new
        ∙ ap (λ (k : ℕ). to - k) (ap bytes_in left_new ∙ move_bytes (rule_of T) offset to g.segs cut (omega arith))
        ∙ omega arith

    pub move_steady : Steady T new
    move_steady =
        record {
          order = s.order ∙ sym (ap (take (length g.operations)) whole_new ∙ take-append-le (length g.operations) (whole_of T g) theirs (omega (arith, as_long)));
          left = left_new ∙ (λ i. cuts_of (rule_of T) (sym at_new i) (sym end_new i) g.segs);
          ends = rw end_new (omega arith);
          early = omega arith;
          current = λ m e. subst (Current T new) (some-injective _ m (sym last_new ∙ e)) (record { forward = omega arith; parts = rw (drop-length g.operations) left_new });
          few = s.few;
          reach = s.reach;
          bounded = all_snoc (λ x. x.to ≤ sum_of g.segs) g.moves (record { from = offset; to = to }) s.bounded (omega arith);
        }

    pub move_side : moving offset count (side_in T g) ≡ side_in T new
    move_side =
        let none_yet : 0 ≡ so_far new = omega arith in
        λ i. record { extent = (side_in T g).extent; transfer = record { required = g.required; highest = highest g.operations; at = sym at_new i; end = sym end_new i; number = none_yet i } }
