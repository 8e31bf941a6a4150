-- Document 02, job 4: a list of operations that covers a move's bytes in order, each inside one segment, has the move's bytes by handle and address.
-- Assumes nothing.
use mathlib.Core.Path.{◌≡◌, refl, ap, sym, ◌∙◌}
use mathlib.Core.Logic.{⊎_elim}
use mathlib.Core.List.{List, [], ◌∷◌, ◌++◌, append_assoc, append-nil}
use Prim.Native.Nat.{ℕ, ◌+◌, ◌-◌, ◌≤◌}
use native.Mathlib.Omega.{arith}
use lib.ListN.{length, take, drop, length-append}
use lib.Seq.{take_at, drop_at, take-add, length-take-le}
use Rattle.srp.specs.Descriptors.{Segment, sum_of}
use Rattle.srp.specs.Moves.{Inside, InSegments, run, bytes_of_segments, bytes_of_pieces}
use Rattle.srp.specs.Fewest.{Rival, RivalsCover}
use Rattle.srp.specs.declared.Terms.{Terms}
use Rattle.srp.specs.declared.Piece.{Piece}
use Rattle.srp.proofs.Moves.{length_run, run_add, drop_across}

-- a piece inside one of the segments starts behind what comes before them
pub starts_after : (o : ℕ) (p : Piece) (ss : List Segment) → InSegments o p ss → o ≤ p.offset
starts_after o p [] w = absurd w
starts_after o p (s ∷ ss) w = ⊎_elim (λ i. i.after) (λ v. omega (arith, starts_after (o + s.len) p ss v)) w

length_segments : (ss : List Segment) → length (bytes_of_segments ss) ≡ sum_of ss
length_segments [] = refl
length_segments (s ∷ ss) = omega (arith, length-append (run s.handle s.address s.len) (bytes_of_segments ss), length_run s.handle s.address s.len, length_segments ss)

-- the bytes of a piece, in the segment where its offset says
piece_bytes : (o : ℕ) (p : Piece) (ss : List Segment) → InSegments o p ss → take p.len (drop (p.offset - o) (bytes_of_segments ss)) ≡ run p.handle p.address p.len
piece_bytes o p [] w = absurd w
piece_bytes o p (s ∷ ss) w = ⊎_elim here (λ v. later v (piece_bytes (o + s.len) p ss v)) w
  where
    k : ℕ
    k = p.offset - o

    rest : List (ℕ × ℕ)
    rest = bytes_of_segments ss

    split : drop k (run s.handle s.address s.len ++ rest) ≡ run s.handle (s.address + k) (s.len - k) ++ drop (k - s.len) rest
    split = sym (drop_across s.handle s.address s.len k rest)

    here : Inside o p s → take p.len (drop k (run s.handle s.address s.len ++ rest)) ≡ run p.handle p.address p.len
    here i =
        let d = s.len - k - p.len in
        let whole : s.len - k ≡ p.len + d = omega (arith, i.ends, i.after) in
        let r = run s.handle (s.address + k) p.len in
        let more = run s.handle (s.address + k + p.len) d in
        let parts : run s.handle (s.address + k) (s.len - k) ≡ r ++ more = ap (run s.handle (s.address + k)) whole ∙ run_add s.handle (s.address + k) p.len d in
        rw (split, parts, append_assoc, take_at r (more ++ drop (k - s.len) rest) p.len (length_run s.handle (s.address + k) p.len), i.handle, i.place)

    later : InSegments (o + s.len) p ss → take p.len (drop (p.offset - (o + s.len)) rest) ≡ run p.handle p.address p.len
        → take p.len (drop k (run s.handle s.address s.len ++ rest)) ≡ run p.handle p.address p.len
    later v ih =
        let none : s.len - k ≡ 0 = omega (arith, starts_after (o + s.len) p ss v) in
        let same : k - s.len ≡ p.offset - (o + s.len) = omega arith in
        rw (split, none, same) ih

-- behind its first operation such a list goes on as one
pub rest_of : {T : Terms} {from to : ℕ} {ss : List Segment} {p : Piece} {ps : List Piece} → Rival T from to ss (p ∷ ps) → Rival T (from + p.len) to ss ps
rest_of r = record { covers = omega (arith, r.covers); in_order = r.in_order.1; inside = r.inside.1; allowed = r.allowed.1 }

-- up to each operation's end they are the segments' bytes
rival_bytes : (T : Terms) (from to : ℕ) (ss : List Segment) (ps : List Piece) → Rival T from to ss ps
    → take from (bytes_of_segments ss) ++ bytes_of_pieces ps ≡ take to (bytes_of_segments ss)
rival_bytes T from to ss [] r =
    let e : from ≡ to = omega (arith, r.covers) in
    append-nil (take from (bytes_of_segments ss)) ∙ ap (λ (k : ℕ). take k (bytes_of_segments ss)) e
rival_bytes T from to ss (p ∷ ps) r =
    let l = bytes_of_segments ss in
    let at : p.offset - 0 ≡ from = omega (arith, r.in_order.0) in
    let bytes : take p.len (drop from l) ≡ run p.handle p.address p.len = rw at at (piece_bytes 0 p ss r.inside.0) in
    rw (sym bytes, sym (append_assoc (take from l) (take p.len (drop from l)) (bytes_of_pieces ps)), sym (take-add from p.len l)) (rival_bytes T (from + p.len) to ss ps (rest_of r))

pub rivals_cover : RivalsCover
rivals_cover T from to ss ps h r =
    let l = bytes_of_segments ss in
    let whole : length (take from l) ≡ from = length-take-le from l (omega (arith, length_segments ss, r.covers)) in
    sym (ap (drop from) (sym (rival_bytes T from to ss ps r)) ∙ drop_at (take from l) (bytes_of_pieces ps) from whole)
