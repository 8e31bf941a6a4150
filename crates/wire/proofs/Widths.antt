-- A number of j + k bytes is one of j bytes and one of k bytes behind it, read or written.
-- Assumes nothing.
use mathlib.Core.Path.{◌≡◌, refl, sym, ap, ◌∙◌}
use mathlib.Core.List.{List, [], ◌∷◌, ◌++◌, append_assoc}
use Prim.Native.Nat.{ℕ, zero, suc, ◌+◌, ◌*◌, ◌/◌, ◌%◌, ◌^◌, ◌≤◌, ◌<◌}
use native.Mathlib.Nat.{zero-add, suc-add, add_assoc, add_comm, mul_assoc, pow-succ', one-le-pow, mul-add-div_right, mul-add-mod_self_right, div-add-mod', div-div-eq-div-mul, div-one, mod-eq_of_lt}
use native.Mathlib.Numerals.{add-one}
use native.Mathlib.Omega.{arith}
use lib.Pow.{pow-add}
use lib.ListN.{length, take, drop, get_or, set, length-drop}
use lib.Seq.{take-add, drop-drop, take-append-le, take-take, drop_at, length-take-le, drop-cons, set_split}
use Rattle.srp.specs.Bytes.{bytes, get, put, number, bytes_of}

-- ── read

-- digits behind digits
number_append : (a b : List ℕ) (acc : ℕ) → number acc (a ++ b) ≡ number (number acc a) b
number_append [] b acc = refl
number_append (x ∷ a) b acc = number_append a b (acc * 256 + x)

-- what was read before counts 256 times as much for each byte
number_behind : (l : List ℕ) (acc : ℕ) → number acc l ≡ acc * 256 ^ length l + number 0 l
number_behind [] acc = omega arith
number_behind (b ∷ l) acc =
    rw (number_behind l (acc * 256 + b), number_behind l (0 * 256 + b), pow-succ' 256 (length l)) (omega arith)

module _ (j k at : ℕ) (s : List ℕ) (fits : at + (j + k) ≤ length s) where
  read_two : get (bytes at (j + k)) s ≡ get (bytes at j) s * 256 ^ k + get (bytes (at + j) k) s
  read_two =
      rw (
        take-add j k (drop at s),
        drop-drop j at s,
        number_append (take j (drop at s)) (take k (drop (at + j) s)) 0,
        number_behind (take k (drop (at + j) s)) (number 0 (take j (drop at s))),
        long,
      )
    where
      long : length (take k (drop (at + j) s)) ≡ k
      long = length-take-le k (drop (at + j) s) (simp length-drop (omega arith))

  -- a number put together from two that were read
  pub number_of_two : {x y : ℕ} → x ≡ get (bytes at j) s → y ≡ get (bytes (at + j) k) s → x * 256 ^ k + y ≡ get (bytes at (j + k)) s
  number_of_two p q = rw (p, q) (sym read_two)

-- ── written

-- what stands above the lowest k bytes does not matter
bytes_more : (k a v : ℕ) → bytes_of k (a * 256 ^ k + v) ≡ bytes_of k v
bytes_more zero a v = refl
bytes_more (suc k) a v =
    let e : a * 256 ^ suc k ≡ a * 256 * 256 ^ k = ap (λ (x : ℕ). a * x) (pow-succ' 256 k) ∙ sym (mul_assoc a 256 (256 ^ k)) in
    rw (e, mul-add-div_right {m = 256 ^ k} (one-le-pow k 256 (omega arith)) (a * 256) v, mul-add-mod_self_right a 256 (v / 256 ^ k), bytes_more k (a * 256) v)

-- so they are those of the remainder
bytes_low : (k v : ℕ) → bytes_of k (v % 256 ^ k) ≡ bytes_of k v
bytes_low k v = sym (bytes_more k (v / 256 ^ k) (v % 256 ^ k)) ∙ ap (bytes_of k) (div-add-mod' v (256 ^ k))

-- the bytes of a number are those of its two parts
bytes_two : (j k v : ℕ) → bytes_of (j + k) v ≡ bytes_of j (v / 256 ^ k) ++ bytes_of k v
bytes_two zero k v = rw (zero-add k)
bytes_two (suc j) k v =
    rw (suc-add j k, div-div-eq-div-mul v (256 ^ k) (256 ^ j), ← pow-add 256 k j, add_comm k j, bytes_two j k v)

module _ (j k at v : ℕ) (s : List ℕ) (fits : at + (j + k) ≤ length s) where
  write_two : put (bytes at (j + k)) v s ≡ put (bytes at j) (v / 256 ^ k) (put (bytes (at + j) k) (v % 256 ^ k) s)
  write_two =
      let long : length (take (at + j) s) ≡ at + j = length-take-le (at + j) s (omega arith) in
      rw (
        bytes_low k v,
        bytes_two j k v,
        take-append-le at (take (at + j) s) (bytes_of k v ++ drop (at + j + k) s) (omega arith),
        take-take at (at + j) s (omega arith),
        drop_at (take (at + j) s) (bytes_of k v ++ drop (at + j + k) s) (at + j) long,
        append_assoc (bytes_of j (v / 256 ^ k)) (bytes_of k v) (drop (at + (j + k)) s),
        ← add_assoc at j k,
      )

  -- a number written as two, the low one first
  pub written_by_two : {x y : List ℕ} → x ≡ put (bytes (at + j) k) (v % 256 ^ k) s → y ≡ put (bytes at j) (v / 256 ^ k) x → y ≡ put (bytes at (j + k)) v s
  written_by_two p q = q ∙ ap (put (bytes at j) (v / 256 ^ k)) p ∙ sym write_two

-- ── one byte

module _ (at : ℕ) (s : List ℕ) (fits : at < length s) where
  pub read_one : get (bytes at 1) s ≡ get_or s at 0
  read_one = rw (drop-cons s at 0 fits) (omega arith)

  pub write_one : (v : ℕ) → v < 256 → put (bytes at 1) v s ≡ set s at v
  write_one v h = rw (set_split s at v fits, div-one v, mod-eq_of_lt h, add-one at)
