-- What was split off a list, one part after the other, and what is behind it are the list.
-- Assumes nothing.
use mathlib.Core.Path.{◌≡◌, ap, ◌∙◌}
use mathlib.Core.List.{List, ◌++◌, append_assoc}
use Prim.Native.Nat.{ℕ}
use lib.ListN.{take, drop, take-append-drop}

pub split : {s a b : List ℕ} (k : ℕ) → a ≡ take k s → b ≡ drop k s → a ++ b ≡ s
split {s} k p q = rw (p, q) (take-append-drop k s)

pub behind : (x l end : List ℕ) {rest whole : List ℕ} → l ++ end ≡ rest → x ++ rest ≡ whole → (x ++ l) ++ end ≡ whole
behind x l end p q = append_assoc x l end ∙ ap (λ (y : List ℕ). x ++ y) p ∙ q
