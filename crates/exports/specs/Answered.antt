-- A call from C gave this answer: what it returned, and the lent buffer before and after it.
use Rattle.std.specs.Prelude.{◌≡◌, List, ℕ, ◌+◌}
use Rattle.srp.specs.Bytes.{bytes, put}
use Rattle.srp.specs.Writing.{placed}
use Rattle.srp.specs.Outside.{CReturn}

pub record Answered (returned : ℕ) (before after : List ℕ) (a : CReturn) : Type 0 where
  pub number : returned ≡ a.returns
  pub buffer : after ≡ placed a.wrote before

-- the buffer on the way: with a memory descriptor at byte `at`
abbrev pub with_descriptor : ℕ → ℕ → ℕ → ℕ → List ℕ → List ℕ
with_descriptor at address handle len b = put (bytes (at + 0) 8) address (put (bytes (at + 8) 4) handle (put (bytes (at + 12) 4) len b))
