-- The port that words are, by the head that was read: closed, or open with the head's numbers.
-- Assumes nothing.
use mathlib.Core.Path.{◌≡◌, sym, ◌∙◌, ap}
use mathlib.Core.Bool.{true, false, not}
use mathlib.Core.List.{List}
use Prim.Native.Nat.{ℕ}
use lib.ListN.{length, length-map}
use borrow.Author.Tests.{not-true, not-false}
use Rattle.srp.specs.Credit.{Port}
use Rattle.words.specs.Head.{head_of, HeadIs}
use Rattle.words.specs.View.{opens, open_of, view}
use Rattle.words.specs.declared.Head.{Head}
use Rattle.words.proofs.Ports.{while_open, view_live, opens_long}

module _ {l : List ℕ} {h : Head} (G : HeadIs l h) where
  -- the words say closed where the head does
  pub head_closed : not h.live ≡ true → (head_of l).live ≡ false
  head_closed e = sym G.live ∙ not-true h.live e

  -- and open where it says open
  pub head_open : not h.live ≡ false → (head_of l).live ≡ true
  head_open e = sym G.live ∙ not-false h.live e

  module _ (st : List ℕ) where
    -- so is the port closed
    pub port_closed : not h.live ≡ true → (view l st).live ≡ false
    port_closed e = view_live l st ∙ head_closed e

    -- or open
    pub port_open : not h.live ≡ false → (view l st).live ≡ true
    port_open e = view_live l st ∙ head_open e

    module _ (e : (head_of l).live ≡ true) where
      -- W
      pub wanted_is : (view l st).wanted ≡ h.wanted
      wanted_is = ap (λ (p : Port). p.wanted) (while_open l st e) ∙ sym G.wanted

      -- A
      pub announced_is : (view l st).announced ≡ h.announced
      announced_is = ap (λ (p : Port). p.announced) (while_open l st e) ∙ sym G.announced

      -- H
      pub held_is : length (view l st).held ≡ h.held
      held_is = ap (λ (p : Port). length p.held) (while_open l st e) ∙ length-map (opens l) (open_of st) ∙ opens_long l ∙ sym G.held

      -- whether a credit request is unanswered
      pub unanswered_is : (view l st).unanswered ≡ h.unanswered
      unanswered_is = ap (λ (p : Port). p.unanswered) (while_open l st e) ∙ sym (ap (λ (x : Head). x.unanswered) G.whole)

      -- LOSOLNT
      pub losolnt_is : (view l st).terms.losolnt ≡ h.terms.losolnt
      losolnt_is = ap (λ (p : Port). p.terms.losolnt) (while_open l st e) ∙ sym (ap (λ (x : Head). x.terms.losolnt) G.whole)
