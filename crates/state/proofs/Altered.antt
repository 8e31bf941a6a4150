-- The changes of an open port's head as changes of the port.
-- Assumes nothing.
use mathlib.Core.Path.{◌≡◌, sym, ◌∙◌, ap}
use mathlib.Core.Bool.{Bool}
use mathlib.Core.List.{List}
use Prim.Native.Nat.{ℕ, ◌+◌, ◌-◌}
use lib.ListN.{length-map}
use Rattle.words.specs.declared.Head.{Head}
use Rattle.words.specs.Slots.{slots}
use Rattle.words.specs.Line.{line}
use Rattle.words.specs.Head.{head_of, counted_of, HeadChanged}
use Rattle.words.specs.View.{open_of, open_port_lem, opens, shown}
use Rattle.words.proofs.Ports.{opens_long}
use Rattle.state.specs.Changes.{Settled}

-- ── other counts in the head

module _ {l l' : List ℕ} where
  module _ {held wanted announced : ℕ} {unanswered : Bool} (H : HeadChanged l l' (counted_of held wanted announced unanswered)) where
    -- open or closed as before
    counted_live : (head_of l').live ≡ (head_of l).live
    counted_live = ap (λ (h : Head). h.live) H.head

    -- the port with them
    counted_port : (st : List ℕ) → shown l' st ≡ open_port_lem (counted_of held wanted announced unanswered (head_of l)) (slots l) (line l) st
    counted_port st =
        λ i. open_port_lem (H.head i) (H.slots i) (H.line i) st

  -- those of the head that was read
  module _ (h : Head) (is : h ≡ head_of l) where
    -- what is due announced
    pub settled : (used delta : ℕ) → delta ≡ h.wanted - (h.announced - used + h.held)
        → HeadChanged l l' (counted_of h.held h.wanted (h.announced - used + delta) h.unanswered) → Settled used delta l l'
    settled used delta d H =
        record {
          live = counted_live H;
          delta_is = λ st. rw is at d ∙ ap (λ (n : ℕ). (head_of l).wanted - ((head_of l).announced - used + n)) (sym (length-map (opens l) (open_of st) ∙ opens_long l));
          port = counted_port (rw is at H);
        }
