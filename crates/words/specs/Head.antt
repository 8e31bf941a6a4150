-- The head of a port's words: what it says, and what changes of the words leave of head, slots and line.
use Rattle.std.specs.Prelude.{◌≡◌, Bool, false, cond, List, [], ◌∷◌, ℕ, min, ◌+◌, ◌-◌, ◌*◌, ◌/◌, ◌≤◌, ◌%◌, get_or, set}
use Rattle.srp.specs.Limits.{most_buffers, largest_piece, shortest_agreed, longest_agreed, both_formats}
use Rattle.srp.specs.Bytes.{bit}
use Rattle.srp.specs.Cutting.{bad_boundary}
use Rattle.srp.specs.declared.Terms.{Terms}
use Rattle.words.specs.declared.Head.{Head}
use Rattle.words.specs.declared.Slot.{Slot}
use Rattle.words.specs.Slots.{on, slots, no_slot}
use Rattle.words.specs.Line.{line}

-- ── the head's words

-- at most 16 are held, and A is at most what then is left of 16
abbrev pub held_in : List ℕ → ℕ
held_in l = min (get_or l 1 0) most_buffers

-- a bad Q is read as none
abbrev pub boundary_in : ℕ → ℕ
boundary_in word = cond (bad_boundary word) 0 word

abbrev pub terms_in : List ℕ → Terms
terms_in l =
    record {
      maximum = get_or l 5 0 % largest_piece + 1;
      boundary = boundary_in (get_or l 10 0);
      agreed = get_or l 6 0 % (longest_agreed - shortest_agreed + 1) + shortest_agreed;
      formats = get_or l 7 0 % 4 * 2;
      crsolnt = on (get_or l 8 0);
      losolnt = on (get_or l 9 0);
    }

abbrev pub head_of : List ℕ → Head
head_of l =
    record {
      live = on (get_or l 0 0);
      held = held_in l;
      wanted = get_or l 2 0 % most_buffers + 1;
      announced = min (get_or l 3 0) (most_buffers - held_in l);
      unanswered = on (get_or l 4 0);
      terms = terms_in l;
    }

abbrev pub head_words_lem : Head → List ℕ
head_words_lem h =
    bit h.live ∷ h.held ∷ (h.wanted - 1) ∷ h.announced ∷ bit h.unanswered
    ∷ (h.terms.maximum - 1)
    ∷ (h.terms.agreed - shortest_agreed)
    ∷ h.terms.formats / 2
    ∷ bit h.terms.crsolnt
    ∷ bit h.terms.losolnt
    ∷ h.terms.boundary
    ∷ []

-- ── the papers' ranges

-- W is 1 to 16, A and H are together at most 16
pub record CountsFit (held wanted announced : ℕ) : Type 0 where
  pub least : 1 ≤ wanted
  pub most : wanted ≤ most_buffers
  pub room : announced + held ≤ most_buffers

-- M is 1 to 1,048,576, Q good, the agreed length 64 to 1,364, the agreed formats have no bit but 1 and 2
pub record TermsFit (t : Terms) : Type 0 where
  pub smallest : 1 ≤ t.maximum
  pub largest : t.maximum ≤ largest_piece
  pub boundary : bad_boundary t.boundary ≡ false
  pub shortest : shortest_agreed ≤ t.agreed
  pub longest : t.agreed ≤ longest_agreed
  pub even : t.formats % 2 ≡ 0
  pub formats : t.formats ≤ both_formats

-- a head that its words can hold
pub record HeadFits (h : Head) : Type 0 where
  pub counts : CountsFit h.held h.wanted h.announced
  pub terms : TermsFit h.terms

-- a head that was read, with what a caller's arithmetic wants of it
pub record HeadIs (l : List ℕ) (h : Head) : Type 0 where
  pub whole : h ≡ head_of l
  pub fits : HeadFits h
  pub live : h.live ≡ (head_of l).live
  pub held : h.held ≡ (head_of l).held
  pub wanted : h.wanted ≡ (head_of l).wanted
  pub announced : h.announced ≡ (head_of l).announced

-- a head with other counts
abbrev pub counted_of : ℕ → ℕ → ℕ → Bool → Head → Head
counted_of held wanted announced unanswered h =
    record { live = h.live; held = held; wanted = wanted; announced = announced; unanswered = unanswered; terms = h.terms }

-- ── changes of the words

-- slot i is changed by f, the other slots, the head and the line stay
pub record SlotChanged (l l' : List ℕ) (i : ℕ) (f : Slot → Slot) : Type 0 where
  pub slots : slots l' ≡ set (slots l) i (f (get_or (slots l) i no_slot))
  pub head : head_of l' ≡ head_of l
  pub line : line l' ≡ line l

-- the head is changed by f, the slots and the line stay
pub record HeadChanged (l l' : List ℕ) (f : Head → Head) : Type 0 where
  pub slots : slots l' ≡ slots l
  pub head : head_of l' ≡ f (head_of l)
  pub line : line l' ≡ line l
