-- What a line is after so many of its characters: what the code keeps of it says what is printed.
-- Assumes nothing.
use Rattle.std.specs.Prelude.{Option, Some, None}
use Rattle.std.proofs.Common.{◌≡◌, ℕ, suc, ◌+◌, ◌-◌, ◌*◌, ◌/◌, ◌%◌, ◌^◌, ◌<◌, ◌≤◌, min, Bool, true, false, cond, eqb, ltb, leb, List, [], ◌∷◌, ◌++◌, length, take, set, sym, refl, ap, ◌∙◌, subst, mod-eq_of_lt, arith, length-append, length-set, take_all, take-suc-set, set-set, ltb-false, ltb-true, eq-eqb, ne_eqb, eqb-true, leb-false, leb-true}
use borrow.Author.Tests.{eqb-false}
use lib.Seq.{take-append-le, take-set-le, set_out}
use Rattle.page.specs.Types.{most_read}
use Rattle.page.specs.Page.{line_from, trace_line}
use Rattle.page.specs.declared.Way.{Way}
use Rattle.page.proofs.Beginnings.{reads_beginning}
use Rattle.trace.specs.Input.{is_space_lem, digit_of_lem, content_by, values_of, pairs, fault_line, printed_by, printed}
use Rattle.trace.specs.Reading.{fresh, with_content_lem, byte_with_lem, with_digit_lem, onward, turned, kept, message_end, end_by, line_end}
use Rattle.trace.specs.declared.reader.Fault.TheVariants.{NoDigit, Odd}
use Rattle.trace.specs.declared.reader.Content.{Content}
use Rattle.trace.specs.declared.reader.Content.TheVariants.{Nothing, Comment, Message, Wrong}
use Rattle.trace.specs.declared.reader.Reader.{Reader}
use Rattle.trace.proofs.Characters.{further, values_more, digit_small, says_something}
use Rattle.trace.proofs.Pairs.{last_of, last_more, pairs_even, pairs_odd, length_pairs}

-- ── digits

-- the digits vs were read: how many, the value of one that stands alone, and the first 40 bytes
pub record Of (vs : List ℕ) (r : Reader) (st : List ℕ) : Type 0 where
  pub count : r.digits ≡ length vs
  pub last : length vs % 2 ≡ 1 → r.last ≡ last_of 0 vs
  pub small : last_of 0 vs < 16
  pub start : take (length vs / 2) st ≡ take most_read (pairs vs)

-- a byte is stored at place m
stored : (st : List ℕ) (vs : List ℕ) (m b : ℕ) → length st ≡ most_read → m ≡ length vs / 2 → take m st ≡ take most_read (pairs vs)
    → take (suc m) (set st m b) ≡ take most_read (pairs vs ++ (b ∷ []))
stored st vs m b wide is same = go (ltb m most_read) refl
  where
    go : (t : Bool) → ltb m most_read ≡ t → take (suc m) (set st m b) ≡ take most_read (pairs vs ++ (b ∷ []))
    go true e =
        let h = ltb-true m most_read e in
        let l : length (pairs vs) ≤ most_read = omega (arith, length_pairs vs, is, h) in
        let k : length (pairs vs ++ (b ∷ [])) ≤ most_read = rw (length-append (pairs vs) (b ∷ [])) (omega (arith, length_pairs vs, is, h)) in
        take-suc-set st m b (omega (arith, wide, h))
        ∙ ap (λ (x : List ℕ). x ++ (b ∷ [])) (same ∙ take_all most_read (pairs vs) l)
        ∙ sym (take_all most_read (pairs vs ++ (b ∷ [])) k)
    go false e =
        let h = ltb-false m most_read e in
        ap (take (suc m)) (set_out st m b (omega (arith, wide, h)))
        ∙ take_all (suc m) st (omega (arith, wide, h))
        ∙ sym (take_all m st (omega (arith, wide, h)))
        ∙ same
        ∙ sym (take-append-le most_read (pairs vs) (b ∷ []) (omega (arith, length_pairs vs, is, h)))

-- one digit more
module _ (vs : List ℕ) (r : Reader) (st : List ℕ) (v : ℕ) (O : Of vs r st) (wide : length st ≡ most_read) (few : r.digits + 1 < 2 ^ 64) (low : v < 16) where
  whole : (r.digits + 1) % 2 ^ 64 ≡ suc (length vs)
  whole = mod-eq_of_lt few ∙ omega (arith, O.count)

  -- where its byte goes
  place : kept (with_digit_lem (Some v) r) st ≡ set st (length vs / 2) (byte_with_lem r v)
  place =
      let less : suc (length vs) - 1 ≡ length vs = omega arith in
      ap (λ (d : ℕ). cond (eqb d 0) st (set st ((d - 1) / 2) (byte_with_lem r v))) whole
      ∙ rw (ne_eqb (suc (length vs)) 0 (λ z. omega (arith, z)), less)

  alone : length vs % 2 ≡ 0 → byte_with_lem r v ≡ v
  alone e = rw (O.count, eq-eqb (length vs % 2) 0 e)

  joined : length vs % 2 ≡ 1 → byte_with_lem r v ≡ last_of 0 vs * 16 + v
  joined e = rw (O.count, ne_eqb (length vs % 2) 0 (λ z. omega (arith, e, z)), O.last e, mod-eq_of_lt O.small, mod-eq_of_lt low)

  longer : length (vs ++ (v ∷ [])) ≡ suc (length vs)
  longer = length-append vs (v ∷ []) ∙ omega arith

  start_more : take (length (vs ++ (v ∷ [])) / 2) (kept (with_digit_lem (Some v) r) st) ≡ take most_read (pairs (vs ++ (v ∷ [])))
  start_more = go (eqb (length vs % 2) 0) refl
    where
      go : (t : Bool) → eqb (length vs % 2) 0 ≡ t → take (length (vs ++ (v ∷ [])) / 2) (kept (with_digit_lem (Some v) r) st) ≡ take most_read (pairs (vs ++ (v ∷ [])))
      go true e =
          let z = eqb-true (length vs % 2) 0 e in
          let half : length (vs ++ (v ∷ [])) / 2 ≡ length vs / 2 = omega (arith, longer, z) in
          ap (λ (n : ℕ). take n (kept (with_digit_lem (Some v) r) st)) half
          ∙ ap (take (length vs / 2)) place
          ∙ take-set-le (length vs / 2) st (length vs / 2) (byte_with_lem r v) (omega arith)
          ∙ O.start
          ∙ ap (take most_read) (sym (pairs_even vs v z))
      go false e =
          let z : length vs % 2 ≡ 1 = omega (arith, eqb-false (length vs % 2) 0 e) in
          let half : length (vs ++ (v ∷ [])) / 2 ≡ suc (length vs / 2) = omega (arith, longer, z) in
          ap (λ (n : ℕ). take n (kept (with_digit_lem (Some v) r) st)) half
          ∙ ap (take (suc (length vs / 2))) place
          ∙ stored st vs (length vs / 2) (byte_with_lem r v) wide refl O.start
          ∙ ap (λ (b : ℕ). take most_read (pairs vs ++ (b ∷ []))) (joined z)
          ∙ ap (take most_read) (sym (pairs_odd vs v z))

  pub one_more : Of (vs ++ (v ∷ [])) (with_digit_lem (Some v) r) (kept (with_digit_lem (Some v) r) st)
  one_more =
      record {
        count = whole ∙ sym longer;
        last = λ e. alone (omega (arith, longer, e)) ∙ sym (last_more 0 vs v);
        small = rw (last_more 0 vs v) low;
        start = start_more;
      }

  -- stored again it stays
  pub again : kept (with_digit_lem (Some v) r) (kept (with_digit_lem (Some v) r) st) ≡ kept (with_digit_lem (Some v) r) st
  again =
      let less : suc (length vs) - 1 ≡ length vs = omega arith in
      ap (λ (d : ℕ). cond (eqb d 0) (kept (with_digit_lem (Some v) r) st) (set (kept (with_digit_lem (Some v) r) st) ((d - 1) / 2) (byte_with_lem r v))) whole
      ∙ rw (ne_eqb (suc (length vs)) 0 (λ z. omega (arith, z)), less)
      (ap (λ (x : List ℕ). set x (length vs / 2) (byte_with_lem r v)) place ∙ set-set st (length vs / 2) (byte_with_lem r v) (byte_with_lem r v) ∙ sym place)

  pub as_wide : length (kept (with_digit_lem (Some v) r) st) ≡ most_read
  as_wide = ap (length {A = ℕ}) place ∙ length-set st (length vs / 2) (byte_with_lem r v) ∙ wide

-- ── a line

-- what it is, by its first character and the values of the others
abbrev pub after : Content → Option (List ℕ) → Content
after Nothing vs = Nothing
after Comment vs = Comment
after (Message w) None = Wrong NoDigit
after (Message w) (Some vs) = Message w
after (Wrong f) vs = Wrong f

abbrev pub Held : Content → Option (List ℕ) → Reader → List ℕ → Type 0
Held Nothing vs r st = Unit {0}
Held Comment vs r st = Unit {0}
Held (Message w) None r st = Unit {0}
Held (Message w) (Some vs) r st = Of vs r st
Held (Wrong f) vs r st = Unit {0}

abbrev pub State : List ℕ → Reader → List ℕ → Type 0
State [] r st = (r.content ≡ Nothing) × (r.digits ≡ 0)
State (c ∷ cs) r st = (r.content ≡ after (content_by c) (values_of cs)) × Held (content_by c) (values_of cs) r st

-- line number k, of which u was read without its spaces
pub record At (k : ℕ) (u : List ℕ) (r : Reader) (st : List ℕ) : Type 0 where
  pub number : r.number ≡ k
  pub wide : length st ≡ most_read
  pub few : r.digits ≤ length u
  pub steady : kept r st ≡ st
  pub state : State u r st

pub at_start : (k : ℕ) (st : List ℕ) → length st ≡ most_read → At k [] (fresh k) st
at_start k st h = record { number = refl; wide = h; few = omega arith; steady = refl; state = (refl, refl) }

-- ── its end

-- no more than all of the 40 bytes
least : (n : ℕ) (st : List ℕ) → length st ≡ most_read → take (min n most_read) st ≡ take n st
least n st h = go (leb n most_read) refl
  where
    go : (b : Bool) → leb n most_read ≡ b → take (min n most_read) st ≡ take n st
    go true e = let m : min n most_read ≡ n = omega (arith, leb-true n most_read e) in rw m
    go false e =
        let g = leb-false n most_read e in
        take_all (min n most_read) st (omega (arith, h, g)) ∙ sym (take_all n st (omega (arith, h, g)))

-- a message's
message_end_lem : (k : ℕ) (w : Way) (vs : List ℕ) (r : Reader) (st : List ℕ) → r.number ≡ k → length st ≡ most_read → Of vs r st
    → message_end r w st ≡ cond (eqb (length vs % 2) 1) (fault_line k Odd) (trace_line w (pairs vs))
message_end_lem k w vs r st n wide O =
    ap (λ (x : ℕ). cond (eqb (r.digits % 2) 1) (fault_line x Odd) (line_from w (r.digits / 2) (take (min (r.digits / 2) most_read) st))) n
    ∙ ap (λ (d : ℕ). cond (eqb (d % 2) 1) (fault_line k Odd) (line_from w (d / 2) (take (min (d / 2) most_read) st))) O.count
    ∙ ap (cond (eqb (length vs % 2) 1) (fault_line k Odd))
    (ap (line_from w (length vs / 2)) (least (length vs / 2) st wide ∙ O.start)
    ∙ reads_beginning w (length vs / 2) (pairs vs)
    ∙ ap (λ (m : ℕ). line_from w m (pairs vs)) (sym (length_pairs vs)))

pub ends : (k : ℕ) (u : List ℕ) (r : Reader) (st : List ℕ) → At k u r st → line_end r st ≡ printed k u
ends k [] r st A = ap (λ (c : Content). end_by c r st) A.state.0
ends k (c ∷ cs) r st A = ap (λ (x : Content). end_by x r st) A.state.0 ∙ go (content_by c) (values_of cs) A.state.1
  where
    go : (m : Content) (vs : Option (List ℕ)) → Held m vs r st → end_by (after m vs) r st ≡ printed_by k m vs
    go Nothing vs H = refl
    go Comment vs H = refl
    go (Message w) None H = ap (λ (x : ℕ). fault_line x NoDigit) A.number
    go (Message w) (Some xs) H = message_end_lem k w xs r st A.number A.wide H
    go (Wrong f) vs H = ap (λ (x : ℕ). fault_line x f) A.number

-- ── one character more

-- a first one
begun : (m : Content) (r : Reader) (st : List ℕ) → r.digits ≡ 0 → (m ≡ after m (Some [])) × Held m (Some []) (with_content_lem m r) st
begun Nothing r st e = (refl, tt)
begun Comment r st e = (refl, tt)
begun (Message w) r st e = (refl, record { count = e; last = λ z. absurd (let f : 0 ≡ 1 = z in omega (arith, f)); small = omega arith; start = refl })
begun (Wrong f) r st e = (refl, tt)

first : (k c : ℕ) (r : Reader) (st : List ℕ) → At k [] r st → At k (c ∷ []) (with_content_lem (content_by c) r) (kept (with_content_lem (content_by c) r) st)
first k c r st A =
    let b = begun (content_by c) r (kept r st) A.state.1 in
    record {
      number = A.number;
      wide = ap (length {A = ℕ}) A.steady ∙ A.wide;
      few = omega (arith, A.few);
      steady = ap (kept r) A.steady;
      state = b;
    }

-- a further one, c, behind the first, x, and cs: m, vs and d are what these say
module _ (k x : ℕ) (cs : List ℕ) (c : ℕ) (r : Reader) (st : List ℕ) (A : At k (x ∷ cs) r st) (room : length cs + 2 < 2 ^ 64)
    (m : Content) (vs : Option (List ℕ)) (d : Option ℕ) (is_m : content_by x ≡ m) (is_vs : values_of cs ≡ vs) (is_d : digit_of_lem c ≡ d) where
  was : (r.content ≡ after m vs) × Held m vs r st
  was =
      subst (λ (q : Option (List ℕ)). (r.content ≡ after m q) × Held m q r st) is_vs
      (subst (λ (q : Content). (r.content ≡ after q (values_of cs)) × Held q (values_of cs) r st) is_m A.state)

  becomes : (r' : Reader) (st' : List ℕ) → (r'.content ≡ after m (further vs d)) × Held m (further vs d) r' st' → State (x ∷ cs ++ (c ∷ [])) r' st'
  becomes r' st' S =
      let more : values_of (cs ++ (c ∷ [])) ≡ further vs d = values_more cs c ∙ ap (λ (q : Option (List ℕ)). further q (digit_of_lem c)) is_vs ∙ ap (further vs) is_d in
      subst (λ (q : Content). (r'.content ≡ after q (values_of (cs ++ (c ∷ [])))) × Held q (values_of (cs ++ (c ∷ []))) r' st') (sym is_m)
      (subst (λ (q : Option (List ℕ)). (r'.content ≡ after m q) × Held m q r' st') (sym more) S)

  -- no digit is read: nothing is stored
  stays : (x' : Content) → (x' ≡ after m (further vs d)) × Held m (further vs d) (with_content_lem x' r) (kept r st)
      → At k (x ∷ cs ++ (c ∷ [])) (with_content_lem x' r) (kept (with_content_lem x' r) st)
  stays x' S =
      record {
        number = A.number;
        wide = ap (length {A = ℕ}) A.steady ∙ A.wide;
        few = rw (length-append cs (c ∷ [])) (omega (arith, A.few));
        steady = ap (kept r) A.steady;
        state = becomes (with_content_lem x' r) (kept r st) S;
      }

  grows : (ws : List ℕ) (v : ℕ) → v < 16 → Of ws r st
      → (r.content ≡ after m (further vs d)) × Held m (further vs d) (with_digit_lem (Some v) r) (kept (with_digit_lem (Some v) r) st)
      → At k (x ∷ cs ++ (c ∷ [])) (with_digit_lem (Some v) r) (kept (with_digit_lem (Some v) r) st)
  grows ws v low O S =
      let few : r.digits + 1 < 2 ^ 64 = omega (arith, A.few, room) in
      record {
        number = A.number;
        wide = as_wide ws r st v O A.wide few low;
        few = rw (length-append cs (c ∷ []), mod-eq_of_lt few) (omega (arith, A.few));
        steady = again ws r st v O A.wide few low;
        state = becomes (with_digit_lem (Some v) r) (kept (with_digit_lem (Some v) r) st) S;
      }

later : (k x : ℕ) (cs : List ℕ) (c : ℕ) (r : Reader) (st : List ℕ) → At k (x ∷ cs) r st → length cs + 2 < 2 ^ 64
    → (m : Content) (vs : Option (List ℕ)) (d : Option ℕ) → content_by x ≡ m → values_of cs ≡ vs → digit_of_lem c ≡ d
    → At k (x ∷ cs ++ (c ∷ [])) (onward (after m vs) r c) (kept (onward (after m vs) r c) st)
later k x cs c r st A room Nothing vs d e f g = absurd (says_something x e)
later k x cs c r st A room Comment vs d e f g = same_content (was k x cs c r st A room Comment vs d e f g).0
  where
    same_content : r.content ≡ Comment → At k (x ∷ cs ++ (c ∷ [])) r (kept r st)
    same_content q = subst (λ (z : Content). At k (x ∷ cs ++ (c ∷ [])) (with_content_lem z r) (kept r st)) (sym q) (stays k x cs c r st A room Comment vs d e f g Comment (refl, tt))
later k x cs c r st A room (Wrong w) vs d e f g = same_content (was k x cs c r st A room (Wrong w) vs d e f g).0
  where
    same_content : r.content ≡ Wrong w → At k (x ∷ cs ++ (c ∷ [])) r (kept r st)
    same_content q = subst (λ (z : Content). At k (x ∷ cs ++ (c ∷ [])) (with_content_lem z r) (kept r st)) (sym q) (stays k x cs c r st A room (Wrong w) vs d e f g (Wrong w) (refl, tt))
later k x cs c r st A room (Message w) None d e f g = same_content (was k x cs c r st A room (Message w) None d e f g).0
  where
    same_content : r.content ≡ Wrong NoDigit → At k (x ∷ cs ++ (c ∷ [])) r (kept r st)
    same_content q = subst (λ (z : Content). At k (x ∷ cs ++ (c ∷ [])) (with_content_lem z r) (kept r st)) (sym q) (stays k x cs c r st A room (Message w) None d e f g (Wrong NoDigit) (refl, tt))
later k x cs c r st A room (Message w) (Some ws) None e f g =
    subst (λ (z : Option ℕ). At k (x ∷ cs ++ (c ∷ [])) (with_digit_lem z r) (kept (with_digit_lem z r) st)) (sym g) (stays k x cs c r st A room (Message w) (Some ws) None e f g (Wrong NoDigit) (refl, tt))
later k x cs c r st A room (Message w) (Some ws) (Some v) e f g =
    let W = was k x cs c r st A room (Message w) (Some ws) (Some v) e f g in
    let few : r.digits + 1 < 2 ^ 64 = omega (arith, A.few, room) in
    let low = digit_small c v g in
    subst (λ (z : Option ℕ). At k (x ∷ cs ++ (c ∷ [])) (with_digit_lem z r) (kept (with_digit_lem z r) st)) (sym g)
    (grows k x cs c r st A room (Message w) (Some ws) (Some v) e f g ws v low W.1 (W.0, one_more ws r st v W.1 A.wide few low))

pub turns : (k : ℕ) (u : List ℕ) (c : ℕ) (r : Reader) (st : List ℕ) → At k u r st → length u + 1 < 2 ^ 64
    → At k (cond (is_space_lem c) u (u ++ (c ∷ []))) (turned r c) (kept (turned r c) st)
turns k u c r st A room = go (is_space_lem c)
  where
    further_on : (u : List ℕ) → At k u r st → length u + 1 < 2 ^ 64 → At k (u ++ (c ∷ [])) (onward r.content r c) (kept (onward r.content r c) st)
    further_on [] B h = subst (λ (q : Content). At k (c ∷ []) (onward q r c) (kept (onward q r c) st)) (sym B.state.0) (first k c r st B)
    further_on (x ∷ cs) B h =
        subst (λ (q : Content). At k (x ∷ cs ++ (c ∷ [])) (onward q r c) (kept (onward q r c) st)) (sym B.state.0)
        (later k x cs c r st B (omega (arith, h)) (content_by x) (values_of cs) (digit_of_lem c) refl refl refl)

    go : (b : Bool) → At k (cond b u (u ++ (c ∷ []))) (cond b r (onward r.content r c)) (kept (cond b r (onward r.content r c)) st)
    go true = subst (At k u r) (sym A.steady) A
    go false = further_on u A room
