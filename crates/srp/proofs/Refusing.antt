-- Demand 1 of the definitions: every call is refused by the first of its checks that hits, and only so, in document 01's order.
-- Assumes nothing.
use mathlib.Core.Path.{◌≡◌, refl, ap, sym, ◌∙◌, subst}
use mathlib.Core.Logic.{◌↔◌}
use mathlib.Core.Bool.{Bool, true, false, cond, not, ◌&&◌, true≢false}
use mathlib.Core.List.{List, [], ◌∷◌, ◌++◌}
use mathlib.Core.Option.{Option, none, some, none-ne-some, some-injective}
use Prim.Native.Nat.{ℕ, ◌^◌, ◌<◌}
use native.Mathlib.Omega.{arith}
use lib.Dec.{ltb, eqb}
use lib.ListN.{length}
use borrow.Author.Tests.{eqb-true, not-true, not-false}
use Rattle.std.specs.Prelude.{Result, Err}
use Rattle.srp.specs.Lists.{All, find, is_some}
use Rattle.srp.specs.Bytes.{get, type_of}
use Rattle.srp.specs.Messages.{tag}
use Rattle.srp.specs.Refusals.{Conduct, hangs_up, answered, stays, alters_nothing, number_of, conduct_of, Check, first_of_checks, unless_bad}
use Rattle.srp.specs.Requests.{Reading, command_checks, command_of_lem, task_of, sized, length_checks, by_type, read_message_lem}
use Rattle.srp.specs.Credit.{Open, Port, has_tag}
use Rattle.srp.specs.Take.{Outcome, conducted, is_open_lem, Tables, no_tables, given_in, fields_fit, waits, later_checks, take_checks, accepted, refused_by, take_by, take_read, take_def}
use Rattle.srp.specs.Tables.{awaited_by, bad_tables, tables_checks, tables_refused, tables_by}
use Rattle.srp.specs.Calls.{unless}
use Rattle.srp.specs.Answers.{refusal_in}
use Rattle.srp.specs.Order.{order_of, take_order}
use Rattle.srp.specs.declared.Refusal.{Refusal}
use Rattle.srp.specs.declared.Refusal.TheVariants.{ShortBuffer, Length, Closed, NoCredit, TagOpen}
use Rattle.srp.specs.Limits.{buffer_size}
use Rattle.srp.specs.declared.Command.{Command}
use Rattle.srp.specs.declared.Message.TheVariants.{Cmd, TskMgmt, CredRsp, ILogout}
use Rattle.std.specs.declared.result.Result.TheVariants.{Ok}
use Rattle.srp.specs.declared.Reply.{Reply}
use Rattle.srp.proofs.Checks.{passes, hit}
use Rattle.srp.proofs.Reading.{ByType}

-- a reply that is no refusal
pub unrefused : (r : Result Reply Refusal) (f : Refusal) → refusal_in r ≡ none → r ≡ Err f → ⊥
unrefused r f e g = none-ne-some f (sym e ∙ ap refusal_in g)

-- a refusal is what the reply says, whatever else it does
pub refused_as : (p : Port) (m : Reading) (r : Refusal) → (refused_by p m r).reply ≡ Err r
refused_as p m r = go (conduct_of r)
  where
    go : (c : Conduct) → (conducted c p m r).reply ≡ Err r
    go (hangs_up reason) = refl
    go answered = refl
    go stays = refl
    go alters_nothing = refl

-- a call whose first check that hits is v, of checks that come to k
pub unless_iff : (p : Port) (v k : Option Refusal) (o : Outcome) → v ≡ k → refusal_in o.reply ≡ none → (f : Refusal)
    → ((unless v p o).reply ≡ Err f) ↔ (k ≡ some f)
unless_iff p none k o e u f = ((λ g. absurd (unrefused o.reply f u g)), λ g. absurd (none-ne-some f (e ∙ g)))
unless_iff p (some r) k o e u f = ((λ g. sym e ∙ (let z : r ≡ f = cc in ap some z)), λ g. ap Err (some-injective r f (e ∙ g)))

module _ (p : Port) (room : ℕ) (s : List ℕ) where
  -- take of a message that is read
  pub read_iff : (d : Reading) (k : Option Refusal) → first_of_checks (take_checks p room s d) ≡ k → (f : Refusal) → ((take_read p room s d).reply ≡ Err f) ↔ (k ≡ some f)
  read_iff d k e f = go (first_of_checks (take_checks p room s d)) refl
    where
      first : (d : Reading) → first_of_checks (take_checks p room s d) ≡ none → (accepted p s d).reply ≡ Err f → ⊥
      first (Err r) z g = true≢false (passes (take_checks p room s (Err r)) z).1.1.0
      first (Ok (Cmd c)) z g = unrefused _ f refl g
      first (Ok (TskMgmt c)) z g = unrefused _ f refl g
      first (Ok (CredRsp c)) z g = unrefused _ f refl g
      first (Ok ILogout) z g = unrefused _ f refl g

      go : (v : Option Refusal) → first_of_checks (take_checks p room s d) ≡ v → ((take_by v p s d).reply ≡ Err f) ↔ (k ≡ some f)
      go none z = ((λ g. absurd (first d z g)), λ g. absurd (none-ne-some f (sym z ∙ e ∙ g)))
      go (some r) z = (
        (λ g. sym e ∙ z ∙ (let q : r ≡ f = cc (refused_as p d r) in ap some q)),
        λ g. refused_as p d r ∙ ap Err (some-injective r f (sym z ∙ e ∙ g)),
      )

  -- what take does at a refusal that it draws: a reason fits its field, only a request is answered, and only a closed port leaves the message alone
  abbrev pub Suits : Bool → Conduct → Type 0
  Suits request (hangs_up reason) = reason < 2 ^ 32
  Suits request answered = request ≡ true
  Suits request stays = Unit {0}
  Suits request alters_nothing = p.live ≡ false

  -- and 22 is drawn only of a request without credit
  pub record Drawn (b : Bool) (r : Refusal) : Type 0 where
    pub suits : Suits b (conduct_of r)
    pub unpaid : number_of r ≡ 22 → (b ≡ true) × (eqb p.announced 0 ≡ true)

  pub drawn : (b : Bool) (d : Reading) → ByType b d → (r : Refusal) → first_of_checks (take_checks p room s d) ≡ some r → Drawn b r
  drawn b d = by d
    where
      -- a refusal other than 22
      other : {r : Refusal} → Suits b (conduct_of r) → (number_of r ≡ 22 → ⊥) → Drawn b r
      other y z = record { suits = y; unpaid = λ e. absurd (z e) }

      -- the checks that stand first, and 22 and 23
      small : ltb room buffer_size ≡ true → Drawn b ShortBuffer
      small _ = other tt (λ z. omega arith)

      shut : not p.live ≡ true → Drawn b Closed
      shut e = other (not-true p.live e) (λ z. omega arith)

      spent : b ≡ true → eqb p.announced 0 ≡ true → Drawn b NoCredit
      spent k e = record { suits = omega arith; unpaid = λ _. (k, e) }

      twice : (tag : ℕ) → is_open_lem p tag ≡ true → Drawn b TagOpen
      twice tag _ = other (omega arith) (λ z. omega arith)

      every : (d : Reading) → All (λ c. c.0 ≡ true → Drawn b c.1) (take_checks p room s d)
          → (r : Refusal) → first_of_checks (take_checks p room s d) ≡ some r → Drawn b r
      every d = hit (Drawn b) (take_checks p room s d)

      by : (d : Reading) → ByType b d → (r : Refusal) → first_of_checks (take_checks p room s d) ≡ some r → Drawn b r
      by (Err r) k = every (Err r) (small, (shut, ((λ _. other (rw k.hangs k.small) k.not_credit), tt)))
      by (Ok (Cmd c)) k =
          every (Ok (Cmd c))
          (small, (shut, (spent k, (twice c.request.tag, ((λ _. other k (λ z. omega arith)), tt)))))
      by (Ok (TskMgmt c)) k = every (Ok (TskMgmt c)) (small, (shut, (spent k, (twice c.request.tag, tt))))
      by (Ok (CredRsp g)) k = every (Ok (CredRsp g)) (small, (shut, ((λ _. other (omega arith) (λ z. omega arith)), tt)))
      by (Ok ILogout) k = every (Ok ILogout) (small, (shut, tt))

  -- what a command has that draws none
  pub record Passed (c : Command) : Type 0 where
    pub credit : eqb p.announced 0 ≡ false
    pub fresh : is_open_lem p c.request.tag ≡ false
    pub fields : waits c ≡ false → fields_fit (given_in c s) no_tables ≡ true

  pub passed : (c : Command) → first_of_checks (take_checks p room s (Ok (Cmd c))) ≡ none → Passed c
  passed c z =
      let q = passes (take_checks p room s (Ok (Cmd c))) z in
      record { credit = q.1.1.0; fresh = q.1.1.1.0; fields = fits (waits c) (fields_fit (given_in c s) no_tables) q.1.1.1.1.0 }
    where
      fits : (a b : Bool) → (not a && not b) ≡ false → a ≡ false → b ≡ true
      fits true b e f = absurd (true≢false f)
      fits false b e f = not-false b e

  -- ── the one list

  -- checks of reading stand before those of what was read
  reading_first : (cs : List Check) (d : Reading) → first_of_checks (later_checks p s (unless_bad (first_of_checks cs) d)) ≡ first_of_checks (cs ++ later_checks p s d)
  reading_first [] d = refl
  reading_first (c ∷ cs) d = go c.0 (reading_first cs d)
    where
      go : (b : Bool) → first_of_checks (later_checks p s (unless_bad (first_of_checks cs) d)) ≡ first_of_checks (cs ++ later_checks p s d)
          → first_of_checks (later_checks p s (unless_bad (cond b (some c.1) (first_of_checks cs)) d)) ≡ cond b (some c.1) (first_of_checks (cs ++ later_checks p s d))
      go true ih = refl
      go false ih = ih

  -- a message of its type's length, or not
  sized_first : (n : ℕ) (d : Reading) → first_of_checks (later_checks p s (sized n s d)) ≡ cond (not (eqb (length s) n)) (some Length) (first_of_checks (later_checks p s d))
  sized_first n d = go (eqb (length s) n)
    where
      go : (b : Bool) → first_of_checks (later_checks p s (cond b d (Err Length))) ≡ cond (not b) (some Length) (first_of_checks (later_checks p s d))
      go true = refl
      go false = refl

  -- checks 1, 21 and 3, which stand before the type is looked at
  before : Option Refusal → Option Refusal
  before v =
      cond (ltb room 132) (some ShortBuffer)
      (cond (not p.live) (some Closed) (cond (ltb (length s) 16) (some Length) (cond (ltb p.terms.agreed (length s)) (some Length) v)))

  SameAt : ℕ → Type 0
  SameAt k = first_of_checks (order_of k p room s) ≡ before (first_of_checks (later_checks p s (by_type k p.terms.formats s)))

  same_at : (k : ℕ) → SameAt k
  unfolding SameAt before
  same_at k =
      by (eqb k 0x02) refl (λ e. subst SameAt (sym (eqb-true k 0x02 e)) (ap before (sym (reading_first (command_checks p.terms.formats s) (Ok (Cmd (command_of_lem s))))))) λ e₂.
      by (eqb k 0x01) refl (λ e. subst SameAt (sym (eqb-true k 0x01 e)) (ap before (sym (sized_first 48 (Ok (TskMgmt (task_of s))))))) λ e₁.
      by (eqb k 0x03) refl (λ e. subst SameAt (sym (eqb-true k 0x03 e)) (ap before (sym (sized_first 16 (Ok ILogout))))) λ e₃.
      by (eqb k 0x41) refl (λ e. subst SameAt (sym (eqb-true k 0x41 e)) (ap before (sym (sized_first 16 (Ok (CredRsp (get tag s))))))) λ e₄.
      rw (e₂, e₁, e₃, e₄)
    where
      by : (b : Bool) {c : Bool} → c ≡ b → (c ≡ true → SameAt k) → (c ≡ false → SameAt k) → SameAt k
      by true e f g = f e
      by false e f g = g e

  -- take's checks are document 01's, in its order
  pub take_order_lem : first_of_checks (take_order p room s) ≡ first_of_checks (take_checks p room s (read_message_lem p.terms.agreed p.terms.formats s))
  unfolding read_message_lem SameAt before
  take_order_lem =
      same_at (type_of s)
      ∙ ap (λ (v : Option Refusal). cond (ltb room 132) (some ShortBuffer) (cond (not p.live) (some Closed) v))
      (sym (reading_first (length_checks p.terms.agreed s) (by_type (type_of s) p.terms.formats s)))

  -- demand 1: take draws the refusal that document 01 names, and no other
  pub take_refused : (f : Refusal) → ((take_def p room s).reply ≡ Err f) ↔ (first_of_checks (take_order p room s) ≡ some f)
  take_refused f = read_iff (read_message_lem p.terms.agreed p.terms.formats s) (first_of_checks (take_order p room s)) (sym take_order_lem) f

-- ── tables

module _ (p : Port) (tag : ℕ) where
  -- a refusal is what the reply says, whether the command is answered or not
  pub tables_as : (r : Refusal) → (tables_refused (conduct_of r) p tag r).reply ≡ Err r
  tables_as r = go (conduct_of r)
    where
      go : (c : Conduct) → (tables_refused c p tag r).reply ≡ Err r
      go (hangs_up reason) = refl
      go answered = refl
      go stays = refl
      go alters_nothing = refl

  pub tables_iff : (t : Tables) (v k : Option Refusal) → v ≡ k → (f : Refusal) → ((tables_by v p tag t).reply ≡ Err f) ↔ (k ≡ some f)
  tables_iff t none k e f = ((λ g. absurd (unrefused _ f refl g)), λ g. absurd (none-ne-some f (e ∙ g)))
  tables_iff t (some r) k e f = ((λ g. sym e ∙ (let q : r ≡ f = cc (tables_as r) in ap some q)), λ g. tables_as r ∙ ap Err (some-injective r f (e ∙ g)))

  module _ (room : ℕ) (t : Tables) where
    bad_open : (c : Option Open) → bad_tables (awaited_by c) t ≡ true → is_some c ≡ true
    bad_open none e = absurd (true≢false (sym e))
    bad_open (some c) e = refl

    -- only a command that is open is answered
    pub answered_open : (r : Refusal) → first_of_checks (tables_checks p room tag t) ≡ some r → conduct_of r ≡ answered → is_open_lem p tag ≡ true
    answered_open =
        hit (λ r. conduct_of r ≡ answered → is_open_lem p tag ≡ true) (tables_checks p room tag t)
        ((λ _ e. let z : ◌≡◌ {A = ℕ} 0 1 = cc in absurd (omega arith)), ((λ _ e. let z : ◌≡◌ {A = ℕ} 0 1 = cc in absurd (omega arith)), ((λ _ e. let z : ◌≡◌ {A = ℕ} 0 1 = cc in absurd (omega arith)), ((λ _ e. let z : ◌≡◌ {A = ℕ} 0 1 = cc in absurd (omega arith)), ((λ _ e. let z : ◌≡◌ {A = ℕ} 0 1 = cc in absurd (omega arith)), ((λ b _. bad_open (find (has_tag tag) p.held) b), tt))))))
