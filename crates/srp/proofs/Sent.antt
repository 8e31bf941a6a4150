-- Demand 2, "what the port writes follows them too": every message that a call writes is one of five kinds, with values in the ranges of its
-- layout's fields, so that it reads back as those values, and none is longer than 132 bytes.
-- Assumes nothing.
use mathlib.Core.Path.{◌≡◌, refl, sym, ap, ◌∙◌}
use mathlib.Core.Logic.{◌⊎◌, inl, inr, ⊎_elim}
use mathlib.Core.Bool.{Bool, true, false, cond, not, ◌&&◌, ◌||◌, true≢false}
use mathlib.Core.List.{List, [], ◌∷◌, ◌++◌, append-nil, Memᴰ}
use mathlib.Core.Option.{Option, none, some}
use Prim.Native.Nat.{ℕ, ◌+◌, ◌-◌, ◌^◌, ◌≤◌, ◌<◌}
use native.Mathlib.Omega.{arith}
use lib.Dec.{ltb, eqb}
use lib.ListN.{length, drop, length-append}
use lib.Seq.{take_all}
use borrow.Author.Tests.{ltb-false}
use Rattle.srp.specs.Bytes.{bit, get, gets, Layout, type_of, write, InRange, inside}
use Rattle.srp.specs.Messages.{tag, requested_length, rsp, cred_req, t_logout, login_rsp, login_rej, port_layouts, response_length, sense_length}
use Rattle.srp.specs.Lists.{find, without, is_some, All}
use Rattle.srp.specs.Limits.{buffer_size}
use Rattle.srp.specs.Refusals.{Conduct, hangs_up, answered, stays, alters_nothing, conduct_of, first_of_checks}
use Rattle.srp.specs.Requests.{Reading, is_request, read_message_lem}
use Rattle.srp.specs.Credit.{Side, Open, Port, due, with_held, has_tag}
use Rattle.srp.specs.declared.Residual.{Residual}
use Rattle.srp.specs.declared.Residual.TheVariants.{Even, Over, Under}
use Rattle.srp.specs.Writing.{residual_of, amount, is_over, is_under_lem, Response, response_bytes_lem, response_values, response, answer, target_logout, solicited}
use Rattle.srp.specs.Take.{Outcome, is_open_lem, Tables, aborted, whole_lun_lem, task_code, request_in, conducted, take_checks, take_by, take_def}
use Rattle.srp.specs.Tables.{tables_checks, bad_response, tables_refused, tables_by, tables_def}
use Rattle.srp.specs.Calls.{unless, final_response, finish_checks, finish_def, grant_checks, grant_def, close_def, close_checks}
use Rattle.srp.specs.Login.{bad_settings_lem, login_checks, supported, rejections, judged, login_by, login_def}
use Rattle.srp.specs.declared.Settings.{Settings}
use Rattle.srp.specs.declared.Refusal.{Refusal}
use Rattle.srp.specs.declared.Message.TheVariants.{Cmd, TskMgmt, CredRsp, ILogout}
use Rattle.std.specs.declared.result.Result.TheVariants.{Ok, Err}
use Rattle.srp.specs.Bytes.{Bytes}
use Rattle.srp.proofs.FieldLaws.{get_below, get_append}
use Rattle.srp.specs.ReadBack.{Written}
use Rattle.srp.specs.Sent.{Responds, Follows, Code, Behind, Sent, a_response, credit_request_lem, target_logout_lem, login_response_lem, login_rejection, Writes}
use Rattle.srp.proofs.Layouts.{fine, written}
use Rattle.srp.proofs.Commands.{there, beyond}
use Rattle.srp.proofs.ListLaws.{all_find}
use Rattle.srp.proofs.Checks.{passes, hit, both_false}
use Rattle.srp.proofs.Reading.{ByType, read_has, read_by_type}
use Rattle.srp.proofs.Refusing.{answered_open, Suits, drawn}
use Rattle.srp.proofs.Ranges.{reached}
use Rattle.srp.specs.Ranges.{SideRanges, OpenRanges, Reached}

-- ── a response is read back

-- the fixed part w read, the rest is
responds : (r : Response) (w s : List ℕ) → s ≡ w ++ (response_bytes_lem r.code ++ r.sense) → length w ≡ 36 → type_of s ≡ rsp.code → gets rsp.fields s ≡ response_values r
    → Responds r s
responds r w s e l k v =
    let b : List ℕ = response_bytes_lem r.code in
    let lr : get response_length s ≡ length b = cc in
    let ls : get sense_length s ≡ length r.sense = cc in
    let d : drop 36 s ≡ b ++ r.sense = beyond s w (b ++ r.sense) 0 36 e l in
    record {
      code = k;
      fields = v;
      long = ap length e ∙ simp length-append (omega arith);
      bytes = rw lr (there s b r.sense 36 (length b) d refl);
      sense = rw (lr, ls, beyond s b r.sense 36 (length b) d refl) (take_all (length r.sense) r.sense (omega arith));
    }

-- a response is read back as it was written: its fields, its response bytes and its sense
pub response_read : (r : Response) → InRange rsp.fields (response_values r) → Responds r (response r)
response_read r h =
    let rest : List ℕ = response_bytes_lem r.code ++ r.sense in
    let m : Written rsp (response_values r) = written rsp refl (response_values r) h in
    responds r (write rsp (response_values r)) (response r) refl m.long (m.code_before rest) (m.values_before rest)

-- ── the length of a message

few : (o : Option ℕ) (sense : List ℕ) → Behind o sense → length (response_bytes_lem o) + length sense ≤ 96
few none sense h = omega (arith, h)
few (some code) sense h = omega (arith, ap length h.1)

-- a message that the port writes fits into the lent buffer
pub sent_fits : {s : List ℕ} → Sent s → length s ≤ buffer_size
sent_fits (a_response r h b) = simp length-append (omega (arith, (written rsp refl (response_values r) h).long, few r.code r.sense b))
sent_fits (credit_request_lem vs h) = omega (arith, (written cred_req refl vs h).long)
sent_fits (target_logout_lem vs h) = omega (arith, (written t_logout refl vs h).long)
sent_fits (login_response_lem vs h) = omega (arith, (written login_rsp refl vs h).long)
sent_fits (login_rejection vs h) = omega (arith, (written login_rej refl vs h).long)

-- ── a message that the port writes follows its layout

-- whatever stands behind the fixed part
follows : (l : Layout) → fine l ≡ true → Memᴰ l port_layouts → (vs : List ℕ) → InRange l.fields vs → (s rest : List ℕ) → s ≡ write l vs ++ rest
    → (type_of s ≡ rsp.code) ⊎ (rest ≡ []) → (type_of s ≡ rsp.code → (r : Response) × Responds r s) → length s ≤ buffer_size → Follows s
follows l ok m vs r s rest e alone responds fits =
    let w : Written l vs = written l ok vs r in
    record {
      layout = l;
      among = m;
      values = vs;
      ranged = r;
      behind = rest;
      alone = alone;
      written = e;
      code = ap type_of e ∙ w.code_before rest;
      fields = ap (gets l.fields) e ∙ w.values_before rest;
      responds = responds;
      elsewhere = λ g i a. ap (get g) e ∙ get_append g (write l vs) rest (ap (λ (k : ℕ). inside k g) w.long ∙ i) ∙ w.zero_elsewhere g a;
      fits = fits;
    }

-- nothing stands behind it, and its type is another than SRP_RSP's
follows_alone : (l : Layout) → fine l ≡ true → Memᴰ l port_layouts → (l.code ≡ rsp.code → ⊥) → (vs : List ℕ) → InRange l.fields vs
    → length (write l vs) ≤ buffer_size → Follows (write l vs)
follows_alone l ok m other vs r fits =
    follows l ok m vs r (write l vs) [] (sym (append-nil (write l vs))) (inr refl) (λ k. absurd (other (sym (written l ok vs r).code ∙ k))) fits

-- every message of the five kinds
pub sent_follows : {s : List ℕ} → Sent s → Follows s
sent_follows (a_response r h b) =
    let a : Responds r (response r) = response_read r h in
    follows rsp refl (Memᴰ.tail (Memᴰ.tail (Memᴰ.head refl))) (response_values r) h (response r) (response_bytes_lem r.code ++ r.sense) refl
    (inl a.code) (λ _. (r, a)) (sent_fits (a_response r h b))
sent_follows (credit_request_lem vs h) =
    follows_alone cred_req refl (Memᴰ.tail (Memᴰ.tail (Memᴰ.tail (Memᴰ.head refl)))) (λ z. omega arith) vs h (sent_fits (credit_request_lem vs h))
sent_follows (target_logout_lem vs h) =
    follows_alone t_logout refl (Memᴰ.tail (Memᴰ.tail (Memᴰ.tail (Memᴰ.tail (Memᴰ.head refl))))) (λ z. omega arith) vs h (sent_fits (target_logout_lem vs h))
sent_follows (login_response_lem vs h) = follows_alone login_rsp refl (Memᴰ.head refl) (λ z. omega arith) vs h (sent_fits (login_response_lem vs h))
sent_follows (login_rejection vs h) = follows_alone login_rej refl (Memᴰ.tail (Memᴰ.head refl)) (λ z. omega arith) vs h (sent_fits (login_rejection vs h))

-- ── the values of each kind are in range

one_bit : (b : Bool) → bit b < 2
one_bit true = omega arith
one_bit false = omega arith

abbrev saying : Bool → ℕ → ℕ → ℕ → Residual → Residual → Option ℕ → List ℕ → Response
saying u d t s o i c l = record { solnt = u; delta = d; tag = t; status = s; out = o; inn = i; code = c; sense = l }

response_sent : (u : Bool) (delta tag status : ℕ) (out inn : Residual) (code : Option ℕ) (sense : List ℕ)
    → delta ≤ 16 → tag < 2 ^ 64 → status < 256 → amount out < 2 ^ 32 → amount inn < 2 ^ 32 → Behind code sense
    → Sent (response (saying u delta tag status out inn code sense))
response_sent u delta tag status out inn code sense d t s o i b =
    a_response (saying u delta tag status out inn code sense)
    (omega (arith, few code sense b, one_bit u, one_bit (is_some code), one_bit (not (eqb (length sense) 0)), one_bit (is_over out), one_bit (is_under_lem out), one_bit (is_over inn), one_bit (is_under_lem inn)))
    b

answer_sent : (u : Bool) (tag code delta : ℕ) → delta ≤ 16 → tag < 2 ^ 64 → Code code → Sent (answer u tag code delta)
answer_sent u tag code delta d t c = response_sent u delta tag 0 Even Even (some code) [] d t (omega arith) (omega arith) (omega arith) (c, refl)

logout_sent : (b : Bool) (reason : ℕ) → reason < 2 ^ 32 → Sent (target_logout b reason)
logout_sent b reason h = target_logout_lem (bit b ∷ reason ∷ 0 ∷ []) (omega (arith, one_bit b))

residual_small : (s : Side) → SideRanges s → amount (residual_of s) < 2 ^ 32
residual_small s r = go (ltb B s.transfer.required) (ltb s.transfer.highest B)
  where
    B : ℕ
    B = s.extent.total

    go : (a b : Bool) → amount (cond a (Over (s.transfer.required - B)) (cond b (Under (B - s.transfer.highest)) Even)) < 2 ^ 32
    go true b = omega (arith, r.required)
    go false true = omega (arith, r.extent.small)
    go false false = omega arith

-- ── the calls

task_code_lem : (function : ℕ) → Code (task_code function)
task_code_lem function = go (eqb function 1 || whole_lun_lem function) (eqb function 0x40)
  where
    go : (a b : Bool) → Code (cond a 0 (cond b 4 2))
    go true b = inl refl
    go false true = inr (inr refl)
    go false false = inr (inl refl)

-- a port whose W and open commands are in range
module _ (p : Port) (w : p.wanted ≤ 16) (o : All OpenRanges p.held) where
  due_small : (a : ℕ) (cs : List Open) → due (with_held p a cs) ≤ 16
  due_small a cs = omega arith

  take_sent : (room : ℕ) (s : List ℕ) → Bytes s → All Sent (take_def p room s).wrote
  take_sent room s b =
      go (read_message_lem p.terms.agreed p.terms.formats s) (read_by_type p.terms.agreed p.terms.formats s)
      (read_has (λ m. (request_in m).tag < 2 ^ 64) (λ r. omega arith) s small small (omega arith) (omega arith) p.terms.agreed p.terms.formats)
    where
      small : get tag s < 2 ^ 64
      small = get_below tag s b

      by : (c : Conduct) → Suits p room s (is_request s) c → (m : Reading) (r : Refusal) → (request_in m).tag < 2 ^ 64 → All Sent (conducted c p m r).wrote
      by (hangs_up reason) y m r k = (logout_sent p.terms.losolnt reason y, tt)
      by answered y m r k = (answer_sent (request_in m).ucsolnt (request_in m).tag 2 _ (due_small (p.announced - 1) p.held) k (inr (inl refl)), tt)
      by stays y m r k = tt
      by alters_nothing y m r k = tt

      end : (r : Option Refusal) (m : Reading) → ByType (is_request s) m → first_of_checks (take_checks p room s m) ≡ r → (request_in m).tag < 2 ^ 64 → All Sent (take_by r p s m).wrote
      end none (Err r) y e k = absurd (true≢false (passes (take_checks p room s (Err r)) e).1.1.0)
      end none (Ok (Cmd c)) y e k = tt
      end none (Ok (TskMgmt j)) y e k =
          let d = due_small (p.announced - 1) (without (aborted j) p.held) in
          (answer_sent (solicited j.request (task_code j.function)) j.request.tag (task_code j.function) _ d k (task_code_lem j.function), tt)
      end none (Ok (CredRsp g)) y e k = tt
      end none (Ok ILogout) y e k = tt
      end (some r) m y e k = by (conduct_of r) (drawn p room s (is_request s) m y r e).suits m r k

      go : (m : Reading) → ByType (is_request s) m → (request_in m).tag < 2 ^ 64 → All Sent (take_by (first_of_checks (take_checks p room s m)) p s m).wrote
      go m y k = end (first_of_checks (take_checks p room s m)) m y refl k

  tables_sent : (room tag : ℕ) (t : Tables) → All Sent (tables_def p room tag t).wrote
  tables_sent room tag t = go (first_of_checks (tables_checks p room tag t)) refl
    where
      answers : (x : Option Open) → find (has_tag tag) p.held ≡ x → is_some x ≡ true → Sent (bad_response x (due (with_held p p.announced (without (has_tag tag) p.held))))
      answers none f e = absurd (true≢false (sym e))
      answers (some c) f e =
          answer_sent c.request.ucsolnt c.request.tag 2 _ (due_small p.announced (without (has_tag tag) p.held))
          (all_find OpenRanges (has_tag tag) p.held c o f).tag (inr (inl refl))

      by : (c : Conduct) (r : Refusal) → (c ≡ answered → is_open_lem p tag ≡ true) → All Sent (tables_refused c p tag r).wrote
      by (hangs_up reason) r e = tt
      by answered r e = (answers (find (has_tag tag) p.held) refl (e refl), tt)
      by stays r e = tt
      by alters_nothing r e = tt

      go : (r : Option Refusal) → first_of_checks (tables_checks p room tag t) ≡ r → All Sent (tables_by r p tag t).wrote
      go none e = tt
      go (some r) e = by (conduct_of r) r (answered_open p tag room t r e)

  unless_sent : (r : Option Refusal) (x : Outcome) → (r ≡ none → All Sent x.wrote) → All Sent (unless r p x).wrote
  unless_sent none x f = f refl
  unless_sent (some r) x f = tt

  finish_sent : (room tag status : ℕ) (sense : List ℕ) → status < 256 → All Sent (finish_def p room tag status sense).wrote
  finish_sent room tag status sense h = unless_sent (first_of_checks (finish_checks p room tag status sense)) _ λ e.
      let q = passes (finish_checks p room tag status sense) e in
      let a = both_false (ltb 96 (length sense)) (ltb 0 (length sense) && not (eqb status 2)) q.1.1.0 in
      (go (find (has_tag tag) p.held) refl q.1.1.1.0 (ltb-false 96 (length sense) a.0), tt)
    where
      go : (x : Option Open) → find (has_tag tag) p.held ≡ x → not (is_some x) ≡ false → length sense ≤ 96
          → Sent (final_response x status sense (due (with_held p p.announced (without (has_tag tag) p.held))))
      go none f e l = absurd (true≢false e)
      go (some c) f e l =
          let k = all_find OpenRanges (has_tag tag) p.held c o f in
          response_sent (solicited c.request status) _ c.request.tag status (residual_of c.sides.out) (residual_of c.sides.inn) none sense
          (due_small p.announced (without (has_tag tag) p.held)) k.tag h (residual_small c.sides.out k.sides.0) (residual_small c.sides.inn k.sides.1) l

  grant_sent : (room : ℕ) → All Sent (grant_def p room).wrote
  grant_sent room = unless_sent (first_of_checks (grant_checks p room)) _ λ _.
      (credit_request_lem (bit p.terms.crsolnt ∷ due p ∷ 1 ∷ []) (omega (arith, one_bit p.terms.crsolnt)), tt)

  close_sent : (room reason : ℕ) → reason < 2 ^ 32 → All Sent (close_def p room reason).wrote
  close_sent room reason h = unless_sent (first_of_checks (close_checks p room)) _ λ _. (logout_sent p.terms.losolnt reason h, tt)

-- every message that a call writes on a port that a login made is of the five kinds, with values in range
pub every_write : {p : Port} → Reached p → Writes p
every_write {p} r =
    let w : p.wanted ≤ 16 = ⊎_elim (λ e. rw e (omega arith)) (λ v. v.most) (reached r) in
    let o : All OpenRanges p.held = ⊎_elim (λ e. rw e tt) (λ v. v.commands) (reached r) in
    record {
      taking = take_sent p w o;
      bringing = tables_sent p w o;
      finishing = finish_sent p w o;
      granting = grant_sent p w o;
      closing = close_sent p w o;
    }

-- and so is each that a login writes
pub login_writes : (c : Settings) (own : List ℕ) (room : ℕ) (s : List ℕ) → Bytes s → All Sent (login_def c own room s).wrote
login_writes c own room s b = go (first_of_checks (login_checks c room s)) refl
  where
    formats : (i : Bool) → cond i 6 2 < 2 ^ 16
    formats true = omega arith
    formats false = omega arith

    judge : bad_settings_lem c ≡ false → (r : Option ℕ) → first_of_checks (rejections c own s) ≡ r → All Sent (judged r c s).wrote
    judge e none q =
        let few = ltb-false 16 c.buffers (both_false (ltb 16 c.buffers) _ (both_false (eqb c.buffers 0) _ e).1).0 in (
          login_response_lem (c.buffers ∷ get tag s ∷ get requested_length s ∷ buffer_size ∷ supported c ∷ bit c.solicited ∷ [])
              (omega (arith, few, get_below tag s b, get_below requested_length s b, formats c.indirect, one_bit c.solicited)),
          tt,
        )
    judge e (some reason) q =
        let small = hit (λ n. n < 2 ^ 32) (rejections c own s)
        ((λ _. omega arith), ((λ _. omega arith), ((λ _. omega arith), ((λ _. omega arith), ((λ _. omega arith), ((λ _. omega arith), tt)))))) reason q in
        (login_rejection (reason ∷ get tag s ∷ supported c ∷ []) (omega (arith, small, get_below tag s b, formats c.indirect)), tt)

    go : (r : Option Refusal) → first_of_checks (login_checks c room s) ≡ r → All Sent (login_by r c own s).wrote
    go none e = judge (passes (login_checks c room s) e).1.0 (first_of_checks (rejections c own s)) refl
    go (some r) e = tt
