-- A message that was written by its layout prints the values that were written.
-- Assumes nothing.
use mathlib.Core.Path.{◌≡◌, refl, sym, ap, subst, ◌∙◌}
use mathlib.Core.Bool.{Bool, true, false, cond}
use mathlib.Core.List.{List, [], ◌∷◌, ◌++◌}
use Prim.Native.Nat.{ℕ, ◌+◌, ◌≤◌}
use native.Mathlib.Omega.{arith}
use borrow.Author.Tests.{eq-eqb, le-ltb}
use lib.ListN.{length, drop, length-append}
use lib.Seq.{drop_at}
use Rattle.std.specs.Prelude.{Option, Some, None}
use Rattle.srp.specs.Bytes.{bytes, get, gets, type_of, write}
use Rattle.srp.specs.Messages.{tag, lun, delta, reason, out_format, in_format, rspvalid, snsvalid, sense_length, login_req, tsk_mgmt, i_logout, cred_rsp, login_rsp, login_rej, rsp, cred_req, t_logout}
use Rattle.srp.specs.ReadBack.{Written}
use Rattle.srp.specs.Requests.{flag, exact_length}
use Rattle.srp.specs.Initiator.{Buffer, no_data, direct, indirect, format_of, CommandFields, Reads}
use Rattle.srp.proofs.Layouts.{written}
use Rattle.srp.proofs.Commands.{get_behind, command_read}
use Rattle.page.specs.Types.{type_named_lem, response_size, strange_format, fits, name_of}
use Rattle.page.specs.Page.{rsp_code, tagged, line_of, line_text, trace_line}
use Rattle.page.specs.Written.{Shows, Follow, PrintsWritten}
use Rattle.page.specs.declared.Way.{Way}
use Rattle.page.specs.declared.Name.{Name}
use Rattle.page.specs.declared.Name.TheVariants.{LoginReq, TskMgmt, Cmd, ILogout, CredRsp, LoginRsp, LoginRej, Rsp, CredReq, TLogout, Unknown}

-- ── its type

-- each code names its type
code_names :
    (type_named_lem 0x00 ≡ LoginReq)
    × (type_named_lem 0x01 ≡ TskMgmt)
    × (type_named_lem 0x02 ≡ Cmd)
    × (type_named_lem 0x03 ≡ ILogout)
    × (type_named_lem 0x41 ≡ CredRsp)
    × (type_named_lem 0xc0 ≡ LoginRsp)
    × (type_named_lem 0xc2 ≡ LoginRej)
    × (type_named_lem 0xc1 ≡ Rsp)
    × (type_named_lem 0x81 ≡ CredReq)
    × (type_named_lem 0x80 ≡ TLogout)
unfolding type_named_lem
code_names = (refl, refl, refl, refl, refl, refl, refl, refl, refl, refl)

module _ (w : Way) (s : List ℕ) where
  -- a message of the code k, which names m, and of m's length
  shown : (m : Name) {k : ℕ} → type_of s ≡ k → type_named_lem k ≡ m → fits m (length s) s ≡ true → trace_line w s ≡ line_text (line_of w m (length s) s)
  shown m code named fit =
      let name : name_of (length s) s ≡ m =
      ap (λ (x : ℕ). cond (fits (type_named_lem x) (length s) s) (type_named_lem x) Unknown) code
      ∙ ap (λ (x : Name). cond (fits x (length s) s) x Unknown) named
      ∙ ap (λ (b : Bool). cond b m Unknown) fit in
      ap (λ (x : Name). line_text (line_of w x (length s) s)) name

  -- ── its fields

  -- with the tag t
  tag_is : (m : Name) (t : ℕ) → get tag s ≡ t → (l d c : Option ℕ) → line_text (tagged w m s l d c) ≡ line_text (record { way = w; name = m; tag = Some t; lun = l; number = d; code = c })
  tag_is m t e l d c = ap (λ (x : ℕ). line_text (record { way = w; name = m; tag = Some x; lun = l; number = d; code = c })) e

  -- ── each type

  login_request : (t n f c l a i g : ℕ) → Written login_req (t ∷ n ∷ f ∷ c ∷ l ∷ a ∷ i ∷ g ∷ []) → s ≡ write login_req (t ∷ n ∷ f ∷ c ∷ l ∷ a ∷ i ∷ g ∷ [])
      → Shows w s LoginReq t None None None
  login_request t n f c l a i g W e =
      let v : gets login_req.fields s ≡ t ∷ n ∷ f ∷ c ∷ l ∷ a ∷ i ∷ g ∷ [] = ap (gets login_req.fields) e ∙ W.values in
      let at : get tag s ≡ t = cc v in
      shown LoginReq (ap type_of e ∙ W.code) code_names.0 (eq-eqb (length s) 64 (ap (length {A = ℕ}) e ∙ W.long)) ∙ tag_is LoginReq t at None None None

  task : (u c t l f k : ℕ) → Written tsk_mgmt (u ∷ c ∷ t ∷ l ∷ f ∷ k ∷ []) → s ≡ write tsk_mgmt (u ∷ c ∷ t ∷ l ∷ f ∷ k ∷ []) → Shows w s TskMgmt t (Some l) None None
  task u c t l f k W e =
      let v : gets tsk_mgmt.fields s ≡ u ∷ c ∷ t ∷ l ∷ f ∷ k ∷ [] = ap (gets tsk_mgmt.fields) e ∙ W.values in
      let at : get tag s ≡ t = cc v in
      let of : get lun s ≡ l = cc v in
      shown TskMgmt (ap type_of e ∙ W.code) code_names.1 (eq-eqb (length s) 48 (ap (length {A = ℕ}) e ∙ W.long))
      ∙ tag_is TskMgmt t at (Some (get lun s)) None None
      ∙ ap (λ (x : ℕ). line_text (record { way = w; name = TskMgmt; tag = Some t; lun = Some x; number = None; code = None })) of

  -- SRP_I_LOGOUT and SRP_CRED_RSP: a tag
  initiator_logout : (t : ℕ) → Written i_logout (t ∷ []) → s ≡ write i_logout (t ∷ []) → Shows w s ILogout t None None None
  initiator_logout t W e =
      let at : get tag s ≡ t = cc (ap (gets i_logout.fields) e ∙ W.values) in
      shown ILogout (ap type_of e ∙ W.code) code_names.3 (eq-eqb (length s) 16 (ap (length {A = ℕ}) e ∙ W.long)) ∙ tag_is ILogout t at None None None

  credit_response : (t : ℕ) → Written cred_rsp (t ∷ []) → s ≡ write cred_rsp (t ∷ []) → Shows w s CredRsp t None None None
  credit_response t W e =
      let at : get tag s ≡ t = cc (ap (gets cred_rsp.fields) e ∙ W.values) in
      shown CredRsp (ap type_of e ∙ W.code) code_names.4 (eq-eqb (length s) 16 (ap (length {A = ℕ}) e ∙ W.long)) ∙ tag_is CredRsp t at None None None

  -- a delta, or a reason, at the same place
  with_delta : (m : Name) (t d : ℕ) → get delta s ≡ d → line_text (record { way = w; name = m; tag = Some t; lun = None; number = Some (get delta s); code = None }) ≡ line_text (record { way = w; name = m; tag = Some t; lun = None; number = Some d; code = None })
  with_delta m t d e = ap (λ (x : ℕ). line_text (record { way = w; name = m; tag = Some t; lun = None; number = Some x; code = None })) e

  with_reason : (m : Name) (t r : ℕ) → get reason s ≡ r → line_text (record { way = w; name = m; tag = Some t; lun = None; number = None; code = Some (get reason s) }) ≡ line_text (record { way = w; name = m; tag = Some t; lun = None; number = None; code = Some r })
  with_reason m t r e = ap (λ (x : ℕ). line_text (record { way = w; name = m; tag = Some t; lun = None; number = None; code = Some x })) e

  login_response_lem : (d t a b f k : ℕ) → Written login_rsp (d ∷ t ∷ a ∷ b ∷ f ∷ k ∷ []) → s ≡ write login_rsp (d ∷ t ∷ a ∷ b ∷ f ∷ k ∷ []) → Shows w s LoginRsp t None (Some d) None
  login_response_lem d t a b f k W e =
      let v : gets login_rsp.fields s ≡ d ∷ t ∷ a ∷ b ∷ f ∷ k ∷ [] = ap (gets login_rsp.fields) e ∙ W.values in
      let at : get tag s ≡ t = cc v in
      let of : get delta s ≡ d = cc v in
      shown LoginRsp (ap type_of e ∙ W.code) code_names.5 (eq-eqb (length s) 52 (ap (length {A = ℕ}) e ∙ W.long))
      ∙ tag_is LoginRsp t at None (Some (get delta s)) None
      ∙ with_delta LoginRsp t d of

  login_rejection : (r t f : ℕ) → Written login_rej (r ∷ t ∷ f ∷ []) → s ≡ write login_rej (r ∷ t ∷ f ∷ []) → Shows w s LoginRej t None None (Some r)
  login_rejection r t f W e =
      let v : gets login_rej.fields s ≡ r ∷ t ∷ f ∷ [] = ap (gets login_rej.fields) e ∙ W.values in
      let at : get tag s ≡ t = cc v in
      let of : get reason s ≡ r = cc v in
      shown LoginRej (ap type_of e ∙ W.code) code_names.6 (eq-eqb (length s) 32 (ap (length {A = ℕ}) e ∙ W.long))
      ∙ tag_is LoginRej t at None None (Some (get reason s))
      ∙ with_reason LoginRej t r of

  credit_request_lem : (o d t : ℕ) → Written cred_req (o ∷ d ∷ t ∷ []) → s ≡ write cred_req (o ∷ d ∷ t ∷ []) → Shows w s CredReq t None (Some d) None
  credit_request_lem o d t W e =
      let v : gets cred_req.fields s ≡ o ∷ d ∷ t ∷ [] = ap (gets cred_req.fields) e ∙ W.values in
      let at : get tag s ≡ t = cc v in
      let of : get delta s ≡ d = cc v in
      shown CredReq (ap type_of e ∙ W.code) code_names.8 (eq-eqb (length s) 16 (ap (length {A = ℕ}) e ∙ W.long))
      ∙ tag_is CredReq t at None (Some (get delta s)) None
      ∙ with_delta CredReq t d of

  target_logout_lem : (o r t : ℕ) → Written t_logout (o ∷ r ∷ t ∷ []) → s ≡ write t_logout (o ∷ r ∷ t ∷ []) → Shows w s TLogout t None None (Some r)
  target_logout_lem o r t W e =
      let v : gets t_logout.fields s ≡ o ∷ r ∷ t ∷ [] = ap (gets t_logout.fields) e ∙ W.values in
      let at : get tag s ≡ t = cc v in
      let of : get reason s ≡ r = cc v in
      shown TLogout (ap type_of e ∙ W.code) code_names.9 (eq-eqb (length s) 16 (ap (length {A = ℕ}) e ∙ W.long))
      ∙ tag_is TLogout t at None None (Some (get reason s))
      ∙ with_reason TLogout t r of

-- ── a command

low_format : (b : Buffer) → format_of b ≤ 2
low_format no_data = omega arith
low_format (direct a h n) = omega arith
low_format (indirect a h n t c) = omega arith

command : (w : Way) (s : List ℕ) (c : CommandFields) → Reads c s → Shows w s Cmd c.request.tag (Some c.request.lun) None None
command w s c R =
    let at : get tag s ≡ c.request.tag = cc R.fields in
    let of : get lun s ≡ c.request.lun = cc R.fields in
    let out : get out_format s ≡ format_of c.out = cc R.fields in
    let inn : get in_format s ≡ format_of c.inn = cc R.fields in
    let known : strange_format s ≡ false = rw (out, inn, le-ltb 2 (format_of c.out) (low_format c.out), le-ltb 2 (format_of c.inn) (low_format c.inn)) in
    let fit : fits Cmd (length s) s ≡ true = rw (eq-eqb (length s) (exact_length s) R.long, known) in
    shown w s Cmd R.code code_names.2 fit
    ∙ tag_is w s Cmd c.request.tag at (Some (get lun s)) None None
    ∙ ap (λ (x : ℕ). line_text (record { way = w; name = Cmd; tag = Some c.request.tag; lun = Some x; number = None; code = None })) of

-- ── a response

response : (w : Way) (s : List ℕ) (o d t v n a b x y z p q sense k : ℕ) (rest : List ℕ)
    → Written rsp (o ∷ d ∷ t ∷ v ∷ n ∷ a ∷ b ∷ x ∷ y ∷ z ∷ p ∷ q ∷ sense ∷ k ∷ [])
    → Follow v n sense rest
    → s ≡ write rsp (o ∷ d ∷ t ∷ v ∷ n ∷ a ∷ b ∷ x ∷ y ∷ z ∷ p ∷ q ∷ sense ∷ k ∷ []) ++ rest
    → Shows w s Rsp t None (Some d) (cond (flag v) (Some (get (bytes 3 1) rest)) None)
response w s o d t v n a b x y z p q sense k rest W F e =
    let vs : gets rsp.fields s ≡ o ∷ d ∷ t ∷ v ∷ n ∷ a ∷ b ∷ x ∷ y ∷ z ∷ p ∷ q ∷ sense ∷ k ∷ [] = ap (gets rsp.fields) e ∙ W.values_before rest in
    let at : get tag s ≡ t = cc vs in
    let of : get delta s ≡ d = cc vs in
    let valid : get rspvalid s ≡ v = cc vs in
    let sensed : get snsvalid s ≡ n = cc vs in
    let long : get sense_length s ≡ sense = cc vs in
    let size : response_size s ≡ 36 + cond (flag v) 4 0 + cond (flag n) sense 0 = rw (valid, sensed, long) in
    let fixed : length (write rsp (o ∷ d ∷ t ∷ v ∷ n ∷ a ∷ b ∷ x ∷ y ∷ z ∷ p ∷ q ∷ sense ∷ k ∷ [])) ≡ 36 = W.long in
    let all : length s ≡ 36 + length rest = ap (length {A = ℕ}) e ∙ length-append (write rsp (o ∷ d ∷ t ∷ v ∷ n ∷ a ∷ b ∷ x ∷ y ∷ z ∷ p ∷ q ∷ sense ∷ k ∷ [])) rest ∙ ap (λ (m : ℕ). m + length rest) fixed in
    let whole : length s ≡ response_size s = omega (arith, all, F, size) in
    let code : get rsp_code s ≡ get (bytes 3 1) rest =
    get_behind (bytes 3 1) 36 s ∙ ap (λ (l : List ℕ). get (bytes 3 1) (drop 36 l)) e
    ∙ ap (get (bytes 3 1)) (drop_at (write rsp (o ∷ d ∷ t ∷ v ∷ n ∷ a ∷ b ∷ x ∷ y ∷ z ∷ p ∷ q ∷ sense ∷ k ∷ [])) rest 36 fixed) in
    shown w s Rsp (ap type_of e ∙ W.code_before rest) code_names.7 (eq-eqb (length s) (response_size s) whole)
    ∙ tag_is w s Rsp t at None (Some (get delta s)) (cond (flag (get rspvalid s)) (Some (get rsp_code s)) None)
    ∙ ap (λ (m : ℕ). line_text (record { way = w; name = Rsp; tag = Some t; lun = None; number = Some m; code = cond (flag (get rspvalid s)) (Some (get rsp_code s)) None })) of
    ∙ ap (λ (m : ℕ). line_text (record { way = w; name = Rsp; tag = Some t; lun = None; number = Some d; code = cond (flag m) (Some (get rsp_code s)) None })) valid
    ∙ ap (λ (m : ℕ). line_text (record { way = w; name = Rsp; tag = Some t; lun = None; number = Some d; code = cond (flag v) (Some m) None })) code

-- ── all of them

pub prints_written : (w : Way) (s : List ℕ) → PrintsWritten w s
prints_written w s =
    record {
      login_request = λ t n f c l a i g r e. login_request w s t n f c l a i g (written login_req refl _ r) e;
      task = λ u c t l f k r e. task w s u c t l f k (written tsk_mgmt refl _ r) e;
      command = λ c r l fo fi e. command w s c (subst (Reads c) (sym e) (command_read c r l fo fi));
      initiator_logout = λ t r e. initiator_logout w s t (written i_logout refl _ r) e;
      credit_response = λ t r e. credit_response w s t (written cred_rsp refl _ r) e;
      login_response_lem = λ d t a b f k r e. login_response_lem w s d t a b f k (written login_rsp refl _ r) e;
      login_rejection = λ r t f h e. login_rejection w s r t f (written login_rej refl _ h) e;
      response = λ o d t v n a b x y z p q sense k rest r F e. response w s o d t v n a b x y z p q sense k rest (written rsp refl _ r) F e;
      credit_request_lem = λ o d t r e. credit_request_lem w s o d t (written cred_req refl _ r) e;
      target_logout_lem = λ o r t h e. target_logout_lem w s o r t (written t_logout refl _ h) e;
    }
