-- `login::login` meets its contract.
use mathlib.Core.Path.{◌≡◌, refl, sym, ◌∙◌}
use mathlib.Core.Option.{none}
use lib.ListN.{length}
use borrow.Author.Tests.{eq-eqb, le-ltb}
use Rattle.srp.specs.Limits.{buffer_size}
use Rattle.srp.specs.Bytes.{type_of}
use Rattle.srp.specs.Messages.{login_req}
use Rattle.srp.specs.Refusals.{first_of_checks}
use Rattle.srp.specs.Login.{login_checks}
use Rattle.login.proofs.login.Goals as goal

pub returns : goal.returns
returns c =
    let a = c.args in
    let n = length a.buf.now in
    let e : first_of_checks (login_checks a.c n a.msg.now) ≡ none =
    rw
    (le-ltb n buffer_size c.if-buf.false, sym c.bad_settings.ensures ∙ c.if-bad_settings.false, eq-eqb (length a.msg.now) login_req.size c.if-msg-ne-LOGIN_REQ_SIZE.false, eq-eqb (type_of a.msg.now) login_req.code (sym c.read8.ensures ∙ c.if-read8-ne-LOGIN_REQ.false))
    refl in
    λ st. rw e (c.answer_login.ensures st)
