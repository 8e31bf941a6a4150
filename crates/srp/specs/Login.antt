-- Document 01, "Login", and document 02, job 6: the settings, the refusals and rejections, and the port that a login makes.
use Rattle.std.specs.Prelude.{Bool, true, false, cond, not, ◌||◌, List, [], ◌∷◌, ◌++◌, ℕ, ltb, eqb, length, Ok}
use Rattle.std.proofs.Math.Option.{Option, none, some}
use Rattle.srp.specs.Limits.{buffer_size, most_buffers, shortest_agreed, direct_only, both_formats}
use Rattle.srp.specs.Bytes.{bit, get, part, type_of, write}
use Rattle.srp.specs.Messages.{tag, format_bits, requested_length, login_crsolnt, login_losolnt, channel_action, target_identifier, login_req, login_rsp, login_rej}
use Rattle.srp.specs.Refusals.{Check, first_of_checks, short}
use Rattle.srp.specs.Descriptors.{same_bytes}
use Rattle.srp.specs.Requests.{flag, other_formats_lem, bad_length}
use Rattle.srp.specs.Cutting.{bad_maximum, bad_boundary}
use Rattle.srp.specs.Credit.{Port, closed_port}
use Rattle.srp.specs.declared.Settings.{Settings}
use Rattle.srp.specs.declared.Terms.{Terms}
use Rattle.srp.specs.Take.{Outcome}
use Rattle.srp.specs.Calls.{unless}
use Rattle.srp.specs.declared.Refusal.{Refusal}
use Rattle.srp.specs.declared.Refusal.TheVariants.{Setting, Length, OtherType}
use Rattle.srp.specs.declared.Reply.TheVariants.{Accepted, Rejected}

-- "N 1 to 16, M 1 to 1,048,576, X 64 to 1,364"; "A bad Q draws refusal 2"
abbrev pub bad_settings_lem : Settings → Bool
bad_settings_lem c =
    eqb c.buffers 0 || (ltb most_buffers c.buffers || (bad_maximum c.maximum || (bad_boundary c.boundary || bad_length c.longest)))

-- "supported formats (0006h or 0002h)"
abbrev pub supported : Settings → ℕ
supported c = cond c.indirect both_formats direct_only

-- ── by a request's values: tag t, requested length n, required formats f, CRSOLNT r, LOSOLNT o, channel action a, the target identifier's bytes

-- "Then the first that fits is rejected"
abbrev pub rejections_by : (c : Settings) (own : List ℕ) (n f a : ℕ) (target : List ℕ) → List (Bool × ℕ)
rejections_by c own n f a target =
    (ltb n shortest_agreed, 0x00010000)
    ∷ (ltb c.longest n, 0x00010002)
    ∷ (other_formats_lem (supported c) f, 0x00010004)
    ∷ (eqb a 1, 0x00010005)
    ∷ (ltb 1 a, 0x00010000)
    ∷ (not (same_bytes target own), 0x00010003)
    ∷ []

-- M and Q, and from the message the agreed length and formats, CRSOLNT and LOSOLNT
abbrev pub terms_by : (c : Settings) (n f r o : ℕ) → Terms
terms_by c n f r o = record { maximum = c.maximum; boundary = c.boundary; agreed = n; formats = f; crsolnt = flag r; losolnt = flag o }

-- "After login W = A = N, H = D = 0"
abbrev pub opened_with : ℕ → Terms → Port
opened_with n terms = record { live = true; wanted = n; announced = n; held = []; unanswered = false; terms = terms; line = [] }

-- SRP_LOGIN_RSP: "4-7 N, 8-15 tag, 16-19 requested length, 20-23 132, 24-25 supported formats, 26 bit 4 SOLNTSUP"
abbrev pub login_response : (c : Settings) (t n : ℕ) → List ℕ
login_response c t n = write login_rsp (c.buffers ∷ t ∷ n ∷ buffer_size ∷ supported c ∷ bit c.solicited ∷ [])

-- SRP_LOGIN_REJ: "4-7 reason, 8-15 tag, 24-25 supported formats"
abbrev pub login_reject : (c : Settings) (t reason : ℕ) → List ℕ
login_reject c t reason = write login_rej (reason ∷ t ∷ supported c ∷ [])

-- accepted, or rejected with a reason
abbrev pub judged_by : Option ℕ → (c : Settings) (t n : ℕ) → Terms → Outcome
judged_by none c t n terms = record { reply = Ok Accepted; port = opened_with c.buffers terms; wrote = login_response c t n ∷ [] }
judged_by (some reason) c t n terms = record { reply = Ok (Rejected reason); port = closed_port; wrote = login_reject c t reason ∷ [] }

-- "Refused 1, 2" whatever the message
abbrev pub setting_checks : Settings → ℕ → List Check
setting_checks c room = short room ∷ (bad_settings_lem c, Setting) ∷ []

-- login with a request of these values, which draws neither 3 nor 4: `login_received` of proofs/Received.antt
abbrev pub login_by_values : (c : Settings) (own : List ℕ) (room t n f r o a : ℕ) (target : List ℕ) → Outcome
login_by_values c own room t n f r o a target =
    unless (first_of_checks (setting_checks c room)) closed_port (judged_by (first_of_checks (rejections_by c own n f a target)) c t n (terms_by c n f r o))

-- ── by a message s: the same at the values read from it

abbrev pub rejections : Settings → List ℕ → List ℕ → List (Bool × ℕ)
rejections c own s = rejections_by c own (get requested_length s) (get format_bits s) (get channel_action s) (part target_identifier s)

abbrev pub terms_of_lem : Settings → List ℕ → Terms
terms_of_lem c s = terms_by c (get requested_length s) (get format_bits s) (get login_crsolnt s) (get login_losolnt s)

abbrev pub opened : Settings → List ℕ → Port
opened c s = opened_with c.buffers (terms_of_lem c s)

abbrev pub judged : Option ℕ → Settings → List ℕ → Outcome
judged w c s = judged_by w c (get tag s) (get requested_length s) (terms_of_lem c s)

-- "A login makes a port, using no earlier one; without an accepted login it is closed"
abbrev pub login_by : Option Refusal → Settings → List ℕ → List ℕ → Outcome
login_by r c own s = unless r closed_port (judged (first_of_checks (rejections c own s)) c s)

-- "Refused 1, 2, 3 (not 64 bytes), 4 in that order"
abbrev pub login_checks : Settings → ℕ → List ℕ → List Check
login_checks c room s =
    setting_checks c room ++ ((not (eqb (length s) login_req.size), Length) ∷ (not (eqb (type_of s) login_req.code), OtherType) ∷ [])

-- login with the message s, by a port whose own identifier is the 16 bytes `own`, and `room` bytes of lent buffer
abbrev pub login_def : Settings → List ℕ → ℕ → List ℕ → Outcome
login_def c own room s = login_by (first_of_checks (login_checks c room s)) c own s
