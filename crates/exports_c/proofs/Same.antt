-- Each exported function promises what the function of crate exports promises that it calls: their contracts, as the checker has them, are one. So a weaker clause in src/ is
-- refused, and what crate demand says of the functions of crate exports holds of those that C links.
use Rattle.std.proofs.Common.{◌≡◌, refl}
use contract.Lifetimes.{Lfts}
use Rattle.exports.proofs.srp_look.Reads as look
use Rattle.exports_c.proofs.srp_look.Reads as look_in_c
use Rattle.exports.proofs.srp_cut.Reads as cut
use Rattle.exports_c.proofs.srp_cut.Reads as cut_in_c
use Rattle.exports.proofs.srp_trace.Reads as trace
use Rattle.exports_c.proofs.srp_trace.Reads as trace_in_c
use Rattle.exports.proofs.srp_format_counts.Reads as format_counts
use Rattle.exports_c.proofs.srp_format_counts.Reads as format_counts_in_c
use Rattle.exports.proofs.port.srp_target_words.Reads as words
use Rattle.exports_c.proofs.port.srp_target_words.Reads as words_in_c
use Rattle.exports.proofs.port.srp_target_login.Reads as login
use Rattle.exports_c.proofs.port.srp_target_login.Reads as login_in_c
use Rattle.exports.proofs.port.srp_target_plan.Reads as plan
use Rattle.exports_c.proofs.port.srp_target_plan.Reads as plan_in_c
use Rattle.exports.proofs.port.srp_target_move.Reads as move
use Rattle.exports_c.proofs.port.srp_target_move.Reads as move_in_c
use Rattle.exports.proofs.port.srp_target_step.Reads as step
use Rattle.exports_c.proofs.port.srp_target_step.Reads as step_in_c
use Rattle.exports.proofs.port.srp_target_turn.Reads as turn
use Rattle.exports_c.proofs.port.srp_target_turn.Reads as turn_in_c
use Rattle.exports.proofs.port.srp_target_finish.Reads as finish
use Rattle.exports_c.proofs.port.srp_target_finish.Reads as finish_in_c
use Rattle.exports.proofs.port.srp_target_add.Reads as add
use Rattle.exports_c.proofs.port.srp_target_add.Reads as add_in_c
use Rattle.exports.proofs.port.srp_target_withdraw.Reads as withdraw
use Rattle.exports_c.proofs.port.srp_target_withdraw.Reads as withdraw_in_c
use Rattle.exports.proofs.port.srp_target_grant.Reads as grant
use Rattle.exports_c.proofs.port.srp_target_grant.Reads as grant_in_c
use Rattle.exports.proofs.port.srp_target_close.Reads as close
use Rattle.exports_c.proofs.port.srp_target_close.Reads as close_in_c
use Rattle.exports.proofs.port.srp_target_counters.Reads as counters
use Rattle.exports_c.proofs.port.srp_target_counters.Reads as counters_in_c
use Rattle.exports.proofs.port.srp_target_list.Reads as list
use Rattle.exports_c.proofs.port.srp_target_list.Reads as list_in_c
use Rattle.exports.proofs.taking.srp_target_take.Reads as take
use Rattle.exports_c.proofs.taking.srp_target_take.Reads as take_in_c
use Rattle.exports.proofs.taking.srp_target_tables.Reads as tables
use Rattle.exports_c.proofs.taking.srp_target_tables.Reads as tables_in_c

pub look_same : (κs : Lfts 2) → look_in_c.Post κs ≡ look.Post κs
look_same κs = refl

pub cut_same : (κs : Lfts 2) → cut_in_c.Post κs ≡ cut.Post κs
cut_same κs = refl

pub trace_same : (κs : Lfts 2) → trace_in_c.Post κs ≡ trace.Post κs
trace_same κs = refl

pub format_counts_same : (κs : Lfts 1) → format_counts_in_c.Post κs ≡ format_counts.Post κs
format_counts_same κs = refl

pub words_same : (κs : Lfts 0) → words_in_c.Post κs ≡ words.Post κs
words_same κs = refl

pub login_same : (κs : Lfts 6) → login_in_c.Post κs ≡ login.Post κs
login_same κs = refl

pub plan_same : (κs : Lfts 1) → plan_in_c.Post κs ≡ plan.Post κs
plan_same κs = refl

pub move_same : (κs : Lfts 1) → move_in_c.Post κs ≡ move.Post κs
move_same κs = refl

pub step_same : (κs : Lfts 3) → step_in_c.Post κs ≡ step.Post κs
step_same κs = refl

pub turn_same : (κs : Lfts 3) → turn_in_c.Post κs ≡ turn.Post κs
turn_same κs = refl

pub finish_same : (κs : Lfts 4) → finish_in_c.Post κs ≡ finish.Post κs
finish_same κs = refl

pub add_same : (κs : Lfts 1) → add_in_c.Post κs ≡ add.Post κs
add_same κs = refl

pub withdraw_same : (κs : Lfts 1) → withdraw_in_c.Post κs ≡ withdraw.Post κs
withdraw_same κs = refl

pub grant_same : (κs : Lfts 3) → grant_in_c.Post κs ≡ grant.Post κs
grant_same κs = refl

pub close_same : (κs : Lfts 3) → close_in_c.Post κs ≡ close.Post κs
close_same κs = refl

pub counters_same : (κs : Lfts 2) → counters_in_c.Post κs ≡ counters.Post κs
counters_same κs = refl

pub list_same : (κs : Lfts 3) → list_in_c.Post κs ≡ list.Post κs
list_same κs = refl

pub take_same : (κs : Lfts 5) → take_in_c.Post κs ≡ take.Post κs
take_same κs = refl

pub tables_same : (κs : Lfts 6) → tables_in_c.Post κs ≡ tables.Post κs
tables_same κs = refl
