-- The contracts of the C functions, by the names of their arguments: each holds of what the function was given, what it returned, n, and what it left,
-- whatever its lifetimes. It is the function's own (the generated `Post`), so a contract too weak for the theorems of proofs/ makes them fail. p and q are the lent
-- words before and after the call, st and st' the store, b and d the lent buffer, w and v the answer, m a message.
use Rattle.std.specs.Prelude.{List, ℕ}
use Rattle.std.specs.Borrow.{Bor, MutBor}
use contract.Lifetimes.{Lfts}
use Rattle.exports.proofs.port.srp_target_login.Reads as login_in_c
use Rattle.exports.proofs.taking.srp_target_take.Reads as take_in_c
use Rattle.exports.proofs.taking.srp_target_tables.Reads as tables_in_c
use Rattle.exports.proofs.port.srp_target_plan.Reads as plan_in_c
use Rattle.exports.proofs.port.srp_target_move.Reads as move_in_c
use Rattle.exports.proofs.port.srp_target_step.Reads as step_in_c
use Rattle.exports.proofs.port.srp_target_turn.Reads as turn_in_c
use Rattle.exports.proofs.port.srp_target_finish.Reads as finish_in_c
use Rattle.exports.proofs.port.srp_target_add.Reads as add_in_c
use Rattle.exports.proofs.port.srp_target_withdraw.Reads as withdraw_in_c
use Rattle.exports.proofs.port.srp_target_grant.Reads as grant_in_c
use Rattle.exports.proofs.port.srp_target_close.Reads as close_in_c
use Rattle.exports.proofs.port.srp_target_counters.Reads as counters_in_c
use Rattle.exports.proofs.port.srp_target_list.Reads as list_in_c
use Rattle.exports.proofs.srp_look.Reads as look_in_c
use Rattle.exports.proofs.srp_cut.Reads as cut_in_c
use Rattle.exports.proofs.srp_trace.Reads as trace_in_c_lem
use Rattle.exports.proofs.srp_format_counts.Reads as format_counts_in_c

-- lent memory that a function reads, and lent memory that it may write, as it is given it and leaves it
abbrev pub Slice : Type 0
Slice = Bor (List ℕ)

abbrev pub MutSlice : Type 0
MutSlice = MutBor (List ℕ)

-- c are the settings, id the own identifier
abbrev pub LoginPost : (p q : MutSlice) (c : Slice) (Q : ℕ) (id m : Slice) (b d w v : MutSlice) (n : ℕ) → Type 0
LoginPost p q c Q id m b d w v n = (κs : Lfts 6) × login_in_c.Post κs (p, (c, (Q, (id, (m, (b, (w, tt))))))) n (q, (c, (Q, (id, (m, (d, (v, tt)))))))

abbrev pub TakePost : (p q st st' : MutSlice) (m : Slice) (b d w v : MutSlice) (n : ℕ) → Type 0
TakePost p q st st' m b d w v n = (κs : Lfts 5) × take_in_c.Post κs (p, (st, (m, (b, (w, tt))))) n (q, (st', (m, (d, (v, tt)))))

-- out and inn are the tables
abbrev pub TablesPost : (p q st st' : MutSlice) (out inn : Slice) (b d w v : MutSlice) (tag n : ℕ) → Type 0
TablesPost p q st st' out inn b d w v tag n =
    (κs : Lfts 6) × tables_in_c.Post κs (p, (st, (tag, (out, (inn, (b, (w, tt))))))) n (q, (st', (tag, (out, (inn, (d, (v, tt)))))))

abbrev pub PlanPost : (p q : MutSlice) (tag out inn n : ℕ) → Type 0
PlanPost p q tag out inn n = (κs : Lfts 1) × plan_in_c.Post κs (p, (tag, (out, (inn, tt)))) n (q, (tag, (out, (inn, tt))))

abbrev pub MovePost : (p q : MutSlice) (tag direction offset count n : ℕ) → Type 0
MovePost p q tag direction offset count n =
    (κs : Lfts 1) × move_in_c.Post κs (p, (tag, (direction, (offset, (count, tt))))) n (q, (tag, (direction, (offset, (count, tt)))))

abbrev pub StepPost : (p q : MutSlice) (st : Slice) (w v : MutSlice) (tag direction n : ℕ) → Type 0
StepPost p q st w v tag direction n = (κs : Lfts 3) × step_in_c.Post κs (p, (st, (tag, (direction, (w, tt))))) n (q, (st, (tag, (direction, (v, tt)))))

abbrev pub TurnPost : (p q : MutSlice) (st : Slice) (w v : MutSlice) (n : ℕ) → Type 0
TurnPost p q st w v n = (κs : Lfts 3) × turn_in_c.Post κs (p, (st, (w, tt))) n (q, (st, (v, tt)))

-- e is the sense
abbrev pub FinishPost : (p q : MutSlice) (e : Slice) (b d w v : MutSlice) (tag status n : ℕ) → Type 0
FinishPost p q e b d w v tag status n =
    (κs : Lfts 4) × finish_in_c.Post κs (p, (tag, (status, (e, (b, (w, tt)))))) n (q, (tag, (status, (e, (d, (v, tt))))))

abbrev pub AddPost : (p q : MutSlice) (k n : ℕ) → Type 0
AddPost p q k n = (κs : Lfts 1) × add_in_c.Post κs (p, (k, tt)) n (q, (k, tt))

abbrev pub WithdrawPost : (p q : MutSlice) (k n : ℕ) → Type 0
WithdrawPost p q k n = (κs : Lfts 1) × withdraw_in_c.Post κs (p, (k, tt)) n (q, (k, tt))

abbrev pub GrantPost : (p q b d w v : MutSlice) (n : ℕ) → Type 0
GrantPost p q b d w v n = (κs : Lfts 3) × grant_in_c.Post κs (p, (b, (w, tt))) n (q, (d, (v, tt)))

abbrev pub ClosePost : (p q b d w v : MutSlice) (reason n : ℕ) → Type 0
ClosePost p q b d w v reason n = (κs : Lfts 3) × close_in_c.Post κs (p, (reason, (b, (w, tt)))) n (q, (reason, (d, (v, tt))))

abbrev pub CountersPost : (p : Slice) (w v : MutSlice) (n : ℕ) → Type 0
CountersPost p w v n = (κs : Lfts 2) × counters_in_c.Post κs (p, (w, tt)) n (p, (v, tt))

abbrev pub ListPost : (p : Slice) (before after w v : MutSlice) (n : ℕ) → Type 0
ListPost p before after w v n = (κs : Lfts 3) × list_in_c.Post κs (p, (before, (w, tt))) n (p, (after, (v, tt)))

abbrev pub LookPost : (m : Slice) (b d : MutSlice) (agreed formats n : ℕ) → Type 0
LookPost m b d agreed formats n = (κs : Lfts 2) × look_in_c.Post κs (m, (agreed, (formats, (b, tt)))) n (m, (agreed, (formats, (d, tt))))

-- l is the list of memory descriptors
abbrev pub CutPost : (l : Slice) (b d : MutSlice) (M Q R handed n : ℕ) → Type 0
CutPost l b d M Q R handed n = (κs : Lfts 2) × cut_in_c.Post κs (l, (M, (Q, (R, (handed, (b, tt)))))) n (l, (M, (Q, (R, (handed, (d, tt))))))

abbrev pub TracePost : (m : Slice) (b d : MutSlice) (direction n : ℕ) → Type 0
TracePost m b d direction n = (κs : Lfts 2) × trace_in_c_lem.Post κs (m, (direction, (b, tt))) n (m, (direction, (d, tt)))

abbrev pub FormatCountsPost : (w v : MutSlice) (formats n : ℕ) → Type 0
FormatCountsPost w v formats n = (κs : Lfts 1) × format_counts_in_c.Post κs (formats, (w, tt)) n (formats, (v, tt))
