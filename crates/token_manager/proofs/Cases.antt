-- The cases of each transition: what holds of each outcome holds of what the transition gives.
use Rattle.std.proofs.Common.{◌≡◌, ℕ, ◌==◌, true, false, cond, not, List, length, Option, Some, None, refl, ap}
use Rattle.std.specs.List.{list_any}
use Rattle.xfs_base.specs.Steps.{still}
use Rattle.xfs_base.specs.declared.block.BlockId.{BlockId}
use Rattle.xfs_base.specs.declared.entry.Entry.{Entry}
use Rattle.xfs_base.specs.declared.segment.LogId.{LogId}
use Rattle.xfs_base.specs.declared.token.Stamp.{Stamp}
use Rattle.xfs_base.specs.Modes.{is_own}
use Rattle.xfs_base.proofs.Booleans.{by_test}
use Rattle.slot_beliefs.specs.declared.job.Wanted.{Wanted}
use Rattle.slot_beliefs.specs.declared.job.Awaited.{Awaited}
use Rattle.slot_beliefs.specs.declared.job.Job.{Job}
use Rattle.slot_beliefs.specs.Beliefs.{others}
use Rattle.slot_beliefs.specs.Recalls.{answers, noted, applied_of, is_ready, job_at, without_job, is_followed}
use Rattle.token_manager.specs.SlotState.{SlotState}
use Rattle.token_manager.specs.Transition.{Done, has_turns, slot_finish, finish, recalled, recall, recall_or_finish, is_dropped, on_want, given, gave_last, gave_one, gave_noted, gave_job, on_gave, finished_job, finish_job, can_apply, apply, slot_apply, joins_on, told_applied, deltas_of, on_deltas}

-- the clients from which a want recalls its block
abbrev pub recalled_from : SlotState → Wanted → List ℕ
recalled_from s want = others s.beliefs want.block want.client (not (is_own want.mode))

pub by_want : (Q : Done → Type 0) (s : SlotState) (want : Wanted) (end : ℕ) → Q (still s)
    → (is_dropped s want end ≡ false → (length (recalled_from s want) == 0) ≡ true → Q (slot_finish s want))
    → (is_dropped s want end ≡ false → Q (recalled s want (recalled_from s want))) → Q (on_want s want end)
by_want Q s want end same done waits =
    let clients = recalled_from s want in
    by_test Q (is_dropped s want end) (still s) (recall_or_finish s want clients) (λ _. same) (λ going.
    by_test Q (length clients == 0) (finish s want) (recall s want clients)
    (λ none. by_test Q (has_turns s.turn 1) (slot_finish s want) (still s) (λ _. done going none) (λ _. same))
    (λ _. by_test Q (has_turns s.turn (length clients)) (recalled s want clients) (still s) (λ _. waits going) (λ _. same)))

-- a want that is dropped changes nothing
pub on_want-dropped : (s : SlotState) (want : Wanted) (end : ℕ) → is_dropped s want end ≡ true → on_want s want end ≡ still s
on_want-dropped s want end dropped = ap (λ b. cond b (still s) (recall_or_finish s want (recalled_from s want))) dropped

-- a want that is not dropped has its block recalled, or is answered
pub on_want-taken : (s : SlotState) (want : Wanted) (end : ℕ) → is_dropped s want end ≡ false
    → on_want s want end ≡ recall_or_finish s want (recalled_from s want)
on_want-taken s want end taken = ap (λ b. cond b (still s) (recall_or_finish s want (recalled_from s want))) taken

-- the state in which a want is answered once its last recall is
abbrev pub all_given : SlotState → ℕ → BlockId → Wanted → SlotState
all_given s client block want = record (given s want client block) { jobs = without_job s.jobs block }

-- the cases of a Gave: it is dropped, it ends the want's waiting, or the want waits on
pub by_gave_both : (Q : Done → Type 0) (s : SlotState) (client : ℕ) (block : BlockId) (stamp : Stamp) (end : ℕ) → Q (still s)
    → ((job : Job) → job_at s.jobs block ≡ Some job → list_any (answers client stamp) job.awaited ≡ true
    → is_ready s.applied (noted job.awaited client stamp end) ≡ true → Q (slot_finish (all_given s client block job.want) job.want))
    → ((job : Job) → job_at s.jobs block ≡ Some job → list_any (answers client stamp) job.awaited ≡ true
    → Q (still (gave_one s client block job.want (noted job.awaited client stamp end))))
    → Q (on_gave s client block stamp end)
unfolding gave_noted
by_gave_both Q s client block stamp end same done on = by_job (job_at s.jobs block) refl
  where
    by_job : (o : Option Job) → job_at s.jobs block ≡ o → Q (gave_job s client block stamp end o)
    by_job None fact = same
    by_job (Some job) fact =
        let awaited = noted job.awaited client stamp end in
        by_test Q (list_any (answers client stamp) job.awaited) (gave_noted s client block job.want awaited) (still s)
        (λ any. by_test Q (is_ready s.applied awaited) (gave_last s client block job.want) (still (gave_one s client block job.want awaited))
        (λ ready. by_test Q (has_turns s.turn 1) (slot_finish (all_given s client block job.want) job.want) (still s) (λ _. done job fact any ready) (λ _. same))
        (λ _. on job fact any))
        (λ _. same)

-- the same, where it is of no account whose recall is answered
pub by_gave : (Q : Done → Type 0) (s : SlotState) (client : ℕ) (block : BlockId) (stamp : Stamp) (end : ℕ) → Q (still s)
    → ((job : Job) → job_at s.jobs block ≡ Some job → is_ready s.applied (noted job.awaited client stamp end) ≡ true
    → Q (slot_finish (all_given s client block job.want) job.want))
    → ((job : Job) → job_at s.jobs block ≡ Some job → Q (still (gave_one s client block job.want (noted job.awaited client stamp end))))
    → Q (on_gave s client block stamp end)
by_gave Q s client block stamp end same done on =
    by_gave_both Q s client block stamp end same (λ job fact _. done job fact) (λ job fact _. on job fact)

-- where an answer is the last, the want is answered
pub gave_noted-ready : (s : SlotState) (client : ℕ) (block : BlockId) (want : Wanted) (awaited : List Awaited) → is_ready s.applied awaited ≡ true
    → gave_noted s client block want awaited ≡ gave_last s client block want
unfolding gave_noted
gave_noted-ready s client block want awaited ready = ap (λ b. cond b (gave_last s client block want) (still (gave_one s client block want awaited))) ready

pub by_deltas : (Q : Done → Type 0) (s : SlotState) (log : LogId) (first upto : ℕ) (rows : List (BlockId × Entry)) → Q (still s) → Q (told_applied s log)
    → (joins_on (applied_of s.applied log.0) first upto ≡ true → Q (apply s log upto rows)) → Q (on_deltas s log first upto rows)
by_deltas Q s log first upto rows same told done =
    by_test Q (is_followed log) (deltas_of s log first upto rows) (still s)
    (λ _. by_test Q (joins_on (applied_of s.applied log.0) first upto) (slot_apply s log upto rows) (told_applied s log)
    (λ joins. by_test Q (can_apply s log upto rows) (apply s log upto rows) (still s) (λ _. done joins) (λ _. same))
    (λ _. told))
    (λ _. same)

-- the state in which the want that waits for a block is answered
abbrev pub let_go : SlotState → BlockId → SlotState
let_go s block = record s { jobs = without_job s.jobs block }

pub by_finished_at : (Q : Done → Type 0) (s : SlotState) (block : BlockId) → Q (still s)
    → ((job : Job) → job_at s.jobs block ≡ Some job → Q (slot_finish (let_go s block) job.want)) → Q (finish_job s block)
unfolding finish_job
by_finished_at Q s block same done = by_job (job_at s.jobs block) refl
  where
    by_job : (o : Option Job) → job_at s.jobs block ≡ o → Q (finished_job s block o)
    by_job None fact = same
    by_job (Some job) fact = done job fact
