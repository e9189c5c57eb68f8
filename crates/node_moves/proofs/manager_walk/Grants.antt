-- One walk through whatever a slot that is managed takes. What a law has to show of the rows of its index, where more are told, and of what an index says of a
-- block: what it knows of the index then stands, and so is known of what each grant tells.
use Rattle.std.proofs.Common.{ℕ, ◌==◌, not, List, [], ◌∷◌, length}
use Rattle.std.specs.Prelude.{Option, Some, None, is_some}
use Rattle.std.specs.List.{AllByRecursion, list_any}
use Rattle.slot_beliefs.specs.declared.job.Awaited.{Awaited}
use Rattle.slot_beliefs.specs.declared.job.Job.{Job}
use Rattle.slot_beliefs.specs.declared.job.Wanted.{Wanted}
use Rattle.slot_beliefs.specs.Beliefs.{others}
use Rattle.slot_beliefs.specs.Index.{Indexed, merge_all}
use Rattle.slot_beliefs.specs.Recalls.{applied_of, answers, noted, is_ready, ready_blocks, recalls, job_at, without_job, applied_upto, is_followed}
use Rattle.token_manager.specs.declared.input.In.{In as Input}
use Rattle.token_manager.specs.declared.input.In.TheVariants as input
use Rattle.token_manager.specs.declared.output.Out.{Out}
use Rattle.token_manager.specs.declared.output.Out.TheVariants.{Applied, Live, Dead}
use Rattle.token_manager.specs.Recalls.{recall_of, send_recalls, send_all}
use Rattle.token_manager.specs.SlotState.{SlotState}
use Rattle.token_manager.specs.Transition.{Done, has_turns, entry_at, passers, answer, slot_finish, finish, recalled, recall, recall_or_finish, is_dropped, on_want, given, gave_last, gave_one, gave_noted, gave_job, on_gave, finished_job, finish_job, with_deltas, apply, can_apply, slot_apply, joins_on, told_applied, deltas_of, on_deltas, is_place, found, transition}
use Rattle.xfs_base.proofs.Booleans.{by_test}
use Rattle.xfs_base.specs.declared.block.BlockId.{BlockId}
use Rattle.xfs_base.specs.declared.entry.Entry.{Entry}
use Rattle.xfs_base.specs.declared.entry.Place.{Place}
use Rattle.xfs_base.specs.declared.segment.LogId.{LogId}
use Rattle.xfs_base.specs.declared.token.Stamp.{Stamp}
use Rattle.xfs_base.specs.Modes.{is_own}
use Rattle.xfs_base.specs.Steps.{still, steps}
use Rattle.xfs_base.proofs.Alls.{all_append}
use Rattle.xfs_base.proofs.Leaving.{Leaves, goes_after}
use Rattle.node_moves.proofs.manager_walk.Laws.{Rows, Given, Said}

pub record GrantLaw : Type 1 where
  -- what is known of the rows of an index, of rows that are told, and of what a grant tells of a block
  pub RowsSo : Rows → Type 0
  pub Told : Rows → Type 0
  pub Granted : BlockId → Entry → Type 0
  pub indexes : (index : Indexed) (rows : Rows) → RowsSo index.rows → Told rows → RowsSo (merge_all index rows).rows
  pub tells : (s : SlotState) (block : BlockId) → RowsSo s.index.rows → Granted block (entry_at s block)

module _ (w : GrantLaw) where
  abbrev pub StateSo : SlotState → Type 0
  StateSo s = w.RowsSo s.index.rows

  abbrev pub OutSo : Out → Type 0
  OutSo o = Said w.Granted o

  -- the rows of deltas are told
  abbrev pub InputSo : Input → Type 0
  InputSo i = Given (λ log upto rows. w.Told rows) i

  abbrev Goes : Done → Type 0
  Goes d = Leaves StateSo OutSo d

  quiet : (s : SlotState) → StateSo s → Goes (still s)
  quiet s h = record { state = h; outs = tt }

  -- ---- grants

  -- a grant tells what the index holds of the block
  answer_so : (s : SlotState) (want : Wanted) (clients : List ℕ) → StateSo s → OutSo (answer s want clients)
  answer_so s want [] h = w.tells s want.block h
  answer_so s want (c ∷ cs) h = tt

  finished_on : (s : SlotState) (want : Wanted) → StateSo s → Goes (slot_finish s want)
  finished_on s want h = record { state = h; outs = (answer_so s want (passers s want) h, tt) }

  finish_on : (s : SlotState) (want : Wanted) → StateSo s → Goes (finish s want)
  finish_on s want h = by_test Goes (has_turns s.turn 1) (slot_finish s want) (still s) (λ _. finished_on s want h) (λ _. quiet s h)

  -- ---- recalls

  send_recalls_so : (block : BlockId) (awaited : List Awaited) → AllByRecursion OutSo (send_recalls block awaited)
  send_recalls_so block [] = tt
  send_recalls_so block (a ∷ rest) =
      by_test (AllByRecursion OutSo) (is_some a.end) (send_recalls block rest) (recall_of block a ∷ send_recalls block rest) (λ _. send_recalls_so block rest)
      (λ _. (tt, send_recalls_so block rest))

  send_all_so : (jobs : List (BlockId × Job)) → AllByRecursion OutSo (send_all jobs)
  send_all_so [] = tt
  send_all_so (e ∷ es) = all_append OutSo (send_recalls e.0 e.1.awaited) (send_all es) (send_recalls_so e.0 e.1.awaited) (send_all_so es)

  recall_on : (s : SlotState) (want : Wanted) (clients : List ℕ) → StateSo s → Goes (recall_or_finish s want clients)
  recall_on s want clients h =
      by_test Goes (length clients == 0) (finish s want) (recall s want clients) (λ _. finish_on s want h)
      (λ _. by_test Goes (has_turns s.turn (length clients)) (recalled s want clients) (still s)
      (λ _. record { state = h; outs = send_recalls_so want.block (recalls s.epoch s.turn (not (is_own want.mode)) clients) }) (λ _. quiet s h))

  want_on : (s : SlotState) (want : Wanted) (end : ℕ) → StateSo s → Goes (on_want s want end)
  want_on s want end h =
      by_test Goes (is_dropped s want end) (still s) (recall_or_finish s want (others s.beliefs want.block want.client (not (is_own want.mode))))
      (λ _. quiet s h) (λ _. recall_on s want (others s.beliefs want.block want.client (not (is_own want.mode))) h)

  -- ---- what is given up

  noted_on : (s : SlotState) (client : ℕ) (block : BlockId) (want : Wanted) (awaited : List Awaited) → StateSo s
      → Goes (gave_noted s client block want awaited)
  unfolding gave_noted
  noted_on s client block want awaited h =
      by_test Goes (is_ready s.applied awaited) (gave_last s client block want) (still (gave_one s client block want awaited))
      (λ _. by_test Goes (has_turns s.turn 1) (slot_finish (record (given s want client block) { jobs = without_job s.jobs block }) want) (still s)
      (λ _. finished_on (record (given s want client block) { jobs = without_job s.jobs block }) want h) (λ _. quiet s h))
      (λ _. quiet (gave_one s client block want awaited) h)

  gave_on : (s : SlotState) (client : ℕ) (block : BlockId) (stamp : Stamp) (end : ℕ) → StateSo s → Goes (on_gave s client block stamp end)
  gave_on s client block stamp end h = by (job_at s.jobs block)
    where
      by : (job : Option Job) → Goes (gave_job s client block stamp end job)
      by None = quiet s h
      by (Some job) =
          by_test Goes (list_any (answers client stamp) job.awaited) (gave_noted s client block job.want (noted job.awaited client stamp end)) (still s)
          (λ _. noted_on s client block job.want (noted job.awaited client stamp end) h) (λ _. quiet s h)

  -- ---- deltas

  finish_job-on : (s : SlotState) (block : BlockId) → StateSo s → Goes (finish_job s block)
  unfolding finish_job
  finish_job-on s block h = by (job_at s.jobs block)
    where
      by : (job : Option Job) → Goes (finished_job s block job)
      by None = quiet s h
      by (Some job) = finished_on (record s { jobs = without_job s.jobs block }) job.want h

  each_finished : (s : SlotState) (blocks : List BlockId) → StateSo s → Goes (steps finish_job s blocks)
  each_finished s [] h = quiet s h
  each_finished s (block ∷ blocks) h =
      let first = finish_job-on s block h in
      goes_after StateSo OutSo (finish_job s block).outs (steps finish_job (finish_job s block).state blocks) first.outs
      (each_finished (finish_job s block).state blocks first.state)

  apply_on : (s : SlotState) (log : LogId) (upto : ℕ) (rows : Rows) → w.Told rows → StateSo s → Goes (apply s log upto rows)
  apply_on s log upto rows new h =
      goes_after StateSo OutSo (Applied log upto ∷ [])
      (steps finish_job (with_deltas s log upto rows) (ready_blocks s.jobs (applied_upto s.applied log upto)))
      (tt, tt)
      (each_finished (with_deltas s log upto rows) (ready_blocks s.jobs (applied_upto s.applied log upto)) (w.indexes s.index rows h new))

  deltas_on : (s : SlotState) (log : LogId) (first upto : ℕ) (rows : Rows) → w.Told rows → StateSo s
      → Goes (on_deltas s log first upto rows)
  deltas_on s log first upto rows new h =
      by_test Goes (is_followed log) (deltas_of s log first upto rows) (still s)
      (λ _. by_test Goes (joins_on (applied_of s.applied log.0) first upto) (slot_apply s log upto rows) (told_applied s log)
      (λ _. by_test Goes (can_apply s log upto rows) (apply s log upto rows) (still s) (λ _. apply_on s log upto rows new h) (λ _. quiet s h))
      (λ _. record { state = h; outs = (tt, tt) }))
      (λ _. quiet s h)

  -- ---- all inputs

  found_on : (s : SlotState) (block : BlockId) (place : Place) → OutSo (found (entry_at s block) place)
  found_on s block place = by_test OutSo (is_place (entry_at s block).place place) (Live (entry_at s block)) Dead (λ _. tt) (λ _. tt)

  pub slot_so : (s : SlotState) (i : Input) → InputSo i → StateSo s → Leaves StateSo OutSo (transition s i)
  slot_so s (input.Want want end) new h = want_on s want end h
  slot_so s (input.Gave client block stamp end) new h = gave_on s client block stamp end h
  slot_so s (input.Deltas log first upto rows) new h = deltas_on s log first upto rows new h
  slot_so s (input.Check block place) new h = record { state = h; outs = (found_on s block place, tt) }
  slot_so s input.Tick new h = record { state = h; outs = send_all_so s.jobs }
