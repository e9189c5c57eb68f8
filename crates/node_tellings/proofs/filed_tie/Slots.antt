-- What a slot has applied of the logs keeps to the bounds, whatever it is told.
use Rattle.std.proofs.Common.{ℕ, ◌==◌, not, List, [], ◌∷◌, length}
use Rattle.std.specs.Prelude.{Option, Some, None}
use Rattle.std.specs.List.{list_any}
use Rattle.slot_beliefs.specs.declared.job.Awaited.{Awaited}
use Rattle.slot_beliefs.specs.declared.job.Job.{Job}
use Rattle.slot_beliefs.specs.declared.job.Wanted.{Wanted}
use Rattle.slot_beliefs.specs.Beliefs.{others}
use Rattle.slot_beliefs.specs.Recalls.{applied_of, answers, noted, is_ready, ready_blocks, job_at, without_job, applied_upto, is_followed}
use Rattle.token_manager.specs.declared.input.In.{In as Input}
use Rattle.token_manager.specs.declared.input.In.TheVariants as input
use Rattle.token_manager.specs.SlotState.{SlotState}
use Rattle.token_manager.specs.Transition.{Done, has_turns, slot_finish, finish, recalled, recall, recall_or_finish, is_dropped, on_want, given, gave_last, gave_one, gave_noted, gave_job, on_gave, finished_job, finish_job, with_deltas, apply, can_apply, slot_apply, joins_on, told_applied, deltas_of, on_deltas, transition}
use Rattle.xfs_base.proofs.Booleans.{by_test}
use Rattle.xfs_base.specs.declared.block.BlockId.{BlockId}
use Rattle.xfs_base.specs.declared.entry.Entry.{Entry}
use Rattle.xfs_base.specs.declared.segment.LogId.{LogId}
use Rattle.xfs_base.specs.declared.token.Stamp.{Stamp}
use Rattle.xfs_base.specs.Modes.{is_own}
use Rattle.xfs_base.specs.Steps.{still, steps}
use Rattle.node_moves.proofs.manager_walk.Laws.{Given}
use Rattle.node_tellings.specs.filed_tie.Bounds.{Bounds}
use Rattle.node_tellings.proofs.filed_tie.Bounding.{Bounding}

module _ (b : Bounds) (laws : Bounding b) (k : ℕ) where
  abbrev pub StateBounded : SlotState → Type 0
  StateBounded s = b.applied k s.epoch s.applied

  abbrev Goes : Done → Type 0
  Goes d = b.applied k d.state.epoch d.state.applied

  -- ---- want and gave leave it

  finish_on : (s : SlotState) (want : Wanted) → StateBounded s → Goes (finish s want)
  finish_on s want h = by_test Goes (has_turns s.turn 1) (slot_finish s want) (still s) (λ _. h) (λ _. h)

  recall_on : (s : SlotState) (want : Wanted) (clients : List ℕ) → StateBounded s → Goes (recall_or_finish s want clients)
  recall_on s want clients h =
      by_test Goes (length clients == 0) (finish s want) (recall s want clients) (λ _. finish_on s want h)
      (λ _. by_test Goes (has_turns s.turn (length clients)) (recalled s want clients) (still s) (λ _. h) (λ _. h))

  want_on : (s : SlotState) (want : Wanted) (end : ℕ) → StateBounded s → Goes (on_want s want end)
  want_on s want end h =
      by_test Goes (is_dropped s want end) (still s) (recall_or_finish s want (others s.beliefs want.block want.client (not (is_own want.mode)))) (λ _. h)
      (λ _. recall_on s want (others s.beliefs want.block want.client (not (is_own want.mode))) h)

  noted_on : (s : SlotState) (client : ℕ) (block : BlockId) (want : Wanted) (awaited : List Awaited) → StateBounded s
      → Goes (gave_noted s client block want awaited)
  unfolding gave_noted
  noted_on s client block want awaited h =
      by_test Goes (is_ready s.applied awaited) (gave_last s client block want) (still (gave_one s client block want awaited))
      (λ _. by_test Goes (has_turns s.turn 1) (slot_finish (record (given s want client block) { jobs = without_job s.jobs block }) want) (still s) (λ _. h)
      (λ _. h))
      (λ _. h)

  gave_on : (s : SlotState) (client : ℕ) (block : BlockId) (stamp : Stamp) (end : ℕ) → StateBounded s → Goes (on_gave s client block stamp end)
  gave_on s client block stamp end h = by (job_at s.jobs block)
    where
      by : (job : Option Job) → Goes (gave_job s client block stamp end job)
      by None = h
      by (Some job) =
          by_test Goes (list_any (answers client stamp) job.awaited) (gave_noted s client block job.want (noted job.awaited client stamp end)) (still s)
          (λ _. noted_on s client block job.want (noted job.awaited client stamp end) h) (λ _. h)

  -- ---- deltas

  finished_on : (s : SlotState) (block : BlockId) → StateBounded s → Goes (finish_job s block)
  unfolding finish_job
  finished_on s block h = by (job_at s.jobs block)
    where
      by : (job : Option Job) → Goes (finished_job s block job)
      by None = h
      by (Some job) = h

  each_finished : (s : SlotState) (blocks : List BlockId) → StateBounded s → Goes (steps finish_job s blocks)
  each_finished s [] h = h
  each_finished s (block ∷ blocks) h = each_finished (finish_job s block).state blocks (finished_on s block h)

  deltas_on : (s : SlotState) (log : LogId) (first upto : ℕ) (rows : List (BlockId × Entry)) → b.told (Some log) upto → StateBounded s
      → Goes (on_deltas s log first upto rows)
  deltas_on s log first upto rows told h =
      by_test Goes (is_followed log) (deltas_of s log first upto rows) (still s)
      (λ followed. by_test Goes (joins_on (applied_of s.applied log.0) first upto) (slot_apply s log upto rows) (told_applied s log)
      (λ joins. by_test Goes (can_apply s log upto rows) (apply s log upto rows) (still s)
      (λ _. each_finished (with_deltas s log upto rows) (ready_blocks s.jobs (applied_upto s.applied log upto))
      (laws.merges k s.epoch s.applied log first upto followed joins told h)) (λ _. h)) (λ _. h))
      (λ _. h)

  -- ---- all inputs

  -- how far the deltas of an input go
  abbrev pub InputBounded : Input → Type 0
  InputBounded i = Given (λ log upto rows. b.told log upto) i

  pub slot_goes : (s : SlotState) (given_ : Input) → InputBounded given_ → StateBounded s → StateBounded (transition s given_).state
  slot_goes s (input.Want want end) told h = want_on s want end h
  slot_goes s (input.Gave client block stamp end) told h = gave_on s client block stamp end h
  slot_goes s (input.Deltas log first upto rows) told h = deltas_on s log first upto rows told h
  slot_goes s (input.Check block place) told h = h
  slot_goes s input.Tick told h = h
