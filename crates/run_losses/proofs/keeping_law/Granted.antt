-- Each Grant of a manager's slot, whatever input the slot takes, bears the slot's epoch, and tells what the slot's index holds of the block after that input.
use Rattle.std.proofs.Common.{◌≡◌, ℕ, Bool, true, false, cond, not, List, [], ◌∷◌, is_some, refl, sym, subst, ◌∙◌}
use Rattle.std.specs.List.{AllByRecursion}
use Rattle.delta_index.specs.Index.{entry_of}
use Rattle.slot_beliefs.specs.declared.job.Awaited.{Awaited}
use Rattle.slot_beliefs.specs.declared.job.Job.{Job}
use Rattle.slot_beliefs.specs.declared.job.Wanted.{Wanted}
use Rattle.slot_beliefs.specs.Recalls.{ready_blocks, recalls}
use Rattle.slot_beliefs.specs.Recalls as slot_recalls
use Rattle.token_manager.proofs.Cases.{all_given, by_deltas, by_finished_at, by_gave, by_want, let_go, recalled_from}
use Rattle.token_manager.specs.declared.input.In.{In}
use Rattle.token_manager.specs.declared.input.In.TheVariants as input
use Rattle.token_manager.specs.declared.output.Out.{Out}
use Rattle.token_manager.specs.declared.output.Out.TheVariants as out
use Rattle.token_manager.specs.Recalls.{send_all, recall_of, send_recalls}
use Rattle.token_manager.specs.SlotState.{SlotState}
use Rattle.token_manager.specs.Transition as slot
use Rattle.xfs_base.specs.Modes.{is_own}
use Rattle.xfs_base.specs.Steps.{steps}
use Rattle.xfs_base.specs.declared.block.BlockId.{BlockId}
use Rattle.xfs_base.specs.declared.entry.Entry.{Entry}
use Rattle.xfs_base.proofs.Alls.{all_append}

-- a Grant is of this epoch, and tells what these rows say of its block
abbrev pub Granted : ℕ → List (BlockId × Entry) → Out → Type 0
Granted epoch rows (out.Grant client block stamp inc req mode entry) = (epoch ≡ stamp.epoch) × (entry_of rows block ≡ entry)
Granted epoch rows (out.Forward client block stamp to inc req ver) = Unit {0}
Granted epoch rows (out.Recall client block stamp keep) = Unit {0}
Granted epoch rows (out.Applied log upto) = Unit {0}
Granted epoch rows (out.Live entry) = Unit {0}
Granted epoch rows out.Dead = Unit {0}

-- so it is of each that is given on the way to a slot, of that
abbrev pub AllGranted : slot.Done → Type 0
AllGranted d = AllByRecursion (Granted d.state.epoch d.state.index.rows) d.outs

-- ---- recalls are no Grants

module _ (epoch : ℕ) (rows : List (BlockId × Entry)) where
  sent_none : (block : BlockId) (awaited : List Awaited) → AllByRecursion (Granted epoch rows) (send_recalls block awaited)
  sent_none block [] = tt
  sent_none block (a ∷ rest) =
      elim (is_some a.end) as (λ t. AllByRecursion (Granted epoch rows) (cond t (send_recalls block rest) (recall_of block a ∷ send_recalls block rest))) [
        | true ↦ sent_none block rest
        | false ↦ (tt, sent_none block rest)
      ]

  send_all_none : (jobs : List (BlockId × Job)) → AllByRecursion (Granted epoch rows) (send_all jobs)
  send_all_none [] = tt
  send_all_none (e ∷ es) = all_append (Granted epoch rows) (send_recalls e.0 e.1.awaited) (send_all es) (sent_none e.0 e.1.awaited) (send_all_none es)

-- ---- wants that are answered

finished_grants : (s : SlotState) (want : Wanted) → AllGranted (slot.slot_finish s want)
finished_grants s want = by (slot.passers s want)
  where
    by : (from : List ℕ) → AllByRecursion (Granted s.epoch s.index.rows) (slot.answer s want from ∷ [])
    by [] = ((refl, refl), tt)
    by (c ∷ cs) = (tt, tt)

-- Deltas are applied before wants are answered, which leaves epoch and index as they are
record Kept (s : SlotState) (d : slot.Done) : Type 0 where
  epoch : d.state.epoch ≡ s.epoch
  rows : d.state.index.rows ≡ s.index.rows
  outs : AllGranted d

one_kept : (s : SlotState) (block : BlockId) → Kept s (slot.finish_job s block)
one_kept s block =
    by_finished_at (Kept s) s block (record { epoch = refl; rows = refl; outs = tt })
    (λ job fact. record { epoch = refl; rows = refl; outs = finished_grants (let_go s block) job.want })

all_kept : (s : SlotState) (blocks : List BlockId) → Kept s (steps slot.finish_job s blocks)
all_kept s [] = record { epoch = refl; rows = refl; outs = tt }
all_kept s (b ∷ bs) =
    let one = one_kept s b in
    let first : slot.Done = slot.finish_job s b in
    let last : slot.Done = steps slot.finish_job first.state bs in
    let rest = all_kept first.state bs in
    record {
      epoch = rest.epoch ∙ one.epoch;
      rows = rest.rows ∙ one.rows;
      outs = all_append (Granted last.state.epoch last.state.index.rows) first.outs last.outs
          (subst (λ rows. AllByRecursion (Granted last.state.epoch rows) first.outs) (sym rest.rows)
          (subst (λ epoch. AllByRecursion (Granted epoch first.state.index.rows) first.outs) (sym rest.epoch) one.outs))
          rest.outs;
    }

-- ---- all inputs

pub slot_grants : (s : SlotState) (given : In) → AllGranted (slot.transition s given)
slot_grants s (input.Want want end) =
    by_want AllGranted s want end tt (λ _ _. finished_grants s want)
    (λ _. sent_none s.epoch s.index.rows want.block (recalls s.epoch s.turn (not (is_own want.mode)) (recalled_from s want)))
slot_grants s (input.Gave client block stamp end) =
    by_gave AllGranted s client block stamp end tt (λ job fact _. finished_grants (all_given s client block job.want) job.want) (λ job fact. tt)
slot_grants s (input.Deltas log first upto rows) =
    by_deltas AllGranted s log first upto rows tt (tt, tt)
    (λ _. (tt, (all_kept (slot.with_deltas s log upto rows) (ready_blocks s.jobs (slot_recalls.applied_upto s.applied log upto))).outs))
slot_grants s (input.Check block place) = by (slot.is_place (slot.entry_at s block).place place)
  where
    by : (t : Bool) → AllByRecursion (Granted s.epoch s.index.rows) (cond t (out.Live (slot.entry_at s block)) out.Dead ∷ [])
    by true = (tt, tt)
    by false = (tt, tt)
slot_grants s input.Tick = send_all_none s.epoch s.index.rows s.jobs
