-- Every slot that a manager ever had came from a start by inputs. So, deposed or not, its wants stand in order, and each recall that is out bears its
-- epoch and a turn above 0: what its tick sends again is of no later epoch.
use Rattle.std.proofs.Common.{◌≡◌, ◌<◌, ℕ, true, false, cond, not, List, [], ◌∷◌, ◌++◌, All, is_some, refl, sym, ap, subst, ◌∙◌, arith}
use Rattle.std.proofs.lemmas.List.Elements.{All-head, All-tail}
use Rattle.xfs_base.specs.declared.block.BlockId.{BlockId}
use Rattle.xfs_base.specs.declared.entry.Entry.{Entry}
use Rattle.xfs_base.specs.declared.token.Mode.{Mode}
use Rattle.xfs_base.specs.Modes.{is_own}
use Rattle.xfs_base.proofs.StepLoops.{steps_both, steps_keep}
use Rattle.slot_beliefs.specs.declared.job.Awaited.{Awaited}
use Rattle.slot_beliefs.specs.Recalls.{recalls, noted, ready_blocks, applied_upto}
use Rattle.token_manager.specs.declared.input.In.{In}
use Rattle.token_manager.specs.declared.input.In.TheVariants.{Want, Gave, Deltas, Check, Tick}
use Rattle.token_manager.specs.Laws.{IsGivenOut, RecallsAreGivenOut, state_after}
use Rattle.token_manager.specs.Recalls.{recall_of, send_recalls, send_all}
use Rattle.token_manager.specs.SlotState.{SlotState}
use Rattle.token_manager.specs.Transition.{slot_start, with_deltas, finish_job, transition}
use Rattle.token_manager.proofs.Cases.{recalled_from, by_want, by_gave, by_deltas, by_finished_at}
use Rattle.token_manager.proofs.JobsBarGrants.{Waiting, waiting-removed, waiting-put, nobody_waits}
use Rattle.token_manager.proofs.RecallTurns.{given-all}
use Rattle.token_protocol.specs.World.{World}
use Rattle.token_tie.specs.Managed.{AllTold}
use Rattle.token_tie.proofs.Applying.{send_all-told}

-- It came from a start by these inputs.
pub record Ran (s : SlotState) : Type 0 where
  pub epoch : ℕ
  pub index : List (BlockId × Entry)
  pub beliefs : List (BlockId × ℕ × Mode)
  pub applied : List ℕ
  pub taken : List In
  pub reaches : s ≡ state_after (slot_start epoch index beliefs applied) taken

pub begun : (epoch : ℕ) (index : List (BlockId × Entry)) (beliefs : List (BlockId × ℕ × Mode)) (applied : List ℕ) → Ran (slot_start epoch index beliefs applied)
begun epoch index beliefs applied = record { epoch = epoch; index = index; beliefs = beliefs; applied = applied; taken = []; reaches = refl }

pub on : (s : SlotState) (x : In) → Ran s → Ran (transition s x).state
on s x r = record {
  epoch = r.epoch;
  index = r.index;
  beliefs = r.beliefs;
  applied = r.applied;
  taken = r.taken ++ x ∷ [];
  reaches = ap (λ (z : SlotState). (transition z x).state) r.reaches
      ∙ sym (steps_both transition (slot_start r.epoch r.index r.beliefs r.applied) r.taken (x ∷ []));
}

-- ---- its wants stand in order

waiting-transition : (s : SlotState) (x : In) → Waiting s.jobs → Waiting (transition s x).state.jobs
waiting-transition s (Want want end) w =
    by_want (λ r. Waiting r.state.jobs) s want end w (λ _ _. w)
    (λ _. waiting-put s.jobs want.block (record { want = want; awaited = recalls s.epoch s.turn (not (is_own want.mode)) (recalled_from s want) }) refl w)
waiting-transition s (Gave client block stamp end) w =
    by_gave (λ r. Waiting r.state.jobs) s client block stamp end w (λ job fact _. waiting-removed s.jobs block w)
    (λ job fact. waiting-put s.jobs block (record { want = job.want; awaited = noted job.awaited client stamp end }) (w.own block job fact) w)
waiting-transition s (Deltas log first upto rows) w =
    by_deltas (λ r. Waiting r.state.jobs) s log first upto rows w w
    (λ _. steps_keep finish_job (λ (z : SlotState). Waiting z.jobs)
    (λ z block v. by_finished_at (λ r. Waiting r.state.jobs) z block v (λ job fact. waiting-removed z.jobs block v))
    (with_deltas s log upto rows) (ready_blocks s.jobs (applied_upto s.applied log upto)) w)
waiting-transition s (Check block place) w = w
waiting-transition s Tick w = w

waiting : (s : SlotState) → Ran s → Waiting s.jobs
waiting s r =
    subst (λ (z : SlotState). Waiting z.jobs) (sym r.reaches)
    (steps_keep transition (λ (z : SlotState). Waiting z.jobs) waiting-transition (slot_start r.epoch r.index r.beliefs r.applied) r.taken nobody_waits)

given : (s : SlotState) → Ran s → RecallsAreGivenOut s
given s r = subst RecallsAreGivenOut (sym r.reaches) (given-all r.epoch r.index r.beliefs r.applied r.taken)

-- ---- what its tick sends again

-- recalls of an epoch before the reigning one ask nothing
send_recalls-stale : (b : BlockId) (w : World) (epoch turn : ℕ) (rows : List Awaited) → epoch < w.epoch → All (IsGivenOut epoch turn) rows → AllTold b w (send_recalls b rows)
send_recalls-stale b w epoch turn [] old all = tt
send_recalls-stale b w epoch turn (a ∷ rows) old all =
    let here : IsGivenOut epoch turn a = All-head (IsGivenOut epoch turn) a rows all in
    let of_epoch = here.of_epoch in
    let from_1 = here.from_1 in
    let rest = send_recalls-stale b w epoch turn rows old (All-tail (IsGivenOut epoch turn) a rows all) in
    elim (is_some a.end) as (λ t. AllTold b w (cond t (send_recalls b rows) (recall_of b a ∷ send_recalls b rows))) [
      | true ↦ rest
      | false ↦ (λ same. record { low = omega arith; some = omega arith; recalled = λ reigns. absurd (omega arith) }, rest)
    ]

pub tick_stale : (b : BlockId) (w : World) (s : SlotState) → Ran s → s.epoch < w.epoch → AllTold b w (send_all s.jobs)
tick_stale b w s r old = send_all-told false b w s.jobs (waiting s r).sorted (λ job fact. send_recalls-stale b w s.epoch s.turn job.awaited old (given s r b job fact))
