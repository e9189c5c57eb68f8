-- What a slot's inputs leave of its index, of what is applied, and of its epoch.
use Rattle.std.proofs.Common.{ℕ, List, refl}
use Rattle.xfs_base.specs.declared.block.BlockId.{BlockId}
use Rattle.xfs_base.specs.declared.entry.Entry.{Entry}
use Rattle.xfs_base.specs.declared.segment.LogId.{LogId}
use Rattle.index_tie.specs.Net.{IsOfTokens}
use Rattle.index_tie.proofs.Slots.{Same, same_itself, answering}
use Rattle.slot_beliefs.specs.Recalls.{ready_blocks, applied_upto}
use Rattle.token_manager.specs.declared.input.In.{In}
use Rattle.token_manager.specs.declared.input.In.TheVariants.{Want, Gave, Deltas, Check, Tick}
use Rattle.token_manager.specs.SlotState.{SlotState}
use Rattle.token_manager.specs.Transition.{with_deltas, transition}
use Rattle.token_manager.proofs.Cases.{by_want, by_gave, by_deltas}

-- what is of tokens leaves these as they were
pub tokens_same : (s : SlotState) (i : In) → IsOfTokens i → Same s (transition s i).state
tokens_same s (Want want end) of =
    by_want (λ d. Same s d.state) s want end (same_itself s)
    (λ _ _. record { epoch = refl; applied = refl; index = refl }) (λ _. record { epoch = refl; applied = refl; index = refl })
tokens_same s (Gave client block stamp end) of =
    by_gave (λ d. Same s d.state) s client block stamp end (same_itself s) (λ _ _ _. record { epoch = refl; applied = refl; index = refl })
    (λ _ _. record { epoch = refl; applied = refl; index = refl })
tokens_same s (Deltas log first upto rows) of = absurd of
tokens_same s (Check block place) of = absurd of
tokens_same s Tick of = same_itself s

-- Deltas leave the slot as it was, or are put onto it
pub deltas_take : (Q : SlotState → Type 0) (s : SlotState) (log : LogId) (first upto : ℕ) (rows : List (BlockId × Entry)) → Q s
    → ((t : SlotState) → Same (with_deltas s log upto rows) t → Q t) → Q (transition s (Deltas log first upto rows)).state
deltas_take Q s log first upto rows stays puts = by_deltas (λ d. Q d.state) s log first upto rows stays stays
    (λ _. puts _ (answering (with_deltas s log upto rows) (ready_blocks s.jobs (applied_upto s.applied log upto))))
