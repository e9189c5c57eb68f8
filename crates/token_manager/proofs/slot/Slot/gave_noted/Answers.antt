-- Where an answer is the last, the want is answered.
use Rattle.std.proofs.Common.{ℕ, List, ◌≡◌, ◌++◌, true, OnOk, sym, subst, ◌∙◌, ap}
use Rattle.xfs_base.specs.declared.block.BlockId.{BlockId}
use Rattle.slot_beliefs.specs.declared.job.Awaited.{Awaited}
use Rattle.slot_beliefs.specs.declared.job.Wanted.{Wanted}
use Rattle.slot_beliefs.specs.Recalls.{is_ready}
use Rattle.token_manager.specs.SlotState.{SlotState}
use Rattle.token_manager.specs.Transition.{Done, gave_last, gave_noted}
use Rattle.token_manager.proofs.Cases.{gave_noted-ready}
use Rattle.token_manager.proofs.slot.Slot.gave_noted.Goals as goal

-- what holds of the want's answer holds of what the last answer makes of the slot, whose parts say that it is the last
of_last : (P : Done → Type 0) {was now : SlotState} (client : ℕ) (block : BlockId) (want : Wanted) (awaited : List Awaited) → was ≡ now
    → is_ready was.applied awaited ≡ true → P (gave_last now client block want) → P (gave_noted now client block want awaited)
of_last P client block want awaited same ready last =
    let is_last = λ (s : SlotState). gave_noted s client block want awaited ≡ gave_last s client block want in
    subst P (sym (subst is_last same (gave_noted-ready _ client block want awaited ready))) last

pub returns-then-is_ready-clause-state : goal.returns-then-is_ready-clause-state
returns-then-is_ready-clause-state c =
    of_last (λ d. OnOk c.gave_last.result (c.gave_last.new.self ≡ d.state)) c.args.client c.args.block c.args.want c.args.awaited c.self.view_is
    (sym (c.is_ready.ensures ∙ ap (is_ready c.self.inside.applied) c.as_slice.ensures) ∙ c.if-is_ready.true) c.gave_last.ensures.state

pub returns-then-is_ready-clause-outs : goal.returns-then-is_ready-clause-outs
returns-then-is_ready-clause-outs c =
    of_last (λ d. OnOk c.gave_last.result (c.gave_last.new.outs ≡ c.args.outs.now ++ d.outs)) c.args.client c.args.block c.args.want c.args.awaited c.self.view_is
    (sym (c.is_ready.ensures ∙ ap (is_ready c.self.inside.applied) c.as_slice.ensures) ∙ c.if-is_ready.true) c.gave_last.ensures.outs
