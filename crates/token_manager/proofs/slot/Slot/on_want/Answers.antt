-- A want that is dropped changes nothing; another is recalled from those that are believed to stand in its way.
use Rattle.std.proofs.Common.{ℕ, List, ◌≡◌, ◌++◌, false, not, OnOk, sym, ap, subst, ◌∙◌, append-nil}
use Rattle.slot_beliefs.specs.declared.job.Wanted.{Wanted}
use Rattle.slot_beliefs.specs.Beliefs.{others}
use Rattle.token_manager.specs.SlotState.{SlotState}
use Rattle.token_manager.specs.Transition.{Done, is_dropped, on_want, recall_or_finish}
use Rattle.token_manager.proofs.Cases.{recalled_from, on_want-dropped, on_want-taken}
use Rattle.token_manager.proofs.slot.Slot.on_want.Goals as goal

pub returns-then-is_dropped-clause-state : goal.returns-then-is_dropped-clause-state
returns-then-is_dropped-clause-state c =
    ap (λ (d : Done). d.state) (sym (on_want-dropped c.args.self.now c.args.want c.args.end (sym c.is_dropped.ensures ∙ c.if-is_dropped.true)))

pub returns-then-is_dropped-clause-outs : goal.returns-then-is_dropped-clause-outs
returns-then-is_dropped-clause-outs c =
    sym (append-nil c.args.outs.now)
    ∙ ap (λ (d : Done). c.args.outs.now ++ d.outs)
    (sym (on_want-dropped c.args.self.now c.args.want c.args.end (sym c.is_dropped.ensures ∙ c.if-is_dropped.true)))

-- what holds of the recalls of a want from these clients, whom the slot's parts name, holds of what the want makes of the slot
of_recalls : (P : Done → Type 0) {was now : SlotState} (want : Wanted) (end : ℕ) (clients : List ℕ) → was ≡ now → clients ≡ recalled_from was want
    → is_dropped now want end ≡ false → P (recall_or_finish now want clients) → P (on_want now want end)
of_recalls P {now = now} want end clients same from taken holds =
    let theirs : clients ≡ recalled_from now want = subst (λ (s : SlotState). clients ≡ recalled_from s want) same from in
    subst P (ap (recall_or_finish now want) theirs ∙ sym (on_want-taken now want end taken)) holds

pub returns-clause-state : goal.returns-clause-state
returns-clause-state c =
    let want = c.args.want in
    of_recalls (λ d. OnOk c.recall_or_finish.result (c.recall_or_finish.new.self ≡ d.state)) want c.args.end c.as_slice.result.now c.self.view_is
    (c.as_slice.ensures ∙ c.in_ok-clients.ensures ∙ ap (λ own. others c.self.inside.beliefs.entries want.block want.client (not own)) c.is_own.ensures)
    (sym c.is_dropped.ensures ∙ c.if-is_dropped.false) c.recall_or_finish.ensures.state

pub returns-clause-outs : goal.returns-clause-outs
returns-clause-outs c =
    let want = c.args.want in
    of_recalls (λ d. OnOk c.recall_or_finish.result (c.recall_or_finish.new.outs ≡ c.args.outs.now ++ d.outs)) want c.args.end c.as_slice.result.now c.self.view_is
    (c.as_slice.ensures ∙ c.in_ok-clients.ensures ∙ ap (λ own. others c.self.inside.beliefs.entries want.block want.client (not own)) c.is_own.ensures)
    (sym c.is_dropped.ensures ∙ c.if-is_dropped.false) c.recall_or_finish.ensures.outs
