-- Each grant, forward and recall of an input other than a tick bears the turn after the one before.
use Rattle.std.proofs.Common.{◌≡◌, ℕ, ◌+◌, Bool, true, false, cond, not, List, [], ◌∷◌, ◌++◌, length, refl, subst, ◌∙◌, arith}
use Rattle.xfs_base.specs.Steps.{steps}
use Rattle.xfs_base.specs.declared.block.BlockId.{BlockId}
use Rattle.xfs_base.specs.Modes.{is_own}
use Rattle.slot_beliefs.specs.declared.job.Wanted.{Wanted}
use Rattle.slot_beliefs.specs.Recalls.{recalls, ready_blocks, applied_upto}
use Rattle.token_manager.specs.declared.output.Out.{Out}
use Rattle.token_manager.specs.declared.output.Out.TheVariants.{Grant, Forward, Recall, Applied, Live, Dead}
use Rattle.token_manager.specs.declared.input.In.{In}
use Rattle.token_manager.specs.declared.input.In.TheVariants.{Want, Gave, Deltas, Check, Tick}
use Rattle.token_manager.specs.Recalls.{send_recalls}
use Rattle.token_manager.specs.SlotState.{SlotState}
use Rattle.token_manager.specs.Transition.{Done, passers, answer, with_deltas, finish_job, is_place, entry_at, transition}
use Rattle.token_manager.specs.Laws.{CountsTurns, IsNotTick}
use Rattle.token_manager.proofs.Cases.{recalled_from, by_want, all_given, by_gave, by_deltas, let_go, by_finished_at}

-- one list of outs after another
takes_both : (epoch from at last : ℕ) (xs ys : List Out) → CountsTurns epoch from xs at → CountsTurns epoch at ys last → CountsTurns epoch from (xs ++ ys) last
takes_both epoch from at last [] ys xs_take ys_take = subst (λ t. CountsTurns epoch t ys last) xs_take ys_take
takes_both epoch from at last (Grant client block st inc req mode entry ∷ xs) ys xs_take ys_take =
    (xs_take.0, takes_both epoch (from + 1) at last xs ys xs_take.1 ys_take)
takes_both epoch from at last (Forward client block st to inc req ver ∷ xs) ys xs_take ys_take =
    (xs_take.0, takes_both epoch (from + 1) at last xs ys xs_take.1 ys_take)
takes_both epoch from at last (Recall client block st keep ∷ xs) ys xs_take ys_take = (xs_take.0, takes_both epoch (from + 1) at last xs ys xs_take.1 ys_take)
takes_both epoch from at last (Applied log upto ∷ xs) ys xs_take ys_take = takes_both epoch from at last xs ys xs_take ys_take
takes_both epoch from at last (Live entry ∷ xs) ys xs_take ys_take = takes_both epoch from at last xs ys xs_take ys_take
takes_both epoch from at last (Dead ∷ xs) ys xs_take ys_take = takes_both epoch from at last xs ys xs_take ys_take

takes-recalls : (epoch turn : ℕ) (block : BlockId) (keep : Bool) (clients : List ℕ)
    → CountsTurns epoch turn (send_recalls block (recalls epoch turn keep clients)) (turn + length clients)
takes-recalls epoch turn block keep [] = omega arith
takes-recalls epoch turn block keep (c ∷ cs) =
    let same : turn + 1 + length cs ≡ turn + length (c ∷ cs) = omega arith in
    (refl, subst (CountsTurns epoch (turn + 1) (send_recalls block (recalls epoch (turn + 1) keep cs))) same (takes-recalls epoch (turn + 1) block keep cs))

-- the epoch stays, and the turns are taken
abbrev Takes : SlotState → Done → Type 0
Takes s r = (r.state.epoch ≡ s.epoch) × CountsTurns s.epoch s.turn r.outs r.state.turn

takes-answer : (s : SlotState) (want : Wanted) (passers : List ℕ) → CountsTurns s.epoch s.turn (answer s want passers ∷ []) (s.turn + 1)
takes-answer s want [] = (refl, refl)
takes-answer s want (c ∷ cs) = (refl, refl)

takes-finish_job : (s : SlotState) (block : BlockId) → Takes s (finish_job s block)
takes-finish_job s block =
    by_finished_at (Takes s) s block (refl, refl) (λ job fact. (refl, takes-answer (let_go s block) job.want (passers (let_go s block) job.want)))

takes-steps : (s : SlotState) (blocks : List BlockId) → Takes s (steps finish_job s blocks)
takes-steps s [] = (refl, refl)
takes-steps s (b ∷ bs) =
    let one = takes-finish_job s b in
    let next = (finish_job s b).state in
    let rest = takes-steps next bs in (
      rest.0 ∙ one.0,
      takes_both s.epoch s.turn next.turn _ (finish_job s b).outs (steps finish_job next bs).outs one.1
          (subst (λ e. CountsTurns e next.turn (steps finish_job next bs).outs (steps finish_job next bs).state.turn) one.0 rest.1),
    )

pub takes-transition : (s : SlotState) (input : In) → IsNotTick input → Takes s (transition s input)
takes-transition s (Want want end) _ =
    by_want (Takes s) s want end (refl, refl) (λ _ _. (refl, takes-answer s want (passers s want)))
    (λ _. (refl, takes-recalls s.epoch s.turn want.block (not (is_own want.mode)) (recalled_from s want)))
takes-transition s (Gave client block stamp end) _ =
    by_gave (Takes s) s client block stamp end (refl, refl)
    (λ job fact ready. (refl, takes-answer (all_given s client block job.want) job.want (passers (all_given s client block job.want) job.want)))
    (λ _ _. (refl, refl))
takes-transition s (Deltas log first upto rows) _ =
    by_deltas (Takes s) s log first upto rows (refl, refl) (refl, refl)
    (λ _. takes-steps (with_deltas s log upto rows) (ready_blocks s.jobs (applied_upto s.applied log upto)))
takes-transition s (Check block place) _ = (refl, takes-check (is_place (entry_at s block).place place))
  where
    takes-check : (b : Bool) → CountsTurns s.epoch s.turn (cond b (Live (entry_at s block)) Dead ∷ []) s.turn
    takes-check true = refl
    takes-check false = refl
takes-transition s Tick news = absurd news
