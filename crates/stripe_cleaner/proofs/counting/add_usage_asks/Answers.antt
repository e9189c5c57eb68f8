use Rattle.std.proofs.Common.{◌≡◌, ◌+◌, cond, [], ◌∷◌, ◌++◌, drop, get_or, sym, ap, ◌∙◌, append-nil, append_assoc}
use Rattle.std.specs.Prelude.{not}
use Rattle.stripe_cleaner.specs.declared.output.Out.TheVariants.{UsageAsk}
use Rattle.stripe_cleaner.specs.Counting.{has_usage, awaited_among}
use Rattle.stripe_cleaner.specs.Transition.{usage_asks}
use Rattle.stripe_cleaner.proofs.Loops.{asks_step}
use Rattle.stripe_cleaner.proofs.counting.add_usage_asks.Goals as goal
use Rattle.stripe_cleaner.proofs.counting.add_usage_asks.Goals.{then-is_awaited+in_ok-push, else-is_awaited}

pub loop-slot-preserved : goal.loop-slot-preserved
loop-slot-preserved c =
    let es = c.args.usages.now.entries in
    let slots = c.args.slots.now in
    let i = c.loop-slot.slot-index in
    let slot = get_or slots i 0 in
    let here : c.if-is_awaited.outs ≡ c.loop-slot.outs ++ cond (not (has_usage es slot)) (UsageAsk slot ∷ []) [] =
    elim c.if-is_awaited.branch [
      | then-is_awaited+in_ok-push w ↦ w.outs-is ∙ w.in_ok-push.ensures.ok
          ∙ ap (λ b. c.loop-slot.outs ++ cond b (UsageAsk slot ∷ []) []) (sym w.if-is_awaited.true ∙ c.is_awaited.ensures)
      | else-is_awaited w ↦ w.outs-is ∙ sym (append-nil c.loop-slot.outs)
          ∙ ap (λ b. c.loop-slot.outs ++ cond b (UsageAsk slot ∷ []) []) (sym w.if-is_awaited.false ∙ c.is_awaited.ensures)
    ]
    in
    ap (λ front. front ++ usage_asks (awaited_among es (drop (i + 1) slots))) here
    ∙ append_assoc c.loop-slot.outs (cond (not (has_usage es slot)) (UsageAsk slot ∷ []) []) (usage_asks (awaited_among es (drop (i + 1) slots)))
    ∙ ap (λ rest. c.loop-slot.outs ++ rest) (sym (asks_step es slots i 0 c.loop-slot-test.true))
    ∙ c.loop-slot.invariant
