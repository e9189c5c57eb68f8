use Rattle.std.proofs.Common.{◌≡◌, ◌+◌, ◌-◌, cond, [], ◌∷◌, ◌++◌, sym, ap, ◌∙◌, append-nil}
use Rattle.std.specs.List.{flat_map, range_with_len}
use Rattle.group_rebuild.specs.Transition.{if_awaited}
use Rattle.group_rebuild.proofs.Loops.{count_step}
use Rattle.group_rebuild.proofs.rebuild.Rebuild.awaited.Goals as goal
use Rattle.group_rebuild.proofs.rebuild.Rebuild.awaited.Goals.{then-awaits+in_ok-push, else-awaits}

pub loop-before-preserved : goal.loop-before-preserved
loop-before-preserved c =
    let s = c.args.self.now in
    let i = c.loop-before.before in
    let n = c.servers-before-end.result in
    let here : c.if-awaits.servers ≡ c.loop-before.servers ++ if_awaited s i =
    elim c.if-awaits.branch [
      | then-awaits+in_ok-push w ↦ w.servers-is ∙ w.in_ok-push.ensures.ok
          ∙ ap (λ b. c.loop-before.servers ++ cond b ((i + 1) ∷ []) []) (sym w.if-awaits.true ∙ c.awaits.ensures)
      | else-awaits w ↦ w.servers-is ∙ sym (append-nil c.loop-before.servers)
          ∙ ap (λ b. c.loop-before.servers ++ cond b ((i + 1) ∷ []) []) (sym w.if-awaits.false ∙ c.awaits.ensures)
    ]
    in
    ap (λ front. front ++ flat_map (if_awaited s) (range_with_len (i + 1) (n - (i + 1)))) here
    ∙ sym (count_step (if_awaited s) c.loop-before.servers i n c.loop-before-test.true)
    ∙ c.loop-before.invariant
