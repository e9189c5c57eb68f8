use Rattle.std.proofs.Common.{◌≡◌, ◌+◌, ◌-◌, cond, [], ◌∷◌, ◌++◌, sym, ap, ◌∙◌, append-nil}
use Rattle.std.specs.Prelude.{filter}
use Rattle.std.specs.List.{range_with_len}
use Rattle.log_scan.specs.Transition.{awaits}
use Rattle.log_scan.proofs.Loops.{servers_step}
use Rattle.log_scan.proofs.opening.Opening.awaited.Goals as goal
use Rattle.log_scan.proofs.opening.Opening.awaited.Goals.{then-awaits+in_ok-push, else-awaits}

pub loop-before-preserved : goal.loop-before-preserved
loop-before-preserved c =
    let o = c.args.self.now in
    let lists = c.args.lists.now in
    let i = c.loop-before.before in
    let n = c.server_count-before-end.result in
    let here : c.if-awaits.servers ≡ c.loop-before.servers ++ cond (awaits o.groups lists (i + 1)) ((i + 1) ∷ []) [] =
    elim c.if-awaits.branch [
      | then-awaits+in_ok-push w ↦ w.servers-is ∙ w.in_ok-push.ensures.ok
          ∙ ap (λ b. c.loop-before.servers ++ cond b ((i + 1) ∷ []) []) (sym w.if-awaits.true ∙ c.awaits.ensures)
      | else-awaits w ↦ w.servers-is ∙ sym (append-nil c.loop-before.servers)
          ∙ ap (λ b. c.loop-before.servers ++ cond b ((i + 1) ∷ []) []) (sym w.if-awaits.false ∙ c.awaits.ensures)
    ]
    in
    ap (λ front. front ++ filter (awaits o.groups lists) (range_with_len (i + 1 + 1) (n - (i + 1)))) here
    ∙ sym (servers_step (awaits o.groups lists) c.loop-before.servers i n c.loop-before-test.true)
    ∙ c.loop-before.invariant
