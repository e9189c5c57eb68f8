use Rattle.std.proofs.Common.{◌≡◌, ◌++◌, sym, ap, ◌∙◌, length, drop, append-nil, arith}
use Rattle.std.proofs.lemmas.List.{at_drop_all}
use Rattle.world_base.specs.Dues.{dues_of}
use Rattle.world_base.proofs.Dues.{due_for_each}
use Rattle.world_base.proofs.due.dues_of.Goals as goal

pub returns-clause-one_each : goal.returns-clause-one_each
returns-clause-one_each c =
    let lines = c.args.lines.now in
    let node = c.args.node in
    let i = c.loop-line.line-index in
    let dues = c.loop-line.dues in
    let rest = at_drop_all (λ ls. dues_of ls node) lines i (omega arith) in
    ap length (sym (append-nil dues) ∙ ap (λ ds. dues ++ ds) (sym rest) ∙ c.loop-line.invariant) ∙ due_for_each lines node
