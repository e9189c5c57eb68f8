use Rattle.std.proofs.Common.{ap, ◌∙◌}
use Rattle.std.specs.BTreeMap.{insert_entry}
use Rattle.transcript.proofs.NodeOrder.{node_order}
use Rattle.transcript.proofs.Tables.{numbers_next_is}
use Rattle.transcript.proofs.numbers.Numbers.next.Goals as goal

pub returns-clause-noted : goal.returns-clause-noted
returns-clause-noted c =
    c.in_ok-insert.ensures.entries
    ∙ ap (λ f. insert_entry f c.self.inside.last.entries c.args.node c.saturating_add-number.result) node_order
    ∙ numbers_next_is c.self.inside.last.entries c.args.self.now c.args.node c.last.result c.saturating_add-number.result c.self.view_is c.last.ensures
    c.saturating_add-number.ensures
