use Rattle.std.proofs.Common.{ap, ◌∙◌}
use Rattle.std.specs.BTreeMap.{insert_entry}
use Rattle.transcript.proofs.NodeOrder.{item_order}
use Rattle.transcript.proofs.Tables.{gathered}
use Rattle.transcript.proofs.replies.Gathering.answer.Goals as goal

pub returns : goal.returns
returns c =
    gathered c.args.self c.self.inside.table.entries c.insert.new.self.entries c.self.inside.falls c.handed_out-fallen.new.falls
    c.args.name c.args.place c.handed_out-fallen.result
    c.self.view_is
    (c.in_ok-insert.ensures.entries
    ∙ ap (λ f. insert_entry f c.self.inside.table.entries c.args.name (record { place = c.args.place; fallen = c.handed_out-fallen.result })) item_order)
    c.handed_out-fallen.ensures.fallen
    c.handed_out-fallen.ensures.rest
