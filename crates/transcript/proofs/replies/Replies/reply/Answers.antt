use Rattle.std.proofs.Common.{ap, ◌∙◌}
use Rattle.std.specs.BTreeMap.{get_by}
use Rattle.transcript.proofs.Lines.{reply_found}
use Rattle.transcript.proofs.NodeOrder.{item_order}
use Rattle.transcript.specs.Replies.{reply_of}
use Rattle.transcript.proofs.replies.Replies.reply.Goals as goal

pub returns : goal.returns
returns c =
    reply_found c.get.result (reply_of c.args.self.now c.args.name)
    (c.get.ensures.value ∙ ap (λ f. get_by (f c.args.name) c.self.inside.table) item_order ∙ ap (λ t. reply_of t c.args.name) c.self.view_is)
