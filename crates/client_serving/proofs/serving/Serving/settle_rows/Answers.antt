use Rattle.std.proofs.lemmas.Result.{on_ok_weaker}
use Rattle.client_serving.proofs.Parts.{settled_so}
use Rattle.client_serving.proofs.serving.Serving.settle_rows.Goals as goal

pub returns : goal.returns
returns c =
    on_ok_weaker c.keep_clean.result (settled_so c.args.self.now _ _ c.args.rows.now c.in_ok-note_settled.ensures) c.keep_clean.ensures
