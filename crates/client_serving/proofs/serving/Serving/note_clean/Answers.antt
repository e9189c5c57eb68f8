use Rattle.std.proofs.lemmas.Result.{on_ok_weaker}
use Rattle.client_serving.proofs.Parts.{cache_clean_so}
use Rattle.client_serving.proofs.serving.Serving.note_clean.Goals as goal

pub returns : goal.returns
returns c =
    on_ok_weaker c.evict_all.result
    (cache_clean_so c.args.self.now c.args.block _ _ _ c.in_ok-outs.ensures.state c.in_ok-outs.ensures.outs)
    c.evict_all.ensures
