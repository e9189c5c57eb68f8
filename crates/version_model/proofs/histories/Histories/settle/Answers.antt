use Rattle.version_model.proofs.ShownChanges.{where_ok, shown_back}
use Rattle.version_model.proofs.histories.Histories.settle.Goals as goal

pub returns : goal.returns
returns c =
    where_ok c.settle_told.result
    (λ e. shown_back c.args.client c.args.chain.now _ c.args.self.now
    (record { blocks = c.settle_told.new.blocks; told = c.take_told-told.new.told }) c.take_told-told.ensures.found c.take_told-told.ensures.cleared e)
    c.settle_told.ensures
