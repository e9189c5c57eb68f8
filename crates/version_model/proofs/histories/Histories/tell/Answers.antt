use Rattle.std.proofs.Common.{refl}
use Rattle.version_model.proofs.ShownChanges.{where_ok, shown_told}
use Rattle.version_model.proofs.histories.Histories.tell.Goals as goal

pub returns : goal.returns
returns c =
    where_ok c.add_told.result
    (λ e. shown_told c.args.client c.args.fall c.args.self.now (record { blocks = c.args.self.now.blocks; told = c.add_told.new.told }) refl e)
    c.add_told.ensures
