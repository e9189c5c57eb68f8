use Rattle.std.proofs.Common.{refl}
use Rattle.version_model.specs.Effects.{pin}
use Rattle.version_model.proofs.ShownChanges.{where_ok, shown_put}
use Rattle.version_model.proofs.histories.Histories.pin.Goals as goal

pub returns : goal.returns
returns c =
    where_ok c.pin_version.result
    (λ e. shown_put (pin c.args.ver) c.args.block c.args.self.now (record { blocks = c.pin_version.new.blocks; told = c.args.self.now.told }) refl e)
    c.pin_version.ensures
