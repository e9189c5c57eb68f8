use Rattle.std.proofs.Common.{refl}
use Rattle.version_model.specs.Effects.{append}
use Rattle.version_model.proofs.ShownChanges.{where_ok, shown_put}
use Rattle.version_model.proofs.histories.Histories.write.Goals as goal

pub returns : goal.returns
returns c =
    where_ok c.append_version.result
    (λ e. shown_put (append (record { content = c.args.content.now; writer = c.args.writer })) c.args.block c.args.self.now
    (record { blocks = c.append_version.new.blocks; told = c.args.self.now.told }) refl e) c.append_version.ensures
