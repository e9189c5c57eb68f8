use Rattle.std.proofs.Common.{refl, rules}
use Rattle.xfs_base.proofs.Pairs.{map_each_pair}
use Rattle.version_model.specs.Effects.{pin_all}
use Rattle.version_model.proofs.ShownChanges.{shown_pinned}
use Rattle.version_model.proofs.histories.Histories.sync.Goals as goal

pub returns : goal.returns
returns c =
    shown_pinned c.args.client c.args.self.now (record { blocks = c.retain.new.self; told = c.args.self.now.told }) refl
    (map_each_pair _ (λ b. pin_all c.args.client) _ (λ k v b w f' t. search rules) _ _ c.retain.ensures.filtered)
