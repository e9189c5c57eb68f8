use Rattle.std.proofs.Common.{rules}
use Rattle.token_client.specs.Transition.{drop_in}
use Rattle.xfs_base.proofs.Pairs.{map_each_pair}
use Rattle.token_client.proofs.table.drop_all_in.Goals as goal

pub returns : goal.returns
returns c = map_each_pair _ (drop_in c.args.slot) _ (λ k v b w f' t. search rules) _ _ c.retain.ensures.filtered
