use Rattle.std.proofs.Common.{ap, ◌∙◌, reverse}
use Rattle.std.specs.Map.{keys_of}
use Rattle.xfs_base.specs.Blocks.{same_block}
use Rattle.xfs_base.proofs.BlockOrder.{same_block_exact}
use Rattle.coop_cache.proofs.Keys.{keys-promoted}
use Rattle.coop_cache.proofs.Orders.{touch-promoted}
use Rattle.coop_cache.proofs.cache.Cache.touch.Goals as goal

pub returns : goal.returns
returns c =
    let before = c.self.inside.blocks in
    rw (c.promote-was_here.ensures.entries, ← c.self.view_is)
    (ap (λ ks. record { blocks = reverse ks; capacity = before.cap })
    (keys-promoted (same_block c.args.block) c.args.block (same_block_exact c.args.block) before.entries)
    ∙ touch-promoted before.cap c.args.block (keys_of before.entries) c.len-count.ensures.valid.0)
