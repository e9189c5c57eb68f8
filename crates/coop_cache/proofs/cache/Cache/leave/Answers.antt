use Rattle.std.proofs.Common.{ap, ◌∙◌, reverse}
use Rattle.std.specs.Map.{keys_of}
use Rattle.xfs_base.specs.Blocks.{same_block}
use Rattle.coop_cache.proofs.Keys.{keys-remove_entry}
use Rattle.coop_cache.proofs.Orders.{reverse-remove_key}
use Rattle.coop_cache.proofs.cache.Cache.leave.Goals as goal

pub returns : goal.returns
returns c =
    let before = c.self.inside.blocks in
    rw (c.pop-was_here.ensures.entries, ← c.self.view_is)
    (ap (λ ks. record { blocks = ks; capacity = before.cap })
    (ap reverse (keys-remove_entry (same_block c.args.block) before.entries)
    ∙ reverse-remove_key c.args.block (keys_of before.entries) c.len-count.ensures.valid.0))
