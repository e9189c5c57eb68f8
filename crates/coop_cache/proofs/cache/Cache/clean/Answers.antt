use Rattle.std.proofs.Common.{◌≤◌, ap, ◌∙◌, length, reverse, map, arith}
use Rattle.std.proofs.lemmas.List.{length-map}
use Rattle.xfs_base.specs.declared.block.BlockId.{BlockId}
use Rattle.std.specs.Prelude.{option_to_list}
use Rattle.std.specs.Map.{keys_of}
use Rattle.xfs_base.specs.Blocks.{same_block}
use Rattle.xfs_base.proofs.BlockOrder.{same_block_exact}
use Rattle.coop_cache.specs.declared.output.Out.TheVariants.{Victim}
use Rattle.coop_cache.proofs.Keys.{keys-put_entries, key-displaced}
use Rattle.coop_cache.proofs.Orders.{reverse-pushed, pushed_out}
use Rattle.coop_cache.proofs.cache.Cache.clean.Goals as goal

pub returns-clause-state : goal.returns-clause-state
returns-clause-state c =
    let before = c.self.inside.blocks in
    let v = c.len-count.ensures.valid in
    let fits : length (keys_of before.entries) ≤ before.cap = omega (arith, v.1, length-map before.entries (λ (e : BlockId × Unit {0}). e.0)) in
    rw (c.in_ok-old.ensures.entries, ← c.self.view_is)
    (ap (λ ks. record { blocks = ks; capacity = before.cap })
    (ap reverse (keys-put_entries same_block before c.args.block tt (same_block_exact c.args.block))
    ∙ reverse-pushed before.cap c.args.block (keys_of before.entries) v.2 (fits) v.0))

pub returns-clause-outs : goal.returns-clause-outs
returns-clause-outs c =
    let before = c.self.inside.blocks in
    let v = c.len-count.ensures.valid in
    let fits : length (keys_of before.entries) ≤ before.cap = omega (arith, v.1, length-map before.entries (λ (e : BlockId × Unit {0}). e.0)) in
    rw (c.pushed_out.ensures, c.in_ok-old.ensures.old, c.contains-was_here.ensures, ← c.self.view_is)
    (ap (map Victim)
    (ap option_to_list (key-displaced same_block before c.args.block tt (same_block_exact c.args.block))
    ∙ pushed_out before.cap c.args.block (keys_of before.entries) v.2 (fits) v.0))
