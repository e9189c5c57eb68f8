use Rattle.std.proofs.Common.{[], ◌∷◌}
use Rattle.std.specs.Int.{w16, w32, w64, to_be_bytes}
use Rattle.segment_format.specs.Text.{block_text}
use Rattle.segment_format.proofs.Writes.{wrote_5}
use Rattle.segment_format.proofs.encoding.put_item.Goals as goal

pub returns-in_ok-put_u16-in-Delta : goal.returns-in_ok-put_u16-in-Delta
returns-in_ok-put_u16-in-Delta c =
    let d = c.in-Delta in
    rw d.is (wrote_5 c.args.out.now (2 ∷ []) (block_text d.block) (to_be_bytes w64 d.ver) (to_be_bytes w32 d.hop)
    (to_be_bytes w16 d.item)
    c.in_ok-put_u8-in-Delta.ensures.ok c.in_ok-put_block-in-Delta.ensures c.in_ok-put_u64-in-Delta.ensures.ok c.in_ok-put_u32-in-Delta.ensures.ok
    c.in_ok-put_u16-in-Delta.ensures.ok)
