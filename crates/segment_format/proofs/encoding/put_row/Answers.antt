use Rattle.std.specs.Int.{w32, w64, to_be_bytes}
use Rattle.segment_format.specs.Text.{block_text, place_text}
use Rattle.segment_format.proofs.Writes.{wrote_4}
use Rattle.segment_format.proofs.encoding.put_row.Goals as goal

pub returns : goal.returns
returns c =
    let e = c.args.entry in
    wrote_4 c.args.out.now (block_text c.args.block) (to_be_bytes w64 e.ver) (to_be_bytes w32 e.hop)
    (place_text e.place) c.in_ok-put_block.ensures c.in_ok-put_u64.ensures.ok c.in_ok-put_u32.ensures.ok c.in_ok-put_place.ensures
