use Rattle.std.proofs.Common.{[], ◌∷◌}
use Rattle.std.specs.Int.{w16, w32, to_be_bytes}
use Rattle.segment_format.specs.Text.{name_text}
use Rattle.segment_format.proofs.Writes.{wrote_4}
use Rattle.segment_format.proofs.encoding.put_place.Goals as goal

pub returns-in_ok-put_u16-in-Some : goal.returns-in_ok-put_u16-in-Some
returns-in_ok-put_u16-in-Some c =
    let p = c.in-Some.place in
    rw c.in-Some.is
    (wrote_4 c.args.out.now (1 ∷ []) (name_text p.seg.name) (to_be_bytes w32 p.seg.group)
    (to_be_bytes w16 p.item)
    c.in_ok-put_u8-in-Some.ensures.ok c.in_ok-put_name-in-Some.ensures c.in_ok-put_u32-in-Some.ensures.ok c.in_ok-put_u16-in-Some.ensures.ok)
