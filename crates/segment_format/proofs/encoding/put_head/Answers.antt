use Rattle.std.proofs.Common.{[], ◌∷◌, ◌++◌, length}
use Rattle.std.specs.Int.{w16, w32, to_be_bytes}
use Rattle.segment_format.specs.Format.{mark}
use Rattle.segment_format.specs.Text.{name_text, prior_text, version_of}
use Rattle.segment_format.proofs.Writes.{wrote_2, wrote_5}
use Rattle.segment_format.proofs.encoding.put_head.Goals as goal

pub returns : goal.returns
returns c =
    let s = c.args.segment.now in
    let count = rw c.len.ensures at c.in_ok-put_u16.ensures.ok in
    let version = rw (c.version_of.ensures, c.as_slice.ensures) at c.in_ok-put_u8.ensures.ok in
    wrote_2 c.args.out.now (mark ++ version_of s.items ∷ name_text s.name ++ prior_text s.prior ++ to_be_bytes w32 s.group) (to_be_bytes w16 (length s.items))
    (wrote_5 c.args.out.now mark (version_of s.items ∷ []) (name_text s.name) (prior_text s.prior)
    (to_be_bytes w32 s.group) c.in_ok-put_bytes.ensures.ok version c.in_ok-put_name.ensures c.in_ok-put_prior.ensures c.in_ok-put_u32.ensures.ok)
    count
