use Rattle.std.proofs.Common.{[], ◌∷◌}
use Rattle.std.specs.Int.{w32, to_be_bytes}
use Rattle.segment_format.specs.Text.{pass_text}
use Rattle.segment_format.proofs.Writes.{wrote_3}
use Rattle.segment_format.proofs.encoding.put_name.Goals as goal

pub returns : goal.returns
returns c = let n =
    c.args.name in
    wrote_3 c.args.out.now (n.log.0 ∷ []) (to_be_bytes w32 n.seq)
    (pass_text n.pass) c.in_ok-put_u8.ensures.ok c.in_ok-put_u32.ensures.ok c.in_ok-put_pass.ensures
