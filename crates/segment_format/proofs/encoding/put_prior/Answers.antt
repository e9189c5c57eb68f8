use Rattle.std.specs.Int.{w32, to_be_bytes}
use Rattle.segment_format.specs.Text.{pass_text}
use Rattle.segment_format.proofs.Writes.{wrote_2}
use Rattle.segment_format.proofs.encoding.put_prior.Goals as goal

pub returns : goal.returns
returns c = let p = c.args.prior in wrote_2 c.args.out.now (pass_text p.pass) (to_be_bytes w32 p.group) c.in_ok-put_pass.ensures c.in_ok-put_u32.ensures.ok
