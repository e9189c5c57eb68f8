use Rattle.std.proofs.Common.{◌≡◌, ◌++◌, drop}
use Rattle.act_text.specs.Acts.{chain_text}
use Rattle.act_text.proofs.act_line.add_chain.Given as goal

abbrev pub invariant-loop-seg : goal.invariant-loop-seg
invariant-loop-seg l = l.text ++ chain_text (drop l.seg-index l.chain) ≡ l.fn.text ++ chain_text l.chain
