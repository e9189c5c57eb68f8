use Rattle.std.proofs.Common.{◌+◌, ◌++◌, List, ℕ, take, drop, ◌∙◌, ap, arith}
use Rattle.std.specs.Int.Bits.{bit_xor}
use Rattle.parity_kernel.specs.Bytewise.{xor_of}
use Rattle.parity_kernel.proofs.Bytes.{xor_undone}
use Rattle.parity_kernel.proofs.Chunks.{chunk_more, zip2_undone}
use Rattle.parity_kernel.proofs.xor.xor_into.Goals as goal

pub loop-to-preserved : goal.loop-to-preserved
loop-to-preserved c =
    let from = c.args.from.now in
    let done = c.loop-to.done in
    let next = done + 32 in
    let now_and_left = λ (to : List ℕ). take next to ++ xor_of (drop next to) (drop next from) in
    record {
      within = omega arith;
      folded = ap now_and_left c.xor_lanes.ensures ∙ chunk_more bit_xor c.loop-to.to from done 32 (omega arith) (omega arith) ∙ c.loop-to.invariant.folded;
    }

pub returns-clause-undone : goal.returns-clause-undone
returns-clause-undone c =
    let to = c.args.to.now in
    let from = c.args.from.now in
    ap (λ (now : List ℕ). xor_of now from) (c.xor_bytes.ensures ∙ c.loop-to.invariant.folded) ∙ zip2_undone bit_xor xor_undone to from c.requires
