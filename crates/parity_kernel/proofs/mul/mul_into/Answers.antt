use Rattle.std.proofs.Common.{◌≡◌, ◌+◌, ◌++◌, List, ℕ, length, take, drop, ◌∙◌, sym, ap, arith}
use Rattle.std.specs.Int.Bits.{bit_xor}
use Rattle.std.proofs.lemmas.List.{length-map, take-map, drop-map}
use Rattle.std.specs.Simd.Lanes.{chunk, put_chunk}
use Rattle.parity_kernel.specs.Field.{product}
use Rattle.parity_kernel.specs.Bytewise.{xor_of, times}
use Rattle.parity_kernel.proofs.Bytes.{xor_undone}
use Rattle.parity_kernel.proofs.Chunks.{chunk_more, zip2_undone}
use Rattle.parity_kernel.proofs.mul.mul_into.Goals as goal

pub loop-to-preserved : goal.loop-to-preserved
loop-to-preserved c =
    let products = times c.args.by c.args.from.now in
    let done = c.loop-to.done in
    let next = done + 32 in
    let to = c.loop-to.to in
    let now_and_left = λ (to : List ℕ). take next to ++ xor_of (drop next to) (times c.args.by (drop next c.args.from.now)) in
    let vector : times c.args.by (chunk done 32 c.args.from.now) ≡ chunk done 32 products =
    sym (take-map (product c.args.by) 32 (drop done c.args.from.now)) ∙ ap (take 32) (sym (drop-map (product c.args.by) done c.args.from.now)) in
    let rest : times c.args.by (drop next c.args.from.now) ≡ drop next products = sym (drop-map (product c.args.by) next c.args.from.now) in
    let stored : c.mul_lanes.new.to ≡ put_chunk done to (xor_of (chunk done 32 to) (chunk done 32 products)) =
    c.mul_lanes.ensures
    ∙ ap (λ (by : ℕ). put_chunk done to (xor_of (chunk done 32 to) (times by (chunk done 32 c.args.from.now)))) c.of-tables.ensures
    ∙ ap (λ (p : List ℕ). put_chunk done to (xor_of (chunk done 32 to) p)) vector in
    let many : length products ≡ length c.args.from.now = length-map c.args.from.now (product c.args.by) in
    record {
      within = omega arith;
      folded = ap now_and_left stored
          ∙ ap (λ (p : List ℕ). take next (put_chunk done to (xor_of (chunk done 32 to) (chunk done 32 products)))
          ++ xor_of (drop next (put_chunk done to (xor_of (chunk done 32 to) (chunk done 32 products)))) p) rest
          ∙ chunk_more bit_xor to products done 32 (omega arith) (omega arith)
          ∙ ap (λ (p : List ℕ). take done to ++ xor_of (drop done to) p) (drop-map (product c.args.by) done c.args.from.now) ∙ c.loop-to.invariant.folded;
    }

pub returns-clause-undone : goal.returns-clause-undone
returns-clause-undone c =
    let to = c.args.to.now in
    let products = times c.args.by c.args.from.now in
    let many : length products ≡ length c.args.from.now = length-map c.args.from.now (product c.args.by) in
    ap (λ (now : List ℕ). xor_of now products) (c.mul_bytes.ensures ∙ c.loop-to.invariant.folded)
    ∙ zip2_undone bit_xor xor_undone to products (c.requires ∙ sym many)
