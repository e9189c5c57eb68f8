-- The parts of a line have their shapes.
use Rattle.std.proofs.Common.{◌≡◌, ℕ, ◌+◌, ◌==◌, true, List, [], ◌∷◌, ◌++◌, refl, ◌∙◌, ap, arith, Option, Some, None}
use Rattle.std.specs.Fmt.{decimal}
use Rattle.std.specs.Str.{bytes_eq}
use Rattle.act_text.specs.Acts.{flight_text, fall_text}
use Rattle.act_text.specs.Pieces.{block_text, node_text, segment_text}
use Rattle.audit.specs.Shapes.{is_writer, is_numbered, count_of, both, is_block, is_flight, is_fall, is_segment}
use Rattle.script_text.specs.Words.{Lacks}
use Rattle.script_text.proofs.Texts.{cut_there}
use Rattle.version_model.specs.declared.act.Fall.{Fall}
use Rattle.xfs_base.specs.Logs.{WritesLog, writer_of}
use Rattle.xfs_base.specs.declared.block.BlockId.{BlockId}
use Rattle.xfs_base.specs.declared.node.NodeId.{NodeId}
use Rattle.xfs_base.specs.declared.node.NodeId.TheVariants as nodes
use Rattle.xfs_base.specs.declared.segment.SegName.{SegName}
use Rattle.journal_law.specs.Told.{IsSegment}
use Rattle.journal_law.proofs.Bytes.{and_true, or_true, decimal_lacks, numbered, count_none, count_cut}
use Rattle.journal_law.proofs.Parts.{numbers_text, segment_parts, node_lacks_dot, block_lacks_colon, writer_writes}

-- one mark between two numbers
one_mark : (m a b : ℕ) → Lacks m (decimal a) → Lacks m (decimal b) → count_of m (decimal a ++ m ∷ decimal b) ≡ 1
one_mark m a b l k =
    let c : count_of m (decimal a ++ m ∷ decimal b) ≡ count_of m (decimal b) + 1 = count_cut m (decimal a) (decimal b) l in
    c ∙ ap (λ n. n + 1) (count_none m (decimal b) k)

test_count : (n k : ℕ) → n ≡ k → (k == k) ≡ true → (n == k) ≡ true
test_count n k e t = ap (λ x. x == k) e ∙ t

pub block_shape : (b : BlockId) → is_block (block_text b) ≡ true
block_shape b =
    test_count (count_of 47 (block_text b)) 1
    (one_mark 47 b.ino.0 b.blk (decimal_lacks 47 b.ino.0 (λ i. omega (arith, i.0))) (decimal_lacks 47 b.blk (λ i. omega (arith, i.0)))) refl

pub flight_shape : (flight : Option (ℕ × ℕ)) → is_flight (flight_text flight) ≡ true
flight_shape None = refl
flight_shape (Some p) =
    let w : List ℕ = decimal p.0 ++ 46 ∷ decimal p.1 in
    or_true (bytes_eq w (110 ∷ 111 ∷ 110 ∷ 101 ∷ []))
    (test_count (count_of 46 w) 1 (one_mark 46 p.0 p.1 (decimal_lacks 46 p.0 (λ i. omega (arith, i.0))) (decimal_lacks 46 p.1 (λ i. omega (arith, i.0)))) refl)

pub fall_shape : (f : Fall) → is_fall (fall_text f) ≡ true
fall_shape f =
    let rest : List ℕ = decimal f.low ++ 58 ∷ decimal f.high in
    let n = one_mark 58 f.low f.high (decimal_lacks 58 f.low (λ i. omega (arith, i.1))) (decimal_lacks 58 f.high (λ i. omega (arith, i.1))) in
    ap (λ c. both is_block (λ r. count_of 58 r == 1) c) (cut_there 58 (block_text f.block) rest (block_lacks_colon f.block))
    ∙ and_true (block_shape f.block) (test_count (count_of 58 rest) 1 n refl)

pub writer_shape : (node : NodeId) → WritesLog node → is_writer (node_text node) ≡ true
writer_shape (nodes.Client n) h = let e : is_numbered 99 (99 ∷ decimal n) ≡ true = numbered 99 n in rw e refl
writer_shape (nodes.Manager n) h = let e : is_numbered 109 (109 ∷ decimal n) ≡ true = numbered 109 n in rw e refl
writer_shape (nodes.Server n) h = absurd h
writer_shape nodes.Cleaner h = refl
writer_shape nodes.Registry h = absurd h

two_marks : (seg : SegName) → count_of 46 (numbers_text seg) ≡ 2
two_marks seg =
    let rest : List ℕ = decimal seg.pass.inc ++ 46 ∷ decimal seg.pass.att in
    let l = decimal_lacks 46 seg.seq (λ i. omega (arith, i.0)) in
    let n = one_mark 46 seg.pass.inc seg.pass.att (decimal_lacks 46 seg.pass.inc (λ i. omega (arith, i.0)))
    (decimal_lacks 46 seg.pass.att (λ i. omega (arith, i.0))) in
    count_cut 46 (decimal seg.seq) rest l ∙ ap (λ k. k + 1) n

pub segment_shape : (seg : SegName) → IsSegment seg → is_segment (segment_text seg) ≡ true
segment_shape seg h =
    let node = writer_of seg.log.0 in
    let w = writer_writes seg.log.0 h.written h.log in
    ap is_segment (segment_parts seg)
    ∙ ap (λ c. both is_writer (λ r. count_of 46 r == 2) c) (cut_there 46 (node_text node) (numbers_text seg) (node_lacks_dot node w.0))
    ∙ and_true (writer_shape node w.0) (test_count (count_of 46 (numbers_text seg)) 2 (two_marks seg) refl)
