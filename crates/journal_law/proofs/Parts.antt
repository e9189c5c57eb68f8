-- The parts of a line are read as they are written.
use Rattle.std.proofs.Common.{◌≡◌, ℕ, ◌-◌, ◌<◌, ◌≤◌, ◌^◌, ◌==◌, nat_le, nat_lt, Bool, true, false, List, [], ◌∷◌, ◌++◌, length, codes, refl, sym, ◌∙◌, ap, arith, Option, Some, None, Result, Ok, if◌then◌else◌, append_assoc}
use Rattle.std.specs.Fmt.{decimal}
use Rattle.std.specs.Str.{bytes_eq}
use Rattle.std.specs.Str.Parse.{digits_value}
use Rattle.std.proofs.lemmas.Bool.Decides.{nat_tests}
use Rattle.std.proofs.lemmas.Bool.{eqb-true, eqb-false, ltb-true, ltb-false}
use Rattle.std.proofs.lemmas.Fmt.{digits_value-decimal}
use Rattle.std.proofs.lemmas.Slice.Eq.{bytes_eq-Decides}
use Rattle.act_text.specs.Acts.{flight_text, fall_text}
use Rattle.act_text.specs.Pieces.{value_text, block_text, node_text, segment_text}
use Rattle.audit.specs.Acts.{read_number, read_counted, long_of, read_long, read_node, read_client, read_writer, read_block, segment_at, read_segment, read_version, value_of, read_value, read_flight, read_fall}
use Rattle.audit.specs.Shapes.{front, back}
use Rattle.script_print.proofs.Bytes.{lacks_join, text_written}
use Rattle.script_print.specs.Printing.{text_body}
use Rattle.script_text.proofs.Judged.{judge_good}
use Rattle.script_text.proofs.Texts.{written_read}
use Rattle.script_text.proofs.WordLemmas.{own, number_decimal}
use Rattle.script_text.specs.Outcome.{◌>>=◌, or_fault}
use Rattle.script_text.specs.Reading.{number_of, quoted_text, is_one_of}
use Rattle.script_text.specs.Text.{quoted}
use Rattle.script_text.specs.Words.{Lacks}
use Rattle.script_text.specs.declared.refusal.Kind.{Kind}
use Rattle.script_text.specs.declared.refusal.Kind.TheVariants.{BadNumber, BadText, NoNode}
use Rattle.version_model.specs.declared.act.Fall.{Fall}
use Rattle.xfs_base.specs.Logs.{WritesLog, log_of, writer_of}
use Rattle.xfs_base.specs.declared.block.BlockId.{BlockId}
use Rattle.xfs_base.specs.declared.node.NodeId.{NodeId}
use Rattle.xfs_base.specs.declared.node.NodeId.TheVariants as nodes
use Rattle.xfs_base.specs.declared.segment.SegName.{SegName}
use Rattle.xfs_base.specs.Limits.{max_value, most_clients, most_managers, block_logs, log_count}
use Rattle.journal_law.specs.Told.{IsCount, IsClient, IsBlock, IsVersion, IsContent, IsSegment, IsFlight, IsFall}
use Rattle.journal_law.proofs.Bytes.{and_true, decimal_begins, begins_join, decimal_lacks, no_word, front_of, back_of}

-- what follows on what is read
pub then_read : {X Y : Type 0} (r : Result X Kind) (x : X) (f : X → Result Y Kind) → r ≡ Ok x → (r >>= f) ≡ f x
then_read r x f e = ap (λ q. q >>= f) e

-- ---- numbers

number_read : (n : ℕ) → n < 2 ^ 32 → read_number (decimal n) ≡ Ok n
number_read n l = judge_good BadNumber BadNumber (λ x. true) (number_of (decimal n)) n (number_decimal n l) refl

counted_read : (n : ℕ) → IsCount n → read_counted (decimal n) ≡ Ok n
counted_read n c = judge_good BadNumber BadNumber (λ x. nat_lt 0 x) (number_of (decimal n)) n (number_decimal n c.small) (above n c.some)
  where
    above : (n : ℕ) → 0 < n → nat_lt 0 n ≡ true
    above n l = grind (arith, nat_tests, l)

long_decimal : (n : ℕ) → n < 2 ^ 64 → long_of (decimal n) ≡ Some n
long_decimal n l =
    let v : digits_value 10 (decimal n) ≡ n = digits_value-decimal own n l in
    let e : bytes_eq (decimal n) (decimal n) ≡ true = (bytes_eq-Decides (decimal n) (decimal n)).1 refl in
    let t : nat_lt n 18446744073709551616 ≡ true = grind (arith, nat_tests) in
    rw (v, e, t) refl

long_read : (n : ℕ) → IsVersion n → read_long (decimal n) ≡ Ok n
long_read n l = judge_good BadNumber BadNumber (λ x. true) (long_of (decimal n)) n (long_decimal n l) refl

one_of : (limit n : ℕ) → 1 ≤ n → n ≤ limit → is_one_of limit n ≡ true
one_of limit n l u =
    let t : nat_lt 0 n ≡ true = grind (arith, nat_tests, l) in
    let s : nat_le n limit ≡ true = grind (arith, nat_tests, u) in
    and_true t s

node_read : (limit letter n : ℕ) → n < 2 ^ 32 → 1 ≤ n → n ≤ limit → read_node limit (letter ∷ decimal n) ≡ Ok n
node_read limit letter n s l u = judge_good BadNumber NoNode (is_one_of limit) (number_of (decimal n)) n (number_decimal n s) (one_of limit n l u)

pub client_read : (n : ℕ) → IsClient n → read_client (99 ∷ decimal n) ≡ Ok n
client_read n c = node_read most_clients 99 n (omega (arith, c.1)) c.0 c.1

pub version_read : (n : ℕ) → IsVersion n → read_version (118 ∷ decimal n) ≡ Ok n
version_read n l = long_read n l

-- ---- names

pub block_read : (b : BlockId) → IsBlock b → read_block (block_text b) ≡ Ok b
block_read b h =
    let w = block_text b in
    let l = decimal_lacks 47 b.ino.0 (λ i. omega (arith, i.0)) in
    let f : read_number (front 47 w) ≡ Ok b.ino.0 = ap read_number (front_of 47 (decimal b.ino.0) (decimal b.blk) l) ∙ number_read b.ino.0 h.ino in
    let g : read_number (back 47 w) ≡ Ok b.blk = ap read_number (back_of 47 (decimal b.ino.0) (decimal b.blk) l) ∙ number_read b.blk h.blk in
    then_read (read_number (front 47 w)) b.ino.0 (λ ino. read_number (back 47 w) >>= λ blk. Ok (record { ino = record { 0 = ino }; blk = blk })) f
    ∙ then_read (read_number (back 47 w)) b.blk (λ blk. Ok (record { ino = record { 0 = b.ino.0 }; blk = blk })) g

-- the text of a client is not the cleaner's
client_word : (n : ℕ) → bytes_eq (99 ∷ decimal n) (codes "cl") ≡ false
client_word n = no_word (decimal n) 108 [] (decimal_begins n) (λ i. omega (arith, i.1))

pub writer_read : (node : NodeId) → WritesLog node → read_writer (node_text node) ≡ Ok node
writer_read (nodes.Client n) h =
    let r : read_client (99 ∷ decimal n) ≡ Ok n = client_read n h in
    rw (client_word n) (then_read (read_client (99 ∷ decimal n)) n (λ k. Ok (nodes.Client k)) r)
writer_read (nodes.Manager n) h =
    let r : read_node most_managers (109 ∷ decimal n) ≡ Ok n = node_read most_managers 109 n (omega (arith, h.1)) h.0 h.1 in
    then_read (read_node most_managers (109 ∷ decimal n)) n (λ k. Ok (nodes.Manager k)) r
writer_read (nodes.Server n) h = absurd h
writer_read nodes.Cleaner h = refl
writer_read nodes.Registry h = absurd h

-- the node of a log writes it
at_log : (log : ℕ) (s t : Bool) → nat_lt block_logs log ≡ s → (log == block_logs) ≡ t → 1 ≤ log → log ≤ log_count
    → WritesLog (if s then nodes.Manager (log - block_logs) else if t then nodes.Cleaner else nodes.Client log)
    × ((log_of (if s then nodes.Manager (log - block_logs) else if t then nodes.Cleaner else nodes.Client log)).0 ≡ log)
at_log log true t e f l u =
    let h : block_logs < log = ltb-true block_logs log e in
    let few : log - block_logs ≤ most_managers = omega (arith, u) in
    ((omega (arith, h), few), omega (arith, h, few))
at_log log false true e f l u = (tt, sym (eqb-true log block_logs f))
at_log log false false e f l u =
    let g : log ≤ block_logs = ltb-false block_logs log e in
    let n = eqb-false log block_logs f in
    ((l, below log g n), refl)
  where
    below : (log : ℕ) → log ≤ block_logs → (log ≡ block_logs → ⊥) → log ≤ most_clients
    below log g n = grind (arith, g, n)

pub writer_writes : (log : ℕ) → 1 ≤ log → log ≤ log_count → WritesLog (writer_of log) × ((log_of (writer_of log)).0 ≡ log)
writer_writes log l u = at_log log (nat_lt block_logs log) (log == block_logs) refl refl l u

-- ---- segments

-- three numbers with a dot between each two
abbrev pub numbers_text : SegName → List ℕ
numbers_text seg = decimal seg.seq ++ 46 ∷ (decimal seg.pass.inc ++ 46 ∷ decimal seg.pass.att)

pub segment_parts : (seg : SegName) → segment_text seg ≡ node_text (writer_of seg.log.0) ++ 46 ∷ numbers_text seg
segment_parts seg = append_assoc (node_text (writer_of seg.log.0)) (46 ∷ decimal seg.seq) (46 ∷ (decimal seg.pass.inc ++ 46 ∷ decimal seg.pass.att))

pub node_lacks_dot : (node : NodeId) → WritesLog node → Lacks 46 (node_text node)
node_lacks_dot (nodes.Client n) h = ((λ e. omega (arith, e)), decimal_lacks 46 n (λ i. omega (arith, i.0)))
node_lacks_dot (nodes.Manager n) h = ((λ e. omega (arith, e)), decimal_lacks 46 n (λ i. omega (arith, i.0)))
node_lacks_dot (nodes.Server n) h = absurd h
node_lacks_dot nodes.Cleaner h = ((λ e. omega (arith, e)), ((λ e. omega (arith, e)), tt))
node_lacks_dot nodes.Registry h = absurd h

-- the four parts of a word, read one after the other
four_read : (word : List ℕ) (node : NodeId) (seq inc att : ℕ) → read_writer (front 46 word) ≡ Ok node → read_counted (front 46 (back 46 word)) ≡ Ok seq
    → read_counted (front 46 (back 46 (back 46 word))) ≡ Ok inc → read_counted (back 46 (back 46 (back 46 word))) ≡ Ok att
    → read_segment word ≡ Ok (segment_at node seq inc att)
four_read word node seq inc att a b c d =
    then_read (read_writer (front 46 word)) node
    (λ n. read_counted (front 46 (back 46 word)) >>= λ s. read_counted (front 46 (back 46 (back 46 word))) >>= λ i. read_counted
    (back 46 (back 46 (back 46 word))) >>= λ t. Ok (segment_at n s i t)) a
    ∙ then_read (read_counted (front 46 (back 46 word))) seq
    (λ s. read_counted (front 46 (back 46 (back 46 word))) >>= λ i. read_counted (back 46 (back 46 (back 46 word))) >>= λ t. Ok (segment_at node s i t)) b
    ∙ then_read (read_counted (front 46 (back 46 (back 46 word)))) inc
    (λ i. read_counted (back 46 (back 46 (back 46 word))) >>= λ t. Ok (segment_at node seq i t)) c
    ∙ then_read (read_counted (back 46 (back 46 (back 46 word)))) att (λ t. Ok (segment_at node seq inc t)) d

named : (seg : SegName) (log : ℕ) → log ≡ seg.log.0
    → record { log = record { 0 = log }; seq = seg.seq; pass = record { inc = seg.pass.inc; att = seg.pass.att } } ≡ seg
named seg log e = ap (λ l. record { log = record { 0 = l }; seq = seg.seq; pass = seg.pass }) e

pub segment_read : (seg : SegName) → IsSegment seg → read_segment (segment_text seg) ≡ Ok seg
segment_read seg h =
    let node = writer_of seg.log.0 in
    let w = writer_writes seg.log.0 h.written h.log in
    let word = segment_text seg in
    let rest : List ℕ = decimal seg.pass.inc ++ 46 ∷ decimal seg.pass.att in
    let l = node_lacks_dot node w.0 in
    let m = decimal_lacks 46 seg.seq (λ i. omega (arith, i.0)) in
    let n = decimal_lacks 46 seg.pass.inc (λ i. omega (arith, i.0)) in
    let f : front 46 word ≡ node_text node = ap (λ x. front 46 x) (segment_parts seg) ∙ front_of 46 (node_text node) (numbers_text seg) l in
    let b : back 46 word ≡ numbers_text seg = ap (λ x. back 46 x) (segment_parts seg) ∙ back_of 46 (node_text node) (numbers_text seg) l in
    let g : front 46 (back 46 word) ≡ decimal seg.seq = ap (λ x. front 46 x) b ∙ front_of 46 (decimal seg.seq) rest m in
    let c : back 46 (back 46 word) ≡ rest = ap (λ x. back 46 x) b ∙ back_of 46 (decimal seg.seq) rest m in
    let i : front 46 (back 46 (back 46 word)) ≡ decimal seg.pass.inc = ap (λ x. front 46 x) c ∙ front_of 46 (decimal seg.pass.inc) (decimal seg.pass.att) n in
    let a : back 46 (back 46 (back 46 word)) ≡ decimal seg.pass.att = ap (λ x. back 46 x) c ∙ back_of 46 (decimal seg.pass.inc) (decimal seg.pass.att) n in
    four_read word node seg.seq seg.pass.inc seg.pass.att
    (ap read_writer f ∙ writer_read node w.0)
    (ap read_counted g ∙ counted_read seg.seq h.seq)
    (ap read_counted i ∙ counted_read seg.pass.inc h.inc)
    (ap read_counted a ∙ counted_read seg.pass.att h.att)
    ∙ ap (λ x. ok_segment x) (named seg (log_of node).0 w.1)
  where
    ok_segment : SegName → Result SegName Kind
    ok_segment s = Ok s

-- ---- flights and falls

flight_word : (p : ℕ × ℕ) → bytes_eq (decimal p.0 ++ 46 ∷ decimal p.1) (codes "none") ≡ false
flight_word p =
    no_word (decimal p.0 ++ 46 ∷ decimal p.1) 110 (codes "one") (begins_join (decimal p.0) (46 ∷ decimal p.1) (decimal_begins p.0)) (λ i. omega (arith, i.1))

pub flight_read : (flight : Option (ℕ × ℕ)) → IsFlight flight → read_flight (flight_text flight) ≡ Ok flight
flight_read None h = refl
flight_read (Some p) h =
    let w : List ℕ = decimal p.0 ++ 46 ∷ decimal p.1 in
    let l = decimal_lacks 46 p.0 (λ i. omega (arith, i.0)) in
    let f : read_counted (front 46 w) ≡ Ok p.0 = ap read_counted (front_of 46 (decimal p.0) (decimal p.1) l) ∙ counted_read p.0 h.0 in
    let g : read_counted (back 46 w) ≡ Ok p.1 = ap read_counted (back_of 46 (decimal p.0) (decimal p.1) l) ∙ counted_read p.1 h.1 in
    rw (flight_word p)
    (then_read (read_counted (front 46 w)) p.0 (λ seq. read_counted (back 46 w) >>= λ inc. Ok (Some (seq, inc))) f
    ∙ then_read (read_counted (back 46 w)) p.1 (λ inc. Ok (Some (p.0, inc))) g)

pub block_lacks_colon : (b : BlockId) → Lacks 58 (block_text b)
block_lacks_colon b =
    lacks_join 58 (decimal b.ino.0) (47 ∷ decimal b.blk) (decimal_lacks 58 b.ino.0 (λ i. omega (arith, i.1)))
    ((λ e. omega (arith, e)), decimal_lacks 58 b.blk (λ i. omega (arith, i.1)))

three_read : (word : List ℕ) (block : BlockId) (low high : ℕ) → read_block (front 58 word) ≡ Ok block → read_long (front 58 (back 58 word)) ≡ Ok low
    → read_long (back 58 (back 58 word)) ≡ Ok high → read_fall word ≡ Ok (record { block = block; low = low; high = high })
three_read word block low high a b c =
    then_read (read_block (front 58 word)) block
    (λ k. read_long (front 58 (back 58 word)) >>= λ l. read_long (back 58 (back 58 word)) >>= λ h. Ok (record { block = k; low = l; high = h })) a
    ∙ then_read (read_long (front 58 (back 58 word))) low (λ l. read_long (back 58 (back 58 word)) >>= λ h. Ok (record { block = block; low = l; high = h })) b
    ∙ then_read (read_long (back 58 (back 58 word))) high (λ h. Ok (record { block = block; low = low; high = h })) c

pub fall_read : (f : Fall) → IsFall f → read_fall (fall_text f) ≡ Ok f
fall_read f h =
    let word = fall_text f in
    let rest : List ℕ = decimal f.low ++ 58 ∷ decimal f.high in
    let l = block_lacks_colon f.block in
    let m = decimal_lacks 58 f.low (λ i. omega (arith, i.1)) in
    let b : back 58 word ≡ rest = back_of 58 (block_text f.block) rest l in
    three_read word f.block f.low f.high
    (ap read_block (front_of 58 (block_text f.block) rest l) ∙ block_read f.block h.block)
    (ap read_long (ap (λ x. front 58 x) b ∙ front_of 58 (decimal f.low) (decimal f.high) m) ∙ long_read f.low h.low)
    (ap read_long (ap (λ x. back 58 x) b ∙ back_of 58 (decimal f.low) (decimal f.high) m) ∙ long_read f.high h.high)

-- ---- values

few_bytes : (bytes : List ℕ) → 1 ≤ length bytes → length bytes ≤ max_value → value_of bytes ≡ Ok (Some bytes)
few_bytes [] l u = absurd (omega (arith, l))
few_bytes (b ∷ bytes) l u = let e : nat_le (length (b ∷ bytes)) max_value ≡ true = grind (arith, nat_tests, u) in rw e refl

pub value_read : (value : Option (List ℕ)) → IsContent value → read_value (value_text value) ≡ Ok value
value_read None h = refl
value_read (Some bytes) h =
    let q : quoted_text (quoted (text_body bytes)) ≡ Some bytes = written_read bytes (text_body bytes) (text_written bytes h.bytes) in
    ap (λ o. or_fault BadText o >>= value_of) q ∙ few_bytes bytes h.fits.0 h.fits.1
