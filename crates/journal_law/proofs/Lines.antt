-- The words of the lines of acts.
use Rattle.std.proofs.Common.{◌≡◌, ℕ, ◌≤◌, List, [], ◌∷◌, ◌++◌, codes, map, refl, ◌∙◌, ap, arith, Option, Some, None, append-nil, append_assoc}
use Rattle.std.specs.Fmt.{decimal}
use Rattle.std.specs.List.{AllByRecursion}
use Rattle.act_text.specs.Acts.{line_of, flight_text, fall_text, falls_text, chain_text}
use Rattle.act_text.specs.Pieces.{value_text, block_text, node_text, segment_text}
use Rattle.script_print.proofs.Bytes.{lacks_join, lacks_test, text_lacks}
use Rattle.script_print.specs.Printing.{spaced}
use Rattle.script_text.proofs.Parts.{parted_cut, parted_whole}
use Rattle.script_text.specs.Words.{Lacks, words}
use Rattle.version_model.specs.declared.act.Act.{Act}
use Rattle.version_model.specs.declared.act.Act.TheVariants as acts
use Rattle.version_model.specs.declared.act.Fall.{Fall}
use Rattle.xfs_base.specs.declared.block.BlockId.{BlockId}
use Rattle.xfs_base.specs.declared.node.NodeId.{NodeId}
use Rattle.xfs_base.specs.declared.node.NodeId.TheVariants as nodes
use Rattle.xfs_base.specs.declared.segment.SegName.{SegName}
use Rattle.xfs_base.specs.Logs.{writer_of}
use Rattle.journal_law.specs.Told.{IsTold, IsLineOf}
use Rattle.journal_law.proofs.Bytes.{Plain, decimal_plain, plain_join, plain_lacks}

-- ---- words without spaces

number_plain : (letter n : ℕ) → 33 ≤ letter → Plain (letter ∷ decimal n)
number_plain letter n l = (l, decimal_plain n)

pub client_plain : (n : ℕ) → Plain (99 ∷ decimal n)
client_plain n = number_plain 99 n (omega arith)

pub version_plain : (n : ℕ) → Plain (118 ∷ decimal n)
version_plain n = number_plain 118 n (omega arith)

pub block_plain : (b : BlockId) → Plain (block_text b)
block_plain b = plain_join (decimal b.ino.0) (47 ∷ decimal b.blk) (decimal_plain b.ino.0) (number_plain 47 b.blk (omega arith))

pub node_plain : (node : NodeId) → Plain (node_text node)
node_plain (nodes.Client n) = number_plain 99 n (omega arith)
node_plain (nodes.Manager n) = number_plain 109 n (omega arith)
node_plain (nodes.Server n) = number_plain 115 n (omega arith)
node_plain nodes.Cleaner = (omega arith, (omega arith, tt))
node_plain nodes.Registry = (omega arith, (omega arith, (omega arith, tt)))

pub segment_plain : (seg : SegName) → Plain (segment_text seg)
segment_plain seg =
    plain_join (node_text (writer_of seg.log.0) ++ 46 ∷ decimal seg.seq) (46 ∷ (decimal seg.pass.inc ++ 46 ∷ decimal seg.pass.att))
    (plain_join (node_text (writer_of seg.log.0)) (46 ∷ decimal seg.seq) (node_plain (writer_of seg.log.0)) (number_plain 46 seg.seq (omega arith)))
    (omega arith, plain_join (decimal seg.pass.inc) (46 ∷ decimal seg.pass.att) (decimal_plain seg.pass.inc) (number_plain 46 seg.pass.att (omega arith)))

pub flight_plain : (flight : Option (ℕ × ℕ)) → Plain (flight_text flight)
flight_plain None = (omega arith, (omega arith, (omega arith, (omega arith, tt))))
flight_plain (Some p) = plain_join (decimal p.0) (46 ∷ decimal p.1) (decimal_plain p.0) (number_plain 46 p.1 (omega arith))

pub fall_plain : (f : Fall) → Plain (fall_text f)
fall_plain f =
    plain_join (block_text f.block) (58 ∷ (decimal f.low ++ 58 ∷ decimal f.high)) (block_plain f.block)
    (omega arith, plain_join (decimal f.low) (58 ∷ decimal f.high) (decimal_plain f.low) (number_plain 58 f.high (omega arith)))

no_space : (w : List ℕ) → Plain w → Lacks 32 w
no_space w p = plain_lacks 32 w (omega arith) p

no_feed : (w : List ℕ) → Plain w → Lacks 10 w
no_feed w p = plain_lacks 10 w (omega arith) p

-- ---- words one after the other

all_plain : {A : Type 0} (text : A → List ℕ) → ((a : A) → Plain (text a)) → (xs : List A) → AllByRecursion Plain (map text xs)
all_plain text p [] = tt
all_plain text p (x ∷ xs) = (p x, all_plain text p xs)

pub falls_spaced : (falls : List Fall) → falls_text falls ≡ spaced (map fall_text falls)
falls_spaced [] = refl
falls_spaced (f ∷ fs) = ap (λ x. 32 ∷ (fall_text f ++ x)) (falls_spaced fs)

pub chain_spaced : (chain : List SegName) → chain_text chain ≡ spaced (map segment_text chain)
chain_spaced [] = refl
chain_spaced (s ∷ ss) = ap (λ x. 32 ∷ (segment_text s ++ x)) (chain_spaced ss)

-- a word before others, each behind a space
spaced_words : (w : List ℕ) (ws : List (List ℕ)) → Plain w → AllByRecursion Plain ws → words (w ++ spaced ws) ≡ w ∷ ws
spaced_words w [] p ps = ap words (append-nil w) ∙ parted_whole 32 w (no_space w p)
spaced_words w (v ∷ vs) p ps = parted_cut 32 w (v ++ spaced vs) (no_space w p) ∙ ap (λ x. w ∷ x) (spaced_words v vs ps.0 ps.1)

-- ---- the line of each act

abbrev pub act_line : Act → List ℕ
act_line (acts.Wrote client block value) = codes "a wrote " ++ (99 ∷ decimal client) ++ 32 ∷ (block_text block ++ 32 ∷ value_text value)
act_line (acts.Read client block ver value) =
    codes "a read " ++ (99 ∷ decimal client) ++ 32 ∷ (block_text block ++ 32 ∷ ((118 ∷ decimal ver) ++ 32 ∷ value_text value))
act_line (acts.Synced client) = codes "a synced " ++ (99 ∷ decimal client)
act_line (acts.Fell client flight falls) = codes "a fell " ++ (99 ∷ decimal client) ++ 32 ∷ (flight_text flight ++ falls_text falls)
act_line (acts.Back client chain) = codes "a back " ++ (99 ∷ decimal client) ++ chain_text chain
act_line (acts.Lost node seg) = codes "a lost " ++ node_text node ++ 32 ∷ segment_text seg
act_line (acts.Filed seg) = codes "a filed " ++ segment_text seg
act_line (acts.Dropped seg) = codes "a dropped " ++ segment_text seg
act_line (acts.Answered node item answer) = []

pub line_is : (act : Act) → IsTold act → IsLineOf act (act_line act)
line_is (acts.Wrote client block value) h =
    ap (λ x. line_of (codes "a wrote " ++ 99 ∷ x)) (append_assoc (decimal client) (32 ∷ block_text block) (32 ∷ value_text value))
line_is (acts.Read client block ver value) h =
    ap (λ x. line_of (codes "a read " ++ 99 ∷ x))
    (append_assoc (decimal client ++ 32 ∷ block_text block) (32 ∷ 118 ∷ decimal ver) (32 ∷ value_text value)
    ∙ append_assoc (decimal client) (32 ∷ block_text block) (32 ∷ 118 ∷ (decimal ver ++ 32 ∷ value_text value)))
line_is (acts.Synced client) h = refl
line_is (acts.Fell client flight falls) h =
    ap (λ x. line_of (codes "a fell " ++ 99 ∷ x)) (append_assoc (decimal client) (32 ∷ flight_text flight) (falls_text falls))
line_is (acts.Back client chain) h = refl
line_is (acts.Lost node seg) h = refl
line_is (acts.Filed seg) h = refl
line_is (acts.Dropped seg) h = refl
line_is (acts.Answered node item answer) h = absurd h

-- their words

pub wrote_words : (client : ℕ) (block : BlockId) (value : Option (List ℕ))
    → words (act_line (acts.Wrote client block value)) ≡ codes "a" ∷ codes "wrote" ∷ (99 ∷ decimal client) ∷ block_text block ∷ words (value_text value)
wrote_words client block value =
    ap (λ ws. codes "a" ∷ codes "wrote" ∷ ws)
    (parted_cut 32 (99 ∷ decimal client) (block_text block ++ 32 ∷ value_text value) (no_space (99 ∷ decimal client) (client_plain client))
    ∙ ap (λ ws. (99 ∷ decimal client) ∷ ws) (parted_cut 32 (block_text block) (value_text value) (no_space (block_text block) (block_plain block))))

pub read_words : (client : ℕ) (block : BlockId) (ver : ℕ) (value : Option (List ℕ))
    → words (act_line (acts.Read client block ver value)) ≡ codes "a" ∷ codes "read" ∷ (99 ∷ decimal client) ∷ block_text block ∷ (118 ∷ decimal ver) ∷ words
    (value_text value)
read_words client block ver value =
    let v : List ℕ = 118 ∷ decimal ver in
    ap (λ ws. codes "a" ∷ codes "read" ∷ ws)
    (parted_cut 32 (99 ∷ decimal client) (block_text block ++ 32 ∷ (v ++ 32 ∷ value_text value)) (no_space (99 ∷ decimal client) (client_plain client))
    ∙ ap (λ ws. (99 ∷ decimal client) ∷ ws)
    (parted_cut 32 (block_text block) (v ++ 32 ∷ value_text value) (no_space (block_text block) (block_plain block))
    ∙ ap (λ ws. block_text block ∷ ws) (parted_cut 32 v (value_text value) (no_space v (version_plain ver)))))

pub synced_words : (client : ℕ) → words (act_line (acts.Synced client)) ≡ codes "a" ∷ codes "synced" ∷ (99 ∷ decimal client) ∷ []
synced_words client = ap (λ ws. codes "a" ∷ codes "synced" ∷ ws) (parted_whole 32 (99 ∷ decimal client) (no_space (99 ∷ decimal client) (client_plain client)))

pub fell_words : (client : ℕ) (flight : Option (ℕ × ℕ)) (falls : List Fall)
    → words (act_line (acts.Fell client flight falls)) ≡ codes "a" ∷ codes "fell" ∷ (99 ∷ decimal client) ∷ flight_text flight ∷ map fall_text falls
fell_words client flight falls =
    ap (λ ws. codes "a" ∷ codes "fell" ∷ ws)
    (ap (λ x. words ((99 ∷ decimal client) ++ 32 ∷ (flight_text flight ++ x))) (falls_spaced falls)
    ∙ spaced_words (99 ∷ decimal client) (flight_text flight ∷ map fall_text falls) (client_plain client)
    (flight_plain flight, all_plain fall_text fall_plain falls))

pub back_words : (client : ℕ) (chain : List SegName)
    → words (act_line (acts.Back client chain)) ≡ codes "a" ∷ codes "back" ∷ (99 ∷ decimal client) ∷ map segment_text chain
back_words client chain =
    ap (λ ws. codes "a" ∷ codes "back" ∷ ws)
    (ap (λ x. words ((99 ∷ decimal client) ++ x)) (chain_spaced chain)
    ∙ spaced_words (99 ∷ decimal client) (map segment_text chain) (client_plain client) (all_plain segment_text segment_plain chain))

pub lost_words : (node : NodeId) (seg : SegName) → words (act_line (acts.Lost node seg)) ≡ codes "a" ∷ codes "lost" ∷ node_text node ∷ segment_text seg ∷ []
lost_words node seg =
    ap (λ ws. codes "a" ∷ codes "lost" ∷ ws)
    (parted_cut 32 (node_text node) (segment_text seg) (no_space (node_text node) (node_plain node))
    ∙ ap (λ ws. node_text node ∷ ws) (parted_whole 32 (segment_text seg) (no_space (segment_text seg) (segment_plain seg))))

pub filed_words : (seg : SegName) → words (act_line (acts.Filed seg)) ≡ codes "a" ∷ codes "filed" ∷ segment_text seg ∷ []
filed_words seg = ap (λ ws. codes "a" ∷ codes "filed" ∷ ws) (parted_whole 32 (segment_text seg) (no_space (segment_text seg) (segment_plain seg)))

pub dropped_words : (seg : SegName) → words (act_line (acts.Dropped seg)) ≡ codes "a" ∷ codes "dropped" ∷ segment_text seg ∷ []
dropped_words seg = ap (λ ws. codes "a" ∷ codes "dropped" ∷ ws) (parted_whole 32 (segment_text seg) (no_space (segment_text seg) (segment_plain seg)))

-- ---- no line feed

pub join_lacks : (xs ys : List ℕ) → Lacks 10 xs → Lacks 10 ys → Lacks 10 (xs ++ ys)
join_lacks xs ys a b = lacks_join 10 xs ys a b

behind_space : (ys : List ℕ) → Lacks 10 ys → Lacks 10 (32 ∷ ys)
behind_space ys l = ((λ e. omega (arith, e)), l)

pub value_lacks : (value : Option (List ℕ)) → Lacks 10 (value_text value)
value_lacks None = lacks_test 10 (codes "absent") refl
value_lacks (Some bytes) = text_lacks bytes

falls_lack : (falls : List Fall) → Lacks 10 (falls_text falls)
falls_lack [] = tt
falls_lack (f ∷ fs) =
    behind_space (fall_text f ++ falls_text fs) (join_lacks (fall_text f) (falls_text fs) (no_feed (fall_text f) (fall_plain f)) (falls_lack fs))

chain_lacks : (chain : List SegName) → Lacks 10 (chain_text chain)
chain_lacks [] = tt
chain_lacks (s ∷ ss) =
    behind_space (segment_text s ++ chain_text ss) (join_lacks (segment_text s) (chain_text ss) (no_feed (segment_text s) (segment_plain s)) (chain_lacks ss))

client_lacks : (client : ℕ) → Lacks 10 (99 ∷ decimal client)
client_lacks client = no_feed (99 ∷ decimal client) (client_plain client)

pub line_lacks : (act : Act) → Lacks 10 (act_line act)
line_lacks (acts.Wrote client block value) =
    join_lacks (codes "a wrote ") ((99 ∷ decimal client) ++ 32 ∷ (block_text block ++ 32 ∷ value_text value)) (lacks_test 10 (codes "a wrote ") refl)
    (join_lacks (99 ∷ decimal client) (32 ∷ (block_text block ++ 32 ∷ value_text value)) (client_lacks client)
    (behind_space (block_text block ++ 32 ∷ value_text value)
    (join_lacks (block_text block) (32 ∷ value_text value) (no_feed (block_text block) (block_plain block))
    (behind_space (value_text value) (value_lacks value)))))
line_lacks (acts.Read client block ver value) =
    let v : List ℕ = 118 ∷ decimal ver in
    join_lacks (codes "a read ") ((99 ∷ decimal client) ++ 32 ∷ (block_text block ++ 32 ∷ (v ++ 32 ∷ value_text value))) (lacks_test 10 (codes "a read ") refl)
    (join_lacks (99 ∷ decimal client) (32 ∷ (block_text block ++ 32 ∷ (v ++ 32 ∷ value_text value))) (client_lacks client)
    (behind_space (block_text block ++ 32 ∷ (v ++ 32 ∷ value_text value))
    (join_lacks (block_text block) (32 ∷ (v ++ 32 ∷ value_text value)) (no_feed (block_text block) (block_plain block))
    (behind_space (v ++ 32 ∷ value_text value)
    (join_lacks v (32 ∷ value_text value) (no_feed v (version_plain ver)) (behind_space (value_text value) (value_lacks value)))))))
line_lacks (acts.Synced client) = join_lacks (codes "a synced ") (99 ∷ decimal client) (lacks_test 10 (codes "a synced ") refl) (client_lacks client)
line_lacks (acts.Fell client flight falls) =
    join_lacks (codes "a fell ") ((99 ∷ decimal client) ++ 32 ∷ (flight_text flight ++ falls_text falls)) (lacks_test 10 (codes "a fell ") refl)
    (join_lacks (99 ∷ decimal client) (32 ∷ (flight_text flight ++ falls_text falls)) (client_lacks client)
    (behind_space (flight_text flight ++ falls_text falls)
    (join_lacks (flight_text flight) (falls_text falls) (no_feed (flight_text flight) (flight_plain flight)) (falls_lack falls))))
line_lacks (acts.Back client chain) =
    join_lacks (codes "a back ") ((99 ∷ decimal client) ++ chain_text chain) (lacks_test 10 (codes "a back ") refl)
    (join_lacks (99 ∷ decimal client) (chain_text chain) (client_lacks client) (chain_lacks chain))
line_lacks (acts.Lost node seg) =
    join_lacks (codes "a lost ") (node_text node ++ 32 ∷ segment_text seg) (lacks_test 10 (codes "a lost ") refl)
    (join_lacks (node_text node) (32 ∷ segment_text seg) (no_feed (node_text node) (node_plain node))
    (behind_space (segment_text seg) (no_feed (segment_text seg) (segment_plain seg))))
line_lacks (acts.Filed seg) =
    join_lacks (codes "a filed ") (segment_text seg) (lacks_test 10 (codes "a filed ") refl) (no_feed (segment_text seg) (segment_plain seg))
line_lacks (acts.Dropped seg) =
    join_lacks (codes "a dropped ") (segment_text seg) (lacks_test 10 (codes "a dropped ") refl) (no_feed (segment_text seg) (segment_plain seg))
line_lacks (acts.Answered node item answer) = tt
