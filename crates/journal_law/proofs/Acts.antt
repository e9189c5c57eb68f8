-- The line of an act that can be told is read as that act.
use Rattle.std.proofs.Common.{◌≡◌, ℕ, ◌+◌, Bool, true, not, List, [], ◌∷◌, ◌++◌, length, length-append, codes, map, refl, sym, ◌∙◌, ap, arith, Option, Some, Result, Ok}
use Rattle.std.specs.Fmt.{decimal}
use Rattle.std.specs.List.{AllByRecursion, list_all}
use Rattle.act_text.specs.Acts.{flight_text, fall_text}
use Rattle.act_text.specs.Pieces.{value_text, block_text, node_text, segment_text}
use Rattle.audit.specs.Acts.{read_client, read_block, read_version, read_value, read_flight, read_fall, read_segment, read_writer, read_each, act_by, read_act}
use Rattle.audit.specs.Shapes.{is_fall, is_segment, fits, if_fits, shape_of}
use Rattle.audit.specs.declared.shape.Verb.{Verb}
use Rattle.audit.specs.declared.shape.Verb.TheVariants as verbs
use Rattle.script_text.proofs.Parts.{joined_parted, not_end}
use Rattle.script_text.specs.Outcome.{◌>>=◌}
use Rattle.script_text.specs.Words.{words, joined, is_end}
use Rattle.script_text.specs.declared.refusal.Kind.{Kind}
use Rattle.version_model.specs.declared.act.Act.{Act}
use Rattle.version_model.specs.declared.act.Act.TheVariants as acts
use Rattle.version_model.specs.declared.act.Fall.{Fall}
use Rattle.xfs_base.specs.Logs.{WritesLog}
use Rattle.xfs_base.specs.declared.block.BlockId.{BlockId}
use Rattle.xfs_base.specs.declared.node.NodeId.{NodeId}
use Rattle.xfs_base.specs.declared.segment.SegName.{SegName}
use Rattle.journal_law.specs.Told.{IsClient, IsBlock, IsVersion, IsContent, IsSegment, IsFlight, IsFall, IsTold, IsLineOf, ActsHaveOneLine, ActsAreReadAsPrinted}
use Rattle.journal_law.proofs.Bytes.{and_true, numbered}
use Rattle.journal_law.proofs.Parts.{then_read, client_read, version_read, block_read, writer_read, segment_read, flight_read, fall_read, value_read}
use Rattle.journal_law.proofs.Shapes.{block_shape, flight_shape, fall_shape, writer_shape, segment_shape}
use Rattle.journal_law.proofs.Lines.{act_line, line_is, line_lacks, wrote_words, read_words, synced_words, fell_words, back_words, lost_words, filed_words, dropped_words}

-- ---- each of some words

pub each_read : {A : Type 0} (P : A → Type 0) (text : A → List ℕ) (read : List ℕ → Result A Kind) → ((a : A) → P a → read (text a) ≡ Ok a) → (xs : List A)
    → AllByRecursion P xs → read_each read (map text xs) ≡ Ok xs
each_read P text read h [] p = refl
each_read P text read h (x ∷ xs) p =
    then_read (read (text x)) x (λ a. read_each read (map text xs) >>= λ more. Ok (a ∷ more)) (h x p.0)
    ∙ then_read (read_each read (map text xs)) xs (λ more. Ok (x ∷ more)) (each_read P text read h xs p.1)

pub each_shape : {A : Type 0} (P : A → Type 0) (text : A → List ℕ) (test : List ℕ → Bool) → ((a : A) → P a → test (text a) ≡ true) → (xs : List A)
    → AllByRecursion P xs → list_all test (map text xs) ≡ true
each_shape P text test h [] p = refl
each_shape P text test h (x ∷ xs) p = and_true (h x p.0) (each_shape P text test h xs p.1)

-- ---- by words

-- words of the form of a verb are read by it
shaped : (verb : Verb) (ws all : List (List ℕ)) (act : Act) → shape_of all ≡ if_fits (Some verb) ws → fits verb ws ≡ true → act_by (Some verb) all ≡ Ok act
    → act_by (shape_of all) all ≡ Ok act
shaped verb ws all act e f r = ap (λ s. act_by s all) (e ∙ fitting (fits verb ws) f) ∙ r
  where
    fitting : (t : Bool) → t ≡ true → if_fits (Some verb) ws ≡ Some verb
    fitting t e = rw f refl

by_words : (line : List ℕ) (all : List (List ℕ)) (act : Act) → words line ≡ all → act_by (shape_of all) all ≡ Ok act → read_act line ≡ Ok act
by_words line all act e r = ap (λ ws. act_by (shape_of ws) ws) e ∙ r

rest_is_value : (value : Option (List ℕ)) → IsContent value → read_value (joined 32 (words (value_text value))) ≡ Ok value
rest_is_value value h = ap read_value (joined_parted 32 (value_text value)) ∙ value_read value h

some_rest : (value : Option (List ℕ)) → not (is_end (words (value_text value))) ≡ true
some_rest value = ap not (not_end 32 (value_text value))

-- ---- act by act

wrote_read : (client : ℕ) (block : BlockId) (value : Option (List ℕ)) → IsClient client → IsBlock block → IsContent value
    → read_act (act_line (acts.Wrote client block value)) ≡ Ok (acts.Wrote client block value)
wrote_read client block value c b v =
    let ws : List (List ℕ) = (99 ∷ decimal client) ∷ block_text block ∷ words (value_text value) in
    by_words (act_line (acts.Wrote client block value)) (codes "a" ∷ codes "wrote" ∷ ws) (acts.Wrote client block value) (wrote_words client block value)
    (shaped verbs.Wrote ws (codes "a" ∷ codes "wrote" ∷ ws) (acts.Wrote client block value) refl
    (and_true (numbered 99 client) (and_true (block_shape block) (some_rest value)))
    (then_read (read_client (99 ∷ decimal client)) client
    (λ n. read_block (block_text block) >>= λ k. read_value (joined 32 (words (value_text value))) >>= λ x. Ok (acts.Wrote n k x)) (client_read client c)
    ∙ then_read (read_block (block_text block)) block (λ k. read_value (joined 32 (words (value_text value))) >>= λ x. Ok (acts.Wrote client k x))
    (block_read block b)
    ∙ then_read (read_value (joined 32 (words (value_text value)))) value (λ x. Ok (acts.Wrote client block x)) (rest_is_value value v)))

read_read : (client : ℕ) (block : BlockId) (ver : ℕ) (value : Option (List ℕ)) → IsClient client → IsBlock block → IsVersion ver → IsContent value
    → read_act (act_line (acts.Read client block ver value)) ≡ Ok (acts.Read client block ver value)
read_read client block ver value c b n v =
    let ws : List (List ℕ) = (99 ∷ decimal client) ∷ block_text block ∷ (118 ∷ decimal ver) ∷ words (value_text value) in
    by_words (act_line (acts.Read client block ver value)) (codes "a" ∷ codes "read" ∷ ws) (acts.Read client block ver value)
    (read_words client block ver value)
    (shaped verbs.Read ws (codes "a" ∷ codes "read" ∷ ws) (acts.Read client block ver value) refl
    (and_true (numbered 99 client) (and_true (block_shape block) (and_true refl (some_rest value))))
    (then_read (read_client (99 ∷ decimal client)) client
    (λ k. read_block (block_text block) >>= λ l. read_version (118 ∷ decimal ver) >>= λ m. read_value (joined 32 (words (value_text value))) >>= λ x. Ok
    (acts.Read k l m x)) (client_read client c)
    ∙ then_read (read_block (block_text block)) block
    (λ l. read_version (118 ∷ decimal ver) >>= λ m. read_value (joined 32 (words (value_text value))) >>= λ x. Ok (acts.Read client l m x)) (block_read block b)
    ∙ then_read (read_version (118 ∷ decimal ver)) ver (λ m. read_value (joined 32 (words (value_text value))) >>= λ x. Ok (acts.Read client block m x))
    (version_read ver n)
    ∙ then_read (read_value (joined 32 (words (value_text value)))) value (λ x. Ok (acts.Read client block ver x)) (rest_is_value value v)))

synced_read : (client : ℕ) → IsClient client → read_act (act_line (acts.Synced client)) ≡ Ok (acts.Synced client)
synced_read client c =
    let ws : List (List ℕ) = (99 ∷ decimal client) ∷ [] in
    by_words (act_line (acts.Synced client)) (codes "a" ∷ codes "synced" ∷ ws) (acts.Synced client) (synced_words client)
    (shaped verbs.Synced ws (codes "a" ∷ codes "synced" ∷ ws) (acts.Synced client) refl (and_true (numbered 99 client) refl)
    (then_read (read_client (99 ∷ decimal client)) client (λ n. Ok (acts.Synced n)) (client_read client c)))

fell_read : (client : ℕ) (flight : Option (ℕ × ℕ)) (falls : List Fall) → IsClient client → IsFlight flight → AllByRecursion IsFall falls
    → read_act (act_line (acts.Fell client flight falls)) ≡ Ok (acts.Fell client flight falls)
fell_read client flight falls c f a =
    let ws : List (List ℕ) = (99 ∷ decimal client) ∷ flight_text flight ∷ map fall_text falls in
    by_words (act_line (acts.Fell client flight falls)) (codes "a" ∷ codes "fell" ∷ ws) (acts.Fell client flight falls) (fell_words client flight falls)
    (shaped verbs.Fell ws (codes "a" ∷ codes "fell" ∷ ws) (acts.Fell client flight falls) refl
    (and_true (numbered 99 client) (and_true (flight_shape flight) (each_shape IsFall fall_text is_fall (λ x h. fall_shape x) falls a)))
    (then_read (read_client (99 ∷ decimal client)) client
    (λ n. read_flight (flight_text flight) >>= λ l. read_each read_fall (map fall_text falls) >>= λ x. Ok (acts.Fell n l x)) (client_read client c)
    ∙ then_read (read_flight (flight_text flight)) flight (λ l. read_each read_fall (map fall_text falls) >>= λ x. Ok (acts.Fell client l x))
    (flight_read flight f)
    ∙ then_read (read_each read_fall (map fall_text falls)) falls (λ x. Ok (acts.Fell client flight x))
    (each_read IsFall fall_text read_fall fall_read falls a)))

back_read : (client : ℕ) (chain : List SegName) → IsClient client → AllByRecursion IsSegment chain
    → read_act (act_line (acts.Back client chain)) ≡ Ok (acts.Back client chain)
back_read client chain c a =
    let ws : List (List ℕ) = (99 ∷ decimal client) ∷ map segment_text chain in
    by_words (act_line (acts.Back client chain)) (codes "a" ∷ codes "back" ∷ ws) (acts.Back client chain) (back_words client chain)
    (shaped verbs.Back ws (codes "a" ∷ codes "back" ∷ ws) (acts.Back client chain) refl
    (and_true (numbered 99 client) (each_shape IsSegment segment_text is_segment segment_shape chain a))
    (then_read (read_client (99 ∷ decimal client)) client (λ n. read_each read_segment (map segment_text chain) >>= λ x. Ok (acts.Back n x))
    (client_read client c)
    ∙ then_read (read_each read_segment (map segment_text chain)) chain (λ x. Ok (acts.Back client x))
    (each_read IsSegment segment_text read_segment segment_read chain a)))

lost_read : (node : NodeId) (seg : SegName) → WritesLog node → IsSegment seg → read_act (act_line (acts.Lost node seg)) ≡ Ok (acts.Lost node seg)
lost_read node seg w s =
    let ws : List (List ℕ) = node_text node ∷ segment_text seg ∷ [] in
    by_words (act_line (acts.Lost node seg)) (codes "a" ∷ codes "lost" ∷ ws) (acts.Lost node seg) (lost_words node seg)
    (shaped verbs.Lost ws (codes "a" ∷ codes "lost" ∷ ws) (acts.Lost node seg) refl (and_true (writer_shape node w) (and_true (segment_shape seg s) refl))
    (then_read (read_writer (node_text node)) node (λ n. read_segment (segment_text seg) >>= λ x. Ok (acts.Lost n x)) (writer_read node w)
    ∙ then_read (read_segment (segment_text seg)) seg (λ x. Ok (acts.Lost node x)) (segment_read seg s)))

filed_read : (seg : SegName) → IsSegment seg → read_act (act_line (acts.Filed seg)) ≡ Ok (acts.Filed seg)
filed_read seg s =
    let ws : List (List ℕ) = segment_text seg ∷ [] in
    by_words (act_line (acts.Filed seg)) (codes "a" ∷ codes "filed" ∷ ws) (acts.Filed seg) (filed_words seg)
    (shaped verbs.Filed ws (codes "a" ∷ codes "filed" ∷ ws) (acts.Filed seg) refl (and_true (segment_shape seg s) refl)
    (then_read (read_segment (segment_text seg)) seg (λ x. Ok (acts.Filed x)) (segment_read seg s)))

dropped_read : (seg : SegName) → IsSegment seg → read_act (act_line (acts.Dropped seg)) ≡ Ok (acts.Dropped seg)
dropped_read seg s =
    let ws : List (List ℕ) = segment_text seg ∷ [] in
    by_words (act_line (acts.Dropped seg)) (codes "a" ∷ codes "dropped" ∷ ws) (acts.Dropped seg) (dropped_words seg)
    (shaped verbs.Dropped ws (codes "a" ∷ codes "dropped" ∷ ws) (acts.Dropped seg) refl (and_true (segment_shape seg s) refl)
    (then_read (read_segment (segment_text seg)) seg (λ x. Ok (acts.Dropped x)) (segment_read seg s)))

pub line_read : (act : Act) → IsTold act → read_act (act_line act) ≡ Ok act
line_read (acts.Wrote client block value) h = wrote_read client block value h.0 h.1 h.2
line_read (acts.Read client block ver value) h = read_read client block ver value h.0 h.1 h.2 h.3
line_read (acts.Synced client) h = synced_read client h
line_read (acts.Fell client flight falls) h = fell_read client flight falls h.0 h.1 h.2
line_read (acts.Back client chain) h = back_read client chain h.0 h.1
line_read (acts.Lost node seg) h = lost_read node seg h.0 h.1
line_read (acts.Filed seg) h = filed_read seg h
line_read (acts.Dropped seg) h = dropped_read seg h
line_read (acts.Answered node item answer) h = absurd h

-- ---- the laws

-- lines that end alike are alike
pub same_front : (x : ℕ) (xs ys : List ℕ) → xs ++ x ∷ [] ≡ ys ++ x ∷ [] → xs ≡ ys
same_front x [] [] e = refl
same_front x [] (y ∷ ys) e =
    let l : length (x ∷ []) ≡ length (y ∷ (ys ++ x ∷ [])) = ap length e in
    let k : length (ys ++ x ∷ []) ≡ length ys + 1 = length-append ys (x ∷ []) in
    absurd (omega (arith, l, k))
same_front x (z ∷ zs) [] e =
    let l : length (z ∷ (zs ++ x ∷ [])) ≡ length (x ∷ []) = ap length e in
    let k : length (zs ++ x ∷ []) ≡ length zs + 1 = length-append zs (x ∷ []) in
    absurd (omega (arith, l, k))
same_front x (z ∷ zs) (y ∷ ys) e =
    let h : z ≡ y = cc in
    let t : zs ++ x ∷ [] ≡ ys ++ x ∷ [] = cc in
    cons h (same_front x zs ys t)
  where
    cons : {a b : ℕ} {p q : List ℕ} → a ≡ b → p ≡ q → a ∷ p ≡ b ∷ q
    cons e f = λ i. e i ∷ f i

pub one_line : ActsHaveOneLine
one_line act h = (act_line act, line_is act h, line_lacks act)

pub is_the_line : (act : Act) (line : List ℕ) → IsTold act → IsLineOf act line → line ≡ act_line act
is_the_line act line h e = same_front 10 line (act_line act) (sym e ∙ line_is act h)

pub acts_read : ActsAreReadAsPrinted
acts_read act line h e = ap read_act (is_the_line act line h e) ∙ line_read act h
