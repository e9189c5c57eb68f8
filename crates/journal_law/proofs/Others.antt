-- Whatever a line is, an act that is read of it is one that can be told.
use Rattle.std.proofs.Common.{◌≡◌, ℕ, ◌<◌, ◌≤◌, ◌^◌, ◌==◌, nat_le, nat_lt, Bool, true, false, ◌&&◌, List, [], ◌∷◌, length, drop, codes, refl, subst, arith, inl, Option, Some, None, Result, Ok, Err, if◌then◌else◌}
use Rattle.std.specs.Fmt.{decimal}
use Rattle.std.specs.List.{AllByRecursion}
use Rattle.std.specs.Str.{bytes_eq}
use Rattle.std.specs.Str.Parse.{digits_value}
use Rattle.std.proofs.lemmas.Bool.Decides.{nat_tests}
use Rattle.audit.specs.Acts.{read_number, read_counted, long_of, read_long, read_node, read_client, first_is, read_writer, read_block, segment_at, read_segment, read_version, value_of, read_value, read_flight, read_fall, read_each, act_of, act_by}
use Rattle.audit.specs.Shapes.{front, back, shape_of}
use Rattle.audit.specs.declared.shape.Verb.{Verb}
use Rattle.audit.specs.declared.shape.Verb.TheVariants as verbs
use Rattle.script_print.proofs.Bytes.{spelled_bytes}
use Rattle.script_text.proofs.Judged.{judge_ok}
use Rattle.script_text.proofs.Texts.{quoted_read}
use Rattle.script_text.proofs.WordLemmas.{number_from}
use Rattle.script_text.specs.Outcome.{◌>>=◌, or_fault}
use Rattle.script_text.specs.Reading.{number_of, is_one_of, text_from, quoted_text}
use Rattle.script_text.specs.Words.{words, joined, first, behind}
use Rattle.script_text.specs.declared.refusal.Kind.{Kind}
use Rattle.script_text.specs.declared.refusal.Kind.TheVariants.{BadWord, BadNumber, BadText, NoNode, TooLong}
use Rattle.script_text.specs.declared.text.Mark.TheVariants as mark
use Rattle.version_model.specs.declared.act.Act.{Act}
use Rattle.version_model.specs.declared.act.Act.TheVariants as acts
use Rattle.version_model.specs.declared.act.Fall.{Fall}
use Rattle.xfs_base.specs.Logs.{WritesLog, log_of}
use Rattle.xfs_base.specs.declared.block.BlockId.{BlockId}
use Rattle.xfs_base.specs.declared.node.NodeId.{NodeId}
use Rattle.xfs_base.specs.declared.node.NodeId.TheVariants as nodes
use Rattle.xfs_base.specs.declared.segment.SegName.{SegName}
use Rattle.xfs_base.specs.Limits.{max_value, most_clients, most_managers, log_count}
use Rattle.journal_law.specs.Told.{IsCount, IsClient, IsBlock, IsVersion, IsContent, IsSegment, IsFlight, IsFall, IsTold, NoOtherActIsRead}

abbrev good : {X : Type 0} → X → Result X Kind
good x = Ok x

abbrev bad : {X : Type 0} → Kind → Result X Kind
bad k = Err k

err_ok : {X : Type 0} (k : Kind) (x : X) → bad {X = X} k ≡ good x → ⊥
err_ok k x e = cc

same_ok : {X : Type 0} (x y : X) → good x ≡ good y → x ≡ y
same_ok x y e = cc

-- what was read first, where something was read in the end
pub read_first : {X Y : Type 0} (r : Result X Kind) (f : X → Result Y Kind) (y : Y) → (r >>= f) ≡ Ok y → (x : X) × (r ≡ Ok x) × (f x ≡ Ok y)
read_first (Ok x) f y e = (x, refl, e)
read_first (Err k) f y e = absurd (err_ok k y e)

-- ---- numbers

number_small : (w : List ℕ) (n : ℕ) → read_number w ≡ Ok n → n < 2 ^ 32
number_small w n e = (number_from w n (judge_ok BadNumber BadNumber (λ x. true) (number_of w) n e).0).0

counted_is : (w : List ℕ) (n : ℕ) → read_counted w ≡ Ok n → IsCount n
counted_is w n e =
    let j = judge_ok BadNumber BadNumber (λ x. nat_lt 0 x) (number_of w) n e in
    record { some = above n j.1; small = (number_from w n j.0).0 }
  where
    above : (n : ℕ) → nat_lt 0 n ≡ true → 0 < n
    above n t = grind (arith, nat_tests, t)

long_some : (m n : ℕ) (b t : Bool) → nat_lt m 18446744073709551616 ≡ t → (if b && t then Some m else None) ≡ Some n → n < 2 ^ 64
long_some m n true true f h =
    let s : m ≡ n = grind (arith, h) in
    let l : m < 2 ^ 64 = grind (arith, nat_tests, f) in
    rw s at l
long_some m n true false f h = absurd (grind (arith, h))
long_some m n false t f h = absurd (grind (arith, h))

long_small : (w : List ℕ) (n : ℕ) → read_long w ≡ Ok n → IsVersion n
long_small w n e =
    let j = judge_ok BadNumber BadNumber (λ x. true) (long_of w) n e in
    let m = digits_value 10 w in
    long_some m n (bytes_eq w (decimal m)) (nat_lt m 18446744073709551616) refl j.0

one_of : (limit n : ℕ) (t u : Bool) → nat_lt 0 n ≡ t → nat_le n limit ≡ u → (t && u) ≡ true → (1 ≤ n) × (n ≤ limit)
one_of limit n true true f g e = (grind (arith, nat_tests, f), grind (arith, nat_tests, g))
one_of limit n true false f g e = absurd (grind (arith, e))
one_of limit n false u f g e = absurd (grind (arith, e))

node_is : (limit n : ℕ) (w : List ℕ) → read_node limit w ≡ Ok n → (1 ≤ n) × (n ≤ limit)
node_is limit n w e =
    let j = judge_ok BadNumber NoNode (is_one_of limit) (number_of (drop 1 w)) n e in
    one_of limit n (nat_lt 0 n) (nat_le n limit) refl refl j.1

client_is : (n : ℕ) (w : List ℕ) → read_client w ≡ Ok n → IsClient n
client_is n w e = node_is most_clients n w e

-- ---- names

block_is : (w : List ℕ) (b : BlockId) → read_block w ≡ Ok b → IsBlock b
block_is w b e =
    let i = read_first (read_number (front 47 w)) (λ ino. read_number (back 47 w) >>= λ blk. good (record { ino = record { 0 = ino }; blk = blk })) b e in
    let k = read_first (read_number (back 47 w)) (λ blk. good (record { ino = record { 0 = i.0 }; blk = blk })) b i.2 in
    let s : record { ino = record { 0 = i.0 }; blk = k.0 } ≡ b = same_ok _ b k.2 in
    subst IsBlock s (record { ino = number_small (front 47 w) i.0 i.1; blk = number_small (back 47 w) k.0 k.1 })

writer_at : (w : List ℕ) (node : NodeId) (t u : Bool)
    → (if t then good nodes.Cleaner else if u then (read_client w >>= λ n. good (nodes.Client n)) else (read_node most_managers w >>= λ n. good (nodes.Manager n)))
    ≡ Ok node → WritesLog node
writer_at w node true u e = subst WritesLog (same_ok nodes.Cleaner node e) tt
writer_at w node false true e =
    let r = read_first (read_client w) (λ n. good (nodes.Client n)) node e in
    subst WritesLog (same_ok (nodes.Client r.0) node r.2) (client_is r.0 w r.1)
writer_at w node false false e =
    let r = read_first (read_node most_managers w) (λ n. good (nodes.Manager n)) node e in
    subst WritesLog (same_ok (nodes.Manager r.0) node r.2) (node_is most_managers r.0 w r.1)

writer_is : (w : List ℕ) (node : NodeId) → read_writer w ≡ Ok node → WritesLog node
writer_is w node e = writer_at w node (bytes_eq w (codes "cl")) (first_is 99 w) e

log_is : (node : NodeId) → WritesLog node → (1 ≤ (log_of node).0) × ((log_of node).0 ≤ log_count)
log_is (nodes.Client n) h = (h.0, omega (arith, h.1))
log_is (nodes.Manager n) h = (omega arith, omega (arith, h.1))
log_is (nodes.Server n) h = absurd h
log_is nodes.Cleaner h = (omega arith, omega arith)
log_is nodes.Registry h = absurd h

segment_of : (node : NodeId) (seq inc att : ℕ) (seg : SegName) → WritesLog node → IsCount seq → IsCount inc → IsCount att
    → good (segment_at node seq inc att) ≡ good seg → IsSegment seg
segment_of node seq inc att seg w s i t e =
    let l = log_is node w in
    subst IsSegment (same_ok (segment_at node seq inc att) seg e) (record { written = l.0; log = l.1; seq = s; inc = i; att = t })

segment_is : (w : List ℕ) (seg : SegName) → read_segment w ≡ Ok seg → IsSegment seg
segment_is w seg e =
    let a = front 46 (back 46 w) in
    let b = front 46 (back 46 (back 46 w)) in
    let c = back 46 (back 46 (back 46 w)) in
    let n = read_first (read_writer (front 46 w))
    (λ node. read_counted a >>= λ seq. read_counted b >>= λ inc. read_counted c >>= λ att. good (segment_at node seq inc att)) seg e in
    let s = read_first (read_counted a) (λ seq. read_counted b >>= λ inc. read_counted c >>= λ att. good (segment_at n.0 seq inc att)) seg n.2 in
    let i = read_first (read_counted b) (λ inc. read_counted c >>= λ att. good (segment_at n.0 s.0 inc att)) seg s.2 in
    let t = read_first (read_counted c) (λ att. good (segment_at n.0 s.0 i.0 att)) seg i.2 in
    segment_of n.0 s.0 i.0 t.0 seg (writer_is (front 46 w) n.0 n.1) (counted_is a s.0 s.1) (counted_is b i.0 i.1) (counted_is c t.0 t.1) t.2

flight_at : (w : List ℕ) (flight : Option (ℕ × ℕ)) (t : Bool)
    → (if t then good None else (read_counted (front 46 w) >>= λ seq. read_counted (back 46 w) >>= λ inc. good (Some (seq, inc)))) ≡ Ok flight → IsFlight flight
flight_at w flight true e = subst IsFlight (same_ok None flight e) tt
flight_at w flight false e =
    let s = read_first (read_counted (front 46 w)) (λ seq. read_counted (back 46 w) >>= λ inc. good (Some (seq, inc))) flight e in
    let i = read_first (read_counted (back 46 w)) (λ inc. good (Some (s.0, inc))) flight s.2 in
    subst IsFlight (same_ok (Some (s.0, i.0)) flight i.2) (counted_is (front 46 w) s.0 s.1, counted_is (back 46 w) i.0 i.1)

flight_is : (w : List ℕ) (flight : Option (ℕ × ℕ)) → read_flight w ≡ Ok flight → IsFlight flight
flight_is w flight e = flight_at w flight (bytes_eq w (codes "none")) e

fall_of : (block : BlockId) (low high : ℕ) (f : Fall) → IsBlock block → IsVersion low → IsVersion high
    → good (record { block = block; low = low; high = high }) ≡ good f → IsFall f
fall_of block low high f b l h e = subst IsFall (same_ok (record { block = block; low = low; high = high }) f e) (record { block = b; low = l; high = h })

fall_is : (w : List ℕ) (f : Fall) → read_fall w ≡ Ok f → IsFall f
fall_is w f e =
    let a = front 58 (back 58 w) in
    let c = back 58 (back 58 w) in
    let b = read_first (read_block (front 58 w))
    (λ block. read_long a >>= λ low. read_long c >>= λ high. good (record { block = block; low = low; high = high })) f e in
    let l = read_first (read_long a) (λ low. read_long c >>= λ high. good (record { block = b.0; low = low; high = high })) f b.2 in
    let h = read_first (read_long c) (λ high. good (record { block = b.0; low = l.0; high = high })) f l.2 in
    fall_of b.0 l.0 h.0 f (block_is (front 58 w) b.0 b.1) (long_small a l.0 l.1) (long_small c h.0 h.1) h.2

-- ---- values

few : (text : List ℕ) (value : Option (List ℕ)) → value_of text ≡ Ok value → (1 ≤ length text) × (length text ≤ max_value) × (Some text ≡ value)
few [] value e = absurd (err_ok BadText value e)
few (b ∷ bytes) value e = at_length (nat_le (length (b ∷ bytes)) max_value) refl e
  where
    small : (n : ℕ) → nat_le n max_value ≡ true → n ≤ max_value
    small n f = grind (arith, nat_tests, f)

    at_length : (t : Bool) → nat_le (length (b ∷ bytes)) max_value ≡ t → (if t then good (Some (b ∷ bytes)) else Err TooLong) ≡ Ok value
        → (1 ≤ length (b ∷ bytes)) × (length (b ∷ bytes) ≤ max_value) × (Some (b ∷ bytes) ≡ value)
    at_length true f g = (omega arith, small (length (b ∷ bytes)) f, same_ok (Some (b ∷ bytes)) value g)
    at_length false f g = absurd (err_ok TooLong value g)

quoted_bytes : (w text : List ℕ) → quoted_text w ≡ Some text → AllByRecursion (λ b. b < 256) text
quoted_bytes [] text e = absurd (grind (arith, e))
quoted_bytes (b ∷ w) text e = at_quote (b == 34) e
  where
    at_quote : (t : Bool) → (if t then text_from mark.Plain w else None) ≡ Some text → AllByRecursion (λ b. b < 256) text
    at_quote true f = let r = quoted_read w text f in spelled_bytes (34 ∷ w) text (inl (r.0, r.1, r.2))
    at_quote false f = absurd (grind (arith, f))

value_at : (w : List ℕ) (value : Option (List ℕ)) (t : Bool) → (if t then good None else (or_fault BadText (quoted_text w) >>= value_of)) ≡ Ok value
    → IsContent value
value_at w value true e = subst IsContent (same_ok None value e) (record { fits = tt; bytes = tt })
value_at w value false e =
    let r = read_first (or_fault BadText (quoted_text w)) value_of value e in
    let q = (judge_ok BadText BadText (λ x. true) (quoted_text w) r.0 r.1).0 in
    let f = few r.0 value r.2 in
    subst IsContent f.2 (record { fits = (f.0, f.1); bytes = quoted_bytes w r.0 q })

value_is : (w : List ℕ) (value : Option (List ℕ)) → read_value w ≡ Ok value → IsContent value
value_is w value e = value_at w value (bytes_eq w (codes "absent")) e

-- ---- each of some words

each_is : {A : Type 0} (P : A → Type 0) (read : List ℕ → Result A Kind) → ((w : List ℕ) (a : A) → read w ≡ Ok a → P a) → (ws : List (List ℕ)) (xs : List A)
    → read_each read ws ≡ Ok xs → AllByRecursion P xs
each_is P read h [] xs e = subst (AllByRecursion P) (same_ok [] xs e) tt
each_is P read h (w ∷ ws) xs e =
    let a = read_first (read w) (λ x. read_each read ws >>= λ more. good (x ∷ more)) xs e in
    let m = read_first (read_each read ws) (λ more. good (a.0 ∷ more)) xs a.2 in
    subst (AllByRecursion P) (same_ok (a.0 ∷ m.0) xs m.2) (h w a.0 a.1, each_is P read h ws m.0 m.1)

-- ---- acts

wrote_of : (client : ℕ) (block : BlockId) (value : Option (List ℕ)) (act : Act) → IsClient client → IsBlock block → IsContent value
    → good (acts.Wrote client block value) ≡ good act → IsTold act
wrote_of client block value act c b v e = subst IsTold (same_ok (acts.Wrote client block value) act e) (c, b, v)

read_of : (client : ℕ) (block : BlockId) (ver : ℕ) (value : Option (List ℕ)) (act : Act) → IsClient client → IsBlock block → IsVersion ver → IsContent value
    → good (acts.Read client block ver value) ≡ good act → IsTold act
read_of client block ver value act c b m v e = subst IsTold (same_ok (acts.Read client block ver value) act e) (c, b, m, v)

by_verb : (verb : Verb) (ws : List (List ℕ)) (act : Act) → act_of verb ws ≡ Ok act → IsTold act
by_verb verbs.Wrote ws act e =
    let v = joined 32 (behind (behind ws)) in
    let c = read_first (read_client (first ws)) (λ n. read_block (first (behind ws)) >>= λ b. read_value v >>= λ x. good (acts.Wrote n b x)) act e in
    let b = read_first (read_block (first (behind ws))) (λ k. read_value v >>= λ x. good (acts.Wrote c.0 k x)) act c.2 in
    let x = read_first (read_value v) (λ y. good (acts.Wrote c.0 b.0 y)) act b.2 in
    wrote_of c.0 b.0 x.0 act (client_is c.0 (first ws) c.1) (block_is (first (behind ws)) b.0 b.1) (value_is v x.0 x.1) x.2
by_verb verbs.Read ws act e =
    let w = first (behind (behind ws)) in
    let v = joined 32 (behind (behind (behind ws))) in
    let c = read_first (read_client (first ws))
    (λ n. read_block (first (behind ws)) >>= λ b. read_version w >>= λ m. read_value v >>= λ x. good (acts.Read n b m x)) act e in
    let b = read_first (read_block (first (behind ws))) (λ k. read_version w >>= λ m. read_value v >>= λ x. good (acts.Read c.0 k m x)) act c.2 in
    let m = read_first (read_version w) (λ k. read_value v >>= λ x. good (acts.Read c.0 b.0 k x)) act b.2 in
    let x = read_first (read_value v) (λ y. good (acts.Read c.0 b.0 m.0 y)) act m.2 in
    read_of c.0 b.0 m.0 x.0 act (client_is c.0 (first ws) c.1) (block_is (first (behind ws)) b.0 b.1) (long_small (drop 1 w) m.0 m.1) (value_is v x.0 x.1) x.2
by_verb verbs.Synced ws act e =
    let c = read_first (read_client (first ws)) (λ n. good (acts.Synced n)) act e in
    subst IsTold (same_ok (acts.Synced c.0) act c.2) (client_is c.0 (first ws) c.1)
by_verb verbs.Fell ws act e =
    let c = read_first (read_client (first ws))
    (λ n. read_flight (first (behind ws)) >>= λ l. read_each read_fall (behind (behind ws)) >>= λ x. good (acts.Fell n l x)) act e in
    let l = read_first (read_flight (first (behind ws))) (λ k. read_each read_fall (behind (behind ws)) >>= λ x. good (acts.Fell c.0 k x)) act c.2 in
    let x = read_first (read_each read_fall (behind (behind ws))) (λ y. good (acts.Fell c.0 l.0 y)) act l.2 in
    subst IsTold (same_ok (acts.Fell c.0 l.0 x.0) act x.2)
    (client_is c.0 (first ws) c.1, flight_is (first (behind ws)) l.0 l.1, each_is IsFall read_fall fall_is (behind (behind ws)) x.0 x.1)
by_verb verbs.Back ws act e =
    let c = read_first (read_client (first ws)) (λ n. read_each read_segment (behind ws) >>= λ x. good (acts.Back n x)) act e in
    let x = read_first (read_each read_segment (behind ws)) (λ y. good (acts.Back c.0 y)) act c.2 in
    subst IsTold (same_ok (acts.Back c.0 x.0) act x.2) (client_is c.0 (first ws) c.1, each_is IsSegment read_segment segment_is (behind ws) x.0 x.1)
by_verb verbs.Lost ws act e =
    let n = read_first (read_writer (first ws)) (λ k. read_segment (first (behind ws)) >>= λ x. good (acts.Lost k x)) act e in
    let x = read_first (read_segment (first (behind ws))) (λ y. good (acts.Lost n.0 y)) act n.2 in
    subst IsTold (same_ok (acts.Lost n.0 x.0) act x.2) (writer_is (first ws) n.0 n.1, segment_is (first (behind ws)) x.0 x.1)
by_verb verbs.Filed ws act e =
    let x = read_first (read_segment (first ws)) (λ y. good (acts.Filed y)) act e in
    subst IsTold (same_ok (acts.Filed x.0) act x.2) (segment_is (first ws) x.0 x.1)
by_verb verbs.Dropped ws act e =
    let x = read_first (read_segment (first ws)) (λ y. good (acts.Dropped y)) act e in
    subst IsTold (same_ok (acts.Dropped x.0) act x.2) (segment_is (first ws) x.0 x.1)

by_shape : (o : Option Verb) (ws : List (List ℕ)) (act : Act) → act_by o ws ≡ Ok act → IsTold act
by_shape None ws act e = absurd (err_ok BadWord act e)
by_shape (Some verb) ws act e = by_verb verb (behind (behind ws)) act e

pub no_others : NoOtherActIsRead
no_others act line e = by_shape (shape_of (words line)) (words line) act e
