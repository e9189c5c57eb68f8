-- A whole segment is read as it is spelled: what is read is the text of the segment, and the text of a segment is read as it.
use Rattle.std.proofs.Common.{◌≡◌, ℕ, zero, suc, ◌+◌, ◌<◌, ◌≤◌, Bool, true, false, cond, eqb, List, [], ◌∷◌, ◌++◌, length, Option, Some, None, Result, Ok, Err, refl, sym, ap, subst, ◌∙◌, arith}
use Rattle.std.specs.Prelude.{is_none, ◌&&◌, ◌||◌}
use Rattle.std.specs.List.{flat_map, list_any, AllByRecursion}
use Rattle.std.proofs.lemmas.List.{append-nil, nil_from_length}
use Rattle.std.proofs.lemmas.Bool.{eqb-true, ltb-false}
use Rattle.xfs_base.specs.declared.block.BlockId.{BlockId}
use Rattle.xfs_base.specs.Blocks.{same_block}
use Rattle.xfs_base.specs.Fields.{Fields}
use Rattle.xfs_base.proofs.BlockOrder.{same_block_exact, same_block_itself}
use Rattle.xfs_base.specs.Limits.{max_value}
use Rattle.segment_format.specs.declared.head.Head.{Head}
use Rattle.segment_format.specs.declared.segment.Item.{Item}
use Rattle.segment_format.specs.declared.segment.Item.TheVariants.{Block, Delta, Part}
use Rattle.segment_format.specs.declared.segment.Segment.{Segment}
use Rattle.segment_format.specs.declared.seen.Awaited.{Awaited}
use Rattle.segment_format.specs.declared.seen.Seen.{Seen}
use Rattle.segment_format.specs.declared.seg_error.SegError.{SegError}
use Rattle.segment_format.specs.declared.seg_error.SegError.TheVariants.{BadVersion, BadRef, Trailing}
use Rattle.segment_format.specs.Format.{first_version, second_version, longest, most_items, mark, IsVersion, short_block}
use Rattle.segment_format.specs.Ranges.{FitsItem, Fits}
use Rattle.segment_format.specs.ReadingItems.{items_at, parts_at, segment_at, ended, answer_of}
use Rattle.segment_format.specs.Rule.{KeepsRule, deltas_in, others_in, nothing_seen, seen_after, no_item, answers}
use Rattle.segment_format.specs.Text.{item_text, head_text, is_long, version_of, head_of, text_of, IsItem, KeepsLimits, IsText}
use Rattle.segment_format.proofs.Writes.{kinds_count}
use Rattle.segment_format.proofs.Readers.{IsBytes, IsReader, then-reader, gives-reader, checked-reader, as-reader, cons-reader, OfCons}
use Rattle.segment_format.proofs.FieldLaws.{eq_true, true_eq, mark-reader, head-reader, OfHead}
use Rattle.segment_format.proofs.ItemLaws.{FullItem, Joins, item-reader}

-- ---- the rule on Deltas, an item at a time

and_true : (a b : Bool) → a && b ≡ true → (a ≡ true) × (b ≡ true)
and_true true b h = (refl, h)
and_true false b h = absurd cc

true_and : (a b : Bool) → a ≡ true → b ≡ true → a && b ≡ true
true_and true b p q = q
true_and false b p q = absurd cc

abbrev MayCome : Option Awaited → Item → Type 0
MayCome o (Block block value) = o ≡ None
MayCome o (Delta block ver hop item) = answers o block item ≡ true
MayCome o (Part slot rows) = o ≡ None

abbrev awaited_after : ℕ → Item → Option Awaited
awaited_after n (Block block value) = Some (record { block = block; item = n })
awaited_after n (Delta block ver hop item) = None
awaited_after n (Part slot rows) = None

rule_cons : (o : Option Awaited) (n m : ℕ) (x : Item) (xs : List Item) → MayCome o x → m ≡ n + 1 → KeepsRule (awaited_after n x) m xs → KeepsRule o n (x ∷ xs)
rule_cons None n m (Block block value) xs j e r = subst (λ (k : ℕ). KeepsRule (Some (record { block = block; item = n })) k xs) e r
rule_cons None n m (Delta block ver hop item) xs j e r = (eq_true item no_item j, subst (λ (k : ℕ). KeepsRule None k xs) e r)
rule_cons None n m (Part slot rows) xs j e r = subst (λ (k : ℕ). KeepsRule None k xs) e r
rule_cons (Some a) n m (Block block value) xs j e r = absurd cc
rule_cons (Some a) n m (Delta block ver hop item) xs j e r =
    let t = and_true (same_block block a.block) (eqb item a.item) j in
    (sym (same_block_exact block a.block t.0), eq_true item a.item t.1, subst (λ (k : ℕ). KeepsRule None k xs) e r)
rule_cons (Some a) n m (Part slot rows) xs j e r = absurd cc

rule_uncons : (o : Option Awaited) (n m : ℕ) (x : Item) (xs : List Item) → m ≡ n + 1 → KeepsRule o n (x ∷ xs) → MayCome o x × KeepsRule (awaited_after n x) m xs
rule_uncons None n m (Block block value) xs e r = (refl, subst (λ (k : ℕ). KeepsRule (Some (record { block = block; item = n })) k xs) (sym e) r)
rule_uncons None n m (Delta block ver hop item) xs e r = (true_eq item no_item r.0, subst (λ (k : ℕ). KeepsRule None k xs) (sym e) r.1)
rule_uncons None n m (Part slot rows) xs e r = (refl, subst (λ (k : ℕ). KeepsRule None k xs) (sym e) r)
rule_uncons (Some a) n m (Block block value) xs e r = absurd r
rule_uncons (Some a) n m (Delta block ver hop item) xs e r =
    let same : same_block block a.block ≡ true = subst (λ (b : BlockId). same_block block b ≡ true) r.0 (same_block_itself block) in
    (true_and (same_block block a.block) (eqb item a.item) same (true_eq item a.item r.1), subst (λ (k : ℕ). KeepsRule None k xs) (sym e) r.2)
rule_uncons (Some a) n m (Part slot rows) xs e r = absurd r

rule_end : (o : Option Awaited) (n : ℕ) → is_none o ≡ true → KeepsRule o n []
rule_end None n h = tt
rule_end (Some a) n h = absurd cc

end_rule : (o : Option Awaited) (n : ℕ) → KeepsRule o n [] → is_none o ≡ true
end_rule None n r = refl
end_rule (Some a) n r = absurd r

-- ---- items

abbrev OfItems : ℕ → ℕ → Seen → List Item → Type 0
OfItems version n seen items =
    (length items ≡ n) × AllByRecursion (FullItem version) items × KeepsRule seen.awaited (seen.others + seen.deltas) items
    × (seen.others + others_in items ≤ most_items) × (seen.deltas + deltas_in items ≤ most_items)

none_to : (version : ℕ) (seen : Seen) (items : List Item) → seen.others ≤ most_items → seen.deltas ≤ most_items → items ≡ [] → is_none seen.awaited ≡ true
    → OfItems version 0 seen items
none_to version seen [] o d e h = (refl, tt, rule_end seen.awaited (seen.others + seen.deltas) h, omega arith, omega arith)
none_to version seen (x ∷ xs) o d e h = absurd cc

none_from : (version : ℕ) (seen : Seen) (items : List Item) → OfItems version 0 seen items → (items ≡ []) × (is_none seen.awaited ≡ true)
none_from version seen [] h = (refl, end_rule seen.awaited (seen.others + seen.deltas) h.2)
none_from version seen (x ∷ xs) h = absurd (omega (arith, h.0))

abbrev Next : ℕ → Seen → Item → Type 0
Next version seen x = FullItem version x × Joins seen x

next_bounds : (version : ℕ) (seen : Seen) (x : Item) → Next version seen x → seen.others ≤ most_items → seen.deltas ≤ most_items
    → ((seen_after x seen).others ≤ most_items) × ((seen_after x seen).deltas ≤ most_items)
next_bounds version seen (Block block value) v o d = let lt : seen.others < most_items = v.1.0 in (omega arith, d)
next_bounds version seen (Delta block ver hop item) v o d = let lt : seen.deltas < most_items = v.1.0 in (o, omega arith)
next_bounds version seen (Part slot rows) v o d = let lt : seen.others < most_items = v.1.0 in (omega arith, d)

cons_to : (version n : ℕ) (seen : Seen) (x : Item) (xs : List Item) → Next version seen x → OfItems version n (seen_after x seen) xs
    → OfItems version (suc n) seen (x ∷ xs)
cons_to version n seen (Block block value) xs v h = (
  ap suc h.0,
  (v.0, h.1),
  rule_cons seen.awaited (seen.others + seen.deltas) (seen.others + 1 + seen.deltas) (Block block value) xs v.1.1 (omega arith) h.2,
  omega (arith, h.3),
  omega (arith, h.4),
)
cons_to version n seen (Delta block ver hop item) xs v h = (
  ap suc h.0,
  (v.0, h.1),
  rule_cons seen.awaited (seen.others + seen.deltas) (seen.others + (seen.deltas + 1)) (Delta block ver hop item) xs v.1.1 (omega arith) h.2,
  omega (arith, h.3),
  omega (arith, h.4),
)
cons_to version n seen (Part slot rows) xs v h = (
  ap suc h.0,
  (v.0, h.1),
  rule_cons seen.awaited (seen.others + seen.deltas) (seen.others + 1 + seen.deltas) (Part slot rows) xs v.1.1 (omega arith) h.2,
  omega (arith, h.3),
  omega (arith, h.4),
)

cons_from : (version n : ℕ) (seen : Seen) (x : Item) (xs : List Item) → OfItems version (suc n) seen (x ∷ xs)
    → Next version seen x × OfItems version n (seen_after x seen) xs
cons_from version n seen (Block block value) xs h =
    let r = rule_uncons seen.awaited (seen.others + seen.deltas) (seen.others + 1 + seen.deltas) (Block block value) xs (omega arith) h.2 in
    let len : length xs ≡ n = omega (arith, h.0) in
    ((h.1.0, (omega (arith, h.3), r.0)), (len, h.1.1, r.1, omega (arith, h.3), omega (arith, h.4)))
cons_from version n seen (Delta block ver hop item) xs h =
    let r = rule_uncons seen.awaited (seen.others + seen.deltas) (seen.others + (seen.deltas + 1)) (Delta block ver hop item) xs (omega arith) h.2 in
    let len : length xs ≡ n = omega (arith, h.0) in
    ((h.1.0, (omega (arith, h.4), r.0)), (len, h.1.1, r.1, omega (arith, h.3), omega (arith, h.4)))
cons_from version n seen (Part slot rows) xs h =
    let r = rule_uncons seen.awaited (seen.others + seen.deltas) (seen.others + 1 + seen.deltas) (Part slot rows) xs (omega arith) h.2 in
    let len : length xs ≡ n = omega (arith, h.0) in
    ((h.1.0, (omega (arith, h.3), r.0)), (len, h.1.1, r.1, omega (arith, h.3), omega (arith, h.4)))

of_cons_to : (version n : ℕ) (seen : Seen) (items : List Item) → OfCons (Next version seen) (λ x xs. OfItems version n (seen_after x seen) xs) items
    → OfItems version (suc n) seen items
of_cons_to version n seen [] h = absurd h
of_cons_to version n seen (x ∷ xs) h = cons_to version n seen x xs h.0 h.1

of_cons_from : (version n : ℕ) (seen : Seen) (items : List Item) → OfItems version (suc n) seen items
    → OfCons (Next version seen) (λ x xs. OfItems version n (seen_after x seen) xs) items
of_cons_from version n seen [] h = absurd (omega (arith, h.0))
of_cons_from version n seen (x ∷ xs) h = cons_from version n seen x xs h

items-reader : (version n : ℕ) (seen : Seen) → seen.others ≤ most_items → seen.deltas ≤ most_items
    → IsReader (items_at version seen n) (flat_map item_text) (OfItems version n seen)
unfolding items_at
items-reader version zero seen o d =
    as-reader (checked-reader (λ none. is_none seen.awaited) BadRef (gives-reader []))
    (λ items v. ap (λ (l : List Item). flat_map item_text l) (sym v.0))
    (λ items v. none_to version seen items o d v.0 v.1)
    (none_from version seen)
items-reader version (suc n) seen o d =
    as-reader (cons-reader (item-reader version seen) (λ x v. let b = next_bounds version seen x v o d in items-reader version n (seen_after x seen) b.0 b.1))
    (λ items v. refl)
    (of_cons_to version n seen)
    (of_cons_from version n seen)

-- ---- a segment

-- ---- the version that the items need

below_longest : (b : Bool) (n : ℕ) → n ≤ cond b short_block max_value → n ≤ max_value
below_longest true n le = omega arith
below_longest false n le = le

-- what an item of any version keeps to
any_version : (version : ℕ) (x : Item) → IsItem version x → IsItem second_version x
any_version version (Block block None) h = h
any_version version (Block block (Some bytes)) h = (h.0, below_longest (eqb version first_version) (length bytes) h.1)
any_version version (Delta block ver hop item) h = h
any_version version (Part slot rows) h = h

not_long : (x : Item) → is_long x ≡ false → IsItem second_version x → IsItem first_version x
not_long (Block block None) e h = h
not_long (Block block (Some bytes)) e h = (h.0, ltb-false (longest first_version) (length bytes) e)
not_long (Delta block ver hop item) e h = h
not_long (Part slot rows) e h = h

or_false : (a b : Bool) → a || b ≡ false → (a ≡ false) × (b ≡ false)
or_false true b h = absurd cc
or_false false b h = (refl, h)

none_long : (items : List Item) → list_any is_long items ≡ false → AllByRecursion (IsItem second_version) items → AllByRecursion (IsItem first_version) items
none_long [] e h = tt
none_long (x ∷ xs) e h = let p = or_false (is_long x) (list_any is_long xs) e in (not_long x p.0 h.0, none_long xs p.1 h.1)

needed : (items : List Item) (b : Bool) → list_any is_long items ≡ b → AllByRecursion (IsItem second_version) items
    → AllByRecursion (IsItem (cond b second_version first_version)) items
needed items true e h = h
needed items false e h = none_long items e h

version_in : (b : Bool) → IsVersion (cond b second_version first_version)
version_in true = (omega arith, omega arith)
version_in false = (omega arith, omega arith)

all_fit : (version : ℕ) (items : List Item) → AllByRecursion (FullItem version) items
    → AllByRecursion FitsItem items × AllByRecursion (IsItem second_version) items
all_fit version [] h = (tt, tt)
all_fit version (x ∷ xs) h = let r = all_fit version xs h.1 in ((h.0.0, r.0), (any_version version x h.0.1, r.1))

fit_all : (version : ℕ) (items : List Item) → AllByRecursion FitsItem items → AllByRecursion (IsItem version) items → AllByRecursion (FullItem version) items
fit_all version [] f h = tt
fit_all version (x ∷ xs) f h = ((f.0, h.0), fit_all version xs f.1 h.1)

-- ---- the header and the items

-- the version of the header is the one that the items need
abbrev OfParts : Head × List Item → Type 0
OfParts p = OfHead p.0 × OfItems p.0.version p.0.count nothing_seen p.1 × (p.0.version ≡ version_of p.1)

parts-reader : IsReader parts_at (λ p. head_text p.0 ++ flat_map item_text p.1) OfParts
unfolding parts_at
parts-reader =
    as-reader
    (checked-reader (λ p. eqb p.0.version (version_of p.1)) BadVersion
    (then-reader (λ (p : Head × List Item). p.0) head-reader
    (λ head _. then-reader (λ (p : Head × List Item). p.1) (items-reader head.version head.count nothing_seen (omega arith) (omega arith))
    (λ items _. gives-reader (head, items))
    (λ items p _ h. ap (λ (x : Head × List Item). x.1) h))
    (λ head p _ h. ap (λ (x : Head × List Item). x.0) h.1)))
    (λ p v. ap (λ (l : List ℕ). head_text p.0 ++ l) (append-nil (flat_map item_text p.1)))
    (λ p v. (v.0.0, v.0.1.0, eq_true p.0.version (version_of p.1) v.1))
    (λ p v. ((v.0, (v.1, refl)), true_eq p.0.version (version_of p.1) v.2))

-- ---- a segment

abbrev OfSegment : Segment → Type 0
OfSegment s = Fits s × KeepsLimits s

abbrev parts_of : Segment → Head × List Item
parts_of s = (head_of s, s.items)

segment_to : (s : Segment) → OfParts (parts_of s) → OfSegment s
segment_to s v =
    let a = all_fit (version_of s.items) s.items v.1.1 in (
      record { name = v.0.1.0; prior = v.0.2; group = v.0.3; items = a.0 },
      record { log = v.0.1.1; items = a.1; others = omega (arith, v.1.3); deltas = omega (arith, v.1.4); rule = v.1.2 },
    )

segment_from : (s : Segment) → OfSegment s → OfParts (parts_of s)
segment_from s v = (
  (version_in (list_any is_long s.items), (v.0.name, v.1.log), v.0.prior, v.0.group, omega (arith, kinds_count s.items, v.1.others, v.1.deltas)),
  (
    refl,
    fit_all (version_of s.items) s.items v.0.items (needed s.items (list_any is_long s.items) refl v.1.items),
    v.1.rule,
    omega (arith, v.1.others),
    omega (arith, v.1.deltas),
  ),
  refl,
)

abbrev segment_of : Head × List Item → Segment
segment_of p = record { name = p.0.name; prior = p.0.prior; group = p.0.group; items = p.1 }

parts_are : (p : Head × List Item) (s : Segment) → OfParts p → s ≡ segment_of p → parts_of s ≡ p
parts_are p s v e =
    let version : version_of p.1 ≡ p.0.version = sym v.2 in
    let count : length p.1 ≡ p.0.count = v.1.0 in
    ap (λ (x : Segment). parts_of x) e ∙ (λ i. (record { version = version i; name = p.0.name; prior = p.0.prior; group = p.0.group; count = count i }, p.1))

pub segment-reader : IsReader segment_at text_of OfSegment
unfolding segment_at
segment-reader =
    as-reader
    (then-reader (λ (s : Segment). mark) mark-reader
    (λ m _. then-reader (λ (s : Segment). parts_of s) parts-reader
    (λ p _. gives-reader (segment_of p))
    (λ p s v h. parts_are p s v h))
    (λ m s v _. sym v))
    (λ s v. ap (λ (l : List ℕ). mark ++ l) (append-nil (head_text (head_of s) ++ flat_map item_text s.items)))
    (λ s v. segment_to s v.1.0)
    (λ s v. (refl, (segment_from s v, refl)))

-- ---- all of the bytes

cond_ok : (b : Bool) (d : SegError) (x y : Segment) → cond b (Ok x) (Err d) ≡ Ok y → (b ≡ true) × (x ≡ y)
cond_ok true d x y e = (refl, cc)
cond_ok false d x y e = absurd cc

ended_ok : (r : Result (Segment × Fields) SegError) (s : Segment) → ended r ≡ Ok s → (x : Segment × Fields) × (r ≡ Ok x) × (x.0 ≡ s) × (x.1.left ≡ [])
ended_ok (Ok x) s e =
    let g = cond_ok (eqb (length x.1.left) 0) (Trailing x.1.at) x.0 s e in
    (x, refl, g.1, nil_from_length x.1.left (eqb-true _ _ g.0))
ended_ok (Err d) s e = absurd cc

abbrev whole : List ℕ → Fields
whole bytes = record { left = bytes; at = 0 }

-- what is read is the text of the segment
pub answer_takes : (bytes : List ℕ) (s : Segment) → IsBytes bytes → answer_of bytes ≡ Ok s → IsText bytes s × Fits s
unfolding answer_of
answer_takes bytes s fits e =
    let a = ended_ok (segment_at (whole bytes)) s e in
    let t = segment-reader.takes (whole bytes) a.0.0 a.0.1 fits a.1 in
    let spelled : bytes ≡ text_of a.0.0 = t.0.parts ∙ ap (λ (l : List ℕ). text_of a.0.0 ++ l) a.3 ∙ append-nil (text_of a.0.0) in
    subst (λ (x : Segment). IsText bytes x × Fits x) a.2 (record { limits = t.1.1; spelled = spelled }, t.1.0)

-- the text of a segment is read as it, whatever follows
text_again : (s : Segment) (more : List ℕ) → Fits s → KeepsLimits s
    → segment_at (whole (text_of s ++ more)) ≡ Ok (s, record { left = more; at = length (text_of s) })
text_again s more fits limits =
    let n : 0 + length (text_of s) ≡ length (text_of s) = omega arith in
    let r : Fields → Result (Segment × Fields) SegError = λ f. Ok (s, f) in
    segment-reader.again s more 0 (fits, limits) ∙ ap (λ (k : ℕ). r (record { left = more; at = k })) n

pub answer_again : (bytes : List ℕ) (s : Segment) → Fits s → IsText bytes s → answer_of bytes ≡ Ok s
unfolding answer_of
answer_again bytes s fits text =
    let parts : bytes ≡ text_of s ++ [] = text.spelled ∙ sym (append-nil (text_of s)) in
    ap (λ (l : List ℕ). ended (segment_at (whole l))) parts ∙ ap (λ (r : Result (Segment × Fields) SegError). ended r) (text_again s [] fits text.limits)

-- no text begins another, and one text is of one segment
pub texts_apart : (a b more : List ℕ) (s t : Segment) → Fits s → Fits t → IsText a s → IsText b t → b ≡ a ++ more → (more ≡ []) × (s ≡ t)
texts_apart a b more s t fs ft p q e =
    let longer : text_of t ++ [] ≡ text_of s ++ more = append-nil (text_of t) ∙ sym q.spelled ∙ e ∙ ap (λ (l : List ℕ). l ++ more) p.spelled in
    let r : Segment × Fields → Result (Segment × Fields) SegError = λ x. Ok x in
    let one : Segment × Fields = (s, record { left = more; at = length (text_of s) }) in
    let two : Segment × Fields = (t, record { left = []; at = length (text_of t) }) in
    let same : r one ≡ r two = sym (text_again s more fs p.limits) ∙ ap (λ (l : List ℕ). segment_at (whole l)) (sym longer) ∙ text_again t [] ft q.limits in
    let x : one ≡ two = cc in
    (ap (λ (y : Segment × Fields). y.1.left) x, ap (λ (y : Segment × Fields). y.0) x)
