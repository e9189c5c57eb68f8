-- What more bytes at the end change: nothing but that a reader which ran out of bytes may go on. And where a reader ends.
use Rattle.std.proofs.Common.{◌≡◌, ℕ, zero, suc, ◌+◌, ◌≤◌, Bool, true, false, cond, ltb, leb, eqb, List, [], ◌∷◌, ◌++◌, length, take, drop, Some, None, Result, Ok, Err, refl, sym, ap, subst, ◌∙◌, arith, inl, inr}
use Rattle.std.specs.Prelude.{is_none, ◌⊎◌}
use Rattle.std.specs.Int.{Width, w8, w16, w32, w64, byte_len, from_be_bytes}
use Rattle.std.proofs.lemmas.Bool.{ltb-false, le-ltb}
use Rattle.std.proofs.lemmas.List.{take-append-le, drop-append-le, length-append, length-drop}
use Rattle.xfs_base.specs.Fields.{Fields}
use Rattle.xfs_base.specs.Limits.{slot_count}
use Rattle.segment_format.specs.declared.seen.Seen.{Seen}
use Rattle.segment_format.specs.declared.segment.Item.TheVariants.{Block, Delta, Part}
use Rattle.segment_format.specs.declared.seg_error.SegError.{SegError}
use Rattle.segment_format.specs.declared.seg_error.SegError.TheVariants.{Short, BadMark, BadVersion, BadKind, BadLength, BadRef}
use Rattle.segment_format.specs.Answers.{place, IsShort}
use Rattle.segment_format.specs.Format.{most_items, is_mark, is_log, is_version, is_length, is_row_count}
use Rattle.segment_format.specs.Reading.{Reader, read_on, ◌>>=◌, gives, past, raw, number, judged, checked}
use Rattle.segment_format.specs.ReadingFields.{block_at, log_at, pass_at, name_at, prior_at, mark_at, head_at, value_at, place_at, flagged_at, row_at, rows_at}
use Rattle.segment_format.specs.ReadingItems.{kind_at, block_item_at, delta_item_at, part_item_at, body_at, item_at, items_at, parts_at, segment_at}
use Rattle.segment_format.specs.Rule.{nothing_seen, seen_after, is_kind, has_room, may_come, follows}
use Rattle.segment_format.specs.Text.{version_of}

-- the same bytes, and more behind them
abbrev pub with_more : List ℕ → Fields → Fields
with_more more f = record { left = f.left ++ more; at = f.at }

-- the answer to more bytes, beside the answer to fewer
abbrev pub Stays : {A : Type 0} → List ℕ → Result (A × Fields) SegError → Result (A × Fields) SegError → Type 0
Stays more (Ok x) r = r ≡ Ok (x.0, with_more more x.1)
Stays more (Err e) r = IsShort e ⊎ (r ≡ Err e)

-- what is read and what is left are all, and a refusal names a place within
abbrev pub Ends : {A : Type 0} → Fields → Result (A × Fields) SegError → Type 0
Ends f (Ok x) = x.1.at + length x.1.left ≡ f.at + length f.left
Ends f (Err e) = place e ≤ f.at + length f.left

pub record IsSteady {A : Type 0} (p : Reader A) : Type 0 where
  pub stays : (f : Fields) (more : List ℕ) → Stays more (p f) (p (with_more more f))
  pub ends : (f : Fields) → Ends f (p f)

next-stays : {A B : Type 0} (q : A → Reader B) → ((a : A) → IsSteady (q a)) → (more : List ℕ) (r r' : Result (A × Fields) SegError) → Stays more r r'
    → Stays more (read_on r q) (read_on r' q)
next-stays {A = A} q hq more (Ok x) r' h = subst (λ (z : Result (A × Fields) SegError). Stays more (q x.0 x.1) (read_on z q)) (sym h) ((hq x.0).stays x.1 more)
next-stays q hq more (Err e) r' (inl s) = inl s
next-stays {A = A} q hq more (Err e) r' (inr h) = inr (ap (λ (z : Result (A × Fields) SegError). read_on z q) h)

ends_along : {A : Type 0} (f g : Fields) (r : Result (A × Fields) SegError) → g.at + length g.left ≡ f.at + length f.left → Ends g r → Ends f r
ends_along f g (Ok x) e h = h ∙ e
ends_along f g (Err d) e h = omega (arith, e, h)

next-ends : {A B : Type 0} (q : A → Reader B) → ((a : A) → IsSteady (q a)) → (f : Fields) (r : Result (A × Fields) SegError) → Ends f r → Ends f (read_on r q)
next-ends q hq f (Ok x) h = ends_along f x.1 (q x.0 x.1) h ((hq x.0).ends x.1)
next-ends q hq f (Err e) h = h

then-steady : {A B : Type 0} {p : Reader A} {q : A → Reader B} → IsSteady p → ((a : A) → IsSteady (q a)) → IsSteady (p >>= q)
then-steady {p = p} {q = q} hp hq = record {
  stays = λ f more. next-stays q hq more (p f) (p (with_more more f)) (hp.stays f more);
  ends = λ f. next-ends q hq f (p f) (hp.ends f);
}

gives-steady : {A : Type 0} (x : A) → IsSteady (gives x)
gives-steady x = record { stays = λ f more. refl; ends = λ f. refl }

cond-stays : {A : Type 0} (b : Bool) (d : SegError) (more : List ℕ) (x : A × Fields)
    → Stays more (cond b (Ok x) (Err d)) (cond b (Ok (x.0, with_more more x.1)) (Err d))
cond-stays true d more x = refl
cond-stays false d more x = inr refl

judged-stays : {A : Type 0} (test : A → Bool) (d : SegError) (more : List ℕ) (r r' : Result (A × Fields) SegError) → Stays more r r'
    → Stays more (judged r test d) (judged r' test d)
judged-stays {A = A} test d more (Ok x) r' h =
    subst (λ (z : Result (A × Fields) SegError). Stays more (cond (test x.0) (Ok x) (Err d)) (judged z test d)) (sym h) (cond-stays (test x.0) d more x)
judged-stays test d more (Err e) r' (inl s) = inl s
judged-stays {A = A} test d more (Err e) r' (inr h) = inr (ap (λ (z : Result (A × Fields) SegError). judged z test d) h)

cond-ends : {A : Type 0} (b : Bool) (d : SegError) (f : Fields) (x : A × Fields) → place d ≡ f.at → Ends f (Ok x) → Ends f (cond b (Ok x) (Err d))
cond-ends true d f x at h = h
cond-ends false d f x at h = omega (arith, at)

judged-ends : {A : Type 0} (test : A → Bool) (d : SegError) (f : Fields) (r : Result (A × Fields) SegError) → place d ≡ f.at → Ends f r
    → Ends f (judged r test d)
judged-ends test d f (Ok x) at h = cond-ends (test x.0) d f x at h
judged-ends test d f (Err e) at h = h

checked-steady : {A : Type 0} {p : Reader A} (test : A → Bool) (bad : ℕ → SegError) → ((at : ℕ) → place (bad at) ≡ at) → IsSteady p
    → IsSteady (checked p test bad)
checked-steady {p = p} test bad names hp = record {
  stays = λ f more. judged-stays test (bad f.at) more (p f) (p (with_more more f)) (hp.stays f more);
  ends = λ f. judged-ends test (bad f.at) f (p f) (names f.at) (hp.ends f);
}

-- so many bytes, and what they say
abbrev front : {A : Type 0} → ℕ → (List ℕ → A) → Bool → Fields → Result (A × Fields) SegError
front n says b f = cond b (Err (Short f.at)) (Ok (says (take n f.left), past n f))

front-stays : {A : Type 0} (n : ℕ) (says : List ℕ → A) (f : Fields) (more : List ℕ) (b c : Bool) → ltb (length f.left) n ≡ b
    → ltb (length (f.left ++ more)) n ≡ c → Stays more (front n says b f) (front n says c (with_more more f))
front-stays n says f more true c e g = inl tt
front-stays {A = A} n says f more false c e g =
    let long : n ≤ length f.left = ltb-false (length f.left) n e in
    let longer : c ≡ false = sym g ∙ le-ltb (length (f.left ++ more)) n (omega (arith, length-append f.left more, long)) in
    let ok : List ℕ → List ℕ → Result (A × Fields) SegError = λ x l. Ok (says x, record { left = l; at = f.at + n }) in
    ap (λ (b : Bool). front n says b (with_more more f)) longer ∙ ap (λ (x : List ℕ). ok x (drop n (f.left ++ more))) (take-append-le n f.left more long)
    ∙ ap (λ (l : List ℕ). ok (take n f.left) l) (drop-append-le n f.left more long)

front-ends : {A : Type 0} (n : ℕ) (says : List ℕ → A) (f : Fields) (b : Bool) → ltb (length f.left) n ≡ b → Ends f (front n says b f)
front-ends n says f true e = omega arith
front-ends n says f false e = omega (arith, length-drop n f.left, ltb-false (length f.left) n e)

number-steady : (w : Width) → IsSteady (number w)
number-steady w = record {
  stays = λ f more. front-stays (byte_len w) (from_be_bytes w) f more (ltb (length f.left) (byte_len w)) (ltb (length (f.left ++ more)) (byte_len w)) refl refl;
  ends = λ f. front-ends (byte_len w) (from_be_bytes w) f (ltb (length f.left) (byte_len w)) refl;
}

raw-steady : (n : ℕ) → IsSteady (raw n)
raw-steady n = record {
  stays = λ f more. front-stays n (λ bytes. bytes) f more (ltb (length f.left) n) (ltb (length (f.left ++ more)) n) refl refl;
  ends = λ f. front-ends n (λ bytes. bytes) f (ltb (length f.left) n) refl;
}

-- ---- each reader

block-steady : IsSteady block_at
unfolding block_at
block-steady = then-steady (number-steady w32) (λ ino. then-steady (number-steady w32) (λ blk. gives-steady (record { ino = record { 0 = ino }; blk = blk })))

log-steady : IsSteady log_at
unfolding log_at
log-steady = then-steady (checked-steady is_log BadLength (λ at. refl) (number-steady w8)) (λ log. gives-steady (record { 0 = log }))

pass-steady : IsSteady pass_at
unfolding pass_at
pass-steady = then-steady (number-steady w32) (λ inc. then-steady (number-steady w32) (λ att. gives-steady (record { inc = inc; att = att })))

name-steady : IsSteady name_at
unfolding name_at
name-steady =
    then-steady log-steady
    (λ log. then-steady (number-steady w32) (λ seq. then-steady pass-steady (λ pass. gives-steady (record { log = log; seq = seq; pass = pass }))))

prior-steady : IsSteady prior_at
unfolding prior_at
prior-steady = then-steady pass-steady (λ pass. then-steady (number-steady w32) (λ group. gives-steady (record { pass = pass; group = group })))

mark-steady : IsSteady mark_at
unfolding mark_at
mark-steady = checked-steady is_mark BadMark (λ at. refl) (raw-steady 3)

head-steady : IsSteady head_at
unfolding head_at
head-steady =
    then-steady (checked-steady is_version BadVersion (λ at. refl) (number-steady w8))
    (λ version. then-steady name-steady
    (λ name. then-steady prior-steady
    (λ prior. then-steady (number-steady w32)
    (λ group. then-steady (checked-steady (λ n. leb n (most_items + most_items)) BadLength (λ at. refl) (number-steady w16))
    (λ count. gives-steady (record { version = version; name = name; prior = prior; group = group; count = count }))))))

value-steady : (version : ℕ) → IsSteady (value_at version)
unfolding value_at
value-steady version =
    then-steady (checked-steady (is_length version) BadLength (λ at. refl) (number-steady w16))
    (λ n. then-steady (raw-steady n) (λ bytes. gives-steady (Some bytes)))

place-steady : IsSteady place_at
unfolding place_at
place-steady =
    then-steady name-steady
    (λ name. then-steady (number-steady w32)
    (λ group. then-steady (number-steady w16) (λ item. gives-steady (record { seg = record { name = name; group = group }; item = item }))))

flagged-steady : (has : ℕ) → IsSteady (flagged_at has)
unfolding flagged_at
flagged-steady zero = gives-steady None
flagged-steady (suc n) = then-steady place-steady (λ place. gives-steady (Some place))

row-steady : IsSteady row_at
unfolding row_at
row-steady =
    then-steady block-steady
    (λ block. then-steady (number-steady w64)
    (λ ver. then-steady (number-steady w32)
    (λ hop. then-steady (checked-steady (λ n. ltb n 2) BadLength (λ at. refl) (number-steady w8))
    (λ has. then-steady (flagged-steady has)
    (λ place. gives-steady (block, record { ver = ver; hop = hop; place = place }))))))

rows-steady : (n : ℕ) → IsSteady (rows_at n)
unfolding rows_at
rows-steady zero = gives-steady []
rows-steady (suc n) = then-steady row-steady (λ row. then-steady (rows-steady n) (λ others. gives-steady (row ∷ others)))

kind-steady : (seen : Seen) → IsSteady (kind_at seen)
unfolding kind_at
kind-steady seen =
    checked-steady (may_come seen) BadRef (λ at. refl)
    (checked-steady (has_room seen) BadLength (λ at. refl) (checked-steady is_kind BadKind (λ at. refl) (number-steady w8)))

block_item-steady : (version : ℕ) → IsSteady (block_item_at version)
unfolding block_item_at
block_item-steady version = then-steady block-steady (λ block. then-steady (value-steady version) (λ value. gives-steady (Block block value)))

delta_item-steady : IsSteady delta_item_at
unfolding delta_item_at
delta_item-steady =
    then-steady block-steady
    (λ block. then-steady (number-steady w64)
    (λ ver. then-steady (number-steady w32)
    (λ hop. then-steady (number-steady w16)
    (λ item. gives-steady (Delta block ver hop item)))))

part_item-steady : IsSteady part_item_at
unfolding part_item_at
part_item-steady =
    then-steady (checked-steady (λ n. ltb n slot_count) BadLength (λ at. refl) (number-steady w8))
    (λ slot. then-steady (checked-steady is_row_count BadLength (λ at. refl) (number-steady w16))
    (λ count. then-steady (rows-steady count)
    (λ rows. gives-steady (Part slot rows))))

cond-steady : {A : Type 0} (b : Bool) {p q : Reader A} → IsSteady p → IsSteady q → IsSteady (cond b p q)
cond-steady true hp hq = hp
cond-steady false hp hq = hq

body-steady : (version kind : ℕ) → IsSteady (body_at version kind)
unfolding body_at
body-steady version kind = cond-steady (eqb kind 1) (block_item-steady version) (cond-steady (eqb kind 2) delta_item-steady part_item-steady)

item-steady : (version : ℕ) (seen : Seen) → IsSteady (item_at version seen)
unfolding item_at
item-steady version seen = checked-steady (follows seen.awaited) BadRef (λ at. refl) (then-steady (kind-steady seen) (body-steady version))

items-steady : (version n : ℕ) (seen : Seen) → IsSteady (items_at version seen n)
unfolding items_at
items-steady version zero seen = checked-steady (λ none. is_none seen.awaited) BadRef (λ at. refl) (gives-steady [])
items-steady version (suc n) seen =
    then-steady (item-steady version seen) (λ item. then-steady (items-steady version n (seen_after item seen)) (λ others. gives-steady (item ∷ others)))

parts-steady : IsSteady parts_at
unfolding parts_at
parts-steady =
    checked-steady (λ parts. eqb parts.0.version (version_of parts.1)) BadVersion (λ at. refl)
    (then-steady head-steady (λ head. then-steady (items-steady head.version head.count nothing_seen) (λ items. gives-steady (head, items))))

pub segment-steady : IsSteady segment_at
unfolding segment_at
segment-steady =
    then-steady mark-steady
    (λ mark. then-steady parts-steady
    (λ parts. gives-steady (record { name = parts.0.name; prior = parts.0.prior; group = parts.0.group; items = parts.1 })))
