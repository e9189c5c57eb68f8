-- Items as numbers: each list of items has a number of its own, and the empty one has 0; so there is a setting whose contents tell items apart.
use Rattle.std.proofs.Common.{◌≡◌, ℕ, suc, List, [], ◌∷◌, Option, Some, None, refl, sym, ap, ◌∙◌, arith}
use Rattle.log_tie.specs.Setting.{Setting}
use Rattle.log_tie.proofs.Exist.{Pair, pair, pair_is, setting, unpair}
use Rattle.segment_format.specs.declared.segment.Item.{Item}
use Rattle.segment_format.specs.declared.segment.Item.TheVariants.{Block, Delta, Part}
use Rattle.xfs_base.specs.declared.block.BlockId.{BlockId}
use Rattle.xfs_base.specs.declared.entry.Entry.{Entry}
use Rattle.xfs_base.specs.declared.entry.Place.{Place}
use Rattle.xfs_base.specs.declared.segment.SegRef.{SegRef}
use Rattle.run_laws.specs.segment_tie.Settings.{TellingSetting}

-- no two have one number
abbrev Apart : {X : Type 0} → (X → ℕ) → Type 0
Apart {X} code = (x y : X) → code x ≡ code y → x ≡ y

-- ---- pairs

pair_first : (a b c d : ℕ) → pair a b ≡ pair c d → a ≡ c
pair_first a b c d e = ap (λ (p : Pair). p.x) (sym (pair_is a b) ∙ ap unpair e ∙ pair_is c d)

pair_second : (a b c d : ℕ) → pair a b ≡ pair c d → b ≡ d
pair_second a b c d e = ap (λ (p : Pair). p.y) (sym (pair_is a b) ∙ ap unpair e ∙ pair_is c d)

both : {X Y Z : Type 0} (f : X → Y → Z) {x u : X} {y v : Y} → x ≡ u → y ≡ v → f x y ≡ f u v
both f {x} {u} {y} {v} e h = ap (λ z. f z y) e ∙ ap (f u) h

same_suc : (a b : ℕ) → suc a ≡ suc b → a ≡ b
same_suc a b e = omega (arith, e)

never : {X : Type 0} (a : ℕ) → 0 ≡ suc a → X
never a e = absurd (no a e)
  where
    no : (a : ℕ) → 0 ≡ suc a → ⊥
    no a e = omega (arith, e)

-- ---- lists and options

module _ {X : Type 0} (code : X → ℕ) where
  list_code : List X → ℕ
  list_code [] = 0
  list_code (x ∷ xs) = suc (pair (code x) (list_code xs))

  option_code : Option X → ℕ
  option_code None = 0
  option_code (Some x) = suc (code x)

  module _ (apart : Apart code) where
    list_apart : Apart list_code
    unfolding list_code
    list_apart [] [] e = refl
    list_apart [] (y ∷ ys) e = never (pair (code y) (list_code ys)) e
    list_apart (x ∷ xs) [] e = never (pair (code x) (list_code xs)) (sym e)
    list_apart (x ∷ xs) (y ∷ ys) e =
        let inner : pair (code x) (list_code xs) ≡ pair (code y) (list_code ys) = same_suc (pair (code x) (list_code xs)) (pair (code y) (list_code ys)) e in
        both (λ z zs. z ∷ zs) (apart x y (pair_first (code x) (list_code xs) (code y) (list_code ys) inner))
        (list_apart xs ys (pair_second (code x) (list_code xs) (code y) (list_code ys) inner))

    option_apart : Apart option_code
    unfolding option_code
    option_apart None None e = refl
    option_apart None (Some y) e = never (code y) e
    option_apart (Some x) None e = never (code x) (sym e)
    option_apart (Some x) (Some y) e = ap (λ z. Some z) (apart x y (same_suc (code x) (code y) e))

-- ---- what an item is made of

number_code : ℕ → ℕ
number_code n = n

number_apart : Apart number_code
unfolding number_code
number_apart x y e = e

block_code : BlockId → ℕ
block_code b = pair b.ino.0 b.blk

block_apart : Apart block_code
unfolding block_code
block_apart x y e =
    both (λ ino blk. record { ino = record { 0 = ino }; blk = blk }) (pair_first x.ino.0 x.blk y.ino.0 y.blk e) (pair_second x.ino.0 x.blk y.ino.0 y.blk e)

seg_code : SegRef → ℕ
seg_code s = pair (pair s.name.log.0 s.name.seq) (pair (pair s.name.pass.inc s.name.pass.att) s.group)

seg_apart : Apart seg_code
unfolding seg_code
seg_apart x y e =
    let front = pair_first (pair x.name.log.0 x.name.seq) _ (pair y.name.log.0 y.name.seq) _ e in
    let back = pair_second (pair x.name.log.0 x.name.seq) _ (pair y.name.log.0 y.name.seq) _ e in
    let pass = pair_first (pair x.name.pass.inc x.name.pass.att) x.group (pair y.name.pass.inc y.name.pass.att) y.group back in
    both
    (λ (f : SegRef) (g : SegRef). record { name = record { log = f.name.log; seq = f.name.seq; pass = g.name.pass }; group = g.group })
    (both (λ log seq. record { name = record { log = record { 0 = log }; seq = seq; pass = x.name.pass }; group = x.group })
    (pair_first x.name.log.0 x.name.seq y.name.log.0 y.name.seq front) (pair_second x.name.log.0 x.name.seq y.name.log.0 y.name.seq front))
    (both
    (λ (p : SegRef) (group : ℕ). record { name = p.name; group = group })
    (both (λ inc att. record { name = record { log = x.name.log; seq = x.name.seq; pass = record { inc = inc; att = att } }; group = x.group })
    (pair_first x.name.pass.inc x.name.pass.att y.name.pass.inc y.name.pass.att pass)
    (pair_second x.name.pass.inc x.name.pass.att y.name.pass.inc y.name.pass.att pass))
    (pair_second (pair x.name.pass.inc x.name.pass.att) x.group (pair y.name.pass.inc y.name.pass.att) y.group back))

place_code : Place → ℕ
place_code p = pair (seg_code p.seg) p.item

place_apart : Apart place_code
unfolding place_code
place_apart x y e =
    both (λ seg item. record { seg = seg; item = item }) (seg_apart x.seg y.seg (pair_first (seg_code x.seg) x.item (seg_code y.seg) y.item e))
    (pair_second (seg_code x.seg) x.item (seg_code y.seg) y.item e)

row_code : BlockId × Entry → ℕ
row_code r = pair (block_code r.0) (pair (pair r.1.ver r.1.hop) (option_code place_code r.1.place))

row_apart : Apart row_code
unfolding row_code
row_apart x y e =
    let back = pair_second (block_code x.0) _ (block_code y.0) _ e in
    let counts = pair_first (pair x.1.ver x.1.hop) (option_code place_code x.1.place) (pair y.1.ver y.1.hop) (option_code place_code y.1.place) back in
    let places = pair_second (pair x.1.ver x.1.hop) (option_code place_code x.1.place) (pair y.1.ver y.1.hop) (option_code place_code y.1.place) back in
    both (λ block entry. (block, entry)) (block_apart x.0 y.0 (pair_first (block_code x.0) _ (block_code y.0) _ e))
    (both (λ (f : Entry) place. record { ver = f.ver; hop = f.hop; place = place })
    (both (λ ver hop. record { ver = ver; hop = hop; place = x.1.place }) (pair_first x.1.ver x.1.hop y.1.ver y.1.hop counts)
    (pair_second x.1.ver x.1.hop y.1.ver y.1.hop counts))
    (option_apart place_code place_apart x.1.place y.1.place places))

-- ---- items

value_code : Option (List ℕ) → ℕ
value_code v = option_code (list_code number_code) v

value_apart : Apart value_code
unfolding value_code
value_apart x y e = option_apart (list_code number_code) (list_apart number_code number_apart) x y e

rows_code : List (BlockId × Entry) → ℕ
rows_code rows = list_code row_code rows

rows_apart : Apart rows_code
unfolding rows_code
rows_apart x y e = list_apart row_code row_apart x y e

inside : Item → ℕ
inside (Block block value) = pair (block_code block) (value_code value)
inside (Delta block ver hop item) = pair (block_code block) (pair ver (pair hop item))
inside (Part slot rows) = pair slot (rows_code rows)

kind_of : Item → ℕ
kind_of (Block block value) = 0
kind_of (Delta block ver hop item) = 1
kind_of (Part slot rows) = 2

item_code : Item → ℕ
item_code i = pair (kind_of i) (inside i)

delta_apart : (b c : BlockId) (ver hop item ver' hop' item' : ℕ)
    → pair (block_code b) (pair ver (pair hop item)) ≡ pair (block_code c) (pair ver' (pair hop' item')) → Delta b ver hop item ≡ Delta c ver' hop' item'
delta_apart b c ver hop item ver' hop' item' e =
    let back = pair_second (block_code b) (pair ver (pair hop item)) (block_code c) (pair ver' (pair hop' item')) e in
    let rest = pair_second ver (pair hop item) ver' (pair hop' item') back in
    both (λ (f : BlockId × ℕ) (g : ℕ × ℕ). Delta f.0 f.1 g.0 g.1)
    (both (λ x n. (x, n)) (block_apart b c (pair_first (block_code b) (pair ver (pair hop item)) (block_code c) (pair ver' (pair hop' item')) e))
    (pair_first ver (pair hop item) ver' (pair hop' item') back))
    (both (λ m n. (m, n)) (pair_first hop item hop' item' rest) (pair_second hop item hop' item' rest))

apart_in : (x y : Item) → kind_of x ≡ kind_of y → inside x ≡ inside y → x ≡ y
unfolding kind_of inside
apart_in (Block b v) (Block c w) k e =
    both (λ block value. Block block value) (block_apart b c (pair_first (block_code b) (value_code v) (block_code c) (value_code w) e))
    (value_apart v w (pair_second (block_code b) (value_code v) (block_code c) (value_code w) e))
apart_in (Delta b ver hop item) (Delta c ver' hop' item') k e = delta_apart b c ver hop item ver' hop' item' e
apart_in (Part slot rows) (Part slot' rows') k e =
    both (λ n all. Part n all) (pair_first slot (rows_code rows) slot' (rows_code rows') e)
    (rows_apart rows rows' (pair_second slot (rows_code rows) slot' (rows_code rows') e))
apart_in (Block b v) (Delta c ver hop item) k e = never 0 k
apart_in (Block b v) (Part slot rows) k e = never 1 k
apart_in (Delta b ver hop item) (Block c v) k e = never 0 (sym k)
apart_in (Delta b ver hop item) (Part slot rows) k e = never 0 (same_suc 0 1 k)
apart_in (Part slot rows) (Block c v) k e = never 1 (sym k)
apart_in (Part slot rows) (Delta c ver hop item) k e = never 0 (sym (same_suc 1 0 k))

item_apart : Apart item_code
unfolding item_code
item_apart x y e = apart_in x y (pair_first (kind_of x) (inside x) (kind_of y) (inside y) e) (pair_second (kind_of x) (inside x) (kind_of y) (inside y) e)

pub content : List Item → ℕ
content items = list_code item_code items

pub no_content : content [] ≡ 0
unfolding content list_code
no_content = refl

pub content_apart : (a b : List Item) → content a ≡ content b → a ≡ b
unfolding content
content_apart a b e = list_apart item_code item_apart a b e

-- ---- the setting

pub telling : Setting
telling = record setting { content = content; no_content = no_content }

pub telling_setting : TellingSetting
unfolding telling
telling_setting = (telling, content_apart)
