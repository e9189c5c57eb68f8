-- What a client has read of a block isn't taken back while it hasn't fallen itself: what another wrote is pinned by the read, above what is its own another fell
-- only with versions of its own, and while a fall waits nobody reads the block.
use Rattle.std.proofs.Common.{◌≡◌, ◌⊎◌, ◌≤◌, ◌+◌, ◌==◌, ℕ, zero, suc, Bool, true, false, cond, max, List, [], ◌∷◌, ◌++◌, length, take, slice_get, Option, Some, None, inl, inr, refl, sym, ap, subst, ◌∙◌, arith}
use Rattle.std.proofs.lemmas.Bool.Decides.{nat_tests}
use Rattle.std.specs.List.{AllByRecursion}
use Rattle.std.specs.Prelude.{if◌then◌else◌, nat_lt}
use Rattle.act_tie.proofs.Falling.{settled_told}
use Rattle.headline.specs.Calls.{answered_so, of_items}
use Rattle.headline.specs.Versions.{OwnsFrom}
use Rattle.run_laws.proofs.world_law.Sent.{in_append}
use Rattle.token_protocol.specs.Basics.{In}
use Rattle.version_model.specs.declared.act.Act.{Act}
use Rattle.version_model.specs.declared.act.Act.TheVariants as act
use Rattle.version_model.specs.declared.act.Fall.{Fall}
use Rattle.version_model.specs.declared.answer.Answer.{Answer}
use Rattle.version_model.specs.declared.history.BlockHistory.{BlockHistory}
use Rattle.version_model.specs.declared.history.FallTold.{FallTold}
use Rattle.version_model.specs.declared.history.Version.{Version}
use Rattle.version_model.specs.Effects.{after_act, append, change, cut_to, history_after, holds_flight, pin, settle, settle_falls}
use Rattle.version_model.specs.History.{History, greatest_by, is_by_other}
use Rattle.version_model.specs.Legal.{AreLegalFrom, MayFall}
use Rattle.xfs_base.proofs.BlockOrder.{same_block_exact, same_block_itself}
use Rattle.xfs_base.proofs.Booleans.{by_test, contrary}
use Rattle.xfs_base.specs.Blocks.{same_block}
use Rattle.xfs_base.specs.declared.block.BlockId.{BlockId}
use Rattle.xfs_base.specs.declared.node.NodeId.{NodeId}
use Rattle.xfs_base.specs.declared.segment.SegName.{SegName}

-- a fall leaves the version
pub record IsAbove (v : ℕ) (f : Fall) : Type 0 where
  pub low : v ≤ f.low
  pub high : v ≤ f.high

-- so does each of these falls of a block
abbrev pub AllAbove : BlockId → ℕ → List Fall → Type 0
AllAbove b v falls = (f : Fall) → In f falls → f.block ≡ b → IsAbove v f

-- and each that waits
abbrev pub AllWait : BlockId → ℕ → List FallTold → Type 0
AllWait b v told = (t : FallTold) → In t told → AllAbove b v t.falls

-- the block has so many versions, and this one is pinned, or by no other than the client
pub record Stands (c v : ℕ) (x : BlockHistory) : Type 0 where
  pub there : v ≤ length x.versions
  pub kept : (v ≤ x.pinned) ⊎ (is_by_other c v x.versions ≡ false)

-- a version that a client has read lasts
pub record Lasts (h : History) (c : ℕ) (b : BlockId) (v : ℕ) : Type 0 where
  pub stands : Stands c v (h.of_block b)
  pub waits : (d : ℕ) → AllWait b v (h.told d)

-- ---- one block

length_append : (xs : List Version) (w : Version) → length (xs ++ w ∷ []) ≡ length xs + 1
length_append [] w = refl
length_append (x ∷ xs) w = (let more = length_append xs w in omega arith)

length_cut : (n v : ℕ) (xs : List Version) → v ≤ n → v ≤ length xs → v ≤ length (take n xs)
length_cut zero v xs below there = omega arith
length_cut (suc n) v [] below there = there
length_cut (suc n) zero (x ∷ xs) below there = omega arith
length_cut (suc n) (suc v) (x ∷ xs) below there = (let more = length_cut n v xs (omega arith) (omega arith) in omega arith)

get_append : (xs : List Version) (w : Version) (n : ℕ) → suc n ≤ length xs → slice_get (xs ++ w ∷ []) n ≡ slice_get xs n
get_append [] w n there = absurd (omega arith)
get_append (x ∷ xs) w zero there = refl
get_append (x ∷ xs) w (suc n) there = get_append xs w n (omega arith)

-- by whom a version is that was there before another
by_append : (c v : ℕ) (xs : List Version) (w : Version) → v ≤ length xs → is_by_other c v (xs ++ w ∷ []) ≡ is_by_other c v xs
by_append c zero xs w there = refl
by_append c (suc n) xs w there =
    ap (λ (o : Option Version). elim o as (λ _. Bool) [ None ↦ false | Some x ↦ cond (x.writer == c) false true ]) (get_append xs w n there)

module _ (c v : ℕ) where
  append_stands : (w : Version) (x : BlockHistory) → Stands c v x → Stands c v (append w x)
  append_stands w x s = record { there = (let there = s.there in let more = length_append x.versions w in omega arith); kept = by s.kept }
    where
      by : (v ≤ x.pinned) ⊎ (is_by_other c v x.versions ≡ false) → (v ≤ x.pinned) ⊎ (is_by_other c v (x.versions ++ w ∷ []) ≡ false)
      by (inl pinned) = inl pinned
      by (inr own) = inr (by_append c v x.versions w s.there ∙ own)

  pin_stands : (n : ℕ) (x : BlockHistory) → Stands c v x → Stands c v (pin n x)
  pin_stands n x s = record { there = s.there; kept = by s.kept }
    where
      by : (v ≤ x.pinned) ⊎ (is_by_other c v x.versions ≡ false) → (v ≤ max n x.pinned) ⊎ (is_by_other c v x.versions ≡ false)
      by (inl pinned) = inl (omega (arith, pinned))
      by (inr own) = inr own

  cut_stands : (n : ℕ) (x : BlockHistory) → v ≤ n → Stands c v x → Stands c v (cut_to n x)
  cut_stands n x below s = record { there = length_cut n v x.versions below s.there; kept = inl below }

  module _ (b : BlockId) where
    change_stands : (block : BlockId) (f : BlockHistory → BlockHistory) (h : History) → (block ≡ b → Stands c v (h.of_block b) → Stands c v (f (h.of_block b)))
        → Stands c v (h.of_block b) → Stands c v ((change block f h).of_block b)
    change_stands block f h keeps s =
        by_test (Stands c v) (same_block block b) (f (h.of_block b)) (h.of_block b) (λ same. keeps (sym (same_block_exact block b same)) s) (λ _. s)

    falls_stand : (adopted : Bool) (falls : List Fall) (h : History) → AllAbove b v falls → Stands c v (h.of_block b)
        → Stands c v ((settle_falls adopted falls h).of_block b)
    falls_stand adopted [] h above s = s
    falls_stand adopted (f ∷ fs) h above s =
        falls_stand adopted fs (change f.block (cut_to (if adopted then f.high else f.low)) h) (λ g among. above g (inr among))
        (change_stands f.block (cut_to (if adopted then f.high else f.low)) h
        (λ same old. cut_stands (if adopted then f.high else f.low) (h.of_block b) (reaches adopted (above f (inl refl) same)) old) s)
      where
        reaches : (t : Bool) → IsAbove v f → v ≤ cond t f.high f.low
        reaches true a = a.high
        reaches false a = a.low

    settle_stands : (chain : List SegName) (told : List FallTold) (h : History) → AllWait b v told → Stands c v (h.of_block b)
        → Stands c v ((settle chain told h).of_block b)
    settle_stands chain [] h above s = s
    settle_stands chain (t ∷ ts) h above s =
        settle_stands chain ts (settle_falls (holds_flight chain t.flight) t.falls h) (λ u among. above u (inr among))
        (falls_stand (holds_flight chain t.flight) t.falls h (above t (inl refl)) s)

settle_told : (chain : List SegName) (told : List FallTold) (h : History) → (settle chain told h).told ≡ h.told
settle_told chain [] h = refl
settle_told chain (t ∷ ts) h = settle_told chain ts (settle_falls (holds_flight chain t.flight) t.falls h) ∙ settled_told (holds_flight chain t.flight) t.falls h

-- ---- one act

-- where it is a fall it leaves the version
abbrev pub LeavesIt : BlockId → ℕ → Act → Type 0
LeavesIt b v (act.Fell client flight falls) = AllAbove b v falls
LeavesIt b v _ = Unit {0}

module _ (c : ℕ) (b : BlockId) (v : ℕ) where
  pub act_lasts : (a : Act) (h : History) → LeavesIt b v a → Lasts h c b v → Lasts (after_act a h) c b v
  act_lasts (act.Wrote client block value) h leaves l = record {
    stands = change_stands c v b block (append (record { content = value; writer = client })) h
        (λ _. append_stands c v (record { content = value; writer = client }) (h.of_block b)) l.stands;
    waits = l.waits;
  }
  act_lasts (act.Read client block ver value) h leaves l =
      by_test (λ (g : History). Lasts g c b v) (is_by_other client ver (h.of_block block).versions) (change block (pin ver) h) h
      (λ _. record { stands = change_stands c v b block (pin ver) h (λ _. pin_stands c v ver (h.of_block b)) l.stands; waits = l.waits }) (λ _. l)
  act_lasts (act.Synced client) h leaves l =
      record { stands = pin_stands c v (greatest_by client 1 (h.of_block b).versions) (h.of_block b) l.stands; waits = l.waits }
  act_lasts (act.Fell client flight falls) h leaves l = record { stands = l.stands; waits = more }
    where
      new : FallTold
      new = record { flight = flight; falls = falls }

      either : (d : ℕ) (t : FallTold) → In t (h.told d) ⊎ In t (new ∷ []) → AllAbove b v t.falls
      either d t (inl old) = l.waits d t old
      either d t (inr (inl same)) = subst (λ (u : FallTold). AllAbove b v u.falls) (sym same) leaves
      either d t (inr (inr none)) = absurd none

      more : (d : ℕ) → AllWait b v (cond (d == client) (h.told d ++ new ∷ []) (h.told d))
      more d =
          by_test (AllWait b v) (d == client) (h.told d ++ new ∷ []) (h.told d) (λ _ t among. either d t (in_append (h.told d) (new ∷ []) t among))
          (λ _. l.waits d)
  act_lasts (act.Back client chain) h leaves l =
      record { stands = settle_stands c v b chain (h.told client) h (l.waits client) l.stands; waits = fewer }
    where
      left : History
      left = settle chain (h.told client) h

      fewer : (d : ℕ) → AllWait b v (cond (d == client) [] (left.told d))
      fewer d =
          by_test (AllWait b v) (d == client) [] (left.told d) (λ _ t none. absurd none)
          (λ _. subst (λ (told : ℕ → List FallTold). AllWait b v (told d)) (sym (settle_told chain (h.told client) h)) (l.waits d))
  act_lasts (act.Lost node seg) h leaves l = l
  act_lasts (act.Filed seg) h leaves l = l
  act_lasts (act.Dropped seg) h leaves l = l
  act_lasts (act.Answered node item a) h leaves l = l

-- it isn't a fall
abbrev pub IsNoFall : Act → Type 0
IsNoFall (act.Fell client flight falls) = ⊥
IsNoFall _ = Unit {0}

calm_leaves : (b : BlockId) (v : ℕ) (a : Act) → IsNoFall a → LeavesIt b v a
calm_leaves b v (act.Fell client flight falls) calm = absurd calm
calm_leaves b v _ calm = tt

pub answers_calm : (node : NodeId) (item : Option ℕ) (a : Answer) → AllByRecursion IsNoFall (answered_so node item a)
answers_calm node None a = tt
answers_calm node (Some item) a = (tt, tt)

pub acts_last : (c : ℕ) (b : BlockId) (v : ℕ) (acts : List Act) (h : History) → AllByRecursion IsNoFall acts → Lasts h c b v → Lasts (history_after acts h) c b v
acts_last c b v [] h calm l = l
acts_last c b v (a ∷ acts) h calm l = acts_last c b v acts (after_act a h) calm.1 (act_lasts c b v a h (calm_leaves b v a calm.0) l)

-- ---- a fall

some_version : (xs : List Version) (n : ℕ) → suc n ≤ length xs → (x : Version) × (slice_get xs n ≡ Some x)
some_version [] n there = absurd (omega arith)
some_version (x ∷ xs) zero there = (x, refl)
some_version (x ∷ xs) (suc n) there = some_version xs n (omega arith)

one_writer : (c : ℕ) (x : Version) → cond (x.writer == c) false true ≡ false → x.writer ≡ c
one_writer c x own = by (x.writer == c) refl own
  where
    by : (t : Bool) → (x.writer == c) ≡ t → cond t false true ≡ false → x.writer ≡ c
    by true same none = grind (arith, nat_tests)
    by false other none = contrary (sym none)

-- another that fell with versions of its own, down to one that isn't below the pinned one, leaves what a client has read
pub fall_leaves : (c d : ℕ) (b : BlockId) (v : ℕ) (h : History) (f : Fall) (ver : ℕ) → (d ≡ c → ⊥) → Lasts h c b v → MayFall d (h.of_block b) f
    → OwnsFrom (h.of_block b) d f.low ver → IsAbove v f
fall_leaves c d b v h f ver apart l may owns = record { low = low; high = (let ordered = may.ordered in omega (arith, low, ordered)) }
  where
    xs : List Version
    xs = (h.of_block b).versions

    own : (n : ℕ) → n ≤ length xs → is_by_other c n xs ≡ false → n ≤ f.low
    own zero there mine = omega arith
    own (suc n) there mine = by (nat_lt f.low (suc n)) refl
      where
        there_is : (x : Version) × (slice_get xs n ≡ Some x)
        there_is = some_version xs n there

        its : there_is.0.writer ≡ c
        its =
            one_writer c there_is.0
            (sym (ap (λ (o : Option Version). elim o as (λ _. Bool) [ None ↦ false | Some x ↦ cond (x.writer == c) false true ]) there_is.1) ∙ mine)

        by : (t : Bool) → nat_lt f.low (suc n) ≡ t → suc n ≤ f.low
        by true below = absurd (apart (sym (owns.own n there_is.0 there_is.1 (grind (arith, nat_tests))) ∙ its))
        by false above = grind (arith, nat_tests)

    by : (v ≤ (h.of_block b).pinned) ⊎ (is_by_other c v xs ≡ false) → v ≤ f.low
    by (inl pinned) = (let least = may.pinned in omega (arith, pinned, least))
    by (inr mine) = own v l.stands.there mine

    low : v ≤ f.low
    low = by l.stands.kept

-- ---- acts of items are all that counts

pub history_items : (acts : List Act) (h : History) → history_after (of_items acts) h ≡ history_after acts h
history_items [] h = refl
history_items (act.Filed seg ∷ acts) h = history_items acts h
history_items (act.Lost node seg ∷ acts) h = history_items acts h
history_items (act.Dropped seg ∷ acts) h = history_items acts h
history_items (act.Wrote c b value ∷ acts) h = history_items acts (after_act (act.Wrote c b value) h)
history_items (act.Read c b ver value ∷ acts) h = history_items acts (after_act (act.Read c b ver value) h)
history_items (act.Synced c ∷ acts) h = history_items acts (after_act (act.Synced c) h)
history_items (act.Fell c flight falls ∷ acts) h = history_items acts (after_act (act.Fell c flight falls) h)
history_items (act.Back c chain ∷ acts) h = history_items acts (after_act (act.Back c chain) h)
history_items (act.Answered node item a ∷ acts) h = history_items acts h

pub legal_items : (acts : List Act) (h : History) → AreLegalFrom h acts → AreLegalFrom h (of_items acts)
legal_items [] h legal = tt
legal_items (act.Filed seg ∷ acts) h legal = legal_items acts h legal.1
legal_items (act.Lost node seg ∷ acts) h legal = legal_items acts h legal.1
legal_items (act.Dropped seg ∷ acts) h legal = (tt, legal_items acts h legal.1)
legal_items (act.Wrote c b value ∷ acts) h legal = (legal.0, legal_items acts (after_act (act.Wrote c b value) h) legal.1)
legal_items (act.Read c b ver value ∷ acts) h legal = (legal.0, legal_items acts (after_act (act.Read c b ver value) h) legal.1)
legal_items (act.Synced c ∷ acts) h legal = (legal.0, legal_items acts (after_act (act.Synced c) h) legal.1)
legal_items (act.Fell c flight falls ∷ acts) h legal = (legal.0, legal_items acts (after_act (act.Fell c flight falls) h) legal.1)
legal_items (act.Back c chain ∷ acts) h legal = (legal.0, legal_items acts (after_act (act.Back c chain) h) legal.1)
legal_items (act.Answered node item a ∷ acts) h legal = (legal.0, legal_items acts h legal.1)

-- where acts and further ones are legal, the further ones are behind the others
pub legal_behind : (acts more : List Act) (h : History) → AreLegalFrom h (acts ++ more) → AreLegalFrom (history_after acts h) more
legal_behind [] more h legal = legal
legal_behind (a ∷ acts) more h legal = legal_behind acts more (after_act a h) legal.1

-- ---- a read of the newest version

pub read_lasts : (h : History) (c : ℕ) (b : BlockId) (ver : ℕ) (value : Option (List ℕ)) → ver ≡ length (h.of_block b).versions
    → ((d : ℕ) → AllWait b ver (h.told d)) → Lasts (after_act (act.Read c b ver value) h) c b ver
read_lasts h c b ver value newest waits =
    by_test (λ (g : History). Lasts g c b ver) (is_by_other c ver (h.of_block b).versions) (change b (pin ver) h) h
    (λ _. record { stands = pinned (same_block b b) (same_block_itself b); waits = waits })
    (λ own. record { stands = record { there = omega (arith, newest); kept = inr own }; waits = waits })
  where
    pinned : (t : Bool) → t ≡ true → Stands c ver (cond t (pin ver (h.of_block b)) (h.of_block b))
    pinned true is = record { there = omega (arith, newest); kept = inl (omega arith) }
    pinned false is = absurd cc
