-- Reads, syncs and acts that change no history: the world is seen as before.
use Rattle.std.specs.Prelude.{if◌then◌else◌, slice_get}
use Rattle.std.proofs.Common.{◌≡◌, ℕ, suc, ◌+◌, ◌==◌, ◌<◌, max, Bool, true, false, nat_lt, List, [], ◌∷◌, ◌++◌, length, Option, Some, refl, sym, ap, subst, ◌∙◌, append-nil, arith}
use Rattle.std.proofs.lemmas.Bool.Decides.{nat_tests}
use Rattle.std.proofs.lemmas.Bool.{ltb-false}
use Rattle.xfs_base.specs.declared.block.BlockId.{BlockId}
use Rattle.xfs_base.specs.Blocks.{same_block}
use Rattle.xfs_base.specs.Modes.{is_held}
use Rattle.xfs_base.proofs.BlockOrder.{same_block_exact, same_block_itself}
use Rattle.version_model.specs.declared.act.Act.{Act}
use Rattle.version_model.specs.declared.act.Act.TheVariants as act
use Rattle.version_model.specs.declared.history.Version.{Version}
use Rattle.version_model.specs.Effects.{history_after}
use Rattle.version_model.specs.History.{greatest_by, nothing_yet}
use Rattle.act_tie.specs.BlockActs.{acts_of}
use Rattle.act_tie.specs.Number.{number}
use Rattle.act_tie.specs.Shown.{HistoryShown}
use Rattle.version_model.specs.Falls.{FallsApart}
use Rattle.act_tie.proofs.Legality.{are_shown}
use Rattle.act_tie.proofs.Onward.{acts_on}
use Rattle.token_client.specs.State.{held_of}
use Rattle.token_protocol.specs.Acts as block
use Rattle.token_protocol.specs.Acts.Act.{Read as ReadBlock, Synced as SyncedBlock}
use Rattle.token_protocol.specs.Premises.{Premise}
use Rattle.token_protocol.specs.Step.{Steps}
use Rattle.token_protocol.specs.Step.Step.{Reads, Syncs}
use Rattle.token_protocol.specs.Step.Steps.{More}
use Rattle.token_protocol.specs.Told.{told}
use Rattle.token_protocol.specs.Using.{MaySync, reads, syncs}
use Rattle.token_protocol.specs.World.{World, start}
use Rattle.token_protocol.proofs.Told.{Matches, acts_legal, acts_match}
use Rattle.token_tie.specs.Seen.{Shows, ValueShown, local_of}
use Rattle.token_tie.proofs.SmallFacts.{some_rank}
use Rattle.token_tie.proofs.Takes.{at_block}
use Rattle.token_law.specs.Net.{Net, acted}
use Rattle.token_law.specs.Owed.{AllClean, IsNeutral}
use Rattle.token_law.proofs.Premises.{owed}
use Rattle.token_law.proofs.Views.{setting, View}
use Rattle.token_law.proofs.ClientViews.{shown_up, rebooked_world}

-- the world, with this version pinned
abbrev pub pinning : World → ℕ → World
pinning w n = record w { pinned = n }

-- ---- versions by a client

-- the greatest version by a client stands in the history
record IsGreatest (c n : ℕ) (versions : List Version) : Type 0 where
  place : ℕ
  version : Version
  there : slice_get versions place ≡ Some version
  below : place < length versions
  mine : version.writer ≡ c
  greatest : greatest_by c n versions ≡ n + place

-- the first is, or one of the rest
greatest_of : (c n : ℕ) (v : Version) (vs : List Version) → (0 < greatest_by c (n + 1) vs → IsGreatest c (n + 1) vs) → 0 < greatest_by c n (v ∷ vs)
    → IsGreatest c n (v ∷ vs)
greatest_of c n v vs later some = go (nat_lt 0 (greatest_by c (n + 1) vs)) refl
  where
    more : (m : ℕ) → nat_lt 0 m ≡ true → 0 < m
    more m h = grind (arith, nat_tests)

    rest : (m k : ℕ) (t : Bool) → m ≡ n + 1 + k → max (if t then n else 0) m ≡ n + suc k
    rest m k true fact = grind (arith, nat_tests)
    rest m k false fact = grind (arith, nat_tests)

    first : (m : ℕ) → nat_lt 0 m ≡ false → 0 < max (if v.writer == c then n else 0) m → (v.writer ≡ c) × (max (if v.writer == c then n else 0) m ≡ n + 0)
    first m none some = (grind (arith, nat_tests), grind (arith, nat_tests))

    go : (t : Bool) → nat_lt 0 (greatest_by c (n + 1) vs) ≡ t → IsGreatest c n (v ∷ vs)
    go true h =
        let g = later (more (greatest_by c (n + 1) vs) h) in
        record {
          place = suc g.place;
          version = g.version;
          there = g.there;
          below = let b = g.below in omega arith;
          mine = g.mine;
          greatest = rest (greatest_by c (n + 1) vs) g.place (v.writer == c) g.greatest;
        }
    go false h =
        let f = first (greatest_by c (n + 1) vs) h some in
        record { place = 0; version = v; there = refl; below = omega arith; mine = f.0; greatest = f.1 }

greatest_is : (c n : ℕ) (versions : List Version) → 0 < greatest_by c n versions → IsGreatest c n versions
greatest_is c n [] some = absurd (omega arith)
greatest_is c n (v ∷ vs) some = greatest_of c n v vs (greatest_is c (n + 1) vs) some

module _ (logs : Bool) (members part : ℕ) (b : BlockId) (n : Net) (v : View logs members part b n) where
  abbrev pub w : World
  w = v.world

  -- a version is pinned, and nothing else
  pub pinned_view : (pinned : ℕ) (more : List Act) (steps : Steps logs (start members) (pinning w pinned))
      → Premise logs (told (start members) (pinning w pinned) steps ≡ acts_of b more) → View logs members part b (record n { acts = more })
  pinned_view pinned more steps told_ = rebooked_world logs members part b n v pinned w.end w.flight w.rows n.books more steps v.kept told_

-- acts that tell nothing of the block
unacted : (logs : Bool) (members part : ℕ) (b : BlockId) (n : Net) (v : View logs members part b n) (more : List Act)
    → Premise logs (acts_of b more ≡ acts_of b n.acts) → View logs members part b (record n { acts = more })
unacted true members part b n v more same = pinned_view true members part b n v v.world.pinned more v.steps (v.acts ∙ sym same)
unacted false members part b n v more same = pinned_view false members part b n v v.world.pinned more v.steps tt

-- ---- reads

reads_here : (members part : ℕ) (b : BlockId) (n : Net) → View true members part b n → (c : ℕ) (value : Option (List ℕ)) → 0 < c → c < members → n.up c ≡ true
    → is_held (held_of (n.tokens c).blocks b).mode ≡ true → (held_of (n.tokens c).blocks b).value ≡ Some value
    → View true members part b (acted n (act.Read c b (held_of (n.tokens c).blocks b).ver value ∷ []))
reads_here members part b n v c value pos less up held fact =
    let w = v.world in
    let x = w.client c in
    let ver = (held_of (n.tokens c).blocks b).ver in
    let shown = shown_up true members part b n v c pos less up in
    let mode = shown.mode in
    let some = some_rank (held_of (n.tokens c).blocks b).mode held in
    let known = shown.version in
    let text : x.value ≡ number value = subst (λ o. ValueShown number o x.value) fact shown.value in
    pinned_view true members part b n v (reads w c).pinned (n.acts ++ act.Read c b ver value ∷ []) (More v.steps (Reads c (record { holds = omega arith })))
    ((λ i. v.acts i ++ ReadBlock c (known i) (text i) ∷ [])
    ∙ sym (acts_on b n.acts (act.Read c b ver value)
    ∙ ap (λ t. acts_of b n.acts ++ (if t then ReadBlock c ver (number value) ∷ [] else [])) (same_block_itself b)))

pub apart_blocks : (b k : BlockId) → (k ≡ b → ⊥) → same_block k b ≡ false
apart_blocks b k other = go (same_block k b) refl
  where
    go : (t : Bool) → same_block k b ≡ t → t ≡ false
    go true fact = absurd (other (sym (same_block_exact k b fact)))
    go false fact = refl

pub reads_view : (logs : Bool) (members part : ℕ) (b : BlockId) (n : Net) → View logs members part b n → (c : ℕ) (block : BlockId) (value : Option (List ℕ))
    → 0 < c → c < members → n.up c ≡ true
    → is_held (held_of (n.tokens c).blocks block).mode ≡ true → (held_of (n.tokens c).blocks block).value ≡ Some value
    → View logs members part b (acted n (act.Read c block (held_of (n.tokens c).blocks block).ver value ∷ []))
reads_view false members part b n v c block value pos less up held fact = unacted false members part b n v _ tt
reads_view true members part b n v c block value pos less up held fact =
    at_block (setting b c 0)
    (λ k. is_held (held_of (n.tokens c).blocks k).mode ≡ true → (held_of (n.tokens c).blocks k).value ≡ Some value
    → View true members part b (acted n (act.Read c k (held_of (n.tokens c).blocks k).ver value ∷ [])))
    (reads_here members part b n v c value pos less up)
    (λ k other _ _.
    let ver = (held_of (n.tokens c).blocks k).ver in
    unacted true members part b n v (n.acts ++ act.Read c k ver value ∷ [])
    (acts_on b n.acts (act.Read c k ver value)
    ∙ ap (λ t. acts_of b n.acts ++ (if t then ReadBlock c ver (number value) ∷ [] else [])) (apart_blocks b k other) ∙ append-nil (acts_of b n.acts)))
    block held fact

-- ---- syncs

syncs_true : (members part : ℕ) (b : BlockId) (n : Net) → View true members part b n → FallsApart n.acts → (c : ℕ) → 0 < c → c < members → n.up c ≡ true
    → AllClean (n.tokens c)
    → View true members part b (acted n (act.Synced c ∷ []))
syncs_true members part b n v apart c pos less up clean = go (nat_lt 0 version) refl
  where
    versions : List Version
    versions = ((history_after n.acts nothing_yet).of_block b).versions

    version : ℕ
    version = greatest_by c 1 versions

    shown : Shows (setting b c (n.tokens c).inc) v.world.epoch (local_of (n.tokens c) b) (v.world.client c)
    shown = shown_up true members part b n v c pos less up

    history : HistoryShown b (history_after n.acts nothing_yet) (block.history (acts_of b n.acts))
    history = are_shown n.acts apart b (subst block.LegalActs v.acts (acts_legal members v.world v.steps))

    matches : Matches (block.history (acts_of b n.acts)) v.world
    matches = subst (λ acts. Matches (block.history acts) v.world) v.acts (acts_match members v.world v.steps)

    some : nat_lt 0 version ≡ true → 0 < version
    some h = positive version h
      where
        positive : (m : ℕ) → nat_lt 0 m ≡ true → 0 < m
        positive m h = grind (arith, nat_tests)

    may : nat_lt 0 version ≡ true → MaySync v.world c version
    may h =
        let g = greatest_is c 1 versions (some h) in
        let fact : version ≡ suc g.place = let e = g.greatest in omega arith in
        let settles = shown.settled in
        let known = shown.version in
        let limit = ltb-false (held_of (n.tokens c).blocks b).settled (held_of (n.tokens c).blocks b).ver (clean b) in
        record {
          serving = shown.serving;
          clean = omega arith;
          known = let below = g.below in let newest = history.newest in let same = matches.length in omega arith;
          mine = sym (matches.writers version) ∙ ap (block.history (acts_of b n.acts)).writer fact ∙ history.writers g.place g.version g.there ∙ g.mine;
        }

    go : (t : Bool) → nat_lt 0 version ≡ t → View true members part b (acted n (act.Synced c ∷ []))
    go true h =
        pinned_view true members part b n v (syncs v.world version).pinned (n.acts ++ act.Synced c ∷ []) (More v.steps (Syncs c version (may h)))
        (ap (λ acts. acts ++ SyncedBlock c version ∷ []) v.acts
        ∙ sym (acts_on b n.acts (act.Synced c) ∙ ap (λ t. acts_of b n.acts ++ (if t then SyncedBlock c version ∷ [] else [])) h))
    go false h =
        unacted true members part b n v (n.acts ++ act.Synced c ∷ [])
        (acts_on b n.acts (act.Synced c) ∙ ap (λ t. acts_of b n.acts ++ (if t then SyncedBlock c version ∷ [] else [])) h ∙ append-nil (acts_of b n.acts))

pub syncs_view : (logs : Bool) (members part : ℕ) (b : BlockId) (n : Net) → View logs members part b n → Premise logs (FallsApart n.acts) → (c : ℕ) → 0 < c
    → c < members → n.up c ≡ true → Premise logs (AllClean (n.tokens c))
    → View logs members part b (acted n (act.Synced c ∷ []))
syncs_view true members part b n v apart c pos less up clean = syncs_true members part b n v apart c pos less up clean
syncs_view false members part b n v apart c pos less up clean = unacted false members part b n v _ tt

-- ---- acts that change no history

pub neutral_acts : (b : BlockId) (acts : List Act) (a : Act) → IsNeutral a → acts_of b (acts ++ a ∷ []) ≡ acts_of b acts
neutral_acts b acts (act.Wrote client k value) neutral = absurd neutral
neutral_acts b acts (act.Read client k ver value) neutral = absurd neutral
neutral_acts b acts (act.Synced client) neutral = absurd neutral
neutral_acts b acts (act.Fell client flight falls) neutral = absurd neutral
neutral_acts b acts (act.Back client chain) neutral = absurd neutral
neutral_acts b acts (act.Lost node seg) neutral = acts_on b acts (act.Lost node seg) ∙ append-nil (acts_of b acts)
neutral_acts b acts (act.Filed seg) neutral = acts_on b acts (act.Filed seg) ∙ append-nil (acts_of b acts)
neutral_acts b acts (act.Dropped seg) neutral = acts_on b acts (act.Dropped seg) ∙ append-nil (acts_of b acts)
neutral_acts b acts (act.Answered node item answer) neutral = acts_on b acts (act.Answered node item answer) ∙ append-nil (acts_of b acts)

pub says_view : (logs : Bool) (members part : ℕ) (b : BlockId) (n : Net) → View logs members part b n → (a : Act) → IsNeutral a
    → View logs members part b (acted n (a ∷ []))
says_view logs members part b n v a neutral =
    unacted logs members part b n v (n.acts ++ a ∷ []) (owed logs (acts_of b (n.acts ++ a ∷ []) ≡ acts_of b n.acts) (λ _. neutral_acts b n.acts a neutral))
