-- Falls that wait: a client that fell with a block, and isn't back, is down in the small world, and the block is dirty in what is left of its tokens.
use Rattle.std.proofs.Common.{◌≡◌, ⊎_elim, ◌⊎◌, ℕ, ◌<◌, ◌==◌, Bool, true, false, List, [], ◌∷◌, ◌++◌, inl, inr, refl, sym, ap, subst, ◌∙◌}
use Rattle.std.specs.Prelude.{All, if◌then◌else◌}
use Rattle.std.proofs.lemmas.Bool.{eqb-true}
use Rattle.std.proofs.lemmas.List.Elements.{All-head, All-tail, All-weaker, recursion_from_All}
use Rattle.client_node.specs.declared.phase.Phase.{Phase}
use Rattle.client_node.specs.declared.phase.Phase.TheVariants.{Down, Opening, Serving as Serves}
use Rattle.client_node.specs.Phases.{lasting_of}
use Rattle.node_base.specs.declared.effects.Effect.{Effect}
use Rattle.node_base.specs.declared.effects.Effect.TheVariants.{Does}
use Rattle.node_base.specs.Effects.{act_of, acts_of}
use Rattle.node_slots.proofs.node_tie.StoreFrames.{acts_are}
use Rattle.node_slots.specs.node_tie.ClientEvents.{ClientActs, ClientAgrees, ClientDid, ClientGoes, IsAway}
use Rattle.token_client.specs.Held.{is_dirty}
use Rattle.token_client.specs.State.{TokensState, held_of}
use Rattle.token_law.specs.Net.{Net}
use Rattle.token_law.specs.Owed.{IsNeutral}
use Rattle.token_protocol.specs.Basics.{In}
use Rattle.version_model.specs.declared.act.Act.{Act}
use Rattle.version_model.specs.declared.act.Act.TheVariants as act
use Rattle.version_model.specs.declared.act.Fall.{Fall}
use Rattle.version_model.specs.declared.history.FallTold.{FallTold}
use Rattle.version_model.specs.Effects.{after_act, change, cut_to, history_after, holds_flight, pin, settle, settle_falls}
use Rattle.version_model.specs.History.{History, is_by_other, nothing_yet}
use Rattle.version_model.proofs.Onward.{history_through}
use Rattle.run_laws.proofs.world_law.OtherTurns.{equal_or_not}
use Rattle.run_laws.proofs.world_law.Sent.{in_append}
use Rattle.headline.specs.Falls.{Names}
use Rattle.xfs_base.proofs.Booleans.{by_test, contrary, equal_itself}
use Rattle.xfs_base.specs.declared.block.BlockId.{BlockId}
use Rattle.xfs_base.specs.declared.node.NodeId.{NodeId}
use Rattle.xfs_base.specs.declared.segment.SegName.{SegName}

-- ---- what acts make of the falls that wait

settle_falls_told : (adopted : Bool) (falls : List Fall) (h : History) → (settle_falls adopted falls h).told ≡ h.told
settle_falls_told adopted [] h = refl
settle_falls_told adopted (f ∷ fs) h = settle_falls_told adopted fs (change f.block (cut_to (if adopted then f.high else f.low)) h)

settle_told : (chain : List SegName) (told : List FallTold) (h : History) → (settle chain told h).told ≡ h.told
settle_told chain [] h = refl
settle_told chain (t ∷ ts) h =
    settle_told chain ts (settle_falls (holds_flight chain t.flight) t.falls h) ∙ settle_falls_told (holds_flight chain t.flight) t.falls h

-- the falls of an act are of these clients and blocks
module _ (F : ℕ → BlockId → Type 0) where
  abbrev pub Falls : Act → Type 0
  Falls (act.Fell client flight falls) = (f : Fall) → In f falls → F client f.block
  Falls _ = Unit {0}

  -- a fall that waits after an act waited before, or is the act's
  one_told : (a : Act) (h : History) (c : ℕ) (b : BlockId) → Falls a → Names b ((after_act a h).told c) → Names b (h.told c) ⊎ F c b
  one_told (act.Wrote client block value) h c b right names = inl names
  one_told (act.Read client block ver value) h c b right names =
      by_test (λ (x : History). Names b (x.told c) → Names b (h.told c) ⊎ F c b) (is_by_other client ver (h.of_block block).versions)
      (change block (pin ver) h) h
      (λ t n. inl n) (λ t n. inl n) names
  one_told (act.Synced client) h c b right names = inl names
  one_told (act.Fell client flight falls) h c b right names =
      by_test (λ (xs : List FallTold). Names b xs → Names b (h.told c) ⊎ F c b) (c == client) (h.told c ++ told ∷ []) (h.told c)
      (λ t n. ⊎_elim (λ old. inl (record { told_so = n.told_so; among = old; fall = n.fall; named = n.named; block = n.block })) (λ new. inr (fell t n new))
      (in_append (h.told c) (told ∷ []) n.told_so n.among))
      (λ t n. inl n) names
    where
      told : FallTold
      told = record { flight = flight; falls = falls }

      fell : {X : List FallTold} → (c == client) ≡ true → (n : Names b X) → In n.told_so (told ∷ []) → F c b
      fell t n (inl fact) =
          subst (λ x. F x b) (sym (eqb-true c client t))
          (subst (λ x. F client x) n.block (right n.fall (subst (λ (x : FallTold). In n.fall x.falls) fact n.named)))
      fell t n (inr later) = absurd later
  one_told (act.Back client chain) h c b right names =
      by_test (λ (xs : List FallTold). Names b xs → Names b (h.told c) ⊎ F c b) (c == client) [] ((settle chain (h.told client) h).told c)
      (λ t n. absurd n.among) (λ t n. inl (subst (λ (told : ℕ → List FallTold). Names b (told c)) (settle_told chain (h.told client) h) n)) names
  one_told (act.Lost node seg) h c b right names = inl names
  one_told (act.Filed seg) h c b right names = inl names
  one_told (act.Dropped seg) h c b right names = inl names
  one_told (act.Answered node item answer) h c b right names = inl names

  pub all_told : (acts : List Act) (h : History) (c : ℕ) (b : BlockId) → All Falls acts → Names b ((history_after acts h).told c) → Names b (h.told c) ⊎ F c b
  all_told [] h c b right names = inl names
  all_told (a ∷ acts) h c b right names =
      ⊎_elim (λ old. one_told a h c b (All-head Falls a acts right) old) inr (all_told acts (after_act a h) c b (All-tail Falls a acts right) names)

  -- none waits once its client is back
  pub back_told : (acts : List Act) (h : History) (c : ℕ) (b : BlockId) (chain : List SegName) → In (act.Back c chain) acts → All Falls acts → (F c b → ⊥)
      → Names b ((history_after acts h).told c) → ⊥
  back_told [] h c b chain fact right none names = fact
  back_told (a ∷ acts) h c b chain (inl same) right none names =
      ⊎_elim (λ old. over (subst (λ (x : Act). Names b ((after_act x h).told c)) (sym same) old)) none
      (all_told acts (after_act a h) c b (All-tail Falls a acts right) names)
    where
      over : Names b ((after_act (act.Back c chain) h).told c) → ⊥
      over n = (subst (λ t. Names b (if t then [] else (settle chain (h.told c) h).told c)) (equal_itself c) n).among
  back_told (a ∷ acts) h c b chain (inr later) right none names = back_told acts (after_act a h) c b chain later (All-tail Falls a acts right) none names

in_behind : {X : Type 0} (x : X) (xs ys : List X) → In x ys → In x (xs ++ ys)
in_behind x [] ys fact = fact
in_behind x (y ∷ xs) ys fact = inr (in_behind x xs ys fact)

in_acts : (node : NodeId) (a : Act) (outs : List Effect) → In (Does a) outs → In a (acts_of node outs)
in_acts node a [] fact = fact
in_acts node a (e ∷ outs) (inl same) = subst (λ x. In a (act_of node x ++ acts_of node outs)) same (inl refl)
in_acts node a (e ∷ outs) (inr later) = in_behind a (act_of node e) (acts_of node outs) (in_acts node a outs later)

-- ---- the small world

module _ (members : ℕ) where
  -- what the small world has of a client that fell with a block
  pub record WaitsDirty (n : Net) (b : BlockId) (c : ℕ) : Type 0 where
    pub some : 0 < c
    pub within : c < members
    pub down : n.up c ≡ false
    pub dirty : is_dirty (held_of (n.tokens c).blocks b) ≡ true

  abbrev pub FallsStand : Net → List Act → Type 0
  FallsStand n acts = (b : BlockId) (c : ℕ) → Names b ((history_after acts nothing_yet).told c) → WaitsDirty n b c

  no_falls : (a : Act) → IsNeutral a → Falls (λ c b. ⊥) a
  no_falls (act.Fell client flight falls) h = absurd h
  no_falls _ h = tt

  -- where no client changes, and no act is a fall
  pub falls_stay : (n m : Net) (acts more : List Act) → m.tokens ≡ n.tokens → m.up ≡ n.up → All IsNeutral more → FallsStand n acts → FallsStand m (acts ++ more)
  falls_stay n m acts more tokens up none st b c names =
      let told = subst (λ (h : History). Names b (h.told c)) (history_through acts more nothing_yet) names in
      let old : Names b ((history_after acts nothing_yet).told c) =
      ⊎_elim (λ o. o) (λ f. absurd f)
      (all_told (λ c b. ⊥) more (history_after acts nothing_yet) c b (All-weaker IsNeutral (Falls (λ c b. ⊥)) no_falls more none) told) in
      let w = st b c old in
      record {
        some = w.some;
        within = w.within;
        down = ap (λ f. f c) up ∙ w.down;
        dirty = subst (λ (f : ℕ → TokensState). is_dirty (held_of (f c).blocks b) ≡ true) (sym tokens) w.dirty;
      }

  module _ (logs : Bool) (part limit c : ℕ) (some : 0 < c) (within : c < members) (n : Net) (node : NodeId) (acts : List Act) (st : FallsStand n acts) where
    is_down : (m : Net) (q : Phase) → IsAway q → ClientAgrees logs part c m q → m.up c ≡ false
    is_down m (Down l) away agrees = agrees.up
    is_down m (Opening l o) away agrees = agrees.up
    is_down m (Serves s) away agrees = absurd away

    module _ (b : BlockId) where
      -- the falls of client c, where it doesn't serve then
      abbrev Own : Phase → ℕ → BlockId → Type 0
      Own q d x = (d ≡ c) × IsAway q × (is_dirty (held_of (n.tokens c).blocks x) ≡ true)

      right : (p q : Phase) (outs : List Effect) (go : ClientGoes logs members part limit c n p q outs) → All (Falls (Own q)) (acts_of node outs)
      right p q outs go =
          acts_are (Falls (Own q)) (ClientDid part c n go.next.sent (lasting_of q).inc q) node (λ item answer. tt) (λ seg. tt) each outs
          (recursion_from_All (ClientDid part c n go.next.sent (lasting_of q).inc q) outs go.does)
        where
          each : (a : Act) → ClientActs part c n go.next.sent (lasting_of q).inc q a → Falls (Own q) a
          each (act.Fell client flight falls) h = λ f fact. (h.0, h.1, h.2 f fact)
          each _ h = tt

      -- one that was down and of which a fall waits still doesn't serve
      still_away : (p q : Phase) (outs : List Effect) (go : ClientGoes logs members part limit c n p q outs) → ClientAgrees logs part c n p → n.up c ≡ false
          → (h : History) → Names b ((history_after (acts_of node outs) h).told c) → IsAway q
      still_away p (Down l) outs go agrees down h names = tt
      still_away p (Opening l o) outs go agrees down h names = tt
      still_away (Serves r) (Serves s) outs go agrees down h names = contrary (sym down ∙ agrees.up)
      still_away (Down l) (Serves s) outs go agrees down h names = absurd go.back
      still_away (Opening l o) (Serves s) outs go agrees down h names =
          absurd (back_told (Own (Serves s)) (acts_of node outs) h c b go.back.0 (in_acts node (act.Back c go.back.0) outs go.back.1)
          (right (Opening l o) (Serves s) outs go) (λ f. f.1) names)

    -- what a client does keeps falls standing so
    pub client_falls : (p q : Phase) (outs : List Effect) (go : ClientGoes logs members part limit c n p q outs) → ClientAgrees logs part c n p
        → FallsStand go.next (acts ++ acts_of node outs)
    client_falls p q outs go agrees b d names =
        ⊎_elim
        (λ old. let w = st b d old in ⊎_elim
        (λ same. subst (WaitsDirty go.next b) (sym same)
        (here (still_away b p q outs go agrees (subst (λ x. n.up x ≡ false) same w.down) before
        (subst (λ x. Names b ((history_after (acts_of node outs) before).told x)) same told))
        (subst (λ x. is_dirty (held_of (n.tokens x).blocks b) ≡ true) same w.dirty)))
        (λ other. let o = go.others d other in record {
          some = w.some;
          within = w.within;
          down = o.1 ∙ w.down;
          dirty = subst (λ (t : TokensState). is_dirty (held_of t.blocks b) ≡ true) (sym o.0) w.dirty;
        }) (equal_or_not d c))
        (λ f. subst (WaitsDirty go.next b) (sym f.0) (here f.1 f.2))
        (all_told (Own b q) (acts_of node outs) before d b (right b p q outs go) told)
      where
        before : History
        before = history_after acts nothing_yet

        told : Names b ((history_after (acts_of node outs) before).told d)
        told = subst (λ (h : History). Names b (h.told d)) (history_through acts (acts_of node outs) nothing_yet) names

        here : IsAway q → is_dirty (held_of (n.tokens c).blocks b) ≡ true → WaitsDirty go.next b c
        here away dirty = record {
          some = some;
          within = within;
          down = is_down go.next q away go.agrees;
          dirty = subst (λ (t : TokensState). is_dirty (held_of t.blocks b) ≡ true) (sym (go.stands away)) dirty;
        }
