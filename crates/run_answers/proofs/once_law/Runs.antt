-- In every run each item is answered at most once, by its own node, after its Begin: each event keeps the ledgers of all nodes.
use Rattle.std.proofs.Common.{◌≡◌, ◌⊎◌, ℕ, ◌+◌, ◌≤◌, ◌<◌, List, [], ◌∷◌, ◌++◌, drop, length, slice_get, slice_set, take, Option, Some, None, inl, inr, refl, sym, ap, subst, ◌∙◌, arith}
use Rattle.std.specs.List.{fold}
use Rattle.cleaner_node.specs.CleanerEvents as cleaner
use Rattle.client_node.specs.Phases as client
use Rattle.core_world.specs.AnyNode.{any_start, any_step}
use Rattle.core_world.specs.declared.any_node.AnyNode.{AnyNode}
use Rattle.core_world.specs.declared.any_node.AnyNode.TheVariants as any
use Rattle.manager_node.specs.Events as manager
use Rattle.manager_node.specs.Phases as managers
use Rattle.node_base.specs.Beginning.{next_item}
use Rattle.node_base.specs.declared.items.Items.{Items}
use Rattle.registry_node.specs.Events as registry
use Rattle.script_text.specs.declared.script.Script.{Script}
use Rattle.store_nodes.specs.ServerEvents as server
use Rattle.token_protocol.specs.Basics.{In}
use Rattle.version_model.specs.declared.act.Act.{Act}
use Rattle.version_model.specs.declared.act.Act.TheVariants as act
use Rattle.version_model.specs.declared.answer.Answer.{Answer}
use Rattle.version_model.specs.declared.work.Work.{Work}
use Rattle.wire_msg.specs.declared.packet.Do.{Do}
use Rattle.wire_msg.specs.declared.packet.Do.TheVariants as whats
use Rattle.world_base.specs.Cluster.{cluster_of, place_of}
use Rattle.world_base.specs.declared.cluster.Cluster.{Cluster}
use Rattle.world_base.specs.declared.estate.Estate.{Estate}
use Rattle.world_base.specs.declared.event.Event.{Event}
use Rattle.world_base.specs.declared.world.World.{World}
use Rattle.world_base.specs.Events.{node_of, what_of}
use Rattle.world_base.specs.Items.{items_of}
use Rattle.world_base.specs.NextWorld.{next_world, start_world}
use Rattle.world_base.specs.Runs.{Leads, begins_of}
use Rattle.run_laws.proofs.world_law.Everyone.{everyone_so}
use Rattle.run_laws.proofs.world_law.Pasts.{done_after, holds_at, none_after}
use Rattle.run_laws.proofs.world_law.Start.{first_stands}
use Rattle.run_laws.proofs.world_law.Turning.{next_cluster, next_keeps}
use Rattle.headline.specs.Moments.{acts_in, moment, node_in}
use Rattle.xfs_base.specs.declared.node.NodeId.{NodeId}
use Rattle.xfs_base.specs.declared.node.NodeId.TheVariants as nodes
use Rattle.xfs_base.specs.declared.setup.Setup.{Setup}
use Rattle.serving_moves.proofs.item_moves.Begins.{begins_now, more_now, now, taken_next}
use Rattle.serving_moves.proofs.item_moves.Cleaners.{cleaner_turned}
use Rattle.serving_moves.proofs.item_moves.Clients.{any_turned}
use Rattle.serving_moves.proofs.item_moves.Keeping.{next_is, no_item}
use Rattle.serving_moves.proofs.item_moves.Managers.{manager_turned}
use Rattle.serving_moves.proofs.item_moves.Registries.{registry_turned}
use Rattle.serving_moves.proofs.item_moves.Servers.{server_turned}
use Rattle.serving_moves.specs.item_moves.Events.{cleaner_losses, client_losses}
use Rattle.serving_moves.specs.item_moves.Moves.{IsAny, IsCleaners, IsCount, IsNone, IsPrompt, IsRebuilt}
use Rattle.serving_moves.specs.item_moves.Moves.Losses.{Silent, Telling}
use Rattle.run_answers.proofs.once_law.Counting.{left_is_unanswered}
use Rattle.run_answers.proofs.once_law.Replies.{is_not_shown, is_shown}
use Rattle.headline.specs.Items.{AnswersOnce, IsOpen, IsOwnItem, IsUnanswered, items_in, name_in}
use Rattle.run_answers.specs.once_law.Ledgers.{Closes, EachEventKeepsLedger, EventKeepsLedger, KeepsLedger, MayBeAnswered, OpenHasBegun, Without}
use Rattle.run_answers.specs.once_law.Runs.{EachItemIsAnsweredOnce}
use Rattle.run_answers.proofs.once_law.Items.{keeps_ledger, next_left}
use Rattle.run_laws.proofs.world_law.Sent.{in_append}

-- ---- one event

pub each_keeps : EachEventKeepsLedger
each_keeps (any.Client c) what sound =
    let l = client.lasting_of c.phase in
    let w = client.takes c what in
    let t = any_turned c what in
    record {
      name = ap nodes.Client t.its_number;
      ledger = keeps_ledger (client_losses c.phase) IsAny IsPrompt l.items sound (nodes.Client l.number) what (client.lasting_of w.state).items w.outs t.event;
    }
each_keeps (any.Manager m) what sound =
    let l = managers.lasting_of m.phase in
    let w = manager.happens m what in
    let t = manager_turned m what in
    record {
      name = ap nodes.Manager t.its_number;
      ledger = keeps_ledger Telling IsCount IsPrompt l.items sound (nodes.Manager l.number) what (managers.lasting_of w.state).items w.outs t.event;
    }
each_keeps (any.Server v) what sound =
    let d = server.takes v what in
    let t = server_turned v what in
    record {
      name = ap nodes.Server t.its_number;
      ledger = keeps_ledger Silent IsRebuilt IsPrompt v.items sound (nodes.Server v.number) what d.state.items d.outs t.event;
    }
each_keeps (any.Cleaner c) what sound =
    let l = cleaner.lasting_of c.phase in
    let w = cleaner.takes c.peers c.phase what in
    record {
      name = refl;
      ledger = keeps_ledger (cleaner_losses c.phase) IsCleaners IsPrompt l.items sound nodes.Cleaner what (cleaner.lasting_of w.state).items w.outs
          (cleaner_turned c what).event;
    }
each_keeps (any.Registry r) what sound =
    let d = registry.takes r what in
    record {
      name = refl;
      ledger = keeps_ledger Silent IsNone IsPrompt r.items sound nodes.Registry what d.state.items d.outs (registry_turned r what).event;
    }

-- ---- what a ledger says

module _ (me : NodeId) where
  -- what is answered is its own, and one of those
  pub closes_in : (these left : ℕ → Type 0) (acts : List Act) → Closes me these acts left → (node : NodeId) (item : ℕ) (a : Answer)
      → In (act.Answered node item a) acts → (node ≡ me) × these item
  closes_in these left [] c node item a among = absurd among
  closes_in these left (act.Answered n i b ∷ acts) c node item a (inl e) =
      let one : node ≡ n = cc in
      let two : i ≡ item = cc in
      (one ∙ c.0, subst these two c.1.0)
  closes_in these left (act.Answered n i b ∷ acts) c node item a (inr among) =
      (let more = closes_in (Without these i) left acts c.1.1 node item a among in (more.0, more.1.0))
  closes_in these left (_ ∷ acts) c node item a (inl e) = absurd cc
  closes_in these left (_ ∷ acts) c node item a (inr among) = closes_in these left acts c node item a among

  -- what is left was one of those
  closes_left : (these left : ℕ → Type 0) (acts : List Act) → Closes me these acts left → (item : ℕ) → left item → these item
  closes_left these left [] c item last = c item last
  closes_left these left (act.Answered n i b ∷ acts) c item last = (closes_left (Without these i) left acts c.1.1 item last).0
  closes_left these left (_ ∷ acts) c item last = closes_left these left acts c item last

  -- and is not answered
  left_unanswered : (these left : ℕ → Type 0) (acts : List Act) → Closes me these acts left → (item : ℕ) → left item → (node : NodeId)
      → IsUnanswered acts node item
  left_unanswered these left [] c item last node a among = among
  left_unanswered these left (act.Answered n i b ∷ acts) c item last node a (inl e) =
      let same : item ≡ i = cc in
      (closes_left (Without these i) left acts c.1.1 item last).1 same
  left_unanswered these left (act.Answered n i b ∷ acts) c item last node a (inr among) =
      left_unanswered (Without these i) left acts c.1.1 item last node a among
  left_unanswered these left (_ ∷ acts) c item last node a (inl e) = absurd cc
  left_unanswered these left (_ ∷ acts) c item last node a (inr among) = left_unanswered these left acts c item last node a among

  -- nothing is answered twice
  closes_once : (these left : ℕ → Type 0) (acts : List Act) → Closes me these acts left → AnswersOnce acts
  closes_once these left [] c = tt
  closes_once these left (act.Answered n i b ∷ acts) c =
      (λ a among. (closes_in (Without these i) left acts c.1.1 n i a among).1.1 refl, closes_once (Without these i) left acts c.1.1)
  closes_once these left (_ ∷ acts) c = closes_once these left acts c

-- what a node answers in an event it answers itself
pub answers_itself : (x : AnyNode) (what : Do) → OpenHasBegun (items_in x) → (node : NodeId) (item : ℕ) (a : Answer)
    → In (act.Answered node item a) (any_step x what).acts → node ≡ name_in x
answers_itself x what sound node item a among =
    let after : Items = items_in (any_step x what).node in
    (closes_in (name_in x) (MayBeAnswered (items_in x) what after) (IsOpen after) (any_step x what).acts (each_keeps x what sound).ledger.closes node item a
    among).0

-- what is open behind an event was open before it, or begins by it
pub open_was : (x : AnyNode) (what : Do) → OpenHasBegun (items_in x) → (item : ℕ) → IsOpen (items_in (any_step x what).node) item
    → MayBeAnswered (items_in x) what (items_in (any_step x what).node) item
open_was x what sound item waits =
    let after : Items = items_in (any_step x what).node in
    closes_left (name_in x) (MayBeAnswered (items_in x) what after) (IsOpen after) (any_step x what).acts (each_keeps x what sound).ledger.closes item waits

-- and so was what it answers
pub answered_was : (x : AnyNode) (what : Do) → OpenHasBegun (items_in x) → (node : NodeId) (item : ℕ) (a : Answer)
    → In (act.Answered node item a) (any_step x what).acts → MayBeAnswered (items_in x) what (items_in (any_step x what).node) item
answered_was x what sound node item a among =
    let after : Items = items_in (any_step x what).node in
    (closes_in (name_in x) (MayBeAnswered (items_in x) what after) (IsOpen after) (any_step x what).acts (each_keeps x what sound).ledger.closes node item a
    among).1

-- ---- lists of acts

pub unanswered_both : (xs ys : List Act) (node : NodeId) (item : ℕ) → IsUnanswered xs node item → IsUnanswered ys node item → IsUnanswered (xs ++ ys) node item
unanswered_both xs ys node item before behind a among = by (in_append xs ys (act.Answered node item a) among)
  where
    by : In (act.Answered node item a) xs ⊎ In (act.Answered node item a) ys → ⊥
    by (inl fact) = before a fact
    by (inr fact) = behind a fact

once_both : (xs ys : List Act) → AnswersOnce xs → AnswersOnce ys
    → ((node : NodeId) (item : ℕ) (a : Answer) → In (act.Answered node item a) xs → IsUnanswered ys node item) → AnswersOnce (xs ++ ys)
once_both [] ys before behind apart = behind
once_both (act.Answered n i b ∷ xs) ys before behind apart = (
  unanswered_both xs ys n i before.0 (apart n i b (inl refl)),
  once_both xs ys before.1 behind (λ node item a among. apart node item a (inr among)),
)
once_both (_ ∷ xs) ys before behind apart = once_both xs ys before behind (λ node item a among. apart node item a (inr among))

-- ---- a node of a run

-- an item that is open, or has not begun
abbrev IsLeft : Items → ℕ → Type 0
IsLeft items item = IsOpen items item ⊎ (items.begun < item)

module _ (script : Script) where
  -- a node of this name behind these events and acts: it has its name and its items; as many have begun as events began, and it has so many; and what is open,
  -- or has not begun, no act answers
  record Stands (name : NodeId) (limit : ℕ) (acts : List Act) (x : AnyNode) : Type 0 where
    named : name_in x ≡ name
    works : (items_in x).works ≡ items_of script.lines name
    begun : (items_in x).begun ≤ limit
    there : (items_in x).begun ≤ length (items_in x).works
    waits : (item : ℕ) → IsOpen (items_in x) item → (1 ≤ item) × (item ≤ (items_in x).begun)
    free : (item : ℕ) → IsLeft (items_in x) item → IsUnanswered acts name item

  -- an answer is to an item that the script has, and that has begun
  abbrev Its : List Event → NodeId → ℕ → Type 0
  Its past node item = ((1 ≤ item) × (item ≤ length (items_of script.lines node))) × (item ≤ begins_of node past)

  abbrev AllIts : List Event → List Act → Type 0
  AllIts past acts = (node : NodeId) (item : ℕ) (a : Answer) → In (act.Answered node item a) acts → Its past node item

  record AllStand (past : List Event) (k : Cluster) (xs : List AnyNode) (acts : List Act) : Type 0 where
    nodes : (name : NodeId) (x : AnyNode) → node_in xs (place_of k name) ≡ Some x → Stands name (begins_of name past) acts x
    once : AnswersOnce acts
    its : AllIts past acts

  -- ---- the start

  first_items : (name : NodeId) (setup : Setup) (works : List Work) → Items
  first_items name setup works = items_in (any_start name setup works)

  fresh_stands : (name : NodeId) (works : List Work) (x : AnyNode) → name_in x ≡ name → items_of script.lines name ≡ works
      → items_in x ≡ record { works = works; begun = 0; unanswered = None } → Stands name (begins_of name []) [] x
  fresh_stands name works x named its fresh =
      let none : (items_in x).begun ≡ 0 = ap (λ (i : Items). i.begun) fresh in
      record {
        named = named;
        works = ap (λ (i : Items). i.works) fresh ∙ sym its;
        begun = omega arith;
        there = omega arith;
        waits = λ item fact. absurd (no_item item (sym (ap (λ (i : Items). i.unanswered) fresh) ∙ fact));
        free = λ item fact a among. among;
      }

  starts : (name : NodeId) → Stands name (begins_of name []) [] (any_start name script.setup (items_of script.lines name))
  starts (nodes.Client number) = fresh_stands (nodes.Client number) _ _ refl refl refl
  starts (nodes.Manager number) = fresh_stands (nodes.Manager number) _ _ refl refl refl
  starts (nodes.Server number) = fresh_stands (nodes.Server number) _ _ refl refl refl
  starts nodes.Cleaner = fresh_stands nodes.Cleaner _ _ refl refl refl
  starts nodes.Registry = fresh_stands nodes.Registry _ _ refl refl refl

  same_node : (a b : AnyNode) → Some a ≡ Some b → a ≡ b
  same_node a b fact = cc

  start_nodes : (name : NodeId) (x : AnyNode) → node_in (start_world any_start script).nodes (place_of (cluster_of script.setup) name) ≡ Some x
      → Stands name (begins_of name []) [] x
  unfolding start_world
  start_nodes name x = by (place_of (cluster_of script.setup) name) refl
    where
      by : (o : Option ℕ) → place_of (cluster_of script.setup) name ≡ o → node_in (start_world any_start script).nodes o ≡ Some x
          → Stands name (begins_of name []) [] x
      by None at fact = absurd cc
      by (Some p) at fact =
          let here : node_in (start_world any_start script).nodes (Some p) ≡ Some (any_start name script.setup (items_of script.lines name)) =
          ap (node_in (start_world any_start script).nodes) (sym at) ∙ first_stands script name p at in
          subst (Stands name (begins_of name []) [])
          (same_node (any_start name script.setup (items_of script.lines name)) x (sym here ∙ fact)) (starts name)

  start_stands : AllStand [] (start_world any_start script).cluster (start_world any_start script).nodes (start_world any_start script).acts
  unfolding start_world
  start_stands = record { nodes = start_nodes; once = tt; its = λ node item a among. absurd among }

  -- ---- an event

  module _ (past : List Event) (event : Event) where
    abbrev later : List Event
    later = now past event

    its_later : (node : NodeId) (item : ℕ) → Its past node item → Its later node item
    its_later node item f = (f.0, (let more = more_now past event node in let low = f.1 in omega arith))

    -- a node to which nothing happens, while another acts this
    other_stands : (name : NodeId) (acts new : List Act) (x : AnyNode) → ((item : ℕ) → IsUnanswered new name item)
        → Stands name (begins_of name past) acts x → Stands name (begins_of name later) (acts ++ new) x
    other_stands name acts new x none s = record {
      named = s.named;
      works = s.works;
      begun = (let more = more_now past event name in let low = s.begun in omega arith);
      there = s.there;
      waits = s.waits;
      free = λ item fact. unanswered_both acts new name item (s.free item fact) (none item);
    }

    -- the node to which it happens
    module _ (acts : List Act) (x : AnyNode) (s : Stands (node_of event) (begins_of (node_of event) past) acts x) where
      abbrev me : NodeId
      me = node_of event

      abbrev before : Items
      before = items_in x

      abbrev new : List Act
      new = (any_step x (what_of event)).acts

      abbrev after : Items
      after = items_in (any_step x (what_of event)).node

      kept : EventKeepsLedger x (what_of event)
      kept = each_keeps x (what_of event) (λ item fact. (s.waits item fact).1)

      ledger_is : KeepsLedger me before (what_of event) new after
      ledger_is = subst (λ n. KeepsLedger n before (what_of event) new after) s.named kept.ledger

      grown : before.begun ≤ after.begun
      grown = by ledger_is.begun
        where
          by : (after.begun ≡ before.begun) ⊎ ((what_of event ≡ whats.Begin) × (next_item before ≡ Some after.begun)) → before.begun ≤ after.begun
          by (inl e) = omega arith
          by (inr p) = (let one = next_is before after.begun p.1 in omega arith)

      -- what may be answered was open, or is the next one, and has begun by then
      may : (item : ℕ) → MayBeAnswered before (what_of event) after item → IsLeft before item × ((1 ≤ item) × (item ≤ after.begun))
      may item (inl fact) = (let w = s.waits item fact in let more = grown in (inl fact, (w.0, (let low = w.1 in omega arith))))
      may item (inr p) =
          let one : item ≡ before.begun + 1 = next_is before item p.1.0 in
          let its : after.begun ≡ item = p.1.1 in
          (inr (omega arith), (omega arith, omega arith))

      begun_now : after.begun ≤ begins_of me later
      begun_now = by ledger_is.begun
        where
          by : (after.begun ≡ before.begun) ⊎ ((what_of event ≡ whats.Begin) × (next_item before ≡ Some after.begun)) → after.begun ≤ begins_of me later
          by (inl e) = (let more = more_now past event me in let low = s.begun in omega arith)
          by (inr p) = (let one = next_is before after.begun p.1 in let more = begins_now past event p.0 in let low = s.begun in omega arith)

      there_now : after.begun ≤ length after.works
      there_now = subst (λ (works : List Work). after.begun ≤ length works) (sym ledger_is.works) (by ledger_is.begun)
        where
          by : (after.begun ≡ before.begun) ⊎ ((what_of event ≡ whats.Begin) × (next_item before ≡ Some after.begun)) → after.begun ≤ length before.works
          by (inl e) = (let low = s.there in omega arith)
          by (inr p) = next_left before after.begun p.1

      left_before : (item : ℕ) → IsLeft after item → IsLeft before item
      left_before item (inl fact) = (may item (closes_left me (MayBeAnswered before (what_of event) after) (IsOpen after) new ledger_is.closes item fact)).0
      left_before item (inr more) = inr (let up = grown in omega arith)

      left_new : (item : ℕ) → IsLeft after item → IsUnanswered new me item
      left_new item (inl fact) a among =
          left_unanswered me (MayBeAnswered before (what_of event) after) (IsOpen after) new ledger_is.closes item fact me a among
      left_new item (inr more) a among =
          let c = closes_in me (MayBeAnswered before (what_of event) after) (IsOpen after) new ledger_is.closes me item a among in
          let low : item ≤ after.begun = (may item c.1).1.1 in
          absurd (omega arith)

      now_stands : Stands me (begins_of me later) (acts ++ new) (any_step x (what_of event)).node
      now_stands = record {
        named = kept.name ∙ s.named;
        works = ledger_is.works ∙ s.works;
        begun = begun_now;
        there = there_now;
        waits = λ item fact. (may item (closes_left me (MayBeAnswered before (what_of event) after) (IsOpen after) new ledger_is.closes item fact)).1;
        free = λ item fact. unanswered_both acts new me item (s.free item (left_before item fact)) (left_new item fact);
      }

      -- what is answered is its own
      new_its : (node : NodeId) (item : ℕ) (a : Answer) → In (act.Answered node item a) new → (node ≡ me) × (IsLeft before item × Its later node item)
      new_its node item a among =
          let c = closes_in me (MayBeAnswered before (what_of event) after) (IsOpen after) new ledger_is.closes node item a among in
          let m = may item c.1 in
          let limit : after.begun ≤ length (items_of script.lines me) =
          subst (λ (works : List Work). after.begun ≤ length works) (ledger_is.works ∙ s.works) there_now in
          let high : item ≤ after.begun = m.1.1 in
          let reached : after.begun ≤ begins_of me later = begun_now in
          let mine : Its later me item = ((m.1.0, omega arith), omega arith) in
          (c.0, (m.0, subst (λ n. Its later n item) (sym c.0) mine))

      new_once : AnswersOnce new
      new_once = closes_once me (MayBeAnswered before (what_of event) after) (IsOpen after) new ledger_is.closes

      -- no item that was answered before
      new_apart : (node : NodeId) (item : ℕ) (a : Answer) → In (act.Answered node item a) acts → IsUnanswered new node item
      new_apart node item a earlier b among =
          let n = new_its node item b among in
          s.free item n.1.0 a (subst (λ m. In (act.Answered m item a) acts) n.0 earlier)

    module _ (w : World AnyNode) (all : AllStand past w.cluster w.nodes w.acts) where
      here : (place : ℕ) (x : AnyNode) → place_of w.cluster (node_of event) ≡ Some place → slice_get w.nodes place ≡ Some x
          → Stands (node_of event) (begins_of (node_of event) past) w.acts x
      here place x at fact = all.nodes (node_of event) x (ap (node_in w.nodes) at ∙ fact)

      turn_nodes : (place : ℕ) (x : AnyNode) → place_of w.cluster (node_of event) ≡ Some place → slice_get w.nodes place ≡ Some x
          → (name : NodeId) (y : AnyNode) → node_in (slice_set w.nodes place (any_step x (what_of event)).node) (place_of w.cluster name) ≡ Some y
          → Stands name (begins_of name later) (w.acts ++ (any_step x (what_of event)).acts) y
      turn_nodes place x at fact =
          let s = here place x at fact in
          everyone_so w.cluster w.nodes (node_of event) place at x (any_step x (what_of event)).node fact
          (λ name y. Stands name (begins_of name later) (w.acts ++ (any_step x (what_of event)).acts) y) (now_stands w.acts x s)
          (λ name y differs was.
          other_stands name w.acts (any_step x (what_of event)).acts y (λ item a among. differs (new_its w.acts x s name item a among).0) (all.nodes name y was))

      turn_its : (place : ℕ) (x : AnyNode) → place_of w.cluster (node_of event) ≡ Some place → slice_get w.nodes place ≡ Some x
          → AllIts later (w.acts ++ (any_step x (what_of event)).acts)
      turn_its place x at fact node item a among =
          by (in_append w.acts (any_step x (what_of event)).acts (act.Answered node item a) among)
        where
          by : In (act.Answered node item a) w.acts ⊎ In (act.Answered node item a) (any_step x (what_of event)).acts → Its later node item
          by (inl earlier) = its_later node item (all.its node item a earlier)
          by (inr new) = (new_its w.acts x (here place x at fact) node item a new).1.1

      turn_stands : (place : ℕ) (x : AnyNode) → place_of w.cluster (node_of event) ≡ Some place → slice_get w.nodes place ≡ Some x
          → AllStand later w.cluster (slice_set w.nodes place (any_step x (what_of event)).node) (w.acts ++ (any_step x (what_of event)).acts)
      turn_stands place x at fact = record {
        nodes = turn_nodes place x at fact;
        once = once_both w.acts (any_step x (what_of event)).acts all.once (new_once w.acts x (here place x at fact))
            (new_apart w.acts x (here place x at fact));
        its = turn_its place x at fact;
      }

      still_stands : AllStand later w.cluster w.nodes w.acts
      still_stands = record {
        nodes = λ name x fact. (let s = all.nodes name x fact in record {
          named = s.named;
          works = s.works;
          begun = (let more = more_now past event name in let low = s.begun in omega arith);
          there = s.there;
          waits = s.waits;
          free = s.free;
        });
        once = all.once;
        its = λ node item a among. its_later node item (all.its node item a among);
      }

      next_stands : AllStand later (next_world any_step w event).cluster (next_world any_step w event).nodes (next_world any_step w event).acts
      next_stands =
          subst (λ k. AllStand later k (next_world any_step w event).nodes (next_world any_step w event).acts) (sym (next_cluster any_step w event))
          (next_keeps any_step (λ xs sent acts. AllStand later w.cluster xs acts) w event still_stands (λ place x clock at fact. turn_stands place x at fact))

      abbrev Own : List Act → Type 0
      Own acts = (node : NodeId) (item : ℕ) (a : Answer) → In (act.Answered node item a) acts → (node ≡ node_of event) × Its later node item

      event_own : Own (acts_in w event)
      event_own =
          next_keeps any_step (λ xs sent acts. Own (drop (length w.acts) acts)) w event
          (subst Own (sym (none_after w.acts)) (λ node item a among. absurd among))
          (λ place x clock at fact.
          subst Own (sym (done_after w.acts (any_step x (what_of event)).acts))
          (λ node item a among. (let n = new_its w.acts x (here place x at fact) node item a among in (n.0, n.1.1))))

  -- ---- runs

  abbrev WorldStands : List Event → World AnyNode → Type 0
  WorldStands past w = AllStand past w.cluster w.nodes w.acts

  all_stand : (events : List Event) (count : ℕ) (w : World AnyNode) (past : List Event) → WorldStands past w
      → WorldStands (past ++ take count events) (fold (next_world any_step) w (take count events))
  all_stand = holds_at WorldStands next_stands

module _ (e : Estate AnyNode) where
  stands_at : (count : ℕ) → WorldStands e.script (take count e.events) (moment e count)
  stands_at count = all_stand e.script e.events count (start_world any_start e.script) [] (start_stands e.script)

  ends_at : (events : List Event) (w end : World AnyNode) → Leads any_step w events end → fold (next_world any_step) w (take (length events) events) ≡ end
  ends_at [] w end leads = leads
  ends_at (event ∷ events) w end leads = ends_at events (next_world any_step w event) end leads.1

  own_items : (count : ℕ) (event : Event) → slice_get e.events count ≡ Some event → (node : NodeId) (item : ℕ) (a : Answer)
      → In (act.Answered node item a) (acts_in (moment e count) event) → IsOwnItem e count event node item
  own_items count event fact node item a among =
      let own = event_own e.script (take count e.events) event (moment e count) (stands_at count) node item a among in
      record {
        own = own.0;
        above = own.1.0.0;
        there = own.1.0.1;
        begun = subst (λ es. item ≤ begins_of node es) (taken_next e.events count event fact) own.1.1;
      }

-- what is known of a node of a run: it acts under its name, it has its items, and its open item has begun
pub record Known (e : Estate AnyNode) (name : NodeId) (x : AnyNode) : Type 0 where
  pub named : name_in x ≡ name
  pub works : (items_in x).works ≡ items_of e.script.lines name
  pub waits : OpenHasBegun (items_in x)

pub node_known : (e : Estate AnyNode) (count : ℕ) (name : NodeId) (x : AnyNode)
    → node_in (moment e count).nodes (place_of (moment e count).cluster name) ≡ Some x → Known e name x
node_known e count name x fact =
    (let s = (stands_at e count).nodes name x fact in record { named = s.named; works = s.works; waits = λ item waits. (s.waits item waits).1 })

-- and an item of it that is open, or that has not begun, no act answers
pub left_at : (e : Estate AnyNode) (count : ℕ) (name : NodeId) (x : AnyNode)
    → node_in (moment e count).nodes (place_of (moment e count).cluster name) ≡ Some x → (item : ℕ) → IsOpen (items_in x) item ⊎ ((items_in x).begun < item)
    → IsUnanswered (moment e count).acts name item
left_at e count name x fact item left = ((stands_at e count).nodes name x fact).free item left

-- the open item of a node of a run is one from 1 on, and no act answers it
pub open_unanswered : (e : Estate AnyNode) (count : ℕ) (name : NodeId) (x : AnyNode)
    → node_in (moment e count).nodes (place_of (moment e count).cluster name) ≡ Some x → (item : ℕ) → IsOpen (items_in x) item
    → (1 ≤ item) × IsUnanswered (moment e count).acts name item
open_unanswered e count name x fact item waits =
    (let s = (stands_at e count).nodes name x fact in ((s.waits item waits).0, s.free item (inl waits)))

pub runs_answer_once : EachItemIsAnsweredOnce
runs_answer_once e run =
    let count : ℕ = length e.events in
    let all : WorldStands e.script (take count e.events) e.world =
    subst (WorldStands e.script (take count e.events)) (ends_at e e.events (start_world any_start e.script) e.world run) (stands_at e count) in
    record {
      own = own_items e;
      once = all.once;
      shown = is_shown e.world.acts all.once;
      shown_open = is_not_shown e.world.acts;
      left = left_is_unanswered e.script.lines e.world.acts all.once (λ node item a among. (all.its node item a among).0);
    }
