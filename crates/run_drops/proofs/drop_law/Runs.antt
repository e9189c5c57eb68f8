-- So it is of each run: at each moment what a server has been told to delete was dropped, since the cleaner alone tells them, and what it drops it tells.
use Rattle.std.proofs.Common.{◌≡◌, ℕ, zero, suc, List, [], ◌∷◌, ◌++◌, Option, Some, None, inl, inr, length, drop, map, slice_get, slice_set, take, ap, refl, sym, subst, ◌∙◌, arith}
use Rattle.std.proofs.Math.Seq.{drop-append_seam, drop-length}
use Rattle.std.specs.List.{AllByRecursion, fold}
use Rattle.cleaner_node.specs.CleanerEvents.{Went_to, takes}
use Rattle.cleaner_node.specs.declared.cleaner.Cleaner.{Cleaner as CleanerNode}
use Rattle.client_node.specs.Phases as clients
use Rattle.core_world.specs.AnyNode.{any_start, any_step}
use Rattle.core_world.specs.declared.any_node.AnyNode.{AnyNode}
use Rattle.core_world.specs.declared.any_node.AnyNode.TheVariants as any
use Rattle.manager_node.specs.Events.{happens as manager_happens}
use Rattle.manager_node.specs.Phases as managers
use Rattle.node_base.specs.declared.effects.Effect.{Effect}
use Rattle.node_base.specs.declared.effects.Effect.TheVariants.{Send, Answer as Answers, Lose, Does}
use Rattle.node_base.specs.Effects.{acts_of, packets_of}
use Rattle.node_base.specs.Setups.{IsSetup}
use Rattle.node_moves.specs.cleaner_moves.Moves.{CleanerEventsAreMoves}
use Rattle.registry_node.specs.Events as registries
use Rattle.store_nodes.specs.ServerEvents as servers
use Rattle.token_protocol.specs.Basics.{In}
use Rattle.version_model.specs.declared.act.Act.{Act}
use Rattle.version_model.specs.declared.act.Act.TheVariants.{Answered, Dropped, Lost}
use Rattle.version_model.specs.declared.work.Work.{Work}
use Rattle.wire_msg.specs.declared.body.Body.{Body}
use Rattle.wire_msg.specs.declared.body.Body.TheVariants as body
use Rattle.wire_msg.specs.declared.packet.Do.{Do}
use Rattle.wire_msg.specs.declared.packet.Packet.{Packet}
use Rattle.wire_msg.specs.declared.storage.Delete.{Delete}
use Rattle.world_base.specs.Cluster.{cluster_of, nodes_of, place_of}
use Rattle.world_base.specs.declared.cluster.Cluster.{Cluster}
use Rattle.world_base.specs.declared.estate.Estate.{Estate}
use Rattle.world_base.specs.declared.event.Event.{Event}
use Rattle.world_base.specs.declared.world.World.{World}
use Rattle.world_base.specs.Events.{node_of, what_of}
use Rattle.world_base.specs.NextWorld.{first_node, next_world, sent_at, start_world}
use Rattle.world_base.specs.Runs.{IsRun}
use Rattle.run_laws.proofs.world_law.Laws.{NodeLaws, front}
use Rattle.run_laws.proofs.world_law.Turning.{next_keeps}
use Rattle.run_laws.proofs.world_reads.Taking.{moment_next}
use Rattle.headline.specs.Moments.{moment, node_in}
use Rattle.run_laws.specs.world_law.Standing.{Scene, SentBy}
use Rattle.headline.specs.Deletions.{DeletedWasDropped, Deletes, DroppedIsTold, OnlyTheCleanerDeletes}
use Rattle.xfs_base.proofs.Alls.{all_append, all_put, all_weaker}
use Rattle.xfs_base.specs.declared.node.NodeId.{NodeId}
use Rattle.xfs_base.specs.declared.node.NodeId.TheVariants.{Client, Manager, Server, Cleaner, Registry}
use Rattle.xfs_base.specs.declared.segment.SegName.{SegName}
use Rattle.run_drops.proofs.drop_law.Moving.{event_goes}
use Rattle.run_drops.proofs.drop_law.Saying.{ActSaid as ActSaidIn, Acted, Also, BodySo, EffectSaid, EffectSo, IsSaid, So, body_more, in_back, in_front, so_more}
use Rattle.run_drops.specs.drop_law.Drops.{EveryRunDropsWhatItDeletes}

-- ---- the moments of a run, one by one

moment_first : (e : Estate AnyNode) → moment e 0 ≡ start_world any_start e.script
moment_first e = none_taken e.events
  where
    none_taken : (events : List Event) → fold (next_world any_step) (start_world any_start e.script) (take 0 events) ≡ start_world any_start e.script
    none_taken [] = refl
    none_taken (x ∷ more) = refl

moment_past : (e : Estate AnyNode) (count : ℕ) → slice_get e.events count ≡ None → moment e (suc count) ≡ moment e count
moment_past e count fact = past e.events count (start_world any_start e.script) fact
  where
    past : (events : List Event) (count : ℕ) (w : World AnyNode) → slice_get events count ≡ None
        → fold (next_world any_step) w (take (suc count) events) ≡ fold (next_world any_step) w (take count events)
    past [] zero w fact = refl
    past [] (suc count) w fact = refl
    past (x ∷ more) zero w fact = absurd cc
    past (x ∷ more) (suc count) w fact = past more count (next_world any_step w x) fact

same_any : (x y : AnyNode) → Some x ≡ Some y → x ≡ y
same_any x y fact = cc

-- what these acts drop
abbrev by : List Act → Acted
by acts name = In (Dropped name) acts

-- ---- from what the cleaner does to what the world has

-- what is dropped in these effects is acted
abbrev act_in : Effect → Act → Act
act_in (Does act) other = act
act_in (Send to m) other = other
act_in (Answers item answer) other = other
act_in (Lose seg) other = other

did : (node : NodeId) (outs : List Effect) (name : SegName) → In (Does (Dropped name)) outs → In (Dropped name) (acts_of node outs)
did node [] name h = absurd h
did node (Send to m ∷ outs) name (inl same) = (let clash : Does (Dropped name) ≡ Send to m = same in absurd (cc))
did node (Send to m ∷ outs) name (inr later) = did node outs name later
did node (Answers item answer ∷ outs) name (inl same) = (let clash : Does (Dropped name) ≡ Answers item answer = same in absurd (cc))
did node (Answers item answer ∷ outs) name (inr later) = inr (did node outs name later)
did node (Lose seg ∷ outs) name (inl same) = (let clash : Does (Dropped name) ≡ Lose seg = same in absurd (cc))
did node (Lose seg ∷ outs) name (inr later) = inr (did node outs name later)
did node (Does act ∷ outs) name (inl same) = inl (ap (λ e. act_in e (Dropped name)) same)
did node (Does act ∷ outs) name (inr later) = inr (did node outs name later)

-- what is said of each effect is said of the packets
packets_so : (node : NodeId) (clock : ℕ) (acted : Acted) (outs : List Effect) → AllByRecursion (EffectSo acted) outs
    → AllByRecursion (λ (p : Packet). BodySo acted p.body) (map (sent_at clock) (packets_of node outs))
packets_so node clock acted [] all = tt
packets_so node clock acted (Send to m ∷ outs) all = (all.0, packets_so node clock acted outs all.1)
packets_so node clock acted (Answers item answer ∷ outs) all = packets_so node clock acted outs all.1
packets_so node clock acted (Lose seg ∷ outs) all = packets_so node clock acted outs all.1
packets_so node clock acted (Does act ∷ outs) all = packets_so node clock acted outs all.1

-- what is said to a server is in a packet
said_in : (node : NodeId) (clock : ℕ) (outs : List Effect) (to : NodeId) (m : Body) → In (Send to m) outs
    → (p : Packet) × In p (map (sent_at clock) (packets_of node outs)) × (p.body ≡ m)
said_in node clock [] to m h = absurd h
said_in node clock (Send other x ∷ outs) to m (inl same) =
    (record { from = node; to = other; clock = clock; body = x }, inl refl, sym (ap (λ e. body_in e m) same))
  where
    body_in : Effect → Body → Body
    body_in (Send to m) rest = m
    body_in (Answers item answer) rest = rest
    body_in (Lose seg) rest = rest
    body_in (Does act) rest = rest
said_in node clock (Send other x ∷ outs) to m (inr later) = (let s = said_in node clock outs to m later in (s.0, inr s.1, s.2))
said_in node clock (Answers item answer ∷ outs) to m (inl same) = (let clash : Send to m ≡ Answers item answer = same in absurd (cc))
said_in node clock (Answers item answer ∷ outs) to m (inr later) = said_in node clock outs to m later
said_in node clock (Lose seg ∷ outs) to m (inl same) = (let clash : Send to m ≡ Lose seg = same in absurd (cc))
said_in node clock (Lose seg ∷ outs) to m (inr later) = said_in node clock outs to m later
said_in node clock (Does act ∷ outs) to m (inl same) = (let clash : Send to m ≡ Does act = same in absurd (cc))
said_in node clock (Does act ∷ outs) to m (inr later) = said_in node clock outs to m later

-- ---- an event of a node

abbrev AnySo : Acted → AnyNode → Type 0
AnySo acted (any.Client node) = Unit {0}
AnySo acted (any.Manager node) = Unit {0}
AnySo acted (any.Server node) = Unit {0}
AnySo acted (any.Cleaner node) = So acted node.phase
AnySo acted (any.Registry node) = Unit {0}

any_more : (acted more : Acted) → ((name : SegName) → acted name → more name) → (x : AnyNode) → AnySo acted x → AnySo more x
any_more acted more sub (any.Client node) h = tt
any_more acted more sub (any.Manager node) h = tt
any_more acted more sub (any.Server node) h = tt
any_more acted more sub (any.Cleaner node) h = so_more acted more sub node.phase h
any_more acted more sub (any.Registry node) h = tt

abbrev NotCleaner : NodeId → Type 0
NotCleaner Cleaner = ⊥
NotCleaner _ = Unit {0}

not_it : Unit {0}
not_it = tt

-- a packet that deletes nothing
not_deleting : (acted : Acted) (b : Body) → ((m : Delete) → b ≡ body.Delete m → ⊥) → BodySo acted b
not_deleting acted (body.Delete m) none = absurd (none m refl)
not_deleting acted _ none = tt

-- what another node sends deletes nothing
others_so : (acted : Acted) (node : NodeId) → (node ≡ Cleaner → ⊥) → (clock : ℕ) (outs : List Effect)
    → ((p : Packet) (m : Delete) → In p (map (sent_at clock) (packets_of node outs)) → p.body ≡ body.Delete m → p.from ≡ Cleaner)
    → AllByRecursion (λ (p : Packet). BodySo acted p.body) (map (sent_at clock) (packets_of node outs))
others_so acted node other clock [] alone = tt
others_so acted node other clock (Send to b ∷ outs) alone = (
  not_deleting acted b (λ m same. other (alone (record { from = node; to = to; clock = clock; body = b }) m (inl refl) same)),
  others_so acted node other clock outs (λ p m among same. alone p m (inr among) same),
)
others_so acted node other clock (Answers item answer ∷ outs) alone = others_so acted node other clock outs alone
others_so acted node other clock (Lose seg ∷ outs) alone = others_so acted node other clock outs alone
others_so acted node other clock (Does act ∷ outs) alone = others_so acted node other clock outs alone

module _ (moves : CleanerEventsAreMoves) where
  -- what a node's event leaves of it, and what it sends
  record Turned (acts : List Act) (x : AnyNode) (what : Do) (clock : ℕ) : Type 0 where
    node : AnySo (by (acts ++ (any_step x what).acts)) (any_step x what).node
    packets : AllByRecursion (λ (p : Packet). BodySo (by (acts ++ (any_step x what).acts)) p.body) (map (sent_at clock) (any_step x what).packets)

  turned : (acts : List Act) (x : AnyNode) (what : Do) (clock : ℕ) → AnySo (by acts) x
      → ((p : Packet) (m : Delete) → In p (map (sent_at clock) (any_step x what).packets) → p.body ≡ body.Delete m → p.from ≡ Cleaner)
      → Turned acts x what clock
  turned acts (any.Client node) what clock h alone = record {
    node = tt;
    packets = others_so (by (acts ++ (any_step (any.Client node) what).acts)) (Client (clients.lasting_of node.phase).number)
        (λ same. subst NotCleaner same not_it) clock (clients.takes node what).outs alone;
  }
  turned acts (any.Manager node) what clock h alone = record {
    node = tt;
    packets = others_so (by (acts ++ (any_step (any.Manager node) what).acts)) (Manager (managers.lasting_of node.phase).number)
        (λ same. subst NotCleaner same not_it) clock (manager_happens node what).outs alone;
  }
  turned acts (any.Server node) what clock h alone = record {
    node = tt;
    packets = others_so (by (acts ++ (any_step (any.Server node) what).acts)) (Server node.number) (λ same. subst NotCleaner same not_it) clock
        (servers.takes node what).outs alone;
  }
  turned acts (any.Registry node) what clock h alone = record {
    node = tt;
    packets = others_so (by (acts ++ (any_step (any.Registry node) what).acts)) Registry (λ same. subst NotCleaner same not_it) clock
        (registries.takes node what).outs alone;
  }
  turned acts (any.Cleaner node) what clock h alone =
      let d : Went_to = takes node.peers node.phase what in
      let g = event_goes moves (by acts) node what h in
      let all : Acted = by (acts ++ acts_of Cleaner d.outs) in
      let joined : (name : SegName) → Also (by acts) d.outs name → all name = joins d.outs in
      record {
        node = so_more (Also (by acts) d.outs) all joined d.state g.state;
        packets = packets_so Cleaner clock all d.outs
            (all_weaker (EffectSo (Also (by acts) d.outs)) (EffectSo all) (effects_more (Also (by acts) d.outs) all joined) d.outs g.effects);
      }
    where
      joins : (outs : List Effect) (name : SegName) → Also (by acts) outs name → by (acts ++ acts_of Cleaner outs) name
      joins outs name (inl before) = in_front acts (acts_of Cleaner outs) (Dropped name) before
      joins outs name (inr now) = in_back acts (acts_of Cleaner outs) (Dropped name) (did Cleaner outs name now)

      effects_more : (acted more : Acted) → ((name : SegName) → acted name → more name) → (e : Effect) → EffectSo acted e → EffectSo more e
      effects_more acted more sub (Send to m) k = body_more acted more sub m k
      effects_more acted more sub (Answers item answer) k = tt
      effects_more acted more sub (Lose seg) k = tt
      effects_more acted more sub (Does act) k = tt

  -- ---- an event of the world

  record Good (nodes : List AnyNode) (sent : List Packet) (acts : List Act) : Type 0 where
    all : AllByRecursion (AnySo (by acts)) nodes
    packets : AllByRecursion (λ (p : Packet). BodySo (by acts) p.body) sent

  abbrev GoodWorld : World AnyNode → Type 0
  GoodWorld w = Good w.nodes w.sent w.acts

  got : {X : Type 0} (P : X → Type 0) (xs : List X) (place : ℕ) (x : X) → AllByRecursion P xs → slice_get xs place ≡ Some x → P x
  got P [] place x all fact = (let clash : None ≡ Some x = fact in absurd (cc))
  got P (y ∷ xs) zero x all fact = subst P (ap (λ o. of o y) fact) all.0
    where
      of : {Y : Type 0} → Option Y → Y → Y
      of None other = other
      of (Some z) other = z
  got P (y ∷ xs) (suc place) x all fact = got P xs place x all.1 fact

  event_keeps : (w : World AnyNode) (event : Event) → OnlyTheCleanerDeletes (next_world any_step w event).sent → GoodWorld w → GoodWorld (next_world any_step w event)
  event_keeps w event alone good =
      next_keeps any_step (λ nodes sent acts. OnlyTheCleanerDeletes sent → Good nodes sent acts) w event (λ _. good)
      (λ place x clock at fact alone. (let t = turned w.acts x (what_of event) clock (got (AnySo (by w.acts)) w.nodes place x good.all fact)
      (λ p m among same. alone p m (in_back w.sent _ p among) same) in
      let more : (name : SegName) → by w.acts name → by (w.acts ++ (any_step x (what_of event)).acts) name =
      λ name before. in_front w.acts (any_step x (what_of event)).acts (Dropped name) before in
      record {
        all = all_put (AnySo (by (w.acts ++ (any_step x (what_of event)).acts))) w.nodes place (any_step x (what_of event)).node t.node
            (all_weaker (AnySo (by w.acts)) (AnySo (by (w.acts ++ (any_step x (what_of event)).acts)))
            (any_more (by w.acts) (by (w.acts ++ (any_step x (what_of event)).acts)) more) w.nodes good.all);
        packets = all_append (λ (p : Packet). BodySo (by (w.acts ++ (any_step x (what_of event)).acts)) p.body) w.sent _
            (all_weaker (λ (p : Packet). BodySo (by w.acts) p.body) (λ (p : Packet). BodySo (by (w.acts ++ (any_step x (what_of event)).acts)) p.body)
            (λ p k. body_more (by w.acts) (by (w.acts ++ (any_step x (what_of event)).acts)) more p.body k) w.sent good.packets)
            t.packets;
      }))
      alone

  -- ---- what the cleaner drops in an event

  act_told : (sent : List Packet) (outs : List Effect) → ((name : SegName) → IsSaid outs name → Deletes name sent) → (act : Act)
      → ActSaidIn outs act → (name : SegName) → Dropped name ≡ act → Deletes name sent
  act_told sent outs told act said name same = told name (subst (λ (a : Act). ActSaidIn outs a) (sym same) said)

  -- the acts of what the cleaner does
  all_told : (sent : List Packet) (all : List Effect) → ((name : SegName) → IsSaid all name → Deletes name sent) → (outs : List Effect)
      → AllByRecursion (EffectSaid all) outs → (name : SegName) → In (Dropped name) (acts_of Cleaner outs) → Deletes name sent
  all_told sent all told [] said name h = absurd h
  all_told sent all told (Send to m ∷ outs) said name h = all_told sent all told outs said.1 name h
  all_told sent all told (Answers item answer ∷ outs) said name (inl same) = (let clash : Dropped name ≡ Answered Cleaner item answer = same in absurd (cc))
  all_told sent all told (Answers item answer ∷ outs) said name (inr later) = all_told sent all told outs said.1 name later
  all_told sent all told (Lose seg ∷ outs) said name (inl same) = (let clash : Dropped name ≡ Lost Cleaner seg = same in absurd (cc))
  all_told sent all told (Lose seg ∷ outs) said name (inr later) = all_told sent all told outs said.1 name later
  all_told sent all told (Does act ∷ outs) said name (inl same) = act_told sent all told act said.0 name same
  all_told sent all told (Does act ∷ outs) said name (inr later) = all_told sent all told outs said.1 name later

  -- what it sends in the event tells a server of each
  told_so : (w : World AnyNode) (x : AnyNode) (what : Do) (clock : ℕ) → ((node : CleanerNode) → x ≡ any.Cleaner node → So (by w.acts) node.phase)
      → (is_cleaner : (node : CleanerNode) × (x ≡ any.Cleaner node)) → (name : SegName) → In (Dropped name) (any_step x what).acts
      → Deletes name (w.sent ++ map (sent_at clock) (any_step x what).packets)
  told_so w x what clock so is_cleaner name among =
      subst (λ z. In (Dropped name) (any_step z what).acts → Deletes name (w.sent ++ map (sent_at clock) (any_step z what).packets))
      (sym is_cleaner.1) its among
    where
      node : CleanerNode
      node = is_cleaner.0

      outs : List Effect
      outs = (takes node.peers node.phase what).outs

      its : In (Dropped name) (acts_of Cleaner outs) → Deletes name (w.sent ++ map (sent_at clock) (packets_of Cleaner outs))
      its acted =
          all_told _ outs (λ n said.
          let s = said_in Cleaner clock outs said.to (body.Delete (record { name = n })) said.among in
          (s.0, in_back w.sent _ s.0 s.1, s.2))
          outs (event_goes moves (by w.acts) node what (so node is_cleaner.1)).said name acted

  module _ (laws : NodeLaws) (e : Estate AnyNode) (setup : IsSetup e.script.setup) (run : IsRun any_step any_start e.script e.events e.world) where
    abbrev k : Cluster
    k = cluster_of e.script.setup

    -- who tells a server to delete a segment is the cleaner
    sender : (s : Scene) (from to : NodeId) (m : Delete) → SentBy k 0 s from to (body.Delete m) → from ≡ Cleaner
    sender s (Client c) to m h = absurd h.2
    sender s (Manager j) to m h = absurd h.2
    sender s (Server v) to m h = absurd h
    sender s Cleaner to m h = refl
    sender s Registry to m h = absurd h

    alone : (count : ℕ) → OnlyTheCleanerDeletes (moment e count).sent
    alone count p m among same =
        let stands = (front laws e setup run count 0 (omega arith)).1 in
        sender stands.0 p.from p.to m (subst (SentBy k 0 stands.0 p.from p.to) same (stands.1.facts p among))

    first_all : (script : _) (ids : List NodeId) → AllByRecursion (AnySo (by [])) (map (first_node any_start script) ids)
    first_all script [] = tt
    first_all script (id ∷ ids) = (first_one id _, first_all script ids)
      where
        first_one : (id : NodeId) (items : List Work) → AnySo (by []) (any_start id script.setup items)
        first_one (Client c) items = tt
        first_one (Manager j) items = tt
        first_one (Server v) items = tt
        first_one Cleaner items = tt
        first_one Registry items = tt

    starts : GoodWorld (start_world any_start e.script)
    unfolding start_world
    starts = record { all = first_all e.script (nodes_of k); packets = tt }

    next_good : (count : ℕ) → GoodWorld (moment e count) → GoodWorld (moment e (suc count))
    next_good count good = by_event (slice_get e.events count) refl
      where
        by_event : (o : Option Event) → slice_get e.events count ≡ o → GoodWorld (moment e (suc count))
        by_event None fact = subst GoodWorld (sym (moment_past e count fact)) good
        by_event (Some event) fact =
            let same = moment_next e count event fact in
            subst GoodWorld (sym same) (event_keeps (moment e count) event (subst (λ (w : World AnyNode). OnlyTheCleanerDeletes w.sent) same (alone (suc count))) good)

    good_at : (count : ℕ) → GoodWorld (moment e count)
    good_at zero = subst GoodWorld (sym (moment_first e)) starts
    good_at (suc count) = next_good count (good_at count)

    -- ---- the laws

    packet_at : (acted : Acted) (sent : List Packet) (p : Packet) → AllByRecursion (λ (q : Packet). BodySo acted q.body) sent → In p sent → BodySo acted p.body
    packet_at acted [] p all among = absurd among
    packet_at acted (q ∷ sent) p all (inl same) = subst (λ (x : Packet). BodySo acted x.body) (sym same) all.0
    packet_at acted (q ∷ sent) p all (inr later) = packet_at acted sent p all.1 later

    dropped_at : (count : ℕ) → DeletedWasDropped (moment e count)
    dropped_at count name told =
        let w = moment e count in
        subst (BodySo (by w.acts)) told.2 (packet_at (by w.acts) w.sent told.0 (good_at count).packets told.1)

    told_at : (count : ℕ) → DroppedIsTold e count
    told_at count event at cleaner name among =
        subst (λ (w : World AnyNode). Deletes name w.sent) (sym (moment_next e count event at))
        (next_keeps any_step Told w event (λ acted. absurd (none_new acted)) turns among)
      where
        w : World AnyNode
        w = moment e count

        Told : List AnyNode → List Packet → List Act → Type 0
        Told nodes sent acts = In (Dropped name) (drop (length w.acts) acts) → Deletes name sent

        none_new : In (Dropped name) (drop (length w.acts) w.acts) → ⊥
        none_new acted = subst (λ acts. In (Dropped name) acts) (drop-length w.acts) acted

        turns : (place : ℕ) (node : AnyNode) (clock : ℕ) → place_of w.cluster (node_of event) ≡ Some place → slice_get w.nodes place ≡ Some node
            → Told (slice_set w.nodes place (any_step node (what_of event)).node) (w.sent ++ map (sent_at clock) (any_step node (what_of event)).packets)
            (w.acts ++ (any_step node (what_of event)).acts)
        turns place x clock placed there acted =
            told_so w x (what_of event) clock
            (λ node same. subst (AnySo (by w.acts)) same (got (AnySo (by w.acts)) w.nodes place x (good_at count).all there))
            (is_cleaner place x placed there) name
            (subst (λ acts. In (Dropped name) acts) (drop-append_seam w.acts (any_step x (what_of event)).acts) acted)
          where
            is_cleaner : (place : ℕ) (x : AnyNode) → place_of w.cluster (node_of event) ≡ Some place → slice_get w.nodes place ≡ Some x
                → (node : CleanerNode) × (x ≡ any.Cleaner node)
            is_cleaner place x placed there =
                let f = front laws e setup run count 0 (omega arith) in
                let named = ap (node_in w.nodes) (subst (λ c. place_of c Cleaner ≡ Some place) f.0 (subst (λ n. place_of w.cluster n ≡ Some place) cleaner placed))
                ∙ there in
                (f.1.0.cleaner, same_any x (any.Cleaner f.1.0.cleaner) (sym named ∙ f.1.1.placed.cleaner))

  pub every_run : NodeLaws → EveryRunDropsWhatItDeletes
  every_run laws e setup run = record { alone = alone laws e setup run; dropped = dropped_at laws e setup run; told = told_at laws e setup run }
