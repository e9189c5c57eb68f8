-- One event of the world: what the node that has its turn holds came, and so did what all others hold; and the maps that are sent are so.
use Rattle.std.proofs.Common.{◌≡◌, ◌⊎◌, ⊎_elim, ℕ, List, [], ◌++◌, Some, map, slice_get, slice_set, inl, inr, refl, sym, ap, subst, ◌∙◌}
use Rattle.core_world.specs.AnyNode.{any_start, any_step}
use Rattle.core_world.specs.declared.any_node.AnyNode.{AnyNode}
use Rattle.core_world.specs.declared.any_node.AnyNode.TheVariants as any
use Rattle.group_map.specs.GroupMapState.{GroupMapState}
use Rattle.group_map.specs.Groups as groups
use Rattle.node_logs.proofs.node_log_tie.Others.{same_or_other}
use Rattle.token_protocol.specs.Basics.{In}
use Rattle.version_model.specs.declared.work.Work.{Work}
use Rattle.wire_msg.specs.declared.packet.Do.{Do}
use Rattle.wire_msg.specs.declared.packet.Do.TheVariants as done
use Rattle.wire_msg.specs.declared.packet.Packet.{Packet}
use Rattle.world_base.specs.Cluster.{place_of}
use Rattle.world_base.specs.declared.cluster.Cluster.{Cluster}
use Rattle.world_base.specs.declared.event.Event.{Event}
use Rattle.world_base.specs.declared.event.Event.TheVariants.{Begin, Deliver, Tick}
use Rattle.world_base.specs.declared.world.World.{World}
use Rattle.world_base.specs.Events.{node_of, what_of}
use Rattle.world_base.specs.NextWorld.{next_world, sent_at}
use Rattle.world_base.specs.Runs.{MayHappen}
use Rattle.run_laws.proofs.world_law.Laws.{one_node}
use Rattle.run_laws.proofs.world_law.Nodes as places
use Rattle.run_laws.proofs.world_law.Sent.{in_append, was_sent}
use Rattle.run_laws.proofs.world_law.Turning.{next_keeps}
use Rattle.headline.specs.Moments.{node_in}
use Rattle.run_laws.proofs.world_logs.Lists.{in_after, in_before}
use Rattle.run_laws.proofs.world_logs.Says.{MaySay}
use Rattle.headline.specs.Servers.{groups_of}
use Rattle.xfs_base.specs.declared.node.NodeId.{NodeId}
use Rattle.xfs_base.specs.declared.node.NodeId.TheVariants as nodes
use Rattle.xfs_base.specs.declared.setup.Setup.{Setup}
use Rattle.run_laws.specs.Kinds.{OfKind}
use Rattle.run_laws.specs.reading_law.Readings.{AnyHolds}
use Rattle.run_laws.proofs.reading_law.Maps.{KindOf, kind_stays, new_maps}
use Rattle.node_tellings.specs.reading_tie.Arrivals.{Cuts, cut_by, BodyMaps, DoSent}
use Rattle.node_tellings.specs.reading_tie.Came.{MapStriped}
use Rattle.node_tellings.specs.reading_tie.CleanerMeets.{IsSent, CleanerStartsMet, CleanerMeetsRise, CleanerEventsMeet}
use Rattle.node_tellings.specs.reading_tie.CleanerReads.{CleanerStarts, CleanerHoldsRise, CleanerEventsKeep}
use Rattle.node_tellings.specs.reading_tie.ClientReads.{ClientStarts, ClientHoldsRise, ClientEventsKeep}
use Rattle.node_tellings.specs.reading_tie.ManagerReads.{ManagerStarts, ManagerHoldsRise, ManagerEventsKeep}

-- the laws of the nodes, each of its kind
pub record NodeLaws : Type 0 where
  pub client : OfKind ClientStarts ClientHoldsRise ClientEventsKeep
  pub manager : OfKind ManagerStarts ManagerHoldsRise ManagerEventsKeep
  pub cleaner : OfKind CleanerStarts CleanerHoldsRise CleanerEventsKeep
  pub met : OfKind CleanerStartsMet CleanerMeetsRise CleanerEventsMeet

module _ (laws : NodeLaws) (cuts : Cuts) where
  pub any_starts : (name : NodeId) (setup : Setup) (items : List Work) → MapStriped (cut_by cuts) (groups.group_map_start setup.servers setup.groups)
      → AnyHolds [] name cuts (any_start name setup items)
  any_starts (nodes.Client c) setup items fact = laws.client.starts [] (nodes.Client c) cuts c setup items fact
  any_starts (nodes.Manager j) setup items fact = laws.manager.starts [] (nodes.Manager j) cuts j setup items fact
  any_starts (nodes.Server v) setup items fact = tt
  any_starts nodes.Cleaner setup items fact =
      record { holds = laws.cleaner.starts [] nodes.Cleaner cuts setup items fact; meets = laws.met.starts [] nodes.Cleaner setup items }
  any_starts nodes.Registry setup items fact = tt

  any_rises : (sent more : List Packet) (name : NodeId) (x : AnyNode) → ((p : Packet) → In p sent → In p more) → AnyHolds sent name cuts x
      → AnyHolds more name cuts x
  any_rises sent more name (any.Client node) grows h = laws.client.stays sent more name cuts node grows h
  any_rises sent more name (any.Manager node) grows h = laws.manager.stays sent more name cuts node grows h
  any_rises sent more name (any.Server node) grows h = tt
  any_rises sent more name (any.Cleaner node) grows h =
      record { holds = laws.cleaner.stays sent more name cuts node grows h.holds; meets = laws.met.stays sent more name node grows h.meets }
  any_rises sent more name (any.Registry node) grows h = tt

  only_sent : (sent : List Packet) (name : NodeId) (what : Do) → DoSent sent name cuts what → IsSent sent name what
  only_sent sent name done.Begin fact = tt
  only_sent sent name (done.Deliver packet) fact = (fact.0, fact.1)
  only_sent sent name done.Tick fact = tt

  any_keeps : (sent : List Packet) (name : NodeId) (x : AnyNode) (what : Do) → DoSent sent name cuts what → AnyHolds sent name cuts x
      → AnyHolds sent name cuts (any_step x what).node
  any_keeps sent name (any.Client node) what fact h = laws.client.events sent name cuts node what h fact
  any_keeps sent name (any.Manager node) what fact h = laws.manager.events sent name cuts node what h fact
  any_keeps sent name (any.Server node) what fact h = tt
  any_keeps sent name (any.Cleaner node) what fact h =
      record { holds = laws.cleaner.events sent name cuts node what h.holds fact; meets = laws.met.events sent name node what h.meets (only_sent sent name what fact) }
  any_keeps sent name (any.Registry node) what fact h = tt

  -- ---- a moment

  -- the node of a name is of its kind, and what it holds came
  pub record NodeSo (sent : List Packet) (name : NodeId) (x : AnyNode) : Type 0 where
    pub kind : KindOf x name
    pub holds : AnyHolds sent name cuts x

  pub record Good (k : Cluster) (all : List AnyNode) (sent : List Packet) : Type 0 where
    pub nodes : (name : NodeId) (x : AnyNode) → node_in all (place_of k name) ≡ Some x → NodeSo sent name x
    pub maps : (q : Packet) → In q sent → BodyMaps cuts q.body

  -- what is known of it besides: who may have sent what, and that the registry's map is so
  pub record Known (k : Cluster) (all : List AnyNode) (sent : List Packet) : Type 0 where
    pub says : (q : Packet) → In q sent → MaySay q.from q.body
    pub registry : (m : GroupMapState) → groups_of (node_in all (place_of k nodes.Registry)) ≡ Some m → MapStriped (cut_by cuts) m

  -- ---- an event

  -- what is delivered was sent, to the node that has its turn
  brought : (w : World AnyNode) (event : Event) → MayHappen w event → ((q : Packet) → In q w.sent → BodyMaps cuts q.body)
      → DoSent w.sent (node_of event) cuts (what_of event)
  brought w (Begin node) may maps = tt
  brought w (Deliver packet) may maps = (let among = was_sent w.sent packet may in (among, refl, maps packet among))
  brought w (Tick node) may maps = tt

  module _ (k : Cluster) (w : World AnyNode) (event : Event) (may : MayHappen w event) (good : Good k w.nodes w.sent) (place : ℕ) (x : AnyNode) (clock : ℕ)
      (at : place_of k (node_of event) ≡ Some place) (fact : slice_get w.nodes place ≡ Some x) where
    abbrev name : NodeId
    name = node_of event

    abbrev y : AnyNode
    y = (any_step x (what_of event)).node

    abbrev new : List Packet
    new = map (sent_at clock) (any_step x (what_of event)).packets

    abbrev later : List AnyNode
    later = slice_set w.nodes place y

    abbrev sent : List Packet
    sent = w.sent ++ new

    grows : (q : Packet) → In q w.sent → In q sent
    grows q h = in_before w.sent new q h

    here : node_in later (place_of k name) ≡ Some y
    here = places.here k w.nodes name place at y x fact

    its : NodeSo w.sent name x
    its = good.nodes name x (ap (node_in w.nodes) at ∙ fact)

    its_turn : NodeSo sent name y
    its_turn = record {
      kind = kind_stays x name (what_of event) its.kind;
      holds = any_rises w.sent sent name y grows (any_keeps w.sent name x (what_of event) (brought w event may good.maps) its.holds);
    }

    node_so : (other : NodeId) (z : AnyNode) → node_in later (place_of k other) ≡ Some z → NodeSo sent other z
    node_so other z found = by (same_or_other other name)
      where
        by : (other ≡ name) ⊎ (other ≡ name → ⊥) → NodeSo sent other z
        by (inl same) =
            let now : node_in later (place_of k name) ≡ Some z = subst (λ n. node_in later (place_of k n) ≡ Some z) same found in
            subst (λ n. NodeSo sent n z) (sym same) (subst (NodeSo sent name) (one_node y z (sym here ∙ now)) its_turn)
        by (inr differs) =
            let was : NodeSo w.sent other z = good.nodes other z (sym (places.there k w.nodes name place at y other differs) ∙ found) in
            record { kind = was.kind; holds = any_rises w.sent sent other z grows was.holds }

    module _ (known : Known k later sent) where
      new_says : (q : Packet) → In q new → MaySay q.from q.body
      new_says q h = known.says q (in_after w.sent new q h)

      own : (m : GroupMapState) → groups_of (Some y) ≡ Some m → name ≡ nodes.Registry → MapStriped (cut_by cuts) m
      own m groups same =
          known.registry m (ap groups_of (subst (λ n. node_in later (place_of k n) ≡ Some y) same here) ∙ groups)

      map_so : (q : Packet) → In q sent → BodyMaps cuts q.body
      map_so q h =
          ⊎_elim (λ (old : In q w.sent). good.maps q old)
          (λ (late : In q new). new_maps cuts x name (what_of event) clock its.kind own new_says q late) (in_append w.sent new q h)

      turned : Good k later sent
      turned = record { nodes = node_so; maps = map_so }

  pub event_keeps : (k : Cluster) (w : World AnyNode) → w.cluster ≡ k → (event : Event) → MayHappen w event → Good k w.nodes w.sent
      → Known k (next_world any_step w event).nodes (next_world any_step w event).sent
      → Good k (next_world any_step w event).nodes (next_world any_step w event).sent
  event_keeps k w cluster event may good known =
      next_keeps any_step (λ all sent acts. Known k all sent → Good k all sent) w event (λ _. good)
      (λ place x clock at fact. turned k w event may good place x clock (subst (λ c. place_of c (node_of event) ≡ Some place) cluster at) fact) known
