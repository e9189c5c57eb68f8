-- What a moment that stands to the small worlds says of logs: each segment that was told to be filed is whole, and each name has one text.
use Rattle.std.proofs.Common.{◌≡◌, ◌⊎◌, ⊎_elim, ℕ, ◌==◌, ◌<◌, true, false, List, [], ◌∷◌, Option, None, Some, length, inl, inr, refl, sym, ap, subst, ◌∙◌}
use Rattle.node_logs.specs.client_log_tie.Owner.{Scene}
use Rattle.core_world.specs.declared.any_node.AnyNode.{AnyNode}
use Rattle.core_world.specs.declared.any_node.AnyNode.TheVariants as any
use Rattle.fragment_store.specs.ShelfState.{ShelfState, held_at}
use Rattle.group_map.specs.declared.group.Group.{Group}
use Rattle.group_map.specs.WellFormed.{IsServer}
use Rattle.log_flight.specs.Flights.{generation_of, no_member, server_of}
use Rattle.log_law.specs.Laws.{LogsStayWhole, LogsWhole, OneNameOneText, OneText}
use Rattle.log_law.specs.Net.{Net}
use Rattle.log_protocol.specs.Tables as tables
use Rattle.log_tie.specs.Setting.{Setting, Stripe, fragment_of, fragment_over, stripe_of_group}
use Rattle.log_tie.specs.Shelves.{is_of_log}
use Rattle.node_logs.proofs.node_log_tie.WholeMaps.{its_stripe}
use Rattle.node_logs.specs.node_log_tie.RegistryEvents.{RegistrySeen}
use Rattle.node_logs.specs.node_log_tie.ServerEvents.{ServerSeen}
use Rattle.node_logs.specs.node_log_tie.Sight.{BodySeen}
use Rattle.segment_format.specs.declared.segment.Segment.{Segment}
use Rattle.registry_node.specs.declared.node.RegistryNode.{RegistryNode}
use Rattle.store_nodes.specs.declared.server.Server.{Server as ServerNode}
use Rattle.token_protocol.specs.Basics.{In}
use Rattle.version_model.specs.declared.act.Act.{Act}
use Rattle.version_model.specs.declared.act.Act.TheVariants as act
use Rattle.wire_msg.specs.declared.body.Body.{Body}
use Rattle.wire_msg.specs.declared.body.Body.TheVariants as body
use Rattle.wire_msg.specs.declared.packet.Packet.{Packet}
use Rattle.world_base.specs.Cluster.{place_of}
use Rattle.world_base.specs.declared.cluster.Cluster.{Cluster}
use Rattle.world_base.specs.declared.world.World.{World}
use Rattle.world_base.specs.Runs.{WasSent}
use Rattle.run_laws.proofs.world_law.Laws.{one_node}
use Rattle.run_laws.proofs.world_law.OtherTurns.{equal_or_not}
use Rattle.run_laws.proofs.world_law.Sent.{was_sent}
use Rattle.headline.specs.Moments.{node_in, node_named}
use Rattle.run_laws.proofs.world_logs.Lists.{in_was}
use Rattle.run_laws.specs.world_logs.Roles.{asker_by}
use Rattle.headline.specs.Logs.{Role, log_by}
use Rattle.run_laws.proofs.world_logs.Settings.{striped}
use Rattle.run_laws.specs.world_logs.Settings.{setting_of, stripe_by}
use Rattle.run_laws.specs.world_logs.Standing.{Stands}
use Rattle.headline.specs.Segments.{IsText, IsWhole, NotDeleted, log_of}
use Rattle.group_map.specs.Groups.{known_group as group_in}
use Rattle.headline.specs.Servers.{HoldsOrLost, IsKept, group_at, groups_of, piece, shelf_at, shelf_of}
use Rattle.xfs_base.specs.declared.fragment.Fragment.{Fragment}
use Rattle.xfs_base.specs.declared.node.NodeId.{NodeId}
use Rattle.xfs_base.specs.declared.node.NodeId.TheVariants.{Server, Registry}
use Rattle.xfs_base.specs.declared.segment.LogId.{LogId}
use Rattle.xfs_base.specs.declared.segment.SegName.{SegName}
use Rattle.xfs_base.proofs.Booleans.{equal_itself}

-- ---- lists and names

decide : (a b : SegName) → (a ≡ b) ⊎ (a ≡ b → ⊥)
decide a b = ⊎_elim
    (λ l. ⊎_elim
    (λ s. ⊎_elim
    (λ i. ⊎_elim (λ t. inl (λ j. record { log = record { 0 = l j }; seq = s j; pass = record { inc = i j; att = t j } }))
    (λ no. inr (λ e. no (ap (λ (n : SegName). n.pass.att) e)))
    (equal_or_not a.pass.att b.pass.att))
    (λ no. inr (λ e. no (ap (λ (n : SegName). n.pass.inc) e))) (equal_or_not a.pass.inc b.pass.inc))
    (λ no. inr (λ e. no (ap (λ (n : SegName). n.seq) e))) (equal_or_not a.seq b.seq))
    (λ no. inr (λ e. no (ap (λ (n : SegName). n.log.0) e))) (equal_or_not a.log.0 b.log.0)

-- a segment of this name, or none
pub look : (name : SegName) (xs : List Segment) → ((s : Segment) × tables.In s xs × (s.name ≡ name)) ⊎ ((s : Segment) → tables.In s xs → s.name ≡ name → ⊥)
look name [] = inr (λ s fact e. fact)
look name (x ∷ xs) = ⊎_elim (λ e. inl (x, inl refl, e))
    (λ no. ⊎_elim (λ (f : (s : Segment) × tables.In s xs × (s.name ≡ name)). inl (f.0, inr f.1, f.2))
    (λ none. inr (λ s fact e. ⊎_elim (λ same. no (ap (λ (z : Segment). z.name) (sym same) ∙ e)) (λ later. none s later e) fact)) (look name xs))
    (decide x.name name)

-- a server that has a shelf
record HasShelf (x : Option AnyNode) (shelf : ShelfState) : Type 0 where
  node : ServerNode
  kind : x ≡ Some (any.Server node)
  its : node.shelf ≡ shelf

has_shelf : (x : Option AnyNode) (shelf : ShelfState) → shelf_of x ≡ Some shelf → HasShelf x shelf
has_shelf None shelf fact = absurd cc
has_shelf (Some (any.Client node)) shelf fact = absurd cc
has_shelf (Some (any.Manager node)) shelf fact = absurd cc
has_shelf (Some (any.Server node)) shelf fact = record { node = node; kind = refl; its = one_node node.shelf shelf fact }
has_shelf (Some (any.Cleaner node)) shelf fact = absurd cc
has_shelf (Some (any.Registry node)) shelf fact = absurd cc

-- ---- a moment

module _ (base : Setting) (end w : World AnyNode) (servers : ℕ) (r : Role) (k : Cluster) (cluster : w.cluster ≡ k) (v : Scene) (told : List Act)
    (st : Stands (setting_of base end servers r) r v k w.nodes w.sent told) where
  abbrev c : ℕ
  c = log_by r

  abbrev g : Setting
  g = setting_of base end servers r

  abbrev net : Net
  net = v.net

  -- the node of a name stands there as it is seen
  here : (name : NodeId) (x : AnyNode) → node_named w name ≡ Some x → node_in w.nodes (place_of k name) ≡ Some x
  here name x fact = subst (λ cl. node_in w.nodes (place_of cl name) ≡ Some x) cluster fact

  shelf_is : (u : ℕ) (shelf : ShelfState) → shelf_at w u ≡ Some shelf → net.shelves u ≡ shelf
  shelf_is u shelf fact =
      let h : HasShelf (node_named w (Server u)) shelf = has_shelf (node_named w (Server u)) shelf fact in
      let seen : ServerSeen g net u h.node = st.seen (Server u) (any.Server h.node) (here (Server u) (any.Server h.node) h.kind) in
      seen.shelf ∙ h.its

  -- ---- the text of one segment

  -- whatever is of this name is a fragment of the one segment of the name, as it is cut for a group
  module _ (law : OneNameOneText) (name : SegName) (of : name.log ≡ log_of c) (its : Segment)
      (only : (t : Segment) → tables.In t net.flown → t.name ≡ name → t ≡ its)
      (group : Group) (cut_so : (i : ℕ) → fragment_of g its i ≡ piece its group i) where
    one : OneText g net
    one = law g net st.moment

    -- a fragment of a segment of this name is one of this segment
    of_it : (f : Fragment) (t : Segment) → tables.In t net.flown → t.name ≡ name → f ≡ fragment_of g t f.meta.index
        → f ≡ piece its group f.meta.index
    of_it f t fact e cut = cut ∙ ap (λ (z : Segment). fragment_of g z f.meta.index) (only t fact e) ∙ cut_so f.meta.index

    named_so : (f : Fragment) (t : Segment) → f ≡ fragment_of g t f.meta.index → f.meta.name ≡ name → t.name ≡ name
    named_so f t cut e = ap (λ (z : Fragment). z.meta.name) (sym cut) ∙ e

    ours : (n : SegName) → n ≡ name → is_of_log g n ≡ true
    ours n e = subst (λ (z : SegName). is_of_log g z ≡ true) (sym e) (subst (λ (l : LogId). (l.0 == c) ≡ true) (sym of) (equal_itself c))

    seen_as : (packet : Packet) (m : Body) (to : NodeId) → WasSent w.sent packet → packet.to ≡ to → packet.body ≡ m
        → BodySeen g (asker_by r v) net packet.from to m
    seen_as packet m to was at fact =
        subst (BodySeen g (asker_by r v) net packet.from to) fact
        (subst (λ t. BodySeen g (asker_by r v) net packet.from t packet.body) at (st.facts packet (was_sent w.sent packet was)))

    text : IsText w name its group
    text = record {
      held = λ u shelf f at fact.
          (let t = one.held u name f of (subst (λ (s : ShelfState). held_at s.held name ≡ Some f) (sym (shelf_is u shelf at)) fact) in of_it f t.0 t.1 t.2 t.3);
      stored = λ u packet m was to fact e.
          (let t = one.stored u m.generation m.fragment (seen_as packet (body.Store m) (Server u) was to fact (ours m.fragment.meta.name e)) in
          of_it m.fragment t.0 t.1 (named_so m.fragment t.0 t.2 e) t.2);
      told = λ packet m was fact e. (let t = one.told m.fragment (seen_as packet (body.Fragment m) packet.to was refl fact (ours m.fragment.meta.name e)) in
          of_it m.fragment t.0 t.1 (named_so m.fragment t.0 t.2 e) t.2);
    }

  -- ---- whole

  module _ (law : LogsStayWhole) (texts : OneNameOneText)
      (exist : (id : ℕ) (group : Group) → group_at end id ≡ Some group → (place : ℕ) → place < length group.members
      → (shelf : ShelfState) × (shelf_at w (server_of group.members place) ≡ Some shelf)) (name : SegName) (fact : In (act.Filed name) told)
      (kept : NotDeleted w name) where
    all : LogsWhole g net
    all = law g net st.moment

    filed : tables.In name net.filed
    filed = st.filed name fact

    abbrev its : (s : Segment) × tables.In s net.flown × (s.name ≡ name)
    its = all.flown name filed

    abbrev segment : Segment
    segment = its.0

    abbrev grouped : (group : Group) × (group_at end segment.group ≡ Some group)
    grouped = striped base end servers (group_at end segment.group) (all.striped segment its.1)

    abbrev group : Group
    group = grouped.0

    undropped : tables.In segment.name net.dropped → ⊥
    undropped d = (let o = st.deleted segment.name d in kept o.0 (record { name = segment.name }) (in_was w.sent o.0 o.1) o.2 its.2)

    -- what one member has, over a stripe
    abbrev HasOver : Stripe → ℕ → Type 0
    HasOver s place = (held_at (net.shelves (server_of s.members place)).held segment.name ≡ Some (fragment_over segment s place))
        ⊎ (generation_of s.members place < (net.shelves (server_of s.members place)).generation)

    members : (place : ℕ) → place < length group.members → HasOver (stripe_of_group group) place
    members = subst (λ (s : Stripe). (place : ℕ) → place < length s.members → HasOver s place) (ap stripe_by grouped.1)
        (all.whole segment its.1 (subst (λ n. tables.In n net.filed) (sym its.2) filed) undropped)

    member : IsKept w segment group
    member place below =
        let x = exist segment.group group grouped.1 place below in
        let same : net.shelves (server_of group.members place) ≡ x.0 = shelf_is (server_of group.members place) x.0 x.1 in
        subst (HoldsOrLost segment group place) (sym x.1)
        (subst (λ (s : ShelfState). (held_at s.held segment.name ≡ Some (piece segment group place)) ⊎ (generation_of group.members place < s.generation)) same
        (members place below))

    -- it is the one segment of the name
    its_text : name.log ≡ log_of c → IsText w name segment group
    its_text of =
        text texts name of segment (λ t fact e. (texts g net st.moment).one t segment fact its.1 (e ∙ sym its.2)) group
        (λ i. ap (λ (s : Stripe). fragment_over segment s i) (ap stripe_by grouped.1))

    pub is_whole : IsWhole end w c name
    is_whole = record { segment = segment; named = its.2; group = group; striped = grouped.1; kept = member; text = its_text }

  -- ---- one text

  module _ (law : OneNameOneText) (name : SegName) (of : name.log ≡ log_of c) where
    -- the segment of the name, where there is one
    abbrev picked : (s : Segment) × ((t : Segment) → tables.In t net.flown → t.name ≡ name → t ≡ s)
    picked = ⊎_elim (λ (f : (s : Segment) × tables.In s net.flown × (s.name ≡ name)). (f.0, λ t fact e. (law g net st.moment).one t f.0 fact f.1 (e ∙ sym f.2)))
        (λ none. (
          record { name = name; prior = record { pass = record { inc = 0; att = 0 }; group = 0 }; group = 0; items = [] },
          λ t fact e. absurd (none t fact e),
        )) (look name net.flown)

    abbrev segment_here : Segment
    segment_here = picked.0

    abbrev group_here : Group
    group_here = record {
      id = segment_here.group;
      members = (g.stripe segment_here.group).members;
      parity = (g.stripe segment_here.group).parity;
      current = false;
    }

    pub has_text : (segment : Segment) × (group : Group) × IsText w name segment group
    has_text = (segment_here, group_here, text law name of segment_here picked.1 group_here (λ i. refl))

  -- ---- the text of what flew

  -- a segment that was in flight is the one of its name, cut for its group
  module _ (law : LogsStayWhole) (texts : OneNameOneText) (s : Segment) (flew : tables.In s net.flown) (of : s.name.log ≡ log_of c) where
    abbrev its_group : (group : Group) × (group_at end s.group ≡ Some group)
    its_group = striped base end servers (group_at end s.group) ((law g net st.moment).striped s flew)

    pub flown_text : IsText w s.name s its_group.0
    flown_text =
        text texts s.name of s (λ t fact e. (texts g net st.moment).one t s fact flew e) its_group.0
        (λ i. ap (λ (z : Stripe). fragment_over s z i) (ap stripe_by its_group.1))

  pub what_flew_is_text : LogsStayWhole → OneNameOneText → (s : Segment) → tables.In s net.flown → s.name.log ≡ log_of c
      → (group : Group) × (group_at end s.group ≡ Some group) × IsText w s.name s group
  what_flew_is_text law texts s flew of = (
    (its_group law texts s flew of).0,
    (its_group law texts s flew of).1,
    flown_text law texts s flew of,
  )

  -- ---- the registry's groups

  -- each member of a group of the registry's is a server of the run
  pub members_exist : (b : RegistryNode) → node_in w.nodes (place_of k Registry) ≡ Some (any.Registry b) → (id : ℕ) (group : Group)
      → group_at w id ≡ Some group → (place : ℕ) → place < length group.members
      → IsServer servers (server_of group.members place)
  members_exist b at id group fact place below =
      let seen : RegistrySeen g net b.board = st.seen Registry (any.Registry b) at in
      let named : node_named w Registry ≡ Some (any.Registry b) =
      subst (λ cl. node_in w.nodes (place_of cl Registry) ≡ Some (any.Registry b)) (sym cluster) at in
      let found = ap (λ o. group_in (groups_of o) id) (sym named) ∙ fact in
      subst (λ n. IsServer n (server_of group.members place)) seen.size ((its_stripe b.board.groups seen.map id group found).exist place no_member below)
