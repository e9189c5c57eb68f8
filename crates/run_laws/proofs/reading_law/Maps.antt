-- The maps that are sent are as the registry's map at the end of the run says: the registry alone sends maps, and those are its own.
use Rattle.std.proofs.Common.{◌≡◌, ℕ, ◌+◌, ◌≤◌, true, List, [], ◌∷◌, Option, Some, map, length, inl, inr, refl, sym, ap, subst, ◌∙◌, arith}
use Rattle.std.proofs.lemmas.Bool.Decides.{nat_tests}
use Rattle.std.specs.List.{AllByRecursion}
use Rattle.client_node.specs.Phases as clients
use Rattle.cleaner_node.specs.CleanerEvents as cleaners
use Rattle.core_world.specs.AnyNode.{any_start, any_step}
use Rattle.core_world.specs.declared.any_node.AnyNode.{AnyNode}
use Rattle.core_world.specs.declared.any_node.AnyNode.TheVariants as any
use Rattle.group_map.specs.declared.group.Group.{Group}
use Rattle.group_map.specs.Groups.{group_of}
use Rattle.group_map.specs.GroupMapState.{GroupMapState}
use Rattle.group_map.specs.Sizes.{is_group_size}
use Rattle.group_map.specs.WellFormed as well
use Rattle.group_map.specs.WellFormed.{IsGroupMap}
use Rattle.log_tie.specs.Setting.{Stripe, stripe_of_group}
use Rattle.manager_node.specs.Events as managers
use Rattle.manager_node.specs.Phases.{lasting_of}
use Rattle.node_base.specs.declared.effects.Effect.{Effect}
use Rattle.node_base.specs.declared.effects.Effect.TheVariants.{Send, Answer, Lose, Does}
use Rattle.node_base.specs.Effects.{packets_of}
use Rattle.node_logs.proofs.node_log_tie.WholeMaps.{its_stripe}
use Rattle.node_moves.proofs.registry_moves.Events.{registry_events_are_moves}
use Rattle.node_moves.specs.registry_moves.Moves.{Said}
use Rattle.node_moves.specs.registry_moves.Moves.Said.{TellsMaps, Welcomes}
use Rattle.registry.specs.BoardState.{BoardState}
use Rattle.registry_node.specs.declared.node.RegistryNode.{RegistryNode}
use Rattle.registry_node.specs.Events.{registry_step, takes}
use Rattle.store_nodes.specs.ServerEvents as servers
use Rattle.stripe_code.specs.Stripe.{IsCut}
use Rattle.token_protocol.specs.Basics.{In}
use Rattle.version_model.specs.declared.work.Work.{Work}
use Rattle.wire_msg.specs.declared.body.Body.{Body}
use Rattle.wire_msg.specs.declared.body.Body.TheVariants as body
use Rattle.wire_msg.specs.declared.packet.Do.{Do}
use Rattle.wire_msg.specs.declared.packet.Packet.{Packet}
use Rattle.world_base.specs.declared.world.World.{World}
use Rattle.world_base.specs.NextWorld.{sent_at}
use Rattle.run_laws.proofs.world_logs.Groups.{Names}
use Rattle.run_laws.proofs.world_logs.Says.{MaySay, Plain, SaidByCleaner, SaidByServer}
use Rattle.headline.specs.Servers.{group_at, groups_of}
use Rattle.xfs_base.specs.declared.node.NodeId.{NodeId}
use Rattle.xfs_base.specs.declared.node.NodeId.TheVariants.{Client, Manager, Server, Cleaner, Registry}
use Rattle.xfs_base.specs.declared.setup.Setup.{Setup}
use Rattle.xfs_base.proofs.Alls.{all_weaker}
use Rattle.run_laws.specs.reading_law.Readings.{cut_of, cuts_at}
use Rattle.node_tellings.specs.reading_tie.Arrivals.{Cuts, cut_by, BodyMaps}
use Rattle.node_tellings.specs.reading_tie.Came.{MapStriped}

-- ---- well formed maps

-- a group of a well formed map can be cut
can_cut : (servers : ℕ) (group : Group) → well.IsStripe servers group.parity group.members → IsCut (length group.members) group.parity
can_cut servers group stripe =
    let fits : is_group_size group.parity (length group.members) ≡ true = stripe.size in
    let least : group.parity + 2 ≤ length group.members = grind (arith, nat_tests) in
    let limit : length group.members ≤ 8 = grind (arith, nat_tests) in
    record { some = stripe.one_or_two.0; few = stripe.one_or_two.1; least = least; limit = limit }

-- a map whose groups are those of the end, over the same members, is cut as that
pub map_so : (end : World AnyNode) (m : GroupMapState) → IsGroupMap m
    → ((id : ℕ) (group : Group) → group_of m id ≡ Some group → Names (group_at end id) (stripe_of_group group)) → MapStriped (cut_by (cuts_at end)) m
map_so end m ok stays id group fact =
    let n : Names (group_at end id) (stripe_of_group group) = stays id group fact in
    record {
      cut = can_cut m.servers group (its_stripe m ok id group fact);
      said = (
        sym (ap (λ (o : Option Group). (cut_of o).members) n.named ∙ ap (λ (s : Stripe). length s.members) n.stripe_is),
        sym (ap (λ (o : Option Group). (cut_of o).parity) n.named ∙ ap (λ (s : Stripe). s.parity) n.stripe_is),
      );
    }

-- ---- what is sent

-- what is so of each effect is so of each packet
module _ (node : NodeId) (clock : ℕ) (D : Effect → Type 0) (F : Packet → Type 0)
    (each : (to : NodeId) (said : Body) → D (Send to said) → F (record { from = node; to = to; clock = clock; body = said })) where
  sent_so : (es : List Effect) → AllByRecursion D es → (q : Packet) → In q (map (sent_at clock) (packets_of node es)) → F q
  sent_so [] all q h = absurd h
  sent_so (Send to said ∷ es) all q (inl fact) = subst F (sym fact) (each to said all.0)
  sent_so (Send to said ∷ es) all q (inr later) = sent_so es all.1 q later
  sent_so (Answer item answer ∷ es) all q h = sent_so es all.1 q h
  sent_so (Lose seg ∷ es) all q h = sent_so es all.1 q h
  sent_so (Does act ∷ es) all q h = sent_so es all.1 q h

abbrev Any : Effect → Type 0
Any e = Unit {0}

any_each : (es : List Effect) → AllByRecursion Any es
any_each [] = tt
any_each (e ∷ es) = (tt, any_each es)

-- it bears no map
abbrev NoMap : Body → Type 0
NoMap (body.Welcome m) = ⊥
NoMap (body.MapNews m) = ⊥
NoMap _ = Unit {0}

plain_no_map : (m : Body) → Plain m → NoMap m
plain_no_map (body.Welcome m) h = h
plain_no_map (body.MapNews m) h = h
plain_no_map _ h = tt

servers_no_map : (m : Body) → SaidByServer m → NoMap m
servers_no_map (body.Welcome m) h = h
servers_no_map (body.MapNews m) h = h
servers_no_map _ h = tt

cleaners_no_map : (m : Body) → SaidByCleaner m → NoMap m
cleaners_no_map (body.Welcome m) h = h
cleaners_no_map (body.MapNews m) h = h
cleaners_no_map _ h = tt

module _ (cuts : Cuts) where
  no_map : (m : Body) → NoMap m → BodyMaps cuts m
  no_map (body.Welcome m) h = absurd h
  no_map (body.MapNews m) h = absurd h
  no_map _ h = tt

  -- who may not send maps sends none
  abbrev SendsNone : NodeId → Type 0
  SendsNone from = (m : Body) → MaySay from m → NoMap m

  module _ (node : NodeId) (clock : ℕ) (es : List Effect) (none : SendsNone node) where
    none_sent : ((q : Packet) → In q (map (sent_at clock) (packets_of node es)) → MaySay q.from q.body)
        → (q : Packet) → In q (map (sent_at clock) (packets_of node es)) → BodyMaps cuts q.body
    none_sent says q h =
        let from = sent_so node clock Any (λ (p : Packet). p.from ≡ node) (λ to said d i. node) es (any_each es) q h in
        no_map q.body (none q.body (subst (λ n. MaySay n q.body) from (says q h)))

  -- ---- the registry

  abbrev Says : Effect → Type 0
  Says (Send to said) = BodyMaps cuts said
  Says (Answer item answer) = Unit {0}
  Says (Lose seg) = Unit {0}
  Says (Does act) = Unit {0}

  -- it sends maps that are so, where its own is
  abbrev Tells : BoardState → Effect → Type 0
  Tells now e = MapStriped (cut_by cuts) now.groups → Says e

  tells_so : (node : RegistryNode) (what : Do) (now : BoardState) (e : Effect) → Said node what now e → Tells now e
  tells_so node what now e (TellsMaps to) fact = fact
  tells_so node what now e (Welcomes packet m came room same) fact = fact
  tells_so node what now e _ fact = tt

  takes_says : (node : RegistryNode) (what : Do) → MapStriped (cut_by cuts) (takes node what).state.board.groups → AllByRecursion Says (takes node what).outs
  takes_says node what fact =
      let now : BoardState = (takes node what).state.board in
      all_weaker (Said node what now) Says (λ e said. tells_so node what now e said fact) (takes node what).outs (registry_events_are_moves node what).says

-- ---- nodes of any kind

abbrev of_client : NodeId → Type 0
of_client (Client c) = Unit {0}
of_client (Manager j) = ⊥
of_client (Server v) = ⊥
of_client Cleaner = ⊥
of_client Registry = ⊥

abbrev of_manager : NodeId → Type 0
of_manager (Client c) = ⊥
of_manager (Manager j) = Unit {0}
of_manager (Server v) = ⊥
of_manager Cleaner = ⊥
of_manager Registry = ⊥

abbrev of_server : NodeId → Type 0
of_server (Client c) = ⊥
of_server (Manager j) = ⊥
of_server (Server v) = Unit {0}
of_server Cleaner = ⊥
of_server Registry = ⊥

abbrev of_cleaner : NodeId → Type 0
of_cleaner (Client c) = ⊥
of_cleaner (Manager j) = ⊥
of_cleaner (Server v) = ⊥
of_cleaner Cleaner = Unit {0}
of_cleaner Registry = ⊥

abbrev of_registry : NodeId → Type 0
of_registry (Client c) = ⊥
of_registry (Manager j) = ⊥
of_registry (Server v) = ⊥
of_registry Cleaner = ⊥
of_registry Registry = Unit {0}

-- the name of a node is of its kind
abbrev pub KindOf : AnyNode → NodeId → Type 0
KindOf (any.Client node) name = of_client name
KindOf (any.Manager node) name = of_manager name
KindOf (any.Server node) name = of_server name
KindOf (any.Cleaner node) name = of_cleaner name
KindOf (any.Registry node) name = of_registry name

pub kind_starts : (name : NodeId) (setup : Setup) (items : List Work) → KindOf (any_start name setup items) name
kind_starts (Client c) setup items = tt
kind_starts (Manager j) setup items = tt
kind_starts (Server v) setup items = tt
kind_starts Cleaner setup items = tt
kind_starts Registry setup items = tt

pub kind_stays : (x : AnyNode) (name : NodeId) (what : Do) → KindOf x name → KindOf (any_step x what).node name
kind_stays (any.Client node) name what fact = fact
kind_stays (any.Manager node) name what fact = fact
kind_stays (any.Server node) name what fact = fact
kind_stays (any.Cleaner node) name what fact = fact
kind_stays (any.Registry node) name what fact = fact

registry_named : (name : NodeId) → of_registry name → name ≡ Registry
registry_named (Client c) fact = absurd fact
registry_named (Manager j) fact = absurd fact
registry_named (Server v) fact = absurd fact
registry_named Cleaner fact = absurd fact
registry_named Registry fact = refl

-- the maps that a node sends are so, where the registry's own is then
pub new_maps : (cuts : Cuts) (x : AnyNode) (name : NodeId) (what : Do) (clock : ℕ) → KindOf x name
    → ((m : GroupMapState) → groups_of (Some (any_step x what).node) ≡ Some m → name ≡ Registry → MapStriped (cut_by cuts) m)
    → ((q : Packet) → In q (map (sent_at clock) (any_step x what).packets) → MaySay q.from q.body)
    → (q : Packet) → In q (map (sent_at clock) (any_step x what).packets) → BodyMaps cuts q.body
new_maps cuts (any.Client node) name what clock kind own says =
    none_sent cuts (Client (clients.lasting_of node.phase).number) clock (clients.takes node what).outs (λ m h. plain_no_map m h.0) says
new_maps cuts (any.Manager node) name what clock kind own says =
    none_sent cuts (Manager (lasting_of node.phase).number) clock (managers.happens node what).outs plain_no_map says
new_maps cuts (any.Server node) name what clock kind own says =
    none_sent cuts (Server node.number) clock (servers.takes node what).outs servers_no_map says
new_maps cuts (any.Cleaner node) name what clock kind own says =
    none_sent cuts Cleaner clock (cleaners.takes node.peers node.phase what).outs cleaners_no_map says
new_maps cuts (any.Registry node) name what clock kind own says =
    sent_so Registry clock (Says cuts) (λ (p : Packet). BodyMaps cuts p.body) (λ to said d. d) (takes node what).outs
    (takes_says cuts node what (own (registry_step node what).node.board.groups refl (registry_named name kind)))
