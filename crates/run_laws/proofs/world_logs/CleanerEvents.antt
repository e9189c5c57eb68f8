-- What the cleaner does keeps its log standing to its small world.
use Rattle.std.proofs.Common.{◌≡◌, ◌^◌, ℕ, ◌<◌, List, ◌++◌, Some, get_or, map, slice_get, slice_set, refl, sym, ap, ◌∙◌}
use Rattle.std.specs.Prelude.{All}
use Rattle.node_logs.specs.cleaner_log_tie.OwnerEvents as owner_events
use Rattle.node_logs.specs.cleaner_log_tie.OwnerEvents.{OpeningOwed, OwnerGoes}
use Rattle.cleaner_node.specs.declared.cleaner.Cleaner.{Cleaner as CleanerNode}
use Rattle.cleaner_node.specs.CleanerEvents.{cleaner_step}
use Rattle.cleaner_job.specs.Starting.{cleaner_log}
use Rattle.node_logs.specs.client_log_tie.Owner.{Scene}
use Rattle.core_world.specs.declared.any_node.AnyNode.{AnyNode}
use Rattle.core_world.specs.declared.any_node.AnyNode.TheVariants as any
use Rattle.node_tellings.proofs.entry_tie.CleanerPhases.{any_cleaner_tells}
use Rattle.node_tellings.specs.entry_tie.CleanerTells.{CleanerHolds}
use Rattle.node_tellings.specs.entry_tie.Told.{TellsTold}
use Rattle.group_map.specs.declared.group.Group.{Group}
use Rattle.log_tie.specs.Setting.{Setting}
use Rattle.node_logs.specs.node_log_tie.CleanerStores.{StoresItsOwn}
use Rattle.token_protocol.specs.Basics.{In}
use Rattle.version_model.specs.declared.act.Act.{Act}
use Rattle.wire_msg.specs.declared.body.Body.{Body}
use Rattle.wire_msg.specs.declared.body.Body.TheVariants as body
use Rattle.wire_msg.specs.declared.packet.Do.{Do}
use Rattle.wire_msg.specs.declared.packet.Do.TheVariants.{Begin, Deliver, Tick}
use Rattle.wire_msg.specs.declared.packet.Packet.{Packet}
use Rattle.world_base.specs.Cluster.{cluster_of, place_of}
use Rattle.world_base.specs.declared.cluster.Cluster.{Cluster}
use Rattle.world_base.specs.declared.world.World.{World}
use Rattle.world_base.specs.NextWorld.{sent_at}
use Rattle.headline.specs.Moments.{node_in}
use Rattle.run_laws.proofs.world_logs.Fits.{DoFits, PacketFits, StoresBytes, StoresOwn, do_tells, for_cleaner, in_range, stores_bytes}
use Rattle.run_laws.proofs.world_logs.Holding.{cleaner_owed}
use Rattle.run_laws.specs.world_logs.Lines.{moment_then}
use Rattle.run_laws.proofs.world_logs.OwnerTurns.{cleaner_owner_turn}
use Rattle.run_laws.specs.world_logs.Roles.{asker_by}
use Rattle.headline.specs.Logs.Role.{OfCleaner}
use Rattle.run_laws.proofs.world_logs.Room.{cleaner_leaves_room}
use Rattle.run_laws.proofs.world_logs.Settings.{names_fit}
use Rattle.run_laws.specs.world_logs.Settings.{setting_of}
use Rattle.run_laws.specs.world_logs.Standing.{CleanerOwns, Stands}
use Rattle.run_laws.proofs.world_logs.Turns.{Next, turned}
use Rattle.headline.specs.Servers.{group_at}
use Rattle.run_laws.proofs.world_logs.Owed.{opening_owed}
use Rattle.run_laws.specs.world_logs.NodeLaws.{NodeLaws}
use Rattle.xfs_base.specs.declared.node.NodeId.TheVariants.{Cleaner}
use Rattle.xfs_base.specs.declared.setup.Setup.{Setup}

its_own : (h : Setting) → h.log ≡ cleaner_log → (m : Body) → StoresItsOwn m → StoresOwn h m
its_own h fact (body.Store m) own = own ∙ sym fact
its_own h fact _ own = tt

module _ (laws : NodeLaws) (base : Setting) (end : World AnyNode) (setup : Setup)
    (few : (id : ℕ) (group : Group) → group_at end id ≡ Some group → id < 2 ^ 32) where
  abbrev k : Cluster
  k = cluster_of setup

  abbrev g : Setting
  g = setting_of base end setup.servers OfCleaner

  module _ (nodes : List AnyNode) (sent : List Packet) (told : List Act) (place clock : ℕ) (what : Do)
      (fits : (q : Packet) → In q sent → PacketFits q.to q.body)
      (gets : (q : Packet) → what ≡ Deliver q → In q sent × (q.to ≡ Cleaner)) (at : place_of k Cleaner ≡ Some place) (node : CleanerNode)
      (fact : slice_get nodes place ≡ Some (any.Cleaner node)) (l : (v : Scene) × Stands g OfCleaner v k nodes sent told) where
    abbrev packets : List Packet
    packets = (cleaner_step node what).packets

    abbrev acts : List Act
    acts = (cleaner_step node what).acts

    seen : CleanerOwns g l.0 node.phase
    seen = l.1.seen Cleaner (any.Cleaner node) (ap (node_in nodes) at ∙ fact)

    opens : OpeningOwed g l.0 node.phase
    opens = opening_owed g l.0 l.1.moment
        (λ m sent. names_fit base end setup.servers OfCleaner few m (laws.events.maps g l.0.net l.1.moment m sent)) laws.logs.on laws.logs.down node.phase seen

    owed : (x : Do) → what ≡ x → owner_events.CleanerOwed g l.0 node.phase x
    owed Begin same = tt
    owed Tick same = opens
    owed (Deliver q) same = (let h = gets q same in record { own = h.1; seen = l.1.facts q h.0; fits = for_cleaner q.to q.body (fits q h.0); opening = opens })

    goes : OwnerGoes g l.0 (cleaner_step node what)
    goes = laws.events.owner.events g refl l.0 node what seen.agrees (owed what refl)

    pub cleaner_mine : Next g OfCleaner l.0 l.1.moment Cleaner k (slice_set nodes place (any.Cleaner (cleaner_step node what).node))
        (sent ++ map (sent_at clock) packets) (told ++ acts)
    cleaner_mine =
        turned g OfCleaner l.0 goes.next k nodes sent told l.1 Cleaner place clock at (any.Cleaner node)
        (any.Cleaner (cleaner_step node what).node) fact packets acts
        (cleaner_owner_turn g l.0 (cleaner_step node what) goes
        (cleaner_leaves_room laws.logs.flies g l.0 l.1.moment node what seen.agrees goes seen.room) acts (λ a h. h))

    -- what it holds then, and tells
    pub cleaner_told : CleanerHolds in_range node → DoFits Cleaner what → TellsTold (CleanerHolds in_range) in_range (cleaner_step node what)
    cleaner_told holds comes =
        any_cleaner_tells in_range node what holds (do_tells Cleaner what comes)
        (cleaner_owed g l.0 (laws.logs.held g l.0.net l.1.moment) (laws.told g l.0.net l.1.moment) acts node.phase seen.agrees)

    -- what it stores is bytes
    pub cleaner_stores : All (λ (p : Packet). StoresItsOwn p.body) packets → All (λ (p : Packet). StoresBytes p.to p.body) packets
    cleaner_stores own i d less =
        let p : Packet = get_or packets i d in
        stores_bytes g (asker_by OfCleaner goes.next) goes.next.net
        (laws.told g goes.next.net (moment_then l.1.moment goes.grown.runs)) p.from p.to p.body (goes.sends i d less) (its_own g refl p.body (own i d less))
