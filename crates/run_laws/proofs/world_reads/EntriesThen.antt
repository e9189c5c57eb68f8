-- What is told of where blocks lie stays told over an event of a run: each node that takes one files and reads what is told.
use Rattle.std.proofs.Common.{◌≡◌, ◌<◌, ◌+◌, ℕ, suc, true, false, List, Option, Some, slice_get, refl, sym, ap, subst, ◌∙◌, arith}
use Rattle.std.specs.Prelude.{Contains, IfSome}
use Rattle.node_logs.specs.cleaner_log_tie.Owner as cleaner_log
use Rattle.cleaner_node.specs.CleanerEvents.{cleaner_step}
use Rattle.cleaner_node.specs.declared.cleaner.Cleaner.{Cleaner as CleanerNode}
use Rattle.cleaner_node.specs.declared.cleaner.Phase as cleaners
use Rattle.cleaner_node.specs.declared.cleaner.Phase.TheVariants as cleaning
use Rattle.node_logs.specs.client_log_tie.Owner as client_log
use Rattle.node_logs.specs.client_log_tie.Owner.{Scene, SeesStage}
use Rattle.client_node.specs.declared.client.Client.{Client as ClientNode}
use Rattle.client_node.specs.declared.phase.Phase as clients
use Rattle.client_node.specs.declared.phase.Phase.TheVariants as client
use Rattle.client_node.specs.Phases.{client_step}
use Rattle.core_world.specs.AnyNode.{any_start, any_step}
use Rattle.core_world.specs.declared.any_node.AnyNode.{AnyNode}
use Rattle.core_world.specs.declared.any_node.AnyNode.TheVariants as any
use Rattle.client_log.specs.Transition.{end_of}
use Rattle.node_tellings.specs.entry_tie.CleanerTells as cleaner_entries
use Rattle.node_tellings.specs.entry_tie.CleanerTells.{CleanerOwed}
use Rattle.node_tellings.specs.entry_tie.ClientTells as client_entries
use Rattle.node_tellings.specs.entry_tie.ClientTells.{ClientOwed, StageOwed}
use Rattle.node_tellings.specs.entry_tie.ManagerTells.{FlightHolds, ManagerOwed, PhaseHolds}
use Rattle.node_tellings.specs.entry_tie.Told.{AreMore, Told, told_by_rows}
use Rattle.index_tie.proofs.Runs.{good_in}
use Rattle.headline.specs.Filed.{Filed, rows_at}
use Rattle.index_tie.specs.Growth.{IsMore}
use Rattle.log_flight.specs.Flights.{FlightState}
use Rattle.log_law.specs.Held.{OwnerFlew}
use Rattle.log_protocol.specs.Tables as tables
use Rattle.log_owner.specs.declared.known.Known.{Known as KnownMaps}
use Rattle.log_owner.specs.declared.opening.Stage.{Stage}
use Rattle.log_owner.specs.declared.opening.Stage.TheVariants as stage
use Rattle.log_owner.specs.Sending.{name_of}
use Rattle.node_logs.specs.manager_log_tie.Owner as manager_log
use Rattle.manager_node.specs.declared.manager.Manager.{Manager as ManagerNode}
use Rattle.manager_node.specs.declared.phase.Phase as managers
use Rattle.manager_node.specs.declared.phase.Phase.TheVariants as managing
use Rattle.manager_node.specs.Events.{manager_step}
use Rattle.manager_slots.specs.Lasting.{log_of}
use Rattle.node_slots.specs.node_index_tie.ManagerEvents.{ManagerAgrees}
use Rattle.node_slots.specs.node_index_tie.Sight.{held_in}
use Rattle.node_tellings.specs.part_tie.ManagerNames.{PhaseFlies}
use Rattle.token_protocol.specs.Basics.{In}
use Rattle.version_model.specs.declared.act.Act.{Act}
use Rattle.version_model.specs.declared.act.Act.TheVariants as act
use Rattle.wire_msg.specs.declared.packet.Do.{Do}
use Rattle.wire_msg.specs.declared.packet.Do.TheVariants.{Deliver}
use Rattle.wire_msg.specs.declared.packet.Packet.{Packet}
use Rattle.world_base.specs.Cluster.{cluster_of, place_of}
use Rattle.world_base.specs.declared.cluster.Cluster.{Cluster}
use Rattle.world_base.specs.declared.event.Event.{Event}
use Rattle.world_base.specs.declared.event.Event.TheVariants as events
use Rattle.world_base.specs.declared.world.World.{World}
use Rattle.world_base.specs.Events.{node_of, what_of}
use Rattle.world_base.specs.Runs.{IsRun, MayHappen}
use Rattle.run_laws.specs.world_index.Owes.{DoReads}
use Rattle.run_laws.proofs.world_index.Senders.{IsKind}
use Rattle.run_laws.proofs.world_law.ManagerTurns.{delivered}
use Rattle.run_laws.proofs.world_law.Places.{Behind, behind}
use Rattle.run_laws.proofs.world_law.Sent.{was_sent}
use Rattle.run_laws.proofs.world_law.Turns.{one_node}
use Rattle.headline.specs.Moments.{moment, node_in}
use Rattle.run_laws.specs.world_lines.Lines.{IsLine}
use Rattle.run_laws.proofs.world_logs.Line.{grows}
use Rattle.headline.specs.Logs.{Role, did, log_by, owns, renews}
use Rattle.run_laws.specs.world_logs.Lines.{Line, setting}
use Rattle.headline.specs.Logs.Role.{OfClient, OfCleaner, OfManager}
use Rattle.run_laws.proofs.world_reads.CleanerFront.{its_cluster, may_happen}
use Rattle.run_laws.proofs.world_reads.CleanerMoment.{upto_before}
use Rattle.run_laws.proofs.world_reads.EntriesManagers.{SlotKnown, manager_owed}
use Rattle.run_laws.proofs.world_reads.EntriesNames.{AnyFlies, names_rise, names_stay, taken_known}
use Rattle.run_laws.proofs.world_reads.EntriesOwners.{OwnsEvent, chain_told, flight_told}
use Rattle.run_laws.proofs.world_reads.EntriesParts.{among_nodes, in_contained, part_later, part_more}
use Rattle.run_laws.proofs.world_reads.EntriesRise.{entries_rise, rows_more}
use Rattle.run_laws.proofs.world_reads.EntriesSame.{same_rows, sure_log}
use Rattle.run_laws.proofs.world_reads.EntriesStay.{AnyOwed, entries_stay}
use Rattle.run_laws.proofs.world_reads.Taking.{Took, did_then, moment_next}
use Rattle.run_laws.specs.world_reads.Entries.{EntriesStand, PartKnown, PartsNamed}
use Rattle.run_laws.specs.world_reads.Joint.{Joint, There, log_at}
use Rattle.run_laws.proofs.world_reads.Joint.{IsSureUpto}
use Rattle.xfs_base.specs.declared.node.NodeId.{NodeId}
use Rattle.xfs_base.specs.declared.node.NodeId.TheVariants.{Client, Manager, Server, Cleaner, Registry}
use Rattle.xfs_base.specs.declared.segment.LogId.{LogId}
use Rattle.xfs_base.specs.declared.segment.SegName.{SegName}
use Rattle.xfs_base.proofs.Booleans.{equal_itself}
use Rattle.xfs_base.specs.Limits.{slot_count}
use Rattle.xfs_base.specs.Logs.{cleaners_number}
use Rattle.run_laws.proofs.world_reads.Below.{Below}
use Rattle.run_laws.specs.world_reads.LoggedRuns.{LoggedRun}

module _ (logged : LoggedRun) (part count : ℕ) where
  open logged use {base, estate as e, lines, texts, first}

  -- An event of a run, after which so much is filed: the moment before it stands to the small worlds of each slot of the map, up to the one after it all
  -- restarts were sure, and there each log has its line in what is filed.
  pub record EntryEvent (event : Event) (h : Filed) : Type 0 where
    pub of_map : part < slot_count
    pub happens : slice_get e.events count ≡ Some event
    pub run : IsRun any_step any_start e.script e.events e.world
    pub joints : (slot : ℕ) → slot < slot_count → Joint logged slot count
    pub sure : IsSureUpto logged part (suc count)
    pub more : IsMore (joints part of_map).idx.net.filed h
    pub lined : (r : Role) (there : There logged part r) → renews r ≡ false
        → IsLine (log_by r) (log_at logged part r there (suc count)) h
    -- what is named as a part of a checkpoint is a segment of a manager's log, which tells what is told
    pub named : PartsNamed (PartKnown base e lines count (rows_at (joints part of_map).idx.net.filed)) (moment e count).nodes (moment e count).sent
    -- what is sent is of those who may send it, as the small world of tokens knows
    pub kinds : (p : Packet) → In p (moment e (suc count)).sent → IsKind p
    -- what an answer completes of a takeover is the text of its name, as a manager is owed it in the small world of each slot's index
    pub reads : (j : ℕ) → node_of event ≡ Manager j → (manager : ManagerNode) → Took (moment e count) event (any.Manager manager) → (slot : ℕ) (less : slot < slot_count)
        → DoReads slot texts.text (joints slot less).idx.asked j (joints slot less).idx.net manager.phase (what_of event)

  module _ (laws : Below) (event : Event) (h : Filed) (x : EntryEvent event h) where
    abbrev k : Cluster
    k = cluster_of e.script.setup

    abbrev w : World AnyNode
    w = moment e count

    abbrev joint : Joint logged part count
    joint = x.joints part x.of_map

    abbrev told : Told
    told = told_by_rows (rows_at h)

    abbrev what : Do
    what = what_of event

    -- more is told now
    more : AreMore (rows_at joint.idx.net.filed) (rows_at h)
    more = rows_more joint.idx.net.filed h x.more

    stand : EntriesStand (rows_at h) w.nodes w.sent
    stand = entries_rise (rows_at joint.idx.net.filed) (rows_at h) more laws.reads.kinds w.nodes w.sent joint.entries

    named_more : PartsNamed (PartKnown base e lines count (rows_at h)) w.nodes w.sent
    named_more =
        names_rise (PartKnown base e lines count (rows_at joint.idx.net.filed)) (PartKnown base e lines count (rows_at h))
        (part_more (rows_at joint.idx.net.filed) (rows_at h) more base e lines count) w.nodes w.sent x.named

    -- ---- the owner of a log

    module _ (r : Role) (there : There logged part r) (keeps : renews r ≡ false) (node : AnyNode) (took : Took w event node)
        (owned : OwnsEvent logged part count r there event node h) where
      abbrev scene : Scene
      scene = (lines r there).scene count

      abbrev acts : List Act
      acts = (any_step node what).acts

      stage_owed : (c : ℕ) (known : KnownMaps) (last : ℕ) (st : Stage) → SeesStage (setting base e r) c scene known last st → StageOwed told acts st
      stage_owed c known last (stage.Scanning s) sees = tt
      stage_owed c known last (stage.Settling s) sees =
          chain_told logged part count r there laws.lines.lines_give laws.logs.held laws.logs.own event
          node h owned s.chain s.log sees.owner

      client_phase : (c : ℕ) → c ≡ log_by r → (p : clients.Phase) → client_log.ClientAgrees (setting base e r) c scene p → client_entries.PhaseOwed told acts p
      client_phase c its (client.Down l) agrees = tt
      client_phase c its (client.Opening l o) agrees = stage_owed c o.known l.questions.last o.stage agrees.1
      client_phase c its (client.Serving s) agrees =
          flight_told logged part count r there laws.lines.lines_give laws.logs.held laws.logs.own event
          node h owned (record { 0 = s.lasting.number })
          (ap (λ (n : ℕ). record { 0 = n }) (agrees.0.number ∙ its)) s.log agrees.1.owner

      cleaner_phase : log_by r ≡ cleaners_number → (p : cleaners.Phase) → cleaner_log.CleanerAgrees (setting base e r) scene p → cleaner_entries.PhaseOwed told acts p
      cleaner_phase its (cleaning.Down l) agrees = tt
      cleaner_phase its (cleaning.Opening l o) agrees = stage_owed cleaners_number o.known l.questions.last o.stage agrees.sees
      cleaner_phase its (cleaning.Serving s) agrees =
          flight_told logged part count r there laws.lines.lines_give laws.logs.held laws.logs.own event
          node h owned (record { 0 = 9 })
          (ap (λ (n : ℕ). record { 0 = n }) (sym its)) s.log agrees.log.owner

    -- ---- the node that takes it

    module _ (node : AnyNode) (took : Took w event node) where
      at_place : (name : NodeId) → node_of event ≡ name → place_of k name ≡ Some took.place
      at_place name own =
          subst (λ n. place_of k n ≡ Some took.place) own
          (subst (λ (c : Cluster). place_of c (node_of event) ≡ Some took.place) (its_cluster e count) took.placed)

      -- it is the one of its name
      is_named : (name : NodeId) → node_of event ≡ name → (y : AnyNode) → node_in w.nodes (place_of k name) ≡ Some y → y ≡ node
      is_named name own y here = one_node y node (sym here ∙ (ap (node_in w.nodes) (at_place name own) ∙ took.stands))

      owns_event : (r : Role) (there : There logged part r) → renews r ≡ false → owns (log_by r) (node_of event) ≡ true
          → OwnsEvent logged part count r there event node h
      owns_event r there keeps own = record {
        happens = x.happens;
        own = own;
        took = took;
        sure = sure_log logged part laws.lines.lines_give (suc count) x.sure r there keeps;
        lined = x.lined r there keeps;
      }

      client_owed : (c : ℕ) → node_of event ≡ Client c → AnyOwed (rows_at h) node what
      client_owed c own = subst (λ y. AnyOwed (rows_at h) y what) same owed
        where
          b : Behind 0 k.clients c took.place
          b = behind 0 k.clients c took.place (at_place (Client c) own)

          it : ClientNode
          it = joint.idx.client c

          here : node_in w.nodes (place_of k (Client c)) ≡ Some (any.Client it)
          here = joint.index_stands.placed.clients c b.some (let limit = b.within in omega arith)

          same : any.Client it ≡ node
          same = is_named (Client c) own (any.Client it) here

          owed : ClientOwed told it what (client_step it what).acts
          owed = client_phase (OfClient c) (b.some, b.within) refl (any.Client it) (subst (Took w event) (sym same) took)
              (subst (λ y. OwnsEvent logged part count (OfClient c) (b.some, b.within) event y h) (sym same)
              (owns_event (OfClient c) (b.some, b.within) refl (ap (owns c) own ∙ equal_itself c))) c refl it.phase
              (((lines (OfClient c) (b.some, b.within)).stands count).seen (Client c) (any.Client it) here refl).agrees

      cleaner_owed : node_of event ≡ Cleaner → AnyOwed (rows_at h) node what
      cleaner_owed own = subst (λ y. AnyOwed (rows_at h) y what) same owed
        where
          it : CleanerNode
          it = joint.idx.cleaner

          here : node_in w.nodes (place_of k Cleaner) ≡ Some (any.Cleaner it)
          here = joint.index_stands.placed.cleaner

          same : any.Cleaner it ≡ node
          same = is_named Cleaner own (any.Cleaner it) here

          owed : CleanerOwed told it what (cleaner_step it what).acts
          owed = cleaner_phase OfCleaner tt refl (any.Cleaner it) (subst (Took w event) (sym same) took)
              (subst (λ y. OwnsEvent logged part count OfCleaner tt event y h) (sym same)
              (owns_event OfCleaner tt refl (ap (owns cleaners_number) own))) refl it.phase
              (((lines OfCleaner tt).stands count).seen Cleaner (any.Cleaner it) here).agrees

      manager_here : (j : ℕ) → node_of event ≡ Manager j → AnyOwed (rows_at h) node what
      manager_here j own = subst (λ y. AnyOwed (rows_at h) y what) same owed
        where
          b : Behind k.clients k.managers j took.place
          b = behind k.clients k.managers j took.place (at_place (Manager j) own)

          it : ManagerNode
          it = joint.idx.manager j

          here : (slot : ℕ) (less : slot < slot_count) → any.Manager ((x.joints slot less).idx.manager j) ≡ node
          here slot less =
              is_named (Manager j) own (any.Manager ((x.joints slot less).idx.manager j))
              ((x.joints slot less).index_stands.placed.managers j b.some b.within)

          it_here : node_in w.nodes (place_of k (Manager j)) ≡ Some (any.Manager it)
          it_here = joint.index_stands.placed.managers j b.some b.within

          same : any.Manager it ≡ node
          same = here part x.of_map

          one_manager : (a c : ManagerNode) → any.Manager a ≡ any.Manager c → a ≡ c
          one_manager a c fact = cc

          slot_known : (slot : ℕ) → slot < slot_count → SlotKnown base e lines texts count (rows_at h) slot j it.phase what
          slot_known slot less =
              let its = x.joints slot less in
              record {
                net = its.idx.net;
                asked = its.idx.asked;
                more = λ block entry fact. rows_more joint.idx.net.filed h x.more block entry
                    (same_rows logged part laws.lines.lines_give count (upto_before logged part count x.sure) joint slot
                    its block
                    entry fact);
                filed = (good_in slot (held_in slot texts.text) first its.idx.net its.index_stands.runs).filed;
                are_texts = its.index_stands.texts_of;
                agrees = subst (λ (y : ManagerNode). ManagerAgrees slot texts.text its.idx.net y.phase)
                    (one_manager (its.idx.manager j) it (here slot less ∙ sym same)) (its.index_stands.managers j b.some b.within);
                reads = x.reads j own it (subst (Took w event) (sym same) took) slot less;
                parts = taken_known (PartKnown base e lines count (rows_at h)) it.phase slot it refl
                    (named_more.holds (any.Manager it) (among_nodes w.nodes (place_of k (Manager j)) (any.Manager it) it_here));
              }

          owed : ManagerOwed told it what (manager_step it what).acts
          owed = manager_owed base e lines texts count (rows_at h) j it what slot_known

      server_owed : (v : ℕ) → node_of event ≡ Server v → AnyOwed (rows_at h) node what
      server_owed v own =
          let b = behind (k.clients + k.managers) k.servers v took.place (at_place (Server v) own) in
          let there = joint.index_stands.placed.servers v b.some b.within in
          subst (λ y. AnyOwed (rows_at h) y what) (is_named (Server v) own (any.Server there.0) there.1) tt

      registry_owed : node_of event ≡ Registry → AnyOwed (rows_at h) node what
      registry_owed own =
          subst (λ y. AnyOwed (rows_at h) y what) (is_named Registry own (any.Registry joint.idx.registry) joint.index_stands.placed.registry) tt

      -- ---- what it has in flight

      -- so it is of a node that takes the event
      abbrev Flies : AnyNode → Type 0
      Flies y = AnyFlies (PartKnown base e lines (suc count) (rows_at h)) y what

      manager_flies : (j : ℕ) → node_of event ≡ Manager j → Flies node
      manager_flies j own = subst Flies same (by it.phase refl)
        where
          b : Behind k.clients k.managers j took.place
          b = behind k.clients k.managers j took.place (at_place (Manager j) own)

          it : ManagerNode
          it = joint.idx.manager j

          here : node_in w.nodes (place_of k (Manager j)) ≡ Some (any.Manager it)
          here = joint.index_stands.placed.managers j b.some b.within

          same : any.Manager it ≡ node
          same = is_named (Manager j) own (any.Manager it) here

          line : Line base e (OfManager j)
          line = lines (OfManager j) (b.some, b.within)

          acts : List Act
          acts = (any_step (any.Manager it) what).acts

          -- what it acts it did up to the next count
          done : (name : SegName) → Contains acts (act.Filed name) → In (act.Filed name) (did e (log_by (OfManager j)) (suc count))
          done name fact =
              did_then e (log_by (OfManager j)) count event (any.Manager it) x.happens (ap (owns (log_by (OfManager j))) own
              ∙ equal_itself (log_by (OfManager j)))
              (subst (Took w event) (sym same) took) (act.Filed name) (in_contained acts (act.Filed name) fact)

          by : (p : managers.Phase) → it.phase ≡ p → PhaseFlies (PartKnown base e lines (suc count) (rows_at h)) acts p
          by (managing.Down kept) fact = tt
          by (managing.Waiting kept hello) fact = tt
          by (managing.Serving s) fact = λ flight flies acted. (
              let its = subst (manager_log.ManagerAgrees (setting base e (OfManager j)) j (line.scene count)) fact
              ((line.stands count).seen (Manager j) (any.Manager it) here refl) in
              let writes = (subst (ManagerAgrees part texts.text joint.idx.net) fact (joint.index_stands.managers j b.some b.within)).0.writer in
              let flew : tables.In flight.segment (line.scene count).net.flown =
              subst (λ (o : Option FlightState). IfSome o (λ (f : FlightState). tables.In f.segment (line.scene count).net.flown)) flies
              (subst (OwnerFlew (line.scene count).net.flown) its.log.owner
              (laws.logs.held (setting base e (OfManager j)) (line.scene count).net (line.stands count).moment)) in
              record {
                manager = j;
                there = (b.some, b.within);
                segment = flight.segment;
                flew = (grows base e (OfManager j) line count (suc count) (omega arith)).flown flight.segment flew;
                told = subst (λ (o : Option FlightState). IfSome o (FlightHolds told)) flies
                    (subst (PhaseHolds told) fact (stand.holds (any.Manager it)
                    (among_nodes w.nodes (place_of k (Manager j)) (any.Manager it) here))).log.flight;
                named = ap (λ (l : LogId). record { log = l; seq = flight.segment.name.seq; pass = flight.segment.name.pass })
                    (writes.named flight flies ∙ writes.same_log);
                group = refl;
                acted =
                    let its_log : log_of s.lasting.number ≡ s.writer.log =
                    ap log_of its.lasts.number ∙ (sym its.log.own.log ∙ writes.same_log) in
                    subst (λ (l : LogId). In (act.Filed (record { log = l; seq = flight.segment.name.seq; pass = flight.segment.name.pass }))
                    (did e (log_by (OfManager j)) (suc count))) its_log (done (name_of (log_of s.lasting.number) (end_of flight.segment)) acted);
              })

      any_flies : Flies node
      any_flies = by (node_of event) refl
        where
          by : (name : NodeId) → node_of event ≡ name → Flies node
          by (Client c) own =
              (let b = behind 0 k.clients c took.place (at_place (Client c) own) in
              subst Flies
              (is_named (Client c) own (any.Client (joint.idx.client c))
              (joint.index_stands.placed.clients c b.some (let limit = b.within in omega arith))) tt)
          by (Manager j) own = manager_flies j own
          by (Server v) own =
              (let b = behind (k.clients + k.managers) k.servers v took.place (at_place (Server v) own) in
              let there = joint.index_stands.placed.servers v b.some b.within in
              subst Flies (is_named (Server v) own (any.Server there.0) there.1) tt)
          by Cleaner own =
              subst Flies
              (is_named Cleaner own (any.Cleaner joint.idx.cleaner) joint.index_stands.placed.cleaner) tt
          by Registry own =
              subst Flies
              (is_named Registry own (any.Registry joint.idx.registry) joint.index_stands.placed.registry) tt

      -- ---- what it is owed

      any_owed : AnyOwed (rows_at h) node what
      any_owed = by (node_of event) refl
        where
          by : (name : NodeId) → node_of event ≡ name → AnyOwed (rows_at h) node what
          by (Client c) own = client_owed c own
          by (Manager j) own = manager_here j own
          by (Server v) own = server_owed v own
          by Cleaner own = cleaner_owed own
          by Registry own = registry_owed own

    -- ---- the event

    came : (v : Event) → MayHappen w v → (p : Packet) → what_of v ≡ Deliver p → In p w.sent
    came (events.Begin node) may p gets = absurd cc
    came (events.Tick node) may p gets = absurd cc
    came (events.Deliver packet) may p gets = subst (λ q. In q w.sent) (delivered packet p gets) (was_sent w.sent packet may)

    -- what is told stays told
    pub entries_then : EntriesStand (rows_at h) (moment e (suc count)).nodes (moment e (suc count)).sent
    entries_then =
        subst (λ (v : World AnyNode). EntriesStand (rows_at h) v.nodes v.sent) (sym (moment_next e count event x.happens))
        (entries_stay (rows_at h) laws.reads.kinds w event stand
        (came event (may_happen e count event x.happens x.run)) any_owed)

    -- and what is named as a part of a checkpoint is still a segment of a manager's log, which tells what is told
    pub named_then : PartsNamed (PartKnown base e lines (suc count) (rows_at h)) (moment e (suc count)).nodes (moment e (suc count)).sent
    named_then =
        let next = moment_next e count event x.happens in
        subst (λ (v : World AnyNode). PartsNamed (PartKnown base e lines (suc count) (rows_at h)) v.nodes v.sent) (sym next)
        (names_stay (PartKnown base e lines (suc count) (rows_at h)) w event
        (names_rise (PartKnown base e lines count (rows_at joint.idx.net.filed)) (PartKnown base e lines (suc count) (rows_at h))
        (part_later (rows_at joint.idx.net.filed) (rows_at h) more base e lines count) w.nodes w.sent x.named)
        (came event (may_happen e count event x.happens x.run)) any_flies (λ p among. x.kinds p (subst (λ (v : World AnyNode). In p v.sent) (sym next) among)))
