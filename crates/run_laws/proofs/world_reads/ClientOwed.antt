-- What an event of a client is owed to the small world of the index: what it files, what a reopening read back, what it answers of a Poll, and what it has in
-- flight.
use Rattle.std.proofs.Common.{◌≡◌, ◌≤◌, ℕ, suc, List, [], ◌∷◌, Option, Some, IfSome, refl, sym, ap, subst, ◌∙◌, arith}
use Rattle.std.specs.List.{AllByRecursion, filter_map}
use Rattle.client_log.specs.LogState.{LogState}
use Rattle.node_logs.specs.client_log_tie.Owner as client_log
use Rattle.node_logs.specs.client_log_tie.Owner.{Scene}
use Rattle.client_node.specs.declared.client.Client.{Client as ClientNode}
use Rattle.client_node.specs.declared.phase.Phase.TheVariants as clients
use Rattle.client_node.specs.declared.phase.Phase.{Phase}
use Rattle.client_node.specs.Phases.{Went_to, takes}
use Rattle.client_serving.specs.declared.lasting.Lasting.{Lasting}
use Rattle.client_serving.specs.declared.serving.Serving.{Serving as ServingClient}
use Rattle.core_world.specs.declared.any_node.AnyNode.TheVariants as any
use Rattle.headline.specs.Filed.{Filed}
use Rattle.headline.specs.Indexes.{of_log}
use Rattle.log_flight.specs.Flights.{FlightState}
use Rattle.log_law.specs.Events.{Runs}
use Rattle.log_law.specs.Laws.{Moment}
use Rattle.log_law.specs.Net.{Owner as owner}
use Rattle.log_law.specs.Restarts.{IsSureRun, is_serving}
use Rattle.log_law.specs.Tails.{then_on}
use Rattle.log_owner.specs.declared.opening.Opening.{Opening}
use Rattle.log_owner.specs.declared.opening.Settling.{Settling}
use Rattle.log_owner.specs.declared.opening.Stage.{Stage}
use Rattle.log_owner.specs.declared.opening.Stage.TheVariants as stage
use Rattle.log_scan.specs.Transition.{least_horizon}
use Rattle.log_tie.specs.Setting.{Setting}
use Rattle.node_slots.specs.node_index_tie.Sight.{RowsFit}
use Rattle.node_logs.specs.node_log_tie.RegistryEvents.{RegistrySeen}
use Rattle.node_slots.specs.owner_index_tie.ClientEvents.{BodyGets, ClientOwed, EventGets, PacketGets, PollGets, ReopensOn, WritesTexts}
use Rattle.node_slots.specs.owner_index_tie.Owners.{EndOwed}
use Rattle.registry.specs.Board.{board_slots}
use Rattle.run_laws.specs.reopening_law.Reopens.{FiledOf, Reopens}
use Rattle.segment_format.specs.declared.segment.Item.{Item}
use Rattle.segment_format.specs.declared.segment.Item.TheVariants.{Block, Delta, Part}
use Rattle.segment_format.specs.declared.segment.Segment.{Segment}
use Rattle.segment_format.specs.Ranges.{FitsItem}
use Rattle.segment_format.specs.Rows.{row_of}
use Rattle.token_client.specs.State.{epoch_of}
use Rattle.wire_msg.specs.declared.body.Body.{Body}
use Rattle.wire_msg.specs.declared.body.Body.TheVariants as body
use Rattle.wire_msg.specs.declared.deltas.Poll.{Poll}
use Rattle.wire_msg.specs.declared.packet.Do.{Do}
use Rattle.wire_msg.specs.declared.packet.Do.TheVariants.{Begin, Deliver, Tick}
use Rattle.wire_msg.specs.declared.packet.Packet.{Packet}
use Rattle.world_base.specs.declared.event.Event.{Event}
use Rattle.world_base.specs.Events.{node_of, what_of}
use Rattle.run_laws.specs.world_index.Owes.{IndexOwes}
use Rattle.run_laws.specs.world_index.Standing as index
use Rattle.headline.specs.Logs.Role.{OfClient}
use Rattle.run_laws.specs.world_logs.Standing.{OwnerSeen}
use Rattle.run_laws.proofs.world_reads.ClientFiles as files
use Rattle.run_laws.proofs.world_reads.ClientLog as log
use Rattle.run_laws.proofs.world_reads.ClientLog.{ClientEvent}
use Rattle.run_laws.proofs.world_reads.Stepping.{comes}
use Rattle.run_laws.specs.world_reads.Joint.{There}
use Rattle.xfs_base.specs.declared.node.NodeId.TheVariants.{Registry}
use Rattle.run_laws.proofs.world_reads.Below.{Below}
use Rattle.run_laws.specs.world_reads.LoggedRuns.{LoggedRun}

-- what a segment that has a text says of blocks fits its types
items_fit : (s : Segment) (items : List Item) → AllByRecursion FitsItem items → RowsFit (filter_map (row_of s) items)
items_fit s [] all = tt
items_fit s (Block block value ∷ items) all = items_fit s items all.1
items_fit s (Delta block ver hop item ∷ items) all = (all.0.0.1, items_fit s items all.1)
items_fit s (Part slot rows ∷ items) all = items_fit s items all.1

module _ (logged : LoggedRun) (part : ℕ) (count c : ℕ) (there : There logged part (OfClient c)) (laws : Below) (event : Event) (node : ClientNode)
    (x : ClientEvent logged part count c there event node) where
  open logged use {lines, texts}

  abbrev g : Setting
  g = log.g logged part count c there

  abbrev w : Scene
  w = log.before logged part count c there

  abbrev v : Scene
  v = log.after logged part count c there

  abbrev i : index.Scene
  i = x.joint.idx

  abbrev what : Do
  what = what_of event

  abbrev went : Went_to
  went = takes node what

  abbrev goes : Runs g w.net v.net
  goes = (lines (OfClient c) there).goes count

  abbrev at : Moment g w.net
  at = log.at logged part count c there laws event node x

  abbrev sees : OwnerSeen g w c node.phase
  sees = log.sees logged part count c there laws event node x

  abbrev sees_then : OwnerSeen g v c went.state
  sees_then = log.sees_then logged part count c there laws event node x

  abbrev filed : Filed
  filed = i.net.filed

  -- ---- Polls

  -- Of an epoch of the slot that is polled, and that is none before the one that the client promised, the horizon of its log is no less than the least one that
  -- the registry keeps.
  abbrev pub PollsAreLow : Type 0
  PollsAreLow =
      (packet : Packet) (m : Poll) (s : ServingClient) → what ≡ Deliver packet → packet.body ≡ body.Poll m → m.slot ≡ part → node.phase ≡ clients.Serving s
      → epoch_of s.tokens.epochs part ≤ m.epoch → least_horizon c (board_slots i.registry.board) ≤ of_log (i.net.horizon m.epoch) c

  pub registry : RegistrySeen g w.net i.registry.board
  registry = ((lines (OfClient c) there).stands count).seen Registry (any.Registry i.registry) x.joint.index_stands.placed.registry

  poll_gets : PollsAreLow → (packet : Packet) (m : Poll) (s : ServingClient) → what ≡ Deliver packet → packet.body ≡ body.Poll m
      → node.phase ≡ clients.Serving s
      → PollGets part texts.text i.net c s.tokens m
  poll_gets low packet m s fact bears serves of late some =
      let least = low packet m s fact bears of serves late in
      (laws.lines.lines_give texts.text c g w.net filed (log.is_sure logged part count c there laws event node x)
      (files.line logged part count c there laws event node x)).linked (of_log (i.net.horizon m.epoch) c) (filed.head c) some
      (let r = registry.low in omega arith) (omega arith)

  pub gets : PollsAreLow → EventGets part texts.text i.net c node.phase what
  gets low = by_do what refl
    where
      by_body : (packet : Packet) → what ≡ Deliver packet → (s : ServingClient) → node.phase ≡ clients.Serving s → (b : Body) → packet.body ≡ b
          → BodyGets part texts.text i.net c s.tokens b
      by_body packet fact s serves (body.Poll m) bears = poll_gets low packet m s fact bears serves
      by_body packet fact s serves _ bears = tt

      by_phase : (packet : Packet) → what ≡ Deliver packet → (p : Phase) → node.phase ≡ p → PacketGets part texts.text i.net c p packet
      by_phase packet fact (clients.Down l) same = tt
      by_phase packet fact (clients.Opening l o) same = tt
      by_phase packet fact (clients.Serving s) same = by_body packet fact s same packet.body refl

      by_do : (d : Do) → what ≡ d → EventGets part texts.text i.net c node.phase d
      by_do Begin fact = tt
      by_do Tick fact = tt
      by_do (Deliver packet) fact = by_phase packet fact node.phase refl

  -- ---- what it has in flight

  pub writes : WritesTexts part texts.text i.net c went.state
  writes = laws.writing.clients_write_texts texts.text g c v went.state part i.net (log.then logged part count c there laws event node x)
      (λ s fact. texts.flown (OfClient c) there (suc count) s fact) sees_then.agrees

  -- ---- a reopening

  pub filed_of : FiledOf c filed w.net
  filed_of = (let l = files.line logged part count c there laws event node x in record {
    flew = l.lined.flown;
    filed = l.lined.filed;
    seq = l.lined.seq;
    all = l.all;
  })

  -- the event that ends a restart, where the client comes to serve behind its opening segment
  pub record Ends (st : Settling) (r : LogState) : Type 0 where
    pub reopens : Reopens g w.net v.net st.chain st.log r
    pub moment_is : reopens.moment ≡ at

  module _ (l : Lasting) (o : Opening) (s : ServingClient) (opening : node.phase ≡ clients.Opening l o) (serving : went.state ≡ clients.Serving s) where
    stage_sees : client_log.SeesStage g c w o.known l.questions.last o.stage
    stage_sees = (subst (client_log.ClientAgrees g c w) opening sees.agrees).1

    serves : v.net.owner ≡ owner.Serving s.log
    serves = (subst (client_log.ClientAgrees g c v) serving sees_then.agrees).1.owner

    pub ends : (st : Settling) → o.stage ≡ stage.Settling st → Ends st s.log
    ends st fact =
        let here = subst (client_log.SeesStage g c w o.known l.questions.last) fact stage_sees in
        let z = comes g refl w.net v.net goes (files.straight logged part count c there laws event node x) (ap is_serving here.owner)
        (ap is_serving serves) in
        let calm = subst (λ (r : Runs g w.net v.net). IsSureRun (then_on at.run r)) z.one
        (log.goes_sure logged part count c there laws event node x) in
        record {
          reopens = record {
            sure = refl;
            apart = x.apart;
            moment = at;
            happens = z.happens;
            calm = calm;
            writes = here.owner;
            serves = serves;
            own = λ f flies. subst (λ (y : Option FlightState). IfSome y (λ z. z.segment.name.log ≡ g.log)) flies here.own.flight;
            empty = λ f flies. ap (λ (z : FlightState). z.segment.items) (one_flight st.log.flight f here.flight flies here.flies) ∙ here.empty;
          };
          moment_is = refl;
        }
      where
        one_flight : (y : Option FlightState) (p q : FlightState) → y ≡ Some p → y ≡ Some q → p ≡ q
        one_flight y p q a b = cc

    end_owed : (st : Stage) → o.stage ≡ st → EndOwed texts.text c filed st
    end_owed (stage.Scanning a) fact = tt
    end_owed (stage.Settling a) fact =
        let here = subst (client_log.SeesStage g c w o.known l.questions.last) fact stage_sees in
        laws.reopenings.reopenings_read_back g w.net v.net a.chain a.log s.log (ends a fact).reopens texts.text c filed a.low
        (record {
          texts_are = λ t fact. texts.flown (OfClient c) there count t fact;
          fit = λ t fact. items_fit t t.items (laws.logs.written g w.net at t fact).written.fits.items;
        }) filed_of here.reads

  pub reopens : ReopensOn part texts.text i.net c node.phase went.state
  reopens = by node.phase refl went.state refl
    where
      by : (p : Phase) → node.phase ≡ p → (q : Phase) → went.state ≡ q → ReopensOn part texts.text i.net c p q
      by (clients.Down l) fact q then = tt
      by (clients.Serving s) fact q then = tt
      by (clients.Opening l o) fact (clients.Down m) then = tt
      by (clients.Opening l o) fact (clients.Opening m y) then = tt
      by (clients.Opening l o) fact (clients.Serving s) then = end_owed l o s fact then o.stage refl

  -- ---- all of it

  pub client_owed : PollsAreLow → ClientOwed part texts.text i.net c node.phase what went
  client_owed low = record {
    files = files.files_owed logged part count c there laws event node x (gets low);
    reopens = reopens;
    gets = gets low;
    writes = writes;
  }

  pub index_owed : PollsAreLow → IndexOwes part texts.text i.asked i.net (node_of event) (any.Client node) what
  index_owed low = subst (λ name. IndexOwes part texts.text i.asked i.net name (any.Client node) what) (sym x.own) (client_owed low)
