-- Whatever happens in a run, what nodes refer to flew in its logs, over the groups with which it is referred to: a part of a checkpoint was in flight in the
-- log of its manager, and an end that is reported is that of the log of who reports it.
use Rattle.std.proofs.Common.{◌≡◌, ◌⊎◌, ◌+◌, false, inl, inr, ⊎_elim, ℕ, zero, suc, All, List, [], ◌∷◌, map, Option, None, Some, slice_get, slice_set, refl, sym, ap, subst, ◌∙◌, arith}
use Rattle.std.specs.Prelude.{IfSome}
use Rattle.std.specs.List.{AllByRecursion}
use Rattle.checkpoint.specs.Transition.{part_at}
use Rattle.cleaner_serving.specs.declared.emptying.Emptying.{Emptying}
use Rattle.node_logs.specs.cleaner_log_tie.Owner as cleaner_log
use Rattle.cleaner_node.specs.declared.cleaner.Cleaner.{Cleaner as CleanerNode}
use Rattle.cleaner_node.specs.declared.cleaner.Phase as cleaning_phase
use Rattle.cleaner_node.specs.declared.cleaner.Phase.TheVariants as cleaning
use Rattle.client_log.specs.LogState.{LogState}
use Rattle.client_log.specs.Transition.{end_of}
use Rattle.node_logs.specs.client_log_tie.Owner as client_log
use Rattle.node_logs.specs.client_log_tie.Owner.{Scene, SeesLog}
use Rattle.client_node.specs.declared.client.Client.{Client as ClientNode}
use Rattle.client_node.specs.declared.phase.Phase as client_phase
use Rattle.client_node.specs.declared.phase.Phase.TheVariants as clients
use Rattle.client_node.specs.Phases.{lasting_of}
use Rattle.client_serving.specs.declared.serving.Serving.{Serving as ServingClient}
use Rattle.core_world.specs.AnyNode.{any_step}
use Rattle.core_world.specs.declared.any_node.AnyNode.{AnyNode}
use Rattle.core_world.specs.declared.any_node.AnyNode.TheVariants as any
use Rattle.log_flight.specs.Flights.{FlightState}
use Rattle.log_law.specs.Held.{OwnerFlew}
use Rattle.log_law.specs.Net.{no_end}
use Rattle.log_protocol.specs.Tables as tables
use Rattle.log_tie.specs.Setting.{Setting}
use Rattle.node_logs.specs.manager_log_tie.Owner as manager_log
use Rattle.manager_node.specs.declared.manager.Manager.{Manager as ManagerNode}
use Rattle.manager_node.specs.declared.phase.Phase as manager_phase
use Rattle.manager_node.specs.declared.phase.Phase.TheVariants as managers
use Rattle.manager_serving.specs.declared.serving.Serving.{Serving}
use Rattle.node_base.specs.declared.effects.Effect.{Effect}
use Rattle.node_base.specs.declared.effects.Effect.TheVariants.{Send, Answer, Lose, Does}
use Rattle.node_base.specs.Effects.{packets_of}
use Rattle.node_slots.specs.node_index_tie.ManagerEvents as places
use Rattle.node_slots.specs.owner_index_tie.ServerEvents.{DoesNothing, SaysNothing}
use Rattle.node_tellings.proofs.reference_tie.Cleaners.{cleaner_reports}
use Rattle.node_tellings.proofs.reference_tie.Clients.{clients_report}
use Rattle.node_tellings.proofs.reference_tie.Managers.{managers_keep}
use Rattle.node_tellings.proofs.reference_tie.Registries.{registry_keeps}
use Rattle.node_tellings.specs.reference_tie.Managers.{FlightRefers, PhaseFlies}
use Rattle.node_tellings.specs.reference_tie.Owners.{ReportsEnd, ReportsOf}
use Rattle.node_tellings.specs.reference_tie.References.{BodyRefers, DoRefers, PacketRefers, References}
use Rattle.store_nodes.specs.ServerEvents.{takes}
use Rattle.token_protocol.specs.Basics.{In}
use Rattle.wire_msg.specs.declared.body.Body.{Body}
use Rattle.wire_msg.specs.declared.body.Body.TheVariants as body
use Rattle.wire_msg.specs.declared.packet.Do.{Do}
use Rattle.wire_msg.specs.declared.packet.Do.TheVariants.{Begin, Deliver, Tick}
use Rattle.wire_msg.specs.declared.packet.Packet.{Packet}
use Rattle.world_base.specs.Cluster.{place_of}
use Rattle.world_base.specs.declared.cluster.Cluster.{Cluster}
use Rattle.world_base.specs.declared.event.Event.{Event}
use Rattle.world_base.specs.declared.world.World.{World}
use Rattle.world_base.specs.Events.{node_of, what_of}
use Rattle.world_base.specs.NextWorld.{next_world, sent_at}
use Rattle.run_laws.proofs.world_law.Places.{Behind, behind}
use Rattle.run_laws.proofs.world_law.Sent.{in_append, in_list}
use Rattle.run_laws.proofs.world_law.Turning.{next_keeps}
use Rattle.run_laws.proofs.world_law.Turns.{one_node}
use Rattle.headline.specs.Moments.{moment, node_in}
use Rattle.run_laws.specs.world_logs.Lines.{cluster, setting}
use Rattle.headline.specs.Logs.{Role, log_by, renews}
use Rattle.headline.specs.Logs.Role.{OfClient, OfCleaner, OfManager}
use Rattle.run_laws.proofs.world_reads.ManagerMoment.{Coming, brought_by}
use Rattle.run_laws.proofs.world_reads.ManagerReferences.{all_rise, weaker_then}
use Rattle.run_laws.proofs.world_reads.Taking.{moment_next}
use Rattle.run_laws.specs.world_reads.Joint.{Joint, There}
use Rattle.run_laws.proofs.world_reads.Joint.{IsSureUpto}
use Rattle.run_laws.specs.world_reads.References.{AllRefer, AnyRefers, EndFlew, Flew, ReferencesStand, its}
use Rattle.xfs_base.specs.declared.node.NodeId.{NodeId}
use Rattle.xfs_base.specs.declared.node.NodeId.TheVariants.{Client, Manager, Server, Cleaner, Registry}
use Rattle.xfs_base.specs.declared.segment.End.{End}
use Rattle.xfs_base.specs.declared.segment.LogId.{LogId}
use Rattle.xfs_base.specs.Logs.{cleaners_number}
use Rattle.run_laws.proofs.world_reads.Below.{Below}
use Rattle.run_laws.specs.world_reads.LoggedRuns.{LoggedRun}

-- ---- lists

in_set : {X : Type 0} (xs : List X) (place : ℕ) (x y : X) → In y (slice_set xs place x) → In y xs ⊎ (y ≡ x)
in_set [] place x y fact = absurd fact
in_set (z ∷ xs) zero x y (inl fact) = inr fact
in_set (z ∷ xs) zero x y (inr later) = inl (inr later)
in_set (z ∷ xs) (suc place) x y (inl fact) = inl (inl fact)
in_set (z ∷ xs) (suc place) x y (inr later) = ⊎_elim (λ h. inl (inr h)) (λ h. inr h) (in_set xs place x y later)

-- packets refer so with whichever clock they are sent
clocked : (r : References) (clock : ℕ) (packets : List Packet) → AllByRecursion (PacketRefers r) packets → (p : Packet) → In p (map (sent_at clock) packets)
    → PacketRefers r p
clocked r clock [] all p fact = absurd fact
clocked r clock (q ∷ packets) all p (inl fact) = subst (PacketRefers r) (sym fact) all.0
clocked r clock (q ∷ packets) all p (inr later) = clocked r clock packets all.1 p later

-- ---- what owners of logs report

module _ (r : References) (node : NodeId) (end : End) (refers : r.end node end) where
  body_refers : (from : NodeId) (b : Body) → from ≡ node → ReportsEnd end b → BodyRefers r from b
  body_refers from (body.Report m) own fact = subst (λ x. r.end x m.end) (sym own) (subst (r.end node) (sym fact) refers)
  body_refers from (body.CkptDone m) own fact = absurd fact
  body_refers from (body.MapNews m) own fact = absurd fact
  body_refers from (body.Welcome m) own fact = absurd fact
  body_refers from _ own fact = tt

  pub reports_refer : (packets : List Packet) → AllByRecursion (ReportsOf node end) packets → AllByRecursion (PacketRefers r) packets
  reports_refer [] all = tt
  reports_refer (p ∷ packets) all = (body_refers p.from p.body all.0.0 all.0.1, reports_refer packets all.1)

-- ---- servers

module _ (r : References) (v : ℕ) where
  nothing_refers : (b : Body) → SaysNothing b → BodyRefers r (Server v) b
  nothing_refers (body.Report m) h = absurd h
  nothing_refers (body.CkptDone m) h = absurd h
  nothing_refers (body.MapNews m) h = absurd h
  nothing_refers (body.Welcome m) h = absurd h
  nothing_refers _ h = tt

  pub server_refers : (outs : List Effect) → All DoesNothing outs → AllByRecursion (PacketRefers r) (packets_of (Server v) outs)
  server_refers [] all = tt
  server_refers (Send to b ∷ outs) all =
      (nothing_refers b (all 0 (Send to b) (omega arith)), server_refers outs (λ i d less. all (suc i) d (omega arith)))
  server_refers (Answer item answer ∷ outs) all = server_refers outs (λ i d less. all (suc i) d (omega arith))
  server_refers (Lose seg ∷ outs) all = server_refers outs (λ i d less. all (suc i) d (omega arith))
  server_refers (Does act ∷ outs) all = server_refers outs (λ i d less. all (suc i) d (omega arith))

module _ (logged : LoggedRun) (part count : ℕ) (laws : Below) (joint : Joint logged part count) (sure : IsSureUpto logged part count) where
  open logged use {base, estate as e, lines, texts}

  abbrev k : Cluster
  k = cluster base e

  abbrev r : References
  r = its logged part count

  -- ---- the end of a log that is served

  -- of a log that goes on where its owner restarts, it is none, or flew
  end_flew : (role : Role) (there : There logged part role) → renews role ≡ false → (n : ℕ) (s : LogState)
      → SeesLog (setting base e role) n ((lines role there).scene count) s → EndFlew logged part count (log_by role) s.end
  end_flew role there goes_on n s sees = by s.end.seq refl
    where
      by : (q : ℕ) → s.end.seq ≡ q → EndFlew logged part count (log_by role) s.end
      by zero fact = inl fact
      by (suc q) fact =
          let at = ((lines role there).stands count).moment in
          let net = ((lines role there).scene count).net in
          let last = laws.logs.last (setting base e role) net goes_on at (sure role there goes_on) s sees.owner in
          let f = (laws.logs.whole (setting base e role) net at).flown (record { log = s.log; seq = s.end.seq; pass = s.end.pass })
          (last.filed (omega arith)) in
          let named : f.0.name ≡ record { log = record { 0 = log_by role }; seq = s.end.seq; pass = s.end.pass } =
          f.2 ∙ ap (λ (l : LogId). record { log = l; seq = s.end.seq; pass = s.end.pass }) sees.own.log in
          inr (record {
            of = record { role = role; there = there; own = refl };
            segment = f.0;
            among = f.1;
            named = sym named;
            grouped = sym (laws.logs.ends (setting base e role) net at s sees.owner f.0 f.1 named);
          })

  -- an owner in this phase, which serves log l where it serves
  module _ {P S : Type 0} (serving : S → P) (its_log : S → LogState) (one : (a b : S) → serving a ≡ serving b → a ≡ b) (phase : P) (l : ℕ) where
    -- an end that whichever Report bears
    pub record Reported : Type 0 where
      end : End
      is_end : (s : S) → phase ≡ serving s → (its_log s).end ≡ end
      flew : EndFlew logged part count l end

    -- while it doesn't serve any will do
    none_reported : ((s : S) → phase ≡ serving s → ⊥) → Reported
    none_reported never = record { end = no_end; is_end = λ s serves. absurd (never s serves); flew = inl refl }

    log_reported : (s : S) → phase ≡ serving s → EndFlew logged part count l (its_log s).end → Reported
    log_reported s fact flew = record {
      end = (its_log s).end;
      is_end = λ t serves. ap (λ x. (its_log x).end) (one t s (sym serves ∙ fact));
      flew = flew;
    }

  -- ---- one node takes its step

  -- what the node, and each packet that it sends, refers to then
  pub record StepRefers (node : AnyNode) (what : Do) : Type 0 where
    pub node_refers : AnyRefers r (any_step node what).node
    pub packets : AllByRecursion (PacketRefers r) (any_step node what).packets

  module _ (c : ℕ) (there : There logged part (OfClient c)) (node : ClientNode) (what : Do)
      (here : node_in (moment e count).nodes (place_of k (Client c)) ≡ Some (any.Client node)) where
    abbrev g : Setting
    g = setting base e (OfClient c)

    abbrev w : Scene
    w = (lines (OfClient c) there).scene count

    agrees : client_log.ClientAgrees g c w node.phase
    agrees = (((lines (OfClient c) there).stands count).seen (Client c) (any.Client node) here refl).agrees

    number : (lasting_of node.phase).number ≡ c
    number = by node.phase agrees
      where
        by : (p : client_phase.Phase) → client_log.ClientAgrees g c w p → (lasting_of p).number ≡ c
        by (clients.Down l) h = h.0.number
        by (clients.Opening l o) h = h.0.number
        by (clients.Serving s) h = h.0.number

    one_serving : (a b : ServingClient) → clients.Serving a ≡ clients.Serving b → a ≡ b
    one_serving a b h = cc

    reported : Reported clients.Serving (λ s. s.log) one_serving node.phase c
    reported = by node.phase refl
      where
        by : (p : client_phase.Phase) → node.phase ≡ p → Reported clients.Serving (λ s. s.log) one_serving node.phase c
        by (clients.Down l) fact = none_reported clients.Serving (λ s. s.log) one_serving node.phase c (λ s h. absurd cc)
        by (clients.Opening l o) fact = none_reported clients.Serving (λ s. s.log) one_serving node.phase c (λ s h. absurd cc)
        by (clients.Serving s) fact = log_reported clients.Serving (λ s. s.log) one_serving node.phase c s fact
            (end_flew (OfClient c) there refl c s.log (subst (client_log.ClientAgrees g c w) fact agrees).1)

    pub client_step_refers : StepRefers (any.Client node) what
    client_step_refers = record {
      node_refers = tt;
      packets = reports_refer r (Client c) reported.end reported.flew (any_step (any.Client node) what).packets
          (subst (λ n. AllByRecursion (ReportsOf (Client n) reported.end) (any_step (any.Client node) what).packets) number
          (clients_report reported.end node what reported.is_end));
    }

  module _ (node : CleanerNode) (what : Do) (here : node_in (moment e count).nodes (place_of k Cleaner) ≡ Some (any.Cleaner node)) where
    cleaner_agrees : cleaner_log.CleanerAgrees (setting base e OfCleaner) ((lines OfCleaner tt).scene count) node.phase
    cleaner_agrees = (((lines OfCleaner tt).stands count).seen Cleaner (any.Cleaner node) here).agrees

    one_emptying : (a b : Emptying) → cleaning.Serving a ≡ cleaning.Serving b → a ≡ b
    one_emptying a b h = cc

    cleaner_reported : Reported cleaning.Serving (λ s. s.log) one_emptying node.phase cleaners_number
    cleaner_reported = by node.phase refl
      where
        by : (p : cleaning_phase.Phase) → node.phase ≡ p → Reported cleaning.Serving (λ s. s.log) one_emptying node.phase cleaners_number
        by (cleaning.Down l) fact = none_reported cleaning.Serving (λ s. s.log) one_emptying node.phase cleaners_number (λ s h. absurd cc)
        by (cleaning.Opening l o) fact = none_reported cleaning.Serving (λ s. s.log) one_emptying node.phase cleaners_number (λ s h. absurd cc)
        by (cleaning.Serving s) fact = log_reported cleaning.Serving (λ s. s.log) one_emptying node.phase cleaners_number s fact
            (end_flew OfCleaner tt refl cleaners_number s.log
            (subst (cleaner_log.CleanerAgrees (setting base e OfCleaner) ((lines OfCleaner tt).scene count)) fact cleaner_agrees).log)

    pub cleaner_step_refers : StepRefers (any.Cleaner node) what
    cleaner_step_refers = record {
      node_refers = tt;
      packets = reports_refer r Cleaner cleaner_reported.end cleaner_reported.flew (any_step (any.Cleaner node) what).packets
          (cleaner_reports cleaner_reported.end node what cleaner_reported.is_end);
    }

  module _ (j : ℕ) (there : There logged part (OfManager j)) (node : ManagerNode) (what : Do)
      (here : node_in (moment e count).nodes (place_of k (Manager j)) ≡ Some (any.Manager node)) where
    abbrev gm : Setting
    gm = setting base e (OfManager j)

    abbrev wm : Scene
    wm = (lines (OfManager j) there).scene count

    manager_agrees : manager_log.ManagerAgrees gm j wm node.phase
    manager_agrees = ((lines (OfManager j) there).stands count).seen (Manager j) (any.Manager node) here refl

    one_manager : (a b : ManagerNode) → Some (any.Manager a) ≡ Some (any.Manager b) → a ≡ b
    one_manager a b fact = cc

    placed : places.ManagerAgrees part texts.text joint.idx.net node.phase
    placed = subst (λ (m : ManagerNode). places.ManagerAgrees part texts.text joint.idx.net m.phase)
        (one_manager (joint.idx.manager j) node (sym (joint.index_stands.placed.managers j there.0 there.1) ∙ here))
        (joint.index_stands.managers j there.0 there.1)

    -- the segment in flight flew
    flies_by : (s : Serving) → manager_log.Stands gm j wm s → places.ServingAgrees part texts.text joint.idx.net s → FlightRefers r s
    flies_by s sees at = by s.log.flight refl sees.log.own.flight held
      where
        held : IfSome s.log.flight (λ (f : FlightState). tables.In f.segment wm.net.flown)
        held = subst (OwnerFlew wm.net.flown) sees.log.owner (laws.logs.held gm wm.net ((lines (OfManager j) there).stands count).moment)

        same : s.writer.log ≡ gm.log
        same = sym at.writer.same_log ∙ sees.log.own.log

        by : (o : Option FlightState) → s.log.flight ≡ o → IfSome o (λ f. f.segment.name.log ≡ gm.log)
            → IfSome o (λ (f : FlightState). tables.In f.segment wm.net.flown)
            → IfSome o (λ (f : FlightState). Flew logged part count (part_at s.writer.log (end_of f.segment)))
        by None fact own flew = tt
        by (Some f) fact own flew = record {
          of = record { role = OfManager j; there = there; own = same };
          segment = f.segment;
          among = flew;
          named = ap (λ (l : LogId). record { log = l; seq = f.segment.name.seq; pass = f.segment.name.pass }) (same ∙ sym own);
          grouped = refl;
        }

    flies : PhaseFlies r node.phase
    flies = by node.phase manager_agrees placed
      where
        by : (p : manager_phase.Phase) → manager_log.ManagerAgrees gm j wm p → places.ManagerAgrees part texts.text joint.idx.net p → PhaseFlies r p
        by (managers.Down kept) h at = tt
        by (managers.Waiting kept hello) h at = tt
        by (managers.Serving s) h at = flies_by s h at.0

    pub manager_step_refers : AnyRefers r (any.Manager node) → DoRefers r what → StepRefers (any.Manager node) what
    manager_step_refers before told = (let t = managers_keep r node what before flies told in record { node_refers = t.node; packets = t.packets })

  -- ---- whichever node it is

  module _ (place : ℕ) (node : AnyNode) (fact : slice_get (moment e count).nodes place ≡ Some node) (what : Do) (before : AnyRefers r node)
      (told : DoRefers r what)
    where
      here : (name : NodeId) → place_of k name ≡ Some place → node_in (moment e count).nodes (place_of k name) ≡ Some node
      here name at = ap (node_in (moment e count).nodes) at ∙ fact

      is_that : (name : NodeId) → place_of k name ≡ Some place → (x : AnyNode) → node_in (moment e count).nodes (place_of k name) ≡ Some x → x ≡ node
      is_that name at x there = one_node x node (sym there ∙ here name at)

      pub steps_refer : (name : NodeId) → place_of k name ≡ Some place → StepRefers node what
      steps_refer (Client c) at =
          let b : Behind 0 k.clients c place = behind 0 k.clients c place at in
          let there = joint.tokens_stand.placed.clients c b.some (let limit = b.within in omega arith) in
          subst (λ x. StepRefers x what) (is_that (Client c) at (any.Client (joint.tok.client c)) there)
          (client_step_refers c (b.some, b.within) (joint.tok.client c) what there)
      steps_refer (Manager j) at =
          let b : Behind k.clients k.managers j place = behind k.clients k.managers j place at in
          let there = joint.tokens_stand.placed.managers j b.some b.within in
          let same = is_that (Manager j) at (any.Manager (joint.tok.manager j)) there in
          subst (λ x. StepRefers x what) same
          (manager_step_refers j (b.some, b.within) (joint.tok.manager j) what there (subst (AnyRefers r) (sym same) before) told)
      steps_refer (Server v) at =
          let b : Behind (k.clients + k.managers) k.servers v place = behind (k.clients + k.managers) k.servers v place at in
          let server = joint.tokens_stand.placed.servers v b.some b.within in
          subst (λ x. StepRefers x what) (is_that (Server v) at (any.Server server.0) server.1) (record {
            node_refers = tt;
            packets = server_refers r server.0.number (takes server.0 what).outs (laws.index.nodes.server server.0 what);
          })
      steps_refer Cleaner at =
          let there = joint.tokens_stand.placed.cleaner in
          subst (λ x. StepRefers x what) (is_that Cleaner at (any.Cleaner joint.tok.cleaner) there) (cleaner_step_refers joint.tok.cleaner what there)
      steps_refer Registry at =
          let there = joint.tokens_stand.placed.registry in
          let same = is_that Registry at (any.Registry joint.tok.registry) there in
          subst (λ x. StepRefers x what) same
          (let t = registry_keeps r joint.tok.registry what (subst (AnyRefers r) (sym same) before) told in
          record { node_refers = t.node; packets = t.packets })

  -- ---- an event

  told_so : (event : Event) → Coming logged part count event → ReferencesStand logged part count
      → DoRefers r (what_of event)
  told_so event x all = by (what_of event) refl
    where
      by : (d : Do) → what_of event ≡ d → DoRefers r d
      by Begin fact = tt
      by (Deliver q) fact = all.each_packet q (brought_by (moment e count) event x.may q fact).0
      by Tick fact = tt

  next_refers : (event : Event) → Coming logged part count event → ReferencesStand logged part count
      → AllRefer r (next_world any_step (moment e count) event).nodes (next_world any_step (moment e count) event).sent
  next_refers event x all =
      next_keeps any_step (λ nodes sent acts. AllRefer r nodes sent) (moment e count) event all
      (λ place node clock at fact.
      let t = steps_refer place node fact (what_of event) (all.each_node node (in_list (moment e count).nodes place node fact)) (told_so event x all)
      (node_of event)
      (subst (λ c. place_of c (node_of event) ≡ Some place) x.cluster at) in
      record {
        each_node = λ y among. ⊎_elim (λ old. all.each_node y old) (λ new. subst (AnyRefers r) (sym new) t.node_refers)
            (in_set (moment e count).nodes place (any_step node (what_of event)).node y among);
        each_packet = λ p among. ⊎_elim (λ old. all.each_packet p old)
            (λ new. clocked r clock (any_step node (what_of event)).packets t.packets p new)
            (in_append (moment e count).sent (map (sent_at clock) (any_step node (what_of event)).packets) p among);
      })

  -- What Joint carries goes on.
  pub references_go_on : (event : Event) → slice_get e.events count ≡ Some event → Coming logged part count event
      → ReferencesStand logged part count
      → ReferencesStand logged part (suc count)
  references_go_on event fact x all =
      all_rise r (its logged part (suc count)) (weaker_then logged part count) (moment e (suc count)).nodes
      (moment e (suc count)).sent
      (subst (λ (w : World AnyNode). AllRefer r w.nodes w.sent) (sym (moment_next e count event fact)) (next_refers event x all))

  -- so it does where nothing happens any more
  pub references_stay : moment e (suc count) ≡ moment e count → ReferencesStand logged part count
      → ReferencesStand logged part (suc count)
  references_stay same all =
      all_rise r (its logged part (suc count)) (weaker_then logged part count) (moment e (suc count)).nodes
      (moment e (suc count)).sent
      (subst (λ (w : World AnyNode). AllRefer r w.nodes w.sent) (sym same) all)
