-- An event that a client takes, in both small worlds of a slot and in that of its log: what is known of its log then, and what is known of its fall.
use Rattle.std.proofs.Common.{◌≡◌, ℕ, suc, ◌++◌, true, List, Option, None, Some, IfSome, slice_get, refl, sym, ap, subst, ◌∙◌}
use Rattle.node_logs.specs.client_log_tie.ClientEvents.{ServesStraight}
use Rattle.node_logs.specs.client_log_tie.Owner as log_tie
use Rattle.node_logs.specs.client_log_tie.Owner.{Scene}
use Rattle.client_node.specs.declared.client.Client.{Client as ClientNode}
use Rattle.client_node.specs.declared.phase.Phase.TheVariants.{Serving as Serves}
use Rattle.client_node.specs.Phases.{client_step, lasting_of, takes}
use Rattle.client_serving.specs.declared.serving.Serving as serving
use Rattle.core_world.specs.AnyNode.{any_step}
use Rattle.core_world.specs.declared.any_node.AnyNode.{AnyNode}
use Rattle.core_world.specs.declared.any_node.AnyNode.TheVariants as any
use Rattle.index_tie.specs.Net as index
use Rattle.log_flight.specs.Flights.{FlightState}
use Rattle.log_law.specs.Ends.{IsFlight}
use Rattle.log_law.specs.Events.{Runs}
use Rattle.log_law.specs.Laws.{Moment}
use Rattle.log_law.specs.Restarts.{IsSureRun, last_flight}
use Rattle.log_law.specs.Tails.{then_on}
use Rattle.log_protocol.specs.Tables.{In}
use Rattle.log_tie.specs.Setting.{Setting}
use Rattle.node_base.specs.Effects.{acts_of}
use Rattle.node_base.specs.declared.effects.Effect.{Effect}
use Rattle.node_slots.specs.node_tie.ClientEvents as tokens
use Rattle.node_slots.specs.owner_index_tie.ClientEvents as owner
use Rattle.run_laws.specs.reopening_law.Falls.{FallKnown}
use Rattle.run_laws.specs.reopening_law.Reopens.{TellsApart}
use Rattle.run_laws.specs.segment_tie.Clients.{ClientWrites}
use Rattle.run_laws.specs.segment_tie.Segments.{IsOriginal}
use Rattle.version_model.specs.declared.act.Act.{Act}
use Rattle.version_model.specs.declared.act.Act.TheVariants.{Filed as ActsFiled}
use Rattle.wire_msg.specs.declared.packet.Do.{Do}
use Rattle.world_base.specs.Cluster.{place_of}
use Rattle.world_base.specs.declared.cluster.Cluster.{Cluster}
use Rattle.world_base.specs.declared.event.Event.{Event}
use Rattle.world_base.specs.declared.world.World.{World}
use Rattle.world_base.specs.Events.{node_of, what_of}
use Rattle.world_base.specs.NextWorld.{next_world}
use Rattle.run_laws.proofs.world_index.Frames.{client_number}
use Rattle.run_laws.specs.world_index.Owes.{IndexOwes, Makes}
use Rattle.run_laws.proofs.world_law.Owes.{BooksGo}
use Rattle.headline.specs.Moments.{moment, node_in}
use Rattle.run_laws.specs.world_lines.Lines.{IsSure, SaysBlocks}
use Rattle.run_laws.specs.world_lines.Turns.{AllSo}
use Rattle.headline.specs.Logs.{owns}
use Rattle.run_laws.specs.world_logs.Lines.{Line, setting}
use Rattle.headline.specs.Logs.Role.{OfClient}
use Rattle.run_laws.proofs.world_reads.After.{AllKnown, KnownAt}
use Rattle.run_laws.proofs.world_reads.AfterClients as after
use Rattle.run_laws.proofs.world_reads.AfterOwn.{OwnAfter}
use Rattle.run_laws.proofs.reopening_law.Flights.{served_last}
use Rattle.run_laws.proofs.world_reads.CleanerMoment.{upto_before}
use Rattle.run_laws.proofs.world_reads.CleanerSaying.{says_once}
use Rattle.run_laws.proofs.world_reads.Taking.{Took, did_then, moment_next, node_then, took_it}
use Rattle.run_laws.proofs.world_reads.TurnBoth.{Both, IsOwed, Turned}
use Rattle.run_laws.proofs.world_reads.TurnMoment as now
use Rattle.run_laws.proofs.world_reads.TurnMoment.{same_client}
use Rattle.run_laws.specs.world_reads.Joint.{There, flew_at, k}
use Rattle.run_laws.proofs.world_reads.Joint.{IsSureUpto}
use Rattle.xfs_base.specs.declared.node.NodeId.TheVariants.{Client}
use Rattle.xfs_base.proofs.Booleans.{equal_itself}
use Rattle.run_laws.proofs.world_reads.Below.{Below}
use Rattle.run_laws.specs.world_reads.LoggedRuns.{LoggedRun}

module _ (laws : Below) (logged : LoggedRun) (part : ℕ) (apart : TellsApart logged.base) (count : ℕ) (event : Event)
    (at_event : slice_get logged.estate.events count ≡ Some event) (cluster : (moment logged.estate count).cluster ≡ k logged part) (b : Both logged part count)
    (sure : IsSureUpto logged part (suc count)) (c : ℕ) (there : There logged part (OfClient c)) (own : node_of event ≡ Client c) (x : ClientNode)
    (took : Took (moment logged.estate count) event (any.Client x)) (owed : IsOwed logged part count event b (any.Client x))
    (turned : Turned logged part count event b (any.Client x) owed) where
  open logged use {base, estate as e, lines, texts}

  abbrev cl : Cluster
  cl = k logged part

  abbrev g : Setting
  g = setting base e (OfClient c)

  abbrev line : Line base e (OfClient c)
  line = lines (OfClient c) there

  abbrev w : Scene
  w = line.scene count

  abbrev v : Scene
  v = line.scene (suc count)

  abbrev at : Moment g w.net
  at = (line.stands count).moment

  abbrev goes : Runs g w.net v.net
  goes = line.goes count

  abbrev what : Do
  what = what_of event

  abbrev outs : List Effect
  outs = (takes x what).outs

  abbrev d : Both logged part (suc count)
  d = turned.then

  -- ---- the client before and after

  is_client : b.tok.client c ≡ x
  is_client =
      same_client (b.tok.client c) x
      (sym (now.client_here logged part count b c there)
      ∙ subst (λ name. node_in (moment e count).nodes (place_of cl name) ≡ Some (any.Client x)) own
      (took_it cl (moment e count) cluster event (any.Client x) took))

  here_then : node_in (moment e (suc count)).nodes (place_of cl (Client c)) ≡ Some (any.Client (client_step x what).node)
  here_then =
      let later : AnyNode = any.Client (client_step x what).node in
      subst (λ (y : World AnyNode). node_in y.nodes (place_of cl (Client c)) ≡ Some later) (sym (moment_next e count event at_event))
      (subst (λ name. node_in (next_world any_step (moment e count) event).nodes (place_of cl name) ≡ Some later) own
      (node_then cl (moment e count) cluster event (any.Client x) took))

  is_then : d.tok.client c ≡ (client_step x what).node
  is_then = same_client (d.tok.client c) (client_step x what).node
      (sym (now.client_here logged part (suc count) d c there) ∙ here_then)

  sees : log_tie.ClientAgrees g c w x.phase
  sees = subst (λ (a : ClientNode). log_tie.ClientAgrees g c w a.phase) is_client (now.client_sees logged part count b c there).agrees

  then_sees : log_tie.ClientAgrees g c v (takes x what).state
  then_sees = subst (λ (a : ClientNode). log_tie.ClientAgrees g c v a.phase) is_then
      (now.client_sees logged part (suc count) d c there).agrees

  held : tokens.ClientAgrees true part c b.tok.net x.phase
  held = subst (λ (a : ClientNode). tokens.ClientAgrees true part c b.tok.net a.phase) is_client
      (now.client_held logged part count b c there)

  then_held : tokens.ClientAgrees true part c d.tok.net (takes x what).state
  then_held = subst (λ (a : ClientNode). tokens.ClientAgrees true part c d.tok.net a.phase) is_then
      (now.client_held logged part (suc count) d c there)

  indexed : owner.ClientAgrees part texts.text b.idx.net c x.phase
  indexed = subst (λ (a : ClientNode). owner.ClientAgrees part texts.text b.idx.net c a.phase) is_client
      (now.client_indexed logged part count b c there)

  then_indexed : owner.ClientAgrees part texts.text d.idx.net c (takes x what).state
  then_indexed = subst (λ (a : ClientNode). owner.ClientAgrees part texts.text d.idx.net c a.phase) is_then
      (now.client_indexed logged part (suc count) d c there)

  -- ---- its log

  straight : ServesStraight goes
  straight = line.straight count event at_event (sym own)

  sure_before : IsSure texts.text c g w.net
  sure_before = now.client_sure logged part count b c there (upto_before logged part count sure)

  sure_then : IsSure texts.text c g v.net
  sure_then = now.client_sure logged part (suc count) d c there sure

  calm : IsSureRun (then_on at.run goes)
  calm = subst (λ (m : Moment g v.net). IsSureRun m.run) (line.joined count) (sure (OfClient c) there refl)

  acts_filed : AllSo (λ name. In name v.net.filed) outs
  acts_filed = laws.lines.acts_are_done v.net (Client (lasting_of x.phase).number) outs
      (λ name among. (line.stands (suc count)).filed name
      (did_then e c count event (any.Client x) at_event (ap (owns c) own ∙ equal_itself c) took (ActsFiled name) among))

  index_owed : IndexOwes part texts.text b.idx.asked b.idx.net (Client c) (any.Client x) what
  index_owed = subst (λ name. IndexOwes part texts.text b.idx.asked b.idx.net name (any.Client x) what) own owed.index

  says : (o : Option FlightState) → IfSome o (λ f. IsOriginal f.segment) → IfSome o (λ f. SaysBlocks f.segment)
  says None kind = tt
  says (Some f) kind = says_once f.segment kind.tells

  -- what it acts to be filed is what it has in flight
  flights : IfSome (last_flight at.run) (λ f. IsOriginal f.segment) → (s : serving.Serving) → x.phase ≡ Serves s → AllSo (IsFlight s.log) outs
  flights kind s fact =
      let flies = served_last g _ w.net at.run s.log (subst (log_tie.ClientAgrees g c w) fact sees).1.owner in
      (laws.filing.clients_file_their_flights part texts.text g c w b.idx.net x what s there.0 (now.below logged part count b c there)
      sure_before
      (now.client_sees logged part count b c there).room
      (subst (λ (o : Option FlightState). IfSome o (λ f. SaysBlocks f.segment)) flies
      (says (last_flight at.run) kind)) sees fact indexed index_owed.gets).flights

  makes : Makes part texts.text b.idx.net d.idx.net (Client c) (any.Client x) what
  makes = subst (λ name. Makes part texts.text b.idx.net d.idx.net name (any.Client x) what) own turned.makes

  books : BooksGo true owed.adopted b.tok.net d.tok.net (Client c) (any.Client x) what
  books = subst (λ name. BooksGo true owed.adopted b.tok.net d.tok.net name (any.Client x) what) own turned.books

  module _ (writes : ClientWrites (d.tok.client c).phase) (all : AllKnown logged part count b.tok.net.books b.idx.net.filed)
      (fell : FallKnown (moment e count).acts c (flew_at logged part (OfClient c) there count) (b.tok.client c).phase) where
    its : KnownAt logged part count b.tok.net.books b.idx.net.filed (OfClient c) there
    its = all (OfClient c) there refl

    fall : FallKnown b.tok.net.acts c (last_flight at.run) x.phase
    fall = subst (λ (acts : List Act). FallKnown acts c (last_flight at.run) x.phase) (sym b.tokens_stand.acts)
        (subst (λ (a : ClientNode). FallKnown (moment e count).acts c (last_flight at.run) a.phase) is_client fell)

    writes_then : ClientWrites (takes x what).state
    writes_then = subst (λ (a : ClientNode). ClientWrites a.phase) is_then writes

    -- what is known of its log then
    pub client_known : KnownAt logged part (suc count) d.tok.net.books d.idx.net.filed (OfClient c) there
    client_known =
        subst (λ (m : Moment g v.net). OwnAfter IsOriginal c m d.tok.net.books d.idx.net.filed) (sym (line.joined count))
        (after.client_after laws part texts.text c g refl apart w v at goes straight sure_then calm x what sees then_sees b.tok.net d.tok.net held
        then_held books.own b.idx.net d.idx.net indexed then_indexed (ap (λ (n : index.Net). n.filed) makes) turned.grown.filed acts_filed (flights its.kind)
        writes_then its.known its.tells
        its.kind fall)

    -- and of its fall, where it doesn't serve
    number : (lasting_of x.phase).number ≡ c
    number = client_number part texts.text b.idx.net c x.phase indexed

    acts_then : b.tok.net.acts ++ acts_of (Client c) outs ≡ (moment e (suc count)).acts
    acts_then =
        ap (λ acts. acts ++ acts_of (Client c) outs) b.tokens_stand.acts
        ∙ (ap (λ number. (moment e count).acts ++ acts_of (Client number) outs) (sym number)
        ∙ sym (ap (λ (y : World AnyNode). y.acts) (moment_next e count event at_event) ∙ took.acts))

    pub client_fell : tokens.IsAway (d.tok.client c).phase
        → FallKnown (moment e (suc count)).acts c (flew_at logged part (OfClient c) there (suc count)) (d.tok.client c).phase
    client_fell gone =
        subst (λ (a : ClientNode). FallKnown (moment e (suc count)).acts c (flew_at logged part (OfClient c) there (suc count)) a.phase)
        (sym is_then)
        (subst (λ (m : Moment g v.net). FallKnown (moment e (suc count)).acts c (last_flight m.run) (takes x what).state) (sym (line.joined count))
        (subst (λ (acts : List Act). FallKnown acts c (last_flight (then_on at.run goes)) (takes x what).state) acts_then
        (after.fell_after laws part texts.text c g refl apart w v at goes straight sure_then calm x what sees then_sees b.tok.net d.tok.net held
        then_held books.own b.idx.net d.idx.net indexed then_indexed (ap (λ (n : index.Net). n.filed) makes) turned.grown.filed acts_filed (flights its.kind)
        writes_then its.known its.tells
        its.kind fall number (subst (λ (a : ClientNode). tokens.IsAway a.phase) is_then gone))))
