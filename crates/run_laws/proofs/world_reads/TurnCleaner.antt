-- An event that the cleaner takes, in both small worlds of a slot and in that of its log: what is known of its log then.
use Rattle.std.proofs.Common.{◌≡◌, ℕ, suc, ◌≤◌, ◌<◌, inr, ◌-◌, Bool, true, false, nat_le, List, Option, None, Some, IfSome, if◌then◌else◌, slice_get, refl, sym, ap, subst, ◌∙◌, arith}
use Rattle.std.proofs.lemmas.Bool.{leb-true}
use Rattle.cleaner_serving.specs.declared.emptying.Emptying.{Emptying}
use Rattle.node_logs.specs.cleaner_log_tie.Owner as log_tie
use Rattle.cleaner_node.specs.CleanerEvents.{Went_to, cleaner_step, happens, lasting_of, phase_has_room, takes}
use Rattle.cleaner_node.specs.declared.cleaner.Cleaner.{Cleaner as CleanerNode}
use Rattle.cleaner_node.specs.declared.cleaner.Phase.{Phase}
use Rattle.cleaner_node.specs.declared.cleaner.Phase.TheVariants.{Down, Opening, Serving as Serves}
use Rattle.cleaner_job.specs.declared.lasting.Lasting.{Lasting}
use Rattle.cleaner_job.specs.Lasting.{lasting_has_room}
use Rattle.node_logs.specs.client_log_tie.ClientEvents.{ServesStraight}
use Rattle.node_logs.specs.client_log_tie.Owner.{Scene}
use Rattle.core_world.specs.AnyNode.{any_step}
use Rattle.core_world.specs.declared.any_node.AnyNode.{AnyNode}
use Rattle.core_world.specs.declared.any_node.AnyNode.TheVariants as any
use Rattle.log_flight.specs.Flights.{FlightState}
use Rattle.log_law.specs.Ends.{IsFlight}
use Rattle.log_law.specs.Events.{Runs}
use Rattle.log_law.specs.Laws.{Moment}
use Rattle.log_law.specs.Restarts.{IsSureRun, last_flight}
use Rattle.log_law.specs.Tails.{then_on}
use Rattle.log_protocol.specs.Tables.{In}
use Rattle.log_tie.specs.Setting.{Setting}
use Rattle.node_base.specs.Room.{has_room}
use Rattle.node_base.specs.declared.effects.Effect.{Effect}
use Rattle.node_slots.specs.node_tie.CleanerEvents.{CleanerStands}
use Rattle.node_slots.specs.node_tie.CleanerLogs.{CleanerCopies, its_log}
use Rattle.node_slots.specs.owner_index_tie.CleanerEvents as owner
use Rattle.run_laws.specs.reopening_law.Reopens.{TellsApart}
use Rattle.run_laws.specs.segment_tie.Cleaners.{CleanerWrites}
use Rattle.run_laws.specs.segment_tie.Segments.{IsCopies}
use Rattle.token_protocol.specs.Basics as basics
use Rattle.version_model.specs.declared.act.Act.TheVariants.{Filed as ActsFiled}
use Rattle.wire_msg.specs.declared.packet.Do.{Do}
use Rattle.wire_msg.specs.declared.packet.Do.TheVariants.{Deliver}
use Rattle.wire_msg.specs.declared.packet.Packet.{Packet}
use Rattle.world_base.specs.Cluster.{place_of}
use Rattle.world_base.specs.declared.cluster.Cluster.{Cluster}
use Rattle.world_base.specs.declared.event.Event.{Event}
use Rattle.world_base.specs.declared.world.World.{World}
use Rattle.world_base.specs.Events.{node_of, what_of}
use Rattle.world_base.specs.NextWorld.{next_world}
use Rattle.world_base.specs.Runs.{MayHappen}
use Rattle.run_laws.proofs.world_index.Gets.{cleaner_gets}
use Rattle.run_laws.proofs.world_index.Senders.{IsSentBy, kinds_of_tokens}
use Rattle.run_laws.specs.world_index.Asking.{CleanerAsks}
use Rattle.run_laws.specs.world_index.Owes.{IndexOwes, Makes}
use Rattle.run_laws.specs.world_index.Standing.{SentBy, WasAsked}
use Rattle.run_laws.specs.world_law.Standing.{epoch_now}
use Rattle.run_laws.proofs.world_law.Owes.{BooksGo}
use Rattle.headline.specs.Moments.{moment, node_in}
use Rattle.run_laws.specs.world_lines.Lines.{IsSure, SaysBlocks}
use Rattle.run_laws.specs.world_lines.Turns.{AllSo}
use Rattle.headline.specs.Logs.{owns}
use Rattle.run_laws.specs.world_logs.Lines.{Line, setting}
use Rattle.headline.specs.Logs.Role.{OfCleaner}
use Rattle.run_laws.proofs.world_reads.After.{AllKnown, KnownAt}
use Rattle.run_laws.proofs.world_reads.AfterCleaner as after
use Rattle.run_laws.proofs.world_reads.AfterOwn.{OwnAfter}
use Rattle.run_laws.proofs.reopening_law.Flights.{served_last}
use Rattle.run_laws.proofs.world_reads.CleanerMoment.{sure_at, upto_before}
use Rattle.run_laws.proofs.world_reads.CleanerPromises.{promised_then}
use Rattle.run_laws.proofs.world_reads.CleanerSaying.{says_once}
use Rattle.run_laws.proofs.world_reads.Taking.{Took, did_then, moment_next, node_then, took_it}
use Rattle.run_laws.proofs.world_reads.TurnBoth.{AdoptsThere, Both, IsOwed, Turned, sent_before}
use Rattle.run_laws.proofs.world_reads.TurnMoment as now
use Rattle.run_laws.proofs.world_reads.TurnMoment.{same_cleaner}
use Rattle.run_laws.specs.world_reads.Joint.{k}
use Rattle.run_laws.proofs.world_reads.Joint.{IsSureUpto}
use Rattle.xfs_base.specs.declared.node.NodeId.TheVariants.{Cleaner}
use Rattle.xfs_base.specs.Limits.{counter_room, u32_end, slot_count}
use Rattle.xfs_base.specs.Steps.{still}
use Rattle.xfs_base.proofs.Booleans.{and_first, and_second}
use Rattle.run_laws.proofs.world_reads.Below.{Below}
use Rattle.run_laws.specs.world_reads.LoggedRuns.{LoggedRun}

-- ---- counters

below_end : (x end room : ℕ) → nat_le x (end - room) ≡ true → 0 < room → 0 < end → x < end
below_end x end room h some more = (let limit = leb-true x (end - room) h in omega arith)

lasting_below : (l : Lasting) → lasting_has_room l ≡ true → l.questions.last < u32_end
lasting_below l h = below_end l.questions.last u32_end counter_room (and_second (has_room l.inc) (has_room l.questions.last) h) (omega arith) (omega arith)

room_below : (p : Phase) → phase_has_room p ≡ true → (lasting_of p).questions.last < u32_end
room_below (Down l) h = lasting_below l h
room_below (Opening l o) h = lasting_below l (and_first (lasting_has_room l) _ h)
room_below (Serves e) h = lasting_below e.lasting (and_first (lasting_has_room e.lasting) _ h)

module _ (laws : Below) (logged : LoggedRun) (part : ℕ) (of_eight : part < slot_count) (apart : TellsApart logged.base) (count : ℕ) (event : Event)
    (at_event : slice_get logged.estate.events count ≡ Some event) (cluster : (moment logged.estate count).cluster ≡ k logged part)
    (may : MayHappen (moment logged.estate count) event) (b : Both logged part count) (sure : IsSureUpto logged part (suc count))
    (own : node_of event ≡ Cleaner) (x : CleanerNode) (took : Took (moment logged.estate count) event (any.Cleaner x))
    (owed : IsOwed logged part count event b (any.Cleaner x)) (turned : Turned logged part count event b (any.Cleaner x) owed) where
  open logged use {base, estate as e, lines, texts}

  abbrev cl : Cluster
  cl = k logged part

  abbrev g : Setting
  g = setting base e OfCleaner

  abbrev line : Line base e OfCleaner
  line = lines OfCleaner tt

  abbrev w : Scene
  w = line.scene count

  abbrev v : Scene
  v = line.scene (suc count)

  abbrev at : Moment g w.net
  at = (line.stands count).moment

  abbrev goes : Runs g w.net v.net
  goes = line.goes count

  abbrev what : Do
  what = what_of event

  abbrev went : Went_to
  went = takes x.peers x.phase what

  abbrev outs : List Effect
  outs = went.outs

  abbrev d : Both logged part (suc count)
  d = turned.then

  -- ---- the cleaner before and after

  is_cleaner : b.tok.cleaner ≡ x
  is_cleaner =
      same_cleaner b.tok.cleaner x
      (sym (now.cleaner_here logged part count b)
      ∙ subst (λ name. node_in (moment e count).nodes (place_of cl name) ≡ Some (any.Cleaner x)) own
      (took_it cl (moment e count) cluster event (any.Cleaner x) took))

  here_then : node_in (moment e (suc count)).nodes (place_of cl Cleaner) ≡ Some (any.Cleaner (cleaner_step x what).node)
  here_then =
      let later : AnyNode = any.Cleaner (cleaner_step x what).node in
      subst (λ (y : World AnyNode). node_in y.nodes (place_of cl Cleaner) ≡ Some later) (sym (moment_next e count event at_event))
      (subst (λ name. node_in (next_world any_step (moment e count) event).nodes (place_of cl name) ≡ Some later) own
      (node_then cl (moment e count) cluster event (any.Cleaner x) took))

  is_then : d.tok.cleaner ≡ (cleaner_step x what).node
  is_then = same_cleaner d.tok.cleaner (cleaner_step x what).node
      (sym (now.cleaner_here logged part (suc count) d) ∙ here_then)

  sees : log_tie.CleanerAgrees g w x.phase
  sees = subst (λ (a : CleanerNode). log_tie.CleanerAgrees g w a.phase) is_cleaner (now.cleaner_owns logged part count b).agrees

  then_sees : log_tie.CleanerAgrees g v went.state
  then_sees = subst (λ (a : CleanerNode). log_tie.CleanerAgrees g v a.phase) is_then (now.cleaner_owns logged part (suc count) d).agrees

  held : CleanerCopies b.tok.net.books x.phase
  held = subst (λ (a : CleanerNode). CleanerCopies b.tok.net.books a.phase) is_cleaner (now.cleaner_copies logged part count b)

  then_held : CleanerCopies d.tok.net.books went.state
  then_held = subst (λ (a : CleanerNode). CleanerCopies d.tok.net.books a.phase) is_then (now.cleaner_copies logged part (suc count) d)

  indexed : owner.CleanerAgrees part b.idx.net texts.text x.phase
  indexed = subst (λ (a : CleanerNode). owner.CleanerAgrees part b.idx.net texts.text a.phase) is_cleaner
      (now.cleaner_indexed logged part count b)

  then_indexed : owner.CleanerAgrees part d.idx.net texts.text went.state
  then_indexed = subst (λ (a : CleanerNode). owner.CleanerAgrees part d.idx.net texts.text a.phase) is_then
      (now.cleaner_indexed logged part (suc count) d)

  asks : CleanerAsks (WasAsked b.idx.asked) x.phase
  asks = subst (λ (a : CleanerNode). CleanerAsks (WasAsked b.idx.asked) a.phase)
      (sym (now.cleaner_in_index logged part count b) ∙ is_cleaner) b.index_stands.asks

  -- ---- its log

  straight : ServesStraight goes
  straight = line.straight count event at_event (sym own)

  sure_before : IsSure texts.text its_log g w.net
  sure_before = sure_at logged part count (upto_before logged part count sure)

  sure_then : IsSure texts.text its_log g v.net
  sure_then = sure_at logged part (suc count) sure

  calm : IsSureRun (then_on at.run goes)
  calm = subst (λ (m : Moment g v.net). IsSureRun m.run) (line.joined count) (sure OfCleaner tt refl)

  acts_filed : AllSo (λ name. In name v.net.filed) outs
  acts_filed = laws.lines.acts_are_done v.net Cleaner outs
      (λ name among. (line.stands (suc count)).filed name
      (did_then e its_log count event (any.Cleaner x) at_event (ap (owns its_log) own) took (ActsFiled name) among))

  index_owed : IndexOwes part texts.text b.idx.asked b.idx.net Cleaner (any.Cleaner x) what
  index_owed = subst (λ name. IndexOwes part texts.text b.idx.asked b.idx.net name (any.Cleaner x) what) own owed.index

  known : (q : Packet) → what ≡ Deliver q → SentBy part b.idx.net b.idx.asked q.from q.body × IsSentBy q.from q.body
  known q fact =
      let among : basics.In q (moment e count).sent = sent_before (moment e count) event may q fact in
      (b.index_stands.facts q among, kinds_of_tokens cl part b.tok q (b.tokens_stand.facts q among))

  says : (o : Option FlightState) → IfSome o (λ f. IsCopies f.segment) → IfSome o (λ f. SaysBlocks f.segment)
  says None kind = tt
  says (Some f) kind = says_once f.segment kind.tells

  -- what it acts to be filed is what it has in flight
  flights : IfSome (last_flight at.run) (λ f. IsCopies f.segment) → (v : Emptying) → x.phase ≡ Serves v → AllSo (IsFlight v.log) outs
  flights kind v fact = by (phase_has_room x.phase) refl
    where
      flies : last_flight at.run ≡ v.log.flight
      flies = served_last g _ w.net at.run v.log (subst (log_tie.CleanerAgrees g w) fact sees).log.owner

      by : (t : Bool) → phase_has_room x.phase ≡ t → AllSo (IsFlight v.log) outs
      by true room = (laws.filing.cleaner_files_its_flights part texts.text g w b.idx.net x what v of_eight sure_before
          (now.cleaner_owns logged part count b).room
          (subst (λ (o : Option FlightState). IfSome o (λ f. SaysBlocks f.segment)) flies (says (last_flight at.run) kind)) sees fact indexed
          (cleaner_gets part texts.text b.idx.asked b.idx.net x.phase what indexed.phase asks (room_below x.phase room) known index_owed.gets)
          index_owed.asks).flights
      by false full = subst (λ (t : Bool). AllSo (IsFlight v.log) (if t then happens x.peers x.phase what else still x.phase).outs) (sym full) tt

  makes : Makes part texts.text b.idx.net d.idx.net Cleaner (any.Cleaner x) what
  makes = subst (λ name. Makes part texts.text b.idx.net d.idx.net name (any.Cleaner x) what) own turned.makes

  books : BooksGo true owed.adopted b.tok.net d.tok.net Cleaner (any.Cleaner x) what
  books = subst (λ name. BooksGo true owed.adopted b.tok.net d.tok.net name (any.Cleaner x) what) own turned.books

  adopts : AdoptsThere logged part count event b Cleaner (any.Cleaner x) owed.adopted
  adopts = subst (λ name. AdoptsThere logged part count event b name (any.Cleaner x) owed.adopted) own owed.adopts

  -- what is known of its log then
  pub cleaner_known : CleanerWrites d.tok.cleaner.phase → AllKnown logged part count b.tok.net.books b.idx.net.filed
      → KnownAt logged part (suc count) d.tok.net.books d.idx.net.filed OfCleaner tt
  cleaner_known writes all =
      let its : KnownAt logged part count b.tok.net.books b.idx.net.filed OfCleaner tt = all OfCleaner tt refl in
      subst (λ (m : Moment g v.net). OwnAfter IsCopies its_log m d.tok.net.books d.idx.net.filed) (sym (line.joined count))
      (after.cleaner_after laws part texts.text g refl apart w v at goes straight sure_then calm x what sees then_sees b.tok.net d.tok.net held then_held
      owed.adopted books.own adopts b.idx.net d.idx.net indexed then_indexed makes.filed turned.grown.filed acts_filed (flights its.kind)
      (subst (λ (a : CleanerNode). CleanerWrites a.phase) is_then writes) its.known its.tells its.kind)

  -- and what it promised
  pub promised_after : b.idx.net.promised ≤ b.tok.net.promised → d.idx.net.promised ≤ d.tok.net.promised
  promised_after low =
      promised_then part texts.text b.idx.net d.idx.net (epoch_now cl part d.tok) b.tok.net.promised d.tok.net.promised went.state then_indexed
      (subst (λ (a : CleanerNode). CleanerStands part d.tok.net.promised (epoch_now cl part d.tok) a.phase) is_then d.tokens_stand.cleaner.1) Cleaner what
      (λ y. y ≡ any.Cleaner x) (inr (any.Cleaner x, refl, makes))
      (λ cleaner same. ap (λ (a : CleanerNode). (takes a.peers a.phase what).state) (one_cleaner cleaner same)) low turned.since.promises
    where
      one_cleaner : (cleaner : CleanerNode) → any.Cleaner cleaner ≡ any.Cleaner x → cleaner ≡ x
      one_cleaner cleaner same = cc
