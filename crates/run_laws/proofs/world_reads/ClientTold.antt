-- What an event of a client is owed to the small world of tokens: what it reads of the place of a fetch is what the filed segment there says, and a reopening
-- that ends opens its log as the books do.
use Rattle.std.proofs.Common.{◌≡◌, ◌≤◌, ℕ, List, Some, refl, sym, ap, subst, ◌∙◌, arith}
use Rattle.node_logs.specs.client_log_tie.Owner as client_log
use Rattle.node_logs.specs.client_log_tie.Owner.{Scene}
use Rattle.client_node.specs.declared.client.Client.{Client as ClientNode}
use Rattle.client_node.specs.declared.phase.Phase.TheVariants as clients
use Rattle.client_node.specs.declared.phase.Phase.{Phase}
use Rattle.client_node.specs.Phases.{Went_to, takes}
use Rattle.client_serving.specs.declared.lasting.Lasting.{Lasting}
use Rattle.client_serving.specs.declared.serving.Serving.{Serving as ServingClient}
use Rattle.core_world.specs.declared.any_node.AnyNode.TheVariants as any
use Rattle.node_tellings.specs.entry_tie.ClientTells as entries
use Rattle.node_tellings.specs.entry_tie.Told.{told_by_rows}
use Rattle.headline.specs.Filed.{Filed, rows_at}
use Rattle.log_law.specs.Events.{Runs}
use Rattle.log_law.specs.Laws.{Moment}
use Rattle.log_law.specs.Restarts.{last_flight}
use Rattle.log_owner.specs.declared.opened.Opened.{Opened}
use Rattle.log_owner.specs.declared.opened.Progress.{Progress}
use Rattle.log_owner.specs.declared.opened.Progress.TheVariants as progress
use Rattle.log_owner.specs.declared.opening.Opening.{Opening}
use Rattle.log_protocol.specs.Tables.{In}
use Rattle.log_tie.specs.Setting.{Setting}
use Rattle.node_slots.specs.node_tie.ClientEvents.{EndsInTime, ReadsSo}
use Rattle.node_slots.specs.node_tie.ClientLogs.{EndsSo, ReopensSo}
use Rattle.run_laws.specs.place_law.Fetches.{PhaseReadsItsFetch}
use Rattle.run_laws.specs.place_law.Reads.{FiledKnown}
use Rattle.run_laws.specs.reading_law.Readings.{cuts_at}
use Rattle.node_tellings.specs.reading_tie.Arrivals.{answered_in, cut_by}
use Rattle.node_tellings.specs.reading_tie.ClientReads as readers
use Rattle.run_laws.specs.reopening_law.Falls.{FallKnown, FellWith}
use Rattle.run_laws.specs.reopening_law.Flights.{LastFlew}
use Rattle.run_laws.specs.reopening_law.Openings as reopening
use Rattle.run_laws.specs.reopening_law.Openings.{ComesBack, EndsByOne, comes_to}
use Rattle.version_model.specs.declared.act.Act.{Act}
use Rattle.wire_msg.specs.declared.packet.Do.{Do}
use Rattle.wire_msg.specs.declared.packet.Do.TheVariants.{Begin, Deliver, Tick}
use Rattle.wire_msg.specs.declared.packet.Packet.{Packet}
use Rattle.world_base.specs.declared.event.Event.{Event}
use Rattle.world_base.specs.Events.{what_of}
use Rattle.run_laws.specs.world_law.Standing as tokens
use Rattle.run_laws.proofs.world_law.Owes.{ClientTold}
use Rattle.headline.specs.Moments.{moment}
use Rattle.headline.specs.Logs.Role.{OfClient}
use Rattle.run_laws.proofs.world_reads.ClientFiles as files
use Rattle.run_laws.proofs.world_reads.ClientLog as log
use Rattle.run_laws.proofs.world_reads.ClientLog.{ClientEvent}
use Rattle.run_laws.proofs.world_reads.ClientOwed as owed
use Rattle.run_laws.specs.world_reads.Joint.{There}
use Rattle.xfs_base.specs.declared.node.NodeId.TheVariants.{Client}
use Rattle.xfs_base.specs.Limits.{block_logs}
use Rattle.run_laws.proofs.world_reads.Below.{Below}
use Rattle.run_laws.specs.world_reads.LoggedRuns.{LoggedRun}

module _ (logged : LoggedRun) (part : ℕ) (count c : ℕ) (there : There logged part (OfClient c)) (laws : Below) (event : Event) (node : ClientNode)
    (x : ClientEvent logged part count c there event node) where
  open logged use {estate as e, lines, texts}

  abbrev g : Setting
  g = log.g logged part count c there

  abbrev w : Scene
  w = log.before logged part count c there

  abbrev v : Scene
  v = log.after logged part count c there

  abbrev t : tokens.Scene
  t = x.joint.tok

  abbrev filed : Filed
  filed = x.joint.idx.net.filed

  abbrev what : Do
  what = what_of event

  abbrev went : Went_to
  went = takes node what

  abbrev goes : Runs g w.net v.net
  goes = (lines (OfClient c) there).goes count

  abbrev at : Moment g w.net
  at = log.at logged part count c there laws event node x

  one_client : (a b : ClientNode) → Some (any.Client a) ≡ Some (any.Client b) → a ≡ b
  one_client a b same = cc

  -- it is the client of the small world of tokens
  is_node : t.client c ≡ node
  is_node = one_client (t.client c) node
      (sym (x.joint.tokens_stand.placed.clients c there.0 (files.member logged part count c there laws event node x))
      ∙ log.here logged part count c there laws event node x)

  -- ---- a reopening that ends

  below : c ≤ block_logs
  below = (let b = files.below logged part count c there laws event node x in omega arith)

  books_then : (m : Moment g w.net) → m ≡ at → LastFlew t.net.books c (last_flight m.run)
  books_then m same = subst (λ (m : Moment g w.net). LastFlew t.net.books c (last_flight m.run)) (sym same) (x.joint.flew (OfClient c) there refl)

  fell_then : (l : Lasting) (o : Opening) → node.phase ≡ clients.Opening l o → (m : Moment g w.net) → m ≡ at → FellWith t.net.acts c (last_flight m.run)
  fell_then l o opening m same =
      let known = subst (λ (a : ClientNode). FallKnown (moment e count).acts c (last_flight at.run) a.phase) is_node (x.joint.fell c there) in
      let fell : FellWith (moment e count).acts c (last_flight at.run) = subst (FallKnown (moment e count).acts c (last_flight at.run)) opening known in
      subst (λ (m : Moment g w.net). FellWith t.net.acts c (last_flight m.run)) (sym same)
      (subst (λ (acts : List Act). FellWith acts c (last_flight at.run)) (sym x.joint.tokens_stand.acts) fell)

  module _ (l : Lasting) (o : Opening) (opening : node.phase ≡ clients.Opening l o) (s : ServingClient) (serving : went.state ≡ clients.Serving s) where
    pub back : ComesBack c (comes_to o l.questions what) s went.outs
    back = laws.reopenings.clients_come_back c node what l o s opening serving

    ends_by_do : (d : Do) (p : Progress) → comes_to o l.questions d ≡ p → (r : Opened) → p ≡ progress.Opened r → reopening.EndsSo g c o (progress.Opened r)
    ends_by_do Begin p fact r opened = (let clash : progress.Opening o ≡ progress.Opened r = fact ∙ opened in absurd cc)
    ends_by_do (Deliver packet) p fact r opened = subst (reopening.EndsSo g c o) (fact ∙ opened) ((laws.reopenings.openings_end_by_one g c o l.questions).0 packet)
    ends_by_do Tick p fact r opened = subst (reopening.EndsSo g c o) (fact ∙ opened) (laws.reopenings.openings_end_by_one g c o l.questions).1

    by_one : EndsByOne g w v goes o back.opened
    by_one =
        let sees = subst (client_log.ClientAgrees g c w) opening (log.sees logged part count c there laws event node x).agrees in
        let sees_then = subst (client_log.ClientAgrees g c v) serving (log.sees_then logged part count c there laws event node x).agrees in
        ends_by_do what (comes_to o l.questions what) refl back.opened back.comes w v l.questions.last goes sees.1
        (subst (client_log.SeesLog g c v) back.log sees_then.1) (files.straight logged part count c there laws event node x)

    pub reopens_so : ReopensSo t.net.books t.net.acts c back.opened
    reopens_so =
        let re = laws.reopenings.ends_are_reopenings g w v goes o back.opened by_one refl x.apart at (log.goes_sure logged part count c there
        laws event node x) in
        laws.reopenings.clients_reopen_so g w.net v.net by_one.settling.chain by_one.settling.log back.opened.log re.0 t.net.books c filed
        (record {
          filed = owed.filed_of logged part count c there laws event node x;
          books = record {
            end = x.joint.books.end c there.0 below;
            rows = λ q some limit. x.joint.books.rows c q there.0 below some limit;
          };
          flew = books_then re.0.moment re.1;
        }) back.opened by_one.opened t.net.acts (fell_then l o opening re.0.moment re.1)

  -- where the opening of its log ends in the event, the client serves then: it heeds what comes, and no counter is near its end
  abbrev pub Heeds : Type 0
  Heeds = (l : Lasting) (o : Opening) (r : Opened) → node.phase ≡ clients.Opening l o → comes_to o l.questions what ≡ progress.Opened r
      → (s : ServingClient) × (went.state ≡ clients.Serving s)

  ends_so : Heeds → (l : Lasting) (o : Opening) → node.phase ≡ clients.Opening l o → (p : Progress) → comes_to o l.questions what ≡ p
      → EndsSo t.net.books t.net.acts c p
  ends_so heeds l o opening (progress.Opening z) fact = tt
  ends_so heeds l o opening (progress.Lost seg) fact = tt
  ends_so heeds l o opening (progress.Opened r) fact =
      let s = heeds l o r opening fact in
      let same : progress.Opened (back l o opening s.0 s.1).opened ≡ progress.Opened r = sym (back l o opening s.0 s.1).comes ∙ fact in
      subst (ReopensSo t.net.books t.net.acts c) (one_opened (back l o opening s.0 s.1).opened r same) (reopens_so l o opening s.0 s.1)
    where
      one_opened : (a b : Opened) → progress.Opened a ≡ progress.Opened b → a ≡ b
      one_opened a b same = cc

  -- ---- what it reads

  -- What logs filed is known; while it serves, what its reading holds came, what its places are told of is so, and it reads the place of its fetch; and what
  -- comes was sent to it.
  pub record Reading : Type 0 where
    pub known : FiledKnown texts.text (moment e count).sent (cuts_at e.world) filed
    pub told : entries.ClientHolds (told_by_rows (rows_at filed)) node
    pub came : readers.ClientHolds (answered_in (moment e count).sent (Client c)) (cut_by (cuts_at e.world)) node
    pub its : PhaseReadsItsFetch node.phase
    pub brought : (p : Packet) → what ≡ Deliver p → In p (moment e count).sent × (p.to ≡ Client c)

  reads_so : Heeds → Reading → (limit : ℕ) (packet : Packet) → what ≡ Deliver packet → (p : Phase) → node.phase ≡ p → ReadsSo part limit c t.net p packet
  reads_so heeds r limit packet fact (clients.Down l) phase = tt
  reads_so heeds r limit packet fact (clients.Opening l o) phase =
      ends_so heeds l o phase (comes_to o l.questions (Deliver packet)) (ap (comes_to o l.questions) fact)
  reads_so heeds r limit packet fact (clients.Serving s) phase =
      laws.reads.places.fetches_read_there texts.text (moment e count).sent (Client c) (cuts_at e.world) filed s packet part limit c t.net r.known x.joint.books
      (λ l q some upto from limit. (x.joint.tells l q from limit).plain)
      (record {
        told = subst (entries.PhaseHolds (told_by_rows (rows_at filed))) phase r.told;
        came = subst (readers.PhaseHolds (answered_in (moment e count).sent (Client c)) (cut_by (cuts_at e.world))) phase r.came;
        its = subst PhaseReadsItsFetch phase r.its;
      }) (r.brought packet fact).0 (r.brought packet fact).1

  in_time : Heeds → (limit : ℕ) → what ≡ Tick → (p : Phase) → node.phase ≡ p → EndsInTime part limit c t.net p
  in_time heeds limit fact (clients.Down l) phase = tt
  in_time heeds limit fact (clients.Opening l o) phase = ends_so heeds l o phase (comes_to o l.questions Tick) (ap (comes_to o l.questions) fact)
  in_time heeds limit fact (clients.Serving s) phase = tt

  -- what an event of the client is owed
  pub client_told : Heeds → Reading → (limit : ℕ) → ClientTold part limit t.net c node.phase what
  client_told heeds r limit = by what refl
    where
      by : (d : Do) → what ≡ d → ClientTold part limit t.net c node.phase d
      by Begin fact = tt
      by (Deliver packet) fact = reads_so heeds r limit packet fact node.phase refl
      by Tick fact = in_time heeds limit fact node.phase refl
