-- A client's own event: the small worlds know the same of its log then as they did, what is filed of it tells of each block once, and its fall is told.
use Rattle.std.proofs.Common.{◌≡◌, inl, inr, ◌++◌, ℕ, suc, true, false, List, refl, sym, ap, subst, ◌∙◌, arith}
use Rattle.std.specs.Prelude.{IfSome}
use Rattle.act_tie.specs.BlockActs.{is_adopted}
use Rattle.client_log.specs.LogState.{LogState}
use Rattle.node_logs.specs.client_log_tie.ClientEvents.{ServesStraight}
use Rattle.node_logs.specs.client_log_tie.Owner as log_tie
use Rattle.node_logs.specs.client_log_tie.Owner.{Scene}
use Rattle.client_node.specs.declared.client.Client.{Client as ClientNode}
use Rattle.client_node.specs.declared.phase.Phase.TheVariants.{Down, Opening, Serving as Serves}
use Rattle.client_node.specs.declared.phase.Phase.{Phase}
use Rattle.client_node.specs.Phases.{Went_to, lasting_of, takes}
use Rattle.client_serving.specs.declared.lasting.Lasting.{Lasting}
use Rattle.client_serving.specs.declared.serving.Serving as serving
use Rattle.index_tie.specs.Growth.{IsMore}
use Rattle.index_tie.specs.Net as index
use Rattle.log_law.specs.Ends.{IsFlight}
use Rattle.log_law.specs.Events.{Runs}
use Rattle.log_law.specs.Laws.{Moment}
use Rattle.log_law.specs.Net.Owner.{Serving}
use Rattle.log_law.specs.Restarts.{IsSureRun, is_serving, last_flight}
use Rattle.log_law.specs.Tails.{then_on}
use Rattle.log_owner.specs.declared.opened.Opened.{Opened}
use Rattle.log_owner.specs.declared.opening.Opening as openings
use Rattle.log_owner.specs.declared.opening.Stage as stages
use Rattle.log_owner.specs.declared.opening.Stage.TheVariants as stage
use Rattle.log_owner.specs.Opened.{names_in}
use Rattle.log_protocol.specs.Tables.{In}
use Rattle.log_tie.specs.Setting.{Setting}
use Rattle.node_base.specs.declared.effects.Effect.TheVariants.{Does}
use Rattle.node_base.specs.Effects.{acts_of}
use Rattle.headline.specs.Filed.{Texts}
use Rattle.node_slots.specs.node_tie.ClientEvents as tokens
use Rattle.node_slots.specs.node_tie.LogRows.{LogSeen}
use Rattle.node_slots.specs.owner_index_tie.ClientEvents as owner
use Rattle.node_slots.specs.owner_index_tie.Filing.{filed_after}
use Rattle.run_laws.specs.reopening_law.Falls.{FallKnown, FallTells, FellWith}
use Rattle.run_laws.specs.reopening_law.Openings.{EndsByOne}
use Rattle.run_laws.specs.reopening_law.Reopens.{Reopens, TellsApart, has_flight}
use Rattle.run_laws.specs.segment_tie.Clients.{ClientWrites}
use Rattle.run_laws.specs.segment_tie.Segments.{IsOriginal}
use Rattle.token_law.specs.Books.{reopened, with_empty}
use Rattle.token_law.specs.Net as token
use Rattle.token_law.specs.Owed.{adopts}
use Rattle.token_protocol.specs.Basics as basics
use Rattle.version_model.specs.declared.act.Act.{Act}
use Rattle.version_model.specs.declared.act.Act.TheVariants as act
use Rattle.version_model.specs.Effects.{holds_flight}
use Rattle.wire_msg.specs.declared.packet.Do.{Do}
use Rattle.run_laws.specs.world_lines.Lines.{IsLine, IsSure}
use Rattle.run_laws.specs.world_lines.Polls.{GoesOnByFlight}
use Rattle.run_laws.specs.world_lines.Turns.{AllSo}
use Rattle.run_laws.specs.world_logs.Lines.{moment_then}
use Rattle.xfs_base.specs.declared.node.NodeId.TheVariants.{Client}
use Rattle.xfs_base.specs.declared.segment.SegName.{SegName}
use Rattle.run_laws.proofs.world_reads.AfterBack.{CameBack, came_back}
use Rattle.run_laws.proofs.reopening_law.Flights.{last_stays}
use Rattle.run_laws.proofs.world_reads.AfterLogs.{KnownLog, reopens_by}
use Rattle.run_laws.proofs.world_reads.AfterOwn as after_own
use Rattle.run_laws.proofs.world_reads.AfterOwn.{OwnAfter, comes_by_one, none_serves, one_log, own_after}
use Rattle.run_laws.proofs.world_reads.AfterOwners.{line_goes_on}
use Rattle.run_laws.proofs.world_reads.AfterTells.{AllTell}
use Rattle.run_laws.proofs.world_reads.Below.{Below}

-- ---- the end of the log

module _ (part : ℕ) (texts : Texts) (g : Setting) (c : ℕ) (v : Scene) (n : index.Net) where
  not_up : (k : _) (last : ℕ) (at : stages.Stage) → log_tie.SeesStage g c v k last at → is_serving v.net.owner ≡ false
  not_up k last (stage.Scanning x) sees = ap is_serving sees.owner
  not_up k last (stage.Settling x) sees = ap is_serving sees.owner

  pub client_away : (p : Phase) → log_tie.ClientAgrees g c v p → tokens.IsAway p → is_serving v.net.owner ≡ false
  client_away (Down l) sees away = ap is_serving sees.1
  client_away (Opening l o) sees away = not_up o.known l.questions.last o.stage sees.1
  client_away (Serves s) sees away = absurd away

  pub client_end : (p : Phase) → log_tie.ClientAgrees g c v p → owner.ClientAgrees part texts n c p → (s : LogState) → v.net.owner ≡ Serving s
      → s.end.seq ≡ n.filed.head c
  client_end (Down l) sees agrees s fact = absurd (none_serves v.net.owner s (client_away (Down l) sees tt) fact)
  client_end (Opening l o) sees agrees s fact = absurd (none_serves v.net.owner s (client_away (Opening l o) sees tt) fact)
  client_end (Serves t) sees agrees s fact = ap (λ (x : LogState). x.end.seq) (one_log s t.log (sym fact ∙ sees.1.owner)) ∙ agrees.0.end.seq

-- ---- the event

module _ (laws : Below) (part : ℕ) (texts : Texts) (c : ℕ) (g : Setting) (trusted : g.doubts ≡ false) (apart : TellsApart g) (w v : Scene)
    (at : Moment g w.net) (goes : Runs g w.net v.net)
    (straight : ServesStraight goes) (sure : IsSure texts c g v.net) (calm : IsSureRun (then_on at.run goes))
    (node : ClientNode) (what : Do)
    (sees : log_tie.ClientAgrees g c w node.phase) (then_sees : log_tie.ClientAgrees g c v (takes node what).state)
    (t u : token.Net) (held : tokens.ClientAgrees true part c t node.phase) (then_held : tokens.ClientAgrees true part c u (takes node what).state)
    (log : tokens.LogGoes t u.books c (takes node what).outs node.phase (takes node what).state)
    (i j : index.Net) (agrees : owner.ClientAgrees part texts i c node.phase) (then_agrees : owner.ClientAgrees part texts j c (takes node what).state)
    (filed : j.filed ≡ filed_after texts c i.filed (takes node what).outs) (more : IsMore i.filed j.filed)
    (acts : AllSo (λ name. In name v.net.filed) (takes node what).outs)
    (flights : (s : serving.Serving) → node.phase ≡ Serves s → AllSo (IsFlight s.log) (takes node what).outs)
    (writes : ClientWrites (takes node what).state)
    (known : KnownLog c at t.books i.filed) (tells : AllTell c i.filed) (kind : IfSome (last_flight at.run) (λ x. IsOriginal x.segment))
    (fell : FallKnown t.acts c (last_flight at.run) node.phase) where
  abbrev x : Went_to
  x = takes node what

  line : IsLine c v.net j.filed
  line = line_goes_on laws.lines.lines_go_on laws.logs.unfiled texts c g w.net v.net i.filed j.filed x.outs at goes straight.never sure acts filed
      (client_end part texts g c v j x.state then_sees then_agrees) known.line

  abbrev Way : Type 0
  Way = after_own.Way IsOriginal c g w v at goes t.books u.books i.filed j.filed

  goes_as : (p q : Phase) → node.phase ≡ p → x.state ≡ q → tokens.LogGoes t u.books c x.outs p q
  goes_as p q before after =
      subst (λ y. tokens.LogGoes t u.books c x.outs p y) after (subst (λ y. tokens.LogGoes t u.books c x.outs y x.state) before log)

  -- it doesn't serve then
  away : is_serving v.net.owner ≡ false → u.books ≡ t.books → Way
  away none same = inl (record { none = none; books = same })

  -- it serves on
  serves : (r s : serving.Serving) → node.phase ≡ Serves r → x.state ≡ Serves s → Way
  serves r s before after =
      let kept = goes_as (Serves r) (Serves s) before after in
      let was = (subst (log_tie.ClientAgrees g c w) before sees).1.owner in
      let own = subst (owner.ClientAgrees part texts i c) before agrees in
      inr (inl (record {
        before = r.log;
        after = s.log;
        was = was;
        up = (subst (log_tie.ClientAgrees g c v) after then_sees).1.owner;
        seen = (subst (tokens.ClientAgrees true part c t) before held).logged.seen;
        then_seen = (subst (tokens.ClientAgrees true part c u) after then_held).logged.seen;
        end = (subst (owner.ClientAgrees part texts j c) after then_agrees).0.end.seq;
        filed = λ q low. kept.rows q (let a = kept.rises in omega arith);
        flown = λ flies low. kept.rows (suc (t.books.end c)) low;
        on = subst (GoesOnByFlight c r.log i.filed) (sym filed)
            (laws.filing.servers_go_on_by_flights part texts c g w.net i r.log x.outs at was own.0.end own.1 (flights r before));
        kind = (subst ClientWrites after writes).flies;
      }))

  -- it serves again
  reopens : (l : Lasting) (o : openings.Opening) (s : serving.Serving) → node.phase ≡ Opening l o → x.state ≡ Serves s → Way
  reopens l o s before after = inr (inr (record {
    trusted = trusted;
    apart = apart;
    calm = calm;
    opening = o;
    opened = r;
    ends = ends;
    count = books.1;
    books = books.3 ∙ ap (λ b. with_empty books.1 (reopened t.books c b) c) adopted;
    seen = subst (LogSeen u.books c) back.log (subst (tokens.ClientAgrees true part c u) after then_held).logged.seen;
    after = s.log;
    up = then_log.owner;
    kind = (subst ClientWrites after writes).flies;
  }))
    where
      back : CameBack l o x s
      back = came_back node what l o s before after

      r : Opened
      r = back.opened

      then_log : log_tie.SeesLog g c v s.log
      then_log = (subst (log_tie.ClientAgrees g c v) after then_sees).1

      ends : EndsByOne g w v goes o r
      ends = comes_by_one laws.reopenings.openings_end_by_one g c o l.questions r back.comes w v l.questions.last goes
          (subst (log_tie.ClientAgrees g c w) before sees).1 (subst (log_tie.SeesLog g c v) back.log then_log) straight

      e : Reopens g w.net v.net ends.settling.chain ends.settling.log r.log
      e = reopens_by g trusted apart w v at goes calm o r ends

      books : (chain : List SegName) × (count : ℕ) × basics.In (Does (act.Back c chain)) x.outs
          × (u.books ≡ with_empty count (reopened t.books c (adopts t.acts c chain)) c)
      books = goes_as (Opening l o) (Serves s) before after

      with_it : FellWith t.acts c (last_flight at.run)
      with_it = subst (FallKnown t.acts c (last_flight at.run)) before fell

      adopted : adopts t.acts c books.0 ≡ has_flight e
      adopted = ap (adopts t.acts c) (back.says c books.0 books.2)
          ∙ (ap (is_adopted r.chain) with_it.waits
          ∙ (ap (λ names. holds_flight names with_it.fall.flight) ends.opened.chain_is
          ∙ ap (holds_flight (names_in ends.settling.chain)) with_it.with_flight))

  -- ---- its phases

  not_then : (q : Phase) → x.state ≡ q → tokens.IsAway q → is_serving v.net.owner ≡ false
  not_then q after gone = client_away part texts g c v j q (subst (log_tie.ClientAgrees g c v) after then_sees) gone

  by_phases : (p q : Phase) → node.phase ≡ p → x.state ≡ q → Way
  by_phases (Down k) (Serves s) before after = absurd (goes_as (Down k) (Serves s) before after)
  by_phases (Opening l o) (Serves s) before after = reopens l o s before after
  by_phases (Serves r) (Serves s) before after = serves r s before after
  by_phases p q before after = away (not_then q after tt) (goes_as p q before after)

  -- the client's log after its event
  pub client_after : OwnAfter IsOriginal c (moment_then at goes) u.books j.filed
  client_after = own_after laws IsOriginal (λ s fact. fact.tells) (λ s t same. (laws.writing.items.attempts_are_alike s t same).original)
      (λ s none. (laws.writing.items.nothing_is_any_kind s none).original) c g w v at goes straight t.books u.books i.filed j.filed more known line tells kind
      (by_phases node.phase x.state refl refl)

  -- and its fall
  pub fell_after : (lasting_of node.phase).number ≡ c → tokens.IsAway x.state
      → FallKnown (t.acts ++ acts_of (Client c) x.outs) c (last_flight (then_on at.run goes)) x.state
  fell_after its gone = by x.state refl (laws.reopenings.flights.falls_go_on t.acts c (last_flight at.run) node what its fell)
    where
      same : is_serving v.net.owner ≡ false → last_flight at.run ≡ last_flight (then_on at.run goes)
      same none = sym (last_stays g _ w.net v.net at.run goes (straight.never none))

      acts_now : List Act
      acts_now = t.acts ++ acts_of (Client c) x.outs

      by : (q : Phase) → x.state ≡ q → FallTells acts_now c (last_flight at.run) q → FallKnown acts_now c (last_flight (then_on at.run goes)) q
      by (Down l) after fall = subst (λ y. FellWith acts_now c y) (same (not_then (Down l) after tt)) fall
      by (Opening l o) after fall = subst (λ y. FellWith acts_now c y) (same (not_then (Opening l o) after tt)) fall
      by (Serves s) after fall = absurd (subst tokens.IsAway after gone)
