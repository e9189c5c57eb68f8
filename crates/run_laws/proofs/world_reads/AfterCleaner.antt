-- The cleaner's own event: the small worlds know the same of its log then as they did, and what is filed of it tells of each block once.
use Rattle.std.proofs.Common.{◌≡◌, ℕ, Bool, false, List, Option, Some, None, inl, inr, refl, sym, ap, subst, ◌∙◌}
use Rattle.std.specs.Prelude.{IfSome}
use Rattle.cleaner_serving.specs.declared.emptying.Emptying.{Emptying}
use Rattle.client_node.specs.Crash.{flight_of}
use Rattle.node_logs.specs.cleaner_log_tie.Owner as log_tie
use Rattle.cleaner_node.specs.CleanerEvents.{Went_to, after_opening, begun_life, crash, happens, cleaner_hear, on_begin, on_deliver, on_time, opening_at, opening_wishes, phase_has_room, takes, wish_at}
use Rattle.cleaner_node.specs.declared.cleaner.Cleaner.{Cleaner as CleanerNode}
use Rattle.cleaner_node.specs.declared.cleaner.Phase.{Phase}
use Rattle.cleaner_node.specs.declared.cleaner.Phase.TheVariants.{Down, Opening, Serving as Serves}
use Rattle.cleaner_node.specs.declared.cleaner.Wish.TheVariants.{Crash, Restart, Clean}
use Rattle.cleaner_job.specs.declared.lasting.Lasting.{Lasting}
use Rattle.client_log.specs.LogState.{LogState}
use Rattle.node_logs.specs.client_log_tie.ClientEvents.{ServesStraight}
use Rattle.node_logs.specs.client_log_tie.Owner.{Scene, SeesLog, SeesStage}
use Rattle.index_tie.specs.Growth.{IsMore}
use Rattle.index_tie.specs.Net as index
use Rattle.log_law.specs.Ends.{IsFlight}
use Rattle.log_law.specs.Events.{Runs}
use Rattle.log_law.specs.Laws.{Moment}
use Rattle.log_law.specs.Net.{Net}
use Rattle.log_law.specs.Net.Owner.{Serving, Writing}
use Rattle.log_law.specs.Restarts.{IsSureRun, is_serving, last_flight}
use Rattle.log_law.specs.Tails.{then_on}
use Rattle.log_owner.specs.declared.opened.Opened.{Opened}
use Rattle.log_owner.specs.declared.opened.Progress.{Progress}
use Rattle.log_owner.specs.declared.opened.Progress.TheVariants as progress
use Rattle.log_owner.specs.declared.opening.Opening as openings
use Rattle.log_owner.specs.declared.opening.Stage as stages
use Rattle.log_owner.specs.declared.opening.Stage.TheVariants as stage
use Rattle.log_owner.specs.Opened.{names_in}
use Rattle.log_owner.specs.Opening as opening
use Rattle.log_protocol.specs.Tables.{In}
use Rattle.log_tie.specs.Setting.{Setting}
use Rattle.node_base.specs.Beginning.{next_item}
use Rattle.node_base.specs.declared.effects.Effect.{Effect}
use Rattle.node_base.specs.Shape.{is_well_formed}
use Rattle.headline.specs.Filed.{Texts}
use Rattle.node_slots.specs.node_tie.CleanerLogs.{CleanerCopies, OwnGoes, its_log}
use Rattle.node_slots.specs.node_tie.LogRows.{LogSeen}
use Rattle.node_slots.specs.owner_index_tie.CleanerEvents as owner
use Rattle.node_slots.specs.owner_index_tie.Filing.{filed_after}
use Rattle.run_laws.specs.reopening_law.Openings.{EndsByOne}
use Rattle.run_laws.specs.reopening_law.Reopens.{Reopens, TellsApart, has_flight}
use Rattle.segment_format.specs.declared.segment.Segment.{Segment}
use Rattle.run_laws.specs.segment_tie.Cleaners.{CleanerWrites}
use Rattle.run_laws.specs.segment_tie.Segments.{IsCopies}
use Rattle.token_law.specs.Books.{reopened, with_empty}
use Rattle.token_law.specs.Net as token
use Rattle.version_model.specs.Effects.{holds_flight}
use Rattle.wire_msg.specs.declared.packet.Do.{Do}
use Rattle.wire_msg.specs.declared.packet.Do.TheVariants.{Begin, Deliver, Tick}
use Rattle.wire_msg.specs.declared.packet.Packet as wire
use Rattle.run_laws.specs.world_lines.Lines.{IsLine, IsSure}
use Rattle.run_laws.specs.world_lines.Polls.{GoesOnByFlight}
use Rattle.run_laws.specs.world_lines.Turns.{AllSo}
use Rattle.run_laws.specs.world_logs.Lines.{moment_then}
use Rattle.xfs_base.proofs.Booleans.{by_test}
use Rattle.xfs_base.specs.Steps.{saying, still}
use Rattle.run_laws.proofs.world_reads.AfterBack.{ComesTo}
use Rattle.run_laws.proofs.world_reads.AfterOwn as after_own
use Rattle.run_laws.proofs.world_reads.AfterOwn.{OwnAfter, comes_by_one, none_serves, one_log, own_after}
use Rattle.run_laws.proofs.world_reads.AfterLogs.{KnownLog, reopens_by}
use Rattle.run_laws.proofs.world_reads.AfterOwners.{line_goes_on}
use Rattle.run_laws.proofs.world_reads.AfterTells.{AllTell}
use Rattle.run_laws.proofs.world_reads.Below.{Below}

-- ---- an opening that ends

-- The opening ended, by a packet or by time: the cleaner serves the log that it came to.
pub record CleanerBack (l : Lasting) (o : openings.Opening) (t : Emptying) : Type 0 where
  pub opened : Opened
  pub comes : ComesTo l.questions o opened
  pub log : t.log ≡ opened.log

module _ (l : Lasting) (o : openings.Opening) where
  abbrev Comes : Went_to → Type 0
  Comes w = (t : Emptying) → w.state ≡ Serves t → CleanerBack l o t

  same_emptying : (s t : Emptying) → Serves s ≡ Serves t → s ≡ t
  same_emptying s t fact = cc

  progress_comes : (k : Lasting) (effects : List Effect) (p : Progress) → ((r : Opened) → p ≡ progress.Opened r → ComesTo l.questions o r)
      → Comes (saying effects (after_opening k p))
  unfolding after_opening
  progress_comes k effects (progress.Opening x) from = λ t fact. absurd cc
  progress_comes k effects (progress.Lost seg) from = λ t fact. absurd cc
  progress_comes k effects (progress.Opened r) from =
      λ t fact. record { opened = r; comes = from r refl; log = ap (λ (s : Emptying). s.log) (sym (same_emptying _ t fact)) }

  wish_comes : (number : ℕ) (wish : _) → Comes (opening_wishes (begun_life l) o number wish)
  unfolding crash
  wish_comes number Crash t fact = absurd cc
  wish_comes number Restart t fact = absurd cc
  wish_comes number (Clean count) t fact = absurd cc

  item_comes : (item : Option ℕ) → Comes (opening_at (begun_life l) o item)
  item_comes None = λ t fact. absurd cc
  item_comes (Some number) = wish_comes number (wish_at (begun_life l).items number)

  begin_comes : (servers : ℕ) → Comes (on_begin servers (Opening l o))
  unfolding on_begin
  begin_comes servers = item_comes (next_item l.items)

  hears_comes : (packet : wire.Packet) → Comes (cleaner_hear (Opening l o) packet)
  unfolding cleaner_hear
  hears_comes packet =
      let x = opening.opening_take o l.questions packet in
      progress_comes (record l { questions = x.questions }) x.effects x.progress (λ r fact. inl (packet, fact))

  time_comes : Comes (on_time (Opening l o))
  unfolding on_time
  time_comes =
      (let x = opening.on_tick o l.questions in progress_comes (record l { questions = x.questions }) x.effects x.progress (λ r fact. inr fact))

  stays_open : Comes (still (Opening l o))
  stays_open t fact = absurd cc

  deliver_comes : (node : CleanerNode) (packet : wire.Packet) → Comes (on_deliver node.peers (Opening l o) packet)
  unfolding on_deliver
  deliver_comes node packet =
      by_test Comes (is_well_formed node.peers packet) (cleaner_hear (Opening l o) packet) (still (Opening l o)) (λ _. hears_comes packet) (λ _. stays_open)

  happens_comes : (node : CleanerNode) (what : Do) → Comes (happens node.peers (Opening l o) what)
  happens_comes node Begin = begin_comes node.peers.servers
  happens_comes node (Deliver packet) = deliver_comes node packet
  happens_comes node Tick = time_comes

  takes_comes : (node : CleanerNode) (what : Do) → Comes (takes node.peers (Opening l o) what)
  takes_comes node what = by_test Comes (phase_has_room (Opening l o)) (happens node.peers (Opening l o) what) (still (Opening l o))
      (λ _. happens_comes node what) (λ _. stays_open)

pub cleaner_back : (node : CleanerNode) (what : Do) (l : Lasting) (o : openings.Opening) (t : Emptying) → node.phase ≡ Opening l o
    → (takes node.peers node.phase what).state ≡ Serves t → CleanerBack l o t
cleaner_back node what l o t fact then_is =
    takes_comes l o node what t (ap (λ (p : Phase). (takes node.peers p what).state) (sym fact) ∙ then_is)

-- ---- the end of the log

module _ (part : ℕ) (texts : Texts) (g : Setting) (v : Scene) (n : index.Net) where
  abbrev IsAway : Phase → Type 0
  IsAway (Down l) = Unit {0}
  IsAway (Opening l o) = Unit {0}
  IsAway (Serves e) = ⊥

  not_up : (k : _) (last : ℕ) (at : stages.Stage) → SeesStage g its_log v k last at → is_serving v.net.owner ≡ false
  not_up k last (stage.Scanning x) sees = ap is_serving sees.owner
  not_up k last (stage.Settling x) sees = ap is_serving sees.owner

  pub cleaner_away : (p : Phase) → log_tie.CleanerAgrees g v p → IsAway p → is_serving v.net.owner ≡ false
  cleaner_away (Down l) sees away = ap is_serving sees.1
  cleaner_away (Opening l o) sees away = not_up o.known l.questions.last o.stage sees.sees
  cleaner_away (Serves s) sees away = absurd away

  pub cleaner_end : (p : Phase) → log_tie.CleanerAgrees g v p → owner.PhaseAgrees part n texts p → (s : LogState) → v.net.owner ≡ Serving s
      → s.end.seq ≡ n.filed.head its_log
  cleaner_end (Down l) sees agrees s fact = absurd (none_serves v.net.owner s (cleaner_away (Down l) sees tt) fact)
  cleaner_end (Opening l o) sees agrees s fact = absurd (none_serves v.net.owner s (cleaner_away (Opening l o) sees tt) fact)
  cleaner_end (Serves t) sees agrees s fact = ap (λ (x : LogState). x.end.seq) (one_log s t.log (sym fact ∙ sees.log.owner)) ∙ agrees.0.owner.end.seq

-- ---- the event

-- Where the log is opened again with what was in flight just where the chain that was read back has that.
abbrev pub AdoptsWhatFlew : {g : Setting} {n : Net} → Moment g n → Bool → Type 0
AdoptsWhatFlew {n = n} at adopted = (chain : List Segment) (s : LogState) → n.owner ≡ Writing chain s
    → adopted ≡ holds_flight (names_in chain) (flight_of (last_flight at.run))

module _ (laws : Below) (part : ℕ) (texts : Texts) (g : Setting) (trusted : g.doubts ≡ false) (apart : TellsApart g) (w v : Scene)
    (at : Moment g w.net) (goes : Runs g w.net v.net)
    (straight : ServesStraight goes) (sure : IsSure texts its_log g v.net) (calm : IsSureRun (then_on at.run goes))
    (node : CleanerNode) (what : Do)
    (sees : log_tie.CleanerAgrees g w node.phase) (then_sees : log_tie.CleanerAgrees g v (takes node.peers node.phase what).state)
    (t u : token.Net) (held : CleanerCopies t.books node.phase) (then_held : CleanerCopies u.books (takes node.peers node.phase what).state)
    (adopted : Bool) (log : OwnGoes t.books u.books adopted node.phase (takes node.peers node.phase what).state)
    (adopts : (l : Lasting) (o : openings.Opening) (e : Emptying) → node.phase ≡ Opening l o → (takes node.peers node.phase what).state ≡ Serves e
    → AdoptsWhatFlew at adopted)
    (i j : index.Net) (agrees : owner.CleanerAgrees part i texts node.phase)
    (then_agrees : owner.CleanerAgrees part j texts (takes node.peers node.phase what).state)
    (filed : j.filed ≡ filed_after texts its_log i.filed (takes node.peers node.phase what).outs) (more : IsMore i.filed j.filed)
    (acts : AllSo (λ name. In name v.net.filed) (takes node.peers node.phase what).outs)
    (flights : (e : Emptying) → node.phase ≡ Serves e → AllSo (IsFlight e.log) (takes node.peers node.phase what).outs)
    (writes : CleanerWrites (takes node.peers node.phase what).state)
    (known : KnownLog its_log at t.books i.filed) (tells : AllTell its_log i.filed) (kind : IfSome (last_flight at.run) (λ x. IsCopies x.segment)) where
  abbrev x : Went_to
  x = takes node.peers node.phase what

  abbrev Way : Type 0
  Way = after_own.Way IsCopies its_log g w v at goes t.books u.books i.filed j.filed

  goes_as : (p q : Phase) → node.phase ≡ p → x.state ≡ q → OwnGoes t.books u.books adopted p q
  goes_as p q before after =
      subst (λ y. OwnGoes t.books u.books adopted p y) after (subst (λ y. OwnGoes t.books u.books adopted y x.state) before log)

  line : IsLine its_log v.net j.filed
  line = line_goes_on laws.lines.lines_go_on laws.logs.unfiled texts its_log g w.net v.net i.filed j.filed x.outs at goes straight.never sure
      acts filed
      (cleaner_end part texts g v j x.state then_sees then_agrees.phase) known.line

  -- it doesn't serve then
  away : is_serving v.net.owner ≡ false → u.books ≡ t.books → Way
  away none same = inl (record { none = none; books = same })

  -- it serves on
  serves : (r s : Emptying) → node.phase ≡ Serves r → x.state ≡ Serves s → Way
  serves r s before after =
      let kept = goes_as (Serves r) (Serves s) before after in
      let was = (subst (log_tie.CleanerAgrees g w) before sees).log.owner in
      let seen = (subst (CleanerCopies t.books) before held).seen in
      let own = (subst (owner.CleanerAgrees part i texts) before agrees).phase in
      inr (inl (record {
        before = r.log;
        after = s.log;
        was = was;
        up = (subst (log_tie.CleanerAgrees g v) after then_sees).log.owner;
        seen = seen;
        then_seen = (subst (CleanerCopies u.books) after then_held).seen;
        end = (subst (owner.CleanerAgrees part j texts) after then_agrees).phase.0.owner.end.seq;
        filed = kept.filed;
        flown = λ flies low. kept.flown (seen.flying ∙ flies);
        on = subst (GoesOnByFlight its_log r.log i.filed) (sym filed)
            (laws.filing.servers_go_on_by_flights part texts its_log g w.net i r.log x.outs at was own.0.owner.end own.1 (flights r before));
        kind = (subst CleanerWrites after writes).log.flies;
      }))

  -- it serves again
  reopens : (l : Lasting) (o : openings.Opening) (s : Emptying) → node.phase ≡ Opening l o → x.state ≡ Serves s → Way
  reopens l o s before after = inr (inr (record {
    trusted = trusted;
    apart = apart;
    calm = calm;
    opening = o;
    opened = r;
    ends = ends;
    count = books.0;
    books = books.1;
    seen = subst (LogSeen u.books its_log) back.log (subst (CleanerCopies u.books) after then_held).seen;
    after = s.log;
    up = then_log.owner;
    kind = (subst CleanerWrites after writes).log.flies;
  }))
    where
      back : CleanerBack l o s
      back = cleaner_back node what l o s before after

      r : Opened
      r = back.opened

      then_log : SeesLog g its_log v s.log
      then_log = (subst (log_tie.CleanerAgrees g v) after then_sees).log

      ends : EndsByOne g w v goes o r
      ends = comes_by_one laws.reopenings.openings_end_by_one g its_log o l.questions r back.comes w v l.questions.last goes
          (subst (log_tie.CleanerAgrees g w) before sees).sees (subst (SeesLog g its_log v) back.log then_log) straight

      e : Reopens g w.net v.net ends.settling.chain ends.settling.log r.log
      e = reopens_by g trusted apart w v at goes calm o r ends

      books : (count : ℕ) × (u.books ≡ with_empty count (reopened t.books its_log (has_flight e)) its_log)
      books =
          let b = goes_as (Opening l o) (Serves s) before after in (
            b.0,
            b.1 ∙ ap (λ (x : Bool). with_empty b.0 (reopened t.books its_log x) its_log)
                (adopts l o s before after ends.settling.chain ends.settling.log ends.writes),
          )

  -- ---- its phases

  not_then : (q : Phase) → x.state ≡ q → IsAway part texts g v j q → is_serving v.net.owner ≡ false
  not_then q after gone = cleaner_away part texts g v j q (subst (log_tie.CleanerAgrees g v) after then_sees) gone

  by_phases : (p q : Phase) → node.phase ≡ p → x.state ≡ q → Way
  by_phases (Down k) (Serves s) before after = absurd (goes_as (Down k) (Serves s) before after)
  by_phases (Opening l o) (Serves s) before after = reopens l o s before after
  by_phases (Serves r) (Serves s) before after = serves r s before after
  by_phases p q before after = away (not_then q after tt) (goes_as p q before after)

  -- the cleaner's log after its event
  pub cleaner_after : OwnAfter IsCopies its_log (moment_then at goes) u.books j.filed
  cleaner_after = own_after laws IsCopies (λ s fact. fact.tells) (λ s t same. (laws.writing.items.attempts_are_alike s t same).copies)
      (λ s none. (laws.writing.items.nothing_is_any_kind s none).copies) its_log g w v at goes straight t.books u.books i.filed j.filed more known line tells kind
      (by_phases node.phase x.state refl refl)
