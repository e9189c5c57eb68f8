-- A client whose log is opened writes its opening segment as the owner in the small world, until it is settled.
use Rattle.std.proofs.Common.{⊎_elim, ◌≡◌, ◌⊎◌, ℕ, Bool, true, false, List, [], ◌∷◌, ◌++◌, map, Option, Some, None, refl, sym, subst, inl, inr}
use Rattle.std.specs.Prelude.{All}
use Rattle.std.proofs.lemmas.List.Elements.{All-nil, All-cons, All-append}
use Rattle.xfs_base.specs.declared.segment.End.{End}
use Rattle.xfs_base.specs.declared.segment.SegName.{SegName}
use Rattle.xfs_base.specs.Steps.{still, saying, steps}
use Rattle.segment_format.specs.declared.segment.Segment.{Segment}
use Rattle.group_map.specs.GroupMapState.{GroupMapState}
use Rattle.std.specs.List.{AllByRecursion}
use Rattle.log_flight.specs.Flights.{FlightState}
use Rattle.client_log.specs.declared.input.In.{In as Input}
use Rattle.client_log.specs.declared.input.In.TheVariants as log_in
use Rattle.client_log.specs.declared.output.Out.{Out}
use Rattle.client_log.specs.declared.output.Out.TheVariants.{Send, Settled}
use Rattle.client_log.specs.Transition as log
use Rattle.log_owner.specs.declared.known.Known.{Known}
use Rattle.log_owner.specs.declared.opened.Progress.{Progress}
use Rattle.log_owner.specs.declared.opened.Progress.TheVariants as progress
use Rattle.log_owner.specs.declared.opening.Settling.{Settling}
use Rattle.log_owner.specs.Opened.{filed, file_all}
use Rattle.log_owner.specs.Opening.{Went, asking, send_one, written, known_go_on, logged, known_write}
use Rattle.log_owner.specs.Sending.{store, name_of}
use Rattle.node_base.specs.declared.effects.Effect.TheVariants.{Does}
use Rattle.node_base.specs.declared.questions.Questions.{Questions}
use Rattle.version_model.specs.declared.act.Act.TheVariants.{Filed}
use Rattle.log_protocol.specs.Tables.{In}
use Rattle.log_tie.specs.Seen.{log_filed}
use Rattle.log_tie.specs.Setting.{Setting}
use Rattle.log_tie.specs.Shelves.{is_of_log}
use Rattle.log_law.specs.Net.{Packet, log_packets, names_of, after_flight, after_writing}
use Rattle.log_law.specs.Net.{Owner as owner}
use Rattle.log_law.specs.Net.Packet.{StoredSent, MapSent}
use Rattle.log_law.specs.ReadBack.{ReadsDown}
use Rattle.log_law.specs.Events.{Happens}
use Rattle.log_law.specs.Events.Happens.{Writes}
use Rattle.log_law.specs.Events.Runs.{Begun, On}
use Rattle.node_logs.proofs.node_log_tie.OwnLogs.{SendsOwn, own_log}
use Rattle.node_logs.specs.client_log_tie.Owner.{Scene, IsOwn, Lasts, SeesStage, SeesWriting, SeesLog}
use Rattle.node_logs.specs.client_log_tie.Texts.{InputFits, MapFits, StaysWritten}
use Rattle.node_logs.specs.client_log_tie.ClientEvents.{StageWritten, Grown, IsOnce, has_log}
use Rattle.node_logs.proofs.client_log_tie.Frames.{ClientDoes}
use Rattle.node_logs.proofs.client_log_tie.Frames as frames
use Rattle.node_logs.proofs.client_log_tie.Frames.{in_after, in_before}
use Rattle.node_logs.proofs.client_log_tie.Logs.{own_after, written_after, writes_text, foreign_acked}
use Rattle.node_logs.proofs.client_log_tie.OpeningTurns.{FliesOn, Lands, Turns, acked_turns, maps_turn, tick_turns}

module _ (g : Setting) (c : ℕ) where
  -- ---- how an opening goes on

  -- it goes on, or the log is open again, or a segment is lost
  abbrev pub ProgressSeen : Scene → ℕ → Progress → Type 0
  ProgressSeen w last (progress.Opening o) = SeesStage g c w o.known last o.stage × StageWritten o.stage
  ProgressSeen w last (progress.Opened r) = SeesLog g c w r.log × StaysWritten r.log
  ProgressSeen w last (progress.Lost seg) = Unit {0}

  abbrev pub IsLost : Progress → Type 0
  IsLost (progress.Opening o) = ⊥
  IsLost (progress.Opened r) = ⊥
  IsLost (progress.Lost seg) = Unit {0}

  pub record WentTo (w : Scene) (its life : ℕ) (x : Went) : Type 0 where
    pub next : Scene
    pub grown : Grown g w next
    pub lasts : Lasts g c next its life x.questions.last
    pub shows : ProgressSeen next x.questions.last x.progress
    pub does : All (ClientDoes g c next) x.effects
    -- where a segment is lost, nothing began to fly, nothing was filed, and the owner neither writes nor serves
    pub lost : IsLost x.progress → (next.net.flown ≡ w.net.flown) × ((next.net.filed ≡ w.net.filed) × (has_log next.net.owner ≡ false))
    pub once : IsOnce grown.runs

  -- ---- the log of an opening took an input

  pub record Aloft (v : Scene) (chain : List Segment) (low : ℕ) (d : log.Done) : Type 0 where
    pub owner : v.net.owner ≡ owner.Writing chain d.state
    pub end : End
    pub flies : FliesOn end d
    pub reads : ReadsDown v.net low (record { segments = chain; end = end })

  pub record Landed (v : Scene) (chain : List Segment) (d : log.Done) : Type 0 where
    pub owner : v.net.owner ≡ owner.Serving d.state
    pub lands : Lands d
    pub filed : (name : SegName) → In name (names_of chain) → In name v.net.filed

  pub record Flew (w : Scene) (chain : List Segment) (low its life last : ℕ) (d : log.Done) : Type 0 where
    pub next : Scene
    pub grown : Grown g w next
    pub lasts : Lasts g c next its life last
    pub sent : (p : Packet) → In p (log_packets d.outs) → In p next.net.sent
    pub filed : (name : SegName) → In name (log_filed g.log d.outs) → In name next.net.filed
    pub mine : AllByRecursion (SendsOwn g.log) d.outs
    pub own : IsOwn g d.state
    pub written : StaysWritten d.state
    pub shows : Aloft next chain low d ⊎ Landed next chain d
    pub once : IsOnce grown.runs

  -- what it said is seen
  said_seen : (v : Scene) (before : Option End) (outs : List Out) → ((p : Packet) → In p (log_packets outs) → In p v.net.sent)
      → AllByRecursion (SendsOwn g.log) outs → All (ClientDoes g c v) (steps send_one before outs).outs
  unfolding send_one
  said_seen v before [] sent mine = All-nil (ClientDoes g c v)
  said_seen v before (Send fragment member ∷ outs) sent mine =
      All-cons (ClientDoes g c v) (store fragment member) (steps send_one before outs).outs (λ own. sent _ (inl refl), mine.0)
      (said_seen v before outs (λ p fact. sent p (inr fact)) mine.1)
  said_seen v before (Settled end rows ∷ outs) sent mine = said_seen v (Some end) outs sent mine.1

  chain_seen : (v : Scene) (chain : List Segment) → ((name : SegName) → In name (names_of chain) → In name v.net.filed)
      → All (ClientDoes g c v) (map filed chain)
  chain_seen v [] within = All-nil (ClientDoes g c v)
  chain_seen v (s ∷ chain) within =
      All-cons (ClientDoes g c v) (filed s) (map filed chain) (within _ (inl refl)) (chain_seen v chain (λ name fact. within name (inr fact)))

  module _ (w : Scene) (its life : ℕ) (k : Known) (q : Questions) (s : Settling) (log_is : k.owner.log ≡ g.log) (d : log.Done) where
    abbrev then_is : Settling
    then_is = record s { log = d.state }

    went_aloft : (f : Flew w s.chain s.low its life q.last d) → Aloft f.next s.chain s.low d → WentTo w its life (asking q (logged k s d))
    went_aloft f a =
        subst (λ (o : Option End). WentTo w its life (asking q (saying (written d.outs).outs (known_go_on k then_is o)))) (sym a.flies.quiet)
        (record {
          next = f.next;
          grown = f.grown;
          lasts = f.lasts;
          shows = (
            record {
              owner = a.owner;
              log = log_is;
              own = f.own;
              clear = a.flies.clear;
              flight = a.flies.flight;
              flies = a.flies.flies;
              empty = a.flies.empty;
              reads = subst (λ (e : End). ReadsDown f.next.net s.low (record { segments = s.chain; end = e })) (sym a.flies.same) a.reads;
            },
            f.written,
          );
          does = All-append (ClientDoes g c f.next) (written d.outs).outs [] (said_seen f.next None d.outs f.sent f.mine) (All-nil (ClientDoes g c f.next));
          lost = λ l. absurd l;
          once = f.once;
        })

    went_down : (f : Flew w s.chain s.low its life q.last d) → Landed f.next s.chain d → WentTo w its life (asking q (logged k s d))
    went_down f a =
        subst (λ (o : Option End). WentTo w its life (asking q (saying (written d.outs).outs (known_go_on k then_is o)))) (sym a.lands.told)
        (record {
          next = f.next;
          grown = f.grown;
          lasts = f.lasts;
          shows = (record { owner = a.owner; own = f.own }, f.written);
          does = All-append (ClientDoes g c f.next) (written d.outs).outs (file_all k.owner.log s.chain a.lands.end) (said_seen f.next None d.outs f.sent f.mine)
              (All-append (ClientDoes g c f.next) (map filed s.chain) (Does (Filed (name_of k.owner.log a.lands.end)) ∷ []) (chain_seen f.next s.chain a.filed)
              (All-cons (ClientDoes g c f.next) (Does (Filed (name_of k.owner.log a.lands.end))) [] (end_filed f a) (All-nil (ClientDoes g c f.next))));
          lost = λ l. absurd l;
          once = f.once;
        })
      where
        end_filed : (f : Flew w s.chain s.low its life q.last d) (a : Landed f.next s.chain d) → In (name_of k.owner.log a.lands.end) f.next.net.filed
        end_filed f a =
            subst (λ log. In (name_of log a.lands.end) f.next.net.filed) (sym log_is)
            (f.filed (name_of g.log a.lands.end) (subst (λ outs. In (name_of g.log a.lands.end) (log_filed g.log outs)) (sym a.lands.outs) (inl refl)))

    pub went_so : Flew w s.chain s.low its life q.last d → WentTo w its life (asking q (logged k s d))
    went_so f = ⊎_elim (went_aloft f) (went_down f) f.shows

  -- ---- the events

  module _ (w : Scene) (its life : ℕ) (k : Known) (q : Questions) (s : Settling) (lasts : Lasts g c w its life q.last) (sees : SeesWriting g c w k s)
      (fits : StaysWritten s.log) where
    abbrev chain : List Segment
    chain = s.chain

    -- by an event of the small world
    flew : (i : Input) → Happens g w.net (after_writing g w.net chain (log.transition s.log i)) → InputFits i → Turns s.log.end (log.transition s.log i)
        → Flew w chain s.low its life q.last (log.transition s.log i)
    flew i happens small turns = ⊎_elim aloft landed turns
      where
        aloft : FliesOn s.log.end (log.transition s.log i) → Flew w chain s.low its life q.last (log.transition s.log i)
        aloft on = record {
          next = record w { net = after_flight g w.net chain (log.transition s.log i) (Some on.flight) };
          grown = record {
            runs = On Begun (subst (λ (o : Option FlightState). Happens g w.net (after_flight g w.net chain (log.transition s.log i) o)) on.flies happens);
            sent = λ p fact. in_after (log_packets (log.transition s.log i).outs) w.net.sent p fact;
            filed = λ name fact. in_after (log_filed g.log (log.transition s.log i).outs) w.net.filed name fact;
            shelves = refl;
            registry = refl;
            low = refl;
            dropped = refl;
            asked = λ j some. refl;
          };
          lasts = record { number = lasts.number; inc = lasts.inc; fresh = lasts.fresh };
          sent = λ p fact. in_before (log_packets (log.transition s.log i).outs) w.net.sent p fact;
          filed = λ name fact. in_before (log_filed g.log (log.transition s.log i).outs) w.net.filed name fact;
          mine = (own_log g.log s.log i (record { log = sees.own.log; flight = sees.own.flight })).outs;
          own = own_after g s.log i sees.own;
          written = written_after s.log i fits small;
          shows = inl (record {
            owner = refl;
            end = s.log.end;
            flies = on;
            reads = record { some = sees.reads.some; past = sees.reads.past; numbers = sees.reads.numbers; down = sees.reads.down };
          });
          once = tt;
        }

        landed : Lands (log.transition s.log i) → Flew w chain s.low its life q.last (log.transition s.log i)
        landed down = record {
          next = record w { net = after_flight g w.net chain (log.transition s.log i) None };
          grown = record {
            runs = On Begun (subst (λ (o : Option FlightState). Happens g w.net (after_flight g w.net chain (log.transition s.log i) o)) down.landed happens);
            sent = λ p fact. in_after (log_packets (log.transition s.log i).outs) w.net.sent p fact;
            filed = λ name fact. in_after (log_filed g.log (log.transition s.log i).outs) (names_of chain ++ w.net.filed) name
                (in_after (names_of chain) w.net.filed name fact);
            shelves = refl;
            registry = refl;
            low = refl;
            dropped = refl;
            asked = λ j some. refl;
          };
          lasts = record { number = lasts.number; inc = lasts.inc; fresh = lasts.fresh };
          sent = λ p fact. in_before (log_packets (log.transition s.log i).outs) w.net.sent p fact;
          filed = λ name fact. in_before (log_filed g.log (log.transition s.log i).outs) (names_of chain ++ w.net.filed) name fact;
          mine = (own_log g.log s.log i (record { log = sees.own.log; flight = sees.own.flight })).outs;
          own = own_after g s.log i sees.own;
          written = written_after s.log i fits small;
          shows = inr (record {
            owner = refl;
            lands = down;
            filed = λ name fact. in_after (log_filed g.log (log.transition s.log i).outs) (names_of chain ++ w.net.filed) name
                (in_before (names_of chain) w.net.filed name fact);
          });
          once = tt;
        }

    -- nothing changes
    flew_still : Flew w chain s.low its life q.last (still s.log)
    flew_still = record {
      next = w;
      grown = frames.grown_still g w;
      lasts = lasts;
      sent = λ p fact. absurd fact;
      filed = λ name fact. absurd fact;
      mine = tt;
      own = sees.own;
      written = fits;
      shows = inl (record {
        owner = sees.owner;
        end = s.log.end;
        flies = record { quiet = refl; clear = sees.clear; flight = sees.flight; flies = sees.flies; empty = sees.empty; same = refl };
        reads = sees.reads;
      });
      once = frames.still_once g w;
    }

    known_write_so : (i : Input) → Flew w chain s.low its life q.last (log.transition s.log i) → WentTo w its life (asking q (known_write k s i))
    unfolding known_write
    known_write_so i f = went_so w its life k q s sees.log (log.transition s.log i) f

    pub maps_so : (m : GroupMapState) → In (MapSent m) w.net.sent → MapFits m → WentTo w its life (asking q (known_write k s (log_in.Maps m)))
    maps_so m came small =
        known_write_so (log_in.Maps m)
        (flew (log_in.Maps m) (Writes chain s.log (log_in.Maps m) sees.owner came (writes_text s.log (log_in.Maps m) fits small)) small
        (maps_turn s.log sees.flight sees.clear sees.empty sees.flies m))

    pub tick_so : WentTo w its life (asking q (known_write k s log_in.Tick))
    tick_so =
        known_write_so log_in.Tick (flew log_in.Tick (Writes chain s.log log_in.Tick sees.owner tt (writes_text s.log log_in.Tick fits tt)) tt
        (tick_turns s.log sees.flight sees.clear sees.empty sees.flies))

    pub stored_so : (name : SegName) (index generation : ℕ) → (is_of_log g name ≡ true → In (StoredSent name index generation) w.net.sent)
        → WentTo w its life (asking q (known_write k s (log_in.Acked name index generation)))
    stored_so name index generation seen = known_write_so i (by_log (is_of_log g name) refl)
      where
        i : Input
        i = log_in.Acked name index generation

        by_log : (t : Bool) → is_of_log g name ≡ t → Flew w chain s.low its life q.last (log.on_acked s.log name index generation)
        by_log true own = flew (log_in.Acked name index generation)
            (Writes chain s.log (log_in.Acked name index generation) sees.owner (seen own) (writes_text s.log (log_in.Acked name index generation) fits tt)) tt
            (acked_turns s.log sees.flight sees.clear sees.empty sees.flies name index generation)
        by_log false own = subst (Flew w chain s.low its life q.last) (sym (foreign_acked g s.log name index generation sees.own own)) flew_still
