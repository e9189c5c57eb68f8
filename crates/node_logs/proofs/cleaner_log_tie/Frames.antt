-- How the cleaner goes on in the small world of its own log: what is seen stays seen, and one thing that it does follows another.
use Rattle.std.proofs.Common.{◌≡◌, ℕ, List, [], ◌∷◌, Option, Some, None, true, refl, sym, ◌∙◌, subst, inl, arith}
use Rattle.std.specs.Prelude.{IfSome}
use Rattle.std.specs.List.{AllByRecursion}
use Rattle.client_log.specs.declared.input.In.{In as LogIn}
use Rattle.client_log.specs.declared.input.In.TheVariants as log_in
use Rattle.client_log.specs.Transition as log
use Rattle.log_flight.specs.Flights.{FlightState}
use Rattle.node_base.specs.declared.effects.Effect.{Effect}
use Rattle.node_base.specs.declared.effects.Effect.TheVariants.{Send, Answer, Lose, Does}
use Rattle.version_model.specs.declared.act.Act.{Act}
use Rattle.version_model.specs.declared.act.Act.TheVariants.{Filed, Dropped}
use Rattle.wire_msg.specs.declared.body.Body.{Body}
use Rattle.wire_msg.specs.declared.body.Body.TheVariants as body
use Rattle.wire_msg.specs.declared.registry.Welcome.{Welcome}
use Rattle.xfs_base.specs.declared.node.NodeId.{NodeId}
use Rattle.xfs_base.specs.declared.node.NodeId.TheVariants.{Client, Manager, Server, Cleaner, Registry}
use Rattle.xfs_base.specs.declared.segment.SegName.{SegName}
use Rattle.xfs_base.specs.Steps.{still, saying, steps}
use Rattle.xfs_base.proofs.Alls.{all_append, all_weaker}
use Rattle.cleaner_serving.specs.declared.emptying.Emptying.{Emptying}
use Rattle.cleaner_serving.specs.Jobs.{Done}
use Rattle.cleaner_job.specs.declared.job.Job.{Job}
use Rattle.cleaner_job.specs.Starting.{cleaner_log}
use Rattle.log_protocol.specs.Tables.{In, put}
use Rattle.log_tie.specs.Seen.{log_filed}
use Rattle.log_tie.specs.Setting.{Setting}
use Rattle.log_tie.specs.Shelves.{is_of_log}
use Rattle.log_law.specs.Net.{Net, Packet, log_packets}
use Rattle.log_law.specs.Net.Packet.{StoredSent}
use Rattle.log_law.specs.Events.{CameToLog}
use Rattle.log_law.specs.Events.Runs.{Begun}
use Rattle.node_logs.specs.node_log_tie.CleanerEvents.{JobSeen, EmptyingSeen}
use Rattle.node_logs.specs.node_log_tie.Sight.{Asker, Question, BodySeen}
use Rattle.node_logs.proofs.node_log_tie.Sight.{Later}
use Rattle.node_logs.specs.node_log_tie.Sight.Question.{Unasked, OfMaps}
use Rattle.node_logs.proofs.node_log_tie.Emptied.{OnlyOrdered, emptying_later, ordered_then}
use Rattle.node_logs.proofs.node_log_tie.Going.{run_later, runs_on}
use Rattle.node_logs.proofs.node_log_tie.Lists.{if_some}
use Rattle.node_logs.proofs.node_log_tie.Sights.{answered_on, asked_on}
use Rattle.node_logs.specs.client_log_tie.ClientEvents.{Grown, IsOnce}
use Rattle.node_logs.specs.client_log_tie.Owner.{Scene}
use Rattle.node_logs.specs.client_log_tie.Texts.{InputFits}
use Rattle.node_logs.proofs.client_log_tie.Frames as client_frames
use Rattle.node_logs.proofs.client_log_tie.Logs as logs
use Rattle.node_logs.proofs.client_log_tie.Questions.{put_keeps}
use Rattle.node_logs.specs.cleaner_log_tie.Owner.{its_asker, its_number, JobStands, Stands}
use Rattle.node_logs.specs.cleaner_log_tie.OwnerEvents.{ActSeen, Grows}

-- ---- what the cleaner says, as it was said by another asker before

module _ (g : Setting) (a b : Asker) (n next : Net) (later : Later n next) (more : (k : ℕ) → (a.asked k ≡ Unasked → ⊥) → b.asked k ≡ a.asked k) where
  pub said_as : (from to : NodeId) → from ≡ a.node → (said : Body) → ((m : Welcome) → said ≡ body.Welcome m → to ≡ b.node → to ≡ a.node)
      → BodySeen g a n from to said
      → BodySeen g b next Cleaner to said
  said_as from (Server k) fact (body.Store m) own h = λ its. later.sent _ (h its)
  said_as from (Client k) fact (body.Store m) own h = tt
  said_as from (Manager k) fact (body.Store m) own h = tt
  said_as from Cleaner fact (body.Store m) own h = tt
  said_as from Registry fact (body.Store m) own h = tt
  said_as from (Server k) fact (body.Fence m) own h = λ its. ((h its).0, later.sent _ (h its).1)
  said_as from (Client k) fact (body.Fence m) own h = tt
  said_as from (Manager k) fact (body.Fence m) own h = tt
  said_as from Cleaner fact (body.Fence m) own h = tt
  said_as from Registry fact (body.Fence m) own h = tt
  said_as from to fact (body.Fenced m) own h = tt
  said_as from to fact (body.Stored m) own h = λ its. later.sent _ (h its)
  said_as from to fact (body.Fragment m) own h = λ its. later.sent _ (h its)
  said_as from to fact (body.Listed m) own h = later.sent _ h
  said_as from to fact (body.Delete m) own h = λ its. later.sent _ (h its)
  said_as from to fact (body.Hello m) own h = record { own = λ e. asked_on g a b n next later m.inc (a.asked m.ask) (b.asked m.ask) (more m.ask) (h.own fact); reached = tt }
  said_as from to fact (body.Welcome m) own h = record {
    own = λ e. answered_on g a b n next later m (a.asked m.ask) (b.asked m.ask) (more m.ask) (h.own (own m refl e));
    map = later.sent _ h.map;
    low = (let x = h.low in let y = later.low in omega arith);
  }
  said_as from to fact (body.MapNews m) own h = later.sent _ h
  said_as from to fact _ own h = tt

module _ (g : Setting) where
  -- ---- how the small world grows

  pub still_grows : (w : Scene) → Grows g w w
  still_grows w = record {
    runs = Begun;
    sent = λ p fact. fact;
    filed = λ name fact. fact;
    dropped = λ name fact. fact;
    shelves = refl;
    registry = refl;
    low = refl;
    asked = λ k some. refl;
  }

  -- but for what is asked
  abbrev pub asks_grows : (w : Scene) (n : ℕ) (x : Question) → w.asked n ≡ Unasked → Grows g w (record { net = w.net; asked = put w.asked n x })
  asks_grows w n x none = record {
    runs = Begun;
    sent = λ p fact. fact;
    filed = λ name fact. fact;
    dropped = λ name fact. fact;
    shelves = refl;
    registry = refl;
    low = refl;
    asked = put_keeps w.asked n x none;
  }

  pub grows_on : (u v w : Scene) → Grows g u v → Grows g v w → Grows g u w
  grows_on u v w a b = record {
    runs = runs_on g u.net v.net w.net a.runs b.runs;
    sent = λ p fact. b.sent p (a.sent p fact);
    filed = λ name fact. b.filed name (a.filed name fact);
    dropped = λ name fact. b.dropped name (a.dropped name fact);
    shelves = b.shelves ∙ a.shelves;
    registry = b.registry ∙ a.registry;
    low = b.low ∙ a.low;
    asked = λ k some. b.asked k (λ none. some (sym (a.asked k some) ∙ none)) ∙ a.asked k some;
  }

  -- by the owner alone
  pub owner_grows : (w v : Scene) → Grown g w v → Grows g w v
  owner_grows w v a = record {
    runs = a.runs;
    sent = a.sent;
    filed = a.filed;
    dropped = λ name fact. subst (λ names. In name names) (sym a.dropped) fact;
    shelves = a.shelves;
    registry = a.registry;
    low = a.low;
    asked = a.asked;
  }

  -- ---- where the owner serves on the way

  pub still_once : (w : Scene) → IsOnce (still_grows w).runs
  unfolding still_grows
  still_once w = tt

  pub owner_once : (w v : Scene) (a : Grown g w v) → IsOnce a.runs → IsOnce (owner_grows w v a).runs
  unfolding owner_grows
  owner_once w v a once = once

  pub is_later : (w v : Scene) → Grows g w v → Later w.net v.net
  is_later w v grown = run_later g w.net v.net grown.runs

  -- ---- what it does

  -- what it sends was sent, and what it acts is seen
  abbrev pub CleanerDoes : Scene → Effect → Type 0
  CleanerDoes w (Send to said) = BodySeen g (its_asker w) w.net Cleaner to said
  CleanerDoes w (Answer item answer) = Unit {0}
  CleanerDoes w (Lose seg) = Unit {0}
  CleanerDoes w (Does act) = ActSeen g w act

  abbrev pub AllDone : Scene → List Effect → Type 0
  AllDone w outs = AllByRecursion (CleanerDoes w) outs

  module _ (w v : Scene) (grown : Grows g w v) where
    act_more : (act : Act) → ActSeen g w act → ActSeen g v act
    act_more (Filed seg) h = grown.filed _ h
    act_more (Dropped seg) h = λ own. grown.dropped _ (h own)
    act_more _ h = tt

    does_more : (e : Effect) → CleanerDoes w e → CleanerDoes v e
    does_more (Send to said) h = said_as g (its_asker w) (its_asker v) w.net v.net (is_later w v grown) grown.asked Cleaner to refl said (λ m fact e. e) h
    does_more (Answer item answer) h = tt
    does_more (Lose seg) h = tt
    does_more (Does act) h = act_more act h

    pub all_more : (outs : List Effect) → AllDone w outs → AllDone v outs
    all_more outs all = all_weaker (CleanerDoes w) (CleanerDoes v) does_more outs all

  -- ---- one that serves

  module _ (fact : g.log ≡ cleaner_log) where
    -- as one sees it that asks for its job alone
    as_seen : (w : Scene) (e : Emptying) → Stands g w e → EmptyingSeen g w.net e
    as_seen w e h = record {
      log = record {
        log = h.log.own.log ∙ fact;
        flight =
            if_some (λ (f : FlightState). f.segment.name.log ≡ g.log) (λ (f : FlightState). f.segment.name.log ≡ cleaner_log)
            (λ f named. named ∙ fact) e.log.flight h.log.own.flight;
      };
      job = if_some (JobStands g w) (JobSeen g w.net) (λ job its. its.seen) e.job h.job;
    }

    module _ (w v : Scene) (grown : Grows g w v) where
      hello_more : (hello : Option ℕ) → IfSome hello (λ ask. w.asked ask ≡ OfMaps) → IfSome hello (λ ask. v.asked ask ≡ OfMaps)
      hello_more None h = tt
      hello_more (Some ask) h = grown.asked ask (λ none. (let x : OfMaps ≡ Unasked = sym h ∙ none in absurd cc)) ∙ h

      job_of : (job : Option Job) → IfSome job (JobStands g w) → IfSome job (JobSeen g v.net) → IfSome job (JobStands g v)
      job_of None h seen = tt
      job_of (Some job) h seen = record { seen = seen; hello = hello_more job.hello h.hello; phase = h.phase; hand = h.hand }

      pub job_more : (e : Emptying) → Stands g w e → IfSome e.job (JobStands g v)
      job_more e h = job_of e.job h.job (emptying_later g w.net v.net (is_later w v grown) e (as_seen w e h)).job

    -- what others do leaves it standing
    module _ (w : Scene) (next : Net) (later : Later w.net next) (inc : next.inc ≡ w.net.inc) (owner : next.owner ≡ w.net.owner) where
      its_job : (job : Option Job) → IfSome job (JobStands g w) → IfSome job (JobSeen g next) → IfSome job (JobStands g (record w { net = next }))
      its_job None h seen = tt
      its_job (Some job) h seen = record { seen = seen; hello = h.hello; phase = h.phase; hand = h.hand }

      pub stands_later : (e : Emptying) → Stands g w e → Stands g (record w { net = next }) e
      stands_later e h = record {
        lasts = record { number = refl; inc = inc ∙ h.lasts.inc; fresh = h.lasts.fresh };
        log = record { owner = owner ∙ h.log.owner; own = h.log.own };
        written = h.written;
        job = its_job e.job h.job (emptying_later g w.net next later e (as_seen w e h)).job;
      }

    -- ---- the log takes an input

    pub record LogTook (w : Scene) (e : Emptying) (d : log.Done) : Type 0 where
      pub next : Scene
      pub grown : Grows g w next
      pub stands : Stands g next (record e { log = d.state })
      pub sent : (p : Packet) → In p (log_packets d.outs) → In p next.net.sent
      pub filed : (name : SegName) → In name (log_filed g.log d.outs) → In name next.net.filed
      pub boot : next.net.inc ≡ w.net.inc
      pub kept : next.net.dropped ≡ w.net.dropped

    took_so : (w : Scene) (e : Emptying) (i : LogIn) (d : log.Done) → Stands g w e
        → logs.Took g its_number w its_number e.lasting.inc e.lasting.questions.last i d
        → LogTook w e d
    took_so w e i d h t = record {
      next = t.next;
      grown = owner_grows w t.next t.grown;
      stands = record { lasts = t.stands.lasts; log = t.stands.sees; written = t.stands.written; job = job_more w t.next (owner_grows w t.next t.grown) e h };
      sent = t.sent;
      filed = t.filed;
      boot = t.boot;
      kept = t.grown.dropped;
    }

    as_client : (w : Scene) (e : Emptying) → Stands g w e → client_frames.Stands g its_number w e.log its_number e.lasting.inc e.lasting.questions.last
    as_client w e h = record { lasts = h.lasts; sees = h.log; written = h.written }

    pub log_takes : (w : Scene) (e : Emptying) (i : LogIn) → Stands g w e → CameToLog w.net i → InputFits i → LogTook w e (log.transition e.log i)
    log_takes w e i h came fits =
        took_so w e i (log.transition e.log i) h
        (logs.takes g its_number w e.log its_number e.lasting.inc e.lasting.questions.last i (as_client w e h) came fits)

    pub log_takes_stored : (w : Scene) (e : Emptying) (name : SegName) (index generation : ℕ) → Stands g w e
        → (is_of_log g name ≡ true → In (StoredSent name index generation) w.net.sent)
        → LogTook w e (log.on_acked e.log name index generation)
    log_takes_stored w e name index generation h seen =
        took_so w e (log_in.Acked name index generation) (log.on_acked e.log name index generation) h
        (logs.takes_stored g its_number w e.log its_number e.lasting.inc e.lasting.questions.last name index generation (as_client w e h) seen)

  -- ---- how it goes on

  -- the small world runs on to one in which it stands, and all that it does is seen
  pub record Gone (w : Scene) (d : Done) : Type 0 where
    pub next : Scene
    pub grown : Grows g w next
    pub stands : Stands g next d.state
    pub does : AllDone next d.outs
    pub boot : next.net.inc ≡ w.net.inc
    pub only : OnlyOrdered g (its_asker w) w.net next.net d.outs

  pub at_once : (w : Scene) (e : Emptying) (outs : List Effect) → Stands g w e → AllDone w outs → Gone w (record { state = e; outs = outs })
  at_once w e outs stands does = record { next = w; grown = still_grows w; stands = stands; does = does; boot = refl; only = λ name fact. inl fact }

  pub stays : (w : Scene) (e : Emptying) → Stands g w e → Gone w (still e)
  stays w e stands = at_once w e [] stands tt

  pub and_then : (w : Scene) (d e : Done) (p : Gone w d) → Gone p.next e → Gone w (saying d.outs e)
  and_then w d e p q = record {
    next = q.next;
    grown = grows_on w p.next q.next p.grown q.grown;
    stands = q.stands;
    does = all_append (CleanerDoes q.next) d.outs e.outs (all_more p.next q.next q.grown d.outs p.does) q.does;
    boot = q.boot ∙ p.boot;
    only = ordered_then g (its_asker w) w.net p.next.net q.next.net d.outs e.outs p.only q.only;
  }

  -- what is seen at once, and then the rest
  pub after_these : (w : Scene) (outs : List Effect) (e : Done) → AllDone w outs → Gone w e → Gone w (saying outs e)
  after_these w outs e does q = record {
    next = q.next;
    grown = q.grown;
    stands = q.stands;
    does = all_append (CleanerDoes q.next) outs e.outs (all_more w q.next q.grown outs does) q.does;
    boot = q.boot;
    only = ordered_then g (its_asker w) w.net w.net q.next.net outs e.outs (λ name fact. inl fact) q.only;
  }

  -- one step after the other
  pub all_steps : {A : Type 0} (step : Emptying → A → Done) (P : Scene → A → Type 0) → ((w v : Scene) → Grows g w v → (x : A) → P w x → P v x)
      → ((w : Scene) (e : Emptying) (x : A) → Stands g w e → P w x → Gone w (step e x))
      → (w : Scene) (e : Emptying) (xs : List A) → Stands g w e → AllByRecursion (P w) xs → Gone w (steps step e xs)
  all_steps step P moves each w e [] h all = stays w e h
  all_steps step P moves each w e (x ∷ xs) h all =
      let p : Gone w (step e x) = each w e x h all.0 in
      and_then w (step e x) (steps step (step e x).state xs) p
      (all_steps step P moves each p.next (step e x).state xs p.stands (all_weaker (P w) (P p.next) (moves w p.next p.grown) xs all.1))
