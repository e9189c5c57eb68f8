-- In every run a cleaning that the cleaner answers by a count has taken what is due.
use Rattle.std.proofs.Common.{◌≡◌, ◌⊎◌, ◌<◌, ◌+◌, ℕ, suc, List, [], Option, Some, None, drop, length, map, slice_get, inl, inr, refl, sym, ap, subst, ◌∙◌, arith}
use Rattle.std.proofs.Math.Seq.{drop-append_seam, drop-length}
use Rattle.std.specs.List.{AllByRecursion}
use Rattle.std.specs.Prelude.{IfSome}
use Rattle.cleaner_job.specs.declared.job.Job.{Job}
use Rattle.cleaner_node.specs.CleanerEvents.{begun_life, takes, wish_at}
use Rattle.cleaner_node.specs.declared.cleaner.Cleaner.{Cleaner}
use Rattle.cleaner_node.specs.declared.cleaner.Phase.{Phase}
use Rattle.cleaner_node.specs.declared.cleaner.Phase.TheVariants.{Down, Opening, Serving}
use Rattle.cleaner_node.specs.declared.cleaner.Wish.TheVariants.{Clean}
use Rattle.cleaner_serving.specs.declared.emptying.Emptying.{Emptying}
use Rattle.cleaner_serving.specs.EmptyingEvents.{begin_job, with_new_job}
use Rattle.core_world.specs.AnyNode.{any_start, any_step}
use Rattle.core_world.specs.declared.any_node.AnyNode.{AnyNode}
use Rattle.core_world.specs.declared.any_node.AnyNode.TheVariants as any
use Rattle.group_map.specs.GroupMapState.{GroupMapState}
use Rattle.node_base.specs.Beginning.{next_item}
use Rattle.node_base.specs.declared.effects.Effect.{Effect}
use Rattle.node_base.specs.declared.effects.Effect.TheVariants.{Send}
use Rattle.node_base.specs.declared.questions.Questions.{Questions}
use Rattle.node_base.specs.Effects.{acts_of, packets_of}
use Rattle.token_protocol.specs.Basics.{In}
use Rattle.version_model.specs.declared.act.Act.{Act}
use Rattle.version_model.specs.declared.act.Act.TheVariants as act
use Rattle.version_model.specs.declared.answer.Answer.TheVariants as answer
use Rattle.wire_msg.specs.declared.body.Body.TheVariants as body
use Rattle.wire_msg.specs.declared.packet.Do.{Do}
use Rattle.wire_msg.specs.declared.packet.Do.TheVariants as whats
use Rattle.wire_msg.specs.declared.packet.Packet.{Packet}
use Rattle.wire_msg.specs.declared.storage.Fetch.{Fetch}
use Rattle.world_base.specs.declared.estate.Estate.{Estate}
use Rattle.world_base.specs.declared.event.Event.{Event}
use Rattle.world_base.specs.declared.world.World.{World}
use Rattle.world_base.specs.Events.{node_of, what_of}
use Rattle.world_base.specs.Items.{items_of}
use Rattle.world_base.specs.NextWorld.{sent_at}
use Rattle.world_base.specs.Runs.{IsRun}
use Rattle.xfs_base.specs.declared.node.NodeId.{NodeId}
use Rattle.xfs_base.specs.declared.node.NodeId.TheVariants as nodes
use Rattle.xfs_base.specs.declared.segment.SegName.{SegName}
use Rattle.xfs_base.specs.Limits.{u32_end}
use Rattle.run_laws.proofs.world_reads.Taking.{Took, moment_next}
use Rattle.headline.specs.Checkpoints.{sent_in}
use Rattle.headline.specs.Dues.{NothingComes, TakesTurn}
use Rattle.headline.specs.Moments.{acts_in, moment, node_named}
use Rattle.run_answers.proofs.clean_law.Effects.{acts_due, all_acted, counted_item}
use Rattle.run_answers.proofs.clean_law.Frames.{Acted, At, Frame, JobSo, until}
use Rattle.run_answers.proofs.clean_law.Serving.{begins_go}
use Rattle.run_answers.proofs.clean_law.Standing as standing
use Rattle.run_answers.proofs.clean_law.Standing.{job_later}
use Rattle.run_answers.proofs.clean_law.Sweeping.{Comes, NewSo, PhaseAt, PhaseOf, ServesSo, Sweeps, begin_keeps, event_sweeps}
use Rattle.run_answers.proofs.due_law.Runs.{turn, turns_or_ends}
use Rattle.run_answers.proofs.number_law.Acting.{acting, event_begins, event_delivers, node_behind}
use Rattle.run_answers.proofs.number_law.Cleanings.{Uncounted, begins_asking, begins_uncounted}
use Rattle.run_answers.proofs.number_law.Counts.{none_so, no_client, no_manager, no_registry, no_server}
use Rattle.run_answers.proofs.number_law.Sweeping as numbers
use Rattle.run_answers.proofs.number_law.Tallies as tallies
use Rattle.run_answers.proofs.once_law.Runs.{node_known, runs_answer_once}
use Rattle.run_answers.proofs.repeat_law.Among.{in_map}
use Rattle.run_answers.proofs.standing_law.Moments.{each_moment}
use Rattle.run_answers.proofs.wait_law.Again.{sent}
use Rattle.headline.specs.Cleanings.{BeginsCleaning, IsDropped, KnowsGroups, TakesWhatIsDue}
use Rattle.headline.specs.Cleanings.KnowsGroups.{AtFirst}
use Rattle.headline.specs.Tellings.{HasFetched}
use Rattle.run_answers.specs.clean_law.Runs.{EachRunsCleaningsTakeWhatIsDue}

first_known : (e : Estate AnyNode) (begun end : ℕ) (o : Option GroupMapState) → IfSome o (KnowsGroups e begun end o)
first_known e begun end None = tt
first_known e begun end (Some groups) = AtFirst refl

module _ (e : Estate AnyNode) where
  -- a cleaning is under way for this open item
  record Works (count : ℕ) (u : Option ℕ) (q : Questions) (groups : Option GroupMapState) (job : Job) : Type 0 where
    item : ℕ
    begun : ℕ
    many : ℕ
    last : ℕ
    at_first : Option GroupMapState
    room : last < u32_end
    began : BeginsCleaning e item begun many last at_first
    since : begun < count
    so : standing.JobSo e begun count last at_first many item u q groups (Some job)

  abbrev WorkSo : ℕ → Option ℕ → Questions → Option GroupMapState → Option Job → Type 0
  WorkSo count u q groups None = Unit {0}
  WorkSo count u q groups (Some job) = Works count u q groups job

  abbrev CleanerSo : ℕ → AnyNode → Type 0
  CleanerSo count (any.Cleaner c) = PhaseOf (WorkSo count) c.phase
  CleanerSo count _ = Unit {0}

  abbrev Stands : ℕ → NodeId → AnyNode → Type 0
  Stands count nodes.Cleaner x = CleanerSo count x
  Stands count _ x = Unit {0}

  starts : (name : NodeId) → Stands 0 name (any_start name e.script.setup (items_of e.script.lines name))
  starts (nodes.Client k) = tt
  starts (nodes.Manager k) = tt
  starts (nodes.Server k) = tt
  starts nodes.Cleaner = tt
  starts nodes.Registry = tt

  work_later : (count : ℕ) (u : Option ℕ) (q : Questions) (groups : Option GroupMapState) (o : Option Job) → WorkSo count u q groups o
      → WorkSo (suc count) u q groups o
  work_later count u q groups None h = tt
  work_later count u q groups (Some job) h =
      let low = h.since in
      record {
        item = h.item;
        begun = h.begun;
        many = h.many;
        last = h.last;
        at_first = h.at_first;
        room = h.room;
        began = h.began;
        since = omega (arith, low);
        so = job_later e h.begun count h.last h.at_first h.many h.item u q groups (Some job) h.so;
      }

  phase_later : (count : ℕ) (p : Phase) → PhaseOf (WorkSo count) p → PhaseOf (WorkSo (suc count)) p
  phase_later count (Down l) h = tt
  phase_later count (Opening l o) h = tt
  phase_later count (Serving s) h = work_later count s.lasting.items.unanswered s.lasting.questions s.maps.groups s.job h

  node_later : (count : ℕ) (x : AnyNode) → CleanerSo count x → CleanerSo (suc count) x
  node_later count (any.Client c) h = tt
  node_later count (any.Manager m) h = tt
  node_later count (any.Server v) h = tt
  node_later count (any.Cleaner c) h = phase_later count c.phase h
  node_later count (any.Registry r) h = tt

  later : (count : ℕ) (name : NodeId) (x : AnyNode) → Stands count name x → Stands (suc count) name x
  later count (nodes.Client k) x h = tt
  later count (nodes.Manager k) x h = tt
  later count (nodes.Server v) x h = tt
  later count nodes.Cleaner x h = node_later count x h
  later count nodes.Registry x h = tt

  -- ---- an event of the cleaner

  module _ (count : ℕ) (event : Event) (happens : slice_get e.events count ≡ Some event) (named : node_of event ≡ nodes.Cleaner) (c : Cleaner)
      (was : node_named (moment e count) nodes.Cleaner ≡ Some (any.Cleaner c)) (took : TakesTurn e count event (any.Cleaner c)) (h : PhaseOf (WorkSo count) c.phase) where
    abbrev outs : List Effect
    outs = (takes c.peers c.phase (what_of event)).outs

    abbrev asking : ℕ → Fetch → Packet
    asking server m = record { from = nodes.Cleaner; to = nodes.Server server; clock = 0; body = body.Fetch m }

    added : sent_in (moment e count) event ≡ map (sent_at took.clock) (packets_of nodes.Cleaner outs)
    added =
        ap (drop (length (moment e count).sent)) (ap (λ (w : World AnyNode). w.sent) (sym (moment_next e count event happens)) ∙ took.sent)
        ∙ drop-append_seam (moment e count).sent (map (sent_at took.clock) (packets_of nodes.Cleaner outs))

    -- by which no item begins
    abbrev Working : Type 0
    Working = (what_of event ≡ whats.Begin → ⊥)

    -- what is known of it before
    data Known : Type 0 where
      Idle : ((item n : ℕ) → numbers.PhaseAt item n c.phase) → Known
      Busy : (s : Emptying) (job : Job) → c.phase ≡ Serving s → s.job ≡ Some job
          → Works count s.lasting.items.unanswered s.lasting.questions s.maps.groups job → Known

    phase_known : Known
    phase_known = by c.phase refl h
      where
        serves : (s : Emptying) → c.phase ≡ Serving s → (o : Option Job) → s.job ≡ o → WorkSo count s.lasting.items.unanswered s.lasting.questions s.maps.groups o
            → Known
        serves s same None none h =
            Idle (λ item n. subst (numbers.PhaseAt item n) (sym same) (subst (tallies.JobSo item n s.lasting.items.unanswered) (sym none) tt))
        serves s same (Some job) some h = Busy s job same some h

        by : (p : Phase) → c.phase ≡ p → PhaseOf (WorkSo count) p → Known
        by (Down l) same h = Idle (λ item n. subst (numbers.PhaseAt item n) (sym same) tt)
        by (Opening l o) same h = Idle (λ item n. subst (numbers.PhaseAt item n) (sym same) tt)
        by (Serving s) same h = serves s same s.job refl h

    none_works : (u : Option ℕ) (q : Questions) (groups : Option GroupMapState) (o : Option Job) (n : ℕ) → ((item : ℕ) → tallies.JobSo item n u o)
        → WorkSo (suc count) u q groups o
    none_works u q groups None n each = tt
    none_works u q groups (Some job) n each = absurd (two u (each 0).0 (each 1).0)
      where
        two : (u : Option ℕ) → u ≡ Some 0 → u ≡ Some 1 → ⊥
        two u a b = (let clash : Some 0 ≡ Some 1 = sym a ∙ b in absurd cc)

    none_turns : (p : Phase) (n : ℕ) → ((item : ℕ) → numbers.PhaseAt item n p) → PhaseOf (WorkSo (suc count)) p
    none_turns (Down l) n each = tt
    none_turns (Opening l o) n each = tt
    none_turns (Serving s) n each = none_works s.lasting.items.unanswered s.lasting.questions s.maps.groups s.job n each

    module _ (s : Emptying) (job : Job) (same : c.phase ≡ Serving s) (its_job : s.job ≡ Some job)
        (w : Works count s.lasting.items.unanswered s.lasting.questions s.maps.groups job) where
      abbrev f : Frame
      f = record {
        e = e;
        begun = w.begun;
        end = suc count;
        last = w.last;
        at_first = w.at_first;
        many = w.many;
        item = w.item;
        room = w.room;
      }

      stands : PhaseAt f c.phase
      stands =
          subst (PhaseAt f) (sym same)
          (subst (JobSo f s.lasting.items.unanswered s.lasting.questions s.maps.groups) (sym its_job)
          (job_later e w.begun count w.last w.at_first w.many w.item s.lasting.items.unanswered s.lasting.questions s.maps.groups (Some job) w.so))

      dropped_now : (name : SegName) → In (act.Dropped name) (acts_of nodes.Cleaner outs) → IsDropped e w.begun (suc count) name
      dropped_now name among =
          let low = w.since in
          record {
            place = count;
            since = low;
            before = omega arith;
            event = event;
            happens = happens;
            own = named;
            acted = subst (λ (xs : List Act). In (act.Dropped name) xs) (sym took.acts) among;
          }

      asked_now : (server : ℕ) (m : Fetch) → In (Send (nodes.Server server) (body.Fetch m)) outs
          → HasFetched e nodes.Cleaner w.begun (suc count) m.name m.ask server
      asked_now server m among =
          let low = w.since in
          record {
            place = count;
            since = low;
            before = omega arith;
            event = event;
            happens = happens;
            packet = sent_at took.clock (asking server m);
            sent = subst (λ (packets : List Packet). In (sent_at took.clock (asking server m)) packets) (sym added)
                (in_map (sent_at took.clock) (asking server m) (packets_of nodes.Cleaner outs) (sent nodes.Cleaner (nodes.Server server) (body.Fetch m) outs among));
            from_it = refl;
            to_server = refl;
            says = refl;
          }

      stood : PhaseAt (until f count) c.phase
      stood =
          subst (PhaseAt (until f count)) (sym same)
          (subst (JobSo (until f count) s.lasting.items.unanswered s.lasting.questions s.maps.groups) (sym its_job) w.so)

      comes : Comes f c (what_of event)
      comes packet fact =
          let low = w.since in (
            record {
              place = count;
              since = low;
              before = omega arith;
              packet = packet;
              happens = happens ∙ ap Some (event_delivers event packet fact);
              to_it = ap node_of (sym (event_delivers event packet fact)) ∙ named;
              from_it = refl;
              says = refl;
            },
            stood,
          )

      sweeps : Working → Sweeps f (takes c.peers c.phase (what_of event))
      sweeps other =
          event_sweeps f c (what_of event) other comes stands (all_acted f outs dropped_now asked_now outs (λ x among. among) (λ a among. among))

      turns_on : (p : Phase) → PhaseAt f p → PhaseOf (WorkSo (suc count)) p
      turns_on (Down l) at = tt
      turns_on (Opening l o) at = tt
      turns_on (Serving t) at = one t.job at
        where
          one : (o : Option Job) → JobSo f t.lasting.items.unanswered t.lasting.questions t.maps.groups o
              → WorkSo (suc count) t.lasting.items.unanswered t.lasting.questions t.maps.groups o
          one None at = tt
          one (Some next) at =
              let low = w.since in
              record {
                item = w.item;
                begun = w.begun;
                many = w.many;
                last = w.last;
                at_first = w.at_first;
                room = w.room;
                began = w.began;
                since = omega (arith, low);
                so = at;
              }

      due : Working → (number cleaned : ℕ) → In (act.Answered nodes.Cleaner number (answer.Count cleaned)) (acts_of nodes.Cleaner outs)
          → TakesWhatIsDue e count number cleaned
      due other number cleaned among =
          let d = acts_due f number cleaned outs (sweeps other).outs among in
          record {
            begun = w.begun;
            many = w.many;
            last = w.last;
            at_first = w.at_first;
            began = subst (λ (n : ℕ). BeginsCleaning e n w.begun w.many w.last w.at_first) (sym d.0) w.began;
            since = w.since;
            taken = d.1.taken;
            are = d.1.are;
            dropped = d.1.dropped;
            emptied = d.1.emptied;
            counts = d.1.counts;
          }

    goes_on : Working → PhaseOf (WorkSo (suc count)) (takes c.peers c.phase (what_of event)).state
    goes_on other = by phase_known
      where
        by : Known → PhaseOf (WorkSo (suc count)) (takes c.peers c.phase (what_of event)).state
        by (Idle at) =
            none_turns (takes c.peers c.phase (what_of event)).state (0 + tallies.drops outs)
            (λ item. (numbers.event_sweeps item c (what_of event) other 0 (at item 0)).state)
        by (Busy s job same its_job w) = turns_on s job same its_job w (takes c.peers c.phase (what_of event)).state (sweeps s job same its_job w other).state

    -- by which one begins
    module _ (begin : what_of event ≡ whats.Begin) (s : Emptying) (serves : c.phase ≡ Serving s) (number many : ℕ)
        (next : next_item s.lasting.items ≡ Some number) (asks : wish_at s.lasting.items number ≡ Clean many) (room : s.lasting.questions.last < u32_end) where
      abbrev begun : Emptying
      begun = record s { lasting = begun_life s.lasting }

      abbrev g : Frame
      g = record {
        e = e;
        begun = count;
        end = suc count;
        last = s.lasting.questions.last;
        at_first = s.maps.groups;
        many = many;
        item = number;
        room = room;
      }

      starts_so : At g (with_new_job begun number many)
      starts_so = record {
        waits = refl;
        low = omega arith;
        known = first_known e count (suc count) s.maps.groups;
        hello = tt;
        lists = tt;
        count = refl;
        hand = tt;
        phase = tt;
      }

      acts_none : AllByRecursion (Acted g) (begin_job begun number many).outs
      acts_none = begins_asking (Acted g) (λ inc ask. tt) begun number many

      works : (t : Emptying) → At g t → ServesSo (WorkSo (suc count)) t
      works t at = by t.job at
        where
          by : (o : Option Job) → JobSo g t.lasting.items.unanswered t.lasting.questions t.maps.groups o
              → WorkSo (suc count) t.lasting.items.unanswered t.lasting.questions t.maps.groups o
          by None at = tt
          by (Some job) at = record {
            item = number;
            begun = count;
            many = many;
            last = s.lasting.questions.last;
            at_first = s.maps.groups;
            room = room;
            began = record {
              happens = happens ∙ ap Some (event_begins event nodes.Cleaner named begin);
              cleaner = c;
              its = was;
              serving = s;
              serves = serves;
              next = next;
              asks = asks;
              questions = refl;
              known = refl;
            };
            since = omega arith;
            so = at;
          }

      begins_new : ServesSo (WorkSo (suc count)) (begin_job begun number many).state
      begins_new = works (begin_job begun number many).state (begins_go g begun number many starts_so acts_none).state

    new_so : what_of event ≡ whats.Begin → (p : Phase) → c.phase ≡ p → NewSo (WorkSo (suc count)) p
    new_so begin (Down l) same = tt
    new_so begin (Opening l o) same = tt
    new_so begin (Serving s) same = λ number many next asks room. begins_new begin s same number many next asks room

    begins : what_of event ≡ whats.Begin → PhaseOf (WorkSo (suc count)) (takes c.peers c.phase (what_of event)).state
    begins begin =
        subst (λ (what : Do). PhaseOf (WorkSo (suc count)) (takes c.peers c.phase what).state) (sym begin)
        (begin_keeps (WorkSo (suc count)) c (phase_later count c.phase h) (new_so begin c.phase refl))

    turned : PhaseOf (WorkSo (suc count)) (takes c.peers c.phase (what_of event)).state
    turned = numbers.begins_or_not (what_of event) begins goes_on

    -- ---- a count that it answers

    answers : (item cleaned : ℕ) → In (act.Answered nodes.Cleaner item (answer.Count cleaned)) (acts_in (moment e count) event)
        → TakesWhatIsDue e count item cleaned
    answers item cleaned acted = by phase_known
      where
        among : In (act.Answered nodes.Cleaner item (answer.Count cleaned)) (acts_of nodes.Cleaner outs)
        among = subst (λ (xs : List Act). In (act.Answered nodes.Cleaner item (answer.Count cleaned)) xs) took.acts acted

        other : Working
        other begin =
            none_so item cleaned nodes.Cleaner outs
            (subst (λ (what : Do). AllByRecursion Uncounted (takes c.peers c.phase what).outs) (sym begin) (begins_uncounted c)) among

        by : Known → TakesWhatIsDue e count item cleaned
        by (Idle at) =
            let zeroth = counted_item 0 item cleaned outs 0 (numbers.event_sweeps 0 c (what_of event) other 0 (at 0 0)).counts among in
            let first = counted_item 1 item cleaned outs 0 (numbers.event_sweeps 1 c (what_of event) other 0 (at 1 0)).counts among in
            (let clash : 0 ≡ 1 = sym zeroth ∙ first in absurd (omega arith))
        by (Busy s job same its_job w) = due s job same its_job w other item cleaned among

  one_node : (a b : AnyNode) → Some a ≡ Some b → a ≡ b
  one_node a b fact = cc

  -- the node that has its turn
  turned_by : (count : ℕ) (event : Event) → slice_get e.events count ≡ Some event → (name : NodeId) → node_of event ≡ name → (x : AnyNode)
      → node_named (moment e count) name ≡ Some x → TakesTurn e count event x → Stands count name x
      → Stands (suc count) name (any_step x (what_of event)).node
  turned_by count event happens (nodes.Client k) named x was took h = tt
  turned_by count event happens (nodes.Manager k) named x was took h = tt
  turned_by count event happens (nodes.Server k) named x was took h = tt
  turned_by count event happens nodes.Cleaner named (any.Client c) was took h = tt
  turned_by count event happens nodes.Cleaner named (any.Manager m) was took h = tt
  turned_by count event happens nodes.Cleaner named (any.Server v) was took h = tt
  turned_by count event happens nodes.Cleaner named (any.Cleaner c) was took h = turned count event happens named c was took h
  turned_by count event happens nodes.Cleaner named (any.Registry r) was took h = tt
  turned_by count event happens nodes.Registry named x was took h = tt

  turns : (count : ℕ) (event : Event) → slice_get e.events count ≡ Some event → (x : AnyNode) → node_named (moment e count) (node_of event) ≡ Some x
      → Took (moment e count) event x → Stands count (node_of event) x → Stands (suc count) (node_of event) (any_step x (what_of event)).node
  turns count event happens x was took h = by (turn e count event happens x was (turns_or_ends (moment e count) event x was))
    where
      by : NothingComes e count event ⊎ TakesTurn e count event x → Stands (suc count) (node_of event) (any_step x (what_of event)).node
      by (inl none) =
          let here : node_named (moment e (suc count)) (node_of event) ≡ Some x =
          ap (λ (w : World AnyNode). node_named w (node_of event)) none.stays ∙ was in
          subst (Stands (suc count) (node_of event)) (one_node x (any_step x (what_of event)).node (sym here ∙ node_behind e count event happens x took))
          (later count (node_of event) x h)
      by (inr turned) = turned_by count event happens (node_of event) refl x was turned h

  stands_at : (count : ℕ) (name : NodeId) (x : AnyNode) → node_named (moment e count) name ≡ Some x → Stands count name x
  stands_at = each_moment Stands e starts (λ count name x idles h. later count name x h) turns

  module _ (run : IsRun any_step any_start e.script e.events e.world) where
    takes_due : (count : ℕ) (event : Event) → slice_get e.events count ≡ Some event → (item cleaned : ℕ)
        → In (act.Answered nodes.Cleaner item (answer.Count cleaned)) (acts_in (moment e count) event) → TakesWhatIsDue e count item cleaned
    takes_due count event happens item cleaned acted =
        let a = acting e count event happens _ acted in
        let own : nodes.Cleaner ≡ node_of event =
        ((runs_answer_once e run).own count event happens nodes.Cleaner item (answer.Count cleaned) acted).own in
        by a.x (node_of event) (sym own) refl a.was (turn e count event happens a.x a.was (turns_or_ends (moment e count) event a.x a.was))
      where
        none_acted : NothingComes e count event → acts_in (moment e count) event ≡ []
        none_acted none =
            ap (λ (w : World AnyNode). drop (length (moment e count).acts) w.acts) (sym (moment_next e count event happens) ∙ none.stays)
            ∙ drop-length (moment e count).acts

        by : (x : AnyNode) (name : NodeId) → name ≡ nodes.Cleaner → node_of event ≡ name → node_named (moment e count) name ≡ Some x
            → NothingComes e count event ⊎ TakesTurn e count event x → TakesWhatIsDue e count item cleaned
        by x name same named was (inl none) =
            absurd (subst (λ (xs : List Act). In (act.Answered nodes.Cleaner item (answer.Count cleaned)) xs) (none_acted none) acted)
        by (any.Cleaner c) name same named was (inr took) =
            let its_was = subst (λ (n : NodeId). node_named (moment e count) n ≡ Some (any.Cleaner c)) same was in
            answers count event happens (named ∙ same) c its_was took (stands_at count nodes.Cleaner (any.Cleaner c) its_was) item cleaned acted
        by (any.Client c) name same named was (inr took) = absurd (no_client _ ((node_known e count name (any.Client c) was).named ∙ same))
        by (any.Manager m) name same named was (inr took) = absurd (no_manager _ ((node_known e count name (any.Manager m) was).named ∙ same))
        by (any.Server v) name same named was (inr took) = absurd (no_server _ ((node_known e count name (any.Server v) was).named ∙ same))
        by (any.Registry r) name same named was (inr took) = absurd (no_registry ((node_known e count name (any.Registry r) was).named ∙ same))

pub each_run : EachRunsCleaningsTakeWhatIsDue
each_run e run = takes_due e run
