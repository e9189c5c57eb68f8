-- What an event makes of a cleaning, wherever the cleaner stands.
use Rattle.std.proofs.Common.{◌≡◌, ◌<◌, ◌≤◌, ◌-◌, nat_le, ℕ, true, List, [], ◌∷◌, Option, Some, None, is_some, refl, sym, ap, subst, arith}
use Rattle.std.proofs.lemmas.Bool.{leb-true}
use Rattle.std.specs.List.{AllByRecursion}
use Rattle.cleaner_job.specs.declared.job.Job.{Job}
use Rattle.cleaner_job.specs.declared.lasting.Lasting.{Lasting}
use Rattle.cleaner_job.specs.Lasting.{lasting_has_room}
use Rattle.cleaner_node.specs.CleanerEvents.{Went_to, after_opening, begun_life, cleaner_hear, crash, happens, on_begin, on_deliver, on_time, opened_on, phase_has_room, serves_on, serving_at, serving_wishes, takes, wish_at}
use Rattle.cleaner_node.specs.declared.cleaner.Cleaner.{Cleaner}
use Rattle.cleaner_node.specs.declared.cleaner.Phase.{Phase}
use Rattle.cleaner_node.specs.declared.cleaner.Phase.TheVariants.{Down, Opening, Serving}
use Rattle.cleaner_node.specs.declared.cleaner.Wish.{Wish}
use Rattle.cleaner_node.specs.declared.cleaner.Wish.TheVariants.{Clean, Crash, Restart}
use Rattle.cleaner_serving.specs.declared.emptying.Emptying.{Emptying}
use Rattle.cleaner_serving.specs.EmptyingEvents.{begin_job, emptying_has_room, on_clean, on_packet, on_tick}
use Rattle.cleaner_serving.specs.Jobs.{Done}
use Rattle.group_map.specs.GroupMapState.{GroupMapState}
use Rattle.log_owner.proofs.Behaving as behaving
use Rattle.log_owner.specs.Behaves.{MayDo}
use Rattle.log_owner.specs.declared.ended.Owner.{Owner}
use Rattle.log_owner.specs.declared.opened.Progress.{Progress}
use Rattle.log_owner.specs.declared.opened.Progress.TheVariants as progress
use Rattle.log_owner.specs.Opening as opening
use Rattle.log_owner.specs.Opening.{Went}
use Rattle.node_base.specs.Beginning.{next_item}
use Rattle.node_base.specs.declared.effects.Effect.TheVariants.{Answer as Answers}
use Rattle.node_base.specs.declared.questions.Questions.{Questions}
use Rattle.node_base.specs.Room.{has_room}
use Rattle.node_base.specs.Shape.{is_well_formed}
use Rattle.version_model.specs.declared.answer.Answer.TheVariants as answer
use Rattle.version_model.specs.declared.work.Work.{Work}
use Rattle.wire_msg.specs.declared.packet.Do.{Do}
use Rattle.wire_msg.specs.declared.packet.Do.TheVariants as whats
use Rattle.wire_msg.specs.declared.packet.Packet.{Packet}
use Rattle.xfs_base.proofs.Alls.{all_append, all_weaker}
use Rattle.xfs_base.proofs.Booleans.{and_first, and_second, by_test}
use Rattle.xfs_base.specs.declared.node.NodeId.TheVariants as nodes
use Rattle.xfs_base.specs.Limits.{counter_room, u32_end}
use Rattle.xfs_base.specs.Steps.{still}
use Rattle.run_answers.proofs.clean_law.Frames.{Acted, At, EffectSo, Frame, Leads, quiet_so, until}
use Rattle.run_answers.proofs.clean_law.Serving.{packet_goes, tick_goes}
use Rattle.run_answers.proofs.number_law.Sweeping.{PhaseWith, done_quiet, down_begins, opened_quiet, opening_begins}
use Rattle.run_answers.proofs.number_law.Tallies.{Quiet}
use Rattle.run_answers.proofs.once_law.Items.{begun_open, begun_works}
use Rattle.headline.specs.Tellings.{HasCome}

-- ---- a counter that is far from its end

below_end : (n end room : ℕ) → nat_le n (end - room) ≡ true → 1 ≤ room → 1 ≤ end → n < end
below_end n end room fact some far = (let low = leb-true n (end - room) fact in omega (arith, low, some, far))

pub serving_room : (s : Emptying) → emptying_has_room s ≡ true → s.lasting.questions.last < u32_end
serving_room s fact =
    below_end s.lasting.questions.last u32_end counter_room
    (and_second (has_room s.lasting.inc) (has_room s.lasting.questions.last) (and_first (lasting_has_room s.lasting) _ fact)) (leb-true 1 counter_room refl)
    (leb-true 1 u32_end refl)

-- ---- an event by which no item begins

module _ (f : Frame) where
  abbrev pub PhaseAt : Phase → Type 0
  PhaseAt (Down l) = Unit {0}
  PhaseAt (Opening l o) = Unit {0}
  PhaseAt (Serving s) = At f s

module _ (f : Frame) where
  pub record Sweeps (w : Went_to) : Type 0 where
    pub state : PhaseAt f w.state
    pub outs : AllByRecursion (EffectSo f) w.outs

  none_swept : (p : Phase) → PhaseAt f p → Sweeps (still p)
  none_swept p h = record { state = h; outs = tt }

  opened_at : (l : Lasting) (p : Progress) → PhaseAt f (after_opening l p).state
  unfolding after_opening
  opened_at l (progress.Opening o) = tt
  opened_at l (progress.Opened o) = tt
  opened_at l (progress.Lost seg) = tt

  opened_swept : (l : Lasting) (owner : Owner) (w : Went) → AllByRecursion (MayDo owner) w.effects → Sweeps (opened_on l w)
  opened_swept l owner w does = record {
    state = opened_at (record l { questions = w.questions }) w.progress;
    outs = quiet_so f (opened_on l w).outs
        (all_append Quiet w.effects (after_opening (record l { questions = w.questions }) w.progress).outs
        (all_weaker (MayDo owner) Quiet (done_quiet owner) w.effects does) (opened_quiet (record l { questions = w.questions }) w.progress));
  }

  serving_swept : (d : Done) → Leads f d → Sweeps (serves_on d)
  serving_swept d h = record { state = h.state; outs = h.outs }

  heard_swept : (p : Phase) (packet : Packet) → phase_has_room p ≡ true → (come : HasCome f.e nodes.Cleaner f.begun f.end packet.from packet.body)
      → PhaseAt (until f come.place) p → PhaseAt f p → AllByRecursion (Acted f) (cleaner_hear p packet).outs → Sweeps (cleaner_hear p packet)
  unfolding cleaner_hear
  heard_swept (Down l) packet room come was h acted = none_swept (Down l) h
  heard_swept (Opening l o) packet room come was h acted =
      opened_swept l o.known.owner (opening.opening_take o l.questions packet) (behaving.packet_so o l.questions packet).does
  heard_swept (Serving s) packet room come was h acted =
      serving_swept (on_packet s packet) (packet_goes f s (serving_room s room) packet come was h acted)

  time_swept : (p : Phase) → PhaseAt f p → AllByRecursion (Acted f) (on_time p).outs → Sweeps (on_time p)
  unfolding on_time
  time_swept (Down l) h acted = none_swept (Down l) h
  time_swept (Opening l o) h acted = opened_swept l o.known.owner (opening.on_tick o l.questions) (behaving.tick_so o l.questions).does
  time_swept (Serving s) h acted = serving_swept (on_tick s) (tick_goes f s h acted)

  -- it acts what it does
  abbrev pub SweptBy : Went_to → Type 0
  SweptBy w = AllByRecursion (Acted f) w.outs → Sweeps w

  -- a packet that it brings comes in it, and before it the cleaner stood so
  abbrev pub Comes : Cleaner → Do → Type 0
  Comes c what =
      (packet : Packet) → what ≡ whats.Deliver packet
      → (come : HasCome f.e nodes.Cleaner f.begun f.end packet.from packet.body) × PhaseAt (until f come.place) c.phase

  event_swept : (c : Cleaner) (what : Do) → (what ≡ whats.Begin → ⊥) → Comes c what → phase_has_room c.phase ≡ true → PhaseAt f c.phase
      → SweptBy (happens c.peers c.phase what)
  unfolding on_deliver
  event_swept c whats.Begin other come room h = absurd (other refl)
  event_swept c (whats.Deliver packet) other come room h =
      by_test SweptBy (is_well_formed c.peers packet) (cleaner_hear c.phase packet) (still c.phase)
      (λ _ acted. heard_swept c.phase packet room (come packet refl).0 (come packet refl).1 h acted) (λ _ acted. none_swept c.phase h)
  event_swept c whats.Tick other come room h = λ acted. time_swept c.phase h acted

  pub event_sweeps : (c : Cleaner) (what : Do) → (what ≡ whats.Begin → ⊥) → Comes c what → PhaseAt f c.phase
      → SweptBy (takes c.peers c.phase what)
  event_sweeps c what other come h =
      by_test SweptBy (phase_has_room c.phase) (happens c.peers c.phase what) (still c.phase) (λ room. event_swept c what other come room h)
      (λ _ acted. none_swept c.phase h)

-- ---- an item begins

-- `P` is so of what a cleaner that serves has open, has asked and knows, and of its job
abbrev pub Holds : Type 1
Holds = Option ℕ → Questions → Option GroupMapState → Option Job → Type 0

abbrev pub ServesSo : Holds → Emptying → Type 0
ServesSo P s = P s.lasting.items.unanswered s.lasting.questions s.maps.groups s.job

abbrev pub PhaseOf : Holds → Phase → Type 0
PhaseOf P p = PhaseWith (ServesSo P) p

module _ (P : Holds) where
  -- where it is so of the job that there is, and of one that begins
  module _ (s : Emptying) (old : ServesSo P s)
      (new : (number many : ℕ) → next_item s.lasting.items ≡ Some number → wish_at s.lasting.items number ≡ Clean many
      → ServesSo P (begin_job (record s { lasting = begun_life s.lasting }) number many).state) where
    abbrev begun : Emptying
    begun = record s { lasting = begun_life s.lasting }

    begun_so : ServesSo P begun
    begun_so = subst (λ (u : Option ℕ). P u s.lasting.questions s.maps.groups s.job) (sym (begun_open s.lasting.items)) old

    same_wish : (number : ℕ) → wish_at begun.lasting.items number ≡ wish_at s.lasting.items number
    same_wish number =
        ap (λ (works : List Work). wish_at (record s.lasting.items { works = works }) number) (begun_works s.lasting.items)

    wished : (number : ℕ) → next_item s.lasting.items ≡ Some number → (w : Wish) → wish_at s.lasting.items number ≡ w
        → PhaseOf P (serving_wishes begun number w).state
    unfolding on_clean crash
    wished number next Crash same = tt
    wished number next Restart same = begun_so
    wished number next (Clean many) same =
        by_test (λ (d : Done). ServesSo P d.state) (is_some begun.lasting.items.unanswered)
        (record { state = begun; outs = Answers number answer.Busy ∷ [] }) (begin_job begun number many) (λ _. begun_so) (λ _. new number many next same)

    serving_begins : PhaseOf P (serving_at begun (next_item s.lasting.items)).state
    serving_begins = by (next_item s.lasting.items) refl
      where
        by : (o : Option ℕ) → next_item s.lasting.items ≡ o → PhaseOf P (serving_at begun o).state
        by None next = begun_so
        by (Some number) next = wished number next (wish_at begun.lasting.items number) (sym (same_wish number))

  abbrev pub NewSo : Phase → Type 0
  NewSo (Down l) = Unit {0}
  NewSo (Opening l o) = Unit {0}
  NewSo (Serving s) =
      (number many : ℕ) → next_item s.lasting.items ≡ Some number → wish_at s.lasting.items number ≡ Clean many → s.lasting.questions.last < u32_end
      → ServesSo P (begin_job (record s { lasting = begun_life s.lasting }) number many).state

  begin_so : (servers : ℕ) (p : Phase) → phase_has_room p ≡ true → PhaseOf P p → NewSo p → PhaseOf P (on_begin servers p).state
  unfolding on_begin
  begin_so servers (Down l) room old new = down_begins (ServesSo P) servers (begun_life l) (next_item l.items)
  begin_so servers (Opening l o) room old new = opening_begins (ServesSo P) (begun_life l) o (next_item l.items)
  begin_so servers (Serving s) room old new = serving_begins s old (λ number many next wish. new number many next wish (serving_room s room))

  pub begin_keeps : (c : Cleaner) → PhaseOf P c.phase → NewSo c.phase → PhaseOf P (takes c.peers c.phase whats.Begin).state
  begin_keeps c old new =
      by_test (λ (w : Went_to). PhaseOf P w.state) (phase_has_room c.phase) (happens c.peers c.phase whats.Begin) (still c.phase)
      (λ room. begin_so c.peers.servers c.phase room old new) (λ _. old)
