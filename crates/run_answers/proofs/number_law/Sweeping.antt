-- What an event makes of the job of the cleaner, wherever it stands, and which counts it answers.
use Rattle.std.proofs.Common.{◌≡◌, ◌+◌, ℕ, List, [], ◌∷◌, Option, Some, None, is_some, refl, sym, subst, ◌∙◌}
use Rattle.std.specs.List.{AllByRecursion}
use Rattle.cleaner_job.specs.declared.job.Job.{Job}
use Rattle.cleaner_job.specs.declared.lasting.Lasting.{Lasting}
use Rattle.cleaner_node.specs.CleanerEvents.{Went_to, after_opening, begun_life, cleaner_hear, crash, down_at, down_wishes, happens, lasting_of, on_begin, on_deliver, on_time, opened_on, opening_at, opening_wishes, phase_has_room, restart, serves_on, serving_at, serving_wishes, takes, wish_at}
use Rattle.cleaner_node.specs.declared.cleaner.Cleaner.{Cleaner}
use Rattle.cleaner_node.specs.declared.cleaner.Phase.{Phase}
use Rattle.cleaner_node.specs.declared.cleaner.Phase.TheVariants.{Down, Opening, Serving}
use Rattle.cleaner_node.specs.declared.cleaner.Wish.{Wish}
use Rattle.cleaner_node.specs.declared.cleaner.Wish.TheVariants.{Clean, Crash, Restart}
use Rattle.cleaner_serving.specs.declared.emptying.Emptying.{Emptying}
use Rattle.cleaner_serving.specs.EmptyingEvents.{begin_job, emptying_back, on_clean, on_packet, on_tick}
use Rattle.cleaner_serving.specs.Jobs.{Done}
use Rattle.log_owner.proofs.Behaving as behaving
use Rattle.log_owner.specs.Behaves.{MayAct, MayDo}
use Rattle.log_owner.specs.declared.ended.Owner.{Owner}
use Rattle.log_owner.specs.declared.opened.Progress.{Progress}
use Rattle.log_owner.specs.declared.opened.Progress.TheVariants as progress
use Rattle.log_owner.specs.declared.opening.Opening as openings
use Rattle.log_owner.specs.Opening as opening
use Rattle.log_owner.specs.Opening.{Went}
use Rattle.log_owner.specs.Sending.{push_all}
use Rattle.node_base.specs.Beginning.{answers_unanswered, next_item}
use Rattle.node_base.specs.declared.effects.Effect.{Effect}
use Rattle.node_base.specs.declared.effects.Effect.TheVariants.{Answer as Answers, Does, Lose, Send}
use Rattle.node_base.specs.Shape.{is_well_formed}
use Rattle.version_model.specs.declared.act.Act.{Act}
use Rattle.version_model.specs.declared.act.Act.TheVariants.{Filed}
use Rattle.version_model.specs.declared.answer.Answer.{Answer}
use Rattle.version_model.specs.declared.answer.Answer.TheVariants as answer
use Rattle.wire_msg.specs.declared.packet.Do.{Do}
use Rattle.wire_msg.specs.declared.packet.Do.TheVariants as whats
use Rattle.wire_msg.specs.declared.packet.Packet.{Packet}
use Rattle.xfs_base.proofs.Alls.{all_append, all_weaker}
use Rattle.xfs_base.proofs.Booleans.{by_test}
use Rattle.xfs_base.specs.Steps.{still}
use Rattle.run_answers.proofs.number_law.Cleanings.{Uncounted, begins_so}
use Rattle.run_answers.proofs.number_law.Cleanings as cleanings
use Rattle.run_answers.proofs.number_law.Emptying.{begins_go, packet_goes, pushes_quiet, tick_goes}
use Rattle.run_answers.proofs.number_law.Tallies.{At, CountsSo, IsNoCount, IsNoDrop, Leads, Quiet, counts_quiet, drops, from_none, none_dropped, nothing_more}
use Rattle.run_answers.proofs.once_law.Items.{begun_open}

-- ---- while its log is opened

pub done_quiet : (owner : Owner) (x : Effect) → MayDo owner x → Quiet x
done_quiet owner (Send to said) does = tt
done_quiet owner (Answers item a) does = absurd does
done_quiet owner (Lose seg) does = tt
done_quiet owner (Does act) does = by act does
  where
    by : (act : Act) → MayAct act → IsNoDrop act
    by (Filed seg) does = tt
    by _ does = absurd does

answers_quiet : (o : Option ℕ) (a : Answer) → IsNoCount a → AllByRecursion Quiet (answers_unanswered o a)
answers_quiet None a quiet = tt
answers_quiet (Some item) a quiet = (quiet, tt)

pub opened_quiet : (l : Lasting) (p : Progress) → AllByRecursion Quiet (after_opening l p).outs
unfolding after_opening
opened_quiet l (progress.Opening o) = tt
opened_quiet l (progress.Opened o) =
    all_append Quiet (push_all (emptying_back l o).promised.managers (emptying_back l o).feed) (answers_unanswered l.items.unanswered answer.Done)
    (pushes_quiet (emptying_back l o).promised.managers (emptying_back l o).feed) (answers_quiet l.items.unanswered answer.Done tt)
opened_quiet l (progress.Lost seg) = answers_quiet l.items.unanswered (answer.Lost seg) tt

-- ---- an event by which no item begins

module _ (item : ℕ) where
  abbrev pub PhaseAt : ℕ → Phase → Type 0
  PhaseAt n (Down l) = Unit {0}
  PhaseAt n (Opening l o) = Unit {0}
  PhaseAt n (Serving e) = At item n e

  pub record Sweeps (n : ℕ) (w : Went_to) : Type 0 where
    pub state : PhaseAt (n + drops w.outs) w.state
    pub counts : CountsSo item n w.outs

  none_swept : (n : ℕ) (p : Phase) → PhaseAt n p → Sweeps n (still p)
  none_swept n p h = record { state = subst (λ m. PhaseAt m p) (nothing_more n) h; counts = tt }

  opened_at : (n : ℕ) (l : Lasting) (p : Progress) → PhaseAt n (after_opening l p).state
  unfolding after_opening
  opened_at n l (progress.Opening o) = tt
  opened_at n l (progress.Opened o) = tt
  opened_at n l (progress.Lost seg) = tt

  opened_swept : (n : ℕ) (l : Lasting) (owner : Owner) (w : Went) → AllByRecursion (MayDo owner) w.effects → Sweeps n (opened_on l w)
  opened_swept n l owner w does =
      let quiet = all_append Quiet w.effects (after_opening (record l { questions = w.questions }) w.progress).outs
      (all_weaker (MayDo owner) Quiet (done_quiet owner) w.effects does) (opened_quiet (record l { questions = w.questions }) w.progress) in
      record {
        state = opened_at (n + drops (opened_on l w).outs) (record l { questions = w.questions }) w.progress;
        counts = counts_quiet item n (opened_on l w).outs quiet;
      }

  serving_swept : (n : ℕ) (d : Done) → Leads item n d → Sweeps n (serves_on d)
  serving_swept n d h = record { state = h.state; counts = h.counts }

  heard_swept : (n : ℕ) (p : Phase) (packet : Packet) → PhaseAt n p → Sweeps n (cleaner_hear p packet)
  unfolding cleaner_hear
  heard_swept n (Down l) packet h = none_swept n (Down l) h
  heard_swept n (Opening l o) packet h = opened_swept n l o.known.owner (opening.opening_take o l.questions packet) (behaving.packet_so o l.questions packet).does
  heard_swept n (Serving e) packet h = serving_swept n (on_packet e packet) (packet_goes item e packet n h)

  time_swept : (n : ℕ) (p : Phase) → PhaseAt n p → Sweeps n (on_time p)
  unfolding on_time
  time_swept n (Down l) h = none_swept n (Down l) h
  time_swept n (Opening l o) h = opened_swept n l o.known.owner (opening.on_tick o l.questions) (behaving.tick_so o l.questions).does
  time_swept n (Serving e) h = serving_swept n (on_tick e) (tick_goes item e n h)

  event_swept : (c : Cleaner) (what : Do) → (what ≡ whats.Begin → ⊥) → (n : ℕ) → PhaseAt n c.phase → Sweeps n (happens c.peers c.phase what)
  unfolding on_deliver
  event_swept c whats.Begin other n h = absurd (other refl)
  event_swept c (whats.Deliver packet) other n h =
      by_test (Sweeps n) (is_well_formed c.peers packet) (cleaner_hear c.phase packet) (still c.phase) (λ _. heard_swept n c.phase packet h)
      (λ _. none_swept n c.phase h)
  event_swept c whats.Tick other n h = time_swept n c.phase h

  pub event_sweeps : (c : Cleaner) (what : Do) → (what ≡ whats.Begin → ⊥) → (n : ℕ) → PhaseAt n c.phase → Sweeps n (takes c.peers c.phase what)
  event_sweeps c what other n h =
      by_test (Sweeps n) (phase_has_room c.phase) (happens c.peers c.phase what) (still c.phase) (λ _. event_swept c what other n h) (λ _. none_swept n c.phase h)

-- ---- an item begins

uncounted_quiet : (x : Effect) → Uncounted x → Quiet x
uncounted_quiet (Send to said) h = tt
uncounted_quiet (Answers item a) h = by a h
  where
    by : (a : Answer) → cleanings.IsNoCount a → IsNoCount a
    by (answer.Count count) h = absurd h
    by _ h = tt
uncounted_quiet (Lose seg) h = tt
uncounted_quiet (Does act) h = absurd h

pub all_quiet : (outs : List Effect) → AllByRecursion Uncounted outs → AllByRecursion Quiet outs
all_quiet outs all = all_weaker Uncounted Quiet uncounted_quiet outs all

-- an event has the next item begin, or hasn't
pub begins_or_not : {A : Type 0} (what : Do) → (what ≡ whats.Begin → A) → ((what ≡ whats.Begin → ⊥) → A) → A
begins_or_not whats.Begin begins goes_on = begins refl
begins_or_not (whats.Deliver packet) begins goes_on = goes_on (λ clash. cc)
begins_or_not whats.Tick begins goes_on = goes_on (λ clash. cc)

-- `S` is so of one that serves
abbrev pub PhaseWith : (Emptying → Type 0) → Phase → Type 0
PhaseWith S (Down l) = Unit {0}
PhaseWith S (Opening l o) = Unit {0}
PhaseWith S (Serving e) = S e

-- one that is down, or opens its log, serves no more as an item begins
module _ (S : Emptying → Type 0) where
  pub down_begins : (servers : ℕ) (l : Lasting) (o : Option ℕ) → PhaseWith S (down_at servers l o).state
  unfolding restart
  down_begins servers l None = tt
  down_begins servers l (Some number) = by (wish_at l.items number)
    where
      by : (w : Wish) → PhaseWith S (down_wishes servers l number w).state
      by Restart = tt
      by Crash = tt
      by (Clean count) = tt

  pub opening_begins : (l : Lasting) (x : openings.Opening) (o : Option ℕ) → PhaseWith S (opening_at l x o).state
  unfolding crash
  opening_begins l x None = tt
  opening_begins l x (Some number) = by (wish_at l.items number)
    where
      by : (w : Wish) → PhaseWith S (opening_wishes l x number w).state
      by Restart = tt
      by Crash = tt
      by (Clean count) = tt

-- `P` is so of the open item and of the job of one that serves
abbrev pub PhaseOf : (Option ℕ → Option Job → Type 0) → Phase → Type 0
PhaseOf P p = PhaseWith (λ e. P e.lasting.items.unanswered e.job) p

-- where it is so of the job that there is, and of one that begins, of which nothing is dropped yet
module _ (P : Option ℕ → Option Job → Type 0) where
  began_so : (e : Emptying) (number count : ℕ) → ((f : Emptying) → At number 0 f → P f.lasting.items.unanswered f.job)
      → P (begin_job e number count).state.lasting.items.unanswered (begin_job e number count).state.job
  began_so e number count new =
      let h = begins_go number e number count 0 (refl, (refl, refl)) in
      let none : 0 + drops (begin_job e number count).outs ≡ 0 = from_none (drops (begin_job e number count).outs) ∙ none_dropped (begin_job e number count).outs (all_quiet (begin_job e number count).outs (begins_so e number count)) in
      new (begin_job e number count).state (subst (λ n. At number n (begin_job e number count).state) none h.state)

  module _ (e : Emptying) (old : P e.lasting.items.unanswered e.job)
      (new : (number : ℕ) (f : Emptying) → next_item e.lasting.items ≡ Some number → At number 0 f → P f.lasting.items.unanswered f.job) where
    abbrev begun : Emptying
    begun = record e { lasting = begun_life e.lasting }

    begun_so : P begun.lasting.items.unanswered begun.job
    begun_so = subst (λ u. P u e.job) (sym (begun_open e.lasting.items)) old

    wished : (number : ℕ) → next_item e.lasting.items ≡ Some number → (w : Wish) → PhaseOf P (serving_wishes begun number w).state
    unfolding on_clean crash
    wished number next Crash = tt
    wished number next Restart = begun_so
    wished number next (Clean count) =
        by_test (λ (d : Done). P d.state.lasting.items.unanswered d.state.job) (is_some begun.lasting.items.unanswered)
        (record { state = begun; outs = Answers number answer.Busy ∷ [] }) (begin_job begun number count) (λ _. begun_so)
        (λ _. began_so begun number count (λ f h. new number f next h))

    serving_begins : PhaseOf P (serving_at begun (next_item e.lasting.items)).state
    serving_begins = by (next_item e.lasting.items) refl
      where
        by : (o : Option ℕ) → next_item e.lasting.items ≡ o → PhaseOf P (serving_at begun o).state
        by None next = begun_so
        by (Some number) next = wished number next (wish_at begun.lasting.items number)

  begin_so : (servers : ℕ) (p : Phase) → PhaseOf P p
      → ((number : ℕ) (f : Emptying) → next_item (lasting_of p).items ≡ Some number → At number 0 f → P f.lasting.items.unanswered f.job)
      → PhaseOf P (on_begin servers p).state
  unfolding on_begin
  begin_so servers (Down l) old new = down_begins (λ e. P e.lasting.items.unanswered e.job) servers (begun_life l) (next_item l.items)
  begin_so servers (Opening l o) old new = opening_begins (λ e. P e.lasting.items.unanswered e.job) (begun_life l) o (next_item l.items)
  begin_so servers (Serving e) old new = serving_begins e old new

  pub begin_keeps : (c : Cleaner) → PhaseOf P c.phase
      → ((number : ℕ) (f : Emptying) → next_item (lasting_of c.phase).items ≡ Some number → At number 0 f → P f.lasting.items.unanswered f.job)
      → PhaseOf P (takes c.peers c.phase whats.Begin).state
  begin_keeps c old new =
      by_test (λ (w : Went_to). PhaseOf P w.state) (phase_has_room c.phase) (happens c.peers c.phase whats.Begin) (still c.phase)
      (λ _. begin_so c.peers.servers c.phase old new) (λ _. old)
