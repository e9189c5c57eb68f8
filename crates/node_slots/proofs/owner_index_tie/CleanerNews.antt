-- What the maps make of a cleaner that serves: it promises later epochs, its log looks whether its flight is settled, and its job is welcomed.
use Rattle.headline.specs.Filed.{Filed, Texts}
use Rattle.segment_format.specs.declared.segment.Segment.{Segment}
use Rattle.std.proofs.Common.{◌≡◌, ◌≤◌, ◌<◌, ◌==◌, ◌&&◌, ℕ, Bool, true, false, List, [], ◌∷◌, Option, Some, None, nat_lt, refl, sym, subst, ◌∙◌, arith}
use Rattle.std.specs.List.{AllByRecursion}
use Rattle.std.proofs.lemmas.Bool.Decides.{nat_tests}
use Rattle.std.proofs.lemmas.Bool.{ltb-false}
use Rattle.cleaner_serving.specs.declared.emptying.Emptying.{Emptying}
use Rattle.cleaner_serving.specs.EmptyingEvents.{emptying_promise, hear_slot, hear_slots, regroup_job, regroup_log, take_news, on_news, welcome_over, emptying_welcome, on_welcome}
use Rattle.cleaner_serving.specs.Jobs.{Done, ask_usage, says, takes_in, emptying_take, emptying_clean}
use Rattle.cleaner_job.specs.declared.job.Job.{Job}
use Rattle.cleaner_job.specs.Jobs.{hello_of, note_greeted, is_out}
use Rattle.client_log.specs.declared.input.In.TheVariants as log_in
use Rattle.delta_feed.specs.Transition.{new_epoch}
use Rattle.group_map.specs.GroupMapState.{GroupMapState}
use Rattle.index_tie.specs.Net.{Net, Packet}
use Rattle.log_owner.specs.Promised.{epoch_of}
use Rattle.node_base.specs.Maps.{fits, is_older, maps_take}
use Rattle.node_slots.proofs.owner_index_tie.MovesLog.{FlightKnown}
use Rattle.node_slots.specs.node_index_tie.Sight.{Questions}
use Rattle.stripe_cleaner.specs.CleaningState.{CleaningState}
use Rattle.stripe_cleaner.specs.Counting.{has_usage}
use Rattle.stripe_cleaner.specs.declared.input.In.TheVariants as input
use Rattle.stripe_cleaner.specs.declared.output.Out.{Out}
use Rattle.stripe_cleaner.specs.declared.output.Out.TheVariants as out
use Rattle.stripe_cleaner.specs.declared.phase.Phase.{Phase}
use Rattle.stripe_cleaner.specs.declared.phase.Phase.TheVariants.{Counting}
use Rattle.stripe_cleaner.specs.Promises.{promised_with, is_above}
use Rattle.stripe_cleaner.specs.Transition as job
use Rattle.wire_msg.specs.declared.registry.News.{News}
use Rattle.wire_msg.specs.declared.registry.Welcome.{Welcome}
use Rattle.xfs_base.proofs.Booleans.{by_test}
use Rattle.xfs_base.specs.declared.news.SlotNews.{SlotNews}
use Rattle.xfs_base.specs.Steps.{still, saying, steps}
use Rattle.node_slots.specs.owner_index_tie.CleanerEvents.{JobAgrees}
use Rattle.node_slots.proofs.owner_index_tie.CleanerFrames as frames
use Rattle.node_slots.proofs.owner_index_tie.CleanerFrames.{Grows, Stands}
use Rattle.node_slots.proofs.owner_index_tie.CleanerJobs as jobs
use Rattle.node_slots.proofs.owner_index_tie.CleanerJobs.{NoHigher}
use Rattle.node_slots.proofs.owner_index_tie.CleanerLog.{emptying_write_so}
use Rattle.node_slots.proofs.owner_index_tie.CleanerPromises as promises
use Rattle.node_slots.proofs.owner_index_tie.CleanerPromises.{UpTo, promised_so}
use Rattle.node_slots.proofs.owner_index_tie.CleanerSays.{rejobbed}

-- ---- maps and promises leave the log as it is

IsUsageAsk : Out → Type 0
IsUsageAsk (out.UsageAsk slot) = Unit {0}
IsUsageAsk _ = ⊥

usage_log : (e : Emptying) (o : Option Job) (slot : ℕ) → (ask_usage e o slot).state.log ≡ e.log
usage_log e None slot = refl
usage_log e (Some job) slot = refl

said_log : (e : Emptying) (outs : List Out) → AllByRecursion IsUsageAsk outs → (steps says e outs).state.log ≡ e.log
unfolding IsUsageAsk says
said_log e [] all = refl
said_log e (out.UsageAsk slot ∷ outs) all = said_log (says e (out.UsageAsk slot)).state outs all.1 ∙ usage_log e e.job slot
said_log e (out.Hello ∷ outs) all = absurd all.0
said_log e (out.List server ∷ outs) all = absurd all.0
said_log e (out.Fetch seg ∷ outs) all = absurd all.0
said_log e (out.Check block place ∷ outs) all = absurd all.0
said_log e (out.Move blocks ∷ outs) all = absurd all.0
said_log e (out.Delete server name ∷ outs) all = absurd all.0
said_log e (out.Finished count ∷ outs) all = absurd all.0

forgetting_asks : (slot : ℕ) (p : Phase) → AllByRecursion IsUsageAsk (job.forgetting slot p).outs
unfolding IsUsageAsk
forgetting_asks slot (Counting c) = by_test (λ (t : _). AllByRecursion IsUsageAsk t.outs) (has_usage c.usages slot) _ (still (Counting c)) (λ _. (tt, tt))
    (λ _. tt)
forgetting_asks slot p = tt

promise_asks : (s : CleaningState) (slot epoch : ℕ) → AllByRecursion IsUsageAsk (job.transition s (input.Promise slot epoch)).outs
unfolding job.on_promise
promise_asks s slot epoch =
    by_test (λ (d : job.Done). AllByRecursion IsUsageAsk d.outs) (is_above s.promised slot epoch)
    (job.turned (record s { promised = promised_with s.promised slot epoch }) (job.forgetting slot s.phase)) (still s) (λ _. forgetting_asks slot s.phase)
    (λ _. tt)

taken_log : (e : Emptying) (o : Option Job) (slot epoch : ℕ)
    → (steps says (takes_in e o (input.Promise slot epoch)).state (takes_in e o (input.Promise slot epoch)).outs).state.log ≡ e.log
taken_log e None slot epoch = refl
taken_log e (Some j) slot epoch =
    let d = job.transition j.cleaning (input.Promise slot epoch) in
    said_log (record e { job = Some (record j { cleaning = d.state }) }) d.outs (promise_asks j.cleaning slot epoch)

promise_log : (e : Emptying) (slot epoch : ℕ) → (emptying_clean e (input.Promise slot epoch)).state.log ≡ e.log
unfolding emptying_clean emptying_take
promise_log e slot epoch = taken_log e e.job slot epoch

promises_log : (e : Emptying) (slot epoch manager : ℕ) → (emptying_promise e slot epoch manager).log ≡ e.log
unfolding emptying_promise
promises_log e slot epoch manager =
    by_test (λ (r : Emptying). r.log ≡ e.log) (nat_lt (epoch_of e.promised slot) epoch) (record e { feed = new_epoch e.feed slot }) e (λ _. refl) (λ _. refl)

hears_log : (e : Emptying) (news : SlotNews) → (hear_slot e news).state.log ≡ e.log
unfolding hear_slot
hears_log e news =
    by_test (λ (d : Done). d.state.log ≡ e.log) (nat_lt (epoch_of e.promised news.slot) news.epoch)
    (emptying_clean (emptying_promise e news.slot news.epoch news.manager) (input.Promise news.slot news.epoch)) (still e)
    (λ _. promise_log (emptying_promise e news.slot news.epoch news.manager) news.slot news.epoch ∙ promises_log e news.slot news.epoch news.manager) (λ _. refl)

all_hear_log : (e : Emptying) (slots : List SlotNews) → (steps hear_slot e slots).state.log ≡ e.log
all_hear_log e [] = refl
all_hear_log e (news ∷ slots) = all_hear_log (hear_slot e news).state slots ∙ hears_log e news

mapped_log : (e : Emptying) (o : Option Job) (groups : GroupMapState)
    → (steps says (takes_in e o (input.Maps groups)).state (takes_in e o (input.Maps groups)).outs).state.log ≡ e.log
mapped_log e None groups = refl
mapped_log e (Some j) groups = refl

regrouped_log : (e : Emptying) (newer : Bool) (groups : GroupMapState) → (regroup_job e newer groups).state.log ≡ e.log
unfolding emptying_clean emptying_take
regrouped_log e true groups = mapped_log e e.job groups
regrouped_log e false groups = refl

module _ (New : Filed → Segment → Type 0) (part : ℕ) (texts : Texts) (since : ℕ) (answered : List Packet) (small : part < 8) where
  abbrev At : Net → Emptying → Type 0
  At n e = Stands New part texts since answered n e.log e.feed e.promised e.job

  abbrev Goes : Questions → Net → Done → Type 0
  Goes asked n d = frames.Goes New part texts since answered asked n d

  abbrev Goes_to : (Net → Emptying → Type 0) → Questions → Net → Done → Type 0
  Goes_to P asked n d = frames.Goes_to New part texts since answered P asked n d

  -- what holds stays so while the small world goes on
  holding : (P : Net → Emptying → Type 0) (X : Net → Type 0) → ((u v : Net) → Grows u v → X u → X v) → (asked : Questions) (n : Net) (d : Done) → X n
      → Goes_to P asked n d
      → Goes_to (λ v s. P v s × X v) asked n d
  holding P X later asked n d x goes = (
    λ owed. (let w = goes.0 owed in record {
      next = w.next;
      runs = w.runs;
      grows = w.grows;
      filed = w.filed;
      questions = w.questions;
      kept = w.kept;
      stands = (w.stands, later n w.next w.grows x);
      says = w.says;
    }),
    goes.1,
  )

  weaker : (P Q : Net → Emptying → Type 0) → ((v : Net) (s : Emptying) → P v s → Q v s) → (asked : Questions) (n : Net) (d : Done) → Goes_to P asked n d
      → Goes_to Q asked n d
  weaker P Q to asked n d goes = promises.weaker New part texts since answered small to asked n d goes

  -- ---- slots

  -- it stands so, and none of these news is above what is promised
  abbrev Heard : List SlotNews → Net → Emptying → Type 0
  Heard slots v s = At v s × NoHigher part v.promised slots

  no_higher_later : (slots : List SlotNews) (u v : Net) → Grows u v → NoHigher part u.promised slots → NoHigher part v.promised slots
  no_higher_later [] u v g all = tt
  no_higher_later (news ∷ slots) u v g all = (λ same. let a = all.0 same in let b = g.promised in omega arith, no_higher_later slots u v g all.1)

  later_is : (a b : ℕ) → nat_lt a b ≡ true → a ≤ b
  later_is a b fact = grind (arith, nat_tests)

  hears_so : (asked : Questions) (n : Net) (e : Emptying) (news : SlotNews) → At n e
      → Goes_to (UpTo New part texts since answered small news.slot news.epoch) asked n (hear_slot e news)
  unfolding hear_slot
  hears_so asked n e news h =
      by_test (Goes_to (UpTo New part texts since answered small news.slot news.epoch) asked n) (nat_lt (epoch_of e.promised news.slot) news.epoch)
      (emptying_clean (emptying_promise e news.slot news.epoch news.manager) (input.Promise news.slot news.epoch)) (still e)
      (λ fact. promised_so New part texts since answered small asked n news.slot news.epoch news.manager e h
      (λ same. subst (λ k. epoch_of e.promised k ≤ news.epoch) same (later_is (epoch_of e.promised news.slot) news.epoch fact)))
      (λ fact. frames.went_quiet New part texts since answered asked n (UpTo New part texts since answered small news.slot news.epoch) e [] (
        h,
        λ same. let a = subst (λ k. news.epoch ≤ epoch_of e.promised k) same
            (ltb-false (epoch_of e.promised news.slot) news.epoch fact) in let b = h.seen.promised in omega arith,
      ) tt)

  all_hear : (asked : Questions) (n : Net) (e : Emptying) (slots : List SlotNews) → At n e → Goes_to (Heard slots) asked n (steps hear_slot e slots)
  all_hear asked n e [] h = frames.went_quiet New part texts since answered asked n (Heard []) e [] (h, tt) tt
  all_hear asked n e (news ∷ slots) h =
      frames.went_through New part texts since answered (UpTo New part texts since answered small news.slot news.epoch) (Heard (news ∷ slots)) asked n
      (hear_slot e news)
      (steps hear_slot (hear_slot e news).state slots) (hears_so asked n e news h)
      (λ w. weaker (λ v s. Heard slots v s × (news.slot ≡ part → news.epoch ≤ v.promised)) (Heard (news ∷ slots))
      (λ v s x. (x.0.0, (x.1, x.0.1))) w.questions w.next
      (steps hear_slot (hear_slot e news).state slots)
      (holding (Heard slots) (λ v. news.slot ≡ part → news.epoch ≤ v.promised)
      (λ u v g x same. let a = x same in let b = g.promised in omega arith) w.questions w.next
      (steps hear_slot (hear_slot e news).state slots) w.stands.1 (all_hear w.questions w.next (hear_slot e news).state slots w.stands.0)))

  -- ---- news

  regroups_so : (asked : Questions) (n : Net) (e : Emptying) (newer : Bool) (groups : GroupMapState) → At n e → Goes asked n (regroup_job e newer groups)
  regroups_so asked n e true groups h =
      jobs.emptying_clean_so New part texts since answered asked n e (input.Maps groups) h
      (jobs.may_other New part texts since answered n e (input.Maps groups) h tt tt)
  regroups_so asked n e false groups h = frames.quiet New part texts since answered asked n e [] h tt

  log_regroups_so : (asked : Questions) (n : Net) (e : Emptying) (newer : Bool) (groups : GroupMapState) → At n e → FlightKnown part texts answered e.log
      → Goes asked n (regroup_log e newer groups)
  log_regroups_so asked n e true groups h text = emptying_write_so New part texts since answered asked n e (log_in.Maps groups) h text
  log_regroups_so asked n e false groups h text = frames.quiet New part texts since answered asked n e [] h tt

  takes_so : (asked : Questions) (n : Net) (e : Emptying) (news : News) → At n e → FlightKnown part texts answered e.log
      → Goes_to (Heard news.slots) asked n (take_news e news)
  unfolding take_news hear_slots
  takes_so asked n e news h text =
      let newer = is_older e.maps news in
      let r = record e { maps = maps_take e.maps news } in
      let a = regroup_job r newer news.groups in
      let b = steps hear_slot a.state news.slots in
      let same = all_hear_log a.state news.slots ∙ regrouped_log r newer news.groups in
      frames.went_through New part texts since answered At (Heard news.slots) asked n a (saying b.outs (regroup_log b.state newer news.groups))
      (regroups_so asked n r newer news.groups h)
      (λ w. frames.went_through New part texts since answered (Heard news.slots) (Heard news.slots) w.questions w.next b
      (regroup_log b.state newer news.groups)
      (all_hear w.questions w.next a.state news.slots w.stands)
      (λ x. holding At (λ v. NoHigher part v.promised news.slots) (no_higher_later news.slots) x.questions x.next
      (regroup_log b.state newer news.groups) x.stands.1
      (log_regroups_so x.questions x.next b.state newer news.groups x.stands.0 (subst (FlightKnown part texts answered) (sym same) text))))

  pub news_so : (asked : Questions) (n : Net) (e : Emptying) (news : News) → At n e → FlightKnown part texts answered e.log → Goes asked n (on_news e news)
  news_so asked n e news h text =
      by_test (Goes asked n) (fits e.maps news) (take_news e news) (still e)
      (λ _. weaker (Heard news.slots) At (λ v s x. x.0) asked n (take_news e news) (takes_so asked n e news h text))
      (λ _. frames.quiet New part texts since answered asked n e [] h tt)

  -- ---- a Welcome

  greeted_job : (n : Net) (epoch : ℕ) (o : Option Job) → JobAgrees part n epoch o → JobAgrees part n epoch (note_greeted o)
  greeted_job n epoch None k = k
  greeted_job n epoch (Some job) k = k

  welcomed_so : (asked : Questions) (n : Net) (e : Emptying) (slots : List SlotNews) (groups : Option GroupMapState) → At n e → NoHigher part n.promised slots
      → Goes asked n (welcome_over e slots groups)
  welcomed_so asked n e slots None h low = frames.quiet New part texts since answered asked n e [] h tt
  welcomed_so asked n e slots (Some groups) h low =
      jobs.emptying_clean_so New part texts since answered asked n e (input.Welcome slots groups) h
      (jobs.may_welcome New part texts since answered n e slots groups h (subst (λ m. NoHigher part m slots) h.seen.promised low))

  emptying_welcome_so : (asked : Questions) (n : Net) (e : Emptying) (m : Welcome) → At n e → NoHigher part n.promised m.news.slots → Goes asked n (emptying_welcome e m)
  unfolding emptying_welcome
  emptying_welcome_so asked n e m h low =
      by_test (Goes asked n) (is_out (hello_of e.job) m.ask) (welcome_over (record e { job = note_greeted e.job }) m.news.slots e.maps.groups) (still e)
      (λ _. welcomed_so asked n (record e { job = note_greeted e.job }) m.news.slots e.maps.groups
      (rejobbed New part texts since answered n e.log e.feed e.promised e.job (note_greeted e.job) (greeted_job n (epoch_of e.promised part) e.job) h) low)
      (λ _. frames.quiet New part texts since answered asked n e [] h tt)

  pub welcome_so : (asked : Questions) (n : Net) (e : Emptying) (m : Welcome) → At n e → FlightKnown part texts answered e.log → Goes asked n (on_welcome e m)
  unfolding on_welcome
  welcome_so asked n e m h text =
      let d = take_news e m.news in
      by_test (Goes asked n) ((m.inc == e.lasting.inc) && fits e.maps m.news) (saying d.outs (emptying_welcome d.state m)) (still e)
      (λ _. frames.went_through New part texts since answered (Heard m.news.slots) At asked n d (emptying_welcome d.state m) (takes_so asked n e m.news h text)
      (λ w. emptying_welcome_so w.questions w.next d.state m w.stands.0 w.stands.1))
      (λ _. frames.quiet New part texts since answered asked n e [] h tt)
