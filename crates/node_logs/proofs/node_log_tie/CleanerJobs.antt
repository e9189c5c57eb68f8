-- What a cleaner that serves does for its job and its log, in the small world of a client's log.
use Rattle.std.proofs.Common.{◌≡◌, ◌⊎◌, ⊎_elim, ℕ, Bool, true, false, List, [], ◌∷◌, Option, Some, None, refl, sym, ap, ◌∙◌, inl, inr, arith}
use Rattle.std.specs.Prelude.{IfSome, nat_lt}
use Rattle.std.specs.List.{AllByRecursion, flat_map}
use Rattle.std.proofs.lemmas.Bool.{eqb-true}
use Rattle.xfs_base.proofs.Booleans.{by_test, contrary}
use Rattle.xfs_base.specs.declared.block.BlockId.{BlockId}
use Rattle.xfs_base.specs.declared.entry.Entry.{Entry}
use Rattle.xfs_base.specs.declared.entry.Place.{Place}
use Rattle.xfs_base.specs.declared.node.NodeId.TheVariants.{Cleaner, Server}
use Rattle.xfs_base.specs.declared.segment.SegName.{SegName}
use Rattle.xfs_base.specs.declared.segment.SegRef.{SegRef}
use Rattle.xfs_base.specs.Steps.{steps}
use Rattle.xfs_base.specs.declared.segment.End.{End}
use Rattle.xfs_base.proofs.Alls.{all_append, all_each, all_map}
use Rattle.delta_feed.specs.declared.output.Out.{Out as FeedOut}
use Rattle.delta_feed.specs.declared.output.Out.TheVariants.{Range}
use Rattle.delta_feed.specs.FeedState.{FeedState}
use Rattle.delta_feed.specs.Transition.{feed_tick}
use Rattle.group_map.specs.GroupMapState.{GroupMapState}
use Rattle.client_log.specs.declared.input.In.{In as LogIn}
use Rattle.client_log.specs.declared.input.In.TheVariants as log_in
use Rattle.client_log.specs.declared.output.Out.{Out as LogOut}
use Rattle.client_log.specs.declared.output.Out.TheVariants as log_out
use Rattle.client_log.specs.Transition as log
use Rattle.log_owner.specs.Opening.{stored}
use Rattle.log_owner.specs.declared.promised.Managers.{Managers}
use Rattle.log_owner.specs.Promised.{epoch_of}
use Rattle.log_owner.specs.Sending.{fetch, name_of, push_all, range}
use Rattle.wire_msg.specs.declared.body.Body.TheVariants as body
use Rattle.node_base.specs.declared.effects.Effect.{Effect}
use Rattle.node_base.specs.declared.effects.Effect.TheVariants.{Does, Send}
use Rattle.version_model.specs.declared.act.Act.TheVariants.{Filed}
use Rattle.segment_reading.specs.Reading.{ReadingState, reading_unanswered}
use Rattle.stripe_cleaner.specs.declared.input.In.{In as Input}
use Rattle.stripe_cleaner.specs.declared.input.In.TheVariants as input
use Rattle.stripe_cleaner.specs.declared.output.Out.{Out}
use Rattle.stripe_cleaner.specs.declared.output.Out.TheVariants as out
use Rattle.stripe_cleaner.specs.Transition.{transition}
use Rattle.stripe_code.specs.declared.round.Told.{Told}
use Rattle.version_model.specs.declared.answer.Answer.TheVariants.{Count}
use Rattle.cleaner_serving.specs.declared.emptying.Emptying.{Emptying}
use Rattle.cleaner_serving.specs.EmptyingEvents.{fed, emptying_settle, write_one, emptying_write, emptying_renew, emptying_promise}
use Rattle.cleaner_serving.specs.Jobs.{Done, ask_maps, ask_list, ask_usage, checked_in, emptying_check, check_sent, ask_check, holds_in, emptying_hold, emptying_read, emptying_put, put_block, move_all, emptying_delete, emptying_finish, says, takes_in, emptying_take, emptying_clean, told_in, emptying_hear, confirmed_in, confirmed}
use Rattle.cleaner_job.specs.declared.hand.Hand.{Hand}
use Rattle.cleaner_job.specs.declared.job.Job.{Job}
use Rattle.cleaner_job.specs.Hands.{hand_fetch, fetches}
use Rattle.cleaner_job.specs.Jobs.{job_check, hand_checks_in, hand_of, is_whole, act_dropped, note_moved, hand_hears_in, job_hear, hand_confirmed_in, job_confirmed}
use Rattle.cleaner_job.specs.Starting.{cleaner_log}
use Rattle.log_protocol.specs.Tables.{In}
use Rattle.log_tie.specs.Setting.{Setting}
use Rattle.log_tie.specs.Shelves.{is_of_log}
use Rattle.log_law.specs.Net.{Net}
use Rattle.log_law.specs.Net.Packet.{DeleteSent}
use Rattle.log_law.specs.Events.Happens.{Drops}
use Rattle.log_law.specs.Events.Runs.{Begun, On}
use Rattle.node_logs.specs.node_log_tie.Sight.{Asker}
use Rattle.node_logs.specs.node_log_tie.CleanerEvents.{DropOfLog, JobSeen, EmptyingSeen}
use Rattle.node_logs.proofs.node_log_tie.Cleaning.{OutDrops, CleaningSent, CleanOn, cleaning_takes}
use Rattle.node_logs.proofs.node_log_tie.CleanerOpening.{hello_does, stored_so}
use Rattle.node_logs.proofs.node_log_tie.Emptied.{out_later, emptying_later, CleanerDoes, Dropping, no_drop, Emptied, at_once, stays, and_then, all_steps}
use Rattle.node_logs.proofs.node_log_tie.Going.{in_after, run_later}
use Rattle.node_logs.proofs.node_log_tie.Lists.{answers_send}
use Rattle.node_logs.proofs.node_log_tie.OwnLogs.{SendsOwn, OwnDone, own_log}

module _ (g : Setting) (owner : Asker) (other : g.log ≡ cleaner_log → ⊥) (away : owner.node ≡ Cleaner → ⊥) where
  abbrev Goes : Net → Done → Type 0
  Goes n d = Emptied g owner n d

  abbrev Does_all : Net → List Effect → Type 0
  Does_all n outs = AllByRecursion (CleanerDoes g owner n) outs

  -- ---- what the job asks

  maps_asked : (n : Net) (e : Emptying) (job : Option Job) → EmptyingSeen g n e → IfSome job (JobSeen g n) → Goes n (ask_maps e job)
  maps_asked n e None seen its = stays g owner n e seen
  maps_asked n e (Some job) seen its =
      at_once g owner n _ _ (record { log = seen.log; job = its }) (hello_does g owner other away n e.lasting.inc _, tt)

  list_asked : (n : Net) (e : Emptying) (job : Option Job) (server : ℕ) → EmptyingSeen g n e → IfSome job (JobSeen g n) → Goes n (ask_list e job server)
  list_asked n e None server seen its = stays g owner n e seen
  list_asked n e (Some job) server seen its = at_once g owner n _ _ (record { log = seen.log; job = its }) (tt, tt)

  usage_asked : (n : Net) (e : Emptying) (job : Option Job) (slot : ℕ) → EmptyingSeen g n e → IfSome job (JobSeen g n) → Goes n (ask_usage e job slot)
  usage_asked n e None slot seen its = stays g owner n e seen
  usage_asked n e (Some job) slot seen its = at_once g owner n _ _ (record { log = seen.log; job = its }) (tt, tt)

  -- a hand is of no matter
  checks_kept : (n : Net) (job : Job) (q : _) (hand : Option Hand) (block : BlockId) → JobSeen g n job → JobSeen g n (hand_checks_in job q hand block).job
  checks_kept n job q None block its = its
  checks_kept n job q (Some hand) block its = its

  checked_kept : (n : Net) (e : Emptying) (job : Option Job) (block : BlockId) → EmptyingSeen g n e → IfSome job (JobSeen g n)
      → EmptyingSeen g n (checked_in e job block).state
  unfolding job_check
  checked_kept n e None block seen its = seen
  checked_kept n e (Some job) block seen its = record { log = seen.log; job = checks_kept n job e.lasting.questions job.hand block its }

  check_said : (n : Net) (e : Emptying) (block : BlockId) (place : Place) (ask : Option ℕ) → EmptyingSeen g n e → Goes n (check_sent e block place ask)
  check_said n e block place None seen = stays g owner n e seen
  check_said n e block place (Some ask) seen = at_once g owner n e _ seen (tt, tt)

  check_asked : (n : Net) (e : Emptying) (block : BlockId) (place : Place) → EmptyingSeen g n e → Goes n (ask_check e block place)
  unfolding ask_check emptying_check
  check_asked n e block place seen =
      check_said n (emptying_check e block).state block place (emptying_check e block).ask (checked_kept n e e.job block seen seen.job)

  -- ---- a segment is read

  asked_for : (n : Net) (name : SegName) (reading : Option ReadingState) → Does_all n (hand_fetch name reading)
  asked_for n name None = tt
  asked_for n name (Some r) = all_map (CleanerDoes g owner n) (fetch name r.ask) (λ server. tt) (reading_unanswered r)

  pub fetched : (n : Net) (hand : Option Hand) → Does_all n (fetches hand)
  fetched n None = tt
  fetched n (Some hand) = asked_for n hand.seg.name hand.reading

  held : (n : Net) (e : Emptying) (job : Option Job) (seg : SegRef) → EmptyingSeen g n e → IfSome job (JobSeen g n) → EmptyingSeen g n (holds_in e job seg)
  held n e None seg seen its = seen
  held n e (Some job) seg seen its = record { log = seen.log; job = its }

  read_begun : (n : Net) (e : Emptying) (seg : SegRef) → EmptyingSeen g n e → Goes n (emptying_read e seg)
  unfolding emptying_read emptying_hold
  read_begun n e seg seen = at_once g owner n (emptying_hold e seg) _ (held n e e.job seg seen seen.job) (fetched n (hand_of (emptying_hold e seg).job))

  -- ---- what the node does for it

  all_stored : (n : Net) (outs : List LogOut) → AllByRecursion (SendsOwn cleaner_log) outs → Does_all n (flat_map stored outs)
  all_stored n [] all = tt
  all_stored n (o ∷ outs) all = all_append (CleanerDoes g owner n) (stored o) (flat_map stored outs) (stored_so g owner other away n o all.0) (all_stored n outs all.1)

  put_so : (n : Net) (e : Emptying) (i : LogIn) → EmptyingSeen g n e → Goes n (emptying_put e i)
  unfolding emptying_put
  put_so n e i seen =
      let d : OwnDone cleaner_log (log.transition e.log i) = own_log cleaner_log e.log i seen.log in
      at_once g owner n (record e { log = (log.transition e.log i).state }) _ (record { log = d.state; job = seen.job })
      (all_stored n (log.transition e.log i).outs d.outs)

  block_put : (n : Net) (e : Emptying) (one : BlockId × Entry × Option (List ℕ)) → EmptyingSeen g n e → Unit {0} → Goes n (put_block e one)
  unfolding put_block
  block_put n e one seen no_more = put_so n e (log_in.Put one.0 one.1 one.2) seen

  blocks_moved : (n : Net) (e : Emptying) (blocks : List (BlockId × Entry × Option (List ℕ))) → EmptyingSeen g n e → Goes n (move_all e blocks)
  unfolding move_all
  blocks_moved n e blocks seen =
      let d : Done = steps put_block e blocks in
      let w : Goes n d = all_steps g owner put_block (λ m x. Unit {0}) (λ m k later x h. tt) block_put n e blocks seen (all_each (λ (x : BlockId × Entry × Option (List ℕ)). Unit {0}) (λ x. tt) blocks) in
      and_then g owner n d (emptying_put d.state log_in.Seal) w (put_so w.next d.state log_in.Seal w.seen)

  -- ---- a segment is dropped

  -- the small world drops a segment that may be dropped, where it is of the log
  record LetGo (n : Net) (name : SegName) : Type 0 where
    next : Net
    drop : Dropping g owner n next
    said : is_of_log g name ≡ true → In (DeleteSent name) next.sent
    acted : is_of_log g name ≡ true → In name next.dropped
    only : (x : SegName) → In x next.dropped → In x n.dropped ⊎ (x ≡ name)

  let_go : (n : Net) (name : SegName) → DropOfLog g n name → LetGo n name
  let_go n name may = by (is_of_log g name) refl
    where
      by : (t : Bool) → is_of_log g name ≡ t → LetGo n name
      by true own =
          let m = may own in
          record {
            next = record n { sent = DeleteSent m.meta.name ∷ n.sent; dropped = m.meta.name ∷ n.dropped };
            drop = record {
              runs = On Begun (Drops m.lists m.meta m.sent m.among (let e = ap (λ (s : SegName). s.seq) m.named in let b = m.below in omega arith));
              dropped = λ x fact. inr fact;
              rest = refl;
              none = λ high. (let same : name.log.0 ≡ g.log.0 = eqb-true name.log.0 g.log.0 own in let some = m.cleaned in absurd (omega arith));
            };
            said = λ its. inl (ap DeleteSent (sym m.named));
            acted = λ its. inl (sym m.named);
            only = λ x fact. ⊎_elim (λ same. inr (same ∙ m.named)) (λ was. inl was) fact;
          }
      by false foreign =
          record {
            next = n;
            drop = no_drop g owner n;
            said = λ its. contrary (sym foreign ∙ its);
            acted = λ its. contrary (sym foreign ∙ its);
            only = λ x fact. inl fact;
          }

  drop_acted : (n : Net) (is_first : Bool) (name : SegName) → (is_of_log g name ≡ true → In name n.dropped) → Does_all n (act_dropped is_first name)
  drop_acted n true name acted = (acted, tt)
  drop_acted n false name acted = tt

  segment_deleted : (n : Net) (e : Emptying) (job : Option Job) (server : ℕ) (name : SegName) → EmptyingSeen g n e → IfSome job (JobSeen g n)
      → DropOfLog g n name → Goes n (emptying_delete e job server name)
  segment_deleted n e None server name seen its may = stays g owner n e seen
  segment_deleted n e (Some job) server name seen its may =
      let l : LetGo n name = let_go n name may in
      record {
        next = l.next;
        drop = l.drop;
        seen = emptying_later g n l.next (run_later g n l.next l.drop.runs) (record e { job = Some (record job { hand = _ }) })
            (record { log = seen.log; job = its });
        does = all_append (CleanerDoes g owner l.next) (act_dropped (is_whole job.hand) name) _ (drop_acted l.next (is_whole job.hand) name l.acted) (l.said, tt);
        only = λ x fact. ⊎_elim (λ was. inl was)
            (λ same. inr (
              Server server,
              in_after (act_dropped (is_whole job.hand) name) _ _ (inl (ap (λ (z : SegName). Send (Server server) (body.Delete (record { name = z }))) same)),
            )) (l.only x fact);
      }

  job_over : (n : Net) (e : Emptying) (count : ℕ) → EmptyingSeen g n e → Goes n (emptying_finish e count)
  job_over n e count seen =
      at_once g owner n _ _ (record { log = seen.log; job = tt })
      (answers_send (CleanerDoes g owner n) (λ item answer. tt) e.lasting.items.unanswered (Count count))

  job_says : (n : Net) (e : Emptying) (o : Out) → EmptyingSeen g n e → OutDrops g n o → Goes n (says e o)
  unfolding says
  job_says n e out.Hello seen may = maps_asked n e e.job seen seen.job
  job_says n e (out.List server) seen may = list_asked n e e.job server seen seen.job
  job_says n e (out.UsageAsk slot) seen may = usage_asked n e e.job slot seen seen.job
  job_says n e (out.Fetch seg) seen may = read_begun n e seg seen
  job_says n e (out.Check block place) seen may = check_asked n e block place seen
  job_says n e (out.Move blocks) seen may = blocks_moved n e blocks seen
  job_says n e (out.Delete server name) seen may = segment_deleted n e e.job server name seen seen.job may
  job_says n e (out.Finished count) seen may = job_over n e count seen

  -- ---- the job takes an input

  record Took (n : Net) (e : Emptying) (outs : List Out) : Type 0 where
    seen : EmptyingSeen g n e
    said : AllByRecursion (OutDrops g n) outs

  took : (n : Net) (e : Emptying) (job : Option Job) (given : Input) → EmptyingSeen g n e → IfSome job (JobSeen g n) → CleaningSent g n given
      → Took n (takes_in e job given).state (takes_in e job given).outs
  took n e None given seen its sent = record { seen = seen; said = tt }
  took n e (Some job) given seen its sent =
      let on : CleanOn g n (transition job.cleaning given) = cleaning_takes g n job.cleaning given its sent in
      record { seen = record { log = seen.log; job = on.phase }; said = on.outs }

  pub job_goes_on : (n : Net) (e : Emptying) (given : Input) → EmptyingSeen g n e → CleaningSent g n given → Goes n (emptying_clean e given)
  unfolding emptying_clean emptying_take
  job_goes_on n e given seen sent =
      let t : Took n (takes_in e e.job given).state (takes_in e e.job given).outs = took n e e.job given seen seen.job sent in
      all_steps g owner says (OutDrops g) (λ m k later o h. out_later g m k later o h) job_says n (takes_in e e.job given).state
      (takes_in e e.job given).outs t.seen t.said

  -- ---- its log takes an input

  range_said : (n : Net) (managers : Managers) (o : FeedOut) → CleanerDoes g owner n (range managers o)
  range_said n managers (Range slot first upto rows) = tt

  pub deltas_pushed : (n : Net) (managers : Managers) (f : FeedState) → Does_all n (push_all managers f)
  deltas_pushed n managers f = all_map (CleanerDoes g owner n) (range managers) (range_said n managers) (feed_tick f)

  -- a job of the same phase is seen as it was
  pub job_kept : (n : Net) (f : Option Job → Option Job) → IfSome (f None) (JobSeen g n) → ((job : Job) → JobSeen g n job → IfSome (f (Some job)) (JobSeen g n))
      → (job : Option Job) → IfSome job (JobSeen g n) → IfSome (f job) (JobSeen g n)
  job_kept n f none some None its = none
  job_kept n f none some (Some job) its = some job its

  segment_settled : (n : Net) (e : Emptying) (end : End) (rows : List (BlockId × Entry)) → EmptyingSeen g n e → Goes n (emptying_settle e end rows)
  unfolding emptying_settle
  segment_settled n e end rows seen =
      let f : Emptying = fed e end rows in
      let settled : EmptyingSeen g n f = record { log = seen.log; job = job_kept n note_moved tt (λ job its. its) e.job seen.job } in
      let said : Done = record { state = f; outs = Does (Filed (name_of cleaner_log end)) ∷ push_all f.promised.managers f.feed } in
      let w : Goes n said = at_once g owner n f said.outs settled (tt, deltas_pushed n f.promised.managers f.feed) in
      and_then g owner n said (emptying_clean f input.Moved) w (job_goes_on w.next f input.Moved w.seen tt)

  one_written : (n : Net) (e : Emptying) (o : LogOut) → EmptyingSeen g n e → SendsOwn cleaner_log o → Goes n (write_one e o)
  unfolding write_one
  one_written n e (log_out.Send f member) seen its = at_once g owner n e _ seen (stored_so g owner other away n (log_out.Send f member) its)
  one_written n e (log_out.Settled end rows) seen its = segment_settled n e end rows seen

  pub log_takes : (n : Net) (e : Emptying) (i : LogIn) → EmptyingSeen g n e → Goes n (emptying_write e i)
  unfolding emptying_write
  log_takes n e i seen =
      let d : OwnDone cleaner_log (log.transition e.log i) = own_log cleaner_log e.log i seen.log in
      all_steps g owner write_one (λ m o. SendsOwn cleaner_log o) (λ m k later o h. h) one_written n (record e { log = (log.transition e.log i).state })
      (log.transition e.log i).outs
      (record { log = d.state; job = seen.job }) d.outs

  -- ---- what changes nothing of what is seen

  pub promised : (n : Net) (e : Emptying) (slot epoch manager : ℕ) → EmptyingSeen g n e → EmptyingSeen g n (emptying_promise e slot epoch manager)
  unfolding emptying_promise
  promised n e slot epoch manager seen =
      let r : EmptyingSeen g n (emptying_renew e slot epoch) =
      by_test (EmptyingSeen g n) (nat_lt (epoch_of e.promised slot) epoch) _ e (λ t. record { log = seen.log; job = seen.job }) (λ t. seen) in
      record { log = r.log; job = r.job }

  confirms_hand : (n : Net) (job : Job) (hand : Option Hand) (ask : ℕ) → JobSeen g n job → JobSeen g n (hand_confirmed_in job hand ask).state
  confirms_hand n job None ask its = its
  confirms_hand n job (Some hand) ask its = its

  confirms : (n : Net) (e : Emptying) (job : Option Job) (ask : ℕ) → EmptyingSeen g n e → IfSome job (JobSeen g n)
      → EmptyingSeen g n (confirmed_in e job ask).state
  unfolding job_confirmed
  confirms n e None ask seen its = seen
  confirms n e (Some job) ask seen its = record { log = seen.log; job = confirms_hand n job job.hand ask its }

  pub reads_on : (n : Net) (e : Emptying) (ask : ℕ) → EmptyingSeen g n e → EmptyingSeen g n (confirmed e ask).state
  unfolding confirmed
  reads_on n e ask seen = confirms n e e.job ask seen seen.job

  hears_hand : (n : Net) (job : Job) (hand : Option Hand) (groups : GroupMapState) (ask server : ℕ) (t : Told) → JobSeen g n job
      → JobSeen g n (hand_hears_in job hand groups ask server t).state
  hears_hand n job None groups ask server t its = its
  hears_hand n job (Some hand) groups ask server t its = its

  hears_told : (n : Net) (e : Emptying) (job : Option Job) (groups : Option GroupMapState) (ask server : ℕ) (t : Told) → EmptyingSeen g n e
      → IfSome job (JobSeen g n)
      → EmptyingSeen g n (told_in e job groups ask server t).state
  unfolding job_hear
  hears_told n e None groups ask server t seen its = seen
  hears_told n e (Some job) None ask server t seen its = seen
  hears_told n e (Some job) (Some groups) ask server t seen its = record { log = seen.log; job = hears_hand n job job.hand groups ask server t its }

  pub hears : (n : Net) (e : Emptying) (ask server : ℕ) (t : Told) → EmptyingSeen g n e → EmptyingSeen g n (emptying_hear e ask server t).state
  unfolding emptying_hear
  hears n e ask server t seen = hears_told n e e.job e.maps.groups ask server t seen seen.job
