-- What each packet that is for its job, and a Poll, make of a cleaner that serves.
use Rattle.headline.specs.Filed.{Filed, Texts}
use Rattle.std.proofs.Common.{◌≡◌, ◌≤◌, ◌<◌, ◌==◌, ℕ, Bool, true, false, List, [], Option, Some, None, nat_lt, refl, subst, arith}
use Rattle.std.proofs.lemmas.Bool.{eqb-true, ltb-false}
use Rattle.std.proofs.lemmas.Bool.Decides.{nat_tests}
use Rattle.cleaner_serving.specs.declared.emptying.Emptying.{Emptying}
use Rattle.cleaner_serving.specs.EmptyingEvents.{on_ack, emptying_report, on_polled, on_poll}
use Rattle.cleaner_serving.specs.Jobs.{Done, with_questions, emptying_clean, on_listed, on_usage, on_live, on_dead, on_deleted, end_reading, told_in, emptying_hear, confirmed_in, confirmed, after_confirmed, emptying_read_again, after_told, on_told}
use Rattle.cleaner_job.specs.declared.hand.Hand.{Hand}
use Rattle.cleaner_job.specs.declared.job.Job.{Job}
use Rattle.cleaner_job.specs.Hands.{fetches}
use Rattle.cleaner_job.specs.Jobs.{hand_of, lists_of, usages_of, check_of, is_out, note_read, hand_hears_in, job_hear, hand_confirmed_in, job_confirmed}
use Rattle.delta_feed.specs.Transition.{acknowledged}
use Rattle.group_map.specs.GroupMapState.{GroupMapState}
use Rattle.index_tie.specs.Cleaning.{ReadFor}
use Rattle.index_tie.specs.Net.{Net, Packet, IsOther}
use Rattle.log_owner.specs.Promised.{epoch_of}
use Rattle.node_base.specs.Asking.{next_ask, draw}
use Rattle.node_slots.specs.node_index_tie.Sight.{Questions}
use Rattle.node_slots.proofs.node_index_tie.Owners.{feeds_stay}
use Rattle.segment_format.specs.declared.segment.Segment.{Segment}
use Rattle.segment_reading.specs.declared.reading.Next.{Next}
use Rattle.segment_reading.specs.declared.reading.Next.TheVariants as next
use Rattle.stripe_cleaner.specs.declared.input.In as inputs
use Rattle.stripe_cleaner.specs.declared.input.In.TheVariants as input
use Rattle.stripe_code.specs.declared.round.Told.{Told}
use Rattle.wire_msg.specs.declared.cleaning.Dead.{Dead}
use Rattle.wire_msg.specs.declared.cleaning.Live.{Live}
use Rattle.wire_msg.specs.declared.cleaning.Usage.{Usage}
use Rattle.wire_msg.specs.declared.deltas.DeltaAck.{DeltaAck}
use Rattle.wire_msg.specs.declared.deltas.Poll.{Poll}
use Rattle.wire_msg.specs.declared.storage.Deleted.{Deleted}
use Rattle.wire_msg.specs.declared.storage.Listed.{Listed}
use Rattle.xfs_base.proofs.Booleans.{by_test}
use Rattle.xfs_base.specs.Blocks.{slot_of}
use Rattle.xfs_base.specs.declared.node.NodeId.{NodeId}
use Rattle.xfs_base.specs.declared.node.NodeId.TheVariants as node
use Rattle.xfs_base.specs.Steps.{still}
use Rattle.node_slots.specs.owner_index_tie.CleanerEvents.{JobAgrees, PollGets, DeadGets, DeadGiven, ReadGets}
use Rattle.node_slots.proofs.owner_index_tie.CleanerFrames as frames
use Rattle.node_slots.proofs.owner_index_tie.CleanerFrames.{Stands}
use Rattle.node_slots.proofs.owner_index_tie.CleanerJobs as jobs
use Rattle.node_slots.proofs.owner_index_tie.CleanerPromises.{polled_so}
use Rattle.node_slots.proofs.owner_index_tie.CleanerSays.{rejobbed, fetches_plain}

module _ (New : Filed → Segment → Type 0) (part : ℕ) (texts : Texts) (since : ℕ) (answered : List Packet) (small : part < 8) (asked : Questions) (n : Net) where
  abbrev At : Emptying → Type 0
  At e = Stands New part texts since answered n e.log e.feed e.promised e.job

  abbrev Goes : Done → Type 0
  Goes d = frames.Goes New part texts since answered asked n d

  still_so : (e : Emptying) → At e → Goes (still e)
  still_so e h = frames.quiet New part texts since answered asked n e [] h tt

  -- an input of which the small world asks no more
  calm : (e : Emptying) (i : inputs.In) → jobs.IsNoPromise i → IsOther part i → At e → Goes (emptying_clean e i)
  calm e i quiet other h = jobs.emptying_clean_so New part texts since answered asked n e i h (jobs.may_other New part texts since answered n e i h quiet other)

  -- ---- answers to its questions

  pub ack_so : (e : Emptying) (a : DeltaAck) → At e → Goes (on_ack e a)
  unfolding on_ack
  ack_so e a h =
      by_test Goes (epoch_of e.promised a.slot == a.epoch) (still (record e { feed = acknowledged e.feed a.slot a.applied })) (still e)
      (λ _. still_so (record e { feed = acknowledged e.feed a.slot a.applied }) (record {
        late = h.late;
        heard = h.heard;
        seen = record {
          owner = record {
            number_is = refl;
            log = h.seen.owner.log;
            end = h.seen.owner.end;
            feed = (feeds_stay part n 9 e.feed h.seen.owner.feed).acks a.slot a.applied;
          };
          eight = h.seen.eight;
          promised = h.seen.promised;
          job = h.seen.job;
        };
      }))
      (λ _. still_so e h)

  pub listed_so : (e : Emptying) (server : Option ℕ) (m : Listed) → At e → Goes (on_listed e server m)
  unfolding on_listed
  listed_so e None m h = still_so e h
  listed_so e (Some server) m h =
      by_test Goes (is_out (lists_of e.job) m.ask) (emptying_clean e (input.Listed server m.held)) (still e) (λ _. calm e (input.Listed server m.held) tt tt h)
      (λ _. still_so e h)

  pub usage_so : (e : Emptying) (m : Usage) → At e → Goes (on_usage e m)
  unfolding on_usage
  usage_so e m h =
      by_test Goes (is_out (usages_of e.job) m.ask) (emptying_clean e (input.Usage m.slot m.epoch m.counts)) (still e)
      (λ _. calm e (input.Usage m.slot m.epoch m.counts) tt tt h) (λ _. still_so e h)

  pub live_so : (e : Emptying) (m : Live) → At e → Goes (on_live e m)
  unfolding on_live
  live_so e m h =
      by_test Goes (is_out (check_of (hand_of e.job) m.block) m.ask) (emptying_clean e (input.Live m.block m.epoch m.entry)) (still e)
      (λ _. calm e (input.Live m.block m.epoch m.entry) tt tt h) (λ _. still_so e h)

  pub deleted_so : (e : Emptying) (server : Option ℕ) (m : Deleted) → At e → Goes (on_deleted e server m)
  unfolding on_deleted
  deleted_so e None m h = still_so e h
  deleted_so e (Some server) m h = calm e (input.Deleted server m.name) tt tt h

  pub dead_so : (e : Emptying) (m : Dead) → At e → DeadGets part n e m → Goes (on_dead e m)
  unfolding on_dead
  dead_so e m h gets =
      by_test Goes (is_out (check_of (hand_of e.job) m.block) m.ask) (emptying_clean e (input.Dead m.block m.epoch)) (still e)
      (λ out. by out (slot_of m.block.ino.0 == part) refl) (λ _. still_so e h)
    where
      inside : (slot_of m.block.ino.0 == part) ≡ true → slot_of m.block.ino.0 ≡ part
      inside fact = eqb-true (slot_of m.block.ino.0) part fact

      outside : (slot_of m.block.ino.0 == part) ≡ false → slot_of m.block.ino.0 ≡ part → ⊥
      outside fact same = let s = same in grind (arith, nat_tests, s, fact)

      given : DeadGiven part n m → Goes (emptying_clean e (input.Dead m.block m.epoch))
      given k = jobs.emptying_clean_so New part texts since answered asked n e (input.Dead m.block m.epoch) h
          (jobs.may_dead New part texts since answered n e k.number m.block m.epoch k.name k.below h k.sent k.hand)

      by : is_out (check_of (hand_of e.job) m.block) m.ask ≡ true → (t : Bool) → (slot_of m.block.ino.0 == part) ≡ t
          → Goes (emptying_clean e (input.Dead m.block m.epoch))
      by out true fact = given (gets (inside fact) out)
      by out false fact = calm e (input.Dead m.block m.epoch) tt (outside fact) h

  -- ---- its reading

  reread : (epoch : ℕ) (o : Option Job) → JobAgrees part n epoch o → JobAgrees part n epoch (note_read o)
  reread epoch None k = k
  reread epoch (Some job) k = k

  ends_so : (e : Emptying) (read : Option Segment) → At e → ReadFor n.filed read n.job.phase → Goes (end_reading e read)
  unfolding end_reading
  ends_so e read h owed =
      let r = record e { job = note_read e.job } in
      let at = rejobbed New part texts since answered n e.log e.feed e.promised e.job (note_read e.job) (reread (epoch_of e.promised part) e.job) h in
      jobs.emptying_clean_so New part texts since answered asked n r (input.Read read) at (jobs.may_read New part texts since answered n r read at owed)

  confirmed_job : (epoch : ℕ) (job : Job) (o : Option Hand) (ask : ℕ) → JobAgrees part n epoch (Some job)
      → JobAgrees part n epoch (Some (hand_confirmed_in job o ask).state)
  confirmed_job epoch job None ask k = k
  confirmed_job epoch job (Some hand) ask k = k

  confirmed_at : (e : Emptying) (o : Option Job) (ask : ℕ) → e.job ≡ o → At e → At (confirmed_in e o ask).state
  unfolding job_confirmed
  confirmed_at e None ask same h = h
  confirmed_at e (Some job) ask same h =
      rejobbed New part texts since answered n e.log e.feed e.promised e.job (Some (hand_confirmed_in job job.hand ask).state)
      (λ k. confirmed_job (epoch_of e.promised part) job job.hand ask (subst (JobAgrees part n (epoch_of e.promised part)) same k)) h

  after_confirmed_so : (e : Emptying) (x : Next) → At e → Goes (after_confirmed e x)
  after_confirmed_so e next.Ask h = frames.quiet New part texts since answered asked n e (fetches (hand_of e.job)) h
      (fetches_plain New part texts since answered asked n (hand_of e.job))
  after_confirmed_so e next.Lost h = ends_so e None h tt
  after_confirmed_so e _ h = still_so e h

  emptying_read_again_so : (e : Emptying) → At e → Goes (emptying_read_again e)
  unfolding emptying_read_again confirmed
  emptying_read_again_so e h =
      let r = with_questions e (draw e.lasting.questions) in
      let c = confirmed_in r e.job (next_ask e.lasting.questions) in
      after_confirmed_so c.state c.next (confirmed_at r e.job (next_ask e.lasting.questions) refl h)

  heard_job : (epoch : ℕ) (job : Job) (o : Option Hand) (groups : GroupMapState) (ask server : ℕ) (t : Told) → JobAgrees part n epoch (Some job)
      → JobAgrees part n epoch (Some (hand_hears_in job o groups ask server t).state)
  heard_job epoch job None groups ask server t k = k
  heard_job epoch job (Some hand) groups ask server t k = k

  told_at : (e : Emptying) (o : Option Job) (groups : Option GroupMapState) (ask server : ℕ) (t : Told) → e.job ≡ o → At e
      → At (told_in e o groups ask server t).state
  unfolding job_hear
  told_at e None groups ask server t same h = h
  told_at e (Some job) None ask server t same h = h
  told_at e (Some job) (Some groups) ask server t same h =
      rejobbed New part texts since answered n e.log e.feed e.promised e.job (Some (hand_hears_in job job.hand groups ask server t).state)
      (λ k. heard_job (epoch_of e.promised part) job job.hand groups ask server t (subst (JobAgrees part n (epoch_of e.promised part)) same k)) h

  after_told_so : (e : Emptying) (x : Next) → At e → ((s : Segment) → x ≡ next.Read s → ReadFor n.filed (Some s) n.job.phase) → Goes (after_told e x)
  after_told_so e next.Wait h owed = still_so e h
  after_told_so e next.Ask h owed = still_so e h
  after_told_so e next.Again h owed = emptying_read_again_so e h
  after_told_so e (next.Read segment) h owed = ends_so e (Some segment) h (owed segment refl)
  after_told_so e next.Lost h owed = ends_so e None h tt

  pub told_so : (e : Emptying) (server : Option ℕ) (ask : ℕ) (t : Told) → At e → ReadGets part n e server ask t → Goes (on_told e server ask t)
  unfolding on_told emptying_hear
  told_so e None ask t h gets = still_so e h
  told_so e (Some server) ask t h gets =
      let d = told_in e e.job e.maps.groups ask server t in
      after_told_so d.state d.next (told_at e e.job e.maps.groups ask server t refl h) gets

  -- ---- a Poll

  polled_by : (e : Emptying) (manager : ℕ) (p : Poll) → At e → PollGets part n e p → Goes (on_polled e manager p)
  polled_by e manager p h gets =
      by_test Goes (nat_lt p.epoch (epoch_of e.promised p.slot)) (still e) (emptying_report e manager p) (λ _. still_so e h)
      (λ fact. polled_so New part texts since answered small asked n p.slot p.epoch manager e h (late fact) (λ same. gets same (late fact same)))
    where
      late : nat_lt p.epoch (epoch_of e.promised p.slot) ≡ false → p.slot ≡ part → epoch_of e.promised part ≤ p.epoch
      late fact same = subst (λ k. epoch_of e.promised k ≤ p.epoch) same (ltb-false p.epoch (epoch_of e.promised p.slot) fact)

  pub poll_so : (e : Emptying) (from : NodeId) (p : Poll) → At e → PollGets part n e p → Goes (on_poll e from p)
  unfolding on_poll
  poll_so e (node.Manager manager) p h gets = polled_by e manager p h gets
  poll_so e _ p h gets = still_so e h
