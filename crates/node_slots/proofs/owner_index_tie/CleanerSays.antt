-- What a job says has the cleaner do: it asks, puts what is live into its log, and has dropped segments deleted; the job that is over is gone.
use Rattle.headline.specs.Filed.{Filed, Texts}
use Rattle.segment_format.specs.declared.segment.Segment.{Segment}
use Rattle.std.proofs.Common.{◌≡◌, ◌==◌, ℕ, zero, suc, Bool, true, false, List, [], ◌∷◌, Option, Some, None, inl, inr, refl, sym, ap, subst, ◌∙◌, arith}
use Rattle.std.specs.List.{AllByRecursion, flat_map}
use Rattle.std.proofs.lemmas.Bool.{eqb-true}
use Rattle.std.proofs.lemmas.Bool.Decides.{nat_tests}
use Rattle.cleaner_serving.specs.declared.emptying.Emptying.{Emptying}
use Rattle.cleaner_serving.specs.Jobs.{Done, ask_maps, ask_list, ask_usage, checked_in, emptying_check, check_sent, ask_check, holds_in, emptying_hold, emptying_read, emptying_put, put_block, move_all, emptying_delete, emptying_finish, says}
use Rattle.cleaner_job.specs.declared.hand.Hand.{Hand}
use Rattle.cleaner_job.specs.declared.job.Job.{Job}
use Rattle.cleaner_job.specs.Hands.{hand_fetch, fetches}
use Rattle.cleaner_job.specs.Jobs.{hand_checks_in, job_check, hand_of, is_whole, act_dropped}
use Rattle.client_log.specs.declared.input.In.TheVariants as log_in
use Rattle.client_log.specs.declared.output.Out.{Out as LogOut}
use Rattle.client_log.specs.declared.output.Out.TheVariants as log_out
use Rattle.client_log.specs.LogState.{LogState}
use Rattle.client_log.specs.Transition as log
use Rattle.delta_feed.specs.FeedState.{FeedState}
use Rattle.index_tie.specs.Net.{Net, Packet, with_packet}
use Rattle.index_tie.specs.Net.Happens.{Asks, JobBegins}
use Rattle.index_tie.specs.Net.Packet.{Checked}
use Rattle.index_tie.specs.Net.Runs.{Begun, On}
use Rattle.log_owner.specs.declared.promised.Promised.{Promised}
use Rattle.log_owner.specs.Opening.{stored}
use Rattle.log_owner.specs.Promised.{epoch_of}
use Rattle.log_owner.specs.Sending.{fetch}
use Rattle.log_protocol.specs.Tables.{In}
use Rattle.node_base.specs.Beginning.{answers_unanswered}
use Rattle.node_base.specs.declared.effects.Effect.{Effect}
use Rattle.node_base.specs.declared.effects.Effect.TheVariants.{Send, Does}
use Rattle.node_base.specs.declared.questions.Questions.{Questions as Asker}
use Rattle.node_slots.specs.node_index_tie.Sight.{Questions}
use Rattle.segment_reading.specs.Reading.{ReadingState, reading_unanswered}
use Rattle.stripe_cleaner.specs.CleaningState.{CleaningState, cleaning_start}
use Rattle.stripe_cleaner.specs.declared.output.Out.{Out}
use Rattle.stripe_cleaner.specs.declared.output.Out.TheVariants as out
use Rattle.stripe_cleaner.specs.Promises.{promised_at}
use Rattle.version_model.specs.declared.act.Act.TheVariants.{Dropped}
use Rattle.version_model.specs.declared.answer.Answer.{Answer}
use Rattle.wire_msg.specs.declared.body.Body.TheVariants as body
use Rattle.wire_msg.specs.declared.cleaning.Check.{Check}
use Rattle.xfs_base.proofs.Booleans.{by_test}
use Rattle.xfs_base.specs.Blocks.{slot_of}
use Rattle.xfs_base.specs.declared.block.BlockId.{BlockId}
use Rattle.xfs_base.specs.declared.entry.Entry.{Entry}
use Rattle.xfs_base.specs.declared.entry.Place.{Place}
use Rattle.xfs_base.specs.declared.node.NodeId.TheVariants.{Server}
use Rattle.xfs_base.specs.declared.segment.End.{End}
use Rattle.xfs_base.specs.declared.segment.SegName.{SegName}
use Rattle.xfs_base.specs.declared.segment.SegRef.{SegRef}
use Rattle.xfs_base.specs.Steps.{steps}
use Rattle.xfs_base.proofs.Alls.{all_append, all_map, all_weaker}
use Rattle.node_slots.specs.owner_index_tie.CleanerEvents.{JobAgrees, MayAsk}
use Rattle.node_slots.specs.owner_index_tie.Owners.{LogNext}
use Rattle.node_slots.proofs.owner_index_tie.CleanerFrames as frames
use Rattle.node_slots.proofs.owner_index_tie.CleanerFrames.{Grows, Stands}
use Rattle.node_slots.proofs.owner_index_tie.Feeds.{same_owner}
use Rattle.node_slots.proofs.owner_index_tie.Frames.{more_itself}
use Rattle.node_slots.proofs.owner_index_tie.Turns.{put_stays, seal_stays}

-- a job that has begun was told nothing
pub told_nothing : (count part : ℕ) → promised_at (cleaning_start count).promised part ≡ 0
told_nothing count zero = refl
told_nothing count (suc zero) = refl
told_nothing count (suc (suc zero)) = refl
told_nothing count (suc (suc (suc zero))) = refl
told_nothing count (suc (suc (suc (suc zero)))) = refl
told_nothing count (suc (suc (suc (suc (suc zero))))) = refl
told_nothing count (suc (suc (suc (suc (suc (suc zero)))))) = refl
told_nothing count (suc (suc (suc (suc (suc (suc (suc zero))))))) = refl
told_nothing count (suc (suc (suc (suc (suc (suc (suc (suc k)))))))) = refl

-- what is to be deleted was so
abbrev pub Known : List SegName → Out → Type 0
Known deleted (out.Delete server name) = In name deleted
Known deleted _ = Unit {0}

pub known_later : (n m : Net) → Grows n m → (o : Out) → Known n.deleted o → Known m.deleted o
known_later n m g (out.Delete server name) k = g.deleted name k
known_later n m g _ k = k

module _ (New : Filed → Segment → Type 0) (part : ℕ) (texts : Texts) (since : ℕ) (answered : List Packet) where
  abbrev At : Net → Emptying → Type 0
  At n e = Stands New part texts since answered n e.log e.feed e.promised e.job

  abbrev Goes : Questions → Net → Done → Type 0
  Goes asked n d = frames.Goes New part texts since answered asked n d

  abbrev AllPlain : Questions → Net → List Effect → Type 0
  AllPlain asked n outs = frames.AllPlain New part texts since answered asked n outs

  quiet : (asked : Questions) (n : Net) (e : Emptying) (outs : List Effect) → At n e → AllPlain asked n outs → Goes asked n (record { state = e; outs = outs })
  quiet asked n e outs h all = frames.quiet New part texts since answered asked n e outs h all

  -- another job that is the small world's too
  pub rejobbed : (n : Net) (s : LogState) (f : FeedState) (p : Promised) (o later : Option Job)
      → (JobAgrees part n (epoch_of p part) o → JobAgrees part n (epoch_of p part) later)
      → Stands New part texts since answered n s f p o → Stands New part texts since answered n s f p later
  rejobbed n s f p o later to h =
      record { late = h.late; heard = h.heard; seen = record { owner = h.seen.owner; eight = h.seen.eight; promised = h.seen.promised; job = to h.seen.job } }

  -- another state of the log, with the same end
  pub relogged : (n : Net) (s later : LogState) (f : FeedState) (p : Promised) (o : Option Job) → LogNext 9 later → later.end ≡ s.end
      → Stands New part texts since answered n s f p o
      → Stands New part texts since answered n later f p o
  relogged n s later f p o next same h = record {
    late = h.late;
    heard = h.heard;
    seen = record {
      owner = record {
        number_is = refl;
        log = next;
        end = record {
          seq = ap (λ (x : End). x.seq) same ∙ h.seen.owner.end.seq;
          pass = λ some. ap (λ (x : End). x.pass) same ∙ h.seen.owner.end.pass some;
        };
        feed = h.seen.owner.feed;
      };
      eight = h.seen.eight;
      promised = h.seen.promised;
      job = h.seen.job;
    };
  }

  -- ---- what it asks

  maps_so : (asked : Questions) (n : Net) (e : Emptying) (o : Option Job) → e.job ≡ o → At n e → Goes asked n (ask_maps e o)
  maps_so asked n e None same h = quiet asked n e [] h tt
  maps_so asked n e (Some job) same h =
      quiet asked n (ask_maps e (Some job)).state (ask_maps e (Some job)).outs
      (rejobbed n e.log e.feed e.promised e.job (ask_maps e (Some job)).state.job (λ k. subst (JobAgrees part n (epoch_of e.promised part)) same k) h) (tt, tt)

  list_so : (asked : Questions) (n : Net) (e : Emptying) (o : Option Job) (server : ℕ) → e.job ≡ o → At n e → Goes asked n (ask_list e o server)
  list_so asked n e None server same h = quiet asked n e [] h tt
  list_so asked n e (Some job) server same h =
      quiet asked n (ask_list e (Some job) server).state (ask_list e (Some job) server).outs
      (rejobbed n e.log e.feed e.promised e.job (ask_list e (Some job) server).state.job (λ k. subst (JobAgrees part n (epoch_of e.promised part)) same k) h)
      (tt, tt)

  usage_so : (asked : Questions) (n : Net) (e : Emptying) (o : Option Job) (slot : ℕ) → e.job ≡ o → At n e → Goes asked n (ask_usage e o slot)
  usage_so asked n e None slot same h = quiet asked n e [] h tt
  usage_so asked n e (Some job) slot same h =
      quiet asked n (ask_usage e (Some job) slot).state (ask_usage e (Some job) slot).outs
      (rejobbed n e.log e.feed e.promised e.job (ask_usage e (Some job) slot).state.job (λ k. subst (JobAgrees part n (epoch_of e.promised part)) same k) h)
      (tt, tt)

  holds_so : (n : Net) (e : Emptying) (o : Option Job) (seg : SegRef) → e.job ≡ o → At n e → At n (holds_in e o seg)
  holds_so n e None seg same h = h
  holds_so n e (Some job) seg same h =
      rejobbed n e.log e.feed e.promised e.job (holds_in e (Some job) seg).job (λ k. subst (JobAgrees part n (epoch_of e.promised part)) same k) h

  pub fetches_plain : (asked : Questions) (n : Net) (hand : Option Hand) → AllPlain asked n (fetches hand)
  fetches_plain asked n None = tt
  fetches_plain asked n (Some hand) = by hand.reading
    where
      by : (r : Option ReadingState) → AllPlain asked n (hand_fetch hand.seg.name r)
      by None = tt
      by (Some r) = all_map (frames.Plain New part texts since answered asked n) (fetch hand.seg.name r.ask) (λ server. tt) (reading_unanswered r)

  emptying_read_so : (asked : Questions) (n : Net) (e : Emptying) (seg : SegRef) → At n e → Goes asked n (emptying_read e seg)
  unfolding emptying_read emptying_hold
  emptying_read_so asked n e seg h = quiet asked n (emptying_hold e seg) (fetches (hand_of (emptying_hold e seg).job)) (holds_so n e e.job seg refl h)
      (fetches_plain asked n (hand_of (emptying_hold e seg).job))

  -- ---- its checks

  checked_cleaning : (n : Net) (epoch : ℕ) (job : Job) (q : Asker) (o : Option Hand) (block : BlockId) → JobAgrees part n epoch (Some job)
      → JobAgrees part n epoch (Some (hand_checks_in job q o block).job)
  checked_cleaning n epoch job q None block k = k
  checked_cleaning n epoch job q (Some hand) block k = k

  -- a Check is sent: it is asked there, where it is of the slot
  sends_check : (asked : Questions) (n : Net) (e : Emptying) (job : Job) (block : BlockId) (place : Place) (ask : Option ℕ) → e.job ≡ Some job → At n e
      → Goes asked n (check_sent e block place ask)
  sends_check asked n e job block place None same h = quiet asked n e [] h tt
  sends_check asked n e job block place (Some ask) same h = (λ owed. by owed (slot_of block.ino.0 == part) refl, λ asks may. (tt, tt))
    where
      c : Check
      c = record { block = block; place = place; ask = ask }

      of_slot : (slot_of block.ino.0 == part) ≡ true → slot_of block.ino.0 ≡ part
      of_slot fact = eqb-true (slot_of block.ino.0) part fact

      of_other : (slot_of block.ino.0 == part) ≡ false → slot_of block.ino.0 ≡ part → ⊥
      of_other fact inside = let i = inside in grind (arith, nat_tests, i, fact)

      asked_there : (may : MayAsk part n c) → frames.Went New part texts since answered asked n At e (check_sent e block place (Some ask)).outs
      asked_there may =
          let j = subst (JobAgrees part n (epoch_of e.promised part)) same h.seen.job in
          let told : promised_at n.job.promised part ≡ n.promised = ap (λ (x : CleaningState). promised_at x.promised part) j.same_job ∙ j.told
          ∙ sym h.seen.promised in
          let p = Checked n.number block place may.epoch in
          record {
            next = with_packet n p;
            runs = On Begun (Asks block place may.epoch (let a = may.promised in omega arith) may.within may.below may.lies);
            grows = record {
              slots = refl;
              epoch = refl;
              horizon = refl;
              parts = refl;
              promised = let q = n.promised in omega arith;
              filed = more_itself n.filed;
              sent = λ x fact. inr fact;
              deleted = λ name fact. fact;
            };
            filed = refl;
            questions = (ask, n.number, place.seg.name) ∷ asked;
            kept = λ x fact. inr fact;
            stands = frames.moved_on New part texts since answered n (with_packet n p) e.log e.feed e.promised e.job
                (record { head = refl; segment = λ q some limit. refl }) refl refl
                (λ x fact. inr fact) h;
            says = (λ inside. record { number = n.number; below = may.epoch; sent = inl refl; question = inl refl }, tt);
          }

      by : frames.Owed New part texts since answered n (check_sent e block place (Some ask)).outs → (t : Bool) → (slot_of block.ino.0 == part) ≡ t
          → frames.Went New part texts since answered asked n At e (check_sent e block place (Some ask)).outs
      by owed true fact = asked_there (owed.asks.0 (of_slot fact))
      by owed false fact = (quiet asked n e (check_sent e block place (Some ask)).outs h ((λ inside. absurd (of_other fact inside)), tt)).0 owed

  checks_in : (asked : Questions) (n : Net) (e : Emptying) (o : Option Job) (block : BlockId) (place : Place) → e.job ≡ o → At n e
      → Goes asked n (check_sent (checked_in e o block).state block place (checked_in e o block).ask)
  unfolding job_check
  checks_in asked n e None block place same h = quiet asked n e [] h tt
  checks_in asked n e (Some job) block place same h =
      let c = hand_checks_in job e.lasting.questions job.hand block in
      sends_check asked n (checked_in e (Some job) block).state c.job block place c.ask refl
      (rejobbed n e.log e.feed e.promised e.job (Some c.job) (λ k. checked_cleaning n (epoch_of e.promised part) job e.lasting.questions job.hand block
      (subst (JobAgrees part n (epoch_of e.promised part)) same k)) h)

  check_so : (asked : Questions) (n : Net) (e : Emptying) (block : BlockId) (place : Place) → At n e → Goes asked n (ask_check e block place)
  unfolding ask_check emptying_check
  check_so asked n e block place h = checks_in asked n e e.job block place refl h

  -- ---- its moves

  stored_plain : (asked : Questions) (n : Net) (outs : List LogOut) → AllPlain asked n (flat_map stored outs)
  stored_plain asked n [] = tt
  stored_plain asked n (log_out.Send fragment member ∷ outs) = (tt, stored_plain asked n outs)
  stored_plain asked n (log_out.Settled end rows ∷ outs) = stored_plain asked n outs

  put_so : (asked : Questions) (n : Net) (e : Emptying) (one : BlockId × Entry × Option (List ℕ)) → At n e → Goes asked n (put_block e one)
  unfolding put_block emptying_put
  put_so asked n e one h =
      let r = log.on_put e.log one.0 (record { entry = one.1; value = one.2 }) in
      let k = put_stays 9 e.log h.seen.owner.log one.0 (record { entry = one.1; value = one.2 }) in
      quiet asked n (record e { log = r.state }) (flat_map stored r.outs) (relogged n e.log r.state e.feed e.promised e.job k.next k.rests.same h)
      (stored_plain asked n r.outs)

  seal_so : (asked : Questions) (n : Net) (e : Emptying) → At n e → Goes asked n (emptying_put e log_in.Seal)
  unfolding emptying_put
  seal_so asked n e h =
      let r = log.on_seal e.log in
      let k = seal_stays 9 e.log h.seen.owner.log in
      quiet asked n (record e { log = r.state }) (flat_map stored r.outs) (relogged n e.log r.state e.feed e.promised e.job k.next k.rests.same h)
      (stored_plain asked n r.outs)

  move_all_so : (asked : Questions) (n : Net) (e : Emptying) (blocks : List (BlockId × Entry × Option (List ℕ))) → At n e → Goes asked n (move_all e blocks)
  unfolding move_all
  move_all_so asked n e blocks h =
      let d = steps put_block e blocks in
      frames.went_on New part texts since answered asked n d (emptying_put d.state log_in.Seal)
      (frames.went_steps New part texts since answered put_block put_so asked n e blocks h) (λ w. seal_so w.questions w.next d.state w.stands)

  -- ---- its deletes, and its end

  emptying_delete_so : (asked : Questions) (n : Net) (e : Emptying) (o : Option Job) (server : ℕ) (name : SegName) → e.job ≡ o → In name n.deleted → At n e
      → Goes asked n (emptying_delete e o server name)
  emptying_delete_so asked n e None server name same dead h = quiet asked n e [] h tt
  emptying_delete_so asked n e (Some job) server name same dead h =
      quiet asked n (emptying_delete e (Some job) server name).state (emptying_delete e (Some job) server name).outs
      (rejobbed n e.log e.feed e.promised e.job (emptying_delete e (Some job) server name).state.job
      (λ k. subst (JobAgrees part n (epoch_of e.promised part)) same k) h)
      (all_append (frames.Plain New part texts since answered asked n) (act_dropped (is_whole job.hand) name)
      (Send (Server server) (body.Delete (record { name = name })) ∷ [])
      (by_test (AllPlain asked n) (is_whole job.hand) (Does (Dropped name) ∷ []) [] (λ _. (dead, tt)) (λ _. tt)) (dead, tt))

  pub answers_plain : (asked : Questions) (n : Net) (item : Option ℕ) (a : Answer) → AllPlain asked n (answers_unanswered item a)
  answers_plain asked n None a = tt
  answers_plain asked n (Some number) a = (tt, tt)

  -- the small world's job gives way to one that has just begun
  abbrev pub jobless : Net → Net
  jobless n = record n { job = cleaning_start 0; number = suc n.number }

  pub grows_job : (n : Net) (count : ℕ) → Grows n (record n { job = cleaning_start count; number = suc n.number })
  grows_job n count = record {
    slots = refl;
    epoch = refl;
    horizon = refl;
    parts = refl;
    promised = let q = n.promised in omega arith;
    filed = more_itself n.filed;
    sent = λ x fact. fact;
    deleted = λ name fact. fact;
  }

  pub grows_jobless : (n : Net) → Grows n (jobless n)
  grows_jobless n = grows_job n 0

  emptying_finish_so : (asked : Questions) (n : Net) (e : Emptying) (count : ℕ) → At n e → Goes asked n (emptying_finish e count)
  emptying_finish_so asked n e count h =
      let m = jobless n in
      frames.went_after New part texts since answered At asked asked n m (emptying_finish e count) (On Begun (JobBegins 0)) (grows_jobless n) refl (λ x fact. fact)
      (quiet asked m (emptying_finish e count).state (emptying_finish e count).outs
      (record {
        late = h.late;
        heard = h.heard;
        seen = record {
          owner = same_owner part n m 9 9 e.log e.feed (record { head = refl; segment = λ q some limit. refl }) h.seen.owner;
          eight = h.seen.eight;
          promised = h.seen.promised;
          job = told_nothing 0 part;
        };
      })
      (answers_plain asked m e.lasting.items.unanswered _))

  -- ---- all that it says

  one_said : (asked : Questions) (n : Net) (e : Emptying) (o : Out) → Known n.deleted o → At n e → Goes asked n (says e o)
  unfolding says
  one_said asked n e out.Hello k h = maps_so asked n e e.job refl h
  one_said asked n e (out.List server) k h = list_so asked n e e.job server refl h
  one_said asked n e (out.UsageAsk slot) k h = usage_so asked n e e.job slot refl h
  one_said asked n e (out.Fetch seg) k h = emptying_read_so asked n e seg h
  one_said asked n e (out.Check block place) k h = check_so asked n e block place h
  one_said asked n e (out.Move blocks) k h = move_all_so asked n e blocks h
  one_said asked n e (out.Delete server name) k h = emptying_delete_so asked n e e.job server name refl k h
  one_said asked n e (out.Finished count) k h = emptying_finish_so asked n e count h

  pub all_said : (asked : Questions) (n : Net) (e : Emptying) (outs : List Out) → AllByRecursion (Known n.deleted) outs → At n e
      → Goes asked n (steps says e outs)
  all_said asked n e [] known h = quiet asked n e [] h tt
  all_said asked n e (o ∷ outs) known h =
      frames.went_on New part texts since answered asked n (says e o) (steps says (says e o).state outs) (one_said asked n e o known.0 h)
      (λ w. all_said w.questions w.next (says e o).state outs
      (all_weaker (Known n.deleted) (Known w.next.deleted) (known_later n w.next w.grows) outs known.1) w.stands)
