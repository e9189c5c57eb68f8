-- Each thing that happens in the small world keeps it seen: what the cleaner promises, and what its jobs take.
use Rattle.std.proofs.Common.{◌≡◌, ℕ, suc, ◌<◌, ◌≤◌, ◌⊎◌, inl, inr, set, List, [], ◌∷◌, ◌++◌, Option, refl, sym, ap, subst, ◌∙◌, arith}
use Rattle.std.specs.List.{AllByRecursion}
use Rattle.std.proofs.lemmas.List.{get_or-set_other}
use Rattle.group_map.specs.GroupMapState.{GroupMapState}
use Rattle.xfs_base.specs.declared.block.BlockId.{BlockId}
use Rattle.xfs_base.specs.declared.news.SlotNews.{SlotNews}
use Rattle.xfs_base.specs.declared.segment.SegName.{SegName}
use Rattle.xfs_base.specs.declared.segment.SegRef.{SegRef}
use Rattle.xfs_base.specs.Blocks.{slot_of}
use Rattle.xfs_base.specs.Steps.{still}
use Rattle.xfs_base.proofs.Booleans.{by_test}
use Rattle.xfs_base.specs.Logs.{cleaners_number}
use Rattle.segment_format.specs.declared.segment.Segment.{Segment}
use Rattle.checkpoint.specs.WriterState.{Rows}
use Rattle.stripe_cleaner.specs.declared.input.In as job_inputs
use Rattle.stripe_cleaner.specs.declared.input.In.TheVariants as job_input
use Rattle.stripe_cleaner.specs.declared.output.Out as job_outputs
use Rattle.stripe_cleaner.specs.declared.output.Out.TheVariants as job_output
use Rattle.stripe_cleaner.specs.declared.phase.Phase.{Phase}
use Rattle.stripe_cleaner.specs.declared.phase.Phase.TheVariants.{Checking}
use Rattle.stripe_cleaner.specs.CleaningState.{CleaningState, cleaning_start}
use Rattle.stripe_cleaner.specs.Promises.{promised_at, is_above, promised_with}
use Rattle.stripe_cleaner.specs.Transition as job
use Rattle.log_protocol.specs.Tables.{In}
use Rattle.log_protocol.specs.IndexState.{IndexState}
use Rattle.log_protocol.specs.IndexSteps.{promises}
use Rattle.log_protocol.specs.IndexSteps.IndexSteps.{Done as Ended, More}
use Rattle.log_protocol.specs.IndexSteps.IndexStep.{Promises}
use Rattle.headline.specs.Filed.{Filed, is_filed_name}
use Rattle.index_tie.specs.Cleaning.{IsDropped, ReadFor, ToldFor, DeletesDropped, Cleaned, promise_of}
use Rattle.index_tie.specs.Net.{Net, with_job, deletes_of, IsOther, IsInHand}
use Rattle.index_tie.specs.Net.Packet.{AnsweredDead}
use Rattle.index_tie.proofs.Cleaning.{polled_at, StaysOn, RisesOn, heard_at, welcome_rises, promise_rises, promise_stays, usage_stays, live_answered, dead_answered, read_stays, maps_stay, listed_stays, moved_stays_on, deleted_stays, tick_stays}
use Rattle.index_tie.proofs.Growth.{parts_stay}
use Rattle.index_tie.proofs.JobsStay.{jobs_begin}
use Rattle.index_tie.proofs.Registry.{Kept, kept_tells, kept_slots}
use Rattle.index_tie.proofs.Views.{View, went, found, Sound, Good, same_filed}
use Rattle.checkpoint.specs.Laws.{rows_in}

-- a promise of another slot is none of this one
other_promise : (s : CleaningState) (slot epoch k : ℕ) → (slot ≡ k → ⊥) → promised_at (job.on_promise s slot epoch).state.promised k ≡ promised_at s.promised k
unfolding job.on_promise
other_promise s slot epoch k other =
    by_test (λ (d : job.Done). promised_at d.state.promised k ≡ promised_at s.promised k) (is_above s.promised slot epoch)
    (job.turned (record s { promised = promised_with s.promised slot epoch }) (job.forgetting slot s.phase)) (still s)
    (λ _. by_test (λ (p : List ℕ). promised_at p k ≡ promised_at s.promised k) (is_above s.promised slot epoch) (set s.promised slot epoch) s.promised
    (λ _. get_or-set_other s.promised slot k epoch 0 (λ same. other (sym same))) (λ _. refl))
    (λ _. refl)

-- the names of what is to be deleted were dropped
names_dropped : (b : BlockId) (f : Filed) (dropped : ℕ → ℕ → ℕ) (outs : List job_outputs.Out) (more : List SegName)
    → AllByRecursion (DeletesDropped b f dropped) outs → AllByRecursion (IsDropped b f dropped) more
    → AllByRecursion (IsDropped b f dropped) (deletes_of outs ++ more)
names_dropped b f dropped [] more all rest = rest
names_dropped b f dropped (job_output.Delete server name ∷ os) more all rest = (all.0, names_dropped b f dropped os more all.1 rest)
names_dropped b f dropped (o ∷ os) more all rest = names_dropped b f dropped os more all.1 rest

module _ (part : ℕ) (holds : SegRef → Rows) where
  job_view : (n : Net) (d : job.Done) (p : ℕ) (b : BlockId) (i : View part holds b n) (r : Cleaned b n.filed i.state d) → r.state.promised ≡ p
      → ((e : ℕ) → e ≤ i.state.promised → r.state.polled e ≤ i.state.polled e)
      → ((e : ℕ) → r.state.polled e ≤ i.state.head cleaners_number)
      → View part holds b (record (with_job n d) { promised = p })
  job_view n d p b i r promised polled headed =
      let w = i.state in
      let v = r.state in
      let f = n.filed in
      let m = record (with_job n d) { promised = p } in
      let frame = r.frame in
      let kept : Kept w v = record {
        cleaner = ap (λ (x : IndexState). x.cleaner) frame;
        head = λ l. ap (λ (x : IndexState). x.head l) frame;
        version = λ l q. ap (λ (x : IndexState). x.version l q) frame;
        hop = λ l q. ap (λ (x : IndexState). x.hop l q) frame;
        active = λ e. ap (λ (x : IndexState). x.active e) frame;
        applied = λ e l. ap (λ (x : IndexState). x.applied e l) frame;
        index = λ e. ap (λ (x : IndexState). x.index e) frame;
      } in
      let tells = kept_tells part holds b f w v kept i.tells in
      let went_on = went part holds b n m i v r.steps (same_filed f) tells polled in
      record {
        state = v;
        reached = went_on.reached;
        tells = tells;
        slots = kept_slots part holds b f n.slots w v kept i.slots;
        none = λ e at. kept.active e ∙ i.none e at;
        epoch = ap (λ (x : IndexState). x.epoch) frame ∙ i.epoch;
        horizon = λ e l some limit. i.horizon e l some limit ∙ sym (ap (λ (x : IndexState). x.floor e l) frame);
        parts = λ e. parts_stay b f f w v (n.horizon e) (rows_in holds (n.parts e)) (same_filed f) i.tells tells (i.parts e);
        promised = promised;
        polled = λ e. let q = headed e in let h = kept.head cleaners_number in omega arith;
        job = r.shows;
        deleted = names_dropped b f v.dropped d.outs n.deleted r.deletes went_on.deleted;
        sent = went_on.sent;
      }

  -- an input that is no promise of the slot
  stays_view : (n : Net) (x : job_inputs.In) (b : BlockId) (i : View part holds b n) → StaysOn b n.filed i.state (job.transition n.job x)
      → View part holds b (with_job n (job.transition n.job x))
  stays_view n x b i r =
      job_view n (job.transition n.job x) n.promised b i r.cleaned (r.promised ∙ i.promised) (λ e _. let p = r.polled e in omega arith)
      (λ e. let p = r.polled e in let q = i.polled e in omega arith)

  stays_good : (n : Net) (x : job_inputs.In) → Good part holds n
      → ((b : BlockId) → slot_of b.ino.0 ≡ part → (i : View part holds b n) → StaysOn b n.filed i.state (job.transition n.job x))
      → Good part holds (with_job n (job.transition n.job x))
  stays_good n x g all =
      record { filed = g.filed; epochs = g.epochs; begun = g.begun; views = λ b inside. let i = g.views b inside in stays_view n x b i (all b inside i) }

  pub job_takes : (n : Net) (x : job_inputs.In) → Good part holds n → IsOther part x → Good part holds (with_job n (job.transition n.job x))
  job_takes n (job_input.Welcome slots groups) g other = absurd other
  job_takes n (job_input.Promise slot epoch) g other =
      stays_good n (job_input.Promise slot epoch) g
      (λ b inside i. promise_stays b n.filed i.state n.job slot epoch i.job (other_promise n.job slot epoch (slot_of b.ino.0) (λ same. other (same ∙ inside))))
  job_takes n (job_input.Maps groups) g other = stays_good n (job_input.Maps groups) g (λ b inside i. maps_stay b n.filed i.state n.job groups i.job)
  job_takes n (job_input.Listed server held) g other =
      stays_good n (job_input.Listed server held) g (λ b inside i. listed_stays b n.filed i.state n.job server held i.job)
  job_takes n (job_input.Usage slot epoch counts) g other =
      stays_good n (job_input.Usage slot epoch counts) g (λ b inside i. usage_stays b n.filed i.state n.job slot epoch counts i.job)
  job_takes n (job_input.Read read) g other = absurd other
  job_takes n (job_input.Live block epoch entry) g other =
      stays_good n (job_input.Live block epoch entry) g (λ b inside i. live_answered b n.filed i.state n.job block epoch entry i.job)
  job_takes n (job_input.Dead block epoch) g other =
      stays_good n (job_input.Dead block epoch) g
      (λ b inside i. dead_answered b n.filed i.state n.job block epoch i.job (λ same _. absurd (other (ap (λ (k : BlockId). slot_of k.ino.0) same ∙ inside))))
  job_takes n job_input.Moved g other = stays_good n job_input.Moved g (λ b inside i. moved_stays_on b n.filed i.state n.job i.job)
  job_takes n (job_input.Deleted server name) g other =
      stays_good n (job_input.Deleted server name) g (λ b inside i. deleted_stays b n.filed i.state n.job server name i.job)
  job_takes n job_input.Tick g other = stays_good n job_input.Tick g (λ b inside i. tick_stays b n.filed i.state n.job i.job)

  pub job_reads : (n : Net) (read : Option Segment) → Good part holds n → ReadFor n.filed read n.job.phase
      → Good part holds (with_job n (job.transition n.job (job_input.Read read)))
  job_reads n read g owes = stays_good n (job_input.Read read) g (λ b inside i. read_stays b n.filed i.state n.job read i.job owes)

  -- a Dead of the segment in hand that is heard was told of its row
  told_for : (n : Net) (b : BlockId) (i : View part holds b n) (number epoch : ℕ) (name : SegName) (d : ℕ) (p : Phase)
      → Sound part holds b n i.state (AnsweredDead number b name d epoch) → epoch ≡ promise_of b n.job → IsInHand name p
      → ToldFor b n.filed i.state epoch p
  told_for n b i number epoch name d (Checking j segment checks) known at hand = λ fact has. (
    known.1,
    ap (λ (x : SegName). i.state.told epoch x.log.0 x.seq) hand ∙ known.2 refl (sym (ap (is_filed_name n.filed) hand) ∙ fact) (within i.job.promised),
  )
    where
      within : (promise_of b n.job ≡ 0) ⊎ (i.state.promised ≡ promise_of b n.job) → d ≤ epoch
      within (inl none) = let some = known.1 in absurd (omega arith)
      within (inr same) = let low = known.0.promised in omega arith
  told_for n b i number epoch name d p known at hand = tt

  pub job_hears_dead : (n : Net) (number : ℕ) (k : BlockId) (epoch : ℕ) (name : SegName) (d : ℕ) → Good part holds n
      → In (AnsweredDead number k name d epoch) n.sent
      → IsInHand name n.job.phase → Good part holds (with_job n (job.transition n.job (job_input.Dead k epoch)))
  job_hears_dead n number k epoch name d g answered hand =
      stays_good n (job_input.Dead k epoch) g (λ b inside i.
      dead_answered b n.filed i.state n.job k epoch i.job (λ same heard.
      let known = found part holds b (Sound part holds b n i.state) (AnsweredDead number k name d epoch) n.sent i.sent answered in
      let at : epoch ≡ promise_of b n.job = heard_at b n.filed n.job k epoch same heard in
      told_for n b i number epoch name d n.job.phase (subst (λ x. Sound part holds b n i.state (AnsweredDead number x name d epoch)) same known) at hand))

  -- ---- promises

  rises_view : (n : Net) (x : job_inputs.In) (b : BlockId) → slot_of b.ino.0 ≡ part → (i : View part holds b n)
      → RisesOn b n.filed i.state (job.transition n.job x)
      → View part holds b (record (with_job n (job.transition n.job x)) { promised = promised_at (job.transition n.job x).state.promised part })
  rises_view n x b inside i r =
      let d = job.transition n.job x in
      job_view n d (promised_at d.state.promised part) b i r.cleaned (r.promised ∙ ap (promised_at d.state.promised) inside)
      (λ e low. polled_low e low (r.polled e)) (λ e. polled_head e (r.polled e))
    where
      polled_low : (e : ℕ) → e ≤ i.state.promised
          → (r.cleaned.state.polled e ≡ i.state.polled e) ⊎ ((i.state.promised < e) × (r.cleaned.state.polled e ≡ i.state.head i.state.cleaner))
          → r.cleaned.state.polled e ≤ i.state.polled e
      polled_low e low (inl same) = omega arith
      polled_low e low (inr late) = let h = late.0 in absurd (omega arith)

      polled_head : (e : ℕ)
          → (r.cleaned.state.polled e ≡ i.state.polled e) ⊎ ((i.state.promised < e) × (r.cleaned.state.polled e ≡ i.state.head i.state.cleaner))
          → r.cleaned.state.polled e ≤ i.state.head cleaners_number
      polled_head e (inl same) = let q = i.polled e in omega arith
      polled_head e (inr late) = let h = late.1 in let c = ap i.state.head i.tells.cleaner in omega arith

  pub job_promises : (n : Net) (e : ℕ) → Good part holds n → n.promised ≤ promised_at (job.transition n.job (job_input.Promise part e)).state.promised part
      → Good part holds
      (record (with_job n (job.transition n.job (job_input.Promise part e)))
      { promised = promised_at (job.transition n.job (job_input.Promise part e)).state.promised part })
  job_promises n e g rises = record {
    filed = g.filed;
    epochs = g.epochs;
    begun = g.begun;
    views = λ b inside.
        let i = g.views b inside in
        rises_view n (job_input.Promise part e) b inside i
        (promise_rises b n.filed i.state n.job part e i.job
        (let p = i.promised in let same = ap (promised_at (job.transition n.job (job_input.Promise part e)).state.promised) inside in omega arith));
  }

  pub job_welcomed : (n : Net) (slots : List SlotNews) (groups : GroupMapState) → Good part holds n
      → n.promised ≤ promised_at (job.transition n.job (job_input.Welcome slots groups)).state.promised part
      → Good part holds
      (record (with_job n (job.transition n.job (job_input.Welcome slots groups)))
      { promised = promised_at (job.transition n.job (job_input.Welcome slots groups)).state.promised part })
  job_welcomed n slots groups g rises = record {
    filed = g.filed;
    epochs = g.epochs;
    begun = g.begun;
    views = λ b inside.
        let i = g.views b inside in
        rises_view n (job_input.Welcome slots groups) b inside i
        (welcome_rises b n.filed i.state n.job slots groups i.job
        (let p = i.promised in let same = ap (promised_at (job.transition n.job (job_input.Welcome slots groups)).state.promised) inside in omega arith));
  }

  promise_view : (n : Net) (e : ℕ) (b : BlockId) → slot_of b.ino.0 ≡ part → (i : View part holds b n) → n.promised ≤ e → promised_at n.job.promised part ≡ 0
      → View part holds b (record n { promised = e })
  promise_view n e b inside i rises none =
      let w = i.state in
      let f = n.filed in
      let m = record n { promised = e } in
      let v = promises w e in
      let p = i.promised in
      let kept : Kept w v =
      record { cleaner = refl; head = λ l. refl; version = λ l q. refl; hop = λ l q. refl; active = λ k. refl; applied = λ k l. refl; index = λ k. refl } in
      let tells = kept_tells part holds b f w v kept i.tells in
      let went_on =
      went part holds b n m i v (More Ended (Promises e (record { rises = omega arith }))) (same_filed f) tells (λ d low. polled_low d low (polled_at w e d)) in
      record {
        state = v;
        reached = went_on.reached;
        tells = tells;
        slots = kept_slots part holds b f n.slots w v kept i.slots;
        none = i.none;
        epoch = i.epoch;
        horizon = i.horizon;
        parts = λ d. parts_stay b f f w v (n.horizon d) (rows_in holds (n.parts d)) (same_filed f) i.tells tells (i.parts d);
        promised = refl;
        polled = λ d. polled_head d (polled_at w e d);
        job = record { promised = inl (ap (promised_at n.job.promised) inside ∙ none); known = i.job.known };
        deleted = went_on.deleted;
        sent = went_on.sent;
      }
    where
      polled_low : (d : ℕ) → d ≤ i.state.promised
          → ((promises i.state e).polled d ≡ i.state.polled d) ⊎ ((i.state.promised < d) × ((promises i.state e).polled d ≡ i.state.head i.state.cleaner))
          → (promises i.state e).polled d ≤ i.state.polled d
      polled_low d low (inl same) = omega arith
      polled_low d low (inr late) = let h = late.0 in absurd (omega arith)

      polled_head : (d : ℕ)
          → ((promises i.state e).polled d ≡ i.state.polled d) ⊎ ((i.state.promised < d) × ((promises i.state e).polled d ≡ i.state.head i.state.cleaner))
          → (promises i.state e).polled d ≤ (promises i.state e).head cleaners_number
      polled_head d (inl same) = let q = i.polled d in omega arith
      polled_head d (inr late) = let h = late.1 in let c = ap i.state.head i.tells.cleaner in omega arith

  pub cleaner_promises : (n : Net) (e : ℕ) → Good part holds n → n.promised ≤ e → promised_at n.job.promised part ≡ 0
      → Good part holds (record n { promised = e })
  cleaner_promises n e g rises none =
      record { filed = g.filed; epochs = g.epochs; begun = g.begun; views = λ b inside. promise_view n e b inside (g.views b inside) rises none }

  -- ---- a job begins

  pub job_begins : (n : Net) (count : ℕ) → Good part holds n → Good part holds (record n { job = cleaning_start count; number = suc n.number })
  job_begins n count g = record {
    filed = g.filed;
    epochs = g.epochs;
    begun = g.begun;
    views = λ b inside.
        let i = g.views b inside in
        let m = record n { job = cleaning_start count; number = suc n.number } in
        let went_on =
        went part holds b n m i i.state Ended (same_filed n.filed) i.tells (λ d _. omega arith) in
        record {
          state = i.state;
          reached = i.reached;
          tells = i.tells;
          slots = i.slots;
          none = i.none;
          epoch = i.epoch;
          horizon = i.horizon;
          parts = i.parts;
          promised = i.promised;
          polled = i.polled;
          job = jobs_begin b n.filed i.state count;
          deleted = i.deleted;
          sent = went_on.sent;
        };
  }
