-- How a job of the cleaner begins: it is told what each slot is promised to.
use Rattle.headline.specs.Filed.{Filed, Texts}
use Rattle.segment_format.specs.declared.segment.Segment.{Segment}
use Rattle.std.proofs.Common.{◌≡◌, ◌≤◌, ◌<◌, ◌==◌, ℕ, zero, suc, Bool, true, false, List, [], ◌∷◌, inl, inr, Some, None, is_some, length, refl, sym, ap, subst, ◌∙◌, arith}
use Rattle.std.specs.List.{range_with_len}
use Rattle.std.proofs.lemmas.Bool.{eqb-true}
use Rattle.std.proofs.lemmas.Bool.Decides.{nat_tests}
use Rattle.cleaner_serving.specs.declared.emptying.Emptying.{Emptying}
use Rattle.cleaner_serving.specs.EmptyingEvents.{promise_slot, promise_all, with_new_job, begin_job, on_clean}
use Rattle.cleaner_serving.specs.Jobs.{Done, says, takes_in, emptying_take, emptying_clean}
use Rattle.cleaner_job.specs.declared.job.Job.{Job}
use Rattle.cleaner_job.specs.Jobs.{job_start}
use Rattle.index_tie.specs.Net.{Net, Packet, Happens, with_job}
use Rattle.index_tie.specs.Net.Happens.{JobBegins, JobPromises, JobTakes}
use Rattle.index_tie.specs.Net.Runs.{Begun, On}
use Rattle.log_owner.specs.Promised.{epoch_of}
use Rattle.node_base.specs.declared.effects.Effect.TheVariants.{Answer as Answers}
use Rattle.node_slots.specs.node_index_tie.Sight.{Questions, held_in}
use Rattle.stripe_cleaner.specs.CleaningState.{CleaningState, cleaning_start}
use Rattle.stripe_cleaner.specs.declared.input.In.TheVariants as input
use Rattle.stripe_cleaner.specs.declared.phase.Phase.TheVariants.{Greeting}
use Rattle.stripe_cleaner.specs.Promises.{promised_at, promised_with, is_above}
use Rattle.stripe_cleaner.specs.Transition as job
use Rattle.token_protocol.specs.Basics.{In as Among}
use Rattle.version_model.specs.declared.answer.Answer.TheVariants.{Busy}
use Rattle.xfs_base.proofs.Booleans.{by_test}
use Rattle.xfs_base.specs.Steps.{still, saying, steps}
use Rattle.node_slots.specs.owner_index_tie.CleanerEvents.{JobSeen, JobAgrees}
use Rattle.node_slots.proofs.owner_index_tie.CleanerEpochs.{promise_is}
use Rattle.node_slots.proofs.owner_index_tie.CleanerFrames as frames
use Rattle.node_slots.proofs.owner_index_tie.CleanerFrames.{Grows, Stands}
use Rattle.node_slots.proofs.owner_index_tie.CleanerJobs as jobs
use Rattle.node_slots.proofs.owner_index_tie.CleanerSays.{grows_job, told_nothing}
use Rattle.node_slots.proofs.owner_index_tie.Feeds.{same_owner}

-- a job that awaits its Welcome says nothing when it is told of an epoch, and awaits it still
pub record Waits (d : job.Done) : Type 0 where
  pub phase : d.state.phase ≡ Greeting
  pub outs : d.outs ≡ []

promise_waits : (s : CleaningState) (slot epoch : ℕ) → s.phase ≡ Greeting → Waits (job.transition s (input.Promise slot epoch))
unfolding job.on_promise
promise_waits s slot epoch greets =
    by_test Waits (is_above s.promised slot epoch) (job.turned (record s { promised = promised_with s.promised slot epoch }) (job.forgetting slot s.phase))
    (still s)
    (λ _. record { phase = ap (λ p. (job.forgetting slot p).state) greets; outs = ap (λ p. (job.forgetting slot p).outs) greets })
    (λ _. record { phase = greets; outs = refl })

module _ (New : Filed → Segment → Type 0) (part : ℕ) (texts : Texts) (since : ℕ) (answered : List Packet) (small : part < 8) where
  abbrev At : Net → Emptying → Type 0
  At n e = Stands New part texts since answered n e.log e.feed e.promised e.job

  abbrev Goes : Questions → Net → Done → Type 0
  Goes asked n d = frames.Goes New part texts since answered asked n d

  -- its job is the small world's, awaits its Welcome, and was not told of the slot yet
  pub record Before (n : Net) (e : Emptying) : Type 0 where
    pub stands : Stands New part texts since answered n e.log e.feed e.promised None
    pub job : Job
    pub has : e.job ≡ Some job
    pub same_job : n.job ≡ job.cleaning
    pub eight : length job.cleaning.promised ≡ 8
    pub none : promised_at job.cleaning.promised part ≡ 0
    pub greets : job.cleaning.phase ≡ Greeting

  -- ---- one slot

  module _ (asked : Questions) (n : Net) (e : Emptying) (k : Before n e) (slot : ℕ) where
    abbrev epoch : ℕ
    epoch = epoch_of e.promised slot

    abbrev d : job.Done
    d = job.transition k.job.cleaning (input.Promise slot epoch)

    waits : Waits d
    waits = promise_waits k.job.cleaning slot epoch k.greets

    abbrev told : Emptying
    told = record e { job = Some (record k.job { cleaning = d.state }) }

    abbrev m : Net
    m = with_job n d

    told_is : d.state.promised ≡ promised_with k.job.cleaning.promised slot epoch
    told_is = promise_is k.job.cleaning slot epoch

    told_eight : length d.state.promised ≡ 8
    told_eight = ap length told_is ∙ jobs.with_length k.job.cleaning.promised slot epoch ∙ k.eight

    -- where it happens there, and this holds then
    goes_there : (P : Net → Emptying → Type 0) → Happens part (held_in part texts) n m → P m told
        → frames.Goes_to New part texts since answered P asked n (promise_slot e slot)
    unfolding promise_slot emptying_clean emptying_take
    goes_there P happens holds =
        subst (λ o. frames.Goes_to New part texts since answered P asked n
        (steps says (takes_in e o (input.Promise slot epoch)).state (takes_in e o (input.Promise slot epoch)).outs)) (sym k.has)
        (subst (λ outs. frames.Goes_to New part texts since answered P asked n (steps says told outs)) (sym waits.outs)
        (frames.went_after New part texts since answered P asked asked n m (still told) (On Begun happens) (jobs.grows_job n d) refl (λ x fact. fact)
        (frames.went_quiet New part texts since answered asked m P told [] holds tt)))

    -- of another slot
    still_before : (slot ≡ part → ⊥) → frames.Goes_to New part texts since answered Before asked n (promise_slot e slot)
    still_before other = goes_there Before
        (subst (λ s. Happens part (held_in part texts) n (with_job n (job.transition s (input.Promise slot epoch)))) k.same_job
        (JobTakes (input.Promise slot epoch) other))
        (let none = ap (λ p. promised_at p part) told_is ∙ jobs.with_other k.job.cleaning.promised slot epoch part other ∙ k.none in record {
          stands = record {
            late = k.stands.late;
            heard = k.stands.heard;
            seen = record {
              owner = same_owner part n m 9 9 e.log e.feed (record { head = refl; segment = λ q some limit. refl }) k.stands.seen.owner;
              eight = k.stands.seen.eight;
              promised = k.stands.seen.promised;
              job = none;
            };
          };
          job = record k.job { cleaning = d.state };
          has = refl;
          same_job = refl;
          eight = told_eight;
          none = none;
          greets = waits.phase;
        })

    -- of the slot
    now_at : slot ≡ part → frames.Goes_to New part texts since answered At asked n (promise_slot e slot)
    now_at same =
        let has : promised_at d.state.promised part ≡ epoch_of e.promised part =
        ap (λ p. promised_at p part) told_is ∙ subst
        (λ x. promised_at (promised_with k.job.cleaning.promised x (epoch_of e.promised x)) part ≡ epoch_of e.promised part) (sym same)
        (jobs.with_here k.job.cleaning.promised part (epoch_of e.promised part) small k.eight (let z = k.none in omega arith)) in
        let after_it : promised_at d.state.promised part ≡ n.promised = has ∙ sym k.stands.seen.promised in
        goes_there At
        (subst (λ p. Happens part (held_in part texts) n (record (with_job n d) { promised = p })) after_it
        (subst (λ s. n.promised ≤ promised_at (job.transition s (input.Promise slot epoch)).state.promised part
        → Happens part (held_in part texts) n
        (record (with_job n (job.transition s (input.Promise slot epoch))) {
          promised = promised_at
              (job.transition s (input.Promise slot epoch)).state.promised part;
        }))
        k.same_job
        (subst (λ x. n.promised ≤ promised_at (job.transition n.job (input.Promise x epoch)).state.promised part
        → Happens part (held_in part texts) n
        (record (with_job n (job.transition n.job (input.Promise x epoch))) {
          promised = promised_at
              (job.transition n.job (input.Promise x epoch)).state.promised part;
        }))
        (sym same) (λ low. JobPromises epoch low))
        (omega arith)))
        (record {
          late = k.stands.late;
          heard = k.stands.heard;
          seen = record {
            owner = same_owner part n m 9 9 e.log e.feed (record { head = refl; segment = λ q some limit. refl }) k.stands.seen.owner;
            eight = k.stands.seen.eight;
            promised = k.stands.seen.promised;
            job = record { same_job = refl; eight = told_eight; told = has };
          };
        })

  -- ---- a slot of which the job was told stays so

  module _ (n : Net) (e : Emptying) (slot : ℕ) (h : At n e) (j : Job) (same : e.job ≡ Some j) where
    abbrev its_epoch : ℕ
    its_epoch = epoch_of e.promised slot

    abbrev its_done : job.Done
    its_done = job.transition j.cleaning (input.Promise slot its_epoch)

    its : JobSeen part n (epoch_of e.promised part) j.cleaning
    its = subst (JobAgrees part n (epoch_of e.promised part)) same h.seen.job

    is_then : its_done.state.promised ≡ promised_with j.cleaning.promised slot its_epoch
    is_then = promise_is j.cleaning slot its_epoch

    then_seen : promised_at (promised_with j.cleaning.promised slot its_epoch) part ≡ epoch_of e.promised part
        → JobSeen part (with_job n its_done) (epoch_of e.promised part) its_done.state
    then_seen told = record {
      same_job = refl;
      eight = ap length is_then ∙ jobs.with_length j.cleaning.promised slot its_epoch ∙ its.eight;
      told = ap (λ p. promised_at p part) is_then ∙ told;
    }

    again_other : (slot ≡ part → ⊥) → jobs.Takes New part texts since answered n (epoch_of e.promised part) its_done
    again_other other = record {
      happens = subst (λ s. Happens part (held_in part texts) n (with_job n (job.transition s (input.Promise slot its_epoch)))) its.same_job
          (JobTakes (input.Promise slot its_epoch) other);
      seen = then_seen (jobs.with_other j.cleaning.promised slot its_epoch part other ∙ its.told);
    }

    again_here : slot ≡ part → jobs.Takes New part texts since answered n (epoch_of e.promised part) its_done
    again_here at =
        let told = subst (λ x. promised_at (promised_with j.cleaning.promised x (epoch_of e.promised x)) part ≡ epoch_of e.promised part) (sym at)
        (jobs.with_here j.cleaning.promised part (epoch_of e.promised part) small its.eight (let a = its.told in omega arith)) in
        let after_it : promised_at its_done.state.promised part ≡ n.promised = ap (λ p. promised_at p part) is_then ∙ told ∙ sym h.seen.promised in
        record {
          happens = subst (λ p. Happens part (held_in part texts) n (record (with_job n its_done) { promised = p })) after_it
              (subst (λ s. n.promised ≤ promised_at (job.transition s (input.Promise slot its_epoch)).state.promised part
              → Happens part (held_in part texts) n
              (record (with_job n (job.transition s (input.Promise slot its_epoch))) {
                promised = promised_at
                    (job.transition s (input.Promise slot its_epoch)).state.promised part;
              }))
              its.same_job
              (subst (λ x. n.promised ≤ promised_at (job.transition n.job (input.Promise x its_epoch)).state.promised part
              → Happens part (held_in part texts) n
              (record (with_job n (job.transition n.job (input.Promise x its_epoch))) {
                promised = promised_at
                    (job.transition n.job (input.Promise x its_epoch)).state.promised part;
              }))
              (sym at) (λ low. JobPromises its_epoch low))
              (omega arith));
          seen = then_seen told;
        }

  again_so : (asked : Questions) (n : Net) (e : Emptying) (slot : ℕ) → At n e → Goes asked n (promise_slot e slot)
  unfolding promise_slot
  again_so asked n e slot h = jobs.emptying_clean_so New part texts since answered asked n e (input.Promise slot (epoch_of e.promised slot)) h
      (λ j same. by j same (slot == part) refl)
    where
      at : (slot == part) ≡ true → slot ≡ part
      at fact = eqb-true slot part fact

      other : (slot == part) ≡ false → slot ≡ part → ⊥
      other fact equal = let s = equal in grind (arith, nat_tests, s, fact)

      by : (j : Job) (same : e.job ≡ Some j) (t : Bool) → (slot == part) ≡ t
          → jobs.Takes New part texts since answered n (epoch_of e.promised part) (job.transition j.cleaning (input.Promise slot (epoch_of e.promised slot)))
      by j same true fact = again_here n e slot h j same (at fact)
      by j same false fact = again_other n e slot h j same (other fact)

  -- ---- all slots

  abbrev Claim : List ℕ → Type 0
  Claim slots = (asked : Questions) (n : Net) (e : Emptying) → Before n e → Among part slots → Goes asked n (steps promise_slot e slots)

  first_told : (slot : ℕ) (slots : List ℕ) → Claim slots → Claim (slot ∷ slots)
  first_told slot slots rest asked n e k among = by (slot == part) refl
    where
      at : (slot == part) ≡ true → slot ≡ part
      at fact = eqb-true slot part fact

      other : (slot == part) ≡ false → slot ≡ part → ⊥
      other fact equal = let s = equal in grind (arith, nat_tests, s, fact)

      behind : (slot ≡ part → ⊥) → Among part slots
      behind apart = elim among [
        | inl same ↦ absurd (apart (sym same))
        | inr more ↦ more
      ]

      by : (t : Bool) → (slot == part) ≡ t → Goes asked n (steps promise_slot e (slot ∷ slots))
      by true fact = frames.went_through New part texts since answered At At asked n (promise_slot e slot)
          (steps promise_slot (promise_slot e slot).state slots)
          (now_at asked n e k slot (at fact))
          (λ w. frames.went_steps New part texts since answered promise_slot again_so w.questions w.next (promise_slot e slot).state slots w.stands)
      by false fact = frames.went_through New part texts since answered Before At asked n (promise_slot e slot)
          (steps promise_slot (promise_slot e slot).state slots)
          (still_before asked n e k slot (other fact)) (λ w. rest w.questions w.next (promise_slot e slot).state w.stands (behind (other fact)))

  all_told : (slots : List ℕ) → Claim slots
  all_told [] = λ asked n e k among. absurd among
  all_told (slot ∷ slots) = first_told slot slots (all_told slots)

  in_slots : (k : ℕ) → k < 8 → Among k (range_with_len 0 8)
  in_slots zero h = inl refl
  in_slots (suc zero) h = inr (inl refl)
  in_slots (suc (suc zero)) h = inr (inr (inl refl))
  in_slots (suc (suc (suc zero))) h = inr (inr (inr (inl refl)))
  in_slots (suc (suc (suc (suc zero)))) h = inr (inr (inr (inr (inl refl))))
  in_slots (suc (suc (suc (suc (suc zero))))) h = inr (inr (inr (inr (inr (inl refl)))))
  in_slots (suc (suc (suc (suc (suc (suc zero)))))) h = inr (inr (inr (inr (inr (inr (inl refl))))))
  in_slots (suc (suc (suc (suc (suc (suc (suc zero))))))) h = inr (inr (inr (inr (inr (inr (inr (inl refl)))))))
  in_slots (suc (suc (suc (suc (suc (suc (suc (suc k)))))))) h = absurd (omega arith)

  -- ---- a job begins

  begins_so : (asked : Questions) (n : Net) (e : Emptying) (number count : ℕ) → At n e → Goes asked n (begin_job e number count)
  unfolding begin_job promise_all
  begins_so asked n e number count h =
      let m = record n { job = cleaning_start count; number = suc n.number } in
      let r = with_new_job e number count in
      let d = steps promise_slot r (range_with_len 0 8) in
      let grows : Grows n m = grows_job New part texts since answered n count in
      let before : Before m r = record {
        stands = record {
          late = h.late;
          heard = h.heard;
          seen = record {
            owner = same_owner part n m 9 9 e.log e.feed (record { head = refl; segment = λ q some limit. refl }) h.seen.owner;
            eight = h.seen.eight;
            promised = h.seen.promised;
            job = told_nothing count part;
          };
        };
        job = job_start count;
        has = refl;
        same_job = refl;
        eight = refl;
        none = told_nothing count part;
        greets = refl;
      } in
      frames.went_after New part texts since answered At asked asked n m (saying d.outs (emptying_clean d.state input.Tick)) (On Begun (JobBegins count)) grows refl
      (λ x fact. fact)
      (frames.went_on New part texts since answered asked m d (emptying_clean d.state input.Tick) (all_told (range_with_len 0 8) asked m r before (in_slots part small))
      (λ w. jobs.emptying_clean_so New part texts since answered w.questions w.next d.state input.Tick w.stands
      (jobs.may_other New part texts since answered w.next d.state input.Tick w.stands tt tt)))

  pub clean_so : (asked : Questions) (n : Net) (e : Emptying) (number count : ℕ) → At n e → Goes asked n (on_clean e number count)
  unfolding on_clean
  clean_so asked n e number count h =
      by_test (Goes asked n) (is_some e.lasting.items.unanswered) (record { state = e; outs = Answers number Busy ∷ [] }) (begin_job e number count)
      (λ _. frames.quiet New part texts since answered asked n e (Answers number Busy ∷ []) h (tt, tt)) (λ _. begins_so asked n e number count h)
