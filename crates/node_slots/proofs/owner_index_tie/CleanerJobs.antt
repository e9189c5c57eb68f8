-- What a job takes is taken in the small world, and then what it says is done.
use Rattle.headline.specs.Filed.{Filed, Texts}
use Rattle.std.proofs.Common.{◌≡◌, ◌≤◌, ◌<◌, ◌==◌, ◌&&◌, ℕ, Bool, true, false, List, [], ◌∷◌, ◌++◌, Option, Some, None, length, set, inl, inr, refl, sym, ap, subst, ◌∙◌, arith}
use Rattle.std.specs.List.{AllByRecursion}
use Rattle.std.proofs.lemmas.Bool.{eqb-true}
use Rattle.std.proofs.lemmas.Bool.Decides.{nat_tests}
use Rattle.std.proofs.lemmas.List.{get_or-set_same, get_or-set_other, length-set}
use Rattle.cleaner_serving.specs.declared.emptying.Emptying.{Emptying}
use Rattle.cleaner_serving.specs.Jobs.{Done, says, takes_in, emptying_take, emptying_clean}
use Rattle.cleaner_job.specs.declared.job.Job.{Job}
use Rattle.group_map.specs.GroupMapState.{GroupMapState}
use Rattle.index_tie.specs.Cleaning.{ReadFor}
use Rattle.index_tie.specs.Net.{Net, Packet, Happens, IsOther, IsInHand, deletes_of, with_job}
use Rattle.index_tie.specs.Net.Happens.{JobTakes, JobReads, JobHearsDead, JobWelcomed}
use Rattle.index_tie.specs.Net.Packet.{AnsweredDead}
use Rattle.index_tie.specs.Net.Runs.{Begun, On}
use Rattle.log_owner.specs.Promised.{epoch_of}
use Rattle.log_protocol.specs.Tables.{In}
use Rattle.node_slots.specs.node_index_tie.Sight.{Questions, held_in}
use Rattle.node_slots.proofs.node_index_tie.Moves.{in_more, in_front}
use Rattle.stripe_cleaner.specs.CleaningState.{CleaningState}
use Rattle.stripe_cleaner.specs.declared.input.In as inputs
use Rattle.stripe_cleaner.specs.declared.input.In.TheVariants as input
use Rattle.stripe_cleaner.specs.declared.output.Out.{Out}
use Rattle.stripe_cleaner.specs.declared.output.Out.TheVariants as out
use Rattle.stripe_cleaner.specs.Promises.{promised_at, promised_with, promised_of, is_above}
use Rattle.stripe_cleaner.specs.Transition as job
use Rattle.xfs_base.proofs.Booleans.{by_test}
use Rattle.segment_format.specs.declared.segment.Segment.{Segment}
use Rattle.xfs_base.specs.declared.block.BlockId.{BlockId}
use Rattle.xfs_base.specs.declared.news.SlotNews.{SlotNews}
use Rattle.xfs_base.specs.declared.segment.SegName.{SegName}
use Rattle.xfs_base.specs.Steps.{still, steps}
use Rattle.node_slots.specs.owner_index_tie.CleanerEvents.{JobSeen, JobAgrees}
use Rattle.node_slots.proofs.owner_index_tie.CleanerFrames as frames
use Rattle.node_slots.proofs.owner_index_tie.CleanerFrames.{Grows, Stands}
use Rattle.node_slots.proofs.owner_index_tie.CleanerSays.{Known, all_said}
use Rattle.node_slots.proofs.owner_index_tie.Feeds.{same_owner}
use Rattle.node_slots.proofs.owner_index_tie.Frames.{more_itself}

-- ---- what is to be deleted

known_in : (deleted : List SegName) (outs : List Out) → ((name : SegName) → In name (deletes_of outs) → In name deleted) → AllByRecursion (Known deleted) outs
known_in deleted [] all = tt
known_in deleted (out.Delete server name ∷ outs) all = (all name (inl refl), known_in deleted outs (λ x fact. all x (inr fact)))
known_in deleted (out.Hello ∷ outs) all = (tt, known_in deleted outs all)
known_in deleted (out.List server ∷ outs) all = (tt, known_in deleted outs all)
known_in deleted (out.UsageAsk slot ∷ outs) all = (tt, known_in deleted outs all)
known_in deleted (out.Fetch seg ∷ outs) all = (tt, known_in deleted outs all)
known_in deleted (out.Check block place ∷ outs) all = (tt, known_in deleted outs all)
known_in deleted (out.Move blocks ∷ outs) all = (tt, known_in deleted outs all)
known_in deleted (out.Finished count ∷ outs) all = (tt, known_in deleted outs all)

-- what a job says to delete is to be deleted there
pub said_known : (n : Net) (d : job.Done) → AllByRecursion (Known (with_job n d).deleted) d.outs
said_known n d = known_in (deletes_of d.outs ++ n.deleted) d.outs (λ name fact. in_front name (deletes_of d.outs) n.deleted fact)

pub grows_job : (n : Net) (d : job.Done) → Grows n (with_job n d)
grows_job n d = record {
  slots = refl;
  epoch = refl;
  horizon = refl;
  parts = refl;
  promised = let p = n.promised in omega arith;
  filed = more_itself n.filed;
  sent = λ x fact. fact;
  deleted = λ name fact. in_more name (deletes_of d.outs) n.deleted fact;
}

-- ---- what it has promised

-- an input that is no promise leaves what a job has promised
abbrev pub IsNoPromise : inputs.In → Type 0
IsNoPromise (input.Welcome slots groups) = ⊥
IsNoPromise (input.Promise slot epoch) = ⊥
IsNoPromise _ = Unit {0}

module _ (s : CleaningState) where
  abbrev Same : job.Done → Type 0
  Same d = d.state.promised ≡ s.promised

  pub same_promises : (i : inputs.In) → IsNoPromise i → Same (job.transition s i)
  unfolding job.on_usage job.on_live job.on_dead
  same_promises (input.Welcome slots groups) h = absurd h
  same_promises (input.Promise slot epoch) h = absurd h
  same_promises (input.Usage slot epoch counts) h = by_test Same _ _ _ (λ _. refl) (λ _. refl)
  same_promises (input.Live block epoch entry) h = by_test Same _ _ _ (λ _. refl) (λ _. refl)
  same_promises (input.Dead block epoch) h = by_test Same _ _ _ (λ _. refl) (λ _. refl)
  same_promises _ h = refl

-- with an epoch of a slot
pub with_length : (promised : List ℕ) (slot epoch : ℕ) → length (promised_with promised slot epoch) ≡ length promised
with_length promised slot epoch = by_test (λ (p : List ℕ). length p ≡ length promised) (is_above promised slot epoch) (set promised slot epoch) promised
    (λ _. length-set promised slot epoch) (λ _. refl)

-- one that is no lower is had then
pub with_here : (promised : List ℕ) (slot epoch : ℕ) → slot < 8 → length promised ≡ 8 → promised_at promised slot ≤ epoch
    → promised_at (promised_with promised slot epoch) slot ≡ epoch
with_here promised slot epoch small eight low =
    by_test (λ (p : List ℕ). promised_at p slot ≡ epoch) (is_above promised slot epoch) (set promised slot epoch) promised
    (λ _. get_or-set_same promised slot epoch 0 (omega arith)) (λ fact. let a = low in grind (arith, nat_tests, a, fact, small))

pub with_other : (promised : List ℕ) (slot epoch k : ℕ) → (slot ≡ k → ⊥) → promised_at (promised_with promised slot epoch) k ≡ promised_at promised k
with_other promised slot epoch k other =
    by_test (λ (p : List ℕ). promised_at p k ≡ promised_at promised k) (is_above promised slot epoch) (set promised slot epoch) promised
    (λ _. get_or-set_other promised slot k epoch 0 (λ same. other (sym same))) (λ _. refl)

-- one that is no higher changes nothing
pub with_lower : (promised : List ℕ) (slot epoch : ℕ) → epoch ≤ promised_at promised slot → promised_with promised slot epoch ≡ promised
with_lower promised slot epoch low =
    by_test (λ (p : List ℕ). p ≡ promised) (is_above promised slot epoch) (set promised slot epoch) promised
    (λ fact. absurd (let a = low in grind (arith, nat_tests, a, fact))) (λ _. refl)

module _ (part : ℕ) where
  -- news of slots of which none of this one is higher
  abbrev pub NoHigher : ℕ → List SlotNews → Type 0
  NoHigher limit slots = AllByRecursion (λ (news : SlotNews). news.slot ≡ part → news.epoch ≤ limit) slots

  with_news : (promised : List ℕ) (news : SlotNews) → (news.slot ≡ part → news.epoch ≤ promised_at promised part)
      → promised_at (promised_with promised news.slot news.epoch) part ≡ promised_at promised part
  with_news promised news low = by (news.slot == part) refl
    where
      at : (news.slot == part) ≡ true → news.slot ≡ part
      at fact = eqb-true news.slot part fact

      other : (news.slot == part) ≡ false → news.slot ≡ part → ⊥
      other fact same = let s = same in grind (arith, nat_tests, s, fact)

      by : (t : Bool) → (news.slot == part) ≡ t → promised_at (promised_with promised news.slot news.epoch) part ≡ promised_at promised part
      by true fact = ap (λ p. promised_at p part)
          (with_lower promised news.slot news.epoch (subst (λ k. news.epoch ≤ promised_at promised k) (sym (at fact)) (low (at fact))))
      by false fact = with_other promised news.slot news.epoch part (other fact)

  pub of_news : (slots : List SlotNews) (promised : List ℕ) → NoHigher (promised_at promised part) slots
      → promised_at (promised_of slots promised) part ≡ promised_at promised part
  of_news [] promised low = refl
  of_news (news ∷ slots) promised low =
      let first = with_news promised news low.0 in
      of_news slots (promised_with promised news.slot news.epoch) (subst (λ e. NoHigher e slots) (sym first) low.1) ∙ first

pub of_length : (slots : List SlotNews) (promised : List ℕ) → length (promised_of slots promised) ≡ length promised
of_length [] promised = refl
of_length (news ∷ slots) promised = of_length slots (promised_with promised news.slot news.epoch) ∙ with_length promised news.slot news.epoch

-- ---- what it takes

module _ (New : Filed → Segment → Type 0) (part : ℕ) (texts : Texts) (since : ℕ) (answered : List Packet) where
  abbrev At : Net → Emptying → Type 0
  At n e = Stands New part texts since answered n e.log e.feed e.promised e.job

  abbrev Goes : Questions → Net → Done → Type 0
  Goes asked n d = frames.Goes New part texts since answered asked n d

  -- the job goes on in the small world
  abbrev pub rejobbed : Emptying → Job → job.Done → Emptying
  rejobbed e j d = record e { job = Some (record j { cleaning = d.state }) }

  -- what is taken there, and that the job is seen then
  pub record Takes (n : Net) (epoch : ℕ) (d : job.Done) : Type 0 where
    pub happens : Happens part (held_in part texts) n (with_job n d)
    pub seen : JobSeen part (with_job n d) epoch d.state

  taken : (asked : Questions) (n : Net) (e : Emptying) (j : Job) (d : job.Done) → At n e → Takes n (epoch_of e.promised part) d
      → Goes asked n (steps says (rejobbed e j d) d.outs)
  taken asked n e j d h t =
      let m = with_job n d in
      frames.went_after New part texts since answered At asked asked n m (steps says (rejobbed e j d) d.outs) (On Begun t.happens) (grows_job n d) refl
      (λ x fact. fact)
      (all_said New part texts since answered asked m (rejobbed e j d) d.outs (said_known n d)
      (record {
        late = h.late;
        heard = h.heard;
        seen = record {
          owner = same_owner part n m 9 9 e.log e.feed (record { head = refl; segment = λ q some limit. refl }) h.seen.owner;
          eight = h.seen.eight;
          promised = h.seen.promised;
          job = t.seen;
        };
      }))

  -- an input that is taken, if there is a job
  abbrev pub May : Net → Emptying → inputs.In → Type 0
  May n e i = (j : Job) → e.job ≡ Some j → Takes n (epoch_of e.promised part) (job.transition j.cleaning i)

  pub emptying_clean_so : (asked : Questions) (n : Net) (e : Emptying) (i : inputs.In) → At n e → May n e i → Goes asked n (emptying_clean e i)
  unfolding emptying_clean emptying_take
  emptying_clean_so asked n e i h may = by e.job refl
    where
      by : (o : Option Job) → e.job ≡ o → Goes asked n (steps says (takes_in e o i).state (takes_in e o i).outs)
      by None same = frames.quiet New part texts since answered asked n e [] h tt
      by (Some j) same = taken asked n e j (job.transition j.cleaning i) h (may j same)

  -- ---- inputs

  its : (n : Net) (e : Emptying) (j : Job) → At n e → e.job ≡ Some j → JobSeen part n (epoch_of e.promised part) j.cleaning
  its n e j h same = subst (JobAgrees part n (epoch_of e.promised part)) same h.seen.job

  -- an input of which the small world asks no more
  pub may_other : (n : Net) (e : Emptying) (i : inputs.In) → At n e → IsNoPromise i → IsOther part i → May n e i
  may_other n e i h calm other j same =
      let k = its n e j h same in
      let kept = same_promises j.cleaning i calm in
      record {
        happens = subst (λ s. Happens part (held_in part texts) n (with_job n (job.transition s i))) k.same_job (JobTakes i other);
        seen = record { same_job = refl; eight = ap length kept ∙ k.eight; told = ap (λ p. promised_at p part) kept ∙ k.told };
      }

  -- a segment that is read
  pub may_read : (n : Net) (e : Emptying) (read : Option Segment) → At n e → ReadFor n.filed read n.job.phase → May n e (input.Read read)
  may_read n e read h owed j same =
      let k = its n e j h same in
      record {
        happens = subst (λ s. Happens part (held_in part texts) n (with_job n (job.transition s (input.Read read)))) k.same_job (JobReads read owed);
        seen = record { same_job = refl; eight = k.eight; told = k.told };
      }

  -- a Dead of the slot
  pub may_dead : (n : Net) (e : Emptying) (number : ℕ) (block : BlockId) (epoch : ℕ) (name : SegName) (below : ℕ) → At n e
      → In (AnsweredDead number block name below epoch) n.sent
      → IsInHand name n.job.phase → May n e (input.Dead block epoch)
  may_dead n e number block epoch name below h sent hand j same =
      let k = its n e j h same in
      let kept = same_promises j.cleaning (input.Dead block epoch) tt in
      record {
        happens = subst (λ s. Happens part (held_in part texts) n (with_job n (job.transition s (input.Dead block epoch)))) k.same_job
            (JobHearsDead number block epoch name below sent hand);
        seen = record { same_job = refl; eight = ap length kept ∙ k.eight; told = ap (λ p. promised_at p part) kept ∙ k.told };
      }

  -- the Welcome, whose news are not above what is promised
  welcome_promises : (s : CleaningState) (slots : List SlotNews) (groups : GroupMapState) → NoHigher part (promised_at s.promised part) slots
      → (length (job.transition s (input.Welcome slots groups)).state.promised ≡ length s.promised)
      × (promised_at (job.transition s (input.Welcome slots groups)).state.promised part ≡ promised_at s.promised part)
  unfolding job.on_welcome
  welcome_promises s slots groups low =
      by_test (λ (d : job.Done). (length d.state.promised ≡ length s.promised) × (promised_at d.state.promised part ≡ promised_at s.promised part))
      (job.is_greeting s.phase && (length slots == 8)) (job.welcomed s slots groups) (still s)
      (λ _. (of_length slots s.promised, of_news part slots s.promised low)) (λ _. (refl, refl))

  pub may_welcome : (n : Net) (e : Emptying) (slots : List SlotNews) (groups : GroupMapState) → At n e → NoHigher part (epoch_of e.promised part) slots
      → May n e (input.Welcome slots groups)
  may_welcome n e slots groups h low j same =
      let k = its n e j h same in
      let i = input.Welcome slots groups in
      let w = welcome_promises j.cleaning slots groups (subst (λ m. NoHigher part m slots) (sym k.told) low) in
      let d = job.transition j.cleaning i in
      let after_it : promised_at d.state.promised part ≡ n.promised = w.1 ∙ k.told ∙ sym h.seen.promised in
      record {
        happens = subst (λ p. Happens part (held_in part texts) n (record (with_job n d) { promised = p })) after_it
            (subst (λ s. n.promised ≤ promised_at (job.transition s i).state.promised part
            → Happens part (held_in part texts) n
            (record (with_job n (job.transition s i)) { promised = promised_at (job.transition s i).state.promised part })) k.same_job
            (λ low. JobWelcomed slots groups low) (omega arith));
        seen = record { same_job = refl; eight = w.0 ∙ k.eight; told = w.1 ∙ k.told };
      }
