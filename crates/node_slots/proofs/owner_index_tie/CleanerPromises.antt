-- What the cleaner promises is promised in the small world, by its job where it has one.
use Rattle.segment_format.specs.declared.segment.Segment.{Segment}
use Rattle.std.proofs.Common.{◌≡◌, ◌≤◌, ◌<◌, ◌==◌, ℕ, Bool, true, false, List, [], ◌∷◌, inl, inr, Option, Some, None, length, nat_lt, refl, sym, ap, subst, ◌∙◌, arith}
use Rattle.std.proofs.lemmas.Bool.{eqb-true}
use Rattle.std.proofs.lemmas.Bool.Decides.{nat_tests}
use Rattle.cleaner_serving.specs.declared.emptying.Emptying.{Emptying}
use Rattle.cleaner_serving.specs.EmptyingEvents.{emptying_promise}
use Rattle.cleaner_serving.specs.Jobs.{Done, says, takes_in, emptying_take, emptying_clean}
use Rattle.cleaner_job.specs.declared.job.Job.{Job}
use Rattle.delta_feed.specs.Transition.{new_epoch}
use Rattle.headline.specs.Filed.{Filed, Texts}
use Rattle.index_tie.specs.Net.{Net, Packet, Happens, Runs, with_job, with_packet}
use Rattle.index_tie.specs.Net.Packet.{CleanerReported}
use Rattle.index_tie.specs.Takeovers.{Linked}
use Rattle.headline.specs.Indexes.{of_log}
use Rattle.index_tie.specs.Net.Happens.{Promises, JobPromises, JobTakes, Reports}
use Rattle.index_tie.specs.Net.Runs.{Begun, On}
use Rattle.log_owner.specs.Promised.{epoch_of, promise_to}
use Rattle.node_slots.specs.node_index_tie.Sight.{Questions, held_in}
use Rattle.node_slots.proofs.node_index_tie.Owners.{feeds_stay}
use Rattle.stripe_cleaner.specs.declared.input.In.TheVariants as input
use Rattle.stripe_cleaner.specs.Promises.{promised_at}
use Rattle.stripe_cleaner.specs.Transition as job
use Rattle.node_base.specs.declared.effects.Effect.{Effect}
use Rattle.node_base.specs.declared.effects.Effect.TheVariants.{Send}
use Rattle.wire_msg.specs.declared.body.Body.TheVariants as body
use Rattle.xfs_base.proofs.Booleans.{by_test}
use Rattle.xfs_base.specs.declared.node.NodeId.TheVariants.{Manager}
use Rattle.xfs_base.specs.Steps.{still, saying, steps}
use Rattle.node_slots.specs.owner_index_tie.CleanerEvents.{JobSeen, JobAgrees}
use Rattle.node_slots.specs.owner_index_tie.Owners.{OwnerSeen}
use Rattle.node_slots.proofs.owner_index_tie.CleanerEpochs.{promise_is, to_length, to_here, to_other}
use Rattle.node_slots.proofs.owner_index_tie.CleanerFrames as frames
use Rattle.node_slots.proofs.owner_index_tie.CleanerFrames.{Grows, Stands}
use Rattle.node_slots.proofs.owner_index_tie.CleanerJobs as jobs
use Rattle.node_slots.proofs.owner_index_tie.CleanerSays.{all_said}
use Rattle.node_slots.proofs.owner_index_tie.Feeds.{same_owner}
use Rattle.node_slots.proofs.owner_index_tie.Frames.{more_itself}
use Rattle.node_slots.proofs.owner_index_tie.Standing as Standing

module _ (New : Filed → Segment → Type 0) (part : ℕ) (texts : Texts) (since : ℕ) (answered : List Packet) (small : part < 8) where
  abbrev At : Net → Emptying → Type 0
  At n e = Stands New part texts since answered n e.log e.feed e.promised e.job

  abbrev Goes : Questions → Net → Done → Type 0
  Goes asked n d = frames.Goes New part texts since answered asked n d

  -- the owner, in a small world where the same is filed
  same_files : (n m : Net) (e : Emptying) → m.filed ≡ n.filed → OwnerSeen part n 9 9 e.log e.feed → OwnerSeen part m 9 9 e.log e.feed
  same_files n m e same k = same_owner part n m 9 9 e.log e.feed
      (record { head = ap (λ f. f.head 9) same; segment = λ q some limit. ap (λ f. f.segment 9 q) same }) k

  -- ---- an epoch of the slot

  module _ (asked : Questions) (n : Net) (e : Emptying) (h : At n e) (epoch manager : ℕ) (low : epoch_of e.promised part ≤ epoch) where
    abbrev kept : Emptying
    kept = record e { promised = promise_to e.promised part epoch manager }

    now : epoch_of kept.promised part ≡ epoch
    now = to_here e.promised part epoch manager small h.seen.eight

    -- where no job has promised one
    abbrev alone : Net
    alone = record n { promised = epoch }

    -- the small world has gone on to one that has promised it, and is so but for packets
    pub record HasPromised (m : Net) (o : Option Job) : Type 0 where
      pub runs : Runs part (held_in part texts) n m
      pub grows : Grows n m
      pub filed : m.filed ≡ n.filed
      pub promised : m.promised ≡ epoch
      pub job : JobAgrees part m epoch o

    kept_at : (m : Net) (o : Option Job) → HasPromised m o → Stands New part texts since answered m e.log e.feed kept.promised o
    kept_at m o k = record {
      late = let a = h.late in let b = ap (λ (f : Filed). f.head 9) k.filed in omega arith;
      heard = λ x fact. k.grows.sent x (h.heard x fact);
      seen = record {
        owner = same_files n m e k.filed h.seen.owner;
        eight = to_length e.promised part epoch manager h.seen.eight;
        promised = k.promised ∙ sym now;
        job = subst (λ x. JobAgrees part m x o) (sym now) k.job;
      };
    }

    -- it stands so, and has promised no less
    abbrev pub Up : Net → Emptying → Type 0
    Up v s = At v s × (epoch ≤ v.promised)

    ups : (m : Net) (d : Done) → Grows n m → m.promised ≡ epoch → Runs part (held_in part texts) n m → m.filed ≡ n.filed → Goes asked m d
        → frames.Goes_to New part texts since answered Up asked n d
    ups m d grows fact runs same goes =
        frames.went_after New part texts since answered Up asked asked n m d runs grows same (λ x there. there) (
          λ owed. let w = goes.0 owed in record {
            next = w.next;
            runs = w.runs;
            grows = w.grows;
            filed = w.filed;
            questions = w.questions;
            kept = w.kept;
            stands = (w.stands, let a = w.grows.promised in omega arith);
            says = w.says;
          },
          goes.1,
        )

    promised_alone : e.job ≡ None → HasPromised alone None
    promised_alone none =
        let k = subst (JobAgrees part n (epoch_of e.promised part)) none h.seen.job in
        record {
          runs = On Begun (Promises epoch (let a = h.seen.promised in omega arith) k);
          grows = record {
            slots = refl;
            epoch = refl;
            horizon = refl;
            parts = refl;
            promised = let a = h.seen.promised in omega arith;
            filed = more_itself n.filed;
            sent = λ x fact. fact;
            deleted = λ name fact. fact;
          };
          filed = refl;
          promised = refl;
          job = k;
        }

    module _ (j : Job) (same : e.job ≡ Some j) where
      abbrev d : job.Done
      d = job.transition j.cleaning (input.Promise part epoch)

      abbrev told : Net
      told = record (with_job n d) { promised = promised_at d.state.promised part }

      its : JobSeen part n (epoch_of e.promised part) j.cleaning
      its = subst (JobAgrees part n (epoch_of e.promised part)) same h.seen.job

      promised_now : promised_at d.state.promised part ≡ epoch
      promised_now = ap (λ p. promised_at p part) (promise_is j.cleaning part epoch)
          ∙ jobs.with_here j.cleaning.promised part epoch small its.eight (let a = its.told in omega arith)

      promised_told : HasPromised told (Some (record j { cleaning = d.state }))
      promised_told = (let g = jobs.grows_job n d in record {
        runs = On Begun (subst (λ s. n.promised ≤ promised_at (job.transition s (input.Promise part epoch)).state.promised part
            → Happens part (held_in part texts) n
            (record (with_job n (job.transition s (input.Promise part epoch))) {
              promised = promised_at
                  (job.transition s (input.Promise part epoch)).state.promised part;
            }))
            its.same_job (λ low. JobPromises epoch low) (let a = h.seen.promised in let b = promised_now in omega arith));
        grows = record {
          slots = refl;
          epoch = refl;
          horizon = refl;
          parts = refl;
          promised = let a = h.seen.promised in let b = promised_now in omega arith;
          filed = more_itself n.filed;
          sent = λ x fact. fact;
          deleted = g.deleted;
        };
        filed = refl;
        promised = promised_now;
        job = record {
          same_job = refl;
          eight = ap length (promise_is j.cleaning part epoch) ∙ jobs.with_length j.cleaning.promised part epoch
              ∙ its.eight;
          told = promised_now;
        };
      })

    pub of_slot : frames.Goes_to New part texts since answered Up asked n (emptying_clean kept (input.Promise part epoch))
    unfolding emptying_clean emptying_take
    of_slot = by e.job refl
      where
        by : (o : Option Job) → e.job ≡ o
            → frames.Goes_to New part texts since answered Up asked n
            (steps says (takes_in kept o (input.Promise part epoch)).state (takes_in kept o (input.Promise part epoch)).outs)
        by None same =
            let k = promised_alone same in
            ups alone (still kept) k.grows k.promised k.runs k.filed
            (frames.quiet New part texts since answered asked alone kept []
            (subst (Stands New part texts since answered alone e.log e.feed kept.promised) (sym same) (kept_at alone None k)) tt)
        by (Some j) same =
            let k = promised_told j same in
            let m = told j same in
            let r = jobs.rejobbed New part texts since answered kept j (d j same) in
            ups m (steps says r (d j same).outs) k.grows k.promised k.runs k.filed
            (all_said New part texts since answered asked m r (d j same).outs (jobs.said_known n (d j same)) (kept_at m r.job k))

    -- ---- a Report of it

    -- it is sent where the epoch is promised
    abbrev reporting : Net → Net
    reporting m = with_packet m (CleanerReported m.promised (m.filed.head 9))

    reported : (m : Net) (o : Option Job) → HasPromised m o → HasPromised (reporting m) o
    reported m o k = record {
      runs = On k.runs Reports;
      grows = record {
        slots = k.grows.slots;
        epoch = k.grows.epoch;
        horizon = k.grows.horizon;
        parts = k.grows.parts;
        promised = k.grows.promised;
        filed = k.grows.filed;
        sent = λ x fact. inr (k.grows.sent x fact);
        deleted = k.grows.deleted;
      };
      filed = k.filed;
      promised = k.promised;
      job = frames.same_job part m (reporting m) epoch o refl k.job;
    }

    module _ (linked : 0 < of_log (n.horizon epoch) 9 → Linked n.filed 9 (of_log (n.horizon epoch) 9) (n.filed.head 9)) where
      abbrev report : Effect
      report = Send (Manager manager) (body.Report (record { slot = part; epoch = epoch; held = []; end = kept.log.end }))

      report_plain : (m : Net) (o : Option Job) → HasPromised m o → frames.Plain New part texts since answered asked (reporting m) report
      report_plain m o k =
          let v = reporting m in
          let at = kept_at v o (reported m o k) in
          let s : Standing.Stands part v 9 since v.filed 9 e.log e.feed = record { late = at.late; seen = at.seen.owner } in
          let links : 0 < of_log (v.horizon epoch) 9 → Linked v.filed 9 (of_log (v.horizon epoch) 9) (v.filed.head 9) =
          subst (λ f. 0 < of_log (v.horizon epoch) 9 → Linked f 9 (of_log (v.horizon epoch) 9) (f.head 9)) (sym k.filed)
          (subst (λ hs. 0 < of_log (hs epoch) 9 → Linked n.filed 9 (of_log (hs epoch) 9) (n.filed.head 9)) (sym k.grows.horizon) linked) in (
            (λ inside. Standing.end_known part v 9 since v.filed 9 e.log e.feed s epoch links, Standing.end_told part v 9 since v.filed 9 e.log e.feed s),
            λ inside. inl (sym (ap (λ x. CleanerReported x (m.filed.head 9)) k.promised ∙ ap (CleanerReported epoch)
                (ap (λ (f : Filed). f.head 9) k.filed ∙ sym h.seen.owner.end.seq))),
          )

      pub of_poll : frames.Goes_to New part texts since answered Up asked n (saying (report ∷ []) (emptying_clean kept (input.Promise part epoch)))
      unfolding emptying_clean emptying_take
      of_poll = by e.job refl
        where
          by : (o : Option Job) → e.job ≡ o
              → frames.Goes_to New part texts since answered Up asked n
              (saying (report ∷ []) (steps says (takes_in kept o (input.Promise part epoch)).state (takes_in kept o (input.Promise part epoch)).outs))
          by None same =
              let k = reported alone None (promised_alone same) in
              let v = reporting alone in
              ups v (saying (report ∷ []) (still kept)) k.grows k.promised k.runs k.filed
              (frames.quiet New part texts since answered asked v kept (report ∷ [])
              (subst (Stands New part texts since answered v e.log e.feed kept.promised) (sym same) (kept_at v None k))
              (report_plain alone None (promised_alone same), tt))
          by (Some j) same =
              let p = promised_told j same in
              let m = told j same in
              let r = jobs.rejobbed New part texts since answered kept j (d j same) in
              let k = reported m r.job p in
              let v = reporting m in
              ups v (saying (report ∷ []) (steps says r (d j same).outs)) k.grows k.promised k.runs k.filed
              (frames.went_behind New part texts since answered asked v (report ∷ []) (steps says r (d j same).outs) (report_plain m r.job p, tt)
              (all_said New part texts since answered asked v r (d j same).outs (jobs.said_known n (d j same)) (kept_at v r.job k)))

  -- ---- an epoch of another slot

  module _ (asked : Questions) (n : Net) (e : Emptying) (h : At n e) (slot epoch manager : ℕ) (other : slot ≡ part → ⊥) where
    abbrev others : Emptying
    others = record e { promised = promise_to e.promised slot epoch manager }

    unchanged : epoch_of others.promised part ≡ epoch_of e.promised part
    unchanged = to_other e.promised slot epoch manager part other

    still_at : At n others
    still_at = record {
      late = h.late;
      heard = h.heard;
      seen = record {
        owner = h.seen.owner;
        eight = to_length e.promised slot epoch manager h.seen.eight;
        promised = h.seen.promised ∙ sym unchanged;
        job = subst (λ x. JobAgrees part n x e.job) (sym unchanged) h.seen.job;
      };
    }

    may_promise : jobs.May New part texts since answered n others (input.Promise slot epoch)
    may_promise j same =
        let k = subst (JobAgrees part n (epoch_of others.promised part)) same still_at.seen.job in
        let fact = promise_is j.cleaning slot epoch in
        record {
          happens = subst (λ s. Happens part (held_in part texts) n (with_job n (job.transition s (input.Promise slot epoch)))) k.same_job
              (JobTakes (input.Promise slot epoch) other);
          seen = record {
            same_job = refl;
            eight = ap length fact ∙ jobs.with_length j.cleaning.promised slot epoch ∙ k.eight;
            told = ap (λ p. promised_at p part) fact ∙ jobs.with_other j.cleaning.promised slot epoch part other ∙ k.told;
          };
        }

    of_other : Goes asked n (emptying_clean others (input.Promise slot epoch))
    of_other = jobs.emptying_clean_so New part texts since answered asked n others (input.Promise slot epoch) still_at may_promise

  -- ---- any slot

  -- another feed, that is seen too
  refed : (n : Net) (e : Emptying) (slot : ℕ) → At n e → At n (record e { feed = new_epoch e.feed slot })
  refed n e slot h = record {
    late = h.late;
    heard = h.heard;
    seen = record {
      owner = record { number_is = refl; log = h.seen.owner.log; end = h.seen.owner.end; feed = (feeds_stay part n 9 e.feed h.seen.owner.feed).epochs slot };
      eight = h.seen.eight;
      promised = h.seen.promised;
      job = h.seen.job;
    };
  }

  -- it stands so, and of the slot it has promised no less
  abbrev pub UpTo : ℕ → ℕ → Net → Emptying → Type 0
  UpTo slot epoch v s = At v s × (slot ≡ part → epoch ≤ v.promised)

  pub weaker : {P Q : Net → Emptying → Type 0} → ((v : Net) (s : Emptying) → P v s → Q v s) → (asked : Questions) (n : Net) (d : Done)
      → frames.Goes_to New part texts since answered P asked n d → frames.Goes_to New part texts since answered Q asked n d
  weaker to asked n d goes = (
    λ owed. (let w = goes.0 owed in record {
      next = w.next;
      runs = w.runs;
      grows = w.grows;
      filed = w.filed;
      questions = w.questions;
      kept = w.kept;
      stands = to w.next d.state w.stands;
      says = w.says;
    }),
    goes.1,
  )

  module _ (asked : Questions) (n : Net) (slot epoch manager : ℕ) where
    at_slot : (slot == part) ≡ true → slot ≡ part
    at_slot fact = eqb-true slot part fact

    at_other : (slot == part) ≡ false → slot ≡ part → ⊥
    at_other fact same = let s = same in grind (arith, nat_tests, s, fact)

    any_slot : (e : Emptying) → At n e → (slot ≡ part → epoch_of e.promised part ≤ epoch)
        → frames.Goes_to New part texts since answered (UpTo slot epoch) asked n
        (emptying_clean (record e { promised = promise_to e.promised slot epoch manager }) (input.Promise slot epoch))
    any_slot e h low = by (slot == part) refl
      where
        by : (t : Bool) → (slot == part) ≡ t
            → frames.Goes_to New part texts since answered (UpTo slot epoch) asked n
            (emptying_clean (record e { promised = promise_to e.promised slot epoch manager }) (input.Promise slot epoch))
        by true fact = subst (λ k. frames.Goes_to New part texts since answered (UpTo k epoch) asked n
            (emptying_clean (record e { promised = promise_to e.promised k epoch manager }) (input.Promise k epoch)))
            (sym (at_slot fact))
            (weaker (λ v s u. (u.0, λ same. u.1)) asked n
            (emptying_clean (record e { promised = promise_to e.promised part epoch manager }) (input.Promise part epoch))
            (of_slot asked n e h epoch manager (low (at_slot fact))))
        by false fact = weaker (λ v s u. (u, λ same. absurd (at_other fact same))) asked n
            (emptying_clean (record e { promised = promise_to e.promised slot epoch manager }) (input.Promise slot epoch))
            (of_other asked n e h slot epoch manager (at_other fact))

    -- a slot is promised to an epoch of a manager
    pub promised_so : (e : Emptying) → At n e → (slot ≡ part → epoch_of e.promised part ≤ epoch)
        → frames.Goes_to New part texts since answered (UpTo slot epoch) asked n (emptying_clean (emptying_promise e slot epoch manager) (input.Promise slot epoch))
    unfolding emptying_promise
    promised_so e h low =
        by_test (λ (r : Emptying). frames.Goes_to New part texts since answered (UpTo slot epoch) asked n
        (emptying_clean (record r { promised = promise_to r.promised slot epoch manager }) (input.Promise slot epoch)))
        (nat_lt (epoch_of e.promised slot) epoch) (record e { feed = new_epoch e.feed slot }) e
        (λ _. any_slot (record e { feed = new_epoch e.feed slot }) (refed n e slot h) low) (λ _. any_slot e h low)

    -- and that is reported to it
    abbrev its_report : Emptying → Effect
    its_report e = Send (Manager manager) (body.Report (record { slot = slot; epoch = epoch; held = []; end = e.log.end }))

    other_report : (e : Emptying) → At n e → (slot ≡ part → ⊥) → frames.Plain New part texts since answered asked n (its_report e)
    other_report e h other =
        let s : Standing.Stands part n 9 since n.filed 9 e.log e.feed = record { late = h.late; seen = h.seen.owner } in
        ((λ inside. absurd (other inside), Standing.end_told part n 9 since n.filed 9 e.log e.feed s), λ inside. absurd (other inside))

    polled_from : (e : Emptying) → At n e → (slot ≡ part → epoch_of e.promised part ≤ epoch)
        → (slot ≡ part → 0 < of_log (n.horizon epoch) 9 → Linked n.filed 9 (of_log (n.horizon epoch) 9) (n.filed.head 9))
        → Goes asked n (saying (its_report e ∷ []) (emptying_clean (record e { promised = promise_to e.promised slot epoch manager }) (input.Promise slot epoch)))
    polled_from e h low linked = by (slot == part) refl
      where
        by : (t : Bool) → (slot == part) ≡ t
            → Goes asked n (saying (its_report e ∷ []) (emptying_clean (record e { promised = promise_to e.promised slot epoch manager }) (input.Promise slot epoch)))
        by true fact = subst (λ k. Goes asked n
            (saying (Send (Manager manager) (body.Report (record { slot = k; epoch = epoch; held = []; end = e.log.end })) ∷ [])
            (emptying_clean (record e { promised = promise_to e.promised k epoch manager }) (input.Promise k epoch)))) (sym (at_slot fact))
            (weaker (λ v s u. u.0) asked n _ (of_poll asked n e h epoch manager (low (at_slot fact)) (linked (at_slot fact))))
        by false fact = frames.went_behind New part texts since answered asked n (its_report e ∷ [])
            (emptying_clean (record e { promised = promise_to e.promised slot epoch manager }) (input.Promise slot epoch))
            (other_report e h (at_other fact), tt) (of_other asked n e h slot epoch manager (at_other fact))

    pub polled_so : (e : Emptying) → At n e → (slot ≡ part → epoch_of e.promised part ≤ epoch)
        → (slot ≡ part → 0 < of_log (n.horizon epoch) 9 → Linked n.filed 9 (of_log (n.horizon epoch) 9) (n.filed.head 9))
        → Goes asked n (saying (its_report (emptying_promise e slot epoch manager) ∷ []) (emptying_clean (emptying_promise e slot epoch manager) (input.Promise slot epoch)))
    unfolding emptying_promise
    polled_so e h low linked =
        by_test (λ (r : Emptying). Goes asked n
        (saying (its_report r ∷ []) (emptying_clean (record r { promised = promise_to r.promised slot epoch manager }) (input.Promise slot epoch))))
        (nat_lt (epoch_of e.promised slot) epoch) (record e { feed = new_epoch e.feed slot }) e
        (λ _. polled_from (record e { feed = new_epoch e.feed slot }) (refed n e slot h) low linked) (λ _. polled_from e h low linked)
