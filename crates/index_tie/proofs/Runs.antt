-- The small world is seen at its start, so it is always, and its laws follow.
use Rattle.std.proofs.Common.{◌≡◌, ℕ, zero, suc, ◌-◌, ◌<◌, ◌≤◌, get_or, inl, inr, List, [], ◌∷◌, Option, Some, None, refl, sym, ap, subst, ◌∙◌, arith}
use Rattle.std.specs.List.{AllByRecursion}
use Rattle.xfs_base.specs.declared.block.BlockId.{BlockId}
use Rattle.xfs_base.specs.declared.entry.Entry.{Entry}
use Rattle.xfs_base.specs.declared.segment.SegName.{SegName}
use Rattle.xfs_base.specs.declared.segment.SegRef.{SegRef}
use Rattle.xfs_base.specs.Limits.{block_logs}
use Rattle.xfs_base.specs.Logs.{cleaners_number}
use Rattle.segment_format.specs.declared.segment.Segment.{Segment}
use Rattle.checkpoint.specs.WriterState.{Rows}
use Rattle.delta_index.specs.Entries.{no_entry}
use Rattle.delta_index.specs.Join.{join}
use Rattle.slot_beliefs.specs.Recalls.{applied_of}
use Rattle.token_manager.specs.SlotState.{SlotState}
use Rattle.token_manager.specs.Transition.{slot_start}
use Rattle.log_protocol.specs.Tables.{In}
use Rattle.log_protocol.specs.IndexState.{IndexState, Joins, new_block}
use Rattle.log_protocol.specs.IndexState as index
use Rattle.log_protocol.specs.IndexSteps.{activates}
use Rattle.log_protocol.specs.IndexSteps.IndexSteps.{Done as Ended, More}
use Rattle.log_protocol.specs.IndexSteps.IndexStep.{Activates as Activate}
use Rattle.log_protocol.proofs.IndexInduction.{index_in_bounds_always, dead_stays_always}
use Rattle.index_tie.specs.Filed.{Tells}
use Rattle.headline.specs.Filed.{Filed, row_at}
use Rattle.index_tie.specs.Slots.{Manages}
use Rattle.index_tie.specs.Takeovers.{below}
use Rattle.index_tie.specs.Cleaning.{IsDropped}
use Rattle.index_tie.specs.Net.{Net, Happens, Runs, opening, ones, zeros}
use Rattle.index_tie.specs.Net.Happens.{ClientFiles, CleanerFiles, GetsDeltas, GetsOther, Answers, Plans, Cleans, Checkpoints, Keeps, Moves, Activates, Promises, JobPromises, JobWelcomed, Reports, JobBegins, JobReads, Asks, JobHearsDead, JobTakes}
use Rattle.index_tie.specs.Net.Packet.{CheckpointDone}
use Rattle.index_tie.specs.Net.Runs.{Begun, On}
use Rattle.index_tie.specs.NetLaws.{Moment, EachIndexIsTheJoin, ManagersCoverTheirHorizon, NewestIsNeverDeleted, ReigningIsOutdated, CheckpointsHaveManagers}
use Rattle.index_tie.proofs.JobsStay.{jobs_begin}
use Rattle.index_tie.proofs.Events.{some_is, some_none, gets_deltas, gets_other, client_files, cleaner_files_one}
use Rattle.index_tie.proofs.Jobs.{job_takes, job_reads, job_hears_dead, job_promises, job_welcomed, cleaner_promises, job_begins}
use Rattle.index_tie.proofs.Laws.{indexes_are_joins, newest_is_kept, dropped_is_outdated}
use Rattle.index_tie.proofs.Registry.{answers, plans, cleans, checkpoints, reports, asks, keeps, moves_on, takes_over}
use Rattle.index_tie.proofs.Rows.{by_filed, names_nothing}
use Rattle.index_tie.proofs.Takeovers.{by_log, of_log_in, of_log_out}
use Rattle.index_tie.proofs.Tables.{put_each, at_other}
use Rattle.index_tie.proofs.Views.{View, Sound, Good, found}

-- ---- each thing that happens

keeps_good : (part : ℕ) (holds : SegRef → Rows) (n m : Net) → Happens part holds n m → Good part holds n → Good part holds m
keeps_good part holds n m (ClientFiles l s some less fact newer) g = client_files part holds n l s g some less fact newer
keeps_good part holds n m (CleanerFiles s fact copies) g = cleaner_files_one part holds n s g fact copies
keeps_good part holds n m (GetsDeltas e s log first upto rows at known tell) g = gets_deltas part holds n e s log first upto rows g at known tell
keeps_good part holds n m (GetsOther e s i at of) g = gets_other part holds n e s i g at of
keeps_good part holds n m (Answers e s number b place d at asked) g = answers part holds n e s number b place d g at asked
keeps_good part holds n m (Plans e s events horizon at pages all next) g = plans part holds n e s events horizon g at pages all next
keeps_good part holds n m (Cleans e s at) g = cleans part holds n e s g at
keeps_good part holds n m (Checkpoints e events horizon segments planned laid) g = checkpoints part holds n e events horizon segments g planned laid
keeps_good part holds n m (Keeps horizon parts done rises) g = keeps part holds n horizon parts g done rises
keeps_good part holds n m Moves g = moves_on part holds n g
keeps_good part holds n m (Activates e news groups clients inputs input rows beliefs applied none some begun hands has) g =
    takes_over part holds n e news groups clients inputs input rows beliefs applied g none some begun hands has
keeps_good part holds n m (Promises e rises none) g = cleaner_promises part holds n e g rises none
keeps_good part holds n m (JobPromises e rises) g = job_promises part holds n e g rises
keeps_good part holds n m (JobWelcomed slots groups rises) g = job_welcomed part holds n slots groups g rises
keeps_good part holds n m Reports g = reports part holds n g
keeps_good part holds n m (JobBegins count) g = job_begins part holds n count g
keeps_good part holds n m (JobReads read owes) g = job_reads part holds n read g owes
keeps_good part holds n m (Asks b place d promised within below_ lies) g = asks part holds n b place d g promised within below_ lies
keeps_good part holds n m (JobHearsDead number b epoch name d answered hand) g = job_hears_dead part holds n number b epoch name d g answered hand
keeps_good part holds n m (JobTakes i other) g = job_takes part holds n i g other

runs_good : (part : ℕ) (holds : SegRef → Rows) (n m : Net) → Runs part holds n m → Good part holds n → Good part holds m
runs_good part holds n m Begun g = g
runs_good part holds n m (On {m = x} run last) g = keeps_good part holds x m last (runs_good part holds n x run g)

-- ---- the start

abbrev nothing : index.Entry
nothing = record { version = 0; hop = 0; log = 0; seq = 0 }

nothing_joins : (upto : ℕ → ℕ) → Joins (λ l q. 0) (λ l q. 0) upto nothing
nothing_joins upto = record {
  newest = λ l q limit. omega arith;
  furthest = λ l q limit same. omega arith;
  earliest = λ l q limit same also some. absurd (omega arith);
  within = λ some. absurd (omega arith);
  its_version = λ some. absurd (omega arith);
  its_hop = λ some. absurd (omega arith);
}

pub one_at : (k : ℕ) → k < block_logs → get_or ones k 0 ≡ 1
one_at zero h = refl
one_at (suc zero) h = refl
one_at (suc (suc zero)) h = refl
one_at (suc (suc (suc zero))) h = refl
one_at (suc (suc (suc (suc zero)))) h = refl
one_at (suc (suc (suc (suc (suc zero))))) h = refl
one_at (suc (suc (suc (suc (suc (suc zero)))))) h = refl
one_at (suc (suc (suc (suc (suc (suc (suc zero))))))) h = refl
one_at (suc (suc (suc (suc (suc (suc (suc (suc zero)))))))) h = refl
one_at (suc (suc (suc (suc (suc (suc (suc (suc (suc k))))))))) h = absurd (omega arith)

pub Zeros : List ℕ → Type 0
Zeros [] = Unit {0}
Zeros (x ∷ xs) = (x ≡ 0) × Zeros xs

pub zero_at : (xs : List ℕ) → Zeros xs → (k : ℕ) → get_or xs k 0 ≡ 0
unfolding Zeros
zero_at [] z k = refl
zero_at (x ∷ xs) z zero = z.0
zero_at (x ∷ xs) z (suc k) = zero_at xs z.1 k

pub all_zeros : Zeros zeros
unfolding Zeros
all_zeros = (refl, (refl, (refl, (refl, (refl, (refl, (refl, (refl, (refl, tt)))))))))

-- the first manager is active
abbrev begun_state : IndexState
begun_state = activates (new_block cleaners_number) 1 (λ l. 0) nothing

module _ (any : ℕ → ℕ → Segment) (b : BlockId) where
  abbrev none_filed : Filed
  none_filed = record { head = λ l. 0; segment = any }

  pub no_row : (l q : ℕ) → row_at none_filed b l q ≡ no_entry
  no_row l q = by_filed (λ rows. join rows b ≡ no_entry) none_filed l q (λ some limit. absurd (omega arith)) refl

  begun_tells : Tells b none_filed begun_state
  begun_tells =
      record {
        cleaner = refl;
        head = λ l. refl;
        version = λ l q. sym (ap (λ (e : Entry). e.ver) (no_row l q));
        hop = λ l q. sym (ap (λ (e : Entry). e.hop) (no_row l q));
      }

  begins : (part : ℕ) (holds : SegRef → Rows) → View part holds b (opening any)
  begins part holds = record {
    state = begun_state;
    reached = More Ended (Activate 1 (λ l. 0) nothing (record {
      begun = omega arith;
      fresh = refl;
      heard = omega arith;
      reported = omega arith;
      covered = λ l. omega arith;
      filed = λ l. omega arith;
      joins = nothing_joins (λ l. 0);
    }));
    tells = begun_tells;
    slots = put_each (λ e o. (s : SlotState) → o ≡ Some s → Manages b none_filed begun_state s) (λ e. None) 1 (Some (slot_start 1 [] [] zeros))
        (λ s fact. subst (Manages b none_filed begun_state) (some_is (slot_start 1 [] [] zeros) s fact)
        (record { active = refl; applied = λ l some. sym (zero_at zeros all_zeros (l - 1)); index = names_nothing b none_filed 0 }))
        (λ e other s fact. absurd (some_none s (sym fact)));
    none = put_each (λ e o. o ≡ None → begun_state.active e ≡ 0) (λ e. None) 1 (Some (slot_start 1 [] [] zeros))
        (λ fact. absurd (some_none (slot_start 1 [] [] zeros) fact)) (λ e other fact. at_other e 1 1 0 other);
    epoch = refl;
    horizon = λ e l some limit. of_log_in ones l some limit ∙ one_at (l - 1) (omega arith);
    parts = λ e. record {
      named = nothing;
      filed = by_log (λ l. below ones l ≤ 0) (λ l some limit. let h = of_log_in ones l some limit in let o = one_at (l - 1) (omega arith) in omega arith)
          (λ l out. let h = of_log_out ones l out in omega arith);
      names = names_nothing b none_filed 0;
      joins = nothing_joins (below ones);
    };
    promised = refl;
    polled = λ e. omega arith;
    job = jobs_begin b none_filed begun_state 0;
    deleted = tt;
    sent = tt;
  }

opens : (part : ℕ) (holds : SegRef → Rows) (any : ℕ → ℕ → Segment) → Good part holds (opening any)
opens part holds any = record {
  filed = record { others = λ l out. refl; each = λ l q some limit. absurd (omega arith) };
  epochs = put_each (λ e o. (s : SlotState) → o ≡ Some s → s.epoch ≡ e) (λ e. None) 1 (Some (slot_start 1 [] [] zeros))
      (λ s fact. ap (λ (x : SlotState). x.epoch) (sym (some_is (slot_start 1 [] [] zeros) s fact))) (λ e other s fact. absurd (some_none s (sym fact)));
  begun = refl;
  views = λ b inside. begins any b part holds;
}

-- at each moment of a run the small world is seen
pub good_in : (part : ℕ) (holds : SegRef → Rows) (any : ℕ → ℕ → Segment) (n : Net) → Runs part holds (opening any) n → Good part holds n
good_in part holds any n run = runs_good part holds (opening any) n run (opens part holds any)

pub good_always : (part : ℕ) (holds : SegRef → Rows) (n : Net) (b : BlockId) → Moment part holds n b → Good part holds n
good_always part holds n b m = good_in part holds m.any n m.run

-- ---- the laws

pub each_index_is_the_join : EachIndexIsTheJoin
each_index_is_the_join part holds n b e s m at =
    let g = good_always part holds n b m in
    let i = g.views b m.inside in
    indexes_are_joins b n.filed i.state s i.reached g.filed i.tells (i.slots e s at)

pub managers_cover_their_horizon : ManagersCoverTheirHorizon
managers_cover_their_horizon part holds n b e s m at l some limit =
    let g = good_always part holds n b m in
    let i = g.views b m.inside in
    let manages = i.slots e s at in
    let epoch = g.epochs e s at in
    let covered = (index_in_bounds_always i.state i.reached).active_covered e l (subst (λ d. i.state.active d ≡ 1) epoch manages.active) in
    let applied = subst (λ d. i.state.applied d l ≡ applied_of s.applied l) epoch (manages.applied l some) in
    let horizon = i.horizon e l some limit in
    omega arith

is_dropped : (b : BlockId) (f : Filed) (dropped : ℕ → ℕ → ℕ) (name : SegName) (names : List SegName) → AllByRecursion (IsDropped b f dropped) names
    → In name names → IsDropped b f dropped name
is_dropped b f dropped name [] all at = absurd at
is_dropped b f dropped name (x ∷ xs) all (inl same) = subst (IsDropped b f dropped) (sym same) all.0
is_dropped b f dropped name (x ∷ xs) all (inr rest) = is_dropped b f dropped name xs all.1 rest

pub newest_is_never_deleted : NewestIsNeverDeleted
newest_is_never_deleted part holds n b name m at fact has newest =
    let g = good_always part holds n b m in
    let i = g.views b m.inside in
    let d = is_dropped b n.filed i.state.dropped name n.deleted i.deleted at in
    newest_is_kept b n.filed i.state name.log.0 name.seq i.reached g.filed i.tells newest (d.row_dropped fact has)

pub reigning_is_outdated : ReigningIsOutdated
reigning_is_outdated part holds n b e s place m at reigns lies deleted fact has =
    let g = good_always part holds n b m in
    let i = g.views b m.inside in
    let w = i.state in
    let l = place.seg.name.log.0 in
    let q = place.seg.name.seq in
    let d = is_dropped b n.filed w.dropped place.seg.name n.deleted i.deleted deleted in
    let dropped = d.row_dropped fact has in
    let dead = dead_stays_always w i.reached in
    let counted = dead.counted l q dropped in
    let reigned = dead.reigned l q counted in
    let on = (index_in_bounds_always w i.reached).reigning_active (omega arith) in
    let limit : w.reigning ≤ e = active_upto w (n.slots w.reigning) refl i.none on in
    let same = g.epochs e s at in
    dropped_is_outdated b n.filed w s place i.reached g.filed i.tells (i.slots e s at) lies dropped (omega arith)
  where
    active_upto : (w : IndexState) (o : Option SlotState) → n.slots w.reigning ≡ o → ((d : ℕ) → n.slots d ≡ None → w.active d ≡ 0) → w.active w.reigning ≡ 1
        → w.reigning ≤ e
    active_upto w None there none on = let off = none w.reigning there in absurd (omega arith)
    active_upto w (Some t) there none on = reigns w.reigning t there

pub checkpoints_have_managers : CheckpointsHaveManagers
checkpoints_have_managers part holds n b e horizon parts m sent none =
    let g = good_always part holds n b m in
    let i = g.views b m.inside in
    let known = found part holds b (Sound part holds b n i.state) (CheckpointDone e horizon parts) n.sent i.sent sent in
    let on = known.0 in
    let off = i.none e none in
    absurd (omega arith)
