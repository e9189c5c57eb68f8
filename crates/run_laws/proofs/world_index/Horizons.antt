-- What stands of horizons at each moment of a run of the small world: an epoch that hasn't begun has the present one's, each log has a first segment that isn't
-- covered, and horizons only rise; a checkpoint that was sent passes no more than what is filed.
use Rattle.std.proofs.Common.{◌≡◌, ℕ, suc, ◌-◌, ◌≤◌, ◌<◌, nat_lt, Bool, true, false, cond, List, refl, sym, subst, ◌∙◌, arith}
use Rattle.std.proofs.lemmas.Bool.{le-ltb, ltb-false}
use Rattle.checkpoint.specs.WriterState.{Rows}
use Rattle.index_tie.proofs.Runs.{good_always, one_at}
use Rattle.index_tie.proofs.Tables.{second_of}
use Rattle.index_tie.proofs.Takeovers.{by_log, of_log_in, of_log_out}
use Rattle.index_tie.proofs.Views.{Sound, found}
use Rattle.index_tie.specs.Net.{Net, Happens, Runs, ones, opening}
use Rattle.index_tie.specs.Net.Happens.{ClientFiles, CleanerFiles, GetsDeltas, GetsOther, Answers, Plans, Cleans, Checkpoints, Keeps, Moves, Activates, Promises, JobPromises, JobWelcomed, Reports, JobBegins, JobReads, Asks, JobHearsDead, JobTakes}
use Rattle.index_tie.specs.Net.Packet.{CheckpointDone}
use Rattle.index_tie.specs.Net.Runs.{Begun, On}
use Rattle.index_tie.specs.NetLaws.{Moment}
use Rattle.headline.specs.Indexes.{of_log}
use Rattle.log_protocol.proofs.IndexInduction.{index_in_bounds_always}
use Rattle.log_protocol.specs.Tables.{In}
use Rattle.segment_format.specs.declared.segment.Segment.{Segment}
use Rattle.xfs_base.specs.Limits.{u32_end, block_logs}
use Rattle.xfs_base.specs.declared.block.BlockId.{BlockId}
use Rattle.xfs_base.specs.declared.segment.SegRef.{SegRef}
pub use Rattle.run_laws.specs.world_index.Growth.{Rises}

-- the epoch has begun, epochs to come have its horizon, and each log has a first segment that isn't covered
pub record Steady (n : Net) : Type 0 where
  pub some : 0 < n.epoch
  pub later : (e : ℕ) → n.epoch ≤ e → n.horizon e ≡ n.horizon n.epoch
  pub from_one : (e l : ℕ) → 0 < l → l ≤ block_logs → 0 < of_log (n.horizon e) l

pub record Stays (n m : Net) : Type 0 where
  pub steady : Steady m
  pub rises : Rises n m

up_to : (a b c : ℕ) → a ≤ b → b ≤ c → a ≤ c
up_to a b c h g = omega arith

less_than : (a b c : ℕ) → a < b → b ≤ c → a < c
less_than a b c h g = omega arith

-- what leaves the registry as it is
still_stays : (n m : Net) → m.epoch ≡ n.epoch → m.horizon ≡ n.horizon → Steady n → Stays n m
still_stays n m epoch horizon k = record {
  steady = record {
    some = subst (λ e. 0 < e) (sym epoch) k.some;
    later = λ e low. subst (λ (h : ℕ → List ℕ). h e ≡ h m.epoch) (sym horizon)
        (subst (λ x. n.horizon e ≡ n.horizon x) (sym epoch) (k.later e (subst (λ x. x ≤ e) epoch low)));
    from_one = λ e l some limit. subst (λ (h : ℕ → List ℕ). 0 < of_log (h e) l) (sym horizon) (k.from_one e l some limit);
  };
  rises = λ e l some limit. subst (λ (h : ℕ → List ℕ). of_log (n.horizon e) l ≤ of_log (h e) l) (sym horizon) (omega arith);
}

-- a checkpoint that is kept
module _ (n : Net) (horizon : List ℕ) (above : (l : ℕ) → 0 < l → l ≤ block_logs → of_log (n.horizon n.epoch) l ≤ of_log horizon l) (k : Steady n) where
  abbrev kept : ℕ → List ℕ
  kept e = cond (nat_lt e n.epoch) (n.horizon e) horizon

  late : (e : ℕ) → n.epoch ≤ e → kept e ≡ horizon
  late e low = second_of (nat_lt e n.epoch) (n.horizon e) horizon (le-ltb e n.epoch low)

  kept_rises : (e l : ℕ) → 0 < l → l ≤ block_logs → of_log (n.horizon e) l ≤ of_log (kept e) l
  kept_rises e l some limit = by (nat_lt e n.epoch) refl
    where
      by : (t : Bool) → nat_lt e n.epoch ≡ t → of_log (n.horizon e) l ≤ of_log (cond t (n.horizon e) horizon) l
      by true fact = omega arith
      by false fact = subst (λ (h : List ℕ). of_log h l ≤ of_log horizon l) (sym (k.later e (ltb-false e n.epoch fact))) (above l some limit)

  keeps_stays : (m : Net) → m.epoch ≡ n.epoch → m.horizon ≡ kept → Stays n m
  keeps_stays m epoch fact = record {
    steady = record {
      some = subst (λ e. 0 < e) (sym epoch) k.some;
      later = λ e low. subst (λ (h : ℕ → List ℕ). h e ≡ h m.epoch) (sym fact)
          (late e (subst (λ x. x ≤ e) epoch low) ∙ sym (late m.epoch (subst (λ x. n.epoch ≤ x) (sym epoch) (omega arith))));
      from_one = λ e l some limit. subst (λ (h : ℕ → List ℕ). 0 < of_log (h e) l) (sym fact)
          (less_than 0 (of_log (n.horizon e) l) (of_log (kept e) l) (k.from_one e l some limit) (kept_rises e l some limit));
    };
    rises = λ e l some limit. subst (λ (h : ℕ → List ℕ). of_log (n.horizon e) l ≤ of_log (h e) l) (sym fact) (kept_rises e l some limit);
  }

-- the registry's next epoch
moves_stays : (n m : Net) → m.epoch ≡ suc n.epoch → m.horizon ≡ n.horizon → Steady n → Stays n m
moves_stays n m epoch horizon k = record {
  steady = record {
    some = subst (λ e. 0 < e) (sym epoch) (omega arith);
    later = λ e low. subst (λ (h : ℕ → List ℕ). h e ≡ h m.epoch) (sym horizon)
        (k.later e (let a = epoch in omega arith) ∙ sym (k.later m.epoch (let a = epoch in omega arith)));
    from_one = λ e l some limit. subst (λ (h : ℕ → List ℕ). 0 < of_log (h e) l) (sym horizon) (k.from_one e l some limit);
  };
  rises = λ e l some limit. subst (λ (h : ℕ → List ℕ). of_log (n.horizon e) l ≤ of_log (h e) l) (sym horizon) (omega arith);
}

module _ (part : ℕ) (holds : SegRef → Rows) where
  happens_stays : (n m : Net) → Happens part holds n m → Steady n → Stays n m
  happens_stays n m (ClientFiles l s some less fact newer) k = still_stays n m refl refl k
  happens_stays n m (CleanerFiles s fact copies) k = still_stays n m refl refl k
  happens_stays n m (GetsDeltas e s log first upto rows at known tell) k = still_stays n m refl refl k
  happens_stays n m (GetsOther e s i at of) k = still_stays n m refl refl k
  happens_stays n m (Answers e s number b place d at asked) k = still_stays n m refl refl k
  happens_stays n m (Plans e s events horizon at pages all next) k = still_stays n m refl refl k
  happens_stays n m (Cleans e s at) k = still_stays n m refl refl k
  happens_stays n m (Checkpoints e events horizon segments planned laid) k = still_stays n m refl refl k
  happens_stays n m (Keeps horizon parts done rises) k = keeps_stays n horizon rises k m refl refl
  happens_stays n m Moves k = moves_stays n m refl refl k
  happens_stays n m (Activates e news groups clients inputs input rows beliefs applied none some begun hands has) k = still_stays n m refl refl k
  happens_stays n m (Promises e rises none) k = still_stays n m refl refl k
  happens_stays n m (JobPromises e rises) k = still_stays n m refl refl k
  happens_stays n m (JobWelcomed slots groups rises) k = still_stays n m refl refl k
  happens_stays n m Reports k = still_stays n m refl refl k
  happens_stays n m (JobBegins count) k = still_stays n m refl refl k
  happens_stays n m (JobReads read owes) k = still_stays n m refl refl k
  happens_stays n m (Asks b place d promised within below_ lies) k = still_stays n m refl refl k
  happens_stays n m (JobHearsDead number b epoch name d answered hand) k = still_stays n m refl refl k
  happens_stays n m (JobTakes i other) k = still_stays n m refl refl k

  pub runs_stay : (n m : Net) → Runs part holds n m → Steady n → Stays n m
  runs_stay n m Begun k = record { steady = k; rises = λ e l some limit. omega arith }
  runs_stay n m (On {m = x} run last) k =
      let first = runs_stay n x run k in
      let second = happens_stays x m last first.steady in
      record {
        steady = second.steady;
        rises = λ e l some limit. up_to (of_log (n.horizon e) l) (of_log (x.horizon e) l) (of_log (m.horizon e) l) (first.rises e l some limit)
            (second.rises e l some limit);
      }

  opens_steady : (any : ℕ → ℕ → Segment) → Steady (opening any)
  opens_steady any = record {
    some = omega arith;
    later = λ e low. refl;
    from_one = λ e l some limit. let a = of_log_in ones l some limit in let b = one_at (l - 1) (omega arith) in omega arith;
  }

  pub steady_always : (any : ℕ → ℕ → Segment) (n : Net) → Runs part holds (opening any) n → Steady n
  steady_always any n run = (runs_stay (opening any) n run (opens_steady any)).steady

  -- a checkpoint that was sent passes no more than what is filed
  pub done_short : (n : Net) (b : BlockId) → Moment part holds n b → ((l : ℕ) → n.filed.head l < u32_end) → (e : ℕ) (horizon : List ℕ) (parts : List SegRef)
      → In (CheckpointDone e horizon parts) n.sent
      → (l : ℕ) → of_log horizon l ≤ u32_end
  done_short n b moment heads e horizon parts sent =
      let g = good_always part holds n b moment in
      let i = g.views b moment.inside in
      let known = found part holds b (Sound part holds b n i.state) (CheckpointDone e horizon parts) n.sent i.sent sent in
      by_log (λ l. of_log horizon l ≤ u32_end)
      (λ l some limit.
      let a = known.1 l some limit in
      let f = (index_in_bounds_always i.state i.reached).applied_filed e l in
      let h = i.tells.head l in
      let s = heads l in
      omega arith)
      (λ l out. let none = of_log_out horizon l out in omega arith)
