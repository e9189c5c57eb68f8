-- What each input makes of a job of the cleaner stays seen: what it deletes may be dropped.
use Rattle.std.proofs.Common.{◌≡◌, ℕ, ◌-◌, ◌<◌, ◌≤◌, true, List, [], ◌∷◌, min, slice_get, Some, None, refl, ap, arith}
use Rattle.std.specs.Prelude.{fold, nat_lt, slice_index, unwrap_or, zero, suc}
use Rattle.std.specs.List.{AllByRecursion}
use Rattle.std.proofs.lemmas.Bool.Decides.{nat_tests}
use Rattle.std.proofs.lemmas.Bool.{eqb-true}
use Rattle.xfs_base.proofs.Alls.{all_each, all_weaker}
use Rattle.xfs_base.proofs.Booleans.{and_first, and_second}
use Rattle.xfs_base.specs.declared.fragment.FragMeta.{FragMeta}
use Rattle.xfs_base.specs.declared.news.SlotNews.{SlotNews}
use Rattle.xfs_base.specs.Limits.{u32_end}
use Rattle.stripe_cleaner.specs.Candidates.{horizon_at, least_horizon, is_cleaned, is_candidate}
use Rattle.stripe_cleaner.specs.Checks.{checks_of}
use Rattle.stripe_cleaner.specs.CleaningState.{CleaningState}
use Rattle.stripe_cleaner.specs.declared.checks.Check.{Check}
use Rattle.stripe_cleaner.specs.declared.input.In.{In as Input}
use Rattle.stripe_cleaner.specs.declared.input.In.TheVariants as input
use Rattle.stripe_cleaner.specs.declared.output.Out.{Out}
use Rattle.stripe_cleaner.specs.declared.output.Out.TheVariants as out
use Rattle.stripe_cleaner.specs.declared.phase.Phase.{Phase}
use Rattle.stripe_cleaner.specs.declared.phase.Phase.TheVariants.{Greeting, Listing, Counting, Over}
use Rattle.stripe_cleaner.specs.Transition.{Done, transition}
use Rattle.log_scan.specs.Transition as scan
use Rattle.log_scan.specs.Transition.{horizon_of}
use Rattle.log_tie.specs.Setting.{Setting}
use Rattle.log_law.specs.Net.{Net}
use Rattle.node_moves.proofs.cleaner_moves.JobWalk.{WalkLaw, SegmentsSo, InputSo, OutSo, DoneSo, any_checks, any_live, walk_so}
use Rattle.node_logs.specs.node_log_tie.CleanerEvents.{DropOfLog, JobPhaseSeen}
use Rattle.node_logs.specs.node_log_tie.ServerEvents.{ListedOfLog}

-- ---- horizons

number_least : (h : List ℕ) (k : ℕ) → slice_index h k ≤ unwrap_or (slice_get h k) 1
number_least [] k = omega arith
number_least (x ∷ xs) zero = omega arith
number_least (x ∷ xs) (suc k) = number_least xs k

-- the horizon by which the job judges is no further than the least one
pub least_within : (log : ℕ) (slots : List SlotNews) (least : ℕ) → least ≤ u32_end
    → (fold (λ a (s : SlotNews). min a (horizon_at s log)) least slots ≤ least)
    × (fold (λ a (s : SlotNews). min a (horizon_at s log)) least slots ≤ scan.least_horizon log slots)
least_within log [] least some = (omega arith, some)
least_within log (s ∷ slots) least some =
    let rest = least_within log slots (min least (horizon_at s log)) (omega arith) in
    let here : horizon_at s log ≤ horizon_of log s = number_least s.horizon (log - 1) in
    let a = rest.0 in
    let b = rest.1 in
    (omega arith, omega arith)

module _ (g : Setting) (n : Net) where
  -- what a job deletes of the log may be dropped
  abbrev pub OutDrops : Out → Type 0
  OutDrops (out.Delete server name) = DropOfLog g n name
  OutDrops _ = Unit {0}

  -- what is owed an input: lists were sent, and a horizon was reached
  abbrev pub CleaningSent : Input → Type 0
  CleaningSent (input.Welcome slots groups) = scan.least_horizon g.log.0 slots ≤ n.low
  CleaningSent (input.Listed server held) = AllByRecursion (ListedOfLog g n) held
  CleaningSent _ = Unit {0}

  pub record CleanOn (d : Done) : Type 0 where
    pub phase : JobPhaseSeen g n d.state.phase
    pub outs : AllByRecursion OutDrops d.outs

  candidate_seen : (slots : List SlotNews) → least_horizon slots g.log.0 ≤ n.low → (meta : FragMeta) → ListedOfLog g n meta
      → is_candidate slots meta.name ≡ true → DropOfLog g n meta.name
  candidate_seen slots low meta was fact own =
      let at = was own in
      let log : meta.name.log.0 ≡ g.log.0 = eqb-true meta.name.log.0 g.log.0 own in
      let less : nat_lt meta.name.seq (least_horizon slots meta.name.log.0) ≡ true =
      and_second (is_cleaned meta.name.log.0) (nat_lt meta.name.seq (least_horizon slots meta.name.log.0)) fact in
      let below : meta.name.seq < least_horizon slots meta.name.log.0 = grind (arith, nat_tests) in
      let same = ap (λ k. least_horizon slots k) log in
      let one : is_cleaned meta.name.log.0 ≡ true = and_first (is_cleaned meta.name.log.0) (nat_lt meta.name.seq (least_horizon slots meta.name.log.0)) fact in
      let some : meta.name.log.0 ≤ 9 = grind (arith, nat_tests) in
      record { lists = at.lists; sent = at.sent; meta = meta; among = at.among; named = refl; below = omega arith; cleaned = some }

  -- what is chosen may be dropped; the horizon by which the job judges is one that the least one has reached
  abbrev law : WalkLaw
  law = record {
    FateSo = λ block fate. Unit {0};
    LiveSo = λ block entry fate. Unit {0};
    ReadSo = λ s. Unit {0};
    Greets = Unit {0};
    SlotsSo = λ slots. least_horizon slots g.log.0 ≤ n.low;
    HeldSo = ListedOfLog g n;
    SegmentSo = λ name group. DropOfLog g n name;
    moved = λ block. tt;
    dead = λ block. tt;
    reads = λ s known. all_each (λ (c : Check). Unit {0}) (λ c. tt) (checks_of 0 s.items);
    lives = λ block told entry value same live may h. tt;
    chooses = λ slots meta judges held fact. candidate_seen slots judges meta held fact;
  }

  as_known : (p : Phase) → JobPhaseSeen g n p → SegmentsSo law p
  as_known Greeting seen = tt
  as_known (Listing l) seen = seen
  as_known (Counting c) seen = seen
  as_known Over seen = tt
  as_known _ seen = record { here = seen.1; behind = seen.0 }

  as_seen : (p : Phase) → SegmentsSo law p → JobPhaseSeen g n p
  as_seen Greeting h = tt
  as_seen (Listing l) h = h
  as_seen (Counting c) h = h
  as_seen Over h = tt
  as_seen _ h = (h.behind, h.here)

  as_owed : (p : Phase) (i : Input) → CleaningSent i → InputSo law p i
  as_owed p (input.Welcome slots groups) sent = let within = (least_within g.log.0 slots u32_end (omega arith)).1 in omega arith
  as_owed p (input.Listed server held) sent = sent
  as_owed p (input.Read (Some segment)) sent = tt
  as_owed p (input.Read None) sent = tt
  as_owed p (input.Live block epoch entry) sent = any_live law block entry (λ fate. tt) p
  as_owed p _ sent = tt

  out_drops : (o : Out) → OutSo law o → OutDrops o
  out_drops (out.Delete server name) so = so.1
  out_drops _ so = tt

  pub cleaning_takes : (s : CleaningState) (i : Input) → JobPhaseSeen g n s.phase → CleaningSent i → CleanOn (transition s i)
  cleaning_takes s i seen sent =
      let d : DoneSo law (transition s i) =
      walk_so law s i (record { segments = as_known s.phase seen; checks = any_checks law (λ block fate. tt) s.phase }) (as_owed s.phase i sent) in
      record { phase = as_seen (transition s i).state.phase d.phase.segments; outs = all_weaker (OutSo law) OutDrops out_drops (transition s i).outs d.outs }
