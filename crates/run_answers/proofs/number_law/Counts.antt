-- In every run a count that the cleaner answers is the number of segments that it has dropped since the item began.
use Rattle.std.proofs.Common.{◌≡◌, ◌⊎◌, ◌<◌, ◌+◌, ◌++◌, min, if◌then◌else◌, ℕ, suc, Bool, List, [], ◌∷◌, Option, Some, None, slice_get, inl, inr, refl, sym, ap, subst, ◌∙◌, arith}
use Rattle.std.specs.List.{AllByRecursion}
use Rattle.cleaner_job.specs.declared.job.Job.{Job}
use Rattle.cleaner_node.specs.CleanerEvents.{lasting_of, takes}
use Rattle.cleaner_node.specs.declared.cleaner.Cleaner.{Cleaner}
use Rattle.cleaner_node.specs.declared.cleaner.Phase.{Phase}
use Rattle.cleaner_node.specs.declared.cleaner.Phase.TheVariants.{Down, Opening, Serving}
use Rattle.cleaner_serving.specs.declared.emptying.Emptying.{Emptying}
use Rattle.core_world.specs.AnyNode.{any_start, any_step}
use Rattle.core_world.specs.declared.any_node.AnyNode.{AnyNode}
use Rattle.core_world.specs.declared.any_node.AnyNode.TheVariants as any
use Rattle.node_base.specs.Beginning.{next_item}
use Rattle.node_base.specs.declared.effects.Effect.{Effect}
use Rattle.node_base.specs.declared.effects.Effect.TheVariants.{Answer as Answers, Does, Lose, Send}
use Rattle.node_base.specs.Effects.{acts_of}
use Rattle.token_protocol.specs.Basics.{In}
use Rattle.version_model.specs.declared.act.Act.{Act}
use Rattle.version_model.specs.declared.act.Act.TheVariants as act
use Rattle.version_model.specs.declared.answer.Answer.{Answer}
use Rattle.version_model.specs.declared.answer.Answer.TheVariants as answer
use Rattle.wire_msg.specs.declared.packet.Do.{Do}
use Rattle.wire_msg.specs.declared.packet.Do.TheVariants as whats
use Rattle.world_base.specs.declared.estate.Estate.{Estate}
use Rattle.world_base.specs.declared.event.Event.{Event}
use Rattle.world_base.specs.Events.{node_of, what_of}
use Rattle.world_base.specs.Items.{items_of}
use Rattle.world_base.specs.Runs.{IsRun}
use Rattle.xfs_base.proofs.Booleans.{by_test}
use Rattle.xfs_base.specs.declared.node.NodeId.{NodeId}
use Rattle.xfs_base.specs.declared.node.NodeId.TheVariants as nodes
use Rattle.xfs_base.specs.declared.segment.SegName.{SegName}
use Rattle.xfs_base.specs.Limits.{u32_end}
use Rattle.run_laws.proofs.world_reads.Taking.{Took}
use Rattle.headline.specs.Moments.{acts_in, moment, node_named}
use Rattle.headline.specs.Numbers.{BeganAt, IsCleaned, drops_before, drops_by, drops_in, is_cleaner}
use Rattle.run_answers.proofs.number_law.Acting.{acting, acts_taken_in, event_begins}
use Rattle.run_answers.proofs.number_law.Cleanings.{Uncounted, begins_uncounted}
use Rattle.run_answers.proofs.number_law.Sweeping.{PhaseAt, PhaseOf, Sweeps, all_quiet, begin_keeps, begins_or_not, event_sweeps}
use Rattle.run_answers.proofs.number_law.Tallies.{AnswerSo, At, CountsSo, IsNoAnswer, JobSo, act_drops, drops, none_dropped}
use Rattle.run_answers.proofs.once_law.Runs.{node_known, runs_answer_once}
use Rattle.run_answers.proofs.standing_law.Moments.{Idles, each_moment}
use Rattle.run_answers.specs.number_law.Runs.{EachRunsCleaningsAreTrue}

-- ---- acts, and effects

one_more : (n : ℕ) → suc n ≡ 1 + n
one_more n = omega arith

none_more : (n : ℕ) → n ≡ 0 + n
none_more n = omega arith

-- what is counted on
regroup : (a b m d : ℕ) → a ≡ b + m → a + d ≡ b + (m + d)
regroup a b m d fact = omega arith

drops_one : (a : Act) (acts : List Act) → drops_in (a ∷ acts) ≡ act_drops a + drops_in acts
drops_one (act.Dropped name) acts = one_more (drops_in acts)
drops_one _ acts = none_more (drops_in acts)

acts_drop : (me : NodeId) (outs : List Effect) → drops_in (acts_of me outs) ≡ drops outs
acts_drop me [] = refl
acts_drop me (Send to said ∷ outs) = acts_drop me outs ∙ none_more (drops outs)
acts_drop me (Answers n a ∷ outs) = acts_drop me outs ∙ none_more (drops outs)
acts_drop me (Lose seg ∷ outs) = acts_drop me outs ∙ none_more (drops outs)
acts_drop me (Does a ∷ outs) = drops_one a (acts_of me outs) ∙ ap (λ n. act_drops a + n) (acts_drop me outs)

-- a count that is answered among these acts
module _ (item number count : ℕ) where
  abbrev counted : Act
  counted = act.Answered nodes.Cleaner number (answer.Count count)

  abbrev IsSo : ℕ → Type 0
  IsSo n = (number ≡ item) × (count ≡ min n u32_end)

  more : (n d m : ℕ) → IsSo ((n + d) + m) → IsSo (n + (d + m))
  more n d m h = (h.0, h.1 ∙ ap (λ k. min k u32_end) (grouped n d m))
    where
      grouped : (n d m : ℕ) → (n + d) + m ≡ n + (d + m)
      grouped n d m = omega arith

  no_more : (n m : ℕ) → IsSo ((n + 0) + m) → IsSo (n + m)
  no_more n m h = (h.0, h.1 ∙ ap (λ k. min k u32_end) (grouped n m))
    where
      grouped : (n m : ℕ) → (n + 0) + m ≡ n + m
      grouped n m = omega arith

  answered : (n m : ℕ) (a : Answer) → AnswerSo item n m a → act.Answered nodes.Cleaner m a ≡ counted → IsSo (n + 0)
  answered n m a so same =
      let s = subst (λ (x : Answer). AnswerSo item n m x) same_answer so in
      (sym same_number ∙ s.0, s.1 ∙ ap (λ k. min k u32_end) (none n))
    where
      same_answer : a ≡ answer.Count count
      same_answer = cc

      same_number : m ≡ number
      same_number = cc

      none : (n : ℕ) → n ≡ n + 0
      none n = omega arith

  tails : (a b : Act) (xs ys : List Act) → a ∷ xs ≡ b ∷ ys → (a ≡ b) × (xs ≡ ys)
  tails a b xs ys fact = (cc, cc)

  counts_at : (outs : List Effect) (n : ℕ) → CountsSo item n outs → (before behind : List Act)
      → acts_of nodes.Cleaner outs ≡ before ++ counted ∷ behind → IsSo (n + drops_in before)
  counts_at [] n all [] behind fact = absurd cc
  counts_at [] n all (b ∷ before) behind fact = absurd cc
  counts_at (Send to said ∷ outs) n all before behind fact = no_more n (drops_in before) (counts_at outs (n + 0) all.1 before behind fact)
  counts_at (Answers m a ∷ outs) n all [] behind fact = answered n m a all.0 (tails _ _ _ _ fact).0
  counts_at (Answers m a ∷ outs) n all (b ∷ before) behind fact =
      let t = tails _ _ _ _ fact in
      subst (λ (x : Act). IsSo (n + drops_in (x ∷ before))) t.0 (no_more n (drops_in before) (counts_at outs (n + 0) all.1 before behind t.1))
  counts_at (Lose seg ∷ outs) n all [] behind fact = absurd (lost_answers seg (tails _ _ _ _ fact).0)
    where
      lost_answers : (seg : SegName) → act.Lost nodes.Cleaner seg ≡ counted → ⊥
      lost_answers seg fact = cc
  counts_at (Lose seg ∷ outs) n all (b ∷ before) behind fact =
      let t = tails _ _ _ _ fact in
      subst (λ (x : Act). IsSo (n + drops_in (x ∷ before))) t.0 (no_more n (drops_in before) (counts_at outs (n + 0) all.1 before behind t.1))
  counts_at (Does a ∷ outs) n all [] behind fact =
      absurd (subst IsNoAnswer (tails _ _ _ _ fact).0 all.0)
  counts_at (Does a ∷ outs) n all (b ∷ before) behind fact =
      let t = tails _ _ _ _ fact in
      subst (λ (x : Act). IsSo (n + drops_in (x ∷ before))) t.0
      (subst (λ m. IsSo (n + m)) (sym (drops_one a before)) (more n (act_drops a) (drops_in before) (counts_at outs (n + act_drops a) all.1 before behind t.1)))

-- none is, where nothing is answered so
module _ (number count : ℕ) (me : NodeId) where
  pub none_so : (outs : List Effect) → AllByRecursion Uncounted outs → In (act.Answered nodes.Cleaner number (answer.Count count)) (acts_of me outs) → ⊥
  none_so [] all among = among
  none_so (Send to said ∷ outs) all among = none_so outs all.1 among
  none_so (Answers n a ∷ outs) all (inl same) = subst (λ (x : Answer). Uncounted (Answers n x)) (sym (same_answer n a same)) all.0
    where
      same_answer : (n : ℕ) (a : Answer) → act.Answered nodes.Cleaner number (answer.Count count) ≡ act.Answered me n a → answer.Count count ≡ a
      same_answer n a fact = cc
  none_so (Answers n a ∷ outs) all (inr among) = none_so outs all.1 among
  none_so (Lose seg ∷ outs) all (inl same) = absurd (lost seg same)
    where
      lost : (seg : SegName) → act.Answered nodes.Cleaner number (answer.Count count) ≡ act.Lost me seg → ⊥
      lost seg fact = cc
  none_so (Lose seg ∷ outs) all (inr among) = none_so outs all.1 among
  none_so (Does a ∷ outs) all among = all.0

among_these : (a : Act) (before behind acts : List Act) → acts ≡ before ++ a ∷ behind → In a acts
among_these a before behind acts fact = subst (λ (xs : List Act). In a xs) (sym fact) (there before)
  where
    there : (xs : List Act) → In a (xs ++ a ∷ behind)
    there [] = inl refl
    there (x ∷ xs) = inr (there xs)

pub no_client : (a : ℕ) → nodes.Client a ≡ nodes.Cleaner → ⊥
no_client a fact = cc

pub no_manager : (a : ℕ) → nodes.Manager a ≡ nodes.Cleaner → ⊥
no_manager a fact = cc

pub no_server : (a : ℕ) → nodes.Server a ≡ nodes.Cleaner → ⊥
no_server a fact = cc

pub no_registry : nodes.Registry ≡ nodes.Cleaner → ⊥
no_registry fact = cc

module _ (e : Estate AnyNode) where
  -- ---- at each moment

  -- so many were dropped since the item began, for which a job is under way
  record Works (count : ℕ) (open_item : Option ℕ) (job : Job) : Type 0 where
    item : ℕ
    begun : ℕ
    began : BeganAt e nodes.Cleaner item begun
    since : begun < count
    many : ℕ
    dropped : drops_before e count ≡ drops_before e begun + many
    so : JobSo item many open_item (Some job)

  abbrev WorkSo : ℕ → Option ℕ → Option Job → Type 0
  WorkSo count open_item None = Unit {0}
  WorkSo count open_item (Some job) = Works count open_item job

  abbrev CleanerSo : ℕ → AnyNode → Type 0
  CleanerSo count (any.Cleaner c) = PhaseOf (WorkSo count) c.phase
  CleanerSo count _ = Unit {0}

  abbrev Stands : ℕ → NodeId → AnyNode → Type 0
  Stands count nodes.Cleaner x = CleanerSo count x
  Stands count _ x = Unit {0}

  starts : (name : NodeId) → Stands 0 name (any_start name e.script.setup (items_of e.script.lines name))
  starts (nodes.Client k) = tt
  starts (nodes.Manager k) = tt
  starts (nodes.Server k) = tt
  starts nodes.Cleaner = tt
  starts nodes.Registry = tt

  -- ---- by an event by which it drops nothing

  abbrev now : ℕ → ℕ
  now count = drops_by e count (slice_get e.events count)

  work_later : (count : ℕ) → now count ≡ 0 → (u : Option ℕ) (o : Option Job) → WorkSo count u o → WorkSo (suc count) u o
  work_later count none u None h = tt
  work_later count none u (Some job) h =
      let low = h.since in
      record {
        item = h.item;
        begun = h.begun;
        began = h.began;
        since = omega arith;
        many = h.many;
        dropped = ap (λ n. drops_before e count + n) none ∙ (nothing (drops_before e count) ∙ h.dropped);
        so = h.so;
      }
    where
      nothing : (n : ℕ) → n + 0 ≡ n
      nothing n = omega arith

  phase_later : (count : ℕ) → now count ≡ 0 → (p : Phase) → PhaseOf (WorkSo count) p → PhaseOf (WorkSo (suc count)) p
  phase_later count none (Down l) h = tt
  phase_later count none (Opening l o) h = tt
  phase_later count none (Serving s) h = work_later count none s.lasting.items.unanswered s.job h

  node_later : (count : ℕ) → now count ≡ 0 → (x : AnyNode) → CleanerSo count x → CleanerSo (suc count) x
  node_later count none (any.Client c) h = tt
  node_later count none (any.Manager m) h = tt
  node_later count none (any.Server v) h = tt
  node_later count none (any.Cleaner c) h = phase_later count none c.phase h
  node_later count none (any.Registry r) h = tt

  others_none : (n : NodeId) (k : ℕ) → (nodes.Cleaner ≡ n → ⊥) → (if is_cleaner n then k else 0) ≡ 0
  others_none (nodes.Client j) k apart = refl
  others_none (nodes.Manager j) k apart = refl
  others_none (nodes.Server j) k apart = refl
  others_none nodes.Cleaner k apart = absurd (apart refl)
  others_none nodes.Registry k apart = refl

  either_none : (t : Bool) (k : ℕ) → k ≡ 0 → (if t then k else 0) ≡ 0
  either_none t k none = by_test (λ (n : ℕ). n ≡ 0) t k 0 (λ _. none) (λ _. refl)

  idle_none : (count : ℕ) → Idles Stands e count nodes.Cleaner → now count ≡ 0
  idle_none count idles = by (slice_get e.events count) refl
    where
      by : (o : Option Event) → slice_get e.events count ≡ o → drops_by e count o ≡ 0
      by None fact = refl
      by (Some event) fact = how (idles event fact)
        where
          how : (nodes.Cleaner ≡ node_of event → ⊥) ⊎ (acts_in (moment e count) event ≡ []) → drops_by e count (Some event) ≡ 0
          how (inl apart) = others_none (node_of event) (drops_in (acts_in (moment e count) event)) apart
          how (inr none) = either_none (is_cleaner (node_of event)) (drops_in (acts_in (moment e count) event)) (ap drops_in none)

  later : (count : ℕ) (name : NodeId) (x : AnyNode) → Idles Stands e count name → Stands count name x → Stands (suc count) name x
  later count (nodes.Client k) x idles h = tt
  later count (nodes.Manager k) x idles h = tt
  later count (nodes.Server v) x idles h = tt
  later count nodes.Cleaner x idles h = node_later count (idle_none count idles) x h
  later count nodes.Registry x idles h = tt

  -- ---- an event of the cleaner

  module _ (count : ℕ) (event : Event) (happens : slice_get e.events count ≡ Some event) (named : node_of event ≡ nodes.Cleaner) (c : Cleaner)
      (was : node_named (moment e count) nodes.Cleaner ≡ Some (any.Cleaner c))
      (acts : acts_in (moment e count) event ≡ (any_step (any.Cleaner c) (what_of event)).acts) (h : PhaseOf (WorkSo count) c.phase) where
    abbrev outs : List Effect
    outs = (takes c.peers c.phase (what_of event)).outs

    dropped_now : now count ≡ drops outs
    dropped_now =
        ap (drops_by e count) happens
        ∙ (ap (λ (n : NodeId). if is_cleaner n then drops_in (acts_in (moment e count) event) else 0) named
        ∙ (ap drops_in acts ∙ acts_drop nodes.Cleaner outs))

    -- by which no item begins
    abbrev Working : Type 0
    Working = (what_of event ≡ whats.Begin → ⊥)

    sweeps : Working → (item n : ℕ) → PhaseAt item n c.phase → Sweeps item n (takes c.peers c.phase (what_of event))
    sweeps other item n at = event_sweeps item c (what_of event) other n at

    -- with no job nothing is so of each item but that there is none
    none_works : (u : Option ℕ) (o : Option Job) → ((item : ℕ) → JobSo item (0 + drops outs) u o) → WorkSo (suc count) u o
    none_works u None each = tt
    none_works u (Some job) each = absurd (two u (each 0).0 (each 1).0)
      where
        two : (u : Option ℕ) → u ≡ Some 0 → u ≡ Some 1 → ⊥
        two u a b = (let clash : Some 0 ≡ Some 1 = sym a ∙ b in absurd cc)

    none_turns : (q : Phase) → ((item : ℕ) → PhaseAt item (0 + drops outs) q) → PhaseOf (WorkSo (suc count)) q
    none_turns (Down l) each = tt
    none_turns (Opening l o) each = tt
    none_turns (Serving s) each = none_works s.lasting.items.unanswered s.job each

    some_turns : (u : Option ℕ) (job : Job) (w : Works count u job) (q : Phase) → PhaseAt w.item (w.many + drops outs) q → PhaseOf (WorkSo (suc count)) q
    some_turns u job w (Down l) at = tt
    some_turns u job w (Opening l o) at = tt
    some_turns u job w (Serving s) at = one s.job at
      where
        one : (o : Option Job) → JobSo w.item (w.many + drops outs) s.lasting.items.unanswered o → WorkSo (suc count) s.lasting.items.unanswered o
        one None at = tt
        one (Some next) at =
            let low = w.since in
            record {
              item = w.item;
              begun = w.begun;
              began = w.began;
              since = omega arith;
              many = w.many + drops outs;
              dropped = ap (λ n. drops_before e count + n) dropped_now
                  ∙ regroup (drops_before e count) (drops_before e w.begun) w.many (drops outs) w.dropped;
              so = at;
            }

    -- what is known of it before
    data Known : Type 0 where
      Idle : ((item n : ℕ) → PhaseAt item n c.phase) → Known
      Busy : (u : Option ℕ) (job : Job) (w : Works count u job) → PhaseAt w.item w.many c.phase → Known

    phase_known : Known
    phase_known = by c.phase refl h
      where
        serves : (s : Emptying) → c.phase ≡ Serving s → (o : Option Job) → s.job ≡ o → WorkSo count s.lasting.items.unanswered o → Known
        serves s same None none h =
            Idle (λ item n. subst (PhaseAt item n) (sym same) (subst (JobSo item n s.lasting.items.unanswered) (sym none) tt))
        serves s same (Some job) some h =
            Busy s.lasting.items.unanswered job h
            (subst (PhaseAt h.item h.many) (sym same) (subst (JobSo h.item h.many s.lasting.items.unanswered) (sym some) h.so))

        by : (p : Phase) → c.phase ≡ p → PhaseOf (WorkSo count) p → Known
        by (Down l) same h = Idle (λ item n. subst (PhaseAt item n) (sym same) tt)
        by (Opening l o) same h = Idle (λ item n. subst (PhaseAt item n) (sym same) tt)
        by (Serving s) same h = serves s same s.job refl h

    goes_on : Working → PhaseOf (WorkSo (suc count)) (takes c.peers c.phase (what_of event)).state
    goes_on other = by phase_known
      where
        by : Known → PhaseOf (WorkSo (suc count)) (takes c.peers c.phase (what_of event)).state
        by (Idle at) = none_turns (takes c.peers c.phase (what_of event)).state (λ item. (sweeps other item 0 (at item 0)).state)
        by (Busy u job w at) = some_turns u job w (takes c.peers c.phase (what_of event)).state (sweeps other w.item w.many at).state

    -- by which one begins
    begins : what_of event ≡ whats.Begin → PhaseOf (WorkSo (suc count)) (takes c.peers c.phase (what_of event)).state
    begins begin =
        subst (λ (what : Do). PhaseOf (WorkSo (suc count)) (takes c.peers c.phase what).state) (sym begin)
        (begin_keeps (WorkSo (suc count)) c (phase_later count none c.phase h) (λ number s next at. new number s next at))
      where
        none : now count ≡ 0
        none =
            dropped_now ∙ none_dropped outs (all_quiet outs (subst (λ (what : Do). AllByRecursion Uncounted (takes c.peers c.phase what).outs) (sym begin) (begins_uncounted c)))

        new : (number : ℕ) (s : Emptying) → next_item (lasting_of c.phase).items ≡ Some number → At number 0 s
            → WorkSo (suc count) s.lasting.items.unanswered s.job
        new number s next at = one s.job at
          where
            one : (o : Option Job) → JobSo number 0 s.lasting.items.unanswered o → WorkSo (suc count) s.lasting.items.unanswered o
            one None at = tt
            one (Some job) at = record {
              item = number;
              begun = count;
              began = record {
                happens = happens ∙ ap Some (event_begins event nodes.Cleaner named begin);
                node = any.Cleaner c;
                its = was;
                next = next;
              };
              since = omega arith;
              many = 0;
              dropped = ap (λ n. drops_before e count + n) none;
              so = at;
            }

    turned : PhaseOf (WorkSo (suc count)) (takes c.peers c.phase (what_of event)).state
    turned = begins_or_not (what_of event) begins goes_on

    -- ---- a count that it answers

    answers : (item cleaned : ℕ) (before behind : List Act)
        → acts_in (moment e count) event ≡ before ++ act.Answered nodes.Cleaner item (answer.Count cleaned) ∷ behind → IsCleaned e count item cleaned before
    answers item cleaned before behind fact = by phase_known
      where
        its : acts_of nodes.Cleaner outs ≡ before ++ act.Answered nodes.Cleaner item (answer.Count cleaned) ∷ behind
        its = sym acts ∙ fact

        other : Working
        other begin =
            none_so item cleaned nodes.Cleaner outs
            (subst (λ (what : Do). AllByRecursion Uncounted (takes c.peers c.phase what).outs) (sym begin) (begins_uncounted c))
            (among_these _ before behind (acts_of nodes.Cleaner outs) its)

        by : Known → IsCleaned e count item cleaned before
        by (Idle at) =
            let zeroth = counts_at 0 item cleaned outs 0 (sweeps other 0 0 (at 0 0)).counts before behind its in
            let first = counts_at 1 item cleaned outs 0 (sweeps other 1 0 (at 1 0)).counts before behind its in
            (let clash : 0 ≡ 1 = sym zeroth.0 ∙ first.0 in absurd (omega arith))
        by (Busy u job w at) =
            let so = counts_at w.item item cleaned outs w.many (sweeps other w.item w.many at).counts before behind its in
            record {
              begun = w.begun;
              began = subst (λ n. BeganAt e nodes.Cleaner n w.begun) (sym so.0) w.began;
              since = w.since;
              many = w.many + drops_in before;
              dropped = regroup (drops_before e count) (drops_before e w.begun) w.many (drops_in before) w.dropped;
              counts = so.1;
            }

  turns : (count : ℕ) (event : Event) → slice_get e.events count ≡ Some event → (x : AnyNode) → node_named (moment e count) (node_of event) ≡ Some x
      → Took (moment e count) event x → Stands count (node_of event) x → Stands (suc count) (node_of event) (any_step x (what_of event)).node
  turns count event happens x was took h = by (node_of event) refl x was (acts_taken_in e count event x took) h
    where
      by : (name : NodeId) → node_of event ≡ name → (x : AnyNode) → node_named (moment e count) name ≡ Some x
          → acts_in (moment e count) event ≡ (any_step x (what_of event)).acts → Stands count name x → Stands (suc count) name (any_step x (what_of event)).node
      by (nodes.Client k) named x was acts h = tt
      by (nodes.Manager k) named x was acts h = tt
      by (nodes.Server k) named x was acts h = tt
      by nodes.Cleaner named (any.Client c) was acts h = tt
      by nodes.Cleaner named (any.Manager m) was acts h = tt
      by nodes.Cleaner named (any.Server v) was acts h = tt
      by nodes.Cleaner named (any.Cleaner c) was acts h = turned count event happens named c was acts h
      by nodes.Cleaner named (any.Registry r) was acts h = tt
      by nodes.Registry named x was acts h = tt

  stands_at : (count : ℕ) (name : NodeId) (x : AnyNode) → node_named (moment e count) name ≡ Some x → Stands count name x
  stands_at = each_moment Stands e starts later turns

  module _ (run : IsRun any_step any_start e.script e.events e.world) where
    cleanings : (count : ℕ) (event : Event) → slice_get e.events count ≡ Some event → (item cleaned : ℕ) (before behind : List Act)
        → acts_in (moment e count) event ≡ before ++ act.Answered nodes.Cleaner item (answer.Count cleaned) ∷ behind → IsCleaned e count item cleaned before
    cleanings count event happens item cleaned before behind fact =
        let acted = among_these (act.Answered nodes.Cleaner item (answer.Count cleaned)) before behind (acts_in (moment e count) event) fact in
        let a = acting e count event happens _ acted in
        let own : nodes.Cleaner ≡ node_of event =
        ((runs_answer_once e run).own count event happens nodes.Cleaner item (answer.Count cleaned) acted).own in
        by a.x (node_of event) (sym own) refl a.was a.acts
      where
        by : (x : AnyNode) (name : NodeId) → name ≡ nodes.Cleaner → node_of event ≡ name → node_named (moment e count) name ≡ Some x
            → acts_in (moment e count) event ≡ (any_step x (what_of event)).acts → IsCleaned e count item cleaned before
        by (any.Cleaner c) name same named was acts =
            let its_was = subst (λ (n : NodeId). node_named (moment e count) n ≡ Some (any.Cleaner c)) same was in
            answers count event happens (named ∙ same) c its_was acts (stands_at count nodes.Cleaner (any.Cleaner c) its_was) item cleaned before behind fact
        by (any.Client c) name same named was acts = absurd (no_client _ ((node_known e count name (any.Client c) was).named ∙ same))
        by (any.Manager m) name same named was acts = absurd (no_manager _ ((node_known e count name (any.Manager m) was).named ∙ same))
        by (any.Server v) name same named was acts = absurd (no_server _ ((node_known e count name (any.Server v) was).named ∙ same))
        by (any.Registry r) name same named was acts = absurd (no_registry ((node_known e count name (any.Registry r) was).named ∙ same))

pub each_run : EachRunsCleaningsAreTrue
each_run e run = cleanings e run
