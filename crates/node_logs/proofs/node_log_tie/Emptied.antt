-- How a cleaner that serves goes on in the small world of a client's log: by drops alone, one thing after the other.
use Rattle.std.proofs.Common.{◌≡◌, ◌<◌, ◌⊎◌, ⊎_elim, ℕ, true, List, [], ◌∷◌, ◌++◌, inl, inr, refl, sym, subst, ◌∙◌, arith}
use Rattle.std.specs.Prelude.{All}
use Rattle.std.specs.List.{AllByRecursion}
use Rattle.std.proofs.lemmas.List.Elements.{All-nil, All-cons, All-append}
use Rattle.std.proofs.lemmas.Bool.{eqb-true}
use Rattle.xfs_base.specs.declared.node.NodeId.{NodeId}
use Rattle.xfs_base.specs.declared.node.NodeId.TheVariants.{Cleaner}
use Rattle.xfs_base.specs.declared.segment.SegName.{SegName}
use Rattle.xfs_base.specs.declared.segment.SegRef.{SegRef}
use Rattle.xfs_base.specs.Steps.{still, saying, steps}
use Rattle.xfs_base.proofs.Alls.{all_append, all_weaker}
use Rattle.xfs_base.specs.Limits.{block_logs}
use Rattle.node_base.specs.declared.effects.Effect.{Effect}
use Rattle.node_base.specs.declared.effects.Effect.TheVariants.{Send, Answer, Lose, Does}
use Rattle.node_base.specs.Effects.{act_of, acts_of, packet_of, packets_of}
use Rattle.stripe_cleaner.specs.declared.output.Out.{Out}
use Rattle.stripe_cleaner.specs.declared.output.Out.TheVariants as out
use Rattle.stripe_cleaner.specs.declared.phase.Phase.{Phase}
use Rattle.stripe_cleaner.specs.declared.phase.Phase.TheVariants.{Greeting, Listing, Counting, Reading, Checking, Deleting, Over}
use Rattle.version_model.specs.declared.act.Act.{Act}
use Rattle.version_model.specs.declared.act.Act.TheVariants as act
use Rattle.wire_msg.specs.declared.body.Body.{Body}
use Rattle.wire_msg.specs.declared.body.Body.TheVariants as body
use Rattle.wire_msg.specs.declared.packet.Packet.{Packet}
use Rattle.cleaner_node.specs.declared.cleaner.Phase as cleaners
use Rattle.cleaner_node.specs.declared.cleaner.Phase.TheVariants.{Serving}
use Rattle.cleaner_serving.specs.declared.emptying.Emptying.{Emptying}
use Rattle.cleaner_serving.specs.Jobs.{Done}
use Rattle.cleaner_job.specs.declared.job.Job.{Job}
use Rattle.cleaner_job.specs.Starting.{cleaner_log}
use Rattle.log_protocol.specs.Tables.{In}
use Rattle.log_tie.specs.Setting.{Setting}
use Rattle.log_tie.specs.Shelves.{is_of_log}
use Rattle.log_law.specs.Net.{Net}
use Rattle.log_law.specs.Events.{Runs}
use Rattle.log_law.specs.Events.Runs.{Begun}
use Rattle.node_logs.specs.node_log_tie.Sight.{Asker, BodySeen}
use Rattle.node_logs.proofs.node_log_tie.Sight.{EffectSeen, Later}
use Rattle.node_logs.specs.node_log_tie.CleanerEvents.{DropOfLog, AllDrop, Candidates, JobPhaseSeen, JobSeen, EmptyingSeen, CleanerSeen, DropActed, OnlyDeleted, all_but_drops}
use Rattle.node_logs.proofs.node_log_tie.Cleaning.{OutDrops}
use Rattle.node_logs.proofs.node_log_tie.Going.{in_after, in_before, run_later, runs_on}
use Rattle.node_logs.proofs.node_log_tie.Lists.{if_some, packets_all}
use Rattle.node_logs.specs.node_log_tie.CleanerStores.{StoresItsOwn}
use Rattle.node_logs.proofs.node_log_tie.Sights.{seen_later}

-- ---- while the small world goes on

module _ (g : Setting) (n next : Net) (later : Later n next) where
  pub drop_later : (name : SegName) → DropOfLog g n name → DropOfLog g next name
  drop_later name h own = let m =
      h own in record {
        lists = m.lists;
        sent = later.sent _ m.sent;
        meta = m.meta;
        among = m.among;
        named = m.named;
        below = (let a = m.below in let b = later.low in omega arith);
        cleaned = m.cleaned;
      }

  all_drop_later : (segs : List SegRef) → AllDrop g n segs → AllDrop g next segs
  all_drop_later segs all =
      all_weaker (λ (seg : SegRef). DropOfLog g n seg.name) (λ (seg : SegRef). DropOfLog g next seg.name) (λ seg. drop_later seg.name) segs all

  candidates_later : (entries : List (SegName × ℕ)) → Candidates g n entries → Candidates g next entries
  candidates_later entries all =
      all_weaker (λ (e : SegName × ℕ). DropOfLog g n e.0) (λ (e : SegName × ℕ). DropOfLog g next e.0) (λ e. drop_later e.0) entries all

  phase_later : (p : Phase) → JobPhaseSeen g n p → JobPhaseSeen g next p
  phase_later Greeting h = tt
  phase_later (Listing l) h = (let a = h.0 in let b = later.low in omega arith, candidates_later l.candidates h.1)
  phase_later (Counting c) h = candidates_later c.candidates h
  phase_later (Reading j seg) h = (all_drop_later j.left h.0, drop_later seg.name h.1)
  phase_later (Checking j seg checks) h = (all_drop_later j.left h.0, drop_later seg.name h.1)
  phase_later (Deleting j seg servers) h = (all_drop_later j.left h.0, drop_later seg.name h.1)
  phase_later Over h = tt

  pub emptying_later : (e : Emptying) → EmptyingSeen g n e → EmptyingSeen g next e
  emptying_later e h = record { log = h.log; job = if_some (JobSeen g n) (JobSeen g next) (λ (job : Job). phase_later job.cleaning.phase) e.job h.job }

  pub out_later : (o : Out) → OutDrops g n o → OutDrops g next o
  out_later (out.Delete server name) h = drop_later name h
  out_later _ h = tt

-- a name of the cleaner's log is none of another log
pub not_ours : (g : Setting) → (g.log ≡ cleaner_log → ⊥) → (name : SegName) → name.log ≡ cleaner_log → is_of_log g name ≡ true → ⊥
not_ours g other name its own = let same : name.log.0 ≡ g.log.0 = eqb-true name.log.0 g.log.0 own in other ((λ i. record { 0 = sym same i }) ∙ its)

module _ (g : Setting) (owner : Asker) where
  -- what the cleaner says is seen, and what it stores is of its own log
  abbrev pub CleanerSays : Net → NodeId → Body → Type 0
  CleanerSays n to (body.Store m) = BodySeen g owner n Cleaner to (body.Store m) × (m.fragment.meta.name.log ≡ cleaner_log)
  CleanerSays n to said = BodySeen g owner n Cleaner to said

  says_seen : (n : Net) (to : NodeId) (said : Body) → CleanerSays n to said → BodySeen g owner n Cleaner to said
  says_seen n to (body.Store m) h = h.0
  says_seen n to _ h = h

  -- what an effect of the cleaner is in the small world
  abbrev pub CleanerDoes : Net → Effect → Type 0
  CleanerDoes n (Send to said) = CleanerSays n to said
  CleanerDoes n (Answer item answer) = Unit {0}
  CleanerDoes n (Lose seg) = Unit {0}
  CleanerDoes n (Does a) = DropActed g n a

  -- some server is told to delete a segment
  abbrev pub Orders : SegName → List Effect → Type 0
  Orders name outs = (to : NodeId) × In (Send to (body.Delete (record { name = name }))) outs

  -- what is dropped was so before, or is ordered to be deleted
  abbrev pub OnlyOrdered : Net → Net → List Effect → Type 0
  OnlyOrdered n next outs = (name : SegName) → In name next.dropped → In name n.dropped ⊎ Orders name outs

  pub ordered_then : (n m o : Net) (outs more : List Effect) → OnlyOrdered n m outs → OnlyOrdered m o more → OnlyOrdered n o (outs ++ more)
  ordered_then n m o outs more first second name fact = ⊎_elim
      (λ was. ⊎_elim (λ old. inl old) (λ (ordered : Orders name outs). inr (ordered.0, in_before outs more _ ordered.1)) (first name was))
      (λ (ordered : Orders name more). inr (ordered.0, in_after outs more _ ordered.1)) (second name fact)

  -- a net with more drops; of a manager's log there are none
  pub record Dropping (n next : Net) : Type 0 where
    pub runs : Runs g n next
    pub dropped : (name : SegName) → In name n.dropped → In name next.dropped
    pub rest : all_but_drops next ≡ all_but_drops n
    pub none : block_logs < g.log.0 → next ≡ n

  pub no_drop : (n : Net) → Dropping n n
  no_drop n = record { runs = Begun; dropped = λ name fact. fact; rest = refl; none = λ high. refl }

  pub then_drop : (n m o : Net) → Dropping n m → Dropping m o → Dropping n o
  then_drop n m o a b =
      record {
        runs = runs_on g n m o a.runs b.runs;
        dropped = λ name fact. b.dropped name (a.dropped name fact);
        rest = b.rest ∙ a.rest;
        none = λ high. b.none high ∙ a.none high;
      }

  acted_later : (n next : Net) → Dropping n next → (a : Act) → DropActed g n a → DropActed g next a
  acted_later n next d (act.Dropped seg) h = λ own. d.dropped seg (h own)
  acted_later n next d _ h = tt

  says_later : (n next : Net) → Dropping n next → (to : NodeId) (said : Body) → CleanerSays n to said → CleanerSays next to said
  says_later n next d to (body.Store m) h = (seen_later g owner n next (run_later g n next d.runs) Cleaner to (body.Store m) h.0, h.1)
  says_later n next d to said h = seen_later g owner n next (run_later g n next d.runs) Cleaner to said h

  does_later : (n next : Net) → Dropping n next → (e : Effect) → CleanerDoes n e → CleanerDoes next e
  does_later n next d (Send to said) h = says_later n next d to said h
  does_later n next d (Answer item answer) h = tt
  does_later n next d (Lose seg) h = tt
  does_later n next d (Does a) h = acted_later n next d a h

  all_does_later : (n next : Net) → Dropping n next → (outs : List Effect) → AllByRecursion (CleanerDoes n) outs → AllByRecursion (CleanerDoes next) outs
  all_does_later n next d outs all = all_weaker (CleanerDoes n) (CleanerDoes next) (does_later n next d) outs all

  -- The cleaner goes on, and so does the small world, by drops alone, of what it orders to be deleted.
  pub record Goes (n : Net) (p : cleaners.Phase) (outs : List Effect) : Type 0 where
    pub next : Net
    pub drop : Dropping n next
    pub seen : CleanerSeen g next p
    pub does : AllByRecursion (CleanerDoes next) outs
    pub only : OnlyOrdered n next outs

  pub says_once : (n : Net) (p : cleaners.Phase) (outs : List Effect) → CleanerSeen g n p → AllByRecursion (CleanerDoes n) outs → Goes n p outs
  says_once n p outs seen does = record { next = n; drop = no_drop n; seen = seen; does = does; only = λ name fact. inl fact }

  pub goes_then : (n : Net) (p q : cleaners.Phase) (outs more : List Effect) (w : Goes n p outs) → Goes w.next q more → Goes n q (outs ++ more)
  goes_then n p q outs more w x = record {
    next = x.next;
    drop = then_drop n w.next x.next w.drop x.drop;
    seen = x.seen;
    does = all_append (CleanerDoes x.next) outs more (all_does_later w.next x.next x.drop outs w.does) x.does;
    only = ordered_then n w.next x.next outs more w.only x.only;
  }

  -- so does one that serves
  abbrev pub Emptied : Net → Done → Type 0
  Emptied n d = Goes n (Serving d.state) d.outs

  pub at_once : (n : Net) (e : Emptying) (outs : List Effect) → EmptyingSeen g n e → AllByRecursion (CleanerDoes n) outs
      → Emptied n (record { state = e; outs = outs })
  at_once n e outs seen does = says_once n (Serving e) outs seen does

  pub stays : (n : Net) (e : Emptying) → EmptyingSeen g n e → Emptied n (still e)
  stays n e seen = at_once n e [] seen tt

  pub and_then : (n : Net) (d e : Done) (w : Emptied n d) → Emptied w.next e → Emptied n (saying d.outs e)
  and_then n d e w x = goes_then n (Serving d.state) (Serving e.state) d.outs e.outs w x

  -- one step after the other
  pub all_steps : {A : Type 0} (step : Emptying → A → Done) (P : Net → A → Type 0) → ((n m : Net) → Later n m → (x : A) → P n x → P m x)
      → ((n : Net) (e : Emptying) (x : A) → EmptyingSeen g n e → P n x → Emptied n (step e x))
      → (n : Net) (e : Emptying) (xs : List A) → EmptyingSeen g n e → AllByRecursion (P n) xs → Emptied n (steps step e xs)
  all_steps step P moves each n e [] seen all = stays n e seen
  all_steps step P moves each n e (x ∷ xs) seen all =
      let w : Emptied n (step e x) = each n e x seen all.0 in
      and_then n (step e x) (steps step (step e x).state xs) w
      (all_steps step P moves each w.next (step e x).state xs w.seen (all_weaker (P n) (P w.next) (moves n w.next (run_later g n w.next w.drop.runs)) xs all.1))

  -- ---- what comes of the effects

  pub as_seen : (n : Net) (outs : List Effect) → AllByRecursion (CleanerDoes n) outs → AllByRecursion (EffectSeen g owner n Cleaner) outs
  as_seen n outs all = all_weaker (CleanerDoes n) (EffectSeen g owner n Cleaner) one outs all
    where
      one : (e : Effect) → CleanerDoes n e → EffectSeen g owner n Cleaner e
      one (Send to said) h = says_seen n to said h
      one (Answer item answer) h = tt
      one (Lose seg) h = tt
      one (Does a) h = tt

  says_own : (n : Net) (to : NodeId) (said : Body) → CleanerSays n to said → StoresItsOwn said
  says_own n to (body.Store m) h = h.1
  says_own n to _ h = tt

  -- what is stored is of the cleaner's log
  pub all_own : (n : Net) (outs : List Effect) → AllByRecursion (CleanerDoes n) outs → All (λ (p : Packet). StoresItsOwn p.body) (packets_of Cleaner outs)
  all_own n outs all = packets_all (λ (p : Packet). StoresItsOwn p.body) (CleanerDoes n) Cleaner (λ to said does. says_own n to said does) outs all

  one_act : (n : Net) (e : Effect) → CleanerDoes n e → All (DropActed g n) (act_of Cleaner e)
  one_act n (Send to said) h = All-nil (DropActed g n)
  one_act n (Answer item answer) h = All-cons (DropActed g n) (act.Answered Cleaner item answer) [] tt (All-nil (DropActed g n))
  one_act n (Lose seg) h = All-cons (DropActed g n) (act.Lost Cleaner seg) [] tt (All-nil (DropActed g n))
  one_act n (Does a) h = All-cons (DropActed g n) a [] h (All-nil (DropActed g n))

  -- what is ordered is sent
  in_packets : (outs : List Effect) (to : NodeId) (said : Body) → In (Send to said) outs
      → In (record { from = Cleaner; to = to; clock = 0; body = said }) (packets_of Cleaner outs)
  in_packets [] to said fact = absurd fact
  in_packets (e ∷ outs) to said (inl same) =
      subst (λ x. In (record { from = Cleaner; to = to; clock = 0; body = said }) (packet_of Cleaner x ++ packets_of Cleaner outs)) same (inl refl)
  in_packets (e ∷ outs) to said (inr fact) = in_after (packet_of Cleaner e) (packets_of Cleaner outs) _ (in_packets outs to said fact)

  pub only_deleted : (n next : Net) (outs : List Effect) → OnlyOrdered n next outs → OnlyDeleted n next (packets_of Cleaner outs)
  only_deleted n next outs only name fact =
      ⊎_elim (λ was. inl was) (λ (ordered : Orders name outs). inr (_, in_packets outs ordered.0 (body.Delete (record { name = name })) ordered.1, refl))
      (only name fact)

  pub all_acts : (n : Net) (outs : List Effect) → AllByRecursion (CleanerDoes n) outs → All (DropActed g n) (acts_of Cleaner outs)
  all_acts n [] all = All-nil (DropActed g n)
  all_acts n (e ∷ outs) all = All-append (DropActed g n) (act_of Cleaner e) (acts_of Cleaner outs) (one_act n e all.0) (all_acts n outs all.1)
