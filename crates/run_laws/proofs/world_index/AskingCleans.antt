-- What an input of its job has the cleaner do, and what the cleaner awaits then.
use Rattle.std.proofs.Common.{◌≡◌, ◌==◌, ℕ, Bool, true, false, List, [], ◌∷◌, Option, None, Some, inl, inr, refl, sym, ap, subst, ◌∙◌}
use Rattle.std.specs.List.{AllByRecursion, flat_map}
use Rattle.cleaner_serving.specs.declared.emptying.Emptying.{Emptying}
use Rattle.cleaner_serving.specs.Jobs.{emptying_clean, emptying_delete, emptying_finish, emptying_hold, holds_in, emptying_take, move_all, emptying_put, put_block, emptying_read, says, takes_in}
use Rattle.cleaner_job.specs.declared.hand.Hand.{Hand}
use Rattle.cleaner_job.specs.declared.job.Job.{Job}
use Rattle.cleaner_job.specs.Hands.{Taken, asked_of, fetches, hand_fetch, is_in_hand, known_group, take_over, take_in_hand}
use Rattle.cleaner_job.specs.Jobs.{act_dropped, dropped, hand_of, is_whole}
use Rattle.client_log.specs.declared.input.In.{In as LogIn}
use Rattle.client_log.specs.declared.input.In.TheVariants as log_in
use Rattle.client_log.specs.declared.output.Out.{Out as LogOut}
use Rattle.client_log.specs.declared.output.Out.TheVariants as log_out
use Rattle.client_log.specs.Transition as log
use Rattle.group_map.specs.declared.group.Group.{Group}
use Rattle.log_owner.specs.Opening.{stored}
use Rattle.log_owner.specs.Sending.{fetch}
use Rattle.node_base.specs.Beginning.{answers_unanswered}
use Rattle.node_base.specs.declared.effects.Effect.TheVariants.{Send}
use Rattle.node_base.specs.declared.questions.Questions.{Questions}
use Rattle.segment_reading.specs.Reading.{ReadingState, reading_unanswered}
use Rattle.stripe_cleaner.specs.declared.input.In.{In}
use Rattle.stripe_cleaner.specs.declared.output.Out.{Out}
use Rattle.stripe_cleaner.specs.declared.output.Out.TheVariants as out
use Rattle.stripe_cleaner.specs.declared.phase.Phase.{Phase}
use Rattle.stripe_cleaner.specs.declared.phase.Phase.TheVariants.{Checking, Reading}
use Rattle.stripe_cleaner.specs.JobState.{JobState}
use Rattle.stripe_cleaner.specs.Transition as job
use Rattle.xfs_base.specs.Segments.{same_name}
use Rattle.version_model.specs.declared.answer.Answer.{Answer}
use Rattle.wire_msg.specs.declared.body.Body.TheVariants as body
use Rattle.run_laws.proofs.world_index.Asking.{drawn_more}
use Rattle.run_laws.specs.world_index.Asking.{AsksSo, Book, HandAsks, HandIn, HandSeen, IsDrawn, IsOfJob, JobAsks}
use Rattle.run_laws.proofs.world_index.AskingJobs.{CalmSo, ChecksSo, DoneSo, Follows, IsCalm, ReadsSo, transition_so}
use Rattle.run_laws.proofs.world_index.AskingSays.{AllSilent, At, Kept, SegIn, all_checks, all_steps, below_next, list_so, maps_so, quiet, usage_so, went_on}
use Rattle.xfs_base.proofs.Booleans.{by_test, and_first}
use Rattle.xfs_base.proofs.SegmentNames.{one_name}
use Rattle.xfs_base.specs.declared.block.BlockId.{BlockId}
use Rattle.xfs_base.specs.declared.entry.Entry.{Entry}
use Rattle.xfs_base.specs.declared.node.NodeId.TheVariants.{Server}
use Rattle.xfs_base.specs.declared.segment.SegName.{SegName}
use Rattle.xfs_base.specs.declared.segment.SegRef.{SegRef}
use Rattle.xfs_base.specs.Steps.{still, steps}
use Rattle.xfs_base.proofs.Alls.{all_append, all_map}

-- ---- what it stores, fetches and answers

pub stored_silent : (outs : List LogOut) → AllSilent (flat_map stored outs)
stored_silent [] = tt
stored_silent (log_out.Send fragment member ∷ outs) = (tt, stored_silent outs)
stored_silent (log_out.Settled end rows ∷ outs) = stored_silent outs

pub answers_silent : (item : Option ℕ) (a : Answer) → AllSilent (answers_unanswered item a)
answers_silent None a = tt
answers_silent (Some number) a = (tt, tt)

pub fetches_silent : (hand : Option Hand) → AllSilent (fetches hand)
fetches_silent None = tt
fetches_silent (Some hand) = by hand.reading
  where
    by : (r : Option ReadingState) → AllSilent (hand_fetch hand.seg.name r)
    by None = tt
    by (Some r) = all_map _ (fetch hand.seg.name r.ask) (λ server. tt) (reading_unanswered r)

-- ---- a segment is taken in hand

nothing_asked : (ask : ℕ) → None ≡ Some ask → ⊥
nothing_asked ask same = absurd (cc)

-- of a hand nothing more is known than what is awaited
abbrev HandOnly : Book → Questions → Option Hand → Type 0
HandOnly book q None = Unit {0}
HandOnly book q (Some hand) = HandAsks book q hand

abbrev JobOnly : Book → Questions → Option Job → Type 0
JobOnly book q None = Unit {0}
JobOnly book q (Some job) = HandOnly book q job.hand

hand_only : (book : Book) (q : Questions) (phase : Phase) (o : Option Hand) → HandIn book q phase o → HandOnly book q o
hand_only book q phase None h = tt
hand_only book q phase (Some hand) h = h.asks

module _ (book : Book) (q : Questions) (drawn_so : IsDrawn book q) (j : JobState) (segment : SegRef) where
  -- the questions then, and the segment in hand, which the job reads
  record TakenSo (t : Taken) : Type 0 where
    drawn : IsDrawn book t.questions
    hand : HandIn book t.questions (Reading j segment) t.hand

  fresh_so : (group : Option Group) → TakenSo (take_over q segment group)
  fresh_so None = record { drawn = drawn_so; hand = tt }
  fresh_so (Some group) = record {
    drawn = drawn_more book q _ (below_next q) drawn_so;
    hand = record {
      asks = record {
        drawn = λ room block ask awaited. absurd (nothing_asked ask awaited);
        named = λ room block ask name awaited fact. absurd (nothing_asked ask awaited);
      };
      job = refl;
    };
  }

  held_so : (o : Option Hand) → HandOnly book q o → is_in_hand o segment ≡ true → HandIn book q (Reading j segment) o
  held_so None h fact = tt
  held_so (Some hand) h fact = record {
    asks = h;
    job = sym (one_name hand.seg.name segment.name (and_first (same_name hand.seg.name segment.name) (hand.seg.group == segment.group) fact));
  }

  takes_so : (groups : _) (o : Option Hand) → HandOnly book q o → TakenSo (take_in_hand groups q o segment)
  unfolding take_in_hand
  takes_so groups o h =
      by_test TakenSo (is_in_hand o segment) (record { hand = o; questions = q }) (take_over q segment (known_group groups segment.group))
      (λ fact. record { drawn = drawn_so; hand = held_so o h fact }) (λ _. fresh_so (known_group groups segment.group))

module _ (book : Book) (e : Emptying) (j : JobState) (segment : SegRef) where
  -- the job reads the segment now
  abbrev Reads : Option Job → Type 0
  Reads None = Unit {0}
  Reads (Some job) = job.cleaning.phase ≡ Reading j segment

  held : (o : Option Job) → e.job ≡ o → IsDrawn book e.lasting.questions → JobOnly book e.lasting.questions o → Reads o
      → At book (holds_in e o segment)
  held None same drawn_so only fact = record { drawn = drawn_so; job = subst (JobAsks book e.lasting.questions) (sym same) tt }
  held (Some job) same drawn_so only fact =
      let t = takes_so book e.lasting.questions drawn_so j segment e.maps.groups job.hand only in
      let taken = take_in_hand e.maps.groups e.lasting.questions job.hand segment in
      record { drawn = t.drawn; job = subst (λ p. HandIn book taken.questions p taken.hand) (sym fact) t.hand }

  emptying_read_so : IsDrawn book e.lasting.questions → JobOnly book e.lasting.questions e.job → Reads e.job → Kept book (emptying_read e segment)
  unfolding emptying_read emptying_hold
  emptying_read_so drawn_so only fact =
      quiet book (holds_in e e.job segment) (fetches (hand_of (holds_in e e.job segment).job)) (fetches_silent (hand_of (holds_in e e.job segment).job))
      (held e.job refl drawn_so only fact)

-- ---- what else it does

emptying_put_so : (book : Book) (e : Emptying) (i : LogIn) → At book e → Kept book (emptying_put e i)
unfolding emptying_put
emptying_put_so book e i h = (let r = log.transition e.log i in quiet book (record e { log = r.state }) (flat_map stored r.outs) (stored_silent r.outs) h)

put_so : (book : Book) (e : Emptying) (one : BlockId × Entry × Option (List ℕ)) → At book e → Kept book (put_block e one)
unfolding put_block
put_so book e one h = emptying_put_so book e (log_in.Put one.0 one.1 one.2) h

move_all_so : (book : Book) (e : Emptying) (blocks : List (BlockId × Entry × Option (List ℕ))) → At book e → Kept book (move_all e blocks)
unfolding move_all
move_all_so book e blocks h =
    let d = steps put_block e blocks in
    went_on book d (emptying_put d.state log_in.Seal) (all_steps put_block put_so book e blocks h) (λ b k. emptying_put_so b d.state log_in.Seal k)

-- the same segment stays in hand, and nothing else is asked of it
pub rehand : (book : Book) (q : Questions) (phase : Phase) (hand later : Hand) → later.seg ≡ hand.seg → later.checks ≡ hand.checks
    → HandSeen book q phase hand → HandSeen book q phase later
rehand book q phase hand later seg checks h = record {
  asks = record {
    drawn = λ room block ask awaited. h.asks.drawn room block ask (subst (λ cs. asked_of cs block ≡ Some ask) checks awaited);
    named = λ room block ask name awaited fact.
        ap (λ (s : SegRef). s.name) seg ∙ h.asks.named room block ask name (subst (λ cs. asked_of cs block ≡ Some ask) checks awaited) fact;
  };
  job = subst (λ (s : SegRef). IsOfJob phase s.name) (sym seg) h.job;
}

dropped_so : (book : Book) (q : Questions) (phase : Phase) (o : Option Hand) → HandIn book q phase o → HandIn book q phase (dropped o)
dropped_so book q phase None h = tt
dropped_so book q phase (Some hand) h = rehand book q phase hand (record hand { dropped = true }) refl refl h

drops_silent : (is_first : Bool) (name : SegName) → AllSilent (act_dropped is_first name)
drops_silent true name = (tt, tt)
drops_silent false name = tt

emptying_delete_so : (book : Book) (e : Emptying) (o : Option Job) (server : ℕ) (name : SegName) → e.job ≡ o → At book e → Kept book (emptying_delete e o server name)
emptying_delete_so book e None server name same h = quiet book e [] tt h
emptying_delete_so book e (Some job) server name same h =
    quiet book (emptying_delete e (Some job) server name).state (emptying_delete e (Some job) server name).outs
    (all_append _ (act_dropped (is_whole job.hand) name) (Send (Server server) (body.Delete (record { name = name })) ∷ []) (drops_silent (is_whole job.hand) name)
    (tt, tt))
    (record {
      drawn = h.drawn;
      job = dropped_so book e.lasting.questions job.cleaning.phase job.hand (subst (AsksSo book e.lasting.questions) same h).job;
    })

emptying_finish_so : (book : Book) (e : Emptying) (count : ℕ) → At book e → Kept book (emptying_finish e count)
emptying_finish_so book e count h =
    quiet book (emptying_finish e count).state (emptying_finish e count).outs (answers_silent e.lasting.items.unanswered _) (record { drawn = h.drawn; job = tt })

-- what neither reads nor checks
calm_so : (book : Book) (e : Emptying) (o : Out) → IsCalm o → At book e → Kept book (says e o)
unfolding says
calm_so book e out.Hello calm h = maps_so book e e.job refl h
calm_so book e (out.List server) calm h = list_so book e e.job server refl h
calm_so book e (out.UsageAsk slot) calm h = usage_so book e e.job slot refl h
calm_so book e (out.Fetch seg) calm h = absurd calm
calm_so book e (out.Check block place) calm h = absurd calm
calm_so book e (out.Move blocks) calm h = move_all_so book e blocks h
calm_so book e (out.Delete server name) calm h = emptying_delete_so book e e.job server name refl h
calm_so book e (out.Finished count) calm h = emptying_finish_so book e count h

all_calm : (book : Book) (e : Emptying) (outs : List Out) → AllByRecursion IsCalm outs → At book e → Kept book (steps says e outs)
all_calm book e [] calm h = quiet book e [] tt h
all_calm book e (o ∷ outs) calm h =
    went_on book (says e o) (steps says (says e o).state outs) (calm_so book e o calm.0 h) (λ b k. all_calm b (says e o).state outs calm.1 k)

-- ---- its job takes an input

module _ (book : Book) (e : Emptying) (its : Job) (h : AsksSo book e.lasting.questions (Some its)) (d : job.Done) where
  abbrev then_job : Job
  then_job = record its { cleaning = d.state }

  abbrev then_e : Emptying
  then_e = record e { job = Some then_job }

  followed : (o : Option Hand) → Follows its.cleaning.phase d.state.phase → HandIn book e.lasting.questions its.cleaning.phase o
      → HandIn book e.lasting.questions d.state.phase o
  followed None follows k = tt
  followed (Some hand) follows k = record { asks = k.asks; job = follows hand.seg.name k.job }

  seg_in : (j : JobState) (segment : SegRef) (checks : _) (o : Option Hand) → HandIn book e.lasting.questions (Checking j segment checks) o → SegIn segment o
  seg_in j segment checks None k = tt
  seg_in j segment checks (Some hand) k = k.job

  calms : CalmSo its.cleaning.phase d.state.phase d.outs → Kept book (steps says then_e d.outs)
  calms c = all_calm book then_e d.outs c.calm (record { drawn = h.drawn; job = followed its.hand c.follows h.job })

  reads_next : ReadsSo d.state.phase d.outs → Kept book (steps says then_e d.outs)
  unfolding says
  reads_next r = subst (λ outs. Kept book (steps says then_e outs)) (sym r.says)
      (went_on book (emptying_read then_e r.segment) (still (emptying_read then_e r.segment).state)
      (emptying_read_so book then_e r.job r.segment h.drawn (hand_only book e.lasting.questions its.cleaning.phase its.hand h.job) r.becomes)
      (λ b k. quiet b (emptying_read then_e r.segment).state [] tt k))

  checks_on : ChecksSo its.cleaning.phase d.state.phase d.outs → Kept book (steps says then_e d.outs)
  checks_on c =
      let k = followed its.hand (subst (Follows its.cleaning.phase) (sym c.becomes) c.follows) h.job in
      all_checks book then_e c.segment d.outs c.of (record { drawn = h.drawn; job = k })
      (seg_in c.job c.segment c.checks its.hand (subst (λ p. HandIn book e.lasting.questions p its.hand) c.becomes k))

  pub taken_so : DoneSo its.cleaning d → Kept book (steps says then_e d.outs)
  taken_so t = elim t [
    | inl c ↦ calms c
    | inr more ↦ elim more [ inl r ↦ reads_next r | inr c ↦ checks_on c ]
  ]

pub emptying_clean_so : (book : Book) (e : Emptying) (i : In) → At book e → Kept book (emptying_clean e i)
unfolding emptying_clean emptying_take
emptying_clean_so book e i h = by e.job refl
  where
    by : (o : Option Job) → e.job ≡ o → Kept book (steps says (takes_in e o i).state (takes_in e o i).outs)
    by None same = quiet book e [] tt h
    by (Some its) same = taken_so book e its (subst (AsksSo book e.lasting.questions) same h) (job.transition its.cleaning i) (transition_so its.cleaning i)
