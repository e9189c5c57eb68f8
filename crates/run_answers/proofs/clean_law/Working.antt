-- What a cleaner that serves does for its job: what it asks, and what becomes of the segment in hand, which is dropped once its first server is told, or is lost.
use Rattle.std.proofs.Common.{◌≡◌, ◌<◌, ◌≤◌, ◌==◌, ◌++◌, not, ℕ, Bool, true, false, List, [], ◌∷◌, Option, None, Some, inl, inr, map, refl, sym, ap, subst, ◌∙◌, arith}
use Rattle.std.proofs.lemmas.Bool.{eqb-true}
use Rattle.std.specs.List.{AllByRecursion}
use Rattle.std.specs.Prelude.{IfSome}
use Rattle.cleaner_job.specs.declared.hand.Hand.{Hand}
use Rattle.cleaner_job.specs.declared.job.Job.{Job}
use Rattle.cleaner_job.specs.Hands.{Taken, checks_under, fetches, hand_check, is_in_hand, kept_ask, take_in_hand, take_over}
use Rattle.cleaner_job.specs.Jobs.{act_dropped, ask_of, drawn_unless, hand_checks_in, hand_of, job_check}
use Rattle.cleaner_serving.specs.declared.emptying.Emptying.{Emptying}
use Rattle.cleaner_serving.specs.Jobs as jobs
use Rattle.cleaner_serving.specs.Jobs.{Done}
use Rattle.client_log.specs.declared.input.In.{In as LogIn}
use Rattle.client_log.specs.declared.input.In.TheVariants as log_in
use Rattle.client_log.specs.Transition as log
use Rattle.group_map.specs.declared.group.Group.{Group}
use Rattle.group_map.specs.GroupMapState.{GroupMapState}
use Rattle.group_map.specs.Groups.{known_group}
use Rattle.log_owner.specs.Opening.{stored}
use Rattle.log_owner.specs.Sending.{fetch}
use Rattle.node_base.specs.Asking.{draw, next_ask}
use Rattle.node_base.specs.Beginning.{answers_unanswered}
use Rattle.node_base.specs.declared.effects.Effect.{Effect}
use Rattle.node_base.specs.declared.effects.Effect.TheVariants.{Send}
use Rattle.node_base.specs.declared.questions.Questions.{Questions}
use Rattle.segment_reading.specs.Reading.{reading_start, reading_unanswered}
use Rattle.stripe_cleaner.specs.CleaningState.{CleaningState}
use Rattle.stripe_cleaner.specs.declared.input.In.{In as Input}
use Rattle.stripe_cleaner.specs.declared.output.Out.{Out}
use Rattle.stripe_cleaner.specs.declared.output.Out.TheVariants as out
use Rattle.stripe_cleaner.specs.declared.phase.Phase.{Phase}
use Rattle.stripe_cleaner.specs.declared.phase.Phase.TheVariants.{Checking, Counting, Deleting, Greeting, Listing, Over, Reading}
use Rattle.stripe_cleaner.specs.Job.{Turn, deletes}
use Rattle.stripe_cleaner.specs.JobState.{JobState}
use Rattle.stripe_cleaner.specs.Transition.{transition}
use Rattle.version_model.specs.declared.answer.Answer.TheVariants.{Count}
use Rattle.wire_msg.specs.declared.body.Body.TheVariants as body
use Rattle.wire_msg.specs.declared.storage.Listed.{Listed}
use Rattle.xfs_base.proofs.Alls.{all_append, all_flat_map}
use Rattle.xfs_base.proofs.Booleans.{and_first, and_second, by_test}
use Rattle.xfs_base.proofs.SegmentNames.{one_name}
use Rattle.xfs_base.specs.declared.block.BlockId.{BlockId}
use Rattle.xfs_base.specs.declared.entry.Entry.{Entry}
use Rattle.xfs_base.specs.declared.entry.Place.{Place}
use Rattle.xfs_base.specs.declared.node.NodeId.TheVariants as node
use Rattle.xfs_base.specs.declared.segment.SegName.{SegName}
use Rattle.xfs_base.specs.declared.segment.SegRef.{SegRef}
use Rattle.xfs_base.specs.Segments.{same_name, same_segment}
use Rattle.xfs_base.specs.Steps.{steps, still}
use Rattle.run_answers.proofs.clean_law.Frames.{Acted, At, DueSo, EffectSo, Empties, Frame, Goes, HandSo, HasFetched, InputSo, IsDropped, JobSo, Knows, Leads, PhaseSo, TurnSo, WorksSo, from_goes, plainly, quiet_leads, rests, steps_go, then_goes}
use Rattle.run_answers.proofs.clean_law.Readings.{begins_so, next_least, next_newer}
use Rattle.run_answers.proofs.clean_law.Standing.{HandOf, InHand, hand_newer, parts}
use Rattle.run_answers.proofs.clean_law.Turns.{count_stays, taken_so}
use Rattle.run_answers.proofs.clean_law.Turns.TurnSo.{Begins, Calm, Deletes, Ends}
use Rattle.run_answers.proofs.number_law.Jobs.{fetches_quiet, stored_quiet}
use Rattle.run_answers.proofs.number_law.Tallies.{Quiet}
use Rattle.run_answers.proofs.number_law.Turning.{IsCalm}

one_segment : (a b : SegRef) → same_segment a b ≡ true → a ≡ b
one_segment a b fact =
    ap (λ (name : SegName). record { name = name; group = a.group }) (one_name a.name b.name (and_first (same_name a.name b.name) (a.group == b.group) fact))
    ∙ ap (λ (group : ℕ). record { name = b.name; group = group }) (eqb-true a.group b.group (and_second (same_name a.name b.name) (a.group == b.group) fact))

least_later : (o : Option ℕ) (q : Questions) → q.last ≤ (drawn_unless o q).last
least_later None q = next_least q
least_later (Some ask) q = omega arith

module _ (f : Frame) where
  ask_newer : (o : Option ℕ) (q : Questions) → f.last ≤ q.last → IfSome o (λ (ask : ℕ). f.last < ask) → f.last < ask_of o q
  ask_newer None q low h = next_newer f.last q low f.room
  ask_newer (Some ask) q low h = h

  -- ---- with later questions, another hand, or another phase

  pub questions_later : (u : Option ℕ) (q p : Questions) (groups : Option GroupMapState) (job : Job) → q.last ≤ p.last → WorksSo f u q groups job
      → WorksSo f u p groups job
  questions_later u q p groups job later h =
      let low = h.low in
      record {
        waits = h.waits;
        low = omega (arith, low, later);
        known = h.known;
        hello = h.hello;
        lists = h.lists;
        count = h.count;
        hand = hand_newer f.e f.begun f.end f.last f.at_first q p later job.hand h.hand;
        phase = h.phase;
      }

  phase_with : (asked : Option ℕ) (o p : Option Hand) → ((s : SegRef) → HandOf o s → HandOf p s) → ((s : SegRef) → InHand o s → InHand p s) → (x : Phase)
      → PhaseSo f asked o x → PhaseSo f asked p x
  phase_with asked o p any is Greeting h = tt
  phase_with asked o p any is (Listing l) h = h
  phase_with asked o p any is (Counting c) h = h
  phase_with asked o p any is (Reading j segment) h = (h.0, any segment h.1)
  phase_with asked o p any is (Checking j segment checks) h = (h.0, is segment h.1)
  phase_with asked o p any is (Deleting j segment servers) h = (h.0, is segment h.1, h.2)
  phase_with asked o p any is Over h = tt

  pub with_hand : (u : Option ℕ) (q : Questions) (groups : Option GroupMapState) (job : Job) (hand : Option Hand) → IfSome hand (HandSo f q)
      → ((s : SegRef) → HandOf job.hand s → HandOf hand s) → ((s : SegRef) → InHand job.hand s → InHand hand s) → WorksSo f u q groups job
      → WorksSo f u q groups (record job { hand = hand })
  with_hand u q groups job hand so any is h = record {
    waits = h.waits;
    low = h.low;
    known = h.known;
    hello = h.hello;
    lists = h.lists;
    count = h.count;
    hand = so;
    phase = phase_with job.lists job.hand hand any is job.cleaning.phase h.phase;
  }

  with_phase : (u : Option ℕ) (q : Questions) (groups : Option GroupMapState) (job : Job) (c : CleaningState) (hand : Option Hand)
      → IfSome hand (HandSo f q) → c.count ≡ f.many → PhaseSo f job.lists hand c.phase → WorksSo f u q groups job
      → WorksSo f u q groups (record job { cleaning = c; hand = hand })
  with_phase u q groups job c hand so same phase h = record {
    waits = h.waits;
    low = h.low;
    known = h.known;
    hello = h.hello;
    lists = h.lists;
    count = same;
    hand = so;
    phase = phase;
  }

  pub job_now : (u : Option ℕ) (q : Questions) (groups : Option GroupMapState) (o : Option Job) (job : Job) → o ≡ Some job → JobSo f u q groups o
      → WorksSo f u q groups job
  job_now u q groups o job same h = subst (JobSo f u q groups) same h

  -- ---- what the job asks

  maps_go : (s : Emptying) (o : Option Job) → s.job ≡ o → Goes f s (jobs.ask_maps s o)
  maps_go s None same = rests f s
  maps_go s (Some job) same =
      plainly f s (jobs.ask_maps s (Some job))
      (λ h. asked (job_now s.lasting.items.unanswered s.lasting.questions s.maps.groups s.job job same h)) (tt, tt)
    where
      asked : WorksSo f s.lasting.items.unanswered s.lasting.questions s.maps.groups job
          → WorksSo f s.lasting.items.unanswered (drawn_unless job.hello s.lasting.questions) s.maps.groups
          (record job { hello = Some (ask_of job.hello s.lasting.questions) })
      asked h =
          let w = questions_later s.lasting.items.unanswered s.lasting.questions (drawn_unless job.hello s.lasting.questions) s.maps.groups job
          (least_later job.hello s.lasting.questions) h in
          record {
            waits = w.waits;
            low = w.low;
            known = w.known;
            hello = ask_newer job.hello s.lasting.questions h.low h.hello;
            lists = w.lists;
            count = w.count;
            hand = w.hand;
            phase = w.phase;
          }

  -- no list is in while none is asked for
  phase_asked : (q : Questions) (o : Option ℕ) (hand : Option Hand) (p : Phase) → PhaseSo f o hand p → PhaseSo f (Some (ask_of o q)) hand p
  phase_asked q (Some ask) hand p h = h
  phase_asked q None hand Greeting h = tt
  phase_asked q None hand (Listing l) h = record {
    welcomed = h.welcomed;
    slots = h.slots;
    lists = h.lists;
    come = h.come;
    under = none_yet h.lists h.under;
    all = h.all;
    are = h.are;
  }
    where
      none_yet : (lists : List (ℕ × Listed)) → AllByRecursion (λ (list : ℕ × Listed). None ≡ Some list.1.ask) lists
          → AllByRecursion (λ (list : ℕ × Listed). Some (next_ask q) ≡ Some list.1.ask) lists
      none_yet [] all = tt
      none_yet (list ∷ lists) all = absurd (no_ask all.0)
        where
          no_ask : None ≡ Some list.1.ask → ⊥
          no_ask fact = cc
  phase_asked q None hand (Counting c) h = h
  phase_asked q None hand (Reading j segment) h = h
  phase_asked q None hand (Checking j segment checks) h = h
  phase_asked q None hand (Deleting j segment servers) h = h
  phase_asked q None hand Over h = tt

  list_goes : (s : Emptying) (o : Option Job) (server : ℕ) → s.job ≡ o → Goes f s (jobs.ask_list s o server)
  list_goes s None server same = rests f s
  list_goes s (Some job) server same =
      plainly f s (jobs.ask_list s (Some job) server)
      (λ h. asked (job_now s.lasting.items.unanswered s.lasting.questions s.maps.groups s.job job same h)) (tt, tt)
    where
      asked : WorksSo f s.lasting.items.unanswered s.lasting.questions s.maps.groups job
          → WorksSo f s.lasting.items.unanswered (drawn_unless job.lists s.lasting.questions) s.maps.groups
          (record job { lists = Some (ask_of job.lists s.lasting.questions) })
      asked h =
          let w = questions_later s.lasting.items.unanswered s.lasting.questions (drawn_unless job.lists s.lasting.questions) s.maps.groups job
          (least_later job.lists s.lasting.questions) h in
          record {
            waits = w.waits;
            low = w.low;
            known = w.known;
            hello = w.hello;
            lists = ask_newer job.lists s.lasting.questions h.low h.lists;
            count = w.count;
            hand = w.hand;
            phase = phase_asked s.lasting.questions job.lists job.hand job.cleaning.phase w.phase;
          }

  usage_goes : (s : Emptying) (o : Option Job) (slot : ℕ) → s.job ≡ o → Goes f s (jobs.ask_usage s o slot)
  usage_goes s None slot same = rests f s
  usage_goes s (Some job) slot same =
      plainly f s (jobs.ask_usage s (Some job) slot)
      (λ h. asked (job_now s.lasting.items.unanswered s.lasting.questions s.maps.groups s.job job same h)) (tt, tt)
    where
      asked : WorksSo f s.lasting.items.unanswered s.lasting.questions s.maps.groups job
          → WorksSo f s.lasting.items.unanswered (drawn_unless job.usages s.lasting.questions) s.maps.groups
          (record job { usages = Some (ask_of job.usages s.lasting.questions) })
      asked h =
          let w = questions_later s.lasting.items.unanswered s.lasting.questions (drawn_unless job.usages s.lasting.questions) s.maps.groups job
          (least_later job.usages s.lasting.questions) h in
          record {
            waits = w.waits;
            low = w.low;
            known = w.known;
            hello = w.hello;
            lists = w.lists;
            count = w.count;
            hand = w.hand;
            phase = w.phase;
          }

  sent_goes : (s : Emptying) (block : BlockId) (place : Place) (ask : Option ℕ) → Goes f s (jobs.check_sent s block place ask)
  sent_goes s block place None = rests f s
  sent_goes s block place (Some ask) = plainly f s (jobs.check_sent s block place (Some ask)) (λ h. h) (tt, tt)

  checked_so : (u : Option ℕ) (q : Questions) (groups : Option GroupMapState) (job : Job) (hand : Hand) (block : BlockId) (ask : Option ℕ)
      → WorksSo f u q groups (record job { hand = Some hand })
      → WorksSo f u (checks_under hand q block ask).questions groups (record job { hand = Some (checks_under hand q block ask).hand })
  checked_so u q groups job hand block (Some ask) h = h
  checked_so u q groups job hand block None h =
      questions_later u q (draw q) groups (record job { hand = Some (checks_under hand q block None).hand }) (next_least q)
      (with_hand u q groups (record job { hand = Some hand }) (Some (checks_under hand q block None).hand)
      (record { reading = h.hand.reading; dropped = h.hand.dropped }) (λ s is. is) (λ s is. is) h)

  check_goes : (s : Emptying) (block : BlockId) (place : Place) → Goes f s (jobs.ask_check s block place)
  unfolding jobs.ask_check jobs.emptying_check job_check hand_check
  check_goes s block place =
      let c = jobs.checked_in s s.job block in
      from_goes f s c.state (jobs.check_sent c.state block place c.ask) (λ h. by s.job h h) (sent_goes c.state block place c.ask)
    where
      by_hand : (job : Job) (hand : Option Hand) → job.hand ≡ hand → WorksSo f s.lasting.items.unanswered s.lasting.questions s.maps.groups job
          → At f (jobs.checked_with s (hand_checks_in job s.lasting.questions hand block)).state
      by_hand job None same h = h
      by_hand job (Some hand) same h =
          checked_so s.lasting.items.unanswered s.lasting.questions s.maps.groups job hand block (kept_ask hand block)
          (subst (λ (o : Option Hand). WorksSo f s.lasting.items.unanswered s.lasting.questions s.maps.groups (record job { hand = o })) same h)

      by : (o : Option Job) → At f s → JobSo f s.lasting.items.unanswered s.lasting.questions s.maps.groups o → At f (jobs.checked_in s o block).state
      by None its h = its
      by (Some job) its h = by_hand job job.hand refl h

  puts_go : (s : Emptying) (i : LogIn) → Goes f s (jobs.emptying_put s i)
  unfolding jobs.emptying_put
  puts_go s i = plainly f s _ (λ h. h) (all_flat_map Quiet stored stored_quiet (log.transition s.log i).outs)

  block_goes : (s : Emptying) (one : BlockId × Entry × Option (List ℕ)) → Goes f s (jobs.put_block s one)
  unfolding jobs.put_block
  block_goes s one = puts_go s (log_in.Put one.0 one.1 one.2)

  moves_go : (s : Emptying) (blocks : List (BlockId × Entry × Option (List ℕ))) → Goes f s (jobs.move_all s blocks)
  unfolding jobs.move_all
  moves_go s blocks =
      let d : Done = steps jobs.put_block s blocks in
      then_goes f s d (jobs.emptying_put d.state log_in.Seal) (steps_go f jobs.put_block block_goes s blocks) (puts_go d.state log_in.Seal)

  calm_goes : (s : Emptying) (o : Out) → IsCalm o → Goes f s (jobs.says s o)
  unfolding jobs.says
  calm_goes s out.Hello calm = maps_go s s.job refl
  calm_goes s (out.List server) calm = list_goes s s.job server refl
  calm_goes s (out.UsageAsk slot) calm = usage_goes s s.job slot refl
  calm_goes s (out.Fetch seg) calm = absurd calm
  calm_goes s (out.Check block place) calm = check_goes s block place
  calm_goes s (out.Move blocks) calm = moves_go s blocks
  calm_goes s (out.Delete server name) calm = absurd calm
  calm_goes s (out.Finished count) calm = absurd calm

  all_calm : (outs : List Out) (s : Emptying) → AllByRecursion IsCalm outs → Goes f s (steps jobs.says s outs)
  all_calm [] s calm = rests f s
  all_calm (o ∷ outs) s calm =
      then_goes f s (jobs.says s o) (steps jobs.says (jobs.says s o).state outs) (calm_goes s o calm.0) (all_calm outs (jobs.says s o).state calm.1)

  -- ---- a segment is taken in hand

  -- servers that it asks in this event it has asked
  pub asks_acted : (name : SegName) (ask : ℕ) (servers : List ℕ) → AllByRecursion (Acted f) (map (fetch name ask) servers)
      → AllByRecursion (HasFetched f name ask) servers
  asks_acted name ask [] acted = tt
  asks_acted name ask (server ∷ servers) acted = (acted.0, asks_acted name ask servers acted.1)

  take_over_so : (groups : Option GroupMapState) (q : Questions) (segment : SegRef) → f.last ≤ q.last → IfSome groups (Knows f) → (group : Option Group)
      → known_group groups segment.group ≡ group
      → AllByRecursion (Acted f) (fetches (take_over q segment group).hand)
      → IfSome (take_over q segment group).hand (HandSo f (take_over q segment group).questions)
  take_over_so groups q segment low known None its acted = tt
  take_over_so None q segment low known (Some group) its acted = absurd (no_group its)
    where
      no_group : None ≡ Some group → ⊥
      no_group fact = cc
  take_over_so (Some groups) q segment low known (Some group) its acted = record {
    reading = begins_so f.e f.begun f.end f.last f.at_first q segment groups known group its low f.room
        (asks_acted segment.name (next_ask q) (reading_unanswered (reading_start (record { seg = segment; block = None }) group (next_ask q))) acted);
    dropped = λ fact. absurd (not_dropped fact);
  }
    where
      not_dropped : false ≡ true → ⊥
      not_dropped fact = cc

  record TakenSo (q : Questions) (segment : SegRef) (hand : Option Hand) (p : Questions) : Type 0 where
    later : q.last ≤ p.last
    so : IfSome hand (HandSo f p)
    its : HandOf hand segment

  over_so : (groups : Option GroupMapState) (q : Questions) (segment : SegRef) → f.last ≤ q.last → IfSome groups (Knows f)
      → AllByRecursion (Acted f) (fetches (take_over q segment (known_group groups segment.group)).hand)
      → TakenSo q segment (take_over q segment (known_group groups segment.group)).hand (take_over q segment (known_group groups segment.group)).questions
  over_so groups q segment low known acted =
      let so = take_over_so groups q segment low known (known_group groups segment.group) refl acted in by (known_group groups segment.group) so
    where
      by : (group : Option Group) → IfSome (take_over q segment group).hand (HandSo f (take_over q segment group).questions)
          → TakenSo q segment (take_over q segment group).hand (take_over q segment group).questions
      by None so = record { later = omega arith; so = tt; its = tt }
      by (Some group) so = record { later = next_least q; so = so; its = refl }

  taken_in_hand : (groups : Option GroupMapState) (q : Questions) (segment : SegRef) (hand : Option Hand) → f.last ≤ q.last → IfSome groups (Knows f)
      → IfSome hand (HandSo f q) → AllByRecursion (Acted f) (fetches (take_in_hand groups q hand segment).hand)
      → TakenSo q segment (take_in_hand groups q hand segment).hand (take_in_hand groups q hand segment).questions
  unfolding take_in_hand
  taken_in_hand groups q segment None low known so = over_so groups q segment low known
  taken_in_hand groups q segment (Some hand) low known so =
      by_test (λ (t : Taken). AllByRecursion (Acted f) (fetches t.hand) → TakenSo q segment t.hand t.questions) (is_in_hand (Some hand) segment) (record { hand = Some hand; questions = q })
      (take_over q segment (known_group groups segment.group))
      (λ fact _. record { later = omega arith; so = so; its = one_segment hand.seg segment fact })
      (λ _. over_so groups q segment low known)

  -- ---- a segment is deleted

  abbrev pub in_hand : Emptying → Job → Option Hand → Emptying
  in_hand s job hand = record s { job = Some (record job { hand = hand }) }

  first_dropped : (flag : Bool) (name : SegName) (rest : List Effect) → (flag ≡ true → IsDropped f name)
      → AllByRecursion (Acted f) (act_dropped (not flag) name ++ rest) → IsDropped f name
  first_dropped true name rest before acted = before refl
  first_dropped false name rest before acted = acted.0

  act_silent : (flag : Bool) (name : SegName) (x : Effect) → EffectSo f x → AllByRecursion (EffectSo f) (act_dropped flag name ++ x ∷ [])
  act_silent true name x so = (tt, (so, tt))
  act_silent false name x so = (so, tt)

  module _ (s : Emptying) (job : Job) (segment : SegRef) (dropped : IsDropped f segment.name) where
    again_go : (servers : List ℕ) (hand : Hand) → hand.seg ≡ segment → Goes f (in_hand s job (Some hand))
        (steps jobs.says (in_hand s job (Some hand)) (deletes segment.name servers))
    unfolding jobs.says
    again_go [] hand same = rests f (in_hand s job (Some hand))
    again_go (server ∷ servers) hand same =
        let one : Done = jobs.emptying_delete (in_hand s job (Some hand)) (Some (record job { hand = Some hand })) server segment.name in
        then_goes f (in_hand s job (Some hand)) one (steps jobs.says one.state (deletes segment.name servers))
        (λ h acted. record {
          state = with_hand s.lasting.items.unanswered s.lasting.questions s.maps.groups (record job { hand = Some hand }) (Some (record hand { dropped = true }))
              (record { reading = h.hand.reading; dropped = λ _. subst (λ (x : SegRef). IsDropped f x.name) (sym same) dropped }) (λ x is. is) (λ x is. is) h;
          outs = act_silent (not hand.dropped) segment.name (Send (node.Server server) (body.Delete (record { name = segment.name }))) tt;
        })
        (again_go servers (record hand { dropped = true }) same)

  -- ---- the job takes a turn

  one_number : (a b : ℕ) → Some a ≡ Some b → a ≡ b
  one_number a b fact = cc

  ends_so : (u : Option ℕ) (count : ℕ) → u ≡ Some f.item → DueSo f count → AllByRecursion (EffectSo f) (answers_unanswered u (Count count) ++ [])
  ends_so None count same due = tt
  ends_so (Some number) count same due = ((one_number number f.item same, due), tt)

  module _ (s : Emptying) (job : Job) (c : CleaningState) (count : c.count ≡ f.many)
      (was : WorksSo f s.lasting.items.unanswered s.lasting.questions s.maps.groups job) where
    abbrev its : Emptying
    its = record s { job = Some (record job { cleaning = c }) }

    phased : PhaseSo f job.lists job.hand c.phase → At f its
    phased phase = with_phase s.lasting.items.unanswered s.lasting.questions s.maps.groups job c job.hand was.hand count phase was

    deletes_lead : (j : JobState) (segment : SegRef) (servers : List ℕ) → c.phase ≡ Deleting j segment servers → Empties f (segment ∷ j.left) j.deleted
        → (o : Option Hand) → IfSome o (HandSo f s.lasting.questions) → InHand o segment
        → AllByRecursion (Acted f) (steps jobs.says (in_hand s (record job { cleaning = c }) o) (deletes segment.name servers)).outs
        → Leads f (steps jobs.says (in_hand s (record job { cleaning = c }) o) (deletes segment.name servers))
    unfolding jobs.says
    deletes_lead j segment [] phase so o held is acted =
        rests f (in_hand s (record job { cleaning = c }) o)
        (with_phase s.lasting.items.unanswered s.lasting.questions s.maps.groups job c o held count
        (subst (PhaseSo f job.lists o) (sym phase) (so, is, inr refl)) was) tt
    deletes_lead j segment (server ∷ servers) phase so None held is acted = absurd is
    deletes_lead j segment (server ∷ servers) phase so (Some hand) held is acted =
        let one : Done = jobs.emptying_delete (in_hand s (record job { cleaning = c }) (Some hand)) (Some (record job { cleaning = c; hand = Some hand })) server segment.name in
        let front = parts f.e f.begun f.end f.last f.at_first f.many f.item one.outs (steps jobs.says one.state (deletes segment.name servers)).outs acted in
        let dropped : IsDropped f segment.name =
        first_dropped hand.dropped segment.name (Send (node.Server server) (body.Delete (record { name = segment.name })) ∷ [])
        (λ fact. subst (λ (x : SegRef). IsDropped f x.name) is (held.dropped fact)) front.0 in
        again_go s (record job { cleaning = c }) segment dropped (server ∷ servers) hand is
        (with_phase s.lasting.items.unanswered s.lasting.questions s.maps.groups job c (Some hand) held count
        (subst (PhaseSo f job.lists (Some hand)) (sym phase) (so, is, inl dropped)) was) acted

    turn_leads : (t : Turn) → c.phase ≡ t.state → TurnSo f job.lists job.hand t → AllByRecursion (Acted f) (steps jobs.says its t.outs).outs
        → Leads f (steps jobs.says its t.outs)
    unfolding jobs.says jobs.emptying_read jobs.emptying_hold
    turn_leads t phase (Calm h calm) acted = all_calm t.outs its calm (phased (subst (PhaseSo f job.lists job.hand) (sym phase) h)) acted
    turn_leads t phase (Begins j segment so) acted =
        let d : Done = jobs.says its (out.Fetch segment) in
        let front = parts f.e f.begun f.end f.last f.at_first f.many f.item d.outs [] acted in
        let taken = taken_in_hand s.maps.groups s.lasting.questions segment job.hand was.low was.known was.hand front.0 in
        let one : Leads f d =
        quiet_leads f d
        (with_phase s.lasting.items.unanswered (take_in_hand s.maps.groups s.lasting.questions job.hand segment).questions s.maps.groups job c
        (take_in_hand s.maps.groups s.lasting.questions job.hand segment).hand taken.so count
        (subst (PhaseSo f job.lists (take_in_hand s.maps.groups s.lasting.questions job.hand segment).hand) (sym phase) (so, taken.its))
        (questions_later s.lasting.items.unanswered s.lasting.questions (take_in_hand s.maps.groups s.lasting.questions job.hand segment).questions s.maps.groups job taken.later was))
        (fetches_quiet (hand_of d.state.job)) in
        record { state = one.state; outs = all_append (EffectSo f) d.outs [] one.outs tt }
    turn_leads t phase (Deletes j segment servers so is) acted = deletes_lead j segment servers phase so job.hand was.hand is acted
    turn_leads t phase (Ends j due) acted =
        record { state = tt; outs = ends_so s.lasting.items.unanswered j.deleted was.waits due }

  -- ---- the job takes an input

  pub cleans_go : (s : Emptying) (given : Input)
      → ((job : Job) → s.job ≡ Some job → WorksSo f s.lasting.items.unanswered s.lasting.questions s.maps.groups job → InputSo f job.lists job.hand given)
      → Goes f s (jobs.emptying_clean s given)
  unfolding jobs.emptying_clean jobs.emptying_take
  cleans_go s given fits h = by s.job refl h
    where
      by : (o : Option Job) → s.job ≡ o → JobSo f s.lasting.items.unanswered s.lasting.questions s.maps.groups o
          → AllByRecursion (Acted f) (steps jobs.says (jobs.takes_in s o given).state (jobs.takes_in s o given).outs).outs
          → Leads f (steps jobs.says (jobs.takes_in s o given).state (jobs.takes_in s o given).outs)
      by None same k acted = quiet_leads f (still s) h tt
      by (Some job) same k acted =
          let d = transition job.cleaning given in
          turn_leads s job d.state (count_stays f.e f.begun f.end f.last f.at_first f.many f.item job.lists job.hand job.cleaning given ∙ k.count) k
          (record { state = d.state.phase; outs = d.outs }) refl
          (taken_so f.e f.begun f.end f.last f.at_first f.many f.item job.lists job.hand job.cleaning given k.count (fits job same k) k.phase) acted
