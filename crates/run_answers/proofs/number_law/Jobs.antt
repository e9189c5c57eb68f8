-- What a cleaner that serves does for its job: what it asks, and what becomes of the segment in hand, which is dropped once its first server is told.
use Rattle.std.proofs.Common.{◌≡◌, ◌⊎◌, ◌+◌, ◌==◌, ◌++◌, min, not, ℕ, Bool, true, false, List, [], ◌∷◌, Option, None, Some, inl, inr, refl, sym, ap, subst, ◌∙◌, arith}
use Rattle.std.specs.List.{AllByRecursion}
use Rattle.cleaner_job.specs.declared.hand.Hand.{Hand}
use Rattle.cleaner_job.specs.declared.job.Job.{Job}
use Rattle.cleaner_job.specs.Hands.{checks_under, confirmed_by, fetches, hand_check, hand_confirmed, hand_fetch, hand_hear, hears_by, is_in_hand, kept_ask, take_in_hand, take_over}
use Rattle.cleaner_job.specs.Jobs.{act_dropped, hand_checks_in, hand_confirmed_in, hand_hears_in, hand_moved, hand_of, job_check, job_confirmed, job_hear, note_read, read_over}
use Rattle.cleaner_serving.specs.declared.emptying.Emptying.{Emptying}
use Rattle.cleaner_serving.specs.Jobs as jobs
use Rattle.cleaner_serving.specs.Jobs.{Done}
use Rattle.client_log.specs.declared.input.In.{In as LogIn}
use Rattle.client_log.specs.declared.input.In.TheVariants as log_in
use Rattle.client_log.specs.declared.output.Out.{Out as LogOut}
use Rattle.client_log.specs.declared.output.Out.TheVariants as log_out
use Rattle.client_log.specs.Transition as log
use Rattle.group_map.specs.declared.group.Group.{Group}
use Rattle.group_map.specs.GroupMapState.{GroupMapState}
use Rattle.group_map.specs.Groups.{known_group}
use Rattle.log_owner.specs.Opening.{stored}
use Rattle.log_owner.specs.Sending.{fetch}
use Rattle.node_base.specs.Asking.{draw, next_ask}
use Rattle.node_base.specs.Beginning.{answers_unanswered}
use Rattle.node_base.specs.declared.effects.Effect.TheVariants.{Send}
use Rattle.node_base.specs.declared.questions.Questions.{Questions}
use Rattle.node_base.specs.Maps.{fits}
use Rattle.segment_format.specs.declared.segment.Segment.{Segment}
use Rattle.segment_reading.specs.declared.reading.Next.{Next}
use Rattle.segment_reading.specs.declared.reading.Next.TheVariants as next
use Rattle.segment_reading.specs.Reading.{ReadingState, reading_unanswered}
use Rattle.stripe_cleaner.specs.declared.input.In.{In}
use Rattle.stripe_cleaner.specs.declared.input.In.TheVariants as input
use Rattle.stripe_cleaner.specs.declared.output.Out.{Out}
use Rattle.stripe_cleaner.specs.declared.output.Out.TheVariants as out
use Rattle.stripe_cleaner.specs.declared.phase.Phase.TheVariants.{Deleting}
use Rattle.stripe_cleaner.specs.Job.{Turn, deletes}
use Rattle.stripe_cleaner.specs.JobState.{JobState}
use Rattle.stripe_cleaner.specs.Transition.{transition}
use Rattle.stripe_code.specs.declared.round.Told.{Told as Answered}
use Rattle.version_model.specs.declared.answer.Answer.TheVariants.{Count}
use Rattle.wire_msg.specs.declared.body.Body.TheVariants as body
use Rattle.xfs_base.proofs.Alls.{all_flat_map, all_map}
use Rattle.xfs_base.proofs.Booleans.{and_first, by_test}
use Rattle.xfs_base.proofs.SegmentNames.{one_name}
use Rattle.xfs_base.specs.declared.block.BlockId.{BlockId}
use Rattle.xfs_base.specs.declared.entry.Entry.{Entry}
use Rattle.xfs_base.specs.declared.entry.Place.{Place}
use Rattle.xfs_base.specs.declared.node.NodeId.TheVariants as node
use Rattle.xfs_base.specs.declared.segment.SegName.{SegName}
use Rattle.xfs_base.specs.declared.segment.SegRef.{SegRef}
use Rattle.xfs_base.specs.Limits.{u32_end}
use Rattle.xfs_base.specs.Segments.{same_name}
use Rattle.xfs_base.specs.Steps.{steps, still}
use Rattle.run_answers.proofs.number_law.Choosing.{Apart}
use Rattle.run_answers.proofs.number_law.Tallies.{At, CountsSo, Goes, IsDeleted, IsWhole, JobSo, Leads, PhaseSo, Quiet, drops, from_goes, leads_on, none_dropped, plainly, quiet_leads, rests, seen_of, steps_go, then_goes}
use Rattle.run_answers.proofs.number_law.Tallies.IsDeleted.{Told, Untold}
use Rattle.run_answers.proofs.number_law.Turning.{InputSo, IsCalm, IsFree, TurnSo, taken_so}
use Rattle.run_answers.proofs.number_law.Turning.TurnSo.{Begins, Calm, Deletes, Ends}

-- ---- the segment in hand

-- one that is taken in hand isn't dropped
module _ (groups : Option GroupMapState) (q : Questions) (segment : SegRef) where
  over_whole : (group : Option Group) → IsWhole (seen_of (take_over q segment group).hand) segment.name
  over_whole None = tt
  over_whole (Some group) = (refl, refl)

  take_whole : (hand : Option Hand) → IsFree (seen_of hand) segment.name → IsWhole (seen_of (take_in_hand groups q hand segment).hand) segment.name
  unfolding take_in_hand
  take_whole None free = over_whole (known_group groups segment.group)
  take_whole (Some hand) free =
      by_test (λ t. IsWhole (seen_of t.hand) segment.name) (is_in_hand (Some hand) segment) (record { hand = Some hand; questions = q })
      (take_over q segment (known_group groups segment.group))
      (λ fact. let same = one_name hand.seg.name segment.name
      (and_first (same_name hand.seg.name segment.name) (hand.seg.group == segment.group) fact) in (same, free same))
      (λ _. over_whole (known_group groups segment.group))

read_same : (hand : Option Hand) → seen_of (read_over hand) ≡ seen_of hand
read_same None = refl
read_same (Some hand) = refl

pub moved_same : (hand : Option Hand) → seen_of (hand_moved hand) ≡ seen_of hand
moved_same None = refl
moved_same (Some hand) = refl

checked_same : (hand : Hand) (q : Questions) (block : BlockId) (ask : Option ℕ) → seen_of (Some (checks_under hand q block ask).hand) ≡ seen_of (Some hand)
checked_same hand q block None = refl
checked_same hand q block (Some ask) = refl

heard_same : (hand : Hand) (r : Option ReadingState) (groups : GroupMapState) (ask server : ℕ) (t : Answered)
    → seen_of (Some (hears_by hand r groups ask server t).state) ≡ seen_of (Some hand)
heard_same hand None groups ask server t = refl
heard_same hand (Some r) groups ask server t = refl

confirmed_same : (hand : Hand) (r : Option ReadingState) (ask : ℕ) → seen_of (Some (confirmed_by hand r ask).state) ≡ seen_of (Some hand)
confirmed_same hand None ask = refl
confirmed_same hand (Some r) ask = refl

nothing_seen : (x : SegName × Bool) → None ≡ Some x → ⊥
nothing_seen x fact = cc

abbrev seen_name : SegName → Option (SegName × Bool) → SegName
seen_name other None = other
seen_name other (Some seen) = seen.0

abbrev seen_flag : Option (SegName × Bool) → Bool
seen_flag None = false
seen_flag (Some seen) = seen.1

-- ---- what is quiet

pub fetches_quiet : (hand : Option Hand) → AllByRecursion Quiet (fetches hand)
fetches_quiet None = tt
fetches_quiet (Some hand) = each hand.reading
  where
    each : (r : Option ReadingState) → AllByRecursion Quiet (hand_fetch hand.seg.name r)
    each None = tt
    each (Some r) = all_map Quiet (fetch hand.seg.name r.ask) (λ server. tt) (reading_unanswered r)

pub stored_quiet : (o : LogOut) → AllByRecursion Quiet (stored o)
stored_quiet (log_out.Send fragment member) = (tt, tt)
stored_quiet (log_out.Settled end rows) = tt

module _ (item : ℕ) where
  -- the job as it is, or with another hand in which the same is seen
  job_now : (n : ℕ) (u : Option ℕ) (o : Option Job) (job : Job) → o ≡ Some job → JobSo item n u o → JobSo item n u (Some job)
  job_now n u o job same h = subst (JobSo item n u) same h

  pub other_hand : (n : ℕ) (u : Option ℕ) (job : Job) (hand : Option Hand) → seen_of hand ≡ seen_of job.hand → JobSo item n u (Some job)
      → JobSo item n u (Some (record job { hand = hand }))
  other_hand n u job hand same h = (h.0, subst (λ seen. PhaseSo n seen job.cleaning.phase) (sym same) h.1)

  -- ---- what the job asks

  maps_go : (e : Emptying) (o : Option Job) → e.job ≡ o → Goes item e (jobs.ask_maps e o)
  maps_go e None same = rests item e
  maps_go e (Some job) same = plainly item e _ (λ n h. job_now n e.lasting.items.unanswered e.job job same h) (tt, tt)

  list_goes : (e : Emptying) (o : Option Job) (server : ℕ) → e.job ≡ o → Goes item e (jobs.ask_list e o server)
  list_goes e None server same = rests item e
  list_goes e (Some job) server same = plainly item e _ (λ n h. job_now n e.lasting.items.unanswered e.job job same h) (tt, tt)

  usage_goes : (e : Emptying) (o : Option Job) (slot : ℕ) → e.job ≡ o → Goes item e (jobs.ask_usage e o slot)
  usage_goes e None slot same = rests item e
  usage_goes e (Some job) slot same = plainly item e _ (λ n h. job_now n e.lasting.items.unanswered e.job job same h) (tt, tt)

  sent_goes : (e : Emptying) (block : BlockId) (place : Place) (ask : Option ℕ) → Goes item e (jobs.check_sent e block place ask)
  sent_goes e block place None = rests item e
  sent_goes e block place (Some ask) = plainly item e _ (λ n h. h) (tt, tt)

  check_goes : (e : Emptying) (block : BlockId) (place : Place) → Goes item e (jobs.ask_check e block place)
  unfolding jobs.ask_check jobs.emptying_check job_check hand_check
  check_goes e block place =
      let c = jobs.checked_in e e.job block in
      from_goes item e c.state (jobs.check_sent c.state block place c.ask) (λ n h. by n e.job h h) (sent_goes c.state block place c.ask)
    where
      by_hand : (n : ℕ) (job : Job) (hand : Option Hand) → job.hand ≡ hand → JobSo item n e.lasting.items.unanswered (Some job)
          → JobSo item n e.lasting.items.unanswered (Some (hand_checks_in job e.lasting.questions hand block).job)
      by_hand n job None same h = h
      by_hand n job (Some hand) same h =
          other_hand n e.lasting.items.unanswered job (Some (hand_check hand e.lasting.questions block).hand)
          (checked_same hand e.lasting.questions block (kept_ask hand block) ∙ ap seen_of (sym same)) h

      by : (n : ℕ) (o : Option Job) → At item n e → JobSo item n e.lasting.items.unanswered o → At item n (jobs.checked_in e o block).state
      by n None its h = its
      by n (Some job) its h = by_hand n job job.hand refl h

  puts_go : (e : Emptying) (i : LogIn) → Goes item e (jobs.emptying_put e i)
  unfolding jobs.emptying_put
  puts_go e i = plainly item e _ (λ n h. h) (all_flat_map Quiet stored stored_quiet (log.transition e.log i).outs)

  block_goes : (e : Emptying) (one : BlockId × Entry × Option (List ℕ)) → Goes item e (jobs.put_block e one)
  unfolding jobs.put_block
  block_goes e one = puts_go e (log_in.Put one.0 one.1 one.2)

  moves_go : (e : Emptying) (blocks : List (BlockId × Entry × Option (List ℕ))) → Goes item e (jobs.move_all e blocks)
  unfolding jobs.move_all
  moves_go e blocks =
      let d : Done = steps jobs.put_block e blocks in
      then_goes item e d (jobs.emptying_put d.state log_in.Seal) (steps_go item jobs.put_block block_goes e blocks) (puts_go d.state log_in.Seal)

  calm_goes : (e : Emptying) (o : Out) → IsCalm o → Goes item e (jobs.says e o)
  unfolding jobs.says
  calm_goes e out.Hello calm = maps_go e e.job refl
  calm_goes e (out.List server) calm = list_goes e e.job server refl
  calm_goes e (out.UsageAsk slot) calm = usage_goes e e.job slot refl
  calm_goes e (out.Fetch seg) calm = absurd calm
  calm_goes e (out.Check block place) calm = check_goes e block place
  calm_goes e (out.Move blocks) calm = moves_go e blocks
  calm_goes e (out.Delete server name) calm = absurd calm
  calm_goes e (out.Finished count) calm = absurd calm

  all_calm : (outs : List Out) (e : Emptying) → AllByRecursion IsCalm outs → Goes item e (steps jobs.says e outs)
  all_calm [] e calm = rests item e
  all_calm (o ∷ outs) e calm =
      then_goes item e (jobs.says e o) (steps jobs.says (jobs.says e o).state outs) (calm_goes e o calm.0) (all_calm outs (jobs.says e o).state calm.1)

  -- ---- a segment is deleted

  -- with this hand
  abbrev in_hand : Emptying → Job → Option Hand → Emptying
  in_hand e job hand = record e { job = Some (record job { hand = hand }) }

  module _ (e : Emptying) (job : Job) (j : JobState) (segment : SegRef) (all : List ℕ) (phase : job.cleaning.phase ≡ Deleting j segment all)
      (waits : e.lasting.items.unanswered ≡ Some item) (apart : Apart (segment ∷ j.left)) where
    -- once it is dropped, that is only said again
    told_again : (n : ℕ) (hand : Hand) → hand.seg.name ≡ segment.name → hand.dropped ≡ true → min (j.deleted + 1) u32_end ≡ min n u32_end
        → At item n (in_hand e job (Some hand))
    told_again n hand named gone counted = (
      waits,
      subst (PhaseSo n (Some (hand.seg.name, hand.dropped))) (sym phase)
          (apart, Told (ap (λ (m : SegName). Some (m, hand.dropped)) named ∙ ap (λ (d : Bool). Some (segment.name, d)) gone) counted),
    )

    again_leads : (servers : List ℕ) (n : ℕ) (hand : Hand) → hand.seg.name ≡ segment.name → hand.dropped ≡ true
        → min (j.deleted + 1) u32_end ≡ min n u32_end
        → Leads item n (steps jobs.says (in_hand e job (Some hand)) (deletes segment.name servers))
    unfolding jobs.says
    again_leads [] n hand named gone counted = quiet_leads item n _ (told_again n hand named gone counted) tt
    again_leads (server ∷ servers) n hand named gone counted =
        let one : Done = jobs.emptying_delete (in_hand e job (Some hand)) (Some (record job { hand = Some hand })) server segment.name in
        let first : Leads item n one = quiet_leads item n one (told_again n (record hand { dropped = true }) named refl counted) (silent hand.dropped gone) in
        leads_on item n one (steps jobs.says one.state (deletes segment.name servers)) first
        (subst (λ m. Leads item m (steps jobs.says one.state (deletes segment.name servers))) (same_count n one (silent hand.dropped gone))
        (again_leads servers n (record hand { dropped = true }) named refl counted))
      where
        silent : (flag : Bool) → flag ≡ true → AllByRecursion Quiet (act_dropped (not flag) segment.name ++ Send (node.Server server) (body.Delete (record { name = segment.name })) ∷ [])
        silent true fact = (tt, tt)
        silent false fact = absurd cc

        same_count : (n : ℕ) (d : Done) → AllByRecursion Quiet d.outs → n ≡ n + drops d.outs
        same_count n d quiet = none_more n _ (none_dropped d.outs quiet)
          where
            none_more : (n m : ℕ) → m ≡ 0 → n ≡ n + m
            none_more n m none = omega arith

    -- it is dropped with the first word, if there is one
    first_leads : (servers : List ℕ) → servers ≡ all → (n : ℕ) (hand : Hand) → hand.seg.name ≡ segment.name → hand.dropped ≡ false → j.deleted ≡ min n u32_end
        → Leads item n (steps jobs.says (in_hand e job (Some hand)) (deletes segment.name servers))
    unfolding jobs.says
    first_leads [] same n hand named whole counted =
        quiet_leads item n _ (waits, subst (PhaseSo n (Some (hand.seg.name, hand.dropped))) (sym phase) (apart, subst (IsDeleted n (Some (hand.seg.name, hand.dropped)) j segment) same Untold)) tt
    first_leads (server ∷ servers) same n hand named whole counted =
        let one : Done = jobs.emptying_delete (in_hand e job (Some hand)) (Some (record job { hand = Some hand })) server segment.name in
        leads_on item n one (steps jobs.says one.state (deletes segment.name servers))
        (subst (λ (flag : Bool). Leads item n (record { state = one.state; outs = act_dropped (not flag) segment.name ++ Send (node.Server server) (body.Delete (record { name = segment.name })) ∷ [] })) (sym whole)
        (record { state = told_again (n + 1) (record hand { dropped = true }) named refl (one_more n j.deleted u32_end counted); counts = (tt, (tt, tt)) }))
        (subst (λ (flag : Bool). Leads item (n + drops (act_dropped (not flag) segment.name ++ Send (node.Server server) (body.Delete (record { name = segment.name })) ∷ []))
        (steps jobs.says one.state (deletes segment.name servers))) (sym whole)
        (again_leads servers (n + 1) (record hand { dropped = true }) named refl (one_more n j.deleted u32_end counted)))
      where
        one_more : (n deleted end : ℕ) → deleted ≡ min n end → min (deleted + 1) end ≡ min (n + 1) end
        one_more n deleted end fact = omega arith

  -- ---- the job takes a turn

  module _ (e : Emptying) (job : Job) (waits : e.lasting.items.unanswered ≡ Some item) where
    abbrev its : Emptying
    its = record e { job = Some job }

    ends_so : (n : ℕ) (u : Option ℕ) (count : ℕ) → u ≡ Some item → count ≡ min n u32_end → CountsSo item n (answers_unanswered u (Count count) ++ [])
    ends_so n None count same counted = tt
    ends_so n (Some number) count same counted = ((one_number number item same, counted), tt)
      where
        one_number : (a b : ℕ) → Some a ≡ Some b → a ≡ b
        one_number a b fact = cc

    deletes_lead : (n : ℕ) (j : JobState) (segment : SegRef) (servers : List ℕ) → job.cleaning.phase ≡ Deleting j segment servers → Apart (segment ∷ j.left)
        → (o : Option Hand)
        → ((seen_of o ≡ Some (segment.name, false)) × (j.deleted ≡ min n u32_end)) ⊎ IsDeleted n (seen_of o) j segment servers
        → Leads item n (steps jobs.says (in_hand e job o) (deletes segment.name servers))
    deletes_lead n j segment servers phase apart None (inl h) = absurd (nothing_seen (segment.name, false) h.0)
    deletes_lead n j segment servers phase apart (Some hand) (inl h) =
        first_leads e job j segment servers phase waits apart servers refl n hand (ap (seen_name segment.name) h.0) (ap seen_flag h.0) h.1
    deletes_lead n j segment servers phase apart None (inr (Told is counted)) = absurd (nothing_seen (segment.name, true) is)
    deletes_lead n j segment servers phase apart (Some hand) (inr (Told is counted)) =
        again_leads e job j segment servers phase waits apart servers n hand (ap (seen_name segment.name) is) (ap seen_flag is) counted
    deletes_lead n j segment servers phase apart None (inr Untold) = quiet_leads item n _ (waits, subst (PhaseSo n None) (sym phase) (apart, Untold)) tt
    deletes_lead n j segment servers phase apart (Some hand) (inr Untold) =
        quiet_leads item n _ (waits, subst (PhaseSo n (seen_of (Some hand))) (sym phase) (apart, Untold)) tt

    turn_leads : (n : ℕ) (t : Turn) → job.cleaning.phase ≡ t.state → TurnSo n (seen_of job.hand) t → Leads item n (steps jobs.says its t.outs)
    unfolding jobs.says jobs.emptying_read jobs.emptying_hold
    turn_leads n t phase (Calm h calm) = all_calm t.outs its calm n (waits, subst (PhaseSo n (seen_of job.hand)) (sym phase) h)
    turn_leads n t phase (Begins j segment at free) =
        let d : Done = jobs.says its (out.Fetch segment) in
        let one : Leads item n d =
        quiet_leads item n d (
          waits,
          subst (PhaseSo n (seen_of (take_in_hand e.maps.groups e.lasting.questions job.hand segment).hand)) (sym phase)
              (at, take_whole e.maps.groups e.lasting.questions segment job.hand free),
        )
        (fetches_quiet (hand_of d.state.job)) in
        leads_on item n d (still d.state) one (rests item d.state _ one.state)
    turn_leads n t phase (Deletes j segment servers apart how) = deletes_lead n j segment servers phase apart job.hand how
    turn_leads n t phase (Ends j counted) = record {
      state = tt;
      counts = ends_so n e.lasting.items.unanswered j.deleted waits counted;
    }

  -- ---- the job takes an input

  abbrev pub InputIn : Option Job → In → Type 0
  InputIn None given = Unit {0}
  InputIn (Some job) given = InputSo (seen_of job.hand) given

  pub cleans_go : (e : Emptying) (given : In) → InputIn e.job given → Goes item e (jobs.emptying_clean e given)
  unfolding jobs.emptying_clean jobs.emptying_take
  cleans_go e given fits n h = by e.job fits h
    where
      by : (o : Option Job) → InputIn o given → JobSo item n e.lasting.items.unanswered o
          → Leads item n (steps jobs.says (jobs.takes_in e o given).state (jobs.takes_in e o given).outs)
      by None fits k = quiet_leads item n (still e) h tt
      by (Some job) fits k =
          let d = transition job.cleaning given in
          turn_leads e (record job { cleaning = d.state }) k.0 n (record { state = d.state.phase; outs = d.outs }) refl
          (taken_so n (seen_of job.hand) job.cleaning given fits k.1)

  -- of what is no segment that is read nothing is asked
  pub any_job : (o : Option Job) (given : In) → ((seen : Option (SegName × Bool)) → InputSo seen given) → InputIn o given
  any_job None given any = tt
  any_job (Some job) given any = any (seen_of job.hand)

  -- ---- the reading of the segment in hand

  noted_so : (n : ℕ) (u : Option ℕ) (o : Option Job) → JobSo item n u o → JobSo item n u (note_read o)
  noted_so n u None h = h
  noted_so n u (Some job) h = other_hand n u job (read_over job.hand) (read_same job.hand) h

  ends_go : (e : Emptying) (read : Option Segment) → InputIn (note_read e.job) (input.Read read) → Goes item e (jobs.end_reading e read)
  unfolding jobs.end_reading
  ends_go e read fits =
      let f : Emptying = record e { job = note_read e.job } in
      from_goes item e f (jobs.emptying_clean f (input.Read read)) (λ n h. noted_so n e.lasting.items.unanswered e.job h) (cleans_go f (input.Read read) fits)

  lost_goes : (e : Emptying) → Goes item e (jobs.end_reading e None)
  lost_goes e = ends_go e None (any_job (note_read e.job) (input.Read None) (λ seen. tt))

  confirmed_go : (e : Emptying) (x : Next) → Goes item e (jobs.after_confirmed e x)
  confirmed_go e next.Ask = plainly item e _ (λ n h. h) (fetches_quiet (hand_of e.job))
  confirmed_go e next.Lost = lost_goes e
  confirmed_go e next.Wait = rests item e
  confirmed_go e next.Again = rests item e
  confirmed_go e (next.Read segment) = rests item e

  again_goes : (e : Emptying) → Goes item e (jobs.emptying_read_again e)
  unfolding jobs.emptying_read_again jobs.confirmed job_confirmed hand_confirmed
  again_goes e =
      let f : Emptying = jobs.with_questions e (draw e.lasting.questions) in
      let h = jobs.confirmed_in f f.job (next_ask e.lasting.questions) in
      from_goes item e h.state (jobs.after_confirmed h.state h.next) (λ n k. by n e.job k k) (confirmed_go h.state h.next)
    where
      by_hand : (n : ℕ) (job : Job) (hand : Option Hand) → job.hand ≡ hand → JobSo item n e.lasting.items.unanswered (Some job)
          → JobSo item n e.lasting.items.unanswered (Some (hand_confirmed_in job hand (next_ask e.lasting.questions)).state)
      by_hand n job None same h = h
      by_hand n job (Some hand) same h =
          other_hand n e.lasting.items.unanswered job (Some (confirmed_by hand hand.reading (next_ask e.lasting.questions)).state)
          (confirmed_same hand hand.reading (next_ask e.lasting.questions) ∙ ap seen_of (sym same)) h

      by : (n : ℕ) (o : Option Job) → At item n e → JobSo item n e.lasting.items.unanswered o
          → At item n (jobs.confirmed_in (jobs.with_questions e (draw e.lasting.questions)) o (next_ask e.lasting.questions)).state
      by n None now h = now
      by n (Some job) now h = by_hand n job job.hand refl h

  -- with a segment in hand
  after_goes : (e : Emptying) (job : Job) (hand : Hand) (x : Next) → Goes item (in_hand e job (Some hand)) (jobs.after_told (in_hand e job (Some hand)) x)
  after_goes e job hand next.Wait = rests item (in_hand e job (Some hand))
  after_goes e job hand next.Ask = rests item (in_hand e job (Some hand))
  after_goes e job hand next.Again = again_goes (in_hand e job (Some hand))
  after_goes e job hand (next.Read segment) = ends_go (in_hand e job (Some hand)) (Some segment) tt
  after_goes e job hand next.Lost = lost_goes (in_hand e job (Some hand))

  pub told_goes : (e : Emptying) (server : Option ℕ) (ask : ℕ) (t : Answered) → Goes item e (jobs.on_told e server ask t)
  unfolding jobs.on_told jobs.emptying_hear job_hear hand_hear
  told_goes e None ask t = rests item e
  told_goes e (Some server) ask t = by e.job refl e.maps.groups
    where
      by_hand : (job : Job) → e.job ≡ Some job → (groups : GroupMapState) (hand : Option Hand) → job.hand ≡ hand
          → (let h = jobs.emptying_with e (hand_hears_in job hand groups ask server t) in Goes item e (jobs.after_told h.state h.next))
      by_hand job same groups None seen =
          plainly item e (still (record e { job = Some job })) (λ n h. job_now n e.lasting.items.unanswered e.job job same h) tt
      by_hand job same groups (Some hand) seen =
          let heard = hears_by hand hand.reading groups ask server t in
          from_goes item e (in_hand e job (Some heard.state)) (jobs.after_told (in_hand e job (Some heard.state)) heard.next)
          (λ n h. other_hand n e.lasting.items.unanswered job (Some heard.state) (heard_same hand hand.reading groups ask server t ∙ ap seen_of (sym seen))
          (job_now n e.lasting.items.unanswered e.job job same h))
          (after_goes e job heard.state heard.next)

      by : (o : Option Job) → e.job ≡ o → (groups : Option GroupMapState)
          → (let h = jobs.told_in e o groups ask server t in Goes item e (jobs.after_told h.state h.next))
      by None same groups = rests item e
      by (Some job) same None = rests item e
      by (Some job) same (Some groups) = by_hand job same groups job.hand refl
