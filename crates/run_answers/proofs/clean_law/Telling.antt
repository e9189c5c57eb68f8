-- What becomes of the segment in hand as a server tells of its fragment: it is read, or read again, or lost as two rounds missed it.
use Rattle.std.proofs.Common.{◌≡◌, ◌<◌, ◌≤◌, ℕ, true, Option, None, Some, refl, sym, subst, ◌∙◌}
use Rattle.std.specs.List.{AllByRecursion}
use Rattle.std.specs.Prelude.{IfSome}
use Rattle.cleaner_job.specs.declared.hand.Hand.{Hand}
use Rattle.cleaner_job.specs.declared.job.Job.{Job}
use Rattle.cleaner_job.specs.Hands.{Heard, confirmed_by, fetches, hand_confirmed, hand_hear, hears_by}
use Rattle.cleaner_job.specs.Jobs.{hand_hears_in, hand_of, job_confirmed, job_hear, note_read, read_over}
use Rattle.cleaner_serving.specs.declared.emptying.Emptying.{Emptying}
use Rattle.cleaner_serving.specs.Jobs as jobs
use Rattle.cleaner_serving.specs.Jobs.{Done}
use Rattle.group_map.specs.GroupMapState.{GroupMapState}
use Rattle.node_base.specs.Asking.{draw, next_ask}
use Rattle.node_base.specs.declared.questions.Questions.{Questions}
use Rattle.segment_format.specs.declared.segment.Segment.{Segment}
use Rattle.segment_reading.specs.declared.reading.Next.{Next}
use Rattle.segment_reading.specs.declared.reading.Next.TheVariants as next
use Rattle.segment_reading.specs.Reading.{ReadingState, Step, is_asking, on_confirmed, reading_unanswered}
use Rattle.stripe_cleaner.specs.declared.input.In.{In as Input}
use Rattle.stripe_cleaner.specs.declared.input.In.TheVariants as input
use Rattle.stripe_code.specs.declared.round.Told.{Told as Answered}
use Rattle.stripe_code.specs.Round.{asks}
use Rattle.xfs_base.specs.declared.node.NodeId.TheVariants as nodes
use Rattle.xfs_base.specs.declared.segment.SegName.{SegName}
use Rattle.xfs_base.specs.declared.segment.SegRef.{SegRef}
use Rattle.xfs_base.specs.Limits.{u32_end}
use Rattle.xfs_base.specs.Steps.{still}
use Rattle.run_answers.proofs.clean_law.Frames.{Acted, At, Frame, Goes, HandSo, InputSo, IsLost, JobSo, ReadingSo, WorksSo, from_goes, plainly, rests, until}
use Rattle.run_answers.proofs.clean_law.Readings.{IsNoLoss, confirmed_so, next_least, tells_no_loss, told_so, was_asked}
use Rattle.run_answers.proofs.clean_law.Standing.{HandOf, InHand, hand_newer}
use Rattle.run_answers.proofs.clean_law.Working.{asks_acted, cleans_go, in_hand, job_now, questions_later, with_hand}
use Rattle.run_answers.proofs.number_law.Jobs.{fetches_quiet}
use Rattle.headline.specs.Tellings.{HasFetched, HasTold}

module _ (f : Frame) where
  abbrev pub InputIn : Option Job → Input → Type 0
  InputIn None given = Unit {0}
  InputIn (Some job) given = InputSo f job.lists job.hand given

  pub cleans_in : (s : Emptying) (given : Input) → InputIn s.job given → Goes f s (jobs.emptying_clean s given)
  cleans_in s given fits = cleans_go f s given (λ job same w. subst (λ (o : Option Job). InputIn o given) same fits)

  -- ---- the segment is read, or lost

  read_hand : (q : Questions) (o : Option Hand) → IfSome o (HandSo f q) → IfSome (read_over o) (HandSo f q)
  read_hand q None h = tt
  read_hand q (Some hand) h = record { reading = tt; dropped = h.dropped }

  read_any : (o : Option Hand) (s : SegRef) → HandOf o s → HandOf (read_over o) s
  read_any None s h = tt
  read_any (Some hand) s h = h

  read_is : (o : Option Hand) (s : SegRef) → InHand o s → InHand (read_over o) s
  read_is None s h = h
  read_is (Some hand) s h = h

  noted_so : (u : Option ℕ) (q : Questions) (groups : Option GroupMapState) (o : Option Job) → JobSo f u q groups o → JobSo f u q groups (note_read o)
  noted_so u q groups None h = tt
  noted_so u q groups (Some job) h = with_hand f u q groups job (read_over job.hand) (read_hand q job.hand h.hand) (read_any job.hand) (read_is job.hand) h

  ends_go : (s : Emptying) (read : Option Segment) → InputIn (note_read s.job) (input.Read read) → Goes f s (jobs.end_reading s read)
  unfolding jobs.end_reading
  ends_go s read fits =
      let t : Emptying = record s { job = note_read s.job } in
      from_goes f s t (jobs.emptying_clean t (input.Read read)) (λ h. noted_so s.lasting.items.unanswered s.lasting.questions s.maps.groups s.job h)
      (cleans_in t (input.Read read) fits)

  no_loss : (x : Next) → IsNoLoss x → x ≡ next.Lost → ⊥
  no_loss x none same = subst IsNoLoss same none

  confirmed_go : (s : Emptying) (x : Next) → (x ≡ next.Lost → InputIn (note_read s.job) (input.Read None)) → Goes f s (jobs.after_confirmed s x)
  confirmed_go s next.Ask lost = plainly f s _ (λ h. h) (fetches_quiet (hand_of s.job))
  confirmed_go s next.Lost lost = ends_go s None (lost refl)
  confirmed_go s next.Wait lost = rests f s
  confirmed_go s next.Again lost = rests f s
  confirmed_go s (next.Read segment) lost = rests f s

  -- ---- it is read again

  record HeardSo (hand : Hand) (q : Questions) (x : Heard Hand) : Type 0 where
    so : HandSo f q x.state
    same : x.state.seg ≡ hand.seg
    lost : x.next ≡ next.Lost → IsLost f x.state.seg

  confirms : (hand : Hand) (q : Questions) → f.last ≤ q.last → q.last < u32_end → HandSo f q hand → (r : Option ReadingState)
      → IfSome r (ReadingSo f q hand.seg)
      → ((confirmed_by hand r (next_ask q)).next ≡ next.Ask → AllByRecursion (Acted f) (fetches (Some (confirmed_by hand r (next_ask q)).state)))
      → HeardSo hand (draw q) (confirmed_by hand r (next_ask q))
  confirms hand q low room h None so asks = record {
    so = hand_newer f.e f.begun f.end f.last f.at_first q (draw q) (next_least q) (Some hand) h;
    same = refl;
    lost = λ fact. absurd (no_loss next.Wait tt fact);
  }
  confirms hand q low room h (Some r) so asks =
      let d : Step = on_confirmed r (next_ask q) in
      let c =
      confirmed_so f.e f.begun f.end f.last f.at_first q hand.seg r so low room
      (λ fact. asks_acted f hand.seg.name d.state.ask (reading_unanswered d.state) (asks fact)) in
      record { so = record { reading = c.state; dropped = h.dropped }; same = refl; lost = c.lost }

  other_hand : (u : Option ℕ) (q p : Questions) (groups : Option GroupMapState) (job : Job) (hand other : Hand) → q.last ≤ p.last → HandSo f p other
      → other.seg ≡ hand.seg → WorksSo f u q groups (record job { hand = Some hand }) → WorksSo f u p groups (record job { hand = Some other })
  other_hand u q p groups job hand other later so same h =
      with_hand f u p groups (record job { hand = Some hand }) (Some other) so (λ s is. same ∙ is) (λ s is. same ∙ is)
      (questions_later f u q p groups (record job { hand = Some hand }) later h)

  again_goes : (s : Emptying) (job : Job) (hand : Hand) → s.lasting.questions.last < u32_end
      → Goes f (in_hand f s job (Some hand)) (jobs.emptying_read_again (in_hand f s job (Some hand)))
  unfolding jobs.emptying_read_again jobs.confirmed job_confirmed hand_confirmed
  again_goes s job hand room h acted =
      let q : Questions = s.lasting.questions in
      let x : Heard Hand = confirmed_by hand hand.reading (next_ask q) in
      let t : Emptying = in_hand f (jobs.with_questions s (draw q)) job (Some x.state) in
      let c =
      confirms hand q h.low room h.hand hand.reading h.hand.reading
      (λ fact. subst (λ (n : Next). AllByRecursion (Acted f) (jobs.after_confirmed t n).outs) fact acted) in
      confirmed_go t x.next c.lost
      (other_hand s.lasting.items.unanswered q (draw q) s.maps.groups job hand x.state (next_least q) c.so c.same h) acted

  -- ---- with a segment in hand

  after_goes : (s : Emptying) (job : Job) (hand : Hand) → s.lasting.questions.last < u32_end → (x : Next) → IsNoLoss x
      → Goes f (in_hand f s job (Some hand)) (jobs.after_told (in_hand f s job (Some hand)) x)
  after_goes s job hand room next.Wait none = rests f (in_hand f s job (Some hand))
  after_goes s job hand room next.Ask none = rests f (in_hand f s job (Some hand))
  after_goes s job hand room next.Again none = again_goes s job hand room
  after_goes s job hand room (next.Read segment) none = ends_go (in_hand f s job (Some hand)) (Some segment) tt
  after_goes s job hand room next.Lost none = absurd none

  module _ (ask server : ℕ) (t : Answered) (place : ℕ)
      (told : (name : SegName) → HasFetched f.e nodes.Cleaner f.begun place name ask server → HasTold f.e nodes.Cleaner f.begun f.end name ask server t) where
    record HearsSo (hand : Hand) (q : Questions) (x : Heard Hand) : Type 0 where
      so : HandSo f q x.state
      same : x.state.seg ≡ hand.seg
      none : IsNoLoss x.next

    -- of the segment that is read it had been asked
    told_of : (q : Questions) (segment : SegRef) (r : ReadingState) → ReadingSo (until f place) q segment r → ask ≡ r.ask → is_asking r.stage ≡ true
        → asks r.round server ≡ true → HasTold f.e nodes.Cleaner f.begun f.end segment.name r.ask server t
    told_of q segment r was ours on awaits =
        subst (λ (n : ℕ). HasTold f.e nodes.Cleaner f.begun f.end segment.name n server t) ours
        (told segment.name
        (subst (λ (n : ℕ). HasFetched f.e nodes.Cleaner f.begun place segment.name n server) (sym ours)
        (was_asked f.e f.begun place f.last f.at_first q segment r server was on awaits)))

    hears : (hand : Hand) (q : Questions) (groups : GroupMapState) → HandSo f q hand → (r : Option ReadingState)
        → IfSome r (ReadingSo (until f place) q hand.seg) → IfSome r (ReadingSo f q hand.seg) → HearsSo hand q (hears_by hand r groups ask server t)
    hears hand q groups h None was so = record { so = h; same = refl; none = tt }
    hears hand q groups h (Some r) was so = record {
      so = record {
        reading = told_so f.e f.begun f.end f.last f.at_first q hand.seg r groups ask server t (told_of q hand.seg r was) so;
        dropped = h.dropped;
      };
      same = refl;
      none = tells_no_loss r groups ask server t;
    }

    by_hand : (s : Emptying) (job : Job) → s.job ≡ Some job → s.lasting.questions.last < u32_end → At (until f place) s → (groups : GroupMapState)
        (hand : Option Hand) → job.hand ≡ hand
        → (let h = jobs.emptying_with s (hand_hears_in job hand groups ask server t) in Goes f s (jobs.after_told h.state h.next))
    unfolding hand_hear
    by_hand s job same room was groups None seen h acted =
        plainly f s (still (record s { job = Some job })) (λ k. job_now f s.lasting.items.unanswered s.lasting.questions s.maps.groups s.job job same k) tt h acted
    by_hand s job same room was groups (Some hand) seen h acted =
        let q : Questions = s.lasting.questions in
        let w : WorksSo f s.lasting.items.unanswered q s.maps.groups (record job { hand = Some hand }) =
        subst (λ (o : Option Hand). WorksSo f s.lasting.items.unanswered q s.maps.groups (record job { hand = o })) seen
        (job_now f s.lasting.items.unanswered q s.maps.groups s.job job same h) in
        let v : WorksSo (until f place) s.lasting.items.unanswered q s.maps.groups (record job { hand = Some hand }) =
        subst (λ (o : Option Hand). WorksSo (until f place) s.lasting.items.unanswered q s.maps.groups (record job { hand = o })) seen
        (job_now (until f place) s.lasting.items.unanswered q s.maps.groups s.job job same was) in
        let x : Heard Hand = hears_by hand hand.reading groups ask server t in
        let c = hears hand q groups w.hand hand.reading v.hand.reading w.hand.reading in
        after_goes s job x.state room x.next c.none
        (with_hand f s.lasting.items.unanswered q s.maps.groups (record job { hand = Some hand }) (Some x.state) c.so (λ k is. c.same ∙ is) (λ k is. c.same ∙ is) w)
        acted

    pub tells_go : (s : Emptying) → s.lasting.questions.last < u32_end → At (until f place) s → Goes f s (jobs.on_told s (Some server) ask t)
    unfolding jobs.on_told jobs.emptying_hear job_hear
    tells_go s room was = by s.job refl s.maps.groups
      where
        by : (o : Option Job) → s.job ≡ o → (groups : Option GroupMapState)
            → (let h = jobs.told_in s o groups ask server t in Goes f s (jobs.after_told h.state h.next))
        by None same groups = rests f s
        by (Some job) same None = rests f s
        by (Some job) same (Some groups) = by_hand s job same room was groups job.hand refl
