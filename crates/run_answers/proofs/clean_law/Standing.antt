-- How far a cleaning that is under way is: what it knows and asks, the lists that came, what was taken, and what was dropped and is lost of it.
use Rattle.std.proofs.Common.{◌≡◌, ◌⊎◌, ◌<◌, ◌≤◌, cond, ℕ, suc, Bool, true, List, [], ◌∷◌, ◌++◌, append_assoc, inl, inr, ◌+◌, Option, Some, None, map, min, ◌∙◌, arith}
use Rattle.std.specs.List.{AllByRecursion}
use Rattle.std.specs.Prelude.{IfSome}
use Rattle.cleaner_job.specs.declared.hand.Hand.{Hand}
use Rattle.cleaner_job.specs.declared.job.Job.{Job}
use Rattle.cleaner_serving.specs.declared.emptying.Emptying.{Emptying}
use Rattle.cleaner_serving.specs.Jobs.{Done}
use Rattle.core_world.specs.declared.any_node.AnyNode.{AnyNode}
use Rattle.group_map.specs.declared.group.Group.{Group}
use Rattle.group_map.specs.GroupMapState.{GroupMapState}
use Rattle.group_map.specs.Groups.{group_of}
use Rattle.node_base.specs.declared.effects.Effect.{Effect}
use Rattle.node_base.specs.declared.effects.Effect.TheVariants.{Answer as Answers, Does, Lose, Send}
use Rattle.node_base.specs.declared.questions.Questions.{Questions}
use Rattle.segment_reading.specs.declared.reading.Stage.{Stage}
use Rattle.segment_reading.specs.declared.reading.Stage.TheVariants.{Asking, Between, Doubted, Over as ReadOver}
use Rattle.segment_reading.specs.Reading.{ReadingState, servers_of}
use Rattle.stripe_cleaner.specs.declared.phase.Phase.{Phase}
use Rattle.stripe_cleaner.specs.declared.phase.Phase.TheVariants.{Checking, Counting, Deleting, Greeting, Listing, Over, Reading}
use Rattle.stripe_cleaner.specs.Listing.{ListingState, all_servers}
use Rattle.stripe_code.specs.declared.round.Answer.{Answer as Reply}
use Rattle.stripe_code.specs.Round.{RoundSoFar}
use Rattle.token_protocol.specs.Basics.{In}
use Rattle.version_model.specs.declared.act.Act.{Act}
use Rattle.version_model.specs.declared.act.Act.TheVariants.{Dropped}
use Rattle.version_model.specs.declared.answer.Answer.{Answer}
use Rattle.version_model.specs.declared.answer.Answer.TheVariants.{Count}
use Rattle.wire_msg.specs.declared.body.Body.{Body}
use Rattle.wire_msg.specs.declared.body.Body.TheVariants as body
use Rattle.wire_msg.specs.declared.registry.Welcome.{Welcome}
use Rattle.wire_msg.specs.declared.storage.Listed.{Listed}
use Rattle.world_base.specs.declared.estate.Estate.{Estate}
use Rattle.xfs_base.proofs.Alls.{all_append, all_weaker}
use Rattle.xfs_base.proofs.Booleans.{by_test}
use Rattle.xfs_base.specs.declared.node.NodeId.{NodeId}
use Rattle.xfs_base.specs.declared.node.NodeId.TheVariants as nodes
use Rattle.xfs_base.specs.declared.segment.SegName.{SegName}
use Rattle.xfs_base.specs.declared.segment.SegRef.{SegRef}
use Rattle.xfs_base.specs.Limits.{u32_end}
use Rattle.xfs_base.specs.Steps.{saying, steps, still}
use Rattle.run_answers.proofs.clean_law.Evidence.{FitsOf, candidates_later, dropped_later, emptied_later, knows_later, lost_later, misses_later, taken_later}
use Rattle.run_answers.proofs.number_law.Tallies.{IsNoAnswer, IsNoCount, Quiet, act_silent}
use Rattle.run_answers.proofs.number_law.Tellings.{ListCame, Replied, come_later, fetched_later, lists_later, replies_later}
use Rattle.headline.specs.Cleanings.{AreCandidates, AreEmptied, AreTaken, IsDropped, IsLost, KnowsGroups, MissesUnder, candidates_by, round_with}
use Rattle.headline.specs.Cleanings.AreEmptied.{OneDropped, OneLost}
use Rattle.headline.specs.Tellings.{HasCome, HasFetched}

-- the segment in hand is this one, if there is one
abbrev pub HandOf : Option Hand → SegRef → Type 0
HandOf hand segment = IfSome hand (λ (h : Hand). h.seg ≡ segment)

-- it is in hand
abbrev pub InHand : Option Hand → SegRef → Type 0
InHand None segment = ⊥
InHand (Some h) segment = h.seg ≡ segment

module _ (e : Estate AnyNode) (begun end last : ℕ) (at_first : Option GroupMapState) where
  -- ---- the reading of a segment

  -- the round that is under way
  pub record RoundSo (name : SegName) (group : Group) (ask : ℕ) (round : RoundSoFar) : Type 0 where
    pub replies : List Reply
    pub come : AllByRecursion (Replied e nodes.Cleaner begun end name ask) replies
    pub fit : AllByRecursion (FitsOf name) replies
    pub among : AllByRecursion (λ (r : Reply). In r.server (servers_of group)) replies
    pub is : round ≡ round_with group replies

  -- what was missed in a round under an older question, if it ended with pairs
  pub data OnceMissed (name : SegName) (group : Group) (before : ℕ) (pairs : List (ℕ × ℕ)) : Type 0 where
    Never : pairs ≡ [] → OnceMissed name group before pairs
    Once : (ask : ℕ) → last < ask → ask ≤ before → MissesUnder e begun end name group ask pairs → OnceMissed name group before pairs

  -- the group's servers were asked for the segment under the question
  abbrev pub AllAsked : SegName → Group → ℕ → Type 0
  AllAsked name group ask = (server : ℕ) → In server (servers_of group) → HasFetched e nodes.Cleaner begun end name ask server

  abbrev pub StageSo : Group → SegRef → ReadingState → Stage → Type 0
  StageSo group segment r Asking =
      (older : ℕ) × (older < r.ask) × OnceMissed segment.name group older r.kept × RoundSo segment.name group r.ask r.round
      × AllAsked segment.name group r.ask
  StageSo group segment r Between = OnceMissed segment.name group r.ask r.kept
  StageSo group segment r Doubted = IsLost e begun end last at_first segment
  StageSo group segment r ReadOver = Unit {0}

  pub record ReadingSo (q : Questions) (segment : SegRef) (r : ReadingState) : Type 0 where
    pub groups : GroupMapState
    pub known : KnowsGroups e begun end at_first groups
    pub group : Group
    pub its : group_of groups segment.group ≡ Some group
    pub target : r.target.seg ≡ segment
    pub newer : last < r.ask
    pub asked : r.ask ≤ q.last
    pub shape : record r.round { answers = [] } ≡ round_with group []
    pub stage : StageSo group segment r r.stage

  pub record HandSo (q : Questions) (h : Hand) : Type 0 where
    pub reading : IfSome h.reading (ReadingSo q h.seg)
    pub dropped : h.dropped ≡ true → IsDropped e begun end h.seg.name

  -- ---- the lists

  -- a Welcome came that answers a question of the item
  pub record Welcomed : Type 0 where
    pub from : NodeId
    pub welcome : Welcome
    pub welcomed : HasCome e nodes.Cleaner begun end from (body.Welcome welcome)
    pub answers : last < welcome.ask
    pub groups : GroupMapState
    pub known : KnowsGroups e begun end at_first groups

  pub record ListingSo (asked : Option ℕ) (l : ListingState) : Type 0 where
    pub welcomed : Welcomed
    pub slots : l.slots ≡ welcomed.welcome.news.slots
    pub lists : List (ℕ × Listed)
    pub come : AllByRecursion (ListCame e nodes.Cleaner begun end) lists
    pub under : AllByRecursion (λ (list : ℕ × Listed). asked ≡ Some list.1.ask) lists
    pub all : (server : ℕ) → In server (all_servers welcomed.groups.servers) → In server l.awaited ⊎ In server (map (λ (list : ℕ × Listed). list.0) lists)
    pub are : l.candidates ≡ candidates_by welcomed.welcome.news.slots lists

  module _ (many : ℕ) where
    -- ---- the emptying

    -- so many were dropped, before these that are left of all that are taken
    pub record EmptyingSo (left : List SegRef) (deleted : ℕ) : Type 0 where
      pub taken : List SegRef
      pub are : AreTaken e begun end many last at_first taken
      pub over : List SegRef
      pub dropped : ℕ
      pub emptied : AreEmptied e begun end last at_first over dropped
      pub whole : over ++ left ≡ taken
      pub counts : deleted ≡ min dropped u32_end

    one_counted : (n m : ℕ) → n ≡ min m u32_end → min (n + 1) u32_end ≡ min (suc m) u32_end
    one_counted n m h = by n m u32_end h
      where
        by : (n m end : ℕ) → n ≡ min m end → min (n + 1) end ≡ min (suc m) end
        by n m end h = omega arith

    pub dropped_one : (s : SegRef) (left : List SegRef) (deleted : ℕ) → EmptyingSo (s ∷ left) deleted → IsDropped e begun end s.name
        → EmptyingSo left (min (deleted + 1) u32_end)
    dropped_one s left deleted h one = record {
      taken = h.taken;
      are = h.are;
      over = h.over ++ s ∷ [];
      dropped = suc h.dropped;
      emptied = OneDropped s h.emptied one;
      whole = append_assoc h.over (s ∷ []) left ∙ h.whole;
      counts = one_counted deleted h.dropped h.counts;
    }

    pub lost_one : (s : SegRef) (left : List SegRef) (deleted : ℕ) → EmptyingSo (s ∷ left) deleted → IsLost e begun end last at_first s
        → EmptyingSo left deleted
    lost_one s left deleted h one = record {
      taken = h.taken;
      are = h.are;
      over = h.over ++ s ∷ [];
      dropped = h.dropped;
      emptied = OneLost s h.emptied one;
      whole = append_assoc h.over (s ∷ []) left ∙ h.whole;
      counts = h.counts;
    }

    abbrev pub PhaseSo : Option ℕ → Option Hand → Phase → Type 0
    PhaseSo asked hand Greeting = Unit {0}
    PhaseSo asked hand (Listing l) = ListingSo asked l
    PhaseSo asked hand (Counting c) = AreCandidates e begun end last at_first c.candidates
    PhaseSo asked hand (Reading j segment) = EmptyingSo (segment ∷ j.left) j.deleted × HandOf hand segment
    PhaseSo asked hand (Checking j segment checks) = EmptyingSo (segment ∷ j.left) j.deleted × InHand hand segment
    PhaseSo asked hand (Deleting j segment servers) =
        EmptyingSo (segment ∷ j.left) j.deleted × InHand hand segment × (IsDropped e begun end segment.name ⊎ (servers ≡ []))
    PhaseSo asked hand Over = Unit {0}

    -- ---- a cleaner that serves

    module _ (item : ℕ) where
      pub record WorksSo (u : Option ℕ) (q : Questions) (groups : Option GroupMapState) (job : Job) : Type 0 where
        pub waits : u ≡ Some item
        pub low : last ≤ q.last
        pub known : IfSome groups (KnowsGroups e begun end at_first)
        pub hello : IfSome job.hello (λ (ask : ℕ). last < ask)
        pub lists : IfSome job.lists (λ (ask : ℕ). last < ask)
        pub count : job.cleaning.count ≡ many
        pub hand : IfSome job.hand (HandSo q)
        pub phase : PhaseSo job.lists job.hand job.cleaning.phase

      abbrev pub JobSo : Option ℕ → Questions → Option GroupMapState → Option Job → Type 0
      JobSo u q groups job = IfSome job (WorksSo u q groups)

      abbrev pub At : Emptying → Type 0
      At s = JobSo s.lasting.items.unanswered s.lasting.questions s.maps.groups s.job

      -- ---- what is answered

      pub record DueSo (cleaned : ℕ) : Type 0 where
        pub taken : List SegRef
        pub are : AreTaken e begun end many last at_first taken
        pub dropped : ℕ
        pub emptied : AreEmptied e begun end last at_first taken dropped
        pub counts : cleaned ≡ min dropped u32_end

      abbrev pub AnswerSo : ℕ → Answer → Type 0
      AnswerSo number (Count count) = (number ≡ item) × DueSo count
      AnswerSo number _ = Unit {0}

      abbrev pub EffectSo : Effect → Type 0
      EffectSo (Send to said) = Unit {0}
      EffectSo (Answers number a) = AnswerSo number a
      EffectSo (Lose seg) = Unit {0}
      EffectSo (Does act) = IsNoAnswer act

      -- what it drops it acts in this event
      abbrev pub ActSo : Act → Type 0
      ActSo (Dropped name) = IsDropped e begun end name
      ActSo _ = Unit {0}

      -- and what it asks a server for it has asked in it
      abbrev pub AskSo : ℕ → Body → Type 0
      AskSo server (body.Fetch m) = HasFetched e nodes.Cleaner begun end m.name m.ask server
      AskSo server _ = Unit {0}

      abbrev pub SentSo : NodeId → Body → Type 0
      SentSo (nodes.Server server) said = AskSo server said
      SentSo _ said = Unit {0}

      abbrev pub Acted : Effect → Type 0
      Acted (Send to said) = SentSo to said
      Acted (Answers number a) = Unit {0}
      Acted (Lose seg) = Unit {0}
      Acted (Does act) = ActSo act

      answer_quiet : (number : ℕ) (a : Answer) → IsNoCount a → AnswerSo number a
      answer_quiet number (Count count) quiet = absurd quiet
      answer_quiet number _ quiet = tt

      effect_quiet : (x : Effect) → Quiet x → EffectSo x
      effect_quiet (Send to said) quiet = tt
      effect_quiet (Answers number a) quiet = answer_quiet number a quiet
      effect_quiet (Lose seg) quiet = tt
      effect_quiet (Does act) quiet = act_silent act quiet

      pub quiet_so : (outs : List Effect) → AllByRecursion Quiet outs → AllByRecursion EffectSo outs
      quiet_so outs quiet = all_weaker Quiet EffectSo effect_quiet outs quiet

      pub record Leads (d : Done) : Type 0 where
        pub state : At d.state
        pub outs : AllByRecursion EffectSo d.outs

      abbrev pub Goes : Emptying → Done → Type 0
      Goes s d = At s → AllByRecursion Acted d.outs → Leads d

      pub quiet_leads : (d : Done) → At d.state → AllByRecursion Quiet d.outs → Leads d
      quiet_leads d h quiet = record { state = h; outs = quiet_so d.outs quiet }

      pub parts : (xs ys : List Effect) → AllByRecursion Acted (xs ++ ys) → AllByRecursion Acted xs × AllByRecursion Acted ys
      parts [] ys all = (tt, all)
      parts (x ∷ xs) ys all = (let rest = parts xs ys all.1 in ((all.0, rest.0), rest.1))

      pub rests : (s : Emptying) → Goes s (still s)
      rests s h acted = quiet_leads (still s) h tt

      -- another state, of which as much is known
      pub from_goes : (s t : Emptying) (d : Done) → (At s → At t) → Goes t d → Goes s d
      from_goes s t d same g h acted = g (same h) acted

      pub plainly : (s : Emptying) (d : Done) → (At s → At d.state) → AllByRecursion Quiet d.outs → Goes s d
      plainly s d same quiet h acted = quiet_leads d (same h) quiet

      pub then_goes : (s : Emptying) (d f : Done) → Goes s d → Goes d.state f → Goes s (saying d.outs f)
      then_goes s d f g k h acted =
          let both = parts d.outs f.outs acted in
          let one = g h both.0 in
          let two = k one.state both.1 in
          record { state = two.state; outs = all_append EffectSo d.outs f.outs one.outs two.outs }

      pub first_goes : (s : Emptying) (outs : List Effect) (f : Done) → AllByRecursion Quiet outs → Goes s f → Goes s (saying outs f)
      first_goes s outs f quiet g = then_goes s (record { state = s; outs = outs }) f (plainly s (record { state = s; outs = outs }) (λ h. h) quiet) g

      pub if_goes : (t : Bool) (s : Emptying) (d : Done) → (t ≡ true → Goes s d) → Goes s (cond t d (still s))
      if_goes t s d g = by_test (Goes s) t d (still s) g (λ _. rests s)

      pub steps_go : {A : Type 0} (step : Emptying → A → Done) → ((s : Emptying) (x : A) → Goes s (step s x)) → (s : Emptying) (xs : List A)
          → Goes s (steps step s xs)
      steps_go step each s [] = rests s
      steps_go step each s (x ∷ xs) = then_goes s (step s x) (steps step (step s x).state xs) (each s x) (steps_go step each (step s x).state xs)

-- ---- with a later question

module _ (e : Estate AnyNode) (begun end last : ℕ) (at_first : Option GroupMapState) (q p : Questions) (later : q.last ≤ p.last) where
  reading_newer : (segment : SegRef) (r : ReadingState) → ReadingSo e begun end last at_first q segment r → ReadingSo e begun end last at_first p segment r
  reading_newer segment r h =
      let low = h.asked in
      record {
        groups = h.groups;
        known = h.known;
        group = h.group;
        its = h.its;
        target = h.target;
        newer = h.newer;
        asked = omega (arith, low, later);
        shape = h.shape;
        stage = h.stage;
      }

  readings_newer : (segment : SegRef) (r : Option ReadingState) → IfSome r (ReadingSo e begun end last at_first q segment)
      → IfSome r (ReadingSo e begun end last at_first p segment)
  readings_newer segment None h = tt
  readings_newer segment (Some r) h = reading_newer segment r h

  pub hand_newer : (hand : Option Hand) → IfSome hand (HandSo e begun end last at_first q) → IfSome hand (HandSo e begun end last at_first p)
  hand_newer None h = tt
  hand_newer (Some hand) h = record { reading = readings_newer hand.seg hand.reading h.reading; dropped = h.dropped }

-- ---- one event later

module _ (e : Estate AnyNode) (begun end last : ℕ) (at_first : Option GroupMapState) where
  once_later : (name : SegName) (group : Group) (before : ℕ) (pairs : List (ℕ × ℕ)) → OnceMissed e begun end last at_first name group before pairs
      → OnceMissed e begun (suc end) last at_first name group before pairs
  once_later name group before pairs (Never none) = Never none
  once_later name group before pairs (Once ask new old missed) = Once ask new old (misses_later e begun end name group ask pairs missed)

  stage_later : (group : Group) (segment : SegRef) (r : ReadingState) (stage : Stage) → StageSo e begun end last at_first group segment r stage
      → StageSo e begun (suc end) last at_first group segment r stage
  stage_later group segment r Asking h = (
    h.0,
    h.1,
    once_later segment.name group h.0 r.kept h.2,
    record {
      replies = h.3.replies;
      come = replies_later e nodes.Cleaner begun end segment.name r.ask h.3.replies h.3.come;
      fit = h.3.fit;
      among = h.3.among;
      is = h.3.is;
    },
    λ server among. fetched_later e nodes.Cleaner begun end segment.name r.ask server (h.4 server among),
  )
  stage_later group segment r Between h = once_later segment.name group r.ask r.kept h
  stage_later group segment r Doubted h = lost_later e begun end last at_first segment h
  stage_later group segment r ReadOver h = tt

  reading_later : (q : Questions) (segment : SegRef) (r : Option ReadingState) → IfSome r (ReadingSo e begun end last at_first q segment)
      → IfSome r (ReadingSo e begun (suc end) last at_first q segment)
  reading_later q segment None h = tt
  reading_later q segment (Some r) h = record {
    groups = h.groups;
    known = knows_later e begun end at_first h.groups h.known;
    group = h.group;
    its = h.its;
    target = h.target;
    newer = h.newer;
    asked = h.asked;
    shape = h.shape;
    stage = stage_later h.group segment r r.stage h.stage;
  }

  hand_later : (q : Questions) (hand : Option Hand) → IfSome hand (HandSo e begun end last at_first q) → IfSome hand (HandSo e begun (suc end) last at_first q)
  hand_later q None h = tt
  hand_later q (Some hand) h =
      record { reading = reading_later q hand.seg hand.reading h.reading; dropped = λ fact. dropped_later e begun end hand.seg.name (h.dropped fact) }

  welcomed_later : Welcomed e begun end last at_first → Welcomed e begun (suc end) last at_first
  welcomed_later h = record {
    from = h.from;
    welcome = h.welcome;
    welcomed = come_later e nodes.Cleaner begun end h.from (body.Welcome h.welcome) h.welcomed;
    answers = h.answers;
    groups = h.groups;
    known = knows_later e begun end at_first h.groups h.known;
  }

  listing_later : (asked : Option ℕ) (l : ListingState) → ListingSo e begun end last at_first asked l → ListingSo e begun (suc end) last at_first asked l
  unfolding welcomed_later
  listing_later asked l h = record {
    welcomed = welcomed_later h.welcomed;
    slots = h.slots;
    lists = h.lists;
    come = lists_later e nodes.Cleaner begun end h.lists h.come;
    under = h.under;
    all = h.all;
    are = h.are;
  }

  module _ (many : ℕ) where
    emptying_later : (left : List SegRef) (deleted : ℕ) → EmptyingSo e begun end last at_first many left deleted
        → EmptyingSo e begun (suc end) last at_first many left deleted
    emptying_later left deleted h = record {
      taken = h.taken;
      are = taken_later e begun end last at_first many h.taken h.are;
      over = h.over;
      dropped = h.dropped;
      emptied = emptied_later e begun end last at_first h.emptied;
      whole = h.whole;
      counts = h.counts;
    }

    phase_later : (asked : Option ℕ) (hand : Option Hand) (p : Phase) → PhaseSo e begun end last at_first many asked hand p
        → PhaseSo e begun (suc end) last at_first many asked hand p
    phase_later asked hand Greeting h = tt
    phase_later asked hand (Listing l) h = listing_later asked l h
    phase_later asked hand (Counting c) h = candidates_later e begun end last at_first c.candidates h
    phase_later asked hand (Reading j segment) h = (emptying_later (segment ∷ j.left) j.deleted h.0, h.1)
    phase_later asked hand (Checking j segment checks) h = (emptying_later (segment ∷ j.left) j.deleted h.0, h.1)
    phase_later asked hand (Deleting j segment servers) h = (emptying_later (segment ∷ j.left) j.deleted h.0, h.1, by h.2)
      where
        by : IsDropped e begun end segment.name ⊎ (servers ≡ []) → IsDropped e begun (suc end) segment.name ⊎ (servers ≡ [])
        by (inl one) = inl (dropped_later e begun end segment.name one)
        by (inr none) = inr none
    phase_later asked hand Over h = tt

    known_later : (groups : Option GroupMapState) → IfSome groups (KnowsGroups e begun end at_first) → IfSome groups (KnowsGroups e begun (suc end) at_first)
    known_later None h = tt
    known_later (Some groups) h = knows_later e begun end at_first groups h

    pub job_later : (item : ℕ) (u : Option ℕ) (q : Questions) (groups : Option GroupMapState) (job : Option Job)
        → JobSo e begun end last at_first many item u q groups job → JobSo e begun (suc end) last at_first many item u q groups job
    job_later item u q groups None h = tt
    job_later item u q groups (Some job) h = record {
      waits = h.waits;
      low = h.low;
      known = known_later groups h.known;
      hello = h.hello;
      lists = h.lists;
      count = h.count;
      hand = hand_later q job.hand h.hand;
      phase = phase_later job.lists job.hand job.cleaning.phase h.phase;
    }
