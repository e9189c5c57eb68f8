-- What a cleaner that serves does for its job and with its log: what it tells servers to delete is the segment in hand, which it drops with the first word.
use Rattle.std.proofs.Common.{◌≡◌, ◌++◌, ◌==◌, not, ℕ, Bool, true, false, List, [], ◌∷◌, Option, None, Some, inl, inr, ap, refl, sym, subst, ◌∙◌}
use Rattle.std.specs.List.{AllByRecursion}
use Rattle.cleaner_job.specs.declared.hand.Hand.{Hand}
use Rattle.cleaner_job.specs.declared.job.Job.{Job}
use Rattle.cleaner_job.specs.Hands.{hand_check, checks_under, fetches, hand_fetch, is_in_hand, kept_ask, take_over, take_in_hand}
use Rattle.cleaner_job.specs.Jobs.{dropped, act_dropped, hand_checks_in, hand_moved, hand_of, is_whole, job_check, note_moved}
use Rattle.cleaner_job.specs.Starting.{cleaner_log}
use Rattle.cleaner_node.specs.CleanerEvents.{serves_on}
use Rattle.cleaner_serving.specs.declared.emptying.Emptying.{Emptying}
use Rattle.cleaner_serving.specs.EmptyingEvents.{fed, emptying_settle, emptying_write, write_one}
use Rattle.cleaner_serving.specs.Jobs.{Done, ask_check, ask_list, ask_maps, ask_usage, check_sent, checked_in, emptying_check, emptying_clean, emptying_delete, emptying_finish, emptying_hold, holds_in, emptying_take, move_all, emptying_put, put_block, emptying_read, says, takes_in}
use Rattle.client_log.specs.declared.input.In.{In as LogIn}
use Rattle.client_log.specs.declared.input.In.TheVariants as log_in
use Rattle.client_log.specs.declared.output.Out.{Out as LogOut}
use Rattle.client_log.specs.declared.output.Out.TheVariants as log_out
use Rattle.client_log.specs.Transition as log
use Rattle.delta_feed.specs.declared.output.Out.{Out as FeedOut}
use Rattle.delta_feed.specs.declared.output.Out.TheVariants.{Range}
use Rattle.delta_feed.specs.FeedState.{FeedState}
use Rattle.delta_feed.specs.Transition.{feed_tick}
use Rattle.group_map.specs.declared.group.Group.{Group}
use Rattle.group_map.specs.GroupMapState.{GroupMapState}
use Rattle.group_map.specs.Groups.{known_group}
use Rattle.log_owner.specs.declared.promised.Managers.{Managers}
use Rattle.log_owner.specs.Opening.{stored}
use Rattle.log_owner.specs.Sending.{fetch, name_of, push_all, range}
use Rattle.node_base.specs.Beginning.{answers_unanswered}
use Rattle.node_base.specs.declared.effects.Effect.{Effect}
use Rattle.node_base.specs.declared.effects.Effect.TheVariants.{Send, Does}
use Rattle.node_base.specs.declared.questions.Questions.{Questions}
use Rattle.segment_reading.specs.Reading.{ReadingState, reading_unanswered}
use Rattle.stripe_cleaner.specs.declared.input.In.{In}
use Rattle.stripe_cleaner.specs.declared.input.In.TheVariants as input
use Rattle.stripe_cleaner.specs.declared.output.Out.{Out}
use Rattle.stripe_cleaner.specs.declared.output.Out.TheVariants as out
use Rattle.stripe_cleaner.specs.declared.phase.Phase as phases
use Rattle.stripe_cleaner.specs.declared.phase.Phase.TheVariants.{Greeting, Listing, Counting, Reading, Checking, Deleting, Over}
use Rattle.stripe_cleaner.specs.Transition.{transition}
use Rattle.version_model.specs.declared.act.Act.TheVariants.{Dropped, Filed}
use Rattle.version_model.specs.declared.answer.Answer.{Answer}
use Rattle.wire_msg.specs.declared.body.Body.TheVariants as body
use Rattle.xfs_base.proofs.Alls.{all_flat_map, all_map}
use Rattle.xfs_base.proofs.Booleans.{and_first, by_test}
use Rattle.xfs_base.proofs.SegmentNames.{one_name}
use Rattle.xfs_base.specs.declared.block.BlockId.{BlockId}
use Rattle.xfs_base.specs.declared.entry.Entry.{Entry}
use Rattle.xfs_base.specs.declared.entry.Place.{Place}
use Rattle.xfs_base.specs.declared.node.NodeId.TheVariants.{Server}
use Rattle.xfs_base.specs.declared.segment.End.{End}
use Rattle.xfs_base.specs.declared.segment.SegName.{SegName}
use Rattle.xfs_base.specs.declared.segment.SegRef.{SegRef}
use Rattle.xfs_base.specs.Segments.{same_name}
use Rattle.xfs_base.specs.Steps.{saying, steps, still}
use Rattle.run_drops.proofs.drop_law.Saying.{Acted, Also, FlagSo, Goes, JobIn, JobSo, Quiet, goes_on, quiet_goes}
use Rattle.run_drops.proofs.drop_law.Turns.{Deletes, InputSo, IsInHand, NoOtherInHand, OutSo, PhaseSo, Reads, taken_so}

-- ---- another hand, with the same segment

abbrev pub SameHand : Option Hand → Option Hand → Type 0
SameHand None None = Unit {0}
SameHand None (Some h) = ⊥
SameHand (Some g) None = ⊥
SameHand (Some g) (Some h) = (g.seg.name ≡ h.seg.name) × (h.dropped ≡ g.dropped)

flag_same : (acted : Acted) (g h : Option Hand) → SameHand g h → FlagSo acted g → FlagSo acted h
flag_same acted None None same k = tt
flag_same acted None (Some h) same k = absurd same
flag_same acted (Some g) None same k = absurd same
flag_same acted (Some g) (Some h) same k = λ fact. subst acted same.0 (k (sym same.1 ∙ fact))

in_same : (g h : Option Hand) (name : SegName) → SameHand g h → IsInHand g name → IsInHand h name
in_same None None name same k = k
in_same None (Some h) name same k = absurd same
in_same (Some g) None name same k = absurd same
in_same (Some g) (Some h) name same k = sym same.0 ∙ k

no_other_same : (g h : Option Hand) (name : SegName) → SameHand g h → NoOtherInHand g name → NoOtherInHand h name
no_other_same None None name same k = k
no_other_same None (Some h) name same k = absurd same
no_other_same (Some g) None name same k = absurd same
no_other_same (Some g) (Some h) name same k = sym same.0 ∙ k

phase_same : (g h : Option Hand) → SameHand g h → (p : phases.Phase) → PhaseSo g p → PhaseSo h p
phase_same g h same Greeting k = tt
phase_same g h same (Listing l) k = tt
phase_same g h same (Counting c) k = tt
phase_same g h same (Reading j segment) k = no_other_same g h segment.name same k
phase_same g h same (Checking j segment checks) k = in_same g h segment.name same k
phase_same g h same (Deleting j segment servers) k = in_same g h segment.name same k
phase_same g h same Over k = tt

-- a job with another hand of the same segment
pub job_same : (acted : Acted) (job : Job) (h : Option Hand) → SameHand job.hand h → JobSo acted job → JobSo acted (record job { hand = h })
job_same acted job h same k = record {
  flag = flag_same acted job.hand h same k.flag;
  phase = phase_same job.hand h same job.cleaning.phase k.phase;
}

pub same_itself : (h : Option Hand) → SameHand h h
same_itself None = tt
same_itself (Some h) = (refl, refl)

-- ---- taking a segment in hand

module _ (acted : Acted) (seg : SegRef) where
  record Takes (hand : Option Hand) : Type 0 where
    flag : FlagSo acted hand
    other : NoOtherInHand hand seg.name

  taken_fresh : (q : Questions) (group : Option Group) → Takes (take_over q seg group).hand
  taken_fresh q None = record { flag = tt; other = tt }
  taken_fresh q (Some group) = record { flag = λ fact. absurd (let clash : false ≡ true = fact in absurd (cc)); other = refl }

  takes : (groups : Option GroupMapState) (q : Questions) (hand : Option Hand) → FlagSo acted hand → Takes (take_in_hand groups q hand seg).hand
  unfolding take_in_hand
  takes groups q None flag = taken_fresh q (known_group groups seg.group)
  takes groups q (Some hand) flag =
      by_test (λ t. Takes t.hand) (is_in_hand (Some hand) seg) (record { hand = Some hand; questions = q }) (take_over q seg (known_group groups seg.group))
      (λ t. record { flag = flag; other = one_name hand.seg.name seg.name (and_first (same_name hand.seg.name seg.name) (hand.seg.group == seg.group) t) })
      (λ _. taken_fresh q (known_group groups seg.group))

-- ---- effects that delete nothing

fetches_quiet : (hand : Option Hand) → AllByRecursion Quiet (fetches hand)
fetches_quiet None = tt
fetches_quiet (Some hand) = each hand.reading
  where
    each : (r : Option ReadingState) → AllByRecursion Quiet (hand_fetch hand.seg.name r)
    each None = tt
    each (Some r) = all_map Quiet (fetch hand.seg.name r.ask) (λ server. tt) (reading_unanswered r)

pub hand_fetches : (hand : Option Hand) → AllByRecursion Quiet (fetches hand)
hand_fetches hand = fetches_quiet hand

stored_quiet : (o : LogOut) → AllByRecursion Quiet (stored o)
stored_quiet (log_out.Send fragment member) = (tt, tt)
stored_quiet (log_out.Settled end rows) = tt

answers_quiet : (number : Option ℕ) (answer : Answer) → AllByRecursion Quiet (answers_unanswered number answer)
answers_quiet None answer = tt
answers_quiet (Some number) answer = (tt, tt)

range_quiet : (managers : Managers) (o : FeedOut) → Quiet (range managers o)
range_quiet managers (Range slot past upto rows) = tt

pub pushes_quiet : (managers : Managers) (feed : FeedState) → AllByRecursion Quiet (push_all managers feed)
pushes_quiet managers feed = all_map Quiet (range managers) (range_quiet managers) (feed_tick feed)

-- ---- what the job says

-- the job stands in this phase, where there is one
abbrev JobAt : phases.Phase → Option Job → Type 0
JobAt p None = Unit {0}
JobAt p (Some job) = job.cleaning.phase ≡ p

record SaidJob (acted : Acted) (p : phases.Phase) (job : Option Job) : Type 0 where
  so : JobIn acted job
  at : JobAt p job

record Says (acted : Acted) (p : phases.Phase) (d : Done) : Type 0 where
  goes : Goes acted (serves_on d)
  at : JobAt p d.state.job

module _ (acted : Acted) (p : phases.Phase) where
  quiet_says : (d : Done) → SaidJob acted p d.state.job → AllByRecursion Quiet d.outs → Says acted p d
  quiet_says d h quiet = record { goes = quiet_goes acted (serves_on d) h.so quiet; at = h.at }

  -- a segment is read
  read_phase : (hand : Option Hand) (seg : SegRef) (q : phases.Phase) → Reads q seg → NoOtherInHand hand seg.name → PhaseSo hand q
  read_phase hand seg Greeting reads other = tt
  read_phase hand seg (Listing l) reads other = tt
  read_phase hand seg (Counting c) reads other = tt
  read_phase hand seg (Reading j segment) reads other = subst (λ (s : SegRef). NoOtherInHand hand s.name) (sym reads) other
  read_phase hand seg (Checking j segment checks) reads other = absurd reads
  read_phase hand seg (Deleting j segment servers) reads other = absurd reads
  read_phase hand seg Over reads other = tt

  segment_read : (e : Emptying) (seg : SegRef) → Reads p seg → (job : Job) → FlagSo acted job.hand → job.cleaning.phase ≡ p
      → Says acted p (record { state = holds_in e (Some job) seg; outs = fetches (hand_of (holds_in e (Some job) seg).job) })
  segment_read e seg reads job flag at =
      let t = takes acted seg e.maps.groups e.lasting.questions job.hand flag in
      let hand : Option Hand = (take_in_hand e.maps.groups e.lasting.questions job.hand seg).hand in
      quiet_says _
      (record {
        so = record { flag = t.flag; phase = read_phase hand seg job.cleaning.phase (subst (λ q. Reads q seg) (sym at) reads) t.other };
        at = at;
      })
      (fetches_quiet hand)

  module _ (e : Emptying) (its : SaidJob acted p e.job) where
    maps_asked : (o : Option Job) → SaidJob acted p o → Says acted p (ask_maps e o)
    maps_asked None k = quiet_says (still e) its tt
    maps_asked (Some job) k = quiet_says (ask_maps e (Some job)) (record { so = record { flag = k.so.flag; phase = k.so.phase }; at = k.at }) (tt, tt)

    list_asked : (o : Option Job) (server : ℕ) → SaidJob acted p o → Says acted p (ask_list e o server)
    list_asked None server k = quiet_says (still e) its tt
    list_asked (Some job) server k =
        quiet_says (ask_list e (Some job) server) (record { so = record { flag = k.so.flag; phase = k.so.phase }; at = k.at }) (tt, tt)

    usage_asked : (o : Option Job) (slot : ℕ) → SaidJob acted p o → Says acted p (ask_usage e o slot)
    usage_asked None slot k = quiet_says (still e) its tt
    usage_asked (Some job) slot k =
        quiet_says (ask_usage e (Some job) slot) (record { so = record { flag = k.so.flag; phase = k.so.phase }; at = k.at }) (tt, tt)

    -- a segment is read
    reads_said : (seg : SegRef) → Reads p seg → (o : Option Job) → SaidJob acted p o
        → Says acted p (record { state = holds_in e o seg; outs = fetches (hand_of (holds_in e o seg).job) })
    reads_said seg reads None k = at_none e.job its
      where
        at_none : (o : Option Job) → SaidJob acted p o → Says acted p (record { state = e; outs = fetches (hand_of e.job) })
        at_none o h = quiet_says (record { state = e; outs = fetches (hand_of e.job) }) its (fetches_quiet (hand_of e.job))
    reads_said seg reads (Some job) k = segment_read e seg reads job k.so.flag k.at

    -- a block is checked
    same_checked : (hand : Hand) (q : Questions) (block : BlockId) (ask : Option ℕ) → SameHand (Some hand) (Some (checks_under hand q block ask).hand)
    same_checked hand q block None = (refl, refl)
    same_checked hand q block (Some ask) = (refl, refl)

    job_checked : (job : Job) (q : Questions) (block : BlockId) (hand : Option Hand) → job.hand ≡ hand → JobSo acted job
        → JobSo acted (hand_checks_in job q hand block).job
    unfolding hand_check
    job_checked job q block None same k = k
    job_checked job q block (Some hand) same k =
        job_same acted job (Some (hand_check hand q block).hand)
        (subst (λ g. SameHand g (Some (hand_check hand q block).hand)) (sym same) (same_checked hand q block (kept_ask hand block))) k

    phase_checked : (job : Job) (q : Questions) (block : BlockId) (hand : Option Hand)
        → (hand_checks_in job q hand block).job.cleaning.phase ≡ job.cleaning.phase
    phase_checked job q block None = refl
    phase_checked job q block (Some hand) = refl

    sent_check : (f : Emptying) (block : BlockId) (place : Place) (ask : Option ℕ) → SaidJob acted p f.job → Says acted p (check_sent f block place ask)
    sent_check f block place None h = quiet_says (still f) h tt
    sent_check f block place (Some ask) h = quiet_says (check_sent f block place (Some ask)) h (tt, tt)

    check_asked : (block : BlockId) (place : Place) (o : Option Job) → SaidJob acted p o
        → Says acted p (check_sent (checked_in e o block).state block place (checked_in e o block).ask)
    unfolding job_check
    check_asked block place None k = quiet_says (still e) its tt
    check_asked block place (Some job) k =
        sent_check (checked_in e (Some job) block).state block place (checked_in e (Some job) block).ask (record {
          so = job_checked job e.lasting.questions block job.hand refl k.so;
          at = phase_checked job e.lasting.questions block job.hand ∙ k.at;
        })

    -- ---- a segment is deleted

    in_hand : (hand : Option Hand) (name : SegName) (q : phases.Phase) → Deletes q name → PhaseSo hand q → IsInHand hand name
    in_hand hand name Greeting deleted k = absurd deleted
    in_hand hand name (Listing l) deleted k = absurd deleted
    in_hand hand name (Counting c) deleted k = absurd deleted
    in_hand hand name (Reading j segment) deleted k = absurd deleted
    in_hand hand name (Checking j segment checks) deleted k = absurd deleted
    in_hand hand name (Deleting j segment servers) deleted k = subst (IsInHand hand) deleted k
    in_hand hand name Over deleted k = absurd deleted

    module _ (job : Job) (server : ℕ) (name : SegName) where
      abbrev word : List Effect
      word = Send (Server server) (body.Delete (record { name = name })) ∷ []

      abbrev deleted_by : Option Hand → Bool → Done
      deleted_by hand whole = record { state = record e { job = Some (record job { hand = dropped hand }) }; outs = act_dropped whole name ++ word }

      same_dropped : (hand : Hand) (q : phases.Phase) → PhaseSo (Some hand) q → PhaseSo (Some (record hand { dropped = true })) q
      same_dropped hand Greeting k = tt
      same_dropped hand (Listing l) k = tt
      same_dropped hand (Counting c) k = tt
      same_dropped hand (Reading j segment) k = k
      same_dropped hand (Checking j segment checks) k = k
      same_dropped hand (Deleting j segment servers) k = k
      same_dropped hand Over k = tt

      by_flag : (hand : Hand) → hand.seg.name ≡ name → PhaseSo (Some hand) job.cleaning.phase → FlagSo acted (Some hand) → (flag : Bool) → hand.dropped ≡ flag
          → Goes acted (serves_on (deleted_by (Some hand) (not flag)))
      by_flag hand its_name k flag false fact = record {
        state = record { flag = λ _. inr (inl (ap (λ n. Does (Dropped n)) its_name)); phase = same_dropped hand job.cleaning.phase k };
        effects = (tt, (inr (inl refl), tt));
        said = (record { to = Server server; among = inr (inl refl) }, (tt, tt));
      }
      by_flag hand its_name k flag true fact = record {
        state = record { flag = λ _. inl (flag fact); phase = same_dropped hand job.cleaning.phase k };
        effects = (inl (subst acted its_name (flag fact)), tt);
        said = (tt, tt);
      }

      by_hand : (hand : Option Hand) → IsInHand hand name → PhaseSo hand job.cleaning.phase → FlagSo acted hand
          → Goes acted (serves_on (deleted_by hand (is_whole hand)))
      by_hand None own k flag = absurd own
      by_hand (Some hand) own k flag = by_flag hand own k flag hand.dropped refl

    segment_deleted : (server : ℕ) (name : SegName) → Deletes p name → (o : Option Job) → SaidJob acted p o → Says acted p (emptying_delete e o server name)
    segment_deleted server name deleted None k = quiet_says (still e) its tt
    segment_deleted server name deleted (Some job) k = record {
      goes = by_hand job server name job.hand (in_hand job.hand name p deleted (subst (PhaseSo job.hand) k.at k.so.phase)) k.so.phase k.so.flag;
      at = k.at;
    }

  -- ---- live blocks are moved

  put_said : (e : Emptying) (i : LogIn) → SaidJob acted p e.job → Says acted p (emptying_put e i)
  unfolding emptying_put
  put_said e i h = quiet_says (emptying_put e i) h (all_flat_map Quiet stored stored_quiet (log.transition e.log i).outs)

-- one thing after the other
says_on : (acted : Acted) (p : phases.Phase) (d f : Done) → Says acted p d
    → ((more : Acted) → SaidJob more p d.state.job → Says more p f) → Says acted p (saying d.outs f)
says_on acted p d f g next =
    let k = next (Also acted d.outs) (record { so = g.goes.state; at = g.at }) in
    record { goes = goes_on acted (serves_on d) (serves_on f) g.goes k.goes; at = k.at }

puts_said : (p : phases.Phase) (blocks : List (BlockId × Entry × Option (List ℕ))) (acted : Acted) (e : Emptying) → SaidJob acted p e.job
    → Says acted p (steps put_block e blocks)
unfolding put_block
puts_said p [] acted e h = quiet_says acted p (still e) h tt
puts_said p (one ∷ blocks) acted e h =
    says_on acted p (put_block e one) (steps put_block (put_block e one).state blocks) (put_said acted p e (log_in.Put one.0 one.1 one.2) h)
    (λ more k. puts_said p blocks more (put_block e one).state k)

moves_said : (acted : Acted) (p : phases.Phase) (e : Emptying) (blocks : List (BlockId × Entry × Option (List ℕ))) → SaidJob acted p e.job
    → Says acted p (move_all e blocks)
unfolding move_all
moves_said acted p e blocks h =
    says_on acted p (steps put_block e blocks) (emptying_put (steps put_block e blocks).state log_in.Seal) (puts_said p blocks acted e h)
    (λ more k. put_said more p (steps put_block e blocks).state log_in.Seal k)

-- ---- all that it says

one_said : (acted : Acted) (p : phases.Phase) (e : Emptying) (o : Out) → SaidJob acted p e.job → OutSo p o → Says acted p (says e o)
unfolding says emptying_read emptying_hold ask_check emptying_check
one_said acted p e out.Hello h due = maps_asked acted p e h e.job h
one_said acted p e (out.List server) h due = list_asked acted p e h e.job server h
one_said acted p e (out.UsageAsk slot) h due = usage_asked acted p e h e.job slot h
one_said acted p e (out.Fetch seg) h due = reads_said acted p e h seg due e.job h
one_said acted p e (out.Check block place) h due = check_asked acted p e h block place e.job h
one_said acted p e (out.Move blocks) h due = moves_said acted p e blocks h
one_said acted p e (out.Delete server name) h due = segment_deleted acted p e h server name due e.job h
one_said acted p e (out.Finished count) h due =
    quiet_says acted p (emptying_finish e count) (record { so = tt; at = tt }) (answers_quiet e.lasting.items.unanswered _)

all_said : (p : phases.Phase) (outs : List Out) → AllByRecursion (OutSo p) outs → (acted : Acted) (e : Emptying) → SaidJob acted p e.job
    → Says acted p (steps says e outs)
all_said p [] due acted e h = quiet_says acted p (still e) h tt
all_said p (o ∷ outs) due acted e h =
    says_on acted p (says e o) (steps says (says e o).state outs) (one_said acted p e o h due.0) (λ more k. all_said p outs due.1 more (says e o).state k)

-- ---- the job takes an input

abbrev pub InputIn : Option Job → In → Type 0
InputIn None i = Unit {0}
InputIn (Some job) i = InputSo job.hand i

module _ (acted : Acted) (e : Emptying) (its : JobIn acted e.job) (given : In) where
  -- a further segment begins to be read
  begun : (p : phases.Phase) (job : Job) (outs : List Out) → FlagSo acted job.hand → job.cleaning.phase ≡ p → AllByRecursion (OutSo p) outs
      → (seg : SegRef) → outs ≡ out.Fetch seg ∷ [] → Goes acted (serves_on (steps says (record e { job = Some job }) outs))
  unfolding says emptying_read emptying_hold
  begun p job outs flag at due seg said =
      subst (λ os. AllByRecursion (OutSo p) os → Goes acted (serves_on (steps says (record e { job = Some job }) os))) (sym said)
      (λ fetched. let f : Emptying = record e { job = Some job } in
      let r = segment_read acted p f seg fetched.0 job flag at in
      goes_on acted (serves_on (says f (out.Fetch seg))) (serves_on (still (says f (out.Fetch seg)).state)) r.goes
      (quiet_goes (Also acted (says f (out.Fetch seg)).outs) (serves_on (still (says f (out.Fetch seg)).state)) r.goes.state tt))
      due

  taken_goes : (o : Option Job) → JobIn acted o → InputIn o given → Goes acted (serves_on (steps says (takes_in e o given).state (takes_in e o given).outs))
  taken_goes None k one = quiet_goes acted (serves_on (still e)) its tt
  taken_goes (Some job) k one =
      let r = transition job.cleaning given in
      let f : Job = record job { cleaning = r.state } in
      let t = taken_so job.hand job.cleaning given one k.phase in
      elim t.phase [
        | inl phase ↦ (all_said r.state.phase r.outs t.outs acted (record e { job = Some f })
            (record { so = record { flag = k.flag; phase = phase }; at = refl })).goes
        | inr begins ↦ begun r.state.phase f r.outs k.flag refl t.outs begins.seg begins.said
      ]

  pub cleaned : InputIn e.job given → Goes acted (serves_on (emptying_clean e given))
  unfolding emptying_clean emptying_take
  cleaned one = taken_goes e.job its one

-- ---- the log takes an input

pub moved_job : (acted : Acted) (o : Option Job) → JobIn acted o → JobIn acted (note_moved o)
moved_job acted None k = tt
moved_job acted (Some job) k = job_same acted job (hand_moved job.hand) (same_moved job.hand) k
  where
    same_moved : (h : Option Hand) → SameHand h (hand_moved h)
    same_moved None = tt
    same_moved (Some h) = (refl, refl)

settled_goes : (acted : Acted) (e : Emptying) (end : End) (rows : List (BlockId × Entry)) → JobIn acted e.job → Goes acted (serves_on (emptying_settle e end rows))
unfolding emptying_settle
settled_goes acted e end rows h =
    let f : Emptying = fed e end rows in
    let said : List Effect = Does (Filed (name_of cleaner_log end)) ∷ push_all f.promised.managers f.feed in
    let first = quiet_goes acted (serves_on (record { state = f; outs = said })) (moved_job acted e.job h) (tt, pushes_quiet f.promised.managers f.feed) in
    goes_on acted (serves_on (record { state = f; outs = said })) (serves_on (emptying_clean f input.Moved)) first
    (cleaned (Also acted said) f first.state input.Moved (moved_in f.job))
  where
    moved_in : (o : Option Job) → InputIn o input.Moved
    moved_in None = tt
    moved_in (Some job) = tt

one_written : (acted : Acted) (e : Emptying) (o : LogOut) → JobIn acted e.job → Goes acted (serves_on (write_one e o))
unfolding write_one
one_written acted e (log_out.Send fragment member) h = quiet_goes acted (serves_on (write_one e (log_out.Send fragment member))) h (tt, tt)
one_written acted e (log_out.Settled end rows) h = settled_goes acted e end rows h

all_written : (outs : List LogOut) (acted : Acted) (e : Emptying) → JobIn acted e.job → Goes acted (serves_on (steps write_one e outs))
all_written [] acted e h = quiet_goes acted (serves_on (still e)) h tt
all_written (o ∷ outs) acted e h =
    let g = one_written acted e o h in
    goes_on acted (serves_on (write_one e o)) (serves_on (steps write_one (write_one e o).state outs)) g
    (all_written outs (Also acted (write_one e o).outs) (write_one e o).state g.state)

pub written : (acted : Acted) (e : Emptying) (i : LogIn) → JobIn acted e.job → Goes acted (serves_on (emptying_write e i))
unfolding emptying_write
written acted e i h = (let r = log.transition e.log i in all_written r.outs acted (record e { log = r.state }) h)
