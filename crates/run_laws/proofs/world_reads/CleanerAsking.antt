-- The cleaner may ask what it asks: each Check that it sends in an event is of a Block of a filed segment, at the place of the block's row, and lies below a
-- horizon of an epoch that it has promised.
use Rattle.std.proofs.Common.{◌≡◌, ◌≤◌, ◌<◌, ℕ, Bool, true, false, List, [], ◌∷◌, ◌+◌, Option, None, Some, if◌then◌else◌, refl, sym, ap, subst, ◌∙◌, arith}
use Rattle.std.proofs.lemmas.Bool.Decides.{nat_tests}
use Rattle.std.proofs.lemmas.Map.Views.{tells_apart}
use Rattle.std.specs.List.{AllByRecursion}
use Rattle.cleaner_serving.specs.declared.emptying.Emptying.{Emptying}
use Rattle.cleaner_node.specs.CleanerEvents.{takes}
use Rattle.cleaner_node.specs.declared.cleaner.Cleaner.{Cleaner as CleanerNode}
use Rattle.cleaner_node.specs.declared.cleaner.Phase as cleaning
use Rattle.cleaner_node.specs.declared.cleaner.Phase.TheVariants.{Down, Opening, Serving}
use Rattle.cleaner_job.specs.declared.job.Job.{Job}
use Rattle.core_world.specs.declared.any_node.AnyNode.TheVariants as any
use Rattle.index_tie.proofs.Runs.{good_in}
use Rattle.index_tie.specs.Cleaning.{IsWithin, ReadFor}
use Rattle.headline.specs.Filed.{is_filed_name, row_at}
use Rattle.index_tie.specs.Filed.{IsFiled}
use Rattle.index_tie.specs.Net.{Net, Runs, opening, with_job}
use Rattle.index_tie.specs.Net.Happens.{JobReads}
use Rattle.index_tie.specs.Net.Runs.{On}
use Rattle.headline.specs.Indexes.{of_log}
use Rattle.log_owner.specs.Sending.{server_in}
use Rattle.log_scan.specs.Transition.{least_horizon}
use Rattle.node_base.specs.declared.effects.Effect.{Effect}
use Rattle.node_base.specs.declared.effects.Effect.TheVariants.{Send, Answer, Lose, Does}
use Rattle.node_slots.specs.node_index_tie.Sight.{held_in}
use Rattle.node_logs.specs.node_log_tie.CleanerEvents.{JobPhaseSeen}
use Rattle.node_slots.specs.owner_index_tie.CleanerEvents.{EffectOwed, ReadGets, SaysOwed}
use Rattle.run_laws.proofs.place_law.Lying.{one_of_nine}
use Rattle.run_laws.specs.place_law.Hands.{AnswerReads}
use Rattle.run_laws.specs.reading_law.Readings.{ReadingsCame}
use Rattle.node_tellings.specs.reading_tie.CleanerMeets.{JobMet, PhaseMet, listed_in}
use Rattle.registry.specs.Board.{board_slots}
use Rattle.segment_format.specs.declared.segment.Item.{Item}
use Rattle.segment_format.specs.declared.segment.Item.TheVariants.{Block, Delta, Part}
use Rattle.segment_format.specs.declared.segment.Segment.{Segment}
use Rattle.stripe_cleaner.specs.Checks.{all_dead, checks_of, place_in, questions}
use Rattle.stripe_cleaner.specs.CleaningState.{CleaningState}
use Rattle.stripe_cleaner.specs.declared.checks.Check.{Check}
use Rattle.stripe_cleaner.specs.declared.input.In.TheVariants as input
use Rattle.stripe_cleaner.specs.declared.phase.Phase.{Phase}
use Rattle.stripe_cleaner.specs.declared.phase.Phase.TheVariants.{Greeting, Listing, Counting, Reading, Checking, Deleting, Over}
use Rattle.stripe_cleaner.specs.Job as turns
use Rattle.stripe_cleaner.specs.Job.{same_name}
use Rattle.stripe_cleaner.specs.JobState.{JobState}
use Rattle.stripe_cleaner.specs.Transition.{read_in, transition}
use Rattle.stripe_code.specs.declared.round.Told.{Told}
use Rattle.stripe_code.specs.declared.round.Told.TheVariants.{Held, Missing}
use Rattle.token_protocol.specs.Basics.{In}
use Rattle.wire_msg.specs.declared.body.Body.{Body}
use Rattle.wire_msg.specs.declared.body.Body.TheVariants as body
use Rattle.wire_msg.specs.declared.packet.Do.{Do}
use Rattle.wire_msg.specs.declared.packet.Do.TheVariants.{Begin, Deliver, Tick}
use Rattle.wire_msg.specs.declared.packet.Packet.{Packet}
use Rattle.headline.specs.Moments.{moment, node_named}
use Rattle.run_laws.specs.world_logs.Lines.{setting}
use Rattle.headline.specs.Logs.{Role}
use Rattle.run_laws.proofs.world_reads.CleanerChecked.{BodyMay, BodyReadsMay, DoReadsMay, EffectMay, InputAt, JobMay, PhaseMay, ToldMay, event_asks}
use Rattle.run_laws.proofs.world_reads.CleanerChecks as phases
use Rattle.run_laws.proofs.world_reads.CleanerChecks.{CheckMay, FoundMay, May}
use Rattle.run_laws.proofs.world_reads.CleanerGets.{AreReached, answer_reads, has_job, its_about}
use Rattle.run_laws.proofs.world_reads.CleanerLow.{least_promised}
use Rattle.run_laws.proofs.world_reads.CleanerMoment.{IsHere}
use Rattle.run_laws.proofs.world_reads.CleanerNames.{all_named}
use Rattle.run_laws.proofs.world_reads.CleanerReading.{ListsOurs, MayBeDropped, below, flew_so, its_group, job_seen, within}
use Rattle.run_laws.specs.world_reads.Joint.{Joint, There, log_at}
use Rattle.run_laws.specs.world_reads.References.{Flew}
use Rattle.xfs_base.proofs.Orders.{seg_cmp_exact}
use Rattle.xfs_base.specs.Blocks.{slot_of}
use Rattle.xfs_base.specs.declared.block.BlockId.{BlockId}
use Rattle.xfs_base.specs.declared.entry.Place.{Place}
use Rattle.xfs_base.specs.declared.node.NodeId.TheVariants.{Cleaner}
use Rattle.xfs_base.specs.declared.segment.SegName.{SegName}
use Rattle.xfs_base.specs.declared.segment.SegRef.{SegRef}
use Rattle.xfs_base.specs.Steps.{still}
use Rattle.xfs_base.proofs.Alls.{all_weaker}
use Rattle.run_laws.proofs.world_reads.Below.{Below}
use Rattle.run_laws.specs.world_reads.LoggedRuns.{LoggedRun}

-- what is so of each where a test passes is so of each, where it passes
each_where : {X : Type 0} (t : Bool) (P : X → Type 0) (xs : List X) → (t ≡ true → AllByRecursion P xs) → AllByRecursion (λ x. t ≡ true → P x) xs
each_where t P [] all = tt
each_where t P (x ∷ xs) all = (λ premise. (all premise).0, each_where t P xs (λ premise. (all premise).1))

-- of what has just been read each Block is asked for: where all were dead there would be none
none_dead : (P : Check → Type 0) (number : ℕ) (items : List Item) → all_dead (checks_of number items) ≡ true → AllByRecursion P (checks_of number items)
none_dead P number [] dead = tt
none_dead P number (Block block value ∷ items) dead = absurd cc
none_dead P number (Delta block ver hop item ∷ items) dead = none_dead P (number + 1) items dead
none_dead P number (Part slot rows ∷ items) dead = none_dead P (number + 1) items dead

-- the job checks the segment that is read
then_checks : (c : CleaningState) (j : JobState) (segment : SegRef) (s : Segment) → c.phase ≡ Reading j segment → same_name s.name segment.name ≡ true
    → all_dead (checks_of 0 s.items) ≡ false → (transition c (input.Read (Some s))).state.phase ≡ Checking j segment (checks_of 0 s.items)
unfolding turns.job_check
then_checks c j segment s reads named some =
    ap (λ (p : Phase). (read_in (Some s) p).state) reads
    ∙ (ap (λ (t : Bool). (if t then turns.job_check j segment (checks_of 0 s.items) else still (Reading j segment)).state) named
    ∙ ap (λ (t : Bool). (if t then turns.job_delete j segment else record {
      state = Checking j segment (checks_of 0 s.items);
      outs = questions segment (checks_of 0 s.items);
    }).state) some)

-- the law of places, and how long horizons stay
module _ (law : Below) (logged : LoggedRun) (part count : ℕ) (joint : Joint logged part count) (node : CleanerNode) (here : IsHere logged part count node)
    (of_eight : part < 8) (ours : ListsOurs logged part count) (reached : AreReached law logged part count joint node here)
    (came : ReadingsCame logged.estate.world (moment logged.estate count))
    (named : node_named (moment logged.estate count) Cleaner ≡ Some (any.Cleaner node)) where
  open logged use {base, estate as e, texts, first}

  abbrev sent : List Packet
  sent = (moment e count).sent

  abbrev n : Net
  n = joint.idx.net

  runs : Runs part (held_in part texts.text) (opening first) n
  runs = joint.index_stands.runs

  filed : IsFiled n.filed
  filed = (good_in part (held_in part texts.text) first n runs).filed

  -- a Check of the block at this place may be asked, under any question
  pub record IsAskable (b : BlockId) (place : Place) : Type 0 where
    pub epoch : ℕ
    pub promised : epoch ≤ n.promised
    pub within : IsWithin n.filed place.seg.name
    pub below : place.seg.name.seq < of_log (n.horizon epoch) place.seg.name.log.0
    pub lies : is_filed_name n.filed place.seg.name ≡ true
        → (row_at n.filed b place.seg.name.log.0 place.seg.name.seq).place ≡ Some place

  abbrev pub may : May
  may b place = slot_of b.ino.0 ≡ part → IsAskable b place

  -- ---- the segment that the job is about

  module _ (seg : SegRef) (f : Flew logged part count seg) (drop : MayBeDropped logged part count
      law.logs.listed ours
      law.logs.written joint reached seg.name) where
    its_within : IsWithin n.filed seg.name
    its_within = within logged part count law.logs.listed ours law.logs.written joint reached seg f drop

    its_nine : (0 < seg.name.log.0) × (seg.name.log.0 ≤ 9)
    its_nine = one_of_nine n.filed filed seg.name.log.0 seg.name.seq its_within.some its_within.filed

    -- at the place of the row of its block a Block of it may be asked for
    askable : (b : BlockId) (item : ℕ)
        → (is_filed_name n.filed seg.name ≡ true → (row_at n.filed b seg.name.log.0 seg.name.seq).place ≡ Some (place_in seg item))
        → IsAskable b (place_in seg item)
    askable b item lies =
        let p = least_promised law.tokens.epochs.horizons_stay part (held_in part texts.text) first n of_eight runs joint.idx.registry joint.index_stands.registry
        seg.name.log.0
        its_nine.0 its_nine.1 in
        let low : seg.name.seq < least_horizon seg.name.log.0 (board_slots joint.idx.registry.board) =
        below logged part count law.logs.listed ours law.logs.written joint reached seg f drop in
        let up = p.above in
        record { epoch = p.epoch; promised = p.promised; within = its_within; below = omega arith; lies = lies }

    -- it is referred to with the group of what is filed, where that bears its name
    grouped : is_filed_name n.filed seg.name ≡ true → seg.group ≡ (n.filed.segment seg.name.log.0 seg.name.seq).group
    grouped premise =
        let there : Segment = n.filed.segment seg.name.log.0 seg.name.seq in
        let name : seg.name ≡ there.name = tells_apart seg_cmp_exact seg.name there.name premise in
        its_group logged part count law.logs.listed ours seg f
        ∙ (ap (λ (x : SegName). (texts.text x).group) name
        ∙ ap (λ (s : Segment). s.group) (sym (joint.index_stands.texts_of seg.name.log.0 seg.name.seq its_within.some its_within.filed)))

    -- so it is of each check, where each is at the place of the row of its block
    all_may : (checks : List Check)
        → (is_filed_name n.filed seg.name ≡ true
        → AllByRecursion (λ (c : Check). (row_at n.filed c.block seg.name.log.0 seg.name.seq).place ≡ Some (place_in seg c.item)) checks)
        → AllByRecursion (CheckMay may seg) checks
    all_may checks rows =
        all_weaker
        (λ (c : Check). is_filed_name n.filed seg.name ≡ true → (row_at n.filed c.block seg.name.log.0 seg.name.seq).place ≡ Some (place_in seg c.item))
        (CheckMay may seg) (λ c lies inside. askable c.block c.item lies) checks
        (each_where (is_filed_name n.filed seg.name)
        (λ (c : Check). (row_at n.filed c.block seg.name.log.0 seg.name.seq).place ≡ Some (place_in seg c.item)) checks rows)

    -- what the job checks
    checked_may : (j : JobState) (checks : List Check) → n.job.phase ≡ Checking j seg checks → AllByRecursion (CheckMay may seg) checks
    checked_may j checks premise =
        all_may checks
        (λ there. law.reads.places.checks_are_of_rows part (held_in part texts.text) first n j seg checks runs (λ l q low high some limit. (joint.tells l q some
        limit).plain)
        (all_named n.filed joint.tells) premise there (grouped there))

    -- and what it reads
    read_may : (j : JobState) (s : Segment) → n.job.phase ≡ Reading j seg → ReadFor n.filed (Some s) n.job.phase → s.name ≡ seg.name
        → AllByRecursion (CheckMay may seg) (checks_of 0 s.items)
    read_may j s premise owed same = by (all_dead (checks_of 0 s.items)) refl
      where
        passes : same_name s.name seg.name ≡ true
        passes = subst (λ (x : SegName). same_name s.name x ≡ true) same (itself s.name)
          where
            itself : (x : SegName) → same_name x x ≡ true
            itself x = grind (arith, nat_tests)

        by : (t : Bool) → all_dead (checks_of 0 s.items) ≡ t → AllByRecursion (CheckMay may seg) (checks_of 0 s.items)
        by true dead = none_dead (CheckMay may seg) 0 s.items dead
        by false alive =
            all_may (checks_of 0 s.items)
            (λ there. law.reads.places.checks_are_of_rows part (held_in part texts.text) first (with_job n (transition n.job (input.Read (Some s)))) j seg
            (checks_of 0 s.items)
            (On runs (JobReads (Some s) owed)) (λ l q low high some limit. (joint.tells l q some limit).plain) (all_named n.filed joint.tells)
            (then_checks n.job j seg s premise passes alive) there (grouped there))

  -- ---- the job of one that serves

  module _ (v : Emptying) (serves : node.phase ≡ Serving v) (job : Job) (has : v.job ≡ Some job) where
    same_phase : n.job.phase ≡ job.cleaning.phase
    same_phase = ap (λ (s : CleaningState). s.phase)
        (has_job law logged part count joint node here ours reached came named v serves job has)

    about : JobMet (listed_in sent Cleaner) job.cleaning.phase job.hand
    about = its_about law logged part count joint node here ours reached came named v serves job has

    drops : (p : Phase) → job.cleaning.phase ≡ p → (r : Role) (there : There logged part r)
        → JobPhaseSeen (setting base e r) (log_at logged part r there count) p
    drops p premise r there =
        subst (JobPhaseSeen (setting base e r) (log_at logged part r there count)) premise
        (job_seen logged part count law.logs.listed ours law.logs.written joint reached node here v serves job
        has r there)

    met : (p : Phase) → job.cleaning.phase ≡ p → PhaseMet (listed_in sent Cleaner) p
    met p premise = subst (PhaseMet (listed_in sent Cleaner)) premise about.about

    -- what it checks
    phase_may : (p : Phase) → job.cleaning.phase ≡ p → phases.PhaseMay may p
    phase_may (Checking j seg checks) premise =
        checked_may seg (flew_so logged part count law.logs.listed ours seg (met (Checking j seg checks) premise).here)
        (λ r there. (drops (Checking j seg checks) premise r there).1) j checks (same_phase ∙ premise)
    phase_may Greeting premise = tt
    phase_may (Listing l) premise = tt
    phase_may (Counting c) premise = tt
    phase_may (Reading j seg) premise = tt
    phase_may (Deleting j seg servers) premise = tt
    phase_may Over premise = tt

    -- and what it reads
    found_may : (s : Segment) → ReadFor n.filed (Some s) n.job.phase → (p : Phase) → job.cleaning.phase ≡ p → FoundMay may s p
    found_may s owed (Reading j seg) premise =
        read_may seg (flew_so logged part count law.logs.listed ours seg (met (Reading j seg) premise).here)
        (λ r there. (drops (Reading j seg) premise r there).1) j s (same_phase ∙ premise) owed
    found_may s owed Greeting premise = tt
    found_may s owed (Listing l) premise = tt
    found_may s owed (Counting c) premise = tt
    found_may s owed (Checking j seg checks) premise = tt
    found_may s owed (Deleting j seg servers) premise = tt
    found_may s owed Over premise = tt

  module _ (v : Emptying) (serves : node.phase ≡ Serving v) where
    job_may : (o : Option Job) → v.job ≡ o → JobMay may o
    job_may None premise = tt
    job_may (Some job) premise = phase_may v serves job premise job.cleaning.phase refl

    input_may : (s : Segment) → ReadFor n.filed (Some s) n.job.phase → (o : Option Job) → v.job ≡ o → InputAt may o (input.Read (Some s))
    input_may s owed None premise = tt
    input_may s owed (Some job) premise = found_may v serves job premise s owed job.cleaning.phase refl

    told_may : (from : Option ℕ) (ask : ℕ) (t : Told) → ReadGets part n v from ask t → ToldMay may v from ask t
    told_may None ask t gets = tt
    told_may (Some server) ask t gets = λ s premise. input_may s (gets s premise) v.job refl

    body_may : (p : Packet) → In p sent → p.to ≡ Cleaner → (m : Body) → p.body ≡ m → BodyReadsMay may v p.from m
    body_may p among own (body.Fragment m) premise =
        told_may (server_in p.from) m.ask (Held m.fragment)
        (subst (AnswerReads part n v p.from) premise
        (answer_reads law logged part count joint node here ours reached came named v serves p among own))
    body_may p among own (body.Missing m) premise =
        told_may (server_in p.from) m.ask (Missing m.generation)
        (subst (AnswerReads part n v p.from) premise
        (answer_reads law logged part count joint node here ours reached came named v serves p among own))
    body_may p among own _ premise = tt

  -- ---- the event

  node_may : (p : cleaning.Phase) → node.phase ≡ p → PhaseMay may p
  node_may (Down l) premise = tt
  node_may (Opening l o) premise = tt
  node_may (Serving v) premise = job_may v premise v.job refl

  do_may : (what : Do) → ((q : Packet) → what ≡ Deliver q → In q sent × (q.to ≡ Cleaner)) → (p : cleaning.Phase) → node.phase ≡ p → DoReadsMay may p what
  do_may Begin fact p premise = tt
  do_may Tick fact p premise = tt
  do_may (Deliver q) fact (Down l) premise = tt
  do_may (Deliver q) fact (Opening l o) premise = tt
  do_may (Deliver q) fact (Serving v) premise = (let f = fact q refl in body_may v premise q f.0 f.1 q.body refl)

  body_owed : (m : Body) → BodyMay may m → SaysOwed part n m
  body_owed (body.Check m) asks =
      λ inside. (let a = asks inside in record { epoch = a.epoch; promised = a.promised; within = a.within; below = a.below; lies = a.lies })
  body_owed _ asks = tt

  effect_owed : (x : Effect) → EffectMay may x → EffectOwed part n x
  effect_owed (Send to m) asks = body_owed m asks
  effect_owed (Answer item answer) asks = tt
  effect_owed (Lose seg) asks = tt
  effect_owed (Does act) asks = tt

  -- what it asks in an event it may ask
  pub asks : (what : Do) → ((q : Packet) → what ≡ Deliver q → In q sent × (q.to ≡ Cleaner))
      → AllByRecursion (EffectOwed part n) (takes node.peers node.phase what).outs
  asks what fact =
      all_weaker (EffectMay may) (EffectOwed part n) effect_owed (takes node.peers node.phase what).outs
      (event_asks may node what (do_may what fact node.phase refl) (node_may node.phase refl))
