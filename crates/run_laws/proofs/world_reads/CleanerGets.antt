-- What the cleaner gets: its log is linked from the horizon of an epoch that is polled, and the segment that it reads for its job is the filed one.
use Rattle.std.proofs.Common.{◌≡◌, ◌≤◌, ℕ, false, List, Option, None, Some, refl, sym, ap, subst, ◌∙◌, arith}
use Rattle.cleaner_serving.specs.declared.emptying.Emptying.{Emptying}
use Rattle.cleaner_serving.specs.Jobs.{emptying_hear, told_in}
use Rattle.cleaner_node.specs.declared.cleaner.Cleaner.{Cleaner as CleanerNode}
use Rattle.cleaner_node.specs.declared.cleaner.Phase as cleaning
use Rattle.cleaner_node.specs.declared.cleaner.Phase.TheVariants.{Down, Opening, Serving}
use Rattle.cleaner_job.specs.declared.job.Job.{Job}
use Rattle.cleaner_job.specs.Jobs.{hand_of}
use Rattle.core_world.specs.declared.any_node.AnyNode.TheVariants as any
use Rattle.headline.specs.Indexes.{of_log}
use Rattle.log_owner.specs.Promised.{epoch_of}
use Rattle.log_owner.specs.Sending.{server_in}
use Rattle.log_scan.specs.Transition.{least_horizon}
use Rattle.node_slots.specs.owner_index_tie.CleanerEvents.{EmptyingSeen, JobAgrees, PhaseAgrees, PollGets, ReadGets}
use Rattle.run_laws.specs.place_law.Copies.{HasJob}
use Rattle.run_laws.specs.place_law.Hands.{AnswerReads}
use Rattle.run_laws.specs.reading_law.Readings.{ReadingsCame, cuts_at}
use Rattle.node_tellings.specs.reading_tie.Arrivals.{answered_in, cut_by}
use Rattle.node_tellings.specs.reading_tie.CleanerMeets.{AnyJobMet, HandMet, JobMet, NodeMet, PhaseMet, listed_in}
use Rattle.node_tellings.specs.reading_tie.CleanerReads.{PhaseHolds, ServesSo}
use Rattle.registry.specs.Board.{board_slots}
use Rattle.segment_format.specs.declared.segment.Segment.{Segment}
use Rattle.segment_reading.specs.declared.reading.Next.TheVariants as next
use Rattle.stripe_cleaner.specs.CleaningState.{CleaningState}
use Rattle.stripe_code.specs.declared.round.Told.{Told}
use Rattle.stripe_code.specs.declared.round.Told.TheVariants.{Held, Missing}
use Rattle.token_protocol.specs.Basics.{In}
use Rattle.wire_msg.specs.declared.body.Body.{Body}
use Rattle.wire_msg.specs.declared.body.Body.TheVariants as body
use Rattle.wire_msg.specs.declared.deltas.Poll.{Poll}
use Rattle.wire_msg.specs.declared.packet.Do.{Do}
use Rattle.wire_msg.specs.declared.packet.Do.TheVariants.{Begin, Deliver, Tick}
use Rattle.wire_msg.specs.declared.packet.Packet.{Packet}
use Rattle.run_laws.specs.world_index.Owes.{CleanerBodyOwed, CleanerDoOwed, CleanerPacketOwed}
use Rattle.headline.specs.Moments.{moment, node_named}
use Rattle.run_laws.specs.world_lines.Lines.{LineGives}
use Rattle.headline.specs.Logs.{Role, did, log_by, renews}
use Rattle.headline.specs.Horizons.{Reached}
use Rattle.headline.specs.Logs.Role.{OfCleaner}
use Rattle.run_laws.proofs.world_reads.CleanerMoment.{IsHere, agrees, its_line, its_scene, its_setting, sure_at}
use Rattle.run_laws.proofs.world_reads.CleanerReading.{ListsOurs, reads_within, refers}
use Rattle.run_laws.proofs.world_reads.KnownLogs.{filed_known}
use Rattle.run_laws.specs.world_reads.Joint.{Joint, There}
use Rattle.run_laws.proofs.world_reads.Joint.{IsSureUpto}
use Rattle.xfs_base.specs.declared.node.NodeId.{NodeId}
use Rattle.xfs_base.specs.declared.node.NodeId.TheVariants.{Cleaner, Registry}
use Rattle.run_laws.proofs.world_reads.Below.{Below}
use Rattle.run_laws.specs.world_reads.LoggedRuns.{LoggedRun}

module _ (below : Below) (logged : LoggedRun) (part count : ℕ) (joint : Joint logged part count) (node : CleanerNode)
    (here : IsHere logged part count node) where
  open logged use {estate as e, texts}

  abbrev sent : List Packet
  sent = (moment e count).sent

  -- a Poll that was sent is of an epoch at which the horizon of the cleaner's log is no lower than the least one
  abbrev pub PollsAreLow : Type 0
  PollsAreLow = (v : Emptying) (p : Packet) (m : Poll) → node.phase ≡ Serving v → In p sent → p.body ≡ body.Poll m → m.slot ≡ part
      → epoch_of v.promised part ≤ m.epoch
      → least_horizon 9 (board_slots joint.idx.registry.board) ≤ of_log (joint.idx.net.horizon m.epoch) 9

  -- horizons that the registry keeps are no further than what was filed
  abbrev pub AreReached : Type 0
  AreReached = (r : Role) → There logged part r → renews r ≡ false
      → Reached (did e (log_by r) count) (least_horizon (log_by r) (board_slots joint.idx.registry.board))

  module _ (sure : IsSureUpto logged part count) (low : PollsAreLow) where
    gives : LineGives 9 (its_scene logged part count).net joint.idx.net.filed
    gives = below.lines.lines_give texts.text 9 (its_setting logged part) (its_scene logged part count).net
        joint.idx.net.filed
        (sure_at logged part count sure) (joint.lined OfCleaner tt refl)

    low_is : (its_scene logged part count).net.low ≡ least_horizon 9 (board_slots joint.idx.registry.board)
    low_is =
        (((its_line logged part).stands count).seen Registry (any.Registry joint.idx.registry) joint.index_stands.placed.registry).low

    pub poll_gets : (v : Emptying) (p : Packet) (m : Poll) → node.phase ≡ Serving v → In p sent → p.body ≡ body.Poll m → PollGets part joint.idx.net v m
    poll_gets v p m serves among premise same late some =
        let l = low v p m serves among premise same late in let i = low_is in
        gives.linked (of_log (joint.idx.net.horizon m.epoch) 9) (joint.idx.net.filed.head 9) some (omega arith) (omega arith)

  -- ---- what it reads

  module _ (ours : ListsOurs logged part count) (reached : AreReached) (came : ReadingsCame e.world (moment e count))
      (named : node_named (moment e count) Cleaner ≡ Some (any.Cleaner node)) (v : Emptying) (serves : node.phase ≡ Serving v) where
    seen : EmptyingSeen part joint.idx.net v.log v.feed v.promised v.job
    seen = (subst (PhaseAgrees part joint.idx.net texts.text) serves (agrees logged part count joint node here).phase).0

    job_is : (epoch : ℕ) (o : Option Job) (job : Job) → JobAgrees part joint.idx.net epoch o → o ≡ Some job → joint.idx.net.job ≡ job.cleaning
    job_is epoch None job seen premise = absurd cc
    job_is epoch (Some x) job seen premise = (let same : x ≡ job = cc in seen.same_job ∙ ap (λ (j : Job). j.cleaning) same)

    pub has_job : HasJob joint.idx.net v
    has_job job premise = job_is (epoch_of v.promised part) v.job job seen.job premise

    its_meets : AnyJobMet (listed_in sent Cleaner) v.job
    its_meets = subst (NodeMet (listed_in sent Cleaner)) serves (came.nodes Cleaner (any.Cleaner node) named).meets

    its_reading : ServesSo (answered_in sent Cleaner) (cut_by (cuts_at e.world)) v
    its_reading = subst (PhaseHolds (answered_in sent Cleaner) (cut_by (cuts_at e.world))) serves (came.nodes Cleaner (any.Cleaner node) named).holds

    pub its_about : (job : Job) → v.job ≡ Some job → JobMet (listed_in sent Cleaner) job.cleaning.phase job.hand
    its_about job has = subst (AnyJobMet (listed_in sent Cleaner)) has its_meets

    -- with a job
    reads : (job : Job) → v.job ≡ Some job → (p : Packet) → In p sent → p.to ≡ Cleaner → AnswerReads part joint.idx.net v p.from p.body
    reads job has p among own =
        let its = its_about job has in
        let phase : joint.idx.net.job.phase ≡ job.cleaning.phase = ap (λ (s : CleaningState). s.phase) (has_job job has) in
        below.reads.places.hands_read_texts part texts.text sent (cuts_at e.world) joint.idx.net v p
        (filed_known logged part count joint)
        (record {
          job = has_job;
          came = its_reading;
          within = reads_within logged part count below.logs.listed ours below.logs.written joint reached node
              here v serves job has
              joint.idx.net.job.phase phase (subst (PhaseMet (listed_in sent Cleaner)) (sym phase) its.about);
          refers = refers logged part count below.logs.listed ours (hand_of v.job)
              (subst (HandMet (listed_in sent Cleaner)) (sym (ap hand_of has)) its.hand);
        })
        among own

    -- without a job nothing is read
    waits : (o : Option Job) → o ≡ None → (ask server : ℕ) (t : Told) (s : Segment) → (told_in v o v.maps.groups ask server t).next ≡ next.Read s → ⊥
    waits None premise ask server t s done = absurd cc
    waits (Some job) premise ask server t s done = absurd cc

    reads_nothing : v.job ≡ None → (o : Option ℕ) (ask : ℕ) (t : Told) → ReadGets part joint.idx.net v o ask t
    unfolding emptying_hear
    reads_nothing none None ask t = tt
    reads_nothing none (Some server) ask t = λ s done. absurd (waits v.job none ask server t s done)

    answer_nothing : v.job ≡ None → (from : NodeId) (m : Body) → AnswerReads part joint.idx.net v from m
    answer_nothing none from (body.Fragment m) = reads_nothing none (server_in from) m.ask (Held m.fragment)
    answer_nothing none from (body.Missing m) = reads_nothing none (server_in from) m.ask (Missing m.generation)
    answer_nothing none from _ = tt

    pub answer_reads : (p : Packet) → In p sent → p.to ≡ Cleaner → AnswerReads part joint.idx.net v p.from p.body
    answer_reads p among own = by v.job refl
      where
        by : (o : Option Job) → v.job ≡ o → AnswerReads part joint.idx.net v p.from p.body
        by None premise = answer_nothing premise p.from p.body
        by (Some job) premise = reads job premise p among own

  -- ---- whatever happens to it

  pub cleaner_gets : IsSureUpto logged part count → PollsAreLow
      → ListsOurs logged part count → AreReached → ReadingsCame e.world (moment e count)
      → node_named (moment e count) Cleaner ≡ Some (any.Cleaner node) → (what : Do)
      → ((q : Packet) → what ≡ Deliver q → In q sent × (q.to ≡ Cleaner)) → CleanerDoOwed part texts.text joint.idx.net node.phase what
  cleaner_gets sure low ours reached came named Begin fact = tt
  cleaner_gets sure low ours reached came named Tick fact = tt
  cleaner_gets sure low ours reached came named (Deliver q) fact = by node.phase refl
    where
      at_body : (v : Emptying) → node.phase ≡ Serving v → (m : Body) → q.body ≡ m → CleanerBodyOwed part texts.text joint.idx.net v q.from m
      at_body v serves (body.Poll m) premise = poll_gets sure low v q m serves (fact q refl).0 premise
      at_body v serves (body.Fragment m) premise =
          subst (AnswerReads part joint.idx.net v q.from) premise (answer_reads ours reached came named v serves q (fact q refl).0 (fact q refl).1)
      at_body v serves (body.Missing m) premise =
          subst (AnswerReads part joint.idx.net v q.from) premise (answer_reads ours reached came named v serves q (fact q refl).0 (fact q refl).1)
      at_body v serves _ premise = tt

      by : (p : cleaning.Phase) → node.phase ≡ p → CleanerPacketOwed part texts.text joint.idx.net p q
      by (Serving v) premise = at_body v premise q.body refl
      by (Opening l o) premise = tt
      by (Down l) premise = tt
