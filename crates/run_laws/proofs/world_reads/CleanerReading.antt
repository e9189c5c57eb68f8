-- What the cleaner's job reads was filed: a server listed it, and it is below the least horizon of its log; and it is referred to with its group.
use Rattle.std.proofs.Common.{◌≡◌, ◌≤◌, ◌<◌, ℕ, false, List, Option, None, Some, inl, inr, refl, sym, ap, subst, ◌∙◌, arith}
use Rattle.std.specs.Prelude.{IfSome}
use Rattle.node_logs.specs.cleaner_log_tie.Owner as cleaner_log
use Rattle.node_logs.specs.client_log_tie.Owner.{Scene}
use Rattle.cleaner_serving.specs.declared.emptying.Emptying.{Emptying}
use Rattle.cleaner_node.specs.declared.cleaner.Cleaner.{Cleaner as CleanerNode}
use Rattle.cleaner_node.specs.declared.cleaner.Phase.TheVariants.{Serving}
use Rattle.cleaner_job.specs.declared.hand.Hand.{Hand}
use Rattle.cleaner_job.specs.declared.job.Job.{Job}
use Rattle.core_world.specs.declared.any_node.AnyNode.TheVariants as any
use Rattle.index_tie.specs.Cleaning.{IsWithin}
use Rattle.log_law.specs.Written.{WhatFlewIsWritten}
use Rattle.log_protocol.specs.Tables.{In}
use Rattle.log_scan.specs.Transition.{least_horizon}
use Rattle.log_tie.specs.Setting.{Setting}
use Rattle.log_law.specs.Held.{WhatIsListedFlew}
use Rattle.log_law.specs.Net.{Net}
use Rattle.node_logs.specs.node_log_tie.CleanerEvents.{CleanerSeen, DropOfLog, EmptyingSeen, JobPhaseSeen, JobSeen, MayDrop}
use Rattle.run_laws.specs.place_law.Hands.{HandRefers, ReadsWithin}
use Rattle.node_tellings.specs.reading_tie.CleanerMeets.{HandMet, PhaseMet, listed_in}
use Rattle.registry.specs.Board.{board_slots}
use Rattle.segment_format.specs.declared.segment.Segment.{Segment}
use Rattle.stripe_cleaner.specs.declared.phase.Phase.{Phase}
use Rattle.stripe_cleaner.specs.declared.phase.Phase.TheVariants.{Reading}
use Rattle.wire_msg.specs.declared.body.Body.TheVariants as body
use Rattle.wire_msg.specs.declared.packet.Packet.{Packet}
use Rattle.wire_msg.specs.declared.storage.Listed.{Listed}
use Rattle.headline.specs.Moments.{moment}
use Rattle.run_laws.specs.world_lines.Lines.{IsLine}
use Rattle.run_laws.proofs.world_logs.Roles.{high_log}
use Rattle.headline.specs.Logs.{Role, did, log_by, renews}
use Rattle.headline.specs.Horizons.{Reached}
use Rattle.run_laws.specs.world_logs.Lines.{setting}
use Rattle.headline.specs.Logs.Role.{OfClient, OfCleaner, OfManager}
use Rattle.run_laws.specs.world_logs.Standing.{CleanerOwns}
use Rattle.run_laws.proofs.world_reads.CleanerMoment.{IsHere}
use Rattle.run_laws.proofs.world_reads.KnownLogs.{listed_flew, of_its_log}
use Rattle.run_laws.specs.world_reads.Joint.{Joint, There, log_at}
use Rattle.run_laws.specs.world_reads.References.{Flew, OfSomeLog}
use Rattle.run_laws.specs.world_reads.LoggedRuns.{LoggedRun}
use Rattle.xfs_base.specs.declared.fragment.FragMeta.{FragMeta}
use Rattle.xfs_base.specs.declared.node.NodeId.TheVariants.{Cleaner, Registry}
use Rattle.xfs_base.specs.declared.segment.LogId.{LogId}
use Rattle.xfs_base.specs.declared.segment.SegName.{SegName}
use Rattle.xfs_base.specs.declared.segment.SegRef.{SegRef}

module _ (logged : LoggedRun) (part count : ℕ) where
  open logged use {base, estate as e, lines, texts}

  abbrev sent : List Packet
  sent = (moment e count).sent

  -- each that a server listed is of a log of the run
  abbrev pub ListsOurs : Type 0
  ListsOurs = (p : Packet) (m : Listed) → In p sent → p.body ≡ body.Listed m → (meta : FragMeta) → In meta m.held
      → OfSomeLog logged part count meta.name

  module _ (flew : WhatIsListedFlew) (ours : ListsOurs) where
    pub flew_so : (seg : SegRef) → listed_in sent Cleaner seg.name seg.group → Flew logged part count seg
    flew_so seg l =
        let o : OfSomeLog logged part count l.meta.name = ours l.packet l.said l.among l.bears l.meta l.held in
        let f = listed_flew logged part count o.role o.there flew l.packet l.said l.among l.bears l.meta l.held o.own in
        record {
          of = record { role = o.role; there = o.there; own = ap (λ (x : SegName). x.log) l.named ∙ o.own };
          segment = f.0;
          among = f.1;
          named = l.named ∙ f.2;
          grouped = l.grouped ∙ f.3;
        }

    pub its_group : (seg : SegRef) → Flew logged part count seg → seg.group ≡ (texts.text seg.name).group
    its_group seg f =
        f.grouped ∙ (ap (λ (s : Segment). s.group) (sym (texts.flown f.of.role f.of.there count f.segment f.among))
        ∙ ap (λ (n : SegName). (texts.text n).group) (sym f.named))

    -- it is referred to with the group of its text
    pub refers : (o : Option Hand) → HandMet (listed_in sent Cleaner) o → HandRefers texts.text o
    refers None met = tt
    refers (Some hand) met = its_group hand.seg (flew_so hand.seg met)

    -- ---- it was filed

    module _ (written : WhatFlewIsWritten) (joint : Joint logged part count)
        (reached : (r : Role) → There logged part r → renews r ≡ false
        → Reached (did e (log_by r) count) (least_horizon (log_by r) (board_slots joint.idx.registry.board))) where
      -- it may be dropped, as its log sees that
      abbrev pub MayBeDropped : SegName → Type 0
      MayBeDropped name = (r : Role) (there : There logged part r)
          → DropOfLog (setting base e r) (log_at logged part r there count) name

      module _ (seg : SegRef) (f : Flew logged part count seg) (may : MayBeDropped seg.name) where
        abbrev r : Role
        r = f.of.role

        drop : MayDrop (setting base e r) (log_at logged part r f.of.there count) seg.name
        drop = may r f.of.there (of_its_log logged part count r f.of.there seg.name f.of.own)

        its_number : seg.name.log.0 ≡ log_by r
        its_number = ap (λ (x : LogId). x.0) f.of.own

        -- managers' logs aren't cleaned
        kept : (x : Role) → x ≡ r → There logged part x → renews x ≡ false
        kept (OfClient c) fact there = refl
        kept OfCleaner fact there = refl
        kept (OfManager j) fact there =
            (let high = high_log j there.0 in let low = drop.cleaned in
            let same = ap log_by fact in let number = its_number in absurd (omega arith))

        keeps : renews r ≡ false
        keeps = kept r refl f.of.there

        line : IsLine (log_by r) (log_at logged part r f.of.there count) joint.idx.net.filed
        line = joint.lined r f.of.there keeps

        some : 0 < seg.name.seq
        some = subst (λ (n : SegName). 0 < n.seq) (sym f.named)
            (written (setting base e r) (log_at logged part r f.of.there count)
            ((lines r f.of.there).stands count).moment f.segment f.among).seq

        -- below the least horizon, which is no further than what was filed
        low_is : (log_at logged part r f.of.there count).low ≡ least_horizon (log_by r) (board_slots joint.idx.registry.board)
        low_is = (((lines r f.of.there).stands count).seen Registry (any.Registry joint.idx.registry) joint.index_stands.placed.registry).low

        filed : seg.name.seq ≤ joint.idx.net.filed.head (log_by r)
        filed = by (reached r f.of.there keeps)
          where
            by : Reached (did e (log_by r) count) (least_horizon (log_by r) (board_slots joint.idx.registry.board))
                → seg.name.seq ≤ joint.idx.net.filed.head (log_by r)
            by (inl one) = (let b = drop.below in let s = some in let l = low_is in absurd (omega arith))
            by (inr (name, acted, upto)) =
                (let b = drop.below in let l = low_is in
                let h = (line.all name (((lines r f.of.there).stands count).filed name acted)).1 in omega arith)

        pub within : IsWithin joint.idx.net.filed seg.name
        within = record { some = some; filed = subst (λ x. seg.name.seq ≤ joint.idx.net.filed.head x) (sym its_number) filed }

        -- and it is below the least horizon that the registry keeps
        pub below : seg.name.seq < least_horizon seg.name.log.0 (board_slots joint.idx.registry.board)
        below = subst (λ x. seg.name.seq < least_horizon x (board_slots joint.idx.registry.board)) (sym its_number)
            (subst (λ x. seg.name.seq < x) low_is drop.below)

      -- ---- the job

      module _ (node : CleanerNode) (here : IsHere logged part count node) (v : Emptying) (serves : node.phase ≡ Serving v) (job : Job)
          (has : v.job ≡ Some job) where
        -- its job, as a log sees it
        by_other : (g : Setting) (n : Net) → CleanerSeen g n node.phase → JobPhaseSeen g n job.cleaning.phase
        by_other g n seen =
            (let s : EmptyingSeen g n v = subst (CleanerSeen g n) serves seen in subst (λ o. IfSome o (JobSeen g n)) has s.job)

        pub job_seen : (r : Role) (there : There logged part r)
            → JobPhaseSeen (setting base e r) (log_at logged part r there count) job.cleaning.phase
        job_seen (OfClient c) there =
            by_other (setting base e (OfClient c)) (log_at logged part (OfClient c) there count)
            (((lines (OfClient c) there).stands count).seen Cleaner (any.Cleaner node) here)
        job_seen OfCleaner there = own ((lines OfCleaner there).scene count) (((lines OfCleaner there).stands count).seen Cleaner (any.Cleaner node) here)
          where
            own : (w : Scene) → CleanerOwns (setting base e OfCleaner) w node.phase → JobPhaseSeen (setting base e OfCleaner) w.net job.cleaning.phase
            own w owns =
                let s = subst (cleaner_log.CleanerAgrees (setting base e OfCleaner) w) serves owns.agrees in
                let j : cleaner_log.JobStands (setting base e OfCleaner) w job =
                subst (λ o. IfSome o (cleaner_log.JobStands (setting base e OfCleaner) w)) has s.job in
                j.seen
        job_seen (OfManager j) there =
            by_other (setting base e (OfManager j)) (log_at logged part (OfManager j) there count)
            (((lines (OfManager j) there).stands count).seen Cleaner (any.Cleaner node) here)

        pub reads_within : (p : Phase) → p ≡ job.cleaning.phase → PhaseMet (listed_in sent Cleaner) p → ReadsWithin joint.idx.net.filed p
        reads_within (Reading j seg) fact met =
            within seg (flew_so seg met.here)
            (λ r there. (subst (JobPhaseSeen (setting base e r) (log_at logged part r there count)) (sym fact) (job_seen r there)).1)
        reads_within _ fact met = tt
