-- Each moment of a run stands to both small worlds of each slot and to those of all logs, while no restart that ended was doubtful; and what nodes refer to,
-- and name as parts of checkpoints, flew in logs.
use Rattle.std.proofs.Common.{◌≡◌, ℕ, zero, suc, ◌<◌, false, Option, None, Some, slice_get, refl, sym, ap, subst}
use Rattle.std.specs.List.{fold}
use Rattle.core_world.specs.AnyNode.{any_start, any_step}
use Rattle.core_world.specs.declared.any_node.AnyNode.{AnyNode}
use Rattle.core_world.specs.declared.any_node.AnyNode.TheVariants as any
use Rattle.node_tellings.specs.entry_tie.Told.{AreMore}
use Rattle.headline.specs.Filed.{Filed, rows_at}
use Rattle.index_tie.specs.Growth.{IsMore}
use Rattle.index_tie.specs.Net as index
use Rattle.manager_node.specs.declared.manager.Manager.{Manager as ManagerNode}
use Rattle.node_base.specs.Setups.{IsSetup}
use Rattle.run_laws.specs.reopening_law.Reopens.{TellsApart}
use Rattle.token_protocol.specs.Basics.{In}
use Rattle.wire_msg.specs.declared.packet.Packet.{Packet}
use Rattle.world_base.specs.declared.event.Event.{Event}
use Rattle.world_base.specs.declared.world.World.{World}
use Rattle.world_base.specs.Events.{node_of, what_of}
use Rattle.world_base.specs.NextWorld.{next_world, start_world}
use Rattle.world_base.specs.Runs.{IsRun, MayHappen}
use Rattle.run_laws.proofs.world_index.Senders.{IsKind, kinds_of_tokens}
use Rattle.run_laws.specs.world_index.Owes.{DoReads}
use Rattle.run_laws.specs.world_law.Standing.{epoch_now}
use Rattle.headline.specs.Moments.{moment}
use Rattle.run_laws.specs.world_lines.Lines.{IsLine}
use Rattle.headline.specs.Logs.{Role, log_by, renews}
use Rattle.run_laws.proofs.world_reads.CleanerMoment.{upto_before}
use Rattle.run_laws.proofs.world_reads.EntriesNames.{names_begin, names_rise}
use Rattle.run_laws.proofs.world_reads.EntriesParts.{part_later}
use Rattle.run_laws.proofs.world_reads.EntriesRise.{entries_begin, rows_more}
use Rattle.run_laws.proofs.world_reads.EntriesThen.{EntryEvent, entries_then, named_then}
use Rattle.run_laws.proofs.world_reads.ManagerMoment.{Coming}
use Rattle.run_laws.proofs.world_reads.ManagerOwed.{ManagerOwes, manager_owes}
use Rattle.run_laws.proofs.world_reads.ManagerReferences.{references_begin}
use Rattle.run_laws.proofs.world_reads.ManagerRefersOn.{references_go_on, references_stay}
use Rattle.run_laws.proofs.world_reads.Taking.{Took}
use Rattle.run_laws.proofs.world_reads.TurnAll.{IsSure, Joints, Steps, next_all}
use Rattle.run_laws.proofs.world_reads.TurnBoth.{Turned, both_of}
use Rattle.run_laws.proofs.world_reads.TurnCleanerOwed as cleaner
use Rattle.run_laws.proofs.world_reads.TurnClientOwed as client
use Rattle.run_laws.proofs.world_reads.TurnLogs.{LogsKnown}
use Rattle.run_laws.proofs.world_reads.TurnNext.{Grows}
use Rattle.run_laws.proofs.world_reads.TurnOwed.{AllOwed, IndexOwed, TokensOwed, is_owed}
use Rattle.run_laws.proofs.world_reads.TurnRun.{StepIsOwed, may_at, moment_cluster, past_end}
use Rattle.run_laws.proofs.world_reads.TurnStart.{start_joint}
use Rattle.run_laws.specs.world_reads.Chains.{Comes}
use Rattle.run_laws.specs.world_reads.Entries.{EntriesStand, PartKnown, PartsNamed}
use Rattle.run_laws.specs.world_reads.Joint.{Joint, There, k, log_at}
use Rattle.run_laws.specs.world_reads.References.{ReferencesStand}
use Rattle.xfs_base.specs.declared.node.NodeId.TheVariants.{Manager}
use Rattle.xfs_base.specs.Limits.{slot_count}
use Rattle.run_laws.proofs.world_reads.Below.{Below}
use Rattle.run_laws.specs.world_reads.LoggedRuns.{LoggedRun}

module _ (laws : Below) (logged : LoggedRun) (apart : TellsApart logged.base) (setup : IsSetup logged.estate.script.setup)
    (run : IsRun any_step any_start logged.estate.script logged.estate.events logged.estate.world) where
  open logged use {base, estate as e, lines, texts, first}

  abbrev Sure : ℕ → Type 0
  Sure count = IsSure laws logged count

  abbrev All : ℕ → Type 0
  All count = Joints laws logged count

  -- what is named as a part of a checkpoint is a segment of a manager's log, which tells what these filed segments say
  abbrev Named : ℕ → Filed → Type 0
  Named count f = PartsNamed (PartKnown base e lines count (rows_at f)) (moment e count).nodes (moment e count).sent

  -- a moment that stands to all small worlds
  pub record Whole (count : ℕ) : Type 0 where
    pub joints : All count
    pub references : (part : ℕ) → part < slot_count → ReferencesStand logged part count
    pub named : (part : ℕ) (of_eight : part < slot_count) → Named count (joints part of_eight).idx.net.filed
    pub comes : (part : ℕ) (of_eight : part < slot_count) → Comes logged part count (joints part of_eight)

  -- ---- an event

  module _ (count : ℕ) (whole : Whole count) (sure : Sure (suc count)) (event : Event) (at : slice_get e.events count ≡ Some event)
      (may : MayHappen (moment e count) event) where
    abbrev joint : (part : ℕ) → part < slot_count → Joint logged part count
    joint part of_eight = whole.joints part of_eight

    abbrev comes : (part : ℕ) (of_eight : part < slot_count) → Coming logged part count event
    comes part of_eight = record { cluster = moment_cluster e count; may = may; joint = whole.joints part of_eight }

    module _ (part : ℕ) (of_eight : part < slot_count) where
      manager : (j : ℕ) (node : ManagerNode) → node_of event ≡ Manager j → Took (moment e count) event (any.Manager node)
          → ManagerOwes logged part count laws of_eight event at (comes part of_eight)
          (laws.reads.runs_read_what_came e setup run count) (whole.references part of_eight) node
      manager j node own took =
          manager_owes logged part count laws of_eight event at (comes part of_eight)
          (laws.reads.runs_read_what_came e setup run count) (whole.references part of_eight) j node own took

      manager_owed : (j : ℕ) (node : ManagerNode) → node_of event ≡ Manager j → Took (moment e count) event (any.Manager node)
          → IndexOwed logged part count event (both_of logged part count (joint part of_eight)) (Manager j)
          (any.Manager node)
      manager_owed j node own took =
          subst (λ name. IndexOwed logged part count event (both_of logged part count (joint part of_eight)) name
          (any.Manager node)) own (manager j node own took).index

      owed : AllOwed logged part count event (both_of logged part count (joint part of_eight))
      owed = record {
        client_owed = λ c node own took. client.client_owed laws logged part of_eight apart setup run count (joint part of_eight) sure
            event at may c node own took;
        client_told = λ c node own took. client.client_told laws logged part of_eight apart setup run count (joint part of_eight) sure
            event at may c node own took false;
        manager_owed = manager_owed;
        manager_told = λ j node own took.
            subst (λ name. TokensOwed logged part count event (both_of logged part count (joint part of_eight)) false name
            (any.Manager node)) own
            ((manager j node own took).turn false (epoch_now (k logged part) part (joint part of_eight).tok));
        cleaner_owed = λ node own took. cleaner.cleaner_owed laws logged part of_eight apart setup run count
            (joint part of_eight) sure event at node own took;
        cleaner_told = λ node own took. cleaner.cleaner_told laws logged part of_eight apart setup run count
            (joint part of_eight) sure event at node own took;
      }

    -- ---- what is told of where blocks lie

    -- what an answer completes of a takeover is the text of its name
    reads : (j : ℕ) → node_of event ≡ Manager j → (node : ManagerNode) → Took (moment e count) event (any.Manager node) → (slot : ℕ) (less : slot < slot_count)
        → DoReads slot texts.text (joint slot less).idx.asked j (joint slot less).idx.net node.phase (what_of event)
    reads j own node took slot less = (manager_owed slot less j node own took).reads

    -- where so much is filed then
    entry : (part : ℕ) (of_eight : part < slot_count) (h : Filed) → IsMore (joint part of_eight).idx.net.filed h
        → ((r : Role) (there : There logged part r) → renews r ≡ false
        → IsLine (log_by r) (log_at logged part r there (suc count)) h)
        → ((p : Packet) → In p (moment e (suc count)).sent → IsKind p) → EntryEvent logged part count event h
    entry part of_eight h more lined kinds = record {
      of_map = of_eight;
      happens = at;
      run = run;
      joints = whole.joints;
      sure = sure;
      more = more;
      lined = lined;
      named = whole.named part of_eight;
      kinds = kinds;
      reads = reads;
    }

    tells : (part : ℕ) (of_eight : part < slot_count) (node : AnyNode) (took : Took (moment e count) event node)
        → (turned : Turned logged part count event (both_of logged part count (joint part of_eight)) node
        (is_owed logged part count event (both_of logged part count (joint part of_eight)) (owed part of_eight) node took))
        → LogsKnown logged part (suc count) turned.then
        → EntriesStand (rows_at turned.then.idx.net.filed) (moment e (suc count)).nodes (moment e (suc count)).sent
    tells part of_eight node took turned logs =
        entries_then logged part count laws event turned.then.idx.net.filed
        (entry part of_eight turned.then.idx.net.filed turned.grown.filed (λ r there keeps. (logs.all r there keeps).known.line)
        (λ p among. kinds_of_tokens (k logged part) part turned.then.tok p (turned.then.tokens_stand.facts p among)))

    -- each event gets what it is owed
    pub step : (part : ℕ) (of_eight : part < slot_count)
        → StepIsOwed laws logged part of_eight apart run count (joint part of_eight) sure event at may
    step part of_eight = record { owed = owed part of_eight; tells = tells part of_eight }

    -- what is named then, and what is referred to
    named_so : (part : ℕ) (of_eight : part < slot_count) (next : Grows logged part count (joint part of_eight))
        → Named (suc count) next.joint.idx.net.filed
    named_so part of_eight next =
        named_then logged part count laws event next.joint.idx.net.filed
        (entry part of_eight next.joint.idx.net.filed next.more next.joint.lined
        (λ p among. kinds_of_tokens (k logged part) part next.joint.tok p (next.joint.tokens_stand.facts p among)))

    references_so : (part : ℕ) → part < slot_count → ReferencesStand logged part (suc count)
    references_so part of_eight =
        references_go_on logged part count laws (joint part of_eight) (upto_before logged part count sure) event
        at (comes part of_eight) (whole.references part of_eight)

  -- ---- the next moment

  module _ (count : ℕ) (whole : Whole count) (sure : Sure (suc count)) where
    steps : Steps laws logged apart run count whole.joints sure
    steps part of_eight event at may = step count whole sure event at may part of_eight

    next : (part : ℕ) (of_eight : part < slot_count) → Grows logged part count (whole.joints part of_eight)
    next = next_all laws logged apart run count whole.joints sure steps

    same_end : slice_get e.events count ≡ None → moment e (suc count) ≡ moment e count
    same_end none = ap (fold (next_world any_step) (start_world any_start e.script)) (past_end e.events count none)

    -- where there is no further event
    named_still : slice_get e.events count ≡ None → (part : ℕ) (of_eight : part < slot_count) → Named (suc count) (next part of_eight).joint.idx.net.filed
    named_still none part of_eight =
        let f = (whole.joints part of_eight).idx.net.filed in
        let h = (next part of_eight).joint.idx.net.filed in
        let more : AreMore (rows_at f) (rows_at h) = rows_more f h (next part of_eight).more in
        subst (λ (w : World AnyNode). PartsNamed (PartKnown base e lines (suc count) (rows_at h)) w.nodes w.sent) (sym (same_end none))
        (names_rise (PartKnown base e lines count (rows_at f)) (PartKnown base e lines (suc count) (rows_at h))
        (part_later (rows_at f) (rows_at h) more base e lines count) (moment e count).nodes (moment e count).sent (whole.named part of_eight))

    named_next : (part : ℕ) (of_eight : part < slot_count) → Named (suc count) (next part of_eight).joint.idx.net.filed
    named_next part of_eight = by (slice_get e.events count) refl
      where
        by : (o : Option Event) → slice_get e.events count ≡ o → Named (suc count) (next part of_eight).joint.idx.net.filed
        by None none = named_still none part of_eight
        by (Some event) at =
            named_so count whole sure event at (may_at e.events count event (start_world any_start e.script) e.world run at) part of_eight (next part of_eight)

    references_next : (part : ℕ) → part < slot_count → ReferencesStand logged part (suc count)
    references_next part of_eight = by (slice_get e.events count) refl
      where
        by : (o : Option Event) → slice_get e.events count ≡ o → ReferencesStand logged part (suc count)
        by None none =
            references_stay logged part count laws (whole.joints part of_eight)
            (upto_before logged part count sure) (same_end none) (whole.references part of_eight)
        by (Some event) at =
            references_so count whole sure event at (may_at e.events count event (start_world any_start e.script) e.world run at) part of_eight

    whole_next : Whole (suc count)
    whole_next = record {
      joints = λ part of_eight. (next part of_eight).joint;
      references = references_next;
      named = named_next;
      comes = λ part of_eight. (whole.joints part of_eight, whole.comes part of_eight, (next part of_eight).follows);
    }

  -- ---- each moment

  whole_begins : Whole 0
  whole_begins = record {
    joints = λ part of_eight. start_joint laws logged part of_eight setup apart run
        (entries_begin laws.reads.kinds (rows_at (index.opening first).filed) e);
    references = λ part of_eight. references_begin logged part;
    named = λ part of_eight. names_begin _ e;
    comes = λ part of_eight. tt;
  }

  -- up to which no restart that ended was doubtful
  pub whole_at : (count : ℕ) → Sure count → Whole count
  whole_at zero sure = whole_begins
  whole_at (suc count) sure = whole_next count (whole_at count (upto_before logged 0 count sure)) sure
