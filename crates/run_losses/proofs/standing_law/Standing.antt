-- What a client is told is gone had not been deleted: in the epoch of the Gone nobody ever manages the slot, nor in a later one while the client has promised
-- that epoch; so the registry's horizons of the slot are those with which the takeover began, and what it reads lies at them or above.
use Rattle.std.proofs.Common.{◌≡◌, ⊎_elim, ℕ, ◌<◌, ◌≤◌, true, Option, None, Some, refl, sym, ap, subst, ◌∙◌, arith}
use Rattle.client_serving.specs.declared.serving.Serving.{Serving}
use Rattle.core_world.specs.AnyNode.{any_start, any_step}
use Rattle.core_world.specs.declared.any_node.AnyNode.{AnyNode}
use Rattle.run_laws.proofs.epoch_law.Polls.{of_client, polled_low}
use Rattle.run_laws.specs.epoch_law.Slots.{BothStand}
use Rattle.headline.specs.Reads.{ToldLost, ToldTorn, promised_in, serving_at}
use Rattle.run_losses.specs.gone_law.Gones.{ClientsAreToldWhatWasLost}
use Rattle.headline.specs.Filed.{rows_at}
use Rattle.index_tie.specs.NetLaws.{CheckpointsHaveManagers}
use Rattle.headline.specs.Indexes.{of_log}
use Rattle.log_law.specs.Written.{WhatFlewIsWritten}
use Rattle.log_scan.specs.Transition.{least_horizon}
use Rattle.log_tie.specs.Setting.{Setting}
use Rattle.manager_slots.specs.declared.slot_phase.SlotPhase.{SlotPhase}
use Rattle.manager_slots.specs.declared.slot_phase.SlotPhase.TheVariants as phase
use Rattle.manager_slots.specs.declared.slot_phase.Taking.{Taking}
use Rattle.run_losses.proofs.missing_law.Moments.{sent_on}
use Rattle.node_base.specs.Setups.{IsSetup}
use Rattle.node_slots.specs.node_tie.ManagerEvents.{HeldAt, ManagerEventGoes}
use Rattle.run_laws.proofs.place_law.Lying.{one_of_nine}
use Rattle.registry.specs.Board.{board_slots}
use Rattle.registry.specs.BoardState.{BoardState}
use Rattle.headline.specs.Restarts.{NoDoubtfulRestart}
use Rattle.takeover.specs.declared.source.Present.{Present}
use Rattle.takeover.specs.declared.source.Source.{Source}
use Rattle.run_losses.specs.source_law.Sources.{TakeoversReadWhatIsStored, TakeoversReadWhatWasFiled}
use Rattle.headline.specs.Takeovers.{Reads, WasTornOrDeleted, slot_at}
use Rattle.token_client.specs.State.{epoch_of}
use Rattle.headline.specs.Torn.{IsTornAt}
use Rattle.token_law.specs.Laws.{ActiveEpochsPromised}
use Rattle.token_manager.specs.SlotState.{SlotState}
use Rattle.token_protocol.specs.Basics.{In}
use Rattle.wire_msg.specs.declared.body.Body.TheVariants as body
use Rattle.wire_msg.specs.declared.packet.Do.{Do}
use Rattle.wire_msg.specs.declared.packet.Packet.{Packet}
use Rattle.wire_msg.specs.declared.storage.Delete.{Delete}
use Rattle.world_base.specs.declared.estate.Estate.{Estate}
use Rattle.world_base.specs.Events.{what_of}
use Rattle.world_base.specs.Runs.{IsRun}
use Rattle.run_laws.proofs.world_law.RegistryTurns.{slot_below}
use Rattle.run_laws.proofs.world_law.Sent.{was_sent}
use Rattle.headline.specs.Moments.{moment}
use Rattle.run_laws.specs.world_logs.Lines.{HasLines, Texts}
use Rattle.headline.specs.Segments.{NotDeleted}
use Rattle.headline.specs.Logs.{IsThere, log_by}
use Rattle.headline.specs.Logs.Role.{OfManager}
use Rattle.run_laws.proofs.world_reads.EntriesSources.{ReadsFiled, ReadsPart}
use Rattle.run_laws.proofs.world_reads.KnownLogs.{HasLog, filed_known, filed_log}
use Rattle.run_laws.proofs.world_reads.TurnBoth.{both_of}
use Rattle.run_laws.proofs.world_reads.TurnMoment.{registry_seen}
use Rattle.run_laws.specs.world_reads.Entries.{PartKnown}
use Rattle.run_laws.specs.world_reads.Joint.{Joint, k}
use Rattle.run_laws.specs.world_reads.LoggedRuns.{LoggedRun, logged_run}
use Rattle.run_laws.specs.world_reads.Moments.{EveryRunStands, MomentStands}
use Rattle.xfs_base.specs.Blocks.{slot_of}
use Rattle.xfs_base.specs.declared.segment.LogId.{LogId}
use Rattle.xfs_base.specs.declared.segment.SegName.{SegName}
use Rattle.xfs_base.specs.declared.segment.SegRef.{SegRef}
use Rattle.xfs_base.specs.Limits.{slot_count, block_logs}
use Rattle.run_drops.proofs.drop_law.Deleting.{deleted_below, none_deleted}
use Rattle.run_losses.proofs.standing_law.Holding.{ServesThere, has_begun, horizon_below, is_manager, nobody_yet, part_or_filed, parts_known, serves_there}
use Rattle.run_losses.proofs.standing_law.Lapsing.{Lapsed, lapsed}
use Rattle.run_losses.specs.standing_law.Gone.{GonesAreOfWhatStands}

-- the laws of the crates below on which it stands
pub record Below : Type 0 where
  pub manager : ManagerEventGoes
  pub promised : ActiveEpochsPromised
  pub managed : CheckpointsHaveManagers
  pub written : WhatFlewIsWritten
  pub runs : EveryRunStands
  pub told : ClientsAreToldWhatWasLost
  pub filed : TakeoversReadWhatWasFiled
  pub stored : TakeoversReadWhatIsStored

same_log : (a b : LogId) → a.0 ≡ b.0 → a ≡ b
same_log a b fact = λ i. record { 0 = fact i }

taking_held : (p : SlotPhase) (t : Taking) (epoch : ℕ) → p ≡ phase.Taking t → t.epoch ≡ epoch → HeldAt p epoch
taking_held p t epoch fact of = subst (λ x. HeldAt x epoch) (sym fact) of

module _ (below : Below) (e : Estate AnyNode) (setup : IsSetup e.script.setup) (run : IsRun any_step any_start e.script e.events e.world) (count : ℕ)
    (none : NoDoubtfulRestart e count) (c : ℕ) (s : Serving) (serves : serving_at e c count ≡ Some s) (what : Do) (name : SegName)
    (told : ToldLost e c s count what name) where
  abbrev base : Setting
  base = below.runs.setting.0

  lines : HasLines base e
  lines = below.runs.lines base e setup run

  texts : Texts base e lines
  texts = below.runs.texts base e setup lines

  abbrev logged : LoggedRun
  logged = logged_run base e lines texts

  stands : (when : ℕ) → NoDoubtfulRestart e when → MomentStands base e lines texts when
  stands when undoubted = below.runs.moments base below.runs.setting.1 e setup run lines texts when undoubted

  -- ---- the manager said so

  abbrev j : ℕ
  j = told.manager

  abbrev when : ℕ
  when = told.said.when

  abbrev part : ℕ
  part = slot_of told.brings.gone.block.ino.0

  abbrev epoch : ℕ
  epoch = told.brings.gone.epoch

  of_eight : part < slot_count
  of_eight = slot_below told.brings.gone.block.ino.0

  abbrev was : WasTornOrDeleted e told.manager told.said.when name
  was = told.said.was

  earlier : NoDoubtfulRestart e when
  earlier r n less = none r n (let before = told.said.before in omega arith)

  -- it read the segment there, while it took the slot over in the epoch
  reads : Reads (slot_at e j part when) epoch was.segment
  reads =
      subst (λ x. Reads (slot_at e j part when) x was.segment) told.said.in_epoch
      (subst (λ x. Reads (slot_at e j x when) was.epoch was.segment) told.said.of_slot (was.reads when was.before (omega arith)))

  is_there : IsThere e.script.setup.clients e.script.setup.managers (OfManager j)
  is_there = is_manager e j part when reads.taking reads.takes

  abbrev present : Present
  present = record { source = reads.source; reading = Some reads.reading }

  abbrev then : Joint logged part when
  then = (stands when earlier).joints part of_eight

  named_is : name ≡ reads.source.seg.name
  named_is = was.named ∙ ap (λ (x : SegRef). x.name) (sym reads.of_segment)

  -- ---- the moment of the Gone

  abbrev now : Joint logged part count
  now = (stands count none).joints part of_eight

  abbrev board : BoardState
  board = now.idx.registry.board

  module _ (p : Packet) (d : Delete) (among : In p (moment e count).sent) (fact : p.body ≡ body.Delete d) (same : d.name ≡ name) where
    -- it is no part of a checkpoint
    no_part : ReadsPart reads.taking.take.news.parts reads.source → ⊥
    no_part x =
        let known : PartKnown base e lines when (rows_at then.idx.net.filed) x.ref =
        parts_known logged part when then j is_there reads.taking reads.takes (PartKnown base e lines when (rows_at then.idx.net.filed))
        ((stands when earlier).named part of_eight) x.ref x.among in
        let its : name ≡ known.segment.name = named_is ∙ (ap (λ (y : Source). y.seg.name) x.of_part ∙ sym known.named) in
        none_deleted below.written base e lines known.manager known.there when count board
        (registry_seen logged part count (both_of logged part count now) (OfManager known.manager) known.there)
        known.segment known.flew p d among fact (same ∙ its)

    abbrev l : ℕ
    l = reads.source.seg.name.log.0

    -- the epoch lapsed
    abbrev Then : Joint logged part when → Type 0
    Then b = of_log (b.idx.net.horizon epoch) l ≤ was.segment.name.seq

    low_then : (b : Joint logged part when) → Then b
    low_then b =
        subst (λ x. of_log (b.idx.net.horizon x) l ≤ was.segment.name.seq) reads.of_epoch
        (horizon_below logged part when b j is_there reads.taking reads.takes present reads.present no_part l refl was.segment.name.seq
        reads.above)

    lapsed_now : Lapsed below.manager logged run part of_eight j is_there epoch l was.segment.name.seq count now
    lapsed_now =
        lapsed below.manager logged run part of_eight j is_there epoch l was.segment.name.seq when name
        (taking_held (slot_at e j part when) reads.taking epoch reads.takes reads.of_epoch) told.said.broke
        (λ b. subst (λ x. b.idx.net.slots x ≡ None) reads.of_epoch
        (nobody_yet logged part when b j is_there reads.taking reads.takes))
        (λ b. subst (λ x. x ≤ b.idx.net.epoch) reads.of_epoch (has_begun logged part when b j is_there reads.taking reads.takes)) low_then
        count told.said.before now ((stands count none).comes part of_eight)

    -- nobody manages the slot in a later epoch than the client has promised
    promised : epoch_of s.tokens.epochs part ≡ epoch
    promised = subst (λ (o : Option Serving). promised_in part o ≡ epoch) serves told.promised

    both : BothStand true (k logged part) part texts.text logged.first (moment e count).nodes (moment e count).sent (moment e count).acts now.tok
        now.idx
    both = record { tokens = now.tokens_stand; index = now.index_stands; same = now.slots }

    bound : (d : ℕ) (z : SlotState) → now.tok.net.slots d ≡ Some z → d ≤ epoch
    bound d z there =
        let x : ServesThere logged part count now c s = serves_there logged part count now c s serves in
        subst (λ y. d ≤ y) promised
        (of_client below.managed below.promised true (k logged part) part texts.text logged.first (moment e count).nodes (moment e count).sent
        (moment e count).acts now.tok now.idx of_eight both c s x.some x.less x.serves d z there)

    -- what is filed is at the horizon of its log or above
    no_filed : ReadsFiled then.idx.net.filed reads.source → ⊥
    no_filed f =
        let h : HasLog logged part f.log = filed_log logged part when then f.log f.seq f.some f.limit in
        let of_its : reads.source.seg.name.log.0 ≡ f.log =
        ap (λ (n : SegName). n.log.0) f.named ∙ ((filed_known logged part when then).filed.each f.log f.seq f.some f.limit).log in
        let own : name.log ≡ record { 0 = log_by h.role } =
        same_log name.log (record { 0 = log_by h.role }) (ap (λ (n : SegName). n.log.0) named_is ∙ (of_its ∙ sym h.numbered)) in
        let gone = deleted_below base e lines h.role h.there count board
        (registry_seen logged part count (both_of logged part count now) h.role h.there) name own p d among fact same in
        let nine = one_of_nine then.idx.net.filed (filed_known logged part when then).filed f.log f.seq f.some f.limit in
        let low : least_horizon (log_by h.role) (board_slots board) ≤ of_log (now.idx.net.horizon epoch) (log_by h.role) =
        polled_low below.managed below.promised true (k logged part) part texts.text logged.first (moment e count).nodes
        (moment e count).sent (moment e count).acts now.tok now.idx of_eight both epoch bound lapsed_now.begun (log_by h.role)
        (subst (λ x. 0 < x) (sym h.numbered) nine.0) (subst (λ x. x ≤ block_logs) (sym h.numbered) nine.1) in
        let high : of_log (now.idx.net.horizon epoch) (log_by h.role) ≤ was.segment.name.seq =
        subst (λ x. of_log (now.idx.net.horizon epoch) x ≤ was.segment.name.seq) (of_its ∙ sym h.numbered) lapsed_now.low in
        let number : name.seq ≡ was.segment.name.seq = ap (λ (n : SegName). n.seq) was.named in
        absurd (omega arith)

    not_deleted : ⊥
    not_deleted =
        ⊎_elim no_part no_filed (part_or_filed logged part when then j is_there reads.taking reads.takes present reads.present)

  pub stood : NotDeleted (moment e count) name
  stood packet m sent fact same = not_deleted packet m (was_sent (moment e count).sent packet sent) fact same

  -- so it was torn
  pub told_torn : ToldTorn e c s count what name
  told_torn = record {
    told = told;
    stands = stood;
    filed = below.filed e setup run was.when then_undoubted j is_there was.slot was.epoch was.segment (was.reads was.when (omega arith) was.before);
    torn = torn;
    stored = below.stored e setup run was.when then_undoubted j is_there was.slot was.epoch was.segment (was.reads was.when (omega arith) was.before) torn.kept;
  }
    where
      then_undoubted : NoDoubtfulRestart e was.when
      then_undoubted r n less = none r n (let a = was.before in let b = told.said.before in omega arith)

      torn : IsTornAt e was.when was.segment
      torn = ⊎_elim (λ torn. torn) (λ d. absurd (not_deleted d.0 (record { name = was.segment.name })
          (sent_on e when count (let before = told.said.before in omega arith) d.0 d.1) d.2 (sym was.named))) was.lost

pub gones_are_of_what_stands : Below → GonesAreOfWhatStands
gones_are_of_what_stands below e setup run count none c event fact own s serves name among brings =
    told_torn below e setup run count none c s serves (what_of event) name (below.told e setup run c count event fact own s serves name among brings)
