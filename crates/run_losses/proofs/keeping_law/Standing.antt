-- A Grant that a client would still accept leads to what stands: had the segment been deleted before the Grant was sent, the index of the slot that reigned
-- then would have been outdated, and a version filed that is newer than what the Grant tells.
use Rattle.std.proofs.Common.{◌≡◌, ◌==◌, ℕ, suc, ◌<◌, ◌≤◌, true, None, Some, refl, sym, ap, subst, ◌∙◌, arith}
use Rattle.std.proofs.lemmas.Bool.Decides.{nat_tests}
use Rattle.core_world.specs.AnyNode.{any_start, any_step}
use Rattle.core_world.specs.declared.any_node.AnyNode.{AnyNode}
use Rattle.delta_index.specs.Join.{join}
use Rattle.node_tellings.specs.entry_tie.Told.{BodyTold, told_by_rows}
use Rattle.run_laws.proofs.index_reads.Rows.{rows_are_entries}
use Rattle.run_laws.specs.index_reads.Ties.{ArePlain}
use Rattle.index_tie.proofs.Rows.{by_filed}
use Rattle.index_tie.proofs.Runs.{good_in}
use Rattle.headline.specs.Filed.{Filed, has_block, is_filed_name, rows_at}
use Rattle.index_tie.specs.Filed.{IsFiled}
use Rattle.index_tie.specs.Laws.{IsOutdated}
use Rattle.index_tie.specs.NetLaws.{ReigningIsOutdated}
use Rattle.log_protocol.specs.Tables as tables
use Rattle.log_tie.specs.Setting.{Setting}
use Rattle.node_base.specs.Setups.{IsSetup}
use Rattle.node_slots.specs.node_index_tie.Sight.{held_in}
use Rattle.node_slots.proofs.node_tie.SmallWorld.{with_promise}
use Rattle.run_laws.proofs.place_law.Lying.{LiesAt, lies_there, one_of_nine}
use Rattle.run_laws.specs.reopening_law.Reopens.{TellsApart}
use Rattle.headline.specs.Restarts.{NoDoubtfulRestart}
use Rattle.run_laws.specs.restart_law.Sure.{UndoubtedRunsAreSure}
use Rattle.segment_format.specs.declared.segment.Segment.{Segment}
use Rattle.segment_format.specs.Rows.{rows_of}
use Rattle.stripe_cleaner.specs.Job.{same_name}
use Rattle.token_client.specs.State.{TokensState, epoch_of}
use Rattle.token_client.specs.Transition.{accepts}
use Rattle.run_laws.specs.segment_tie.Segments.{TellsOnce}
use Rattle.token_law.specs.Books.{row_in, said}
use Rattle.token_law.specs.Laws.{ActiveEpochsPromised, GrantsAreOfTheNewest}
use Rattle.token_law.specs.Net.Packet.{GrantSent}
use Rattle.token_manager.specs.SlotState.{SlotState}
use Rattle.token_protocol.specs.Basics.{In}
use Rattle.wire_msg.specs.declared.body.Body.TheVariants as body
use Rattle.wire_msg.specs.declared.packet.Packet.{Packet}
use Rattle.wire_msg.specs.declared.storage.Delete.{Delete}
use Rattle.wire_msg.specs.declared.tokens.Grant.{Grant}
use Rattle.run_losses.proofs.torn_law.Counts.{cluster_at}
use Rattle.world_base.specs.Cluster.{place_of}
use Rattle.world_base.specs.declared.cluster.Cluster.{Cluster}
use Rattle.world_base.specs.declared.estate.Estate.{Estate}
use Rattle.world_base.specs.Runs.{IsRun}
use Rattle.run_laws.proofs.world_law.Laws.{NodeLaws, ServesThere, serves_there}
use Rattle.run_laws.proofs.world_law.RegistryTurns.{slot_below}
use Rattle.run_laws.proofs.world_law.Sent.{was_sent}
use Rattle.run_laws.specs.world_law.Standing.{Scene, SentBy, members}
use Rattle.headline.specs.Moments.{moment, node_in}
use Rattle.headline.specs.Owners.{tokens_of}
use Rattle.run_laws.specs.world_lines.Lines.{LinesGive}
use Rattle.run_laws.specs.world_logs.Lines.{HasLines, Texts}
use Rattle.run_laws.specs.world_reads.Joint.{Joint, k}
use Rattle.run_laws.specs.world_reads.LoggedRuns.{LoggedRun, logged_run}
use Rattle.run_laws.specs.world_reads.Moments.{EveryRunStands}
use Rattle.xfs_base.specs.Blocks.{slot_of}
use Rattle.xfs_base.specs.declared.entry.Entry.{Entry}
use Rattle.xfs_base.specs.declared.entry.Place.{Place}
use Rattle.xfs_base.specs.declared.node.NodeId.{NodeId}
use Rattle.xfs_base.specs.declared.node.NodeId.TheVariants.{Client, Manager, Server, Cleaner, Registry}
use Rattle.xfs_base.proofs.Booleans.{equal_itself}
use Rattle.xfs_base.proofs.SegmentNames.{same_itself}
use Rattle.xfs_base.specs.Limits.{block_logs}
use Rattle.run_losses.proofs.keeping_law.Blocks.{block_there}
use Rattle.run_losses.proofs.keeping_law.Granting.{GrantedAt, granted_then}
use Rattle.run_losses.proofs.keeping_law.Holding.{managed_there, was_to_be_deleted}
use Rattle.run_losses.proofs.keeping_law.ManagerGrants.{managers_grant_what_they_hold}
use Rattle.run_losses.proofs.keeping_law.Onward.{promised_later}
use Rattle.run_losses.proofs.keeping_law.Sending.{SentIn, sent_in, sent_later, sent_then}
use Rattle.run_losses.proofs.keeping_law.Staying.{IsStill, filed_still}
use Rattle.run_losses.proofs.keeping_law.Unlogged.{unlogged}
use Rattle.run_losses.specs.keeping_law.Keeping.{GrantsLeadToWhatStands, StoodBefore, WouldAccept}

-- the laws of the crates below on which it stands
pub record Below : Type 0 where
  pub nodes : NodeLaws
  pub promised : ActiveEpochsPromised
  pub newest : GrantsAreOfTheNewest
  pub outdated : ReigningIsOutdated
  pub runs : EveryRunStands
  pub undoubted : UndoubtedRunsAreSure
  pub give : LinesGive

-- a Grant to a client is sent in the small world, where its block is of the slot
grant_seen : (c : Cluster) (part : ℕ) (s : Scene) (to : ℕ) (m : Grant) (from : NodeId) → SentBy c part s from (Client to) (body.Grant m)
    → (slot_of m.block.ino.0 == part) ≡ true → In (GrantSent to m.block m.stamp m.inc m.req m.mode m.entry) s.net.sent
grant_seen c part s to m (Client n) h inside = absurd h.2
grant_seen c part s to m (Manager j) h inside = h.2 inside
grant_seen c part s to m (Server v) h inside = absurd h
grant_seen c part s to m Cleaner h inside = absurd h
grant_seen c part s to m Registry h inside = absurd h

module _ (below : Below) (base : Setting) (apart : TellsApart base) (e : Estate AnyNode) (setup : IsSetup e.script.setup)
    (run : IsRun any_step any_start e.script e.events e.world) (lines : HasLines base e) (texts : Texts base e lines) where
  abbrev logged : LoggedRun
  logged = logged_run base e lines texts

  abbrev cl : Cluster
  cl = k logged 0

  module _ (count : ℕ) (none : NoDoubtfulRestart e count) (c : ℕ) (packet : Packet) (place : Place)
      (a : WouldAccept (moment e count) c packet place) (before : ℕ) (s : SentIn e packet before count) where
    abbrev m : Grant
    m = a.grant

    abbrev part : ℕ
    part = slot_of m.block.ino.0

    abbrev after : ℕ
    after = suc s.when

    limit : after ≤ count
    limit = (let less = s.until in omega arith)

    abbrev then : Joint logged part after
    then =
        let undoubted : NoDoubtfulRestart e after = λ r n less. none r n (let high = limit in omega arith) in
        (below.runs.moments base apart e setup run lines texts after undoubted).joints part (slot_below m.block.ino.0)

    abbrev now : Joint logged part count
    now = (below.runs.moments base apart e setup run lines texts count none).joints part (slot_below m.block.ino.0)

    abbrev f : Filed
    f = then.idx.net.filed

    abbrev h : Filed
    h = now.idx.net.filed

    among : In packet (moment e after).sent
    among = sent_then e packet before count s

    granted : GrantedAt below.nodes managers_grant_what_they_hold base e setup run lines after m
    granted = granted_then below.nodes managers_grant_what_they_hold base e setup run lines packet m a.bears before count s among

    -- ---- the slot that the Grant speaks of

    abbrev slot : SlotState
    slot = granted.tells.slot

    there : then.idx.net.slots slot.epoch ≡ Some slot
    there =
        managed_there cl part texts.text logged.first (moment e after).nodes (moment e after).sent then.idx then.index_stands granted.number granted.some granted.limit
        granted.manager granted.there slot granted.tells.managed

    -- the client has promised its epoch, and no later one
    promised_is : epoch_of a.tokens.epochs part ≡ m.stamp.epoch
    promised_is = grind (arith, nat_tests, a.accepted)

    reigns : (d : ℕ) (t : SlotState) → then.idx.net.slots d ≡ Some t → d ≤ slot.epoch
    reigns d t fact =
        let low : d ≤ epoch_of a.tokens.epochs part =
        promised_later below.nodes below.promised e run part (slot_below m.block.ino.0) after count limit then.tok
        (unlogged part cl (moment e after).nodes (moment e after).sent (moment e after).acts then.tok then.tokens_stand) d
        (λ free. nobody (then.slots d free)) m.block (equal_itself part) c a.tokens a.serves in
        let same = promised_is in
        let its = granted.tells.epoch in
        omega arith
      where
        nobody : then.idx.net.slots d ≡ None → ⊥
        nobody free = (let clash : None ≡ Some t = sym free ∙ fact in absurd (cc))

    -- ---- where the Grant leads

    filed : IsFiled f
    filed = (good_in part (held_in part texts.text) logged.first then.idx.net then.index_stands.runs).filed

    plain : ArePlain f
    plain l q some_log nine some high = (then.tells l q some high).plain

    lies : LiesAt f then.tok.net.books m.block m.entry place place.seg.name.log.0 place.seg.name.seq
    lies =
        lies_there f then.tok.net.books m.block m.entry place filed then.books plain a.leads
        (subst (BodyTold (told_by_rows (rows_at f))) a.bears (then.entries.packets packet among))

    named : is_filed_name f place.seg.name ≡ true
    named = subst (λ n. same_name place.seg.name n ≡ true) lies.name (same_itself place.seg.name)

    has : has_block m.block f place.seg.name ≡ true
    has =
        block_there (f.segment place.seg.name.log.0 place.seg.name.seq) m.block m.entry place a.leads
        (then.tells place.seg.name.log.0 place.seg.name.seq lies.some lies.limit).places lies.says

    -- ---- the client, and the Grant to it

    serving : ServesThere below.nodes cl part (slot_below m.block.ino.0) now.tok c a.tokens
    serving =
        serves_there below.nodes cl part (slot_below m.block.ino.0) (moment e count).nodes (moment e count).sent (moment e count).acts now.tok now.tokens_stand
        c a.tokens
        (subst (λ n. tokens_of (node_in (moment e count).nodes (place_of n (Client c))) ≡ Some a.tokens) (cluster_at e count) a.serves)

    granted_there : In (GrantSent c m.block m.stamp m.inc m.req m.mode m.entry) now.tok.net.sent
    granted_there =
        grant_seen cl part now.tok c m packet.from
        (subst (λ b. SentBy cl part now.tok packet.from (Client c) b) a.bears
        (subst (λ n. SentBy cl part now.tok packet.from n packet.body) a.to (now.tokens_stand.facts packet a.sent)))
        (equal_itself part)

    -- ---- a newer version that is filed

    module _ (l q : ℕ) (some : 0 < q) (high : q ≤ f.head l) (newer : m.entry.ver < (join (rows_of (f.segment l q)) m.block).ver) where
      still : IsStill logged part below.give after count limit (below.undoubted base e lines count none) then now l q
      still = filed_still logged part below.give after count limit (below.undoubted base e lines count none) then now l q some high

      nine : (0 < l) × (l ≤ block_logs)
      nine = one_of_nine f filed l q some high

      -- is in the books, too
      version_is : (said now.tok.net.books l q m.block).version ≡ (join (rows_of (f.segment l q)) m.block).ver
      version_is =
          let t : Segment = h.segment l q in
          let tells : TellsOnce t = now.tells l q some still.limit in
          ap (λ rows. (row_in rows m.block).version) (now.books.rows l q nine.0 nine.1 some still.limit)
          ∙ ((rows_are_entries t m.block tells.plain tells.versioned).version ∙ ap (λ (x : Segment). (join (rows_of x) m.block).ver) still.same)

      told_newest : (said now.tok.net.books l q m.block).version ≤ m.entry.ver
      told_newest =
          let x : ServesThere below.nodes cl part (slot_below m.block.ino.0) now.tok c a.tokens = serving in
          below.newest (members cl part) part (with_promise 1 now.tok.net) m.block
          (record { run = now.tokens_stand.runs; inside = equal_itself part }) c x.client
          x.up m.stamp m.inc m.req m.mode m.entry granted_there
          (subst (λ (t : TokensState). accepts t m.block m.stamp m.inc m.req m.mode ≡ true) (sym x.tokens) a.accepted) l q
          (let end = now.books.end l nine.0 nine.1 in let within = still.limit in omega arith)

      not_newer : ⊥
      not_newer = (let same = version_is in let low = told_newest in omega arith)

    none_newer : IsOutdated m.block f m.entry → ⊥
    none_newer o =
        by_filed (λ rows. m.entry.ver < (join rows m.block).ver → ⊥) f o.log o.seq (λ some high newer. not_newer o.log o.seq some high newer)
        (λ newer. omega arith) o.newer

    pub not_deleted : (p : Packet) (d : Delete) → In p (moment e before).sent → p.body ≡ body.Delete d → d.name ≡ place.seg.name → ⊥
    not_deleted p d sent fact same =
        let sent_by : In p (moment e after).sent = sent_later e p before after (let since = s.since in omega arith) sent in
        let deleted : tables.In place.seg.name then.idx.net.deleted =
        subst (λ name. tables.In name then.idx.net.deleted) same
        (was_to_be_deleted cl part texts.text logged.first (moment e after).nodes (moment e after).sent then.idx then.index_stands then.tok p d sent_by
        (then.tokens_stand.facts p sent_by) fact) in
        none_newer (subst (IsOutdated m.block f) granted.tells.entry
        (below.outdated part (held_in part texts.text) then.idx.net m.block slot.epoch slot place
        (record { any = logged.first; run = then.index_stands.runs; inside = refl }) there reigns (ap (λ (x : Entry). x.place) granted.tells.entry ∙ a.leads)
        deleted named has))

  pub stood_before : (count : ℕ) → NoDoubtfulRestart e count → (c : ℕ) (packet : Packet) (place : Place) → WouldAccept (moment e count) c packet place
      → StoodBefore e count packet place
  stood_before count none c packet place a before low not_yet p d sent fact same =
      not_deleted count none c packet place a before (sent_in e packet before count low not_yet a.sent) p d (was_sent (moment e before).sent p sent) fact same

-- by the setting whose contents tell items apart, and the lines that each run has
pub grants_lead_to_what_stands : Below → GrantsLeadToWhatStands
grants_lead_to_what_stands below e setup run count none c packet place a =
    let base = below.runs.setting.0 in
    let lines : HasLines base e = below.runs.lines base e setup run in
    stood_before below base below.runs.setting.1 e setup run lines (below.runs.texts base e setup lines) count none c packet place a
