-- What a client, or the cleaner, says is lost while it opens its log was torn, at a moment since it began to open it.
use Rattle.std.proofs.Common.{◌≡◌, ⊎_elim, ℕ, suc, ◌<◌, ◌==◌, true, false, List, [], ◌∷◌, ◌++◌, Option, Some, None, drop, length, is_some, slice_get, refl, sym, ap, subst, ◌∙◌, inl, inr, arith}
use Rattle.std.specs.List.{AllByRecursion, count_by}
use Rattle.std.specs.Prelude.{is_none}
use Rattle.xfs_base.proofs.Booleans.{contrary, equal_itself}
use Rattle.xfs_base.specs.declared.node.NodeId.{NodeId}
use Rattle.xfs_base.specs.declared.node.NodeId.TheVariants as names
use Rattle.xfs_base.specs.declared.segment.LogId.{LogId}
use Rattle.xfs_base.specs.declared.segment.SegName.{SegName}
use Rattle.xfs_base.specs.declared.segment.SegRef.{SegRef}
use Rattle.core_world.specs.AnyNode.{any_start, any_step}
use Rattle.core_world.specs.declared.any_node.AnyNode.{AnyNode}
use Rattle.core_world.specs.declared.any_node.AnyNode.TheVariants as any
use Rattle.fragment_store.specs.ShelfState.{ShelfState, held_at}
use Rattle.group_map.specs.declared.group.Group.{Group}
use Rattle.log_law.specs.Events.{CameToScan}
use Rattle.log_law.specs.Net.{Net, opening}
use Rattle.log_law.specs.Net.Owner.{Opening}
use Rattle.log_law.specs.Net.Packet.{DeleteSent}
use Rattle.log_owner.specs.declared.known.Known.{Known}
use Rattle.log_owner.specs.declared.opening.Scanning.{Scanning}
use Rattle.log_protocol.specs.Tables as tables
use Rattle.log_scan.specs.declared.input.In.{In as Input}
use Rattle.log_scan.specs.declared.stage.Stage.{Stage}
use Rattle.log_scan.specs.ScanState.{IsRead, ScanState}
use Rattle.log_tie.specs.Setting.{Setting}
use Rattle.log_tie.specs.Shelves.{is_of_log}
use Rattle.loss_law.proofs.Counting.{counted_places}
use Rattle.loss_law.proofs.Kept.{IsReading, StageKept, WasTorn as TornOf}
use Rattle.loss_law.specs.Losses.{IsTorn}
use Rattle.node_base.specs.declared.effects.Effect.{Effect}
use Rattle.node_base.specs.declared.effects.Effect.TheVariants.{Send, Answer, Lose, Does}
use Rattle.node_base.specs.Effects.{acts_of}
use Rattle.node_logs.specs.node_log_tie.Sight.{BodySeen, DeleteSeen}
use Rattle.token_protocol.specs.Basics.{In}
use Rattle.version_model.specs.declared.act.Act.TheVariants as act
use Rattle.wire_msg.specs.declared.packet.Do.{Do}
use Rattle.wire_msg.specs.declared.packet.Do.TheVariants as done
use Rattle.wire_msg.specs.declared.packet.Packet.{Packet}
use Rattle.world_base.specs.Cluster.{cluster_of, place_of}
use Rattle.world_base.specs.declared.estate.Estate.{Estate}
use Rattle.world_base.specs.declared.event.Event.{Event}
use Rattle.world_base.specs.declared.world.World.{World}
use Rattle.world_base.specs.Events.{node_of, what_of}
use Rattle.world_base.specs.Runs.{IsRun}
use Rattle.run_laws.proofs.world_law.Sent.{was_sent}
use Rattle.headline.specs.Moments.{acts_in, moment, node_in}
use Rattle.run_laws.specs.world_logs.Lines.{HasLines, RunsHaveLines, setting}
use Rattle.headline.specs.Segments.{NotDeleted}
use Rattle.run_laws.specs.world_logs.Roles.{asker_by}
use Rattle.headline.specs.Logs.{IsThere, Role, owner_by, renews}
use Rattle.headline.specs.Logs.Role.{OfClient, OfCleaner, OfManager}
use Rattle.run_laws.specs.world_logs.Settings.{stripe_by}
use Rattle.headline.specs.Servers.{group_at, shelf_at, shelf_of}
use Rattle.run_laws.specs.world_logs.Standing.{ServerThere}
use Rattle.run_losses.proofs.torn_law.Always.{all_good}
use Rattle.run_losses.proofs.torn_law.CleanerCounts.{cleaner_drawn}
use Rattle.run_losses.proofs.torn_law.ClientCounts.{fetches_drawn}
use Rattle.run_losses.proofs.torn_law.Coming.{comes_so}
use Rattle.run_losses.proofs.torn_law.Counts.{Still, TurnAt, became, cluster_at, may_happen, moment_next}
use Rattle.run_losses.proofs.torn_law.Events.{Good, TornBy, at_count, base_at, named_is, net, node_at, owns_at, torn_now}
use Rattle.run_losses.proofs.torn_law.OneOpening.{lost_so}
use Rattle.run_losses.proofs.torn_law.OpeningSays.{Comes, DoesSo, Losing, NotLost}
use Rattle.run_losses.proofs.torn_law.Owners.{Scans, boot_in, outs_of}
use Rattle.run_losses.proofs.torn_law.Truths.{Truths, truth_of}
use Rattle.run_losses.proofs.torn_law.Turns.{brought}
use Rattle.run_losses.proofs.torn_law.Drawn.{FetchesDrawn, last_of}
use Rattle.run_losses.specs.torn_law.Torn.{OpeningLosesWhatIsTorn, ReopeningsLoseWhatIsTorn}
use Rattle.headline.specs.Openings.{IsReadAt, WasTornInOpening, scan_at, scan_of}
use Rattle.headline.specs.Torn.{IsTornAt, lacks}

-- ---- what is done in an event

done_after : {X : Type 0} (xs ys : List X) → drop (length xs) (xs ++ ys) ≡ ys
done_after [] ys = refl
done_after (x ∷ xs) ys = done_after xs ys

none_after : {X : Type 0} (xs : List X) → drop (length xs) xs ≡ []
none_after [] = refl
none_after (x ∷ xs) = none_after xs

module _ (k : Known) (s : Scanning) (what : Do) (last : ℕ) (by : Option Input) (owner : NodeId) (name : SegName) where
  same_loss : (seg : SegName) → act.Lost owner name ≡ act.Lost owner seg → seg ≡ name
  same_loss seg e = cc

  said_lost : (outs : List Effect) → AllByRecursion (DoesSo k s what last by) outs → In (act.Lost owner name) (acts_of owner outs)
      → Losing k s what last by name
  said_lost [] all fact = absurd fact
  said_lost (Send to said ∷ outs) all fact = said_lost outs all.1 fact
  said_lost (Answer item a ∷ outs) all (inl e) = absurd cc
  said_lost (Answer item a ∷ outs) all (inr fact) = said_lost outs all.1 fact
  said_lost (Lose seg ∷ outs) all (inl e) = subst (Losing k s what last by) (same_loss seg e) all.0
  said_lost (Lose seg ∷ outs) all (inr fact) = said_lost outs all.1 fact
  said_lost (Does a ∷ outs) all (inl e) = absurd (subst NotLost (sym e) all.0)
  said_lost (Does a ∷ outs) all (inr fact) = said_lost outs all.1 fact

module _ (base : Setting) (e : Estate AnyNode) (run : IsRun any_step any_start e.script e.events e.world) (lines : HasLines base e) (r : Role)
    (is_there : IsThere e.script.setup.clients e.script.setup.managers r) (keeps : renews r ≡ false) (fetches : (count : ℕ) → FetchesDrawn e r count) where
  abbrev small : ℕ → Net
  small count = net base e lines r is_there keeps count

  -- ---- what is torn in the small world is so on the shelves

  shelf_there : (count v : ℕ) (name : SegName) (x : AnyNode) → ServerThere (setting base e r) r ((lines r is_there).scene count) v x
      → is_none (held_at ((small count).shelves v).held name) ≡ true → lacks (shelf_of (Some x)) name ≡ true
  shelf_there count v name (any.Client node) h none = absurd h
  shelf_there count v name (any.Manager node) h none = absurd h
  shelf_there count v name (any.Server node) h none = subst (λ (s : ShelfState). is_none (held_at s.held name) ≡ true) h.shelf none
  shelf_there count v name (any.Cleaner node) h none = absurd h
  shelf_there count v name (any.Registry node) h none = absurd h

  lacks_there : (count v : ℕ) (name : SegName) → is_none (held_at ((small count).shelves v).held name) ≡ true
      → lacks (shelf_at (moment e count) v) name ≡ true
  lacks_there count v name none =
      subst (λ o. lacks (shelf_of o) name ≡ true) (sym (named_is base e lines r is_there keeps count (names.Server v)))
      (by (node_in (moment e count).nodes (place_of (cluster_of e.script.setup) (names.Server v))) refl)
    where
      by : (o : Option AnyNode) → node_in (moment e count).nodes (place_of (cluster_of e.script.setup) (names.Server v)) ≡ o → lacks (shelf_of o) name ≡ true
      by None fact = refl
      by (Some x) fact = shelf_there count v name x (((lines r is_there).stands count).seen (names.Server v) x fact) none

  not_deleted : (count : ℕ) (name : SegName) → name.log ≡ (setting base e r).log → (tables.In name (small count).dropped → ⊥) → NotDeleted (moment e count) name
  not_deleted count name own kept packet m sent fact same =
      let seen : BodySeen (setting base e r) (asker_by r ((lines r is_there).scene count)) (small count) packet.from packet.to packet.body =
      ((lines r is_there).stands count).facts packet (was_sent (moment e count).sent packet sent) in
      let deletes : DeleteSeen (setting base e r) (asker_by r ((lines r is_there).scene count)) (small count) m =
      subst (λ b. BodySeen (setting base e r) (asker_by r ((lines r is_there).scene count)) (small count) packet.from packet.to b) fact seen in
      let of : is_of_log (setting base e r) m.name ≡ true =
      ap (is_of_log (setting base e r)) same ∙ (ap (λ (l : LogId). l.0 == (setting base e r).log.0) own ∙ equal_itself (setting base e r).log.0) in
      kept (subst (λ n. tables.In n (small count).dropped) same
      ((base_at base e lines r is_there keeps count).packets (DeleteSent m.name) (deletes of)))

  torn_there : (count : ℕ) (segment : SegRef) → segment.name.log ≡ (setting base e r).log → IsTorn (setting base e r) segment (small count)
      → IsTornAt e count segment
  torn_there count segment own t = by (group_at e.world segment.group) refl t.torn
    where
      by : (o : Option Group) → group_at e.world segment.group ≡ o
          → (stripe_by o).parity < count_by (λ m. is_none (held_at ((small count).shelves m.server).held segment.name)) (stripe_by o).members
          → IsTornAt e count segment
      by None fact torn = absurd (omega arith)
      by (Some group) fact torn = record {
        group = group;
        striped = fact;
        torn =
            (let more = counted_places (λ m. is_none (held_at ((small count).shelves m.server).held segment.name))
            (λ m. lacks (shelf_at (moment e count) m.server) segment.name) group.members (λ place within none. lacks_there count _ segment.name none) in
            omega arith);
        kept = not_deleted count segment.name own t.kept;
      }

  -- ---- an opening says that a segment is lost

  module _ (count : ℕ) (s : Scanning) (opens : scan_at e r count ≡ Some s) where
    good : Good base e lines r is_there keeps count
    good = all_good base e run lines r is_there keeps fetches count

    truths : Truths (setting base e r) (TornBy base e lines r is_there keeps count) (at_count base e lines r is_there keeps count).run (moment e count).sent
        (owner_by r) s
    truths = good.truths s opens

    of_log : (stage : Stage) (segment : SegRef)
        → StageKept (setting base e r) (TornBy base e lines r is_there keeps count) (at_count base e lines r is_there keeps count).run s.scan.opening.ask stage
        → IsRead stage segment → segment.name.log ≡ (setting base e r).log
    of_log stage segment kept (b, x, at, same) =
        let k = subst
        (StageKept (setting base e r) (TornBy base e lines r is_there keeps count) (at_count base e lines r is_there keeps count).run s.scan.opening.ask)
        at kept in
        subst (λ (z : SegRef). z.name.log ≡ (setting base e r).log) same k.of_log

    -- at a moment at which the small world reads it, the owner does
    read_there : (at : ℕ) (segment : SegRef) → is_some (scan_at e r at) ≡ true → IsReading segment (small at) → IsReadAt e r at segment
    read_there at segment some (t, owner, reads) = by (scan_at e r at) refl
      where
        one_scan : (a b : ScanState) → Opening a ≡ Opening b → a ≡ b
        one_scan a b fact = cc

        by : (o : Option Scanning) → scan_at e r at ≡ o → IsReadAt e r at segment
        by None fact = contrary (sym (ap is_some fact) ∙ some)
        by (Some x) fact = record {
          scan = x;
          scans = fact;
          is_read = subst (λ (z : ScanState). IsRead z.stage segment)
              (one_scan t x.scan (sym owner ∙ (node_at base e lines r is_there keeps at x fact).scans.sees.owner)) reads;
        }

    earned : (name : SegName) → TornOf (TornBy base e lines r is_there keeps count) s.scan name → WasTornInOpening e r count name
    earned name t = record {
      scan = s;
      scans = opens;
      segment = t.segment;
      named = t.named;
      is_read = t.is_read;
      when = t.once.when;
      before = t.once.before;
      opens = t.once.opens;
      read = read_there t.once.when t.segment (t.once.opens t.once.when (omega arith) t.once.before) t.once.reads;
      torn = torn_there t.once.when t.segment (of_log s.scan.stage t.segment truths.kept t.is_read) t.once.torn;
    }

    module _ (event : Event) (fact : slice_get e.events count ≡ Some event) (own : owner_by r ≡ node_of event) where
      gets : (p : Packet) → what_of event ≡ done.Deliver p → In p (moment e count).sent × (p.to ≡ owner_by r)
      gets p brings = (let b = brought (moment e count) event (may_happen e run count event fact) p brings in (b.0, b.1 ∙ sym own))

      module _ (last boot : ℕ) (sc : Scans (setting base e r) ((lines r is_there).scene count) s last boot (λ k. Unit {0})) (name : SegName) where
        came : (i : Input) → Comes sc.known s (what_of event) i → CameToScan (setting base e r) (small count) i
        came i comes =
            comes_so (setting base e r) ((lines r is_there).scene count) (owner_by r) sc.number sc.known s last sc.sees (what_of event)
            (λ p brings. let got = gets p brings in
            subst (λ to. BodySeen (setting base e r) (asker_by r ((lines r is_there).scene count)) (small count) p.from to p.body) got.1
            (((lines r is_there).stands count).facts p got.0)) i comes

        -- what its scan says is lost
        scan_lost : (by : Option Input) → Losing sc.known s (what_of event) last by name → WasTornInOpening e r count name
        scan_lost None lost = absurd lost
        scan_lost (Some i) lost =
            earned name
            (lost_so (setting base e r) (TornBy base e lines r is_there keeps count) (TornBy base e lines r is_there keeps count) (λ seg t. t)
            (opening (setting base e r) (at_count base e lines r is_there keeps count).map) (small count)
            (at_count base e lines r is_there keeps count).run (base_at base e lines r is_there keeps count)
            (torn_now base e lines r is_there keeps count (ap is_some opens)) s.scan sc.sees.owner i (came i lost.0)
            (truth_of (setting base e r) (TornBy base e lines r is_there keeps count)
            (opening (setting base e r) (at_count base e lines r is_there keeps count).map) (small count)
            (at_count base e lines r is_there keeps count).run (moment e count).sent (owner_by r) sc.known s truths (what_of event) gets i lost.0)
            truths.kept name lost.1)

      acts_now : acts_in (moment e count) event ≡ drop (length (moment e count).acts) (moment e (suc count)).acts
      acts_now = ap (λ (v : World AnyNode). drop (length (moment e count).acts) v.acts) (sym (moment_next e count event fact))

      still_lost : (name : SegName) → Still (moment e count) (moment e (suc count)).nodes (moment e (suc count)).sent (moment e (suc count)).acts
          → In (act.Lost (owner_by r) name) (acts_in (moment e count) event) → WasTornInOpening e r count name
      still_lost name still among =
          let none : acts_in (moment e count) event ≡ [] =
          acts_now ∙ (ap (drop (length (moment e count).acts)) still.acts_are ∙ none_after (moment e count).acts) in
          absurd (subst (In (act.Lost (owner_by r) name)) none among)

      turn_lost : (name : SegName) → TurnAt (moment e count) event (moment e (suc count)).nodes (moment e (suc count)).sent (moment e (suc count)).acts
          → In (act.Lost (owner_by r) name) (acts_in (moment e count) event) → WasTornInOpening e r count name
      turn_lost name t among =
          let stood : node_in (moment e count).nodes (place_of (cluster_of e.script.setup) (owner_by r)) ≡ Some t.node =
          ap (node_in (moment e count).nodes)
          (subst (λ n. place_of (cluster_of e.script.setup) n ≡ Some t.place) (sym own)
          (subst (λ c. place_of c (node_of event) ≡ Some t.place) (cluster_at e count) t.placed)) ∙ t.stands in
          let owns = owns_at base e lines r is_there keeps count t.node stood in
          let scan : scan_of (Some t.node) ≡ Some s = sym (ap scan_of (named_is base e lines r is_there keeps count (owner_by r) ∙ stood)) ∙ opens in
          let sc = owns.scans s scan in
          let turn = sc.turns (what_of event) in
          let acts : acts_in (moment e count) event ≡ acts_of (owner_by r) (outs_of t.node (what_of event)) =
          acts_now ∙ (ap (drop (length (moment e count).acts)) t.acts_are
          ∙ (done_after (moment e count).acts (any_step t.node (what_of event)).acts ∙ owns.acts (what_of event))) in
          scan_lost (last_of (Some t.node)) (boot_in (Some t.node))
          (record { known = sc.known; number = sc.number; sees = sc.sees; boot = sc.boot; turns = tt }) name turn.by
          (said_lost sc.known s (what_of event) (last_of (Some t.node)) turn.by (owner_by r) name (outs_of t.node (what_of event)) turn.does
          (subst (In (act.Lost (owner_by r) name)) acts among))

      pub loses_torn : (name : SegName) → In (act.Lost (owner_by r) name) (acts_in (moment e count) event) → WasTornInOpening e r count name
      loses_torn name among =
          ⊎_elim (λ still. still_lost name still among) (λ t. turn_lost name t among)
          (became e count event fact)

  pub loses_what_is_torn : OpeningLosesWhatIsTorn e r
  loses_what_is_torn count event fact own opens name among = by (scan_at e r count) refl
    where
      by : (o : Option Scanning) → scan_at e r count ≡ o → WasTornInOpening e r count name
      by (Some s) scan = loses_torn count s scan event fact own name among
      by None scan = contrary (sym (ap is_some scan) ∙ opens)

-- ---- of every run

pub record Below : Type 0 where
  pub setting : Setting
  pub lines : RunsHaveLines

-- its fetches are asked by questions that were drawn
asks_so : (base : Setting) (e : Estate AnyNode) (lines : HasLines base e) (r : Role) → IsThere e.script.setup.clients e.script.setup.managers r
    → renews r ≡ false → (count : ℕ) → FetchesDrawn e r count
asks_so base e lines (OfClient c) is_there keeps = fetches_drawn base e lines c is_there
asks_so base e lines OfCleaner is_there keeps = cleaner_drawn base e lines is_there
asks_so base e lines (OfManager j) is_there keeps = contrary (sym keeps)

pub reopenings_lose : Below → ReopeningsLoseWhatIsTorn
reopenings_lose below e ok run r is_there keeps =
    let lines : HasLines below.setting e = below.lines below.setting e ok run in
    loses_what_is_torn below.setting e run lines r is_there keeps (asks_so below.setting e lines r is_there keeps)
