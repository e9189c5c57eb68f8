-- A sync where something waits: from one drained state to the next by 2n + 16 deliveries, where n members have the group of the next segment.
use Rattle.std.proofs.Common.{◌≡◌, inl, ℕ, suc, ◌+◌, ◌*◌, ◌<◌, ◌≤◌, Bool, true, cond, List, [], ◌∷◌, ◌++◌, map, length, slice_index, Option, Some, None, refl, sym, ap, subst, ◌∙◌, append-nil, arith}
use Rattle.std.proofs.lemmas.Option.{slice_get_within}
use Rattle.client_call.specs.Calls.{call_new}
use Rattle.client_call.specs.declared.call.Call.{Call}
use Rattle.client_call.specs.declared.call.Plan.TheVariants.{One}
use Rattle.client_log.specs.Transition as log
use Rattle.client_log.specs.Transition.{end_of, prior_from}
use Rattle.client_node.specs.Phases.{client_step}
use Rattle.core_world.specs.declared.any_node.AnyNode.{AnyNode}
use Rattle.file_plan.specs.declared.block_call.BlockCall.TheVariants.{Sync}
use Rattle.log_flight.specs.Flights.{FlightState, is_of, none_noted}
use Rattle.log_owner.specs.Sending.{name_of}
use Rattle.node_base.specs.declared.effects.Effect.{Effect}
use Rattle.node_base.specs.declared.effects.Effect.TheVariants.{Answer, Does}
use Rattle.node_base.specs.Effects.{acts_of, packets_of}
use Rattle.node_base.specs.Setups.{IsSetup}
use Rattle.node_base.specs.Shape.{is_name}
use Rattle.quiet_flow.specs.Flow.{Stage, unclocked}
use Rattle.segment_reading.specs.Reading.{is_known}
use Rattle.slot_beliefs.specs.Beliefs.{share_of}
use Rattle.token_manager.specs.SlotState.{SlotState}
use Rattle.version_model.specs.declared.act.Act.{Act}
use Rattle.version_model.specs.declared.act.Act.TheVariants as acts
use Rattle.version_model.specs.declared.answer.Answer.TheVariants.{Done as Finished}
use Rattle.version_model.specs.declared.work.Work.{Work}
use Rattle.version_model.specs.declared.work.Work.TheVariants as work
use Rattle.wire_msg.specs.declared.packet.Do.TheVariants.{Begin}
use Rattle.xfs_base.specs.declared.block.BlockId.{BlockId}
use Rattle.xfs_base.specs.declared.entry.Entry.{Entry}
use Rattle.xfs_base.specs.declared.node.NodeId.{NodeId}
use Rattle.xfs_base.specs.declared.node.NodeId.TheVariants.{Client}
use Rattle.xfs_base.specs.declared.setup.Setup.{Setup}
use Rattle.xfs_base.specs.Limits.{u32_end}
use Rattle.quiet_law.specs.Drained.{Drained, IsIdle, most_steps}
use Rattle.quiet_law.specs.Lines.{Ends, IsNext, Stands, sealing}
use Rattle.quiet_nodes.specs.Layers.{stores_to}
use Rattle.quiet_nodes.specs.Moves.{Empties}
use Rattle.quiet_nodes.specs.Scene.{ClientPart, Scene, client_at, its_groups, with_client}
use Rattle.quiet_nodes.proofs.Begins.{HasRoom}
use Rattle.quiet_nodes.proofs.Notes.{AreNoted}
use Rattle.quiet_nodes.proofs.Noting.{stored_comes}
use Rattle.quiet_nodes.proofs.Sealing.{stores, sync_begins}
use Rattle.quiet_nodes.proofs.Sends.{acts_none, packets_are, unclocked_are}
use Rattle.quiet_nodes.proofs.Settling.{last_stored_comes}
use Rattle.quiet_nodes.proofs.Tests.{lt_test, other_test, same_test}
use Rattle.quiet_law.proofs.Beginning.{AnswersIt, ends_by}
use Rattle.quiet_law.proofs.Counters.{calm_turns}
use Rattle.quiet_law.proofs.Keeping.{calm_more, idle_room}
use Rattle.quiet_law.proofs.Synced.{CanSeal, idle_can, none_waits}
use Rattle.quiet_law.proofs.Tailing.{tail_drained}
use Rattle.quiet_law.proofs.Writing as writing
use Rattle.quiet_law.proofs.Writing.{IsReady, LastSo, NotedSo, acts_are, count_is, its, lands, of_log, told_at, waits, writes_on}

module _ (setup : Setup) (works : NodeId → List Work) (k : ℕ) (s : Scene) (t : Stage AnyNode) (c : ℕ) (d : Drained setup works k s) (stands : Stands setup works s t)
    (ok : IsSetup setup) (few : k < most_steps) (next : IsNext setup works s c (work.Sync c)) (some : 1 ≤ length (s.client c).dirty) where
  abbrev p : ClientPart
  p = s.client c

  least : 1 ≤ c
  least = next.client.0

  most : c ≤ setup.clients
  most = next.client.1

  idle : IsIdle k p
  idle = d.clients c least most

  abbrev item : ℕ
  item = p.begun + 1

  -- the client whose sync is open, and has sealed nothing yet
  abbrev syncs : ClientPart
  syncs = record p { begun = item; item = Some item; call = Some (call_new One Sync) }

  -- whichever call is open
  can_with : (number : ℕ) (one : Option ℕ) (call : Option Call) → CanSeal (suc k) (record p { begun = number; item = one; call = call })
  can_with number one call = (let h = idle_can k p idle in record {
    blocks = h.blocks;
    few = h.few;
    waits = h.waits;
    fits = h.fits;
    filed = h.filed;
    acked = h.acked;
    asked_low = h.asked_low;
    req_low = h.req_low;
    end_low = h.end_low;
  })

  can : CanSeal (suc k) syncs
  can = can_with item (Some item) (Some (call_new One Sync))

  fed : p.fed ≡ p.end.seq
  fed = d.fed c least most

  acked : (i : ℕ) → i < 8 → slice_index p.acked i ≡ p.end.seq
  acked i within = sym (ap (λ t. cond t (slice_index p.acked i) 0) (lt_test i 8 within)) ∙ (d.square c i least most within).acked

  ready : (i : ℕ) → i < 8 → IsReady c p.end.seq (s.slot i)
  ready i within = (let calm = d.slots i within in record {
    turns = calm_turns setup k s.slot few d.slots i within;
    jobs = calm.jobs;
    applied = (d.square c i least most within).applied;
    counted = calm.counted;
    rows_low = (let low = calm.rows_low in omega (arith, few));
  })

  linked : is_known (its_groups setup works) (prior_from p.end) ≡ true
  linked = d.linked c least most

  few_more : suc k ≤ 40000
  few_more = few

  -- ---- the segment

  abbrev f : FlightState
  f = writing.f setup works (suc k) c s syncs can ok few_more least most fed linked acked ready

  abbrev seq : ℕ
  seq = p.end.seq + 1

  abbrev rows : List (BlockId × Entry)
  rows = writing.rows setup works (suc k) c s syncs can ok few_more least most fed linked acked ready

  abbrev flies : List Bool → ClientPart
  flies = writing.flies setup works (suc k) c s syncs can ok few_more least most fed linked acked ready

  abbrev after : List Effect
  after = Does (acts.Synced c) ∷ Answer item Finished ∷ []

  waiting_room : (noted : List Bool) → HasRoom setup works c (flies noted)
  waiting_room noted = (let h = idle_room setup works c k p few idle in record { asked = h.asked; req = h.req; seq = h.seq; attempt = refl; again = refl })

  its_so : (place : ℕ) (noted : List Bool) → AreNoted noted place → place < length f.group.members
      → is_of (record f { noted = noted }) f.segment.name place 1 ≡ true
  its_so = its setup works (suc k) c s syncs can ok few_more least most fed linked acked ready

  named : is_name f.segment.name ≡ true
  named = of_log setup works (suc k) c s syncs can ok few_more least most fed linked acked ready

  noted_so : NotedSo setup works (suc k) c s syncs can ok few_more least most fed linked acked ready after
  noted_so m place noted first are less =
      stored_comes setup works c m.server 0 place 1 f.segment.name (flies noted) (record f { noted = noted }) refl (its_so place noted are (omega (arith, less)))
      (waits setup works (suc k) c s syncs can ok few_more least most fed linked acked ready place noted are less) (waiting_room noted) first.1 named refl

  last_so : LastSo setup works (suc k) c s syncs can ok few_more least most fed linked acked ready after
  last_so m place noted first are all =
      last_stored_comes setup works c m.server 0 place 1 item f.segment.name (flies noted) (record f { noted = noted }) refl (its_so place noted are (omega (arith, all)))
      (lands setup works (suc k) c s syncs can ok few_more least most fed linked acked ready place noted are all)
      (none_waits setup works (suc k) c syncs can) (lt_test p.fed seq (let is = fed in omega arith)) (λ b. (idle.blocks b).giving) (waiting_room noted) first.1 named refl refl

  -- ---- the last scene

  abbrev q : ClientPart
  q = writing.last_part setup works (suc k) c s syncs can ok few_more least most fed linked acked ready

  abbrev u : Scene
  u = writing.last_scene setup works (suc k) c s syncs can ok few_more least most fed linked acked ready

  -- it is that of a client which has sealed with no call open
  drained : Drained setup works (suc k) u
  drained =
      tail_drained setup works k c s syncs (can_with item None None) ok few_more least most fed linked acked ready s d (record {
        clients = λ e differs. refl;
        held = λ v. refl;
        end = refl;
        index = λ i within. refl;
        calm = λ i within. calm_more setup k (s.slot i) (d.slots i within);
        square = λ i within. (let sq = d.square c i least most within in record { acked = sq.acked; applied = sq.applied; below = sq.below; covered = sq.covered });
        theirs = λ e differs l m i within. d.square e i l m within;
      })

  -- ---- the line

  left : p.begun < length (works (Client c))
  left = slice_get_within (works (Client c)) p.begun (work.Sync c) next.next

  small : p.begun < u32_end
  small = (let many = next.few in let less = left in omega arith)

  begins_so : client_step (client_at setup works c p) Begin ≡ record {
    node = client_at setup works c (flies none_noted);
    packets = packets_of (Client c) (stores setup works c p ++ []);
    acts = acts_of (Client c) (stores setup works c p ++ []);
  }
  begins_so =
      sync_begins setup works c p (idle_room setup works c k p few idle) left small next.next idle.item idle.flight (lt_test 0 (length p.dirty) some)
      (lt_test p.end.seq u32_end (let low = idle.end_low in omega (arith, few)))

  packets_so : map unclocked (packets_of (Client c) (stores setup works c p ++ [])) ≡ stores_to c f f.group.members 0
  unfolding log.sending_send
  packets_so =
      ap (λ outs. map unclocked (packets_of (Client c) outs)) (append-nil (stores setup works c p))
      ∙ ap (map unclocked) (packets_are f refl c f.group.members 0)
      ∙ unclocked_are f refl c f.group.members 0

  acts_so : acts_of (Client c) (stores setup works c p ++ []) ≡ []
  unfolding log.sending_send
  acts_so = ap (acts_of (Client c)) (append-nil (stores setup works c p)) ∙ acts_none f refl c f.group.members 0

  abbrev filed : Act
  filed = acts.Filed (name_of (record { 0 = c }) (end_of f.segment))

  one : AnswersIt c item
      (acts_of (Client c) (stores setup works c p ++ []) ++ (writing.done_by setup works (suc k) c s syncs can ok few_more least most fed linked acked ready after ++ []))
  one = record {
    answer = Finished;
    of_call = tt;
    before = filed ∷ acts.Synced c ∷ [];
    after = [];
    are =
        ap (λ xs. xs ++ (writing.done_by setup works (suc k) c s syncs can ok few_more least most fed linked acked ready after ++ [])) acts_so
        ∙ ap (λ xs. xs ++ []) (acts_are setup works (suc k) c s syncs can ok few_more least most fed linked acked ready after);
    none_before = refl;
    none_after = refl;
  }

  pub syncs_what_waits : Ends setup works k (2 * sealing setup works s c + 16) s t c item
  syncs_what_waits =
      ends_by setup works k s u t c item (writing.count setup works (suc k) c s syncs can ok few_more least most fed linked acked ready)
      (2 * sealing setup works s c + 16) (flies none_noted) (packets_of (Client c) (stores setup works c p ++ []))
      (acts_of (Client c) (stores setup works c p ++ []))
      (writing.done_by setup works (suc k) c s syncs can ok few_more least most fed linked acked ready after ++ [])
      stands least most begins_so
      (subst
      (λ ps. Empties setup works (writing.count setup works (suc k) c s syncs can ok few_more least most fed linked acked ready) (with_client s c (flies none_noted)) ps
      (writing.done_by setup works (suc k) c s syncs can ok few_more least most fed linked acked ready after ++ []) u)
      (sym packets_so)
      (writes_on setup works (suc k) c s syncs can ok few_more least most fed linked acked ready after refl noted_so last_so))
      (let is = count_is setup works (suc k) c s syncs can ok few_more least most fed linked acked ready in omega arith)
      drained
      (ap (λ t. (cond t q (s.client c)).begun) (same_test c))
      (λ e differs. ap (λ t. (cond t q (s.client e)).begun) (other_test e c differs))
      one
      (λ m inside x e has. inl (subst (λ (y : SlotState). 1 ≤ share_of y.beliefs x e)
      (told_at setup works (suc k) c s syncs can ok few_more least most fed linked acked ready m inside) has))
