-- A put that fills a segment: the client's item is answered when the block is written, and the segment goes its way with no call open. And what is drained then.
use Rattle.std.proofs.Common.{◌≡◌, ℕ, suc, ◌+◌, ◌-◌, ◌<◌, ◌≤◌, ◌==◌, Bool, true, cond, List, [], ◌∷◌, ◌++◌, length, replicate, slice_index, None, refl, sym, ap, subst, ◌∙◌, append-nil, arith}
use Rattle.std.proofs.lemmas.List.{get_or-replicate, get_or-set_other, get_or-set_same}
use Rattle.std.proofs.Math.ListN.{length-set}
use Rattle.client_log.specs.Transition.{end_of, prior_from}
use Rattle.client_node.specs.declared.client.Client.{Client as ClientNode}
use Rattle.delta_feed.specs.Transition.{slot_rows}
use Rattle.delta_index.specs.Index.{entry_of}
use Rattle.fragment_store.specs.Calls.{shelf_store}
use Rattle.group_map.specs.declared.group.Member.{Member}
use Rattle.log_flight.specs.Flights.{FlightState, is_of, none_noted}
use Rattle.log_flight.specs.Fragments.{flight_fragment}
use Rattle.log_owner.specs.Sending.{name_of}
use Rattle.node_base.specs.declared.effects.Effect.{Effect}
use Rattle.node_base.specs.Effects.{acts_of, packets_of}
use Rattle.node_base.specs.Setups.{IsSetup}
use Rattle.node_base.specs.Shape.{is_name}
use Rattle.segment_format.specs.Ranges.{FitsPrior}
use Rattle.segment_reading.specs.Reading.{is_known}
use Rattle.slot_beliefs.specs.Beliefs.{share_of}
use Rattle.slot_beliefs.specs.Index.{Indexed, IsCounted, merge_all}
use Rattle.token_manager.specs.SlotState.{SlotState}
use Rattle.token_manager.specs.Transition.{with_deltas}
use Rattle.version_model.specs.declared.act.Act.{Act}
use Rattle.version_model.specs.declared.act.Act.TheVariants as acts
use Rattle.version_model.specs.declared.work.Work.{Work}
use Rattle.wire_msg.specs.NodeStep.{NodeStep}
use Rattle.xfs_base.proofs.Alls.{all_filter}
use Rattle.xfs_base.specs.declared.block.BlockId.{BlockId}
use Rattle.xfs_base.specs.declared.entry.Entry.{Entry}
use Rattle.xfs_base.specs.declared.fragment.Fragment.{Fragment}
use Rattle.xfs_base.specs.declared.node.NodeId.{NodeId}
use Rattle.xfs_base.specs.declared.node.NodeId.TheVariants.{Client}
use Rattle.xfs_base.specs.declared.segment.End.{End}
use Rattle.xfs_base.specs.declared.setup.Setup.{Setup}
use Rattle.quiet_law.specs.Drained.{AreSquare, Drained, IsCalm, IsLow}
use Rattle.quiet_nodes.specs.Layers.{kept_by, stores_to, with_piece, with_pieces}
use Rattle.quiet_nodes.specs.Moves.{Empties}
use Rattle.quiet_nodes.specs.Scene.{ClientPart, Scene, client_at, its_groups, shelf_at, with_client}
use Rattle.quiet_nodes.proofs.Begins.{HasRoom}
use Rattle.quiet_nodes.proofs.Notes.{AreNoted}
use Rattle.quiet_nodes.proofs.Noting.{stored_comes_idle}
use Rattle.quiet_nodes.proofs.Settling.{last_stored_idle}
use Rattle.quiet_nodes.proofs.Tests.{le_test, lt_test, other_test, same_test}
use Rattle.quiet_law.proofs.Rows.{fewer}
use Rattle.quiet_law.proofs.Sealed.{drained_sealed}
use Rattle.quiet_law.proofs.Synced.{CanSeal, HasSynced, none_waits, rows_few, rows_low, rows_lying, synced_below, synced_covered, synced_idle}
use Rattle.quiet_law.proofs.Told.{calm_told}
use Rattle.quiet_law.proofs.Writing as writing
use Rattle.quiet_law.proofs.Writing.{IsReady, LastSo, NotedSo, acts_are, its, segment_spelled, lands, of_log, striped_so, taken, told_at, waits, writes_on}

-- the same with no call open
abbrev pub answered : ClientPart → ClientPart
answered p = record p { call = None; item = None }

-- shelves that were the same are the same then
module _ (setup : Setup) (works : NodeId → List Work) (f : FlightState) where
  one_same : (x : Member) (place : ℕ) (g h : ℕ → List Fragment) → ((v : ℕ) → g v ≡ h v) → (v : ℕ)
      → with_piece setup works g f x place v ≡ with_piece setup works h f x place v
  one_same x place g h same v =
      ap (λ fs. cond (v == x.server) (shelf_store (shelf_at setup works fs) (flight_fragment f.segment f.group place)).held (g v)) (same x.server)
      ∙ ap (λ fs. cond (v == x.server) (kept_by setup works h f x place) fs) (same v)

  same_shelves : (xs : List Member) (place : ℕ) (g h : ℕ → List Fragment) → ((v : ℕ) → g v ≡ h v) → (v : ℕ)
      → with_pieces setup works g f xs place v ≡ with_pieces setup works h f xs place v
  same_shelves [] place g h same v = same v
  same_shelves (x ∷ xs) place g h same v =
      same_shelves xs (place + 1) (with_piece setup works g f x place) (with_piece setup works h f x place) (one_same x place g h same) v

module _ (setup : Setup) (works : NodeId → List Work) (k c : ℕ) (m : Scene) (p : ClientPart) (can : CanSeal (suc k) (answered p)) (ok : IsSetup setup) (few : suc k ≤ 40000)
    (least : 1 ≤ c) (most : c ≤ setup.clients) (fed : p.fed ≡ p.end.seq) (linked : is_known (its_groups setup works) (prior_from p.end) ≡ true)
    (acked : (i : ℕ) → i < 8 → slice_index p.acked i ≡ p.end.seq) (ready : (i : ℕ) → i < 8 → IsReady c p.end.seq (m.slot i)) where
  abbrev base : ClientPart
  base = answered p

  abbrev pub f : FlightState
  f = writing.f setup works (suc k) c m base can ok few least most fed linked acked ready

  abbrev seq : ℕ
  seq = p.end.seq + 1

  abbrev rows : List (BlockId × Entry)
  rows = writing.rows setup works (suc k) c m base can ok few least most fed linked acked ready

  abbrev pub flies : List Bool → ClientPart
  flies = writing.flies setup works (suc k) c m base can ok few least most fed linked acked ready

  waiting_room : (noted : List Bool) → HasRoom setup works c (flies noted)
  waiting_room noted = record {
    asked = le_test p.asked _ (let low = can.asked_low in omega (arith, few));
    req = le_test p.req _ (let low = can.req_low in omega (arith, few));
    seq = le_test p.end.seq _ (let low = can.end_low in omega (arith, few));
    attempt = refl;
    again = refl;
  }

  its_so : (place : ℕ) (noted : List Bool) → AreNoted noted place → place < length f.group.members
      → is_of (record f { noted = noted }) f.segment.name place 1 ≡ true
  its_so = its setup works (suc k) c m base can ok few least most fed linked acked ready

  named : is_name f.segment.name ≡ true
  named = of_log setup works (suc k) c m base can ok few least most fed linked acked ready

  noted_so : NotedSo setup works (suc k) c m base can ok few least most fed linked acked ready []
  noted_so x place noted first are less =
      stored_comes_idle setup works c x.server 0 place 1 f.segment.name (flies noted) (record f { noted = noted }) refl (its_so place noted are (omega (arith, less)))
      (waits setup works (suc k) c m base can ok few least most fed linked acked ready place noted are less) (waiting_room noted) first.1 named refl

  abbrev told : List Effect
  told = writing.told setup works (suc k) c m base can ok few least most fed linked acked ready

  abbrev as_told : List Effect → NodeStep ClientNode
  as_told outs = record {
    node = client_at setup works c (writing.settled setup works (suc k) c m base can ok few least most fed linked acked ready);
    packets = packets_of (Client c) outs;
    acts = acts_of (Client c) outs;
  }

  last_so : LastSo setup works (suc k) c m base can ok few least most fed linked acked ready []
  last_so x place noted first are all =
      last_stored_idle setup works c x.server 0 place 1 0 f.segment.name (flies noted) (record f { noted = noted }) refl (its_so place noted are (omega (arith, all)))
      (lands setup works (suc k) c m base can ok few least most fed linked acked ready place noted are all)
      (none_waits setup works (suc k) c base can) (lt_test p.fed seq (let is = fed in omega arith)) (λ b. (can.blocks b).giving) (waiting_room noted) first.1 named refl
      ∙ ap as_told (sym (append-nil told))

  abbrev pub filed : Act
  filed = acts.Filed (name_of (record { 0 = c }) (end_of f.segment))

  abbrev pub count : ℕ
  count = writing.count setup works (suc k) c m base can ok few least most fed linked acked ready

  abbrev pub last_scene : Scene
  last_scene = writing.last_scene setup works (suc k) c m base can ok few least most fed linked acked ready

  pub tail_leads : Empties setup works count (with_client m c (flies none_noted)) (stores_to c f f.group.members 0) (filed ∷ []) last_scene
  tail_leads =
      subst (λ done. Empties setup works count (with_client m c (flies none_noted)) (stores_to c f f.group.members 0) done last_scene)
      (ap (λ xs. xs ++ []) (acts_are setup works (suc k) c m base can ok few least most fed linked acked ready []))
      (writes_on setup works (suc k) c m base can ok few least most fed linked acked ready [] refl noted_so last_so)

  pub tail_beliefs : (i : ℕ) → i < 8 → (last_scene.slot i).beliefs ≡ (m.slot i).beliefs
  tail_beliefs i within =
      ap (λ (z : SlotState). z.beliefs) (told_at setup works (suc k) c m base can ok few least most fed linked acked ready i within)

  -- ---- what is drained then

  abbrev pub q : ClientPart
  q = writing.last_part setup works (suc k) c m base can ok few least most fed linked acked ready

  abbrev z : ℕ → SlotState
  z i = with_deltas (m.slot i) (record { 0 = c }) seq (slot_rows i rows)

  synced : HasSynced setup works (suc k) c base can q
  synced = record {
    call = refl;
    item = refl;
    flight = refl;
    dirty = none_waits setup works (suc k) c base can;
    blocks = refl;
    asked = refl;
    req = refl;
    end = refl;
    filed = refl;
    acked = refl;
  }

  few_clients : c ≤ 8
  few_clients = (let limit = ok.clients.1 in omega arith)

  -- the scene in which it was written, beside the one in which the line began
  module _ (s : Scene) (d : Drained setup works k s) where
    pub record IsWritten : Type 0 where
      pub clients : (e : ℕ) → (e ≡ c → ⊥) → m.client e ≡ s.client e
      pub held : (v : ℕ) → m.held v ≡ s.held v
      pub end : p.end ≡ (s.client c).end
      pub index : (i : ℕ) → i < 8 → (m.slot i).index ≡ (s.slot i).index
      pub calm : (i : ℕ) → i < 8 → IsCalm setup (suc k) (m.slot i)
      pub square : (i : ℕ) → i < 8 → AreSquare setup works c i base (m.slot i)
      pub theirs : (e : ℕ) → (e ≡ c → ⊥) → 1 ≤ e → e ≤ setup.clients → (i : ℕ) → i < 8 → AreSquare setup works e i (s.client e) (m.slot i)

    module _ (w : IsWritten) where
      calm_then : (i : ℕ) → i < 8 → IsCalm setup (suc k) (z i)
      calm_then i within =
          (let now = w.calm i within in
          let then_ = calm_told setup k (s.slot i) (record { 0 = c }) seq (slot_rows i rows) (d.slots i within)
          (let less = fewer i rows in let small = rows_few setup works (suc k) c base can in omega arith)
          (all_filter _ _ rows (rows_low setup works (suc k) c base can)) in
          let same : merge_all (s.slot i).index (slot_rows i rows) ≡ merge_all (m.slot i).index (slot_rows i rows) =
          ap (λ (x : Indexed). merge_all x (slot_rows i rows)) (sym (w.index i within)) in
          record {
            epoch = now.epoch;
            jobs = now.jobs;
            alone = now.alone;
            believed = now.believed;
            ordered = now.ordered;
            applied = length-set (m.slot i).applied (c - 1) seq ∙ now.applied;
            counted = subst IsCounted same then_.counted;
            rows_low = subst (λ (x : Indexed). IsLow (suc k) (length x.rows)) same then_.rows_low;
            turn_low = now.turn_low;
            versions_low = λ b. subst (λ (x : Indexed). IsLow (suc k) (entry_of x.rows b).ver) same (then_.versions_low b);
          })

      square_then : (i : ℕ) → i < 8 → AreSquare setup works c i q (z i)
      square_then i within = (let sq = w.square i within in record {
        acked = ap (λ t. cond t (slice_index (replicate 8 seq) i) 0) (lt_test i 8 within) ∙ get_or-replicate 8 i seq 0 within;
        applied = get_or-set_same (m.slot i).applied (c - 1) seq 0 (let long = (w.calm i within).applied in let limit = few_clients in omega arith);
        below = synced_below setup works (suc k) c base can q synced i (m.slot i).turn sq.below;
        covered = λ b of_slot. synced_covered setup works (suc k) c base can q synced b (share_of (m.slot i).beliefs b c) (sq.covered b of_slot);
      })

      theirs_then : (e : ℕ) → (e ≡ c → ⊥) → 1 ≤ e → e ≤ setup.clients → (i : ℕ) → i < 8 → AreSquare setup works e i (s.client e) (z i)
      theirs_then e differs l h i within = (let sq = w.theirs e differs l h i within in record {
        acked = sq.acked;
        applied = get_or-set_other (m.slot i).applied (c - 1) (e - 1) seq 0 (λ same. differs (apart e c l least same)) ∙ sq.applied;
        below = sq.below;
        covered = sq.covered;
      })
        where
          apart : (a b : ℕ) → 1 ≤ a → 1 ≤ b → a - 1 ≡ b - 1 → a ≡ b
          apart a b h g same = omega arith

      held_so : (v : ℕ) → last_scene.held v ≡ with_pieces setup works s.held f f.group.members 0 v
      held_so = same_shelves setup works f f.group.members 0 m.held s.held w.held

      pub tail_drained : Drained setup works (suc k) last_scene
      tail_drained =
          drained_sealed setup works k s last_scene c q z f rows d least most
          (record {
            log = refl;
            seq = ap (λ (e : End). e.seq + 1) w.end;
            end = refl;
            taken = taken setup works (suc k) c m base can ok few least most fed linked acked ready;
            group = (striped_so setup works (suc k) c m base can ok few least most fed linked acked ready).found;
            prior = linked;
            lying = rows_lying setup works (suc k) c base can;
            each = (striped_so setup works (suc k) c m base can ok few least most fed linked acked ready).each;
            end_fits = ((omega arith, omega arith), (striped_so setup works (suc k) c m base can ok few least most fed linked acked ready).low);
            spelled = segment_spelled setup works (suc k) c m base can ok few least most fed linked acked ready
                (subst (λ e. FitsPrior (prior_from e)) (sym w.end) (d.passes c least most));
            differ = (striped_so setup works (suc k) c m base can ok few least most fed linked acked ready).differ;
          })
          (record {
            clients = λ e differs. ap (λ t. cond t q (m.client e)) (other_test e c differs) ∙ w.clients e differs;
            client = ap (λ t. cond t q (m.client c)) (same_test c);
            slots = told_at setup works (suc k) c m base can ok few least most fed linked acked ready;
            held = held_so;
            entries = λ i within. ap (λ (x : Indexed). (merge_all x (slot_rows i rows)).rows) (w.index i within);
          })
          (record {
            idle = synced_idle setup works (suc k) c base can q synced;
            fed = refl;
            calm = calm_then;
            square = square_then;
            theirs = theirs_then;
          })
