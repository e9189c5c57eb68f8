-- A put of a block that the client owns: it is answered when it begins; where 24 wait then, a segment goes its way. From one drained state to the next.
use Rattle.std.proofs.Common.{◌≡◌, inl, ℕ, suc, ◌+◌, ◌*◌, ◌<◌, ◌≤◌, ◌^◌, ◌&&◌, true, false, cond, nat_lt, nat_le, List, [], ◌∷◌, ◌++◌, length, slice_index, Option, Some, None, is_none, refl, sym, ap, subst, ◌∙◌, arith}
use Rattle.std.proofs.lemmas.Bool.Decides.{nat_tests}
use Rattle.std.proofs.lemmas.Option.{slice_get_within}
use Rattle.client_call.specs.Fitting.{block_fits, put_fits, value_fits}
use Rattle.client_log.specs.Transition.{prior_from}
use Rattle.core_world.specs.declared.any_node.AnyNode.{AnyNode}
use Rattle.log_flight.specs.declared.dirty.Change.{Change}
use Rattle.log_flight.specs.Flights.{none_noted}
use Rattle.node_base.specs.Effects.{acts_of, packets_of}
use Rattle.node_base.specs.Setups.{IsSetup}
use Rattle.quiet_flow.specs.Flow.{Stage}
use Rattle.segment_reading.specs.Reading.{is_known}
use Rattle.slot_beliefs.specs.Beliefs.{share_of}
use Rattle.token_client.proofs.Tables.{held_of-put_itself, put_each}
use Rattle.token_client.specs.declared.held.Held.{Held}
use Rattle.token_client.specs.Held.{is_dirty, may_write, held_write}
use Rattle.token_client.specs.State.{held_of}
use Rattle.version_model.specs.declared.act.Act.TheVariants as acts
use Rattle.version_model.specs.declared.answer.Answer.TheVariants.{Version}
use Rattle.version_model.specs.declared.work.Work.{Work}
use Rattle.version_model.specs.declared.work.Work.TheVariants as work
use Rattle.xfs_base.proofs.Booleans.{and_first, and_second}
use Rattle.xfs_base.specs.Blocks.{slot_of}
use Rattle.xfs_base.specs.declared.block.BlockId.{BlockId}
use Rattle.xfs_base.specs.declared.node.NodeId.{NodeId}
use Rattle.xfs_base.specs.declared.node.NodeId.TheVariants.{Client}
use Rattle.xfs_base.specs.declared.setup.Setup.{Setup}
use Rattle.xfs_base.specs.Limits.{u32_end, u64_end}
use Rattle.xfs_base.specs.Modes.{is_own}
use Rattle.quiet_law.specs.Drained.{AreSquare, Drained, IsIdle, IsQuietBlock, IsWritable, WaitsForDirty, mode_number, most_steps}
use Rattle.quiet_law.specs.Lines.{Ends, IsNext, Stands, sealing, tail}
use Rattle.quiet_script.specs.Quiet.{is_client, is_in_range}
use Rattle.quiet_nodes.specs.Moves.{Empties}
use Rattle.quiet_nodes.specs.Scene.{ClientPart, Scene, its_groups, with_client}
use Rattle.quiet_nodes.proofs.AtOnce.{put_here}
use Rattle.quiet_nodes.proofs.Puts.{put_part, waiting_then}
use Rattle.quiet_nodes.proofs.Tests.{lt_test, not_lt_test, other_test, same_test}
use Rattle.quiet_law.proofs.Beginning.{ends_by}
use Rattle.quiet_law.proofs.Counters.{below_long, calm_turns, low_next}
use Rattle.quiet_law.proofs.Ending.{ends_at_once}
use Rattle.quiet_law.proofs.Filled.{acts_so, does, fills_begin, packets_so}
use Rattle.quiet_law.proofs.Keeping.{calm_more, idle_room, lower, quiet_more}
use Rattle.quiet_law.proofs.Spelling.{inserted_fit, put_writable}
use Rattle.quiet_law.proofs.Synced.{CanSeal}
use Rattle.std.specs.List.{AllByRecursion}
use Rattle.quiet_law.proofs.Tailing as tailing
use Rattle.quiet_law.proofs.Tailing.{tail_beliefs, tail_drained, tail_leads}
use Rattle.quiet_law.proofs.Waiting.{inserted_length, other_held, waits_put}
use Rattle.quiet_law.proofs.Writing.{IsReady, count_is}

-- what ends with few deliveries ends with more
pub ends_more : (setup : Setup) (works : NodeId → List Work) (k a most : ℕ) (s : Scene) (t : Stage AnyNode) (c item : ℕ) → a ≤ most → Ends setup works k a s t c item
    → Ends setup works k most s t c item
ends_more setup works k a most s t c item less e = record {
  scene = e.scene;
  end = e.end;
  deliveries = e.deliveries;
  few = (let few = e.few in omega (arith, less));
  drains = e.drains;
  answered = e.answered;
}

module _ (setup : Setup) (works : NodeId → List Work) (k : ℕ) (s : Scene) (t : Stage AnyNode) (c : ℕ) (d : Drained setup works k s) (stands : Stands setup works s t)
    (ok : IsSetup setup) (few : k < most_steps) (b : BlockId) (value : Option (List ℕ)) (next : IsNext setup works s c (work.Bput c b value))
    (range : is_in_range setup (work.Bput c b value) ≡ true) (own : is_own (held_of (s.client c).blocks b).mode ≡ true) where
  abbrev p : ClientPart
  p = s.client c

  least : 1 ≤ c
  least = next.client.0

  most : c ≤ setup.clients
  most = next.client.1

  idle : IsIdle k p
  idle = d.clients c least most

  abbrev h : Held
  h = held_of p.blocks b

  abbrev item : ℕ
  item = p.begun + 1

  quiet : IsQuietBlock k h
  quiet = idle.blocks b

  left : p.begun < length (works (Client c))
  left = slice_get_within (works (Client c)) p.begun (work.Bput c b value) next.next

  small : p.begun < u32_end
  small = (let many = next.few in let less = left in omega arith)

  low_version : h.ver + 1 < u64_end
  low_version = below_long k h.ver few quiet.low

  may : may_write h ≡ true
  may =
      ap (λ t. (t && is_none h.giving) && nat_lt h.ver u64_end) own
      ∙ ap (λ g. (true && is_none g) && nat_lt h.ver u64_end) quiet.giving
      ∙ lt_test h.ver u64_end (let low = low_version in omega arith)

  in_range : (block_fits b && value_fits value) ≡ true
  in_range = and_second (is_client setup c) (block_fits b && value_fits value) range

  fits : put_fits b (h.ver + 1) value ≡ true
  unfolding put_fits
  fits =
      ap (λ t. t && (nat_lt (h.ver + 1) (2 ^ 64) && value_fits value)) (and_first (block_fits b) (value_fits value) in_range)
      ∙ ap (λ t. t && value_fits value) (lt_test (h.ver + 1) (2 ^ 64) (let low = low_version in omega arith))
      ∙ and_second (block_fits b) (value_fits value) in_range

  -- ---- the client once it is written

  abbrev w : ClientPart
  w = record (put_part p b value) { begun = item; item = None }

  abbrev g : Held
  g = held_write h value

  abbrev change : Change
  change = record { entry = record { ver = h.ver + 1; hop = 0; place = None }; value = value }

  itself : held_of w.blocks b ≡ g
  itself = held_of-put_itself b g p.blocks

  quiet_here : IsQuietBlock (suc k) g
  quiet_here = record {
    want = quiet.want;
    fetch = quiet.fetch;
    giving = quiet.giving;
    owned = λ dirty. own;
    low = low_next k h.ver quiet.low;
    settled_low = (let behind = quiet.settled_low in omega arith);
  }

  quiet_then : (x : BlockId) → IsQuietBlock (suc k) (held_of w.blocks x)
  quiet_then = put_each (λ x y. IsQuietBlock (suc k) y) b g p.blocks quiet_here (λ x. quiet_more k (held_of p.blocks x) (idle.blocks x))

  waits_then : WaitsForDirty w.blocks w.dirty
  waits_then =
      waits_put b change p.blocks w.blocks (λ x differs. other_held b g p.blocks x differs) (sym (ap (λ (x : Held). x.ver) itself))
      (ap is_dirty itself ∙ lt_test h.settled (h.ver + 1) (let behind = quiet.settled_low in omega arith)) p.dirty idle.waits

  fits_then : AllByRecursion IsWritable w.dirty
  fits_then =
      inserted_fit b change p.dirty
      (put_writable b (h.ver + 1) value (and_first (block_fits b) (value_fits value) in_range) (and_second (block_fits b) (value_fits value) in_range)
      (let low = low_version in omega arith)) idle.fits

  square_then : (i : ℕ) → i < 8 → AreSquare setup works c i w (s.slot i)
  square_then i within = (let sq = d.square c i least most within in record {
    acked = sq.acked;
    applied = sq.applied;
    below = put_each (λ x y. slot_of x.ino.0 ≡ i → (y.stamp.epoch ≤ 1) × (y.stamp.turn ≤ (s.slot i).turn)) b g p.blocks (sq.below b) sq.below;
    covered = put_each (λ x y. slot_of x.ino.0 ≡ i → mode_number y.mode ≤ share_of (s.slot i).beliefs x c) b g p.blocks (sq.covered b) sq.covered;
  })

  -- ---- fewer than 24 wait then

  puts_here : nat_le 24 (length (waiting_then p b value)) ≡ false → Ends setup works k 0 s t c item
  puts_here not_full =
      ends_at_once setup works k s t c d stands least most w (acts.Wrote c b value ∷ []) item (Version (h.ver + 1))
      (put_here setup works c p b value (idle_room setup works c k p few idle) left small next.next idle.item may fits not_full)
      tt refl refl refl
      (record {
        call = refl;
        item = refl;
        flight = idle.flight;
        blocks = quiet_then;
        few = fewer_than (length (waiting_then p b value)) not_full;
        waits = waits_then;
        fits = fits_then;
        filed = idle.filed;
        acked = idle.acked;
        asked_low = lower k p.asked idle.asked_low;
        req_low = lower k p.req idle.req_low;
        end_low = lower k p.end.seq idle.end_low;
      })
      (d.fed c least most) refl square_then
    where
      fewer_than : (n : ℕ) → nat_le 24 n ≡ false → n ≤ 23
      fewer_than n is = grind (arith, nat_tests)

  -- ---- 24 wait then

  fed : w.fed ≡ w.end.seq
  fed = d.fed c least most

  linked : is_known (its_groups setup works) (prior_from w.end) ≡ true
  linked = d.linked c least most

  few_more : suc k ≤ 40000
  few_more = few

  acked : (i : ℕ) → i < 8 → slice_index w.acked i ≡ w.end.seq
  acked i within = sym (ap (λ t. cond t (slice_index p.acked i) 0) (lt_test i 8 within)) ∙ (d.square c i least most within).acked

  ready : (i : ℕ) → i < 8 → IsReady c w.end.seq (s.slot i)
  ready i within = (let calm = d.slots i within in record {
    turns = calm_turns setup k s.slot few d.slots i within;
    jobs = calm.jobs;
    applied = (d.square c i least most within).applied;
    counted = calm.counted;
    rows_low = (let low = calm.rows_low in omega (arith, few));
  })

  can : CanSeal (suc k) w
  can = record {
    blocks = quiet_then;
    few = (let long = inserted_length b change p.dirty in let short = idle.few in omega (arith, long, short));
    waits = waits_then;
    fits = fits_then;
    filed = idle.filed;
    acked = idle.acked;
    asked_low = lower k p.asked idle.asked_low;
    req_low = lower k p.req idle.req_low;
    end_low = low_next k p.end.seq idle.end_low;
  }

  abbrev u : Scene
  u = tailing.last_scene setup works k c s w can ok few_more least most fed linked acked ready

  abbrev count : ℕ
  count = tailing.count setup works k c s w can ok few_more least most fed linked acked ready

  abbrev mid_part : ClientPart
  mid_part = record p { begun = item; item = Some item; call = None }

  puts_and_fills : nat_le 24 (length (waiting_then p b value)) ≡ true → Ends setup works k (2 * sealing setup works s c + 16) s t c item
  puts_and_fills full =
      ends_by setup works k s u t c item count (2 * sealing setup works s c + 16)
      (tailing.flies setup works k c s w can ok few_more least most fed linked acked ready none_noted)
      (packets_of (Client c) (does setup works c mid_part b value item)) (acts_of (Client c) (does setup works c mid_part b value item))
      (tailing.filed setup works k c s w can ok few_more least most fed linked acked ready ∷ [])
      stands least most
      (fills_begin setup works c p b value (idle_room setup works c k p few idle) left small next.next idle.item may fits idle.flight full
      (lt_test p.end.seq u32_end (let low = idle.end_low in omega (arith, low, few))))
      (subst
      (λ ps. Empties setup works count (with_client s c (tailing.flies setup works k c s w can ok few_more least most fed linked acked ready none_noted)) ps
      (tailing.filed setup works k c s w can ok few_more least most fed linked acked ready ∷ []) u)
      (sym (packets_so setup works c mid_part b value item))
      (tail_leads setup works k c s w can ok few_more least most fed linked acked ready))
      (let is = count_is setup works (suc k) c s w can ok few_more least most fed linked acked ready in omega arith)
      (tail_drained setup works k c s w can ok few_more least most fed linked acked ready s d (record {
        clients = λ e differs. refl;
        held = λ v. refl;
        end = refl;
        index = λ i within. refl;
        calm = λ i within. calm_more setup k (s.slot i) (d.slots i within);
        square = square_then;
        theirs = λ e differs l m i within. d.square e i l m within;
      }))
      (ap (λ t. (cond t (tailing.q setup works k c s w can ok few_more least most fed linked acked ready) (s.client c)).begun) (same_test c))
      (λ e differs. ap (λ t. (cond t (tailing.q setup works k c s w can ok few_more least most fed linked acked ready) (s.client e)).begun) (other_test e c differs))
      (record {
        answer = Version (h.ver + 1);
        of_call = tt;
        before = acts.Wrote c b value ∷ [];
        after = tailing.filed setup works k c s w can ok few_more least most fed linked acked ready ∷ [];
        are = ap (λ xs. xs ++ tailing.filed setup works k c s w can ok few_more least most fed linked acked ready ∷ []) (acts_so setup works c mid_part b value item);
        none_before = refl;
        none_after = refl;
      })
      (λ i within x e has. inl (subst (λ bs. 1 ≤ share_of bs x e) (tail_beliefs setup works k c s w can ok few_more least most fed linked acked ready i within) has))

  -- ---- both

  tail_is : nat_le 24 (length (waiting_then p b value)) ≡ true → tail setup works s c ≡ 2 * sealing setup works s c + 16
  tail_is full =
      ap (λ t. cond t 0 (2 * sealing setup works s c + 16))
      (not_lt_test (length p.dirty) 23 (let long = inserted_length b change p.dirty in least_of (length p.dirty) (length (waiting_then p b value)) long full))
    where
      least_of : (n m : ℕ) → m ≤ n + 1 → nat_le 24 m ≡ true → 23 ≤ n
      least_of n m long is = grind (arith, nat_tests)

  none_more : (n : ℕ) → 0 ≤ n
  none_more n = omega arith

  pub puts_owned : Ends setup works k (tail setup works s c) s t c item
  puts_owned =
      elim (nat_le 24 (length (waiting_then p b value))) as
      (λ full. nat_le 24 (length (waiting_then p b value)) ≡ full → Ends setup works k (tail setup works s c) s t c item) [
        | true ↦ λ full. subst (λ n. Ends setup works k n s t c item) (sym (tail_is full)) (puts_and_fills full)
        | false ↦ λ not_full. ends_more setup works k 0 (tail setup works s c) s t c item (none_more (tail setup works s c)) (puts_here not_full)
      ] refl
