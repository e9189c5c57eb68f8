-- Lines whose item is answered when it begins: from one drained state to the next, without a packet.
use Rattle.std.proofs.Common.{◌≡◌, inl, ℕ, suc, ◌+◌, ◌<◌, ◌≤◌, false, cond, List, [], ◌∷◌, ◌++◌, length, None, refl, sym, ap, subst, ◌∙◌, arith}
use Rattle.std.proofs.lemmas.Option.{slice_get_within}
use Rattle.client_node.specs.Phases.{client_step}
use Rattle.core_world.specs.AnyNode.{any_step, as_any}
use Rattle.core_world.specs.declared.any_node.AnyNode.{AnyNode}
use Rattle.core_world.specs.declared.any_node.AnyNode.TheVariants as any
use Rattle.headline.specs.ItemActs.{IsOfCall}
use Rattle.play.specs.Plays.{answers}
use Rattle.quiet_flow.proofs.Flowing.{drains_done}
use Rattle.quiet_flow.specs.Flow.{Done, Drains, Stage, begins, one_more, stepped, turned}
use Rattle.version_model.specs.declared.act.Act.{Act}
use Rattle.version_model.specs.declared.act.Act.TheVariants as acts
use Rattle.version_model.specs.declared.answer.Answer.{Answer}
use Rattle.version_model.specs.declared.answer.Answer.TheVariants.{Done as Finished, Got}
use Rattle.version_model.specs.declared.work.Work.{Work}
use Rattle.version_model.specs.declared.work.Work.TheVariants as work
use Rattle.client_call.specs.Blocks.{value_of}
use Rattle.token_client.specs.State.{held_of}
use Rattle.wire_msg.specs.declared.packet.Do.TheVariants.{Begin}
use Rattle.wire_msg.specs.NodeStep.{NodeStep}
use Rattle.xfs_base.specs.declared.block.BlockId.{BlockId}
use Rattle.xfs_base.specs.declared.node.NodeId.{NodeId}
use Rattle.xfs_base.specs.declared.node.NodeId.TheVariants.{Client}
use Rattle.xfs_base.specs.declared.setup.Setup.{Setup}
use Rattle.xfs_base.specs.Limits.{u32_end}
use Rattle.xfs_base.specs.Modes.{is_nothing}
use Rattle.quiet_law.specs.Drained.{AreSquare, Drained, IsIdle, most_steps}
use Rattle.quiet_law.specs.Lines.{Ends, IsNext, Stands}
use Rattle.quiet_nodes.specs.Scene.{ClientPart, Scene, client_at, node_at, with_client}
use Rattle.quiet_nodes.proofs.AtOnce.{get_here, read_here, sync_here, synced_part}
use Rattle.quiet_law.proofs.Keeping.{drained_client, idle_room, lower, put_each, quiet_more}
use Rattle.quiet_nodes.proofs.Staging.{client_frame, client_put, happens_as, placed_on, same_itself}

module _ (setup : Setup) (works : NodeId → List Work) (k : ℕ) (s : Scene) (t : Stage AnyNode) (c : ℕ) (d : Drained setup works k s)
    (stands : Stands setup works s t) (least : 1 ≤ c) (most : c ≤ setup.clients) where
  -- a client that answers when its item begins, and is idle then
  module _ (q : ClientPart) (first : List Act) (item : ℕ) (a : Answer)
      (is : client_step (client_at setup works c (s.client c)) Begin
      ≡ record { node = client_at setup works c q; packets = []; acts = first ++ acts.Answered (Client c) item a ∷ [] })
      (of_call : IsOfCall a) (one : answers (first ++ acts.Answered (Client c) item a ∷ []) ≡ 1) (none : answers first ≡ 0) (begun : q.begun ≡ item)
      (idle : IsIdle (suc k) q) (fed : q.fed ≡ q.end.seq) (same_end : q.end ≡ (s.client c).end) (square : (i : ℕ) → i < 8 → AreSquare setup works c i q (s.slot i)) where
    abbrev then_ : Scene
    then_ = with_client s c q

    abbrev all : List Act
    all = first ++ acts.Answered (Client c) item a ∷ []

    abbrev r : NodeStep AnyNode
    r = record { node = node_at setup works then_ (Client c); packets = []; acts = all }

    abbrev with_node : AnyNode → NodeStep AnyNode
    with_node x = record { node = x; packets = []; acts = all }

    put_begun : (then_.client c).begun ≡ q.begun
    put_begun = ap (λ b. (cond b q (s.client c)).begun) (same_itself setup works c)

    steps_so : any_step (node_at setup works s (Client c)) Begin ≡ r
    steps_so = ap (as_any any.Client) is ∙ ap with_node (sym (client_put setup works c q s))

    begins_so : begins any_step t (Client c) ≡ stepped (one_more t) (Client c) r
    begins_so = happens_as setup works (Client c) Begin s then_ (one_more t) [] all (least, most) stands.placed steps_so

    abbrev end : Stage AnyNode
    end = turned (one_more t) (Client c) r

    none_left : end.unanswered ≡ 0
    none_left = let zero_before = stands.settled in omega (arith, one)

    pub ends_at_once : Ends setup works k 0 s t c item
    ends_at_once = record {
      scene = then_;
      end = end;
      deliveries = 0;
      few = omega arith;
      drains = subst (λ (b : Done AnyNode). Drains any_step setup 0 b.state b.outs end) (sym begins_so) (drains_done any_step setup 0 end);
      answered = record {
        stands = record {
          placed = placed_on setup works (Client c) s then_ (one_more t) [] all stands.placed (client_frame setup works c q s);
          settled = none_left;
        };
        drained = drained_client setup works k s c q d idle fed same_end least most square;
        begun = put_begun ∙ begun;
        others = put_each (λ e (p : ClientPart). (e ≡ c → ⊥) → p.begun ≡ (s.client e).begun) s.client c q (λ differs. absurd (differs refl)) (λ e differs. refl);
        answer = a;
        of_call = of_call;
        before = first;
        after = [];
        acted = refl;
        none_before = none;
        none_after = refl;
        believed = λ m inside x e has. inl has;
      };
    }

  -- ---- the cases

  abbrev p : ClientPart
  p = s.client c

  p_idle : IsIdle k p
  p_idle = d.clients c least most

  module _ (w : Work) (next : IsNext setup works s c w) (few : k < most_steps) where
    within : p.begun < length (works (Client c))
    within = slice_get_within (works (Client c)) p.begun w next.next

    small : p.begun < u32_end
    small = let short = next.few in let less = within in omega arith

  -- a client that begins an item and has else but its cache changed is as idle, and as square with slots
  module _ (q : ClientPart) where
    abbrev like : ClientPart
    like = record p { begun = q.begun; cached = q.cached; call = None; item = None }

    like_idle : IsIdle (suc k) like
    like_idle = record {
      call = refl;
      item = refl;
      flight = p_idle.flight;
      blocks = λ b. quiet_more k (held_of p.blocks b) (p_idle.blocks b);
      few = p_idle.few;
      waits = p_idle.waits;
      fits = p_idle.fits;
      filed = p_idle.filed;
      acked = p_idle.acked;
      asked_low = lower k p.asked p_idle.asked_low;
      req_low = lower k p.req p_idle.req_low;
      end_low = lower k p.end.seq p_idle.end_low;
    }

    like_square : (i : ℕ) → i < 8 → AreSquare setup works c i like (s.slot i)
    like_square i inside = let sq = d.square c i least most inside in
        record { acked = sq.acked; applied = sq.applied; below = sq.below; covered = sq.covered }

  pub gets_here : (b : BlockId) → k < most_steps → IsNext setup works s c (work.Bget c b) → is_nothing (held_of p.blocks b).mode ≡ false
      → Ends setup works k 0 s t c (p.begun + 1)
  gets_here b few next held =
      let q : ClientPart = read_here setup works c p b in
      ends_at_once q (acts.Read c b (held_of p.blocks b).ver (value_of (held_of p.blocks b)) ∷ []) (p.begun + 1)
      (Got (held_of p.blocks b).ver (value_of (held_of p.blocks b)))
      (get_here setup works c p b (idle_room setup works c k p few p_idle) (within (work.Bget c b) next few) (small (work.Bget c b) next few) next.next p_idle.item held)
      tt refl refl refl
      (like_idle q)
      (d.fed c least most)
      refl
      (like_square q)

  pub syncs_nothing : k < most_steps → IsNext setup works s c (work.Sync c) → p.dirty ≡ [] → Ends setup works k 0 s t c (p.begun + 1)
  syncs_nothing few next none =
      let q : ClientPart = synced_part setup works c p in
      ends_at_once q (acts.Synced c ∷ []) (p.begun + 1) Finished
      (sync_here setup works c p (idle_room setup works c k p few p_idle) (within (work.Sync c) next few) (small (work.Sync c) next few) next.next p_idle.item
      p_idle.flight none)
      tt refl refl refl
      (like_idle q)
      (d.fed c least most)
      refl
      (like_square q)
