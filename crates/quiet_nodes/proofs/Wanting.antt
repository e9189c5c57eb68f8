-- A client asks for a block: Need, and what is sent.
use Rattle.std.proofs.Common.{◌≡◌, ℕ, zero, suc, ◌+◌, ◌<◌, true, false, nat_lt, List, [], ◌∷◌, length, slice_get, Option, Some, None, refl, ap, ◌∙◌, arith}
use Rattle.client_running.specs.Blocks.{blocks_make, blocks_put}
use Rattle.client_node.specs.Phases.{client_step, serves_on, stepped}
use Rattle.client_call.specs.Calls.{call_new}
use Rattle.client_call.specs.declared.call.Plan.TheVariants.{One}
use Rattle.client_serving.specs.declared.serving.Serving.{Serving}
use Rattle.client_serving.specs.Follow.{serving_follow, follow_one, hand}
use Rattle.delta_feed.specs.FeedState.{FeedState}
use Rattle.delta_feed.specs.Transition.{feed_push}
use Rattle.file_plan.specs.declared.block_call.BlockCall.TheVariants.{Put}
use Rattle.log_owner.specs.Promised.{managers_start, manager_of}
use Rattle.node_base.specs.declared.effects.Effect.TheVariants.{Send}
use Rattle.token_client.specs.declared.input.In.TheVariants.{Need}
use Rattle.token_client.specs.declared.output.Out.TheVariants.{Want as WantOut}
use Rattle.token_client.specs.Held.{held_ask, may_write, must_ask}
use Rattle.token_client.specs.State.{held_of, put_held}
use Rattle.token_client.specs.Transition.{tokens_ask, on_need}
use Rattle.version_model.specs.declared.work.Work.{Work}
use Rattle.version_model.specs.declared.work.Work.TheVariants as work
use Rattle.wire_msg.specs.declared.body.Body.{Body}
use Rattle.wire_msg.specs.declared.body.Body.TheVariants as body
use Rattle.wire_msg.specs.declared.packet.Do.TheVariants.{Begin}
use Rattle.xfs_base.specs.Blocks.{slot_of}
use Rattle.xfs_base.specs.declared.block.BlockId.{BlockId}
use Rattle.xfs_base.specs.declared.node.NodeId.{NodeId}
use Rattle.xfs_base.specs.declared.node.NodeId.TheVariants.{Client, Manager}
use Rattle.xfs_base.specs.declared.setup.Setup.{Setup}
use Rattle.xfs_base.specs.declared.token.Mode.{Mode}
use Rattle.xfs_base.specs.declared.token.Mode.TheVariants.{Own}
use Rattle.xfs_base.specs.Limits.{u32_end}
use Rattle.quiet_nodes.specs.Scene.{ClientPart, client_at, manager_of_slot, serving_at, tokens_at}
use Rattle.quiet_nodes.proofs.Begins.{HasRoom, begin_steps, opened}
use Rattle.quiet_nodes.proofs.Running.{runs_waits}

abbrev pub feed_at : ClientPart → FeedState
feed_at p = record { base = 0; filed = p.filed; end = p.fed; acked = p.acked }

module _ (setup : Setup) (works : NodeId → List Work) where
  pub asked_is : (i : ℕ) → i < 8 → manager_of (managers_start setup.managers) i ≡ Manager (manager_of_slot setup works i)
  asked_is zero h = refl
  asked_is (suc zero) h = refl
  asked_is (suc (suc zero)) h = refl
  asked_is (suc (suc (suc zero))) h = refl
  asked_is (suc (suc (suc (suc zero)))) h = refl
  asked_is (suc (suc (suc (suc (suc zero))))) h = refl
  asked_is (suc (suc (suc (suc (suc (suc zero)))))) h = refl
  asked_is (suc (suc (suc (suc (suc (suc (suc zero))))))) h = refl
  asked_is (suc (suc (suc (suc (suc (suc (suc (suc i)))))))) h = absurd (omega arith)

  module _ (c : ℕ) (q : ClientPart) (b : BlockId) (mode : Mode) where
    -- the block is asked for
    abbrev pub asking : ClientPart
    asking = record q { req = q.req + 1; blocks = put_held q.blocks b (held_ask (held_of q.blocks b) (q.req + 1) mode) }

    abbrev pub want_body : Body
    want_body = body.Want (record { block = b; inc = 1; req = q.req + 1; again = 0; mode = mode; end = q.end.seq })

    abbrev before : Serving
    before = serving_at setup works c (record q { call = None })

    module _ (must : must_ask (held_of q.blocks b) mode ≡ true) (room : nat_lt q.req u32_end ≡ true) (within : slot_of b.ino.0 < 8)
        (told : feed_push (feed_at q) (slot_of b.ino.0) ≡ []) where
      need_is : on_need before.tokens b mode ≡ record { state = tokens_at setup works asking; outs = WantOut b (q.req + 1) 0 mode ∷ [] }
      unfolding on_need tokens_ask
      need_is = rw (must, room) refl

      wants_is : follow_one (serving_at setup works c (record asking { call = None })) (WantOut b (q.req + 1) 0 mode) ≡ record {
        state = serving_at setup works c (record asking { call = None });
        outs = Send (Manager (manager_of_slot setup works (slot_of b.ino.0))) want_body ∷ [];
      }
      unfolding follow_one
      wants_is = rw (told, asked_is (slot_of b.ino.0) within) refl

      pub need_hands : hand before (Need b mode) ≡ record {
        state = serving_at setup works c (record asking { call = None });
        outs = Send (Manager (manager_of_slot setup works (slot_of b.ino.0))) want_body ∷ [];
      }
      unfolding hand serving_follow
      need_hands = rw (need_is, wants_is) refl

  -- ---- a put that has to ask begins

  module _ (c : ℕ) (p : ClientPart) (b : BlockId) (value : Option (List ℕ)) (h : HasRoom setup works c p) (left : p.begun < length (works (Client c)))
      (few : p.begun < u32_end) (next : slice_get (works (Client c)) p.begun ≡ Some (work.Bput c b value)) (idle : p.item ≡ None)
      (may_not : may_write (held_of p.blocks b) ≡ false) (must : must_ask (held_of p.blocks b) Own ≡ true) (room : nat_lt p.req u32_end ≡ true)
      (within : slot_of b.ino.0 < 8) (told : feed_push (feed_at p) (slot_of b.ino.0) ≡ []) where
    abbrev mid : ClientPart
    mid = opened setup works c p (call_new One (Put b value))

    abbrev pub put_asks : ClientPart
    put_asks = asking c mid b Own

    asks_makes : blocks_make (serving_at setup works c (record mid { call = None })) (Put b value) ≡ record {
      done = record {
        state = serving_at setup works c (record put_asks { call = None });
        outs = Send (Manager (manager_of_slot setup works (slot_of b.ino.0))) (want_body c p b Own) ∷ [];
      };
      answer = None;
    }
    unfolding blocks_make blocks_put
    asks_makes = rw (may_not, need_hands c mid b Own must room within told) refl

    pub put_begins : client_step (client_at setup works c p) Begin ≡ record {
      node = client_at setup works c put_asks;
      packets = record { from = Client c; to = Manager (manager_of_slot setup works (slot_of b.ino.0)); clock = 0; body = want_body c p b Own } ∷ [];
      acts = [];
    }
    put_begins =
        begin_steps setup works c p (work.Bput c b value) (call_new One (Put b value)) h left few next idle (λ s n. refl) refl
        ∙ ap (λ d. stepped (client_at setup works c p) (serves_on d))
        (runs_waits (serving_at setup works c mid) (Put b value) refl (serving_at setup works c (record put_asks { call = None }))
        (Send (Manager (manager_of_slot setup works (slot_of b.ino.0))) (want_body c p b Own) ∷ []) asks_makes)
