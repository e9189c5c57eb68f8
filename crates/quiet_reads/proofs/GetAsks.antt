-- A get of a block that isn't held begins: the client asks the block's manager for a copy.
use Rattle.std.proofs.Common.{◌≡◌, ℕ, ◌<◌, true, nat_lt, List, [], ◌∷◌, length, slice_get, Some, None, refl, ap, ◌∙◌}
use Rattle.client_call.specs.Calls.{call_new}
use Rattle.client_call.specs.declared.call.Plan.TheVariants.{One}
use Rattle.client_node.specs.Phases.{client_step, serves_on, stepped}
use Rattle.client_running.specs.Blocks.{blocks_get, blocks_make}
use Rattle.delta_feed.specs.Transition.{feed_push}
use Rattle.file_plan.specs.declared.block_call.BlockCall.TheVariants.{Get}
use Rattle.node_base.specs.declared.effects.Effect.TheVariants.{Send}
use Rattle.token_client.specs.Held.{must_ask}
use Rattle.token_client.specs.State.{held_of}
use Rattle.version_model.specs.declared.work.Work.{Work}
use Rattle.version_model.specs.declared.work.Work.TheVariants as work
use Rattle.wire_msg.specs.declared.packet.Do.TheVariants.{Begin}
use Rattle.xfs_base.specs.Blocks.{slot_of}
use Rattle.xfs_base.specs.declared.block.BlockId.{BlockId}
use Rattle.xfs_base.specs.declared.node.NodeId.{NodeId}
use Rattle.xfs_base.specs.declared.node.NodeId.TheVariants.{Client, Manager}
use Rattle.xfs_base.specs.declared.setup.Setup.{Setup}
use Rattle.xfs_base.specs.declared.token.Mode.TheVariants.{Copy}
use Rattle.xfs_base.specs.Limits.{u32_end}
use Rattle.xfs_base.specs.Modes.{is_nothing}
use Rattle.quiet_nodes.specs.Scene.{ClientPart, client_at, manager_of_slot, serving_at}
use Rattle.quiet_nodes.proofs.Begins.{HasRoom, begin_steps, opened}
use Rattle.quiet_nodes.proofs.Running.{runs_waits}
use Rattle.quiet_nodes.proofs.Wanting.{asking, feed_at, need_hands, want_body}

module _ (setup : Setup) (works : NodeId → List Work) (c : ℕ) (p : ClientPart) (b : BlockId) (h : HasRoom setup works c p) (left : p.begun < length (works (Client c)))
    (few : p.begun < u32_end) (next : slice_get (works (Client c)) p.begun ≡ Some (work.Bget c b)) (idle : p.item ≡ None)
    (nothing : is_nothing (held_of p.blocks b).mode ≡ true) (must : must_ask (held_of p.blocks b) Copy ≡ true) (room : nat_lt p.req u32_end ≡ true)
    (within : slot_of b.ino.0 < 8) (told : feed_push (feed_at p) (slot_of b.ino.0) ≡ []) where
  abbrev mid : ClientPart
  mid = opened setup works c p (call_new One (Get b))

  abbrev pub get_asks : ClientPart
  get_asks = asking setup works c mid b Copy

  asks_makes : blocks_make (serving_at setup works c (record mid { call = None })) (Get b) ≡ record {
    done = record {
      state = serving_at setup works c (record get_asks { call = None });
      outs = Send (Manager (manager_of_slot setup works (slot_of b.ino.0))) (want_body setup works c p b Copy) ∷ [];
    };
    answer = None;
  }
  unfolding blocks_make blocks_get
  asks_makes = rw (nothing, need_hands setup works c mid b Copy must room within told) refl

  pub get_begins : client_step (client_at setup works c p) Begin ≡ record {
    node = client_at setup works c get_asks;
    packets = record { from = Client c; to = Manager (manager_of_slot setup works (slot_of b.ino.0)); clock = 0; body = want_body setup works c p b Copy } ∷ [];
    acts = [];
  }
  get_begins =
      begin_steps setup works c p (work.Bget c b) (call_new One (Get b)) h left few next idle (λ s n. refl) refl
      ∙ ap (λ d. stepped (client_at setup works c p) (serves_on d))
      (runs_waits (serving_at setup works c mid) (Get b) refl (serving_at setup works c (record get_asks { call = None }))
      (Send (Manager (manager_of_slot setup works (slot_of b.ino.0))) (want_body setup works c p b Copy) ∷ []) asks_makes)
