-- Time passes at nodes of a scene: what it sends, and when a node has nothing to say again.
use Rattle.std.specs.Prelude.{◌≡◌, ◌<◌, ◌≤◌, ℕ, true, false, List, [], ◌∷◌, map, Some, None}
use Rattle.std.specs.List.{AllByRecursion, list_any}
use Rattle.std.specs.Map.{values_of}
use Rattle.client_call.specs.Calls.{call_new}
use Rattle.client_call.specs.declared.call.Plan.TheVariants.{One}
use Rattle.core_world.specs.AnyNode.{any_step}
use Rattle.core_world.specs.declared.any_node.AnyNode.{AnyNode}
use Rattle.delta_feed.specs.Transition.{feed_push}
use Rattle.file_plan.specs.declared.block_call.BlockCall.TheVariants.{Get}
use Rattle.node_base.specs.Nodes.{others, peers_of}
use Rattle.quiet_flow.specs.Flow.{Stage, ticks}
use Rattle.registry.specs.Board.{board_start as first_board}
use Rattle.registry_node.specs.Events.{news_of}
use Rattle.token_client.proofs.Tables.{InOrder}
use Rattle.token_client.specs.declared.held.Held.{Held}
use Rattle.token_client.specs.declared.held.Wanted.{Wanted}
use Rattle.token_client.specs.Held.{asked_again}
use Rattle.token_client.specs.State.{held_of, put_held}
use Rattle.token_client.specs.Transition.{is_spent, wanted_blocks}
use Rattle.version_model.specs.declared.work.Work.{Work}
use Rattle.wire_msg.specs.declared.body.Body.TheVariants as body
use Rattle.wire_msg.specs.declared.packet.Packet.{Packet}
use Rattle.wire_msg.specs.declared.registry.News.{News}
use Rattle.xfs_base.specs.Blocks.{slot_of}
use Rattle.xfs_base.specs.declared.block.BlockId.{BlockId}
use Rattle.xfs_base.specs.declared.node.NodeId.{NodeId}
use Rattle.xfs_base.specs.declared.node.NodeId.TheVariants.{Client, Manager, Registry}
use Rattle.xfs_base.specs.declared.setup.Setup.{Setup}
use Rattle.xfs_base.specs.declared.token.Mode.TheVariants.{Copy}
use Rattle.xfs_base.specs.Modes.{is_nothing}
use Rattle.xfs_base.specs.Steps.{steps}
use Rattle.quiet_nodes.proofs.Begins.{HasRoom}
use Rattle.quiet_nodes.proofs.Rooms.{HaveTurns}
use Rattle.quiet_nodes.proofs.Wanting.{feed_at}
use Rattle.quiet_nodes.specs.Moves.{IsAfter, IsPlaced}
use Rattle.quiet_nodes.specs.Scene.{ClientPart, Scene, manager_of_slot}

module _ (setup : Setup) (works : NodeId → List Work) where
  -- what each client knows of blocks stands in the order of blocks
  abbrev pub AreInOrder : Scene → Type 0
  AreInOrder s = (e : ℕ) → 1 ≤ e → e ≤ setup.clients → InOrder (s.client e).blocks

  -- ---- time passes

  pub record Passed (t : Stage AnyNode) (names : List NodeId) (outs : List Packet) (u : Scene) : Type 0 where
    pub end : Stage AnyNode
    pub is : steps (ticks any_step setup) t names ≡ record { state = end; outs = outs }
    pub is_after : IsAfter setup works t [] u end

  -- Time passes at these nodes of a scene, in order: that sends these packets, nothing is acted, and the nodes are those of the next scene then.
  abbrev pub Passes : Scene → List NodeId → List Packet → Scene → Type 0
  Passes s names outs u = (t : Stage AnyNode) → IsPlaced setup works s t.node → Passed t names outs u

  -- ---- clients

  -- a client that has nothing to say again
  pub record IsSilent (e : ℕ) (p : ClientPart) : Type 0 where
    pub call : p.call ≡ None
    pub flight : p.flight ≡ None
    pub wants : AllByRecursion (λ (x : BlockId × Held). x.1.want ≡ None) p.blocks
    pub told : (i : ℕ) → i < 8 → feed_push (feed_at p) i ≡ []
    pub room : HasRoom setup works e p

  -- a want of a copy that was sent once
  abbrev pub first_want : ℕ → Wanted
  first_want req = record { req = req; again = 0; mode = Copy }

  -- a client whose get of a block waits for an answer to its want, which it has sent once
  pub record IsAsking (c : ℕ) (p : ClientPart) (b : BlockId) (req : ℕ) : Type 0 where
    pub call : p.call ≡ Some (call_new One (Get b))
    pub flight : p.flight ≡ None
    pub nothing : is_nothing (held_of p.blocks b).mode ≡ true
    pub want : (held_of p.blocks b).want ≡ Some (first_want req)
    pub alone : wanted_blocks p.blocks ≡ b ∷ []
    pub unspent : list_any (λ (h : Held). is_spent h.want) (values_of p.blocks) ≡ false
    pub told : (i : ℕ) → i < 8 → feed_push (feed_at p) i ≡ []
    pub room : HasRoom setup works c p

  -- it has sent the want once more
  abbrev pub asked_more : ClientPart → BlockId → ℕ → ClientPart
  asked_more p b req = record p { blocks = put_held p.blocks b (asked_again (held_of p.blocks b) (first_want req)) }

  -- of all nodes one client alone has something to say again, a want
  pub record AsksAlone (s : Scene) (c : ℕ) (p : ClientPart) (b : BlockId) (req : ℕ) : Type 0 where
    pub client : (1 ≤ c) × (c ≤ setup.clients)
    pub part : s.client c ≡ p
    pub asks : IsAsking c p b req
    pub silent : (e : ℕ) → (e ≡ c → ⊥) → 1 ≤ e → e ≤ setup.clients → IsSilent e (s.client e)
    pub jobs : (i : ℕ) → i < 8 → (s.slot i).jobs ≡ []
    pub turns : HaveTurns s.slot

  -- ---- what is sent in a round

  abbrev pub want_again : ClientPart → ℕ → BlockId → ℕ → Packet
  want_again p c b req = record {
    from = Client c;
    to = Manager (manager_of_slot setup works (slot_of b.ino.0));
    clock = 0;
    body = body.Want (record { block = b; inc = 1; req = req; again = 1; mode = Copy; end = p.end.seq });
  }

  -- the maps of the setup, to a node
  abbrev pub first_news : News
  first_news = news_of (first_board setup)

  abbrev pub news_to : NodeId → Packet
  news_to name = record { from = Registry; to = name; clock = 0; body = body.MapNews first_news }

  -- to each node but the registry
  abbrev pub all_news : List Packet
  all_news = map news_to (others (peers_of setup) Registry)
