-- With which packets a client whose get waits comes to read a copy: it is supplied by another client, or granted a copy of a block that lies in no log.
use Rattle.wire_msg.specs.declared.body.Body.TheVariants as body
use Rattle.version_model.specs.declared.act.Act.TheVariants as acts
use Rattle.xfs_base.specs.declared.token.Mode.TheVariants.{Copy}
use Rattle.token_client.specs.Transition.{accepts}
use Rattle.file_plan.specs.declared.block_call.BlockCall.TheVariants.{Get}
use Rattle.quiet_reads.proofs.CopyReads as reading
use Rattle.quiet_reads.proofs.CopyGranted as granted
use Rattle.std.proofs.Common.{Option, List, None, Some, [], arith, refl, subst, true, ℕ, ◌++◌, ◌+◌, ◌∷◌, ◌≡◌, ◌≤◌}
use Rattle.client_call.specs.Blocks.{value_of}
use Rattle.client_call.specs.Calls.{call_new}
use Rattle.client_call.specs.declared.call.Plan.TheVariants.{One}
use Rattle.node_base.specs.Nodes.{has_node, peers_of}
use Rattle.quiet_gets.proofs.Supplying.{supplied_copy, supply_acts, supply_moves, supply_read}
use Rattle.quiet_gets.specs.Forwards.{supply_from}
use Rattle.quiet_gets.proofs.CopyDrained.{IsCopy}
use Rattle.quiet_law.proofs.Waiting.{other_held}
use Rattle.quiet_nodes.proofs.Begins.{HasRoom}
use Rattle.quiet_nodes.proofs.Moving.{empties_layer, empties_none, moves_none}
use Rattle.quiet_nodes.proofs.Turns.{client_takes}
use Rattle.quiet_nodes.specs.Moves.{Empties}
use Rattle.quiet_nodes.specs.Scene.{ClientPart, Scene, tokens_at, with_client}
use Rattle.quiet_reads.proofs.Evicting.{OrGone, each_or_gone, some_room}
use Rattle.token_client.specs.State.{held_of}
use Rattle.token_client.specs.declared.held.Held.{Held}
use Rattle.version_model.specs.declared.act.Act.{Act}
use Rattle.version_model.specs.declared.answer.Answer.TheVariants.{Got}
use Rattle.version_model.specs.declared.work.Work.{Work}
use Rattle.wire_msg.specs.declared.body.Body.{Body}
use Rattle.wire_msg.specs.declared.packet.Packet.{Packet}
use Rattle.xfs_base.specs.declared.block.BlockId.{BlockId}
use Rattle.xfs_base.specs.declared.entry.Entry.{Entry}
use Rattle.xfs_base.specs.declared.node.NodeId.TheVariants.{Client, Manager}
use Rattle.xfs_base.specs.declared.node.NodeId.{NodeId}
use Rattle.xfs_base.specs.declared.setup.Setup.{Setup}
use Rattle.xfs_base.specs.declared.token.Stamp.{Stamp}

module _ (setup : Setup) (works : NodeId → List Work) (base : Scene) (c : ℕ) (p : ClientPart) (b : BlockId) (item ver : ℕ) (stamp : Stamp) where
  -- With so many deliveries at most the get is answered with a copy of this version, under this stamp, and nothing but the client has changed: what its cache had no
  -- place for is let go.
  pub record ReadsCopy (packet : Packet) (most : ℕ) : Type 0 where
    pub deliveries : ℕ
    pub few : deliveries ≤ most
    pub asked : ℕ
    pub asks_few : asked ≤ p.asked + 1
    pub blocks : List (BlockId × Held)
    pub cached : List BlockId
    pub copy : Held
    pub value : Option (List ℕ)
    pub reads : Empties setup works deliveries (with_client base c p) (packet ∷ [])
        (acts.Read c b ver value ∷ acts.Answered (Client c) item (Got ver value) ∷ [])
        (with_client base c (record p { asked = asked; item = None; blocks = blocks; cached = cached; call = None }))
    pub last_is : held_of blocks b ≡ copy
    pub others_as : (x : BlockId) → (x ≡ b → ⊥) → OrGone (held_of p.blocks x) (held_of blocks x)
    pub is_copy : IsCopy copy ver stamp

  module _ (its_call : p.call ≡ Some (call_new One (Get b))) (its_item : p.item ≡ Some item) (ungiven : (held_of p.blocks b).giving ≡ None) (req : ℕ)
      (accepted : accepts (tokens_at setup works p) b stamp 1 req Copy ≡ true) (h : HasRoom setup works c p) (its : has_node (peers_of setup) (Client c) ≡ true) where
    -- what has changed once it has the copy
    module _ (copy : Held) where
      abbrev last_blocks : List (BlockId × Held)
      last_blocks = (reading.known setup works c p b item copy).blocks

      last_held : held_of last_blocks b ≡ copy
      last_held = reading.known_itself setup works c p b item copy

      others_or_gone : (x : BlockId) → (x ≡ b → ⊥) → OrGone (held_of p.blocks x) (held_of last_blocks x)
      others_or_gone x differs =
          subst (λ g. OrGone g (held_of last_blocks x)) (other_held b copy p.blocks x differs)
          (each_or_gone _ (some_room setup.cache) (record { blocks = reading.copy_blocks setup works c p b item copy; cached = p.cached }) b x)

    -- ---- supplied

    module _ (d : ℕ) (value : Option (List ℕ)) (there : has_node (peers_of setup) (Client d) ≡ true) where
      abbrev supplied : Held
      supplied = supplied_copy setup works c p b item its_call its_item stamp req ver value

      supplied_is : IsCopy supplied ver stamp
      supplied_is = record { mode = refl; version = refl; settled = refl; its_stamp = refl; want = refl; fetch = refl; giving = ungiven }

      abbrev supplied_scene : Scene
      supplied_scene = with_client base c (supply_read setup works c p b item its_call its_item stamp req ver value)

      abbrev supplied_acts : List Act
      supplied_acts = supply_acts setup works c p b item its_call its_item stamp req ver value

      pub supply_reads : ReadsCopy (supply_from setup works d b stamp c req ver value) 1
      supply_reads = record {
        deliveries = 1;
        few = omega arith;
        asked = p.asked;
        asks_few = omega arith;
        blocks = last_blocks supplied;
        cached = (supply_read setup works c p b item its_call its_item stamp req ver value).cached;
        copy = supplied;
        value = value_of supplied;
        reads =
            empties_layer setup works 0 (with_client base c p) supplied_scene supplied_scene (supply_from setup works d b stamp c req ver value ∷ []) []
            (supplied_acts ++ []) [] (supply_moves setup works c p b item its_call its_item stamp req ver value accepted d h there base its)
            (empties_none setup works supplied_scene);
        last_is = last_held supplied;
        others_as = others_or_gone supplied;
        is_copy = supplied_is;
      }

    -- ---- granted, where the block lies in no log

    module _ (j hop : ℕ) (there : has_node (peers_of setup) (Manager j) ≡ true) where
      abbrev bare : Held
      bare = granted.copy setup works c p b item its_call its_item stamp req ver hop

      abbrev bare_entry : Entry
      bare_entry = record { ver = ver; hop = hop; place = None }

      abbrev bare_body : Body
      bare_body = body.Grant (record { block = b; stamp = stamp; inc = 1; req = req; mode = Copy; entry = bare_entry })

      bare_is : IsCopy bare ver stamp
      bare_is = record { mode = refl; version = refl; settled = refl; its_stamp = refl; want = refl; fetch = refl; giving = ungiven }

      abbrev q : ClientPart
      q = granted.copy_read setup works c p b item its_call its_item stamp req ver hop

      abbrev done : List Act
      done = acts.Read c b ver (value_of bare) ∷ acts.Answered (Client c) item (Got ver (value_of bare)) ∷ []

      pub grant_reads : ReadsCopy (record { from = Manager j; to = Client c; clock = 0; body = bare_body }) 1
      grant_reads = record {
        deliveries = 1;
        few = omega arith;
        asked = p.asked;
        asks_few = omega arith;
        blocks = last_blocks bare;
        cached = q.cached;
        copy = bare;
        value = value_of bare;
        reads =
            empties_layer setup works 0 (with_client base c p) (with_client base c q) (with_client base c q)
            (record { from = Manager j; to = Client c; clock = 0; body = bare_body } ∷ []) [] (done ++ []) []
            (client_takes setup works base c p q (with_client base c q) (Manager j) bare_body [] [] [] done [] its
            (granted.copy_comes setup works c p b item its_call its_item stamp req ver hop accepted j 0 h there) (moves_none setup works (with_client base c q)))
            (empties_none setup works (with_client base c q));
        last_is = last_held bare;
        others_as = others_or_gone bare;
        is_copy = bare_is;
      }
