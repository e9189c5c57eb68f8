-- The registry answers who asks for the maps, and who tells it of a checkpoint, in that event.
use Rattle.std.proofs.Common.{◌≡◌, ◌≤◌, ℕ, ◌==◌, ◌-◌, nat_lt, Bool, true, false, cond, List, [], ◌∷◌, ◌++◌, map, inl, inr, refl, sym, ap, ◌∙◌, arith}
use Rattle.std.proofs.lemmas.Bool.{eqb-true, leb-true, ltb-true}
use Rattle.core_world.specs.AnyNode.{any_step, as_any}
use Rattle.core_world.specs.declared.any_node.AnyNode.{AnyNode}
use Rattle.core_world.specs.declared.any_node.AnyNode.TheVariants as any
use Rattle.node_base.specs.declared.effects.Effect.{Effect}
use Rattle.node_base.specs.declared.effects.Effect.TheVariants.{Send}
use Rattle.node_base.specs.Effects.{packets_of, send_each}
use Rattle.node_base.specs.Nodes.{others}
use Rattle.node_base.specs.Room.{has_room}
use Rattle.node_base.specs.Shape.{is_well_formed}
use Rattle.registry.specs.Board as boards
use Rattle.registry.specs.Board.{Made}
use Rattle.registry.specs.BoardState.{BoardState}
use Rattle.registry.specs.Checkpoints.{covers_kept}
use Rattle.registry.specs.declared.output.Out.TheVariants.{Changed, Kept}
use Rattle.registry.specs.Slots.{entry_of}
use Rattle.registry_node.specs.declared.node.RegistryNode.{RegistryNode}
use Rattle.registry_node.specs.Events as registering
use Rattle.wire_msg.specs.declared.body.Body.{Body}
use Rattle.wire_msg.specs.declared.body.Body.TheVariants as body
use Rattle.wire_msg.specs.declared.packet.Do.TheVariants.{Deliver}
use Rattle.wire_msg.specs.declared.packet.Packet.{Packet}
use Rattle.wire_msg.specs.declared.registry.CkptDone.{CkptDone}
use Rattle.wire_msg.specs.declared.registry.Hello.{Hello}
use Rattle.wire_msg.specs.declared.registry.News.{News}
use Rattle.wire_msg.specs.NodeStep.{NodeStep}
use Rattle.xfs_base.proofs.Booleans.{and_first, by_test, contrary}
use Rattle.xfs_base.specs.declared.node.NodeId.{NodeId}
use Rattle.xfs_base.specs.declared.node.NodeId.TheVariants as nodes
use Rattle.xfs_base.specs.Limits.{counter_room, u32_end}
use Rattle.xfs_base.specs.Steps.{still}
use Rattle.headline.specs.Dues.{told_maps}
use Rattle.headline.specs.RegistryReplies.{Acknowledges, RegistryReplies, Welcomes, kept_by}

-- what is told to nodes, and then more
told_then : (news : News) (to : List NodeId) (more : List Effect)
    → packets_of nodes.Registry (send_each to (body.MapNews news) ++ more) ≡ map (told_maps news) to ++ packets_of nodes.Registry more
told_then news [] more = refl
told_then news (one ∷ to) more = ap (λ packets. told_maps news one ∷ packets) (told_then news to more)

module _ (r : RegistryNode) (asker : NodeId) where
  abbrev step_of : registering.Done → NodeStep AnyNode
  step_of d = as_any any.Registry (registering.seen d)

  -- ---- a node asks for the maps

  module _ (hello : Hello) where
    abbrev Greets : Made → Type 0
    Greets made = Welcomes r asker (step_of (registering.after_hello r asker hello made)) hello

    -- the maps stay
    same_maps : Greets (still r.board)
    same_maps = record { maps = r.board; keeps = refl; told = []; all = inl (refl, refl); packets = refl }

    -- they are others
    new_maps : (maps : BoardState) → Greets (record { state = maps; outs = Changed ∷ [] })
    new_maps maps = record {
      maps = maps;
      keeps = refl;
      told = map (told_maps (registering.news_of maps)) (others r.peers nodes.Registry);
      all = inr refl;
      packets = ap (packets_of nodes.Registry) (flat (send_each (others r.peers nodes.Registry) (body.MapNews (registering.news_of maps))) welcome)
          ∙ told_then (registering.news_of maps) (others r.peers nodes.Registry) (welcome ∷ []);
    }
      where
        welcome : Effect
        welcome = Send asker (body.Welcome (registering.welcome_of (record r { board = maps }) hello))

        flat : (xs : List Effect) (x : Effect) → (xs ++ []) ++ x ∷ [] ≡ xs ++ x ∷ []
        flat [] x = refl
        flat (y ∷ xs) x = ap (λ ys. y ∷ ys) (flat xs x)

    greets : (made : NodeId) → Greets (boards.hello r.board made hello.inc)
    unfolding boards.manager_hello boards.server_hello
    greets (nodes.Client k) = same_maps
    greets (nodes.Manager k) =
        by_test Greets (boards.hears_manager r.board k hello.inc)
        (record { state = boards.manager_restarted r.board k hello.inc; outs = Changed ∷ [] }) (still r.board)
        (λ _. new_maps (boards.manager_restarted r.board k hello.inc)) (λ _. same_maps)
    greets (nodes.Server k) =
        by_test Greets (boards.hears_server r.board k hello.inc)
        (record { state = boards.server_lost r.board k hello.inc; outs = Changed ∷ [] }) (still r.board)
        (λ _. new_maps (boards.server_lost r.board k hello.inc)) (λ _. same_maps)
    greets nodes.Cleaner = same_maps
    greets nodes.Registry = same_maps

  -- ---- a checkpoint is written

  module _ (done : CkptDone) (room : has_room r.board.version ≡ true) where
    abbrev its : ℕ
    its = (entry_of r.board.entries done.slot).epoch

    abbrev taken : Bool
    taken = boards.is_kept r.board done.slot done.epoch done.horizon

    abbrev Hears : Made → Type 0
    Hears made = Acknowledges r asker (step_of (registering.after_done r asker done made)) done

    -- the version is not at its end
    not_last : (r.board.version == u32_end) ≡ false
    not_last = by (r.board.version == u32_end) refl
      where
        by : (t : Bool) → (r.board.version == u32_end) ≡ t → t ≡ false
        by true is =
            let last : r.board.version ≡ u32_end = eqb-true r.board.version u32_end is in
            let far : r.board.version ≤ u32_end - counter_room = leb-true r.board.version (u32_end - counter_room) room in
            absurd (omega (arith, last, far))
        by false is = refl

    -- it is of the slot's epoch where it is kept
    kept_epoch : taken ≡ true → its ≡ done.epoch
    kept_epoch is = eqb-true its done.epoch (and_first (its == done.epoch) (covers_kept r.board.checkpoints done.slot done.horizon) is)

    keeps_so : taken ≡ true → Hears (record { state = boards.checkpointed r.board done.slot done.parts done.horizon; outs = Kept done.epoch ∷ [] })
    keeps_so is = record {
      keeps = sym (ap (kept_by r done) is);
      packets = ap (λ epoch. packets_of nodes.Registry (Send asker (body.CkptAck (record { slot = done.slot; epoch = epoch; ask = done.ask })) ∷ [])) (sym (kept_epoch is));
    }

    rests_so : taken ≡ false → Hears (record { state = r.board; outs = Kept its ∷ [] })
    rests_so is = record { keeps = sym (ap (kept_by r done) is); packets = refl }

    hears_so : done.slot ≤ 7 → Hears (boards.done r.board done.slot done.epoch done.parts done.horizon)
    unfolding boards.done boards.keep
    hears_so low =
        by_test Hears (nat_lt 7 done.slot) (still r.board)
        (cond taken (boards.keep r.board done.slot done.epoch done.parts done.horizon) (record { state = r.board; outs = Kept its ∷ [] })) (λ over. absurd (not_over over))
        (λ _.
        by_test Hears taken (boards.keep r.board done.slot done.epoch done.parts done.horizon) (record { state = r.board; outs = Kept its ∷ [] })
        (λ is.
        by_test Hears (r.board.version == u32_end) (still r.board)
        (record { state = boards.checkpointed r.board done.slot done.parts done.horizon; outs = Kept done.epoch ∷ [] }) (λ last. contrary (sym not_last ∙ last))
        (λ _. keeps_so is)) rests_so)
      where
        not_over : nat_lt 7 done.slot ≡ true → ⊥
        not_over over = (let above = ltb-true 7 done.slot over in absurd (omega (arith, above, low)))

  answered : has_room r.board.version ≡ true → (b : Body) → RegistryReplies r asker (step_of (registering.hears r asker b)) b
  unfolding registering.on_hello registering.on_done
  answered room (body.Hello hello) = greets hello asker
  answered room (body.CkptDone done) = λ low. hears_so done room low
  answered room _ = tt

pub registry_answers : (r : RegistryNode) (packet : Packet) → has_room r.board.version ≡ true → is_well_formed r.peers packet ≡ true
    → RegistryReplies r packet.from (any_step (any.Registry r) (Deliver packet)) packet.body
unfolding registering.on_packet
registry_answers r packet room well =
    by_test (λ (d : registering.Done). RegistryReplies r packet.from (step_of r packet.from d) packet.body) (has_room r.board.version)
    (registering.on_event r (Deliver packet)) (still r)
    (λ _.
    by_test (λ (d : registering.Done). RegistryReplies r packet.from (step_of r packet.from d) packet.body) (is_well_formed r.peers packet)
    (registering.hears r packet.from packet.body) (still r) (λ _. answered r packet.from room packet.body) (λ no. contrary (sym no ∙ well)))
    (λ no. contrary (sym no ∙ room))
