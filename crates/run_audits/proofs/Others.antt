-- Managers, servers and the registry give no segment up.
use Rattle.std.proofs.Common.{ℕ, List, [], ◌∷◌, ◌++◌, Option, Some, None, inl, inr, sym, subst}
use Rattle.std.proofs.lemmas.List.Elements.{recursion_from_All}
use Rattle.std.specs.List.{AllByRecursion}
use Rattle.core_world.specs.AnyNode.{any_step}
use Rattle.core_world.specs.declared.any_node.AnyNode.TheVariants as any
use Rattle.manager_node.specs.declared.manager.Manager.{Manager}
use Rattle.manager_node.specs.Events as manager
use Rattle.manager_node.specs.Phases as managers
use Rattle.node_base.specs.Beginning.{answers_unanswered, items_begin, items_wait}
use Rattle.node_base.specs.declared.effects.Effect.{Effect}
use Rattle.node_base.specs.declared.effects.Effect.TheVariants.{Send, Answer as Answers, Lose, Does}
use Rattle.node_base.specs.declared.items.Items.{Items}
use Rattle.node_base.specs.Effects.{acts_of}
use Rattle.node_moves.proofs.registry_moves.Keeping.{event_says}
use Rattle.node_moves.specs.registry_moves.Moves.{Said}
use Rattle.node_moves.specs.registry_moves.Moves.Said.{TellsMaps}
use Rattle.node_slots.specs.owner_index_tie.ServerEvents.{DoesNothing, ServerEventGoes}
use Rattle.registry.specs.BoardState.{BoardState}
use Rattle.registry_node.specs.declared.node.RegistryNode.{RegistryNode}
use Rattle.registry_node.specs.Events.{takes as registry_takes}
use Rattle.serving_moves.proofs.item_moves.Managers.{manager_turned}
use Rattle.serving_moves.specs.item_moves.Moves.{AllPlain, Begun, Event, IsCount, IsFiling, IsPrompt, Move, Moves}
use Rattle.serving_moves.specs.item_moves.Moves.Begun.{AtOnce, Waits}
use Rattle.serving_moves.specs.item_moves.Moves.Event.{Begins, Cuts, GoesOn, Idles}
use Rattle.serving_moves.specs.item_moves.Moves.Losses.{Telling}
use Rattle.serving_moves.specs.item_moves.Moves.Move.{Stays, Ends, Loses}
use Rattle.serving_moves.specs.item_moves.Moves.Moves.{Last, Then}
use Rattle.store_nodes.specs.declared.server.Server.{Server as ServerNode}
use Rattle.store_nodes.specs.ServerEvents.{takes as server_takes}
use Rattle.token_protocol.specs.Basics.{In}
use Rattle.version_model.specs.declared.act.Act.TheVariants as act
use Rattle.version_model.specs.declared.answer.Answer.{Answer}
use Rattle.version_model.specs.declared.answer.Answer.TheVariants as answer
use Rattle.wire_msg.specs.declared.packet.Do.{Do}
use Rattle.xfs_base.proofs.Alls.{all_append, all_weaker}
use Rattle.xfs_base.specs.declared.node.NodeId.{NodeId}
use Rattle.xfs_base.specs.declared.node.NodeId.TheVariants.{Registry, Server}
use Rattle.xfs_base.specs.declared.segment.SegName.{SegName}

-- an effect by which nothing is given up
abbrev Keeps : Effect → Type 0
Keeps (Does (act.Dropped name)) = ⊥
Keeps _ = Unit {0}

abbrev AllKeep : List Effect → Type 0
AllKeep outs = AllByRecursion Keeps outs

kept : (me : NodeId) (name : SegName) (outs : List Effect) → AllKeep outs → In (act.Dropped name) (acts_of me outs) → ⊥
kept me name [] all fact = fact
kept me name (Send to m ∷ outs) all fact = kept me name outs all.1 fact
kept me name (Answers item a ∷ outs) all (inl same) = absurd cc
kept me name (Answers item a ∷ outs) all (inr fact) = kept me name outs all.1 fact
kept me name (Lose seg ∷ outs) all (inl same) = absurd cc
kept me name (Lose seg ∷ outs) all (inr fact) = kept me name outs all.1 fact
kept me name (Does a ∷ outs) all (inl same) = subst (λ x. Keeps (Does x)) (sym same) all.0
kept me name (Does a ∷ outs) all (inr fact) = kept me name outs all.1 fact

-- ---- servers and the registry

leaves_keeps : (effect : Effect) → DoesNothing effect → Keeps effect
leaves_keeps (Does (act.Dropped name)) fact = fact
leaves_keeps _ fact = tt

pub server_keeps : ServerEventGoes → (server : ServerNode) (what : Do) (name : SegName) → In (act.Dropped name) (any_step (any.Server server) what).acts → ⊥
server_keeps goes server what name fact =
    kept (Server server.number) name (server_takes server what).outs
    (all_weaker DoesNothing Keeps leaves_keeps (server_takes server what).outs (recursion_from_All DoesNothing (server_takes server what).outs (goes server what)))
    fact

registry_says : (node : RegistryNode) (what : Do) (now : BoardState) (e : Effect) → Said node what now e → Keeps e
registry_says node what now e (TellsMaps to) = tt
registry_says node what now e _ = tt

pub registry_keeps : (node : RegistryNode) (what : Do) (name : SegName) → In (act.Dropped name) (any_step (any.Registry node) what).acts → ⊥
registry_keeps node what name fact = kept Registry name (registry_takes node what).outs (event_says node what Keeps (registry_says node what)) fact

-- ---- managers

filing_keeps : (a : _) → IsFiling a → Keeps (Does a)
filing_keeps (act.Filed seg) filing = tt
filing_keeps _ filing = absurd filing

both : (xs ys : List Effect) → AllKeep xs → AllKeep ys → AllKeep (xs ++ ys)
both xs ys a b = all_append Keeps xs ys a b

answers_keep : (item : Option ℕ) (a : Answer) → AllKeep (answers_unanswered item a)
answers_keep None a = tt
answers_keep (Some item) a = (tt, tt)

plain_keeps : (outs : List Effect) → AllPlain Telling outs → AllKeep outs
plain_keeps [] plain = tt
plain_keeps (Send to said ∷ outs) plain = (tt, plain_keeps outs plain.1)
plain_keeps (Answers item a ∷ outs) plain = absurd plain.0
plain_keeps (Lose name ∷ outs) plain = (tt, plain_keeps outs plain.1)
plain_keeps (Does a ∷ outs) plain = (filing_keeps a plain.0, plain_keeps outs plain.1)

move_keeps : (before after : Items) (outs : List Effect) → Move Telling IsCount before outs after → AllKeep outs
move_keeps before after outs (Stays stay plain) = plain_keeps outs plain
move_keeps before after outs (Ends a so) = answers_keep before.unanswered a
move_keeps before after outs (Loses name first may plain among) =
    both first (answers_unanswered before.unanswered (answer.Lost name)) (plain_keeps first plain) (answers_keep before.unanswered (answer.Lost name))

moves_keep : (before after : Items) (outs : List Effect) → Moves Telling IsCount before outs after → AllKeep outs
moves_keep before after outs (Last move) = move_keeps before after outs move
moves_keep before after outs (Then between first more move rest) = both first more (move_keeps before between first move) (moves_keep between after more rest)

begun_keeps : (before after : Items) (number : ℕ) (outs : List Effect) → Begun Telling IsCount IsPrompt before number outs after → AllKeep outs
begun_keeps before after number outs (AtOnce a first more so plain rest) =
    both first (Answers number a ∷ more) (plain_keeps first plain) (tt, plain_keeps more rest)
begun_keeps before after number outs (Waits made) = moves_keep (items_wait before number) after outs made

event_keeps : (before after : Items) (what : Do) (outs : List Effect) → Event Telling IsCount IsPrompt before what outs after → AllKeep outs
event_keeps before after what outs (GoesOn made) = moves_keep before after outs made
event_keeps before after what outs (Idles is) = tt
event_keeps before after what outs (Begins number is next made) = begun_keeps (items_begin before) after number outs made
event_keeps before after what outs (Cuts number first more is next falls plain rest) =
    both first (answers_unanswered (items_begin before).unanswered answer.Cut ++ Answers number answer.Done ∷ more) (plain_keeps first plain)
    (both (answers_unanswered (items_begin before).unanswered answer.Cut) (Answers number answer.Done ∷ more)
    (answers_keep (items_begin before).unanswered answer.Cut) (tt, plain_keeps more rest))

pub manager_keeps : (m : Manager) (what : Do) (name : SegName) → In (act.Dropped name) (any_step (any.Manager m) what).acts → ⊥
manager_keeps m what name fact =
    kept _ name (manager.happens m what).outs
    (event_keeps (managers.lasting_of m.phase).items (managers.lasting_of (manager.happens m what).state).items what (manager.happens m what).outs
    (manager_turned m what).event) fact
