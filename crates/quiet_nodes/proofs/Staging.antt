-- The nodes of a stage are those of a scene: what one event makes of both.
use Rattle.std.proofs.Common.{◌≡◌, ℕ, ◌==◌, true, false, cond, List, [], ◌∷◌, map, refl, sym, ap, ◌∙◌, arith}
use Rattle.core_world.specs.AnyNode.{any_step}
use Rattle.core_world.specs.declared.any_node.AnyNode.{AnyNode}
use Rattle.core_world.specs.declared.any_node.AnyNode.TheVariants as any
use Rattle.std.proofs.lemmas.Bool.Decides.{nat_tests}
use Rattle.quiet_flow.proofs.Places.{not_same}
use Rattle.xfs_base.proofs.NodeOrder.{same_node_is}
use Rattle.quiet_flow.specs.Flow.{Stage, happens, stepped, turned}
use Rattle.version_model.specs.declared.act.Act.{Act}
use Rattle.version_model.specs.declared.work.Work.{Work}
use Rattle.wire_msg.specs.declared.packet.Do.{Do}
use Rattle.wire_msg.specs.declared.packet.Packet.{Packet}
use Rattle.world_base.specs.Cluster.{HasNode}
use Rattle.xfs_base.specs.declared.fragment.Fragment.{Fragment}
use Rattle.xfs_base.specs.declared.node.NodeId.{NodeId}
use Rattle.xfs_base.specs.declared.node.NodeId.TheVariants.{Client, Manager, Server, Cleaner, Registry}
use Rattle.xfs_base.specs.declared.setup.Setup.{Setup}
use Rattle.xfs_base.specs.Nodes.{same_node}
use Rattle.manager_node.specs.declared.manager.Manager.{Manager as ManagerNode}
use Rattle.manager_node.specs.declared.phase.Phase.TheVariants as managing
use Rattle.manager_slots.specs.declared.slot_phase.SlotPhase.{SlotPhase}
use Rattle.manager_slots.specs.declared.slot_phase.SlotPhase.TheVariants as phase
use Rattle.manager_slots.specs.Slots.{managed}
use Rattle.token_manager.specs.SlotState.{SlotState}
use Rattle.xfs_base.specs.Limits.{all_slots}
use Rattle.quiet_nodes.specs.Moves.{IsFrame, IsPlaced}
use Rattle.quiet_nodes.specs.Scene.{managing_at, ClientPart, Scene, client_at, manager_at, manager_of_slot, node_at, phase_at, put_number, server_at, with_client, with_held, with_slot}

module _ (setup : Setup) (works : NodeId → List Work) where
  -- the node of the event is as the next scene has it, and the others are as they were
  pub placed_on : (name : NodeId) (s t : Scene) (stage : Stage AnyNode) (packets : List Packet) (acts : List Act) → IsPlaced setup works s stage.node → IsFrame setup works name s t
      → IsPlaced setup works t (turned stage name (record { node = node_at setup works t name; packets = packets; acts = acts })).node
  placed_on name s t stage packets acts placed frame other has =
      elim (same_node other name) as (λ b. same_node other name ≡ b → cond b (node_at setup works t name) (stage.node other) ≡ node_at setup works t other) [
        | true ↦ λ same. ap (λ n. node_at setup works t n) (sym (same_node_is other name same))
        | false ↦ λ differs. placed other has ∙ frame other (not_same other name differs)
      ] refl

  -- what happens to a node of a stage, where it is known of the scene's
  pub happens_as : (name : NodeId) (what : Do) (s t : Scene) (stage : Stage AnyNode) (packets : List Packet) (acts : List Act) → HasNode setup name
      → IsPlaced setup works s stage.node
      → any_step (node_at setup works s name) what ≡ record { node = node_at setup works t name; packets = packets; acts = acts }
      → happens any_step stage name what ≡ stepped stage name (record { node = node_at setup works t name; packets = packets; acts = acts })
  unfolding happens
  happens_as name what s t stage packets acts has placed is =
      ap (λ x. stepped stage name (any_step x what)) (placed name has) ∙ ap (stepped stage name) is

  -- ---- frames

  pub same_itself : (n : ℕ) → (n == n) ≡ true
  same_itself n = grind (arith, nat_tests)

  other_number : (n m : ℕ) → (m ≡ n → ⊥) → (m == n) ≡ false
  other_number n m differs =
      elim (m == n) as (λ b. (m == n) ≡ b → b ≡ false) [
        | true ↦ λ same. absurd (differs (equal m n same))
        | false ↦ λ h. refl
      ] refl
    where
      equal : (a c : ℕ) → (a == c) ≡ true → a ≡ c
      equal a c h = grind (arith, nat_tests)

  pub client_frame : (c : ℕ) (p : ClientPart) (s : Scene) → IsFrame setup works (Client c) s (with_client s c p)
  client_frame c p s (Client d) differs =
      ap (λ part. any.Client (client_at setup works d part))
      (sym (ap (λ t. cond t p (s.client d)) (other_number c d (λ same. differs (ap Client same)))))
  client_frame c p s (Manager j) differs = refl
  client_frame c p s (Server v) differs = refl
  client_frame c p s Cleaner differs = refl
  client_frame c p s Registry differs = refl

  pub client_put : (c : ℕ) (p : ClientPart) (s : Scene) → node_at setup works (with_client s c p) (Client c) ≡ any.Client (client_at setup works c p)
  client_put c p s = ap (λ t. any.Client (client_at setup works c (cond t p (s.client c)))) (same_itself c)

  map_same : {X : Type 0} (f g : ℕ → X) → ((m : ℕ) → f m ≡ g m) → (xs : List ℕ) → map f xs ≡ map g xs
  map_same f g same [] = refl
  map_same f g same (x ∷ xs) = ap (λ y. y ∷ map f xs) (same x) ∙ ap (λ ys. g x ∷ ys) (map_same f g same xs)

  equal_number : (a c : ℕ) → (a == c) ≡ true → a ≡ c
  equal_number a c h = grind (arith, nat_tests)

  -- a slot of another manager has changed
  phase_stays : (slots : ℕ → SlotState) (i j : ℕ) (z : SlotState) → (manager_of_slot setup works i == j) ≡ false → (m : ℕ)
      → phase_at setup works (put_number slots i z) j m ≡ phase_at setup works slots j m
  phase_stays slots i j z other m =
      elim (m == i) as (λ b. (m == i) ≡ b → cond (manager_of_slot setup works m == j) (managed (cond b z (slots m))) (phase.Away 1) ≡ phase_at setup works slots j m) [
        | true ↦ λ same.
            let no : (manager_of_slot setup works m == j) ≡ false = ap (λ n. manager_of_slot setup works n == j) (equal_number m i same) ∙ other in
            ap (λ t. cond t (managed z) (phase.Away 1)) no ∙ sym (ap (λ t. cond t (managed (slots m)) (phase.Away 1)) no)
        | false ↦ λ differs. refl
      ] refl

  pub slot_frame : (i : ℕ) (z : SlotState) (s : Scene) → IsFrame setup works (Manager (manager_of_slot setup works i)) s (with_slot s i z)
  slot_frame i z s (Client c) differs = refl
  slot_frame i z s (Manager j) differs =
      ap (λ table. any.Manager (with_table j table))
      (map_same (phase_at setup works s.slot j) (phase_at setup works (put_number s.slot i z) j)
      (λ m. sym (phase_stays s.slot i j z (other_number j (manager_of_slot setup works i) (λ same. differs (ap Manager (sym same)))) m)) all_slots)
    where
      with_table : ℕ → List SlotPhase → ManagerNode
      with_table n table = record (manager_at setup works n s.slot) { phase = managing.Serving (record (managing_at setup works n s.slot) { slots = table }) }
  slot_frame i z s (Server v) differs = refl
  slot_frame i z s Cleaner differs = refl
  slot_frame i z s Registry differs = refl

  pub held_frame : (v : ℕ) (held : List Fragment) (s : Scene) → IsFrame setup works (Server v) s (with_held s v held)
  held_frame v held s (Client c) differs = refl
  held_frame v held s (Manager j) differs = refl
  held_frame v held s (Server w) differs =
      ap (λ shelf. any.Server (server_at setup works w shelf))
      (sym (ap (λ t. cond t held (s.held w)) (other_number v w (λ same. differs (ap Server same)))))
  held_frame v held s Cleaner differs = refl
  held_frame v held s Registry differs = refl

  pub held_put : (v : ℕ) (held : List Fragment) (s : Scene) → node_at setup works (with_held s v held) (Server v) ≡ any.Server (server_at setup works v held)
  held_put v held s = ap (λ t. any.Server (server_at setup works v (cond t held (s.held v)))) (same_itself v)
