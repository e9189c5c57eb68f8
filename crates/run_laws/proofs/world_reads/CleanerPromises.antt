-- After an event the index knows of no later promise of the cleaner than tokens.
use Rattle.std.proofs.Common.{◌≡◌, ◌⊎◌, ◌≤◌, ⊎_elim, ℕ, refl, sym, ap, subst, arith}
use Rattle.std.proofs.lemmas.Option.{unwrap_or-slice_get}
use Rattle.cleaner_node.specs.CleanerEvents.{takes}
use Rattle.cleaner_node.specs.declared.cleaner.Cleaner.{Cleaner as CleanerNode}
use Rattle.cleaner_node.specs.declared.cleaner.Phase.{Phase}
use Rattle.cleaner_node.specs.declared.cleaner.Phase.TheVariants.{Down, Opening, Serving}
use Rattle.core_world.specs.declared.any_node.AnyNode.{AnyNode}
use Rattle.core_world.specs.declared.any_node.AnyNode.TheVariants as any
use Rattle.index_tie.specs.Net.{Net}
use Rattle.headline.specs.Filed.{Texts}
use Rattle.node_slots.specs.node_tie.CleanerEvents.{CleanerStands}
use Rattle.node_slots.specs.owner_index_tie.CleanerEvents.{CleanerAgrees, IsAway}
use Rattle.wire_msg.specs.declared.packet.Do.{Do}
use Rattle.run_laws.specs.world_index.Owes.{Makes}
use Rattle.xfs_base.specs.declared.node.NodeId.{NodeId}
use Rattle.xfs_base.specs.declared.node.NodeId.TheVariants.{Client, Manager, Cleaner, Registry}

module _ (part : ℕ) (texts : Texts) (n m : Net) where
  -- no event but one after which the cleaner serves makes the index know of another promise
  pub promised_rests : (name : NodeId) (node : AnyNode) (what : Do) → Makes part texts n m name node what
      → ((cleaner : CleanerNode) → node ≡ any.Cleaner cleaner → IsAway (takes cleaner.peers cleaner.phase what).state) → m.promised ≡ n.promised
  promised_rests (Client c) (any.Client node) what makes away = ap (λ (x : Net). x.promised) makes
  promised_rests (Manager j) (any.Manager node) what makes away = ap (λ (x : Net). x.promised) makes.rest
  promised_rests Cleaner (any.Cleaner node) what makes away = makes.away (away node refl)
  promised_rests Registry (any.Registry node) what makes away = makes.promised
  promised_rests _ _ what makes away = ap (λ (x : Net). x.promised) makes

  module _ (limit tokens later : ℕ) (p : Phase) (agrees : CleanerAgrees part m texts p) (stands : CleanerStands part later limit p) where
    by_phase : (IsAway p → m.promised ≡ n.promised) → n.promised ≤ tokens → tokens ≤ later → m.promised ≤ later
    by_phase rests low rises = by p refl
      where
        by : (q : Phase) → p ≡ q → m.promised ≤ later
        by (Serving v) fact =
            let index_is = (subst (CleanerAgrees part m texts) fact agrees).phase.0.promised in
            let token_is = (subst (CleanerStands part later limit) fact stands).promises in
            let same = unwrap_or-slice_get v.promised.epochs part 0 in
            omega arith
        by (Down l) fact = (let same = rests (subst IsAway (sym fact) tt) in omega arith)
        by (Opening l o) fact = (let same = rests (subst IsAway (sym fact) tt) in omega arith)

    -- While the cleaner serves both know what it has promised; where it doesn't the index knows of it as before, and tokens of no earlier one.
    pub promised_then : (name : NodeId) (what : Do) (found : AnyNode → Type 0)
        → (m ≡ n) ⊎ ((node : AnyNode) × found node × Makes part texts n m name node what)
        → ((cleaner : CleanerNode) → found (any.Cleaner cleaner) → (takes cleaner.peers cleaner.phase what).state ≡ p)
        → n.promised ≤ tokens → tokens ≤ later → m.promised ≤ later
    promised_then name what found makes after low rises = by_phase rests low rises
      where
        rests : IsAway p → m.promised ≡ n.promised
        rests away =
            ⊎_elim (λ same. ap (λ (x : Net). x.promised) same)
            (λ some. promised_rests name some.0 what some.2
            (λ cleaner fact. subst IsAway (sym (after cleaner (subst found fact some.1))) away))
            makes
