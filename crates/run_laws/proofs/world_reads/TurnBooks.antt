-- What an event leaves of logs: but for the log of the node to which it happens the books have what they had, and the same is filed.
use Rattle.std.proofs.Common.{◌≡◌, ℕ, Bool, sym, ap, subst, refl}
use Rattle.core_world.specs.declared.any_node.AnyNode.{AnyNode}
use Rattle.core_world.specs.declared.any_node.AnyNode.TheVariants as any
use Rattle.headline.specs.Filed.{Filed, Texts}
use Rattle.index_tie.specs.Net as index
use Rattle.node_slots.specs.node_tie.CleanerLogs.{its_log}
use Rattle.node_slots.specs.node_tie.Sight.{SameLog}
use Rattle.node_slots.proofs.owner_index_tie.Running.{others_after}
use Rattle.node_slots.specs.owner_index_tie.Filing.{IsSameLog}
use Rattle.client_node.specs.Phases as clients
use Rattle.cleaner_node.specs.CleanerEvents as cleaners
use Rattle.token_law.specs.Books.{Books}
use Rattle.token_law.specs.Net as tokens
use Rattle.wire_msg.specs.declared.packet.Do.{Do}
use Rattle.run_laws.specs.world_index.Owes.{Makes}
use Rattle.run_laws.proofs.world_law.Owes.{BooksGo}
use Rattle.run_laws.proofs.world_reads.AfterStill.{same_filing, same_log}
use Rattle.xfs_base.specs.declared.node.NodeId.{NodeId}
use Rattle.xfs_base.specs.declared.node.NodeId.TheVariants.{Client, Manager, Server, Cleaner, Registry}
use Rattle.xfs_base.specs.Logs.{cleaners_number}

-- the log isn't that of the client of this name, or of the cleaner
abbrev pub IsOther : NodeId → ℕ → Type 0
IsOther (Client d) l = l ≡ d → ⊥
IsOther (Manager j) l = Unit {0}
IsOther (Server v) l = Unit {0}
IsOther Cleaner l = l ≡ its_log → ⊥
IsOther Registry l = Unit {0}

of_same : (k m : Books) (l : ℕ) → m ≡ k → SameLog k m l
of_same k m l same = subst (λ x. SameLog k x l) (sym same) (same_log k l)

module _ (logs adopted : Bool) (n next : tokens.Net) (what : Do) where
  pub books_left : (name : NodeId) (node : AnyNode) → BooksGo logs adopted n next name node what → (l : ℕ) → IsOther name l → SameLog n.books next.books l
  books_left (Client d) (any.Client node) go l other = go.others l other
  books_left Cleaner (any.Cleaner node) go l other = go.others l other
  books_left name node go l other = of_same n.books next.books l go

of_filed : (f h : Filed) (l : ℕ) → h ≡ f → IsSameLog l f h
of_filed f h l same = subst (IsSameLog l f) (sym same) (same_filing f l)

module _ (part : ℕ) (texts : Texts) (n next : index.Net) (what : Do) where
  of_net : (l : ℕ) → next ≡ n → IsSameLog l n.filed next.filed
  of_net l same = of_filed n.filed next.filed l (ap (λ (x : index.Net). x.filed) same)

  pub filed_left : (name : NodeId) (node : AnyNode) → Makes part texts n next name node what → (l : ℕ) → IsOther name l → IsSameLog l n.filed next.filed
  filed_left (Client d) (any.Client node) makes l other =
      subst (IsSameLog l n.filed) (sym (ap (λ (x : index.Net). x.filed) makes)) (others_after texts d l other n.filed (clients.takes node what).outs)
  filed_left Cleaner (any.Cleaner node) makes l other =
      subst (IsSameLog l n.filed) (sym makes.filed) (others_after texts cleaners_number l other n.filed (cleaners.takes node.peers node.phase what).outs)
  filed_left (Manager j) (any.Manager node) makes l other = of_filed n.filed next.filed l (ap (λ (x : index.Net). x.filed) makes.rest)
  filed_left Registry (any.Registry node) makes l other = of_filed n.filed next.filed l makes.filed
  filed_left name node makes l other = of_net l makes

  -- but for the cleaner no node makes the cleaner promise more
  pub promised_left : (name : NodeId) (node : AnyNode) → Makes part texts n next name node what → (Cleaner ≡ name → ⊥) → next.promised ≡ n.promised
  promised_left (Client d) (any.Client node) makes away = ap (λ (x : index.Net). x.promised) makes
  promised_left (Manager j) (any.Manager node) makes away = ap (λ (x : index.Net). x.promised) makes.rest
  promised_left Cleaner (any.Cleaner node) makes away = absurd (away refl)
  promised_left Registry (any.Registry node) makes away = makes.promised
  promised_left name node makes away = ap (λ (x : index.Net). x.promised) makes
