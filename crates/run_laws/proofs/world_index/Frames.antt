-- What the small world leaves as it is leaves the registry and logs seen.
use Rattle.std.proofs.Common.{◌≡◌, ◌⊎◌, ℕ, ◌≤◌, ◌<◌, List, None, inl, inr, refl, sym, ap, subst, ◌∙◌, arith}
use Rattle.client_node.specs.declared.phase.Phase.{Phase as ClientPhase}
use Rattle.client_node.specs.declared.phase.Phase.TheVariants as clients
use Rattle.client_node.specs.Phases.{lasting_of}
use Rattle.cleaner_node.specs.declared.cleaner.Phase.{Phase as CleanerPhase}
use Rattle.cleaner_node.specs.declared.cleaner.Phase.TheVariants as cleaners
use Rattle.core_world.specs.declared.any_node.AnyNode.{AnyNode}
use Rattle.index_tie.specs.Growth.{IsMore}
use Rattle.index_tie.specs.Net.{Net, Packet as Said, Runs, opening}
use Rattle.index_tie.specs.Net.Runs.{Begun}
use Rattle.headline.specs.Indexes.{of_log}
use Rattle.log_protocol.specs.Tables as tables
use Rattle.manager_slots.specs.declared.slot_phase.SlotPhase.{SlotPhase}
use Rattle.node_slots.specs.node_index_tie.ManagerEvents.{Passes}
use Rattle.node_slots.specs.node_index_tie.RegistryEvents.{RegistryAgrees}
use Rattle.node_slots.specs.node_index_tie.Sight.{held_in}
use Rattle.headline.specs.Filed.{Texts}
use Rattle.node_slots.specs.node_tie.ManagerEvents.{HeldAt}
use Rattle.node_slots.proofs.owner_index_tie.Frames.{more_itself}
use Rattle.node_slots.specs.owner_index_tie.CleanerEvents.{PhaseAgrees}
use Rattle.node_slots.specs.owner_index_tie.ClientEvents.{ClientAgrees}
use Rattle.node_slots.specs.owner_index_tie.Filing.{IsSameLog}
use Rattle.segment_format.specs.declared.segment.Segment.{Segment}
use Rattle.registry_node.specs.declared.node.RegistryNode.{RegistryNode}
use Rattle.wire_msg.specs.declared.packet.Packet.{Packet}
use Rattle.world_base.specs.declared.cluster.Cluster.{Cluster}
use Rattle.run_laws.proofs.world_index.Facts.{Grown}
use Rattle.run_laws.proofs.world_index.Horizons.{runs_stay, steady_always}
use Rattle.run_laws.specs.world_index.Standing.{Scene, Stands}
use Rattle.run_laws.proofs.world_law.OtherTurns.{equal_or_not}
use Rattle.xfs_base.specs.Limits.{u32_end}
use Rattle.xfs_base.specs.declared.segment.SegName.{SegName}
use Rattle.xfs_base.specs.declared.segment.SegRef.{SegRef}
use Rattle.xfs_base.specs.Logs.{cleaners_number}

-- the registry is seen as before, where its epoch, horizons and parts are as they were
module _ (part : ℕ) (n m : Net) (epoch : m.epoch ≡ n.epoch) (horizon : m.horizon ≡ n.horizon) (parts : m.parts ≡ n.parts) where
  horizon_now : m.horizon m.epoch ≡ n.horizon n.epoch
  horizon_now = ap m.horizon epoch ∙ ap (λ (h : ℕ → List ℕ). h n.epoch) horizon

  parts_now : m.parts m.epoch ≡ n.parts n.epoch
  parts_now = ap m.parts epoch ∙ ap (λ (h : ℕ → List SegRef). h n.epoch) parts

  pub registry_frame : (r : RegistryNode) → RegistryAgrees part n r → RegistryAgrees part m r
  registry_frame r k = record {
    epoch = k.epoch ∙ sym epoch;
    horizon = k.horizon ∙ sym horizon_now;
    parts = k.parts ∙ sym parts_now;
    eight = k.eight;
    later_horizon = λ e low. ap (λ (h : ℕ → List ℕ). h e) horizon ∙ (k.later_horizon e (subst (λ x. x ≤ e) epoch low) ∙ sym horizon_now);
    later_parts = λ e low. ap (λ (h : ℕ → List SegRef). h e) parts ∙ (k.later_parts e (subst (λ x. x ≤ e) epoch low) ∙ sym parts_now);
    horizon_fits = record {
      from_one = λ l some limit. subst (λ (h : List ℕ). 0 < of_log h l) (sym horizon_now) (k.horizon_fits.from_one l some limit);
      short = λ l. subst (λ (h : List ℕ). of_log h l ≤ u32_end) (sym horizon_now) (k.horizon_fits.short l);
    };
  }

-- ---- logs

-- a client's number, and how far its log is filed
pub client_number : (part : ℕ) (texts : Texts) (n : Net) (c : ℕ) (p : ClientPhase) → ClientAgrees part texts n c p → (lasting_of p).number ≡ c
client_number part texts n c (clients.Down l) h = h.number_is
client_number part texts n c (clients.Opening l o) h = h.0.number_is
client_number part texts n c (clients.Serving s) h = h.0.number_is

pub client_head : (part : ℕ) (texts : Texts) (n : Net) (c : ℕ) (p : ClientPhase) → ClientAgrees part texts n c p → n.filed.head c < u32_end
client_head part texts n c (clients.Down l) h = h.fits.short
client_head part texts n c (clients.Opening l o) h = h.0.fits.short
client_head part texts n c (clients.Serving s) h = h.0.feed.short

pub cleaner_head : (part : ℕ) (texts : Texts) (n : Net) (p : CleanerPhase) → PhaseAgrees part n texts p → n.filed.head cleaners_number < u32_end
cleaner_head part texts n (cleaners.Down l) h = h.fits.short
cleaner_head part texts n (cleaners.Opening l o) h = h.0.fits.short
cleaner_head part texts n (cleaners.Serving e) h = h.0.owner.feed.short

-- where one log files, no log is at its last number, if that one isn't
pub heads_stay : (n m : Net) (l : ℕ) → ((d : ℕ) → (d ≡ l → ⊥) → IsSameLog d n.filed m.filed) → m.filed.head l < u32_end
    → ((d : ℕ) → n.filed.head d < u32_end) → (d : ℕ) → m.filed.head d < u32_end
heads_stay n m l others own heads d = by (equal_or_not d l)
  where
    by : (d ≡ l) ⊎ (d ≡ l → ⊥) → m.filed.head d < u32_end
    by (inl same) = subst (λ x. m.filed.head x < u32_end) (sym same) own
    by (inr other) = subst (λ x. x < u32_end) (sym (others d other).head) (heads d)

-- ---- how the small world goes on

-- where nothing that was filed, sent or to be deleted is taken back, no epoch loses its manager, and the registry keeps what it kept
pub record Leaves (n m : Net) : Type 0 where
  pub filed : IsMore n.filed m.filed
  pub stay : (e : ℕ) → m.slots e ≡ None → n.slots e ≡ None
  pub sent : (x : Said) → tables.In x n.sent → tables.In x m.sent
  pub deleted : (name : SegName) → tables.In name n.deleted → tables.In name m.deleted
  pub epoch : m.epoch ≡ n.epoch
  pub horizon : m.horizon ≡ n.horizon
  pub parts : m.parts ≡ n.parts

module _ (part : ℕ) (texts : Texts) (first : ℕ → ℕ → Segment) (n m : Net) (before : Runs part (held_in part texts) (opening first) n)
    (runs : Runs part (held_in part texts) n m) (leaves : Leaves n m) where
  -- it may follow
  pub leaves_grown : Grown n m
  leaves_grown = record {
    filed = leaves.filed;
    stay = leaves.stay;
    sent = leaves.sent;
    deleted = leaves.deleted;
    epoch = let same = leaves.epoch in omega arith;
    from_one = (steady_always part (held_in part texts) first n before).from_one;
    rises = (runs_stay part (held_in part texts) n m runs (steady_always part (held_in part texts) first n before)).rises;
    horizon = λ e none low. ap (λ (f : ℕ → List ℕ). f e) leaves.horizon;
    parts = λ e none low. ap (λ (f : ℕ → List SegRef). f e) leaves.parts;
  }

  -- and a manager of whose slots each stays is passed
  pub leaves_pass : (p : SlotPhase) → ((e : ℕ) → HeldAt p e → m.slots e ≡ n.slots e) → Passes n m p
  leaves_pass p slots = record {
    slots = slots;
    stay = leaves.stay;
    sent = leaves.sent;
    filed = leaves.filed;
    epoch = leaves_grown.epoch;
    horizon = λ e held none. ap (λ (f : ℕ → List ℕ). f e) leaves.horizon;
    parts = λ e held none. ap (λ (f : ℕ → List SegRef). f e) leaves.parts;
  }

-- a small world is one that may follow itself
pub grown_itself : (k : Cluster) (part : ℕ) (texts : Texts) (first : ℕ → ℕ → Segment) (nodes : List AnyNode) (sent : List Packet)
    (RegistrySound : RegistryNode → Type 0) (s : Scene) → Stands k part texts first nodes sent RegistrySound s → Grown s.net s.net
grown_itself k part texts first nodes sent RegistrySound s st = leaves_grown part texts first s.net s.net st.runs Begun (record {
  filed = more_itself s.net.filed;
  stay = λ e none. none;
  sent = λ x fact. fact;
  deleted = λ name fact. fact;
  epoch = refl;
  horizon = refl;
  parts = refl;
})
