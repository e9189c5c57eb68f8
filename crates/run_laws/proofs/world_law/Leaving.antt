-- No slot of the small world leaves it: at an epoch at which there is a manager there is one from then on. And what it has stays, where nobody manages it.
use Rattle.std.proofs.Common.{◌≡◌, ◌⊎◌, ℕ, Bool, List, Some, None}
use Rattle.core_world.specs.declared.any_node.AnyNode.{AnyNode}
use Rattle.headline.specs.Managers.{active_of}
use Rattle.headline.specs.Moments.{node_in}
use Rattle.token_law.specs.Net.{Net, Happens, Runs}
use Rattle.token_law.specs.Net.Happens.{Acts, Elsewhere, Reports, GetsCopy, GetsOwn, Declines, GetsRecall, GetsForward, GetsSupply, Fetches, Reads, Syncs, Seals, Files, GetsDeltas, GetsWant, GetsGave, Ticks, Crashes, Returns, SealsCopies, FilesCopies, Reopens, Activates, Says}
use Rattle.token_law.specs.Net.Runs.{Begun, On}
use Rattle.token_manager.specs.SlotState.{SlotState}
use Rattle.token_protocol.proofs.Refining.{put_each}
use Rattle.token_protocol.specs.Basics.{put}
use Rattle.world_base.specs.Cluster.{place_of}
use Rattle.world_base.specs.declared.cluster.Cluster.{Cluster}
use Rattle.xfs_base.specs.declared.node.NodeId.TheVariants.{Manager}

-- where there is no manager at an epoch there was none
abbrev pub NoneLeaves : Net → Net → Type 0
NoneLeaves n m = (e : ℕ) → m.slots e ≡ None → n.slots e ≡ None

-- one of these nodes manages the slot at this epoch
pub record ManagedIn (k : Cluster) (part : ℕ) (nodes : List AnyNode) (e : ℕ) : Type 0 where
  pub manager : ℕ
  pub state : SlotState
  pub manages : active_of part (node_in nodes (place_of k (Manager manager))) ≡ Some state
  pub epoch : state.epoch ≡ e

-- where a slot has changed, one of these nodes manages it now
abbrev pub SlotsGo : Cluster → ℕ → List AnyNode → Net → Net → Type 0
SlotsGo k part nodes n m = (e : ℕ) → (m.slots e ≡ n.slots e) ⊎ ManagedIn k part nodes e

put_leaves : (n : Net) (e : ℕ) (s : SlotState) (d : ℕ) → put n.slots e (Some s) d ≡ None → n.slots d ≡ None
put_leaves n e s =
    put_each (λ d o. o ≡ None → n.slots d ≡ None) n.slots e (Some s) (λ fact. let clash : Some s ≡ None = fact in absurd (cc)) (λ d other none. none)

module _ (logs : Bool) (members part : ℕ) where
  happens_stay : (n m : Net) → Happens logs members part n m → NoneLeaves n m
  happens_stay n m (Acts c end i serves own) = λ d none. none
  happens_stay n m (Elsewhere c end i serves other) = λ d none. none
  happens_stay n m (Reports c end serves) = λ d none. none
  happens_stay n m (GetsCopy c end block stamp inc req entry serves fact) = λ d none. none
  happens_stay n m (GetsOwn c end block stamp inc req entry value serves fact accepts room) = λ d none. none
  happens_stay n m (Declines c end block stamp inc req entry serves fact accepts) = λ d none. none
  happens_stay n m (GetsRecall c end block stamp keep serves fact) = λ d none. none
  happens_stay n m (GetsForward c other block stamp inc req ver value pos less fact up serves held) = λ d none. none
  happens_stay n m (GetsSupply c end block stamp inc req ver value serves fact) = λ d none. none
  happens_stay n m (Fetches c end block value serves there) = λ d none. none
  happens_stay n m (Reads c block value pos less up holds held) = λ d none. none
  happens_stay n m (Syncs c pos less up clean) = λ d none. none
  happens_stay n m (Seals c rows pos less up idle newest) = λ d none. none
  happens_stay n m (Files c pos less up flies) = λ d none. none
  happens_stay n m (GetsDeltas e s log first upto rows at known some covers) = put_leaves n e _
  happens_stay n m (GetsWant e s c inc req again block mode end at fact) = put_leaves n e _
  happens_stay n m (GetsGave e s c block stamp end at fact) = put_leaves n e _
  happens_stay n m (Ticks e s at) = put_leaves n e _
  happens_stay n m (Crashes c flight falls pos less up once so) = λ d none. none
  happens_stay n m (Returns c inc epochs chain count pos less up later rises flies) = λ d none. none
  happens_stay n m (SealsCopies l rows above idle copies) = λ d none. none
  happens_stay n m (FilesCopies l above flies) = λ d none. none
  happens_stay n m (Reopens l adopted count above flies) = λ d none. none
  happens_stay n m (Activates e index applied rows ends order none all each sent gathered) = put_leaves n e _
  happens_stay n m (Says a neutral) = λ d none. none

  pub none_leaves : (n m : Net) → Runs logs members part n m → NoneLeaves n m
  none_leaves n m Begun = λ e none. none
  none_leaves n m (On {m = o} runs last) = λ e none. none_leaves n o runs e (happens_stay o m last e none)
