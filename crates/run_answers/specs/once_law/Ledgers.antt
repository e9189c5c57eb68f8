-- What a node answers in one event, as a ledger of its items: it answers only what is open or begins then, and what it answers is open no more.
use Rattle.std.specs.Prelude.{◌≡◌, ◌≤◌, ◌⊎◌, ℕ, List, [], ◌∷◌, Some}
use Rattle.core_world.specs.AnyNode.{any_step}
use Rattle.core_world.specs.declared.any_node.AnyNode.{AnyNode}
use Rattle.node_base.specs.Beginning.{next_item}
use Rattle.node_base.specs.declared.items.Items.{Items}
use Rattle.version_model.specs.declared.act.Act.{Act}
use Rattle.version_model.specs.declared.act.Act.TheVariants as act
use Rattle.wire_msg.specs.declared.packet.Do.{Do}
use Rattle.wire_msg.specs.declared.packet.Do.TheVariants.{Begin}
use Rattle.xfs_base.specs.declared.node.NodeId.{NodeId}
use Rattle.headline.specs.Items.{IsOpen, items_in, name_in}

-- ---- readers

-- it has begun
abbrev pub OpenHasBegun : Items → Type 0
OpenHasBegun items = (item : ℕ) → IsOpen items item → item ≤ items.begun

-- ---- one event

-- the event begins this item: it is the next one, and counts among those that have begun from then on
abbrev pub IsBegun : Items → Do → Items → ℕ → Type 0
IsBegun before what after item = (what ≡ Begin) × ((next_item before ≡ Some item) × (after.begun ≡ item))

-- what the event may answer: the item that was open before, or the one that it begins
abbrev pub MayBeAnswered : Items → Do → Items → ℕ → Type 0
MayBeAnswered before what after item = IsOpen before item ⊎ IsBegun before what after item

-- these items but for one
abbrev pub Without : (ℕ → Type 0) → ℕ → ℕ → Type 0
Without these one item = these item × (item ≡ one → ⊥)

-- by these acts of a node, of these items those are left open: each item that is answered is its own and one of these, and it is none of them any more
abbrev pub Closes : NodeId → (ℕ → Type 0) → List Act → (ℕ → Type 0) → Type 0
Closes me these [] left = (item : ℕ) → left item → these item
Closes me these (act.Answered node item a ∷ acts) left = (node ≡ me) × (these item × Closes me (Without these item) acts left)
Closes me these (_ ∷ acts) left = Closes me these acts left

-- what an event makes of the items of a node
pub record KeepsLedger (me : NodeId) (before : Items) (what : Do) (acts : List Act) (after : Items) : Type 0 where
  -- what they ask for stays
  pub works : after.works ≡ before.works
  -- the same have begun, or by a Begin the next one more
  pub begun : (after.begun ≡ before.begun) ⊎ ((what ≡ Begin) × (next_item before ≡ Some after.begun))
  -- only what was open or begins is answered, and it is open no more
  pub closes : Closes me (MayBeAnswered before what after) acts (IsOpen after)

-- So it is in each event of a node of any kind whose open item has begun, and its name stays.
pub record EventKeepsLedger (node : AnyNode) (what : Do) : Type 0 where
  pub name : name_in (any_step node what).node ≡ name_in node
  pub ledger : KeepsLedger (name_in node) (items_in node) what (any_step node what).acts (items_in (any_step node what).node)

abbrev pub EachEventKeepsLedger : Type 0
EachEventKeepsLedger = (node : AnyNode) (what : Do) → OpenHasBegun (items_in node) → EventKeepsLedger node what
