-- One line of a quiet script, from one drained state to the next: how it ends, and the numbers that its deliveries are counted by.
use Rattle.std.specs.Prelude.{◌≡◌, ◌≤◌, ◌<◌, ◌+◌, ◌*◌, ◌⊎◌, ℕ, suc, false, nat_lt, List, ◌∷◌, ◌++◌, length, Option, Some, None, slice_get, if◌then◌else◌}
use Rattle.core_world.specs.AnyNode.{any_step}
use Rattle.core_world.specs.declared.any_node.AnyNode.{AnyNode}
use Rattle.delta_index.specs.Index.{entry_of}
use Rattle.group_map.specs.Groups.{group_of}
use Rattle.group_map.specs.declared.group.Group.{Group}
use Rattle.headline.specs.ItemActs.{IsOfCall}
use Rattle.log_flight.specs.Flights.{group_for}
use Rattle.play.specs.Plays.{answers}
use Rattle.slot_beliefs.specs.Beliefs.{others, share_of}
use Rattle.version_model.specs.declared.act.Act.{Act}
use Rattle.version_model.specs.declared.act.Act.TheVariants as acts
use Rattle.version_model.specs.declared.answer.Answer.{Answer}
use Rattle.version_model.specs.declared.work.Work.{Work}
use Rattle.version_model.specs.declared.work.Work.TheVariants as work
use Rattle.world_base.specs.Cluster.{HasNode}
use Rattle.xfs_base.specs.Blocks.{slot_of}
use Rattle.xfs_base.specs.declared.block.BlockId.{BlockId}
use Rattle.xfs_base.specs.declared.entry.Place.{Place}
use Rattle.xfs_base.specs.declared.node.NodeId.{NodeId}
use Rattle.xfs_base.specs.declared.node.NodeId.TheVariants.{Client}
use Rattle.xfs_base.specs.declared.setup.Setup.{Setup}
use Rattle.xfs_base.specs.Limits.{max_lines}
use Rattle.quiet_law.specs.Drained.{Drained}
use Rattle.quiet_flow.specs.Flow.{Drains, Stage, begins, rounds}
use Rattle.quiet_nodes.specs.Scene.{Scene, its_groups, node_at}

-- a work names a block
abbrev pub Names : Option Work → BlockId → Type 0
Names (Some (work.Bput c b value)) x = b ≡ x
Names (Some (work.Bget c b)) x = b ≡ x
Names other x = ⊥

module _ (setup : Setup) (works : NodeId → List Work) where
  -- the nodes of a stage are those of a scene
  pub record Stands (s : Scene) (t : Stage AnyNode) : Type 0 where
    pub placed : (name : NodeId) → HasNode setup name → t.node name ≡ node_at setup works s name
    pub settled : t.unanswered ≡ 0

  -- an item of a client is its next one
  pub record IsNext (s : Scene) (c : ℕ) (w : Work) : Type 0 where
    pub client : (1 ≤ c) × (c ≤ setup.clients)
    pub few : length (works (Client c)) ≤ max_lines
    pub next : slice_get (works (Client c)) (s.client c).begun ≡ Some w

  -- a client that is believed then to have something of a block was so before, or its item names the block
  abbrev pub IsNamed : Scene → Scene → ℕ → Type 0
  IsNamed s u c =
      (i : ℕ) → i < 8 → (x : BlockId) (e : ℕ) → 1 ≤ share_of (u.slot i).beliefs x e
      → (1 ≤ share_of (s.slot i).beliefs x e) ⊎ ((e ≡ c) × Names (slice_get (works (Client c)) (s.client c).begun) x)

  -- At this end of a line, whose nodes are those of a scene, the item is answered, and all is drained again.
  pub record IsAnswered (k : ℕ) (s : Scene) (t : Stage AnyNode) (c item : ℕ) (scene : Scene) (end : Stage AnyNode) : Type 0 where
    pub stands : Stands scene end
    pub drained : Drained setup works (suc k) scene
    -- the item is begun, and no other
    pub begun : (scene.client c).begun ≡ item
    pub others : (d : ℕ) → (d ≡ c → ⊥) → (scene.client d).begun ≡ (s.client d).begun
    -- what is acted has one answer, that of the item, as a call is answered that is done
    pub answer : Answer
    pub of_call : IsOfCall answer
    pub before : List Act
    pub after : List Act
    pub acted : end.acts ≡ t.acts ++ (before ++ acts.Answered (Client c) item answer ∷ after)
    pub none_before : answers before ≡ 0
    pub none_after : answers after ≡ 0
    pub believed : IsNamed s scene c

  -- With so many deliveries the item is answered, and all is drained again.
  pub record Ends (k most : ℕ) (s : Scene) (t : Stage AnyNode) (c item : ℕ) : Type 0 where
    pub scene : Scene
    pub end : Stage AnyNode
    pub deliveries : ℕ
    pub few : deliveries ≤ most
    pub drains : Drains any_step setup deliveries (begins any_step t (Client c)).state (begins any_step t (Client c)).outs end
    pub answered : IsAnswered k s t c item scene end

  -- With so many deliveries the packets are away and the item isn't answered; time passes at each node; and with so many more it is.
  pub record EndsAfterRound (k most more : ℕ) (s : Scene) (t : Stage AnyNode) (c item : ℕ) : Type 0 where
    pub mid : Stage AnyNode
    pub first : ℕ
    pub first_few : first ≤ most
    pub first_drains : Drains any_step setup first (begins any_step t (Client c)).state (begins any_step t (Client c)).outs mid
    pub waits : mid.unanswered ≡ 1
    pub scene : Scene
    pub end : Stage AnyNode
    pub second : ℕ
    pub second_few : second ≤ more
    pub second_drains : Drains any_step setup second (rounds any_step setup mid).state (rounds any_step setup mid).outs end
    pub answered : IsAnswered k s t c item scene end

  -- ---- the numbers that counts are made of

  -- the group of the next segment of a client, and of the segment at a place: how many members
  abbrev pub sealing : Scene → ℕ → ℕ
  sealing s c = length (group_for (its_groups setup works) c ((s.client c).end.seq + 1)).members

  abbrev pub members_of : Option Group → ℕ
  members_of None = 0
  members_of (Some group) = length group.members

  -- where 24 wait once this put has written, a segment is sealed, too
  abbrev pub tail : Scene → ℕ → ℕ
  tail s c = if nat_lt (length (s.client c).dirty) 23 then 0 else 2 * sealing s c + 16

  -- how many members the group has in which the index says that the block lies
  abbrev pub members_at : Option Place → ℕ
  members_at None = 0
  members_at (Some place) = members_of (group_of (its_groups setup works) place.seg.group)

  abbrev pub fetching : Scene → BlockId → ℕ
  fetching s b = 2 * members_at (entry_of (s.slot (slot_of b.ino.0)).index.rows b).place

  -- the other clients that are believed to hold a block
  abbrev pub holders : Scene → ℕ → BlockId → List ℕ
  holders s c b = others (s.slot (slot_of b.ino.0)).beliefs b c false
