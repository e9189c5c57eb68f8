-- Where a sync is done, all that its client wrote is settled: it has nothing dirty, and what logs filed has its versions.
use Rattle.std.specs.Prelude.{◌≡◌, ℕ, suc, false, Some, slice_get}
use Rattle.core_world.specs.declared.any_node.AnyNode.{AnyNode}
use Rattle.token_client.specs.Held.{is_dirty}
use Rattle.token_client.specs.State.{TokensState, held_of}
use Rattle.token_protocol.specs.Basics.{In}
use Rattle.version_model.specs.declared.act.Act.TheVariants as act
use Rattle.version_model.specs.declared.answer.Answer.TheVariants as answer
use Rattle.version_model.specs.Legal.{IsNewestBy}
use Rattle.world_base.specs.declared.estate.Estate.{Estate}
use Rattle.world_base.specs.declared.event.Event.{Event}
use Rattle.xfs_base.specs.declared.block.BlockId.{BlockId}
use Rattle.xfs_base.specs.declared.node.NodeId.TheVariants as nodes
use Rattle.headline.specs.Filed.{Filed, IsOwnTable}
use Rattle.headline.specs.Linear.{IsSync, asked}
use Rattle.headline.specs.Moments.{acts_in, moment}
use Rattle.headline.specs.Owners.{tokens_at}
use Rattle.headline.specs.Restarts.{NoDoubtfulRestart}
use Rattle.headline.specs.Settled.{NobodyFell, lies_at, settled_entry}
use Rattle.headline.specs.Versions.{IsNewest, history_at}

module _ (e : Estate AnyNode) where
  -- by the run's own table, the join of all that was filed of the block is its newest version, and lies where that version's value is
  pub record IsJoined (count : ℕ) (b : BlockId) : Type 0 where
    pub filed : Filed
    pub own : IsOwnTable e count filed
    pub newest : IsNewest (history_at (moment e count) b) (settled_entry filed b).ver (lies_at filed (settled_entry filed b).place)

  pub record HasSettled (client count : ℕ) : Type 0 where
    -- no block of it is dirty
    pub clean : (b : BlockId) (t : TokensState) → tokens_at (moment e count) client ≡ Some t → is_dirty (held_of t.blocks b) ≡ false
    -- so each block of which its version is the newest, and with which no client fell that isn't back, is settled: up to the first doubtful restart
    pub joined : NoDoubtfulRestart e count → (b : BlockId) → IsNewestBy client (history_at (moment e count) b).versions → NobodyFell (moment e count) b
        → IsJoined count b

  -- so it is at the end of each event in which a client answers that a sync is done
  abbrev pub SyncsSettle : Type 0
  SyncsSettle =
      (count : ℕ) (event : Event) → slice_get e.events count ≡ Some event → (client item : ℕ)
      → In (act.Answered (nodes.Client client) item answer.Done) (acts_in (moment e count) event) → IsSync (asked e client item) → HasSettled client (suc count)
