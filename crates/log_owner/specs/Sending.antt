-- What the owner of a log sends.
use Rattle.std.specs.Prelude.{ℕ, List, map}
use Rattle.delta_feed.specs.declared.output.Out.{Out}
use Rattle.delta_feed.specs.declared.output.Out.TheVariants.{Range}
use Rattle.delta_feed.specs.FeedState.{FeedState}
use Rattle.delta_feed.specs.Transition.{feed_push, feed_tick}
use Rattle.group_map.specs.declared.group.Member.{Member}
use Rattle.node_base.specs.declared.effects.Effect.{Effect}
use Rattle.node_base.specs.declared.effects.Effect.TheVariants.{Send}
use Rattle.wire_msg.specs.declared.body.Body.TheVariants as body
use Rattle.xfs_base.specs.declared.fragment.Fragment.{Fragment}
use Rattle.xfs_base.specs.declared.node.NodeId.TheVariants.{Server, Registry}
use Rattle.xfs_base.specs.declared.segment.End.{End}
use Rattle.xfs_base.specs.declared.segment.LogId.{LogId}
use Rattle.xfs_base.specs.declared.segment.Pass.{Pass}
use Rattle.xfs_base.specs.declared.segment.SegName.{SegName}
use Rattle.log_owner.specs.declared.ended.Owner.{Owner}
use Rattle.log_owner.specs.declared.promised.Managers.{Managers}
use Rattle.log_owner.specs.Promised.{manager_of}
pub use Rattle.node_base.specs.Nodes.{server_in}

-- the registry is asked for the maps
abbrev pub hello : ℕ → ℕ → Effect
hello inc ask = Send Registry (body.Hello (record { inc = inc; ask = ask }))

-- a fragment, to be stored at the member's generation
abbrev pub store : Fragment → Member → Effect
store fragment member = Send (Server member.server) (body.Store (record { fragment = fragment; generation = member.generation }))

-- a server is asked for its fragment of a segment
abbrev pub fetch : SegName → ℕ → ℕ → Effect
fetch name ask server = Send (Server server) (body.Fetch (record { name = name; ask = ask }))

-- the pass below which a server takes nothing more of a log
abbrev pub owner_fence : ℕ → Pass
owner_fence inc = record { inc = inc; att = 0 }

-- a server is to take nothing more of earlier incarnations of the owner
abbrev pub fence : Owner → ℕ → Effect
fence owner server = Send (Server server) (body.Fence (record { log = owner.log; pass = owner_fence owner.inc }))

-- a range of the log's deltas goes to the manager of its slot
abbrev pub range : Managers → Out → Effect
range managers (Range slot first upto rows) =
    Send (manager_of managers slot) (body.Deltas (record { slot = slot; first = first; upto = upto; rows = rows }))

-- what a slot's manager has not acknowledged of the log
abbrev pub sending_push : Managers → FeedState → ℕ → List Effect
sending_push managers feed slot = map (range managers) (feed_push feed slot)

-- the same for each slot
abbrev pub push_all : Managers → FeedState → List Effect
push_all managers feed = map (range managers) (feed_tick feed)

-- the name of the newest settled segment
abbrev pub name_of : LogId → End → SegName
name_of log end = record { log = log; seq = end.seq; pass = end.pass }
