-- What is claimed of what applications are replied, in the acts of the run.
use Rattle.core_world.specs.declared.any_node.AnyNode.{AnyNode}
use Rattle.live_links.specs.Answered.{answers_by}
use Rattle.mounts.specs.declared.reply.Reply.{Reply}
use Rattle.mounts.specs.Mounted.{client_at}
use Rattle.mounts.specs.Replies.{replies_of}
use Rattle.std.specs.Prelude.{◌≡◌, ℕ, List, length, slice_get, Some}
use Rattle.world_base.specs.declared.estate.Estate.{Estate}

-- there is a list for each client, in their order, of the acts of the run that answer its items, in theirs, each once
pub record AreAnswers (e : Estate AnyNode) (replies : List (List Reply)) : Type 0 where
  pub count : length replies ≡ e.script.setup.clients
  pub each : (p : ℕ) (rs : List Reply) → slice_get replies p ≡ Some rs → rs ≡ replies_of (answers_by (client_at p) e.world.acts)
