-- The setting of a log of a run: its group ids name the stripes that the registry has at the end of the run, and its restarts may be doubtful where it is one
-- that begins anew.
use Rattle.std.specs.Prelude.{ℕ, [], Option, Some, None}
use Rattle.core_world.specs.declared.any_node.AnyNode.{AnyNode}
use Rattle.group_map.specs.declared.group.Group.{Group}
use Rattle.log_tie.specs.Setting.{Setting, Stripe, stripe_of_group}
use Rattle.world_base.specs.declared.world.World.{World}
use Rattle.headline.specs.Logs.{Role, log_by, renews}
use Rattle.headline.specs.Servers.{group_at}

-- no stripe where there is no group
abbrev pub stripe_by : Option Group → Stripe
stripe_by None = record { members = []; parity = 0 }
stripe_by (Some group) = stripe_of_group group

module _ (base : Setting) (end : World AnyNode) (servers : ℕ) where
  abbrev pub setting_of : Role → Setting
  setting_of r = record base { log = record { 0 = log_by r }; servers = servers; doubts = renews r; stripe = λ id. stripe_by (group_at end id) }
