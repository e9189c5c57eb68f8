-- What an opening does by itself, whatever it is told.
use Rattle.std.specs.Prelude.{◌≡◌}
use Rattle.std.specs.List.{AllByRecursion}
use Rattle.log_owner.specs.declared.ended.Owner.{Owner}
use Rattle.log_owner.specs.declared.opened.Progress.{Progress}
use Rattle.log_owner.specs.declared.opened.Progress.TheVariants as progress
use Rattle.log_owner.specs.Opening.{Went}
use Rattle.log_owner.specs.Sending.{owner_fence}
use Rattle.node_base.specs.declared.effects.Effect.{Effect}
use Rattle.node_base.specs.declared.effects.Effect.TheVariants as effect
use Rattle.version_model.specs.declared.act.Act.{Act}
use Rattle.version_model.specs.declared.act.Act.TheVariants as act
use Rattle.wire_msg.specs.declared.body.Body.{Body}
use Rattle.wire_msg.specs.declared.body.Body.TheVariants as body
use Rattle.xfs_base.specs.declared.node.NodeId.{NodeId}
use Rattle.xfs_base.specs.declared.node.NodeId.TheVariants.{Server, Registry}

abbrev pub IsServer : NodeId → Type 0
IsServer (Server number) = Unit {0}
IsServer _ = ⊥

-- It asks the registry in its incarnation; a server it asks for fragments, or tells to store one, or fences below its incarnation,
-- its own log alone. To managers and clients it says nothing.
abbrev pub MaySay : Owner → NodeId → Body → Type 0
MaySay owner to (body.Hello hello) = (to ≡ Registry) × (hello.inc ≡ owner.inc)
MaySay owner to (body.Fence fence) = IsServer to × (fence.log ≡ owner.log) × (fence.pass ≡ owner_fence owner.inc)
MaySay owner to (body.Fetch fetch) = IsServer to
MaySay owner to (body.Store store) = IsServer to
MaySay owner to _ = ⊥

-- It answers nothing; it acts only that segments are filed.
abbrev pub MayAct : Act → Type 0
MayAct (act.Filed seg) = Unit {0}
MayAct _ = ⊥

abbrev pub MayDo : Owner → Effect → Type 0
MayDo owner (effect.Send to body) = MaySay owner to body
MayDo owner (effect.Lose seg) = Unit {0}
MayDo owner (effect.Does act) = MayAct act
MayDo owner (effect.Answer item answer) = ⊥

-- the opening is this owner's, where it goes on
abbrev pub IsOf : Owner → Progress → Type 0
IsOf owner (progress.Opening o) = o.known.owner ≡ owner
IsOf owner (progress.Opened o) = Unit {0}
IsOf owner (progress.Lost seg) = Unit {0}

pub record Behaves (owner : Owner) (w : Went) : Type 0 where
  pub does : AllByRecursion (MayDo owner) w.effects
  pub stays_its : IsOf owner w.progress
