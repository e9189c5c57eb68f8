-- The maps of groups that an opening has: the one that it knows, and the one over which its log stripes.
use Rattle.group_map.specs.GroupMapState.{GroupMapState}
use Rattle.std.specs.Prelude.{Option, Some, None}
use Rattle.log_owner.specs.declared.opening.Opening.{Opening}
use Rattle.log_owner.specs.declared.opening.Stage.{Stage}
use Rattle.log_owner.specs.declared.opening.Stage.TheVariants as stage

-- the map that is known is so, if one is
abbrev pub KnowsSuch : (GroupMapState → Type 0) → Option GroupMapState → Type 0
KnowsSuch Is None = Unit {0}
KnowsSuch Is (Some groups) = Is groups

abbrev pub StripesBySuch : (GroupMapState → Type 0) → Stage → Type 0
StripesBySuch Is (stage.Scanning s) = Unit {0}
StripesBySuch Is (stage.Settling s) = Is s.log.groups

pub record HasSuchMaps (Is : GroupMapState → Type 0) (o : Opening) : Type 0 where
  pub known : KnowsSuch Is o.known.maps.groups
  pub log : StripesBySuch Is o.stage
