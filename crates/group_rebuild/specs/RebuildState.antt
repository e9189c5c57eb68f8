-- What a rebuild keeps.
use Rattle.std.specs.Prelude.{ℕ, List, [], Option, None}
use Rattle.group_map.specs.GroupMapState.{GroupMapState}
use Rattle.xfs_base.specs.declared.fragment.FragMeta.{FragMeta}
use Rattle.xfs_base.specs.declared.segment.SegName.{SegName}
use Rattle.group_rebuild.specs.Reads.{ReadsState}

pub record RebuildState : Type 0 where
  -- the server that is rebuilt
  pub server : ℕ
  -- the groups that are known
  pub groups : GroupMapState
  -- the servers whose lists are in
  pub heard : List ℕ
  -- by name, what one of the fragments says of itself
  pub listed : List (SegName × FragMeta)
  -- once all lists are in, the reading of what is wanted
  pub reads : Option ReadsState

-- nothing is known yet
abbrev pub rebuild_start : ℕ → GroupMapState → RebuildState
rebuild_start server groups = record { server = server; groups = groups; heard = []; listed = []; reads = None }
