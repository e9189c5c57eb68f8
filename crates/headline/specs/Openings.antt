-- What an owner says is lost while it opens its log: it was torn at a moment since it began to, and whole but for lost disks.
use Rattle.std.specs.Prelude.{◌≡◌, ◌<◌, ◌≤◌, ℕ, true, Option, Some, None, is_some}
use Rattle.cleaner_node.specs.declared.cleaner.Phase as cleaners
use Rattle.cleaner_node.specs.declared.cleaner.Phase.TheVariants as cleaning
use Rattle.client_node.specs.declared.phase.Phase as clients
use Rattle.client_node.specs.declared.phase.Phase.TheVariants as phase
use Rattle.core_world.specs.declared.any_node.AnyNode.{AnyNode}
use Rattle.core_world.specs.declared.any_node.AnyNode.TheVariants as any
use Rattle.log_owner.specs.declared.opening.Scanning.{Scanning}
use Rattle.log_owner.specs.declared.opening.Stage.{Stage}
use Rattle.log_owner.specs.declared.opening.Stage.TheVariants as stage
use Rattle.log_scan.specs.ScanState.{IsRead}
use Rattle.world_base.specs.declared.estate.Estate.{Estate}
use Rattle.xfs_base.specs.declared.segment.SegName.{SegName}
use Rattle.xfs_base.specs.declared.segment.SegRef.{SegRef}
use Rattle.headline.specs.Logs.{Role, owner_by}
use Rattle.headline.specs.Moments.{moment, node_named}
use Rattle.headline.specs.Torn.{IsStoredAs, IsTornAt, disks_lost}

abbrev pub scan_in : Stage → Option Scanning
scan_in (stage.Scanning s) = Some s
scan_in (stage.Settling s) = None

abbrev pub clients_scan : clients.Phase → Option Scanning
clients_scan (phase.Down l) = None
clients_scan (phase.Opening l o) = scan_in o.stage
clients_scan (phase.Serving s) = None

abbrev pub cleaners_scan : cleaners.Phase → Option Scanning
cleaners_scan (cleaning.Down l) = None
cleaners_scan (cleaning.Opening l o) = scan_in o.stage
cleaners_scan (cleaning.Serving e) = None

abbrev pub scan_of : Option AnyNode → Option Scanning
scan_of None = None
scan_of (Some (any.Client node)) = clients_scan node.phase
scan_of (Some (any.Manager node)) = None
scan_of (Some (any.Server node)) = None
scan_of (Some (any.Cleaner node)) = cleaners_scan node.phase
scan_of (Some (any.Registry node)) = None

module _ (e : Estate AnyNode) where
  -- how an owner reads its log at a moment, where it opens it
  abbrev pub scan_at : Role → ℕ → Option Scanning
  scan_at r count = scan_of (node_named (moment e count) (owner_by r))

  -- at a moment the owner opens its log, and reads this segment
  pub record IsReadAt (r : Role) (count : ℕ) (segment : SegRef) : Type 0 where
    pub scan : Scanning
    pub scans : scan_at r count ≡ Some scan
    pub is_read : IsRead scan.scan.stage segment

  -- The name is that of the segment that the owner reads at a moment; and at a moment since it began to open its log it read that segment, and that was torn.
  pub record WasTornInOpening (r : Role) (count : ℕ) (name : SegName) : Type 0 where
    pub scan : Scanning
    pub scans : scan_at r count ≡ Some scan
    pub segment : SegRef
    pub named : name ≡ segment.name
    pub is_read : IsRead scan.scan.stage segment
    pub when : ℕ
    pub before : when ≤ count
    pub opens : (k : ℕ) → when ≤ k → k ≤ count → is_some (scan_at r k) ≡ true
    pub read : IsReadAt r when segment
    pub torn : IsTornAt e when segment

module _ (e : Estate AnyNode) where
  -- It was torn at a moment since the owner began to open its log, and whole but for disks then: so more members had lost their disk than the parity makes
  -- good.
  pub record WasWhole (r : Role) (count : ℕ) (name : SegName) : Type 0 where
    pub lost : WasTornInOpening e r count name
    pub whole : IsStoredAs e lost.when lost.segment
    pub disks : whole.stored.group.parity < disks_lost (moment e lost.when) whole.stored.group
