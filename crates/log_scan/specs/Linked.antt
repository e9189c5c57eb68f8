-- What is claimed of every opening: what is picked, from where it is read back, and how the chain hangs together.
use Rattle.std.specs.Prelude.{◌≡◌, ℕ, ◌≤◌, ◌⊎◌, Contains, List, [], ◌∷◌, Some, max, reverse}
use Rattle.std.specs.List.{AllByRecursion}
use Rattle.segment_format.specs.declared.segment.Segment.{Segment}
use Rattle.xfs_base.specs.declared.fragment.FragMeta.{FragMeta}
use Rattle.xfs_base.specs.declared.segment.End.{End}
use Rattle.xfs_base.specs.declared.segment.LogId.{LogId}
use Rattle.xfs_base.specs.declared.segment.Prior.{Prior}
use Rattle.xfs_base.specs.declared.segment.SegName.{SegName}
use Rattle.xfs_base.specs.Steps.{steps}
use Rattle.log_scan.specs.declared.input.In.{In}
use Rattle.log_scan.specs.declared.input.In.TheVariants.{Welcome, Fenced, Got, Missing, Maps, Tick}
use Rattle.log_scan.specs.declared.listing.Listing.{Listing}
use Rattle.log_scan.specs.declared.opening.Opening.{Opening}
use Rattle.log_scan.specs.declared.output.Out.{Out}
use Rattle.log_scan.specs.declared.output.Out.TheVariants.{Hello, Fence, Fetch, Chain, Lost}
use Rattle.log_scan.specs.declared.stage.Stage.{Stage}
use Rattle.log_scan.specs.declared.stage.Stage.TheVariants.{Hails, Gathers, Asks, Reads, Over}
use Rattle.log_scan.specs.Pick.{counting, start_of}
use Rattle.log_scan.specs.ScanState.{ScanState}
use Rattle.log_scan.specs.Transition.{least_horizon, name_at, end_below, prior_at, awaited, transition}

-- ---- the pick

-- a segment is of no newer incarnation; of the same, of no greater number; of the same number too, of no greater attempt
pub record IsNoNewer (a b : SegName) : Type 0 where
  pub incarnation : a.pass.inc ≤ b.pass.inc
  pub number : a.pass.inc ≡ b.pass.inc → a.seq ≤ b.seq
  pub attempt : a.pass.inc ≡ b.pass.inc → a.seq ≡ b.seq → a.pass.att ≤ b.pass.att

-- this segment is listed and not below the horizon, and none that is, in any list, is newer
pub record IsPicked (low : ℕ) (lists : List Listing) (picked : FragMeta) : Type 0 where
  pub counts : Contains (counting low lists) picked
  pub first : (l : Listing) (m : FragMeta) → Contains lists l → Contains l.held m → low ≤ m.name.seq → IsNoNewer m.name picked.name

-- ---- the chain

-- Newest first: the end names the first segment, and each segment names the next as the one before it, whose number is one
-- lower.
abbrev pub AreLinked : LogId → End → List Segment → Type 0
AreLinked log end [] = Unit {0}
AreLinked log end (s ∷ rest) = (s.name ≡ name_at log end) × (1 ≤ end.seq) × AreLinked log (end_below s) rest

-- the segments in rising order hang together from the end down, none has a number above it, and the prior that is told is the end's
pub record IsLinked (log : LogId) (segments : List Segment) (end : End) (prior : Prior) : Type 0 where
  pub linked : AreLinked log end (reverse segments)
  pub below : AllByRecursion (λ s. s.name.seq ≤ end.seq) segments
  pub prior_is : prior ≡ prior_at end

abbrev pub TellsLinked : LogId → Out → Type 0
TellsLinked log (Hello ask) = Unit {0}
TellsLinked log (Fence server) = Unit {0}
TellsLinked log (Fetch server name ask) = Unit {0}
TellsLinked log (Chain segments end prior) = IsLinked log segments end prior
TellsLinked log (Lost name) = Unit {0}

-- an opening that began so and took these inputs, oldest first
abbrev pub state_after : ScanState → List In → ScanState
state_after start inputs = (steps transition start inputs).state

-- ---- from where it is read

-- this end is what is picked from the lists, with the groups and the horizon of a Welcome
abbrev pub IsStartBy : Opening → List Listing → In → End → Type 0
IsStartBy o lists (Welcome ask news groups) end = start_of (Some groups) lists (max o.low (least_horizon o.log.0 news)) ≡ Some end
IsStartBy o lists (Fenced server generation held) end = ⊥
IsStartBy o lists (Got ask server generation fragment) end = ⊥
IsStartBy o lists (Missing ask server generation) end = ⊥
IsStartBy o lists (Maps groups) end = ⊥
IsStartBy o lists Tick end = ⊥

-- this end was the start before the input, or is picked by it
abbrev pub IsStartFrom : Opening → Stage → In → End → Type 0
IsStartFrom o Hails input end = ⊥
IsStartFrom o (Gathers lists) input end = ⊥
IsStartFrom o (Asks lists) input end = IsStartBy o lists input end
IsStartFrom o (Reads b r) input end = end ≡ b.start
IsStartFrom o Over input end = ⊥

-- the lists of all servers are in when the registry is asked for the Welcome by which it is picked, and stay as they are until
-- then; while the chain is read its start is the one that was picked
abbrev pub KeepsStart : ScanState → In → Stage → Type 0
KeepsStart s input Hails = Unit {0}
KeepsStart s input (Gathers lists) = Unit {0}
KeepsStart s input (Asks lists) = (s.stage ≡ Asks lists) ⊎ (awaited s.opening.groups lists ≡ [])
KeepsStart s input (Reads b r) = IsStartFrom s.opening s.stage input b.start
KeepsStart s input Over = Unit {0}

-- and the log goes on behind it
abbrev pub TellsStart : ScanState → In → Out → Type 0
TellsStart s input (Hello ask) = Unit {0}
TellsStart s input (Fence server) = Unit {0}
TellsStart s input (Fetch server name ask) = Unit {0}
TellsStart s input (Chain segments end prior) = IsStartFrom s.opening s.stage input end
TellsStart s input (Lost name) = Unit {0}
