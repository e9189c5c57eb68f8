-- What an opening's scan stands on follows from what the world tells it: it has questions left, and the log stays written behind the chain that it tells.
use Rattle.std.proofs.Common.{◌≡◌, ◌<◌, ℕ, ◌^◌, true, Option, Some, None, sym, subst, inl, inr, arith}
use Rattle.std.specs.Prelude.{IfSome}
use Rattle.std.proofs.lemmas.Bool.Decides.{nat_tests}
use Rattle.xfs_base.specs.declared.segment.End.{End}
use Rattle.segment_format.specs.Format.{IsLog}
use Rattle.group_map.specs.GroupMapState.{GroupMapState}
use Rattle.client_log.specs.LogState.{log_start}
use Rattle.log_owner.specs.declared.known.Known.{Known}
use Rattle.log_owner.specs.declared.opening.Scanning.{Scanning}
use Rattle.log_owner.specs.declared.opening.Stage.{Stage}
use Rattle.log_owner.specs.declared.opening.Stage.TheVariants as stage
use Rattle.log_scan.specs.declared.input.In.{In as Input}
use Rattle.log_scan.specs.declared.input.In.TheVariants as input
use Rattle.log_scan.specs.ScanState.{ScanState}
use Rattle.log_scan.specs.Transition as scan
use Rattle.node_base.specs.Room.{has_room}
use Rattle.node_base.specs.Shape.{is_log}
use Rattle.log_protocol.specs.Tables.{In}
use Rattle.log_tie.specs.Setting.{Setting}
use Rattle.log_law.specs.Net.{Net, Told, chain_in}
use Rattle.log_law.specs.Net.Packet.{MapSent}
use Rattle.log_law.specs.Events.{CameToScan}
use Rattle.log_law.specs.Openings.{GoesOn}
use Rattle.log_law.specs.ReadBack.{ReadsDown}
use Rattle.node_logs.specs.client_log_tie.ClientEvents.{ScanTells, StageTells}
use Rattle.node_logs.specs.client_log_tie.Owner.{Scene, MapCame, SeesScan, SeesStage}
use Rattle.node_logs.specs.client_log_tie.Texts.{MapFits, StaysWritten}
use Rattle.node_logs.proofs.client_log_tie.Texts.{ChainFits, StartFits}
use Rattle.node_logs.proofs.client_log_tie.Starts.{log_in_range}
use Rattle.node_logs.proofs.client_log_tie.Written.{what_fits_stays_written}
use Rattle.node_logs.specs.opening_law.Questions.{ScanAsks, StageAsks, GroupsAfter}
use Rattle.node_logs.proofs.opening_law.Asking.{groups_come, some_left}

pub in_range : (k : ℕ) → has_room k ≡ true → k < 2 ^ 32
in_range k room = grind (arith, nat_tests)

abbrev AllFit : Option GroupMapState → Type 0
AllFit groups = IfSome groups MapFits

-- a scan can ask further, and the chain that it tells, whatever came, can be gone on with
pub record ScanOwed (g : Setting) (n : Net) (s : ScanState) : Type 0 where
  pub asks : scan.can_ask s.opening ≡ true
  pub chain : (i : Input) → CameToScan g n i → ChainFits g n (scan.transition s i)

abbrev pub StageOwed : Setting → Net → Stage → Type 0
StageOwed g n (stage.Scanning s) = ScanOwed g n s.scan
StageOwed g n (stage.Settling s) = Unit {0}

module _ (g : Setting) (c : ℕ) (small : is_log g.log.0 ≡ true) (w : Scene) where
  its_log : IsLog g.log.0
  its_log = log_in_range g.log.0 small

  came_fits : ((m : GroupMapState) → In (MapSent m) w.net.sent → MapFits m) → (groups : Option GroupMapState) → MapCame g c w groups → AllFit groups
  came_fits maps None came = tt
  came_fits maps (Some m) came = maps m came

  module _ (k : Known) (s : Scanning) (last : ℕ) (inc : w.net.inc < 2 ^ 32) (sees : SeesScan g c w k s last) (few : ScanAsks s last)
      (tells : ScanTells g w.net s.scan) where
    had : AllFit s.scan.opening.groups
    had = subst AllFit sees.groups (came_fits tells.maps k.maps.groups sees.came)

    -- the groups that it has then fit
    then_fit : (i : Input) → CameToScan g w.net i → (groups : Option GroupMapState) → GroupsAfter s.scan.opening.groups i groups → AllFit groups
    then_fit (input.Welcome ask news m) came groups (inl e) = subst AllFit (sym e) had
    then_fit (input.Welcome ask news m) came groups (inr e) = subst AllFit (sym e) (tells.maps m came.1)
    then_fit (input.Maps m) came groups e = subst AllFit (sym e) (tells.maps m came)
    then_fit (input.Fenced server generation held) came groups e = subst AllFit (sym e) had
    then_fit (input.Got ask server generation fragment) came groups e = subst AllFit (sym e) had
    then_fit (input.Missing ask server generation) came groups e = subst AllFit (sym e) had
    then_fit input.Tick came groups e = subst AllFit (sym e) had

    starts_so : (end : End) → GoesOn end → (groups : Option GroupMapState) → AllFit groups → IfSome groups (λ m. StaysWritten (log_start g.log w.net.inc end m))
    starts_so end on None fit = tt
    starts_so end on (Some m) fit = what_fits_stays_written g.log w.net.inc end m its_log inc on.1 fit

    chain_so : (i : Input) → CameToScan g w.net i → ChainFits g w.net (scan.transition s.scan i)
    chain_so i came = by_told (chain_in (scan.transition s.scan i).outs) (tells.end i came) (tells.reads i came)
      where
        by_told : (told : Option Told) → IfSome told (λ t. GoesOn t.end)
            → IfSome told (ReadsDown w.net (scan.transition s.scan i).state.opening.low)
            → IfSome told (λ t. StartFits g w.net.inc (scan.transition s.scan i) t × ReadsDown w.net (scan.transition s.scan i).state.opening.low t)
        by_told None on reads = tt
        by_told (Some t) on reads = (
          (
            on.0,
            starts_so t.end on (scan.transition s.scan i).state.opening.groups
                (then_fit i came (scan.transition s.scan i).state.opening.groups (groups_come s.scan i few.reads)),
          ),
          reads,
        )

  pub owed_so : (k : Known) (at : Stage) (last : ℕ) → w.net.inc < 2 ^ 32 → has_room last ≡ true → SeesStage g c w k last at → StageAsks at last
      → StageTells g w.net at
      → StageOwed g w.net at
  owed_so k (stage.Scanning s) last inc room sees few tells = record { asks = some_left s.scan last room few.few; chain = chain_so k s last inc sees few tells }
  owed_so k (stage.Settling s) last inc room sees few tells = tt
