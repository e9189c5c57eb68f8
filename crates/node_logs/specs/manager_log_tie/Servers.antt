-- What a storage server holds and tells, of whatever log it is: bytes, where what is stored there, and what it is told itself, is bytes.
use Rattle.std.specs.Prelude.{ℕ, List, IfSome}
use Rattle.std.specs.List.{AllByRecursion}
use Rattle.fragment_store.specs.ShelfState.{ShelfState}
use Rattle.group_rebuild.specs.declared.reads.Present.{Present}
use Rattle.group_rebuild.specs.Reads.{ReadsState}
use Rattle.store_nodes.specs.declared.server.Rebuilding.{Rebuilding}
use Rattle.store_nodes.specs.declared.server.Server.{Server}
use Rattle.store_nodes.specs.ServerEvents.{server_start, server_step}
use Rattle.stripe_code.specs.Stripe.{IsBytes}
use Rattle.version_model.specs.declared.work.Work.{Work}
use Rattle.wire_msg.specs.declared.body.Body.{Body}
use Rattle.wire_msg.specs.declared.body.Body.TheVariants as body
use Rattle.wire_msg.specs.declared.packet.Do.{Do}
use Rattle.wire_msg.specs.declared.packet.Do.TheVariants.{Begin, Deliver, Tick}
use Rattle.wire_msg.specs.declared.packet.Packet.{Packet}
use Rattle.wire_msg.specs.NodeStep.{NodeStep}
use Rattle.xfs_base.specs.declared.fragment.Fragment.{Fragment}
use Rattle.xfs_base.specs.declared.setup.Setup.{Setup}
use Rattle.node_logs.specs.cleaner_log_tie.Fitting.{RoundFits}

-- ---- what it holds

abbrev pub FragmentFits : Fragment → Type 0
FragmentFits f = IsBytes f.bytes

-- each fragment on the shelf is bytes
abbrev pub ShelfFits : ShelfState → Type 0
ShelfFits s = AllByRecursion FragmentFits s.held

-- so is each that came to the round of a rebuild
abbrev pub PresentFits : Present → Type 0
PresentFits p = RoundFits p.round

abbrev pub ReadsFit : ReadsState → Type 0
ReadsFit r = IfSome r.present PresentFits

abbrev pub RebuildFits : Rebuilding → Type 0
RebuildFits r = IfSome r.rebuild.reads ReadsFit

pub record ServerFits (node : Server) : Type 0 where
  pub shelf : ShelfFits node.shelf
  pub rebuild : IfSome node.rebuilding RebuildFits

-- ---- what comes, and what it sends

-- a fragment that is to be stored, or is told, is bytes
abbrev pub CarriesBytes : Body → Type 0
CarriesBytes (body.Store m) = FragmentFits m.fragment
CarriesBytes (body.Fragment m) = FragmentFits m.fragment
CarriesBytes _ = Unit {0}

abbrev pub ComesInBytes : Do → Type 0
ComesInBytes Begin = Unit {0}
ComesInBytes (Deliver packet) = CarriesBytes packet.body
ComesInBytes Tick = Unit {0}

-- ---- the law

-- it holds bytes, and sends nothing else
pub record TellsBytes (d : NodeStep Server) : Type 0 where
  pub node : ServerFits d.node
  pub packets : AllByRecursion (λ (p : Packet). CarriesBytes p.body) d.packets

-- a server at its start holds nothing
abbrev pub ServersStartEmpty : Type 0
ServersStartEmpty = (number : ℕ) (setup : Setup) (works : List Work) → ServerFits (server_start number setup works)

-- whatever happens to a server
abbrev pub ServersTellBytes : Type 0
ServersTellBytes = (server : Server) (what : Do) → ServerFits server → ComesInBytes what → TellsBytes (server_step server what)
