-- What a storage server holds and lists: fragments of logs of which some were stored there, or listed to it for a rebuild.
use Rattle.std.specs.Prelude.{◌≡◌, ℕ, Bool, true, List, IfSome}
use Rattle.std.specs.List.{AllByRecursion}
use Rattle.group_rebuild.specs.declared.reads.Present.{Present}
use Rattle.group_rebuild.specs.declared.wanted.Wanted.{Wanted}
use Rattle.group_rebuild.specs.Reads.{ReadsState}
use Rattle.group_rebuild.specs.RebuildState.{RebuildState}
use Rattle.store_nodes.specs.declared.server.Rebuilding.{Rebuilding}
use Rattle.store_nodes.specs.declared.server.Server.{Server}
use Rattle.store_nodes.specs.ServerEvents.{server_start, server_step}
use Rattle.version_model.specs.declared.work.Work.{Work}
use Rattle.wire_msg.specs.declared.body.Body.{Body}
use Rattle.wire_msg.specs.declared.body.Body.TheVariants as body
use Rattle.wire_msg.specs.declared.packet.Do.{Do}
use Rattle.wire_msg.specs.declared.packet.Do.TheVariants.{Begin, Deliver, Tick}
use Rattle.wire_msg.specs.declared.packet.Packet.{Packet}
use Rattle.wire_msg.specs.NodeStep.{NodeStep}
use Rattle.xfs_base.specs.declared.fragment.FragMeta.{FragMeta}
use Rattle.xfs_base.specs.declared.fragment.Fragment.{Fragment}
use Rattle.xfs_base.specs.declared.segment.LogId.{LogId}
use Rattle.xfs_base.specs.declared.segment.SegName.{SegName}
use Rattle.xfs_base.specs.declared.setup.Setup.{Setup}

-- of the logs that pass this test
module _ (test : LogId → Bool) where
  abbrev pub NameOf : SegName → Type 0
  NameOf name = test name.log ≡ true

  abbrev pub FragmentOf : Fragment → Type 0
  FragmentOf f = NameOf f.meta.name

  abbrev pub MetasOf : List FragMeta → Type 0
  MetasOf metas = AllByRecursion (λ (m : FragMeta). NameOf m.name) metas

  abbrev pub WantedOf : Wanted → Type 0
  WantedOf w = NameOf w.meta.name

  abbrev pub EntryOf : SegName × FragMeta → Type 0
  EntryOf e = NameOf e.1.name

  abbrev pub PresentOf : Present → Type 0
  PresentOf p = WantedOf p.wanted

  -- what a rebuild reads and still has to read
  pub record ReadsOf (r : ReadsState) : Type 0 where
    pub left : AllByRecursion WantedOf r.left
    pub present : IfSome r.present PresentOf

  pub record RebuildOf (s : RebuildState) : Type 0 where
    pub listed : AllByRecursion EntryOf s.listed
    pub reads : IfSome s.reads ReadsOf

  abbrev pub RebuildingOf : Rebuilding → Type 0
  RebuildingOf r = RebuildOf r.rebuild

  pub record ServerHolds (node : Server) : Type 0 where
    pub shelf : AllByRecursion FragmentOf node.shelf.held
    pub rebuild : IfSome node.rebuilding RebuildingOf

  -- ---- what comes, and what it sends

  -- a fragment that is to be stored, or is listed, is of such a log
  abbrev pub CarriesOf : Body → Type 0
  CarriesOf (body.Store m) = FragmentOf m.fragment
  CarriesOf (body.Listed m) = MetasOf m.held
  CarriesOf _ = Unit {0}

  abbrev pub ComesOf : Do → Type 0
  ComesOf Begin = Unit {0}
  ComesOf (Deliver packet) = CarriesOf packet.body
  ComesOf Tick = Unit {0}

  pub record Lists (d : NodeStep Server) : Type 0 where
    pub node : ServerHolds d.node
    pub packets : AllByRecursion (λ (p : Packet). CarriesOf p.body) d.packets

-- ---- the law

-- a server at its start holds nothing
abbrev pub ServersStartBare : Type 0
ServersStartBare = (test : LogId → Bool) (number : ℕ) (setup : Setup) (works : List Work) → ServerHolds test (server_start number setup works)

-- whatever happens to a server
abbrev pub ServersListWhatWasStored : Type 0
ServersListWhatWasStored = (test : LogId → Bool) (server : Server) (what : Do) → ServerHolds test server → ComesOf test what
    → Lists test (server_step server what)
