-- What the cleaner stores: fragments of its own log alone.
use Rattle.std.specs.Prelude.{◌≡◌, All}
use Rattle.cleaner_node.specs.CleanerEvents.{cleaner_step}
use Rattle.cleaner_node.specs.declared.cleaner.Cleaner as cleaners
use Rattle.cleaner_job.specs.Starting.{cleaner_log}
use Rattle.log_law.specs.Net.{Net}
use Rattle.log_tie.specs.Setting.{Setting}
use Rattle.wire_msg.specs.declared.body.Body.{Body}
use Rattle.wire_msg.specs.declared.body.Body.TheVariants as body
use Rattle.wire_msg.specs.declared.packet.Do.{Do}
use Rattle.wire_msg.specs.declared.packet.Packet.{Packet}
use Rattle.xfs_base.specs.declared.node.NodeId.TheVariants.{Cleaner}
use Rattle.node_logs.specs.node_log_tie.CleanerEvents.{CleanerOwed, CleanerSeen}
use Rattle.node_logs.specs.node_log_tie.Sight.{Asker}

abbrev pub StoresItsOwn : Body → Type 0
StoresItsOwn (body.Store m) = m.fragment.meta.name.log ≡ cleaner_log
StoresItsOwn _ = Unit {0}

-- So it is in each event of a cleaner that is seen in the small world of another log.
abbrev pub CleanerStoresItsOwn : Type 0
CleanerStoresItsOwn =
    (g : Setting) (owner : Asker) (n : Net) (cleaner : cleaners.Cleaner) (what : Do) → (g.log ≡ cleaner_log → ⊥) → (owner.node ≡ Cleaner → ⊥)
    → CleanerSeen g n cleaner.phase
    → CleanerOwed g owner n what → All (λ (p : Packet). StoresItsOwn p.body) (cleaner_step cleaner what).packets
