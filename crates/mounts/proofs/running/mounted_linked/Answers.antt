use Rattle.std.proofs.Common.{◌∙◌, ℕ, sym, subst, length, arith}
use Rattle.std.specs.Prelude.{List as Seq}
use Rattle.script_text.specs.declared.script.Script.{Script}
use Rattle.mounts.specs.declared.port.Port.{Port}
use Rattle.mounts.specs.Ports.{ArePairs}
use Rattle.mounts.proofs.Made.{ports_fresh}
use Rattle.mounts.proofs.running.mounted_linked.Goals as goal

pub applications_of-requires-clause-pairs : goal.applications_of-requires-clause-pairs
applications_of-requires-clause-pairs g c =
    let mounts = c.args.mounts.items in
    let pairs = c.requires.pairs in
    subst (λ (s : Script). ArePairs s (length mounts) mounts g.R.MountName.ports) c.requires.script
    (subst (λ (ps : Seq Port). ArePairs c.args.script.now (length mounts) mounts ps) c.requires.ports
    (subst (λ (n : ℕ). ArePairs c.args.script.now n mounts c.args.ports.items) (sym pairs.mounts_count) pairs))

pub clients_of-requires-clause-unused : goal.clients_of-requires-clause-unused
clients_of-requires-clause-unused g c = ports_fresh c.args.script.now c.args.script.now.setup.clients c.args.mounts.items c.args.ports.items c.requires.pairs

pub mounted_cells-requires-clause-clients : goal.mounted_cells-requires-clause-clients
mounted_cells-requires-clause-clients g c κs within = c.in_ok-clients.ensures.clients ∙ c.requires.pairs.ports_count

pub applications_of-requires-clause-fits : goal.applications_of-requires-clause-fits
applications_of-requires-clause-fits g c = let count = c.requires.pairs.mounts_count in omega arith
