use Rattle.run_laws.proofs.restart_law.laws_below.Goals as goal

pub returns : goal.returns
returns c = record { logs = c.laws_of_logs.ensures; gone = c.fragments_go_with_disks.ensures.gone; straight = c.owners_lines_go_on.ensures.straight }
