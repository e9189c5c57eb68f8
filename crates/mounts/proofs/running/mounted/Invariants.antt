use Rattle.mounts.proofs.running.mounted.Given as goal

-- the run is named by what it begins with
abbrev pub ghosts-mounted_linked-R-RunName : goal.ghosts-mounted_linked-R-RunName
ghosts-mounted_linked-R-RunName g a = record { script = a.script.now; outs = a.outs.items }

abbrev pub ghosts-mounted_linked-R-MountName : goal.ghosts-mounted_linked-R-MountName
ghosts-mounted_linked-R-MountName g a = record { ports = a.ports.items }
