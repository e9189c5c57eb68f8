use Rattle.live_run.proofs.running.live.Given as goal

-- the run is named by what it begins with
abbrev pub ghosts-live_linked : goal.ghosts-live_linked
ghosts-live_linked g a = record { script = a.script.now; outs = a.outs.items }
