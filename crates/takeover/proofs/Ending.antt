-- Once a takeover is over, nothing changes it and nothing is said.
use Rattle.std.proofs.Common.{◌≡◌, ℕ, true, [], ◌∷◌, ◌++◌, Option, None, refl, sym, ap, subst, ◌∙◌}
use Rattle.std.specs.Prelude.{◌&&◌}
use Rattle.std.specs.List.{list_any}
use Rattle.group_map.specs.GroupMapState.{GroupMapState}
use Rattle.stripe_code.specs.declared.round.Told.{Told}
use Rattle.stripe_code.specs.declared.round.Told.TheVariants.{Held}
use Rattle.stripe_code.specs.declared.round.Told.TheVariants as told
use Rattle.xfs_base.specs.declared.node.NodeId.{NodeId}
use Rattle.xfs_base.specs.Steps.{still}
use Rattle.xfs_base.proofs.Booleans.{contrary, by_test, and_second}
use Rattle.xfs_base.specs.Nodes.{same_node}
use Rattle.takeover.specs.declared.input.In.{In}
use Rattle.takeover.specs.declared.input.In.TheVariants as input
use Rattle.takeover.specs.declared.report.Report.{Report}
use Rattle.takeover.specs.declared.source.Present.{Present}
use Rattle.takeover.specs.Course.{IsOver}
use Rattle.takeover.specs.TakeState.{TakeState}
use Rattle.takeover.specs.Transition.{Done, awaited, awaits, can_ask, polls, told_at, on_told, begin_if_all, on_report, waiting, sought_again, on_maps, repeated, transition}

-- a step after which all is still over, and in which nothing was said
record Ended (d : Done) : Type 0 where
  silent : d.outs ≡ []
  over : IsOver d.state

-- nobody's report is awaited
pub nobody : (s : TakeState) (node : NodeId) → awaited s ≡ [] → awaits s node ≡ true → ⊥
nobody s node none some = contrary (sym (ap (λ nodes. list_any (λ n. same_node n node) nodes) none) ∙ some)

ended_report : (s : TakeState) (report : Report) → IsOver s → Ended (on_report s report)
unfolding on_report
ended_report s report h =
    by_test Ended (can_ask s && awaits s report.from) (begin_if_all (record s { reports = s.reports ++ report ∷ [] })) (still s)
    (λ t. absurd (nobody s report.from h.reported (and_second (can_ask s) (awaits s report.from) t)))
    (λ t. record { silent = refl; over = h })

ended_told : (s : TakeState) (ask server : ℕ) (t : Told) → IsOver s → Ended (on_told s ask server t)
unfolding on_told
ended_told s ask server t h =
    let idle : TakeState = record s { present = None } in
    by_test Ended (can_ask s) (told_at idle s.present ask server t) (still s)
    (λ c. subst (λ (o : Option Present). Ended (told_at idle o ask server t)) (sym h.nothing_read)
    (record { silent = refl; over = record { reported = h.reported; nothing_read = refl } }))
    (λ c. record { silent = refl; over = h })

ended_maps : (s : TakeState) (groups : GroupMapState) → IsOver s → Ended (on_maps s groups)
unfolding on_maps
ended_maps s groups h =
    let knows : TakeState = record s { groups = groups } in
    subst (λ (o : Option Present). Ended (sought_again knows (waiting o))) (sym h.nothing_read)
    (record { silent = refl; over = record { reported = h.reported; nothing_read = h.nothing_read } })

ended : (s : TakeState) (i : In) → IsOver s → Ended (transition s i)
ended s (input.Report from held end) h = ended_report s (record { from = from; held = held; end = end }) h
ended s (input.Got ask server generation fragment) h = ended_told s ask server (Held fragment) h
ended s (input.Missing ask server generation) h = ended_told s ask server (told.Missing generation) h
ended s (input.Maps groups) h = ended_maps s groups h
ended s input.Tick h = record { silent = ap (λ nodes. polls nodes ++ repeated s.present) h.reported ∙ ap repeated h.nothing_read; over = h }

pub nothing_said : (s : TakeState) (i : In) → IsOver s → (transition s i).outs ≡ []
nothing_said s i h = (ended s i h).silent

pub over_stays : (s : TakeState) (i : In) → IsOver s → IsOver (transition s i).state
over_stays s i h = (ended s i h).over
