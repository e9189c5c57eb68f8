-- Whatever a takeover is told, its news stay.
use Rattle.std.proofs.Common.{◌≡◌, ◌==◌, ◌&&◌, [], ◌∷◌, ◌++◌, length, refl}
use Rattle.stripe_code.specs.declared.round.Told.TheVariants as told
use Rattle.takeover.specs.declared.input.In.{In as Input}
use Rattle.takeover.specs.declared.input.In.TheVariants as input
use Rattle.takeover.specs.declared.report.Report.{Report}
use Rattle.takeover.specs.Sources.{sources_of}
use Rattle.takeover.specs.TakeState.{TakeState}
use Rattle.takeover.specs.Transition.{Done, awaited, awaits, begin_if_all, can_ask, go_on, on_report, transition}
use Rattle.xfs_base.proofs.Booleans.{by_test}
use Rattle.xfs_base.specs.Steps.{still}
use Rattle.node_tellings.proofs.part_tie.Same.{go_on_same, maps_same, told_same}

report_same : (s : TakeState) (report : Report) → (on_report s report).state.news ≡ s.news
unfolding on_report
report_same s report =
    by_test (λ (d : Done). d.state.news ≡ s.news) (can_ask s && awaits s report.from) (begin_if_all heard) (still s)
    (λ _. by_test (λ (d : Done). d.state.news ≡ s.news) (length (awaited heard) == 0) (go_on all) (still heard) (λ _. (go_on_same all).0) (λ _. refl))
    (λ _. refl)
  where
    heard : TakeState
    heard = record s { reports = s.reports ++ report ∷ [] }

    all : TakeState
    all = record heard { sources = sources_of heard.news heard.reports }

pub news_stay : (s : TakeState) (i : Input) → (transition s i).state.news ≡ s.news
news_stay s (input.Report from held end) = report_same s (record { from = from; held = held; end = end })
news_stay s (input.Got ask server generation fragment) = (told_same s ask server (told.Held fragment)).0
news_stay s (input.Missing ask server generation) = (told_same s ask server (told.Missing generation)).0
news_stay s (input.Maps groups) = (maps_same s groups).0
news_stay s input.Tick = refl
