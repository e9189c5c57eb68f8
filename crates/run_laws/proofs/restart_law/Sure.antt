-- While no restart of the nodes was doubtful, none is doubtful in the small world of a log: over all counts of the events of a run.
use Rattle.std.proofs.Common.{◌≡◌, ⊎_elim, ℕ, zero, suc, Bool, true, false, Option, Some, None, slice_get, refl, sym, ap, subst, arith}
use Rattle.node_logs.specs.client_log_tie.ClientEvents.{IsOnce, ServesStraight}
use Rattle.node_logs.specs.client_log_tie.Owner.{Scene}
use Rattle.core_world.specs.declared.any_node.AnyNode.{AnyNode}
use Rattle.log_law.specs.Events.{Runs}
use Rattle.log_law.specs.Events.Runs.{Begun, On}
use Rattle.log_law.specs.Laws.{Moment}
use Rattle.log_law.specs.Net.{Net}
use Rattle.log_law.specs.Restarts.{EndsRestart, IsDoubtful, IsSureRun, is_serving}
use Rattle.log_law.specs.Tails.{then_on}
use Rattle.log_tie.specs.Setting.{Setting}
use Rattle.node_logs.proofs.node_log_tie.Others.{same_or_other}
use Rattle.world_base.specs.declared.estate.Estate.{Estate}
use Rattle.world_base.specs.declared.event.Event.{Event}
use Rattle.world_base.specs.Events.{node_of}
use Rattle.run_laws.specs.world_logs.Lines.{IsBegun, Line, setting}
use Rattle.headline.specs.Logs.{IsThere, Role, owner_by, renews}
use Rattle.run_laws.specs.restart_law.Below.{Below}
use Rattle.headline.specs.Restarts.{NoDoubtfulRestart}
use Rattle.run_laws.specs.restart_law.Sure.{UndoubtedRunsAreSure}
use Rattle.run_laws.proofs.restart_law.Doubting.{doubtful_restart}
use Rattle.run_laws.proofs.restart_law.Progress.{NoneEnds, none_ends_away, none_ends_left, none_ends_served, sure_then}
use Rattle.run_laws.proofs.restart_law.Spans.{serves_straight}

begun_sure : (g : Setting) (a n : Net) (run : Runs g a n) → IsBegun run → IsSureRun run
begun_sure g a n Begun begun = tt
begun_sure g a n (On run happens) begun = absurd begun

-- one thing at most happens
once_sure : (g : Setting) (a n o : Net) (run : Runs g a n) (more : Runs g n o) → IsOnce more → IsSureRun run
    → (EndsRestart n o → IsDoubtful g run → ⊥)
    → IsSureRun (then_on run more)
once_sure g a n o run Begun once sure none = sure
once_sure g a n o run (On Begun happens) once sure none = (sure, none)
once_sure g a n o run (On (On more before) happens) once sure none = absurd once

module _ (b : Below) (base : Setting) (e : Estate AnyNode) (r : Role) (is_there : IsThere e.script.setup.clients e.script.setup.managers r)
    (keeps : renews r ≡ false) (line : Line base e r) where
  abbrev g : Setting
  g = setting base e r

  abbrev small : ℕ → Net
  small count = (line.scene count).net

  abbrev moment_at : (count : ℕ) → Moment (setting base e r) (small count)
  moment_at count = (line.stands count).moment

  module _ (count : ℕ) (none : NoDoubtfulRestart e (suc count)) (sure : IsSureRun (moment_at count).run) where
    -- no restart ends in the event
    calm : NoneEnds (line.goes count) → IsSureRun (then_on (moment_at count).run (line.goes count))
    calm ends = sure_then (moment_at count).run (line.goes count) sure ends

    -- the owner has its turn
    own_sure : ServesStraight (line.goes count) → IsSureRun (then_on (moment_at count).run (line.goes count))
    own_sure straight = by (is_serving (small count).owner) (is_serving (small (suc count)).owner) refl refl
      where
        by : (s t : Bool) → is_serving (small count).owner ≡ s → is_serving (small (suc count)).owner ≡ t
            → IsSureRun (then_on (moment_at count).run (line.goes count))
        by s false was fact = calm (none_ends_away g (small count) (small (suc count)) (line.goes count) (straight.never fact))
        by true true was fact = calm (none_ends_served g (small count) (small (suc count)) (line.goes count) (straight.stays was fact) was fact)
        by false true was fact =
            once_sure g _ (small count) (small (suc count)) (moment_at count).run (line.goes count) (straight.once was fact) sure
            (λ ends d. none r count (omega arith) (doubtful_restart b base e r is_there keeps line count was fact ends.0 sure d))

    event_sure : IsSureRun (then_on (moment_at count).run (line.goes count))
    event_sure = by (slice_get e.events count) refl
      where
        by : (o : Option Event) → slice_get e.events count ≡ o → IsSureRun (then_on (moment_at count).run (line.goes count))
        by None fact =
            calm
            (none_ends_left g (small count) (small (suc count)) (line.goes count) (ap (λ (w : Scene). w.net.inc) (line.ended count fact))
            (ap (λ (w : Scene). w.net.owner) (line.ended count fact)))
        by (Some event) fact =
            ⊎_elim (λ own. own_sure (serves_straight r (line.goes count) keeps (line.straight count event fact own)))
            (λ away. let left = line.others count event fact away in
            calm (none_ends_left g (small count) (small (suc count)) (line.goes count) left.inc left.owner)) (same_or_other (owner_by r) (node_of event))

    next_sure : IsSureRun (moment_at (suc count)).run
    next_sure = subst (λ (m : Moment (setting base e r) (small (suc count))). IsSureRun m.run) (sym (line.joined count)) event_sure

  pub all_sure : (count : ℕ) → NoDoubtfulRestart e count → IsSureRun (moment_at count).run
  all_sure zero none = begun_sure g _ (small 0) (moment_at 0).run line.begins
  all_sure (suc count) none = next_sure count none (all_sure count (λ q n less. none q n (omega arith)))

pub undoubted_runs_are_sure : Below → UndoubtedRunsAreSure
undoubted_runs_are_sure b base e lines count none r there keeps = all_sure b base e r there keeps (lines r there) count none
