-- The acts of a run, moment by moment: each event adds its own, and those of a moment are among all.
use Rattle.std.proofs.Common.{◌≡◌, ◌⊎◌, ℕ, zero, suc, List, [], ◌∷◌, ◌++◌, drop, take, inl, inr, length, slice_get, Some, append-nil, refl, sym, ap, subst, ◌∙◌}
use Rattle.std.proofs.Math.Seq.{drop-append_seam}
use Rattle.std.specs.List.{fold}
use Rattle.core_world.specs.AnyNode.{any_start, any_step}
use Rattle.core_world.specs.declared.any_node.AnyNode.{AnyNode}
use Rattle.headline.specs.Moments.{acts_in, moment}
use Rattle.log_tie.proofs.Listings.{in_front}
use Rattle.run_answers.proofs.act_law.Runs.{moment_first}
use Rattle.run_laws.proofs.world_reads.Taking.{NothingHappens, Took, moment_next, takes_or_not}
use Rattle.token_protocol.specs.Basics.{In}
use Rattle.version_model.specs.declared.act.Act.{Act}
use Rattle.world_base.specs.declared.estate.Estate.{Estate}
use Rattle.world_base.specs.declared.event.Event.{Event}
use Rattle.world_base.specs.declared.world.World.{World}
use Rattle.world_base.specs.Events.{what_of}
use Rattle.world_base.specs.NextWorld.{next_world, start_world}
use Rattle.world_base.specs.Runs.{IsRun, Leads}

none_behind : (xs : List Act) → drop (length xs) xs ≡ []
none_behind [] = refl
none_behind (x ∷ xs) = none_behind xs

-- the acts behind an event are those before it and its own
next_acts : (w : World AnyNode) (event : Event) → (next_world any_step w event).acts ≡ w.acts ++ acts_in w event
next_acts w event = by (takes_or_not w event)
  where
    by : NothingHappens w event ⊎ ((x : AnyNode) × Took w event x) → (next_world any_step w event).acts ≡ w.acts ++ acts_in w event
    by (inl none) =
        none.acts ∙ sym (append-nil w.acts)
        ∙ ap (λ xs. w.acts ++ xs) (sym (ap (drop (length w.acts)) none.acts ∙ none_behind w.acts))
    by (inr (x, took)) =
        took.acts
        ∙ ap (λ xs. w.acts ++ xs) (sym (ap (drop (length w.acts)) took.acts ∙ drop-append_seam w.acts (any_step x (what_of event)).acts))

pub first_acts : (e : Estate AnyNode) → (moment e 0).acts ≡ []
unfolding start_world
first_acts e = ap (λ (w : World AnyNode). w.acts) (moment_first e)

pub acts_then : (e : Estate AnyNode) (count : ℕ) (event : Event) → slice_get e.events count ≡ Some event
    → (moment e (suc count)).acts ≡ (moment e count).acts ++ acts_in (moment e count) event
acts_then e count event happens =
    ap (λ (w : World AnyNode). w.acts) (moment_next e count event happens) ∙ next_acts (moment e count) event

-- ---- the end of a run

ends_at : (events : List Event) (w end : World AnyNode) → Leads any_step w events end → fold (next_world any_step) w (take (length events) events) ≡ end
ends_at [] w end leads = leads
ends_at (event ∷ events) w end leads = ends_at events (next_world any_step w event) end leads.1

pub last_moment : (e : Estate AnyNode) → IsRun any_step any_start e.script e.events e.world → moment e (length e.events) ≡ e.world
last_moment e run = ends_at e.events (start_world any_start e.script) e.world run

stays_on : (events : List Event) (w end : World AnyNode) → Leads any_step w events end → (a : Act) → In a w.acts → In a end.acts
stays_on [] w end leads a among = subst (λ (v : World AnyNode). In a v.acts) leads among
stays_on (event ∷ events) w end leads a among =
    stays_on events (next_world any_step w event) end leads.1 a (subst (In a) (sym (next_acts w event)) (in_front a w.acts (acts_in w event) among))

stays_from : (events : List Event) (w end : World AnyNode) → Leads any_step w events end → (count : ℕ) (a : Act)
    → In a (fold (next_world any_step) w (take count events)).acts → In a end.acts
stays_from events w end leads zero a among = stays_on events w end leads a among
stays_from [] w end leads (suc count) a among = subst (λ (v : World AnyNode). In a v.acts) leads among
stays_from (event ∷ events) w end leads (suc count) a among = stays_from events (next_world any_step w event) end leads.1 count a among

-- what is acted up to a moment is acted in the run
pub stays : (e : Estate AnyNode) → IsRun any_step any_start e.script e.events e.world → (count : ℕ) (a : Act) → In a (moment e count).acts → In a e.world.acts
stays e run count a among = stays_from e.events (start_world any_start e.script) e.world run count a among
