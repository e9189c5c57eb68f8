-- What becomes chosen happens to the registry of the world, as it is applied.
use Rattle.std.proofs.Common.{◌≡◌, ℕ, true, false, Bool, List, [], ◌∷◌, ◌++◌, if◌then◌else◌, refl, sym, subst, ◌⊎◌, inl, inr}
use Rattle.std.specs.List.{AllByRecursion, fold}
use Rattle.std.specs.Prelude.{None, Option, Some}
use Rattle.xfs_base.proofs.Alls.{all_weaker}
use Rattle.xfs_base.specs.declared.node.NodeId.TheVariants.{Registry}
use Rattle.xfs_base.specs.Steps.{Stepped, still}
use Rattle.registry_node.specs.declared.node.RegistryNode.{RegistryNode}
use Rattle.registry_node.specs.Events.{registry_step}
use Rattle.wire_msg.specs.declared.packet.Do.{Do}
use Rattle.wire_msg.specs.declared.packet.Do.TheVariants.{Begin, Deliver, Tick}
use Rattle.wire_msg.specs.declared.packet.Packet.{Packet}
use Rattle.wire_msg.specs.NodeStep.{NodeStep}
use Rattle.world_base.specs.declared.event.Event.{Event}
use Rattle.world_base.specs.declared.world.World.{World}
use Rattle.world_base.specs.Events.{event_of}
use Rattle.world_base.specs.NextWorld.{clock_after, happen_at, next_world}
use Rattle.world_base.specs.Runs.{Leads, WasSent}
use Rattle.board.specs.declared.command.Command.{Command}
use Rattle.board_world.specs.declared.replica.Replica.{Replica}
use Rattle.board_world.specs.BoardRuns.{MayOffer}
use Rattle.board_world.specs.Projection.{begun_by, event_by, is_due, project, project_all}
use Rattle.board_world.specs.Replicas.{replica_apply, applied_all, at_clock, replica_happen as takes, with_begun}
use Rattle.board_law.specs.OneRun.{as_node}
use Rattle.board_law.proofs.Places.{Stands, nowhere, stands_either, stands_left, stands_right}
use Rattle.board_law.proofs.Worlds.{InWorld, Taken, event_happens, may_happen, registry_place, registry_takes}

-- one list of events after another
pub fold_both : {A B : Type 0} (f : B → A → B) (b : B) (xs ys : List A) → fold f b (xs ++ ys) ≡ fold f (fold f b xs) ys
fold_both f b [] ys = refl
fold_both f b (x ∷ xs) ys = fold_both f (f b x) xs ys

pub leads_both : {N : Type 0} (step : N → Do → NodeStep N) (w v u : World N) (first second : List Event) → Leads step w first v → Leads step v second u
    → Leads step w (first ++ second) u
leads_both step w v u [] second e rest = subst (λ x. Leads step x second u) (sym e) rest
leads_both step w v u (event ∷ first) second leads rest = (leads.0, leads_both step (next_world step w event) v u first second leads.1 rest)

-- an event begins no item by itself
clock_begun : (r : Replica) (what : Do) (o : Option ℕ) → (at_clock r what o).state.begun ≡ r.begun
clock_begun r what None = refl
clock_begun r what (Some clock) = refl

takes_begun : (r : Replica) (what : Do) → (takes r what).state.begun ≡ r.begun
unfolding takes
takes_begun r what = clock_begun r what (clock_after r.clock what)

-- what is known of a command in a world
abbrev pub Known : {N : Type 0} → World N → Command → Type 0
Known w command = MayOffer w command.what

offer_later : {N : Type 0} (w v : World N) → ((packet : Packet) → WasSent w.sent packet → WasSent v.sent packet) → (what : Do) → MayOffer w what → MayOffer v what
offer_later w v later Begin may = tt
offer_later w v later (Deliver packet) may = (later packet may.0, may.1)
offer_later w v later Tick may = tt

pub known_later : {N : Type 0} (w v : World N) → ((packet : Packet) → WasSent w.sent packet → WasSent v.sent packet) → (command : Command) → Known w command
    → Known v command
known_later w v later command known = offer_later w v later command.what known

module _ {N : Type 0} (step : N → Do → NodeStep N) (of : RegistryNode → N) (is : (node : RegistryNode) (what : Do) → step (of node) what ≡ as_node of (registry_step node what))
    (items : ℕ) where
  -- the world after these events
  abbrev pub after : World N → List Event → World N
  after w events = fold (next_world step) w events

  -- Events lead a world with this registry to one with the registry that the same commands make, which sent what they have it send.
  pub record Follows (w : World N) (made : Stepped Replica Packet) (stands_for : Stepped ℕ Event) : Type 0 where
    pub leads : Leads step w stands_for.outs (after w stands_for.outs)
    pub stands : InWorld step of (after w stands_for.outs) made.state
    pub begun : made.state.begun ≡ stands_for.state
    pub later : (packet : Packet) → WasSent w.sent packet → WasSent (after w stands_for.outs).sent packet
    pub sent : (packet : Packet) → Stands made.outs packet → WasSent (after w stands_for.outs).sent packet

  nothing : (w : World N) (r : Replica) → InWorld step of w r → Follows w (still r) (still r.begun)
  nothing w r stands = record { leads = refl; stands = stands; begun = refl; later = λ packet at. at; sent = λ packet at. nowhere packet at }

  module _ (w : World N) (r : Replica) (c : Command) (stands : InWorld step of w r) (known : Known w c) where
    taken : Taken step of w (happen_at step w (registry_place w) c.what) (takes (with_begun r (begun_by r.begun c)) c.what)
    taken = registry_takes step of is w (with_begun r (begun_by r.begun c)) c.what (record { node = stands.node; clock = stands.clock })

    due : Follows w (takes (with_begun r (begun_by r.begun c)) c.what) (event_by r.begun c)
    due =
        let made = takes (with_begun r (begun_by r.begun c)) c.what in
        let next : happen_at step w (registry_place w) c.what ≡ next_world step w (event_of Registry c.what) = sym (event_happens step of w c.what known) in
        let t : Taken step of w (next_world step w (event_of Registry c.what)) made = subst (λ v. Taken step of w v made) next taken in
        record {
          leads = (may_happen step of w c.what known, refl);
          stands = t.stands;
          begun = takes_begun (with_begun r (begun_by r.begun c)) c.what;
          later = λ packet at. subst (λ sent. WasSent sent packet) (sym t.sent) (stands_left w.sent made.outs packet at);
          sent = λ packet at. subst (λ sent. WasSent sent packet) (sym t.sent) (stands_right w.sent made.outs packet at);
        }

    by_due : (t : Bool)
        → Follows w (if t then takes (with_begun r (begun_by r.begun c)) c.what else still r) (if t then event_by r.begun c else still r.begun)
    by_due true = due
    by_due false = nothing w r stands

    one : Follows w (replica_apply items r c) (project items r.begun c)
    unfolding replica_apply project
    one = by_due (is_due items r.begun c)

  sent_by_both : (w : World N) (made : Stepped Replica Packet) (event : Stepped ℕ Event) (commands : List Command) → Follows w made event
      → Follows (after w event.outs) (applied_all items made.state commands) (project_all items event.state commands) → (packet : Packet)
      → Stands made.outs packet ⊎ Stands (applied_all items made.state commands).outs packet
      → WasSent (after (after w event.outs) (project_all items event.state commands).outs).sent packet
  sent_by_both w made event commands f g packet (inl at) = g.later packet (f.sent packet at)
  sent_by_both w made event commands f g packet (inr at) = g.sent packet at

  -- One command after another.
  follows : (w : World N) (r : Replica) (commands : List Command) → InWorld step of w r → AllByRecursion (Known w) commands
      → Follows w (applied_all items r commands) (project_all items r.begun commands)
  follows w r [] stands known = nothing w r stands
  follows w r (c ∷ commands) stands known =
      let made = replica_apply items r c in
      let event = project items r.begun c in
      let f : Follows w made event = one w r c stands known.0 in
      let v = after w event.outs in
      let now = all_weaker (Known w) (Known v) (known_later w v f.later) commands known.1 in
      let g : Follows v (applied_all items made.state commands) (project_all items event.state commands) =
      subst (λ n. Follows v (applied_all items made.state commands) (project_all items n commands)) f.begun (follows v made.state commands f.stands now) in
      let rest = (project_all items event.state commands).outs in
      let both : after v rest ≡ after w (event.outs ++ rest) = sym (fold_both (next_world step) w event.outs rest) in
      record {
        leads = subst (λ u. Leads step w (event.outs ++ rest) u) both (leads_both step w v (after v rest) event.outs rest f.leads g.leads);
        stands = subst (λ u. InWorld step of u (applied_all items made.state commands).state) both g.stands;
        begun = g.begun;
        later = λ packet at. subst (λ (u : World N). WasSent u.sent packet) both (g.later packet (f.later packet at));
        sent = λ packet at. subst (λ (u : World N). WasSent u.sent packet) both (sent_by_both w made event commands f g packet (stands_either made.outs (applied_all items made.state commands).outs packet at));
      }

  -- The same where it is known otherwise how many items are begun.
  pub follows_from : (w : World N) (r : Replica) (begun : ℕ) (commands : List Command) → r.begun ≡ begun → InWorld step of w r → AllByRecursion (Known w) commands
      → Follows w (applied_all items r commands) (project_all items begun commands)
  follows_from w r begun commands same stands known =
      subst (λ n. Follows w (applied_all items r commands) (project_all items n commands)) same (follows w r commands stands known)
