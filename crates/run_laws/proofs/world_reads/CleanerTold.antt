-- What the small world of tokens is owed of an event of the cleaner it gets: where an opening ends in it its log is open as the books are, and a Live that
-- comes tells a copy.
use Rattle.std.proofs.Common.{◌≡◌, ℕ, Bool, true, false, List, refl, sym, ap, subst, ◌∙◌}
use Rattle.cleaner_serving.specs.declared.emptying.Emptying.{Emptying}
use Rattle.cleaner_node.specs.CleanerEvents.{takes}
use Rattle.cleaner_node.specs.declared.cleaner.Cleaner.{Cleaner as CleanerNode}
use Rattle.cleaner_node.specs.declared.cleaner.Phase as cleaning
use Rattle.cleaner_node.specs.declared.cleaner.Phase.TheVariants.{Down, Opening, Serving}
use Rattle.cleaner_job.specs.declared.lasting.Lasting.{Lasting}
use Rattle.client_log.specs.LogState.{LogState}
use Rattle.client_node.specs.Crash.{flight_of}
use Rattle.core_world.specs.AnyNode.{any_start, any_step}
use Rattle.core_world.specs.declared.any_node.AnyNode.TheVariants as any
use Rattle.log_law.specs.Net.Owner.{Writing}
use Rattle.log_law.specs.Restarts.{last_flight}
use Rattle.log_owner.specs.Opened.{names_in}
use Rattle.log_owner.specs.declared.opened.Opened.{Opened}
use Rattle.log_owner.specs.declared.opened.Progress.{Progress}
use Rattle.log_owner.specs.declared.opened.Progress.TheVariants as progress
use Rattle.log_owner.specs.declared.opening.Opening as openings
use Rattle.node_base.specs.Setups.{IsSetup}
use Rattle.node_slots.specs.node_tie.CleanerEvents as token
use Rattle.node_slots.specs.node_tie.CleanerLogs.{CleanerTold, EndsAt, PacketTold, ReopensAt, ServingTold}
use Rattle.run_laws.specs.reopening_law.Openings.{comes_to}
use Rattle.run_laws.specs.reopening_law.Reopens.{has_flight}
use Rattle.segment_format.specs.declared.segment.Segment.{Segment}
use Rattle.version_model.specs.Effects.{holds_flight}
use Rattle.wire_msg.specs.declared.body.Body.{Body}
use Rattle.wire_msg.specs.declared.body.Body.TheVariants as body
use Rattle.wire_msg.specs.declared.packet.Do.{Do}
use Rattle.wire_msg.specs.declared.packet.Do.TheVariants.{Begin, Deliver, Tick}
use Rattle.wire_msg.specs.declared.packet.Packet.{Packet}
use Rattle.world_base.specs.Runs.{IsRun}
use Rattle.run_laws.proofs.world_law.Owes.{TurnOwes}
use Rattle.run_laws.proofs.world_reads.CleanerGets.{has_job}
use Rattle.run_laws.proofs.world_reads.CleanerHand.{asks_of_hand}
use Rattle.run_laws.proofs.world_reads.CleanerMoment.{its_moment, its_scene}
use Rattle.run_laws.proofs.world_reads.CleanerNames.{all_exact}
use Rattle.run_laws.proofs.world_reads.CleanerOwed.{Beside}
use Rattle.run_laws.proofs.world_reads.CleanerReopening.{adopts, came, reopens, reopens_at}
use Rattle.run_laws.proofs.world_reads.CleanerTelling.{IsTaken, live_told, serves_then}
use Rattle.run_laws.specs.world_reads.Joint.{Joint}
use Rattle.xfs_base.specs.declared.node.NodeId.TheVariants.{Cleaner}
use Rattle.run_laws.proofs.world_reads.Below.{Below}
use Rattle.run_laws.specs.world_reads.LoggedRuns.{LoggedRun}

module _ (law : Below) (logged : LoggedRun) (ok : IsSetup logged.estate.script.setup)
    (run : IsRun any_step any_start logged.estate.script logged.estate.events logged.estate.world) (part count : ℕ) (joint : Joint logged part count)
    (node : CleanerNode) (what : Do) (beside : Beside law logged part count joint node what) where
  open logged use {estate as e}

  abbrev p : cleaning.Phase
  p = node.phase

  abbrev q : cleaning.Phase
  q = (takes node.peers p what).state

  -- ---- an opening that ends

  -- whether it adopts what was in flight; where it doesn't end nothing is said
  adopted_by : (r : cleaning.Phase) → p ≡ r → (s : cleaning.Phase) → q ≡ s → Bool
  adopted_by (Opening l o) fact (Serving v) then_is =
      has_flight (reopens law logged part count joint node what beside.steps beside.straight beside.apart beside.sure
      l o v fact then_is)
  adopted_by (Opening l o) fact (Down m) then_is = false
  adopted_by (Opening l o) fact (Opening m z) then_is = false
  adopted_by (Down l) fact s then_is = false
  adopted_by (Serving v) fact s then_is = false

  pub adopted : Bool
  adopted = adopted_by p refl q refl

  -- where it ends it does just where the chain that was read back has that
  pub adopts_flight : (l : Lasting) (o : openings.Opening) (v : Emptying) → p ≡ Opening l o → q ≡ Serving v → (chain : List Segment) (s : LogState)
      → (its_scene logged part count).net.owner ≡ Writing chain s
      → adopted ≡ holds_flight (names_in chain) (flight_of (last_flight (its_moment logged part count).run))
  unfolding adopted adopted_by
  adopts_flight l o v opens serves chain s writes = by p refl q refl opens serves
    where
      by : (r : cleaning.Phase) (fact : p ≡ r) (t : cleaning.Phase) (then_is : q ≡ t) → r ≡ Opening l o → t ≡ Serving v
          → adopted_by r fact t then_is ≡ holds_flight (names_in chain) (flight_of (last_flight (its_moment logged part count).run))
      by (Opening a z) fact (Serving u) then_is opens serves =
          adopts law logged part count joint node what beside.steps beside.straight beside.apart beside.sure a z u fact
          then_is chain s writes
      by (Opening a z) fact (Down m) then_is opens serves = absurd (cc)
      by (Opening a z) fact (Opening m y) then_is opens serves = absurd (cc)
      by (Down a) fact t then_is opens serves = absurd (cc)
      by (Serving u) fact t then_is opens serves = absurd (cc)

  module _ (taken : token.IsTaken node what) where
    one_opened : (a b : Opened) → progress.Opened a ≡ progress.Opened b → a ≡ b
    one_opened a b fact = cc

    its_taken : (r : cleaning.Phase) → p ≡ r → IsTaken node.peers r what
    its_taken r fact = subst (λ (y : cleaning.Phase). IsTaken node.peers y what) fact (record { room = taken.room; formed = taken.formed })

    -- one whose opening ends serves then
    up_then : (l : Lasting) (o : openings.Opening) (r : Opened) → p ≡ Opening l o → comes_to o l.questions what ≡ progress.Opened r
        → (v : Emptying) × (q ≡ Serving v)
    up_then l o r fact comes =
        let s = serves_then l o node.peers r what (its_taken (Opening l o) fact) comes in
        (s.0, ap (λ (y : cleaning.Phase). (takes node.peers y what).state) fact ∙ s.1)

    down_is : (a : Lasting) (v : Emptying) → Down a ≡ Serving v → ⊥
    down_is a v fact = absurd cc

    opening_is : (a : Lasting) (z : openings.Opening) (v : Emptying) → Opening a z ≡ Serving v → ⊥
    opening_is a z v fact = absurd cc

    ends_so : (l : Lasting) (o : openings.Opening) (fact : p ≡ Opening l o) (s : cleaning.Phase) (then_is : q ≡ s) (x : Progress)
        → comes_to o l.questions what ≡ x
        → EndsAt joint.tok.net.books (adopted_by (Opening l o) fact s then_is) x
    unfolding adopted_by
    ends_so l o fact s then_is (progress.Opening z) comes = tt
    ends_so l o fact s then_is (progress.Lost seg) comes = tt
    ends_so l o fact (Serving v) then_is (progress.Opened r) comes =
        let c = came law logged part count joint node what beside.steps beside.straight beside.apart beside.sure
        l o v fact then_is in
        subst (ReopensAt joint.tok.net.books (adopted_by (Opening l o) fact (Serving v) then_is)) (one_opened c.opened r (sym c.comes ∙ comes))
        (reopens_at law logged part count joint node what beside.steps beside.straight beside.apart beside.sure
        l o v fact then_is)
    ends_so l o fact (Down m) then_is (progress.Opened r) comes =
        (let u = up_then l o r fact comes in absurd (down_is m u.0 (sym then_is ∙ u.1)))
    ends_so l o fact (Opening m z) then_is (progress.Opened r) comes =
        (let u = up_then l o r fact comes in absurd (opening_is m z u.0 (sym then_is ∙ u.1)))

    -- ---- a Live

    serving_told : (v : Emptying) → p ≡ Serving v → (k : Packet) → what ≡ Deliver k → (m : Body) → k.body ≡ m → ServingTold joint.tok.net.books v m
    serving_told v fact k brings (body.Live m) bears =
        live_told law logged part count joint node what beside.of_eight
        (all_exact joint.idx.net.filed joint.tells) (law.reads.places.runs_answer e count ok run) v
        (has_job law logged part count joint node
        beside.steps.before beside.ours beside.reached beside.came beside.named v fact)
        (asks_of_hand law.tokens.nodes e ok run count node beside.steps.before v fact taken.room) k m (beside.brought k brings).0 bears
    serving_told v fact k brings _ bears = tt

    -- ---- the event

    packet_told : (k : Packet) → what ≡ Deliver k → (r : cleaning.Phase) (fact : p ≡ r) (s : cleaning.Phase) (then_is : q ≡ s)
        → PacketTold joint.tok.net.books (adopted_by r fact s then_is) r k
    packet_told k brings (Down l) fact s then_is = tt
    packet_told k brings (Opening l o) fact s then_is = ends_so l o fact s then_is (comes_to o l.questions (Deliver k)) (ap (comes_to o l.questions) brings)
    packet_told k brings (Serving v) fact s then_is = serving_told v fact k brings k.body refl

    told_so : (d : Do) → what ≡ d → (r : cleaning.Phase) (fact : p ≡ r) (s : cleaning.Phase) (then_is : q ≡ s)
        → CleanerTold joint.tok.net.books (adopted_by r fact s then_is) r d
    told_so Begin brings r fact s then_is = tt
    told_so (Deliver k) brings r fact s then_is = packet_told k brings r fact s then_is
    told_so Tick brings (Down l) fact s then_is = tt
    told_so Tick brings (Opening l o) fact s then_is = ends_so l o fact s then_is (comes_to o l.questions Tick) (ap (comes_to o l.questions) brings)
    told_so Tick brings (Serving v) fact s then_is = tt

  -- what its event is owed, where it is taken
  pub cleaner_told : (members limit : ℕ) → TurnOwes true adopted members part limit joint.tok.net Cleaner (any.Cleaner node) what
  unfolding adopted
  cleaner_told members limit taken = told_so taken what refl p refl q refl
