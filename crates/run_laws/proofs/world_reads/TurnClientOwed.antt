-- What an event of a client is owed, of both small worlds of a slot, at a moment that stands to all of them.
use Rattle.std.proofs.Common.{◌≡◌, ℕ, suc, ◌<◌, Bool, true, Some, if◌then◌else◌, slice_get, refl, sym, ap, subst, ◌∙◌, arith}
use Rattle.client_node.specs.declared.client.Client.{Client as ClientNode}
use Rattle.client_node.specs.declared.phase.Phase.TheVariants as clients
use Rattle.client_node.specs.declared.phase.Phase.{Phase}
use Rattle.client_node.specs.Phases.{phase_after, happens, on_deliver, client_tick, takes}
use Rattle.client_serving.specs.declared.lasting.Lasting.{Lasting}
use Rattle.client_serving.specs.declared.serving.Serving.{Serving}
use Rattle.core_world.specs.AnyNode.{any_start, any_step}
use Rattle.core_world.specs.declared.any_node.AnyNode.TheVariants as any
use Rattle.log_owner.specs.declared.opened.Opened.{Opened}
use Rattle.log_owner.specs.declared.opened.Progress.{Progress}
use Rattle.log_owner.specs.declared.opened.Progress.TheVariants as progress
use Rattle.log_owner.specs.declared.opening.Opening.{Opening}
use Rattle.log_owner.specs.Opening as opening
use Rattle.node_base.specs.Setups.{IsSetup}
use Rattle.node_slots.specs.node_tie.ClientEvents.{IsTaken}
use Rattle.run_laws.specs.reopening_law.Openings.{comes_to}
use Rattle.run_laws.specs.reopening_law.Reopens.{TellsApart}
use Rattle.wire_msg.specs.declared.packet.Do.{Do}
use Rattle.wire_msg.specs.declared.packet.Do.TheVariants.{Begin, Deliver, Tick}
use Rattle.wire_msg.specs.declared.packet.Packet.{Packet}
use Rattle.world_base.specs.Cluster.{place_of}
use Rattle.world_base.specs.declared.cluster.Cluster.{Cluster}
use Rattle.world_base.specs.declared.event.Event.{Event}
use Rattle.world_base.specs.Events.{node_of, what_of}
use Rattle.world_base.specs.Runs.{IsRun, MayHappen}
use Rattle.run_laws.proofs.world_law.Places.{behind}
use Rattle.run_laws.proofs.world_law.Sent.{in_list}
use Rattle.run_laws.specs.world_law.Standing.{epoch_now}
use Rattle.headline.specs.Moments.{moment, node_in, node_named}
use Rattle.headline.specs.Logs.Role.{OfClient}
use Rattle.run_laws.proofs.world_reads.ClientLog.{ClientEvent}
use Rattle.run_laws.proofs.world_reads.ClientOwed as owed
use Rattle.run_laws.proofs.world_reads.ClientTold as told
use Rattle.run_laws.proofs.world_reads.KnownLogs.{filed_known}
use Rattle.run_laws.proofs.world_reads.Taking.{Took, took_it}
use Rattle.run_laws.proofs.world_reads.TurnBoth.{both_of, delivered_to, sent_before}
use Rattle.run_laws.proofs.world_reads.TurnMoment as now
use Rattle.run_laws.proofs.world_reads.TurnMoment.{same_client}
use Rattle.run_laws.proofs.world_reads.TurnOwed.{IndexOwed, TokensOwed}
use Rattle.run_laws.proofs.world_reads.TurnRun.{moment_cluster}
use Rattle.run_laws.specs.world_reads.Joint.{Joint, There, k}
use Rattle.run_laws.proofs.world_reads.Joint.{IsSureUpto}
use Rattle.xfs_base.specs.declared.node.NodeId.TheVariants.{Client}
use Rattle.xfs_base.specs.Steps.{still}
use Rattle.xfs_base.specs.Limits.{slot_count}
use Rattle.run_laws.proofs.world_reads.Below.{Below}
use Rattle.run_laws.specs.world_reads.LoggedRuns.{LoggedRun}

-- ---- where the opening of its log ends the client serves then

abbrev ServesThen : ClientNode → Do → Type 0
ServesThen node what = (s : Serving) × ((takes node what).state ≡ clients.Serving s)

by_progress : (l : Lasting) (capacity : ℕ) (p : Progress) (r : Opened) → p ≡ progress.Opened r
    → (s : Serving) × ((phase_after l capacity p).state ≡ clients.Serving s)
by_progress l capacity p r fact = (_, ap (λ (x : Progress). (phase_after l capacity x).state) fact)

module _ (node : ClientNode) (l : Lasting) (o : Opening) (opens : node.phase ≡ clients.Opening l o) (r : Opened) where
  delivered : (q : Packet) → comes_to o l.questions (Deliver q) ≡ progress.Opened r
      → (s : Serving) × ((on_deliver node.cache node.phase q).state ≡ clients.Serving s)
  unfolding on_deliver
  delivered q fact =
      let x = opening.opening_take o l.questions q in
      let s = by_progress (record l { questions = x.questions }) node.cache x.progress r fact in
      (s.0, ap (λ (p : Phase). (on_deliver node.cache p q).state) opens ∙ s.1)

  timed : comes_to o l.questions Tick ≡ progress.Opened r → (s : Serving) × ((client_tick node.cache node.phase).state ≡ clients.Serving s)
  unfolding client_tick
  timed fact =
      let x = opening.on_tick o l.questions in
      let s = by_progress (record l { questions = x.questions }) node.cache x.progress r fact in
      (s.0, ap (λ (p : Phase). (client_tick node.cache p).state) opens ∙ s.1)

  by_do : (what : Do) → IsTaken node what → comes_to o l.questions what ≡ progress.Opened r
      → (s : Serving) × ((happens node what).state ≡ clients.Serving s)
  by_do Begin taken fact = absurd (cc)
  by_do (Deliver q) taken fact =
      let s = delivered q fact in
      (s.0, ap (λ (t : Bool). (if t then on_deliver node.cache node.phase q else still node.phase).state) (taken.formed q refl) ∙ s.1)
  by_do Tick taken fact = timed fact

  pub serves_then : (what : Do) → IsTaken node what → comes_to o l.questions what ≡ progress.Opened r → ServesThen node what
  serves_then what taken fact =
      let s = by_do what taken fact in
      (s.0, ap (λ (t : Bool). (if t then happens node what else still node.phase).state) taken.room ∙ s.1)

-- ---- beside one run

module _ (below : Below) (logged : LoggedRun) (part : ℕ) (of_eight : part < slot_count) (apart : TellsApart logged.base)
    (setup : IsSetup logged.estate.script.setup) (run : IsRun any_step any_start logged.estate.script logged.estate.events logged.estate.world) (count : ℕ)
    (joint : Joint logged part count) (sure : IsSureUpto logged part (suc count)) (event : Event) (at : slice_get logged.estate.events count ≡ Some event)
    (may : MayHappen (moment logged.estate count) event) (c : ℕ) (node : ClientNode) (own : node_of event ≡ Client c)
    (took : Took (moment logged.estate count) event (any.Client node)) where
  open logged use {estate as e, texts, first}

  abbrev cl : Cluster
  cl = k logged part

  there : There logged part (OfClient c)
  there =
      let place : place_of cl (Client c) ≡ Some took.place = subst (λ name. place_of cl name ≡ Some took.place) own
      (subst (λ x. place_of x (node_of event) ≡ Some took.place) (moment_cluster e count) took.placed) in
      let i = behind 0 cl.clients c took.place place in
      (i.some, i.within)

  abbrev x : ClientEvent logged part count c there event node
  x = record {
    few = of_eight;
    apart = apart;
    happens = at;
    cluster = moment_cluster e count;
    own = own;
    took = took;
    joint = joint;
    sure = sure;
  }

  here : node_in (moment e count).nodes (place_of cl (Client c)) ≡ Some (any.Client node)
  here = subst (λ name. node_in (moment e count).nodes (place_of cl name) ≡ Some (any.Client node)) own
      (took_it cl (moment e count) (moment_cluster e count) event (any.Client node) took)

  is_node : joint.tok.client c ≡ node
  is_node = same_client (joint.tok.client c) node
      (sym (now.client_here logged part count (both_of logged part count joint) c there) ∙ here)

  named : node_named (moment e count) (Client c) ≡ Some (any.Client node)
  named = subst (λ cluster. node_in (moment e count).nodes (place_of cluster (Client c)) ≡ Some (any.Client node)) (sym (moment_cluster e count)) here

  -- ---- Polls

  low : owed.PollsAreLow logged part count c there below event node x
  low packet m s fact bears inside serves late =
      below.tokens.epochs.client_polls_are_low true cl part texts.text first (moment e count).nodes (moment e count).sent (moment e count).acts joint.tok joint.idx
      c s m of_eight
      (record { tokens = joint.tokens_stand; index = joint.index_stands; same = joint.slots }) there.0
      (now.member logged part count (both_of logged part count joint) c there)
      (ap (λ (a : ClientNode). a.phase) is_node ∙ serves)
      (record { packet = packet; among = sent_before (moment e count) event may packet fact; bears = bears; of = inside }) late c there.0
      (let less = now.below logged part count (both_of logged part count joint) c there in omega arith)

  -- what the small world of the index is owed
  pub client_owed : IndexOwed logged part count event (both_of logged part count joint) (Client c) (any.Client node)
  client_owed = owed.client_owed logged part count c there below event node x low

  -- ---- what it reads

  reading : told.Reading logged part count c there below event node x
  reading = record {
    known = filed_known logged part count joint;
    told = joint.entries.holds (any.Client node) (in_list (moment e count).nodes took.place (any.Client node) took.stands);
    came = (below.reads.runs_read_what_came e setup run count).nodes (Client c) (any.Client node) named;
    its = below.reads.places.runs_read_their_fetches e count c node named;
    brought = λ p fact. (sent_before (moment e count) event may p fact, delivered_to event p fact ∙ own);
  }

  -- and what that of tokens is
  pub client_told : (adopted : Bool)
      → TokensOwed logged part count event (both_of logged part count joint) adopted (Client c)
      (any.Client node)
  client_told adopted taken =
      told.client_told logged part count c there below event node x
      (λ l o r opens ends. serves_then node l o opens r (what_of event) taken ends) reading (epoch_now cl part joint.tok)
