-- In every run what the cleaner awaits of a block it asked of the segment in hand, of whatever slot the block is: the cleaner alone sends Checks, and it gives
-- no number to two questions.
use Rattle.std.proofs.Common.{◌≡◌, ◌⊎◌, ◌<◌, ℕ, zero, suc, true, List, [], ◌∷◌, ◌++◌, Option, None, Some, map, take, slice_get, slice_set, inl, inr, refl, sym, ap, subst, ◌∙◌, arith}
use Rattle.std.specs.Prelude.{IfSome}
use Rattle.std.specs.List.{fold}
use Rattle.cleaner_serving.specs.declared.emptying.Emptying.{Emptying}
use Rattle.cleaner_node.specs.CleanerEvents as cleaners
use Rattle.cleaner_node.specs.CleanerEvents.{phase_has_room}
use Rattle.cleaner_node.specs.declared.cleaner.Cleaner.{Cleaner as CleanerNode}
use Rattle.cleaner_node.specs.declared.cleaner.Phase.TheVariants.{Serving}
use Rattle.cleaner_job.specs.declared.hand.Hand.{Hand}
use Rattle.cleaner_job.specs.declared.job.Job.{Job}
use Rattle.cleaner_job.specs.Jobs.{check_of, hand_of}
use Rattle.client_node.specs.Phases as clients
use Rattle.core_world.specs.AnyNode.{any_start, any_step}
use Rattle.core_world.specs.declared.any_node.AnyNode.{AnyNode}
use Rattle.core_world.specs.declared.any_node.AnyNode.TheVariants as any
use Rattle.index_tie.specs.Net.{IsInHand}
use Rattle.manager_node.specs.Events as managers
use Rattle.manager_node.specs.Phases.{lasting_of}
use Rattle.node_base.specs.declared.effects.Effect.{Effect}
use Rattle.node_base.specs.declared.effects.Effect.TheVariants.{Send, Answer, Lose, Does}
use Rattle.node_base.specs.declared.questions.Questions.{Questions}
use Rattle.node_base.specs.Effects.{packets_of}
use Rattle.node_base.specs.Setups.{IsSetup}
use Rattle.node_logs.proofs.node_log_tie.Others.{same_or_other}
use Rattle.run_laws.specs.place_law.Copies.{AsksOfHand}
use Rattle.run_laws.proofs.reading_law.Maps.{KindOf, kind_starts, kind_stays}
use Rattle.registry_node.specs.Events as registries
use Rattle.store_nodes.specs.ServerEvents as servers
use Rattle.stripe_cleaner.specs.declared.phase.Phase.{Phase}
use Rattle.stripe_cleaner.specs.declared.phase.Phase.TheVariants.{Greeting, Listing, Counting, Reading, Checking, Deleting, Over}
use Rattle.token_protocol.specs.Basics.{In}
use Rattle.version_model.specs.declared.work.Work.{Work}
use Rattle.wire_msg.specs.declared.body.Body.TheVariants as body
use Rattle.wire_msg.specs.declared.cleaning.Check.{Check}
use Rattle.wire_msg.specs.declared.packet.Do.{Do}
use Rattle.wire_msg.specs.declared.packet.Packet.{Packet}
use Rattle.world_base.specs.Cluster.{cluster_of, place_of}
use Rattle.world_base.specs.declared.cluster.Cluster.{Cluster}
use Rattle.world_base.specs.declared.estate.Estate.{Estate}
use Rattle.world_base.specs.declared.event.Event.{Event}
use Rattle.world_base.specs.declared.world.World.{World}
use Rattle.world_base.specs.Events.{node_of, what_of}
use Rattle.world_base.specs.Items.{items_of}
use Rattle.world_base.specs.NextWorld.{first_nodes, next_world, sent_at, start_world}
use Rattle.world_base.specs.Runs.{IsRun, Leads}
use Rattle.run_laws.proofs.world_index.Asking.{AsksIn, EffectAsks, book_with, cleaner_fewer}
use Rattle.run_laws.proofs.world_index.AskingTurns.{asks_kept}
use Rattle.run_laws.proofs.world_index.Senders.{IsCleaner, IsKind, IsSentBy, kinds_of_tokens}
use Rattle.run_laws.specs.world_index.Asking.{AsksSo, Book, CleanerAsks, HandIn, IsOfJob, JobAsks}
use Rattle.run_laws.proofs.world_law.Laws as tokens
use Rattle.run_laws.proofs.world_law.Laws.{one_node}
use Rattle.run_laws.proofs.world_law.Nodes as places
use Rattle.run_laws.proofs.world_law.Sent.{in_append, sends}
use Rattle.run_laws.proofs.world_law.Start.{first_stands}
use Rattle.run_laws.proofs.world_law.Turning.{next_cluster, next_keeps}
use Rattle.headline.specs.Moments.{moment, node_in}
use Rattle.run_laws.proofs.world_reads.CleanerOwed.{room_below}
use Rattle.xfs_base.specs.Limits.{u32_end}
use Rattle.xfs_base.specs.declared.block.BlockId.{BlockId}
use Rattle.xfs_base.specs.declared.node.NodeId.{NodeId}
use Rattle.xfs_base.specs.declared.node.NodeId.TheVariants.{Client, Manager, Server, Cleaner, Registry}
use Rattle.xfs_base.specs.declared.segment.SegName.{SegName}
use Rattle.xfs_base.specs.declared.setup.Setup.{Setup}

-- ---- what was asked

-- a Check under this question, of a segment of this name, is among these packets
pub record WasAsked (packets : List Packet) (ask : ℕ) (name : SegName) : Type 0 where
  pub packet : Packet
  pub among : In packet packets
  pub check : Check
  pub bears : packet.body ≡ body.Check check
  pub ask_is : check.ask ≡ ask
  pub name_is : check.place.seg.name ≡ name

abbrev pub book_of : List Packet → Book
book_of packets ask name = WasAsked packets ask name

-- a Check among what is sent is among what is done
asked_in : (node : NodeId) (clock : ℕ) (outs : List Effect) (q : Packet) (m : Check) (ask : ℕ) (name : SegName)
    → In q (map (sent_at clock) (packets_of node outs)) → q.body ≡ body.Check m → m.ask ≡ ask → m.place.seg.name ≡ name → AsksIn outs ask name
asked_in node clock [] q m ask name among fact same its = absurd among
asked_in node clock (Send to said ∷ outs) q m ask name (inl first) fact same its =
    inl (subst (λ b. EffectAsks (Send to b) ask name) (sym fact ∙ ap (λ (x : Packet). x.body) first) (same, its))
asked_in node clock (Send to said ∷ outs) q m ask name (inr later) fact same its = inr (asked_in node clock outs q m ask name later fact same its)
asked_in node clock (Answer item answer ∷ outs) q m ask name among fact same its = inr (asked_in node clock outs q m ask name among fact same its)
asked_in node clock (Lose seg ∷ outs) q m ask name among fact same its = inr (asked_in node clock outs q m ask name among fact same its)
asked_in node clock (Does act ∷ outs) q m ask name among fact same its = inr (asked_in node clock outs q m ask name among fact same its)

-- ---- a node

-- what the cleaner awaits it asked so
abbrev pub AnyAsks : Book → AnyNode → Type 0
AnyAsks book (any.Client node) = Unit {0}
AnyAsks book (any.Manager node) = Unit {0}
AnyAsks book (any.Server node) = Unit {0}
AnyAsks book (any.Cleaner node) = CleanerAsks book node.phase
AnyAsks book (any.Registry node) = Unit {0}

any_fewer : (book fewer : Book) → ((ask : ℕ) (name : SegName) → fewer ask name → book ask name) → (x : AnyNode) → AnyAsks book x → AnyAsks fewer x
any_fewer book fewer sub (any.Client node) h = tt
any_fewer book fewer sub (any.Manager node) h = tt
any_fewer book fewer sub (any.Server node) h = tt
any_fewer book fewer sub (any.Cleaner node) h = cleaner_fewer book fewer sub node.phase h
any_fewer book fewer sub (any.Registry node) h = tt

-- at the start nothing was asked
no_book : (ask : ℕ) (name : SegName) → book_of [] ask name → ⊥
no_book ask name was = was.among

any_starts : (name : NodeId) (setup : Setup) (items : List Work) → AnyAsks (book_of []) (any_start name setup items)
any_starts (Client c) setup items = tt
any_starts (Manager j) setup items = tt
any_starts (Server v) setup items = tt
any_starts Cleaner setup items = record { drawn = λ room ask name was. absurd (no_book ask name was); job = tt }
any_starts Registry setup items = tt

-- which node may send a Check
its_name : (x : AnyNode) (what : Do) (clock : ℕ) (q : Packet) → In q (map (sent_at clock) (any_step x what).packets) → IsCleaner q.from → (name : NodeId)
    → KindOf x name
    → (node : CleanerNode) × (x ≡ any.Cleaner node)
its_name (any.Client node) what clock q among fact name kind =
    absurd (subst IsCleaner
    (sends (Client (clients.lasting_of node.phase).number) clock (λ e. Unit {0})
    (λ (p : Packet). p.from ≡ Client (clients.lasting_of node.phase).number) (λ to said d. refl) (clients.takes node what).outs (λ i d less. tt) q among) fact)
its_name (any.Manager node) what clock q among fact name kind =
    absurd (subst IsCleaner
    (sends (Manager (lasting_of node.phase).number) clock (λ e. Unit {0}) (λ (p : Packet). p.from ≡ Manager (lasting_of node.phase).number)
    (λ to said d. refl) (managers.happens node what).outs (λ i d less. tt) q among) fact)
its_name (any.Server node) what clock q among fact name kind =
    absurd (subst IsCleaner
    (sends (Server node.number) clock (λ e. Unit {0}) (λ (p : Packet). p.from ≡ Server node.number) (λ to said d. refl) (servers.takes node what).outs
    (λ i d less. tt) q among) fact)
its_name (any.Cleaner node) what clock q among fact name kind = (node, refl)
its_name (any.Registry node) what clock q among fact name kind =
    absurd (subst IsCleaner
    (sends Registry clock (λ e. Unit {0}) (λ (p : Packet). p.from ≡ Registry) (λ to said d. refl) (registries.takes node what).outs (λ i d less. tt) q among)
    fact)

cleaner_named : (node : CleanerNode) (name : NodeId) → KindOf (any.Cleaner node) name → name ≡ Cleaner
cleaner_named node (Client c) fact = absurd fact
cleaner_named node (Manager j) fact = absurd fact
cleaner_named node (Server v) fact = absurd fact
cleaner_named node Cleaner fact = refl
cleaner_named node Registry fact = absurd fact

-- ---- a moment

-- the node of a name is of its kind, and what it awaits it asked so
pub record NodeSo (sent : List Packet) (name : NodeId) (x : AnyNode) : Type 0 where
  pub kind : KindOf x name
  pub asks : AnyAsks (book_of sent) x

abbrev pub Good : Cluster → List AnyNode → List Packet → Type 0
Good k all sent = (name : NodeId) (x : AnyNode) → node_in all (place_of k name) ≡ Some x → NodeSo sent name x

abbrev pub Known : List Packet → Type 0
Known sent = (q : Packet) → In q sent → IsKind q

-- ---- an event

module _ (k : Cluster) (w : World AnyNode) (event : Event) (good : Good k w.nodes w.sent) (place : ℕ) (x : AnyNode) (clock : ℕ)
    (at : place_of k (node_of event) ≡ Some place) (fact : slice_get w.nodes place ≡ Some x) where
  abbrev name : NodeId
  name = node_of event

  abbrev what : Do
  what = what_of event

  abbrev y : AnyNode
  y = (any_step x what).node

  abbrev new : List Packet
  new = map (sent_at clock) (any_step x what).packets

  abbrev later : List AnyNode
  later = slice_set w.nodes place y

  abbrev sent : List Packet
  sent = w.sent ++ new

  here : node_in later (place_of k name) ≡ Some y
  here = places.here k w.nodes name place at y x fact

  its : NodeSo w.sent name x
  its = good name x (ap (node_in w.nodes) at ∙ fact)

  -- what was asked then was asked before, or is asked by the cleaner in the event
  either : (ask : ℕ) (seg : SegName) (P : Type 0) → book_of sent ask seg → (book_of w.sent ask seg → P)
      → ((q : Packet) (m : Check) → In q new → q.body ≡ body.Check m → m.ask ≡ ask → m.place.seg.name ≡ seg → P) → P
  either ask seg P was old fresh = elim (in_append w.sent new was.packet was.among) [
    | inl among ↦ old (record { packet = was.packet; among = among; check = was.check; bears = was.bears; ask_is = was.ask_is; name_is = was.name_is })
    | inr among ↦ fresh was.packet was.check among was.bears was.ask_is was.name_is
  ]

  module _ (known : Known sent) where
    -- who asks in the event is the cleaner
    asker : (q : Packet) (m : Check) → In q new → q.body ≡ body.Check m → (node : CleanerNode) × (x ≡ any.Cleaner node)
    asker q m among is_check =
        its_name x what clock q among (subst (IsSentBy q.from) is_check (known q (after w.sent new q among))) name its.kind
      where
        after : (xs ys : List Packet) (q : Packet) → In q ys → In q (xs ++ ys)
        after [] ys q h = h
        after (z ∷ xs) ys q h = inr (after xs ys q h)

    turn_asks : (z : AnyNode) → x ≡ z → AnyAsks (book_of sent) (any_step z what).node
    turn_asks (any.Client node) same = tt
    turn_asks (any.Manager node) same = tt
    turn_asks (any.Server node) same = tt
    turn_asks (any.Registry node) same = tt
    turn_asks (any.Cleaner node) same =
        let outs : List Effect = (cleaners.takes node.peers node.phase what).outs in
        cleaner_fewer (book_with (book_of w.sent) outs) (book_of sent)
        (λ ask seg was. either ask seg (book_with (book_of w.sent) outs ask seg) was (λ old. inl old)
        (λ q m among is_check ask_is name_is. inr
        (asked_in Cleaner clock outs q m ask seg
        (subst (λ (z : AnyNode). In q (map (sent_at clock) (any_step z what).packets)) same among) is_check ask_is name_is)))
        (cleaners.takes node.peers node.phase what).state
        (asks_kept (book_of w.sent) node.peers node.phase what (subst (AnyAsks (book_of w.sent)) same its.asks))

    its_turn : NodeSo sent name y
    its_turn = record { kind = kind_stays x name what its.kind; asks = turn_asks x refl }

    -- another node is the cleaner only where no Check is sent
    other_asks : (other : NodeId) (z : AnyNode) → (other ≡ name → ⊥) → NodeSo w.sent other z → AnyAsks (book_of sent) z
    other_asks other (any.Client node) differs h = tt
    other_asks other (any.Manager node) differs h = tt
    other_asks other (any.Server node) differs h = tt
    other_asks other (any.Registry node) differs h = tt
    other_asks other (any.Cleaner node) differs h =
        any_fewer (book_of w.sent) (book_of sent)
        (λ ask seg was. either ask seg (book_of w.sent ask seg) was (λ old. old)
        (λ q m among is_check ask_is name_is.
        let a = asker q m among is_check in
        absurd (differs (cleaner_named node other h.kind ∙ sym (cleaner_named a.0 name (subst (λ (x : AnyNode). KindOf x name) a.1 its.kind))))))
        (any.Cleaner node) h.asks

    turned : Good k later sent
    turned other z found = by (same_or_other other name)
      where
        by : (other ≡ name) ⊎ (other ≡ name → ⊥) → NodeSo sent other z
        by (inl same) =
            let now : node_in later (place_of k name) ≡ Some z = subst (λ n. node_in later (place_of k n) ≡ Some z) same found in
            subst (λ n. NodeSo sent n z) (sym same) (subst (NodeSo sent name) (one_node y z (sym here ∙ now)) its_turn)
        by (inr differs) =
            let was : NodeSo w.sent other z = good other z (sym (places.there k w.nodes name place at y other differs) ∙ found) in
            record { kind = was.kind; asks = other_asks other z differs was }

event_keeps : (k : Cluster) (w : World AnyNode) → w.cluster ≡ k → (event : Event) → Good k w.nodes w.sent → Known (next_world any_step w event).sent
    → Good k (next_world any_step w event).nodes (next_world any_step w event).sent
event_keeps k w cluster event good known =
    next_keeps any_step (λ all sent acts. Known sent → Good k all sent) w event (λ _. good)
    (λ place x clock at fact. turned k w event good place x clock (subst (λ c. place_of c (node_of event) ≡ Some place) cluster at) fact) known

-- ---- a run

module _ (laws : tokens.NodeLaws) (k : Cluster) where
  abbrev Tokens : World AnyNode → Type 0
  Tokens w = tokens.GoodWorld laws k 0 (omega arith) w

  front_keeps : (events : List Event) (count : ℕ) (w end : World AnyNode) → w.cluster ≡ k → Leads any_step w events end → Tokens w → Good k w.nodes w.sent
      → Good k (fold (next_world any_step) w (take count events)).nodes (fold (next_world any_step) w (take count events)).sent
  front_keeps [] zero w end cluster leads tok good = good
  front_keeps [] (suc count) w end cluster leads tok good = good
  front_keeps (event ∷ more) zero w end cluster leads tok good = good
  front_keeps (event ∷ more) (suc count) w end cluster leads tok good =
      let next : World AnyNode = next_world any_step w event in
      let next_tok : Tokens next = tokens.event_keeps laws k 0 (omega arith) w cluster event leads.0 tok in
      front_keeps more count next end (next_cluster any_step w event ∙ cluster) leads.1 next_tok
      (event_keeps k w cluster event good (λ q among. kinds_of_tokens k 0 next_tok.0 q (next_tok.1.facts q among)))

module _ (laws : tokens.NodeLaws) (e : Estate AnyNode) (ok : IsSetup e.script.setup) (run : IsRun any_step any_start e.script e.events e.world) where
  abbrev cluster : Cluster
  cluster = cluster_of e.script.setup

  start_node : (name : NodeId) (x : AnyNode) → node_in (first_nodes any_start e.script cluster) (place_of cluster name) ≡ Some x → NodeSo [] name x
  start_node name x found = by (place_of cluster name) refl
    where
      by : (o : Option ℕ) → place_of cluster name ≡ o → NodeSo [] name x
      by None at = (let clash : None ≡ Some x = sym (ap (node_in (first_nodes any_start e.script cluster)) at) ∙ found in absurd cc)
      by (Some place) at =
          let items = items_of e.script.lines name in
          subst (NodeSo [] name) (one_node (any_start name e.script.setup items) x (sym (first_stands e.script name place at) ∙ found))
          (record { kind = kind_starts name e.script.setup items; asks = any_starts name e.script.setup items })

  start_good : Good cluster (start_world any_start e.script).nodes (start_world any_start e.script).sent
  unfolding start_world
  start_good = start_node

  start_cluster : (start_world any_start e.script).cluster ≡ cluster
  unfolding start_world
  start_cluster = refl

  good_at : (count : ℕ) → Good cluster (moment e count).nodes (moment e count).sent
  good_at count =
      front_keeps laws cluster e.events count (start_world any_start e.script) e.world start_cluster run
      (tokens.front laws e ok run 0 0 (omega arith)).1 start_good

  -- ---- what is awaited

  in_hand : (p : Phase) (held seen : SegName) → IsOfJob p held → held ≡ seen → IsInHand seen p
  in_hand Greeting held seen of fact = tt
  in_hand (Listing l) held seen of fact = tt
  in_hand (Counting c) held seen of fact = tt
  in_hand (Reading j seg) held seen of fact = tt
  in_hand (Checking j seg checks) held seen of fact = of ∙ fact
  in_hand (Deleting j seg servers) held seen of fact = tt
  in_hand Over held seen of fact = tt

  module _ (book : Book) (q : Questions) (room : q.last < u32_end) (block : BlockId) (ask : ℕ) (name : SegName) (was : book ask name) where
    of_hand : (p : Phase) (o : Option Hand) → HandIn book q p o → check_of o block ≡ Some ask → IsInHand name p
    of_hand p None asks awaited = absurd cc
    of_hand p (Some hand) asks awaited = in_hand p hand.seg.name name asks.job (asks.asks.named room block ask name awaited was)

    of_job : (o : Option Job) → JobAsks book q o → check_of (hand_of o) block ≡ Some ask → IfSome o (λ job. IsInHand name job.cleaning.phase)
    of_job None asks awaited = absurd cc
    of_job (Some job) asks awaited = of_hand job.cleaning.phase job.hand asks awaited

  -- what the cleaner awaits it asked of the segment in hand, where no counter is near its end
  pub asks_of_hand : (count : ℕ) (node : CleanerNode) → node_in (moment e count).nodes (place_of cluster Cleaner) ≡ Some (any.Cleaner node)
      → (v : Emptying) → node.phase ≡ Serving v → phase_has_room node.phase ≡ true → AsksOfHand (moment e count).sent v
  asks_of_hand count node here_is v serves room block ask place awaited was =
      let asks : CleanerAsks (book_of (moment e count).sent) node.phase = (good_at count Cleaner (any.Cleaner node) here_is).asks in
      let its_asks : AsksSo (book_of (moment e count).sent) v.lasting.questions v.job = subst (CleanerAsks (book_of (moment e count).sent)) serves asks in
      of_job (book_of (moment e count).sent) v.lasting.questions
      (room_below (Serving v) (subst (λ p. phase_has_room p ≡ true) serves room)) block ask place.seg.name
      (record {
        packet = was.packet;
        among = was.among;
        check = record { block = block; place = place; ask = ask };
        bears = was.bears;
        ask_is = refl;
        name_is = refl;
      }) v.job its_asks.job awaited
