-- What clients act names them, and counts from 1: that they fell, what they had in flight; and that they are back, the chain that was found.
use Rattle.std.proofs.Common.{◌≡◌, ◌-◌, ℕ, suc, true, cond, nat_lt, List, [], ◌∷◌, ◌++◌, Option, Some, None, inl, inr, refl, sym, ap, subst, ◌∙◌}
use Rattle.std.specs.Prelude.{slice_get}
use Rattle.std.specs.List.{AllByRecursion}
use Rattle.client_node.specs.Crash.{flight_of}
use Rattle.client_node.specs.declared.client.Client.{Client as AClient}
use Rattle.client_node.specs.declared.phase.Phase.{Phase}
use Rattle.client_node.specs.declared.phase.Phase.TheVariants.{Down, Opening, Serving as Serves}
use Rattle.client_node.specs.Phases.{Went_to, begins_item, client_has_room, client_step, happens, lasting_of, on_begin, serving_begins, takes, wish_of}
use Rattle.client_serving.specs.declared.lasting.Lasting.{Lasting}
use Rattle.client_serving.specs.declared.serving.Serving.{Serving}
use Rattle.core_world.specs.AnyNode.{any_step}
use Rattle.core_world.specs.declared.any_node.AnyNode.{AnyNode}
use Rattle.core_world.specs.declared.any_node.AnyNode.TheVariants as any
use Rattle.headline.specs.Calls.{DoesServe, IsClients, IsCrash, Opens, is_of_items, of_items}
use Rattle.headline.specs.Logs.{IsThere}
use Rattle.headline.specs.Logs.Role.{OfClient}
use Rattle.headline.specs.Moments.{moment, node_in, node_named}
use Rattle.journal_law.specs.Told.{IsClient}
use Rattle.log_law.specs.Held.{OwnerFlew}
use Rattle.log_law.specs.LogLaws.{LogLaws}
use Rattle.log_owner.specs.declared.opened.Opened.{Opened}
use Rattle.log_owner.specs.declared.opened.Progress.TheVariants as progress
use Rattle.log_owner.specs.declared.opening.Opening as openings
use Rattle.log_tie.specs.Setting.{Setting}
use Rattle.node_base.specs.Beginning.{answers_unanswered, items_begin, work_at}
use Rattle.node_base.specs.declared.effects.Effect.{Effect}
use Rattle.node_base.specs.declared.effects.Effect.TheVariants.{Send, Answer as Answers, Lose, Does}
use Rattle.node_base.specs.declared.items.Items.{Items}
use Rattle.node_base.specs.Effects.{acts_of}
use Rattle.node_base.specs.Setups.{IsSetup}
use Rattle.node_logs.proofs.node_log_tie.Lists.{in_filter}
use Rattle.node_logs.specs.client_log_tie.Owner as owner
use Rattle.run_answers.proofs.once_law.Items.{begun_works}
use Rattle.run_answers.specs.own_law.Runs.{EachRunsClientsActForItems}
use Rattle.run_laws.proofs.world_reads.Taking.{moment_next, node_then}
use Rattle.run_laws.proofs.world_reads.TurnRun.{moment_cluster}
use Rattle.run_laws.specs.reopening_law.Openings.{ClientsComeBack, ComesBack, EndsByOne, EndsSo, OpeningsEndByOne, comes_to}
use Rattle.run_laws.specs.world_logs.Lines.{HasLines, Line, setting}
use Rattle.token_protocol.specs.Basics.{In}
use Rattle.version_model.specs.declared.act.Act.{Act}
use Rattle.version_model.specs.declared.act.Act.TheVariants as act
use Rattle.version_model.specs.declared.act.Fall.{Fall}
use Rattle.version_model.specs.declared.answer.Answer.{Answer}
use Rattle.version_model.specs.declared.answer.Answer.TheVariants as answer
use Rattle.version_model.specs.declared.work.Work.{Work}
use Rattle.version_model.specs.declared.work.Work.TheVariants as work
use Rattle.wire_msg.specs.declared.packet.Do.{Do}
use Rattle.wire_msg.specs.declared.packet.Do.TheVariants.{Begin, Deliver, Tick}
use Rattle.world_base.specs.Cluster.{cluster_of, place_of}
use Rattle.world_base.specs.declared.cluster.Cluster.{Cluster}
use Rattle.world_base.specs.declared.estate.Estate.{Estate}
use Rattle.world_base.specs.declared.world.World.{World}
use Rattle.world_base.specs.Events.{node_of, what_of}
use Rattle.world_base.specs.NextWorld.{next_world}
use Rattle.xfs_base.proofs.Booleans.{by_test}
use Rattle.xfs_base.specs.declared.node.NodeId.{NodeId}
use Rattle.xfs_base.specs.declared.node.NodeId.TheVariants.{Client}
use Rattle.xfs_base.specs.declared.segment.SegName.{SegName}
use Rattle.xfs_base.specs.Logs.{WritesLog}
use Rattle.xfs_base.specs.Steps.{still}
use Rattle.run_audits.proofs.Acted.{Acted, among, there}
use Rattle.run_audits.proofs.Clients.{Fallen, IsIts, acts_its, all_of, number_is, number_within, number_writes}
use Rattle.run_audits.proofs.Flown.{chain_counts, flight_counts}
use Rattle.run_audits.specs.Names.{CountsFlight, IsCounted}

-- ---- a fall

-- it tells what was in flight
abbrev pub Flies : Option (ℕ × ℕ) → Phase → Type 0
Flies flight (Down l) = Unit {0}
Flies flight (Opening l o) = Unit {0}
Flies flight (Serves s) = flight ≡ flight_of s.log.flight

module _ (n : ℕ) (flight : Option (ℕ × ℕ)) (falls : List Fall) (me : NodeId) where
  abbrev AFall : Act
  AFall = act.Fell n flight falls

  no_answers : (o : Option ℕ) (number : ℕ) (a b : Answer) → In AFall (acts_of me (answers_unanswered o a ++ Answers number b ∷ [])) → ⊥
  no_answers None number a b (inl same) = absurd cc
  no_answers None number a b (inr fact) = fact
  no_answers (Some item) number a b (inl same) = absurd cc
  no_answers (Some item) number a b (inr (inl same)) = absurd cc
  no_answers (Some item) number a b (inr (inr fact)) = fact

  crash_flies : (s : Serving) (number : ℕ) (wanted : Option Work) → IsCrash wanted → In AFall (acts_of me (serving_begins s number (wish_of wanted)).outs)
      → flight ≡ flight_of s.log.flight
  crash_flies s number (Some (work.Crash node)) crash (inl same) = told _ _ _ same
    where
      told : (m : ℕ) (f : Option (ℕ × ℕ)) (fs : List Fall) → AFall ≡ act.Fell m f fs → flight ≡ f
      told m f fs e = cc
  crash_flies s number (Some (work.Crash node)) crash (inr fact) = absurd (no_answers s.lasting.items.unanswered number answer.Cut answer.Done fact)
  crash_flies s number _ crash fact = absurd crash

  works_same : (items : Items) (number : ℕ) → work_at (items_begin items) number ≡ work_at items number
  works_same items number = ap (λ (ws : List Work). cond (nat_lt 0 number) (slice_get ws (number - 1)) None) (begun_works items)

  begin_flies : (servers : ℕ) (p : Phase) → Fallen p Begin → In AFall (acts_of me (on_begin servers p).outs) → Flies flight p
  unfolding on_begin
  begin_flies servers (Down l) f fact = absurd f.serves
  begin_flies servers (Opening l o) f fact = absurd f.serves
  begin_flies servers (Serves s) f fact =
      let t : Serving = record s { lasting = record s.lasting { items = items_begin s.lasting.items } } in
      let one : In AFall (acts_of me (begins_item servers (Serves s) (Some f.number)).outs) =
      subst (λ (o : Option ℕ). In AFall (acts_of me (begins_item servers (Serves s) o).outs)) f.begins.next fact in
      crash_flies t f.number f.wanted f.crash
      (subst (λ (w : Option Work). In AFall (acts_of me (serving_begins t f.number (wish_of w)).outs)) (works_same s.lasting.items f.number ∙ f.begins.asks) one)

pub fall_flies : (n : ℕ) (flight : Option (ℕ × ℕ)) (falls : List Fall) (c : AClient) (what : Do) → Fallen c.phase what
    → In (act.Fell n flight falls) (client_step c what).acts → Flies flight c.phase
fall_flies n flight falls c what f =
    let me : NodeId = Client (lasting_of c.phase).number in
    by_test (λ (w : Went_to). In (act.Fell n flight falls) (acts_of me w.outs) → Flies flight c.phase) (client_has_room c) (happens c what) (still c.phase)
    (λ _. subst (λ (d : Do). In (act.Fell n flight falls) (acts_of me (happens c d).outs) → Flies flight c.phase) (sym f.begins.begins)
    (begin_flies n flight falls me c.peers.servers c.phase (subst (Fallen c.phase) f.begins.begins f))) (λ _ fact. absurd fact)

-- ---- a return

does_of : (me : NodeId) (n : ℕ) (chain : List SegName) (outs : List Effect) → In (act.Back n chain) (acts_of me outs) → In (Does (act.Back n chain)) outs
does_of me n chain [] fact = absurd fact
does_of me n chain (Send to m ∷ outs) fact = inr (does_of me n chain outs fact)
does_of me n chain (Answers item a ∷ outs) (inl same) = absurd cc
does_of me n chain (Answers item a ∷ outs) (inr fact) = inr (does_of me n chain outs fact)
does_of me n chain (Lose seg ∷ outs) (inl same) = absurd cc
does_of me n chain (Lose seg ∷ outs) (inr fact) = inr (does_of me n chain outs fact)
does_of me n chain (Does a ∷ outs) (inl same) = inl (ap (λ x. Does x) same)
does_of me n chain (Does a ∷ outs) (inr fact) = inr (does_of me n chain outs fact)

ends_so : OpeningsEndByOne → (g : Setting) (c : ℕ) (l : Lasting) (o : openings.Opening) (r : Opened) (what : Do)
    → comes_to o l.questions what ≡ progress.Opened r → EndsSo g c o (progress.Opened r)
ends_so ends g c l o r Begin fact = absurd cc
ends_so ends g c l o r (Deliver packet) fact = subst (EndsSo g c o) fact ((ends g c o l.questions).0 packet)
ends_so ends g c l o r Tick fact = subst (EndsSo g c o) fact (ends g c o l.questions).1

module _ (logs : LogLaws) (acting : EachRunsClientsActForItems) (ends : OpeningsEndByOne) (back : ClientsComeBack) (base : Setting) (e : Estate AnyNode)
    (setup : IsSetup e.script.setup) (lines : HasLines base e) where
  same_node : (x y : AnyNode) → Some x ≡ Some y → x ≡ y
  same_node x y fact = cc

  -- what is acted by a client: of items, and by the client that the world has there
  module _ (a : Act) (count : ℕ) (t : Acted e a count) where
    abbrev w : World AnyNode
    w = moment e t.at

    abbrev what : Do
    what = what_of t.event

    pub record ByClient : Type 0 where
      pub client : AClient
      pub is : t.node ≡ any.Client client
      pub there : node_named w (node_of t.event) ≡ Some (any.Client client)
      pub acts : In a (client_step client what).acts
      pub its : IsIts (lasting_of client.phase).number client.phase what (client_step client what).node.phase a

    pub by_client : is_of_items a ≡ true → (c : AClient) → t.node ≡ any.Client c → ByClient
    by_client item c is =
        let here : node_named w (node_of t.event) ≡ Some (any.Client c) = there e a count t ∙ ap Some is in
        let does : In a (client_step c what).acts = subst (λ (x : AnyNode). In a (any_step x what).acts) is t.does in
        let all = acts_its (lasting_of c.phase).number c.phase what (client_step c what).node.phase (of_items (client_step c what).acts)
        ((acting e).events t.at t.event t.happens c here).acts in
        record {
          client = c;
          is = is;
          there = here;
          acts = does;
          its = all_of (IsIts (lasting_of c.phase).number c.phase what (client_step c what).node.phase) (of_items (client_step c what).acts) all a
              (in_filter is_of_items a (client_step c what).acts does item);
        }

    pub clients : IsClients a → is_of_items a ≡ true → ByClient
    clients alone item =
        let o = (acting e).own t.at t.event t.happens a alone (among e a count t) in
        by_client item o.0 (same_node t.node (any.Client o.0) (sym (there e a count t) ∙ o.1.there))

    module _ (b : ByClient) where
      abbrev number : ℕ
      number = (lasting_of b.client.phase).number

      its_number : Client number ≡ node_of t.event
      its_number = number_is e setup t.at (node_of t.event) b.client b.there

      is_there : IsThere e.script.setup.clients e.script.setup.managers (OfClient number)
      is_there = number_within e setup t.at (node_of t.event) b.client b.there

      pub is_client : (c : ℕ) → c ≡ number → IsClient c
      is_client c is = subst (λ (n : ℕ). WritesLog (Client n)) (sym is) (number_writes e setup t.at (node_of t.event) b.client b.there)

      abbrev k : Cluster
      k = cluster_of e.script.setup

      abbrev line : Line base e (OfClient number)
      line = lines (OfClient number) is_there

      abbrev g : Setting
      g = setting base e (OfClient number)

      -- the small world of its log sees it, before the event and behind it
      sees : owner.ClientAgrees g number (line.scene t.at) b.client.phase
      sees =
          ((line.stands t.at).seen (Client number) (any.Client b.client)
          (ap (λ (c : Cluster). node_in w.nodes (place_of c (Client number))) (sym (moment_cluster e t.at))
          ∙ (ap (λ (name : NodeId). node_named w name) its_number ∙ b.there)) refl).agrees

      then_sees : owner.ClientAgrees g number (line.scene (suc t.at)) (client_step b.client what).node.phase
      then_sees =
          ((line.stands (suc t.at)).seen (Client number) (any.Client (client_step b.client what).node)
          (ap (λ (v : World AnyNode). node_in v.nodes (place_of k (Client number))) (moment_next e t.at t.event t.happens)
          ∙ (ap (λ (name : NodeId). node_in (next_world any_step w t.event).nodes (place_of k name)) its_number
          ∙ (node_then k w (moment_cluster e t.at) t.event t.node t.took ∙ ap (λ (y : AnyNode). Some (any_step y what).node) b.is))) refl).agrees

      flown : OwnerFlew (line.scene t.at).net.flown (line.scene t.at).net.owner
      flown = logs.held g (line.scene t.at).net (line.stands t.at).moment

      -- what it had in flight
      pub fall_counts : (flight : Option (ℕ × ℕ)) → Flies flight b.client.phase → DoesServe b.client.phase → CountsFlight flight
      fall_counts flight = by b.client.phase sees
        where
          by : (p : Phase) → owner.ClientAgrees g number (line.scene t.at) p → Flies flight p → DoesServe p → CountsFlight flight
          by (Down l) agrees flies serves = absurd serves
          by (Opening l o) agrees flies serves = absurd serves
          by (Serves s) agrees flies serves =
              subst CountsFlight (sym flies)
              (flight_counts logs base e lines (OfClient number) is_there t.at s.log.flight (subst (OwnerFlew (line.scene t.at).net.flown) agrees.1.owner flown))

      -- the chain by which it is back
      pub chain_back_counts : (c : ℕ) (chain : List SegName) → In (act.Back c chain) (client_step b.client what).acts → Opens b.client.phase
          → DoesServe (client_step b.client what).node.phase → AllByRecursion IsCounted chain
      chain_back_counts c chain acts opens serves = by b.client.phase (client_step b.client what).node.phase refl refl opens serves
        where
          ended : (l : Lasting) (o : openings.Opening) (s : Serving) → b.client.phase ≡ Opening l o → (client_step b.client what).node.phase ≡ Serves s
              → AllByRecursion IsCounted chain
          ended l o s before after =
              let came : ComesBack c (comes_to o l.questions what) s (takes b.client what).outs = back c b.client what l o s before after in
              let log = (subst (owner.ClientAgrees g number (line.scene (suc t.at))) after then_sees).1 in
              let one : EndsByOne g (line.scene t.at) (line.scene (suc t.at)) (line.goes t.at) o came.opened =
              ends_so ends g number l o came.opened what came.comes (line.scene t.at) (line.scene (suc t.at)) l.questions.last (line.goes t.at)
              (subst (owner.ClientAgrees g number (line.scene t.at)) before sees).1
              (subst (owner.SeesLog g number (line.scene (suc t.at))) came.log log)
              (line.straight t.at t.event t.happens its_number) in
              subst (AllByRecursion IsCounted)
              (sym (came.back chain (does_of (Client number) c chain (takes b.client what).outs acts) ∙ one.opened.chain_is))
              (chain_counts logs base e lines (OfClient number) is_there t.at one.settling.chain
              (subst (OwnerFlew (line.scene t.at).net.flown) one.writes flown).read)

          by : (p q : Phase) → b.client.phase ≡ p → (client_step b.client what).node.phase ≡ q → Opens p → DoesServe q → AllByRecursion IsCounted chain
          by (Down l) q before after opening serving = absurd opening
          by (Serves s) q before after opening serving = absurd opening
          by (Opening l o) (Down m) before after opening serving = absurd serving
          by (Opening l o) (Opening m r) before after opening serving = absurd serving
          by (Opening l o) (Serves s) before after opening serving = ended l o s before after
