-- What tokens give an event of a manager: an epoch was given to one manager alone, and one that is new to the manager that news give it to has nobody.
use Rattle.std.proofs.Common.{◌≡◌, ℕ, Bool, ◌≤◌, ◌<◌, false, List, Some, refl, sym, ap, subst, ◌∙◌}
use Rattle.core_world.specs.declared.any_node.AnyNode.{AnyNode}
use Rattle.core_world.specs.declared.any_node.AnyNode.TheVariants as any
use Rattle.manager_node.specs.declared.manager.Manager.{Manager as ManagerNode}
use Rattle.manager_node.specs.declared.phase.Phase.{Phase}
use Rattle.manager_node.specs.declared.phase.Phase.TheVariants.{Down, Waiting, Serving as Serves}
use Rattle.manager_node.specs.Phases.{lasting_of}
use Rattle.manager_serving.specs.declared.serving.Serving.{Serving}
use Rattle.headline.specs.Filed.{Texts}
use Rattle.node_slots.specs.node_tie.ManagerEvents.{AllNewsGets, HeldAt, ManagerAgrees, ManagerGets, NamedBy, NamedIn, Names, ServingGets, WaitingGets, epoch_in}
use Rattle.headline.specs.Managers.{slot_in}
use Rattle.segment_format.specs.declared.segment.Segment.{Segment}
use Rattle.token_law.specs.Net as tokens
use Rattle.version_model.specs.declared.act.Act.{Act}
use Rattle.wire_msg.specs.declared.body.Body.{Body}
use Rattle.wire_msg.specs.declared.body.Body.TheVariants as body
use Rattle.wire_msg.specs.declared.packet.Do.{Do}
use Rattle.wire_msg.specs.declared.packet.Do.TheVariants.{Begin, Deliver, Tick}
use Rattle.wire_msg.specs.declared.packet.Packet.{Packet}
use Rattle.world_base.specs.Cluster.{place_of}
use Rattle.world_base.specs.declared.cluster.Cluster.{Cluster}
use Rattle.run_laws.specs.world_index.Owes.{DoFree, HeldApart, NewsFree, PacketFree, ServingFree, WaitingFree}
use Rattle.run_laws.specs.world_index.Standing as places
use Rattle.run_laws.proofs.world_law.Gets.{manager_gets, news_told, welcome_told}
use Rattle.run_laws.specs.world_law.Standing as owners
use Rattle.headline.specs.Moments.{node_in}
use Rattle.xfs_base.specs.declared.news.SlotNews.{SlotNews}
use Rattle.xfs_base.specs.declared.node.NodeId.{NodeId}
use Rattle.xfs_base.specs.declared.node.NodeId.TheVariants.{Manager}
use Rattle.run_laws.proofs.epoch_law.Nodes.{IsOne, is_one, one_manager}
use Rattle.run_laws.specs.epoch_law.Managers.{Brought, TokensAreGiven}
use Rattle.run_laws.specs.epoch_law.Slots.{BothStand}

-- a manager has its own number
number_of : (members part : ℕ) (n : tokens.Net) (j : ℕ) (p : Phase) → ManagerAgrees members part n j p → (lasting_of p).number ≡ j
number_of members part n j (Serves s) agreed = agreed.number
number_of members part n j (Down kept) agreed = agreed
number_of members part n j (Waiting kept hello) agreed = agreed

module _ (logs : Bool) (k : Cluster) (part : ℕ) (texts : Texts) (first : ℕ → ℕ → Segment) (nodes : List AnyNode) (sent : List Packet) (acts : List Act)
    (t : owners.Scene)
    (i : places.Scene) (both : BothStand logs k part texts first nodes sent acts t i) (j : ℕ) (node : ManagerNode)
    (at : node_in nodes (place_of k (Manager j)) ≡ Some (any.Manager node)) where
  one : IsOne k j
  one = is_one k nodes j (any.Manager node) at

  premise : t.manager j ≡ node
  premise = one_manager (t.manager j) node (node_in nodes (place_of k (Manager j))) (both.tokens.placed.managers j one.some one.limit) at

  sees : owners.ManagerSees k part t j node.phase
  sees = subst (λ (x : ManagerNode). owners.ManagerSees k part t j x.phase) premise (both.tokens.managers j one.some one.limit)

  -- ---- no other manager holds an epoch that it holds or is given

  given_in : (e : ℕ) (slots : List SlotNews) → owners.AllTold k part t slots → NamedIn part j e slots → t.lord e ≡ j
  given_in e slots all (news, among, of, epoch, mine) =
      ap t.lord (sym epoch) ∙ ((all.each news among of).given ∙ mine)

  given_by : (e : ℕ) (from to : NodeId) (b : Body) → owners.SentBy k part t from to b → NamedBy part j e b → t.lord e ≡ j
  given_by e from to (body.MapNews m) fact named = given_in e m.slots (news_told k part t from to m fact) named
  given_by e from to (body.Welcome m) fact named = given_in e m.news.slots (welcome_told k part t from to m fact).0 named
  given_by e from to _ fact named = absurd named

  given : (e : ℕ) (what : Do) → Brought k part t (Manager j) what → Names part j e what → t.lord e ≡ j
  given e (Deliver q) brought named = given_by e q.from q.to q.body (brought q refl).0 named
  given e Begin brought named = absurd named
  given e Tick brought named = absurd named

  held_by : (d e : ℕ) → 0 < d → d ≤ k.managers → HeldAt (places.holder part i d) e → t.lord e ≡ d
  held_by d e some limit held =
      let same = one_manager (i.manager d) (t.manager d) (node_in nodes (place_of k (Manager d))) (both.index.placed.managers d some limit)
      (both.tokens.placed.managers d some limit) in
      ((both.tokens.managers d some limit).owns e (subst (λ (x : ManagerNode). HeldAt (slot_in part x.phase) e) same held)).0

  apart : (what : Do) → Brought k part t (Manager j) what
      → HeldApart part j i.net k.managers (places.holder part i) node.phase what
  apart what brought d e some limit other held =
      let of_d = held_by d e some limit held in
      ((λ mine. other (sym of_d ∙ (sees.owns e mine).0)), (λ named. other (sym of_d ∙ given e what brought named)))

  -- ---- an epoch that is new to it has no manager

  free : (limit known : ℕ) (slots : List SlotNews) → AllNewsGets part limit j t.net known slots → NewsFree part j i.net known slots
  free limit known slots gets news among of mine less = both.same news.epoch ((gets news among of).new mine less)

  serving_given : (limit life : ℕ) (s : Serving) (from : NodeId) (b : Body)
      → ServingGets false part limit j t.net (owners.members k part) life (slot_in part (Serves s)) from b
      → ServingFree part j i.net life (epoch_in part (Serves s)) b
  serving_given limit life s from (body.MapNews m) gets = free limit (epoch_in part (Serves s)) m.slots gets
  serving_given limit life s from (body.Welcome m) gets = λ same. free limit (epoch_in part (Serves s)) m.news.slots (gets same)
  serving_given limit life s from _ gets = tt

  waiting_given : (limit life : ℕ) (b : Body) → WaitingGets part limit j t.net life b → WaitingFree part j i.net life b
  waiting_given limit life (body.Welcome m) gets = λ same. free limit 0 m.news.slots (gets same).slots
  waiting_given limit life _ gets = tt

  packet_given : (limit : ℕ) (p : Phase) (q : Packet) → ManagerGets false part limit j t.net (owners.members k part) p q → PacketFree part j i.net p q
  packet_given limit (Serves s) q gets = serving_given limit s.lasting.inc s q.from q.body gets
  packet_given limit (Waiting kept hello) q gets = waiting_given limit kept.inc q.body gets
  packet_given limit (Down kept) q gets = tt

  do_given : (what : Do) → Brought k part t (Manager j) what → DoFree part j i.net node.phase what
  do_given Begin brought = tt
  do_given Tick brought = tt
  do_given (Deliver q) brought =
      let fact = brought q refl in
      packet_given (owners.epoch_now k part t) node.phase q
      (manager_gets k part t both.tokens.entered j false node.phase (ap (λ (x : ManagerNode). x.phase) premise) sees q fact.0 fact.1 tt)

pub tokens_are_given : TokensAreGiven
tokens_are_given logs k part texts first nodes sent acts t i (Manager j) (any.Manager node) what both at brought = record {
  number = number_of (owners.members k part) part t.net j node.phase (sees logs k part texts first nodes sent acts t i both j node at).agrees;
  free = do_given logs k part texts first nodes sent acts t i both j node at what brought;
  apart = apart logs k part texts first nodes sent acts t i both j node at what brought;
}
tokens_are_given logs k part texts first nodes sent acts t i name node what both at brought = tt
