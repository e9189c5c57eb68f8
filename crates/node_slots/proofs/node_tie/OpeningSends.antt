-- What the opening of a log does: it says Hello in its owner's incarnation, fences, fetches and stores at servers, files, and may lose a segment.
-- So each effect of it has any property that these have.
use Rattle.std.proofs.Common.{◌≡◌, ◌≤◌, ℕ, sym, subst, arith, List}
use Rattle.std.specs.List.{AllByRecursion}
use Rattle.log_owner.proofs.Behaving.{begin_so, packet_so, tick_so}
use Rattle.log_owner.specs.Behaves.{IsServer, MaySay, MayAct, MayDo}
use Rattle.log_owner.specs.declared.ended.Owner.{Owner}
use Rattle.log_owner.specs.declared.opening.Opening.{Opening}
use Rattle.log_owner.specs.Opening.{on_start, opening_take, on_tick}
use Rattle.node_base.specs.declared.effects.Effect.{Effect}
use Rattle.node_base.specs.declared.effects.Effect.TheVariants.{Send, Answer, Lose, Does}
use Rattle.node_base.specs.declared.questions.Questions.{Questions}
use Rattle.token_law.specs.Net as nets
use Rattle.version_model.specs.declared.act.Act.{Act}
use Rattle.version_model.specs.declared.act.Act.TheVariants as act
use Rattle.wire_msg.specs.declared.body.Body.{Body}
use Rattle.wire_msg.specs.declared.body.Body.TheVariants as body
use Rattle.wire_msg.specs.declared.packet.Packet.{Packet}
use Rattle.wire_msg.specs.declared.registry.Hello.{Hello}
use Rattle.wire_msg.specs.declared.storage.Fence.{Fence}
use Rattle.wire_msg.specs.declared.storage.Fetch.{Fetch}
use Rattle.wire_msg.specs.declared.storage.Store.{Store}
use Rattle.xfs_base.specs.declared.node.NodeId.{NodeId}
use Rattle.xfs_base.specs.declared.node.NodeId.TheVariants.{Client, Manager, Server, Cleaner, Registry}
use Rattle.xfs_base.specs.declared.segment.SegName.{SegName}
use Rattle.xfs_base.proofs.Alls.{all_weaker}
use Rattle.node_slots.specs.node_tie.CleanerEvents.{CleanerDoes}
use Rattle.node_slots.proofs.node_tie.Sight.{ClientDoes}

-- what an opening of this owner may do has the property
pub record OpeningMay (owner : Owner) (D : Effect → Type 0) : Type 0 where
  pub hello : (m : Hello) → m.inc ≡ owner.inc → D (Send Registry (body.Hello m))
  pub fence : (n : ℕ) (m : Fence) → D (Send (Server n) (body.Fence m))
  pub fetch : (n : ℕ) (m : Fetch) → D (Send (Server n) (body.Fetch m))
  pub store : (n : ℕ) (m : Store) → D (Send (Server n) (body.Store m))
  pub lose : (seg : SegName) → D (Lose seg)
  pub filed : (seg : SegName) → D (Does (act.Filed seg))

of_server : (P : NodeId → Type 0) → ((n : ℕ) → P (Server n)) → (to : NodeId) → IsServer to → P to
of_server P each (Server n) fact = each n
of_server P each (Client n) fact = absurd fact
of_server P each (Manager n) fact = absurd fact
of_server P each Cleaner fact = absurd fact
of_server P each Registry fact = absurd fact

module _ (owner : Owner) (D : Effect → Type 0) (may : OpeningMay owner D) where
  act_does : (a : Act) → MayAct a → D (Does a)
  act_does (act.Filed seg) can = may.filed seg
  act_does _ can = absurd can

  said_so : (to : NodeId) (said : Body) → MaySay owner to said → D (Send to said)
  said_so to (body.Hello m) can = subst (λ (n : NodeId). D (Send n (body.Hello m))) (sym can.0) (may.hello m can.1)
  said_so to (body.Fence m) can = of_server (λ (n : NodeId). D (Send n (body.Fence m))) (λ n. may.fence n m) to can.0
  said_so to (body.Fetch m) can = of_server (λ (n : NodeId). D (Send n (body.Fetch m))) (λ n. may.fetch n m) to can
  said_so to (body.Store m) can = of_server (λ (n : NodeId). D (Send n (body.Store m))) (λ n. may.store n m) to can
  said_so to _ can = absurd can

  one_does : (e : Effect) → MayDo owner e → D e
  one_does (Send to said) can = said_so to said can
  one_does (Answer item answer) can = absurd can
  one_does (Lose seg) can = may.lose seg
  one_does (Does a) can = act_does a can

  pub opening_does : (effects : List Effect) → AllByRecursion (MayDo owner) effects → AllByRecursion D effects
  opening_does effects can = all_weaker (MayDo owner) D one_does effects can

  pub start_does : (servers : ℕ) (q : Questions) → AllByRecursion D (on_start owner servers q).effects
  start_does servers q = opening_does (on_start owner servers q).effects (begin_so owner servers q).does

module _ (o : Opening) (q : Questions) (D : Effect → Type 0) (may : OpeningMay o.known.owner D) where
  pub packet_does : (p : Packet) → AllByRecursion D (opening_take o q p).effects
  packet_does p = opening_does o.known.owner D may (opening_take o q p).effects (packet_so o q p).does

  pub tick_does : AllByRecursion D (on_tick o q).effects
  tick_does = opening_does o.known.owner D may (on_tick o q).effects (tick_so o q).does

-- ---- who opens

-- a client, in an incarnation that it may say
pub client_opening : (part : ℕ) (sent : List nets.Packet) (c life : ℕ) (owner : Owner) → owner.inc ≤ life → OpeningMay owner (ClientDoes part sent c life)
client_opening part sent c life owner low = record {
  hello = λ m fact. omega arith;
  fence = λ n m. tt;
  fetch = λ n m. tt;
  store = λ n m. tt;
  lose = λ seg. tt;
  filed = λ seg. tt;
}

-- the cleaner, in an incarnation that it may say
pub cleaner_opening : (part promised life : ℕ) (owner : Owner) → owner.inc ≤ life → OpeningMay owner (CleanerDoes part promised life)
cleaner_opening part promised life owner low = record {
  hello = λ m fact. omega arith;
  fence = λ n m. tt;
  fetch = λ n m. tt;
  store = λ n m. tt;
  lose = λ seg. tt;
  filed = λ seg. tt;
}
