-- Ends of rings stay those of their rings, and a mount and a port of one client are joined.
use Rattle.std.proofs.Common.{refl, sym, subst, ◌∙◌, ℕ, List}
use Rattle.std.proofs.Props.{props}
use Rattle.std.proofs.Math.Logic.{∥∥₁_elim, ∥∥₁_map}
use Rattle.rtrb.specs.declared.producer.Producer.{Producer}
use Rattle.rtrb.specs.declared.consumer.Consumer.{Consumer}
use Rattle.rtrb.specs.Ring.{IsPair, SameConsumer, SameProducer}
use Rattle.journals.proofs.Gets.{one_there}
use Rattle.mounts.specs.declared.mount.Mount.{Mount}
use Rattle.mounts.specs.declared.port.Port.{Port}
use Rattle.mounts.specs.Ports.{AreJoined, IsMountAt, IsPortAt, SamePort}

module _ {T A P : Type 0} where
  pub same_producer : (o : Producer T A P) → SameProducer o o
  same_producer o = ((refl, refl, refl, refl), refl)

  pub producer_then : (a b c : Producer T A P) → SameProducer a b → SameProducer b c → SameProducer a c
  producer_then a b c f g = ((g.0.0 ∙ f.0.0, g.0.1 ∙ f.0.1, g.0.2 ∙ f.0.2, g.0.3 ∙ f.0.3), g.1 ∙ f.1)

  pub same_consumer : (c : Consumer T A P) → SameConsumer c c
  same_consumer c = ((refl, refl, refl, refl), refl)

  pub consumer_then : (a b c : Consumer T A P) → SameConsumer a b → SameConsumer b c → SameConsumer a c
  consumer_then a b c f g = ((g.0.0 ∙ f.0.0, g.0.1 ∙ f.0.1, g.0.2 ∙ f.0.2, g.0.3 ∙ f.0.3), g.1 ∙ f.1)

  pair_then : (o p : Producer T A P) (c : Consumer T A P) → SameProducer o p → IsPair o c → IsPair p c
  pair_then o p c f g = (g.0 ∙ sym f.0.0, g.1 ∙ sym f.0.1, g.2 ∙ sym f.0.2, g.3 ∙ sym f.0.3)

  pair_after : (o : Producer T A P) (c d : Consumer T A P) → IsPair o c → SameConsumer c d → IsPair o d
  pair_after o c d g f = (f.0.0 ∙ g.0, f.0.1 ∙ g.1, f.0.2 ∙ g.2, f.0.3 ∙ g.3)

module _ (ports : List Port) (place : ℕ) where
  -- a port stays that of its place
  pub port_still : (p q : Port) → SamePort p q → ∥ IsPortAt ports place p ∥₁ → ∥ IsPortAt ports place q ∥₁
  port_still p q s named =
      ∥∥₁_map named (λ at. (at.0, at.1, (consumer_then at.0.calls p.calls q.calls at.2.0 s.0, producer_then at.0.replies p.replies q.replies at.2.1 s.1)))

  -- and a mount that of its
  pub mount_still : (m n : Mount) → SameProducer m.calls n.calls → SameConsumer m.replies n.replies → ∥ IsMountAt ports place m ∥₁ → ∥ IsMountAt ports place n ∥₁
  mount_still m n s t named =
      ∥∥₁_map named (λ at. (at.0, at.1, (pair_then m.calls n.calls at.0.calls s at.2.0, pair_after at.0.replies m.replies n.replies at.2.1 t)))

  joined_prop : (m : Mount) (p : Port) → IsProp (AreJoined m p)
  joined_prop m p = hlevel props

  one_joined : (m : Mount) (p : Port) → IsMountAt ports place m → IsPortAt ports place p → AreJoined m p
  one_joined m p a b =
      let k : AreJoined m b.0 = subst (λ (q : Port). AreJoined m q) (one_there ports place a.0 b.0 a.1 b.1) a.2 in
      (pair_after m.calls b.0.calls p.calls k.0 b.2.0, pair_then b.0.replies p.replies m.replies b.2.1 k.1)

  -- the ends of one client are those of one pair of rings
  pub are_joined : (m : Mount) (p : Port) → ∥ IsMountAt ports place m ∥₁ → ∥ IsPortAt ports place p ∥₁ → AreJoined m p
  are_joined m p named other = ∥∥₁_elim named (joined_prop m p) (λ a. ∥∥₁_elim other (joined_prop m p) (λ b. one_joined m p a b))
