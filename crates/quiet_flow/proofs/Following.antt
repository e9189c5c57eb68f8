-- Until nothing is on its way: a play follows the flow of packets, delivery by delivery.
use Rattle.std.proofs.Common.{◌≡◌, ℕ, zero, suc, ◌+◌, ◌^◌, ◌<◌, ◌≤◌, List, [], ◌∷◌, ◌++◌, length, length-append, map, refl, sym, ap, subst, ◌∙◌, append_assoc, append-nil, arith}
use Rattle.play.specs.declared.player.Player.{Player}
use Rattle.play.specs.Plays.{goes_on}
use Rattle.wire_msg.specs.declared.packet.Do.{Do}
use Rattle.wire_msg.specs.declared.packet.Packet.{Packet}
use Rattle.wire_msg.specs.NodeStep.{NodeStep}
use Rattle.world_base.specs.declared.event.Event.TheVariants.{Deliver}
use Rattle.xfs_base.specs.declared.setup.Setup.{Setup}
use Rattle.quiet_flow.specs.Flow.{Done, Drains, Stage, delivers, flows}
use Rattle.quiet_flow.specs.Follow.{Follows, IsBlind, Shows}
use Rattle.quiet_flow.proofs.Arriving.{Arrives, arrives}

module _ {N : Type 0} (step : N → Do → NodeStep N) (is_blind : IsBlind step) where
  none_plus : (n : ℕ) → 0 + n ≡ n
  none_plus n = omega arith

  plus_none : (n : ℕ) → n ≡ n + 0
  plus_none n = omega arith

  -- nothing is on its way
  follows_none : (setup : Setup) (n : ℕ) (p : Player N) (t end : Stage N) → Shows setup p t [] → t ≡ end → Follows step setup p [] n end
  follows_none setup n p t end shows same =
      record {
        after = p;
        packets = [];
        few = omega arith;
        goes = λ more. ap (λ k. goes_on step k p) (none_plus more);
        shows = subst (λ s. Shows setup p s []) same shows;
        are = sym (append-nil p.events);
        sends = none_plus (length p.world.sent) ∙ plus_none (length p.world.sent);
        left = sym (plus_none p.schedule.deliveries);
        rounds = refl;
      }

  pub follows : (setup : Setup) (n : ℕ) (p : Player N) (t : Stage N) (waiting : List Packet) (end : Stage N) → Shows setup p t waiting
      → Drains step setup n t waiting end → n ≤ p.schedule.deliveries → length p.events + n < 2 ^ 64 → Follows step setup p waiting n end
  unfolding flows
  follows setup zero p t waiting end shows drains few room =
      let empty : waiting ≡ [] = ap (λ (d : Done N). d.outs) drains in
      let same : t ≡ end = ap (λ (d : Done N). d.state) drains in
      subst (λ q. Follows step setup p q 0 end) (sym empty) (follows_none setup 0 p t end (subst (λ q. Shows setup p t q) empty shows) same)
  follows setup (suc n) p t [] end shows drains few room =
      let same : t ≡ end = ap (λ (d : Done N). d.state) drains in
      follows_none setup (suc n) p t end shows same
  follows setup (suc n) p t (packet ∷ waiting) end shows drains few room =
      let one : Arrives step is_blind setup p packet t waiting = arrives step is_blind setup p t packet waiting shows (omega arith) (omega arith) in
      let next = delivers step setup t packet in
      let longer : length one.after.events ≡ length p.events + 1 = ap length one.events_are ∙ length-append p.events (Deliver one.clocked ∷ []) in
      let fewer = one.deliveries in
      let rest = follows setup n one.after next.state (waiting ++ next.outs) end one.shows drains (omega arith) (omega arith) in
      let rest_few = rest.few in
      let rest_left = rest.left in
      let rest_sends = rest.sends in
      let sent = one.sends in
      let queued : length (waiting ++ next.outs) ≡ length waiting + length next.outs = length-append waiting next.outs in
      record {
        after = rest.after;
        packets = one.clocked ∷ rest.packets;
        few = omega arith;
        goes = λ more. ap (λ k. goes_on step k p) (suc_plus (length rest.packets) more) ∙ one.goes (length rest.packets + more) ∙ rest.goes more;
        shows = rest.shows;
        are = rest.are ∙ ap (λ es. es ++ map Deliver rest.packets) one.events_are ∙ append_assoc p.events (Deliver one.clocked ∷ []) (map Deliver rest.packets);
        sends = omega arith;
        left = omega arith;
        rounds = rest.rounds ∙ one.rounds;
      }
    where
      suc_plus : (a b : ℕ) → suc a + b ≡ suc (a + b)
      suc_plus a b = omega arith
