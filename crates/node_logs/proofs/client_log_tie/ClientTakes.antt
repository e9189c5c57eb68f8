-- Each event of a client is a run of the small world of its log: what it does is seen there, as packets and as acts.
use Rattle.std.proofs.Common.{◌≡◌, ℕ, List, [], ◌∷◌, sym, subst}
use Rattle.std.specs.Prelude.{All}
use Rattle.std.proofs.lemmas.List.Elements.{All-nil, All-cons, All-append, recursion_from_All}
use Rattle.client_node.specs.declared.phase.Phase.{Phase}
use Rattle.client_node.specs.declared.phase.Phase.TheVariants.{Down, Opening, Serving as Serves}
use Rattle.client_node.specs.Phases.{takes, lasting_of}
use Rattle.node_base.specs.declared.effects.Effect.{Effect}
use Rattle.node_base.specs.declared.effects.Effect.TheVariants.{Send, Answer as Answers, Lose, Does}
use Rattle.node_base.specs.Effects.{packet_of, act_of, packets_of, acts_of}
use Rattle.xfs_base.specs.declared.node.NodeId.TheVariants.{Client as AClient}
use Rattle.std.specs.List.{AllByRecursion}
use Rattle.wire_msg.specs.declared.packet.Packet as wire
use Rattle.log_tie.specs.Setting.{Setting}
use Rattle.node_logs.specs.node_log_tie.Sight.{BodySeen, PacketSeen, AllSeen}
use Rattle.node_logs.specs.client_log_tie.Owner.{Scene, asker, ClientAgrees}
use Rattle.node_logs.specs.client_log_tie.ClientEvents.{ActSeen, OfItsLog, ClientTakes}
use Rattle.node_logs.proofs.client_log_tie.Frames.{ClientDoes, ClientDid}
use Rattle.node_logs.proofs.client_log_tie.Frames as frames
use Rattle.node_logs.proofs.node_log_tie.Lists.{packets_all}
use Rattle.node_logs.proofs.client_log_tie.ClientPhases.{client_did}

-- ---- what it does, as packets and acts

module _ (g : Setting) (c number : ℕ) (fact : number ≡ c) (w : Scene) where
  one_sent : (e : Effect) → ClientDoes g c w e → All (PacketSeen g (asker c w) w.net) (packet_of (AClient number) e)
  one_sent (Send to said) h =
      All-cons (PacketSeen g (asker c w) w.net) _ [] (subst (λ k. BodySeen g (asker c w) w.net (AClient k) to said) (sym fact)
      (frames.says_seen g c w to said h))
      (All-nil (PacketSeen g (asker c w) w.net))
  one_sent (Answers item a) h = All-nil (PacketSeen g (asker c w) w.net)
  one_sent (Lose seg) h = All-nil (PacketSeen g (asker c w) w.net)
  one_sent (Does act) h = All-nil (PacketSeen g (asker c w) w.net)

  one_acted : (e : Effect) → ClientDoes g c w e → All (ActSeen w) (act_of (AClient number) e)
  one_acted (Send to said) h = All-nil (ActSeen w)
  one_acted (Answers item a) h = All-cons (ActSeen w) _ [] tt (All-nil (ActSeen w))
  one_acted (Lose seg) h = All-cons (ActSeen w) _ [] tt (All-nil (ActSeen w))
  one_acted (Does act) h = All-cons (ActSeen w) act [] h (All-nil (ActSeen w))

  all_sent : (es : List Effect) → AllByRecursion (ClientDoes g c w) es → AllSeen g (asker c w) w.net (packets_of (AClient number) es)
  all_sent [] h = All-nil (PacketSeen g (asker c w) w.net)
  all_sent (e ∷ es) h =
      All-append (PacketSeen g (asker c w) w.net) (packet_of (AClient number) e) (packets_of (AClient number) es) (one_sent e h.0) (all_sent es h.1)

  all_acted : (es : List Effect) → AllByRecursion (ClientDoes g c w) es → All (ActSeen w) (acts_of (AClient number) es)
  all_acted [] h = All-nil (ActSeen w)
  all_acted (e ∷ es) h = All-append (ActSeen w) (act_of (AClient number) e) (acts_of (AClient number) es) (one_acted e h.0) (all_acted es h.1)

  -- what it stores is of its log
  all_own : (es : List Effect) → AllByRecursion (ClientDoes g c w) es → All (λ (p : wire.Packet). OfItsLog g p.body) (packets_of (AClient number) es)
  all_own es h =
      packets_all (λ (p : wire.Packet). OfItsLog g p.body) (ClientDoes g c w) (AClient number) (λ to said does. frames.says_own g c w to said does) es h

-- the client of the log has its number
its_number : (g : Setting) (c : ℕ) (w : Scene) (p : Phase) → ClientAgrees g c w p → (lasting_of p).number ≡ c
its_number g c w (Down l) sees = sees.0.number
its_number g c w (Opening l o) sees = sees.0.number
its_number g c w (Serves s) sees = sees.0.number

pub client_takes : ClientTakes
client_takes g c fact small w client what sees written owed =
    let d : ClientDid g c w (takes client what).state (takes client what).outs = client_did g c fact small w client what sees written owed in
    let all : AllByRecursion (ClientDoes g c d.next) (takes client what).outs = recursion_from_All (ClientDoes g c d.next) (takes client what).outs d.does in
    let number : (lasting_of client.phase).number ≡ c = its_number g c w client.phase sees in
    record {
      next = d.next;
      grown = d.grown;
      agrees = d.agrees;
      written = d.written;
      sends = all_sent g c (lasting_of client.phase).number number d.next (takes client what).outs all;
      acts = all_acted g c (lasting_of client.phase).number number d.next (takes client what).outs all;
      own = all_own g c (lasting_of client.phase).number number d.next (takes client what).outs all;
      flies = d.flies;
      straight = d.straight;
      puts = d.puts;
    }
