-- The cleaner that has its turn: the moment after it stands to the small world that runs on with its log and its job.
use Rattle.std.proofs.Common.{◌≡◌, ⊎_elim, ℕ, List, ◌++◌, Some, inl, inr, map, slice_get, slice_set, sym, ap, ◌∙◌, arith}
use Rattle.std.proofs.lemmas.List.Elements.{All-from_recursion, recursion_from_All}
use Rattle.std.specs.List.{All}
use Rattle.cleaner_node.specs.CleanerEvents.{takes}
use Rattle.cleaner_node.specs.declared.cleaner.Cleaner.{Cleaner as CleanerNode}
use Rattle.cleaner_node.specs.declared.cleaner.Phase.{Phase}
use Rattle.core_world.specs.declared.any_node.AnyNode.{AnyNode}
use Rattle.core_world.specs.declared.any_node.AnyNode.TheVariants as any
use Rattle.index_tie.specs.Net.{Net, opening}
use Rattle.log_protocol.specs.Tables as tables
use Rattle.node_base.specs.declared.effects.Effect.{Effect}
use Rattle.node_base.specs.Effects.{packets_of}
use Rattle.node_slots.proofs.node_index_tie.Moves.{in_front, in_more, runs_through}
use Rattle.node_slots.specs.node_index_tie.ManagerEvents.{ManagersStay}
use Rattle.node_slots.specs.node_index_tie.Sight.{Questions}
use Rattle.headline.specs.Filed.{Texts}
use Rattle.headline.specs.Managers.{slot_in}
use Rattle.node_slots.specs.owner_index_tie.CleanerEvents.{CleanerDoes, CleanerGoes, CleanerSays}
use Rattle.node_slots.specs.owner_index_tie.ClientEvents.{ClientsStay}
use Rattle.segment_format.specs.declared.segment.Segment.{Segment}
use Rattle.registry_node.specs.declared.node.RegistryNode.{RegistryNode}
use Rattle.token_protocol.specs.Basics.{In}
use Rattle.wire_msg.specs.declared.body.Body.{Body}
use Rattle.wire_msg.specs.declared.body.Body.TheVariants as body
use Rattle.wire_msg.specs.declared.packet.Do.{Do}
use Rattle.wire_msg.specs.declared.packet.Packet.{Packet}
use Rattle.world_base.specs.Cluster.{place_of}
use Rattle.world_base.specs.declared.cluster.Cluster.{Cluster}
use Rattle.world_base.specs.NextWorld.{sent_at}
use Rattle.run_laws.proofs.world_index.Asking.{book_with, cleaner_fewer}
use Rattle.run_laws.specs.world_index.Asking.{CleanerAsks}
use Rattle.run_laws.proofs.world_index.CleanerGoing.{BodyKnown, EffectKnown, NewAsks, all_more, new_asks}
use Rattle.run_laws.proofs.world_index.Facts.{Grown, sent_stays}
use Rattle.run_laws.proofs.world_index.Frames.{Leaves, cleaner_head, heads_stay, leaves_grown, leaves_pass, registry_frame}
use Rattle.run_laws.proofs.world_index.Placing.{place_cleaner}
use Rattle.run_laws.specs.world_index.Standing.{CleanerTells, Fact, Scene, Stands, WasAsked}
use Rattle.run_laws.proofs.world_law.Sent.{in_append, sends}
use Rattle.xfs_base.specs.declared.node.NodeId.TheVariants.{Cleaner}
use Rattle.xfs_base.specs.declared.segment.SegName.{SegName}
use Rattle.log_tie.proofs.Listings.{in_either}

-- what the cleaner says, it tells
module _ (part : ℕ) (texts : Texts) (n : Net) (old asked questions : Questions) (since : ℕ) where
  says_so : (b : Body) → CleanerSays part questions n since b → BodyKnown part texts old n asked b → CleanerTells part n asked b
  says_so (body.Check m) h known = known
  says_so (body.Report m) h known = (λ inside. (h.0.0 inside, h.1 inside), h.0.1.filed)
  says_so (body.Delete m) h known = h
  says_so (body.Deltas m) h known = h
  says_so (body.Want m) h known = h.filed
  says_so (body.Gave m) h known = h.filed
  says_so _ h known = tt

module _ (clients_stay : ClientsStay) (managers_stay : ManagersStay) (k : Cluster) (part : ℕ) (texts : Texts)
    (first : ℕ → ℕ → Segment) (RegistrySound : RegistryNode → Type 0) (nodes : List AnyNode) (sent : List Packet) (s : Scene)
    (st : Stands k part texts first nodes sent RegistrySound s)
    (p clock : ℕ) (at : place_of k Cleaner ≡ Some p) (fact : slice_get nodes p ≡ Some (any.Cleaner s.cleaner)) (what : Do)
    (go : CleanerGoes part texts s.asked s.net (takes s.cleaner.peers s.cleaner.phase what))
    (asks : CleanerAsks (book_with (WasAsked s.asked) (takes s.cleaner.peers s.cleaner.phase what).outs) (takes s.cleaner.peers s.cleaner.phase what).state)
  where
    abbrev outs : List Effect
    outs = (takes s.cleaner.peers s.cleaner.phase what).outs

    abbrev state : Phase
    state = (takes s.cleaner.peers s.cleaner.phase what).state

    abbrev after_node : CleanerNode
    after_node = record s.cleaner { phase = state }

    pub new : NewAsks part texts s.asked go.next outs
    new = new_asks part texts s.asked go.next (s.net.filed.head 9) go.questions outs
        (recursion_from_All (CleanerDoes part go.questions go.next (s.net.filed.head 9)) outs go.does)

    abbrev asked_now : Questions
    asked_now = new.list ++ s.asked

    abbrev pub cleaner_scene : Scene
    cleaner_scene = record s { net = go.next; asked = asked_now; cleaner = after_node }

    abbrev sent_now : List Packet
    sent_now = sent ++ map (sent_at clock) (packets_of Cleaner outs)

    kept : (x : ℕ × ℕ × SegName) → tables.In x s.asked → tables.In x asked_now
    kept x old = in_more x new.list s.asked old

    leaves : Leaves s.net go.next
    leaves = record {
      filed = go.more;
      stay = λ e none. ap (λ (f : ℕ → _). f e) (sym go.slots) ∙ none;
      sent = go.sent;
      deleted = go.deleted;
      epoch = go.epoch;
      horizon = go.horizon;
      parts = go.parts;
    }

    pub grown : Grown s.net go.next
    grown = leaves_grown part texts first s.net go.next st.runs go.runs leaves

    -- ---- what it sends

    abbrev Done : Effect → Type 0
    Done e = CleanerDoes part go.questions go.next (s.net.filed.head 9) e × EffectKnown part texts s.asked go.next asked_now e

    known : All (EffectKnown part texts s.asked go.next asked_now) outs
    known = All-from_recursion (EffectKnown part texts s.asked go.next asked_now) outs
        (all_more part texts s.asked go.next new.list asked_now (λ x is_in. in_front x new.list s.asked is_in) outs new.known)

    new_facts : (q : Packet) → In q (map (sent_at clock) (packets_of Cleaner outs)) → Fact part cleaner_scene q
    new_facts q h =
        sends Cleaner clock Done (Fact part cleaner_scene)
        (λ to m does. says_so part texts go.next s.asked asked_now go.questions (s.net.filed.head 9) m does.0 does.1) outs
        (λ i d less. (go.does i d less, known i d less)) q h

    -- ---- its questions

    asked_then : (ask : ℕ) (name : SegName) → WasAsked asked_now ask name → book_with (WasAsked s.asked) outs ask name
    asked_then ask name was = ⊎_elim (λ fresh. inr (new.from (ask, was.number, name) fresh)) (λ old. inl (record { number = was.number; among = old }))
        (in_either (ask, was.number, name) new.list s.asked was.among)

    pub cleaner_turn : Stands k part texts first (slice_set nodes p (any.Cleaner after_node)) sent_now RegistrySound cleaner_scene
    cleaner_turn = record {
      runs = runs_through (opening first) s.net go.next st.runs go.runs;
      placed = place_cleaner k nodes s st.placed p at fact after_node go.next asked_now;
      sound = st.sound;
      registry = registry_frame part s.net go.next go.epoch go.horizon go.parts s.registry st.registry;
      clients = λ c pos less. clients_stay part texts s.net go.next c (s.client c).phase (go.others c (λ same. let few = st.few in absurd (omega arith)))
          (st.clients c pos less);
      managers = λ j pos limit. managers_stay part texts s.net go.next (s.manager j).phase
          (leaves_pass part texts first s.net go.next st.runs go.runs leaves (slot_in part (s.manager j).phase) (λ e held. ap (λ (f : ℕ → _). f e) go.slots))
          (st.managers j pos limit);
      cleaner = go.agrees;
      asks = cleaner_fewer (book_with (WasAsked s.asked) outs) (WasAsked asked_now) asked_then state asks;
      few = st.few;
      texts_of = go.named st.texts_of;
      heads = heads_stay s.net go.next 9 go.others (cleaner_head part texts go.next state go.agrees.phase) st.heads;
      facts = λ q h. ⊎_elim (λ old. sent_stays part s.net go.next grown s.asked asked_now kept q.from q.body (st.facts q old)) (λ fresh. new_facts q fresh)
          (in_append sent _ q h);
    }
