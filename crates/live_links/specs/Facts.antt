-- What the types of a journal and of a cell keep.
use Rattle.std.specs.Prelude.{◌≡◌, ℕ, true, List, length, slice_get, Some}
use Rattle.std.specs.List.{Contains}
use Rattle.rtrb.specs.Ring.{sent}
use Rattle.script_text.specs.declared.script.Script.{Script}
use Rattle.version_model.specs.declared.work.Work.{Work}
use Rattle.wire_msg.specs.declared.packet.Do.{Do}
use Rattle.wire_msg.specs.declared.packet.Do.TheVariants.{Deliver}
use Rattle.wire_msg.specs.declared.packet.Packet.{Packet}
use Rattle.wire_msg.specs.NodeStep.{NodeStep}
use Rattle.xfs_base.specs.declared.node.NodeId.{NodeId}
use Rattle.xfs_base.specs.declared.setup.Setup.{Setup}
use Rattle.world_base.specs.declared.cluster.Cluster.{Cluster}
use Rattle.world_base.specs.declared.due.Due.{Due}
use Rattle.world_base.specs.Cluster.{cluster_of, node_at}
use Rattle.world_base.specs.Dues.{dues_of}
use Rattle.world_base.specs.NextWorld.{first_node}
use Rattle.journals.specs.declared.answers.Answers.{Answers}
use Rattle.journals.specs.declared.moment.Moment.{Moment}
use Rattle.journals.specs.Answers.{AreAnswered, AreKnown, IsSettled}
use Rattle.journals.specs.Journals.{IsTold, MeetsDues, acts_in, begins, is_stamped, last_clock, replayed, sent_in, whats}
use Rattle.live_links.specs.declared.letter.Letter.{Letter}
use Rattle.live_links.specs.Ends.{In, IsFor, IsInsOf, IsOutsOf, Out, Received}

-- the node at a place of a run of this script
abbrev pub name_at : Script → ℕ → NodeId
name_at script place = node_at (cluster_of script.setup) place

-- when its items may be begun
abbrev pub dues_at : Script → ℕ → List Due
dues_at script place = dues_of script.lines (name_at script place)

-- and what it is before its first event
abbrev pub first_at : {N : Type 0} → (NodeId → Setup → List Work → N) → Script → ℕ → N
first_at first script place = first_node first script (name_at script place)

module _ {N : Type 0} (step : N → Do → NodeStep N) where
  module _ (node : NodeId) (first : N) where
    -- a node is the replay of its journal, whose clocks rise and which says what the node sent and did; it is known which of its items have an answer, and each
    -- item was begun when it was due
    pub record IsJournal (dues : List Due) (moments : List Moment) (n : N) (clock begun : ℕ) (answers : Answers) (count : ℕ) : Type 0 where
      pub replay : n ≡ replayed step first (whats moments)
      pub stamped : is_stamped 0 moments ≡ true
      pub last : clock ≡ last_clock 0 moments
      pub begins_are : begun ≡ begins (whats moments)
      pub known : AreKnown node answers (acts_in step first (whats moments))
      pub settled : IsSettled answers
      pub sent_are : count ≡ length (sent_in step first moments)
      pub told : IsTold step first moments
      pub met : MeetsDues step node first dues (whats moments)

  module _ (first : N) where
    -- this letter is a packet that the node at a place sent
    abbrev pub IsSentBy : ℕ → List Moment → Letter → Type 0
    IsSentBy place moments l = (l.from ≡ place) × (slice_get (sent_in step first moments) l.number ≡ Some l.packet)

    -- the ends are those that were made for this place, what was pushed was sent in the journal and is for who receives it, and what was delivered in the journal
    -- was received
    pub record IsLinked (c : Cluster) (rings : List (List Out)) (place : ℕ) (moments : List Moment) (outs : List Out) (ins : List In) : Type 0 where
      pub outs_are : IsOutsOf rings place outs
      pub ins_are : IsInsOf rings place ins
      pub pushed : (q : ℕ) (o : Out) (l : Letter) → slice_get outs q ≡ Some o → Contains (sent o) l → IsFor c q l × IsSentBy place moments l
      pub came : (m : Moment) (x : Packet) → Contains moments m → m.what ≡ Deliver x → Received ins (record { from = m.from; number = m.number; packet = x })

  -- each item of the node at a place was begun, in its order, and is answered
  pub record IsDone (first : NodeId → Setup → List Work → N) (script : Script) (place : ℕ) (moments : List Moment) : Type 0 where
    pub begun : begins (whats moments) ≡ length (dues_at script place)
    pub answered : AreAnswered (name_at script place) (length (dues_at script place)) (acts_in step (first_at first script place) (whats moments))
