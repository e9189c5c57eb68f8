-- What clients reply: what they answered to their own items, in the order of their journals, each once.
use Rattle.std.specs.Prelude.{◌≡◌, ℕ, ◌≤◌, List, length, slice_get, Option, Some, None}
use Rattle.std.specs.List.{filter_map}
use Rattle.script_text.specs.declared.script.Script.{Script}
use Rattle.version_model.specs.declared.act.Act.{Act}
use Rattle.version_model.specs.declared.act.Act.TheVariants as acts
use Rattle.version_model.specs.declared.work.Work.{Work}
use Rattle.wire_msg.specs.declared.packet.Do.{Do}
use Rattle.wire_msg.specs.NodeStep.{NodeStep}
use Rattle.xfs_base.specs.declared.node.NodeId.{NodeId}
use Rattle.xfs_base.specs.declared.setup.Setup.{Setup}
use Rattle.journals.specs.declared.moment.Moment.{Moment}
use Rattle.journals.specs.Journals.{begins, whats}
use Rattle.live_links.specs.Answered.{answered_at}
use Rattle.live_links.specs.Facts.{dues_at}
use Rattle.mounts.specs.declared.reply.Reply.{Reply}
use Rattle.mounts.specs.Ports.{items_to}

-- the reply that an act is
abbrev pub reply_in : Act → Option Reply
reply_in (acts.Answered node item answer) = Some (record { item = item; answer = answer })
reply_in act = None

-- the replies that some acts are
abbrev pub replies_of : List Act → List Reply
replies_of done = filter_map reply_in done

-- What was called at the client at a place with this journal are its first items, in their order, each once; each that it began is among them.
pub record AreFirst (script : Script) (place : ℕ) (moments : List Moment) (calls : List ℕ) : Type 0 where
  pub in_order : calls ≡ items_to (length calls)
  pub most : length calls ≤ length (dues_at script place)
  pub begun : begins (whats moments) ≤ length calls

module _ {N : Type 0} (step : N → Do → NodeStep N) (first : NodeId → Setup → List Work → N) (script : Script) where
  -- what the node at a place replies by its journal
  abbrev pub replied_at : ℕ → List Moment → List Reply
  replied_at place moments = replies_of (answered_at step first script place moments)

  -- for each of the first nodes the calls were its first items, and what was replied is what it answered in its journal
  pub record AreSaid (js : List (List Moment)) (calls : List (List ℕ)) (replies : List (List Reply)) : Type 0 where
    pub count : length calls ≡ length replies
    pub called : (p : ℕ) (j : List Moment) (cs : List ℕ) → slice_get js p ≡ Some j → slice_get calls p ≡ Some cs → AreFirst script p j cs
    pub replied : (p : ℕ) (j : List Moment) (rs : List Reply) → slice_get js p ≡ Some j → slice_get replies p ≡ Some rs → rs ≡ replied_at p j
