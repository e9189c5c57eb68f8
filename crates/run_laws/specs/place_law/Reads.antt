-- What is read under a name, where the small world of the name's log is known: the one text of the name.
use Rattle.std.specs.Prelude.{◌≡◌, ◌<◌, ◌≤◌, ℕ, true, List, Some, length}
use Rattle.index_tie.specs.Filed.{IsFiled}
use Rattle.headline.specs.Filed.{AreTexts, Filed, Texts}
use Rattle.log_law.specs.Laws.{Moment}
use Rattle.log_law.specs.Net.{Net}
use Rattle.log_law.specs.Net.Packet.{FragmentSent}
use Rattle.log_protocol.specs.Tables.{In}
use Rattle.log_tie.specs.Setting.{Setting}
use Rattle.log_tie.specs.Shelves.{is_of_log}
use Rattle.node_slots.specs.node_index_tie.ManagerEvents.{completes_at}
use Rattle.node_slots.specs.node_index_tie.Sight.{IsRead}
use Rattle.node_tellings.specs.reading_tie.Arrivals.{Cuts, answered_in, cut_by, AnsweredIn}
use Rattle.node_tellings.specs.reading_tie.Came.{ReadsJoined}
use Rattle.node_tellings.specs.reading_tie.TakeoverReads.{TakeHolds}
use Rattle.segment_format.specs.declared.segment.Segment.{Segment}
use Rattle.stripe_code.specs.declared.round.Told.{Told as Answered}
use Rattle.takeover.specs.declared.source.Present.{Present}
use Rattle.takeover.specs.TakeState.{TakeState}
use Rattle.wire_msg.specs.declared.body.Body.TheVariants as body
use Rattle.wire_msg.specs.declared.packet.Packet.{Packet}
use Rattle.xfs_base.specs.declared.node.NodeId.{NodeId}
use Rattle.wire_msg.specs.declared.storage.Found.{Found}
use Rattle.xfs_base.specs.declared.segment.LogId.{LogId}
use Rattle.xfs_base.specs.declared.segment.SegRef.{SegRef}

-- ---- what is known of a log

-- The small world of a log at a moment: each segment that was in flight there is the text of its name, each fragment of the log that these packets bear was
-- sent there, and its group ids name stripes that are cut so.
pub record LogKnown (texts : Texts) (packets : List Packet) (cuts : Cuts) (log : LogId) : Type 0 where
  pub setting : Setting
  pub net : Net
  pub own : setting.log ≡ log
  pub moment : Moment setting net
  pub texts_of : (s : Segment) → In s net.flown → texts s.name ≡ s
  pub told : (p : Packet) (m : Found) → In p packets → p.body ≡ body.Fragment m → is_of_log setting m.fragment.meta.name ≡ true
      → In (FragmentSent m.fragment) net.sent
  pub members : (id : ℕ) → (cuts id).members ≡ length (setting.stripe id).members
  pub parity : (id : ℕ) → (cuts id).parity ≡ (setting.stripe id).parity

-- a reference bears the group of the text that it names
abbrev pub NamesItsGroup : Texts → SegRef → Type 0
NamesItsGroup texts seg = seg.group ≡ (texts seg.name).group

-- What logs filed are the texts of their names, and the small world of each log that filed something is known.
pub record FiledKnown (texts : Texts) (packets : List Packet) (cuts : Cuts) (f : Filed) : Type 0 where
  pub filed : IsFiled f
  pub texts_of : AreTexts texts f
  pub logs : (l q : ℕ) → 0 < q → q ≤ f.head l → LogKnown texts packets cuts (record { 0 = l })

-- ---- the laws

-- What is read of a reference, joined of what came in answer to one's own question, is the text that it names.
abbrev pub WhatIsReadIsTheText : Type 0
WhatIsReadIsTheText =
    (texts : Texts) (packets : List Packet) (to : NodeId) (cuts : Cuts) (seg : SegRef) (s : Segment) → LogKnown texts packets cuts seg.name.log
    → NamesItsGroup texts seg
    → ReadsJoined (answered_in packets to) (cut_by cuts) seg s → s ≡ texts seg.name

-- So is the segment that an answer completes of a takeover, and each number in it is within its type.
abbrev pub TakeoversReadTexts : Type 0
TakeoversReadTexts =
    (part : ℕ) (texts : Texts) (packets : List Packet) (to : NodeId) (cuts : Cuts) (take : TakeState) (p : Present) (ask own server : ℕ) (told : Answered)
    (s : Segment)
    → TakeHolds (answered_in packets to) (cut_by cuts) take → take.present ≡ Some p → AnsweredIn packets to ask server told
    → LogKnown texts packets cuts p.source.seg.name.log → NamesItsGroup texts p.source.seg
    → completes_at take take.present own server told ≡ Some s → IsRead part texts s
