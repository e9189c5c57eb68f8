-- What the cleaner reads of the segment in its hand is the segment that was filed at its number, where that bears its name.
use Rattle.std.specs.Prelude.{◌≡◌, ℕ, List, Option, Some, None}
use Rattle.cleaner_serving.specs.declared.emptying.Emptying.{Emptying}
use Rattle.cleaner_job.specs.declared.hand.Hand.{Hand}
use Rattle.cleaner_job.specs.Jobs.{hand_of}
use Rattle.index_tie.specs.Cleaning.{IsWithin}
use Rattle.headline.specs.Filed.{Filed, Texts}
use Rattle.index_tie.specs.Net as index
use Rattle.log_owner.specs.Sending.{server_in}
use Rattle.log_protocol.specs.Tables.{In}
use Rattle.node_slots.specs.owner_index_tie.CleanerEvents.{ReadGets}
use Rattle.node_tellings.specs.reading_tie.Arrivals.{Cuts, answered_in, cut_by}
use Rattle.node_tellings.specs.reading_tie.CleanerReads.{ServesSo}
use Rattle.stripe_cleaner.specs.declared.phase.Phase.{Phase}
use Rattle.stripe_cleaner.specs.declared.phase.Phase.TheVariants.{Reading}
use Rattle.stripe_code.specs.declared.round.Told.TheVariants.{Held, Missing}
use Rattle.wire_msg.specs.declared.body.Body.{Body}
use Rattle.wire_msg.specs.declared.body.Body.TheVariants as body
use Rattle.wire_msg.specs.declared.packet.Packet.{Packet}
use Rattle.xfs_base.specs.declared.node.NodeId.TheVariants.{Cleaner}
use Rattle.xfs_base.specs.declared.node.NodeId.{NodeId}
use Rattle.run_laws.specs.place_law.Copies.{HasJob}
use Rattle.run_laws.specs.place_law.Reads.{FiledKnown, NamesItsGroup}

-- the log of the segment that the job reads has filed its number
abbrev pub ReadsWithin : Filed → Phase → Type 0
ReadsWithin f (Reading j segment) = IsWithin f segment.name
ReadsWithin f _ = Unit {0}

-- the segment in hand is referred to with the group of the text of its name
abbrev pub HandRefers : Texts → Option Hand → Type 0
HandRefers texts None = Unit {0}
HandRefers texts (Some hand) = NamesItsGroup texts hand.seg

-- The cleaner that reads a segment for its job: that is the small world's, and what it holds of the reading came.
pub record ReadsWell (texts : Texts) (packets : List Packet) (cuts : Cuts) (i : index.Net) (e : Emptying) : Type 0 where
  pub job : HasJob i e
  pub came : ServesSo (answered_in packets Cleaner) (cut_by cuts) e
  pub within : ReadsWithin i.filed i.job.phase
  pub refers : HandRefers texts (hand_of e.job)

-- what a server's answer is owed
abbrev pub AnswerReads : ℕ → index.Net → Emptying → NodeId → Body → Type 0
AnswerReads part i e from (body.Fragment m) = ReadGets part i e (server_in from) m.ask (Held m.fragment)
AnswerReads part i e from (body.Missing m) = ReadGets part i e (server_in from) m.ask (Missing m.generation)
AnswerReads part i e from _ = Unit {0}

-- Whatever packet that was sent to it makes the reading end, the segment that is read is the filed one, where that bears its name.
abbrev pub HandsReadTexts : Type 0
HandsReadTexts =
    (part : ℕ) (texts : Texts) (packets : List Packet) (cuts : Cuts) (i : index.Net) (e : Emptying) (p : Packet) → FiledKnown texts packets cuts i.filed
    → ReadsWell texts packets cuts i e → In p packets → p.to ≡ Cleaner → AnswerReads part i e p.from p.body
