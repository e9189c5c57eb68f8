-- What the cleaner reads of the segment in its hand is the filed one.
use Rattle.std.proofs.Common.{◌≡◌, ℕ, true, Option, None, Some, refl, sym, ap, subst, ◌∙◌}
use Rattle.std.specs.Prelude.{List}
use Rattle.std.proofs.lemmas.Map.Views.{tells_apart}
use Rattle.cleaner_serving.specs.declared.emptying.Emptying.{Emptying}
use Rattle.cleaner_job.specs.declared.hand.Hand.{Hand}
use Rattle.cleaner_job.specs.Jobs.{hand_of}
use Rattle.index_tie.specs.Cleaning.{ReadFor}
use Rattle.headline.specs.Filed.{Texts, is_filed_name}
use Rattle.index_tie.specs.Net as index
use Rattle.log_law.specs.Laws.{OneNameOneText}
use Rattle.log_law.specs.Places.{APlaceNamesOneContent}
use Rattle.log_owner.specs.Sending.{server_in}
use Rattle.log_protocol.specs.Tables.{In}
use Rattle.node_slots.specs.owner_index_tie.CleanerEvents.{ReadGets}
use Rattle.node_tellings.specs.reading_tie.Arrivals.{Cuts, Tells, answered_in, cut_by}
use Rattle.node_tellings.specs.reading_tie.CleanerReads.{CleanerReadsWhatCame, ReadsHand}
use Rattle.segment_format.specs.declared.segment.Segment.{Segment}
use Rattle.stripe_cleaner.specs.declared.phase.Phase.{Phase}
use Rattle.stripe_cleaner.specs.declared.phase.Phase.TheVariants.{Greeting, Listing, Counting, Reading, Checking, Deleting, Over}
use Rattle.stripe_code.specs.declared.round.Told.{Told}
use Rattle.stripe_code.specs.declared.round.Told.TheVariants.{Held, Missing}
use Rattle.wire_msg.specs.declared.body.Body.{Body}
use Rattle.wire_msg.specs.declared.body.Body.TheVariants as body
use Rattle.wire_msg.specs.declared.packet.Packet.{Packet}
use Rattle.xfs_base.specs.declared.node.NodeId.TheVariants.{Cleaner}
use Rattle.xfs_base.proofs.Orders.{seg_cmp_exact}
use Rattle.xfs_base.specs.declared.segment.SegName.{SegName}
use Rattle.run_laws.specs.place_law.Hands.{AnswerReads, HandRefers, HandsReadTexts, ReadsWell, ReadsWithin}
use Rattle.run_laws.specs.place_law.Reads.{FiledKnown, LogKnown}
use Rattle.run_laws.proofs.place_law.Texts.{what_is_read_is_the_text}

module _ (one : OneNameOneText) (place : APlaceNamesOneContent) (reads : CleanerReadsWhatCame) (texts : Texts) (packets : List Packet) (cuts : Cuts)
    (i : index.Net)
    (known : FiledKnown texts packets cuts i.filed) where
  -- what is read of the segment in hand, for a job in this phase
  read_for : (o : Option Hand) (s : Segment) (p : Phase) → HandRefers texts o → ReadsWithin i.filed p
      → ReadsHand (answered_in packets Cleaner) (cut_by cuts) o s
      → ReadFor i.filed (Some s) p
  read_for None s p refers within fact = absurd fact
  read_for (Some hand) s (Reading j segment) refers within fact = (within, λ filed named. at filed named)
    where
      at : is_filed_name i.filed segment.name ≡ true → s.name ≡ segment.name → s ≡ i.filed.segment segment.name.log.0 segment.name.seq
      at filed named =
          let same : segment.name ≡ hand.seg.name = sym named ∙ fact.named in
          let log : LogKnown texts packets cuts hand.seg.name.log =
          subst (λ (n : SegName). LogKnown texts packets cuts n.log) same (known.logs segment.name.log.0 segment.name.seq within.some within.filed) in
          let there : Segment = i.filed.segment segment.name.log.0 segment.name.seq in
          let its : segment.name ≡ there.name = tells_apart seg_cmp_exact segment.name there.name filed in
          what_is_read_is_the_text one place texts packets Cleaner cuts hand.seg s log refers fact ∙ ap texts (sym same ∙ its)
          ∙ sym (known.texts_of segment.name.log.0 segment.name.seq within.some within.filed)
  read_for (Some hand) s Greeting refers within fact = tt
  read_for (Some hand) s (Listing l) refers within fact = tt
  read_for (Some hand) s (Counting c) refers within fact = tt
  read_for (Some hand) s (Checking j segment checks) refers within fact = tt
  read_for (Some hand) s (Deleting j segment servers) refers within fact = tt
  read_for (Some hand) s Over refers within fact = tt

  module _ (part : ℕ) (e : Emptying) (well : ReadsWell texts packets cuts i e) (p : Packet) (among : In p packets) (own : p.to ≡ Cleaner) where
    gets : (o : Option ℕ) (ask : ℕ) (t : Told) → server_in p.from ≡ o → Tells ask t p.body → ReadGets part i e o ask t
    gets None ask t from told = tt
    gets (Some server) ask t from told =
        λ s done. read_for (hand_of e.job) s i.job.phase well.refers well.within
        (reads packets Cleaner cuts e ask server t s well.came (record { packet = p; among = among; reader = own; from = from; tells = told }) done)

    pub answer_reads : (m : Body) → p.body ≡ m → AnswerReads part i e p.from m
    answer_reads (body.Fragment m) fact =
        gets (server_in p.from) m.ask (Held m.fragment) refl (subst (Tells m.ask (Held m.fragment)) (sym fact) (refl, refl))
    answer_reads (body.Missing m) fact =
        gets (server_in p.from) m.ask (Missing m.generation) refl (subst (Tells m.ask (Missing m.generation)) (sym fact) (refl, refl))
    answer_reads _ fact = tt

pub hands_read_texts : OneNameOneText → APlaceNamesOneContent → CleanerReadsWhatCame → HandsReadTexts
hands_read_texts one place reads part texts packets cuts i e p known well among own =
    answer_reads one place reads texts packets cuts i known part e well p among own p.body refl
