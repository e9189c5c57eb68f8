-- What a client reads of the place of its fetch is what the filed segment there says.
use Rattle.std.proofs.Common.{◌≡◌, ℕ, List, Option, None, Some, refl, sym, ap, subst, ◌∙◌}
use Rattle.client_call.specs.Reads.{block_read, hear_reading, reading_in, value_at}
use Rattle.client_serving.specs.declared.serving.Serving.{Serving}
use Rattle.node_tellings.specs.entry_tie.ClientTells.{FetchTold}
use Rattle.node_tellings.specs.entry_tie.Told.{PlaceTold, told_by_rows}
use Rattle.run_laws.specs.index_reads.Ties.{ArePlain, BooksAre}
use Rattle.headline.specs.Filed.{Filed, Texts, rows_at}
use Rattle.log_owner.specs.Sending.{server_in}
use Rattle.log_law.specs.Laws.{OneNameOneText}
use Rattle.log_law.specs.Places.{APlaceNamesOneContent}
use Rattle.log_protocol.specs.Tables.{In}
use Rattle.node_slots.specs.node_tie.ClientEvents.{ServingReads}
use Rattle.node_slots.specs.node_tie.ClientLogs.{BringsRead, Tells}
use Rattle.node_tellings.specs.reading_tie.Arrivals as came
use Rattle.node_tellings.specs.reading_tie.Arrivals.{AnsweredIn, Cuts, answered_in, cut_by}
use Rattle.node_tellings.specs.reading_tie.Came.{ReadsTarget}
use Rattle.node_tellings.specs.reading_tie.ClientReads.{ClientsReadWhatCame, ReadsPlace}
use Rattle.segment_format.specs.declared.segment.Segment.{Segment}
use Rattle.segment_reading.specs.declared.reading.Next.{Next}
use Rattle.segment_reading.specs.declared.reading.Next.TheVariants as next
use Rattle.segment_reading.specs.declared.target.BlockAt.{BlockAt}
use Rattle.segment_reading.specs.Reading.{ReadingState}
use Rattle.stripe_code.specs.declared.round.Told.{Told as Answered}
use Rattle.stripe_code.specs.declared.round.Told.TheVariants as answered
use Rattle.token_law.specs.Books.{Books}
use Rattle.token_law.specs.Net as tokens
use Rattle.token_law.specs.Owed.{ReadsThere}
use Rattle.wire_msg.specs.declared.body.Body.{Body}
use Rattle.wire_msg.specs.declared.body.Body.TheVariants as body
use Rattle.wire_msg.specs.declared.packet.Packet.{Packet}
use Rattle.xfs_base.specs.declared.entry.Entry.{Entry}
use Rattle.xfs_base.specs.declared.entry.Place.{Place}
use Rattle.xfs_base.specs.declared.node.NodeId.{NodeId}
use Rattle.xfs_base.specs.declared.node.NodeId.TheVariants as node
use Rattle.run_laws.specs.place_law.Fetches.{FetchesReadThere, FetchesWell, place_read}
use Rattle.run_laws.specs.place_law.Reads.{FiledKnown, LogKnown, NamesItsGroup}
use Rattle.run_laws.proofs.place_law.Lying.{LiesAt, lies_there}
use Rattle.run_laws.proofs.place_law.Texts.{what_is_read_is_the_text}

module _ (texts : Texts) (packets : List Packet) (to : NodeId) (cuts : Cuts) (f : Filed) (known : FiledKnown texts packets cuts f) (k : Books)
    (books : BooksAre k f)
    (plain : ArePlain f) where
  -- ---- a client

  module _ (one : OneNameOneText) (place : APlaceNamesOneContent) (reads : ClientsReadWhatCame) (s : Serving) (well : FetchesWell packets to cuts f s) where
    read_there : (r : ReadingState) (at : BlockAt) (segment : Segment) → reading_in s.call ≡ Some r → r.target.block ≡ Some at
        → ReadsTarget (answered_in packets to) (cut_by cuts) r.target segment → ReadsThere k s.tokens at.block (value_at segment at.item)
    read_there r at segment fact block h x fetch =
        let t : PlaceTold (told_by_rows (rows_at f)) at.block x.ver x.place =
        subst (FetchTold (told_by_rows (rows_at f)) at.block) fetch (well.told.fetches at.block) in
        let e : Entry = record { ver = x.ver; hop = t.hop; place = Some x.place } in
        let lies : LiesAt f k at.block e x.place x.place.seg.name.log.0 x.place.seg.name.seq =
        lies_there f k at.block e x.place known.filed books plain refl t.place_told in
        let there : Segment = f.segment x.place.seg.name.log.0 x.place.seg.name.seq in
        let same : x.place ≡ place_read r at = well.its r at x fact block fetch in
        let named : there ≡ texts x.place.seg.name = known.texts_of _ _ lies.some lies.limit ∙ ap texts (sym lies.name) in
        let group : NamesItsGroup texts x.place.seg = lies.group ∙ ap (λ (z : Segment). z.group) named in
        let log : LogKnown texts packets cuts x.place.seg.name.log = known.logs _ _ lies.some lies.limit in
        let read : segment ≡ texts r.target.seg.name =
        what_is_read_is_the_text one place texts packets to cuts r.target.seg segment
        (subst (λ (p : Place). LogKnown texts packets cuts p.seg.name.log) same log)
        (subst (λ (p : Place). NamesItsGroup texts p.seg) same group) h.joined
        in
        ap (λ (z : Segment). value_at z at.item) read ∙ sym (ap (λ (p : Place). value_at (texts p.seg.name) p.item) same)
        ∙ sym (lies.value ∙ ap (λ (z : Segment). value_at z x.place.item) named)

    module _ (r : ReadingState) (fact : reading_in s.call ≡ Some r) where
      brings : (b : Option BlockAt) (x : Next) → r.target.block ≡ b
          → ((segment : Segment) → x ≡ next.Read segment → ReadsTarget (answered_in packets to) (cut_by cuts) r.target segment) → BringsRead k s b x
      brings None x at h = tt
      brings (Some at) (next.Read segment) block h = read_there r at segment fact block (h segment refl)
      brings (Some at) next.Again block h = tt
      brings (Some at) next.Wait block h = tt
      brings (Some at) next.Ask block h = tt
      brings (Some at) next.Lost block h = tt

    tells : (from : NodeId) (ask : ℕ) (t : Answered) → ((server : ℕ) → from ≡ node.Server server → AnsweredIn packets to ask server t) → Tells k s from ask t
    tells (node.Client n) ask t came = tt
    tells (node.Manager n) ask t came = tt
    tells node.Cleaner ask t came = tt
    tells node.Registry ask t came = tt
    tells (node.Server server) ask t came = by (reading_in s.call) refl
      where
        by : (o : Option ReadingState) → reading_in s.call ≡ o → BringsRead k s (block_read o) (hear_reading o s.maps.groups ask server t).next
        by None fact = tt
        by (Some r) fact = brings r fact r.target.block (hear_reading (Some r) s.maps.groups ask server t).next refl
            (λ segment done. subst (λ (o : Option ReadingState). ReadsPlace (answered_in packets to) (cut_by cuts) o segment) fact
            (reads packets to cuts s ask server t segment well.came (came server refl) (ap (λ o. (hear_reading o s.maps.groups ask server t).next) fact ∙ done)))

    -- a packet that was sent
    module _ (p : Packet) (among : In p packets) (own : p.to ≡ to) (part limit c : ℕ) (n : tokens.Net) (its : n.books ≡ k) where
      came_so : (m : Body) (ask : ℕ) (t : Answered) → p.body ≡ m → came.Tells ask t m → (server : ℕ) → p.from ≡ node.Server server
          → AnsweredIn packets to ask server t
      came_so m ask t fact told server from = record {
        packet = p;
        among = among;
        reader = own;
        from = ap server_in from;
        tells = subst (came.Tells ask t) (sym fact) told;
      }

      pub reads_so : (m : Body) → p.body ≡ m → ServingReads part limit c n s p m
      reads_so (body.Fragment m) fact =
          subst (λ (b : Books). Tells b s p.from m.ask (answered.Held m.fragment)) (sym its)
          (tells p.from m.ask (answered.Held m.fragment) (came_so (body.Fragment m) m.ask (answered.Held m.fragment) fact (refl, refl)))
      reads_so (body.Missing m) fact =
          subst (λ (b : Books). Tells b s p.from m.ask (answered.Missing m.generation)) (sym its)
          (tells p.from m.ask (answered.Missing m.generation) (came_so (body.Missing m) m.ask (answered.Missing m.generation) fact (refl, refl)))
      reads_so _ fact = tt

pub fetches_read_there : OneNameOneText → APlaceNamesOneContent → ClientsReadWhatCame → FetchesReadThere
fetches_read_there one place reads texts packets to cuts f s p part limit c n known books plain well among own =
    reads_so texts packets to cuts f known n.books books plain one place reads s well p among own part limit c n refl p.body refl
