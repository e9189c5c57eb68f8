-- The event of the cleaner that ends a restart, beside one run: what was read back is what was filed and adopted, and the log is open as the books of tokens
-- are.
use Rattle.std.proofs.Common.{◌≡◌, ◌≤◌, ℕ, suc, List, [], ◌∷◌, refl, sym, ap, subst, ◌∙◌, arith}
use Rattle.std.specs.List.{AllByRecursion, filter_map}
use Rattle.std.proofs.lemmas.Option.{unwrap_or-slice_get}
use Rattle.cleaner_serving.specs.declared.emptying.Emptying.{Emptying}
use Rattle.client_node.specs.Crash.{flight_of}
use Rattle.node_logs.specs.cleaner_log_tie.Owner as cleaner_log
use Rattle.cleaner_node.specs.CleanerEvents.{takes}
use Rattle.cleaner_node.specs.declared.cleaner.Cleaner.{Cleaner as CleanerNode}
use Rattle.cleaner_node.specs.declared.cleaner.Phase as cleaning
use Rattle.cleaner_node.specs.declared.cleaner.Phase.TheVariants.{Opening, Serving}
use Rattle.cleaner_job.specs.declared.lasting.Lasting.{Lasting}
use Rattle.client_log.specs.LogState.{LogState}
use Rattle.node_logs.specs.client_log_tie.ClientEvents.{ServesStraight}
use Rattle.node_logs.specs.client_log_tie.Owner.{Scene, SeesLog}
use Rattle.log_law.specs.Events.{Runs}
use Rattle.log_law.specs.Events.Runs.{On}
use Rattle.log_law.specs.Laws.{Moment}
use Rattle.log_law.specs.Net.Owner.{Writing}
use Rattle.log_law.specs.Restarts.{IsSureRun, last_flight}
use Rattle.log_law.specs.Tails.{then_on}
use Rattle.log_owner.specs.declared.opening.Opening as openings
use Rattle.log_owner.specs.Opened.{names_in}
use Rattle.log_owner.specs.Promised.{epoch_of}
use Rattle.log_tie.specs.Setting.{Setting}
use Rattle.node_slots.specs.node_index_tie.Sight.{RowsFit}
use Rattle.node_slots.specs.node_tie.CleanerEvents.{CleanerGoes, CleanerStands, ServesSo}
use Rattle.node_slots.specs.node_tie.CleanerLogs.{ReopensAt}
use Rattle.node_slots.specs.owner_index_tie.CleanerEvents.{ReopensOn}
use Rattle.node_slots.specs.owner_index_tie.Owners.{EndOwed, ReadBack}
use Rattle.run_laws.specs.reopening_law.Openings.{EndsByOne, EndsSo, comes_to}
use Rattle.run_laws.specs.reopening_law.Reopens.{AreTextsThere, BooksThen, FiledOf, Reopens, TellsApart, has_flight}
use Rattle.segment_format.specs.declared.segment.Segment.{Segment}
use Rattle.segment_format.specs.declared.segment.Item.{Item}
use Rattle.segment_format.specs.declared.segment.Item.TheVariants.{Block, Delta, Part}
use Rattle.segment_format.specs.Ranges.{Fits, FitsItem}
use Rattle.segment_format.specs.Rows.{row_of, rows_of}
use Rattle.version_model.specs.Effects.{holds_flight}
use Rattle.wire_msg.specs.declared.packet.Do.{Do}
use Rattle.wire_msg.specs.declared.packet.Do.TheVariants.{Begin, Deliver, Tick}
use Rattle.run_laws.specs.world_lines.Lines.{IsLine}
use Rattle.headline.specs.Logs.Role.{OfCleaner}
use Rattle.run_laws.proofs.world_reads.CleanerMoment.{Steps, its_line, its_moment, its_scene, its_setting, owns}
use Rattle.run_laws.proofs.world_reads.CleanerReopens.{ComesBack, comes_back}
use Rattle.run_laws.specs.world_reads.Joint.{Joint}
use Rattle.run_laws.proofs.world_reads.Joint.{IsSureUpto}
use Rattle.run_laws.proofs.world_reads.Below.{Below}
use Rattle.run_laws.specs.world_reads.LoggedRuns.{LoggedRun}

-- what a segment that has a text says of blocks fits its types
items_fit : (s : Segment) (items : List Item) → AllByRecursion FitsItem items → RowsFit (filter_map (row_of s) items)
items_fit s [] all = tt
items_fit s (Block block value ∷ items) all = items_fit s items all.1
items_fit s (Delta block ver hop item ∷ items) all = (all.0.0.1, items_fit s items all.1)
items_fit s (Part slot rows ∷ items) all = items_fit s items all.1

rows_fit : (s : Segment) → Fits s → RowsFit (rows_of s)
rows_fit s fits = items_fit s s.items fits.items

module _ (below : Below) (logged : LoggedRun) (part count : ℕ) (joint : Joint logged part count) (node : CleanerNode) (what : Do)
    (steps : Steps logged part count node what) (straight : ServesStraight ((its_line logged part).goes count)) (apart : TellsApart (its_setting logged part))
    (sure : IsSureUpto logged part (suc count)) (l : Lasting) (o : openings.Opening) (v : Emptying) (opens : node.phase ≡ Opening l o)
    (serves : (takes node.peers node.phase what).state ≡ Serving v) where
  open logged use {texts}

  abbrev g : Setting
  g = its_setting logged part

  abbrev w : Scene
  w = its_scene logged part count

  abbrev x : Scene
  x = its_scene logged part (suc count)

  abbrev at : Moment g w.net
  at = its_moment logged part count

  abbrev runs : Runs g w.net x.net
  runs = (its_line logged part).goes count

  pub came : ComesBack (comes_to o l.questions what) v
  came = comes_back v l o node.peers what (subst (λ (p : cleaning.Phase). (takes node.peers p what).state ≡ Serving v) opens serves)

  before : cleaner_log.Opens g w l o
  before = subst (cleaner_log.CleanerAgrees g w) opens (owns logged part count node steps.before).agrees

  after : cleaner_log.Stands g x v
  after = subst (cleaner_log.CleanerAgrees g x) serves (owns logged part (suc count) _ steps.after).agrees

  ends_so : (d : Do) → EndsSo g cleaner_log.its_number o (comes_to o l.questions d)
  ends_so (Deliver p) = (below.reopenings.openings_end_by_one g cleaner_log.its_number o l.questions).0 p
  ends_so Tick = (below.reopenings.openings_end_by_one g cleaner_log.its_number o l.questions).1
  ends_so Begin = tt

  pub one : EndsByOne g w x runs o came.opened
  one = (subst (EndsSo g cleaner_log.its_number o) came.comes (ends_so what)) w x l.questions.last runs before.sees
      (subst (SeesLog g cleaner_log.its_number x) came.log after.log) straight

  pub calm : IsSureRun (On at.run one.happens)
  calm =
      subst (λ (r : Runs g w.net x.net). IsSureRun (then_on at.run r)) one.one
      (subst (λ (m : Moment g x.net). IsSureRun m.run) ((its_line logged part).joined count) (sure OfCleaner tt refl))

  pub reopens : Reopens g w.net x.net one.settling.chain one.settling.log came.opened.log
  reopens = record {
    sure = refl;
    apart = apart;
    moment = at;
    happens = one.happens;
    calm = calm;
    writes = one.writes;
    serves = one.serves;
    own = one.own;
    empty = one.empty;
  }

  line : IsLine 9 w.net joint.idx.net.filed
  line = joint.lined OfCleaner tt refl

  pub filed_of : FiledOf 9 joint.idx.net.filed w.net
  filed_of = record { flew = line.lined.flown; filed = line.lined.filed; seq = line.lined.seq; all = line.all }

  there : AreTextsThere texts.text w.net
  there = record {
    texts_are = texts.flown OfCleaner tt count;
    fit = λ t fact. rows_fit t (below.logs.written g w.net at t fact).written.fits;
  }

  read_back : ReadBack texts.text 9 joint.idx.net.filed one.settling.low one.settling.log.end.seq one.settling.chain
  read_back =
      below.reopenings.reopenings_read_back g w.net x.net one.settling.chain one.settling.log came.opened.log reopens texts.text 9 joint.idx.net.filed
      one.settling.low there filed_of
      one.reads

  -- what was read back is what was filed and adopted
  pub end_owed : EndOwed texts.text 9 joint.idx.net.filed o.stage
  end_owed = subst (EndOwed texts.text 9 joint.idx.net.filed) (sym one.settles) read_back

  -- and the books are opened again as the log is
  books_then : BooksThen reopens joint.tok.net.books 9 joint.idx.net.filed
  unfolding reopens
  books_then = record {
    filed = filed_of;
    books = record {
      end = joint.books.end 9 (omega arith) (omega arith);
      rows = λ q some limit. joint.books.rows 9 q (omega arith) (omega arith) some limit;
    };
    flew = joint.flew OfCleaner tt refl;
  }

  pub reopens_at : ReopensAt joint.tok.net.books (has_flight reopens) came.opened
  reopens_at = below.reopenings.the_cleaner_reopens_so g w.net x.net one.settling.chain one.settling.log came.opened.log reopens joint.tok.net.books
      joint.idx.net.filed books_then
      came.opened one.opened

  -- with what was in flight just where the chain that was read back has that
  pub adopts : (chain : List Segment) (s : LogState) → w.net.owner ≡ Writing chain s
      → has_flight reopens ≡ holds_flight (names_in chain) (flight_of (last_flight at.run))
  unfolding reopens
  adopts chain s fact = ap (λ c. holds_flight (names_in c) (flight_of (last_flight at.run)))
      (one_chain one.settling.chain chain one.settling.log s (sym one.writes ∙ fact))
    where
      one_chain : (a b : List Segment) (x y : LogState) → Writing a x ≡ Writing b y → a ≡ b
      one_chain a b x y same = cc

  -- What is promised then is no less than before, as tokens tell; the index knows of no later promise than they.
  pub reopens_on : (limit : ℕ) → CleanerGoes part joint.tok.net.promised limit node.phase (takes node.peers node.phase what).state
      (takes node.peers node.phase what).outs
      → joint.idx.net.promised ≤ joint.tok.net.promised
      → ReopensOn part texts.text joint.idx.net node.phase (takes node.peers node.phase what).state
  reopens_on limit goes upto =
      subst (λ (p : cleaning.Phase). ReopensOn part texts.text joint.idx.net p (takes node.peers node.phase what).state) (sym opens)
      (subst (ReopensOn part texts.text joint.idx.net (Opening l o)) (sym serves) (end_owed, (stands.eight, promised)))
    where
      stands : ServesSo part goes.next limit v
      stands = subst (CleanerStands part goes.next limit) serves goes.stands

      promised : joint.idx.net.promised ≤ epoch_of v.promised part
      promised = (let same = unwrap_or-slice_get v.promised.epochs part 0 in let fact = stands.promises in let rises = goes.rises in omega arith)
