-- Each act of a run names what is, up to the first doubtful restart; so what its text tells is read as it was acted, and it is said to be legal.
use Rattle.std.proofs.Common.{◌≡◌, ℕ, true, List, [], ◌∷◌, length, Option, Some, None, inl, inr, refl, subst}
use Rattle.std.specs.List.{AllByRecursion}
use Rattle.audit.specs.Journal.{IsAudited}
use Rattle.client_node.specs.Phases.{lasting_of}
use Rattle.core_world.specs.AnyNode.{any_start, any_step}
use Rattle.core_world.specs.declared.any_node.AnyNode.{AnyNode}
use Rattle.core_world.specs.declared.any_node.AnyNode.TheVariants as any
use Rattle.headline.specs.Audits.{AreSaidLegal, SaysLegal, TextIsLegal, text_upto, told}
use Rattle.headline.specs.Calls.{IsClients, is_of_items}
use Rattle.headline.specs.Losses.{EachLostActIsEarned}
use Rattle.headline.specs.Moments.{moment}
use Rattle.headline.specs.Restarts.{NoDoubtfulRestart}
use Rattle.journal_law.proofs.Fronts.{fronts_legal, one_verdict, run_legal}
use Rattle.journal_law.specs.Runs.{IsAnsweredInALine, IsPrinted}
use Rattle.journal_law.specs.Told.{IsClient, IsFlight, IsSegment}
use Rattle.log_law.specs.LogLaws.{LogLaws}
use Rattle.log_tie.specs.Setting.{Setting}
use Rattle.node_base.specs.Setups.{IsSetup}
use Rattle.node_slots.specs.owner_index_tie.ServerEvents.{ServerEventGoes}
use Rattle.run_answers.specs.act_law.Files.{EachFileAnswerIsPlanned}
use Rattle.run_answers.specs.act_law.Runs.{EachAnswersActs}
use Rattle.run_answers.specs.once_law.Runs.{EachItemIsAnsweredOnce}
use Rattle.run_answers.specs.own_law.Runs.{EachRunsClientsActForItems}
use Rattle.run_laws.proofs.world_law.Laws as tokens
use Rattle.run_laws.specs.reading_law.Readings.{RunsReadWhatCame}
use Rattle.run_laws.specs.reopening_law.Openings.{ClientsComeBack, OpeningsEndByOne}
use Rattle.run_laws.specs.restart_law.Unlost.{ScriptsWithoutLossesAreUndoubted}
use Rattle.run_laws.specs.world_logs.Lines.{HasLines, RunsHaveLines}
use Rattle.run_laws.specs.world_logs.Listing.{RunsListTheirLogs}
use Rattle.run_laws.specs.world_reads.Legal.{EveryRunsActsAreLegal}
use Rattle.run_losses.specs.earned_law.Earned.{LostActsAreEarned}
use Rattle.segment_format.specs.Ranges.{FitsName}
use Rattle.token_protocol.specs.Basics.{In}
use Rattle.transcript.specs.Text.{text_of}
use Rattle.version_model.specs.declared.act.Act.{Act}
use Rattle.version_model.specs.declared.act.Act.TheVariants as act
use Rattle.version_model.specs.declared.act.Fall.{Fall}
use Rattle.version_model.specs.declared.verdict.Verdict.TheVariants.{Legal}
use Rattle.version_model.specs.Legal.{AreLegal}
use Rattle.world_base.specs.declared.estate.Estate.{Estate}
use Rattle.world_base.specs.declared.world.World.{World}
use Rattle.world_base.specs.Events.{what_of}
use Rattle.world_base.specs.NextWorld.{start_world}
use Rattle.world_base.specs.Runs.{IsRun}
use Rattle.xfs_base.specs.declared.segment.SegName.{SegName}
use Rattle.run_audits.proofs.Acted.{Acted, acted, acted_at_end, at_end}
use Rattle.run_audits.proofs.Answered.{answered_in_lines}
use Rattle.run_audits.proofs.ClientActs as clients
use Rattle.run_audits.proofs.Clients.{all_of}
use Rattle.run_audits.proofs.Drops.{cleaner_counts}
use Rattle.run_audits.proofs.Flown.{filed_counts}
use Rattle.run_audits.proofs.Losses.{lost_counts}
use Rattle.run_audits.proofs.Others.{manager_keeps, registry_keeps, server_keeps}
use Rattle.run_audits.specs.Laws.{ActsNameWhatIs, ItemsAreAnsweredInLines, RunsAreAuditedLegal}
use Rattle.run_audits.specs.Names.{CountsFlight, IsCounted, NamesWhatIs}
use Rattle.run_audits.specs.Ranges.{FitsAct, FitsFlight}

-- the laws that it stands on
pub record Below : Type 0 where
  pub base : Setting
  pub lines : RunsHaveLines
  pub lists : RunsListTheirLogs
  pub logs : LogLaws
  pub tokens : tokens.NodeLaws
  pub servers : ServerEventGoes
  pub reads : RunsReadWhatCame
  pub ends : OpeningsEndByOne
  pub back : ClientsComeBack
  pub acting : EachRunsClientsActForItems
  pub earned : LostActsAreEarned
  pub acts : EachAnswersActs
  pub plans : EachFileAnswerIsPlanned
  pub once : EachItemIsAnsweredOnce

module _ (below : Below) (e : Estate AnyNode) (setup : IsSetup e.script.setup) (run : IsRun any_step any_start e.script e.events e.world) where
  lines : HasLines below.base e
  lines = below.lines below.base e setup run

  lost : EachLostActIsEarned e
  lost = below.earned e setup run

  module _ (count : ℕ) where
    abbrev By : (a : Act) → Acted e a count → Type 0
    By a t = clients.ByClient below.logs below.acting below.ends below.back below.base e setup lines a count t

    -- what a client alone acts, and that it is one
    by : (a : Act) (t : Acted e a count) → IsClients a → is_of_items a ≡ true → By a t
    by a t alone item = clients.clients below.logs below.acting below.ends below.back below.base e setup lines a count t alone item

    its_client : (a : Act) (t : Acted e a count) (b : By a t) (c : ℕ) → c ≡ (lasting_of b.client.phase).number → IsClient c
    its_client a t b c is = clients.is_client below.logs below.acting below.ends below.back below.base e setup lines a count t b c is

    fell_named : (c : ℕ) (flight : Option (ℕ × ℕ)) (falls : List Fall) (t : Acted e (act.Fell c flight falls) count) → NamesWhatIs (act.Fell c flight falls)
    fell_named c flight falls t =
        let b = by (act.Fell c flight falls) t tt refl in
        let fallen = b.its.1 in (
          its_client (act.Fell c flight falls) t b c b.its.0,
          clients.fall_counts below.logs below.acting below.ends below.back below.base e setup lines (act.Fell c flight falls) count t b flight
              (clients.fall_flies c flight falls b.client (what_of t.event) fallen b.acts) fallen.serves,
        )

    back_named : (c : ℕ) (chain : List SegName) (t : Acted e (act.Back c chain) count) → NamesWhatIs (act.Back c chain)
    back_named c chain t =
        let b = by (act.Back c chain) t tt refl in (
          its_client (act.Back c chain) t b c b.its.0,
          clients.chain_back_counts below.logs below.acting below.ends below.back below.base e setup lines (act.Back c chain) count t b c chain b.acts b.its.1
              b.its.2,
        )

    dropped_named : (name : SegName) (t : Acted e (act.Dropped name) count) (x : AnyNode) → t.node ≡ x
        → In (act.Dropped name) (any_step x (what_of t.event)).acts → IsCounted name
    dropped_named name t (any.Client c) is fact =
        absurd (clients.by_client below.logs below.acting below.ends below.back below.base e setup lines (act.Dropped name) count t refl c is).its
    dropped_named name t (any.Manager m) is fact = absurd (manager_keeps m (what_of t.event) name fact)
    dropped_named name t (any.Server v) is fact = absurd (server_keeps below.servers v (what_of t.event) name fact)
    dropped_named name t (any.Cleaner c) is fact = cleaner_counts below.logs below.base e setup run lines below.lists below.reads name count t c is
    dropped_named name t (any.Registry r) is fact = absurd (registry_keeps r (what_of t.event) name fact)

    named : NoDoubtfulRestart e count → (a : Act) → In a (moment e count).acts → NamesWhatIs a
    named sure (act.Wrote c block value) fact =
        (let t = acted e (act.Wrote c block value) count fact in let b = by (act.Wrote c block value) t tt refl in
        its_client (act.Wrote c block value) t b c b.its)
    named sure (act.Read c block ver value) fact =
        (let t = acted e (act.Read c block ver value) count fact in let b = by (act.Read c block ver value) t tt refl in
        its_client (act.Read c block ver value) t b c b.its)
    named sure (act.Synced c) fact =
        (let t = acted e (act.Synced c) count fact in let b = by (act.Synced c) t tt refl in its_client (act.Synced c) t b c b.its)
    named sure (act.Fell c flight falls) fact = fell_named c flight falls (acted e (act.Fell c flight falls) count fact)
    named sure (act.Back c chain) fact = back_named c chain (acted e (act.Back c chain) count fact)
    named sure (act.Lost node seg) fact =
        lost_counts below.logs below.base e setup run lines lost count sure node seg (acted e (act.Lost node seg) count fact)
    named sure (act.Filed seg) fact = filed_counts below.logs below.base e lines below.tokens below.servers setup run count seg fact
    named sure (act.Dropped seg) fact =
        (let t = acted e (act.Dropped seg) count fact in dropped_named seg t t.node refl t.does)
    named sure (act.Answered node item a) fact = tt

-- ---- what is named, and in the ranges of its types, can be told

segment_told : (seg : SegName) → FitsName seg → IsCounted seg → IsSegment seg
segment_told seg fits c = record {
  written = c.log.0;
  log = c.log.1;
  seq = record { some = c.seq; small = fits.0 };
  inc = record { some = c.inc; small = fits.1.0 };
  att = record { some = c.att; small = fits.1.1 };
}

chain_told : (chain : List SegName) → AllByRecursion FitsName chain → AllByRecursion IsCounted chain → AllByRecursion IsSegment chain
chain_told [] fits named = tt
chain_told (seg ∷ chain) fits named = (segment_told seg fits.0 named.0, chain_told chain fits.1 named.1)

flight_told : (flight : Option (ℕ × ℕ)) → FitsFlight flight → CountsFlight flight → IsFlight flight
flight_told None fits named = tt
flight_told (Some p) fits named = (record { some = named.0; small = fits.0 }, record { some = named.1; small = fits.1 })

act_printed : (a : Act) → FitsAct a → NamesWhatIs a → IsAnsweredInALine a → IsPrinted a
act_printed (act.Wrote client block value) fits named line = (named, fits.0, fits.1)
act_printed (act.Read client block ver value) fits named line = (named, fits.0, fits.1, fits.2)
act_printed (act.Synced client) fits named line = named
act_printed (act.Fell client flight falls) fits named line = (named.0, flight_told flight fits.0 named.1, fits.1)
act_printed (act.Back client chain) fits named line = (named.0, chain_told chain fits named.1)
act_printed (act.Lost node seg) fits named line = (named.0, segment_told seg fits named.1)
act_printed (act.Filed seg) fits named line = segment_told seg fits named
act_printed (act.Dropped seg) fits named line = segment_told seg fits named
act_printed (act.Answered node item answer) fits named line = line

all_printed : (acts : List Act) → ((a : Act) → In a acts → IsPrinted a) → AllByRecursion IsPrinted acts
all_printed [] each = tt
all_printed (a ∷ acts) each = (each a (inl refl), all_printed acts (λ b fact. each b (inr fact)))

-- ---- the laws

pub acts_name_what_is : Below → ActsNameWhatIs
acts_name_what_is below e setup run count sure a fact = named below e setup run count sure a fact

pub items_are_answered_in_lines : Below → ItemsAreAnsweredInLines
items_are_answered_in_lines below e run = answered_in_lines below.acts below.plans below.once e run

said : (bytes : List ℕ) (count : ℕ) → IsAudited bytes (Legal count) → AreSaidLegal bytes count
said bytes count judged = record { judged = judged; only = one_verdict bytes count judged }

module _ (names : ActsNameWhatIs) (in_lines : ItemsAreAnsweredInLines) (legal : EveryRunsActsAreLegal) (undoubted : ScriptsWithoutLossesAreUndoubted)
    (e : Estate AnyNode) (setup : IsSetup e.script.setup) (run : IsRun any_step any_start e.script e.events e.world)
    (fits : AllByRecursion FitsAct e.world.acts) where
  answered : AllByRecursion IsAnsweredInALine e.world.acts
  answered = in_lines e run

  printed : (count : ℕ) → NoDoubtfulRestart e count → AllByRecursion IsPrinted (moment e count).acts
  printed count sure =
      all_printed (moment e count).acts
      (λ a fact. (let among = acted_at_end e run a count fact in
      act_printed a (all_of FitsAct e.world.acts fits a among) (names e setup run count sure a fact) (all_of IsAnsweredInALine e.world.acts answered a among)))

  text_legal : e.script.setup.acts ≡ true → TextIsLegal e
  text_legal asked = record { fronts = fronts; whole = whole; unlost = λ none. whole ((undoubted e setup run none).1 (length e.events)) }
    where
      fronts : (count : ℕ) → NoDoubtfulRestart e count → SaysLegal (text_upto e count) (moment e count).acts
      fronts count sure short =
          said (text_upto e count) (length (told (moment e count).acts))
          (fronts_legal e (moment e count).acts (record { answers = answered; acts = printed count sure; short = short }) (legal e setup run count sure))

      end : moment e (length e.events) ≡ e.world
      end = at_end e.events (start_world any_start e.script) e.world run

      whole : NoDoubtfulRestart e (length e.events) → SaysLegal (text_of e) e.world.acts
      whole sure short =
          let all = subst (λ (w : World AnyNode). AllByRecursion IsPrinted w.acts) end (printed (length e.events) sure) in
          let so = subst (λ (w : World AnyNode). AreLegal w.acts) end (legal e setup run (length e.events) sure) in
          said (text_of e) (length (told e.world.acts)) (run_legal e (record { asked = asked; acts = all; short = short }) so)

pub runs_are_audited_legal : ActsNameWhatIs → ItemsAreAnsweredInLines → EveryRunsActsAreLegal → ScriptsWithoutLossesAreUndoubted → RunsAreAuditedLegal
runs_are_audited_legal names in_lines legal undoubted e setup run fits asked = text_legal names in_lines legal undoubted e setup run fits asked
