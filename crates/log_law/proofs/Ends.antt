-- The end of a log that is served is the last filed segment, and what is filed while its owner serves was in flight.
use Rattle.std.proofs.Common.{◌≡◌, ⊎_elim, ◌+◌, ◌<◌, ◌≤◌, ◌⊎◌, false, List, [], ◌∷◌, Option, Some, None, sym, ap, subst, ◌∙◌, inl, inr, arith}
use Rattle.std.specs.Prelude.{IfSome}
use Rattle.std.specs.List.{AllByRecursion}
use Rattle.xfs_base.specs.declared.segment.End.{End}
use Rattle.xfs_base.specs.declared.segment.LogId.{LogId}
use Rattle.xfs_base.specs.declared.segment.SegName.{SegName}
use Rattle.segment_format.specs.declared.segment.Segment.{Segment}
use Rattle.log_flight.specs.Flights.{FlightState}
use Rattle.client_log.specs.declared.input.In.{In as Input}
use Rattle.client_log.specs.declared.output.Out.{Out}
use Rattle.client_log.specs.declared.output.Out.TheVariants.{Send, Settled}
use Rattle.client_log.specs.History.{TellsWhatIsDue}
use Rattle.client_log.specs.LogState.{LogState}
use Rattle.client_log.specs.Transition as log
use Rattle.log_protocol.specs.Tables.{In}
use Rattle.log_tie.specs.Setting.{Setting, name_of}
use Rattle.log_tie.specs.Seen.{Serves as ServesShown, FlightShown, log_filed}
use Rattle.log_tie.proofs.Names.{some_number}
use Rattle.log_law.specs.Net.{Net}
use Rattle.log_law.specs.Net.Owner.{Serving}
use Rattle.log_law.specs.Ends.{EndIsLast, EndsAreLast, IsFlight, FilesItsFlight}
use Rattle.log_law.specs.Events.Happens.{Acts, Writes, Opens, Crashes, Restarts, Renews, Serves, Bars, Lists, Hears, Raises, Publishes, Welcomes, Drops}
use Rattle.log_law.specs.Below.{Below}
use Rattle.log_law.proofs.Calmer.{doubtful}
use Rattle.log_law.proofs.Feeding.{passes, in_either}
use Rattle.log_law.proofs.Followed.{along_moment}
use Rattle.log_law.proofs.Gapless.{served_head}
use Rattle.log_law.proofs.InLine.{number_of, within}
use Rattle.log_law.proofs.Views.{OwnerShown, Behind, View}
use Rattle.log_law.proofs.Wholeness.{seen}

-- what the log files by an input is of its flight
pub landed : (s : LogState) (i : Input) (l : LogId) (outs : List Out) → AllByRecursion (TellsWhatIsDue s i) outs → (name : SegName) → In name (log_filed l outs)
    → (f : FlightState) × (s.flight ≡ Some f) × (record { log = l; seq = f.segment.name.seq; pass = f.segment.name.pass } ≡ name)
landed s i l [] all name among = absurd among
landed s i l (Send f m ∷ os) all name among = landed s i l os all.1 name among
landed s i l (Settled end rows ∷ os) all name (inl e) =
    (all.0.flight, all.0.was, sym (e ∙ ap (λ (z : End). record { log = l; seq = z.seq; pass = z.pass }) all.0.is_end))
landed s i l (Settled end rows ∷ os) all name (inr among) = landed s i l os all.1 name among

module _ (g : Setting) (n : Net) (h : View g n) (s : LogState) (fact : n.owner ≡ Serving s) where
  there : ServesShown g h.w h.book s × Behind g h.w h.book s
  there = subst (OwnerShown g h.w h.book h.hellos) fact h.owner

  -- ---- the end

  module _ (k : Below) (none : g.doubts ≡ false) where
    some : (name : SegName) → In name n.filed → 0 < name.seq
    some name among = let x = number_of k g none n h name among in let a = (k.protocol.book h.w h.reached).seq_some x.number x.booked in let b =
        x.seq in omega arith

    last : (name : SegName) → In name n.filed → name.seq ≤ s.end.seq
    last name among = let a = within k g none n h name among in let b = served_head k g n h (h.calm none) s fact in omega arith

    filed : 0 < s.end.seq → In (record { log = s.log; seq = s.end.seq; pass = s.end.pass }) n.filed
    filed some = by h.highest
      where
        end_some : 0 < h.w.end
        end_some = some_number g h.w.end (let e = there.0.end_seq in omega arith)

        named : name_of g h.w.end ≡ record { log = s.log; seq = s.end.seq; pass = s.end.pass }
        named = λ j. record {
          log = (sym there.0.writes.log) j;
          seq = there.0.end_seq j;
          pass = (sym (passes g s.end.pass s.end.seq h.w.end end_some (sym there.0.end))) j;
        }

        by : (h.w.end ≡ 0) ⊎ In (name_of g h.w.end) n.filed → In (record { log = s.log; seq = s.end.seq; pass = s.end.pass }) n.filed
        by (inl nothing) = absurd (let a = end_some in omega arith)
        by (inr a) = subst (λ z. In z n.filed) named a

    next : IfSome s.flight (λ f. f.segment.name.seq ≡ s.end.seq + 1)
    next = by s.flight there.0.flight
      where
        by : (o : Option FlightState) → FlightShown g h.book o s.inc s.end.seq (h.w.booked h.w.flight) h.w.flight h.w.noted
            → IfSome o (λ f. f.segment.name.seq ≡ s.end.seq + 1)
        by None shown = tt
        by (Some f) shown = ap (λ (z : Segment). z.name.seq) shown.segment ∙ shown.next

    pub end_is_last : EndIsLast n s
    end_is_last = record { some = some; last = last; filed = filed; next = next }

  -- ---- what is filed

  -- a flight is of the log
  of_log : (f : FlightState) → s.flight ≡ Some f → f.segment.name.log ≡ g.log
  of_log f flies = by s.flight flies there.0.flight
    where
      by : (o : Option FlightState) → o ≡ Some f → FlightShown g h.book o s.inc s.end.seq (h.w.booked h.w.flight) h.w.flight h.w.noted
          → f.segment.name.log ≡ g.log
      by None e shown = absurd cc
      by (Some z) e shown =
          let same : z ≡ f = cc in
          ap (λ (y : FlightState). y.segment.name.log) (sym same)
          ∙ (ap (λ (y : Segment). y.name.log) shown.segment ∙ ap (λ (y : SegName). y.log) (h.paged h.w.flight shown.is_booked).named)

  flown_name : (f : FlightState) (name : SegName) → s.flight ≡ Some f → record { log = g.log; seq = f.segment.name.seq; pass = f.segment.name.pass } ≡ name
      → f.segment.name ≡ name
  flown_name f name flies e = ap (λ l. record { log = l; seq = f.segment.name.seq; pass = f.segment.name.pass }) (of_log f flies) ∙ e

pub ends_are_last : Below → EndsAreLast
ends_are_last k g n none m calm s fact = end_is_last g n (along_moment k g none n m calm).view s fact k none

pub files_its_flight : Below → FilesItsFlight
files_its_flight k g n o m s fact (Acts t i is_t came texts) name among =
    ⊎_elim (λ new. inr (flies (landed t i g.log (log.transition t i).outs (k.logs.due t i) name new))) inl
    (in_either (log_filed g.log (log.transition t i).outs) n.filed name among)
  where
    same : t ≡ s
    same = cc

    flies : (f : FlightState) × (t.flight ≡ Some f) × (record { log = g.log; seq = f.segment.name.seq; pass = f.segment.name.pass } ≡ name) → IsFlight s name
    flies f = (f.0, ap (λ (z : LogState). z.flight) (sym same) ∙ f.1, flown_name (doubtful g) n (seen k g n m) t is_t f.0 name f.1 f.2)
files_its_flight k g n o m s fact (Writes chain t i is_t came texts) name among = absurd cc
files_its_flight k g n o m s fact (Opens t i is_t came can) name among = absurd cc
files_its_flight k g n o m s fact Crashes name among = inl among
files_its_flight k g n o m s fact (Restarts down) name among = inl among
files_its_flight k g n o m s fact (Renews map high doubts down came) name among = inl among
files_its_flight k g n o m s fact (Serves v deed some came) name among = inl among
files_its_flight k g n o m s fact (Bars v l pass) name among = inl among
files_its_flight k g n o m s fact (Lists v) name among = inl among
files_its_flight k g n o m s fact (Hears v generation up reached) name among = inl among
files_its_flight k g n o m s fact (Raises low highest up under below) name among = inl among
files_its_flight k g n o m s fact (Publishes map whole) name among = inl among
files_its_flight k g n o m s fact (Welcomes inc ask news map hello low whole) name among = inl among
files_its_flight k g n o m s fact (Drops lists meta listed within below) name among = inl among
