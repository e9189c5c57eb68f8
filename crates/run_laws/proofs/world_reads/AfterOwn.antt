-- The log of an owner over an event of its own, whichever kind of segments it writes: what is known of it then, where its owner doesn't serve, serves on, or
-- serves again.
use Rattle.std.proofs.Common.{◌≡◌, ◌⊎◌, ◌≤◌, ℕ, suc, true, false, [], Option, Some, None, is_some, inl, inr, sym, ap, subst, ◌∙◌}
use Rattle.std.specs.Prelude.{IfSome}
use Rattle.client_log.specs.LogState.{LogState}
use Rattle.node_logs.specs.client_log_tie.ClientEvents.{ServesStraight}
use Rattle.node_logs.specs.client_log_tie.Owner.{Scene}
use Rattle.headline.specs.Filed.{Filed}
use Rattle.index_tie.specs.Growth.{IsMore}
use Rattle.log_flight.specs.Flights.{FlightState}
use Rattle.log_law.specs.Events.{Runs}
use Rattle.log_law.specs.Laws.{Moment}
use Rattle.log_law.specs.Net.{Net, Owner}
use Rattle.log_law.specs.Net.Owner.{Serving}
use Rattle.log_law.specs.Restarts.{IsSureRun, is_serving, last_flight}
use Rattle.log_law.specs.Tails.{then_on}
use Rattle.log_owner.specs.declared.opened.Opened.{Opened}
use Rattle.log_owner.specs.declared.opened.Progress.TheVariants as progress
use Rattle.log_owner.specs.declared.opening.Opening as openings
use Rattle.log_tie.specs.Setting.{Setting}
use Rattle.node_base.specs.declared.questions.Questions.{Questions}
use Rattle.node_slots.specs.node_tie.LogRows.{LogSeen}
use Rattle.node_slots.specs.node_tie.Sight.{SameLog}
use Rattle.run_laws.specs.reopening_law.Openings.{EndsByOne, EndsSo, OpeningsEndByOne}
use Rattle.run_laws.specs.reopening_law.Reopens.{Reopens, TellsApart, has_flight}
use Rattle.segment_format.specs.declared.segment.Segment.{Segment}
use Rattle.run_laws.specs.segment_tie.Segments.{TellsOnce}
use Rattle.token_law.specs.Books.{Books, reopened, with_empty}
use Rattle.run_laws.specs.world_lines.Lines.{IsLine}
use Rattle.run_laws.specs.world_lines.Polls.{GoesOnByFlight}
use Rattle.run_laws.specs.world_logs.Lines.{moment_then}
use Rattle.run_laws.proofs.world_reads.Below.{Below}
use Rattle.run_laws.proofs.world_reads.AfterBack.{ComesTo}
use Rattle.run_laws.proofs.reopening_law.Flights.{last_stays, served_last}
use Rattle.run_laws.proofs.world_reads.AfterLogs.{KnownLog, reopens_by, reopens_known, serves_known, stays_known}
use Rattle.run_laws.proofs.world_reads.AfterOwners.{never_files, same_filed}
use Rattle.run_laws.proofs.world_reads.AfterTells.{AllTell, tells_reopened, tells_same, tells_serving}

-- what is known of the log then, and what it tells
pub record OwnAfter (Kind : Segment → Type 0) (l : ℕ) {g : Setting} {n : Net} (at : Moment g n) (k : Books) (f : Filed) : Type 0 where
  pub known : KnownLog l at k f
  pub tells : AllTell l f
  pub kind : IfSome (last_flight at.run) (λ x. Kind x.segment)

-- ---- who serves

pub one_log : (s t : LogState) → Serving s ≡ Serving t → s ≡ t
one_log s t fact = cc

pub none_serves : (o : Owner) (s : LogState) → is_serving o ≡ false → o ≡ Serving s → ⊥
none_serves o s none fact = (let e : true ≡ false = sym (ap is_serving fact) ∙ none in absurd cc)

-- an opening that comes to this ends by one thing that happens
pub comes_by_one : OpeningsEndByOne → (g : Setting) (l : ℕ) (o : openings.Opening) (q : Questions) (r : Opened) → ComesTo q o r
    → EndsSo g l o (progress.Opened r)
comes_by_one ends g l o q r (inl (packet, fact)) = subst (EndsSo g l o) fact ((ends g l o q).0 packet)
comes_by_one ends g l o q r (inr fact) = subst (EndsSo g l o) fact (ends g l o q).1

-- ---- what the owner does in the event

module _ (Kind : Segment → Type 0) (l : ℕ) (g : Setting) (w v : Scene) (at : Moment g w.net) (goes : Runs g w.net v.net) (k m : Books) (f h : Filed) where
  -- it doesn't serve then
  pub record GoesAway : Type 0 where
    pub none : is_serving v.net.owner ≡ false
    pub books : m ≡ k

  -- it serves on
  pub record ServesOn : Type 0 where
    pub before : LogState
    pub after : LogState
    pub was : w.net.owner ≡ Serving before
    pub up : v.net.owner ≡ Serving after
    pub seen : LogSeen k l before
    pub then_seen : LogSeen m l after
    pub end : after.end.seq ≡ h.head l
    pub filed : (q : ℕ) → q ≤ k.end l → m.rows l q ≡ k.rows l q
    pub flown : is_some before.flight ≡ true → suc (k.end l) ≤ m.end l → m.rows l (suc (k.end l)) ≡ k.rows l (suc (k.end l))
    pub on : GoesOnByFlight l before f h
    pub kind : IfSome after.flight (λ y. Kind y.segment)

  -- it serves again
  pub record ServesAgain : Type 0 where
    pub trusted : g.doubts ≡ false
    pub apart : TellsApart g
    pub calm : IsSureRun (then_on at.run goes)
    pub opening : openings.Opening
    pub opened : Opened
    pub ends : EndsByOne g w v goes opening opened
    pub count : ℕ
    pub books : m ≡ with_empty count (reopened k l (has_flight (reopens_by g trusted apart w v at goes calm opening opened ends))) l
    pub seen : LogSeen m l opened.log
    pub after : LogState
    pub up : v.net.owner ≡ Serving after
    pub kind : IfSome after.flight (λ y. Kind y.segment)

  abbrev pub Way : Type 0
  Way = GoesAway ⊎ (ServesOn ⊎ ServesAgain)

-- ---- so it is then

module _ (laws : Below) (Kind : Segment → Type 0) (once : (s : Segment) → Kind s → TellsOnce s)
    (alike : (s t : Segment) → s.items ≡ t.items → Kind s → Kind t) (nothing : (s : Segment) → s.items ≡ [] → Kind s)
    (l : ℕ) (g : Setting) (w v : Scene) (at : Moment g w.net) (goes : Runs g w.net v.net) (straight : ServesStraight goes) (k m : Books) (f h : Filed)
    (more : IsMore f h) (known : KnownLog l at k f) (line : IsLine l v.net h) (tells : AllTell l f)
    (kind : IfSome (last_flight at.run) (λ x. Kind x.segment)) where
  abbrev After : Type 0
  After = OwnAfter Kind l (moment_then at goes) m h

  away_after : GoesAway Kind l g w v at goes k m f h → After
  away_after x =
      let never = straight.never x.none in
      let flight : last_flight (then_on at.run goes) ≡ last_flight at.run = last_stays g _ w.net v.net at.run goes never in
      let of = same_filed l w.net v.net f h (never_files laws.logs.unfiled g w.net v.net at goes never) more known.line line in
      let books : SameLog k m l = record {
        end = ap (λ (b : Books). b.end l) x.books;
        flying = ap (λ (b : Books). b.flying l) x.books;
        rows = ap (λ (b : Books). b.rows l) x.books;
      } in
      record {
        known = stays_known g l w.net v.net at goes k m f h known line flight books of;
        tells = tells_same l f h of tells;
        kind = subst (λ (y : Option FlightState). IfSome y (λ x. Kind x.segment)) (sym flight) kind;
      }

  -- what is in flight is of the kind
  kind_then : (s : LogState) → v.net.owner ≡ Serving s → IfSome s.flight (λ y. Kind y.segment)
      → IfSome (last_flight (then_on at.run goes)) (λ y. Kind y.segment)
  kind_then s up flies =
      subst (λ (y : Option FlightState). IfSome y (λ x. Kind x.segment)) (sym (served_last g _ v.net (then_on at.run goes) s up)) flies

  tells_flight : (o : Option FlightState) → IfSome o (λ x. Kind x.segment) → IfSome o (λ x. TellsOnce x.segment)
  tells_flight None fact = tt
  tells_flight (Some x) fact = once x.segment fact

  on_after : ServesOn Kind l g w v at goes k m f h → After
  on_after x = record {
    known = serves_known g l w.net v.net at goes k m f h known line laws.reopenings.flights.flights_of_owners x.before x.after x.was x.up x.seen x.then_seen x.end x.filed
        x.flown more x.on;
    tells = tells_serving l x.before f h more x.on
        (tells_flight x.before.flight
        (subst (λ (y : Option FlightState). IfSome y (λ x. Kind x.segment)) (served_last g _ w.net at.run x.before x.was) kind)) tells;
    kind = kind_then x.after x.up x.kind;
  }

  again_after : ServesAgain Kind l g w v at goes k m f h → After
  again_after x =
      let e : Reopens g w.net v.net x.ends.settling.chain x.ends.settling.log x.opened.log =
      reopens_by g x.trusted x.apart w v at goes x.calm x.opening x.opened x.ends in
      record {
        known = reopens_known laws.reopenings.flights.flights_of_owners laws.reopenings.books_follow g l w.net v.net x.ends.settling.chain x.ends.settling.log x.opened.log e
            (moment_then at goes) k m f h known line x.count x.books x.seen;
        tells = tells_reopened laws.logs.one_text laws.logs.only Kind alike once (λ s none. once s (nothing s none)) g l w.net v.net
            x.ends.settling.chain x.ends.settling.log x.opened.log e f h more known.line line kind tells;
        kind = kind_then x.after x.up x.kind;
      }

  pub own_after : Way Kind l g w v at goes k m f h → After
  own_after (inl away) = away_after away
  own_after (inr (inl on)) = on_after on
  own_after (inr (inr again)) = again_after again
