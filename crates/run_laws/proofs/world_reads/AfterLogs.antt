-- One log over an event: what the books have of it, and what its owner had in flight when it served last, stays so, whoever the event is of.
use Rattle.std.proofs.Common.{◌≡◌, ◌≤◌, ◌<◌, ℕ, suc, Bool, true, false, List, Option, Some, is_some, nat_le, inl, inr, refl, sym, ap, subst, ◌∙◌, arith}
use Rattle.std.proofs.lemmas.Bool.Decides.{nat_tests}
use Rattle.std.specs.Prelude.{IfSome}
use Rattle.client_log.specs.LogState.{LogState}
use Rattle.headline.specs.Filed.{Filed}
use Rattle.index_tie.specs.Growth.{IsMore, with_segment}
use Rattle.log_flight.specs.Flights.{FlightState}
use Rattle.log_law.specs.Events.{Runs}
use Rattle.log_law.specs.Laws.{Moment}
use Rattle.log_law.specs.Net.{Net, Owner}
use Rattle.log_law.specs.Net.Owner.{Down, Opening, Serving, Writing}
use Rattle.log_law.specs.Restarts.{IsSureRun, is_serving, last_flight}
use Rattle.log_law.specs.Tails.{then_on}
use Rattle.log_owner.specs.declared.opened.Opened.{Opened}
use Rattle.log_owner.specs.declared.opening.Opening as openings
use Rattle.log_tie.specs.Setting.{Setting}
use Rattle.node_logs.specs.client_log_tie.Owner.{Scene}
use Rattle.node_slots.specs.node_tie.LogRows.{LogSeen, rows_told}
use Rattle.node_slots.specs.node_tie.Sight.{SameLog}
use Rattle.node_slots.proofs.owner_index_tie.Growing.{head_is, segment_is}
use Rattle.node_slots.specs.owner_index_tie.Filing.{IsSameLog}
use Rattle.run_laws.proofs.reopening_law.Flights.{last_stays, same_flew, served_last}
use Rattle.run_laws.specs.reopening_law.Flights.{FlightsOfOwners, LastFlew, OthersLeaveFlights}
use Rattle.run_laws.specs.reopening_law.Openings.{EndsByOne}
use Rattle.run_laws.specs.reopening_law.Reopens.{BooksFollow, BooksOf, BooksThen, FiledOf, Reopens, TellsApart, has_flight}
use Rattle.segment_format.specs.declared.segment.Segment.{Segment}
use Rattle.token_law.specs.Books.{Books, reopened, with_empty}
use Rattle.run_laws.specs.world_lines.Lines.{IsLine}
use Rattle.run_laws.specs.world_lines.Polls.{GoesOnByFlight}
use Rattle.run_laws.specs.world_logs.Lines.{IsLeft, moment_then}

-- ---- what is known of a log

-- of one log the books have what is filed, and what its owner had in flight when it served last
pub record KnownLog (l : ℕ) {g : Setting} {n : Net} (at : Moment g n) (k : Books) (f : Filed) : Type 0 where
  pub books : BooksOf k l f
  pub line : IsLine l n f
  pub flew : LastFlew k l (last_flight at.run)

-- its line, as restarts know it
pub filed_of : (l : ℕ) (n : Net) (f : Filed) → IsLine l n f → FiledOf l f n
filed_of l n f line = record { flew = line.lined.flown; filed = line.lined.filed; seq = line.lined.seq; all = line.all }

-- a restart that ended by one thing opened the log again
abbrev pub reopens_by : (g : Setting) → g.doubts ≡ false → TellsApart g → (w v : Scene) (at : Moment g w.net) (goes : Runs g w.net v.net) → IsSureRun (then_on at.run goes)
    → (o : openings.Opening) (r : Opened) (ends : EndsByOne g w v goes o r) → Reopens g w.net v.net ends.settling.chain ends.settling.log r.log
reopens_by g trusted apart w v at goes calm o r ends = record {
  sure = trusted;
  apart = apart;
  moment = at;
  happens = ends.happens;
  calm = subst (λ run. IsSureRun (then_on at.run run)) ends.one calm;
  writes = ends.writes;
  serves = ends.serves;
  own = ends.own;
  empty = ends.empty;
}

-- ---- what was in flight

-- it stays where others leave the owner as it was
pub flight_left : OthersLeaveFlights → (g : Setting) (first n o : Net) (run : Runs g first n) (goes : Runs g n o) → IsLeft n o
    → last_flight (then_on run goes) ≡ last_flight run
flight_left leave g first n o run goes left = by n.owner refl
  where
    away : is_serving n.owner ≡ false → last_flight (then_on run goes) ≡ last_flight run
    away none = last_stays g first n o run goes (leave g n o goes left.inc left.owner none)

    by : (x : Owner) → n.owner ≡ x → last_flight (then_on run goes) ≡ last_flight run
    by Down fact = away (ap is_serving fact)
    by (Opening s) fact = away (ap is_serving fact)
    by (Writing chain s) fact = away (ap is_serving fact)
    by (Serving s) fact = served_last g first o (then_on run goes) s (left.owner ∙ fact) ∙ sym (served_last g first n run s fact)

-- ---- where the log stays

books_same : (k m : Books) (l : ℕ) (f h : Filed) → SameLog k m l → IsSameLog l f h → BooksOf k l f → BooksOf m l h
books_same k m l f h books same of = record {
  end = books.end ∙ (of.end ∙ sym same.head);
  rows = λ q some limit. let upto : q ≤ f.head l = (let e = same.head in omega arith) in
      ap (λ r. r q) books.rows ∙ (of.rows q some upto ∙ ap (λ (s : Segment). rows_told s.items) (sym (same.segment q some upto)));
}

module _ (g : Setting) (l : ℕ) (n o : Net) (at : Moment g n) (goes : Runs g n o) (k m : Books) (f h : Filed) (fact : KnownLog l at k f)
    (line : IsLine l o h) where
  -- the same is known and filed of it, and what was in flight is the same
  pub stays_known : last_flight (then_on at.run goes) ≡ last_flight at.run → SameLog k m l → IsSameLog l f h → KnownLog l (moment_then at goes) m h
  stays_known flight books same = record {
    books = books_same k m l f h books same fact.books;
    line = line;
    flew = subst (LastFlew m l) (sym flight) (same_flew k m l (last_flight at.run) books fact.flew);
  }

  -- ---- where its owner serves

  module _ (owners : FlightsOfOwners) (s t : LogState) (serves : n.owner ≡ Serving s) (then_serves : o.owner ≡ Serving t) (seen : LogSeen k l s)
      (then_seen : LogSeen m l t)
      (end : t.end.seq ≡ h.head l)
      (filed : (q : ℕ) → q ≤ k.end l → m.rows l q ≡ k.rows l q)
      (flown : is_some s.flight ≡ true → suc (k.end l) ≤ m.end l → m.rows l (suc (k.end l)) ≡ k.rows l (suc (k.end l))) where
    -- its end is the last that is filed
    end_is : m.end l ≡ h.head l
    end_is = then_seen.end ∙ end

    old_row : (q : ℕ) → 0 < q → q ≤ f.head l → m.rows l q ≡ rows_told (f.segment l q).items
    old_row q some upto = filed q (let e = fact.books.end in omega arith) ∙ fact.books.rows q some upto

    still : (q : ℕ) → 0 < q → h ≡ f → q ≤ h.head l → m.rows l q ≡ rows_told (h.segment l q).items
    still q some same limit =
        old_row q some (subst (λ (x : Filed). q ≤ x.head l) same limit)
        ∙ ap (λ (x : Filed). rows_told (x.segment l q).items) (sym same)

    -- what was in flight is filed
    new_row : (x : FlightState) → s.flight ≡ Some x → h ≡ with_segment f l x.segment
        → m.rows l (suc (f.head l)) ≡ rows_told (h.segment l (suc (f.head l))).items
    new_row x flies next =
        let e = fact.books.end in
        let z = subst
        (λ (y : Option FlightState). IfSome y (λ y. (y.segment.name.seq ≡ suc s.end.seq) × (k.rows l (suc (k.end l)) ≡ rows_told y.segment.items)))
        flies seen.flight in
        let high : h.head l ≡ suc (f.head l) = ap (λ (y : Filed). y.head l) next ∙ head_is l f x.segment in
        let to_end : suc (k.end l) ≤ m.end l = (let a = end_is in omega arith) in
        ap (m.rows l) (ap suc (sym e))
        ∙ (flown (ap is_some flies) to_end
        ∙ (z.1 ∙ ap (λ (y : Segment). rows_told y.items) (sym (ap (λ (y : Filed). y.segment l (suc (f.head l))) next ∙ segment_is l f x.segment))))

    row : IsMore f h → GoesOnByFlight l s f h → (q : ℕ) → 0 < q → q ≤ h.head l → m.rows l q ≡ rows_told (h.segment l q).items
    row more (inl same) q some limit = still q some same limit
    row more (inr (x, flies, next)) q some limit = by (nat_le q (f.head l)) refl
      where
        by : (b : Bool) → nat_le q (f.head l) ≡ b → m.rows l q ≡ rows_told (h.segment l q).items
        by true upto =
            let u : q ≤ f.head l = grind (arith, nat_tests, upto) in
            old_row q some u ∙ ap (λ (y : Segment). rows_told y.items) (sym (more.segment l q some u))
        by false past =
            let p : f.head l < q = grind (arith, nat_tests, past) in
            let high : h.head l ≡ suc (f.head l) = ap (λ (y : Filed). y.head l) next ∙ head_is l f x.segment in
            let at_next : suc (f.head l) ≡ q = omega arith in
            subst (λ (y : ℕ). m.rows l y ≡ rows_told (h.segment l y).items) at_next (new_row x flies next)

    pub serves_known : IsMore f h → GoesOnByFlight l s f h → KnownLog l (moment_then at goes) m h
    serves_known more on = record {
      books = record { end = end_is; rows = row more on };
      line = line;
      flew = (owners g _ o (then_on at.run goes) t then_serves m l then_seen).books;
    }

-- ---- where a restart ends

pub reopens_known : FlightsOfOwners → BooksFollow → (g : Setting) (l : ℕ) (n o : Net) (chain : List Segment) (s r : LogState)
    (e : Reopens g n o chain s r) (later : Moment g o) (k m : Books) (f h : Filed)
    → KnownLog l e.moment k f → IsLine l o h → (count : ℕ) → m ≡ with_empty count (reopened k l (has_flight e)) l → LogSeen m l r
    → KnownLog l later m h
reopens_known owners follow g l n o chain s r e later k m f h fact line count books seen =
    let then_books : BooksThen e k l f = record { filed = filed_of l n f fact.line; books = fact.books; flew = fact.flew } in
    let after = follow g n o chain s r e k l f then_books h (filed_of l o h line) count (ap (λ (x : Books). x.end l) (sym books) ∙ seen.end) in
    record {
      books = subst (λ (x : Books). BooksOf x l h) (sym books) after.books;
      line = line;
      flew = (owners g _ o later.run r e.serves m l seen).books;
    }
