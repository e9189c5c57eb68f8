-- The books of a log that is opened again: they go on to its end, and have what is filed then.
use Rattle.std.proofs.Common.{⊎_elim, ◌≡◌, ◌⊎◌, ◌≤◌, ◌<◌, ◌+◌, ◌-◌, ℕ, zero, suc, Bool, true, false, List, [], ◌++◌, Option, Some, None, is_some, nat_le, refl, sym, ap, subst, ◌∙◌, inl, inr, arith}
use Rattle.std.specs.Prelude.{IfSome}
use Rattle.std.proofs.lemmas.Bool.{leb-false, leb-true}
use Rattle.client_log.specs.LogState.{LogState}
use Rattle.client_log.specs.Transition as log
use Rattle.client_node.specs.Crash.{flight_of}
use Rattle.headline.specs.Filed.{Filed}
use Rattle.log_flight.specs.Flights.{FlightState}
use Rattle.log_law.specs.Events.Runs.{Begun, On}
use Rattle.log_law.specs.Laws.{IsAttemptOf}
use Rattle.log_law.specs.Net.{Net, names_of}
use Rattle.log_law.specs.Restarts.{last_flight}
use Rattle.log_law.specs.Tails.{IsTailAdopted, IsTailDiscarded, TellsOnlyTheTail}
use Rattle.log_owner.specs.Opened.{names_in}
use Rattle.log_protocol.specs.Tables.{In}
use Rattle.log_tie.specs.Seen.{log_filed}
use Rattle.log_tie.specs.Setting.{Setting}
use Rattle.node_slots.specs.node_tie.CleanerLogs.{its_log}
use Rattle.node_slots.specs.node_tie.LogRows.{rows_told}
use Rattle.act_tie.specs.BlockActs.{is_adopted}
use Rattle.log_owner.specs.declared.opened.Opened.{Opened}
use Rattle.token_law.specs.Owed as owned
use Rattle.segment_format.specs.declared.segment.Segment.{Segment}
use Rattle.token_law.specs.Books.{Books, reopened, with_empty}
use Rattle.version_model.specs.Effects.{holds_flight}
use Rattle.xfs_base.proofs.Booleans.{contrary}
use Rattle.xfs_base.specs.declared.segment.SegName.{SegName}
use Rattle.run_laws.specs.reopening_law.Below.{Below}
use Rattle.run_laws.specs.reopening_law.Reopens.{BooksAfter, BooksFollow, BooksThen, ClientsReopenSo, FiledOf, IsOpened, Reopens, TheCleanerReopensSo, has_flight}
use Rattle.run_laws.proofs.reopening_law.Books.{adopted_end, empty_end, empty_flies, empty_keeps, empty_says, reopened_flies, reopened_keeps, reopened_rises}
use Rattle.run_laws.proofs.reopening_law.Chains.{Holds, found, holds, its_segment}
use Rattle.run_laws.proofs.reopening_law.Reopened as then
use Rattle.run_laws.proofs.reopening_law.Steps.{landed}
use Rattle.log_tie.proofs.Listings.{in_either}

-- the flight that the chain has
pub record HasFlight (chain : List Segment) (flight : Option FlightState) : Type 0 where
  pub it : FlightState
  pub flying : flight ≡ Some it
  pub holds : Holds chain it

pub has : (chain : List Segment) (flight : Option FlightState) → holds_flight (names_in chain) (flight_of flight) ≡ true → HasFlight chain flight
has chain None t = contrary t
has chain (Some f) t = record { it = f; flying = refl; holds = holds chain f t }

module _ (k : Below) (g : Setting) (n o : Net) (chain : List Segment) (s r : LogState) (e : Reopens g n o chain s r) (b : Books) (l : ℕ) (f : Filed)
    (h : BooksThen e b l f) where
  abbrev flight : Option FlightState
  flight = last_flight e.moment.run

  -- ---- how far it goes

  -- all that is filed then is no further than the end
  filed_upto : (name : SegName) → In name o.filed → name.seq ≤ r.end.seq
  filed_upto name fact = (then.last k g n o chain s r e).last name fact

  -- the log's last filed segment is one of those
  pub head_upto : f.head l ≤ r.end.seq
  head_upto = by (f.head l) refl
    where
      by : (head : ℕ) → f.head l ≡ head → head ≤ r.end.seq
      by zero at = omega arith
      by (suc head) at =
          let some : 0 < f.head l = omega arith in
          let q = h.filed.seq (f.head l) some (omega arith) in
          let a = filed_upto (f.segment l (f.head l)).name
          (then.was_filed k g n o chain s r e (f.segment l (f.head l)).name (h.filed.filed (f.head l) some (omega arith))) in
          omega arith

  -- of a flight that the chain has: it was in flight in the books, as the segment behind their end
  pub record Adopts (x : HasFlight chain flight) : Type 0 where
    pub flying : b.flying l ≡ true
    pub seq : x.it.segment.name.seq ≡ suc (f.head l)
    pub rows : b.rows l (suc (b.end l)) ≡ rows_told x.it.segment.items

  pub adopts : (x : HasFlight chain flight) → Adopts x
  adopts x =
      let z = subst (λ (o : Option FlightState). IfSome o (λ y. (y.segment.name.seq ≡ suc (b.end l)) × (b.rows l (suc (b.end l)) ≡ rows_told y.segment.items)))
      x.flying h.flew.next in
      record { flying = h.flew.flying ∙ ap is_some x.flying; seq = z.0 ∙ ap suc h.books.end; rows = z.1 }

  -- so it goes on to the end, with some more segments
  pub more : (adopted : Bool) → has_flight e ≡ adopted → (reopened b l adopted).end l ≤ r.end.seq
  more false fact = (let a = head_upto in let c = h.books.end in omega arith)
  more true fact =
      let x = has chain flight fact in
      let a = adopts x in
      let c = filed_upto x.holds.segment.name (then.chain_filed k g n o chain s r e x.holds.segment x.holds.among) in
      let d = a.seq in
      let q = x.holds.seq in
      let j = adopted_end b l in
      let y = h.books.end in
      omega arith

  pub opens_at : (adopted : Bool) → has_flight e ≡ adopted
      → r.end.seq ≡ (with_empty (r.end.seq - (reopened b l adopted).end l) (reopened b l adopted) l).end l
  opens_at adopted fact =
      (let a = more adopted fact in let c = empty_end (r.end.seq - (reopened b l adopted).end l) (reopened b l adopted) l in omega arith)

  -- ---- what is filed

  module _ (later : Filed) (now : FiledOf l later o) where
    -- the end of the log is the last that is filed
    end_is : r.end.seq ≡ later.head l
    end_is = (let a = low in let c = high (later.head l) refl in omega arith)
      where
        low : r.end.seq ≤ later.head l
        low = by r.end.seq refl
          where
            by : (end : ℕ) → r.end.seq ≡ end → end ≤ later.head l
            by zero at = omega arith
            by (suc end) at = (let a = (now.all _ ((then.last k g n o chain s r e).filed (omega arith))).1 in omega arith)

        high : (head : ℕ) → later.head l ≡ head → head ≤ r.end.seq
        high zero at = omega arith
        high (suc head) at =
            let some : 0 < later.head l = omega arith in
            let q = now.seq (later.head l) some (omega arith) in
            let a = filed_upto (later.segment l (later.head l)).name (now.filed (later.head l) some (omega arith)) in
            omega arith

    -- what was filed is as it was
    old : (q : ℕ) → 0 < q → q ≤ f.head l → q ≤ later.head l → f.segment l q ≡ later.segment l q
    old q some upto within =
        then.one k g n o chain s r e (f.segment l q) (later.segment l q) (h.filed.flew q some upto)
        (then.flown_then k g n o chain s r e (later.segment l q) (now.flew q some within))
        (then.was_filed k g n o chain s r e (f.segment l q).name (h.filed.filed q some upto)) (now.filed q some within)
        (h.filed.seq q some upto ∙ sym (now.seq q some within))

    -- a segment that is filed then, and wasn't before
    module _ (q : ℕ) (some : 0 < q) (within : q ≤ later.head l) (new : f.head l < q) where
      abbrev it : Segment
      it = later.segment l q

      flew : In it n.flown
      flew = then.flown_then k g n o chain s r e it (now.flew q some within)

      is_new : In it.name n.filed → ⊥
      is_new was = (let a = (h.filed.all it.name was).1 in let c = now.seq q some within in omega arith)

      -- it tells nothing, or it is an attempt of what was in flight
      tells : (it.items ≡ []) ⊎ ((x : FlightState) × (flight ≡ Some x) × IsAttemptOf g x it)
      tells = by (k.logs.only g n o e.sure e.moment e.happens e.calm (then.ends k g n o chain s r e) it.name (now.filed q some within))
        where
          same : (t : Segment) → In t o.flown → t.name ≡ it.name → t ≡ it
          same t fact named = (then.text k g n o chain s r e).one t it (then.flown_then k g n o chain s r e t fact) flew named

          nothing : g.content it.items ≡ 0 → it.items ≡ []
          nothing none = e.apart it.items [] (none ∙ sym g.no_content)

          by : In it.name n.filed ⊎ TellsOnlyTheTail e.moment o it.name
              → (it.items ≡ []) ⊎ ((x : FlightState) × (flight ≡ Some x) × IsAttemptOf g x it)
          by (inl was) = absurd (is_new was)
          by (inr t) = ⊎_elim (λ none. inl (nothing (subst (λ (z : Segment). g.content z.items ≡ 0) (same t.0 t.1 t.2) none)))
              (λ x. inr (x.0, x.1, subst (IsAttemptOf g x.0) (same t.0 t.1 t.2) x.2)) t.3

      -- where the chain doesn't have that, it tells nothing
      discards : has_flight e ≡ false → it.items ≡ []
      discards none = ⊎_elim (λ nothing. nothing) by tells
        where
          by_name : (x : FlightState) → flight ≡ Some x → IsAttemptOf g x it
              → In it.name (log_filed g.log (log.transition s (then.by k g n o chain s r e).input).outs) ⊎ In it.name (names_of chain ++ n.filed)
              → it.items ≡ []
          by_name x fact attempt (inl opening) =
              let z = landed s (then.by k g n o chain s r e).input g.log (log.transition s (then.by k g n o chain s r e).input).outs
              (k.due s (then.by k g n o chain s r e).input) it.name opening in
              let named : z.0.segment.name ≡ it.name =
              ap (λ log. record { log = log; seq = z.0.segment.name.seq; pass = z.0.segment.name.pass }) (e.own z.0 z.1) ∙ z.2 in
              ap (λ (t : Segment). t.items)
              (sym ((then.text k g n o chain s r e).one z.0.segment it (then.opening_flew k g n o chain s r e z.0 z.1) flew named))
              ∙ e.empty z.0 z.1
          by_name x fact attempt (inr read) = ⊎_elim
              (λ in_chain.
              let t = its_segment chain it.name in_chain in
              contrary
              (sym none ∙ subst (λ y. holds_flight (names_in chain) (flight_of y) ≡ true) (sym fact)
              (found chain x t.0 t.1 (ap (λ (z : SegName). z.seq) t.2 ∙ attempt.seq) (ap (λ (z : SegName). z.pass.inc) t.2 ∙ attempt.boot))))
              (λ was. absurd (is_new was)) (in_either it.name (names_of chain) n.filed read)

          by : (x : FlightState) × (flight ≡ Some x) × IsAttemptOf g x it → it.items ≡ []
          by x = by_name x.0 x.1 x.2
              (in_either it.name (log_filed g.log (log.transition s (then.by k g n o chain s r e).input).outs) (names_of chain ++ n.filed)
              (subst (In it.name) (then.by k g n o chain s r e).filed (now.filed q some within)))

      -- where it has it, the next segment says what was in flight
      adopted : (x : HasFlight chain flight) → q ≡ suc (f.head l) → it.items ≡ x.it.segment.items
      adopted x next = ⊎_elim tail never (k.logs.tail g n o e.sure e.moment e.happens e.calm (then.ends k g n o chain s r e) x.it x.flying)
        where
          number : it.name.seq ≡ x.it.segment.name.seq
          number = now.seq q some within ∙ (next ∙ sym (adopts x).seq)

          is_it : (t : Segment) → In t n.flown → In t.name o.filed → t.name.seq ≡ x.it.segment.name.seq → t ≡ it
          is_it t fact filed seq = then.one k g n o chain s r e t it fact flew filed (now.filed q some within) (seq ∙ sym number)

          tail : IsTailAdopted g o x.it → it.items ≡ x.it.segment.items
          tail t =
              let same = is_it t.0 (then.flown_then k g n o chain s r e t.0 t.1) t.2 t.3.seq in
              e.apart it.items x.it.segment.items (subst (λ (z : Segment). g.content z.items ≡ g.content x.it.segment.items) same t.3.content)

          never : IsTailDiscarded (On e.moment.run e.happens) x.it → it.items ≡ x.it.segment.items
          never d = absurd
              (d o Begun e.calm x.holds.segment.name (then.chain_filed k g n o chain s r e x.holds.segment x.holds.among) x.holds.seq x.holds.boot)

      -- and what is further tells nothing
      further : (x : HasFlight chain flight) → suc (f.head l) < q → it.items ≡ []
      further x past = ⊎_elim (λ nothing. nothing) by tells
        where
          by : (y : FlightState) × (flight ≡ Some y) × IsAttemptOf g y it → it.items ≡ []
          by y =
              let same : x.it ≡ y.0 = one_flight flight x.it y.0 x.flying y.1 in
              let a = y.2.seq in
              let c = ap (λ (z : FlightState). z.segment.name.seq) same in
              let d = (adopts x).seq in
              let j = now.seq q some within in
              absurd (omega arith)
            where
              one_flight : (z : Option FlightState) (p q : FlightState) → z ≡ Some p → z ≡ Some q → p ≡ q
              one_flight z p q a b = cc

    module _ (count : ℕ) (adopted_is : Bool) (fact : has_flight e ≡ adopted_is)
        (end : (with_empty count (reopened b l adopted_is) l).end l ≡ r.end.seq) where
      abbrev after : Books
      after = with_empty count (reopened b l adopted_is) l

      base : (reopened b l adopted_is).end l + count ≡ later.head l
      base = (let a = empty_end count (reopened b l adopted_is) l in let c = end in let d = end_is in omega arith)

      nothing_more : (q : ℕ) → (reopened b l adopted_is).end l < q → q ≤ later.head l → after.rows l q ≡ []
      nothing_more q past within = empty_says count (reopened b l adopted_is) l q past (let a = base in omega arith)

      row : (q : ℕ) → 0 < q → q ≤ later.head l → after.rows l q ≡ rows_told (later.segment l q).items
      row q some within = by (nat_le q (f.head l)) refl
        where
          by_flight : f.head l < q → (x : Bool) → has_flight e ≡ x → adopted_is ≡ x → after.rows l q ≡ rows_told (later.segment l q).items
          by_flight new false none same =
              nothing_more q (let a = ap (λ y. (reopened b l y).end l) same in let c = h.books.end in omega arith) within
              ∙ sym (ap rows_told (discards q some within new none))
          by_flight new true has_it same = by_next (nat_le q (suc (f.head l))) refl
            where
              x : HasFlight chain flight
              x = has chain flight has_it

              end_there : (reopened b l adopted_is).end l ≡ suc (f.head l)
              end_there = ap (λ y. (reopened b l y).end l) same ∙ (adopted_end b l ∙ ap suc h.books.end)

              by_next : (t : Bool) → nat_le q (suc (f.head l)) ≡ t → after.rows l q ≡ rows_told (later.segment l q).items
              by_next false t =
                  nothing_more q (let a = end_there in let c = leb-false q (suc (f.head l)) t in omega arith) within
                  ∙ sym (ap rows_told (further q some within new x (leb-false q (suc (f.head l)) t)))
              by_next true t =
                  let next : q ≡ suc (f.head l) = (let a = leb-true q (suc (f.head l)) t in omega arith) in
                  empty_keeps count (reopened b l adopted_is) l q (let a = end_there in omega arith)
                  ∙ (ap (λ y. (reopened b l y).rows l q) same
                  ∙ (ap (b.rows l) (next ∙ ap suc (sym h.books.end)) ∙ ((adopts x).rows ∙ sym (ap rows_told (adopted q some within new x next)))))

          by : (t : Bool) → nat_le q (f.head l) ≡ t → after.rows l q ≡ rows_told (later.segment l q).items
          by true t =
              let upto = leb-true q (f.head l) t in
              empty_keeps count (reopened b l adopted_is) l q (let a = reopened_rises b l adopted_is in let c = h.books.end in omega arith)
              ∙ (reopened_keeps b l adopted_is q (let c = h.books.end in omega arith)
              ∙ (h.books.rows q some upto ∙ ap (λ (z : Segment). rows_told z.items) (old q some upto within)))
          by false t = by_flight (leb-false q (f.head l) t) adopted_is fact refl

      pub follows : BooksAfter after l later
      follows = record {
        books = record { end = end ∙ end_is; rows = row };
        flying = empty_flies count (reopened b l adopted_is) l (reopened_flies b l adopted_is);
      }

pub books_follow : Below → BooksFollow
books_follow k g n o chain s r e b l f h later now count end = follows k g n o chain s r e b l f h later now count (has_flight e) refl end

-- ---- what tokens are owed

module _ (k : Below) (g : Setting) (n o : Net) (chain : List Segment) (s r : LogState) (e : Reopens g n o chain s r) (b : Books) (l : ℕ) (f : Filed)
    (h : BooksThen e b l f) (opened : Opened) (fact : IsOpened chain r opened) where
  -- how many segments are behind the end that the books come to
  abbrev pub count : Bool → ℕ
  count adopted = r.end.seq - (reopened b l adopted).end l

  pub its_end : (adopted : Bool) → has_flight e ≡ adopted → opened.log.end.seq ≡ (with_empty (count adopted) (reopened b l adopted) l).end l
  its_end adopted has_it = ap (λ (z : LogState). z.end.seq) fact.log ∙ opens_at k g n o chain s r e b l f h adopted has_it

  pub its_flight : has_flight e ≡ true → b.flying l ≡ true
  its_flight has_it = (adopts k g n o chain s r e b l f h (has chain (last_flight e.moment.run) has_it)).flying

  pub waits : opened.log.dirty ≡ []
  waits = ap (λ (z : LogState). z.dirty) fact.log ∙ fact.nothing_waits

  pub flies : opened.log.flight ≡ None
  flies = ap (λ (z : LogState). z.flight) fact.log ∙ fact.nothing_flies

pub clients_reopen_so : Below → ClientsReopenSo
clients_reopen_so k g n o chain s r e b c f h opened fact acts fell = record {
  count = count k g n o chain s r e b c f h opened fact (owned.adopts acts c opened.chain);
  end = its_end k g n o chain s r e b c f h opened fact (owned.adopts acts c opened.chain) same;
  adopted = λ adopted. its_flight k g n o chain s r e b c f h opened fact (same ∙ adopted);
  nothing_waits = waits k g n o chain s r e b c f h opened fact;
  nothing_flies = flies k g n o chain s r e b c f h opened fact;
}
  where
    same : has_flight e ≡ owned.adopts acts c opened.chain
    same = ap (holds_flight (names_in chain)) (sym fell.with_flight)
        ∙ (ap (λ names. holds_flight names fell.fall.flight) (sym fact.chain_is) ∙ ap (is_adopted opened.chain) (sym fell.waits))

pub the_cleaner_reopens_so : Below → TheCleanerReopensSo
the_cleaner_reopens_so k g n o chain s r e b f h opened fact = record {
  count = count k g n o chain s r e b its_log f h opened fact (has_flight e);
  end = its_end k g n o chain s r e b its_log f h opened fact (has_flight e) refl;
  flies = its_flight k g n o chain s r e b its_log f h opened fact;
  nothing_waits = waits k g n o chain s r e b its_log f h opened fact;
  nothing_flies = flies k g n o chain s r e b its_log f h opened fact;
}
