-- What is known of a log at the event that ends a restart: what is filed then, and what was in flight.
use Rattle.std.proofs.Common.{◌≡◌, ◌≤◌, ◌<◌, ℕ, zero, suc, List, ◌++◌, Option, Some, refl, sym, ap, subst, arith}
use Rattle.std.specs.Prelude.{IfSome}
use Rattle.client_log.specs.LogState.{LogState}
use Rattle.client_log.specs.Transition as log
use Rattle.headline.specs.Filed.{Filed}
use Rattle.log_flight.specs.Flights.{FlightState}
use Rattle.log_law.specs.Ends.{EndIsLast}
use Rattle.log_law.specs.Events.Runs.{On}
use Rattle.log_law.specs.Held.{ChainFlew, OwnerFlew}
use Rattle.log_law.specs.Laws.{Moment, OneLine, OneText}
use Rattle.log_law.specs.Net.{Net, names_of}
use Rattle.log_law.specs.Restarts.{EndsRestart, is_serving, is_writing}
use Rattle.log_protocol.specs.Tables.{In}
use Rattle.log_tie.specs.Seen.{log_filed}
use Rattle.log_tie.specs.Setting.{Setting}
use Rattle.segment_format.specs.declared.segment.Segment.{Segment}
use Rattle.xfs_base.specs.declared.segment.SegName.{SegName}
use Rattle.run_laws.specs.reopening_law.Below.{Below}
use Rattle.run_laws.specs.reopening_law.Reopens.{FiledOf, Reopens}
use Rattle.run_laws.proofs.reopening_law.Chains.{in_left, in_right, named}
use Rattle.run_laws.proofs.reopening_law.Steps.{EndsBy, ends_by}

module _ (k : Below) (g : Setting) (n o : Net) (chain : List Segment) (s r : LogState) (e : Reopens g n o chain s r) where
  -- the moment after it
  abbrev pub after : Moment g o
  after = record { map = e.moment.map; whole = e.moment.whole; run = On e.moment.run e.happens }

  pub by : EndsBy g n o chain s r
  by = ends_by g n o e.happens chain s r e.writes e.serves

  pub ends : EndsRestart n o
  ends = (ap is_writing e.writes, ap is_serving e.serves)

  pub line : OneLine g o
  line = k.logs.line g o e.sure after e.calm

  pub last : EndIsLast o r
  last = k.logs.last g o e.sure after e.calm r e.serves

  pub text : OneText g n
  text = k.logs.one_text g n e.moment

  flew : ChainFlew n.flown chain s
  flew = subst (OwnerFlew n.flown) e.writes (k.logs.held g n e.moment)

  pub chain_flew : (t : Segment) → In t chain → In t n.flown
  chain_flew t fact = flew.read t fact

  pub opening_flew : (f : FlightState) → s.flight ≡ Some f → In f.segment n.flown
  opening_flew f flies = subst (λ (x : Option FlightState). IfSome x (λ z. In z.segment n.flown)) flies flew.flight

  abbrev outs : List SegName
  outs = log_filed g.log (log.transition s by.input).outs

  pub was_filed : (name : SegName) → In name n.filed → In name o.filed
  was_filed name fact = subst (In name) (sym by.filed) (in_right outs (names_of chain ++ n.filed) name (in_right (names_of chain) n.filed name fact))

  pub chain_filed : (t : Segment) → In t chain → In t.name o.filed
  chain_filed t fact =
      subst (In t.name) (sym by.filed) (in_right outs (names_of chain ++ n.filed) t.name (in_left (names_of chain) n.filed t.name (named chain t fact)))

  pub flown_then : (t : Segment) → In t o.flown → In t n.flown
  flown_then t fact = subst (In t) by.flown fact

  -- two segments that were in flight, are filed then, and have one number are one
  pub one : (a b : Segment) → In a n.flown → In b n.flown → In a.name o.filed → In b.name o.filed → a.name.seq ≡ b.name.seq → a ≡ b
  one a b fa fb ia ib same = text.one a b fa fb (line.no_two a.name b.name ia ib same)

  module _ (l : ℕ) (f : Filed) (filed : FiledOf l f n) where
    -- all of that lies before the opening segment
    pub head_before : f.head l ≤ s.end.seq
    head_before = by_head (f.head l) refl
      where
        by_head : (head : ℕ) → f.head l ≡ head → head ≤ s.end.seq
        by_head zero at = omega arith
        by_head (suc head) at =
            let some : 0 < f.head l = omega arith in
            let seq = filed.seq (f.head l) some (omega arith) in
            let b = k.logs.behind g n o e.sure e.moment e.happens e.calm ends chain s e.writes (f.segment l (f.head l)).name
            (filed.filed (f.head l) some (omega arith)) in
            omega arith
