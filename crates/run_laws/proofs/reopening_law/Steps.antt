-- The step of the small world by which a restart ends: the log of the owner takes an input by which its opening segment is settled.
use Rattle.std.proofs.Common.{◌≡◌, ◌⊎◌, ◌≤◌, suc, List, [], ◌∷◌, ◌++◌, Option, Some, None, refl, sym, ap, subst, ◌∙◌, inl, inr, arith}
use Rattle.std.specs.List.{AllByRecursion}
use Rattle.client_log.specs.declared.input.In.{In as Input}
use Rattle.client_log.specs.declared.output.Out.{Out}
use Rattle.client_log.specs.declared.output.Out.TheVariants.{Send, Settled}
use Rattle.client_log.specs.History.{TellsWhatIsDue}
use Rattle.client_log.specs.LogState.{LogState}
use Rattle.client_log.specs.Transition as log
use Rattle.log_flight.specs.Flights.{FlightState}
use Rattle.log_law.specs.Events.{Happens, Runs}
use Rattle.log_law.specs.Events.Happens.{Acts, Writes, Opens, Crashes, Restarts, Renews, Serves, Bars, Lists, Hears, Raises, Publishes, Welcomes, Drops}
use Rattle.log_law.specs.Events.Runs.{Begun, On}
use Rattle.log_law.specs.Laws.{Moment}
use Rattle.log_law.specs.Net.{Net, Owner, Told, after_flight, after_told, after_writing, chain_in, names_of, first_write, opening}
use Rattle.log_law.specs.Net.Owner.{Serving, Writing}
use Rattle.log_law.specs.Restarts.{is_serving, is_writing}
use Rattle.log_protocol.specs.Tables.{In}
use Rattle.log_scan.specs.ScanState.{ScanState}
use Rattle.log_scan.specs.Transition as scan
use Rattle.log_tie.specs.Seen.{log_filed}
use Rattle.log_tie.specs.Setting.{Setting}
use Rattle.group_map.specs.GroupMapState.{GroupMapState}
use Rattle.segment_format.specs.declared.segment.Segment.{Segment}
use Rattle.xfs_base.proofs.Booleans.{contrary}
use Rattle.xfs_base.specs.declared.segment.End.{End}
use Rattle.xfs_base.specs.declared.segment.LogId.{LogId}
use Rattle.xfs_base.specs.declared.segment.SegName.{SegName}
use Rattle.run_laws.proofs.reopening_law.Chains.{in_right}

-- ---- the step

pub record EndsBy (g : Setting) (n o : Net) (chain : List Segment) (s r : LogState) : Type 0 where
  pub input : Input
  pub state : (log.transition s input).state ≡ r
  pub filed : o.filed ≡ log_filed g.log (log.transition s input).outs ++ (names_of chain ++ n.filed)
  pub flown : o.flown ≡ n.flown

one_log : (o : Owner) (a b : List Segment) (s t : LogState) → o ≡ Writing a s → o ≡ Writing b t → s ≡ t
one_log o a b s t x y = cc

one_chain : (o : Owner) (a b : List Segment) (s t : LogState) → o ≡ Writing a s → o ≡ Writing b t → a ≡ b
one_chain o a b s t x y = cc

one_state : (s t : LogState) → Serving s ≡ Serving t → s ≡ t
one_state s t e = cc

module _ (g : Setting) where
  by_writing : (n : Net) (chain : List Segment) (s r : LogState) (i : Input) → (after_writing g n chain (log.transition s i)).owner ≡ Serving r
      → EndsBy g n (after_writing g n chain (log.transition s i)) chain s r
  by_writing n chain s r i serves = by (log.transition s i).state.flight refl
    where
      by : (x : Option FlightState) → (log.transition s i).state.flight ≡ x → EndsBy g n (after_writing g n chain (log.transition s i)) chain s r
      by (Some f) e = contrary
          (sym (ap (λ x. is_serving (after_flight g n chain (log.transition s i) x).owner) e)
          ∙ ap is_serving serves)
      by None e =
          let landed : after_writing g n chain (log.transition s i) ≡ after_flight g n chain (log.transition s i) None =
          ap (after_flight g n chain (log.transition s i)) e in
          record {
            input = i;
            state = one_state (log.transition s i).state r (sym (ap (λ (x : Net). x.owner) landed) ∙ serves);
            filed = ap (λ (x : Net). x.filed) landed;
            flown = ap (λ (x : Net). x.flown) landed;
          }

  pub ends_by : (n o : Net) (happens : Happens g n o) (chain : List Segment) (s r : LogState) → n.owner ≡ Writing chain s → o.owner ≡ Serving r
      → EndsBy g n o chain s r
  ends_by n o (Writes c t i fact came texts) chain s r writes serves =
      let same_chain = one_chain n.owner c chain t s fact writes in
      let same_log = one_log n.owner c chain t s fact writes in
      subst (λ z. EndsBy g n (after_writing g n c (log.transition t i)) z s r) same_chain
      (subst (λ z. EndsBy g n (after_writing g n c (log.transition t i)) c z r) same_log (by_writing n c t r i serves))
  ends_by n o (Acts t i fact came texts) chain s r writes serves = contrary (sym (ap is_writing fact) ∙ ap is_writing writes)
  ends_by n o (Opens t i fact came can) chain s r writes serves = contrary (sym (ap is_writing fact) ∙ ap is_writing writes)
  ends_by n o Crashes chain s r writes serves = contrary (ap is_serving serves)
  ends_by n o (Restarts fact) chain s r writes serves = contrary (ap is_serving serves)
  ends_by n o (Renews m high doubts fact came) chain s r writes serves = contrary (sym (ap is_writing fact) ∙ ap is_writing writes)
  ends_by n o (Serves v deed some came) chain s r writes serves = contrary (sym (ap is_serving writes) ∙ ap is_serving serves)
  ends_by n o (Bars v l pass) chain s r writes serves = contrary (sym (ap is_serving writes) ∙ ap is_serving serves)
  ends_by n o (Lists v) chain s r writes serves = contrary (sym (ap is_serving writes) ∙ ap is_serving serves)
  ends_by n o (Hears v generation up reached) chain s r writes serves = contrary (sym (ap is_serving writes) ∙ ap is_serving serves)
  ends_by n o (Raises low highest up fact below) chain s r writes serves = contrary (sym (ap is_serving writes) ∙ ap is_serving serves)
  ends_by n o (Publishes m whole) chain s r writes serves = contrary (sym (ap is_serving writes) ∙ ap is_serving serves)
  ends_by n o (Welcomes inc ask news m fact least whole) chain s r writes serves = contrary (sym (ap is_serving writes) ∙ ap is_serving serves)
  ends_by n o (Drops lists meta fact listed below) chain s r writes serves = contrary (sym (ap is_serving writes) ∙ ap is_serving serves)

-- what a log files by an input was in flight
pub landed : (s : LogState) (i : Input) (l : LogId) (outs : List Out) → AllByRecursion (TellsWhatIsDue s i) outs → (name : SegName) → In name (log_filed l outs)
    → (f : FlightState) × (s.flight ≡ Some f) × (record { log = l; seq = f.segment.name.seq; pass = f.segment.name.pass } ≡ name)
landed s i l [] all name among = absurd among
landed s i l (Send f m ∷ os) all name among = landed s i l os all.1 name among
landed s i l (Settled end rows ∷ os) all name (inl e) =
    (all.0.flight, all.0.was, sym (e ∙ ap (λ (z : End). record { log = l; seq = z.seq; pass = z.pass }) all.0.is_end))
landed s i l (Settled end rows ∷ os) all name (inr among) = landed s i l os all.1 name among

-- ---- the least horizon

-- it is the first number, or no further than one beyond a filed segment
abbrev pub IsReached : Net → Type 0
IsReached n = (n.low ≤ 1) ⊎ ((name : SegName) × In name n.filed × (n.low ≤ suc name.seq))

still_reached : (n o : Net) → o.low ≡ n.low → ((name : SegName) → In name n.filed → In name o.filed) → IsReached n → IsReached o
still_reached n o same more (inl few) = inl (let e = same in omega arith)
still_reached n o same more (inr f) = inr (f.0, more f.0 f.1, (let e = same in let a = f.2 in omega arith))

module _ (g : Setting) where
  writing_reached : (n : Net) (chain : List Segment) (d : log.Done) (x : Option FlightState) → IsReached n → IsReached (after_flight g n chain d x)
  writing_reached n chain d None h =
      still_reached n (after_flight g n chain d None) refl
      (λ name fact. in_right (log_filed g.log d.outs) (names_of chain ++ n.filed) name (in_right (names_of chain) n.filed name fact)) h
  writing_reached n chain d (Some f) h =
      still_reached n (after_flight g n chain d (Some f)) refl (λ name fact. in_right (log_filed g.log d.outs) n.filed name fact) h

  opening_reached : (n : Net) (s : ScanState) (d : scan.Done) (t : Option Told) (m : Option GroupMapState) → IsReached n
      → IsReached (after_told g n s d t m)
  opening_reached n s d None m h = still_reached n (after_told g n s d None m) refl (λ name fact. fact) h
  opening_reached n s d (Some t) None h = still_reached n (after_told g n s d (Some t) None) refl (λ name fact. fact) h
  opening_reached n s d (Some t) (Some m) h =
      still_reached n (after_told g n s d (Some t) (Some m)) refl
      (λ name fact. in_right (log_filed g.log (first_write g n.inc t.end m).outs) n.filed name fact) h

  reached_on : (n o : Net) → Happens g n o → IsReached n → IsReached o
  reached_on n o (Acts s i fact came texts) h =
      still_reached n o refl (λ name among. in_right (log_filed g.log (log.transition s i).outs) n.filed name among) h
  reached_on n o (Writes chain s i fact came texts) h = writing_reached n chain (log.transition s i) (log.transition s i).state.flight h
  reached_on n o (Opens s i fact came can) h =
      opening_reached n s (scan.transition s i) (chain_in (scan.transition s i).outs) (scan.transition s i).state.opening.groups h
  reached_on n o Crashes h = h
  reached_on n o (Restarts fact) h = h
  reached_on n o (Renews m high doubts fact came) h = h
  reached_on n o (Serves v deed some came) h = h
  reached_on n o (Bars v l pass) h = h
  reached_on n o (Lists v) h = h
  reached_on n o (Hears v generation up reached) h = h
  reached_on n o (Raises low name up fact below) h = inr (name, fact, below)
  reached_on n o (Publishes m whole) h = h
  reached_on n o (Welcomes inc ask news m fact least whole) h = h
  reached_on n o (Drops lists meta fact listed below) h = h

  along : (n o : Net) → Runs g n o → IsReached n → IsReached o
  along n o Begun h = h
  along n o (On {m = m} run happens) h = reached_on m o happens (along n m run h)

  pub is_reached : (n : Net) → Moment g n → IsReached n
  is_reached n m = along (opening g m.map) n m.run (inl (omega arith))
