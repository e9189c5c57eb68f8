-- Along a run in one boot an opening stays one, what it drew stays drawn, and what is known of what it reads stays so.
use Rattle.std.proofs.Common.{◌≡◌, ⊎_elim, ℕ, ◌≤◌, true, List, [], Option, Some, None, refl, sym, ap, subst, ◌∙◌, inl, inr, arith}
use Rattle.std.proofs.lemmas.Bool.{le-leb, leb-true}
use Rattle.client_log.specs.Transition as log
use Rattle.log_law.specs.Events.{CameToScan, Happens, Runs}
use Rattle.log_law.specs.Events.Happens.{Acts, Writes, Opens, Crashes, Restarts, Renews, Serves, Bars, Lists, Hears, Raises, Publishes, Welcomes, Drops}
use Rattle.log_law.specs.Events.Runs.{Begun, On}
use Rattle.log_law.specs.Net.{Net, Owner}
use Rattle.log_law.specs.Net.Owner.{Down, Opening, Writing, Serving}
use Rattle.log_law.specs.Tails.{then_on}
use Rattle.log_protocol.specs.Tables.{In}
use Rattle.log_scan.specs.declared.input.In.{In as Input}
use Rattle.log_scan.specs.declared.output.Out.TheVariants.{Lost}
use Rattle.log_scan.specs.declared.stage.Backward.{Backward}
use Rattle.log_scan.specs.declared.stage.Stage.{Stage}
use Rattle.log_scan.specs.declared.stage.Stage.TheVariants.{Hails, Gathers, Asks, Reads, Over}
use Rattle.log_scan.specs.ScanState.{IsRead, ScanState}
use Rattle.log_scan.specs.Transition.{transition}
use Rattle.log_tie.specs.Setting.{Setting}
use Rattle.loss_law.proofs.Events.{grows, writes_none}
use Rattle.loss_law.proofs.Growing.{AskedBy, Base, BootOn}
use Rattle.loss_law.proofs.Inputs.{takes_goes}
use Rattle.loss_law.proofs.Interval.{passed}
use Rattle.loss_law.proofs.Kept.{Asks_on, Doubts, IsReading, Middle, ReadingKept, ReadKept, RoundKept, StageKept, WasTorn, once_keeps, stage_on}
use Rattle.loss_law.proofs.Losing.{lost_in}
use Rattle.loss_law.specs.Losses.{IsTorn, IsTrue, Once, has_drawn, is_opening}
use Rattle.segment_reading.specs.declared.reading.Stage as rounds
use Rattle.segment_reading.specs.declared.reading.Stage.TheVariants as stand
use Rattle.segment_reading.specs.Reading.{ReadingState}
use Rattle.xfs_base.specs.declared.segment.SegName.{SegName}
use Rattle.xfs_base.specs.declared.segment.SegRef.{SegRef}

-- ---- questions that are drawn

pub asked_of : (ask : ℕ) (owner : Owner) → has_drawn ask owner ≡ true → AskedBy ask owner
asked_of ask Down e = tt
asked_of ask (Opening s) e = leb-true ask s.opening.ask e
asked_of ask (Writing chain s) e = tt
asked_of ask (Serving s) e = tt

pub drawn_of : (ask : ℕ) (owner : Owner) → is_opening owner ≡ true → AskedBy ask owner → has_drawn ask owner ≡ true
drawn_of ask Down opens asked = opens
drawn_of ask (Opening s) opens asked = le-leb ask s.opening.ask asked
drawn_of ask (Writing chain s) opens asked = opens
drawn_of ask (Serving s) opens asked = opens

-- ---- one boot

module _ (g : Setting) where
  -- what is an opening after an event in one boot was one before it
  opened_before : (n o : Net) → Happens g n o → (t : ScanState) → o.owner ≡ Opening t → o.inc ≡ n.inc → is_opening n.owner ≡ true
  opened_before n o (Acts s i fact came texts) t e boot = absurd cc
  opened_before n o (Writes chain s i fact came texts) t e boot =
      absurd (writes_none g n chain (log.transition s i) (log.transition s i).state.flight t e)
  opened_before n o (Opens s i fact came can) t e boot = ap is_opening fact
  opened_before n o Crashes t e boot = absurd cc
  opened_before n o (Restarts down) t e boot = absurd (omega arith)
  opened_before n o (Renews m high doubts down came) t e boot = absurd cc
  opened_before n o (Serves v deed some came) t e boot = ap is_opening e
  opened_before n o (Bars v l pass) t e boot = ap is_opening e
  opened_before n o (Lists v) t e boot = ap is_opening e
  opened_before n o (Hears v generation up reached) t e boot = ap is_opening e
  opened_before n o (Raises low name up fact below) t e boot = ap is_opening e
  opened_before n o (Publishes m whole) t e boot = ap is_opening e
  opened_before n o (Welcomes inc ask news m fact low whole) t e boot = ap is_opening e
  opened_before n o (Drops lists meta fact among below) t e boot = ap is_opening e

  opening_of : (owner : Owner) → is_opening owner ≡ true → (s : ScanState) × (owner ≡ Opening s)
  opening_of Down e = absurd cc
  opening_of (Opening s) e = (s, refl)
  opening_of (Writing chain s) e = absurd cc
  opening_of (Serving s) e = absurd cc

  boot_up : (n o : Net) → Base g n → Happens g n o → n.inc ≤ o.inc
  boot_up n o base e = ⊎_elim (λ stays. let a = stays.0 in omega arith) (λ next. omega arith) (grows g n o base e).boot

  pub boots_up : (n o : Net) → Base g n → Runs g n o → n.inc ≤ o.inc
  boots_up n o base Begun = omega arith
  boots_up n o base (On {m = m} run e) =
      let a = boots_up n m base run in let b = boot_up m o (passed g n m base run).base e in omega arith

  -- it is an opening at each moment, in one boot
  abbrev pub AllOpen : {n o : Net} → Runs g n o → Type 0
  AllOpen (Begun {n = n}) = is_opening n.owner ≡ true
  AllOpen (On {m = m} {o = o} run e) = AllOpen run × ((is_opening o.owner ≡ true) × (o.inc ≡ m.inc))

  pub all_open : (n o : Net) → Base g n → (run : Runs g n o) → o.inc ≡ n.inc → is_opening o.owner ≡ true → AllOpen run
  all_open n o base Begun boot opens = opens
  all_open n o base (On {m = m} run e) boot opens =
      let a = boots_up n m base run in
      let b = boot_up m o (passed g n m base run).base e in
      let s = opening_of o.owner opens in
      let stays : o.inc ≡ m.inc = omega arith in
      (all_open n m base run (omega arith) (opened_before m o e s.0 s.1 stays), (opens, stays))

  -- ---- what was so stays so

  asked_then : (ask : ℕ) (n o : Net) → BootOn n o → o.inc ≡ n.inc → AskedBy ask n.owner → AskedBy ask o.owner
  asked_then ask n o (inl stays) boot asked = stays.1 ask asked
  asked_then ask n o (inr next) boot asked = absurd (omega arith)

  pub once_on : (ask : ℕ) (P : Net → Type 0) (start n o : Net) (run : Runs g start n) (more : Runs g n o) → Base g n → AllOpen more
      → Once (has_drawn ask) P run → Once (has_drawn ask) P (then_on run more)
  once_on ask P start n o run Begun base all once = once
  once_on ask P start n o run (On {m = m} more e) base all once =
      let before = once_on ask P start n m run more base all.0 once in
      let asked = asked_of ask m.owner (once_keeps (has_drawn ask) P (then_on run more) before) in
      let later = asked_then ask m o (grows g m o (passed g n m base more).base e).boot all.1.1 asked in
      (drawn_of ask o.owner all.1.0 later, inr before)

  -- ---- what is known of what it reads

  module _ (Was Now : SegRef → Type 0) (up : (seg : SegRef) → Was seg → Now seg) where
    module _ (start n : Net) (run : Runs g start n) where
      weaker_middle : (seg : SegRef) (kept : List (ℕ × ℕ)) → Middle g Was run seg kept → Middle g Now run seg kept
      weaker_middle seg kept m = record { net = m.net; base = m.base; later = m.later; pairs = m.pairs; known = λ some t. up seg (m.known some t) }

      weaker_asks : (r : ReadingState) → Asks_on g Was run r → Asks_on g Now run r
      unfolding weaker_middle
      weaker_asks r a = record { middle = weaker_middle r.target.seg r.kept a.middle; drawn = a.drawn; told = a.told }

      weaker_doubts : (ask : ℕ) (seg : SegRef) → Doubts g Was run ask seg → Doubts g Now run ask seg
      weaker_doubts ask seg d = record { bound = d.bound; torn = λ above. up seg (d.torn above); past = d.past; heard = d.heard }

      weaker_round : (ask : ℕ) (r : ReadingState) (stage : rounds.Stage) → RoundKept g Was run ask r stage → RoundKept g Now run ask r stage
      weaker_round ask r stand.Asking k = weaker_asks r k
      weaker_round ask r stand.Between k = weaker_middle r.target.seg r.kept k
      weaker_round ask r stand.Doubted k = weaker_doubts ask r.target.seg k
      weaker_round ask r stand.Over k = tt

      weaker_reading : (ask : ℕ) (b : Backward) (r : ReadingState) → ReadingKept g Was run ask b r → ReadingKept g Now run ask b r
      weaker_reading ask b r k = record {
        of_log = k.of_log;
        next = k.next;
        servers = k.servers;
        parity = k.parity;
        single = k.single;
        asked = k.asked;
        stage = weaker_round ask r r.stage k.stage;
      }

      weaker_read : (ask : ℕ) (b : Backward) (r : Option ReadingState) → ReadKept g Was run ask b r → ReadKept g Now run ask b r
      weaker_read ask b None k = tt
      weaker_read ask b (Some r) k = weaker_reading ask b r k

      weaker : (ask : ℕ) (stage : Stage) → StageKept g Was run ask stage → StageKept g Now run ask stage
      weaker ask Hails k = tt
      weaker ask (Gathers lists) k = tt
      weaker ask (Asks lists) k = tt
      weaker ask (Reads b r) k = weaker_read ask b r k
      weaker ask Over k = tt

    -- whatever happens aside
    pub stages_on : (start n o : Net) (run : Runs g start n) (more : Runs g n o) → Base g n → AllOpen more → (ask : ℕ) (stage : Stage)
        → StageKept g Was run ask stage → StageKept g Now (then_on run more) ask stage
    stages_on start n o run Begun base all ask stage k = weaker start n run ask stage k
    stages_on start n o run (On {m = m} more e) base all ask stage k =
        stage_on g Now Now start m o (then_on run more) e (grows g m o (passed g n m base more).base e) all.1.1 (λ seg fact. fact) ask stage
        (stages_on start n m run more base all.0 ask stage k)

    -- ---- it takes an input

    module _ (start n : Net) (run : Runs g start n) (base : Base g n) (torn_now : (seg : SegRef) → IsReading seg n → IsTorn g seg n → Was seg)
        (s : ScanState) (fact : n.owner ≡ Opening s) (i : Input) (came : CameToScan g n i) (truth : IsTrue run s i)
        (k : StageKept g Was run s.opening.ask s.stage) where
      read_now : (seg : SegRef) → IsRead s.stage seg → IsTorn g seg n → Was seg
      read_now seg reads = torn_now seg (s, fact, reads)

      some : (m o : Net) (more : Runs g n m) (e : Happens g m o) → AllOpen (On more e)
          → StageKept g Now (then_on run (On more e)) (transition s i).state.opening.ask (transition s i).state.stage
      some m o Begun e all =
          (takes_goes g Was Now start n o run e (grows g n o base e) all.1.1 base s fact (λ opens. up) read_now i came truth k).kept all.1.0
      some m o (On {m = first} more before) e all =
          stage_on g Now Now start m o (then_on run (On more before)) e (grows g m o (passed g n m base (On more before)).base e) all.1.1 (λ seg same. same)
          (transition s i).state.opening.ask (transition s i).state.stage (some first m more before all.0)

      one_scan : (t : ScanState) → n.owner ≡ Opening t → s ≡ t
      one_scan t owner = by (sym fact ∙ owner)
        where
          by : Opening s ≡ Opening t → s ≡ t
          by e = cc

      -- by whatever happens it becomes one that took the input, or nothing happens
      pub took : (o : Net) (more : Runs g n o) → AllOpen more → (t : ScanState) → o.owner ≡ Opening t → t ≡ (transition s i).state
          → StageKept g Now (then_on run more) t.opening.ask t.stage
      took o Begun all t owner same =
          weaker start n run t.opening.ask t.stage
          (subst (λ (z : ScanState). StageKept g Was run z.opening.ask z.stage) (one_scan t owner) k)
      took o (On {m = m} more e) all t owner same =
          subst (λ (z : ScanState). StageKept g Now (then_on run (On more e)) z.opening.ask z.stage) (sym same) (some m o more e all)

      abbrev fallen : Net
      fallen = record n { owner = Down; feed = [] }

      -- what it says is lost was torn
      pub lost_so : (name : SegName) → In (Lost name) (transition s i).outs → WasTorn Was s name
      lost_so name lost =
          lost_in (WasTorn Was s) (transition s i).outs
          (takes_goes g Was Now start n fallen run Crashes (grows g n fallen base Crashes) refl base s fact
          (λ opens. up) read_now i came truth k).lost name lost
