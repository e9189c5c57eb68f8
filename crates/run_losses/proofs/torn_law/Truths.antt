-- What is true of the answers to a scan: each Missing by the number of the question of its round tells of a moment since that was drawn. So it stays, whichever
-- node has its turn.
use Rattle.std.proofs.Common.{◌≡◌, ◌⊎◌, ⊎_elim, ℕ, ◌<◌, ◌≤◌, true, List, ◌++◌, Option, Some, None, refl, sym, ap, subst, ◌∙◌, inl, inr, arith}
use Rattle.xfs_base.specs.declared.node.NodeId.{NodeId}
use Rattle.xfs_base.specs.declared.node.NodeId.TheVariants.{Server}
use Rattle.xfs_base.specs.declared.segment.SegRef.{SegRef}
use Rattle.node_logs.specs.client_log_tie.Owner.{Scene, SeesScan}
use Rattle.log_law.specs.Events.{CameToScan, Runs}
use Rattle.log_law.specs.Net.{Net}
use Rattle.log_law.specs.Net.Owner.{Opening}
use Rattle.log_law.specs.Tails.{then_on}
use Rattle.log_owner.specs.declared.known.Known.{Known}
use Rattle.log_owner.specs.declared.opening.Scanning.{Scanning}
use Rattle.log_scan.specs.declared.input.In.{In as Input}
use Rattle.log_scan.specs.declared.input.In.TheVariants as input
use Rattle.log_scan.specs.declared.stage.Backward.{Backward}
use Rattle.log_scan.specs.declared.stage.Stage.{Stage}
use Rattle.log_scan.specs.declared.stage.Stage.TheVariants.{Hails, Gathers, Asks, Reads, Over}
use Rattle.log_scan.specs.ScanState.{ScanState}
use Rattle.log_scan.specs.Transition.{transition}
use Rattle.log_tie.specs.Setting.{Setting}
use Rattle.loss_law.proofs.Growing.{Base}
use Rattle.loss_law.proofs.Kept.{IsReading, StageKept, once_now}
use Rattle.loss_law.specs.Losses.{IsTorn, IsTrue, LacksIn, Once, has_drawn}
use Rattle.node_base.specs.declared.questions.Asked.{Asked}
use Rattle.segment_reading.specs.declared.target.Target.{Target}
use Rattle.segment_reading.specs.Reading.{ReadingState}
use Rattle.token_protocol.specs.Basics.{In}
use Rattle.wire_msg.specs.declared.body.Body.TheVariants as body
use Rattle.wire_msg.specs.declared.packet.Do.{Do}
use Rattle.wire_msg.specs.declared.packet.Do.TheVariants as done
use Rattle.wire_msg.specs.declared.packet.Packet.{Packet}
use Rattle.wire_msg.specs.declared.storage.Fetch.{Fetch}
use Rattle.wire_msg.specs.declared.storage.Missing.{Missing}
use Rattle.run_laws.proofs.world_law.Sent.{in_append}
use Rattle.run_losses.proofs.torn_law.Coming.{own_parts}
use Rattle.run_losses.proofs.torn_law.OneOpening.{AllOpen, drawn_of, once_on, stages_on, took}
use Rattle.run_losses.proofs.torn_law.OpeningSays.{After, Comes, Fetches, TookOne}
use Rattle.run_losses.proofs.torn_law.ScanAsks.{ReadBefore, ReadFor, ReadsOn, asks_for}

-- ---- what is true

-- the reading of a scan whose question is out
pub record Reading (s : Scanning) : Type 0 where
  pub back : Backward
  pub round : ReadingState
  pub reads : s.scan.stage ≡ Reads back (Some round)
  pub out : s.asked.own ≡ round.ask
  pub some : s.asked.own ≡ 0 → ⊥

module _ (g : Setting) (Was : SegRef → Type 0) {start n : Net} (run : Runs g start n) (sent : List Packet) (owner : NodeId) where
  pub record Truths (s : Scanning) : Type 0 where
    -- what is known of what it reads
    pub kept : StageKept g Was run s.scan.opening.ask s.scan.stage
    -- each fetch by the number of its question is of the segment that it reads
    pub fetched : (r : Reading s) (p : Packet) (m : Fetch) → In p sent → p.from ≡ owner → p.body ≡ body.Fetch m → m.ask ≡ s.asked.ask
        → m.name ≡ r.round.target.seg.name
    -- each Missing by that number was so at a moment since the question was drawn
    pub missed : (r : Reading s) (p : Packet) (m : Missing) (v : ℕ) → In p sent → p.from ≡ Server v → p.to ≡ owner → p.body ≡ body.Missing m
        → m.ask ≡ s.asked.ask
        → Once (has_drawn r.round.ask) (LacksIn r.round.target.seg.name v m.generation) run

-- all numbers of an owner's questions to servers were drawn
pub record Drawn (sent : List Packet) (owner : NodeId) (last : ℕ) : Type 0 where
  pub fetches : (p : Packet) (m : Fetch) → In p sent → p.from ≡ owner → p.body ≡ body.Fetch m → m.ask ≤ last
  pub missings : (p : Packet) (m : Missing) (v : ℕ) → In p sent → p.from ≡ Server v → p.to ≡ owner → p.body ≡ body.Missing m → m.ask ≤ last

-- ---- an input is true

pub truth_of : (g : Setting) (Was : SegRef → Type 0) (start n : Net) (run : Runs g start n) (sent : List Packet) (owner : NodeId) (k : Known) (s : Scanning)
    → Truths g Was run sent owner s → (what : Do) → ((p : Packet) → what ≡ done.Deliver p → In p sent × (p.to ≡ owner)) → (i : Input) → Comes k s what i
    → IsTrue run s.scan i
truth_of g Was start n run sent owner k s truths what gets i comes b r v generation at fact =
    by what gets (subst (λ (j : Input). Comes k s what j) fact comes)
  where
    by : (x : Do) → ((p : Packet) → x ≡ done.Deliver p → In p sent × (p.to ≡ owner)) → Comes k s x (input.Missing r.ask v generation)
        → Once (has_drawn r.ask) (LacksIn r.target.seg.name v generation) run
    by done.Begin gets comes = absurd comes
    by done.Tick gets comes = absurd cc
    by (done.Deliver p) gets (m, told, same) =
        let parts = own_parts s.asked m.ask r.ask told.own_is in
        let got = gets p refl in
        subst (λ x. Once (has_drawn r.ask) (LacksIn r.target.seg.name v x) run) (sym same)
        (truths.missed (record { back = b; round = r; reads = at; out = sym parts.own_is; some = parts.some }) p m v got.0 told.from got.1 told.bears
        parts.ask_is)

-- ---- what was read before

pub record Before (st : Stage) (later : ReadingState) : Type 0 where
  pub back : Backward
  pub round : ReadingState
  pub reads : st ≡ Reads back (Some round)
  pub ask : later.ask ≡ round.ask
  pub target : later.target ≡ round.target

before_of : (st : Stage) (later : ReadingState) → ReadBefore st later → Before st later
before_of Hails later h = absurd h
before_of (Gathers lists) later h = absurd h
before_of (Asks lists) later h = absurd h
before_of (Reads b None) later h = absurd h
before_of (Reads b (Some r)) later h = record { back = b; round = r; reads = refl; ask = h.0; target = h.1 }
before_of Over later h = absurd h

module _ (g : Setting) (Was Now : SegRef → Type 0) (up : (seg : SegRef) → Was seg → Now seg) (start : Net) (w : Scene) (run : Runs g start w.net)
    (base : Base g w.net) (o : Net) (more : Runs g w.net o) (all : AllOpen g more) (sent new : List Packet) (owner : NodeId) (c : ℕ) (k : Known)
    (s : Scanning) (last : ℕ) (sees : SeesScan g c w k s last) (truths : Truths g Was run sent owner s) where
  -- the question of its round was drawn
  drawn_now : (r : Reading s) → has_drawn r.round.ask w.net.owner ≡ true
  drawn_now r =
      subst (λ x. has_drawn r.round.ask x ≡ true) (sym sees.owner)
      (drawn_of r.round.ask (Opening s.scan) refl (let a = sees.past in let b = r.out in omega arith))

  still_missed : (r : Reading s) (v generation : ℕ) → Once (has_drawn r.round.ask) (LacksIn r.round.target.seg.name v generation) run
      → Once (has_drawn r.round.ask) (LacksIn r.round.target.seg.name v generation) (then_on run more)
  still_missed r v generation once =
      once_on g r.round.ask (LacksIn r.round.target.seg.name v generation) start w.net o run more base all once

  -- ---- another node has its turn

  -- a Missing answers a fetch that was sent, of what the server lacks now
  pub record Answering (m : Missing) (v : ℕ) : Type 0 where
    pub packet : Packet
    pub among : In packet sent
    pub asker : packet.from ≡ owner
    pub fetch : Fetch
    pub asks : packet.body ≡ body.Fetch fetch
    pub ask : m.ask ≡ fetch.ask
    pub lacks : LacksIn fetch.name v m.generation w.net

  pub aside : ((p : Packet) → In p new → p.from ≡ owner → ⊥)
      → ((p : Packet) (m : Missing) (v : ℕ) → In p new → p.from ≡ Server v → p.to ≡ owner → p.body ≡ body.Missing m → Answering m v)
      → Truths g Now (then_on run more) (sent ++ new) owner s
  aside others answers = record {
    kept = stages_on g Was Now up start w.net o run more base all s.scan.opening.ask s.scan.stage truths.kept;
    fetched = λ r p m fact from asks same.
        ⊎_elim (λ old. truths.fetched r p m old from asks same) (λ late. absurd (others p late from)) (in_append sent new p fact);
    missed = λ r p m v fact from to tells same.
        ⊎_elim (λ old. still_missed r v m.generation (truths.missed r p m v old from to tells same))
        (λ late. still_missed r v m.generation (now r m v same (answers p m v late from to tells))) (in_append sent new p fact);
  }
    where
      now : (r : Reading s) (m : Missing) (v : ℕ) → m.ask ≡ s.asked.ask → Answering m v
          → Once (has_drawn r.round.ask) (LacksIn r.round.target.seg.name v m.generation) run
      now r m v same a =
          once_now (has_drawn r.round.ask) (LacksIn r.round.target.seg.name v m.generation) run (drawn_now r)
          (subst (λ name. LacksIn name v m.generation w.net)
          (truths.fetched r a.packet a.fetch a.among a.asker a.asks (sym a.ask ∙ same)) a.lacks)

  -- ---- the owner has its turn

  module _ (torn_now : (seg : SegRef) → IsReading seg w.net → IsTorn g seg w.net → Was seg) (what : Do) (drawn : Drawn sent owner last)
      (no_server : (v : ℕ) → owner ≡ Server v → ⊥) (came : (i : Input) → Comes k s what i → CameToScan g w.net i)
      (truth : (i : Input) → Comes k s what i → IsTrue run s.scan i) (its : (p : Packet) → In p new → p.from ≡ owner) where
    same_stage : (later : Scanning) → later ≡ s → Truths g Now (then_on run more) (sent ++ new) owner s
        → Truths g Now (then_on run more) (sent ++ new) owner later
    same_stage later same t = subst (Truths g Now (then_on run more) (sent ++ new) owner) (sym same) t

    -- its scan took an input
    module _ (i : Input) (later : Scanning) (t : TookOne k s what last i later)
        (asks : (p : Packet) (m : Fetch) → In p new → p.body ≡ body.Fetch m → Fetches k s what last (Some i) m.name) where
      stage_is : later.scan.stage ≡ (transition s.scan i).state.stage
      stage_is = ap (λ (x : ScanState). x.stage) t.scan

      -- what it reads by an old number is what it read before
      module _ (r : Reading later) (number : ℕ) (old : number ≤ last) (same : number ≡ later.asked.ask) where
        pub record Read : Type 0 where
          pub was : Reading s
          pub ask : r.round.ask ≡ was.round.ask
          pub target : r.round.target ≡ was.round.target
          pub number_is : number ≡ s.asked.ask

        read_before : Read
        read_before = by t.out
          where
            kept_number : later.asked ≡ s.asked → Read
            kept_number e = by_reads (subst (ReadsOn s.scan.opening.ask s.scan.stage) (sym stage_is ∙ r.reads) (asks_for s.scan i).reads)
              where
                own_was : s.asked.own ≡ r.round.ask
                own_was = sym (ap (λ (a : Asked). a.own) e) ∙ r.out

                by_reads : (s.scan.opening.ask < r.round.ask) ⊎ ReadBefore s.scan.stage r.round → Read
                by_reads (inl less) = absurd (let a = sees.past in let b = own_was in omega arith)
                by_reads (inr before) =
                    let x = before_of s.scan.stage r.round before in
                    record {
                      was = record {
                        back = x.back;
                        round = x.round;
                        reads = x.reads;
                        out = own_was ∙ x.ask;
                        some = λ none. r.some (ap (λ (a : Asked). a.own) e ∙ none);
                      };
                      ask = x.ask;
                      target = x.target;
                      number_is = same ∙ ap (λ (a : Asked). a.ask) e;
                    }

            by : (later.asked ≡ s.asked) ⊎ ((later.asked.own ≡ 0) ⊎ (last < later.asked.ask)) → Read
            by (inl e) = kept_number e
            by (inr (inl none)) = absurd (r.some none)
            by (inr (inr less)) = absurd (omega arith)

      pub took_turn : o.owner ≡ Opening later.scan → Truths g Now (then_on run more) (sent ++ new) owner later
      took_turn opens = record {
        kept = took g Was Now up start w.net run base torn_now s.scan sees.owner i (came i t.came)
            (truth i t.came) truths.kept o more all later.scan opens t.scan;
        fetched = λ r p m fact from tells same.
            ⊎_elim (λ old. fetched_old r p m old from tells same) (λ late. fetched_new r p m late tells) (in_append sent new p fact);
        missed = λ r p m v fact from to tells same.
            ⊎_elim (λ old. missed_old r p m v old from to tells same) (λ late. absurd (no_server v (sym (its p late) ∙ from))) (in_append sent new p fact);
      }
        where
          fetched_old : (r : Reading later) (p : Packet) (m : Fetch) → In p sent → p.from ≡ owner → p.body ≡ body.Fetch m → m.ask ≡ later.asked.ask
              → m.name ≡ r.round.target.seg.name
          fetched_old r p m old from tells same =
              let x = read_before r m.ask (drawn.fetches p m old from tells) same in
              truths.fetched x.was p m old from tells x.number_is ∙ sym (ap (λ (z : Target). z.seg.name) x.target)

          fetched_new : (r : Reading later) (p : Packet) (m : Fetch) → In p new → p.body ≡ body.Fetch m → m.name ≡ r.round.target.seg.name
          fetched_new r p m late tells =
              let f = asks p m late tells in
              (subst (λ st. ReadFor st m.name f.0) (sym stage_is ∙ r.reads) f.1).0

          missed_old : (r : Reading later) (p : Packet) (m : Missing) (v : ℕ) → In p sent → p.from ≡ Server v → p.to ≡ owner → p.body ≡ body.Missing m
              → m.ask ≡ later.asked.ask
              → Once (has_drawn r.round.ask) (LacksIn r.round.target.seg.name v m.generation) (then_on run more)
          missed_old r p m v old from to tells same =
              let x = read_before r m.ask (drawn.missings p m v old from to tells) same in
              subst (λ n. Once (has_drawn n) (LacksIn r.round.target.seg.name v m.generation) (then_on run more)) (sym x.ask)
              (subst (λ (z : Target). Once (has_drawn x.was.round.ask) (LacksIn z.seg.name v m.generation) (then_on run more)) (sym x.target)
              (still_missed x.was v m.generation (truths.missed x.was p m v old from to tells x.number_is)))

    pub own_turn : (by : Option Input) (later : Scanning) → After k s what last by later
        → ((p : Packet) (m : Fetch) → In p new → p.body ≡ body.Fetch m → Fetches k s what last by m.name) → o.owner ≡ Opening later.scan
        → Truths g Now (then_on run more) (sent ++ new) owner later
    own_turn None later same asks opens = same_stage later same (record {
      kept = stages_on g Was Now up start w.net o run more base all s.scan.opening.ask s.scan.stage truths.kept;
      fetched = λ r p m fact from tells number.
          ⊎_elim (λ old. truths.fetched r p m old from tells number) (λ late. absurd (asks p m late tells)) (in_append sent new p fact);
      missed = λ r p m v fact from to tells number.
          ⊎_elim (λ old. still_missed r v m.generation (truths.missed r p m v old from to tells number))
          (λ late. absurd (no_server v (sym (its p late) ∙ from))) (in_append sent new p fact);
    })
    own_turn (Some i) later t asks opens = took_turn i later t asks opens
