-- What is known of an opening that reads a segment: of which moments its answers and the pairs that it keeps tell.
use Rattle.std.proofs.Common.{◌≡◌, ℕ, ◌≤◌, ◌⊎◌, Bool, true, List, [], Option, Some, None, subst, inl, inr, arith}
use Rattle.xfs_base.specs.declared.news.SlotNews.{SlotNews}
use Rattle.xfs_base.specs.declared.segment.SegName.{SegName}
use Rattle.xfs_base.specs.declared.segment.SegRef.{SegRef}
use Rattle.group_map.specs.GroupMapState.{GroupMapState}
use Rattle.segment_reading.specs.declared.reading.Stage as rounds
use Rattle.segment_reading.specs.declared.reading.Stage.TheVariants as stand
use Rattle.segment_reading.specs.Reading.{ReadingState}
use Rattle.log_scan.specs.declared.stage.Backward.{Backward}
use Rattle.log_scan.specs.declared.stage.Stage.{Stage}
use Rattle.log_scan.specs.declared.stage.Stage.TheVariants.{Hails, Gathers, Asks, Reads, Over}
use Rattle.log_scan.specs.ScanState.{IsRead, ScanState}
use Rattle.log_scan.specs.Transition.{least_horizon}
use Rattle.log_protocol.specs.Tables.{In}
use Rattle.log_tie.specs.Setting.{Setting}
use Rattle.log_law.specs.Net.{Net, Owner}
use Rattle.log_law.specs.Net.Packet.{HelloSent, WelcomeSent}
use Rattle.log_law.specs.Net.Owner.{Opening}
use Rattle.log_law.specs.Events.{Happens, Runs}
use Rattle.log_law.specs.Events.Runs.{Begun, On}
use Rattle.loss_law.specs.Losses.{Once, has_drawn, LacksIn, IsTorn}
use Rattle.loss_law.proofs.Counting.{Each, servers_of}
use Rattle.loss_law.proofs.Pairs.{Single, AllAsked, AllSo, so_on}
use Rattle.loss_law.proofs.Growing.{Base, Grows, sent_then}
use Rattle.loss_law.proofs.Interval.{Before, Between}

-- at a moment the owner opens its log, and reads this segment
abbrev pub IsReading : SegRef → Net → Type 0
IsReading segment n = (s : ScanState) × (n.owner ≡ Opening s) × IsRead s.stage segment

-- `Was` is what there is to show of a segment that was torn at a moment of this opening at which it was read.
module _ (g : Setting) (Was : SegRef → Type 0) {start n : Net} (run : Runs g start n) where
  -- the moment at which the last round ended, and the pairs that were Missing in that round
  pub record Middle (seg : SegRef) (kept : List (ℕ × ℕ)) : Type 0 where
    pub net : Net
    pub base : Base g net
    pub later : Runs g net n
    pub pairs : Each (λ p. Before g seg.name net p.0 p.1) kept
    -- it is of this opening, which read the segment then, unless no round of that has ended yet
    pub known : (kept ≡ [] → ⊥) → IsTorn g seg net → Was seg

  -- a round is on: its question was drawn after that moment, and so what is told tells of a moment since
  pub record Asks_on (r : ReadingState) : Type 0 where
    pub middle : Middle r.target.seg r.kept
    pub drawn : (v generation : ℕ) → Once (has_drawn r.ask) (LacksIn r.target.seg.name v generation) run → Between g r.target.seg.name middle.net n v generation
    pub told : AllSo (Between g r.target.seg.name middle.net n) r.round.answers

  -- Two rounds missed the segment: it was torn, unless a horizon passed it; and whatever answers the question that is out is no earlier than that horizon.
  pub record Doubts (ask : ℕ) (seg : SegRef) : Type 0 where
    pub bound : ℕ
    pub torn : bound ≤ seg.name.seq → Was seg
    pub past : bound ≤ n.low
    pub heard : (news : List SlotNews) (m : GroupMapState) → In (WelcomeSent n.inc ask news m) n.sent → bound ≤ least_horizon g.log.0 news

  abbrev pub RoundKept : ℕ → ReadingState → rounds.Stage → Type 0
  RoundKept ask r stand.Asking = Asks_on r
  RoundKept ask r stand.Between = Middle r.target.seg r.kept
  RoundKept ask r stand.Doubted = Doubts ask r.target.seg
  RoundKept ask r stand.Over = Unit {0}

  pub record ReadingKept (ask : ℕ) (b : Backward) (r : ReadingState) : Type 0 where
    pub of_log : r.target.seg.name.log ≡ g.log
    pub next : r.target.seg.name.seq ≡ b.next.seq
    pub servers : r.round.servers ≡ servers_of (g.stripe r.target.seg.group).members
    pub parity : r.round.parity ≡ (g.stripe r.target.seg.group).parity
    pub single : Single r.round.answers
    pub asked : AllAsked r.round.servers r.round.answers
    pub stage : RoundKept ask r r.stage

  abbrev pub ReadKept : ℕ → Backward → Option ReadingState → Type 0
  ReadKept ask b None = Unit {0}
  ReadKept ask b (Some r) = ReadingKept ask b r

  abbrev pub StageKept : ℕ → Stage → Type 0
  StageKept ask Hails = Unit {0}
  StageKept ask (Gathers lists) = Unit {0}
  StageKept ask (Asks lists) = Unit {0}
  StageKept ask (Reads b r) = ReadKept ask b r
  StageKept ask Over = Unit {0}

  abbrev pub Kept : Type 0
  Kept = (s : ScanState) → n.owner ≡ Opening s → StageKept s.opening.ask s.stage

-- ---- moments

pub once_keeps : {g : Setting} {n m : Net} (keeps : Owner → Bool) (P : Net → Type 0) (run : Runs g n m) → Once keeps P run → keeps m.owner ≡ true
once_keeps keeps P Begun once = once.0
once_keeps keeps P (On run e) once = once.0

pub once_now : {g : Setting} {n m : Net} (keeps : Owner → Bool) (P : Net → Type 0) (run : Runs g n m) → keeps m.owner ≡ true → P m → Once keeps P run
once_now keeps P Begun fact now = (fact, now)
once_now keeps P (On run e) fact now = (fact, inl now)

-- ---- an event goes by

module _ (g : Setting) (Was Now : SegRef → Type 0) (start n o : Net) (run : Runs g start n) (e : Happens g n o) (grows : Grows g n o) (boot : o.inc ≡ n.inc)
    (up : (seg : SegRef) → Was seg → Now seg) where
  pub between_on : (name : SegName) (m : Net) (v generation : ℕ) → Between g name m n v generation → Between g name m o v generation
  between_on name m v generation b = record { moment = b.moment; first = b.first; later = On b.later e; lacks = b.lacks }

  pub middle_on : (seg : SegRef) (kept : List (ℕ × ℕ)) → Middle g Was run seg kept → Middle g Now (On run e) seg kept
  middle_on seg kept m = record { net = m.net; base = m.base; later = On m.later e; pairs = m.pairs; known = λ some t. up seg (m.known some t) }

  asks_on : (r : ReadingState) → Asks_on g Was run r → Asks_on g Now (On run e) r
  unfolding middle_on
  asks_on r a =
      record {
        middle = middle_on r.target.seg r.kept a.middle;
        drawn = drawn;
        told = so_on _ _ (between_on r.target.seg.name a.middle.net) r.round.answers a.told;
      }
    where
      drawn : (v generation : ℕ) → Once (has_drawn r.ask) (LacksIn r.target.seg.name v generation) (On run e)
          → Between g r.target.seg.name a.middle.net o v generation
      drawn v generation once = by once.1
        where
          by : LacksIn r.target.seg.name v generation o ⊎ Once (has_drawn r.ask) (LacksIn r.target.seg.name v generation) run
              → Between g r.target.seg.name a.middle.net o v generation
          by (inl now) = record { moment = o; first = On a.middle.later e; later = Begun; lacks = now }
          by (inr old) = between_on r.target.seg.name a.middle.net v generation (a.drawn v generation old)

  doubts_on : (ask : ℕ) (seg : SegRef) → Doubts g Was run ask seg → Doubts g Now (On run e) ask seg
  doubts_on ask seg d =
      record { bound = d.bound; torn = λ above. up seg (d.torn above); past = (let a = d.past in let b = grows.low in omega arith); heard = heard }
    where
      heard : (news : List SlotNews) (m : GroupMapState) → In (WelcomeSent o.inc ask news m) o.sent → d.bound ≤ least_horizon g.log.0 news
      heard news m fact = by (sent_then g n o grows (WelcomeSent o.inc ask news m) fact)
        where
          by : (In (HelloSent o.inc ask) n.sent × (least_horizon g.log.0 news ≡ n.low)) ⊎ In (WelcomeSent o.inc ask news m) n.sent
              → d.bound ≤ least_horizon g.log.0 news
          by (inl new) = let a = d.past in let b = new.1 in omega arith
          by (inr old) = d.heard news m (subst (λ inc. In (WelcomeSent inc ask news m) n.sent) boot old)

  round_on : (ask : ℕ) (r : ReadingState) (stage : rounds.Stage) → RoundKept g Was run ask r stage → RoundKept g Now (On run e) ask r stage
  round_on ask r stand.Asking k = asks_on r k
  round_on ask r stand.Between k = middle_on r.target.seg r.kept k
  round_on ask r stand.Doubted k = doubts_on ask r.target.seg k
  round_on ask r stand.Over k = tt

  pub reading_on : (ask : ℕ) (b : Backward) (r : ReadingState) → ReadingKept g Was run ask b r → ReadingKept g Now (On run e) ask b r
  reading_on ask b r k =
      record {
        of_log = k.of_log;
        next = k.next;
        servers = k.servers;
        parity = k.parity;
        single = k.single;
        asked = k.asked;
        stage = round_on ask r r.stage k.stage;
      }

  read_on : (ask : ℕ) (b : Backward) (r : Option ReadingState) → ReadKept g Was run ask b r → ReadKept g Now (On run e) ask b r
  read_on ask b None k = tt
  read_on ask b (Some r) k = reading_on ask b r k

  pub stage_on : (ask : ℕ) (stage : Stage) → StageKept g Was run ask stage → StageKept g Now (On run e) ask stage
  stage_on ask Hails k = tt
  stage_on ask (Gathers lists) k = tt
  stage_on ask (Asks lists) k = tt
  stage_on ask (Reads b r) k = read_on ask b r k
  stage_on ask Over k = tt

-- ---- what is said to be lost

-- the name is that of the segment that is read, and at some moment of this opening that was torn
pub record WasTorn (Was : SegRef → Type 0) (s : ScanState) (name : SegName) : Type 0 where
  pub segment : SegRef
  pub named : name ≡ segment.name
  pub is_read : IsRead s.stage segment
  pub once : Was segment
