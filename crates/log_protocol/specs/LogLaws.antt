-- What is proved of one log at every moment of every run.
use Rattle.std.specs.Prelude.{◌≡◌, ℕ, suc, ◌<◌, ◌≤◌, ◌⊎◌}
use Rattle.log_protocol.specs.Phase
use Rattle.log_protocol.specs.Tables.{In}
use Rattle.log_protocol.specs.Packets.{StorePacket, FragmentPacket}
use Rattle.log_protocol.specs.State.{State, Names, new_log}
use Rattle.log_protocol.specs.OpeningSteps.{ReadBack}
use Rattle.log_protocol.specs.Step.{Steps}

-- a state that some run from a new log reaches, for some number of servers and some way of naming
pub record Reached (w : State) : Type 0 where
  pub names : Names w.seq_of w.incarnation_of w.attempt_of
  pub run : Steps (new_log w.servers w.seq_of w.incarnation_of w.attempt_of) w

-- Logs whole: each member of a filed segment that isn't dropped holds its fragment, at its index, or its server is of a later generation.
abbrev pub LogsWhole : State → Type 0
LogsWhole w =
    (x i : ℕ) → w.filed x ≡ 1 → w.dropped x ≡ 0 → i < w.member_count x
    → ((w.holds (w.member_server x i) x ≡ 1) × (w.kept_index (w.member_server x i) x ≡ i)) ⊎ (w.member_generation x i < w.generation (w.member_server x i))

-- One name, one text: what a server holds of a name, and what a Store or a Fragment brings of it, is of the text that was booked.
pub record OneText (w : State) : Type 0 where
  pub held : (v x : ℕ) → w.holds v x ≡ 1 → w.kept_text v x ≡ w.text_of x
  pub stored : (p : StorePacket) → In p w.stores → p.text ≡ w.text_of p.name
  pub told : (p : FragmentPacket) → In p w.fragments → p.text ≡ w.text_of p.name

-- One line of segments: no two filed ones have one seq, each seq up to the head has one, and above the least horizon each has the one before as its prior.
pub record OneLine (w : State) : Type 0 where
  pub no_two : (x y : ℕ) → w.filed x ≡ 1 → w.filed y ≡ 1 → w.seq_of x ≡ w.seq_of y → x ≡ y
  pub no_gap : (q : ℕ) → 0 < q → q ≤ w.head → (x : ℕ) × (w.filed x ≡ 1) × (w.seq_of x ≡ q)
  pub linked : (x y : ℕ) → w.filed x ≡ 1 → w.filed y ≡ 1 → suc (w.seq_of y) ≡ w.seq_of x → w.low < w.seq_of x → w.prior_of x ≡ y

-- a segment x of seq q is what was in flight: it is the one after the head, a name of the last boot that served, and tells what that boot's attempts there told
pub record InFlightThen (w : State) (x q : ℕ) : Type 0 where
  pub next : q ≡ suc w.head
  pub boot : w.incarnation_of x ≡ w.served
  pub content : w.content_of x ≡ w.content_at (suc w.head) w.served

-- What a reopening adopts: of what it reads back beyond the head, only what the last boot that served had in flight tells anything.
abbrev pub AdoptsOne : State → Type 0
AdoptsOne w =
    (path : ℕ → ℕ) (lowest q : ℕ) → w.phase ≡ Phase.writing → ReadBack w path lowest → w.head < q → q < w.opening_seq → 0 < w.content_of (path q)
    → InFlightThen w (path q) q

-- What the feed tells: a serving owner's feed begins no later than the least horizon, and from there to the head it has the filed segments.
pub record FeedWhole (w : State) : Type 0 where
  pub covered : w.feed_base < w.low
  pub filed : (q : ℕ) → w.feed_base < q → q ≤ w.head → (w.filed (w.feed q) ≡ 1) × (w.seq_of (w.feed q) ≡ q)
