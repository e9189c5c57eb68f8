-- The owner of a log falls: nothing that was sent, filed or dropped in its small world is gone.
use Rattle.std.proofs.Common.{◌≡◌, refl}
use Rattle.log_tie.specs.Setting.{Setting}
use Rattle.log_law.specs.Net.{Net}
use Rattle.log_law.specs.Net.Owner.{Down}
use Rattle.log_law.specs.Events.{Happens}
use Rattle.log_law.specs.Events.Happens.{Crashes}

module _ (g : Setting) where
  pub record Fall (n : Net) : Type 0 where
    pub net : Net
    pub happens : Happens g n net
    pub down : net.owner ≡ Down
    pub inc : net.inc ≡ n.inc
    pub sent : net.sent ≡ n.sent
    pub filed : net.filed ≡ n.filed
    pub dropped : net.dropped ≡ n.dropped
    pub shelves : net.shelves ≡ n.shelves
    pub registry : net.registry ≡ n.registry
    pub low : net.low ≡ n.low
    pub flown : net.flown ≡ n.flown

  pub fall_of : (n : Net) → Fall n
  fall_of n = record {
    net = _;
    happens = Crashes;
    down = refl;
    inc = refl;
    sent = refl;
    filed = refl;
    dropped = refl;
    shelves = refl;
    registry = refl;
    low = refl;
    flown = refl;
  }
