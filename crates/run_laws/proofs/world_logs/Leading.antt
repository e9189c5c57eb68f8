-- How the small world of a log leads on from one moment of a run to the next: by the owner where the event is its own, and else with the log left as it was.
use Rattle.node_logs.proofs.client_log_tie.Puts.{took_nothing}
use Rattle.node_logs.specs.client_log_tie.Puts.{PutsOwn}
use Rattle.node_logs.proofs.client_log_tie.Straight.{once_straight}
use Rattle.std.proofs.Common.{◌≡◌, ℕ, List, ap, refl}
use Rattle.node_logs.proofs.cleaner_log_tie.Frames.{still_grows}
use Rattle.node_logs.proofs.client_log_tie.Frames.{grown_still}
use Rattle.node_logs.specs.client_log_tie.Owner.{Scene}
use Rattle.log_law.specs.Events.{Runs}
use Rattle.log_law.specs.Events.Runs.{Begun}
use Rattle.log_law.specs.Laws.{Moment}
use Rattle.log_law.specs.Net.{Net, Owner}
use Rattle.log_tie.specs.Setting.{Setting}
use Rattle.segment_format.specs.declared.segment.Segment.{Segment}
use Rattle.run_laws.specs.world_logs.Lines.{GrowsBy, IsLeft, moment_then, PutsBy, StraightBy}
use Rattle.headline.specs.Logs.{Role, owner_by}
use Rattle.headline.specs.Logs.Role.{OfClient, OfCleaner, OfManager}
use Rattle.xfs_base.specs.declared.node.NodeId.{NodeId}
use Rattle.xfs_base.specs.declared.segment.SegName.{SegName}

-- what the owner alone changes
pub record Its : Type 0 where
  pub inc : ℕ
  pub owner : Owner
  pub filed : List SegName
  pub feed : List SegName
  pub flown : List Segment
  pub picked : ℕ

abbrev pub its_of : Net → Its
its_of n = record { inc = n.inc; owner = n.owner; filed = n.filed; feed = n.feed; flown = n.flown; picked = n.picked }

pub left_by : (n next : Net) → its_of next ≡ its_of n → IsLeft n next
left_by n next same = record {
  inc = ap (λ (x : Its). x.inc) same;
  owner = ap (λ (x : Its). x.owner) same;
  filed = ap (λ (x : Its). x.filed) same;
  feed = ap (λ (x : Its). x.feed) same;
  flown = ap (λ (x : Its). x.flown) same;
  picked = ap (λ (x : Its). x.picked) same;
}

pub grows_still : (g : Setting) (r : Role) (w : Scene) → GrowsBy g r w w
grows_still g (OfClient c) w = grown_still g w
grows_still g OfCleaner w = still_grows g w
grows_still g (OfManager j) w = grown_still g w

-- At an event of the node of this name the scene leads on to another: the run of the one goes on to that of the other, by the owner alone where the node is the
-- owner, and else with the log left as it was.
pub record LeadsOn (g : Setting) (r : Role) (name : NodeId) (w : Scene) (at : Moment g w.net) (v : Scene) (later : Moment g v.net) : Type 0 where
  pub runs : Runs g w.net v.net
  pub joined : later ≡ moment_then at runs
  pub own : owner_by r ≡ name → GrowsBy g r w v
  pub straight : owner_by r ≡ name → StraightBy r runs
  pub puts : owner_by r ≡ name → PutsBy r w.net v.net
  pub left : (owner_by r ≡ name → ⊥) → IsLeft w.net v.net

still_straight : (g : Setting) (r : Role) (n : Net) → StraightBy {g = g} {n = n} {next = n} r Begun
still_straight g (OfClient c) n = once_straight g n n Begun tt
still_straight g OfCleaner n = once_straight g n n Begun tt
still_straight g (OfManager j) n = tt

still_puts : (r : Role) (n : Net) → PutsBy r n n
still_puts (OfClient c) n = λ s owns serves. took_nothing PutsOwn n s owns
still_puts OfCleaner n = tt
still_puts (OfManager j) n = tt

-- where nothing happens
pub stands_still : (g : Setting) (r : Role) (name : NodeId) (w : Scene) (at : Moment g w.net) → LeadsOn g r name w at w at
stands_still g r name w at =
    record {
      runs = Begun;
      joined = refl;
      own = λ e. grows_still g r w;
      straight = λ e. still_straight g r w.net;
      puts = λ e. still_puts r w.net;
      left = λ away. left_by w.net w.net refl;
    }
