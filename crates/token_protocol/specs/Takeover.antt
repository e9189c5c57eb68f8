-- A later manager: promises, reports, activation. As in the 1996 paper (on recovery) it learns what clients hold from the clients, and what is
-- filed from checkpoints and logs.
use Rattle.std.specs.Prelude.{◌≡◌, ℕ, ◌<◌, ◌≤◌, ◌∷◌, [], nat_lt, if◌then◌else◌}
use Rattle.token_protocol.specs.Basics.{put, In}
use Rattle.token_protocol.specs.Entry.{Entry}
use Rattle.token_protocol.specs.Packets.{Report}
use Rattle.token_protocol.specs.World.{World}

-- A serving client promises an epoch at least its own. Shown by the client's transitions for a Poll and for news of the map.
pub record MayPromise (w : World) (c : ℕ) (epoch : ℕ) : Type 0 where
  pub serving : (w.client c).serving ≡ 1
  pub higher : (w.client c).promised ≤ epoch

-- A fetch stops: the manager that offered its place speaks no more for this client.
abbrev pub promises : World → ℕ → ℕ → World
promises w c epoch = let x = w.client c in record w { client = put w.client c (record x { promised = epoch; fetching = 0 }) }

-- A serving client reports what it holds to the manager that it has promised to listen to. Shown by the client's transition for a Poll.
pub record MayReport (w : World) (c : ℕ) : Type 0 where
  pub serving : (w.client c).serving ≡ 1

abbrev pub reports : World → ℕ → ℕ → World
reports w c end =
    let x = w.client c in
    record w { reports = record { client = c; epoch = x.promised; mode = x.mode; end = end } ∷ w.reports }

-- A manager becomes active at an epoch above the reigning one, with a sent report of that epoch from every client.
-- Shown by the manager's activation: it counts the reports of all members of the map.
pub record MayActivate (w : World) (epoch : ℕ) (report : ℕ → Report) : Type 0 where
  pub later : w.epoch < epoch
  pub sent : (c : ℕ) → c < w.members → In (report c) w.reports
  pub sender : (c : ℕ) → c < w.members → (report c).client ≡ c
  pub asked : (c : ℕ) → c < w.members → (report c).epoch ≡ epoch

-- It believes the reports, awaits nothing, and starts with no packet of its epoch. Every client's stamp is now of an older epoch.
abbrev pub activates : World → ℕ → (ℕ → Report) → (ℕ → ℕ) → Entry → World
activates w epoch report applied e =
    record w {
      client = λ c. let x = w.client c in record x { stamp = 0 };
      epoch = epoch;
      belief = λ c. if nat_lt c w.members then (report c).mode else 0;
      awaited = λ c. 0;
      keep = λ c. 0;
      owed = λ c. 0;
      applied = applied;
      index = e;
      turn = 0;
      offers = [];
      recalls = [];
      gaves = [];
    }
