-- Taking an offer.
use Rattle.std.specs.Prelude.{◌≡◌, ℕ, suc, ◌<◌}
use Rattle.token_protocol.specs.Basics.{put, In}
use Rattle.token_protocol.specs.Packets.{Offer}
use Rattle.token_protocol.specs.World.{World, Live}

-- The client takes a sent offer of this mode that is still live. Shown by the client's transitions for a Grant and for a Supply, by their tests.
pub record MayTake (w : World) (g : Offer) (mode : ℕ) : Type 0 where
  pub sent : In g w.offers
  pub live : Live w g
  pub of_mode : g.mode ≡ mode

-- Offered to own: the client writes at once, in the same event. It never owns without having written, so an owner's value is its own.
abbrev pub writes_first : World → Offer → ℕ → World
writes_first w g value =
    let x = w.client g.client in
    record w {
      client = put w.client g.client (record x {
        mode = 2;
        stamp = g.stamp;
        want = 0;
        version = suc g.entry.version;
        value = value;
        settled = g.entry.version;
        fetching = 0;
      });
      newest = suc w.newest;
      value_at = put w.value_at (suc w.newest) value;
      writer = put w.writer (suc w.newest) g.client;
      last_writer = g.client;
    }

-- Offered to own: the write is refused (its text had changed), and the client holds nothing.
abbrev pub declines : World → Offer → World
declines w g =
    let x = w.client g.client in
    record w {
      client = put w.client g.client
          (record x { mode = 0; stamp = g.stamp; want = 0; version = g.entry.version; settled = g.entry.version; fetching = 0 });
    }

-- Offered a copy whose value is known now: the client holds it.
abbrev pub takes_value : World → Offer → ℕ → World
takes_value w g value =
    let x = w.client g.client in
    record w {
      client = put w.client g.client (record x {
        mode = 1;
        stamp = g.stamp;
        want = 0;
        version = g.entry.version;
        value = value;
        settled = g.entry.version;
        fetching = 0;
      });
    }

-- The entry has no place: that version is absent. Shown by the client's transition for a Grant without a place.
pub record IsAbsent (g : Offer) : Type 0 where
  pub unplaced : g.entry.placed ≡ 0

-- The entry has a place. Shown by the client's transition for a Grant with one.
pub record IsPlaced (g : Offer) : Type 0 where
  pub placed : 0 < g.entry.placed

-- Offered a copy with a place: the client reads the place, and holds nothing until it has.
abbrev pub takes_place : World → Offer → World
takes_place w g =
    let x = w.client g.client in
    record w { client = put w.client g.client (record x { mode = 0; stamp = g.stamp; want = 0; fetching = 1; fetch = g.entry }) }

-- A read of the place ends while the client still fetches. Shown by the client's transition for a round that ends.
pub record MayFinish (w : World) (c : ℕ) : Type 0 where
  pub fetching : (w.client c).fetching ≡ 1

abbrev pub fetches : World → ℕ → ℕ → World
fetches w c value =
    let x = w.client c in
    record w { client = put w.client c (record x { mode = 1; version = x.fetch.version; value = value; settled = x.fetch.version; fetching = 0 }) }
