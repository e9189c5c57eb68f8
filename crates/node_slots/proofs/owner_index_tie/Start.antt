-- A client at the start of a run is seen in the opening of the small world, and stays seen while nothing is filed of its log.
use Rattle.std.proofs.Common.{ℕ, [], refl, sym, arith}
use Rattle.client_node.specs.declared.phase.Phase.{Phase}
use Rattle.client_node.specs.declared.phase.Phase.TheVariants.{Down, Opening, Serving as Serves}
use Rattle.headline.specs.Filed.{Texts, rows_at}
use Rattle.index_tie.specs.Net.{Net, opening}
use Rattle.node_slots.specs.node_index_tie.Sight.{RowsFit}
use Rattle.node_slots.proofs.node_index_tie.Moves.{some_none}
use Rattle.segment_format.specs.declared.segment.Segment.{Segment}
use Rattle.node_slots.specs.owner_index_tie.ClientEvents.{RestingSeen, ClientAgrees, FirstClientAgrees, ClientsStay}
use Rattle.node_slots.specs.owner_index_tie.Filing.{IsSameLog}
use Rattle.node_slots.proofs.owner_index_tie.Feeds.{by_filed, same_fits, same_owner}
use Rattle.node_slots.proofs.owner_index_tie.Turns.{none_next}

pub nothing_fits : (any : ℕ → ℕ → Segment) (l q : ℕ) → RowsFit (rows_at (opening any).filed l q)
nothing_fits any l q = by_filed RowsFit (opening any).filed l q (λ some limit. absurd (omega arith)) tt

pub first_client_agrees : FirstClientAgrees
first_client_agrees part texts any c setup works = (
  record {
    number_is = refl;
    log = none_next c _ refl refl;
    end = record { seq = refl; pass = λ some. absurd (omega arith) };
    feed = record {
      base = 0;
      inputs = [];
      feed_is = refl;
      fed = record { known = omega arith; end = refl; each = refl };
      fit = nothing_fits any c;
      short = omega arith;
    };
  },
  λ f fact. absurd (some_none f (sym fact)),
)

module _ (part : ℕ) (texts : Texts) (n m : Net) (c : ℕ) (same : IsSameLog c n.filed m.filed) where
  same_resting : (number : ℕ) → RestingSeen part texts n c number → RestingSeen part texts m c number
  same_resting number h = record { number_is = h.number_is; fits = same_fits part n m c same h.fits }

  pub same_client : (p : Phase) → ClientAgrees part texts n c p → ClientAgrees part texts m c p
  same_client (Down l) h = same_resting l.number h
  same_client (Opening l o) h = (same_resting l.number h.0, h.1)
  same_client (Serves s) h = (same_owner part n m c s.lasting.number s.log s.feed same h.0, h.1)

pub clients_stay : ClientsStay
clients_stay part texts n m c p same h = same_client part texts n m c same p h
