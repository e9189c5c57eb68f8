-- At the start a client is seen in the small world.
use Rattle.std.proofs.Common.{◌≡◌, ◌≤◌, ℕ, Some, None, inl, refl}
use Rattle.std.proofs.lemmas.List.Elements.{All-get_or, All-replicate}
use Rattle.token_client.specs.declared.held.Giving.{Giving}
use Rattle.token_law.specs.Net.{opening}
use Rattle.xfs_base.proofs.Booleans.{contrary}
use Rattle.node_slots.specs.node_tie.ClientEvents.{ClientStarts}
use Rattle.node_slots.proofs.node_tie.SmallWorld.{premise}

none_given : (g : Giving) {A : Type 0} → None ≡ Some g → A
none_given g fact = absurd (cc)

pub client_starts : ClientStarts
client_starts logs part limit c small low setup works = record {
  agrees = record {
    up = refl;
    tokens = refl;
    number = refl;
    inc = refl;
    epochs = refl;
    giving = λ b g inside fact. none_given g fact;
    valued = λ b held. contrary held;
    logged = premise logs (record {
      seen = record { end = refl; flying = refl; flight = tt };
      said = refl;
      beyond = λ q past. refl;
      unsettled = record {
        waits_once = tt;
        flies_once = tt;
        waits_some = tt;
        flies_some = tt;
        each = λ b. record { newest = inl refl; unflown = inl refl; flown = inl refl; all = λ dirty. contrary dirty };
      };
    });
  };
  within = All-get_or (λ (k : ℕ). k ≤ limit) (opening.tokens c).epochs part 0 small (All-replicate (λ (k : ℕ). k ≤ limit) 8 1 low);
  promises = tt;
}
