-- Before the first line all is drained: nothing is known, held, filed or applied.
use Rattle.std.proofs.Common.{◌≡◌, ◌≤◌, ℕ, zero, suc, true, false, cond, nat_lt, List, replicate, slice_index, refl, arith}
use Rattle.std.proofs.lemmas.Bool.{false≢true}
use Rattle.std.proofs.lemmas.List.Elements.{All-nil}
use Rattle.slot_beliefs.proofs.Counting.{nothing_counted}
use Rattle.token_client.specs.Held.{held_new}
use Rattle.version_model.specs.declared.work.Work.{Work}
use Rattle.xfs_base.specs.declared.node.NodeId.{NodeId}
use Rattle.xfs_base.specs.declared.setup.Setup.{Setup}
use Rattle.quiet_law.specs.Drained.{AreSquare, Drained, IsCalm, IsIdle, IsQuietBlock, IsShelved}
use Rattle.quiet_nodes.specs.Start.{first_part, first_slot, start_scene}
use Rattle.quiet_law.proofs.Ordered.{none_ordered}

all_zero : (n i : ℕ) → slice_index (replicate n 0) i ≡ 0
all_zero zero i = refl
all_zero (suc n) zero = refl
all_zero (suc n) (suc i) = all_zero n i

quiet : IsQuietBlock 0 held_new
quiet = record { want = refl; fetch = refl; giving = refl; owned = λ dirty. absurd (false≢true dirty); low = omega arith; settled_low = omega arith }

idle : IsIdle 0 first_part
idle = record {
  call = refl;
  item = refl;
  flight = refl;
  blocks = λ b. quiet;
  few = omega arith;
  waits = record { newest = tt; once = tt; all = λ b dirty. absurd (false≢true dirty) };
  fits = tt;
  filed = tt;
  acked = refl;
  asked_low = omega arith;
  req_low = omega arith;
  end_low = omega arith;
}

module _ (setup : Setup) (works : NodeId → List Work) where
  calm : IsCalm setup 0 first_slot
  calm = record {
    epoch = refl;
    jobs = refl;
    alone = λ b c d differs. omega arith;
    believed = All-nil (λ e. (1 ≤ e.0.client) × (e.0.client ≤ setup.clients));
    ordered = none_ordered;
    applied = refl;
    counted = nothing_counted;
    rows_low = omega arith;
    turn_low = omega arith;
    versions_low = λ b. omega arith;
  }

  square : (c i : ℕ) → AreSquare setup works c i first_part first_slot
  square c i = record {
    acked = elim (nat_lt i 8) as (λ t. cond t (slice_index (replicate 8 0) i) 0 ≡ 0) [ true ↦ all_zero 8 i | false ↦ refl ];
    applied = all_zero 9 _;
    below = λ b of_slot. (omega arith, omega arith);
    covered = λ b of_slot. omega arith;
  }

  pub start_is_drained : Drained setup works 0 start_scene
  start_is_drained = record {
    clients = λ c least most. idle;
    fed = λ c least most. refl;
    linked = λ c least most. refl;
    passes = λ c least most. ((omega arith, omega arith), omega arith);
    slots = λ i within. calm;
    square = λ c i least most within. square c i;
    legible = λ i within b of_slot. tt;
    shelved = λ v least most. All-nil (IsShelved setup works start_scene);
  }
