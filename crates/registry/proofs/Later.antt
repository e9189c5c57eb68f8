-- Each input leaves a state that may follow the one before.
use Rattle.std.proofs.Common.{◌≡◌, ℕ, zero, suc, ◌+◌, ◌-◌, ◌<◌, ◌≤◌, Bool, true, false, cond, ◌&&◌, ◌||◌, List, [], ◌∷◌, refl, sym, ap, ◌∙◌, subst, unwrap_or, Some, arith}
use Rattle.std.specs.Prelude.{slice_index, slice_set, nat_le, nat_lt, ◌==◌, length}
use Rattle.std.specs.List.{fold, list_all, range_with_len}
use Rattle.std.specs.Ordering.{nat_cmp, eq_by_cmp}
use Rattle.std.specs.Map.{lookup}
use Rattle.std.specs.BTreeMap.{is_at, insert_entry}
use Rattle.std.proofs.lemmas.Bool.Decides.{nat_tests}
use Rattle.std.proofs.lemmas.Cmp.{nat_cmp_total}
use Rattle.std.proofs.lemmas.Map.Lookups.{exact_unsigned}
use Rattle.std.proofs.lemmas.Map.Views.{tells_apart}
use Rattle.xfs_base.specs.declared.node.NodeId.TheVariants.{Client, Manager, Server, Cleaner, Registry}
use Rattle.xfs_base.specs.declared.segment.SegRef.{SegRef}
use Rattle.xfs_base.proofs.BlockOrder.{lookup-insert_entry}
use Rattle.xfs_base.proofs.Booleans.{by_test, and_first, and_second, contrary}
use Rattle.xfs_base.proofs.StepLoops.{steps_keep}
use Rattle.xfs_base.specs.Limits.{u32_end, block_logs}
use Rattle.group_map.specs.GroupMapState.{GroupMapState}
use Rattle.group_map.specs.Groups.{generation_at}
use Rattle.manager_map.specs.declared.entry.SlotEntry.{SlotEntry}
use Rattle.manager_map.specs.Slots.{manager_map_advance}
use Rattle.manager_map.specs.Moves.{Move}
use Rattle.manager_map.proofs.Epochs.{moves_follow}
use Rattle.registry.specs.declared.checkpoint.Checkpoint.{Checkpoint}
use Rattle.registry.specs.declared.input.In.{In}
use Rattle.registry.specs.declared.input.In.TheVariants.{Hello, Reassign, Done}
use Rattle.registry.specs.BoardState.{BoardState}
use Rattle.registry.specs.Board.{Made, transition, inc_of, has_room, may_lose, hears_manager, manager_restarted, manager_hello, hears_server, server_lost, server_hello, can_move, moved, reassign, is_kept, checkpointed, keep, done}
use Rattle.registry.specs.Checkpoints.{no_lower, covers_kept, horizon_at, places}
use Rattle.registry.specs.Slots.{all_slots, entry_of, raise_one, can_rise}
use Rattle.registry.specs.Laws.{after_all, AreLater, IsLater}

-- ---- slots

are_itself : (es : List SlotEntry) → AreLater es es
are_itself es = record { epochs = λ slot. omega arith; one_manager = λ slot same. refl }

are_both : (a b c : List SlotEntry) → AreLater a b → AreLater b c → AreLater a c
are_both a b c ab bc = record {
  epochs = λ slot. omega (arith, ab.epochs slot, bc.epochs slot);
  one_manager =
      λ slot same. bc.one_manager slot (omega (arith, ab.epochs slot, bc.epochs slot)) ∙ ab.one_manager slot (omega (arith, ab.epochs slot, bc.epochs slot));
}

are_moved : (es : List SlotEntry) (slot manager : ℕ) → AreLater es (manager_map_advance es slot manager)
are_moved es slot manager =
    let move : Move = record { slot = slot; manager = manager } in
    record {
      epochs = λ s. (moves_follow es (move ∷ []) s).never_below;
      one_manager = λ s. (moves_follow es (move ∷ []) s).same_manager;
    }

are_raised_one : (manager : ℕ) (es : List SlotEntry) (slot : ℕ) → AreLater es (raise_one manager es slot)
unfolding raise_one
are_raised_one manager es slot =
    by_test (AreLater es) ((entry_of es slot).manager == manager) (cond (nat_lt 7 slot) es (manager_map_advance es slot manager)) es
    (λ _. by_test (AreLater es) (nat_lt 7 slot) es (manager_map_advance es slot manager) (λ _. are_itself es) (λ _. are_moved es slot manager))
    (λ _. are_itself es)

are_raised : (manager : ℕ) (es : List SlotEntry) (slots : List ℕ) → AreLater es (fold (raise_one manager) es slots)
are_raised manager es [] = are_itself es
are_raised manager es (slot ∷ slots) =
    are_both es (raise_one manager es slot) (fold (raise_one manager) (raise_one manager es slot) slots) (are_raised_one manager es slot)
    (are_raised manager (raise_one manager es slot) slots)

-- ---- horizons

place_step : (p : ℕ → Bool) (from k : ℕ) → p from ≡ true → from ≤ k → (from + 1 ≤ k → p k ≡ true) → p k ≡ true
place_step p from k here low later = at (from == k) refl
  where
    at : (t : Bool) → (from == k) ≡ t → p k ≡ true
    at true same = let fact : from ≡ k = grind (arith, nat_tests) in ap p (sym fact) ∙ here
    at false other = later (grind (arith, nat_tests))

all_places : (p : ℕ → Bool) (from n k : ℕ) → list_all p (range_with_len from n) ≡ true → from ≤ k → k < from + n → p k ≡ true
all_places p from zero k all low high = absurd (omega arith)
all_places p from (suc n) k all low high =
    let below : k < (from + 1) + n = omega arith in
    place_step p from k (and_first (p from) (list_all p (range_with_len (from + 1) n)) all) low
    (λ next. all_places p (from + 1) n k (and_second (p from) (list_all p (range_with_len (from + 1) n)) all) next below)

lower_numbers : (kept horizon : List ℕ) → no_lower kept horizon ≡ true → (log : ℕ) → log < block_logs → slice_index kept log ≤ slice_index horizon log
lower_numbers kept horizon h log below =
    let all : list_all (λ place. nat_le (slice_index kept place) (slice_index horizon place)) (range_with_len 0 block_logs) ≡ true =
    and_second (length horizon == block_logs) (list_all (λ place. nat_le (slice_index kept place) (slice_index horizon place)) places) h
    in
    let here : nat_le (slice_index kept log) (slice_index horizon log) ≡ true =
    all_places (λ place. nat_le (slice_index kept place) (slice_index horizon place)) 0 9 log all (omega arith) (omega arith) in
    grind (arith, nat_tests)

set_horizon : (cs : List Checkpoint) (at slot log : ℕ) (c : Checkpoint) → slice_index (horizon_at cs at) log ≤ slice_index c.horizon log
    → slice_index (horizon_at cs slot) log ≤ slice_index (horizon_at (slice_set cs at c) slot) log
set_horizon [] at slot log c h = omega arith
set_horizon (x ∷ xs) zero zero log c h = h
set_horizon (x ∷ xs) zero (suc slot) log c h = omega arith
set_horizon (x ∷ xs) (suc at) zero log c h = omega arith
set_horizon (x ∷ xs) (suc at) (suc slot) log c h = set_horizon xs at slot log c h

kept_horizon : (cs : List Checkpoint) (slot : ℕ) (horizon : List ℕ) → covers_kept cs slot horizon ≡ true → (log : ℕ) → log < block_logs
    → slice_index (horizon_at cs slot) log ≤ slice_index horizon log
kept_horizon [] slot horizon h = contrary h
kept_horizon (c ∷ cs) zero horizon h = lower_numbers c.horizon horizon h
kept_horizon (c ∷ cs) (suc slot) horizon h = kept_horizon cs slot horizon h

-- ---- incarnations and generations

inc_put : (incs : List (ℕ × ℕ)) (manager inc q : ℕ) → inc_of (insert_entry nat_cmp incs manager inc) q ≡ cond (eq_by_cmp nat_cmp q manager) inc (inc_of incs q)
inc_put incs manager inc q =
    ap (λ o. unwrap_or o 1) (lookup-insert_entry nat_cmp_total q manager inc incs) ∙ at (eq_by_cmp nat_cmp q manager)
  where
    at : (t : Bool) → unwrap_or (cond t (Some inc) (lookup (is_at (nat_cmp q)) incs)) 1 ≡ cond t inc (inc_of incs q)
    at true = refl
    at false = refl

inc_rises : (incs : List (ℕ × ℕ)) (manager inc q : ℕ) → nat_lt (inc_of incs manager) inc ≡ true
    → inc_of incs q ≤ inc_of (insert_entry nat_cmp incs manager inc) q
inc_rises incs manager inc q newer =
    subst (λ n. inc_of incs q ≤ n) (sym (inc_put incs manager inc q)) (at (eq_by_cmp nat_cmp q manager) refl)
  where
    less : inc_of incs manager < inc
    less = grind (arith, nat_tests)

    at : (t : Bool) → eq_by_cmp nat_cmp q manager ≡ t → inc_of incs q ≤ cond t inc (inc_of incs q)
    at true same =
        let fact : q ≡ manager = tells_apart exact_unsigned q manager same in
        let here : inc_of incs q ≡ inc_of incs manager = ap (inc_of incs) fact in
        omega (arith, less)
    at false other = omega arith

generation_rises : (gs : List ℕ) (i j n : ℕ) → slice_index gs i < n → slice_index gs j ≤ slice_index (slice_set gs i n) j
generation_rises [] i j n l = omega arith
generation_rises (g ∷ gs) zero zero n l = omega arith
generation_rises (g ∷ gs) zero (suc j) n l = omega arith
generation_rises (g ∷ gs) (suc i) zero n l = omega arith
generation_rises (g ∷ gs) (suc i) (suc j) n l = generation_rises gs i j n l

newer_generation : (groups : GroupMapState) (server generation : ℕ) → may_lose groups server generation ≡ true
    → generation_at groups.generations server < generation
newer_generation groups server generation h = at ((server == 0) || nat_lt groups.servers server) h
  where
    at : (t : Bool) → cond t false (nat_lt (generation_at groups.generations server) generation && has_room groups) ≡ true
        → generation_at groups.generations server < generation
    at true h = contrary h
    at false h =
        let less : nat_lt (generation_at groups.generations server) generation ≡ true = and_first _ (has_room groups) h in
        grind (arith, nat_tests)

-- ---- states

later_itself : (s : BoardState) → IsLater s s
later_itself s = record {
  version = omega arith;
  one_state = λ same. refl;
  slots = are_itself s.entries;
  horizons = λ slot log below. omega arith;
  incarnations = λ manager. omega arith;
  generations = λ server. omega arith;
}

later_both : (a b c : BoardState) → IsLater a b → IsLater b c → IsLater a c
later_both a b c ab bc = record {
  version = omega (arith, ab.version, bc.version);
  one_state = λ same. bc.one_state (omega (arith, ab.version, bc.version)) ∙ ab.one_state (omega (arith, ab.version, bc.version));
  slots = are_both a.entries b.entries c.entries ab.slots bc.slots;
  horizons = λ slot log below. omega (arith, ab.horizons slot log below, bc.horizons slot log below);
  incarnations = λ manager. omega (arith, ab.incarnations manager, bc.incarnations manager);
  generations = λ server. omega (arith, ab.generations server, bc.generations server);
}

later_restarted : (s : BoardState) (manager inc : ℕ) → hears_manager s manager inc ≡ true → IsLater s (manager_restarted s manager inc)
later_restarted s manager inc hears =
    let newer : nat_lt (inc_of s.incs manager) inc ≡ true =
    and_first (nat_lt (inc_of s.incs manager) inc) (can_rise manager s.entries) (and_second (nat_lt s.version u32_end) _ hears) in
    record {
      version = omega arith;
      one_state = λ same. absurd (omega arith);
      slots = are_raised manager s.entries all_slots;
      horizons = λ slot log below. omega arith;
      incarnations = λ q. inc_rises s.incs manager inc q newer;
      generations = λ server. omega arith;
    }

later_lost : (s : BoardState) (server generation : ℕ) → hears_server s server generation ≡ true → IsLater s (server_lost s server generation)
later_lost s server generation hears = record {
  version = omega arith;
  one_state = λ same. absurd (omega arith);
  slots = are_itself s.entries;
  horizons = λ slot log below. omega arith;
  incarnations = λ manager. omega arith;
  generations =
      λ q. generation_rises s.groups.generations (server - 1) (q - 1) generation
      (newer_generation s.groups server generation (and_second (nat_lt s.version u32_end) (may_lose s.groups server generation) hears));
}

later_moved : (s : BoardState) (slot manager : ℕ) → IsLater s (moved s slot manager)
later_moved s slot manager = record {
  version = omega arith;
  one_state = λ same. absurd (omega arith);
  slots = are_moved s.entries slot manager;
  horizons = λ slot log below. omega arith;
  incarnations = λ manager. omega arith;
  generations = λ server. omega arith;
}

later_checkpointed : (s : BoardState) (slot : ℕ) (parts : List SegRef) (horizon : List ℕ) → covers_kept s.checkpoints slot horizon ≡ true
    → IsLater s (checkpointed s slot parts horizon)
later_checkpointed s slot parts horizon covers = record {
  version = omega arith;
  one_state = λ same. absurd (omega arith);
  slots = are_itself s.entries;
  horizons = λ q log below. set_horizon s.checkpoints slot q log (record { parts = parts; horizon = horizon })
      (kept_horizon s.checkpoints slot horizon covers log below);
  incarnations = λ manager. omega arith;
  generations = λ server. omega arith;
}

-- ---- inputs

module _ (s : BoardState) where
  abbrev Leads : Made → Type 0
  Leads made = IsLater s made.state

  later_manager : (manager inc : ℕ) → Leads (manager_hello s manager inc)
  unfolding manager_hello
  later_manager manager inc =
      by_test Leads (hears_manager s manager inc) (record { state = manager_restarted s manager inc; outs = _ }) (record { state = s; outs = [] })
      (λ h. later_restarted s manager inc h) (λ _. later_itself s)

  later_server : (server generation : ℕ) → Leads (server_hello s server generation)
  unfolding server_hello
  later_server server generation =
      by_test Leads (hears_server s server generation) (record { state = server_lost s server generation; outs = _ }) (record { state = s; outs = [] })
      (λ h. later_lost s server generation h) (λ _. later_itself s)

  later_reassign : (slot manager : ℕ) → Leads (reassign s slot manager)
  unfolding reassign
  later_reassign slot manager =
      by_test Leads (can_move s slot) (record { state = moved s slot manager; outs = _ }) (record { state = s; outs = [] }) (λ _. later_moved s slot manager)
      (λ _. later_itself s)

  later_keep : (slot epoch : ℕ) (parts : List SegRef) (horizon : List ℕ) → covers_kept s.checkpoints slot horizon ≡ true
      → Leads (keep s slot epoch parts horizon)
  unfolding keep
  later_keep slot epoch parts horizon covers =
      by_test Leads (s.version == u32_end) (record { state = s; outs = [] }) (record { state = checkpointed s slot parts horizon; outs = _ })
      (λ _. later_itself s) (λ _. later_checkpointed s slot parts horizon covers)

  later_done : (slot epoch : ℕ) (parts : List SegRef) (horizon : List ℕ) → Leads (done s slot epoch parts horizon)
  unfolding done
  later_done slot epoch parts horizon =
      by_test Leads (nat_lt 7 slot) (record { state = s; outs = [] })
      (cond (is_kept s slot epoch horizon) (keep s slot epoch parts horizon) (record { state = s; outs = _ })) (λ _. later_itself s)
      (λ _. by_test Leads (is_kept s slot epoch horizon) (keep s slot epoch parts horizon) (record { state = s; outs = _ })
      (λ h. later_keep slot epoch parts horizon (and_second ((entry_of s.entries slot).epoch == epoch) (covers_kept s.checkpoints slot horizon) h))
      (λ _. later_itself s))

  later_step : (input : In) → Leads (transition s input)
  later_step (Hello (Client n) inc) = later_itself s
  later_step (Hello (Manager n) inc) = later_manager n inc
  later_step (Hello (Server n) inc) = later_server n inc
  later_step (Hello Cleaner inc) = later_itself s
  later_step (Hello Registry inc) = later_itself s
  later_step (Reassign slot manager) = later_reassign slot manager
  later_step (Done slot epoch parts horizon) = later_done slot epoch parts horizon

pub later_all : (s : BoardState) (inputs : List In) → IsLater s (after_all s inputs)
later_all s inputs = steps_keep transition (IsLater s) (λ t input h. later_both s t (transition t input).state h (later_step t input)) s inputs (later_itself s)
