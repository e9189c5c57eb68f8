-- What each change of the maps is for one slot.
use Rattle.std.proofs.Common.{◌≡◌, ◌≢◌, ◌⊎◌, inl, inr, ℕ, ◌+◌, ◌%◌, ◌<◌, ◌≤◌, Bool, true, false, cond, ◌&&◌, List, [], ◌∷◌, length, refl, sym, ap, ◌∙◌, subst, arith, nat_lt}
use Rattle.std.specs.Prelude.{◌==◌}
use Rattle.std.specs.Ordering.{nat_cmp, eq_by_cmp}
use Rattle.std.proofs.lemmas.Bool.Decides.{nat_tests}
use Rattle.std.proofs.lemmas.Map.Lookups.{exact_unsigned}
use Rattle.std.proofs.lemmas.Map.Views.{tells_apart}
use Rattle.std.proofs.Math.ListN.{length-set}
use Rattle.manager_map.specs.declared.entry.SlotEntry.{SlotEntry}
use Rattle.manager_map.specs.Slots.{entry_at, next_entry, manager_map_advance}
use Rattle.registry.specs.Board.{Made, inc_of, hears_manager, manager_restarted, manager_hello, can_move, moved}
use Rattle.registry.specs.BoardState.{BoardState}
use Rattle.registry.specs.declared.output.Out.TheVariants.{Changed}
use Rattle.registry.specs.Slots.{entry_of, can_rise}
use Rattle.xfs_base.proofs.Booleans.{by_test, and_first, and_second}
use Rattle.xfs_base.specs.Limits.{u32_end}
use Rattle.node_slots.specs.node_tie.RegistryEvents.{manager_in, inc_in, BoardSound, SlotGoes, BoardGoes}
use Rattle.headline.specs.Indexes.{epoch_in}
use Rattle.node_slots.proofs.node_tie.RegistrySlots.{set_other, set_same, next_epoch, raised_entry, raised_at, raised_long, all_can_rise, inc_put, inc_here}

-- an epoch goes up by one at most
raised_little : (manager : ℕ) (e : SlotEntry) → e.epoch < u32_end → (raised_entry manager e).epoch ≤ e.epoch + 1
unfolding raised_entry
raised_little manager e below = at (e.manager == manager)
  where
    at : (t : Bool) → (cond t (next_entry e manager) e).epoch ≤ e.epoch + 1
    at true = omega (arith, next_epoch e manager below)
    at false = omega arith

-- the entry of another manager's slot stays; that of this manager's slot has its next epoch
abbrev IsRaised : ℕ → SlotEntry → SlotEntry → Type 0
IsRaised manager e next = ((e.manager ≢ manager) × (next ≡ e)) ⊎ (next.epoch ≡ e.epoch + 1)

raised_so : (manager : ℕ) (e : SlotEntry) → e.epoch < u32_end → IsRaised manager e (raised_entry manager e)
unfolding raised_entry
raised_so manager e below = at (e.manager == manager) refl
  where
    at : (t : Bool) → (e.manager == manager) ≡ t → IsRaised manager e (cond t (next_entry e manager) e)
    at true same = inr (next_epoch e manager below)
    at false other = inl (grind (arith, nat_tests), refl)

module _ (part : ℕ) (Told : ℕ → ℕ → Type 0) (s : BoardState) (sound : BoardSound s) where
  -- slots and incarnations stay
  pub goes_with : (next : BoardState) → next.entries ≡ s.entries → next.incs ≡ s.incs → s.version ≤ next.version → BoardGoes part Told s next
  goes_with next entries incs version = record {
    sound = record {
      slots = ap (λ (es : List SlotEntry). length es) entries ∙ sound.slots;
      epochs = λ slot below. omega (arith, sound.epochs slot below, ap (λ (es : List SlotEntry). (entry_at es slot).epoch) entries);
    };
    slot = inl (ap (λ (es : List SlotEntry). (entry_of es part).epoch) entries, ap (λ (es : List SlotEntry). (entry_of es part).manager) entries);
    rises = λ manager. omega (arith, ap (λ (all : List (ℕ × ℕ)). inc_of all manager) incs);
    keeps = λ manager same its. ap (λ (all : List (ℕ × ℕ)). inc_of all manager) incs;
    heard = λ manager. inl (omega (arith, ap (λ (all : List (ℕ × ℕ)). inc_of all manager) incs));
    version = version;
  }

  pub goes_still : BoardGoes part Told s s
  goes_still = goes_with s refl refl (omega arith)

  within : part % 8 < 8
  within = omega arith

  -- no epoch is the last where the version isn't
  low_epochs : s.version < u32_end → (slot : ℕ) → slot < 8 → (entry_at s.entries slot).epoch < u32_end
  low_epochs low slot below = omega (arith, sound.epochs slot below)

  -- ---- a manager that has restarted

  module _ (low : s.version < u32_end) (m inc : ℕ) (told : Told m inc) (newer : inc_of s.incs m < inc) where
    abbrev restarted : BoardState
    restarted = manager_restarted s m inc

    entry_now : (slot : ℕ) → slot < 8 → entry_at restarted.entries slot ≡ raised_entry m (entry_at s.entries slot)
    entry_now slot below = raised_at m s.entries slot below sound.slots

    abbrev IncNow : ℕ → Type 0
    IncNow q = ((q ≡ m) × (inc_in restarted q ≡ inc)) ⊎ (inc_in restarted q ≡ inc_in s q)

    inc_now : (q : ℕ) → IncNow q
    inc_now q = at (eq_by_cmp nat_cmp q m) refl
      where
        at : (t : Bool) → eq_by_cmp nat_cmp q m ≡ t → IncNow q
        at true same = inl (tells_apart exact_unsigned q m same, inc_put s.incs m inc q ∙ ap (λ (t : Bool). cond t inc (inc_of s.incs q)) same)
        at false other = inr (inc_put s.incs m inc q ∙ ap (λ (t : Bool). cond t inc (inc_of s.incs q)) other)

    abbrev RaisedAt : Type 0
    RaisedAt = IsRaised m (entry_of s.entries part) (raised_entry m (entry_of s.entries part))

    slot_raised : RaisedAt → SlotGoes part s restarted
    slot_raised (inl other) =
        let same : entry_of restarted.entries part ≡ entry_of s.entries part = entry_now (part % 8) within ∙ other.1 in
        inl (ap (λ (e : SlotEntry). e.epoch) same, ap (λ (e : SlotEntry). e.manager) same)
    slot_raised (inr its) = inr (ap (λ (e : SlotEntry). e.epoch) (entry_now (part % 8) within) ∙ its)

    inc_rises : (q : ℕ) → IncNow q → inc_in s q ≤ inc_in restarted q
    inc_rises q (inl here) = omega (arith, newer, here.1, ap (λ (j : ℕ). inc_of s.incs j) here.0)
    inc_rises q (inr there) = omega (arith, there)

    inc_keeps : (q : ℕ) → RaisedAt → IncNow q
        → epoch_in restarted part ≡ epoch_in s part → manager_in s part ≡ q → inc_in restarted q ≡ inc_in s q
    inc_keeps q (inl other) (inl here) same its = absurd (other.0 (its ∙ here.0))
    inc_keeps q (inr its_own) (inl here) same its =
        let up : epoch_in restarted part ≡ epoch_in s part + 1 = ap (λ (e : SlotEntry). e.epoch) (entry_now (part % 8) within) ∙ its_own in
        absurd (omega arith)
    inc_keeps q at (inr there) same its = there

    inc_heard : (q : ℕ) → IncNow q → (inc_in restarted q ≤ inc_in s q) ⊎ Told q (inc_in restarted q)
    inc_heard q (inl here) = inr (subst (λ (j : ℕ). Told j (inc_in restarted q)) (sym here.0) (subst (λ (i : ℕ). Told m i) (sym here.1) told))
    inc_heard q (inr there) = inl (omega (arith, there))

    little : (slot : ℕ) → slot < 8 → (raised_entry m (entry_at s.entries slot)).epoch ≤ (entry_at s.entries slot).epoch + 1
    little slot below = raised_little m (entry_at s.entries slot) (low_epochs low slot below)

    goes_restarted : BoardGoes part Told s restarted
    goes_restarted = record {
      sound = record {
        slots = raised_long m s.entries ∙ sound.slots;
        epochs = λ slot below. omega (arith, sound.epochs slot below, little slot below, ap (λ (e : SlotEntry). e.epoch) (entry_now slot below));
      };
      slot = slot_raised (raised_so m (entry_of s.entries part) (low_epochs low (part % 8) within));
      rises = λ q. inc_rises q (inc_now q);
      keeps = λ q. inc_keeps q (raised_so m (entry_of s.entries part) (low_epochs low (part % 8) within)) (inc_now q);
      heard = λ q. inc_heard q (inc_now q);
      version = omega arith;
    }

  hears_newer : (m inc : ℕ) → hears_manager s m inc ≡ true → inc_of s.incs m < inc
  hears_newer m inc hears = less (and_first (nat_lt (inc_of s.incs m) inc) (can_rise m s.entries) (and_second (nat_lt s.version u32_end) _ hears))
    where
      less : nat_lt (inc_of s.incs m) inc ≡ true → inc_of s.incs m < inc
      less newer = grind (arith, nat_tests)

  hears_low : (m inc : ℕ) → hears_manager s m inc ≡ true → s.version < u32_end
  hears_low m inc hears = let room : nat_lt s.version u32_end ≡ true = and_first (nat_lt s.version u32_end) _ hears in grind (arith, nat_tests)

  pub goes_manager : (m inc : ℕ) → Told m inc → hears_manager s m inc ≡ true → BoardGoes part Told s (manager_restarted s m inc)
  goes_manager m inc told hears = goes_restarted (hears_low m inc hears) m inc told (hears_newer m inc hears)

  -- the incarnation that is kept then is no lower than the one that was told of
  pub manager_heard : s.version < u32_end → (m inc : ℕ) → inc ≤ inc_in (manager_hello s m inc).state m
  unfolding manager_hello
  manager_heard low m inc =
      by_test (λ (made : Made). inc ≤ inc_in made.state m) (hears_manager s m inc) (record { state = manager_restarted s m inc; outs = Changed ∷ [] })
      (record { state = s; outs = [] })
      (λ hears. omega (arith, inc_here s.incs m inc)) (λ deaf. not_newer (nat_lt (inc_of s.incs m) inc) refl deaf)
    where
      room : nat_lt s.version u32_end ≡ true
      room = grind (arith, nat_tests)

      rise : can_rise m s.entries ≡ true
      rise = all_can_rise m s.entries (low_epochs low)

      hears_then : nat_lt (inc_of s.incs m) inc ≡ true → hears_manager s m inc ≡ true
      hears_then newer =
          ap (λ (t : Bool). t && (nat_lt (inc_of s.incs m) inc && can_rise m s.entries)) room
          ∙ ap (λ (t : Bool). t && can_rise m s.entries) newer ∙ rise

      not_newer : (t : Bool) → nat_lt (inc_of s.incs m) inc ≡ t → hears_manager s m inc ≡ false → inc ≤ inc_of s.incs m
      not_newer true newer deaf = absurd (differ (sym (hears_then newer) ∙ deaf))
        where
          differ : true ≡ false → ⊥
          differ h = cc
      not_newer false older deaf = grind (arith, nat_tests)

  -- ---- a slot that is given to a manager

  module _ (low : s.version < u32_end) (at m : ℕ) (there : at < 8) where
    moved_here : entry_at (manager_map_advance s.entries at m) at ≡ next_entry (entry_at s.entries at) m
    moved_here = set_same s.entries at (next_entry (entry_at s.entries at) m) (omega (arith, sound.slots))

    moved_other : (slot : ℕ) → at ≢ slot → entry_at (manager_map_advance s.entries at m) slot ≡ entry_at s.entries slot
    moved_other slot apart = set_other s.entries at slot (next_entry (entry_at s.entries at) m) apart

    -- the slot that is given has its next epoch
    moved_up : (slot : ℕ) → at ≡ slot → (entry_at (manager_map_advance s.entries at m) slot).epoch ≡ (entry_at s.entries slot).epoch + 1
    moved_up slot fact =
        subst (λ (q : ℕ). (entry_at (manager_map_advance s.entries at m) q).epoch ≡ (entry_at s.entries q).epoch + 1) fact
        (ap (λ (e : SlotEntry). e.epoch) moved_here ∙ next_epoch (entry_at s.entries at) m (low_epochs low at there))

    move_little : (slot : ℕ) → slot < 8 → (entry_at (manager_map_advance s.entries at m) slot).epoch ≤ (entry_at s.entries slot).epoch + 1
    move_little slot below = by_place (at == slot) refl
      where
        by_place : (t : Bool) → (at == slot) ≡ t → (entry_at (manager_map_advance s.entries at m) slot).epoch ≤ (entry_at s.entries slot).epoch + 1
        by_place true same = omega (arith, moved_up slot (grind (arith, nat_tests)))
        by_place false other = omega (arith, ap (λ (e : SlotEntry). e.epoch) (moved_other slot (grind (arith, nat_tests))))

    slot_moved : SlotGoes part s (moved s at m)
    slot_moved = by_place (at == part % 8) refl
      where
        by_place : (t : Bool) → (at == part % 8) ≡ t → SlotGoes part s (moved s at m)
        by_place true same = inr (moved_up (part % 8) (grind (arith, nat_tests)))
        by_place false other =
            let same : entry_at (manager_map_advance s.entries at m) (part % 8) ≡ entry_at s.entries (part % 8) = moved_other (part % 8) (grind (arith, nat_tests)) in
            inl (ap (λ (e : SlotEntry). e.epoch) same, ap (λ (e : SlotEntry). e.manager) same)

    goes_moved : BoardGoes part Told s (moved s at m)
    goes_moved = record {
      sound = record {
        slots = length-set s.entries at (next_entry (entry_at s.entries at) m) ∙ sound.slots;
        epochs = λ slot below. omega (arith, sound.epochs slot below, move_little slot below);
      };
      slot = slot_moved;
      rises = λ q. omega arith;
      keeps = λ q same its. refl;
      heard = λ q. inl (omega arith);
      version = omega arith;
    }

  pub goes_reassigned : (slot m : ℕ) → can_move s slot ≡ true → BoardGoes part Told s (moved s slot m)
  goes_reassigned slot m can =
      let there : nat_lt slot 8 ≡ true = and_first (nat_lt slot 8) _ can in
      let low : nat_lt s.version u32_end ≡ true =
      and_first (nat_lt s.version u32_end) _ (and_second (nat_lt slot 8) (nat_lt s.version u32_end && nat_lt (entry_of s.entries slot).epoch u32_end) can) in
      goes_moved (grind (arith, nat_tests)) slot m (grind (arith, nat_tests))
