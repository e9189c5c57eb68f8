use Rattle.std.proofs.Common.{◌≡◌, [], ◌+◌, All, ℕ, length, Some}
use Rattle.std.specs.Prelude.{slice_get}
use Rattle.live_run.specs.Live.{IsFront}
use Rattle.live_run.proofs.cells.first_cells.Given as goal

-- those that are left stand where they stood; to those that were made nothing happened, and they stand at the places behind, the last at the first
abbrev pub invariant-loop : goal.invariant-loop
invariant-loop g l = record {
  outs : IsFront l.outs.items l.fn.outs.items;
  ins : IsFront l.ins.items l.fn.ins.items;
  count : length l.outs.items ≡ length l.ins.items;
  made : length l.cells.items ≡ l.counter;
  left : length l.outs.items + l.counter ≡ l.fn.count;
  fresh : All (λ c. c.journal.moments ≡ []) l.cells.items;
  each : (k : ℕ) (c : _) → slice_get l.cells.items k ≡ Some c
      → (c.journal.place + k + 1 ≡ l.fn.count) × (slice_get l.fn.outs.items c.journal.place ≡ Some c.outs) × (slice_get l.fn.ins.items c.journal.place ≡ Some c.ins);
}
